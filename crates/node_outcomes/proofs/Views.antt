-- Each row of the views names nodes alone, and each message that it sends has a spelling.
use Rattle.std.proofs.Common.{ℕ, zero, suc, ◌-◌, ◌%◌, ◌^◌, ◌<◌, ◌≤◌, cond, not, ◌||◌, List, [], ◌∷◌, ◌++◌, length, map, take, drop, nat_eq, nat_lt, nat_le, slice_index_or, All, refl, arith}
use Rattle.std.specs.Int.{w16}
use Rattle.std.proofs.lemmas.Bool.{cond_both}
use Rattle.std.proofs.lemmas.List.{length-append, length-take}
use Rattle.std.proofs.lemmas.List.Elements.{All-nil, All-cons, All-head, All-tail, All-push, All-append, All-drop, All-filter, All-map, All-take, All-weaker}
use Rattle.meta_types.specs.Node.{IsNode}
use Rattle.frame_fields.specs.declared.neighbor.Priority.TheVariants.{Low, High}
use Rattle.frame_fields.specs.declared.neighbor.NeighborAnswer.TheVariants.{No, Yes}
use Rattle.frame_fields.specs.Form.{EachFits}
use Rattle.frame_fields.specs.Field.{forget, no_state, node, nodes}
use Rattle.frame_fields.proofs.Spellable.{number_fits, number_within}
use Rattle.meta_frame.specs.Frame.{IsMessage}
use Rattle.meta_frame.specs.declared.message.Message.{Message}
use Rattle.meta_frame.specs.declared.message.Message.TheVariants.{Join, ForwardJoin, Disconnect, Neighbor, NeighborReply, Shuffle, ShuffleReply, Bye}
use Rattle.peer_lists.specs.Lists.{has, without, put_last, without_all, choose, pick}
use Rattle.hyparview.specs.declared.event.ViewEvent.{ViewEvent}
use Rattle.hyparview.specs.declared.event.ViewEvent.TheVariants.{JoinThrough, Taken, PeerDown, ShuffleDue, Leave}
use Rattle.hyparview.specs.declared.event.ViewOut.{ViewOut}
use Rattle.hyparview.specs.declared.event.ViewOut.TheVariants.{Send, Up, Down}
use Rattle.hyparview.specs.Limits.{active_random_walk_length, active_view_size, passive_random_walk_length, passive_view_size, shuffle_active_count, shuffle_passive_count, shuffle_ttl}
use Rattle.hyparview.specs.Draft.{Draft, add_active, add_passive, drop_one, enter_active, enter_passive, forget_asked, is_known, is_self_or_active, leave_active, leave_passive, make_place, make_room, note_asked, remember_sent, send, send_each}
use Rattle.hyparview.specs.Rows.{ask, ask_another, end_walk, is_empty, is_walk_over, join_through, keep_midway, leave, make_room_from, member_to_replace, offer_to, on_disconnect, on_forward_join, on_join, on_message, on_neighbor_high, on_neighbor_low, on_neighbor_reply_no, on_neighbor_reply_yes, on_peer_down, on_shuffle, on_shuffle_due, on_shuffle_reply, priority_of, row, take_in, take_one, walks_on}
use Rattle.hyparview.specs.Views.{NodeViews, draft_after, draft_of}
use Rattle.node_overlay.proofs.Sendable.{answer_fits, node_fits, priority_fits}

-- ---- lists of nodes

pub All-without : (P : ℕ → Type 0) (x : ℕ) (xs : List ℕ) → All P xs → All P (without x xs)
All-without P x [] h = h
All-without P x (y ∷ ys) h =
    cond_both (nat_eq x y) ys (y ∷ without x ys) (All P) (λ _. All-tail P y ys h)
    (λ _. All-cons P y (without x ys) (All-head P y ys h) (All-without P x ys (All-tail P y ys h)))

pub All-put_last : (P : ℕ → Type 0) (x : ℕ) (xs : List ℕ) → P x → All P xs → All P (put_last x xs)
All-put_last P x xs is h = cond_both (has xs x) xs (xs ++ x ∷ []) (All P) (λ _. h) (λ _. All-push P xs x h is)

pub All-without_all : (P : ℕ → Type 0) (excluded xs : List ℕ) → All P xs → All P (without_all excluded xs)
All-without_all P excluded xs h = All-filter (λ x. not (has excluded x)) P xs h

-- an element, or what stands for it
pub index_all : {X : Type 0} (P : X → Type 0) (xs : List X) (i : ℕ) (d : X) → All P xs → P d → P (slice_index_or xs i d)
index_all P [] i d h k = k
index_all P (x ∷ xs) zero d h k = All-head P x xs h
index_all P (x ∷ xs) (suc i) d h k = index_all P xs i d (All-tail P x xs h) k

chosen : (word : ℕ) (xs : List ℕ) → All IsNode xs → IsNode (choose word xs)
chosen word xs h = index_all IsNode xs (word % length xs) 0 h (omega arith)

picked : (word count : ℕ) (xs : List ℕ) → All IsNode xs → All IsNode (pick word count xs)
picked word count xs h =
    let at = word % length xs in
    All-take IsNode count (drop at xs ++ take at xs)
    (All-append IsNode (drop at xs) (take at xs) (All-drop IsNode at xs h) (All-take IsNode at xs h))

few_picked : (word count : ℕ) (xs : List ℕ) → length (pick word count xs) ≤ count
few_picked word count xs =
    let all = drop (word % length xs) xs ++ take (word % length xs) xs in
    omega (arith, length-take count all)

-- ---- nodes as fields

pub node_in_range : (n : ℕ) → node.Fits n → IsNode n
node_in_range n fits = let most : n ≤ 15 = (number_within w16 0 15 n fits).most in omega arith

each_node_fits : (xs : List ℕ) → All IsNode xs → EachFits (λ (_ : ℕ). node) forget no_state xs
each_node_fits [] all = tt
each_node_fits (x ∷ xs) all = (node_fits x (All-head IsNode x xs all), each_node_fits xs (All-tail IsNode x xs all))

nodes_fit : (xs : List ℕ) → length xs ≤ 16 → All IsNode xs → nodes.Fits xs
nodes_fit xs few all = (number_fits w16 0 16 (length xs) (omega (arith, few)) (omega arith) few, (refl, each_node_fits xs all))

each_in_range : (xs : List ℕ) → EachFits (λ (_ : ℕ). node) forget no_state xs → All IsNode xs
each_in_range [] fits = All-nil IsNode
each_in_range (x ∷ xs) fits = All-cons IsNode x xs (node_in_range x fits.0) (each_in_range xs fits.1)

nodes_in_range : (xs : List ℕ) → nodes.Fits xs → All IsNode xs
nodes_in_range xs fits = each_in_range xs fits.1.1

few_nodes : (xs : List ℕ) → nodes.Fits xs → length xs ≤ 16
few_nodes xs fits = (number_within w16 0 16 (length xs) fits.0).most

fewer : (n m most : ℕ) → n ≤ m → m ≤ most → n ≤ most
fewer n m most one other = omega arith

-- ---- the views in the midst of a step

-- what is sent is spelled, and who comes is a node
abbrev pub IsSpelledOut : ViewOut → Type 0
IsSpelledOut (Send to message) = IsNode to × IsMessage message
IsSpelledOut (Up x) = IsNode x
IsSpelledOut (Down x) = Unit {0}

pub record Names (t : Draft) : Type 0 where
  pub node : IsNode t.node
  pub active : All IsNode t.active
  pub passive : All IsNode t.passive
  pub out : All IsSpelledOut t.out

Names-send : (to : ℕ) (m : Message) (t : Draft) → IsNode to → IsMessage m → Names t → Names (send to m t)
Names-send to m t is fits h = record {
  node = h.node;
  active = h.active;
  passive = h.passive;
  out = All-push IsSpelledOut t.out (Send to m) h.out (is, fits);
}

Names-send_each : (tos : List ℕ) (m : Message) (t : Draft) → All IsNode tos → IsMessage m → Names t → Names (send_each tos m t)
Names-send_each tos m t all fits h = record {
  node = h.node;
  active = h.active;
  passive = h.passive;
  out =
      All-append IsSpelledOut t.out (map (λ to. Send to m) tos) h.out
      (All-map IsSpelledOut (λ to. Send to m) tos
      (All-weaker IsNode (λ to. IsSpelledOut (Send to m)) (λ to is. (is, fits)) tos all));
}

Names-leave_active : (d : ℕ) (t : Draft) → Names t → Names (leave_active d t)
Names-leave_active d t h = record {
  node = h.node;
  active = All-without IsNode d t.active h.active;
  passive = h.passive;
  out = All-push IsSpelledOut t.out (Down d) h.out tt;
}

Names-leave_passive : (d : ℕ) (t : Draft) → Names t → Names (leave_passive d t)
Names-leave_passive d t h =
    record { node = h.node; active = h.active; passive = All-without IsNode d t.passive h.passive; out = h.out }

Names-enter_passive : (x : ℕ) (t : Draft) → IsNode x → Names t → Names (enter_passive x t)
Names-enter_passive x t is h =
    record { node = h.node; active = h.active; passive = All-put_last IsNode x t.passive is h.passive; out = h.out }

Names-enter_active : (x : ℕ) (t : Draft) → IsNode x → Names t → Names (enter_active x t)
Names-enter_active x t is h = record {
  node = h.node;
  active = All-put_last IsNode x t.active is h.active;
  passive = h.passive;
  out = All-push IsSpelledOut t.out (Up x) h.out is;
}

-- ---- AddPassive, AddActive and TakeIn

Names-make_room : (word : ℕ) (t : Draft) → Names t → Names (make_room word t)
Names-make_room word t h =
    cond_both (nat_lt (length t.passive) passive_view_size) t (leave_passive (choose word t.passive) t) Names
    (λ _. h) (λ _. Names-leave_passive (choose word t.passive) t h)

Names-add_passive : (word x : ℕ) (t : Draft) → IsNode x → Names t → Names (add_passive word x t)
unfolding add_passive
Names-add_passive word x t is h =
    cond_both (is_known x t) t (enter_passive x (make_room word t)) Names (λ _. h)
    (λ _. Names-enter_passive x (make_room word t) is (Names-make_room word t h))

Names-drop_one : (word : ℕ) (t : Draft) → Names t → Names (drop_one word t)
unfolding drop_one
Names-drop_one word t h =
    let d = choose word t.active in
    let is = chosen word t.active h.active in
    let told = send d Disconnect t in
    Names-add_passive word d (leave_active d told) is (Names-leave_active d told (Names-send d Disconnect t is refl h))

Names-make_place : (word : ℕ) (t : Draft) → Names t → Names (make_place word t)
unfolding make_place
Names-make_place word t h =
    cond_both (nat_lt (length t.active) active_view_size) t (drop_one word t) Names (λ _. h) (λ _. Names-drop_one word t h)

Names-add_active : (word x : ℕ) (t : Draft) → IsNode x → Names t → Names (add_active word x t)
unfolding add_active
Names-add_active word x t is h =
    let left = leave_passive x t in
    cond_both (is_self_or_active x t) t (enter_active x (make_place word left)) Names (λ _. h)
    (λ _. Names-enter_active x (make_place word left) is (Names-make_place word left (Names-leave_passive x t h)))

Names-take_one : (word : ℕ) (given : List ℕ) (x : ℕ) (t : Draft) → IsNode x → Names t → Names (take_one word given x t)
unfolding take_one
Names-take_one word given x t is h =
    let left = leave_passive (member_to_replace word given t.passive) t in
    cond_both (is_known x t) t (enter_passive x (make_room_from word given t)) Names (λ _. h)
    (λ _. Names-enter_passive x (make_room_from word given t) is
    (cond_both (nat_lt (length t.passive) passive_view_size) t left Names (λ _. h)
    (λ _. Names-leave_passive (member_to_replace word given t.passive) t h)))

Names-take_in : (word : ℕ) (given xs : List ℕ) (t : Draft) → All IsNode xs → Names t → Names (take_in word given xs t)
Names-take_in word given [] t all h = h
Names-take_in word given (x ∷ xs) t all h =
    Names-take_in word given xs (take_one word given x t) (All-tail IsNode x xs all)
    (Names-take_one word given x t (All-head IsNode x xs all) h)

-- ---- the rows

Names-ask : (word : ℕ) (t : Draft) → Names t → Names (ask word t)
unfolding ask
Names-ask word t h =
    let unasked = without_all t.asked t.passive in
    let q = choose word unasked in
    let m = Neighbor (priority_of t.active) in
    cond_both (is_empty unasked || nat_le active_view_size (length t.active)) (forget_asked t) (send q m (note_asked q t)) Names
    (λ _. record { node = h.node; active = h.active; passive = h.passive; out = h.out })
    (λ _. Names-send q m (note_asked q t) (chosen word unasked (All-without_all IsNode t.asked t.passive h.passive))
    (priority_fits (priority_of t.active))
    (record { node = h.node; active = h.active; passive = h.passive; out = h.out }))

Names-ask_another : (word from : ℕ) (t : Draft) → Names t → Names (ask_another word from t)
Names-ask_another word from t h = cond_both (has t.asked from) (ask word t) t Names (λ _. Names-ask word t h) (λ _. h)

Names-join_through : (word contact : ℕ) (t : Draft) → IsNode contact → Names t → Names (join_through word contact t)
unfolding join_through
Names-join_through word contact t is h =
    Names-send contact Join (add_active word contact t) is refl (Names-add_active word contact t is h)

Names-on_join : (word from : ℕ) (t : Draft) → IsNode from → Names t → Names (on_join word from t)
unfolding on_join
Names-on_join word from t is h =
    let u = add_active word from t in
    let added = Names-add_active word from t is h in
    Names-send_each (without_all (from ∷ []) u.active) (ForwardJoin from active_random_walk_length) u
    (All-without_all IsNode (from ∷ []) u.active added.active) (node_fits from is, omega arith) added

Names-end_walk : (word x : ℕ) (t : Draft) → IsNode x → Names t → Names (end_walk word x t)
unfolding end_walk
Names-end_walk word x t is h =
    cond_both (is_self_or_active x t) t (send x (Neighbor High) (add_active word x t)) Names (λ _. h)
    (λ _. Names-send x (Neighbor High) (add_active word x t) is (priority_fits High) (Names-add_active word x t is h))

Names-keep_midway : (word x ttl : ℕ) (t : Draft) → IsNode x → Names t → Names (keep_midway word x ttl t)
unfolding keep_midway
Names-keep_midway word x ttl t is h =
    cond_both (nat_eq ttl passive_random_walk_length) (add_passive word x t) t Names (λ _. Names-add_passive word x t is h) (λ _. h)

Names-on_forward_join : (word from x ttl : ℕ) (t : Draft) → IsMessage (ForwardJoin x ttl) → Names t
    → Names (on_forward_join word from x ttl t)
unfolding on_forward_join
Names-on_forward_join word from x ttl t fits h =
    let others = without_all (from ∷ x ∷ []) t.active in
    let kept = keep_midway word x ttl t in
    let onward = send (choose word others) (ForwardJoin x (ttl - 1)) kept in
    let is = node_in_range x fits.0 in
    let lower : ttl < 2 ^ 8 = fits.1 in
    cond_both (nat_eq x t.node) t (cond (is_walk_over ttl t.active others) (end_walk word x t) onward) Names (λ _. h)
    (λ _. cond_both (is_walk_over ttl t.active others) (end_walk word x t) onward Names (λ _. Names-end_walk word x t is h)
    (λ _. Names-send (choose word others) (ForwardJoin x (ttl - 1)) kept
    (chosen word others (All-without_all IsNode (from ∷ x ∷ []) t.active h.active)) (fits.0, omega (arith, lower))
    (Names-keep_midway word x ttl t is h)))

Names-on_disconnect : (word from : ℕ) (t : Draft) → IsNode from → Names t → Names (on_disconnect word from t)
unfolding on_disconnect
Names-on_disconnect word from t is h =
    cond_both (has t.active from) (add_passive word from (leave_active from t)) t Names
    (λ _. Names-add_passive word from (leave_active from t) is (Names-leave_active from t h)) (λ _. h)

Names-on_neighbor_high : (word from : ℕ) (t : Draft) → IsNode from → Names t → Names (on_neighbor_high word from t)
unfolding on_neighbor_high
Names-on_neighbor_high word from t is h =
    Names-send from (NeighborReply Yes) (add_active word from t) is (answer_fits Yes) (Names-add_active word from t is h)

Names-on_neighbor_low : (word from : ℕ) (t : Draft) → IsNode from → Names t → Names (on_neighbor_low word from t)
unfolding on_neighbor_low
Names-on_neighbor_low word from t is h =
    cond_both (has t.active from || nat_lt (length t.active) active_view_size) (on_neighbor_high word from t)
    (send from (NeighborReply No) t) Names
    (λ _. Names-on_neighbor_high word from t is h) (λ _. Names-send from (NeighborReply No) t is (answer_fits No) h)

Names-on_neighbor_reply_yes : (word from : ℕ) (t : Draft) → IsNode from → Names t → Names (on_neighbor_reply_yes word from t)
unfolding on_neighbor_reply_yes
Names-on_neighbor_reply_yes word from t is h =
    let added = Names-add_active word from t is h in
    record { node = added.node; active = added.active; passive = added.passive; out = added.out }

Names-on_neighbor_reply_no : (word from : ℕ) (t : Draft) → Names t → Names (on_neighbor_reply_no word from t)
unfolding on_neighbor_reply_no
Names-on_neighbor_reply_no word from t h = Names-ask_another word from t h

Names-on_peer_down : (word peer : ℕ) (t : Draft) → Names t → Names (on_peer_down word peer t)
unfolding on_peer_down
Names-on_peer_down word peer t h =
    let alone = forget_asked (leave_active peer t) in
    let left = leave_passive peer t in
    let gone = Names-leave_active peer t h in
    cond_both (has t.active peer) (ask word alone) (ask_another word peer left) Names
    (λ _. Names-ask word alone (record { node = gone.node; active = gone.active; passive = gone.passive; out = gone.out }))
    (λ _. Names-ask_another word peer left (Names-leave_passive peer t h))

Names-on_shuffle_due : (word : ℕ) (t : Draft) → Names t → Names (on_shuffle_due word t)
unfolding on_shuffle_due
Names-on_shuffle_due word t h =
    let to = choose word t.active in
    let neighbours = pick word shuffle_active_count (without_all (to ∷ []) t.active) in
    let reserve = pick word shuffle_passive_count t.passive in
    let offer = offer_to word to t in
    let m = Shuffle t.node shuffle_ttl offer in
    let few : length offer ≤ 16 =
    omega (
      arith,
      length-append neighbours reserve,
      few_picked word shuffle_active_count
          (without_all (to ∷ []) t.active),
      few_picked word shuffle_passive_count t.passive,
    ) in
    let all : All IsNode offer =
    All-append IsNode neighbours reserve
    (picked word shuffle_active_count (without_all (to ∷ []) t.active) (All-without_all IsNode (to ∷ []) t.active h.active))
    (picked word shuffle_passive_count t.passive h.passive) in
    cond_both (is_empty t.active) t (send to m (remember_sent offer t)) Names (λ _. h)
    (λ _. Names-send to m (remember_sent offer t) (chosen word t.active h.active)
    (node_fits t.node h.node, (omega arith, nodes_fit offer few all))
    (record { node = h.node; active = h.active; passive = h.passive; out = h.out }))

Names-on_shuffle : (word from origin ttl : ℕ) (ns : List ℕ) (t : Draft) → IsMessage (Shuffle origin ttl ns) → Names t
    → Names (on_shuffle word from origin ttl ns t)
unfolding on_shuffle
Names-on_shuffle word from origin ttl ns t fits h =
    let others = without_all (from ∷ origin ∷ []) t.active in
    let reply = pick word (length ns) t.passive in
    let onward = send (choose word others) (Shuffle origin (ttl - 1) ns) t in
    let replied = send origin (ShuffleReply reply) t in
    let taken = take_in word reply (origin ∷ ns) replied in
    let is = node_in_range origin fits.0 in
    let lower : ttl < 2 ^ 8 = fits.1.0 in
    let few = fewer (length reply) (length ns) 16 (few_picked word (length ns) t.passive) (few_nodes ns fits.1.1) in
    cond_both (nat_eq origin t.node) t (cond (walks_on ttl t.active others) onward taken) Names (λ _. h)
    (λ _. cond_both (walks_on ttl t.active others) onward taken Names
    (λ _. Names-send (choose word others) (Shuffle origin (ttl - 1) ns) t
    (chosen word others (All-without_all IsNode (from ∷ origin ∷ []) t.active h.active))
    (fits.0, (omega (arith, lower), fits.1.1)) h)
    (λ _. Names-take_in word reply (origin ∷ ns) replied (All-cons IsNode origin ns is (nodes_in_range ns fits.1.1))
    (Names-send origin (ShuffleReply reply) t is (nodes_fit reply few (picked word (length ns) t.passive h.passive)) h)))

Names-on_shuffle_reply : (word : ℕ) (ns : List ℕ) (t : Draft) → IsMessage (ShuffleReply ns) → Names t
    → Names (on_shuffle_reply word ns t)
unfolding on_shuffle_reply
Names-on_shuffle_reply word ns t fits h =
    let taken = Names-take_in word t.sent ns t (nodes_in_range ns fits) h in
    record { node = taken.node; active = taken.active; passive = taken.passive; out = taken.out }

each_down : (xs : List ℕ) → All (λ x. IsSpelledOut (Down x)) xs
each_down [] = All-nil (λ x. IsSpelledOut (Down x))
each_down (x ∷ xs) = All-cons (λ x. IsSpelledOut (Down x)) x xs tt (each_down xs)

Names-leave : (t : Draft) → Names t → Names (leave t)
unfolding leave
Names-leave t h =
    let told = send_each t.active Bye t in
    let u = Names-send_each t.active Bye t h.active refl h in
    record {
      node = h.node;
      active = All-nil IsNode;
      passive = All-nil IsNode;
      out =
          All-append IsSpelledOut told.out (map (λ x. Down x) t.active) u.out
          (All-map IsSpelledOut (λ x. Down x) t.active (each_down t.active));
    }

Names-on_message : (word from : ℕ) (m : Message) (t : Draft) → IsNode from → IsMessage m → Names t
    → Names (on_message word from m t)
Names-on_message word from Join t is fits h = Names-on_join word from t is h
Names-on_message word from (ForwardJoin x ttl) t is fits h = Names-on_forward_join word from x ttl t fits h
Names-on_message word from Disconnect t is fits h = Names-on_disconnect word from t is h
Names-on_message word from (Neighbor High) t is fits h = Names-on_neighbor_high word from t is h
Names-on_message word from (Neighbor Low) t is fits h = Names-on_neighbor_low word from t is h
Names-on_message word from (NeighborReply Yes) t is fits h = Names-on_neighbor_reply_yes word from t is h
Names-on_message word from (NeighborReply No) t is fits h = Names-on_neighbor_reply_no word from t h
Names-on_message word from (Shuffle origin ttl ns) t is fits h = Names-on_shuffle word from origin ttl ns t fits h
Names-on_message word from (ShuffleReply ns) t is fits h = Names-on_shuffle_reply word ns t fits h
Names-on_message word from Bye t is fits h = Names-on_peer_down word from t h
Names-on_message word from _ t is fits h = h

-- whom the event names is a node, and the message that it brings has a spelling
abbrev pub IsSpelledEvent : ViewEvent → Type 0
IsSpelledEvent (JoinThrough contact) = IsNode contact
IsSpelledEvent (Taken from message) = IsNode from × IsMessage message
IsSpelledEvent (PeerDown peer) = Unit {0}
IsSpelledEvent ShuffleDue = Unit {0}
IsSpelledEvent Leave = Unit {0}

Names-row : (word : ℕ) (e : ViewEvent) (t : Draft) → IsSpelledEvent e → Names t → Names (row word e t)
Names-row word (JoinThrough contact) t is h = Names-join_through word contact t is h
Names-row word (Taken from message) t is h = Names-on_message word from message t is.0 is.1 h
Names-row word (PeerDown peer) t is h = Names-on_peer_down word peer t h
Names-row word ShuffleDue t is h = Names-on_shuffle_due word t h
Names-row word Leave t is h = Names-leave t h

-- a step of views that name nodes alone
pub names_after : (e : ViewEvent) (word : ℕ) (v : NodeViews) → IsSpelledEvent e → IsNode v.node → All IsNode v.active
    → All IsNode v.passive
    → Names (draft_after e word v)
names_after e word v is own active passive =
    Names-row word e (draft_of v) is (record { node = own; active = active; passive = passive; out = All-nil IsSpelledOut })
