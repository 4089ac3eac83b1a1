-- The table of the views: what each event does, one definition for each row, in the table's order,
-- after the words TakeIn and Ask.
-- The rules are those of HyParView, with the numbers of `Limits`.
use Rattle.std.specs.Prelude.{ℕ, ◌-◌, Bool, not, ◌||◌, ◌&&◌, List, [], ◌∷◌, ◌++◌, length, nat_eq, nat_lt, nat_le, if◌then◌else◌}
use Rattle.std.specs.Option.{unwrap_or}
use Rattle.std.specs.List.{find}
use Rattle.frame_fields.specs.declared.neighbor.Priority.{Priority}
use Rattle.frame_fields.specs.declared.neighbor.Priority.TheVariants.{Low, High}
use Rattle.frame_fields.specs.declared.neighbor.NeighborAnswer.TheVariants.{No, Yes}
use Rattle.meta_frame.specs.declared.message.Message.{Message}
use Rattle.meta_frame.specs.declared.message.Message.TheVariants.{Join, ForwardJoin, Disconnect, Neighbor, NeighborReply, Shuffle, ShuffleReply, Bye}
use Rattle.hyparview.specs.declared.event.ViewEvent.{ViewEvent}
use Rattle.hyparview.specs.declared.event.ViewEvent.TheVariants.{JoinThrough, Taken, PeerDown, ShuffleDue, Leave}
use Rattle.peer_lists.specs.Lists.{has, without_all, choose, pick}
use Rattle.hyparview.specs.Limits.{active_view_size, passive_view_size, active_random_walk_length, passive_random_walk_length, shuffle_ttl, shuffle_active_count, shuffle_passive_count}
use Rattle.hyparview.specs.Draft.{Draft, send, send_each, remember_sent, forget_asked, forget_passive, note_asked, enter_passive, leave_active, all_leave_active, leave_passive, is_self_or_active, is_known, add_active, add_passive}
use Rattle.meta_types.specs.Chain.{◌▷◌}

abbrev pub is_empty : List ℕ → Bool
is_empty xs = nat_eq (length xs) 0

-- ---- TakeIn: each node that a shuffle brought goes into the passive view as by AddPassive, but a
-- full view loses the first of those given away that is in it, or a random member if none is

unfoldable pub member_to_replace : ℕ → List ℕ → List ℕ → ℕ
member_to_replace word given passive = unwrap_or (find (has passive) given) (choose word passive)

abbrev pub make_room_from : ℕ → List ℕ → Draft → Draft
make_room_from word given t =
    if nat_lt (length t.passive) passive_view_size
    then t
    else (t ▷ leave_passive (member_to_replace word given t.passive))

unfoldable pub take_one : ℕ → List ℕ → ℕ → Draft → Draft
take_one word given x t =
    if is_known x t then t else (t ▷ make_room_from word given ▷ enter_passive x)

abbrev pub take_in : ℕ → List ℕ → List ℕ → Draft → Draft
take_in word given [] t = t
take_in word given (x ∷ xs) t = take_in word given xs (take_one word given x t)

-- ---- Ask: a random member of the passive view that wasn't asked before is asked for a place; if
-- none is left, or no place is free, the node forgets whom it asked

-- high exactly if the node has no neighbour
abbrev pub priority_of : List ℕ → Priority
priority_of active = if is_empty active then High else Low

unfoldable pub ask : ℕ → Draft → Draft
ask word t =
    let unasked = without_all t.asked t.passive in
    let q = choose word unasked in
    if is_empty unasked || nat_le active_view_size (length t.active)
    then forget_asked t
    else (t ▷ note_asked q ▷ send q (Neighbor (priority_of t.active)))

abbrev pub ask_another : ℕ → ℕ → Draft → Draft
ask_another word from t = if has t.asked from then ask word t else t

-- ---- the node joins through a contact

unfoldable pub join_through : ℕ → ℕ → Draft → Draft
join_through word contact t = t ▷ add_active word contact ▷ send contact Join

-- ---- JOIN: the other neighbours hear of it

abbrev pub announce : ℕ → Draft → Draft
announce x t =
    send_each (without_all (x ∷ []) t.active) (ForwardJoin x active_random_walk_length) t

unfoldable pub on_join : ℕ → ℕ → Draft → Draft
on_join word from t = t ▷ add_active word from ▷ announce from

-- ---- FORWARDJOIN: a join walks on to a random neighbour, and some steps before its end the node
-- that joined is kept in reserve; at its end it becomes a neighbour

-- the walk ends here: `others` are the neighbours to whom it could go on
abbrev pub is_walk_over : ℕ → List ℕ → List ℕ → Bool
is_walk_over ttl active others = nat_eq ttl 0 || nat_le (length active) 1 || is_empty others

unfoldable pub end_walk : ℕ → ℕ → Draft → Draft
end_walk word x t =
    if is_self_or_active x t then t else (t ▷ add_active word x ▷ send x (Neighbor High))

unfoldable pub keep_midway : ℕ → ℕ → ℕ → Draft → Draft
keep_midway word x ttl t =
    if nat_eq ttl passive_random_walk_length then add_passive word x t else t

unfoldable pub on_forward_join : ℕ → ℕ → ℕ → ℕ → Draft → Draft
on_forward_join word from x ttl t =
    let others = without_all (from ∷ x ∷ []) t.active in
    if nat_eq x t.node then t
    else if is_walk_over ttl t.active others then end_walk word x t
    else (t ▷ keep_midway word x ttl ▷ send (choose word others) (ForwardJoin x (ttl - 1)))

-- ---- DISCONNECT

unfoldable pub on_disconnect : ℕ → ℕ → Draft → Draft
on_disconnect word from t =
    if has t.active from then (t ▷ leave_active from ▷ add_passive word from) else t

-- ---- NEIGHBOR high, which is never refused

unfoldable pub on_neighbor_high : ℕ → ℕ → Draft → Draft
on_neighbor_high word from t = t ▷ add_active word from ▷ send from (NeighborReply Yes)

-- ---- NEIGHBOR low, which is refused if there is no place and the sender is no neighbour

unfoldable pub on_neighbor_low : ℕ → ℕ → Draft → Draft
on_neighbor_low word from t =
    if has t.active from || nat_lt (length t.active) active_view_size
    then on_neighbor_high word from t
    else send from (NeighborReply No) t

-- ---- NEIGHBORREPLY yes, which counts from anybody

unfoldable pub on_neighbor_reply_yes : ℕ → ℕ → Draft → Draft
on_neighbor_reply_yes word from t = t ▷ add_active word from ▷ forget_asked

-- ---- NEIGHBORREPLY no, which counts only from a node that was asked

unfoldable pub on_neighbor_reply_no : ℕ → ℕ → Draft → Draft
on_neighbor_reply_no word from t = ask_another word from t

-- ---- a peer is down, or says BYE

unfoldable pub on_peer_down : ℕ → ℕ → Draft → Draft
on_peer_down word peer t =
    if has t.active peer
    then (t ▷ leave_active peer ▷ forget_asked ▷ ask word)
    else (t ▷ leave_passive peer ▷ ask_another word peer)

-- ---- a shuffle is due: some members of both views go to a random neighbour

abbrev pub offer_to : ℕ → ℕ → Draft → List ℕ
offer_to word to t =
    pick word shuffle_active_count (without_all (to ∷ []) t.active)
    ++ pick word shuffle_passive_count t.passive

unfoldable pub on_shuffle_due : ℕ → Draft → Draft
on_shuffle_due word t =
    let to = choose word t.active in
    let offer = offer_to word to t in
    if is_empty t.active then t
    else (t ▷ remember_sent offer ▷ send to (Shuffle t.node shuffle_ttl offer))

-- ---- SHUFFLE: it walks on to a random neighbour; at its end the origin is sent as many members of
-- the passive view as the shuffle lists, and what the shuffle brought is taken in for them

abbrev pub walks_on : ℕ → List ℕ → List ℕ → Bool
walks_on ttl active others = nat_le 2 ttl && nat_lt 1 (length active) && not (is_empty others)

unfoldable pub on_shuffle : ℕ → ℕ → ℕ → ℕ → List ℕ → Draft → Draft
on_shuffle word from origin ttl nodes t =
    let others = without_all (from ∷ origin ∷ []) t.active in
    let reply = pick word (length nodes) t.passive in
    if nat_eq origin t.node then t
    else if walks_on ttl t.active others
    then send (choose word others) (Shuffle origin (ttl - 1) nodes) t
    else (t ▷ send origin (ShuffleReply reply) ▷ take_in word reply (origin ∷ nodes))

-- ---- SHUFFLEREPLY

unfoldable pub on_shuffle_reply : ℕ → List ℕ → Draft → Draft
on_shuffle_reply word nodes t = t ▷ take_in word t.sent nodes ▷ remember_sent []

-- ---- the node leaves: each neighbour hears BYE, and the node knows nobody

unfoldable pub leave : Draft → Draft
leave t =
    t ▷ send_each t.active Bye ▷ all_leave_active
    ▷ forget_passive ▷ forget_asked ▷ remember_sent []

-- ---- the whole table

-- a message that came; the kinds of the broadcast and of the exchange do nothing, nor does HELLO
abbrev pub on_message : ℕ → ℕ → Message → Draft → Draft
on_message word from Join = on_join word from
on_message word from (ForwardJoin x ttl) = on_forward_join word from x ttl
on_message word from Disconnect = on_disconnect word from
on_message word from (Neighbor High) = on_neighbor_high word from
on_message word from (Neighbor Low) = on_neighbor_low word from
on_message word from (NeighborReply Yes) = on_neighbor_reply_yes word from
on_message word from (NeighborReply No) = on_neighbor_reply_no word from
on_message word from (Shuffle origin ttl nodes) = on_shuffle word from origin ttl nodes
on_message word from (ShuffleReply nodes) = on_shuffle_reply word nodes
on_message word from Bye = on_peer_down word from
on_message word from _ = λ t. t

abbrev pub row : ℕ → ViewEvent → Draft → Draft
row word (JoinThrough contact) = join_through word contact
row word (Taken from message) = on_message word from message
row word (PeerDown peer) = on_peer_down word peer
row word ShuffleDue = on_shuffle_due word
row word Leave = leave
