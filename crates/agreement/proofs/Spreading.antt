-- A write goes from node to node along a tree of eager peers.
use Rattle.std.proofs.Common.{◌≡◌, ◌≢◌, ℕ, ◌+◌, ◌<◌, Bool, true, false, eqb, List, [], ◌∷◌, ◌++◌, length, length-append, append-nil, append_assoc, map, All, Some, Ok, ⊎_elim, refl, sym, ap, subst, ◌∙◌, arith, unwrap_or}
use Rattle.std.specs.List.{IsDistinct}
use Rattle.std.specs.Prelude.{nat_eq}
use Rattle.std.proofs.lemmas.Bool.{false≢true, eq-eqb, eqb-true, false_from_ne_true, not_from_false, or_cases, or_parts, or_right}
use Rattle.std.proofs.lemmas.List.{length-map, map-append}
use Rattle.std.proofs.lemmas.List.Elements.{All-append, All-cons, All-nil}
use Rattle.std.proofs.lemmas.List.FromFn.{length-range_with_len}
use Rattle.meta_types.specs.Name.{Key}
use Rattle.meta_types.specs.Value.{ValueParts}
use Rattle.dvvset.specs.Object.{Entry}
use Rattle.dvvset.specs.Clock.{join, sync}
use Rattle.meta_frame.specs.declared.message.Frame.{Frame}
use Rattle.meta_frame.specs.declared.message.Message.TheVariants.{Gossip}
use Rattle.meta_frame.specs.Frame.{Spells, spelling}
use Rattle.meta_store.specs.Step.{merge_of}
use Rattle.meta_store.specs.Table.{is_stale, object_at, with_object}
use Rattle.meta_store.proofs.Tables.{object_at-elsewhere, object_at-here}
use Rattle.peer_lists.specs.Lists.{has, without_all}
use Rattle.past_model.specs.declared.happening.Happening.{Happening}
use Rattle.past_model.specs.History.{IsHistory}
use Rattle.past_model.specs.Past.{known, writes}
use Rattle.past_model.specs.Sets.{IsSubset, union}
use Rattle.past_model.specs.Shown.{IsObjectOf}
use Rattle.past_model.proofs.Merging.{same_set, sync_object}
use Rattle.past_model.proofs.Order.{descends-subset}
use Rattle.past_model.proofs.Placed.{ordered}
use Rattle.past_model.proofs.Sound.{orderly}
use Rattle.plumtree.specs.Rows.{next_round}
use Rattle.node_events.specs.Event.{stored_key}
use Rattle.node_events.specs.declared.event.NodeEvent.{NodeEvent}
use Rattle.node_events.specs.declared.event.NodeEvent.TheVariants as OfNode
use Rattle.node_overlay.specs.Outbox.{count_on, frames_from}
use Rattle.node_overlay.specs.Overlay.{envelope}
use Rattle.node_core.specs.Rows.{is_fresh}
use Rattle.restart_images.specs.Node.{ImagedNode, arrived}
use Rattle.world_core.specs.declared.answer.Accepted.{Accepted}
use Rattle.world_core.specs.declared.answer.Answer.{Answer}
use Rattle.world_core.specs.declared.answer.FrameNumbers.{FrameNumbers}
use Rattle.world_core.specs.declared.event.Event.{Event}
use Rattle.world_core.specs.declared.event.Event.TheVariants as events
use Rattle.world_core.specs.Numbers.{numbered}
use Rattle.world_core.specs.Outcome.{MakesStep, Outcome, next_frames}
use Rattle.world_core.specs.Refusal.{node_at, table_at}
use Rattle.world_core.specs.Tells.{Pairwise}
use Rattle.world_core.specs.World.{World}
use Rattle.world_core.proofs.Lists.{pairwise_append, pairwise_map}
use Rattle.world_core.proofs.Refusing.{has_node}
use Rattle.agreement.specs.Broadcast.{DeliverInAnyOrder, DeliversOne, IsGossipOf, IsWriteOf, SendsGossip, eager_of}
use Rattle.agreement.specs.Rounds.{Exchange, Known, count_known}
use Rattle.agreement.specs.Tree.{IsTree, after_passing_all, are_joined, has_edge, is_in, outwards}
use Rattle.agreement.specs.World.{AcceptsAll, IsDeliveryOf, numbers_of}
use Rattle.agreement.proofs.Along.{count_more, count_tree}
use Rattle.agreement.proofs.Frontier.{IsFrontier, and_also, edge_from, edge_in, edge_to, edges_to, first_frontier, next_frontier, root_in, was_due}
use Rattle.agreement.proofs.Gossiping.{Spreads, TakesGossip, gossips, takes_gossip}
use Rattle.agreement.proofs.Moving.{as_many, at_each, here, others, sent_numbers}
use Rattle.agreement.proofs.Pending.{IsPending, envelopes_pending, mapped, pending_longer, unmapped}
use Rattle.agreement.proofs.Passing.{all_reached, along_edge, or-swap, root_stays}
use Rattle.agreement.proofs.Writing.{Wrote, wrote_by, writer_low}

-- ---- lists

-- what stands beside one of a list, and beside those before and behind it
record SplitAt {A B : Type 0} (P : A → B → Type 0) (front : List A) (x : A) (back : List A) (ys : List B) : Type 0 where
  before : List B
  y : B
  behind : List B
  is : ys ≡ before ++ y ∷ behind
  in_front : Pairwise P front before
  here : P x y
  in_back : Pairwise P back behind

split_at : {A B : Type 0} (P : A → B → Type 0) (front : List A) (x : A) (back : List A) (ys : List B) → Pairwise P (front ++ x ∷ back) ys → SplitAt P front x back ys
split_at P [] x back [] all = absurd all
split_at P [] x back (y ∷ ys) all = record { before = []; y = y; behind = ys; is = refl; in_front = tt; here = all.0; in_back = all.1 }
split_at P (w ∷ front) x back [] all = absurd all
split_at P (w ∷ front) x back (y ∷ ys) all =
    let rest = split_at P front x back ys all.1 in
    record { before = y ∷ rest.before; y = rest.y; behind = rest.behind; is = ap (λ l. y ∷ l) rest.is; in_front = (all.0, rest.in_front); here = rest.here; in_back = rest.in_back }

-- the frames of an object for peers are GOSSIP of its key
all_gossip : (node count round : ℕ) (key : Key) (object : List Entry) (peers : List ℕ) → All (λ (f : Frame). IsGossipOf key f.message) (frames_from node count (gossips round key object peers))
all_gossip node count round key object [] = All-nil (λ (f : Frame). IsGossipOf key f.message)
all_gossip node count round key object (to ∷ peers) = All-cons (λ (f : Frame). IsGossipOf key f.message) _ _ refl (all_gossip node (count_on count 1) round key object peers)

-- ---- a world in the midst

module _ (hs : List Happening) (history : IsHistory hs) (key : Key) (root : ℕ) (edges : List Exchange) (tree : IsTree root edges) (before first : World) where
  -- what the nodes knew under the key, and what passing it on leaves them
  abbrev knew : Known
  knew n p = known hs n key p

  abbrev learns : Known
  learns = after_passing_all knew (outwards edges)

  -- a frame on its way along the edge, with the object of what the one knows at the end
  pub record IsOnItsWay (w : World) (number : ℕ) (e : Exchange) : Type 0 where
    pub round : ℕ
    pub object : List Entry
    pub pending : IsPending w e.one e.other number (Gossip round key object)
    pub of : IsObjectOf (writes hs) key (after_passing_all (λ n p. known hs n key p) (outwards edges) e.one) object

  -- some nodes were reached, and frames are on their way along the edges that are due
  pub record Spreading (numbers : List ℕ) (made : ℕ) (w : World) : Type 0 where
    pub reached : ℕ → Bool
    pub due : List Exchange
    pub many : length w.nodes ≡ length first.nodes
    pub its_number : (n : ℕ) → n < length first.nodes → (node_at w n).state.node ≡ n
    pub eager : (n : ℕ) → eager_of w n ≡ eager_of first n
    pub held : (n : ℕ) → n < length first.nodes → reached n ≡ true
        → IsObjectOf (writes hs) key (after_passing_all (λ n p. known hs n key p) (outwards edges) n) (object_at (table_at w n) key)
    pub other_keys : (n : ℕ) (l : Key) → l ≢ key → object_at (table_at w n) l ≡ object_at (table_at first n) l
    pub untouched : (n : ℕ) → reached n ≡ false → node_at w n ≡ node_at first n
    pub pending : Pairwise (IsOnItsWay w) numbers due
    pub frontier : IsFrontier edges reached due
    pub in_tree : (n : ℕ) → reached n ≡ true → is_in root edges n ≡ true
    pub root_reached : reached root ≡ true
    pub counted : count_known (length first.nodes) reached ≡ made + 1
    pub sent : SendsGossip before w key (made + length numbers)

  -- what is on its way stays so when more is sent
  longer : (old new : World) (more : List (List ℕ)) → new.frames ≡ old.frames ++ more → (number : ℕ) (e : Exchange) → IsOnItsWay old number e → IsOnItsWay new number e
  longer old new more frames number e is = record {
    round = is.round;
    object = is.object;
    pending = (pending_longer old new more frames e.one e.other (number ∷ []) (Gossip is.round key is.object ∷ []) (is.pending, tt)).0;
    of = is.of;
  }

  -- what a step sent to peers is on its way
  module _ (old new : World) (its : ℕ) (answer : Answer) (step : NodeEvent) (makes : MakesStep old its step answer new) (low : its < length old.nodes)
      (number : (node_at old its).state.node ≡ its) (object : List Entry) (round : ℕ) (peers : List ℕ)
      (spreads : Spreads (node_at old its).state makes.state makes.given key object round peers) where
    abbrev given : List Entry
    given = object_at (with_object key object (table_at old its)) key

    abbrev frames : List Frame
    frames = frames_from (node_at old its).state.node (node_at old its).state.frames (gossips round key given peers)

    new_frames : new.frames ≡ old.frames ++ map spelling frames
    new_frames = makes.frames ∙ ap (λ more. old.frames ++ more) spreads.sent

    new_numbers : answer.sent ≡ next_frames old (length (map spelling frames))
    new_numbers = sent_numbers old new its answer step makes low ∙ ap (λ (more : List (List ℕ)). next_frames old (length more)) spreads.sent

    on_their_way : IsObjectOf (writes hs) key (learns its) (object_at (with_object key object (table_at old its)) key) → Pairwise (IsOnItsWay new) (numbers_of answer.sent) (edges_to its peers)
    on_their_way of =
        subst (λ (sent : FrameNumbers). Pairwise (IsOnItsWay new) (numbers_of sent) (edges_to its peers)) (sym new_numbers)
        (mapped (IsOnItsWay new) (edge_to its) _ peers
        (pairwise_map (λ n to. IsPending new its to n (Gossip round key given)) (λ n to. IsOnItsWay new n (edge_to its to))
        (λ n to is. record { round = round; object = given; pending = is; of = of }) _ peers
        (subst (λ i. Pairwise (λ n to. IsPending new i to n (Gossip round key given)) (numbers_of (next_frames old (length (map spelling frames)))) peers) number
        (unmapped (λ n e. IsPending new (node_at old its).state.node e.to n e.message) (λ to. envelope to (Gossip round key given)) _ peers
        (envelopes_pending new (node_at old its).state.node (gossips round key given peers) (node_at old its).state.frames old.frames new_frames spreads.lawful)))))

    -- and is counted
    sends_more : (count : ℕ) → SendsGossip before old key count → SendsGossip before new key (count + length (numbers_of answer.sent))
    sends_more count s =
        let long : length (numbers_of answer.sent) ≡ length (map spelling frames) =
        length-range_with_len answer.sent.first answer.sent.count ∙ ap (λ (sent : FrameNumbers). sent.count) new_numbers in
        let same : length (map spelling frames) ≡ length frames = length-map frames spelling in
        let both : length (s.frames ++ frames) ≡ length s.frames + length frames = length-append s.frames frames in
        let was : length s.frames ≡ count = s.counted in
        record {
          frames = s.frames ++ frames;
          gossip = All-append (λ (f : Frame). IsGossipOf key f.message) s.frames frames s.gossip (all_gossip (node_at old its).state.node (node_at old its).state.frames round key given peers);
          counted = omega (arith, long, same, both, was);
          sent = new_frames ∙ ap (λ fs. fs ++ map spelling frames) s.sent ∙ append_assoc before.frames (map spelling s.frames) (map spelling frames)
              ∙ ap (λ fs. before.frames ++ fs) (sym (map-append spelling s.frames frames));
        }

  -- ---- what is so from the first

  -- the eager peers of the tree's nodes are those that an edge joins them with, each once; each node
  -- holds the object of what it knew; and the root knew a write that no other node knew
  pub record IsBegun : Type 0 where
    pub joined : (n m : ℕ) → is_in root edges n ≡ true → has (eager_of first n) m ≡ are_joined edges n m
    pub distinct : (n : ℕ) → n < length first.nodes → IsDistinct nat_eq (eager_of first n)
    pub its_number : (n : ℕ) → n < length first.nodes → (node_at first n).state.node ≡ n
    pub held : (n : ℕ) → n < length first.nodes → IsObjectOf (writes hs) key (λ p. known hs n key p) (object_at (table_at first n) key)
    pub place : ℕ
    pub root_knew : known hs root key place ≡ true
    pub alone : (n : ℕ) → n ≢ root → known hs n key place ≡ false

  -- ---- one delivery

  -- a GOSSIP is on its way to a node that wasn't reached
  module _ (b : IsBegun) (numbers : List ℕ) (made : ℕ) (w : World) (s : Spreading numbers made w) (e : Exchange) (edge : has_edge edges e.one e.other ≡ true) (out : s.reached e.other ≡ false)
      (low : e.other < length first.nodes) (came : List Entry) (of : IsObjectOf (writes hs) key (after_passing_all (λ n p. known hs n key p) (outwards edges) e.one) came) where
    -- which holds what it held at first
    holds : IsObjectOf (writes hs) key (knew e.other) (object_at (table_at w e.other) key)
    holds = subst (λ (n : ImagedNode). IsObjectOf (writes hs) key (knew e.other) (object_at n.state.table key)) (sym (s.untouched e.other out)) (b.held e.other low)

    -- so the object is fresh there
    is_new : is_fresh key came (node_at w e.other).state ≡ true
    is_new =
        not_from_false (is_stale (table_at w e.other) key (join came)) (false_from_ne_true (is_stale (table_at w e.other) key (join came)) (λ stale.
        let within : IsSubset (learns e.one) (knew e.other) =
        (descends-subset (writes hs) key (learns e.one) (knew e.other) came (object_at (table_at w e.other) key) (ordered hs).falling of holds).0 stale in
        let there : learns e.one b.place ≡ true = all_reached knew root edges tree e.one b.place (edge_from root edges tree e.one e.other edge) b.root_knew in
        let apart : e.other ≢ root = λ same. false≢true (sym out ∙ ap s.reached same ∙ s.root_reached) in
        false≢true (sym (b.alone e.other apart) ∙ within.within b.place there)))

    -- and merged it is the object of what the node then knows
    merges : IsObjectOf (writes hs) key (learns e.other) (object_at (with_object key (merge_of (table_at w e.other) key came) (table_at w e.other)) key)
    merges =
        subst (IsObjectOf (writes hs) key (learns e.other)) (sym (object_at-here key (merge_of (table_at w e.other) key came) (table_at w e.other)))
        (same_set (writes hs) key (union (knew e.other) (learns e.one)) (learns e.other) (sync (object_at (table_at w e.other) key) came)
        (λ p. or-swap (knew e.other p) (learns e.one p) ∙ sym (along_edge knew root edges tree e.one e.other p edge))
        (sync_object (writes hs) key (knew e.other) (learns e.one) (object_at (table_at w e.other) key) came (orderly hs history) holds of))

    -- its eager peers have the sender
    from_peer : has (eager_of w e.other) e.one ≡ true
    from_peer =
        ap (λ peers. has peers e.one) (s.eager e.other)
        ∙ b.joined e.other e.one (edge_in root edges e.one e.other edge)
        ∙ or_right (has_edge edges e.other e.one) (has_edge edges e.one e.other) edge

  -- it is delivered there
  module _ (b : IsBegun) (front : List ℕ) (number : ℕ) (back : List ℕ) (made : ℕ) (w : World) (s : Spreading (front ++ number ∷ back) made w) (sp : SplitAt (IsOnItsWay w) front number back s.due)
      (next : World) (answer : Answer) (step : NodeEvent) (makes : MakesStep w sp.y.other step answer next) (low : sp.y.other < length w.nodes)
      (took : TakesGossip (node_at w sp.y.other).state sp.y.one sp.y.other sp.here.round key sp.here.object makes.state makes.given) where
    abbrev e : Exchange
    e = sp.y

    abbrev peers : List ℕ
    peers = eager_of w e.other

    less : e.other < length first.nodes
    less = subst (λ c. e.other < c) s.many low

    frontier : IsFrontier edges s.reached (sp.before ++ e ∷ sp.behind)
    frontier = subst (IsFrontier edges s.reached) sp.is s.frontier

    was : (has_edge edges e.one e.other ≡ true) × ((s.reached e.one ≡ true) × (s.reached e.other ≡ false))
    was = was_due root edges tree s.reached sp.before sp.behind e frontier

    merged : List Entry
    merged = merge_of (table_at w e.other) key sp.here.object

    spreads : Spreads (node_at w e.other).state makes.state makes.given key (merge_of (table_at w e.other) key sp.here.object) (next_round sp.here.round) (without_all (e.one ∷ []) peers)
    spreads =
        took.spreads (from_peer b (front ++ number ∷ back) made w s e was.0 was.1.1 less sp.here.object sp.here.of)
        (is_new b (front ++ number ∷ back) made w s e was.0 was.1.1 less sp.here.object sp.here.of)

    joined : (m : ℕ) → has peers m ≡ are_joined edges e.other m
    joined m = ap (λ xs. has xs m) (s.eager e.other) ∙ b.joined e.other m (edge_in root edges e.one e.other was.0)

    distinct : IsDistinct nat_eq peers
    distinct = subst (IsDistinct nat_eq) (sym (s.eager e.other)) (b.distinct e.other less)

    of_merged : IsObjectOf (writes hs) key (learns e.other) (object_at (with_object key (merge_of (table_at w e.other) key sp.here.object) (table_at w e.other)) key)
    of_merged = merges b (front ++ number ∷ back) made w s e was.0 was.1.1 less sp.here.object sp.here.of

    -- a node that was reached before is another
    other_node : (m : ℕ) → s.reached m ≡ true → m ≢ e.other
    other_node m reached same = false≢true (sym was.1.1 ∙ ap s.reached (sym same) ∙ reached)

    held_on : (m : ℕ) → m < length first.nodes → and_also e.other s.reached m ≡ true → IsObjectOf (writes hs) key (learns m) (object_at (table_at next m) key)
    held_on m lower reached =
        ⊎_elim
        (λ same.
        subst (λ i. IsObjectOf (writes hs) key (learns i) (object_at (table_at next i) key)) (sym (eqb-true m e.other same))
        (subst (λ t. IsObjectOf (writes hs) key (learns e.other) (object_at t key)) (sym (ap (λ (n : ImagedNode). n.state.table) (here w next e.other answer step makes low) ∙ spreads.table)) of_merged))
        (λ old.
        subst (λ (n : ImagedNode). IsObjectOf (writes hs) key (learns m) (object_at n.state.table key)) (sym (others w next e.other answer step makes low m (other_node m old)))
        (s.held m lower old))
        (or_cases (eqb m e.other) (s.reached m) reached)

    delivered_there : Spreading ((front ++ back) ++ numbers_of answer.sent) (made + 1) next
    delivered_there =
        let old : Pairwise (IsOnItsWay next) (front ++ back) (sp.before ++ sp.behind) =
        pairwise_append (IsOnItsWay next) front back sp.before sp.behind
        (pairwise_map (IsOnItsWay w) (IsOnItsWay next) (longer w next makes.given.outbox makes.frames) front sp.before sp.in_front)
        (pairwise_map (IsOnItsWay w) (IsOnItsWay next) (longer w next makes.given.outbox makes.frames) back sp.behind sp.in_back) in
        let was_long : length (front ++ number ∷ back) ≡ length front + length (number ∷ back) = length-append front (number ∷ back) in
        let is_long : length ((front ++ back) ++ numbers_of answer.sent) ≡ length (front ++ back) + length (numbers_of answer.sent) = length-append (front ++ back) (numbers_of answer.sent) in
        let left_long : length (front ++ back) ≡ length front + length back = length-append front back in
        let count : (made + length (front ++ number ∷ back)) + length (numbers_of answer.sent) ≡ (made + 1) + length ((front ++ back) ++ numbers_of answer.sent) =
        omega (arith, was_long, is_long, left_long) in
        let more : count_known (length first.nodes) (and_also e.other s.reached) ≡ count_known (length first.nodes) s.reached + 1 = count_more (length first.nodes) e.other s.reached less was.1.1 in
        let so_far : count_known (length first.nodes) s.reached ≡ made + 1 = s.counted in
        record {
          reached = and_also e.other s.reached;
          due = (sp.before ++ sp.behind) ++ edges_to e.other (without_all (e.one ∷ []) peers);
          many = as_many w next e.other answer step makes low ∙ s.many;
          its_number = at_each w next e.other answer step makes low (λ m (n : ImagedNode). m < length first.nodes → n.state.node ≡ m) (λ lower. spreads.node ∙ s.its_number e.other lower) s.its_number;
          eager = at_each w next e.other answer step makes low (λ m (n : ImagedNode). n.state.overlay.cast.eager ≡ eager_of first m) (spreads.eager ∙ s.eager e.other) s.eager;
          held = held_on;
          other_keys = at_each w next e.other answer step makes low (λ m (n : ImagedNode). (l : Key) → l ≢ key → object_at n.state.table l ≡ object_at (table_at first m) l)
              (λ l apart. ap (λ t. object_at t l) spreads.table ∙ object_at-elsewhere key (merge_of (table_at w e.other) key sp.here.object) (table_at w e.other) l apart ∙ s.other_keys e.other l apart) s.other_keys;
          untouched = λ m out.
              let parts = or_parts (eqb m e.other) (s.reached m) out in
              others w next e.other answer step makes low m (λ same. false≢true (sym parts.0 ∙ eq-eqb m e.other same)) ∙ s.untouched m parts.1;
          pending = pairwise_append (IsOnItsWay next) (front ++ back) (numbers_of answer.sent) (sp.before ++ sp.behind) (edges_to e.other (without_all (e.one ∷ []) peers)) old
              (on_their_way w next e.other answer step makes low (s.its_number e.other less) (merge_of (table_at w e.other) key sp.here.object) (next_round sp.here.round) (without_all (e.one ∷ []) peers) spreads of_merged);
          frontier = next_frontier root edges tree s.reached sp.before sp.behind e frontier peers distinct joined;
          in_tree = λ m reached. ⊎_elim
              (λ same. ap (is_in root edges) (eqb-true m e.other same) ∙ edge_in root edges e.one e.other was.0)
              (λ old. s.in_tree m old)
              (or_cases (eqb m e.other) (s.reached m) reached);
          root_reached = or_right (eqb root e.other) (s.reached root) s.root_reached;
          counted = omega (arith, more, so_far);
          sent = subst (SendsGossip before next key) count
              (sends_more w next e.other answer step makes low (s.its_number e.other less) (merge_of (table_at w e.other) key sp.here.object) (next_round sp.here.round) (without_all (e.one ∷ []) peers) spreads
              (made + length (front ++ number ∷ back)) s.sent);
        }

  -- the event delivers it
  delivered : (b : IsBegun) (front : List ℕ) (number : ℕ) (back : List ℕ) (made : ℕ) (w : World) → Spreading (front ++ number ∷ back) made w
      → (next : World) (event : Event) (answer : Answer) → IsDeliveryOf number event → Outcome w event (Ok answer) next → Spreading ((front ++ back) ++ numbers_of answer.sent) (made + 1) next
  unfolding Outcome
  delivered b front number back made w s next (events.Deliver f n word) answer same accepts =
      let sp : SplitAt (IsOnItsWay w) front number back s.due = split_at (IsOnItsWay w) front number back s.due s.pending in
      let p : IsPending w sp.y.one sp.y.other number (Gossip sp.here.round key sp.here.object) = sp.here.pending in
      let there : numbered w.frames f ≡ Some p.there.bytes = ap (numbered w.frames) same ∙ p.there.there in
      let low : n < length w.nodes = has_node w (events.Deliver f n word) accepts.no_refusal in
      let makes : MakesStep w n (OfNode.Take p.there.bytes word) answer next =
      subst (λ o. MakesStep w n (OfNode.Take (unwrap_or o []) word) answer next) there accepts.makes in
      let spelled : Spells (record { from = sp.y.one; to = sp.y.other; number = p.frame.number; message = Gossip sp.here.round key sp.here.object }) p.there.bytes =
      subst (λ (m : Frame). Spells m p.there.bytes) (λ i. record { from = p.sender i; to = p.addressee i; number = p.frame.number; message = p.message i }) p.there.spelled in
      let took = takes_gossip (node_at w n).state makes.state p.there.bytes word makes.given sp.y.one sp.y.other p.frame.number sp.here.round key sp.here.object spelled makes.makes in
      let at : n ≡ sp.y.other = sym (s.its_number n (subst (λ c. n < c) s.many low)) ∙ sym took.to_it in
      let there_makes : MakesStep w sp.y.other (OfNode.Take p.there.bytes word) answer next = subst (λ i. MakesStep w i (OfNode.Take p.there.bytes word) answer next) at makes in
      delivered_there b front number back made w s sp next answer (OfNode.Take p.there.bytes word) there_makes (subst (λ i. i < length w.nodes) at low)
      (takes_gossip (node_at w sp.y.other).state there_makes.state p.there.bytes word there_makes.given sp.y.one sp.y.other p.frame.number sp.here.round key sp.here.object spelled there_makes.makes)
  delivered b front number back made w s next _ answer same accepts = absurd same

  -- where nothing is on its way nothing is due
  pub nothing_due : (w : World) (due : List Exchange) → Pairwise (IsOnItsWay w) [] due → due ≡ []
  nothing_due w [] all = refl
  nothing_due w (e ∷ due) all = absurd all

  -- ---- all deliveries

  pub all_delivered : (b : IsBegun) (run : List Accepted) (numbers : List ℕ) (made : ℕ) (w : World) → Spreading numbers made w → DeliverInAnyOrder numbers run
      → (end : World) → AcceptsAll w run end → Spreading [] (made + length run) end
  all_delivered b [] numbers made w s none end accepts =
      subst (λ c. Spreading [] c end) (omega arith) (subst (Spreading [] made) (sym accepts) (subst (λ ns. Spreading ns made w) none s))
  all_delivered b (a ∷ run) numbers made w s deliver end accepts =
      let one : DeliversOne numbers a deliver.0 = deliver.1.0 in
      let next : Spreading ((one.front ++ one.back) ++ numbers_of a.answer.sent) (made + 1) accepts.0 =
      delivered b one.front one.number one.back made w (subst (λ ns. Spreading ns made w) one.was s) accepts.0 a.event a.answer one.delivers accepts.1.0.comes in
      let rest : Spreading [] ((made + 1) + length run) end =
      all_delivered b run deliver.0 (made + 1) accepts.0 (subst (λ ns. Spreading ns (made + 1) accepts.0) (sym one.leaves) next) deliver.1.1 end accepts.1.1 in
      subst (λ c. Spreading [] c end) (omega arith) rest

  -- ---- the write

  -- what it sent is on its way, along each edge from the root
  pub started : IsBegun → (value : ValueParts) (event : Event) (answer : Answer) → IsWriteOf root key value event → Outcome before event (Ok answer) first → Spreading (numbers_of answer.sent) 0 first
  started b value event answer is accepts =
      let o : Wrote before first root key answer = wrote_by before first root key value event answer is accepts in
      let its : node_at first root ≡ arrived o.makes.state (stored_key o.step) (node_at before root) = here before first root answer o.step o.makes o.low in
      let peers : List ℕ = (node_at before root).state.overlay.cast.eager in
      let same : eager_of first root ≡ (node_at before root).state.overlay.cast.eager = ap (λ (n : ImagedNode). n.state.overlay.cast.eager) its ∙ o.writes.spreads.eager in
      let low : root < length first.nodes = writer_low before first root key value event answer is accepts in
      let number : (node_at before root).state.node ≡ root = sym o.writes.spreads.node ∙ ap (λ (n : ImagedNode). n.state.node) (sym its) ∙ b.its_number root low in
      let table : table_at first root ≡ with_object key o.writes.object (table_at before root) = ap (λ (n : ImagedNode). n.state.table) its ∙ o.writes.spreads.table in
      let of_root : IsObjectOf (writes hs) key (learns root) (object_at (table_at first root) key) =
      same_set (writes hs) key (knew root) (learns root) (object_at (table_at first root) key) (λ p. sym (root_stays knew root edges tree p)) (b.held root low) in
      record {
        reached = is_in root [];
        due = edges_to root (node_at before root).state.overlay.cast.eager;
        many = refl;
        its_number = b.its_number;
        eager = λ n. refl;
        held = λ n lower reached. subst (λ i. IsObjectOf (writes hs) key (learns i) (object_at (table_at first i) key)) (sym (eqb-true n root reached)) of_root;
        other_keys = λ n l apart. refl;
        untouched = λ n out. refl;
        pending = on_their_way before first root answer o.step o.makes o.low number o.writes.object 0 (node_at before root).state.overlay.cast.eager o.writes.spreads
            (subst (λ t. IsObjectOf (writes hs) key (learns root) (object_at t key)) table of_root);
        frontier = first_frontier root edges tree (node_at before root).state.overlay.cast.eager (subst (IsDistinct nat_eq) same (b.distinct root low))
            (λ m. ap (λ xs. has xs m) (sym same) ∙ b.joined root m (root_in root edges));
        in_tree = λ n reached. ap (is_in root edges) (eqb-true n root reached) ∙ root_in root edges;
        root_reached = eq-eqb root root refl;
        counted = count_tree root (length first.nodes) [] tt (λ n reached. subst (λ i. i < length first.nodes) (sym (eqb-true n root reached)) low);
        sent = sends_more before first root answer o.step o.makes o.low number o.writes.object 0 (node_at before root).state.overlay.cast.eager o.writes.spreads 0
            (record { frames = []; gossip = All-nil (λ (f : Frame). IsGossipOf key f.message); counted = refl; sent = sym (append-nil before.frames) });
      }
