-- What a broadcast along a tree leaves.
use Rattle.std.proofs.Common.{◌≡◌, ◌≢◌, ℕ, ◌+◌, ◌<◌, ◌≤◌, true, false, cond, List, [], ◌∷◌, ◌++◌, length, inl, inr, ⊎_elim, refl, sym, ap, subst, ◌∙◌, arith}
use Rattle.std.specs.Prelude.{◌⊎◌}
use Rattle.std.proofs.lemmas.Bool.{false≢true, cases_Bool, cases_lt, false_from_ne_true, or_right}
use Rattle.std.proofs.lemmas.List.{get_or_past}
use Rattle.meta_types.specs.Name.{Key}
use Rattle.meta_types.specs.Equal.{key_eq}
use Rattle.meta_store.specs.Table.{object_at}
use Rattle.peer_lists.specs.Lists.{has}
use Rattle.past_model.specs.declared.happening.Happening.{Happening}
use Rattle.past_model.specs.History.{IsHistory}
use Rattle.past_model.specs.Past.{known, writes}
use Rattle.past_model.specs.Sets.{Knowledge, Places, with_set}
use Rattle.past_model.specs.Shown.{IsObjectOf}
use Rattle.past_model.proofs.Entries.{one_object}
use Rattle.past_model.proofs.Keys.{key_eq-self, key_eq-true}
use Rattle.past_model.proofs.Merging.{same_set}
use Rattle.past_model.proofs.Sound.{with_set-at}
use Rattle.exchange.specs.Whole.{Holds}
use Rattle.plumtree.specs.Lawful.{HasLinks}
use Rattle.restart_images.specs.Node.{ImagedNode, new_node}
use Rattle.world_core.specs.declared.answer.Accepted.{Accepted}
use Rattle.world_core.specs.Knowledge.{OfAllTold}
use Rattle.world_core.specs.Refusal.{node_at, table_at}
use Rattle.world_core.specs.Tells.{Tells, Told}
use Rattle.world_core.specs.World.{World}
use Rattle.world_core.proofs.Telling.{one_told}
use Rattle.agreement.specs.Broadcast.{Broadcasts, DeliverInAnyOrder, HoldTheSame, IsEagerTree, IsNewWrite, KnowUnderWhatRootKnew, KnowWhatWasPassedOn, NoneKnewMore, SendsGossip, eager_of}
use Rattle.agreement.specs.Rounds.{Exchange, Known, count_known}
use Rattle.agreement.specs.Tree.{IsSameTree, after_passing_all, has_edge, is_in, outwards}
use Rattle.agreement.specs.World.{DeliverAll, numbers_of}
use Rattle.agreement.proofs.Along.{count_same}
use Rattle.agreement.proofs.Exchanged.{known_by}
use Rattle.agreement.proofs.Frontier.{IsFrontier, all_reached_in, has_parent}
use Rattle.agreement.proofs.InTurn.{Begun}
use Rattle.agreement.proofs.Longer.{grown, shows_end, told_later}
use Rattle.agreement.proofs.Meetings.{same_bool}
use Rattle.agreement.proofs.Spreading.{IsBegun, Spreading, all_delivered, nothing_due, started}
use Rattle.agreement.proofs.Passing.{all_reached, no_more_passed_on, over_another, not_reached}
use Rattle.agreement.proofs.Written.{written_in}
use Rattle.agreement.proofs.Writing.{peers_stay, writer_low}

-- under another key
with_set-other : (v : Knowledge) (k : Key) (S : Places) (l : Key) → l ≢ k → with_set v k S l ≡ v l
with_set-other v k S l apart = ap (λ b. cond b S (v l)) (false_from_ne_true (key_eq l k) (λ e. apart (key_eq-true l k e)))

same_or_other : (k l : Key) → (k ≡ l) ⊎ (k ≢ l)
same_or_other k l = ⊎_elim (λ same. inl (key_eq-true k l same)) (λ apart. inr (λ same. false≢true (sym apart ∙ ap (key_eq k) (sym same) ∙ key_eq-self k))) (cases_Bool (key_eq k l))

-- a node that the world doesn't have has no peers
no_peers : (w : World) (n : ℕ) → length w.nodes ≤ n → (m : ℕ) → has (eager_of w n) m ≡ false
no_peers w n high m = ap (λ (node : ImagedNode). has node.state.overlay.cast.eager m) (get_or_past w.nodes n (new_node n) high)

module _ (world : World) (begun : Begun world) (links : (n : ℕ) → n < length world.nodes → HasLinks (node_at world n).state.overlay.cast) (b : Broadcasts world) where
  -- the write left the tree as it was
  tree_left : IsEagerTree world b.writer b.edges
  tree_left = record {
    tree = b.tree.tree;
    eager = λ n m place.
        ap (λ peers. has peers m) (peers_stay b.before world b.writer b.key b.value b.write.event b.write.answer b.is_write b.wrote.comes n) ∙ b.tree.eager n m place;
  }

  -- the nodes of the tree are nodes of the world
  in_world : (n : ℕ) → is_in b.writer b.edges n ≡ true → n < length world.nodes
  in_world n place =
      ⊎_elim
      (λ (at : n ≡ b.writer). subst (λ i. i < length world.nodes) (sym at)
      (writer_low b.before world b.writer b.key b.value b.write.event b.write.answer b.is_write b.wrote.comes))
      (λ parent.
      ⊎_elim
      (λ (low : n < length world.nodes). low)
      (λ high.
      absurd (false≢true (sym (no_peers world n high parent.0) ∙ tree_left.eager n parent.0 place
      ∙ or_right (has_edge b.edges n parent.0) (has_edge b.edges parent.0 n) parent.1)))
      (cases_lt n (length world.nodes)))
      (has_parent b.writer b.edges n place)

  -- ---- by what is told

  module _ (t : Told) (tells : Tells world.accepted world.frames t) where
    abbrev hs : List Happening
    hs = t.history

    is_history : IsHistory t.history
    is_history = subst (λ (u : Told). IsHistory u.history) (one_told world.accepted world.frames begun.told t begun.tells tells) begun.is_history

    is_written : IsNewWrite b.before t b.writer b.key b.value
    is_written = written_in b.before world b.write b.writer b.key b.value b.is_write b.wrote.comes t tells

    begins : IsBegun t.history is_history b.key b.writer b.edges b.tree.tree b.before world
    begins = record {
      joined = tree_left.eager;
      distinct = λ n low. (links n low).eager_once;
      its_number = begun.standing.numbers;
      held = λ n low. begun.standing.shows t tells n b.key low;
      place = is_written.place;
      root_knew = is_written.by_writer;
      alone = is_written.by_no_other;
    }

    -- how it ends: all frames were delivered
    ends : Spreading t.history is_history b.key b.writer b.edges b.tree.tree b.before world [] (0 + length b.deliveries) b.after
    ends =
        all_delivered t.history is_history b.key b.writer b.edges b.tree.tree b.before world begins b.deliveries (numbers_of b.write.answer.sent) 0 world
        (started t.history is_history b.key b.writer b.edges b.tree.tree b.before world begins b.value b.write.event b.write.answer b.is_write b.wrote.comes)
        b.whole b.after b.accepts

    -- all nodes of the tree were reached
    all_were_reached : (n : ℕ) → is_in b.writer b.edges n ≡ true → ends.reached n ≡ true
    all_were_reached =
        all_reached_in b.writer b.edges ends.reached (subst (IsFrontier b.edges ends.reached) (nothing_due t.history is_history b.key b.writer b.edges b.tree.tree b.before world b.after ends.due ends.pending) ends.frontier) ends.root_reached b.edges b.tree.tree (λ a c edge. edge)

    -- and no others
    no_other_reached : (n : ℕ) → is_in b.writer b.edges n ≡ false → ends.reached n ≡ false
    no_other_reached n out = false_from_ne_true (ends.reached n) (λ reached. false≢true (sym out ∙ ends.in_tree n reached))

    -- what the nodes knew under the key, and what passing it on leaves them
    abbrev knew : Known
    knew n p = known t.history n b.key p

    abbrev learns : Known
    learns = after_passing_all knew (outwards b.edges)

    -- each node holds the object of that
    holds_under : (n : ℕ) → n < length world.nodes → IsObjectOf (writes t.history) b.key (learns n) (object_at (table_at b.after n) b.key)
    holds_under n low =
        ⊎_elim
        (λ reached. ends.held n low reached)
        (λ out.
        subst (λ (node : ImagedNode). IsObjectOf (writes t.history) b.key (learns n) (object_at node.state.table b.key)) (sym (ends.untouched n out))
        (same_set (writes t.history) b.key (knew n) (learns n) (object_at (table_at world n) b.key)
        (λ p. sym (not_reached knew b.writer b.edges n p (false_from_ne_true (is_in b.writer b.edges n) (λ place. false≢true (sym out ∙ all_were_reached n place)))))
        (begun.standing.shows t tells n b.key low)))
        (cases_Bool (ends.reached n))

    -- and so under all keys
    abbrev all_known : ℕ → Knowledge
    all_known n = with_set (known t.history n) b.key (learns n)

    holds : (n : ℕ) → n < length world.nodes → Holds t.history (all_known n) (table_at b.after n)
    holds n low = record {
      each = λ k.
          ⊎_elim
          (λ (same : k ≡ b.key).
          subst (λ l. IsObjectOf (writes t.history) l (all_known n l) (object_at (table_at b.after n) l)) (sym same)
          (subst (λ S. IsObjectOf (writes t.history) b.key S (object_at (table_at b.after n) b.key)) (sym (with_set-at (known t.history n) b.key (learns n))) (holds_under n low)))
          (λ (other : k ≢ b.key).
          subst (λ S. IsObjectOf (writes t.history) k S (object_at (table_at b.after n) k)) (sym (with_set-other (known t.history n) b.key (learns n) k other))
          (subst (λ o. IsObjectOf (writes t.history) k (known t.history n k) o) (sym (ends.other_keys n k other)) (begun.standing.shows t tells n k low)))
          (same_or_other k b.key);
    }

    -- each node knows that by the new history
    knows : (u : Told) → Tells b.after.accepted b.after.frames u → (n : ℕ) (k : Key) (p : ℕ) → n < length world.nodes → known u.history n k p ≡ all_known n k p
    knows u also n k p low =
        let later = told_later world b.deliveries b.after (grown world b.deliveries b.after b.accepts) t u tells also in
        known_by t.history later.more b.after (shows_end world b.deliveries b.after begun.standing.shows b.accepts) u also later.longer n
        (subst (λ c. n < c) (sym ends.many) low) (all_known n) (holds n low) k p

    knows_under : (u : Told) → Tells b.after.accepted b.after.frames u → (n p : ℕ) → n < length world.nodes → known u.history n b.key p ≡ learns n p
    knows_under u also n p low = knows u also n b.key p low ∙ ap (λ S. S p) (with_set-at (known t.history n) b.key (learns n))

    pub know_what_was_passed_on : KnowWhatWasPassedOn t b.edges b.key b.after
    know_what_was_passed_on = record {
      under = λ u also n p low. knows_under u also n p (subst (λ c. n < c) ends.many low);
      elsewhere = λ u also n other p low apart.
          knows u also n other p (subst (λ c. n < c) ends.many low) ∙ ap (λ S. S p) (with_set-other (known t.history n) b.key (learns n) other apart);
    }

    pub know_what_root_knew : KnowUnderWhatRootKnew t b.writer b.edges b.key b.after
    know_what_root_knew = λ u also n p place knew_it.
        knows_under u also n p (in_world n place) ∙ all_reached knew b.writer b.edges b.tree.tree n p place knew_it

    -- where no node knew more, each holds the object of what the writer knew
    holds_its : NoneKnewMore t b.writer b.edges b.key → (n : ℕ) → is_in b.writer b.edges n ≡ true → IsObjectOf (writes t.history) b.key (knew b.writer) (object_at (table_at b.after n) b.key)
    holds_its none n place =
        same_set (writes t.history) b.key (learns n) (knew b.writer) (object_at (table_at b.after n) b.key)
        (λ p. same_bool (learns n p) (knew b.writer p)
        (λ is. no_more_passed_on knew b.writer b.edges b.tree.tree p (λ m there has. none m p there has) n place is)
        (λ is. all_reached knew b.writer b.edges b.tree.tree n p place is))
        (holds_under n (in_world n place))

    pub hold_the_same : NoneKnewMore t b.writer b.edges b.key → HoldTheSame b.after b.writer b.edges b.key
    hold_the_same none = λ m n one other.
        one_object (writes t.history) b.key (knew b.writer) (object_at (table_at b.after m) b.key) (object_at (table_at b.after n) b.key) (holds_its none m one) (holds_its none n other)

  -- ---- the laws

  pub all_written : OfAllTold world (λ t. IsNewWrite b.before t b.writer b.key b.value)
  all_written = λ t tells. is_written t tells

  pub sends : SendsGossip b.before b.after b.key (length b.deliveries)
  sends = subst (SendsGossip b.before b.after b.key) (omega arith) (ends begun.told begun.tells).sent

  pub how_many : length b.deliveries + 1 ≡ count_known (length world.nodes) (is_in b.writer b.edges)
  how_many =
      let counted : count_known (length world.nodes) (ends begun.told begun.tells).reached ≡ (0 + length b.deliveries) + 1 = (ends begun.told begun.tells).counted in
      let same : count_known (length world.nodes) (ends begun.told begun.tells).reached ≡ count_known (length world.nodes) (is_in b.writer b.edges) =
      count_same (length world.nodes) (ends begun.told begun.tells).reached (is_in b.writer b.edges) (λ n low.
      same_bool ((ends begun.told begun.tells).reached n) (is_in b.writer b.edges n) ((ends begun.told begun.tells).in_tree n) (all_were_reached begun.told begun.tells n)) in
      omega (arith, counted, same)

  pub tree_stays : IsEagerTree world b.writer b.edges × IsEagerTree b.after b.writer b.edges
  tree_stays = (
    tree_left,
    record { tree = b.tree.tree; eager = λ n m place. ap (λ peers. has peers m) ((ends begun.told begun.tells).eager n) ∙ tree_left.eager n m place },
  )

  pub others_stay : (n : ℕ) → is_in b.writer b.edges n ≡ false → node_at b.after n ≡ node_at world n
  others_stay n out = (ends begun.told begun.tells).untouched n (no_other_reached begun.told begun.tells n out)

-- any node of such a tree may write: the tree is one over it too
pub over_any : (w : World) (root : ℕ) (edges : List Exchange) → IsEagerTree w root edges → (node : ℕ) → is_in root edges node ≡ true
    → (others : List Exchange) × IsEagerTree w node others
over_any w root edges tree node place =
    let other = over_another root edges tree.tree node place in
    let same : IsSameTree root edges node other.0 = other.1 in (
      other.0,
      record {
        tree = same.tree;
        eager = λ n m there. tree.eager n m (sym (same.nodes n) ∙ there) ∙ sym (same.joined n m);
      },
    )

-- the oldest first is one of the orders
pub in_turn : (pending : List ℕ) (run : List Accepted) → DeliverAll pending run → DeliverInAnyOrder pending run
in_turn [] [] deliver = refl
in_turn [] (a ∷ run) deliver = absurd deliver
in_turn (number ∷ pending) [] deliver = absurd deliver
in_turn (number ∷ pending) (a ∷ run) deliver = (
  pending ++ numbers_of a.answer.sent,
  (
    record { front = []; number = number; back = pending; was = refl; delivers = deliver.0; leaves = refl },
    in_turn (pending ++ numbers_of a.answer.sent) run deliver.1,
  ),
)
