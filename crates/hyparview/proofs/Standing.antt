-- Each row of the table keeps the views lawful, tells each change of the active view, and sends
-- nothing to the node itself.
use Rattle.std.proofs.Common.{◌≡◌, ◌≢◌, ℕ, ◌+◌, ◌-◌, ◌<◌, ◌≤◌, true, false, cond, not, ◌||◌, ◌&&◌, List, [], ◌∷◌, ◌++◌, length, map, nat_eq, nat_lt, nat_le, All, ⊎_elim, refl, sym, ap, subst, ◌∙◌, true≢false, arith, Option, Some}
use Rattle.std.specs.Option.{unwrap_or}
use Rattle.std.specs.List.{find, IsDistinct}
use Rattle.std.proofs.lemmas.Bool.{eqb-true, eqb-false, ltb-true, ltb-false, or_parts, and_parts, not-true, cases_Bool, cond_both}
use Rattle.std.proofs.lemmas.List.Elements.{All-nil, All-cons, All-push, All-append, All-map, All-weaker}
use Rattle.frame_fields.specs.declared.neighbor.Priority.TheVariants.{Low, High}
use Rattle.frame_fields.specs.declared.neighbor.NeighborAnswer.TheVariants.{No, Yes}
use Rattle.meta_frame.specs.declared.message.Message.{Message}
use Rattle.meta_frame.specs.declared.message.Message.TheVariants.{Join, ForwardJoin, Disconnect, Neighbor, NeighborReply, Shuffle, ShuffleReply, Bye}
use Rattle.hyparview.specs.declared.event.ViewEvent.{ViewEvent}
use Rattle.hyparview.specs.declared.event.ViewEvent.TheVariants.{JoinThrough, Taken, PeerDown, ShuffleDue, Leave}
use Rattle.hyparview.specs.declared.event.ViewOut.{ViewOut}
use Rattle.hyparview.specs.declared.event.ViewOut.TheVariants.{Send, Up, Down}
use Rattle.peer_lists.specs.Lists.{has, without, put_last, without_all, choose, pick}
use Rattle.peer_lists.proofs.Members.{has-without, without-lacks, length-without, length-without_one, has-put_last, length-put_last, has-choose, nat_eq-swap, IsDistinct-put_last, IsDistinct-without, has-without_same, member≢, members≢, not_in_without_all}
use Rattle.hyparview.specs.Limits.{active_random_walk_length, active_view_size, passive_view_size}
use Rattle.hyparview.specs.Draft.{Draft, send, send_each, make_room, make_place, drop_one, enter_active, leave_active, leave_passive, enter_passive, is_self_or_active, is_known, add_active, add_passive, note_asked, forget_asked, remember_sent}
use Rattle.hyparview.specs.Rows.{member_to_replace, make_room_from, take_one, take_in, ask, ask_another, priority_of, join_through, on_join, end_walk, keep_midway, on_forward_join, on_disconnect, on_neighbor_high, on_neighbor_low, on_neighbor_reply_yes, on_neighbor_reply_no, on_peer_down, on_shuffle_due, offer_to, on_shuffle, on_shuffle_reply, leave, on_message, row, is_empty, is_walk_over, walks_on}
use Rattle.hyparview.specs.Views.{NodeViews, draft_of, draft_after, views_of, empty}
use Rattle.hyparview.specs.Lawful.{AreLawful, EachStepTellsItAll, views_after, StayLawful, Follows, IsOfAnother, IsToAnother, GoToOthers, IsOfViews, SendsOfViews}
use Rattle.hyparview.proofs.Following.{Follows-append, Follows-sends, Follows-downs, choose≢}

walks_on-some : (ttl : ℕ) (active others : List ℕ) → walks_on ttl active others ≡ true → is_empty others ≡ false
walks_on-some ttl active others goes = not-true (is_empty others) (and_parts (nat_le 2 ttl && nat_lt 1 (length active)) (not (is_empty others)) goes).1

module _ (node : ℕ) where
  -- ---- the two views, one change at a time

  AreLawful-leave_active : (d : ℕ) (A P : List ℕ) → AreLawful node A P → AreLawful node (without d A) P
  AreLawful-leave_active d A P h =
      record {
        few_active = omega (arith, length-without d A, h.few_active);
        few_passive = h.few_passive;
        active_once = IsDistinct-without d A h.active_once;
        passive_once = h.passive_once;
        not_itself_active = without-lacks d node A h.not_itself_active;
        not_itself_passive = h.not_itself_passive;
        disjoint = λ x e. h.disjoint x (has-without d x A e);
      }

  AreLawful-leave_passive : (d : ℕ) (A P : List ℕ) → AreLawful node A P → AreLawful node A (without d P)
  AreLawful-leave_passive d A P h =
      record {
        few_active = h.few_active;
        few_passive = omega (arith, length-without d P, h.few_passive);
        active_once = h.active_once;
        passive_once = IsDistinct-without d P h.passive_once;
        not_itself_active = h.not_itself_active;
        not_itself_passive = without-lacks d node P h.not_itself_passive;
        disjoint = λ x e. without-lacks d x P (h.disjoint x e);
      }

  AreLawful-enter_passive : (d : ℕ) (A P : List ℕ) → AreLawful node A P → nat_eq d node ≡ false → has A d ≡ false → length P < passive_view_size → AreLawful node A (put_last d P)
  AreLawful-enter_passive d A P h other absent room =
      record {
        few_active = h.few_active;
        few_passive = omega (arith, length-put_last d P);
        active_once = h.active_once;
        passive_once = IsDistinct-put_last d P h.passive_once;
        not_itself_active = h.not_itself_active;
        not_itself_passive = has-put_last d node P (nat_eq-swap node d ∙ other) ∙ h.not_itself_passive;
        disjoint = λ x e.
            ⊎_elim (λ same. absurd (true≢false (sym e ∙ ap (has A) (eqb-true x d same) ∙ absent)))
            (λ differs. has-put_last d x P differs ∙ h.disjoint x e)
            (cases_Bool (nat_eq x d));
      }

  AreLawful-enter_active : (d : ℕ) (A P : List ℕ) → AreLawful node A P → nat_eq d node ≡ false → has P d ≡ false → length A < active_view_size → AreLawful node (put_last d A) P
  AreLawful-enter_active d A P h other absent room =
      record {
        few_active = omega (arith, length-put_last d A);
        few_passive = h.few_passive;
        active_once = IsDistinct-put_last d A h.active_once;
        passive_once = h.passive_once;
        not_itself_active = has-put_last d node A (nat_eq-swap node d ∙ other) ∙ h.not_itself_active;
        not_itself_passive = h.not_itself_passive;
        disjoint = λ x e.
            ⊎_elim (λ same. ap (has P) (eqb-true x d same) ∙ absent)
            (λ differs. h.disjoint x (sym (has-put_last d x A differs) ∙ e))
            (cases_Bool (nat_eq x d));
      }

  pub AreLawful-empty : AreLawful node [] []
  unfolding IsDistinct
  AreLawful-empty =
      record {
        few_active = omega arith;
        few_passive = omega arith;
        active_once = tt;
        passive_once = tt;
        not_itself_active = refl;
        not_itself_passive = refl;
        disjoint = λ x e. refl;
      }

  module _ (before : List ℕ) (Q : Type 0) where
    -- what stands in the midst of a step that began with these neighbours; if Q holds, the event
    -- came from another node
    pub record StandsOf (own : ℕ) (active passive : List ℕ) (out : List ViewOut) : Type 0 where
      pub same : own ≡ node
      pub lawful : AreLawful node active passive
      pub follows : Follows before out active
      pub others : Q → GoToOthers node out
      pub of_views : All SendsOfViews out

    abbrev pub Stands : Draft → Type 0
    Stands t = StandsOf t.node t.active t.passive t.out

    -- ---- the small steps

    Stands-send : (to : ℕ) (m : Message) (t : Draft) → (Q → to ≢ node) → IsOfViews m → Stands t → Stands (send to m t)
    Stands-send to m t other of h =
        record {
          same = h.same;
          lawful = h.lawful;
          follows = Follows-append before t.active t.active t.out (Send to m ∷ []) h.follows refl;
          others = λ q. All-push (IsToAnother node) t.out (Send to m) (h.others q) (other q);
          of_views = All-push SendsOfViews t.out (Send to m) h.of_views of;
        }

    Stands-send_each : (tos : List ℕ) (m : Message) (t : Draft) → All (λ to. to ≢ node) tos → IsOfViews m → Stands t → Stands (send_each tos m t)
    Stands-send_each tos m t other of h =
        record {
          same = h.same;
          lawful = h.lawful;
          follows = Follows-append before t.active t.active t.out (map (λ to. Send to m) tos) h.follows (Follows-sends t.active tos m);
          others = λ q. All-append (IsToAnother node) t.out (map (λ to. Send to m) tos) (h.others q) (All-map (IsToAnother node) (λ to. Send to m) tos other);
          of_views = All-append SendsOfViews t.out (map (λ to. Send to m) tos) h.of_views (All-map SendsOfViews (λ to. Send to m) tos (All-weaker (λ to. to ≢ node) (λ _. IsOfViews m) (λ _ _. of) tos other));
        }

    Stands-leave_active : (d : ℕ) (t : Draft) → has t.active d ≡ true → Stands t → Stands (leave_active d t)
    Stands-leave_active d t there h =
        record {
          same = h.same;
          lawful = AreLawful-leave_active d t.active t.passive h.lawful;
          follows = Follows-append before t.active (without d t.active) t.out (Down d ∷ []) h.follows (there, refl);
          others = λ q. All-push (IsToAnother node) t.out (Down d) (h.others q) tt;
          of_views = All-push SendsOfViews t.out (Down d) h.of_views tt;
        }

    Stands-leave_passive : (d : ℕ) (t : Draft) → Stands t → Stands (leave_passive d t)
    Stands-leave_passive d t h =
        record {
          same = h.same;
          lawful = AreLawful-leave_passive d t.active t.passive h.lawful;
          follows = h.follows;
          others = h.others;
          of_views = h.of_views;
        }

    Stands-enter_passive : (d : ℕ) (t : Draft) → Stands t → nat_eq d node ≡ false → has t.active d ≡ false → length t.passive < passive_view_size → Stands (enter_passive d t)
    Stands-enter_passive d t h other absent room =
        record {
          same = h.same;
          lawful = AreLawful-enter_passive d t.active t.passive h.lawful other absent room;
          follows = h.follows;
          others = h.others;
          of_views = h.of_views;
        }

    Stands-enter_active : (d : ℕ) (t : Draft) → Stands t → nat_eq d node ≡ false → has t.active d ≡ false → has t.passive d ≡ false → length t.active < active_view_size → Stands (enter_active d t)
    Stands-enter_active d t h other inactive absent room =
        let last : put_last d t.active ≡ t.active ++ d ∷ [] = ap (λ b. cond b t.active (t.active ++ d ∷ [])) inactive in
        record {
          same = h.same;
          lawful = AreLawful-enter_active d t.active t.passive h.lawful other absent room;
          follows = Follows-append before t.active (put_last d t.active) t.out (Up d ∷ []) h.follows (inactive, last);
          others = λ q. All-push (IsToAnother node) t.out (Up d) (h.others q) tt;
          of_views = All-push SendsOfViews t.out (Up d) h.of_views tt;
        }

    -- neither the node itself nor a neighbour
    other_and_inactive : (x : ℕ) (t : Draft) → Stands t → is_self_or_active x t ≡ false → (nat_eq x node ≡ false) × (has t.active x ≡ false)
    other_and_inactive x t h out =
        let parts = or_parts (nat_eq x t.node) (has t.active x) out in
        (ap (nat_eq x) (sym h.same) ∙ parts.0, parts.1)

    apart_from : (x : ℕ) → nat_eq x node ≡ false → x ≢ node
    apart_from x e = eqb-false x node e

    -- ---- AddPassive

    room_without : (d : ℕ) (P : List ℕ) → length P ≤ passive_view_size → has P d ≡ true → length (without d P) < passive_view_size
    room_without d P few there = omega (arith, length-without_one d P there)

    -- x goes in if there is room, or if the member d gave its place
    Stands-goes_in : (x d : ℕ) (t : Draft) → Stands t → is_known x t ≡ false → (nat_lt (length t.passive) passive_view_size ≡ false → has t.passive d ≡ true)
        → Stands (enter_passive x (cond (nat_lt (length t.passive) passive_view_size) t (leave_passive d t)))
    Stands-goes_in x d t h unknown there =
        let parts = or_parts (is_self_or_active x t) (has t.passive x) unknown in
        let apart = other_and_inactive x t h parts.0 in
        cond_both (nat_lt (length t.passive) passive_view_size) t (leave_passive d t) (λ (u : Draft). Stands (enter_passive x u))
        (λ room. Stands-enter_passive x t h apart.0 apart.1 (ltb-true (length t.passive) passive_view_size room))
        (λ full. Stands-enter_passive x (leave_passive d t) (Stands-leave_passive d t h) apart.0 apart.1 (room_without d t.passive h.lawful.few_passive (there full)))

    full_has_chosen : (word : ℕ) (P : List ℕ) → nat_lt (length P) passive_view_size ≡ false → has P (choose word P) ≡ true
    full_has_chosen word P full = has-choose word P (let low : passive_view_size ≤ length P = ltb-false (length P) passive_view_size full in omega arith)

    Stands-add_passive : (word x : ℕ) (t : Draft) → Stands t → Stands (add_passive word x t)
    unfolding add_passive
    Stands-add_passive word x t h =
        cond_both (is_known x t) t (enter_passive x (make_room word t)) Stands
        (λ _. h)
        (λ unknown. Stands-goes_in x (choose word t.passive) t h unknown (full_has_chosen word t.passive))

    add_passive-active : (word x : ℕ) (t : Draft) → (add_passive word x t).active ≡ t.active
    unfolding add_passive
    add_passive-active word x t =
        cond_both (is_known x t) t (enter_passive x (make_room word t)) (λ (u : Draft). u.active ≡ t.active) (λ _. refl)
        (λ _. cond_both (nat_lt (length t.passive) passive_view_size) t (leave_passive (choose word t.passive) t) (λ (u : Draft). u.active ≡ t.active) (λ _. refl) (λ _. refl))

    add_passive-lacks : (word x d : ℕ) (t : Draft) → nat_eq x d ≡ false → has t.passive x ≡ false → has (add_passive word d t).passive x ≡ false
    unfolding add_passive
    add_passive-lacks word x d t differs absent =
        cond_both (is_known d t) t (enter_passive d (make_room word t)) (λ (u : Draft). has u.passive x ≡ false) (λ _. absent)
        (λ _. cond_both (nat_lt (length t.passive) passive_view_size) t (leave_passive (choose word t.passive) t) (λ (u : Draft). has (put_last d u.passive) x ≡ false)
        (λ _. has-put_last d x t.passive differs ∙ absent)
        (λ _. has-put_last d x (without (choose word t.passive) t.passive) differs ∙ without-lacks (choose word t.passive) x t.passive absent))

    -- ---- AddActive

    -- x may become a neighbour
    pub record MayEnter (x : ℕ) (t : Draft) : Type 0 where
      pub stands : Stands t
      pub room : length t.active < active_view_size
      pub inactive : has t.active x ≡ false
      pub absent : has t.passive x ≡ false

    MayEnter-make_place : (word x : ℕ) (t : Draft) → Stands t → has t.active x ≡ false → has t.passive x ≡ false → MayEnter x (make_place word t)
    unfolding make_place drop_one
    MayEnter-make_place word x t h inactive absent =
        let d = choose word t.active in
        let told = send d Disconnect t in
        let left = leave_active d told in
        cond_both (nat_lt (length t.active) active_view_size) t (add_passive word d left) (MayEnter x)
        (λ room. record { stands = h; room = ltb-true (length t.active) active_view_size room; inactive = inactive; absent = absent })
        (λ full.
        let low : active_view_size ≤ length t.active = ltb-false (length t.active) active_view_size full in
        let there : has t.active d ≡ true = has-choose word t.active (omega arith) in
        let differs : nat_eq x d ≡ false =
        ⊎_elim (λ same. absurd (true≢false (sym there ∙ ap (has t.active) (sym (eqb-true x d same)) ∙ inactive))) (λ (e : nat_eq x d ≡ false). e) (cases_Bool (nat_eq x d)) in
        let shorter : length (without d t.active) + 1 ≡ length t.active = length-without_one d t.active there in
        let kept : (add_passive word d left).active ≡ without d t.active = add_passive-active word d left in
        let same : length (add_passive word d left).active ≡ length (without d t.active) = ap length kept in
        let few : length t.active ≤ active_view_size = h.lawful.few_active in
        let other : d ≢ node = member≢ node d t.active there h.lawful.not_itself_active in
        record {
          stands = Stands-add_passive word d left (Stands-leave_active d told there (Stands-send d Disconnect t (λ _. other) tt h));
          room = omega arith;
          inactive = ap (λ (l : List ℕ). has l x) kept ∙ without-lacks d x t.active inactive;
          absent = add_passive-lacks word x d left differs absent;
        })

    Stands-add_active : (word x : ℕ) (t : Draft) → Stands t → Stands (add_active word x t)
    unfolding add_active
    Stands-add_active word x t h =
        let left = leave_passive x t in
        cond_both (is_self_or_active x t) t (enter_active x (make_place word left)) Stands
        (λ _. h)
        (λ out.
        let apart = other_and_inactive x t h out in
        let may = MayEnter-make_place word x left (Stands-leave_passive x t h) apart.1 (has-without_same x t.passive h.lawful.passive_once) in
        Stands-enter_active x (make_place word left) may.stands apart.0 may.inactive may.absent may.room)

    -- ---- TakeIn

    has-member_to_replace : (word : ℕ) (gone P : List ℕ) → nat_lt (length P) passive_view_size ≡ false → has P (member_to_replace word gone P) ≡ true
    unfolding member_to_replace
    has-member_to_replace word [] P full = full_has_chosen word P full
    has-member_to_replace word (g ∷ gs) P full =
        cond_both (has P g) (Some g) (find (has P) gs) (λ (o : Option ℕ). has P (unwrap_or o (choose word P)) ≡ true)
        (λ there. there)
        (λ _. has-member_to_replace word gs P full)

    Stands-take_one : (word : ℕ) (gone : List ℕ) (x : ℕ) (t : Draft) → Stands t → Stands (take_one word gone x t)
    unfolding take_one
    Stands-take_one word gone x t h =
        cond_both (is_known x t) t (enter_passive x (make_room_from word gone t)) Stands
        (λ _. h)
        (λ unknown. Stands-goes_in x (member_to_replace word gone t.passive) t h unknown (has-member_to_replace word gone t.passive))

    Stands-take_in : (word : ℕ) (gone xs : List ℕ) (t : Draft) → Stands t → Stands (take_in word gone xs t)
    Stands-take_in word gone [] t h = h
    Stands-take_in word gone (x ∷ xs) t h = Stands-take_in word gone xs (take_one word gone x t) (Stands-take_one word gone x t h)

    -- ---- the rows

    Stands-ask : (word : ℕ) (t : Draft) → Stands t → Stands (ask word t)
    unfolding ask
    Stands-ask word t h =
        let unasked = without_all t.asked t.passive in
        let q = choose word unasked in
        let m = Neighbor (priority_of t.active) in
        cond_both (is_empty unasked || nat_le active_view_size (length t.active)) (forget_asked t) (send q m (note_asked q t)) Stands
        (λ _. h)
        (λ goes.
        let some = (or_parts (is_empty unasked) (nat_le active_view_size (length t.active)) goes).0 in
        Stands-send q m (note_asked q t) (λ _. choose≢ node word unasked some (not_in_without_all node t.asked t.passive h.lawful.not_itself_passive)) tt h)

    Stands-ask_another : (word from : ℕ) (t : Draft) → Stands t → Stands (ask_another word from t)
    Stands-ask_another word from t h = cond_both (has t.asked from) (ask word t) t Stands (λ _. Stands-ask word t h) (λ _. h)

    Stands-join_through : (word contact : ℕ) (t : Draft) → (Q → contact ≢ node) → Stands t → Stands (join_through word contact t)
    unfolding join_through
    Stands-join_through word contact t other h = Stands-send contact Join (add_active word contact t) other tt (Stands-add_active word contact t h)

    Stands-on_join : (word from : ℕ) (t : Draft) → Stands t → Stands (on_join word from t)
    unfolding on_join
    Stands-on_join word from t h =
        let added = Stands-add_active word from t h in
        let u = add_active word from t in
        Stands-send_each (without_all (from ∷ []) u.active) (ForwardJoin from active_random_walk_length) u
        (members≢ node (without_all (from ∷ []) u.active) (not_in_without_all node (from ∷ []) u.active added.lawful.not_itself_active)) tt added

    Stands-end_walk : (word x : ℕ) (t : Draft) → Stands t → Stands (end_walk word x t)
    unfolding end_walk
    Stands-end_walk word x t h =
        cond_both (is_self_or_active x t) t (send x (Neighbor High) (add_active word x t)) Stands (λ _. h)
        (λ out. Stands-send x (Neighbor High) (add_active word x t) (λ _. apart_from x (other_and_inactive x t h out).0) tt (Stands-add_active word x t h))

    Stands-keep_midway : (word x ttl : ℕ) (t : Draft) → Stands t → Stands (keep_midway word x ttl t)
    unfolding keep_midway
    Stands-keep_midway word x ttl t h = cond_both (nat_eq ttl 2) (add_passive word x t) t Stands (λ _. Stands-add_passive word x t h) (λ _. h)

    Stands-on_forward_join : (word from x ttl : ℕ) (t : Draft) → Stands t → Stands (on_forward_join word from x ttl t)
    unfolding on_forward_join
    Stands-on_forward_join word from x ttl t h =
        let others = without_all (from ∷ x ∷ []) t.active in
        let kept = keep_midway word x ttl t in
        let onward = send (choose word others) (ForwardJoin x (ttl - 1)) kept in
        cond_both (nat_eq x t.node) t (cond (is_walk_over ttl t.active others) (end_walk word x t) onward) Stands
        (λ _. h)
        (λ _. cond_both (is_walk_over ttl t.active others) (end_walk word x t) onward Stands
        (λ _. Stands-end_walk word x t h)
        (λ goes.
        let some = (or_parts (nat_eq ttl 0 || nat_le (length t.active) 1) (is_empty others) goes).1 in
        Stands-send (choose word others) (ForwardJoin x (ttl - 1)) kept
        (λ _. choose≢ node word others some (not_in_without_all node (from ∷ x ∷ []) t.active h.lawful.not_itself_active))
        tt (Stands-keep_midway word x ttl t h)))

    Stands-on_disconnect : (word from : ℕ) (t : Draft) → Stands t → Stands (on_disconnect word from t)
    unfolding on_disconnect
    Stands-on_disconnect word from t h =
        cond_both (has t.active from) (add_passive word from (leave_active from t)) t Stands
        (λ there. Stands-add_passive word from (leave_active from t) (Stands-leave_active from t there h)) (λ _. h)

    Stands-on_neighbor_high : (word from : ℕ) (t : Draft) → (Q → from ≢ node) → Stands t → Stands (on_neighbor_high word from t)
    unfolding on_neighbor_high
    Stands-on_neighbor_high word from t other h = Stands-send from (NeighborReply Yes) (add_active word from t) other tt (Stands-add_active word from t h)

    Stands-on_neighbor_low : (word from : ℕ) (t : Draft) → (Q → from ≢ node) → Stands t → Stands (on_neighbor_low word from t)
    unfolding on_neighbor_low
    Stands-on_neighbor_low word from t other h =
        cond_both (has t.active from || nat_lt (length t.active) active_view_size) (on_neighbor_high word from t) (send from (NeighborReply No) t) Stands
        (λ _. Stands-on_neighbor_high word from t other h) (λ _. Stands-send from (NeighborReply No) t other tt h)

    Stands-on_neighbor_reply_yes : (word from : ℕ) (t : Draft) → Stands t → Stands (on_neighbor_reply_yes word from t)
    unfolding on_neighbor_reply_yes
    Stands-on_neighbor_reply_yes word from t h = Stands-add_active word from t h

    Stands-on_neighbor_reply_no : (word from : ℕ) (t : Draft) → Stands t → Stands (on_neighbor_reply_no word from t)
    unfolding on_neighbor_reply_no
    Stands-on_neighbor_reply_no word from t h = Stands-ask_another word from t h

    Stands-on_peer_down : (word peer : ℕ) (t : Draft) → Stands t → Stands (on_peer_down word peer t)
    unfolding on_peer_down
    Stands-on_peer_down word peer t h =
        let alone = forget_asked (leave_active peer t) in
        let left = leave_passive peer t in
        cond_both (has t.active peer) (ask word alone) (ask_another word peer left) Stands
        (λ there. Stands-ask word alone (Stands-leave_active peer t there h))
        (λ _. Stands-ask_another word peer left (Stands-leave_passive peer t h))

    Stands-on_shuffle_due : (word : ℕ) (t : Draft) → Stands t → Stands (on_shuffle_due word t)
    unfolding on_shuffle_due
    Stands-on_shuffle_due word t h =
        let to = choose word t.active in
        let offer = offer_to word to t in
        let m = Shuffle t.node 3 offer in
        cond_both (is_empty t.active) t (send to m (remember_sent offer t)) Stands (λ _. h)
        (λ some. Stands-send to m (remember_sent offer t) (λ _. choose≢ node word t.active some h.lawful.not_itself_active) tt h)

    Stands-on_shuffle : (word from origin ttl : ℕ) (nodes : List ℕ) (t : Draft) → Stands t → Stands (on_shuffle word from origin ttl nodes t)
    unfolding on_shuffle
    Stands-on_shuffle word from origin ttl nodes t h =
        let others = without_all (from ∷ origin ∷ []) t.active in
        let reply = pick word (length nodes) t.passive in
        let onward = send (choose word others) (Shuffle origin (ttl - 1) nodes) t in
        let replied = send origin (ShuffleReply reply) t in
        let taken = take_in word reply (origin ∷ nodes) replied in
        cond_both (nat_eq origin t.node) t (cond (walks_on ttl t.active others) onward taken) Stands
        (λ _. h)
        (λ apart. cond_both (walks_on ttl t.active others) onward taken Stands
        (λ goes. Stands-send (choose word others) (Shuffle origin (ttl - 1) nodes) t
        (λ _. choose≢ node word others (walks_on-some ttl t.active others goes) (not_in_without_all node (from ∷ origin ∷ []) t.active h.lawful.not_itself_active)) tt h)
        (λ _. Stands-take_in word reply (origin ∷ nodes) replied
        (Stands-send origin (ShuffleReply reply) t (λ _. apart_from origin (ap (nat_eq origin) (sym h.same) ∙ apart)) tt h)))

    Stands-on_shuffle_reply : (word : ℕ) (nodes : List ℕ) (t : Draft) → Stands t → Stands (on_shuffle_reply word nodes t)
    unfolding on_shuffle_reply
    Stands-on_shuffle_reply word nodes t h = Stands-take_in word t.sent nodes t h

    nothing_sent : (xs : List ℕ) → All (λ x. IsToAnother node (Down x)) xs
    nothing_sent [] = All-nil (λ x. IsToAnother node (Down x))
    nothing_sent (x ∷ xs) = All-cons (λ x. IsToAnother node (Down x)) x xs tt (nothing_sent xs)

    Stands-leave : (t : Draft) → Stands t → Stands (leave t)
    unfolding leave
    Stands-leave t h =
        let told = send_each t.active Bye t in
        let u = Stands-send_each t.active Bye t (members≢ node t.active h.lawful.not_itself_active) tt h in
        record {
          same = h.same;
          lawful = AreLawful-empty;
          follows = Follows-append before t.active [] told.out (map (λ x. Down x) t.active) u.follows (Follows-downs t.active);
          others = λ q. All-append (IsToAnother node) told.out (map (λ x. Down x) t.active) (u.others q) (All-map (IsToAnother node) (λ x. Down x) t.active (nothing_sent t.active));
          of_views = All-append SendsOfViews told.out (map (λ x. Down x) t.active) u.of_views (All-map SendsOfViews (λ x. Down x) t.active (nothing_sent t.active));
        }

    Stands-on_message : (word from : ℕ) (m : Message) (t : Draft) → (Q → from ≢ node) → Stands t → Stands (on_message word from m t)
    Stands-on_message word from Join t other h = Stands-on_join word from t h
    Stands-on_message word from (ForwardJoin x ttl) t other h = Stands-on_forward_join word from x ttl t h
    Stands-on_message word from Disconnect t other h = Stands-on_disconnect word from t h
    Stands-on_message word from (Neighbor High) t other h = Stands-on_neighbor_high word from t other h
    Stands-on_message word from (Neighbor Low) t other h = Stands-on_neighbor_low word from t other h
    Stands-on_message word from (NeighborReply Yes) t other h = Stands-on_neighbor_reply_yes word from t h
    Stands-on_message word from (NeighborReply No) t other h = Stands-on_neighbor_reply_no word from t h
    Stands-on_message word from (Shuffle origin ttl nodes) t other h = Stands-on_shuffle word from origin ttl nodes t h
    Stands-on_message word from (ShuffleReply nodes) t other h = Stands-on_shuffle_reply word nodes t h
    Stands-on_message word from Bye t other h = Stands-on_peer_down word from t h
    Stands-on_message word from _ t other h = h

    Stands-row : (word : ℕ) (e : ViewEvent) (t : Draft) → (Q → IsOfAnother node e) → Stands t → Stands (row word e t)
    Stands-row word (JoinThrough contact) t other h = Stands-join_through word contact t other h
    Stands-row word (Taken from message) t other h = Stands-on_message word from message t other h
    Stands-row word (PeerDown peer) t other h = Stands-on_peer_down word peer t h
    Stands-row word ShuffleDue t other h = Stands-on_shuffle_due word t h
    Stands-row word Leave t other h = Stands-leave t h

-- a step of lawful views
Stands-step : (e : ViewEvent) (word : ℕ) (v : NodeViews) → AreLawful v.node v.active v.passive
    → Stands v.node v.active (IsOfAnother v.node e) (draft_after e word v)
Stands-step e word v h =
    Stands-row v.node v.active (IsOfAnother v.node e) word e (draft_of v) (λ q. q)
    (record { same = refl; lawful = h; follows = refl; others = λ _. All-nil (IsToAnother v.node); of_views = All-nil SendsOfViews })

AreLawful-after : (node : ℕ) (v : NodeViews) (steps : List (ViewEvent × ℕ)) → v.node ≡ node → AreLawful node v.active v.passive
    → AreLawful node (views_after v steps).active (views_after v steps).passive
AreLawful-after node v [] same h = h
AreLawful-after node v (s ∷ ss) same h =
    let start : AreLawful v.node v.active v.passive = subst (λ n. AreLawful n v.active v.passive) (sym same) h in
    let made = Stands-step s.0 s.1 v start in
    let w = views_of (draft_after s.0 s.1 v) in
    AreLawful-after node w ss (made.same ∙ same) (subst (λ n. AreLawful n w.active w.passive) same made.lawful)

pub views_stay_lawful : StayLawful
views_stay_lawful node steps = AreLawful-after node (empty node) steps refl (AreLawful-empty node)

-- ---- the same of what a step answers, which is how its contract says it

abbrev IsLawfulDraft : Draft → Type 0
IsLawfulDraft d = AreLawful d.node d.active d.passive

pub lawful-draft : (v : NodeViews) (e : ViewEvent) (word : ℕ) (d : Draft) → AreLawful v.node v.active v.passive → d ≡ draft_after e word v
    → AreLawful d.node d.active d.passive
lawful-draft v e word d h same =
    let made = Stands-step e word v h in
    subst IsLawfulDraft (sym same) (subst (λ n. AreLawful n (draft_after e word v).active (draft_after e word v).passive) (sym made.same) made.lawful)

pub each_step_tells_it_all : EachStepTellsItAll
each_step_tells_it_all old event word new out h step =
    let made = Stands-step event word old h in
    let d = draft_after event word old in
    record {
      node = ap (λ (x : NodeViews). x.node) step.views ∙ made.same;
      lawful = subst (λ (x : NodeViews). AreLawful x.node x.active x.passive) (sym step.views) (lawful-draft old event word d h refl);
      follows =
          subst (λ (l : List ℕ). Follows old.active out l) (sym (ap (λ (x : NodeViews). x.active) step.views))
          (subst (λ (os : List ViewOut). Follows old.active os d.active) (sym step.gives) made.follows);
      others = λ from. subst (GoToOthers old.node) (sym step.gives) (made.others from);
      of_views = subst (All SendsOfViews) (sym step.gives) made.of_views;
    }
