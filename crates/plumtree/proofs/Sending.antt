-- What a call gives out goes to others, and each message of it has a spelling.
use Rattle.std.proofs.Common.{◌≡◌, ◌≢◌, ℕ, zero, suc, ◌+◌, ◌-◌, ◌<◌, ◌^◌, min, Bool, false, cond, ◌||◌, List, [], ◌∷◌, ◌++◌, map, nat_eq, nat_lt, slice_index_or, All, ⊎_elim, refl, sym, ap, ◌∙◌, true≢false, arith, Option, Some, None}
use Rattle.std.specs.List.{position}
use Rattle.std.proofs.lemmas.Bool.{eqb-true, cases_Bool, cond_both}
use Rattle.std.proofs.lemmas.List.Elements.{All-nil, All-cons, All-head, All-tail, All-push, All-append, All-map, All-weaker, All-filter, All-set}
use Rattle.meta_types.specs.Name.{Key}
use Rattle.dvvset.specs.Object.{Counter}
use Rattle.meta_frame.specs.Frame.{IsMessage}
use Rattle.meta_frame.specs.declared.message.Message.{Message}
use Rattle.meta_frame.specs.declared.message.Message.TheVariants.{IHave, Graft, Prune}
use Rattle.peer_lists.specs.Lists.{has, without_all, put_last}
use Rattle.peer_lists.proofs.Members.{has-put_last, without-lacks, members≢, not_in_without_all}
use Rattle.plumtree.specs.declared.entry.Announcer.{Announcer}
use Rattle.plumtree.specs.declared.entry.CastOut.TheVariants.{Gossip, Send}
use Rattle.plumtree.specs.Missing.{MissingObject}
use Rattle.plumtree.specs.Draft.{Draft, announcement_to, announce_to, becomes_eager, becomes_lazy, gained, gossip_to, send}
use Rattle.plumtree.specs.Rows.{up, down, on_broadcast, on_fresh, on_stale, on_prune, on_ihave, on_graft, on_change, on_tick, announcer, ask_first, first_announced, is_announced_by, is_not_by, is_not_to, is_of, is_still_missing, keep, next_round, none_missing, noted, noted_at, ihave_of, send_announcements, tick_each, tick_one, with_announcer, without_announcer}
use Rattle.plumtree.specs.Broadcast.{Broadcast, CastCall, Up, Down, Broadcasts, TakesFresh, TakesStale, TakesPrune, TakesIHave, TakesGraft, Changes, Tick, draft_of, empty, row}
use Rattle.plumtree.specs.Lawful.{IsOfBroadcast, MayBeSent, MayBeAsked, MayCome, NamesOthers, SendsToOthers, TellsOthers}

-- the element of a list, or what stands for it, has what all have
index_all : {X : Type 0} (P : X → Type 0) (xs : List X) (i : ℕ) (d : X) → All P xs → P d → P (slice_index_or xs i d)
index_all P [] i d h k = k
index_all P (x ∷ xs) zero d h k = All-head P x xs h
index_all P (x ∷ xs) (suc i) d h k = index_all P xs i d (All-tail P x xs h) k

round_below : (n : ℕ) → min n 65535 < 2 ^ 16
round_below n = omega arith

module _ (node : ℕ) where
  -- a list that lacks the node
  gained_lacks : (x : ℕ) (from to : List ℕ) → has from node ≡ false → has to node ≡ false → has (gained x from to) node ≡ false
  gained_lacks x from to absent h =
      cond_both (has from x) (put_last x to) to (λ l. has l node ≡ false)
      (λ there.
      let differs : nat_eq node x ≡ false =
      ⊎_elim (λ same. absurd (true≢false (sym there ∙ ap (has from) (sym (eqb-true node x same)) ∙ absent))) (λ (e : nat_eq node x ≡ false). e) (cases_Bool (nat_eq node x)) in
      has-put_last x node to differs ∙ h)
      (λ _. h)

  others : (from : ℕ) (xs : List ℕ) → has xs node ≡ false → All (λ x. x ≢ node) (without_all (from ∷ []) xs)
  others from xs h = members≢ node (without_all (from ∷ []) xs) (not_in_without_all node (from ∷ []) xs h)

  -- ---- the draft of a call

  record Fine (t : Draft) : Type 0 where
    eager : has t.eager node ≡ false
    lazy : has t.lazy node ≡ false
    queue : All (λ a. MayBeSent node (ihave_of a)) t.queue
    missing : All (MayBeAsked node) t.missing
    out : All (MayBeSent node) t.out

  Fine-becomes_eager : (x : ℕ) (t : Draft) → Fine t → Fine (becomes_eager x t)
  Fine-becomes_eager x t h = record {
    eager = gained_lacks x t.lazy t.eager h.lazy h.eager;
    lazy = without-lacks x node t.lazy h.lazy;
    queue = h.queue;
    missing = h.missing;
    out = h.out;
  }

  Fine-becomes_lazy : (x : ℕ) (t : Draft) → Fine t → Fine (becomes_lazy x t)
  Fine-becomes_lazy x t h = record {
    eager = without-lacks x node t.eager h.eager;
    lazy = gained_lacks x t.eager t.lazy h.eager h.lazy;
    queue = h.queue;
    missing = h.missing;
    out = h.out;
  }

  Fine-send : (to : ℕ) (m : Message) (t : Draft) → to ≢ node → IsOfBroadcast m → Fine t → Fine (send to m t)
  Fine-send to m t other spelled h = record {
    eager = h.eager;
    lazy = h.lazy;
    queue = h.queue;
    missing = h.missing;
    out = All-push (MayBeSent node) t.out (Send to m) h.out (other, spelled);
  }

  Fine-gossip_to : (peers : List ℕ) (round : ℕ) (key : Key) (t : Draft) → All (λ x. x ≢ node) peers → Fine t → Fine (gossip_to peers round key t)
  Fine-gossip_to peers round key t other h = record {
    eager = h.eager;
    lazy = h.lazy;
    queue = h.queue;
    missing = h.missing;
    out = All-append (MayBeSent node) t.out (map (λ to. Gossip to round key) peers) h.out (All-map (MayBeSent node) (λ to. Gossip to round key) peers other);
  }

  Fine-announce_to : (peers : List ℕ) (round : ℕ) (key : Key) (vector : List Counter) (t : Draft) → All (λ x. x ≢ node) peers → IsMessage (IHave round key vector) → Fine t
      → Fine (announce_to peers round key vector t)
  Fine-announce_to peers round key vector t other spelled h = record {
    eager = h.eager;
    lazy = h.lazy;
    queue =
        All-append (λ a. MayBeSent node (ihave_of a)) t.queue (map (announcement_to round key vector) peers) h.queue
        (All-map (λ a. MayBeSent node (ihave_of a)) (announcement_to round key vector) peers
        (All-weaker (λ x. x ≢ node) (λ x. MayBeSent node (ihave_of (announcement_to round key vector x))) (λ x apart. (apart, spelled)) peers other));
    missing = h.missing;
    out = h.out;
  }

  Fine-keep : (m : MissingObject) (t : Draft) → MayBeAsked node m → Fine t → Fine (keep m t)
  Fine-keep m t may h = record {
    eager = h.eager;
    lazy = h.lazy;
    queue = h.queue;
    missing = All-push (MayBeAsked node) t.missing m h.missing may;
    out = h.out;
  }

  -- ---- what is missing

  abbrev Announces : Announcer → Type 0
  Announces a = (a.peer ≢ node) × (a.round < 2 ^ 16)

  with_announcer-may : (from round : ℕ) (m : MissingObject) → from ≢ node → round < 2 ^ 16 → MayBeAsked node m → MayBeAsked node (with_announcer from round m)
  with_announcer-may from round m other low may =
      cond_both (is_announced_by from m.announcers) m (record m { announcers = m.announcers ++ announcer from round ∷ [] }) (MayBeAsked node) (λ _. may)
      (λ _. (may.0, All-push Announces m.announcers (announcer from round) may.1 (other, low)))

  first-may : (from round : ℕ) (key : Key) (vector : List Counter) → from ≢ node → IsMessage (IHave round key vector) → MayBeAsked node (first_announced from round key vector)
  first-may from round key vector other spelled =
      ((omega arith, spelled.1), All-cons Announces (announcer from round) [] (other, spelled.0) (All-nil Announces))

  noted_at-may : (o : Option ℕ) (from round : ℕ) (key : Key) (vector : List Counter) (ms : List MissingObject) → from ≢ node → IsMessage (IHave round key vector)
      → All (MayBeAsked node) ms → All (MayBeAsked node) (noted_at o from round key vector ms)
  noted_at-may None from round key vector ms other spelled h =
      All-push (MayBeAsked node) ms (first_announced from round key vector) h (first-may from round key vector other spelled)
  noted_at-may (Some i) from round key vector ms other spelled h =
      let new = first_announced from round key vector in
      let old = slice_index_or ms i new in
      All-set (MayBeAsked node) ms i (with_announcer from round old)
      (with_announcer-may from round old other spelled.0 (index_all (MayBeAsked node) ms i new h (first-may from round key vector other spelled))) h

  -- ---- a tick

  Fine-ask_first : (m : MissingObject) (rest : List Announcer) (t : Draft) → IsMessage (Graft 0 m.key m.vector) → All Announces rest → Fine t → Fine (ask_first m rest t)
  Fine-ask_first m [] t spelled may h = h
  Fine-ask_first m (a ∷ rest) t spelled may h =
      let first = All-head Announces a rest may in
      let asked = Graft a.round m.key m.vector in
      Fine-keep (record m { announcers = rest; ticks = 1 }) (send a.peer asked (becomes_eager a.peer t)) (spelled, All-tail Announces a rest may)
      (Fine-send a.peer asked (becomes_eager a.peer t) first.0 (first.1, spelled.1) (Fine-becomes_eager a.peer t h))

  Fine-tick_one : (m : MissingObject) (t : Draft) → MayBeAsked node m → Fine t → Fine (tick_one m t)
  unfolding tick_one
  Fine-tick_one m t may h =
      cond_both (nat_lt 1 m.ticks) (keep (record m { ticks = m.ticks - 1 }) t) (ask_first m m.announcers t) Fine
      (λ _. Fine-keep (record m { ticks = m.ticks - 1 }) t may h)
      (λ _. Fine-ask_first m m.announcers t may.0 may.1 h)

  Fine-tick_each : (ms : List MissingObject) (t : Draft) → All (MayBeAsked node) ms → Fine t → Fine (tick_each ms t)
  Fine-tick_each [] t may h = h
  Fine-tick_each (m ∷ ms) t may h =
      Fine-tick_each ms (tick_one m t) (All-tail (MayBeAsked node) m ms may) (Fine-tick_one m t (All-head (MayBeAsked node) m ms may) h)

  -- ---- the calls

  Fine-up : (x : ℕ) (t : Draft) → x ≢ node → Fine t → Fine (up x t)
  unfolding up
  Fine-up x t other h =
      cond_both (has t.eager x || has t.lazy x) t (record t { eager = put_last x t.eager }) Fine (λ _. h)
      (λ _.
      let differs : nat_eq node x ≡ false = ⊎_elim (λ same. absurd (other (sym (eqb-true node x same)))) (λ (e : nat_eq node x ≡ false). e) (cases_Bool (nat_eq node x)) in
      record {
        eager = has-put_last x node t.eager differs ∙ h.eager;
        lazy = h.lazy;
        queue = h.queue;
        missing = h.missing;
        out = h.out;
      })

  Fine-down : (x : ℕ) (t : Draft) → Fine t → Fine (down x t)
  unfolding down
  Fine-down x t h = record {
    eager = without-lacks x node t.eager h.eager;
    lazy = without-lacks x node t.lazy h.lazy;
    queue = All-filter (is_not_to x) (λ a. MayBeSent node (ihave_of a)) t.queue h.queue;
    missing =
        All-map (MayBeAsked node) (without_announcer x) t.missing
        (All-weaker (MayBeAsked node) (λ m. MayBeAsked node (without_announcer x m)) (λ m may. (may.0, All-filter (is_not_by x) Announces m.announcers may.1)) t.missing h.missing);
    out = h.out;
  }

  Fine-on_fresh : (from round : ℕ) (key : Key) (vector : List Counter) (t : Draft) → IsMessage (IHave round key vector) → Fine t → Fine (on_fresh from round key vector t)
  unfolding on_fresh
  Fine-on_fresh from round key vector t spelled h =
      let next = next_round round in
      let gossiped = gossip_to (without_all (from ∷ []) t.eager) next key t in
      let told = announce_to (without_all (from ∷ []) t.lazy) next key vector gossiped in
      Fine-becomes_eager from told
      (Fine-announce_to (without_all (from ∷ []) t.lazy) next key vector gossiped (others from t.lazy h.lazy) (round_below (round + 1), spelled.1)
      (Fine-gossip_to (without_all (from ∷ []) t.eager) next key t (others from t.eager h.eager) h))

  Fine-on_ihave : (from round : ℕ) (key : Key) (vector : List Counter) (stale : Bool) (t : Draft) → from ≢ node → IsMessage (IHave round key vector) → Fine t
      → Fine (on_ihave from round key vector stale t)
  unfolding on_ihave
  Fine-on_ihave from round key vector stale t other spelled h =
      cond_both stale t (record t { missing = noted from round key vector t.missing }) Fine (λ _. h)
      (λ _. record {
        eager = h.eager;
        lazy = h.lazy;
        queue = h.queue;
        missing = noted_at-may (position (is_of key vector) t.missing) from round key vector t.missing other spelled h.missing;
        out = h.out;
      })

  Fine-on_graft : (from round : ℕ) (key : Key) (held : Bool) (t : Draft) → from ≢ node → Fine t → Fine (on_graft from round key held t)
  unfolding on_graft
  Fine-on_graft from round key held t other h =
      Fine-gossip_to (cond held (from ∷ []) []) round key (becomes_eager from t)
      (cond_both held (from ∷ []) [] (All (λ x. x ≢ node)) (λ _. All-cons (λ x. x ≢ node) from [] other (All-nil (λ x. x ≢ node))) (λ _. All-nil (λ x. x ≢ node)))
      (Fine-becomes_eager from t h)

  Fine-on_tick : (t : Draft) → Fine t → Fine (on_tick t)
  unfolding on_tick
  Fine-on_tick t h =
      Fine-tick_each t.missing (none_missing (send_announcements t)) h.missing
      (record {
        eager = h.eager;
        lazy = h.lazy;
        queue = All-nil (λ a. MayBeSent node (ihave_of a));
        missing = All-nil (MayBeAsked node);
        out = All-append (MayBeSent node) t.out (map ihave_of t.queue) h.out (All-map (MayBeSent node) ihave_of t.queue h.queue);
      })

  Fine-call : (call : CastCall) (t : Draft) → MayCome node call → Fine t → Fine (row call t)
  unfolding on_broadcast on_stale on_prune on_change
  Fine-call (Up x) t may h = Fine-up x t may h
  Fine-call (Down x) t may h = Fine-down x t h
  Fine-call (Broadcasts key vector) t may h =
      Fine-announce_to t.lazy 0 key vector (gossip_to t.eager 0 key t) (members≢ node t.lazy h.lazy) may (Fine-gossip_to t.eager 0 key t (members≢ node t.eager h.eager) h)
  Fine-call (TakesFresh from round key vector) t may h = Fine-on_fresh from round key vector t may.1 h
  Fine-call (TakesStale from) t may h = Fine-send from Prune (becomes_lazy from t) may refl (Fine-becomes_lazy from t h)
  Fine-call (TakesPrune from) t may h = Fine-becomes_lazy from t h
  Fine-call (TakesIHave from round key vector stale) t may h = Fine-on_ihave from round key vector stale t may.0 may.1 h
  Fine-call (TakesGraft from round key held) t may h = Fine-on_graft from round key held t may h
  Fine-call (Changes key vector) t may h = record {
    eager = h.eager;
    lazy = h.lazy;
    queue = h.queue;
    missing = All-filter (is_still_missing key vector) (MayBeAsked node) t.missing h.missing;
    out = h.out;
  }
  Fine-call Tick t may h = Fine-on_tick t h

empty_names : (node : ℕ) → NamesOthers node empty
empty_names node = record {
  eager = refl;
  lazy = refl;
  queue = All-nil (λ a. MayBeSent node (ihave_of a));
  missing = All-nil (MayBeAsked node);
}

call_tells : (node : ℕ) (b : Broadcast) (call : CastCall) → NamesOthers node b → MayCome node call → TellsOthers node b call
call_tells node b call names may =
    let start : Fine node (draft_of b) = record {
      eager = names.eager;
      lazy = names.lazy;
      queue = names.queue;
      missing = names.missing;
      out = All-nil (MayBeSent node);
    } in
    let end = Fine-call node call (draft_of b) may start in
    record {
      out = end.out;
      broadcast = record { eager = end.eager; lazy = end.lazy; queue = end.queue; missing = end.missing };
    }

pub sends_to_others : SendsToOthers
sends_to_others = record { begins = empty_names; goes_on = call_tells }
