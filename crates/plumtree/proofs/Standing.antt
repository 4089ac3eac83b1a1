-- Each call keeps each peer in one of the two lists, and changes who is a peer as stated.
use Rattle.std.proofs.Common.{◌≡◌, ℕ, Bool, true, false, cond, not, ◌||◌, ◌&&◌, List, [], ◌∷◌, nat_eq, nat_lt, ⊎_elim, refl, sym, ap, subst, ◌∙◌, true≢false}
use Rattle.std.proofs.lemmas.Bool.{eqb-true, cases_Bool, or_parts, cond_both}
use Rattle.std.proofs.Math.Bool.{or-false, and-true, and-false, or_comm}
use Rattle.std.specs.List.{IsDistinct}
use Rattle.peer_lists.specs.Lists.{has, without, put_last}
use Rattle.peer_lists.proofs.Members.{has-self, has-put_last, has-put_last_same, has-without_other, has-without_same, or_right, without-lacks}
use Rattle.plumtree.specs.declared.entry.Announcer.{Announcer}
use Rattle.plumtree.specs.Missing.{MissingObject}
use Rattle.plumtree.specs.Draft.{Draft, gained, becomes_eager, becomes_lazy}
use Rattle.plumtree.specs.Rows.{up, down, on_broadcast, on_fresh, on_stale, on_prune, on_ihave, on_graft, on_change, on_tick, ask_first, tick_each, tick_one, none_missing, send_announcements}
use Rattle.plumtree.specs.Broadcast.{Broadcast, CastCall, Up, Down, Broadcasts, TakesFresh, TakesStale, TakesPrune, TakesIHave, TakesGraft, Changes, Tick, draft_of, empty}
use Rattle.plumtree.specs.Lawful.{AreLinks, HasLinks, broadcast_after, after_call, StayLinks, PeersComeAndGo, is_peer, is_peer_after}
use Rattle.plumtree.proofs.Peers.{AreLinks-eager, AreLinks-lazy, AreLinks-up, AreLinks-without}

-- whether y is in one of two lists
abbrev among : List ℕ → List ℕ → ℕ → Bool
among E Z y = has E y || has Z y

has-without_absent : (x y : ℕ) (xs : List ℕ) → has xs x ≡ false → has (without x xs) y ≡ has xs y
has-without_absent x y xs absent =
    ⊎_elim
    (λ same.
    subst (λ (n : ℕ). has (without x xs) n ≡ has xs n) (sym (eqb-true y x same)) (without-lacks x x xs absent ∙ sym absent))
    (λ differs. has-without_other x y xs differs)
    (cases_Bool (nat_eq y x))

among-eager : (x y : ℕ) (E Z : List ℕ) → AreLinks E Z → among (gained x Z E) (without x Z) y ≡ among E Z y
among-eager x y E Z h =
    (elim (has Z x) as (λ b. has Z x ≡ b → (has (cond b (put_last x E) E) y || has (without x Z) y) ≡ among E Z y) [
      | true ↦ λ there.
          ⊎_elim
          (λ same.
          subst (λ (n : ℕ). (has (put_last x E) n || has (without x Z) n) ≡ among E Z n) (sym (eqb-true y x same))
          (ap (λ b. b || has (without x Z) x) (has-put_last_same x E) ∙ sym (or_right (has E x) (has Z x) there)))
          (λ differs. λ i. has-put_last x y E differs i || has-without_other x y Z differs i)
          (cases_Bool (nat_eq y x))
      | false ↦ λ absent. ap (λ b. has E y || b) (has-without_absent x y Z absent)
    ]) refl

swapped : (E Z : List ℕ) → AreLinks E Z → AreLinks Z E
swapped E Z h =
    record {
      eager_once = h.lazy_once;
      lazy_once = h.eager_once;
      disjoint = λ y e. ⊎_elim (λ there. absurd (true≢false (sym e ∙ h.disjoint y there))) (λ (lacks : has E y ≡ false). lacks) (cases_Bool (has E y));
    }

among-lazy : (x y : ℕ) (E Z : List ℕ) → AreLinks E Z → among (without x E) (gained x E Z) y ≡ among E Z y
among-lazy x y E Z h =
    or_comm (has (without x E) y) (has (gained x E Z) y) ∙ among-eager x y Z E (swapped E Z h) ∙ or_comm (has Z y) (has E y)

among-without : (x y : ℕ) (E Z : List ℕ) → AreLinks E Z → among (without x E) (without x Z) y ≡ (among E Z y && not (nat_eq y x))
among-without x y E Z h =
    ⊎_elim
    (λ same.
    subst (λ (n : ℕ). among (without x E) (without x Z) n ≡ (among E Z n && not (nat_eq n x))) (sym (eqb-true y x same))
    (ap (λ b. b || has (without x Z) x) (has-without_same x E h.eager_once) ∙ has-without_same x Z h.lazy_once
    ∙ sym (ap (λ b. among E Z x && not b) (has-self x) ∙ and-false (among E Z x))))
    (λ differs. (λ i. has-without_other x y E differs i || has-without_other x y Z differs i)
    ∙ sym (ap (λ b. among E Z y && not b) differs ∙ and-true (among E Z y)))
    (cases_Bool (nat_eq y x))

among-put_last : (x y : ℕ) (E Z : List ℕ) → among (put_last x E) Z y ≡ (among E Z y || nat_eq y x)
among-put_last x y E Z =
    ⊎_elim
    (λ same.
    subst (λ (n : ℕ). among (put_last x E) Z n ≡ (among E Z n || nat_eq n x)) (sym (eqb-true y x same))
    (ap (λ b. b || has Z x) (has-put_last_same x E) ∙ sym (or_right (among E Z x) (nat_eq x x) (has-self x))))
    (λ differs. ap (λ b. b || has Z y) (has-put_last x y E differs) ∙ sym (ap (λ b. among E Z y || b) differs ∙ or-false (among E Z y)))
    (cases_Bool (nat_eq y x))

among-known : (x y : ℕ) (E Z : List ℕ) → among E Z x ≡ true → among E Z y ≡ (among E Z y || nat_eq y x)
among-known x y E Z there =
    ⊎_elim
    (λ same.
    subst (λ (n : ℕ). among E Z n ≡ (among E Z n || nat_eq n x)) (sym (eqb-true y x same))
    (there ∙ sym (ap (λ b. b || nat_eq x x) there)))
    (λ differs. sym (ap (λ b. among E Z y || b) differs ∙ or-false (among E Z y)))
    (cases_Bool (nat_eq y x))

-- ---- what a call that moves peers alone keeps

module _ (peers : ℕ → Bool) where
  record Keeps (E Z : List ℕ) : Type 0 where
    links : AreLinks E Z
    same : (y : ℕ) → among E Z y ≡ peers y

  abbrev Kept : Draft → Type 0
  Kept t = Keeps t.eager t.lazy

  Kept-eager : (x : ℕ) (t : Draft) → Kept t → Kept (becomes_eager x t)
  Kept-eager x t h = record {
    links = AreLinks-eager x t.eager t.lazy h.links;
    same = λ y. among-eager x y t.eager t.lazy h.links ∙ h.same y;
  }

  Kept-lazy : (x : ℕ) (t : Draft) → Kept t → Kept (becomes_lazy x t)
  Kept-lazy x t h = record {
    links = AreLinks-lazy x t.eager t.lazy h.links;
    same = λ y. among-lazy x y t.eager t.lazy h.links ∙ h.same y;
  }

  Kept-ask_first : (m : MissingObject) (rest : List Announcer) (t : Draft) → Kept t → Kept (ask_first m rest t)
  Kept-ask_first m [] t h = h
  Kept-ask_first m (a ∷ others) t h = Kept-eager a.peer t h

  Kept-tick_one : (m : MissingObject) (t : Draft) → Kept t → Kept (tick_one m t)
  unfolding tick_one
  Kept-tick_one m t h = cond_both (nat_lt 1 m.ticks) _ _ Kept (λ _. h) (λ _. Kept-ask_first m m.announcers t h)

  Kept-tick_each : (ms : List MissingObject) (t : Draft) → Kept t → Kept (tick_each ms t)
  Kept-tick_each [] t h = h
  Kept-tick_each (m ∷ ms) t h = Kept-tick_each ms (tick_one m t) (Kept-tick_one m t h)

-- ---- one call

links-call : (call : CastCall) (b : Broadcast) → HasLinks b → HasLinks (after_call b call)
unfolding up down on_broadcast on_fresh on_stale on_prune on_ihave on_graft on_change on_tick
links-call (Up x) b h =
    cond_both (has b.eager x || has b.lazy x) (draft_of b) _ (λ (t : Draft). AreLinks t.eager t.lazy) (λ _. h)
    (λ out. AreLinks-up x b.eager b.lazy (or_parts (has b.eager x) (has b.lazy x) out).1 h)
links-call (Down x) b h = AreLinks-without x b.eager b.lazy h
links-call (Broadcasts key vector) b h = h
links-call (TakesFresh from round key vector) b h = AreLinks-eager from b.eager b.lazy h
links-call (TakesStale from) b h = AreLinks-lazy from b.eager b.lazy h
links-call (TakesPrune from) b h = AreLinks-lazy from b.eager b.lazy h
links-call (TakesIHave from round key vector stale) b h =
    cond_both stale (draft_of b) _ (λ (t : Draft). AreLinks t.eager t.lazy) (λ _. h) (λ _. h)
links-call (TakesGraft from round key held) b h = AreLinks-eager from b.eager b.lazy h
links-call (Changes key vector) b h = h
links-call Tick b h =
    (Kept-tick_each (among b.eager b.lazy) b.missing (none_missing (send_announcements (draft_of b)))
    (record { links = h; same = λ _. refl })).links

peers-call : (call : CastCall) (b : Broadcast) (y : ℕ) → HasLinks b → is_peer y (after_call b call) ≡ is_peer_after call y (is_peer y b)
unfolding up down on_broadcast on_fresh on_stale on_prune on_ihave on_graft on_change on_tick
peers-call (Up x) b y h =
    cond_both (has b.eager x || has b.lazy x) (draft_of b) _ (λ (t : Draft). among t.eager t.lazy y ≡ (among b.eager b.lazy y || nat_eq y x))
    (λ there. among-known x y b.eager b.lazy there)
    (λ _. among-put_last x y b.eager b.lazy)
peers-call (Down x) b y h = among-without x y b.eager b.lazy h
peers-call (Broadcasts key vector) b y h = refl
peers-call (TakesFresh from round key vector) b y h = among-eager from y b.eager b.lazy h
peers-call (TakesStale from) b y h = among-lazy from y b.eager b.lazy h
peers-call (TakesPrune from) b y h = among-lazy from y b.eager b.lazy h
peers-call (TakesIHave from round key vector stale) b y h =
    cond_both stale (draft_of b) _ (λ (t : Draft). among t.eager t.lazy y ≡ among b.eager b.lazy y) (λ _. refl) (λ _. refl)
peers-call (TakesGraft from round key held) b y h = among-eager from y b.eager b.lazy h
peers-call (Changes key vector) b y h = refl
peers-call Tick b y h =
    (Kept-tick_each (among b.eager b.lazy) b.missing (none_missing (send_announcements (draft_of b)))
    (record { links = h; same = λ _. refl })).same y

-- ---- any list of calls

links-after : (calls : List CastCall) (b : Broadcast) → HasLinks b → HasLinks (broadcast_after b calls)
links-after [] b h = h
links-after (call ∷ calls) b h = links-after calls (after_call b call) (links-call call b h)

links-empty : HasLinks empty
unfolding IsDistinct
links-empty = record { eager_once = tt; lazy_once = tt; disjoint = λ x e. refl }

pub stay_links : StayLinks
stay_links = record {
  each_call = λ b call h. links-call call b h;
  every_list = λ calls. links-after calls empty links-empty;
}

pub peers_come_and_go : PeersComeAndGo
peers_come_and_go b call x h = peers-call call b x h
