-- A tick in two steps is the tick.
use Rattle.std.proofs.Common.{◌≡◌, ◌-◌, Bool, true, false, cond, ◌||◌, List, [], ◌∷◌, ◌++◌, map, drop, length, nat_lt, refl, sym, ap, ◌∙◌, arith}
use Rattle.std.proofs.lemmas.Bool.{lt-ltb}
use Rattle.std.specs.List.{filter}
use Rattle.std.proofs.lemmas.List.{append-nil, append_assoc}
use Rattle.plumtree.specs.declared.entry.Announcer.{Announcer}
use Rattle.plumtree.specs.Missing.{MissingObject}
use Rattle.plumtree.specs.Draft.{Draft}
use Rattle.plumtree.specs.Rows.{ask_first, keep, none_missing, on_tick, send_announcements, tick_each, tick_one}
use Rattle.plumtree.specs.Broadcast.{Broadcast, Tick, broadcast_with, draft_of}
use Rattle.plumtree.specs.Lawful.{after_call}
use Rattle.plumtree.specs.Ticking.{Peers, graft_each, graft_first, graft_one, missing_after, stays_missing, ticked, with_peers}

-- the draft with this in place of what is missing
abbrev waiting : List MissingObject → Draft → Draft
waiting ms t = record t { missing = ms }

-- what is asked for doesn't depend on what else is missing
graft_first-apart : (m : MissingObject) (rest : List Announcer) (ms : List MissingObject) (t : Draft)
    → graft_first m rest (waiting ms t) ≡ waiting ms (graft_first m rest t)
graft_first-apart m [] ms t = refl
graft_first-apart m (a ∷ rest) ms t = refl

graft_one-apart : (m : MissingObject) (ms : List MissingObject) (t : Draft) → graft_one m (waiting ms t) ≡ waiting ms (graft_one m t)
unfolding graft_one
graft_one-apart m ms t =
    elim (nat_lt 1 m.ticks) as (λ b. cond b (waiting ms t) (graft_first m m.announcers (waiting ms t)) ≡ waiting ms (cond b t (graft_first m m.announcers t))) [
      | true ↦ refl
      | false ↦ graft_first-apart m m.announcers ms t
    ]

graft_each-apart : (os ms : List MissingObject) (t : Draft) → graft_each os (waiting ms t) ≡ waiting ms (graft_each os t)
graft_each-apart [] ms t = refl
graft_each-apart (m ∷ os) ms t = ap (graft_each os) (graft_one-apart m ms t) ∙ graft_each-apart os ms (graft_one m t)

-- nor does it change what waits
graft_first-queue : (m : MissingObject) (rest : List Announcer) (t : Draft) → (graft_first m rest t).queue ≡ t.queue
graft_first-queue m [] t = refl
graft_first-queue m (a ∷ rest) t = refl

graft_one-queue : (m : MissingObject) (t : Draft) → (graft_one m t).queue ≡ t.queue
unfolding graft_one
graft_one-queue m t =
    elim (nat_lt 1 m.ticks) as (λ b. (cond b t (graft_first m m.announcers t)).queue ≡ t.queue) [
      | true ↦ refl
      | false ↦ graft_first-queue m m.announcers t
    ]

graft_each-queue : (ms : List MissingObject) (t : Draft) → (graft_each ms t).queue ≡ t.queue
graft_each-queue [] t = refl
graft_each-queue (m ∷ ms) t = graft_each-queue ms (graft_one m t) ∙ graft_one-queue m t

-- ---- one object, and then each

-- what is left of an object, by whether it has a tick left
abbrev kept_of : Bool → List Announcer → MissingObject → List MissingObject
kept_of true rest m = (record m { ticks = m.ticks - 1 }) ∷ []
kept_of false [] m = []
kept_of false (a ∷ others) m = (record m { announcers = others; ticks = 1 }) ∷ []

abbrev kept : MissingObject → List MissingObject
kept m = kept_of (nat_lt 1 m.ticks) m.announcers m

tick_one-parts : (m : MissingObject) (t : Draft) → tick_one m t ≡ waiting (t.missing ++ kept m) (graft_one m t)
unfolding tick_one graft_one
tick_one-parts m t = step (nat_lt 1 m.ticks) m.announcers where
  step : (b : Bool) (rest : List Announcer) → cond b (keep (record m { ticks = m.ticks - 1 }) t) (ask_first m rest t)
      ≡ waiting (t.missing ++ kept_of b rest m) (cond b t (graft_first m rest t))
  step true rest = refl
  step false [] = ap (λ ms. waiting ms t) (sym (append-nil t.missing))
  step false (a ∷ others) = refl

kept-first : (f : MissingObject → MissingObject) (m : MissingObject) (b : Bool) (rest : List Announcer) (ms : List MissingObject)
    → f m ≡ cond b (record m { ticks = m.ticks - 1 }) (record m { announcers = drop 1 rest; ticks = 1 })
    → map f (cond (b || nat_lt 0 (length rest)) (m ∷ ms) ms) ≡ kept_of b rest m ++ map f ms
kept-first f m true rest ms e = ap (λ x. x ∷ map f ms) e
kept-first f m false [] ms e = refl
kept-first f m false (a ∷ others) ms e =
    ap (λ (b : Bool). map f (cond b (m ∷ ms) ms)) (lt-ltb 0 (length (a ∷ others)) (omega arith)) ∙ ap (λ x. x ∷ map f ms) e

missing_after-first : (m : MissingObject) (ms : List MissingObject) → missing_after (m ∷ ms) ≡ kept m ++ missing_after ms
unfolding ticked
missing_after-first m ms = kept-first ticked m (nat_lt 1 m.ticks) m.announcers (filter stays_missing ms) refl

tick_each-parts : (ms : List MissingObject) (t : Draft) → tick_each ms t ≡ waiting (t.missing ++ missing_after ms) (graft_each ms t)
tick_each-parts [] t = ap (λ ms. waiting ms t) (sym (append-nil t.missing))
tick_each-parts (m ∷ ms) t =
    let now = t.missing ++ kept m in
    let asked = graft_one m t in
    ap (tick_each ms) (tick_one-parts m t) ∙ tick_each-parts ms (waiting now asked)
    ∙ ap (waiting (now ++ missing_after ms)) (graft_each-apart ms now asked)
    ∙ ap (λ left. waiting left (graft_each ms asked)) (append_assoc t.missing (kept m) (missing_after ms) ∙ ap (λ left. t.missing ++ left) (sym (missing_after-first m ms)))

-- ---- the tick

abbrev begun : Draft → Draft
begun t = none_missing (send_announcements t)

pub on_tick-parts : (t : Draft) → on_tick t ≡ waiting (missing_after t.missing) (graft_each t.missing (begun t))
unfolding on_tick
on_tick-parts t = tick_each-parts t.missing (begun t)

-- what it leaves, with these peers
pub tick_made : (peers : Peers) (b : Broadcast) → with_peers peers (after_call b Tick) ≡ broadcast_with peers.eager peers.lazy [] (missing_after b.missing)
tick_made peers b =
    let is = on_tick-parts (draft_of b) in
    let queue : (after_call b Tick).queue ≡ [] = ap (λ (t : Draft). t.queue) is ∙ graft_each-queue b.missing (begun (draft_of b)) in
    let missing : (after_call b Tick).missing ≡ missing_after b.missing = ap (λ (t : Draft). t.missing) is in
    λ i. broadcast_with peers.eager peers.lazy (queue i) (missing i)
