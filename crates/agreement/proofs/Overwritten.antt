-- A write that is overwritten in all that is left is never a sibling again.
use Rattle.std.proofs.Common.{◌≡◌, ℕ, ◌<◌, ◌≤◌, true, List, [], ◌∷◌, ◌++◌, length, map, ◌≢◌, sym, ap, refl, subst, ◌∙◌, arith, inl, inr, Option, ⊎_elim}
use Rattle.std.specs.Prelude.{◌||◌, ◌&&◌, not}
use Rattle.std.proofs.lemmas.Bool.{false≢true, or_left, or_right, or_cases, and_parts, and_from, eq-eqb, eqb-true}
use Rattle.meta_types.specs.Name.{Key}
use Rattle.meta_types.specs.Value.{ValueParts}
use Rattle.past_model.specs.declared.happening.Happening.{Happening}
use Rattle.past_model.specs.declared.happening.Happening.TheVariants.{Wrote, Looked, Sent, Got, Kept, Restarted}
use Rattle.past_model.specs.Sets.{Places, singleton, union}
use Rattle.past_model.specs.Past.{Past, Write, In, start, happens, run, past, known, writes, read_of}
use Rattle.past_model.specs.Shown.{was_read, Shows}
use Rattle.past_model.specs.Arisen.{IsObjectKnown}
use Rattle.past_model.proofs.Placed.{ordered}
use Rattle.past_model.proofs.Showing.{object_shows}
use Rattle.dvvset.specs.Object.{Entry}
use Rattle.dvvset.specs.Clock.{values_of}
use Rattle.past_model.proofs.Closed.{was_read-union}
use Rattle.past_model.proofs.Placed.{written, writes-after}
use Rattle.past_model.proofs.Reached.{after_write}
use Rattle.past_model.proofs.Staying.{run_append, past-next}
use Rattle.agreement.specs.Left.{IsAmong, HasOverwritten, IsShown, OfAllLeft, OfStandingLeft, newest_image}
use Rattle.agreement.proofs.Remaining.{Remaining, IsKept, NewHas, Remaining-happens, Remaining-weaken}
use Rattle.agreement.proofs.Forgotten.{starts}

-- no context needs the property
abbrev pub NoContext : ℕ → Type 0
NoContext r = ⊥

over_both : (ws : List Write) (p : ℕ) (S T : Places) → HasOverwritten ws p S → HasOverwritten ws p T → HasOverwritten ws p (union S T)
over_both ws p S T left right has =
    was_read-union ws S T p
    ∙ ⊎_elim
    (λ e. or_left (was_read ws S p) (was_read ws T p) (left e))
    (λ e. or_right (was_read ws S p) (was_read ws T p) (right e))
    (or_cases (S p) (T p) has)

over_kept : (ws : List Write) (p : ℕ) → IsKept (HasOverwritten ws p)
over_kept ws p = record { none = λ e. absurd (false≢true e); both = over_both ws p }

-- more writes read no less
over_more : (s : Past) (h : Happening) (p : ℕ) (S : Places) → HasOverwritten s.writes p S → HasOverwritten (happens s h).writes p S
over_more s h p S over has =
    writes-after (λ ws. was_read ws S p ≡ true) s h (over has)
    (λ n k v r. or_right (S (written s n k v r).place && (written s n k v r).read p) (was_read s.writes S p) (over has))

-- what a node knows once it wrote: if the context had the old write, the new one has read it
over_written : (s : Past) (n : ℕ) (k : Key) (v : ValueParts) (r : Option ℕ) (p bound : ℕ) → p < bound → bound ≤ s.next → HasOverwritten s.writes p (s.known n k) → HasOverwritten (written s n k v r ∷ s.writes) p (after_write s n k r)
over_written s n k v r p bound lt le over has =
    let S : Places = after_write s n k r in
    let itself : after_write s n k r s.next ≡ true =
    or_right (s.known n k s.next) (read_of s k r s.next || (singleton s.next s.next)) (or_right (read_of s k r s.next) (singleton s.next s.next) (eq-eqb s.next s.next refl)) in
    ⊎_elim
    (λ e.
    or_right (after_write s n k r s.next && read_of s k r p) (was_read s.writes (after_write s n k r) p)
    (was_read-union s.writes (s.known n k) (union (read_of s k r) (singleton s.next)) p
    ∙ or_left (was_read s.writes (s.known n k) p) (was_read s.writes (union (read_of s k r) (singleton s.next)) p) (over e)))
    (λ more.
    ⊎_elim
    (λ e.
    or_left (after_write s n k r s.next && read_of s k r p) (was_read s.writes (after_write s n k r) p)
    (and_from (after_write s n k r s.next) (read_of s k r p) itself e))
    (λ e. let same : p ≡ s.next = eqb-true p s.next e in absurd (omega (arith, lt, le, same)))
    (or_cases (read_of s k r p) (singleton s.next p) more))
    (or_cases (s.known n k p) (read_of s k r p || singleton s.next p) has)

over_new : (k : Key) (p bound : ℕ) → p < bound → (s : Past) (h : Happening) → bound ≤ s.next → ((n : ℕ) → HasOverwritten s.writes p (s.known n k)) → NewHas (HasOverwritten (happens s h).writes p) k s h
over_new k p bound lt s (Wrote n l v r) le nodes =
    λ same. over_written s n l v r p bound lt le (subst (λ x. HasOverwritten s.writes p (s.known n x)) (sym same) (nodes n))
over_new k p bound lt s (Looked n l) le nodes = tt
over_new k p bound lt s (Sent n l) le nodes = tt
over_new k p bound lt s (Got n i) le nodes = tt
over_new k p bound lt s (Kept n l) le nodes = tt
over_new k p bound lt s (Restarted n j) le nodes = tt

over_run : (k : Key) (p bound : ℕ) → p < bound → (newest : ℕ → ℕ) (after : List Happening) (s : Past) (hs : List Happening) → ((h : Happening) → IsAmong h hs → IsAmong h after) → bound ≤ s.next → Remaining (HasOverwritten s.writes p) NoContext k newest after s → Remaining (HasOverwritten (run s hs).writes p) NoContext k newest after (run s hs)
over_run k p bound lt newest after s [] sub le all = all
over_run k p bound lt newest after s (h ∷ hs) sub le all =
    over_run k p bound lt newest after (happens s h) hs (λ g among. sub g (inr among)) (omega (arith, le))
    (Remaining-happens (HasOverwritten (happens s h).writes p) NoContext (over_kept (happens s h).writes p) k newest after s h (sub h (inl refl))
    (Remaining-weaken (HasOverwritten s.writes p) (HasOverwritten (happens s h).writes p) NoContext k newest after s (over_more s h p) all)
    (over_new k p bound lt s h le all.nodes))

-- no sibling had been read
not_shown : (hs : List Happening) (n : ℕ) (k : Key) (w : Write) → HasOverwritten (writes hs) w.place (known hs n k) → IsShown hs n k w → ⊥
not_shown hs n k w over is =
    let parts : (known hs n k w.place ≡ true) × (not (was_read (writes hs) (known hs n k) w.place) ≡ true) =
    and_parts (known hs n k w.place) (not (was_read (writes hs) (known hs n k) w.place)) is.1 in
    false≢true (sym (ap not (over parts.0)) ∙ parts.1)

pub overwritten : (before after : List Happening) (k : Key) (p : ℕ) → p < length before → OfAllLeft (HasOverwritten (writes before) p) before after k → OfStandingLeft (HasOverwritten (writes before) p) before after k → (n : ℕ) (w : Write) → w.place ≡ p → IsShown (before ++ after) n k w → ⊥
overwritten before after k p old left standing n w at is =
    let next : (past before).next ≡ length before = past-next before in
    let first : Remaining (HasOverwritten (past before).writes p) NoContext k (newest_image before) after (past before) =
    starts (HasOverwritten (past before).writes p) k before after NoContext (λ e. absurd (false≢true e)) left standing (λ r none. absurd none) in
    let last : Remaining (HasOverwritten (run (past before) after).writes p) NoContext k (newest_image before) after (run (past before) after) =
    over_run k p (length before) old (newest_image before) after (past before) after (λ h among. among) (omega (arith, next)) first in
    let there : HasOverwritten (writes (before ++ after)) p (known (before ++ after) n k) =
    subst (λ s. HasOverwritten s.writes p (s.known n k)) (sym (run_append start before after)) (last.nodes n) in
    not_shown (before ++ after) n k w (subst (λ q. HasOverwritten (writes (before ++ after)) q (known (before ++ after) n k)) (sym at) there) is

-- the values of an object are those of siblings, and so of other writes
pub other_values : (before after : List Happening) (k : Key) (p : ℕ) → p < length before → OfAllLeft (HasOverwritten (writes before) p) before after k → OfStandingLeft (HasOverwritten (writes before) p) before after k → (n : ℕ) (object : List Entry) → IsObjectKnown (before ++ after) n k object → (shown : List Write) × ((values_of object ≡ map (λ w. w.value) shown) × ((w : Write) → In w shown → w.place ≢ p))
other_values before after k p old left standing n object is =
    let shows : Shows (writes (before ++ after)) (known (before ++ after) n k) (values_of object) =
    object_shows (writes (before ++ after)) k (known (before ++ after) n k) object (ordered (before ++ after)).falling is in
    (shows.siblings, (shows.of_siblings, λ w among at. overwritten before after k p old left standing n w at ((shows.are.members w).0 among)))
