-- The moment after one more happening.
use Rattle.std.proofs.Common.{◌≡◌, ℕ, ◌+◌, ◌<◌, ◌≤◌, Bool, true, false, cond, List, [], ◌∷◌, ◌++◌, length, length-append, take, get_or, sym, ap, refl, subst, ◌∙◌, arith, ⊎_elim, Option, Some, None, Result, Ok, Err}
use Rattle.std.specs.Prelude.{slice_get, ◌||◌, IfOk, IfSome}
use Rattle.std.proofs.Math.Bool.{or-false, and-false}
use Rattle.std.proofs.Math.Seq.{get_or-append_seam}
use Rattle.std.proofs.lemmas.List.{get_or_append_left}
use Rattle.std.proofs.lemmas.Option.{slice_get_read, slice_get_within}
use Rattle.meta_types.specs.Name.{Key}
use Rattle.meta_types.specs.Value.{ValueParts}
use Rattle.past_model.specs.declared.happening.Happening.{Happening}
use Rattle.past_model.specs.declared.happening.Happening.TheVariants.{Wrote, Looked, Sent, Got, Kept, Restarted}
use Rattle.past_model.specs.Sets.{Knowledge, knows_nothing, singleton, union, with_set, union_by_key}
use Rattle.meta_types.specs.Equal.{key_eq}
use Rattle.past_model.specs.Past.{Past, happens, past, read_of, with_write_known}
use Rattle.past_model.specs.History.{Fits, IsHistory}
use Rattle.past_model.specs.Moment.{Marks, GivesSets, GivesBoth, AreMoments, IsAccount, node_of, moment_read, is_write_under}
use Rattle.std.proofs.lemmas.Bool.{cases_lt}
use Rattle.meta_types.specs.Node.{IsNode}
use Rattle.past_model.proofs.Keys.{key_eq-true}
use Rattle.past_model.proofs.Sound.{set_at-here}
use Rattle.past_model.proofs.Told.{of_front, next_at, take_at, seen_at, load_at}

-- the marks are those of the moment after the happening at the place
pub record IsBehind (hs : List Happening) (place : ℕ) (m : Marks) : Type 0 where
  pub behind : (h : Happening) → slice_get hs place ≡ Some h → GivesBoth hs m (past (take (place + 1) hs)) (node_of h)

pub if_both : {X Y : Type 0} (r : Result X Y) (P Q R : X → Type 0) → ((x : X) → P x → Q x → R x) → IfOk r P → IfOk r Q → IfOk r R
if_both (Ok x) P Q R f p q = f x p q
if_both (Err e) P Q R f p q = tt

pub behind_step : (hs : List Happening) (place : ℕ) (h : Happening) (m : Marks) → slice_get hs place ≡ Some h → GivesSets hs m.known ((happens (past (take place hs)) h).known (node_of h)) → GivesSets hs m.standing ((happens (past (take place hs)) h).standing (node_of h)) → IsBehind hs place m
behind_step hs place h m at known standing = record {
  behind = λ g also.
      let it : h ≡ g = (let both : Some h ≡ Some g = sym at ∙ also in cc) in
      subst (λ x. GivesBoth hs m (past (take (place + 1) hs)) (node_of x)) it
      (subst (λ s. GivesBoth hs m s (node_of h)) (sym (take_at hs place h at)) (record { known = known; standing = standing }));
}

-- the happening that was read at the place
pub placed : (hs : List Happening) (place : ℕ) (h x : Happening) → place < length hs → h ≡ get_or hs place h → h ≡ x → slice_get hs place ≡ Some x
placed hs place h x lt is same = slice_get_read hs (length hs) place h refl lt is ∙ ap Some same

-- ---- a write

pub read_within : (hs : List Happening) (place n : ℕ) (k : Key) (v : ValueParts) (seen : Option ℕ) → Fits (take place hs) (Wrote n k v seen) → moment_read seen < place + 1
read_within hs place n k v None fits = omega arith
read_within hs place n k v (Some r) fits = let lt : r < place = (of_front hs place r (Looked fits.0 k) fits.1).0 in omega arith

pub read_small : (hs : List Happening) (place n : ℕ) (k : Key) (v : ValueParts) (seen : Option ℕ) → place < 18446744073709551616 → Fits (take place hs) (Wrote n k v seen) → IfSome seen (λ r. r + 1 < 18446744073709551616)
read_small hs place n k v None small fits = tt
read_small hs place n k v (Some r) small fits = let lt : r < place = (of_front hs place r (Looked fits.0 k) fits.1).0 in omega arith

-- what a write has read is what its moment knows
pub read_gives : (hs : List Happening) (ms : List Marks) (place n : ℕ) (k : Key) (v : ValueParts) (seen : Option ℕ) (d : Marks) → AreMoments hs ms → length ms ≡ place + 1 → Fits (take place hs) (Wrote n k v seen) → (w : Knowledge) × (GivesSets hs (get_or ms (moment_read seen) d).known w × (w k ≡ read_of (past (take place hs)) k seen))
read_gives hs ms place n k v None d are len fits = (knows_nothing, ((are.first 0 d).known, refl))
read_gives hs ms place n k v (Some r) d are len fits =
    let front : (r < place) × (slice_get hs r ≡ Some (Looked fits.0 k)) = of_front hs place r (Looked fits.0 k) fits.1 in
    let inside : r + 1 < length ms = omega (arith, front.0) in (
      (past (take (r + 1) hs)).known fits.0,
      (
        (are.later r (Looked fits.0 k) d inside front.1).known,
        sym (seen_at hs r place fits.0 k front.0 front.1),
      ),
    )

pub behind_write : (hs : List Happening) (place n : ℕ) (k : Key) (v : ValueParts) (seen : Option ℕ) (m : Marks) (w : Knowledge) → place < length hs → slice_get hs place ≡ Some (Wrote n k v seen) → w k ≡ read_of (past (take place hs)) k seen
    → GivesSets hs m.known (with_set ((past (take place hs)).known n) k (union ((past (take place hs)).known n k) (union (w k) (singleton place))))
    → ((u : Knowledge) → GivesSets hs m.known u → GivesSets hs m.standing (with_set ((past (take place hs)).standing n) k (u k)))
    → IsBehind hs place m
behind_write hs place n k v seen m w lt at read known standing =
    let s : Past = past (take place hs) in
    let here : (past (take place hs)).next ≡ place = next_at hs place (omega arith) in
    let set : Knowledge = with_set (s.known n) k (union (s.known n k) (union (read_of s k seen) (singleton s.next))) in
    let after : GivesSets hs m.known ((happens (past (take place hs)) (Wrote n k v seen)).known n) =
    subst (GivesSets hs m.known)
    ((λ i. with_set ((past (take place hs)).known n) k (union ((past (take place hs)).known n k) (union (read i) (singleton (sym here i)))))
    ∙ sym (set_at-here (past (take place hs)).known n (with_set ((past (take place hs)).known n) k (union ((past (take place hs)).known n k) (union (read_of (past (take place hs)) k seen) (singleton (past (take place hs)).next))))))
    known in
    behind_step hs place (Wrote n k v seen) m at after
    (subst (GivesSets hs m.standing)
    (sym (set_at-here (past (take place hs)).standing n (with_set ((past (take place hs)).standing n) k ((with_write_known n k v seen (past (take place hs))).known n k))))
    (standing ((happens (past (take place hs)) (Wrote n k v seen)).known n) after))

-- ---- a delivery

got_set : (v w : Knowledge) (k : Key) → with_set v k (union (v k) (w k)) ≡ union_by_key v (with_set knows_nothing k (w k))
got_set v w k = λ i l p.
    (elim (key_eq l k) as (λ b. key_eq l k ≡ b → cond b (union (v k) (w k)) (v l) p ≡ (v l p || cond b (w k) (knows_nothing l) p)) [
      | true ↦ λ e. ap (λ x. v x p || w k p) (sym (key_eq-true l k e))
      | false ↦ λ e. sym (or-false (v l p))
    ] refl) i

pub sent_within : (hs : List Happening) (place n i : ℕ) → Fits (take place hs) (Got n i) → i + 1 < place + 1
sent_within hs place n i fits = let lt : i < place = (of_front hs place i (Sent fits.0 fits.1.0) fits.1.1).0 in omega arith

pub sent_at : (hs : List Happening) (place n i : ℕ) (fits : Fits (take place hs) (Got n i)) → slice_get hs i ≡ Some (Sent fits.0 fits.1.0)
sent_at hs place n i fits = (of_front hs place i (Sent fits.0 fits.1.0) fits.1.1).1

pub behind_delivery : (hs : List Happening) (ms : List Marks) (place n i : ℕ) (now m : Marks) → place < length hs → length ms ≡ place + 1 → AreMoments hs ms → slice_get hs place ≡ Some (Got n i) → (fits : Fits (take place hs) (Got n i)) → GivesBoth hs now (past (take place hs)) n
    → ((v w : Knowledge) (q : ℕ) (k : Key) (d : Marks) → slice_get hs i ≡ Some (Sent q k) → GivesSets hs now.known v → GivesSets hs (get_or ms (i + 1) d).known w → GivesSets hs m.known (with_set v k (union (v k) (w k))))
    → m.standing ≡ now.standing → IsBehind hs place m
behind_delivery hs ms place n i now m lt len are at fits both known standing =
    let k : Key = fits.1.0 in
    let front : (i < place) × (slice_get hs i ≡ Some (Sent fits.0 fits.1.0)) = of_front hs place i (Sent fits.0 fits.1.0) fits.1.1 in
    let inside : i + 1 < length ms = omega (arith, front.0) in
    let gained : GivesSets hs m.known (with_set ((past (take place hs)).known n) fits.1.0 (union ((past (take place hs)).known n fits.1.0) ((past (take (i + 1) hs)).known fits.0 fits.1.0))) =
    known ((past (take place hs)).known n) ((past (take (i + 1) hs)).known fits.0) fits.0 fits.1.0 now front.1 both.known (are.later i (Sent fits.0 fits.1.0) now inside front.1).known in
    behind_step hs place (Got n i) m at
    (subst (GivesSets hs m.known)
    (got_set ((past (take place hs)).known n) ((past (take (i + 1) hs)).known fits.0) fits.1.0
    ∙ ap (union_by_key ((past (take place hs)).known n)) (sym (load_at hs i place fits.0 fits.1.0 front.0 front.1))
    ∙ sym (set_at-here (past (take place hs)).known n (union_by_key ((past (take place hs)).known n) ((past (take place hs)).load i))))
    gained)
    (subst (λ l. GivesSets hs l ((past (take place hs)).standing n)) (sym standing) both.standing)

-- ---- the other happenings

pub behind_look : (hs : List Happening) (place n : ℕ) (k : Key) (m : Marks) → slice_get hs place ≡ Some (Looked n k) → GivesBoth hs m (past (take place hs)) n → IsBehind hs place m
behind_look hs place n k m at both = behind_step hs place (Looked n k) m at both.known both.standing

pub behind_sending : (hs : List Happening) (place n : ℕ) (k : Key) (m : Marks) → slice_get hs place ≡ Some (Sent n k) → GivesBoth hs m (past (take place hs)) n → IsBehind hs place m
behind_sending hs place n k m at both = behind_step hs place (Sent n k) m at both.known both.standing

pub behind_keeping : (hs : List Happening) (place n : ℕ) (k : Key) (now m : Marks) → slice_get hs place ≡ Some (Kept n k) → GivesBoth hs now (past (take place hs)) n
    → m.known ≡ now.known
    → ((v w : Knowledge) → GivesSets hs now.standing v → GivesSets hs now.known w → GivesSets hs m.standing (with_set v k (w k)))
    → IsBehind hs place m
behind_keeping hs place n k now m at both known standing =
    behind_step hs place (Kept n k) m at
    (subst (λ l. GivesSets hs l ((past (take place hs)).known n)) (sym known) both.known)
    (subst (GivesSets hs m.standing)
    (sym (set_at-here (past (take place hs)).standing n (with_set ((past (take place hs)).standing n) k ((past (take place hs)).known n k))))
    (standing ((past (take place hs)).standing n) ((past (take place hs)).known n) both.standing both.known))

pub behind_restart : (hs : List Happening) (place n j : ℕ) (standing : List Bool) → slice_get hs place ≡ Some (Restarted n j) → GivesSets hs standing ((past (take place hs)).images n j) → IsBehind hs place (record { known = standing; standing = standing })
behind_restart hs place n j standing at gives =
    behind_step hs place (Restarted n j) (record { known = standing; standing = standing }) at
    (subst (GivesSets hs standing) (sym (set_at-here (past (take place hs)).known n ((past (take place hs)).images n j))) gives)
    (subst (GivesSets hs standing) (sym (set_at-here (past (take place hs)).standing n ((past (take place hs)).images n j))) gives)

-- ---- one moment more

-- the nodes of the first happenings are numbers of nodes
pub record NodesSoFar (hs : List Happening) (places : ℕ) : Type 0 where
  pub nodes : (p : ℕ) (h : Happening) → p < places → slice_get hs p ≡ Some h → IsNode (node_of h)

pub nodes_next : (hs : List Happening) (place : ℕ) → ((h : Happening) → slice_get hs place ≡ Some h → IsNode (node_of h)) → NodesSoFar hs place → NodesSoFar hs (place + 1)
nodes_next hs place here far = record {
  nodes = λ p h lt at.
      ⊎_elim (λ before. far.nodes p h before at)
      (λ there. let same : p ≡ place = omega arith in here h (subst (λ q. slice_get hs q ≡ Some h) same at))
      (cases_lt p place);
}

pub moments_next : (hs : List Happening) (ms items : List Marks) (place : ℕ) (m : Marks) → length ms ≡ place + 1 → AreMoments hs ms → IsBehind hs place m → items ≡ ms ++ m ∷ [] → AreMoments hs items
moments_next hs ms items place m len are behind is =
    subst (AreMoments hs) (sym is) (record {
      first = λ n d. subst (λ x. GivesBoth hs x (past []) n) (sym (get_or_append_left ms (m ∷ []) d 0 (omega arith))) (are.first n d);
      later = λ p h d lt at.
          ⊎_elim
          (λ before. subst (λ x. GivesBoth hs x (past (take (p + 1) hs)) (node_of h)) (sym (get_or_append_left ms (m ∷ []) d (p + 1) before)) (are.later p h d before at))
          (λ here.
          let most : p + 1 < length items = subst (λ l. p + 1 < length l) (sym is) lt in
          let long : length (ms ++ m ∷ []) ≡ length ms + 1 = length-append ms (m ∷ []) in
          let same : place ≡ p = omega arith in
          let last : length ms ≡ p + 1 = omega arith in
          let it : get_or (ms ++ m ∷ []) (p + 1) d ≡ m = ap (λ i. get_or (ms ++ m ∷ []) i d) (sym last) ∙ get_or-append_seam ms m [] d in
          subst (λ x. GivesBoth hs x (past (take (p + 1) hs)) (node_of h)) (sym it)
          (subst (λ q. GivesBoth hs m (past (take (q + 1) hs)) (node_of h)) same (behind.behind h (subst (λ q. slice_get hs q ≡ Some h) (sym same) at))))
          (cases_lt (p + 1) (length ms));
    })

pub account_whole : (hs : List Happening) (ms : List Marks) (place : ℕ) → IsHistory hs → place ≤ length hs → length hs ≤ place → length ms ≡ place + 1 → AreMoments hs ms → NodesSoFar hs place → IsAccount hs ms
account_whole hs ms place history most least len are far = record {
  history = history;
  nodes = λ p h at. let lt : p < length hs = slice_get_within hs p h at in far.nodes p h (omega arith) at;
  whole = let all : place ≡ length hs = omega arith in len ∙ ap (λ n. n + 1) all;
  moments = are;
}
