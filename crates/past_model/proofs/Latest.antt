-- The moments at which what a node knows now, and its images, stand.
use Rattle.std.proofs.Common.{◌≡◌, ℕ, ◌+◌, ◌<◌, ◌≤◌, true, false, cond, zero, suc, List, [], ◌∷◌, length, take, get_or, sym, ap, refl, subst, ◌∙◌, arith, ⊎_elim, inl, inr, Some}
use Rattle.std.specs.Prelude.{slice_get, ◌⊎◌}
use Rattle.std.proofs.lemmas.Bool.{cases_eq}
use Rattle.std.proofs.lemmas.Option.{get_or_from_slice_get}
use Rattle.past_model.specs.declared.happening.Happening.{Happening}
use Rattle.past_model.specs.Past.{Past, happens, past}
use Rattle.past_model.specs.Moment.{Marks, GivesSets, GivesBoth, AreMoments, IsLatest, IsImage, node_of, makes_image}
use Rattle.past_model.proofs.Walking.{take_next, known-other, standing-other, last_step, image_after, first_image, image_made, made_by_node}

-- the happening at a place
pub there : (hs : List Happening) (i : ℕ) (h g : Happening) → i < length hs → h ≡ get_or hs i h → slice_get hs i ≡ Some g → g ≡ h
there hs i h g lt is at = sym (get_or_from_slice_get hs i g h at) ∙ sym is

-- there is one
pub inside : {X : Type 0} (xs : List X) (i : ℕ) → i < length xs → (x : X) × (slice_get xs i ≡ Some x)
inside [] i lt = absurd (omega arith)
inside (x ∷ xs) zero lt = (x, refl)
inside (x ∷ xs) (suc i) lt = inside xs i (omega arith)

pub latest_here : (hs : List Happening) (i n : ℕ) (h : Happening) → i < length hs → h ≡ get_or hs i h → node_of h ≡ n → IsLatest hs (i + 1) n (i + 1)
latest_here hs i n h lt is mine = record {
  within = omega arith;
  of_node = λ p g e at.
      let same : i ≡ p = omega arith in
      ap node_of (there hs i h g lt is (subst (λ q. slice_get hs q ≡ Some g) (sym same) at)) ∙ mine;
  known = refl;
  standing = refl;
}

pub latest_other : (hs : List Happening) (i n m : ℕ) (h : Happening) → i < length hs → h ≡ get_or hs i h → (node_of h ≡ n → ⊥) → IsLatest hs i n m → IsLatest hs (i + 1) n m
latest_other hs i n m h lt is other l = record {
  within = let le : m ≤ i = l.within in omega arith;
  of_node = l.of_node;
  known = ap (λ s. s.known n) (take_next hs i h lt is) ∙ known-other (past (take i hs)) h n other ∙ l.known;
  standing = ap (λ s. s.standing n) (take_next hs i h lt is) ∙ standing-other (past (take i hs)) h n other ∙ l.standing;
}

-- what the moment's marks give
pub at_latest : (hs : List Happening) (ms : List Marks) (places n m : ℕ) (d : Marks) → AreMoments hs ms → places ≤ length hs → m < length ms → IsLatest hs places n m → GivesBoth hs (get_or ms m d) (past (take places hs)) n
at_latest hs ms places n zero d are le lt l = record {
  known = record { gives = λ k p. (are.first n d).known.gives k p ∙ ap (λ v. v k p) (sym l.known) };
  standing = record { gives = λ k p. (are.first n d).standing.gives k p ∙ ap (λ v. v k p) (sym l.standing) };
}
at_latest hs ms places n (suc q) d are le lt l =
    let within : suc q ≤ places = l.within in
    let at : (h : Happening) × (slice_get hs q ≡ Some h) = inside hs q (omega arith) in
    let one : suc q ≡ q + 1 = omega arith in
    let mine : node_of at.0 ≡ n = l.of_node q at.0 one at.1 in
    let gives : GivesBoth hs (get_or ms (q + 1) d) (past (take (q + 1) hs)) (node_of at.0) = are.later q at.0 d (omega arith) at.1 in
    let here : GivesBoth hs (get_or ms (suc q) d) (past (take (suc q) hs)) n =
    subst (λ m. GivesBoth hs (get_or ms m d) (past (take m hs)) n) (sym one) (subst (λ m. GivesBoth hs (get_or ms (q + 1) d) (past (take (q + 1) hs)) m) mine gives) in
    record {
      known = record { gives = λ k p. here.known.gives k p ∙ ap (λ v. v k p) (sym l.known) };
      standing = record { gives = λ k p. here.standing.gives k p ∙ ap (λ v. v k p) (sym l.standing) };
    }

-- ---- images

-- the images that a node made among the first happenings are counted, and the one looked for is not among them
pub record Counting (hs : List Happening) (i n j images : ℕ) : Type 0 where
  pub few : images ≤ i
  pub counted : images ≡ (past (take i hs)).last n
  pub ahead : (j ≡ 0) ⊎ (images < j)

pub counting_next : (hs : List Happening) (i n j images : ℕ) (h : Happening) → i < length hs → h ≡ get_or hs i h → makes_image n h ≡ true → (images + 1 ≡ j → ⊥) → Counting hs i n j images → Counting hs (i + 1) n j (images + 1)
counting_next hs i n j images h lt is makes other c = record {
  few = let le : images ≤ i = c.few in omega arith;
  counted =
      ap (λ x. x + 1) c.counted
      ∙ sym (ap (λ s. s.last n) (take_next hs i h lt is) ∙ last_step (past (take i hs)) h n ∙ ap (λ b. cond b ((past (take i hs)).last n + 1) ((past (take i hs)).last n)) makes);
  ahead = ⊎_elim (λ e. inl e) (λ ahead. inr (omega arith)) c.ahead;
}

pub counting_other : (hs : List Happening) (i n j images : ℕ) (h : Happening) → i < length hs → h ≡ get_or hs i h → makes_image n h ≡ false → Counting hs i n j images → Counting hs (i + 1) n j images
counting_other hs i n j images h lt is makes c = record {
  few = let le : images ≤ i = c.few in omega arith;
  counted =
      c.counted
      ∙ sym (ap (λ s. s.last n) (take_next hs i h lt is) ∙ last_step (past (take i hs)) h n ∙ ap (λ b. cond b ((past (take i hs)).last n + 1) ((past (take i hs)).last n)) makes);
  ahead = c.ahead;
}

-- the image is the one that this happening made
pub image_here : (hs : List Happening) (i places n j images : ℕ) (h : Happening) → i < length hs → i < places → h ≡ get_or hs i h → makes_image n h ≡ true → images + 1 ≡ j → Counting hs i n j images → IsImage hs places n j (i + 1)
image_here hs i places n j images h lt before is makes same c =
    let s : Past = past (take i hs) in
    let step : past (take (i + 1) hs) ≡ happens (past (take i hs)) h = take_next hs i h lt is in
    let number : j ≡ (past (take i hs)).last n + 1 = sym same ∙ ap (λ x. x + 1) c.counted in
    let last : (past (take (i + 1) hs)).last n ≡ (past (take i hs)).last n + 1 =
    ap (λ t. t.last n) step ∙ last_step (past (take i hs)) h n ∙ ap (λ b. cond b ((past (take i hs)).last n + 1) ((past (take i hs)).last n)) makes in
    record {
      within = omega arith;
      of_node = λ p g e at.
          let place : i ≡ p = omega arith in
          ap node_of (there hs i h g lt is (subst (λ q. slice_get hs q ≡ Some g) (sym place) at)) ∙ made_by_node h n makes;
      image =
          image_after hs (i + 1) places n j (omega arith) (omega arith)
          ∙ ap (λ m. (past (take (i + 1) hs)).images n m) number
          ∙ ap (λ t. t.images n ((past (take i hs)).last n + 1)) step
          ∙ image_made (past (take i hs)) h n makes
          ∙ sym (ap (λ t. t.standing n) step);
    }

-- there was none, so it is the empty one
pub image_none : (hs : List Happening) (places n j images : ℕ) → j ≤ (past (take places hs)).last n → Counting hs places n j images → IsImage hs places n j 0
image_none hs places n j images made c =
    let counted : images ≡ (past (take places hs)).last n = c.counted in
    let none : j ≡ 0 = ⊎_elim (λ e. e) (λ ahead. absurd (omega arith)) c.ahead in
    record {
      within = omega arith;
      of_node = λ p g e at. absurd (omega arith);
      image = ap (λ m. (past (take places hs)).images n m) none ∙ first_image (take places hs) n;
    }

-- what the moment of an image gives: its standing image
pub at_image : (hs : List Happening) (ms : List Marks) (places n j m : ℕ) (d : Marks) → AreMoments hs ms → places ≤ length hs → m < length ms → IsImage hs places n j m → GivesSets hs (get_or ms m d).standing ((past (take places hs)).images n j)
at_image hs ms places n j zero d are le lt l = record { gives = λ k p. (are.first n d).standing.gives k p ∙ ap (λ v. v k p) (sym l.image) }
at_image hs ms places n j (suc q) d are le lt l =
    let within : suc q ≤ places = l.within in
    let at : (h : Happening) × (slice_get hs q ≡ Some h) = inside hs q (omega arith) in
    let one : suc q ≡ q + 1 = omega arith in
    let mine : node_of at.0 ≡ n = l.of_node q at.0 one at.1 in
    let gives : GivesBoth hs (get_or ms (q + 1) d) (past (take (q + 1) hs)) (node_of at.0) = are.later q at.0 d (omega arith) at.1 in
    let here : GivesBoth hs (get_or ms (suc q) d) (past (take (suc q) hs)) n =
    subst (λ m. GivesBoth hs (get_or ms m d) (past (take m hs)) n) (sym one) (subst (λ m. GivesBoth hs (get_or ms (q + 1) d) (past (take (q + 1) hs)) m) mine gives) in
    record { gives = λ k p. here.standing.gives k p ∙ ap (λ v. v k p) (sym l.image) }
