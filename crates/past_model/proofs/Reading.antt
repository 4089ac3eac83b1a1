-- What a write had read, by the moment of its Looked, and whether a write of a set had read another.
use Rattle.std.proofs.Common.{◌≡◌, ℕ, ◌+◌, ◌<◌, ◌≤◌, Bool, true, false, List, ◌++◌, length, take, drop, get_or, sym, ap, refl, subst, ◌∙◌, arith, Option, Some, None}
use Rattle.std.specs.Prelude.{slice_get, ◌&&◌, ◌||◌}
use Rattle.std.specs.Option.{IfSome}
use Rattle.std.proofs.lemmas.Bool.{or_right}
use Rattle.std.proofs.Math.Seq.{take-length}
use Rattle.std.proofs.lemmas.List.{take-append-drop}
use Rattle.std.proofs.lemmas.Option.{slice_get_within, get_or_from_slice_get}
use Rattle.meta_types.specs.Name.{Key}
use Rattle.meta_types.specs.Value.{ValueParts}
use Rattle.past_model.specs.declared.happening.Happening.{Happening}
use Rattle.past_model.specs.declared.happening.Happening.TheVariants.{Wrote, Looked, Sent, Got, Kept, Restarted}
use Rattle.past_model.specs.Sets.{Places}
use Rattle.past_model.specs.Past.{Past, Write, past, writes, known, read, read_of}
use Rattle.past_model.specs.History.{IsHistory}
use Rattle.past_model.specs.Shown.{was_read}
use Rattle.past_model.specs.Moment.{Marks, GivesBoth, IsAccount, IsLatest, writes_of_happening, marked_places, is_write_under, moment_read}
use Rattle.past_model.proofs.Latest.{at_latest}
use Rattle.past_model.proofs.Keys.{key_eq-true}
use Rattle.past_model.proofs.Staying.{stays}
use Rattle.past_model.proofs.Counting.{writes_next}
use Rattle.past_model.proofs.Fitting.{fits_at}
use Rattle.past_model.proofs.Told.{of_front, next_at, seen_at}

-- the place where the happening stands, by its read of the list
pub read_back : (hs : List Happening) (i : ℕ) (h : Happening) → slice_get hs i ≡ Some h → h ≡ get_or hs i h
read_back hs i h at = sym (get_or_from_slice_get hs i h h at)

-- ---- what a write had read

-- the Looked that a write names stands before it
pub record LooksAt (hs : List Happening) (i : ℕ) (k : Key) (q : ℕ) : Type 0 where
  pub before : q < i
  pub node : ℕ
  pub at : slice_get hs q ≡ Some (Looked node k)

looks_at : (hs : List Happening) (i n : ℕ) (k : Key) (v : ValueParts) (q : ℕ) → IsHistory hs → slice_get hs i ≡ Some (Wrote n k v (Some q)) → LooksAt hs i k q
looks_at hs i n k v q is at =
    let fits : (m : ℕ) × (slice_get (take i hs) q ≡ Some (Looked m k)) = fits_at hs i (Wrote n k v (Some q)) is at in
    let front : (q < i) × (slice_get hs q ≡ Some (Looked fits.0 k)) = of_front hs i q (Looked fits.0 k) fits.1 in
    record { before = front.0; node = fits.0; at = front.1 }

-- there is a moment of what it had read
pub moment_within : (hs : List Happening) (ms : List Marks) (i n : ℕ) (k : Key) (v : ValueParts) (r : Option ℕ) → IsAccount hs ms → slice_get hs i ≡ Some (Wrote n k v r) → moment_read r < length ms
moment_within hs ms i n k v None is at = let whole : length ms ≡ length hs + 1 = is.whole in omega arith
moment_within hs ms i n k v (Some q) is at =
    let whole : length ms ≡ length hs + 1 = is.whole in
    let lt : i < length hs = slice_get_within hs i (Wrote n k v (Some q)) at in
    let before : q < i = (looks_at hs i n k v q is.history at).before in
    omega arith

pub moment_bound : (r : Option ℕ) (bound : ℕ) → moment_read r < bound → IfSome r (λ q. q + 1 < bound)
moment_bound None bound lt = tt
moment_bound (Some q) bound lt = lt

-- the marks of that moment
pub read_at : (hs : List Happening) (ms : List Marks) (i n : ℕ) (k : Key) (v : ValueParts) (r : Option ℕ) (d : Marks) (p : ℕ) → IsAccount hs ms → slice_get hs i ≡ Some (Wrote n k v r) → (is_write_under k (slice_get hs p) && marked_places (get_or ms (moment_read r) d).known p) ≡ read (take i hs) k r p
read_at hs ms i n k v None d p is at = (is.moments.first n d).known.gives k p
read_at hs ms i n k v (Some q) d p is at =
    let whole : length ms ≡ length hs + 1 = is.whole in
    let lt : i < length hs = slice_get_within hs i (Wrote n k v (Some q)) at in
    let looks : LooksAt hs i k q = looks_at hs i n k v q is.history at in
    let before : q < i = looks.before in
    let gives : GivesBoth hs (get_or ms (q + 1) d) (past (take (q + 1) hs)) looks.node = is.moments.later q (Looked looks.node k) d (omega arith) looks.at in
    gives.known.gives k p ∙ sym (ap (λ S. S p) (seen_at hs q i looks.node k before looks.at))

-- ---- whether a write of a set had read one

-- a write under the key
pub record WriteUnder (k : Key) (o : Option Happening) : Type 0 where
  pub node : ℕ
  pub value : ValueParts
  pub seen : Option ℕ
  pub is : o ≡ Some (Wrote node k value seen)

pub write_under : (k : Key) (o : Option Happening) → is_write_under k o ≡ true → WriteUnder k o
write_under k None e = absurd (cc)
write_under k (Some (Wrote n l v r)) e = record { node = n; value = v; seen = r; is = ap (λ x. Some (Wrote n x v r)) (key_eq-true l k e) }
write_under k (Some (Looked n l)) e = absurd (cc)
write_under k (Some (Sent n l)) e = absurd (cc)
write_under k (Some (Got n i)) e = absurd (cc)
write_under k (Some (Kept n l)) e = absurd (cc)
write_under k (Some (Restarted n j)) e = absurd (cc)

unmarked_made : (s : Past) (h : Happening) (ws : List Write) (S : Places) (p : ℕ) → S s.next ≡ false → was_read (writes_of_happening s h ++ ws) S p ≡ was_read ws S p
unmarked_made s (Wrote n k v r) ws S p e = ap (λ b. (b && read_of s k r p) || was_read ws S p) e
unmarked_made s (Looked n k) ws S p e = refl
unmarked_made s (Sent n k) ws S p e = refl
unmarked_made s (Got n i) ws S p e = refl
unmarked_made s (Kept n k) ws S p e = refl
unmarked_made s (Restarted n j) ws S p e = refl

-- a happening whose place is not in the set
pub read_unmarked : (hs : List Happening) (i : ℕ) (h : Happening) (S : Places) (p : ℕ) → i < length hs → slice_get hs i ≡ Some h → S i ≡ false → was_read (writes (take i hs)) S p ≡ false → was_read (writes (take (i + 1) hs)) S p ≡ false
read_unmarked hs i h S p lt at mark none =
    ap (λ ws. was_read ws S p) (writes_next hs i h lt (read_back hs i h at))
    ∙ unmarked_made (past (take i hs)) h (writes (take i hs)) S p (ap S (next_at hs i (omega arith)) ∙ mark)
    ∙ none

-- a write whose place is in the set
read_marked : (hs : List Happening) (i n : ℕ) (k : Key) (v : ValueParts) (r : Option ℕ) (S : Places) (p : ℕ) → i < length hs → slice_get hs i ≡ Some (Wrote n k v r) → S i ≡ true → was_read (writes (take (i + 1) hs)) S p ≡ (read (take i hs) k r p || was_read (writes (take i hs)) S p)
read_marked hs i n k v r S p lt at mark =
    ap (λ ws. was_read ws S p) (writes_next hs i (Wrote n k v r) lt (read_back hs i (Wrote n k v r) at))
    ∙ ap (λ b. (b && read (take i hs) k r p) || was_read (writes (take i hs)) S p) (ap S (next_at hs i (omega arith)) ∙ mark)

pub read_not : (hs : List Happening) (i n : ℕ) (k : Key) (v : ValueParts) (r : Option ℕ) (S : Places) (p : ℕ) → i < length hs → slice_get hs i ≡ Some (Wrote n k v r) → S i ≡ true → read (take i hs) k r p ≡ false → was_read (writes (take i hs)) S p ≡ false → was_read (writes (take (i + 1) hs)) S p ≡ false
read_not hs i n k v r S p lt at mark unread none =
    read_marked hs i n k v r S p lt at mark ∙ ap (λ b. b || was_read (writes (take i hs)) S p) unread ∙ none

-- one that had read it is among the writes of the whole history
pub read_here : (hs : List Happening) (i n : ℕ) (k : Key) (v : ValueParts) (r : Option ℕ) (S : Places) (p : ℕ) → i < length hs → slice_get hs i ≡ Some (Wrote n k v r) → S i ≡ true → read (take i hs) k r p ≡ true → was_read (writes hs) S p ≡ true
read_here hs i n k v r S p lt at mark e =
    let here : was_read (writes (take (i + 1) hs)) S p ≡ true = read_marked hs i n k v r S p lt at mark ∙ ap (λ b. b || was_read (writes (take i hs)) S p) e in
    let more : was_read (writes (take (i + 1) hs ++ drop (i + 1) hs)) S p ≡ true =
    stays (λ ws. was_read ws S p ≡ true) (λ x ws below e. or_right (S x.place && x.read p) (was_read ws S p) e) (take (i + 1) hs) (drop (i + 1) hs) here in
    subst (λ l. was_read (writes l) S p ≡ true) (take-append-drop (i + 1) hs) more

-- ---- what a node knows now

-- the marks of its latest moment, under the key
pub latest_known : (hs : List Happening) (ms : List Marks) (n m : ℕ) (k : Key) (d : Marks) (marks found : List Bool) → IsAccount hs ms → IsLatest hs (length hs) n m → d ≡ get_or ms m d → marks ≡ d.known → ((p : ℕ) → marked_places found p ≡ (is_write_under k (slice_get hs p) && marked_places marks p)) → marked_places found ≡ known hs n k
latest_known hs ms n m k d marks found is latest read of under =
    let whole : length ms ≡ length hs + 1 = is.whole in
    let within : m ≤ length hs = latest.within in
    let gives : GivesBoth hs (get_or ms m d) (past (take (length hs) hs)) n = at_latest hs ms (length hs) n m d is.moments (omega arith) (omega arith) latest in
    let same : (p : ℕ) → marked_places found p ≡ known hs n k p = λ p.
    under p
    ∙ ap (λ l. is_write_under k (slice_get hs p) && marked_places l p) (of ∙ ap (λ x. x.known) read)
    ∙ gives.known.gives k p
    ∙ ap (λ l. known l n k p) (take-length hs) in
    λ i p. same p i
