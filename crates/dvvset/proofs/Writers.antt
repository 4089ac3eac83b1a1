-- What a merge does for each writer.
use Rattle.std.proofs.Common.{◌≡◌, ℕ, ◌+◌, ◌-◌, ◌<◌, ◌≤◌, true, false, cond, zero, suc, List, [], ◌∷◌, ◌++◌, length, take, max, All, sym, ap, refl, subst, ◌∙◌, arith, ⊎_elim, Option, Some, None, eqb, ltb, leb, ◌==◌, if◌then◌else◌}
use Rattle.std.proofs.lemmas.Bool.{eqb-true, eqb-false, eq-eqb, ne_eqb, leb-true, leb-false, ltb-true, ltb-false, cases_eq, cases_lt}
use Rattle.std.proofs.lemmas.List.{length-take, take_all}
use Rattle.std.proofs.lemmas.List.Elements.{All-nil, All-cons, All-head, All-tail, All-take}
use Rattle.std.proofs.lemmas.List.Concat.{flat_map-cons}
use Rattle.meta_types.specs.Actor.{IsWriter}
use Rattle.meta_types.specs.Value.{ValueParts, IsValue}
use Rattle.dvvset.specs.Object.{Entry, Counter, RisesFrom, ids_of, ids_counted, IsEntry, IsObject, IsCounter, IsVector}
use Rattle.dvvset.specs.Clock.{join, cover, cut, count_for, sync_entry, sync_from, sync, blanks, raise, update, values_of}
use Rattle.dvvset.specs.Writer.{entry_of, count_of, IsMerged, MergesAt, unread, shown, IsWritten}
use Rattle.dvvset.proofs.Objects.{object_from_rest}
use Rattle.dvvset.proofs.Showing.{back_none}

abbrev pub Rises : ℕ → List Entry → Type 0
Rises low es = RisesFrom low (ids_of es)

-- the merge of two sides' entries of one writer
abbrev pub sync_at : Option Entry → Option Entry → Option Entry
sync_at None b = b
sync_at (Some a) None = Some a
sync_at (Some a) (Some b) = Some (sync_entry a b)

-- no entry below the least writer
pub entry_of-low : (xs : List Entry) (low w : ℕ) → Rises low xs → w < low → entry_of xs w ≡ None
entry_of-low [] low w rises lt = refl
entry_of-low (x ∷ xs) low w rises lt =
    let first : low ≤ x.id = rises.0 in
    let other : (x.id ≡ w → ⊥) = λ e. absurd (omega arith) in
    rw (ne_eqb x.id w other) (entry_of-low xs (x.id + 1) w rises.1 (omega arith))

sync_entry-id : (x y : Entry) → x.id ≡ y.id → (sync_entry x y).id ≡ x.id
sync_entry-id x y e =
    elim (leb y.count x.count) as (λ b. (cond b (cut x (cover y)) (cut y (cover x))).id ≡ x.id) [ true ↦ refl | false ↦ sym e ]

Rises-weaken : (xs : List Entry) (low least : ℕ) → Rises low xs → least ≤ low → Rises least xs
Rises-weaken [] low least rises le = tt
Rises-weaken (x ∷ xs) low least rises le = (let first : low ≤ x.id = rises.0 in omega arith, rises.1)

entry_of-sync_from : (x : Entry) (xs : List Entry) (rest : List Entry → List Entry) (w : ℕ) → Rises (x.id + 1) xs → ((zs : List Entry) → Rises (x.id + 1) zs → entry_of (rest zs) w ≡ sync_at (entry_of xs w) (entry_of zs w)) → (ys : List Entry) (low : ℕ) → Rises low ys → entry_of (sync_from x rest ys) w ≡ sync_at (entry_of (x ∷ xs) w) (entry_of ys w)
entry_of-sync_from x xs rest w rises ih [] low ry =
    ap (λ o. cond (eqb x.id w) (Some x) o) (ih [] tt)
    ∙ elim (eqb x.id w) as (λ b. cond b (Some x) (sync_at (entry_of xs w) None) ≡ sync_at (cond b (Some x) (entry_of xs w)) None) [ true ↦ refl | false ↦ refl ]
entry_of-sync_from x xs rest w rises ih (y ∷ ys) low ry =
    elim (ltb y.id x.id) as (λ b. ltb y.id x.id ≡ b → entry_of (cond b (y ∷ sync_from x rest ys) (cond (eqb x.id y.id) (sync_entry x y ∷ rest ys) (x ∷ rest (y ∷ ys)))) w ≡ sync_at (entry_of (x ∷ xs) w) (entry_of (y ∷ ys) w)) [
      | true ↦ λ lt.
          let below : y.id < x.id = ltb-true y.id x.id lt in
          ap (λ o. cond (eqb y.id w) (Some y) o) (entry_of-sync_from x xs rest w rises ih ys (y.id + 1) ry.1)
          ∙ elim (eqb y.id w) as (λ c. eqb y.id w ≡ c → cond c (Some y) (sync_at (entry_of (x ∷ xs) w) (entry_of ys w)) ≡ sync_at (entry_of (x ∷ xs) w) (cond c (Some y) (entry_of ys w))) [
            | true ↦ λ e.
                let same : y.id ≡ w = eqb-true y.id w e in
                let first : x.id ≤ x.id = omega arith in
                ap (λ o. sync_at o (Some y)) (sym (entry_of-low (x ∷ xs) x.id w (first, rises) (omega arith)))
            | false ↦ λ e. refl
          ] refl
      | false ↦ λ ge.
          let above : x.id ≤ y.id = ltb-false y.id x.id ge in
          elim (eqb x.id y.id) as (λ d. eqb x.id y.id ≡ d → entry_of (cond d (sync_entry x y ∷ rest ys) (x ∷ rest (y ∷ ys))) w ≡ sync_at (entry_of (x ∷ xs) w) (entry_of (y ∷ ys) w)) [
            | true ↦ λ e.
                let same : x.id ≡ y.id = eqb-true x.id y.id e in
                let tail : Rises (x.id + 1) ys = Rises-weaken ys (y.id + 1) (x.id + 1) ry.1 (omega arith) in
                ap (λ i. cond (eqb i w) (Some (sync_entry x y)) (entry_of (rest ys) w)) (sync_entry-id x y same)
                ∙ ap (λ o. cond (eqb x.id w) (Some (sync_entry x y)) o) (ih ys tail)
                ∙ elim (eqb x.id w) as (λ c. cond c (Some (sync_entry x y)) (sync_at (entry_of xs w) (entry_of ys w)) ≡ sync_at (cond c (Some x) (entry_of xs w)) (cond c (Some y) (entry_of ys w))) [ true ↦ refl | false ↦ refl ]
                ∙ ap (λ i. sync_at (cond (eqb x.id w) (Some x) (entry_of xs w)) (cond (eqb i w) (Some y) (entry_of ys w))) same
            | false ↦ λ e.
                let other : (x.id ≡ y.id → ⊥) = eqb-false x.id y.id e in
                let next : x.id + 1 ≤ y.id = omega arith in
                ap (λ o. cond (eqb x.id w) (Some x) o) (ih (y ∷ ys) (next, ry.1))
                ∙ elim (eqb x.id w) as (λ c. eqb x.id w ≡ c → cond c (Some x) (sync_at (entry_of xs w) (entry_of (y ∷ ys) w)) ≡ sync_at (cond c (Some x) (entry_of xs w)) (entry_of (y ∷ ys) w)) [
                  | true ↦ λ f.
                      let here : x.id ≡ w = eqb-true x.id w f in
                      let first : y.id ≤ y.id = omega arith in
                      ap (λ o. sync_at (Some x) o) (sym (entry_of-low (y ∷ ys) y.id w (first, ry.1) (omega arith)))
                  | false ↦ λ f. refl
                ] refl
          ] refl
    ] refl

pub entry_of-sync : (xs ys : List Entry) (low w : ℕ) → Rises low xs → Rises low ys → entry_of (sync xs ys) w ≡ sync_at (entry_of xs w) (entry_of ys w)
entry_of-sync [] ys low w left right = refl
entry_of-sync (x ∷ xs) ys low w left right = entry_of-sync_from x xs (sync xs) w left.1 (λ zs rz. entry_of-sync xs zs (x.id + 1) w left.1 rz) ys low right

Rises-sync_from : (x : Entry) (rest : List Entry → List Entry) → ((zs : List Entry) → Rises (x.id + 1) zs → Rises (x.id + 1) (rest zs)) → (ys : List Entry) (low : ℕ) → low ≤ x.id → Rises low ys → Rises low (sync_from x rest ys)
Rises-sync_from x rest ih [] low le ry = (le, ih [] tt)
Rises-sync_from x rest ih (y ∷ ys) low le ry =
    elim (ltb y.id x.id) as (λ b. ltb y.id x.id ≡ b → Rises low (cond b (y ∷ sync_from x rest ys) (cond (eqb x.id y.id) (sync_entry x y ∷ rest ys) (x ∷ rest (y ∷ ys))))) [
      | true ↦ λ lt.
          let below : y.id < x.id = ltb-true y.id x.id lt in
          (ry.0, Rises-sync_from x rest ih ys (y.id + 1) (omega arith) ry.1)
      | false ↦ λ ge.
          let above : x.id ≤ y.id = ltb-false y.id x.id ge in
          elim (eqb x.id y.id) as (λ d. eqb x.id y.id ≡ d → Rises low (cond d (sync_entry x y ∷ rest ys) (x ∷ rest (y ∷ ys)))) [
            | true ↦ λ e.
                let same : x.id ≡ y.id = eqb-true x.id y.id e in
                let id : (sync_entry x y).id ≡ x.id = sync_entry-id x y same in
                let P : ℕ → Type 0 = λ i. (low ≤ i) × Rises (i + 1) (rest ys) in
                subst P (sym id) (le, ih ys (Rises-weaken ys (y.id + 1) (x.id + 1) ry.1 (omega arith)))
            | false ↦ λ e.
                let other : (x.id ≡ y.id → ⊥) = eqb-false x.id y.id e in
                let next : x.id + 1 ≤ y.id = omega arith in
                (le, ih (y ∷ ys) (next, ry.1))
          ] refl
    ] refl

pub Rises-sync : (xs ys : List Entry) (low : ℕ) → Rises low xs → Rises low ys → Rises low (sync xs ys)
Rises-sync [] ys low left right = right
Rises-sync (x ∷ xs) ys low left right =
    Rises-sync_from x (sync xs) (λ zs rz. Rises-sync xs zs (x.id + 1) left.1 rz) ys low left.0 right

-- ---- the entries of a merge are lawful

IsEntry-cut : (e : Entry) (low : ℕ) → IsEntry e → IsEntry (cut e low)
IsEntry-cut e low is = record {
  writer = is.writer;
  counted = is.counted;
  within = let within = is.within in omega (arith, length-take (e.count - low) e.values);
  written = All-take IsValue (e.count - low) e.values is.written;
}

IsEntry-sync_entry : (a b : Entry) → IsEntry a → IsEntry b → IsEntry (sync_entry a b)
IsEntry-sync_entry a b left right =
    elim (leb b.count a.count) as (λ t. IsEntry (cond t (cut a (cover b)) (cut b (cover a)))) [ true ↦ IsEntry-cut a (cover b) left | false ↦ IsEntry-cut b (cover a) right ]

All-sync_from : (x : Entry) (rest : List Entry → List Entry) → IsEntry x → ((zs : List Entry) → All IsEntry zs → All IsEntry (rest zs)) → (ys : List Entry) → All IsEntry ys → All IsEntry (sync_from x rest ys)
All-sync_from x rest is ih [] all = All-cons IsEntry x (rest []) is (ih [] all)
All-sync_from x rest is ih (y ∷ ys) all =
    let first = All-head IsEntry y ys all in
    let others = All-tail IsEntry y ys all in
    elim (ltb y.id x.id) as (λ b. All IsEntry (cond b (y ∷ sync_from x rest ys) (cond (eqb x.id y.id) (sync_entry x y ∷ rest ys) (x ∷ rest (y ∷ ys))))) [
      | true ↦ All-cons IsEntry y (sync_from x rest ys) first (All-sync_from x rest is ih ys others)
      | false ↦ elim (eqb x.id y.id) as (λ d. All IsEntry (cond d (sync_entry x y ∷ rest ys) (x ∷ rest (y ∷ ys)))) [
        | true ↦ All-cons IsEntry (sync_entry x y) (rest ys) (IsEntry-sync_entry x y is first) (ih ys others)
        | false ↦ All-cons IsEntry x (rest (y ∷ ys)) is (ih (y ∷ ys) all)
      ]
    ]

All-sync : (xs ys : List Entry) → All IsEntry xs → All IsEntry ys → All IsEntry (sync xs ys)
All-sync [] ys left right = right
All-sync (x ∷ xs) ys left right = All-sync_from x (sync xs) (All-head IsEntry x xs left) (λ zs all. All-sync xs zs (All-tail IsEntry x xs left) all) ys right

pub IsObject-sync : (a b : List Entry) → IsObject a → IsObject b → IsObject (sync a b)
IsObject-sync a b left right = object_from_rest (sync a b) (record { rising = Rises-sync a b 0 left.rising right.rising; lawful = All-sync a b left.entries right.entries })

-- ---- a writer's entry

-- an entry, if there is one, is lawful and of this writer
abbrev pub IsOf : ℕ → Option Entry → Type 0
IsOf w None = Unit {0}
IsOf w (Some e) = IsEntry e × (e.id ≡ w)

pub entry_is_of : (es : List Entry) (w : ℕ) → All IsEntry es → IsOf w (entry_of es w)
entry_is_of [] w all = tt
entry_is_of (x ∷ xs) w all =
    elim (eqb x.id w) as (λ b. eqb x.id w ≡ b → IsOf w (cond b (Some x) (entry_of xs w))) [
      | true ↦ λ e. (All-head IsEntry x xs all, eqb-true x.id w e)
      | false ↦ λ e. entry_is_of xs w (All-tail IsEntry x xs all)
    ] refl

abbrev pub count_at : Option Entry → ℕ
count_at None = 0
count_at (Some e) = e.count

pub count_of-entry : (es : List Entry) (w : ℕ) → count_of es w ≡ count_at (entry_of es w)
count_of-entry [] w = refl
count_of-entry (x ∷ xs) w =
    ap (λ n. cond (eqb x.id w) x.count n) (count_of-entry xs w)
    ∙ elim (eqb x.id w) as (λ b. cond b x.count (count_at (entry_of xs w)) ≡ count_at (cond b (Some x) (entry_of xs w))) [ true ↦ refl | false ↦ refl ]

-- ---- the law of a merge

take-length-take : {A : Type 0} (n : ℕ) (xs : List A) → take n xs ≡ take (length (take n xs)) xs
take-length-take zero xs = refl
take-length-take (suc n) [] = refl
take-length-take (suc n) (x ∷ xs) = ap (λ ys. x ∷ ys) (take-length-take n xs)

merged_left : (a b : Entry) → IsEntry a → IsEntry b → leb b.count a.count ≡ true → IsMerged a b (cut a (cover b))
merged_left a b left right e = record {
  id = refl;
  count = let le = leb-true b.count a.count e in omega arith;
  covered =
      let le = leb-true b.count a.count e in
      let la = left.within in
      let lb = right.within in
      omega (arith, length-take (a.count - (b.count - length b.values)) a.values);
  newest =
      take-length-take (a.count - cover b) a.values
      ∙ ap (λ t. take (length (take (a.count - cover b) a.values)) (cond t a.values b.values)) (sym e);
}

merged_right : (a b : Entry) → IsEntry a → IsEntry b → a.id ≡ b.id → leb b.count a.count ≡ false → IsMerged a b (cut b (cover a))
merged_right a b left right same e = record {
  id = sym same;
  count = let lt = leb-false b.count a.count e in omega arith;
  covered =
      let lt = leb-false b.count a.count e in
      let la = left.within in
      let lb = right.within in
      omega (arith, length-take (b.count - (a.count - length a.values)) b.values);
  newest =
      take-length-take (b.count - cover a) b.values
      ∙ ap (λ t. take (length (take (b.count - cover a) b.values)) (cond t a.values b.values)) (sym e);
}

merged_entry : (a b : Entry) → IsEntry a → IsEntry b → a.id ≡ b.id → IsMerged a b (sync_entry a b)
merged_entry a b left right same =
    elim (leb b.count a.count) as (λ t. leb b.count a.count ≡ t → IsMerged a b (cond t (cut a (cover b)) (cut b (cover a)))) [
      | true ↦ λ e. merged_left a b left right e
      | false ↦ λ e. merged_right a b left right same e
    ] refl

merges_at : (w : ℕ) (a b : Option Entry) → IsOf w a → IsOf w b → MergesAt a b (sync_at a b)
merges_at w None b left right = refl
merges_at w (Some a) None left right = refl
merges_at w (Some a) (Some b) left right = merged_entry a b left.0 right.0 (left.1 ∙ sym right.1)

pub merges_writers : (a b : List Entry) → IsObject a → IsObject b → (w : ℕ) → MergesAt (entry_of a w) (entry_of b w) (entry_of (sync a b) w)
merges_writers a b left right w =
    subst (MergesAt (entry_of a w) (entry_of b w)) (sym (entry_of-sync a b 0 w left.rising right.rising))
    (merges_at w (entry_of a w) (entry_of b w) (entry_is_of a w left.entries) (entry_is_of b w right.entries))

count_at-sync_at : (w : ℕ) (a b : Option Entry) → IsOf w a → IsOf w b → count_at (sync_at a b) ≡ max (count_at a) (count_at b)
count_at-sync_at w None None left right = omega arith
count_at-sync_at w None (Some b) left right = omega arith
count_at-sync_at w (Some a) None left right = omega arith
count_at-sync_at w (Some a) (Some b) left right = (merged_entry a b left.0 right.0 (left.1 ∙ sym right.1)).count

pub count_of-sync : (a b : List Entry) → IsObject a → IsObject b → (w : ℕ) → count_of (sync a b) w ≡ max (count_of a w) (count_of b w)
count_of-sync a b left right w =
    count_of-entry (sync a b) w ∙ ap count_at (entry_of-sync a b 0 w left.rising right.rising)
    ∙ count_at-sync_at w (entry_of a w) (entry_of b w) (entry_is_of a w left.entries) (entry_is_of b w right.entries)
    ∙ (λ i. max (sym (count_of-entry a w) i) (sym (count_of-entry b w) i))

-- ---- a write

-- a counter as an entry that shows nothing
abbrev blank : Counter → Entry
blank c = record { id = c.id; count = c.count; values = [] }

blanks-length : (cs : List Counter) → join (blanks cs) ≡ cs
blanks-length [] = refl
blanks-length (c ∷ cs) = ap (λ l. c ∷ l) (blanks-length cs)

pub Rises-blanks : (cs : List Counter) (low : ℕ) → RisesFrom low (ids_counted cs) → Rises low (blanks cs)
Rises-blanks [] low rises = tt
Rises-blanks (c ∷ cs) low rises = (rises.0, Rises-blanks cs (c.id + 1) rises.1)

All-blanks : (cs : List Counter) → All IsCounter cs → All IsEntry (blanks cs)
All-blanks [] all = All-nil IsEntry
All-blanks (c ∷ cs) all =
    let first = All-head IsCounter c cs all in
    All-cons IsEntry (blank c) (blanks cs) (record { writer = first.writer; counted = first.counted; within = omega arith; written = All-nil IsValue }) (All-blanks cs (All-tail IsCounter c cs all))

pub IsObject-blanks : (cs : List Counter) → IsVector cs → IsObject (blanks cs)
IsObject-blanks cs is = object_from_rest (blanks cs) (record { rising = Rises-blanks cs 0 is.rising; lawful = All-blanks cs is.counters })

-- what a write knows of each writer before its event
pub known_counts : (read : List Counter) (object : List Entry) → IsVector read → IsObject object → (w : ℕ) → count_of (sync (blanks read) object) w ≡ max (count_for read w) (count_of object w)
known_counts read object left right w =
    count_of-sync (blanks read) object (IsObject-blanks read left) right w ∙ ap (λ cs. max (count_for cs w) (count_of object w)) (blanks-length read)

-- an entry that shows nothing
abbrev IsBlank : Option Entry → Type 0
IsBlank None = Unit {0}
IsBlank (Some e) = e.values ≡ []

entry_is_blank : (cs : List Counter) (w : ℕ) → IsBlank (entry_of (blanks cs) w)
entry_is_blank [] w = tt
entry_is_blank (c ∷ cs) w =
    elim (eqb c.id w) as (λ b. IsBlank (cond b (Some (blank c)) (entry_of (blanks cs) w))) [ true ↦ refl | false ↦ entry_is_blank cs w ]

take-none : {A : Type 0} (n : ℕ) → take {A = A} n [] ≡ []
take-none zero = refl
take-none (suc n) = refl

-- a blank side leaves what it has not read
unread_entry : (b e : Entry) → IsEntry e → b.values ≡ [] → (sync_entry b e).values ≡ take (e.count - b.count) e.values
unread_entry b e is none =
    elim (leb e.count b.count) as (λ t. leb e.count b.count ≡ t → (cond t (cut b (cover e)) (cut e (cover b))).values ≡ take (e.count - b.count) e.values) [
      | true ↦ λ q.
          let le = leb-true e.count b.count q in
          let nothing : e.count - b.count ≡ 0 = omega arith in
          ap (λ vs. take (b.count - cover e) vs) none ∙ take-none (b.count - cover e) ∙ sym (ap (λ n. take n e.values) nothing)
      | false ↦ λ q.
          let all : b.count - length b.values ≡ b.count = let len : length b.values ≡ 0 = ap length none in omega arith in
          ap (λ n. take (e.count - n) e.values) all
    ] refl

unread_at : (w : ℕ) (b e : Option Entry) → IsBlank b → IsOf w e → shown (sync_at b e) ≡ unread (count_at b) e
unread_at w None None blank is = refl
unread_at w None (Some e) blank is = sym (take_all (e.count - 0) e.values (let within = is.0.within in omega arith))
unread_at w (Some b) None blank is = blank
unread_at w (Some b) (Some e) blank is = unread_entry b e is.0 blank

pub known_values : (read : List Counter) (object : List Entry) → IsVector read → IsObject object → (w : ℕ) → shown (entry_of (sync (blanks read) object) w) ≡ unread (count_for read w) (entry_of object w)
known_values read object left right w =
    ap shown (entry_of-sync (blanks read) object 0 w (Rises-blanks read 0 left.rising) right.rising)
    ∙ unread_at w (entry_of (blanks read) w) (entry_of object w) (entry_is_blank read w) (entry_is_of object w right.entries)
    ∙ ap (λ n. unread n (entry_of object w)) (sym (count_of-entry (blanks read) w) ∙ ap (λ cs. count_for cs w) (blanks-length read))

-- one more event of an entry, and the first of a writer
abbrev pub grown : Entry → ValueParts → Entry
grown x v = record { id = x.id; count = x.count + 1; values = v ∷ x.values }

abbrev pub first : ℕ → ValueParts → Entry
first w v = record { id = w; count = 1; values = v ∷ [] }

-- one more event of a writer's entry, if it has one
abbrev raised : ℕ → ValueParts → Option Entry → Entry
raised id v None = first id v
raised id v (Some x) = grown x v

entry_of-raise : (id : ℕ) (v : ValueParts) (es : List Entry) (low : ℕ) → Rises low es → entry_of (raise id v es) id ≡ Some (raised id v (entry_of es id))
entry_of-raise id v [] low rises = ap (λ b. cond b (Some (raised id v None)) None) (eq-eqb id id refl)
entry_of-raise id v (x ∷ xs) low rises =
    elim (ltb id x.id) as (λ b. ltb id x.id ≡ b → entry_of (cond b (raised id v None ∷ (x ∷ xs)) (cond (eqb x.id id) (grown x v ∷ xs) (x ∷ raise id v xs))) id ≡ Some (raised id v (entry_of (x ∷ xs) id))) [
      | true ↦ λ lt.
          let below : id < x.id = ltb-true id x.id lt in
          let first : x.id ≤ x.id = omega arith in
          ap (λ b. cond b (Some (raised id v None)) (entry_of (x ∷ xs) id)) (eq-eqb id id refl)
          ∙ ap (λ o. Some (raised id v o)) (sym (entry_of-low (x ∷ xs) x.id id (first, rises.1) below))
      | false ↦ λ ge.
          elim (eqb x.id id) as (λ d. eqb x.id id ≡ d → entry_of (cond d (grown x v ∷ xs) (x ∷ raise id v xs)) id ≡ Some (raised id v (cond d (Some x) (entry_of xs id)))) [
            | true ↦ λ e. ap (λ b. cond b (Some (grown x v)) (entry_of xs id)) e
            | false ↦ λ e. ap (λ b. cond b (Some x) (entry_of (raise id v xs) id)) e ∙ entry_of-raise id v xs (x.id + 1) rises.1
          ] refl
    ] refl

-- every other writer's entry stays
entry_of-raise-other : (id : ℕ) (v : ValueParts) (es : List Entry) (w : ℕ) → (w ≡ id → ⊥) → entry_of (raise id v es) w ≡ entry_of es w
entry_of-raise-other id v [] w other = ap (λ b. cond b (Some (raised id v None)) None) (ne_eqb id w (λ e. other (sym e)))
entry_of-raise-other id v (x ∷ xs) w other =
    elim (ltb id x.id) as (λ b. entry_of (cond b (raised id v None ∷ (x ∷ xs)) (cond (eqb x.id id) (grown x v ∷ xs) (x ∷ raise id v xs))) w ≡ entry_of (x ∷ xs) w) [
      | true ↦ ap (λ b. cond b (Some (raised id v None)) (entry_of (x ∷ xs) w)) (ne_eqb id w (λ e. other (sym e)))
      | false ↦
          elim (eqb x.id id) as (λ d. eqb x.id id ≡ d → entry_of (cond d (grown x v ∷ xs) (x ∷ raise id v xs)) w ≡ entry_of (x ∷ xs) w) [
            | true ↦ λ e.
                let here : x.id ≡ id = eqb-true x.id id e in
                let there : (x.id ≡ w → ⊥) = λ same. other (sym same ∙ here) in
                ap (λ b. cond b (Some (grown x v)) (entry_of xs w)) (ne_eqb x.id w there) ∙ sym (ap (λ b. cond b (Some x) (entry_of xs w)) (ne_eqb x.id w there))
            | false ↦ λ e. ap (λ o. cond (eqb x.id w) (Some x) o) (entry_of-raise-other id v xs w other)
          ] refl
    ]

raised-count : (id : ℕ) (v : ValueParts) (o : Option Entry) → (raised id v o).count ≡ count_at o + 1
raised-count id v None = refl
raised-count id v (Some x) = refl

raised-values : (id : ℕ) (v : ValueParts) (o : Option Entry) → (raised id v o).values ≡ v ∷ shown o
raised-values id v None = refl
raised-values id v (Some x) = refl

raised_counts : (id : ℕ) (v : ValueParts) (es : List Entry) → Rises 0 es → (w : ℕ) → count_of (raise id v es) w ≡ count_of es w + (if w == id then 1 else 0)
raised_counts id v es rises w =
    elim (eqb w id) as (λ b. eqb w id ≡ b → count_of (raise id v es) w ≡ count_of es w + cond b 1 0) [
      | true ↦ λ e.
          let same : id ≡ w = sym (eqb-true w id e) in
          subst (λ u. count_of (raise id v es) u ≡ count_of es u + 1) same
          (count_of-entry (raise id v es) id ∙ ap count_at (entry_of-raise id v es 0 rises) ∙ raised-count id v (entry_of es id) ∙ ap (λ n. n + 1) (sym (count_of-entry es id)))
      | false ↦ λ e.
          let kept : count_of (raise id v es) w ≡ count_of es w =
          count_of-entry (raise id v es) w ∙ ap count_at (entry_of-raise-other id v es w (eqb-false w id e)) ∙ sym (count_of-entry es w) in
          omega arith
    ] refl

raised_values : (id : ℕ) (v : ValueParts) (es : List Entry) → Rises 0 es → (w : ℕ) → shown (entry_of (raise id v es) w) ≡ (if w == id then v ∷ [] else []) ++ shown (entry_of es w)
raised_values id v es rises w =
    elim (eqb w id) as (λ b. eqb w id ≡ b → shown (entry_of (raise id v es) w) ≡ cond b (v ∷ []) [] ++ shown (entry_of es w)) [
      | true ↦ λ e.
          let same : id ≡ w = sym (eqb-true w id e) in
          subst (λ u. shown (entry_of (raise id v es) u) ≡ v ∷ shown (entry_of es u)) same
          (ap shown (entry_of-raise id v es 0 rises) ∙ raised-values id v (entry_of es id))
      | false ↦ λ e. ap shown (entry_of-raise-other id v es w (eqb-false w id e))
    ] refl

-- the law of a write
pub written_writers : (read : List Counter) (object : List Entry) (id : ℕ) (v : ValueParts) → IsVector read → IsObject object → IsWritten read object id v (update read object id v)
written_writers read object id v left right =
    let known = sync (blanks read) object in
    let rises = Rises-sync (blanks read) object 0 (Rises-blanks read 0 left.rising) right.rising in
    record {
      counts = λ w. raised_counts id v known rises w ∙ ap (λ n. n + (if w == id then 1 else 0)) (known_counts read object left right w);
      values = λ w. raised_values id v known rises w ∙ ap (λ vs. (if w == id then v ∷ [] else []) ++ vs) (known_values read object left right w);
    }

-- ---- what is written is an object that shows a value

pub Rises-raise : (id : ℕ) (v : ValueParts) (es : List Entry) (low : ℕ) → low ≤ id → Rises low es → Rises low (raise id v es)
Rises-raise id v [] low le rises = (le, tt)
Rises-raise id v (x ∷ xs) low le rises =
    elim (ltb id x.id) as (λ b. ltb id x.id ≡ b → Rises low (cond b (raised id v None ∷ (x ∷ xs)) (cond (eqb x.id id) (grown x v ∷ xs) (x ∷ raise id v xs)))) [
      | true ↦ λ lt. let below : id < x.id = ltb-true id x.id lt in (le, (omega arith, rises.1))
      | false ↦ λ ge.
          let above : x.id ≤ id = ltb-false id x.id ge in
          elim (eqb x.id id) as (λ d. eqb x.id id ≡ d → Rises low (cond d (grown x v ∷ xs) (x ∷ raise id v xs))) [
            | true ↦ λ e. rises
            | false ↦ λ e. let other = eqb-false x.id id e in (rises.0, Rises-raise id v xs (x.id + 1) (omega (arith, other)) rises.1)
          ] refl
    ] refl

IsEntry-first : (id : ℕ) (v : ValueParts) → IsWriter id → IsValue v → IsEntry (raised id v None)
IsEntry-first id v node value = record {
  writer = node;
  counted = record { least = omega arith; most = omega arith };
  within = omega arith;
  written = All-cons IsValue v [] value (All-nil IsValue);
}

IsEntry-grown : (x : Entry) (v : ValueParts) → IsEntry x → IsValue v → x.count < 18446744073709551615 → IsEntry (grown x v)
IsEntry-grown x v is value room = record {
  writer = is.writer;
  counted = record { least = omega arith; most = omega arith };
  within = let within = is.within in omega arith;
  written = All-cons IsValue v x.values value is.written;
}

All-raise : (id : ℕ) (v : ValueParts) (es : List Entry) → IsWriter id → IsValue v → All IsEntry es → count_of es id < 18446744073709551615 → All IsEntry (raise id v es)
All-raise id v [] node value all room = All-cons IsEntry (raised id v None) [] (IsEntry-first id v node value) (All-nil IsEntry)
All-raise id v (x ∷ xs) node value all room =
    let first = All-head IsEntry x xs all in
    let others = All-tail IsEntry x xs all in
    elim (ltb id x.id) as (λ b. All IsEntry (cond b (raised id v None ∷ (x ∷ xs)) (cond (eqb x.id id) (grown x v ∷ xs) (x ∷ raise id v xs)))) [
      | true ↦ All-cons IsEntry (raised id v None) (x ∷ xs) (IsEntry-first id v node value) all
      | false ↦
          elim (eqb x.id id) as (λ d. eqb x.id id ≡ d → All IsEntry (cond d (grown x v ∷ xs) (x ∷ raise id v xs))) [
            | true ↦ λ e.
                let here : x.count < 18446744073709551615 = subst (λ b. cond b x.count (count_of xs id) < 18446744073709551615) e room in
                All-cons IsEntry (grown x v) xs (IsEntry-grown x v first value here) others
            | false ↦ λ e.
                let there : count_of xs id < 18446744073709551615 = subst (λ b. cond b x.count (count_of xs id) < 18446744073709551615) e room in
                All-cons IsEntry x (raise id v xs) first (All-raise id v xs node value others there)
          ] refl
    ]

pub IsObject-raise : (id : ℕ) (v : ValueParts) (es : List Entry) → IsWriter id → IsValue v → IsObject es → count_of es id < 18446744073709551615 → IsObject (raise id v es)
IsObject-raise id v es node value is room =
    object_from_rest (raise id v es) (record { rising = Rises-raise id v es 0 (omega arith) is.rising; lawful = All-raise id v es node value is.entries room })

pub raise_shows : (id : ℕ) (v : ValueParts) (es : List Entry) → values_of (raise id v es) ≡ [] → ⊥
raise_shows id v [] e = cc (sym (flat_map-cons (λ (x : Entry). x.values) (raised id v None) []) ∙ e)
raise_shows id v (x ∷ xs) e =
    elim (ltb id x.id) as (λ b. values_of (cond b (raised id v None ∷ (x ∷ xs)) (cond (eqb x.id id) (grown x v ∷ xs) (x ∷ raise id v xs))) ≡ [] → ⊥) [
      | true ↦ λ none. cc (sym (flat_map-cons (λ (y : Entry). y.values) (raised id v None) (x ∷ xs)) ∙ none)
      | false ↦
          elim (eqb x.id id) as (λ d. values_of (cond d (grown x v ∷ xs) (x ∷ raise id v xs)) ≡ [] → ⊥) [
            | true ↦ λ e. cc (sym (flat_map-cons (λ (y : Entry). y.values) (grown x v) xs) ∙ e)
            | false ↦ λ e. raise_shows id v xs (back_none x.values (values_of (raise id v xs)) (sym (flat_map-cons (λ (y : Entry). y.values) x (raise id v xs)) ∙ e))
          ]
    ] e

-- ---- a writer's entry for each writer determines an object

entry_first : (y : Entry) (ys : List Entry) → entry_of (y ∷ ys) y.id ≡ Some y
entry_first y ys = ap (λ b. cond b (Some y) (entry_of ys y.id)) (eq-eqb y.id y.id refl)

-- rising lists with the same entries are the same
same_entries : (xs ys : List Entry) (low : ℕ) → Rises low xs → Rises low ys → ((w : ℕ) → entry_of xs w ≡ entry_of ys w) → xs ≡ ys
same_entries [] [] low left right same = refl
same_entries [] (y ∷ ys) low left right same =
    let clash : None ≡ Some y = same y.id ∙ entry_first y ys in
    absurd cc
same_entries (x ∷ xs) [] low left right same =
    let clash : Some x ≡ None = sym (entry_first x xs) ∙ same x.id in
    absurd cc
same_entries (x ∷ xs) (y ∷ ys) low left right same =
    ⊎_elim
    (λ (lt : x.id < y.id).
    let clash : Some x ≡ None = sym (entry_first x xs) ∙ same x.id ∙ entry_of-low (y ∷ ys) y.id x.id (omega arith, right.1) lt in absurd cc)
    (λ ge.
    ⊎_elim
    (λ (lt : y.id < x.id).
    let clash : Some y ≡ None = sym (entry_first y ys) ∙ sym (same y.id) ∙ entry_of-low (x ∷ xs) x.id y.id (omega arith, left.1) lt in absurd cc)
    (λ le.
    let id : x.id ≡ y.id = omega arith in
    let some : Some x ≡ Some y = sym (entry_first x xs) ∙ same x.id ∙ ap (λ i. entry_of (y ∷ ys) i) id ∙ entry_first y ys in
    let one : x ≡ y = cc in
    let rest : (w : ℕ) → entry_of xs w ≡ entry_of ys w = λ w.
    ⊎_elim
    (λ e.
    let below : w < x.id + 1 = omega arith in
    entry_of-low xs (x.id + 1) w left.1 below ∙ sym (entry_of-low ys (y.id + 1) w right.1 (omega arith)))
    (λ ne.
    let there : (y.id ≡ w → ⊥) = λ e. ne (id ∙ e) in
    sym (ap (λ b. cond b (Some x) (entry_of xs w)) (ne_eqb x.id w ne)) ∙ same w ∙ ap (λ b. cond b (Some y) (entry_of ys w)) (ne_eqb y.id w there))
    (cases_eq x.id w) in
    (λ i. one i ∷ same_entries xs ys (x.id + 1) left.1 (subst (λ n. Rises (n + 1) ys) (sym id) right.1) rest i))
    (cases_lt y.id x.id))
    (cases_lt x.id y.id)

pub entries_determine : (a b : List Entry) → IsObject a → IsObject b → ((w : ℕ) → entry_of a w ≡ entry_of b w) → a ≡ b
entries_determine a b left right same = same_entries a b 0 left.rising right.rising same
