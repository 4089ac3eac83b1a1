-- Texts of a list, put one after another.
use Rattle.std.proofs.Common.{◌≡◌, ℕ, zero, suc, ◌+◌, ◌<◌, ◌≤◌, Bool, true, false, ◌&&◌, if◌then◌else◌, List, [], ◌∷◌, ◌++◌, length, take, map, get_or, refl, sym, ap, subst, ◌∙◌, append_assoc, add-one, arith}
use Rattle.std.proofs.lemmas.List.{append-nil, map-append, take_all}
use Rattle.std.proofs.lemmas.List.Concat.{flat_map-cons}
use Rattle.std.specs.List.{flat_map}
use Rattle.printing.specs.Joined.{separated, are_none, AddsTexts}

and-true : (first : Bool) → (first && true) ≡ first
and-true true = refl
and-true false = refl

and-false : (first : Bool) → (first && false) ≡ false
and-false true = refl
and-false false = refl

and-and : (a b c : Bool) → ((a && b) && c) ≡ (a && (b && c))
and-and true b c = refl
and-and false b c = refl

separated-append : (first : Bool) (xs ys : List (List ℕ)) → separated first (xs ++ ys) ≡ separated first xs ++ separated (first && are_none xs) ys
separated-append first [] ys = ap (λ f. separated f ys) (sym (and-true first))
separated-append first (x ∷ xs) ys =
    let head = if first then x else 44 ∷ x in
    ap (λ bytes. head ++ bytes) (separated-append false xs ys)
    ∙ sym (append_assoc head (separated false xs) (separated false ys))
    ∙ ap (λ f. (head ++ separated false xs) ++ separated f ys) (sym (and-false first))

are_none-append : (xs ys : List (List ℕ)) → are_none (xs ++ ys) ≡ (are_none xs && are_none ys)
are_none-append [] ys = refl
are_none-append (x ∷ xs) ys = refl

-- one list and then another
pub add_both : (first middle next : Bool) (xs ys : List (List ℕ)) (old between new : List ℕ) → AddsTexts first xs old between middle → AddsTexts middle ys between new next → AddsTexts first (xs ++ ys) old new next
add_both first middle next xs ys old between new a b = record {
  text =
      b.text ∙ ap (λ bytes. bytes ++ separated middle ys) a.text ∙ append_assoc old (separated first xs) (separated middle ys)
      ∙ ap (λ f. old ++ (separated first xs ++ separated f ys)) a.next_is
      ∙ ap (λ bytes. old ++ bytes) (sym (separated-append first xs ys));
  next_is =
      b.next_is ∙ ap (λ f. f && are_none ys) a.next_is ∙ and-and first (are_none xs) (are_none ys)
      ∙ ap (λ z. first && z) (sym (are_none-append xs ys));
}

-- one text, after its comma
pub add_one : (first : Bool) (text old new : List ℕ) → new ≡ (old ++ (if first then [] else 44 ∷ [])) ++ text → AddsTexts first (text ∷ []) old new false
add_one true text old new e = record { text = e ∙ ap (λ bytes. bytes ++ text) (append-nil old) ∙ ap (λ bytes. old ++ bytes) (sym (append-nil text)); next_is = refl }
add_one false text old new e = record { text = e ∙ append_assoc old (44 ∷ []) text ∙ ap (λ bytes. old ++ (44 ∷ bytes)) (sym (append-nil text)); next_is = refl }

map-take : {A B : Type 0} (f : A → B) (xs : List A) (i : ℕ) (x : A) → i < length xs → x ≡ get_or xs i x → map f (take (suc i) xs) ≡ map f (take i xs) ++ f x ∷ []
map-take f [] i x lt is = absurd (omega arith)
map-take f (y ∷ ys) zero x lt is = ap (λ z. f z ∷ []) (sym is)
map-take f (y ∷ ys) (suc i) x lt is = ap (λ zs. f y ∷ zs) (map-take f ys i x (omega arith) is)

flat_map-take : {A B : Type 0} (f : A → List B) (xs : List A) (i : ℕ) (x : A) → i < length xs → x ≡ get_or xs i x → flat_map f (take (suc i) xs) ≡ flat_map f (take i xs) ++ f x
flat_map-take f [] i x lt is = absurd (omega arith)
flat_map-take f (y ∷ ys) zero x lt is = flat_map-cons f y [] ∙ append-nil (f y) ∙ ap f (sym is)
flat_map-take f (y ∷ ys) (suc i) x lt is =
    flat_map-cons f y (take (suc i) ys) ∙ ap (λ zs. f y ++ zs) (flat_map-take f ys i x (omega arith) is)
    ∙ sym (append_assoc (f y) (flat_map f (take i ys)) (f x)) ∙ ap (λ zs. zs ++ f x) (sym (flat_map-cons f y (take i ys)))

-- one more element of a list
pub add_next : {A : Type 0} (f : A → List ℕ) (first next : Bool) (xs : List A) (i : ℕ) (x : A) (old between new : List ℕ) → i < length xs → x ≡ get_or xs i x
    → AddsTexts first (map f (take i xs)) old between next → new ≡ (between ++ (if next then [] else 44 ∷ [])) ++ f x → AddsTexts first (map f (take (i + 1) xs)) old new false
add_next f first next xs i x old between new lt is so_far e =
    rw (add-one, map-take f xs i x lt is)
    (add_both first next false (map f (take i xs)) (f x ∷ []) old between new so_far (add_one next (f x) between new e))

-- the texts of one more element of a list
pub add_more : {A B : Type 0} (f : B → List ℕ) (parts : A → List B) (first middle next : Bool) (xs : List A) (i : ℕ) (x : A) (old between new : List ℕ) → i < length xs → x ≡ get_or xs i x
    → AddsTexts first (map f (flat_map parts (take i xs))) old between middle → AddsTexts middle (map f (parts x)) between new next
    → AddsTexts first (map f (flat_map parts (take (i + 1) xs))) old new next
add_more f parts first middle next xs i x old between new lt is so_far more =
    rw (add-one, flat_map-take parts xs i x lt is, map-append f (flat_map parts (take i xs)) (parts x))
    (add_both first middle next (map f (flat_map parts (take i xs))) (map f (parts x)) old between new so_far more)

-- the elements up to a place after the last are all
pub add_all : {A B : Type 0} (f : B → List ℕ) (parts : List A → List B) (first next : Bool) (xs : List A) (i : ℕ) (old new : List ℕ) → length xs ≤ i
    → AddsTexts first (map f (parts (take i xs))) old new next → AddsTexts first (map f (parts xs)) old new next
add_all f parts first next xs i old new le p = subst (λ ys. AddsTexts first (map f (parts ys)) old new next) (take_all i xs le) p
