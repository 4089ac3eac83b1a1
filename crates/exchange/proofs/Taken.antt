-- What holds of each element of a list, and what stands in the parts of one.
use Rattle.std.proofs.Common.{ℕ, zero, suc, List, [], ◌∷◌, ◌++◌, map, take, inl, inr, ⊎_elim}
use Rattle.std.specs.List.{flat_map}
use Rattle.exchange.proofs.Members.{In}

-- every element is one of these
abbrev pub Each : {A : Type 0} → (A → Type 0) → List A → Type 0
Each P [] = Unit {0}
Each P (x ∷ xs) = P x × Each P xs

-- what holds of each element of two lists holds of each of both
pub Each-append : {A : Type 0} (P : A → Type 0) (xs ys : List A) → Each P xs → Each P ys → Each P (xs ++ ys)
Each-append P [] ys first second = second
Each-append P (x ∷ xs) ys first second = (first.0, Each-append P xs ys first.1 second)

-- what holds of each image holds of all images
pub Each-map : {A B : Type 0} (P : B → Type 0) (f : A → B) → ((x : A) → P (f x)) → (xs : List A) → Each P (map f xs)
Each-map P f all [] = tt
Each-map P f all (x ∷ xs) = (all x, Each-map P f all xs)

-- what holds in each part holds in all of them
pub Each-flat_map : {A B : Type 0} (P : B → Type 0) (f : A → List B) → ((x : A) → Each P (f x)) → (xs : List A) → Each P (flat_map f xs)
Each-flat_map P f all [] = tt
Each-flat_map P f all (x ∷ xs) = Each-append P (f x) (flat_map f xs) (all x) (Each-flat_map P f all xs)

-- and of each of the first elements
pub Each-take : {A : Type 0} (P : A → Type 0) (n : ℕ) (xs : List A) → Each P xs → Each P (take n xs)
Each-take P zero xs all = tt
Each-take P (suc n) [] all = tt
Each-take P (suc n) (x ∷ xs) all = (all.0, Each-take P n xs all.1)

-- and so does what follows from it
pub Each-weaker : {A : Type 0} (P Q : A → Type 0) → ((x : A) → P x → Q x) → (xs : List A) → Each P xs → Each Q xs
Each-weaker P Q weaker [] all = tt
Each-weaker P Q weaker (x ∷ xs) all = (weaker x all.0, Each-weaker P Q weaker xs all.1)

-- what stands in the first of two lists stands in both
pub in_front : {A : Type 0} (x : A) (xs ys : List A) → In x xs → In x (xs ++ ys)
in_front x [] ys m = absurd m
in_front x (y ∷ xs) ys m = ⊎_elim (λ here. inl here) (λ later. inr (in_front x xs ys later)) m

-- and so does what stands in the second
pub in_back : {A : Type 0} (x : A) (xs ys : List A) → In x ys → In x (xs ++ ys)
in_back x [] ys m = m
in_back x (y ∷ xs) ys m = inr (in_back x xs ys m)
