-- Two lists beside each other, which get one more element each.
use Rattle.std.proofs.Common.{◌≡◌, ◌≤◌, List, [], ◌∷◌, ◌++◌, length, map, refl, sym, ap, ◌∙◌, arith, length-append}
use Rattle.std.proofs.lemmas.List.{append-nil, append_assoc, length-map, map_push}
use Rattle.std.specs.List.{AllZip}

pub places_on : {A B : Type 0} (R : A → B → Type 0) (xs : List A) (ys : List B) (x : A) (y : B)
    → AllZip R xs ys → R x y → AllZip R (xs ++ x ∷ []) (ys ++ y ∷ [])
places_on R [] [] x y all is = (is, tt)
places_on R [] (b ∷ bs) x y all is = absurd all
places_on R (a ∷ more) [] x y all is = absurd all
places_on R (a ∷ more) (b ∷ bs) x y all is = (all.0, places_on R more bs x y all.1 is)

-- what stands beside a list that ends with this: it ends too
pub record EndsBeside {A B : Type 0} (R : A → B → Type 0) (xs : List A) (ys : List B) (y : B)
    : Type 0 where
  pub first : List A
  pub last : A
  pub is : xs ≡ first ++ last ∷ []
  pub each : AllZip R first ys
  pub there : R last y

pub places_off : {A B : Type 0} (R : A → B → Type 0) (xs : List A) (ys : List B) (y : B)
    → AllZip R xs (ys ++ y ∷ []) → EndsBeside R xs ys y
places_off R [] [] y all = absurd all
places_off R [] (b ∷ bs) y all = absurd all
places_off R (x ∷ []) [] y all = record { first = []; last = x; is = refl; each = tt; there = all.0 }
places_off R (x ∷ z ∷ more) [] y all = absurd all.1
places_off R (x ∷ more) (b ∷ bs) y all =
    let rest = places_off R more bs y all.1 in record {
      first = x ∷ rest.first;
      last = rest.last;
      is = ap (λ l. x ∷ l) rest.is;
      each = (all.0, rest.each);
      there = rest.there;
    }

-- ---- what is made of a list, beside what is left of another

-- the first of what is left goes over
pub goes_over : {A B C : Type 0} (f : A → C) (g : B → C) (xs : List A) (x : A) (y : B)
    (ys : List B) → f x ≡ g y
    → map f (xs ++ x ∷ []) ++ map g ys ≡ map f xs ++ map g (y ∷ ys)
goes_over f g xs x y ys is =
    ap (λ l. l ++ map g ys) (map_push f xs x)
    ∙ (append_assoc (map f xs) (f x ∷ []) (map g ys) ∙ ap (λ z. map f xs ++ z ∷ map g ys) is)

pub no_more : {A B C : Type 0} (f : A → C) (g : B → C) (xs : List A) (ys zs : List B)
    → map f xs ++ map g ys ≡ map g zs → length xs ≤ length zs
no_more f g xs ys zs is =
    omega (arith, ap length is, length-append (map f xs) (map g ys), length-map xs f, length-map zs g)

-- once nothing is left, all went over
pub all_over : {A B C : Type 0} (f : A → C) (g : B → C) (xs : List A) (ys zs : List B) → ys ≡ []
    → map f xs ++ map g ys ≡ map g zs → map f xs ≡ map g zs
all_over f g xs ys zs none is =
    sym (append-nil (map f xs)) ∙ (ap (λ l. map f xs ++ map g l) (sym none) ∙ is)

pub none_left : {A : Type 0} (xs : List A) → length xs ≡ 0 → xs ≡ []
none_left [] is = refl
none_left (x ∷ xs) is = absurd (omega (arith, is))
