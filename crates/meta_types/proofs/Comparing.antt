use Rattle.std.proofs.Common.{ℕ, ◌≡◌, ◌<◌, ◌⊎◌, ◌↔◌, List, [], ◌∷◌, ◌++◌, Option, Some, None, refl, sym, ap, subst, ◌∙◌, inl, inr}
use Rattle.std.specs.declared.cmp.Ordering.{Ordering}
use Rattle.std.specs.declared.cmp.Ordering.TheVariants.{Less, Equal, Greater}
use Rattle.std.specs.Ordering.{nat_cmp, ordering_then, MatchOrdering}
use Rattle.std.specs.Cmp.{nat_cmp_is, ranked}
use Rattle.std.specs.FinMap.{nat_cmp-IsAntisymmetric, slice_cmp-IsAntisymmetric}
use Rattle.std.specs.Option.{option_cmp}
use Rattle.meta_types.specs.Name.{Prefix, Key}
use Rattle.meta_types.specs.Value.{ValueParts}
use Rattle.meta_types.specs.Order.{BytesBefore, PrefixBefore, KeyBefore, BodyBefore, ValueBefore, bytes_cmp, prefix_cmp, key_cmp, value_cmp}

-- ---- bytes

BytesBefore-cons : (x y : ℕ) (xs ys : List ℕ) → x ≡ y → BytesBefore xs ys → BytesBefore (x ∷ xs) (y ∷ ys)
BytesBefore-cons x y xs ys e (inl p) =
    inl (record { next = p.next; rest = p.rest; split = λ i. sym e i ∷ p.split i })
BytesBefore-cons x y xs ys e (inr d) =
    inr (record {
      front = x ∷ d.front;
      low = d.low;
      high = d.high;
      lesser_rest = d.lesser_rest;
      greater_rest = d.greater_rest;
      lesser_split = λ i. x ∷ d.lesser_split i;
      greater_split = λ i. sym e i ∷ d.greater_split i;
      differs = d.differs;
    })

-- the first bytes decide, or at equal ones what follows them
BytesBefore-step : (x y : ℕ) (xs ys : List ℕ) (o : Ordering) → MatchOrdering o (x < y) (x ≡ y) (y < x) → (bytes_cmp xs ys ≡ Less → BytesBefore xs ys) → ordering_then o (bytes_cmp xs ys) ≡ Less → BytesBefore (x ∷ xs) (y ∷ ys)
BytesBefore-step x y xs ys Less less rest h =
    inr (record {
      front = [];
      low = x;
      high = y;
      lesser_rest = xs;
      greater_rest = ys;
      lesser_split = refl;
      greater_split = refl;
      differs = less;
    })
BytesBefore-step x y xs ys Equal same rest h = BytesBefore-cons x y xs ys same (rest h)
BytesBefore-step x y xs ys Greater more rest h = cc

before_from_cmp : (xs ys : List ℕ) → bytes_cmp xs ys ≡ Less → BytesBefore xs ys
before_from_cmp [] [] h = cc
before_from_cmp [] (y ∷ ys) h = inl (record { next = y; rest = ys; split = refl })
before_from_cmp (x ∷ xs) [] h = cc
before_from_cmp (x ∷ xs) (y ∷ ys) h =
    BytesBefore-step x y xs ys (nat_cmp x y) (ranked x y (nat_cmp x y) refl) (before_from_cmp xs ys) h

-- a common front decides nothing
bytes_cmp-append : (front xs ys : List ℕ) → bytes_cmp (front ++ xs) (front ++ ys) ≡ bytes_cmp xs ys
bytes_cmp-append [] xs ys = refl
bytes_cmp-append (x ∷ front) xs ys =
    ap (λ o. ordering_then o (bytes_cmp (front ++ xs) (front ++ ys))) (sym (nat_cmp_is x x Equal refl)) ∙ bytes_cmp-append front xs ys

bytes_cmp-append_nil : (front ys : List ℕ) → bytes_cmp front (front ++ ys) ≡ bytes_cmp [] ys
bytes_cmp-append_nil [] ys = refl
bytes_cmp-append_nil (x ∷ front) ys =
    ap (λ o. ordering_then o (bytes_cmp front (front ++ ys))) (sym (nat_cmp_is x x Equal refl)) ∙ bytes_cmp-append_nil front ys

cmp_from_before : (xs ys : List ℕ) → BytesBefore xs ys → bytes_cmp xs ys ≡ Less
cmp_from_before xs ys (inl p) =
    ap (λ zs. bytes_cmp xs zs) p.split ∙ bytes_cmp-append_nil xs (p.next ∷ p.rest)
cmp_from_before xs ys (inr d) =
    (λ i. bytes_cmp (d.lesser_split i) (d.greater_split i))
    ∙ bytes_cmp-append d.front (d.low ∷ d.lesser_rest) (d.high ∷ d.greater_rest)
    ∙ ap (λ o. ordering_then o (bytes_cmp d.lesser_rest d.greater_rest)) (sym (nat_cmp_is d.low d.high Less d.differs))

-- ---- one comparison after another

less_from_then : (o p : Ordering) → ordering_then o p ≡ Less → (o ≡ Less) ⊎ ((o ≡ Equal) × (p ≡ Less))
less_from_then Less p h = inl refl
less_from_then Equal p h = inr (refl, h)
less_from_then Greater p h = cc

then_from_less : (o p : Ordering) → (o ≡ Less) ⊎ ((o ≡ Equal) × (p ≡ Less)) → ordering_then o p ≡ Less
then_from_less o p (inl less) = ap (λ q. ordering_then q p) less
then_from_less o p (inr (same, less)) = ap (λ q. ordering_then q p) same ∙ less

bytes_cmp-same : (xs : List ℕ) → bytes_cmp xs xs ≡ Equal
bytes_cmp-same [] = refl
bytes_cmp-same (x ∷ xs) =
    ap (λ o. ordering_then o (bytes_cmp xs xs)) (sym (nat_cmp_is x x Equal refl)) ∙ bytes_cmp-same xs

pub same_bytes : (xs ys : List ℕ) → bytes_cmp xs ys ≡ Equal → xs ≡ ys
same_bytes = slice_cmp-IsAntisymmetric nat_cmp-IsAntisymmetric

-- ---- prefixes and keys

pub equal_from_then : (o p : Ordering) → ordering_then o p ≡ Equal → (o ≡ Equal) × (p ≡ Equal)
equal_from_then Less p h = cc
equal_from_then Equal p h = (refl, h)
equal_from_then Greater p h = cc

pub same_prefix : (p q : Prefix) → prefix_cmp p q ≡ Equal → p ≡ q
same_prefix p q h =
    let both = equal_from_then (bytes_cmp p.prefix q.prefix) (bytes_cmp p.sub q.sub) h in
    λ i. record { prefix = same_bytes p.prefix q.prefix both.0 i; sub = same_bytes p.sub q.sub both.1 i }

prefix_cmp-same : (p : Prefix) → prefix_cmp p p ≡ Equal
prefix_cmp-same p = ap (λ o. ordering_then o (bytes_cmp p.sub p.sub)) (bytes_cmp-same p.prefix) ∙ bytes_cmp-same p.sub

prefix_cmp-Less : (p q : Prefix) → (prefix_cmp p q ≡ Less) ↔ PrefixBefore p q
prefix_cmp-Less p q = (forth, back)
  where
    forth : prefix_cmp p q ≡ Less → PrefixBefore p q
    forth h = elim (less_from_then (bytes_cmp p.prefix q.prefix) (bytes_cmp p.sub q.sub) h) [
      | inl less ↦ inl (before_from_cmp p.prefix q.prefix less)
      | inr both ↦ inr (same_bytes p.prefix q.prefix both.0, before_from_cmp p.sub q.sub both.1)
    ]

    back : PrefixBefore p q → prefix_cmp p q ≡ Less
    back (inl before) = then_from_less (bytes_cmp p.prefix q.prefix) (bytes_cmp p.sub q.sub) (inl (cmp_from_before p.prefix q.prefix before))
    back (inr both) = then_from_less (bytes_cmp p.prefix q.prefix) (bytes_cmp p.sub q.sub) (inr (subst (λ xs. bytes_cmp p.prefix xs ≡ Equal) both.0 (bytes_cmp-same p.prefix), cmp_from_before p.sub q.sub both.1))

key_cmp-Less : (k l : Key) → (key_cmp k l ≡ Less) ↔ KeyBefore k l
key_cmp-Less k l = (forth, back)
  where
    forth : key_cmp k l ≡ Less → KeyBefore k l
    forth h = elim (less_from_then (prefix_cmp k.prefix l.prefix) (bytes_cmp k.key l.key) h) [
      | inl less ↦ inl ((prefix_cmp-Less k.prefix l.prefix).0 less)
      | inr both ↦ inr (same_prefix k.prefix l.prefix both.0, before_from_cmp k.key l.key both.1)
    ]

    back : KeyBefore k l → key_cmp k l ≡ Less
    back (inl before) = then_from_less (prefix_cmp k.prefix l.prefix) (bytes_cmp k.key l.key) (inl ((prefix_cmp-Less k.prefix l.prefix).1 before))
    back (inr both) = then_from_less (prefix_cmp k.prefix l.prefix) (bytes_cmp k.key l.key) (inr (subst (λ r. prefix_cmp k.prefix r ≡ Equal) both.0 (prefix_cmp-same k.prefix), cmp_from_before k.key l.key both.1))

-- ---- values

body_before_from_cmp : (v w : Option (List ℕ)) → option_cmp bytes_cmp v w ≡ Less → BodyBefore v w
body_before_from_cmp None None h = cc
body_before_from_cmp None (Some ys) h = tt
body_before_from_cmp (Some xs) None h = cc
body_before_from_cmp (Some xs) (Some ys) h = before_from_cmp xs ys h

cmp_from_body_before : (v w : Option (List ℕ)) → BodyBefore v w → option_cmp bytes_cmp v w ≡ Less
cmp_from_body_before None None h = absurd h
cmp_from_body_before None (Some ys) h = refl
cmp_from_body_before (Some xs) None h = absurd h
cmp_from_body_before (Some xs) (Some ys) h = cmp_from_before xs ys h

value_cmp-Less : (v w : ValueParts) → (value_cmp v w ≡ Less) ↔ ValueBefore v w
value_cmp-Less v w = (forth, back)
  where
    forth : value_cmp v w ≡ Less → ValueBefore v w
    forth h = elim (less_from_then (nat_cmp v.stamp w.stamp) (option_cmp bytes_cmp v.body w.body) h) [
      | inl less ↦ inl (ranked v.stamp w.stamp Less (sym less))
      | inr both ↦ inr (ranked v.stamp w.stamp Equal (sym both.0), body_before_from_cmp v.body w.body both.1)
    ]

    back : ValueBefore v w → value_cmp v w ≡ Less
    back (inl less) = then_from_less (nat_cmp v.stamp w.stamp) (option_cmp bytes_cmp v.body w.body) (inl (sym (nat_cmp_is v.stamp w.stamp Less less)))
    back (inr both) = then_from_less (nat_cmp v.stamp w.stamp) (option_cmp bytes_cmp v.body w.body) (inr (sym (nat_cmp_is v.stamp w.stamp Equal both.0), cmp_from_body_before v.body w.body both.1))

-- ---- what a comparison answered, if it answered this

pub bytes_before : (r : Ordering) (xs ys : List ℕ) → r ≡ bytes_cmp xs ys → (r ≡ Less) ↔ BytesBefore xs ys
bytes_before r xs ys e = ((λ h. before_from_cmp xs ys (sym e ∙ h)), (λ b. e ∙ cmp_from_before xs ys b))

pub prefix_before : (r : Ordering) (p q : Prefix) → r ≡ prefix_cmp p q → (r ≡ Less) ↔ PrefixBefore p q
prefix_before r p q e = ((λ h. (prefix_cmp-Less p q).0 (sym e ∙ h)), (λ b. e ∙ (prefix_cmp-Less p q).1 b))

pub key_before : (r : Ordering) (k l : Key) → r ≡ key_cmp k l → (r ≡ Less) ↔ KeyBefore k l
key_before r k l e = ((λ h. (key_cmp-Less k l).0 (sym e ∙ h)), (λ b. e ∙ (key_cmp-Less k l).1 b))

pub value_before : (r : Ordering) (v w : ValueParts) → r ≡ value_cmp v w → (r ≡ Less) ↔ ValueBefore v w
value_before r v w e = ((λ h. (value_cmp-Less v w).0 (sym e ∙ h)), (λ b. e ∙ (value_cmp-Less v w).1 b))
