-- A table of one row.
use Rattle.std.proofs.Common.{◌≡◌, List, [], ◌∷◌, ◌++◌, length, Some, Bool, true, cond, refl, ap, arith, length-append}
use Rattle.std.specs.Ordering.{is_eq, ordering_reverse}
use Rattle.std.specs.declared.cmp.Ordering.{Ordering}
use Rattle.std.specs.declared.cmp.Ordering.TheVariants.{Less, Equal, Greater}
use Rattle.std.specs.FinMap.{find}
use Rattle.meta_types.specs.Name.{Key, Prefix}
use Rattle.meta_types.specs.Order.{key_cmp, prefix_cmp, prefix_eq}
use Rattle.dvvset.specs.Object.{Entry}
use Rattle.meta_store.specs.Table.{keys_under, prefixes_of}
use Rattle.meta_store.proofs.Keys.{key_total}
use Rattle.meta_store.proofs.Kept.{prefix_total}

ties : (o : Ordering) → o ≡ ordering_reverse o → o ≡ Equal
ties Less e = absurd cc
ties Equal e = refl
ties Greater e = absurd cc

key_self : (k : Key) → key_cmp k k ≡ Equal
key_self k = ties (key_cmp k k) (key_total.antisymm k k)

prefix_self : (p : Prefix) → prefix_eq p p ≡ true
prefix_self p = ap is_eq (ties (prefix_cmp p p) (prefix_total.antisymm p p))

pub one_prefix : (k : Key) (o : List Entry) → prefixes_of ((k, o) ∷ []) ≡ k.prefix ∷ []
one_prefix k o = refl

pub one_key : (k : Key) (o : List Entry) → keys_under k.prefix ((k, o) ∷ []) ≡ k ∷ []
one_key k o = ap (λ (t : Bool). cond t (k ∷ []) []) (prefix_self k.prefix)

pub one_object : (k : Key) (o : List Entry) → find key_cmp k ((k, o) ∷ []) ≡ Some o
one_object k o = rw (key_self k) refl

-- the last element of a list of one
pub last_is : {X : Type 0} (front : List X) (x y : X) → y ∷ [] ≡ front ++ x ∷ [] → x ≡ y
last_is [] x y e = cc
last_is (z ∷ front) x y e = absurd (omega (arith, ap length e, length-append front (x ∷ [])))
