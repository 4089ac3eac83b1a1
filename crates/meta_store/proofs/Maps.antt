-- The toolchain's ordered map in the words of a table: what it holds after a call is `put`, what it finds is `find`.
use Rattle.std.proofs.Common.{◌≡◌, Bool, true, false, cond, ◌&&◌, T, List, [], ◌∷◌, ◌++◌, All, Option, Some, None, is_some, is_none, not, Result, Ok, Err, IfOk, OnOk, OnErr, refl, sym, ap, subst, ◌∙◌}
use Rattle.std.specs.Ordering.{is_eq, is_lt, match_ordering, ordering_reverse}
use Rattle.std.specs.declared.cmp.Ordering.{Ordering}
use Rattle.std.specs.declared.cmp.Ordering.TheVariants.{Less, Equal, Greater}
use Rattle.std.specs.Cmp.{IsTotalOrder}
use Rattle.std.specs.BTreeMap.{insert_entry, is_at}
use Rattle.std.specs.Map.{lookup, set_value}
use Rattle.std.specs.FinMap.{find, put, is_sorted}
use Rattle.std.specs.FinMap.Entries.{by_order, below_all, is_sorted-put}
use Rattle.std.proofs.lemmas.List.Elements.{All-cons, All-head, All-tail, All-nil}

pub first : (a b : Bool) → T (a && b) → T a
first true b p = tt
first false b p = p

pub second : (a b : Bool) → T (a && b) → T b
second true b p = p
second false b p = absurd p

pub is_less : (r : Ordering) → T (is_lt r) → r ≡ Less
is_less Less t = refl
is_less Equal t = absurd t
is_less Greater t = absurd t

pub is_true : (b : Bool) → T b → b ≡ true
is_true true t = refl
is_true false t = absurd t

some_or_none : {A : Type 0} (x : A) → Some x ≡ None → ⊥
some_or_none x e = cc

pub greater_back : {K : Type 0} (R : K → K → Ordering) → IsTotalOrder R → (q k : K) → R q k ≡ Less → R k q ≡ Greater
greater_back R o q k is = o.antisymm k q ∙ ap ordering_reverse is

module _ {K X : Type 0} (R : K → K → Ordering) where
  pub inserted : (k : K) (v : X) (es : List (K × X)) → insert_entry R es k v ≡ put R k v es
  inserted k v [] = refl
  inserted k v (e ∷ es) = elim (R k e.0) as (λ o. match_ordering o ((k, v) ∷ e ∷ es) ((e.0, v) ∷ es) (e ∷ insert_entry R es k v) ≡ by_order o ((k, v) ∷ e ∷ es) ((e.0, v) ∷ es) (e ∷ put R k v es)) [
    | Less ↦ refl
    | Equal ↦ refl
    | Greater ↦ ap (λ xs. e ∷ xs) (inserted k v es)
  ]

  pub looked_up : (q : K) (es : List (K × X)) → lookup (is_at (R q)) es ≡ find R q es
  looked_up q [] = refl
  looked_up q (e ∷ es) = ap (cond (is_eq (R q e.0)) (Some e.1)) (looked_up q es)

  -- what stands at a key is put there again: nothing changes
  pub written_back : (q : K) (v : X) (es : List (K × X)) → find R q es ≡ Some v → set_value (is_at (R q)) es v ≡ es
  written_back q v [] e = refl
  written_back q v (x ∷ xs) e =
      elim (is_eq (R q x.0)) as (λ b. cond b (Some x.1) (find R q xs) ≡ Some v → cond b ((x.0, v) ∷ xs) (x ∷ set_value (is_at (R q)) xs v) ≡ x ∷ xs) [
        | true ↦ λ is. ap (λ w. (x.0, w) ∷ xs) (let same : v ≡ x.1 = cc in same)
        | false ↦ λ is. ap (λ ys. x ∷ ys) (written_back q v xs is)
      ] e

  pub All-put : (P : K × X → Type 0) (k : K) (v : X) (es : List (K × X)) → All P es → P (k, v) → ((e : K × X) → P e → P (e.0, v)) → All P (put R k v es)
  All-put P k v [] all is each = All-cons P (k, v) [] is (All-nil P)
  All-put P k v (e ∷ es) all is each = elim (R k e.0) as (λ o. All P (by_order o ((k, v) ∷ e ∷ es) ((e.0, v) ∷ es) (e ∷ put R k v es))) [
    | Less ↦ All-cons P (k, v) (e ∷ es) is all
    | Equal ↦ All-cons P (e.0, v) es (each e (All-head P e es all)) (All-tail P e es all)
    | Greater ↦ All-cons P e (put R k v es) (All-head P e es all) (All-put P k v es (All-tail P e es all) is each)
  ]

  -- what stands below all keys is none of them
  pub find_below : (q : K) (es : List (K × X)) → T (below_all R q es) → find R q es ≡ None
  find_below q [] below = refl
  find_below q (e ∷ es) below =
      ap (λ r. cond (is_eq r) (Some e.1) (find R q es)) (is_less (R q e.0) (first (is_lt (R q e.0)) (below_all R q es) below))
      ∙ find_below q es (second (is_lt (R q e.0)) (below_all R q es) below)

  module _ (o : IsTotalOrder R) where
    -- a key before the first stands before all
    pub before_all : (q : K) (v : X) (e : K × X) (es : List (K × X)) → T (is_sorted R (e ∷ es)) → R q e.0 ≡ Less → T (below_all R q (e ∷ es))
    before_all q v e es sorted less =
        let after : T (is_sorted R (by_order (R q e.0) ((q, v) ∷ e ∷ es) ((e.0, v) ∷ es) (e ∷ put R q v es))) = is_sorted-put R o q v (e ∷ es) sorted in
        first (below_all R q (e ∷ es)) (is_sorted R (e ∷ es)) (subst (λ r. T (is_sorted R (by_order r ((q, v) ∷ e ∷ es) ((e.0, v) ∷ es) (e ∷ put R q v es)))) less after)

    pub rest_sorted : (e : K × X) (es : List (K × X)) → T (is_sorted R (e ∷ es)) → T (is_sorted R es)
    rest_sorted e es sorted = second (below_all R e.0 es) (is_sorted R es) sorted

    pub below_rest : (e : K × X) (es : List (K × X)) → T (is_sorted R (e ∷ es)) → T (below_all R e.0 es)
    below_rest e es sorted = first (below_all R e.0 es) (is_sorted R es) sorted

    below_within : (q : K) (xs : List (K × X)) (x : K × X) (rest : List (K × X)) → T (below_all R q (xs ++ x ∷ rest)) → R q x.0 ≡ Less
    below_within q [] x rest below = is_less (R q x.0) (first (is_lt (R q x.0)) (below_all R q rest) below)
    below_within q (e ∷ es) x rest below = below_within q es x rest (second (is_lt (R q e.0)) (below_all R q (es ++ x ∷ rest)) below)

    -- a key after all others is put last
    pub put_last : (xs : List (K × X)) (k : K) (v : X) (rest : List (K × X)) → T (is_sorted R (xs ++ (k, v) ∷ rest)) → put R k v xs ++ rest ≡ xs ++ (k, v) ∷ rest
    put_last [] k v rest sorted = refl
    put_last (e ∷ es) k v rest sorted =
        let all : List (K × X) = es ++ (k, v) ∷ rest in
        ap (λ r. by_order r ((k, v) ∷ e ∷ es) ((e.0, v) ∷ es) (e ∷ put R k v es) ++ rest) (greater_back R o e.0 k (below_within e.0 es (k, v) rest (below_rest e all sorted)))
        ∙ ap (λ ys. e ∷ ys) (put_last es k v rest (rest_sorted e all sorted))

    -- a map that is filled in order holds what was gone over
    pub filled_up : (xs new rest all : List (K × X)) (k : K) (v : X) → T (is_sorted R all) → xs ++ (k, v) ∷ rest ≡ all → new ≡ insert_entry R xs k v → new ++ rest ≡ all
    filled_up xs new rest all k v sorted together is =
        ap (λ ys. ys ++ rest) (is ∙ inserted k v xs) ∙ put_last xs k v rest (subst (λ ys. T (is_sorted R ys)) (sym together) sorted) ∙ together

    -- what is written through a borrow of what was found
    pub written : (q : K) (v w : X) (es : List (K × X)) → T (is_sorted R es) → find R q es ≡ Some v → set_value (is_at (R q)) es w ≡ put R q w es
    written q v w [] sorted e = absurd (some_or_none v (sym e))
    written q v w (x ∷ xs) sorted e =
        elim (R q x.0) as (λ r. R q x.0 ≡ r → cond (is_eq r) (Some x.1) (find R q xs) ≡ Some v
        → cond (is_eq r) ((x.0, w) ∷ xs) (x ∷ set_value (is_at (R q)) xs w) ≡ by_order r ((q, w) ∷ x ∷ xs) ((x.0, w) ∷ xs) (x ∷ put R q w xs)) [
          | Less ↦ λ less is. absurd (some_or_none v (sym is ∙ find_below q xs (second (is_lt (R q x.0)) (below_all R q xs) (before_all q w x xs sorted less))))
          | Equal ↦ λ tied is. refl
          | Greater ↦ λ later is. ap (λ ys. x ∷ ys) (written q v w xs (rest_sorted x xs sorted) is)
        ] refl e

    -- what is written where a key was found: no key is new
    pub All-put-found : (P : K × X → Type 0) (q : K) (v w : X) (es : List (K × X)) → T (is_sorted R es) → find R q es ≡ Some v → All P es → ((e : K × X) → P e → P (e.0, w)) → All P (put R q w es)
    All-put-found P q v w [] sorted e all each = absurd (some_or_none v (sym e))
    All-put-found P q v w (x ∷ xs) sorted e all each =
        elim (R q x.0) as (λ r. R q x.0 ≡ r → cond (is_eq r) (Some x.1) (find R q xs) ≡ Some v → All P (by_order r ((q, w) ∷ x ∷ xs) ((x.0, w) ∷ xs) (x ∷ put R q w xs))) [
          | Less ↦ λ less is. absurd (some_or_none v (sym is ∙ find_below q xs (second (is_lt (R q x.0)) (below_all R q xs) (before_all q w x xs sorted less))))
          | Equal ↦ λ tied is. All-cons P (x.0, w) xs (each x (All-head P x xs all)) (All-tail P x xs all)
          | Greater ↦ λ later is. All-cons P x (put R q w xs) (All-head P x xs all) (All-put-found P q v w xs (rest_sorted x xs sorted) is (All-tail P x xs all) each)
        ] refl e

pub none_of : {A : Type 0} (x : Option A) (b : Bool) → is_some x ≡ not b → b ≡ is_none x
none_of None true e = refl
none_of None false e = cc
none_of (Some x) true e = cc
none_of (Some x) false e = refl

pub always : {A E P : Type 0} (r : Result A E) → P → OnErr r P
always (Ok x) p = tt
always (Err e) p = p

pub on_ok_more : {A E P Q : Type 0} (r : Result A E) → (P → Q) → OnOk r P → OnOk r Q
on_ok_more (Ok x) f p = f p
on_ok_more (Err e) f p = tt

pub on_err_more : {A E P Q : Type 0} (r : Result A E) → (P → Q) → OnErr r P → OnErr r Q
on_err_more (Ok x) f p = tt
on_err_more (Err e) f p = f p

pub if_ok_more : {A E : Type 0} {P Q : A → Type 0} (r : Result A E) → ((x : A) → P x → Q x) → IfOk r P → IfOk r Q
if_ok_more (Ok x) f p = f x p
if_ok_more (Err e) f p = tt
