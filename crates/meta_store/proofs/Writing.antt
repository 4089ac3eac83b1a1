-- A write of a held key through a borrow of its object: what a store is after it, and its refusals.
use Rattle.std.proofs.Common.{◌≡◌, ◌⊎◌, ℕ, inl, inr, Bool, true, false, ◌&&◌, nat_le, if◌then◌else◌, T, List, [], length, Option, Some, None, is_none, IfSome, IfNone, Result, Ok, Err, IfOk, OnErr, OnOk, refl, sym, ap, subst, ◌∙◌}
use Rattle.std.specs.Bool.{passes}
use Rattle.std.specs.BTreeMap.{is_at}
use Rattle.std.specs.Map.{lookup, set_value}
use Rattle.std.specs.FinMap.{find, put, is_sorted}
use Rattle.std.specs.Option.{unwrap_or}
use Rattle.std.specs.Result.{IsErrAnd}
use Rattle.meta_types.specs.Failing.{FailsBy}
use Rattle.meta_types.specs.Name.{Key, IsKey}
use Rattle.meta_types.specs.Order.{bytes_cmp, prefix_cmp}
use Rattle.meta_types.specs.Value.{ValueParts}
use Rattle.dvvset.specs.Object.{Counter, Entry}
use Rattle.meta_store.specs.Context.{Reading, vector_read}
use Rattle.meta_store.specs.Table.{Table, IsHeld, most_keys, object_at, with_object}
use Rattle.meta_store.specs.Kept.{AreParts, Parts, Rows, object_of_row, rows_at, table_of}
use Rattle.meta_store.specs.Step.{is_full_for, is_of_another_key, refusal_of_put, refusal_of_update}
use Rattle.meta_store.specs.declared.fault.StoreFault.TheVariants.{WrongKey, StoreFull}
use Rattle.meta_store.proofs.Holding.{length_after, parts_after, table_after}
use Rattle.meta_store.proofs.Kept.{find_row, prefix_total, rows_found}
use Rattle.meta_store.proofs.Maps.{looked_up, written, written_back}

-- ---- results

pub if_none_more : {A E P Q : Type 0} (r : Result (Option A) E) → (P → Q) → IfOk r (λ left. IfNone left P) → IfOk r (λ left. IfNone left Q)
if_none_more (Ok None) f p = f p
if_none_more (Ok (Some x)) f p = tt
if_none_more (Err e) f p = tt

pub if_some_more : {A E : Type 0} {P Q : A → Type 0} (r : Result (Option A) E) → ((x : A) → P x → Q x) → IfOk r (λ left. IfSome left P) → IfOk r (λ left. IfSome left Q)
if_some_more (Ok None) f p = tt
if_some_more (Ok (Some x)) f p = f x p
if_some_more (Err e) f p = tt

pub when_none : {A P : Type 0} (x : Option A) → x ≡ None → IfNone x P → P
when_none None e p = p
when_none (Some x) e p = cc

pub when_some : {A : Type 0} (P : A → Type 0) (x : Option A) (y : A) → x ≡ Some y → IfSome x P → P y
when_some P None y e p = cc
when_some P (Some x) y e p = subst P (let same : x ≡ y = cc in same) p

-- the fault of a call is passed on
pub fault_passed : {A F : Type 0} (r : Result A F) (memory fault : F) (refusal other : Option F) → refusal ≡ other → (fault ≡ memory) ⊎ (refusal ≡ Some fault) → IsErrAnd r (λ gave. gave ≡ fault) → FailsBy memory other r
fault_passed (Ok x) memory fault refusal other e is h = tt
fault_passed (Err y) memory fault refusal other e is h =
    subst (λ f. (f ≡ memory) ⊎ (other ≡ Some f)) (sym h) (subst (λ o. (fault ≡ memory) ⊎ (o ≡ Some fault)) e is)

pub passed_by : {F : Type 0} (b : Bool) (x : F) (rest : Option F) → b ≡ false → (if b then Some x else rest) ≡ rest
passed_by true x rest e = cc
passed_by false x rest e = refl

-- if its key is that of its context and there is room, a write has the refusals by its object
pub refusal_by_object : (table : Table) (id : ℕ) (key : Key) (value : ValueParts) (context : Option Reading) (read : List Counter) (held : List Entry) → is_of_another_key key context ≡ false → is_full_for table key ≡ false → read ≡ vector_read context → held ≡ object_at table key
    → refusal_of_update read held id value ≡ refusal_of_put table id key value context
refusal_by_object table id key value context read held own room reads holds =
    let by_object = refusal_of_update (vector_read context) (object_at table key) id value in
    ap (λ r. refusal_of_update r held id value) reads
    ∙ ap (λ h. refusal_of_update (vector_read context) h id value) holds
    ∙ sym (passed_by (is_full_for table key) StoreFull by_object room)
    ∙ sym (passed_by (is_of_another_key key context) WrongKey (if is_full_for table key then Some StoreFull else by_object) own)

-- ---- the parts

-- where a key was found, or nothing changed, no key is new
pub kept_replaced : {E : Type 0} (k : Key) (o : List Entry) (parts new : Parts) → AreParts parts → (len : ℕ) (r : Result (List Entry) E) → IsKey k → IsHeld o → len ≡ length (table_of parts)
    → OnOk r (new ≡ put prefix_cmp k.prefix (put bytes_cmp k.key o (rows_at k.prefix parts)) parts) → IfOk r (λ before. find bytes_cmp k.key (rows_at k.prefix parts) ≡ Some before) → OnErr r (new ≡ parts) → AreParts new × (len ≡ length (table_of new))
kept_replaced k o parts new are len (Ok x) key held counted is there same =
    let room : is_full_for (table_of parts) k ≡ false =
    ap (λ f. is_none f && nat_le most_keys (length (table_of parts))) (find_row k parts (passes (is_sorted prefix_cmp parts) are.rising) ∙ there) in
    (parts_after k o parts new are is key held room, counted ∙ length_after k o parts new are is false (sym (ap is_none there)))
kept_replaced k o parts new are len (Err e) key held counted is there same =
    (subst AreParts (sym same) are, counted ∙ ap (λ ps. length (table_of ps)) (sym same))

module _ (k : Key) (parts : Parts) (are : AreParts parts) (before : Rows) (found : Some before ≡ lookup (is_at (prefix_cmp k.prefix)) parts) where
  abbrev sorted : T (is_sorted prefix_cmp parts)
  sorted = passes (is_sorted prefix_cmp parts) are.rising

  abbrev there : find prefix_cmp k.prefix parts ≡ Some before
  there = sym (looked_up prefix_cmp k.prefix parts) ∙ sym found

  pub object_there : object_of_row k.key before ≡ object_at (table_of parts) k
  object_there = ap (λ x. unwrap_or x []) (ap (find bytes_cmp k.key) (sym (rows_found k.prefix before parts found)) ∙ sym (find_row k parts sorted))

  pub room_there : is_none (find bytes_cmp k.key before) ≡ false → is_full_for (table_of parts) k ≡ false
  room_there held =
      ap (λ x. is_none x && nat_le most_keys (length (table_of parts))) (find_row k parts sorted ∙ ap (find bytes_cmp k.key) (rows_found k.prefix before parts found))
      ∙ ap (λ b. b && nat_le most_keys (length (table_of parts))) held

  module _ (after : Rows) (new : Parts) (lent : new ≡ set_value (is_at (prefix_cmp k.prefix)) parts after) where
    pub parts_left : after ≡ before → new ≡ parts
    parts_left e = lent ∙ ap (set_value (is_at (prefix_cmp k.prefix)) parts) e ∙ written_back prefix_cmp k.prefix before parts there

    pub parts_put : (o : List Entry) → after ≡ put bytes_cmp k.key o before → new ≡ put prefix_cmp k.prefix (put bytes_cmp k.key o (rows_at k.prefix parts)) parts
    parts_put o e =
        lent ∙ written prefix_cmp prefix_total k.prefix before after parts sorted there
        ∙ ap (λ rows. put prefix_cmp k.prefix rows parts) (e ∙ ap (put bytes_cmp k.key o) (sym (rows_found k.prefix before parts found)))

    pub table_put_there : (o : List Entry) → after ≡ put bytes_cmp k.key o before → table_of new ≡ with_object k o (table_of parts)
    table_put_there o e = table_after k o parts new are (parts_put o e)

    kept_or_put : (o : List Entry) (len : ℕ) → IsKey k → len ≡ length (table_of parts) → (after ≡ before) ⊎ ((after ≡ put bytes_cmp k.key o before) × (IsHeld o × (is_none (find bytes_cmp k.key before) ≡ false))) → AreParts new × (len ≡ length (table_of new))
    kept_or_put o len key counted (inl e) = (subst AreParts (sym (parts_left e)) are, counted ∙ ap (λ ps. length (table_of ps)) (sym (parts_left e)))
    kept_or_put o len key counted (inr (e, (held, is))) = (
      parts_after k o parts new are (parts_put o e) key held (room_there is),
      counted ∙ length_after k o parts new are (parts_put o e) false (sym is ∙ ap (λ rows. is_none (find bytes_cmp k.key rows)) (sym (rows_found k.prefix before parts found))),
    )

    changed : {A F : Type 0} (value : A) (o : List Entry) (r : Result (Option A) F)
        → IfOk r (λ left. IfNone left (after ≡ put bytes_cmp k.key o before)) → IfOk r (λ left. IfNone left (IsHeld o)) → IfOk r (λ left. IfNone left (is_none (find bytes_cmp k.key before) ≡ false))
        → IfOk r (λ left. IfSome left (λ back. (back ≡ value) × ((object_of_row k.key before ≡ []) × (after ≡ before)))) → OnErr r (after ≡ before)
        → (after ≡ before) ⊎ ((after ≡ put bytes_cmp k.key o before) × (IsHeld o × (is_none (find bytes_cmp k.key before) ≡ false)))
    changed value o (Ok None) written held is left same = inr (written, (held, is))
    changed value o (Ok (Some x)) written held is left same = inl left.1.1
    changed value o (Err e) written held is left same = inl same

    pub kept_after : {A F : Type 0} (value : A) (o : List Entry) (r : Result (Option A) F) (len : ℕ) → IsKey k → len ≡ length (table_of parts)
        → IfOk r (λ left. IfNone left (after ≡ put bytes_cmp k.key o before)) → IfOk r (λ left. IfNone left (IsHeld o)) → IfOk r (λ left. IfNone left (is_none (find bytes_cmp k.key before) ≡ false))
        → IfOk r (λ left. IfSome left (λ back. (back ≡ value) × ((object_of_row k.key before ≡ []) × (after ≡ before)))) → OnErr r (after ≡ before)
        → AreParts new × (len ≡ length (table_of new))
    kept_after value o r len key counted written held is left same = kept_or_put o len key counted (changed value o r written held is left same)
