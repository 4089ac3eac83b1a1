-- What is stored in the file, and what a crash leaves if nothing is.
use Rattle.std.proofs.Common.{◌≡◌, ◌≢◌, ◌⊎◌, ⊎_elim, ℕ, Bool, true, false, not, ◌&&◌, List, [], ◌∷◌, length, Option, Some, None, Result, Ok, Err, OnOk, refl, sym, ap, subst, ◌∙◌}
use Rattle.std.proofs.lemmas.Bool.{le-leb}
use Rattle.std.specs.Option.{unwrap_or}
use Rattle.std.specs.FinMap.{find}
use Rattle.meta_types.specs.First.{first_that_applies}
use Rattle.meta_types.specs.Name.{Key}
use Rattle.meta_types.specs.Order.{key_cmp}
use Rattle.dvvset.specs.Object.{Entry}
use Rattle.meta_store.specs.Table.{Table, is_small_enough, most_entries, most_merged}
use Rattle.meta_store.proofs.Sizes.{small_parts}
use Rattle.meta_store.specs.declared.fault.StoreFault.TheVariants.{ObjectTooLarge}
use Rattle.devices.specs.Device.{IsDurable, LeavesOnly}
use Rattle.devices.proofs.Moments.{started}
use Rattle.node_events.specs.Event.{stored_key}
use Rattle.node_events.specs.declared.event.NodeEvent.{NodeEvent}
use Rattle.node_core.specs.Growing.{KeepsKeys}
use Rattle.node_core.proofs.Within.{keeps_with}
use Rattle.node_file.specs.declared.fault.FileFault.{FileFault}
use Rattle.node_file.specs.declared.fault.FileFault.TheVariants.{Device, FileFull, Store}
use Rattle.node_file.specs.declared.record.Record.{Record}
use Rattle.node_file.specs.declared.record.Record.TheVariants.{Object}
use Rattle.node_file.specs.Fault.{IsOfDevice}
use Rattle.node_file.specs.File.{FileState, OpensLike, opened}
use Rattle.node_file.specs.Refusal.{has_spelling, is_too_long_with, refusal_of_append}
use Rattle.node_file.specs.View.{FileView}
use Rattle.node_file.specs.Stored.{object_record, record_under, with_stored}
use Rattle.node_call.specs.Stored.{HasRecordRoom, RefusesStoring, record_after}

kept_under : (key : Key) (held : Table) (found : Option (List Entry)) → find key_cmp key held ≡ found
    → (file : FileState) → KeepsKeys file.contents.table held
    → KeepsKeys (with_stored (object_record key found) file).contents.table held
kept_under key held None is file keeps = keeps
kept_under key held (Some object) is file keeps =
    keeps_with file.contents.table held key object keeps
    (λ none. let clash : Some object ≡ None = sym is ∙ none in absurd (cc))

kept_for : (asked : Option Key) (held : Table) (file : FileState) → KeepsKeys file.contents.table held
    → KeepsKeys (with_stored (record_under asked held) file).contents.table held
kept_for None held file keeps = keeps
kept_for (Some key) held file keeps = kept_under key held (find key_cmp key held) refl file keeps

-- what is stored is held
pub within_stored : (event : NodeEvent) (held : Table) (file : FileState)
    → KeepsKeys file.contents.table held
    → KeepsKeys (with_stored (record_after event held) file).contents.table held
within_stored event held file keeps = kept_for (stored_key event) held file keeps

module _ {D : Type 0} (content : D → List ℕ) (may_leave : D → List ℕ → Type 0) (moment : D → ℕ)
    (left_since : D → ℕ → List ℕ → Type 0) where
  -- nothing was done to the device, and a crash leaves what it holds
  pub untouched : (device : D) → IsDurable (content device) (may_leave device)
      → ((c : List ℕ) → left_since device (moment device) c → may_leave device c)
      → LeavesOnly moment left_since device device (OpensLike (content device))
  untouched device durable now_is_all =
      started moment left_since device (OpensLike (content device))
      (λ c left. ap (opened None) (durable c (now_is_all c left)))

-- ---- why nothing is stored

pub some_is : {A : Type 0} (x y : A) → Some x ≡ Some y → x ≡ y
some_is x y is = ap (λ found. unwrap_or found x) is

later_part : (a b : Bool) → (a && b) ≡ true → b ≡ true
later_part true b both = both
later_part false b both = absurd (cc)

-- of an object that a store may hold, for a file that isn't stopped
pub full_alone : (gate : ℕ) (key : Key) (object : List Entry) (fault : FileFault)
    → is_small_enough most_merged object ≡ true
    → refusal_of_append false gate key object ≡ Some fault
    → (fault ≡ FileFull) × (is_too_long_with gate (Object key object) ≡ true)
full_alone gate key object fault small refused =
    let left : first_that_applies ((has_spelling object && is_too_long_with gate (Object key object), FileFull) ∷ (false, Store ObjectTooLarge) ∷ []) ≡ Some fault =
    subst (λ b. first_that_applies ((has_spelling object && is_too_long_with gate (Object key object), FileFull) ∷ (not b, Store ObjectTooLarge) ∷ []) ≡ Some fault) small refused in
    elim (has_spelling object && is_too_long_with gate (Object key object)) as
    (λ b. (has_spelling object && is_too_long_with gate (Object key object)) ≡ b
    → first_that_applies ((b, FileFull) ∷ (false, Store ObjectTooLarge) ∷ []) ≡ Some fault
    → (fault ≡ FileFull) × (is_too_long_with gate (Object key object) ≡ true)) [
      | true ↦ λ long is. (sym (some_is FileFull fault is), later_part (has_spelling object) (is_too_long_with gate (Object key object)) long)
      | false ↦ λ short is. absurd (cc)
    ] refl left

spelled : (object : List Entry) → is_small_enough most_merged object ≡ true → has_spelling object ≡ true
spelled object small =
    let parts = small_parts most_merged object small in
    λ i. le-leb (length object) most_entries parts.few i && parts.values i

-- of an object that a store may hold, if the file would be too long with it
full_of : (gate : ℕ) (key : Key) (object : List Entry) → is_small_enough most_merged object ≡ true
    → is_too_long_with gate (Object key object) ≡ true
    → refusal_of_append false gate key object ≡ Some FileFull
full_of gate key object small long =
    let fits = spelled object small in
    λ i. first_that_applies ((fits i && long i, FileFull) ∷ (not (is_small_enough most_merged object), Store ObjectTooLarge) ∷ [])

-- what is refused for another cause, or isn't refused, has room
pub has_record_room : {A : Type 0} (r : Result A FileFault) (gate : ℕ) (key : Key) (object : List Entry)
    → is_small_enough most_merged object ≡ true
    → ((other : FileFault) → refusal_of_append false gate key object ≡ Some other → r ≡ Err other)
    → (r ≡ Err FileFull → ⊥) → HasRecordRoom gate (Some (Object key object))
has_record_room r gate key object small only otherwise long =
    otherwise (only FileFull (full_of gate key object small long))

pub stored_has_room : (r : Result (Unit {0}) FileFault) (gate : ℕ) (key : Key) (object : List Entry)
    → is_small_enough most_merged object ≡ true
    → ((other : FileFault) → refusal_of_append false gate key object ≡ Some other → r ≡ Err other)
    → OnOk r (HasRecordRoom gate (Some (Object key object)))
stored_has_room (Ok done) gate key object small only =
    has_record_room (Ok done) gate key object small only (λ clash. absurd (cc (clash)))
stored_has_room (Err fault) gate key object small only = tt

something : (stored : Record) → Some stored ≢ None
something stored none = absurd (cc)

pub refuses : {D : Type 0} (gate : ℕ) (key : Key) (object : List Entry) (before now : ℕ)
    (new : FileView D) (fault : FileFault) → is_small_enough most_merged object ≡ true
    → IsOfDevice fault before now ⊎ (refusal_of_append false gate key object ≡ Some fault)
    → (fault ≡ Device → new.is_stopped ≡ true)
    → ((other : FileFault) → refusal_of_append false gate key object ≡ Some other → (fault ≡ other) × (new.is_stopped ≡ false))
    → RefusesStoring gate (Some (Object key object)) before now new fault
refuses gate key object before now new fault small cause stops goes =
    let P = RefusesStoring gate (Some (Object key object)) before now new in
    let room : (fault ≢ FileFull) → HasRecordRoom gate (Some (Object key object)) =
    λ another long. another (goes FileFull (full_of gate key object small long)).0 in
    ⊎_elim
    (λ device. ⊎_elim
    (λ memory. subst P (sym memory.0) (something (Object key object), room (λ full. absurd (cc (full, memory.0)))))
    (λ failed. subst P (sym failed.0) (something (Object key object), (room (λ full. absurd (cc (full, failed.0))), (failed.1, stops failed.0))))
    device)
    (λ refused. let full = full_alone gate key object fault small refused in subst P (sym full.0) (full.1, (goes fault refused).1))
    cause
