-- A store that is filled in the order of a table holds what was gone over.
use Rattle.std.proofs.Common.{◌≡◌, ◌&&◌, Bool, true, false, List, [], ◌∷◌, ◌++◌, All, refl, ap, ◌∙◌}
use Rattle.std.specs.Bool.{passes}
use Rattle.std.specs.FinMap.{is_sorted}
use Rattle.std.proofs.lemmas.List.Elements.{All-tail}
use Rattle.meta_types.specs.Name.{Key}
use Rattle.meta_types.specs.Order.{key_cmp}
use Rattle.dvvset.specs.Object.{Entry}
use Rattle.meta_store.specs.Table.{IsHeld, IsTable, Table, with_object}
use Rattle.meta_store.proofs.Keys.{key_total}
use Rattle.meta_store.proofs.Maps.{put_last}

last_rows : (held rest : Table) → All (λ row. IsHeld row.1) (held ++ rest) → All (λ row. IsHeld row.1) rest
last_rows [] rest all = all
last_rows (row ∷ rows) rest all = last_rows rows rest (All-tail (λ row. IsHeld row.1) row (rows ++ rest) all)

room_by : (b c : Bool) → c ≡ false → (b && c) ≡ false
room_by true c e = e
room_by false c e = refl

pub filled_next : (held rest rows new : Table) (key : Key) (object : List Entry) → IsTable rows → held ++ (key, object) ∷ rest ≡ rows
    → new ≡ with_object key object held → new ++ rest ≡ rows
filled_next held rest rows new key object is together now =
    ap (λ t. t ++ rest) now
    ∙ put_last key_cmp key_total held key object rest (passes (is_sorted key_cmp (held ++ (key, object) ∷ rest)) (ap (is_sorted key_cmp) together ∙ is.rising))
    ∙ together
