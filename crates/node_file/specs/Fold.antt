-- Records one after the other, each after an open gate, up to a closed one.
use Rattle.std.specs.Prelude.{ℕ, zero, suc, ◌+◌, List, [], ◌∷◌, length, Option, Some, None, Result, Ok, Err, Bool, true, nat_lt, ◌==◌, if◌then◌else◌}
use Rattle.meta_store.specs.Table.{Table, with_object}
use Rattle.node_file.specs.declared.record.Record.{Record}
use Rattle.node_file.specs.declared.record.Record.TheVariants.{Life, Object}
use Rattle.node_file.specs.Record.{record_in}

-- ---- any fold: which record may follow, and what it makes of what was read before

-- a record that was read is taken in if it may follow; `left` bytes are left at its gate
abbrev pub after_record : {S A : Type 0} → (S → Record → Bool) → (S → Record → S) → S → ℕ
    → Option (Record × ℕ) → (S → ℕ → Result A ℕ) → Result A ℕ
after_record may_follow next s left None more = Err left
after_record may_follow next s left (Some read) more =
    if may_follow s read.0 then more (next s read.0) read.1 else Err left

-- What the records from here on make of s, and how many bytes are left at the gate that ends them,
-- which is any byte but 1; or how many are left at the first gate whose record isn't whole or may
-- not follow, or where there is no gate. The first `skip` bytes are of a record that was taken in.
unfoldable pub fold_records : {S : Type 0} → (S → Record → Bool) → (S → Record → S) → ℕ → S → ℕ
    → List ℕ → Result (S × ℕ) ℕ
fold_records may_follow next version s (suc skip) (byte ∷ rest) =
    fold_records may_follow next version s skip rest
fold_records may_follow next version s (suc skip) [] = Err 0
fold_records may_follow next version s zero [] = Err 0
fold_records may_follow next version s zero (gate ∷ rest) =
    if gate == 1
    then after_record may_follow next s (length rest + 1) (record_in version rest)
    (λ t skip. fold_records may_follow next version t skip rest)
    else Ok (s, length rest + 1)

-- ---- the contents of a file

-- the number of its last life, 0 for none, and its table
pub record Contents : Type 0 where
  pub life : ℕ
  pub table : Table

abbrev pub no_contents : Contents
no_contents = record { life = 0; table = [] }

-- lives rise
abbrev pub may_follow : Contents → Record → Bool
may_follow c (Life n) = nat_lt c.life n
may_follow c (Object k o) = true

-- of each key the last object stands
abbrev pub with_record : Contents → Record → Contents
with_record c (Life n) = record { life = n; table = c.table }
with_record c (Object k o) = record { life = c.life; table = with_object k o c.table }

unfoldable pub contents_from : ℕ → Contents → ℕ → List ℕ → Result (Contents × ℕ) ℕ
contents_from version c skip bytes = fold_records may_follow with_record version c skip bytes

-- ---- its lives alone

abbrev pub may_follow_life : ℕ → Record → Bool
may_follow_life life (Life n) = nat_lt life n
may_follow_life life (Object k o) = true

abbrev pub life_with : ℕ → Record → ℕ
life_with life (Life n) = n
life_with life (Object k o) = life

unfoldable pub life_from : ℕ → ℕ → ℕ → List ℕ → Result (ℕ × ℕ) ℕ
life_from version life skip bytes = fold_records may_follow_life life_with version life skip bytes

-- ---- all that its records say, the last first, whatever it is

abbrev pub any_may_follow : List Record → Record → Bool
any_may_follow records record_ = true

abbrev pub put_first : List Record → Record → List Record
put_first records record_ = record_ ∷ records

unfoldable pub records_from : ℕ → List ℕ → Result (List Record × ℕ) ℕ
records_from version bytes = fold_records any_may_follow put_first version [] 0 bytes
