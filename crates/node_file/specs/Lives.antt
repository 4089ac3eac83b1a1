-- All that the records of a file say, one after the other, and the lives among them.
use Rattle.std.specs.Prelude.{◌≡◌, ◌<◌, ℕ, List, [], ◌∷◌, Ok}
use Rattle.node_file.specs.declared.record.Record.{Record}
use Rattle.node_file.specs.declared.record.Record.TheVariants.{Life, Object}
use Rattle.node_file.specs.Fold.{Contents, no_contents, with_record, records_from}

-- what records make, the last record first
abbrev pub contents_of : List Record → Contents
contents_of [] = no_contents
contents_of (record_ ∷ before) = with_record (contents_of before) record_

-- the numbers of the lives among them, in the same order
abbrev pub life_numbers : List Record → List ℕ
life_numbers [] = []
life_numbers (Life n ∷ before) = n ∷ life_numbers before
life_numbers (Object k o ∷ before) = life_numbers before

-- numbers that fall strictly from this first one, down to one above 0; without any, it is 0
abbrev pub FallFrom : ℕ → List ℕ → Type 0
FallFrom n [] = n ≡ 0
FallFrom n (m ∷ ms) = (n ≡ m) × ((next : ℕ) × (next < m) × FallFrom next ms)

-- records make these contents, one after the other, and their lives rise strictly up to the last
pub record IsTold (version : ℕ) (bytes : List ℕ) (c : Contents) : Type 0 where
  pub records : List Record
  pub left : ℕ
  pub read : records_from version bytes ≡ Ok (records, left)
  pub makes : c ≡ contents_of records
  pub lives : FallFrom c.life (life_numbers records)
