-- Objects as the first version of node files has them: their writers are nodes alone, which stand
-- for what they wrote in the life of number 0, and all else is as in a frame. Nothing writes this
-- form.
use Rattle.std.specs.Prelude.{ℕ, List, nat_le}
use Rattle.std.specs.Int.{w16, w64}
use Rattle.meta_types.specs.Actor.{writer_number}
use Rattle.dvvset.specs.Object.{Entry}
use Rattle.frame_fields.specs.Field.{above_entry, greatest_count, has_value, most_listed}
use Rattle.frame_readers.specs.Reader.{Reader, each_reader, made_reader, node_reader, ruled_reader, then_reader, values_reader, within_reader}

-- a node, which as a writer in its life 0 is `low` or more
unfoldable pub old_writer_reader : ℕ → Reader ℕ
old_writer_reader low =
    made_reader (ruled_reader node_reader (λ node. nat_le low (writer_number node 0)))
    (λ node. writer_number node 0)

unfoldable pub old_entry_reader : ℕ → Reader Entry
old_entry_reader low =
    made_reader (then_reader (old_writer_reader low)
    (λ _. then_reader (within_reader w64 1 greatest_count) values_reader))
    (λ p. record { id = p.0; count = p.1.0; values = p.1.1 })

unfoldable pub old_entries_reader : Reader (List Entry)
old_entries_reader =
    made_reader (then_reader (within_reader w16 1 most_listed)
    (each_reader old_entry_reader above_entry 0)) (λ p. p.1)

unfoldable pub old_object_reader : Reader (List Entry)
old_object_reader = ruled_reader old_entries_reader has_value
