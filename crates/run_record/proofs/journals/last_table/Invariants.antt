use Rattle.std.proofs.Common.{◌≡◌, drop}
use Rattle.run_record.specs.Journals.{last_table}
use Rattle.run_record.proofs.journals.last_table.Given as goal

-- it is among those that are left
abbrev pub invariant-loop-one : goal.invariant-loop-one
invariant-loop-one l = last_table l.closed l.number ≡ last_table (drop l.one-index l.closed) l.number
