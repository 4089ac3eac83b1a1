use Rattle.std.proofs.Common.{◌≡◌, drop}
use Rattle.run_record.specs.Journals.{journal_of}
use Rattle.run_record.proofs.journals.journal_of.Given as goal

-- it is among those that are left
abbrev pub invariant-loop-one : goal.invariant-loop-one
invariant-loop-one l =
    journal_of l.closed l.number ≡ journal_of (drop l.one-index l.closed) l.number
