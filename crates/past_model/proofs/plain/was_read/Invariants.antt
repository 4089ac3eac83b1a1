use Rattle.std.proofs.Common.{◌≡◌, false, take}
use Rattle.past_model.specs.Past.{writes}
use Rattle.past_model.specs.Shown.{was_read}
use Rattle.past_model.specs.Moment.{marked_places}
use Rattle.past_model.proofs.plain.was_read.Given as goal

abbrev pub invariant-loop-reader : goal.invariant-loop-reader
invariant-loop-reader l = was_read (writes (take l.reader l.history)) (marked_places l.marks) l.place ≡ false
