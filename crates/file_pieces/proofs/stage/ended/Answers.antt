use Rattle.std.proofs.Common.{◌∙◌, sym}
use Rattle.file_pieces.proofs.Parts.{stops_full, stops_well}
use Rattle.file_pieces.proofs.stage.ended.Goals as goal

pub returns-then-has_too_many : goal.returns-then-has_too_many
returns-then-has_too_many c = record { read = λ bytes shut. stops_full c.args.progress bytes shut (sym c.has_too_many.ensures.value ∙ c.if-has_too_many.true) }

pub returns-else-has_too_many : goal.returns-else-has_too_many
returns-else-has_too_many c = record { read = λ bytes shut. stops_well c.args.progress bytes shut (sym c.has_too_many.ensures.value ∙ c.if-has_too_many.false) c.has_too_many.ensures.few }
