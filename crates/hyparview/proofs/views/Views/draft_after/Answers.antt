use Rattle.std.proofs.Common.{ap, ◌∙◌}
use Rattle.hyparview.specs.Rows.{row}
use Rattle.hyparview.proofs.Standing.{lawful-draft}
use Rattle.hyparview.proofs.views.Views.draft_after.Goals as goal

pub returns-clause-lawful : goal.returns-clause-lawful
returns-clause-lawful c =
    lawful-draft c.args.self.now c.args.event.now c.args.word c.row.new.self c.begin.ensures.was_lawful
    (c.in_ok-row.ensures ∙ ap (row c.args.word c.args.event.now) c.in_ok-draft.ensures.value)
