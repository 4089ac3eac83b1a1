use Rattle.std.proofs.Common.{◌∙◌}
use Rattle.scenario_commands.proofs.Results.{on_ok}
use Rattle.scenario_explain.proofs.Adding.{adds_line, begins, begins_still}
use Rattle.scenario_explain.proofs.told.add_shown.Goals as goal

pub returns : goal.returns
returns c =
    let node = begins _ _ _ c.new-line.ensures.items c.in_ok-extend_from_slice.ensures.items in
    let number = begins_still _ _ _ _ node c.in_ok-print_number.ensures.ok in
    let shows = begins_still _ _ _ _ number c.in_ok-extend_from_slice-2.ensures.items in
    let key = begins_still _ _ _ _ shows c.in_ok-print_key.ensures.ok in
    let space = begins_still _ _ _ _ key c.in_ok-push.ensures.items in
    let whole = begins_still _ _ _ c.in_ok-print_held.ensures.0 space c.in_ok-print_held.ensures.1 in
    on_ok c.add_line.result (adds_line c.args.text.now.items c.add_line.new.text.items c.as_slice.result.now whole.rest (c.as_slice.ensures.value ∙ whole.is)) c.add_line.ensures
