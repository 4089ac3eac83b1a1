use Rattle.std.specs.Option.{option_copied}
use Rattle.plumctl_core.proofs.Texts.{line_frame, line_text}
use Rattle.plumctl_core.proofs.line.print_line.Goals as goal

pub returns-in-Ok-clause-text : goal.returns-in-Ok-clause-text
returns-in-Ok-clause-text c =
    line_text c.print_text_under.result (option_copied c.args.keys) c.args.line.now c.in-Ok.bytes.items c.as_slice.result.now c.clear.new.self.items c.print_text_under.new.text.items c.in-Ok.ensures.ok c.as_slice.ensures.value c.clear.ensures.items c.print_text_under.ensures.text

pub returns-in-Ok-clause-frame : goal.returns-in-Ok-clause-frame
returns-in-Ok-clause-frame c =
    line_frame c.print_text_under.result (option_copied c.args.keys) c.args.line.now c.in-Ok.bytes.items c.as_slice.result.now c.in-Ok.ensures.ok c.as_slice.ensures.value c.print_text_under.ensures.frame
