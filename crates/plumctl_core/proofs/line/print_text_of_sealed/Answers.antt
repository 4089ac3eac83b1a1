use Rattle.std.proofs.Common.{refl}
use Rattle.plumctl_core.proofs.Sealing.{printed_under, spelled_under}
use Rattle.plumctl_core.proofs.line.print_text_of_sealed.Goals as goal

pub returns-in-Ok-clause-text : goal.returns-in-Ok-clause-text
returns-in-Ok-clause-text c =
    printed_under c.args.keys.now c.args.bytes.now c.in-Ok.frame.now (c.in-Ok.ensures.accepted.0 refl) c.in-Ok.ensures.frame c.print_text_of_bytes.result _ _ c.print_text_of_bytes.ensures.text

pub returns-in-Ok-clause-frame : goal.returns-in-Ok-clause-frame
returns-in-Ok-clause-frame c =
    spelled_under c.args.keys.now c.args.bytes.now c.in-Ok.frame.now (c.in-Ok.ensures.accepted.0 refl) c.in-Ok.ensures.frame c.print_text_of_bytes.result c.print_text_of_bytes.ensures.frame
