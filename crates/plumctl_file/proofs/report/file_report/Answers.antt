use Rattle.std.proofs.Common.{◌∙◌}
use Rattle.plumctl_file.proofs.Stopping.{printed_so, stopped_in, stopped_so}
use Rattle.plumctl_file.proofs.report.file_report.Goals as goal

pub returns-in-Err-print : goal.returns-in-Err-print
returns-in-Err-print g c =
    stopped_in _ _ _ _ c.in-Ok.contents c.deref.result.now c.in-Err-print.fault c.in-Ok.ensures.holds (c.deref.ensures.value ∙ c.in-Ok-texts_of.ensures.0) c.in-Err-print.ensures.err

pub returns-in-Ok-print_refusal : goal.returns-in-Ok-print_refusal
returns-in-Ok-print_refusal g c = printed_so _ _ _ _ c.in-Err.fault c.in-Err.ensures.refused c.in-Ok-print_refusal.ensures.ok

pub returns-in-Err-print_refusal : goal.returns-in-Err-print_refusal
returns-in-Err-print_refusal g c = stopped_so _ _ _ _ c.in-Err.fault c.in-Err-print_refusal.stopped c.in-Err.ensures.refused c.in-Err-print_refusal.ensures.err
