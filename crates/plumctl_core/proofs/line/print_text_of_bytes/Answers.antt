use Rattle.std.proofs.Common.{refl, inr, rules}
use Rattle.meta_frame.specs.Frame.{RefusesBytes}
use Rattle.printing.specs.Frame.{frame_fault_text}
use Rattle.meta_frame.proofs.Frames.{never_both}
use Rattle.plumctl_core.proofs.line.print_text_of_bytes.Goals as goal

pub returns-in_ok-print_frame_fault-in-Err : goal.returns-in_ok-print_frame_fault-in-Err
returns-in_ok-print_frame_fault-in-Err c =
    let refused : RefusesBytes c.args.bytes.now c.in-Err.fault = search rules in
    record {
      text = (frame_fault_text c.in-Err.fault, inr (c.in-Err.fault, refused, refl), c.in_ok-print_frame_fault-in-Err.ensures.ok);
      frame = (λ no. cc no, λ f. absurd (never_both f.0 c.args.bytes.now c.in-Err.fault f.1 refused));
    }
