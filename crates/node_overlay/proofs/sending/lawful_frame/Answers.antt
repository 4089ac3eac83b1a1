use Rattle.std.proofs.Common.{refl, sym}
use Rattle.node_overlay.specs.Outbox.{frame_of}
use Rattle.node_overlay.proofs.Sendable.{frame_short}
use Rattle.node_overlay.proofs.sending.lawful_frame.Goals as goal

pub returns-clause-lawful : goal.returns-clause-lawful
returns-clause-lawful c =
    record {
      lawful = record {
        from = c.number.ensures.in_range;
        to = c.number-2.ensures.in_range;
        apart = λ is. c.requires.apart (sym is);
        number = c.ranges.number.fits;
        message = c.reveal_message.ensures;
      };
      spelled = refl;
      short = frame_short (frame_of c.args.from c.args.number c.args.envelope) c.requires.sendable c.reveal_message.ensures;
    }
