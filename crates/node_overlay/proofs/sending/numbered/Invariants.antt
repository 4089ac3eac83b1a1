use Rattle.std.proofs.Common.{◌≡◌, ◌++◌, All}
use Rattle.node_overlay.specs.Outbox.{HasSpelling, MaySend, frames_from}
use Rattle.node_overlay.proofs.sending.numbered.Given as goal

abbrev pub invariant-loop-envelope : goal.invariant-loop-envelope
invariant-loop-envelope l =
    let rest = l.envelope-iterator.rest.items in
    record {
      frames : l.frames.items ++ frames_from l.fn.from l.number rest
          ≡ frames_from l.fn.from l.fn.number l.fn.sent.items;
      lawful : All HasSpelling (frames_from l.fn.from l.number rest)
          → All HasSpelling (frames_from l.fn.from l.fn.number l.fn.sent.items);
      left : All (MaySend l.fn.from) rest;
    }
