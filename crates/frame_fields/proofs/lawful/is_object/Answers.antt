use Rattle.std.proofs.Common.{arith}
use Rattle.frame_fields.proofs.Spellable.{shown_object, long_object}
use Rattle.frame_fields.proofs.lawful.is_object.Goals as goal

pub returns-then-all_are_short : goal.returns-then-all_are_short
returns-then-all_are_short c =
    shown_object c.args.o.now c.entries-entries.result.now c.all_are_bare.result c.entries-entries.ensures.value c.entries-entries.ensures.lawful
    (omega (arith, c.if-entries-gt-MAX_COUNT.false)) (c.all_are_short.ensures.0 c.if-all_are_short.true) c.all_are_bare.ensures

pub returns-else-all_are_short : goal.returns-else-all_are_short
returns-else-all_are_short c =
    long_object c.args.o.now c.entries-entries.result.now c.all_are_short.result c.entries-entries.ensures.value c.all_are_short.ensures c.if-all_are_short.false
