use Rattle.std.proofs.Common.{arith, sym, ◌∙◌}
use Rattle.run_record.proofs.Finding.{found, none_there, one_more}
use Rattle.run_record.proofs.giving.place_of.Goals as goal

pub returns-then-eq-clause-some : goal.returns-then-eq-clause-some
returns-then-eq-clause-some c = found c.args.frames.now c.loop-place.place
    c.index-frames-place.result c.args.frame.now c.loop-place-test.true c.index-frames-place.is
    (sym c.eq.ensures ∙ c.if-eq.true)

pub loop-place-preserved : goal.loop-place-preserved
loop-place-preserved c = one_more c.args.frames.now c.loop-place.place
    c.index-frames-place.result c.args.frame.now c.loop-place-test.true c.index-frames-place.is
    (sym c.eq.ensures ∙ c.if-eq.false) c.loop-place.invariant

pub returns-clause-none : goal.returns-clause-none
returns-clause-none c _ = none_there c.args.frames.now c.loop-place.place c.args.frame.now
    (omega arith) c.loop-place.invariant
