use Rattle.std.proofs.Common.{◌≡◌, ◌-◌, ◌++◌, length, refl, arith}
use Rattle.std.proofs.lemmas.Grind.{common_steps}
use Rattle.file_pieces.specs.declared.stage.Stage.TheVariants.{Records}
use Rattle.file_pieces.proofs.Parts.{read_up_to, waits_for_more, was_refused, was_too_long, went_on}
use Rattle.file_pieces.proofs.stage.read_records.Goals as goal

pub returns-in-Unfinished-clause-read : goal.returns-in-Unfinished-clause-read
returns-in-Unfinished-clause-read c =
    let l = c.loop-progress in
    read_up_to c.args.begun l.progress c.args.bytes.now l.rest.now (Records l.progress) (length c.args.bytes.now - length l.rest.now) refl
    (waits_for_more l.progress l.rest.now c.in-Unfinished.ensures) l.invariant

pub returns-in-Shut-clause-read : goal.returns-in-Shut-clause-read
returns-in-Shut-clause-read c =
    let l = c.loop-progress in
    read_up_to c.args.begun l.progress c.args.bytes.now l.rest.now c.ended.result (length c.args.bytes.now - length l.rest.now) refl
    (c.ended.ensures.read l.rest.now c.in-Shut.ensures) l.invariant

pub returns-in-Overlong-clause-read : goal.returns-in-Overlong-clause-read
returns-in-Overlong-clause-read c =
    let l = c.loop-progress in
    was_too_long c.args.begun l.progress c.args.bytes.now l.rest.now c.damaged.result c.at.result c.in-Overlong.ensures c.damaged.ensures c.at.ensures l.invariant.3

pub returns-then-not-branch-clause-read : goal.returns-then-not-branch-clause-read
returns-then-not-branch-clause-read c =
    let l = c.loop-progress in
    let parts : l.rest.now ≡ c.split_at.result.0.now ++ c.split_at.result.1.now = grind (arith, common_steps) in
    was_refused c.args.begun l.progress c.take.new.self c.args.bytes.now l.rest.now c.split_at.result.0.now c.split_at.result.1.now c.damaged-then-not-branch.result c.at-then-not-branch.result c.in_ok-take-in-Framed.field-0
    parts c.if-not-branch.true c.in_ok-take-in-Framed.ensures.taken c.damaged-then-not-branch.ensures c.at-then-not-branch.ensures l.invariant.3

pub loop-progress-preserved : goal.loop-progress-preserved
loop-progress-preserved c =
    let l = c.loop-progress in
    let parts : l.rest.now ≡ c.split_at.result.0.now ++ c.split_at.result.1.now = grind (arith, common_steps) in
    went_on c.args.begun l.progress c.take.new.self c.args.bytes.now l.rest.now c.split_at.result.0.now c.split_at.result.1.now c.in_ok-take-in-Framed.field-0
    parts c.if-not-branch.false c.in_ok-take-in-Framed.ensures.taken l.invariant
