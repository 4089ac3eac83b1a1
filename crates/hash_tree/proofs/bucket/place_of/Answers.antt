use Rattle.std.proofs.Common.{◌≡◌, ◌≤◌, length, sym, arith}
use Rattle.std.specs.Bool.{passes}
use Rattle.hash_tree.specs.Rising.{do_keys_rise}
use Rattle.hash_tree.proofs.ByPlace.{absent_before, absent_behind, at_place}
use Rattle.hash_tree.proofs.bucket.place_of.Goals as goal

pub returns-in-Equal-clause-there : goal.returns-in-Equal-clause-there
returns-in-Equal-clause-there c =
    at_place c.args.key.now c.args.rows.now c.loop-place.place c.index-rows-place.result (passes (do_keys_rise c.args.rows.now) c.requires) c.loop-place.invariant c.loop-place-test.true c.index-rows-place.is (sym c.in-Equal.ensures.value)

pub returns-in-Less-clause-absent : goal.returns-in-Less-clause-absent
returns-in-Less-clause-absent c =
    absent_before c.args.key.now c.args.rows.now c.loop-place.place c.index-rows-place.result (passes (do_keys_rise c.args.rows.now) c.requires) c.loop-place.invariant c.loop-place-test.true c.index-rows-place.is (sym c.in-Less.ensures.value)

pub returns-clause-absent : goal.returns-clause-absent
returns-clause-absent c =
    let most : c.loop-place.place ≤ length c.args.rows.now = c.loop-place.auto.place-end in
    let least : length c.args.rows.now ≤ c.loop-place.place = c.loop-place-test.false in
    let all : c.loop-place.place ≡ length c.args.rows.now = omega arith in
    rw (← all) (absent_behind c.args.key.now c.args.rows.now c.loop-place.place (passes (do_keys_rise c.args.rows.now) c.requires) c.loop-place.invariant all)
