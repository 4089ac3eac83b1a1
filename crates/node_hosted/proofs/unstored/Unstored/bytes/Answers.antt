use Rattle.std.proofs.Common.{◌≡◌, length, ap, ◌∙◌, sym, arith}
use Rattle.std.proofs.lemmas.Bool.{eqb-true}
use Rattle.std.specs.Vec.{vec_len}
use Rattle.node_hosted.specs.Unstored.{records_in, spelled}
use Rattle.node_hosted.proofs.Spelling.{none_spelled}
use Rattle.node_hosted.proofs.unstored.Unstored.bytes.Goals as goal

pub returns-then-is_empty : goal.returns-then-is_empty
returns-then-is_empty c =
    let bytes = c.self.inside.bytes in
    let none : vec_len bytes ≡ 0 = eqb-true (vec_len bytes) 0 (sym c.is_empty.ensures ∙ c.if-is_empty.true) in
    let empty : length bytes.items ≡ 0 = omega (arith, none, bytes.ok.0) in
    sym (ap spelled (sym c.self.view_is) ∙ none_spelled bytes.items (records_in bytes.items) c.self.invariant.spelled empty)
