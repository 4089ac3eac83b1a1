use Rattle.std.proofs.Common.{◌≡◌, ◌-◌, length, ap, ◌∙◌, arith}
use Rattle.node_file.specs.Batch.{batch_size}
use Rattle.node_hosted.specs.Unstored.{records_in}
use Rattle.node_hosted.proofs.Spelling.{size}
use Rattle.node_hosted.proofs.unstored.Unstored.size.Goals as goal

pub returns : goal.returns
returns c =
    let bytes = c.self.inside.bytes in
    let is : c.saturating_sub.result ≡ length bytes.items - 1 = omega (arith, c.saturating_sub.ensures, c.len.ensures, bytes.ok.0) in
    is ∙ size (records_in bytes.items) bytes.items c.self.invariant.spelled ∙ ap batch_size c.self.view_is
