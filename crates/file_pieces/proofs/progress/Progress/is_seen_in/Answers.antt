use Rattle.std.proofs.Common.{◌≡◌, ℕ, ◌≤◌, ◌++◌, length, ap, subst}
use Rattle.std.proofs.lemmas.Bool.{leb-true}
use Rattle.node_file.specs.Gates.{shows_changed_gate}
use Rattle.file_pieces.specs.Alone.{version_in}
use Rattle.file_pieces.specs.Progress.{ReadSoFar}
use Rattle.file_pieces.proofs.Warned.{seen_close}
use Rattle.file_pieces.proofs.progress.Progress.is_seen_in.Goals as goal

pub returns : goal.returns
returns c = λ yes following.
    let front = c.self.inside.front.items in
    let bytes = c.args.from_gate.now in
    let far : 33554506 ≤ length bytes = leb-true 33554506 (length bytes) yes in
    let version : version_in front ≡ c.args.self.now.version = ap (λ (p : ReadSoFar). p.version) c.self.view_is in
    subst (λ (v : ℕ). shows_changed_gate v (bytes ++ following) ≡ shows_changed_gate v bytes) version
    (seen_close front bytes following c.a_changed_gate_is_seen_close_behind_it.ensures c.self.invariant.0 c.requires.shut far)
