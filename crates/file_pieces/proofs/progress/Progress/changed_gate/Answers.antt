use Rattle.std.proofs.Common.{◌≡◌, ◌++◌, Some, None, sym, ◌∙◌, ap, arith}
use Rattle.std.proofs.lemmas.Grind.{common_steps}
use Rattle.node_file.specs.Gates.{changed_gate, shows_changed_gate}
use Rattle.file_pieces.specs.Alone.{version_in}
use Rattle.file_pieces.specs.Progress.{ReadSoFar}
use Rattle.file_pieces.specs.Told.{gate_if_changed}
use Rattle.file_pieces.proofs.Warned.{at_if, shown_at, shown_none, shows_alone}
use Rattle.file_pieces.proofs.progress.Progress.changed_gate.Goals as goal

pub returns-in-Some-clause-value : goal.returns-in-Some-clause-value
returns-in-Some-clause-value c =
    let front = c.self.inside.front.items in
    let bytes = c.args.from_gate.now in
    let whole : c.deref-2.result.now ≡ front ++ bytes = grind (arith, common_steps) in
    let found : Some c.in-Some.field-0 ≡ at_if (shows_changed_gate (version_in front) bytes) 10 =
    sym c.in-Some.is ∙ c.in_ok-changed_gate.ensures.value ∙ ap changed_gate whole ∙ shows_alone front bytes c.self.invariant.0 c.requires.shut in
    shown_at (shows_changed_gate (version_in front) bytes) c.in-Some.field-0 c.self.inside.at found
    ∙ ap (λ (p : ReadSoFar). gate_if_changed p.version p.at bytes) c.self.view_is

pub returns-clause-value : goal.returns-clause-value
returns-clause-value c =
    let front = c.self.inside.front.items in
    let bytes = c.args.from_gate.now in
    let whole : c.deref-2.result.now ≡ front ++ bytes = grind (arith, common_steps) in
    let found : None ≡ at_if (shows_changed_gate (version_in front) bytes) 10 =
    sym c.in-None.is ∙ c.in_ok-changed_gate.ensures.value ∙ ap changed_gate whole ∙ shows_alone front bytes c.self.invariant.0 c.requires.shut in
    shown_none (shows_changed_gate (version_in front) bytes) c.self.inside.at found
    ∙ ap (λ (p : ReadSoFar). gate_if_changed p.version p.at bytes) c.self.view_is
