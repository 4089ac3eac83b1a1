use Rattle.scenario_explain.specs.Noting.{NotesFront}
use Rattle.scenario_explain.proofs.waiting.Waiting.add_sent.Given as goal

abbrev pub invariant-loop-place : goal.invariant-loop-place
invariant-loop-place l = NotesFront l.self.frames.items l.place l.stage.given
