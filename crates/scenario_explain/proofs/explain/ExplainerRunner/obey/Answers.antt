use Rattle.std.proofs.Common.{rules, ◌≡◌, length, map, subst, sym}
use Rattle.scenario_text.specs.Coded.{command_word}
use Rattle.scenario_commands.proofs.Setting.{sets_marks}
use Rattle.scenario_explain.specs.declared.waiting.Waiting.{Waiting}
use Rattle.scenario_explain.specs.Noting.{NotesAll}
use Rattle.scenario_explain.proofs.Adding.{explains}
use Rattle.scenario_explain.proofs.explain.ExplainerRunner.obey.Goals as goal

pub note-requires : goal.note-requires
note-requires g c = record {
  before = c.args.stage.now.given;
  noted = subst (λ (w : Waiting). NotesAll w.frames.items w.seen c.args.stage.now.given) (sym c.tell_line.ensures.waiting) c.requires;
  sets = sets_marks (map (λ r. (goal.Resolver-dyn g (r.vtable, r.value)).choice r.value) c.args.resolvers.now) c.args.stage.now c.obey.new.self (command_word c.args.command.now) _ c.in_ok-obey.ensures.1;
}

pub returns-clause-obeyed : goal.returns-clause-obeyed
returns-clause-obeyed g c =
    let starts : c.len-start.result ≡ length c.tell_line.new.text.items = search rules in
    explains _ c.args.stage.now c.obey.new.self _ c.len-start.result _ _ _ _ _ _ _ starts c.in_ok-tell_line.ensures.told c.in_ok-obey.ensures c.in_ok-add_reason.ensures c.in_ok-note.ensures.frames_are c.in_ok-add_frames.ensures c.in_ok-add_news.ensures

pub returns-clause-goes_on : goal.returns-clause-goes_on
returns-clause-goes_on g c = c.in_ok-note.ensures
