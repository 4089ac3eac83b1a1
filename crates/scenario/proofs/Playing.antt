-- Playing a scenario, command by command, and the fronts of its output.
use Rattle.std.proofs.Common.{◌≡◌, ℕ, List, [], ◌∷◌, ◌++◌, length, Option, Some, None, Err, ◌⊎◌, inl, inr, refl, sym, ap, subst, ◌∙◌, append_assoc}
use Rattle.std.proofs.lemmas.List.{append-nil}
use Rattle.std.specs.Io.KnownBytes.{Appends, Keeps}
use Rattle.std.specs.declared.io.ErrorKind.{ErrorKind}
use Rattle.std.specs.declared.io.ErrorKind.TheVariants as kinds
use Rattle.streams.specs.declared.fault.StreamFault.{StreamFault}
use Rattle.streams.specs.declared.fault.StreamFault.TheVariants.{Read, InputTooLong, Write, BrokenPipe, Memory}
use Rattle.streams.specs.Fault.{Failed, FailsNoMore, IsWriteFault, IsWriterFault, fault_of_kind}
use Rattle.streams.specs.Moment.{SinkAt}
use Rattle.streams.specs.Written.{AppendsFront}
use Rattle.streams.proofs.Failing.{FailsNoMore-self, FailsNoMore-then, write_fault_then}
use Rattle.streams.proofs.Sent.{Appends-kept, Appends-nil, Appends-then}
use Rattle.scenario_text.specs.Commands.{Command}
use Rattle.scenario_text.specs.Script.{Scenario, commands_of, first_bad, scenario_of}
use Rattle.scenario.specs.Ending.{end_line}
use Rattle.scenario_commands.specs.Obeying.{Choices, PassesLimit, Stage, new_stage}
use Rattle.scenario_commands.specs.declared.fault.StageFault.{StageFault}
use Rattle.scenario_commands.specs.declared.fault.StageFault.TheVariants as stages
use Rattle.scenario.specs.Fault.{of_stage}
use Rattle.scenario.specs.Output.{BeginsNext, IsFrontOfOutput, IsFrontOfPlay, IsOutput, Manner, ObeyAll, Plays, PlaysOrNothing, PlaysUnless, Runs, RunsFront, plain}
use Rattle.scenario.specs.Ending.{bad_line, limit_line}
use Rattle.scenario.specs.Run.{DoesOrEnds, EndsBefore, EndsCommand, EndsCommands, EndsLine, EndsOpening, EndsPlay, EndsText, PlaysAll, PlaysToLimit, Prints, StopsAtLimit, StopsPrinting, WritesAll, WritesCommand, WritesEnd, WritesOpening, WritesOutput}
use Rattle.scenario.specs.declared.fault.ScenarioFault.{ScenarioFault}
use Rattle.scenario.specs.declared.fault.ScenarioFault.TheVariants.{BadLine, Limit, Stream}
use Rattle.scenario_commands.proofs.OneStage.{obeys_within, one_obeys}

-- ---- faults of writing

-- an error of the writer is no fault of reading
never_read : (kind : ErrorKind) → Read ≡ fault_of_kind kind → ⊥
never_read kinds.BrokenPipe e = cc
never_read kinds.OutOfMemory e = cc
never_read kind e = cc

never_too_long : (kind : ErrorKind) → InputTooLong ≡ fault_of_kind kind → ⊥
never_too_long kinds.BrokenPipe e = cc
never_too_long kinds.OutOfMemory e = cc
never_too_long kind e = cc

pub cause_of_writer : (old new : Failed) (fault : StreamFault) → IsWriterFault old new fault → IsWriteFault old new fault
cause_of_writer old new Read cause = absurd (never_read cause.kind cause.fault_is)
cause_of_writer old new InputTooLong cause = absurd (never_too_long cause.kind cause.fault_is)
cause_of_writer old new Write cause = cause
cause_of_writer old new BrokenPipe cause = cause
cause_of_writer old new Memory cause = (tt, inr cause)

pub out_of_memory : (failed : Failed) (fault : StreamFault) → fault ≡ Memory → IsWriteFault failed failed fault
out_of_memory failed fault e = subst (IsWriteFault failed failed) (sym e) (tt, inl (FailsNoMore-self failed))

-- ---- commands

obey_more : (manner : Manner) (old stage new : Stage) (done : List Command) (command : Command) (text added : List ℕ) → ObeyAll manner old done text stage → manner.does stage command added new
    → ObeyAll manner old (done ++ command ∷ []) (text ++ added) new
obey_more manner old stage new [] command text added (text_is, same) obeys =
    let e : text ++ added ≡ added ++ [] = ap (λ (xs : List ℕ). xs ++ added) text_is ∙ sym (append-nil added) in
    (added, [], new, subst (λ (s : Stage). manner.does s command added new) same obeys, (refl, refl), e)
obey_more manner old stage new (first ∷ done) command text added (begun, rest, between, here, others, text_is) obeys =
    let e : text ++ added ≡ begun ++ (rest ++ added) = ap (λ (xs : List ℕ). xs ++ added) text_is ∙ append_assoc begun rest added in
    (begun, rest ++ added, between, here, obey_more manner between stage new done command rest added others obeys, e)

-- a run after the commands that were obeyed
after_done : (choices : Choices) (old stage : Stage) (done left : List Command) (printed whole : List ℕ) (ended : Option ScenarioFault) → ObeyAll (plain choices) old done printed stage → Runs (plain choices) old (done ++ left) whole ended
    → (rest : List ℕ) × Runs (plain choices) stage left rest ended × (whole ≡ printed ++ rest)
after_done choices old stage [] left printed whole ended (printed_is, same) runs =
    (whole, subst (λ (s : Stage). Runs (plain choices) s left whole ended) (sym same) runs, ap (λ (xs : List ℕ). xs ++ whole) (sym printed_is))
after_done choices old stage (command ∷ done) left printed whole ended (first, others, between, obeys, rest, printed_is) (inl (limit, whole_is, ended_is)) = absurd (obeys_within choices old between command first obeys limit)
after_done choices old stage (command ∷ done) left printed whole ended (first, others, between, obeys, rest, printed_is) (inr (begun, more, behind, also, again, whole_is)) =
    let same = one_obeys choices old behind between command begun first also obeys in
    let later = after_done choices between stage done left others more ended rest (subst (λ (s : Stage). Runs (plain choices) s (done ++ left) more ended) same.1 again) in (
      later.0,
      later.1,
      whole_is ∙ ap (λ (xs : List ℕ). xs ++ more) same.0 ∙ ap (λ (xs : List ℕ). first ++ xs) later.2 ∙ sym (append_assoc first others later.0)
          ∙ ap (λ (xs : List ℕ). xs ++ later.0) (sym printed_is),
    )

front_of_next : (choices : Choices) (stage : Stage) (left : List Command) (begun rest : List ℕ) (ended : Option ScenarioFault) → BeginsNext (plain choices) stage left begun → Runs (plain choices) stage left rest ended
    → (more : List ℕ) × (rest ≡ begun ++ more)
front_of_next choices stage [] begun rest ended none runs = (rest, ap (λ (xs : List ℕ). xs ++ rest) (sym none))
front_of_next choices stage (next ∷ later) begun rest ended (inl none) runs = (rest, ap (λ (xs : List ℕ). xs ++ rest) (sym none))
front_of_next choices stage (next ∷ later) begun rest ended (inr (inl (text, more, new, obeys, text_is))) (inl (limit, rest_is, ended_is)) = absurd (obeys_within choices stage new next text obeys limit)
front_of_next choices stage (next ∷ later) begun rest ended (inr (inl (text, more, new, obeys, text_is))) (inr (first, others, between, also, runs, rest_is)) =
    let same = one_obeys choices stage between new next first text also obeys in (
      more ++ others,
      rest_is ∙ ap (λ (xs : List ℕ). xs ++ others) (same.0 ∙ text_is) ∙ append_assoc begun more others,
    )
front_of_next choices stage (next ∷ later) begun rest ended (inr (inr (more, limit, line_is))) (inl (also, rest_is, ended_is)) = (more, rest_is ∙ line_is)
front_of_next choices stage (next ∷ later) begun rest ended (inr (inr (more, limit, line_is))) (inr (first, others, between, obeys, runs, rest_is)) = absurd (obeys_within choices stage between next first obeys limit)

-- what was printed of a run begins each whole output of it
front_of_run : (choices : Choices) (old : Stage) (commands : List Command) (text whole : List ℕ) (ended : Option ScenarioFault) → RunsFront (plain choices) old commands text → Runs (plain choices) old commands whole ended
    → (more : List ℕ) × (whole ≡ text ++ more)
front_of_run choices old commands text whole ended f runs =
    let later = after_done choices old f.stage f.done f.left f.printed whole ended f.obeyed (subst (λ (cs : List Command). Runs (plain choices) old cs whole ended) f.commands_are runs) in
    let more = front_of_next choices f.stage f.left f.begun later.0 ended f.begins later.1 in (
      more.0,
      later.2 ∙ ap (λ (xs : List ℕ). f.printed ++ xs) more.1 ∙ sym (append_assoc f.printed f.begun more.0) ∙ ap (λ (xs : List ℕ). xs ++ more.0) (sym f.text_is),
    )

-- ---- a run so far

-- these commands were obeyed, those are left
pub record Playing (manner : Manner) (old : Stage) (all : List Command) (stage : Stage) (left : List Command) (w v : SinkAt) : Type 0 where
  pub done : List Command
  pub commands_are : all ≡ done ++ left
  pub text : List ℕ
  pub obeyed : ObeyAll manner old done text stage
  pub appended : Appends w.contents v.contents text

pub playing_none : (manner : Manner) (old : Stage) (all : List Command) (w : SinkAt) → Playing manner old all old all w w
playing_none manner old all w = record { done = []; commands_are = refl; text = []; obeyed = (refl, refl); appended = Appends-nil w.contents }

pub playing_more : (manner : Manner) (old stage new : Stage) (all before left : List Command) (command : Command) (w v u : SinkAt)
    → Playing manner old all stage before w v → before ≡ command ∷ left → WritesCommand manner stage command v u new → Playing manner old all new left w u
playing_more manner old stage new all before left command w v u so_far next writes = record {
  done = so_far.done ++ command ∷ [];
  commands_are = so_far.commands_are ∙ ap (λ (cs : List Command). so_far.done ++ cs) next ∙ sym (append_assoc so_far.done (command ∷ []) left);
  text = so_far.text ++ writes.added;
  obeyed = obey_more manner old stage new so_far.done command so_far.text writes.added so_far.obeyed writes.obeys;
  appended = Appends-then w.contents v.contents u.contents so_far.text writes.added so_far.appended writes.appended;
}

pub playing_ends : (manner : Manner) (old stage : Stage) (all before left : List Command) (command : Command) (w v u : SinkAt) (fault : ScenarioFault)
    → Playing manner old all stage before w v → before ≡ command ∷ left → FailsNoMore w.failed v.failed → EndsCommand manner stage command v u fault
    → EndsCommands manner old all w u fault
playing_ends manner old stage all before left command w v u (BadLine number) so_far next kept ends = absurd ends
playing_ends manner old stage all before left command w v u Limit so_far next kept ends = (
  record {
    done = so_far.done;
    last = command;
    left = left;
    commands_are = so_far.commands_are ∙ ap (λ (cs : List Command). so_far.done ++ cs) next;
    text = so_far.text;
    stage = stage;
    obeyed = so_far.obeyed;
    limit = ends.0;
    appended = subst (Appends w.contents u.contents) (append-nil so_far.text) (Appends-then w.contents v.contents u.contents so_far.text [] so_far.appended ends.1);
  },
  FailsNoMore-then w.failed v.failed u.failed kept ends.2,
)
playing_ends manner old stage all before left command w v u (Stream fault) so_far next kept ends = record {
  text = so_far.text ++ ends.begun;
  front = record {
    done = so_far.done;
    left = command ∷ left;
    commands_are = so_far.commands_are ∙ ap (λ (cs : List Command). so_far.done ++ cs) next;
    printed = so_far.text;
    stage = stage;
    obeyed = so_far.obeyed;
    begun = ends.begun;
    begins = ends.begins;
    text_is = refl;
  };
  appended = Appends-then w.contents v.contents u.contents so_far.text ends.begun so_far.appended ends.appended;
  cause = write_fault_then w.failed v.failed u.failed fault kept ends.cause;
}

-- ---- one command

-- nothing was written of a command that was not obeyed
pub ends_unwritten : (manner : Manner) (old new : Stage) (command : Command) (text_old text_new : List ℕ) (w : SinkAt) (fault : StageFault)
    → DoesOrEnds manner.does old command text_old text_new new (Err fault) → EndsCommand manner old command w w (of_stage fault)
ends_unwritten manner old new command text_old text_new w stages.Limit limit = (limit, Appends-nil w.contents, FailsNoMore-self w.failed)
ends_unwritten manner old new command text_old text_new w stages.Memory does =
    record { begun = []; begins = inl refl; appended = Appends-nil w.contents; cause = out_of_memory w.failed Memory refl }

-- a front was written
pub ends_writing : (manner : Manner) (old new : Stage) (command : Command) (added : List ℕ) (w v : SinkAt) (fault : StreamFault)
    → manner.does old command added new → AppendsFront w.contents v.contents added → IsWriterFault w.failed v.failed fault → EndsCommand manner old command w v (Stream fault)
ends_writing manner old new command added w v fault obeys f cause = record {
  begun = f.front;
  begins = inr (inl (added, f.rest, new, obeys, f.parts));
  appended = f.appended;
  cause = cause_of_writer w.failed v.failed fault cause;
}

-- ---- a scenario

front_opening : (manner : Manner) (scenario : Scenario) (front : List ℕ)
    → (front ≡ []) ⊎ ((opened : List ℕ) × (more : List ℕ) × manner.opens opened × (opened ≡ front ++ more)) → IsFrontOfPlay manner scenario front
front_opening manner scenario front (inl none) = inl none
front_opening manner scenario front (inr begins) = inr (inl begins)

pub plays_all : (manner : Manner) (scenario : Scenario) (stage : Stage) (w v u : SinkAt) → stage ≡ new_stage scenario.nodes → WritesOpening manner.opens w v → WritesAll manner stage scenario.commands v u → PlaysAll manner scenario w u
plays_all manner scenario stage w v u same opening writes = record {
  opened = opening.opened;
  opens = opening.is;
  text = writes.text;
  stage = writes.new;
  obeyed = subst (λ (s : Stage). ObeyAll manner s scenario.commands writes.text writes.new) same writes.obeyed;
  appended = Appends-then w.contents v.contents u.contents opening.opened writes.text opening.appended writes.appended;
}

pub plays_nothing : (manner : Manner) (scenario : Scenario) (w v : SinkAt) (fault : StreamFault) → EndsOpening manner.opens w v fault → EndsPlay manner scenario w v (Stream fault)
plays_nothing manner scenario w v fault ends = record {
  text = ends.front;
  front = front_opening manner scenario ends.front ends.begins;
  appended = ends.appended;
  cause = ends.cause;
}

pub plays_unopened : (manner : Manner) (scenario : Scenario) (w : SinkAt) (fault : ScenarioFault) → fault ≡ Stream Memory → EndsPlay manner scenario w w fault
plays_unopened manner scenario w fault is =
    subst (EndsPlay manner scenario w w) (sym is)
    (record { text = []; front = inl refl; appended = Appends-nil w.contents; cause = out_of_memory w.failed Memory refl })

pub ends_play : (manner : Manner) (scenario : Scenario) (stage : Stage) (w v u : SinkAt) (fault : ScenarioFault) → stage ≡ new_stage scenario.nodes → WritesOpening manner.opens w v
    → FailsNoMore w.failed v.failed → EndsCommands manner stage scenario.commands v u fault → EndsPlay manner scenario w u fault
ends_play manner scenario stage w v u (BadLine number) same opening kept ends = absurd ends
ends_play manner scenario stage w v u Limit same opening kept ends =
    let writes = ends.0 in (
      record {
        done = writes.done;
        last = writes.last;
        left = writes.left;
        commands_are = writes.commands_are;
        opened = opening.opened;
        opens = opening.is;
        text = writes.text;
        stage = writes.stage;
        obeyed = subst (λ (s : Stage). ObeyAll manner s writes.done writes.text writes.stage) same writes.obeyed;
        limit = writes.limit;
        appended = Appends-then w.contents v.contents u.contents opening.opened writes.text opening.appended writes.appended;
      },
      FailsNoMore-then w.failed v.failed u.failed kept ends.1,
    )
ends_play manner scenario stage w v u (Stream fault) same opening kept ends = record {
  text = opening.opened ++ ends.text;
  front = inr (inr (opening.opened, ends.text, opening.is, subst (λ (s : Stage). RunsFront manner s scenario.commands ends.text) same ends.front, refl));
  appended = Appends-then w.contents v.contents u.contents opening.opened ends.text opening.appended ends.appended;
  cause = write_fault_then w.failed v.failed u.failed fault kept ends.cause;
}

-- ---- a text

-- the output of a text that is a scenario is what the scenario plays
played : (manner : Manner) (text output : List ℕ) (scenario : Scenario) (ended : Option ScenarioFault) → first_bad manner.resolvers text ≡ None → scenario_of (commands_of manner.resolvers text) ≡ Some scenario
    → IsOutput manner text output ended → Plays manner scenario output ended
played manner text output scenario ended none_bad scenario_is is =
    subst (λ (s : Option Scenario). PlaysOrNothing manner s output ended) scenario_is (subst (λ (bad : Option ℕ). PlaysUnless bad manner text output ended) none_bad is)

is_played : (manner : Manner) (text output : List ℕ) (scenario : Scenario) (ended : Option ScenarioFault) → first_bad manner.resolvers text ≡ None → scenario_of (commands_of manner.resolvers text) ≡ Some scenario
    → Plays manner scenario output ended → IsOutput manner text output ended
is_played manner text output scenario ended none_bad scenario_is plays =
    subst (λ (bad : Option ℕ). PlaysUnless bad manner text output ended) (sym none_bad) (subst (λ (s : Option Scenario). PlaysOrNothing manner s output ended) (sym scenario_is) plays)

front_of_play : (choices : Choices) (scenario : Scenario) (front output : List ℕ) (ended : Option ScenarioFault) → IsFrontOfPlay (plain choices) scenario front → Plays (plain choices) scenario output ended
    → (more : List ℕ) × (output ≡ front ++ more)
front_of_play choices scenario front output ended (inl none) plays = (output, ap (λ (xs : List ℕ). xs ++ output) (sym none))
front_of_play choices scenario front output ended (inr (inl (opened, more, opens, is))) plays = (
  more ++ plays.rest,
  plays.output_is ∙ ap (λ (xs : List ℕ). xs ++ plays.rest) (plays.opens ∙ sym opens ∙ is) ∙ append_assoc front more plays.rest,
)
front_of_play choices scenario front output ended (inr (inr (opened, rest, opens, runs, is))) plays =
    let more = front_of_run choices (new_stage scenario.nodes) scenario.commands rest plays.rest ended runs plays.runs in (
      more.0,
      plays.output_is ∙ ap (λ (xs : List ℕ). xs ++ plays.rest) (plays.opens ∙ sym opens) ∙ ap (λ (xs : List ℕ). opened ++ xs) more.1
          ∙ sym (append_assoc opened rest more.0) ∙ ap (λ (xs : List ℕ). xs ++ more.0) (sym is),
    )

-- the output begins with what was printed of it
pub begins_with_front : (choices : Choices) (text front output : List ℕ) (ended : Option ScenarioFault) → IsFrontOfOutput (plain choices) text front → IsOutput (plain choices) text output ended → (more : List ℕ) × (output ≡ front ++ more)
begins_with_front choices text front output ended (inl none) is = (output, ap (λ (xs : List ℕ). xs ++ output) (sym none))
begins_with_front choices text front output ended (inr (inl (number, more, bad, line_is))) is =
    let told = subst (λ (b : Option ℕ). PlaysUnless b (plain choices) text output ended) bad is in (more, told.0 ∙ line_is)
begins_with_front choices text front output ended (inr (inr (scenario, none_bad, scenario_is, begins))) is =
    front_of_play choices scenario front output ended begins (played (plain choices) text output scenario ended none_bad scenario_is is)

runs_all : (manner : Manner) (old new : Stage) (commands : List Command) (text : List ℕ) → ObeyAll manner old commands text new → Runs manner old commands text None
runs_all manner old new [] text (text_is, same) = (text_is, refl)
runs_all manner old new (command ∷ commands) text (first, rest, between, obeys, others, text_is) = inr (first, rest, between, obeys, runs_all manner between new commands rest others, text_is)

runs_to_limit : (manner : Manner) (old stage : Stage) (done : List Command) (last : Command) (left : List Command) (printed : List ℕ) → ObeyAll manner old done printed stage → PassesLimit stage last
    → Runs manner old (done ++ last ∷ left) (printed ++ limit_line) (Some Limit)
runs_to_limit manner old stage [] last left printed (text_is, same) limit =
    inl (subst (λ (s : Stage). PassesLimit s last) same limit, ap (λ (xs : List ℕ). xs ++ limit_line) text_is, refl)
runs_to_limit manner old stage (command ∷ done) last left printed (first, rest, between, obeys, others, text_is) limit =
    inr (first, rest ++ limit_line, between, obeys, runs_to_limit manner between stage done last left rest others limit, ap (λ (xs : List ℕ). xs ++ limit_line) text_is ∙ append_assoc first rest limit_line)

-- all that a scenario prints
whole_front : (manner : Manner) (scenario : Scenario) (stage : Stage) (opened text : List ℕ) → manner.opens opened → ObeyAll manner (new_stage scenario.nodes) scenario.commands text stage → IsFrontOfPlay manner scenario (opened ++ text)
whole_front manner scenario stage opened text opens obeyed =
    inr (inr (
      opened,
      text,
      opens,
      record {
        done = scenario.commands;
        left = [];
        commands_are = sym (append-nil scenario.commands);
        printed = text;
        stage = stage;
        obeyed = obeyed;
        begun = [];
        begins = refl;
        text_is = sym (append-nil text);
      },
      refl,
    ))

-- the scenario of a text was played
pub writes_scenario : (manner : Manner) (text : List ℕ) (scenario : Scenario) (w v : SinkAt) → first_bad manner.resolvers text ≡ None → scenario_of (commands_of manner.resolvers text) ≡ Some scenario
    → PlaysAll manner scenario w v → WritesOutput manner text w v
writes_scenario manner text scenario w v none_bad scenario_is plays = record {
  output = plays.opened ++ plays.text;
  output_is =
      is_played manner text (plays.opened ++ plays.text) scenario None none_bad scenario_is
      (record {
        opened = plays.opened;
        opens = plays.opens;
        rest = plays.text;
        runs = runs_all manner (new_stage scenario.nodes) plays.stage scenario.commands plays.text plays.obeyed;
        output_is = refl;
      });
  front = inr (inr (scenario, none_bad, scenario_is, whole_front manner scenario plays.stage plays.opened plays.text plays.opens plays.obeyed));
  appended = plays.appended;
}

pub ends_scenario : (manner : Manner) (text : List ℕ) (scenario : Scenario) (w v : SinkAt) (fault : ScenarioFault) → first_bad manner.resolvers text ≡ None
    → scenario_of (commands_of manner.resolvers text) ≡ Some scenario → EndsPlay manner scenario w v fault → EndsBefore manner text w v fault
ends_scenario manner text scenario w v (BadLine number) none_bad scenario_is ends = absurd ends
ends_scenario manner text scenario w v Limit none_bad scenario_is ends = (record { scenario = scenario; none_bad = none_bad; scenario_is = scenario_is; plays = ends.0 }, ends.1)
ends_scenario manner text scenario w v (Stream fault) none_bad scenario_is ends = record {
  output = ends.text;
  front = inr (inr (scenario, none_bad, scenario_is, ends.front));
  appended = ends.appended;
  cause = ends.cause;
}

-- ---- the end of a text

-- passing on failed
pub stops_passing : (manner : Manner) (text : List ℕ) (w v u : SinkAt) (fault : StreamFault) → WritesOutput manner text w v → FailsNoMore w.failed v.failed → Keeps v.contents u.contents
    → IsWriterFault v.failed u.failed fault → StopsPrinting manner text w u fault
stops_passing manner text w v u fault writes kept keeps cause = record {
  output = writes.output;
  front = writes.front;
  appended = Appends-kept w.contents v.contents u.contents writes.output writes.appended keeps;
  cause = write_fault_then w.failed v.failed u.failed fault kept (cause_of_writer v.failed u.failed fault cause);
}

-- the line of a fault was written, and passing it on failed
pub line_passing : (text : List ℕ) (w v u : SinkAt) (fault : StreamFault) → Appends w.contents v.contents text → FailsNoMore w.failed v.failed → Keeps v.contents u.contents → IsWriterFault v.failed u.failed fault → EndsLine text w u fault
line_passing text w v u fault writes kept keeps cause = record {
  appended = record { front = text; rest = []; parts = sym (append-nil text); appended = Appends-kept w.contents v.contents u.contents text writes keeps };
  cause = write_fault_then w.failed v.failed u.failed fault kept (cause_of_writer v.failed u.failed fault cause);
}

bad_output : (manner : Manner) (text : List ℕ) (number : ℕ) → first_bad manner.resolvers text ≡ Some number → IsOutput manner text (bad_line number) (Some (BadLine number))
bad_output manner text number is = subst (λ (bad : Option ℕ). PlaysUnless bad manner text (bad_line number) (Some (BadLine number))) (sym is) (refl, refl)

limit_output : (manner : Manner) (text : List ℕ) (scenario : Scenario) (w v : SinkAt) → first_bad manner.resolvers text ≡ None → scenario_of (commands_of manner.resolvers text) ≡ Some scenario
    → (plays : PlaysToLimit manner scenario w v) → IsOutput manner text ((plays.opened ++ plays.text) ++ limit_line) (Some Limit)
limit_output manner text scenario w v none_bad scenario_is plays =
    is_played manner text ((plays.opened ++ plays.text) ++ limit_line) scenario (Some Limit) none_bad scenario_is
    (record {
      opened = plays.opened;
      opens = plays.opens;
      rest = plays.text ++ limit_line;
      runs =
          subst (λ (cs : List Command). Runs manner (new_stage scenario.nodes) cs (plays.text ++ limit_line) (Some Limit)) (sym plays.commands_are)
          (runs_to_limit manner (new_stage scenario.nodes) plays.stage plays.done plays.last plays.left plays.text plays.obeyed plays.limit);
      output_is = append_assoc plays.opened plays.text limit_line;
    })

-- the line of a bad line, or of the limit, was written
pub prints_bad : (manner : Manner) (text : List ℕ) (number : ℕ) (w v u : SinkAt) → first_bad manner.resolvers text ≡ Some number → Appends w.contents v.contents []
    → FailsNoMore w.failed v.failed → WritesEnd (bad_line number) v u → Prints manner text w u (Some (BadLine number))
prints_bad manner text number w v u is before kept writes = record {
  output = bad_line number;
  output_is = bad_output manner text number is;
  appended = Appends-then w.contents v.contents u.contents [] (bad_line number) before writes.appended;
  passed = writes.passed;
  sound = FailsNoMore-then w.failed v.failed u.failed kept writes.sound;
}

pub prints_limit : (manner : Manner) (text : List ℕ) (w v u : SinkAt) → StopsAtLimit manner text w v → FailsNoMore w.failed v.failed
    → WritesEnd limit_line v u → Prints manner text w u (Some Limit)
prints_limit manner text w v u stops kept writes = record {
  output = (stops.plays.opened ++ stops.plays.text) ++ limit_line;
  output_is = limit_output manner text stops.scenario w v stops.none_bad stops.scenario_is stops.plays;
  appended = Appends-then w.contents v.contents u.contents (stops.plays.opened ++ stops.plays.text) limit_line stops.plays.appended writes.appended;
  passed = writes.passed;
  sound = FailsNoMore-then w.failed v.failed u.failed kept writes.sound;
}

-- or a front of it
pub stops_bad : (manner : Manner) (text : List ℕ) (number : ℕ) (w v u : SinkAt) (fault : StreamFault) → first_bad manner.resolvers text ≡ Some number → Appends w.contents v.contents []
    → EndsLine (bad_line number) v u fault → FailsNoMore w.failed v.failed → StopsPrinting manner text w u fault
stops_bad manner text number w v u fault is before ends kept = record {
  output = ends.appended.front;
  front = inr (inl (number, ends.appended.rest, is, ends.appended.parts));
  appended = Appends-then w.contents v.contents u.contents [] ends.appended.front before ends.appended.appended;
  cause = write_fault_then w.failed v.failed u.failed fault kept ends.cause;
}

pub stops_limit : (manner : Manner) (text : List ℕ) (w v u : SinkAt) (fault : StreamFault) → StopsAtLimit manner text w v → EndsLine limit_line v u fault
    → FailsNoMore w.failed v.failed → StopsPrinting manner text w u fault
stops_limit manner text w v u fault stops ends kept =
    let plays = stops.plays in
    let front = ends.appended.front in
    record {
      output = (plays.opened ++ plays.text) ++ front;
      front = inr (inr (
        stops.scenario,
        stops.none_bad,
        stops.scenario_is,
        inr (inr (
          plays.opened,
          plays.text ++ front,
          plays.opens,
          record {
            done = plays.done;
            left = plays.last ∷ plays.left;
            commands_are = plays.commands_are;
            printed = plays.text;
            stage = plays.stage;
            obeyed = plays.obeyed;
            begun = front;
            begins = inr (inr (ends.appended.rest, plays.limit, ends.appended.parts));
            text_is = refl;
          },
          append_assoc plays.opened plays.text front,
        )),
      ));
      appended = Appends-then w.contents v.contents u.contents (plays.opened ++ plays.text) front plays.appended ends.appended.appended;
      cause = write_fault_then w.failed v.failed u.failed fault kept ends.cause;
    }

-- how the line of a fault ends
abbrev pub EndsBy : (fault : ScenarioFault) (v u : SinkAt) (result : ScenarioFault) → Type 0
EndsBy fault v u result =
    ((result ≡ fault) × WritesEnd (end_line fault) v u)
    ⊎ ((by_stream : StreamFault) × (result ≡ Stream by_stream) × EndsLine (end_line fault) v u by_stream)

pub ends_text : (manner : Manner) (text : List ℕ) (w v u : SinkAt) (fault result : ScenarioFault) → ((f : StreamFault) → fault ≡ Stream f → ⊥)
    → EndsBefore manner text w v fault → EndsBy fault v u result → EndsText manner text w u result
ends_text manner text w v u (BadLine number) result other before (inl (is, writes)) =
    subst (EndsText manner text w u) (sym is) (prints_bad manner text number w v u before.0 before.1 before.2 writes)
ends_text manner text w v u (BadLine number) result other before (inr (by_stream, is, ends)) =
    subst (EndsText manner text w u) (sym is) (stops_bad manner text number w v u by_stream before.0 before.1 ends before.2)
ends_text manner text w v u Limit result other before (inl (is, writes)) =
    subst (EndsText manner text w u) (sym is) (prints_limit manner text w v u before.0 before.1 writes)
ends_text manner text w v u Limit result other before (inr (by_stream, is, ends)) =
    subst (EndsText manner text w u) (sym is) (stops_limit manner text w v u by_stream before.0 ends before.1)
ends_text manner text w v u (Stream f) result other before ends = absurd (other f refl)
