-- Which refusal an event meets, and that an accepted one meets none.
use Rattle.std.proofs.Common.{◌≡◌, ℕ, ◌<◌, ◌≤◌, Bool, true, false, ltb, List, length, Option, Some, None, inl, inr, refl, sym, ap, subst, arith}
use Rattle.std.proofs.lemmas.Bool.{ltb-true, ltb-false}
use Rattle.meta_frame.specs.Frame.{RefusesBytes}
use Rattle.meta_frame.specs.declared.fault.FrameFault.{FrameFault}
use Rattle.meta_frame.specs.declared.fault.FrameFault.TheVariants as OfFrame
use Rattle.meta_frame.proofs.Frames.{never_both}
use Rattle.node_core.specs.declared.state.Stepped.{Stepped}
use Rattle.node_core.specs.Node.{NodeParts}
use Rattle.node_core.specs.Step.{CanComeOf, IsNodeStep}
use Rattle.node_core.proofs.Outcomes.{no_cause}
use Rattle.node_events.specs.Fault.{of_frame}
use Rattle.node_events.specs.Event.{other_of}
use Rattle.node_events.specs.declared.event.NodeEvent.{NodeEvent}
use Rattle.node_events.specs.declared.event.NodeEvent.TheVariants as OfNode
use Rattle.node_events.specs.declared.fault.StepFault.{StepFault}
use Rattle.node_events.specs.declared.fault.StepFault.TheVariants as OfStep
use Rattle.restart_images.specs.Keeping.{most_incarnation}
use Rattle.world_core.specs.declared.event.Event.{Event}
use Rattle.world_core.specs.declared.event.Event.TheVariants as events
use Rattle.world_core.specs.declared.fault.WorldFault.{WorldFault}
use Rattle.world_core.specs.declared.fault.WorldFault.TheVariants.{IncarnationSpent, LooksLikeFrame, NoSuchFrame, NoSuchImage, NoSuchNode, NoSuchRead}
use Rattle.world_core.specs.Events.{Step, node_of_event, other_node_of}
use Rattle.world_core.specs.Fault.{of_step}
use Rattle.world_core.specs.Refusal.{HasNoLifeLeft, HasNoNode, IsFrame, IsFrameAsJunk, NamesNoFrame, NamesNoImage, NamesNoNode, NamesNoRead, RefusesDoing, RefusesEvent, RefusesStep, doing_in, first_cause, node_at}
use Rattle.world_core.specs.Steps.{CanBeAsked, HasNamed, IsOfStep, JunkFails, MayRefuse}
use Rattle.world_core.specs.Numbers.{numbered}
use Rattle.world_core.specs.World.{World}
use Rattle.world_core.proofs.Happens.{BringsNothing, IsNamed}

-- ---- causes

-- a cause that doesn't apply leaves it to the rest
passes : (cause : Type 0) (refusal : WorldFault) (rest : WorldFault → Type 0) → (cause → ⊥) → ((fault : WorldFault) → rest fault → ⊥) → (fault : WorldFault) → first_cause cause refusal rest fault → ⊥
passes cause refusal rest not_so others fault (inl here) = not_so here.0
passes cause refusal rest not_so others fault (inr later) = others fault later.1

-- none of the causes before the step's own applies
pub record AllThere (w : World) (event : Event) : Type 0 where
  pub node : NamesNoNode w event → ⊥
  pub frame : NamesNoFrame w event → ⊥
  pub read : NamesNoRead w event → ⊥
  pub image : NamesNoImage w event → ⊥
  pub life : HasNoLifeLeft w event → ⊥
  pub junk : IsFrameAsJunk event → ⊥

pub no_refusal : (w : World) (event : Event) → AllThere w event → ((fault : WorldFault) → RefusesDoing (node_at w (node_of_event event)).state (doing_in w event) fault → ⊥)
    → (fault : WorldFault) → RefusesEvent w event fault → ⊥
no_refusal w event there rest =
    passes (NamesNoNode w event) NoSuchNode _ there.node
    (passes (NamesNoFrame w event) NoSuchFrame _ there.frame
    (passes (NamesNoRead w event) NoSuchRead _ there.read
    (passes (NamesNoImage w event) NoSuchImage _ there.image
    (passes (HasNoLifeLeft w event) IncarnationSpent _ there.life
    (passes (IsFrameAsJunk event) LooksLikeFrame _ there.junk rest)))))

pub refuses_by_step : (w : World) (event : Event) → AllThere w event → (fault : WorldFault) → RefusesDoing (node_at w (node_of_event event)).state (doing_in w event) fault → RefusesEvent w event fault
refuses_by_step w event there fault by =
    inr (there.node, inr (there.frame, inr (there.read, inr (there.image, inr (there.life, inr (there.junk, by))))))

-- ---- what is named by a step is there

node_there : (w : World) (n : ℕ) → n < length w.nodes → HasNoNode w (Some n) → ⊥
node_there w n low none = let past : length w.nodes ≤ n = none in absurd (omega (arith, low, past))

asked_there : (w : World) (event : NodeEvent) → CanBeAsked w event → HasNoNode w (other_of event) → ⊥
asked_there w (OfNode.Join contact word) named none = node_there w contact named none
asked_there w (OfNode.PeerDown peer word) named none = node_there w peer named none
asked_there w (OfNode.Exchange peer) named none = node_there w peer named none
asked_there w (OfNode.Hello peer) named none = node_there w peer named none
asked_there w event named none = none

other_there : (w : World) (event : Event) → HasNamed w event → HasNoNode w (other_node_of event) → ⊥
other_there w (events.Step n event) named none = asked_there w event named none
other_there w event named none = none

both_there : (w : World) (event : Event) → node_of_event event < length w.nodes → (HasNoNode w (other_node_of event) → ⊥) → NamesNoNode w event → ⊥
both_there w event low other (inl absent) = node_there w (node_of_event event) low absent
both_there w event low other (inr absent) = other absent

something : {A : Type 0} (o : Option A) (x : A) → o ≡ Some x → o ≡ None → ⊥
something o x is none = cc

frame_there : (w : World) (event : Event) → HasNamed w event → NamesNoFrame w event → ⊥
frame_there w (events.Deliver frame n word) named none = something (numbered w.frames frame) named.0 named.1 none
frame_there w event named none = none

read_there : (w : World) (event : Event) → HasNamed w event → NamesNoRead w event → ⊥
read_there w (events.Put n k v read) named none = something (numbered w.contexts read) named.0 named.1 none
read_there w (events.Step n (OfNode.Write k v (Some context))) named none = named
read_there w event named none = none

no_image : (w : World) (event : Event) → IsOfStep event → NamesNoImage w event → ⊥
no_image w (events.Restart n image) of none = of
no_image w event of none = none

no_life : (w : World) (event : Event) → IsOfStep event → HasNoLifeLeft w event → ⊥
no_life w (events.Restart n image) of none = of
no_life w event of none = none

no_junk : (w : World) (event : Event) → HasNamed w event → IsFrameAsJunk event → ⊥
no_junk w (events.Step n (OfNode.Take bytes word)) named is = named
no_junk w event named is = is

pub all_there : (w : World) (event : Event) → IsOfStep event → node_of_event event < length w.nodes → HasNamed w event → AllThere w event
all_there w event of low named = record {
  node = both_there w event low (other_there w event named);
  frame = frame_there w event named;
  read = read_there w event named;
  image = no_image w event of;
  life = no_life w event of;
  junk = no_junk w event named;
}

-- ---- a step

not_refused : (s state : NodeParts) (step : NodeEvent) (given : Stepped) → IsNodeStep s step state given → (fault : WorldFault) → RefusesStep s step fault → ⊥
not_refused s state step given makes fault by = no_cause by.by_step makes by.cause

pub step_accepted : (w : World) (event : Event) (step : NodeEvent) (state : NodeParts) (given : Stepped) → AllThere w event → doing_in w event ≡ Step step
    → IsNodeStep (node_at w (node_of_event event)).state step state given → (fault : WorldFault) → RefusesEvent w event fault → ⊥
step_accepted w event step state given there doing makes =
    no_refusal w event there
    (λ fault by. not_refused (node_at w (node_of_event event)).state state step given makes fault
    (subst (λ d. RefusesDoing (node_at w (node_of_event event)).state d fault) doing by))

pub step_refused : (w : World) (event : Event) (step : NodeEvent) (by : StepFault) → AllThere w event → doing_in w event ≡ Step step
    → CanComeOf (node_at w (node_of_event event)).state step by → MayRefuse w event (of_step by)
step_refused w event step by there doing (inl memory) = inl (ap of_step memory)
step_refused w event step by there doing (inr cause) =
    inr (refuses_by_step w event there (of_step by)
    (subst (λ d. RefusesDoing (node_at w (node_of_event event)).state d (of_step by)) (sym doing) (record { by_step = by; cause = cause; is = refl })))

-- ---- what a step names isn't there

pub no_node : (w : World) (event : Event) → length w.nodes ≤ node_of_event event → RefusesEvent w event NoSuchNode
no_node w event past = inl (inl past, refl)

pub no_other : (w : World) (event : Event) → HasNoNode w (other_node_of event) → RefusesEvent w event NoSuchNode
no_other w event none = inl (inr none, refl)

pub no_frame : (w : World) (frame n word : ℕ) → n < length w.nodes → numbered w.frames frame ≡ None → RefusesEvent w (events.Deliver frame n word) NoSuchFrame
no_frame w frame n word low none = inr (both_there w (events.Deliver frame n word) low (λ never. never), inl (none, refl))

pub no_read : (w : World) (event : Event) → node_of_event event < length w.nodes → (HasNoNode w (other_node_of event) → ⊥) → (NamesNoFrame w event → ⊥) → NamesNoRead w event
    → RefusesEvent w event NoSuchRead
no_read w event low other frame none = inr (both_there w event low other, inr (frame, inl (none, refl)))

not_a_frame : (bytes : List ℕ) (fault : FrameFault) → RefusesBytes bytes fault → IsFrame bytes → ⊥
not_a_frame bytes fault refuses is = never_both is.frame bytes fault is.spelled refuses

-- bytes that come by hand
abbrev by_hand : ℕ → ℕ → List ℕ → Event
by_hand n word bytes = events.Step n (OfNode.Take bytes word)

-- the causes before their own
junk_there : (w : World) (n word : ℕ) (bytes : List ℕ) → n < length w.nodes → (IsFrame bytes → ⊥) → AllThere w (by_hand n word bytes)
junk_there w n word bytes low none = record {
  node = both_there w (by_hand n word bytes) low (λ never. never);
  frame = λ never. never;
  read = λ never. never;
  image = λ never. never;
  life = λ never. never;
  junk = none;
}

by_bytes : (w : World) (n word : ℕ) (bytes : List ℕ) (by : FrameFault) → AllThere w (by_hand n word bytes) → RefusesBytes bytes by → MayRefuse w (by_hand n word bytes) (of_step (of_frame by))
by_bytes w n word bytes OfFrame.Memory there refuses = inl refl
by_bytes w n word bytes OfFrame.Short there refuses = inr (refuses_by_step w (by_hand n word bytes) there _ (record { by_step = OfStep.Frame OfFrame.Short; cause = inl refuses; is = refl }))
by_bytes w n word bytes OfFrame.BadMagic there refuses = inr (refuses_by_step w (by_hand n word bytes) there _ (record { by_step = OfStep.Frame OfFrame.BadMagic; cause = inl refuses; is = refl }))
by_bytes w n word bytes OfFrame.BadVersion there refuses = inr (refuses_by_step w (by_hand n word bytes) there _ (record { by_step = OfStep.Frame OfFrame.BadVersion; cause = inl refuses; is = refl }))
by_bytes w n word bytes OfFrame.BadKind there refuses = inr (refuses_by_step w (by_hand n word bytes) there _ (record { by_step = OfStep.Frame OfFrame.BadKind; cause = inl refuses; is = refl }))
by_bytes w n word bytes OfFrame.TooLong there refuses = inr (refuses_by_step w (by_hand n word bytes) there _ (record { by_step = OfStep.Frame OfFrame.TooLong; cause = inl refuses; is = refl }))
by_bytes w n word bytes (OfFrame.BadBody at) there refuses = inr (refuses_by_step w (by_hand n word bytes) there _ (record { by_step = OfStep.Frame (OfFrame.BadBody at); cause = inl refuses; is = refl }))
by_bytes w n word bytes OfFrame.LeftOver there refuses = inr (refuses_by_step w (by_hand n word bytes) there _ (record { by_step = OfStep.Frame OfFrame.LeftOver; cause = inl refuses; is = refl }))

pub junk_refused : (w : World) (n word : ℕ) (bytes : List ℕ) (fault : WorldFault) → n < length w.nodes → JunkFails bytes fault → MayRefuse w (by_hand n word bytes) fault
junk_refused w n word bytes fault low (inl memory) = inl memory
junk_refused w n word bytes fault low (inr (inl frame)) =
    inr (inr (both_there w (by_hand n word bytes) low (λ never. never), inr ((λ never. never), inr ((λ never. never), inr ((λ never. never), inr ((λ never. never), inl (frame.0, frame.1)))))))
junk_refused w n word bytes fault low (inr (inr (by, (refuses, is)))) =
    subst (MayRefuse w (by_hand n word bytes)) (sym is) (by_bytes w n word bytes by (junk_there w n word bytes low (not_a_frame bytes by refuses)) refuses)

-- ---- a restart

restart_there : (w : World) (n image : ℕ) → n < length w.nodes → image ≤ length (node_at w n).images → (node_at w n).state.incarnation < most_incarnation → AllThere w (events.Restart n image)
restart_there w n image low there left = record {
  node = both_there w (events.Restart n image) low (λ never. never);
  frame = λ never. never;
  read = λ never. never;
  image = λ none. let fewer : length (node_at w n).images < image = none in absurd (omega (arith, fewer, there));
  life = λ none. let last : (node_at w n).state.incarnation ≡ most_incarnation = none in absurd (omega (arith, last, left));
  junk = λ never. never;
}

pub restart_accepted : (w : World) (n image : ℕ) → n < length w.nodes → image ≤ length (node_at w n).images → (node_at w n).state.incarnation < most_incarnation
    → (fault : WorldFault) → RefusesEvent w (events.Restart n image) fault → ⊥
restart_accepted w n image low there left = no_refusal w (events.Restart n image) (restart_there w n image low there left) (λ fault never. never)

pub no_image_refuses : (w : World) (n image : ℕ) → n < length w.nodes → length (node_at w n).images < image → RefusesEvent w (events.Restart n image) NoSuchImage
no_image_refuses w n image low fewer = inr (both_there w (events.Restart n image) low (λ never. never), inr ((λ never. never), inr ((λ never. never), inl (fewer, refl))))

pub spent_refuses : (w : World) (n image : ℕ) → n < length w.nodes → image ≤ length (node_at w n).images → (node_at w n).state.incarnation ≡ most_incarnation
    → RefusesEvent w (events.Restart n image) IncarnationSpent
spent_refuses w n image low there spent =
    inr (
      both_there w (events.Restart n image) low (λ never. never),
      inr (
        (λ never. never),
        inr (
          (λ never. never),
          inr (
            (λ none. let fewer : length (node_at w n).images < image = none in absurd (omega (arith, fewer, there))),
            inl (spent, refl),
          ),
        ),
      ),
    )

-- ---- what a step names, in the words of the lists

brings_nothing : (w : World) (event : NodeEvent) → CanBeAsked w event → BringsNothing event
brings_nothing w (OfNode.Write k v (Some context)) named = named
brings_nothing w (OfNode.Write k v None) named = tt
brings_nothing w (OfNode.Take bytes word) named = named
brings_nothing w event named = tt

pub named_of : (w : World) (event : Event) → HasNamed w event → IsNamed w.contexts w.frames event
named_of w (events.Step n event) named = brings_nothing w event named
named_of w (events.Put n k v read) named = named
named_of w (events.Deliver frame n word) named = named
named_of w (events.Restart n image) named = tt

-- ---- what an accepted event names is there

there_by : (w : World) (event : Event) (b : Bool) → ltb (node_of_event event) (length w.nodes) ≡ b → ((fault : WorldFault) → RefusesEvent w event fault → ⊥) → node_of_event event < length w.nodes
there_by w event true e accepted = ltb-true (node_of_event event) (length w.nodes) e
there_by w event false e accepted = absurd (accepted NoSuchNode (no_node w event (ltb-false (node_of_event event) (length w.nodes) e)))

pub has_node : (w : World) (event : Event) → ((fault : WorldFault) → RefusesEvent w event fault → ⊥) → node_of_event event < length w.nodes
has_node w event accepted = there_by w event (ltb (node_of_event event) (length w.nodes)) refl accepted

pub some_by : {A : Type 0} (o : Option A) → (o ≡ None → ⊥) → (x : A) × (o ≡ Some x)
some_by None never = absurd (never refl)
some_by (Some x) never = (x, refl)

pub has_frame : (w : World) (frame n word : ℕ) → ((fault : WorldFault) → RefusesEvent w (events.Deliver frame n word) fault → ⊥) → (bytes : List ℕ) × (numbered w.frames frame ≡ Some bytes)
has_frame w frame n word accepted =
    some_by (numbered w.frames frame) (λ none. accepted NoSuchFrame (no_frame w frame n word (has_node w (events.Deliver frame n word) accepted) none))

node_by : (w : World) (event : Event) (b : Bool) → ltb (node_of_event event) (length w.nodes) ≡ b → (NamesNoNode w event → ⊥) → node_of_event event < length w.nodes
node_by w event true e named = ltb-true (node_of_event event) (length w.nodes) e
node_by w event false e named = absurd (named (inl (ltb-false (node_of_event event) (length w.nodes) e)))

pub node_is_there : (w : World) (event : Event) → (NamesNoNode w event → ⊥) → node_of_event event < length w.nodes
node_is_there w event named = node_by w event (ltb (node_of_event event) (length w.nodes)) refl named
