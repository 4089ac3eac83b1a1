-- Who supplies what an accepted event of a run needs: what it names was given by an earlier entry.
use Rattle.std.proofs.Common.{◌≡◌, ◌+◌, ◌⊎◌, ℕ, zero, suc, List, [], ◌∷◌, ◌++◌, length, slice_get, Option, Some, None, refl, sym, subst, ap, ◌∙◌, inl, inr, arith}
use Rattle.std.specs.Option.{unwrap_or}
use Rattle.meta_store.specs.Context.{Reading}
use Rattle.meta_types.specs.Name.{Key}
use Rattle.meta_types.specs.Value.{ValueParts}
use Rattle.node_core.specs.declared.state.Stepped.{Stepped}
use Rattle.node_core.specs.Node.{NodeParts, present}
use Rattle.node_core.specs.Rows.{Input, IsInput, Local, Received}
use Rattle.node_core.specs.Step.{IsNodeStep, IsStepOf, reply_of}
use Rattle.node_events.specs.declared.event.NodeEvent.{NodeEvent}
use Rattle.node_events.specs.declared.event.NodeEvent.TheVariants.{PutOver, Read, Take, Write}
use Rattle.node_events.specs.declared.reply.Reply.{Reply}
use Rattle.restart_images.specs.Node.{context_read}
use Rattle.node_journal.specs.Closed.{ClosedNode}
use Rattle.run_record.specs.Giving.{IsHandedOut, Needs, Supplies}
use Rattle.world_core.specs.declared.answer.Accepted.{Accepted}
use Rattle.world_core.specs.declared.answer.Answer.{Answer}
use Rattle.world_core.specs.declared.event.Event.{Event}
use Rattle.world_core.specs.declared.event.Event.TheVariants as events
use Rattle.world_core.specs.declared.fault.WorldFault.{WorldFault}
use Rattle.world_core.specs.declared.fault.WorldFault.TheVariants.{LooksLikeFrame, NoSuchNode, NoSuchRead}
use Rattle.world_core.specs.Events.{Step, doing_of, node_of_event}
use Rattle.world_core.specs.Numbers.{numbered}
use Rattle.world_core.specs.Outcome.{list_of, read_after}
use Rattle.world_core.specs.Refusal.{IsFrame, NamesNoNode, RefusesEvent, doing_in, node_at}
use Rattle.world_core.specs.World.{World}
use Rattle.world_core.proofs.Refusing.{has_frame, some_by}
use Rattle.run_record.specs.Record.{IsPutOver, read_named}
use Rattle.run_record.proofs.Entries.{IsEntryOf, upto_in}
use Rattle.run_record.proofs.Upto.{IsSupplied, still_supplied}

-- each frame was sent by an entry that was gone through, and each read that is none of `over` was
-- handed out by one
pub record AreSupplied (closed : List ClosedNode) (over : ℕ → Type 0) (w : World) : Type 0 where
  pub frames : (number : ℕ) (frame : List ℕ) (word : ℕ) → numbered w.frames number ≡ Some frame
      → IsSupplied closed (upto_in w) (Take frame word)
  pub reads : (read : ℕ) (c : Reading) (key : Key) (value : ValueParts)
      → numbered w.contexts read ≡ Some c
      → over read ⊎ IsSupplied closed (upto_in w) (Write key value (Some c))

-- ---- what stands in a list with more behind it

in_either : {A : Type 0} (xs ys : List A) (k : ℕ) (x : A) → slice_get (xs ++ ys) k ≡ Some x
    → (slice_get xs k ≡ Some x) ⊎ ((j : ℕ) × (slice_get ys j ≡ Some x))
in_either [] ys k x at = inr (k, at)
in_either (y ∷ xs) ys zero x at = inl at
in_either (y ∷ xs) ys (suc k) x at = in_either xs ys k x at

numbered_in_either : {A : Type 0} (xs ys : List A) (number : ℕ) (x : A)
    → numbered (xs ++ ys) number ≡ Some x
    → (numbered xs number ≡ Some x) ⊎ ((j : ℕ) × (slice_get ys j ≡ Some x))
numbered_in_either xs ys zero x at = absurd (cc)
numbered_in_either xs ys (suc before) x at = in_either xs ys before x at

before_or_next : {A : Type 0} (xs : List A) (o : Option A) (k : ℕ) (x : A)
    → slice_get (xs ++ list_of o) k ≡ Some x
    → (slice_get xs k ≡ Some x) ⊎ ((o ≡ Some x) × (k ≡ length xs))
before_or_next [] None k x at = absurd (cc)
before_or_next [] (Some y) zero x at = inr (at, refl)
before_or_next [] (Some y) (suc k) x at = absurd (cc)
before_or_next (y ∷ xs) o zero x at = inl at
before_or_next (y ∷ xs) o (suc k) x at = elim (before_or_next xs o k x at) [
  | inl before ↦ inl before
  | inr next ↦ inr (next.0, ap suc next.1)
]

read_before_or_next : {A : Type 0} (xs : List A) (o : Option A) (read : ℕ) (x : A)
    → numbered (xs ++ list_of o) read ≡ Some x
    → (numbered xs read ≡ Some x) ⊎ ((o ≡ Some x) × (read ≡ length xs + 1))
read_before_or_next xs o zero x at = absurd (cc)
read_before_or_next xs o (suc place) x at = elim (before_or_next xs o place x at) [
  | inl before ↦ inl before
  | inr next ↦ inr (next.0, omega (arith, next.1))
]

-- ---- what a read hands out

-- a step that is a write over what is shown
abbrev IsOver : NodeEvent → Type 0
IsOver (PutOver key value) = Unit {0}
IsOver event = ⊥

over_step : (n : ℕ) (step : NodeEvent) → IsOver step → IsPutOver (events.Step n step)
over_step n (PutOver key value) over = tt
over_step n _ over = absurd over

put_over_of : (contexts : List Reading) (frames : List (List ℕ)) (event : Event)
    (step : NodeEvent) → doing_of contexts frames event ≡ Step step → IsOver step
    → IsPutOver event
put_over_of contexts frames (events.Step n own) step is over =
    let same : step ≡ own = cc in
    over_step n own (subst (λ (x : NodeEvent). IsOver x) same over)
put_over_of contexts frames (events.Put n key value read) step is over =
    let same : step ≡ Write key value (numbered contexts read) = cc in
    absurd (subst (λ (x : NodeEvent). IsOver x) same over)
put_over_of contexts frames (events.Deliver frame n word) step is over =
    let same : step ≡ Take (unwrap_or (numbered frames frame) []) word = cc in
    absurd (subst (λ (x : NodeEvent). IsOver x) same over)
put_over_of contexts frames (events.Restart n image) step is over = absurd (cc)

handed_by : (s new : NodeParts) (given : Stepped) (key : Key) (input : Input)
    → IsInput (Read key) input → IsStepOf s input new given
    → IsHandedOut (present key s) given.reply
handed_by s new given key (Local own) is step =
    subst (λ (r : Reply). IsHandedOut (present key s) r)
    (sym (step.replies ∙ ap (λ (x : NodeEvent). reply_of (Local x) s) is)) refl
handed_by s new given key (Received frame word) is step = absurd is

-- a step that reads hands out what it reads, except a write over it
hands_out : (s new : NodeParts) (event : NodeEvent) (given : Stepped) (c : Reading)
    → IsNodeStep s event new given → context_read event s ≡ Some c
    → IsOver event ⊎ IsHandedOut c given.reply
hands_out s new (Read key) given c makes is =
    let same : present key s ≡ c = cc in
    inr (subst (λ (x : Reading). IsHandedOut x given.reply) same
    (handed_by s new given key makes.input makes.is_input makes.step))
hands_out s new (PutOver key value) given c makes is = inl tt
hands_out s new _ given c makes is = absurd (cc)

-- ---- one entry more

last_supplies : (closed : List ClosedNode) (old new : World) (a : Accepted)
    (e : IsEntryOf closed old new a) (event : NodeEvent) → Supplies e.entry event
    → IsSupplied closed (upto_in new) event
last_supplies closed old new a e event gives = record {
  node = node_of_event a.event;
  place = upto_in old (node_of_event a.event);
  passed = omega (arith, e.on.own);
  entry = e.entry;
  there = e.there;
  gives = gives;
}

new_read : (closed : List ClosedNode) (over : ℕ → Type 0) (old new : World) (a : Accepted)
    (e : IsEntryOf closed old new a) (read : ℕ) (c : Reading) (key : Key) (value : ValueParts)
    → (IsPutOver a.event → a.answer.read ≡ Some read → over read)
    → context_read e.entry.event (node_at old (node_of_event a.event)).state ≡ Some c
    → read ≡ length old.contexts + 1
    → over read ⊎ IsSupplied closed (upto_in new) (Write key value (Some c))
new_read closed over old new a e read c key value made_over is number =
    let s = (node_at old (node_of_event a.event)).state in
    let answered : a.answer.read ≡ Some read =
    ap (λ (x : Answer). x.read) e.made.answers
    ∙ ap (λ (o : Option Reading). read_after old.contexts o) is
    ∙ ap (λ (k : ℕ). Some k) (sym number) in
    elim (hands_out s e.made.state e.entry.event e.made.given c e.made.makes is) [
      | inl is_over ↦ inl (made_over
          (put_over_of old.contexts old.frames a.event e.entry.event e.doing is_over) answered)
      | inr out ↦
          let given : IsHandedOut c e.entry.reply =
          subst (λ (s : Stepped). IsHandedOut c s.reply) e.given out in
          inr (last_supplies closed old new a e (Write key value (Some c)) (0, given))
    ]

pub supplied_more : (closed : List ClosedNode) (over : ℕ → Type 0) (old new : World)
    (a : Accepted) → IsEntryOf closed old new a
    → ((read : ℕ) → IsPutOver a.event → a.answer.read ≡ Some read → over read)
    → AreSupplied closed over old → AreSupplied closed over new
supplied_more closed over old new a e made_over are =
    let n = node_of_event a.event in
    let still : (event : NodeEvent) → IsSupplied closed (upto_in old) event
    → IsSupplied closed (upto_in new) event =
    λ event s. still_supplied closed n (upto_in old) (upto_in new) event e.on s in
    record {
      frames = λ number frame word at.
          let in_both : numbered (old.frames ++ e.made.given.outbox) number ≡ Some frame =
          ap (λ (l : List (List ℕ)). numbered l number) (sym e.made.frames) ∙ at in
          elim (numbered_in_either old.frames e.made.given.outbox number frame in_both) [
            | inl before ↦ still (Take frame word) (are.frames number frame word before)
            | inr now ↦ last_supplies closed old new a e (Take frame word) (
              now.0,
              ap (λ (s : Stepped). slice_get s.outbox now.0) (sym e.given) ∙ now.1,
            )
          ];
      reads = λ read c key value at.
          let o = context_read e.entry.event (node_at old n).state in
          let in_both : numbered (old.contexts ++ list_of o) read ≡ Some c =
          ap (λ (l : List Reading). numbered l read) (sym e.made.contexts) ∙ at in
          elim (read_before_or_next old.contexts o read c in_both) [
            | inl before ↦ elim (are.reads read c key value before) [
              | inl is_over ↦ inl is_over
              | inr s ↦ inr (still (Write key value (Some c)) s)
            ]
            | inr next ↦
                new_read closed over old new a e read c key value (made_over read) next.0 next.1
          ];
    }

-- ---- what an event names

-- the world has no refusal of the event
abbrev HasNoRefusal : World → Event → Type 0
HasNoRefusal w event = (fault : WorldFault) → RefusesEvent w event fault → ⊥

names_nodes : (w : World) (event : Event) → HasNoRefusal w event → NamesNoNode w event → ⊥
names_nodes w event none absent = none NoSuchNode (inl (absent, refl))

no : ⊥ → ⊥
no h = h

is_frame : (bytes : List ℕ) (word : ℕ) (input : Input) → IsInput (Take bytes word) input
    → IsFrame bytes
is_frame bytes word (Local own) is = absurd is
is_frame bytes word (Received frame w) is = record { frame = frame; spelled = is.0 }

-- a step that comes by hand needs nothing
needs_nothing : (w : World) (n : ℕ) (step : NodeEvent) (s new : NodeParts) (given : Stepped)
    → HasNoRefusal w (events.Step n step) → IsNodeStep s step new given → Needs step → ⊥
needs_nothing w n (Take bytes word) s new given none makes needs =
    let event = events.Step n (Take bytes word) in
    let junk = is_frame bytes word makes.input makes.is_input in
    none LooksLikeFrame (inr (
      names_nodes w event none,
      inr (no, inr (no, inr (no, inr (no, inl (junk, refl))))),
    ))
needs_nothing w n (Write key value (Some c)) s new given none makes needs =
    let event = events.Step n (Write key value (Some c)) in
    none NoSuchRead (inr (names_nodes w event none, inr (no, inl (tt, refl))))
needs_nothing w n _ s new given none makes needs = absurd needs

has_read : (w : World) (n : ℕ) (key : Key) (value : ValueParts) (read : ℕ)
    → HasNoRefusal w (events.Put n key value read)
    → (c : Reading) × (numbered w.contexts read ≡ Some c)
has_read w n key value read none =
    let event = events.Put n key value read in
    some_by (numbered w.contexts read) (λ absent.
    none NoSuchRead (inr (names_nodes w event none, inr (no, inl (absent, refl)))))

-- what an accepted event needs was supplied, unless its write names a read of `over`
pub supplied : (closed : List ClosedNode) (over : ℕ → Type 0) (w : World) (event : Event)
    (step : NodeEvent) (s new : NodeParts) (given : Stepped) → HasNoRefusal w event
    → doing_in w event ≡ Step step → IsNodeStep s step new given
    → ((read : ℕ) → read_named event ≡ Some read → over read → ⊥) → AreSupplied closed over w
    → Needs step → IsSupplied closed (upto_in w) step
supplied closed over w (events.Step n own) step s new given none is makes free are needs =
    let same : step ≡ own = cc in
    absurd (needs_nothing w n own s new given none
    (subst (λ (x : NodeEvent). IsNodeStep s x new given) same makes)
    (subst (λ (x : NodeEvent). Needs x) same needs))
supplied closed over w (events.Put n key value read) step s new given none is makes free are needs =
    let c = has_read w n key value read none in
    let written : Write key value (numbered w.contexts read) ≡ step = cc in
    let same : Write key value (Some c.0) ≡ step =
    ap (λ (o : Option Reading). Write key value o) (sym c.1) ∙ written in
    elim (are.reads read c.0 key value c.1) [
      | inl is_over ↦ absurd (free read refl is_over)
      | inr supply ↦ subst (λ (x : NodeEvent). IsSupplied closed (upto_in w) x) same supply
    ]
supplied closed over w (events.Deliver frame n word) step s new given none is makes free are needs =
    let bytes = has_frame w frame n word none in
    let taken : Take (unwrap_or (numbered w.frames frame) []) word ≡ step = cc in
    let same : Take bytes.0 word ≡ step =
    ap (λ (o : Option (List ℕ)). Take (unwrap_or o []) word) (sym bytes.1) ∙ taken in
    subst (λ (x : NodeEvent). IsSupplied closed (upto_in w) x) same
    (are.frames frame bytes.0 word bytes.1)
supplied closed over w (events.Restart n image) step s new given none is makes free are needs =
    absurd (cc)
