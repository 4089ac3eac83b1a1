-- An accepted event is one deed more of its node, and none of any other.
use Rattle.std.proofs.Common.{◌≡◌, ℕ, ◌+◌, List, [], ◌∷◌, ◌++◌, length, Result, Ok, Err, inl, inr, refl, sym, ap, ◌∙◌}
use Rattle.std.specs.Prelude.{IfOk}
use Rattle.std.proofs.lemmas.Bool.{cases_lt}
use Rattle.std.proofs.lemmas.List.{append-nil}
use Rattle.meta_store.specs.Context.{Reading}
use Rattle.node_core.specs.declared.state.Stepped.{Stepped}
use Rattle.restart_images.specs.Node.{context_read}
use Rattle.world_core.specs.declared.answer.Accepted.{Accepted}
use Rattle.world_core.specs.declared.answer.Answer.{Answer}
use Rattle.world_core.specs.declared.event.Event.{Event}
use Rattle.world_core.specs.declared.event.Event.TheVariants.{Put, Deliver}
use Rattle.world_core.specs.declared.fault.WorldFault.{WorldFault}
use Rattle.world_core.specs.declared.fault.WorldFault.TheVariants.{NoSuchFrame, NoSuchRead, NoSuchNode}
use Rattle.world_core.specs.Events.{Begin, Doing, Step, node_of_event}
use Rattle.world_core.specs.Lives.{deed_of, deeds_of}
use Rattle.world_core.specs.Numbers.{frames_at}
use Rattle.world_core.specs.Outcome.{Accepts, AddsDeed, Makes, Outcome, list_of}
use Rattle.world_core.specs.Refusal.{NamesNoFrame, NamesNoNode, NamesNoRead, RefusesEvent, doing_in, node_at}
use Rattle.world_core.specs.World.{World, deeds_in}
use Rattle.world_core.specs.Invariant.{IsFrameWithin, IsReadWithin, IsWholeWorld, IsWorld}
use Rattle.world_core.proofs.Lists.{frames_at_end, numbered_past}
use Rattle.world_core.proofs.Living.{deeds_append, new_deed, other_deed}
use Rattle.world_core.proofs.Outcomes.{world_of}
use Rattle.world_core.proofs.Worlds.{deeds_own, deeds_same}

-- ---- what an event names that has no refusal is there

abbrev HasNoRefusal : World → Event → Type 0
HasNoRefusal w event = (fault : WorldFault) → RefusesEvent w event fault → ⊥

no_node : (w : World) (event : Event) → HasNoRefusal w event → NamesNoNode w event → ⊥
no_node w event none absent = none NoSuchNode (inl (absent, refl))

no_frame : (w : World) (event : Event) → HasNoRefusal w event → NamesNoFrame w event → ⊥
no_frame w event none absent = none NoSuchFrame (inr (no_node w event none, inl (absent, refl)))

no_read : (w : World) (event : Event) → HasNoRefusal w event → NamesNoRead w event → ⊥
no_read w event none absent = none NoSuchRead (inr (no_node w event none, inr (no_frame w event none, inl (absent, refl))))

read_there : (w : World) (event : Event) → (NamesNoRead w event → ⊥) → IsReadWithin (length w.contexts) event
read_there w (Put n k v read) there = elim (cases_lt (length w.contexts) read) [
  | inl lt ↦ absurd (there (numbered_past w.contexts read (inr lt)))
  | inr le ↦ le
]
read_there w event there = tt

frame_there : (w : World) (event : Event) → (NamesNoFrame w event → ⊥) → IsFrameWithin (length w.frames) event
frame_there w (Deliver frame n word) there = elim (cases_lt (length w.frames) frame) [
  | inl lt ↦ absurd (there (numbered_past w.frames frame (inr lt)))
  | inr le ↦ le
]
frame_there w event there = tt

-- ---- what an accepted event adds

record Grows (old : World) (answer : Answer) (new : World) : Type 0 where
  bytes : List (List ℕ)
  more : List Reading
  frames : new.frames ≡ old.frames ++ bytes
  contexts : new.contexts ≡ old.contexts ++ more
  sent : answer.sent ≡ record { first = length old.frames + 1; count = length bytes }

grows : (old : World) (n : ℕ) (doing : Doing) (answer : Answer) (new : World) → Makes old n doing answer new → Grows old answer new
grows old n (Step step) answer new makes = record {
  bytes = makes.given.outbox;
  more = list_of (context_read step (node_at old n).state);
  frames = makes.frames;
  contexts = makes.contexts;
  sent = ap (λ (a : Answer). a.sent) makes.answers;
}
grows old n (Begin image) answer new makes = record {
  bytes = [];
  more = [];
  frames = makes.frames ∙ sym (append-nil old.frames);
  contexts = makes.contexts ∙ sym (append-nil old.contexts);
  sent = ap (λ (a : Answer). a.sent) makes.answers;
}

adds_deed : (old : World) → IsWorld old → (event : Event) (answer : Answer) (new : World) → Accepts old event answer new → AddsDeed old event answer new
adds_deed old is event answer new accepts =
    let n : ℕ = node_of_event event in
    let a : Accepted = record { event = event; answer = answer } in
    let g = grows old n (doing_in old event) answer new accepts.makes in
    let given : Stepped = record { reply = answer.reply; outbox = g.bytes } in
    let deed : deed_of (old.contexts ++ g.more) (old.frames ++ g.bytes) a ≡ (doing_in old event, given) =
    new_deed old.contexts g.more old.frames g.bytes a (doing_in old event) given
    (read_there old event (no_read old event accepts.no_refusal)) (frame_there old event (no_frame old event accepts.no_refusal)) refl refl refl g.sent in
    let sent : g.bytes ≡ frames_at answer.sent new.frames =
    sym (ap (λ (fs : List (List ℕ)). frames_at answer.sent fs) g.frames ∙ frames_at_end answer.sent old.frames g.bytes g.sent) in
    record {
      own = (λ i. deeds_of (g.contexts i) (g.frames i) n (accepts.accepted i))
          ∙ deeds_own old is a n g.bytes g.more (doing_in old event) given refl deed
          ∙ (λ i. deeds_in old n ++ (doing_in old event, record { reply = answer.reply; outbox = sent i }) ∷ []);
      others = λ m other.
          (λ i. deeds_of (g.contexts i) (g.frames i) m (accepts.accepted i))
          ∙ deeds_append (old.contexts ++ g.more) (old.frames ++ g.bytes) m old.accepted (a ∷ [])
          ∙ (λ i. deeds_same old is g.bytes g.more m i ++ other_deed (old.contexts ++ g.more) (old.frames ++ g.bytes) m a other i)
          ∙ append-nil (deeds_in old m);
    }

pub deeds_by : (old : World) (event : Event) (outcome : Result Answer WorldFault) (new : World) → IsWholeWorld old → Outcome old event outcome new
    → IfOk outcome (λ answer. AddsDeed old event answer new)
unfolding Outcome
deeds_by old event (Ok answer) new was comes = adds_deed old (world_of old was) event answer new comes
deeds_by old event (Err fault) new was comes = tt
