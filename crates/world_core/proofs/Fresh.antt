-- A delivered object is answered fresh exactly if its load isn't known.
use Rattle.std.proofs.Common.{◌≡◌, ℕ, ◌<◌, [], Bool, true, false, not, cond, List, length, Option, Some, None, refl, sym, ap, subst, ◌∙◌}
use Rattle.std.specs.Prelude.{◌↔◌, IfOk, slice_get}
use Rattle.std.proofs.Common.{Result, Ok, Err}
use Rattle.std.specs.Option.{option_flatten, unwrap_or}
use Rattle.meta_types.specs.Name.{Key}
use Rattle.dvvset.specs.Object.{Entry}
use Rattle.dvvset.specs.Clock.{descends, join}
use Rattle.meta_frame.specs.Frame.{Spells}
use Rattle.meta_frame.specs.declared.message.Frame.{Frame}
use Rattle.meta_frame.specs.declared.message.Message.{Message}
use Rattle.meta_frame.specs.declared.message.Message.TheVariants.{Gossip, XObject}
use Rattle.meta_store.specs.Table.{object_at}
use Rattle.node_events.specs.declared.event.NodeEvent.TheVariants.{Take}
use Rattle.node_events.specs.declared.reply.Reply.{Reply}
use Rattle.node_events.specs.declared.reply.Reply.TheVariants as OfReply
use Rattle.node_core.specs.declared.state.Stepped.{Stepped}
use Rattle.node_core.specs.Leaving.{carried_object}
use Rattle.node_core.specs.Node.{NodeParts}
use Rattle.node_core.specs.Rows.{Input, IsInput, Local, Received}
use Rattle.node_core.specs.Step.{IsStepOf, reply_of_message, reply_of_object}
use Rattle.past_model.specs.declared.happening.Happening.{Happening}
use Rattle.past_model.specs.declared.happening.Happening.TheVariants.{Sent}
use Rattle.past_model.specs.Sets.{IsSubset}
use Rattle.past_model.specs.Past.{known, load}
use Rattle.past_model.specs.Objects.{held_object, sent_object}
use Rattle.past_model.proofs.Deliveries.{stale_exactly}
use Rattle.world_core.specs.declared.answer.Answer.{Answer}
use Rattle.world_core.specs.declared.event.Event.{Event}
use Rattle.world_core.specs.declared.event.Event.TheVariants.{Deliver}
use Rattle.world_core.specs.declared.fault.WorldFault.{WorldFault}
use Rattle.world_core.specs.Knowledge.{FreshExactly, TellsFreshness}
use Rattle.world_core.specs.Outcome.{Accepts, MakesStep, Outcome}
use Rattle.world_core.specs.Refusal.{IsFrameOf, node_at, table_at}
use Rattle.world_core.specs.Numbers.{numbered}
use Rattle.world_core.specs.Tells.{sending_of}
use Rattle.world_core.specs.World.{World}
use Rattle.world_core.specs.Invariant.{IsTold, IsWholeWorld, IsWorld}
use Rattle.world_core.proofs.Named.{IsToldAs}
use Rattle.world_core.proofs.Outcomes.{world_of}
use Rattle.world_core.proofs.Refusing.{has_frame, has_node}
use Rattle.world_core.proofs.Shown.{frame_told, of_told, stands}

-- the reply to an object, by whether its vector is known
fresh_by : (hs : List Happening) (n place : ℕ) (k : Key) (reply : Reply) (b : Bool) → reply ≡ cond (not b) OfReply.TookFresh OfReply.TookStale → ((b ≡ true) ↔ IsSubset (load hs place k) (known hs n k)) → TellsFreshness hs n place k reply
fresh_by hs n place k reply true is exactly = record {
  fresh = (λ e. let both : OfReply.TookStale ≡ OfReply.TookFresh = sym is ∙ e in absurd (cc), λ not_all. absurd (not_all (exactly.0 refl)));
  stale = (λ e. exactly.0 refl, λ all. is);
}
fresh_by hs n place k reply false is exactly = record {
  fresh = (λ e all. let both : false ≡ true = exactly.1 all in cc, λ not_all. is);
  stale = (λ e. let both : OfReply.TookFresh ≡ OfReply.TookStale = sym is ∙ e in absurd (cc), λ all. let both : false ≡ true = exactly.1 all in absurd (cc));
}

same_sent : (hs : List Happening) (place m l : ℕ) (k key : Key) → slice_get hs place ≡ Some (Sent m k) → slice_get hs place ≡ Some (Sent l key) → key ≡ k
same_sent hs place m l k key a b =
    let both : Some (Sent m k) ≡ Some (Sent l key) = sym a ∙ b in
    cc

-- ---- the reply to a frame

not_some : {A : Type 0} (x : A) → None ≡ Some x → ⊥
not_some x e = cc

reply_by : (s : NodeParts) (m : Message) (k : Key) (o : List Entry) → carried_object m ≡ Some (k, o) → reply_of_message m s ≡ reply_of_object k o s
reply_by s (Gossip round key object) k o e =
    let pair : (key, object) ≡ (k, o) = cc in
    ap (λ (p : Key × List Entry). reply_of_object p.0 p.1 s) pair
reply_by s (XObject key object) k o e =
    let pair : (key, object) ≡ (k, o) = cc in
    ap (λ (p : Key × List Entry). reply_of_object p.0 p.1 s) pair
reply_by s m k o e = absurd (not_some (k, o) e)

-- a step that takes bytes is that of the frame that they spell
pub record TakesFrame (s : NodeParts) (bytes : List ℕ) (given : Stepped) : Type 0 where
  pub frame : Frame
  pub spelled : Spells frame bytes
  pub reply : given.reply ≡ reply_of_message frame.message s

takes : (s state : NodeParts) (bytes : List ℕ) (word : ℕ) (given : Stepped) (input : Input) → IsInput (Take bytes word) input → IsStepOf s input state given → TakesFrame s bytes given
takes s state bytes word given (Received f w) is step = record { frame = f; spelled = is.0; reply = step.replies }
takes s state bytes word given (Local e) is step = absurd is

fresh_at : (w : World) (is : IsWorld w) (number n place m : ℕ) (k : Key) (f : Frame) (reply : Reply) → n < length w.nodes → IsFrameOf w number f
    → reply ≡ reply_of_message f.message (node_at w n).state → sending_of is.told number ≡ Some place → slice_get is.told.history place ≡ Some (Sent m k)
    → (told : IsToldAs is.told number f) → TellsFreshness is.told.history n place k reply
fresh_at w is number n place m k f reply low of answers named sent told =
    fresh_entry told.sending told.told (sym (ap option_flatten told.there) ∙ named) where
      fresh_entry : (entry : Option ℕ) → IsTold is.told.history f entry → entry ≡ Some place → TellsFreshness is.told.history n place k reply
      fresh_entry None told same = absurd (let no : None ≡ Some place = same in cc)
      fresh_entry (Some at) told same =
          let hs = is.told.history in
          let here : at ≡ place = cc in
          let key : told.key ≡ k = same_sent hs place m f.from k told.key sent (subst (λ p. slice_get hs p ≡ Some (Sent f.from told.key)) here told.sent) in
          let carries : carried_object f.message ≡ Some (k, sent_object hs place k) =
          told.carries ∙ (λ i. Some (key i, sent_object hs (here i) (key i))) in
          let shown : object_at (table_at w n) k ≡ held_object hs n k = (stands w is n low).holds k in
          let b : Bool = descends (join (held_object hs n k)) (join (sent_object hs place k)) in
          fresh_by hs n place k reply b
          (answers ∙ reply_by (node_at w n).state f.message k (sent_object hs place k) carries
          ∙ ap (λ o. cond (not (descends (join o) (join (sent_object hs place k)))) OfReply.TookFresh OfReply.TookStale) shown)
          (stale_exactly hs is.state.is_history n place k)

fresh_answer : (w : World) (number n word : ℕ) (answer : Answer) (new : World) → IsWorld w → Accepts w (Deliver number n word) answer new → FreshExactly w (Deliver number n word) answer
fresh_answer w number n word answer new is accepts =
    of_told w is (λ t. (place m : ℕ) (k : Key) → sending_of t number ≡ Some place → slice_get t.history place ≡ Some (Sent m k) → TellsFreshness t.history n place k answer.reply)
    (λ place m k named sent.
    let low : n < length w.nodes = has_node w (Deliver number n word) accepts.no_refusal in
    let bytes = has_frame w number n word accepts.no_refusal in
    let made : MakesStep w n (Take (unwrap_or (numbered w.frames number) []) word) answer new = accepts.makes in
    let took = takes (node_at w n).state made.state (unwrap_or (numbered w.frames number) []) word made.given made.makes.input made.makes.is_input made.makes.step in
    let of : IsFrameOf w number took.frame = record {
      bytes = bytes.0;
      there = bytes.1;
      spelled = subst (Spells took.frame) (ap (λ o. unwrap_or o []) bytes.1) took.spelled;
    } in
    fresh_at w is number n place m k took.frame answer.reply low of (ap (λ (a : Answer). a.reply) made.answers ∙ took.reply) named sent (frame_told w is number took.frame of))

fresh_event : (w : World) (event : Event) (answer : Answer) (new : World) → IsWorld w → Accepts w event answer new → FreshExactly w event answer
fresh_event w (Deliver number n word) answer new is accepts = fresh_answer w number n word answer new is accepts
fresh_event w event answer new is accepts = tt

pub fresh_of : (w : World) (event : Event) (result : Result Answer WorldFault) (new : World) → IsWholeWorld w → Outcome w event result new → IfOk result (FreshExactly w event)
unfolding Outcome
fresh_of w event (Ok answer) new kept outcome = fresh_event w event answer new (world_of w kept) outcome
fresh_of w event (Err fault) new kept outcome = tt
