-- A step is made of what it did.
use Rattle.std.proofs.Common.{◌≡◌, ℕ, List, [], ◌∷◌, map, length, All, Option, None, refl, sym, ap, subst, ◌∙◌, suc}
use Rattle.std.proofs.lemmas.List.Elements.{All-same}
use Rattle.meta_frame.specs.Frame.{spelling}
use Rattle.node_events.specs.declared.fault.StepFault.{StepFault}
use Rattle.node_events.specs.declared.reply.Reply.{Reply}
use Rattle.node_overlay.specs.declared.envelope.Envelope.{Envelope}
use Rattle.node_overlay.specs.Outbox.{AreFramesOf, HasSpelling, count_on, frames_from}
use Rattle.node_overlay.proofs.Naming.{same_frames}
use Rattle.node_core.specs.declared.state.Stepped.{Stepped}
use Rattle.node_core.specs.Node.{NodeParts}
use Rattle.node_core.specs.Draft.{NodeDraft}
use Rattle.node_core.specs.Step.{IsStepTo, with_counts}

pub frames_counted : (node number : ℕ) (es : List Envelope) → length (map spelling (frames_from node number es)) ≡ length es
frames_counted node number [] = refl
frames_counted node number (e ∷ es) = ap suc (frames_counted node (count_on number 1) es)

-- of a step that did this: its parts and what it sent, before it was counted
pub made : (old mid new : NodeParts) (refusal : Option StepFault) (done : NodeDraft) (reply : Reply) (sent : List Envelope) (stepped : Stepped)
    → refusal ≡ None → done ≡ record { parts = mid; sent = sent } → stepped.reply ≡ reply
    → stepped.outbox ≡ map spelling (frames_from old.node old.frames sent)
    → All HasSpelling (frames_from old.node old.frames sent)
    → new ≡ with_counts (length stepped.outbox) mid
    → IsStepTo old refusal done reply new stepped
made old mid new refusal done reply sent stepped accepted is replies sends frames counts = record {
  accepted = accepted;
  node = counts ∙ ap (λ outbox. with_counts (length outbox) mid) sends
      ∙ ap (λ n. with_counts n mid) (frames_counted old.node old.frames sent) ∙ ap (λ (t : NodeDraft). with_counts (length t.sent) t.parts) (sym is);
  replies = replies;
  sends = sends ∙ ap (λ (t : NodeDraft). map spelling (frames_from old.node old.frames t.sent)) (sym is);
  frames =
      All-same HasSpelling (frames_from old.node old.frames done.sent) (frames_from old.node old.frames sent)
      (ap (λ (t : NodeDraft). frames_from old.node old.frames t.sent) is) frames;
}

-- the frames that a call of the overlay gave are the node's
pub own_frames : {s old : NodeParts} {sent es : List Envelope} {outbox : List (List ℕ)} → s ≡ old
    → s.overlay.views.node ≡ s.node → sent ≡ es
    → AreFramesOf s.overlay.views.node s.frames sent outbox → AreFramesOf old.node old.frames es outbox
own_frames {es = es} {outbox = outbox} view own is h =
    subst (λ (t : NodeParts). AreFramesOf t.node t.frames es outbox) view (same_frames own is h)
