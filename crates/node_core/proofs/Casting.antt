-- What the messages of the broadcast that carry no object, and the questions of an exchange, make
-- of a node.
use Rattle.std.proofs.Common.{Ok, ◌≡◌, ℕ, leb, Bool, true, false, List, [], ◌∷◌, map, length, All, None, Option, unwrap_or, refl, sym, ap, subst, ◌∙◌, arith}
use Rattle.std.specs.Cmp.{first_so}
use Rattle.std.specs.Int.{w16, w64}
use Rattle.std.specs.FinMap.{find}
use Rattle.std.proofs.lemmas.Bool.{leb-true}
use Rattle.std.proofs.lemmas.List.Elements.{All-nil}
use Rattle.meta_types.specs.Name.{Key}
use Rattle.meta_types.specs.Order.{key_cmp}
use Rattle.dvvset.specs.Object.{Counter, Entry}
use Rattle.dvvset.specs.Clock.{descends, join}
use Rattle.frame_fields.specs.Field.{greatest_count}
use Rattle.frame_fields.proofs.Spellable.{number_within}
use Rattle.exchange.specs.Answers.{answers_to}
use Rattle.meta_frame.specs.Frame.{spelling}
use Rattle.meta_frame.specs.declared.message.Message.{Message}
use Rattle.meta_frame.specs.declared.message.Message.TheVariants.{Gossip, XRoot, XPrefixes, XInner, XLeaves, XBucket, XWant}
use Rattle.meta_store.specs.Table.{Table, is_stale, object_at}
use Rattle.plumtree.specs.Broadcast.{CastCall, TakesGraft, TakesIHave, TakesPrune}
use Rattle.plumtree.specs.Rows as cast
use Rattle.node_events.specs.declared.outbox.Outbox.{Outbox}
use Rattle.node_events.specs.declared.reply.Reply.TheVariants.{Took}
use Rattle.node_overlay.specs.declared.envelope.Envelope.{Envelope}
use Rattle.node_overlay.specs.declared.pending.Pending.{Pending}
use Rattle.node_overlay.specs.Outbox.{HasSpelling, IsSpelledVector, frames_from}
use Rattle.node_overlay.specs.Origin.{envelope_with}
use Rattle.node_overlay.specs.Overlay.{Overlay, envelope, out_of, overlay_after_call}
use Rattle.node_overlay.specs.Pending.{Pends, after_pending}
use Rattle.node_core.specs.declared.attempt.End.TheVariants.{Count, Overlay as OfOverlay}
use Rattle.node_core.specs.declared.state.Stepped.{Stepped}
use Rattle.node_core.specs.Attempt.{Undoes}
use Rattle.node_core.specs.Node.{IsInLife, NodeParts, with_overlay}
use Rattle.node_core.specs.Draft.{NodeDraft, call_broadcast}
use Rattle.node_core.specs.Rows.{row_of_graft, row_of_ihave, row_of_message}
use Rattle.node_core.specs.Handling.{AttemptsMessage, IsAttemptTo, IsQuestion, carried_key, key_if_fresh}
use Rattle.node_core.specs.Step.{IsStepTo, begun, with_counts, refusal_of_message, reply_of_message}
use Rattle.node_core.proofs.Attempting.{nothing_to_undo, overlay_to_undo}
use Rattle.node_core.proofs.Making.{made}

-- ---- a step in which the broadcast alone was told something, and these bytes are sent

told_step : (call : CastCall) (old inside new : NodeParts) (overlay : Overlay) (done : NodeDraft) (sent : List Envelope) (outbox : Outbox) (stepped : Stepped)
    → inside ≡ old → overlay ≡ overlay_after_call call inside.overlay
    → done ≡ record { parts = with_overlay (overlay_after_call call old.overlay) old; sent = sent }
    → stepped ≡ record { reply = Took; outbox = outbox }
    → outbox ≡ map spelling (frames_from old.node old.frames sent)
    → All HasSpelling (frames_from old.node old.frames sent)
    → new ≡ with_counts (length outbox) (with_overlay overlay inside)
    → IsStepTo old None done Took new stepped
told_step call old inside new overlay done sent outbox stepped same told_is is value sends frames counts =
    let gives : stepped.outbox ≡ outbox = ap (λ (s : Stepped). s.outbox) value in
    let told_old = told_is ∙ ap (λ (s : NodeParts). overlay_after_call call s.overlay) same in
    let mid = ap (with_overlay overlay) same ∙ ap (λ o. with_overlay o old) told_old in
    made old (with_overlay (overlay_after_call call old.overlay) old) new None done Took sent stepped refl is
    (ap (λ (s : Stepped). s.reply) value) (gives ∙ sends) frames
    (counts ∙ ap (λ (sent : List (List ℕ)). with_counts (length sent) (with_overlay overlay inside)) (sym gives)
    ∙ ap (with_counts (length stepped.outbox)) mid)

-- the same of an attempt of it, which is pending
pub told_attempt : (call : CastCall) (old inside : NodeParts) (p : Pending) (overlay : Overlay) (done : NodeDraft) (sent : List Envelope) (outbox : Outbox)
    → inside ≡ old → IsInLife inside → Pends p inside.overlay overlay (overlay_after_call call inside.overlay)
    → done ≡ record { parts = with_overlay (overlay_after_call call old.overlay) old; sent = sent }
    → outbox ≡ map spelling (frames_from old.node old.frames sent)
    → All HasSpelling (frames_from old.node old.frames sent)
    → IsAttemptTo old None done Took None (with_overlay overlay inside) (record { reply = Took; outbox = outbox; end = OfOverlay p })
told_attempt call old inside p overlay done sent outbox same h pends is sends frames = record {
  step = told_step call old inside _ (after_pending p overlay) done sent outbox _ same pends.ends is refl sends frames refl;
  undo = subst (λ o. Undoes o (with_overlay overlay inside) None (OfOverlay p)) same (overlay_to_undo p inside overlay _ h pends h.own_views);
}

-- nothing is sent
pub told_quietly : (call : CastCall) (old inside : NodeParts) (p : Pending) (overlay : Overlay) (done : NodeDraft) (outbox : Outbox)
    → inside ≡ old → IsInLife inside → Pends p inside.overlay overlay (overlay_after_call call inside.overlay)
    → done ≡ record { parts = with_overlay (overlay_after_call call old.overlay) old; sent = [] }
    → outbox ≡ []
    → IsAttemptTo old None done Took None (with_overlay overlay inside) (record { reply = Took; outbox = outbox; end = OfOverlay p })
told_quietly call old inside p overlay done outbox same h pends is nothing =
    told_attempt call old inside p overlay done [] outbox same h pends is nothing (All-nil HasSpelling)

-- ---- PRUNE

pub after_prune : (from : ℕ) (s : NodeParts)
    → call_broadcast (TakesPrune from) (begun s)
    ≡ record { parts = with_overlay (overlay_after_call (TakesPrune from) s.overlay) s; sent = [] }
unfolding cast.on_prune
after_prune from s = refl

-- ---- IHAVE and GRAFT, by whether what came is known here

ihave_where : (from round : ℕ) (key : Key) (vector : List Counter) (s : NodeParts) (stale : Bool)
    → call_broadcast (TakesIHave from round key vector stale) (begun s)
    ≡ record { parts = with_overlay (overlay_after_call (TakesIHave from round key vector stale) s.overlay) s; sent = [] }
unfolding cast.on_ihave
ihave_where from round key vector s true = refl
ihave_where from round key vector s false = refl

pub after_ihave : (from round : ℕ) (key : Key) (vector : List Counter) (s : NodeParts) (stale : Bool)
    → stale ≡ is_stale s.table key vector
    → row_of_ihave from round key vector (begun s)
    ≡ record { parts = with_overlay (overlay_after_call (TakesIHave from round key vector stale) s.overlay) s; sent = [] }
after_ihave from round key vector s stale is =
    ap (λ known. call_broadcast (TakesIHave from round key vector known) (begun s)) (sym is)
    ∙ ihave_where from round key vector s stale

pub after_graft : (from round : ℕ) (key : Key) (vector : List Counter) (s : NodeParts)
    → is_stale s.table key vector ≡ true
    → row_of_graft from round key vector (begun s) ≡ record {
      parts = with_overlay (overlay_after_call (TakesGraft from round key true) s.overlay) s;
      sent = envelope from (Gossip round key (object_at s.table key)) ∷ [];
    }
unfolding cast.on_graft
after_graft from round key vector s held =
    ap (λ known. call_broadcast (TakesGraft from round key known) (begun s)) held

pub after_bare_graft : (from round : ℕ) (key : Key) (vector : List Counter) (s : NodeParts)
    → is_stale s.table key vector ≡ false
    → row_of_graft from round key vector (begun s)
    ≡ record { parts = with_overlay (overlay_after_call (TakesGraft from round key false) s.overlay) s; sent = [] }
unfolding cast.on_graft
after_bare_graft from round key vector s absent =
    ap (λ known. call_broadcast (TakesGraft from round key known) (begun s)) absent

-- a vector that is spelled has read something, which nothing at all doesn't descend
pub not_from_nothing : (vector : List Counter) → IsSpelledVector vector → descends [] vector ≡ true → ⊥
not_from_nothing [] fits known = absurd (omega (arith, (number_within w16 1 65535 0 fits.0).least))
not_from_nothing (c ∷ cs) fits known =
    let least = (number_within w64 1 greatest_count c.count fits.1.1.0.1).least in
    let none = leb-true c.count 0 (first_so (leb c.count 0) (descends [] cs) known) in
    absurd (omega (arith, least, none))

-- so what it is a stale vector under is held
pub held_if_stale : (table : Table) (key : Key) (vector : List Counter) → IsSpelledVector vector
    → is_stale table key vector ≡ true → find key_cmp key table ≡ None → ⊥
held_if_stale table key vector fits stale absent =
    not_from_nothing vector fits (subst (λ (found : Option (List Entry)). descends (join (unwrap_or found [])) vector ≡ true) absent stale)

-- what is sent for a GRAFT of what is held
pub graft_sent : (from round : ℕ) (key : Key) (object : List Entry) (o : Overlay)
    → map (envelope_with object) (out_of (TakesGraft from round key true) o) ≡ envelope from (Gossip round key object) ∷ []
unfolding cast.on_graft
graft_sent from round key object o = refl

-- ---- questions

pub after_question : (from : ℕ) (m : Message) (s : NodeParts) → IsQuestion m
    → row_of_message from 0 m (begun s) ≡ record { parts = s; sent = map (envelope from) (answers_to s.table m) }
after_question from (XRoot root) s is = refl
after_question from (XPrefixes prefixes) s is = refl
after_question from (XInner prefix digests) s is = refl
after_question from (XLeaves prefix inner digests) s is = refl
after_question from (XBucket prefix leaf keys) s is = refl
after_question from (XWant key) s is = refl
after_question from _ s is = absurd is

pub question_accepted : (m : Message) (s : NodeParts) → IsQuestion m → refusal_of_message m s ≡ None
question_accepted (XRoot root) s is = refl
question_accepted (XPrefixes prefixes) s is = refl
question_accepted (XInner prefix digests) s is = refl
question_accepted (XLeaves prefix inner digests) s is = refl
question_accepted (XBucket prefix leaf keys) s is = refl
question_accepted (XWant key) s is = refl
question_accepted _ s is = absurd is

pub question_reply : (m : Message) (s : NodeParts) → IsQuestion m → Took ≡ reply_of_message m s
question_reply (XRoot root) s is = refl
question_reply (XPrefixes prefixes) s is = refl
question_reply (XInner prefix digests) s is = refl
question_reply (XLeaves prefix inner digests) s is = refl
question_reply (XBucket prefix leaf keys) s is = refl
question_reply (XWant key) s is = refl
question_reply _ s is = absurd is

-- a question changes nothing
question_changes : (m : Message) (s : NodeParts) → IsQuestion m → None ≡ key_if_fresh (reply_of_message m s) (carried_key m)
question_changes (XRoot root) s is = refl
question_changes (XPrefixes prefixes) s is = refl
question_changes (XInner prefix digests) s is = refl
question_changes (XLeaves prefix inner digests) s is = refl
question_changes (XBucket prefix leaf keys) s is = refl
question_changes (XWant key) s is = refl
question_changes _ s is = absurd is

pub asked : (from : ℕ) (m : Message) (s : NodeParts) (sent : List Envelope) (outbox : Outbox) → IsInLife s → IsQuestion m
    → sent ≡ map (envelope from) (answers_to s.table m)
    → outbox ≡ map spelling (frames_from s.node s.frames sent)
    → All HasSpelling (frames_from s.node s.frames sent)
    → AttemptsMessage s from 0 m (Ok (record { reply = Took; outbox = outbox; end = Count })) s
asked from m s sent outbox h is sent_is sends frames = record {
  step =
      made s s _ (refusal_of_message m s) (row_of_message from 0 m (begun s)) (reply_of_message m s) sent _
      (question_accepted m s is) (after_question from m s is ∙ ap (λ sent. record { parts = s; sent = sent }) (sym sent_is))
      (question_reply m s is) sends frames refl;
  undo = subst (λ changed. Undoes s s changed Count) (question_changes m s is) (nothing_to_undo s h);
}
