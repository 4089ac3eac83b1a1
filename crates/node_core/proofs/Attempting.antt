-- What an attempt is: the step that it makes if it is committed, and what undoes it.
use Rattle.std.proofs.Common.{◌≡◌, ◌≢◌, ℕ, Bool, true, false, if◌then◌else◌, List, [], nat_lt, slice_index, slice_set, Option, Some, None, IfSome, Result, refl, sym, ap, subst, ◌∙◌}
use Rattle.std.proofs.lemmas.List.Elements.{All-nil}
use Rattle.std.specs.Bool.{passes}
use Rattle.std.specs.FinMap.{find, is_sorted}
use Rattle.meta_types.specs.Name.{Key}
use Rattle.meta_types.specs.Order.{key_cmp}
use Rattle.dvvset.specs.Object.{Entry}
use Rattle.meta_frame.specs.declared.message.Message.{Message}
use Rattle.meta_store.specs.Table.{IsHeld, IsTable, Table, with_former, with_object}
use Rattle.meta_store.proofs.Forgetting.{held_back}
use Rattle.meta_store.proofs.Tables.{found-here}
use Rattle.subscriptions.specs.News.{NewsParts}
use Rattle.subscriptions.specs.Watches.{hearing_count}
use Rattle.peer_lists.specs.Lists.{has}
use Rattle.hyparview.specs.declared.event.ViewEvent.{ViewEvent}
use Rattle.hyparview.specs.declared.event.ViewEvent.TheVariants.{PeerDown, Taken}
use Rattle.hyparview.specs.Lawful.{IsOfViews}
use Rattle.node_events.specs.declared.fault.StepFault.{StepFault}
use Rattle.node_events.specs.declared.outbox.Outbox.{Outbox}
use Rattle.node_events.specs.declared.reply.Reply.{Reply}
use Rattle.node_events.specs.declared.reply.Reply.TheVariants.{Done, Took}
use Rattle.node_overlay.specs.declared.pending.Pending.{Pending}
use Rattle.node_overlay.specs.Ticking.{overlay_after_tick, sent_by_tick}
use Rattle.node_overlay.specs.Outbox.{AreFramesOf, HasSpelling, count_on}
use Rattle.node_overlay.specs.Overlay.{IsOverlay, Overlay, overlay_after_view, sent_by_view}
use Rattle.node_overlay.specs.Pending.{Pends, after_pending}
use Rattle.node_overlay.proofs.Naming.{same_frames}
use Rattle.node_core.specs.declared.attempt.Attempt.{Attempt}
use Rattle.node_core.specs.declared.attempt.End.TheVariants.{Count, Overlay as OfOverlay, Tick, Heard, Change}
use Rattle.node_core.specs.Attempt.{CanEndOverlay, Undoes, overlay_ended, overlay_taken_back}
use Rattle.node_core.specs.Node.{IsInLife, NodeParts, with_overlay}
use Rattle.node_core.specs.Changing.{holding}
use Rattle.node_core.specs.Draft.{NodeDraft, step_views}
use Rattle.node_core.specs.Rows.{drop_neighbour, row_of_hello, row_of_message, tick}
use Rattle.node_core.specs.Handling.{AttemptsMessage, AttemptsTo, IsAttemptTo, IsForeseen, carried_key, key_if_fresh}
use Rattle.node_core.specs.Step.{begun, reply_of_message}
use Rattle.node_core.proofs.Making.{made}
use Rattle.node_core.proofs.Viewing.{came_anew, finished, known_life, ticked, ticked_of_node, views_accepted, views_of_node, views_taken, views_took}

-- ---- nothing is to be undone

pub nothing_to_undo : (s : NodeParts) → IsInLife s → Undoes s s None Count
nothing_to_undo s h = record {
  key = refl;
  back = refl;
  table = refl;
  can_end = record { rest = tt; ended = h; undone = h };
}

-- ---- the overlay was asked something

pub overlay_to_undo : (p : Pending) (old : NodeParts) (overlay after : Overlay) → IsInLife old
    → Pends p old.overlay overlay after → after.views.node ≡ old.node
    → Undoes old (with_overlay overlay old) None (OfOverlay p)
overlay_to_undo p old overlay after h pends own = record {
  key = refl;
  back = ap (λ o. with_overlay o old) pends.back;
  table = refl;
  can_end = record {
    rest = pends.can_end;
    ended = record { own_views = ap (λ (o : Overlay). o.views.node) pends.ends ∙ own; lives = h.lives };
    undone = record { own_views = ap (λ (o : Overlay). o.views.node) pends.back ∙ h.own_views; lives = h.lives };
  };
}

-- the same of a tick, which was foreseen
pub tick_to_undo : (p : Pending) (s : NodeParts) (after : Overlay) → IsInLife s
    → Pends p s.overlay s.overlay after → after.views.node ≡ s.node → Undoes s s None (Tick p)
tick_to_undo p s after h pends own = record {
  key = refl;
  back = ap (λ o. with_overlay o s) pends.back;
  table = refl;
  can_end = record {
    rest = pends.can_end;
    ended = record { own_views = ap (λ (o : Overlay). o.views.node) pends.ends ∙ own; lives = h.lives };
    undone = record { own_views = ap (λ (o : Overlay). o.views.node) pends.back ∙ h.own_views; lives = h.lives };
  };
}

-- ---- an event of the views was foreseen

pub views_foreseen : (p : Pending) (event : ViewEvent) (word : ℕ) (s inside : NodeParts) (outbox : Outbox)
    → inside ≡ s → IsInLife inside → IsOverlay inside.overlay
    → Pends p inside.overlay inside.overlay (overlay_after_view event word inside.overlay)
    → AreFramesOf inside.overlay.views.node inside.frames (sent_by_view event word inside.overlay) outbox
    → IsForeseen s (step_views event word (begun s)) (Some p) outbox
views_foreseen p event word s inside outbox same h lawful pends sends =
    subst (λ (s : NodeParts). IsForeseen s (step_views event word (begun s)) (Some p) outbox) same (record {
      ends = ap (λ o. with_overlay o inside) pends.ends;
      back = pends.back;
      views = ap (λ (o : Overlay). o.views.node) pends.ends ∙ views_of_node event word inside.overlay lawful ∙ h.own_views;
      can_end = pends.can_end;
      frames = same_frames h.own_views refl sends;
    })

pub foreseen_attempt : (p : Pending) (s : NodeParts) (done : NodeDraft) (reply : Reply) (outbox : Outbox) → IsInLife s
    → IsForeseen s done (Some p) outbox
    → IsAttemptTo s None done reply None s (record { reply = reply; outbox = outbox; end = OfOverlay p })
foreseen_attempt p s done reply outbox h is = record {
  step = finished s (with_overlay (after_pending p s.overlay) s) _ None done reply outbox _ refl is.ends is.frames.frames is.frames.lawful refl refl;
  undo = record {
    key = refl;
    back = ap (λ o. with_overlay o s) is.back;
    table = refl;
    can_end = record {
      rest = is.can_end;
      ended = record { own_views = is.views; lives = h.lives };
      undone = record { own_views = ap (λ (o : Overlay). o.views.node) is.back ∙ h.own_views; lives = h.lives };
    };
  };
}

-- ---- a greater life is heard, and the node taken down if it was a neighbour

pub heard_to_undo : (node life : ℕ) (overlay : Option Pending) (s : NodeParts) (done : NodeDraft) (outbox : Outbox)
    → IsInLife s → IsForeseen s done overlay outbox → Undoes s s None (Heard node life overlay)
heard_to_undo node life overlay s done outbox h is = record {
  key = refl;
  back = ap (λ o. with_overlay o s) is.back;
  table = refl;
  can_end = record {
    rest = is.can_end;
    ended = record { own_views = is.views; lives = h.lives };
    undone = record { own_views = ap (λ (o : Overlay). o.views.node) is.back ∙ h.own_views; lives = h.lives };
  };
}

-- the life is no greater than one that was heard
pub hello_known : (from life word : ℕ) (s : NodeParts) (outbox : Outbox) → IsInLife s
    → nat_lt (slice_index s.heard from) life ≡ false → outbox ≡ []
    → IsAttemptTo s None (row_of_hello from life word (begun s)) Took None s (record { reply = Took; outbox = outbox; end = Count })
hello_known from life word s outbox h known none =
    let is = known_life from life word s known in record {
      step = made s s _ None (row_of_hello from life word (begun s)) Took [] _ refl is refl none (All-nil HasSpelling) refl;
      undo = nothing_to_undo s h;
    }

pub hello_heard : (from life word : ℕ) (overlay : Option Pending) (s : NodeParts) (outbox : Outbox) → IsInLife s
    → nat_lt (slice_index s.heard from) life ≡ true → IsForeseen s (drop_neighbour from word (begun s)) overlay outbox
    → IsAttemptTo s None (row_of_hello from life word (begun s)) Took None s (record { reply = Took; outbox = outbox; end = Heard from life overlay })
hello_heard from life word overlay s outbox h older is =
    let dropped = drop_neighbour from word (begun s) in
    let done = row_of_hello from life word (begun s) in
    let done_is = sym (came_anew from life word s older) in
    let mid : record (with_overlay (overlay_ended overlay s.overlay) s) { heard = slice_set s.heard from life } ≡ done.parts =
    ap (λ (t : NodeParts). record t { heard = slice_set t.heard from life }) is.ends ∙ ap (λ (t : NodeDraft). t.parts) done_is in
    let frames = same_frames refl (ap (λ (t : NodeDraft). t.sent) done_is) is.frames in record {
      step = finished s (record (with_overlay (overlay_ended overlay s.overlay) s) { heard = slice_set s.heard from life }) _ None done Took outbox _ refl mid
          frames.frames frames.lawful refl refl;
      undo = heard_to_undo from life overlay s dropped outbox h is;
    }

-- whether the node is a neighbour decides what is foreseen of it
pub not_foreseen : (node word : ℕ) (s : NodeParts) (outbox : Outbox) → IsInLife s → has s.overlay.views.active node ≡ false
    → outbox ≡ [] → IsForeseen s (drop_neighbour node word (begun s)) None outbox
not_foreseen node word s outbox h absent none =
    let done_is : drop_neighbour node word (begun s) ≡ begun s =
    ap (λ (neighbour : Bool). if neighbour then step_views (PeerDown node) word (begun s) else begun s) absent in
    subst (λ done. IsForeseen s done None outbox) (sym done_is) (record {
      ends = refl;
      back = refl;
      views = h.own_views;
      can_end = tt;
      frames = record { frames = none; lawful = All-nil HasSpelling };
    })

pub down_foreseen : (node word : ℕ) (p : Pending) (s : NodeParts) (outbox : Outbox) → has s.overlay.views.active node ≡ true
    → IsForeseen s (step_views (PeerDown node) word (begun s)) (Some p) outbox
    → IsForeseen s (drop_neighbour node word (begun s)) (Some p) outbox
down_foreseen node word p s outbox there is =
    let done_is : drop_neighbour node word (begun s) ≡ step_views (PeerDown node) word (begun s) =
    ap (λ (neighbour : Bool). if neighbour then step_views (PeerDown node) word (begun s) else begun s) there in
    subst (λ done. IsForeseen s done (Some p) outbox) (sym done_is) is

-- ---- a tick was foreseen

pub tick_attempt : (p : Pending) (word ticks : ℕ) (s inside : NodeParts) (outbox : Outbox) → inside ≡ s → IsInLife inside
    → IsOverlay inside.overlay → ticks ≡ count_on inside.ticks 1
    → Pends p inside.overlay inside.overlay (overlay_after_tick ticks word inside.overlay)
    → AreFramesOf inside.overlay.views.node inside.frames (sent_by_tick ticks word inside.overlay) outbox
    → IsAttemptTo s None (tick word (begun s)) Done None s (record { reply = Done; outbox = outbox; end = Tick p })
tick_attempt p word ticks s inside outbox same h lawful counted pends sends =
    let o = inside.overlay in
    let now = count_on inside.ticks 1 in
    let pending = subst (λ t. Pends p o o (overlay_after_tick t word o)) counted pends in
    let done = tick word (begun inside) in
    let done_is = sym (ticked word inside) in
    let mid : record (with_overlay (after_pending p o) inside) { ticks = now } ≡ done.parts =
    ap (λ (after : Overlay). record (with_overlay after inside) { ticks = now }) pending.ends ∙ ap (λ (t : NodeDraft). t.parts) done_is in
    let frames = same_frames h.own_views (ap (λ t. sent_by_tick t word o) counted ∙ ap (λ (t : NodeDraft). t.sent) done_is) sends in
    subst (λ (s : NodeParts). IsAttemptTo s None (tick word (begun s)) Done None s (record { reply = Done; outbox = outbox; end = Tick p })) same (record {
      step = finished inside (record (with_overlay (after_pending p o) inside) { ticks = now }) _ None done Done outbox _ refl mid
          frames.frames frames.lawful refl refl;
      undo = tick_to_undo p inside (overlay_after_tick now word o) h pending (ticked_of_node now word o lawful ∙ h.own_views);
    })

-- ---- a message of the views

pub views_attempted : (from word : ℕ) (message copied : Message) (s : NodeParts) (r : Result Attempt StepFault) → IsOfViews message
    → copied ≡ message → AttemptsTo s None (step_views (Taken from copied) word (begun s)) Took None r s
    → AttemptsMessage s from word message r s
views_attempted from word message copied s r of same h =
    let done : step_views (Taken from copied) word (begun s) ≡ row_of_message from word message (begun s) =
    ap (λ m. step_views (Taken from m) word (begun s)) same ∙ sym (views_taken from word message (begun s) of) in
    let took = sym (views_took message s of) in
    let changed : None ≡ key_if_fresh (reply_of_message message s) (carried_key message) =
    ap (λ reply. key_if_fresh reply (carried_key message)) took in
    let key = key_if_fresh (reply_of_message message s) (carried_key message) in
    subst (λ refusal. AttemptsTo s refusal (row_of_message from word message (begun s)) (reply_of_message message s) key r s)
    (sym (views_accepted message s of))
    (subst (λ done. AttemptsTo s None done (reply_of_message message s) key r s) done
    (subst (λ reply. AttemptsTo s None (step_views (Taken from copied) word (begun s)) reply key r s) took
    (subst (λ key. AttemptsTo s None (step_views (Taken from copied) word (begun s)) Took key r s) changed h)))

-- ---- an object changed

-- the table before a hold comes back
held_again : (table : Table) (key : Key) (object : List Entry) → IsTable table
    → with_former key (find key_cmp key table) (with_object key object table) ≡ table
held_again table key object is = held_back key object table (find key_cmp key table) (passes (is_sorted key_cmp table) is.rising) refl

is_found : (key : Key) (object : List Entry) (table : Table) → find key_cmp key (with_object key object table) ≢ None
is_found key object table none =
    let clash : Some object ≡ None = sym (found-here key object table) ∙ none in
    absurd (cc)

pub change_to_undo : (news : NewsParts) (before : Option (List Entry)) (overlay : Option Pending) (now : Overlay) (object : List Entry)
    (old inside : NodeParts) → inside ≡ old → IsInLife inside → IsTable inside.table
    → before ≡ find key_cmp news.change.key inside.table → IfSome before IsHeld
    → news.notes ≡ hearing_count news.change.key old.watches
    → overlay_taken_back overlay now ≡ inside.overlay → (overlay_ended overlay now).views.node ≡ inside.node → CanEndOverlay overlay now
    → Undoes old (holding news.change.key object (with_overlay now inside)) (Some news.change.key) (Change news before overlay)
change_to_undo news before overlay now object old inside same h table before_is lawful notes back views can_end =
    let key = news.change.key in
    let held : with_former key before (with_object key object inside.table) ≡ inside.table =
    ap (λ found. with_former key found (with_object key object inside.table)) before_is ∙ held_again inside.table key object table in
    subst (λ (o : NodeParts). Undoes o (holding key object (with_overlay now inside)) (Some key) (Change news before overlay)) same (record {
      key = refl;
      back = λ i. record (with_overlay (back i) inside) { table = held i };
      table = refl;
      can_end = record {
        rest = (can_end, is_found key object inside.table, lawful, notes ∙ ap (λ (o : NodeParts). hearing_count key o.watches) (sym same));
        ended = record { own_views = views; lives = h.lives };
        undone = record { own_views = ap (λ (o : Overlay). o.views.node) back ∙ h.own_views; lives = h.lives };
      };
    })
