-- An object that came: what the code did is what the table says.
use Rattle.std.proofs.Common.{◌≡◌, ℕ, Bool, true, false, not, cond, List, [], ◌∷◌, map, length, All, Option, Some, None, Result, Ok, Err, ◌⊎◌, inl, inr, refl, sym, ap, subst, ◌∙◌}
use Rattle.std.specs.Option.{option_map}
use Rattle.std.specs.Result.{IsErrAnd}
use Rattle.std.proofs.lemmas.Bool.{cond-false, cond-true}
use Rattle.std.proofs.lemmas.List.Elements.{All-nil}
use Rattle.meta_types.specs.Name.{Key}
use Rattle.dvvset.specs.Object.{Entry}
use Rattle.dvvset.specs.Clock.{join}
use Rattle.meta_frame.specs.declared.message.Message.TheVariants.{Gossip, Prune, XObject}
use Rattle.meta_frame.specs.Frame.{spelling}
use Rattle.meta_store.specs.Table.{Table, is_stale}
use Rattle.meta_store.specs.Step.{merge_of, merged_if_fresh, refusal_of_merge}
use Rattle.meta_store.specs.declared.fault.StoreFault.{StoreFault}
use Rattle.meta_store.specs.declared.fault.StoreFault.TheVariants as OfStore
use Rattle.plumtree.specs.Broadcast.{TakesStale}
use Rattle.plumtree.specs.Rows as cast
use Rattle.node_events.specs.Fault.{of_store}
use Rattle.node_events.specs.declared.outbox.Outbox.{Outbox}
use Rattle.node_events.specs.declared.fault.StepFault.{StepFault}
use Rattle.node_events.specs.declared.fault.StepFault.TheVariants.{Memory}
use Rattle.node_events.specs.declared.reply.Reply.{Reply}
use Rattle.node_events.specs.declared.reply.Reply.TheVariants.{TookFresh, TookStale}
use Rattle.node_overlay.specs.declared.origin.Origin.TheVariants as OfOrigin
use Rattle.node_overlay.specs.declared.pending.Pending.{Pending}
use Rattle.node_overlay.specs.Outbox.{AreFramesOf, HasSpelling, frames_from}
use Rattle.node_overlay.specs.Origin.{whole_messages}
use Rattle.node_overlay.specs.Overlay.{Overlay, envelope, out_of, overlay_after_call}
use Rattle.node_overlay.specs.Pending.{Pends, after_pending}
use Rattle.node_core.specs.declared.attempt.Attempt.{Attempt}
use Rattle.node_core.specs.declared.attempt.End.{End}
use Rattle.node_core.specs.declared.attempt.End.TheVariants.{Overlay as OfOverlay}
use Rattle.node_core.specs.Attempt.{Undoes, ended}
use Rattle.node_core.specs.Node.{IsInLife, NodeParts, with_overlay}
use Rattle.node_core.specs.Draft.{NodeDraft}
use Rattle.node_core.specs.Rows.{is_fresh, merge, row_of_gossip}
use Rattle.node_core.specs.Handling.{AttemptsMessage, AttemptsTo, key_if_fresh}
use Rattle.node_core.specs.Step.{begun, with_counts, refusal_of_object, reply_of_object}
use Rattle.subscriptions.specs.News.{NewsParts}
use Rattle.node_core.specs.Changing.{AreNews, change_to, gossips, holding, noting, spreading}
use Rattle.node_core.proofs.Attempting.{overlay_to_undo}
use Rattle.node_core.proofs.Changing.{fresh_gossip, fresh_object, stale_gossip}
use Rattle.node_core.proofs.Making.{made}

-- ---- what a store foresees of what is fresh, and of what is stale

record IsMerge (table : Table) (key : Key) (came object : List Entry) : Type 0 where
  fresh : is_stale table key (join came) ≡ false
  merged : object ≡ merge_of table key came

merge_where : (stale : Bool) (object merged : List Entry) → Some object ≡ cond stale None (Some merged)
    → (stale ≡ false) × (object ≡ merged)
merge_where true object merged is = cc
merge_where false object merged is = (refl, cc)

merge_if_some : (table : Table) (key : Key) (came object : List Entry)
    → Some object ≡ merged_if_fresh table key came → IsMerge table key came object
merge_if_some table key came object is =
    let parts = merge_where (is_stale table key (join came)) object (merge_of table key came) is in
    record { fresh = parts.0; merged = parts.1 }

fresh_so : (key : Key) (came : List Entry) (s : NodeParts) → is_stale s.table key (join came) ≡ false
    → is_fresh key came s ≡ true
fresh_so key came s fresh = ap not fresh

stale_so : (key : Key) (came : List Entry) (s : NodeParts) → is_stale s.table key (join came) ≡ true
    → is_fresh key came s ≡ false
stale_so key came s stale = ap not stale

-- ---- what a store refuses is refused

refused_so : (fault : StoreFault) (gave : StepFault) (refusal : Option StoreFault) → gave ≡ of_store fault
    → (fault ≡ OfStore.Memory) ⊎ (refusal ≡ Some fault)
    → (gave ≡ Memory) ⊎ (option_map of_store refusal ≡ Some gave)
refused_so fault gave refusal is (inl memory) = inl (is ∙ ap of_store memory)
refused_so fault gave refusal is (inr refused) = inr (ap (option_map of_store) refused ∙ ap (λ f. Some f) (sym is))

pub merge_refused : {store : Table} (r : Result Attempt StepFault) (old new : NodeParts) (key : Key) (came : List Entry)
    (fault : StoreFault) (done : NodeDraft) (reply : Reply) (changed : Option Key) → new ≡ old → store ≡ old.table
    → (fault ≡ OfStore.Memory) ⊎ (refusal_of_merge store key came ≡ Some fault)
    → IsErrAnd r (λ gave. gave ≡ of_store fault)
    → AttemptsTo old (refusal_of_object key came old) done reply changed r new
merge_refused (Ok a) old new key came fault done reply changed same store_is cause gives = absurd gives
merge_refused {store = store} (Err gave) old new key came fault done reply changed same store_is cause gives = (
  refused_so fault gave (refusal_of_merge old.table key came) gives
      (subst (λ (table : Table). (fault ≡ OfStore.Memory) ⊎ (refusal_of_merge table key came ≡ Some fault)) store_is cause),
  same,
)

-- ---- what is stale isn't refused

accepted_if_stale : (old : NodeParts) (key : Key) (came : List Entry) → is_stale old.table key (join came) ≡ true
    → refusal_of_object key came old ≡ None
accepted_if_stale old key came stale =
    ap (option_map of_store) (cond-true (is_stale old.table key (join came)) None _ stale)

fresh_reply : (old : NodeParts) (key : Key) (came : List Entry) → is_fresh key came old ≡ true
    → reply_of_object key came old ≡ TookFresh
fresh_reply old key came fresh = cond-true (is_fresh key came old) TookFresh TookStale fresh

stale_reply : (old : NodeParts) (key : Key) (came : List Entry) → is_fresh key came old ≡ false
    → reply_of_object key came old ≡ TookStale
stale_reply old key came stale = cond-false (is_fresh key came old) TookFresh TookStale stale

-- an object that came fresh changes what is held under its key, and a stale one nothing
fresh_changes : (old : NodeParts) (key : Key) (came : List Entry) → is_fresh key came old ≡ true
    → Some key ≡ key_if_fresh (reply_of_object key came old) (Some key)
fresh_changes old key came fresh =
    sym (ap (λ reply. key_if_fresh reply (Some key)) (fresh_reply old key came fresh))

stale_changes : (old : NodeParts) (key : Key) (came : List Entry) → is_fresh key came old ≡ false
    → None ≡ key_if_fresh (reply_of_object key came old) (Some key)
stale_changes old key came stale =
    sym (ap (λ reply. key_if_fresh reply (Some key)) (stale_reply old key came stale))

-- ---- GOSSIP

pub stale_taken : (from round : ℕ) (key : Key) (came : List Entry) (old inside : NodeParts) (p : Pending) (overlay : Overlay) (outbox : Outbox)
    → inside ≡ old → IsInLife inside
    → Pends p inside.overlay overlay (overlay_after_call (TakesStale from) inside.overlay)
    → is_stale old.table key (join came) ≡ true
    → outbox ≡ map spelling (frames_from old.node old.frames (envelope from Prune ∷ []))
    → All HasSpelling (frames_from old.node old.frames (envelope from Prune ∷ []))
    → AttemptsMessage old from 0 (Gossip round key came) (Ok (record { reply = TookStale; outbox = outbox; end = OfOverlay p })) (with_overlay overlay inside)
stale_taken from round key came old inside p overlay outbox same h pends stale sends frames =
    let after = with_overlay (overlay_after_call (TakesStale from) old.overlay) old in
    let known = stale_so key came old stale in
    let then : with_overlay (after_pending p overlay) inside ≡ after =
    ap (λ o. with_overlay o inside) pends.ends ∙ (λ i. with_overlay (overlay_after_call (TakesStale from) (same i).overlay) (same i)) in
    record {
      step =
          made old after _ (refusal_of_object key came old) (row_of_gossip from round key came (begun old))
          (reply_of_object key came old) (envelope from Prune ∷ []) _
          (accepted_if_stale old key came stale) (stale_gossip from round key came old known)
          (sym (stale_reply old key came known)) sends frames (ap (with_counts (length outbox)) then);
      undo = subst (λ changed. Undoes old (with_overlay overlay inside) changed (OfOverlay p)) (stale_changes old key came known)
          (subst (λ o. Undoes o (with_overlay overlay inside) None (OfOverlay p)) same (overlay_to_undo p inside overlay _ h pends h.own_views));
    }

-- what is sent then
pub prune_sent : (from : ℕ) (o : Overlay) → whole_messages (out_of (TakesStale from) o) ≡ envelope from Prune ∷ []
unfolding cast.on_stale
prune_sent from o = refl

pub fresh_taken : {store : Table} (from round : ℕ) (key : Key) (came entries : List Entry) (old new : NodeParts) (news : NewsParts)
    (end : End) (outbox : Outbox) → store ≡ old.table
    → Some entries ≡ merged_if_fresh store key came → refusal_of_merge store key came ≡ None
    → AreNews key entries old news
    → AreFramesOf old.node old.frames (gossips (OfOrigin.Gossip from round) news.change.key entries old) outbox
    → ended end new ≡ noting news.change (spreading (OfOrigin.Gossip from round) news.change.key entries old)
    → Undoes old new (Some news.change.key) end
    → AttemptsMessage old from 0 (Gossip round key came) (Ok (record { reply = TookFresh; outbox = outbox; end = end })) new
fresh_taken from round key came entries old new news end outbox store_is merged accepted are sends ends undoes =
    let origin = OfOrigin.Gossip from round in
    let foreseen = merge_if_some old.table key came entries (merged ∙ ap (λ table. merged_if_fresh table key came) store_is) in
    let fresh = fresh_so key came old foreseen.fresh in
    let after = λ (entries : List Entry). let draft : NodeDraft = record {
      parts = noting (change_to key entries) (spreading origin key entries old);
      sent = gossips origin key entries old;
    } in draft in
    let sent = subst (λ (n : NewsParts). AreFramesOf old.node old.frames (gossips origin n.change.key entries old) outbox) are sends in
    let then = ends ∙ ap (λ (n : NewsParts). noting n.change (spreading origin n.change.key entries old)) are in
    record {
      step =
          made old (noting (change_to key entries) (spreading origin key entries old)) _
          (refusal_of_object key came old) (row_of_gossip from round key came (begun old)) (reply_of_object key came old)
          (gossips origin key entries old) _
          (ap (λ table. option_map of_store (refusal_of_merge table key came)) (sym store_is) ∙ ap (option_map of_store) accepted)
          (fresh_gossip from round key came old fresh ∙ ap after (sym foreseen.merged))
          (sym (fresh_reply old key came fresh)) sent.frames sent.lawful (ap (with_counts (length outbox)) then);
      undo = subst (λ changed. Undoes old new changed end) (ap (λ (n : NewsParts). Some n.change.key) are ∙ fresh_changes old key came fresh) undoes;
    }

-- ---- XOBJECT

pub fresh_kept : {store : Table} (key : Key) (came entries : List Entry) (old new : NodeParts) (news : NewsParts)
    (end : End) (outbox : Outbox) → store ≡ old.table
    → Some entries ≡ merged_if_fresh store key came → refusal_of_merge store key came ≡ None
    → AreNews key entries old news → outbox ≡ []
    → ended end new ≡ noting news.change (holding news.change.key entries old)
    → Undoes old new (Some news.change.key) end
    → AttemptsMessage old 0 0 (XObject key came) (Ok (record { reply = TookFresh; outbox = outbox; end = end })) new
fresh_kept key came entries old new news end outbox store_is merged accepted are none ends undoes =
    let foreseen = merge_if_some old.table key came entries (merged ∙ ap (λ table. merged_if_fresh table key came) store_is) in
    let fresh = fresh_so key came old foreseen.fresh in
    let after = λ (entries : List Entry). let draft : NodeDraft = record {
      parts = noting (change_to key entries) (holding key entries old);
      sent = [];
    } in draft in
    let then = ends ∙ ap (λ (n : NewsParts). noting n.change (holding n.change.key entries old)) are in
    record {
      step =
          made old (noting (change_to key entries) (holding key entries old)) _
          (refusal_of_object key came old) (merge key came (begun old)) (reply_of_object key came old) [] _
          (ap (λ table. option_map of_store (refusal_of_merge table key came)) (sym store_is) ∙ ap (option_map of_store) accepted)
          (fresh_object key came old fresh ∙ ap after (sym foreseen.merged))
          (sym (fresh_reply old key came fresh)) none (All-nil HasSpelling) (ap (with_counts (length outbox)) then);
      undo = subst (λ changed. Undoes old new changed end) (ap (λ (n : NewsParts). Some n.change.key) are ∙ fresh_changes old key came fresh) undoes;
    }
