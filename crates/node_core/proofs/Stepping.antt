-- The steps that change an object: what the code did is what the table says.
use Rattle.std.proofs.Common.{Ok, ◌≡◌, ℕ, List, length, Option, None, Some, sym, ap, subst, ◌∙◌}
use Rattle.std.specs.Option.{option_map}
use Rattle.meta_types.specs.Name.{Key}
use Rattle.meta_types.specs.Value.{ValueParts}
use Rattle.dvvset.specs.Object.{Counter, Entry}
use Rattle.dvvset.specs.Clock.{join}
use Rattle.meta_store.specs.Context.{Reading}
use Rattle.meta_store.specs.Table.{Table}
use Rattle.meta_store.specs.Step.{object_after_put, refusal_of_put}
use Rattle.meta_store.proofs.Tables.{object_at-here}
use Rattle.node_events.specs.Fault.{of_store}
use Rattle.node_events.specs.declared.reply.Reply.TheVariants.{Wrote}
use Rattle.node_overlay.specs.declared.origin.Origin.TheVariants as OfOrigin
use Rattle.node_overlay.specs.Outbox.{AreFramesOf}
use Rattle.subscriptions.specs.News.{NewsParts}
use Rattle.node_events.specs.declared.outbox.Outbox.{Outbox}
use Rattle.node_core.specs.declared.attempt.End.{End}
use Rattle.node_core.specs.Attempt.{Undoes, ended}
use Rattle.node_core.specs.Node.{NodeParts, vector_under, writer}
use Rattle.node_core.specs.Draft.{NodeDraft}
use Rattle.node_core.specs.Rows.{write}
use Rattle.node_core.specs.Step.{begun, with_counts, refusal_of_write}
use Rattle.node_core.specs.Changing.{AreNews, change_to, gossips, noting, spreading}
use Rattle.node_core.specs.Handling.{AttemptsWrite}
use Rattle.node_core.proofs.Changing.{changed}
use Rattle.node_core.proofs.Making.{made}

-- ---- a write

after_write : Key → NodeParts → List Entry → NodeDraft
after_write key old entries = record {
  parts = noting (change_to key entries) (spreading OfOrigin.Write key entries old);
  sent = gossips OfOrigin.Write key entries old;
}

wrote : (old new : NodeParts) (key : Key) (value : ValueParts) (context : Option Reading) (entries : List Entry)
    (vector : List Counter) (news : NewsParts) (end : End) (outbox : Outbox)
    → refusal_of_put old.table (writer old) key value context ≡ None
    → entries ≡ object_after_put old.table (writer old) key value context
    → AreNews key entries old news → vector ≡ news.change.vector
    → AreFramesOf old.node old.frames (gossips OfOrigin.Write news.change.key entries old) outbox
    → ended end new ≡ noting news.change (spreading OfOrigin.Write news.change.key entries old)
    → Undoes old new (Some news.change.key) end
    → AttemptsWrite old key value context (Ok (record { reply = Wrote vector; outbox = outbox; end = end })) new
unfolding after_write
wrote old new key value context entries vector news end outbox accepted object_is are vector_is sends ends undoes =
    let done = write key value context (begun old) in
    let mid = noting (change_to key entries) (spreading OfOrigin.Write key entries old) in
    let done_is : done ≡ after_write key old entries =
    changed OfOrigin.Write key (object_after_put old.table (writer old) key value context) old ∙ ap (after_write key old) (sym object_is) in
    let vector_so : vector_under key done.parts ≡ join entries =
    ap (λ (t : NodeDraft). vector_under key t.parts) done_is ∙ ap join (object_at-here key entries old.table) in
    let sent = subst (λ (n : NewsParts). AreFramesOf old.node old.frames (gossips OfOrigin.Write n.change.key entries old) outbox) are sends in
    let then = ends ∙ ap (λ (n : NewsParts). noting n.change (spreading OfOrigin.Write n.change.key entries old)) are in
    record {
      step =
          made old mid _
          (refusal_of_write key value context old) done (Wrote (vector_under key done.parts))
          (gossips OfOrigin.Write key entries old) _
          (ap (option_map of_store) accepted) done_is
          (ap Wrote (vector_is ∙ ap (λ (n : NewsParts). n.change.vector) are ∙ sym vector_so))
          sent.frames sent.lawful (ap (with_counts (length outbox)) then);
      undo = subst (λ changed. Undoes old new changed end) (ap (λ (n : NewsParts). Some n.change.key) are) undoes;
    }

-- the same of what the code read, which is what the node's parts are
pub write_attempted : {old : NodeParts} {store : Table} {id : ℕ} {copied value : ValueParts} (new : NodeParts) (key : Key)
    (context : Option Reading) (entries : List Entry) (vector : List Counter) (news : NewsParts) (end : End) (outbox : Outbox)
    → store ≡ old.table → id ≡ writer old → copied ≡ value
    → refusal_of_put store id key copied context ≡ None
    → entries ≡ object_after_put store id key copied context
    → AreNews key entries old news → vector ≡ news.change.vector
    → AreFramesOf old.node old.frames (gossips OfOrigin.Write news.change.key entries old) outbox
    → ended end new ≡ noting news.change (spreading OfOrigin.Write news.change.key entries old)
    → Undoes old new (Some news.change.key) end
    → AttemptsWrite old key value context (Ok (record { reply = Wrote vector; outbox = outbox; end = end })) new
write_attempted {old = old} {value = value} new key context entries vector news end outbox store_is id_is value_is accepted object_is =
    wrote old new key value context entries vector news end outbox
    ((λ i. refusal_of_put (sym store_is i) (sym id_is i) key (sym value_is i) context) ∙ accepted)
    (object_is ∙ (λ i. object_after_put (store_is i) (id_is i) key (value_is i) context))
