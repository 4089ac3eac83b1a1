-- A change of an object, in the order of the code, is the change of the table.
use Rattle.std.proofs.Common.{◌≡◌, ℕ, Bool, true, false, if◌then◌else◌, List, [], ◌∷◌, map, refl, ap, ◌∙◌}
use Rattle.meta_types.specs.Name.{Key}
use Rattle.dvvset.specs.Object.{Entry, Counter}
use Rattle.dvvset.specs.Clock.{join}
use Rattle.meta_frame.specs.declared.message.Message.TheVariants.{Prune}
use Rattle.meta_store.specs.Table.{Table, object_at, with_object}
use Rattle.meta_store.specs.Step.{merge_of}
use Rattle.meta_store.proofs.Tables.{object_at-here}
use Rattle.plumtree.specs.declared.entry.CastOut.TheVariants as OfCast
use Rattle.plumtree.specs.Broadcast.{Changes, TakesStale, gossip_call}
use Rattle.plumtree.specs.Rows.{on_broadcast, on_change, on_fresh, on_stale}
use Rattle.subscriptions.specs.Watching.{with_change}
use Rattle.node_overlay.specs.declared.origin.Origin.{Origin}
use Rattle.node_overlay.specs.declared.origin.Origin.TheVariants.{Write, Gossip}
use Rattle.node_overlay.specs.Origin.{call_of, envelope_with}
use Rattle.node_overlay.specs.Overlay.{envelope, overlay_after_call}
use Rattle.node_core.specs.Node.{NodeParts, vector_under, with_overlay}
use Rattle.node_core.specs.Draft.{NodeDraft, call_broadcast, change, envelope_of}
use Rattle.node_core.specs.Rows.{is_fresh, merge, row_of_gossip}
use Rattle.node_core.specs.Step.{begun}
use Rattle.node_core.specs.Changing.{change_to, gossips, holding, noting, spreading}

carried : (t : Table) (key : Key) (object : List Entry) (round : ℕ) (peers : List ℕ) → object_at t key ≡ object
    → map (envelope_of t) (map (λ to. OfCast.Gossip to round key) peers)
    ≡ map (envelope_with object) (map (λ to. OfCast.Gossip to round key) peers)
carried t key object round [] held = refl
carried t key object round (peer ∷ peers) held = λ i.
    envelope_with (held i) (OfCast.Gossip peer round key) ∷ carried t key object round peers held i

-- the node after a change that is told with this vector, and then its peers
then_told : Origin → Key → List Entry → NodeParts → List Counter → NodeDraft
then_told origin key object s vector =
    let t = with_object key object s.table in
    call_broadcast (call_of origin key vector) (record {
      parts = record s {
        table = t;
        watches = map (with_change (record { key = key; vector = vector })) s.watches;
        overlay = overlay_after_call (Changes key vector) s.overlay;
      };
      sent = [];
    })

after_spreading : Origin → Key → List Entry → NodeParts → NodeDraft
after_spreading origin key object s = record {
  parts = noting (change_to key object) (spreading origin key object s);
  sent = gossips origin key object s;
}

told_so : (origin : Origin) (key : Key) (object : List Entry) (s : NodeParts)
    → then_told origin key object s (join object) ≡ after_spreading origin key object s
unfolding then_told after_spreading on_change on_broadcast on_fresh
told_so Write key object s =
    ap (λ sent. record { parts = noting (change_to key object) (spreading Write key object s); sent = sent })
    (carried (with_object key object s.table) key object 0 s.overlay.cast.eager (object_at-here key object s.table))
told_so (Gossip from round) key object s =
    ap (λ sent. record { parts = noting (change_to key object) (spreading (Gossip from round) key object s); sent = sent })
    (carried (with_object key object s.table) key object _ _ (object_at-here key object s.table))

pub changed : (origin : Origin) (key : Key) (object : List Entry) (s : NodeParts)
    → let new = change key object (begun s) in
    call_broadcast (call_of origin key (vector_under key new.parts)) new ≡ record {
      parts = noting (change_to key object) (spreading origin key object s);
      sent = gossips origin key object s;
    }
unfolding then_told after_spreading on_change
changed origin key object s =
    ap (then_told origin key object s) (ap join (object_at-here key object s.table)) ∙ told_so origin key object s

pub changed_quietly : (key : Key) (object : List Entry) (s : NodeParts)
    → change key object (begun s) ≡ record { parts = noting (change_to key object) (holding key object s); sent = [] }
unfolding on_change
changed_quietly key object s =
    ap (λ vector. record {
      parts = noting (record { key = key; vector = vector }) (holding key object s);
      sent = [];
    }) (ap join (object_at-here key object s.table))

-- ---- an object that came

merged_where : Key → List Entry → NodeParts → Bool → NodeDraft
merged_where key came s fresh = if fresh then change key (merge_of s.table key came) (begun s) else begun s

gossip_where : ℕ → ℕ → Key → List Entry → NodeParts → Bool → NodeDraft
gossip_where from round key came s fresh =
    let merged = merged_where key came s fresh in
    call_broadcast (gossip_call from round key (vector_under key merged.parts) fresh) merged

pub fresh_gossip : (from round : ℕ) (key : Key) (came : List Entry) (s : NodeParts) → is_fresh key came s ≡ true
    → row_of_gossip from round key came (begun s) ≡ record {
      parts = noting (change_to key (merge_of s.table key came)) (spreading (Gossip from round) key (merge_of s.table key came) s);
      sent = gossips (Gossip from round) key (merge_of s.table key came) s;
    }
unfolding gossip_where merged_where
fresh_gossip from round key came s fresh =
    ap (gossip_where from round key came s) fresh ∙ changed (Gossip from round) key (merge_of s.table key came) s

pub stale_gossip : (from round : ℕ) (key : Key) (came : List Entry) (s : NodeParts) → is_fresh key came s ≡ false
    → row_of_gossip from round key came (begun s) ≡ record {
      parts = with_overlay (overlay_after_call (TakesStale from) s.overlay) s;
      sent = envelope from Prune ∷ [];
    }
unfolding gossip_where merged_where on_stale
stale_gossip from round key came s stale = ap (gossip_where from round key came s) stale

pub fresh_object : (key : Key) (came : List Entry) (s : NodeParts) → is_fresh key came s ≡ true
    → merge key came (begun s) ≡ record {
      parts = noting (change_to key (merge_of s.table key came)) (holding key (merge_of s.table key came) s);
      sent = [];
    }
unfolding merged_where
fresh_object key came s fresh =
    ap (merged_where key came s) fresh ∙ changed_quietly key (merge_of s.table key came) s
