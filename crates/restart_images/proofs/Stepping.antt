-- A node after a step can be restored, as it could before; and so it can after a restart.
use Rattle.std.proofs.Common.{◌≡◌, ◌≢◌, ℕ, ◌+◌, ◌<◌, ◌≤◌, List, [], ◌∷◌, ◌++◌, length, Option, Some, None, sym, ap, subst, ◌∙◌}
use Rattle.std.specs.Option.{option_map}
use Rattle.meta_types.specs.Name.{Key}
use Rattle.dvvset.specs.Object.{Entry}
use Rattle.meta_store.specs.Table.{Table, IsTable, object_at, with_object}
use Rattle.node_events.specs.Event.{stored_key}
use Rattle.node_events.specs.declared.event.NodeEvent.{NodeEvent}
use Rattle.node_events.specs.declared.event.NodeEvent.TheVariants.{Write, PutOver, Take}
use Rattle.node_core.specs.declared.state.Stepped.{Stepped}
use Rattle.node_core.specs.Leaving.{LeavesHeld, StepLeaves, carried_object, with_carried}
use Rattle.node_core.specs.Node.{NodeParts, opening}
use Rattle.restart_images.specs.Images.{holdings}
use Rattle.restart_images.specs.Keeping.{IsRestorable, change_at, most_incarnation}
use Rattle.restart_images.specs.Node.{ImagedNode, arrived, images_with, keeping, standing_with, with_images}
use Rattle.restart_images.proofs.Noding.{held_at, is_node-image, is_node-restart, is_node-table, merge_grows, put_grows}

-- ---- what is held never loses a key in a step

carried_grows : (old : Table) (came : Option (Key × List Entry)) (new : Table) → IsTable new → new ≡ with_carried came old
    → (k : Key) → object_at old k ≢ [] → object_at new k ≢ []
carried_grows old None new is e k some = subst (λ t. object_at t k ≢ []) (sym e) some
carried_grows old (Some came) new is e k some =
    subst (λ t. object_at t k ≢ []) (sym e) (merge_grows old came.0 came.1 (subst IsTable e is) k some)

written_grows : (old new : Table) (key : Key) (o : List Entry) → IsTable new → new ≡ with_object key o old
    → (k : Key) → object_at old k ≢ [] → object_at new k ≢ []
written_grows old new key o is e k some =
    subst (λ t. object_at t k ≢ []) (sym e) (put_grows old key o (held_at old key o (subst IsTable e is)) k some)

grows : (old : NodeParts) (event : NodeEvent) (new : Table) → IsTable new → LeavesHeld old event new
    → (k : Key) → object_at old.table k ≢ [] → object_at new k ≢ []
grows old (Write key value context) new is held k some = written_grows old.table new key _ is held k some
grows old (PutOver key value) new is held k some = written_grows old.table new key _ is held k some
grows old (Take bytes word) new is held k some =
    carried_grows old.table (carried_object held.frame.message) new is held.merged k some
grows old event new is held k some = subst (λ t. object_at t k ≢ []) (sym held) some

-- ---- the images

restorable_at : (old : ImagedNode) (state : NodeParts) (key : Option Key) → IsRestorable (keeping old) → IsTable state.table
    → ((k : Key) → object_at old.state.table k ≢ [] → object_at state.table k ≢ []) → state.incarnation ≡ old.state.incarnation
    → IsRestorable (keeping (arrived state key old))
restorable_at old state None is is_table more life =
    subst (λ n. IsRestorable (record { table = state.table; images = old.images; standing = old.standing; incarnation = n })) (sym life)
    (is_node-table (keeping old) state.table is more)
restorable_at old state (Some key) is is_table more life =
    subst (λ n. IsRestorable (record {
      table = state.table;
      images = old.images ++ (record { base = old.standing; change = change_at state.table key }) ∷ [];
      standing = length old.images + 1;
      incarnation = n;
    })) (sym life)
    (is_node-image (keeping old) state.table key is is_table more)

pub step_restorable : (old : ImagedNode) (event : NodeEvent) (state : NodeParts) (s : Stepped) → IsRestorable (keeping old)
    → IsTable state.table → StepLeaves old.state event state s → IsRestorable (keeping (arrived state (stored_key event) old))
step_restorable old event state s is is_table leaves =
    restorable_at old state (stored_key event) is is_table (grows old.state event state.table is_table leaves.held) leaves.life

-- ---- what the code left

-- the node that the code left, by what it did to the images
pub left_is : (old new : ImagedNode) (event : NodeEvent) (change : Option (Option (Key × List Entry)))
    → change ≡ option_map (change_at new.state.table) (stored_key event)
    → new.images ≡ images_with change old.standing old.images → new.standing ≡ standing_with change old.standing old.images
    → new ≡ arrived new.state (stored_key event) old
left_is old new event change left images standing = λ i.
    with_images new.state ((images ∙ ap (λ c. images_with c old.standing old.images) left) i)
    ((standing ∙ ap (λ c. standing_with c old.standing old.images) left) i)

pub left_restorable : (old new : ImagedNode) (event : NodeEvent) (s : Stepped) (change : Option (Option (Key × List Entry)))
    → IsRestorable (keeping old) → IsTable new.state.table → StepLeaves old.state event new.state s
    → change ≡ option_map (change_at new.state.table) (stored_key event)
    → new.images ≡ images_with change old.standing old.images → new.standing ≡ standing_with change old.standing old.images
    → IsRestorable (keeping new)
left_restorable old new event s change is is_table leaves left images standing =
    subst (λ n. IsRestorable (keeping n)) (sym (left_is old new event change left images standing))
    (step_restorable old event new.state s is is_table leaves)

-- ---- a restart

pub restart_restorable : (old : ImagedNode) (number : ℕ) (table : Table) (state : NodeParts) → IsRestorable (keeping old) → number ≤ length old.images
    → old.state.incarnation < most_incarnation → ((k : Key) → object_at table k ≡ holdings old.images number k)
    → state ≡ opening old.state.node (old.state.incarnation + 1) table → IsRestorable (keeping (with_images state old.images number))
restart_restorable old number table state is low left same e =
    subst (λ s. IsRestorable (keeping (with_images s old.images number))) (sym e) (is_node-restart (keeping old) table number is low left same)
