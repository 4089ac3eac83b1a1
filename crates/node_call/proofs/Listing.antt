-- What a step published makes of the list, and of what the list makes of the opening table.
use Rattle.std.proofs.Common.{◌≡◌, ◌≢◌, ℕ, List, [], ◌∷◌, ◌++◌, Option, Some, None, IfSome, true, cond, refl, sym, ap, subst, ◌∙◌}
use Rattle.std.specs.FinMap.{find}
use Rattle.std.specs.Cmp.{tied_itself}
use Rattle.std.specs.Option.{unwrap_or}
use Rattle.std.specs.Ordering.{is_eq}
use Rattle.std.specs.FinMap.Entries.{find-put}
use Rattle.std.proofs.lemmas.List.{append-nil}
use Rattle.std.proofs.lemmas.List.Sums.{fold_push}
use Rattle.meta_types.specs.Name.{Key}
use Rattle.meta_types.specs.Order.{key_cmp}
use Rattle.meta_types.specs.Value.{ValueParts}
use Rattle.dvvset.specs.Clock.{descends, join}
use Rattle.dvvset.specs.Object.{Entry as Cell}
use Rattle.meta_store.specs.Table.{IsTable, Table, object_at, with_object}
use Rattle.meta_store.proofs.Keys.{key_total}
use Rattle.node_events.specs.declared.event.NodeEvent.{NodeEvent}
use Rattle.node_events.specs.declared.event.NodeEvent.TheVariants.{Write, PutOver}
use Rattle.node_events.specs.declared.reply.Reply.{Reply}
use Rattle.node_events.specs.declared.reply.Reply.TheVariants.{Wrote}
use Rattle.node_core.specs.Growing.{ChangesUnder, Descends, IsKeyChanged, TellsKeyChanged, TellsOf, TellsWrite, newest}
use Rattle.node_readers.specs.Published.{Published, with_all, with_published}
use Rattle.node_readers.proofs.Beginnings.{prefix_trans}
use Rattle.node_readers.specs.Growth.{GrowsBy}
use Rattle.node_call.specs.Acknowledged.{LearntCallsAreKnown, LearntWritesAreKnown}
use Rattle.node_call.specs.Journaled.{EndsWith, EndsWithWrite, IsPublishedBy}
use Rattle.node_call.specs.Ready.{HoldsChanged, IsHeldUnder, listed}

-- the change put into the old table gives the new one
pub put_in : (event : NodeEvent) (reply : Reply) (old new : Table) (change : Published)
    → ChangesUnder event reply old new → IsKeyChanged event reply change.key
    → change.object ≡ object_at new change.key → with_published old change ≡ new
put_in event reply old new change under changed object =
    ap (λ o. with_object change.key o old) object ∙ sym (under.there change.key changed)

pub list_on : (opening : Table) (list : List Published) (event : NodeEvent) (reply : Reply)
    (old new : Table) (changes : List Published) → with_all opening list ≡ old
    → ChangesUnder event reply old new → IsPublishedBy event reply new changes
    → with_all opening (list ++ changes) ≡ new
list_on opening list event reply old new [] is under none =
    ap (with_all opening) (append-nil list) ∙ (is ∙ sym (under.nowhere none))
list_on opening list event reply old new (c ∷ []) is under published =
    fold_push with_published opening list c
    ∙ (ap (λ t. with_published t c) is
    ∙ put_in event reply old new c under published.0 published.1)
list_on opening list event reply old new (c ∷ d ∷ more) is under published = absurd published

-- the list ends with what a write published
ends_with : (w : ℕ) (key : Key) (value : ValueParts) (event : NodeEvent) (reply : Reply) (new : Table)
    (list changes : List Published)
    → ((other : Key) → IsKeyChanged event reply other → other ≡ key)
    → IsKeyChanged event reply key → TellsWrite w key value reply new
    → IsPublishedBy event reply new changes → EndsWith w key value reply (list ++ changes)
ends_with w key value event reply new list [] one is tells none = absurd (none key is)
ends_with w key value event reply new list (c ∷ []) one is tells published =
    let under = one c.key published.0 in
    let object : object_at new key ≡ c.object = ap (object_at new) (sym under) ∙ sym published.1 in record {
      before = list;
      change = c;
      last = refl;
      under = under;
      vector = tells.vector ∙ ap (λ o. Wrote (join o)) object;
      newest = ap (newest w) (sym object) ∙ tells.newest;
    }
ends_with w key value event reply new list (c ∷ d ∷ more) one is tells published = absurd published

pub ends_on : (w : ℕ) (event : NodeEvent) (reply : Reply) (new : Table) (list changes : List Published)
    → TellsOf w event reply new → IsPublishedBy event reply new changes
    → EndsWithWrite w event reply (list ++ changes)
ends_on w (Write key value context) reply new list changes tells published =
    ends_with w key value (Write key value context) reply new list changes (λ other is. is) refl tells published
ends_on w (PutOver key value) reply new list changes tells published =
    ends_with w key value (PutOver key value) reply new list changes (λ other is. is) refl tells published
ends_on w _ reply new list changes tells published = tt

found_put : (key : Key) (object : List Cell) (table : Table)
    → find key_cmp key (with_object key object table) ≡ Some object
found_put key object table =
    find-put key_cmp key_total key key object table
    ∙ ap (λ c. cond (is_eq c) (Some object) (find key_cmp key table)) (tied_itself key_total key)

-- a list that ends with the object of a write leaves that object under its key
ends_there : (w : ℕ) (key : Key) (value : ValueParts) (reply : Reply) (opening : Table)
    (list : List Published) (e : EndsWith w key value reply list)
    → object_at (with_all opening list) key ≡ e.change.object
ends_there w key value reply opening list e =
    ap (λ l. object_at (with_all opening l) key) e.last
    ∙ (ap (λ t. object_at t key) (fold_push with_published opening e.before e.change)
    ∙ (ap (object_at (with_published (with_all opening e.before) e.change)) (sym e.under)
    ∙ ap (λ found. unwrap_or found []) (found_put e.change.key e.change.object (with_all opening e.before))))

pub learnt_is_known : LearntWritesAreKnown
learnt_is_known w key value answered vector opening list learnt shown e first later each =
    let is : answered ≡ join e.change.object = cc (e.vector) in
    subst (λ v. descends vector v ≡ true)
    (ap join (ends_there w key value (Wrote answered) opening list e) ∙ sym is)
    (each list (prefix_trans list learnt shown first later))

pub call_is_known : LearntCallsAreKnown
call_is_known key vector opening held list learnt shown makes first later each =
    subst (λ (t : Table). descends vector (join (object_at t key)) ≡ true) makes
    (each list (prefix_trans list learnt shown first later))

-- what the step changed is held
pub holds_changed : (event : NodeEvent) (reply : Reply) (old new : Table)
    → ChangesUnder event reply old new → (key : Key) → IsKeyChanged event reply key
    → find key_cmp key new ≢ None
holds_changed event reply old new under key changed none =
    let object = object_at new key in
    let found : find key_cmp key new ≡ Some object =
    ap (find key_cmp key) (under.there key changed) ∙ found_put key object old in
    let clash : Some object ≡ None = sym found ∙ none in
    absurd (cc)

-- the key that is told is held
pub is_held : (event : NodeEvent) (reply : Reply) (held : Table) (key : Option Key)
    → TellsKeyChanged event reply key → HoldsChanged event reply held
    → IfSome key (λ k. find key_cmp k held ≢ None)
is_held event reply held None told holds = tt
is_held event reply held (Some key) told holds = holds key told

-- what is held under the key that is told is what is published
pub published_under : (event : NodeEvent) (reply : Reply) (held : Table) (key : Option Key)
    (change : Option Published) → TellsKeyChanged event reply key → IsHeldUnder key held change
    → IsPublishedBy event reply held (listed change)
published_under event reply held None None told is = told
published_under event reply held None (Some change) told is = absurd (cc)
published_under event reply held (Some key) None told is = absurd is
published_under event reply held (Some key) (Some change) told is =
    (subst (IsKeyChanged event reply) (sym is.0) told, is.1 ∙ ap (object_at held) (sym is.0))

-- what is published makes a table that only grew
pub grows_by : (opening : Table) (list : List Published) (event : NodeEvent) (reply : Reply)
    (old new : Table) (change : Option Published) → with_all opening list ≡ old
    → ChangesUnder event reply old new → IsTable new → Descends old new
    → IsPublishedBy event reply new (listed change)
    → IfSome change (GrowsBy (with_all opening list))
grows_by opening list event reply old new None is under lawful descends published = tt
grows_by opening list event reply old new (Some c) is under lawful descends published =
    let after : with_published (with_all opening list) c ≡ new =
    ap (λ t. with_published t c) is ∙ put_in event reply old new c under published.0 published.1 in record {
      is_table = subst IsTable (sym after) lawful;
      descends = subst (λ t. Descends t (with_published (with_all opening list) c)) (sym is) (subst (Descends old) (sym after) descends);
    }
