use Rattle.std.proofs.Common.{◌≡◌, true, false, sym, ap, subst, ◌∙◌, cond}
use Rattle.dvvset.specs.Clock.{join}
use Rattle.past_model.specs.Sets.{union}
use Rattle.past_model.specs.Past.{writes}
use Rattle.past_model.specs.Shown.{IsObjectOf}
use Rattle.meta_store.specs.Table.{object_at, is_stale}
use Rattle.meta_store.specs.Step.{merge_of}
use Rattle.meta_store.proofs.Merging.{where_none, where_some}
use Rattle.meta_store.proofs.Tables.{object_at-here, object_at-elsewhere}
use Rattle.meta_store.proofs.Unions.{fresh_object, stale_object}
use Rattle.meta_store.proofs.store.Store.merge.Goals as goal

pub returns-in_default-clause-union : goal.returns-in_default-clause-union
returns-in_default-clause-union c hs keeps S T is came =
    let known : is_stale c.args.self.now c.args.key (join c.args.object) ≡ true =
    where_none (is_stale c.args.self.now c.args.key (join c.args.object)) (merge_of c.args.self.now c.args.key c.args.object) c.in_ok-merged.field-0 c.in_default.is c.in_ok-merged.ensures.value in
    stale_object hs keeps c.args.key S T (object_at c.args.self.now c.args.key) c.args.object is came known

pub returns-clause-here : goal.returns-clause-here
returns-clause-here c =
    let fresh : (is_stale c.args.self.now c.args.key (join c.args.object) ≡ false) × (c.in-Some.merged ≡ merge_of c.args.self.now c.args.key c.args.object) =
    where_some (is_stale c.args.self.now c.args.key (join c.args.object)) (merge_of c.args.self.now c.args.key c.args.object) c.in-Some.merged c.in_ok-merged.field-0 c.in-Some.is c.in_ok-merged.ensures.value in
    ap (λ table. object_at table c.args.key) c.in_ok-hold.ensures.value
    ∙ object_at-here c.args.key c.in-Some.merged c.args.self.now
    ∙ fresh.1
    ∙ sym (ap (λ b. cond b (object_at c.args.self.now c.args.key) (merge_of c.args.self.now c.args.key c.args.object)) fresh.0)

pub returns-clause-elsewhere : goal.returns-clause-elsewhere
returns-clause-elsewhere c other differs =
    ap (λ table. object_at table other) c.in_ok-hold.ensures.value ∙ object_at-elsewhere c.args.key c.in-Some.merged c.args.self.now other differs

pub returns-clause-union : goal.returns-clause-union
returns-clause-union c hs keeps S T is came =
    let fresh : (is_stale c.args.self.now c.args.key (join c.args.object) ≡ false) × (c.in-Some.merged ≡ merge_of c.args.self.now c.args.key c.args.object) =
    where_some (is_stale c.args.self.now c.args.key (join c.args.object)) (merge_of c.args.self.now c.args.key c.args.object) c.in-Some.merged c.in_ok-merged.field-0 c.in-Some.is c.in_ok-merged.ensures.value in
    let holds : object_at c.hold.new.self c.args.key ≡ merge_of c.args.self.now c.args.key c.args.object =
    ap (λ table. object_at table c.args.key) c.in_ok-hold.ensures.value
    ∙ object_at-here c.args.key c.in-Some.merged c.args.self.now
    ∙ fresh.1 in
    subst (IsObjectOf (writes hs) c.args.key (union S T)) (sym holds) (fresh_object hs keeps c.args.key S T (object_at c.args.self.now c.args.key) c.args.object is came)
