use Rattle.std.proofs.Common.{◌≡◌, false, ap, ◌∙◌}
use Rattle.std.specs.Option.{option_copied}
use Rattle.meta_store.specs.Step.{is_full_for, object_after_put}
use Rattle.meta_store.specs.Table.{IsHeld, object_at, with_object}
use Rattle.meta_store.proofs.Tables.{object_at-here, object_at-elsewhere}
use Rattle.meta_store.proofs.Writing.{when_none, when_some}
use Rattle.meta_store.proofs.store.Store.put.Goals as goal

pub returns-in-Ok-None-clause-here : goal.returns-in-Ok-None-clause-here
returns-in-Ok-None-clause-here c =
    let object = object_after_put c.args.self.now c.args.id c.args.key c.args.value (option_copied c.args.context) in
    let written : c.put_or_make.new.self ≡ with_object c.args.key object c.args.self.now = when_none c.in-Ok-None.field-0 c.in-Ok-None.field-0-is c.in-Ok-None.ensures.put in
    ap (λ table. object_at table c.args.key) written ∙ object_at-here c.args.key object c.args.self.now

pub returns-in-Ok-None-clause-elsewhere : goal.returns-in-Ok-None-clause-elsewhere
returns-in-Ok-None-clause-elsewhere c other differs =
    let object = object_after_put c.args.self.now c.args.id c.args.key c.args.value (option_copied c.args.context) in
    let written : c.put_or_make.new.self ≡ with_object c.args.key object c.args.self.now = when_none c.in-Ok-None.field-0 c.in-Ok-None.field-0-is c.in-Ok-None.ensures.put in
    ap (λ table. object_at table other) written ∙ object_at-elsewhere c.args.key object c.args.self.now other differs

pub returns-in_ok-hold-in-Ok-Some-clause-here : goal.returns-in_ok-hold-in-Ok-Some-clause-here
returns-in_ok-hold-in-Ok-Some-clause-here c =
    let made = when_some
    (λ object. IsHeld object × (object ≡ object_after_put c.args.self.now c.args.id c.args.key c.args.value (option_copied c.args.context)) × (is_full_for c.args.self.now c.args.key ≡ false))
    c.in-Ok-Some.field-0 c.in-Ok-Some.object c.in-Ok-Some.field-0-is c.in-Ok-Some.ensures.made in
    ap (λ table. object_at table c.args.key) c.in_ok-hold-in-Ok-Some.ensures.value
    ∙ object_at-here c.args.key c.in-Ok-Some.object c.put_or_make.new.self
    ∙ made.1

pub returns-in_ok-hold-in-Ok-Some-clause-elsewhere : goal.returns-in_ok-hold-in-Ok-Some-clause-elsewhere
returns-in_ok-hold-in-Ok-Some-clause-elsewhere c other differs =
    let unchanged = when_some (λ object. c.put_or_make.new.self ≡ c.args.self.now)
    c.in-Ok-Some.field-0 c.in-Ok-Some.object c.in-Ok-Some.field-0-is c.in-Ok-Some.ensures.unchanged in
    ap (λ table. object_at table other) c.in_ok-hold-in-Ok-Some.ensures.value
    ∙ object_at-elsewhere c.args.key c.in-Ok-Some.object c.put_or_make.new.self other differs
    ∙ ap (λ table. object_at table other) unchanged
