use Rattle.std.proofs.Common.{◌<◌, [], ◌∷◌, length, set, ap, ◌∙◌, arith, length-set}
use Rattle.std.proofs.lemmas.List.Edits.{map_over_more}
use Rattle.subscriptions.specs.declared.change.Change.{Change}
use Rattle.subscriptions.specs.Watching.{with_change}
use Rattle.subscriptions.specs.Watches.{hearing_count}
use Rattle.subscriptions.proofs.Hearing.{notes_left}
use Rattle.subscriptions.proofs.watches.Watches.note.Goals as goal

pub note_one-requires : goal.note_one-requires
note_one-requires c =
    let held = c.loop-place.invariant in
    let list = c.loop-place.self-inside.list.items in
    let place = c.loop-place.place in
    let watch = c.index_mut.result.now in
    let inside : place < length list = omega arith in
    let left = notes_left c.args.news.now.change c.self.inside.list.items list place watch c.loop-place.news.notes inside held.long held.noted
    c.index_mut.ensures.value held.notes in
    omega (arith, left, ap (λ (change : Change). hearing_count change.key (watch ∷ [])) held.change)

pub loop-place-preserved : goal.loop-place-preserved
loop-place-preserved c =
    let held = c.loop-place.invariant in
    let change = c.args.news.now.change in
    let first = c.self.inside.list.items in
    let list = c.loop-place.self-inside.list.items in
    let place = c.loop-place.place in
    let watch = c.index_mut.result.now in
    let inside : place < length list = omega arith in
    let within : place < length first = omega arith in
    let made = c.note_one.ensures.watch ∙ ap (λ (change : Change). with_change change watch) held.change in
    let noted = ap (set list place) made ∙ map_over_more (with_change change) first list place watch within held.noted c.index_mut.ensures.value in
    let left = notes_left change first list place watch c.loop-place.news.notes inside held.long held.noted c.index_mut.ensures.value held.notes in
    record {
      long = length-set list place c.note_one.new.watch ∙ held.long;
      noted = noted;
      change = c.note_one.ensures.change ∙ held.change;
      notes = omega (arith, c.note_one.ensures.notes, left, ap (λ (change : Change). hearing_count change.key (watch ∷ [])) held.change);
    }
