use Rattle.std.proofs.Common.{rules, ◌≡◌, ◌≤◌, None, Some, length, drop, slice_index_or, List, Option, ap, sym, ◌∙◌, arith}
use Rattle.std.specs.Prelude.{slice_get}
use Rattle.std.proofs.lemmas.List.{drop_all}
use Rattle.scenario_text.specs.Word.{Word}
use Rattle.scenario_text.specs.declared.wrong.Slot.{Slot}
use Rattle.scenario_text.specs.declared.wrong.Slot.TheVariants as slots
use Rattle.scenario_text.specs.Hint.{WrongAt, behind_slot, wrong_in}
use Rattle.scenario_text.proofs.Hints.{nothing_left, one_left, wrong_here, wrong_next, wrong_over}
use Rattle.scenario_text.proofs.wrong.wrong_in.Goals as goal

pub returns-then-not-read_slot : goal.returns-then-not-read_slot
returns-then-not-read_slot c =
    let items = c.slots_of-slot-items.result.now in
    let i = c.loop-slot.slot-index in
    let none : behind_slot (slice_index_or items i slots.Count) c.loop-slot.words ≡ None = search rules in
    ap (λ (o : Option Word). WrongAt (slice_index_or items i slots.Count) o) c.peek-word.ensures
    ∙ sym (c.loop-slot.invariant ∙ wrong_here items i slots.Count c.loop-slot.words c.loop-slot-test.true none)

pub loop-slot-preserved : goal.loop-slot-preserved
loop-slot-preserved c =
    let items = c.slots_of-slot-items.result.now in
    let i = c.loop-slot.slot-index in
    let some : behind_slot (slice_index_or items i slots.Count) c.loop-slot.words ≡ Some c.read_slot.new.words = search rules in
    c.loop-slot.invariant ∙ wrong_next items i slots.Count c.loop-slot.words c.read_slot.new.words c.loop-slot-test.true some

pub returns-in-None : goal.returns-in-None
returns-in-None c =
    let items = c.slots_of-slot-items.result.now in
    let over : length items ≤ c.loop-slot.slot-index = omega (arith, c.loop-slot-test.false) in
    let first : None ≡ slice_get c.loop-slot.words 0 = search rules in
    sym (c.loop-slot.invariant ∙ ap (λ (ss : List Slot). wrong_in ss c.loop-slot.words) (drop_all c.loop-slot.slot-index items over) ∙ wrong_over c.loop-slot.words ∙ nothing_left c.loop-slot.words first)

pub returns-in-Some : goal.returns-in-Some
returns-in-Some c =
    let items = c.slots_of-slot-items.result.now in
    let over : length items ≤ c.loop-slot.slot-index = omega (arith, c.loop-slot-test.false) in
    let first : Some c.in-Some.word.now ≡ slice_get c.loop-slot.words 0 = search rules in
    sym (c.loop-slot.invariant ∙ ap (λ (ss : List Slot). wrong_in ss c.loop-slot.words) (drop_all c.loop-slot.slot-index items over) ∙ wrong_over c.loop-slot.words ∙ one_left c.loop-slot.words c.in-Some.word.now first)
