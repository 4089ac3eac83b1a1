use Rattle.std.proofs.Common.{◌≡◌, ℕ, ◌<◌, List, length, set, get_or, Some, ap, ◌∙◌, arith, length-set, get_or-set_same}
use Rattle.std.proofs.lemmas.List.{set-get_or, set-set}
use Rattle.std.proofs.lemmas.Option.{slice_get-get_or}
use Rattle.std.specs.List.{slice_get}
use Rattle.plumtree.specs.Missing.{MissingObject}
use Rattle.plumtree.specs.Savepoint.{without_announcer_at, without_last_announcer}
use Rattle.plumtree.proofs.missing.note.Goals as goal

-- if an object is written that without its last announcer is the old one, taking that announcer off brings the old list back
written_back : (ms : List MissingObject) (i : ℕ) (old new : MissingObject) → i < length ms → old ≡ get_or ms i old → without_last_announcer new ≡ old
    → without_announcer_at (slice_get (set ms i new) i) i (set ms i new) ≡ ms
written_back ms i old new within read back =
    let there : slice_get (set ms i new) i ≡ Some new =
    slice_get-get_or (set ms i new) i old (omega (arith, length-set ms i new)) ∙ ap Some (get_or-set_same ms i new old within) in
    ap (λ found. without_announcer_at found i (set ms i new)) there ∙ set-set ms i new (without_last_announcer new)
    ∙ ap (set ms i) (back ∙ read) ∙ set-get_or ms i old

pub returns-then-branch-clause-back : goal.returns-then-branch-clause-back
returns-then-branch-clause-back c =
    written_back c.args.missing.now.items c.in-Some.place c.index_mut.result.now c.add_announcer.new.self (omega (arith, c.in-Some.ensures.within))
    c.index_mut.ensures.value (rw c.if-branch.true at c.in_ok-add_announcer-in-Some.ensures.back)
