use Rattle.std.proofs.Common.{◌≡◌, List, length, vec_len, sym, subst, ◌∙◌, arith}
use Rattle.std.proofs.lemmas.Bool.{eqb-true}
use Rattle.node_readers.specs.Published.{Published}
use Rattle.node_call.specs.Stored.{RefusesStoringAll}
use Rattle.node_desk.proofs.Batched.{keeping_all_refused, nothing_has_room}
use Rattle.node_desk.proofs.outlets.Outlets.store_and_show_all.Goals as goal

pub returns-in-Err-clause-refused : goal.returns-in-Err-clause-refused
returns-in-Err-clause-refused g c =
    let failed = g.D.Device.failed in
    let old = c.args.self.now.file in
    let new = c.store_all-stored.new.file in
    rw (c.is_stopped-self.ensures, c.of_batch.ensures)
    (keeping_all_refused old.gate c.args.batch.now.changes.items (failed old.device) (failed new.device) new c.in-Err.fault
    (subst (λ (cs : List Published). RefusesStoringAll old.gate cs (failed old.device) (failed new.device) new c.in-Err.fault) c.as_slice.ensures.value c.in-Err.ensures.refused))

pub returns-then-is_empty-clause-file_room : goal.returns-then-is_empty-clause-file_room
returns-then-is_empty-clause-file_room g c =
    let changes = c.args.batch.now.changes in
    let none : vec_len changes ≡ 0 = eqb-true (vec_len changes) 0 (sym c.is_empty.ensures ∙ c.if-is_empty.true) in
    nothing_has_room c.args.self.now.file.gate changes.items (omega (arith, none, changes.ok.0))
