use Rattle.std.proofs.Common.{◌≡◌, ◌+◌, ◌-◌, ◌≤◌, ◌∙◌, Ok, false, length, map, ap, arith, drop, refl, rules, subst, sym, take}
use Rattle.meta_store.specs.Table.{most_keys}
use Rattle.node_file.specs.Batch.{AreAppended, state_with_all}
use Rattle.node_file.specs.Clean.{row_record}
use Rattle.node_file.specs.File.{file_state}
use Rattle.node_file.specs.View.{FileView}
use Rattle.node_file.specs.declared.fault.FileFault.TheVariants.{Device}
use Rattle.node_file.proofs.Batches.{behind_one, can_take, is_none, is_some, none_appended, none_is_taken, not_of_objects, settled_with, size_behind_one}
use Rattle.node_file.proofs.Torn.{length-behind_gates}
use Rattle.node_file.proofs.node_file.NodeFile.append_all.Goals as goal

pub returns-in-Some-clause-none : goal.returns-in-Some-clause-none
returns-in-Some-clause-none g c none goes = absurd (none_is_taken c.self.inside.gate c.args.objects.now c.in-Some.refusal none c.in-Some.ensures.first)

pub returns-in-Some-clause-stops : goal.returns-in-Some-clause-stops
returns-in-Some-clause-stops g c of_device = absurd (not_of_objects c.self.inside.gate c.args.objects.now c.in-Some.refusal Device c.in-Some.ensures.first of_device)

pub returns-then-is_empty-clause-written : goal.returns-then-is_empty-clause-written
returns-then-is_empty-clause-written g c =
    let file = g.D.Device.content c.args.self.now.device in
    let gate = c.args.self.now.gate in
    subst (λ rows. AreAppended gate (map row_record rows) file file) (sym (is_none c.args.objects.now c.if-is_empty.ensures)) (none_appended gate file)

pub slice_bounds-put_batch-count : goal.slice_bounds-put_batch-count
slice_bounds-put_batch-count g c = omega (arith, ap length c.deref.ensures.value, ap length c.in-Ok.ensures, length-behind_gates (map row_record c.args.objects.now))

pub slice_bounds-put_batch-start : goal.slice_bounds-put_batch-start
slice_bounds-put_batch-start g c = omega (arith, ap length c.deref.ensures.value, ap length c.in-Ok.ensures, length-behind_gates (map row_record c.args.objects.now))

pub put_batch-requires-clause-bytes : goal.put_batch-requires-clause-bytes
put_batch-requires-clause-bytes g c = behind_one c.deref.result.now c.args.objects.now (is_some c.args.objects.now c.if-is_empty.ensures) (c.deref.ensures.value ∙ c.in-Ok.ensures)

pub put_batch-requires-clause-can_take : goal.put_batch-requires-clause-can_take
put_batch-requires-clause-can_take g c =
    let records = map row_record c.args.objects.now in
    let goes : c.self.inside.is_stopped ≡ false = search rules in
    let served = ap (λ f. f.is_served) c.self.view_is ∙ c.requires.served in
    let room : length (state_with_all (file_state (g.D.Device.content c.self.inside.device)) records).contents.table ≤ most_keys =
    subst (λ (f : FileView g.row.D.Denot). f.is_stopped ≡ false → length (state_with_all (file_state (g.D.Device.content f.device)) records).contents.table ≤ most_keys) (sym c.self.view_is) c.requires.room goes in
    can_take (file_state (g.D.Device.content c.self.inside.device)) c.args.objects.now ((c.self.invariant goes).served served) (c.in_default.ensures.lawful refl) room

pub overflow_sub-self : goal.overflow_sub-self
overflow_sub-self g c = omega (arith, c.len.ensures, ap length c.in-Ok.ensures, length-behind_gates (map row_record c.args.objects.now))

pub invariant_of-self : goal.invariant_of-self
invariant_of-self g c goes =
    let f = g.D.Device.content c.self.inside.device in
    let rows = c.args.objects.now in
    let bytes = c.deref.result.now in
    let is = behind_one bytes rows (is_some rows c.if-is_empty.ensures) (c.deref.ensures.value ∙ c.in-Ok.ensures) in
    let size : length (take (length bytes - 1) (drop 1 bytes)) ≡ c.len.result - 1 =
    omega (arith, size_behind_one (take (length bytes - 1) (drop 1 bytes)) (map row_record rows) is, c.len.ensures, ap length c.in-Ok.ensures, length-behind_gates (map row_record rows)) in
    let opens = c.in-Ok-put_batch.ensures.opens ∙ ap (λ n. Ok (state_with_all (file_state f) (map row_record rows), c.self.inside.gate + n)) size in
    settled_with g.D.Device.content g.D.Device.may_leave _ _ rows (c.self.invariant goes) refl refl refl opens c.in-Ok-put_batch.ensures.synced

pub returns-in-Ok-put_batch-clause-gate : goal.returns-in-Ok-put_batch-clause-gate
returns-in-Ok-put_batch-clause-gate g c = omega (arith, ap (λ f. f.gate) c.self.view_is, c.len.ensures, ap length c.in-Ok.ensures, length-behind_gates (map row_record c.args.objects.now))

pub returns-in-Ok-put_batch-clause-settled : goal.returns-in-Ok-put_batch-clause-settled
returns-in-Ok-put_batch-clause-settled g c = invariant_of-self g c
