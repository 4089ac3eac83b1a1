use Rattle.std.proofs.Common.{◌≡◌, ◌+◌, ◌≤◌, ◌++◌, ◌∷◌, ℕ, Option, [], Some, length, arith, sym, ap, subst, ◌∙◌}
use Rattle.std.specs.Option.{option_copied}
use Rattle.std.specs.FinMap.{find}
use Rattle.meta_types.specs.Name.{Key}
use Rattle.meta_types.specs.Order.{key_cmp}
use Rattle.node_events.specs.Event.{stored_key}
use Rattle.node_file.specs.declared.record.Record.TheVariants.{Object}
use Rattle.node_file.specs.Batch.{batch_size}
use Rattle.node_file.specs.Refusal.{most_file}
use Rattle.node_file.specs.Stored.{object_record, record_under}
use Rattle.node_hosted.specs.Hosting.{FitsInFile, IsWanted, gate_after}
use Rattle.node_hosted.proofs.Joining.{fits_more, has_room}
use Rattle.node_hosted.proofs.Stopping.{no_memory}
use Rattle.node_hosted.proofs.acting.join_record.Goals as goal

pub returns-in_err-join-clause-refused : goal.returns-in_err-join-clause-refused
returns-in_err-join-clause-refused c =
    let g = c.in-Some-Some.gate in
    let records = c.args.to_store.now in
    let held = c.args.store.now in
    let key = c.in-Some-Some.key.now in
    let r = Object key c.in-Some.object.now in
    let e = c.in_ok-record.ensures in
    let gate_is : gate_after c.args.gate records ≡ Some (g + batch_size records) = ap (λ (gate : Option ℕ). gate_after gate records) c.in-Some-Some.is-0 in
    let key_is : stored_key c.args.event.now ≡ Some key = sym c.stored_key.ensures ∙ ap option_copied c.in-Some-Some.is-1 in
    let found : find key_cmp key held ≡ Some c.in-Some.object.now = sym c.object.ensures.value ∙ ap option_copied c.in-Some.is in
    let under : record_under (stored_key c.args.event.now) held ≡ Some r =
    ap (λ (k : Option Key). record_under k held) key_is ∙ ap (object_record key) found in
    let fits : g + batch_size records + length c.in_ok-record.record.items ≤ most_file = omega (arith, e.fits, c.size.ensures) in
    let wanted : IsWanted (Some (g + batch_size records)) (Some r) =
    record { there = λ none. let clash : r ∷ [] ≡ [] = none in absurd (cc); fits = has_room (g + batch_size records) r c.in_ok-record.record.items fits e.record } in
    no_memory c.from_residual-in_err-join.result (gate_after c.args.gate records) (record_under (stored_key c.args.event.now) held) c.from_residual-in_err-join.ensures.1
    (subst (λ (gate : Option ℕ). IsWanted gate (record_under (stored_key c.args.event.now) held)) (sym gate_is)
    (subst (IsWanted (Some (g + batch_size records))) (sym under) wanted))

pub returns-clause-fits : goal.returns-clause-fits
returns-clause-fits c =
    let g = c.in-Some-Some.gate in
    let records = c.args.to_store.now in
    let r = Object c.in-Some-Some.key.now c.in-Some.object.now in
    let e = c.in_ok-record.ensures in
    let joined : c.join.new.self ≡ records ++ r ∷ [] = c.in_ok-join.ensures.joined r e.lawful e.record in
    let fits : g + batch_size records + length c.in_ok-record.record.items ≤ most_file = omega (arith, e.fits, c.size.ensures) in
    let more : FitsInFile (Some g) (records ++ r ∷ []) = fits_more g records r c.in_ok-record.record.items fits e.record in
    subst (λ (gate : Option ℕ). FitsInFile gate c.join.new.self) (sym c.in-Some-Some.is-0) (subst (FitsInFile (Some g)) (sym joined) more)
