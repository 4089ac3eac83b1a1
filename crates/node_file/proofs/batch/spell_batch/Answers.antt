use Rattle.std.proofs.Common.{◌≡◌, ◌+◌, ◌∙◌, ◌∷◌, ◌++◌, ap, arith, drop, get_or, map, subst, sym}
use Rattle.std.proofs.lemmas.List.{drop_all, get_or-map, length-map}
use Rattle.node_file.specs.Clean.{behind_gates, row_record}
use Rattle.node_file.specs.Record.{IsRecord, payload, record_bytes}
use Rattle.node_file.proofs.Batches.{more_spelled}
use Rattle.node_file.proofs.batch.spell_batch.Goals as goal

pub write_with_gate-requires : goal.write_with_gate-requires
write_with_gate-requires c =
    let at : get_or (map row_record c.args.objects.now) c.loop-new.new-index (row_record c.new-item.result) ≡ row_record c.new-item.result =
    get_or-map row_record c.args.objects.now c.loop-new.new-index c.new-item.result (row_record c.new-item.result) c.loop-new-test.true ∙ ap row_record (sym c.new-item.is) in
    record { lawful = subst IsRecord (at ∙ sym c.record.ensures) (c.requires.lawful c.loop-new.new-index (row_record c.new-item.result) (omega (arith, c.loop-new-test.true, length-map c.args.objects.now row_record))) }

pub loop-new-preserved : goal.loop-new-preserved
loop-new-preserved c =
    let row = c.new-item.result in
    let rest = behind_gates (map row_record (drop (c.loop-new.new-index + 1) c.args.objects.now)) in
    let bytes = c.in_ok-write_with_gate.ensures ∙ ap (λ r. c.loop-new.bytes.items ++ 1 ∷ record_bytes (payload r)) c.record.ensures in
    ap (λ l. l ++ rest) bytes
    ∙ more_spelled c.args.objects.now c.loop-new.new-index row c.loop-new.bytes.items (behind_gates (map row_record c.args.objects.now)) c.loop-new-test.true (sym c.new-item.is) c.loop-new.invariant

pub returns : goal.returns
unfolding behind_gates
returns c =
    let none = drop_all c.loop-new.new-index c.args.objects.now c.loop-new-test.false in
    c.in_ok-push.ensures.items ∙ sym (ap (λ rows. c.loop-new.bytes.items ++ behind_gates (map row_record rows)) none) ∙ c.loop-new.invariant
