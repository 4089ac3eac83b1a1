use Rattle.std.proofs.Common.{◌≡◌, Some, None, Err, OnOk, T, sym, ap, ◌∙◌, subst}
use Rattle.std.specs.FinMap.{find}
use Rattle.std.specs.Option.{option_copied}
use Rattle.meta_types.specs.Order.{key_cmp}
use Rattle.node_core.proofs.Within.{room_within}
use Rattle.node_file.specs.declared.fault.FileFault.{FileFault}
use Rattle.node_file.specs.File.{file_state}
use Rattle.node_file.specs.Refusal.{refusal_of_append}
use Rattle.node_file.specs.Stored.{object_record}
use Rattle.node_call.specs.Stored.{HasRecordRoom}
use Rattle.node_call.proofs.Files.{stored_has_room}
use Rattle.node_call.proofs.storing.store_under.Goals as goal

pub append-requires-clause-room : goal.append-requires-clause-room
append-requires-clause-room g c going =
    let held : Some c.in-Some.object.now ≡ find key_cmp c.args.key.now c.args.store.now =
    ap option_copied (sym c.in-Some.is) ∙ c.object.ensures.value in
    let within = c.requires.within in
    room_within (file_state (g.D.Device.content c.args.file.now.device)).contents.table
    c.args.store.now c.args.key.now
    (subst T (sym within.rising) tt) c.len.ensures.is_table within.keys
    (λ none. let clash : Some c.in-Some.object.now ≡ None = held ∙ none in absurd (cc))

pub returns-in-Some-clause-file_room : goal.returns-in-Some-clause-file_room
returns-in-Some-clause-file_room g c =
    let held : Some c.in-Some.object.now ≡ find key_cmp c.args.key.now c.args.store.now =
    ap option_copied (sym c.in-Some.is) ∙ c.object.ensures.value in
    let file = c.args.file.now in
    let refusals = subst (λ b. (other : FileFault) → refusal_of_append b file.gate c.args.key.now c.in-Some.object.now ≡ Some other → (c.append.result ≡ Err other) × (c.append.new.self ≡ file))
    c.requires.going c.append.ensures.refusals in
    subst (λ found. OnOk c.append.result (HasRecordRoom file.gate (object_record c.args.key.now found))) held
    (stored_has_room c.append.result file.gate c.args.key.now c.in-Some.object.now c.in-Some.ensures.lawful.small (λ other is. (refusals other is).0))
