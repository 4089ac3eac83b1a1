use Rattle.std.proofs.Common.{◌≡◌, ◌++◌, ◌∷◌, ℕ, All, List, map, ap, rules, subst, sym, ◌∙◌}
use Rattle.std.proofs.lemmas.List.Elements.{All-head, All-tail}
use Rattle.meta_types.specs.Name.{Key}
use Rattle.dvvset.specs.Object.{Entry}
use Rattle.meta_store.specs.Table.{Table}
use Rattle.meta_store.specs.Kept.{RowsOf, rows_under}
use Rattle.meta_store.proofs.Kept.{IsNamed}
use Rattle.node_file.specs.Clean.{row_record}
use Rattle.node_file.specs.File.{file_state}
use Rattle.node_file.specs.Reads.{with_each, with_last}
use Rattle.node_file.proofs.Tables.{Held, IsWritten, next_written, room_for_next}
use Rattle.node_file.proofs.rewriting.write_rows.Goals as goal

pub under-key-requires : goal.under-key-requires
under-key-requires g c =
    let named : IsNamed (c.in-Some.key.now, c.in-Some.object.now) = All-head IsNamed (c.in-Some.key.now, c.in-Some.object.now) c.next.new.self (subst (All IsNamed) c.in-Some.ensures.steps c.loop-key.invariant.named) in
    record { in_range = rw (c.in_ok-copy-2.ensures) named }

pub write_object-requires-clause-held : goal.write_object-requires-clause-held
write_object-requires-clause-held g c =
    let left : Table → Type 0 = λ rest. IsWritten (g.D.Device.content c.args.device.now) (g.D.Device.content c.loop-key.device) ((file_state (g.D.Device.content c.args.device.now)).contents.table ++ rows_under c.args.prefix.now c.args.rows.now) rest c.loop-key.gate in
    let w = subst (λ (rows : RowsOf (List Entry)). left (rows_under c.args.prefix.now rows)) c.in-Some.ensures.steps c.loop-key.invariant.written in
    All-head Held (record { prefix = c.args.prefix.now; key = c.in-Some.key.now }, c.in-Some.object.now) (rows_under c.args.prefix.now c.next.new.self) w.held

pub write_object-requires-clause-room : goal.write_object-requires-clause-room
write_object-requires-clause-room g c =
    let left : Table → Type 0 = λ rest. IsWritten (g.D.Device.content c.args.device.now) (g.D.Device.content c.loop-key.device) ((file_state (g.D.Device.content c.args.device.now)).contents.table ++ rows_under c.args.prefix.now c.args.rows.now) rest c.loop-key.gate in
    let rest = rows_under c.args.prefix.now c.next.new.self in
    let key : record { prefix = c.args.prefix.now; key = c.in-Some.key.now } ≡ c.under-key.result = search rules in
    let w = subst (λ (k : Key). left ((k, c.in-Some.object.now) ∷ rest)) key (subst (λ (rows : RowsOf (List Entry)). left (rows_under c.args.prefix.now rows)) c.in-Some.ensures.steps c.loop-key.invariant.written) in
    room_for_next c.under-key.result c.in-Some.object.now w

pub loop-key-preserved : goal.loop-key-preserved
loop-key-preserved g c =
    let left : Table → Type 0 = λ rest. IsWritten (g.D.Device.content c.args.device.now) (g.D.Device.content c.loop-key.device) ((file_state (g.D.Device.content c.args.device.now)).contents.table ++ rows_under c.args.prefix.now c.args.rows.now) rest c.loop-key.gate in
    let rest = rows_under c.args.prefix.now c.next.new.self in
    let key : record { prefix = c.args.prefix.now; key = c.in-Some.key.now } ≡ c.under-key.result = search rules in
    let w = subst (λ (k : Key). left ((k, c.in-Some.object.now) ∷ rest)) key (subst (λ (rows : RowsOf (List Entry)). left (rows_under c.args.prefix.now rows)) c.in-Some.ensures.steps c.loop-key.invariant.written) in
    let b = subst (λ (rows : RowsOf (List Entry)). with_each (g.D.Device.content c.loop-key.device) (map row_record (rows_under c.args.prefix.now rows)) ≡ with_each (g.D.Device.content c.args.device.now) (map row_record (rows_under c.args.prefix.now c.args.rows.now))) c.in-Some.ensures.steps c.loop-key.invariant.bytes in
    record {
      written = next_written c.under-key.result c.in-Some.object.now w (g.D.Device.content c.write_object.new.device) c.in-Ok.end c.in-Ok.ensures.opens c.in-Ok.ensures.end;
      named = All-tail IsNamed (c.in-Some.key.now, c.in-Some.object.now) c.next.new.self (subst (All IsNamed) c.in-Some.ensures.steps c.loop-key.invariant.named);
      bytes = ap (λ (l : List ℕ). with_each l (map row_record rest)) c.in-Ok.ensures.bytes ∙ ap (λ (k : Key). with_each (with_last (g.D.Device.content c.loop-key.device) (row_record (k, c.in-Some.object.now))) (map row_record rest)) (sym key) ∙ b;
      last = c.in-Ok.ensures.last;
      still = c.in-Ok.ensures.still ∙ c.loop-key.invariant.still;
    }

pub loop-key-preserved-in-Ok : goal.loop-key-preserved-in-Ok
loop-key-preserved-in-Ok g c =
    let left : Table → Type 0 = λ rest. IsWritten (g.D.Device.content c.args.device.now) (g.D.Device.content c.loop-key.device) ((file_state (g.D.Device.content c.args.device.now)).contents.table ++ rows_under c.args.prefix.now c.args.rows.now) rest c.loop-key.gate in
    let rest = rows_under c.args.prefix.now c.next.new.self in
    let key : record { prefix = c.args.prefix.now; key = c.in-Some.key.now } ≡ c.under-key.result = search rules in
    let w = subst (λ (k : Key). left ((k, c.in-Some.object.now) ∷ rest)) key (subst (λ (rows : RowsOf (List Entry)). left (rows_under c.args.prefix.now rows)) c.in-Some.ensures.steps c.loop-key.invariant.written) in
    let b = subst (λ (rows : RowsOf (List Entry)). with_each (g.D.Device.content c.loop-key.device) (map row_record (rows_under c.args.prefix.now rows)) ≡ with_each (g.D.Device.content c.args.device.now) (map row_record (rows_under c.args.prefix.now c.args.rows.now))) c.in-Some.ensures.steps c.loop-key.invariant.bytes in
    record {
      written = next_written c.under-key.result c.in-Some.object.now w (g.D.Device.content c.write_object.new.device) c.in-Ok.end c.in-Ok.ensures.opens c.in-Ok.ensures.end;
      named = All-tail IsNamed (c.in-Some.key.now, c.in-Some.object.now) c.next.new.self (subst (All IsNamed) c.in-Some.ensures.steps c.loop-key.invariant.named);
      bytes = ap (λ (l : List ℕ). with_each l (map row_record rest)) c.in-Ok.ensures.bytes ∙ ap (λ (k : Key). with_each (with_last (g.D.Device.content c.loop-key.device) (row_record (k, c.in-Some.object.now))) (map row_record rest)) (sym key) ∙ b;
      last = c.in-Ok.ensures.last;
      still = c.in-Ok.ensures.still ∙ c.loop-key.invariant.still;
    }
