use Rattle.std.proofs.Common.{◌≡◌, ℕ, List, map, ap, subst, sym, ◌∙◌}
use Rattle.dvvset.specs.Object.{Entry}
use Rattle.meta_store.specs.Kept.{PartsOf, rows_under, table_of}
use Rattle.node_file.specs.Clean.{row_record}
use Rattle.node_file.specs.Reads.{with_each}
use Rattle.node_file.proofs.Clean.{each_of_both}
use Rattle.node_file.proofs.Tables.{IsWritten, rows_held, rows_rise, rows_written}
use Rattle.node_file.proofs.rewriting.write_table.Goals as goal

pub write_rows-requires-clause-held : goal.write_rows-requires-clause-held
write_rows-requires-clause-held g c =
    let w = subst (λ (parts : PartsOf (List Entry)). IsWritten (g.D.Device.content c.args.device.now) (g.D.Device.content c.loop-prefix.device) c.args.table.now (table_of parts) c.loop-prefix.gate) c.in-Some.ensures.steps c.loop-prefix.invariant.written in
    rows_held (rows_under c.in-Some.prefix.now c.in-Some.rows.now) (table_of c.next.new.self) w

pub write_rows-requires-clause-rising : goal.write_rows-requires-clause-rising
write_rows-requires-clause-rising g c =
    let w = subst (λ (parts : PartsOf (List Entry)). IsWritten (g.D.Device.content c.args.device.now) (g.D.Device.content c.loop-prefix.device) c.args.table.now (table_of parts) c.loop-prefix.gate) c.in-Some.ensures.steps c.loop-prefix.invariant.written in
    rows_rise (rows_under c.in-Some.prefix.now c.in-Some.rows.now) (table_of c.next.new.self) w

pub loop-prefix-preserved : goal.loop-prefix-preserved
loop-prefix-preserved g c =
    let w = subst (λ (parts : PartsOf (List Entry)). IsWritten (g.D.Device.content c.args.device.now) (g.D.Device.content c.loop-prefix.device) c.args.table.now (table_of parts) c.loop-prefix.gate) c.in-Some.ensures.steps c.loop-prefix.invariant.written in
    let rows = rows_under c.in-Some.prefix.now c.in-Some.rows.now in
    let b = subst (λ (parts : PartsOf (List Entry)). with_each (g.D.Device.content c.loop-prefix.device) (map row_record (table_of parts)) ≡ with_each (g.D.Device.content c.args.device.now) (map row_record c.args.table.now)) c.in-Some.ensures.steps c.loop-prefix.invariant.bytes in
    record {
      written = rows_written (rows_under c.in-Some.prefix.now c.in-Some.rows.now) (table_of c.next.new.self) w (g.D.Device.content c.write_rows.new.device) c.in-Ok.end c.in-Ok.ensures.opens c.in-Ok.ensures.short;
      bytes = ap (λ (l : List ℕ). with_each l (map row_record (table_of c.next.new.self))) c.in-Ok.ensures.bytes ∙ sym (each_of_both (g.D.Device.content c.loop-prefix.device) rows (table_of c.next.new.self)) ∙ b;
      last = c.in-Ok.ensures.last;
      still = c.in-Ok.ensures.still ∙ c.loop-prefix.invariant.still;
    }
