use Rattle.std.proofs.Common.{◌∙◌, sym, subst}
use Rattle.meta_store.specs.Table.{IsTable, Table}
use Rattle.node_readers.specs.Copies.{IsCopyOf, TableView}
use Rattle.node_readers.specs.Growth.{Grows}
use Rattle.node_readers.specs.Spread.{IsSpreadOf}
use Rattle.node_readers.proofs.Growing.{grows_first}
use Rattle.node_readers.proofs.Moves.{first_copy, first_holds}
use Rattle.node_readers.proofs.publisher.Publisher.new.Goals as goal

pub new-requires-clause-rule : goal.new-requires-clause-rule
new-requires-clause-rule g c =
    let one = c.new-one.ensures in
    let is = subst IsTable c.requires.opening c.len.ensures.is_table in
    let content = subst (λ (t : Table). IsSpreadOf t c.new-one.result.spread) c.requires.opening
    (subst (IsSpreadOf c.args.table.now) (sym (one.spread ∙ c.in_ok-copy.ensures)) c.in_ok-spread.ensures) in
    first_holds _ _ c.new-one.result (first_copy _ _ c.args.revision c.new-one.result c.requires.first is one.book one.list content one.whole).is_copy

pub invariant_of-result : goal.invariant_of-result
invariant_of-result g c =
    let one = c.new-one.ensures in
    let made = c.in_ok-new.ensures in
    let is = subst IsTable c.requires.opening c.len.ensures.is_table in
    let content = subst (λ (t : Table). IsSpreadOf t c.new-one.result.spread) c.requires.opening
    (subst (IsSpreadOf c.args.table.now) (sym (one.spread ∙ c.in_ok-copy.ensures)) c.in_ok-spread.ensures) in
    let copy = first_copy _ _ c.args.revision c.new-one.result c.requires.first is one.book one.list content one.whole in
    record {
      published = (made.2 ∙ sym c.requires.first, subst (λ (x : TableView). IsCopyOf _ _ c.args.revision x) (sym made.0) copy);
      settled = λ _. made.1;
      grown = subst (λ l. Grows _ l) (sym c.requires.first) (grows_first _ is);
      nothing = c.again.ensures ∙ c.requires.first;
    }
