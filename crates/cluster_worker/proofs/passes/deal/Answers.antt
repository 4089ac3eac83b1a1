use Rattle.std.proofs.Common.{◌≡◌, ◌<◌, ◌∷◌, ◌++◌, [], length, drop, get_or, sym, subst, ap, ◌∙◌, arith, rules, option_to_list}
use Rattle.std.proofs.lemmas.List.{take_at}
use Rattle.inbox.specs.Views.{PutView}
use Rattle.cluster_worker.specs.Passes.{AreSenderRows}
use Rattle.cluster_worker.proofs.Dealt.{AreDealt, dealt_more, left_more, next_left, rows_on}
use Rattle.cluster_worker.proofs.passes.deal.Goals as goal

pub loop-row-preserved : goal.loop-row-preserved
loop-row-preserved c =
    let at = c.loop-row.row-index in
    let old = c.args.rows.now.items in
    let rows = c.loop-row.row-items in
    let puts = c.args.puts.items in
    let pass = c.unwrap.result in
    let new = c.push_reserved.new.self in
    let rest = c.next.new.self.rest.items in
    let was = c.loop-row.invariant in
    let less : at < length rows = omega (arith, c.loop-row.auto.row-items, c.loop-row-test.true) in
    let short : at < length puts = omega (arith, less, was.number, c.requires.number) in
    let is : drop at puts ≡ pass ∷ rest =
    sym was.passes
    ∙ (c.next.ensures.items ∙ ap (λ o. option_to_list o ++ rest) c.unwrap.ensures) in
    let row = get_or rows at c.row-item.result in
    record {
      passes = (next_left puts rest at pass pass short is).1;
      number = search rules;
      dealt = dealt_more old rows puts at new c.row-item.result less was.dealt was.left
          (λ e. record {
            items = subst (λ (p : PutView). new.items ≡ row.items ++ p ∷ [])
                ((next_left puts rest at pass e short is).0) c.push_reserved.ensures.items;
            room = omega (arith, c.push_reserved.ensures.capacity);
          });
      left = left_more old rows at new was.left;
    }

pub returns : goal.returns
returns c = λ inboxes nodes inbox rows new.
    let old = c.args.rows.now.items in
    let now = c.loop-row.row-items in
    let puts = c.args.puts.items in
    let was = c.loop-row.invariant in
    let auto = c.loop-row.auto in
    let all : c.loop-row.row-index ≡ length old =
    omega (arith, auto.row-items, auto.row-index-end, c.loop-row-test.false, was.number) in
    let len : length now ≡ c.args.rows.now.len = was.number ∙ sym c.args.rows.now.ok.0 in
    let whole = take_at now (drop (length now) old) c.args.rows.now.len len in
    let dealt = subst (AreDealt old puts now) all was.dealt in
    subst (λ l. AreSenderRows (inboxes ++ inbox ∷ []) nodes l) (sym whole)
    (rows_on old now puts was.number dealt inboxes nodes inbox rows new)
