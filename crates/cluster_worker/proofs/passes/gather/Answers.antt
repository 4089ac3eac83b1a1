use Rattle.std.proofs.Common.{◌≡◌, ◌<◌, ◌∷◌, ◌++◌, ◌+◌, [], ℕ, length, drop, sym, subst, ap, ◌∙◌, arith, option_to_list}
use Rattle.std.proofs.lemmas.List.{length_push}
use Rattle.cluster_worker.specs.Passes.{AreNewPassesFrom, AreNewPassesOf}
use Rattle.cluster_worker.specs.declared.passes.Passes.{Passes}
use Rattle.cluster_worker.proofs.Dealt.{next_left}
use Rattle.cluster_worker.proofs.Made.{from_one_more, new_passes_at}
use Rattle.cluster_worker.proofs.passes.gather.Goals as goal

pub loop-takes-preserved : goal.loop-takes-preserved
loop-takes-preserved c =
    let takes = c.args.takes.items in
    let rows = c.args.rows.items in
    let passes = c.loop-takes.passes.items in
    let made = length passes in
    let was = c.loop-takes.invariant in
    let take = c.in-Some.takes in
    let row = c.unwrap.result in
    let one : Passes = record { own = c.len.result; takes = take; puts = row } in
    let new = c.push_reserved.new.self.items in
    let more : new ≡ passes ++ one ∷ [] = c.push_reserved.ensures.items in
    let grown : length new ≡ made + 1 = ap length more ∙ length_push passes one in
    let is = c.in-Some.ensures.steps.0 in
    let rest = c.next.new.self.rest.items in
    let rest_rows = c.next-in-loop-takes.new.self.rest.items in
    let left : drop made takes ≡ take ∷ rest = sym was.takes ∙ is in
    let left_rows : drop made rows ≡ row ∷ rest_rows =
    sym was.rows ∙ (c.next-in-loop-takes.ensures.items
    ∙ ap (λ o. option_to_list o ++ rest_rows) c.unwrap.ensures) in
    let short : made < length takes = omega (arith, was.number, ap length is) in
    let short_rows : made < length rows = omega (arith, short, c.requires.number) in
    let at = next_left takes rest made take take short left in
    let at_rows = next_left rows rest_rows made row row short_rows left_rows in
    record {
      number = omega (arith, grown, was.number, ap length is);
      takes = subst (λ (n : ℕ). rest ≡ drop n takes) (sym grown) at.1;
      rows = subst (λ (n : ℕ). rest_rows ≡ drop n rows) (sym grown) at_rows.1;
      room = omega (arith, was.room, c.push_reserved.ensures.capacity);
      passes = λ inboxes all dealt.
          let own : c.len.result ≡ made = c.len.ensures ∙ c.loop-takes.passes.ok.0 in
          let of_it : AreNewPassesOf inboxes made one =
          new_passes_at inboxes (length rows) takes rows all dealt c.requires.number made
          c.len.result take row short_rows own at.0 at_rows.0 in
          let here : made ≡ 0 + made = omega arith in
          subst (AreNewPassesFrom inboxes 0) (sym more)
          (from_one_more inboxes 0 passes one (was.passes inboxes all dealt)
          (subst (λ (n : ℕ). AreNewPassesOf inboxes n one) here of_it));
    }
