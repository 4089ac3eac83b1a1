use Rattle.std.proofs.Common.{◌≡◌, [], ◌∷◌, ◌++◌}
use Rattle.std.specs.Prelude.{codes, decimal}
use Rattle.printing.specs.Field.{bytes_text, key_text}
use Rattle.scenario_text.specs.Spelling.{stamp_words, after_spaces, spaced_words}
use Rattle.std.proofs.lemmas.Result.{on_ok_weaker}
use Rattle.run_text.proofs.Lines.{more_added}
use Rattle.run_text.proofs.line.add_over.Goals as goal

pub returns : goal.returns
returns c =
    let o = c.args.text.now.items in
    let p = c.add_under.new.text.items in
    let name = codes "over" in
    let words0 = decimal c.args.node ∷ key_text c.args.key.now ∷ [] in
    let line0 : p ≡ o ++ spaced_words (name ∷ words0) = c.in_ok-add_under.ensures in
    let q1 = c.add_bytes.new.text.items in
    let line1 = more_added o p q1 name (words0) (bytes_text c.args.bytes.now ∷ []) line0 c.in_ok-add_bytes.ensures in
    let last = c.add_labelled.new.text.items in
    on_ok_weaker c.add_labelled.result (λ (added : last ≡ q1 ++ after_spaces (stamp_words c.args.stamp)). more_added o q1 last name ((words0) ++ (bytes_text c.args.bytes.now ∷ [])) (stamp_words c.args.stamp) line1 added) c.add_labelled.ensures
