use Rattle.std.proofs.Common.{◌≡◌, ◌==◌, rules, sym, ◌∙◌}
use Rattle.std.specs.List.{list_any}
use Rattle.std.proofs.lemmas.Bool.{not-true, not_from_false}
use Rattle.run_text.proofs.Spellings.{no_feed, one_line}
use Rattle.run_text.proofs.spelling.is_one_line.Goals as goal

pub returns : goal.returns
returns c =
    let bytes = c.args.bytes.now in
    let any : c.contains.result ≡ list_any (λ b. b == 10) bytes = search rules in
    (λ yes. one_line bytes (sym any ∙ not-true c.contains.result yes), λ all. not_from_false c.contains.result (any ∙ no_feed bytes all))
