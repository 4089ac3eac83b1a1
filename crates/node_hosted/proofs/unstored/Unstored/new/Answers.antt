use Rattle.std.proofs.Common.{◌≡◌, [], All, ap, sym, subst, ◌∙◌}
use Rattle.std.proofs.lemmas.List.Elements.{All-nil}
use Rattle.node_file.specs.Record.{IsRecord}
use Rattle.node_file.specs.Batch.{batch_bytes}
use Rattle.node_hosted.specs.Unstored.{records_in}
use Rattle.node_hosted.proofs.Spelling.{of_none}
use Rattle.node_hosted.proofs.unstored.Unstored.new.Goals as goal

pub invariant_of-result : goal.invariant_of-result
invariant_of-result c =
    let none : records_in c.new.result.items ≡ [] = ap records_in c.new.ensures.items ∙ of_none in
    record {
      spelled = c.new.ensures.items ∙ ap batch_bytes (sym none);
      lawful = subst (All IsRecord) (sym none) (All-nil IsRecord);
    }

pub returns : goal.returns
returns c = ap records_in c.new.ensures.items ∙ of_none
