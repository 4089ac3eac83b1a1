use Rattle.std.proofs.Common.{◌≡◌, ◌+◌, ◌≤◌, ◌++◌, ◌∷◌, ℕ, List, [], Some, length, arith, sym, ap, subst, ◌∙◌}
use Rattle.node_core.specs.Node.{NodeParts, opening}
use Rattle.node_file.specs.declared.record.Record.{Record}
use Rattle.node_file.specs.declared.record.Record.TheVariants.{Life}
use Rattle.node_file.specs.File.{file_state}
use Rattle.node_file.specs.Batch.{batch_size}
use Rattle.node_file.specs.Hosted.{CanTake}
use Rattle.node_file.specs.Refusal.{most_file}
use Rattle.node_hosted.specs.Hosting.{FitsInFile, beginning}
use Rattle.node_hosted.proofs.Joining.{fits_more}
use Rattle.node_hosted.proofs.node.HostedNode.serve.Goals as goal

pub of_state-requires : goal.of_state-requires
of_state-requires c =
    let s = c.in_ok-node.field-0 in
    let e = c.in_ok-node.ensures in
    let old = c.new-to_store.result in
    let joined : c.join.new.self ≡ old ++ Life s.life ∷ [] = c.in_ok-join.ensures.joined (Life s.life) e.can_take.lawful e.record in
    let fits : s.gate + batch_size old + length s.record.items ≤ most_file = omega (arith, e.fits, ap batch_size c.new-to_store.ensures) in
    let more : FitsInFile (Some s.gate) (old ++ Life s.life ∷ []) = fits_more s.gate old (Life s.life) s.record.items fits e.record in
    record { fits = subst (FitsInFile (Some s.gate)) (sym joined) more }

pub returns-clause-serves : goal.returns-clause-serves
returns-clause-serves c =
    let s = c.in_ok-node.field-0 in
    let e = c.in_ok-node.ensures in
    let file = file_state c.args.bytes.now in
    let joined : c.join.new.self ≡ c.new-to_store.result ++ Life s.life ∷ [] = c.in_ok-join.ensures.joined (Life s.life) e.can_take.lawful e.record in
    let to_store : c.join.new.self ≡ Life (file.contents.life + 1) ∷ [] =
    joined ∙ ap (λ (l : List Record). l ++ Life s.life ∷ []) c.new-to_store.ensures ∙ ap (λ (n : ℕ). Life n ∷ []) e.life in
    let is : c.in_ok-state.state ≡ opening file.node (file.contents.life + 1) file.contents.table =
    c.in_ok-state.ensures ∙ ap (λ (n : ℕ). opening n s.life s.table) e.node ∙ ap (λ (n : ℕ). opening file.node n s.table) e.life
    ∙ ap (opening file.node (file.contents.life + 1)) e.table in
    record {
      gate = s.gate;
      none = e.none;
      opens = e.opens;
      can_take = subst (λ (n : ℕ). CanTake file (Life n)) e.life e.can_take;
      begins = c.of_state.ensures ∙ ap (λ (n : NodeParts). beginning n (Some s.gate) c.join.new.self) is
          ∙ ap (beginning (opening file.node (file.contents.life + 1) file.contents.table) (Some s.gate)) to_store;
    }
