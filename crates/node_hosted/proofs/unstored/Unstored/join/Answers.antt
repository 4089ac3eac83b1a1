use Rattle.std.proofs.Common.{◌≡◌, ◌+◌, ◌++◌, ◌∷◌, ℕ, List, [], length, take, drop, ◌-◌, ap, ◌∙◌, sym, arith}
use Rattle.std.proofs.Math.ListN.{set}
use Rattle.std.proofs.lemmas.List.Elements.{All-nil}
use Rattle.node_file.specs.Record.{IsRecord}
use Rattle.node_file.specs.declared.record.Record.{Record}
use Rattle.node_hosted.specs.Unstored.{records_in}
use Rattle.node_hosted.proofs.Spelling.{alone, is_joined, joined_are_records, none_there, reads_joined}
use Rattle.node_hosted.proofs.unstored.Unstored.join.Goals as goal

pub invariant_of-self : goal.invariant_of-self
invariant_of-self c =
    let r = c.requires in
    joined_are_records c.a_record_is_read_again.ensures [] r.said c.args.added.items (All-nil IsRecord) r.lawful (alone r.said c.args.added.items r.gated)

pub returns-in_default-clause-joined : goal.returns-in_default-clause-joined
returns-in_default-clause-joined c = λ said lawful is.
    let bytes = c.self.inside.bytes in
    let before : length bytes.items ≡ 0 = omega (arith, c.in_default.ensures, c.len.ensures, bytes.ok.0) in
    reads_joined c.a_record_is_read_again.ensures [] said c.args.added.items (All-nil IsRecord) lawful (alone said c.args.added.items is)
    ∙ ap (λ (l : List Record). l ++ said ∷ []) (sym (none_there bytes.items before) ∙ c.self.view_is)

pub invariant_of-self-2 : goal.invariant_of-self-2
invariant_of-self-2 c =
    let r = c.requires in
    let old = c.self.inside.bytes in
    let records = records_in old.items in
    let new = c.extend_from_slice.new.self.items in
    let one = c.args.added.items in
    let put : new ≡ old.items ++ take (length one - 1) (drop 1 one) =
    c.in_ok-extend_from_slice.ensures.items ∙ ap (λ (l : List ℕ). old.items ++ take (length l - 1) (drop 1 l)) c.deref.ensures.value in
    let at : c.in-Some.last + 1 ≡ length old.items = omega (arith, c.in-Some.ensures, c.len.ensures, old.ok.0) in
    let joined = is_joined records r.said old.items one new c.in-Some.last c.index.result.now c.self.invariant.spelled at r.gated put c.index.ensures in
    joined_are_records c.a_record_is_read_again.ensures records r.said (set new c.in-Some.last c.index.result.now) c.self.invariant.lawful r.lawful joined

pub returns-clause-joined : goal.returns-clause-joined
returns-clause-joined c = λ said lawful is.
    let old = c.self.inside.bytes in
    let records = records_in old.items in
    let new = c.extend_from_slice.new.self.items in
    let one = c.args.added.items in
    let put : new ≡ old.items ++ take (length one - 1) (drop 1 one) =
    c.in_ok-extend_from_slice.ensures.items ∙ ap (λ (l : List ℕ). old.items ++ take (length l - 1) (drop 1 l)) c.deref.ensures.value in
    let at : c.in-Some.last + 1 ≡ length old.items = omega (arith, c.in-Some.ensures, c.len.ensures, old.ok.0) in
    let joined = is_joined records said old.items one new c.in-Some.last c.index.result.now c.self.invariant.spelled at is put c.index.ensures in
    reads_joined c.a_record_is_read_again.ensures records said (set new c.in-Some.last c.index.result.now) c.self.invariant.lawful lawful joined
    ∙ ap (λ (l : List Record). l ++ said ∷ []) c.self.view_is
