use Rattle.std.proofs.Common.{◌≡◌, ◌+◌, ℕ, length, ◌∙◌, ap, arith}
use Rattle.file_pieces.specs.Alone.{version_in}
use Rattle.file_pieces.specs.Progress.{ReadSoFar, told_of}
use Rattle.file_pieces.proofs.Parts.{at_with, took_none, took_said, took_stray}
use Rattle.file_pieces.proofs.progress.Progress.take.Goals as goal

pub returns-in_default-2-clause-taken : goal.returns-in_default-2-clause-taken
returns-in_default-2-clause-taken c =
    let p : ReadSoFar = c.args.self.now in
    let front = c.deref.result.now in
    let version : version_in front ≡ p.version = ap version_in c.deref.ensures.value ∙ ap (λ (q : ReadSoFar). q.version) c.self.view_is in
    took_none p c.args.bytes.now front c.in_ok-said.field-0 version c.in_default-2.is c.requires.framed c.in_ok-said.ensures.value

pub returns-then-not-branch-clause-taken : goal.returns-then-not-branch-clause-taken
returns-then-not-branch-clause-taken c =
    let p : ReadSoFar = c.args.self.now in
    let front = c.deref.result.now in
    let version : version_in front ≡ p.version = ap version_in c.deref.ensures.value ∙ ap (λ (q : ReadSoFar). q.version) c.self.view_is in
    took_stray p c.take_in.new.self c.args.bytes.now front c.in_ok-said.field-0 c.in-Some-2.said c.in_ok-take_in.field-0 version c.in-Some-2.is c.requires.framed c.in_ok-said.ensures.value
    c.in_ok-take_in.ensures.follows c.if-not-branch.true (c.in_ok-take_in.ensures.same c.if-not-branch.true)

pub returns-clause-taken : goal.returns-clause-taken
returns-clause-taken c =
    let p : ReadSoFar = c.args.self.now in
    let new : ReadSoFar = c.take_in.new.self in
    let at : ℕ = c.in-Some.at in
    let front = c.deref.result.now in
    let version : version_in front ≡ p.version = ap version_in c.deref.ensures.value ∙ ap (λ (q : ReadSoFar). q.version) c.self.view_is in
    let here : c.self.inside.at ≡ p.at = ap (λ (q : ReadSoFar). q.at) c.self.view_is in
    let table : c.self.inside.table ≡ p.contents.table = ap (λ (q : ReadSoFar). q.contents.table) c.self.view_is in
    let sum : at ≡ p.at + length c.args.bytes.now = omega (arith, c.in-Some.ensures, here) in (
      sum,
      λ rest. ap (λ (q : ReadSoFar). told_of (at_with q at) rest) c.self-2.view_is
          ∙ took_said p new c.args.bytes.now front c.self.inside.table at c.in_ok-said.field-0 c.in-Some-2.said c.in_ok-take_in.field-0 version c.in-Some-2.is c.requires.framed c.in_ok-said.ensures.value
          c.in_ok-take_in.ensures.follows c.if-not-branch.false (c.in_ok-take_in.ensures.taken c.if-not-branch.false) c.len.ensures.is_table table sum rest,
    )
