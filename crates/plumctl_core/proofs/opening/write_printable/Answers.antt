use Rattle.std.proofs.Common.{suc, ◌++◌, ◌∷◌, [], ℕ, List, take, drop, subst, Err}
use Rattle.std.proofs.lemmas.Result.{err_from_is_err_and}
use Rattle.plumctl_core.specs.Opening.{shown_text, WritesText}
use Rattle.plumctl_core.proofs.Writing.{shown_parts, then_written, stopped_writing}
use Rattle.plumctl_core.proofs.opening.write_printable.Goals as goal

pub returns-in_err-write_text : goal.returns-in_err-write_text
returns-in_err-write_text g c =
    let p = err_from_is_err_and c.from_residual.result c.from_residual.ensures.1 in
    let old = g.W.Sink.at c.args.writer.now in
    let now = g.W.Sink.at c.loop-byte.writer in
    let new = g.W.Sink.at c.write_text.new.writer in
    let bytes = c.args.bytes.now in
    let i = c.loop-byte.byte-index in
    let one = c.shown_byte.result in
    let fault = c.in_err-write_text.field-0.0 in
    let more : WritesText old new (shown_text (take i bytes) ++ one ∷ []) (Err fault) =
    then_written old now new (shown_text (take i bytes)) (one ∷ []) (Err fault) c.loop-byte.invariant c.in_err-write_text.ensures in
    let all : WritesText old new ((shown_text (take i bytes) ++ one ∷ []) ++ shown_text (drop (suc i) bytes)) (Err fault) =
    stopped_writing old new (shown_text (take i bytes) ++ one ∷ []) (shown_text (drop (suc i) bytes)) fault more in
    rw (p.1, p.2) (subst (λ (text : List ℕ). WritesText old new text (Err fault)) (shown_parts bytes i one c.loop-byte-test.true c.shown_byte.ensures) all)
