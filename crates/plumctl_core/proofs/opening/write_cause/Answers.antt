use Rattle.std.proofs.Common.{◌++◌, ◌∷◌, [], ℕ, List, codes, Ok, Err, subst}
use Rattle.std.proofs.lemmas.Result.{err_from_is_err_and}
use Rattle.plumctl_core.specs.Opening.{WritesText, shown_text}
use Rattle.plumctl_core.proofs.Writing.{then_written, stopped_writing}
use Rattle.plumctl_core.proofs.opening.write_cause.Goals as goal

pub returns-in_err-write_text : goal.returns-in_err-write_text
returns-in_err-write_text g c =
    let p = err_from_is_err_and c.from_residual.result c.from_residual.ensures.1 in
    let at = g.W.Sink.at in
    let w0 = at c.args.writer.now in
    let w1 = at c.write_text.new.writer in
    let line = c.args.line.now in
    let name = shown_text c.args.name.now in
    let cause = c.args.cause.now in
    let fault = c.in_err-write_text.field-0.0 in
    let lined : WritesText w0 w1 line (Err fault) =
    subst (λ (bytes : List ℕ). WritesText w0 w1 bytes (Err fault)) c.as_bytes.ensures.value c.in_err-write_text.ensures in
    rw (p.1, p.2)
    (stopped_writing w0 w1 line (codes "cause: " ++ (name ++ (codes ": " ++ (cause ++ (10 ∷ []))))) fault lined)

pub returns-in_err-write_text-2 : goal.returns-in_err-write_text-2
returns-in_err-write_text-2 g c =
    let p = err_from_is_err_and c.from_residual-in_err-write_text-2.result c.from_residual-in_err-write_text-2.ensures.1 in
    let at = g.W.Sink.at in
    let w0 = at c.args.writer.now in
    let w1 = at c.write_text.new.writer in
    let w2 = at c.write_text-2.new.writer in
    let line = c.args.line.now in
    let name = shown_text c.args.name.now in
    let cause = c.args.cause.now in
    let fault = c.in_err-write_text-2.field-0.0 in
    let lined : WritesText w0 w1 line (Ok tt) =
    subst (λ (bytes : List ℕ). WritesText w0 w1 bytes (Ok tt)) c.as_bytes.ensures.value c.in_ok-write_text.ensures in
    rw (p.1, p.2)
    (then_written w0 w1 w2 line (codes "cause: " ++ (name ++ (codes ": " ++ (cause ++ (10 ∷ []))))) (Err fault) lined
    (stopped_writing w1 w2 (codes "cause: ") (name ++ (codes ": " ++ (cause ++ (10 ∷ [])))) fault c.in_err-write_text-2.ensures))

pub returns-in_err-write_printable : goal.returns-in_err-write_printable
returns-in_err-write_printable g c =
    let p = err_from_is_err_and c.from_residual-in_err-write_printable.result c.from_residual-in_err-write_printable.ensures.1 in
    let at = g.W.Sink.at in
    let w0 = at c.args.writer.now in
    let w1 = at c.write_text.new.writer in
    let w2 = at c.write_text-2.new.writer in
    let w3 = at c.write_printable.new.writer in
    let line = c.args.line.now in
    let name = shown_text c.args.name.now in
    let cause = c.args.cause.now in
    let fault = c.in_err-write_printable.field-0.0 in
    let lined : WritesText w0 w1 line (Ok tt) =
    subst (λ (bytes : List ℕ). WritesText w0 w1 bytes (Ok tt)) c.as_bytes.ensures.value c.in_ok-write_text.ensures in
    let named : WritesText w2 w3 name (Err fault) =
    subst (λ (bytes : List ℕ). WritesText w2 w3 (shown_text bytes) (Err fault)) c.as_bytes-2.ensures.value c.in_err-write_printable.ensures in
    rw (p.1, p.2)
    (then_written w0 w1 w3 line (codes "cause: " ++ (name ++ (codes ": " ++ (cause ++ (10 ∷ []))))) (Err fault) lined
    (then_written w1 w2 w3 (codes "cause: ") (name ++ (codes ": " ++ (cause ++ (10 ∷ [])))) (Err fault) c.in_ok-write_text-2.ensures
    (stopped_writing w2 w3 name (codes ": " ++ (cause ++ (10 ∷ []))) fault named)))

pub returns-in_err-write_text-3 : goal.returns-in_err-write_text-3
returns-in_err-write_text-3 g c =
    let p = err_from_is_err_and c.from_residual-in_err-write_text-3.result c.from_residual-in_err-write_text-3.ensures.1 in
    let at = g.W.Sink.at in
    let w0 = at c.args.writer.now in
    let w1 = at c.write_text.new.writer in
    let w2 = at c.write_text-2.new.writer in
    let w3 = at c.write_printable.new.writer in
    let w4 = at c.write_text-3.new.writer in
    let line = c.args.line.now in
    let name = shown_text c.args.name.now in
    let cause = c.args.cause.now in
    let fault = c.in_err-write_text-3.field-0.0 in
    let lined : WritesText w0 w1 line (Ok tt) =
    subst (λ (bytes : List ℕ). WritesText w0 w1 bytes (Ok tt)) c.as_bytes.ensures.value c.in_ok-write_text.ensures in
    let named : WritesText w2 w3 name (Ok tt) =
    subst (λ (bytes : List ℕ). WritesText w2 w3 (shown_text bytes) (Ok tt)) c.as_bytes-2.ensures.value c.in_ok-write_printable.ensures in
    rw (p.1, p.2)
    (then_written w0 w1 w4 line (codes "cause: " ++ (name ++ (codes ": " ++ (cause ++ (10 ∷ []))))) (Err fault) lined
    (then_written w1 w2 w4 (codes "cause: ") (name ++ (codes ": " ++ (cause ++ (10 ∷ [])))) (Err fault) c.in_ok-write_text-2.ensures
    (then_written w2 w3 w4 name (codes ": " ++ (cause ++ (10 ∷ []))) (Err fault) named
    (stopped_writing w3 w4 (codes ": ") (cause ++ (10 ∷ [])) fault c.in_err-write_text-3.ensures))))

pub returns-in_err-write_text-4 : goal.returns-in_err-write_text-4
returns-in_err-write_text-4 g c =
    let p = err_from_is_err_and c.from_residual-in_err-write_text-4.result c.from_residual-in_err-write_text-4.ensures.1 in
    let at = g.W.Sink.at in
    let w0 = at c.args.writer.now in
    let w1 = at c.write_text.new.writer in
    let w2 = at c.write_text-2.new.writer in
    let w3 = at c.write_printable.new.writer in
    let w4 = at c.write_text-3.new.writer in
    let w5 = at c.write_text-4.new.writer in
    let line = c.args.line.now in
    let name = shown_text c.args.name.now in
    let cause = c.args.cause.now in
    let fault = c.in_err-write_text-4.field-0.0 in
    let lined : WritesText w0 w1 line (Ok tt) =
    subst (λ (bytes : List ℕ). WritesText w0 w1 bytes (Ok tt)) c.as_bytes.ensures.value c.in_ok-write_text.ensures in
    let named : WritesText w2 w3 name (Ok tt) =
    subst (λ (bytes : List ℕ). WritesText w2 w3 (shown_text bytes) (Ok tt)) c.as_bytes-2.ensures.value c.in_ok-write_printable.ensures in
    let caused : WritesText w4 w5 cause (Err fault) =
    subst (λ (bytes : List ℕ). WritesText w4 w5 bytes (Err fault)) c.as_bytes-3.ensures.value c.in_err-write_text-4.ensures in
    rw (p.1, p.2)
    (then_written w0 w1 w5 line (codes "cause: " ++ (name ++ (codes ": " ++ (cause ++ (10 ∷ []))))) (Err fault) lined
    (then_written w1 w2 w5 (codes "cause: ") (name ++ (codes ": " ++ (cause ++ (10 ∷ [])))) (Err fault) c.in_ok-write_text-2.ensures
    (then_written w2 w3 w5 name (codes ": " ++ (cause ++ (10 ∷ []))) (Err fault) named
    (then_written w3 w4 w5 (codes ": ") (cause ++ (10 ∷ [])) (Err fault) c.in_ok-write_text-3.ensures
    (stopped_writing w4 w5 cause (10 ∷ []) fault caused)))))

pub returns : goal.returns
returns g c =
    let at = g.W.Sink.at in
    let w0 = at c.args.writer.now in
    let w1 = at c.write_text.new.writer in
    let w2 = at c.write_text-2.new.writer in
    let w3 = at c.write_printable.new.writer in
    let w4 = at c.write_text-3.new.writer in
    let w5 = at c.write_text-4.new.writer in
    let w6 = at c.write_text-5.new.writer in
    let line = c.args.line.now in
    let name = shown_text c.args.name.now in
    let cause = c.args.cause.now in
    let end = c.write_text-5.result in
    let lined : WritesText w0 w1 line (Ok tt) =
    subst (λ (bytes : List ℕ). WritesText w0 w1 bytes (Ok tt)) c.as_bytes.ensures.value c.in_ok-write_text.ensures in
    let named : WritesText w2 w3 name (Ok tt) =
    subst (λ (bytes : List ℕ). WritesText w2 w3 (shown_text bytes) (Ok tt)) c.as_bytes-2.ensures.value c.in_ok-write_printable.ensures in
    let caused : WritesText w4 w5 cause (Ok tt) =
    subst (λ (bytes : List ℕ). WritesText w4 w5 bytes (Ok tt)) c.as_bytes-3.ensures.value c.in_ok-write_text-4.ensures in
    then_written w0 w1 w6 line (codes "cause: " ++ (name ++ (codes ": " ++ (cause ++ (10 ∷ []))))) end lined
    (then_written w1 w2 w6 (codes "cause: ") (name ++ (codes ": " ++ (cause ++ (10 ∷ [])))) end c.in_ok-write_text-2.ensures
    (then_written w2 w3 w6 name (codes ": " ++ (cause ++ (10 ∷ []))) end named
    (then_written w3 w4 w6 (codes ": ") (cause ++ (10 ∷ [])) end c.in_ok-write_text-3.ensures
    (then_written w4 w5 w6 cause (10 ∷ []) end caused
    c.write_text-5.ensures))))
