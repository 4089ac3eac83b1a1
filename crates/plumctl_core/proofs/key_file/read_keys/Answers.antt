use Rattle.std.proofs.Common.{◌++◌, ℕ, List, codes, inl, inr, refl, subst, ap, ◌∙◌}
use Rattle.plumctl_core.specs.Opening.{TellsText, cause_line}
use Rattle.plumctl_core.specs.Status.{line_of_fault, status_of_fault}
use Rattle.plumctl_core.proofs.Filling.{holds_no_keys}
use Rattle.plumctl_core.proofs.key_file.read_keys.Goals as goal

pub returns-in-Err-clause-refused : goal.returns-in-Err-clause-refused
returns-in-Err-clause-refused g c =
    let failed = c.in-Err.ensures.err in
    let cause : List ℕ = cause_line c.args.name.now (codes "could not be read") in (
      c.status_of_fault.ensures ∙ ap status_of_fault failed.0,
      inl (
        failed.1,
        subst (TellsText (g.E.Sink.at c.args.errors.now) (g.E.Sink.at c.tell_cause.new.errors))
            (ap (λ (line : List ℕ). line ++ cause) (c.line_of_fault.ensures ∙ ap line_of_fault failed.0)) c.tell_cause.ensures,
      ),
    )

pub returns-in-Err-from_slice-clause-refused : goal.returns-in-Err-from_slice-clause-refused
returns-in-Err-from_slice-clause-refused g c = (
  c.status_of_fault-in-Err-from_slice.ensures,
  inr (
    holds_no_keys (g.R.Source.at c.args.reader.now) (g.R.Source.at c.fill_front.new.reader) c.fill_front.new.room _ c.in-Ok.len c.fill_front.auto.room refl c.in-Ok.ensures.ok
        c.in-Err-from_slice.ensures.refused.1,
    c.tell_cause-in-Err-from_slice.ensures,
  ),
)
