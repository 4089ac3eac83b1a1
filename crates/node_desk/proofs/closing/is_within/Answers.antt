use Rattle.node_desk.proofs.closing.is_within.Goals as goal

pub returns : goal.returns
returns g c = (
  (λ covers. let both = c.covers.ensures.0 covers in record { shown = both.0; learnt = both.1 }),
  (λ within. c.covers.ensures.1 (within.shown, within.learnt)),
)
