use Rattle.std.proofs.Common.{◌≡◌, Bool, true, false, not, refl, sym, ◌∙◌, arith}
use Rattle.std.proofs.lemmas.Bool.{eqb-false}
use Rattle.meta_frame.proofs.lawful.is_lawful.Goals as goal

-- a test that answered no
untrue : (b : Bool) → not b ≡ true → b ≡ false
untrue true e = cc
untrue false e = refl

pub returns-then-ne : goal.returns-then-ne
returns-then-ne c = (
  (λ h. record {
    from = c.number.ensures.in_range;
    to = c.number-2.ensures.in_range;
    apart = eqb-false c.args.frame.now.from c.args.frame.now.to (untrue _ (sym c.ne.ensures ∙ c.if-ne.true));
    number = omega arith;
    message = c.message_fits.ensures.0 h;
  }),
  (λ law. c.message_fits.ensures.1 law.message),
)
