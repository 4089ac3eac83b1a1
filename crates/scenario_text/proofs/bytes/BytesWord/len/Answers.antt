use Rattle.scenario_text.proofs.Digits.{length-bytes_of_digits}
use Rattle.scenario_text.proofs.bytes.BytesWord.len.Goals as goal

pub returns-then-self : goal.returns-then-self
returns-then-self c = rw c.if-self.true (length-bytes_of_digits c.args.self.now.text.now (c.args.self.now.stands c.if-self.true))
