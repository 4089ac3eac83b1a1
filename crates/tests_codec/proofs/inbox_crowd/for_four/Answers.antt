use Rattle.inbox.proofs.Passes.{lines}
use Rattle.tests_codec.proofs.inbox_crowd.for_four.Goals as goal

pub returns-clause-puts : goal.returns-clause-puts
returns-clause-puts g c = λ k d _ less. lines _ _ _ c.new_for_four-inbox.ensures.puts k d less
