use Rattle.driver.proofs.Living.{call_is_led, changes_lead_on, nothing_is_past_due}
use Rattle.driver.proofs.laws.a_call_does_what_is_next.Goals as goal

pub returns-clause-led : goal.returns-clause-led
returns-clause-led c = call_is_led

pub returns-clause-on : goal.returns-clause-on
returns-clause-on c = changes_lead_on

pub returns-clause-all : goal.returns-clause-all
returns-clause-all c = nothing_is_past_due
