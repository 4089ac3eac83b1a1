-- Why a step that could be made isn't: what it stores isn't spelled.
use Rattle.std.proofs.Common.{◌≡◌, ℕ, Option, Result, Ok, Err, sym, subst}
use Rattle.std.specs.Prelude.{IfErr}
use Rattle.std.specs.Result.{IsErrAnd}
use Rattle.node_core.specs.Node.{NodeParts}
use Rattle.node_core.specs.Step.{IsNodeStep}
use Rattle.node_core.specs.declared.state.Stepped.{Stepped}
use Rattle.node_events.specs.Event.{stored_key}
use Rattle.node_events.specs.declared.event.NodeEvent.{NodeEvent}
use Rattle.node_file.specs.declared.record.Record.{Record}
use Rattle.node_file.specs.Stored.{record_under}
use Rattle.node_hosted.specs.declared.fault.HostFault.{HostFault}
use Rattle.node_hosted.specs.declared.fault.HostFault.TheVariants.{FileFull, Memory}
use Rattle.node_hosted.specs.Hosting.{HostedParts, IsWanted, MayStep, RefusesActing, RefusesSpelling, next_gate}

pub refuses : (old new : HostedParts) (event : NodeEvent) (state : NodeParts) (stepped : Stepped) (fault : HostFault) → MayStep old
    → IsNodeStep old.state event state stepped → RefusesSpelling (next_gate old) (record_under (stored_key event) state.table) fault
    → new ≡ old → RefusesActing old event new fault
refuses old new event state stepped FileFull may step why same =
    (may, record { state = state; stepped = stepped; step = step; full = why }, same)
refuses old new event state stepped Memory may step why same = (may, same)
refuses old new event state stepped _ may step why same = absurd why

-- memory ran out for what there is room for
pub no_memory : {A : Type 0} (result : Result A HostFault) (gate : Option ℕ) (stored : Option Record) → IsErrAnd result (λ fault. fault ≡ Memory)
    → IsWanted gate stored → IfErr result (RefusesSpelling gate stored)
no_memory (Ok done) gate stored is wanted = tt
no_memory (Err fault) gate stored is wanted = subst (RefusesSpelling gate stored) (sym is) wanted
