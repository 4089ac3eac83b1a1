-- An entry of a journal: an event that a node accepted, and what its step gave.
use Rattle.node_core.specs.declared.state.Stepped.{Stepped}
use Rattle.node_events.specs.declared.event.NodeEvent.{NodeEvent}
use Rattle.node_journal.specs.declared.entry.Entry.{Entry}

-- what its step gave
abbrev pub stepped_of : Entry → Stepped
stepped_of e = record { reply = e.reply; outbox = e.outbox }

-- a step of a run (`IsRun` of a node)
abbrev pub step_of : Entry → NodeEvent × Stepped
step_of e = (e.event, stepped_of e)
