-- Which entry gives what another needs: the bytes that it takes, or the context of a read that its
-- write has.
use Rattle.std.specs.Prelude.{ℕ, ◌≡◌, slice_get, Some}
use Rattle.meta_store.specs.Context.{Reading}
use Rattle.node_events.specs.declared.event.NodeEvent.{NodeEvent}
use Rattle.node_events.specs.declared.event.NodeEvent.TheVariants.{Take, Write}
use Rattle.node_events.specs.declared.reply.Reply.{Reply}
use Rattle.node_events.specs.declared.reply.Reply.TheVariants.{Looked}
use Rattle.node_journal.specs.declared.entry.Entry.{Entry}

-- the reply hands the context out, whatever the event: only a Looked does
abbrev pub IsHandedOut : Reading → Reply → Type 0
IsHandedOut c (Looked values context) = context ≡ c
IsHandedOut c reply = ⊥

-- the event takes bytes, or has read something
abbrev pub Needs : NodeEvent → Type 0
Needs (Take frame word) = Unit {0}
Needs (Write key value (Some context)) = Unit {0}
Needs event = ⊥

-- the entry sent the bytes, as the frame at this place of those that it sent; or it handed out what
-- was read
abbrev pub SuppliesAt : ℕ → Entry → NodeEvent → Type 0
SuppliesAt k e (Take frame word) = slice_get e.outbox k ≡ Some frame
SuppliesAt k e (Write key value (Some context)) = IsHandedOut context e.reply
SuppliesAt k e event = ⊥

abbrev pub Supplies : Entry → NodeEvent → Type 0
Supplies e event = (k : ℕ) × SuppliesAt k e event
