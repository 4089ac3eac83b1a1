-- Entries are equal if their events are, and what they gave.
use Rattle.std.specs.Prelude.{◌≡◌, Bool}
use Rattle.std.specs.Bool.{Decides}
use Rattle.std.specs.Ordering.{on, eq_of_both}
use Rattle.std.specs.Cmp.{IsEquivalence, decided}
use Rattle.meta_types.specs.Ties.{both_decide}
use Rattle.node_core.specs.Equal.{stepped_eq, stepped_eq-Decides}
use Rattle.node_events.specs.EqualEvents.{event_eq, event_eq-Decides}
use Rattle.node_journal.specs.Entry.{stepped_of}
use Rattle.node_journal.specs.declared.entry.Entry.{Entry}

abbrev pub journal_entry_eq : Entry → Entry → Bool
journal_entry_eq = eq_of_both (on (λ e. e.event) event_eq) (on stepped_of stepped_eq)

pub journal_entry_eq-Decides : (e f : Entry) → Decides (journal_entry_eq e f) (e ≡ f)
journal_entry_eq-Decides e f = both_decide
    (event_eq e.event f.event) (stepped_eq (stepped_of e) (stepped_of f))
    (event_eq-Decides e.event f.event) (stepped_eq-Decides (stepped_of e) (stepped_of f))
    (λ events given i. record {
      event = events i;
      reply = (given i).reply;
      outbox = (given i).outbox;
    })
    (λ same i. (same i).event) (λ same i. stepped_of (same i))

pub journal_entry_equivalence : IsEquivalence journal_entry_eq
journal_entry_equivalence = decided journal_entry_eq journal_entry_eq-Decides
