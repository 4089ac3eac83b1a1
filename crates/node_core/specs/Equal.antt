-- What two steps gave is equal if their replies and all their frames are.
use Rattle.std.specs.Prelude.{◌≡◌, Bool}
use Rattle.std.specs.Bool.{Decides}
use Rattle.std.specs.Ordering.{on, eq_of_both}
use Rattle.std.specs.Cmp.{IsEquivalence, decided}
use Rattle.meta_types.specs.Ties.{both_decide}
use Rattle.node_events.specs.Equal.{frames_eq, frames_eq-Decides}
use Rattle.node_events.specs.EqualEvents.{reply_eq, reply_eq-Decides}
use Rattle.node_core.specs.declared.state.Stepped.{Stepped}

abbrev pub stepped_eq : Stepped → Stepped → Bool
stepped_eq = eq_of_both (on (λ s. s.reply) reply_eq) (on (λ s. s.outbox) frames_eq)

pub stepped_eq-Decides : (s t : Stepped) → Decides (stepped_eq s t) (s ≡ t)
stepped_eq-Decides s t = both_decide
    (reply_eq s.reply t.reply) (frames_eq s.outbox t.outbox)
    (reply_eq-Decides s.reply t.reply) (frames_eq-Decides s.outbox t.outbox)
    (λ replies outboxes i. record { reply = replies i; outbox = outboxes i })
    (λ same i. (same i).reply) (λ same i. (same i).outbox)

pub stepped_equivalence : IsEquivalence stepped_eq
stepped_equivalence = decided stepped_eq stepped_eq-Decides
