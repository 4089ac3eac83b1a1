-- A tick of the overlay: first the broadcast's, and then a shuffle of the views, if it is due.
use Rattle.std.specs.Prelude.{ℕ, ◌%◌, ◌==◌, Bool, List, ◌++◌, if◌then◌else◌}
use Rattle.hyparview.specs.declared.event.ViewEvent.TheVariants.{ShuffleDue}
use Rattle.plumtree.specs.Broadcast.{Tick}
use Rattle.node_overlay.specs.declared.envelope.Envelope.{Envelope}
use Rattle.node_overlay.specs.Origin.{whole_messages}
use Rattle.node_overlay.specs.Overlay.{Overlay, overlay_after_view, out_of, sent_by_view, overlay_after_call}

-- how many ticks there are from one shuffle of the views to the next
abbrev pub ticks_of_a_shuffle : ℕ
ticks_of_a_shuffle = 10

-- a shuffle is due at the tick of this number
abbrev pub is_due : ℕ → Bool
is_due ticks = ticks % ticks_of_a_shuffle == 0

-- the overlay after the tick of this number
abbrev pub overlay_after_tick : ℕ → ℕ → Overlay → Overlay
overlay_after_tick ticks word o =
    let after = overlay_after_call Tick o in
    if is_due ticks then overlay_after_view ShuffleDue word after else after

-- what that tick sends
abbrev pub sent_by_tick : ℕ → ℕ → Overlay → List Envelope
sent_by_tick ticks word o =
    let sent = whole_messages (out_of Tick o) in
    if is_due ticks then sent ++ sent_by_view ShuffleDue word (overlay_after_call Tick o) else sent
