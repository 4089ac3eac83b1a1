-- Histories that meet the premises of the laws of what is left, each in two parts: up to a place,
-- and from then on. The rule is our own.
use Rattle.std.specs.Prelude.{◌==◌, List, [], ◌∷◌, Some, None, ◌||◌}
use Rattle.meta_types.specs.Name.{Key}
use Rattle.meta_types.specs.Value.{ValueParts}
use Rattle.past_model.specs.declared.happening.Happening.{Happening}
use Rattle.past_model.specs.declared.happening.Happening.TheVariants.{Wrote, Looked, Sent, Got, Kept, Restarted}
use Rattle.past_model.specs.Sets.{Places}

-- two keys of a byte each, and a tombstone
abbrev pub one_key : Key
one_key = record { prefix = record { prefix = 112 ∷ []; sub = 115 ∷ [] }; key = 107 ∷ [] }

abbrev pub other_key : Key
other_key = record { prefix = record { prefix = 112 ∷ []; sub = 115 ∷ [] }; key = 108 ∷ [] }

abbrev pub tombstone : ValueParts
tombstone = record { stamp = 2; body = None }

-- ---- a value is deleted, and all that is left of it is overwritten

-- node 0 writes a value, reads it, deletes it and tells node 1, which keeps that
abbrev pub deleted : ValueParts → List Happening
deleted v =
    Wrote 0 one_key v None ∷ Looked 0 one_key
    ∷ Wrote 0 one_key tombstone (Some 1) ∷ Sent 0 one_key ∷ Got 1 3 ∷ Kept 1 one_key ∷ []

-- node 0 keeps another key and restarts from that image, node 1 from the one it had; node 2 gets
-- what was sent before; node 1 writes with the context that saw the value, and tells node 2
abbrev pub after_deletion : ValueParts → List Happening
after_deletion u =
    Kept 0 other_key ∷ Restarted 0 3 ∷ Restarted 1 1 ∷ Got 2 3 ∷ Wrote 1 one_key u (Some 1)
    ∷ Sent 1 one_key ∷ Got 2 11 ∷ []

-- ---- a value and its deletion are lost

-- node 0 writes a value, reads it, deletes it, tells nobody, and restarts from the empty image;
-- then it is read, and sends what it knows
abbrev pub lost : ValueParts → List Happening
lost v =
    Wrote 0 one_key v None ∷ Looked 0 one_key ∷ Wrote 0 one_key tombstone (Some 1)
    ∷ Sent 0 one_key ∷ Restarted 0 0 ∷ Looked 0 one_key ∷ Sent 0 one_key ∷ []

-- the places of the value and of its deletion
abbrev pub lost_writes : Places
lost_writes p = p == 0 || p == 2

-- node 0 writes with what was read last, and node 1 gets what was sent last; node 0 tells node 1,
-- which keeps that; both restart from images of it, and node 2 from the empty one
abbrev pub after_loss : ValueParts → List Happening
after_loss u =
    Wrote 0 one_key u (Some 5) ∷ Got 1 6 ∷ Sent 0 one_key ∷ Got 1 9 ∷ Kept 1 one_key
    ∷ Restarted 0 3 ∷ Restarted 1 1 ∷ Restarted 2 0 ∷ []

-- ---- an image has the value without its deletion

-- node 0 writes a value and tells node 1, which reads and deletes it, and tells node 0
abbrev pub deleted_elsewhere : ValueParts → List Happening
deleted_elsewhere v =
    Wrote 0 one_key v None ∷ Sent 0 one_key ∷ Got 1 1 ∷ Looked 1 one_key
    ∷ Wrote 1 one_key tombstone (Some 3) ∷ Sent 1 one_key ∷ Got 0 5 ∷ []

-- node 0 keeps another key, and restarts from that image
abbrev pub after_keeping : List Happening
after_keeping = Kept 0 other_key ∷ Restarted 0 2 ∷ []
