-- The parcels of one sender.
use Rattle.std.specs.Prelude.{ℕ, ◌==◌, List, [], ◌∷◌, if◌then◌else◌}
use Rattle.inbox.specs.declared.parcel.Parcel.{Parcel}

-- the parcels of the sender of this number, in their order
abbrev pub parcels_of : ℕ → List Parcel → List Parcel
parcels_of p [] = []
parcels_of p (x ∷ xs) = if x.from == p then x ∷ parcels_of p xs else parcels_of p xs
