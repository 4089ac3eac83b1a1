-- What a world keeps of what it has accepted, as a list each; the view of a world and private
-- functions cite it.
use Rattle.std.specs.Prelude.{◌≡◌, ℕ, ◌+◌, ◌≤◌, List, [], ◌++◌}
use Rattle.restart_images.specs.Node.{ImagedNode}
use Rattle.world_core.specs.declared.chronicle.Chronicle.{Chronicle}
use Rattle.world_core.specs.World.{World}

-- the frames of the last event come after all others
abbrev pub frames_in : Chronicle → List (List ℕ)
frames_in c = c.sent ++ c.last.items

-- the world of these nodes
abbrev pub world_in : List ImagedNode → Chronicle → World
world_in nodes c = record {
  nodes = nodes;
  accepted = c.accepted.items;
  frames = frames_in c;
  contexts = c.contexts.items;
}

-- each list holds what it held
pub record IsSame (old new : Chronicle) : Type 0 where
  pub accepted : new.accepted.items ≡ old.accepted.items
  pub frames : frames_in new ≡ frames_in old
  pub contexts : new.contexts.items ≡ old.contexts.items

-- each list takes what one event adds, without more memory
pub record HasRoomForEvent (c : Chronicle) : Type 0 where
  pub accepted : c.accepted.len + 1 ≤ c.accepted.cap
  pub contexts : c.contexts.len + 1 ≤ c.contexts.cap
  pub settled : c.last.items ≡ []
