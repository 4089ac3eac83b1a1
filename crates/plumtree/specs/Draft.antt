-- The broadcast in the midst of a call, with what the call has given out so far, and the small
-- steps that the rows of the table are made of.
use Rattle.std.specs.Prelude.{ℕ, List, [], ◌∷◌, ◌++◌, map, if◌then◌else◌}
use Rattle.meta_types.specs.Name.{Key}
use Rattle.dvvset.specs.Object.{Counter}
use Rattle.meta_frame.specs.declared.message.Message.{Message}
use Rattle.plumtree.specs.declared.entry.Announcement.{Announcement}
use Rattle.plumtree.specs.declared.entry.CastOut.{CastOut}
use Rattle.plumtree.specs.declared.entry.CastOut.TheVariants.{Gossip, Send}
use Rattle.peer_lists.specs.Lists.{has, without, put_last}
use Rattle.plumtree.specs.Missing.{MissingObject}

-- eager and lazy peers, the announcements that wait for the next tick, the objects that the node
-- waits for, and what the call has given out
pub record Draft : Type 0 where
  pub eager : List ℕ
  pub lazy : List ℕ
  pub queue : List Announcement
  pub missing : List MissingObject
  pub out : List CastOut

-- ---- what is given out goes last

abbrev pub send : ℕ → Message → Draft → Draft
send to message t = record t { out = t.out ++ Send to message ∷ [] }

-- the object under the key goes to each of these
abbrev pub gossip_to : List ℕ → ℕ → Key → Draft → Draft
gossip_to peers round key t = record t { out = t.out ++ map (λ to. Gossip to round key) peers }

abbrev pub announcement_to : ℕ → Key → List Counter → ℕ → Announcement
announcement_to round key vector peer =
    record { peer = peer; round = round; key = key; vector = vector }

-- it is announced to each of these at the next tick
abbrev pub announce_to : List ℕ → ℕ → Key → List Counter → Draft → Draft
announce_to peers round key vector t =
    record t { queue = t.queue ++ map (announcement_to round key vector) peers }

-- ---- a peer that is in the one list goes last in the other; any other node changes nothing

abbrev pub gained : ℕ → List ℕ → List ℕ → List ℕ
gained x from to = if has from x then put_last x to else to

abbrev pub becomes_eager : ℕ → Draft → Draft
becomes_eager x t = record t { eager = gained x t.lazy t.eager; lazy = without x t.lazy }

abbrev pub becomes_lazy : ℕ → Draft → Draft
becomes_lazy x t = record t { eager = without x t.eager; lazy = gained x t.eager t.lazy }
