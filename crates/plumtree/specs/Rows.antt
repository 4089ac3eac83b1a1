-- The table of the broadcast: what each call does, one definition for each row, in the table's
-- order. The idea and the names of messages are Plumtree's, the rules are our own.
use Rattle.std.specs.Prelude.{ℕ, ◌+◌, ◌-◌, Bool, not, ◌||◌, ◌&&◌, List, [], ◌∷◌, ◌++◌, map, min, Option, Some, None, slice_set, slice_index_or, nat_eq, nat_lt, if◌then◌else◌}
use Rattle.std.specs.List.{list_any, filter, position}
use Rattle.meta_types.specs.Name.{Key}
use Rattle.dvvset.specs.Object.{Counter}
use Rattle.dvvset.specs.Clock.{descends}
use Rattle.dvvset.specs.Equal.{counters_eq}
use Rattle.meta_types.specs.Equal.{key_eq}
use Rattle.meta_frame.specs.declared.message.Message.TheVariants.{IHave, Graft, Prune}
use Rattle.plumtree.specs.declared.entry.Announcement.{Announcement}
use Rattle.plumtree.specs.declared.entry.Announcer.{Announcer}
use Rattle.plumtree.specs.declared.entry.CastOut.{CastOut}
use Rattle.plumtree.specs.declared.entry.CastOut.TheVariants.{Send}
use Rattle.peer_lists.specs.Lists.{has, without, put_last, without_all}
use Rattle.plumtree.specs.Missing.{MissingObject}
use Rattle.plumtree.specs.Draft.{Draft, send, gossip_to, announce_to, becomes_eager, becomes_lazy}
use Rattle.meta_types.specs.Chain.{◌▷◌}

-- ---- a node becomes a peer, an eager one

unfoldable pub up : ℕ → Draft → Draft
up x t =
    if has t.eager x || has t.lazy x then t else (record t { eager = put_last x t.eager })

-- ---- a node is no longer a peer: announcements to it leave the queue, and it leaves the
-- announcers of each missing object, which stays missing

abbrev pub is_not_to : ℕ → Announcement → Bool
is_not_to x a = not (nat_eq x a.peer)

abbrev pub is_not_by : ℕ → Announcer → Bool
is_not_by x a = not (nat_eq x a.peer)

abbrev pub without_announcer : ℕ → MissingObject → MissingObject
without_announcer x m = record m { announcers = filter (is_not_by x) m.announcers }

unfoldable pub down : ℕ → Draft → Draft
down x t =
    record t {
      eager = without x t.eager;
      lazy = without x t.lazy;
      queue = filter (is_not_to x) t.queue;
      missing = map (without_announcer x) t.missing;
    }

-- ---- a write of the node

unfoldable pub on_broadcast : Key → List Counter → Draft → Draft
on_broadcast key vector t = t ▷ gossip_to t.eager 0 key ▷ announce_to t.lazy 0 key vector

-- ---- GOSSIP: a fresh object is passed on to all but its sender, which becomes eager; a stale one
-- is passed on to nobody, and its sender becomes lazy and is sent PRUNE

-- the greatest round, which is the greatest number of its field
abbrev pub greatest_round : ℕ
greatest_round = 65535

-- the round after this one; the greatest stays
abbrev pub next_round : ℕ → ℕ
next_round round = min (round + 1) greatest_round

unfoldable pub on_fresh : ℕ → ℕ → Key → List Counter → Draft → Draft
on_fresh from round key vector t =
    let others = without_all (from ∷ []) in
    t ▷ gossip_to (others t.eager) (next_round round) key
    ▷ announce_to (others t.lazy) (next_round round) key vector ▷ becomes_eager from

unfoldable pub on_stale : ℕ → Draft → Draft
on_stale from t = t ▷ becomes_lazy from ▷ send from Prune

-- ---- PRUNE: its sender becomes lazy

unfoldable pub on_prune : ℕ → Draft → Draft
on_prune from t = becomes_lazy from t

-- ---- IHAVE: an object that isn't here is waited for

-- of the same key and the same vector
abbrev pub is_of : Key → List Counter → MissingObject → Bool
is_of key vector m = key_eq m.key key && counters_eq m.vector vector

abbrev pub is_announced_by : ℕ → List Announcer → Bool
is_announced_by x announcers = list_any (λ a. nat_eq x a.peer) announcers

abbrev pub announcer : ℕ → ℕ → Announcer
announcer from round = record { peer = from; round = round }

-- one more announcer, unless it announced it before
abbrev pub with_announcer : ℕ → ℕ → MissingObject → MissingObject
with_announcer from round m =
    if is_announced_by from m.announcers then m
    else (record m { announcers = m.announcers ++ announcer from round ∷ [] })

-- how many ticks an announced object has to come by another way, before it is asked for
abbrev pub announced_patience : ℕ
announced_patience = 2

abbrev pub first_announced : ℕ → ℕ → Key → List Counter → MissingObject
first_announced from round key vector = record {
  key = key;
  vector = vector;
  announcers = announcer from round ∷ [];
  ticks = announced_patience;
}

-- the object at this place, if there is one, has one more announcer; otherwise a new one goes last
abbrev pub noted_at : Option ℕ → ℕ → ℕ → Key → List Counter → List MissingObject
    → List MissingObject
noted_at None from round key vector ms = ms ++ first_announced from round key vector ∷ []
noted_at (Some i) from round key vector ms =
    let new = first_announced from round key vector in
    slice_set ms i (with_announcer from round (slice_index_or ms i new))

abbrev pub noted : ℕ → ℕ → Key → List Counter → List MissingObject → List MissingObject
noted from round key vector ms =
    noted_at (position (is_of key vector) ms) from round key vector ms

unfoldable pub on_ihave : ℕ → ℕ → Key → List Counter → Bool → Draft → Draft
on_ihave from round key vector stale t =
    if stale then t else (record t { missing = noted from round key vector t.missing })

-- ---- GRAFT: its sender becomes eager, and is sent the object, in the round that it asked for, if
-- it is held

unfoldable pub on_graft : ℕ → ℕ → Key → Bool → Draft → Draft
on_graft from round key held t =
    t ▷ becomes_eager from ▷ gossip_to (if held then from ∷ [] else []) round key

-- ---- the object under a key changed: what its context descends isn't missing any more

abbrev pub is_still_missing : Key → List Counter → MissingObject → Bool
is_still_missing key vector m =
    not (key_eq m.key key && descends vector m.vector)

unfoldable pub on_change : Key → List Counter → Draft → Draft
on_change key vector t =
    record t { missing = filter (is_still_missing key vector) t.missing }

-- ---- a tick: first all announcements that wait go out, then each missing object in order loses a
-- tick; at 0 the first that announced it is asked for it: it leaves the announcers and becomes
-- eager, and the object waits for the next; without one the object is forgotten

-- an announcement goes out as IHAVE
abbrev pub ihave_of : Announcement → CastOut
ihave_of a = Send a.peer (IHave a.round a.key a.vector)

-- all that wait go out, in order, and the queue becomes empty
abbrev pub send_announcements : Draft → Draft
send_announcements t = record t { queue = []; out = t.out ++ map ihave_of t.queue }

-- the list is built again, in order: it begins empty
abbrev pub none_missing : Draft → Draft
none_missing t = record t { missing = [] }

-- the object stays missing, and goes last in the new list
abbrev pub keep : MissingObject → Draft → Draft
keep m t = record t { missing = t.missing ++ m ∷ [] }

-- how many ticks the announcer that was asked has, before the next is asked
abbrev pub asked_patience : ℕ
asked_patience = 1

-- the first of these announcers is asked, and the object is kept; without one it isn't kept
abbrev pub ask_first : MissingObject → List Announcer → Draft → Draft
ask_first m [] t = t
ask_first m (a ∷ others) t =
    t ▷ becomes_eager a.peer ▷ send a.peer (Graft a.round m.key m.vector)
    ▷ keep (record m { announcers = others; ticks = asked_patience })

-- a missing object loses a tick, and is asked for if that was the last
unfoldable pub tick_one : MissingObject → Draft → Draft
tick_one m t =
    if nat_lt 1 m.ticks
    then keep (record m { ticks = m.ticks - 1 }) t
    else ask_first m m.announcers t

-- each of these in order
abbrev pub tick_each : List MissingObject → Draft → Draft
tick_each [] t = t
tick_each (m ∷ ms) t = tick_each ms (tick_one m t)

unfoldable pub on_tick : Draft → Draft
on_tick t = t ▷ send_announcements ▷ none_missing ▷ tick_each t.missing
