-- Each call of the broadcast names nodes alone, and asks for objects under lawful keys, in rounds of frames.
use Rattle.std.proofs.Common.{◌≡◌, ℕ, ◌+◌, ◌-◌, ◌<◌, ◌^◌, min, Bool, true, false, ◌||◌, List, [], ◌∷◌, ◌++◌, map, nat_lt, slice_index_or, All, Option, Some, None, refl, arith}
use Rattle.std.specs.List.{position}
use Rattle.std.proofs.lemmas.Bool.{cond_both}
use Rattle.std.proofs.lemmas.List.Elements.{All-nil, All-cons, All-head, All-tail, All-push, All-append, All-map, All-weaker, All-filter, All-set}
use Rattle.meta_types.specs.Name.{Key}
use Rattle.meta_types.specs.Node.{IsNode}
use Rattle.dvvset.specs.Object.{Counter}
use Rattle.meta_frame.specs.declared.message.Message.{Message}
use Rattle.meta_frame.specs.declared.message.Message.TheVariants.{Graft, Prune}
use Rattle.peer_lists.specs.Lists.{has, put_last, without_all}
use Rattle.plumtree.specs.declared.entry.Announcement.{Announcement}
use Rattle.plumtree.specs.declared.entry.Announcer.{Announcer}
use Rattle.plumtree.specs.declared.entry.CastOut.{CastOut}
use Rattle.plumtree.specs.declared.entry.CastOut.TheVariants.{Gossip, Send}
use Rattle.plumtree.specs.Missing.{MissingObject}
use Rattle.plumtree.specs.Draft.{Draft, announcement_to, announce_to, becomes_eager, becomes_lazy, gained, gossip_to, send}
use Rattle.plumtree.specs.Rows.{up, down, on_broadcast, on_fresh, on_stale, on_prune, on_ihave, on_graft, on_change, on_tick, announcer, ask_first, first_announced, is_announced_by, is_not_by, is_not_to, is_of, is_still_missing, keep, next_round, none_missing, noted, noted_at, ihave_of, send_announcements, tick_each, tick_one, with_announcer, without_announcer}
use Rattle.plumtree.specs.Broadcast.{Broadcast, CastCall, Up, Down, Broadcasts, TakesFresh, TakesStale, TakesPrune, TakesIHave, TakesGraft, Changes, Tick, draft_of, row}
use Rattle.plumtree.specs.Lawful.{after_call}
use Rattle.node_outcomes.specs.Lawful.{NamesNodes}
use Rattle.node_outcomes.proofs.Views.{All-put_last, All-without, All-without_all, index_all}

abbrev IsOfNode : Announcement → Type 0
IsOfNode a = IsNode a.peer

abbrev IsByNode : Announcer → Type 0
IsByNode a = IsNode a.peer

abbrev IsByNodes : MissingObject → Type 0
IsByNodes m = All IsByNode m.announcers

round_below : (n : ℕ) → min n 65535 < 2 ^ 16
round_below n = omega arith

-- what is given out goes to a node; an object that is to be sent is in the round of a frame, and under a key
-- that has this
module _ (P : Key → Type 0) where
  abbrev pub IsToNode : CastOut → Type 0
  IsToNode (Gossip to round key) = IsNode to × (round < 2 ^ 16) × P key
  IsToNode (Send to message) = IsNode to

  pub record NamesIn (t : Draft) : Type 0 where
    pub eager : All IsNode t.eager
    pub lazy : All IsNode t.lazy
    pub queue : All IsOfNode t.queue
    pub missing : All IsByNodes t.missing
    pub out : All IsToNode t.out

  -- ---- the small steps

  All-gained : (x : ℕ) (from to : List ℕ) → IsNode x → All IsNode to → All IsNode (gained x from to)
  All-gained x from to is h = cond_both (has from x) (put_last x to) to (All IsNode) (λ _. All-put_last IsNode x to is h) (λ _. h)

  NamesIn-becomes_eager : (x : ℕ) (t : Draft) → IsNode x → NamesIn t → NamesIn (becomes_eager x t)
  NamesIn-becomes_eager x t is h = record {
    eager = All-gained x t.lazy t.eager is h.eager;
    lazy = All-without IsNode x t.lazy h.lazy;
    queue = h.queue;
    missing = h.missing;
    out = h.out;
  }

  NamesIn-becomes_lazy : (x : ℕ) (t : Draft) → IsNode x → NamesIn t → NamesIn (becomes_lazy x t)
  NamesIn-becomes_lazy x t is h = record {
    eager = All-without IsNode x t.eager h.eager;
    lazy = All-gained x t.eager t.lazy is h.lazy;
    queue = h.queue;
    missing = h.missing;
    out = h.out;
  }

  NamesIn-send : (to : ℕ) (m : Message) (t : Draft) → IsNode to → NamesIn t → NamesIn (send to m t)
  NamesIn-send to m t is h = record {
    eager = h.eager;
    lazy = h.lazy;
    queue = h.queue;
    missing = h.missing;
    out = All-push IsToNode t.out (Send to m) h.out is;
  }

  NamesIn-gossip_to : (peers : List ℕ) (round : ℕ) (key : Key) (t : Draft) → All IsNode peers → round < 2 ^ 16 → P key → NamesIn t
      → NamesIn (gossip_to peers round key t)
  NamesIn-gossip_to peers round key t all low is h = record {
    eager = h.eager;
    lazy = h.lazy;
    queue = h.queue;
    missing = h.missing;
    out =
        All-append IsToNode t.out (map (λ to. Gossip to round key) peers) h.out
        (All-map IsToNode (λ to. Gossip to round key) peers
        (All-weaker IsNode (λ to. IsToNode (Gossip to round key)) (λ to node. (node, low, is)) peers all));
  }

  NamesIn-announce_to : (peers : List ℕ) (round : ℕ) (key : Key) (vector : List Counter) (t : Draft) → All IsNode peers → NamesIn t
      → NamesIn (announce_to peers round key vector t)
  NamesIn-announce_to peers round key vector t all h = record {
    eager = h.eager;
    lazy = h.lazy;
    queue =
        All-append IsOfNode t.queue (map (announcement_to round key vector) peers) h.queue
        (All-map IsOfNode (announcement_to round key vector) peers all);
    missing = h.missing;
    out = h.out;
  }

  NamesIn-keep : (m : MissingObject) (t : Draft) → IsByNodes m → NamesIn t → NamesIn (keep m t)
  NamesIn-keep m t by h = record {
    eager = h.eager;
    lazy = h.lazy;
    queue = h.queue;
    missing = All-push IsByNodes t.missing m h.missing by;
    out = h.out;
  }

  -- ---- what is missing

  IsByNodes-with_announcer : (from round : ℕ) (m : MissingObject) → IsNode from → IsByNodes m
      → IsByNodes (with_announcer from round m)
  IsByNodes-with_announcer from round m is by =
      cond_both (is_announced_by from m.announcers) m
      (record m { announcers = m.announcers ++ announcer from round ∷ [] }) IsByNodes (λ _. by)
      (λ _. All-push IsByNode m.announcers (announcer from round) by is)

  IsByNodes-first : (from round : ℕ) (key : Key) (vector : List Counter) → IsNode from
      → IsByNodes (first_announced from round key vector)
  IsByNodes-first from round key vector is = All-cons IsByNode (announcer from round) [] is (All-nil IsByNode)

  All-noted_at : (o : Option ℕ) (from round : ℕ) (key : Key) (vector : List Counter) (ms : List MissingObject) → IsNode from
      → All IsByNodes ms
      → All IsByNodes (noted_at o from round key vector ms)
  All-noted_at None from round key vector ms is h =
      All-push IsByNodes ms (first_announced from round key vector) h (IsByNodes-first from round key vector is)
  All-noted_at (Some i) from round key vector ms is h =
      let new = first_announced from round key vector in
      let old = slice_index_or ms i new in
      All-set IsByNodes ms i (with_announcer from round old)
      (IsByNodes-with_announcer from round old is (index_all IsByNodes ms i new h (IsByNodes-first from round key vector is))) h

  -- ---- a tick

  NamesIn-ask_first : (m : MissingObject) (rest : List Announcer) (t : Draft) → All IsByNode rest → NamesIn t
      → NamesIn (ask_first m rest t)
  NamesIn-ask_first m [] t by h = h
  NamesIn-ask_first m (a ∷ rest) t by h =
      let first = All-head IsByNode a rest by in
      let asked = Graft a.round m.key m.vector in
      NamesIn-keep (record m { announcers = rest; ticks = 1 }) (send a.peer asked (becomes_eager a.peer t))
      (All-tail IsByNode a rest by)
      (NamesIn-send a.peer asked (becomes_eager a.peer t) first (NamesIn-becomes_eager a.peer t first h))

  NamesIn-tick_one : (m : MissingObject) (t : Draft) → IsByNodes m → NamesIn t → NamesIn (tick_one m t)
  unfolding tick_one
  NamesIn-tick_one m t by h =
      cond_both (nat_lt 1 m.ticks) (keep (record m { ticks = m.ticks - 1 }) t) (ask_first m m.announcers t) NamesIn
      (λ _. NamesIn-keep (record m { ticks = m.ticks - 1 }) t by h)
      (λ _. NamesIn-ask_first m m.announcers t by h)

  NamesIn-tick_each : (ms : List MissingObject) (t : Draft) → All IsByNodes ms → NamesIn t → NamesIn (tick_each ms t)
  NamesIn-tick_each [] t by h = h
  NamesIn-tick_each (m ∷ ms) t by h =
      NamesIn-tick_each ms (tick_one m t) (All-tail IsByNodes m ms by) (NamesIn-tick_one m t (All-head IsByNodes m ms by) h)

  -- ---- the calls

  NamesIn-up : (x : ℕ) (t : Draft) → IsNode x → NamesIn t → NamesIn (up x t)
  unfolding up
  NamesIn-up x t is h =
      cond_both (has t.eager x || has t.lazy x) t (record t { eager = put_last x t.eager }) NamesIn (λ _. h)
      (λ _. record {
        eager = All-put_last IsNode x t.eager is h.eager;
        lazy = h.lazy;
        queue = h.queue;
        missing = h.missing;
        out = h.out;
      })

  NamesIn-down : (x : ℕ) (t : Draft) → NamesIn t → NamesIn (down x t)
  unfolding down
  NamesIn-down x t h = record {
    eager = All-without IsNode x t.eager h.eager;
    lazy = All-without IsNode x t.lazy h.lazy;
    queue = All-filter (is_not_to x) IsOfNode t.queue h.queue;
    missing =
        All-map IsByNodes (without_announcer x) t.missing
        (All-weaker IsByNodes (λ m. IsByNodes (without_announcer x m))
        (λ m by. All-filter (is_not_by x) IsByNode m.announcers by) t.missing h.missing);
    out = h.out;
  }

  NamesIn-on_fresh : (from round : ℕ) (key : Key) (vector : List Counter) (t : Draft) → IsNode from → P key → NamesIn t
      → NamesIn (on_fresh from round key vector t)
  unfolding on_fresh
  NamesIn-on_fresh from round key vector t is holds h =
      let next = next_round round in
      let gossiped = gossip_to (without_all (from ∷ []) t.eager) next key t in
      let told = announce_to (without_all (from ∷ []) t.lazy) next key vector gossiped in
      NamesIn-becomes_eager from told is
      (NamesIn-announce_to (without_all (from ∷ []) t.lazy) next key vector gossiped
      (All-without_all IsNode (from ∷ []) t.lazy h.lazy)
      (NamesIn-gossip_to (without_all (from ∷ []) t.eager) next key t (All-without_all IsNode (from ∷ []) t.eager h.eager)
      (round_below (round + 1)) holds h))

  NamesIn-on_ihave : (from round : ℕ) (key : Key) (vector : List Counter) (stale : Bool) (t : Draft) → IsNode from → NamesIn t
      → NamesIn (on_ihave from round key vector stale t)
  unfolding on_ihave
  NamesIn-on_ihave from round key vector stale t is h =
      cond_both stale t (record t { missing = noted from round key vector t.missing }) NamesIn (λ _. h)
      (λ _. record {
        eager = h.eager;
        lazy = h.lazy;
        queue = h.queue;
        missing = All-noted_at (position (is_of key vector) t.missing) from round key vector t.missing is h.missing;
        out = h.out;
      })

  NamesIn-on_graft : (from round : ℕ) (key : Key) (held : Bool) (t : Draft) → IsNode from → round < 2 ^ 16 → (held ≡ true → P key)
      → NamesIn t
      → NamesIn (on_graft from round key held t)
  unfolding on_graft
  NamesIn-on_graft from round key true t is low holds h =
      NamesIn-gossip_to (from ∷ []) round key (becomes_eager from t) (All-cons IsNode from [] is (All-nil IsNode)) low (holds refl)
      (NamesIn-becomes_eager from t is h)
  NamesIn-on_graft from round key false t is low holds h =
      let eager = NamesIn-becomes_eager from t is h in record {
        eager = eager.eager;
        lazy = eager.lazy;
        queue = eager.queue;
        missing = eager.missing;
        out = All-append IsToNode t.out [] h.out (All-nil IsToNode);
      }

  NamesIn-on_tick : (t : Draft) → NamesIn t → NamesIn (on_tick t)
  unfolding on_tick
  NamesIn-on_tick t h =
      NamesIn-tick_each t.missing (none_missing (send_announcements t)) h.missing
      (record {
        eager = h.eager;
        lazy = h.lazy;
        queue = All-nil IsOfNode;
        missing = All-nil IsByNodes;
        out = All-append IsToNode t.out (map ihave_of t.queue) h.out (All-map IsToNode ihave_of t.queue h.queue);
      })

  -- whom the call names is a node, and an object that it may ask for stands under a key that has this
  abbrev pub IsOfNodes : CastCall → Type 0
  IsOfNodes (Up peer) = IsNode peer
  IsOfNodes (Down peer) = Unit {0}
  IsOfNodes (Broadcasts key vector) = P key
  IsOfNodes (TakesFresh from round key vector) = IsNode from × P key
  IsOfNodes (TakesStale from) = IsNode from
  IsOfNodes (TakesPrune from) = IsNode from
  IsOfNodes (TakesIHave from round key vector stale) = IsNode from
  IsOfNodes (TakesGraft from round key held) = IsNode from × (round < 2 ^ 16) × (held ≡ true → P key)
  IsOfNodes (Changes key vector) = Unit {0}
  IsOfNodes Tick = Unit {0}

  NamesIn-call : (call : CastCall) (t : Draft) → IsOfNodes call → NamesIn t → NamesIn (row call t)
  unfolding on_broadcast on_stale on_prune on_change
  NamesIn-call (Up x) t of h = NamesIn-up x t of h
  NamesIn-call (Down x) t of h = NamesIn-down x t h
  NamesIn-call (Broadcasts key vector) t of h =
      NamesIn-announce_to t.lazy 0 key vector (gossip_to t.eager 0 key t) h.lazy
      (NamesIn-gossip_to t.eager 0 key t h.eager (omega arith) of h)
  NamesIn-call (TakesFresh from round key vector) t of h = NamesIn-on_fresh from round key vector t of.0 of.1 h
  NamesIn-call (TakesStale from) t of h = NamesIn-send from Prune (becomes_lazy from t) of (NamesIn-becomes_lazy from t of h)
  NamesIn-call (TakesPrune from) t of h = NamesIn-becomes_lazy from t of h
  NamesIn-call (TakesIHave from round key vector stale) t of h = NamesIn-on_ihave from round key vector stale t of h
  NamesIn-call (TakesGraft from round key held) t of h = NamesIn-on_graft from round key held t of.0 of.1 of.2 h
  NamesIn-call (Changes key vector) t of h = record {
    eager = h.eager;
    lazy = h.lazy;
    queue = h.queue;
    missing = All-filter (is_still_missing key vector) IsByNodes t.missing h.missing;
    out = h.out;
  }
  NamesIn-call Tick t of h = NamesIn-on_tick t h

  -- a call of a broadcast that names nodes alone
  pub names_called : (b : Broadcast) (call : CastCall) → NamesNodes b → IsOfNodes call → NamesIn (row call (draft_of b))
  names_called b call h of =
      NamesIn-call call (draft_of b) of (record {
        eager = h.eager;
        lazy = h.lazy;
        queue = h.queue;
        missing = h.missing;
        out = All-nil IsToNode;
      })

  pub NamesNodes-call : (b : Broadcast) (call : CastCall) → NamesNodes b → IsOfNodes call → NamesNodes (after_call b call)
  NamesNodes-call b call h of =
      let called = names_called b call h of in
      record { eager = called.eager; lazy = called.lazy; queue = called.queue; missing = called.missing }
