-- Changes of who is a peer in two steps are the changes.
use Rattle.std.proofs.Common.{◌≡◌, ℕ, Bool, cond, List, [], ◌∷◌, ◌||◌, map, true, false, refl, sym, ap, ◌∙◌}
use Rattle.std.proofs.lemmas.Bool.{cond_both}
use Rattle.std.specs.List.{filter}
use Rattle.peer_lists.specs.Lists.{has, put_last}
use Rattle.plumtree.specs.declared.entry.PeerChange.{PeerChange}
use Rattle.plumtree.specs.declared.entry.PeerChange.TheVariants.{Up, Down}
use Rattle.plumtree.specs.Rows.{up, down, is_not_to, without_announcer}
use Rattle.plumtree.specs.Broadcast.{Broadcast, broadcast_of, broadcast_with, draft_of, peer_call}
use Rattle.plumtree.specs.Draft.{Draft}
use Rattle.plumtree.specs.Lawful.{after_call, broadcast_after}
use Rattle.plumtree.specs.Ticking.{Peers, peers_of, with_peers}

-- the broadcast after these changes
abbrev pub changed : Broadcast → List PeerChange → Broadcast
changed b changes = broadcast_after b (map peer_call changes)

-- ---- who is a peer after changes depends on who was a peer before, and on nothing else

-- the broadcast with these peers, in which nothing waits
abbrev pub alone : Peers → Broadcast
alone peers = broadcast_with peers.eager peers.lazy [] []

-- the draft after this node came, which may be known
abbrev after_up : ℕ → Draft → Bool → Draft
after_up node t known = cond known t (record t { eager = put_last node t.eager })

-- one change makes the same peers where nothing waits
change-alone : (change : PeerChange) (b : Broadcast) → peers_of (after_call b (peer_call change)) ≡ peers_of (after_call (alone (peers_of b)) (peer_call change))
unfolding up down
change-alone (Up node) b =
    elim (has b.eager node || has b.lazy node) as
    (λ known. peers_of (broadcast_of (after_up node (draft_of b) known)) ≡ peers_of (broadcast_of (after_up node (draft_of (alone (peers_of b))) known))) [
      | true ↦ refl
      | false ↦ refl
    ]
change-alone (Down node) b = refl

-- and so do many
pub changes-alone : (changes : List PeerChange) (b : Broadcast) → peers_of (changed b changes) ≡ peers_of (changed (alone (peers_of b)) changes)
changes-alone [] b = refl
changes-alone (change ∷ changes) b =
    changes-alone changes (after_call b (peer_call change)) ∙ ap (λ peers. peers_of (changed (alone peers) changes)) (change-alone change b)
    ∙ sym (changes-alone changes (after_call (alone (peers_of b)) (peer_call change)))

-- ---- what waits after changes doesn't depend on who was a peer before

-- one who comes changes nothing that waits
pub up-waits : (node : ℕ) (peers : Peers) (b : Broadcast) → with_peers peers (after_call b (peer_call (Up node))) ≡ with_peers peers b
unfolding up
up-waits node peers b = cond_both (has b.eager node || has b.lazy node) (draft_of b) _ (λ (t : Draft). with_peers peers (broadcast_of t) ≡ with_peers peers b) (λ _. refl) (λ _. refl)

-- one who goes leaves the queue and the announcers
pub down-waits : (node : ℕ) (peers : Peers) (b : Broadcast) → with_peers peers (after_call b (peer_call (Down node)))
    ≡ broadcast_with peers.eager peers.lazy (filter (is_not_to node) b.queue) (map (without_announcer node) b.missing)
unfolding down
down-waits node peers b = refl

-- one change leaves the same waiting, whoever was a peer
change-waits : (change : PeerChange) (peers : Peers) (b : Broadcast)
    → with_peers peers (after_call b (peer_call change)) ≡ with_peers peers (after_call (with_peers peers b) (peer_call change))
change-waits (Up node) peers b = up-waits node peers b ∙ sym (up-waits node peers (with_peers peers b))
change-waits (Down node) peers b = down-waits node peers b ∙ sym (down-waits node peers (with_peers peers b))

-- and so do many
changes-wait : (changes : List PeerChange) (peers : Peers) (b : Broadcast) → with_peers peers (changed b changes) ≡ with_peers peers (changed (with_peers peers b) changes)
changes-wait [] peers b = refl
changes-wait (change ∷ changes) peers b =
    changes-wait changes peers (after_call b (peer_call change)) ∙ ap (λ b. with_peers peers (changed b changes)) (change-waits change peers b)
    ∙ sym (changes-wait changes peers (after_call (with_peers peers b) (peer_call change)))

-- changes leave the same waiting in two broadcasts in which the same waited
pub same-waits : (changes : List PeerChange) (peers : Peers) (b c : Broadcast) → with_peers peers b ≡ with_peers peers c
    → with_peers peers (changed b changes) ≡ with_peers peers (changed c changes)
same-waits changes peers b c same =
    changes-wait changes peers b ∙ ap (λ b. with_peers peers (changed b changes)) same ∙ sym (changes-wait changes peers c)
