-- The peers of the broadcast stay the members of the active view.
use Rattle.std.proofs.Common.{◌≡◌, ℕ, Bool, true, false, not, ◌||◌, ◌&&◌, List, [], ◌∷◌, ◌++◌, map, nat_eq, ⊎_elim, cond, refl, sym, ap, subst, ◌∙◌}
use Rattle.std.specs.List.{IsDistinct}
use Rattle.std.proofs.lemmas.Bool.{eqb-true, cases_Bool}
use Rattle.std.proofs.lemmas.List.Folds.{list_any-append}
use Rattle.peer_lists.specs.Lists.{has, without, put_last}
use Rattle.peer_lists.proofs.Members.{has-without_same, has-without_other, IsDistinct-put_last, IsDistinct-without}
use Rattle.hyparview.specs.declared.event.ViewEvent.{ViewEvent}
use Rattle.hyparview.specs.declared.event.ViewOut.{ViewOut}
use Rattle.hyparview.specs.declared.event.ViewOut.TheVariants as OfViews
use Rattle.hyparview.specs.Lawful.{Follows}
use Rattle.hyparview.specs.Views.{draft_after, views_of}
use Rattle.hyparview.proofs.Standing.{each_step_tells_it_all, views_stay_lawful}
use Rattle.plumtree.specs.Broadcast.{Broadcast, CastCall, Up, Down, Broadcasts, TakesFresh, TakesStale, TakesPrune, TakesIHave, TakesGraft, Changes, Tick, peer_call}
use Rattle.plumtree.specs.Lawful.{HasLinks, after_call, broadcast_after, is_peer, is_peer_after}
use Rattle.plumtree.proofs.Standing.{stay_links, peers_come_and_go}
use Rattle.node_overlay.specs.Overlay.{ArePeers, IsOfNoPeer, Overlay, StayPeers, overlay_after_view, peer_changes}

-- the peers are the members of this list, in which each stands once
record Matches (members : List ℕ) (b : Broadcast) : Type 0 where
  once : IsDistinct nat_eq members
  links : HasLinks b
  same : (x : ℕ) → is_peer x b ≡ has members x

or_false : (a : Bool) → (a || false) ≡ a
or_false true = refl
or_false false = refl

came_last : (members : List ℕ) (node : ℕ) → has members node ≡ false
    → members ++ node ∷ [] ≡ put_last node members
came_last members node absent = sym (ap (λ b. cond b members (members ++ node ∷ [])) absent)

Matches-up : (members : List ℕ) (node : ℕ) (b : Broadcast) → has members node ≡ false
    → Matches members b → Matches (members ++ node ∷ []) (after_call b (Up node))
Matches-up members node b absent h =
    record {
      once = subst (IsDistinct nat_eq) (sym (came_last members node absent)) (IsDistinct-put_last node members h.once);
      links = stay_links.each_call b (Up node) h.links;
      same = λ x.
          peers_come_and_go b (Up node) x h.links ∙ ap (λ was. was || nat_eq x node) (h.same x)
          ∙ ap (λ last. has members x || last) (sym (or_false (nat_eq x node)))
          ∙ sym (list_any-append (nat_eq x) members (node ∷ []));
    }

without_it : (members : List ℕ) (node x : ℕ) → IsDistinct nat_eq members
    → (has members x && not (nat_eq x node)) ≡ has (without node members) x
without_it members node x once =
    ⊎_elim
    (λ same.
    ap (λ e. has members x && not e) same ∙ and_false (has members x)
    ∙ sym (subst (λ y. has (without node members) y ≡ false) (sym (eqb-true x node same)) (has-without_same node members once)))
    (λ differs.
    ap (λ e. has members x && not e) differs ∙ and_true (has members x)
    ∙ sym (has-without_other node x members differs))
    (cases_Bool (nat_eq x node)) where
      and_false : (a : Bool) → (a && false) ≡ false
      and_false true = refl
      and_false false = refl

      and_true : (a : Bool) → (a && true) ≡ a
      and_true true = refl
      and_true false = refl

Matches-down : (members : List ℕ) (node : ℕ) (b : Broadcast)
    → Matches members b → Matches (without node members) (after_call b (Down node))
Matches-down members node b h =
    record {
      once = IsDistinct-without node members h.once;
      links = stay_links.each_call b (Down node) h.links;
      same = λ x.
          peers_come_and_go b (Down node) x h.links
          ∙ ap (λ was. was && not (nat_eq x node)) (h.same x) ∙ without_it members node x h.once;
    }

-- the broadcast after it heard who came and who went
abbrev pub hearing : List ViewOut → Broadcast → Broadcast
hearing outs b = broadcast_after b (map peer_call (peer_changes outs))

Matches-follow : (outs : List ViewOut) (old new : List ℕ) (b : Broadcast) → Follows old outs new
    → Matches old b → Matches new (hearing outs b)
Matches-follow [] old new b is h = subst (λ members. Matches members b) (sym is) h
Matches-follow (OfViews.Send to message ∷ outs) old new b is h = Matches-follow outs old new b is h
Matches-follow (OfViews.Up node ∷ outs) old new b is h =
    Matches-follow outs (old ++ node ∷ []) new (after_call b (Up node)) is.1 (Matches-up old node b is.0 h)
Matches-follow (OfViews.Down node ∷ outs) old new b is h =
    Matches-follow outs (without node old) new (after_call b (Down node)) is.1 (Matches-down old node b h)

ArePeers-view : (o : Overlay) (event : ViewEvent) (word : ℕ) → ArePeers o
    → ArePeers (overlay_after_view event word o)
ArePeers-view o event word h =
    let after = draft_after event word o.views in
    let tells = each_step_tells_it_all o.views event word (views_of after) after.out h.lawful (record { views = refl; gives = refl }) in
    let matched = Matches-follow after.out o.views.active (views_of after).active o.cast tells.follows (record { once = h.lawful.active_once; links = h.links; same = h.same }) in
    record { lawful = tells.lawful; links = matched.links; same = matched.same }

keeps : (call : CastCall) (x : ℕ) (was : Bool) → IsOfNoPeer call → is_peer_after call x was ≡ was
keeps (Up node) x was of_none = absurd of_none
keeps (Down node) x was of_none = absurd of_none
keeps (Broadcasts key vector) x was of_none = refl
keeps (TakesFresh from round key vector) x was of_none = refl
keeps (TakesStale from) x was of_none = refl
keeps (TakesPrune from) x was of_none = refl
keeps (TakesIHave from round key vector stale) x was of_none = refl
keeps (TakesGraft from round key held) x was of_none = refl
keeps (Changes key vector) x was of_none = refl
keeps Tick x was of_none = refl

pub stay_peers : StayPeers
stay_peers = record {
  begins = λ node.
      record { lawful = views_stay_lawful node []; links = stay_links.every_list []; same = λ x. refl };
  views = ArePeers-view;
  calls = λ o call of_none h.
      record {
        lawful = h.lawful;
        links = stay_links.each_call o.cast call h.links;
        same = λ x.
            peers_come_and_go o.cast call x h.links ∙ keeps call x (is_peer x o.cast) of_none ∙ h.same x;
      };
}
