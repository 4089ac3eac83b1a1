-- The passes of a sender stay those of the inboxes, each at its place.
use Rattle.std.proofs.Common.{◌≡◌, ◌<◌, ℕ, List, length, map, set, get_or, sym, ap, ◌∙◌}
use Rattle.std.specs.Prelude.{MatchResult, Result, Ok, Err}
use Rattle.std.proofs.Math.ListN.{get_or-map}
use Rattle.std.proofs.Math.Seq.{map-set_same}
use Rattle.std.proofs.lemmas.List.{get_or_default, length-map}
use Rattle.inbox.specs.Views.{InboxView, PutView, with_put}
use Rattle.inbox.specs.declared.fault.NotPut.{NotPut}
use Rattle.cluster_worker.specs.Passes.{ArePassesInto, lines_of}

-- the pass at a place is of the inbox there
pub of_one_line : (inboxes : List InboxView) (puts : List PutView) (i : ℕ) (a : InboxView)
    (p : PutView) → ArePassesInto inboxes puts → i < length puts → a ≡ get_or inboxes i a
    → p ≡ get_or puts i p → p.line ≡ a.line
of_one_line inboxes puts i a p are within here there =
    let few : i < length (map (λ q. q.line) puts) = rw length-map within in
    let of_put : get_or (map (λ q. q.line) puts) i p.line ≡ p.line =
    get_or-map (λ q. q.line) puts i p ∙ sym (ap (λ q. q.line) there) in
    let of_inbox : get_or (lines_of inboxes) i a.line ≡ a.line =
    get_or-map (λ b. b.line) inboxes i a ∙ sym (ap (λ b. b.line) here) in
    sym of_put ∙ get_or_default (map (λ q. q.line) puts) i p.line a.line few
    ∙ ap (λ l. get_or l i a.line) are ∙ of_inbox

-- one is replaced by one of the same inbox
pub still_of : (inboxes : List InboxView) (puts : List PutView) (i : ℕ) (old new : PutView)
    → ArePassesInto inboxes puts → old ≡ get_or puts i old → new.line ≡ old.line
    → ArePassesInto inboxes (set puts i new)
still_of inboxes puts i old new are there same =
    map-set_same (λ p. p.line) puts i new old (same ∙ ap (λ p. p.line) there) ∙ are

-- a pass stays of its inbox, whether a frame is put by it or not
pub put_by : {A : Type 0} (result : Result A NotPut) (old new : PutView) (frame : List ℕ)
    → MatchResult result (λ _. new ≡ with_put old frame)
    (λ refused. (new ≡ old) × (refused.frame ≡ frame))
    → new.line ≡ old.line
put_by (Ok done) old new frame is = ap (λ p. p.line) is
put_by (Err refused) old new frame is = ap (λ p. p.line) is.0
