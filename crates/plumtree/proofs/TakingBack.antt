-- A call that changes nothing of what is missing is taken back.
use Rattle.std.proofs.Common.{◌≡◌, List, ◌++◌, length, take, refl, ap, arith}
use Rattle.std.proofs.lemmas.List.{take_at, take_all}
use Rattle.plumtree.specs.declared.entry.Announcement.{Announcement}
use Rattle.plumtree.specs.Rows.{on_broadcast, on_fresh, on_stale, on_prune, on_graft}
use Rattle.plumtree.specs.Broadcast.{Broadcast, CastCall, Up, Down, Broadcasts, TakesFresh, TakesStale, TakesPrune, TakesIHave, TakesGraft, Changes, Tick}
use Rattle.plumtree.specs.Lawful.{after_call}
use Rattle.plumtree.specs.Savepoint.{AreTakenBack, IsOfObjects, rolled_back, savepoint_of}

take_front : (xs ys : List Announcement) → take (length xs) (xs ++ ys) ≡ xs
take_front xs ys = take_at xs ys (length xs) refl

take_whole : (xs : List Announcement) → take (length xs) xs ≡ xs
take_whole xs = take_all (length xs) xs (omega arith)

back : (b : Broadcast) (call : CastCall) → IsOfObjects call
    → rolled_back (savepoint_of b) (after_call b call) ≡ b
unfolding on_broadcast on_fresh on_stale on_prune on_graft
back b (Broadcasts key vector) is = ap (λ queue. record b { queue = queue }) (take_front b.queue _)
back b (TakesFresh from round key vector) is = ap (λ queue. record b { queue = queue }) (take_front b.queue _)
back b (TakesStale from) is = ap (λ queue. record b { queue = queue }) (take_whole b.queue)
back b (TakesPrune from) is = ap (λ queue. record b { queue = queue }) (take_whole b.queue)
back b (TakesGraft from round key held) is = ap (λ queue. record b { queue = queue }) (take_whole b.queue)
back b (Up node) is = absurd is
back b (Down node) is = absurd is
back b (TakesIHave from round key vector stale) is = absurd is
back b (Changes key vector) is = absurd is
back b Tick is = absurd is

pub are_taken_back : AreTakenBack
are_taken_back = back
