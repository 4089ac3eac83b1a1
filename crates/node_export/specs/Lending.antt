-- What a call does with the node that a slot lends it.
use Rattle.std.specs.Prelude.{◌≡◌, Option, Some, None}
use Rattle.std.specs.Borrow.{Bor, MutBor}
use Rattle.std.specs.Fn.{CalledAt, FnOnceReturnsAtMut, Mut, Once}
use Rattle.node_hosted.specs.Hosting.{HostedParts}

-- the calls of an F that changes a node and answers an R
abbrev pub ChangingCalls : Type 0 → Type 0 → Type 1
ChangingCalls F R = Once F (MutBor HostedParts × Unit {0}) (R × (MutBor HostedParts × Unit {0}))

-- the call found the old node in the slot, answered so, and left the new one there; without a node
-- no call is made, and there is none afterwards
abbrev pub LendsTo : {F R : Type 0} → ChangingCalls F R → F → Option HostedParts → Option R
    → Option HostedParts → Type 0
LendsTo calls does None None new = new ≡ None
LendsTo calls does (Some old) (Some answer) (Some new) =
    FnOnceReturnsAtMut calls does old answer new
LendsTo calls does old answer new = ⊥

-- the calls of an F that reads a node and answers an R
abbrev pub ReadingCalls : Type 0 → Type 0 → Type 1
ReadingCalls F R = Mut F (Bor HostedParts × Unit {0}) R

-- the call read the node in the slot, answered so, and left what was called as it is then; without a
-- node no call is made, and it is as before
abbrev pub ShowsTo : {F R : Type 0} → ReadingCalls F R → F → Option HostedParts → Option R → F
    → Type 0
ShowsTo calls tells None None told = told ≡ tells
ShowsTo calls tells (Some node) (Some answer) told = CalledAt calls tells node answer told
ShowsTo calls tells held answer told = ⊥
