-- The views in the midst of a step, with what the step has given out so far, and the small steps
-- that the rows of the table are made of. In each a word is the random number of the whole step.
use Rattle.std.specs.Prelude.{ℕ, Bool, ◌||◌, List, [], ◌∷◌, ◌++◌, length, map, nat_eq, nat_lt, if◌then◌else◌}
use Rattle.meta_types.specs.Chain.{◌▷◌}
use Rattle.meta_frame.specs.declared.message.Message.{Message}
use Rattle.meta_frame.specs.declared.message.Message.TheVariants.{Disconnect}
use Rattle.hyparview.specs.declared.event.ViewOut.{ViewOut}
use Rattle.hyparview.specs.declared.event.ViewOut.TheVariants.{Send, Up, Down}
use Rattle.peer_lists.specs.Lists.{has, without, put_last, choose}
use Rattle.hyparview.specs.Limits.{active_view_size, passive_view_size}

-- the node, its active and its passive view, whom it asked for a place in the present search for a
-- neighbour, what its last shuffle offered, until the reply came, and what the step has given out
pub record Draft : Type 0 where
  pub node : ℕ
  pub active : List ℕ
  pub passive : List ℕ
  pub asked : List ℕ
  pub sent : List ℕ
  pub out : List ViewOut

-- ---- what is given out goes last

abbrev pub emit : ViewOut → Draft → Draft
emit o t = record t { out = t.out ++ o ∷ [] }

abbrev pub send : ℕ → Message → Draft → Draft
send to message t = emit (Send to message) t

-- the same message to each of these nodes, in their order
abbrev pub send_each : List ℕ → Message → Draft → Draft
send_each tos message t = record t { out = t.out ++ map (λ to. Send to message) tos }

-- ---- the two views; only these change the active one, each with its Up or Down

abbrev pub enter_active : ℕ → Draft → Draft
enter_active x t = emit (Up x) (record t { active = put_last x t.active })

abbrev pub leave_active : ℕ → Draft → Draft
leave_active x t = emit (Down x) (record t { active = without x t.active })

-- all neighbours leave, in their order
abbrev pub all_leave_active : Draft → Draft
all_leave_active t = record t { active = []; out = t.out ++ map (λ x. Down x) t.active }

abbrev pub enter_passive : ℕ → Draft → Draft
enter_passive x t = record t { passive = put_last x t.passive }

abbrev pub leave_passive : ℕ → Draft → Draft
leave_passive x t = record t { passive = without x t.passive }

abbrev pub forget_passive : Draft → Draft
forget_passive t = record t { passive = [] }

-- ---- whom the node asked, and what it offered

abbrev pub note_asked : ℕ → Draft → Draft
note_asked x t = record t { asked = put_last x t.asked }

abbrev pub forget_asked : Draft → Draft
forget_asked t = record t { asked = [] }

abbrev pub remember_sent : List ℕ → Draft → Draft
remember_sent xs t = record t { sent = xs }

-- ---- AddPassive and AddActive

-- x is the node itself or a neighbour
abbrev pub is_self_or_active : ℕ → Draft → Bool
is_self_or_active x t = nat_eq x t.node || has t.active x

-- x is the node itself or in a view
abbrev pub is_known : ℕ → Draft → Bool
is_known x t = is_self_or_active x t || has t.passive x

-- a full passive view loses a random member
abbrev pub make_room : ℕ → Draft → Draft
make_room word t =
    if nat_lt (length t.passive) passive_view_size
    then t
    else (t ▷ leave_passive (choose word t.passive))

unfoldable pub add_passive : ℕ → ℕ → Draft → Draft
add_passive word x t = if is_known x t then t else (t ▷ make_room word ▷ enter_passive x)

-- a random neighbour is told that it isn't one any more, and goes into the passive view
unfoldable pub drop_one : ℕ → Draft → Draft
drop_one word t =
    let d = choose word t.active in
    t ▷ send d Disconnect ▷ leave_active d ▷ add_passive word d

-- a full active view drops one
unfoldable pub make_place : ℕ → Draft → Draft
make_place word t =
    if nat_lt (length t.active) active_view_size then t else drop_one word t

unfoldable pub add_active : ℕ → ℕ → Draft → Draft
add_active word x t =
    if is_self_or_active x t
    then t
    else (t ▷ leave_passive x ▷ make_place word ▷ enter_active x)
