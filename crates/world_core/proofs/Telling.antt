-- What accepted events tell, with one more event and with more frames; and that it is one.
use Rattle.std.proofs.Common.{◌≡◌, ℕ, ◌+◌, ◌-◌, ◌≤◌, List, [], ◌∷◌, ◌++◌, length, refl, sym, ap, subst, ◌∙◌, arith}
use Rattle.std.proofs.lemmas.List.{length-append}
use Rattle.meta_frame.specs.Frame.{Spells}
use Rattle.meta_frame.specs.declared.message.Frame.{Frame}
use Rattle.meta_frame.proofs.Frames.{one_frame}
use Rattle.world_core.specs.declared.answer.Accepted.{Accepted}
use Rattle.world_core.specs.Events.{node_of_event}
use Rattle.world_core.specs.Tells.{EachNames, NamesEarlier, Pairwise, SendInOrder, Tells, Told, next_read, nothing_told, tell_accepted, tell_all, tell_each, tell_event, tell_frames}
use Rattle.world_core.proofs.Lists.{frames_at_end, frames_at_more, pairwise_append, pairwise_one}

-- ---- one more event

tell_each_append : (frames : List Frame) (later more : List Accepted) (t : Told) → tell_each frames (later ++ more) t ≡ tell_each frames more (tell_each frames later t)
tell_each_append frames [] more t = refl
tell_each_append frames (a ∷ later) more t = tell_each_append frames later more (tell_accepted frames a t)

pub tell_each_snoc : (frames : List Frame) (later : List Accepted) (a : Accepted) (t : Told)
    → tell_each frames (later ++ a ∷ []) t ≡ tell_accepted frames a (tell_each frames later t)
tell_each_snoc frames later a t = tell_each_append frames later (a ∷ []) t

pub in_order_snoc : (sent all : ℕ) (later : List Accepted) (a : Accepted) → SendInOrder sent later all → a.answer.sent.first ≡ all + 1
    → SendInOrder sent (later ++ a ∷ []) (all + a.answer.sent.count)
in_order_snoc sent all [] a order next = (next ∙ ap (λ n. n + 1) order, ap (λ n. n + a.answer.sent.count) order)
in_order_snoc sent all (b ∷ later) a order next = (order.0, in_order_snoc (sent + b.answer.sent.count) all later a order.1 next)

pub each_names_snoc : (frames : List Frame) (later : List Accepted) (a : Accepted) (t : Told) → EachNames frames later t
    → NamesEarlier (tell_each frames later t) a.event → a.answer.read ≡ next_read (tell_each frames later t) a.event → EachNames frames (later ++ a ∷ []) t
each_names_snoc frames [] a t all named read = ((named, read), tt)
each_names_snoc frames (b ∷ later) a t all named read = (all.0, each_names_snoc frames later a (tell_accepted frames b t) all.1 named read)

-- ---- more frames

-- numbers only go up
in_order_up : (sent all : ℕ) (later : List Accepted) → SendInOrder sent later all → sent ≤ all
in_order_up sent all [] order = let same : all ≡ sent = order in omega (arith, same)
in_order_up sent all (a ∷ later) order =
    let later : sent + a.answer.sent.count ≤ all = in_order_up (sent + a.answer.sent.count) all later order.1 in
    omega (arith, later)

-- the first event's frames are there
pub first_within : (sent all : ℕ) (a : Accepted) (later : List Accepted) → SendInOrder sent (a ∷ later) all → (a.answer.sent.first - 1) + a.answer.sent.count ≤ all
first_within sent all a later order =
    let later : sent + a.answer.sent.count ≤ all = in_order_up (sent + a.answer.sent.count) all later order.1 in
    let first : a.answer.sent.first ≡ sent + 1 = order.0 in
    omega (arith, later, first)

accepted_more : (frames more : List Frame) (a : Accepted) (t : Told) → (a.answer.sent.first - 1) + a.answer.sent.count ≤ length frames
    → tell_accepted (frames ++ more) a t ≡ tell_accepted frames a t
accepted_more frames more a t within = ap (λ fs. tell_frames (node_of_event a.event) fs (tell_event a.event t)) (frames_at_more a.answer.sent frames more within)

-- more frames change nothing that earlier ones told
pub tell_each_more : (frames more : List Frame) (sent : ℕ) (later : List Accepted) (t : Told) → SendInOrder sent later (length frames)
    → tell_each (frames ++ more) later t ≡ tell_each frames later t
tell_each_more frames more sent [] t order = refl
tell_each_more frames more sent (a ∷ later) t order =
    ap (tell_each (frames ++ more) later) (accepted_more frames more a t (first_within sent (length frames) a later order))
    ∙ tell_each_more frames more (sent + a.answer.sent.count) later (tell_accepted frames a t) order.1

pub each_names_more : (frames more : List Frame) (sent : ℕ) (later : List Accepted) (t : Told) → SendInOrder sent later (length frames) → EachNames frames later t
    → EachNames (frames ++ more) later t
each_names_more frames more sent [] t order all = tt
each_names_more frames more sent (a ∷ later) t order all = (
  all.0,
  subst (EachNames (frames ++ more) later) (sym (accepted_more frames more a t (first_within sent (length frames) a later order)))
      (each_names_more frames more (sent + a.answer.sent.count) later (tell_accepted frames a t) order.1 all.1),
)

-- ---- one more event, with its frames

unfoldable pub telling_more : (accepted : List Accepted) (spellings : List (List ℕ)) (t : Told) (is : Tells accepted spellings t) (a : Accepted) (frames : List Frame) (bytes : List (List ℕ))
    → Pairwise Spells frames bytes → a.answer.sent ≡ record { first = length is.frames + 1; count = length frames }
    → NamesEarlier t a.event → a.answer.read ≡ next_read t a.event
    → Tells (accepted ++ a ∷ []) (spellings ++ bytes) (tell_frames (node_of_event a.event) frames (tell_event a.event t))
telling_more accepted spellings t is a frames bytes spelled sent named read =
    let all = is.frames ++ frames in
    let long : length all ≡ length is.frames + length frames = length-append is.frames frames in
    let told : tell_each all accepted nothing_told ≡ t = tell_each_more is.frames frames 0 accepted nothing_told is.in_order ∙ is.tells in
    let next : a.answer.sent.first ≡ length is.frames + 1 = ap (λ n. n.first) sent in
    let count : length is.frames + a.answer.sent.count ≡ length all = ap (λ n. length is.frames + n.count) sent ∙ sym long in
    record {
      frames = all;
      spelled = pairwise_append Spells is.frames frames spellings bytes is.spelled spelled;
      in_order = subst (SendInOrder 0 (accepted ++ a ∷ [])) count (in_order_snoc 0 (length is.frames) accepted a is.in_order next);
      names = each_names_snoc all accepted a nothing_told (each_names_more is.frames frames 0 accepted nothing_told is.in_order is.names)
          (subst (λ u. NamesEarlier u a.event) (sym told) named) (read ∙ ap (λ u. next_read u a.event) (sym told));
      tells = tell_each_snoc all accepted a nothing_told ∙ ap (tell_accepted all a) told
          ∙ ap (λ fs. tell_frames (node_of_event a.event) fs (tell_event a.event t)) (frames_at_end a.answer.sent is.frames frames sent);
    }

-- ---- what is told is one

pub one_spelling : (fs gs : List Frame) (spellings : List (List ℕ)) → Pairwise Spells fs spellings → Pairwise Spells gs spellings → fs ≡ gs
one_spelling fs gs spellings one other = pairwise_one Spells (λ f g bytes a b. one_frame f g bytes a b) fs gs spellings one other

pub one_told : (accepted : List Accepted) (spellings : List (List ℕ)) (t u : Told) → Tells accepted spellings t → Tells accepted spellings u → t ≡ u
one_told accepted spellings t u one other =
    sym one.tells ∙ ap (λ fs. tell_all fs accepted) (one_spelling one.frames other.frames spellings one.spelled other.spelled) ∙ other.tells
