-- The history is told once more from what was accepted: one event and one frame after the other.
use Rattle.std.proofs.Common.{◌≡◌, ℕ, zero, suc, ◌+◌, ◌-◌, ◌<◌, ◌≤◌, List, [], ◌∷◌, ◌++◌, length, take, drop, get_or, Option, None, Some, Result, Ok, Err, refl, sym, ap, subst, ◌∙◌, arith}
use Rattle.std.specs.Prelude.{slice_get, IfOk, IfSome, OnOk}
use Rattle.std.proofs.lemmas.List.{get_or-drop, length-drop, take_more}
use Rattle.std.proofs.Math.Seq.{take-length}
use Rattle.std.proofs.lemmas.List.Elements.{All-get_or}
use Rattle.std.proofs.lemmas.Option.{get_or_from_slice_get, slice_get_within, slice_get-get_or}
use Rattle.meta_frame.specs.Frame.{RefusesBytes, Spells}
use Rattle.meta_frame.specs.declared.fault.FrameFault.{FrameFault}
use Rattle.meta_frame.specs.declared.message.Frame.{Frame}
use Rattle.meta_frame.proofs.Frames.{never_both, one_frame}
use Rattle.node_core.specs.Leaving.{carried_object}
use Rattle.past_model.specs.declared.happening.Happening.{Happening}
use Rattle.past_model.specs.History.{IsHistory}
use Rattle.world_core.specs.declared.answer.Accepted.{Accepted}
use Rattle.world_core.specs.declared.answer.FrameNumbers.{FrameNumbers}
use Rattle.world_core.specs.Events.{node_of_event}
use Rattle.world_core.specs.Knowledge.{OfAllTold}
use Rattle.world_core.specs.Refusal.{IsFrameOf}
use Rattle.world_core.specs.Numbers.{frames_at, numbered}
use Rattle.world_core.specs.Tells.{Pairwise, SendInOrder, Told, nothing_told, tell_each, tell_event, tell_frames, tell_sending}
use Rattle.world_core.specs.World.{World}
use Rattle.world_core.specs.Invariant.{IsWithin, IsWorld}
use Rattle.world_core.proofs.Lists.{numbered_at, pair_first, pair_length}
use Rattle.world_core.proofs.Telling.{first_within, tell_each_snoc}

-- ---- frames

tell_frames_snoc : (n : ℕ) (fs : List Frame) (f : Frame) (t : Told) → tell_frames n (fs ++ f ∷ []) t ≡ tell_sending n (carried_object f.message) (tell_frames n fs t)
tell_frames_snoc n [] f t = refl
tell_frames_snoc n (g ∷ fs) f t = tell_frames_snoc n fs f (tell_sending n (carried_object g.message) t)

-- the frame of a number stands at its place
frame_here : (w : World) (frames : List Frame) → Pairwise Spells frames w.frames → (number place : ℕ) → number ≡ place + 1 → (f : Frame) → IsFrameOf w number f
    → slice_get frames place ≡ Some f
frame_here w frames spelled number place e f is =
    let found = pair_first Spells frames w.frames spelled place is.bytes (sym (numbered_at w.frames number place e) ∙ is.there) in
    found.1.0 ∙ ap (λ (g : Frame). Some g) (one_frame found.0 f is.bytes found.1.1 is.spelled)

-- so many of an event's frames are told, and then one more
pub next_told : (w : World) (frames : List Frame) → Pairwise Spells frames w.frames → (n : ℕ) (numbers : FrameNumbers) → 1 ≤ numbers.first → (done : ℕ) (f : Frame)
    → IsFrameOf w (numbers.first + done) f → (t told : Told) → told ≡ tell_frames n (take done (drop (numbers.first - 1) frames)) t
    → tell_sending n (carried_object f.message) told ≡ tell_frames n (take (done + 1) (drop (numbers.first - 1) frames)) t
next_told w frames spelled n numbers first done f is t told so_far =
    let place : ℕ = (numbers.first - 1) + done in
    let rest : List Frame = drop (numbers.first - 1) frames in
    let here : slice_get frames place ≡ Some f = frame_here w frames spelled (numbers.first + done) place (omega (arith, first)) f is in
    let within : place < length frames = slice_get_within frames place f here in
    let long : length rest ≡ length frames - (numbers.first - 1) = length-drop (numbers.first - 1) frames in
    let low : done < length rest = omega (arith, within, long) in
    let at : get_or rest done f ≡ f = get_or-drop (numbers.first - 1) frames done f ∙ get_or_from_slice_get frames place f f here in
    ap (tell_sending n (carried_object f.message)) so_far ∙ sym (tell_frames_snoc n (take done rest) f t)
    ∙ ap (λ fs. tell_frames n fs t) (sym (take_more rest done f low ∙ ap (λ g. take done rest ++ g ∷ []) at))

-- a sent frame has its bytes, and they spell it
pub record IsSent (w : World) (number : ℕ) : Type 0 where
  pub bytes : List ℕ
  pub frame : Frame
  pub there : numbered w.frames number ≡ Some bytes
  pub spelled : Spells frame bytes

pub sent : (w : World) → IsWorld w → (number : ℕ) → 1 ≤ number → number ≤ length w.frames → IsSent w number
sent w is zero first there = absurd (omega (arith, first))
sent w is (suc place) first there =
    let frames = is.telling.frames in
    let long : length frames ≡ length w.frames = pair_length Spells frames w.frames is.telling.spelled in
    let bytes : List ℕ = get_or w.frames place [] in
    let here : slice_get w.frames place ≡ Some bytes = slice_get-get_or w.frames place [] (omega (arith, there)) in
    let found = pair_first Spells frames w.frames is.telling.spelled place bytes here in
    record { bytes = bytes; frame = found.0; there = here; spelled = found.1.1 }

-- the bytes of a frame spell one
pub spelled : (w : World) → IsWorld w → (number : ℕ) (bytes : List ℕ) → numbered w.frames number ≡ Some bytes → (f : Frame) × Spells f bytes
spelled w is zero bytes there = let no : None ≡ Some bytes = there in absurd (cc)
spelled w is (suc place) bytes there =
    let found = pair_first Spells is.telling.frames w.frames is.telling.spelled place bytes there in (found.0, found.1.1)

pub copied_spells : {E : Type 0} (w : World) → IsWorld w → (number : ℕ) (copied : Result (Option (List ℕ)) E) → IfOk copied (λ bytes. bytes ≡ numbered w.frames number)
    → IfOk copied (λ found. IfSome found (λ bytes. (f : Frame) × Spells f bytes))
copied_spells w is number (Ok None) at = tt
copied_spells w is number (Ok (Some bytes)) at = spelled w is number bytes (sym at)
copied_spells w is number (Err e) at = tt

-- so no other cause than memory stands against it
pub never_refused : (w : World) (number : ℕ) → IsSent w number → (bytes : List ℕ) → numbered w.frames number ≡ Some bytes → (fault : FrameFault) → RefusesBytes bytes fault → ⊥
never_refused w number is bytes there fault refuses =
    let same : is.bytes ≡ bytes = let both : Some is.bytes ≡ Some bytes = sym is.there ∙ there in cc in
    never_both is.frame bytes fault (subst (Spells is.frame) same is.spelled) refuses

-- ---- events

in_order_at : (before all : ℕ) (later : List Accepted) → SendInOrder before later all → (at : ℕ) (d : Accepted) → at < length later
    → (1 ≤ (get_or later at d).answer.sent.first) × ((get_or later at d).answer.sent.first + (get_or later at d).answer.sent.count ≤ all + 1)
in_order_at before all [] order at d low = absurd (let no : at < 0 = low in omega (arith, no))
in_order_at before all (a ∷ later) order zero d low =
    let first : a.answer.sent.first ≡ before + 1 = order.0 in
    let within : (a.answer.sent.first - 1) + a.answer.sent.count ≤ all = first_within before all a later order in
    (omega (arith, first), omega (arith, first, within))
in_order_at before all (a ∷ later) order (suc at) d low = in_order_at (before + a.answer.sent.count) all later order.1 at d (omega (arith, low))

-- what is asked of an accepted event before it is told
pub record CanTell (w : World) (a : Accepted) : Type 0 where
  pub node : node_of_event a.event < 16
  pub first : 1 ≤ a.answer.sent.first
  pub there : a.answer.sent.first + a.answer.sent.count ≤ length w.frames + 1

pub can_tell : (w : World) → IsWorld w → (at : ℕ) (a : Accepted) → at < length w.accepted → get_or w.accepted at a ≡ a → CanTell w a
can_tell w is at a low here =
    let frames = is.telling.frames in
    let long : length frames ≡ length w.frames = pair_length Spells frames w.frames is.telling.spelled in
    let order = in_order_at 0 (length frames) w.accepted is.telling.in_order at a low in
    let within : IsWithin w (get_or w.accepted at a).event = All-get_or (λ b. IsWithin w b.event) w.accepted at a low is.within in
    let of : node_of_event a.event < length w.nodes = subst (λ (b : Accepted). node_of_event b.event < length w.nodes) here within.node in
    let few : length w.nodes ≤ 16 = is.few in
    let first : 1 ≤ a.answer.sent.first = subst (λ (b : Accepted). 1 ≤ b.answer.sent.first) here order.0 in
    let last : a.answer.sent.first + a.answer.sent.count ≤ length frames + 1 = subst (λ (b : Accepted). b.answer.sent.first + b.answer.sent.count ≤ length frames + 1) here order.1 in
    record { node = omega (arith, of, few); first = first; there = omega (arith, last, long) }

-- what was told of the first events, by whatever frames were sent
abbrev pub ToldOf : World → ℕ → Told → Type 0
ToldOf w count told = (frames : List Frame) → Pairwise Spells frames w.frames → told ≡ tell_each frames (take count w.accepted) nothing_told

pub next_event : (w : World) (at : ℕ) (a : Accepted) → at < length w.accepted → get_or w.accepted at a ≡ a → (told event new : Told) → ToldOf w at told
    → event ≡ tell_event a.event told → (n : ℕ) → n ≡ node_of_event a.event
    → ((frames : List Frame) → Pairwise Spells frames w.frames → new ≡ tell_frames n (frames_at a.answer.sent frames) event)
    → ToldOf w (at + 1) new
next_event w at a low here told event new so_far told_event n whose told_frames = λ frames spelled.
    told_frames frames spelled
    ∙ (λ i. tell_frames (whose i) (frames_at a.answer.sent frames) ((told_event ∙ ap (tell_event a.event) (so_far frames spelled)) i))
    ∙ sym (tell_each_snoc frames (take at w.accepted) a nothing_told)
    ∙ ap (λ events. tell_each frames events nothing_told) (sym (take_more w.accepted at a low ∙ ap (λ b. take at w.accepted ++ b ∷ []) here))

-- all events told: it is what they tell
pub all_told : (w : World) (count : ℕ) (told : Told) → count ≡ length w.accepted → ToldOf w count told → OfAllTold w (λ t. told.history ≡ t.history)
all_told w count told all is = λ t tells.
    ap (λ (u : Told). u.history)
    (is tells.frames tells.spelled ∙ ap (λ n. tell_each tells.frames (take n w.accepted) nothing_told) all
    ∙ ap (λ events. tell_each tells.frames events nothing_told) (take-length w.accepted) ∙ tells.tells)

-- and that is a history
pub replays : {X E : Type 0} (items : X → List Happening) (w : World) → IsWorld w → (r : Result X E) → IfOk r (λ x. OfAllTold w (λ t. items x ≡ t.history))
    → IfOk r (λ x. IsHistory (items x))
replays items w is (Ok x) told = subst IsHistory (sym (told is.told is.telling)) is.state.is_history
replays items w is (Err e) told = tt

-- ---- calls that may fail

pub on_ok : {A E : Type 0} {P Q : Type 0} (r : Result A E) → (P → Q) → OnOk r P → OnOk r Q
on_ok (Ok x) f p = f p
on_ok (Err e) f p = p
