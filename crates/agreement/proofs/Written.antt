-- What a write tells: its place is behind all that was told before, and known to its node alone.
use Rattle.std.proofs.Common.{◌≡◌, ◌≢◌, ℕ, ◌+◌, ◌<◌, ◌≤◌, true, false, List, [], ◌∷◌, ◌++◌, length, length-append, append-nil, append_assoc, Option, Some, None, Ok, refl, sym, ap, subst, ◌∙◌, arith, eqb}
use Rattle.std.specs.Prelude.{◌||◌, slice_get}
use Rattle.std.proofs.lemmas.Bool.{eq-eqb, false_from_ne_true, or_right}
use Rattle.meta_types.specs.Name.{Key}
use Rattle.meta_types.specs.Value.{ValueParts}
use Rattle.dvvset.specs.Object.{Entry}
use Rattle.past_model.specs.declared.happening.Happening.{Happening}
use Rattle.past_model.specs.declared.happening.Happening.TheVariants.{Looked, Sent, Wrote}
use Rattle.past_model.specs.Sets.{Places, singleton, union, with_set}
use Rattle.past_model.specs.Past.{Past, known, past, read_of, start}
use Rattle.past_model.proofs.Placed.{Placed, Placed-run, Placed-start}
use Rattle.past_model.proofs.Sound.{set_at-here, with_set-at}
use Rattle.past_model.proofs.Staying.{past-next, past_snoc}
use Rattle.past_model.proofs.Walking.{known-other}
use Rattle.meta_frame.specs.declared.message.Frame.{Frame}
use Rattle.node_core.specs.Leaving.{carried_object}
use Rattle.node_events.specs.declared.event.NodeEvent.TheVariants as OfNode
use Rattle.world_core.specs.declared.answer.Accepted.{Accepted}
use Rattle.world_core.specs.declared.event.Event.{Event}
use Rattle.world_core.specs.declared.event.Event.TheVariants as events
use Rattle.world_core.specs.Events.{node_of_event}
use Rattle.world_core.specs.Knowledge.{OfAllTold}
use Rattle.world_core.specs.Numbers.{frames_at, numbered}
use Rattle.world_core.specs.Outcome.{Outcome}
use Rattle.world_core.specs.Tells.{Told, nothing_told, tell_accepted, tell_each, tell_event, tell_frames, tell_sending}
use Rattle.world_core.specs.World.{World}
use Rattle.agreement.specs.Broadcast.{IsWriteOf, IsNewWrite}
use Rattle.agreement.proofs.Longer.{each_append, grown_one, told_still}
use Rattle.agreement.proofs.Pending.{seam}

-- ---- in a history

-- what a node knows once it wrote, it knows; and nobody else does
pub knows_its_write : (hs : List Happening) (n : ℕ) (k : Key) (v : ValueParts) (r : Option ℕ) → known (hs ++ Wrote n k v r ∷ []) n k (length hs) ≡ true
knows_its_write hs n k v r =
    let s : Past = past hs in
    let new : Places = union (s.known n k) (union (read_of s k r) (singleton s.next)) in
    ap (λ (t : Past). t.known n k (length hs)) (past_snoc hs (Wrote n k v r))
    ∙ ap (λ K. K k (length hs)) (set_at-here s.known n (with_set (s.known n) k new))
    ∙ ap (λ S. S (length hs)) (with_set-at (s.known n) k new)
    ∙ or_right (s.known n k (length hs)) (read_of s k r (length hs) || eqb (length hs) s.next)
    (or_right (read_of s k r (length hs)) (eqb (length hs) s.next) (eq-eqb (length hs) s.next (sym (past-next hs))))

-- no node knows what has not happened
not_yet_known : (hs : List Happening) (n : ℕ) (k : Key) → known hs n k (length hs) ≡ false
not_yet_known hs n k =
    let placed : Placed (past hs) = Placed-run start hs Placed-start in
    false_from_ne_true (known hs n k (length hs)) (λ is.
    let low : length hs < (past hs).next = (placed.reached.known n k).all (length hs) is in
    let next : (past hs).next ≡ length hs = past-next hs in
    absurd (omega (arith, low, next)))

pub no_other_knows_it : (hs : List Happening) (n : ℕ) (k : Key) (v : ValueParts) (r : Option ℕ) (m : ℕ) → m ≢ n → known (hs ++ Wrote n k v r ∷ []) m k (length hs) ≡ false
no_other_knows_it hs n k v r m apart =
    ap (λ (t : Past). t.known m k (length hs)) (past_snoc hs (Wrote n k v r))
    ∙ ap (λ K. K k (length hs)) (known-other (past hs) (Wrote n k v r) m (λ same. apart (sym same)))
    ∙ not_yet_known hs m k

-- ---- in what is told

-- what was told, and perhaps a read, and at the end the write
record EndsWithWrite (earlier hs : List Happening) (n : ℕ) (k : Key) (v : ValueParts) : Type 0 where
  before : List Happening
  read : Option ℕ
  longer : length earlier ≤ length before
  is : hs ≡ before ++ Wrote n k v read ∷ []

ends_with_write : (n : ℕ) (k : Key) (v : ValueParts) (event : Event) → IsWriteOf n k v event → (t : Told) → EndsWithWrite t.history (tell_event event t).history n k v
ends_with_write n k v (events.Step m (OfNode.Write l u context)) is t = record {
  before = t.history;
  read = None;
  longer = omega arith;
  is = λ i. t.history ++ Wrote (is.0 i) (is.1.0 i) (is.1.1 i) None ∷ [];
}
ends_with_write n k v (events.Step m (OfNode.PutOver l u)) is t =
    let long : length (t.history ++ Looked m l ∷ []) ≡ length t.history + length (Looked m l ∷ []) = length-append t.history (Looked m l ∷ []) in
    record {
      before = t.history ++ Looked m l ∷ [];
      read = Some (length t.history);
      longer = omega (arith, long);
      is = λ i. (t.history ++ Looked m l ∷ []) ++ Wrote (is.0 i) (is.1.0 i) (is.1.1 i) (Some (length t.history)) ∷ [];
    }
ends_with_write n k v (events.Put m l u read) is t = record {
  before = t.history;
  read = numbered t.looks read;
  longer = omega arith;
  is = λ i. t.history ++ Wrote (is.0 i) (is.1.0 i) (is.1.1 i) (numbered t.looks read) ∷ [];
}
ends_with_write n k v _ is t = absurd is

-- what is told later of frames changes nothing of what is known
record OfFrames (t u : Told) : Type 0 where
  more : List Happening
  longer : u.history ≡ t.history ++ more
  knows : (n : ℕ) (k : Key) (p : ℕ) → known u.history n k p ≡ known t.history n k p

of_sending : (n : ℕ) (object : Option (Key × List Entry)) (t : Told) → OfFrames t (tell_sending n object t)
of_sending n None t = record { more = []; longer = sym (append-nil t.history); knows = λ m k p. refl }
of_sending n (Some object) t = record {
  more = Sent n object.0 ∷ [];
  longer = refl;
  knows = λ m k p. ap (λ (s : Past). s.known m k p) (past_snoc t.history (Sent n object.0));
}

of_frames : (n : ℕ) (fs : List Frame) (t : Told) → OfFrames t (tell_frames n fs t)
of_frames n [] t = record { more = []; longer = sym (append-nil t.history); knows = λ m k p. refl }
of_frames n (f ∷ fs) t =
    let next : Told = tell_sending n (carried_object f.message) t in
    let one : OfFrames t (tell_sending n (carried_object f.message) t) = of_sending n (carried_object f.message) t in
    let rest : OfFrames (tell_sending n (carried_object f.message) t) (tell_frames n fs (tell_sending n (carried_object f.message) t)) = of_frames n fs next in
    record {
      more = one.more ++ rest.more;
      longer = rest.longer ∙ ap (λ hs. hs ++ rest.more) one.longer ∙ append_assoc t.history one.more rest.more;
      knows = λ m k p. rest.knows m k p ∙ one.knows m k p;
    }

written : (n : ℕ) (k : Key) (v : ValueParts) (event : Event) → IsWriteOf n k v event → (sender : ℕ) (fs : List Frame) (before : World) (t : Told) → OfAllTold before (λ u. t ≡ u)
    → IsNewWrite before (tell_frames sender fs (tell_event event t)) n k v
written n k v event is sender fs before t tells_it =
    let told : Told = tell_event event t in
    let end : EndsWithWrite t.history (tell_event event t).history n k v = ends_with_write n k v event is t in
    let after : OfFrames (tell_event event t) (tell_frames sender fs (tell_event event t)) = of_frames sender fs told in
    let at : ℕ = length end.before in
    record {
      place = length end.before;
      read = end.read;
      told = ap (λ hs. slice_get hs (length end.before)) (after.longer ∙ ap (λ hs. hs ++ after.more) end.is ∙ append_assoc end.before (Wrote n k v end.read ∷ []) after.more)
          ∙ seam end.before after.more (Wrote n k v end.read);
      behind = λ u tells. subst (λ (s : Told). length s.history ≤ length end.before) (tells_it u tells) end.longer;
      by_writer = after.knows n k at ∙ ap (λ hs. known hs n k (length end.before)) end.is ∙ knows_its_write end.before n k v end.read;
      by_no_other = λ m apart. after.knows m k at ∙ ap (λ hs. known hs m k (length end.before)) end.is ∙ no_other_knows_it end.before n k v end.read m apart;
    }

-- in a world that a write has just left
pub written_in : (before w : World) (a : Accepted) (n : ℕ) (k : Key) (v : ValueParts) → IsWriteOf n k v a.event → Outcome before a.event (Ok a.answer) w
    → OfAllTold w (λ t. IsNewWrite before t n k v)
unfolding Outcome
written_in before w a n k v is accepts = λ t tells.
    let first : Told = tell_each tells.frames before.accepted nothing_told in
    let last : tell_accepted tells.frames a first ≡ t =
    sym (each_append tells.frames before.accepted (a ∷ []) nothing_told)
    ∙ sym (ap (λ xs. tell_each tells.frames xs nothing_told) accepts.accepted) ∙ tells.tells in
    subst (λ u. IsNewWrite before u n k v) last
    (written n k v a.event is (node_of_event a.event) (frames_at a.answer.sent tells.frames) before first
    (λ u earlier. told_still before (a ∷ []) w (grown_one before w a accepts) u t earlier tells))
