-- Frames of a world that are still to be delivered, by their numbers: from one node to another, each
-- with its message.
use Rattle.std.proofs.Common.{◌≡◌, ℕ, zero, suc, ◌+◌, ◌<◌, ◌≤◌, List, [], ◌∷◌, ◌++◌, length, length-append, append_assoc, map, All, Some, refl, sym, ap, subst, ◌∙◌, arith}
use Rattle.std.specs.List.{range_with_len}
use Rattle.std.specs.Prelude.{slice_get}
use Rattle.std.proofs.lemmas.List.Elements.{All-head, All-tail}
use Rattle.std.proofs.lemmas.Option.{slice_get_within}
use Rattle.meta_frame.specs.declared.message.Frame.{Frame}
use Rattle.meta_frame.specs.declared.message.Message.{Message}
use Rattle.meta_frame.specs.Frame.{spelling}
use Rattle.node_overlay.specs.Outbox.{HasSpelling, count_on, frame_of, frames_from}
use Rattle.node_overlay.specs.Overlay.{envelope}
use Rattle.node_overlay.specs.declared.envelope.Envelope.{Envelope}
use Rattle.world_core.specs.Numbers.{numbered}
use Rattle.world_core.specs.Refusal.{IsFrameOf}
use Rattle.world_core.specs.Tells.{Pairwise}
use Rattle.world_core.specs.World.{World}
use Rattle.world_core.proofs.Lists.{numbered_at, numbered_more, pairwise_map}

-- this is the number of a frame from the one node to the other, with this message
pub record IsPending (w : World) (from to number : ℕ) (m : Message) : Type 0 where
  pub frame : Frame
  pub there : IsFrameOf w number frame
  pub sender : frame.from ≡ from
  pub addressee : frame.to ≡ to
  pub message : frame.message ≡ m

-- these are the numbers of such frames, with these messages in this order
abbrev pub ArePending : World → ℕ → ℕ → List ℕ → List Message → Type 0
ArePending w from to numbers ms = Pairwise (IsPending w from to) numbers ms

-- ---- more frames

-- what has a number stands in the list
within : {A : Type 0} (xs : List A) (number : ℕ) (x : A) → numbered xs number ≡ Some x → number ≤ length xs
within xs zero x e = cc
within xs (suc before) x e =
    let low : before < length xs = slice_get_within xs before x e in
    omega (arith, low)

module _ (old new : World) (more : List (List ℕ)) (frames : new.frames ≡ old.frames ++ more) (from to : ℕ) where
  longer : (number : ℕ) (m : Message) → IsPending old from to number m → IsPending new from to number m
  longer number m is =
      let there : numbered new.frames number ≡ Some is.there.bytes =
      ap (λ fs. numbered fs number) frames
      ∙ numbered_more old.frames more number (within old.frames number is.there.bytes is.there.there)
      ∙ is.there.there in
      record {
        frame = is.frame;
        there = record { bytes = is.there.bytes; there = there; spelled = is.there.spelled };
        sender = is.sender;
        addressee = is.addressee;
        message = is.message;
      }

  -- what is pending stays so when more is sent
  pub pending_longer : (numbers : List ℕ) (ms : List Message) → ArePending old from to numbers ms → ArePending new from to numbers ms
  pending_longer numbers ms are = pairwise_map (IsPending old from to) (IsPending new from to) longer numbers ms are

-- ---- what was sent last

-- what stands behind a list
pub seam : {A : Type 0} (before rest : List A) (x : A) → slice_get (before ++ x ∷ rest) (length before) ≡ Some x
seam [] rest x = refl
seam (y ∷ before) rest x = seam before rest x

-- the frames of envelopes, behind all others, are pending
pub envelopes_pending : (w : World) (node : ℕ) (es : List Envelope) (count : ℕ) (before : List (List ℕ))
    → w.frames ≡ before ++ map spelling (frames_from node count es)
    → All HasSpelling (frames_from node count es)
    → Pairwise (λ number e. IsPending w node e.to number e.message) (range_with_len (length before + 1) (length (map spelling (frames_from node count es)))) es
envelopes_pending w node [] count before frames lawful = tt
envelopes_pending w node (e ∷ es) count before frames lawful =
    let next : ℕ = count_on count 1 in
    let first : Frame = frame_of node next e in
    let later : List Frame = frames_from node next es in
    let there : numbered w.frames (length before + 1) ≡ Some (spelling first) =
    numbered_at w.frames (length before + 1) (length before) refl
    ∙ ap (λ fs. slice_get fs (length before)) frames
    ∙ seam before (map spelling later) (spelling first) in
    let behind : w.frames ≡ (before ++ spelling first ∷ []) ++ map spelling later =
    frames ∙ sym (append_assoc before (spelling first ∷ []) (map spelling later)) in
    let long : length (before ++ spelling first ∷ []) ≡ length before + 1 = length-append before (spelling first ∷ []) in (
      record {
        frame = first;
        there = record { bytes = spelling first; there = there; spelled = All-head HasSpelling first later lawful };
        sender = refl;
        addressee = refl;
        message = refl;
      },
      subst (λ n. Pairwise (λ number d. IsPending w node d.to number d.message) (range_with_len (n + 1) (length (map spelling later))) es) long
          (envelopes_pending w node es next (before ++ spelling first ∷ []) behind (All-tail HasSpelling first later lawful)),
    )

-- what stands beside a mapped list stands beside the list
pub unmapped : {A B C : Type 0} (P : A → C → Type 0) (f : B → C) (xs : List A) (ys : List B) → Pairwise P xs (map f ys) → Pairwise (λ x y. P x (f y)) xs ys
unmapped P f [] [] all = tt
unmapped P f [] (y ∷ ys) all = absurd all
unmapped P f (x ∷ xs) [] all = absurd all
unmapped P f (x ∷ xs) (y ∷ ys) all = (all.0, unmapped P f xs ys all.1)

pub mapped : {A B C : Type 0} (P : A → C → Type 0) (f : B → C) (xs : List A) (ys : List B) → Pairwise (λ x y. P x (f y)) xs ys → Pairwise P xs (map f ys)
mapped P f [] [] all = tt
mapped P f [] (y ∷ ys) all = absurd all
mapped P f (x ∷ xs) [] all = absurd all
mapped P f (x ∷ xs) (y ∷ ys) all = (all.0, mapped P f xs ys all.1)

-- the frames of messages to one node, behind all others, are pending
pub sent_pending : (w : World) (node to : ℕ) (ms : List Message) (count : ℕ) (before : List (List ℕ))
    → w.frames ≡ before ++ map spelling (frames_from node count (map (envelope to) ms))
    → All HasSpelling (frames_from node count (map (envelope to) ms))
    → ArePending w node to (range_with_len (length before + 1) (length (map spelling (frames_from node count (map (envelope to) ms))))) ms
sent_pending w node to ms count before frames lawful =
    unmapped (λ number e. IsPending w node e.to number e.message) (envelope to) _ ms (envelopes_pending w node (map (envelope to) ms) count before frames lawful)
