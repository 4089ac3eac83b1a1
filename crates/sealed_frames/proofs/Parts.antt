-- Frames and seals in bytes.
use Rattle.std.proofs.Common.{◌≡◌, ℕ, ◌-◌, List, ◌++◌, length, sym, ap, ◌∙◌, arith, length-append}
use Rattle.std.proofs.lemmas.List.{length-take-le, take_at, drop_at, take-append-drop}
use Rattle.sha2.proofs.Facts256.{length-sha256}
use Rattle.sealed_frames.specs.Hmac.{hmac}
use Rattle.sealed_frames.specs.Seal.{IsSealedUnder, frame_in, seal_in, seal_of, sealed_frame}

pub length-hmac : (key text : List ℕ) → length (hmac key text) ≡ 32
unfolding hmac
length-hmac key text = length-sha256 _

pub length-seal_of : (key frame : List ℕ) → length (seal_of key frame) ≡ 16
unfolding seal_of
length-seal_of key frame =
    let long = length-hmac key frame in
    length-take-le 16 (hmac key frame) (omega (arith, long))

-- what stands before the seal in a sealed frame is the frame
pub frame_in-sealed_frame : (key frame : List ℕ) → frame_in (sealed_frame key frame) ≡ frame
frame_in-sealed_frame key frame =
    let seal = length-seal_of key frame in
    let whole = length-append frame (seal_of key frame) in
    take_at frame (seal_of key frame) (length (sealed_frame key frame) - 16) (omega (arith, whole, seal))

pub seal_in-sealed_frame : (key frame : List ℕ) → seal_in (sealed_frame key frame) ≡ seal_of key frame
seal_in-sealed_frame key frame =
    let seal = length-seal_of key frame in
    let whole = length-append frame (seal_of key frame) in
    drop_at frame (seal_of key frame) (length (sealed_frame key frame) - 16) (omega (arith, whole, seal))

-- a sealed frame is sealed
pub a_sealed_frame : (key frame : List ℕ) → IsSealedUnder key (sealed_frame key frame)
a_sealed_frame key frame = record {
  long = let seal = length-seal_of key frame in let whole = length-append frame (seal_of key frame) in omega (arith, whole, seal);
  seal = seal_in-sealed_frame key frame ∙ sym (ap (seal_of key) (frame_in-sealed_frame key frame));
}

-- bytes are their two parts
pub same_bytes : (one other : List ℕ) → frame_in one ≡ frame_in other → seal_in one ≡ seal_in other → one ≡ other
same_bytes one other frame seal =
    sym (take-append-drop (length one - 16) one) ∙ (λ i. frame i ++ seal i) ∙ take-append-drop (length other - 16) other
