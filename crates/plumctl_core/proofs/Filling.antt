-- Bytes that are read into a room, one piece behind another, and the keys that they are.
use Rattle.std.proofs.Common.{◌≡◌, ℕ, ◌+◌, ◌<◌, ◌≤◌, List, [], ◌++◌, length, take, drop, Option, Some, None, inl, inr, refl, sym, ap, subst, ◌∙◌, append_assoc, arith}
use Rattle.std.proofs.lemmas.List.{append-nil, length-append, length-take-le, take_at, take-append-drop}
use Rattle.std.specs.Io.KnownBytes.{Consumes}
use Rattle.streams.specs.Moment.{SourceAt}
use Rattle.streams.proofs.Pieces.{Consumes-then}
use Rattle.sealed_frames.specs.Keys.{keys_of}
use Rattle.sealed_frames.specs.declared.key.Keys.{Keys}
use Rattle.plumctl_core.specs.KeyFile.{FillsFront, HoldsKeys, HoldsNoKeys}

-- so much of a piece stands behind the front of the room
front_and_part : (room piece rest : List ℕ) (len n : ℕ) → len ≤ length room → n ≤ length piece → take (len + n) (take len room ++ (piece ++ rest)) ≡ take len room ++ take n piece
front_and_part room piece rest len n within fits =
    let front = take len room in
    let part = take n piece in
    let whole : front ++ (piece ++ rest) ≡ (front ++ part) ++ (drop n piece ++ rest) =
    ap (λ (bytes : List ℕ). front ++ (bytes ++ rest)) (sym (take-append-drop n piece))
    ∙ ap (λ (bytes : List ℕ). front ++ bytes) (append_assoc part (drop n piece) rest)
    ∙ sym (append_assoc front part (drop n piece ++ rest)) in
    let long : length (front ++ part) ≡ len + n = omega (arith, length-append front part, length-take-le len room within, length-take-le n piece fits) in
    ap (take (len + n)) whole ∙ take_at (front ++ part) (drop n piece ++ rest) (len + n) long

-- one piece more was read
pub filled_more : (r s t : Option (List ℕ)) (room piece rest : List ℕ) (len n : ℕ) → len ≤ length room → n ≤ length piece → Consumes r s (take len room) → Consumes s t (take n piece)
    → Consumes r t (take (len + n) (take len room ++ (piece ++ rest)))
filled_more r s t room piece rest len n within fits before now =
    subst (Consumes r t) (sym (front_and_part room piece rest len n within fits)) (Consumes-then r s t (take len room) (take n piece) before now)

-- so many bytes are no keys
never_full : (bytes : List ℕ) (keys : Keys) → length bytes ≡ 65 → keys_of bytes ≡ Some keys → ⊥
never_full bytes keys long e =
    let none : keys_of bytes ≡ None = rw long refl in
    cc (sym e ∙ none)

pub holds_keys : (r s : SourceAt) (room slice : List ℕ) (len : ℕ) (keys : Keys) → length room ≡ 65 → slice ≡ take len room → FillsFront r s room len → keys_of slice ≡ Some keys → HoldsKeys r s keys
holds_keys r s room slice len keys long is fills keys_are =
    let same : keys_of (take len room) ≡ Some keys = subst (λ bytes. keys_of bytes ≡ Some keys) is keys_are in
    record {
      bytes = take len room;
      consumed = fills.consumed;
      end = elim fills.whole [
        | inl end ↦ end
        | inr full ↦ absurd (never_full (take len room) keys (omega (arith, full, long, length-take-le len room fills.fits)) same)
      ];
      keys_are = same;
      sound = fills.sound;
    }

pub holds_no_keys : (r s : SourceAt) (room slice : List ℕ) (len : ℕ) → length room ≡ 65 → slice ≡ take len room → FillsFront r s room len → keys_of slice ≡ None → HoldsNoKeys r s
holds_no_keys r s room slice len long is fills none = record {
  bytes = take len room;
  consumed = fills.consumed;
  whole = elim fills.whole [
    | inl end ↦ inl end
    | inr full ↦ inr (omega (arith, full, long, length-take-le len room fills.fits))
  ];
  none = subst (λ bytes. keys_of bytes ≡ None) is none;
  sound = fills.sound;
}

-- what is read more stands in the room
pub room_left : (room piece rest : List ℕ) (len n : ℕ) → len ≤ length room → n ≤ length piece → len + n ≤ length (take len room ++ (piece ++ rest))
room_left room piece rest len n within fits = omega (arith, length-append (take len room) (piece ++ rest), length-append piece rest, length-take-le len room within, fits)
