-- Writing in pieces: what was appended so far, and what is still to be written.
use Rattle.std.proofs.Common.{◌≡◌, ℕ, ◌-◌, ◌<◌, List, [], ◌++◌, length, take, drop, Option, Some, None, refl, sym, ap, ◌∙◌, append_assoc, arith}
use Rattle.std.proofs.lemmas.List.{append-nil, take-append-drop, take_all, length-drop}
use Rattle.std.specs.Io.KnownBytes.{Appends, Keeps}
use Rattle.streams.specs.Written.{AppendsFront}

-- the bytes before the rest were appended
pub record Sent (old new : Option (List ℕ)) (bytes rest : List ℕ) : Type 0 where
  pub front : List ℕ
  pub parts : bytes ≡ front ++ rest
  pub appended : Appends old new front

pub Appends-nil : (a : Option (List ℕ)) → Appends a a []
Appends-nil None = tt
Appends-nil (Some xs) = sym (append-nil xs)

pub Appends-then : (a b c : Option (List ℕ)) (x y : List ℕ) → Appends a b x → Appends b c y → Appends a c (x ++ y)
Appends-then None b c x y p q = tt
Appends-then (Some xs) None c x y p q = absurd p
Appends-then (Some xs) (Some ys) None x y p q = absurd q
Appends-then (Some xs) (Some ys) (Some zs) x y p q = q ∙ ap (λ (t : List ℕ). t ++ y) p ∙ append_assoc xs x y

pub Appends-kept : (a b c : Option (List ℕ)) (x : List ℕ) → Appends a b x → Keeps b c → Appends a c x
Appends-kept None b c x p q = tt
Appends-kept (Some xs) None c x p q = absurd p
Appends-kept (Some xs) (Some ys) None x p q = absurd q
Appends-kept (Some xs) (Some ys) (Some zs) x p q = q ∙ p

sent_more : (old now new : Option (List ℕ)) (bytes rest : List ℕ) (n : ℕ) → Sent old now bytes rest → Appends now new (take n rest) → Sent old new bytes (drop n rest)
sent_more old now new bytes rest n s more = record {
  front = s.front ++ take n rest;
  parts = s.parts ∙ ap (λ (t : List ℕ). s.front ++ t) (sym (take-append-drop n rest)) ∙ sym (append_assoc s.front (take n rest) (drop n rest));
  appended = Appends-then old now new s.front (take n rest) s.appended more;
}

-- `n` more bytes, if what is left is cut as a slice is
pub sent_on : (old now new : Option (List ℕ)) (bytes rest : List ℕ) (n : ℕ) → Sent old now bytes rest → Appends now new (take n rest) → Sent old new bytes (take (length rest - n) (drop n rest))
sent_on old now new bytes rest n s more = rw (take_all (length rest - n) (drop n rest) (omega (arith, length-drop n rest))) (sent_more old now new bytes rest n s more)

pub positive : (n : ℕ) → (n ≡ 0 → ⊥) → 0 < n
positive n some = omega (arith, some)
