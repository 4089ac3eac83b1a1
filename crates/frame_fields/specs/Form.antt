-- A form says how the values of a field are spelled as bytes, which values have a spelling, and
-- which bytes are at fault. The place of a fault is the number of bytes from the first byte of the
-- field at fault, itself included, to the end of all bytes; its offset is the number of all bytes
-- less this number.
--
-- The rule of faults is our own: fields are read from left to right, and the first one that is cut
-- by the end of the bytes, or whose value its rule forbids, is at fault. An object without any
-- value is at fault at its count, after all its fields were read. Bytes after the last field come
-- after all of these.
use Rattle.std.specs.Prelude.{◌≡◌, ℕ, ◌<◌, ◌^◌, ◌*◌, ◌⊎◌, List, [], ◌∷◌, ◌++◌, length, Bool, true, false}
use Rattle.std.specs.Int.{Width, byte_len, to_be_bytes}

pub record Form (A : Type 0) : Type 1 where
  -- the bytes of a value
  pub spell : A → List ℕ
  -- the value has a spelling
  pub Fits : A → Type 0
  -- at the front of these bytes a field of the form is at fault, with this number of bytes left
  pub Bad : List ℕ → ℕ → Type 0

-- fewer bytes are there than a field has
abbrev pub IsCut : ℕ → List ℕ → ℕ → Type 0
IsCut size bytes left = (length bytes < size) × (left ≡ length bytes)

-- after a field that is right, what follows is at fault
pub record BadAfter {A : Type 0} (form : Form A) (behind : A → List ℕ → ℕ → Type 0)
    (bytes : List ℕ) (left : ℕ) : Type 0 where
  pub value : A
  pub rest : List ℕ
  pub fits : form.Fits value
  pub spelled : bytes ≡ form.spell value ++ rest
  pub bad : behind value rest left

-- a number of a width, in big-endian order
abbrev pub any_number : Width → Form ℕ
any_number w = record {
  spell = to_be_bytes w;
  Fits = λ n. n < 2 ^ (8 * byte_len w);
  Bad = IsCut (byte_len w);
}

-- `size` bytes, whatever they are
abbrev pub some_bytes : ℕ → Form (List ℕ)
some_bytes size = record {
  spell = λ bytes. bytes;
  Fits = λ bytes. length bytes ≡ size;
  Bad = IsCut size;
}

-- no bytes: they spell this value alone, and are never at fault
abbrev pub no_bytes : {A : Type 0} → A → Form A
no_bytes x = record { spell = λ _. []; Fits = λ y. y ≡ x; Bad = λ _ _. ⊥ }

-- a field is spelled, but breaks a further rule
pub record BreaksRule {A : Type 0} (form : Form A) (rule : A → Bool)
    (bytes : List ℕ) (left : ℕ) : Type 0 where
  pub value : A
  pub rest : List ℕ
  pub fits : form.Fits value
  pub spelled : bytes ≡ form.spell value ++ rest
  pub broken : rule value ≡ false
  pub left_is : left ≡ length bytes

-- a field with a further rule, whose breach is at fault at the first byte of the field
abbrev pub ruled : {A : Type 0} → Form A → (A → Bool) → Form A
ruled form rule = record {
  spell = form.spell;
  Fits = λ x. form.Fits x × (rule x ≡ true);
  Bad = λ bytes left. form.Bad bytes left ⊎ BreaksRule form rule bytes left;
}

-- one field, and then another whose form may depend on the first
abbrev pub then_form : {A B : Type 0} → Form A → (A → Form B) → Form (A × B)
then_form first second = record {
  spell = λ p. first.spell p.0 ++ (second p.0).spell p.1;
  Fits = λ p. first.Fits p.0 × (second p.0).Fits p.1;
  Bad = λ bytes left. first.Bad bytes left ⊎ BadAfter first (λ x. (second x).Bad) bytes left;
}

-- the same bytes, seen as values of another type; for use only if each value that fits the first
-- form is the parts of just one of these, so that the same bytes are at fault
abbrev pub seen_as : {A B : Type 0} → Form A → (B → A) → Form B
seen_as form parts =
    record { spell = λ y. form.spell (parts y); Fits = λ y. form.Fits (parts y); Bad = form.Bad }

-- each value has a spelling; its form depends on what `next` makes of the value before it, and the
-- first's on `s`
abbrev pub EachFits : {S A : Type 0} → (S → Form A) → (A → S) → S → List A → Type 0
EachFits form next s [] = Unit {0}
EachFits form next s (x ∷ xs) = (form s).Fits x × EachFits form next (next x) xs

abbrev pub spell_each : {S A : Type 0} → (S → Form A) → (A → S) → S → List A → List ℕ
spell_each form next s [] = []
spell_each form next s (x ∷ xs) = (form s).spell x ++ spell_each form next (next x) xs

-- what the form of the value after these depends on
abbrev pub state_after : {S A : Type 0} → (A → S) → S → List A → S
state_after next s [] = s
state_after next s (x ∷ xs) = state_after next (next x) xs

-- some values are right, fewer than `count`, and the next one is at fault
pub record BadAmong {S A : Type 0} (form : S → Form A) (next : A → S)
    (count : ℕ) (s : S) (bytes : List ℕ) (left : ℕ) : Type 0 where
  pub before : List A
  pub rest : List ℕ
  pub fewer : length before < count
  pub fit : EachFits form next s before
  pub spelled : bytes ≡ spell_each form next s before ++ rest
  pub bad : (form (state_after next s before)).Bad rest left

-- `count` values, one after another
abbrev pub each : {S A : Type 0} → (S → Form A) → (A → S) → S → ℕ → Form (List A)
each form next s count = record {
  spell = spell_each form next s;
  Fits = λ xs. (length xs ≡ count) × EachFits form next s xs;
  Bad = BadAmong form next count s;
}
