-- Words that are near, and verbs one after the other.
use Rattle.std.proofs.Common.{◌≡◌, ◌≢◌, ℕ, ◌+◌, ◌<◌, Bool, true, false, List, [], ◌∷◌, ◌++◌, length, drop, append_assoc, get_or, Option, Some, None, refl, sym, subst, ap, ◌∙◌, eq-eqb, ne_eqb}
use Rattle.std.specs.Prelude.{bytes_eq, nat_le, slice_get, ◌&&◌, ◌||◌, if◌then◌else◌}
use Rattle.std.proofs.lemmas.List.{drop_more}
use Rattle.std.specs.Option.{unwrap_or}
use Rattle.scenario_text.specs.declared.verb.Verb.{Verb}
use Rattle.scenario_text.specs.Coded.{verb_word}
use Rattle.scenario_text.specs.Word.{Word}
use Rattle.scenario_text.specs.Hint.{IsHintOfWords, NoneWrong, OneMore, WrongAt, WrongWords, behind_slot, is_near, left_over, near_of, swapped, wrong_in}
use Rattle.scenario_text.specs.declared.hint.Hint.TheVariants.{Unknown}
use Rattle.scenario_text.specs.declared.wrong.Slot.{Slot}

-- ---- words

pub near_same : (xs ys : List ℕ) (a b : ℕ) (cs ds : List ℕ) → xs ≡ a ∷ cs → ys ≡ b ∷ ds → a ≡ b → is_near xs ys ≡ is_near cs ds
unfolding is_near
near_same xs ys a b cs ds x y same = rw (x, y) (ap (λ (t : Bool). if t then is_near cs ds else (bytes_eq cs ds || (bytes_eq cs (b ∷ ds) || (bytes_eq (a ∷ cs) ds || swapped (a ∷ cs) (b ∷ ds))))) (eq-eqb a b same))

pub near_other : (xs ys : List ℕ) (a b : ℕ) (cs ds : List ℕ) → xs ≡ a ∷ cs → ys ≡ b ∷ ds → a ≢ b → is_near xs ys ≡ (bytes_eq cs ds || (bytes_eq cs ys || (bytes_eq xs ds || swapped xs ys)))
unfolding is_near
near_other xs ys a b cs ds x y other = rw (x, y) (ap (λ (t : Bool). if t then is_near cs ds else (bytes_eq cs ds || (bytes_eq cs (b ∷ ds) || (bytes_eq (a ∷ cs) ds || swapped (a ∷ cs) (b ∷ ds))))) (ne_eqb a b other))

and_true : (b : Bool) → (b && true) ≡ b
and_true true = refl
and_true false = refl

-- one of the words is over
pub near_end_left : (xs ys : List ℕ) → length xs ≡ 0 → (nat_le (length xs) 1 && nat_le (length ys) 1) ≡ is_near xs ys
unfolding is_near
near_end_left [] ys over = refl
near_end_left (x ∷ xs) ys over = cc

pub near_end_right : (xs ys : List ℕ) → length ys ≡ 0 → (nat_le (length xs) 1 && nat_le (length ys) 1) ≡ is_near xs ys
unfolding is_near
near_end_right [] [] over = refl
near_end_right (x ∷ xs) [] over = and_true (nat_le (length (x ∷ xs)) 1)
near_end_right xs (y ∷ ys) over = cc

-- ---- verbs

-- a verb that is not near is passed
pub near_next : (word : Word) (verbs : List Verb) (i : ℕ) (verb : Verb) → i < length verbs → is_near word (verb_word (get_or verbs i verb)) ≡ false
    → near_of word (drop i verbs) ≡ near_of word (drop (i + 1) verbs)
unfolding near_of
near_next word verbs i verb lt far =
    ap (near_of word) (drop_more verbs i verb lt)
    ∙ ap (λ (t : Bool). if t then Some (get_or verbs i verb) else near_of word (drop (i + 1) verbs)) far

-- a verb that is near is found
pub near_here : (word : Word) (verbs : List Verb) (i : ℕ) (verb : Verb) → i < length verbs → is_near word (verb_word (get_or verbs i verb)) ≡ true
    → near_of word (drop i verbs) ≡ Some (get_or verbs i verb)
unfolding near_of
near_here word verbs i verb lt near =
    ap (near_of word) (drop_more verbs i verb lt)
    ∙ ap (λ (t : Bool). if t then Some (get_or verbs i verb) else near_of word (drop (i + 1) verbs)) near

pub near_none : (word : Word) → near_of word [] ≡ None
unfolding near_of
near_none word = refl

-- by its first word a line is unknown
pub is_unknown : (words : List Word) (word : Word) (near : Option Verb) → Some word ≡ slice_get words 0 → IsHintOfWords (word ∷ []) (Unknown near) → IsHintOfWords words (Unknown near)
is_unknown [] word near first is = cc
is_unknown (other ∷ words) word near first is =
    let same : other ≡ word = ap (λ (o : Option Word). unwrap_or o []) (sym first) in subst (λ (w : Word). IsHintOfWords (w ∷ words) (Unknown near)) (sym same) is

-- ---- slots

-- a slot that can't be read is where the words are wrong
pub wrong_here : (slots : List Slot) (i : ℕ) (slot : Slot) (words : List Word) → i < length slots → behind_slot (get_or slots i slot) words ≡ None
    → wrong_in (drop i slots) words ≡ WrongAt (get_or slots i slot) (slice_get words 0)
unfolding wrong_in
wrong_here slots i slot words lt none =
    ap (λ (ss : List Slot). wrong_in ss words) (drop_more slots i slot lt)
    ∙ ap (λ (o : Option (List Word)). elim o [
      | None ↦ WrongAt (get_or slots i slot) (slice_get words 0)
      | Some left ↦ wrong_in (drop (i + 1) slots) left
    ]) none

-- a slot that can be read is passed
pub wrong_next : (slots : List Slot) (i : ℕ) (slot : Slot) (words left : List Word) → i < length slots → behind_slot (get_or slots i slot) words ≡ Some left
    → wrong_in (drop i slots) words ≡ wrong_in (drop (i + 1) slots) left
unfolding wrong_in
wrong_next slots i slot words left lt some =
    ap (λ (ss : List Slot). wrong_in ss words) (drop_more slots i slot lt)
    ∙ ap (λ (o : Option (List Word)). elim o [
      | None ↦ WrongAt (get_or slots i slot) (slice_get words 0)
      | Some left ↦ wrong_in (drop (i + 1) slots) left
    ]) some

pub nothing_left : (words : List Word) → None ≡ slice_get words 0 → left_over words ≡ NoneWrong
nothing_left [] none = refl
nothing_left (word ∷ words) none = cc

pub one_left : (words : List Word) (word : Word) → Some word ≡ slice_get words 0 → left_over words ≡ OneMore word
one_left [] word some = cc
one_left (other ∷ words) word some = ap OneMore (ap (λ (o : Option Word). unwrap_or o []) (sym some))

pub wrong_over : (words : List Word) → wrong_in [] words ≡ left_over words
unfolding wrong_in
wrong_over words = refl

-- ---- texts

pub two_added : (o p q a b : List ℕ) → p ≡ o ++ a → q ≡ p ++ b → q ≡ o ++ (a ++ b)
two_added o p q a b first second = rw (second, first) (append_assoc o a b)

pub three_added : (o p q r a b c : List ℕ) → p ≡ o ++ a → q ≡ p ++ b → r ≡ q ++ c → r ≡ o ++ (a ++ (b ++ c))
three_added o p q r a b c first second third = rw (third, second, first) (append_assoc (o ++ a) b c ∙ append_assoc o a (b ++ c))

pub four_added : (o p q r s a b c d : List ℕ) → p ≡ o ++ a → q ≡ p ++ b → r ≡ q ++ c → s ≡ r ++ d → s ≡ o ++ (a ++ (b ++ (c ++ d)))
four_added o p q r s a b c d first second third fourth = rw (fourth, third, second, first)
    (append_assoc ((o ++ a) ++ b) c d ∙ append_assoc (o ++ a) b (c ++ d) ∙ append_assoc o a (b ++ (c ++ d)))
