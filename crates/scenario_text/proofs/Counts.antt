-- A line that asks for nodes asks for 1 to 16 of them.
use Rattle.std.proofs.Common.{◌≡◌, ◌≤◌, ℕ, cond, ◌&&◌, nat_le, List, [], ◌∷◌, Option, Some, None, refl, sym, subst, ap, inl, inr}
use Rattle.std.specs.Prelude.{bytes_eq}
use Rattle.std.proofs.lemmas.Bool.{and_parts, cases_Bool, leb-true}
use Rattle.std.proofs.lemmas.Option.{cond_some, same_Some, some_pair_parts}
use Rattle.scenario_text.specs.Word.{Word, number_of, within, words_of}
use Rattle.scenario_text.specs.Reading.{WordReader, and_then, applied, given, just, number_or_none, whole_of, ◌and◌}
use Rattle.scenario_text.specs.Commands as forms
use Rattle.scenario_text.specs.Commands.{Command, command_of, node_count, reads_behind, rows}
use Rattle.scenario_text.specs.Commands.{Put, Del, Over, Read, Show, Resolve, Deliver, Junk, Tick, Join, Down, Exchange, Hello, Leave, Restart, Keep, Watch, Changes, Keys, Root, Images, Views, Settle, Nodes}
use Rattle.scenario_text.proofs.Rows.{◌also◌}
use Rattle.scenario_text.specs.Script.{Asks, asked_of, line_of, line_of_words, starts_comment}

abbrev pub IsFew : Command → Type 0
IsFew (Nodes count) = (1 ≤ count) × (count ≤ 16)
IsFew command = Unit {0}

-- the reading gives nothing else
abbrev Only : {A : Type 0} → (A → Type 0) → WordReader A → Type 0
Only {A} P reads = (words : List Word) (x : A) (left : List Word) → reads words ≡ Some (x, left) → P x

applied-some : {A B : Type 0} (f : A → B) (read : Option (A × List Word)) (x : B) (left : List Word) → applied f read ≡ Some (x, left) → (a : A) × (middle : List Word) × (read ≡ Some (a, middle)) × (f a ≡ x)
applied-some f None x left e = cc e
applied-some f (Some (a, middle)) x left e = (a, middle, refl, (some_pair_parts (f a) x middle left e).0)

and_then-some : {A B : Type 0} (second : WordReader A) (read : Option ((A → B) × List Word)) (x : B) (left : List Word) → and_then second read ≡ Some (x, left)
    → (f : A → B) × (a : A) × (start : List Word) × (middle : List Word) × (read ≡ Some (f, start)) × (second start ≡ Some (a, middle)) × (f a ≡ x)
and_then-some second None x left e = cc e
and_then-some second (Some (f, start)) x left e =
    let last = applied-some f (second start) x left e in
    (f, last.0, start, last.1, refl, last.2, last.3)

only_just : {A : Type 0} (P : A → Type 0) (x : A) → P x → Only P (just x)
only_just P x has words y left e = subst P (some_pair_parts x y words left e).0 has

only_and : {A B : Type 0} (P : B → Type 0) (first : WordReader (A → B)) (second : WordReader A) → Only (λ f. (a : A) → P (f a)) first → Only P (first and second)
only_and P first second only words x left e =
    let last = and_then-some second (first words) x left e in
    subst P last.6 (only words last.0 last.2 last.4 last.1)

only1 : {A : Type 0} (f : A → Command) (r : WordReader A) → ((a : A) → IsFew (f a)) → Only IsFew (just f and r)
only1 {A} f r has = only_and IsFew (just f) r (only_just (λ (g : A → Command). (a : A) → IsFew (g a)) f has)

only2 : {A B : Type 0} (f : A → B → Command) (r : WordReader A) (s : WordReader B) → ((a : A) (b : B) → IsFew (f a b)) → Only IsFew (just f and r and s)
only2 {A} {B} f r s has =
    only_and IsFew (just f and r) s
    (only_and (λ (g : B → Command). (b : B) → IsFew (g b)) (just f) r
    (only_just (λ (g : A → B → Command). (a : A) (b : B) → IsFew (g a b)) f has))

only3 : {A B C : Type 0} (f : A → B → C → Command) (r : WordReader A) (s : WordReader B) (t : WordReader C) → ((a : A) (b : B) (c : C) → IsFew (f a b c)) → Only IsFew (just f and r and s and t)
only3 {A} {B} {C} f r s t has =
    only_and IsFew (just f and r and s) t
    (only_and (λ (g : C → Command). (c : C) → IsFew (g c)) (just f and r) s
    (only_and (λ (g : B → C → Command). (b : B) (c : C) → IsFew (g b c)) (just f) r
    (only_just (λ (g : A → B → C → Command). (a : A) (b : B) (c : C) → IsFew (g a b c)) f has)))

only4 : {A B C D : Type 0} (f : A → B → C → D → Command) (r : WordReader A) (s : WordReader B) (t : WordReader C) (u : WordReader D) → ((a : A) (b : B) (c : C) (d : D) → IsFew (f a b c d)) → Only IsFew (just f and r and s and t and u)
only4 {A} {B} {C} {D} f r s t u has =
    only_and IsFew (just f and r and s and t) u
    (only_and (λ (g : D → Command). (d : D) → IsFew (g d)) (just f and r and s) t
    (only_and (λ (g : C → D → Command). (c : C) (d : D) → IsFew (g c d)) (just f and r) s
    (only_and (λ (g : B → C → D → Command). (b : B) (c : C) (d : D) → IsFew (g b c d)) (just f) r
    (only_just (λ (g : A → B → C → D → Command). (a : A) (b : B) (c : C) (d : D) → IsFew (g a b c d)) f has))))

only5 : {A B C D E : Type 0} (f : A → B → C → D → E → Command) (r : WordReader A) (s : WordReader B) (t : WordReader C) (u : WordReader D) (v : WordReader E) → ((a : A) (b : B) (c : C) (d : D) (e : E) → IsFew (f a b c d e)) → Only IsFew (just f and r and s and t and u and v)
only5 {A} {B} {C} {D} {E} f r s t u v has =
    only_and IsFew (just f and r and s and t and u) v
    (only_and (λ (g : E → Command). (e : E) → IsFew (g e)) (just f and r and s and t) u
    (only_and (λ (g : D → E → Command). (d : D) (e : E) → IsFew (g d e)) (just f and r and s) t
    (only_and (λ (g : C → D → E → Command). (c : C) (d : D) (e : E) → IsFew (g c d e)) (just f and r) s
    (only_and (λ (g : B → C → D → E → Command). (b : B) (c : C) (d : D) (e : E) → IsFew (g b c d e)) (just f) r
    (only_just (λ (g : A → B → C → D → E → Command). (a : A) (b : B) (c : C) (d : D) (e : E) → IsFew (g a b c d e)) f has)))))

given-some : {A : Type 0} (words : List Word) (read : Option A) (x : A) (left : List Word) → given words read ≡ Some (x, left) → read ≡ Some x
given-some words None x left e = cc e
given-some words (Some y) x left e = ap Some (some_pair_parts y x words left e).0

within-some : (count : Option ℕ) (n : ℕ) → within 1 16 count ≡ Some n → (1 ≤ n) × (n ≤ 16)
within-some None n e = cc e
within-some (Some m) n e =
    let range = cond_some (nat_le 1 m && nat_le m 16) m n e in
    let parts = and_parts (nat_le 1 m) (nat_le m 16) range.0 in
    subst (λ k. (1 ≤ k) × (k ≤ 16)) range.1 (leb-true 1 m parts.0, leb-true m 16 parts.1)

node_count-some : (words : List Word) (n : ℕ) (left : List Word) → node_count words ≡ Some (n, left) → (1 ≤ n) × (n ≤ 16)
node_count-some [] n left e = cc e
node_count-some (word ∷ words) n left e =
    within-some (number_of word) n (given-some words (within 1 16 (number_of word)) n left e)

only_nodes : Only IsFew (just Nodes and node_count)
only_nodes words command left e =
    let read = applied-some Nodes (node_count words) command left e in
    subst IsFew read.3 (node_count-some words read.0 read.1 read.2)

abbrev AllOnly : List (Word × WordReader Command) → Type 0
AllOnly [] = Unit {0}
AllOnly (row ∷ rows) = Only IsFew row.1 × AllOnly rows

only_rows : (resolvers : ℕ) → AllOnly (rows resolvers)
only_rows resolvers =
    only_nodes
    also only5 Put forms.a_number forms.a_key forms.a_value forms.stamp forms.read (λ a b c d e. tt)
    also only4 Del forms.a_number forms.a_key forms.stamp forms.read (λ a b c d. tt)
    also only4 Over forms.a_number forms.a_key forms.a_value forms.stamp (λ a b c d. tt)
    also only2 Read forms.a_number forms.a_key (λ a b. tt)
    also only2 Show forms.a_number forms.a_key (λ a b. tt)
    also only3 Resolve forms.a_number forms.a_key (forms.resolver resolvers) (λ a b c. tt)
    also only3 Deliver forms.a_number number_or_none forms.random (λ a b c. tt)
    also only2 Junk forms.a_number forms.junk (λ a b. tt)
    also only2 Tick forms.a_number forms.random (λ a b. tt)
    also only3 Join forms.a_number forms.a_number forms.random (λ a b c. tt)
    also only3 Down forms.a_number forms.a_number forms.random (λ a b c. tt)
    also only2 Exchange forms.a_number forms.a_number (λ a b. tt)
    also only2 Hello forms.a_number forms.a_number (λ a b. tt)
    also only1 Leave forms.a_number (λ a. tt)
    also only2 Restart forms.a_number forms.a_number (λ a b. tt)
    also only2 Keep forms.a_number forms.key_if_any (λ a b. tt)
    also only3 Watch forms.a_number forms.a_prefix forms.a_number (λ a b c. tt)
    also only2 Changes forms.a_number forms.a_number (λ a b. tt)
    also only2 Keys forms.a_number forms.a_prefix (λ a b. tt)
    also only1 Root forms.a_number (λ a. tt)
    also only1 Images forms.a_number (λ a. tt)
    also only1 Views forms.a_number (λ a. tt)
    also only_just IsFew Settle tt
    also tt

only_behind : (name : Word) (rows : List (Word × WordReader Command)) → AllOnly rows → Only IsFew (reads_behind name rows)
only_behind name [] all words command left e = cc e
only_behind name (row ∷ rows) all words command left e = elim (cases_Bool (bytes_eq name row.0)) [
  | inl same ↦ all.0 words command left (subst (λ b. cond b row.1 (reads_behind name rows) words ≡ Some (command, left)) same e)
  | inr other ↦ only_behind name rows all.1 words command left (subst (λ b. cond b row.1 (reads_behind name rows) words ≡ Some (command, left)) other e)
]

whole-some : {A : Type 0} (read : Option (A × List Word)) (x : A) → whole_of read ≡ Some x → (left : List Word) × (read ≡ Some (x, left))
whole-some None x e = cc e
whole-some (Some (y, [])) x e = ([], ap (λ z. Some (z, [])) (same_Some y x e))
whole-some (Some (y, word ∷ words)) x e = cc e

few_command : (resolvers : ℕ) (words : List Word) (command : Command) → command_of resolvers words ≡ Some command → IsFew command
few_command resolvers [] command e = cc e
few_command resolvers (name ∷ words) command e =
    let read = whole-some (reads_behind name (rows resolvers) words) command e in
    only_behind name (rows resolvers) (only_rows resolvers) words command read.0 read.1

asked-some : (read : Option Command) (command : Command) → asked_of read ≡ Asks command → read ≡ Some command
asked-some None command e = cc e
asked-some (Some asked) command e = cc e

few_words : (resolvers : ℕ) (words : List Word) (command : Command) → line_of_words resolvers words ≡ Asks command → IsFew command
few_words resolvers [] command e = cc e
few_words resolvers (first ∷ words) command e = elim (cases_Bool (starts_comment first)) [
  | inl comment ↦ absurd (cc (rw comment at e))
  | inr other ↦ few_command resolvers (first ∷ words) command (asked-some (command_of resolvers (first ∷ words)) command (rw other at e))
]

pub few_line : (resolvers : ℕ) (line : List ℕ) (command : Command) → Asks command ≡ line_of resolvers line → IsFew command
few_line resolvers line command e = few_words resolvers (words_of line) command (sym e)
