-- What a command of a text brings: its stamp is a number, and its junk is bytes. If none of its names and values is out of range,
-- the event that it is brings what is lawful.
use Rattle.std.proofs.Common.{◌≡◌, ◌<◌, ◌≤◌, ◌^◌, ℕ, arith, cond, ◌&&◌, nat_le, nat_lt, Bool, true, false, List, [], ◌∷◌, length, All, Option, Some, None, IfSome, Result, Ok, Err, refl, sym, subst, ap}
use Rattle.std.specs.Prelude.{bytes_eq}
use Rattle.std.specs.List.{AllByRecursion}
use Rattle.std.proofs.lemmas.Bool.{and_parts, cond_both, leb-true, ltb-true}
use Rattle.std.proofs.lemmas.List.Elements.{All-from_get_or}
use Rattle.std.proofs.lemmas.Option.{cond_some, same_Some, some_pair_parts}
use Rattle.hex.specs.Hex.{decode_of}
use Rattle.hex.specs.declared.error.FromHexError.{FromHexError}
use Rattle.hex.proofs.HexLemmas.{decode_of-ok}
use Rattle.meta_types.specs.Name.{IsKey, IsName, Key, most_key_len, most_prefix_len}
use Rattle.meta_types.specs.Node.{most_nodes}
use Rattle.meta_types.specs.Value.{IsValue, most_body_len}
use Rattle.meta_types.specs.declared.fault.TypeFault.{TypeFault}
use Rattle.meta_types.specs.declared.fault.TypeFault.TheVariants.{BadName, ValueTooLong}
use Rattle.scenario_commands.specs.Meaning.{event_of}
use Rattle.scenario_text.specs.Word.{Word, are_digits, bytes_of_digits, digits_onto, junk_of, number_of, of_decoded, words_of}
use Rattle.scenario_text.specs.Reading.{WordReader, and_then, applied, given, just, labelled, number_or_none, one, or_zero, some_of, whole_of, ◌and◌}
use Rattle.scenario_text.specs.Commands as forms
use Rattle.scenario_text.specs.Commands.{Command, command_of, fault_in, fault_of_write, is_key, is_prefix, reads_behind, rows}
use Rattle.scenario_text.specs.Commands.{Put, Del, Over, Read, Show, Resolve, Deliver, Junk, Tick, Join, Down, Exchange, Hello, Leave, Restart, Keep, Watch, Changes, Keys, Root, Images, Views, Settle, Nodes}
use Rattle.scenario_text.specs.Script.{Asks, Bad, Line, Scenario, Skipped, asked_of, commands_of, commands_of_lines, line_of, line_of_words, scenario_of, starts_comment}
use Rattle.scenario_text.proofs.Counts.{IsFew, few_line}
use Rattle.scenario_text.proofs.Rows.{◌also◌}
use Rattle.scenario_outcomes.specs.Lawful.{IsLawfulWorldEvent}
use Rattle.streams.specs.Line.{lines_of}
use Rattle.world_core.specs.World.{World}

abbrev IsNumber : ℕ → Type 0
IsNumber n = n < 2 ^ 64

abbrev AreBytes : List ℕ → Type 0
AreBytes bytes = All (λ b. b < 256) bytes

-- of a key and of a body, whose lengths `fault_in` looks at, nothing is said here
abbrev pub IsBrought : Command → Type 0
IsBrought (Put n k v s r) = IsNumber s
IsBrought (Del n k s r) = IsNumber s
IsBrought (Over n k v s) = IsNumber s
IsBrought (Junk n bytes) = AreBytes bytes
IsBrought command = Unit {0}

-- ---- what words are read as

number_small : (word : Word) (n : ℕ) → number_of word ≡ Some n → IsNumber n
number_small word n e =
    let read = cond_some (are_digits word && nat_lt (digits_onto 0 word) (2 ^ 64)) (digits_onto 0 word) n e in
    let small = (and_parts (are_digits word) (nat_lt (digits_onto 0 word) (2 ^ 64)) read.0).1 in
    subst IsNumber read.1 (ltb-true (digits_onto 0 word) (2 ^ 64) small)

decoded : (r : Result (List ℕ) FromHexError) (bytes : List ℕ) → of_decoded r ≡ Some bytes → r ≡ Ok bytes
decoded (Ok read) bytes e = ap Ok (same_Some read bytes e)
decoded (Err fault) bytes e = cc e

junk_small : (word : Word) (bytes : List ℕ) → junk_of word ≡ Some bytes → AreBytes bytes
junk_small word bytes =
    cond_both (nat_le 2 (length word)) (bytes_of_digits word) None (λ (read : Option (List ℕ)). read ≡ Some bytes → AreBytes bytes)
    (λ long e.
    let fits = (decode_of-ok word bytes (decoded (decode_of word) bytes e)).3 in
    All-from_get_or (λ b. b < 256) bytes 0 (λ i lt. fits i))
    (λ short e. cc e)

-- ---- what is read

-- the reading gives it
abbrev IsGiven : {A : Type 0} → WordReader A → A → Type 0
IsGiven {A} reads x = (words : List Word) × (left : List Word) × (reads words ≡ Some (x, left))

given-some : {A : Type 0} (words : List Word) (read : Option A) (x : A) (left : List Word) → given words read ≡ Some (x, left)
    → read ≡ Some x
given-some words None x left e = cc e
given-some words (Some y) x left e = ap Some (some_pair_parts y x words left e).0

one-some : {A : Type 0} (rule : Word → Option A) (words left : List Word) (x : A) → one rule words ≡ Some (x, left)
    → (word : Word) × (rule word ≡ Some x)
one-some rule [] left x e = cc e
one-some rule (word ∷ words) left x e = (word, given-some words (rule word) x left e)

given_junk : (bytes : List ℕ) → IsGiven forms.junk bytes → AreBytes bytes
given_junk bytes (words, left, e) = let read = one-some junk_of words left bytes e in junk_small read.0 bytes read.1

-- a number after its label, or 0
after_label : (read : Option (ℕ × List Word)) (n : ℕ) (left : List Word)
    → ((m : ℕ) (rest : List Word) → read ≡ Some (m, rest) → IsNumber m)
    → or_zero (some_of read) ≡ Some (n, left) → IsNumber n
after_label None n left each e = cc e
after_label (Some (m, rest)) n left each e = subst IsNumber (some_pair_parts m n rest left e).0 (each m rest refl)

no_label : (n : ℕ) (words left : List Word) → or_zero (Some (None, words)) ≡ Some (n, left) → IsNumber n
no_label n words left e = let zero : IsNumber 0 = omega arith in subst IsNumber (some_pair_parts 0 n words left e).0 zero

label_small : (label : Word) (words left : List Word) (n : ℕ) → or_zero (labelled label words) ≡ Some (n, left) → IsNumber n
label_small label [] left n = no_label n [] left
label_small label (word ∷ words) left n =
    cond_both (bytes_eq word label) (some_of (one number_of words)) (Some (None, word ∷ words))
    (λ (read : Option (Option ℕ × List Word)). or_zero read ≡ Some (n, left) → IsNumber n)
    (λ here. after_label (one number_of words) n left
    (λ m rest e. let read = one-some number_of words rest m e in number_small read.0 m read.1))
    (λ other. no_label n (word ∷ words) left)

given_stamp : (s : ℕ) → IsGiven forms.stamp s → IsNumber s
given_stamp s (words, left, e) = label_small _ words left s e

-- ---- rows of the table

-- the reading gives nothing else
abbrev Only : {A : Type 0} → (A → Type 0) → WordReader A → Type 0
Only {A} P reads = (words : List Word) (x : A) (left : List Word) → reads words ≡ Some (x, left) → P x

applied-some : {A B : Type 0} (f : A → B) (read : Option (A × List Word)) (x : B) (left : List Word)
    → applied f read ≡ Some (x, left)
    → (a : A) × (middle : List Word) × (read ≡ Some (a, middle)) × (f a ≡ x)
applied-some f None x left e = cc e
applied-some f (Some (a, middle)) x left e = (a, middle, refl, (some_pair_parts (f a) x middle left e).0)

and_then-some : {A B : Type 0} (second : WordReader A) (read : Option ((A → B) × List Word)) (x : B) (left : List Word)
    → and_then second read ≡ Some (x, left)
    → (f : A → B) × (a : A) × (start : List Word) × (read ≡ Some (f, start)) × IsGiven second a × (f a ≡ x)
and_then-some second None x left e = cc e
and_then-some second (Some (f, start)) x left e =
    let last = applied-some f (second start) x left e in
    (f, last.0, start, refl, (start, last.1, last.2), last.3)

only_just : {A : Type 0} (P : A → Type 0) (x : A) → P x → Only P (just x)
only_just P x has words y left e = subst P (some_pair_parts x y words left e).0 has

only_and : {A B : Type 0} (P : B → Type 0) (first : WordReader (A → B)) (second : WordReader A)
    → Only (λ f. (a : A) → IsGiven second a → P (f a)) first → Only P (first and second)
only_and P first second only words x left e =
    let last = and_then-some second (first words) x left e in
    subst P last.5 (only words last.0 last.2 last.3 last.1 last.4)

only1 : {A : Type 0} (f : A → Command) (r : WordReader A)
    → ((a : A) → IsGiven r a → IsBrought (f a)) → Only IsBrought (just f and r)
only1 {A} f r has =
    only_and IsBrought (just f) r (only_just (λ (g : A → Command). (a : A) → IsGiven r a → IsBrought (g a)) f has)

only2 : {A B : Type 0} (f : A → B → Command) (r : WordReader A) (s : WordReader B)
    → ((a : A) → IsGiven r a → (b : B) → IsGiven s b → IsBrought (f a b)) → Only IsBrought (just f and r and s)
only2 {A} {B} f r s has =
    only_and IsBrought (just f and r) s
    (only_and (λ (g : B → Command). (b : B) → IsGiven s b → IsBrought (g b)) (just f) r
    (only_just (λ (g : A → B → Command). (a : A) → IsGiven r a → (b : B) → IsGiven s b → IsBrought (g a b)) f has))

only3 : {A B C : Type 0} (f : A → B → C → Command) (r : WordReader A) (s : WordReader B) (t : WordReader C)
    → ((a : A) → IsGiven r a → (b : B) → IsGiven s b → (c : C) → IsGiven t c → IsBrought (f a b c))
    → Only IsBrought (just f and r and s and t)
only3 {A} {B} {C} f r s t has =
    only_and IsBrought (just f and r and s) t
    (only_and (λ (g : C → Command). (c : C) → IsGiven t c → IsBrought (g c)) (just f and r) s
    (only_and (λ (g : B → C → Command). (b : B) → IsGiven s b → (c : C) → IsGiven t c → IsBrought (g b c)) (just f) r
    (only_just (λ (g : A → B → C → Command). (a : A) → IsGiven r a → (b : B) → IsGiven s b → (c : C) → IsGiven t c
    → IsBrought (g a b c)) f has)))

only4 : {A B C D : Type 0} (f : A → B → C → D → Command) (r : WordReader A) (s : WordReader B) (t : WordReader C) (u : WordReader D)
    → ((a : A) → IsGiven r a → (b : B) → IsGiven s b → (c : C) → IsGiven t c → (d : D) → IsGiven u d → IsBrought (f a b c d))
    → Only IsBrought (just f and r and s and t and u)
only4 {A} {B} {C} {D} f r s t u has =
    only_and IsBrought (just f and r and s and t) u
    (only_and (λ (g : D → Command). (d : D) → IsGiven u d → IsBrought (g d)) (just f and r and s) t
    (only_and (λ (g : C → D → Command). (c : C) → IsGiven t c → (d : D) → IsGiven u d → IsBrought (g c d)) (just f and r) s
    (only_and (λ (g : B → C → D → Command). (b : B) → IsGiven s b → (c : C) → IsGiven t c → (d : D) → IsGiven u d
    → IsBrought (g b c d)) (just f) r
    (only_just (λ (g : A → B → C → D → Command). (a : A) → IsGiven r a → (b : B) → IsGiven s b → (c : C) → IsGiven t c
    → (d : D) → IsGiven u d → IsBrought (g a b c d)) f has))))

only5 : {A B C D E : Type 0} (f : A → B → C → D → E → Command) (r : WordReader A) (s : WordReader B) (t : WordReader C)
    (u : WordReader D) (v : WordReader E)
    → ((a : A) → IsGiven r a → (b : B) → IsGiven s b → (c : C) → IsGiven t c → (d : D) → IsGiven u d → (e : E) → IsGiven v e
    → IsBrought (f a b c d e)) → Only IsBrought (just f and r and s and t and u and v)
only5 {A} {B} {C} {D} {E} f r s t u v has =
    only_and IsBrought (just f and r and s and t and u) v
    (only_and (λ (g : E → Command). (e : E) → IsGiven v e → IsBrought (g e)) (just f and r and s and t) u
    (only_and (λ (g : D → E → Command). (d : D) → IsGiven u d → (e : E) → IsGiven v e → IsBrought (g d e)) (just f and r and s) t
    (only_and (λ (g : C → D → E → Command). (c : C) → IsGiven t c → (d : D) → IsGiven u d → (e : E) → IsGiven v e
    → IsBrought (g c d e)) (just f and r) s
    (only_and (λ (g : B → C → D → E → Command). (b : B) → IsGiven s b → (c : C) → IsGiven t c → (d : D) → IsGiven u d
    → (e : E) → IsGiven v e → IsBrought (g b c d e)) (just f) r
    (only_just (λ (g : A → B → C → D → E → Command). (a : A) → IsGiven r a → (b : B) → IsGiven s b → (c : C) → IsGiven t c
    → (d : D) → IsGiven u d → (e : E) → IsGiven v e → IsBrought (g a b c d e)) f has)))))

abbrev AllOnly : List (Word × WordReader Command) → Type 0
AllOnly [] = Unit {0}
AllOnly (row ∷ rows) = Only IsBrought row.1 × AllOnly rows

only_rows : (resolvers : ℕ) → AllOnly (rows resolvers)
only_rows resolvers =
    only1 Nodes forms.node_count (λ a _. tt)
    also only5 Put forms.a_number forms.a_key forms.a_value forms.stamp forms.read (λ a _ b _ c _ s given e _. given_stamp s given)
    also only4 Del forms.a_number forms.a_key forms.stamp forms.read (λ a _ b _ s given d _. given_stamp s given)
    also only4 Over forms.a_number forms.a_key forms.a_value forms.stamp (λ a _ b _ c _ s given. given_stamp s given)
    also only2 Read forms.a_number forms.a_key (λ a _ b _. tt)
    also only2 Show forms.a_number forms.a_key (λ a _ b _. tt)
    also only3 Resolve forms.a_number forms.a_key (forms.resolver resolvers) (λ a _ b _ c _. tt)
    also only3 Deliver forms.a_number number_or_none forms.random (λ a _ b _ c _. tt)
    also only2 Junk forms.a_number forms.junk (λ a _ bytes given. given_junk bytes given)
    also only2 Tick forms.a_number forms.random (λ a _ b _. tt)
    also only3 Join forms.a_number forms.a_number forms.random (λ a _ b _ c _. tt)
    also only3 Down forms.a_number forms.a_number forms.random (λ a _ b _ c _. tt)
    also only2 Exchange forms.a_number forms.a_number (λ a _ b _. tt)
    also only2 Hello forms.a_number forms.a_number (λ a _ b _. tt)
    also only1 Leave forms.a_number (λ a _. tt)
    also only2 Restart forms.a_number forms.a_number (λ a _ b _. tt)
    also only2 Keep forms.a_number forms.key_if_any (λ a _ b _. tt)
    also only3 Watch forms.a_number forms.a_prefix forms.a_number (λ a _ b _ c _. tt)
    also only2 Changes forms.a_number forms.a_number (λ a _ b _. tt)
    also only2 Keys forms.a_number forms.a_prefix (λ a _ b _. tt)
    also only1 Root forms.a_number (λ a _. tt)
    also only1 Images forms.a_number (λ a _. tt)
    also only1 Views forms.a_number (λ a _. tt)
    also only_just IsBrought Settle tt
    also tt

only_behind : (name : Word) (table : List (Word × WordReader Command)) → AllOnly table → Only IsBrought (reads_behind name table)
only_behind name [] all words command left = λ e. cc e
only_behind name (row ∷ later) all words command left =
    cond_both (bytes_eq name row.0) row.1 (reads_behind name later)
    (λ (reads : WordReader Command). reads words ≡ Some (command, left) → IsBrought command)
    (λ same. all.0 words command left) (λ other. only_behind name later all.1 words command left)

-- ---- lines and texts

whole-some : {A : Type 0} (read : Option (A × List Word)) (x : A) → whole_of read ≡ Some x
    → (left : List Word) × (read ≡ Some (x, left))
whole-some None x e = cc e
whole-some (Some (y, [])) x e = ([], ap (λ z. Some (z, [])) (same_Some y x e))
whole-some (Some (y, word ∷ words)) x e = cc e

brought_command : (resolvers : ℕ) (words : List Word) (command : Command) → command_of resolvers words ≡ Some command
    → IsBrought command
brought_command resolvers [] command e = cc e
brought_command resolvers (name ∷ words) command e =
    let read = whole-some (reads_behind name (rows resolvers) words) command e in
    only_behind name (rows resolvers) (only_rows resolvers) words command read.0 read.1

asked-some : (read : Option Command) (command : Command) → asked_of read ≡ Asks command → read ≡ Some command
asked-some None command e = cc e
asked-some (Some asked) command e = cc e

brought_words : (resolvers : ℕ) (words : List Word) (command : Command) → line_of_words resolvers words ≡ Asks command
    → IsBrought command
brought_words resolvers [] command = λ e. cc e
brought_words resolvers (first ∷ words) command =
    let read : Option Command = command_of resolvers (first ∷ words) in
    cond_both (starts_comment first) Skipped (asked_of read) (λ (line : Line). line ≡ Asks command → IsBrought command)
    (λ comment e. cc e) (λ other e. brought_command resolvers (first ∷ words) command (asked-some read command e))

-- there are few enough nodes, and what it brings is lawful
abbrev pub IsOfText : Command → Type 0
IsOfText command = IsFew command × IsBrought command

of_text : (resolvers : ℕ) (line : List ℕ) (command : Command) → line_of resolvers line ≡ Asks command → IsOfText command
of_text resolvers line command e = (few_line resolvers line command (sym e), brought_words resolvers (words_of line) command e)

with_line : (resolvers : ℕ) (line : List ℕ) (lines : List (List ℕ)) (is : Line) → line_of resolvers line ≡ is
    → AllByRecursion IsOfText (commands_of_lines resolvers lines)
    → AllByRecursion IsOfText (commands_of_lines resolvers (line ∷ lines))
with_line resolvers line lines Skipped e all = rw e all
with_line resolvers line lines (Asks command) e all = rw e (of_text resolvers line command e, all)
with_line resolvers line lines Bad e all = rw e all

of_lines : (resolvers : ℕ) (lines : List (List ℕ)) → AllByRecursion IsOfText (commands_of_lines resolvers lines)
of_lines resolvers [] = tt
of_lines resolvers (line ∷ lines) = with_line resolvers line lines (line_of resolvers line) refl (of_lines resolvers lines)

pub all_of_text : (resolvers : ℕ) (text : List ℕ) → AllByRecursion IsOfText (commands_of resolvers text)
all_of_text resolvers text = of_lines resolvers (lines_of text)

-- a scenario has few enough nodes, and commands of a text
pub of_scenario : (commands : List Command) (scenario : Scenario) → AllByRecursion IsOfText commands
    → scenario_of commands ≡ Some scenario → (scenario.nodes ≤ most_nodes) × AllByRecursion IsOfText scenario.commands
of_scenario [] scenario all e = cc e
of_scenario (Nodes count ∷ commands) scenario all e =
    let same = same_Some (record { nodes = count; commands = commands }) scenario e in
    subst (λ (s : Scenario). (s.nodes ≤ most_nodes) × AllByRecursion IsOfText s.commands) same (all.0.0.1, all.1)
of_scenario (command ∷ commands) scenario all e = cc e

-- ---- what is in range is lawful

in_range : (b : Bool) (fault : TypeFault) → cond b None (Some fault) ≡ None → b ≡ true
in_range true fault e = refl
in_range false fault e = cc e

named : (most : ℕ) (bytes : List ℕ) → (nat_le 1 (length bytes) && nat_le (length bytes) most) ≡ true → IsName most bytes
named most bytes e =
    let ends = and_parts (nat_le 1 (length bytes)) (nat_le (length bytes) most) e in
    (leb-true 1 (length bytes) ends.0, leb-true (length bytes) most ends.1)

lawful_key : (k : Key) → is_key k ≡ true → IsKey k
lawful_key k e =
    let parts = and_parts (is_prefix k.prefix) _ e in
    let prefix = and_parts _ _ parts.0 in (
      (named most_prefix_len k.prefix.prefix prefix.0, named most_prefix_len k.prefix.sub prefix.1),
      named most_key_len k.key parts.1,
    )

lawful_write : (k : Key) (v : List ℕ) (s : ℕ) → IsNumber s → fault_of_write k v ≡ None
    → IsKey k × IsValue (record { stamp = s; body = Some v })
lawful_write k v s small =
    let short : Option TypeFault = cond (nat_le (length v) most_body_len) None (Some ValueTooLong) in
    cond_both (is_key k) short (Some BadName)
    (λ (fault : Option TypeFault). fault ≡ None → IsKey k × IsValue (record { stamp = s; body = Some v }))
    (λ key e. (
      lawful_key k key,
      (small, leb-true (length v) most_body_len (in_range (nat_le (length v) most_body_len) ValueTooLong e)),
    ))
    (λ other e. cc e)

pub lawful_if_no_fault : (k : Key) → cond (is_key k) None (Some BadName) ≡ None → IsKey k
lawful_if_no_fault k e = lawful_key k (in_range (is_key k) BadName e)

lawful_removal : (k : Key) (s : ℕ) → IsNumber s → cond (is_key k) None (Some BadName) ≡ None
    → IsKey k × IsValue (record { stamp = s; body = None })
lawful_removal k s small e = (lawful_if_no_fault k e, (small, tt))

pub event_brings : (w : World) (command : Command) → IsBrought command → fault_in command ≡ None
    → IfSome (event_of w command) IsLawfulWorldEvent
event_brings w (Put n k v s None) small e = lawful_write k v s small e
event_brings w (Put n k v s (Some read)) small e = lawful_write k v s small e
event_brings w (Del n k s None) small e = lawful_removal k s small e
event_brings w (Del n k s (Some read)) small e = lawful_removal k s small e
event_brings w (Over n k v s) small e = lawful_write k v s small e
event_brings w (Junk n bytes) fits e = fits
event_brings w (Keep n None) brought e = tt
event_brings w (Keep n (Some k)) brought e = tt
event_brings w command brought e = tt
