-- What is printed about the first line of a text that breaks a rule, besides its number: the line
-- as it stands, and what it wants. This is printed at standard error; the output of a run has the
-- number alone. The texts are this project's own.
use Rattle.std.specs.List.{list_any}
use Rattle.std.specs.Option.{option_copied}
use Rattle.std.specs.Prelude.{◌≡◌, ◌≢◌, ◌-◌, ℕ, zero, suc, ◌==◌, nat_le, Bool, true, false, not, ◌||◌, ◌&&◌, if◌then◌else◌, MatchBool, List, [], ◌∷◌, ◌++◌, length, take, map, slice_get, Option, Some, None, bytes_eq, codes, decimal}
use Rattle.streams.specs.Line.{lines_of}
use Rattle.scenario_text.specs.declared.verb.Verb.{Verb}
use Rattle.scenario_text.specs.declared.verb.Verb.TheVariants as verbs
use Rattle.scenario_text.specs.Coded.{verb_word}
use Rattle.scenario_text.specs.Script.{starts_comment}
use Rattle.scenario_text.specs.Word.{Word, words_of}
use Rattle.scenario_text.specs.Commands.{a_key, a_number, a_prefix, a_value, junk, key_if_any, node_count, random, read, resolver, stamp}
use Rattle.scenario_text.specs.Reading.{number_or_none}
use Rattle.scenario_text.specs.declared.hint.Hint.{Hint}
use Rattle.scenario_text.specs.declared.hint.Hint.TheVariants.{ByteOrderMark, CarriageReturn, Tab, NodesFirst, Form, Unknown}
use Rattle.scenario_text.specs.declared.wrong.Slot.{Slot}
use Rattle.scenario_text.specs.declared.wrong.Slot.TheVariants as slots
use Rattle.scenario_text.specs.declared.wrong.Wrong.{Wrong}
use Rattle.scenario_text.specs.declared.wrong.Wrong.TheVariants.{Nothing, At, TooMany}

-- ---- the line

abbrev is_skipped_of : List Word → Bool
is_skipped_of [] = true
is_skipped_of (first ∷ words) = starts_comment first

-- an empty line, or a comment
abbrev pub is_skipped : List ℕ → Bool
is_skipped line = is_skipped_of (words_of line)

-- a line of a text, and whether a command stands before it
pub record Found : Type 0 where
  pub begun : Bool
  pub line : List ℕ

-- the line after `count` lines; `begun` says whether a command stood before them
abbrev pub found_behind : ℕ → Bool → List (List ℕ) → Found
found_behind count begun [] = record { begun = begun; line = [] }
found_behind zero begun (line ∷ lines) = record { begun = begun; line = line }
found_behind (suc count) begun (line ∷ lines) =
    found_behind count (begun || not (is_skipped line)) lines

-- lines are counted from 1
abbrev pub found_at : ℕ → List ℕ → Found
found_at number text = found_behind (number - 1) false (lines_of text)

-- space to `~` and a tab as they are, all else as `?`
abbrev pub shown_byte : ℕ → ℕ
shown_byte b = if (nat_le 32 b && nat_le b 126) || (b == 9) then b else 63

abbrev pub most_shown : ℕ
most_shown = 80

-- the line as it stands; of a long one its front, and two dots
unfoldable pub shown_line : List ℕ → List ℕ
shown_line line =
    if nat_le (length line) most_shown
    then map shown_byte line
    else map shown_byte (take most_shown line) ++ codes ".."

-- ---- what it wants

-- the form of a command: its verb, and the words after it
abbrev pub form_of : Verb → List ℕ
form_of verbs.Nodes = codes "nodes COUNT, once, as the first command"
form_of verbs.Put = codes "put N KEY VALUE [stamp S] [read R]"
form_of verbs.Del = codes "del N KEY [stamp S] [read R]"
form_of verbs.Over = codes "over N KEY VALUE [stamp S]"
form_of verbs.Read = codes "read N KEY"
form_of verbs.Show = codes "show N KEY"
form_of verbs.Resolve = codes "resolve N KEY lww|largest"
form_of verbs.Deliver = codes "deliver F [N] [word W]"
form_of verbs.Junk = codes "junk N HEX"
form_of verbs.Tick = codes "tick N [word W]"
form_of verbs.Join = codes "join N C [word W]"
form_of verbs.Down = codes "down N P [word W]"
form_of verbs.Exchange = codes "exchange N P"
form_of verbs.Hello = codes "hello N P"
form_of verbs.Leave = codes "leave N"
form_of verbs.Restart = codes "restart N I"
form_of verbs.Keep = codes "keep N [KEY]"
form_of verbs.Watch = codes "watch N PREFIX CAP"
form_of verbs.Changes = codes "changes N W"
form_of verbs.List = codes "list N PREFIX"
form_of verbs.Root = codes "root N"
form_of verbs.Images = codes "images N"
form_of verbs.Views = codes "views N"
form_of verbs.Settle = codes "settle"

-- ---- which word is wrong

-- what stands behind each verb, as the table of commands has it
abbrev pub slots_of : Verb → List Slot
slots_of verbs.Nodes = slots.Count ∷ []
slots_of verbs.Put =
    slots.Number ∷ slots.Key ∷ slots.Value ∷ slots.Stamp ∷ slots.ReadNumber ∷ []
slots_of verbs.Del = slots.Number ∷ slots.Key ∷ slots.Stamp ∷ slots.ReadNumber ∷ []
slots_of verbs.Over = slots.Number ∷ slots.Key ∷ slots.Value ∷ slots.Stamp ∷ []
slots_of verbs.Read = slots.Number ∷ slots.Key ∷ []
slots_of verbs.Show = slots.Number ∷ slots.Key ∷ []
slots_of verbs.Resolve = slots.Number ∷ slots.Key ∷ slots.Resolver ∷ []
slots_of verbs.Deliver = slots.Number ∷ slots.MaybeNumber ∷ slots.Random ∷ []
slots_of verbs.Junk = slots.Number ∷ slots.Junk ∷ []
slots_of verbs.Tick = slots.Number ∷ slots.Random ∷ []
slots_of verbs.Join = slots.Number ∷ slots.Number ∷ slots.Random ∷ []
slots_of verbs.Down = slots.Number ∷ slots.Number ∷ slots.Random ∷ []
slots_of verbs.Exchange = slots.Number ∷ slots.Number ∷ []
slots_of verbs.Hello = slots.Number ∷ slots.Number ∷ []
slots_of verbs.Leave = slots.Number ∷ []
slots_of verbs.Restart = slots.Number ∷ slots.Number ∷ []
slots_of verbs.Keep = slots.Number ∷ slots.MaybeKey ∷ []
slots_of verbs.Watch = slots.Number ∷ slots.Prefix ∷ slots.Number ∷ []
slots_of verbs.Changes = slots.Number ∷ slots.Number ∷ []
slots_of verbs.List = slots.Number ∷ slots.Prefix ∷ []
slots_of verbs.Root = slots.Number ∷ []
slots_of verbs.Images = slots.Number ∷ []
slots_of verbs.Views = slots.Number ∷ []
slots_of verbs.Settle = []

abbrev left_of : {A : Type 0} → Option (A × List Word) → Option (List Word)
left_of None = None
left_of (Some read) = Some read.1

-- the words that are left once a slot is read from the front, if it can be read; the names of both
-- resolvers are read
abbrev pub behind_slot : Slot → List Word → Option (List Word)
behind_slot slots.Count words = left_of (node_count words)
behind_slot slots.Number words = left_of (a_number words)
behind_slot slots.MaybeNumber words = left_of (number_or_none words)
behind_slot slots.Key words = left_of (a_key words)
behind_slot slots.MaybeKey words = left_of (key_if_any words)
behind_slot slots.Prefix words = left_of (a_prefix words)
behind_slot slots.Value words = left_of (a_value words)
behind_slot slots.Junk words = left_of (junk words)
behind_slot slots.Resolver words = left_of (resolver 2 words)
behind_slot slots.Stamp words = left_of (stamp words)
behind_slot slots.ReadNumber words = left_of (read words)
behind_slot slots.Random words = left_of (random words)

-- what is wrong with words: nothing; what stands at the first slot that can't be read, or that
-- nothing stands there; or the first word behind the last slot
pub data WrongWords : Type 0 where
  NoneWrong : WrongWords
  WrongAt : Slot → Option Word → WrongWords
  OneMore : Word → WrongWords

abbrev pub left_over : List Word → WrongWords
left_over [] = NoneWrong
left_over (word ∷ words) = OneMore word

unfoldable pub wrong_in : List Slot → List Word → WrongWords
wrong_in [] words = left_over words
wrong_in (slot ∷ slots) words = elim (behind_slot slot words) [
  | None ↦ WrongAt slot (slice_get words 0)
  | Some left ↦ wrong_in slots left
]

abbrev pub wrong_words : Wrong → WrongWords
wrong_words Nothing = NoneWrong
wrong_words (At slot word) = WrongAt slot (option_copied word)
wrong_words (TooMany word) = OneMore word.now

-- ---- near words

abbrev pub swapped : Word → Word → Bool
swapped (a ∷ b ∷ word) (c ∷ d ∷ other) = (a == d) && ((b == c) && bytes_eq word other)
swapped word other = false

-- the words are equal or nearly so: one byte is different, missing or too many, or two neighbours
-- are swapped
unfoldable pub is_near : Word → Word → Bool
is_near [] other = nat_le (length other) 1
is_near (a ∷ word) [] = nat_le (length (a ∷ word)) 1
is_near (a ∷ word) (b ∷ other) =
    if a == b
    then is_near word other
    else (bytes_eq word other || (bytes_eq word (b ∷ other) || (bytes_eq (a ∷ word) other
    || swapped (a ∷ word) (b ∷ other))))

-- the first of these verbs that is near
unfoldable pub near_of : Word → List Verb → Option Verb
near_of word [] = None
near_of word (verb ∷ others) =
    if is_near word (verb_word verb) then Some verb else near_of word others

abbrev pub all_verbs : List Verb
all_verbs = verbs.Nodes ∷ verbs.Put ∷ verbs.Del ∷ verbs.Over ∷ verbs.Read ∷ verbs.Show
    ∷ verbs.Resolve ∷ verbs.Deliver ∷ verbs.Junk ∷ verbs.Tick ∷ verbs.Join ∷ verbs.Down
    ∷ verbs.Exchange ∷ verbs.Hello ∷ verbs.Leave ∷ verbs.Restart ∷ verbs.Keep ∷ verbs.Watch
    ∷ verbs.Changes ∷ verbs.List ∷ verbs.Root ∷ verbs.Images ∷ verbs.Views ∷ verbs.Settle ∷ []

-- by its first word: a verb whose form the line doesn't have, or the line names a resolver that
-- isn't at hand; or no verb, and then the verb that is near
abbrev IsHintOfWord : Word → List Word → Hint → Type 0
IsHintOfWord word words (Form verb wrong) =
    (word ≡ verb_word verb) × (wrong_words wrong ≡ wrong_in (slots_of verb) words)
IsHintOfWord word words (Unknown near) =
    ((verb : Verb) → word ≢ verb_word verb) × (near ≡ near_of word all_verbs)
IsHintOfWord word words hint = ⊥

abbrev pub IsHintOfWords : List Word → Hint → Type 0
IsHintOfWords [] hint = hint ≡ Unknown None
IsHintOfWords (first ∷ words) hint = IsHintOfWord first words hint

-- some editors put these bytes in front of a text
abbrev pub starts_marked : List ℕ → Bool
starts_marked (a ∷ b ∷ c ∷ bytes) = (a == 239) && ((b == 187) && (c == 191))
starts_marked bytes = false

abbrev is_return : Option ℕ → Bool
is_return None = false
is_return (Some b) = b == 13

-- the last byte of the line is a carriage return
abbrev pub ends_returned : List ℕ → Bool
ends_returned line = is_return (slice_get line (length line - 1))

abbrev pub has_tab : List ℕ → Bool
has_tab line = list_any (λ b. b == 9) line

-- what is wrong with a line that breaks a rule: the first of these that is true of it
abbrev pub IsHint : Found → Hint → Type 0
IsHint found hint =
    MatchBool (starts_marked found.line) (hint ≡ ByteOrderMark)
    (MatchBool (ends_returned found.line) (hint ≡ CarriageReturn)
    (MatchBool (has_tab found.line) (hint ≡ Tab)
    (MatchBool found.begun (IsHintOfWords (words_of found.line) hint) (hint ≡ NodesFirst))))

-- ---- the text

abbrev near_text : Option Verb → List ℕ
near_text None = codes "no such command"
near_text (Some verb) = codes "no such command"
    ++ (codes "; did you mean " ++ (verb_word verb ++ codes "?"))

-- what a slot may have
abbrev pub slot_text : Slot → List ℕ
slot_text slots.Count = codes "COUNT is 1 to 16"
slot_text slots.Number = codes "a number has 1 to 20 digits, and is below 2^64"
slot_text slots.MaybeNumber = codes "a number has 1 to 20 digits, and is below 2^64"
slot_text slots.Key = codes "KEY is as a/b/k, of letters, digits, . _ and -"
slot_text slots.MaybeKey = codes "KEY is as a/b/k, of letters, digits, . _ and -"
slot_text slots.Prefix = codes "PREFIX is as a/b, of letters, digits, . _ and -"
slot_text slots.Value = codes "VALUE is as red-1, of letters, digits, . _ and -, or as hex:ff"
slot_text slots.Junk = codes "HEX is two hexadecimal digits for each byte, and one byte at least"
slot_text slots.Resolver = codes "a resolver is lww or largest"
slot_text slots.Stamp = codes "a number follows it"
slot_text slots.ReadNumber = codes "a number follows it"
slot_text slots.Random = codes "a number follows it"

abbrev pub wrong_text : WrongWords → List ℕ
wrong_text NoneWrong = []
wrong_text (WrongAt slot None) = codes "; a word is missing: " ++ slot_text slot
wrong_text (WrongAt slot (Some word)) =
    codes "; " ++ (shown_line word ++ (codes " is wrong: " ++ slot_text slot))
wrong_text (OneMore word) = codes "; " ++ (shown_line word ++ codes " is too many")

abbrev pub hint_text : Hint → List ℕ
hint_text ByteOrderMark = codes "the line begins with a byte order mark: save the text without one"
hint_text CarriageReturn =
    codes "the line ends with a carriage return: end lines with a line feed alone"
hint_text Tab = codes "the line has a tab: words are separated by spaces alone"
hint_text NodesFirst = codes "the first command is nodes COUNT; COUNT is 1 to 16"
hint_text (Form verb wrong) = codes "wanted: " ++ (form_of verb ++ wrong_text (wrong_words wrong))
hint_text (Unknown near) = near_text near

-- two lines: the one at fault, and what it wants
unfoldable pub hint_lines : ℕ → List ℕ → Hint → List ℕ
hint_lines number line hint = codes "line " ++ decimal number ++ codes ": " ++ shown_line line
    ++ 10 ∷ (hint_text hint ++ 10 ∷ [])

-- what is printed about the line of this number, which breaks a rule
abbrev pub IsTold : List ℕ → ℕ → List ℕ → Type 0
IsTold text number told = (hint : Hint) × IsHint (found_at number text) hint
    × (told ≡ hint_lines number (found_at number text).line hint)
