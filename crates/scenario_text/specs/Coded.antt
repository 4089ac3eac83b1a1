-- What the types of the code stand for: a command and a line that borrow their words from a text.
use Rattle.std.specs.Prelude.{◌≡◌, ◌≢◌, ◌+◌, ℕ, Bool, true, false, List, [], ◌∷◌, ◌++◌, All, Option, Some, None, Result, Ok, Err, codes}
use Rattle.std.specs.Borrow.{Bor}
use Rattle.std.specs.Option.{option_map, unwrap_or}
use Rattle.meta_types.specs.Name.{Prefix, Key}
use Rattle.scenario_text.specs.declared.name.KeyWord.{KeyWord}
use Rattle.scenario_text.specs.declared.name.PrefixWord.{PrefixWord}
use Rattle.scenario_text.specs.declared.bytes.BytesWord.{BytesWord}
use Rattle.scenario_text.specs.declared.command.Command as coded
use Rattle.scenario_text.specs.declared.command.Command.TheVariants as code
use Rattle.scenario_text.specs.declared.fault.BadLine.{BadLine}
use Rattle.scenario_text.specs.declared.verb.Verb.{Verb}
use Rattle.scenario_text.specs.declared.verb.Verb.TheVariants as verbs
use Rattle.scenario_text.specs.declared.line.Line as coded_line
use Rattle.scenario_text.specs.declared.line.Line.TheVariants as lines
use Rattle.scenario_text.specs.Word.{Word, bytes_of_digits, words_of}
use Rattle.scenario_text.specs.Reading.{WordReader}
use Rattle.scenario_text.specs.Commands as spoken
use Rattle.scenario_text.specs.Commands.{Command}
use Rattle.scenario_text.specs.Script.{Line, Skipped, Asks, Bad, Scenario, commands_of, first_bad, first_bad_from, scenario_of}

abbrev pub prefix_word : PrefixWord → Prefix
prefix_word p = record { prefix = p.prefix.now; sub = p.sub.now }

abbrev pub key_word : KeyWord → Key
key_word k = record { prefix = prefix_word k.prefix; key = k.key.now }

abbrev of_digits : Bool → List ℕ → List ℕ
of_digits true text = unwrap_or (bytes_of_digits text) []
of_digits false text = text

-- the bytes as they stand, or those that digits stand for
abbrev pub bytes_word : BytesWord → List ℕ
bytes_word b = of_digits b.digits b.text.now

abbrev pub command_word : coded.Command → Command
command_word (code.Nodes count) = spoken.Nodes count
command_word (code.Put n k v s r) = spoken.Put n (key_word k) (bytes_word v) s r
command_word (code.Del n k s r) = spoken.Del n (key_word k) s r
command_word (code.Over n k v s) = spoken.Over n (key_word k) (bytes_word v) s
command_word (code.Read n k) = spoken.Read n (key_word k)
command_word (code.Show n k) = spoken.Show n (key_word k)
command_word (code.Resolve n k by) = spoken.Resolve n (key_word k) by
command_word (code.Deliver f to word) = spoken.Deliver f to word
command_word (code.Junk n bytes) = spoken.Junk n (bytes_word bytes)
command_word (code.Tick n word) = spoken.Tick n word
command_word (code.Join n contact word) = spoken.Join n contact word
command_word (code.Down n peer word) = spoken.Down n peer word
command_word (code.Exchange n peer) = spoken.Exchange n peer
command_word (code.Hello n peer) = spoken.Hello n peer
command_word (code.Leave n) = spoken.Leave n
command_word (code.Restart n image) = spoken.Restart n image
command_word (code.Keep n k) = spoken.Keep n (option_map key_word k)
command_word (code.Watch n p capacity) = spoken.Watch n (prefix_word p) capacity
command_word (code.Changes n number) = spoken.Changes n number
command_word (code.Keys n p) = spoken.Keys n (prefix_word p)
command_word (code.Root n) = spoken.Root n
command_word (code.Images n) = spoken.Images n
command_word (code.Views n) = spoken.Views n
command_word code.Settle = spoken.Settle

-- the word of a verb
abbrev pub verb_word : Verb → Word
verb_word verbs.Nodes = codes "nodes"
verb_word verbs.Put = codes "put"
verb_word verbs.Del = codes "del"
verb_word verbs.Over = codes "over"
verb_word verbs.Read = codes "read"
verb_word verbs.Show = codes "show"
verb_word verbs.Resolve = codes "resolve"
verb_word verbs.Deliver = codes "deliver"
verb_word verbs.Junk = codes "junk"
verb_word verbs.Tick = codes "tick"
verb_word verbs.Join = codes "join"
verb_word verbs.Down = codes "down"
verb_word verbs.Exchange = codes "exchange"
verb_word verbs.Hello = codes "hello"
verb_word verbs.Leave = codes "leave"
verb_word verbs.Restart = codes "restart"
verb_word verbs.Keep = codes "keep"
verb_word verbs.Watch = codes "watch"
verb_word verbs.Changes = codes "changes"
verb_word verbs.List = codes "list"
verb_word verbs.Root = codes "root"
verb_word verbs.Images = codes "images"
verb_word verbs.Views = codes "views"
verb_word verbs.Settle = codes "settle"

-- the verb of a word, or there is none
abbrev pub IsVerbOf : Word → Option Verb → Type 0
IsVerbOf word None = (verb : Verb) → word ≢ verb_word verb
IsVerbOf word (Some verb) = word ≡ verb_word verb

abbrev pub line_word : coded_line.Line → Line
line_word lines.Skipped = Skipped
line_word (lines.Asks command) = Asks (command_word command)
line_word lines.Bad = Bad

-- bytes were split at their first separator, or have none
abbrev pub SplitsAt : ℕ → List ℕ → Option (Bor (List ℕ) × Bor (List ℕ)) → Type 0
SplitsAt separator bytes None = All (λ b. b ≢ separator) bytes
SplitsAt separator bytes (Some halves) =
    All (λ b. b ≢ separator) halves.0.now × (bytes ≡ halves.0.now ++ separator ∷ halves.1.now)

abbrev pub BeginsNoSpace : List ℕ → Type 0
BeginsNoSpace [] = Unit {0}
BeginsNoSpace (b ∷ bytes) = b ≢ 32

-- the first word of a line and what stands after it, or there is none
abbrev pub SplitsWord : List ℕ → Option (Bor (List ℕ) × Bor (List ℕ)) → Type 0
SplitsWord line None = words_of line ≡ []
SplitsWord line (Some halves) = words_of line ≡ halves.0.now ∷ words_of halves.1.now

-- the next word was read, or there is none
abbrev pub Takes : List Word → Option (Bor (List ℕ)) → List Word → Type 0
Takes old None new = (old ≡ []) × (new ≡ [])
Takes old (Some word) new = old ≡ word.now ∷ new

-- the reading gave what stands at the front of the words, and left the others; if it gives nothing,
-- nothing is said of what is left
abbrev pub ReadsWords : {A : Type 0} → WordReader A → List Word → Option A → List Word → Type 0
ReadsWords reads old None new = reads old ≡ None
ReadsWords reads old (Some x) new = reads old ≡ Some (x, new)

-- the next line was read, or there is none
abbrev pub TakesNextLine : List (List ℕ) → Option (Bor (List ℕ)) → List (List ℕ) → Type 0
TakesNextLine old None new = (old ≡ []) × (new ≡ [])
TakesNextLine old (Some line) new = old ≡ line.now ∷ new

-- the next command was read, or there is none
abbrev pub TakesCommand : List Command → Option coded.Command → List Command → Type 0
TakesCommand old None new = (old ≡ []) × (new ≡ [])
TakesCommand old (Some command) new = old ≡ command_word command ∷ new

-- a text was read: its scenario, if it has a command, or its first bad line
abbrev pub Parses : ℕ → List ℕ → Result (Option Scenario) BadLine → Type 0
Parses resolvers text (Ok scenario) =
    (first_bad resolvers text ≡ None) × (scenario ≡ scenario_of (commands_of resolvers text))
Parses resolvers text (Err fault) =
    (number : ℕ) × (first_bad resolvers text ≡ Some number) × (fault ≡ record { line = number })

-- the lines after `nodes`, before which `before` lines stand, break no rule; or this is the first
-- that breaks one
abbrev pub ParsesRest : {A : Type 0} → ℕ → ℕ → List (List ℕ) → Result A BadLine → Type 0
ParsesRest resolvers before lines (Ok done) =
    first_bad_from resolvers true (before + 1) lines ≡ None
ParsesRest resolvers before lines (Err fault) = (number : ℕ)
    × (first_bad_from resolvers true (before + 1) lines ≡ Some number)
    × (fault ≡ record { line = number })
