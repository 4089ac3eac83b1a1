-- How a command is written: in the words of the table of `Commands`, with one space between two of
-- them. What is written so reads back (`laws::a_spelling_reads_back`).
use Rattle.std.specs.Prelude.{◌≡◌, ◌≤◌, ◌<◌, ◌^◌, ◌==◌, ℕ, zero, suc, false, if◌then◌else◌, List, [], ◌∷◌, ◌++◌, length, All, IsTrue, Option, Some, None, IfSome, codes, decimal}
use Rattle.std.specs.List.{flat_map}
use Rattle.hex.specs.Hex.{IsBytes, encode_lower}
use Rattle.meta_types.specs.Name.{Prefix, Key}
use Rattle.meta_types.specs.Node.{most_nodes}
use Rattle.printing.specs.Field.{are_plain, bytes_text, key_text, prefix_text}
use Rattle.streams.specs.Line.{IsOneLine}
use Rattle.scenario_text.specs.Word.{Word}
use Rattle.scenario_text.specs.Commands.{Command, Nodes, Put, Del, Over, Read, Show, Resolve, Deliver, Junk, Tick, Join, Down, Exchange, Hello, Leave, Restart, Keep, Watch, Changes, Keys, Root, Images, Views, Settle}
use Rattle.scenario_text.specs.Script.{Scenario, is_nodes}

-- ---- words

-- a number after its label, as `stamp 5`; nothing for 0
abbrev pub unless_0 : Word → ℕ → List Word
unless_0 label n = if n == 0 then [] else label ∷ decimal n ∷ []

abbrev pub stamp_words : ℕ → List Word
stamp_words s = unless_0 (codes "stamp") s

abbrev pub random_words : ℕ → List Word
random_words word = unless_0 (codes "word") word

abbrev pub read_words : Option ℕ → List Word
read_words None = []
read_words (Some r) = codes "read" ∷ decimal r ∷ []

abbrev pub number_words : Option ℕ → List Word
number_words None = []
number_words (Some n) = decimal n ∷ []

abbrev pub key_words : Option Key → List Word
key_words None = []
key_words (Some k) = key_text k ∷ []

-- the resolver at this place
abbrev pub resolver_word : ℕ → Word
resolver_word zero = codes "lww"
resolver_word (suc by) = codes "largest"

-- a row for each command. A value of no bytes is `hex:`
abbrev pub spelled_words : Command → List Word
spelled_words (Nodes count) = codes "nodes" ∷ decimal count ∷ []
spelled_words (Put n k v s r) =
    codes "put" ∷ decimal n ∷ key_text k ∷ bytes_text v ∷ (stamp_words s ++ read_words r)
spelled_words (Del n k s r) =
    codes "del" ∷ decimal n ∷ key_text k ∷ (stamp_words s ++ read_words r)
spelled_words (Over n k v s) =
    codes "over" ∷ decimal n ∷ key_text k ∷ bytes_text v ∷ stamp_words s
spelled_words (Read n k) = codes "read" ∷ decimal n ∷ key_text k ∷ []
spelled_words (Show n k) = codes "show" ∷ decimal n ∷ key_text k ∷ []
spelled_words (Resolve n k by) =
    codes "resolve" ∷ decimal n ∷ key_text k ∷ resolver_word by ∷ []
spelled_words (Deliver f to word) =
    codes "deliver" ∷ decimal f ∷ (number_words to ++ random_words word)
spelled_words (Junk n bytes) = codes "junk" ∷ decimal n ∷ encode_lower bytes ∷ []
spelled_words (Tick n word) = codes "tick" ∷ decimal n ∷ random_words word
spelled_words (Join n contact word) =
    codes "join" ∷ decimal n ∷ decimal contact ∷ random_words word
spelled_words (Down n peer word) = codes "down" ∷ decimal n ∷ decimal peer ∷ random_words word
spelled_words (Exchange n peer) = codes "exchange" ∷ decimal n ∷ decimal peer ∷ []
spelled_words (Hello n peer) = codes "hello" ∷ decimal n ∷ decimal peer ∷ []
spelled_words (Leave n) = codes "leave" ∷ decimal n ∷ []
spelled_words (Restart n image) = codes "restart" ∷ decimal n ∷ decimal image ∷ []
spelled_words (Keep n key) = codes "keep" ∷ decimal n ∷ key_words key
spelled_words (Watch n p capacity) =
    codes "watch" ∷ decimal n ∷ prefix_text p ∷ decimal capacity ∷ []
spelled_words (Changes n number) = codes "changes" ∷ decimal n ∷ decimal number ∷ []
spelled_words (Keys n p) = codes "list" ∷ decimal n ∷ prefix_text p ∷ []
spelled_words (Root n) = codes "root" ∷ decimal n ∷ []
spelled_words (Images n) = codes "images" ∷ decimal n ∷ []
spelled_words (Views n) = codes "views" ∷ decimal n ∷ []
spelled_words Settle = codes "settle" ∷ []

-- words with a space before each
abbrev pub after_spaces : List Word → List ℕ
after_spaces words = flat_map (λ word. 32 ∷ word) words

-- words with a space between two of them
abbrev pub spaced_words : List Word → List ℕ
spaced_words [] = []
spaced_words (word ∷ words) = word ++ after_spaces words

-- the line of a command, without its line feed
abbrev pub spelled : Command → List ℕ
spelled command = spaced_words (spelled_words command)

-- ---- which commands have a spelling

abbrev IsNumber : ℕ → Type 0
IsNumber n = n < 2 ^ 64

abbrev pub IsPlainPrefix : Prefix → Type 0
IsPlainPrefix p = IsTrue (are_plain p.prefix) × IsTrue (are_plain p.sub)

abbrev pub IsPlainKey : Key → Type 0
IsPlainKey k = IsPlainPrefix k.prefix × IsTrue (are_plain k.key)

-- the numbers fit, parts of names are letters, digits, `.`, `_` and `-`, and junk has a byte or
-- more; any bytes are a value. There is a word for two resolvers, and it is read if so many are at
-- hand
abbrev pub HasSpelling : (resolvers : ℕ) → Command → Type 0
HasSpelling resolvers (Nodes count) = (1 ≤ count) × (count ≤ most_nodes)
HasSpelling resolvers (Put n k v s r) =
    IsNumber n × IsPlainKey k × IsBytes v × IsNumber s × IfSome r IsNumber
HasSpelling resolvers (Del n k s r) = IsNumber n × IsPlainKey k × IsNumber s × IfSome r IsNumber
HasSpelling resolvers (Over n k v s) = IsNumber n × IsPlainKey k × IsBytes v × IsNumber s
HasSpelling resolvers (Read n k) = IsNumber n × IsPlainKey k
HasSpelling resolvers (Show n k) = IsNumber n × IsPlainKey k
HasSpelling resolvers (Resolve n k by) =
    IsNumber n × IsPlainKey k × (by < 2) × (by < resolvers)
HasSpelling resolvers (Deliver f to word) = IsNumber f × IfSome to IsNumber × IsNumber word
HasSpelling resolvers (Junk n bytes) = IsNumber n × (1 ≤ length bytes) × IsBytes bytes
HasSpelling resolvers (Tick n word) = IsNumber n × IsNumber word
HasSpelling resolvers (Join n contact word) = IsNumber n × IsNumber contact × IsNumber word
HasSpelling resolvers (Down n peer word) = IsNumber n × IsNumber peer × IsNumber word
HasSpelling resolvers (Exchange n peer) = IsNumber n × IsNumber peer
HasSpelling resolvers (Hello n peer) = IsNumber n × IsNumber peer
HasSpelling resolvers (Leave n) = IsNumber n
HasSpelling resolvers (Restart n image) = IsNumber n × IsNumber image
HasSpelling resolvers (Keep n key) = IsNumber n × IfSome key IsPlainKey
HasSpelling resolvers (Watch n p capacity) = IsNumber n × IsPlainPrefix p × IsNumber capacity
HasSpelling resolvers (Changes n number) = IsNumber n × IsNumber number
HasSpelling resolvers (Keys n p) = IsNumber n × IsPlainPrefix p
HasSpelling resolvers (Root n) = IsNumber n
HasSpelling resolvers (Images n) = IsNumber n
HasSpelling resolvers (Views n) = IsNumber n
HasSpelling resolvers Settle = Unit {0}

-- ---- texts

-- a line for each command
abbrev pub spelled_lines : List Command → List ℕ
spelled_lines commands = flat_map (λ command. spelled command ++ 10 ∷ []) commands

-- a comment, `nodes`, and the other commands
abbrev pub spelled_scenario : (about : List ℕ) → Scenario → List ℕ
spelled_scenario about s =
    codes "# " ++ (about ++ (10 ∷ spelled_lines (Nodes s.nodes ∷ s.commands)))

-- what is said about it is one line, and its commands have spellings; `nodes` stands first alone
pub record HasText (resolvers : ℕ) (about : List ℕ) (s : Scenario) : Type 0 where
  pub one_line : IsOneLine about
  pub nodes : HasSpelling resolvers (Nodes s.nodes)
  pub commands : All (HasSpelling resolvers) s.commands
  pub once : All (λ command. is_nodes command ≡ false) s.commands
