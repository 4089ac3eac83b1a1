-- Each row of the spelling is read by its row of the table.
use Rattle.std.proofs.Common.{◌≡◌, ℕ, zero, suc, ◌+◌, ◌<◌, ◌^◌, ◌==◌, false, List, [], ◌∷◌, ◌++◌, Option, Some, None, IfSome, refl, ap, ◌∙◌, arith}
use Rattle.std.specs.Prelude.{codes, decimal}
use Rattle.std.proofs.lemmas.Bool.{le-leb, lt-ltb, ne_eqb}
use Rattle.meta_types.specs.Name.{Key}
use Rattle.streams.specs.Line.{IsOneLine}
use Rattle.scenario_text.specs.Word.{Word}
use Rattle.scenario_text.specs.Reading.{number_or_none}
use Rattle.scenario_text.specs.Commands as forms
use Rattle.scenario_text.specs.Commands.{Command, Nodes, Put, Del, Over, Read, Show, Resolve, Deliver, Junk, Tick, Join, Down, Exchange, Hello, Leave, Restart, Keep, Watch, Changes, Keys, Root, Images, Views, Settle}
use Rattle.scenario_text.specs.Script.{Asks, line_of, line_of_words}
use Rattle.scenario_text.specs.Spelling.{HasSpelling, IsPlainKey, key_words, number_words, random_words, read_words, resolver_word, spelled, spelled_words, stamp_words, unless_0}
use Rattle.scenario_text.proofs.Rows.{◌also◌}
use Rattle.scenario_text.proofs.Spaced.{AreWritten, IsWritten, are_written-append, one_line-spaced, words_of-spaced, written_out}
use Rattle.scenario_text.proofs.SpelledParts.{full_prefix_of-text, junk_of-digits, key_of-text, number_of-decimal, value_of-text, written_decimal, written_digits, written_key, written_prefix, written_text}

-- ---- labels

abbrev IsNumber : ℕ → Type 0
IsNumber n = n < 2 ^ 64

not_0 : (n : ℕ) → (suc n == 0) ≡ false
not_0 n = ne_eqb (suc n) 0 (λ zero. omega arith)

stamp_reads : (s : ℕ) (r : Option ℕ) → IsNumber s → forms.stamp (stamp_words s ++ read_words r) ≡ Some (s, read_words r)
stamp_reads zero None small = refl
stamp_reads zero (Some r) small = refl
stamp_reads (suc s) r small = rw (not_0 s, number_of-decimal (suc s) small) refl

stamp_ends : (s : ℕ) → IsNumber s → forms.stamp (stamp_words s) ≡ Some (s, [])
stamp_ends zero small = refl
stamp_ends (suc s) small = rw (not_0 s, number_of-decimal (suc s) small) refl

random_ends : (word : ℕ) → IsNumber word → forms.random (random_words word) ≡ Some (word, [])
random_ends zero small = refl
random_ends (suc word) small = rw (not_0 word, number_of-decimal (suc word) small) refl

read_ends : (r : Option ℕ) → IfSome r IsNumber → forms.read (read_words r) ≡ Some (r, [])
read_ends None small = refl
read_ends (Some r) small = rw (number_of-decimal r small) refl

number_first : (n : ℕ) (words : List Word) → IsNumber n → number_or_none (decimal n ∷ words) ≡ Some (Some n, words)
number_first n words small = ap (λ (found : Option ℕ). elim found [
  | None ↦ Some (None, decimal n ∷ words)
  | Some m ↦ Some (Some m, words)
]) (number_of-decimal n small)

-- ---- rows

row_reads : (resolvers : ℕ) (command : Command) → HasSpelling resolvers command → line_of_words resolvers (spelled_words command) ≡ Asks command
row_reads resolvers (Nodes count) h =
    rw (number_of-decimal count (omega arith), le-leb 1 count h.0, le-leb count 16 h.1) refl
row_reads resolvers (Put n k v s r) h =
    rw (number_of-decimal n h.0, key_of-text k h.1, value_of-text v h.2, stamp_reads s r h.3, read_ends r h.4) refl
row_reads resolvers (Del n k s r) h =
    rw (number_of-decimal n h.0, key_of-text k h.1, stamp_reads s r h.2, read_ends r h.3) refl
row_reads resolvers (Over n k v s) h =
    rw (number_of-decimal n h.0, key_of-text k h.1, value_of-text v h.2, stamp_ends s h.3) refl
row_reads resolvers (Read n k) h = rw (number_of-decimal n h.0, key_of-text k h.1) refl
row_reads resolvers (Show n k) h = rw (number_of-decimal n h.0, key_of-text k h.1) refl
row_reads resolvers (Resolve n k zero) h = rw (number_of-decimal n h.0, key_of-text k h.1, lt-ltb 0 resolvers h.3) refl
row_reads resolvers (Resolve n k (suc zero)) h =
    rw (number_of-decimal n h.0, key_of-text k h.1, lt-ltb 1 resolvers h.3) refl
row_reads resolvers (Resolve n k (suc (suc by))) h = absurd (omega (arith, h.2))
row_reads resolvers (Deliver f None zero) h = rw (number_of-decimal f h.0) refl
row_reads resolvers (Deliver f None (suc word)) h =
    rw (number_of-decimal f h.0, not_0 word, number_of-decimal (suc word) h.2) refl
row_reads resolvers (Deliver f (Some n) word) h =
    rw (number_of-decimal f h.0, number_first n (random_words word) h.1, random_ends word h.2) refl
row_reads resolvers (Junk n bytes) h = rw (number_of-decimal n h.0, junk_of-digits bytes h.1 h.2) refl
row_reads resolvers (Tick n word) h = rw (number_of-decimal n h.0, random_ends word h.1) refl
row_reads resolvers (Join n contact word) h =
    rw (number_of-decimal n h.0, number_of-decimal contact h.1, random_ends word h.2) refl
row_reads resolvers (Down n peer word) h =
    rw (number_of-decimal n h.0, number_of-decimal peer h.1, random_ends word h.2) refl
row_reads resolvers (Exchange n peer) h = rw (number_of-decimal n h.0, number_of-decimal peer h.1) refl
row_reads resolvers (Hello n peer) h = rw (number_of-decimal n h.0, number_of-decimal peer h.1) refl
row_reads resolvers (Leave n) h = rw (number_of-decimal n h) refl
row_reads resolvers (Restart n image) h = rw (number_of-decimal n h.0, number_of-decimal image h.1) refl
row_reads resolvers (Keep n None) h = rw (number_of-decimal n h.0) refl
row_reads resolvers (Keep n (Some k)) h = rw (number_of-decimal n h.0, key_of-text k h.1) refl
row_reads resolvers (Watch n p capacity) h =
    rw (number_of-decimal n h.0, full_prefix_of-text p h.1, number_of-decimal capacity h.2) refl
row_reads resolvers (Changes n number) h = rw (number_of-decimal n h.0, number_of-decimal number h.1) refl
row_reads resolvers (Keys n p) h = rw (number_of-decimal n h.0, full_prefix_of-text p h.1) refl
row_reads resolvers (Root n) h = rw (number_of-decimal n h) refl
row_reads resolvers (Images n) h = rw (number_of-decimal n h) refl
row_reads resolvers (Views n) h = rw (number_of-decimal n h) refl
row_reads resolvers Settle h = refl

-- ---- the words of a row

written_unless_0 : (label : Word) (n : ℕ) → IsWritten label → IsNumber n → AreWritten (unless_0 label n)
written_unless_0 label zero is small = tt
written_unless_0 label (suc n) is small = rw (not_0 n) (is also written_decimal (suc n) small also tt)

written_stamp : (s : ℕ) → IsNumber s → AreWritten (stamp_words s)
written_stamp s small = written_unless_0 (codes "stamp") s (written_out (codes "stamp") refl refl) small

written_random : (word : ℕ) → IsNumber word → AreWritten (random_words word)
written_random word small = written_unless_0 (codes "word") word (written_out (codes "word") refl refl) small

written_read : (r : Option ℕ) → IfSome r IsNumber → AreWritten (read_words r)
written_read None small = tt
written_read (Some r) small = written_out (codes "read") refl refl also written_decimal r small also tt

written_number : (n : Option ℕ) → IfSome n IsNumber → AreWritten (number_words n)
written_number None small = tt
written_number (Some n) small = written_decimal n small also tt

written_key_words : (k : Option Key) → IfSome k IsPlainKey → AreWritten (key_words k)
written_key_words None plain = tt
written_key_words (Some k) plain = written_key k plain also tt

written_resolver : (by : ℕ) → IsWritten (resolver_word by)
written_resolver zero = written_out (codes "lww") refl refl
written_resolver (suc by) = written_out (codes "largest") refl refl

both_written : (s : ℕ) (r : Option ℕ) → IsNumber s → IfSome r IsNumber → AreWritten (stamp_words s ++ read_words r)
both_written s r stamp read = are_written-append (stamp_words s) (read_words r) (written_stamp s stamp) (written_read r read)

row_written : (resolvers : ℕ) (command : Command) → HasSpelling resolvers command → AreWritten (spelled_words command)
row_written resolvers (Nodes count) h =
    written_out (codes "nodes") refl refl also written_decimal count (omega (arith, h.1)) also tt
row_written resolvers (Put n k v s r) h =
    written_out (codes "put") refl refl
    also written_decimal n h.0
    also written_key k h.1
    also written_text v h.2
    also both_written s r h.3 h.4
row_written resolvers (Del n k s r) h =
    written_out (codes "del") refl refl
    also written_decimal n h.0
    also written_key k h.1
    also both_written s r h.2 h.3
row_written resolvers (Over n k v s) h =
    written_out (codes "over") refl refl
    also written_decimal n h.0
    also written_key k h.1
    also written_text v h.2
    also written_stamp s h.3
row_written resolvers (Read n k) h =
    written_out (codes "read") refl refl also written_decimal n h.0 also written_key k h.1 also tt
row_written resolvers (Show n k) h =
    written_out (codes "show") refl refl also written_decimal n h.0 also written_key k h.1 also tt
row_written resolvers (Resolve n k by) h =
    written_out (codes "resolve") refl refl
    also written_decimal n h.0
    also written_key k h.1
    also written_resolver by
    also tt
row_written resolvers (Deliver f to word) h =
    written_out (codes "deliver") refl refl
    also written_decimal f h.0
    also are_written-append (number_words to) (random_words word) (written_number to h.1) (written_random word h.2)
row_written resolvers (Junk n bytes) h =
    written_out (codes "junk") refl refl also written_decimal n h.0 also written_digits bytes h.1 h.2 also tt
row_written resolvers (Tick n word) h =
    written_out (codes "tick") refl refl also written_decimal n h.0 also written_random word h.1
row_written resolvers (Join n contact word) h =
    written_out (codes "join") refl refl
    also written_decimal n h.0
    also written_decimal contact h.1
    also written_random word h.2
row_written resolvers (Down n peer word) h =
    written_out (codes "down") refl refl
    also written_decimal n h.0
    also written_decimal peer h.1
    also written_random word h.2
row_written resolvers (Exchange n peer) h =
    written_out (codes "exchange") refl refl also written_decimal n h.0 also written_decimal peer h.1 also tt
row_written resolvers (Hello n peer) h =
    written_out (codes "hello") refl refl also written_decimal n h.0 also written_decimal peer h.1 also tt
row_written resolvers (Leave n) h = written_out (codes "leave") refl refl also written_decimal n h also tt
row_written resolvers (Restart n image) h =
    written_out (codes "restart") refl refl also written_decimal n h.0 also written_decimal image h.1 also tt
row_written resolvers (Keep n key) h =
    written_out (codes "keep") refl refl also written_decimal n h.0 also written_key_words key h.1
row_written resolvers (Watch n p capacity) h =
    written_out (codes "watch") refl refl
    also written_decimal n h.0
    also written_prefix p h.1
    also written_decimal capacity h.2
    also tt
row_written resolvers (Changes n number) h =
    written_out (codes "changes") refl refl also written_decimal n h.0 also written_decimal number h.1 also tt
row_written resolvers (Keys n p) h =
    written_out (codes "list") refl refl also written_decimal n h.0 also written_prefix p h.1 also tt
row_written resolvers (Root n) h = written_out (codes "root") refl refl also written_decimal n h also tt
row_written resolvers (Images n) h = written_out (codes "images") refl refl also written_decimal n h also tt
row_written resolvers (Views n) h = written_out (codes "views") refl refl also written_decimal n h also tt
row_written resolvers Settle h = written_out (codes "settle") refl refl also tt

-- ---- the line of a row

pub line_reads : (resolvers : ℕ) (command : Command) → HasSpelling resolvers command → line_of resolvers (spelled command) ≡ Asks command
line_reads resolvers command h =
    ap (line_of_words resolvers) (words_of-spaced (spelled_words command) (row_written resolvers command h))
    ∙ row_reads resolvers command h

pub one_line : (resolvers : ℕ) (command : Command) → HasSpelling resolvers command → IsOneLine (spelled command)
one_line resolvers command h = one_line-spaced (spelled_words command) (row_written resolvers command h)
