-- A text of spelled commands has exactly these commands.
use Rattle.std.proofs.Common.{◌≡◌, ℕ, ◌+◌, true, false, List, [], ◌∷◌, append_assoc, map, All, Some, None, Ok, refl, sym, ap, ◌∙◌, arith}
use Rattle.std.specs.List.{AllByRecursion}
use Rattle.std.proofs.lemmas.List.Elements.{All-cons, All-nil, recursion_from_All}
use Rattle.streams.specs.Line.{lines_of}
use Rattle.scenario_text.specs.Coded.{Parses}
use Rattle.scenario_text.specs.Commands.{Command, Nodes}
use Rattle.scenario_text.specs.Script.{Scenario, Skipped, commands_of, commands_of_lines, first_bad_from, is_nodes, line_of, line_of_words, scenario_of}
use Rattle.scenario_text.specs.Spelling.{HasSpelling, HasText, spelled, spelled_lines, spelled_scenario}
use Rattle.scenario_text.proofs.Parts.{IsOther, lines_of-first, lines_of-none, words_of-first}
use Rattle.scenario_text.proofs.SpelledRows.{line_reads, one_line}

abbrev IsNotNodes : Command → Type 0
IsNotNodes command = is_nodes command ≡ false

-- ---- the lines

lines_of-spelled : (resolvers : ℕ) (commands : List Command) → AllByRecursion (HasSpelling resolvers) commands → lines_of (spelled_lines commands) ≡ map spelled commands
lines_of-spelled resolvers [] all = lines_of-none
lines_of-spelled resolvers (command ∷ commands) all =
    ap lines_of (append_assoc (spelled command) (10 ∷ []) (spelled_lines commands))
    ∙ lines_of-first (spelled command) (spelled_lines commands) (one_line resolvers command all.0)
    ∙ ap (λ (lines : List (List ℕ)). spelled command ∷ lines) (lines_of-spelled resolvers commands all.1)

commands_of_lines-spelled : (resolvers : ℕ) (commands : List Command) → AllByRecursion (HasSpelling resolvers) commands → commands_of_lines resolvers (map spelled commands) ≡ commands
commands_of_lines-spelled resolvers [] all = refl
commands_of_lines-spelled resolvers (command ∷ commands) all =
    rw (line_reads resolvers command all.0)
    (ap (λ (rest : List Command). command ∷ rest) (commands_of_lines-spelled resolvers commands all.1))

first_bad_from-spelled : (resolvers number : ℕ) (commands : List Command) → AllByRecursion (HasSpelling resolvers) commands → AllByRecursion IsNotNodes commands
    → first_bad_from resolvers true number (map spelled commands) ≡ None
first_bad_from-spelled resolvers number [] all once = refl
first_bad_from-spelled resolvers number (command ∷ commands) all once =
    rw (line_reads resolvers command all.0, once.0)
    (first_bad_from-spelled resolvers (number + 1) commands all.1 once.1)

pub commands_of-spelled : (resolvers : ℕ) (commands : List Command) → All (HasSpelling resolvers) commands → commands_of resolvers (spelled_lines commands) ≡ commands
commands_of-spelled resolvers commands all =
    let each = recursion_from_All (HasSpelling resolvers) commands all in
    ap (commands_of_lines resolvers) (lines_of-spelled resolvers commands each) ∙ commands_of_lines-spelled resolvers commands each

-- ---- the comment

is_skipped : (resolvers : ℕ) (about : List ℕ) → line_of resolvers (35 ∷ 32 ∷ about) ≡ Skipped
is_skipped resolvers about =
    let sign : All (IsOther 32) (35 ∷ []) = All-cons (IsOther 32) 35 [] (λ space. omega arith) (All-nil (IsOther 32)) in
    ap (line_of_words resolvers) (words_of-first (35 ∷ 32 ∷ about) (35 ∷ []) about (λ space. omega arith) sign refl)

no_feed : (about : List ℕ) → All (IsOther 10) about → All (IsOther 10) (35 ∷ 32 ∷ about)
no_feed about one =
    All-cons (IsOther 10) 35 (32 ∷ about) (λ feed. omega arith) (All-cons (IsOther 10) 32 about (λ feed. omega arith) one)

-- ---- the whole text

none_bad : (resolvers count : ℕ) (about : List ℕ) (commands : List Command) → HasSpelling resolvers (Nodes count) → AllByRecursion (HasSpelling resolvers) commands → AllByRecursion IsNotNodes commands
    → first_bad_from resolvers false 1 ((35 ∷ 32 ∷ about) ∷ map spelled (Nodes count ∷ commands)) ≡ None
none_bad resolvers count about commands nodes all once =
    rw (is_skipped resolvers about, line_reads resolvers (Nodes count) nodes) (first_bad_from-spelled resolvers 3 commands all once)

all_there : (resolvers : ℕ) (about : List ℕ) (commands : List Command) → AllByRecursion (HasSpelling resolvers) commands
    → commands_of_lines resolvers ((35 ∷ 32 ∷ about) ∷ map spelled commands) ≡ commands
all_there resolvers about commands all = rw (is_skipped resolvers about) (commands_of_lines-spelled resolvers commands all)

pub scenario_reads : (resolvers : ℕ) (about : List ℕ) (s : Scenario) → HasText resolvers about s → Parses resolvers (spelled_scenario about s) (Ok (Some s))
scenario_reads resolvers about s h =
    let all = Nodes s.nodes ∷ s.commands in
    let each = recursion_from_All (HasSpelling resolvers) s.commands h.commands in
    let once = recursion_from_All IsNotNodes s.commands h.once in
    let lines : lines_of (spelled_scenario about s) ≡ (35 ∷ 32 ∷ about) ∷ map spelled all = lines_of-first (35 ∷ 32 ∷ about) (spelled_lines all) (no_feed about h.one_line)
    ∙ ap (λ (ls : List (List ℕ)). (35 ∷ 32 ∷ about) ∷ ls) (lines_of-spelled resolvers all (h.nodes, each)) in
    let commands = ap (commands_of_lines resolvers) lines ∙ all_there resolvers about all (h.nodes, each) in
    (ap (first_bad_from resolvers false 1) lines ∙ none_bad resolvers s.nodes about s.commands h.nodes each once, sym (ap scenario_of commands))
