-- Words that are added to a line, and lines that are added to a text.
use Rattle.std.proofs.Common.{◌≡◌, ◌≢◌, ℕ, ◌+◌, ◌<◌, List, [], ◌∷◌, ◌++◌, append_assoc, length, drop, map, get_or, Option, Some, None, IfSome, sym, ap, ◌∙◌, ne_eqb, eq-eqb}
use Rattle.std.specs.Prelude.{codes, decimal}
use Rattle.std.specs.List.{cons_option, filter_map}
use Rattle.std.proofs.lemmas.List.{append-nil, drop_more}
use Rattle.std.proofs.lemmas.List.Concat.{flat_map-append}
use Rattle.world_core.specs.declared.answer.Accepted.{Accepted}
use Rattle.scenario_text.specs.Word.{Word}
use Rattle.scenario_text.specs.Commands.{Command, Nodes}
use Rattle.scenario_text.specs.Spelling.{after_spaces, spaced_words, spelled, spelled_lines, spelled_scenario, unless_0}
use Rattle.run_text.specs.Replay.{IsSpelled, command_of_event}

-- ---- words

-- one word, after a space
pub word_added : (o p q word : List ℕ) → p ≡ o ++ 32 ∷ [] → q ≡ p ++ word → q ≡ o ++ after_spaces (word ∷ [])
word_added o p q word first second =
    second ∙ ap (λ (x : List ℕ). x ++ word) first ∙ append_assoc o (32 ∷ []) word
    ∙ ap (λ (x : List ℕ). o ++ 32 ∷ x) (sym (append-nil word))

-- a full prefix, after a space
pub prefix_added : (o p1 p2 p3 p4 a b : List ℕ) → p1 ≡ o ++ 32 ∷ [] → p2 ≡ p1 ++ a → p3 ≡ p2 ++ 47 ∷ [] → p4 ≡ p3 ++ b → p4 ≡ o ++ after_spaces (((a ++ 47 ∷ []) ++ b) ∷ [])
prefix_added o p1 p2 p3 p4 a b e1 e2 e3 e4 =
    let added : p4 ≡ p1 ++ ((a ++ 47 ∷ []) ++ b) =
    e4 ∙ ap (λ (x : List ℕ). x ++ b) (e3 ∙ ap (λ (x : List ℕ). x ++ 47 ∷ []) e2 ∙ append_assoc p1 a (47 ∷ []))
    ∙ append_assoc p1 (a ++ 47 ∷ []) b in
    word_added o p1 p4 ((a ++ 47 ∷ []) ++ b) e1 added

-- words after others
pub words_added : (o p q : List ℕ) (vs ws : List Word) → p ≡ o ++ after_spaces vs → q ≡ p ++ after_spaces ws → q ≡ o ++ after_spaces (vs ++ ws)
words_added o p q vs ws first second =
    second ∙ ap (λ (x : List ℕ). x ++ after_spaces ws) first
    ∙ append_assoc o (after_spaces vs) (after_spaces ws)
    ∙ ap (λ (x : List ℕ). o ++ x) (sym (flat_map-append (λ (word : Word). 32 ∷ word) vs ws))

-- words after the first ones of a line
pub more_added : (o p q name : List ℕ) (vs ws : List Word) → p ≡ o ++ spaced_words (name ∷ vs) → q ≡ p ++ after_spaces ws → q ≡ o ++ spaced_words (name ∷ (vs ++ ws))
more_added o p q name vs ws first second =
    second ∙ ap (λ (x : List ℕ). x ++ after_spaces ws) first
    ∙ append_assoc o (name ++ after_spaces vs) (after_spaces ws)
    ∙ ap (λ (x : List ℕ). o ++ x) (append_assoc name (after_spaces vs) (after_spaces ws)
    ∙ ap (λ (x : List ℕ). name ++ x) (sym (flat_map-append (λ (word : Word). 32 ∷ word) vs ws)))

-- the name of a command, and words after it
pub name_added : (o p q name : List ℕ) (ws : List Word) → p ≡ o ++ name → q ≡ p ++ after_spaces ws → q ≡ o ++ spaced_words (name ∷ ws)
name_added o p q name ws first second =
    second ∙ ap (λ (x : List ℕ). x ++ after_spaces ws) first ∙ append_assoc o name (after_spaces ws)

pub none_added : (o label : List ℕ) (n : ℕ) → n ≡ 0 → o ≡ o ++ after_spaces (unless_0 label n)
none_added o label n zero = rw (eq-eqb n 0 zero) (sym (append-nil o))

pub label_added : (o p q label : List ℕ) (n : ℕ) → n ≢ 0 → p ≡ o ++ after_spaces (label ∷ []) → q ≡ p ++ after_spaces (decimal n ∷ []) → q ≡ o ++ after_spaces (unless_0 label n)
label_added o p q label n some first second = rw (ne_eqb n 0 some) (words_added o p q (label ∷ []) (decimal n ∷ []) first second)

-- ---- lines

pub line_ended : (o p q line : List ℕ) → p ≡ o ++ line → q ≡ p ++ 10 ∷ [] → q ≡ o ++ (line ++ 10 ∷ [])
line_ended o p q line first second =
    second ∙ ap (λ (x : List ℕ). x ++ 10 ∷ []) first ∙ append_assoc o line (10 ∷ [])

-- the lines of these events
abbrev pub lines_of_events : List Accepted → List ℕ
lines_of_events accepted = spelled_lines (filter_map command_of_event (map (λ a. a.event) accepted))

line_first : (o : Option Command) (rest : List Command) (old p q : List ℕ) → IsSpelled o → IfSome o (λ c. p ≡ old ++ spelled c) → q ≡ p ++ 10 ∷ []
    → q ++ spelled_lines rest ≡ old ++ spelled_lines (cons_option o rest)
line_first None rest old p q is first second = absurd is
line_first (Some c) rest old p q is first second =
    ap (λ (x : List ℕ). x ++ spelled_lines rest) (line_ended old p q (spelled c) first second)
    ∙ append_assoc old (spelled c ++ 10 ∷ []) (spelled_lines rest)

-- the line of one more event
pub event_added : (accepted : List Accepted) (i : ℕ) (one : Accepted) (old p q : List ℕ) → i < length accepted → one ≡ get_or accepted i one
    → IsSpelled (command_of_event one.event) → IfSome (command_of_event one.event) (λ c. p ≡ old ++ spelled c) → q ≡ p ++ 10 ∷ []
    → q ++ lines_of_events (drop (i + 1) accepted) ≡ old ++ lines_of_events (drop i accepted)
event_added accepted i one old p q lt is spelled_is first second =
    let here : drop i accepted ≡ one ∷ drop (i + 1) accepted = drop_more accepted i one lt ∙ ap (λ (x : Accepted). x ∷ drop (i + 1) accepted) (sym is) in
    line_first (command_of_event one.event) (filter_map command_of_event (map (λ a. a.event) (drop (i + 1) accepted))) old p q spelled_is first second
    ∙ ap (λ (rest : List Accepted). old ++ lines_of_events rest) (sym here)

-- the line of one more command
pub command_added : (old new : List ℕ) (command : Command) (rest : List Command) → new ≡ old ++ (spelled command ++ 10 ∷ []) → new ++ spelled_lines rest ≡ old ++ spelled_lines (command ∷ rest)
command_added old new command rest is =
    ap (λ (x : List ℕ). x ++ spelled_lines rest) is ∙ append_assoc old (spelled command ++ 10 ∷ []) (spelled_lines rest)

-- ---- the text

lines-append : (xs ys : List Command) → spelled_lines (xs ++ ys) ≡ spelled_lines xs ++ spelled_lines ys
lines-append = flat_map-append (λ (command : Command). spelled command ++ 10 ∷ [])

regrouped : (about nodes events roots : List ℕ) → ((((35 ∷ 32 ∷ about) ++ 10 ∷ []) ++ nodes) ++ events) ++ roots ≡ 35 ∷ 32 ∷ (about ++ 10 ∷ (nodes ++ (events ++ roots)))
regrouped about nodes events roots = simp append_assoc

pub text_made : (t0 t1 t2 t3 t4 t5 t6 about : List ℕ) (count : ℕ) (events roots : List Command) → t0 ≡ [] → t1 ≡ t0 ++ codes "# " → t2 ≡ t1 ++ about → t3 ≡ t2 ++ 10 ∷ []
    → t4 ≡ t3 ++ (spelled (Nodes count) ++ 10 ∷ []) → t5 ≡ t4 ++ spelled_lines events → t6 ≡ t5 ++ spelled_lines roots
    → t6 ≡ spelled_scenario about (record { nodes = count; commands = events ++ roots })
text_made t0 t1 t2 t3 t4 t5 t6 about count events roots e0 e1 e2 e3 e4 e5 e6 =
    let nodes = spelled (Nodes count) ++ 10 ∷ [] in
    let d1 : t1 ≡ codes "# " = e1 ∙ ap (λ (x : List ℕ). x ++ codes "# ") e0 in
    let d2 : t2 ≡ 35 ∷ 32 ∷ about = e2 ∙ ap (λ (x : List ℕ). x ++ about) d1 in
    let d3 : t3 ≡ (35 ∷ 32 ∷ about) ++ 10 ∷ [] = e3 ∙ ap (λ (x : List ℕ). x ++ 10 ∷ []) d2 in
    let d4 : t4 ≡ ((35 ∷ 32 ∷ about) ++ 10 ∷ []) ++ nodes = e4 ∙ ap (λ (x : List ℕ). x ++ nodes) d3 in
    let d5 : t5 ≡ (((35 ∷ 32 ∷ about) ++ 10 ∷ []) ++ nodes) ++ spelled_lines events = e5 ∙ ap (λ (x : List ℕ). x ++ spelled_lines events) d4 in
    e6 ∙ ap (λ (x : List ℕ). x ++ spelled_lines roots) d5
    ∙ regrouped about nodes (spelled_lines events) (spelled_lines roots)
    ∙ ap (λ (x : List ℕ). 35 ∷ 32 ∷ (about ++ 10 ∷ (nodes ++ x))) (sym (lines-append events roots))
