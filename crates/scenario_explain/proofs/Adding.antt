-- Lines that are told, one after the other.
use Rattle.std.proofs.Common.{◌≡◌, ℕ, List, [], ◌∷◌, ◌++◌, length, drop, inl, inr, map, refl, sym, ap, ◌∙◌, append_assoc}
use Rattle.std.specs.Prelude.{codes, decimal}
use Rattle.std.proofs.lemmas.List.{append-nil, map-append}
use Rattle.std.proofs.Math.Seq.{drop-append_seam}
use Rattle.scenario_text.specs.Commands.{Command}
use Rattle.scenario_commands.specs.Marking.{all_waiting}
use Rattle.scenario_commands.specs.Obeying.{Choices, Obeys, Stage}
use Rattle.scenario_explain.specs.OnTheWay.{way_lines}
use Rattle.scenario_explain.specs.Reason.{reasons_of}
use Rattle.scenario_explain.specs.Told.{AddsCommand, AddsOfNodes, AreOfNodes, AreTold, Explains, IsOfCommand, told_line, told_lines, told_way}

pub none_told : AreTold []
none_told = record { lines = []; text_is = refl }

lines_then : (one other : List (List ℕ)) → told_lines (one ++ other) ≡ told_lines one ++ told_lines other
lines_then [] other = refl
lines_then (text ∷ one) other = ap (λ (xs : List ℕ). told_line text ++ xs) (lines_then one other) ∙ sym (append_assoc (told_line text) (told_lines one) (told_lines other))

told_then : (one other : List ℕ) → AreTold one → AreTold other → AreTold (one ++ other)
told_then one other a b = record {
  lines = a.lines ++ b.lines;
  text_is = ap (λ (xs : List ℕ). xs ++ other) a.text_is ∙ ap (λ (xs : List ℕ). told_lines a.lines ++ xs) b.text_is ∙ sym (lines_then a.lines b.lines);
}

-- ---- the line of a command

pub command_told : (text : List ℕ) → IsOfCommand text → AreTold text
command_told text (inl none) = record { lines = []; text_is = none }
command_told text (inr (number, shown, is)) =
    let line = decimal number ++ codes ": " ++ shown in
    record { lines = line ∷ []; text_is = is ∙ sym (append-nil (told_line line)) }

pub no_command : (text : List ℕ) → AddsCommand text text
no_command text = record { added = []; of_command = inl refl; text_is = sym (append-nil text) }

-- ---- lines of nodes

pub adds_none : (text : List ℕ) → AddsOfNodes text text
adds_none text = record { added = []; of_nodes = record { lines = []; text_is = refl }; text_is = sym (append-nil text) }

pub adds_then : (old now new : List ℕ) → AddsOfNodes old now → AddsOfNodes now new → AddsOfNodes old new
adds_then old now new a b =
    let f : List ℕ → List ℕ = λ line. codes "node " ++ line in
    record {
      added = a.added ++ b.added;
      of_nodes = record {
        lines = a.of_nodes.lines ++ b.of_nodes.lines;
        text_is =
            ap (λ (xs : List ℕ). xs ++ b.added) a.of_nodes.text_is ∙ ap (λ (xs : List ℕ). told_lines (map f a.of_nodes.lines) ++ xs) b.of_nodes.text_is
            ∙ sym (lines_then (map f a.of_nodes.lines) (map f b.of_nodes.lines)) ∙ ap told_lines (sym (map-append f a.of_nodes.lines b.of_nodes.lines));
      };
      text_is = b.text_is ∙ ap (λ (xs : List ℕ). xs ++ b.added) a.text_is ∙ append_assoc old a.added b.added;
    }

pub adds_line : (old new line rest : List ℕ) → line ≡ codes "node " ++ rest → new ≡ old ++ told_line line → AddsOfNodes old new
adds_line old new line rest is added = record {
  added = told_line line;
  of_nodes = record { lines = rest ∷ []; text_is = ap told_line is ∙ sym (append-nil (told_line (codes "node " ++ rest))) };
  text_is = added;
}

-- a line that is made piece by piece
pub record Begins (front now : List ℕ) : Type 0 where
  pub rest : List ℕ
  pub is : now ≡ front ++ rest

pub begins : (front old now : List ℕ) → old ≡ [] → now ≡ old ++ front → Begins front now
begins front old now none is = record { rest = []; is = is ∙ ap (λ (xs : List ℕ). xs ++ front) none ∙ sym (append-nil front) }

pub begins_still : (front now next more : List ℕ) → Begins front now → next ≡ now ++ more → Begins front next
begins_still front now next more b is = record {
  rest = b.rest ++ more;
  is = is ∙ ap (λ (xs : List ℕ). xs ++ more) b.is ∙ append_assoc front b.rest more;
}

-- ---- a command

-- what is told before a command, its results, and what is told after it
pub explains : (choices : Choices) (old new : Stage) (command : Command) (start : ℕ) (text now later why mid last frames : List ℕ) → start ≡ length now → AddsCommand text now
    → (does : (added : List ℕ) × Obeys choices old command added new × (later ≡ now ++ added)) → why ≡ later ++ told_lines (reasons_of (drop start later))
    → frames ≡ all_waiting 1 new.given → mid ≡ why ++ told_lines (way_lines frames) → AddsOfNodes mid last → (added : List ℕ) × Explains choices old command added new × (last ≡ text ++ added)
explains choices old new command start text now later why mid last frames starts before does reasoned frames_are way after =
    let results = does.0 in
    let behind : drop start later ≡ results = ap (λ (n : ℕ). drop n later) starts ∙ ap (drop (length now)) does.2 ∙ drop-append_seam now results in
    let both : told_lines (reasons_of results) ++ told_lines (way_lines (all_waiting 1 new.given)) ≡ told_way results new = sym (lines_then (reasons_of results) (way_lines (all_waiting 1 new.given))) in
    let told : why ≡ later ++ told_lines (reasons_of results) = reasoned ∙ ap (λ (xs : List ℕ). later ++ told_lines (reasons_of xs)) behind in
    let ways : mid ≡ why ++ told_lines (way_lines (all_waiting 1 new.given)) = way ∙ ap (λ (fs : List ℕ). why ++ told_lines (way_lines fs)) frames_are in
    let named : mid ≡ later ++ told_way results new =
    ways ∙ ap (λ (xs : List ℕ). xs ++ told_lines (way_lines (all_waiting 1 new.given))) told
    ∙ append_assoc later (told_lines (reasons_of results)) (told_lines (way_lines (all_waiting 1 new.given)))
    ∙ ap (λ (xs : List ℕ). later ++ xs) both in
    let begun : later ≡ text ++ (before.added ++ results) = does.2 ∙ ap (λ (xs : List ℕ). xs ++ results) before.text_is ∙ append_assoc text before.added results in (
      before.added ++ (results ++ (told_way results new ++ after.added)),
      record {
        before = before.added;
        of_command = before.of_command;
        results = results;
        obeys = does.1;
        after = after.added;
        of_nodes = after.of_nodes;
        text_is = refl;
      },
      after.text_is ∙ ap (λ (xs : List ℕ). xs ++ after.added) (named ∙ ap (λ (xs : List ℕ). xs ++ told_way results new) begun)
          ∙ append_assoc (text ++ (before.added ++ results)) (told_way results new) after.added
          ∙ append_assoc text (before.added ++ results) (told_way results new ++ after.added)
          ∙ ap (λ (xs : List ℕ). text ++ xs) (append_assoc before.added results (told_way results new ++ after.added)),
    )

-- all that is told after a command
pub told_after : (results : List ℕ) (new : Stage) (after : List ℕ) → AreOfNodes after → AreTold (told_way results new ++ after)
told_after results new after of_nodes =
    told_then (told_way results new) after (record { lines = reasons_of results ++ way_lines (all_waiting 1 new.given); text_is = refl })
    (record { lines = map (λ (line : List ℕ). codes "node " ++ line) of_nodes.lines; text_is = of_nodes.text_is })
