use Rattle.std.proofs.Common.{◌≡◌, ℕ, ◌<◌, get_or}
use Rattle.scenario_text.specs.declared.verb.Verb.{Verb}
use Rattle.scenario_text.specs.Coded.{verb_word}
use Rattle.scenario_text.proofs.verb.verb_of.Given as goal

-- the word is none of the verbs that were passed
abbrev pub invariant-loop-verb : goal.invariant-loop-verb
invariant-loop-verb l = (k : ℕ) (verb : Verb) → k < l.verb-index → l.word ≡ verb_word (get_or l.verb-items k verb) → ⊥
