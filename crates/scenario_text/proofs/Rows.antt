-- The rows of the table of commands.
use Rattle.std.proofs.Common.{◌≡◌, ◌≢◌, false, ℕ, List, [], ◌∷◌, Some, None, refl, ap, ◌∙◌}
use Rattle.std.specs.Prelude.{bytes_eq}
use Rattle.std.proofs.lemmas.Bool.{false_from_ne_true}
use Rattle.std.proofs.lemmas.Slice.Eq.{bytes_eq-Decides}
use Rattle.scenario_text.specs.declared.verb.Verb.{Verb}
use Rattle.scenario_text.specs.declared.verb.Verb.TheVariants as verbs
use Rattle.scenario_text.specs.Word.{Word}
use Rattle.scenario_text.specs.Reading.{WordReader, exactly}
use Rattle.scenario_text.specs.Commands.{Command, command_of, reads_behind, rows}
use Rattle.scenario_text.specs.Coded.{verb_word}

-- one thing for each row
infixr 10 ◌also◌
abbrev pub ◌also◌ : {A B : Type 0} → A → B → A × B
first also rest = (first, rest)

-- no row has this name
abbrev IsUnnamed : Word → List (Word × WordReader Command) → Type 0
IsUnnamed name [] = Unit {0}
IsUnnamed name (row ∷ rows) = (name ≢ row.0) × IsUnnamed name rows

reads_behind-none : (name : Word) (rows : List (Word × WordReader Command)) (words : List Word) → IsUnnamed name rows → reads_behind name rows words ≡ None
reads_behind-none name [] words none = refl
reads_behind-none name (row ∷ rows) words none =
    let other : bytes_eq name row.0 ≡ false = false_from_ne_true (bytes_eq name row.0) (λ same. none.0 ((bytes_eq-Decides name row.0).0 same)) in
    rw other (reads_behind-none name rows words none.1)

-- words that begin with no verb are no command
pub command_of-none : (resolvers : ℕ) (name : Word) (words : List Word) → ((verb : Verb) → name ≢ verb_word verb) → command_of resolvers (name ∷ words) ≡ None
command_of-none resolvers name words none =
    let unnamed : IsUnnamed name (rows resolvers) =
    none verbs.Nodes
    also none verbs.Put
    also none verbs.Del
    also none verbs.Over
    also none verbs.Read
    also none verbs.Show
    also none verbs.Resolve
    also none verbs.Deliver
    also none verbs.Junk
    also none verbs.Tick
    also none verbs.Join
    also none verbs.Down
    also none verbs.Exchange
    also none verbs.Hello
    also none verbs.Leave
    also none verbs.Restart
    also none verbs.Keep
    also none verbs.Watch
    also none verbs.Changes
    also none verbs.List
    also none verbs.Root
    also none verbs.Images
    also none verbs.Views
    also none verbs.Settle
    also tt in
    rw (reads_behind-none name (rows resolvers) words unnamed) refl

exactly-more : {A : Type 0} (reads : WordReader A) (old new : List Word) (x : A) → reads old ≡ Some (x, new) → (new ≡ [] → ⊥) → exactly reads old ≡ None
exactly-more reads old [] x e more = absurd (more refl)
exactly-more reads old (word ∷ new) x e more = rw e refl

-- words that are left over
pub command_of-more : (resolvers : ℕ) (old middle new : List Word) (name : Word) (verb : Verb) (command : Command)
    → old ≡ name ∷ middle → name ≡ verb_word verb → reads_behind (verb_word verb) (rows resolvers) middle ≡ Some (command, new) → (new ≡ [] → ⊥) → command_of resolvers old ≡ None
command_of-more resolvers old middle new name verb command first is row more =
    ap (command_of resolvers) (first ∙ ap (λ word. word ∷ middle) is) ∙ exactly-more (reads_behind (verb_word verb) (rows resolvers)) middle new command row more
