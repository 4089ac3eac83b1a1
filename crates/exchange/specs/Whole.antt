-- A whole exchange of two sides, and what it owes. The rule is our own.
use Rattle.std.specs.Prelude.{◌≡◌, ℕ, List, [], ◌∷◌, ◌++◌, take, ◌⊎◌, Option, None}
use Rattle.std.specs.List.{flat_map}
use Rattle.std.specs.Option.{option_or}
use Rattle.meta_types.specs.Name.{Key}
use Rattle.dvvset.specs.Object.{Entry}
use Rattle.past_model.specs.declared.happening.Happening.{Happening}
use Rattle.past_model.specs.Sets.{IsSubset, Knowledge, Places, union_by_key}
use Rattle.past_model.specs.Past.{writes}
use Rattle.past_model.specs.History.{IsHistory}
use Rattle.past_model.specs.Shown.{IsObjectOf}
use Rattle.meta_frame.specs.declared.message.Message.{Message}
use Rattle.meta_frame.specs.declared.message.Message.TheVariants.{XObject, XRoot}
use Rattle.meta_store.specs.Table.{Table, object_at}
use Rattle.meta_store.specs.Step.{refusal_of_merge, table_after_merge}
use Rattle.meta_store.specs.declared.fault.StoreFault.{StoreFault}
use Rattle.hash_tree.specs.Tree.{rows_of, tree_root}
use Rattle.hash_tree.specs.Hashed.{Collides}
use Rattle.exchange.specs.Answers.{answers_to}

-- ---- XOBJECT is merged; no other message changes what is held

unfoldable pub table_after : Table → Message → Table
table_after table (XObject key object) = table_after_merge table key object
table_after table _ = table

unfoldable pub refusal_of_one : Table → Message → Option StoreFault
refusal_of_one table (XObject key object) = refusal_of_merge table key object
refusal_of_one table _ = None

-- ---- messages that are taken one after another, each answered from what is held once it was taken

abbrev pub table_after_all : Table → List Message → Table
table_after_all table [] = table
table_after_all table (message ∷ messages) =
    table_after_all (table_after table message) messages

abbrev pub answers_in_turn : Table → List Message → List Message
answers_in_turn table [] = []
answers_in_turn table (message ∷ messages) =
    answers_to (table_after table message) message
    ++ answers_in_turn (table_after table message) messages

-- what is held once the first `n` messages were taken, for some `n`
abbrev pub TookFront : Table → List Message → Table → Type 0
TookFront old messages new = (n : ℕ) × (new ≡ table_after_all old (take n messages))

-- the refusal of the first message that is refused
abbrev pub refusal_of_all : Table → List Message → Option StoreFault
refusal_of_all table [] = None
refusal_of_all table (message ∷ messages) =
    option_or (refusal_of_one table message) (refusal_of_all (table_after table message) messages)

-- ---- seven rounds: in each, one side takes all that the other answered in the round before. An
-- exchange begins with the root of `here`

abbrev pub answers_to_all : Table → List Message → List Message
answers_to_all table messages = flat_map (answers_to table) messages

-- the first five rounds bring digests, by which nothing changes; this is what `there` answers in
-- the fifth
unfoldable pub offers : Table → Table → List Message
offers here there =
    answers_to_all there (answers_to_all here (answers_to_all there (answers_to_all here
    (answers_to there (XRoot (tree_root (rows_of here)))))))

-- in the sixth, `here` takes objects and wants
unfoldable pub here_after : Table → Table → Table
here_after here there = table_after_all here (offers here there)

unfoldable pub wanted : Table → Table → List Message
wanted here there = answers_in_turn here (offers here there)

-- in the seventh, `there` takes objects
unfoldable pub there_after : Table → Table → Table
there_after here there = table_after_all there (wanted here there)

unfoldable pub refusal_of_exchange : Table → Table → Option StoreFault
refusal_of_exchange here there =
    option_or (refusal_of_all here (offers here there)) (refusal_of_all there (wanted here there))

-- ---- what both sides then know

-- the table holds, under each key, the object of the writes that are known there
pub record Holds (hs : List Happening) (known : Knowledge) (table : Table) : Type 0 where
  pub each : (key : Key) → IsObjectOf (writes hs) key (known key) (object_at table key)

-- the object of a set of writes that has at least those of `least`, and at most those of `most`
pub record IsBetween (hs : List Happening) (key : Key) (least most : Places)
    (object : List Entry) : Type 0 where
  pub set : Places
  pub object_of : IsObjectOf (writes hs) key set object
  pub at_least : IsSubset least set
  pub at_most : IsSubset set most

pub record HoldsBetween (hs : List Happening) (least most : Knowledge)
    (table : Table) : Type 0 where
  pub each : (key : Key) → IsBetween hs key (least key) (most key) (object_at table key)

-- both sides hold, under each key, the object of what either knew
pub record Reconciled (hs : List Happening) (known_here known_there : Knowledge)
    (here_end there_end : Table) : Type 0 where
  pub here_holds : Holds hs (union_by_key known_here known_there) here_end
  pub there_holds : Holds hs (union_by_key known_here known_there) there_end

-- if all that both held arose in one history, both end with the union, or two unequal byte strings
-- that are hashed for what they held have one digest
unfoldable pub EndInUnion : Table → Table → Table → Table → Type 0
EndInUnion here there here_end there_end =
    (hs : List Happening) → IsHistory hs → (known_here known_there : Knowledge)
    → Holds hs known_here here → Holds hs known_there there
    → Reconciled hs known_here known_there here_end there_end ⊎ Collides here there

-- under every key, each side holds at least what it knew, and at most what either knew
pub record AreBetween (hs : List Happening) (known_here known_there : Knowledge)
    (here_end there_end : Table) : Type 0 where
  pub here_holds : HoldsBetween hs known_here (union_by_key known_here known_there) here_end
  pub there_holds : HoldsBetween hs known_there (union_by_key known_here known_there) there_end

-- if all that both held arose in one history, each side ends with at least what it knew, and at
-- most the union
unfoldable pub StayBetween : Table → Table → Table → Table → Type 0
StayBetween here there here_end there_end =
    (hs : List Happening) → IsHistory hs → (known_here known_there : Knowledge)
    → Holds hs known_here here → Holds hs known_there there
    → AreBetween hs known_here known_there here_end there_end
