use Rattle.std.proofs.Common.{◌≡◌, ◌≢◌, ◌⊎◌, inl, inr, ℕ, List, Option, Some, None, Result, Ok, Err, drop, IfOk, sym, ◌∙◌, ap, subst, arith}
use Rattle.std.specs.Option.{IfSome}
use Rattle.meta_types.specs.Name.{Key}
use Rattle.dvvset.specs.Object.{Entry}
use Rattle.meta_store.specs.Table.{Table}
use Rattle.node_file.specs.declared.fault.FileFault.{FileFault}
use Rattle.node_file.specs.declared.fault.FileFault.TheVariants.{Memory}
use Rattle.node_file.specs.declared.record.Record.{Record}
use Rattle.node_file.specs.declared.record.Record.TheVariants.{Object}
use Rattle.node_file.specs.Record.{record_in}
use Rattle.node_file.specs.File.{FileState, opened, state_or_none}
use Rattle.file_pieces.specs.Alone.{IsFront, IsSaid, MayBeHeld, file_alone, version_in}
use Rattle.file_pieces.specs.Framing.{IsFramed}
use Rattle.file_pieces.proofs.Single.{HasSaid, IsRow, said_life, said_object, says_alone, says_nothing}
use Rattle.file_pieces.proofs.alone.read_alone.Goals as goal

abbrev read_of : List ℕ → List ℕ → Option (Record × ℕ)
read_of front bytes = record_in (version_in front) (drop 1 bytes)

abbrev state_alone : List ℕ → List ℕ → FileState
state_alone front bytes = state_or_none (opened None (file_alone front bytes))

refused_alone : (front bytes : List ℕ) (fault : FileFault) → IsFront front → IsFramed bytes → fault ≢ Memory → (fault ≡ Memory) ⊎ (opened None (file_alone front bytes) ≡ Err fault) → IsSaid (read_of front bytes) None
refused_alone front bytes fault is framed other (inl memory) = absurd (other memory)
refused_alone front bytes fault is framed other (inr e) = says_nothing front bytes fault is framed e

row_is : (found : Option (Key × List Entry)) (a b : Key × List Entry) → found ≡ Some a → found ≡ Some b → a ≡ b
row_is found a b e f = cc

no_row : (found : Option (Key × List Entry)) (a : Key × List Entry) → found ≡ Some a → found ≡ None → ⊥
no_row found a e none = cc

object_read : (front bytes : List ℕ) (table : Table) (row : IsRow (read_of front bytes) table) (found : Option (Key × List Entry)) (key : Key) (object : List Entry) → found ≡ Some (row.key, row.object) → found ≡ Some (key, object) → IsSaid (read_of front bytes) (Some (Object key object))
object_read front bytes table row found key object e f =
    (row.size, row.says ∙ ap (λ (x : Key × List Entry). Some (Object x.0 x.1, row.size)) (row_is found (row.key, row.object) (key, object) e f))

none_value : (front bytes : List ℕ) (fault : FileFault) (r : Result (Option Record) FileFault) → IsFront front → IsFramed bytes → (fault ≡ Memory) ⊎ (opened None (file_alone front bytes) ≡ Err fault) → IfOk r (λ read. (fault ≢ Memory) × (read ≡ None)) → IfOk r (λ read. IsSaid (read_of front bytes) read)
none_value front bytes fault (Ok read) is framed refused none = subst (IsSaid (read_of front bytes)) (sym none.1) (refused_alone front bytes fault is framed none.0 refused)
none_value front bytes fault (Err e) is framed refused none = tt

none_lawful : (fault : FileFault) (r : Result (Option Record) FileFault) → IfOk r (λ read. (fault ≢ Memory) × (read ≡ None)) → IfOk r (λ read. IfSome read MayBeHeld)
none_lawful fault (Ok read) none = subst (λ (x : Option Record). IfSome x MayBeHeld) (sym none.1) tt
none_lawful fault (Err e) none = tt

pub returns-in-Err : goal.returns-in-Err
returns-in-Err c = record {
  value = none_value c.args.front.now c.args.bytes.now c.in-Err.fault c.none_for.result c.requires.front c.requires.framed c.in-Err.ensures.refused c.none_for.ensures.none;
  lawful = none_lawful c.in-Err.fault c.none_for.result c.none_for.ensures.none;
  memory = c.none_for.ensures.memory;
}

pub returns-then-opened-gt0-clause-value : goal.returns-then-opened-gt0-clause-value
returns-then-opened-gt0-clause-value c =
    let front = c.args.front.now in
    let bytes = c.args.bytes.now in
    let opens = c.in-Ok.ensures.opens in
    let has : HasSaid (read_of front bytes) (state_alone front bytes).contents = says_alone front bytes (state_alone front bytes) opens.0 c.requires.front c.requires.framed opens.1 in
    said_life (read_of front bytes) (state_alone front bytes).contents c.in-Ok.opened.life has (sym c.in-Ok.ensures.life) c.if-opened-gt0.true

pub returns-in-Some-clause-value : goal.returns-in-Some-clause-value
returns-in-Some-clause-value c =
    let front = c.args.front.now in
    let bytes = c.args.bytes.now in
    let opens = c.in-Ok.ensures.opens in
    let s : FileState = state_alone front bytes in
    let has : HasSaid (read_of front bytes) s.contents = says_alone front bytes s opens.0 c.requires.front c.requires.framed opens.1 in
    let zero_life : s.contents.life ≡ 0 = omega (arith, c.if-opened-gt0.false, c.in-Ok.ensures.life) in
    let row : IsRow (read_of front bytes) s.contents.table = said_object (read_of front bytes) s.contents has zero_life in
    let only = c.in_ok-key.ensures.only row.key row.object (c.in-Ok.ensures.table ∙ row.row) in
    object_read front bytes s.contents.table row c.in_ok-key.field-0 c.in-Some.key c.in-Some.object only c.in-Some.is

pub returns-clause-value : goal.returns-clause-value
returns-clause-value c =
    let front = c.args.front.now in
    let bytes = c.args.bytes.now in
    let opens = c.in-Ok.ensures.opens in
    let s : FileState = state_alone front bytes in
    let has : HasSaid (read_of front bytes) s.contents = says_alone front bytes s opens.0 c.requires.front c.requires.framed opens.1 in
    let zero_life : s.contents.life ≡ 0 = omega (arith, c.if-opened-gt0.false, c.in-Ok.ensures.life) in
    let row : IsRow (read_of front bytes) s.contents.table = said_object (read_of front bytes) s.contents has zero_life in
    let only = c.in_ok-key.ensures.only row.key row.object (c.in-Ok.ensures.table ∙ row.row) in
    absurd (no_row c.in_ok-key.field-0 (row.key, row.object) only c.in-None.is)
