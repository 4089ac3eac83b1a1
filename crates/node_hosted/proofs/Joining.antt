-- Records that wait to be stored, and what a file has with them.
use Rattle.std.proofs.Common.{◌≡◌, ◌≢◌, ◌≤◌, ℕ, ◌+◌, Bool, true, false, cond, T, List, [], ◌∷◌, ◌++◌, length, fold, Option, Some, None, refl, sym, ap, subst, ◌∙◌, append-nil, arith, nat_lt, ◌<◌}
use Rattle.std.proofs.lemmas.Bool.Decides.{nat_tests}
use Rattle.std.proofs.lemmas.List.Elements.{All-append, All-cons, All-nil}
use Rattle.std.proofs.lemmas.List.Sums.{fold-append}
use Rattle.std.specs.Option.{unwrap_or}
use Rattle.std.specs.Ordering.{is_eq}
use Rattle.std.specs.Cmp.{tied_itself}
use Rattle.std.specs.FinMap.{find}
use Rattle.std.specs.FinMap.Entries.{find-put}
use Rattle.meta_types.specs.Name.{Key}
use Rattle.meta_types.specs.Order.{key_cmp}
use Rattle.dvvset.specs.Clock.{descends, join}
use Rattle.dvvset.specs.Object.{Entry}
use Rattle.meta_store.specs.Table.{IsTable, Table, most_keys, object_at, with_object}
use Rattle.meta_store.proofs.Keys.{key_total}
use Rattle.meta_store.proofs.Tables.{found_row, table_put}
use Rattle.node_core.specs.Node.{NodeParts}
use Rattle.node_core.proofs.Growing.{descends_itself}
use Rattle.node_core.proofs.Within.{keeps_with, room_within}
use Rattle.node_file.specs.declared.record.Record.{Record}
use Rattle.node_file.specs.declared.record.Record.TheVariants.{Life, Object}
use Rattle.node_file.specs.Record.{IsRecord, payload}
use Rattle.node_file.specs.Fold.{Contents, may_follow, no_contents, with_record}
use Rattle.node_file.specs.File.{FileState, gated, record_size, state_with}
use Rattle.node_file.specs.Batch.{EachFollows, batch_size, state_with_all}
use Rattle.node_file.specs.Hosted.{CanTake}
use Rattle.node_file.specs.Refusal.{is_too_long_with, most_file}
use Rattle.node_file.specs.Stored.{object_record, record_under}
use Rattle.node_file.proofs.Appending.{spelled_size}
use Rattle.node_hosted.specs.Hosting.{FitsInFile, kept_in}
use Rattle.node_hosted.specs.HostFile.{AreNext, HasAllOf, IsKnownTo, newest_under}
use Rattle.node_hosted.proofs.Having.{has_itself, onwards, with_life, with_object_held}
use Rattle.node_hosted.proofs.Knowing.{put_known}
use Rattle.node_hosted.proofs.Spelling.{size-push}

-- ---- what a file has with one record more

with_one : (s : FileState) (records : List Record) (r : Record) → state_with_all s (records ++ r ∷ []) ≡ state_with (state_with_all s records) r
with_one s records r =
    ap (λ (c : Contents). record { version = s.version; node = s.node; contents = c }) (fold-append with_record s.contents records (r ∷ []))

follows_more : (c : Contents) (records : List Record) (r : Record) → EachFollows c records → may_follow (fold with_record c records) r ≡ true
    → EachFollows c (records ++ r ∷ [])
follows_more c [] r follow may = (may, tt)
follows_more c (q ∷ records) r follow may = (follow.0, follows_more (with_record c q) records r follow.1 may)

-- what is stored, with an object that is held
with_held : (held stored : Table) (key : Key) (o : List Entry) → find key_cmp key held ≡ Some o → IsKnownTo held stored
    → IsKnownTo held (with_object key o stored)
with_held held stored key o is known =
    let row = found_row key held o known.held_is_table.held known.held_is_table.keys is in
    let there : find key_cmp key held ≢ None = λ none. let clash : Some o ≡ None = sym is ∙ none in absurd (cc) in
    let room = room_within stored held key (subst T (sym known.stored_is_table.rising) tt) known.held_is_table known.keys there in
    let same : object_at held key ≡ o = ap (λ (found : Option (List Entry)). unwrap_or found []) is in
    record {
      held_is_table = known.held_is_table;
      stored_is_table = table_put key o stored known.stored_is_table row.key row.held room;
      keys = keeps_with stored held key o known.keys there;
      events =
          put_known stored held key o known.events
          (subst (λ (p : List Entry). descends (join (object_at held key)) (join p) ≡ true) same (descends_itself held known.held_is_table key));
    }

-- ---- the records that are next

-- none
pub none_next : (s : FileState) (n : NodeParts) → s.version ≡ 2 → IsKnownTo n.table s.contents.table → s.contents.life ≡ n.incarnation → AreNext s n []
none_next s n two known life = record {
  can_take = record { version = two; lawful = All-nil IsRecord; follow = tt; room = known.stored_is_table.few };
  has_all = has_itself s known.stored_is_table;
  known = known;
  life = life;
}

-- that of a life alone
pub life_next : (s : FileState) (n : NodeParts) (life : ℕ) → CanTake s (Life life) → IsKnownTo n.table s.contents.table → life ≡ n.incarnation
    → AreNext s n (Life life ∷ [])
life_next s n life can known is = record {
  can_take = record {
    version = can.version;
    lawful = All-cons IsRecord (Life life) [] can.lawful (All-nil IsRecord);
    follow = (can.follows, tt);
    room = can.room;
  };
  has_all = with_life s life can.follows known.stored_is_table;
  known = known;
  life = is;
}

-- these records, and more behind them
pub record GoOn (s : FileState) (n : NodeParts) (records more : List Record) : Type 0 where
  pub next : AreNext s n (records ++ more)
  pub adds : HasAllOf (state_with_all s records) (state_with_all s (records ++ more))

nothing_more : (s : FileState) (n : NodeParts) (records : List Record) → AreNext s n records → GoOn s n records []
nothing_more s n records next =
    let same = append-nil records in record {
      next = subst (AreNext s n) (sym same) next;
      adds =
          subst (λ (rs : List Record). HasAllOf (state_with_all s records) (state_with_all s rs)) (sym same)
          (has_itself (state_with_all s records) next.known.stored_is_table);
    }

-- that of an object that is held
held_next : (s : FileState) (n : NodeParts) (records : List Record) (key : Key) (o : List Entry) → find key_cmp key n.table ≡ Some o
    → IsTable s.contents.table → AreNext s n records → GoOn s n records (Object key o ∷ [])
held_next s n records key o is rows next =
    let one = Object key o in
    let t = state_with_all s records in
    let row = found_row key n.table o next.known.held_is_table.held next.known.held_is_table.keys is in
    let known = with_held n.table t.contents.table key o is next.known in
    let more = with_object_held n.table t key o is next.known in
    let same = with_one s records one in
    record {
      next = record {
        can_take = record {
          version = next.can_take.version;
          lawful = All-append IsRecord records (one ∷ []) next.can_take.lawful (All-cons IsRecord one [] (row.key, row.held) (All-nil IsRecord));
          follow = follows_more s.contents records one next.can_take.follow refl;
          room = subst (λ (u : FileState). length u.contents.table ≤ most_keys) (sym same) known.stored_is_table.few;
        };
        has_all = subst (HasAllOf s) (sym same) (onwards s t (state_with t one) rows next.has_all more);
        known = subst (λ (u : FileState). IsKnownTo n.table u.contents.table) (sym same) known;
        life = ap (λ (u : FileState). u.contents.life) same ∙ next.life;
      };
      adds = subst (HasAllOf t) (sym same) more;
    }

next_under : (gate : ℕ) (s : FileState) (n : NodeParts) (records : List Record) (key : Key) (found : Option (List Entry))
    → find key_cmp key n.table ≡ found → IsTable s.contents.table → AreNext s n records
    → GoOn s n records (kept_in (Some gate) (object_record key found))
next_under gate s n records key None is rows next = nothing_more s n records next
next_under gate s n records key (Some o) is rows next = held_next s n records key o is rows next

-- that of what is held under the key, if there is one
pub next_of : (gate : ℕ) (s : FileState) (n : NodeParts) (records : List Record) (asked : Option Key) → IsTable s.contents.table
    → AreNext s n records → GoOn s n records (kept_in (Some gate) (record_under asked n.table))
next_of gate s n records None rows next = nothing_more s n records next
next_of gate s n records (Some key) rows next = next_under gate s n records key (find key_cmp key n.table) refl rows next

-- ---- the newest of a key

pub found_here : (key : Key) (o : List Entry) (table : Table) → find key_cmp key (with_object key o table) ≡ Some o
found_here key o table =
    find-put key_cmp key_total key key o table
    ∙ ap (λ c. cond (is_eq c) (Some o) (find key_cmp key table)) (tied_itself key_total key)

pub newest_last : (key : Key) (o : List Entry) (records : List Record) → newest_under key (records ++ Object key o ∷ []) ≡ Some o
newest_last key o records =
    ap (λ (c : Contents). find key_cmp key c.table) (fold-append with_record no_contents records (Object key o ∷ []))
    ∙ found_here key o (fold with_record no_contents records).table

-- what the one has under the key, the other has too
abbrev HasSame : Key → Table → Table → Type 0
HasSame key one other = (o : List Entry) → find key_cmp key one ≡ Some o → find key_cmp key other ≡ Some o

by_place : (b : Bool) (p : Option (List Entry)) (one other : Option (List Entry)) (o : List Entry) → (one ≡ Some o → other ≡ Some o)
    → cond b p one ≡ Some o → cond b p other ≡ Some o
by_place true p one other o same is = is
by_place false p one other o same is = same is

put_same : (key k : Key) (p : List Entry) (one other : Table) → HasSame key one other → HasSame key (with_object k p one) (with_object k p other)
put_same key k p one other same o is =
    find-put key_cmp key_total key k p other
    ∙ by_place (is_eq (key_cmp key k)) (Some p) (find key_cmp key one) (find key_cmp key other) o (same o)
    (sym (find-put key_cmp key_total key k p one) ∙ is)

with_same : (key : Key) (one other : Contents) (records : List Record) → HasSame key one.table other.table
    → HasSame key (fold with_record one records).table (fold with_record other records).table
with_same key one other [] same = same
with_same key one other (Life n ∷ records) same = with_same key (with_record one (Life n)) (with_record other (Life n)) records same
with_same key one other (Object k p ∷ records) same =
    with_same key (with_record one (Object k p)) (with_record other (Object k p)) records (put_same key k p one.table other.table same)

-- a file has it once it has the records
pub newest_there : (key : Key) (o : List Entry) (s : FileState) (records : List Record) → newest_under key records ≡ Some o
    → find key_cmp key (state_with_all s records).contents.table ≡ Some o
newest_there key o s records is =
    with_same key no_contents s.contents records (λ p none. let clash : None ≡ Some p = none in absurd (cc)) o is

-- ---- their size

-- behind the gate after the others there is room for one more
pub fits_more : (gate : ℕ) (records : List Record) (r : Record) (bytes : List ℕ) → gate + batch_size records + length bytes ≤ most_file
    → bytes ≡ gated r → FitsInFile (Some gate) (records ++ r ∷ [])
unfolding record_size
fits_more gate records r bytes fits is = omega (arith, fits, size-push records r, spelled_size r bytes is)

longer : (a b : ℕ) → nat_lt a b ≡ true → a < b
longer a b e = grind (arith, nat_tests)

-- what has room isn't too long
pub has_room : (gate : ℕ) (r : Record) (bytes : List ℕ) → gate + length bytes ≤ most_file → bytes ≡ gated r → is_too_long_with gate r ≡ true → ⊥
has_room gate r bytes fits is long =
    absurd (omega (arith, fits, spelled_size r bytes is, longer most_file (gate + 38 + length (payload r)) long))
