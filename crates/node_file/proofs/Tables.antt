-- A table that is written key by key, in order.
use Rattle.std.proofs.Common.{◌≡◌, ℕ, ◌+◌, ◌*◌, ◌≤◌, Bool, true, false, T, ◌&&◌, List, [], ◌∷◌, ◌++◌, length, All, None, Ok, sym, subst, ap, ◌∙◌, refl, arith, append_assoc, length-append}
use Rattle.std.specs.Bool.{passes}
use Rattle.std.specs.Ordering.{is_lt}
use Rattle.std.specs.FinMap.{is_sorted, put}
use Rattle.std.specs.FinMap.Entries.{below_all}
use Rattle.std.proofs.lemmas.List.{take_at, drop_at}
use Rattle.std.proofs.lemmas.List.Elements.{All-tail, All-take, All-drop}
use Rattle.meta_types.specs.Name.{Key}
use Rattle.meta_types.specs.Order.{key_cmp}
use Rattle.dvvset.specs.Object.{Entry}
use Rattle.meta_store.specs.Table.{IsHeld, Table, most_keys}
use Rattle.meta_store.proofs.Keys.{key_total}
use Rattle.meta_store.proofs.Maps.{put_last}
use Rattle.node_file.specs.declared.record.Record.TheVariants.{Object}
use Rattle.node_file.specs.File.{FileState, file_state, opened, state_with}
use Rattle.node_file.specs.Reads.{with_table}
use Rattle.node_file.proofs.Made.{opens_so, stands_so}

-- ---- a front of rows that rise

first_of : (a b : Bool) → (a && b) ≡ true → a ≡ true
first_of true b e = refl
first_of false b e = e

second_of : (a b : Bool) → (a && b) ≡ true → b ≡ true
second_of true b e = e
second_of false b e = absurd cc

both_of : (a b : Bool) → a ≡ true → b ≡ true → (a && b) ≡ true
both_of true b e f = f
both_of false b e f = e

front_below : (k : Key) (front rest : Table) → below_all key_cmp k (front ++ rest) ≡ true → below_all key_cmp k front ≡ true
front_below k [] rest below = refl
front_below k (row ∷ front) rest below =
    let first = is_lt (key_cmp k row.0) in
    both_of first (below_all key_cmp k front) (first_of first (below_all key_cmp k (front ++ rest)) below) (front_below k front rest (second_of first (below_all key_cmp k (front ++ rest)) below))

front_rises : (front rest : Table) → is_sorted key_cmp (front ++ rest) ≡ true → is_sorted key_cmp front ≡ true
front_rises [] rest rising = refl
front_rises (row ∷ front) rest rising =
    let below = below_all key_cmp row.0 (front ++ rest) in
    both_of (below_all key_cmp row.0 front) (is_sorted key_cmp front) (front_below row.0 front rest (first_of below (is_sorted key_cmp (front ++ rest)) rising)) (front_rises front rest (second_of below (is_sorted key_cmp (front ++ rest)) rising))

abbrev pub Held : Key × List Entry → Type 0
Held row = IsHeld row.1

-- the file that began as the old one was stands for a front of a table, whose rest is still to be
-- written behind the gate
pub record IsWritten (old now : List ℕ) (whole rest : Table) (gate : ℕ) : Type 0 where
  pub done : Table
  pub opens : opened None now ≡ Ok (with_table done (file_state old), gate)
  pub version : (file_state old).version ≡ 2
  pub together : done ++ rest ≡ whole
  pub rising : is_sorted key_cmp whole ≡ true
  pub few : length whole ≤ most_keys
  pub held : All Held rest
  pub short : gate ≤ 52 + 16777253 * length done

module _ {old now : List ℕ} {whole : Table} {gate : ℕ} where
  -- what the file stands for
  pub stands : {rest : Table} (w : IsWritten old now whole rest gate) → file_state now ≡ with_table w.done (file_state old)
  stands w = stands_so now (with_table w.done (file_state old)) gate w.opens

  pub opens_now : {rest : Table} (w : IsWritten old now whole rest gate) → opened None now ≡ Ok (file_state now, gate)
  opens_now w = opens_so now (with_table w.done (file_state old)) gate w.opens

  put_there : (k : Key) (o : List Entry) {rest : Table} (w : IsWritten old now whole ((k, o) ∷ rest) gate) → put key_cmp k o w.done ++ rest ≡ whole
  put_there k o {rest} w = put_last key_cmp key_total w.done k o rest (subst (λ t. T (is_sorted key_cmp t)) (sym w.together) (passes (is_sorted key_cmp whole) w.rising)) ∙ w.together

  -- there is room for the next key
  pub room_for_next : (k : Key) (o : List Entry) {rest : Table} (w : IsWritten old now whole ((k, o) ∷ rest) gate) → length (state_with (file_state now) (Object k o)).contents.table ≤ most_keys
  room_for_next k o {rest} w =
      let size : length (put key_cmp k o w.done) + length rest ≡ length whole = sym (length-append (put key_cmp k o w.done) rest) ∙ ap length (put_there k o w) in
      subst (λ (s : FileState). length (state_with s (Object k o)).contents.table ≤ most_keys) (sym (stands w)) (omega (arith, size, w.few))

  -- with its record it is written too
  pub next_written : (k : Key) (o : List Entry) {rest : Table} (w : IsWritten old now whole ((k, o) ∷ rest) gate) (later : List ℕ) (end : ℕ)
      → opened None later ≡ Ok (state_with (file_state now) (Object k o), end) → end ≤ gate + 16777253 → IsWritten old later whole rest end
  next_written k o {rest} w later end opens short =
      let size : length (put key_cmp k o w.done) ≡ length w.done + 1 =
      omega (arith, length-append (put key_cmp k o w.done) rest, ap length (put_there k o w), length-append w.done ((k, o) ∷ rest), ap length w.together) in
      record {
        done = put key_cmp k o w.done;
        opens = opens ∙ ap (λ (s : FileState). Ok (state_with s (Object k o), end)) (stands w);
        version = w.version;
        together = put_there k o w;
        rising = w.rising;
        few = w.few;
        held = All-tail Held (k, o) rest w.held;
        short = omega (arith, short, w.short, size);
      }

  -- the next rows are a front of the rest
  pub rows_held : (rows rest : Table) (w : IsWritten old now whole (rows ++ rest) gate) → All Held rows
  rows_held rows rest w = subst (All Held) (take_at rows rest (length rows) refl) (All-take Held (length rows) (rows ++ rest) w.held)

  pub rows_rise : (rows rest : Table) (w : IsWritten old now whole (rows ++ rest) gate) → is_sorted key_cmp ((file_state now).contents.table ++ rows) ≡ true
  rows_rise rows rest w =
      let whole_rises : is_sorted key_cmp ((w.done ++ rows) ++ rest) ≡ true = ap (is_sorted key_cmp) (append_assoc w.done rows rest ∙ w.together) ∙ w.rising in
      ap (λ (s : FileState). is_sorted key_cmp (s.contents.table ++ rows)) (stands w) ∙ front_rises (w.done ++ rows) rest whole_rises

  pub rows_few : (rows rest : Table) (w : IsWritten old now whole (rows ++ rest) gate) → length ((file_state now).contents.table ++ rows) ≤ most_keys
  rows_few rows rest w =
      let size : length (w.done ++ rows) + length rest ≡ length whole = sym (length-append (w.done ++ rows) rest) ∙ ap length (append_assoc w.done rows rest ∙ w.together) in
      subst (λ (s : FileState). length (s.contents.table ++ rows) ≤ most_keys) (sym (stands w)) (omega (arith, size, w.few))

  pub rows_written : (rows rest : Table) (w : IsWritten old now whole (rows ++ rest) gate) (later : List ℕ) (end : ℕ)
      → opened None later ≡ Ok (with_table ((file_state now).contents.table ++ rows) (file_state now), end) → end ≤ 52 + 16777253 * length (file_state later).contents.table → IsWritten old later whole rest end
  rows_written rows rest w later end opens short =
      let now_opens : opened None later ≡ Ok (with_table (w.done ++ rows) (file_state old), end) = opens ∙ ap (λ (s : FileState). Ok (with_table (s.contents.table ++ rows) s, end)) (stands w) in
      record {
        done = w.done ++ rows;
        opens = now_opens;
        version = w.version;
        together = append_assoc w.done rows rest ∙ w.together;
        rising = w.rising;
        few = w.few;
        held = subst (All Held) (drop_at rows rest (length rows) refl) (All-drop Held (length rows) (rows ++ rest) w.held);
        short = subst (λ (s : FileState). end ≤ 52 + 16777253 * length s.contents.table) (stands_so later (with_table (w.done ++ rows) (file_state old)) end now_opens) short;
      }
