-- A file of one record, or of none.
use Rattle.std.proofs.Common.{◌≡◌, ◌≢◌, ℕ, zero, suc, ◌+◌, ◌<◌, ◌≤◌, List, [], ◌∷◌, ◌++◌, length, take, drop, Option, Some, None, Bool, true, false, cond, Result, Ok, Err, refl, sym, ◌∙◌, ap, arith, length-append}
use Rattle.std.proofs.lemmas.List.{take_at, drop_at}
use Rattle.meta_types.specs.Name.{Key}
use Rattle.dvvset.specs.Object.{Entry}
use Rattle.meta_store.specs.Table.{Table}
use Rattle.node_file.specs.declared.fault.FileFault.{FileFault}
use Rattle.node_file.specs.declared.fault.FileFault.TheVariants.{Damaged, OtherNode}
use Rattle.node_file.specs.declared.record.Record.{Record}
use Rattle.node_file.specs.declared.record.Record.TheVariants.{Life, Object}
use Rattle.node_file.specs.Record.{record_in}
use Rattle.node_file.specs.Fold.{Contents, contents_from, fold_records, may_follow_life, no_contents, with_record}
use Rattle.node_file.specs.File.{FileState, ended, for_node, front_in, is_other, opened}
use Rattle.file_pieces.specs.Alone.{IsFront, IsSaid, file_alone, front_or_zeros, node_in, version_in}
use Rattle.file_pieces.specs.Framing.{IsFramed, IsShut}
use Rattle.file_pieces.specs.Progress.{ReadSoFar, moved_on, told_of, with_said}
use Rattle.file_pieces.proofs.Framing.{at_least, not_below}
use Rattle.file_pieces.proofs.Turns.{ends_well, fails_framed, takes_said}

-- ---- behind a front

abbrev begun : ℕ × ℕ → ReadSoFar
begun head = record { version = head.0; node = head.1; contents = no_contents; has_too_many = false; at = 10 }

some_bytes : (rest : List ℕ) → rest ≢ [] → 1 ≤ length rest
some_bytes [] some = absurd (some refl)
some_bytes (b ∷ rest) some = omega arith

opened_behind : (asked : Option ℕ) (front rest : List ℕ) → length front ≡ 10 → rest ≢ [] → opened asked (front ++ rest) ≡ for_node asked (10 + length rest) rest (front_in front)
unfolding opened
opened_behind asked front rest ten some =
    let total : length (front ++ rest) ≡ 10 + length rest = omega (arith, ten, length-append front rest) in
    ap (λ (t : Bool). cond t (Err (Damaged (length (front ++ rest)))) (for_node asked (length (front ++ rest)) (drop 10 (front ++ rest)) (front_in (take 10 (front ++ rest))))) (not_below (length (front ++ rest)) 11 (omega (arith, total, some_bytes rest some)))
    ∙ ap (λ (n : ℕ). for_node asked n (drop 10 (front ++ rest)) (front_in (take 10 (front ++ rest)))) total
    ∙ ap (λ (l : List ℕ). for_node asked (10 + length rest) l (front_in (take 10 (front ++ rest)))) (drop_at front rest 10 ten)
    ∙ ap (λ (l : List ℕ). for_node asked (10 + length rest) rest (front_in l)) (take_at front rest 10 ten)

told_begun : (head : ℕ × ℕ) (rest : List ℕ) → ended (10 + length rest) head (contents_from head.0 no_contents 0 rest) ≡ told_of (begun head) rest
unfolding told_of
told_begun head rest = refl

-- ---- a front alone

pub record IsBegun (asked : Option ℕ) (front : List ℕ) (node : ℕ) : Type 0 where
  pub front_is : IsFront front
  pub node_is : node ≡ node_in front
  pub tells : (rest : List ℕ) → rest ≢ [] → opened asked (front ++ rest) ≡ told_of (begun (version_in front, node_in front)) rest

no_list : (b : ℕ) → b ∷ [] ≢ []
no_list b e = cc

lone : (head : ℕ × ℕ) → ended 11 head (contents_from head.0 no_contents 0 (0 ∷ [])) ≡ Ok (record { version = head.0; node = head.1; contents = no_contents }, 10)
unfolding contents_from fold_records
lone head = refl

abbrev file_ok : FileState × ℕ → Result (FileState × ℕ) FileFault
file_ok o = Ok o

ok_is : (x y : FileState × ℕ) → file_ok x ≡ file_ok y → x ≡ y
ok_is x y e = cc

abbrev file_err : FileFault → Result (FileState × ℕ) FileFault
file_err fault = Err fault

err_is : (x y : FileFault) → file_err x ≡ file_err y → x ≡ y
err_is x y e = cc

no_err : (x : FileState × ℕ) (fault : FileFault) → file_ok x ≡ file_err fault → ⊥
no_err x fault e = cc

begins_by : (asked : Option ℕ) (front : List ℕ) (head : Result (ℕ × ℕ) FileFault) (s : FileState) (gate : ℕ) → length front ≡ 10 → front_in front ≡ head → for_node asked 11 (0 ∷ []) head ≡ Ok (s, gate) → IsBegun asked front s.node
begins_by asked front (Err fault) s gate ten is e = absurd (no_err (s, gate) fault (sym e))
begins_by asked front (Ok head) s gate ten is e = of_head (is_other asked head.1) refl
  where
    made : (front_in front ≡ Ok head) → front_in front ≡ Ok (version_in front, node_in front)
    made h = h ∙ ap (λ (r : Result (ℕ × ℕ) FileFault). Ok (front_or_zeros r)) (sym h)

    behind : (other : Bool) → is_other asked head.1 ≡ other → (total : ℕ) (rest : List ℕ) → for_node asked total rest (Ok head) ≡ cond other (Err OtherNode) (ended total head (contents_from head.0 no_contents 0 rest))
    behind other o total rest = ap (λ (t : Bool). cond t (Err OtherNode) (ended total head (contents_from head.0 no_contents 0 rest))) o

    of_head : (other : Bool) → is_other asked head.1 ≡ other → IsBegun asked front s.node
    of_head true o = absurd (no_err (s, gate) OtherNode (sym e ∙ behind true o 11 (0 ∷ [])))
    of_head false o =
        let same : (record { version = head.0; node = head.1; contents = no_contents }, 10) ≡ (s, gate) = ok_is (record { version = head.0; node = head.1; contents = no_contents }, 10) (s, gate) (sym (lone head) ∙ sym (behind false o 11 (0 ∷ [])) ∙ e) in
        record {
          front_is = record { size = ten; lawful = made is };
          node_is = ap (λ (x : FileState × ℕ). x.0.node) (sym same) ∙ ap (λ (r : Result (ℕ × ℕ) FileFault). (front_or_zeros r).1) (sym is);
          tells = λ rest some. opened_behind asked front rest ten some
              ∙ ap (for_node asked (10 + length rest) rest) is
              ∙ behind false o (10 + length rest) rest
              ∙ told_begun head rest
              ∙ ap (λ (r : Result (ℕ × ℕ) FileFault). told_of (begun (front_or_zeros r)) rest) (sym is);
        }

pub same_begun : (v w n m : ℕ) (table : Table) → w ≡ v → m ≡ n → table ≡ [] → (rest : List ℕ) → told_of (begun (v, n)) rest ≡ told_of (record { version = w; node = m; contents = record { life = 0; table = table }; has_too_many = false; at = 10 }) rest
same_begun v w n m table version node empty rest = λ i. told_of (record { version = sym version i; node = sym node i; contents = record { life = 0; table = sym empty i }; has_too_many = false; at = 10 }) rest

-- of a front that opens with a closed gate behind it
pub begins : (asked : Option ℕ) (front : List ℕ) (s : FileState) (gate : ℕ) → length front ≡ 10 → opened asked (file_alone front []) ≡ Ok (s, gate) → IsBegun asked front s.node
begins asked front s gate ten e = begins_by asked front (front_in front) s gate ten refl (sym (opened_behind asked front (0 ∷ []) ten (no_list 0)) ∙ e)

refused_by : (asked : Option ℕ) (rest : List ℕ) (total : ℕ) (head : Result (ℕ × ℕ) FileFault) (fault : FileFault) → for_node asked 11 (0 ∷ []) head ≡ Err fault → for_node asked total rest head ≡ Err fault
refused_by asked rest total (Err other) fault e = ap (λ (x : FileFault). file_err x) (err_is other fault e)
refused_by asked rest total (Ok head) fault e = of_head (is_other asked head.1) refl
  where
    behind : (other : Bool) → is_other asked head.1 ≡ other → (total : ℕ) (rest : List ℕ) → for_node asked total rest (Ok head) ≡ cond other (Err OtherNode) (ended total head (contents_from head.0 no_contents 0 rest))
    behind other o total rest = ap (λ (t : Bool). cond t (Err OtherNode) (ended total head (contents_from head.0 no_contents 0 rest))) o

    of_head : (other : Bool) → is_other asked head.1 ≡ other → for_node asked total rest (Ok head) ≡ Err fault
    of_head true o = behind true o total rest ∙ sym (behind true o 11 (0 ∷ [])) ∙ e
    of_head false o = absurd (no_err (record { version = head.0; node = head.1; contents = no_contents }, 10) fault (sym (lone head) ∙ sym (behind false o 11 (0 ∷ [])) ∙ e))

-- of one that is refused
pub begins_badly : (asked : Option ℕ) (front : List ℕ) (fault : FileFault) → length front ≡ 10 → opened asked (file_alone front []) ≡ Err fault → (rest : List ℕ) → rest ≢ [] → opened asked (front ++ rest) ≡ Err fault
begins_badly asked front fault ten e rest some =
    opened_behind asked front rest ten some
    ∙ refused_by asked rest (10 + length rest) (front_in front) fault (sym (opened_behind asked front (0 ∷ []) ten (no_list 0)) ∙ e)

-- ---- one record

pub record HasSaid (read : Option (Record × ℕ)) (c : Contents) : Type 0 where
  pub said : Record
  pub size : ℕ
  pub is : read ≡ Some (said, size)
  pub follows : may_follow_life 0 said ≡ true
  pub makes : c ≡ with_record no_contents said

told_none : (head : ℕ × ℕ) (rest : List ℕ) → for_node None (10 + length rest) rest (Ok head) ≡ told_of (begun head) rest
unfolding told_of
told_none head rest = refl

opens_as_told : (front rest : List ℕ) → IsFront front → rest ≢ [] → opened None (front ++ rest) ≡ told_of (begun (version_in front, node_in front)) rest
opens_as_told front rest is some =
    opened_behind None front rest is.size some
    ∙ ap (for_node None (10 + length rest) rest) is.lawful
    ∙ told_none (version_in front, node_in front) rest

not_empty : (a : List ℕ) (b : ℕ) → a ++ b ∷ [] ≢ []
not_empty [] b e = cc
not_empty (x ∷ a) b e = cc

shut : IsShut (0 ∷ [])
shut = record { some = omega arith; shut = λ e. cc }

few_with : (said : Record) → length (with_record no_contents said).table ≤ 8192
few_with (Life n) = omega arith
few_with (Object k o) = omega arith

-- what is read first makes its contents of nothing
first_said : (head : ℕ × ℕ) (said : Record) (n : ℕ) → moved_on (with_said (begun head) said) n ≡ record { version = head.0; node = head.1; contents = with_record no_contents said; has_too_many = false; at = 10 + n }
first_said head (Life m) n = refl
first_said head (Object k o) n = refl

of_first : (head : ℕ × ℕ) (bytes : List ℕ) (said : Record) (size : ℕ) → IsFramed bytes → record_in head.0 (drop 1 bytes) ≡ Some (said, size) → may_follow_life 0 said ≡ true → told_of (begun head) (bytes ++ 0 ∷ []) ≡ Ok (record { version = head.0; node = head.1; contents = with_record no_contents said }, 10 + length bytes)
of_first head bytes said size framed is follows =
    let after : ReadSoFar = record { version = head.0; node = head.1; contents = with_record no_contents said; has_too_many = false; at = 10 + length bytes } in
    sym (takes_said (begun head) bytes (0 ∷ []) said size framed is follows refl)
    ∙ ap (λ (p : ReadSoFar). told_of p (0 ∷ [])) (first_said head said (length bytes))
    ∙ ends_well after (0 ∷ []) [] shut refl (few_with said)

of_none : (head : ℕ × ℕ) (bytes : List ℕ) → IsFramed bytes → ((said : Record) (size : ℕ) → record_in head.0 (drop 1 bytes) ≡ Some (said, size) → may_follow_life 0 said ≡ false) → told_of (begun head) (bytes ++ 0 ∷ []) ≡ Err (Damaged 10)
of_none head bytes framed strays = fails_framed (begun head) bytes (0 ∷ []) framed strays

bool_cases : (P : Type 0) (t : Bool) → (t ≡ true → P) → (t ≡ false → P) → P
bool_cases P true = λ yes no. yes refl
bool_cases P false = λ yes no. no refl

some_said : (r q : Record × ℕ) → Some r ≡ Some q → r ≡ q
some_said r q e = cc

-- what the only record said, if it opens
said_by : (head : ℕ × ℕ) (bytes : List ℕ) (read : Option (Record × ℕ)) (s : FileState) (gate : ℕ) → IsFramed bytes → record_in head.0 (drop 1 bytes) ≡ read → told_of (begun head) (bytes ++ 0 ∷ []) ≡ Ok (s, gate) → HasSaid read s.contents
said_by head bytes None s gate framed is e = absurd (no_err (s, gate) (Damaged 10) (sym e ∙ of_none head bytes framed (λ said size some. cc)))
said_by head bytes (Some r) s gate framed is e =
    bool_cases (HasSaid (Some r) s.contents) (may_follow_life 0 r.0)
    (λ follows.
    let same : (record { version = head.0; node = head.1; contents = with_record no_contents r.0 }, 10 + length bytes) ≡ (s, gate) = ok_is (record { version = head.0; node = head.1; contents = with_record no_contents r.0 }, 10 + length bytes) (s, gate) (sym (of_first head bytes r.0 r.1 framed is follows) ∙ e) in
    record { said = r.0; size = r.1; is = refl; follows = follows; makes = ap (λ (x : FileState × ℕ). x.0.contents) (sym same) })
    (λ strays. absurd (no_err (s, gate) (Damaged 10) (sym e ∙ of_none head bytes framed (λ said size some.
    ap (λ (x : Record × ℕ). may_follow_life 0 x.0) (some_said (said, size) r (sym some ∙ is)) ∙ strays))))

pub says_alone : (front bytes : List ℕ) (s : FileState) (gate : ℕ) → IsFront front → IsFramed bytes → opened None (file_alone front bytes) ≡ Ok (s, gate) → HasSaid (record_in (version_in front) (drop 1 bytes)) s.contents
says_alone front bytes s gate front_is framed e =
    said_by (version_in front, node_in front) bytes (record_in (version_in front) (drop 1 bytes)) s gate framed refl
    (sym (opens_as_told front (bytes ++ 0 ∷ []) front_is (not_empty bytes 0)) ∙ e)

zero_of : (said : Record) → may_follow_life 0 said ≡ false → said ≡ Life 0
zero_of (Life zero) strays = refl
zero_of (Life (suc n)) strays = absurd (omega (arith, at_least 0 (suc n) strays))
zero_of (Object k o) strays = absurd cc

-- if it doesn't open, it says nothing that may follow
pub says_nothing : (front bytes : List ℕ) (fault : FileFault) → IsFront front → IsFramed bytes → opened None (file_alone front bytes) ≡ Err fault → IsSaid (record_in (version_in front) (drop 1 bytes)) None
says_nothing front bytes fault front_is framed e said size is =
    let head : ℕ × ℕ = (version_in front, node_in front) in
    bool_cases (said ≡ Life 0) (may_follow_life 0 said)
    (λ follows. absurd (no_err (record { version = head.0; node = head.1; contents = with_record no_contents said }, 10 + length bytes) fault
    (sym (of_first head bytes said size framed is follows) ∙ sym (opens_as_told front (bytes ++ 0 ∷ []) front_is (not_empty bytes 0)) ∙ e)))
    (zero_of said)

-- it says a life if the last life is one
pub said_life : (read : Option (Record × ℕ)) (c : Contents) (life : ℕ) → HasSaid read c → c.life ≡ life → 0 < life → IsSaid read (Some (Life life))
said_life read c life has is some = of_said has.said has.makes has.is
  where
    of_said : (said : Record) → c ≡ with_record no_contents said → read ≡ Some (said, has.size) → IsSaid read (Some (Life life))
    of_said (Life n) makes r = (has.size, r ∙ ap (λ (m : ℕ). Some (Life m, has.size)) (sym (ap (λ (x : Contents). x.life) makes) ∙ is))
    of_said (Object k o) makes r = absurd (omega (arith, some, is, ap (λ (x : Contents). x.life) makes))

pub record IsRow (read : Option (Record × ℕ)) (table : Table) : Type 0 where
  pub key : Key
  pub object : List Entry
  pub size : ℕ
  pub says : read ≡ Some (Object key object, size)
  pub row : table ≡ (key, object) ∷ []

-- and else an object, the table's only one
pub said_object : (read : Option (Record × ℕ)) (c : Contents) → HasSaid read c → c.life ≡ 0 → IsRow read c.table
said_object read c has is = of_said has.said has.makes has.is has.follows
  where
    of_said : (said : Record) → c ≡ with_record no_contents said → read ≡ Some (said, has.size) → may_follow_life 0 said ≡ true → IsRow read c.table
    of_said (Life zero) makes r follows = absurd cc
    of_said (Life (suc n)) makes r follows = absurd (omega (arith, is, ap (λ (x : Contents). x.life) makes))
    of_said (Object k o) makes r follows = record { key = k; object = o; size = has.size; says = r; row = ap (λ (x : Contents). x.table) makes }
