-- A file that is made, and one that is opened.
use Rattle.std.proofs.Common.{◌≡◌, ◌⊎◌, inl, inr, nat_lt, Some, ℕ, ◌<◌, List, [], length, take, drop, Option, None, Result, Ok, Err, Bool, true, false, cond, refl, sym, ◌∙◌, ap, arith, eqb, ◌-◌}
use Rattle.std.specs.Int.{w16, from_be_bytes, to_be_bytes}
use Rattle.std.proofs.lemmas.Nat.{from_be_bytes-to_be_bytes_2}
use Rattle.node_file.specs.declared.fault.FileFault.{FileFault}
use Rattle.node_file.specs.Fold.{Contents, contents_from, may_follow, no_contents, with_record}
use Rattle.node_file.specs.File.{FileState, empty_file, ended, file_state, for_node, front_in, front_of, is_other, magic, old_magic, opened, state_or_none}
use Rattle.node_file.specs.Refusal.{refusal_of_life, refusal_of_serve}
use Rattle.node_file.specs.View.{FileView, IsSettled}
use Rattle.std.specs.Str.{bytes_eq}
use Rattle.std.proofs.lemmas.Bool.{eq-eqb, eqb-true}
use Rattle.meta_store.specs.Table.{most_keys}
use Rattle.meta_store.specs.declared.fault.StoreFault.TheVariants.{StoreFull}
use Rattle.devices.specs.Device.{IsDurable}
use Rattle.node_file.proofs.Folding.{closed}
use Rattle.node_file.proofs.Parting.{not_below, head_read}

-- who asks for its own node gets what anyone gets
for_any : (asked : Option ℕ) (total : ℕ) (rest : List ℕ) (head : Result (ℕ × ℕ) FileFault) (o : FileState × ℕ) → for_node asked total rest head ≡ Ok o → for_node None total rest head ≡ Ok o
for_any asked total rest (Err fault) o e = absurd cc
for_any asked total rest (Ok h) o e = same (is_other asked h.1) e
  where
    same : (b : Bool) → cond b (Err FileFault.OtherNode) (ended total h (contents_from h.0 no_contents 0 rest)) ≡ Ok o → ended total h (contents_from h.0 no_contents 0 rest) ≡ Ok o
    same true e = absurd cc
    same false e = e

pub any_asked : (asked : Option ℕ) (bytes : List ℕ) (o : FileState × ℕ) → opened asked bytes ≡ Ok o → opened None bytes ≡ Ok o
unfolding opened
any_asked asked bytes o e = short (Rattle.std.specs.Prelude.nat_lt (length bytes) 11) e
  where
    short : (b : Bool) → cond b (Err (FileFault.Damaged (length bytes))) (for_node asked (length bytes) (drop 10 bytes) (front_in (take 10 bytes))) ≡ Ok o → cond b (Err (FileFault.Damaged (length bytes))) (for_node None (length bytes) (drop 10 bytes) (front_in (take 10 bytes))) ≡ Ok o
    short true e = absurd cc
    short false e = for_any asked (length bytes) (drop 10 bytes) (front_in (take 10 bytes)) o e

ended_node : (total : ℕ) (front : ℕ × ℕ) (read : Result (Contents × ℕ) ℕ) (o : FileState × ℕ) → ended total front read ≡ Ok o → o.0.node ≡ front.1
ended_node total front (Err left) o e = absurd cc
ended_node total front (Ok read) o e = full (nat_lt most_keys (length read.0.table)) e
  where
    full : (b : Bool) → cond b (Err (FileFault.Store StoreFull)) (Ok (record { version = front.0; node = front.1; contents = read.0 }, total - read.1)) ≡ Ok o → o.0.node ≡ front.1
    full true e = absurd cc
    full false e = ap (λ (r : Result (FileState × ℕ) FileFault). (state_or_none r).node) (sym e)

asked_node : (node total : ℕ) (rest : List ℕ) (head : Result (ℕ × ℕ) FileFault) (o : FileState × ℕ) → for_node (Some node) total rest head ≡ Ok o → o.0.node ≡ node
asked_node node total rest (Err fault) o e = absurd cc
asked_node node total rest (Ok h) o e = same (eqb node h.1) refl e
  where
    same : (b : Bool) → eqb node h.1 ≡ b → cond (cond b false true) (Err FileFault.OtherNode) (ended total h (contents_from h.0 no_contents 0 rest)) ≡ Ok o → o.0.node ≡ node
    same true is e = ended_node total h (contents_from h.0 no_contents 0 rest) o e ∙ sym (eqb-true node h.1 is)
    same false is e = absurd cc

-- who asks for a node gets that one
pub of_asked : (node : ℕ) (bytes : List ℕ) (o : FileState × ℕ) → opened (Some node) bytes ≡ Ok o → o.0.node ≡ node
unfolding opened
of_asked node bytes o e = short (nat_lt (length bytes) 11) e
  where
    short : (b : Bool) → cond b (Err (FileFault.Damaged (length bytes))) (for_node (Some node) (length bytes) (drop 10 bytes) (front_in (take 10 bytes))) ≡ Ok o → o.0.node ≡ node
    short true e = absurd cc
    short false e = asked_node node (length bytes) (drop 10 bytes) (front_in (take 10 bytes)) o e

abbrev pub fresh : ℕ → FileState
fresh node = record { version = 2; node = node; contents = no_contents }

-- an empty file that was made for a node opens for whoever may ask for that one
made_for : (asked : Option ℕ) (node : ℕ) → node < 16 → is_other asked node ≡ false → opened asked (empty_file node) ≡ Ok (fresh node, 10)
unfolding opened front_in contents_from
made_for asked node lt same =
    let number : from_be_bytes w16 (to_be_bytes w16 node) ≡ node = from_be_bytes-to_be_bytes_2 node (omega (arith, lt)) in
    rw (number, not_below 15 node (omega (arith, lt)), same, closed may_follow with_record 2 no_contents 0 [] (omega arith)) refl

pub made : (node : ℕ) → node < 16 → opened None (empty_file node) ≡ Ok (fresh node, 10)
made node lt = made_for None node lt refl

-- and is served
pub serves : (node : ℕ) → node < 16 → refusal_of_serve (Some node) (empty_file node) ≡ None
serves node lt = ap refusal_of_life (made_for (Some node) node lt (rw (eq-eqb node node refl) refl))

pub made_stands : (node : ℕ) → node < 16 → file_state (empty_file node) ≡ fresh node
made_stands node lt = ap state_or_none (made node lt)

-- a file that opens stands for what it opens to
pub stands_so : (bytes : List ℕ) (s : FileState) (end : ℕ) → opened None bytes ≡ Ok (s, end) → file_state bytes ≡ s
stands_so bytes s end is = ap state_or_none is

pub opens_so : (bytes : List ℕ) (s : FileState) (end : ℕ) → opened None bytes ≡ Ok (s, end) → opened None bytes ≡ Ok (file_state bytes, end)
opens_so bytes s end is = is ∙ ap (λ (t : FileState). Ok (t, end)) (sym (stands_so bytes s end is))

-- the same, also for who asks for a node
pub asked_so : (asked : Option ℕ) (bytes : List ℕ) (s : FileState) (end : ℕ) → opened asked bytes ≡ Ok (s, end) → opened asked bytes ≡ Ok (file_state bytes, end)
asked_so asked bytes s end is = is ∙ ap (λ (t : FileState). Ok (t, end)) (sym (stands_so bytes s end (any_asked asked bytes (s, end) is)))

-- a node's file is settled that has what its device's bytes stand for
pub settle : {D : Type 0} (seen : D → List ℕ) (may_leave : D → List ℕ → Type 0) (file : FileView D) (s : FileState) → opened None (seen file.device) ≡ Ok (s, file.gate) → s.node ≡ file.node → s.contents.life ≡ file.life → (file.is_served ≡ true → s.version ≡ 2) → IsDurable (seen file.device) (may_leave file.device) → IsSettled seen may_leave file
settle seen may_leave file s is node life served durable =
    let stands = stands_so (seen file.device) s file.gate is in
    record {
      opens = opens_so (seen file.device) s file.gate is;
      node = ap (λ (x : FileState). x.node) stands ∙ node;
      life = ap (λ (x : FileState). x.contents.life) stands ∙ life;
      served = λ h. ap (λ (x : FileState). x.version) stands ∙ served h;
      durable = durable;
    }

-- there are two versions
abbrev head_ok : ℕ × ℕ → Result (ℕ × ℕ) FileFault
head_ok h = Ok h

pair_is : (x y : ℕ × ℕ) → head_ok x ≡ head_ok y → x ≡ y
pair_is x y e = cc

version_is : (far : Bool) (v version node n : ℕ) → cond far (Err (FileFault.Damaged 8)) (head_ok (v, node)) ≡ head_ok (version, n) → v ≡ version
version_is true v version node n e = absurd cc
version_is false v version node n e = ap (λ (h : ℕ × ℕ). h.0) (pair_is (v, node) (version, n) e)

of_tests : (new old : Bool) (node version n : ℕ) → front_of (cond new (Some 2) (cond old (Some 1) None)) node ≡ head_ok (version, n) → (version ≡ 1) ⊎ (version ≡ 2)
of_tests true old node version n e = inr (sym (version_is (nat_lt 15 node) 2 version node n e))
of_tests false true node version n e = inl (sym (version_is (nat_lt 15 node) 1 version node n e))
of_tests false false node version n e = absurd cc

of_head : (head : List ℕ) (version n : ℕ) → front_in head ≡ head_ok (version, n) → (version ≡ 1) ⊎ (version ≡ 2)
unfolding front_in
of_head head version n e = of_tests (bytes_eq (take 8 head) magic) (bytes_eq (take 8 head) old_magic) (from_be_bytes w16 (drop 8 head)) version n e

pub versions : (bytes : List ℕ) (s : FileState) (end : ℕ) → opened None bytes ≡ Ok (s, end) → (s.version ≡ 1) ⊎ (s.version ≡ 2)
versions bytes s end e = of_head (take 10 bytes) s.version s.node (head_read bytes s end e)
