-- A node is served again from its file.
use Rattle.std.proofs.Common.{◌≡◌, ◌⊎◌, ℕ, Bool, true, false, cond, List, length, take, drop, Option, Some, None, Result, Ok, Err, inl, inr, refl, sym, ap, subst, ◌∙◌, eqb, nat_lt, ◌-◌, ◌==◌, ◌+◌}
use Rattle.std.proofs.lemmas.Bool.{eq-eqb}
use Rattle.meta_store.specs.Table.{most_keys}
use Rattle.meta_store.specs.declared.fault.StoreFault.TheVariants.{StoreFull}
use Rattle.node_file.specs.declared.fault.FileFault.{FileFault}
use Rattle.node_file.specs.declared.record.Record.TheVariants.{Life}
use Rattle.node_file.specs.Fold.{Contents, contents_from, no_contents}
use Rattle.node_file.specs.File.{FileState, ended, file_state, for_node, front_in, opened, state_or_none}
use Rattle.node_file.specs.Refusal.{is_too_long_with, refusal_of_life}
use Rattle.node_hosted.specs.Hosting.{HostedParts}
use Rattle.node_hosted.specs.HostFile.{IsFileOf}
use Rattle.node_hosted.specs.Lasting.{CanBeServed}

-- what is read to its end is of the node in front
node_in_front : (total : ℕ) (front : ℕ × ℕ) (read : Result (Contents × ℕ) ℕ) (o : FileState × ℕ) → ended total front read ≡ Ok o → front.1 ≡ o.0.node
node_in_front total front (Err left) o e = absurd cc
node_in_front total front (Ok read) o e = few (nat_lt most_keys (length read.0.table)) e
  where
    few : (b : Bool) → cond b (Err (FileFault.Store StoreFull)) (Ok (record { version = front.0; node = front.1; contents = read.0 }, total - read.1)) ≡ Ok o → front.1 ≡ o.0.node
    few true e = absurd cc
    few false e = ap (λ (r : Result (FileState × ℕ) FileFault). (state_or_none r).node) e

for_own : (node total : ℕ) (rest : List ℕ) (front : Result (ℕ × ℕ) FileFault) (o : FileState × ℕ) → for_node None total rest front ≡ Ok o
    → o.0.node ≡ node → for_node (Some node) total rest front ≡ Ok o
for_own node total rest (Err fault) o e own = absurd cc
for_own node total rest (Ok front) o e own =
    let read = contents_from front.0 no_contents 0 rest in
    let same : eqb node front.1 ≡ true = eq-eqb node front.1 (sym own ∙ sym (node_in_front total front read o e)) in
    subst (λ b. cond (cond b false true) (Err FileFault.OtherNode) (ended total front read) ≡ Ok o) (sym same) e

own_asked : (node : ℕ) (bytes : List ℕ) (o : FileState × ℕ) → opened None bytes ≡ Ok o → o.0.node ≡ node → opened (Some node) bytes ≡ Ok o
unfolding opened
own_asked node bytes o e own = short (nat_lt (length bytes) 11) e
  where
    short : (b : Bool) → cond b (Err (FileFault.Damaged (length bytes))) (for_node None (length bytes) (drop 10 bytes) (front_in (take 10 bytes))) ≡ Ok o → cond b (Err (FileFault.Damaged (length bytes))) (for_node (Some node) (length bytes) (drop 10 bytes) (front_in (take 10 bytes))) ≡ Ok o
    short true e = absurd cc
    short false e = for_own node (length bytes) (drop 10 bytes) (front_in (take 10 bytes)) o e own

-- of version 2
refusals_left : (s : FileState) (gate : ℕ) → s.version ≡ 2
    → (refusal_of_life (Ok (s, gate)) ≡ None) ⊎ ((refusal_of_life (Ok (s, gate)) ≡ Some FileFault.FileFull) ⊎ (refusal_of_life (Ok (s, gate)) ≡ Some FileFault.IncarnationSpent))
refusals_left s gate two =
    subst (λ version. Left (version == 1)) (sym two) (spent (s.contents.life == 4294967295) (is_too_long_with gate (Life (s.contents.life + 1))))
  where
    why : Bool → Bool → Bool → Option FileFault
    why old last long = cond old (Some FileFault.OldVersion) (cond last (Some FileFault.IncarnationSpent) (cond long (Some FileFault.FileFull) None))

    Any : Option FileFault → Type 0
    Any refusal = (refusal ≡ None) ⊎ ((refusal ≡ Some FileFault.FileFull) ⊎ (refusal ≡ Some FileFault.IncarnationSpent))

    Left : Bool → Type 0
    Left old = Any (why old (s.contents.life == 4294967295) (is_too_long_with gate (Life (s.contents.life + 1))))

    spent : (last long : Bool) → Any (why false last long)
    spent true long = inr (inr refl)
    spent false true = inr (inl refl)
    spent false false = inl refl

pub served_again : (file : List ℕ) (n : HostedParts) → IsFileOf file n → CanBeServed n.state.node file
served_again file n is =
    let opens = own_asked n.state.node file (file_state file, is.gate) is.opens is.node in
    subst (λ r. (refusal_of_life r ≡ None) ⊎ ((refusal_of_life r ≡ Some FileFault.FileFull) ⊎ (refusal_of_life r ≡ Some FileFault.IncarnationSpent)))
    (sym opens) (refusals_left (file_state file) is.gate is.version)
