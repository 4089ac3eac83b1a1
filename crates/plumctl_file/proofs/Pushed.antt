-- What a reader gave of a file, by what a reading tells of it.
use Rattle.std.proofs.Common.{◌≡◌, ◌⊎◌, ℕ, List, [], ◌++◌, None, true, is_ok, Result, Ok, Err, IfOk, IfErr, inl, inr, refl, sym, ap, ◌∙◌, append_assoc}
use Rattle.std.proofs.lemmas.List.{append-nil}
use Rattle.std.specs.Io.KnownBytes.{Consumes}
use Rattle.file_pieces.specs.Told.{Came, tells, warns}
use Rattle.file_pieces.specs.declared.progress.FileContents.{FileContents}
use Rattle.node_file.specs.File.{FileState, file_state, opened, state_or_none}
use Rattle.node_file.specs.declared.fault.FileFault.{FileFault}
use Rattle.node_file.specs.declared.fault.FileFault.TheVariants.{Memory}
use Rattle.node_file.specs.Gates.{changed_gate}
use Rattle.streams.specs.Moment.{SourceAt}
use Rattle.streams.proofs.Pieces.{Consumes-nil, Consumes-then}
use Rattle.plumctl_file.specs.Read.{HasGiven, HoldsFile, IsEnough, PushesEnough, PushesPieces, RefusesFile}

pub none_pushed : (r : SourceAt) (came : Came) → PushesPieces r r came came
none_pushed r came = record {
  bytes = [];
  consumed = Consumes-nil r.remaining;
  told = λ x. refl;
  warned = λ x. refl;
  sound = λ failed. failed;
}

-- one piece more
pub one_pushed : (r s t : SourceAt) (begun came next : Came) (part : List ℕ) → PushesPieces r s begun came → Consumes s.remaining t.remaining part
    → ((x : List ℕ) → (tells next x ≡ tells came (part ++ x)) × (warns next x ≡ warns came (part ++ x))) → (t.failed → s.failed) → PushesPieces r t begun next
one_pushed r s t begun came next part p consumed read sound = record {
  bytes = p.bytes ++ part;
  consumed = Consumes-then r.remaining s.remaining t.remaining p.bytes part p.consumed consumed;
  told = λ x. (read x).0 ∙ p.told (part ++ x) ∙ ap (tells begun) (sym (append_assoc p.bytes part x));
  warned = λ x. (read x).1 ∙ p.warned (part ++ x) ∙ ap (warns begun) (sym (append_assoc p.bytes part x));
  sound = λ failed. p.sound (sound failed);
}

module _ (r s : SourceAt) (begun came : Came) (p : PushesEnough r s begun came)
    (begins : (bytes : List ℕ) → tells begun bytes ≡ opened None bytes)
    (warned : (bytes : List ℕ) (state : FileState) (gate : ℕ) → opened None bytes ≡ Ok (state, gate) → warns begun bytes ≡ changed_gate bytes) where
  abbrev bytes : List ℕ
  bytes = p.pieces.bytes

  told_so : (x : List ℕ) → tells came x ≡ opened None (bytes ++ x)
  told_so x = p.pieces.told x ∙ begins (bytes ++ x)

  pub told_now : tells came [] ≡ opened None bytes
  told_now = told_so [] ∙ ap (opened None) (append-nil bytes)

  warned_so : (x : List ℕ) (state : FileState) (gate : ℕ) → opened None (bytes ++ x) ≡ Ok (state, gate) → warns came x ≡ changed_gate (bytes ++ x)
  warned_so x state gate is = p.pieces.warned x ∙ warned (bytes ++ x) state gate is

  pub warned_now : (state : FileState) (gate : ℕ) → opened None bytes ≡ Ok (state, gate) → warns came [] ≡ changed_gate bytes
  warned_now state gate is =
      warned_so [] state gate (ap (opened None) (append-nil bytes) ∙ is)
      ∙ ap changed_gate (append-nil bytes)

  -- nothing counts that follows what is told
  enough : ((x : List ℕ) → (tells came x ≡ tells came []) × (warns came x ≡ warns came [])) → IsEnough bytes
  enough told =
      let alike : (x : List ℕ) → opened None (bytes ++ x) ≡ opened None bytes = λ x. sym (told_so x) ∙ (told x).0 ∙ told_now in
      record {
        opens = alike;
        warns = λ x state gate is. sym (warned_so x state gate (alike x ∙ is)) ∙ (told x).1 ∙ warned_now state gate is;
      }

  pub gives : HasGiven r s bytes
  gives = record {
    consumed = p.pieces.consumed;
    enough = elim p.enough [
      | inl end ↦ inl end
      | inr told ↦ inr (enough told)
    ];
    sound = p.pieces.sound;
  }

  pub held_so : (result : Result FileContents FileFault) → IfOk result (λ f. tells came [] ≡ Ok (state_or_none (tells came []), f.gate))
      → IfOk result (λ f. f.node ≡ (state_or_none (tells came [])).node) → IfOk result (λ f. f.life ≡ (state_or_none (tells came [])).contents.life)
      → IfOk result (λ f. f.table ≡ (state_or_none (tells came [])).contents.table) → IfOk result (λ f. f.changed_gate ≡ warns came []) → IfOk result (HoldsFile r s)
  held_so (Ok f) opens node life table changed =
      let is : opened None bytes ≡ Ok (file_state bytes, f.gate) = sym told_now ∙ opens ∙ ap (λ t. Ok (state_or_none t, f.gate)) told_now in
      record {
        bytes = bytes;
        gives = gives;
        opens = is;
        node = node ∙ ap (λ t. (state_or_none t).node) told_now;
        life = life ∙ ap (λ t. (state_or_none t).contents.life) told_now;
        table = table ∙ ap (λ t. (state_or_none t).contents.table) told_now;
        changed_gate = changed ∙ warned_now (file_state bytes) f.gate is;
      }
  held_so (Err fault) opens node life table changed = tt

  refused_so : (fault : FileFault) → (tells came [] ≡ Err fault) ⊎ ((fault ≡ Memory) × (is_ok (tells came []) ≡ true)) → (fault ≡ Memory) ⊎ RefusesFile r s fault
  refused_so fault (inr memory) = inl memory.0
  refused_so fault (inl refused) = inr (inl (record { bytes = bytes; gives = gives; refused = sym told_now ∙ refused }))

  pub all_refused : (result : Result FileContents FileFault) → IfErr result (λ fault. (tells came [] ≡ Err fault) ⊎ ((fault ≡ Memory) × (is_ok (tells came []) ≡ true))) → IfErr result (λ fault. (fault ≡ Memory) ⊎ RefusesFile r s fault)
  all_refused (Ok f) refused = tt
  all_refused (Err fault) refused = refused_so fault refused
