-- Records put behind the last, as a run of two writes.
use Rattle.std.proofs.Common.{◌≡◌, inl, inr, ⊎_elim, ℕ, ◌+◌, ◌≤◌, List, [], ◌∷◌, ◌++◌, length, None, Ok, true, refl, sym, ◌∙◌, ap, subst, arith, append_assoc, length-append, length-take, take, drop}
use Rattle.std.proofs.lemmas.List.{drop_at, take-append-le, take-take}
use Rattle.std.proofs.lemmas.List.Elements.{All-cons, All-nil}
use Rattle.node_file.specs.declared.record.Record.{Record}
use Rattle.node_file.specs.declared.record.Record.TheVariants.{Life}
use Rattle.devices.specs.Device.{Overwrites, Torn, LeavesOnly}
use Rattle.node_file.specs.Record.{IsRecord, payload, record_bytes}
use Rattle.node_file.specs.Fold.{may_follow, with_record}
use Rattle.node_file.specs.File.{FileState, file_state, opened}
use Rattle.node_file.specs.Clean.{behind_gates}
use Rattle.node_file.specs.Batch.{CanTakeAll, NoneOrAll, batch_size, behind_first, state_with_all}
use Rattle.devices.proofs.Moments.{follows, weaker}
use Rattle.node_file.proofs.Parting.{IsLaidOut, laid_out}
use Rattle.node_file.proofs.Torn.{length-behind_gates, length-record, torn_behind, torn_gate, open_has, written_behind, written_gate, written_over}

-- a record between its gates, without the first
pub spelled_size : (r : Record) (bytes : List ℕ) → bytes ≡ 1 ∷ (record_bytes (payload r) ++ 0 ∷ []) → length bytes ≡ 38 + length (payload r)
spelled_size r bytes is = omega (arith, ap length is, length-append (record_bytes (payload r)) (0 ∷ []), length-record (payload r))

pub life_size : (n : ℕ) (bytes : List ℕ) → bytes ≡ 1 ∷ (record_bytes (payload (Life n)) ++ 0 ∷ []) → length bytes ≡ 43
life_size n bytes is = let five : length (payload (Life n)) ≡ 5 = refl in omega (arith, spelled_size (Life n) bytes is, five)

-- two writes, behind a place and there, as one
pub both_written : (old mid new bytes : List ℕ) (at byte : ℕ) → at + 1 ≤ length old → Overwrites old (at + 1) bytes mid → Overwrites mid at (byte ∷ []) new → Overwrites old at (byte ∷ bytes) new
both_written old mid new bytes at byte within behind there =
    let rest = drop (at + 1 + length bytes) old in
    let front : length (take (at + 1) old) ≡ at + 1 = omega (arith, length-take (at + 1) old, within) in
    let mid_is : mid ≡ take (at + 1) old ++ (bytes ++ rest) = behind ∙ append_assoc (take (at + 1) old) bytes rest in
    let kept : take at mid ≡ take at old =
    ap (λ (l : List ℕ). take at l) mid_is
    ∙ take-append-le at (take (at + 1) old) (bytes ++ rest) (omega (arith, front))
    ∙ take-take at (at + 1) old (omega arith) in
    let left : drop (at + 1) mid ≡ bytes ++ rest = ap (λ (l : List ℕ). drop (at + 1) l) mid_is ∙ drop_at (take (at + 1) old) (bytes ++ rest) (at + 1) front in
    let size : at + 1 + length bytes ≡ at + length (byte ∷ bytes) = omega arith in
    there
    ∙ ap (λ (l : List ℕ). (l ++ byte ∷ []) ++ drop (at + 1) mid) kept
    ∙ ap (λ (l : List ℕ). (take at old ++ byte ∷ []) ++ l) left
    ∙ append_assoc (take at old) (byte ∷ []) (bytes ++ rest)
    ∙ sym (append_assoc (take at old) (byte ∷ bytes) rest)
    ∙ ap (λ (n : ℕ). (take at old ++ (byte ∷ bytes)) ++ drop n old) size

module _ (end : ℕ) (f : List ℕ) (opens : opened None f ≡ Ok (file_state f, end)) where
  abbrev pub stands : FileState
  stands = file_state f

  pub layout : IsLaidOut (file_state f) end f
  layout = laid_out (file_state f) end f opens

  pub gate_within : end + 1 ≤ length f
  gate_within = omega (arith, ap length layout.split, length-append layout.front (layout.gate ∷ layout.rest), layout.size)

  pub few_keys : length (file_state f).contents.table ≤ 8192
  few_keys = layout.few

  -- the gate is still there once something is written behind it
  pub still_within : (bytes g : List ℕ) → Overwrites f (end + 1) bytes g → end ≤ length g
  still_within bytes g holds =
      let front = take (end + 1) f ++ bytes in
      omega (arith, ap length holds, length-append front (drop (end + 1 + length bytes) f), length-append (take (end + 1) f) bytes, length-take (end + 1) f, gate_within)

  -- a record that can be taken alone
  pub alone : (record_ : Record) → (file_state f).version ≡ 2 → IsRecord record_ → may_follow (file_state f).contents record_ ≡ true → length (with_record (file_state f).contents record_).table ≤ 8192 → CanTakeAll (file_state f) (record_ ∷ [])
  alone record_ new lawful may few = record { version = new; lawful = All-cons IsRecord record_ [] lawful (All-nil IsRecord); follow = (may, tt); room = few }

  module _ (first : Record) (more : List Record) (can : CanTakeAll (file_state f) (first ∷ more)) where
    -- behind the closed gate stand the whole records
    abbrev pub IsStaged : List ℕ → Type 0
    IsStaged g = (tail : List ℕ) × (g ≡ layout.front ++ layout.gate ∷ (behind_first first more ++ tail))

    pub staged : (g : List ℕ) → Overwrites f (end + 1) (behind_first first more) g → IsStaged g
    staged g holds = written_behind layout.front layout.rest (behind_first first more) g layout.gate end layout.size (subst (λ (l : List ℕ). Overwrites l (end + 1) (behind_first first more) g) layout.split holds)

    new_end : end + batch_size (first ∷ more) ≡ end + length (behind_first first more)
    unfolding behind_gates
    new_end = let size : length (behind_gates (first ∷ more)) ≡ length (behind_first first more) + 1 = omega arith in omega (arith, size, length-behind_gates (first ∷ more))

    pub appended : (g h : List ℕ) → IsStaged g → Overwrites g end (1 ∷ []) h → opened None h ≡ Ok (state_with_all (file_state f) (first ∷ more), end + batch_size (first ∷ more))
    appended g h s holds =
        ap (opened None) (written_gate layout.front (behind_first first more ++ s.0) h layout.gate 1 end layout.size (subst (λ (l : List ℕ). Overwrites l end (1 ∷ []) h) s.1 holds))
        ∙ open_has (file_state f) end f layout first more s.0 can

    -- by the bytes that were written
    pub ends_at : (h bytes : List ℕ) → bytes ≡ behind_first first more → opened None h ≡ Ok (state_with_all (file_state f) (first ∷ more), end + batch_size (first ∷ more)) → opened None h ≡ Ok (state_with_all (file_state f) (first ∷ more), end + length bytes)
    ends_at h bytes is opens = opens ∙ ap (λ (n : ℕ). Ok (state_with_all (file_state f) (first ∷ more), n)) (new_end ∙ ap (λ (l : List ℕ). end + length l) (sym is))

    -- gate and records in one write
    pub put_over : (bytes g : List ℕ) → bytes ≡ 1 ∷ behind_first first more → Overwrites f end bytes g → opened None g ≡ Ok (state_with_all (file_state f) (first ∷ more), end + batch_size (first ∷ more))
    put_over bytes g is holds =
        let w = written_over layout.front layout.rest bytes g layout.gate end layout.size (subst (λ (l : List ℕ). Overwrites l end bytes g) layout.split holds) in
        ap (opened None) (w.1 ∙ ap (λ (l : List ℕ). layout.front ++ (l ++ w.0)) is) ∙ open_has (file_state f) end f layout first more w.0 can

    module _ {D : Type 0} (moment : D → ℕ) (left_since : D → ℕ → List ℕ → Type 0) where
      pub staged_run : (n : ℕ) (old mid : D) → LeavesOnly moment left_since old mid (Torn (end + 1) n f) → LeavesOnly moment left_since old mid (NoneOrAll f (first ∷ more))
      staged_run n old mid run = weaker moment left_since old mid (Torn (end + 1) n f) (NoneOrAll f (first ∷ more)) run (λ c torn. inl (torn_behind (file_state f) end f layout n c torn ∙ sym opens))

      pub gate_run : (n : ℕ) (old mid new_ : D) (g : List ℕ) → IsStaged g → LeavesOnly moment left_since old mid (Torn (end + 1) n f) → LeavesOnly moment left_since mid new_ (Torn end 1 g) → LeavesOnly moment left_since old new_ (NoneOrAll f (first ∷ more))
      gate_run n old mid new_ g s before after =
          follows moment left_since old mid new_ (NoneOrAll f (first ∷ more)) (Torn end 1 g) (staged_run n old mid before) after
          (λ c torn. ⊎_elim (λ same. inl (same ∙ sym opens)) (λ has. inr has)
          (torn_gate (file_state f) end f layout first more s.0 c can (subst (λ (l : List ℕ). Torn end 1 l c) s.1 torn)))
