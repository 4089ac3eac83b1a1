-- The four calls of an append, of one record or of many, without a device.
use Rattle.std.proofs.Common.{◌≡◌, ◌≤◌, ◌==◌, Bool, true, false, inl, inr, ⊎_elim, ℕ, ◌+◌, List, [], ◌∷◌, ◌++◌, length, take, drop, None, Ok, refl, sym, ◌∙◌, ap, subst, arith, append_assoc}
use Rattle.devices.specs.Calls.{CrashLeftSince, content_after}
use Rattle.devices.specs.Device.{Torn}
use Rattle.meta_types.specs.First.{first_that_applies}
use Rattle.meta_types.specs.Name.{Key}
use Rattle.dvvset.specs.Object.{Entry}
use Rattle.node_file.specs.declared.fault.FileFault.TheVariants.{FileFull, IncarnationSpent, OldVersion}
use Rattle.node_file.specs.declared.record.Record.{Record}
use Rattle.node_file.specs.declared.record.Record.TheVariants.{Life, Object}
use Rattle.node_file.specs.Record.{payload}
use Rattle.node_file.specs.File.{FileState, OpensLike, StandsFor, file_state, gated, opened, record_size, state_with}
use Rattle.node_file.specs.Refusal.{is_too_long_with, most_file, refusal_of_append, refusal_of_life}
use Rattle.node_file.specs.Clean.{behind_gates}
use Rattle.node_file.specs.Batch.{CanTakeAll, NoneOrAll, batch_size, behind_first, state_with_all}
use Rattle.node_file.specs.Hosted.{CanTake, TakesAll, TakesRecord, batch_calls}
use Rattle.node_file.proofs.Torn.{nothing_behind, torn_behind, torn_gate}
use Rattle.node_file.proofs.Appending.{IsStaged, alone, appended, layout, spelled_size, staged}
use Rattle.node_file.proofs.Limits.{object_short}
use Rattle.node_file.proofs.Parting.{at_least}

module _ (file : List ℕ) (gate : ℕ) (first : Record) (more : List Record) (opens : opened None file ≡ Ok (file_state file, gate)) (can : CanTakeAll (file_state file) (first ∷ more)) where
  abbrev body : List ℕ
  body = behind_first first more

  -- once the records stand after the closed gate
  abbrev mid : List ℕ
  mid = take (gate + 1) file ++ body ++ drop (gate + 1 + length body) file

  abbrev done : List ℕ
  done = content_after file (batch_calls gate first more)

  abbrev state : FileState
  state = state_with_all (file_state file) (first ∷ more)

  is_staged : IsStaged gate file opens first more can mid
  is_staged = staged gate file opens first more can mid refl

  ends : opened None done ≡ Ok (state, gate + batch_size (first ∷ more))
  ends = appended gate file opens first more can mid done is_staged refl

  mid_opens : OpensLike file mid
  mid_opens =
      ap (opened None) (append_assoc (take (gate + 1) file) body (drop (gate + 1 + length body) file))
      ∙ nothing_behind file (body ++ drop (gate + 1 + length body) file) (file_state file) gate (layout gate file opens)
      ∙ sym opens

  like : (c : List ℕ) → c ≡ mid → NoneOrAll file (first ∷ more) c
  like c is = inl (ap (opened None) is ∙ mid_opens)

  has_them : (c : List ℕ) → c ≡ done → StandsFor state c
  has_them c is = (gate + batch_size (first ∷ more), ap (opened None) is ∙ ends)

  with_them : (c : List ℕ) → c ≡ done → NoneOrAll file (first ∷ more) c
  with_them c is = inr (has_them c is)

  first_torn : (c : List ℕ) → Torn (gate + 1) (length body) file c → NoneOrAll file (first ∷ more) c
  first_torn c torn = inl (torn_behind (file_state file) gate file (layout gate file opens) (length body) c torn ∙ sym opens)

  gate_torn : (c : List ℕ) → Torn gate 1 mid c → NoneOrAll file (first ∷ more) c
  gate_torn c torn = ⊎_elim (λ same. inl (same ∙ sym opens)) (λ has. inr has)
      (torn_gate (file_state file) gate file (layout gate file opens) first more is_staged.0 c can (subst (λ (l : List ℕ). Torn gate 1 l c) is_staged.1 torn))

  moments : (c : List ℕ) → CrashLeftSince file (batch_calls gate first more) 0 c → NoneOrAll file (first ∷ more) c
  moments c (inl (late, is)) = with_them c is
  moments c (inr (inl (late, inl is))) = with_them c is
  moments c (inr (inl (late, inr (d, is, torn)))) = gate_torn c (subst (λ (l : List ℕ). Torn gate 1 l c) is torn)
  moments c (inr (inr (inl (late, is)))) = like c is
  moments c (inr (inr (inr (inl (late, inl is))))) = like c is
  moments c (inr (inr (inr (inl (late, inr (d, is, torn)))))) = first_torn c (subst (λ (l : List ℕ). Torn (gate + 1) (length body) l c) is torn)
  moments c (inr (inr (inr (inr (late, is))))) = inl (ap (opened None) is)

  pub takes_all : TakesAll file gate first more
  takes_all = record { opens = ends; durable = has_them; any_moment = moments }

-- one record is a batch of one
pub takes_record : (file : List ℕ) (gate : ℕ) (r : Record) → opened None file ≡ Ok (file_state file, gate) → CanTake (file_state file) r → TakesRecord file gate r
unfolding behind_gates
takes_record file gate r opens can =
    let all = takes_all file gate r [] opens (alone gate file opens r can.version can.lawful can.follows can.room) in
    let size : gate + (record_size r + 0) ≡ gate + record_size r = omega arith in
    record {
      opens = all.opens ∙ ap (λ (n : ℕ). Ok (state_with (file_state file) r, n)) size;
      durable = all.durable;
      any_moment = all.any_moment;
    }

-- ---- that what is written fits in a file

fits_by : (gate : ℕ) (r : Record) (bytes : List ℕ) → gate + 38 + length (payload r) ≤ most_file → bytes ≡ gated r → gate + length bytes ≤ most_file
fits_by gate r bytes least is = omega (arith, least, spelled_size r bytes is)

pub object_fits : (gate : ℕ) (k : Key) (o : List Entry) (bytes : List ℕ) → refusal_of_append false gate k o ≡ None → bytes ≡ gated (Object k o) → gate + length bytes ≤ most_file
object_fits gate k o bytes none is = fits_by gate (Object k o) bytes (object_short gate k o none) is

life_not_long : (old spent long : Bool) → first_that_applies ((old, OldVersion) ∷ (spent, IncarnationSpent) ∷ (long, FileFull) ∷ []) ≡ None → long ≡ false
life_not_long true spent long e = absurd cc
life_not_long false true long e = absurd cc
life_not_long false false true e = absurd cc
life_not_long false false false e = refl

pub life_fits : (file : FileState) (gate : ℕ) (bytes : List ℕ) → refusal_of_life (Ok (file, gate)) ≡ None → bytes ≡ gated (Life (file.contents.life + 1)) → gate + length bytes ≤ most_file
life_fits file gate bytes none is =
    let r = Life (file.contents.life + 1) in
    let short = life_not_long (file.version == 1) (file.contents.life == 4294967295) (is_too_long_with gate r) none in
    fits_by gate r bytes (at_least most_file (gate + 38 + length (payload r)) short) is
