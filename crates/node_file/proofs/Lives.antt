-- The lives of a file rise.
use Rattle.std.proofs.Common.{◌≡◌, inl, inr, ℕ, zero, suc, ◌+◌, ◌<◌, ◌≤◌, List, [], ◌∷◌, length, drop, take, Option, Some, None, Result, Ok, Err, Bool, true, false, T, cond, nat_lt, refl, sym, ◌∙◌, ap, arith}
use Rattle.std.specs.FinMap.{is_sorted}
use Rattle.std.specs.FinMap.Entries.{is_sorted-put}
use Rattle.std.proofs.lemmas.Bool.{cases_eq}
use Rattle.meta_types.specs.Order.{key_cmp}
use Rattle.meta_types.specs.Name.{Key}
use Rattle.dvvset.specs.Object.{Entry}
use Rattle.meta_store.specs.Step.{is_full_for}
use Rattle.meta_store.specs.Table.{most_keys}
use Rattle.meta_store.proofs.Keys.{key_total}
use Rattle.node_file.proofs.Limits.{few_with}
use Rattle.std.proofs.lemmas.Bool.Decides.{nat_tests}
use Rattle.node_file.specs.declared.record.Record.{Record}
use Rattle.node_file.specs.declared.record.Record.TheVariants.{Life, Object}
use Rattle.node_file.specs.Record.{record_in}
use Rattle.node_file.specs.Fold.{Contents, any_may_follow, fold_records, may_follow, no_contents, put_first, records_from, after_record, with_record}
use Rattle.node_file.specs.File.{FileState, file_state, opened, state_with}
use Rattle.node_file.specs.Lives.{FallFrom, IsTold, contents_of, life_numbers}
use Rattle.node_file.proofs.Folding.{closed, opens}
use Rattle.node_file.proofs.Parting.{laid_out, taken_ok, no_bytes, inside, both_are, read_of}

-- what another fold_records over the same records keeps, if nothing is refused
simulate : {S T : Type 0} (may : S → Record → Bool) (next : S → Record → S) (any : T → Record → Bool) (put : T → Record → T) (R : S → T → Type 0)
    → ((u : T) (record_ : Record) → any u record_ ≡ true)
    → ((s : S) (u : T) (record_ : Record) → may s record_ ≡ true → R s u → R (next s record_) (put u record_))
    → (version : ℕ) (b : List ℕ) (s : S) (u : T) (skip : ℕ) (t : S) (left : ℕ) → R s u → fold_records may next version s skip b ≡ Ok (t, left)
    → (w : T) × (fold_records any put version u skip b ≡ Ok (w, left)) × R t w
simulate may next any put R free step version [] s u skip t left r e = absurd (no_bytes may next version s skip (t, left) e)
simulate may next any put R free step version (x ∷ b) s u (suc skip) t left r e =
    let h = simulate may next any put R free step version b s u skip t left r (sym (inside may next version s skip x b) ∙ e) in
    (h.0, inside any put version u skip x b ∙ h.1, h.2)
simulate {S} {T} may next any put R free step version (x ∷ b) s u zero t left r e = elim (cases_eq x 1) [
  | inl is_open ↦
      let q = taken_ok may next version s (length b + 1) (record_in version b) (λ (v : S) skip. fold_records may next version v skip b) (t, left) (sym (opens may next version s b) ∙ ap (λ (g : ℕ). fold_records may next version s 0 (g ∷ b)) (sym is_open) ∙ e) in
      let h = simulate may next any put R free step version b (next s q.0.0) (put u q.0.0) q.0.1 t left (step s u q.0.0 q.2 r) q.3 in
      let more : T → ℕ → Result (T × ℕ) ℕ = λ v skip. fold_records any put version v skip b in (
        h.0,
        ap (λ (g : ℕ). fold_records any put version u 0 (g ∷ b)) is_open ∙ opens any put version u b
            ∙ ap (λ (o : Option (Record × ℕ)). after_record any put u (length b + 1) o more) q.1
            ∙ ap (λ (g : Bool). cond g (more (put u q.0.0) q.0.1) (Err (length b + 1))) (free u q.0.0)
            ∙ h.1,
        h.2,
      )
  | inr shut ↦
      let both = both_are may next version s t (length b + 1) left (fold_records may next version s 0 (x ∷ b)) (closed may next version s x b shut) e in (
        u,
        closed any put version u x b shut ∙ ap (λ (n : ℕ). Ok (u, n)) (sym both.1),
        Rattle.std.proofs.Common.subst (λ (v : S). R v u) both.0 r,
      )
]

record Keeps (c : Contents) (records : List Record) : Type 0 where
  made : c ≡ contents_of records
  lives : FallFrom c.life (life_numbers records)

keeps : (c : Contents) (records : List Record) (record_ : Record) → may_follow c record_ ≡ true → Keeps c records → Keeps (with_record c record_) (record_ ∷ records)
keeps c records (Life n) may k = record {
  made = ap (λ (d : Contents). with_record d (Life n)) k.made;
  lives = (refl, (c.life, rises c.life n may, k.lives));
}
  where
    rises : (a b : ℕ) → nat_lt a b ≡ true → a < b
    rises a b e = grind (arith, nat_tests)
keeps c records (Object key o) may k = record { made = ap (λ (d : Contents). with_record d (Object key o)) k.made; lives = k.lives }

pub says : (bytes : List ℕ) (s : FileState) (end : ℕ) → opened None bytes ≡ Ok (s, end) → IsTold s.version (drop 10 bytes) s.contents
unfolding records_from
says bytes s end e =
    let r = read_of bytes s end e in
    let h = simulate may_follow with_record any_may_follow put_first Keeps (λ u record_. refl) keeps s.version (drop 10 bytes) no_contents [] 0 s.contents r.0 (record { made = refl; lives = refl }) r.1 in
    record { records = h.0; left = r.0; read = h.1; makes = h.2.made; lives = h.2.lives }

-- ---- the keys of a file rise

sorted_with : (c : Contents) (records : List Record) (record_ : Record) → may_follow c record_ ≡ true → T (is_sorted key_cmp c.table) → T (is_sorted key_cmp (with_record c record_).table)
sorted_with c records (Life n) may sorted = sorted
sorted_with c records (Object k o) may sorted = is_sorted-put key_cmp key_total k o c.table sorted

from_T : (b : Bool) → T b → b ≡ true
from_T true t = refl
from_T false t = absurd t

pub keys_rise : (bytes : List ℕ) (s : FileState) (gate : ℕ) → opened None bytes ≡ Ok (s, gate) → is_sorted key_cmp s.contents.table ≡ true
keys_rise bytes s gate e =
    let r = read_of bytes s gate e in
    let h = simulate may_follow with_record any_may_follow put_first (λ c records. T (is_sorted key_cmp c.table)) (λ u record_. refl) sorted_with s.version (drop 10 bytes) no_contents [] 0 s.contents r.0 tt r.1 in
    from_T (is_sorted key_cmp s.contents.table) h.2

-- if there is room for a key, they aren't too many with it
pub room_for : (bytes : List ℕ) (gate : ℕ) (k : Key) (o : List Entry) → opened None bytes ≡ Ok (file_state bytes, gate) → is_full_for (file_state bytes).contents.table k ≡ false → length (state_with (file_state bytes) (Object k o)).contents.table ≤ most_keys
room_for bytes gate k o opens room =
    few_with k o (file_state bytes).contents.table (keys_rise bytes (file_state bytes) gate opens) (laid_out (file_state bytes) gate bytes opens).few room
