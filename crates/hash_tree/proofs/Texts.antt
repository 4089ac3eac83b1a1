-- What equal texts say of the parts that they join.
use Rattle.std.proofs.Common.{◌≡◌, ◌≢◌, ℕ, zero, suc, ◌+◌, ◌<◌, ◌≤◌, true, false, List, [], ◌∷◌, ◌++◌, length, map, All, sym, ap, subst, refl, ◌∙◌, arith, append_assoc, length-append}
use Rattle.std.specs.Prelude.{nat_eq}
use Rattle.std.specs.List.{concat, flat_map, range_with_len}
use Rattle.std.proofs.lemmas.List.Elements.{All-head, All-tail}
use Rattle.frame_fields.specs.Form.{Form}
use Rattle.frame_fields.specs.Field.{name, prefix}
use Rattle.frame_fields.specs.declared.prefixes.PrefixDigest.{PrefixDigest}
use Rattle.frame_readers.specs.Reader.{Reader, name_reader, prefix_reader}
use Rattle.frame_readers.proofs.Readers.{Reads, ok_is}
use Rattle.frame_readers.proofs.Fields.{name_reads, prefix_reads}
use Rattle.hash_tree.specs.Tree.{Digest, OwnRows, roots_text, text_of}

-- a front of one length
pub append_same : (a b s t : List ℕ) → length a ≡ length b → a ++ s ≡ b ++ t → (a ≡ b) × (s ≡ t)
append_same [] [] s t long e = (refl, e)
append_same [] (y ∷ b) s t long e = absurd (omega arith)
append_same (x ∷ a) [] s t long e = absurd (omega arith)
append_same (x ∷ a) (y ∷ b) s t long e =
    let head : x ≡ y = cc in
    let tail : a ++ s ≡ b ++ t = cc in
    let less : length a ≡ length b = omega arith in
    let rest : (a ≡ b) × (s ≡ t) = append_same a b s t less tail in
    (λ i. head i ∷ rest.0 i, rest.1)

-- parts of one length each
pub parts_same : (f g : ℕ → List ℕ) → ((n : ℕ) → length (f n) ≡ length (g n)) → (low count : ℕ) → concat (map f (range_with_len low count)) ≡ concat (map g (range_with_len low count)) → (n : ℕ) → low ≤ n → n < low + count → f n ≡ g n
parts_same f g long low zero e n least less = absurd (omega arith)
parts_same f g long low (suc count) e n least less =
    let both : (f low ≡ g low) × (concat (map f (range_with_len (low + 1) count)) ≡ concat (map g (range_with_len (low + 1) count))) =
    append_same (f low) (g low) (concat (map f (range_with_len (low + 1) count))) (concat (map g (range_with_len (low + 1) count))) (long low) e in
    elim (nat_eq low n) as (λ v. nat_eq low n ≡ v → f n ≡ g n) [
      | true ↦ λ is. let here : low ≡ n = grind (arith) in subst (λ m. f m ≡ g m) here both.0
      | false ↦ λ is. let apart : low ≢ n = grind (arith) in parts_same f g long (low + 1) count both.1 n (omega arith) (omega arith)
    ] refl

-- a text that tells where it ends and has a byte, of values that fit
pub record IsDelimited {A : Type 0} (Fits : A → Type 0) (text : A → List ℕ) : Type 0 where
  pub apart : (x y : A) (s t : List ℕ) → Fits x → Fits y → text x ++ s ≡ text y ++ t → (x ≡ y) × (s ≡ t)
  pub some : (x : A) → Fits x → 0 < length (text x)

pub texts_same : {A : Type 0} (Fits : A → Type 0) (text : A → List ℕ) → IsDelimited Fits text → (xs ys : List A) → All Fits xs → All Fits ys → flat_map text xs ≡ flat_map text ys → xs ≡ ys
texts_same Fits text is [] [] fit others e = refl
texts_same Fits text is [] (y ∷ ys) fit others e =
    let some : 0 < length (text y) = is.some y (All-head Fits y ys others) in
    let long : 0 ≡ length (text y) + length (flat_map text ys) = ap length e ∙ length-append (text y) (flat_map text ys) in
    absurd (omega arith)
texts_same Fits text is (x ∷ xs) [] fit others e =
    let some : 0 < length (text x) = is.some x (All-head Fits x xs fit) in
    let long : 0 ≡ length (text x) + length (flat_map text xs) = ap length (sym e) ∙ length-append (text x) (flat_map text xs) in
    absurd (omega arith)
texts_same Fits text is (x ∷ xs) (y ∷ ys) fit others e =
    let both : (x ≡ y) × (flat_map text xs ≡ flat_map text ys) = is.apart x y (flat_map text xs) (flat_map text ys) (All-head Fits x xs fit) (All-head Fits y ys others) e in
    let rest : xs ≡ ys = texts_same Fits text is xs ys (All-tail Fits x xs fit) (All-tail Fits y ys others) both.1 in
    λ i. both.0 i ∷ rest i

-- a spelling tells where it ends
pub form_apart : {A : Type 0} (form : Form A) (read : Reader A) → Reads form read → (x y : A) (s t : List ℕ) → form.Fits x → form.Fits y → form.spell x ++ s ≡ form.spell y ++ t → (x ≡ y) × (s ≡ t)
form_apart {A = A} form read reads x y s t fits others e =
    let same : (x, s) ≡ (y, t) = ok_is (x, s) (y, t) (sym (reads.again x s fits) ∙ ap read e ∙ reads.again y t others) in
    (ap (λ (p : A × List ℕ). p.0) same, ap (λ (p : A × List ℕ). p.1) same)

-- a spelling and a digest
module _ {A : Type 0} (form : Form A) (read : Reader A) (reads : Reads form read) where
  abbrev pub FitsWith : A → Digest → Type 0
  FitsWith x d = form.Fits x × (length d ≡ 32)

  with_digest_apart : (x y : A) (d e : Digest) (s t : List ℕ) → FitsWith x d → FitsWith y e → (form.spell x ++ d) ++ s ≡ (form.spell y ++ e) ++ t → (x ≡ y) × ((d ≡ e) × (s ≡ t))
  with_digest_apart x y d e s t fits others same =
      let whole : form.spell x ++ (d ++ s) ≡ form.spell y ++ (e ++ t) = sym (append_assoc (form.spell x) d s) ∙ same ∙ append_assoc (form.spell y) e t in
      let both : (x ≡ y) × (d ++ s ≡ e ++ t) = form_apart form read reads x y (d ++ s) (e ++ t) fits.0 others.0 whole in
      (both.0, append_same d e s t (fits.1 ∙ sym others.1) both.1)

  with_digest_some : (x : A) (d : Digest) → FitsWith x d → 0 < length (form.spell x ++ d)
  with_digest_some x d fits =
      let long : length d ≡ 32 = fits.1 in
      omega (arith, length-append (form.spell x) d)

-- ---- rows of a leaf

abbrev pub IsOwnRow : List ℕ × Digest → Type 0
IsOwnRow row = (name 1 256).Fits row.0 × (length row.1 ≡ 32)

own_row_delimited : IsDelimited IsOwnRow (λ row. (name 1 256).spell row.0 ++ row.1)
own_row_delimited = record {
  apart = λ x y s t fits others e.
      let all = with_digest_apart (name 1 256) (name_reader 1 256) (name_reads 1 256) x.0 y.0 x.1 y.1 s t fits others e in
      (λ i. (all.0 i, all.1.0 i), all.1.1);
  some = λ x fits. with_digest_some (name 1 256) (name_reader 1 256) (name_reads 1 256) x.0 x.1 fits;
}

pub rows_by_text : (xs ys : OwnRows) → All IsOwnRow xs → All IsOwnRow ys → text_of xs ≡ text_of ys → xs ≡ ys
unfolding text_of
rows_by_text xs ys fit others e = texts_same IsOwnRow (λ row. (name 1 256).spell row.0 ++ row.1) own_row_delimited xs ys fit others e

-- ---- roots of full prefixes

abbrev pub IsRootRow : PrefixDigest → Type 0
IsRootRow row = prefix.Fits row.prefix × (length row.digest ≡ 32)

root_row_delimited : IsDelimited IsRootRow (λ row. prefix.spell row.prefix ++ row.digest)
root_row_delimited = record {
  apart = λ x y s t fits others e.
      let all = with_digest_apart prefix prefix_reader prefix_reads x.prefix y.prefix x.digest y.digest s t fits others e in
      (λ i. record { prefix = all.0 i; digest = all.1.0 i }, all.1.1);
  some = λ x fits. with_digest_some prefix prefix_reader prefix_reads x.prefix x.digest fits;
}

pub roots_by_text : (xs ys : List PrefixDigest) → All IsRootRow xs → All IsRootRow ys → roots_text xs ≡ roots_text ys → xs ≡ ys
roots_by_text xs ys fit others e = texts_same IsRootRow (λ row. prefix.spell row.prefix ++ row.digest) root_row_delimited xs ys fit others e
