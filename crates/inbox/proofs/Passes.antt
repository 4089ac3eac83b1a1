-- New passes, one after the other.
use Rattle.std.proofs.Common.{◌≡◌, ◌≢◌, ◌+◌, ◌<◌, ℕ, List, [], ◌∷◌, ◌++◌, length, get_or, slice_get, Some, refl, sym, ap, ◌∙◌, arith, length-append, ⊎_elim}
use Rattle.std.proofs.lemmas.Bool.{cases_eq}
use Rattle.std.proofs.lemmas.Option.{slice_get-get_or, get_or_from_slice_get}
use Rattle.std.proofs.Math.ListN.{get_or-append}
use Rattle.std.proofs.Math.Seq.{get_or-append_seam}
use Rattle.atomic_table.specs.Seated.{TableId}
use Rattle.inbox.specs.Opening.{AreNewPasses}
use Rattle.inbox.specs.Views.{PutView}

abbrev pub new_pass : TableId → ℕ → PutView
new_pass line k = record { line = line; from = k; put = [] }

pub no_passes : (line : TableId) → AreNewPasses line 0 []
no_passes line = record { number = refl; each = λ k less. absurd (omega (arith, less)) }

pub one_pass_more : (line : TableId) (n : ℕ) (ps : List PutView) → AreNewPasses line n ps
    → AreNewPasses line (n + 1) (ps ++ new_pass line n ∷ [])
one_pass_more line n ps are = record {
  number = length-append ps (new_pass line n ∷ []) ∙ ap (λ m. m + 1) are.number;
  each = λ k less. ⊎_elim (λ (is : k ≡ n). last k is) (λ (not : k ≢ n). earlier k not less)
      (cases_eq k n);
}
  where
    within : (k : ℕ) → k < n + 1 → k < length (ps ++ new_pass line n ∷ [])
    within k less = omega (arith, less, are.number, length-append ps (new_pass line n ∷ []))

    last : (k : ℕ) → k ≡ n
        → slice_get (ps ++ new_pass line n ∷ []) k ≡ Some (new_pass line k)
    last k is =
        slice_get-get_or (ps ++ new_pass line n ∷ []) k (new_pass line n)
        (within k (omega (arith, is)))
        ∙ ap Some (ap (λ m. get_or (ps ++ new_pass line n ∷ []) m (new_pass line n))
        (is ∙ sym are.number) ∙ get_or-append_seam ps (new_pass line n) [] (new_pass line n)
        ∙ ap (new_pass line) (sym is))

    earlier : (k : ℕ) → k ≢ n → k < n + 1
        → slice_get (ps ++ new_pass line n ∷ []) k ≡ Some (new_pass line k)
    earlier k not less =
        let less' : k < n = omega (arith, not, less) in
        slice_get-get_or (ps ++ new_pass line n ∷ []) k (new_pass line n) (within k less)
        ∙ ap Some (get_or-append ps (new_pass line n ∷ []) (new_pass line n) k
        (omega (arith, less', are.number))
        ∙ get_or_from_slice_get ps k (new_pass line k) (new_pass line n) (are.each k less'))

-- all are of this inbox
pub lines : (line : TableId) (n : ℕ) (ps : List PutView) → AreNewPasses line n ps
    → (k : ℕ) (d : PutView) → k < length ps → (get_or ps k d).line ≡ line
lines line n ps are k d less =
    ap (λ (q : PutView). q.line)
    (get_or_from_slice_get ps k (new_pass line k) d
    (are.each k (omega (arith, less, are.number))))
