-- Peers that change list, come and go: each stands once, in one of the two lists.
use Rattle.std.proofs.Common.{◌≡◌, ℕ, true, false, cond, List, nat_eq, ⊎_elim, sym, ap, subst, ◌∙◌, true≢false}
use Rattle.std.proofs.lemmas.Bool.{eqb-true, cases_Bool}
use Rattle.peer_lists.specs.Lists.{has, without, put_last}
use Rattle.peer_lists.proofs.Members.{has-without, without-lacks, has-put_last, IsDistinct-put_last, IsDistinct-without, has-without_same}
use Rattle.plumtree.specs.Draft.{gained}
use Rattle.plumtree.specs.Lawful.{AreLinks}

AreLinks-moved : (x : ℕ) (E Z : List ℕ) → AreLinks E Z → AreLinks (put_last x E) (without x Z)
AreLinks-moved x E Z h =
    record {
      eager_once = IsDistinct-put_last x E h.eager_once;
      lazy_once = IsDistinct-without x Z h.lazy_once;
      disjoint = λ y e.
          ⊎_elim (λ same. ap (has (without x Z)) (eqb-true y x same) ∙ has-without_same x Z h.lazy_once)
          (λ differs. without-lacks x y Z (h.disjoint y (sym (has-put_last x y E differs) ∙ e)))
          (cases_Bool (nat_eq y x));
    }

AreLinks-left : (x : ℕ) (E Z : List ℕ) → AreLinks E Z → AreLinks E (without x Z)
AreLinks-left x E Z h =
    record {
      eager_once = h.eager_once;
      lazy_once = IsDistinct-without x Z h.lazy_once;
      disjoint = λ y e. without-lacks x y Z (h.disjoint y e);
    }

AreLinks-swap : (E Z : List ℕ) → AreLinks E Z → AreLinks Z E
AreLinks-swap E Z h =
    record {
      eager_once = h.lazy_once;
      lazy_once = h.eager_once;
      disjoint = λ y e. ⊎_elim (λ there. absurd (true≢false (sym e ∙ h.disjoint y there))) (λ (lacks : has E y ≡ false). lacks) (cases_Bool (has E y));
    }

pub AreLinks-eager : (x : ℕ) (E Z : List ℕ) → AreLinks E Z → AreLinks (gained x Z E) (without x Z)
AreLinks-eager x E Z h =
    elim (has Z x) as (λ b. AreLinks (cond b (put_last x E) E) (without x Z)) [
      | true ↦ AreLinks-moved x E Z h
      | false ↦ AreLinks-left x E Z h
    ]

pub AreLinks-lazy : (x : ℕ) (E Z : List ℕ) → AreLinks E Z → AreLinks (without x E) (gained x E Z)
AreLinks-lazy x E Z h = AreLinks-swap (gained x E Z) (without x E) (AreLinks-eager x Z E (AreLinks-swap E Z h))

pub AreLinks-without : (x : ℕ) (E Z : List ℕ) → AreLinks E Z → AreLinks (without x E) (without x Z)
AreLinks-without x E Z h =
    record {
      eager_once = IsDistinct-without x E h.eager_once;
      lazy_once = IsDistinct-without x Z h.lazy_once;
      disjoint = λ y e. without-lacks x y Z (h.disjoint y (has-without x y E e));
    }

pub AreLinks-up : (x : ℕ) (E Z : List ℕ) → has Z x ≡ false → AreLinks E Z → AreLinks (put_last x E) Z
AreLinks-up x E Z absent h =
    record {
      eager_once = IsDistinct-put_last x E h.eager_once;
      lazy_once = h.lazy_once;
      disjoint = λ y e.
          ⊎_elim (λ same. ap (has Z) (eqb-true y x same) ∙ absent)
          (λ differs. h.disjoint y (sym (has-put_last x y E differs) ∙ e))
          (cases_Bool (nat_eq y x));
    }

-- the same of lists that are given by equations, as the code has them
pub links_eager : (x : ℕ) (E Z F Y : List ℕ) → F ≡ gained x Z E → Y ≡ without x Z → AreLinks E Z → AreLinks F Y
links_eager x E Z F Y f y h = subst (λ (l : List ℕ). AreLinks l Y) (sym f) (subst (λ (l : List ℕ). AreLinks (gained x Z E) l) (sym y) (AreLinks-eager x E Z h))

pub links_lazy : (x : ℕ) (E Z F Y : List ℕ) → F ≡ without x E → Y ≡ gained x E Z → AreLinks E Z → AreLinks F Y
links_lazy x E Z F Y f y h = subst (λ (l : List ℕ). AreLinks l Y) (sym f) (subst (λ (l : List ℕ). AreLinks (without x E) l) (sym y) (AreLinks-lazy x E Z h))

pub links_without : (x : ℕ) (E Z F Y : List ℕ) → F ≡ without x E → Y ≡ without x Z → AreLinks E Z → AreLinks F Y
links_without x E Z F Y f y h = subst (λ (l : List ℕ). AreLinks l Y) (sym f) (subst (λ (l : List ℕ). AreLinks (without x E) l) (sym y) (AreLinks-without x E Z h))
