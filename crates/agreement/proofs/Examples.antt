-- Histories that meet the premises of the laws of what is left.
use Rattle.std.proofs.Common.{◌≡◌, true, ◌⊎◌, ℕ, List, [], ◌∷◌, ◌++◌, append-nil, append_assoc, sym, ap, refl, subst, ◌∙◌, arith, ⊎_elim, inl, inr, Some, eqb}
use Rattle.std.proofs.lemmas.Bool.{cases_eq, or_cases, eqb-true}
use Rattle.meta_types.specs.Actor.{writer_number}
use Rattle.meta_types.specs.Name.{Key}
use Rattle.meta_types.specs.Value.{ValueParts}
use Rattle.past_model.specs.declared.happening.Happening.{Happening}
use Rattle.past_model.specs.declared.happening.Happening.TheVariants.{Wrote, Got, Restarted}
use Rattle.past_model.specs.Sets.{Places, Knowledge, empty}
use Rattle.past_model.specs.Past.{Past, Write, start, happens, run, known, writes, image, load, seen}
use Rattle.past_model.specs.History.{Fits, IsHistory}
use Rattle.past_model.specs.Moment.{node_of}
use Rattle.past_model.proofs.Fitting.{so_far_all}
use Rattle.past_model.proofs.Histories.{history_snoc}
use Rattle.past_model.proofs.Walking.{known-other}
use Rattle.agreement.specs.Left.{IsAmong, OfAllLeft, OfContextsLeft, OfStandingLeft, ArePlacesOf, HasNone, HasOverwritten, IsShown, newest_image, standing}
use Rattle.agreement.specs.Stories.{one_key, deleted, after_deletion, lost, lost_writes, after_loss, deleted_elsewhere, after_keeping}

-- ---- histories, happening by happening

FitFrom : List Happening → List Happening → Type 0
FitFrom before [] = Unit {0}
FitFrom before (h ∷ hs) = Fits before h × FitFrom (before ++ h ∷ []) hs

history_from : (before hs : List Happening) → IsHistory before → FitFrom before hs → IsHistory (before ++ hs)
unfolding FitFrom
history_from before [] is fits = subst IsHistory (sym (append-nil before)) is
history_from before (h ∷ hs) is fits =
    subst IsHistory (append_assoc before (h ∷ []) hs) (history_from (before ++ h ∷ []) hs (history_snoc before h is fits.0) fits.1)

history_of : (hs : List Happening) → FitFrom [] hs → IsHistory hs
history_of hs fits = history_from [] hs (so_far_all [] 0 (omega arith) (record { fits = λ p h lt e. absurd (omega (arith, lt)) })) fits

-- ---- nodes to which nothing happened

NoneOf : ℕ → List Happening → Type 0
NoneOf n [] = Unit {0}
NoneOf n (h ∷ hs) = (node_of h ≡ n → ⊥) × NoneOf n hs

unmoved : (s : Past) (hs : List Happening) (n : ℕ) → NoneOf n hs → (run s hs).known n ≡ s.known n
unfolding NoneOf
unmoved s [] n none = refl
unmoved s (h ∷ hs) n none = unmoved (happens s h) hs n none.1 ∙ known-other s h n none.0

each_node : (P : Places → Type 0) (hs : List Happening) (k : Key) → ((n : ℕ) → (0 ≡ n → ⊥) → (1 ≡ n → ⊥) → NoneOf n hs) → P empty → P (known hs 0 k) → P (known hs 1 k) → (n : ℕ) → P (known hs n k)
each_node P hs k others none zeroth first n =
    ⊎_elim
    (λ (e : 0 ≡ n). subst (λ m. P (known hs m k)) e zeroth)
    (λ not_0.
    ⊎_elim
    (λ (e : 1 ≡ n). subst (λ m. P (known hs m k)) e first)
    (λ not_1. subst (λ (v : Knowledge). P (v k)) (sym (unmoved start hs n (others n not_0 not_1))) none)
    (cases_eq 1 n))
    (cases_eq 0 n)

-- ---- a deletion that all know

deletion_fits : (v u : ValueParts) → IsHistory (deleted v ++ after_deletion u)
unfolding FitFrom
deletion_fits v u =
    history_of (deleted v ++ after_deletion u)
    (tt, (tt, ((0, refl), (tt, ((0, (one_key, refl)), (tt, (tt, ((omega arith, omega arith), ((omega arith, omega arith), ((0, (one_key, refl)), ((0, refl), (tt, ((1, (one_key, refl)), tt)))))))))))))

deletion_restarts : (u : ValueParts) (n j : ℕ) → IsAmong (Restarted n j) (after_deletion u) → ((n ≡ 0) × (j ≡ 3)) ⊎ ((n ≡ 1) × (j ≡ 1))
deletion_restarts u n j among = grind (arith, among)

deletion_gets : (u : ValueParts) (n i : ℕ) → IsAmong (Got n i) (after_deletion u) → (i ≡ 3) ⊎ (i ≡ 11)
deletion_gets u n i among = grind (arith, among)

deletion_left : (v u : ValueParts) → OfAllLeft (HasOverwritten (writes (deleted v)) 0) (deleted v) (after_deletion u) one_key
unfolding NoneOf
deletion_left v u = record {
  nodes = each_node (HasOverwritten (writes (deleted v)) 0) (deleted v) one_key
      (λ n not_0 not_1. (not_0, (not_0, (not_0, (not_0, (not_1, (not_1, tt)))))))
      (λ e. absurd (cc)) (λ e. refl) (λ e. refl);
  images = λ n j among made.
      ⊎_elim
      (λ is.
      let newest : newest_image (deleted v) n ≡ 2 = ap (newest_image (deleted v)) is.0 in
      let number : j ≡ 3 = is.1 in
      absurd (omega (arith, made, newest, number)))
      (λ is.
      subst (λ m. HasOverwritten (writes (deleted v)) 0 (image (deleted v) m j one_key)) (sym is.0)
      (subst (λ i. HasOverwritten (writes (deleted v)) 0 (image (deleted v) 1 i one_key)) (sym is.1) (λ e. refl)))
      (deletion_restarts u n j among);
  objects = λ n i among lt.
      ⊎_elim
      (λ is. subst (λ p. HasOverwritten (writes (deleted v)) 0 (load (deleted v) p one_key)) (sym is) (λ e. refl))
      (λ is. absurd (omega (arith, lt, is)))
      (deletion_gets u n i among);
}

deletion_standing : (v u : ValueParts) → OfStandingLeft (HasOverwritten (writes (deleted v)) 0) (deleted v) (after_deletion u) one_key
deletion_standing v u n j among late =
    ⊎_elim
    (λ is. subst (λ m. HasOverwritten (writes (deleted v)) 0 (standing (deleted v) m one_key)) (sym is.0) (λ e. refl))
    (λ is.
    let newest : newest_image (deleted v) n ≡ 1 = ap (newest_image (deleted v)) is.0 in
    let number : j ≡ 1 = is.1 in
    absurd (omega (arith, late, newest, number)))
    (deletion_restarts u n j among)

pub deletion_is : (v u : ValueParts) → IsHistory (deleted v ++ after_deletion u) × OfAllLeft (HasOverwritten (writes (deleted v)) 0) (deleted v) (after_deletion u) one_key × OfStandingLeft (HasOverwritten (writes (deleted v)) 0) (deleted v) (after_deletion u) one_key × (known (deleted v ++ after_deletion u) 2 one_key 0 ≡ true)
deletion_is v u = (deletion_fits v u, deletion_left v u, deletion_standing v u, refl)

-- ---- a loss

loss_fits : (v u : ValueParts) → IsHistory (lost v ++ after_loss u)
unfolding FitFrom
loss_fits v u =
    history_of (lost v ++ after_loss u)
    (tt, (tt, ((0, refl), (tt, ((omega arith, omega arith), (tt, (tt, ((0, refl), ((0, (one_key, refl)), (tt, ((0, (one_key, refl)), (tt, ((omega arith, omega arith), ((omega arith, omega arith), ((omega arith, omega arith), tt)))))))))))))))

loss_places : (v : ValueParts) → ArePlacesOf (lost v) lost_writes
loss_places v p is =
    ⊎_elim
    (λ zeroth. let e : p ≡ 0 = eqb-true p 0 zeroth in omega (arith, e))
    (λ second. let e : p ≡ 2 = eqb-true p 2 second in omega (arith, e))
    (or_cases (eqb p 0) (eqb p 2) is)

loss_restarts : (u : ValueParts) (n j : ℕ) → IsAmong (Restarted n j) (after_loss u) → ((n ≡ 0) × (j ≡ 3)) ⊎ (((n ≡ 1) × (j ≡ 1)) ⊎ ((n ≡ 2) × (j ≡ 0)))
loss_restarts u n j among = grind (arith, among)

loss_gets : (u : ValueParts) (n i : ℕ) → IsAmong (Got n i) (after_loss u) → (i ≡ 6) ⊎ (i ≡ 9)
loss_gets u n i among = grind (arith, among)

loss_uses : (u x : ValueParts) (n r : ℕ) → IsAmong (Wrote n one_key x (Some r)) (after_loss u) → r ≡ 5
loss_uses u x n r among = grind (arith, among)

loss_left : (v u : ValueParts) → OfAllLeft (HasNone lost_writes) (lost v) (after_loss u) one_key
unfolding NoneOf
loss_left v u = record {
  nodes = each_node (HasNone lost_writes) (lost v) one_key
      (λ n not_0 not_1. (not_0, (not_0, (not_0, (not_0, (not_0, (not_0, (not_0, tt))))))))
      (λ p is. refl) (λ p is. refl) (λ p is. refl);
  images = λ n j among made.
      ⊎_elim
      (λ is.
      let newest : newest_image (lost v) n ≡ 2 = ap (newest_image (lost v)) is.0 in
      let number : j ≡ 3 = is.1 in
      absurd (omega (arith, made, newest, number)))
      (λ more.
      ⊎_elim
      (λ is.
      let newest : newest_image (lost v) n ≡ 0 = ap (newest_image (lost v)) is.0 in
      let number : j ≡ 1 = is.1 in
      absurd (omega (arith, made, newest, number)))
      (λ is.
      subst (λ m. HasNone lost_writes (image (lost v) m j one_key)) (sym is.0)
      (subst (λ i. HasNone lost_writes (image (lost v) 2 i one_key)) (sym is.1) (λ p has. refl)))
      more)
      (loss_restarts u n j among);
  objects = λ n i among lt.
      ⊎_elim
      (λ is. subst (λ q. HasNone lost_writes (load (lost v) q one_key)) (sym is) (λ p has. refl))
      (λ is. absurd (omega (arith, lt, is)))
      (loss_gets u n i among);
}

loss_contexts : (v u : ValueParts) → OfContextsLeft (HasNone lost_writes) (lost v) (after_loss u) one_key
loss_contexts v u n r x among lt =
    subst (λ q. HasNone lost_writes (seen (lost v) q one_key)) (sym (loss_uses u x n r among)) (λ p has. refl)

pub loss_is : (v u : ValueParts) → IsHistory (lost v ++ after_loss u) × ArePlacesOf (lost v) lost_writes × OfAllLeft (HasNone lost_writes) (lost v) (after_loss u) one_key × OfContextsLeft (HasNone lost_writes) (lost v) (after_loss u) one_key
loss_is v u = (loss_fits v u, loss_places v, loss_left v u, loss_contexts v u)

-- ---- an image behind

behind_fits : (v : ValueParts) → IsHistory (deleted_elsewhere v ++ after_keeping)
unfolding FitFrom
behind_fits v =
    history_of (deleted_elsewhere v ++ after_keeping)
    (tt, (tt, ((0, (one_key, refl)), (tt, ((1, refl), (tt, ((1, (one_key, refl)), (tt, ((omega arith, omega arith), tt)))))))))

behind_restarts : (n j : ℕ) → IsAmong (Restarted n j) after_keeping → (n ≡ 0) × (j ≡ 2)
behind_restarts n j among = grind (arith, among)

behind_gets : (n i : ℕ) → IsAmong (Got n i) after_keeping → ⊥
behind_gets n i among = grind (arith, among)

behind_left : (v : ValueParts) → OfAllLeft (HasOverwritten (writes (deleted_elsewhere v)) 0) (deleted_elsewhere v) after_keeping one_key
unfolding NoneOf
behind_left v = record {
  nodes = each_node (HasOverwritten (writes (deleted_elsewhere v)) 0) (deleted_elsewhere v) one_key
      (λ n not_0 not_1. (not_0, (not_0, (not_1, (not_1, (not_1, (not_1, (not_0, tt))))))))
      (λ e. absurd (cc)) (λ e. refl) (λ e. refl);
  images = λ n j among made.
      let is = behind_restarts n j among in
      let newest : newest_image (deleted_elsewhere v) n ≡ 1 = ap (newest_image (deleted_elsewhere v)) is.0 in
      let number : j ≡ 2 = is.1 in
      absurd (omega (arith, made, newest, number));
  objects = λ n i among lt. absurd (behind_gets n i among);
}

-- the value, as it was written first
first_write : ValueParts → Write
first_write v = record { place = 0; writer = writer_number 0 1; key = one_key; value = v; read = empty }

pub behind_is : (v : ValueParts) → IsHistory (deleted_elsewhere v ++ after_keeping) × OfAllLeft (HasOverwritten (writes (deleted_elsewhere v)) 0) (deleted_elsewhere v) after_keeping one_key × ((w : Write) × ((w.place ≡ 0) × IsShown (deleted_elsewhere v ++ after_keeping) 0 one_key w))
unfolding first_write
behind_is v = (behind_fits v, behind_left v, (first_write v, (refl, (inr (inl refl), refl))))
