-- Each step keeps the rule of the copies.
use Rattle.std.proofs.Common.{◌≡◌, ℕ, ◌≢◌, List, [], ◌∷◌, ◌++◌, fold, length, refl, sym, ap, ◌∙◌, subst, ⊎_elim, append_assoc, Result, Ok, Err}
use Rattle.std.specs.Result.{MatchResult, OnOk}
use Rattle.std.proofs.lemmas.List.{append-nil}
use Rattle.std.proofs.lemmas.List.Sums.{fold_push}
use mathlib.Core.List.{IsPrefix}
use mathlib.Core.Option.{some}
use lib.ListN.{get_elem?}
use Rattle.left_right.specs.Register.{Admits, TurnsAt}
use Rattle.atomic_table.proofs.Lists.{at_set, at_snoc}
use Rattle.logbook.specs.Pages.{Book}
use Rattle.meta_store.specs.Table.{IsTable, Table}
use Rattle.node_readers.specs.Published.{Published, with_all, with_published}
use Rattle.node_readers.proofs.Beginnings.{prefix_self, prefix_trans}
use Rattle.node_readers.specs.Copies.{AdditionView, IsCopy, IsCopyOf, TableView, added_to, all_added_to, taken_in}
use Rattle.node_readers.specs.Growth.{Grows, GrowsBy, GrowsByAll}
use Rattle.node_readers.specs.Rule.{HoldsCopies, TakesCopy}
use Rattle.node_readers.specs.Spread.{IsSpreadOf, bucket_count, with_spread}
use Rattle.node_readers.proofs.Growing.{grows_first, grows_on}
use Rattle.node_readers.proofs.Spreading.{room_in, spread_on, whole_with}

-- a seat that knows nothing may come
pub admits : (book : Book) (opening : Table) → Admits (HoldsCopies book opening) []
admits book opening x known h = (h.0, (λ j u e. ⊎_elim (h.1 j u) (λ (t : [] ≡ u). subst (λ (w : List Published). IsPrefix w x.list) t (x.list, refl)) (at_snoc known [] u j e)))

-- y is the published copy after the step
pub turns : (book : Book) (opening : Table) (seat : ℕ) (v : List Published) (x y : TableView) → (IsCopy book opening x → IsCopy book opening y) → IsPrefix x.list y.list
    → TurnsAt (HoldsCopies book opening) seat v x y (TakesCopy book opening)
turns book opening seat v x y still up known h at = (
  y.list,
  (
    still h.0,
    (λ j u e. ⊎_elim (λ (t : (j ≡ seat) × (y.list ≡ u)). subst (λ (w : List Published). IsPrefix w y.list) t.1 (prefix_self y.list)) (λ (t : (j ≢ seat) × (get_elem? known j ≡ some u)). prefix_trans u x.list y.list (h.1 j u t.1) up)
        (at_set known seat j y.list u e)),
  ),
  (still h.0, prefix_trans v x.list y.list (h.1 seat v at) up, refl),
)

-- a look changes nothing
pub stays : (book : Book) (opening : Table) (seat : ℕ) (v : List Published) (x : TableView) → TurnsAt (HoldsCopies book opening) seat v x x (TakesCopy book opening)
stays book opening seat v x = turns book opening seat v x x (λ h. h) (prefix_self x.list)

-- the copy with one more change is one of this history
pub copy_after : (book : Book) (opening : Table) (x next : TableView) (c : AdditionView) → c.book ≡ book → c.list ≡ x.list ++ c.change ∷ [] → GrowsBy (with_all opening x.list) c.change
    → next ≡ taken_in x c → IsCopy book opening x → IsCopy book opening next
copy_after book opening x next c b l by is h =
    let list : next.list ≡ x.list ++ c.change ∷ [] = ap (λ k. k.list) is ∙ l in
    let before = with_all opening x.list in
    let all : with_published before c.change ≡ with_all opening next.list = sym (fold_push with_published opening x.list c.change) ∙ ap (λ l. with_all opening l) (sym list) in
    let spread : next.spread ≡ with_spread c.change.key c.change.object x.spread = ap (λ k. k.spread) is in
    record {
      history = ap (λ k. k.book) is ∙ b;
      content =
          subst (λ (t : Table). IsSpreadOf t next.spread) all
          (subst (IsSpreadOf (with_published before c.change)) (sym spread) (spread_on c.change.key c.change.object x.spread before (room_in c.change.key x.spread h.whole) h.content));
      whole = ap length spread ∙ whole_with c.change.key c.change.object x.spread ∙ h.whole;
      grows = subst (Grows opening) (sym list) (grows_on opening x.list c.change h.grows by);
    }

-- the copy that took all of these changes in has them
pub list_after : (book : Book) (x : TableView) (changes : List Published) → (fold taken_in x (all_added_to book x.list changes)).list ≡ x.list ++ changes
list_after book x [] = sym (append-nil x.list)
list_after book x (c ∷ changes) = list_after book (taken_in x (added_to book x.list c)) changes ∙ append_assoc x.list (c ∷ []) changes

-- and is one of this history
pub copy_after_all : (book : Book) (opening : Table) (x : TableView) (changes : List Published) → GrowsByAll (with_all opening x.list) changes → IsCopy book opening x
    → IsCopy book opening (fold taken_in x (all_added_to book x.list changes))
copy_after_all book opening x [] by h = h
copy_after_all book opening x (c ∷ changes) by h =
    let one = taken_in x (added_to book x.list c) in
    let first : IsCopy book opening one = copy_after book opening x one (added_to book x.list c) refl refl by.0 refl h in
    let rest : GrowsByAll (with_all opening one.list) changes = subst (λ (t : Table). GrowsByAll t changes) (sym (fold_push with_published opening x.list c)) by.1 in
    copy_after_all book opening one changes rest first

-- these changes of a history with the changes of the list are all that is pending
pub record Pends (book : Book) (list changes : List Published) (x : TableView) (pending : List AdditionView) : Type 0 where
  pub known : x.list ≡ list
  pub all : pending ≡ all_added_to book list changes

-- where nothing was pending before
pub pends_all : (book : Book) (list changes : List Published) (x : TableView) (before pending : List AdditionView) → x.list ≡ list → before ≡ [] → pending ≡ before ++ all_added_to book list changes
    → Pends book list changes x pending
pends_all book list changes x before pending known none all = record { known = known; all = all ∙ ap (λ w. w ++ all_added_to book list changes) none }

-- what took in all that is pending
pub took_all : (book : Book) (list changes : List Published) (x next : TableView) (pending : List AdditionView) → Pends book list changes x pending → next ≡ fold taken_in x pending
    → next ≡ fold taken_in x (all_added_to book x.list changes)
took_all book list changes x next pending are is = is ∙ ap (fold taken_in x) (are.all ∙ ap (λ l. all_added_to book l changes) (sym are.known))

pub list_took : (book : Book) (list changes : List Published) (x next : TableView) (pending : List AdditionView) → Pends book list changes x pending → next ≡ fold taken_in x pending
    → next.list ≡ list ++ changes
list_took book list changes x next pending are is =
    ap (λ k. k.list) (took_all book list changes x next pending are is) ∙ list_after book x changes ∙ ap (λ l. l ++ changes) are.known

pub takes_all : (book : Book) (opening : Table) (seat : ℕ) (v list changes : List Published) (x next : TableView) (pending : List AdditionView) → Pends book list changes x pending
    → GrowsByAll (with_all opening list) changes → next ≡ fold taken_in x pending → TurnsAt (HoldsCopies book opening) seat v x next (TakesCopy book opening)
takes_all book opening seat v list changes x next pending are by is =
    let grows : GrowsByAll (with_all opening x.list) changes = subst (λ (l : List Published). GrowsByAll (with_all opening l) changes) (sym are.known) by in
    let after = took_all book list changes x next pending are is in
    turns book opening seat v x next (λ h. subst (IsCopy book opening) (sym after) (copy_after_all book opening x changes grows h))
    (changes, sym (list_after book x changes) ∙ sym (ap (λ k. k.list) after))

-- what follows from two facts of an `Ok`
pub on_both : {U E A B C : Type 0} (r : Result U E) (P Q : E → Type 0) → MatchResult r (λ _. A) P → MatchResult r (λ _. B) Q → (A → B → C) → OnOk r C
on_both (Ok x) P Q a b f = f a b
on_both (Err e) P Q a b f = tt

-- ---- the first copy

-- the opening table, before any change
pub first_copy : (book : Book) (opening : Table) (list : List Published) (x : TableView) → list ≡ [] → IsTable opening → x.book ≡ book → x.list ≡ list → IsSpreadOf opening x.spread → length x.spread ≡ bucket_count
    → IsCopyOf book opening list x
first_copy book opening list x none is b l t whole =
    let nothing : x.list ≡ [] = l ∙ none in
    record {
      changes = l;
      is_copy = record {
        history = b;
        content = subst (λ (t : Table). IsSpreadOf t x.spread) (ap (λ k. with_all opening k) (sym nothing)) t;
        whole = whole;
        grows = subst (Grows opening) (sym nothing) (grows_first opening is);
      };
    }

-- it may be published: the writer knows nothing yet
pub first_holds : (book : Book) (opening : Table) (x : TableView) → IsCopy book opening x → HoldsCopies book opening x ([] ∷ [])
first_holds book opening x is = (
  is,
  (λ j u e. ⊎_elim (λ (t : get_elem? [] j ≡ some u). absurd (cc t)) (λ (t : [] ≡ u). subst (λ (w : List Published). IsPrefix w x.list) t (x.list, refl)) (at_snoc [] [] u j e)),
)
