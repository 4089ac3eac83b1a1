-- What a message is answered is what its row says.
use Rattle.std.proofs.Common.{◌≡◌, ℕ, List, Result, IfOk, refl, sym, subst}
use Rattle.std.specs.declared.alloc.AllocError.{AllocError}
use Rattle.meta_types.specs.Name.{Prefix}
use Rattle.meta_frame.specs.declared.message.Message.{Message}
use Rattle.meta_frame.specs.declared.message.Message.TheVariants.{XInner, XLeaves}
use Rattle.meta_store.specs.Table.{Table}
use Rattle.hash_tree.specs.Tree.{Digest}
use Rattle.exchange.specs.Answers.{answers_to, answer_inner, answer_leaves}

module _ (table : Table) (p : Prefix) (ds es : List Digest) (read : es ≡ ds) (m : Message) {A : Type 0} (items : A → List Message) (r : Result A AllocError) where
  abbrev Answers : List Message → Type 0
  Answers messages = IfOk r (λ v. items v ≡ messages)

  by_row : (k : Message) (row : List Digest → List Message) → m ≡ k → answers_to table k ≡ row ds → Answers (row es) → Answers (answers_to table m)
  by_row k row is of_row told =
      subst (λ n. Answers (answers_to table n)) (sym is) (subst Answers (sym of_row) (subst (λ xs. Answers (row xs)) read told))

  pub answers_inner : m ≡ XInner p ds → Answers (answer_inner table p es) → Answers (answers_to table m)
  unfolding answers_to
  answers_inner is told = by_row (XInner p ds) (answer_inner table p) is refl told

  pub answers_leaves : (inner : ℕ) → m ≡ XLeaves p inner ds → Answers (answer_leaves table p inner es) → Answers (answers_to table m)
  unfolding answers_to
  answers_leaves inner is told = by_row (XLeaves p inner ds) (answer_leaves table p inner) is refl told
