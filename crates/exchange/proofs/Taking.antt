-- Steps of the loops that take messages, and what a whole exchange is refused with.
use Rattle.std.proofs.Common.{◌≡◌, ℕ, ◌+◌, ◌<◌, suc, List, [], ◌∷◌, ◌++◌, length, get_or, take, drop, Option, Some, None, Result, IfOk, sym, ap, subst, refl, ◌∙◌, arith, append_assoc}
use Rattle.std.specs.Option.{option_or}
use Rattle.std.proofs.Math.Seq.{drop-cons}
use Rattle.std.proofs.lemmas.List.{take_more}
use Rattle.std.specs.declared.alloc.AllocError.{AllocError}
use Rattle.meta_frame.specs.declared.message.Message.{Message}
use Rattle.meta_frame.specs.declared.message.Message.TheVariants.{XRoot}
use Rattle.meta_store.specs.Table.{Table}
use Rattle.meta_store.specs.declared.fault.StoreFault.{StoreFault}
use Rattle.hash_tree.specs.Tree.{rows_of, tree_root}
use Rattle.exchange.specs.Answers.{answers_to}
use Rattle.exchange.specs.Whole.{answers_in_turn, answers_to_all, offers, refusal_of_one, refusal_of_all, table_after, table_after_all}

after_append : (xs ys : List Message) (t : Table) → table_after_all t (xs ++ ys) ≡ table_after_all (table_after_all t xs) ys
after_append [] ys t = refl
after_append (x ∷ xs) ys t = after_append xs ys (table_after t x)

dropped : (ms : List Message) (i : ℕ) (m : Message) → i < length ms → m ≡ get_or ms i m → drop i ms ≡ m ∷ drop (i + 1) ms
dropped ms i m lt is =
    drop-cons ms i m lt ∙ ap (λ x. x ∷ drop (suc i) ms) (sym is) ∙ ap (λ k. m ∷ drop k ms) (let e : suc i ≡ i + 1 = omega arith in e)

module _ (t : Table) (ms : List Message) (i : ℕ) (m : Message) (lt : i < length ms) (is : m ≡ get_or ms i m) where
  -- one more is answered
  pub answered_more : (done more new all : List Message) → more ≡ answers_to t m → new ≡ done ++ more → done ++ answers_to_all t (drop i ms) ≡ all → new ++ answers_to_all t (drop (i + 1) ms) ≡ all
  answered_more done more new all said made e =
      ap (λ xs. xs ++ answers_to_all t (drop (i + 1) ms)) made
      ∙ append_assoc done more (answers_to_all t (drop (i + 1) ms))
      ∙ ap (λ xs. done ++ (xs ++ answers_to_all t (drop (i + 1) ms))) said
      ∙ sym (ap (λ xs. done ++ answers_to_all t xs) (dropped ms i m lt is)) ∙ e

  -- the message is refused, and so is the whole
  pub refused_here : (f : StoreFault) (all : Option StoreFault) → refusal_of_one t m ≡ Some f → refusal_of_all t (drop i ms) ≡ all → all ≡ Some f
  refused_here f all refused e =
      sym e ∙ ap (refusal_of_all t) (dropped ms i m lt is) ∙ ap (λ r. option_or r (refusal_of_all (table_after t m) (drop (i + 1) ms))) refused

  module _ (next : Table) (step : next ≡ table_after t m) where
    pub front_more : (start : Table) → t ≡ table_after_all start (take i ms) → next ≡ table_after_all start (take (i + 1) ms)
    front_more start e =
        step ∙ ap (λ x. table_after x m) e
        ∙ sym (ap (table_after_all start) (take_more ms i m lt ∙ ap (λ x. take i ms ++ x ∷ []) (sym is)) ∙ after_append (take i ms) (m ∷ []) start)

    pub rest_more : (end : Table) → table_after_all t (drop i ms) ≡ end → table_after_all next (drop (i + 1) ms) ≡ end
    rest_more end e = ap (λ x. table_after_all x (drop (i + 1) ms)) step ∙ sym (ap (table_after_all t) (dropped ms i m lt is)) ∙ e

    pub told_more : (done more new all : List Message) → more ≡ answers_to next m → new ≡ done ++ more → done ++ answers_in_turn t (drop i ms) ≡ all → new ++ answers_in_turn next (drop (i + 1) ms) ≡ all
    told_more done more new all said made e =
        ap (λ xs. xs ++ answers_in_turn next (drop (i + 1) ms)) made
        ∙ append_assoc done more (answers_in_turn next (drop (i + 1) ms))
        ∙ ap (λ xs. done ++ (xs ++ answers_in_turn next (drop (i + 1) ms))) said
        ∙ ap (λ x. done ++ (answers_to x m ++ answers_in_turn x (drop (i + 1) ms))) step
        ∙ sym (ap (λ xs. done ++ answers_in_turn t xs) (dropped ms i m lt is)) ∙ e

    pub refusal_more : (all : Option StoreFault) → refusal_of_one t m ≡ None → refusal_of_all t (drop i ms) ≡ all → refusal_of_all next (drop (i + 1) ms) ≡ all
    refusal_more all none e =
        ap (λ x. refusal_of_all x (drop (i + 1) ms)) step
        ∙ sym (ap (refusal_of_all t) (dropped ms i m lt is) ∙ ap (λ r. option_or r (refusal_of_all (table_after t m) (drop (i + 1) ms))) none) ∙ e

-- ---- five rounds of digests

module _ (here there : Table) {A : Type 0} (items : A → List Message) (r : Result A AllocError) where
  pub offered : (root : Message) (first second third fourth : List Message) → root ≡ XRoot (tree_root (rows_of here)) → first ≡ answers_to there root → second ≡ answers_to_all here first
      → third ≡ answers_to_all there second → fourth ≡ answers_to_all here third → IfOk r (λ v. items v ≡ answers_to_all there fourth) → IfOk r (λ v. items v ≡ offers here there)
  unfolding offers
  offered root first second third fourth begins one two three four told =
      subst (λ xs. IfOk r (λ v. items v ≡ xs))
      (ap (answers_to_all there) (four ∙ ap (answers_to_all here) (three ∙ ap (answers_to_all there) (two ∙ ap (answers_to_all here) (one ∙ ap (answers_to there) begins)))))
      told
