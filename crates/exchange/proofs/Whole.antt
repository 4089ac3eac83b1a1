-- What both sides hold at the end of an exchange: under one key, and under every key.
use Rattle.std.proofs.Common.{◌≡◌, ℕ, List, [], take, Some, None, inl, inr, ⊎_elim, refl, sym, ap, subst, ◌∙◌}
use Rattle.std.specs.Prelude.{◌⊎◌}
use Rattle.std.specs.Option.{unwrap_or}
use Rattle.std.specs.FinMap.{find}
use Rattle.meta_types.specs.Name.{Key}
use Rattle.meta_types.specs.Order.{key_cmp}
use Rattle.dvvset.specs.Object.{Entry}
use Rattle.dvvset.specs.Clock.{sync}
use Rattle.past_model.specs.declared.happening.Happening.{Happening}
use Rattle.past_model.specs.Sets.{Knowledge, Places, union, union_by_key}
use Rattle.past_model.specs.Past.{writes}
use Rattle.past_model.specs.History.{IsHistory}
use Rattle.past_model.specs.Shown.{IsObjectOf}
use Rattle.past_model.proofs.Order.{subset_left, subset_right}
use Rattle.meta_frame.specs.declared.message.Message.TheVariants.{XObject, XRoot, XWant}
use Rattle.meta_store.specs.Table.{IsTable, Table, object_at}
use Rattle.hash_tree.specs.Tree.{rows_of, tree_root}
use Rattle.hash_tree.specs.Hashed.{Collides}
use Rattle.hash_tree.proofs.Lookups.{every_key}
use Rattle.exchange.specs.Answers.{answers_to}
use Rattle.exchange.specs.Whole.{StayBetween, EndInUnion, Holds, IsBetween, Reconciled, answers_in_turn, answers_to_all, here_after, offers, table_after_all, there_after, wanted}
use Rattle.exchange.proofs.Finding.{Alike, asked, sent}
use Rattle.exchange.proofs.Members.{In}
use Rattle.exchange.proofs.Taken.{Each, Each-flat_map, Each-take}
use Rattle.exchange.proofs.Merging.{Absorbs, Between, Carries, Has, absorbs_ours, absorbs_theirs, all_is_ours, all_is_same, all_is_theirs, answer_carries, between_all, both_object, taken_all, turns_carry, wants_answered}

-- what there holds is offered, unless here holds the same
abbrev pub AreSent : Table → Table → Type 0
AreSent here there = (k : Key) (object : List Entry) → find key_cmp k there ≡ Some object → Alike here there k ⊎ In (XObject k object) (offers here there)

-- what here holds is asked for, unless there holds the same
abbrev pub AreAsked : Table → Table → Type 0
AreAsked here there = (k : Key) (object : List Entry) → find key_cmp k here ≡ Some object → Alike here there k ⊎ In (XWant k) (offers here there)

module _ (here there : Table) (hs : List Happening) (history : IsHistory hs) (k : Key) (S T : Places) (ours : IsObjectOf (writes hs) k S (object_at here k)) (theirs : IsObjectOf (writes hs) k T (object_at there k)) where
  -- what both know together
  abbrev all : List Entry
  all = sync (object_at here k) (object_at there k)

  offers_carry : Each (Carries k (λ o. o ≡ object_at there k)) (offers here there)
  unfolding offers
  offers_carry =
      Each-flat_map (Carries k (λ o. o ≡ object_at there k)) (answers_to there) (answer_carries there k)
      (answers_to_all here (answers_to_all there (answers_to_all here (answers_to there (XRoot (tree_root (rows_of here)))))))

  absorbs_here : Absorbs (object_at here k) all (λ o. o ≡ object_at there k)
  absorbs_here = absorbs_theirs hs history k S T (object_at here k) (object_at there k) ours theirs

  absorbs_there : Absorbs (object_at there k) all (Between (object_at here k) all)
  absorbs_there = absorbs_ours hs history k S T (object_at here k) (object_at there k) ours theirs

  wanted_carry : Each (Carries k (Between (object_at here k) all)) (wanted here there)
  unfolding wanted
  wanted_carry = turns_carry k (object_at here k) all (λ o. o ≡ object_at there k) absorbs_here (offers here there) here offers_carry (inl refl)

  here_between : (n : ℕ) → Between (object_at here k) all (object_at (table_after_all here (take n (offers here there))) k)
  here_between n =
      between_all k (object_at here k) all (λ o. o ≡ object_at there k) absorbs_here (take n (offers here there)) here
      (Each-take (Carries k (λ o. o ≡ object_at there k)) n (offers here there) offers_carry) (inl refl)

  there_between : (m : ℕ) → Between (object_at there k) all (object_at (table_after_all there (take m (wanted here there))) k)
  there_between m =
      between_all k (object_at there k) all (Between (object_at here k) all) absorbs_there (take m (wanted here there)) there
      (Each-take (Carries k (Between (object_at here k) all)) m (wanted here there) wanted_carry) (inl refl)

  here_settled : object_at here k ≡ all → object_at (here_after here there) k ≡ all
  unfolding here_after
  here_settled is =
      let at_end : Between (object_at here k) all (object_at (table_after_all here (offers here there)) k) =
      between_all k (object_at here k) all (λ o. o ≡ object_at there k) absorbs_here (offers here there) here offers_carry (inl refl) in
      ⊎_elim (λ e. e ∙ is) (λ e. e) at_end

  there_settled : object_at there k ≡ all → object_at (there_after here there) k ≡ all
  unfolding there_after
  there_settled is =
      let at_end : Between (object_at there k) all (object_at (table_after_all there (wanted here there)) k) =
      between_all k (object_at there k) all (Between (object_at here k) all) absorbs_there (wanted here there) there wanted_carry (inl refl) in
      ⊎_elim (λ e. e ∙ is) (λ e. e) at_end

  ours_is_all : object_at there k ≡ [] → object_at here k ≡ all
  ours_is_all e = sym (all_is_ours hs history k S T (object_at here k) (object_at there k) ours theirs e)

  theirs_is_all : object_at here k ≡ [] → object_at there k ≡ all
  theirs_is_all e = sym (all_is_theirs hs history k S T (object_at here k) (object_at there k) ours theirs e)

  same_is_all : find key_cmp k here ≡ find key_cmp k there → object_at here k ≡ all
  same_is_all e = sym (all_is_same hs history k S T (object_at here k) (object_at there k) ours theirs (ap (λ f. unwrap_or f []) e))

  here_took : (o : List Entry) → In (XObject k o) (offers here there) → object_at (here_after here there) k ≡ all
  unfolding here_after
  here_took o m = taken_all k (object_at here k) all (λ z. z ≡ object_at there k) absorbs_here (offers here there) here o offers_carry (inl refl) m

  there_took : Has k here → In (XWant k) (offers here there) → object_at (there_after here there) k ≡ all
  unfolding there_after wanted
  there_took has m =
      let got : (o : List Entry) × In (XObject k o) (answers_in_turn here (offers here there)) = wants_answered k (offers here there) here has m in
      taken_all k (object_at there k) all (Between (object_at here k) all) absorbs_there (answers_in_turn here (offers here there)) there got.0 wanted_carry (inl refl) got.1

  -- at the end both hold all
  abbrev Ended : Type 0
  Ended = (object_at (here_after here there) k ≡ all) × (object_at (there_after here there) k ≡ all)

  neither_held : find key_cmp k here ≡ None → find key_cmp k there ≡ None → Ended
  neither_held e f =
      (here_settled (ours_is_all (ap (λ x. unwrap_or x []) f)), there_settled (theirs_is_all (ap (λ x. unwrap_or x []) e)))

  here_ended : AreSent here there → (object_at (here_after here there) k ≡ all) ⊎ Collides here there
  here_ended sent =
      elim (find key_cmp k there) as (λ f. find key_cmp k there ≡ f → (object_at (here_after here there) k ≡ all) ⊎ Collides here there) [
        | None ↦ λ e. inl (here_settled (ours_is_all (ap (λ x. unwrap_or x []) e)))
        | Some o ↦ λ e.
            ⊎_elim
            (λ alike. ⊎_elim (λ same. inl (here_settled (same_is_all same))) inr alike)
            (λ m. inl (here_took o m))
            (sent k o e)
      ] refl

  there_ended : AreAsked here there → (object_at (there_after here there) k ≡ all) ⊎ Collides here there
  there_ended asked =
      elim (find key_cmp k here) as (λ f. find key_cmp k here ≡ f → (object_at (there_after here there) k ≡ all) ⊎ Collides here there) [
        | None ↦ λ e. inl (there_settled (theirs_is_all (ap (λ x. unwrap_or x []) e)))
        | Some o ↦ λ e.
            ⊎_elim
            (λ alike. ⊎_elim (λ same. inl (there_settled (ap (λ x. unwrap_or x []) (sym same) ∙ same_is_all same))) inr alike)
            (λ m. inl (there_took (o, e) m))
            (asked k o e)
      ] refl

  ended : AreSent here there → AreAsked here there → Ended ⊎ Collides here there
  ended sent asked = ⊎_elim (λ h. ⊎_elim (λ t. inl (h, t)) inr (there_ended asked)) inr (here_ended sent)

  -- what stands between what was known and all
  between_ours : (z : List Entry) → Between (object_at here k) all z → IsBetween hs k S (union S T) z
  between_ours z at_z =
      ⊎_elim
      (λ e. record { set = S; object_of = subst (IsObjectOf (writes hs) k S) (sym e) ours; at_least = record { within = λ p h. h }; at_most = subset_left S T })
      (λ e. record {
        set = union S T;
        object_of = subst (IsObjectOf (writes hs) k (union S T)) (sym e) (both_object hs history k S T (object_at here k) (object_at there k) ours theirs);
        at_least = subset_left S T;
        at_most = record { within = λ p h. h };
      })
      at_z

  between_theirs : (z : List Entry) → Between (object_at there k) all z → IsBetween hs k T (union S T) z
  between_theirs z at_z =
      ⊎_elim
      (λ e. record { set = T; object_of = subst (IsObjectOf (writes hs) k T) (sym e) theirs; at_least = record { within = λ p h. h }; at_most = subset_right S T })
      (λ e. record {
        set = union S T;
        object_of = subst (IsObjectOf (writes hs) k (union S T)) (sym e) (both_object hs history k S T (object_at here k) (object_at there k) ours theirs);
        at_least = subset_right S T;
        at_most = record { within = λ p h. h };
      })
      at_z

  here_is_between : (n : ℕ) → IsBetween hs k S (union S T) (object_at (table_after_all here (take n (offers here there))) k)
  here_is_between n = between_ours (object_at (table_after_all here (take n (offers here there))) k) (here_between n)

  there_is_between : (m : ℕ) → IsBetween hs k T (union S T) (object_at (table_after_all there (take m (wanted here there))) k)
  there_is_between m = between_theirs (object_at (table_after_all there (take m (wanted here there))) k) (there_between m)

-- ---- under every key

module _ (hs : List Happening) (history : IsHistory hs) (known others : Knowledge) (here there : Table) (ours : Holds hs known here) (theirs : Holds hs others there) where
  holds_all : (end : Table) → ((k : Key) → object_at end k ≡ sync (object_at here k) (object_at there k)) → Holds hs (union_by_key known others) end
  holds_all end is = record {
    each = λ k. subst (IsObjectOf (writes hs) k (union (known k) (others k))) (sym (is k)) (both_object hs history k (known k) (others k) (object_at here k) (object_at there k) (ours.each k) (theirs.each k));
  }

  every_ended : AreSent here there → AreAsked here there → Reconciled hs known others (here_after here there) (there_after here there) ⊎ Collides here there
  every_ended sent asked =
      ⊎_elim
      (λ (each : (k : Key) → Ended here there hs history k (known k) (others k) (ours.each k) (theirs.each k)). inl (record {
        here_holds = holds_all (here_after here there) (λ k. (each k).0);
        there_holds = holds_all (there_after here there) (λ k. (each k).1);
      }))
      inr
      (every_key here there (λ k. Ended here there hs history k (known k) (others k) (ours.each k) (theirs.each k)) (Collides here there)
      (λ k. ended here there hs history k (known k) (others k) (ours.each k) (theirs.each k) sent asked)
      (λ k. neither_held here there hs history k (known k) (others k) (ours.each k) (theirs.each k)))

-- at the end both hold the union, or two unequal byte strings collide
pub union_whole : (here there : Table) → IsTable here → IsTable there → EndInUnion here there (here_after here there) (there_after here there)
unfolding EndInUnion
union_whole here there table other =
    λ hs history known others ours theirs. every_ended hs history known others here there ours theirs (sent here there table other) (asked here there table other)

-- however much was taken, each side knows at least what it knew, and at most the union
pub no_more : (here there : Table) (n m : ℕ)
    → StayBetween here there (table_after_all here (take n (offers here there)))
    (table_after_all there (take m (wanted here there)))
unfolding StayBetween
no_more here there n m = λ hs history known others ours theirs. record {
  here_holds = record { each = λ k. here_is_between here there hs history k (known k) (others k) (ours.each k) (theirs.each k) n };
  there_holds = record { each = λ k. there_is_between here there hs history k (known k) (others k) (ours.each k) (theirs.each k) m };
}
