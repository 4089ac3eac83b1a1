-- What a whole exchange leaves on both sides, and what it is refused with, round by round.
use Rattle.std.proofs.Common.{◌≡◌, List, Some, None, Result, Ok, Err, IfErr, inl, inr, ⊎_elim, take, sym, ap, subst, ◌∙◌}
use Rattle.std.specs.Prelude.{◌⊎◌}
use Rattle.std.specs.Option.{option_or}
use Rattle.meta_frame.specs.declared.message.Message.{Message}
use Rattle.meta_store.specs.Table.{IsTable, Table}
use Rattle.meta_store.specs.declared.fault.StoreFault.{StoreFault}
use Rattle.exchange.specs.Whole.{StayBetween, EndInUnion, TookFront, answers_in_turn, here_after, offers, refusal_of_all, refusal_of_exchange, table_after_all, there_after, wanted}
use Rattle.exchange.proofs.Whole.{no_more, union_whole}

module _ (here there : Table) (offered : List Message) (are : offered ≡ offers here there) where
  pub here_is : (end : Table) → end ≡ table_after_all here offered → end ≡ here_after here there
  unfolding here_after
  here_is end e = e ∙ ap (table_after_all here) are

  pub wanted_are : (ms : List Message) → ms ≡ answers_in_turn here offered → ms ≡ wanted here there
  unfolding wanted
  wanted_are ms e = e ∙ ap (answers_in_turn here) are

  pub refused_first : (f want : StoreFault) → (f ≡ want) ⊎ (refusal_of_all here offered ≡ Some f) → (f ≡ want) ⊎ (refusal_of_exchange here there ≡ Some f)
  unfolding refusal_of_exchange
  refused_first f want h =
      ⊎_elim inl (λ e. inr (ap (λ r. option_or r (refusal_of_all there (wanted here there))) (sym (ap (refusal_of_all here) are) ∙ e))) h

  pub front_is : (end : Table) → TookFront here offered end → TookFront here (offers here there) end
  front_is end front = (front.0, front.1 ∙ ap (λ ms. table_after_all here (take front.0 ms)) are)

  module _ (ms : List Message) (told : ms ≡ answers_in_turn here offered) where
    pub there_is : (end : Table) → end ≡ table_after_all there ms → end ≡ there_after here there
    unfolding there_after
    there_is end e = e ∙ ap (table_after_all there) (wanted_are ms told)

    pub front_there : (end : Table) → TookFront there ms end → TookFront there (wanted here there) end
    front_there end front = (front.0, front.1 ∙ ap (λ xs. table_after_all there (take front.0 xs)) (wanted_are ms told))

    pub refused_second : (f want : StoreFault) → refusal_of_all here offered ≡ None → (f ≡ want) ⊎ (refusal_of_all there ms ≡ Some f) → (f ≡ want) ⊎ (refusal_of_exchange here there ≡ Some f)
    unfolding refusal_of_exchange
    refused_second f want none h =
        ⊎_elim inl
        (λ e. inr (
        ap (λ r. option_or r (refusal_of_all there (wanted here there))) (sym (ap (refusal_of_all here) are) ∙ none)
        ∙ sym (ap (refusal_of_all there) (wanted_are ms told)) ∙ e))
        h

    pub none_refused : refusal_of_all here offered ≡ None → refusal_of_all there ms ≡ None → refusal_of_exchange here there ≡ None
    unfolding refusal_of_exchange
    none_refused none none_there =
        ap (λ r. option_or r (refusal_of_all there (wanted here there))) (sym (ap (refusal_of_all here) are) ∙ none)
        ∙ sym (ap (refusal_of_all there) (wanted_are ms told)) ∙ none_there

pub no_more_than : (here there here_end there_end : Table) → TookFront here (offers here there) here_end → TookFront there (wanted here there) there_end → StayBetween here there here_end there_end
no_more_than here there here_end there_end front back =
    subst (λ h. StayBetween here there h there_end) (sym front.1)
    (subst (λ t. StayBetween here there (table_after_all here (take front.0 (offers here there))) t) (sym back.1) (no_more here there front.0 back.0))

pub union_of : (here there here_end there_end : Table) → IsTable here → IsTable there → here_end ≡ here_after here there → there_end ≡ there_after here there → EndInUnion here there here_end there_end
union_of here there here_end there_end table other h t =
    subst (λ x. EndInUnion here there x there_end) (sym h)
    (subst (λ x. EndInUnion here there (here_after here there) x) (sym t) (union_whole here there table other))

pub if_err_more : {A E : Type 0} {P Q : E → Type 0} (r : Result A E) → ((e : E) → P e → Q e) → IfErr r P → IfErr r Q
if_err_more (Ok x) f p = tt
if_err_more (Err e) f p = f e p
