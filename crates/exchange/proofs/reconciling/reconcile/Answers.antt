use Rattle.std.proofs.Common.{refl, subst}
use Rattle.meta_store.specs.Table.{IsTable}
use Rattle.meta_store.specs.declared.fault.StoreFault.TheVariants.{Memory}
use Rattle.meta_store.proofs.Maps.{on_ok_more}
use Rattle.exchange.proofs.Ending.{front_is, front_there, here_is, if_err_more, no_more_than, none_refused, refused_first, refused_second, there_is, union_of}
use Rattle.exchange.proofs.reconciling.reconcile.Goals as goal

pub returns-in_err-offered-clause-between : goal.returns-in_err-offered-clause-between
returns-in_err-offered-clause-between c =
    no_more_than c.args.here.now c.args.there.now c.args.here.now c.args.there.now (0, refl) (0, refl)

pub returns-in-Err-clause-between : goal.returns-in-Err-clause-between
returns-in-Err-clause-between c =
    no_more_than c.args.here.now c.args.there.now c.take_round.new.held c.args.there.now
    (front_is c.args.here.now c.args.there.now c.in_ok-offered.offered.items c.in_ok-offered.ensures c.take_round.new.held c.in-Err.ensures.front) (0, refl)

pub returns-in-Err-clause-fault : goal.returns-in-Err-clause-fault
returns-in-Err-clause-fault c = refused_first c.args.here.now c.args.there.now c.in_ok-offered.offered.items c.in_ok-offered.ensures c.in-Err.fault Memory c.in-Err.ensures.fault

pub returns-in-Ok-clause-union : goal.returns-in-Ok-clause-union
returns-in-Ok-clause-union c =
    on_ok_more c.take_last.result
    (λ e. union_of c.args.here.now c.args.there.now c.take_round.new.held c.take_last.new.held (subst IsTable c.store.ensures c.len.ensures.is_table) (subst IsTable c.store-2.ensures c.len-2.ensures.is_table)
    (here_is c.args.here.now c.args.there.now c.in_ok-offered.offered.items c.in_ok-offered.ensures c.take_round.new.held c.in-Ok.ensures.value)
    (there_is c.args.here.now c.args.there.now c.in_ok-offered.offered.items c.in_ok-offered.ensures c.in-Ok.wanted.items c.in-Ok.ensures.answers c.take_last.new.held e))
    c.take_last.ensures.value

pub returns-in-Ok-clause-between : goal.returns-in-Ok-clause-between
returns-in-Ok-clause-between c =
    no_more_than c.args.here.now c.args.there.now c.take_round.new.held c.take_last.new.held
    (front_is c.args.here.now c.args.there.now c.in_ok-offered.offered.items c.in_ok-offered.ensures c.take_round.new.held c.in-Ok.ensures.front)
    (front_there c.args.here.now c.args.there.now c.in_ok-offered.offered.items c.in_ok-offered.ensures c.in-Ok.wanted.items c.in-Ok.ensures.answers c.take_last.new.held c.take_last.ensures.front)

pub returns-in-Ok-clause-here : goal.returns-in-Ok-clause-here
returns-in-Ok-clause-here c =
    on_ok_more c.take_last.result (λ e. here_is c.args.here.now c.args.there.now c.in_ok-offered.offered.items c.in_ok-offered.ensures c.take_round.new.held c.in-Ok.ensures.value) c.take_last.ensures.value

pub returns-in-Ok-clause-there : goal.returns-in-Ok-clause-there
returns-in-Ok-clause-there c =
    on_ok_more c.take_last.result (λ e. there_is c.args.here.now c.args.there.now c.in_ok-offered.offered.items c.in_ok-offered.ensures c.in-Ok.wanted.items c.in-Ok.ensures.answers c.take_last.new.held e) c.take_last.ensures.value

pub returns-in-Ok-clause-no_refusal : goal.returns-in-Ok-clause-no_refusal
returns-in-Ok-clause-no_refusal c =
    on_ok_more c.take_last.result (λ e. none_refused c.args.here.now c.args.there.now c.in_ok-offered.offered.items c.in_ok-offered.ensures c.in-Ok.wanted.items c.in-Ok.ensures.answers c.in-Ok.ensures.no_refusal e) c.take_last.ensures.no_refusal

pub returns-in-Ok-clause-fault : goal.returns-in-Ok-clause-fault
returns-in-Ok-clause-fault c =
    if_err_more c.take_last.result (λ f e. refused_second c.args.here.now c.args.there.now c.in_ok-offered.offered.items c.in_ok-offered.ensures c.in-Ok.wanted.items c.in-Ok.ensures.answers f Memory c.in-Ok.ensures.no_refusal e) c.take_last.ensures.fault

pub returns-in_err-offered-clause-front_here : goal.returns-in_err-offered-clause-front_here
returns-in_err-offered-clause-front_here c = (0, refl)

pub returns-in_err-offered-clause-front_there : goal.returns-in_err-offered-clause-front_there
returns-in_err-offered-clause-front_there c = (0, refl)

pub returns-in-Err-clause-front_here : goal.returns-in-Err-clause-front_here
returns-in-Err-clause-front_here c = front_is c.args.here.now c.args.there.now c.in_ok-offered.offered.items c.in_ok-offered.ensures c.take_round.new.held c.in-Err.ensures.front

pub returns-in-Err-clause-front_there : goal.returns-in-Err-clause-front_there
returns-in-Err-clause-front_there c = (0, refl)

pub returns-in-Ok-clause-front_here : goal.returns-in-Ok-clause-front_here
returns-in-Ok-clause-front_here c = front_is c.args.here.now c.args.there.now c.in_ok-offered.offered.items c.in_ok-offered.ensures c.take_round.new.held c.in-Ok.ensures.front

pub returns-in-Ok-clause-front_there : goal.returns-in-Ok-clause-front_there
returns-in-Ok-clause-front_there c = front_there c.args.here.now c.args.there.now c.in_ok-offered.offered.items c.in_ok-offered.ensures c.in-Ok.wanted.items c.in-Ok.ensures.answers c.take_last.new.held c.take_last.ensures.front
