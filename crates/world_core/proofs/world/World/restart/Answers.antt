use Rattle.std.proofs.Common.{rules, ◌≡◌, inr, refl, sym, ap, subst, ◌∙◌}
use Rattle.std.specs.Prelude.{slice_set}
use Rattle.world_core.specs.Outcome.{Accepts}
use Rattle.world_core.specs.Refusal.{RefusesEvent}
use Rattle.world_core.specs.World.{World}
use Rattle.world_core.specs.Invariant.{IsWorld}
use Rattle.world_core.specs.contracts.world.World.{the_view}
use Rattle.world_core.specs.declared.event.Event.TheVariants.{Restart}
use Rattle.world_core.specs.declared.fault.WorldFault.TheVariants.{NoSuchNode}
use Rattle.world_core.proofs.Accepting.{Begins, begins, restart_answer, left_restarted, restart_accepts, restart_world}
use Rattle.world_core.proofs.Chronicles.{after_restart, restart_answer_same, put_back, same_world}
use Rattle.world_core.proofs.Outcomes.{accepts_left, kept, memory, refused, world_of}
use Rattle.world_core.proofs.Refusing.{no_node}
use Rattle.world_core.proofs.world.World.restart.Goals as goal

pub returns-in_err-id : goal.returns-in_err-id
returns-in_err-id c = refused (Restart c.args.node c.args.image) NoSuchNode (search rules) (inr (no_node c.args.self.now (Restart c.args.node c.args.image) (search rules))) refl

pub returns-in_err-number : goal.returns-in_err-number
returns-in_err-number c =
    let id : c.in_ok-id.id ≡ c.args.node = search rules in
    refused (Restart c.args.node c.args.image) c.in_err-number.field-0.0 (search rules)
    (inr (subst (λ n. RefusesEvent c.args.self.now (Restart n c.args.image) c.in_err-number.field-0.0) id c.in_err-number.ensures.fault)) refl

pub returns-in_err-reserve : goal.returns-in_err-reserve
returns-in_err-reserve c =
    memory (Restart c.args.node c.args.image) (search rules) (same_world c.self.inside.chronicle c.reserve.new.self c.reserve.ensures.same refl ∙ c.self.view_is)

pub returns-in_err-restart : goal.returns-in_err-restart
returns-in_err-restart c =
    let w : World = the_view c.self.inside in
    memory (Restart c.args.node c.args.image) (search rules)
    (same_world c.self.inside.chronicle c.reserve.new.self c.reserve.ensures.same
    (put_back w.nodes c.from.result c.index_mut.result.now c.restart.new.self (search rules) c.in_err-restart.ensures.same) ∙ c.self.view_is)

pub invariant_of-self-2 : goal.invariant_of-self-2
invariant_of-self-2 c =
    let w : World = the_view c.self.inside in
    let place : c.from.result ≡ c.args.node = search rules in
    let is : Begins w c.args.node c.args.image c.restart.new.self =
    (begins w c.args.self.now c.self.view_is c.args.node c.in_ok-id.id c.from.result c.args.image c.in_ok-number.number c.index_mut.result.now c.restart.new.self
    (search rules) (search rules) (search rules) (search rules) c.in_ok-number.ensures.value.0 c.in_ok-number.ensures.value.1 c.in_ok-number.ensures.left
    c.in_ok-restart.ensures.restarted) in
    kept _ (subst IsWorld (sym (
    after_restart w.nodes c.self.inside.chronicle c.reserve.new.self c.accept_restart.new.self c.args.node c.args.image c.restart.new.self c.accept_restart.result
    c.reserve.ensures.same (ap (λ m. slice_set w.nodes m c.restart.new.self) place) c.accept_restart.ensures.accepted c.accept_restart.ensures.answer
    c.accept_restart.ensures.frames c.accept_restart.ensures.contexts))
    (restart_world w (world_of w c.self.invariant) c.args.node c.args.image c.restart.new.self is))

pub returns : goal.returns
returns c =
    let w : World = the_view c.self.inside in
    let place : c.from.result ≡ c.args.node = search rules in
    let is : Begins w c.args.node c.args.image c.restart.new.self =
    (begins w c.args.self.now c.self.view_is c.args.node c.in_ok-id.id c.from.result c.args.image c.in_ok-number.number c.index_mut.result.now c.restart.new.self
    (search rules) (search rules) (search rules) (search rules) c.in_ok-number.ensures.value.0 c.in_ok-number.ensures.value.1 c.in_ok-number.ensures.left
    c.in_ok-restart.ensures.restarted) in
    let left : World = left_restarted w c.args.node c.args.image c.restart.new.self in
    let answer : c.accept_restart.result ≡ restart_answer w =
    restart_answer_same w.nodes c.self.inside.chronicle c.reserve.new.self c.accept_restart.result c.reserve.ensures.same c.accept_restart.ensures.answer in
    accepts_left (Restart c.args.node c.args.image) c.accept_restart.result refl
    (after_restart w.nodes c.self.inside.chronicle c.reserve.new.self c.accept_restart.new.self c.args.node c.args.image c.restart.new.self c.accept_restart.result
    c.reserve.ensures.same (ap (λ m. slice_set w.nodes m c.restart.new.self) place) c.accept_restart.ensures.accepted c.accept_restart.ensures.answer
    c.accept_restart.ensures.frames c.accept_restart.ensures.contexts)
    (subst (λ (v : World). Accepts v (Restart c.args.node c.args.image) c.accept_restart.result left) c.self.view_is
    (subst (λ a. Accepts w (Restart c.args.node c.args.image) a left) (sym answer) (restart_accepts w c.args.node c.args.image c.restart.new.self is)))
