use Rattle.std.proofs.Common.{◌≡◌, ◌+◌, [], List, length, replicate, refl, sym, ap, ◌∙◌, subst, arith}
use Rattle.std.proofs.lemmas.List.{length-replicate}
use Rattle.node_core.specs.Node.{NodeParts}
use Rattle.node_readers.specs.Published.{Published, with_all}
use Rattle.node_desk.proofs.Kept.{file_within, new_journal}
use Rattle.node_desk.proofs.Lasting.{file_known, keeps_new}
use Rattle.node_desk.proofs.starting.desk_of.Goals as goal

pub invariant_of-result : goal.invariant_of-result
invariant_of-result g c =
    let n = g.J.Naming in
    let r = c.requires in
    let base = r.states.0 in
    let state = r.states.1 in
    let steps = ap (λ (s : NodeParts). s.steps) state in
    let table = ap (λ (s : NodeParts). s.table) state in
    let d = g.D.Device in
    let settled = c.device.ensures.settled r.served.going in
    let count = c.len-out.ensures ∙ (c.args.parts.writers.ok.0 ∙ (ap length r.writers ∙ length-replicate c.args.capacity.writers 0)) in
    rw (c.new.ensures.items) (
      new_journal _ c.args.parts.base c.args.state c.args.parts.publisher.list base state r.publisher.0,
      record { entries = []; run = base },
      record { node = ap (λ (s : NodeParts). s.node) state; life = ap (λ (s : NodeParts). s.incarnation) state },
      r.counts.0 ∙ sym steps,
      omega (arith, ap (λ (s : NodeParts). s.steps) (base ∙ sym state)),
      omega (arith, count, r.shares),
      ap (with_all n.opening) r.publisher.0 ∙ sym table,
      r.served.served,
      (λ _. record { file = r.served.going; publisher = r.publisher.1; within = file_within n.opening _ _ r.lawful table r.served.table; known = file_known n.opening _ _ r.lawful table r.served.table }),
      omega (arith, count, r.few),
      keeps_new d.content d.may_leave d.moment d.left_since n.node n.incarnation n.opening c.args.parts.base c.args.file.device c.args.file.gate r.lawful r.served.table base settled.opens
          (settled.served r.served.served) (settled.node ∙ r.served.node) (settled.life ∙ r.served.life) settled.durable,
    )
