use Rattle.std.proofs.Common.{◌≡◌, None, Ok, refl, ◌∙◌, ap}
use Rattle.node_file.specs.File.{opened, file_state}
use Rattle.node_file.proofs.Made.{fresh, made, settle, stands_so}
use Rattle.node_file.proofs.opening.create.Goals as goal

pub new-requires : goal.new-requires
new-requires g c =
    let bytes = g.D.Device.content c.write_front.new.device in
    let is : opened None bytes ≡ Ok (fresh c.args.node, 10) = ap (opened None) c.in-Ok.ensures.made ∙ made c.args.node c.write_front.ensures.node in
    record { settled = settle g.D.Device.content g.D.Device.may_leave _ (fresh c.args.node) is refl refl (λ h. absurd cc) c.in-Ok.ensures.synced }

pub returns-in-Ok-clause-made : goal.returns-in-Ok-clause-made
returns-in-Ok-clause-made g c =
    let bytes = g.D.Device.content c.write_front.new.device in
    let is : opened None bytes ≡ Ok (fresh c.args.node, 10) = ap (opened None) c.in-Ok.ensures.made ∙ made c.args.node c.write_front.ensures.node in
    ap (λ f. file_state (g.D.Device.content f.device)) c.new.ensures ∙ stands_so bytes (fresh c.args.node) 10 is
