use Rattle.std.proofs.Common.{◌≡◌, ◌∙◌, None, Ok, ap, sym}
use Rattle.node_file.specs.File.{opened, file_state}
use Rattle.node_file.proofs.Appending.{few_keys}
use Rattle.node_file.proofs.opening.begin_life.Goals as goal

pub put_record-requires-clause-room : goal.put_record-requires-clause-room
put_record-requires-clause-room g c =
    let kept = c.drop_copy.ensures.same in
    let opens : opened None (g.D.Device.content c.drop_copy.new.self) ≡ Ok (file_state (g.D.Device.content c.drop_copy.new.self), c.args.gate) =
    ap (opened None) kept ∙ c.requires.opens ∙ ap (λ bytes. Ok (file_state bytes, c.args.gate)) (sym kept) in
    few_keys c.args.gate (g.D.Device.content c.drop_copy.new.self) opens
