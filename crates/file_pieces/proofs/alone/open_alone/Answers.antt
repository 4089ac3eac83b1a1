use Rattle.std.proofs.Common.{◌≡◌, ℕ, List, Option, Result, Ok, sym, ◌∙◌, ap, subst, arith}
use Rattle.std.proofs.lemmas.Grind.{common_steps}
use Rattle.devices.specs.Calls.{content_after}
use Rattle.node_file.specs.declared.fault.FileFault.{FileFault}
use Rattle.node_file.specs.File.{FileState, file_state, opened, state_or_none}
use Rattle.file_pieces.specs.Alone.{file_alone}
use Rattle.file_pieces.proofs.alone.open_alone.Goals as goal

abbrev is_ok : FileState → ℕ → Result (FileState × ℕ) FileFault
is_ok s gate = Ok (s, gate)

opens_so : (asked : Option ℕ) (bytes : List ℕ) (s : FileState) (gate : ℕ) → opened asked bytes ≡ Ok (s, gate) → opened asked bytes ≡ Ok (state_or_none (opened asked bytes), gate)
opens_so asked bytes s gate e = e ∙ ap (λ (x : FileState). is_ok x gate) (sym (ap state_or_none e))

pub returns-in-Ok-clause-opens : goal.returns-in-Ok-clause-opens
returns-in-Ok-clause-opens c =
    let d = c.in_ok-device.device in
    let file = file_alone c.args.front.now c.args.records.now in
    let is : content_after d.first d.calls ≡ file = grind (arith, common_steps) in
    let e : opened c.args.asked file ≡ Ok (file_state file, c.in-Ok.file.gate) = subst (λ (b : List ℕ). opened c.args.asked b ≡ Ok (file_state b, c.in-Ok.file.gate)) is c.in-Ok.ensures.ok in
    (c.in-Ok.file.gate, opens_so c.args.asked file (file_state file) c.in-Ok.file.gate e)
