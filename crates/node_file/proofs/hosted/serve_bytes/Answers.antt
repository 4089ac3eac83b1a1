use Rattle.std.proofs.Common.{◌≡◌, ◌+◌, None, Ok, rules}
use Rattle.node_file.specs.File.{FileState, gated}
use Rattle.node_file.specs.Refusal.{refusal_of_life}
use Rattle.node_file.specs.declared.record.Record.TheVariants.{Life}
use Rattle.node_file.proofs.ByHosts.{life_fits}
use Rattle.node_file.proofs.hosted.serve_bytes.Goals as goal

pub returns-clause-fits : goal.returns-clause-fits
returns-clause-fits c =
    let found = c.in_ok-found.found in
    let file : FileState = record { version = found.version; node = found.node; contents = found.contents } in
    let bytes = c.in_ok-record.record.items in
    let none : refusal_of_life (Ok (file, found.gate)) ≡ None = search rules in
    let is : bytes ≡ gated (Life (file.contents.life + 1)) = search rules in
    life_fits file found.gate bytes none is
