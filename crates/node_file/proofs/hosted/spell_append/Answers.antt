use Rattle.std.proofs.Common.{◌≡◌, None, false, rules}
use Rattle.node_file.specs.File.{gated}
use Rattle.node_file.specs.Refusal.{refusal_of_append}
use Rattle.node_file.specs.declared.record.Record.TheVariants.{Object}
use Rattle.node_file.proofs.ByHosts.{object_fits}
use Rattle.node_file.proofs.hosted.spell_append.Goals as goal

pub returns-clause-fits : goal.returns-clause-fits
returns-clause-fits c =
    let bytes = c.in_ok-spell_record.field-0.items in
    let none : refusal_of_append false c.args.gate c.args.key.now c.args.object.now ≡ None = search rules in
    let is : bytes ≡ gated (Object c.args.key.now c.args.object.now) = search rules in
    object_fits c.args.gate c.args.key.now c.args.object.now bytes none is
