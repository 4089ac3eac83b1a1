use Rattle.std.proofs.Common.{None, length, ◌∙◌, ap}
use Rattle.node_file.specs.File.{opened}
use Rattle.node_file.proofs.Clean.{copied}
use Rattle.node_file.proofs.Made.{made}
use Rattle.node_file.proofs.rewriting.write_file.Goals as goal

pub write_life-requires : goal.write_life-requires
write_life-requires g c = record {
  begun = ap (opened None) c.in_ok-write_front.ensures.made ∙ made c.args.node c.write_front.ensures.node;
  last = ap length c.in_ok-write_front.ensures.made;
}

pub returns-in-Ok-sync-clause-bytes : goal.returns-in-Ok-sync-clause-bytes
returns-in-Ok-sync-clause-bytes g c =
    let content = g.E.Device.content in
    c.in-Ok-sync.ensures.same
    ∙ copied c.args.node c.args.life c.args.table.now (content c.write_front.new.device) (content c.write_life.new.device) (content c.write_table.new.device)
    c.in-Ok-write_table.ensures.bytes c.in-Ok.ensures.bytes c.in_ok-write_front.ensures.made
