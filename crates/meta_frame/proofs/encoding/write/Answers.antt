use Rattle.std.proofs.Common.{append_assoc}
use Rattle.meta_frame.proofs.encoding.write.Goals as goal

pub returns : goal.returns
returns c =
    rw (c.in_ok-write_message.ensures, c.in_ok-write_u32.ensures, c.in_ok-write_u64.ensures, c.in_ok-write_node-2.ensures, c.in_ok-write_node.ensures, c.in_ok-write_u8-2.ensures, c.in_ok-write_u8.ensures, c.in_ok-write_u16.ensures, c.kind_number.ensures, c.requires.len)
    (simp append_assoc)
