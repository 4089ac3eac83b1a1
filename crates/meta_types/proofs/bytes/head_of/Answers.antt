use Rattle.std.proofs.Common.{◌+◌, ◌*◌}
use Rattle.meta_types.specs.Head.{head_of}
use Rattle.meta_types.proofs.bytes.head_of.Goals as goal

pub returns : goal.returns
unfolding head_of
returns c = record {
  value = λ i. c.four_from.ensures.value i * 4294967296 + c.four_from-2.ensures.value i;
  in_range = λ k. (c.type_inv.bytes k).fits;
}
