use Rattle.std.proofs.Common.{◌≤◌, ap, subst, sym, length, ◌∙◌}
use Rattle.std.specs.List.{flat_map}
use Rattle.frame_fields.specs.Field.{prefix_row, lowest}
use Rattle.frame_fields.proofs.Spellable.{few_prefixes}
use Rattle.frame_fields.proofs.Written.{prefixes_size}
use Rattle.frame_fields.proofs.lengths.prefixes_len.Goals as goal

pub returns-clause-value : goal.returns-clause-value
returns-clause-value c = prefixes_size c.each_prefix_len.result c.args.p.now (c.each_prefix_len.ensures.value ∙ ap (λ rows. length (flat_map (prefix_row lowest).spell rows)) c.as_slice.ensures.value)

pub each_prefix_len-requires : goal.each_prefix_len-requires
each_prefix_len-requires c = subst (λ rows. length rows ≤ 8192) (sym c.as_slice.ensures.value) (few_prefixes c.args.p.now c.as_slice.ensures.lawful)
