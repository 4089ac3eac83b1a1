use Rattle.std.proofs.Common.{◌≤◌, [], All, ap, subst, sym, length, ◌∙◌}
use Rattle.frame_fields.specs.Size.{IsShortKey}
use Rattle.std.specs.List.{flat_map}
use Rattle.frame_fields.specs.Field.{key_row}
use Rattle.frame_fields.proofs.Spellable.{few_keys, short_keys}
use Rattle.frame_fields.proofs.Written.{keys_size}
use Rattle.frame_fields.proofs.lengths.keys_len.Goals as goal

pub returns-clause-value : goal.returns-clause-value
returns-clause-value c = keys_size c.each_key_len.result c.args.k.now (c.each_key_len.ensures.value ∙ ap (λ rows. length (flat_map (key_row []).spell rows)) c.as_slice.ensures.value)

pub each_key_len-requires-clause-few : goal.each_key_len-requires-clause-few
each_key_len-requires-clause-few c = subst (λ rows. length rows ≤ 8192) (sym c.as_slice.ensures.value) (few_keys c.args.k.now c.as_slice.ensures.lawful)

pub each_key_len-requires-clause-short : goal.each_key_len-requires-clause-short
each_key_len-requires-clause-short c = subst (λ rows. All IsShortKey rows) (sym c.as_slice.ensures.value) (short_keys c.args.k.now c.as_slice.ensures.lawful)
