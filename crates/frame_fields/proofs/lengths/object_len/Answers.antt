use Rattle.std.proofs.Common.{◌∙◌, ap, sym, subst, length, All}
use Rattle.std.specs.List.{flat_map}
use Rattle.frame_fields.specs.Field.{entry}
use Rattle.frame_fields.specs.Size.{IsShort}
use Rattle.frame_fields.proofs.Spellable.{spelled_object}
use Rattle.frame_fields.proofs.Written.{object_size}
use Rattle.frame_fields.proofs.lengths.object_len.Goals as goal

pub returns-clause-value : goal.returns-clause-value
returns-clause-value c = object_size c.entries_len.result c.args.o.now (c.entries_len.ensures.value ∙ ap (λ es. length (flat_map (entry 0).spell es)) c.entries.ensures.value)

pub entries_len-requires-clause-short : goal.entries_len-requires-clause-short
entries_len-requires-clause-short c = subst (λ es. All IsShort es) (sym c.entries.ensures.value) (spelled_object c.args.o.now c.requires).short
