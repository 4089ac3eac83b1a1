use Rattle.std.proofs.Common.{sym, subst, All}
use Rattle.frame_fields.specs.Size.{IsShort}
use Rattle.frame_fields.proofs.Spellable.{spelled_object}
use Rattle.frame_fields.proofs.Written.{written_object}
use Rattle.frame_fields.proofs.writing.write_object.Goals as goal

pub returns : goal.returns
returns c =
    rw (c.in_ok-write_entries.ensures, c.in_ok-write_u16.ensures, c.entries-2.ensures.value, c.entries.ensures.value) (written_object _ c.args.o.now)

pub write_entries-requires : goal.write_entries-requires
write_entries-requires c = subst (λ es. All IsShort es) (sym c.entries-2.ensures.value) (spelled_object c.args.o.now c.requires).short
