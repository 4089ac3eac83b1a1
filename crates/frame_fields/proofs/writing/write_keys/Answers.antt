use Rattle.std.proofs.Common.{All, subst, sym}
use Rattle.frame_fields.specs.Size.{IsShortKey}
use Rattle.frame_fields.proofs.Spellable.{short_keys}
use Rattle.frame_fields.proofs.Written.{written_keys}
use Rattle.frame_fields.proofs.writing.write_keys.Goals as goal

pub returns : goal.returns
returns c = rw (c.in_ok-write_each_key.ensures, c.in_ok-write_u16.ensures, c.as_slice-2.ensures.value, c.as_slice.ensures.value) (written_keys _ c.args.k.now)

pub write_each_key-requires : goal.write_each_key-requires
write_each_key-requires c = subst (λ rows. All IsShortKey rows) (sym c.as_slice-2.ensures.value) (short_keys c.args.k.now c.as_slice-2.ensures.lawful)
