use Rattle.std.proofs.Common.{All, [], ap, subst, sym, ◌∙◌}
use Rattle.sha2.specs.Sha256.{sha256}
use Rattle.frame_fields.specs.Size.{IsShort}
use Rattle.frame_fields.proofs.Spellable.{spelled_object}
use Rattle.frame_fields.proofs.Written.{written_object}
use Rattle.meta_store.proofs.Sizes.{held_fits}
use Rattle.hash_tree.specs.Tree.{object_digest}
use Rattle.hash_tree.proofs.object.object_digest.Goals as goal

pub returns : goal.returns
unfolding object_digest
returns c =
    c.finish.ensures _ (c.add_entries.ensures _ (c.add.ensures [] c.new-hasher.ensures))
    ∙ ap sha256 (rw (c.as_slice.ensures, c.to_be_bytes.ensures, c.entries.ensures.value, c.entries-2.ensures.value) (written_object [] c.args.o.now))

pub add_entries-requires : goal.add_entries-requires
add_entries-requires c = subst (λ es. All IsShort es) (sym c.entries-2.ensures.value) (spelled_object c.args.o.now (held_fits c.args.o.now c.requires)).short
