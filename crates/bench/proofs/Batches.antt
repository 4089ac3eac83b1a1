-- Objects of one key, put into a file one after another.
use Rattle.std.proofs.Common.{◌≡◌, List, [], ◌∷◌, fold, map, refl}
use Rattle.meta_types.specs.Name.{Key}
use Rattle.dvvset.specs.Object.{Entry}
use Rattle.meta_store.specs.Table.{with_object}
use Rattle.node_file.specs.declared.record.Record.TheVariants.{Object}
use Rattle.node_file.specs.Clean.{row_record}
use Rattle.node_file.specs.Fold.{Contents, with_record}

-- the table of the file has them as a table has that holds them
pub each_is_held : (key : Key) (objects : List (List Entry)) (c : Contents)
    → (fold with_record c (map row_record (map (λ o. (key, o)) objects))).table
    ≡ fold (λ t o. with_object key o t) c.table objects
each_is_held key [] c = refl
each_is_held key (o ∷ os) c = each_is_held key os (with_record c (Object key o))
