use Rattle.std.proofs.Common.{List, fold, map, ap, ◌∙◌}
use Rattle.meta_types.specs.Name.{Key}
use Rattle.dvvset.specs.Object.{Entry}
use Rattle.meta_store.specs.Table.{Table, with_object}
use Rattle.node_file.specs.Clean.{row_record}
use Rattle.node_file.specs.File.{FileState, file_state}
use Rattle.node_file.specs.Fold.{with_record}
use Rattle.bench.proofs.Batches.{each_is_held}
use Rattle.bench.proofs.file.kept.put_all.Goals as goal

pub returns-in-Ok-clause-table : goal.returns-in-Ok-clause-table
returns-in-Ok-clause-table g c =
    let contents = (file_state (g.D.Device.content c.args.file.now.device)).contents in
    let key = c.args.key.now in
    let objects = c.args.objects.now in
    ap (λ (s : FileState). s.contents.table) c.in-Ok.ensures.appended
    ∙ ap (λ (rows : List (Key × List Entry)). (fold with_record contents (map row_record rows)).table) (c.as_slice-2.ensures.value ∙ c.in_ok-rows.ensures)
    ∙ each_is_held key objects contents
    ∙ ap (λ (table : Table). fold (λ t o. with_object key o t) table objects) c.requires.table
