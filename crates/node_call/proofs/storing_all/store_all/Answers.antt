use Rattle.std.proofs.Common.{◌≤◌, List, fold, length, map, sym, subst, ◌∙◌}
use Rattle.meta_types.specs.Name.{Key}
use Rattle.dvvset.specs.Object.{Entry}
use Rattle.meta_store.specs.Table.{most_keys}
use Rattle.node_file.specs.Clean.{row_record}
use Rattle.node_file.specs.File.{file_state}
use Rattle.node_file.specs.Fold.{with_record}
use Rattle.node_call.specs.Stored.{stored_rows}
use Rattle.node_call.proofs.Batching.{few_stored, refuses_if_not, room_of_all, stored_all}
use Rattle.node_call.proofs.storing_all.store_all.Goals as goal

pub append_all-requires-clause-room : goal.append_all-requires-clause-room
append_all-requires-clause-room g c going =
    let contents = (file_state (g.D.Device.content c.args.file.now.device)).contents in
    let held = c.args.store.now in
    let changes = c.args.changes.now in
    subst (λ (rows : List (Key × List Entry)). length (fold with_record contents (map row_record rows)).table ≤ most_keys)
    (sym (c.as_slice.ensures.value ∙ c.in-Ok.ensures.rows))
    (few_stored held (fold with_record contents (map row_record (stored_rows changes))).table c.len.ensures.is_table
    (stored_all held changes contents c.requires.within c.requires.held))

pub returns-in-Ok-clause-refused : goal.returns-in-Ok-clause-refused
returns-in-Ok-clause-refused g c =
    let d = g.D.Device in
    let file = c.args.file.now in
    let appended = c.append_all in
    refuses_if_not appended.result file.is_stopped file.gate c.args.changes.now c.as_slice.result.now (d.failed file.device) (d.failed appended.new.self.device)
    file appended.new.self c.requires.going c.requires.going (c.as_slice.ensures.value ∙ c.in-Ok.ensures.rows) c.in-Ok.ensures.held c.requires.few
    appended.ensures.refused appended.ensures.stops appended.ensures.refusals appended.ensures.none

pub returns-in-Ok-clause-file_room : goal.returns-in-Ok-clause-file_room
returns-in-Ok-clause-file_room g c =
    let file = c.args.file.now in
    let appended = c.append_all in
    room_of_all appended.result file.is_stopped file.gate c.args.changes.now c.as_slice.result.now c.requires.going (c.as_slice.ensures.value ∙ c.in-Ok.ensures.rows)
    c.in-Ok.ensures.held c.requires.few (λ other refused. (appended.ensures.refusals other refused).0)
