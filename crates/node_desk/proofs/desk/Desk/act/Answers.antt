use Rattle.std.proofs.Common.{◌≡◌, ◌++◌, ◌∷◌, [], ℕ, List, length, sym, ap, ◌∙◌, subst, arith, length-append}
use Rattle.meta_types.specs.Actor.{writer_number}
use Rattle.meta_store.specs.Table.{Table}
use Rattle.node_readers.specs.Published.{Published}
use Rattle.node_file.specs.File.{file_state}
use Rattle.node_call.specs.Acknowledged.{Acknowledged}
use Rattle.node_call.specs.Journaled.{TellsOfEntry}
use Rattle.node_call.specs.Ready.{entry_made, listed}
use Rattle.node_file.specs.Stored.{LeavesRecord}
use Rattle.node_call.specs.Stored.{HasRecordRoom, HasStored, IsStoredOf, record_after}
use Rattle.node_call.proofs.Listing.{grows_by}
use Rattle.node_core.specs.Attempt.{committed}
use Rattle.node_core.specs.Step.{IsNodeStep}
use Rattle.node_journal.specs.declared.entry.Entry.{Entry}
use Rattle.node_journal.specs.Entry.{stepped_of}
use Rattle.node_desk.specs.Acting.{IsFull, RefusesKeeping}
use Rattle.node_desk.specs.Desk.{DeskView}
use Rattle.devices.specs.Device.{LeavesOnly}
use Rattle.node_desk.proofs.Kept.{began_on, call_refused, goes_on, kept_within, leaves_of, not_full, one_more, still_of_life, stored_within, told}
use Rattle.node_core.specs.Growing.{Descends}
use Rattle.node_core.specs.Node.{writer}
use Rattle.node_events.specs.Event.{stored_key}
use Rattle.node_events.specs.declared.event.NodeEvent.{NodeEvent}
use Rattle.node_desk.proofs.Lasting.{keeps_left, keeps_stored, stored_known, written_there}
use Rattle.node_desk.proofs.desk.Desk.act.Goals as goal

pub store_and_show-done-requires-clause-within : goal.store_and_show-done-requires-clause-within
store_and_show-done-requires-clause-within g c =
    let attempted = c.in_ok-attempt.ensures.attempt in
    let new = committed c.in_ok-attempt.attempt c.prepare.new.state in
    let table_is = c.store.ensures ∙ attempted.table in
    let s = c.self.inside in
    let r = c.in_ok-attempt.ensures.ready in
    let w = (c.self.invariant.8 c.if-self.false).within in
    subst (λ (t : Table). IsStoredOf t (file_state (g.D.Device.content s.outlets.file.device)).contents.table) (sym table_is)
    (kept_within s.state.table new.table _ r.known.keeps w)

pub store_and_show-done-requires-clause-grows : goal.store_and_show-done-requires-clause-grows
store_and_show-done-requires-clause-grows g c =
    let attempted = c.in_ok-attempt.ensures.attempt in
    let new = committed c.in_ok-attempt.attempt c.prepare.new.state in
    let table_is = c.store.ensures ∙ attempted.table in
    let s = c.self.inside in
    let r = c.in_ok-attempt.ensures.ready in
    let e = c.in_ok-attempt.ready.entry in
    grows_by g.J.Naming.opening s.outlets.publisher.list e.event e.reply s.state.table new.table c.in_ok-attempt.ready.change c.self.invariant.6 r.known.grows.changes r.known.lawful r.known.grows.descends r.change

pub invariant_of-self-in-Err : goal.invariant_of-self-in-Err
invariant_of-self-in-Err g c =
    let i = c.self.invariant in
    let w = i.8 c.if-self.false in
    let s = c.self.inside in
    let d = g.D.Device in
    let n = g.J.Naming in
    let new = committed c.in_ok-attempt.attempt c.prepare.new.state in
    let r = c.in_ok-attempt.ensures.ready in
    let e = c.in_ok-attempt.ready.entry in
    let table_is = c.store.ensures ∙ c.in_ok-attempt.ensures.attempt.table in
    let left = subst (λ (t : Table). LeavesOnly d.moment d.left_since s.outlets.file.device c.store_and_show-done.new.self.file.device (LeavesRecord (d.content s.outlets.file.device) (record_after e.event t))) table_is c.store_and_show-done.ensures.any_moment in
    rw (c.prepare.ensures.journal, c.in-Err.ensures.same, c.take_back.ensures, c.in_ok-attempt.ensures.attempt.back) (
      i.0,
      i.1,
      i.2,
      i.3,
      i.4,
      i.5,
      i.6,
      c.store_and_show-done.ensures.whose.served ∙ i.7,
      (λ going. let still = c.in-Err.ensures.still going in record {
        file = still.0;
        publisher = still.1 ∙ w.publisher;
        within = subst (λ (b : List ℕ). IsStoredOf c.self.inside.state.table (file_state b).contents.table) (sym (c.in-Err.ensures.whole going still.0).0) w.within;
        known = subst (λ (b : List ℕ). Descends (file_state b).contents.table c.self.inside.state.table) (sym (c.in-Err.ensures.whole going still.0).0) w.known;
      }),
      i.9,
      keeps_left d.content d.may_leave d.moment d.left_since n.node n.incarnation n.opening g.met.D.Device.now_counts s.base s.journal.items s.outlets.file.device
          c.store_and_show-done.new.self.file.device (stored_key e.event) s.state.table new.table (g.met.D.Device.what_is_read_is_left s.outlets.file.device)
          r.known.lawful w.known r.known.grows.descends left i.10,
    )

pub returns-in-Err-clause-refused : goal.returns-in-Err-clause-refused
returns-in-Err-clause-refused g c =
    let attempted = c.in_ok-attempt.ensures.attempt in
    let new = committed c.in_ok-attempt.attempt c.prepare.new.state in
    let table_is = c.store.ensures ∙ attempted.table in
    let is_event = ap (λ (e : Entry). e.event) c.in_ok-attempt.ensures.ready.entry in
    let r = c.in_ok-attempt.ensures.ready in
    let e = c.in_ok-attempt.ready.entry in
    let change = c.in_ok-attempt.ready.change in
    let s = c.self.inside in
    let refused = subst (λ (t : Table). RefusesKeeping s.outlets.file.gate (record_after e.event t) change (g.D.Device.failed s.outlets.file.device) (g.D.Device.failed c.store_and_show-done.new.self.file.device) c.store_and_show-done.new.self.is_stopped c.in-Err.fault) table_is c.in-Err.ensures.refused in
    let step = subst (λ (v : DeskView g.row.D.Denot). IsNodeStep v.state e.event new (stepped_of e)) c.self.view_is r.known.step in
    let kept = subst (λ (v : DeskView g.row.D.Denot). RefusesKeeping v.file.gate (record_after e.event new.table) change (g.D.Device.failed v.file.device) (g.D.Device.failed c.store_and_show-done.new.self.file.device) c.store_and_show-done.new.self.is_stopped c.in-Err.fault) c.self.view_is refused in
    let room = subst (λ (v : DeskView g.row.D.Denot). IsFull v → ⊥) c.self.view_is (not_full s.limit (length s.journal.items) s.state.steps c.in_ok-attempt.ensures.few) in
    call_refused g.D.Device.failed c.args.self.now _ c.args.event new e change c.in-Err.fault is_event step room r.change kept

pub returns-in-Err-clause-any_moment : goal.returns-in-Err-clause-any_moment
returns-in-Err-clause-any_moment g c = λ _.
    let attempted = c.in_ok-attempt.ensures.attempt in
    let new = committed c.in_ok-attempt.attempt c.prepare.new.state in
    let table_is = c.store.ensures ∙ attempted.table in
    let is_event = ap (λ (e : Entry). e.event) c.in_ok-attempt.ensures.ready.entry in
    let s = c.self.inside in
    let r = c.in_ok-attempt.ensures.ready in
    let e = c.in_ok-attempt.ready.entry in
    let d = g.D.Device in
    let left = subst (λ (t : Table). LeavesOnly d.moment d.left_since s.outlets.file.device c.store_and_show-done.new.self.file.device (LeavesRecord (d.content s.outlets.file.device) (record_after e.event t))) table_is c.store_and_show-done.ensures.any_moment in
    rw (← c.self.view_is) (leaves_of d.content d.moment d.left_since s.outlets.file.device c.store_and_show-done.new.self.file.device s.state new c.args.event e is_event r.known.step left)

pub of-requires : goal.of-requires
of-requires g c =
    let attempted = c.in_ok-attempt.ensures.attempt in
    let new = committed c.in_ok-attempt.attempt c.prepare.new.state in
    let table_is = c.store.ensures ∙ attempted.table in
    let s = c.self.inside in
    let r = c.in_ok-attempt.ensures.ready in
    let e = c.in_ok-attempt.ready.entry in
    let change = listed c.in_ok-attempt.ready.change in
    let n = g.J.Naming in
    let handed = c.into_parts-event.ensures.1 ∙ c.store_and_show-done.ensures.entries.1 in
    let list = c.again.ensures ∙ (c.revision.ensures ∙ c.in_default.ensures.list) in
    subst (λ (l : List Published). TellsOfEntry (writer_number n.node n.incarnation) c.into_parts-event.result.1 l) (sym list)
    (told n.node n.incarnation s.state new e c.into_parts-event.result.1 s.outlets.publisher.list change c.self.invariant.2 r.known r.change handed)

pub invariant_of-self-2 : goal.invariant_of-self-2
invariant_of-self-2 g c =
    let attempted = c.in_ok-attempt.ensures.attempt in
    let new = committed c.in_ok-attempt.attempt c.prepare.new.state in
    let table_is = c.store.ensures ∙ attempted.table in
    let made = c.in_ok-attempt.ensures.ready in
    let event_is = c.into_parts-event.ensures.0 ∙ c.store_and_show-done.ensures.entries.0 ∙ made.is_event in
    let pushed_is = (λ i. entry_made (event_is i) (c.commit-reply.ensures.stepped i)) ∙ sym made.entry in
    let s = c.self.inside in
    let i = c.self.invariant in
    let w = i.8 c.if-self.false in
    let r = c.in_ok-attempt.ensures.ready in
    let e = c.in_ok-attempt.ready.entry in
    let n = g.J.Naming in
    let d = g.D.Device in
    let go = goes_on s.base s.state new n.opening s.journal.items s.outlets.publisher.list (listed c.in_ok-attempt.ready.change) e i.0 i.6 r.known r.change in
    let steps = one_more s.state new (length e.outbox) r.known.counts c.in_ok-attempt.ensures.few.1 in
    let stored = subst (λ (t : Table). HasStored g.D.Device.content g.D.Device.may_leave (record_after e.event t) s.outlets.file c.store_and_show-done.new.self.file) table_is c.in_default.ensures.stored in
    rw (c.commit-reply.ensures.node, c.push_reserved.ensures.items, pushed_is, c.prepare.ensures.journal, c.in_default.ensures.list) (
      go.journaled,
      i.1,
      still_of_life n.node n.incarnation s.state new (length e.outbox) i.2 r.known.counts,
      omega (arith, i.3, c.count.ensures.total, steps),
      omega (arith, i.4, steps, length-append s.journal.items (e ∷ [])),
      i.5,
      go.table,
      c.store_and_show-done.ensures.whose.served ∙ i.7,
      (λ _. record {
        file = c.in_default.ensures.going.0;
        publisher = c.in_default.ensures.going.1 w.publisher;
        within = stored_within e.event s.state.table new.table (file_state (g.D.Device.content s.outlets.file.device)) (file_state (g.D.Device.content c.store_and_show-done.new.self.file.device)) r.known.keeps w.within stored.tells;
        known = stored_known e.event s.state.table new.table (file_state (d.content s.outlets.file.device)) (file_state (d.content c.store_and_show-done.new.self.file.device)) r.known.lawful w.known r.known.grows.descends stored.tells;
      }),
      i.9,
      keeps_stored d.content d.may_leave d.moment d.left_since n.node n.incarnation n.opening s.base s.journal.items e s.outlets.file.device
          c.store_and_show-done.new.self.file.device c.store_and_show-done.new.self.file.gate (writer s.state) s.state.table new.table
          (g.met.D.Device.what_is_read_is_left s.outlets.file.device) r.known.lawful w.known r.known.grows.descends r.known.grows.tells
          (written_there e.event e.reply s.state.table new.table r.known.grows.changes) stored.tells stored.settled.opens stored.settled.durable i.10,
    )

pub returns-clause-any_moment : goal.returns-clause-any_moment
returns-clause-any_moment g c = λ _.
    let attempted = c.in_ok-attempt.ensures.attempt in
    let new = committed c.in_ok-attempt.attempt c.prepare.new.state in
    let table_is = c.store.ensures ∙ attempted.table in
    let is_event = ap (λ (e : Entry). e.event) c.in_ok-attempt.ensures.ready.entry in
    let s = c.self.inside in
    let r = c.in_ok-attempt.ensures.ready in
    let e = c.in_ok-attempt.ready.entry in
    let d = g.D.Device in
    let left = subst (λ (t : Table). LeavesOnly d.moment d.left_since s.outlets.file.device c.store_and_show-done.new.self.file.device (LeavesRecord (d.content s.outlets.file.device) (record_after e.event t))) table_is c.store_and_show-done.ensures.any_moment in
    rw (← c.self.view_is) (leaves_of d.content d.moment d.left_since s.outlets.file.device c.store_and_show-done.new.self.file.device s.state new c.args.event e is_event r.known.step left)

pub returns-then-self-clause-began : goal.returns-then-self-clause-began
returns-then-self-clause-began g c =
    let s = c.self.inside in
    let n = g.J.Naming in
    rw (← c.self.view_is) (began_on n.node n.incarnation n.opening s.base s.state s.journal.items s.outlets.publisher.list c.self.invariant.1 c.self.invariant.0)

pub returns-in_err-attempt-clause-began : goal.returns-in_err-attempt-clause-began
returns-in_err-attempt-clause-began g c =
    let s = c.self.inside in
    let n = g.J.Naming in
    rw (← c.self.view_is) (began_on n.node n.incarnation n.opening s.base s.state s.journal.items s.outlets.publisher.list c.self.invariant.1 c.self.invariant.0)

pub returns-in-Err-clause-began : goal.returns-in-Err-clause-began
returns-in-Err-clause-began g c =
    let s = c.self.inside in
    let n = g.J.Naming in
    rw (← c.self.view_is) (began_on n.node n.incarnation n.opening s.base s.state s.journal.items s.outlets.publisher.list c.self.invariant.1 c.self.invariant.0)

pub returns-clause-began : goal.returns-clause-began
returns-clause-began g c =
    let s = c.self.inside in
    let n = g.J.Naming in
    rw (← c.self.view_is) (began_on n.node n.incarnation n.opening s.base s.state s.journal.items s.outlets.publisher.list c.self.invariant.1 c.self.invariant.0)

pub returns-clause-makes : goal.returns-clause-makes
returns-clause-makes g c =
    let new = committed c.in_ok-attempt.attempt c.prepare.new.state in
    let s = c.self.inside in
    let i = c.self.invariant in
    let r = c.in_ok-attempt.ensures.ready in
    let e = c.in_ok-attempt.ready.entry in
    let n = g.J.Naming in
    let go = goes_on s.base s.state new n.opening s.journal.items s.outlets.publisher.list (listed c.in_ok-attempt.ready.change) e i.0 i.6 r.known r.change in
    let list = ap (λ (a : Acknowledged). a.list) c.of.ensures ∙ (c.again.ensures ∙ (c.revision.ensures ∙ c.in_default.ensures.list)) in
    rw (c.commit-reply.ensures.node, list) go.table

pub returns-clause-file_room : goal.returns-clause-file_room
returns-clause-file_room g c =
    let new = committed c.in_ok-attempt.attempt c.prepare.new.state in
    let table_is = c.store.ensures ∙ c.in_ok-attempt.ensures.attempt.table in
    let is_event = ap (λ (e : Entry). e.event) c.in_ok-attempt.ensures.ready.entry in
    let gate = c.self.inside.outlets.file.gate in
    let e = c.in_ok-attempt.ready.entry in
    let room = subst (λ (t : Table). HasRecordRoom gate (record_after e.event t)) table_is c.in_default.ensures.file_room in
    rw (c.commit-reply.ensures.node, ← c.self.view_is) (subst (λ (x : NodeEvent). HasRecordRoom gate (record_after x new.table)) is_event room)
