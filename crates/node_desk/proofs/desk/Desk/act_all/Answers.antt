use Rattle.std.proofs.Common.{rules, ◌≡◌, ℕ, List, Global, Vec, length, vec_len, sym, ap, ◌∙◌, subst, arith}
use Rattle.meta_store.specs.Table.{Table}
use Rattle.node_core.specs.Growing.{Descends}
use Rattle.node_file.specs.File.{file_state}
use Rattle.node_journal.specs.declared.receipt.Receipt.{Receipt}
use Rattle.node_call.specs.Batch.{HasRoomFor, IsRefusedAt, entries_of}
use Rattle.node_call.specs.Stored.{IsStoredOf}
use Rattle.node_call.proofs.Batching.{journaled_all}
use Rattle.node_desk.specs.Batching.{CanBatch, CanKeepAll}
use Rattle.node_desk.specs.Desk.{DeskView}
use Rattle.node_desk.proofs.Batched.{batch_counts, batch_makes, batch_of_life, batch_within, few_changes, leaves_of_batch, nothing_left, refused_at, refuses_batch}
use Rattle.node_desk.proofs.Kept.{began_on, kept_within}
use Rattle.node_desk.proofs.LastingAll.{batch_known, keeps_left_all, keeps_stored_all}
use Rattle.node_desk.proofs.desk.Desk.act_all.Goals as goal

pub returns-then-self-clause-began : goal.returns-then-self-clause-began
returns-then-self-clause-began g c =
    let s = c.self.inside in
    let n = g.J.Naming in
    rw (← c.self.view_is) (began_on n.node n.incarnation n.opening s.base s.state s.journal.items s.outlets.publisher.list c.self.invariant.1 c.self.invariant.0)

pub returns-then-len-gt-MAX_BATCH-clause-began : goal.returns-then-len-gt-MAX_BATCH-clause-began
returns-then-len-gt-MAX_BATCH-clause-began g c =
    let s = c.self.inside in
    let n = g.J.Naming in
    rw (← c.self.view_is) (began_on n.node n.incarnation n.opening s.base s.state s.journal.items s.outlets.publisher.list c.self.invariant.1 c.self.invariant.0)

pub returns-in_err-savepoint-clause-began : goal.returns-in_err-savepoint-clause-began
returns-in_err-savepoint-clause-began g c =
    let s = c.self.inside in
    let n = g.J.Naming in
    rw (← c.self.view_is) (began_on n.node n.incarnation n.opening s.base s.state s.journal.items s.outlets.publisher.list c.self.invariant.1 c.self.invariant.0)

pub returns-in-Err-clause-began : goal.returns-in-Err-clause-began
returns-in-Err-clause-began g c =
    let s = c.self.inside in
    let n = g.J.Naming in
    rw (← c.self.view_is) (began_on n.node n.incarnation n.opening s.base s.state s.journal.items s.outlets.publisher.list c.self.invariant.1 c.self.invariant.0)

pub returns-in-Err-done-clause-began : goal.returns-in-Err-done-clause-began
returns-in-Err-done-clause-began g c =
    let s = c.self.inside in
    let n = g.J.Naming in
    rw (← c.self.view_is) (began_on n.node n.incarnation n.opening s.base s.state s.journal.items s.outlets.publisher.list c.self.invariant.1 c.self.invariant.0)

pub returns-clause-began : goal.returns-clause-began
returns-clause-began g c =
    let s = c.self.inside in
    let n = g.J.Naming in
    rw (← c.self.view_is) (began_on n.node n.incarnation n.opening s.base s.state s.journal.items s.outlets.publisher.list c.self.invariant.1 c.self.invariant.0)

-- ---- a write was refused

pub returns-in-Err-clause-refused : goal.returns-in-Err-clause-refused
returns-in-Err-clause-refused g c =
    let r = c.in-Err.ensures.refused in
    let writes = c.args.writes.items in
    refused_at g.D.Device.failed c.args.self.now _ writes c.in-Err.refusal r.0 r.1 r.2
    (subst (λ (v : DeskView g.row.D.Denot). IsRefusedAt r.0 v.state writes v.limit (length v.journal) r.1) c.self.view_is r.3) c.if-self.false

pub returns-in-Err-clause-any_moment : goal.returns-in-Err-clause-any_moment
returns-in-Err-clause-any_moment g c = λ _.
    let s = c.self.inside in
    let d = g.D.Device in
    let w = c.self.invariant.8 c.if-self.false in
    let device = s.outlets.file.device in
    rw (← c.self.view_is) (nothing_left d.content d.may_leave d.moment d.left_since device s.state c.args.writes.items (c.device.ensures.settled w.file).durable (g.met.D.Device.now_is_all device))

-- ---- all were made

pub store_and_show_all-done-requires-clause-going : goal.store_and_show_all-done-requires-clause-going
store_and_show_all-done-requires-clause-going g c = (c.if-self.false, (c.self.invariant.8 c.if-self.false).publisher)

pub store_and_show_all-done-requires-clause-few : goal.store_and_show_all-done-requires-clause-few
store_and_show_all-done-requires-clause-few g c =
    let batch = c.make_all-made.new.batch in
    few_changes c.self.inside.state c.make_all-made.new.state c.args.writes.items batch.receipts.items batch.changes.items c.in_default.ensures.made
    (omega (arith, c.if-len-gt-MAX_BATCH.false, c.len-2.ensures, c.args.writes.ok.0))

pub store_and_show_all-done-requires-clause-within : goal.store_and_show_all-done-requires-clause-within
store_and_show_all-done-requires-clause-within g c =
    let s = c.self.inside in
    let w = (c.self.invariant.8 c.if-self.false).within in
    subst (λ (t : Table). IsStoredOf t (file_state (g.D.Device.content s.outlets.file.device)).contents.table) (sym c.store-store.ensures)
    (kept_within s.state.table c.make_all-made.new.state.table _ c.in_default.ensures.made.keeps w)

pub returns-in-Err-done-clause-refused : goal.returns-in-Err-done-clause-refused
returns-in-Err-done-clause-refused g c =
    let s = c.self.inside in
    let batch = c.make_all-made.new.batch in
    let can : CanBatch s.state c.args.writes.items =
    record { receipts = batch.receipts.items; changes = batch.changes.items; new = c.make_all-made.new.state; batch = c.in_default.ensures.made } in
    let kept = c.store_and_show_all-done.new.self in
    let old : DeskView g.row.D.Denot = record {
      base = s.base;
      state = s.state;
      journal = s.journal.items;
      list = s.outlets.publisher.list;
      file = s.outlets.file;
      out = s.out;
      given_up = s.rest.amount;
      limit = s.limit;
      stopped = s.outlets.is_stopped;
    } in
    let new : DeskView g.row.D.Denot = record old {
      state = c.undo-in-Err-done.new.state;
      journal = c.undo-in-Err-done.new.journal.items;
      list = kept.publisher.list;
      file = kept.file;
      stopped = kept.is_stopped;
    } in
    let k : CanKeepAll old c.args.writes.items = record { can = can; room = c.in_default.ensures.room } in
    rw (← c.self.view_is) (refuses_batch g.D.Device.failed old new c.args.writes.items k c.in-Err-done.refusal c.in-Err-done.ensures.refused)

pub returns-in-Err-done-clause-whole : goal.returns-in-Err-done-clause-whole
returns-in-Err-done-clause-whole g c = λ going file. rw (← c.self.view_is) (c.in-Err-done.ensures.whole going file)

pub returns-in-Err-done-clause-any_moment : goal.returns-in-Err-done-clause-any_moment
returns-in-Err-done-clause-any_moment g c = λ _.
    let s = c.self.inside in
    let d = g.D.Device in
    let batch = c.make_all-made.new.batch in
    let k : CanBatch s.state c.args.writes.items =
    record { receipts = batch.receipts.items; changes = batch.changes.items; new = c.make_all-made.new.state; batch = c.in_default.ensures.made } in
    rw (← c.self.view_is)
    (leaves_of_batch d.content d.moment d.left_since s.outlets.file.device c.store_and_show_all-done.new.self.file.device s.state c.args.writes.items k
    c.store_and_show_all-done.ensures.any_moment)

pub invariant_of-self-in-Err-done : goal.invariant_of-self-in-Err-done
invariant_of-self-in-Err-done g c =
    let i = c.self.invariant in
    let w = i.8 c.if-self.false in
    let s = c.self.inside in
    let d = g.D.Device in
    let n = g.J.Naming in
    let batch = c.make_all-made.new.batch in
    let done = c.store_and_show_all-done in
    let state : c.undo-in-Err-done.new.state ≡ s.state = c.undo-in-Err-done.ensures.state ∙ c.make_all-made.ensures.back ∙ c.in_ok-savepoint.ensures.back in
    let journal : c.undo-in-Err-done.new.journal.items ≡ s.journal.items = search rules in
    rw (journal, c.in-Err-done.ensures.same, state) (
      i.0,
      i.1,
      i.2,
      i.3,
      i.4,
      i.5,
      i.6,
      done.ensures.whose.served ∙ i.7,
      (λ going. let still = c.in-Err-done.ensures.still going in record {
        file = still.0;
        publisher = still.1 ∙ w.publisher;
        within = subst (λ (b : List ℕ). IsStoredOf s.state.table (file_state b).contents.table) (sym (c.in-Err-done.ensures.whole going still.0).0) w.within;
        known = subst (λ (b : List ℕ). Descends (file_state b).contents.table s.state.table) (sym (c.in-Err-done.ensures.whole going still.0).0) w.known;
      }),
      i.9,
      keeps_left_all d.content d.may_leave d.moment d.left_since n.node n.incarnation n.opening g.met.D.Device.now_counts s.base s.journal.items
          s.outlets.file.device done.new.self.file.device s.state c.make_all-made.new.state c.args.writes.items batch.receipts.items batch.changes.items
          (g.met.D.Device.what_is_read_is_left s.outlets.file.device) w.known c.in_default.ensures.made done.ensures.any_moment i.10,
    )

pub returns-clause-any_moment : goal.returns-clause-any_moment
returns-clause-any_moment g c = λ _.
    let s = c.self.inside in
    let d = g.D.Device in
    let batch = c.make_all-made.new.batch in
    let k : CanBatch s.state c.args.writes.items =
    record { receipts = batch.receipts.items; changes = batch.changes.items; new = c.make_all-made.new.state; batch = c.in_default.ensures.made } in
    rw (← c.self.view_is)
    (leaves_of_batch d.content d.moment d.left_since s.outlets.file.device c.store_and_show_all-done.new.self.file.device s.state c.args.writes.items k
    c.store_and_show_all-done.ensures.any_moment)

pub invariant_of-self-2 : goal.invariant_of-self-2
invariant_of-self-2 g c =
    let s = c.self.inside in
    let i = c.self.invariant in
    let n = g.J.Naming in
    let batch = c.make_all-made.new.batch in
    let receipts = batch.receipts.items in
    let changes = batch.changes.items in
    let new = c.make_all-made.new.state in
    let writes = c.args.writes.items in
    let b = c.in_default.ensures.made in
    let w = i.8 c.if-self.false in
    let kept = c.store_and_show_all-done in
    let done = c.in_default-done.ensures in
    let many : c.len-3.result ≡ length receipts =
    omega (arith, c.len-3.ensures, ap (λ (v : Vec Receipt Global). vec_len v) kept.ensures.receipts, batch.receipts.ok.0) in
    let d = g.D.Device in
    let content = d.content in
    rw (c.in_default.ensures.journal, done.list) (
      journaled_all s.base s.state new s.journal.items (entries_of receipts) s.outlets.publisher.list changes i.0 b.run,
      i.1,
      batch_of_life n.node n.incarnation s.state new writes receipts changes i.2 b,
      omega (arith, i.3, c.count_all.ensures.total, b.steps, many),
      batch_counts s.base.steps s.state new s.journal.items writes receipts changes i.4 b,
      i.5,
      batch_makes n.opening s.outlets.publisher.list s.state new writes receipts changes i.6 b,
      kept.ensures.whose.served ∙ i.7,
      (λ _. record {
        file = done.going.0;
        publisher = done.going.1;
        within =
            batch_within s.state new writes receipts changes (file_state (content s.outlets.file.device)) (file_state (content kept.new.self.file.device)) b w.within
            done.stored.tells;
        known =
            batch_known s.state new writes receipts changes (file_state (content s.outlets.file.device)) (file_state (content kept.new.self.file.device)) b w.known
            done.stored.tells;
      }),
      i.9,
      keeps_stored_all content d.may_leave d.moment d.left_since n.node n.incarnation n.opening s.base s.journal.items s.outlets.file.device kept.new.self.file.device
          kept.new.self.file.gate s.state new writes receipts changes (g.met.D.Device.what_is_read_is_left s.outlets.file.device) w.known b done.stored.tells
          done.stored.settled.opens done.stored.settled.durable i.10,
    )
