use Rattle.std.proofs.Common.{rules, ◌≡◌, inl, length}
use Rattle.file_pieces.proofs.Parts.{ends_in_front, ends_in_records}
use Rattle.file_pieces.proofs.reading.Reading.finish.Goals as goal

pub returns-in-Front-clause-refused : goal.returns-in-Front-clause-refused
returns-in-Front-clause-refused c =
    let came = c.self.inside in
    let count : c.len.result ≡ length came.rest.items = search rules in
    inl (ends_in_front c.args.self came.stage c.in-Front.field-0 came.rest.items c.len.result c.self.view_is c.in-Front.is (c.self.invariant.front c.in-Front.field-0 c.in-Front.is) count)

pub returns-in-Records-clause-refused : goal.returns-in-Records-clause-refused
returns-in-Records-clause-refused c =
    let came = c.self.inside in
    inl (ends_in_records c.args.self came.stage c.in-Records.progress came.rest.items c.at.result c.self.view_is c.in-Records.is (c.self.invariant.records c.in-Records.progress c.in-Records.is) c.at.ensures)
