use Rattle.std.proofs.Common.{◌≡◌, ◌+◌, ◌≤◌, vec_len, vec_capacity}
use Rattle.node_desk.specs.Starting.{AreNewWriters}
use Rattle.node_desk.proofs.starting.write_seats.Given as goal

abbrev pub invariant-loop-place : goal.invariant-loop-place
invariant-loop-place g l = record {
  seats : AreNewWriters l._place l.seats.items;
  parts : l.rest.parts + l._place ≡ l.initial.rest.parts;
  amount : l.rest.amount ≡ 0;
  number : vec_len l.seats ≡ l._place;
  room : l.count ≤ vec_capacity l.seats;
}
