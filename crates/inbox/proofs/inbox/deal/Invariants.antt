use Rattle.std.proofs.Common.{◌≡◌, ◌≤◌, [], vec_len, vec_capacity}
use Rattle.inbox.specs.Opening.{AreNewPasses}
use Rattle.inbox.proofs.inbox.deal.Given as goal

abbrev pub invariant-loop-from : goal.invariant-loop-from
invariant-loop-from l = record {
  takes : l.takes ≡ record { line = l.inbox.line; taken = []; made = l.from; back = [] };
  puts : AreNewPasses l.inbox.line l.from l.puts.items;
  number : vec_len l.puts ≡ l.from;
  room : l.senders ≤ vec_capacity l.puts;
}
