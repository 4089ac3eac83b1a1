use Rattle.std.proofs.Common.{◌≡◌, ◌≤◌, ◌+◌, ◌++◌, drop, length, map, All, vec_capacity}
use Rattle.node_file.specs.View.{IsSettled}
use Rattle.cluster_worker.specs.Serving.{CanServeBefore, IsServed, life_of_file, lives_from}
use Rattle.cluster_worker.proofs.serving.begin_all.Given as goal

abbrev pub invariant-loop-device : goal.invariant-loop-device
invariant-loop-device g l =
    let begun = length l.all.items in
    let rest = l.device-iterator.rest.items in
    let content = g.D.Device.content in record {
      number : begun + length rest ≡ length l.fn.devices.items;
      places : rest ≡ drop begun l.fn.devices.items;
      room : length l.fn.devices.items ≤ vec_capacity l.all;
      before : CanServeBefore content l.fn.devices.items begun;
      served : All (λ s. IsServed content s.file s.table) l.all.items;
      settled : All (λ s. IsSettled content g.D.Device.may_leave s.file) l.all.items;
      lives : map (λ s. life_of_file s.file s.table) l.all.items ++ lives_from begun (map content rest)
          ≡ lives_from 0 (map content l.fn.devices.items);
    }
