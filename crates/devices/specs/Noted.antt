-- The call that a note stands for. A note is plain numbers and bytes: which call, and its offset
-- or the length that the content is cut to.
use Rattle.std.specs.Prelude.{ℕ, List, length, slice_index, ◌==◌, if◌then◌else◌}
use Rattle.devices.specs.Calls.{DeviceCall, wrote, failed_to_write, cut_to, failed_to_cut, synced}

abbrev pub call_noted : List ℕ → List ℕ → DeviceCall
call_noted numbers bytes =
    if slice_index numbers 0 == 0 then wrote (slice_index numbers 1) bytes
    else (if slice_index numbers 0 == 1 then failed_to_write (slice_index numbers 1) (length bytes)
    else (if slice_index numbers 0 == 2 then cut_to (slice_index numbers 1)
    else (if slice_index numbers 0 == 3 then failed_to_cut (slice_index numbers 1) else synced)))
