-- The keys that bytes are. The rule is our own.
use Rattle.std.specs.Prelude.{ℕ, ◌==◌, List, length, take, drop, Option, None, Some, if◌then◌else◌}
use Rattle.sealed_frames.specs.declared.key.Keys.{Keys}

-- 32 bytes are the current key, and 64 the current one and behind it the previous one
abbrev pub keys_of : List ℕ → Option Keys
keys_of bytes =
    if length bytes == 32 then Some (record { current = bytes; previous = None }) else
    if length bytes == 64
    then Some (record { current = take 32 bytes; previous = Some (drop 32 bytes) })
    else None
