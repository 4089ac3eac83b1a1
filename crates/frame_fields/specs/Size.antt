use Rattle.std.specs.Prelude.{◌≤◌, ◌<◌, ◌^◌, List, length}
use Rattle.meta_types.specs.Name.{most_key_len}
use Rattle.dvvset.specs.Object.{Entry}
use Rattle.frame_fields.specs.declared.keys.KeyDigest.{KeyDigest}

-- the number of an entry's values fits its field
abbrev pub IsShort : Entry → Type 0
IsShort e = length e.values < 2 ^ 16

-- the number of an object's entries, or of a vector's counters, fits its field
abbrev pub AreFew : {A : Type 0} → List A → Type 0
AreFew xs = length xs < 2 ^ 16

-- a key isn't too long
abbrev pub IsShortKey : KeyDigest → Type 0
IsShortKey row = length row.key ≤ most_key_len
