-- Printed forms of names and values: a rule of this project, the same for every command.
use Rattle.std.specs.Prelude.{ℕ, ◌==◌, ◌&&◌, ◌||◌, nat_le, Bool, not, if◌then◌else◌, List, [], ◌++◌, length, Option, Some, None, codes, decimal}
use Rattle.std.specs.List.{list_all}
use Rattle.hex.specs.Hex.{encode_lower}
use Rattle.meta_types.specs.Actor.{node_of_writer, incarnation_of_writer}
use Rattle.meta_types.specs.Name.{Prefix, Key}
use Rattle.meta_types.specs.Value.{ValueParts}

-- who counts writes: its node and its incarnation, as `0.1`
unfoldable pub actor_text : ℕ → List ℕ
actor_text w = decimal (node_of_writer w) ++ codes "." ++ decimal (incarnation_of_writer w)

abbrev between : ℕ → ℕ → ℕ → Bool
between low high b = nat_le low b && nat_le b high

-- a letter, a digit, `.`, `_` or `-`
abbrev pub is_plain : ℕ → Bool
is_plain b = between 65 90 b || between 97 122 b || between 48 57 b || (b == 46) || (b == 95)
    || (b == 45)

-- there are bytes, and all are plain
abbrev pub are_plain : List ℕ → Bool
are_plain bytes = not (length bytes == 0) && list_all is_plain bytes

-- plain bytes stand as they are, others as `hex:` and two lower case digits for each
unfoldable pub bytes_text : List ℕ → List ℕ
bytes_text bytes = if are_plain bytes then bytes else codes "hex:" ++ encode_lower bytes

-- as `a/b`
abbrev pub prefix_text : Prefix → List ℕ
prefix_text p = bytes_text p.prefix ++ codes "/" ++ bytes_text p.sub

-- as `a/b/k`
abbrev pub key_text : Key → List ℕ
key_text k = prefix_text k.prefix ++ codes "/" ++ bytes_text k.key

-- `~` stands for a tombstone
abbrev pub body_text : Option (List ℕ) → List ℕ
body_text None = codes "~"
body_text (Some bytes) = bytes_text bytes

-- a stamp stands after its value, as `@5`, unless it is 0
abbrev pub stamp_text : ℕ → List ℕ
stamp_text stamp = if stamp == 0 then [] else codes "@" ++ decimal stamp

unfoldable pub value_text : ValueParts → List ℕ
value_text v = body_text v.body ++ stamp_text v.stamp
