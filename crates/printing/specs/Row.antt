-- Printed node numbers, digests, and rows of prefixes and keys.
use Rattle.std.specs.Prelude.{ℕ, true, List, ◌++◌, map, codes, decimal}
use Rattle.hex.specs.Hex.{encode_lower}
use Rattle.frame_fields.specs.declared.prefixes.PrefixDigest.{PrefixDigest}
use Rattle.frame_fields.specs.declared.keys.KeyDigest.{KeyDigest}
use Rattle.printing.specs.Field.{bytes_text, prefix_text}
use Rattle.printing.specs.Joined.{joined, separated}

-- as `2,3`
abbrev pub nodes_text : List ℕ → List ℕ
nodes_text ns = joined (map decimal ns)

-- two lower case digits for each byte
abbrev pub digest_text : List ℕ → List ℕ
digest_text = encode_lower

-- sixteen, so never `-`
abbrev pub digests_text : List (List ℕ) → List ℕ
digests_text ds = separated true (map digest_text ds)

-- as `a/b=` and a digest
unfoldable pub prefix_row_text : PrefixDigest → List ℕ
prefix_row_text row = prefix_text row.prefix ++ codes "=" ++ digest_text row.digest

abbrev pub prefixes_text : List PrefixDigest → List ℕ
prefixes_text rows = joined (map prefix_row_text rows)

-- as `k=` and a digest
unfoldable pub key_row_text : KeyDigest → List ℕ
key_row_text row = bytes_text row.key ++ codes "=" ++ digest_text row.digest

abbrev pub keys_text : List KeyDigest → List ℕ
keys_text rows = joined (map key_row_text rows)
