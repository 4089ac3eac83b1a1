-- The order of the full prefixes and keys that a tree returns.
use Rattle.std.specs.Prelude.{Bool, List, map}
use Rattle.std.specs.FinMap.{is_sorted}
use Rattle.meta_types.specs.Order.{bytes_cmp, prefix_cmp}
use Rattle.frame_fields.specs.Field.{key_row_parts, prefix_row_parts}
use Rattle.frame_fields.specs.declared.keys.KeyDigest.{KeyDigest}
use Rattle.frame_fields.specs.declared.prefixes.PrefixDigest.{PrefixDigest}

-- full prefixes rise strictly
abbrev pub do_prefixes_rise : List PrefixDigest → Bool
do_prefixes_rise rows = is_sorted prefix_cmp (map prefix_row_parts rows)

-- keys' own bytes rise strictly
abbrev pub do_keys_rise : List KeyDigest → Bool
do_keys_rise rows = is_sorted bytes_cmp (map key_row_parts rows)
