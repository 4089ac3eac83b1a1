-- The header of a frame, for whoever passes frames on without reading them.
use Rattle.std.specs.Prelude.{ℕ, ◌+◌, ◌==◌, nat_lt, List, [], ◌∷◌, length, Bool, not, ◌||◌}
use Rattle.std.specs.Int.{w8, w16, w64}
use Rattle.meta_types.specs.Node.{most_nodes}
use Rattle.meta_frame.specs.Frame.{body, from_in, is_kind, kind_in, kind_of, len_in, limit, number_in, to_in}
use Rattle.meta_frame.specs.declared.header.Header.{Header}
use Rattle.meta_frame.specs.declared.message.Frame.{Frame}
use Rattle.meta_frame.specs.declared.fault.FrameFault.{FrameFault}
use Rattle.meta_frame.specs.declared.fault.FrameFault.TheVariants.{Short, BadMagic, BadVersion, BadKind, TooLong, BadBody, LeftOver}

-- the header of a frame
abbrev pub header_of : Frame → Header
header_of f =
    record {
      kind = kind_of f.message;
      from = f.from;
      to = f.to;
      number = f.number;
      body_len = length (body f.message);
    }

-- what the twenty bytes at the front say
abbrev pub header_in : List ℕ → Header
header_in bytes =
    record {
      kind = kind_in bytes;
      from = from_in bytes;
      to = to_in bytes;
      number = number_in w64 8 bytes;
      body_len = len_in bytes;
    }

-- the tests of a header up to the length that it names, in their order
abbrev pub front_tests : List ℕ → List (Bool × FrameFault)
front_tests bytes =
    (nat_lt (length bytes) 20, Short)
    ∷ (not (number_in w16 0 bytes == 20564), BadMagic)
    ∷ (not (number_in w8 2 bytes == 2), BadVersion)
    ∷ (not (is_kind (kind_in bytes)), BadKind)
    ∷ (nat_lt limit (20 + len_in bytes), TooLong)
    ∷ []

-- the tests that there are as many bytes as it names, in their order
abbrev pub length_tests : List ℕ → List (Bool × FrameFault)
length_tests bytes =
    (nat_lt (length bytes) (20 + len_in bytes), Short)
    ∷ (nat_lt (20 + len_in bytes) (length bytes), LeftOver)
    ∷ []

-- the tests of the two nodes that it names
abbrev pub node_tests : List ℕ → List (Bool × FrameFault)
node_tests bytes =
    (not (nat_lt (from_in bytes) most_nodes), BadBody 4)
    ∷ (not (nat_lt (to_in bytes) most_nodes) || (to_in bytes == from_in bytes), BadBody 6)
    ∷ []
