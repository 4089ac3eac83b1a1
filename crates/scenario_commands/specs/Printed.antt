-- Lines that are printed, besides the result lines of the table.
use Rattle.std.specs.Prelude.{◌≡◌, ℕ, zero, suc, ◌+◌, List, [], ◌∷◌, ◌++◌, codes, decimal}
use Rattle.meta_frame.specs.declared.message.Frame.{Frame}
use Rattle.meta_frame.specs.Frame.{name_of}
use Rattle.meta_types.specs.declared.fault.TypeFault.{TypeFault}
use Rattle.meta_types.specs.Fault as names
use Rattle.world_core.specs.declared.answer.FrameNumbers.{FrameNumbers}
use Rattle.world_core.specs.declared.fault.WorldFault.{WorldFault}
use Rattle.world_core.specs.Fault as world
use Rattle.world_core.specs.Refusal.{IsFrameOf}
use Rattle.world_core.specs.World.{World}

-- a text, and the line feed that ends it
abbrev pub line : List ℕ → List ℕ
line text = text ++ 10 ∷ []

abbrev pub refused : ℕ → List ℕ → List ℕ
refused code name = line (codes "refused " ++ decimal code ++ codes " " ++ name)

-- as `refused 44 NoSuchNode`
abbrev pub world_refused : WorldFault → List ℕ
world_refused fault = refused (world.code_of fault) (world.fault_name fault)

-- as `refused 1 BadName`
abbrev pub name_refused : TypeFault → List ℕ
name_refused fault = refused (names.code_of fault) (names.fault_name fault)

-- as `frame 2 GOSSIP 0 1`: a frame that was sent, by its number in the world
abbrev pub frame_line : ℕ → Frame → List ℕ
frame_line number frame = line (codes "frame " ++ decimal number ++ codes " "
    ++ name_of frame.message ++ codes " " ++ decimal frame.from ++ codes " " ++ decimal frame.to)

-- a line for each of a number of frames of the world, from this frame number on
abbrev pub AreFrameLines : World → ℕ → ℕ → List ℕ → Type 0
AreFrameLines w number zero text = text ≡ []
AreFrameLines w number (suc more) text = (frame : Frame) × (rest : List ℕ)
    × IsFrameOf w number frame × AreFrameLines w (number + 1) more rest
    × (text ≡ frame_line number frame ++ rest)

-- a line for each frame of these numbers
abbrev pub AreLinesOf : World → FrameNumbers → List ℕ → Type 0
AreLinesOf w sent text = AreFrameLines w sent.first sent.count text
