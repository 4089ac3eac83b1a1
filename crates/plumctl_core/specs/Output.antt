-- What `frame` prints.
use Rattle.std.specs.Prelude.{◌≡◌, ◌⊎◌, ℕ, ◌==◌, not, List, [], ◌∷◌, ◌++◌, Option, Some, None, MatchResult, Ok, codes}
use Rattle.std.specs.List.{filter}
use Rattle.hex.specs.Hex.{decode_of}
use Rattle.meta_frame.specs.declared.message.Frame.{Frame}
use Rattle.meta_frame.specs.declared.fault.FrameFault.{FrameFault}
use Rattle.meta_frame.specs.Frame.{Spells, RefusesBytes}
use Rattle.printing.specs.Frame.{frame_text, frame_fault_text}
use Rattle.sealed_frames.specs.Seal.{IsSealed, frame_in}
use Rattle.sealed_frames.specs.declared.key.Keys.{Keys}
use Rattle.streams.specs.Line.{lines_of}

-- spaces in a line are skipped
abbrev pub without_spaces : List ℕ → List ℕ
without_spaces line = filter (λ b. not (b == 32)) line

-- the text of bytes: of the frame that they spell, or of their first refusal
abbrev pub IsTextOfBytes : List ℕ → List ℕ → Type 0
IsTextOfBytes bytes text =
    ((frame : Frame) × Spells frame bytes × (text ≡ frame_text frame))
    ⊎ ((fault : FrameFault) × RefusesBytes bytes fault × (text ≡ frame_fault_text fault))

-- the text of bytes, which are sealed if there are keys: under keys that of what stands in front of
-- a right seal, or the refusal of a wrong one
abbrev pub IsTextUnder : Option Keys → List ℕ → List ℕ → Type 0
IsTextUnder None bytes text = IsTextOfBytes bytes text
IsTextUnder (Some keys) bytes text =
    (IsSealed keys bytes × IsTextOfBytes (frame_in bytes) text)
    ⊎ ((¬ IsSealed keys bytes) × (text ≡ codes "error 17 BadSeal"))

-- the frame is what bytes spell, which are sealed if there are keys
abbrev pub SpellsUnder : Option Keys → Frame → List ℕ → Type 0
SpellsUnder None frame bytes = Spells frame bytes
SpellsUnder (Some keys) frame bytes = IsSealed keys bytes × Spells frame (frame_in bytes)

-- the text of a line: of the bytes that its digits stand for
abbrev pub IsTextOf : Option Keys → List ℕ → List ℕ → Type 0
IsTextOf keys line text =
    MatchResult (decode_of (without_spaces line)) (λ bytes. IsTextUnder keys bytes text)
    (λ _. text ≡ codes "error 9 BadHex")

-- the line stands for a frame
pub record IsFrameLine (keys : Option Keys) (line : List ℕ) : Type 0 where
  pub bytes : List ℕ
  pub digits : decode_of (without_spaces line) ≡ Ok bytes
  pub frame : Frame
  pub spelled : SpellsUnder keys frame bytes

-- the text of each line, and a line feed after each
abbrev pub IsTextOfAll : Option Keys → List (List ℕ) → List ℕ → Type 0
IsTextOfAll keys [] text = text ≡ []
IsTextOfAll keys (line ∷ lines) text = (first : List ℕ) × (rest : List ℕ)
    × IsTextOf keys line first × IsTextOfAll keys lines rest × (text ≡ first ++ 10 ∷ rest)

-- the output for a whole input
abbrev pub IsFrameOutput : Option Keys → List ℕ → List ℕ → Type 0
IsFrameOutput keys input output = IsTextOfAll keys (lines_of input) output

-- ---- what private functions cite

-- the text was put after what stood there
abbrev pub PrintsText : List ℕ → List ℕ → List ℕ → Type 0
PrintsText bytes old new = (text : List ℕ) × IsTextOfBytes bytes text × (new ≡ old ++ text)

abbrev pub PrintsTextUnder : Option Keys → List ℕ → List ℕ → List ℕ → Type 0
PrintsTextUnder keys bytes old new =
    (text : List ℕ) × IsTextUnder keys bytes text × (new ≡ old ++ text)
