use Rattle.std.proofs.Common.{◌≡◌, ℕ, List, [], ◌++◌, Result, Ok, sym, ◌∙◌}
use Rattle.std.proofs.lemmas.List.{append-nil}
use Rattle.meta_frame.specs.Frame.{Spells}
use Rattle.meta_frame.specs.Header.{header_of}
use Rattle.meta_frame.specs.declared.fault.FrameFault.{FrameFault}
use Rattle.meta_frame.specs.declared.header.Header.{Header}
use Rattle.meta_frame.specs.declared.message.Frame.{Frame}
use Rattle.scenario_commands.proofs.Results.{on_ok}
use Rattle.scenario_commands.proofs.print.print_frame_line.Goals as goal

abbrev read_as : Header → Result Header FrameFault
read_as header = Ok header

-- what was read at the front of a frame's bytes is its header
header_is : (frame : Frame) (bytes slice : List ℕ) (header : Header) → slice ≡ bytes → Spells frame bytes
    → ((f : Frame) (front rest : List ℕ) → slice ≡ front ++ rest → Spells f front → read_as header ≡ read_as (header_of f)) → header ≡ header_of frame
header_is frame bytes slice header same spells at_front =
    let read : read_as header ≡ read_as (header_of frame) = at_front frame bytes [] (same ∙ sym (append-nil bytes)) spells in
    cc

pub print_sent-requires : goal.print_sent-requires
print_sent-requires c =
    (c.requires.0, header_is c.requires.0 c.args.bytes.now _ c.in-Ok.header c.as_slice.ensures c.requires.1 c.in-Ok.ensures.of_frame)

pub returns : goal.returns
returns c =
    on_ok c.print_sent.result (λ added. (c.requires.0, (c.requires.1, added)))
    (c.print_sent.ensures c.requires.0 (header_is c.requires.0 c.args.bytes.now _ c.in-Ok.header c.as_slice.ensures c.requires.1 c.in-Ok.ensures.of_frame))
