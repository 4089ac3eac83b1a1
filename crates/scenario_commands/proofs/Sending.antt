-- Lines of frames that were sent, one after the other.
use Rattle.std.proofs.Common.{◌≡◌, ℕ, zero, suc, ◌+◌, List, [], ◌++◌, refl, sym, ap, subst, ◌∙◌, append_assoc, add-one, arith}
use Rattle.std.proofs.lemmas.List.{append-nil}
use Rattle.meta_frame.specs.declared.message.Frame.{Frame}
use Rattle.world_core.specs.Refusal.{IsFrameOf}
use Rattle.world_core.specs.World.{World}
use Rattle.scenario_commands.specs.Printed.{AreFrameLines, frame_line}

-- this was added so far: the lines of so many frames
pub record Printing (w : World) (first count : ℕ) (old new : List ℕ) : Type 0 where
  pub text : List ℕ
  pub lines : AreFrameLines w first count text
  pub added : new ≡ old ++ text

one_more : (w : World) (first count number : ℕ) (frame : Frame) (text : List ℕ) → AreFrameLines w first count text → number ≡ first + count → IsFrameOf w number frame
    → AreFrameLines w first (suc count) (text ++ frame_line number frame)
one_more w first zero number frame text none is of =
    let same : number ≡ first = omega (arith, is) in
    let e : text ++ frame_line number frame ≡ frame_line first frame ++ [] =
    ap (λ (xs : List ℕ). xs ++ frame_line number frame) none ∙ ap (λ n. frame_line n frame) same ∙ sym (append-nil (frame_line first frame)) in
    (frame, [], subst (λ n. IsFrameOf w n frame) same of, refl, e)
one_more w first (suc count) number frame text (other, rest, here, lines, text_is) is of =
    let next : number ≡ (first + 1) + count = omega (arith, is) in (
      other,
      rest ++ frame_line number frame,
      here,
      one_more w (first + 1) count number frame rest lines next of,
      ap (λ (xs : List ℕ). xs ++ frame_line number frame) text_is ∙ append_assoc (frame_line first other) rest (frame_line number frame),
    )

pub printing_more : (w : World) (first count number : ℕ) (frame : Frame) (old mid new : List ℕ) → Printing w first count old mid → number ≡ first + count → IsFrameOf w number frame → new ≡ mid ++ frame_line number frame
    → Printing w first (count + 1) old new
printing_more w first count number frame old mid new so_far is of added = rw add-one (record {
  text = so_far.text ++ frame_line number frame;
  lines = one_more w first count number frame so_far.text so_far.lines is of;
  added = added ∙ ap (λ (xs : List ℕ). xs ++ frame_line number frame) so_far.added ∙ append_assoc old so_far.text (frame_line number frame);
})
