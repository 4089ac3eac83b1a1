-- A line that is taken from several pieces.
use Rattle.std.proofs.Common.{◌≡◌, ◌≢◌, ℕ, ◌+◌, ◌<◌, ◌≤◌, Bool, true, false, List, [], ◌∷◌, ◌++◌, length, Option, sym, ap, subst, ◌∙◌, append_assoc, arith, inl}
use Rattle.std.proofs.lemmas.List.{append-nil, length-append}
use Rattle.std.proofs.lemmas.List.Elements.{All-append, All-nil}
use Rattle.std.specs.Io.KnownBytes.{IsAtEnd}
use Rattle.streams.specs.declared.fault.StreamFault.{StreamFault}
use Rattle.streams.specs.declared.fault.StreamFault.TheVariants.{Read, InputTooLong, Write, BrokenPipe, Memory}
use Rattle.streams.specs.Fault.{IsReadFault}
use Rattle.streams.specs.Line.{Pending, IsOneLine, Reads, Fills, Moves, TakesLine, StopsReading}
use Rattle.streams.proofs.Pieces.{Consumes-nil, Consumes-then}

-- the bytes that were read, after what was pending at first, are the line so far and what is pending now
pub record Taking (old now : Pending) (r s : Option (List ℕ)) (line : List ℕ) : Type 0 where
  pub reads : Reads r s old.left now.left
  pub parts : old.bytes ++ reads.bytes ≡ line ++ now.bytes
  pub one_line : IsOneLine line

pub taking_none : (old : Pending) (r : Option (List ℕ)) → Taking old old r r []
taking_none old r = record {
  reads = record { bytes = []; consumed = Consumes-nil r; counted = omega arith };
  parts = append-nil old.bytes;
  one_line = All-nil (λ x. x ≢ 10);
}

pub taking_filled : (old now filled : Pending) (r s t : Option (List ℕ)) (line : List ℕ) (more : Bool) → Taking old now r s line → Fills now filled s t more → Taking old filled r t line
taking_filled old now filled r s t line more so_far fill =
    let first = so_far.reads.bytes in
    let next = fill.reads.bytes in
    record {
      reads = record {
        bytes = first ++ next;
        consumed = Consumes-then r s t first next so_far.reads.consumed fill.reads.consumed;
        counted = let a = so_far.reads.counted in let b = fill.reads.counted in omega (arith, length-append first next);
      };
      parts =
          sym (append_assoc old.bytes first next) ∙ ap (λ (bytes : List ℕ). bytes ++ next) so_far.parts ∙ append_assoc line now.bytes next
          ∙ ap (λ (bytes : List ℕ). line ++ bytes) (sym fill.pending);
      one_line = so_far.one_line;
    }

-- the line with a part after it is still one
whole_line : (line part new : List ℕ) → IsOneLine line → IsOneLine part → new ≡ line ++ part → IsOneLine new
whole_line line part new a b e = subst IsOneLine (sym e) (All-append (λ x. x ≢ 10) line part a b)

pub taking_moved : (old filled new : Pending) (r s : Option (List ℕ)) (line longer : List ℕ) → Taking old filled r s line → Moves filled new line longer false → Taking old new r s longer
taking_moved old filled new r s line longer so_far move = record {
  reads = record { bytes = so_far.reads.bytes; consumed = so_far.reads.consumed; counted = let a = so_far.reads.counted in let b = move.left in omega arith };
  parts =
      so_far.parts ∙ ap (λ (bytes : List ℕ). line ++ bytes) move.answer.0 ∙ sym move.line
      ∙ sym (append-nil longer) ∙ ap (λ (bytes : List ℕ). longer ++ bytes) (sym move.answer.1);
  one_line = whole_line line move.part longer so_far.one_line move.one_line move.line;
}

pub taking_line : (old filled new : Pending) (r s : Option (List ℕ)) (line longer : List ℕ) → Taking old filled r s line → Moves filled new line longer true → TakesLine old new r s longer true
taking_line old filled new r s line longer so_far move = record {
  reads = record { bytes = so_far.reads.bytes; consumed = so_far.reads.consumed; counted = let a = so_far.reads.counted in let b = move.left in omega arith };
  one_line = whole_line line move.part longer so_far.one_line move.one_line move.line;
  answer =
      so_far.parts ∙ ap (λ (bytes : List ℕ). line ++ bytes) move.answer ∙ sym (append_assoc line move.part (10 ∷ new.bytes))
      ∙ ap (λ (bytes : List ℕ). bytes ++ 10 ∷ new.bytes) (sym move.line);
}

-- the reader is at its end
pub taking_rest : (old filled : Pending) (r s : Option (List ℕ)) (line : List ℕ) → Taking old filled r s line → filled.bytes ≡ [] → IsAtEnd s → TakesLine old filled r s line false
taking_rest old filled r s line so_far none end = record {
  reads = so_far.reads;
  one_line = so_far.one_line;
  answer = (so_far.parts ∙ ap (λ (bytes : List ℕ). line ++ bytes) none ∙ append-nil line, none, end);
}

-- a cause of reading within a longer one
cause_more : (failed too_long memory longer lacks : Type 0) (fault : StreamFault) → (too_long → longer) → (memory → lacks) → IsReadFault failed too_long memory fault → IsReadFault failed longer lacks fault
cause_more failed too_long memory longer lacks Read more less cause = cause
cause_more failed too_long memory longer lacks InputTooLong more less cause = more cause
cause_more failed too_long memory longer lacks Write more less cause = cause
cause_more failed too_long memory longer lacks BrokenPipe more less cause = cause
cause_more failed too_long memory longer lacks Memory more less cause = (less cause.0, cause.1)

-- the reader failed, or gave too much
pub taking_stopped : (failed memory : Type 0) (old now : Pending) (r s t : Option (List ℕ)) (line : List ℕ) (fault : StreamFault) → Taking old now r s line → StopsReading failed ⊥ now s t fault → StopsReading failed memory old r t fault
taking_stopped failed memory old now r s t line fault so_far stop =
    let first = so_far.reads.bytes in
    record {
      bytes = first ++ stop.bytes;
      consumed = Consumes-then r s t first stop.bytes so_far.reads.consumed stop.consumed;
      cause =
          cause_more failed (now.left < length stop.bytes) (⊥ × (length stop.bytes ≤ now.left))
          (old.left < length (first ++ stop.bytes)) (memory × (length (first ++ stop.bytes) ≤ old.left)) fault
          (λ lt. let a = so_far.reads.counted in omega (arith, length-append first stop.bytes)) (λ never. absurd never.0) stop.cause;
    }

-- memory for the line was refused
pub taking_refused : (failed memory : Type 0) (old now : Pending) (r s : Option (List ℕ)) (line : List ℕ) (fault : StreamFault) → Taking old now r s line → memory → fault ≡ Memory → StopsReading failed memory old r s fault
taking_refused failed memory old now r s line fault so_far lacks e = record {
  bytes = so_far.reads.bytes;
  consumed = so_far.reads.consumed;
  cause =
      let within : length so_far.reads.bytes ≤ old.left = let a = so_far.reads.counted in omega arith in
      subst (IsReadFault failed (old.left < length so_far.reads.bytes) (memory × (length so_far.reads.bytes ≤ old.left))) (sym e)
      ((lacks, within), inl (λ kind has. has));
}
