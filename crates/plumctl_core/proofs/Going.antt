-- A run of `frame`, line by line.
use Rattle.std.proofs.Common.{◌≡◌, ℕ, suc, ◌+◌, ◌<◌, ◌≤◌, ◌↔◌, ◌&&◌, if◌then◌else◌, Bool, true, false, List, [], ◌∷◌, ◌++◌, length, All, Option, Some, None, refl, sym, ap, subst, ◌∙◌, append_assoc, arith, IsTrue, inl, inr}
use Rattle.std.proofs.lemmas.List.{append-nil, length-append}
use Rattle.std.proofs.lemmas.List.Elements.{All-append, All-nil, All-cons, All-head, All-tail}
use Rattle.std.specs.Io.KnownBytes.{Appends, Consumes, Keeps}
use Rattle.streams.specs.declared.fault.StreamFault.{StreamFault}
use Rattle.streams.specs.declared.fault.StreamFault.TheVariants.{Read, InputTooLong, Write, BrokenPipe, Memory}
use Rattle.std.specs.declared.io.ErrorKind.{ErrorKind}
use Rattle.std.specs.declared.io.ErrorKind.TheVariants as kinds
use Rattle.streams.specs.Fault.{Failed, FailsNoMore, HasCause, IsWriteFault, IsReadFault, IsWriterFault, fault_of_kind}
use Rattle.streams.specs.Moment.{SinkAt, SourceAt}
use Rattle.streams.specs.Written.{AppendsFront}
use Rattle.streams.specs.Line.{input_limit, lines_of, Pending, TakesLine, StopsReading}
use Rattle.streams.proofs.Failing.{FailsNoMore-self, writer_fault_then, write_fault_then}
use Rattle.streams.proofs.Sent.{Appends-nil, Appends-then, Appends-kept}
use Rattle.streams.proofs.Pieces.{Consumes-nil, Consumes-then}
use Rattle.sealed_frames.specs.declared.key.Keys.{Keys}
use Rattle.plumctl_core.specs.declared.frame.Ended.{Ended}
use Rattle.plumctl_core.specs.declared.frame.Ended.TheVariants.{AllPrinted, SomeRefused}
use Rattle.plumctl_core.specs.Output.{IsTextOfAll, IsFrameLine, IsFrameOutput}
use Rattle.plumctl_core.specs.Run.{EndsAtLine, PrintsFrames, Stops, WritesLine, StopsLine, WritesLast, StopsLast}
use Rattle.plumctl_core.proofs.LinesOf.{ends_none, ends_more, lines_more, lines_last}
use Rattle.plumctl_core.proofs.Texts.{text_of_line, text_more}

pub Keeps-self : (v : Option (List ℕ)) → Keeps v v
Keeps-self None = tt
Keeps-self (Some xs) = refl

-- nothing of the line was written
pub stopped_before : (keys : Option Keys) (line : List ℕ) (w : SinkAt) (fault : StreamFault) → fault ≡ Memory → StopsLine keys line w w fault
stopped_before keys line w fault e =
    let text = text_of_line keys line in
    record {
      text = text.0;
      text_is = text.1;
      appended = record { front = []; rest = text.0 ++ 10 ∷ []; parts = refl; appended = Appends-nil w.contents };
      cause = subst (IsWriteFault w.failed w.failed) (sym e) (tt, inl (FailsNoMore-self w.failed));
    }

-- whole lines were read, and the output for them was written
pub record Going (keys : Option Keys) (r s : SourceAt) (w v : SinkAt) (now : Pending) (all : Bool) : Type 0 where
  pub read : List ℕ
  pub consumed : Consumes r.remaining s.remaining read
  pub counted : 67108864 ≡ now.left + length read
  pub done : List ℕ
  pub parts : read ≡ done ++ now.bytes
  pub ends : EndsAtLine done
  pub output : List ℕ
  pub output_is : IsFrameOutput keys done output
  pub appended : Appends w.contents v.contents output
  pub frames : IsTrue all ↔ All (IsFrameLine keys) (lines_of done)

pub going_none : (keys : Option Keys) (r : SourceAt) (w : SinkAt) → Going keys r r w w (record { bytes = []; left = 67108864 }) true
unfolding lines_of
going_none keys r w = record {
  read = [];
  consumed = Consumes-nil r.remaining;
  counted = omega arith;
  done = [];
  parts = refl;
  ends = ends_none;
  output = [];
  output_is = refl;
  appended = Appends-nil w.contents;
  frames = (λ yes. All-nil (IsFrameLine keys), λ frames. refl);
}

All-before : (keys : Option Keys) (xs ys : List (List ℕ)) → All (IsFrameLine keys) (xs ++ ys) → All (IsFrameLine keys) xs
All-before keys [] ys h = All-nil (IsFrameLine keys)
All-before keys (x ∷ xs) ys h = All-cons (IsFrameLine keys) x xs (All-head (IsFrameLine keys) x (xs ++ ys) h) (All-before keys xs ys (All-tail (IsFrameLine keys) x (xs ++ ys) h))

All-behind : (keys : Option Keys) (xs ys : List (List ℕ)) → All (IsFrameLine keys) (xs ++ ys) → All (IsFrameLine keys) ys
All-behind keys [] ys h = h
All-behind keys (x ∷ xs) ys h = All-behind keys xs ys (All-tail (IsFrameLine keys) x (xs ++ ys) h)

-- both are true, and so are all of both
both_all : (keys : Option Keys) (a b : Bool) (lines : List (List ℕ)) (line : List ℕ) → (IsTrue a ↔ All (IsFrameLine keys) lines) → (IsTrue b ↔ IsFrameLine keys line) → IsTrue (a && b) ↔ All (IsFrameLine keys) (lines ++ line ∷ [])
both_all keys true true lines line p q = (λ yes. All-append (IsFrameLine keys) lines (line ∷ []) (p.0 refl) (All-cons (IsFrameLine keys) line [] (q.0 refl) (All-nil (IsFrameLine keys))), λ frames. refl)
both_all keys true false lines line p q = (λ yes. cc yes, λ frames. q.1 (All-head (IsFrameLine keys) line [] (All-behind keys lines (line ∷ []) frames)))
both_all keys false b lines line p q = (λ yes. cc yes, λ frames. p.1 (All-before keys lines (line ∷ []) frames))

abbrev text_written : List ℕ → List ℕ
text_written text = text ++ 10 ∷ []

-- what was read up to a line feed, and up to the end
read_line : (read done pending more line after : List ℕ) → read ≡ done ++ pending → pending ++ more ≡ line ++ 10 ∷ after → read ++ more ≡ (done ++ (line ++ 10 ∷ [])) ++ after
read_line read done pending more line after parts answer =
    ap (λ (bytes : List ℕ). bytes ++ more) parts ∙ append_assoc done pending more
    ∙ ap (λ (bytes : List ℕ). done ++ bytes) (answer ∙ sym (append_assoc line (10 ∷ []) after))
    ∙ sym (append_assoc done (line ++ 10 ∷ []) after)

read_rest : (read done pending more line : List ℕ) → read ≡ done ++ pending → pending ++ more ≡ line → read ++ more ≡ (done ++ line) ++ []
read_rest read done pending more line parts answer =
    ap (λ (bytes : List ℕ). bytes ++ more) parts ∙ append_assoc done pending more
    ∙ ap (λ (bytes : List ℕ). done ++ bytes) answer ∙ sym (append-nil (done ++ line))

-- a line was taken and written
pub going_line : (keys : Option Keys) (r s t : SourceAt) (w v u : SinkAt) (now new : Pending) (all is : Bool) (line : List ℕ)
    → Going keys r s w v now all → TakesLine now new s.remaining t.remaining line true → WritesLine keys line v u is → Going keys r t w u new (all && is)
going_line keys r s t w v u now new all is line so_far takes writes =
    let more = takes.reads.bytes in
    record {
      read = so_far.read ++ more;
      consumed = Consumes-then r.remaining s.remaining t.remaining so_far.read more so_far.consumed takes.reads.consumed;
      counted = let a = so_far.counted in let b = takes.reads.counted in omega (arith, length-append so_far.read more);
      done = so_far.done ++ (line ++ 10 ∷ []);
      parts = read_line so_far.read so_far.done now.bytes more line new.bytes so_far.parts takes.answer;
      ends = ends_more so_far.done line so_far.ends takes.one_line;
      output = so_far.output ++ text_written writes.text;
      output_is =
          subst (λ lines. IsTextOfAll keys lines (so_far.output ++ text_written writes.text)) (sym (lines_more so_far.done line so_far.ends takes.one_line))
          (text_more keys (lines_of so_far.done) line so_far.output writes.text so_far.output_is writes.text_is);
      appended = Appends-then w.contents v.contents u.contents so_far.output (text_written writes.text) so_far.appended writes.appended;
      frames =
          subst (λ lines. IsTrue (all && is) ↔ All (IsFrameLine keys) lines) (sym (lines_more so_far.done line so_far.ends takes.one_line))
          (both_all keys all is (lines_of so_far.done) line so_far.frames writes.frame);
    }

-- what was held back was passed on
pub going_flushed : (keys : Option Keys) (r s : SourceAt) (w v u : SinkAt) (now : Pending) (all : Bool) → Going keys r s w v now all → Keeps v.contents u.contents → Going keys r s w u now all
going_flushed keys r s w v u now all so_far keeps = record {
  read = so_far.read;
  consumed = so_far.consumed;
  counted = so_far.counted;
  done = so_far.done;
  parts = so_far.parts;
  ends = so_far.ends;
  output = so_far.output;
  output_is = so_far.output_is;
  appended = Appends-kept w.contents v.contents u.contents so_far.output so_far.appended keeps;
  frames = so_far.frames;
}

-- a line that was taken leaves less to do
pub going_less : (now new : Pending) (s t : Option (List ℕ)) (line : List ℕ) → TakesLine now new s t line true → new.left + length new.bytes < now.left + length now.bytes
going_less now new s t line takes =
    let more = takes.reads.bytes in
    let counted = takes.reads.counted in
    let parts : length now.bytes + length more ≡ length line + suc (length new.bytes) =
    sym (length-append now.bytes more) ∙ ap length takes.answer ∙ length-append line (10 ∷ new.bytes) in
    omega arith

-- ---- the end

ended_is : (all : Bool) (ended : Ended) → ended ≡ (if all then AllPrinted else SomeRefused) → (ended ≡ AllPrinted) ↔ IsTrue all
ended_is true ended e = (λ same. refl, λ yes. e)
ended_is false ended e = (λ same. cc (sym e ∙ same), λ yes. cc yes)

-- the input ended after a line feed
prints_all : (keys : Option Keys) (r s t : SourceAt) (w v u : SinkAt) (now new : Pending) (all : Bool) (line : List ℕ) (ended : Ended)
    → Going keys r s w v now all → TakesLine now new s.remaining t.remaining line false → line ≡ [] → Keeps v.contents u.contents → ended ≡ (if all then AllPrinted else SomeRefused) → u.passed_on → PrintsFrames keys r t w u ended
prints_all keys r s t w v u now new all line ended so_far takes none keeps e on =
    let more = takes.reads.bytes in
    let done : so_far.read ++ more ≡ so_far.done =
    ap (λ (bytes : List ℕ). bytes ++ more) so_far.parts ∙ append_assoc so_far.done now.bytes more
    ∙ ap (λ (bytes : List ℕ). so_far.done ++ bytes) (takes.answer.0 ∙ none) ∙ append-nil so_far.done in
    record {
      input = so_far.read ++ more;
      consumed = Consumes-then r.remaining s.remaining t.remaining so_far.read more so_far.consumed takes.reads.consumed;
      end = takes.answer.2;
      within = let a = so_far.counted in let b = takes.reads.counted in omega (arith, length-append so_far.read more);
      output = so_far.output;
      output_is = subst (λ input. IsFrameOutput keys input so_far.output) (sym done) so_far.output_is;
      appended = Appends-kept w.contents v.contents u.contents so_far.output so_far.appended keeps;
      passed = on;
      all =
          let is = ended_is all ended e in
          subst (λ input. (ended ≡ AllPrinted) ↔ All (IsFrameLine keys) (lines_of input)) (sym done) (λ same. so_far.frames.0 (is.0 same), λ frames. is.1 (so_far.frames.1 frames));
    }

-- the input ended without a line feed after its last line
prints_last : (keys : Option Keys) (r s t : SourceAt) (w v u x : SinkAt) (now new : Pending) (all is : Bool) (line : List ℕ) (ended : Ended)
    → Going keys r s w v now all → TakesLine now new s.remaining t.remaining line false → 0 < length line → WritesLine keys line v u is → Keeps u.contents x.contents → ended ≡ (if all && is then AllPrinted else SomeRefused) → x.passed_on → PrintsFrames keys r t w x ended
prints_last keys r s t w v u x now new all is line ended so_far takes some writes keeps e on =
    let more = takes.reads.bytes in
    let done : so_far.read ++ more ≡ so_far.done ++ line =
    ap (λ (bytes : List ℕ). bytes ++ more) so_far.parts ∙ append_assoc so_far.done now.bytes more
    ∙ ap (λ (bytes : List ℕ). so_far.done ++ bytes) takes.answer.0 in
    let lines : lines_of (so_far.read ++ more) ≡ lines_of so_far.done ++ line ∷ [] = ap lines_of done ∙ lines_last so_far.done line so_far.ends takes.one_line some in
    record {
      input = so_far.read ++ more;
      consumed = Consumes-then r.remaining s.remaining t.remaining so_far.read more so_far.consumed takes.reads.consumed;
      end = takes.answer.2;
      within = let a = so_far.counted in let b = takes.reads.counted in omega (arith, length-append so_far.read more);
      output = so_far.output ++ text_written writes.text;
      output_is =
          subst (λ ls. IsTextOfAll keys ls (so_far.output ++ text_written writes.text)) (sym lines)
          (text_more keys (lines_of so_far.done) line so_far.output writes.text so_far.output_is writes.text_is);
      appended = Appends-kept w.contents u.contents x.contents (so_far.output ++ text_written writes.text) (Appends-then w.contents v.contents u.contents so_far.output (text_written writes.text) so_far.appended writes.appended) keeps;
      passed = on;
      all =
          let is_true = ended_is (all && is) ended e in
          let both = both_all keys all is (lines_of so_far.done) line so_far.frames writes.frame in
          subst (λ ls. (ended ≡ AllPrinted) ↔ All (IsFrameLine keys) ls) (sym lines) (λ same. both.0 (is_true.0 same), λ frames. is_true.1 (both.1 frames));
    }

-- ---- faults

no_text : (keys : Option Keys) → IsTextOfAll keys (lines_of []) []
unfolding lines_of
no_text keys = refl

cause_of_writing : (read_failed too_long memory : Type 0) (old new : Failed) (fault : StreamFault) → memory → IsWriteFault old new fault → HasCause read_failed too_long memory old new fault
cause_of_writing read_failed too_long memory old new Read lacks cause = absurd cause
cause_of_writing read_failed too_long memory old new InputTooLong lacks cause = absurd cause
cause_of_writing read_failed too_long memory old new Write lacks cause = cause
cause_of_writing read_failed too_long memory old new BrokenPipe lacks cause = cause
cause_of_writing read_failed too_long memory old new Memory lacks cause = (lacks, cause.1)

cause_of_reading : (read_failed too_long memory longer lacks : Type 0) (old new : Failed) (fault : StreamFault)
    → (too_long → longer) → (memory → lacks) → FailsNoMore old new → IsReadFault read_failed too_long memory fault → HasCause read_failed longer lacks old new fault
cause_of_reading read_failed too_long memory longer lacks old new Read more less kept cause = cause
cause_of_reading read_failed too_long memory longer lacks old new InputTooLong more less kept cause = more cause
cause_of_reading read_failed too_long memory longer lacks old new Write more less kept cause = absurd cause.answered
cause_of_reading read_failed too_long memory longer lacks old new BrokenPipe more less kept cause = absurd cause.answered
cause_of_reading read_failed too_long memory longer lacks old new Memory more less kept cause = (less cause.0, inl kept)

-- an error of the writer is no fault of reading
never_read : (kind : ErrorKind) → Read ≡ fault_of_kind kind → ⊥
never_read kinds.BrokenPipe e = cc
never_read kinds.OutOfMemory e = cc
never_read kind e = cc

never_too_long : (kind : ErrorKind) → InputTooLong ≡ fault_of_kind kind → ⊥
never_too_long kinds.BrokenPipe e = cc
never_too_long kinds.OutOfMemory e = cc
never_too_long kind e = cc

pub cause_of_writer : (old new : Failed) (fault : StreamFault) → IsWriterFault old new fault → IsWriteFault old new fault
cause_of_writer old new Read cause = absurd (never_read cause.kind cause.fault_is)
cause_of_writer old new InputTooLong cause = absurd (never_too_long cause.kind cause.fault_is)
cause_of_writer old new Write cause = cause
cause_of_writer old new BrokenPipe cause = cause
cause_of_writer old new Memory cause = (tt, inr cause)

-- a fault of writing, in a run that has read so much
cause_of_run : (read_old read_new : Type 0) (old now new : Failed) (read : ℕ) (fault : StreamFault)
    → (read_new → read_old) → read ≤ input_limit → FailsNoMore old now → IsWriteFault now new fault
    → HasCause read_new (input_limit < read) ((read_new → read_old) × (read ≤ input_limit)) old new fault
cause_of_run read_old read_new old now new read fault reads within kept cause =
    cause_of_writing read_new (input_limit < read) ((read_new → read_old) × (read ≤ input_limit)) old new fault (reads, within)
    (write_fault_then old now new fault kept cause)

-- the output so far, and a front of more
front_more : (w v u : Option (List ℕ)) (output more : List ℕ) → Appends w v output → AppendsFront v u more → AppendsFront w u (output ++ more)
front_more w v u output more appended f = record {
  front = output ++ f.front;
  rest = f.rest;
  parts = ap (λ (bytes : List ℕ). output ++ bytes) f.parts ∙ sym (append_assoc output f.front f.rest);
  appended = Appends-then w v u output f.front appended f.appended;
}

-- all of it
front_all : (w v u : Option (List ℕ)) (output : List ℕ) → Appends w v output → Keeps v u → AppendsFront w u output
front_all w v u output appended keeps = record { front = output; rest = []; parts = sym (append-nil output); appended = Appends-kept w v u output appended keeps }

-- the reader failed, or gave too much, or memory for a line was refused
pub stops_reading : (keys : Option Keys) (r s t : SourceAt) (w v : SinkAt) (now : Pending) (all : Bool) (fault : StreamFault)
    → Going keys r s w v now all → (s.failed → r.failed) → FailsNoMore w.failed v.failed → StopsReading t.failed (t.failed → s.failed) now s.remaining t.remaining fault → Stops keys r t w v fault
stops_reading keys r s t w v now all fault so_far reads kept stop =
    let read : so_far.read ++ stop.bytes ≡ so_far.done ++ (now.bytes ++ stop.bytes) =
    ap (λ (bytes : List ℕ). bytes ++ stop.bytes) so_far.parts ∙ append_assoc so_far.done now.bytes stop.bytes in
    let count = length (so_far.done ++ (now.bytes ++ stop.bytes)) in
    record {
      lines = so_far.done;
      begun = now.bytes ++ stop.bytes;
      consumed = subst (Consumes r.remaining t.remaining) read (Consumes-then r.remaining s.remaining t.remaining so_far.read stop.bytes so_far.consumed stop.consumed);
      ended = inl so_far.ends;
      output = so_far.output;
      output_is = so_far.output_is;
      appended = front_all w.contents v.contents v.contents so_far.output so_far.appended (Keeps-self v.contents);
      cause =
          cause_of_reading t.failed (now.left < length stop.bytes) ((t.failed → s.failed) × (length stop.bytes ≤ now.left))
          (input_limit < count) ((t.failed → r.failed) × (count ≤ input_limit)) w.failed v.failed fault
          (λ lt. let a = so_far.counted in let same = ap length read in omega (arith, length-append so_far.read stop.bytes))
          (λ lacks. let within = lacks.1 in (λ failed. reads (lacks.0 failed), let a = so_far.counted in let same = ap length read in omega (arith, length-append so_far.read stop.bytes)))
          kept stop.cause;
    }

-- passing on failed between lines
pub stops_flushing : (keys : Option Keys) (r s : SourceAt) (w v u : SinkAt) (now : Pending) (all : Bool) (fault : StreamFault)
    → Going keys r s w v now all → (s.failed → r.failed) → FailsNoMore w.failed v.failed → Keeps v.contents u.contents → IsWriterFault v.failed u.failed fault → Stops keys r s w u fault
stops_flushing keys r s w v u now all fault so_far reads kept keeps cause = record {
  lines = so_far.done;
  begun = now.bytes;
  consumed = subst (Consumes r.remaining s.remaining) so_far.parts so_far.consumed;
  ended = inl so_far.ends;
  output = so_far.output;
  output_is = so_far.output_is;
  appended = front_all w.contents v.contents u.contents so_far.output so_far.appended keeps;
  cause =
      let within : length (so_far.done ++ now.bytes) ≤ input_limit = let a = so_far.counted in let same = ap length so_far.parts in omega arith in
      cause_of_run r.failed s.failed w.failed v.failed u.failed (length (so_far.done ++ now.bytes)) fault reads within kept (cause_of_writer v.failed u.failed fault cause);
}

-- what was read with a line is within the limit
within_limit : (keys : Option Keys) (r s t : SourceAt) (w v : SinkAt) (now new : Pending) (all is : Bool) (line lines begun : List ℕ) (so_far : Going keys r s w v now all) (takes : TakesLine now new s.remaining t.remaining line is)
    → so_far.read ++ takes.reads.bytes ≡ lines ++ begun → length (lines ++ begun) ≤ input_limit
within_limit keys r s t w v now new all is line lines begun so_far takes read =
    let a = so_far.counted in
    let b = takes.reads.counted in
    let same = ap length read in
    omega (arith, length-append so_far.read takes.reads.bytes)

-- the writer failed within a line, or memory for its text was refused
pub stops_line : (keys : Option Keys) (r s t : SourceAt) (w v u : SinkAt) (now new : Pending) (all : Bool) (line : List ℕ) (fault : StreamFault)
    → Going keys r s w v now all → (t.failed → r.failed) → FailsNoMore w.failed v.failed → TakesLine now new s.remaining t.remaining line true → StopsLine keys line v u fault → Stops keys r t w u fault
stops_line keys r s t w v u now new all line fault so_far reads kept takes stop =
    let more = takes.reads.bytes in
    let lines = so_far.done ++ (line ++ 10 ∷ []) in
    let read : so_far.read ++ more ≡ lines ++ new.bytes = read_line so_far.read so_far.done now.bytes more line new.bytes so_far.parts takes.answer in
    record {
      lines = lines;
      begun = new.bytes;
      consumed = subst (Consumes r.remaining t.remaining) read (Consumes-then r.remaining s.remaining t.remaining so_far.read more so_far.consumed takes.reads.consumed);
      ended = inl (ends_more so_far.done line so_far.ends takes.one_line);
      output = so_far.output ++ text_written stop.text;
      output_is =
          subst (λ ls. IsTextOfAll keys ls (so_far.output ++ text_written stop.text)) (sym (lines_more so_far.done line so_far.ends takes.one_line))
          (text_more keys (lines_of so_far.done) line so_far.output stop.text so_far.output_is stop.text_is);
      appended = front_more w.contents v.contents u.contents so_far.output (text_written stop.text) so_far.appended stop.appended;
      cause =
          cause_of_run r.failed t.failed w.failed v.failed u.failed (length (lines ++ new.bytes)) fault reads
          (within_limit keys r s t w v now new all true line lines new.bytes so_far takes read) kept stop.cause;
    }

-- so it did within the last line, which lacks its line feed
stops_last : (keys : Option Keys) (r s t : SourceAt) (w v u : SinkAt) (now new : Pending) (all : Bool) (line : List ℕ) (fault : StreamFault)
    → Going keys r s w v now all → (t.failed → r.failed) → FailsNoMore w.failed v.failed → TakesLine now new s.remaining t.remaining line false → 0 < length line → StopsLine keys line v u fault → Stops keys r t w u fault
stops_last keys r s t w v u now new all line fault so_far reads kept takes some stop =
    let more = takes.reads.bytes in
    let lines = so_far.done ++ line in
    let read : so_far.read ++ more ≡ lines ++ [] = read_rest so_far.read so_far.done now.bytes more line so_far.parts takes.answer.0 in
    record {
      lines = lines;
      begun = [];
      consumed = subst (Consumes r.remaining t.remaining) read (Consumes-then r.remaining s.remaining t.remaining so_far.read more so_far.consumed takes.reads.consumed);
      ended = inr (refl, takes.answer.2);
      output = so_far.output ++ text_written stop.text;
      output_is =
          subst (λ ls. IsTextOfAll keys ls (so_far.output ++ text_written stop.text)) (sym (lines_last so_far.done line so_far.ends takes.one_line some))
          (text_more keys (lines_of so_far.done) line so_far.output stop.text so_far.output_is stop.text_is);
      appended = front_more w.contents v.contents u.contents so_far.output (text_written stop.text) so_far.appended stop.appended;
      cause =
          cause_of_run r.failed t.failed w.failed v.failed u.failed (length (lines ++ [])) fault reads
          (within_limit keys r s t w v now new all false line lines [] so_far takes read) kept stop.cause;
    }

-- the last line was written, and a writer that fails then had all of it
stops_behind : (keys : Option Keys) (line : List ℕ) (v u x : SinkAt) (is : Bool) (fault : StreamFault)
    → WritesLine keys line v u is → FailsNoMore v.failed u.failed → Keeps u.contents x.contents → IsWriterFault u.failed x.failed fault → StopsLine keys line v x fault
stops_behind keys line v u x is fault writes kept keeps cause = record {
  text = writes.text;
  text_is = writes.text_is;
  appended = front_all v.contents u.contents x.contents (text_written writes.text) writes.appended keeps;
  cause = cause_of_writer v.failed x.failed fault (writer_fault_then v.failed u.failed x.failed fault kept cause);
}

-- passing on failed at the end
stops_at_end : (keys : Option Keys) (r s t : SourceAt) (w v u : SinkAt) (now new : Pending) (all : Bool) (line : List ℕ) (fault : StreamFault)
    → Going keys r s w v now all → (t.failed → r.failed) → FailsNoMore w.failed v.failed → TakesLine now new s.remaining t.remaining line false → line ≡ [] → Keeps v.contents u.contents → IsWriterFault v.failed u.failed fault
    → Stops keys r t w u fault
stops_at_end keys r s t w v u now new all line fault so_far reads kept takes none keeps cause =
    let more = takes.reads.bytes in
    let read : so_far.read ++ more ≡ so_far.done ++ [] =
    read_rest so_far.read so_far.done now.bytes more [] so_far.parts (takes.answer.0 ∙ none) ∙ ap (λ (bytes : List ℕ). bytes ++ []) (append-nil so_far.done) in
    record {
      lines = so_far.done;
      begun = [];
      consumed = subst (Consumes r.remaining t.remaining) read (Consumes-then r.remaining s.remaining t.remaining so_far.read more so_far.consumed takes.reads.consumed);
      ended = inl so_far.ends;
      output = so_far.output;
      output_is = so_far.output_is;
      appended = front_all w.contents v.contents u.contents so_far.output so_far.appended keeps;
      cause =
          cause_of_run r.failed t.failed w.failed v.failed u.failed (length (so_far.done ++ [])) fault reads
          (within_limit keys r s t w v now new all false line so_far.done [] so_far takes read) kept (cause_of_writer v.failed u.failed fault cause);
    }

-- nothing was read
pub stops_none : (keys : Option Keys) (r : SourceAt) (w : SinkAt) (fault : StreamFault) → fault ≡ Memory → Stops keys r r w w fault
stops_none keys r w fault e =
    let count = length {A = ℕ} [] in
    record {
      lines = [];
      begun = [];
      consumed = Consumes-nil r.remaining;
      ended = inl ends_none;
      output = [];
      output_is = no_text keys;
      appended = front_all w.contents w.contents w.contents [] (Appends-nil w.contents) (Keeps-self w.contents);
      cause =
          let within : count ≤ input_limit = omega arith in
          subst (HasCause r.failed (input_limit < count) ((r.failed → r.failed) × (count ≤ input_limit)) w.failed w.failed) (sym e)
          ((λ has. has, within), inl (FailsNoMore-self w.failed));
    }

Keeps-then : (v u x : Option (List ℕ)) → Keeps v u → Keeps u x → Keeps v x
Keeps-then None u x p q = tt
Keeps-then (Some xs) None x p q = absurd p
Keeps-then (Some xs) (Some ys) None p q = absurd q
Keeps-then (Some xs) (Some ys) (Some zs) p q = q ∙ p

and_is : (all is : Bool) → IsTrue is → (all && is) ≡ all
and_is true true e = refl
and_is false is e = refl
and_is true false e = cc e

-- the last line was written, if there is one, and what was held back was passed on
pub prints_over : (keys : Option Keys) (r s t : SourceAt) (w v u x : SinkAt) (now new : Pending) (all is : Bool) (line : List ℕ) (ended : Ended)
    → Going keys r s w v now all → TakesLine now new s.remaining t.remaining line false → WritesLast keys line v u is → Keeps u.contents x.contents → ended ≡ (if all && is then AllPrinted else SomeRefused) → x.passed_on → PrintsFrames keys r t w x ended
prints_over keys r s t w v u x now new all is line ended so_far takes last keeps e on = elim last [
  | inl none ↦ prints_all keys r s t w v x now new all line ended so_far takes none.0 (Keeps-then v.contents u.contents x.contents none.1 keeps) (e ∙ ap (λ b. if b then AllPrinted else SomeRefused) (and_is all is none.2)) on
  | inr some ↦ prints_last keys r s t w v u x now new all is line ended so_far takes some.0 some.1 keeps e on
]

pub stops_over : (keys : Option Keys) (r s t : SourceAt) (w v u : SinkAt) (now new : Pending) (all : Bool) (line : List ℕ) (fault : StreamFault)
    → Going keys r s w v now all → (t.failed → r.failed) → FailsNoMore w.failed v.failed → TakesLine now new s.remaining t.remaining line false → StopsLast keys line v u fault → Stops keys r t w u fault
stops_over keys r s t w v u now new all line fault so_far reads kept takes stop =
    stops_last keys r s t w v u now new all line fault so_far reads kept takes stop.0 stop.1

-- the last line was written by a writer that failed no more, from `v` to `u`, and passing on failed
pub stops_passing : (keys : Option Keys) (r s t : SourceAt) (w v u x : SinkAt) (now new : Pending) (all is : Bool) (line : List ℕ) (fault : StreamFault)
    → Going keys r s w v now all → (t.failed → r.failed) → FailsNoMore w.failed v.failed → TakesLine now new s.remaining t.remaining line false → WritesLast keys line v u is → FailsNoMore v.failed u.failed
    → Keeps u.contents x.contents → IsWriterFault u.failed x.failed fault → Stops keys r t w x fault
stops_passing keys r s t w v u x now new all is line fault so_far reads kept takes last wrote keeps cause = elim last [
  | inl none ↦
      stops_at_end keys r s t w v x now new all line fault so_far reads kept takes none.0 (Keeps-then v.contents u.contents x.contents none.1 keeps)
      (writer_fault_then v.failed u.failed x.failed fault wrote cause)
  | inr some ↦
      stops_last keys r s t w v x now new all line fault so_far reads kept takes some.0
      (stops_behind keys line v u x is fault some.1 wrote keeps cause)
]
