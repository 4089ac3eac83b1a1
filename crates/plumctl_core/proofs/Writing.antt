-- Texts that are written one behind another.
use Rattle.std.proofs.Common.{◌≡◌, ◌⊎◌, ℕ, ◌<◌, suc, length, take, drop, get_or, List, [], ◌∷◌, ◌++◌, Result, Ok, Err, inl, inr, ap, sym, ◌∙◌, append_assoc}
use Rattle.std.proofs.Math.Seq.{take-suc}
use Rattle.std.proofs.lemmas.List.{map-append, take-append-drop}
use Rattle.streams.specs.declared.fault.StreamFault.{StreamFault}
use Rattle.streams.specs.Fault.{Failed, FailsNoMore, IsWriterFault}
use Rattle.streams.specs.Moment.{SinkAt}
use Rattle.streams.proofs.Sent.{Appends-then}
use Rattle.scenario_text.specs.Hint.{shown_byte}
use Rattle.plumctl_core.specs.Opening.{TellsText, WritesText, shown_text}

earlier : {A B C : Type 0} → (A → B) → A ⊎ C → B ⊎ C
earlier f (inl a) = inl (f a)
earlier f (inr c) = inr c

later_fault : (old now new : Failed) (fault : StreamFault) → FailsNoMore old now → IsWriterFault now new fault → IsWriterFault old new fault
later_fault old now new fault kept is = record {
  kind = is.kind;
  answered = is.answered;
  only = λ other failed. earlier (kept other) (is.only other failed);
  fault_is = is.fault_is;
}

-- one text was written whole, and then another, whole or not
pub then_written : (old now new : SinkAt) (one other : List ℕ) (result : Result Unit StreamFault) → WritesText old now one (Ok tt) → WritesText now new other result → WritesText old new (one ++ other) result
then_written old now new one other (Ok done) first next =
    (Appends-then old.contents now.contents new.contents one other first.0 next.0, λ kind failed. first.1 kind (next.1 kind failed))
then_written old now new one other (Err fault) first next = (
  record {
    front = one ++ next.0.front;
    rest = next.0.rest;
    parts = ap (λ (bytes : List ℕ). one ++ bytes) next.0.parts ∙ sym (append_assoc one next.0.front next.0.rest);
    appended = Appends-then old.contents now.contents new.contents one next.0.front first.0 next.0.appended;
  },
  later_fault old.failed now.failed new.failed fault first.1 next.1,
)

-- the writer failed, and what stands behind was not written
pub stopped_writing : (old new : SinkAt) (one other : List ℕ) (fault : StreamFault) → WritesText old new one (Err fault) → WritesText old new (one ++ other) (Err fault)
stopped_writing old new one other fault first = (
  record {
    front = first.0.front;
    rest = first.0.rest ++ other;
    parts = ap (λ (bytes : List ℕ). bytes ++ other) first.0.parts ∙ append_assoc first.0.front first.0.rest other;
    appended = first.0.appended;
  },
  first.1,
)

-- the shown bytes before one, that one, and those behind it
pub shown_parts : (bytes : List ℕ) (i one : ℕ) → i < length bytes → one ≡ shown_byte (get_or bytes i 0) → (shown_text (take i bytes) ++ one ∷ []) ++ shown_text (drop (suc i) bytes) ≡ shown_text bytes
shown_parts bytes i one within is =
    let taken : shown_text (take (suc i) bytes) ≡ shown_text (take i bytes) ++ one ∷ [] =
    ap shown_text (take-suc bytes i 0 within) ∙ map-append shown_byte (take i bytes) (get_or bytes i 0 ∷ []) ∙ ap (λ (b : ℕ). shown_text (take i bytes) ++ b ∷ []) (sym is) in
    ap (λ (t : List ℕ). t ++ shown_text (drop (suc i) bytes)) (sym taken) ∙ sym (map-append shown_byte (take (suc i) bytes) (drop (suc i) bytes)) ∙ ap shown_text (take-append-drop (suc i) bytes)

-- what was written at standard error was told
pub told_of : (old new : SinkAt) (text : List ℕ) (result : Result Unit StreamFault) → WritesText old new text result → TellsText old new text
told_of old new text (Ok done) written = inl written
told_of old new text (Err fault) written = inr (record { told = written.0; why = fault; cause = written.1 })
