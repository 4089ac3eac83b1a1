-- What a reader of a field answered, in the words of its form.
use Rattle.std.proofs.Common.{◌≡◌, length, ◌-◌, ℕ, ◌⊎◌, List, Ok, Err, refl, subst, sym, ap, ◌∙◌, inl, inr}
use Rattle.meta_frame.specs.declared.fault.FrameFault.{FrameFault}
use Rattle.meta_frame.specs.declared.fault.FrameFault.TheVariants.{Memory}
use Rattle.frame_readers.specs.declared.fault.FieldFault.{FieldFault}
use Rattle.frame_readers.specs.declared.fault.FieldFault.TheVariants as faults
use Rattle.frame_fields.specs.Form.{Form}
use Rattle.meta_frame.specs.Front.{Begins, RefusesField, IsUnambiguous}
use Rattle.frame_readers.specs.Reader.{Reader, Fails}
use Rattle.meta_frame.specs.Reading.{offset_of}
use Rattle.frame_readers.proofs.Readers.{IsBytes, Reads, ok_is, err_is, done}

pub begins : {A : Type 0} (form : Form A) (read : Reader A) → Reads form read → (bytes : List ℕ) (x : A) (rest : List ℕ) → IsBytes bytes → read bytes ≡ Ok (x, rest) → Begins form bytes x rest
begins form read reads bytes x rest is e = let t = reads.takes bytes x rest is e in record { fits = t.0; spelled = t.1 }

pub refuses_field : {A : Type 0} (form : Form A) (read : Reader A) → Reads form read → (bytes : List ℕ) (fault : FieldFault) (answer : FrameFault) → IsBytes bytes → Fails fault (read bytes) → answer ≡ offset_of bytes fault → (answer ≡ Memory) ⊎ RefusesField form bytes answer
refuses_field form read reads bytes faults.Memory answer is fails e = inl e
refuses_field form read reads bytes (faults.Left left) answer is fails e =
    inr (subst (λ f. RefusesField form bytes f) (sym e) (record { left = left; offset = refl; bad = reads.faulty bytes left is fails }))

pub unambiguous : {A : Type 0} (form : Form A) (read : Reader A) → Reads form read → IsUnambiguous form
unambiguous {A} form read reads = record {
  one_value = λ bytes x y rest others a b.
      let one : read bytes ≡ Ok (x, rest) = ap read a.spelled ∙ reads.again x rest a.fits in
      let two : read bytes ≡ Ok (y, others) = ap read b.spelled ∙ reads.again y others b.fits in
      let same = ok_is (x, rest) (y, others) (sym one ∙ two) in
      (ap (λ p. p.0) same, ap (λ p. p.1) same);
  one_fault = λ bytes at other a b.
      let same : a.left ≡ b.left = err_is {A = A × List ℕ} a.left b.left (sym (reads.refuses bytes a.left a.bad) ∙ reads.refuses bytes b.left b.bad) in
      a.offset ∙ ap (λ n. length bytes - n) same ∙ sym b.offset;
  never_both = λ bytes x rest at a b.
      let no : done (x, rest) ≡ Err b.left = sym (ap read a.spelled ∙ reads.again x rest a.fits) ∙ reads.refuses bytes b.left b.bad in
      absurd cc;
}
