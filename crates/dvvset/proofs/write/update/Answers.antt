use Rattle.std.proofs.Common.{◌≡◌, ◌<◌, refl, sym, subst, ap, ◌∙◌, inl, inr}
use Rattle.std.proofs.lemmas.Result.{err_from_is_err_and}
use Rattle.dvvset.specs.Object.{IsObject}
use Rattle.dvvset.specs.Clock.{sync, blanks}
use Rattle.dvvset.specs.Writer.{count_of}
use Rattle.dvvset.proofs.Writers.{IsObject-sync, IsObject-blanks, IsObject-raise, known_counts, written_writers, raise_shows}
use Rattle.dvvset.proofs.write.update.Goals as goal

pub raise-requires : goal.raise-requires
raise-requires c =
    let known : c.in_ok-known.known.items ≡ sync (blanks c.args.read.now) c.args.object.now =
    rw (c.in_ok-known.ensures, c.as_slice.ensures.value, c.in_ok-read.ensures, c.counters.ensures.value, c.entries.ensures.value) refl in
    subst IsObject (sym known) (IsObject-sync (blanks c.args.read.now) c.args.object.now (IsObject-blanks c.args.read.now c.counters.ensures.lawful) c.entries.ensures.lawful)

pub new-requires : goal.new-requires
new-requires c =
    let known : c.in_ok-known.known.items ≡ sync (blanks c.args.read.now) c.args.object.now =
    rw (c.in_ok-known.ensures, c.as_slice.ensures.value, c.in_ok-read.ensures, c.counters.ensures.value, c.entries.ensures.value) refl in
    let is = subst IsObject (sym known) (IsObject-sync (blanks c.args.read.now) c.args.object.now (IsObject-blanks c.args.read.now c.counters.ensures.lawful) c.entries.ensures.lawful) in
    subst IsObject (sym c.in_ok-written.ensures.value)
    (IsObject-raise c.args.id c.args.value c.in_ok-known.known.items c.number.ensures.in_range c.stamp.ensures.in_range is c.in_ok-written.ensures.room)

pub returns-in_err-written-clause-fault : goal.returns-in_err-written-clause-fault
returns-in_err-written-clause-fault c =
    let known : c.in_ok-known.known.items ≡ sync (blanks c.args.read.now) c.args.object.now =
    rw (c.in_ok-known.ensures, c.as_slice.ensures.value, c.in_ok-read.ensures, c.counters.ensures.value, c.entries.ensures.value) refl in
    let p = err_from_is_err_and c.from_residual-in_err-written.result c.from_residual-in_err-written.ensures.1 in
    rw (p.1, p.2)
    (elim c.in_err-written.ensures.fault [
      | inl memory ↦ inl memory
      | inr spent ↦
          inr (spent.0, sym (known_counts c.args.read.now c.args.object.now c.counters.ensures.lawful c.entries.ensures.lawful c.args.id) ∙ ap (λ es. count_of es c.args.id) (sym known) ∙ spent.1)
    ])

pub returns-clause-writers : goal.returns-clause-writers
returns-clause-writers c =
    let known : c.in_ok-known.known.items ≡ sync (blanks c.args.read.now) c.args.object.now =
    rw (c.in_ok-known.ensures, c.as_slice.ensures.value, c.in_ok-read.ensures, c.counters.ensures.value, c.entries.ensures.value) refl in
    rw (c.new.ensures, c.in_ok-written.ensures.value, known)
    (written_writers c.args.read.now c.args.object.now c.args.id c.args.value c.counters.ensures.lawful c.entries.ensures.lawful)

pub returns-clause-shows : goal.returns-clause-shows
returns-clause-shows c = rw (c.new.ensures, c.in_ok-written.ensures.value) (raise_shows c.args.id c.args.value c.in_ok-known.known.items)

pub returns-clause-room : goal.returns-clause-room
returns-clause-room c =
    let known : c.in_ok-known.known.items ≡ sync (blanks c.args.read.now) c.args.object.now =
    rw (c.in_ok-known.ensures, c.as_slice.ensures.value, c.in_ok-read.ensures, c.counters.ensures.value, c.entries.ensures.value) refl in
    let room : count_of (sync (blanks c.args.read.now) c.args.object.now) c.args.id < 18446744073709551615 =
    subst (λ es. count_of es c.args.id < 18446744073709551615) known c.in_ok-written.ensures.room in
    subst (λ n. n < 18446744073709551615) (known_counts c.args.read.now c.args.object.now c.counters.ensures.lawful c.entries.ensures.lawful c.args.id) room
