-- What one more happening changes.
use Rattle.std.proofs.Common.{◌≡◌, ℕ, ◌+◌, cond, List, [], ◌∷◌, ◌++◌, length, refl, sym, ap, subst, ◌∙◌, arith, Option}
use Rattle.std.specs.Prelude.{◌≢◌}
use Rattle.std.proofs.lemmas.Bool.{false_from_ne_true}
use Rattle.meta_types.specs.Name.{Key}
use Rattle.meta_types.specs.Value.{ValueParts}
use Rattle.dvvset.specs.Object.{Entry}
use Rattle.dvvset.specs.Clock.{join, update}
use Rattle.past_model.specs.declared.happening.Happening.{Happening}
use Rattle.past_model.specs.declared.happening.Happening.TheVariants.{Wrote, Looked, Sent, Got, Kept, Restarted}
use Rattle.past_model.specs.Sets.{set_at}
use Rattle.meta_types.specs.Equal.{key_eq}
use Rattle.past_model.proofs.Keys.{key_eq-true, key_eq-self}
use Rattle.past_model.proofs.Sound.{set_at-here}
use Rattle.past_model.proofs.Walking.{set_at-other}
use Rattle.past_model.specs.Objects.{Objects, Holding, holds_nothing, with_held, sync_by_key, first_objects, writer_in_objects, read_in_objects, next_objects, objects_after, objects}
use Rattle.past_model.specs.ObjectLaws.{Stays, Becomes, Gains, MakesNoImage, MakesImage, StayInLife, BeginsLife, AfterWrite, AfterLook, AfterSending, AfterDelivery, AfterKeeping, AfterRestart}

-- ---- lists in two parts

pub run_append : (o : Objects) (hs more : List Happening) → objects_after o (hs ++ more) ≡ objects_after (objects_after o hs) more
run_append o [] more = refl
run_append o (h ∷ hs) more = run_append (next_objects o h) hs more

pub objects_snoc : (hs : List Happening) (h : Happening) → objects (hs ++ h ∷ []) ≡ next_objects (objects hs) h
objects_snoc hs h = run_append first_objects hs (h ∷ [])

run-next : (o : Objects) (hs : List Happening) → (objects_after o hs).next ≡ o.next + length hs
run-next o [] = omega arith
run-next o (h ∷ hs) =
    let rest : (objects_after (next_objects o h) hs).next ≡ o.next + 1 + length hs = run-next (next_objects o h) hs in
    omega arith

pub objects-next : (hs : List Happening) → (objects hs).next ≡ length hs
objects-next hs = let e : (objects hs).next ≡ 0 + length hs = run-next first_objects hs in omega arith

-- ---- changes

with_held-at : (t : Holding) (k : Key) (a : List Entry) → with_held t k a k ≡ a
with_held-at t k a = ap (λ b. cond b a (t k)) (key_eq-self k)

with_held-other : (t : Holding) (k : Key) (a : List Entry) (l : Key) → l ≢ k → with_held t k a l ≡ t l
with_held-other t k a l ne = ap (λ b. cond b a (t l)) (false_from_ne_true (key_eq l k) (λ e. ne (key_eq-true l k e)))

becomes_put : (f : ℕ → Holding) (n : ℕ) (there : Holding) → Becomes f (set_at f n there) n there
becomes_put f n there = record {
  here = λ l. ap (λ t. t l) (set_at-here f n there);
  elsewhere = λ m ne l. ap (λ t. t l) (set_at-other f n m there (λ e. ne (sym e)));
}

gains_put : (f : ℕ → Holding) (n : ℕ) (k : Key) (a : List Entry) (rest : Holding) → Gains f (set_at f n (with_held rest k a)) n k a rest
gains_put f n k a rest = record {
  here = ap (λ t. t k) (set_at-here f n (with_held rest k a)) ∙ with_held-at rest k a;
  other_keys = λ l ne. ap (λ t. t l) (set_at-here f n (with_held rest k a)) ∙ with_held-other rest k a l ne;
  elsewhere = λ m ne l. ap (λ t. t l) (set_at-other f n m (with_held rest k a) (λ e. ne (sym e)));
}

stays : (f : ℕ → Holding) → Stays f f
stays f = record { same = λ m l. refl }

-- ---- one field of the machine after one more happening

stays_by : (part : Objects → ℕ → Holding) (hs : List Happening) (h : Happening) → part (next_objects (objects hs) h) ≡ part (objects hs) → Stays (part (objects hs)) (part (objects (hs ++ h ∷ [])))
stays_by part hs h e =
    subst (λ f. Stays (part (objects hs)) f) (sym (ap part (objects_snoc hs h) ∙ e)) (stays (part (objects hs)))

becomes_by : (part : Objects → ℕ → Holding) (hs : List Happening) (h : Happening) (n : ℕ) (there : Holding)
    → part (next_objects (objects hs) h) ≡ set_at (part (objects hs)) n there → Becomes (part (objects hs)) (part (objects (hs ++ h ∷ []))) n there
becomes_by part hs h n there e =
    subst (λ f. Becomes (part (objects hs)) f n there) (sym (ap part (objects_snoc hs h) ∙ e)) (becomes_put (part (objects hs)) n there)

gains_by : (part : Objects → ℕ → Holding) (hs : List Happening) (h : Happening) (n : ℕ) (k : Key) (a : List Entry) (rest : Holding)
    → part (next_objects (objects hs) h) ≡ set_at (part (objects hs)) n (with_held rest k a) → Gains (part (objects hs)) (part (objects (hs ++ h ∷ []))) n k a rest
gains_by part hs h n k a rest e =
    subst (λ f. Gains (part (objects hs)) f n k a rest) (sym (ap part (objects_snoc hs h) ∙ e)) (gains_put (part (objects hs)) n k a rest)

-- the place of a happening is their number
gains_at_place : (part : Objects → ℕ → Holding) (hs : List Happening) (h : Happening) (k : Key) (a : List Entry)
    → part (next_objects (objects hs) h) ≡ set_at (part (objects hs)) (objects hs).next (with_held holds_nothing k a) → Gains (part (objects hs)) (part (objects (hs ++ h ∷ []))) (length hs) k a holds_nothing
gains_at_place part hs h k a e =
    subst (λ p. Gains (part (objects hs)) (part (objects (hs ++ h ∷ []))) p k a holds_nothing) (objects-next hs)
    (gains_by part hs h (objects hs).next k a holds_nothing e)

-- ---- images

no_image : (hs : List Happening) (h : Happening) → (next_objects (objects hs) h).last ≡ (objects hs).last → (next_objects (objects hs) h).images ≡ (objects hs).images → MakesNoImage hs h
no_image hs h last images = record {
  numbers = λ m. ap (λ o. o.last m) (objects_snoc hs h) ∙ ap (λ f. f m) last;
  images = λ m. stays_by (λ o. o.images m) hs h (ap (λ f. f m) images);
}

-- the new image
abbrev image_after : List Happening → Happening → ℕ → Key → Holding
image_after hs h n k = with_held ((objects hs).standing n) k ((next_objects (objects hs) h).held n k)

-- what a happening that makes an image does to the images
record Images (hs : List Happening) (h : Happening) (n : ℕ) (k : Key) : Type 0 where
  pub last : (next_objects (objects hs) h).last ≡ set_at (objects hs).last n ((objects hs).last n + 1)
  pub images : (next_objects (objects hs) h).images ≡ set_at (objects hs).images n (set_at ((objects hs).images n) ((objects hs).last n + 1) (image_after hs h n k))
  pub standing : (next_objects (objects hs) h).standing ≡ set_at (objects hs).standing n (image_after hs h n k)

makes_image : (hs : List Happening) (h : Happening) (n : ℕ) (k : Key) → Images hs h n k → MakesImage hs h n k
makes_image hs h n k made =
    let row : (next_objects (objects hs) h).images n ≡ set_at ((objects hs).images n) ((objects hs).last n + 1) (image_after hs h n k) =
    ap (λ f. f n) made.images ∙ set_at-here (objects hs).images n (set_at ((objects hs).images n) ((objects hs).last n + 1) (image_after hs h n k)) in
    let image : Gains ((objects hs).images n) ((next_objects (objects hs) h).images n) ((objects hs).last n + 1) k ((next_objects (objects hs) h).held n k) ((objects hs).standing n) =
    subst (λ g. Gains ((objects hs).images n) g ((objects hs).last n + 1) k ((next_objects (objects hs) h).held n k) ((objects hs).standing n)) (sym row)
    (gains_put ((objects hs).images n) ((objects hs).last n + 1) k ((next_objects (objects hs) h).held n k) ((objects hs).standing n)) in
    let standing : Becomes (objects hs).standing (next_objects (objects hs) h).standing n ((next_objects (objects hs) h).images n ((objects hs).last n + 1)) =
    subst (λ f. Becomes (objects hs).standing f n ((next_objects (objects hs) h).images n ((objects hs).last n + 1))) (sym made.standing)
    (subst (λ t. Becomes (objects hs).standing (set_at (objects hs).standing n (image_after hs h n k)) n t)
    (sym (ap (λ g. g ((objects hs).last n + 1)) row ∙ set_at-here ((objects hs).images n) ((objects hs).last n + 1) (image_after hs h n k)))
    (becomes_put (objects hs).standing n (image_after hs h n k))) in
    record {
      number = ap (λ o. o.last n) (objects_snoc hs h) ∙ ap (λ f. f n) made.last ∙ set_at-here (objects hs).last n ((objects hs).last n + 1);
      image = subst (λ o. Gains ((objects hs).images n) (o.images n) ((objects hs).last n + 1) k (o.held n k) ((objects hs).standing n)) (sym (objects_snoc hs h)) image;
      other_numbers = λ m ne. ap (λ o. o.last m) (objects_snoc hs h) ∙ ap (λ f. f m) made.last ∙ set_at-other (objects hs).last n m ((objects hs).last n + 1) (λ e. ne (sym e));
      other_images = λ m ne. stays_by (λ o. o.images m) hs h
          (ap (λ f. f m) made.images ∙ set_at-other (objects hs).images n m (set_at ((objects hs).images n) ((objects hs).last n + 1) (image_after hs h n k)) (λ e. ne (sym e)));
      standing = subst (λ o. Becomes (objects hs).standing o.standing n (o.images n ((objects hs).last n + 1))) (sym (objects_snoc hs h)) standing;
    }

-- ---- lives

same_lives : (hs : List Happening) (h : Happening) → (next_objects (objects hs) h).restarts ≡ (objects hs).restarts → StayInLife hs h
same_lives hs h e = record { same = λ m. ap (λ o. o.restarts m + 1) (objects_snoc hs h) ∙ ap (λ f. f m + 1) e }

next_life : (hs : List Happening) (n j : ℕ) → BeginsLife hs (Restarted n j) n
next_life hs n j = record {
  next = ap (λ o. o.restarts n + 1) (objects_snoc hs (Restarted n j)) ∙ ap (λ x. x + 1) (set_at-here (objects hs).restarts n ((objects hs).restarts n + 1));
  others = λ m ne. ap (λ o. o.restarts m + 1) (objects_snoc hs (Restarted n j))
      ∙ ap (λ x. x + 1) (set_at-other (objects hs).restarts n m ((objects hs).restarts n + 1) (λ e. ne (sym e)));
}

-- ---- the six happenings

pub after_write : (hs : List Happening) (n : ℕ) (k : Key) (v : ValueParts) (r : Option ℕ) → AfterWrite hs n k v r
after_write hs n k v r = record {
  holds = gains_by (λ o. o.held) hs (Wrote n k v r) n k (update (join (read_in_objects (objects hs) k r)) ((objects hs).held n k) (writer_in_objects (objects hs) n) v) ((objects hs).held n) refl;
  seen = stays_by (λ o. o.seen) hs (Wrote n k v r) refl;
  sent = stays_by (λ o. o.load) hs (Wrote n k v r) refl;
  image = makes_image hs (Wrote n k v r) n k (record { last = refl; images = refl; standing = refl });
  lives = same_lives hs (Wrote n k v r) refl;
}

pub after_look : (hs : List Happening) (n : ℕ) (k : Key) → AfterLook hs n k
after_look hs n k = record {
  holds = stays_by (λ o. o.held) hs (Looked n k) refl;
  seen = gains_at_place (λ o. o.seen) hs (Looked n k) k ((objects hs).held n k) refl;
  sent = stays_by (λ o. o.load) hs (Looked n k) refl;
  image = no_image hs (Looked n k) refl refl;
  lives = same_lives hs (Looked n k) refl;
  standing = stays_by (λ o. o.standing) hs (Looked n k) refl;
}

pub after_sending : (hs : List Happening) (n : ℕ) (k : Key) → AfterSending hs n k
after_sending hs n k = record {
  holds = stays_by (λ o. o.held) hs (Sent n k) refl;
  seen = stays_by (λ o. o.seen) hs (Sent n k) refl;
  sent = gains_at_place (λ o. o.load) hs (Sent n k) k ((objects hs).held n k) refl;
  image = no_image hs (Sent n k) refl refl;
  lives = same_lives hs (Sent n k) refl;
  standing = stays_by (λ o. o.standing) hs (Sent n k) refl;
}

pub after_delivery : (hs : List Happening) (n i : ℕ) → AfterDelivery hs n i
after_delivery hs n i = record {
  holds = becomes_by (λ o. o.held) hs (Got n i) n (sync_by_key ((objects hs).held n) ((objects hs).load i)) refl;
  seen = stays_by (λ o. o.seen) hs (Got n i) refl;
  sent = stays_by (λ o. o.load) hs (Got n i) refl;
  image = no_image hs (Got n i) refl refl;
  lives = same_lives hs (Got n i) refl;
  standing = stays_by (λ o. o.standing) hs (Got n i) refl;
}

pub after_keeping : (hs : List Happening) (n : ℕ) (k : Key) → AfterKeeping hs n k
after_keeping hs n k = record {
  holds = stays_by (λ o. o.held) hs (Kept n k) refl;
  seen = stays_by (λ o. o.seen) hs (Kept n k) refl;
  sent = stays_by (λ o. o.load) hs (Kept n k) refl;
  image = makes_image hs (Kept n k) n k (record { last = refl; images = refl; standing = refl });
  lives = same_lives hs (Kept n k) refl;
}

pub after_restart : (hs : List Happening) (n j : ℕ) → AfterRestart hs n j
after_restart hs n j = record {
  holds = becomes_by (λ o. o.held) hs (Restarted n j) n ((objects hs).images n j) refl;
  seen = stays_by (λ o. o.seen) hs (Restarted n j) refl;
  sent = stays_by (λ o. o.load) hs (Restarted n j) refl;
  image = no_image hs (Restarted n j) refl refl;
  lives = next_life hs n j;
  standing = becomes_by (λ o. o.standing) hs (Restarted n j) n ((objects hs).images n j) refl;
}
