-- What the laws of the object machine say of one more happening: what changes, and that nothing
-- else does. `old` and `new` are objects under each key, by node, by place, or by number of an
-- image.
use Rattle.std.specs.Prelude.{◌≡◌, ◌≢◌, ℕ, ◌+◌, List, [], ◌∷◌, ◌++◌, length, Option}
use Rattle.meta_types.specs.Name.{Key}
use Rattle.meta_types.specs.Value.{ValueParts}
use Rattle.dvvset.specs.Object.{Entry}
use Rattle.dvvset.specs.Clock.{join, sync, update}
use Rattle.past_model.specs.declared.happening.Happening.{Happening}
use Rattle.past_model.specs.declared.happening.Happening.TheVariants.{Wrote, Looked, Sent, Got, Kept, Restarted}
use Rattle.past_model.specs.Objects.{Holding, holds_nothing, held_object, seen_object, sent_object, object_of_read, incarnation, next_writer, last_image, image_object, standing_object}

-- ---- changes

-- nothing changes
pub record Stays (old new : ℕ → Holding) : Type 0 where
  pub same : (m : ℕ) (l : Key) → new m l ≡ old m l

-- at n stands now what `there` has under each key; elsewhere nothing changes
pub record Becomes (old new : ℕ → Holding) (n : ℕ) (there : Holding) : Type 0 where
  pub here : (l : Key) → new n l ≡ there l
  pub elsewhere : (m : ℕ) → m ≢ n → (l : Key) → new m l ≡ old m l

-- at n stands now the object under the key, and under each other key what `rest` has; elsewhere
-- nothing changes
pub record Gains (old new : ℕ → Holding) (n : ℕ) (k : Key) (object : List Entry)
    (rest : Holding) : Type 0 where
  pub here : new n k ≡ object
  pub other_keys : (l : Key) → l ≢ k → new n l ≡ rest l
  pub elsewhere : (m : ℕ) → m ≢ n → (l : Key) → new m l ≡ old m l

-- no node makes an image
pub record MakesNoImage (hs : List Happening) (h : Happening) : Type 0 where
  pub numbers : (m : ℕ) → last_image (hs ++ h ∷ []) m ≡ last_image hs m
  pub images : (m : ℕ) → Stays (image_object hs m) (image_object (hs ++ h ∷ []) m)

-- the node makes its next image, and no other node does; the image has under the key what the node
-- then holds there, and under each other key what its images started from; its later images start
-- from this one
pub record MakesImage (hs : List Happening) (h : Happening) (n : ℕ) (k : Key) : Type 0 where
  pub number : last_image (hs ++ h ∷ []) n ≡ last_image hs n + 1
  pub image : Gains (image_object hs n) (image_object (hs ++ h ∷ []) n) (last_image hs n + 1) k
      (held_object (hs ++ h ∷ []) n k) (standing_object hs n)
  pub other_numbers : (m : ℕ) → m ≢ n → last_image (hs ++ h ∷ []) m ≡ last_image hs m
  pub other_images : (m : ℕ) → m ≢ n → Stays (image_object hs m) (image_object (hs ++ h ∷ []) m)
  pub standing : Becomes (standing_object hs) (standing_object (hs ++ h ∷ [])) n
      (image_object (hs ++ h ∷ []) n (last_image hs n + 1))

-- each node stays in the life that it is in
pub record StayInLife (hs : List Happening) (h : Happening) : Type 0 where
  pub same : (m : ℕ) → incarnation (hs ++ h ∷ []) m ≡ incarnation hs m

-- the node begins its next life, and no other node does
pub record BeginsLife (hs : List Happening) (h : Happening) (n : ℕ) : Type 0 where
  pub next : incarnation (hs ++ h ∷ []) n ≡ incarnation hs n + 1
  pub others : (m : ℕ) → m ≢ n → incarnation (hs ++ h ∷ []) m ≡ incarnation hs m

-- ---- the six happenings

-- the node holds under the key what it held with the write added, which had read that object, and
-- makes an image
pub record AfterWrite (hs : List Happening) (n : ℕ) (k : Key) (v : ValueParts)
    (r : Option ℕ) : Type 0 where
  pub holds : Gains (held_object hs) (held_object (hs ++ Wrote n k v r ∷ [])) n k
      (update (join (object_of_read hs k r)) (held_object hs n k) (next_writer hs n) v)
      (held_object hs n)
  pub seen : Stays (seen_object hs) (seen_object (hs ++ Wrote n k v r ∷ []))
  pub sent : Stays (sent_object hs) (sent_object (hs ++ Wrote n k v r ∷ []))
  pub image : MakesImage hs (Wrote n k v r) n k
  pub lives : StayInLife hs (Wrote n k v r)

-- at the place of the look stands what the node holds under the key, and nothing under any other
pub record AfterLook (hs : List Happening) (n : ℕ) (k : Key) : Type 0 where
  pub holds : Stays (held_object hs) (held_object (hs ++ Looked n k ∷ []))
  pub seen : Gains (seen_object hs) (seen_object (hs ++ Looked n k ∷ [])) (length hs) k
      (held_object hs n k) holds_nothing
  pub sent : Stays (sent_object hs) (sent_object (hs ++ Looked n k ∷ []))
  pub image : MakesNoImage hs (Looked n k)
  pub lives : StayInLife hs (Looked n k)
  pub standing : Stays (standing_object hs) (standing_object (hs ++ Looked n k ∷ []))

-- at the place of the sending stands what the node holds under the key, and nothing under any other
pub record AfterSending (hs : List Happening) (n : ℕ) (k : Key) : Type 0 where
  pub holds : Stays (held_object hs) (held_object (hs ++ Sent n k ∷ []))
  pub seen : Stays (seen_object hs) (seen_object (hs ++ Sent n k ∷ []))
  pub sent : Gains (sent_object hs) (sent_object (hs ++ Sent n k ∷ [])) (length hs) k
      (held_object hs n k) holds_nothing
  pub image : MakesNoImage hs (Sent n k)
  pub lives : StayInLife hs (Sent n k)
  pub standing : Stays (standing_object hs) (standing_object (hs ++ Sent n k ∷ []))

-- the node holds under each key the merge of what it held and what was sent
pub record AfterDelivery (hs : List Happening) (n i : ℕ) : Type 0 where
  pub holds : Becomes (held_object hs) (held_object (hs ++ Got n i ∷ [])) n
      (λ k. sync (held_object hs n k) (sent_object hs i k))
  pub seen : Stays (seen_object hs) (seen_object (hs ++ Got n i ∷ []))
  pub sent : Stays (sent_object hs) (sent_object (hs ++ Got n i ∷ []))
  pub image : MakesNoImage hs (Got n i)
  pub lives : StayInLife hs (Got n i)
  pub standing : Stays (standing_object hs) (standing_object (hs ++ Got n i ∷ []))

-- the node makes an image
pub record AfterKeeping (hs : List Happening) (n : ℕ) (k : Key) : Type 0 where
  pub holds : Stays (held_object hs) (held_object (hs ++ Kept n k ∷ []))
  pub seen : Stays (seen_object hs) (seen_object (hs ++ Kept n k ∷ []))
  pub sent : Stays (sent_object hs) (sent_object (hs ++ Kept n k ∷ []))
  pub image : MakesImage hs (Kept n k) n k
  pub lives : StayInLife hs (Kept n k)

-- the node holds what the image has, its images start from that, and its next life begins
pub record AfterRestart (hs : List Happening) (n j : ℕ) : Type 0 where
  pub holds : Becomes (held_object hs) (held_object (hs ++ Restarted n j ∷ [])) n
      (image_object hs n j)
  pub seen : Stays (seen_object hs) (seen_object (hs ++ Restarted n j ∷ []))
  pub sent : Stays (sent_object hs) (sent_object (hs ++ Restarted n j ∷ []))
  pub image : MakesNoImage hs (Restarted n j)
  pub lives : BeginsLife hs (Restarted n j) n
  pub standing : Becomes (standing_object hs) (standing_object (hs ++ Restarted n j ∷ [])) n
      (image_object hs n j)
