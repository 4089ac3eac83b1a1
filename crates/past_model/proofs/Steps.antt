-- What a node knows, and its object, after a delivery and after a write.
use Rattle.std.proofs.Common.{◌≡◌, ℕ, List, [], ◌∷◌, ◌++◌, length, sym, ap, subst, ◌∙◌, Option}
use Rattle.meta_types.specs.Name.{Key}
use Rattle.meta_types.specs.Value.{ValueParts}
use Rattle.dvvset.specs.Object.{Entry}
use Rattle.dvvset.specs.Clock.{join, sync, update}
use Rattle.dvvset.specs.Writer.{count_of}
use Rattle.past_model.specs.declared.happening.Happening.{Happening}
use Rattle.past_model.specs.declared.happening.Happening.TheVariants.{Wrote, Got}
use Rattle.past_model.specs.Sets.{singleton, union, union_by_key, with_set}
use Rattle.past_model.specs.Past.{Past, happens, past, writes, known, load, read, writer_of}
use Rattle.past_model.specs.History.{IsHistory}
use Rattle.past_model.specs.Shown.{IsObjectOf}
use Rattle.past_model.specs.Arisen.{counter_of}
use Rattle.past_model.proofs.Reached.{after_write}
use Rattle.past_model.proofs.Placed.{written}
use Rattle.past_model.proofs.Sound.{Sound, sound_past, orderly_sound, new-closed, set_at-here, with_set-at}
use Rattle.past_model.proofs.Staying.{past_snoc, past-next}
use Rattle.past_model.proofs.Merging.{sync_object}
use Rattle.past_model.proofs.Update.{update_object}

-- ---- a delivery

known_got : (s : Past) (n i : ℕ) (k : Key) → (happens s (Got n i)).known n k ≡ union (s.known n k) (s.load i k)
known_got s n i k = ap (λ v. v k) (set_at-here s.known n (union_by_key (s.known n) (s.load i)))

pub delivery_known : (hs : List Happening) (n i : ℕ) (k : Key) → known (hs ++ Got n i ∷ []) n k ≡ union (known hs n k) (load hs i k)
delivery_known hs n i k = ap (λ s. s.known n k) (past_snoc hs (Got n i)) ∙ known_got (past hs) n i k

pub delivery_object : (hs : List Happening) → IsHistory hs → (n i : ℕ) (k : Key) (a b : List Entry)
    → IsObjectOf (writes hs) k (known hs n k) a → IsObjectOf (writes hs) k (load hs i k) b
    → IsObjectOf (writes (hs ++ Got n i ∷ [])) k (known (hs ++ Got n i ∷ []) n k) (sync a b)
delivery_object hs history n i k a b left right =
    let both : IsObjectOf (writes hs) k (union (known hs n k) (load hs i k)) (sync a b) =
    sync_object (writes hs) k (known hs n k) (load hs i k) a b (orderly_sound (past hs) (sound_past hs history)) left right in
    let P : Past → Type 0 = λ s. IsObjectOf s.writes k (s.known n k) (sync a b) in
    subst P (sym (past_snoc hs (Got n i))) (subst (λ S. IsObjectOf (writes hs) k S (sync a b)) (sym (known_got (past hs) n i k)) both)

-- ---- a write

known_wrote : (s : Past) (n : ℕ) (k : Key) (v : ValueParts) (r : Option ℕ) → (happens s (Wrote n k v r)).known n k ≡ after_write s n k r
known_wrote s n k v r = ap (λ w. w k) (set_at-here s.known n (with_set (s.known n) k (after_write s n k r))) ∙ with_set-at (s.known n) k (after_write s n k r)

pub write_known : (hs : List Happening) (n : ℕ) (k : Key) (v : ValueParts) (r : Option ℕ)
    → known (hs ++ Wrote n k v r ∷ []) n k ≡ union (known hs n k) (union (read hs k r) (singleton (length hs)))
write_known hs n k v r =
    ap (λ s. s.known n k) (past_snoc hs (Wrote n k v r))
    ∙ known_wrote (past hs) n k v r
    ∙ ap (λ p. union (known hs n k) (union (read hs k r) (singleton p))) (past-next hs)

pub write_object : (hs : List Happening) → IsHistory hs → (n : ℕ) (k : Key) (v : ValueParts) (r : Option ℕ) (a b : List Entry)
    → IsObjectOf (writes hs) k (known hs n k) a → IsObjectOf (writes hs) k (read hs k r) b
    → IsObjectOf (writes (hs ++ Wrote n k v r ∷ [])) k (known (hs ++ Wrote n k v r ∷ []) n k) (update (join b) a (writer_of (past hs) n) v)
write_object hs history n k v r a b left right =
    let sound : Sound (past hs) = sound_past hs history in
    let object : IsObjectOf (written (past hs) n k v r ∷ writes hs) k (after_write (past hs) n k r) (update (join b) a (writer_of (past hs) n) v) =
    update_object (writes hs) (known hs n k) (written (past hs) n k v r) a b (orderly_sound (past hs) sound) sound.placed.below (new-closed (past hs) sound n k v r) left right in
    let P : Past → Type 0 = λ s. IsObjectOf s.writes k (s.known n k) (update (join b) a (writer_of (past hs) n) v) in
    subst P (sym (past_snoc hs (Wrote n k v r)))
    (subst (λ S. IsObjectOf (written (past hs) n k v r ∷ writes hs) k S (update (join b) a (writer_of (past hs) n) v)) (sym (known_wrote (past hs) n k v r)) object)

pub write_counter : (hs : List Happening) → IsHistory hs → (n : ℕ) (k : Key) (v : ValueParts) (r : Option ℕ) (a b : List Entry)
    → IsObjectOf (writes hs) k (known hs n k) a → IsObjectOf (writes hs) k (read hs k r) b
    → count_of (update (join b) a (writer_of (past hs) n) v) (writer_of (past hs) n) ≡ counter_of hs n k v r
write_counter hs history n k v r a b left right =
    (write_object hs history n k v r a b left right).context.counts (writer_of (past hs) n)
