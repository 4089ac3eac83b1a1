-- After every history each object of the machine is that of the set that the past has there.
use Rattle.std.proofs.Common.{◌≡◌, ℕ, ◌+◌, sym, ap, subst, List, [], ◌∷◌, Option}
use Rattle.meta_types.specs.Actor.{writer_number}
use Rattle.meta_types.specs.Name.{Key}
use Rattle.meta_types.specs.Value.{ValueParts}
use Rattle.dvvset.specs.Object.{Entry}
use Rattle.dvvset.specs.Clock.{join, update}
use Rattle.past_model.specs.declared.happening.Happening.{Happening}
use Rattle.past_model.specs.declared.happening.Happening.TheVariants.{Wrote, Looked, Sent, Got, Kept, Restarted}
use Rattle.past_model.specs.Sets.{Places}
use Rattle.past_model.specs.Past.{Past, Write, start, happens, run, past, incarnation_of, writer_of}
use Rattle.past_model.specs.History.{IsHistory}
use Rattle.past_model.specs.Shown.{IsObjectOf}
use Rattle.past_model.proofs.Orderly.{Orderly}
use Rattle.past_model.proofs.Reached.{after_write}
use Rattle.past_model.proofs.Placed.{written, writes-after}
use Rattle.past_model.proofs.Sound.{Sound, RestartsFrom, from-first, from-rest, Sound-happens, Sound-start, orderly_sound, new-closed}
use Rattle.past_model.proofs.Staying.{object_more}
use Rattle.past_model.proofs.Existing.{absent_object}
use Rattle.past_model.proofs.Merging.{sync_object}
use Rattle.past_model.proofs.Update.{update_object}
use Rattle.past_model.specs.Objects.{Objects, objects, incarnation, last_image, next_writer}
use Rattle.past_model.specs.Objects as machine
use Rattle.past_model.proofs.Paired.{Paired, IsMerging, NewPaired, held_after_write, Paired-weaken, read-paired, Paired-happens, Paired-start}

abbrev pub object_of : List Write → Key → Places → List Entry → Type 0
object_of ws k S a = IsObjectOf ws k S a

-- each object of the machine is that of the set that the past has there
abbrev pub Matches : Past → Objects → Type 0
Matches s o = Paired (object_of s.writes) s o

merging : (ws : List Write) → Orderly ws → IsMerging (object_of ws)
merging ws orderly = record { none = λ k. absent_object ws k; both = λ k S T a b. sync_object ws k S T a b orderly }

object_after : (s : Past) (h : Happening) → Sound s → (k : Key) (S : Places) (a : List Entry) → IsObjectOf s.writes k S a → IsObjectOf (happens s h).writes k S a
object_after s h sound k S a is =
    writes-after (λ ws. IsObjectOf ws k S a) s h is (λ n l v r. object_more s.writes k S a (written s n l v r) sound.placed.below is)

new_object : (s : Past) (o : Objects) (n : ℕ) (k : Key) (v : ValueParts) (r : Option ℕ) → Sound s → Matches s o → IsObjectOf (written s n k v r ∷ s.writes) k (after_write s n k r) (held_after_write o n k v r)
new_object s o n k v r sound same =
    let writer : writer_of s n ≡ machine.writer_in_objects o n = ap (λ f. writer_number n (f n + 1)) (sym same.restarts) in
    subst (λ w. IsObjectOf (written s n k v r ∷ s.writes) k (after_write s n k r) (update (join (machine.read_in_objects o k r)) (o.held n k) w v)) writer
    (update_object s.writes (s.known n k) (written s n k v r) (o.held n k) (machine.read_in_objects o k r) (orderly_sound s sound) sound.placed.below (new-closed s sound n k v r)
    (same.known n k) (read-paired (object_of s.writes) (merging s.writes (orderly_sound s sound)) s o same k r))

new-paired : (s : Past) (o : Objects) (h : Happening) → Sound s → Matches s o → NewPaired (object_of (happens s h).writes) s o h
new-paired s o (Wrote n k v r) sound same = new_object s o n k v r sound same
new-paired s o (Looked n k) sound same = tt
new-paired s o (Sent n k) sound same = tt
new-paired s o (Got n i) sound same = tt
new-paired s o (Kept n k) sound same = tt
new-paired s o (Restarted n j) sound same = tt

Matches-happens : (s : Past) (o : Objects) (h : Happening) → Sound s → Sound (happens s h) → Matches s o → Matches (happens s h) (machine.next_objects o h)
Matches-happens s o h sound then same =
    Paired-happens (object_of (happens s h).writes) (merging (happens s h).writes (orderly_sound (happens s h) then)) s o h
    (Paired-weaken (object_of s.writes) (object_of (happens s h).writes) s o (object_after s h sound) same)
    (new-paired s o h sound same)

Matches-run : (s : Past) (o : Objects) (hs : List Happening) → Sound s → RestartsFrom s hs → Matches s o → Matches (run s hs) (machine.objects_after o hs)
Matches-run s o [] sound from same = same
Matches-run s o (h ∷ hs) sound from same =
    let then : Sound (happens s h) = Sound-happens s h sound (from-first s h hs from) in
    Matches-run (happens s h) (machine.next_objects o h) hs then (from-rest s h hs from) (Matches-happens s o h sound then same)

pub matches : (hs : List Happening) → IsHistory hs → Matches (past hs) (objects hs)
matches hs history =
    Matches-run start machine.first_objects hs Sound-start (record { few = λ before after n j e. (history.fits before after (Restarted n j) e).1 })
    (Paired-start (object_of []) (merging [] (orderly_sound start Sound-start)))

-- ---- the numbers of images, whatever the sets are

abbrev any : Key → Places → List Entry → Type 0
any k S a = Unit {0}

any-merging : IsMerging any
any-merging = record { none = λ k. tt; both = λ k S T a b left right. tt }

any-new : (s : Past) (o : Objects) (h : Happening) → NewPaired any s o h
any-new s o (Wrote n k v r) = tt
any-new s o (Looked n k) = tt
any-new s o (Sent n k) = tt
any-new s o (Got n i) = tt
any-new s o (Kept n k) = tt
any-new s o (Restarted n j) = tt

any-run : (s : Past) (o : Objects) (hs : List Happening) → Paired any s o → Paired any (run s hs) (machine.objects_after o hs)
any-run s o [] all = all
any-run s o (h ∷ hs) all = any-run (happens s h) (machine.next_objects o h) hs (Paired-happens any any-merging s o h all (any-new s o h))

pub same_numbers : (hs : List Happening) (n : ℕ) → last_image hs n ≡ (past hs).last n
same_numbers hs n = ap (λ f. f n) (any-run start machine.first_objects hs (Paired-start any any-merging)).last

-- ---- the lives and the writers, whatever the sets are

pub same_lives : (hs : List Happening) (n : ℕ) → incarnation hs n ≡ incarnation_of (past hs) n
same_lives hs n = ap (λ f. f n + 1) (any-run start machine.first_objects hs (Paired-start any any-merging)).restarts

pub same_writers : (hs : List Happening) (n : ℕ) → next_writer hs n ≡ writer_of (past hs) n
same_writers hs n = ap (writer_number n) (same_lives hs n)
