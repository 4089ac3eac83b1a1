-- The bytes of two frames that differ in the addressee and the number alone.
use Rattle.std.proofs.Common.{◌≡◌, Bool, IsTrue, ℕ, ◌+◌, ◌<◌, List, [], ◌∷◌, ◌++◌, map, take, drop, length, get_or, sym, ap, ◌∙◌}
use Rattle.std.proofs.lemmas.List.{map_more}
use Rattle.std.specs.Int.{w16, w64, to_be_bytes}
use Rattle.dvvset.specs.Equal.{counters_eq, counters_eq-Decides, entries_eq, entries_eq-Decides}
use Rattle.dvvset.specs.Object.{Entry, Counter}
use Rattle.meta_frame.specs.declared.message.Frame.{Frame}
use Rattle.meta_frame.specs.declared.message.Message.{Message}
use Rattle.meta_frame.specs.declared.message.Message.TheVariants.{Gossip, IHave}
use Rattle.meta_frame.specs.Frame.{spelling}
use Rattle.meta_types.specs.Equal.{key_eq, keys_decide}
use Rattle.meta_types.specs.Name.{Key}

abbrev readdress : List ℕ → ℕ → ℕ → List ℕ
readdress bytes to number = take 6 bytes ++ to_be_bytes w16 to ++ to_be_bytes w64 number ++ drop 16 bytes

pub readdressed : (f g : Frame) (bytes : List ℕ) → bytes ≡ spelling f → f.from ≡ g.from
    → f.message ≡ g.message → readdress bytes g.to g.number ≡ spelling g
readdressed f g bytes is from message =
    ap (λ bytes. readdress bytes g.to g.number) is
    ∙ ap (λ n. spelling (record { from = n; to = g.to; number = g.number; message = f.message })) from
    ∙ ap (λ m. spelling (record { from = g.from; to = g.to; number = g.number; message = m })) message

-- ---- equal messages

pub same_key : (answer : Bool) (k l : Key) → answer ≡ key_eq k l → IsTrue answer → k ≡ l
same_key answer k l is holds = (keys_decide k l).0 (sym is ∙ holds)

pub same_object : (answer : Bool) (o p : List Entry) → answer ≡ entries_eq o p → IsTrue answer → o ≡ p
same_object answer o p is holds = (entries_eq-Decides o p).0 (sym is ∙ holds)

pub same_vector : (answer : Bool) (v w : List Counter) → answer ≡ counters_eq v w → IsTrue answer → v ≡ w
same_vector answer v w is holds = (counters_eq-Decides v w).0 (sym is ∙ holds)

pub same_gossip : (round r : ℕ) (key k : Key) (object o : List Entry) (m : Message)
    → m ≡ Gossip r k o → key ≡ k → object ≡ o → round ≡ r → Gossip round key object ≡ m
same_gossip round r key k object o m is keys objects rounds =
    ap (λ r. Gossip r key object) rounds ∙ ap (λ k. Gossip r k object) keys ∙ ap (Gossip r k) objects ∙ sym is

pub same_announcement : (round r : ℕ) (key k : Key) (vector v : List Counter) (m : Message)
    → m ≡ IHave r k v → key ≡ k → vector ≡ v → round ≡ r → IHave round key vector ≡ m
same_announcement round r key k vector v m is keys vectors rounds =
    ap (λ r. IHave r key vector) rounds ∙ ap (λ k. IHave r k vector) keys ∙ ap (IHave r k) vectors ∙ sym is

-- ---- one more frame is spelled

pub one_more_bytes : (frames : List Frame) (at : ℕ) (f : Frame) (spelled : List (List ℕ)) (bytes : List ℕ)
    → at < length frames → spelled ≡ map spelling (take at frames) → f ≡ get_or frames at f
    → bytes ≡ spelling f → spelled ++ bytes ∷ [] ≡ map spelling (take (at + 1) frames)
one_more_bytes frames at f spelled bytes within before is same =
    ap (λ front. front ++ bytes ∷ []) before
    ∙ ap (λ last. map spelling (take at frames) ++ last ∷ []) (same ∙ ap spelling is)
    ∙ sym (map_more spelling frames at f within)
