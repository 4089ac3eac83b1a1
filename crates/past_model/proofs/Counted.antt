-- Counters of one writer under one key rise along a history.
use Rattle.std.proofs.Common.{◌≡◌, ℕ, ◌<◌, ◌≤◌, true, false, cond, suc, List, [], ◌∷◌, ◌++◌, length, sym, ap, refl, subst, ◌∙◌, arith, ⊎_elim, inl, inr, Option, eqb}
use Rattle.std.specs.Prelude.{◌⊎◌}
use Rattle.std.proofs.lemmas.Bool.{and_parts, and_from, eqb-true, eq-eqb}
use Rattle.std.proofs.lemmas.List.{append_assoc}
use Rattle.meta_types.specs.Name.{Key}
use Rattle.meta_types.specs.Value.{ValueParts}
use Rattle.past_model.specs.declared.happening.Happening.{Happening}
use Rattle.past_model.specs.declared.happening.Happening.TheVariants.{Wrote}
use Rattle.meta_types.specs.Equal.{key_eq}
use Rattle.past_model.specs.Past.{Past, Write, known, past, writer_of, writes}
use Rattle.past_model.specs.History.{IsHistory}
use Rattle.past_model.specs.Shown.{count_in}
use Rattle.past_model.specs.Arisen.{counter_of}
use Rattle.past_model.proofs.Keys.{key_eq-true, key_eq-self}
use Rattle.past_model.proofs.Fitting.{history_before}
use Rattle.past_model.proofs.Members.{all_kept}
use Rattle.past_model.proofs.Closed.{in_set, is_of, writes_of, count_in-own}
use Rattle.past_model.proofs.Placed.{written}
use Rattle.past_model.proofs.Sound.{Sound, sound_past}
use Rattle.past_model.proofs.Staying.{past_snoc, stays}

-- a node knows all that it wrote in the life that it is in, so it counts all of it
pub own_counted : (s : Past) → Sound s → (n : ℕ) (k : Key) → count_in s.writes (s.known n k) (writer_of s n) ≡ length (writes_of s.writes k (writer_of s n))
own_counted s sound n k =
    let w = writer_of s n in
    count_in-own s.writes k (s.known n k) w sound.placed.ordered.falling (sound.reached.known n k)
    ∙ all_kept (in_set (s.known n k)) (is_of k w) s.writes
    (λ x m e.
    let mine : (eqb x.writer w ≡ true) × (key_eq x.key k ≡ true) = and_parts (eqb x.writer w) (key_eq x.key k) e in
    ap (λ l. s.known n l x.place) (sym (key_eq-true x.key k mine.1)) ∙ (sound.own n).own x m (eqb-true x.writer w mine.0))

-- how many writes of the writer under the key there are
abbrev made : List Happening → ℕ → Key → ℕ
made hs w k = length (writes_of (writes hs) k w)

counter_of-made : (before : List Happening) (n : ℕ) (k : Key) (v : ValueParts) (r : Option ℕ) → IsHistory (before ++ Wrote n k v r ∷ [])
    → counter_of before n k v r ≡ made (before ++ Wrote n k v r ∷ []) (writer_of (past before) n) k
counter_of-made before n k v r history =
    let after = before ++ Wrote n k v r ∷ [] in
    let same : writer_of (past after) n ≡ writer_of (past before) n = ap (λ s. writer_of s n) (past_snoc before (Wrote n k v r)) in
    subst (λ w. count_in (writes after) (known after n k) w ≡ made after w k) same (own_counted (past after) (sound_past after history) n k)

made-wrote : (before : List Happening) (n : ℕ) (k : Key) (v : ValueParts) (r : Option ℕ) → made (before ++ Wrote n k v r ∷ []) (writer_of (past before) n) k ≡ suc (made before (writer_of (past before) n) k)
made-wrote before n k v r =
    let w = writer_of (past before) n in
    ap (λ s. length (writes_of s.writes k w)) (past_snoc before (Wrote n k v r))
    ∙ ap (λ b. length (cond b (written (past before) n k v r ∷ writes_of (writes before) k w) (writes_of (writes before) k w))) (and_from (eqb w w) (key_eq k k) (eq-eqb w w refl) (key_eq-self k))

record AtLeast (low : ℕ) (n : ℕ) (k : Key) (ws : List Write) : Type 0 where
  pub least : low ≤ length (writes_of ws k n)

at_least-more : (low : ℕ) (n : ℕ) (k : Key) (x : Write) (ws : List Write) → AtLeast low n k ws → AtLeast low n k (x ∷ ws)
at_least-more low n k x ws is =
    let le : low ≤ length (writes_of ws k n) = is.least in
    record { least = elim (is_of k n x) as (λ b. low ≤ length (cond b (x ∷ writes_of ws k n) (writes_of ws k n))) [ true ↦ omega arith | false ↦ le ] }

made-more : (hs more : List Happening) (n : ℕ) (k : Key) → made hs n k ≤ made (hs ++ more) n k
made-more hs more n k =
    (stays (AtLeast (made hs n k) n k) (λ x ws below is. at_least-more (made hs n k) n k x ws is) hs more (record { least = omega arith })).least

-- a later write of the writer under the key has a greater counter
pub counters_rise : (before mid after : List Happening) (n m : ℕ) (k : Key) (v u : ValueParts) (r q : Option ℕ)
    → IsHistory ((before ++ Wrote n k v r ∷ mid) ++ Wrote m k u q ∷ after)
    → writer_of (past before) n ≡ writer_of (past (before ++ Wrote n k v r ∷ mid)) m
    → counter_of before n k v r < counter_of (before ++ Wrote n k v r ∷ mid) m k u q
counters_rise before mid after n m k v u r q history by =
    let w = writer_of (past before) n in
    let last = before ++ Wrote n k v r ∷ mid in
    let later : IsHistory (last ++ Wrote m k u q ∷ []) =
    history_before (last ++ Wrote m k u q ∷ []) after (subst IsHistory (sym (append_assoc last (Wrote m k u q ∷ []) after)) history) in
    let joined : (before ++ Wrote n k v r ∷ []) ++ mid ≡ last = append_assoc before (Wrote n k v r ∷ []) mid in
    let between : IsHistory last = history_before last (Wrote m k u q ∷ after) history in
    let first : IsHistory (before ++ Wrote n k v r ∷ []) = history_before (before ++ Wrote n k v r ∷ []) mid (subst IsHistory (sym joined) between) in
    let one : counter_of before n k v r ≡ made (before ++ Wrote n k v r ∷ []) w k = counter_of-made before n k v r first in
    let two : counter_of last m k u q ≡ made (last ++ Wrote m k u q ∷ []) w k =
    subst (λ x. counter_of last m k u q ≡ made (last ++ Wrote m k u q ∷ []) x k) (sym by) (counter_of-made last m k u q later) in
    let up : made (last ++ Wrote m k u q ∷ []) w k ≡ suc (made last w k) =
    subst (λ x. made (last ++ Wrote m k u q ∷ []) x k ≡ suc (made last x k)) (sym by) (made-wrote last m k u q) in
    let grow : made (before ++ Wrote n k v r ∷ []) w k ≤ made ((before ++ Wrote n k v r ∷ []) ++ mid) w k = made-more (before ++ Wrote n k v r ∷ []) mid w k in
    let same : made ((before ++ Wrote n k v r ∷ []) ++ mid) w k ≡ made last w k = ap (λ l. made l w k) joined in
    omega arith

-- ---- two splits of one list

-- a place in a list, and another
record IsLater {X : Type 0} (x : X) (before later : List X) : Type 0 where
  pub mid : List X
  pub at : later ≡ before ++ x ∷ mid

IsLater-cons : {X : Type 0} (x z w : X) (before later : List X) → z ≡ w → IsLater x before later → IsLater x (z ∷ before) (w ∷ later)
IsLater-cons x z w before later same is = record { mid = is.mid; at = λ i. sym same i ∷ is.at i }

two_splits : {X : Type 0} (b a e l : List X) (x y : X) → b ++ x ∷ a ≡ e ++ y ∷ l → (b ≡ e) ⊎ (IsLater x b e ⊎ IsLater y e b)
two_splits [] a [] l x y same = inl refl
two_splits [] a (w ∷ e) l x y same = let head : x ≡ w = cc in inr (inl (record { mid = e; at = λ i. sym head i ∷ e }))
two_splits (z ∷ b) a [] l x y same = let head : z ≡ y = cc in inr (inr (record { mid = b; at = λ i. head i ∷ b }))
two_splits (z ∷ b) a (w ∷ e) l x y same =
    let head : z ≡ w = cc in
    let tail : b ++ x ∷ a ≡ e ++ y ∷ l = cc in
    ⊎_elim (λ h. inl (λ i. head i ∷ h i))
    (λ h. ⊎_elim (λ f. inr (inl (IsLater-cons x z w b e head f))) (λ f. inr (inr (IsLater-cons y w z e b (sym head) f))) h)
    (two_splits b a e l x y tail)

-- equal counters of one writer are those of one write
pub one_counter : (hs : List Happening) → IsHistory hs → (n m : ℕ) (k : Key) (before after earlier later : List Happening) (v u : ValueParts) (r q : Option ℕ)
    → hs ≡ before ++ Wrote n k v r ∷ after → hs ≡ earlier ++ Wrote m k u q ∷ later
    → writer_of (past before) n ≡ writer_of (past earlier) m → counter_of before n k v r ≡ counter_of earlier m k u q → before ≡ earlier
one_counter hs history n m k before after earlier later v u r q one two by same =
    ⊎_elim (λ h. h)
    (λ h. ⊎_elim
    (λ f.
    let at : earlier ≡ before ++ Wrote n k v r ∷ f.mid = f.at in
    let rise : counter_of before n k v r < counter_of (before ++ Wrote n k v r ∷ f.mid) m k u q =
    counters_rise before f.mid later n m k v u r q (subst IsHistory (two ∙ ap (λ b. b ++ Wrote m k u q ∷ later) at) history) (by ∙ ap (λ b. writer_of (past b) m) at) in
    let there : counter_of earlier m k u q ≡ counter_of (before ++ Wrote n k v r ∷ f.mid) m k u q = ap (λ b. counter_of b m k u q) at in
    absurd (omega arith))
    (λ f.
    let at : before ≡ earlier ++ Wrote m k u q ∷ f.mid = f.at in
    let rise : counter_of earlier m k u q < counter_of (earlier ++ Wrote m k u q ∷ f.mid) n k v r =
    counters_rise earlier f.mid after m n k u v q r (subst IsHistory (one ∙ ap (λ b. b ++ Wrote n k v r ∷ after) at) history) (sym by ∙ ap (λ b. writer_of (past b) n) at) in
    let there : counter_of before n k v r ≡ counter_of (earlier ++ Wrote m k u q ∷ f.mid) n k v r = ap (λ b. counter_of b n k v r) at in
    absurd (omega arith)) h)
    (two_splits before after earlier later (Wrote n k v r) (Wrote m k u q) (sym one ∙ two))
