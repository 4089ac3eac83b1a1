-- How passes are dealt to rows.
use Rattle.std.proofs.Common.{◌≡◌, ◌≢◌, ◌<◌, ◌≤◌, ◌+◌, ℕ, List, [], ◌∷◌, ◌++◌, length, drop, get_or, ⊎_elim, sym, subst, ap, ◌∙◌, add-one, arith, vec_capacity, Vec, Global}
use Rattle.std.proofs.Math.Nat.{eq-or-lt_of_le}
use Rattle.std.proofs.Math.ListN.{set}
use Rattle.std.proofs.Math.Seq.{drop-cons}
use Rattle.std.proofs.lemmas.List.{get_or-set_other, get_or-set_same, get_or_default, length-map, map_push}
use Rattle.std.proofs.lemmas.Option.{get_or_from_slice_get, slice_get-get_or, slice_get_within}
use Rattle.inbox.specs.Opening.{AreNewPasses}
use Rattle.inbox.specs.Views.{InboxView, PutView}
use Rattle.cluster_worker.specs.Passes.{AreSenderRows, IsSenderRow, new_put}

-- the row has this pass too, and not less room
pub record HasOneMore (old : Vec PutView Global) (pass : PutView) (new : Vec PutView Global)
    : Type 0 where
  pub items : new.items ≡ old.items ++ pass ∷ []
  pub room : vec_capacity old ≤ vec_capacity new

-- so many of the rows have got their passes
abbrev pub AreDealt : List (Vec PutView Global) → List PutView → List (Vec PutView Global) → ℕ
    → Type 0
AreDealt old puts now i = (k : ℕ) (d : Vec PutView Global) (e : PutView) → k < i
    → HasOneMore (get_or old k d) (get_or puts k e) (get_or now k d)

-- the others are as they were
abbrev pub AreLeft : List (Vec PutView Global) → List (Vec PutView Global) → ℕ → Type 0
AreLeft old now i = (k : ℕ) (d : Vec PutView Global) → i ≤ k → get_or now k d ≡ get_or old k d

-- what comes next of a list that is left
pub next_left : {A : Type 0} (xs rest : List A) (i : ℕ) (x e : A) → i < length xs
    → drop i xs ≡ x ∷ rest → (x ≡ get_or xs i e) × (rest ≡ drop (i + 1) xs)
next_left xs rest i x e less is =
    let next = sym is ∙ drop-cons xs i e less in (cc (next), rw add-one (cc (next)))

pub dealt_more : (old now : List (Vec PutView Global)) (puts : List PutView) (i : ℕ)
    (new e0 : Vec PutView Global) → i < length now → AreDealt old puts now i → AreLeft old now i
    → ((e : PutView) → HasOneMore (get_or now i e0) (get_or puts i e) new)
    → AreDealt old puts (set now i new) (i + 1)
dealt_more old now puts i new e0 less dealt left one = λ k d e below.
    ⊎_elim
    (λ (last : k ≡ i). subst
    (λ (n : ℕ). HasOneMore (get_or old n d) (get_or puts n e) (get_or (set now i new) n d))
    (sym last)
    (subst (λ (r : Vec PutView Global). HasOneMore r (get_or puts i e) (get_or (set now i new) i d))
    (get_or_default now i e0 d less ∙ left i d (omega arith))
    (subst (λ (r : Vec PutView Global). HasOneMore (get_or now i e0) (get_or puts i e) r)
    (sym (get_or-set_same now i new d less)) (one e))))
    (λ (before : k < i).
    let other : k ≢ i = omega arith in
    subst (λ (r : Vec PutView Global). HasOneMore (get_or old k d) (get_or puts k e) r)
    (sym (get_or-set_other now i k new d other)) (dealt k d e before))
    (eq-or-lt_of_le (omega (arith, below)))

pub left_more : (old now : List (Vec PutView Global)) (i : ℕ) (new : Vec PutView Global)
    → AreLeft old now i → AreLeft old (set now i new) (i + 1)
left_more old now i new left = λ k d from.
    let other : k ≢ i = omega arith in
    get_or-set_other now i k new d other ∙ left k d (omega arith)

-- rows that each got a new pass into one more inbox
pub rows_on : (old now : List (Vec PutView Global)) (puts : List PutView)
    → length now ≡ length old → AreDealt old puts now (length old)
    → (inboxes : List InboxView) (nodes : ℕ) (inbox : InboxView)
    → AreSenderRows inboxes nodes old → AreNewPasses inbox.line nodes puts
    → AreSenderRows (inboxes ++ inbox ∷ []) nodes now
rows_on old now puts same dealt inboxes nodes inbox rows new = record {
  number = same ∙ rows.number;
  each = λ k row is.
      let within : k < length old = omega (arith, slice_get_within now k row is, same) in
      let was = get_or old k row in
      let pass = new_put k inbox in
      let one = dealt k row pass within in
      let before = rows.each k was (slice_get-get_or old k row within) in
      let dealt_it : get_or puts k pass ≡ pass =
      get_or_from_slice_get puts k pass pass (new.each k (omega (arith, within, rows.number))) in
      subst (IsSenderRow (inboxes ++ inbox ∷ []) nodes k) (get_or_from_slice_get now k row row is)
      (record {
        puts = one.items
            ∙ (ap (λ p. was.items ++ p ∷ []) dealt_it
            ∙ (ap (λ ps. ps ++ pass ∷ []) before.puts ∙ sym (map_push (new_put k) inboxes inbox)));
        room = omega (arith, before.room, one.room);
      });
}

-- a row has as many passes as there are inboxes
pub row_length : (inboxes : List InboxView) (nodes sender : ℕ) (row : Vec PutView Global)
    → IsSenderRow inboxes nodes sender row → length row.items ≡ length inboxes
row_length inboxes nodes sender row is =
    ap length is.puts ∙ length-map inboxes (new_put sender)
