-- Each kind of step keeps the rule of the inbox.
use Rattle.std.proofs.Common.{◌≡◌, ◌≢◌, ℕ, ◌+◌, ◌<◌, ◌≤◌, zero, suc, true, false, true≢false, List, [], ◌∷◌, ◌++◌, length, set, sym, refl, ap, ◌∙◌, subst, ⊎_elim, ◌⊎◌, inl, inr, append_assoc, arith}
use Rattle.std.proofs.lemmas.List.{append-nil}
use Rattle.std.proofs.lemmas.Bool.{cases_eq, cases_lt}
use mathlib.Core.Option.{Option, some, none, some-ne-none, some-injective}
use lib.ListN.{get_elem?}
use Rattle.crossbeam_queue.specs.Fifo.{Pushes, Pops, Forks, Merges, Learns}
use Rattle.crossbeam_queue.proofs.Lists.{at_set}
use Rattle.inbox.specs.declared.parcel.Parcel.{Parcel}
use Rattle.inbox.specs.declared.rule.Knowledge.{Knowledge}
use Rattle.std.specs.Prelude.{nat_eq}
use Rattle.std.specs.List.{IsDistinct}
use Rattle.inbox.specs.Balance.{HasEach, Balances, senders_of}
use Rattle.inbox.specs.Moments.{HasPuts}
use Rattle.inbox.specs.Parcels.{parcels_of}
use Rattle.inbox.specs.Rule.{sender, taker, nobody, FitsSender, FitsTaker, AreBack, NoneFrom, FitsRole, KeepsOrder, LeavesBalanced}
use Rattle.inbox.proofs.Lists.{snoc_at, Each, each_set, parcels_of-append, parcels_of_own, parcels_of_other, changed, changed_here, changed_else}
use Rattle.inbox.proofs.Once.{none_once, once_more}

abbrev Seats : Type 0
Seats = ℕ → Option ℕ

abbrev Sent : Type 0
Sent = ℕ → List Parcel

abbrev BackList : Type 0
BackList = List (ℕ × List Parcel)

-- senders with two seats are two
apart : (seat : Seats) (a b j k : ℕ) → seat a ≡ some j → seat b ≡ some k → j ≢ k → a ≢ b
apart seat a b j k x y not same = not (cc (x, y, ap seat same))

empty_apart : (seat : Seats) (a b j : ℕ) → seat a ≡ some j → seat b ≡ none → a ≢ b
empty_apart seat a b j x y same = some-ne-none j (sym x ∙ (ap seat same ∙ y))

-- who has a seat was given a pass
below : (seat : Seats) (sent : Sent) (made p j : ℕ) → seat p ≡ some j → NoneFrom sent seat made
    → p < made
below seat sent made p j at unmade =
    ⊎_elim (λ (h : p < made). h)
    (λ (h : made ≤ p). absurd (some-ne-none j (sym at ∙ (unmade p h).0)))
    (cases_lt p made)

-- one who doesn't fit as a taker since it isn't one
no_taker : (reader : ℕ) (seat : Seats) (sent : Sent) (got : List Parcel) (place : ℕ)
    (v : Knowledge) → v.takes ≡ false → v.takes ≡ true
    → FitsTaker reader seat sent got place v
no_taker reader seat sent got place v isnt is = absurd (true≢false (sym is ∙ isnt))

no_sender : (seat : Seats) (sent : Sent) (place : ℕ) (v : Knowledge) → v.sends ≡ false
    → v.sends ≡ true → FitsSender seat sent place v
no_sender seat sent place v isnt is = absurd (true≢false (sym is ∙ isnt))

-- ---- a frame is put

known_put : (sent : Sent) (seat : Seats) (made : ℕ) (x : Parcel) (place : ℕ) (bs : BackList)
    → seat x.from ≡ some place → AreBack sent seat made bs
    → AreBack (λ p. sent p ++ parcels_of p (x ∷ [])) seat made bs
known_put sent seat made x place [] at k = k
known_put sent seat made x place (b ∷ bs) at k = (
  k.0,
  k.1,
  k.2 ∙ sym (ap (λ l. sent b.0 ++ l)
      (parcels_of_other b.0 x (empty_apart seat x.from b.0 place at k.1))
      ∙ append-nil (sent b.0)),
  known_put sent seat made x place bs at k.3,
)

none_put : (sent : Sent) (seat : Seats) (made : ℕ) (x : Parcel) (place : ℕ)
    → seat x.from ≡ some place → NoneFrom sent seat made
    → NoneFrom (λ p. sent p ++ parcels_of p (x ∷ [])) seat made
none_put sent seat made x place at unmade p from =
    let q = unmade p from in (
      q.0,
      ap (λ l. l ++ parcels_of p (x ∷ [])) q.1
          ∙ parcels_of_other p x (empty_apart seat x.from p place at q.0),
    )

pub puts : (n place : ℕ) (v : Knowledge) (x : Parcel) → v.sends ≡ true → x.from ≡ v.from
    → Pushes KeepsOrder n place v x (λ w. w ≡ sender v.from (v.put ++ x ∷ []))
puts n place v x may from items views _ h at =
    let w : Knowledge = sender v.from (v.put ++ x ∷ []) in
    let seat : Seats = h.seat in
    let sent : Sent = λ p. h.sent p ++ parcels_of p (x ∷ []) in
    let mine = (h.fit place v at).0 may in
    let here : seat x.from ≡ some place = ap seat from ∙ mine.here in (
      w,
      record {
        reader = h.reader;
        seat = seat;
        sent = sent;
        got = h.got;
        in_order = λ p. ap (parcels_of p) (sym (append_assoc h.got items (x ∷ [])))
            ∙ parcels_of-append p (h.got ++ items) (x ∷ [])
            ∙ ap (λ l. l ++ parcels_of p (x ∷ [])) (h.in_order p);
        fit = each_set (FitsRole h.reader seat sent h.got) views place w (
          (λ _. record {
            here = mine.here;
            all = ap (λ l. l ++ x ∷ []) mine.all
                ∙ ap (λ l. h.sent v.from ++ l) (sym (parcels_of_own v.from x from));
          }),
          no_taker h.reader seat sent h.got place w refl,
        )
            (λ j u other e. (
              (λ s. let t = (h.fit j u e).0 s in record {
                here = t.here;
                all = t.all ∙ sym (ap (λ l. h.sent u.from ++ l)
                    (parcels_of_other u.from x
                    (apart seat x.from u.from place j here t.here (λ same. other (sym same))))
                    ∙ append-nil (h.sent u.from));
              }),
              λ s. let t = (h.fit j u e).1 s in record {
                here = t.here;
                all = t.all;
                unmade = none_put h.sent seat u.made x place here t.unmade;
                known = known_put h.sent seat u.made x place u.back here t.known;
                once = t.once;
              },
            ));
      },
      refl,
    )

-- what a sender learns
pub learns_puts : (place : ℕ) (v : Knowledge) → v.sends ≡ true
    → Learns KeepsOrder place v (HasPuts v.from v.put)
learns_puts place v may items views h at =
    let mine = (h.fit place v at).0 may in
    (h.got, h.in_order v.from ∙ sym mine.all)

-- ---- a frame is taken

has_each : (sent : Sent) (seat : Seats) (made : ℕ) (all : List Parcel) (bs : BackList)
    → ((p : ℕ) → parcels_of p all ≡ sent p) → AreBack sent seat made bs → HasEach made bs all
has_each sent seat made all [] is k = tt
has_each sent seat made all (b ∷ bs) is k =
    (k.0, is b.0 ∙ sym k.2, has_each sent seat made all bs is k.3)

balanced : (sent : Sent) (seat : Seats) (made : ℕ) (taken : List Parcel) (bs : BackList)
    (items : List Parcel) → ((p : ℕ) → parcels_of p (taken ++ items) ≡ sent p)
    → AreBack sent seat made bs → IsDistinct nat_eq (senders_of bs) → NoneFrom sent seat made
    → Balances made taken bs items
balanced sent seat made taken bs items is known once unmade = record {
  each = has_each sent seat made (taken ++ items) bs is known;
  once = once;
  no_other = λ p from. is p ∙ (unmade p from).1;
}

pub takes : (place : ℕ) (v : Knowledge) → v.takes ≡ true
    → Pops KeepsOrder place v (λ x w. LeavesBalanced v.made (v.taken ++ x ∷ []) v.back w)
takes place v may x items views h at =
    let w : Knowledge = taker v.made (v.taken ++ x ∷ []) v.back in
    let got = h.got ++ x ∷ [] in
    let mine = (h.fit place v at).1 may in
    let is : (p : ℕ) → parcels_of p ((v.taken ++ x ∷ []) ++ items) ≡ h.sent p =
    λ p. ap (λ l. parcels_of p ((l ++ x ∷ []) ++ items)) mine.all
    ∙ ap (parcels_of p) (append_assoc h.got (x ∷ []) items) ∙ h.in_order p in (
      w,
      record {
        reader = h.reader;
        seat = h.seat;
        sent = h.sent;
        got = got;
        in_order = λ p. ap (parcels_of p) (append_assoc h.got (x ∷ []) items) ∙ h.in_order p;
        fit = each_set (FitsRole h.reader h.seat h.sent got) views place w (
          no_sender h.seat h.sent place w refl,
          λ _. record {
            here = mine.here;
            all = ap (λ l. l ++ x ∷ []) mine.all;
            unmade = mine.unmade;
            known = mine.known;
            once = mine.once;
          },
        )
            (λ j u other e. (
              (h.fit j u e).0,
              λ p. absurd (other (((h.fit j u e).1 p).here ∙ sym mine.here)),
            ));
      },
      record {
        knows = refl;
        left = items;
        balances = balanced h.sent h.seat v.made (v.taken ++ x ∷ []) v.back items is mine.known mine.once mine.unmade;
      },
    )

-- what the taker learns
pub learns : (place : ℕ) (v : Knowledge) → v.takes ≡ true
    → Learns KeepsOrder place v (Balances v.made v.taken v.back)
learns place v may items views h at =
    let mine = (h.fit place v at).1 may in
    let is : (p : ℕ) → parcels_of p (v.taken ++ items) ≡ h.sent p =
    λ p. ap (λ l. parcels_of p (l ++ items)) mine.all ∙ h.in_order p in
    balanced h.sent h.seat v.made v.taken v.back items is mine.known mine.once mine.unmade

-- ---- a pass is handed out

known_new : (sent : Sent) (seat : Seats) (made : ℕ) (n : ℕ) (bs : BackList)
    → AreBack sent seat made bs → AreBack sent (changed made (some n) seat) (made + 1) bs
known_new sent seat made n [] k = k
known_new sent seat made n (b ∷ bs) k = (
  omega (arith, k.0),
  changed_else made (some n) seat b.0 (λ e. absurd (omega (arith, k.0, e))) ∙ k.1,
  k.2,
  known_new sent seat made n bs k.3,
)

none_new : (sent : Sent) (seat : Seats) (made : ℕ) (n : ℕ) → NoneFrom sent seat made
    → NoneFrom sent (changed made (some n) seat) (made + 1)
none_new sent seat made n unmade p from =
    let q = unmade p (omega (arith, from)) in
    (changed_else made (some n) seat p (λ e. absurd (omega (arith, from, e))) ∙ q.0, q.1)

-- a new sender, numbered by the taker
pub forks : (place : ℕ) (v : Knowledge) → v.takes ≡ true
    → Forks KeepsOrder place v (taker (v.made + 1) v.taken v.back) (sender v.made [])
forks place v may items views h at =
    let l : Knowledge = taker (v.made + 1) v.taken v.back in
    let r : Knowledge = sender v.made [] in
    let vs : List Knowledge = set views place l in
    let seat : Seats = changed v.made (some (length vs)) h.seat in
    let mine = (h.fit place v at).1 may in
    let fresh = mine.unmade v.made (omega arith) in
    let F : ℕ → Knowledge → Type 0 = FitsRole h.reader seat h.sent h.got in
    let old : Each F vs = each_set F views place l (
      no_sender seat h.sent place l refl,
      λ _. record {
        here = mine.here;
        all = mine.all;
        unmade = none_new h.sent h.seat v.made (length vs) mine.unmade;
        known = known_new h.sent h.seat v.made (length vs) v.back mine.known;
        once = mine.once;
      },
    )
    (λ j u other e. (
      (λ s. let t = (h.fit j u e).0 s in record {
        here = changed_else v.made (some (length vs)) h.seat u.from
            (empty_apart h.seat u.from v.made j t.here fresh.0) ∙ t.here;
        all = t.all;
      }),
      λ p. absurd (other (((h.fit j u e).1 p).here ∙ sym mine.here)),
    )) in
    let new : (j : ℕ) → j ≡ length vs → F j r = λ j is. (
      (λ _. record {
        here = changed_here v.made (some (length vs)) h.seat ∙ ap some (sym is);
        all = sym fresh.1;
      }),
      no_taker h.reader seat h.sent h.got j r refl,
    ) in
    record {
      reader = h.reader;
      seat = seat;
      sent = h.sent;
      got = h.got;
      in_order = h.in_order;
      fit = λ j u e. ⊎_elim (λ x. old j u x)
          (λ (is : (j ≡ length vs) × (r ≡ u)). subst (λ y. F j y) is.1 (new j is.0))
          (snoc_at vs r u j e);
    }

-- ---- a pass comes back

emptied : (seat : Seats) (k p : ℕ) → seat p ≡ none → (p ≡ k) ⊎ (p ≢ k)
    → changed k none seat p ≡ none
emptied seat k p is (inl same) = ap (changed k none seat) same ∙ changed_here k none seat
emptied seat k p is (inr not) = changed_else k none seat p not ∙ is

known_back : (sent : Sent) (seat : Seats) (made : ℕ) (k : ℕ) (bs : BackList)
    → AreBack sent seat made bs → AreBack sent (changed k none seat) made bs
known_back sent seat made k [] h = h
known_back sent seat made k (b ∷ bs) h =
    (h.0, emptied seat k b.0 h.1 (cases_eq b.0 k), h.2, known_back sent seat made k bs h.3)

known_last : (sent : Sent) (seat : Seats) (made : ℕ) (bs : BackList) (b : ℕ × List Parcel)
    → AreBack sent seat made bs → b.0 < made → seat b.0 ≡ none → b.1 ≡ sent b.0
    → AreBack sent seat made (bs ++ b ∷ [])
known_last sent seat made [] b h less empty is = (less, empty, is, tt)
known_last sent seat made (c ∷ bs) b h less empty is =
    (h.0, h.1, h.2, known_last sent seat made bs b h.3 less empty is)

-- the taker takes in a sender's pass
pub merges : (place : ℕ) (v : Knowledge) (other : ℕ) (w : Knowledge)
    → v.takes ≡ true → w.sends ≡ true
    → Merges KeepsOrder place v other w (taker v.made v.taken (v.back ++ (w.from, w.put) ∷ []))
    nobody
merges place v other w may sends items views h at two at' =
    let both : Knowledge = taker v.made v.taken (v.back ++ (w.from, w.put) ∷ []) in
    let vs : List Knowledge = set views place both in
    let seat : Seats = changed w.from none h.seat in
    let mine = (h.fit place v at).1 may in
    let was : get_elem? views other ≡ some w =
    ⊎_elim (λ (x : (other ≡ place) × (both ≡ w)). absurd (two x.0))
    (λ (x : (other ≢ place) × (get_elem? views other ≡ some w)). x.1)
    (at_set views place other both w at') in
    let theirs = (h.fit other w was).0 sends in
    let F : ℕ → Knowledge → Type 0 = FitsRole h.reader seat h.sent h.got in
    let less : w.from < v.made =
    below h.seat h.sent v.made w.from other theirs.here mine.unmade in
    let now : Each (λ j u. j ≢ other → F j u) vs =
    each_set (λ j u. j ≢ other → F j u) views place both
    (λ _. (
      no_sender seat h.sent place both refl,
      λ _. record {
        here = mine.here;
        all = mine.all;
        unmade = λ p from. let q = mine.unmade p from in
            (emptied h.seat w.from p q.0 (cases_eq p w.from), q.1);
        known = known_last h.sent seat v.made v.back (w.from, w.put)
            (known_back h.sent h.seat v.made w.from v.back mine.known) less
            (changed_here w.from none h.seat) theirs.all;
        once = once_more h.sent h.seat v.made w.from w.put other v.back mine.known
            theirs.here mine.once;
      },
    ))
    (λ j u apart_place e apart_other. (
      (λ s. let t = (h.fit j u e).0 s in record {
        here = changed_else w.from none h.seat u.from
            (apart h.seat u.from w.from j other t.here theirs.here apart_other) ∙ t.here;
        all = t.all;
      }),
      λ p. absurd (apart_place (((h.fit j u e).1 p).here ∙ sym mine.here)),
    )) in
    record {
      reader = h.reader;
      seat = seat;
      sent = h.sent;
      got = h.got;
      in_order = h.in_order;
      fit = each_set F vs other nobody (
        no_sender seat h.sent other nobody refl,
        no_taker h.reader seat h.sent h.got other nobody refl,
      )
          (λ j u not e. now j u e not);
    }

-- ---- at the beginning there is the taker alone

alone_at : (u v : Knowledge) (j : ℕ) → get_elem? (u ∷ []) j ≡ some v → (j ≡ 0) × (u ≡ v)
alone_at u v zero e = (refl, some-injective u v e)
alone_at u v (suc j) e = absurd (some-ne-none v (sym e))

first_fits : (sent : Sent) (seat : Seats) → ((p : ℕ) → seat p ≡ none)
    → ((p : ℕ) → sent p ≡ []) → FitsRole 0 seat sent [] 0 (taker 0 [] [])
first_fits sent seat no_seat no_put = (
  no_sender seat sent 0 (taker 0 [] []) refl,
  λ _. record {
    here = refl;
    all = refl;
    unmade = λ p _. (no_seat p, no_put p);
    known = tt;
    once = none_once;
  },
)

pub begins : KeepsOrder [] (taker 0 [] [] ∷ [])
begins = record {
  reader = 0;
  seat = λ _. none;
  sent = λ _. [];
  got = [];
  in_order = λ _. refl;
  fit = λ j u e. let is = alone_at (taker 0 [] []) u j e in
      subst (λ (y : ℕ × Knowledge). FitsRole 0 (λ _. none) (λ _. []) [] y.0 y.1)
      (λ i. (sym is.0 i, is.1 i))
      (first_fits (λ _. []) (λ _. none) (λ _. refl) (λ _. refl));
}
