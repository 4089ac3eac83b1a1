-- What becomes of frames that are sent one after another.
use Rattle.std.proofs.Common.{◌≡◌, ◌≤◌, ◌+◌, ◌<◌, ◌⊎◌, ◌↔◌, inl, inr, ⊎_elim, ℕ, Bool, true, List, [], ◌∷◌, ◌++◌, length, set, get_or, Some, refl, sym, ap, ◌∙◌, subst, take, arith}
use Rattle.std.specs.Prelude.{IsErrOf, IsFalse, IsTrue, IfErr, MatchResult, Result, Ok, Err, is_ok}
use Rattle.std.proofs.lemmas.List.{length-map, set-get_or, take_more}
use Rattle.std.proofs.lemmas.Option.{slice_get_past, slice_get_read}
use Rattle.inbox.specs.Moments.{WasFull}
use Rattle.inbox.specs.Views.{InboxView, PutView, with_put}
use Rattle.inbox.specs.declared.fault.InboxFault.{InboxFault}
use Rattle.inbox.specs.declared.fault.InboxFault.TheVariants.{Closed, Full}
use Rattle.inbox.specs.declared.fault.NotPut.{NotPut}
use Rattle.cluster_worker.specs.Frames.{ArePutOrLost, FindsNoRoom, HasNoAddressee, IsLost, IsPut, addressee_of}
use Rattle.cluster_worker.specs.Passes.{ArePassesInto}

-- where the inbox took the frame, it is put by the pass to its addressee
pub is_put : {A : Type 0} (result : Result A NotPut) (is : Bool) (puts : List PutView) (i : ℕ)
    (old new : PutView) (frame : List ℕ) → addressee_of frame ≡ Some i → i < length puts
    → old ≡ get_or puts i old
    → MatchResult result (λ _. new ≡ with_put old frame)
    (λ refused. (new ≡ old) × (refused.frame ≡ frame))
    → is ≡ is_ok result → IsTrue is → IsPut puts frame (set puts i new)
is_put (Ok done) is puts i old new frame named within there put same told = record {
  node = i;
  named = named;
  pass = old;
  there = slice_get_read puts (length puts) i old refl within there;
  puts = ap (set puts i) put;
}
is_put (Err refused) is puts i old new frame named within there put same told = absurd (cc (same, told))

-- where it didn't, all passes are as before
pub not_put : {A : Type 0} (result : Result A NotPut) (is : Bool) (puts : List PutView) (i : ℕ)
    (old new : PutView) (frame : List ℕ) → old ≡ get_or puts i old
    → MatchResult result (λ _. new ≡ with_put old frame)
    (λ refused. (new ≡ old) × (refused.frame ≡ frame))
    → is ≡ is_ok result → IsFalse is → set puts i new ≡ puts
not_put (Ok done) is puts i old new frame there put same told = absurd (cc (same, told))
not_put (Err refused) is puts i old new frame there put same told =
    ap (set puts i) (put.0 ∙ there) ∙ set-get_or puts i old

-- a refusal is what it has
is_refusal : (refused : NotPut) (fault : InboxFault) (frame : List ℕ) → refused.fault ≡ fault
    → refused.frame ≡ frame → refused ≡ record { fault = fault; frame = frame }
is_refusal refused fault frame same told =
    ap (λ (f : InboxFault). record refused { fault = f }) same
    ∙ ap (λ (l : List ℕ). record refused { fault = fault; frame = l }) told

-- and then the inbox was closed or full
pub no_room : {A : Type 0} (inboxes : List InboxView) (result : Result A NotPut) (is : Bool)
    (puts : List PutView) (i : ℕ) (inbox : InboxView) (old new : PutView) (frame : List ℕ)
    → addressee_of frame ≡ Some i → ArePassesInto inboxes puts → i < length puts
    → inbox ≡ get_or inboxes i inbox → old ≡ get_or puts i old
    → MatchResult result (λ _. new ≡ with_put old frame)
    (λ refused. (new ≡ old) × (refused.frame ≡ frame))
    → (IsErrOf result (record { fault = Closed; frame = frame }) ↔ (inbox.closed ≡ true))
    → IfErr result (λ refused. (refused.fault ≡ Closed)
    ⊎ ((refused.fault ≡ Full) × WasFull inbox.room old))
    → is ≡ is_ok result → IsFalse is → FindsNoRoom inboxes puts frame
no_room inboxes (Ok done) is puts i inbox old new frame named are within here there put closed full same told =
    absurd (cc (same, told))
no_room inboxes (Err refused) is puts i inbox old new frame named are within here there put closed full same told =
    let many : length puts ≡ length inboxes =
    sym (length-map puts (λ (p : PutView). p.line)) ∙ (ap length are ∙ length-map inboxes (λ (a : InboxView). a.line)) in record {
      node = i;
      named = named;
      inbox = inbox;
      its = slice_get_read inboxes (length puts) i inbox many within here;
      pass = old;
      there = slice_get_read puts (length puts) i old refl within there;
      cause = ⊎_elim
          (λ (is_closed : refused.fault ≡ Closed). inl (closed.0 (ap Err (is_refusal refused Closed frame is_closed put.1))))
          (λ was_full. inr was_full.1)
          full;
    }

-- there is no pass to what the frame names
pub no_pass : (puts : List PutView) (i : ℕ) (frame : List ℕ) → addressee_of frame ≡ Some i
    → length puts ≤ i → HasNoAddressee puts frame
no_pass puts i frame named past = λ node other. let same : node ≡ i = cc (other, named) in
    slice_get_past puts node (omega (arith, same, past))

-- frames that are sent after others
pub sent_on : (inboxes : List InboxView) (old : List PutView) (frames : List (List ℕ)) (lost : ℕ)
    (mid : List PutView) (later : List (List ℕ)) (more : ℕ) (new : List PutView) (all : ℕ)
    → ArePutOrLost inboxes old frames lost mid → ArePutOrLost inboxes mid later more new → all ≡ lost + more
    → ArePutOrLost inboxes old (frames ++ later) all new
sent_on inboxes old [] lost mid later more new all sent then sum =
    let same : all ≡ more = omega (arith, sum, sent.0) in
    subst (λ (n : ℕ). ArePutOrLost inboxes old later n new) (sym same)
    (subst (λ (l : List PutView). ArePutOrLost inboxes l later more new) sent.1 then)
sent_on inboxes old (frame ∷ frames) lost mid later more new all (inl sent) then sum =
    inl (sent.0, sent.1, sent_on inboxes sent.0 frames lost mid later more new all sent.2 then sum)
sent_on inboxes old (frame ∷ frames) lost mid later more new all (inr sent) then sum =
    inr (sent.0 + more, omega (arith, sum, sent.1), sent.2, sent_on inboxes old frames sent.0 mid later more new (sent.0 + more) sent.3 then refl)

-- one that is put
pub one_put : (inboxes : List InboxView) (old : List PutView) (frame : List ℕ) (new : List PutView)
    → IsPut old frame new → ArePutOrLost inboxes old (frame ∷ []) 0 new
one_put inboxes old frame new is = inl (new, is, (refl, refl))

-- one that is lost
pub one_lost : (inboxes : List InboxView) (old : List PutView) (frame : List ℕ)
    (new : List PutView) → (new ≡ old) × IsLost inboxes old frame
    → ArePutOrLost inboxes old (frame ∷ []) 1 new
one_lost inboxes old frame new is = inr (0, refl, is.1, (refl, is.0))

-- the next of the frames, by a copy of it
pub next_sent : (inboxes : List InboxView) (old : List PutView) (frames : List (List ℕ))
    (i lost : ℕ) (mid : List PutView) (frame copy : List ℕ) (more : ℕ) (new : List PutView)
    (all : ℕ) → i < length frames → frame ≡ get_or frames i frame → copy ≡ frame
    → ArePutOrLost inboxes old (take i frames) lost mid → ArePutOrLost inboxes mid (copy ∷ []) more new
    → all ≡ lost + more → ArePutOrLost inboxes old (take (i + 1) frames) all new
next_sent inboxes old frames i lost mid frame copy more new all within there same sent then sum =
    subst (λ (l : List (List ℕ)). ArePutOrLost inboxes old l all new)
    (ap (λ (f : List ℕ). take i frames ++ f ∷ []) (same ∙ there) ∙ sym (take_more frames i frame within))
    (sent_on inboxes old (take i frames) lost mid (copy ∷ []) more new all sent then sum)

-- no more are lost than were sent
pub few_lost : (inboxes : List InboxView) (old : List PutView) (frames : List (List ℕ)) (lost : ℕ)
    (new : List PutView) → ArePutOrLost inboxes old frames lost new → lost ≤ length frames
few_lost inboxes old [] lost new sent = omega (arith, sent.0)
few_lost inboxes old (frame ∷ frames) lost new (inl sent) =
    omega (arith, few_lost inboxes sent.0 frames lost new sent.2)
few_lost inboxes old (frame ∷ frames) lost new (inr sent) =
    omega (arith, sent.1, few_lost inboxes old frames sent.0 new sent.3)
