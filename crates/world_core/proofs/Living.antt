-- The lives of a node, with one more event of a world.
use Rattle.std.proofs.Common.{◌≡◌, ◌≢◌, ℕ, ◌+◌, ◌-◌, ◌≤◌, Bool, true, false, cond, eqb, List, [], ◌∷◌, ◌++◌, length, All, refl, sym, ap, subst, ◌∙◌, arith}
use Rattle.std.specs.Option.{unwrap_or}
use Rattle.std.proofs.lemmas.List.Elements.{All-head, All-tail}
use Rattle.meta_store.specs.Context.{Reading}
use Rattle.node_events.specs.declared.event.NodeEvent.{NodeEvent}
use Rattle.node_events.specs.declared.event.NodeEvent.TheVariants as OfNode
use Rattle.node_core.specs.declared.state.Stepped.{Stepped}
use Rattle.node_core.specs.Node.{NodeParts}
use Rattle.node_core.specs.Step.{IsNodeStep}
use Rattle.restart_images.specs.Images.{Image}
use Rattle.restart_images.specs.Node.{BeginsFrom}
use Rattle.restart_images.proofs.Noding.{reads_before}
use Rattle.std.proofs.lemmas.List.{length-append}
use Rattle.world_core.specs.declared.answer.Accepted.{Accepted}
use Rattle.world_core.specs.declared.event.Event.{Event}
use Rattle.world_core.specs.declared.event.Event.TheVariants as events
use Rattle.world_core.specs.Events.{Begin, Doing, Step, doing_of, node_of_event}
use Rattle.world_core.specs.Lives.{Live, given_by_restart, deed_of, deeds_of}
use Rattle.world_core.specs.Tells.{SendInOrder}
use Rattle.world_core.specs.Invariant.{IsFrameWithin, IsReadWithin}
use Rattle.world_core.proofs.Lists.{frames_at_end, frames_at_more, numbered_more}
use Rattle.std.proofs.lemmas.Bool.{eq-eqb, eqb-true}
use Rattle.world_core.proofs.Telling.{first_within}

-- ---- one more deed

pub live_step : (images : List Image) (old : NodeParts) (deeds : List (Doing × Stepped)) (mid : NodeParts) (event : NodeEvent) (given : Stepped) (new : NodeParts)
    → Live images old deeds mid → IsNodeStep mid event new given → Live images old (deeds ++ (Step event, given) ∷ []) new
live_step images old [] mid event given new lives makes = (new, (subst (λ s. IsNodeStep s event new given) lives makes, refl))
live_step images old ((Step e, g) ∷ deeds) mid event given new lives makes = (lives.0, (lives.1.0, live_step images lives.0 deeds mid event given new lives.1.1 makes))
live_step images old ((Begin i, g) ∷ deeds) mid event given new lives makes = (lives.0, (lives.1.0, live_step images lives.0 deeds mid event given new lives.1.1 makes))

pub live_begin : (images : List Image) (old : NodeParts) (deeds : List (Doing × Stepped)) (mid : NodeParts) (image : ℕ) (given : Stepped) (new : NodeParts)
    → Live images old deeds mid → BeginsFrom images image mid new → given ≡ given_by_restart → Live images old (deeds ++ (Begin image, given) ∷ []) new
live_begin images old [] mid image given new lives begins gave = (new, ((subst (λ s. BeginsFrom images image s new) lives begins, gave), refl))
live_begin images old ((Step e, g) ∷ deeds) mid image given new lives begins gave = (lives.0, (lives.1.0, live_begin images lives.0 deeds mid image given new lives.1.1 begins gave))
live_begin images old ((Begin i, g) ∷ deeds) mid image given new lives begins gave = (lives.0, (lives.1.0, live_begin images lives.0 deeds mid image given new lives.1.1 begins gave))

-- ---- one more image

begins_more : (images : List Image) (image : Image) (number : ℕ) (old new : NodeParts) → BeginsFrom images number old new → BeginsFrom (images ++ image ∷ []) number old new
begins_more images image number old new b =
    let longer : length (images ++ image ∷ []) ≡ length images + 1 = length-append images (image ∷ []) in
    record {
      there = omega (arith, b.there, longer);
      table = b.table;
      is_table = b.is_table;
      restored = λ key. b.restored key ∙ ap (λ there. there key) (sym (reads_before images image number b.there));
      begins = b.begins;
    }

pub live_more : (images : List Image) (image : Image) (old : NodeParts) (deeds : List (Doing × Stepped)) (new : NodeParts) → Live images old deeds new
    → Live (images ++ image ∷ []) old deeds new
live_more images image old [] new lives = lives
live_more images image old ((Step e, g) ∷ deeds) new lives = (lives.0, (lives.1.0, live_more images image lives.0 deeds new lives.1.1))
live_more images image old ((Begin i, g) ∷ deeds) new lives =
    (lives.0, ((begins_more images image i old lives.0 lives.1.0.0, lives.1.0.1), live_more images image lives.0 deeds new lives.1.1))

-- ---- more contexts and more frames

-- the event names what is there already
pub record Within (contexts : List Reading) (frames : List (List ℕ)) (event : Event) : Type 0 where
  pub read : IsReadWithin (length contexts) event
  pub frame : IsFrameWithin (length frames) event

doing_more : (contexts more : List Reading) (frames others : List (List ℕ)) (event : Event) → Within contexts frames event
    → doing_of (contexts ++ more) (frames ++ others) event ≡ doing_of contexts frames event
doing_more contexts more frames others (events.Step n event) w = refl
doing_more contexts more frames others (events.Put n k v read) w = ap (λ c. Step (OfNode.Write k v c)) (numbered_more contexts more read w.read)
doing_more contexts more frames others (events.Deliver frame n word) w =
    ap (λ b. Step (OfNode.Take (unwrap_or b []) word)) (numbered_more frames others frame w.frame)
doing_more contexts more frames others (events.Restart n image) w = refl

deed_more : (contexts more : List Reading) (frames others : List (List ℕ)) (a : Accepted) → Within contexts frames a.event
    → (a.answer.sent.first - 1) + a.answer.sent.count ≤ length frames → deed_of (contexts ++ more) (frames ++ others) a ≡ deed_of contexts frames a
deed_more contexts more frames others a w within = λ i. (
  doing_more contexts more frames others a.event w i,
  record { reply = a.answer.reply; outbox = frames_at_more a.answer.sent frames others within i },
)

pub deeds_more : (contexts more : List Reading) (frames others : List (List ℕ)) (n sent : ℕ) (later : List Accepted) → SendInOrder sent later (length frames)
    → All (λ a. Within contexts frames a.event) later → deeds_of (contexts ++ more) (frames ++ others) n later ≡ deeds_of contexts frames n later
deeds_more contexts more frames others n sent [] order within = refl
deeds_more contexts more frames others n sent (a ∷ later) order within =
    let first = deed_more contexts more frames others a (All-head (λ a. Within contexts frames a.event) a later within) (first_within sent (length frames) a later order) in
    let rest = deeds_more contexts more frames others n (sent + a.answer.sent.count) later order.1 (All-tail (λ a. Within contexts frames a.event) a later within) in
    λ i. cond (eqb (node_of_event a.event) n) (first i ∷ rest i) (rest i)

-- ---- one more event

by_test : {A : Type 0} (b : Bool) (x : A) (xs ys : List A) → cond b (x ∷ (xs ++ ys)) (xs ++ ys) ≡ cond b (x ∷ xs) xs ++ ys
by_test true x xs ys = refl
by_test false x xs ys = refl

pub deeds_append : (contexts : List Reading) (frames : List (List ℕ)) (n : ℕ) (later bs : List Accepted)
    → deeds_of contexts frames n (later ++ bs) ≡ deeds_of contexts frames n later ++ deeds_of contexts frames n bs
deeds_append contexts frames n [] bs = refl
deeds_append contexts frames n (a ∷ later) bs =
    ap (λ ds. cond (eqb (node_of_event a.event) n) (deed_of contexts frames a ∷ ds) ds) (deeds_append contexts frames n later bs)
    ∙ by_test (eqb (node_of_event a.event) n) (deed_of contexts frames a) (deeds_of contexts frames n later) (deeds_of contexts frames n bs)

-- the deed of an event is its node's own
pub own_deed : (contexts : List Reading) (frames : List (List ℕ)) (n : ℕ) (a : Accepted) → node_of_event a.event ≡ n → deeds_of contexts frames n (a ∷ []) ≡ deed_of contexts frames a ∷ []
own_deed contexts frames n a own = ap (λ b. cond b (deed_of contexts frames a ∷ []) []) (eq-eqb (node_of_event a.event) n own)

other_by : {A : Type 0} (m n : ℕ) (x : A) (b : Bool) → eqb m n ≡ b → m ≢ n → cond b (x ∷ []) [] ≡ []
other_by m n x true e ne = absurd (ne (eqb-true m n e))
other_by m n x false e ne = refl

pub other_deed : (contexts : List Reading) (frames : List (List ℕ)) (m : ℕ) (a : Accepted) → node_of_event a.event ≢ m → deeds_of contexts frames m (a ∷ []) ≡ []
other_deed contexts frames m a ne = other_by (node_of_event a.event) m (deed_of contexts frames a) (eqb (node_of_event a.event) m) refl ne

-- what an event was, with what it sent
pub new_deed : (contexts more : List Reading) (frames others : List (List ℕ)) (a : Accepted) (doing : Doing) (given : Stepped)
    → IsReadWithin (length contexts) a.event → IsFrameWithin (length frames) a.event → doing_of contexts frames a.event ≡ doing
    → a.answer.reply ≡ given.reply → others ≡ given.outbox → a.answer.sent ≡ record { first = length frames + 1; count = length others }
    → deed_of (contexts ++ more) (frames ++ others) a ≡ (doing, given)
new_deed contexts more frames others a doing given read frame is reply outbox sent = λ i. (
  (doing_more contexts more frames others a.event (record { read = read; frame = frame }) ∙ is) i,
  record { reply = reply i; outbox = (frames_at_end a.answer.sent frames others sent ∙ outbox) i },
)
