-- What a world keeps to, happening by happening and frame by frame.
use Rattle.std.proofs.Common.{◌≡◌, ◌≢◌, ℕ, ◌<◌, ◌≤◌, Bool, true, false, List, [], ◌∷◌, ◌++◌, length, get_or, Option, Some, None, refl, sym, ap, subst, ◌∙◌, arith, eqb}
use Rattle.std.specs.Prelude.{slice_get, slice_set}
use Rattle.std.proofs.lemmas.Bool.{eqb-true, eqb-false}
use Rattle.std.proofs.lemmas.List.{append-nil, append_assoc, get_or-set_same, get_or-set_other, length-set}
use Rattle.std.proofs.lemmas.Option.{slice_get_within}
use Rattle.meta_types.specs.Actor.{node_of_writer}
use Rattle.meta_types.specs.Name.{Key}
use Rattle.meta_types.specs.Value.{ValueParts}
use Rattle.dvvset.specs.Object.{Entry}
use Rattle.dvvset.specs.Clock.{join}
use Rattle.meta_frame.specs.Frame.{Spells}
use Rattle.meta_frame.specs.declared.message.Frame.{Frame}
use Rattle.meta_store.specs.Context.{Reading, vector_read}
use Rattle.meta_store.specs.Table.{Table, object_at, with_object}
use Rattle.meta_store.specs.Step.{object_after_put}
use Rattle.past_model.specs.declared.happening.Happening.{Happening}
use Rattle.past_model.specs.declared.happening.Happening.TheVariants.{Wrote, Looked, Sent, Got, Kept, Restarted}
use Rattle.past_model.specs.History.{Fits}
use Rattle.past_model.specs.Objects.{held_object, object_of_read, seen_object, sent_object, next_writer}
use Rattle.past_model.proofs.Changes.{after_look, after_sending}
use Rattle.past_model.proofs.Histories.{history_snoc}
use Rattle.past_model.proofs.Standing.{seen_later, sent_later}
use Rattle.node_core.specs.Leaving.{AreOfHeld, IsOfHeld, carried_object}
use Rattle.restart_images.specs.Images.{holdings}
use Rattle.restart_images.specs.Keeping.{IsRestorable, Keeping}
use Rattle.restart_images.proofs.Keepings.{new_keeping, with_kept, with_merge, with_restart, with_write}
use Rattle.restart_images.specs.Follows.{FollowsHistory}
use Rattle.restart_images.proofs.Following.{follows_look, follows_sending, follows_write, follows_keep, follows_take, follows_restart, write_elsewhere, keeping_elsewhere, delivery_elsewhere, restart_elsewhere}
use Rattle.world_core.specs.Tells.{Pairwise, Told, nothing_told, tell, tell_frames, tell_look, tell_sending}
use Rattle.world_core.specs.Invariant.{IsRead, IsSending, IsState, IsTold}
use Rattle.world_core.proofs.Lists.{pairwise_map, pairwise_snoc, slice_get_end, slice_get_more}

-- ---- reads and sendings in a longer history

read_later : (hs more : List Happening) (place : ℕ) (context : Reading) → IsRead hs place context → IsRead (hs ++ more) place context
read_later hs more place context is =
    let within : place < length hs = slice_get_within hs place (Looked (node_of_writer context.source.actor) context.key) is.looked in
    record {
      looked = slice_get_more hs more place within ∙ is.looked;
      vector = is.vector ∙ ap join (sym (seen_later hs more place context.key within));
    }

told_later : (hs more : List Happening) (frame : Frame) (place : Option ℕ) → IsTold hs frame place → IsTold (hs ++ more) frame place
told_later hs more frame None is = is
told_later hs more frame (Some place) is =
    let within : place < length hs = slice_get_within hs place (Sent frame.from is.key) is.sent in
    record {
      key = is.key;
      sent = slice_get_more hs more place within ∙ is.sent;
      carries = is.carries ∙ ap (λ o. Some (is.key, o)) (sym (sent_later hs more place is.key within));
    }

-- ---- one happening more, if reads and frames stay

pub state_next : (old nodes : List Keeping) (contexts : List Reading) (sent : List Frame) (t : Told) (h : Happening) → IsState old contexts sent t → Fits t.history h
    → ((n : ℕ) (d : Keeping) → n < length nodes → FollowsHistory (t.history ++ h ∷ []) n (get_or nodes n d)) → IsState nodes contexts sent (tell h t)
state_next old nodes contexts sent t h s fits follow = record {
  is_history = history_snoc t.history h s.is_history fits;
  nodes = follow;
  reads = pairwise_map (IsRead t.history) (IsRead (t.history ++ h ∷ [])) (read_later t.history (h ∷ [])) t.looks contexts s.reads;
  sendings = pairwise_map (IsTold t.history) (IsTold (t.history ++ h ∷ [])) (told_later t.history (h ∷ [])) sent t.sendings s.sendings;
}

-- one node changes
set_by : (hs : List Happening) (nodes : List Keeping) (n : ℕ) (node : Keeping) → n < length nodes → FollowsHistory hs n node → ((m : ℕ) (d : Keeping) → m < length nodes → m ≢ n → FollowsHistory hs m (get_or nodes m d))
    → (m : ℕ) (d : Keeping) (b : Bool) → eqb m n ≡ b → m < length nodes → FollowsHistory hs m (get_or (slice_set nodes n node) m d)
set_by hs nodes n node low here there m d true e within =
    let same : m ≡ n = eqb-true m n e in
    subst (λ x. FollowsHistory hs m x) (sym (ap (λ i. get_or (slice_set nodes n node) i d) same ∙ get_or-set_same nodes n node d low)) (subst (λ i. FollowsHistory hs i node) (sym same) here)
set_by hs nodes n node low here there m d false e within =
    let ne : m ≢ n = eqb-false m n e in
    subst (λ x. FollowsHistory hs m x) (sym (get_or-set_other nodes n m node d ne)) (there m d within ne)

set_node : (hs : List Happening) (nodes : List Keeping) (n : ℕ) (node : Keeping) → n < length nodes → FollowsHistory hs n node → ((m : ℕ) (d : Keeping) → m < length nodes → m ≢ n → FollowsHistory hs m (get_or nodes m d))
    → (m : ℕ) (d : Keeping) → m < length (slice_set nodes n node) → FollowsHistory hs m (get_or (slice_set nodes n node) m d)
set_node hs nodes n node low here there m d within =
    let long : length (slice_set nodes n node) ≡ length nodes = length-set nodes n node in
    set_by hs nodes n node low here there m d (eqb m n) refl (omega (arith, within, long))

-- ---- the happenings

pub state_write : (nodes : List Keeping) (contexts : List Reading) (sent : List Frame) (t : Told) (n w : ℕ) (k : Key) (v : ValueParts) (r : Option ℕ) (context : Option Reading) (node : Keeping)
    → w ≡ next_writer t.history n → IsState nodes contexts sent t → n < length nodes → node ≡ get_or nodes n node → IsRestorable node
    → ((l : Key) → object_at node.table l ≢ [] → object_at (with_object k (object_after_put node.table w k v context) node.table) l ≢ [])
    → Fits t.history (Wrote n k v r) → vector_read context ≡ join (object_of_read t.history k r)
    → IsState (slice_set nodes n (with_write w k v context node)) contexts sent (tell (Wrote n k v r) t)
state_write nodes contexts sent t n w k v r context node by s low at is grows fits read =
    state_next nodes (slice_set nodes n (with_write w k v context node)) contexts sent t (Wrote n k v r) s fits
    (set_node (t.history ++ Wrote n k v r ∷ []) nodes n (with_write w k v context node) low
    (follows_write t.history n w k v r context node by is grows (subst (FollowsHistory t.history n) (sym at) (s.nodes n node low)) read)
    (λ m d within ne. write_elsewhere t.history n k v r m (get_or nodes m d) ne (s.nodes m d within)))

pub state_keep : (nodes : List Keeping) (contexts : List Reading) (sent : List Frame) (t : Told) (n : ℕ) (k : Key) (node : Keeping)
    → IsState nodes contexts sent t → n < length nodes → node ≡ get_or nodes n node → IsRestorable node → IsState (slice_set nodes n (with_kept k node)) contexts sent (tell (Kept n k) t)
state_keep nodes contexts sent t n k node s low at is =
    state_next nodes (slice_set nodes n (with_kept k node)) contexts sent t (Kept n k) s tt
    (set_node (t.history ++ Kept n k ∷ []) nodes n (with_kept k node) low
    (follows_keep t.history n k node is (subst (FollowsHistory t.history n) (sym at) (s.nodes n node low)))
    (λ m d within ne. keeping_elsewhere t.history n k m (get_or nodes m d) ne (s.nodes m d within)))

-- the Sent at place i was of node m
pub state_take : (nodes : List Keeping) (contexts : List Reading) (sent : List Frame) (t : Told) (n i m : ℕ) (k : Key) (came : List Entry) (node : Keeping)
    → IsState nodes contexts sent t → n < length nodes → node ≡ get_or nodes n node → slice_get t.history i ≡ Some (Sent m k) → came ≡ sent_object t.history i k
    → IsState (slice_set nodes n (with_merge k came node)) contexts sent (tell (Got n i) t)
state_take nodes contexts sent t n i m k came node s low at there is =
    state_next nodes (slice_set nodes n (with_merge k came node)) contexts sent t (Got n i) s (m, (k, there))
    (set_node (t.history ++ Got n i ∷ []) nodes n (with_merge k came node) low
    (follows_take t.history n i m k came node s.is_history (subst (FollowsHistory t.history n) (sym at) (s.nodes n node low)) there is)
    (λ m d within ne. delivery_elsewhere t.history n i m (get_or nodes m d) ne (s.nodes m d within)))

pub state_restart : (nodes : List Keeping) (contexts : List Reading) (sent : List Frame) (t : Told) (n j : ℕ) (table : Table) (node : Keeping)
    → IsState nodes contexts sent t → n < length nodes → node ≡ get_or nodes n node → j ≤ length node.images → ((k : Key) → object_at table k ≡ holdings node.images j k)
    → Fits t.history (Restarted n j)
    → IsState (slice_set nodes n (with_restart table j node)) contexts sent (tell (Restarted n j) t)
state_restart nodes contexts sent t n j table node s low at image restored fits =
    state_next nodes (slice_set nodes n (with_restart table j node)) contexts sent t (Restarted n j) s fits
    (set_node (t.history ++ Restarted n j ∷ []) nodes n (with_restart table j node) low
    (follows_restart t.history n j node table (subst (FollowsHistory t.history n) (sym at) (s.nodes n node low)) image restored)
    (λ m d within ne. restart_elsewhere t.history n j m (get_or nodes m d) ne (s.nodes m d within)))

-- a read: its context is of the key and what the node holds there
pub state_look : (nodes : List Keeping) (contexts : List Reading) (sent : List Frame) (t : Told) (n : ℕ) (k : Key) (context : Reading)
    → IsState nodes contexts sent t → node_of_writer context.source.actor ≡ n → context.key ≡ k → context.vector ≡ join (held_object t.history n k) → IsState nodes (contexts ++ context ∷ []) sent (tell_look n k t)
state_look nodes contexts sent t n k context s node key vector =
    let hs = t.history in
    let more = hs ++ Looked n k ∷ [] in
    let next = state_next nodes nodes contexts sent t (Looked n k) s tt (λ m d within. follows_look hs n k m (get_or nodes m d) (s.nodes m d within)) in
    let read : IsRead more (length hs) context = record {
      looked = slice_get_end hs (Looked n k) ∙ ap (λ l. Some (Looked n l)) (sym key) ∙ ap (λ m. Some (Looked m context.key)) (sym node);
      vector = vector ∙ ap join (sym (after_look hs n k).seen.here) ∙ ap (λ l. join (seen_object more (length hs) l)) (sym key);
    } in
    record {
      is_history = next.is_history;
      nodes = next.nodes;
      reads = pairwise_snoc (IsRead more) t.looks contexts (length hs) context next.reads read;
      sendings = next.sendings;
    }

-- a frame that carries what its sender holds under the key
state_sending : (nodes : List Keeping) (contexts : List Reading) (sent : List Frame) (t : Told) (k : Key) (o : List Entry) (frame : Frame)
    → IsState nodes contexts sent t → carried_object frame.message ≡ Some (k, o) → o ≡ held_object t.history frame.from k
    → IsState nodes contexts (sent ++ frame ∷ []) (tell_sending frame.from (Some (k, o)) t)
state_sending nodes contexts sent t k o frame s carries is =
    let n = frame.from in
    let hs = t.history in
    let more = hs ++ Sent n k ∷ [] in
    let next = state_next nodes nodes contexts sent t (Sent n k) s tt (λ m d within. follows_sending hs n k m (get_or nodes m d) (s.nodes m d within)) in
    let sending : IsSending more frame (length hs) = record {
      key = k;
      sent = slice_get_end hs (Sent n k);
      carries = carries ∙ ap (λ x. Some (k, x)) (is ∙ sym (after_sending hs n k).sent.here);
    } in
    record {
      is_history = next.is_history;
      nodes = next.nodes;
      reads = next.reads;
      sendings = pairwise_snoc (IsTold more) sent t.sendings frame (Some (length hs)) next.sendings sending;
    }

-- a frame without an object
state_quiet : (nodes : List Keeping) (contexts : List Reading) (sent : List Frame) (t : Told) (frame : Frame)
    → IsState nodes contexts sent t → carried_object frame.message ≡ None
    → IsState nodes contexts (sent ++ frame ∷ []) (tell_sending frame.from None t)
state_quiet nodes contexts sent t frame s carries = record {
  is_history = s.is_history;
  nodes = s.nodes;
  reads = s.reads;
  sendings = pairwise_snoc (IsTold t.history) sent t.sendings frame None s.sendings carries;
}

state_frame : (nodes : List Keeping) (contexts : List Reading) (sent : List Frame) (t : Told) (n : ℕ) (node : Keeping) (frame : Frame)
    → n < length nodes → node ≡ get_or nodes n node → frame.from ≡ n → IsOfHeld node.table frame.message → IsState nodes contexts sent t
    → (carried : Option (Key × List Entry)) → carried_object frame.message ≡ carried
    → IsState nodes contexts (sent ++ frame ∷ []) (tell_sending frame.from carried t)
state_frame nodes contexts sent t n node frame low at from held s None carries = state_quiet nodes contexts sent t frame s carries
state_frame nodes contexts sent t n node frame low at from held s (Some (k, o)) carries =
    let stands : FollowsHistory t.history n node = subst (FollowsHistory t.history n) (sym at) (s.nodes n node low) in
    state_sending nodes contexts sent t k o frame s carries
    (held k o carries ∙ stands.holds k ∙ ap (λ m. held_object t.history m k) (sym from))

-- the frames of a node, each of which carries what it holds
pub state_frames : (nodes : List Keeping) (contexts : List Reading) (sent : List Frame) (t : Told) (n : ℕ) (node : Keeping) (frames : List Frame) (bytes : List (List ℕ))
    → n < length nodes → node ≡ get_or nodes n node → AreOfHeld n node.table frames bytes → IsState nodes contexts sent t
    → IsState nodes contexts (sent ++ frames) (tell_frames n frames t)
state_frames nodes contexts sent t n node [] [] low at are s = subst (λ fs. IsState nodes contexts fs t) (sym (append-nil sent)) s
state_frames nodes contexts sent t n node [] (b ∷ bytes) low at are s = absurd are
state_frames nodes contexts sent t n node (f ∷ frames) [] low at are s = absurd are
state_frames nodes contexts sent t n node (f ∷ frames) (b ∷ bytes) low at are s =
    let first : IsState nodes contexts (sent ++ f ∷ []) (tell_sending n (carried_object f.message) t) =
    subst (λ m. IsState nodes contexts (sent ++ f ∷ []) (tell_sending m (carried_object f.message) t)) are.0.1.0
    (state_frame nodes contexts sent t n node f low at are.0.1.0 are.0.1.1 s (carried_object f.message) refl) in
    subst (λ fs. IsState nodes contexts fs (tell_frames n (f ∷ frames) t)) (append_assoc sent (f ∷ []) frames)
    (state_frames nodes contexts (sent ++ f ∷ []) (tell_sending n (carried_object f.message) t) n node frames bytes low at are.1 first)

-- their spellings
pub spelled_frames : (n : ℕ) (table : Table) (frames : List Frame) (bytes : List (List ℕ)) → AreOfHeld n table frames bytes → Pairwise Spells frames bytes
spelled_frames n table [] [] are = tt
spelled_frames n table [] (b ∷ bytes) are = absurd are
spelled_frames n table (f ∷ frames) [] are = absurd are
spelled_frames n table (f ∷ frames) (b ∷ bytes) are = (are.0.0, spelled_frames n table frames bytes are.1)

-- ---- the first state

follows_nothing : (n : ℕ) → FollowsHistory [] n new_keeping
follows_nothing n = record {
  holds = λ k. refl;
  number = refl;
  images = λ j low k. refl;
  standing = λ k. refl;
  life = refl;
}

nothing_happened : (before after : List Happening) (h : Happening) → [] ≡ before ++ h ∷ after → ⊥
nothing_happened [] after h e = cc
nothing_happened (x ∷ before) after h e = cc

pub state_new : (ns : List Keeping) → ((n : ℕ) (d : Keeping) → n < length ns → get_or ns n d ≡ new_keeping) → IsState ns [] [] nothing_told
state_new ns each = record {
  is_history = record { fits = λ before after h e. absurd (nothing_happened before after h e) };
  nodes = λ n d low. subst (FollowsHistory [] n) (sym (each n d low)) (follows_nothing n);
  reads = tt;
  sendings = tt;
}
