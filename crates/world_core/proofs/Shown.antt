-- What a world lends of its nodes, images, contexts and frames, in the words of the past.
use Rattle.std.proofs.Common.{◌≡◌, ◌≢◌, ℕ, zero, suc, ◌<◌, ◌≤◌, List, [], length, Option, Some, None, refl, sym, ap, subst, ◌∙◌}
use Rattle.std.specs.Bool.{passes}
use Rattle.std.specs.Prelude.{slice_get}
use Rattle.std.specs.Option.{option_flatten, unwrap_or}
use Rattle.std.specs.FinMap.{find, is_sorted}
use Rattle.std.specs.FinMap.Entries.{same_entries}
use Rattle.meta_types.specs.Name.{Key}
use Rattle.meta_types.specs.Order.{key_cmp}
use Rattle.dvvset.specs.Object.{Entry}
use Rattle.meta_frame.specs.declared.message.Frame.{Frame}
use Rattle.meta_store.specs.Context.{Reading}
use Rattle.meta_store.specs.Table.{IsTable, Table, object_at}
use Rattle.meta_store.proofs.Keys.{key_total, same_key}
use Rattle.meta_store.proofs.Tables.{found_row, not_absent}
use Rattle.hash_tree.specs.Tree.{rows_of, tree_root}
use Rattle.node_core.specs.Leaving.{carried_object}
use Rattle.past_model.specs.declared.happening.Happening.{Happening}
use Rattle.past_model.specs.declared.happening.Happening.TheVariants.{Sent}
use Rattle.past_model.specs.History.{IsHistory}
use Rattle.past_model.specs.Past.{image, incarnation_of, known, load, past, writes}
use Rattle.past_model.specs.Shown.{IsObjectOf}
use Rattle.past_model.proofs.Entries.{one_object}
use Rattle.past_model.proofs.Placed.{ordered}
use Rattle.past_model.proofs.Showing.{object_shows}
use Rattle.past_model.specs.Objects.{seen_object, sent_object}
use Rattle.past_model.proofs.Matching.{matches, same_lives, same_numbers}
use Rattle.node_core.specs.Node.{NodeParts}
use Rattle.restart_images.specs.Images.{Image, holdings}
use Rattle.restart_images.specs.Node.{keeping, new_node}
use Rattle.restart_images.specs.Follows.{FollowsHistory}
use Rattle.world_core.specs.Knowledge.{CarriesLoad, CountsSeen, OfAllTold, ShowWhatTheyKnow, ShowsKnown}
use Rattle.world_core.specs.Refusal.{IsFrameOf, node_at, table_at}
use Rattle.world_core.specs.Numbers.{numbered}
use Rattle.world_core.specs.Tells.{Told}
use Rattle.world_core.specs.World.{World}
use Rattle.world_core.specs.Invariant.{IsRead, IsTold, IsWorld}
use Rattle.world_core.proofs.Lists.{pair_first}
use Rattle.world_core.proofs.Named.{IsToldAs, not_both, same_object, told_as}
use Rattle.world_core.proofs.Telling.{one_told}
use Rattle.world_core.proofs.Worlds.{kept_low, seen}

-- what holds of what the world keeps to holds of all that its events tell, since that is one
pub of_told : (w : World) (is : IsWorld w) (P : Told → Type 0) → P is.told → OfAllTold w P
of_told w is P p = λ t tells. subst P (one_told w.accepted w.frames is.told t is.telling tells) p

-- ---- nodes

-- a node stands where the history left it
pub stands : (w : World) (is : IsWorld w) (n : ℕ) → n < length w.nodes → FollowsHistory is.told.history n (keeping (node_at w n))
stands w is n low =
    subst (FollowsHistory is.told.history n) (sym (seen w.nodes n low)) (is.state.nodes n (keeping (node_at w n)) (kept_low w.nodes n low))

pub holds : (w : World) (is : IsWorld w) (n : ℕ) → n < length w.nodes → (k : Key)
    → IsObjectOf (writes is.told.history) k (known is.told.history n k) (object_at (table_at w n) k)
holds w is n low k =
    let hs = is.told.history in
    subst (IsObjectOf (writes hs) k (known hs n k)) (sym ((stands w is n low).holds k)) ((matches hs is.state.is_history).known n k)

-- the object of what is known shows it
pub shows_known : (hs : List Happening) (n : ℕ) (k : Key) (object : List Entry) → IsObjectOf (writes hs) k (known hs n k) object → ShowsKnown hs n k object
shows_known hs n k object is = record {
  siblings = object_shows (writes hs) k (known hs n k) object (ordered hs).falling is;
  context = is.context;
}

pub shows_all : (w : World) → IsWorld w → ShowWhatTheyKnow w
shows_all w is = of_told w is _ (λ n key low. holds w is n low key)

-- what is known determines what is held
pub equally : (w : World) (is : IsWorld w) (m n : ℕ) (k : Key) → m < length w.nodes → n < length w.nodes
    → ((p : ℕ) → known is.told.history m k p ≡ known is.told.history n k p) → object_at (table_at w m) k ≡ object_at (table_at w n) k
equally w is m n k low there same =
    let hs = is.told.history in
    let sets : known hs m k ≡ known hs n k = λ i p. same p i in
    one_object (writes hs) k (known hs n k) (object_at (table_at w m) k) (object_at (table_at w n) k)
    (subst (λ S. IsObjectOf (writes hs) k S (object_at (table_at w m) k)) sets (holds w is m low k)) (holds w is n there k)

-- ---- tables with equal objects are equal

found_by : (a b : Option (List Entry)) → ((o : List Entry) → a ≡ Some o → o ≢ []) → ((o : List Entry) → b ≡ Some o → o ≢ [])
    → unwrap_or a [] ≡ unwrap_or b [] → a ≡ b
found_by None None some there e = refl
found_by None (Some o) some there e = absurd (there o refl (sym e))
found_by (Some o) None some there e = absurd (some o refl e)
found_by (Some o) (Some p) some there e = ap (λ x. Some x) e

shown : (table : Table) → IsTable table → (k : Key) (o : List Entry) → find key_cmp k table ≡ Some o → o ≢ []
shown table is k o found = not_absent o (found_row k table o is.held is.keys found).held

one_table : (a b : Table) → IsTable a → IsTable b → ((k : Key) → object_at a k ≡ object_at b k) → a ≡ b
one_table a b is js same =
    same_entries key_cmp key_total same_key a b (passes (is_sorted key_cmp a) is.rising) (passes (is_sorted key_cmp b) js.rising)
    (λ k. found_by (find key_cmp k a) (find key_cmp k b) (shown a is k) (shown b js k) (same k))

pub equal_roots : (w : World) (is : IsWorld w) (m n : ℕ) → m < length w.nodes → n < length w.nodes
    → ((k : Key) (p : ℕ) → known is.told.history m k p ≡ known is.told.history n k p)
    → tree_root (rows_of (table_at w m)) ≡ tree_root (rows_of (table_at w n))
equal_roots w is m n low there same =
    ap (λ t. tree_root (rows_of t))
    (one_table (table_at w m) (table_at w n) (is.lived m (new_node m) low).held (is.lived n (new_node n) there).held
    (λ k. equally w is m n k low there (same k)))

-- ---- images

pub image_shows : (w : World) (is : IsWorld w) (n : ℕ) → n < length w.nodes → (j : ℕ) → j ≤ length (node_at w n).images → (k : Key)
    → IsObjectOf (writes is.told.history) k (image is.told.history n j k) (holdings (node_at w n).images j k)
image_shows w is n low j there k =
    let hs = is.told.history in
    subst (IsObjectOf (writes hs) k (image hs n j k)) (sym ((stands w is n low).images j there k)) ((matches hs is.state.is_history).images n j k)

pub image_count : (w : World) (is : IsWorld w) (n : ℕ) → n < length w.nodes → length (node_at w n).images ≡ (past is.told.history).last n
image_count w is n low = (stands w is n low).number ∙ same_numbers is.told.history n

-- ---- contexts

seen_at : (w : World) (is : IsWorld w) (place : ℕ) (context : Reading) → slice_get w.contexts place ≡ Some context → CountsSeen is.told (suc place) context
seen_at w is place context there =
    let hs = is.told.history in
    let pair = pair_first (IsRead hs) is.told.looks w.contexts is.state.reads place context there in
    record {
      place = pair.0;
      told_at = pair.1.0;
      looked = pair.1.1.looked;
      object = seen_object hs pair.0 context.key;
      of_seen = (matches hs is.state.is_history).seen pair.0 context.key;
      vector = pair.1.1.vector;
    }

pub counts_seen : (w : World) (is : IsWorld w) (read : ℕ) (context : Reading) → numbered w.contexts read ≡ Some context → CountsSeen is.told read context
counts_seen w is zero context there = cc
counts_seen w is (suc place) context there = seen_at w is place context there

-- ---- frames

load_of : (hs : List Happening) → IsHistory hs → (sendings : List (Option ℕ)) (t : Told) → t.history ≡ hs → (number : ℕ) (f : Frame) (k : Key) (o : List Entry) (entry : Option ℕ)
    → numbered t.sendings number ≡ Some entry → IsTold t.history f entry → carried_object f.message ≡ Some (k, o) → CarriesLoad t number f.from k o
load_of hs is sendings t same number f k o None there told carries = absurd (not_both (carried_object f.message) (k, o) told carries)
load_of hs is sendings t same number f k o (Some at) there told carries =
    let later : (told.key ≡ k) × (o ≡ sent_object t.history at told.key) = same_object (carried_object f.message) k told.key o (sent_object t.history at told.key) carries told.carries in
    let object : o ≡ sent_object t.history at k = later.1 ∙ ap (sent_object t.history at) later.0 in
    record {
      place = at;
      told_at = ap option_flatten there;
      sent = told.sent ∙ ap (λ l. Some (Sent f.from l)) later.0;
      is = subst (IsObjectOf (writes t.history) k (load t.history at k)) (sym object) ((matches t.history (subst IsHistory (sym same) is)).load at k);
    }

-- the frame of a number was told as its place says
pub frame_told : (w : World) (is : IsWorld w) (number : ℕ) (f : Frame) → IsFrameOf w number f → IsToldAs is.told number f
frame_told w is number f of = told_as is.telling.frames w.frames is.told is.telling.spelled is.state.sendings number of.bytes f of.there of.spelled

pub carries_load : (w : World) (is : IsWorld w) (number : ℕ) (f : Frame) (k : Key) (o : List Entry) → IsFrameOf w number f → carried_object f.message ≡ Some (k, o)
    → CarriesLoad is.told number f.from k o
carries_load w is number f k o of carries =
    let told = frame_told w is number f of in
    load_of is.told.history is.state.is_history is.told.sendings is.told refl number f k o told.sending told.there told.told carries

-- ---- what is lent, if it is a node's

pub images_number : (w : World) → IsWorld w → (n : ℕ) → n < length w.nodes → (images : List Image) → images ≡ (node_at w n).images
    → OfAllTold w (λ t. length images ≡ (past t.history).last n)
images_number w is n low images lent = of_told w is (λ t. length images ≡ (past t.history).last n) (ap length lent ∙ image_count w is n low)

pub images_show : (w : World) → IsWorld w → (n : ℕ) → n < length w.nodes → (images : List Image) → images ≡ (node_at w n).images
    → OfAllTold w (λ t. (number : ℕ) → number ≤ length images → (key : Key) → IsObjectOf (writes t.history) key (image t.history n number key) (holdings images number key))
images_show w is n low images lent =
    of_told w is (λ t. (number : ℕ) → number ≤ length images → (key : Key) → IsObjectOf (writes t.history) key (image t.history n number key) (holdings images number key))
    (subst (λ (all : List Image). (number : ℕ) → number ≤ length all → (key : Key) → IsObjectOf (writes is.told.history) key (image is.told.history n number key) (holdings all number key))
    (sym lent) (image_shows w is n low))

pub state_holds : (w : World) → IsWorld w → (n : ℕ) → n < length w.nodes → (state : NodeParts) → state ≡ (node_at w n).state
    → OfAllTold w (λ t. (key : Key) → IsObjectOf (writes t.history) key (known t.history n key) (object_at state.table key))
state_holds w is n low state lent =
    of_told w is (λ t. (key : Key) → IsObjectOf (writes t.history) key (known t.history n key) (object_at state.table key))
    (subst (λ (s : NodeParts). (key : Key) → IsObjectOf (writes is.told.history) key (known is.told.history n key) (object_at s.table key)) (sym lent) (holds w is n low))

pub state_shows : (w : World) → IsWorld w → (n : ℕ) → n < length w.nodes → (state : NodeParts) → state ≡ (node_at w n).state
    → OfAllTold w (λ t. (key : Key) → ShowsKnown t.history n key (object_at state.table key))
state_shows w is n low state lent =
    let shows : OfAllTold w (λ t. (key : Key) → IsObjectOf (writes t.history) key (known t.history n key) (object_at state.table key)) = state_holds w is n low state lent in
    λ t tells key. shows_known t.history n key (object_at state.table key) (shows t tells key)

pub state_life : (w : World) → IsWorld w → (n : ℕ) → n < length w.nodes → (state : NodeParts) → state ≡ (node_at w n).state
    → OfAllTold w (λ t. state.incarnation ≡ incarnation_of (past t.history) n)
state_life w is n low state lent =
    of_told w is (λ t. state.incarnation ≡ incarnation_of (past t.history) n)
    (ap (λ (s : NodeParts). s.incarnation) lent ∙ (stands w is n low).life ∙ same_lives is.told.history n)
