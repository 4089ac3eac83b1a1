-- If a node stands where a history left it, then after one more happening it stands where that
-- leaves it.
use Rattle.std.proofs.Common.{◌≡◌, ◌≢◌, ℕ, ◌+◌, ◌<◌, ◌≤◌, Bool, true, false, cond, List, [], ◌∷◌, ◌++◌, length, Option, Some, None, refl, sym, ap, subst, ◌∙◌, arith, leb}
use Rattle.std.specs.Prelude.{slice_get}
use Rattle.std.specs.Option.{unwrap_or}
use Rattle.std.specs.FinMap.{find}
use Rattle.std.proofs.lemmas.Bool.{leb-true, leb-false}
use Rattle.std.proofs.lemmas.List.{length-append}
use Rattle.meta_types.specs.Name.{Key}
use Rattle.meta_types.specs.Value.{ValueParts}
use Rattle.meta_types.specs.Order.{key_cmp}
use Rattle.dvvset.proofs.Merging.{sync-nil}
use Rattle.dvvset.specs.Object.{Entry}
use Rattle.dvvset.specs.Clock.{descends, join, sync, update}
use Rattle.past_model.specs.declared.happening.Happening.{Happening}
use Rattle.past_model.specs.declared.happening.Happening.TheVariants.{Wrote, Looked, Sent, Got, Kept, Restarted}
use Rattle.meta_types.specs.Equal.{key_eq}
use Rattle.past_model.specs.History.{IsHistory}
use Rattle.past_model.proofs.Keys.{key_eq-true, key_eq-self}
use Rattle.meta_store.specs.Context.{Reading, vector_read}
use Rattle.meta_store.specs.Table.{Table, is_stale, object_at, with_object}
use Rattle.meta_store.specs.Step.{table_after_merge, merge_of, object_after_put}
use Rattle.meta_store.proofs.Tables.{object_at-elsewhere, object_at-here}
use Rattle.past_model.specs.Objects.{held_object, image_object, incarnation, last_image, object_of_read, sent_object, standing_object, next_writer}
use Rattle.past_model.specs.ObjectLaws.{MakesImage}
use Rattle.restart_images.specs.Images.{change_of, changed, holdings}
use Rattle.restart_images.specs.Keeping.{Keeping, IsRestorable, change_at}
use Rattle.restart_images.proofs.Keepings.{with_image, with_kept, with_merge, with_restart, with_write}
use Rattle.restart_images.specs.Follows.{FollowsHistory}
use Rattle.past_model.proofs.Changes.{after_write, after_look, after_sending, after_delivery, after_keeping, after_restart}
use Rattle.past_model.proofs.Deliveries.{stale_unchanged}
use Rattle.past_model.proofs.Standing.{sent_under}
use Rattle.restart_images.proofs.Noding.{reads_before, reads_new}

-- ---- if nothing changes for the node

same : (hs more : List Happening) (n : ℕ) (node : Keeping) → FollowsHistory hs n node → ((k : Key) → held_object more n k ≡ held_object hs n k) → last_image more n ≡ last_image hs n
    → ((j : ℕ) (k : Key) → image_object more n j k ≡ image_object hs n j k) → ((k : Key) → standing_object more n k ≡ standing_object hs n k) → incarnation more n ≡ incarnation hs n → FollowsHistory more n node
same hs more n node f holds number images standing life = record {
  holds = λ k. f.holds k ∙ sym (holds k);
  number = f.number ∙ sym number;
  images = λ j low k. f.images j low k ∙ sym (images j k);
  standing = λ k. f.standing k ∙ sym (standing k);
  life = f.life ∙ sym life;
}

-- reading and sending change no node
pub follows_look : (hs : List Happening) (m : ℕ) (k : Key) (n : ℕ) (node : Keeping) → FollowsHistory hs n node → FollowsHistory (hs ++ Looked m k ∷ []) n node
follows_look hs m k n node f =
    let a = after_look hs m k in
    same hs (hs ++ Looked m k ∷ []) n node f (a.holds.same n) (a.image.numbers n) (λ j. (a.image.images n).same j) (a.standing.same n) (a.lives.same n)

pub follows_sending : (hs : List Happening) (m : ℕ) (k : Key) (n : ℕ) (node : Keeping) → FollowsHistory hs n node → FollowsHistory (hs ++ Sent m k ∷ []) n node
follows_sending hs m k n node f =
    let a = after_sending hs m k in
    same hs (hs ++ Sent m k ∷ []) n node f (a.holds.same n) (a.image.numbers n) (λ j. (a.image.images n).same j) (a.standing.same n) (a.lives.same n)

-- the rest change one node
pub write_elsewhere : (hs : List Happening) (m : ℕ) (k : Key) (v : ValueParts) (r : Option ℕ) (n : ℕ) (node : Keeping) → n ≢ m → FollowsHistory hs n node → FollowsHistory (hs ++ Wrote m k v r ∷ []) n node
write_elsewhere hs m k v r n node ne f =
    let a = after_write hs m k v r in
    same hs (hs ++ Wrote m k v r ∷ []) n node f (a.holds.elsewhere n ne) (a.image.other_numbers n ne) (λ j. (a.image.other_images n ne).same j) (a.image.standing.elsewhere n ne) (a.lives.same n)

pub keeping_elsewhere : (hs : List Happening) (m : ℕ) (k : Key) (n : ℕ) (node : Keeping) → n ≢ m → FollowsHistory hs n node → FollowsHistory (hs ++ Kept m k ∷ []) n node
keeping_elsewhere hs m k n node ne f =
    let a = after_keeping hs m k in
    same hs (hs ++ Kept m k ∷ []) n node f (a.holds.same n) (a.image.other_numbers n ne) (λ j. (a.image.other_images n ne).same j) (a.image.standing.elsewhere n ne) (a.lives.same n)

pub delivery_elsewhere : (hs : List Happening) (m i n : ℕ) (node : Keeping) → n ≢ m → FollowsHistory hs n node → FollowsHistory (hs ++ Got m i ∷ []) n node
delivery_elsewhere hs m i n node ne f =
    let a = after_delivery hs m i in
    same hs (hs ++ Got m i ∷ []) n node f (a.holds.elsewhere n ne) (a.image.numbers n) (λ j. (a.image.images n).same j) (a.standing.same n) (a.lives.same n)

pub restart_elsewhere : (hs : List Happening) (m j n : ℕ) (node : Keeping) → n ≢ m → FollowsHistory hs n node → FollowsHistory (hs ++ Restarted m j ∷ []) n node
restart_elsewhere hs m j n node ne f =
    let a = after_restart hs m j in
    same hs (hs ++ Restarted m j ∷ []) n node f (a.holds.elsewhere n ne) (a.image.numbers n) (λ i. (a.image.images n).same i) (a.standing.elsewhere n ne) (a.lives.others n ne)

-- ---- one image more

absent_from : (o : List Entry) → (o ≢ [] → ⊥) → o ≡ []
absent_from [] never = refl
absent_from (e ∷ es) never = absurd (never (λ is. cc))

-- the new image, under the key and under others
image_here_by : (node : Keeping) (table : Table) (k : Key) → IsRestorable node → ((l : Key) → object_at node.table l ≢ [] → object_at table l ≢ []) → (found : Option (List Entry)) → find key_cmp k table ≡ found
    → changed (holdings node.images node.standing) (change_of k found) k ≡ object_at table k
image_here_by node table k is more None e =
    let gone : object_at table k ≡ [] = ap (λ o. unwrap_or o []) e in
    absent_from (holdings node.images node.standing k) (λ some. more k (is.within k some) gone) ∙ sym gone
image_here_by node table k is more (Some o) e =
    ap (λ b. cond b o (holdings node.images node.standing k)) (key_eq-self k) ∙ sym (ap (λ x. unwrap_or x []) e)

image_other_by : (node : Keeping) (k l : Key) → l ≢ k → (found : Option (List Entry)) (b : Bool) → key_eq l k ≡ b → changed (holdings node.images node.standing) (change_of k found) l ≡ holdings node.images node.standing l
image_other_by node k l ne None b e = refl
image_other_by node k l ne (Some o) true e = absurd (ne (key_eq-true l k e))
image_other_by node k l ne (Some o) false e = ap (λ b. cond b o (holdings node.images node.standing l)) e

-- the image that the machine makes
record Imaged (hs more : List Happening) (n : ℕ) (k : Key) (node : Keeping) (table : Table) : Type 0 where
  is : IsRestorable node
  grows : (l : Key) → object_at node.table l ≢ [] → object_at table l ≢ []
  before : FollowsHistory hs n node
  now : (l : Key) → object_at table l ≡ held_object more n l
  life : incarnation more n ≡ incarnation hs n

new_image_by : (hs : List Happening) (h : Happening) (n : ℕ) (k : Key) (node : Keeping) (table : Table) → MakesImage hs h n k → Imaged hs (hs ++ h ∷ []) n k node table → (l : Key) (b : Bool) → key_eq l k ≡ b
    → changed (holdings node.images node.standing) (change_at table k) l ≡ image_object (hs ++ h ∷ []) n (last_image hs n + 1) l
new_image_by hs h n k node table made i l true e =
    let same : l ≡ k = key_eq-true l k e in
    subst (λ m. changed (holdings node.images node.standing) (change_at table k) m ≡ image_object (hs ++ h ∷ []) n (last_image hs n + 1) m) (sym same)
    (image_here_by node table k i.is i.grows (find key_cmp k table) refl ∙ i.now k ∙ sym made.image.here)
new_image_by hs h n k node table made i l false e =
    let ne : l ≢ k = λ same. let t : key_eq l k ≡ true = ap (λ m. key_eq l m) (sym same) ∙ key_eq-self l in let no : true ≡ false = sym t ∙ e in cc in
    image_other_by node k l ne (find key_cmp k table) (key_eq l k) refl ∙ i.before.standing l ∙ sym (made.image.other_keys l ne)

new_image : (hs : List Happening) (h : Happening) (n : ℕ) (k : Key) (node : Keeping) (table : Table) → MakesImage hs h n k → Imaged hs (hs ++ h ∷ []) n k node table → (l : Key)
    → holdings (with_image table k node).images (length node.images + 1) l ≡ image_object (hs ++ h ∷ []) n (last_image hs n + 1) l
new_image hs h n k node table made i l =
    ap (λ there. there l) (reads_new node.images (record { base = node.standing; change = change_at table k }))
    ∙ new_image_by hs h n k node table made i l (key_eq l k) refl

images_by : (hs : List Happening) (h : Happening) (n : ℕ) (k : Key) (node : Keeping) (table : Table) → MakesImage hs h n k → Imaged hs (hs ++ h ∷ []) n k node table → (j : ℕ) (b : Bool) → leb j (length node.images) ≡ b
    → j ≤ length node.images + 1 → (l : Key) → holdings (with_image table k node).images j l ≡ image_object (hs ++ h ∷ []) n j l
images_by hs h n k node table made i j true e low l =
    let within : j ≤ length node.images = leb-true j (length node.images) e in
    ap (λ there. there l) (reads_before node.images (record { base = node.standing; change = change_at table k }) j within)
    ∙ i.before.images j within l
    ∙ sym (made.image.elsewhere j (λ is. let last : length node.images ≡ last_image hs n = i.before.number in absurd (omega (arith, within, is, last))) l)
images_by hs h n k node table made i j false e low l =
    let above : length node.images < j = leb-false j (length node.images) e in
    let last : length node.images + 1 ≡ j = omega (arith, above, low) in
    let same : last_image hs n + 1 ≡ j = ap (λ m. m + 1) (sym i.before.number) ∙ last in
    ap (λ m. holdings (with_image table k node).images m l) (sym last)
    ∙ new_image hs h n k node table made i l
    ∙ ap (λ m. image_object (hs ++ h ∷ []) n m l) same

imaged : (hs : List Happening) (h : Happening) (n : ℕ) (k : Key) (node : Keeping) (table : Table) → MakesImage hs h n k → Imaged hs (hs ++ h ∷ []) n k node table → FollowsHistory (hs ++ h ∷ []) n (with_image table k node)
imaged hs h n k node table made i =
    let long : length (with_image table k node).images ≡ length node.images + 1 = length-append node.images ((record { base = node.standing; change = change_at table k }) ∷ []) in
    record {
      holds = i.now;
      number = long ∙ ap (λ m. m + 1) i.before.number ∙ sym made.number;
      images = λ j low l. images_by hs h n k node table made i j (leb j (length node.images)) refl (omega (arith, low, long)) l;
      standing = λ l. new_image hs h n k node table made i l ∙ sym (made.standing.here l);
      life = i.before.life ∙ sym i.life;
    }

-- ---- the four changes of a node

write_by : (hs : List Happening) (n w : ℕ) (k : Key) (v : ValueParts) (r : Option ℕ) (context : Option Reading) (node : Keeping) → w ≡ next_writer hs n → FollowsHistory hs n node → vector_read context ≡ join (object_of_read hs k r)
    → (l : Key) (b : Bool) → key_eq l k ≡ b → object_at (with_object k (object_after_put node.table w k v context) node.table) l ≡ held_object (hs ++ Wrote n k v r ∷ []) n l
write_by hs n w k v r context node by f read l true e =
    let a = after_write hs n k v r in
    subst (λ m. object_at (with_object k (object_after_put node.table w k v context) node.table) m ≡ held_object (hs ++ Wrote n k v r ∷ []) n m) (sym (key_eq-true l k e))
    (object_at-here k (object_after_put node.table w k v context) node.table
    ∙ ap (λ vector. update vector (object_at node.table k) w v) read
    ∙ ap (λ o. update (join (object_of_read hs k r)) o w v) (f.holds k)
    ∙ ap (λ x. update (join (object_of_read hs k r)) (held_object hs n k) x v) by
    ∙ sym a.holds.here)
write_by hs n w k v r context node by f read l false e =
    let a = after_write hs n k v r in
    let ne : l ≢ k = λ same. let t : key_eq l k ≡ true = ap (λ m. key_eq l m) (sym same) ∙ key_eq-self l in let no : true ≡ false = sym t ∙ e in cc in
    object_at-elsewhere k (object_after_put node.table w k v context) node.table l ne ∙ f.holds l ∙ sym (a.holds.other_keys l ne)

-- a write with a context of what the Looked at place r saw
pub follows_write : (hs : List Happening) (n w : ℕ) (k : Key) (v : ValueParts) (r : Option ℕ) (context : Option Reading) (node : Keeping) → w ≡ next_writer hs n → IsRestorable node
    → ((l : Key) → object_at node.table l ≢ [] → object_at (with_object k (object_after_put node.table w k v context) node.table) l ≢ [])
    → FollowsHistory hs n node → vector_read context ≡ join (object_of_read hs k r) → FollowsHistory (hs ++ Wrote n k v r ∷ []) n (with_write w k v context node)
follows_write hs n w k v r context node by is grows f read =
    imaged hs (Wrote n k v r) n k node (with_object k (object_after_put node.table w k v context) node.table) (after_write hs n k v r).image
    (record { is = is; grows = grows; before = f; now = λ l. write_by hs n w k v r context node by f read l (key_eq l k) refl; life = (after_write hs n k v r).lives.same n })

pub follows_keep : (hs : List Happening) (n : ℕ) (k : Key) (node : Keeping) → IsRestorable node → FollowsHistory hs n node → FollowsHistory (hs ++ Kept n k ∷ []) n (with_kept k node)
follows_keep hs n k node is f =
    let a = after_keeping hs n k in
    imaged hs (Kept n k) n k node node.table a.image (record { is = is; grows = λ l some. some; before = f; now = λ l. f.holds l ∙ sym (a.holds.same n l); life = a.lives.same n })

pub follows_restart : (hs : List Happening) (n j : ℕ) (node : Keeping) (table : Table) → FollowsHistory hs n node → j ≤ length node.images → ((k : Key) → object_at table k ≡ holdings node.images j k)
    → FollowsHistory (hs ++ Restarted n j ∷ []) n (with_restart table j node)
follows_restart hs n j node table f low restored =
    let a = after_restart hs n j in
    record {
      holds = λ k. restored k ∙ f.images j low k ∙ sym (a.holds.here k);
      number = f.number ∙ sym (a.image.numbers n);
      images = λ i within k. f.images i within k ∙ sym ((a.image.images n).same i k);
      standing = λ k. f.images j low k ∙ sym (a.standing.here k);
      life = ap (λ i. i + 1) f.life ∙ sym a.lives.next;
    }

-- ---- a delivery

take_here_by : (hs : List Happening) (n i : ℕ) (k : Key) (came : List Entry) (node : Keeping) → IsHistory hs → FollowsHistory hs n node → came ≡ sent_object hs i k
    → (b : Bool) → is_stale node.table k (join came) ≡ b → object_at (cond b node.table (with_object k (merge_of node.table k came) node.table)) k ≡ sync (held_object hs n k) (sent_object hs i k)
take_here_by hs n i k came node history f is true stale =
    f.holds k
    ∙ sym (stale_unchanged hs history n i k (ap (λ o. descends (join o) (join (sent_object hs i k))) (sym (f.holds k)) ∙ ap (λ c. descends (join (object_at node.table k)) (join c)) (sym is) ∙ stale))
take_here_by hs n i k came node history f is false fresh =
    object_at-here k (merge_of node.table k came) node.table ∙ ap (λ o. sync o came) (f.holds k) ∙ ap (λ c. sync (held_object hs n k) c) is

take_there_by : (node : Keeping) (k l : Key) (came : List Entry) → l ≢ k → (b : Bool) → object_at (cond b node.table (with_object k (merge_of node.table k came) node.table)) l ≡ object_at node.table l
take_there_by node k l came ne true = refl
take_there_by node k l came ne false = object_at-elsewhere k (merge_of node.table k came) node.table l ne

take_by : (hs : List Happening) (n i m : ℕ) (k : Key) (came : List Entry) (node : Keeping) → IsHistory hs → FollowsHistory hs n node → slice_get hs i ≡ Some (Sent m k) → came ≡ sent_object hs i k
    → (l : Key) (b : Bool) → key_eq l k ≡ b → object_at (table_after_merge node.table k came) l ≡ held_object (hs ++ Got n i ∷ []) n l
take_by hs n i m k came node history f at is l true e =
    let a = after_delivery hs n i in
    subst (λ j. object_at (table_after_merge node.table k came) j ≡ held_object (hs ++ Got n i ∷ []) n j) (sym (key_eq-true l k e))
    (take_here_by hs n i k came node history f is (is_stale node.table k (join came)) refl ∙ sym (a.holds.here k))
take_by hs n i m k came node history f at is l false e =
    let a = after_delivery hs n i in
    let ne : l ≢ k = λ same. let t : key_eq l k ≡ true = ap (λ j. key_eq l j) (sym same) ∙ key_eq-self l in let no : true ≡ false = sym t ∙ e in cc in
    take_there_by node k l came ne (is_stale node.table k (join came))
    ∙ f.holds l
    ∙ sym (sync-nil (held_object hs n l))
    ∙ ap (λ c. sync (held_object hs n l) c) (sym (sent_under hs i m k l at ne))
    ∙ sym (a.holds.here l)

-- what the Sent at place i has sent was taken, stale or fresh
pub follows_take : (hs : List Happening) (n i m : ℕ) (k : Key) (came : List Entry) (node : Keeping) → IsHistory hs → FollowsHistory hs n node → slice_get hs i ≡ Some (Sent m k) → came ≡ sent_object hs i k
    → FollowsHistory (hs ++ Got n i ∷ []) n (with_merge k came node)
follows_take hs n i m k came node history f at is =
    let a = after_delivery hs n i in
    record {
      holds = λ l. take_by hs n i m k came node history f at is l (key_eq l k) refl;
      number = f.number ∙ sym (a.image.numbers n);
      images = λ j within l. f.images j within l ∙ sym ((a.image.images n).same j l);
      standing = λ l. f.standing l ∙ sym (a.standing.same n l);
      life = f.life ∙ sym (a.lives.same n);
    }
