-- What each change of a node keeps.
use Rattle.std.proofs.Common.{◌≡◌, ◌≢◌, ℕ, ◌+◌, ◌<◌, ◌≤◌, Bool, true, false, cond, List, [], ◌∷◌, ◌++◌, length, get_or, Option, Some, None, is_some, refl, sym, ap, subst, ◌∙◌, arith, leb, ltb}
use Rattle.std.specs.Option.{unwrap_or}
use Rattle.std.specs.Ordering.{is_eq}
use Rattle.std.specs.Cmp.{tied_itself}
use Rattle.std.specs.FinMap.{find}
use Rattle.std.specs.FinMap.Entries.{find-put}
use Rattle.std.proofs.lemmas.Bool.{leb-true, leb-false, ltb-true, ltb-false}
use Rattle.std.proofs.lemmas.List.{length-append, get_or_append_left, get_or_push}
use Rattle.std.proofs.lemmas.List.Elements.{All-nil}
use Rattle.meta_types.specs.Name.{Key, IsKey}
use Rattle.meta_types.specs.Order.{key_cmp}
use Rattle.dvvset.specs.Object.{Entry}
use Rattle.dvvset.specs.Clock.{join, sync}
use Rattle.meta_types.specs.Equal.{key_eq}
use Rattle.past_model.proofs.Keys.{key_eq-true, key_eq-self}
use Rattle.past_model.proofs.Sound.{set_at-here}
use Rattle.past_model.proofs.Walking.{set_at-other}
use Rattle.meta_store.specs.Table.{Table, IsHeld, IsTable, is_stale, object_at, with_object}
use Rattle.meta_store.specs.Step.{table_after_merge}
use Rattle.meta_store.proofs.Keys.{key_total}
use Rattle.meta_store.proofs.Tables.{found_row, not_absent, object_at-elsewhere, object_at-here, table_put}
use Rattle.past_model.specs.Objects.{Holding}
use Rattle.restart_images.specs.Images.{Image, ChangeEarlier, IsTabled, change_of, changed, holdings}
use Rattle.restart_images.specs.Keeping.{Keeping, IsRestorable, change_at, most_incarnation}
use Rattle.restart_images.proofs.Keepings.{new_keeping, with_image, with_restart}
use Rattle.restart_images.proofs.Bounded.{KeysWithin, found_from, room_within, shown_from}
use Rattle.restart_images.proofs.Chains.{holdings_snoc, none}

-- ---- one more image

-- earlier images read as before, and the new one as its base with its change
pub reads_before : (images : List Image) (image : Image) (number : ℕ) → number ≤ length images → holdings (images ++ image ∷ []) number ≡ holdings images number
reads_before images image number low =
    ap (λ h. h number) (holdings_snoc images image)
    ∙ set_at-other (holdings images) (length images + 1) number (changed (holdings images image.base) image.change) (λ e. let no : length images + 1 ≡ number = e in absurd (omega (arith, low, no)))

pub reads_new : (images : List Image) (image : Image) → holdings (images ++ image ∷ []) (length images + 1) ≡ changed (holdings images image.base) image.change
reads_new images image =
    ap (λ h. h (length images + 1)) (holdings_snoc images image)
    ∙ set_at-here (holdings images) (length images + 1) (changed (holdings images image.base) image.change)

earlier_by : (images : List Image) (image : Image) → ChangeEarlier images → image.base ≤ length images → (at : ℕ) (d : Image) (b : Bool) → ltb at (length images) ≡ b → at < length (images ++ image ∷ [])
    → (get_or (images ++ image ∷ []) at d).base ≤ at
earlier_by images image earlier base at d true e low =
    let less : at < length images = ltb-true at (length images) e in
    subst (λ x. x.base ≤ at) (sym (get_or_append_left images (image ∷ []) d at less)) (earlier.earlier at d less)
earlier_by images image earlier base at d false e low =
    let more : length images ≤ at = ltb-false at (length images) e in
    let longer : length (images ++ image ∷ []) ≡ length images + 1 = length-append images (image ∷ []) in
    let same : length images ≡ at = omega (arith, more, longer, low) in
    let there : get_or (images ++ image ∷ []) at d ≡ image = get_or_push images image d at same in
    let up : image.base ≤ at = omega (arith, base, same) in
    subst (λ x. x.base ≤ at) (sym there) up

pub earlier_snoc : (images : List Image) (image : Image) → ChangeEarlier images → image.base ≤ length images → ChangeEarlier (images ++ image ∷ [])
earlier_snoc images image earlier base = record { earlier = λ at d low. earlier_by images image earlier base at d (ltb at (length images)) refl low }

-- a table with one object more has what the image with that change has
with_object_reads : (table : Table) (key : Key) (o : List Entry) (there : Holding) → ((k : Key) → object_at table k ≡ there k) → (k : Key) (b : Bool) → key_eq k key ≡ b
    → object_at (with_object key o table) k ≡ cond b o (there k)
with_object_reads table key o there same k true e = ap (object_at (with_object key o table)) (key_eq-true k key e) ∙ object_at-here key o table
with_object_reads table key o there same k false e =
    object_at-elsewhere key o table k (λ is. let t : key_eq k key ≡ true = ap (λ l. key_eq k l) (sym is) ∙ key_eq-self k in let no : true ≡ false = sym t ∙ e in cc) ∙ same k

-- what the standing image has, the table after a change has
record Grows (node : Keeping) (table : Table) : Type 0 where
  is_table : IsTable table
  more : (k : Key) → object_at node.table k ≢ [] → object_at table k ≢ []

tabled_by : (node : Keeping) (table : Table) (key : Key) → IsRestorable node → Grows node table → (found : Option (List Entry)) → find key_cmp key table ≡ found
    → IsTabled (changed (holdings node.images node.standing) (change_of key found))
tabled_by node table key is g None e = is.tabled node.standing is.standing
tabled_by node table key is g (Some o) e =
    let stood = is.tabled node.standing is.standing in
    let row = found_row key table o g.is_table.held g.is_table.keys e in
    let within : KeysWithin stood.table table = record {
      within = λ k some.
          found_from k table (g.more k (is.within k (λ nothing. shown_from k stood.table stood.is_table some (stood.same k ∙ nothing))));
    } in
    let here : is_some (find key_cmp key table) ≡ true = ap is_some e in
    record {
      table = with_object key o stood.table;
      is_table = table_put key o stood.table stood.is_table row.key row.held (room_within key stood.table table stood.is_table g.is_table within here);
      same = λ k. with_object_reads stood.table key o (holdings node.images node.standing) stood.same k (key_eq k key) refl;
    }

within_by : (node : Keeping) (table : Table) (key : Key) → IsRestorable node → Grows node table → (found : Option (List Entry)) → find key_cmp key table ≡ found
    → (k : Key) (b : Bool) → key_eq k key ≡ b → changed (holdings node.images node.standing) (change_of key found) k ≢ [] → object_at table k ≢ []
within_by node table key is g None e k b same some = g.more k (is.within k some)
within_by node table key is g (Some o) e k true same some =
    let here : object_at table k ≡ o = ap (object_at table) (key_eq-true k key same) ∙ ap (λ x. unwrap_or x []) e in
    let now : changed (holdings node.images node.standing) (Some (key, o)) k ≡ o = ap (λ b. cond b o (holdings node.images node.standing k)) same in
    λ nothing. some (now ∙ sym here ∙ nothing)
within_by node table key is g (Some o) e k false same some =
    let now : changed (holdings node.images node.standing) (Some (key, o)) k ≡ holdings node.images node.standing k = ap (λ b. cond b o (holdings node.images node.standing k)) same in
    g.more k (is.within k (λ nothing. some (now ∙ nothing)))

tabled_at : (images : List Image) (image : Image) → ((number : ℕ) → number ≤ length images → IsTabled (holdings images number)) → IsTabled (changed (holdings images image.base) image.change)
    → (number : ℕ) (b : Bool) → leb number (length images) ≡ b → number ≤ length (images ++ image ∷ []) → IsTabled (holdings (images ++ image ∷ []) number)
tabled_at images image all new number true e low = subst IsTabled (sym (reads_before images image number (leb-true number (length images) e))) (all number (leb-true number (length images) e))
tabled_at images image all new number false e low =
    let more : length images < number = leb-false number (length images) e in
    let longer : length (images ++ image ∷ []) ≡ length images + 1 = length-append images (image ∷ []) in
    let same : length images + 1 ≡ number = omega (arith, more, longer, low) in
    subst (λ n. IsTabled (holdings (images ++ image ∷ []) n)) same (subst IsTabled (sym (reads_new images image)) new)

-- a node with a table that shows at least as many keys, and one image more
pub is_node-image : (node : Keeping) (table : Table) (key : Key) → IsRestorable node → IsTable table → ((k : Key) → object_at node.table k ≢ [] → object_at table k ≢ []) → IsRestorable (with_image table key node)
is_node-image node table key is is_table more =
    let image : Image = record { base = node.standing; change = change_at table key } in
    let g : Grows node table = record { is_table = is_table; more = more } in
    let longer : length (node.images ++ image ∷ []) ≡ length node.images + 1 = length-append node.images (image ∷ []) in
    record {
      earlier = earlier_snoc node.images image is.earlier is.standing;
      lives = is.lives;
      standing = omega (arith, longer);
      tabled = λ number low. tabled_at node.images image is.tabled (tabled_by node table key is g (find key_cmp key table) refl) number (leb number (length node.images)) refl low;
      within = λ k some.
          within_by node table key is g (find key_cmp key table) refl k (key_eq k key) refl
          (λ nothing. some (ap (λ h. h k) (reads_new node.images image) ∙ nothing));
    }

-- a table that shows at least as many keys, and the images as they were
pub is_node-table : (node : Keeping) (table : Table) → IsRestorable node → ((k : Key) → object_at node.table k ≢ [] → object_at table k ≢ []) → IsRestorable (record node { table = table })
is_node-table node table is more = record {
  lives = is.lives;
  earlier = is.earlier;
  standing = is.standing;
  tabled = is.tabled;
  within = λ k some. more k (is.within k some);
}

-- the table of an image
pub is_node-restart : (node : Keeping) (table : Table) (number : ℕ) → IsRestorable node → number ≤ length node.images → node.incarnation < most_incarnation → ((k : Key) → object_at table k ≡ holdings node.images number k)
    → IsRestorable (with_restart table number node)
is_node-restart node table number is low left same = record {
  lives = omega (arith, left);
  earlier = is.earlier;
  standing = low;
  tabled = is.tabled;
  within = λ k some nothing. some (sym (same k) ∙ nothing);
}

-- ---- what is held after a call

-- the object that was put is the change under its key
pub change_at-put : (table : Table) (key : Key) (o : List Entry) → change_at (with_object key o table) key ≡ Some (key, o)
change_at-put table key o =
    ap (change_of key)
    (find-put key_cmp key_total key key o table ∙ ap (λ c. cond (is_eq c) (Some o) (find key_cmp key table)) (tied_itself key_total key))

put_grows_by : (table : Table) (key : Key) (o : List Entry) → (o ≡ [] → ⊥) → (k : Key) (b : Bool) → key_eq k key ≡ b → object_at table k ≢ [] → object_at (with_object key o table) k ≢ []
put_grows_by table key o is k true e some nothing = is (sym (object_at-here key o table) ∙ ap (object_at (with_object key o table)) (sym (key_eq-true k key e)) ∙ nothing)
put_grows_by table key o is k false e some nothing =
    some (sym (object_at-elsewhere key o table k (λ same. let t : key_eq k key ≡ true = ap (λ l. key_eq k l) (sym same) ∙ key_eq-self k in let no : true ≡ false = sym t ∙ e in cc)) ∙ nothing)

-- a table with an object put shows at least as many keys
pub put_grows : (table : Table) (key : Key) (o : List Entry) → IsHeld o → (k : Key) → object_at table k ≢ [] → object_at (with_object key o table) k ≢ []
put_grows table key o is k = put_grows_by table key o (not_absent o is) k (key_eq k key) refl

-- the object that is there in a table that rises may be held
pub held_at : (table : Table) (key : Key) (o : List Entry) → IsTable (with_object key o table) → IsHeld o
held_at table key o is =
    (found_row key (with_object key o table) o is.held is.keys
    (find-put key_cmp key_total key key o table ∙ ap (λ c. cond (is_eq c) (Some o) (find key_cmp key table)) (tied_itself key_total key))).held

merge_grows_by : (table : Table) (key : Key) (came : List Entry) (b : Bool) → IsTable (cond b table (with_object key (sync (object_at table key) came) table))
    → (k : Key) → object_at table k ≢ [] → object_at (cond b table (with_object key (sync (object_at table key) came) table)) k ≢ []
merge_grows_by table key came true is k some = some
merge_grows_by table key came false is k some = put_grows table key (sync (object_at table key) came) (held_at table key (sync (object_at table key) came) is) k some

pub merge_grows : (table : Table) (key : Key) (came : List Entry) → IsTable (table_after_merge table key came) → (k : Key) → object_at table k ≢ [] → object_at (table_after_merge table key came) k ≢ []
merge_grows table key came is = merge_grows_by table key came (is_stale table key (join came)) is

-- ---- the node after a call
