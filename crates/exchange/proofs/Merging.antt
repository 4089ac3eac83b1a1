-- What stands under a key after messages were taken, in whatever order and however often.
use Rattle.std.proofs.Common.{◌≡◌, ◌≢◌, ℕ, ◌+◌, ◌*◌, true, false, cond, List, [], ◌∷◌, map, Option, Some, None, inl, inr, ⊎_elim, refl, sym, ap, subst, ◌∙◌}
use Rattle.std.specs.Prelude.{◌⊎◌, nat_le}
use Rattle.std.specs.Option.{unwrap_or}
use Rattle.std.specs.Ordering.{is_eq}
use Rattle.std.specs.declared.cmp.Ordering.TheVariants.{Less, Equal, Greater}
use Rattle.std.specs.Cmp.{tied_itself}
use Rattle.std.specs.FinMap.{find}
use Rattle.std.specs.FinMap.Entries.{find-put}
use Rattle.meta_types.specs.Name.{Key}
use Rattle.meta_types.specs.Order.{bytes_cmp, key_cmp, prefix_cmp}
use Rattle.dvvset.specs.Object.{Entry}
use Rattle.dvvset.specs.Clock.{join, descends, sync}
use Rattle.past_model.specs.declared.happening.Happening.{Happening}
use Rattle.past_model.specs.Sets.{IsSubset, Places, union}
use Rattle.past_model.specs.Past.{writes}
use Rattle.past_model.specs.History.{IsHistory}
use Rattle.past_model.specs.Shown.{IsObjectOf}
use Rattle.past_model.proofs.Sound.{orderly}
use Rattle.past_model.proofs.Merging.{sync_object, sync-comm, sync-within}
use Rattle.past_model.proofs.Order.{descends-subset, subset_left, subset_right}
use Rattle.frame_fields.specs.Field.{key_row_parts, prefix_row_parts}
use Rattle.meta_frame.specs.declared.message.Message.{Message}
use Rattle.meta_frame.specs.declared.message.Message.TheVariants.{XRoot, XPrefixes, XInner, XLeaves, XBucket, XObject, XWant}
use Rattle.meta_store.specs.Table.{Table, is_stale, object_at, with_object}
use Rattle.meta_store.specs.Step.{merge_of, table_after_merge}
use Rattle.meta_store.proofs.Keys.{key_total, same_key}
use Rattle.meta_store.proofs.Tables.{object_at-here, object_at-elsewhere}
use Rattle.hash_tree.specs.Tree.{Digest, bucket, inner_digests, leaf_digests, prefix_roots, rows_of, tree_root}
use Rattle.hash_tree.specs.Hashed.{rows_below}
use Rattle.exchange.specs.Sides.{differing_keys, differing_places, same_digest}
use Rattle.exchange.specs.Answers.{answers_to, answer_key, bucket_message, inner_message, leaves_message, object_if_held, object_messages, want_if_listed, want_messages}
use Rattle.exchange.specs.Whole.{answers_in_turn, table_after, table_after_all}
use Rattle.exchange.proofs.Members.{In}
use Rattle.exchange.proofs.Taken.{Each, Each-append, Each-map, Each-flat_map, Each-weaker, in_front, in_back}

-- ---- one merge

-- what a merge leaves of what is held
abbrev merged : List Entry → List Entry → List Entry
merged held came = cond (descends (join held) (join came)) held (sync held came)

same_or_other : (k l : Key) → (k ≡ l) ⊎ (k ≢ l)
same_or_other k l =
    elim (key_cmp k l) as (λ r. key_cmp k l ≡ r → (k ≡ l) ⊎ (k ≢ l)) [
      | Less ↦ λ e. inr (λ same. let no : Less ≡ Equal = sym e ∙ ap (key_cmp k) (sym same) ∙ tied_itself key_total k in cc)
      | Equal ↦ λ e. inl (same_key k l e)
      | Greater ↦ λ e. inr (λ same. let no : Greater ≡ Equal = sym e ∙ ap (key_cmp k) (sym same) ∙ tied_itself key_total k in cc)
    ] refl

at_merge : (t : Table) (k : Key) (o : List Entry) → object_at (table_after_merge t k o) k ≡ merged (object_at t k) o
at_merge t k o =
    elim (is_stale t k (join o)) as (λ b. object_at (cond b t (with_object k (merge_of t k o) t)) k ≡ cond b (object_at t k) (sync (object_at t k) o)) [
      | true ↦ refl
      | false ↦ object_at-here k (merge_of t k o) t
    ]

at_other : (t : Table) (l k : Key) (o : List Entry) → k ≢ l → object_at (table_after_merge t l o) k ≡ object_at t k
at_other t l k o other =
    elim (is_stale t l (join o)) as (λ b. object_at (cond b t (with_object l (merge_of t l o) t)) k ≡ object_at t k) [
      | true ↦ refl
      | false ↦ object_at-elsewhere l (merge_of t l o) t k other
    ]

-- the table holds something under the key
abbrev pub Has : Key → Table → Type 0
Has k t = (o : List Entry) × (find key_cmp k t ≡ Some o)

has_put : (k l : Key) (o : List Entry) (t : Table) → Has k t → Has k (with_object l o t)
has_put k l o t has =
    elim (is_eq (key_cmp k l)) as (λ b. is_eq (key_cmp k l) ≡ b → Has k (with_object l o t)) [
      | true ↦ λ e. (o, find-put key_cmp key_total k l o t ∙ ap (λ b. cond b (Some o) (find key_cmp k t)) e)
      | false ↦ λ e. (has.0, find-put key_cmp key_total k l o t ∙ ap (λ b. cond b (Some o) (find key_cmp k t)) e ∙ has.1)
    ] refl

has_after : (k : Key) (t : Table) (m : Message) → Has k t → Has k (table_after t m)
unfolding table_after
has_after k t (XObject l o) has =
    elim (is_stale t l (join o)) as (λ b. Has k (cond b t (with_object l (merge_of t l o) t))) [
      | true ↦ has
      | false ↦ has_put k l (merge_of t l o) t has
    ]
has_after k t _ has = has

-- ---- messages in turn

-- what a message brings under the key is one of these
abbrev pub Carries : Key → (List Entry → Type 0) → Message → Type 0
Carries k Q (XObject l o) = l ≡ k → Q o
Carries k Q _ = Unit {0}

Carries-weaker : (k : Key) (Q R : List Entry → Type 0) → ((o : List Entry) → Q o → R o) → (m : Message) → Carries k Q m → Carries k R m
Carries-weaker k Q R weaker (XObject l o) c = λ same. weaker o (c same)
Carries-weaker k Q R weaker _ c = tt

-- one of two
abbrev pub Between : List Entry → List Entry → List Entry → Type 0
Between x u z = (z ≡ x) ⊎ (z ≡ u)

-- taking one of these leads from x to u, and stays there
pub record Absorbs (x u : List Entry) (Q : List Entry → Type 0) : Type 0 where
  pub first : (o : List Entry) → Q o → merged x o ≡ u
  pub again : (o : List Entry) → Q o → merged u o ≡ u

module _ (k : Key) (x u : List Entry) (Q : List Entry → Type 0) (absorbs : Absorbs x u Q) where
  takes : (z o : List Entry) → Between x u z → Q o → merged z o ≡ u
  takes z o at_z q = ⊎_elim (λ e. ap (λ w. merged w o) e ∙ absorbs.first o q) (λ e. ap (λ w. merged w o) e ∙ absorbs.again o q) at_z

  at_own : (t : Table) (l : Key) (o : List Entry) → k ≡ l → (l ≡ k → Q o) → Between x u (object_at t k) → object_at (table_after_merge t l o) k ≡ u
  at_own t l o same c h =
      ap (object_at (table_after_merge t l o)) same ∙ at_merge t l o
      ∙ takes (object_at t l) o (subst (λ z. Between x u (object_at t z)) same h) (c (sym same))

  own_after : (t : Table) (m : Message) (o : List Entry) → m ≡ XObject k o → Carries k Q m → Between x u (object_at t k) → object_at (table_after t m) k ≡ u
  unfolding table_after
  own_after t m o is c h =
      let q : Carries k Q (XObject k o) = subst (Carries k Q) is c in
      ap (λ n. object_at (table_after t n) k) is ∙ at_own t k o refl q h

  between_after : (t : Table) (m : Message) → Carries k Q m → Between x u (object_at t k) → Between x u (object_at (table_after t m) k)
  unfolding table_after
  between_after t (XObject l o) c h =
      ⊎_elim (λ same. inr (at_own t l o same c h)) (λ other. subst (Between x u) (sym (at_other t l k o other)) h) (same_or_other k l)
  between_after t _ c h = h

  -- taking such messages leaves what stood there, or u
  pub between_all : (ms : List Message) (t : Table) → Each (Carries k Q) ms → Between x u (object_at t k) → Between x u (object_at (table_after_all t ms) k)
  between_all [] t c h = h
  between_all (m ∷ ms) t c h = between_all ms (table_after t m) c.1 (between_after t m c.0 h)

module _ (k : Key) (x u : List Entry) (Q : List Entry → Type 0) (absorbs : Absorbs x u Q) where
  done_all : (ms : List Message) (t : Table) → Each (Carries k Q) ms → object_at t k ≡ u → object_at (table_after_all t ms) k ≡ u
  done_all ms t c h =
      let at_end : Between u u (object_at (table_after_all t ms) k) = between_all k u u Q (record { first = absorbs.again; again = absorbs.again }) ms t c (inl h) in
      ⊎_elim (λ e. e) (λ e. e) at_end

  -- once an object of the key was taken, the table is at the end
  pub taken_all : (ms : List Message) (t : Table) (o : List Entry) → Each (Carries k Q) ms → Between x u (object_at t k) → In (XObject k o) ms → object_at (table_after_all t ms) k ≡ u
  taken_all [] t o c h m = absurd m
  taken_all (n ∷ ns) t o c h m =
      ⊎_elim
      (λ here. done_all ns (table_after t n) c.1 (own_after k x u Q absorbs t n o here c.0 h))
      (λ later. taken_all ns (table_after t n) o c.1 (between_after k x u Q absorbs t n c.0 h) later)
      m

-- ---- answers

-- an object is sent as it stands
abbrev IsHonest : Table → Message → Type 0
IsHonest t (XObject k o) = find key_cmp k t ≡ Some o
IsHonest t _ = Unit {0}

honest_object : (t : Table) (k : Key) → Each (IsHonest t) (object_if_held t k)
honest_object t k =
    elim (find key_cmp k t) as (λ f. find key_cmp k t ≡ f → Each (IsHonest t) (object_messages k f)) [
      | None ↦ λ e. tt
      | Some o ↦ λ e. (e, tt)
    ] refl

honest_want : (t : Table) (k : Key) (d : Option Digest) → Each (IsHonest t) (want_messages k d)
honest_want t k None = tt
honest_want t k (Some d) = (tt, tt)

honest : (t : Table) (m : Message) → Each (IsHonest t) (answers_to t m)
unfolding answers_to
honest t (XRoot root) =
    elim (same_digest root (tree_root (rows_of t))) as (λ b. Each (IsHonest t) (cond b [] (XPrefixes (prefix_roots (rows_of t)) ∷ []))) [
      | true ↦ tt
      | false ↦ (tt, tt)
    ]
honest t (XPrefixes theirs) =
    Each-map (IsHonest t) (inner_message t) (λ p. tt) (differing_keys prefix_cmp (map prefix_row_parts theirs) (map prefix_row_parts (prefix_roots (rows_of t))))
honest t (XInner p theirs) =
    Each-map (IsHonest t) (leaves_message t p) (λ inner. tt) (differing_places theirs (inner_digests (rows_below p t)))
honest t (XLeaves p inner theirs) =
    elim (nat_le 16 inner) as (λ b. Each (IsHonest t) (cond b [] (map (λ place. bucket_message t p (16 * inner + place)) (differing_places theirs (leaf_digests (rows_below p t) inner))))) [
      | true ↦ tt
      | false ↦ Each-map (IsHonest t) (λ place. bucket_message t p (16 * inner + place)) (λ place. tt) (differing_places theirs (leaf_digests (rows_below p t) inner))
    ]
honest t (XBucket p leaf theirs) =
    let key : List ℕ → Key = λ own_bytes. record { prefix = p; key = own_bytes } in
    Each-flat_map (IsHonest t) (λ own_bytes. answer_key t theirs (record { prefix = p; key = own_bytes }))
    (λ own_bytes. Each-append (IsHonest t) (object_if_held t (key own_bytes)) (want_if_listed theirs (key own_bytes)) (honest_object t (key own_bytes)) (honest_want t (key own_bytes) (find bytes_cmp own_bytes (map key_row_parts theirs))))
    (differing_keys bytes_cmp (map key_row_parts theirs) (map key_row_parts (bucket (rows_below p t) leaf)))
honest t (XWant k) = honest_object t k
honest t _ = tt

honest_carries : (t : Table) (k : Key) (m : Message) → IsHonest t m → Carries k (λ o. o ≡ object_at t k) m
honest_carries t k (XObject l o) e = λ same. ap (λ f. unwrap_or f []) (sym e) ∙ ap (object_at t) same
honest_carries t k _ e = tt

-- all that a table answers under a key is what stands there
pub answer_carries : (t : Table) (k : Key) (m : Message) → Each (Carries k (λ o. o ≡ object_at t k)) (answers_to t m)
answer_carries t k m = Each-weaker (IsHonest t) (Carries k (λ o. o ≡ object_at t k)) (honest_carries t k) (answers_to t m) (honest t m)

-- all that is answered in turn is x or u
pub turns_carry : (k : Key) (x u : List Entry) (Q : List Entry → Type 0) → Absorbs x u Q → (ms : List Message) (t : Table) → Each (Carries k Q) ms → Between x u (object_at t k) → Each (Carries k (Between x u)) (answers_in_turn t ms)
turns_carry k x u Q absorbs [] t c h = tt
turns_carry k x u Q absorbs (m ∷ ms) t c h =
    let next : Between x u (object_at (table_after t m) k) = between_after k x u Q absorbs t m c.0 h in
    Each-append (Carries k (Between x u)) (answers_to (table_after t m) m) (answers_in_turn (table_after t m) ms)
    (Each-weaker (Carries k (λ o. o ≡ object_at (table_after t m) k)) (Carries k (Between x u))
    (Carries-weaker k (λ o. o ≡ object_at (table_after t m) k) (Between x u) (λ o e. subst (Between x u) (sym e) next))
    (answers_to (table_after t m) m) (answer_carries (table_after t m) k m))
    (turns_carry k x u Q absorbs ms (table_after t m) c.1 next)

want_answered : (k : Key) (t : Table) (m : Message) (o : List Entry) → m ≡ XWant k → find key_cmp k t ≡ Some o → In (XObject k o) (answers_to t m)
unfolding answers_to
want_answered k t m o is e =
    let at_want : In (XObject k o) (answers_to t (XWant k)) = subst (λ f. In (XObject k o) (object_messages k f)) (sym e) (inl refl) in
    subst (λ n. In (XObject k o) (answers_to t n)) (sym is) at_want

-- a want is answered by an object, once something is held
pub wants_answered : (k : Key) (ms : List Message) (t : Table) → Has k t → In (XWant k) ms → (o : List Entry) × In (XObject k o) (answers_in_turn t ms)
wants_answered k [] t has m = absurd m
wants_answered k (n ∷ ns) t has m =
    let next : Has k (table_after t n) = has_after k t n has in
    ⊎_elim
    (λ here. (next.0, in_front (XObject k next.0) (answers_to (table_after t n) n) (answers_in_turn (table_after t n) ns) (want_answered k (table_after t n) n next.0 here next.1)))
    (λ later.
    let found : (o : List Entry) × In (XObject k o) (answers_in_turn (table_after t n) ns) = wants_answered k ns (table_after t n) next later in
    (found.0, in_back (XObject k found.0) (answers_to (table_after t n) n) (answers_in_turn (table_after t n) ns) found.1))
    m

-- ---- the objects of one history

module _ (hs : List Happening) (history : IsHistory hs) (k : Key) where
  merged-sync : (A B : Places) (z o : List Entry) → IsObjectOf (writes hs) k A z → IsObjectOf (writes hs) k B o → merged z o ≡ sync z o
  merged-sync A B z o held came =
      elim (descends (join z) (join o)) as (λ b. descends (join z) (join o) ≡ b → cond b z (sync z o) ≡ sync z o) [
        | true ↦ λ stale.
            let within : IsSubset B A = (descends-subset (writes hs) k B A o z (orderly hs history).ordered.falling came held).0 stale in
            sym (sync-within (writes hs) k A B z o (orderly hs history) held came within.within)
        | false ↦ λ fresh. refl
      ] refl

  merged-within : (A B : Places) (z o : List Entry) → IsObjectOf (writes hs) k A z → IsObjectOf (writes hs) k B o → IsSubset B A → merged z o ≡ z
  merged-within A B z o held came within = merged-sync A B z o held came ∙ sync-within (writes hs) k A B z o (orderly hs history) held came within.within

module _ (hs : List Happening) (history : IsHistory hs) (k : Key) (S T : Places) (x y : List Entry) (held : IsObjectOf (writes hs) k S x) (came : IsObjectOf (writes hs) k T y) where
  -- the merge is what both know together
  pub both_object : IsObjectOf (writes hs) k (union S T) (sync x y)
  both_object = sync_object (writes hs) k S T x y (orderly hs history) held came

  -- who holds x, and takes y
  pub absorbs_theirs : Absorbs x (sync x y) (λ o. o ≡ y)
  absorbs_theirs = record {
    first = λ o e. ap (merged x) e ∙ merged-sync hs history k S T x y held came;
    again = λ o e. ap (merged (sync x y)) e ∙ merged-within hs history k (union S T) T (sync x y) y both_object came (subset_right S T);
  }

  onto_all : merged y (sync x y) ≡ sync x y
  onto_all =
      merged-sync hs history k T (union S T) y (sync x y) came both_object
      ∙ sync-comm (writes hs) k T (union S T) y (sync x y) (orderly hs history) came both_object
      ∙ sync-within (writes hs) k (union S T) T (sync x y) y (orderly hs history) both_object came (subset_right S T).within

  onto_ours : merged y x ≡ sync x y
  onto_ours = merged-sync hs history k T S y x came held ∙ sync-comm (writes hs) k T S y x (orderly hs history) came held

  all_ours : merged (sync x y) x ≡ sync x y
  all_ours = merged-within hs history k (union S T) S (sync x y) x both_object held (subset_left S T)

  all_twice : merged (sync x y) (sync x y) ≡ sync x y
  all_twice = merged-within hs history k (union S T) (union S T) (sync x y) (sync x y) both_object both_object (record { within = λ p e. e })

  -- who holds y, and takes x or what both know together
  pub absorbs_ours : Absorbs y (sync x y) (Between x (sync x y))
  absorbs_ours = record {
    first = λ o m. ⊎_elim (λ e. ap (merged y) e ∙ onto_ours) (λ e. ap (merged y) e ∙ onto_all) m;
    again = λ o m. ⊎_elim (λ e. ap (merged (sync x y)) e ∙ all_ours) (λ e. ap (merged (sync x y)) e ∙ all_twice) m;
  }

  -- if the other side holds nothing, this one holds all
  pub all_is_ours : y ≡ [] → sync x y ≡ x
  all_is_ours e = sym (merged-sync hs history k S T x y held came) ∙ ap (merged x) e

  -- if this side holds nothing, the other holds all
  pub all_is_theirs : x ≡ [] → sync x y ≡ y
  all_is_theirs e = sym onto_ours ∙ ap (merged y) e

  -- if both hold the same, each holds all
  pub all_is_same : x ≡ y → sync x y ≡ x
  all_is_same e =
      ap (sync x) (sym e)
      ∙ sync-within (writes hs) k S S x x (orderly hs history) held held (λ p h. h)
