-- What nodes of a world hold, know and show after exchanges.
use Rattle.std.proofs.Common.{◌≡◌, ℕ, ◌<◌, true, eqb, List, ◌++◌, length, ⊎_elim, refl, sym, ap, subst}
use Rattle.std.specs.Prelude.{◌⊎◌}
use Rattle.std.proofs.lemmas.Bool.{eqb-true, or_cases}
use Rattle.meta_types.specs.Name.{Key}
use Rattle.meta_store.specs.Table.{IsTable, Table, object_at}
use Rattle.meta_store.proofs.Tables.{same_table}
use Rattle.hash_tree.specs.Tree.{rows_of, tree_root}
use Rattle.exchange.specs.Whole.{EndInUnion, Holds, Reconciled, here_after, there_after}
use Rattle.exchange.proofs.Whole.{union_whole}
use Rattle.past_model.specs.declared.happening.Happening.{Happening}
use Rattle.past_model.specs.History.{IsHistory}
use Rattle.past_model.specs.Past.{known, writes}
use Rattle.past_model.specs.Sets.{Knowledge, union_by_key}
use Rattle.past_model.specs.Shown.{IsObjectOf}
use Rattle.past_model.proofs.Entries.{one_object}
use Rattle.past_model.proofs.Order.{set_from_context}
use Rattle.past_model.proofs.Placed.{ordered}
use Rattle.past_model.proofs.Staying.{object_stays}
use Rattle.world_core.specs.Knowledge.{ShowWhatTheyKnow}
use Rattle.world_core.specs.Refusal.{table_at}
use Rattle.world_core.specs.Tells.{Tells, Told}
use Rattle.world_core.specs.World.{World}
use Rattle.agreement.specs.Rounds.{Exchange, takes_part}
use Rattle.agreement.specs.World.{CollidesIn, Exchanges, ShowTheSame}
use Rattle.agreement.proofs.Delivering.{Finished, finished, one_part, other_part}
use Rattle.agreement.proofs.Moving.{Stands}

-- ---- one exchange

module _ (hs : List Happening) (history : IsHistory hs) (count : ℕ) (e : Exchange) (old new : World) (stands : Stands e count old) (ran : Exchanges old e new) (here there : Knowledge) where
  -- the two hold the union of what they held
  pub reconciled : Holds hs here (table_at old e.one) → Holds hs there (table_at old e.other)
      → Reconciled hs here there (table_at new e.one) (table_at new e.other) ⊎ CollidesIn old e
  unfolding EndInUnion
  reconciled one other =
      let f : Finished e count new old = finished e count old new stands ran in
      let a : Table = table_at old e.one in
      let b : Table = table_at old e.other in
      let union : EndInUnion (table_at old e.one) (table_at old e.other) (here_after (table_at old e.one) (table_at old e.other)) (there_after (table_at old e.one) (table_at old e.other)) =
      union_whole (table_at old e.one) (table_at old e.other) (stands.tables e.one (one_part e) f.one) (stands.tables e.other (other_part e) f.other) in
      subst (λ t. Reconciled hs here there t (table_at new e.other) ⊎ CollidesIn old e) (sym f.ended.here_held)
      (subst (λ t. Reconciled hs here there (here_after a b) t ⊎ CollidesIn old e) (sym f.ended.there_held)
      (union hs history here there one other))

-- each of the two holds it
pub each_holds : (hs : List Happening) (e : Exchange) (w : World) (here there : Knowledge) → Reconciled hs here there (table_at w e.one) (table_at w e.other)
    → (n : ℕ) → takes_part e n ≡ true → Holds hs (union_by_key here there) (table_at w n)
each_holds hs e w here there r n part =
    ⊎_elim
    (λ one. subst (λ i. Holds hs (union_by_key here there) (table_at w i)) (sym (eqb-true n e.one one)) r.here_holds)
    (λ other. subst (λ i. Holds hs (union_by_key here there) (table_at w i)) (sym (eqb-true n e.other other)) r.there_holds)
    (or_cases (eqb n e.one) (eqb n e.other) part)

-- ---- what nodes know and show

-- the object that a node holds determines what it knows, also by a longer history
pub known_by : (hs more : List Happening) (w : World) → ShowWhatTheyKnow w → (u : Told) → Tells w.accepted w.frames u → u.history ≡ hs ++ more → (n : ℕ) → n < length w.nodes
    → (S : Knowledge) → Holds hs S (table_at w n) → (k : Key) (p : ℕ) → known u.history n k p ≡ S k p
known_by hs more w shows u tells longer n low S holds k p =
    let object : IsObjectOf (writes u.history) k (S k) (object_at (table_at w n) k) =
    subst (λ all. IsObjectOf (writes all) k (S k) (object_at (table_at w n) k)) (sym longer)
    (object_stays hs more k (S k) (object_at (table_at w n) k) (holds.each k)) in
    set_from_context (writes u.history) k (known u.history n k) (S k) (object_at (table_at w n) k) (object_at (table_at w n) k) (ordered u.history).falling
    (shows u tells n k low) object refl p

-- nodes that hold the objects of the same writes show the same
pub same_shown : (hs : List Happening) (w : World) (m n : ℕ) → IsTable (table_at w m) → IsTable (table_at w n) → (S : Knowledge)
    → Holds hs S (table_at w m) → Holds hs S (table_at w n) → ShowTheSame w m n
same_shown hs w m n table other S one also =
    let objects : (k : Key) → object_at (table_at w m) k ≡ object_at (table_at w n) k =
    λ k. one_object (writes hs) k (S k) (object_at (table_at w m) k) (object_at (table_at w n) k) (one.each k) (also.each k) in
    let tables : table_at w m ≡ table_at w n = same_table (table_at w m) (table_at w n) table other (λ k named. objects k) in
    record { objects = objects; roots = ap (λ t. tree_root (rows_of t)) tables }
