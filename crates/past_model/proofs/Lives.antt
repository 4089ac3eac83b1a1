-- The writers of a past: whose they are, and in which life.
use Rattle.std.proofs.Common.{◌≡◌, ℕ, ◌+◌, ◌<◌, ◌≤◌, true, false, cond, eqb, sym, ap, refl, ◌∙◌, arith, ⊎_elim}
use Rattle.std.proofs.lemmas.Bool.{eqb-true}
use Rattle.meta_types.specs.Actor.{incarnations, writer_number}
use Rattle.past_model.specs.declared.happening.Happening.{Happening}
use Rattle.past_model.specs.declared.happening.Happening.TheVariants.{Wrote, Looked, Sent, Got, Kept, Restarted}
use Rattle.past_model.specs.Past.{Past, Write, In, start, happens, writer_of}
use Rattle.past_model.specs.History.{most_restarts}

-- a writer is of one node and one life
pub writer_number-parts : (n m i j : ℕ) → i < incarnations → j < incarnations → writer_number n i ≡ writer_number m j → (n ≡ m) × (i ≡ j)
writer_number-parts n m i j a b e = (omega (arith, a, b, e), omega (arith, a, b, e))

-- it is that of a node in a life that has begun
pub record IsOfLife (restarts : ℕ → ℕ) (w : ℕ) : Type 0 where
  pub node : ℕ
  pub life : ℕ
  pub writer : w ≡ writer_number node life
  pub begun : life ≤ restarts node + 1

-- the same of a node in range, and the life is at least the first
pub record IsLifeOfNode (restarts : ℕ → ℕ) (w : ℕ) : Type 0 where
  pub node : ℕ
  pub life : ℕ
  pub writer : w ≡ writer_number node life
  pub in_range : node < 16
  pub least : 1 ≤ life
  pub begun : life ≤ restarts node + 1

pub record Lives (s : Past) : Type 0 where
  pub few : (n : ℕ) → s.restarts n ≤ most_restarts
  pub of_life : (x : Write) → In x s.writes → IsOfLife s.restarts x.writer

-- what is asked of a happening: a node that restarts has a number left
pub record IsLawful (s : Past) (h : Happening) : Type 0 where
  pub restart : (n j : ℕ) → h ≡ Restarted n j → s.restarts n < most_restarts

-- two nodes are never the same writer
pub writer_of-node : (s : Past) → Lives s → (n m : ℕ) → writer_of s n ≡ writer_of s m → n ≡ m
writer_of-node s lives n m e =
    let a : s.restarts n ≤ most_restarts = lives.few n in
    let b : s.restarts m ≤ most_restarts = lives.few m in
    (writer_number-parts n m (s.restarts n + 1) (s.restarts m + 1) (omega (arith, a)) (omega (arith, b)) e).0

-- a restart begins a life in which nothing was written
pub new_life : (s : Past) (n : ℕ) → Lives s → s.restarts n < most_restarts → (x : Write) → In x s.writes → x.writer ≡ writer_number n (s.restarts n + 1 + 1) → ⊥
new_life s n lives few x m e =
    let of = lives.of_life x m in
    let a : s.restarts of.node ≤ most_restarts = lives.few of.node in
    let begun : of.life ≤ s.restarts of.node + 1 = of.begun in
    let parts = writer_number-parts of.node n of.life (s.restarts n + 1 + 1) (omega (arith, a, begun)) (omega (arith, few)) (sym of.writer ∙ e) in
    let node : s.restarts of.node ≡ s.restarts n = ap s.restarts parts.0 in
    let life : of.life ≡ s.restarts n + 1 + 1 = parts.1 in
    omega (arith, begun, node, life)

few-restarted : (s : Past) (n m : ℕ) → Lives s → s.restarts n < most_restarts → cond (eqb m n) (s.restarts n + 1) (s.restarts m) ≤ most_restarts
few-restarted s n m lives few =
    let other : s.restarts m ≤ most_restarts = lives.few m in
    elim (eqb m n) as (λ b. cond b (s.restarts n + 1) (s.restarts m) ≤ most_restarts) [ true ↦ omega (arith, few) | false ↦ other ]

pub more-restarted : (s : Past) (n m : ℕ) → s.restarts m ≤ cond (eqb m n) (s.restarts n + 1) (s.restarts m)
more-restarted s n m =
    elim (eqb m n) as (λ b. eqb m n ≡ b → s.restarts m ≤ cond b (s.restarts n + 1) (s.restarts m)) [
      | true ↦ λ e. let same : s.restarts m ≡ s.restarts n = ap s.restarts (eqb-true m n e) in omega (arith, same)
      | false ↦ λ e. omega arith
    ] refl

pub Lives-happens : (s : Past) (h : Happening) → Lives s → IsLawful s h → Lives (happens s h)
Lives-happens s (Wrote n k v r) lives lawful =
    record {
      few = lives.few;
      of_life = λ x m. ⊎_elim
          (λ here. record { node = n; life = s.restarts n + 1; writer = ap (λ y. y.writer) here; begun = omega arith })
          (λ later. lives.of_life x later) m;
    }
Lives-happens s (Looked n k) lives lawful = record { few = lives.few; of_life = lives.of_life }
Lives-happens s (Sent n k) lives lawful = record { few = lives.few; of_life = lives.of_life }
Lives-happens s (Got n i) lives lawful = record { few = lives.few; of_life = lives.of_life }
Lives-happens s (Kept n k) lives lawful = record { few = lives.few; of_life = lives.of_life }
Lives-happens s (Restarted n j) lives lawful =
    record {
      few = λ m. few-restarted s n m lives (lawful.restart n j refl);
      of_life = λ x m.
          let of = lives.of_life x m in
          let begun : of.life ≤ s.restarts of.node + 1 = of.begun in
          record { node = of.node; life = of.life; writer = of.writer; begun = omega (arith, begun, more-restarted s n of.node) };
    }

pub Lives-start : Lives start
Lives-start = record { few = λ n. omega arith; of_life = λ x m. absurd m }
