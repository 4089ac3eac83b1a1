-- A node is the same writer for as long as it does not restart.
use Rattle.std.proofs.Common.{◌≡◌, ℕ, ◌+◌, ◌≤◌, true, false, cond, List, [], ◌∷◌, ◌++◌, sym, ap, refl, ◌∙◌, arith}
use Rattle.std.specs.Prelude.{◌↔◌}
use Rattle.std.proofs.lemmas.Bool.{eqb-true, eq-eqb}
use Rattle.meta_types.specs.Actor.{writer_number}
use Rattle.past_model.specs.declared.happening.Happening.{Happening}
use Rattle.past_model.specs.declared.happening.Happening.TheVariants.{Wrote, Looked, Sent, Got, Kept, Restarted}
use Rattle.past_model.specs.Past.{Past, start, happens, run, past, writer_of}
use Rattle.past_model.specs.History.{IsHistory, NoRestart, most_restarts}
use Rattle.past_model.specs.Moment.{restarts_node}
use Rattle.past_model.proofs.Staying.{run_append}
use Rattle.past_model.proofs.Lives.{writer_number-parts}
use Rattle.past_model.proofs.Sound.{sound_past}
use Rattle.past_model.proofs.Walking.{restarted_step}
use Rattle.past_model.proofs.Fitting.{history_before}

restart_of : (h : Happening) (n : ℕ) → restarts_node n h ≡ true → (j : ℕ) × (h ≡ Restarted n j)
restart_of (Wrote m k v r) n e = absurd (cc)
restart_of (Looked m k) n e = absurd (cc)
restart_of (Sent m k) n e = absurd (cc)
restart_of (Got m i) n e = absurd (cc)
restart_of (Kept m k) n e = absurd (cc)
restart_of (Restarted m j) n e = (j, ap (λ x. Restarted x j) (eqb-true m n e))

restarted_more : (s : Past) (h : Happening) (n : ℕ) → s.restarts n ≤ (happens s h).restarts n
restarted_more s h n =
    let step : (happens s h).restarts n ≡ cond (restarts_node n h) (s.restarts n + 1) (s.restarts n) = restarted_step s h n in
    let low : s.restarts n ≤ cond (restarts_node n h) (s.restarts n + 1) (s.restarts n) =
    elim (restarts_node n h) as (λ b. s.restarts n ≤ cond b (s.restarts n + 1) (s.restarts n)) [ true ↦ omega arith | false ↦ omega arith ] in
    omega (arith, step, low)

never_less : (s : Past) (hs : List Happening) (n : ℕ) → s.restarts n ≤ (run s hs).restarts n
never_less s [] n = omega arith
never_less s (h ∷ hs) n =
    let one : s.restarts n ≤ (happens s h).restarts n = restarted_more s h n in
    let rest : (happens s h).restarts n ≤ (run (happens s h) hs).restarts n = never_less (happens s h) hs n in
    omega (arith, one, rest)

same_without : (s : Past) (hs : List Happening) (n : ℕ) → NoRestart n hs → (run s hs).restarts n ≡ s.restarts n
same_without s [] n none = refl
same_without s (h ∷ hs) n none =
    same_without (happens s h) hs n (λ before after j e. none (h ∷ before) after j (ap (λ l. h ∷ l) e))
    ∙ restarted_step s h n
    ∙ elim (restarts_node n h) as (λ b. restarts_node n h ≡ b → cond b (s.restarts n + 1) (s.restarts n) ≡ s.restarts n) [
      | true ↦ λ e. let found = restart_of h n e in absurd (none [] hs found.0 (ap (λ x. x ∷ hs) found.1))
      | false ↦ λ e. refl
    ] refl

once_more : (s : Past) (n j : ℕ) → (happens s (Restarted n j)).restarts n ≡ s.restarts n + 1
once_more s n j = restarted_step s (Restarted n j) n ∙ ap (λ b. cond b (s.restarts n + 1) (s.restarts n)) (eq-eqb n n refl)

none_where_same : (s : Past) (hs : List Happening) (n : ℕ) → (run s hs).restarts n ≡ s.restarts n → NoRestart n hs
none_where_same s hs n same before after j e =
    let mid : Past = run s before in
    let first : s.restarts n ≤ mid.restarts n = never_less s before n in
    let once : (happens mid (Restarted n j)).restarts n ≡ mid.restarts n + 1 = once_more mid n j in
    let rest : (happens mid (Restarted n j)).restarts n ≤ (run (happens mid (Restarted n j)) after).restarts n = never_less (happens mid (Restarted n j)) after n in
    let all : (run s hs).restarts n ≡ (run (happens mid (Restarted n j)) after).restarts n = ap (λ l. (run s l).restarts n) e ∙ ap (λ q. q.restarts n) (run_append s before (Restarted n j ∷ after)) in
    omega (arith, first, once, rest, all, same)

pub used_once : (before between after : List Happening) → IsHistory (before ++ between ++ after) → (n m : ℕ) → (writer_of (past before) n ≡ writer_of (past (before ++ between)) m) ↔ ((n ≡ m) × NoRestart n between)
used_once before between after history n m =
    let later : IsHistory (before ++ between) = history_before (before ++ between) after history in
    let few : (past before).restarts n ≤ most_restarts = (sound_past before (history_before before between later)).lives.few n in
    let few_later : (past (before ++ between)).restarts m ≤ most_restarts = (sound_past (before ++ between) later).lives.few m in
    let split : past (before ++ between) ≡ run (past before) between = run_append start before between in (
      (λ same.
          let parts = writer_number-parts n m ((past before).restarts n + 1) ((past (before ++ between)).restarts m + 1) (omega (arith, few)) (omega (arith, few_later)) same in
          let counts : (past before).restarts n + 1 ≡ (past (before ++ between)).restarts m + 1 = parts.1 in
          let node : (past (before ++ between)).restarts n ≡ (past (before ++ between)).restarts m = ap (past (before ++ between)).restarts parts.0 in
          let run_same : (run (past before) between).restarts n ≡ (past (before ++ between)).restarts n = ap (λ s. s.restarts n) (sym split) in
          (parts.0, none_where_same (past before) between n (omega (arith, counts, node, run_same)))),
      (λ both. ap (λ r. writer_number n (r + 1)) (sym (same_without (past before) between n both.1) ∙ ap (λ s. s.restarts n) (sym split)) ∙ ap (writer_of (past (before ++ between))) both.0),
    )
