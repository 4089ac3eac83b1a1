-- The file that a served life answers is one that a desk is started with.
use Rattle.std.proofs.Common.{◌≡◌, ◌+◌, ◌≤◌, ℕ, List, true, false, sym, ap, refl, ◌∙◌, arith}
use Rattle.meta_store.specs.Table.{Table}
use Rattle.node_file.specs.File.{FileState, file_state, state_with}
use Rattle.node_file.specs.declared.record.Record.TheVariants.{Life}
use Rattle.node_file.specs.View.{FileView, IsSettled}
use Rattle.node_desk.specs.Starting.{IsFileOf}

pub of_life : {D : Type 0} (content : D → List ℕ) (may_leave : D → List ℕ → Type 0)
    (old : FileState) (file : FileView D) (table : Table) (life : ℕ)
    → file_state (content file.device) ≡ state_with old (Life life) → table ≡ old.contents.table
    → life ≡ old.contents.life + 1 → IsSettled content may_leave file
    → (file.is_stopped ≡ false) × (file.is_served ≡ true)
    → IsFileOf content file.node file.life table file
of_life content may_leave old file table life lives held next settled served =
    let number : file.life ≡ life = sym settled.life ∙ ap (λ s. s.contents.life) lives in record {
      node = refl;
      life = refl;
      lives = omega (arith, number, next);
      served = served.1;
      going = served.0;
      table = ap (λ s. s.contents.table) lives ∙ sym held;
    }
