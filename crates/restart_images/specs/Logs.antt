-- How images are kept: what the writers wrote stands in logs, once, and an entry of an object says
-- which part of a log it shows. Private functions cite it. The rule is our own.
use Rattle.std.specs.Prelude.{◌≡◌, ℕ, ◌+◌, ◌-◌, ◌<◌, ◌≤◌, ◌⊎◌, ◌++◌, List, [], length, get_or, map, reverse, take, drop, All, IfSome, IfOk, Result}
use Rattle.std.specs.Option.{option_map}
use Rattle.meta_types.specs.Name.{Key}
use Rattle.meta_types.specs.Value.{ValueParts}
use Rattle.dvvset.specs.Object.{Entry}
use Rattle.meta_store.specs.Table.{IsHeld}
use Rattle.restart_images.specs.Image.{Image}
use Rattle.restart_images.specs.declared.kept.Kept.{Kept}
use Rattle.restart_images.specs.declared.kept.KeptChange.{KeptChange}
use Rattle.restart_images.specs.declared.logs.LoggedEntry.{LoggedEntry}

-- the values of each log, oldest first
abbrev pub Logs : Type 0
Logs = List (List ValueParts)

-- the values of a log; none if there is no such log
abbrev pub log_at : Logs → ℕ → List ValueParts
log_at logs at = get_or logs at []

-- the values that an entry shows, newest first
abbrev pub shown_values : Logs → LoggedEntry → List ValueParts
shown_values logs e = reverse (take e.len (drop e.start (log_at logs e.log)))

-- the entry with its values
abbrev pub whole_entry : Logs → LoggedEntry → Entry
whole_entry logs e = record { id = e.id; count = e.count; values = shown_values logs e }

abbrev pub whole_object : Logs → List LoggedEntry → List Entry
whole_object logs es = map (whole_entry logs) es

-- the change with its object
abbrev pub whole_change : Logs → KeptChange → Key × List Entry
whole_change logs c = (c.key, whole_object logs c.entries.items)

abbrev pub whole_image : Logs → Kept → Image
whole_image logs kept = record {
  base = kept.base;
  change = option_map (whole_change logs) kept.change;
}

-- what an entry shows is there
pub record IsInLogs (logs : Logs) (e : LoggedEntry) : Type 0 where
  pub log : e.log < length logs
  pub values : e.start + e.len ≤ length (log_at logs e.log)

-- what each entry of a change shows is there, and the object of the change may be held
pub record IsKeptChange (logs : Logs) (c : KeptChange) : Type 0 where
  pub within : All (IsInLogs logs) c.entries.items
  pub held : IsHeld (whole_object logs c.entries.items)

-- the change of an image, if it has one, is kept so
abbrev pub IsImageKept : Logs → Kept → Type 0
IsImageKept logs kept = IfSome kept.change (IsKeptChange logs)

-- ---- logs grow

-- each log has more at its end, or nothing more, and there may be more logs
pub record GrowTo (old new : Logs) : Type 0 where
  pub more : length old ≤ length new
  pub begin : (at : ℕ) → at < length old
      → (rest : List ValueParts) × (log_at new at ≡ log_at old at ++ rest)

-- a log has these values, newest first, from the place `start` on, except the `fresh` newest, which
-- are to come after its end
pub record Continues (log : List ValueParts) (start fresh : ℕ) (values : List ValueParts)
    : Type 0 where
  pub few : fresh ≤ length values
  pub inside : start + (length values - fresh) ≤ length log
  pub same : drop fresh values ≡ reverse (take (length values - fresh) (drop start log))
  pub at_end : (fresh ≡ 0) ⊎ (start + (length values - fresh) ≡ length log)

-- logs grow, even if memory runs out; what is kept of an entry has its values
pub record Keeps {E : Type 0} (old new : Logs) (entry : Entry) (result : Result LoggedEntry E)
    : Type 0 where
  pub grow : GrowTo old new
  pub within : IfOk result (IsInLogs new)
  pub value : IfOk result (λ kept. whole_entry new kept ≡ entry)
