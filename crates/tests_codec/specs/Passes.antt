-- Passes of one inbox.
use Rattle.std.specs.Prelude.{◌≡◌, List, length}
use Rattle.std.specs.List.{AllWithin}
use Rattle.atomic_table.specs.Seated.{TableId}
use Rattle.inbox.specs.Views.{PutView}

-- each of the passes is of this inbox
abbrev pub AreOf : TableId → List PutView → Type 0
AreOf line passes = AllWithin (λ pass. pass.line ≡ line) passes 0 (length passes)
