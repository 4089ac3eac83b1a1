-- What contracts see of a node's file, and when its device holds it for good.
use Rattle.std.specs.Prelude.{◌≡◌, ℕ, List, Bool, Ok, None, true}
use Rattle.devices.specs.Device.{IsDurable}
use Rattle.node_file.specs.File.{opened, file_state}

pub record FileView (D : Type 0) : Type 0 where
  pub device : D
  pub node : ℕ
  -- the number of the last life, 0 for none
  pub life : ℕ
  -- the offset of the closed gate
  pub gate : ℕ
  -- a life was begun by the call that opened it
  pub is_served : Bool
  -- an append failed after the device may have changed
  pub is_stopped : Bool

-- its device holds a file, whose closed gate stands where it is taken to be; a crash leaves it
pub record IsSettled {D : Type 0} (content : D → List ℕ) (may_leave : D → List ℕ → Type 0)
    (file : FileView D) : Type 0 where
  pub opens : opened None (content file.device) ≡ Ok (file_state (content file.device), file.gate)
  pub node : (file_state (content file.device)).node ≡ file.node
  pub life : (file_state (content file.device)).contents.life ≡ file.life
  pub served : file.is_served ≡ true → (file_state (content file.device)).version ≡ 2
  pub durable : IsDurable (content file.device) (may_leave file.device)
