-- One more call joins those that a device has had.
use Rattle.std.proofs.Common.{◌≡◌, inl, inr, ⊎_elim, ℕ, List, [], ◌∷◌, ◌++◌, length, map, reverse, sym, ◌∙◌, ap, subst, arith}
use Rattle.std.proofs.lemmas.List.{map-append, reverse-append}
use Rattle.devices.specs.declared.memory.Call.{Call}
use Rattle.devices.specs.Device.{TimePasses}
use Rattle.devices.specs.CallLog.{device_call, device_calls}
use Rattle.devices.specs.Calls.{DeviceCall, CrashLeaves, CrashLeftSince}

later_by : (first : List ℕ) (calls : List DeviceCall) (call : DeviceCall) → TimePasses (length calls) (length (call ∷ calls)) (CrashLeftSince first calls) (CrashLeftSince first (call ∷ calls)) (CrashLeaves first (call ∷ calls))
later_by first calls call = record {
  later = omega arith;
  nothing_else = λ t c le left. ⊎_elim (λ now. inr now.1) (λ past. inl past) left;
  keeps = λ t c le past. inr past;
}

pub elapses : (first : List ℕ) (calls later : List DeviceCall) (call : DeviceCall) → later ≡ call ∷ calls
    → TimePasses (length calls) (length later) (CrashLeftSince first calls) (CrashLeftSince first later) (CrashLeaves first later)
elapses first calls later call is = subst (λ (l : List DeviceCall). TimePasses (length calls) (length l) (CrashLeftSince first calls) (CrashLeftSince first l) (CrashLeaves first l)) (sym is) (later_by first calls call)

-- a call pushed behind the others is the newest
pub pushed : (calls later : List Call) (x : Call) → later ≡ calls ++ x ∷ [] → device_calls later ≡ device_call x ∷ device_calls calls
pushed calls later x is = ap device_calls is ∙ ap reverse (map-append device_call calls (x ∷ [])) ∙ reverse-append (map device_call calls) (device_call x ∷ [])
