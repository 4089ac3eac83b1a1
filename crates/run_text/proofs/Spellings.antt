-- Which commands of a run have a spelling, from what their parts are.
use Rattle.std.proofs.Common.{◌≡◌, ◌≢◌, ◌↔◌, ◌<◌, ◌^◌, ◌==◌, ◌&&◌, ℕ, nat_le, Bool, not, true, false, List, [], ◌∷◌, length, map, All, Option, Some, None, IfSome, IsTrue, refl, sym, ◌∙◌, arith, eq-eqb, ne_eqb}
use Rattle.std.specs.Prelude.{is_some}
use Rattle.std.specs.List.{AllByRecursion, list_any}
use Rattle.std.proofs.lemmas.Bool.{and_from, eqb-false, le-leb, not-true, not_from_false, or_from, or_parts}
use Rattle.std.proofs.lemmas.List.Elements.{All-cons, All-from_recursion, All-head, All-map, All-nil, All-tail, recursion_from_All}
use Rattle.hex.specs.Hex.{IsBytes}
use Rattle.meta_types.specs.Name.{IsFullPrefix, IsKey, IsName, Key, Prefix}
use Rattle.meta_store.specs.Context.{Reading}
use Rattle.meta_types.specs.Value.{IsBody, ValueParts}
use Rattle.node_events.specs.declared.event.NodeEvent.TheVariants as asked
use Rattle.world_core.specs.declared.answer.Accepted.{Accepted}
use Rattle.world_core.specs.declared.event.Event.{Event}
use Rattle.scenario_text.specs.Commands as spoken
use Rattle.scenario_text.specs.Commands.{is_key, is_prefix}
use Rattle.scenario_text.specs.Spelling.{IsPlainKey, IsPlainPrefix}
use Rattle.run_text.specs.Replay.{IsSpelled, command_of_event, over_command, step_command, write_command}

-- ---- names in range

part_in : (most : ℕ) (bytes : List ℕ) → IsName most bytes → (nat_le 1 (length bytes) && nat_le (length bytes) most) ≡ true
part_in most bytes h = and_from (nat_le 1 (length bytes)) (nat_le (length bytes) most) (le-leb 1 (length bytes) h.0) (le-leb (length bytes) most h.1)

prefix_in : (p : Prefix) → IsFullPrefix p → is_prefix p ≡ true
prefix_in p h = rw (part_in 64 p.prefix h.0, part_in 64 p.sub h.1) refl

key_in : (k : Key) → IsKey k → is_key k ≡ true
key_in k h = rw (part_in 64 k.prefix.prefix h.0.0, part_in 64 k.prefix.sub h.0.1, part_in 256 k.key h.1) refl

-- ---- commands

abbrev IsNumber : ℕ → Type 0
IsNumber n = n < 2 ^ 64

pub write_spelled : (n : ℕ) (k : Key) (stamp : ℕ) (body : Option (List ℕ)) (read : Option ℕ) → IsKey k → IsNumber n → IsNumber stamp → IsBody body → IfSome body IsBytes → IfSome read IsNumber
    → IsPlainKey k ↔ IsSpelled (Some (write_command n k stamp body read))
write_spelled n k stamp None read key number stamps fits bytes reads =
    (λ plain. (rw (key_in k key) refl, λ r. (number, plain, stamps, reads)), λ h. (h.1 0).1)
write_spelled n k stamp (Some body) read key number stamps fits bytes reads =
    (λ plain. (rw (key_in k key, le-leb (length body) 1024 fits) refl, λ r. (number, plain, bytes, stamps, reads)), λ h. (h.1 0).1)

pub over_spelled : (n : ℕ) (k : Key) (stamp : ℕ) (body : Option (List ℕ)) (there : List ℕ) → body ≡ Some there → IsKey k → IsNumber n → IsNumber stamp → IsBody body → IfSome body IsBytes
    → IsPlainKey k ↔ IsSpelled (over_command n k stamp body)
over_spelled n k stamp None there is key number stamps fits bytes = absurd (cc is)
over_spelled n k stamp (Some body) there is key number stamps fits bytes =
    (λ plain. (rw (key_in k key, le-leb (length body) 1024 fits) refl, λ r. (number, plain, bytes, stamps)), λ h. (h.1 0).1)

pub read_spelled : (n : ℕ) (k : Key) → IsKey k → IsNumber n → IsPlainKey k ↔ IsSpelled (Some (spoken.Read n k))
read_spelled n k key number = (λ plain. (rw (key_in k key) refl, λ r. (number, plain)), λ h. (h.1 0).1)

pub keep_spelled : (n : ℕ) (k : Key) → IsKey k → IsNumber n → IsPlainKey k ↔ IsSpelled (Some (spoken.Keep n (Some k)))
keep_spelled n k key number = (λ plain. (rw (key_in k key) refl, λ r. (number, plain)), λ h. (h.1 0).1)

pub watch_spelled : (n : ℕ) (p : Prefix) (capacity : ℕ) → IsFullPrefix p → IsNumber n → IsNumber capacity
    → IsPlainPrefix p ↔ IsSpelled (Some (spoken.Watch n p capacity))
watch_spelled n p capacity prefix number counts =
    (λ plain. (rw (prefix_in p prefix) refl, λ r. (number, plain, counts)), λ h. (h.1 0).1)

pub junk_spelled : (n : ℕ) (bytes : List ℕ) (empty : Bool) → empty ≡ (length bytes == 0) → IsNumber n → IsBytes bytes
    → IsTrue (not empty) ↔ IsSpelled (Some (spoken.Junk n bytes))
junk_spelled n bytes empty is number fit = (
  λ yes.
      let other = eqb-false (length bytes) 0 (sym is ∙ not-true empty yes) in
      (refl, λ r. (number, omega (arith, other), fit)),
  λ h. not_from_false empty (is ∙ ne_eqb (length bytes) 0 (λ none. omega (arith, (h.1 0).1))),
)

-- a write without a context
pub write_alone : (n : ℕ) (k : Key) (v : ValueParts) (context : Option Reading) → is_some context ≡ false → step_command n (asked.Write k v context) ≡ Some (write_command n k v.stamp v.body None)
write_alone n k v None none = refl
write_alone n k v (Some context) none = absurd (cc none)

pub take_command : (n : ℕ) (bytes : List ℕ) (word : ℕ) → word ≡ 0 → step_command n (asked.Take bytes word) ≡ Some (spoken.Junk n bytes)
take_command n bytes word none = rw (eq-eqb word 0 none) refl

-- ---- lines and lists

pub one_line : (bytes : List ℕ) → list_any (λ b. b == 10) bytes ≡ false → All (λ b. b ≢ 10) bytes
one_line [] none = All-nil (λ b. b ≢ 10)
one_line (b ∷ bytes) none =
    let parts = or_parts (b == 10) (list_any (λ c. c == 10) bytes) none in
    All-cons (λ c. c ≢ 10) b bytes (eqb-false b 10 parts.0) (one_line bytes parts.1)

pub no_feed : (bytes : List ℕ) → All (λ b. b ≢ 10) bytes → list_any (λ b. b == 10) bytes ≡ false
no_feed [] all = refl
no_feed (b ∷ bytes) all =
    or_from (b == 10) (list_any (λ c. c == 10) bytes) (ne_eqb b 10 (All-head (λ c. c ≢ 10) b bytes all))
    (no_feed bytes (All-tail (λ c. c ≢ 10) b bytes all))

abbrev Is : Event → Type 0
Is event = IsSpelled (command_of_event event)

each_accepted : (accepted : List Accepted) → AllByRecursion Is (map (λ a. a.event) accepted) → AllByRecursion (λ (a : Accepted). Is a.event) accepted
each_accepted [] all = tt
each_accepted (one ∷ accepted) all = (all.0, each_accepted accepted all.1)

pub all_accepted : (accepted : List Accepted) → All Is (map (λ a. a.event) accepted) → All (λ (a : Accepted). Is a.event) accepted
all_accepted accepted all =
    All-from_recursion (λ (a : Accepted). Is a.event) accepted (each_accepted accepted (recursion_from_All Is (map (λ a. a.event) accepted) all))

pub all_events : (accepted : List Accepted) → All (λ (a : Accepted). Is a.event) accepted → All Is (map (λ a. a.event) accepted)
all_events accepted all = All-map Is (λ (a : Accepted). a.event) accepted all
