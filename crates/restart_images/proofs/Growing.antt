-- Logs that grow: what an entry shows stays.
use Rattle.std.proofs.Common.{◌≡◌, ℕ, suc, ◌+◌, ◌-◌, ◌<◌, ◌≤◌, Bool, true, false, List, [], ◌∷◌, ◌++◌, length, get_or, set, map, reverse, take, drop, eqb, Option, Some, None, refl, sym, ap, subst, ◌∙◌, arith}
use Rattle.std.specs.Prelude.{All, IfSome}
use Rattle.std.proofs.lemmas.List.{append-nil, append_assoc, drop-append-le, get_or-set_other, get_or-set_same, get_or_append_left, length-append, length-drop, length-set, map-append, take-append-le}
use Rattle.std.proofs.lemmas.List.Elements.{All-push}
use Rattle.std.proofs.lemmas.Bool.{eqb-true, eqb-false}
use Rattle.std.specs.Option.{option_map}
use Rattle.meta_types.specs.Name.{Key}
use Rattle.meta_types.specs.Value.{ValueParts}
use Rattle.dvvset.specs.Object.{Entry}
use Rattle.meta_store.specs.Table.{IsHeld}
use Rattle.restart_images.specs.Logs.{GrowTo, IsImageKept, IsKeptChange, IsInLogs, Logs, whole_change, whole_entry, whole_image, log_at, whole_object, shown_values}
use Rattle.restart_images.specs.declared.kept.Kept.{Kept}
use Rattle.restart_images.specs.declared.kept.KeptChange.{KeptChange}
use Rattle.restart_images.specs.declared.logs.LoggedEntry.{LoggedEntry}

pub grow_same : (logs : Logs) → GrowTo logs logs
grow_same logs = record { more = omega arith; begin = λ at low. ([], sym (append-nil (log_at logs at))) }

pub grow_on : (a b c : Logs) → GrowTo a b → GrowTo b c → GrowTo a c
grow_on a b c g h = record {
  more = omega (arith, g.more, h.more);
  begin = λ at low.
      let one = g.begin at low in
      let two = h.begin at (omega (arith, low, g.more)) in
      (one.0 ++ two.0, two.1 ∙ ap (λ l. l ++ two.0) one.1 ∙ append_assoc (log_at a at) one.0 two.0);
}

-- one more log
pub grow_more : (logs : Logs) (log : List ValueParts) → GrowTo logs (logs ++ log ∷ [])
grow_more logs log = record {
  more = let l : length (logs ++ log ∷ []) ≡ length logs + 1 = length-append logs (log ∷ []) in omega (arith, l);
  begin = λ at low. ([], get_or_append_left logs (log ∷ []) [] at low ∙ sym (append-nil (log_at logs at)));
}

-- more in one log
longer_at : (logs : Logs) (log : ℕ) (more : List ValueParts) → log < length logs → (at : ℕ) (b : Bool) → eqb at log ≡ b
    → (rest : List ValueParts) × (log_at (set logs log (log_at logs log ++ more)) at ≡ log_at logs at ++ rest)
longer_at logs log more low at true e =
    let same : at ≡ log = eqb-true at log e in
    (more, ap (log_at (set logs log (log_at logs log ++ more))) same ∙ get_or-set_same logs log (log_at logs log ++ more) [] low ∙ ap (λ n. log_at logs n ++ more) (sym same))
longer_at logs log more low at false e =
    ([], get_or-set_other logs log at (log_at logs log ++ more) [] (eqb-false at log e) ∙ sym (append-nil (log_at logs at)))

pub grow_longer : (logs : Logs) (log : ℕ) (more : List ValueParts) → log < length logs → GrowTo logs (set logs log (log_at logs log ++ more))
grow_longer logs log more low = record {
  more = let l : length (set logs log (log_at logs log ++ more)) ≡ length logs = length-set logs log (log_at logs log ++ more) in omega (arith, l);
  begin = λ at there. longer_at logs log more low at (eqb at log) refl;
}

-- ---- what an entry shows stays

part : (start len : ℕ) (log rest : List ValueParts) → start + len ≤ length log → take len (drop start (log ++ rest)) ≡ take len (drop start log)
part start len log rest low =
    let short : length (drop start log) ≡ length log - start = length-drop start log in
    ap (take len) (drop-append-le start log rest (omega (arith, low)))
    ∙ take-append-le len (drop start log) rest (omega (arith, low, short))

pub within_on : (old new : Logs) (e : LoggedEntry) → GrowTo old new → IsInLogs old e → IsInLogs new e
within_on old new e g is =
    let more = g.begin e.log is.log in
    let long : length (log_at new e.log) ≡ length (log_at old e.log) + length more.0 = ap length more.1 ∙ length-append (log_at old e.log) more.0 in
    record { log = omega (arith, is.log, g.more); values = omega (arith, is.values, long) }

pub shown_on : (old new : Logs) (e : LoggedEntry) → GrowTo old new → IsInLogs old e → shown_values new e ≡ shown_values old e
shown_on old new e g is =
    let more = g.begin e.log is.log in
    ap (λ l. reverse (take e.len (drop e.start l))) more.1
    ∙ ap reverse (part e.start e.len (log_at old e.log) more.0 is.values)

entry_on : (old new : Logs) (e : LoggedEntry) → GrowTo old new → IsInLogs old e → whole_entry new e ≡ whole_entry old e
entry_on old new e g is = ap (λ vs. record { id = e.id; count = e.count; values = vs }) (shown_on old new e g is)

-- of each, and of all that come after the first
first : {A : Type 0} (P : A → Type 0) (x : A) (xs : List A) → All P (x ∷ xs) → P x
first P x xs all = all 0 x (omega arith)

later : {A : Type 0} (P : A → Type 0) (x : A) (xs : List A) → All P (x ∷ xs) → All P xs
later P x xs all = λ k d low. all (suc k) d (omega (arith, low))

pub each_on : (old new : Logs) (es : List LoggedEntry) → GrowTo old new → All (IsInLogs old) es → All (IsInLogs new) es
each_on old new es g all = λ k d low. within_on old new (get_or es k d) g (all k d low)

pub object_on : (old new : Logs) (es : List LoggedEntry) → GrowTo old new → All (IsInLogs old) es → whole_object new es ≡ whole_object old es
object_on old new [] g all = refl
object_on old new (e ∷ es) g all = λ i.
    entry_on old new e g (first (IsInLogs old) e es all) i ∷ object_on old new es g (later (IsInLogs old) e es all) i

pub change_on : (old new : Logs) (c : KeptChange) → GrowTo old new → IsKeptChange old c → whole_change new c ≡ whole_change old c
change_on old new c g is = ap (λ o. (c.key, o)) (object_on old new c.entries.items g is.within)

kept_change_on : (old new : Logs) (c : KeptChange) → GrowTo old new → IsKeptChange old c → IsKeptChange new c
kept_change_on old new c g is = record {
  within = each_on old new c.entries.items g is.within;
  held = subst IsHeld (sym (object_on old new c.entries.items g is.within)) is.held;
}

image_by : (old new : Logs) (base : ℕ) (change : Option KeptChange) → GrowTo old new → IfSome change (IsKeptChange old)
    → whole_image new (record { base = base; change = change }) ≡ whole_image old (record { base = base; change = change })
image_by old new base None g is = refl
image_by old new base (Some c) g is = ap (λ x. record { base = base; change = Some x }) (change_on old new c g is)

kept_by : (old new : Logs) (change : Option KeptChange) → GrowTo old new → IfSome change (IsKeptChange old) → IfSome change (IsKeptChange new)
kept_by old new None g is = tt
kept_by old new (Some c) g is = kept_change_on old new c g is

pub kept_on : (old new : Logs) (images : List Kept) → GrowTo old new → All (IsImageKept old) images → All (IsImageKept new) images
kept_on old new images g all = λ k d low. kept_by old new (get_or images k d).change g (all k d low)

pub images_on : (old new : Logs) (images : List Kept) → GrowTo old new → All (IsImageKept old) images → map (whole_image new) images ≡ map (whole_image old) images
images_on old new [] g all = refl
images_on old new (x ∷ xs) g all = λ i.
    image_by old new x.base x.change g (first (IsImageKept old) x xs all) i ∷ images_on old new xs g (later (IsImageKept old) x xs all) i

-- ---- one more image

pub one_more_kept : (old new : Logs) (images more : List Kept) (image : Kept) → GrowTo old new → All (IsImageKept old) images → IsImageKept new image → more ≡ images ++ image ∷ [] → All (IsImageKept new) more
one_more_kept old new images more image g all is e = subst (All (IsImageKept new)) (sym e) (All-push (IsImageKept new) images image (kept_on old new images g all) is)

pub one_more_image : (old new : Logs) (images more : List Kept) (base : ℕ) (kept : Option KeptChange) (change : Option (Key × List Entry)) → GrowTo old new → All (IsImageKept old) images
    → more ≡ images ++ (record { base = base; change = kept }) ∷ [] → option_map (whole_change new) kept ≡ change
    → map (whole_image new) more ≡ map (whole_image old) images ++ (record { base = base; change = change }) ∷ []
one_more_image old new images more base kept change g all e is =
    ap (map (whole_image new)) e ∙ map-append (whole_image new) images ((record { base = base; change = kept }) ∷ [])
    ∙ (λ i. images_on old new images g all i ++ (record { base = base; change = is i }) ∷ [])
