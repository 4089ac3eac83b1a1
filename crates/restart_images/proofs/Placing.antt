-- The places of an entry's values in logs.
use Rattle.std.proofs.Common.{◌≡◌, ℕ, ◌+◌, ◌-◌, ◌<◌, ◌⊎◌, inl, inr, List, [], ◌∷◌, ◌++◌, length, set, reverse, take, drop, refl, sym, ap, subst, ◌∙◌, arith, Ok, Err}
use Rattle.std.specs.Prelude.{All}
use Rattle.std.proofs.lemmas.List.Elements.{All-nil, All-push}
use Rattle.std.proofs.lemmas.List.{drop-append-le, get_or-set_same, get_or_push, length-append, length-drop, length-reverse, length-set, length-take-le, map-append, reverse-append, reverse-reverse, take-append-drop, take-append-le, take_all}
use Rattle.meta_types.specs.Value.{ValueParts}
use Rattle.dvvset.specs.Object.{Entry}
use Rattle.restart_images.specs.Logs.{Continues, GrowTo, IsInLogs, Keeps, Logs, whole_entry, log_at, whole_object, shown_values}
use Rattle.restart_images.specs.declared.logs.LoggedEntry.{LoggedEntry}
use Rattle.restart_images.proofs.Growing.{each_on, grow_longer, grow_more, grow_on, grow_same, object_on}

-- ---- in a new log

pub begun : (logs : Logs) (values : List ValueParts) (id count : ℕ) (e : LoggedEntry) → e ≡ record { id = id; count = count; log = length logs; start = 0; len = length values }
    → IsInLogs (logs ++ reverse values ∷ []) e × (shown_values (logs ++ reverse values ∷ []) e ≡ values)
begun logs values id count e is =
    let new : Logs = logs ++ reverse values ∷ [] in
    let there : log_at new (length logs) ≡ reverse values = get_or_push logs (reverse values) [] (length logs) refl in
    let more : length new ≡ length logs + 1 = length-append logs (reverse values ∷ []) in
    let long : length (reverse values) ≡ length values = length-reverse values in
    let within : IsInLogs new (record { id = id; count = count; log = length logs; start = 0; len = length values }) = record {
      log = omega (arith, more);
      values = let l : length (log_at new (length logs)) ≡ length values = ap length there ∙ long in omega (arith, l);
    } in
    let whole : shown_values new (record { id = id; count = count; log = length logs; start = 0; len = length values }) ≡ values =
    ap (λ l. reverse (take (length values) (drop 0 l))) there
    ∙ ap reverse (take_all (length values) (reverse values) (omega (arith, long)))
    ∙ reverse-reverse values in
    (subst (IsInLogs new) (sym is) within, ap (shown_values new) is ∙ whole)

-- ---- in a log that goes on

-- what there was and what is added, together
joined_by : (log values : List ValueParts) (start fresh : ℕ) → Continues log start fresh values → (fresh ≡ 0) ⊎ (start + (length values - fresh) ≡ length log)
    → take (length values) (drop start log ++ reverse (take fresh values)) ≡ reverse values
joined_by log values start fresh is (inl none) =
    let short : length (drop start log) ≡ length log - start = length-drop start log in
    let count : length values - fresh ≡ length values = omega (arith, none) in
    let all : values ≡ reverse (take (length values) (drop start log)) =
    ap (λ n. drop n values) (sym none) ∙ is.same ∙ ap (λ n. reverse (take n (drop start log))) count in
    take-append-le (length values) (drop start log) (reverse (take fresh values)) (let i = is.inside in omega (arith, i, short, none))
    ∙ sym (reverse-reverse (take (length values) (drop start log))) ∙ ap reverse (sym all)
joined_by log values start fresh is (inr end) =
    let few = is.few in
    let old : List ValueParts = drop start log in
    let short : length old ≡ length log - start = length-drop start log in
    let whole : take (length values - fresh) old ≡ old = take_all (length values - fresh) old (omega (arith, short, end)) in
    let same : drop fresh values ≡ reverse old = is.same ∙ ap reverse whole in
    let added : length (reverse (take fresh values)) ≡ fresh = length-reverse (take fresh values) ∙ length-take-le fresh values few in
    let long : length (old ++ reverse (take fresh values)) ≡ length old + length (reverse (take fresh values)) = length-append old (reverse (take fresh values)) in
    take_all (length values) (old ++ reverse (take fresh values)) (omega (arith, long, added, short, end, few))
    ∙ ap (λ l. l ++ reverse (take fresh values)) (sym (reverse-reverse old) ∙ ap reverse (sym same))
    ∙ sym (reverse-append (take fresh values) (drop fresh values))
    ∙ ap reverse (take-append-drop fresh values)

joined : (log values : List ValueParts) (start fresh : ℕ) → Continues log start fresh values
    → take (length values) (drop start (log ++ reverse (take fresh values))) ≡ reverse values
joined log values start fresh is =
    let seam : drop start (log ++ reverse (take fresh values)) ≡ drop start log ++ reverse (take fresh values) =
    drop-append-le start log (reverse (take fresh values)) (omega (arith, is.inside)) in
    ap (take (length values)) seam ∙ joined_by log values start fresh is is.at_end

pub continued : (logs : Logs) (log start fresh : ℕ) (values : List ValueParts) (id count : ℕ) (e : LoggedEntry) → log < length logs → Continues (log_at logs log) start fresh values
    → e ≡ record { id = id; count = count; log = log; start = start; len = length values }
    → IsInLogs (set logs log (log_at logs log ++ reverse (take fresh values))) e × (shown_values (set logs log (log_at logs log ++ reverse (take fresh values))) e ≡ values)
continued logs log start fresh values id count e low is made =
    let old : List ValueParts = log_at logs log in
    let now : List ValueParts = old ++ reverse (take fresh values) in
    let new : Logs = set logs log now in
    let there : log_at new log ≡ now = get_or-set_same logs log now [] low in
    let added : length (reverse (take fresh values)) ≡ fresh = length-reverse (take fresh values) ∙ length-take-le fresh values is.few in
    let long : length (log_at new log) ≡ length old + fresh = ap length there ∙ length-append old (reverse (take fresh values)) ∙ ap (λ n. length old + n) added in
    let more : length new ≡ length logs = length-set logs log now in
    let within : IsInLogs new (record { id = id; count = count; log = log; start = start; len = length values }) = record {
      log = omega (arith, more, low);
      values = let i = is.inside in let f = is.few in omega (arith, long, i, f);
    } in
    let whole : shown_values new (record { id = id; count = count; log = log; start = start; len = length values }) ≡ values =
    ap (λ l. reverse (take (length values) (drop start l))) there
    ∙ ap reverse (joined old values start fresh is) ∙ reverse-reverse values in
    (subst (IsInLogs new) (sym made) within, ap (shown_values new) made ∙ whole)

-- ---- what is kept of an entry

pub keeps_gone_on : {E : Type 0} (old new : Logs) (entry : Entry) (log start fresh : ℕ) (e : LoggedEntry) → log < length old → Continues (log_at old log) start fresh entry.values
    → new ≡ set old log (log_at old log ++ reverse (take fresh entry.values))
    → e ≡ record { id = entry.id; count = entry.count; log = log; start = start; len = length entry.values } → Keeps {E = E} old new entry (Ok e)
keeps_gone_on old new entry log start fresh e low on is made =
    let done = continued old log start fresh entry.values entry.id entry.count e low on made in record {
      grow = subst (GrowTo old) (sym is) (grow_longer old log (reverse (take fresh entry.values)) low);
      within = subst (λ l. IsInLogs l e) (sym is) done.0;
      value = subst (λ l. whole_entry l e ≡ entry) (sym is) (λ i. record { id = (made i).id; count = (made i).count; values = done.1 i });
    }

-- ---- of so many entries of an object

pub record KeptSoFar (old new : Logs) (kept : List LoggedEntry) (entries : List Entry) (at : ℕ) : Type 0 where
  pub grow : GrowTo old new
  pub within : All (IsInLogs new) kept
  pub value : whole_object new kept ≡ take at entries

pub none_kept : (old new : Logs) (kept : List LoggedEntry) (entries : List Entry) → new ≡ old → kept ≡ [] → KeptSoFar old new kept entries 0
none_kept old new kept entries is nothing = record {
  grow = subst (GrowTo old) (sym is) (grow_same old);
  within = subst (All (IsInLogs new)) (sym nothing) (All-nil (IsInLogs new));
  value = ap (whole_object new) nothing;
}

pub one_more : {E : Type 0} (old mid new : Logs) (kept more : List LoggedEntry) (entries : List Entry) (at : ℕ) (entry : Entry) (e : LoggedEntry) → KeptSoFar old mid kept entries at
    → Keeps {E = E} mid new entry (Ok e) → more ≡ kept ++ e ∷ [] → take (at + 1) entries ≡ take at entries ++ entry ∷ []
    → KeptSoFar old new more entries (at + 1)
one_more old mid new kept more entries at entry e so_far keeps is next = record {
  grow = grow_on old mid new so_far.grow keeps.grow;
  within = subst (All (IsInLogs new)) (sym is) (All-push (IsInLogs new) kept e (each_on mid new kept keeps.grow so_far.within) keeps.within);
  value = ap (whole_object new) is ∙ map-append (whole_entry new) kept (e ∷ [])
      ∙ ap (λ l. l ++ whole_entry new e ∷ []) (object_on mid new kept keeps.grow so_far.within ∙ so_far.value)
      ∙ ap (λ x. take at entries ++ x ∷ []) keeps.value ∙ sym next;
}
