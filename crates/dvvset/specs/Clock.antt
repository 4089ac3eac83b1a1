-- The clock formulas, on lists; `Object` names their source. A lawful entry (id, count, values)
-- shows the events numbered from its cover + 1 to its count.
use Rattle.std.specs.Prelude.{ℕ, ◌+◌, ◌-◌, ◌==◌, nat_lt, nat_le, if◌then◌else◌, List, [], ◌∷◌, length, take, map, flat_map, Bool, true, false, ◌&&◌}
use Rattle.meta_types.specs.Value.{ValueParts}
use Rattle.dvvset.specs.Object.{Entry, Counter}

-- the vector of an object: how many events of each writer it knows
abbrev pub join : List Entry → List Counter
join es = map (λ e. record { id = e.id; count = e.count }) es

-- the values that an object shows, in the order of the writers
abbrev pub values_of : List Entry → List ValueParts
values_of es = flat_map (λ e. e.values) es

-- how many events of the writer are known and no longer shown
abbrev pub cover : Entry → ℕ
cover e = e.count - length e.values

-- the entry without what it shows of the events up to number `low`
abbrev pub cut : Entry → ℕ → Entry
cut e low = record { id = e.id; count = e.count; values = take (e.count - low) e.values }

-- two sides' entries of one writer: the one with the greater count, the first at equal counts, cut
-- by the other's cover
abbrev pub sync_entry : Entry → Entry → Entry
sync_entry a b = if nat_le b.count a.count then cut a (cover b) else cut b (cover a)

-- `x` and what follows it on its side, merged with the other side in the order of the writers;
-- `rest` merges what follows `x`
abbrev pub sync_from : Entry → (List Entry → List Entry) → List Entry → List Entry
sync_from x rest [] = x ∷ rest []
sync_from x rest (y ∷ ys) =
    if nat_lt y.id x.id
    then y ∷ sync_from x rest ys
    else (if x.id == y.id then sync_entry x y ∷ rest ys else x ∷ rest (y ∷ ys))

-- the merge of two objects: an entry that stands on one side alone is kept as it is
abbrev pub sync : List Entry → List Entry → List Entry
sync [] ys = ys
sync (x ∷ xs) ys = sync_from x (sync xs) ys

-- a vector, read as entries that show nothing
abbrev pub blanks : List Counter → List Entry
blanks cs = map (λ c. record { id = c.id; count = c.count; values = [] }) cs

-- one more event of a writer, whose value goes in front
abbrev pub raise : ℕ → ValueParts → List Entry → List Entry
raise w value [] = (record { id = w; count = 1; values = value ∷ [] }) ∷ []
raise w value (x ∷ xs) =
    if nat_lt w x.id
    then (record { id = w; count = 1; values = value ∷ [] }) ∷ (x ∷ xs)
    else (if x.id == w
    then (record { id = x.id; count = x.count + 1; values = value ∷ x.values }) ∷ xs
    else x ∷ raise w value xs)

-- a write by `w` of a value that has read the vector
abbrev pub update : List Counter → List Entry → ℕ → ValueParts → List Entry
update read es w value = raise w value (sync (blanks read) es)

-- a writer's counter, 0 if it is absent
abbrev pub count_for : List Counter → ℕ → ℕ
count_for [] w = 0
count_for (c ∷ cs) w = if c.id == w then c.count else count_for cs w

-- each counter of the second vector is at most the first vector's
abbrev pub descends : List Counter → List Counter → Bool
descends a [] = true
descends a (c ∷ cs) = nat_le c.count (count_for a c.id) && descends a cs

-- equal writers, counters and numbers of values
abbrev pub same : List Entry → List Entry → Bool
same [] [] = true
same [] (y ∷ ys) = false
same (x ∷ xs) [] = false
same (x ∷ xs) (y ∷ ys) = ((x.id == y.id)
    && ((x.count == y.count) && (length x.values == length y.values))) && same xs ys
