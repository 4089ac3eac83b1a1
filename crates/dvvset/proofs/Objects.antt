-- when lists are objects and vectors
use Rattle.std.proofs.Common.{◌≡◌, List, [], ◌∷◌, refl, sym, ap, subst}
use Rattle.std.proofs.lemmas.List.Elements.{All-map, All-weaker}
use Rattle.dvvset.specs.Object.{Entry, Counter, RisesFrom, ids_of, ids_counted, IsEntry, IsObject, IsCounter, IsVector}
use Rattle.dvvset.specs.Clock.{join}
use Rattle.dvvset.proofs.Rising.{Rest}

pub object_from_rest : (es : List Entry) → Rest (λ e. e.id) IsEntry 0 es → IsObject es
object_from_rest es rest = record {
  rising = rest.rising;
  entries = rest.lawful;
}

pub vector_from_rest : (cs : List Counter) → Rest (λ c. c.id) IsCounter 0 cs → IsVector cs
vector_from_rest cs rest = record {
  rising = rest.rising;
  counters = rest.lawful;
}

-- ---- the vector of an object

pub ids_counted-join : (es : List Entry) → ids_counted (join es) ≡ ids_of es
ids_counted-join [] = refl
ids_counted-join (e ∷ es) = ap (λ ns. e.id ∷ ns) (ids_counted-join es)

pub IsVector-join : (es : List Entry) → IsObject es → IsVector (join es)
IsVector-join es is =
    vector_from_rest (join es) (record {
      rising = subst (λ ns. RisesFrom 0 ns) (sym (ids_counted-join es)) is.rising;
      lawful = All-map IsCounter (λ (e : Entry). record { id = e.id; count = e.count }) es
          (All-weaker IsEntry (λ e. IsCounter (record { id = e.id; count = e.count })) (λ e one. record { writer = one.writer; counted = one.counted }) es is.entries);
    })
