-- One file has all that another has.
use Rattle.std.proofs.Common.{◌≡◌, ◌<◌, ℕ, List, [], Option, Some, refl, ap, subst, ◌∙◌, arith, true, nat_lt}
use Rattle.std.proofs.lemmas.Bool.Decides.{nat_tests}
use Rattle.std.specs.Option.{unwrap_or}
use Rattle.std.specs.FinMap.{find}
use Rattle.meta_types.specs.Name.{Key}
use Rattle.meta_types.specs.Order.{key_cmp}
use Rattle.dvvset.specs.Clock.{descends, join}
use Rattle.dvvset.specs.Object.{Entry}
use Rattle.meta_store.specs.Table.{IsTable, Table, object_at}
use Rattle.node_core.proofs.Growing.{descends_itself, held_is_kept}
use Rattle.node_file.specs.declared.record.Record.TheVariants.{Life, Object}
use Rattle.node_file.specs.File.{FileState, state_with}
use Rattle.node_hosted.specs.HostFile.{HasAllOf, IsKnownTo}
use Rattle.node_hosted.proofs.Knowing.{put_grows, put_keeps}

pub has_itself : (s : FileState) → IsTable s.contents.table → HasAllOf s s
has_itself s rows = record {
  version = refl;
  node = refl;
  keys = λ key some. some;
  events = descends_itself s.contents.table rows;
  life = omega arith;
}

rises : (a b : ℕ) → nat_lt a b ≡ true → a < b
rises a b e = grind (arith, nat_tests)

-- with a life that is a later one
pub with_life : (s : FileState) (n : ℕ) → nat_lt s.contents.life n ≡ true → IsTable s.contents.table → HasAllOf s (state_with s (Life n))
with_life s n follows rows =
    let later = rises s.contents.life n follows in record {
      version = refl;
      node = refl;
      keys = λ key some. some;
      events = descends_itself s.contents.table rows;
      life = omega (arith, later);
    }

-- with an object that is held by a node that knows what it has
pub with_object_held : (held : Table) (s : FileState) (key : Key) (o : List Entry) → find key_cmp key held ≡ Some o → IsKnownTo held s.contents.table
    → HasAllOf s (state_with s (Object key o))
with_object_held held s key o is known =
    let stored = s.contents.table in
    let same : object_at held key ≡ o = ap (λ (found : Option (List Entry)). unwrap_or found []) is in
    record {
      version = refl;
      node = refl;
      keys = put_keeps stored key o;
      events =
          put_grows stored key o known.stored_is_table
          (subst (λ (p : List Entry). descends (join p) (join (object_at stored key)) ≡ true) same (known.events key));
      life = omega arith;
    }

pub onwards : (first second third : FileState) → IsTable first.contents.table → HasAllOf first second → HasAllOf second third
    → HasAllOf first third
onwards first second third rows one two =
    let later = one.life in
    let last = two.life in record {
      version = two.version ∙ one.version;
      node = two.node ∙ one.node;
      keys = λ key some. two.keys key (one.keys key some);
      events = held_is_kept.onwards first.contents.table second.contents.table third.contents.table rows one.events two.events;
      life = omega (arith, later, last);
    }
