-- What a change gives out may be sent.
use Rattle.std.proofs.Common.{◌≡◌, ℕ, List, length, arith}
use Rattle.std.specs.Int.{w16}
use Rattle.std.proofs.lemmas.List.{length-map}
use Rattle.meta_types.specs.Name.{Key, IsKey}
use Rattle.dvvset.specs.Object.{Counter, Entry}
use Rattle.dvvset.specs.Clock.{join}
use Rattle.dvvset.proofs.Objects.{IsVector-join}
use Rattle.frame_fields.proofs.Spellable.{key_fits, number_within, vector_fits}
use Rattle.meta_store.specs.Table.{IsHeld}
use Rattle.meta_store.proofs.Sizes.{held_fits}
use Rattle.plumtree.specs.Lawful.{MayCome}
use Rattle.node_overlay.specs.declared.origin.Origin.{Origin}
use Rattle.node_overlay.specs.declared.origin.Origin.TheVariants.{Write, Gossip}
use Rattle.node_overlay.specs.Origin.{HasOtherSender, call_of}
use Rattle.node_overlay.specs.Outbox.{IsSpelledVector}
use Rattle.node_core.specs.Changing.{HasRound}

-- ---- the vector of an object that is held is spelled

pub joined_spells : (es : List Entry) → IsHeld es → IsSpelledVector (join es)
joined_spells es is =
    let count = number_within w16 1 65535 (length es) (held_fits es is).0.0 in
    let size : length (join es) ≡ length es = length-map es _ in
    vector_fits (join es) (IsVector-join es is.lawful) (omega (arith, size, count.most)) (omega (arith, size, count.least))

-- ---- what the broadcast is told

pub may_spread : (node : ℕ) (origin : Origin) (key : Key) (vector : List Counter) → HasOtherSender node origin → HasRound origin → IsKey key → IsSpelledVector vector
    → MayCome node (call_of origin key vector)
may_spread node Write key vector another low is spelled = (omega arith, (key_fits key is, spelled))
may_spread node (Gossip from round) key vector another low is spelled = (another, (low, (key_fits key is, spelled)))
