-- What an event names is there: the read of a write, and the frame of a delivery.
use Rattle.std.proofs.Common.{◌≡◌, ℕ, zero, suc, Bool, true, false, not, List, [], ◌∷◌, Option, Some, None, refl, sym, ap, subst, ◌∙◌}
use Rattle.std.specs.Prelude.{slice_get}
use Rattle.meta_types.specs.Actor.{node_of_writer}
use Rattle.meta_types.specs.First.{first_that_applies}
use Rattle.meta_types.specs.Name.{Key}
use Rattle.meta_types.specs.Value.{ValueParts}
use Rattle.dvvset.specs.Object.{Entry}
use Rattle.dvvset.specs.Clock.{join}
use Rattle.meta_frame.specs.Frame.{Spells}
use Rattle.meta_frame.specs.declared.message.Frame.{Frame}
use Rattle.meta_frame.proofs.Frames.{one_frame}
use Rattle.meta_store.specs.Context.{Reading, vector_read}
use Rattle.meta_store.specs.Table.{Table, is_small_enough, most_written}
use Rattle.meta_store.specs.Step.{is_full_for, is_spent, refusal_of_put, object_after_put}
use Rattle.meta_store.specs.declared.fault.StoreFault.{StoreFault}
use Rattle.meta_store.specs.declared.fault.StoreFault.TheVariants.{CounterSpent, StoreFull, WrongKey, ObjectTooLarge}
use Rattle.meta_types.specs.Equal.{key_eq}
use Rattle.past_model.proofs.Keys.{key_eq-true}
use Rattle.past_model.specs.declared.happening.Happening.TheVariants.{Wrote, Looked}
use Rattle.past_model.specs.History.{Fits}
use Rattle.past_model.specs.Objects.{object_of_read, seen_object}
use Rattle.world_core.specs.declared.event.Event.TheVariants.{Put}
use Rattle.world_core.specs.Numbers.{numbered}
use Rattle.world_core.specs.Tells.{NamesEarlier, Pairwise, Told}
use Rattle.world_core.specs.Invariant.{IsRead, IsTold}
use Rattle.world_core.proofs.Lists.{pair_first, pair_second}

-- ---- the read of a write

of_the_key_by : (key : Key) (context : Reading) (rest : List (Bool × StoreFault)) (b : Bool) → key_eq context.key key ≡ b → first_that_applies ((not b, WrongKey) ∷ rest) ≡ None → context.key ≡ key
of_the_key_by key context rest true e taken = key_eq-true context.key key e
of_the_key_by key context rest false e taken = cc

-- the context of a write that a store takes is of its key
of_the_key : (table : Table) (id : ℕ) (key : Key) (v : ValueParts) (context : Reading) → refusal_of_put table id key v (Some context) ≡ None → context.key ≡ key
of_the_key table id key v context taken =
    of_the_key_by key context
    ((is_full_for table key, StoreFull)
    ∷ (is_spent table id key (Some context), CounterSpent)
    ∷ (not (is_small_enough most_written (object_after_put table id key v (Some context))), ObjectTooLarge)
    ∷ [])
    (key_eq context.key key) refl taken

-- a write may be made with that read
pub record CanRead (t : Told) (contexts : List Reading) (n : ℕ) (k : Key) (v : ValueParts) (read : ℕ) : Type 0 where
  pub fits : Fits t.history (Wrote n k v (numbered t.looks read))
  pub vector : vector_read (numbered contexts read) ≡ join (object_of_read t.history k (numbered t.looks read))
  pub named : NamesEarlier t (Put n k v read)

-- the context at a place, and the Looked that handed it out
can_read_at : (t : Told) (contexts : List Reading) (n : ℕ) (k : Key) (v : ValueParts) (read look : ℕ) (context : Reading) → IsRead t.history look context → context.key ≡ k
    → numbered contexts read ≡ Some context → numbered t.looks read ≡ Some look → CanRead t contexts n k v read
can_read_at t contexts n k v read look context is key there looked = record {
  fits = subst (λ r. Fits t.history (Wrote n k v r)) (sym looked)
      (node_of_writer context.source.actor, is.looked ∙ ap (λ l. Some (Looked (node_of_writer context.source.actor) l)) key);
  vector = ap vector_read there ∙ is.vector ∙ ap (λ l. join (seen_object t.history look l)) key
      ∙ ap (λ r. join (object_of_read t.history k r)) (sym looked);
  named = (look, looked);
}

pub can_read : (t : Told) (contexts : List Reading) (n id : ℕ) (k : Key) (v : ValueParts) (read : ℕ) (table : Table) (context : Reading) → Pairwise (IsRead t.history) t.looks contexts
    → numbered contexts read ≡ Some context → refusal_of_put table id k v (numbered contexts read) ≡ None → CanRead t contexts n k v read
can_read t contexts n id k v zero table context reads there taken = let no : None ≡ Some context = there in absurd (cc)
can_read t contexts n id k v (suc place) table context reads there taken =
    let pair = pair_first (IsRead t.history) t.looks contexts reads place context there in
    let key : context.key ≡ k = of_the_key table id k v context (subst (λ c. refusal_of_put table id k v c ≡ None) there taken) in
    can_read_at t contexts n k v (suc place) pair.0 context pair.1.1 key there pair.1.0

-- ---- the frame of a delivery

-- the frame that the bytes at a place spell is the one at that place
pub frame_there : (frames : List Frame) (spellings : List (List ℕ)) → Pairwise Spells frames spellings → (place : ℕ) (bytes : List ℕ) (f : Frame)
    → slice_get spellings place ≡ Some bytes → Spells f bytes → slice_get frames place ≡ Some f
frame_there frames spellings spelled place bytes f there is =
    let pair = pair_first Spells frames spellings spelled place bytes there in
    pair.1.0 ∙ ap (λ g. Some g) (one_frame pair.0 f bytes pair.1.1 is)

-- the frame of that number was told so
pub record IsToldAs (t : Told) (number : ℕ) (f : Frame) : Type 0 where
  pub sending : Option ℕ
  pub there : numbered t.sendings number ≡ Some sending
  pub told : IsTold t.history f sending

pub told_as : (frames : List Frame) (spellings : List (List ℕ)) (t : Told) → Pairwise Spells frames spellings → Pairwise (IsTold t.history) frames t.sendings
    → (number : ℕ) (bytes : List ℕ) (f : Frame) → numbered spellings number ≡ Some bytes → Spells f bytes → IsToldAs t number f
told_as frames spellings t spelled sendings zero bytes f there is = let no : None ≡ Some bytes = there in cc
told_as frames spellings t spelled sendings (suc place) bytes f there is =
    let pair = pair_second (IsTold t.history) frames t.sendings sendings place f (frame_there frames spellings spelled place bytes f there is) in
    record { sending = pair.0; there = pair.1.0; told = pair.1.1 }

pub not_both : {A : Type 0} (o : Option A) (x : A) → o ≡ None → o ≡ Some x → ⊥
not_both o x none some = cc

pub same_object : (o : Option (Key × List Entry)) (k l : Key) (a b : List Entry) → o ≡ Some (k, a) → o ≡ Some (l, b) → (l ≡ k) × (a ≡ b)
same_object o k l a b one other =
    let both : Some (k, a) ≡ Some (l, b) = sym one ∙ other in
    let pair : (k, a) ≡ (l, b) = cc in
    (ap (λ (p : Key × List Entry). p.0) (sym pair), ap (λ (p : Key × List Entry). p.1) pair)
