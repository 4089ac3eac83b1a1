-- Each cause to refuse an event applies or not: so there is a first one, or none before the node's own. Of an accepted event
-- there is none.
use Rattle.std.proofs.Common.{◌≡◌, ◌≢◌, ℕ, ◌<◌, ◌≤◌, ◌⊎◌, inl, inr, true, false, eqb, length, Option, Some, None, refl, arith}
use Rattle.std.proofs.lemmas.Bool.{cases_lt, eqb-false, eqb-true}
use Rattle.meta_frame.proofs.Frames.{frame_or_refusal, never_both}
use Rattle.node_events.specs.declared.event.NodeEvent.TheVariants.{Take, Write}
use Rattle.restart_images.specs.Keeping.{most_incarnation}
use Rattle.world_core.specs.declared.event.Event.{Event}
use Rattle.world_core.specs.declared.event.Event.TheVariants as events
use Rattle.world_core.specs.declared.fault.WorldFault.{WorldFault}
use Rattle.world_core.specs.declared.fault.WorldFault.TheVariants.{IncarnationSpent, LooksLikeFrame, Memory, NoSuchFrame, NoSuchImage, NoSuchNode, NoSuchRead}
use Rattle.world_core.specs.Events.{node_of_event, other_node_of}
use Rattle.world_core.specs.Numbers.{numbered}
use Rattle.world_core.specs.Refusal.{HasNoLifeLeft, HasNoNode, IsFrameAsJunk, NamesNoFrame, NamesNoImage, NamesNoNode, NamesNoRead, RefusesEvent, node_at}
use Rattle.world_core.specs.World.{World}
use Rattle.world_core.proofs.Refusing.{AllThere}
use Rattle.scenario_outcomes.specs.Lawful.{IsLawfulWorldEvent}

-- ---- each cause applies or not

abbrev Decided : Type 0 → Type 0
Decided P = P ⊎ (P → ⊥)

at_most : (a b : ℕ) → Decided (a ≤ b)
at_most a b = elim (cases_lt b a) as (λ _. Decided (a ≤ b)) [ inl past ↦ inr (λ low. absurd (omega (arith, past, low))) | inr low ↦ inl low ]

less : (a b : ℕ) → Decided (a < b)
less a b = elim (cases_lt a b) as (λ _. Decided (a < b)) [ inl low ↦ inl low | inr past ↦ inr (λ low. absurd (omega (arith, past, low))) ]

equal : (a b : ℕ) → Decided (a ≡ b)
equal a b =
    elim (eqb a b) as (λ test. eqb a b ≡ test → Decided (a ≡ b)) [
      | true ↦ λ e. inl (eqb-true a b e)
      | false ↦ λ e. inr (eqb-false a b e)
    ] refl

nothing : {A : Type 0} (o : Option A) → Decided (o ≡ None)
nothing None = inl refl
nothing (Some x) = inr (λ e. cc)

one_of : {P Q : Type 0} → Decided P → Decided Q → Decided (P ⊎ Q)
one_of (inl first) other = inl (inl first)
one_of (inr not_first) (inl second) = inl (inr second)
one_of (inr not_first) (inr not_second) = inr (λ both. elim both as (λ _. ⊥) [ inl first ↦ not_first first | inr second ↦ not_second second ])

has_node : (w : World) (named : Option ℕ) → Decided (HasNoNode w named)
has_node w None = inr (λ never. never)
has_node w (Some n) = at_most (length w.nodes) n

names_nodes : (w : World) (event : Event) → Decided (NamesNoNode w event)
names_nodes w event = one_of (has_node w (Some (node_of_event event))) (has_node w (other_node_of event))

names_frame : (w : World) (event : Event) → Decided (NamesNoFrame w event)
names_frame w (events.Deliver frame n word) = nothing (numbered w.frames frame)
names_frame w event = inr (λ never. never)

names_read : (w : World) (event : Event) → Decided (NamesNoRead w event)
names_read w (events.Put n key value read) = nothing (numbered w.contexts read)
names_read w (events.Step n (Write key value (Some context))) = inl tt
names_read w event = inr (λ never. never)

names_image : (w : World) (event : Event) → Decided (NamesNoImage w event)
names_image w (events.Restart n image) = less (length (node_at w n).images) image
names_image w event = inr (λ never. never)

has_life : (w : World) (event : Event) → Decided (HasNoLifeLeft w event)
has_life w (events.Restart n image) = equal (node_at w n).state.incarnation most_incarnation
has_life w event = inr (λ never. never)

is_junk : (event : Event) → IsLawfulWorldEvent event → Decided (IsFrameAsJunk event)
is_junk (events.Step n (Take bytes word)) lawful =
    elim (frame_or_refusal bytes lawful) as (λ _. Decided (IsFrameAsJunk (events.Step n (Take bytes word)))) [
      | inl found ↦ inl (record { frame = found.0; spelled = found.1 })
      | inr refused ↦ inr (λ is. never_both is.frame bytes refused.0 is.spelled refused.1)
    ]
is_junk event lawful = inr (λ never. never)

-- ---- the first that applies

-- there is a cause before the node's own, and it isn't want of memory
pub record IsRefusedFirst (w : World) (event : Event) : Type 0 where
  pub fault : WorldFault
  pub other : fault ≢ Memory
  pub refuses : RefusesEvent w event fault

pub refused_or_there : (w : World) (event : Event) → IsLawfulWorldEvent event → IsRefusedFirst w event ⊎ AllThere w event
refused_or_there w event lawful =
    elim (names_nodes w event) as (λ _. IsRefusedFirst w event ⊎ AllThere w event) [
      | inl none ↦ inl (record { fault = NoSuchNode; other = λ e. cc; refuses = inl (none, refl) })
      | inr node ↦ elim (names_frame w event) as (λ _. IsRefusedFirst w event ⊎ AllThere w event) [
        | inl none ↦ inl (record { fault = NoSuchFrame; other = λ e. cc; refuses = inr (node, inl (none, refl)) })
        | inr frame ↦ elim (names_read w event) as (λ _. IsRefusedFirst w event ⊎ AllThere w event) [
          | inl none ↦ inl (record { fault = NoSuchRead; other = λ e. cc; refuses = inr (node, inr (frame, inl (none, refl))) })
          | inr read ↦ elim (names_image w event) as (λ _. IsRefusedFirst w event ⊎ AllThere w event) [
            | inl none ↦ inl (record {
              fault = NoSuchImage;
              other = λ e. cc;
              refuses = inr (node, inr (frame, inr (read, inl (none, refl))));
            })
            | inr image ↦ elim (has_life w event) as (λ _. IsRefusedFirst w event ⊎ AllThere w event) [
              | inl none ↦ inl (record {
                fault = IncarnationSpent;
                other = λ e. cc;
                refuses = inr (node, inr (frame, inr (read, inr (image, inl (none, refl)))));
              })
              | inr life ↦ elim (is_junk event lawful) as (λ _. IsRefusedFirst w event ⊎ AllThere w event) [
                | inl is ↦ inl (record {
                  fault = LooksLikeFrame;
                  other = λ e. cc;
                  refuses = inr (node, inr (frame, inr (read, inr (image, inr (life, inl (is, refl))))));
                })
                | inr junk ↦ inr (record { node = node; frame = frame; read = read; image = image; life = life; junk = junk })
              ]
            ]
          ]
        ]
      ]
    ]

-- ---- none that applies

pub accepted_there : (w : World) (event : Event) → ((fault : WorldFault) → RefusesEvent w event fault → ⊥) → AllThere w event
accepted_there w event accepted =
    let node : NamesNoNode w event → ⊥ = λ none. accepted NoSuchNode (inl (none, refl)) in
    let frame : NamesNoFrame w event → ⊥ = λ none. accepted NoSuchFrame (inr (node, inl (none, refl))) in
    let read : NamesNoRead w event → ⊥ = λ none. accepted NoSuchRead (inr (node, inr (frame, inl (none, refl)))) in
    let image : NamesNoImage w event → ⊥ = λ none. accepted NoSuchImage (inr (node, inr (frame, inr (read, inl (none, refl))))) in
    let life : HasNoLifeLeft w event → ⊥ =
    λ none. accepted IncarnationSpent (inr (node, inr (frame, inr (read, inr (image, inl (none, refl)))))) in
    record {
      node = node;
      frame = frame;
      read = read;
      image = image;
      life = life;
      junk = λ is. accepted LooksLikeFrame (inr (node, inr (frame, inr (read, inr (image, inr (life, inl (is, refl)))))));
    }
