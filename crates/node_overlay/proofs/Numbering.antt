-- Messages become frames, one after another.
use Rattle.std.proofs.Common.{◌≡◌, ℕ, List, [], ◌∷◌, ◌++◌, All, sym, ap, ◌∙◌}
use Rattle.std.proofs.lemmas.List.{append_assoc}
use Rattle.std.proofs.lemmas.List.Elements.{All-cons, All-same}
use Rattle.meta_frame.specs.declared.message.Frame.{Frame}
use Rattle.node_overlay.specs.declared.envelope.Envelope.{Envelope}
use Rattle.node_overlay.specs.Outbox.{HasSpelling, count_on, frame_of, frames_from}

pub one_more : (from number next : ℕ) (e : Envelope) (front : List Frame) (frame : Frame)
    (rest : List Envelope) (all : List Frame)
    → next ≡ count_on number 1 → frame ≡ frame_of from next e
    → front ++ frames_from from number (e ∷ rest) ≡ all
    → (front ++ frame ∷ []) ++ frames_from from next rest ≡ all
one_more from number next e front frame rest all counted made is =
    append_assoc front (frame ∷ []) (frames_from from next rest)
    ∙ ap (λ f. front ++ f ∷ frames_from from next rest) made
    ∙ ap (λ n. front ++ frame_of from n e ∷ frames_from from n rest) counted ∙ is

-- ---- each has a spelling

pub one_more_spelled : (from number next : ℕ) (e : Envelope) (rest all : List Envelope)
    → all ≡ e ∷ rest → next ≡ count_on number 1 → HasSpelling (frame_of from next e)
    → All HasSpelling (frames_from from next rest) → All HasSpelling (frames_from from number all)
one_more_spelled from number next e rest all is counted first later =
    All-same HasSpelling (frames_from from number all) (frame_of from next e ∷ frames_from from next rest)
    (ap (frames_from from number) is ∙ ap (λ n. frame_of from n e ∷ frames_from from n rest) (sym counted))
    (All-cons HasSpelling (frame_of from next e) (frames_from from next rest) first later)
