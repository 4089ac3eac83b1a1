-- What the world holds, and the marks, after the next entry was made.
use Rattle.std.proofs.Common.{◌≡◌, ◌≢◌, ◌<◌, ◌+◌, ℕ, suc, List, [], ◌∷◌, ◌++◌, length, map, take, get_or, set, slice_get, Option, Some, sym, subst, ap, ◌∙◌, inl, inr, arith, get_or-set_other, get_or-set_same, Vec, Global}
use Rattle.std.proofs.lemmas.List.{map-append}
use Rattle.std.proofs.lemmas.Bool.{cases_eq}
use Rattle.meta_store.specs.Context.{Reading}
use Rattle.node_core.specs.declared.state.Stepped.{Stepped}
use Rattle.node_core.specs.Growing.{OnlyReadsHandOut}
use Rattle.node_core.specs.Node.{NodeParts}
use Rattle.node_core.specs.Step.{IsNodeStep}
use Rattle.node_events.specs.declared.event.NodeEvent.{NodeEvent}
use Rattle.node_events.specs.declared.reply.Reply.{Reply}
use Rattle.node_events.specs.declared.reply.Reply.TheVariants.{Looked}
use Rattle.restart_images.specs.Node.{context_read}
use Rattle.node_journal.specs.Closed.{ClosedNode}
use Rattle.node_journal.specs.declared.entry.Entry.{Entry}
use Rattle.node_journal.specs.Entry.{stepped_of}
use Rattle.run_record.specs.Giving.{IsHandedOut}
use Rattle.run_record.specs.Journals.{entry_at, journal_of}
use Rattle.run_record.specs.Order.{with_turn}
use Rattle.world_core.specs.declared.answer.Answer.{Answer}
use Rattle.world_core.specs.declared.event.Event.{Event}
use Rattle.world_core.specs.Events.{Doing}
use Rattle.world_core.specs.Numbers.{frames_at, numbered}
use Rattle.world_core.specs.Outcome.{AddsDeed, MakesStep, given_in, list_of, read_after}
use Rattle.world_core.specs.Refusal.{doing_in, node_at}
use Rattle.world_core.specs.World.{World, deeds_in}
use Rattle.world_core.proofs.Lists.{frames_at_end}
use Rattle.run_record.specs.declared.replay.Mark.{Mark}
use Rattle.run_record.specs.Record.{deed}
use Rattle.run_record.specs.Replay.{AreMarks, AsTold, HoldsSoFar, IsEventOf, IsMark, mark_at, mark_in}
use Rattle.run_record.proofs.Numbers.{get_last, get_more, numbered_behind, numbered_last, numbered_more, set_other, set_same, take_here}

-- ---- what the world holds

-- the frames that it sent last are those of the step
sent_last : (old new : World) (n : ℕ) (step : NodeEvent) (answer : Answer)
    → (made : MakesStep old n step answer new)
    → frames_at answer.sent new.frames ≡ made.given.outbox
sent_last old new n step answer made =
    ap (λ (fs : List (List ℕ)). frames_at answer.sent fs) made.frames
    ∙ frames_at_end answer.sent old.frames made.given.outbox
    (ap (λ (a : Answer). a.sent) made.answers)

-- what is told is what the step gave
pub gave : (old new : World) (n : ℕ) (e : Entry) (answer : Answer)
    → (made : MakesStep old n e.event answer new) → AsTold new answer e
    → made.given ≡ stepped_of e
gave old new n e answer made told =
    let reply : made.given.reply ≡ e.reply =
    sym (ap (λ (a : Answer). a.reply) made.answers) ∙ told.0 in
    let outbox : made.given.outbox ≡ e.outbox =
    sym (sent_last old new n e.event answer made) ∙ told.1 in
    λ i. record { reply = reply i; outbox = outbox i }

-- and the other way round
pub told_of : (old new : World) (n : ℕ) (e : Entry) (answer : Answer)
    → (made : MakesStep old n e.event answer new) → made.given ≡ stepped_of e
    → AsTold new answer e
told_of old new n e answer made is = (
  ap (λ (a : Answer). a.reply) made.answers ∙ ap (λ (s : Stepped). s.reply) is,
  sent_last old new n e.event answer made ∙ ap (λ (s : Stepped). s.outbox) is,
)

own_deed : (old new : World) (n : ℕ) (e : Entry) (event : Event) (answer : Answer)
    → IsEventOf old n e.event event → AddsDeed old event answer new → AsTold new answer e
    → deeds_in new n ≡ deeds_in old n ++ deed e ∷ []
own_deed old new n e event answer is adds told =
    let d : (doing_in old event, given_in new answer) ≡ deed e =
    λ i. (is.doing i, record { reply = told.0 i; outbox = told.1 i }) in
    let own = subst
    (λ m. deeds_in new m ≡ deeds_in old m ++ (doing_in old event, given_in new answer) ∷ [])
    is.node adds.own in
    own ∙ ap (λ (x : Doing × Stepped). deeds_in old n ++ x ∷ []) d

pub holds_step : (closed : List ClosedNode) (old new : World) (next : List ℕ) (n : ℕ) (e : Entry)
    (event : Event) (answer : Answer) → HoldsSoFar closed old next → n < length next
    → n < length closed → entry_at closed n (get_or next n 0) ≡ Some e
    → IsEventOf old n e.event event → AddsDeed old event answer new → AsTold new answer e
    → HoldsSoFar closed new (with_turn next n)
holds_step closed old new next n e event answer holds lt in_closed there is adds told k k_in =
    elim (cases_eq k n) [
      | inl same ↦
          let p = get_or next n 0 in
          let here : get_or (set next n (p + 1)) n 0 ≡ p + 1 = rw get_or-set_same in
          let count : suc p ≡ get_or (set next n (p + 1)) n 0 = omega (arith, here) in
          let at_n : deeds_in new n
          ≡ map deed (take (get_or (set next n (p + 1)) n 0) (journal_of closed n)) =
          own_deed old new n e event answer is adds told
          ∙ ap (λ (ds : List (Doing × Stepped)). ds ++ deed e ∷ []) (holds n in_closed)
          ∙ sym (map-append deed (take p (journal_of closed n)) (e ∷ []))
          ∙ ap (λ (es : List Entry). map deed es) (sym (take_here (journal_of closed n) p e there))
          ∙ ap (λ q. map deed (take q (journal_of closed n))) count in
          subst (λ m. deeds_in new m
          ≡ map deed (take (get_or (set next n (p + 1)) m 0) (journal_of closed m))) (sym same)
          at_n
      | inr other ↦
          let ne : k ≢ n = other in
          adds.others k (λ h. ne (sym h ∙ is.node)) ∙ holds k k_in
          ∙ ap (λ q. map deed (take q (journal_of closed k)))
          (sym (get_or-set_other next n k (get_or next n 0 + 1) 0 ne))
    ]

-- ---- marks

mark_more : (old new : World) (fs : List (List ℕ)) (cs : List Reading) (e : Entry) (mark : Mark)
    → new.frames ≡ old.frames ++ fs → new.contexts ≡ old.contexts ++ cs → IsMark old e mark
    → IsMark new e mark
mark_more old new fs cs e mark frames contexts is = record {
  frames = λ k frame at. ap (λ (l : List (List ℕ)). numbered l (mark.first + k)) frames
      ∙ numbered_more old.frames fs (mark.first + k) frame (is.frames k frame at);
  read = λ c out.
      let r = is.read c out in (
        r.0,
        (
          r.1.0,
          ap (λ (l : List Reading). numbered l r.0) contexts
              ∙ numbered_more old.contexts cs r.0 c r.1.1,
        ),
      );
}

-- what a reply hands out is the context of the read
handed : (s new : NodeParts) (event : NodeEvent) (given : Stepped) (c : Reading) (r : Reply)
    → OnlyReadsHandOut → IsNodeStep s event new given → given.reply ≡ r → IsHandedOut c r
    → context_read event s ≡ Some c
handed s new event given c (Looked values context) only makes is out =
    let read = only s event new given values context makes is in
    ap (λ (x : NodeEvent). context_read x s) read.1.0
    ∙ ap (λ (x : Reading). Some x) (sym read.1.1 ∙ out)
handed s new event given c _ only makes is out = absurd out

pub new_mark : (old new : World) (n : ℕ) (e : Entry) (answer : Answer) (mark : Mark)
    → OnlyReadsHandOut → (made : MakesStep old n e.event answer new)
    → made.given ≡ stepped_of e → mark.first ≡ answer.sent.first → mark.read ≡ answer.read
    → IsMark new e mark
new_mark old new n e answer mark only made is first read = record {
  frames = λ k frame at.
      let start : mark.first ≡ length old.frames + 1 =
      first ∙ ap (λ (a : Answer). a.sent.first) made.answers in
      let outbox : made.given.outbox ≡ e.outbox = ap (λ (s : Stepped). s.outbox) is in
      ap (λ (l : List (List ℕ)). numbered l (mark.first + k)) made.frames
      ∙ ap (λ m. numbered (old.frames ++ made.given.outbox) (m + k)) start
      ∙ numbered_behind old.frames made.given.outbox k
      ∙ ap (λ (l : List (List ℕ)). slice_get l k) outbox ∙ at;
  read = λ c out.
      let s = (node_at old n).state in
      let looked = handed s made.state e.event made.given c e.reply only made.makes
      (ap (λ (g : Stepped). g.reply) is) out in (
        length old.contexts + 1,
        (
          read ∙ ap (λ (a : Answer). a.read) made.answers
              ∙ ap (λ (o : Option Reading). read_after old.contexts o) looked,
          ap (λ (l : List Reading). numbered l (length old.contexts + 1))
              (made.contexts ∙ ap (λ (o : Option Reading). old.contexts ++ list_of o) looked)
              ∙ numbered_last old.contexts c,
        ),
      );
}

in_row : (o : Option (Vec Mark Global)) (row : Vec Mark Global) (q : ℕ) → o ≡ Some row
    → mark_in o q ≡ slice_get row.items q
in_row o row q is = ap (λ (x : Option (Vec Mark Global)). mark_in x q) is

pub marks_step : (closed : List ClosedNode) (old new : World) (next : List ℕ)
    (marks : List (Vec Mark Global)) (n : ℕ) (e : Entry) (mark : Mark) (fs : List (List ℕ))
    (cs : List Reading) (row more : Vec Mark Global) → AreMarks closed old next marks
    → n < length next → n < length marks → entry_at closed n (get_or next n 0) ≡ Some e
    → new.frames ≡ old.frames ++ fs → new.contexts ≡ old.contexts ++ cs → IsMark new e mark
    → slice_get marks n ≡ Some row → length row.items ≡ get_or next n 0
    → more.items ≡ row.items ++ mark ∷ []
    → AreMarks closed new (with_turn next n) (set marks n more)
marks_step closed old new next marks n e mark fs cs row more are lt in_marks there frames contexts
    is at_n len items m q x less at = elim (cases_eq m n) [
      | inl same ↦
          let p = get_or next n 0 in
          let here : get_or (set next n (p + 1)) n 0 ≡ p + 1 = rw get_or-set_same in
          let less_n : q < get_or (set next n (p + 1)) n 0 =
          subst (λ k. q < get_or (set next n (p + 1)) k 0) same less in
          let at_m : entry_at closed n q ≡ Some x =
          subst (λ k. entry_at closed k q ≡ Some x) same at in
          let in_more : mark_at (set marks n more) n q ≡ slice_get more.items q =
          in_row (slice_get (set marks n more) n) more q (set_same marks n more in_marks) in
          let there_m : mark_at (set marks n more) m q ≡ slice_get more.items q =
          ap (λ k. mark_at (set marks n more) k q) same ∙ in_more in
          elim (cases_eq q p) [
            | inl last ↦
                let x_is : x ≡ e = cc (at_m, there, last) in
                let q_is : q ≡ length row.items = last ∙ sym len in (
                  mark,
                  (
                    there_m ∙ ap (λ (l : List Mark). slice_get l q) items
                        ∙ ap (λ k. slice_get (row.items ++ mark ∷ []) k) q_is ∙ get_last row.items mark,
                    subst (λ (y : Entry). IsMark new y mark) (sym x_is) is,
                  ),
                )
            | inr before ↦
                let r = are n q x (omega (arith, less_n, here, before)) at_m in
                let in_old : slice_get row.items q ≡ Some r.0 =
                sym (in_row (slice_get marks n) row q at_n) ∙ r.1.0 in (
                  r.0,
                  (
                    there_m ∙ ap (λ (l : List Mark). slice_get l q) items
                        ∙ get_more row.items (mark ∷ []) q r.0 in_old,
                    mark_more old new fs cs x r.0 frames contexts r.1.1,
                  ),
                )
          ]
      | inr other ↦
          let ne : m ≢ n = other in
          let less_old : q < get_or next m 0 =
          subst (λ v. q < v) (get_or-set_other next n m (get_or next n 0 + 1) 0 ne) less in
          let r = are m q x less_old at in (
            r.0,
            (
              ap (λ (o : Option (Vec Mark Global)). mark_in o q) (set_other marks n m more ne) ∙ r.1.0,
              mark_more old new fs cs x r.0 frames contexts r.1.1,
            ),
          )
    ]
