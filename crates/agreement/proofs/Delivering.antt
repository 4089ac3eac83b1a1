-- All frames of an exchange are delivered, round by round, whatever happens at other nodes meanwhile.
use Rattle.std.proofs.Common.{◌≡◌, ◌≢◌, ℕ, ◌<◌, Bool, true, false, cond, eqb, List, [], ◌∷◌, ◌++◌, append-nil, append_assoc, All, Ok, refl, sym, ap, subst, ◌∙◌}
use Rattle.std.proofs.lemmas.Bool.{eq-eqb, or_left, or_right}
use Rattle.std.proofs.lemmas.List.Elements.{All-cons, All-head, All-nil, All-tail, All-weaker}
use Rattle.meta_frame.specs.declared.message.Message.{Message}
use Rattle.meta_frame.specs.declared.message.Message.TheVariants.{XRoot}
use Rattle.meta_store.specs.Table.{IsTable, Table}
use Rattle.hash_tree.specs.Tree.{rows_of, tree_root}
use Rattle.exchange.specs.Answers.{answers_to}
use Rattle.exchange.specs.Whole.{answers_in_turn, answers_to_all, here_after, offers, table_after, table_after_all, there_after, wanted}
use Rattle.world_core.specs.declared.answer.Accepted.{Accepted}
use Rattle.world_core.specs.Events.{node_of_event}
use Rattle.world_core.specs.Outcome.{Outcome}
use Rattle.world_core.specs.Refusal.{node_at, table_at}
use Rattle.world_core.specs.World.{World}
use Rattle.world_core.proofs.Lists.{pairwise_append}
use Rattle.agreement.specs.Rounds.{Exchange, takes_part}
use Rattle.agreement.specs.World.{AcceptsAll, DeliverAll, Exchanges, IsWholeExchange, events_of_two, numbers_of}
use Rattle.agreement.proofs.Moving.{Began, Moves, PassesBy, Stands, began, delivered, passed_by}
use Rattle.agreement.proofs.Pending.{ArePending, IsPending, pending_longer}
use Rattle.agreement.proofs.Rounding.{AreTables, BringsObject, HasDigests, IsBucket, IsInner, IsLeaves, IsOfExchange, IsOffer, IsPrefixes, IsRoot, buckets_answer, buckets_are, digests_are, inner_answer, inner_are, leaves_answer, leaves_are, no_turns, objects_answer, objects_are, offers_answer, offers_are, prefixes_answer, prefixes_are, quiet_all, quiet_turns, roots_are, turns_answer}

-- each of the two takes part
pub one_part : (e : Exchange) → takes_part e e.one ≡ true
one_part e = or_left (eqb e.one e.one) (eqb e.one e.other) (eq-eqb e.one e.one refl)

pub other_part : (e : Exchange) → takes_part e e.other ≡ true
other_part e = or_right (eqb e.other e.one) (eqb e.other e.other) (eq-eqb e.other e.other refl)

-- the events of the two, if one more event comes first
abbrev with_event : Exchange → Accepted → List Accepted → Bool → List Accepted
with_event e a later part = cond part (a ∷ events_of_two e later) (events_of_two e later)

module _ (e : Exchange) (count : ℕ) (end : World) where
  -- ---- one round

  -- these messages were taken one after another; behind what else was pending, their answers are
  record Took (old : World) (from to : ℕ) (ms replies : List Message) : Type 0 where
    mid : World
    rest : List Accepted
    left : List ℕ
    stands : Stands e count mid
    tables : AreTables (table_at old to) ms
    held : table_at mid to ≡ table_after_all (table_at old to) ms
    stays : node_at mid from ≡ node_at old from
    pending : ArePending mid to from left (replies ++ answers_in_turn (table_at old to) ms)
    deliver : DeliverAll left (events_of_two e rest)
    accepts : AcceptsAll mid rest end

  module _ (from to : ℕ) (apart : from ≢ to) (sends : takes_part e from ≡ true) (takes : takes_part e to ≡ true) (low : to < count) where
    -- what was taken after an event of another node was taken after what was there before it
    passing : (old next : World) → PassesBy e count old next → (ms replies : List Message) → Took next from to ms replies → Took old from to ms replies
    passing old next by ms replies t =
        let same : table_at next to ≡ table_at old to = ap (λ n. n.state.table) (by.same to takes) in
        record {
          mid = t.mid;
          rest = t.rest;
          left = t.left;
          stands = t.stands;
          tables = subst (λ u. AreTables u ms) same t.tables;
          held = t.held ∙ ap (λ u. table_after_all u ms) same;
          stays = t.stays ∙ by.same from sends;
          pending = subst (λ u. ArePending t.mid to from t.left (replies ++ answers_in_turn u ms)) same t.pending;
          deliver = t.deliver;
          accepts = t.accepts;
        }

    -- and what was taken after a message was taken with it
    adding : (old next : World) (m : Message) (ms replies : List Message) → Stands e count next
        → table_at next to ≡ table_after (table_at old to) m → node_at next from ≡ node_at old from
        → Took next from to ms (replies ++ answers_to (table_after (table_at old to) m) m) → Took old from to (m ∷ ms) replies
    adding old next m ms replies stands held stays t =
        let u : Table = table_after (table_at old to) m in
        record {
          mid = t.mid;
          rest = t.rest;
          left = t.left;
          stands = t.stands;
          tables = (subst IsTable held (stands.tables to takes low), subst (λ v. AreTables v ms) held t.tables);
          held = t.held ∙ ap (λ v. table_after_all v ms) held;
          stays = t.stays ∙ stays;
          pending = subst (ArePending t.mid to from t.left)
              (append_assoc replies (answers_to u m) (answers_in_turn (table_at next to) ms) ∙ ap (λ v. replies ++ (answers_to u m ++ answers_in_turn v ms)) held)
              t.pending;
          deliver = t.deliver;
          accepts = t.accepts;
        }

    -- message by message: the oldest is delivered, and its answers go behind the others
    took : (ms : List Message) → All IsOfExchange ms → (old : World) → Stands e count old
        → (numbers : List ℕ) → ArePending old from to numbers ms → (behind : List ℕ) (replies : List Message) → ArePending old to from behind replies
        → (run : List Accepted) → DeliverAll (numbers ++ behind) (events_of_two e run) → AcceptsAll old run end → Took old from to ms replies
    took [] all old stands (number ∷ numbers) pending behind replies after run deliver accepts = absurd pending
    took (m ∷ ms) all old stands [] pending behind replies after run deliver accepts = absurd pending
    took (m ∷ ms) all old stands (number ∷ numbers) pending behind replies after [] deliver accepts = absurd deliver
    took [] all old stands [] pending behind replies after run deliver accepts = record {
      mid = old;
      rest = run;
      left = behind;
      stands = stands;
      tables = tt;
      held = refl;
      stays = refl;
      pending = subst (ArePending old to from behind) (sym (append-nil replies)) after;
      deliver = deliver;
      accepts = accepts;
    }
    took (m ∷ ms) all old stands (number ∷ numbers) pending behind replies after (a ∷ later) deliver accepts =
        elim (takes_part e (node_of_event a.event)) as (λ b. takes_part e (node_of_event a.event) ≡ b → DeliverAll ((number ∷ numbers) ++ behind) (with_event e a later b) → Took old from to (m ∷ ms) replies) [
          | true ↦ λ part deliver.
              let next : World = accepts.0 in
              let sent : List ℕ = numbers_of a.answer.sent in
              let u : Table = table_after (table_at old to) m in
              let moved : Moves e count old to from (table_after (table_at old to) m) (answers_to (table_after (table_at old to) m) m) a.answer next =
              delivered e count old next a.event a.answer stands part from to number m pending.0 (All-head IsOfExchange m ms all) deliver.0 accepts.1.0.comes in
              adding old next m ms replies moved.stands moved.held (moved.others from apart)
              (took ms (All-tail IsOfExchange m ms all) next moved.stands numbers (pending_longer old next moved.more moved.frames from to numbers ms pending.1)
              (behind ++ sent) (replies ++ answers_to u m)
              (pairwise_append (IsPending next to from) behind sent replies (answers_to u m)
              (pending_longer old next moved.more moved.frames to from behind replies after) moved.pending)
              later (subst (λ all. DeliverAll all (events_of_two e later)) (append_assoc numbers behind sent) deliver.1) accepts.1.1)
          | false ↦ λ idle deliver.
              let next : World = accepts.0 in
              let by : PassesBy e count old next = passed_by e count old next a.event a.answer stands idle accepts.1.0.comes in
              passing old next by (m ∷ ms) replies
              (took (m ∷ ms) all next by.stands (number ∷ numbers) (pending_longer old next by.more by.frames from to (number ∷ numbers) (m ∷ ms) pending)
              behind replies (pending_longer old next by.more by.frames to from behind replies after) later deliver accepts.1.1)
        ] refl deliver

  -- ---- round after round

  -- one node has sent these messages to another, and these are all that is pending
  pub record Round (from to : ℕ) (its others : Table) (ms : List Message) : Type 0 where
    pub now : World
    pub run : List Accepted
    pub numbers : List ℕ
    pub stands : Stands e count now
    pub pending : ArePending now from to numbers ms
    pub deliver : DeliverAll numbers (events_of_two e run)
    pub accepts : AcceptsAll now run end
    pub sender : table_at now from ≡ its
    pub addressee : table_at now to ≡ others

  module _ (from to : ℕ) (apart : from ≢ to) (sends : takes_part e from ≡ true) (takes : takes_part e to ≡ true) (low : to < count) (its others : Table) where
    -- the other node takes all of them, and has sent the answers
    round : (ms : List Message) → All IsOfExchange ms → Round from to its others ms
        → Round to from (table_after_all others ms) its (answers_in_turn others ms) × AreTables others ms
    round ms all r =
        let t : Took r.now from to ms [] =
        took from to apart sends takes low ms all r.now r.stands r.numbers r.pending [] [] tt r.run (subst (λ ns. DeliverAll ns (events_of_two e r.run)) (sym (append-nil r.numbers)) r.deliver) r.accepts in (
          record {
            now = t.mid;
            run = t.rest;
            numbers = t.left;
            stands = t.stands;
            pending = subst (λ u. ArePending t.mid to from t.left (answers_in_turn u ms)) r.addressee t.pending;
            deliver = t.deliver;
            accepts = t.accepts;
            sender = t.held ∙ ap (λ u. table_after_all u ms) r.addressee;
            addressee = ap (λ n. n.state.table) t.stays ∙ r.sender;
          },
          subst (λ u. AreTables u ms) r.addressee t.tables,
        )

    -- a round of digests: what is held stays, and what is sent is of the next round
    quiet_round : (P Q : Message → Type 0) → ((m : Message) → P m → HasDigests m) → ((t : Table) → IsTable t → (m : Message) → P m → All Q (answers_to t m))
        → (ms : List Message) → All P ms → Round from to its others ms → Round to from others its (answers_to_all others ms) × All Q (answers_to_all others ms)
    quiet_round P Q digests each ms all r =
        let have : All HasDigests ms = All-weaker P HasDigests digests ms all in
        let next = round ms (All-weaker HasDigests IsOfExchange digests_are ms have) r in (
          subst (λ u. Round to from u its (answers_to_all others ms)) (quiet_all ms others have)
              (subst (Round to from (table_after_all others ms) its) (quiet_turns ms others have) next.0),
          subst (All Q) (quiet_turns ms others have) (turns_answer P Q each ms others next.1 all),
        )

  -- ---- all rounds

  module _ (apart : e.one ≢ e.other) (low : e.one < count) (high : e.other < count) (here there : Table) where
    back : e.other ≢ e.one
    back same = apart (sym same)

    -- after five rounds of digests the one is offered what the other holds
    offered : Round e.one e.other here there (XRoot (tree_root (rows_of here)) ∷ []) → Round e.other e.one there here (offers here there) × All IsOffer (offers here there)
    unfolding offers
    offered begun =
        let root : Message = XRoot (tree_root (rows_of here)) in
        let prefixes : List Message = answers_to there root in
        let inner : List Message = answers_to_all here prefixes in
        let leaves : List Message = answers_to_all there inner in
        let buckets : List Message = answers_to_all here leaves in
        let first = quiet_round e.one e.other apart (one_part e) (other_part e) high here there IsRoot IsPrefixes roots_are prefixes_answer
        (root ∷ []) (All-cons IsRoot root [] tt (All-nil IsRoot)) begun in
        let alone : answers_to_all there (root ∷ []) ≡ prefixes = append-nil prefixes in
        let second = quiet_round e.other e.one back (other_part e) (one_part e) low there here IsPrefixes IsInner prefixes_are inner_answer prefixes
        (subst (All IsPrefixes) alone first.1) (subst (Round e.other e.one there here) alone first.0) in
        let third = quiet_round e.one e.other apart (one_part e) (other_part e) high here there IsInner IsLeaves inner_are leaves_answer inner second.1 second.0 in
        let fourth = quiet_round e.other e.one back (other_part e) (one_part e) low there here IsLeaves IsBucket leaves_are buckets_answer leaves third.1 third.0 in
        quiet_round e.one e.other apart (one_part e) (other_part e) high here there IsBucket IsOffer buckets_are offers_answer buckets fourth.1 fourth.0

    -- the one takes that, and the other what the one answers; then nothing is pending
    given : (offered : List Message) → Round e.other e.one there here offered × All IsOffer offered
        → Round e.other e.one (table_after_all there (answers_in_turn here offered)) (table_after_all here offered) []
    given offered r =
        let wants : List Message = answers_in_turn here offered in
        let taken = round e.other e.one back (other_part e) (one_part e) low there here offered (All-weaker IsOffer IsOfExchange offers_are offered r.1) r.0 in
        let objects : All BringsObject wants = turns_answer IsOffer BringsObject objects_answer offered here taken.1 r.1 in
        let last = round e.one e.other apart (one_part e) (other_part e) high (table_after_all here offered) there wants (All-weaker BringsObject IsOfExchange objects_are wants objects) taken.0 in
        subst (Round e.other e.one (table_after_all there wants) (table_after_all here offered)) (no_turns wants there objects) last.0

  -- ---- the end

  -- the two hold these tables at the end
  pub record Ended (here there : Table) : Type 0 where
    pub stands : Stands e count end
    pub here_held : table_at end e.one ≡ here
    pub there_held : table_at end e.other ≡ there

  -- where nothing is pending all further events are of other nodes
  nothing_left : (w : World) → Stands e count w → (run : List Accepted) → DeliverAll [] (events_of_two e run) → AcceptsAll w run end
      → Ended (table_at w e.one) (table_at w e.other)
  nothing_left w stands [] deliver accepts = record {
    stands = subst (Stands e count) (sym accepts) stands;
    here_held = ap (λ v. table_at v e.one) accepts;
    there_held = ap (λ v. table_at v e.other) accepts;
  }
  nothing_left w stands (a ∷ run) deliver accepts =
      elim (takes_part e (node_of_event a.event)) as (λ b. takes_part e (node_of_event a.event) ≡ b → DeliverAll [] (with_event e a run b) → Ended (table_at w e.one) (table_at w e.other)) [
        | true ↦ λ part deliver. absurd deliver
        | false ↦ λ idle deliver.
            let by : PassesBy e count w accepts.0 = passed_by e count w accepts.0 a.event a.answer stands idle accepts.1.0.comes in
            let rest : Ended (table_at accepts.0 e.one) (table_at accepts.0 e.other) = nothing_left accepts.0 by.stands run deliver accepts.1.1 in
            record {
              stands = rest.stands;
              here_held = rest.here_held ∙ ap (λ n. n.state.table) (by.same e.one (one_part e));
              there_held = rest.there_held ∙ ap (λ n. n.state.table) (by.same e.other (other_part e));
            }
      ] refl deliver

  empty_left : (w : World) (from to : ℕ) (numbers : List ℕ) (run : List Accepted) → ArePending w from to numbers [] → DeliverAll numbers run → DeliverAll [] run
  empty_left w from to (number ∷ numbers) run pending deliver = absurd pending
  empty_left w from to [] run pending deliver = deliver

  -- from the root on, round by round
  all_rounds : e.one ≢ e.other → e.one < count → e.other < count → (here there : Table)
      → Round e.one e.other here there (XRoot (tree_root (rows_of here)) ∷ []) → Ended (here_after here there) (there_after here there)
  unfolding here_after there_after wanted
  all_rounds apart low high here there begun =
      let r = given apart low high here there (offers here there) (offered apart low high here there begun) in
      let over = nothing_left r.now r.stands r.run (empty_left r.now e.other e.one r.numbers (events_of_two e r.run) r.pending r.deliver) r.accepts in
      record { stands = over.stands; here_held = over.here_held ∙ r.addressee; there_held = over.there_held ∙ r.sender }

  -- ---- from its begin

  -- both are nodes of the world, and they end with what the exchange of their tables leaves
  pub record Finished (old : World) : Type 0 where
    pub one : e.one < count
    pub other : e.other < count
    pub ended : Ended (here_after (table_at old e.one) (table_at old e.other)) (there_after (table_at old e.one) (table_at old e.other))

  -- the first event of the two begins it
  finished_from : (old : World) → Stands e count old → (first : Accepted) (later : List Accepted) → takes_part e (node_of_event first.event) ≡ true
      → IsWholeExchange e (first ∷ events_of_two e later) → AcceptsAll old (first ∷ later) end → Finished old
  finished_from old stands first later part whole accepts =
      let mid : World = accepts.0 in
      let b : Began e count old first.answer mid =
      began e count old mid first.answer stands (one_part e) (subst (λ event. Outcome old event (Ok first.answer) mid) whole.0 accepts.1.0.comes) in
      record {
        one = b.one;
        other = b.other;
        ended = all_rounds (λ same. b.apart (sym same)) b.one b.other (table_at old e.one) (table_at old e.other)
            (record {
              now = mid;
              run = later;
              numbers = numbers_of first.answer.sent;
              stands = b.moves.stands;
              pending = b.moves.pending;
              deliver = whole.1;
              accepts = accepts.1.1;
              sender = b.moves.held;
              addressee = ap (λ n. n.state.table) (b.moves.others e.other b.apart);
            });
      }

  -- event by event: those of other nodes before it pass by
  finished_by : (old : World) → Stands e count old → (run : List Accepted) → IsWholeExchange e (events_of_two e run) → AcceptsAll old run end → Finished old
  finished_by old stands [] whole accepts = absurd whole
  finished_by old stands (a ∷ run) whole accepts =
      elim (takes_part e (node_of_event a.event)) as (λ b. takes_part e (node_of_event a.event) ≡ b → IsWholeExchange e (with_event e a run b) → Finished old) [
        | true ↦ λ part whole. finished_from old stands a run part whole accepts
        | false ↦ λ idle whole.
            let by : PassesBy e count old accepts.0 = passed_by e count old accepts.0 a.event a.answer stands idle accepts.1.0.comes in
            let f : Finished accepts.0 = finished_by accepts.0 by.stands run whole accepts.1.1 in
            let here : table_at accepts.0 e.one ≡ table_at old e.one = ap (λ n. n.state.table) (by.same e.one (one_part e)) in
            let there : table_at accepts.0 e.other ≡ table_at old e.other = ap (λ n. n.state.table) (by.same e.other (other_part e)) in
            record {
              one = f.one;
              other = f.other;
              ended = subst (λ t. Ended (here_after t (table_at old e.other)) (there_after t (table_at old e.other))) here
                  (subst (λ t. Ended (here_after (table_at accepts.0 e.one) t) (there_after (table_at accepts.0 e.one) t)) there f.ended);
            }
      ] refl whole

-- what a whole exchange leaves
pub finished : (e : Exchange) (count : ℕ) (old new : World) → Stands e count old → Exchanges old e new → Finished e count new old
finished e count old new stands ran = finished_by e count new old stands ran.accepted ran.whole ran.accepts
