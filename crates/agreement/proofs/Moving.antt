-- A world after an event: of another node than the two of an exchange, or of one of the two, which
-- began it or took a message of it.
use Rattle.std.proofs.Common.{◌≡◌, ◌≢◌, ℕ, ◌+◌, ◌<◌, true, false, eqb, List, [], ◌∷◌, ◌++◌, length, append-nil, map, Some, unwrap_or, Ok, inl, inr, refl, sym, ap, subst, ◌∙◌}
use Rattle.std.specs.List.{range_with_len}
use Rattle.std.specs.Prelude.{get_or}
use Rattle.std.proofs.lemmas.Bool.{cases_lt, eqb-false, eqb-true}
use Rattle.std.proofs.lemmas.List.{get_or-set_same, get_or-set_other, length-set}
use Rattle.meta_frame.specs.declared.message.Message.{Message}
use Rattle.meta_frame.specs.declared.message.Message.TheVariants.{XRoot}
use Rattle.meta_frame.specs.Frame.{spelling}
use Rattle.meta_store.specs.Table.{IsTable, Table}
use Rattle.hash_tree.specs.Tree.{rows_of, tree_root}
use Rattle.exchange.specs.Answers.{answers_to}
use Rattle.exchange.specs.Whole.{table_after}
use Rattle.node_events.specs.Event.{stored_key}
use Rattle.node_events.specs.declared.event.NodeEvent.{NodeEvent}
use Rattle.node_events.specs.declared.event.NodeEvent.TheVariants as OfNode
use Rattle.node_overlay.specs.Outbox.{frames_from}
use Rattle.node_overlay.specs.Overlay.{envelope}
use Rattle.restart_images.specs.Node.{ImagedNode, arrived, new_node}
use Rattle.world_core.specs.declared.answer.Answer.{Answer}
use Rattle.world_core.specs.declared.answer.FrameNumbers.{FrameNumbers}
use Rattle.world_core.specs.declared.event.Event.{Event}
use Rattle.world_core.specs.declared.event.Event.TheVariants as events
use Rattle.world_core.specs.declared.fault.WorldFault.TheVariants.{NoSuchNode}
use Rattle.world_core.specs.Events.{Begin, Doing, Step, node_of_event}
use Rattle.world_core.specs.Numbers.{numbered}
use Rattle.world_core.specs.Outcome.{Accepts, Makes, MakesStep, Outcome, next_frames, with_node}
use Rattle.world_core.specs.Refusal.{doing_in, node_at, table_at}
use Rattle.world_core.specs.World.{World}
use Rattle.world_core.proofs.Refusing.{has_node}
use Rattle.agreement.specs.Rounds.{Exchange, takes_part}
use Rattle.agreement.specs.World.{IsDeliveryOf, numbers_of}
use Rattle.agreement.proofs.Pending.{ArePending, IsPending, sent_pending}
use Rattle.agreement.proofs.Rounding.{IsOfExchange}
use Rattle.agreement.proofs.Stepping.{Sends, begins, takes}

-- what a world keeps to while two of its nodes exchange: its nodes are these many, and each of the
-- two is the one of its number and holds a table
pub record Stands (e : Exchange) (count : ℕ) (w : World) : Type 0 where
  pub many : length w.nodes ≡ count
  pub numbers : (n : ℕ) → takes_part e n ≡ true → n < count → (node_at w n).state.node ≡ n
  pub tables : (n : ℕ) → takes_part e n ≡ true → n < count → IsTable (table_at w n)

-- ---- any event

-- one node is this one now, and what was sent stands behind all frames
pub record Changes (old : World) (n : ℕ) (answer : Answer) (new : World) : Type 0 where
  pub node : ImagedNode
  pub nodes : new.nodes ≡ with_node old n node
  pub more : List (List ℕ)
  pub frames : new.frames ≡ old.frames ++ more
  pub sent : answer.sent ≡ next_frames old (length more)

-- so it is after each step, and after each restart
pub changes : (old : World) (n : ℕ) (doing : Doing) (answer : Answer) (new : World) → Makes old n doing answer new → Changes old n answer new
changes old n (Step step) answer new makes = record {
  node = arrived makes.state (stored_key step) (node_at old n);
  nodes = makes.nodes;
  more = makes.given.outbox;
  frames = makes.frames;
  sent = ap (λ (a : Answer). a.sent) makes.answers;
}
changes old n (Begin image) answer new makes = record {
  node = makes.node;
  nodes = makes.nodes;
  more = [];
  frames = makes.frames ∙ sym (append-nil old.frames);
  sent = ap (λ (a : Answer). a.sent) makes.answers;
}

-- all other nodes are as before
pub elsewhere : (old : World) (n : ℕ) (answer : Answer) (new : World) → Changes old n answer new → (m : ℕ) → m ≢ n → node_at new m ≡ node_at old m
elsewhere old n answer new c m other = ap (λ ns. get_or ns m (new_node m)) c.nodes ∙ get_or-set_other old.nodes n m c.node (new_node m) other

-- ---- an event of another node

-- the two are as before
pub record PassesBy (e : Exchange) (count : ℕ) (old new : World) : Type 0 where
  pub stands : Stands e count new
  pub same : (n : ℕ) → takes_part e n ≡ true → node_at new n ≡ node_at old n
  pub more : List (List ℕ)
  pub frames : new.frames ≡ old.frames ++ more

pub passed_by : (e : Exchange) (count : ℕ) (old new : World) (event : Event) (answer : Answer) → Stands e count old → takes_part e (node_of_event event) ≡ false
    → Outcome old event (Ok answer) new → PassesBy e count old new
unfolding Outcome
passed_by e count old new event answer stands idle accepts =
    let c : Changes old (node_of_event event) answer new = changes old (node_of_event event) (doing_in old event) answer new accepts.makes in
    let same : (n : ℕ) → takes_part e n ≡ true → node_at new n ≡ node_at old n =
    λ n part. elsewhere old (node_of_event event) answer new c n (λ at.
    let both : true ≡ false = sym part ∙ ap (takes_part e) at ∙ idle in
    absurd (cc)) in
    record {
      stands = record {
        many = ap length c.nodes ∙ length-set old.nodes (node_of_event event) c.node ∙ stands.many;
        numbers = λ n part low. subst (λ (m : ImagedNode). m.state.node ≡ n) (sym (same n part)) (stands.numbers n part low);
        tables = λ n part low. subst (λ (m : ImagedNode). IsTable m.state.table) (sym (same n part)) (stands.tables n part low);
      };
      same = same;
      more = c.more;
      frames = c.frames;
    }

-- ---- an event of one of the two

-- the node holds this table, and has sent these messages to another; all other nodes are as before
pub record Moves (e : Exchange) (count : ℕ) (old : World) (n to : ℕ) (table : Table) (ms : List Message) (answer : Answer) (new : World) : Type 0 where
  pub stands : Stands e count new
  pub held : table_at new n ≡ table
  pub others : (m : ℕ) → m ≢ n → node_at new m ≡ node_at old m
  pub more : List (List ℕ)
  pub frames : new.frames ≡ old.frames ++ more
  pub pending : ArePending new n to (numbers_of answer.sent) ms

module _ (old new : World) (its : ℕ) (answer : Answer) (step : NodeEvent) (makes : MakesStep old its step answer new) (low : its < length old.nodes) where
  -- the node after its step
  abbrev node : ImagedNode
  node = arrived makes.state (stored_key step) (node_at old its)

  -- the node is that one, and all others are as before
  pub here : node_at new its ≡ arrived makes.state (stored_key step) (node_at old its)
  here = ap (λ ns. get_or ns its (new_node its)) makes.nodes ∙ get_or-set_same old.nodes its node (new_node its) low

  pub others : (m : ℕ) → m ≢ its → node_at new m ≡ node_at old m
  others m other = ap (λ ns. get_or ns m (new_node m)) makes.nodes ∙ get_or-set_other old.nodes its m node (new_node m) other

  -- what holds of the node and held of all nodes holds of all
  pub at_each : (P : ℕ → ImagedNode → Type 0) → P its (arrived makes.state (stored_key step) (node_at old its)) → ((m : ℕ) → P m (node_at old m)) → (m : ℕ) → P m (node_at new m)
  at_each P own all m =
      elim (eqb m its) as (λ b. eqb m its ≡ b → P m (node_at new m)) [
        | true ↦ λ same. subst (λ i. P i (node_at new i)) (sym (eqb-true m its same)) (subst (P its) (sym here) own)
        | false ↦ λ apart. subst (P m) (sym (others m (eqb-false m its apart))) (all m)
      ] refl

  -- there are as many nodes as before
  pub as_many : length new.nodes ≡ length old.nodes
  as_many = ap length makes.nodes ∙ length-set old.nodes its node

  -- the numbers of what it sent are the next ones
  pub sent_numbers : answer.sent ≡ next_frames old (length makes.given.outbox)
  sent_numbers = ap (λ (a : Answer). a.sent) makes.answers

module _ (e : Exchange) (count : ℕ) (old new : World) (stands : Stands e count old) (its : ℕ) (part : takes_part e its ≡ true) (answer : Answer) (step : NodeEvent)
    (makes : MakesStep old its step answer new) (low : its < length old.nodes) where
  module _ (to : ℕ) (table : Table) (ms : List Message) (sends : Sends (node_at old its).state makes.state makes.given to table ms) (is_table : IsTable makes.state.table) where
    less : its < count
    less = subst (λ c. its < c) stands.many low

    -- the world keeps to what it kept to
    still : Stands e count new
    still = record {
      many = as_many old new its answer step makes low ∙ stands.many;
      numbers = at_each old new its answer step makes low (λ m (n : ImagedNode). takes_part e m ≡ true → m < count → n.state.node ≡ m) (λ _ _. sends.node ∙ stands.numbers its part less) stands.numbers;
      tables = at_each old new its answer step makes low (λ m (n : ImagedNode). takes_part e m ≡ true → m < count → IsTable n.state.table) (λ _ _. is_table) stands.tables;
    }

    -- what the node sent is pending
    pending : ArePending new its to (numbers_of answer.sent) ms
    pending =
        let own = (node_at old its).state in
        let frames : new.frames ≡ old.frames ++ map spelling (frames_from own.node own.frames (map (envelope to) ms)) =
        makes.frames ∙ ap (λ more. old.frames ++ more) sends.sent in
        let numbers : answer.sent ≡ next_frames old (length (map spelling (frames_from own.node own.frames (map (envelope to) ms)))) =
        sent_numbers old new its answer step makes low ∙ ap (λ (more : List (List ℕ)). next_frames old (length more)) sends.sent in
        subst (λ (sent : FrameNumbers). ArePending new its to (numbers_of sent) ms) (sym numbers)
        (subst (λ i. ArePending new i to (range_with_len (length old.frames + 1) (length (map spelling (frames_from own.node own.frames (map (envelope to) ms))))) ms) (stands.numbers its part less)
        (sent_pending new own.node to ms own.frames old.frames frames sends.lawful))

    -- so the node has moved
    moves : Moves e count old its to table ms answer new
    moves = record {
      stands = still;
      held = ap (λ (n : ImagedNode). n.state.table) (here old new its answer step makes low) ∙ sends.held;
      others = others old new its answer step makes low;
      more = makes.given.outbox;
      frames = makes.frames;
      pending = pending;
    }

-- ---- a message is delivered

-- the node that a frame of an exchange names took it, and answered it from what it then held
pub delivered : (e : Exchange) (count : ℕ) (old new : World) (event : Event) (answer : Answer) → Stands e count old → takes_part e (node_of_event event) ≡ true
    → (from to number : ℕ) (m : Message) → IsPending old from to number m → IsOfExchange m → IsDeliveryOf number event → Outcome old event (Ok answer) new
    → Moves e count old to from (table_after (table_at old to) m) (answers_to (table_after (table_at old to) m) m) answer new
unfolding Outcome
delivered e count old new (events.Deliver f n word) answer stands part from to number m is of same accepts =
    let there : numbered old.frames f ≡ Some is.there.bytes = ap (numbered old.frames) same ∙ is.there.there in
    let low : n < length old.nodes = has_node old (events.Deliver f n word) accepts.no_refusal in
    let makes : MakesStep old n (OfNode.Take is.there.bytes word) answer new =
    subst (λ o. MakesStep old n (OfNode.Take (unwrap_or o []) word) answer new) there accepts.makes in
    let less : n < count = subst (λ c. n < c) stands.many low in
    let took = takes (node_at old n).state makes.state is.there.bytes word makes.given is.frame is.there.spelled (subst IsOfExchange (sym is.message) of) makes.makes in
    let here : n ≡ to = sym (stands.numbers n part less) ∙ sym took.to ∙ is.addressee in
    let moved = moves e count old new stands n part answer (OfNode.Take is.there.bytes word) makes low
    is.frame.from (table_after (table_at old n) is.frame.message) (answers_to (table_after (table_at old n) is.frame.message) is.frame.message) took.sends (took.is_table (stands.tables n part less)) in
    subst (λ i. Moves e count old i from (table_after (table_at old i) m) (answers_to (table_after (table_at old i) m) m) answer new) here
    (subst (λ i. Moves e count old n i (table_after (table_at old n) m) (answers_to (table_after (table_at old n) m) m) answer new) is.sender
    (subst (λ message. Moves e count old n is.frame.from (table_after (table_at old n) message) (answers_to (table_after (table_at old n) message) message) answer new) is.message moved))
delivered e count old new _ answer stands part from to number m is of same accepts = absurd same

-- ---- an exchange is begun

-- both are nodes of the world, and the one has sent its root to the other
pub record Began (e : Exchange) (count : ℕ) (old : World) (answer : Answer) (new : World) : Type 0 where
  pub apart : e.other ≢ e.one
  pub one : e.one < count
  pub other : e.other < count
  pub moves : Moves e count old e.one e.other (table_at old e.one) (XRoot (tree_root (rows_of (table_at old e.one))) ∷ []) answer new

-- the other node is one of the world, since the event has no refusal
other_low : (w : World) (a b : ℕ) (answer : Answer) (new : World) → Accepts w (events.Step a (OfNode.Exchange b)) answer new → b < length w.nodes
other_low w a b answer new accepts = elim (cases_lt b (length w.nodes)) [
  | inl less ↦ less
  | inr high ↦ absurd (accepts.no_refusal NoSuchNode (inl (inr high, refl)))
]

-- what an accepted event Exchange leaves
pub began : (e : Exchange) (count : ℕ) (old new : World) (answer : Answer) → Stands e count old → takes_part e e.one ≡ true
    → Outcome old (events.Step e.one (OfNode.Exchange e.other)) (Ok answer) new → Began e count old answer new
unfolding Outcome
began e count old new answer stands part accepts =
    let low : e.one < length old.nodes = has_node old (events.Step e.one (OfNode.Exchange e.other)) accepts.no_refusal in
    let makes : MakesStep old e.one (OfNode.Exchange e.other) answer new = accepts.makes in
    let less : e.one < count = subst (λ c. e.one < c) stands.many low in
    let is = begins (node_at old e.one).state makes.state e.other makes.given makes.makes in
    record {
      apart = λ same. is.apart (same ∙ sym (stands.numbers e.one part less));
      one = less;
      other = subst (λ c. e.other < c) stands.many (other_low old e.one e.other answer new accepts);
      moves = moves e count old new stands e.one part answer (OfNode.Exchange e.other) makes low
          e.other (table_at old e.one) (XRoot (tree_root (rows_of (table_at old e.one))) ∷ []) is.sends (subst IsTable (sym is.sends.held) (stands.tables e.one part less));
    }
