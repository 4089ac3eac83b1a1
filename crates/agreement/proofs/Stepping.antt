-- A step of a node that begins an exchange, or takes a message of one, in the words of the exchange.
use Rattle.std.proofs.Common.{◌≡◌, ◌≢◌, ℕ, Bool, true, false, cond, not, nat_eq, List, [], ◌∷◌, map, All, Option, Some, None, option_map, refl, sym, ap, subst, ◌∙◌}
use Rattle.std.proofs.lemmas.Bool.{eqb-false, eqb-true}
use Rattle.meta_types.specs.Name.{Key}
use Rattle.meta_types.specs.First.{first_that_applies}
use Rattle.dvvset.specs.Object.{Entry}
use Rattle.dvvset.specs.Clock.{join}
use Rattle.meta_frame.specs.declared.message.Frame.{Frame}
use Rattle.meta_frame.specs.declared.message.Message.{Message}
use Rattle.meta_frame.specs.declared.message.Message.TheVariants.{XRoot, XPrefixes, XInner, XLeaves, XBucket, XObject, XWant}
use Rattle.meta_frame.specs.Frame.{Spells, spelling}
use Rattle.meta_frame.proofs.Frames.{one_frame}
use Rattle.meta_store.specs.Step.{merge_of, refusal_of_merge, table_after_merge}
use Rattle.meta_store.specs.Table.{IsTable, Table, is_stale, with_object}
use Rattle.meta_store.specs.declared.fault.StoreFault.{StoreFault}
use Rattle.hash_tree.specs.Tree.{rows_of, tree_root}
use Rattle.exchange.specs.Answers.{answers_to}
use Rattle.exchange.specs.Whole.{refusal_of_one, table_after}
use Rattle.plumtree.specs.Rows.{on_change}
use Rattle.node_events.specs.Fault.{of_store}
use Rattle.node_events.specs.declared.event.NodeEvent.TheVariants.{Exchange, Take}
use Rattle.node_events.specs.declared.fault.StepFault.{StepFault}
use Rattle.node_events.specs.declared.fault.StepFault.TheVariants.{BadNode, NotAddressed}
use Rattle.node_events.specs.declared.reply.Reply.{Reply}
use Rattle.node_overlay.specs.Outbox.{HasSpelling, frames_from}
use Rattle.node_overlay.specs.Overlay.{envelope}
use Rattle.node_core.specs.declared.state.Stepped.{Stepped}
use Rattle.node_core.specs.Node.{NodeParts}
use Rattle.node_core.specs.Draft.{NodeDraft, change}
use Rattle.node_core.specs.Rows.{Input, IsInput, Local, Received, row_of_message}
use Rattle.node_core.specs.Step.{IsNodeStep, IsStepOf, IsStepTo, begun, node_draft_after, refusal_of_message}
use Rattle.agreement.proofs.Rounding.{IsOfExchange, none_answers, stays_table}

-- ---- what is sent to one node

-- a step left this table, and sent these messages to the node
pub record Sends (old new : NodeParts) (s : Stepped) (to : ℕ) (table : Table) (ms : List Message) : Type 0 where
  pub node : new.node ≡ old.node
  pub held : new.table ≡ table
  pub sent : s.outbox ≡ map spelling (frames_from old.node old.frames (map (envelope to) ms))
  pub lawful : All HasSpelling (frames_from old.node old.frames (map (envelope to) ms))

-- the same of a node in the midst of a step
record Drafts (s : NodeParts) (to : ℕ) (table : Table) (ms : List Message) (t : NodeDraft) : Type 0 where
  node : t.parts.node ≡ s.node
  held : t.parts.table ≡ table
  sent : t.sent ≡ map (envelope to) ms

-- ---- the rows

-- an object that came is merged, if it is fresh, and nothing is sent
merged : (s : NodeParts) (from : ℕ) (key : Key) (came : List Entry) (stale : Bool)
    → Drafts s from (cond stale s.table (with_object key (merge_of s.table key came) s.table)) []
    (cond (not stale) (change key (merge_of s.table key came) (begun s)) (begun s))
unfolding on_change
merged s from key came true = record { node = refl; held = refl; sent = refl }
merged s from key came false = record { node = refl; held = refl; sent = refl }

-- a message of an exchange is answered from what is held once it was taken
row : (s : NodeParts) (from word : ℕ) (m : Message) → IsOfExchange m
    → Drafts s from (table_after s.table m) (answers_to (table_after s.table m) m) (row_of_message from word m (begun s))
unfolding table_after
row s from word (XRoot root) is = record { node = refl; held = refl; sent = refl }
row s from word (XPrefixes theirs) is = record { node = refl; held = refl; sent = refl }
row s from word (XInner p theirs) is = record { node = refl; held = refl; sent = refl }
row s from word (XLeaves p inner theirs) is = record { node = refl; held = refl; sent = refl }
row s from word (XBucket p leaf theirs) is = record { node = refl; held = refl; sent = refl }
row s from word (XWant key) is = record { node = refl; held = refl; sent = refl }
row s from word (XObject key came) is =
    subst (λ ms. Drafts s from (table_after_merge s.table key came) ms (row_of_message from word (XObject key came) (begun s)))
    (sym (none_answers (table_after_merge s.table key came) (XObject key came) is))
    (merged s from key came (is_stale s.table key (join came)))
row s from word _ is = absurd is

-- ---- what is refused of a node is refused of its table

-- a refusal of a store stays one
no_fault : (r : Option StoreFault) → option_map of_store r ≡ None → r ≡ None
no_fault None e = refl
no_fault (Some fault) e = cc

-- a message that the node does not refuse is not refused by its table
not_refused : (s : NodeParts) (m : Message) → IsOfExchange m → refusal_of_message m s ≡ None → refusal_of_one s.table m ≡ None
unfolding refusal_of_one
not_refused s (XRoot root) of none = refl
not_refused s (XPrefixes theirs) of none = refl
not_refused s (XInner p theirs) of none = refl
not_refused s (XLeaves p inner theirs) of none = refl
not_refused s (XBucket p leaf theirs) of none = refl
not_refused s (XWant key) of none = refl
not_refused s (XObject key came) of none = no_fault (refusal_of_merge s.table key came) none
not_refused s _ of none = absurd of

-- ---- steps

-- what the draft sends, the step sends
sends_of : (old new : NodeParts) (refusal : Option StepFault) (t : NodeDraft) (reply : Reply) (s : Stepped) (to : ℕ) (table : Table) (ms : List Message)
    → Drafts old to table ms t → IsStepTo old refusal t reply new s → Sends old new s to table ms
sends_of old new refusal t reply s to table ms d step = record {
  node = ap (λ (p : NodeParts). p.node) step.node ∙ d.node;
  held = ap (λ (p : NodeParts). p.table) step.node ∙ d.held;
  sent = step.sends ∙ ap (λ es. map spelling (frames_from old.node old.frames es)) d.sent;
  lawful = subst (λ es. All HasSpelling (frames_from old.node old.frames es)) d.sent step.frames;
}

-- a node began an exchange: it sent its root to another node
pub record Begins (old new : NodeParts) (s : Stepped) (peer : ℕ) : Type 0 where
  pub sends : Sends old new s peer old.table (XRoot (tree_root (rows_of old.table)) ∷ [])
  pub apart : peer ≢ old.node

-- the peer is another node
passed : (b : Bool) → first_that_applies ((b, BadNode) ∷ []) ≡ None → b ≡ false
passed false e = refl
passed true e = cc

-- the event asks for itself alone
by_own : (old new : NodeParts) (peer : ℕ) (s : Stepped) (input : Input) → IsInput (Exchange peer) input → IsStepOf old input new s → Begins old new s peer
by_own old new peer s (Received frame word) is step = absurd is
by_own old new peer s (Local own) is step =
    let made = subst (λ e. IsStepOf old (Local e) new s) is step in
    record {
      sends = sends_of old new _ (node_draft_after (Local (Exchange peer)) old) _ s peer old.table (XRoot (tree_root (rows_of old.table)) ∷ [])
          (record { node = refl; held = refl; sent = refl }) made;
      apart = eqb-false peer old.node (passed (nat_eq peer old.node) made.accepted);
    }

-- what an accepted event Exchange does
pub begins : (old new : NodeParts) (peer : ℕ) (s : Stepped) → IsNodeStep old (Exchange peer) new s → Begins old new s peer
begins old new peer s is = by_own old new peer s is.input is.is_input is.step

-- a node took a message of an exchange: it answered it from what it then held
pub record Takes (old : NodeParts) (frame : Frame) (new : NodeParts) (s : Stepped) : Type 0 where
  pub to : frame.to ≡ old.node
  pub sends : Sends old new s frame.from (table_after old.table frame.message) (answers_to (table_after old.table frame.message) frame.message)
  pub is_table : IsTable old.table → IsTable new.table

-- a frame that is accepted names the node, and its message is not refused
pub addressed : (b : Bool) (r : Option StepFault) → cond b r (Some NotAddressed) ≡ None → (b ≡ true) × (r ≡ None)
addressed true r e = (refl, e)
addressed false r e = cc

-- the step of a frame
by_frame : (old new : NodeParts) (frame : Frame) (word : ℕ) (s : Stepped) → IsOfExchange frame.message → IsStepOf old (Received frame word) new s → Takes old frame new s
by_frame old new frame word s of step =
    let here = addressed (nat_eq frame.to old.node) (refusal_of_message frame.message old) step.accepted in
    let sends = sends_of old new _ (row_of_message frame.from word frame.message (begun old)) _ s frame.from
    (table_after old.table frame.message) (answers_to (table_after old.table frame.message) frame.message) (row old frame.from word frame.message of) step in
    record {
      to = eqb-true frame.to old.node here.0;
      sends = sends;
      is_table = λ is. subst IsTable (sym sends.held) (stays_table old.table frame.message of is (not_refused old frame.message of here.1));
    }

-- the bytes spell that frame alone
by_input : (old new : NodeParts) (bytes : List ℕ) (word : ℕ) (s : Stepped) (frame : Frame) (input : Input) → Spells frame bytes → IsOfExchange frame.message
    → IsInput (Take bytes word) input → IsStepOf old input new s → Takes old frame new s
by_input old new bytes word s frame (Local own) spelled of is step = absurd is
by_input old new bytes word s frame (Received came w) spelled of is step =
    by_frame old new frame w s of (subst (λ f. IsStepOf old (Received f w) new s) (one_frame came frame bytes is.0 spelled) step)

-- what an accepted delivery of such a frame does
pub takes : (old new : NodeParts) (bytes : List ℕ) (word : ℕ) (s : Stepped) (frame : Frame) → Spells frame bytes → IsOfExchange frame.message
    → IsNodeStep old (Take bytes word) new s → Takes old frame new s
takes old new bytes word s frame spelled of is = by_input old new bytes word s frame is.input spelled of is.is_input is.step
