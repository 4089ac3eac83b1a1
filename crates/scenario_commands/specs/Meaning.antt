-- What a command is to the world, and the line that is printed of its answer: two tables, with a
-- row for each command and each reply.
use Rattle.std.specs.Prelude.{ℕ, ◌+◌, List, ◌++◌, length, map, Option, Some, None, codes, decimal}
use Rattle.std.specs.Option.{unwrap_or}
use Rattle.meta_types.specs.Name.{Key, Prefix}
use Rattle.meta_types.specs.Value.{ValueParts}
use Rattle.dvvset.specs.Object.{Counter}
use Rattle.meta_frame.specs.Frame.{to_in}
use Rattle.hash_tree.specs.Tree.{rows_of, tree_root}
use Rattle.meta_store.specs.Table.{Table, keys_under, object_at}
use Rattle.node_overlay.specs.Overlay.{Overlay}
use Rattle.node_events.specs.declared.event.NodeEvent.TheVariants as nodes
use Rattle.node_events.specs.declared.reply.Reply.{Reply}
use Rattle.node_events.specs.declared.reply.Reply.TheVariants.{Looked, Wrote, Took, TookFresh, TookStale, Done, Watching, Changed}
use Rattle.subscriptions.specs.declared.change.Change.{Change}
use Rattle.printing.specs.Field.{bytes_text, value_text}
use Rattle.printing.specs.Joined.{joined}
use Rattle.printing.specs.Object.{object_text, vector_text}
use Rattle.printing.specs.Row.{digest_text, nodes_text}
use Rattle.world_core.specs.declared.answer.Answer.{Answer}
use Rattle.world_core.specs.declared.event.Event.{Event}
use Rattle.world_core.specs.declared.event.Event.TheVariants as events
use Rattle.world_core.specs.Refusal.{node_at, table_at}
use Rattle.world_core.specs.Numbers.{numbered}
use Rattle.world_core.specs.World.{World}
use Rattle.scenario_text.specs.Commands.{Command, Put, Del, Over, Read, Show, Deliver, Junk, Tick, Join, Down, Exchange, Hello, Leave, Restart, Keep, Watch, Changes, Keys, Root, Images, Views}

-- ---- to the world

-- the addressee of the frame of that number; 0 if there is none, and then no world takes the
-- delivery
abbrev addressee_in : Option (List ℕ) → ℕ
addressee_in None = 0
addressee_in (Some bytes) = to_in bytes

abbrev pub addressee : World → ℕ → ℕ
addressee w frame = addressee_in (numbered w.frames frame)

-- a write, which has read what the read of a number showed, or nothing
abbrev pub write_of : ℕ → Key → ValueParts → Option ℕ → Event
write_of n k v None = events.Step n (nodes.Write k v None)
write_of n k v (Some read) = events.Put n k v read

-- the event that a command is, if it is one
abbrev pub event_of : World → Command → Option Event
event_of w (Put n k v s r) = Some (write_of n k (record { stamp = s; body = Some v }) r)
event_of w (Del n k s r) = Some (write_of n k (record { stamp = s; body = None }) r)
event_of w (Over n k v s) =
    Some (events.Step n (nodes.PutOver k (record { stamp = s; body = Some v })))
event_of w (Read n k) = Some (events.Step n (nodes.Read k))
event_of w (Deliver f to word) = Some (events.Deliver f (unwrap_or to (addressee w f)) word)
event_of w (Junk n bytes) = Some (events.Step n (nodes.Take bytes 0))
event_of w (Tick n word) = Some (events.Step n (nodes.Tick word))
event_of w (Join n contact word) = Some (events.Step n (nodes.Join contact word))
event_of w (Down n peer word) = Some (events.Step n (nodes.PeerDown peer word))
event_of w (Exchange n peer) = Some (events.Step n (nodes.Exchange peer))
event_of w (Hello n peer) = Some (events.Step n (nodes.Hello peer))
event_of w (Leave n) = Some (events.Step n nodes.Leave)
event_of w (Restart n image) = Some (events.Restart n image)
event_of w (Keep n (Some k)) = Some (events.Step n (nodes.Keep k))
event_of w (Watch n p capacity) = Some (events.Step n (nodes.Watch p capacity))
event_of w (Changes n number) = Some (events.Step n (nodes.Changes number))
event_of w command = None

-- what a command that only looks reports: of which node, and the text
pub record Report : Type 0 where
  pub node : ℕ
  pub text : List ℕ

-- the keys that a table has under a prefix, by their own parts
abbrev pub list_text : Prefix → Table → List ℕ
list_text p table = codes "keys " ++ joined (map (λ k. bytes_text k.key) (keys_under p table))

-- the root of a table's tree
abbrev pub root_text : Table → List ℕ
root_text table = codes "root " ++ digest_text (tree_root (rows_of table))

-- whom a node talks to, in the order of its lists
abbrev pub overlay_text : Overlay → List ℕ
overlay_text overlay = codes "active " ++ nodes_text overlay.views.active
    ++ codes " passive " ++ nodes_text overlay.views.passive
    ++ codes " eager " ++ nodes_text overlay.cast.eager
    ++ codes " lazy " ++ nodes_text overlay.cast.lazy

-- what a command reports, if it only looks
abbrev pub report_of : World → Command → Option Report
report_of w (Show n k) = Some (record { node = n; text = object_text (object_at (table_at w n) k) })
report_of w (Keys n p) = Some (record { node = n; text = list_text p (table_at w n) })
report_of w (Root n) = Some (record { node = n; text = root_text (table_at w n) })
report_of w (Images n) = Some (record {
  node = n;
  text = codes "images " ++ decimal (length (node_at w n).images + 1);
})
report_of w (Views n) = Some (record {
  node = n;
  text = overlay_text (node_at w n).state.overlay;
})
report_of w command = None

-- ---- result lines

-- what a read showed, by its number
abbrev pub looked_text : Option ℕ → List Counter → List ValueParts → List ℕ
looked_text given vector values = codes "read " ++ decimal (unwrap_or given 0)
    ++ codes " ctx " ++ vector_text vector ++ codes " values " ++ joined (map value_text values)

-- what a watch handed out
abbrev pub changed_text : ℕ → List Change → List ℕ
changed_text missed changes = codes "missed " ++ decimal missed
    ++ codes " keys " ++ joined (map (λ change. bytes_text change.key.key) changes)

-- the line of an answer, with the number of the read that it gave
abbrev pub reply_text : Option ℕ → Reply → List ℕ
reply_text given (Looked values context) = looked_text given context.vector values
reply_text given (Wrote vector) = codes "wrote ctx " ++ vector_text vector
reply_text given Took = codes "took"
reply_text given TookFresh = codes "took fresh"
reply_text given TookStale = codes "took stale"
reply_text given Done = codes "ok"
reply_text given (Watching watch) = codes "watch " ++ decimal watch
reply_text given (Changed missed changes) = changed_text missed changes

abbrev pub result_text : Answer → List ℕ
result_text answer = reply_text answer.read answer.reply
