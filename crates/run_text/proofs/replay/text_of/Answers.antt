use Rattle.std.proofs.Common.{map}
use Rattle.std.specs.List.{filter_map}
use Rattle.run_text.specs.Replay.{command_of_event, roots_of}
use Rattle.run_text.proofs.Lines.{text_made}
use Rattle.run_text.proofs.replay.text_of.Goals as goal

pub returns : goal.returns
returns c =
    text_made c.new-text.result.items c.extend_from_slice.new.self.items c.extend_from_slice-2.new.self.items c.push.new.self.items c.add_line.new.text.items
    c.add_events.new.text.items c.add_roots.new.text.items c.args.about.now c.args.nodes
    (filter_map command_of_event (map (λ a. a.event) c.args.accepted.now)) (roots_of c.args.nodes)
    c.new-text.ensures.items c.in_ok-extend_from_slice.ensures.items c.in_ok-extend_from_slice-2.ensures.items c.in_ok-push.ensures.items
    c.in_ok-add_line.ensures c.in_ok-add_events.ensures c.in_ok-add_roots.ensures
