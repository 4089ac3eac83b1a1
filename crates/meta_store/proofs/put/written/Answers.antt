use Rattle.std.proofs.Common.{sym, ◌∙◌, arith}
use Rattle.meta_store.proofs.Sizes.{has_value_from_values, small_more}
use Rattle.meta_store.proofs.put.written.Goals as goal

pub is_small_enough-requires : goal.is_small_enough-requires
is_small_enough-requires c = has_value_from_values c.in_ok-object.object c.in_ok-object.ensures.shows

pub returns-clause-held : goal.returns-clause-held
returns-clause-held c = record {
  lawful = c.in_ok-object.ensures.lawful;
  shows = has_value_from_values c.in_ok-object.object c.in_ok-object.ensures.shows;
  small = small_more c.in_ok-object.object 1048576 16000000 (omega arith) (sym c.is_small_enough.ensures ∙ c.if-not-is_small_enough.false);
}
