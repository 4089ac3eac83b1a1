use Rattle.plumctl_core.proofs.Filling.{filled_more, room_left}
use Rattle.plumctl_core.proofs.key_file.fill_front.Goals as goal

pub loop-len-preserved : goal.loop-len-preserved
loop-len-preserved g c =
    let before = c.loop-len.invariant in
    let fits = c.in-Ok.ensures.bound.0 in (
      room_left c.loop-len.room c.read_some.new.piece _ c.loop-len.len c.in-Ok.n before.0 fits,
      filled_more _ _ _ c.loop-len.room c.read_some.new.piece _ c.loop-len.len c.in-Ok.n before.0 fits before.1 c.in-Ok.ensures.bytes.0,
      λ failed. before.2 (c.in-Ok.ensures.sound failed),
    )
