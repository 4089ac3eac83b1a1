use Rattle.std.proofs.Common.{ap, arith, length, map, refl}
use Rattle.node_file.specs.Clean.{row_record}
use Rattle.node_file.proofs.Torn.{length-behind_gates}
use Rattle.node_file.proofs.hosted.spell_append_all.Goals as goal

pub returns-in-Ok-clause-fits : goal.returns-in-Ok-clause-fits
returns-in-Ok-clause-fits c some = omega (arith, c.in_default.ensures.fits refl some, ap length c.in-Ok.ensures, length-behind_gates (map row_record c.args.objects.now))
