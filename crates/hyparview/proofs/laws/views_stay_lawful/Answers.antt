use Rattle.hyparview.proofs.Standing.{views_stay_lawful}
use Rattle.hyparview.proofs.laws.views_stay_lawful.Goals as goal

pub returns : goal.returns
returns c = views_stay_lawful
