use Rattle.transversal.proofs.Reading.{reads_well}
use Rattle.transversal.proofs.reads_what_is_well.Goals as goal

pub returns : goal.returns
returns c = reads_well
