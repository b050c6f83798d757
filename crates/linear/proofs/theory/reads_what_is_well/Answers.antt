use Rattle.linear.proofs.Reading.{reads_well}
use Rattle.linear.proofs.theory.reads_what_is_well.Goals as goal

pub returns : goal.returns
returns c = reads_well
