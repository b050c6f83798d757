use Rattle.graphic.proofs.theory.reads_what_is_well.Goals as goal
use Rattle.graphic.proofs.Reading.{reads_well}

-- what is read, and what is well
pub returns : goal.returns
returns c = reads_well
