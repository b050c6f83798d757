use Rattle.weighted.proofs.theory.labels_exist.Goals as goal
use Rattle.weighted.proofs.LabelsExist.{labels_exist}

-- every state has complete labels
pub returns : goal.returns
returns c = labels_exist
