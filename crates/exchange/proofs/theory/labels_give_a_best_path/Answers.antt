use Rattle.exchange.proofs.theory.labels_give_a_best_path.Goals as goal
use Rattle.exchange.proofs.LabelPaths.{labels_best}

-- complete labels give a best path
pub returns : goal.returns
returns c = labels_best
