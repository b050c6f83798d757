use Rattle.exchange.proofs.examples.small_labels.Goals as goal
use Rattle.exchange.proofs.SmallPaths.{small_labelled}

-- the labels and the path that they give
pub returns : goal.returns
returns c = small_labelled
