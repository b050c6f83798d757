use Rattle.weighted.proofs.theory.any_best_path_leads_on.Goals as goal
use Rattle.weighted.proofs.Rounds.{best_next}

-- any best path leads to the next state
pub returns : goal.returns
returns c = best_next
