-- What a round has found: a best path, or a dual set.
use Rattle.std.proofs.Common.{ℕ, ◌<◌, ◌≤◌, Bool, Some, None, Option, MatchOption}
use Rattle.sets.specs.Matroid.{Set, Matroid}
use Rattle.matroid.specs.Optimal.{Dual}
use Rattle.exchange.specs.Round.{top, State, Labels, End, Closed}
use Rattle.exchange.specs.Predecessors.{Predecessors}
use Rattle.exchange.proofs.DualSets.{dual_by_closed}
use Rattle.exchange.proofs.LabelPaths.{labels_best}

-- the end of complete labels is that of a best path, and a closed set is a dual set
pub found : (n : ℕ) (f g : Set → Bool) (w a : ℕ → ℕ) (loss : ℕ) (s reached : Set) (d k back : ℕ → ℕ) (u : Set) (o : Option ℕ) →
    Matroid n f → Matroid n g → ((x : ℕ) → x < n → w x ≤ top) → State n f g w a loss s → Labels n f g w a s reached d k back →
    MatchOption o (Closed n f g s u) (λ t. End n g w a s reached d k t) →
    MatchOption o (Dual n f g s u) (λ t. (m : ℕ) × Predecessors n f g w a s d k back t m)
found n f g w a loss s reached d k back u None mf mg light st labels h = dual_by_closed n f g s u mf mg st.first st.second h
found n f g w a loss s reached d k back u (Some t) mf mg light st labels h = labels_best n f g w a loss s reached d k back t light st labels h
