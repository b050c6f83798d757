-- The path that labels give, by predecessors from its end. Assumes nothing: definitions, and a statement whose proof is owed
-- by the function that names it.
use Rattle.std.specs.Prelude.{◌≡◌, ℕ, zero, suc, ◌+◌, ◌-◌, ◌<◌, ◌≤◌, Bool}
use Rattle.sets.specs.Matroid.{Set}
use Rattle.exchange.specs.Round.{top, State, Labels, End, lost, behind, toggled}
use Rattle.exchange.specs.Paths.{total, BestPath, along}

abbrev pub twice : ℕ → ℕ
twice zero = zero
twice (suc i) = suc (suc (twice i))

-- the elements that come and those that go on the path to t, counted from its start; m of them go
abbrev pub comes : (ℕ → ℕ) → ℕ → ℕ → ℕ → ℕ
comes back t m i = behind back t (twice (m - i))

abbrev pub goes : (ℕ → ℕ) → ℕ → ℕ → ℕ → ℕ
goes back t m i = back (behind back t (twice (m - suc i)))

-- the predecessors of t are a best path, the changed set is the one that it leads to, and it adds what the labels say
pub record Predecessors (n : ℕ) (f g : Set → Bool) (w a : ℕ → ℕ) (s : Set) (d k back : ℕ → ℕ) (t m : ℕ) : Type 0 where
  pub steps : k t ≡ suc (twice m)
  pub best : BestPath n f g w s m (comes back t m) (goes back t m)
  pub changed : (v : ℕ) → toggled s back t (k t) v ≡ along s (comes back t m) (goes back t m) m v
  pub adds : total w (comes back t m) (suc m) + lost w a d t ≡ total w (goes back t m) m + top

-- complete labels give a best path
abbrev pub LabelsBest : Type 0
LabelsBest =
    (n : ℕ) (f g : Set → Bool) (w a : ℕ → ℕ) (loss : ℕ) (s reached : Set) (d k back : ℕ → ℕ) (t : ℕ) →
    ((x : ℕ) → x < n → w x ≤ top) → State n f g w a loss s → Labels n f g w a s reached d k back →
    End n g w a s reached d k t → (m : ℕ) × Predecessors n f g w a s d k back t m
