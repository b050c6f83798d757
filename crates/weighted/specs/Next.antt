-- What a round makes of its state. Assumes nothing: definitions, and a statement whose proof is owed.
use Rattle.std.specs.Prelude.{◌≡◌, ℕ, suc, ◌+◌, ◌-◌, ◌*◌, ◌<◌, ◌≤◌, min, Bool}
use Rattle.sets.specs.Matroid.{pick, Set, size, weight, Matroid}
use Rattle.exchange.specs.Round.{top, State, Labels, End, lost, toggled}

-- the potentials after a round whose loss rose by m
abbrev pub raised : Set → (ℕ → ℕ) → (ℕ → ℕ) → ℕ → ℕ → ℕ
raised reached a d m v = a v + pick (reached v) (min (d v) m) m

-- the next state, of one element more
pub record Next (n : ℕ) (f g : Set → Bool) (w a : ℕ → ℕ) (loss : ℕ) (s reached : Set) (d k back : ℕ → ℕ) (t : ℕ) : Type 0 where
  pub state : State n f g w (raised reached a d (lost w a d t - loss)) (lost w a d t) (toggled s back t (k t))
  pub sized : size n (toggled s back t (k t)) ≡ suc (size n s)
  pub gained : weight n w (toggled s back t (k t)) + lost w a d t ≡ weight n w s + top
  pub rises : loss ≤ lost w a d t
  pub bounded : lost w a d t ≤ suc (size n s) * top
  pub short : k t ≤ n

abbrev pub Round : Type 0
Round =
    (n : ℕ) (f g : Set → Bool) (w a : ℕ → ℕ) (loss : ℕ) (s reached : Set) (d k back : ℕ → ℕ) (t : ℕ) →
    Matroid n f → Matroid n g → ((x : ℕ) → x < n → w x ≤ top) → State n f g w a loss s →
    Labels n f g w a s reached d k back → End n g w a s reached d k t → Next n f g w a loss s reached d k back t

-- one offer was added: a state of the new set and the new potentials
pub record Added (n : ℕ) (f g : Set → Bool) (w a : ℕ → ℕ) (loss : ℕ) (s t : Set) : Type 0 where
  pub state : State n f g w a loss t
  pub sized : size n t ≡ suc (size n s)
  pub low : loss ≤ suc (size n s) * top
