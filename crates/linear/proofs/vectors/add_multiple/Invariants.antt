use Rattle.std.proofs.Common.{◌≡◌, ℕ, ◌+◌, ◌*◌, ◌%◌, ◌<◌, ◌≤◌, get_or}
use Rattle.linear.proofs.vectors.add_multiple.Given as goal

abbrev pub invariant-loop-j : goal.invariant-loop-j
invariant-loop-j l =
    ((k : ℕ) → k < l.j → get_or l.target k 0 ≡ (get_or l.initial.target k 0 + l.c * get_or l.source k 0) % l.prime)
    × ((k : ℕ) → l.j ≤ k → get_or l.target k 0 ≡ get_or l.initial.target k 0)
