-- The first fault of all, and what no fault at all means.
use Rattle.std.proofs.Common.{◌≡◌, ℕ, ◌+◌, ◌*◌, ◌<◌, ◌≤◌, Bool, List, subst, inl, inr, ⊎_elim, arith}
use Rattle.std.proofs.lemmas.Bool.{cases_lt, cases_eq}
use Rattle.sets.specs.Matroid.{Set}
use Rattle.sets.specs.declared.refusal.Refusal.{Refusal}
use Rattle.certificate.specs.Layout.{count, largest_set, dual_set}
use Rattle.certificate.specs.Validity.{work_length}
use Rattle.certificate.specs.Faults.{ByteFault, cut, longer, SetFault, wrong_size, first_refuses, second_refuses, DualFault, SizedFault, NumbersFault, SplitFault, Clear, Earliest, AllRight, SomeWrong, PartsRight, PartsWrong, Stage, turn, Fault, FirstFault}
use Rattle.certificate.specs.Faults as fault

module _ (n : ℕ) (f g : Set → Bool) (w : ℕ → ℕ) (sheet : List ℕ) (words : ℕ) where
  -- a fault in the bytes is the first of all
  pub first_bytes : (e : Refusal) → Earliest (ByteFault n sheet) e → FirstFault (Fault n f g w sheet words) e
  first_bytes e h = (fault.bytes, h, λ b q d z. omega arith)

  -- with enough memory the first fault of the parts is
  module _ (clear : Clear (ByteFault n sheet)) (enough : work_length n ≤ words) where
    -- with clean bytes and enough memory, faults begin with the largest set
    behind_memory : (b : Stage) (q : ℕ) (d : Refusal) → Fault n f g w sheet words b q d → 2 ≤ turn b
    behind_memory fault.bytes q d z = absurd (clear q d z)
    behind_memory fault.memory q d z = absurd (let l = z.0 in omega arith)
    behind_memory fault.largest q d z = omega arith
    behind_memory fault.dual q d z = omega arith
    behind_memory (fault.sized k) q d z = let l = z.0 in omega arith
    behind_memory (fault.numbers k) q d z = let l = z.0 in omega arith

    -- with a good largest set they begin with the dual set
    behind_largest : Clear (SetFault n f g (count n sheet) (largest_set n sheet)) → (b : Stage) (q : ℕ) (d : Refusal) →
        Fault n f g w sheet words b q d → 3 ≤ turn b
    behind_largest h fault.bytes q d z = absurd (clear q d z)
    behind_largest h fault.memory q d z = absurd (let l = z.0 in omega arith)
    behind_largest h fault.largest q d z = absurd (h q d z)
    behind_largest h fault.dual q d z = omega arith
    behind_largest h (fault.sized k) q d z = let l = z.0 in omega arith
    behind_largest h (fault.numbers k) q d z = let l = z.0 in omega arith

    -- with a good dual set and good sizes below m they begin with the set of size m
    behind_sizes : Clear (SetFault n f g (count n sheet) (largest_set n sheet)) → Clear (DualFault n f g (largest_set n sheet) (dual_set n sheet)) →
        (m : ℕ) → AllRight n f g w sheet m → (b : Stage) (q : ℕ) (d : Refusal) → Fault n f g w sheet words b q d → 2 + 2 * m ≤ turn b
    behind_sizes h k m right fault.bytes q d z = absurd (clear q d z)
    behind_sizes h k m right fault.memory q d z = absurd (let l = z.0 in omega arith)
    behind_sizes h k m right fault.largest q d z = absurd (h q d z)
    behind_sizes h k m right fault.dual q d z = absurd (k q d z)
    behind_sizes h k m right (fault.sized j) q d z =
        ⊎_elim (λ (l : j < m). absurd ((right j l z.0).0 q d z)) (λ (l : m ≤ j). omega arith) (cases_lt j m)
    behind_sizes h k m right (fault.numbers j) q d z =
        ⊎_elim (λ (l : j < m). absurd ((right j l z.0).1 q d z)) (λ (l : m ≤ j). omega arith) (cases_lt j m)

    -- and with a good set of size m, with its numbers
    behind_set : Clear (SetFault n f g (count n sheet) (largest_set n sheet)) → Clear (DualFault n f g (largest_set n sheet) (dual_set n sheet)) →
        (m : ℕ) → AllRight n f g w sheet m → Clear (SizedFault n f g sheet m) → (b : Stage) (q : ℕ) (d : Refusal) → Fault n f g w sheet words b q d → 3 + 2 * m ≤ turn b
    behind_set h k m right s fault.bytes q d z = absurd (clear q d z)
    behind_set h k m right s fault.memory q d z = absurd (let l = z.0 in omega arith)
    behind_set h k m right s fault.largest q d z = absurd (h q d z)
    behind_set h k m right s fault.dual q d z = absurd (k q d z)
    behind_set h k m right s (fault.sized j) q d z =
        ⊎_elim
        (λ (l : j < m). absurd ((right j l z.0).0 q d z))
        (λ (l : m ≤ j). ⊎_elim (λ (o : j ≡ m). absurd (s q d (subst (λ (i : ℕ). SizedFault n f g sheet i q d) o z))) (λ (o : j ≡ m → ⊥). let x : m < j = ne_lt m j l o in omega arith) (cases_eq j m))
        (cases_lt j m)
      where
        ne_lt : (a b : ℕ) → a ≤ b → (b ≡ a → ⊥) → a < b
        ne_lt a b l o = ⊎_elim (λ (x : a < b). x) (λ (x : b ≤ a). absurd (o (omega arith))) (cases_lt a b)
    behind_set h k m right s (fault.numbers j) q d z =
        ⊎_elim (λ (l : j < m). absurd ((right j l z.0).1 q d z)) (λ (l : m ≤ j). omega arith) (cases_lt j m)

    -- the first fault of the parts is the first of all
    pub first_part_fault : (e : Refusal) → PartsWrong n f g w sheet e → FirstFault (Fault n f g w sheet words) e
    first_part_fault e (inl h) = (fault.largest, h, behind_memory)
    first_part_fault e (inr (c, inl h)) = (fault.dual, h, behind_largest c)
    first_part_fault e (inr (c, inr (k, (m, a, b, inl h, right)))) = (fault.sized m, h, behind_sizes c k m right)
    first_part_fault e (inr (c, inr (k, (m, a, b, inr (s, h), right)))) = (fault.numbers m, h, behind_set c k m right s)
