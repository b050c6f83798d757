-- There is one first fault.
use Rattle.std.proofs.Common.{◌≡◌, ℕ, ◌+◌, ◌≤◌, Bool, List, sym, refl, ap, ◌∙◌, subst, arith}
use Rattle.sets.specs.Matroid.{Set}
use Rattle.sets.specs.declared.refusal.Refusal.{Refusal}
use Rattle.sets.specs.declared.refusal.Refusal.TheVariants.{Range, Dual, Split}
use Rattle.sets.specs.declared.refusal.Source.TheVariants.{Certificate}
use Rattle.certificate.specs.Layout.{count, largest_set, sized_set}
use Rattle.certificate.specs.Faults.{ByteFault, cut, longer, SetFault, wrong_size, first_refuses, second_refuses, Earliest, Stage, turn, Fault}
use Rattle.certificate.specs.Faults as fault
use Rattle.certificate.specs.Soundness.{OneFirstFault}
use Rattle.certificate.proofs.Rows.{row_apart, last_byte}

-- faults at one byte are the same
same_byte : (n : ℕ) (sheet : List ℕ) (p q : ℕ) (d e : Refusal) → 1 ≤ n → p ≡ q → ByteFault n sheet p d → ByteFault n sheet q e → d ≡ e
same_byte n sheet p q d e o s (cut h) (cut k) = refl
same_byte n sheet p q d e o s (cut h) (longer k) = absurd (omega arith)
same_byte n sheet p q d e o s (cut h) (fault.stray i j l m a b t) = absurd (let y = last_byte n j o a b in omega arith)
same_byte n sheet p q d e o s (longer h) (cut k) = absurd (omega arith)
same_byte n sheet p q d e o s (longer h) (longer k) = refl
same_byte n sheet p q d e o s (longer h) (fault.stray i j l m a b t) =
    absurd (let y = last_byte n j o a b in let r = row_apart n i (count n sheet + 2) l in omega arith)
same_byte n sheet p q d e o s (fault.stray i j l m a b t) (cut k) = absurd (let y = last_byte n j o a b in omega arith)
same_byte n sheet p q d e o s (fault.stray i j l m a b t) (longer k) =
    absurd (let y = last_byte n j o a b in let r = row_apart n i (count n sheet + 2) l in omega arith)
same_byte n sheet p q d e o s (fault.stray i j l m a b t) (fault.stray i' j' l' m' a' b' t') = ap (Range Certificate) s

-- faults of a set at one place are the same
same_set : (n : ℕ) (f g : Set → Bool) (k : ℕ) (s : Set) (p q : ℕ) (d e : Refusal) → p ≡ q → SetFault n f g k s p d → SetFault n f g k s q e → d ≡ e
same_set n f g k s p q d e o (wrong_size a) (wrong_size b) = refl
same_set n f g k s p q d e o (wrong_size a) (first_refuses b) = refl
same_set n f g k s p q d e o (wrong_size a) (second_refuses b) = absurd (omega arith)
same_set n f g k s p q d e o (first_refuses a) (wrong_size b) = refl
same_set n f g k s p q d e o (first_refuses a) (first_refuses b) = refl
same_set n f g k s p q d e o (first_refuses a) (second_refuses b) = absurd (omega arith)
same_set n f g k s p q d e o (second_refuses a) (wrong_size b) = absurd (omega arith)
same_set n f g k s p q d e o (second_refuses a) (first_refuses b) = absurd (omega arith)
same_set n f g k s p q d e o (second_refuses a) (second_refuses b) = refl

-- faults of one turn are of one stage
same_stage : (n : ℕ) (f g : Set → Bool) (w : ℕ → ℕ) (sheet : List ℕ) (words : ℕ) (a b : Stage) (p q : ℕ) (d e : Refusal) →
    turn a ≡ turn b → Fault n f g w sheet words a p d → Fault n f g w sheet words b q e → a ≡ b
same_stage n f g w sheet words fault.bytes fault.bytes p q d e t u v = refl
same_stage n f g w sheet words fault.bytes fault.memory p q d e t u v = absurd (omega arith)
same_stage n f g w sheet words fault.bytes fault.largest p q d e t u v = absurd (omega arith)
same_stage n f g w sheet words fault.bytes fault.dual p q d e t u v = absurd (omega arith)
same_stage n f g w sheet words fault.bytes (fault.sized k) p q d e t u v = absurd (let m = v.0 in omega arith)
same_stage n f g w sheet words fault.bytes (fault.numbers k) p q d e t u v = absurd (let m = v.0 in omega arith)
same_stage n f g w sheet words fault.memory fault.bytes p q d e t u v = absurd (omega arith)
same_stage n f g w sheet words fault.memory fault.memory p q d e t u v = refl
same_stage n f g w sheet words fault.memory fault.largest p q d e t u v = absurd (omega arith)
same_stage n f g w sheet words fault.memory fault.dual p q d e t u v = absurd (omega arith)
same_stage n f g w sheet words fault.memory (fault.sized k) p q d e t u v = absurd (let m = v.0 in omega arith)
same_stage n f g w sheet words fault.memory (fault.numbers k) p q d e t u v = absurd (let m = v.0 in omega arith)
same_stage n f g w sheet words fault.largest fault.bytes p q d e t u v = absurd (omega arith)
same_stage n f g w sheet words fault.largest fault.memory p q d e t u v = absurd (omega arith)
same_stage n f g w sheet words fault.largest fault.largest p q d e t u v = refl
same_stage n f g w sheet words fault.largest fault.dual p q d e t u v = absurd (omega arith)
same_stage n f g w sheet words fault.largest (fault.sized k) p q d e t u v = absurd (let m = v.0 in omega arith)
same_stage n f g w sheet words fault.largest (fault.numbers k) p q d e t u v = absurd (let m = v.0 in omega arith)
same_stage n f g w sheet words fault.dual fault.bytes p q d e t u v = absurd (omega arith)
same_stage n f g w sheet words fault.dual fault.memory p q d e t u v = absurd (omega arith)
same_stage n f g w sheet words fault.dual fault.largest p q d e t u v = absurd (omega arith)
same_stage n f g w sheet words fault.dual fault.dual p q d e t u v = refl
same_stage n f g w sheet words fault.dual (fault.sized k) p q d e t u v = absurd (let m = v.0 in omega arith)
same_stage n f g w sheet words fault.dual (fault.numbers k) p q d e t u v = absurd (let m = v.0 in omega arith)
same_stage n f g w sheet words (fault.sized j) fault.bytes p q d e t u v = absurd (let l = u.0 in omega arith)
same_stage n f g w sheet words (fault.sized j) fault.memory p q d e t u v = absurd (let l = u.0 in omega arith)
same_stage n f g w sheet words (fault.sized j) fault.largest p q d e t u v = absurd (let l = u.0 in omega arith)
same_stage n f g w sheet words (fault.sized j) fault.dual p q d e t u v = absurd (let l = u.0 in omega arith)
same_stage n f g w sheet words (fault.sized j) (fault.sized k) p q d e t u v = ap fault.sized (let h : j ≡ k = omega arith in h)
same_stage n f g w sheet words (fault.sized j) (fault.numbers k) p q d e t u v = absurd (let l = u.0 in let m = v.0 in omega arith)
same_stage n f g w sheet words (fault.numbers j) fault.bytes p q d e t u v = absurd (let l = u.0 in omega arith)
same_stage n f g w sheet words (fault.numbers j) fault.memory p q d e t u v = absurd (let l = u.0 in omega arith)
same_stage n f g w sheet words (fault.numbers j) fault.largest p q d e t u v = absurd (let l = u.0 in omega arith)
same_stage n f g w sheet words (fault.numbers j) fault.dual p q d e t u v = absurd (let l = u.0 in omega arith)
same_stage n f g w sheet words (fault.numbers j) (fault.sized k) p q d e t u v = absurd (let l = u.0 in let m = v.0 in omega arith)
same_stage n f g w sheet words (fault.numbers j) (fault.numbers k) p q d e t u v = ap fault.numbers (let h : j ≡ k = omega arith in h)

-- faults of one stage at one place are the same
same_fault : (n : ℕ) (f g : Set → Bool) (w : ℕ → ℕ) (sheet : List ℕ) (words : ℕ) (a : Stage) (p q : ℕ) (d e : Refusal) → 1 ≤ n →
    p ≡ q → Fault n f g w sheet words a p d → Fault n f g w sheet words a q e → d ≡ e
same_fault n f g w sheet words fault.bytes p q d e o s x y = same_byte n sheet p q d e o s x y
same_fault n f g w sheet words fault.memory p q d e o s x y = x.2 ∙ sym y.2
same_fault n f g w sheet words fault.largest p q d e o s x y = same_set n f g (count n sheet) (largest_set n sheet) p q d e s x y
same_fault n f g w sheet words fault.dual p q d e o s x y = x.1 ∙ ap Dual s ∙ sym y.1
same_fault n f g w sheet words (fault.sized k) p q d e o s x y = same_set n f g k (sized_set n sheet k) p q d e s x.2 y.2
same_fault n f g w sheet words (fault.numbers k) p q d e o s x y = x.2.1 ∙ ap (Split k) s ∙ sym y.2.1

-- two first faults are of one stage and at one place
pub one_first_fault : OneFirstFault
one_first_fault n f g w sheet words d e o h k =
    let t : turn h.0 ≡ turn k.0 =
    (let i = h.2 k.0 k.1.0 e k.1.1 in let j = k.2 h.0 h.1.0 d h.1.1 in omega arith) in
    let c : k.0 ≡ h.0 = sym (same_stage n f g w sheet words h.0 k.0 h.1.0 k.1.0 d e t h.1.1 k.1.1) in
    let z : Earliest (Fault n f g w sheet words h.0) e = subst (λ (a : Stage). Earliest (Fault n f g w sheet words a) e) c k.1 in
    let s : h.1.0 ≡ z.0 = (let i = h.1.2 z.0 e z.1 in let j = z.2 h.1.0 d h.1.1 in omega arith) in
    same_fault n f g w sheet words h.0 h.1.0 z.0 d e o s h.1.1 z.1
