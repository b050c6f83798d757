-- The first byte in fault of a certificate.
use Rattle.std.proofs.Common.{◌≡◌, ℕ, ◌+◌, ◌*◌, ◌/◌, ◌<◌, ◌≤◌, min, true, List, length, subst, ⊎_elim, arith}
use Rattle.std.proofs.lemmas.Bool.{both_ways, cases_lt}
use Rattle.sets.specs.Bits.{row, row_bytes}
use Rattle.sets.specs.declared.refusal.Refusal.{Refusal}
use Rattle.sets.specs.declared.refusal.Refusal.TheVariants.{Length}
use Rattle.sets.specs.declared.refusal.Source.TheVariants.{Certificate}
use Rattle.certificate.specs.Layout.{row_at, count, needed, Clean}
use Rattle.certificate.specs.Faults.{RowFault, missing, ByteFault, cut, longer, Earliest, Clear}
use Rattle.certificate.specs.Faults as fault
use Rattle.certificate.proofs.Rows.{row_apart, last_byte}

-- a clean row has no stray bit
never_stray : (n : ℕ) (sheet : List ℕ) (at j : ℕ) → Clean n sheet at → n ≤ j → j < 8 * row_bytes n → row sheet at j ≡ true → ⊥
never_stray n sheet at j c h l e = both_ways (row sheet at j) (c.clear j h l) e

-- no fault comes before a row that is not whole, behind clean ones
after_missing : (n : ℕ) (sheet : List ℕ) (i : ℕ) → i < count n sheet + 2 → length sheet < row_at n i + row_bytes n →
    ((h : ℕ) → h < i → Clean n sheet (row_at n h)) → (q : ℕ) (d : Refusal) → ByteFault n sheet q d → length sheet ≤ q
after_missing n sheet i b m clean q d (cut h) = omega arith
after_missing n sheet i b m clean q d (longer h) = absurd (let r = row_apart n i (count n sheet + 2) b in omega arith)
after_missing n sheet i b m clean q d (fault.stray z j l w h k e) =
    ⊎_elim
    (λ (s : z < i). absurd (never_stray n sheet (row_at n z) j (clean z s) h k e))
    (λ (s : i ≤ z). ⊎_elim (λ (t : i < z). let r = row_apart n i z t in omega arith) (λ (t : z ≤ i). let r : row_at n z ≡ row_at n i = same (omega arith) in omega arith) (cases_lt i z))
    (cases_lt z i)
  where
    same : z ≡ i → row_at n z ≡ row_at n i
    same o = cc

-- none comes before a stray bit in a row behind clean ones
after_stray : (n : ℕ) (sheet : List ℕ) (i j : ℕ) → 1 ≤ n → i < count n sheet + 2 → row_at n i + row_bytes n ≤ length sheet → n ≤ j →
    j < 8 * row_bytes n → ((h : ℕ) → h < i → Clean n sheet (row_at n h)) → (q : ℕ) (d : Refusal) → ByteFault n sheet q d → row_at n i + j / 8 ≤ q
after_stray n sheet i j o b m u v clean q d (cut h) = let t = last_byte n j o u v in omega arith
after_stray n sheet i j o b m u v clean q d (longer h) =
    let t = last_byte n j o u v in let r = row_apart n i (count n sheet + 2) b in omega arith
after_stray n sheet i j o b m u v clean q d (fault.stray z k l w h x e) =
    let t = last_byte n j o u v in
    let y = last_byte n k o h x in
    ⊎_elim
    (λ (s : z < i). absurd (never_stray n sheet (row_at n z) k (clean z s) h x e))
    (λ (s : i ≤ z). ⊎_elim (λ (t : i < z). let r = row_apart n i z t in omega arith) (λ (t : z ≤ i). let r : row_at n z ≡ row_at n i = same (omega arith) in omega arith) (cases_lt i z))
    (cases_lt z i)
  where
    same : z ≡ i → row_at n z ≡ row_at n i
    same p = cc

-- the fault of a row behind clean ones is the first
pub first_row_fault : (n : ℕ) (sheet : List ℕ) (i : ℕ) (e : Refusal) → 1 ≤ n → i < count n sheet + 2 → RowFault n sheet (row_at n i) e →
    ((h : ℕ) → h < i → Clean n sheet (row_at n h)) → Earliest (ByteFault n sheet) e
first_row_fault n sheet i e o b (missing h) clean =
    (length sheet, cut (let r = row_apart n i (count n sheet + 2) b in omega arith), after_missing n sheet i b h clean)
first_row_fault n sheet i e o b (fault.stray j m u v t) clean =
    (row_at n i + j / 8, fault.stray i j b m u v t, after_stray n sheet i j o b m u v clean)

-- where all rows are clean the length alone can be at fault
pub first_length_fault : (n : ℕ) (sheet : List ℕ) → (length sheet ≡ needed n sheet → ⊥) →
    ((i : ℕ) → i < count n sheet + 2 → Clean n sheet (row_at n i)) →
    Earliest (ByteFault n sheet) (Length Certificate (min (length sheet) (needed n sheet)))
first_length_fault n sheet ne clean =
    ⊎_elim
    (λ (h : length sheet < needed n sheet).
    let e : length sheet ≡ min (length sheet) (needed n sheet) = omega arith in
    subst (λ m. Earliest (ByteFault n sheet) (Length Certificate m)) e (length sheet, cut h, λ q d f. at_cut h q d f))
    (λ (h : needed n sheet ≤ length sheet).
    let l : needed n sheet < length sheet = omega arith in
    let e : needed n sheet ≡ min (length sheet) (needed n sheet) = omega arith in
    subst (λ m. Earliest (ByteFault n sheet) (Length Certificate m)) e (needed n sheet, longer l, λ q d f. at_longer l q d f))
    (cases_lt (length sheet) (needed n sheet))
  where
    at_cut : length sheet < needed n sheet → (q : ℕ) (d : Refusal) → ByteFault n sheet q d → length sheet ≤ q
    at_cut h q d (cut l) = omega arith
    at_cut h q d (longer l) = omega arith
    at_cut h q d (fault.stray z k l w a x e) = absurd (never_stray n sheet (row_at n z) k (clean z l) a x e)

    at_longer : needed n sheet < length sheet → (q : ℕ) (d : Refusal) → ByteFault n sheet q d → needed n sheet ≤ q
    at_longer h q d (cut l) = omega arith
    at_longer h q d (longer l) = omega arith
    at_longer h q d (fault.stray z k l w a x e) = absurd (never_stray n sheet (row_at n z) k (clean z l) a x e)

-- clean rows and the right length leave no fault
pub no_byte_fault : (n : ℕ) (sheet : List ℕ) → length sheet ≡ needed n sheet →
    ((i : ℕ) → i < count n sheet + 2 → Clean n sheet (row_at n i)) → Clear (ByteFault n sheet)
no_byte_fault n sheet o clean q d (cut l) = omega arith
no_byte_fault n sheet o clean q d (longer l) = omega arith
no_byte_fault n sheet o clean q d (fault.stray z k l w a x e) = never_stray n sheet (row_at n z) k (clean z l) a x e
