-- The first fault of a set that is given in bytes and was loaded into words.
use Rattle.std.proofs.Common.{◌≡◌, ℕ, ◌+◌, ◌*◌, ◌<◌, ◌≤◌, Bool, true, false, ◌&&◌, ltb, List, sym, ap, ◌∙◌, arith}
use Rattle.std.proofs.lemmas.Bool.{both_ways, lt-ltb}
use Rattle.sets.specs.Bits.{row, word_row, marked, row_words}
use Rattle.sets.specs.Matroid.{Set, size, Matroid}
use Rattle.sets.proofs.FiniteSets.{size_same}
use Rattle.sets.proofs.MatroidLaws.{allowed_same}
use Rattle.sets.specs.declared.refusal.Refusal.{Refusal}
use Rattle.sets.specs.declared.refusal.Refusal.TheVariants.{Refused}
use Rattle.sets.specs.declared.refusal.Which.TheVariants.{First, Second}
use Rattle.certificate.specs.Faults.{SetFault, wrong_size, first_refuses, second_refuses, Earliest, Clear}

-- an offer in the first row of words
pub at_start : (words : List ℕ) (v : ℕ) → word_row words 0 v ≡ marked words v
at_start words v = let e : 32 * 0 + v ≡ v = omega arith in ap (marked words) e

-- an offer of a loaded row
pub loaded_offer : (n : ℕ) (words bytes : List ℕ) (at : ℕ) →
    ((j : ℕ) → j < 32 * row_words n → word_row words 0 j ≡ (ltb j n && row bytes at j)) → (v : ℕ) → v < n → marked words v ≡ row bytes at v
loaded_offer n words bytes at h v l =
    sym (at_start words v) ∙ h v (omega arith) ∙ (let t : ltb v n ≡ true = lt-ltb v n l in ap (λ (b : Bool). b && row bytes at v) t)

-- a loaded row has the size of the row, and a rule says of it what it says of the row
pub size_loaded : (n : ℕ) (words bytes : List ℕ) (at : ℕ) →
    ((j : ℕ) → j < 32 * row_words n → word_row words 0 j ≡ (ltb j n && row bytes at j)) → size n (word_row words 0) ≡ size n (row bytes at)
size_loaded n words bytes at h =
    size_same n (word_row words 0) (row bytes at) (λ v l. at_start words v ∙ loaded_offer n words bytes at h v l)

pub allowed_loaded : (n : ℕ) (f : Set → Bool) (words bytes : List ℕ) (at : ℕ) (r b : Bool) → Matroid n f →
    ((j : ℕ) → j < 32 * row_words n → word_row words 0 j ≡ (ltb j n && row bytes at j)) → r ≡ f (marked words) → r ≡ b → f (row bytes at) ≡ b
allowed_loaded n f words bytes at r b m h e d = sym (allowed_same m (marked words) (row bytes at) (loaded_offer n words bytes at h)) ∙ sym e ∙ d

module _ (n : ℕ) (f g : Set → Bool) (k : ℕ) (s : Set) where
  -- a set of another size is refused at place 0
  pub by_size : (size n s ≡ k → ⊥) → Earliest (SetFault n f g k s) (Refused k First)
  by_size h = (0, wrong_size h, λ q d _. omega arith)

  -- so is one that the first rule refuses
  pub by_first_rule : f s ≡ false → Earliest (SetFault n f g k s) (Refused k First)
  by_first_rule h = (0, first_refuses h, λ q d _. omega arith)

  -- one that the second rule refuses, and nothing else does, is refused at place 1
  pub by_second_rule : size n s ≡ k → f s ≡ true → g s ≡ false → Earliest (SetFault n f g k s) (Refused k Second)
  by_second_rule c e h = (1, second_refuses h, later)
    where
      later : (q : ℕ) (d : Refusal) → SetFault n f g k s q d → 1 ≤ q
      later q d (wrong_size o) = absurd (o c)
      later q d (first_refuses o) = absurd (both_ways (f s) o e)
      later q d (second_refuses o) = omega arith

  -- a set of its size that both rules allow has no fault
  pub no_set_fault : size n s ≡ k → f s ≡ true → g s ≡ true → Clear (SetFault n f g k s)
  no_set_fault c e h q d (wrong_size o) = o c
  no_set_fault c e h q d (first_refuses o) = both_ways (f s) o e
  no_set_fault c e h q d (second_refuses o) = both_ways (g s) o h
