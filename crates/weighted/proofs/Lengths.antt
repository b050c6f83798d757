-- The lengths of the lent memory are small numbers.
use Rattle.std.proofs.Common.{◌≡◌, ℕ, ◌+◌, ◌*◌, ◌<◌, ◌≤◌, Bool, false, cond, ltb, List, length, get_or, Ok, Err, Result, ap, ◌∙◌, mul-le-mul, arith, le-ltb}
use Rattle.sets.specs.Bits.{marked, word_row, row_bytes, row_words}
use Rattle.sets.specs.declared.refusal.Refusal.{Refusal}
use Rattle.sets.specs.declared.refusal.Refusal.TheVariants.{Short}
use Rattle.sets.specs.declared.refusal.Lent.TheVariants.{Sets, Numbers, Work}
use Rattle.sets.specs.Matroid.{size}
use Rattle.sets.proofs.FiniteSets.{size_bound}
use Rattle.matroid.specs.declared.rule.Rule.{Rule}
use Rattle.matroid.specs.declared.rule.Rule.TheVariants.{Limits, Volunteers, Links, Rows}
use Rattle.matroid.specs.declared.problem.Problem.{Problem}
use Rattle.matroid.specs.Problem.{Stands, weight_of}
use Rattle.matroid.specs.Reading.{and_then, read}
use Rattle.matroid.specs.Rules.{allows, kept_length}
use Rattle.weighted.specs.Choice.{sets_length, numbers_length, work_length, all_calls, largest_set, admitted, Chosen, Choice}
use Rattle.weighted.proofs.Chosen.{few_calls}

-- what is kept for up to 600 offers
pub kept_small : (n : ℕ) → n ≤ 600 → kept_length n ≤ 63000
kept_small n h =
    let a : n + 601 ≤ 1201 = omega arith in
    let b : row_words n ≤ 19 = omega arith in
    let c : (n + 601) * row_words n ≤ 1201 * 19 = mul-le-mul a b in
    let d : 601 ≤ 601 = omega arith in
    let e : row_words n * 601 ≤ 19 * 601 = mul-le-mul b d in
    omega arith

-- a row that was cleared is empty
pub cleared : (n : ℕ) (words : List ℕ) → ((j : ℕ) → j < 32 * row_words n → word_row words 0 j ≡ false) → (x : ℕ) → x < n → marked words x ≡ false
cleared n words h x l =
    let b : x < 32 * row_words n = omega arith in
    let z : x ≡ 32 * 0 + x = omega arith in
    ap (marked words) z ∙ h x b

-- numbers that were cleared are 0
pub zeroed : (n : ℕ) (words : List ℕ) → ((p : ℕ) → p < n → get_or words (0 + p) 0 ≡ 0) → (x : ℕ) → x < n → get_or words x 0 ≡ 0
zeroed n words h x l =
    let z : x ≡ 0 + x = omega arith in
    ap (λ (p : ℕ). get_or words p 0) z ∙ h x l

-- a rule that stands in a file begins in it
pub begins_within : (file : List ℕ) (n p : ℕ) (rule : Rule) → Stands file n p rule → p ≤ length file
begins_within file n p (Limits groups at) h = let b : p + 2 ≤ length file = h.0 in omega arith
begins_within file n p (Volunteers volunteers at) h = let b : p + 3 ≤ length file = h.0 in omega arith
begins_within file n p (Links towns at) h = let b : p + 3 ≤ length file = h.0 in omega arith
begins_within file n p (Rows prime long at) h = let b : p + 3 ≤ length file = h.0 in omega arith

-- the last of three tests on lengths, the last two, and all three
abbrev last_test : ℕ → Problem → Result Problem Refusal
last_test work q = cond (ltb work (work_length q.n)) (Err (Short Work)) (Ok q)

abbrev two_tests : ℕ → ℕ → Problem → Result Problem Refusal
two_tests numbers work q = cond (ltb numbers (numbers_length q.n)) (Err (Short Numbers)) (last_test work q)

abbrev all_tests : ℕ → ℕ → ℕ → Problem → Result Problem Refusal
all_tests sets numbers work q = cond (ltb sets (sets_length q.n)) (Err (Short Sets)) (two_tests numbers work q)

-- a file that is read and slices that are long enough are admitted
pub admits : (file : List ℕ) (sets numbers work : ℕ) (problem : Problem) → read file ≡ Ok problem → sets_length problem.n ≤ sets →
    numbers_length problem.n ≤ numbers → work_length problem.n ≤ work → admitted file sets numbers work ≡ Ok problem
admits file sets numbers work problem e a b c =
    ap (λ (r : Result Problem Refusal). and_then r (all_tests sets numbers work)) e
    ∙ ap (λ (v : Bool). cond v (Err (Short Sets)) (two_tests numbers work problem)) (le-ltb sets (sets_length problem.n) a)
    ∙ ap (λ (v : Bool). cond v (Err (Short Numbers)) (last_test work problem)) (le-ltb numbers (numbers_length problem.n) b)
    ∙ ap (λ (v : Bool). cond v (Err (Short Work)) (Ok problem)) (le-ltb work (work_length problem.n) c)

-- the whole of the lent words is a small number
pub work_small : (n kept : ℕ) → n ≤ 600 → kept ≤ 63000 → 5 * n + (n + 6) * row_words n + 2 * kept ≤ 260000
work_small n kept h k =
    let a : n + 6 ≤ 606 = omega arith in
    let b : row_words n ≤ 19 = omega arith in
    let c : (n + 6) * row_words n ≤ 606 * 19 = mul-le-mul a b in
    omega arith

-- a set of at most n offers, in so many rounds
pub choice : (file : List ℕ) (problem : Problem) (count rounds calls : ℕ) (sets numbers sets' numbers' : List ℕ) →
    Chosen problem.n (allows file problem.n problem.first) (allows file problem.n problem.second) (weight_of file) sets' numbers' count →
    rounds ≡ count → calls ≡ all_calls problem.n count →
    ((p : ℕ) → 2 * (count * problem.n) ≤ p → get_or numbers' p 0 ≡ get_or numbers p 0) →
    ((p : ℕ) → (count + 2) * row_bytes problem.n ≤ p → get_or sets' p 0 ≡ get_or sets p 0) →
    Choice file problem count rounds calls sets numbers sets' numbers'
choice file problem count rounds calls sets numbers sets' numbers' h r c d e =
    let n = problem.n in
    let b : size n (largest_set sets') ≤ n = size_bound n (largest_set sets') in
    let i : count ≤ n = omega (arith, h.counted) in
    record {
      chosen = h;
      in_rounds = r;
      at_most_all = i;
      counted = c;
      few_calls = λ k l. few_calls n k (omega arith);
      numbers_behind = d;
      sets_behind = e;
    }
