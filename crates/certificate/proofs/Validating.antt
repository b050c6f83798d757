-- No fault at all is validity, and a valid certificate has no fault.
use Rattle.std.proofs.Common.{◌≡◌, ℕ, ◌+◌, ◌/◌, ◌<◌, ◌≤◌, Bool, true, false, List, length, ℤ, pos, ◌+ℤ◌, is_ok, Ok, Err, Decides, Result, refl, inl, inr, ⊎_elim, arith, MatchResult}
use lib.Signed.{clash_ℤ}
use borrow.Author.Differences.{ints}
use Rattle.std.proofs.lemmas.Int.{by_lt_z}
use Rattle.std.proofs.lemmas.Bool.{both_ways, false≢true, cases_lt, cases_eq, cases_Bool}
use Rattle.sets.specs.Bits.{row, row_bytes}
use Rattle.sets.specs.Matroid.{Set, size, both, outside, with}
use Rattle.sets.specs.declared.refusal.Refusal.{Refusal}
use Rattle.sets.specs.declared.refusal.Refusal.TheVariants.{Length, Range, Refused, Split}
use Rattle.sets.specs.declared.refusal.Which.TheVariants.{First, Second}
use Rattle.sets.specs.declared.refusal.Refusal.TheVariants as refusal
use Rattle.sets.specs.declared.refusal.Source.TheVariants.{Certificate}
use Rattle.matroid.specs.Optimal.{Dual, SignedSplit}
use Rattle.certificate.specs.Layout.{row_at, count, needed, largest_set, dual_set, sized_set, first_part, second_part, Clean}
use Rattle.certificate.specs.Validity.{Valid, work_length}
use Rattle.certificate.specs.Faults.{ByteFault, cut, longer, SetFault, wrong_size, first_refuses, second_refuses, Joins, within, beyond, DualFault, Outbids, Misjudged, unequal, first, second, SizedFault, NumbersFault, SplitFault, Clear, AllRight, PartsRight, Stage, Fault, FirstFault}
use Rattle.certificate.specs.Faults as fault
use Rattle.certificate.proofs.Rows.{row_apart}

-- two numbers that are not different are equal
equal_numbers : (a b : ℤ) → ((a ≡ b → ⊥) → ⊥) → a ≡ b
equal_numbers a b h =
    by_lt_z a b
    (λ l. absurd (h (λ e. omega (arith, ints))))
    (λ l. by_lt_z b a (λ k. absurd (h (λ e. omega (arith, ints)))) (λ k. omega (arith, ints)))

-- what is not false is true
pub not_refused : (b : Bool) → (b ≡ false → ⊥) → b ≡ true
not_refused b h = ⊎_elim (λ (e : b ≡ true). e) (λ (e : b ≡ false). absurd (h e)) (cases_Bool b)

-- what is not true is false
not_allowed : (b : Bool) → (b ≡ true → ⊥) → b ≡ false
not_allowed b h = ⊎_elim (λ (e : b ≡ true). absurd (h e)) (λ (e : b ≡ false). e) (cases_Bool b)

-- clean bytes have the right length, and clean rows
pub clear_long : (n : ℕ) (sheet : List ℕ) → Clear (ByteFault n sheet) → length sheet ≡ needed n sheet
clear_long n sheet h =
    ⊎_elim
    (λ (l : length sheet < needed n sheet). absurd (h (length sheet) (Length Certificate (length sheet)) (cut l)))
    (λ (l : needed n sheet ≤ length sheet).
    ⊎_elim
    (λ (k : needed n sheet < length sheet). absurd (h (needed n sheet) (Length Certificate (needed n sheet)) (longer k)))
    (λ (k : length sheet ≤ needed n sheet). omega arith)
    (cases_lt (needed n sheet) (length sheet)))
    (cases_lt (length sheet) (needed n sheet))

-- and clean rows
clear_clean : (n : ℕ) (sheet : List ℕ) → Clear (ByteFault n sheet) → (i : ℕ) → i < count n sheet + 2 → Clean n sheet (row_at n i)
clear_clean n sheet h i l =
    let long = clear_long n sheet h in
    let there : row_at n i + row_bytes n ≤ length sheet = (let r = row_apart n i (count n sheet + 2) l in omega arith) in
    record {
      whole = there;
      clear = λ j a b.
          not_allowed (row sheet (row_at n i) j)
          (λ e. h (row_at n i + j / 8) (Range Certificate (row_at n i + j / 8)) (fault.stray i j l there a b e));
    }

module _ (n : ℕ) (f g : Set → Bool) (w : ℕ → ℕ) (sheet : List ℕ) where
  -- the dual set of a certificate with no fault shows what it should
  dual_shown : Clear (SetFault n f g (count n sheet) (largest_set n sheet)) → Clear (DualFault n f g (largest_set n sheet) (dual_set n sheet)) →
      Dual n f g (largest_set n sheet) (dual_set n sheet)
  dual_shown h k =
      let s = largest_set n sheet in
      let u = dual_set n sheet in
      let c = count n sheet in
      record {
        first = not_refused (f s) (λ e. h 0 (Refused c First) (first_refuses e));
        second = not_refused (g s) (λ e. h 1 (Refused c Second) (second_refuses e));
        full_in = λ x l i o. not_allowed (f (with (both s u) x)) (λ e. k x (refusal.Dual x) (l, refl, within i o e));
        full_out = λ x l i o. not_allowed (g (with (outside s u) x)) (λ e. k x (refusal.Dual x) (l, refl, beyond i o e));
      }

  -- the set of each size has that size
  size_shown : (k : ℕ) → 1 ≤ k → k ≤ count n sheet → Clear (SizedFault n f g sheet k) → size n (sized_set n sheet k) ≡ k
  size_shown k a b h =
      ⊎_elim
      (λ (e : size n (sized_set n sheet k) ≡ k). e)
      (λ (e : size n (sized_set n sheet k) ≡ k → ⊥). absurd (h 0 (Refused k First) (a, b, wrong_size e)))
      (cases_eq (size n (sized_set n sheet k)) k)

  -- the numbers of each size show what they should
  split_shown : (k : ℕ) → 1 ≤ k → k ≤ count n sheet → Clear (SizedFault n f g sheet k) → Clear (NumbersFault n f g w sheet k) →
      SignedSplit n f g w (first_part n sheet k) (second_part n sheet k) (sized_set n sheet k)
  split_shown k a b h z =
      let s = sized_set n sheet k in
      let p = first_part n sheet k in
      let q = second_part n sheet k in
      record {
        first = not_refused (f s) (λ e. h 0 (Refused k First) (a, b, first_refuses e));
        second = not_refused (g s) (λ e. h 1 (Refused k Second) (a, b, second_refuses e));
        parts = λ x l. equal_numbers (p x +ℤ q x) (pos (w x)) (λ e. z x (Split k x) (a, b, (l, refl, unequal e)));
        add_first = λ y x yl xl i o e.
            by_lt_z (p y) (p x) (λ l. absurd (z x (Split k x) (a, b, (xl, refl, first o (y, yl, i, l, inl e))))) (λ l. l);
        exchange_first = λ y x yl xl i o e.
            by_lt_z (p y) (p x) (λ l. absurd (z x (Split k x) (a, b, (xl, refl, first o (y, yl, i, l, inr e))))) (λ l. l);
        add_second = λ y x yl xl i o e.
            by_lt_z (q y) (q x) (λ l. absurd (z x (Split k x) (a, b, (xl, refl, second o (y, yl, i, l, inl e))))) (λ l. l);
        exchange_second = λ y x yl xl i o e.
            by_lt_z (q y) (q x) (λ l. absurd (z x (Split k x) (a, b, (xl, refl, second o (y, yl, i, l, inr e))))) (λ l. l);
      }

  -- no fault at all
  pub valid_shown : Clear (ByteFault n sheet) → PartsRight n f g w sheet → Valid n f g w sheet
  valid_shown h k =
      record {
        long = clear_long n sheet h;
        clean = clear_clean n sheet h;
        dual = dual_shown k.0 k.1;
        sized = λ m a b. size_shown m a b (k.2 m (omega arith) a).0;
        split = λ m a b. split_shown m a b (k.2 m (omega arith) a).0 (k.2 m (omega arith) a).1;
      }

  -- a valid certificate
  module _ (v : Valid n f g w sheet) where
    -- its bytes have no fault
    no_byte : Clear (ByteFault n sheet)
    no_byte p e (cut l) = let o = v.long in omega arith
    no_byte p e (longer l) = let o = v.long in omega arith
    no_byte p e (fault.stray i j l m a b t) = both_ways (row sheet (row_at n i) j) ((v.clean i l).clear j a b) t

    -- its largest set has none
    no_largest : Clear (SetFault n f g (count n sheet) (largest_set n sheet))
    no_largest p e (wrong_size o) = o refl
    no_largest p e (first_refuses o) = both_ways (f (largest_set n sheet)) o v.dual.first
    no_largest p e (second_refuses o) = both_ways (g (largest_set n sheet)) o v.dual.second

    -- its dual set has none
    no_join : (x : ℕ) → x < n → Joins f g (largest_set n sheet) (dual_set n sheet) x → ⊥
    no_join x l (within i o h) = both_ways (f (with (both (largest_set n sheet) (dual_set n sheet)) x)) (v.dual.full_in x l i o) h
    no_join x l (beyond i o h) = both_ways (g (with (outside (largest_set n sheet) (dual_set n sheet)) x)) (v.dual.full_out x l i o) h

    -- the sets of its sizes have none
    no_sized : (k : ℕ) → Clear (SizedFault n f g sheet k)
    no_sized k p e (a, b, wrong_size o) = o (v.sized k a b)
    no_sized k p e (a, b, first_refuses o) = both_ways (f (sized_set n sheet k)) o (v.split k a b).first
    no_sized k p e (a, b, second_refuses o) = both_ways (g (sized_set n sheet k)) o (v.split k a b).second

    -- the numbers of its sizes have none
    no_numbers : (k : ℕ) → Clear (NumbersFault n f g w sheet k)
    no_numbers k x e (a, b, (l, r, unequal h)) = h ((v.split k a b).parts x l)
    no_numbers k x e (a, b, (l, r, first o (y, yl, i, t, inl h))) = clash_ℤ t ((v.split k a b).add_first y x yl l i o h)
    no_numbers k x e (a, b, (l, r, first o (y, yl, i, t, inr h))) = clash_ℤ t ((v.split k a b).exchange_first y x yl l i o h)
    no_numbers k x e (a, b, (l, r, second o (y, yl, i, t, inl h))) = clash_ℤ t ((v.split k a b).add_second y x yl l i o h)
    no_numbers k x e (a, b, (l, r, second o (y, yl, i, t, inr h))) = clash_ℤ t ((v.split k a b).exchange_second y x yl l i o h)

    -- it has no fault at all, with enough memory
    pub no_fault : (words : ℕ) → work_length n ≤ words → (b : Stage) (p : ℕ) (e : Refusal) → Fault n f g w sheet words b p e → ⊥
    no_fault words h fault.bytes p e z = no_byte p e z
    no_fault words h fault.memory p e z = let l = z.0 in omega arith
    no_fault words h fault.largest p e z = no_largest p e z
    no_fault words h fault.dual p e z = no_join p z.0 z.2
    no_fault words h (fault.sized k) p e z = no_sized k p e z
    no_fault words h (fault.numbers k) p e z = no_numbers k p e z

-- accepted exactly where it is valid and the memory is enough
pub exactly : (n : ℕ) (f g : Set → Bool) (w : ℕ → ℕ) (sheet : List ℕ) (words : ℕ) (r : Result ℕ Refusal) →
    MatchResult r (λ k. (k ≡ count n sheet) × Valid n f g w sheet × (work_length n ≤ words)) (λ e. FirstFault (Fault n f g w sheet words) e) →
    Decides (is_ok r) (Valid n f g w sheet × (work_length n ≤ words))
exactly n f g w sheet words (Ok k) h = (λ _. (h.1, h.2), λ _. refl)
exactly n f g w sheet words (Err e) h =
    (λ o. absurd (false≢true o), λ v. absurd (no_fault n f g w sheet v.0 words v.1 h.0 h.1.0 e h.1.1))
