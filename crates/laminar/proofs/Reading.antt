-- What reading a rule of limits says: it is well formed, or the refusal is the first of its faults.
use Rattle.std.proofs.Common.{◌≡◌, ℕ, zero, suc, ◌+◌, ◌-◌, ◌*◌, ◌<◌, ◌≤◌, Bool, true, false, cond, ltb, leb, ◌⊎◌, List, length, Ok, Err, Result, refl, ◌∙◌, subst, inl, inr, ⊎_elim, arith}
use Rattle.std.proofs.lemmas.Bool.{cases_eq, cases_order, both_ways, ltb-true, ltb-false, leb-true, leb-false, le-ltb}
use Rattle.sets.specs.declared.refusal.Refusal.{Refusal}
use Rattle.sets.specs.declared.refusal.Refusal.TheVariants.{Length, Range, Overlap}
use Rattle.sets.specs.declared.refusal.Source.TheVariants.{Offers}
use Rattle.sets.specs.Bits.{row_bytes}
use Rattle.sets.specs.Refusals.{place, number, Precedes, First}
use Rattle.laminar.specs.Limits.{group_bytes, group_at, limit, in_group, Nested, Well}
use Rattle.laminar.specs.Reading.{count, end, GroupFault, high, overlap, stray, Fault, cut, many, group, overlaps, overlaps_below, has_stray, then, read_group, read_groups, read}
use Rattle.laminar.proofs.Nested.{some_found, some_none, none_some, overlaps_true, overlapping_true, overlaps_false, nested_false, nested_swap}
use Rattle.laminar.proofs.Steps.{ends_before, next_group, passed, Passed, group_passed, read_in_range}

-- two results one after the other are fine where both are
then_ok : {A B : Type 0} (r : Result A Refusal) (q : Result B Refusal) (b : B) → then r q ≡ Ok b → ((a : A) × (r ≡ Ok a)) × (q ≡ Ok b)
then_ok (Ok a) q b h = ((a, refl), h)
then_ok (Err e) q b h = let z : ◌≡◌ {A = ℕ} 0 1 = cc in absurd (omega arith)

-- every group of a rule that was read has passed its tests
groups_passed : (file : List ℕ) (n at m : ℕ) → read_groups file n at m ≡ Ok tt → (g : ℕ) → g < m → Passed file n at g
groups_passed file n at zero h g l = absurd (omega arith)
groups_passed file n at (suc m) h g l =
    let p = then_ok (read_groups file n at m) (read_group file n at m) tt h in
    ⊎_elim
    (λ (q : g ≡ m). rw q (group_passed file n at m p.1))
    (λ (q : g ≡ m → ⊥). groups_passed file n at m p.0.1 g (omega arith))
    (cases_eq g m)

-- the last group's bytes are the rule's last bytes
whole_from : (file : List ℕ) (n at m : ℕ) → at ≤ length file → ((g : ℕ) → g < m → Passed file n at g) → group_at n at m ≤ length file
whole_from file n at zero l h = omega arith
whole_from file n at (suc m) l h =
    let p = ltb-false (length file) (group_at n at m + group_bytes n) (h m (omega arith)).has_row in
    omega (arith, next_group n at m)

-- a group that has passed is nested with each earlier one
nested_before : (file : List ℕ) (n at g h : ℕ) → h < g → Passed file n at g → Nested n (in_group file n at h) (in_group file n at g)
nested_before file n at g h l p =
    overlaps_false n (in_group file n at h) (in_group file n at g)
    (some_none g (λ k. overlaps n (in_group file n at k) (in_group file n at g)) p.apart h l)

nested_all : (file : List ℕ) (n at m : ℕ) → ((g : ℕ) → g < m → Passed file n at g) → (g h : ℕ) → g < m → h < m →
    Nested n (in_group file n at g) (in_group file n at h)
nested_all file n at m p g h lg lh =
    ⊎_elim
    (λ (q : g ≡ h). rw q (inr (inl (λ x l e. e))))
    (λ (q : (g < h) ⊎ (h < g)). ⊎_elim
    (λ (q : g < h). nested_before file n at h g q (p h lh))
    (λ (q : h < g). nested_swap n (in_group file n at h) (in_group file n at g) (nested_before file n at g h q (p g lg)))
    q)
    (cases_order g h)

-- no bit behind the last offer is set in a group that has passed
clean_from : (file : List ℕ) (n at g : ℕ) → Passed file n at g → (i : ℕ) → n ≤ i → i < 8 * row_bytes n → in_group file n at g i ≡ false
clean_from file n at g p i a b =
    let q : n + (i - n) ≡ i = omega arith in
    let r = some_none (8 * row_bytes n - n) (λ k. in_group file n at g (n + k)) p.clean (i - n) (omega arith) in
    let P : ℕ → Type 0 = λ k. in_group file n at g k ≡ false in
    subst P q r

-- groups that have all passed make a well-formed rule
well_from : (file : List ℕ) (n at m : ℕ) → at ≤ length file → m ≤ 64 → ((g : ℕ) → g < m → Passed file n at g) → Well file n m at
well_from file n at m l few p = record {
  whole = whole_from file n at m l p;
  few = few;
  low = λ g k. ltb-false 600 (limit file n at g) (p g k).low;
  clean = λ g i k. clean_from file n at g (p g k) i;
  nested = nested_all file n at m p;
}

-- what was read is well formed
pub ok_well : (file : List ℕ) (n p c : ℕ) → read file n p ≡ Ok c → (p + 1 ≤ length file) × (c ≡ count file p) × Well file n c (p + 1)
ok_well file n p c h =
    let a = passed (leb (length file) p) _ _ c h in
    let l = leb-false (length file) p a.0 in
    let b = passed (ltb 64 (count file p)) _ _ c a.1 in
    let d = then_ok (read_groups file n (p + 1) (count file p)) (Ok (count file p)) c b.1 in
    let e : c ≡ count file p = let z = d.1 in cc in
    let w = well_from file n (p + 1) (count file p) (omega arith) (ltb-false 64 (count file p) b.0) (groups_passed file n (p + 1) (count file p) d.0.1) in
    (omega arith, e, rw e w)

-- the groups of a well-formed rule pass their tests
well_passed : (file : List ℕ) (n m at : ℕ) → Well file n m at → (g : ℕ) → g < m → Passed file n at g
well_passed file n m at w g l =
    let b = ends_before n at g m l in
    let e = w.whole in
    record {
      has_limit = le-ltb (length file) (group_at n at g + 2) (omega arith);
      low = le-ltb 600 (limit file n at g) (w.low g l);
      has_row = le-ltb (length file) (group_at n at g + group_bytes n) (omega arith);
      apart = none_some g (λ h. overlaps n (in_group file n at h) (in_group file n at g))
          (λ h k. nested_false n (in_group file n at h) (in_group file n at g) (w.nested h g (omega arith) l));
      clean = none_some (8 * row_bytes n - n) (λ k. in_group file n at g (n + k)) (λ k j. w.clean g (n + k) l (omega arith) (omega arith));
    }

-- what has passed its tests is read
passed_ok : (file : List ℕ) (n at m : ℕ) → ((g : ℕ) → g < m → Passed file n at g) → read_groups file n at m ≡ Ok tt
passed_ok file n at zero h = refl
passed_ok file n at (suc m) h =
    let r = passed_ok file n at m (λ g l. h g (omega arith)) in
    let p = h m (omega arith) in
    rw (r, p.has_limit, p.low, p.has_row, p.apart, p.clean) refl

-- a well-formed rule is read
pub well_ok : (file : List ℕ) (n p : ℕ) → p + 1 ≤ length file → Well file n (count file p) (p + 1) → read file n p ≡ Ok (count file p)
well_ok file n p l w =
    let r = passed_ok file n (p + 1) (count file p) (well_passed file n (count file p) (p + 1) w) in
    read_in_range file n p (omega arith) w.few ∙ rw r refl

-- why a group was refused, with the tests that it had passed before
data Why (file : List ℕ) (n at g : ℕ) : Refusal → Type 0 where
  no_limit : length file < group_at n at g + 2 → Why file n at g (Length Offers (length file))
  too_high : group_at n at g + 2 ≤ length file → 600 < limit file n at g → Why file n at g (Range Offers (group_at n at g))
  no_row : limit file n at g ≤ 600 → length file < group_at n at g + group_bytes n → Why file n at g (Length Offers (length file))
  crosses : limit file n at g ≤ 600 → group_at n at g + group_bytes n ≤ length file → overlaps_below file n at g g ≡ true →
      Why file n at g (Overlap (group_at n at g))
  strays : limit file n at g ≤ 600 → group_at n at g + group_bytes n ≤ length file → overlaps_below file n at g g ≡ false → has_stray file n at g ≡ true →
      Why file n at g (Range Offers (group_at n at g + 1 + row_bytes n))

-- what holds of a refusal, by the test that was failed
by_test : {A : Type 0} (P : Refusal → Type 0) (b : Bool) (e f : Refusal) (r : Result A Refusal) → cond b (Err e) r ≡ Err f →
    (b ≡ true → P e) → (b ≡ false → r ≡ Err f → P f) → P f
by_test P true e f r h here later = let q : e ≡ f = cc in subst P q (here refl)
by_test P false e f r h here later = later refl h

-- a refused group has its reason
why : (file : List ℕ) (n at g : ℕ) (e : Refusal) → read_group file n at g ≡ Err e → Why file n at g e
why file n at g e h =
    let P = Why file n at g in
    by_test P (ltb (length file) (group_at n at g + 2)) _ e _ h
    (λ a. no_limit (ltb-true (length file) (group_at n at g + 2) a))
    (λ a h. by_test P (ltb 600 (limit file n at g)) _ e _ h
    (λ b. too_high (ltb-false (length file) (group_at n at g + 2) a) (ltb-true 600 (limit file n at g) b))
    (λ b h. let low = ltb-false 600 (limit file n at g) b in
    by_test P (ltb (length file) (group_at n at g + group_bytes n)) _ e _ h
    (λ c. no_row low (ltb-true (length file) (group_at n at g + group_bytes n) c))
    (λ c h. let long = ltb-false (length file) (group_at n at g + group_bytes n) c in
    by_test P (overlaps_below file n at g g) _ e _ h (crosses low long)
    (λ d h. by_test P (has_stray file n at g) _ e _ h (strays low long d)
    (λ _ h. let z : ◌≡◌ {A = ℕ} 0 1 = cc in absurd (omega arith))))))

-- the reason is a fault
why_fault : (file : List ℕ) (n p g : ℕ) {e : Refusal} → g < count file p → Why file n (p + 1) g e → Fault file n p e
why_fault file n p g l (no_limit a) = cut (omega (arith, ends_before n (p + 1) g (count file p) l))
why_fault file n p g l (too_high a b) = group g _ l (high a b)
why_fault file n p g l (no_row a b) = cut (omega (arith, ends_before n (p + 1) g (count file p) l))
why_fault file n p g l (crosses a b c) =
    let x = some_found g (λ h. overlaps n (in_group file n (p + 1) h) (in_group file n (p + 1) g)) c in
    group g _ l (overlap x.0 x.1 b (overlaps_true n (in_group file n (p + 1) x.0) (in_group file n (p + 1) g) x.2))
why_fault file n p g l (strays a b c d) =
    let x = some_found (8 * row_bytes n - n) (λ k. in_group file n (p + 1) g (n + k)) d in
    group g _ l (stray (n + x.0) (omega arith) (omega (arith, x.1)) b x.2)

-- a refusal of a group stands in the group, or the bytes end there
why_place : (file : List ℕ) (n at g : ℕ) {e : Refusal} → Why file n at g e →
    ((place e < group_at n at g + group_bytes n) × (place e < length file)) ⊎ ((place e ≡ length file) × (number e ≡ 1) × (length file < group_at n at g + group_bytes n))
why_place file n at g (no_limit a) = inr (refl, refl, omega arith)
why_place file n at g (too_high a b) = inl (omega arith, omega arith)
why_place file n at g (no_row a b) = inr (refl, refl, b)
why_place file n at g (crosses a b c) = inl (omega arith, omega arith)
why_place file n at g (strays a b c d) = inl (omega arith, omega arith)

-- a fault of a group stands in the group, in the file
group_place : (file : List ℕ) (n at g : ℕ) {f : Refusal} → GroupFault file n at g f →
    (group_at n at g ≤ place f) × (place f < group_at n at g + group_bytes n) × (place f < length file)
group_place file n at g (high a b) = (omega arith, omega arith, omega arith)
group_place file n at g (overlap h a b c) = (omega arith, omega arith, omega arith)
group_place file n at g (stray i a b c d) = (omega arith, omega arith, omega arith)

-- a group that has passed its tests has no fault
passed_faultless : (file : List ℕ) (n at g : ℕ) {f : Refusal} → Passed file n at g → GroupFault file n at g f → ⊥
passed_faultless file n at g p (high a b) = let c = ltb-false 600 (limit file n at g) p.low in omega arith
passed_faultless file n at g p (overlap h a b c) =
    let d = some_none g (λ k. overlaps n (in_group file n at k) (in_group file n at g)) p.apart h a in
    both_ways (overlaps n (in_group file n at h) (in_group file n at g)) d (overlapping_true n (in_group file n at h) (in_group file n at g) c)
passed_faultless file n at g p (stray i a b c d) = both_ways (in_group file n at g i) (clean_from file n at g p i a b) d

-- a refused group's reason comes before every fault of that group
same_group : (file : List ℕ) (n at g : ℕ) {e f : Refusal} → Why file n at g e → GroupFault file n at g f → Precedes e f
same_group file n at g (no_limit a) (high b c) = absurd (omega arith)
same_group file n at g (no_limit a) (overlap h b c d) = absurd (omega arith)
same_group file n at g (no_limit a) (stray i b c d k) = absurd (omega arith)
same_group file n at g (too_high a x) (high b c) = inr (refl, omega arith)
same_group file n at g (too_high a x) (overlap h b c d) = inr (refl, omega arith)
same_group file n at g (too_high a x) (stray i b c d k) = inl (omega arith)
same_group file n at g (no_row a x) (high b c) = absurd (omega arith)
same_group file n at g (no_row a x) (overlap h b c d) = absurd (omega arith)
same_group file n at g (no_row a x) (stray i b c d k) = absurd (omega arith)
same_group file n at g (crosses a x y) (high b c) = absurd (omega arith)
same_group file n at g (crosses a x y) (overlap h b c d) = inr (refl, omega arith)
same_group file n at g (crosses a x y) (stray i b c d k) = inl (omega arith)
same_group file n at g (strays a x y z) (high b c) = absurd (omega arith)
same_group file n at g (strays a x y z) (overlap h b c d) =
    absurd (both_ways (overlaps n (in_group file n at h) (in_group file n at g))
    (some_none g (λ k. overlaps n (in_group file n at k) (in_group file n at g)) y h b)
    (overlapping_true n (in_group file n at h) (in_group file n at g) d))
same_group file n at g (strays a x y z) (stray i b c d k) = inr (refl, omega arith)

-- of two results one after the other the first is refused, or it is fine and the second is refused
then_err : {A B : Type 0} (r : Result A Refusal) (q : Result B Refusal) (e : Refusal) → then r q ≡ Err e →
    (r ≡ Err e) ⊎ (((a : A) × (r ≡ Ok a)) × (q ≡ Err e))
then_err (Ok a) q e h = inr ((a, refl), h)
then_err (Err f) q e h = let z : f ≡ e = cc in inl (rw z refl)

-- where groups are refused, one is, and those before it have passed
first_failing : (file : List ℕ) (n at m : ℕ) (e : Refusal) → read_groups file n at m ≡ Err e →
    (g : ℕ) × (g < m) × ((h : ℕ) → h < g → Passed file n at h) × (read_group file n at g ≡ Err e)
first_failing file n at zero e h = let z : ◌≡◌ {A = ℕ} 0 1 = cc in absurd (omega arith)
first_failing file n at (suc m) e h =
    ⊎_elim
    (λ (q : read_groups file n at m ≡ Err e). let r = first_failing file n at m e q in (r.0, omega (arith, r.1), r.2, r.3))
    (λ (q : ((a : Unit {0}) × (read_groups file n at m ≡ Ok a)) × (read_group file n at m ≡ Err e)).
    (m, omega arith, groups_passed file n at m q.0.1, q.1))
    (then_err (read_groups file n at m) (read_group file n at m) e h)

-- the reason of the first refused group comes before every fault of the rule
err_group : (file : List ℕ) (n p g : ℕ) (e : Refusal) → p < length file → count file p ≤ 64 → g < count file p →
    ((h : ℕ) → h < g → Passed file n (p + 1) h) → Why file n (p + 1) g e → (f : Refusal) → Fault file n p f → Precedes e f
err_group file n p g e l few lg before w _ (cut a) =
    ⊎_elim
    (λ (q : (place e < group_at n (p + 1) g + group_bytes n) × (place e < length file)). inl q.1)
    (λ (q : (place e ≡ length file) × (number e ≡ 1) × (length file < group_at n (p + 1) g + group_bytes n)). inr (q.0, omega (arith, q.1)))
    (why_place file n (p + 1) g w)
err_group file n p g e l few lg before w _ (many a b) = absurd (omega arith)
err_group file n p g e l few lg before w f (group h _ lh k) =
    let at_f = group_place file n (p + 1) h k in
    ⊎_elim
    (λ (q : h ≡ g). same_group file n (p + 1) g w (rw q at k))
    (λ (q : (h < g) ⊎ (g < h)). ⊎_elim
    (λ (q : h < g). absurd (passed_faultless file n (p + 1) h (before h q) k))
    (λ (q : g < h).
    let b = ends_before n (p + 1) g h q in
    ⊎_elim
    (λ (z : (place e < group_at n (p + 1) g + group_bytes n) × (place e < length file)). inl (omega arith))
    (λ (z : (place e ≡ length file) × (number e ≡ 1) × (length file < group_at n (p + 1) g + group_bytes n)). absurd (omega arith))
    (why_place file n (p + 1) g w))
    q)
    (cases_order h g)

-- a refusal is the first of the rule's faults
pub err_first : (file : List ℕ) (n p : ℕ) (e : Refusal) → read file n p ≡ Err e → First (Fault file n p) e
err_first file n p e h =
    by_test (First (Fault file n p)) (leb (length file) p) _ e _ h
    (λ a. let l = leb-true (length file) p a in (cut (omega arith), no_header file n p l))
    (λ a h. let l = leb-false (length file) p a in
    by_test (First (Fault file n p)) (ltb 64 (count file p)) _ e _ h
    (λ b. (many l (ltb-true 64 (count file p) b), too_many file n p l))
    (λ b h. let few = ltb-false 64 (count file p) b in
    ⊎_elim
    (λ (q : read_groups file n (p + 1) (count file p) ≡ Err e).
    let r = first_failing file n (p + 1) (count file p) e q in
    let w = why file n (p + 1) r.0 e r.3 in
    (why_fault file n p r.0 r.1 w, err_group file n p r.0 e l few r.1 r.2 w))
    (λ (q : ((a : Unit {0}) × (read_groups file n (p + 1) (count file p) ≡ Ok a)) × (Ok (count file p) ≡ Err e)).
    let x = q.1 in let z : ◌≡◌ {A = ℕ} 0 1 = cc in absurd (omega arith))
    (then_err (read_groups file n (p + 1) (count file p)) (Ok (count file p)) e h)))
  where
    no_header : (file : List ℕ) (n p : ℕ) → length file ≤ p → (f : Refusal) → Fault file n p f → Precedes (Length Offers (length file)) f
    no_header file n p l _ (cut a) = inr (refl, omega arith)
    no_header file n p l _ (many a b) = absurd (omega arith)
    no_header file n p l f (group h _ a k) = let x = group_place file n (p + 1) h k in absurd (omega arith)

    too_many : (file : List ℕ) (n p : ℕ) → p < length file → (f : Refusal) → Fault file n p f → Precedes (Range Offers p) f
    too_many file n p l _ (cut a) = inl l
    too_many file n p l _ (many a b) = inr (refl, omega arith)
    too_many file n p l f (group h _ a k) = let x = group_place file n (p + 1) h k in inl (omega arith)

-- a well-formed rule has no fault
pub well_faultless : (file : List ℕ) (n p : ℕ) (f : Refusal) → p + 1 ≤ length file → Well file n (count file p) (p + 1) → Fault file n p f → ⊥
well_faultless file n p _ l w (cut a) = let x = w.whole in omega arith
well_faultless file n p _ l w (many a b) = let x = w.few in omega arith
well_faultless file n p f l w (group h _ a k) = passed_faultless file n (p + 1) h (well_passed file n (count file p) (p + 1) w h a) k

-- a fault stands in the rule's bytes that are there, or is that the bytes end before the rule
pub fault_place : (file : List ℕ) (n p : ℕ) (f : Refusal) → Fault file n p f →
    ((f ≡ Length Offers (length file)) × (length file < end file n p)) ⊎ ((p ≤ place f) × (place f < end file n p) × (place f < length file))
fault_place file n p _ (cut a) = inl (refl, a)
fault_place file n p _ (many a b) = inr (omega arith, omega arith, a)
fault_place file n p f (group h _ a k) =
    let x = group_place file n (p + 1) h k in
    let y = ends_before n (p + 1) h (count file p) a in
    inr (omega arith, omega arith, x.2)
