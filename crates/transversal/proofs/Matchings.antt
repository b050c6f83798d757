-- Matchings of offers with volunteers: the test finds one where there is one, and a smaller matched set can take an offer from a larger.
use Rattle.std.proofs.Common.{◌≡◌, ℕ, zero, suc, ◌<◌, ◌≤◌, Bool, true, false, not, ◌&&◌, eqb, ltb, refl, ⊎_elim, arith}
use Rattle.std.proofs.lemmas.Bool.{cases_lt, cases_eq}
use Rattle.sets.specs.Matroid.{pick, Set, size, without, with, Within}
use Rattle.sets.proofs.FiniteSets.{size_without}
use Rattle.transversal.specs.Volunteers.{Tends, some, placed}

-- f changed at one place
abbrev pub put : (ℕ → ℕ) → ℕ → ℕ → ℕ → ℕ
put f x v y = pick (eqb y x) v (f y)

-- a set that can be mapped into another, different elements to different ones, is no larger
pub no_larger : (m n : ℕ) (t s : Set) (o : ℕ → ℕ) →
    ((x : ℕ) → x < m → t x ≡ true → (o x < n) × (s (o x) ≡ true)) →
    ((x y : ℕ) → x < m → y < m → t x ≡ true → t y ≡ true → o x ≡ o y → x ≡ y) →
    size m t ≤ size n s
no_larger zero n t s o into apart = omega arith
no_larger (suc m) n t s o into apart =
    go (t m) refl
    (no_larger m n t (without s (o m)) o)
    (no_larger m n t s o (λ x h. into x (omega arith)) (λ x y h k. apart x y (omega arith) (omega arith)))
  where
    go : (b : Bool) → t m ≡ b →
        (((x : ℕ) → x < m → t x ≡ true → (o x < n) × (without s (o m) (o x) ≡ true)) →
        ((x y : ℕ) → x < m → y < m → t x ≡ true → t y ≡ true → o x ≡ o y → x ≡ y) → size m t ≤ size n (without s (o m))) →
        size m t ≤ size n s → size (suc m) t ≤ size n s
    go true e rec other =
        let here = into m (omega arith) e in
        let r : suc (size n (without s (o m))) ≡ size n s = size_without n s (o m) here.0 here.1 in
        let k : size m t ≤ size n (without s (o m)) =
        rec (λ x h p. (
          (into x (omega arith) p).0,
          let i : s (o x) ≡ true = (into x (omega arith) p).1 in
              let d : o x ≡ o m → x ≡ m = apart x m (omega arith) (omega arith) p e in
              grind arith,
        ))
        (λ x y h l. apart x y (omega arith) (omega arith)) in
        grind arith
    go false e rec other = grind arith

-- the offer x takes volunteer v, whom no other offer has
pub put_tends : (can : ℕ → ℕ → Bool) (n m : ℕ) (s r : Set) (f : ℕ → ℕ) (x v : ℕ) → Tends can n m s f → v < m → can v x ≡ true →
    ((y : ℕ) → y < n → s y ≡ true → (y ≡ x → ⊥) → f y ≡ v → ⊥) → Within n r (with s x) → Tends can n m r (put f x v)
put_tends can n m s r f x v t low fit alone into = record { there = there; able = able; apart = apart }
  where
    old : (y : ℕ) → y < n → r y ≡ true → (y ≡ x → ⊥) → s y ≡ true
    old y h p d = let k : with s x y ≡ true = into y h p in grind arith

    there : (y : ℕ) → y < n → r y ≡ true → put f x v y < m
    there y h p = ⊎_elim (λ e. grind arith) (λ d. let k : f y < m = t.there y h (old y h p d) in grind arith) (cases_eq y x)

    able : (y : ℕ) → y < n → r y ≡ true → can (put f x v y) y ≡ true
    able y h p = ⊎_elim (λ e. grind arith) (λ d. let k : can (f y) y ≡ true = t.able y h (old y h p d) in grind arith) (cases_eq y x)

    apart : (y z : ℕ) → y < n → z < n → r y ≡ true → r z ≡ true → put f x v y ≡ put f x v z → y ≡ z
    apart y z h k p q e =
        ⊎_elim
        (λ a. ⊎_elim (λ b. omega arith) (λ b. absurd (alone z k (old z k q b) b (grind arith))) (cases_eq z x))
        (λ a. ⊎_elim (λ b. absurd (alone y h (old y h p a) a (grind arith)))
        (λ b. t.apart y z h k (old y h p a) (old z k q b) (grind arith)) (cases_eq z x))
        (cases_eq y x)

-- a matching serves every smaller set
pub part_tends : (can : ℕ → ℕ → Bool) (n m : ℕ) (s r : Set) (f : ℕ → ℕ) → Tends can n m s f → Within n r s → Tends can n m r f
part_tends can n m s r f t into = record {
  there = λ x h p. t.there x h (into x h p);
  able = λ x h p. t.able x h (into x h p);
  apart = λ x y h k p q. t.apart x y h k (into x h p) (into y k q);
}

-- the last number below m that passes a test
abbrev pub last : ℕ → Set → ℕ
last zero p = 0
last (suc m) p = pick (p m) m (last m p)

-- where some number passes, that one does
pub some_last : (m : ℕ) (p : Set) → some m p ≡ true → (last m p < m) × (p (last m p) ≡ true)
some_last zero p e = absurd (grind arith)
some_last (suc m) p e = go (p m) refl (some_last m p)
  where
    go : (b : Bool) → p m ≡ b → (some m p ≡ true → (last m p < m) × (p (last m p) ≡ true)) → (last (suc m) p < suc m) × (p (last (suc m) p) ≡ true)
    go true d rec = (grind arith, grind arith)
    go false d rec = let k : some m p ≡ true = grind arith in let r = rec k in let a : last m p < m = r.0 in let b : p (last m p) ≡ true = r.1 in (grind arith, grind arith)

-- where one passes, some do
pub some_from : (m : ℕ) (p : Set) (v : ℕ) → v < m → p v ≡ true → some m p ≡ true
some_from zero p v h e = absurd (omega arith)
some_from (suc m) p v h e =
    ⊎_elim (λ k. let r : some m p ≡ true = some_from m p v k e in grind arith) (λ k. let d : v ≡ m = omega arith in grind arith) (cases_lt v m)

-- the offers below m of a set
abbrev pub cut : ℕ → Set → Set
cut m s y = s y && ltb y m

-- a matching of the offers below m, seen among more offers
pub cut_tends : (can : ℕ → ℕ → Bool) (m n volunteers : ℕ) (s : Set) (f : ℕ → ℕ) → Tends can m volunteers s f → Tends can n volunteers (cut m s) f
cut_tends can m n volunteers s f t = record {
  there = λ x h p. t.there x (grind arith) (grind arith);
  able = λ x h p. t.able x (grind arith) (grind arith);
  apart = λ x y h k p q. t.apart x y (grind arith) (grind arith) (grind arith) (grind arith);
}

-- a test at the volunteer that it finds
both_parts : (a b c : Bool) → ((a && not b) && c) ≡ true → (a ≡ true) × (b ≡ false) × (c ≡ true)
both_parts a b c e = (grind arith, grind arith, grind arith)

-- where the test passes there is a matching that uses no volunteer that is used
pub placed_tends : (can : ℕ → ℕ → Bool) (volunteers m : ℕ) (used s : Set) → placed can volunteers m used s ≡ true →
    (f : ℕ → ℕ) × Tends can m volunteers s f × ((x : ℕ) → x < m → s x ≡ true → used (f x) ≡ false)
unfolding placed
placed_tends can volunteers zero used s e =
    (λ x. 0, record { there = λ x h. absurd (omega arith); able = λ x h. absurd (omega arith); apart = λ x y h. absurd (omega arith) }, λ x h. absurd (omega arith))
placed_tends can volunteers (suc m) used s e = go (s m) refl (λ u. placed_tends can volunteers m u s) e
  where
    found : (v : ℕ) → v < volunteers → can v m ≡ true → used v ≡ false →
        (f : ℕ → ℕ) × Tends can m volunteers s f × ((x : ℕ) → x < m → s x ≡ true → with used v (f x) ≡ false) →
        (f : ℕ → ℕ) × Tends can (suc m) volunteers s f × ((x : ℕ) → x < suc m → s x ≡ true → used (f x) ≡ false)
    found v low fit free r = (
      put r.0 m v,
      put_tends can (suc m) volunteers (cut m s) s r.0 m v (cut_tends can m (suc m) volunteers s r.0 r.1) low fit
          (λ y h p d q. let k : with used v (r.0 y) ≡ false = r.2 y (omega arith) (grind arith) in grind arith)
          (λ y h p. grind arith),
      λ x h p. ⊎_elim (λ q. grind arith) (λ q. let k : with used v (r.0 x) ≡ false = r.2 x (omega arith) p in grind arith) (cases_eq x m),
    )

    go : (b : Bool) → s m ≡ b →
        ((u : Set) → placed can volunteers m u s ≡ true → (f : ℕ → ℕ) × Tends can m volunteers s f × ((x : ℕ) → x < m → s x ≡ true → u (f x) ≡ false)) →
        pick b (some volunteers (λ v. (can v m && not (used v)) && placed can volunteers m (with used v) s)) (placed can volunteers m used s) ≡ true →
        (f : ℕ → ℕ) × Tends can (suc m) volunteers s f × ((x : ℕ) → x < suc m → s x ≡ true → used (f x) ≡ false)
    go true d rec q =
        let v : ℕ = last volunteers (λ v. (can v m && not (used v)) && placed can volunteers m (with used v) s) in
        let r = some_last volunteers (λ v. (can v m && not (used v)) && placed can volunteers m (with used v) s) q in
        let k = both_parts (can v m) (used v) (placed can volunteers m (with used v) s) r.1 in
        found v r.0 k.0 k.1 (rec (with used v) k.2)
    go false d rec q =
        let r = rec used q in (
          r.0,
          part_tends can (suc m) volunteers (cut m s) s r.0 (cut_tends can m (suc m) volunteers s r.0 r.1) (λ x h p. ⊎_elim (λ w. grind arith) (λ w. grind arith) (cases_eq x m)),
          λ x h p. r.2 x (⊎_elim (λ w. absurd (grind arith)) (λ w. omega arith) (cases_eq x m)) p,
        )

-- where there is such a matching the test passes
pub tends_placed : (can : ℕ → ℕ → Bool) (volunteers m : ℕ) (used s : Set) (f : ℕ → ℕ) → Tends can m volunteers s f →
    ((x : ℕ) → x < m → s x ≡ true → used (f x) ≡ false) → placed can volunteers m used s ≡ true
unfolding placed
tends_placed can volunteers zero used s f t free = refl
tends_placed can volunteers (suc m) used s f t free =
    go (s m) refl (λ u. tends_placed can volunteers m u s f less)
  where
    less : Tends can m volunteers s f
    less = record {
      there = λ x h. t.there x (omega arith);
      able = λ x h. t.able x (omega arith);
      apart = λ x y h k. t.apart x y (omega arith) (omega arith);
    }

    go : (b : Bool) → s m ≡ b → ((u : Set) → ((x : ℕ) → x < m → s x ≡ true → u (f x) ≡ false) → placed can volunteers m u s ≡ true) →
        pick b (some volunteers (λ v. (can v m && not (used v)) && placed can volunteers m (with used v) s)) (placed can volunteers m used s) ≡ true
    go true d rec =
        some_from volunteers (λ v. (can v m && not (used v)) && placed can volunteers m (with used v) s) (f m) (t.there m (omega arith) d)
        (let a : can (f m) m ≡ true = t.able m (omega arith) d in
        let b : used (f m) ≡ false = free m (omega arith) d in
        let c : placed can volunteers m (with used (f m)) s ≡ true = rec (with used (f m)) (λ x h p.
        let i : used (f x) ≡ false = free x (omega arith) p in
        let j : f x ≡ f m → x ≡ m = t.apart x m (omega arith) (omega arith) p d in
        grind arith) in
        grind arith)
    go false d rec = rec used (λ x h. free x (omega arith))
