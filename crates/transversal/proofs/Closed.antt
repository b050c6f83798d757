-- What closed sets of offers say: who can come to a matched set, and who cannot.
use Rattle.std.proofs.Common.{◌≡◌, ℕ, ◌<◌, ◌≤◌, Bool, true, false, not, ◌&&◌, ◌||◌, eqb, ltb, leb, ◌⊎◌, sym, refl, ap, ◌∙◌, inl, inr, ⊎_elim, arith}
use Rattle.std.proofs.lemmas.Bool.{cases_Bool, cases_lt, cases_eq, lt-ltb}
use Rattle.sets.specs.Matroid.{Set, without, with, none, Within}
use Rattle.transversal.specs.Volunteers.{Tends}
use Rattle.transversal.specs.Pairs.{matched, Paired, Stuck, Chain, one, more, start, start_free}
use Rattle.transversal.proofs.Matchings.{part_tends, cut, last, some_last, some_from}
use Rattle.transversal.proofs.Augment.{busy, idle}
use Rattle.transversal.proofs.Growth.{Grown, begin, seed, onward, comes, blocked}

-- who is in a set and not in it without y is y
not_other : (u y w m : ℕ) → (ltb w m && not (eqb u y)) ≡ false → w < m → u ≡ y
not_other u y w m e h = grind arith

-- who can, does
start_from : (a b : Bool) → a ≡ true → b ≡ true → (a && b) ≡ true
start_from a b p q = grind arith

module _ (can : ℕ → ℕ → Bool) (n volunteers : ℕ) (f o : ℕ → ℕ) (p : Paired can n volunteers f o) where
  -- pairs are a matching
  pub paired_tends : Tends can n volunteers (matched volunteers f) f
  paired_tends = record {
    there = λ x h e. grind arith;
    able = λ x h e. p.able x h (grind arith);
    apart = λ x y h k e d q. sym (p.owned x h (grind arith)) ∙ (ap o q ∙ p.owned y k (grind arith));
  }

  -- who is busy with no offer of b but perhaps y is free, or looks after y
  pub free_but : (b : Set) (v : ℕ) → v < volunteers → busy n b f v ≡ false →
      (n ≤ o v) ⊎ ((o v < n) × (f (o v) ≡ v) × (b (o v) ≡ false))
  free_but b v low e = ⊎_elim
      (λ (h : o v < n). let q : f (o v) ≡ v = p.back v low h in
      inr (h, q, ⊎_elim (λ d. absurd (idle n b f v (o v) e h d q)) (λ d. d) (cases_Bool (b (o v)))))
      (λ h. inl h) (cases_lt (o v) n)

  -- a free volunteer has no offer
  pub free_idle : (v y : ℕ) → n ≤ o v → y < n → f y < volunteers → f y ≡ v → ⊥
  free_idle v y free h low e = let a : o (f y) ≡ y = p.owned y h low in let b : o (f y) ≡ o v = ap o e in omega arith

  -- no set with x and all who have a volunteer is allowed where no free volunteer is come to from x
  pub stuck_refuses : (s : Set) (x : ℕ) (g : ℕ → ℕ) → Stuck can n volunteers f o x → x < n → volunteers ≤ f x → Within n (with (matched volunteers f) x) s →
      Tends can n volunteers s g → ⊥
  stuck_refuses s x g st h out into t =
      blocked can n volunteers (matched volunteers f) f st.0 x g
      (λ v a low e k c. ⊎_elim (λ q. st.1.open_hands v a low q k c)
      (λ q. absurd (let i : f (o v) ≡ v = q.1 in let j : matched volunteers f (o v) ≡ false = q.2 in grind arith)) (free_but (matched volunteers f) v low e))
      (λ z a k e r l c. st.1.next_hands z a k r (grind arith) l c)
      h (grind arith) st.2 (part_tends can n volunteers s (with (matched volunteers f) x) g t into)

  -- the offers below x of s have a volunteer, and x is one of s
  pub cut_with : (s : Set) (x : ℕ) → s x ≡ true → ((u : ℕ) → u < n → matched volunteers f u ≡ cut x s u) → Within n (with (matched volunteers f) x) s
  cut_with s x e same u h d = ⊎_elim
      (λ (q : u ≡ x). ap s q ∙ e)
      (λ q. let a : matched volunteers f u ≡ cut x s u = same u h in grind arith) (cases_eq u x)

  -- x itself has none yet
  pub cut_out : (s : Set) (x : ℕ) → x < n → ((u : ℕ) → u < n → matched volunteers f u ≡ cut x s u) → volunteers ≤ f x
  cut_out s x h same = let a : matched volunteers f x ≡ cut x s x = same x h in grind arith

  module _ (old t : ℕ → ℕ → Bool)
      (rows : (y x : ℕ) → y < n → x < n → old y x ≡ start can volunteers f y x)
      (free : (x : ℕ) → x < n → old n x ≡ start_free can n volunteers o x)
      (chains : (k x : ℕ) → k ≤ n → x < n → t k x ≡ true → Chain n old k x)
      (base : (k x : ℕ) → k ≤ n → x < n → old k x ≡ true → t k x ≡ true)
      (closed : (k z x : ℕ) → k ≤ n → z < n → x < n → t k z ≡ true → t z x ≡ true → t k x ≡ true) where
    -- a chain begins at an offer that has a volunteer
    chain_matched : (z x : ℕ) → z < n → x < n → Chain n old z x → f z < volunteers
    chain_matched z x h k (one e) = let a : old z x ≡ start can volunteers f z x = rows z x h k in grind arith
    chain_matched z x h k (more {z = y} l a b) = chain_matched z y h l a

    -- who is come to can be looked after by a volunteer who can be made free
    chain_grows : (b : Set) → Within n b (matched volunteers f) → (k x : ℕ) → k ≤ n → x < n → Chain n old k x → (w : Set) → Grown can n volunteers b f w →
        (k < n → w (f k) ≡ true) → (u : Set) × (v : ℕ) × Grown can n volunteers b f u × (u v ≡ true) × (can v x ≡ true)
    chain_grows b into k x hk hx (one e) w g has = ⊎_elim
        (λ (l : k < n). let a : old k x ≡ start can volunteers f k x = rows k x l hx in (w, f k, g, has l, grind arith))
        (λ l. let i : k ≡ n = omega arith in
        let a : start_free can n volunteers o x ≡ true = sym (free x hx) ∙ (ap (λ j. old j x) (sym i) ∙ e) in
        found (some_last volunteers (λ v. leb n (o v) && can v x) a))
        (cases_lt k n)
      where
        found : (last volunteers (λ v. leb n (o v) && can v x) < volunteers) × ((leb n (o (last volunteers (λ v. leb n (o v) && can v x))) && can (last volunteers (λ v. leb n (o v) && can v x)) x) ≡ true) →
            (u : Set) × (v : ℕ) × Grown can n volunteers b f u × (u v ≡ true) × (can v x ≡ true)
        found r =
            let v : ℕ = last volunteers (λ v. leb n (o v) && can v x) in
            let d : (leb n (o v) && can v x) ≡ true = r.1 in
            (with w v, v, seed v g r.0 (λ y h p q. free_idle v y (grind arith) h (let m : matched volunteers f y ≡ true = into y h p in grind arith) q), grind arith, grind arith)
    chain_grows b into k x hk hx (more {z = z} l a c) w g has =
        let r = chain_grows b into k z hk l a w g has in
        let m : f z < volunteers = chain_matched z x l hx c in
        onto (b z) refl r.0 r.1 r.2 r.3 r.4 m (chain_grows b into z x (omega arith) hx c)
      where
        onto : (i : Bool) → b z ≡ i → (u : Set) (v : ℕ) → Grown can n volunteers b f u → u v ≡ true → can v z ≡ true → f z < volunteers →
            ((w : Set) → Grown can n volunteers b f w → (z < n → w (f z) ≡ true) → (u : Set) × (v : ℕ) × Grown can n volunteers b f u × (u v ≡ true) × (can v x ≡ true)) →
            (u : Set) × (v : ℕ) × Grown can n volunteers b f u × (u v ≡ true) × (can v x ≡ true)
        onto true e u v q d fit m rec = rec (with u (f z)) (onward v z q d l e fit) (λ _. grind arith)
        onto false e u v q d fit m rec = rec (with u (f z))
            (seed (f z) q m (λ y h s i. let j : matched volunteers f y ≡ true = into y h s in
            let o₁ : o (f y) ≡ y = p.owned y h (grind arith) in
            let o₂ : o (f z) ≡ z = p.owned z l m in
            let same : y ≡ z = sym o₁ ∙ (ap o i ∙ o₂) in
            let bz : b y ≡ b z = ap b same in grind arith))
            (λ _. grind arith)

    -- a base set inside of the matched offers, closed rows r for it, and an offer outside: it can come just where r has it
    refused_by : (b r : Set) (x : ℕ) (g : ℕ → ℕ) → Within n b (matched volunteers f) →
        ((v a : ℕ) → v < volunteers → busy n b f v ≡ false → a < n → can v a ≡ true → r a ≡ true) →
        ((z a : ℕ) → z < n → b z ≡ true → r z ≡ true → a < n → t z a ≡ true → r a ≡ true) →
        x < n → b x ≡ false → Tends can n volunteers (with b x) g → r x ≡ true
    refused_by b r x g into hands next h out tg = ⊎_elim (λ e. e)
        (λ e. absurd (blocked can n volunteers b f r x g hands
        (λ z a k i q l c. let m : matched volunteers f z ≡ true = into z k i in
        let s : old z a ≡ start can volunteers f z a = rows z a k l in
        next z a k i q l (base z a (omega arith) l (grind arith)))
        h out e tg))
        (cases_Bool (r x))

    -- a free volunteer's offers are in row n
    free_row : (v a : ℕ) → v < volunteers → n ≤ o v → a < n → can v a ≡ true → t n a ≡ true
    free_row v a low e k c = base n a (omega arith) k (free a k ∙ some_from volunteers (λ v. leb n (o v) && can v a) v low (grind arith))

    -- row n has x just where x can be added
    pub adds_comes : (x : ℕ) → x < n → t n x ≡ true → (g : ℕ → ℕ) × Tends can n volunteers (with (matched volunteers f) x) g
    adds_comes x h e =
        let r = chain_grows (matched volunteers f) (λ y k q. q) n x (omega arith) h (chains n x (omega arith) h e) none begin (λ l. absurd (omega arith)) in
        comes can n volunteers (matched volunteers f) f paired_tends r.0 r.2 r.1 x r.3 r.4

    pub comes_adds : (x : ℕ) (g : ℕ → ℕ) → x < n → volunteers ≤ f x → Tends can n volunteers (with (matched volunteers f) x) g → t n x ≡ true
    comes_adds x g h out tg = refused_by (matched volunteers f) (t n) x g (λ y k q. q)
        (λ v a low e k c. ⊎_elim (λ q. free_row v a low q k c)
        (λ q. absurd (let i : f (o v) ≡ v = q.1 in let j : matched volunteers f (o v) ≡ false = q.2 in grind arith)) (free_but (matched volunteers f) v low e))
        (λ z a k i q l c. closed n z a (omega arith) k l q c) h (grind arith) tg

    module _ (y : ℕ) (hy : y < n) (has : f y < volunteers) where
      -- the matched offers without y
      others : Set
      others z = without (matched volunteers f) y z

      inside : Within n others (matched volunteers f)
      unfolding others
      inside z k e = grind arith

      less_tends : Tends can n volunteers others f
      less_tends = part_tends can n volunteers (matched volunteers f) others f paired_tends inside

      -- y's own volunteer has no other offer
      mine : (z : ℕ) → z < n → others z ≡ true → f z ≡ f y → ⊥
      unfolding others
      mine z k e q =
          let a : o (f z) ≡ z = p.owned z k (grind arith) in
          let b : o (f y) ≡ y = p.owned y hy has in
          let i : o (f z) ≡ o (f y) = ap o q in
          let j : z ≡ y = omega arith in grind arith

      -- row n or row y has x just where x can come for y
      pub exchange_comes : (x : ℕ) → x < n → (t n x || t y x) ≡ true → (g : ℕ → ℕ) × Tends can n volunteers (with (without (matched volunteers f) y) x) g
      unfolding others
      exchange_comes x h e = ⊎_elim
          (λ d. let r = chain_grows others inside n x (omega arith) h (chains n x (omega arith) h d) none begin (λ l. absurd (omega arith)) in
          comes can n volunteers others f less_tends r.0 r.2 r.1 x r.3 r.4)
          (λ d. let r = chain_grows others inside y x (omega arith) h (chains y x (omega arith) h (grind arith)) (with none (f y)) (seed (f y) begin has mine) (λ l. grind arith) in
          comes can n volunteers others f less_tends r.0 r.2 r.1 x r.3 r.4)
          (cases_Bool (t n x))

      pub comes_exchange : (x : ℕ) (g : ℕ → ℕ) → x < n → volunteers ≤ f x → Tends can n volunteers (with (without (matched volunteers f) y) x) g → (t n x || t y x) ≡ true
      unfolding others
      comes_exchange x g h out tg = refused_by others (λ a. t n a || t y a) x g inside
          (λ v a low e k c. ⊎_elim (λ q. let i : t n a ≡ true = free_row v a low q k c in grind arith)
          (λ q. let i : t y a ≡ true = base y a (omega arith) k (first v a q.1 q.2 low k c) in grind arith) (free_but others v low e))
          (λ z a k i q l c. ⊎_elim (λ d. let j : t n a ≡ true = closed n z a (omega arith) k l d c in grind arith)
          (λ d. let j : t y a ≡ true = closed y z a (omega arith) k l (grind arith) c in grind arith) (cases_Bool (t n z)))
          h (grind arith) tg
        where
          first : (v a : ℕ) → f (o v) ≡ v → others (o v) ≡ false → v < volunteers → a < n → can v a ≡ true → old y a ≡ true
          first v a e d low k c =
              let i : o v ≡ y = not_other (o v) y (f (o v)) volunteers d (omega arith) in
              let j : f y ≡ v = ap f (sym i) ∙ e in
              let m : can (f y) a ≡ true = rw j c in
              rows y a hy k ∙ start_from (matched volunteers f y) (can (f y) a) (lt-ltb (f y) volunteers has) m
