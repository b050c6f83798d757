-- Potentials raised by the labels are potentials of the old set again, with the loss of the path.
use Rattle.std.proofs.Common.{◌≡◌, ℕ, ◌+◌, ◌-◌, ◌<◌, ◌≤◌, min, Bool, true, false, ⊎_elim, arith}
use Rattle.std.proofs.lemmas.Bool.{cases_Bool}
use Rattle.sets.specs.Matroid.{pick, Set, without, with}
use Rattle.exchange.specs.Round.{top, State, Labels, End, lost}
use Rattle.exchange.proofs.LabelPaths.{no_worse_tells}
use Rattle.weighted.specs.Next.{raised}

-- what a reached element and one that is not reached get
raised_reached : (reached : Set) (a d : ℕ → ℕ) (m v : ℕ) → reached v ≡ true → raised reached a d m v ≡ a v + min (d v) m
raised_reached reached a d m v h = cc

-- .. and one that is not reached
raised_unreached : (reached : Set) (a d : ℕ → ℕ) (m v : ℕ) → reached v ≡ false → raised reached a d m v ≡ a v + m
raised_unreached reached a d m v h = cc

-- no potential rises by more than the loss
raised_most : (reached : Set) (a d : ℕ → ℕ) (m v : ℕ) → raised reached a d m v ≤ a v + m
raised_most reached a d m v = most (reached v) (a v) (d v) m
  where
    most : (b : Bool) (a d m : ℕ) → a + pick b (min d m) m ≤ a + m
    most true a d m = omega arith
    most false a d m = omega arith

module _ (n : ℕ) (f g : Set → Bool) (w a : ℕ → ℕ) (loss : ℕ) (s reached : Set) (d k back : ℕ → ℕ) (t : ℕ)
    (light : (x : ℕ) → x < n → w x ≤ top) (state : State n f g w a loss s)
    (labels : Labels n f g w a s reached d k back) (end : End n g w a s reached d k t) where
  -- the loss never falls
  pub loss_rises : loss ≤ lost w a d t
  loss_rises =
      let h : w t + loss ≤ top + a t = state.sinks t end.below end.fresh end.fits in
      let l : w t ≤ top = light t end.below in
      omega arith

  -- by how much the loss rises
  abbrev m : ℕ
  m = lost w a d t - loss

  -- exchanges by the first matroid
  raised_first : (y x : ℕ) → y < n → x < n → s y ≡ true → s x ≡ false → f (with (without s y) x) ≡ true → raised reached a d m x ≤ raised reached a d m y
  raised_first y x hy hx held out arc =
      let old : a x ≤ a y = state.first_best y x hy hx held out arc in
      ⊎_elim
      (λ (r : reached y ≡ true).
      let p = labels.into y x hy hx held out r arc in
      let c : d x + a x ≤ d y + a y = (no_worse_tells (d x + a x) (k x) (d y + a y) (k y + 1) p.1).0 in
      let ex : raised reached a d m x ≡ a x + min (d x) m = raised_reached reached a d m x p.0 in
      let ey : raised reached a d m y ≡ a y + min (d y) m = raised_reached reached a d m y r in
      omega arith)
      (λ (r : reached y ≡ false).
      let ey : raised reached a d m y ≡ a y + m = raised_unreached reached a d m y r in
      let ex : raised reached a d m x ≤ a x + m = raised_most reached a d m x in
      omega arith)
      (cases_Bool (reached y))

  -- exchanges by the second
  raised_second : (y x : ℕ) → y < n → x < n → s y ≡ true → s x ≡ false → g (with (without s y) x) ≡ true →
      w x + raised reached a d m y ≤ w y + raised reached a d m x
  raised_second y x hy hx held out arc =
      let old : w x + a y ≤ w y + a x = state.second_best y x hy hx held out arc in
      ⊎_elim
      (λ (r : reached x ≡ true).
      let p = labels.out x y hx hy out held r arc in
      let c : d y + (w x + a y) ≤ d x + (w y + a x) = (no_worse_tells (d y + (w x + a y)) (k y) (d x + (w y + a x)) (k x + 1) p.1).0 in
      let ex : raised reached a d m x ≡ a x + min (d x) m = raised_reached reached a d m x r in
      let ey : raised reached a d m y ≡ a y + min (d y) m = raised_reached reached a d m y p.0 in
      omega arith)
      (λ (r : reached x ≡ false).
      let ex : raised reached a d m x ≡ a x + m = raised_unreached reached a d m x r in
      let ey : raised reached a d m y ≤ a y + m = raised_most reached a d m y in
      omega arith)
      (cases_Bool (reached x))

  -- sources keep 0
  raised_sources : (x : ℕ) → x < n → s x ≡ false → f (with s x) ≡ true → raised reached a d m x ≡ 0
  raised_sources x h out source =
      let p = labels.start x h out source in
      let z : a x ≡ 0 = state.sources x h out source in
      let e : d x ≡ 0 = p.1 in
      let ex : raised reached a d m x ≡ a x + min (d x) m = raised_reached reached a d m x p.0 in
      omega arith

  -- sinks stay within the new loss
  raised_sinks : (x : ℕ) → x < n → s x ≡ false → g (with s x) ≡ true → w x + lost w a d t ≤ top + raised reached a d m x
  raised_sinks x h out sink =
      let old : w x + loss ≤ top + a x = state.sinks x h out sink in
      let l : w x ≤ top = light x h in
      ⊎_elim
      (λ (r : reached x ≡ true).
      let c : lost w a d t ≤ d x + a x + (top - w x) = (no_worse_tells (lost w a d t) (k t) (lost w a d x) (k x) (end.least x h out r sink)).0 in
      let ex : raised reached a d m x ≡ a x + min (d x) m = raised_reached reached a d m x r in
      sums (w x) (lost w a d t) top (raised reached a d m x) (a x) (d x) loss old l c ex)
      (λ (r : reached x ≡ false).
      let ex : raised reached a d m x ≡ a x + m = raised_unreached reached a d m x r in
      plain (w x) (lost w a d t) top (raised reached a d m x) (a x) loss old loss_rises ex)
      (cases_Bool (reached x))
    where
      sums : (w lost top r a d loss : ℕ) → w + loss ≤ top + a → w ≤ top → lost ≤ d + a + (top - w) → r ≡ a + min d (lost - loss) → w + lost ≤ top + r
      sums w lost top r a d loss h1 h2 h3 h4 = omega arith

      plain : (w lost top r a loss : ℕ) → w + loss ≤ top + a → loss ≤ lost → r ≡ a + (lost - loss) → w + lost ≤ top + r
      plain w lost top r a loss h1 h2 h3 = omega arith

  -- the raised potentials hold for the old set
  pub raised_state : State n f g w (raised reached a d (lost w a d t - loss)) (lost w a d t) s
  raised_state = record {
    first = state.first;
    second = state.second;
    first_best = raised_first;
    second_best = raised_second;
    sources = raised_sources;
    sinks = raised_sinks;
    small = λ x h. small (raised reached a d (lost w a d t - loss) x) (a x) (lost w a d t) loss
        (raised_most reached a d (lost w a d t - loss) x) (state.small x h) loss_rises;
  }
    where
      small : (r a lost loss : ℕ) → r ≤ a + (lost - loss) → a ≤ loss → loss ≤ lost → r ≤ lost
      small r a lost loss h1 h2 h3 = omega arith
