-- The labels while the arcs from one element m are followed head by head.
use Rattle.std.proofs.Common.{◌≡◌, ℕ, ◌+◌, ◌<◌, ◌≤◌, Bool, true, false, not, ◌&&◌, ◌||◌, eqb, ltb, sym, refl, ap, ◌∙◌, subst, ⊎_elim, arith}
use Rattle.std.proofs.lemmas.Bool.{cases_eq, both_ways, lt-ltb, le-ltb, ne_eqb, cases_lt, and_right}
use Rattle.sets.specs.Matroid.{pick, Set, outside}
use Rattle.exchange.specs.Round.{no_worse}
use Rattle.exchange.specs.Graph.{takes, bettered, Changed}

-- the heads below i have been followed
unfoldable pub Partly : ℕ → (ℕ → ℕ → Bool) → (ℕ → ℕ → ℕ) → Set → Set → (ℕ → ℕ) → (ℕ → ℕ) → (ℕ → ℕ) → ℕ → ℕ →
    Set → (ℕ → ℕ) → (ℕ → ℕ) → (ℕ → ℕ) → Type 0
Partly n to c settled reached d k back m i after e l ahead =
    (u : ℕ) → u < n → Changed (λ u. d m + c m u) (k m + 1) m (λ u. ltb u i && bettered to c settled reached d k m u) reached after d k back e l ahead u

-- a change where nothing is asked leaves all as it was
no_change : (b r : Bool) → b ≡ false → r ≡ (r || b)
no_change b r h = grind arith

-- a choice that is not taken
picks_second : (b : Bool) (x y : ℕ) → b ≡ false → y ≡ pick b x y
picks_second true x y h = absurd (both_ways true h refl)
picks_second false x y h = refl

-- nothing lies below 0
not_below : (u : ℕ) (b : Bool) → (ltb u 0 && b) ≡ false
not_below u b = grind arith

-- before the first head
pub partly_none : (n : ℕ) (to : ℕ → ℕ → Bool) (c : ℕ → ℕ → ℕ) (settled reached : Set) (d k back : ℕ → ℕ) (m : ℕ) →
    Partly n to c settled reached d k back m 0 reached d k back
unfolding Partly
partly_none n to c settled reached d k back m u p =
    let h = not_below u (bettered to c settled reached d k m u) in
    record {
      marks = no_change _ (reached u) h;
      costs = picks_second _ (d m + c m u) (d u) h;
      steps = picks_second _ (k m + 1) (k u) h;
      backs = picks_second _ m (back u) h;
    }

-- at the end all heads have been followed
same_which : (e : ℕ → ℕ) (l m : ℕ) (which other reached after : Set) (d k back d' k' back' : ℕ → ℕ) (u : ℕ) → which u ≡ other u →
    Changed e l m which reached after d k back d' k' back' u → Changed e l m other reached after d k back d' k' back' u
same_which e l m which other reached after d k back d' k' back' u q h = record {
  marks = h.marks ∙ ap (λ (b : Bool). reached u || b) q;
  costs = h.costs ∙ ap (λ (b : Bool). pick b (e u) (d u)) q;
  steps = h.steps ∙ ap (λ (b : Bool). pick b l (k u)) q;
  backs = h.backs ∙ ap (λ (b : Bool). pick b m (back u)) q;
}

-- all lie below the end
below_all : (u i n : ℕ) (b : Bool) → u < n → n ≤ i → (ltb u i && b) ≡ b
below_all u i n b h l = grind arith

-- after the last head
pub partly_all : (n : ℕ) (to : ℕ → ℕ → Bool) (c : ℕ → ℕ → ℕ) (settled reached : Set) (d k back : ℕ → ℕ) (m i : ℕ) (after : Set) (e l ahead : ℕ → ℕ) →
    Partly n to c settled reached d k back m i after e l ahead → n ≤ i → (u : ℕ) → u < n →
    Changed (λ u. d m + c m u) (k m + 1) m (bettered to c settled reached d k m) reached after d k back e l ahead u
unfolding Partly
partly_all n to c settled reached d k back m i after e l ahead h q u p =
    same_which _ _ _ _ _ _ _ _ _ _ _ _ _ u (below_all u i n (bettered to c settled reached d k m u) p q) (h u p)

-- a head more that is not bettered
one_more : (u i : ℕ) (b : Bool) → (u ≡ i → b ≡ false) → (ltb u i && b) ≡ (ltb u (i + 1) && b)
one_more u i b h = grind arith

-- two changes one after the other, where at most one of them concerns u
then_none : (e f : ℕ → ℕ) (l m : ℕ) (which other all reached now after : Set) (d k back d' k' back' d'' k'' back'' : ℕ → ℕ) (u : ℕ) →
    other u ≡ false → which u ≡ all u →
    Changed e l m which reached now d k back d' k' back' u → Changed f l m other now after d' k' back' d'' k'' back'' u →
    Changed e l m all reached after d k back d'' k'' back'' u
then_none e f l m which other all reached now after d k back d' k' back' d'' k'' back'' u off same h g =
    same_which e l m which all reached after d k back d'' k'' back'' u same
    record {
      marks = sym (ap (λ (b : Bool). b) (no_change (other u) (now u) off ∙ sym g.marks)) ∙ h.marks;
      costs = g.costs ∙ sym (picks_second (other u) (f u) (d' u) off) ∙ h.costs;
      steps = g.steps ∙ sym (picks_second (other u) l (k' u) off) ∙ h.steps;
      backs = g.backs ∙ sym (picks_second (other u) m (back' u) off) ∙ h.backs;
    }

-- .. the second
none_then : (e f : ℕ → ℕ) (l m : ℕ) (which other all reached now after : Set) (d k back d' k' back' d'' k'' back'' : ℕ → ℕ) (u : ℕ) →
    which u ≡ false → (now u ≡ reached u → d' u ≡ d u → k' u ≡ k u → other u ≡ all u) → f u ≡ e u →
    Changed e l m which reached now d k back d' k' back' u → Changed f l m other now after d' k' back' d'' k'' back'' u →
    Changed e l m all reached after d k back d'' k'' back'' u
none_then e f l m which other all reached now after d k back d' k' back' d'' k'' back'' u off same at_u h g =
    let a : now u ≡ reached u = h.marks ∙ sym (no_change (which u) (reached u) off) in
    let b : d' u ≡ d u = h.costs ∙ sym (picks_second (which u) (e u) (d u) off) in
    let c : k' u ≡ k u = h.steps ∙ sym (picks_second (which u) l (k u) off) in
    let x : back' u ≡ back u = h.backs ∙ sym (picks_second (which u) m (back u) off) in
    let q = same a b c in
    record {
      marks = g.marks ∙ ap (λ (z : Bool). z || other u) a ∙ ap (λ (z : Bool). reached u || z) q;
      costs = g.costs ∙ ap (λ (z : ℕ). pick (other u) (f u) z) b ∙ ap (λ (z : Bool). pick z (f u) (d u)) q ∙ ap (λ (z : ℕ). pick (all u) z (d u)) at_u;
      steps = g.steps ∙ ap (λ (z : ℕ). pick (other u) l z) c ∙ ap (λ (z : Bool). pick z l (k u)) q;
      backs = g.backs ∙ ap (λ (z : ℕ). pick (other u) m z) x ∙ ap (λ (z : Bool). pick z m (back u)) q;
    }

-- no number lies below itself
not_itself : (i : ℕ) (b : Bool) → (ltb i i && b) ≡ false
not_itself i b = grind arith

-- the head at hand is followed where its arc is there and it is not settled
itself : (i : ℕ) (t s b : Bool) → t ≡ true → s ≡ false → (eqb i i && b) ≡ (ltb i (i + 1) && (t && not s && b))
itself i t s b p q = grind arith

-- one head more, with its label bettered where the way by m is better
pub partly_step : (n : ℕ) (to : ℕ → ℕ → Bool) (c : ℕ → ℕ → ℕ) (settled reached : Set) (d k back : ℕ → ℕ) (m i : ℕ)
    (now : Set) (e l ahead : ℕ → ℕ) (after : Set) (e' l' ahead' : ℕ → ℕ) (x : ℕ) →
    i < n → to m i ≡ true → settled i ≡ false → x ≡ d m + c m i →
    ((j : ℕ) → Changed (λ _. x) (k m + 1) m (λ j. eqb j i && takes now e l i x (k m + 1)) now after e l ahead e' l' ahead' j) →
    Partly n to c settled reached d k back m i now e l ahead → Partly n to c settled reached d k back m (i + 1) after e' l' ahead'
unfolding Partly
partly_step n to c settled reached d k back m i now e l ahead after e' l' ahead' x below arc fresh at_x each h u p =
    ⊎_elim
    (λ (q : u ≡ i). subst (λ (v : ℕ). Changed (λ u. d m + c m u) (k m + 1) m (λ u. ltb u (i + 1) && bettered to c settled reached d k m u) reached after d k back e' l' ahead' v) (sym q) here)
    (λ (q : u ≡ i → ⊥).
    then_none _ _ _ _ _ _ _ _ _ _ _ _ _ _ _ _ _ _ _ u (ap (λ (b : Bool). b && takes now e l i x (k m + 1)) (ne_eqb u i q))
    (one_more u i (bettered to c settled reached d k m u) (λ r. absurd (q r))) (h u p) (each u))
    (cases_eq u i)
  where
    here : Changed (λ u. d m + c m u) (k m + 1) m (λ u. ltb u (i + 1) && bettered to c settled reached d k m u) reached after d k back e' l' ahead' i
    here =
        none_then _ _ _ _ _ _ _ _ _ _ _ _ _ _ _ _ _ _ _ i (not_itself i (bettered to c settled reached d k m i))
        (λ a b g.
        itself i (to m i) (settled i) (takes now e l i x (k m + 1)) arc fresh
        ∙ ap (λ (z : Bool). ltb i (i + 1) && (to m i && not (settled i) && z)) (same_takes a b g))
        at_x (h i below) (each i)
      where
        same_takes : now i ≡ reached i → e i ≡ d i → l i ≡ k i → takes now e l i x (k m + 1) ≡ takes reached d k i (d m + c m i) (k m + 1)
        same_takes a b g =
            ap (λ (z : Bool). not z || not (no_worse (e i) (l i) x (k m + 1))) a
            ∙ ap (λ (z : ℕ). not (reached i) || not (no_worse z (l i) x (k m + 1))) b
            ∙ ap (λ (z : ℕ). not (reached i) || not (no_worse (d i) z x (k m + 1))) g
            ∙ ap (λ (z : ℕ). not (reached i) || not (no_worse (d i) (k i) z (k m + 1))) at_x

-- heads that are passed over
pub partly_jump : (n : ℕ) (to : ℕ → ℕ → Bool) (c : ℕ → ℕ → ℕ) (settled reached : Set) (d k back : ℕ → ℕ) (m i j : ℕ) (after : Set) (e l ahead : ℕ → ℕ) →
    ((x : ℕ) → i ≤ x → x < j → outside (to m) settled x ≡ false) → i ≤ j →
    Partly n to c settled reached d k back m i after e l ahead → Partly n to c settled reached d k back m j after e l ahead
unfolding Partly
partly_jump n to c settled reached d k back m i j after e l ahead off p h u q =
    same_which _ _ _ _ _ _ _ _ _ _ _ _ _ u (passes (bettered to c settled reached d k m u) refl) (h u q)
  where
    passes : (b : Bool) → b ≡ bettered to c settled reached d k m u → (ltb u i && b) ≡ (ltb u j && b)
    passes b e =
        ⊎_elim
        (λ (l : u < i). ap (λ (y : Bool). y && b) (lt-ltb u i l ∙ sym (lt-ltb u j (omega arith))))
        (λ (l : i ≤ u).
        ⊎_elim
        (λ (r : u < j).
        let z : bettered to c settled reached d k m u ≡ false = ap (λ (y : Bool). y && takes reached d k u (d m + c m u) (k m + 1)) (off u l r) in
        ap (λ (y : Bool). y && b) (le-ltb u i l) ∙ sym (and_right (ltb u j) b (e ∙ z)))
        (λ (r : j ≤ u). ap (λ (y : Bool). y && b) (le-ltb u i l ∙ sym (le-ltb u j r)))
        (cases_lt u j))
        (cases_lt u i)
