-- One turn of the queue, over the lists that the code writes.
use Rattle.std.proofs.Common.{◌≡◌, ℕ, suc, ◌+◌, ◌-◌, ◌*◌, ◌<◌, ◌≤◌, Bool, true, false, ◌||◌, eqb, List, length, set, arith}
use mathlib.Core.Path.{fun_ext}
use Rattle.sets.specs.Bits.{marked, word_row}
use Rattle.sets.specs.Matroid.{size, with}
use Rattle.sets.proofs.Places.{row_with}
use Rattle.sets.proofs.FiniteSets.{size_with, size_bound}
use Rattle.transversal.specs.Pairs.{at, Paired, Leads}
use Rattle.transversal.proofs.Pairing.{at_set}
use Rattle.transversal.proofs.Going.{Going, led_in, going_in, going_push}

-- a row of words, after an element went in, as a set
pub row_put : (xs ys : List ℕ) (y : ℕ) → ((j : ℕ) → marked ys j ≡ (marked xs j || eqb j (32 * 0 + y))) → word_row ys 0 ≡ with (word_row xs 0) y
row_put xs ys y h = fun_ext (row_with xs ys 0 y h)

module _ (can : ℕ → ℕ → Bool) (n volunteers : ℕ) (f o : ℕ → ℕ) (xs ys queue via : List ℕ) (len head y : ℕ)
    (g : Going can n volunteers f o (word_row xs 0) (at queue) (at via) len head)
    (h : head < len) (l : y < n) (out : word_row xs 0 y ≡ false) (fit : can (at queue head) y ≡ true)
    (marks : (j : ℕ) → marked ys j ≡ (marked xs j || eqb j (32 * 0 + y)))
    (room : n ≤ length via) where
  -- one more offer is come to, so that fewer are left
  pub turn_size : size n (word_row ys 0) ≡ suc (size n (word_row xs 0))
  turn_size = rw (row_put xs ys y marks) (size_with n (word_row xs 0) y l out)

  pub turn_less : (n - size n (word_row ys 0)) + (1200 - head) < (n - size n (word_row xs 0)) + (1200 - head)
  turn_less = let a = turn_size in let b : size n (word_row ys 0) ≤ n = size_bound n (word_row ys 0) in omega arith

  -- the queue has room for one more
  pub turn_room : n ≤ 600 → volunteers ≤ 600 → len < 1200
  turn_room p q = let a = turn_size in let b : size n (word_row ys 0) ≤ n = size_bound n (word_row ys 0) in omega (arith, g.few)

  -- the queue leads from it to a free volunteer
  pub turn_leads : Leads can n volunteers o (at queue) (at (set via y head)) y
  turn_leads = (
    word_row ys 0,
    len,
    rw (at_set via y head (omega arith), row_put xs ys y marks) (led_in can n volunteers f o (word_row xs 0) (at queue) (at via) len head y g.led h l out fit),
    let e : word_row ys 0 y ≡ with (word_row xs 0) y y = row_with xs ys 0 y marks y in grind arith,
  )

  -- it has no volunteer
  pub turn_single : volunteers ≤ f y → Going can n volunteers f o (word_row ys 0) (at queue) (at (set via y head)) len head
  turn_single single = rw (at_set via y head (omega arith), row_put xs ys y marks) (going_in can n volunteers f o (word_row xs 0) (at queue) (at via) len head y g h l out fit single)

  -- it has one, who goes into the queue
  pub turn_push : Paired can n volunteers f o → volunteers ≤ 600 → n ≤ 600 → len < length queue → f y < volunteers →
      Going can n volunteers f o (word_row ys 0) (at (set queue len (f y))) (at (set via y head)) (len + 1) head
  turn_push p small low long has = rw (at_set via y head (omega arith), at_set queue len (f y) long, row_put xs ys y marks)
      (going_push can n volunteers f o (word_row xs 0) (at queue) (at via) len head y p small low g h l out fit has)

  -- another offer is not come to thereby
  pub turn_other : (x : ℕ) → word_row xs 0 x ≡ false → (y ≡ x → ⊥) → word_row ys 0 x ≡ false
  turn_other x e d = let i : word_row ys 0 x ≡ with (word_row xs 0) y x = row_with xs ys 0 y marks x in grind arith
