-- Rows of bits that go from bytes into words and back.
use Rattle.std.proofs.Common.{◌≡◌, ℕ, ◌+◌, ◌-◌, ◌*◌, ◌/◌, ◌%◌, ◌^◌, ◌<◌, ◌≤◌, Bool, true, false, ◌&&◌, ◌||◌, ltb, leb, List, length, get_or, set, sym, ap, ◌∙◌, ⊎_elim, arith}
use native.Mathlib.Nat.{mod-le}
use lib.Bits.{bit_or}
use Rattle.std.proofs.lemmas.Nat.{shl_whole}
use Rattle.std.proofs.lemmas.List.{get_or-set_same, get_or-set_other}
use Rattle.std.proofs.lemmas.Bool.{cases_eq, cases_lt, lt-ltb, le-ltb, ltb-true}
use Rattle.sets.specs.Bits.{row, word_row}
use Rattle.sets.proofs.Masks.{bit, bit_or_lem, bit_shl, bit_shr, bit_low, bit_above}
use Rattle.sets.proofs.Stretches.{word_row_is, row_is}

-- the low r bits of a byte, put into byte q of a word
byte_into : (w b r q i : ℕ) → b < 256 → q < 4 →
    bit (bit_or w (((b % 2 ^ r) * 2 ^ (8 * q)) % 2 ^ 32)) i ≡ (bit w i || (leb (8 * q) i && (ltb (i - 8 * q) r && bit b (i - 8 * q))))
byte_into w b r q i h l =
    let m = mod-le b (2 ^ r) in
    let s = shl_whole (b % 2 ^ r) 8 (8 * q) 32 (omega arith) (omega arith) in
    bit_or_lem w (((b % 2 ^ r) * 2 ^ (8 * q)) % 2 ^ 32) i
    ∙ ap (λ (x : ℕ). bit w i || bit x i) s
    ∙ ap (λ (x : Bool). bit w i || x) (bit_shl (b % 2 ^ r) (8 * q) i)
    ∙ ap (λ (x : Bool). bit w i || (leb (8 * q) i && x)) (bit_low b r (i - 8 * q))

-- the first k bytes of the row of n bits are in the words
abbrev pub Loaded : List ℕ → ℕ → ℕ → List ℕ → ℕ → ℕ → ℕ → Type 0
Loaded bytes at n words to len k = (j : ℕ) → j < 32 * len → word_row words to j ≡ (ltb j (8 * k) && (ltb j n && row bytes at j))

-- bit j of the same word, behind byte k, is eight bits or more from where byte k begins
far : (j k : ℕ) → 8 * k ≤ j → (j / 8 ≡ k → ⊥) → j / 32 ≡ k / 4 → 8 ≤ j % 32 - 8 * (k % 4)
far j k q p w = ⊎_elim (λ (l : j < 8 * k + 8). absurd (p (omega arith))) (λ (l : 8 * k + 8 ≤ j). omega arith) (cases_lt j (8 * k + 8))

-- and is not below 8 * (k + 1)
past : (j k : ℕ) → 8 * k ≤ j → (j / 8 ≡ k → ⊥) → 8 * (k + 1) ≤ j
past j k q p = ⊎_elim (λ (l : j < 8 * k + 8). absurd (p (omega arith))) (λ (l : 8 * k + 8 ≤ j). omega arith) (cases_lt j (8 * k + 8))

-- neither the old bit nor the byte has anything there
settled : (a c v old new x y z : Bool) → old ≡ (a && v) → new ≡ (old || (x && (y && z))) → a ≡ false → c ≡ false → z ≡ false → new ≡ (c && v)
settled a c v old new x y z o e p q r = grind arith

-- what the word of bit j has, and what it gets
turn : (j n k b : ℕ) (old new there : Bool) → b < 256 → k < (n + 7) / 8 → old ≡ (ltb j (8 * k) && (ltb j n && there)) →
    new ≡ (old || (leb (8 * (k % 4)) (j % 32) && (ltb (j % 32 - 8 * (k % 4)) (n - 8 * k) && bit b (j % 32 - 8 * (k % 4))))) →
    j / 32 ≡ k / 4 → (j / 8 ≡ k → there ≡ bit b (j % 8)) → new ≡ (ltb j (8 * (k + 1)) && (ltb j n && there))
turn j n k b old new there h l o e w t =
    ⊎_elim
    (λ (p : j / 8 ≡ k).
    let d : j % 32 - 8 * (k % 4) ≡ j % 8 = omega arith in
    let x = t p in
    let y : bit b (j % 32 - 8 * (k % 4)) ≡ bit b (j % 8) = ap (bit b) d in
    grind arith)
    (λ (p : j / 8 ≡ k → ⊥).
    ⊎_elim
    (λ (q : j < 8 * k). grind arith)
    (λ (q : 8 * k ≤ j).
    let z : bit b (j % 32 - 8 * (k % 4)) ≡ false = bit_above b 8 (j % 32 - 8 * (k % 4)) h (far j k q p w) in
    let a : ltb j (8 * k) ≡ false = le-ltb j (8 * k) q in
    let c : ltb j (8 * (k + 1)) ≡ false = le-ltb j (8 * (k + 1)) (past j k q p) in
    settled (ltb j (8 * k)) (ltb j (8 * (k + 1))) (ltb j n && there) old new (leb (8 * (k % 4)) (j % 32))
    (ltb (j % 32 - 8 * (k % 4)) (n - 8 * k)) (bit b (j % 32 - 8 * (k % 4))) o e a c z)
    (cases_lt j (8 * k)))
    (cases_eq (j / 8) k)

-- a bit that is not in byte k is below byte k + 1 just where it is below byte k
later : (j k : ℕ) → (j / 8 ≡ k → ⊥) → ltb j (8 * k) ≡ ltb j (8 * (k + 1))
later j k q =
    ⊎_elim
    (λ (l : j < 8 * k). lt-ltb j (8 * k) l ∙ sym (lt-ltb j (8 * (k + 1)) (omega arith)))
    (λ (l : 8 * k ≤ j). le-ltb j (8 * k) l ∙ sym (le-ltb j (8 * (k + 1)) (past j k l q)))
    (cases_lt j (8 * k))

-- a bit below n is in one of the bytes of n bits
bound : (j n k : ℕ) → k ≡ (n + 7) / 8 → ltb j n ≡ true → j < 8 * k
bound j n k e f = let l = ltb-true j n f in omega arith

-- a test that follows from another may be left out
all : (a b c : Bool) → (b ≡ true → a ≡ true) → (a && (b && c)) ≡ (b && c)
all a b c h = grind arith

-- nothing is loaded into a cleared row
pub loaded_none : (bytes : List ℕ) (at n : ℕ) (words : List ℕ) (to len : ℕ) → ((j : ℕ) → j < 32 * len → word_row words to j ≡ false) →
    Loaded bytes at n words to len 0
loaded_none bytes at n words to len h j l = let e = h j l in let f : ltb j (8 * 0) ≡ false = le-ltb j 0 (omega arith) in grind arith

-- one more byte is loaded
pub loaded_more : (bytes : List ℕ) (at n : ℕ) (words : List ℕ) (to len k : ℕ) → get_or bytes (at + k) 0 < 256 → k < (n + 7) / 8 → to + k / 4 < length words →
    Loaded bytes at n words to len k →
    Loaded bytes at n
    (set words (to + k / 4) (bit_or (get_or words (to + k / 4) 0) (((get_or bytes (at + k) 0 % 2 ^ (n - 8 * k)) * 2 ^ (8 * (k % 4))) % 2 ^ 32)))
    to len (k + 1)
loaded_more bytes at n words to len k h l fits inv j lt =
    ⊎_elim
    (λ (w : j / 32 ≡ k / 4).
    let b = get_or bytes (at + k) 0 in
    let here : word_row words to j ≡ bit (get_or words (to + k / 4) 0) (j % 32) =
    word_row_is words to j ∙ ap (λ (x : ℕ). bit (get_or words (to + x) 0) (j % 32)) w in
    let there : j / 8 ≡ k → row bytes at j ≡ bit b (j % 8) =
    λ p. row_is bytes at j ∙ ap (λ (x : ℕ). bit (get_or bytes (at + x) 0) (j % 8)) p in
    word_row_is new to j
    ∙ ap (λ (x : ℕ). bit (get_or new (to + x) 0) (j % 32)) w
    ∙ ap (λ (x : ℕ). bit x (j % 32)) (get_or-set_same words (to + k / 4) val 0 fits)
    ∙ turn j n k b (word_row words to j) (bit val (j % 32)) (row bytes at j) h l (inv j lt)
    (byte_into (get_or words (to + k / 4) 0) b (n - 8 * k) (k % 4) (j % 32) h (omega arith)
    ∙ ap (λ (x : Bool). x || (leb (8 * (k % 4)) (j % 32) && (ltb (j % 32 - 8 * (k % 4)) (n - 8 * k) && bit b (j % 32 - 8 * (k % 4))))) (sym here))
    w there)
    (λ (w : j / 32 ≡ k / 4 → ⊥).
    let p : to + j / 32 ≡ to + k / 4 → ⊥ = λ e. w (omega arith) in
    let q : j / 8 ≡ k → ⊥ = λ e. w (omega arith) in
    word_row_is new to j
    ∙ ap (λ (x : ℕ). bit x (j % 32)) (get_or-set_other words (to + k / 4) (to + j / 32) val 0 p)
    ∙ sym (word_row_is words to j)
    ∙ inv j lt
    ∙ ap (λ (x : Bool). x && (ltb j n && row bytes at j)) (later j k q))
    (cases_eq (j / 32) (k / 4))
  where
    val : ℕ
    val = bit_or (get_or words (to + k / 4) 0) (((get_or bytes (at + k) 0 % 2 ^ (n - 8 * k)) * 2 ^ (8 * (k % 4))) % 2 ^ 32)

    new : List ℕ
    new = set words (to + k / 4) val

-- the same, where the low bits have a name
pub loaded_next : (bytes : List ℕ) (at n : ℕ) (words : List ℕ) (to len k v : ℕ) → v ≡ get_or bytes (at + k) 0 % 2 ^ (n - 8 * k) →
    get_or bytes (at + k) 0 < 256 → k < (n + 7) / 8 → to + k / 4 < length words → Loaded bytes at n words to len k →
    Loaded bytes at n (set words (to + k / 4) (bit_or (get_or words (to + k / 4) 0) ((v * 2 ^ (8 * (k % 4))) % 2 ^ 32))) to len (k + 1)
loaded_next bytes at n words to len k v e h l fits inv = rw e (loaded_more bytes at n words to len k h l fits inv)

-- all bytes are loaded
pub loaded_all : (bytes : List ℕ) (at n : ℕ) (words : List ℕ) (to len k : ℕ) → k ≡ (n + 7) / 8 → Loaded bytes at n words to len k →
    (j : ℕ) → j < 32 * len → word_row words to j ≡ (ltb j n && row bytes at j)
loaded_all bytes at n words to len k e inv j l =
    inv j l ∙ all (ltb j (8 * k)) (ltb j n) (row bytes at j) (λ f. lt-ltb j (8 * k) (bound j n k e f))

-- the bits of the bytes that a row of words is stored in
pub stored_bit : (words : List ℕ) (from n j : ℕ) →
    bit (get_or words (from + j / 8 / 4) 0 / 2 ^ (8 * (j / 8 % 4)) % 256 % 2 ^ (n - 8 * (j / 8))) (j % 8) ≡ (ltb j n && word_row words from j)
stored_bit words from n j =
    let w = get_or words (from + j / 8 / 4) 0 in
    let s = 8 * (j / 8 % 4) in
    let place : from + j / 8 / 4 ≡ from + j / 32 = omega arith in
    let shift : s + j % 8 ≡ j % 32 = omega arith in
    let below : ltb (j % 8) (n - 8 * (j / 8)) ≡ ltb j n = grind arith in
    let short : ltb (j % 8) 8 ≡ true = lt-ltb (j % 8) 8 (omega arith) in
    let was : word_row words from j ≡ bit w (s + j % 8) =
    word_row_is words from j ∙ ap (λ (x : ℕ). bit (get_or words x 0) (j % 32)) (sym place) ∙ ap (λ (x : ℕ). bit w x) (sym shift) in
    bit_low (w / 2 ^ s % 256) (n - 8 * (j / 8)) (j % 8)
    ∙ ap (λ (x : Bool). ltb (j % 8) (n - 8 * (j / 8)) && x) (bit_low (w / 2 ^ s) 8 (j % 8))
    ∙ ap (λ (x : Bool). ltb (j % 8) (n - 8 * (j / 8)) && (x && bit (w / 2 ^ s) (j % 8))) short
    ∙ ap (λ (x : Bool). ltb (j % 8) (n - 8 * (j / 8)) && x) (bit_shr w s (j % 8) ∙ sym was)
    ∙ ap (λ (x : Bool). x && word_row words from j) below
