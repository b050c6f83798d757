-- Sets as bits in bytes and in words of 32 bits, and numbers in bytes, the low byte first.
use Rattle.std.specs.Prelude.{◌≡◌, ℕ, zero, suc, ◌+◌, ◌*◌, ◌/◌, ◌%◌, ◌^◌, ◌<◌, ◌≤◌, Bool, true, false, not, ◌⊎◌, List, ◌==◌, slice_index, slice_index_or, refl}

-- element i is bit i mod 8 of byte i div 8
unfoldable pub member : List ℕ → ℕ → Bool
member bytes i = slice_index bytes (i / 8) / 2 ^ (i % 8) % 2 == 1

-- element i is bit i mod 32 of word i div 32
unfoldable pub marked : List ℕ → ℕ → Bool
marked words i = slice_index words (i / 32) / 2 ^ (i % 32) % 2 == 1

-- bit i of a byte or a word, and element i by it
abbrev pub bit_of : ℕ → ℕ → Bool
bit_of v i = v / 2 ^ i % 2 == 1

pub byte_element : (bytes : List ℕ) (i : ℕ) → member bytes i ≡ bit_of (slice_index_or bytes (i / 8) 0) (i % 8)
unfolding member
byte_element bytes i = refl

pub word_element : (words : List ℕ) (i : ℕ) → marked words i ≡ bit_of (slice_index_or words (i / 32) 0) (i % 32)
unfolding marked
word_element words i = refl

-- a row of bits in the middle: the elements from byte `at` on, and from word `at` on
abbrev pub row : List ℕ → ℕ → ℕ → Bool
row bytes at i = member bytes (8 * at + i)

abbrev pub word_row : List ℕ → ℕ → ℕ → Bool
word_row words at i = marked words (32 * at + i)

-- how many bytes, and how many words, a row of n bits takes
abbrev pub row_bytes : ℕ → ℕ
row_bytes n = (n + 7) / 8

abbrev pub row_words : ℕ → ℕ
row_words n = (n + 31) / 32

-- exactly one of two
abbrev pub xor : Bool → Bool → Bool
xor true b = not b
xor false b = b

-- two lists agree at every place but the m places from `at` on; d stands for what is past the end
abbrev pub SameApart : {A : Type 0} → A → ℕ → ℕ → List A → List A → Type 0
SameApart d at m old new = (p : ℕ) → (p < at) ⊎ (at + m ≤ p) → slice_index_or new p d ≡ slice_index_or old p d

-- the same of lists of numbers
abbrev pub SameBut : ℕ → ℕ → List ℕ → List ℕ → Type 0
SameBut = SameApart 0

-- the number in the n bytes from `at` on, the low byte first
abbrev pub le : ℕ → List ℕ → ℕ → ℕ
le zero bytes at = 0
le (suc n) bytes at = slice_index bytes at + 256 * le n bytes (at + 1)

-- the number in two, four and eight bytes
abbrev pub le2 : List ℕ → ℕ → ℕ
le2 = le 2

abbrev pub le4 : List ℕ → ℕ → ℕ
le4 = le 4

abbrev pub le8 : List ℕ → ℕ → ℕ
le8 = le 8
