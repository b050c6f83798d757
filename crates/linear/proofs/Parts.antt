-- A part of a list that is read, and one that is written anew.
use Rattle.std.proofs.Common.{rules, ◌≡◌, ℕ, ◌+◌, ◌*◌, ◌%◌, ◌<◌, ◌≤◌, List, ◌++◌, length, get_or, take, drop, ⊎_elim, arith}
use Rattle.std.proofs.lemmas.List.{places}
use borrow.Rule.Slice.PartMut.{put_mid}
use Rattle.sets.specs.Bits.{SameBut}

-- how long a part is
pub part_length : (a k l : ℕ) (xs : List ℕ) → k ≡ l → a + l ≤ length xs → length (take k (drop a xs)) ≡ l
part_length a k l xs e h = search (rules, places)

-- what stands in a part
pub part_read : (a k l : ℕ) (xs : List ℕ) (j : ℕ) → k ≡ l → j < l → get_or (take k (drop a xs)) j 0 ≡ get_or xs (a + j) 0
part_read a k l xs j e h = search (rules, places)

-- and at the front
pub front_read : (l : ℕ) (xs : List ℕ) (j : ℕ) → j < l → get_or (take l xs) j 0 ≡ get_or xs j 0
front_read l xs j h = search (rules, places)

-- a part that was written anew has what was written
pub part_new : (a k l : ℕ) (xs ys : List ℕ) (j : ℕ) → k ≡ l → a + l ≤ length xs → length ys ≡ l → j < l → get_or (put_mid a k xs ys) (a + j) 0 ≡ get_or ys j 0
part_new a k l xs ys j same h e low = search (rules, places)

-- and all else is as it was
pub part_rest : (a k l : ℕ) (xs ys : List ℕ) → k ≡ l → a + l ≤ length xs → length ys ≡ l → SameBut a l xs (put_mid a k xs ys)
part_rest a k l xs ys same h e p o = ⊎_elim (λ (b : p < a). search (rules, places)) (λ (b : a + l ≤ p). search (rules, places)) o

-- a front that was written anew has what was written
pub front_new : (l : ℕ) (xs ys : List ℕ) (j : ℕ) → length ys ≡ l → j < l → get_or (ys ++ drop l xs) j 0 ≡ get_or ys j 0
front_new l xs ys j e low = search (rules, places)

-- a part to which a multiple of the front of g was added
pub part_added :
    (a k l : ℕ) (xs ys g : List ℕ) (p c : ℕ) → k ≡ l → a + l ≤ length xs → length ys ≡ length (take k (drop a xs)) →
    ((j : ℕ) → j < length (take k (drop a xs)) → get_or ys j 0 ≡ (get_or (take k (drop a xs)) j 0 + c * get_or (take l g) j 0) % p) →
    (j : ℕ) → j < l → get_or (put_mid a k xs ys) (a + j) 0 ≡ (get_or xs (a + j) 0 + c * get_or g j 0) % p
part_added a k l xs ys g p c same h long new j low =
    let n = part_length a k l xs same h in
    let e = new j (omega arith) in
    let w = part_new a k l xs ys j same h (omega arith) low in
    let r = part_read a k l xs j same low in
    let f = front_read l g j low in cc

-- a front to which a multiple of a part of fs was added
pub front_added :
    (a k l : ℕ) (xs ys fs : List ℕ) (p c : ℕ) → k ≡ l → l ≤ length xs → length ys ≡ length (take l xs) →
    ((j : ℕ) → j < length (take l xs) → get_or ys j 0 ≡ (get_or (take l xs) j 0 + c * get_or (take k (drop a fs)) j 0) % p) →
    (j : ℕ) → j < l → get_or (ys ++ drop l xs) j 0 ≡ (get_or xs j 0 + c * get_or fs (a + j) 0) % p
front_added a k l xs ys fs p c same h long new j low =
    let n : length (take l xs) ≡ l = search (rules, places) in
    let e = new j (omega arith) in
    let w = front_new l xs ys j (omega arith) low in
    let r = front_read l xs j low in
    let f = part_read a k l fs j same low in cc
