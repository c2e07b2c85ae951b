-- The bytes of ULEB128 numbers and of descriptors, as they are written: what follows what, how many they are, and that each is below 256.
-- Assumes nothing.
use Prim.Native.Nat.{ℕ, zero, suc, ◌+◌, ◌*◌, ◌-◌, ◌/◌, ◌%◌, ◌^◌, ◌≤◌, ◌<◌}
use mathlib.Core.Path.{◌≡◌, refl, sym, ap, ◌∙◌}
use mathlib.Core.List.{List, [], ◌∷◌, ◌++◌}
use mathlib.Core.Logic.{⊎_elim}
use native.Mathlib.Nat.{pow-suc}
use native.Mathlib.Omega.{arith}
use lib.ListN.{length, get_or, length-append}
use lib.Dec.{ltb}
use lib.Pow.{pow_mono, pow-add}
use borrow.Author.Tests.{ltb-true, ltb-false, lt-ltb, le-ltb}
use Rattle.rules.specs.Limits.{address_limit, granule}
use Rattle.rules.specs.Descriptors.{size_limit}
use Rattle.rules.specs.Writer.{uleb_bytes, uleb, descriptor_of, table_from, table_of}
use Rattle.rules.proofs.BoolLaws.{cond_case}
use Rattle.laws.proofs.Checks.{cond_both, le_or_lt}

-- ---- a number

-- so many bytes are enough
pub record Enough (n v : ℕ) : Type 0 where
  pub some : 1 ≤ n
  pub room : v < 128 ^ n

-- and after a byte one less
pub enough_next : (n v : ℕ) → 128 ≤ v → Enough (suc n) v → Enough n (v / 128)
enough_next zero v h e = let r : v < 128 ^ 1 = e.room in absurd (omega arith)
enough_next (suc n) v h e =
    let r : v < 128 ^ suc n * 128 = rw (← pow-suc) e.room in
    record { some = omega arith; room = omega arith }

-- more allowed than enough changes nothing
pub bytes_enough : (n m v : ℕ) → Enough n v → n ≤ m → uleb_bytes m v ≡ uleb_bytes n v
unfolding uleb_bytes
bytes_enough zero m v e l = let s = e.some in absurd (omega arith)
bytes_enough (suc n) zero v e l = absurd (omega arith)
bytes_enough (suc n) (suc m) v e l =
    cond_both (λ (s t : List ℕ). s ≡ t) (ltb v 128) _ _ _ _ (λ _. refl)
    (λ q. ap (λ (t : List ℕ). (v % 128 + 128) ∷ t) (bytes_enough n m (v / 128) (enough_next n v (ltb-false v 128 q) e) (omega arith)))

-- a number of one byte
pub uleb_last : (v : ℕ) → v < 128 → uleb v ≡ v ∷ []
unfolding uleb_bytes
uleb_last v h = rw (lt-ltb v 128 h)

-- a byte of a longer one
pub uleb_more : (v : ℕ) → 128 ≤ v → v < 2 ^ 64 → uleb v ≡ (v % 128 + 128) ∷ uleb (v / 128)
unfolding uleb_bytes
uleb_more v h l =
    let e : Enough 9 (v / 128) = record { some = omega arith; room = omega arith } in
    rw (le-ltb v 128 h, sym (bytes_enough 9 10 (v / 128) e (omega arith)))

-- a number has as many bytes as are enough, at most
pub bytes_most : (n k v : ℕ) → Enough k v → length (uleb_bytes n v) ≤ k
unfolding uleb_bytes
bytes_most zero k v e = omega arith
bytes_most (suc n) zero v e = let s = e.some in absurd (omega arith)
bytes_most (suc n) (suc k) v e =
    cond_case (λ (t : List ℕ). length t ≤ suc k) (ltb v 128) _ _
    (λ _. omega arith)
    (λ q. let again = bytes_most n k (v / 128) (enough_next k v (ltb-false v 128 q) e) in omega arith)

-- by the place j of the highest bit: seven bits a byte
bits_most : (v j k : ℕ) → 2 ^ j ≤ v → v < 2 ^ k → j < k
bits_most v j k lo hi = ⊎_elim (λ q. let m : 2 ^ k ≤ 2 ^ j = pow_mono q in absurd (omega arith)) (λ q. q) (le_or_lt k j)

bits_next : (v j : ℕ) → 7 ≤ j → 2 ^ j ≤ v → v < 2 ^ suc j → (2 ^ (j - 7) ≤ v / 128) × (v / 128 < 2 ^ suc (j - 7))
bits_next v j seven lo hi =
    let e : j ≡ j - 7 + 7 = omega arith in
    let p : 2 ^ j ≡ 2 ^ (j - 7) * 128 = ap (λ (x : ℕ). 2 ^ x) e ∙ pow-add 2 (j - 7) 7 in
    let s : 2 ^ suc j ≡ 2 ^ j * 2 = pow-suc 2 j in
    let t : 2 ^ suc (j - 7) ≡ 2 ^ (j - 7) * 2 = pow-suc 2 (j - 7) in
    (omega arith, omega arith)

bits_bytes : (n v j : ℕ) → j < 7 * n → 2 ^ j ≤ v → v < 2 ^ suc j → length (uleb_bytes n v) ≡ j / 7 + 1
unfolding uleb_bytes
bits_bytes zero v j l lo hi = absurd (omega arith)
bits_bytes (suc n) v j l lo hi =
    cond_case (λ (t : List ℕ). length t ≡ j / 7 + 1) (ltb v 128) _ _
    (λ q. let few = bits_most v j 7 lo (ltb-true v 128 q) in omega arith)
    (λ q.
    let seven = bits_most 128 7 (suc j) (omega arith) (omega (arith, ltb-false v 128 q)) in
    let b = bits_next v j (omega arith) lo hi in
    let again = bits_bytes n (v / 128) (j - 7) (omega arith) b.0 b.1 in
    omega arith)

pub uleb_bits : (v j : ℕ) → j < 64 → 2 ^ j ≤ v → v < 2 ^ suc j → length (uleb v) ≡ j / 7 + 1
uleb_bits v j l lo hi = bits_bytes 10 v j (omega arith) lo hi

-- the low three bits change nothing in how many
pub uleb_low : (v low : ℕ) → v % size_limit ≡ 0 → low < size_limit → length (uleb (v + low)) ≡ length (uleb v)
unfolding uleb_bytes
uleb_low v low z l = ⊎_elim more last (le_or_lt 128 v)
  where
    more : 128 ≤ v → length (uleb (v + low)) ≡ length (uleb v)
    more h =
        let e : (v + low) / 128 ≡ v / 128 = omega arith in
        rw (le-ltb (v + low) 128 (omega arith), le-ltb v 128 h, e)

    last : v < 128 → length (uleb (v + low)) ≡ length (uleb v)
    last h = rw (uleb_last (v + low) (omega arith), uleb_last v h)

-- ---- a descriptor

-- numbers up to 2^48 have seven bytes at most
pub uleb_short : (v : ℕ) → v ≤ 2 ^ 48 → length (uleb v) ≤ 7
uleb_short v h = bytes_most 10 7 v (record { some = omega arith; room = omega arith })

pub descriptor_short : (distance granules : ℕ) → granule * distance ≤ address_limit → granule * granules ≤ address_limit
    → length (descriptor_of distance granules) ≤ 14
descriptor_short distance granules d g =
    cond_case (λ (t : List ℕ). length t ≤ 14) (ltb granules size_limit) _ _
    (λ q. let s = ltb-true granules size_limit q in let one = uleb_short (size_limit * distance + granules) (omega arith) in omega arith)
    (λ _.
    let one = uleb_short (size_limit * distance) (omega arith) in
    let two = uleb_short (granules - 1) (omega arith) in
    rw length-append (omega arith))

-- ---- each is a byte

-- each element is below 256; past the end stands 0
abbrev Bytes : List ℕ → Type 0
Bytes t = (i : ℕ) → get_or t i 0 < 256

cons_bytes : (b : ℕ) (t : List ℕ) → b < 256 → Bytes t → Bytes (b ∷ t)
cons_bytes b t h k zero = h
cons_bytes b t h k (suc i) = k i

append_bytes : (t w : List ℕ) → Bytes t → Bytes w → Bytes (t ++ w)
append_bytes [] w h k i = k i
append_bytes (b ∷ t) w h k zero = h 0
append_bytes (b ∷ t) w h k (suc i) = append_bytes t w (λ j. h (suc j)) k i

uleb_bytes_lem : (n v : ℕ) → Bytes (uleb_bytes n v)
unfolding uleb_bytes
uleb_bytes_lem zero v = λ i. omega arith
uleb_bytes_lem (suc n) v =
    let again = uleb_bytes_lem n (v / 128) in
    cond_case Bytes (ltb v 128) _ _
    (λ q. let h = ltb-true v 128 q in cons_bytes v [] (omega arith) (λ i. omega arith))
    (λ _. cons_bytes (v % 128 + 128) (uleb_bytes n (v / 128)) (omega arith) again)

descriptor_bytes_holds : (distance granules : ℕ) → Bytes (descriptor_of distance granules)
descriptor_bytes_holds distance granules =
    cond_case Bytes (ltb granules size_limit) _ _
    (λ _. uleb_bytes_lem 10 (size_limit * distance + granules))
    (λ _. append_bytes (uleb (size_limit * distance)) (uleb (granules - 1)) (uleb_bytes_lem 10 (size_limit * distance)) (uleb_bytes_lem 10 (granules - 1)))

table_from_bytes : (end : ℕ) (addresses sizes : List ℕ) → Bytes (table_from end addresses sizes)
unfolding table_from
table_from_bytes end [] sizes = λ i. omega arith
table_from_bytes end (a ∷ addresses) [] = λ i. omega arith
table_from_bytes end (a ∷ addresses) (s ∷ sizes) =
    append_bytes (descriptor_of ((a - end) / granule) (s / granule)) (table_from (a + s) addresses sizes)
    (descriptor_bytes_holds ((a - end) / granule) (s / granule)) (table_from_bytes (a + s) addresses sizes)

-- of any lists, taken or not
pub table_bytes : (addresses sizes : List ℕ) (i : ℕ) → get_or (table_of addresses sizes) i 0 < 256
table_bytes addresses sizes = table_from_bytes 0 addresses sizes
