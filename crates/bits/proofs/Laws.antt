-- A bit more in a byte, and a word more in the map: what it had it keeps.
-- Assumes nothing.
use Prim.Native.Nat.{ℕ, suc, ◌+◌, ◌-◌, ◌*◌, ◌/◌, ◌%◌, ◌^◌, ◌≤◌, ◌<◌}
use mathlib.Core.Path.{◌≡◌, refl, sym, ap, subst, ◌∙◌}
use mathlib.Core.Bool.{Bool, true, false}
use mathlib.Core.List.{List}
use mathlib.Core.Logic.{⊎_elim}
use native.Mathlib.Omega.{arith}
use native.Mathlib.Nat.{one-mul, add-div_right, add-mul-div_left, div-lt_iff_lt-mul, pow-suc, eq-or-lt_of_le}
use native.Mathlib.Numerals.{one-add}
use lib.Dec.{eqb, lit<}
use lib.ListN.{length, get_or}
use lib.Seq.{get_or-set_same, get_or-set_other}
use lib.Pow.{pow_pos, pow-add, shr_lt, shr-shr, shl_exact}
use borrow.Author.Tests.{eq-eqb, eqb-true, eqb-false}
use Rattle.laws.proofs.Checks.{le_or_lt}
use Rattle.bits.specs.Bits.{has, with_word}

-- ---- a bit of a number

-- a quotient by the power grows by one
up : (w k : ℕ) → (w + 2 ^ k) / 2 ^ k ≡ w / 2 ^ k + 1
up w k = add-div_right w (pow_pos k)

-- a number that lacks a bit has room for it
room : (w j k : ℕ) → w < 2 ^ (suc j + k) → w / 2 ^ k % 2 ≡ 0 → w + 2 ^ k < 2 ^ (suc j + k)
room w j k h e =
    let q : w / 2 ^ k < 2 ^ suc j = shr_lt (suc j) k h in
    let even : 2 ^ suc j ≡ 2 ^ j * 2 = pow-suc 2 j in
    let more : (w + 2 ^ k) / 2 ^ k < 2 ^ suc j = omega (arith, up w k) in
    let wide : w + 2 ^ k < 2 ^ suc j * 2 ^ k = (div-lt_iff_lt-mul (pow_pos k)).0 more in
    subst (λ (x : ℕ). w + 2 ^ k < x) (sym (pow-add 2 (suc j) k)) wide

-- so has a byte
pub byte_room : (w k : ℕ) → k < 8 → w < 2 ^ 8 → w / 2 ^ k % 2 ≡ 0 → w + 2 ^ k < 2 ^ 8
byte_room w k h l e =
    let n : suc (7 - k) + k ≡ 8 = omega arith in
    subst (λ (x : ℕ). w + 2 ^ k < 2 ^ x) n (room w (7 - k) k (subst (λ (x : ℕ). w < 2 ^ x) (sym n) l) e)

pub one_shl : (k : ℕ) → k < 8 → (1 * 2 ^ k) % 2 ^ 8 ≡ 2 ^ k
one_shl k h = shl_exact {a = 1} 1 k 8 (lit< tt) (subst (λ (x : ℕ). x ≤ 8) (sym (one-add k)) h) ∙ one-mul (2 ^ k)

-- the bit is there
same : (w k : ℕ) → w / 2 ^ k % 2 ≡ 0 → (w + 2 ^ k) / 2 ^ k % 2 ≡ 1
same w k e = omega (arith, up w k)

-- bits below are as they were
below : (w j m : ℕ) → (w + 2 ^ (j + suc m)) / 2 ^ j % 2 ≡ w / 2 ^ j % 2
below w j m =
    let p : 2 ^ (j + suc m) ≡ 2 ^ j * 2 ^ suc m = pow-add 2 j (suc m) in
    let d : (w + 2 ^ j * 2 ^ suc m) / 2 ^ j ≡ w / 2 ^ j + 2 ^ suc m = add-mul-div_left w (2 ^ suc m) (pow_pos j) in
    let even : 2 ^ suc m ≡ 2 ^ m * 2 = pow-suc 2 m in
    let whole : (w + 2 ^ (j + suc m)) / 2 ^ j ≡ w / 2 ^ j + 2 ^ suc m = ap (λ (x : ℕ). (w + x) / 2 ^ j) p ∙ d in
    omega (arith, whole, even)

-- bits above are as they were
above : (w k m : ℕ) → w / 2 ^ k % 2 ≡ 0 → (w + 2 ^ k) / 2 ^ (k + suc m) ≡ w / 2 ^ (k + suc m)
above w k m e =
    let half : (w + 2 ^ k) / 2 ^ k / 2 ≡ w / 2 ^ k / 2 = omega (arith, up w k) in
    sym (tail (w + 2 ^ k)) ∙ ap (λ (x : ℕ). x / 2 ^ m) half ∙ tail w
  where
    one : k + 1 + m ≡ k + suc m
    one = omega arith

    tail : (x : ℕ) → x / 2 ^ k / 2 / 2 ^ m ≡ x / 2 ^ (k + suc m)
    tail x = ap (λ (y : ℕ). y / 2 ^ m) (shr-shr x k 1) ∙ shr-shr x (k + 1) m ∙ ap (λ (y : ℕ). x / 2 ^ y) one

-- a bit that is 1 stays so
stays : (w j k : ℕ) → w / 2 ^ k % 2 ≡ 0 → w / 2 ^ j % 2 ≡ 1 → (w + 2 ^ k) / 2 ^ j % 2 ≡ 1
stays w j k e h = ⊎_elim (λ (l : k ≤ j). ⊎_elim equal higher (eq-or-lt_of_le l)) lower (le_or_lt k j)
  where
    equal : k ≡ j → (w + 2 ^ k) / 2 ^ j % 2 ≡ 1
    equal q = absurd (let z : w / 2 ^ j % 2 ≡ 0 = rw (← q) e in omega arith)

    higher : k < j → (w + 2 ^ k) / 2 ^ j % 2 ≡ 1
    higher l =
        let n : k + suc (j - k - 1) ≡ j = omega arith in
        let same_high : (w + 2 ^ k) / 2 ^ j ≡ w / 2 ^ j = subst (λ (x : ℕ). (w + 2 ^ k) / 2 ^ x ≡ w / 2 ^ x) n (above w k (j - k - 1) e) in
        ap (λ (x : ℕ). x % 2) same_high ∙ h

    lower : j < k → (w + 2 ^ k) / 2 ^ j % 2 ≡ 1
    lower l =
        let n : j + suc (k - j - 1) ≡ k = omega arith in
        subst (λ (x : ℕ). (w + 2 ^ x) / 2 ^ j % 2 ≡ w / 2 ^ j % 2) n (below w j (k - j - 1)) ∙ h

-- a remainder by 2 that is not 1
pub zero_bit : (x : ℕ) → eqb (x % 2) 1 ≡ false → x % 2 ≡ 0
zero_bit x e = let n = eqb-false (x % 2) 1 e in omega arith

-- ---- the map

module _ (map : List ℕ) (word : ℕ) (inside : word / 8 < length map) (new : has map word ≡ false) where
  -- the word is there
  pub has_same : has (with_word map word) word ≡ true
  unfolding has with_word
  has_same =
      rw (get_or-set_same map (word / 8) (get_or map (word / 8) 0 + 2 ^ (word % 8)) 0 inside)
      (eq-eqb _ 1 (same (get_or map (word / 8) 0) (word % 8) (zero_bit (get_or map (word / 8) 0 / 2 ^ (word % 8)) new)))

  -- what the map had it has
  pub has_kept : (v : ℕ) → has map v ≡ true → has (with_word map word) v ≡ true
  unfolding has with_word
  has_kept v h = go (eqb (v / 8) (word / 8)) refl
    where
      go : (b : Bool) → eqb (v / 8) (word / 8) ≡ b → has (with_word map word) v ≡ true
      go true e =
          let q : v / 8 ≡ word / 8 = eqb-true _ _ e in
          let old : get_or map (word / 8) 0 / 2 ^ (v % 8) % 2 ≡ 1 = rw (← q) (eqb-true _ 1 h) in
          rw (q, get_or-set_same map (word / 8) (get_or map (word / 8) 0 + 2 ^ (word % 8)) 0 inside)
          (eq-eqb _ 1 (stays (get_or map (word / 8) 0) (v % 8) (word % 8) (zero_bit (get_or map (word / 8) 0 / 2 ^ (word % 8)) new) old))
      go false e = rw (get_or-set_other map (word / 8) (v / 8) _ 0 (eqb-false _ _ e)) h
