-- Memory after a run of word writes, byte by byte, and after two runs whose words differ in the top byte only.
-- Assumes nothing.
use Prim.Native.Nat.{ℕ, zero, suc, ◌+◌, ◌*◌, ◌/◌, ◌%◌, ◌^◌, ◌≤◌, ◌<◌}
use mathlib.Core.Path.{◌≡◌, refl, sym, ap, ◌∙◌, subst}
use mathlib.Core.Bool.{Bool, true, cond}
use mathlib.Core.List.{List, [], ◌∷◌, ◌++◌}
use mathlib.Core.Logic.{◌⊎◌, ⊎_elim}
use native.Mathlib.Nat.{add-zero, add-suc, eq-or-lt_of_le, pow-succ', mul_assoc, add-mul-mod_self_left, add-mul-div_left}
use native.Mathlib.Omega.{arith}
use lib.ListN.{length, get_or}
use lib.Dec.{lit<}
use Rattle.rules.specs.Limits.{address_limit}
use Rattle.rules.specs.Bytes.{le}
use Rattle.rules.specs.Memory.{over, put, bytes_of, put_word}
use Rattle.rules.specs.Words.{writes}
use Rattle.rules.proofs.MemoryLaws.{over-nil, put-length, put_before, put_after, put_in}
use Rattle.rules.proofs.BoolLaws.{cond_case}
use Rattle.laws.proofs.Checks.{cond_both}

-- s and a last byte x or y: what agrees at i agrees after, but at the last byte
over_agree : (s m m' : List ℕ) (x y i : ℕ) → length m ≡ length m' → get_or m i 0 ≡ get_or m' i 0 → (i ≡ length s → ⊥)
    → get_or (over m (s ++ (x ∷ []))) i 0 ≡ get_or (over m' (s ++ (y ∷ []))) i 0
unfolding over
over_agree s [] [] x y i l e ne = refl
over_agree s [] (b ∷ m') x y i l e ne = absurd (omega arith)
over_agree s (a ∷ m) [] x y i l e ne = absurd (omega arith)
over_agree [] (a ∷ m) (b ∷ m') x y zero l e ne = absurd (ne refl)
over_agree [] (a ∷ m) (b ∷ m') x y (suc i) l e ne = rw (over-nil m, over-nil m') e
over_agree (c ∷ s) (a ∷ m) (b ∷ m') x y zero l e ne = refl
over_agree (c ∷ s) (a ∷ m) (b ∷ m') x y (suc i) l e ne = over_agree s m m' x y i (omega arith) e (λ q. ne (ap suc q))

put_agree : (a : ℕ) (s m m' : List ℕ) (x y i : ℕ) → length m ≡ length m' → get_or m i 0 ≡ get_or m' i 0 → (i ≡ a + length s → ⊥)
    → get_or (put m a (s ++ (x ∷ []))) i 0 ≡ get_or (put m' a (s ++ (y ∷ []))) i 0
unfolding put
put_agree zero s m m' x y i l e ne = over_agree s m m' x y i l e (λ q. ne (omega arith))
put_agree (suc a) s [] [] x y i l e ne = refl
put_agree (suc a) s [] (b ∷ m') x y i l e ne = absurd (omega arith)
put_agree (suc a) s (c ∷ m) [] x y i l e ne = absurd (omega arith)
put_agree (suc a) s (c ∷ m) (b ∷ m') x y zero l e ne = e
put_agree (suc a) s (c ∷ m) (b ∷ m') x y (suc i) l e ne = put_agree a s m m' x y i (omega arith) e (λ q. ne (omega arith))

-- the places of the n items from an index on that are not skipped lie in a memory of so many bytes, eight bytes apart
pub record Apart (live : ℕ → Bool) (place : ℕ → ℕ) (size from n : ℕ) : Type 0 where
  pub inside : (k : ℕ) → from ≤ k → k < from + n → live k ≡ true → place k + 8 ≤ size
  pub apart : (j k : ℕ) → from ≤ j → j < k → k < from + n → live j ≡ true → live k ≡ true
      → (place j + 8 ≤ place k) ⊎ (place k + 8 ≤ place j)

-- fewer items
pub apart_fewer : (live : ℕ → Bool) (place : ℕ → ℕ) (size from n : ℕ) → Apart live place size from (suc n) → Apart live place size from n
apart_fewer live place size from n a = record {
  inside = λ k l u. a.inside k l (omega arith);
  apart = λ j k l o u. a.apart j k l o (omega arith);
}

module _ (live : ℕ → Bool) (place : ℕ → ℕ) (m : List ℕ) (from : ℕ) where
  pub writes-length : (w : ℕ → ℕ) (n : ℕ) → length (writes live place w m from n) ≡ length m
  unfolding writes put_word
  writes-length w zero = refl
  writes-length w (suc n) =
      let h = writes-length w n in
      cond_case (λ (l : List ℕ). length l ≡ length m) (live (from + n)) _ _
      (λ q. put-length (writes live place w m from n) (place (from + n)) (bytes_of 8 (w (from + n))) ∙ h) (λ q. h)

  -- words that are equal where they are written
  pub writes_same : (v w : ℕ → ℕ) (n : ℕ) → ((k : ℕ) → from ≤ k → k < from + n → live k ≡ true → v k ≡ w k)
      → writes live place v m from n ≡ writes live place w m from n
  unfolding writes
  writes_same v w zero e = refl
  writes_same v w (suc n) e =
      let h = writes_same v w n (λ k l u. e k l (omega arith)) in
      rw h
      (cond_both ◌≡◌ (live (from + n)) _ _ _ _
      (λ q. ap (λ (x : ℕ). put_word (writes live place w m from n) (place (from + n)) x) (e (from + n) (omega arith) (omega arith) q))
      (λ q. refl))

  -- words that agree in their low seven bytes
  pub writes_agree : (v w : ℕ → ℕ) → ((k : ℕ) → bytes_of 7 (v k) ≡ bytes_of 7 (w k)) → (n i : ℕ)
      → ((k : ℕ) → from ≤ k → k < from + n → live k ≡ true → i ≡ place k + 7 → ⊥)
      → get_or (writes live place v m from n) i 0 ≡ get_or (writes live place w m from n) i 0
  unfolding writes put_word
  writes_agree v w low zero i none = refl
  writes_agree v w low (suc n) i none =
      let h = writes_agree v w low n i (λ k l u. none k l (omega arith)) in
      let k = from + n in
      let A = writes live place v m from n in
      let B = writes live place w m from n in
      cond_both (λ (l r : List ℕ). get_or l i 0 ≡ get_or r i 0) (live k) _ _ _ _
      (λ q. put_agree (place k) (bytes_of 7 (v k)) A B _ _ i (writes-length v n ∙ sym (writes-length w n)) h (none k (omega arith) (omega arith) q)
      ∙ ap (λ (s : List ℕ). get_or (put B (place k) (s ++ (w k / 256 / 256 / 256 / 256 / 256 / 256 / 256 % 256 ∷ []))) i 0) (low k))
      (λ q. h)

  -- a byte of a word, where the places are apart
  pub writes_at : (w : ℕ → ℕ) (n : ℕ) → Apart live place (length m) from n → (k j : ℕ) → from ≤ k → k < from + n
      → live k ≡ true → j < 8
      → get_or (writes live place w m from n) (place k + j) 0 ≡ get_or (bytes_of 8 (w k)) j 0
  unfolding writes put_word
  writes_at w zero a k j g h l b = absurd (omega arith)
  writes_at w (suc n) a k j g h l b =
      let o = from + n in
      let A = writes live place w m from n in
      let len : length A ≡ length m = writes-length w n in
      ⊎_elim
      (λ (e : k ≡ o).
      let ln : live o ≡ true = rw (← e) l in
      let fits = a.inside o (omega arith) (omega arith) ln in
      subst (λ (z : ℕ). get_or (cond (live o) (put_word A (place o) (w o)) A) (place z + j) 0 ≡ get_or (bytes_of 8 (w z)) j 0) (sym e)
      (rw ln (put_in (place o) j A (bytes_of 8 (w o)) b (omega arith))))
      (λ (lt : k < o).
      let ih = writes_at w n (apart_fewer live place (length m) from n a) k j g lt l b in
      cond_case (λ (l : List ℕ). get_or l (place k + j) 0 ≡ get_or (bytes_of 8 (w k)) j 0) (live o) _ _
      (λ q. ⊎_elim
      (λ below. put_before (place o) (place k + j) A (bytes_of 8 (w o)) (omega arith) ∙ ih)
      (λ above. put_after (place o) (place k + j) A (bytes_of 8 (w o)) (omega arith) ∙ ih)
      (a.apart k o g lt (omega arith) l q))
      (λ q. ih))
      (eq-or-lt_of_le (omega arith))

  -- a byte in no word
  pub writes_other : (w : ℕ → ℕ) (n i : ℕ)
      → ((k : ℕ) → from ≤ k → k < from + n → live k ≡ true → (i < place k) ⊎ (place k + 8 ≤ i))
      → get_or (writes live place w m from n) i 0 ≡ get_or m i 0
  unfolding writes put_word
  writes_other w zero i out = refl
  writes_other w (suc n) i out =
      let h = writes_other w n i (λ k l u. out k l (omega arith)) in
      let o = from + n in
      let A = writes live place w m from n in
      cond_case (λ (l : List ℕ). get_or l i 0 ≡ get_or m i 0) (live o) _ _
      (λ q. ⊎_elim
      (λ b. put_before (place o) i A (bytes_of 8 (w o)) b ∙ h)
      (λ b. put_after (place o) i A (bytes_of 8 (w o)) b ∙ h)
      (out o (omega arith) (omega arith) q))
      (λ q. h)

-- a run of writes and then another is one run
pub writes-append : (live : ℕ → Bool) (place w : ℕ → ℕ) (m : List ℕ) (from n k : ℕ)
    → writes live place w (writes live place w m from n) (from + n) k ≡ writes live place w m from (n + k)
unfolding writes
writes-append live place w m from n zero = rw add-zero
writes-append live place w m from n (suc k) =
    let h = writes-append live place w m from n k in
    let e : from + n + k ≡ from + (n + k) = omega arith in
    rw (add-suc, h, e)

-- ---- a word with a tag in its top byte

bytes_low : (n x t : ℕ) → bytes_of n (x + 256 ^ n * t) ≡ bytes_of n x
bytes_low zero x t = refl
bytes_low (suc n) x t =
    let q : 256 ^ suc n * t ≡ 256 * (256 ^ n * t) = rw (pow-succ', mul_assoc) in
    rw (q, add-mul-mod_self_left x 256, add-mul-div_left x (256 ^ n * t) (lit< tt))
    (ap (λ (l : List ℕ). x % 256 ∷ l) (bytes_low n (x / 256) t))

pub low_bytes : (x t : ℕ) → bytes_of 7 (x + 2 ^ 56 * t) ≡ bytes_of 7 x
low_bytes x t = bytes_low 7 x t

pub top_byte : (x t : ℕ) → x < address_limit → t < 16 → get_or (bytes_of 8 (x + 2 ^ 56 * t)) 7 0 ≡ t
top_byte x t h g = omega arith

pub bare_byte : (x : ℕ) → x < address_limit → get_or (bytes_of 8 x) 7 0 ≡ 0
bare_byte x h = omega arith

-- the number that a word's bytes stand for
pub le_bytes : (n w : ℕ) (s : List ℕ) (at : ℕ) → w < 256 ^ n → ((j : ℕ) → j < n → get_or s (at + j) 0 ≡ get_or (bytes_of n w) j 0)
    → le n s at ≡ w
unfolding le
le_bytes zero w s at h e = omega arith
le_bytes (suc n) w s at h e =
    let z : at + 0 ≡ at = omega arith in
    let b : get_or s at 0 ≡ w % 256 = rw z at (e 0 (omega arith)) in
    let q : 256 ^ suc n ≡ 256 * 256 ^ n = pow-succ' 256 n in
    let r : le n s (at + 1) ≡ w / 256 = le_bytes n (w / 256) s (at + 1) (omega arith) (λ j l.
    let g : at + 1 + j ≡ at + suc j = omega arith in rw g (e (suc j) (omega arith))) in
    rw (b, r) (omega arith)
