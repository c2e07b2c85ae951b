-- Memory written in rising order, and cleared from the end of what is written.
-- Assumes nothing.
use mathlib.Core.Path.{◌≡◌, refl, sym, ap, ◌∙◌}
use mathlib.Core.List.{List, [], ◌∷◌}
use Prim.Native.Nat.{ℕ, zero, suc, ◌+◌, ◌-◌, ◌≤◌}
use native.Mathlib.Nat.{not-suc-le-zero, le_of_suc-le-suc, suc-add}
use native.Mathlib.Omega.{arith}
use lib.ListN.{length, replicate, length-replicate, replicate-append-replicate}
use Rattle.rules.specs.Memory.{over, put}
use Rattle.rules.proofs.MemoryLaws.{over-nil, over_fill, put-length, put-append, put_fill}

-- zeros to the end, however many there are beyond it
put_zeros : (a j k : ℕ) (d : List ℕ) → length d ≤ j → length d ≤ k → put d a (replicate j 0) ≡ put d a (replicate k 0)
put_zeros a j k d h g = sym (put_fill a (length d - a) j 0 d (omega arith)) ∙ put_fill a (length d - a) k 0 d (omega arith)

-- the rest cleared after bytes, and before them
over_clear : (d s : List ℕ) (j k : ℕ) → length d ≤ j → length d ≤ k
    → put (over d s) (length s) (replicate j 0) ≡ over (over d (replicate k 0)) s
unfolding put over
over_clear d [] j k h g = rw (over-nil d, over-nil (over d (replicate k 0))) (put_zeros 0 j k d h g)
over_clear [] (y ∷ s) j k h g = refl
over_clear (x ∷ d) (y ∷ s) j zero h g = absurd (not-suc-le-zero g)
over_clear (x ∷ d) (y ∷ s) j (suc k) h g = ap (λ (t : List ℕ). y ∷ t) (over_clear d s j k (omega arith) (le_of_suc-le-suc g))

put_clear : (a : ℕ) (d s : List ℕ) (j k : ℕ) → length d ≤ j → length d ≤ k
    → put (put d a s) (a + length s) (replicate j 0) ≡ put (put d a (replicate k 0)) a s
unfolding put
put_clear zero d s j k h g =
    let z : zero + length s ≡ length s = omega arith in
    rw z (over_clear d s j k h g)
put_clear (suc a) [] s j k h g = rw suc-add refl
put_clear (suc a) (x ∷ d) s j k h g = rw suc-add (ap (λ (t : List ℕ). x ∷ t) (put_clear a d s j k (omega arith) (omega arith)))

-- a gap cleared, and then the rest
put_gap : (a c k : ℕ) (d : List ℕ) → length d ≤ k → put (put d a (replicate c 0)) (a + c) (replicate k 0) ≡ put d a (replicate k 0)
put_gap a c k d h =
    let e = simp (length-replicate, replicate-append-replicate) at (put-append d a (replicate c 0) (replicate k 0)) in
    sym e ∙ put_zeros a (c + k) k d (omega arith) h

-- bytes put at or after the end of what is written: the gap before them cleared, and then the rest after them, or all the rest before
pub put_rising : (e v k : ℕ) (d s : List ℕ) → e ≤ v → length d ≤ k
    → put (put (put d e (replicate (v - e) 0)) v s) (v + length s) (replicate k 0) ≡ put (put d e (replicate k 0)) v s
put_rising e v k d s r h =
    let p : e + (v - e) ≡ v = omega arith in
    let g : length (put d e (replicate (v - e) 0)) ≤ k = simp put-length (omega arith) in
    put_clear v (put d e (replicate (v - e) 0)) s k k g g ∙ ap (λ (t : List ℕ). put t v s) (rw p at (put_gap e (v - e) k d h))

-- all cleared, where nothing is written yet
pub put_none : (d : List ℕ) → put d 0 (replicate (length d) 0) ≡ replicate (length d) 0
unfolding put
put_none d = sym (over_fill d 0)
