-- Laws of `over` and `put`.
-- Assumes nothing.
use mathlib.Core.Path.{◌≡◌, refl, sym, ap, ◌∙◌}
use mathlib.Core.List.{List, [], ◌∷◌, ◌++◌}
use Prim.Native.Nat.{ℕ, zero, suc, ◌+◌, ◌-◌, ◌≤◌, ◌<◌, zero-le, min}
use native.Mathlib.Nat.{not-suc-le-zero, le_of_suc-le-suc, suc-add}
use native.Mathlib.Numerals.{add-one}
use native.Mathlib.Omega.{arith}
use lib.ListN.{length, replicate, length-take, length-drop, length-replicate, take-append-drop, set, take, drop, get_or}
use Rattle.rules.specs.Memory.{over, put}

pub over-nil : (d : List ℕ) → over d [] ≡ d
unfolding over
over-nil [] = refl
over-nil (x ∷ d) = refl

pub over-length : (d s : List ℕ) → length (over d s) ≡ length d
unfolding over
over-length [] s = refl
over-length (x ∷ d) [] = refl
over-length (x ∷ d) (y ∷ s) = ap suc (over-length d s)

pub put-length : (d : List ℕ) (a : ℕ) (s : List ℕ) → length (put d a s) ≡ length d
unfolding put
put-length d zero s = over-length d s
put-length [] (suc a) s = refl
put-length (x ∷ d) (suc a) s = ap suc (put-length d a s)

-- a turn of the copying loop
over_suc : (i : ℕ) (d s : List ℕ) → i < length s → set (over d (take i s)) i (get_or s i 0) ≡ over d (take (suc i) s)
unfolding over
over_suc i d [] h = absurd (not-suc-le-zero h)
over_suc i [] (y ∷ s) h = refl
over_suc zero (x ∷ d) (y ∷ s) h = ap (λ (t : List ℕ). y ∷ t) (sym (over-nil d))
over_suc (suc i) (x ∷ d) (y ∷ s) h = ap (λ (t : List ℕ). y ∷ t) (over_suc i d s (le_of_suc-le-suc h))

pub over_more : (i : ℕ) (d s e : List ℕ) → e ≡ over d (take i s) → i < length s → set e i (get_or s i 0) ≡ over d (take (i + 1) s)
over_more i d s e p h = rw (p, add-one) (over_suc i d s h)

-- a part that was lent on and came back
over-part : (k : ℕ) (d s : List ℕ) → length s ≤ k → over (take k d) s ++ drop k d ≡ over d s
unfolding over
over-part zero d [] h = sym (over-nil d)
over-part zero d (y ∷ s) h = absurd (not-suc-le-zero h)
over-part (suc k) [] s h = refl
over-part (suc k) (x ∷ d) [] h =
    ap (λ (t : List ℕ). x ∷ t) (ap (λ (t : List ℕ). t ++ drop k d) (sym (over-nil (take k d))) ∙ over-part k d [] zero-le ∙ over-nil d)
over-part (suc k) (x ∷ d) (y ∷ s) h = ap (λ (t : List ℕ). y ∷ t) (over-part k d s (le_of_suc-le-suc h))

pub put-part : (a k : ℕ) (d s : List ℕ) → length s ≤ k → take a d ++ (over (take k (drop a d)) s ++ drop k (drop a d)) ≡ put d a s
unfolding put over
put-part zero k d s h = over-part k d s h
put-part (suc a) k [] s h = over-part k [] s h
put-part (suc a) k (x ∷ d) s h = ap (λ (t : List ℕ). x ∷ t) (put-part a k d s h)

pub put-nil : (d : List ℕ) (a : ℕ) → put d a [] ≡ d
unfolding put
put-nil d zero = over-nil d
put-nil [] (suc a) = refl
put-nil (x ∷ d) (suc a) = ap (λ (t : List ℕ). x ∷ t) (put-nil d a)

pub put-cons : (d : List ℕ) (a y : ℕ) (s : List ℕ) → put d a (y ∷ s) ≡ put (set d a y) (suc a) s
unfolding put over
put-cons [] zero y s = refl
put-cons (x ∷ d) zero y s = refl
put-cons [] (suc a) y s = refl
put-cons (x ∷ d) (suc a) y s = ap (λ (t : List ℕ). x ∷ t) (put-cons d a y s)

-- one part after another
pub put-append : (d : List ℕ) (a : ℕ) (s t : List ℕ) → put d a (s ++ t) ≡ put (put d a s) (a + length s) t
put-append d a [] t =
    let z : a + 0 ≡ a = omega arith in
    rw (put-nil d a, z)
put-append d a (y ∷ s) t =
    let n : a + suc (length s) ≡ suc a + length s = omega arith in
    rw (put-cons d a y (s ++ t), put-cons d a y s, n) (put-append (set d a y) (suc a) s t)

-- the stores of straight-line code, s from a + k on
abbrev pub stores : List ℕ → ℕ → ℕ → List ℕ → List ℕ
stores d a k [] = d
stores d a k (b ∷ s) = stores (set d (a + k) b) a (k + 1) s

put_stores : (s d : List ℕ) (a k : ℕ) → put d (a + k) s ≡ stores d a k s
put_stores [] d a k = put-nil d (a + k)
put_stores (b ∷ s) d a k =
    let e : suc (a + k) ≡ a + (k + 1) = omega arith in
    put-cons d (a + k) b s ∙ rw e (put_stores s (set d (a + k) b) a (k + 1))

pub put_all : (d : List ℕ) (a b : ℕ) (s : List ℕ) → put d a (b ∷ s) ≡ stores (set d a b) a 1 s
put_all d a b s = put-cons d a b s ∙ rw (← add-one a) (put_stores s (set d a b) a 1)

pub over_fill : (d : List ℕ) (v : ℕ) → replicate (length d) v ≡ over d (replicate (length d) v)
unfolding over
over_fill [] v = refl
over_fill (x ∷ d) v = ap (λ (t : List ℕ). v ∷ t) (over_fill d v)

-- a part of k elements from a on that was lent, and came back as all v
pub fill_part : (a k j v : ℕ) (d e : List ℕ) → j ≡ k → a + k ≤ length d → e ≡ replicate (length (take j (drop a d))) v
    → take a d ++ (e ++ drop j (drop a d)) ≡ put d a (replicate k v)
fill_part a k j v d e p h q =
    let n : length (take k (drop a d)) ≡ k = simp (length-take, length-drop) (omega arith) in
    let r : length (replicate k v) ≤ k = simp length-replicate (omega arith) in
    let f : replicate k v ≡ over (take k (drop a d)) (replicate k v) = simp n at (over_fill (take k (drop a d)) v) in
    rw (q, p, n) (ap (λ (t : List ℕ). take a d ++ (t ++ drop k (drop a d))) f ∙ put-part a k d (replicate k v) r)

-- for a reader: bytes put where they fit are what was before, the bytes, and what was after
over_split : (d s : List ℕ) → length s ≤ length d → over d s ≡ s ++ drop (length s) d
unfolding over
over_split [] [] h = refl
over_split [] (y ∷ s) h = absurd (not-suc-le-zero h)
over_split (x ∷ d) [] h = refl
over_split (x ∷ d) (y ∷ s) h = ap (λ (t : List ℕ). y ∷ t) (over_split d s (le_of_suc-le-suc h))

pub put_front : (s d : List ℕ) → length s ≤ length d → put d 0 s ≡ s ++ drop (length s) d
unfolding put
put_front s d h = over_split d s h

pub put_split : (a : ℕ) (d s : List ℕ) → a + length s ≤ length d → put d a s ≡ take a d ++ (s ++ drop (a + length s) d)
unfolding put
put_split zero d s h =
    let z : zero + length s ≡ length s = omega arith in
    rw z (over_split d s (omega arith))
put_split (suc a) [] s h = absurd (omega arith)
put_split (suc a) (x ∷ d) s h = rw suc-add (ap (λ (t : List ℕ). x ∷ t) (put_split a d s (omega arith)))

-- outside the bytes put, and inside them
pub put_before : (a i : ℕ) (d s : List ℕ) → i < a → get_or (put d a s) i 0 ≡ get_or d i 0
unfolding put
put_before zero i d s h = absurd (not-suc-le-zero h)
put_before (suc a) i [] s h = refl
put_before (suc a) zero (x ∷ d) s h = refl
put_before (suc a) (suc i) (x ∷ d) s h = put_before a i d s (le_of_suc-le-suc h)

over_after : (i : ℕ) (d s : List ℕ) → length s ≤ i → get_or (over d s) i 0 ≡ get_or d i 0
unfolding over
over_after i [] s h = refl
over_after i (x ∷ d) [] h = refl
over_after zero (x ∷ d) (y ∷ s) h = absurd (not-suc-le-zero h)
over_after (suc i) (x ∷ d) (y ∷ s) h = over_after i d s (le_of_suc-le-suc h)

pub put_after : (a i : ℕ) (d s : List ℕ) → a + length s ≤ i → get_or (put d a s) i 0 ≡ get_or d i 0
unfolding put
put_after zero i d s h = over_after i d s (omega arith)
put_after (suc a) i [] s h = refl
put_after (suc a) zero (x ∷ d) s h = refl
put_after (suc a) (suc i) (x ∷ d) s h = put_after a i d s (omega arith)

over_in : (j : ℕ) (d s : List ℕ) → j < length s → j < length d → get_or (over d s) j 0 ≡ get_or s j 0
unfolding over
over_in j [] s h l = absurd (not-suc-le-zero l)
over_in j (x ∷ d) [] h l = absurd (not-suc-le-zero h)
over_in zero (x ∷ d) (y ∷ s) h l = refl
over_in (suc j) (x ∷ d) (y ∷ s) h l = over_in j d s (le_of_suc-le-suc h) (le_of_suc-le-suc l)

pub put_in : (a j : ℕ) (d s : List ℕ) → j < length s → a + j < length d → get_or (put d a s) (a + j) 0 ≡ get_or s j 0
unfolding put
put_in zero j d s h l =
    let z : zero + j ≡ j = omega arith in
    rw z (over_in j d s h (omega arith))
put_in (suc a) j [] s h l = absurd (not-suc-le-zero l)
put_in (suc a) j (x ∷ d) s h l = rw suc-add (put_in a j d s h (omega arith))

-- a part that reaches the end, whatever the length of what is put over it
over_rest : (k : ℕ) (d s : List ℕ) → length d ≤ k → over (take k d) s ++ drop k d ≡ over d s
unfolding over
over_rest zero [] s h = refl
over_rest zero (x ∷ d) s h = absurd (not-suc-le-zero h)
over_rest (suc k) [] s h = refl
over_rest (suc k) (x ∷ d) [] h = ap (λ (t : List ℕ). x ∷ t) (take-append-drop k d)
over_rest (suc k) (x ∷ d) (y ∷ s) h = ap (λ (t : List ℕ). y ∷ t) (over_rest k d s (le_of_suc-le-suc h))

rest_put : (a k : ℕ) (d s : List ℕ) → length d ≤ a + k → take a d ++ (over (take k (drop a d)) s ++ drop k (drop a d)) ≡ put d a s
unfolding put over
rest_put zero k d s h = over_rest k d s (omega arith)
rest_put (suc a) k [] s h = over_rest k [] s zero-le
rest_put (suc a) k (x ∷ d) s h = ap (λ (t : List ℕ). x ∷ t) (rest_put a k d s (omega arith))

-- such a part that was lent, and came back as e
pub put_rest : (a k : ℕ) (d s e : List ℕ) → length d ≤ a + k → e ≡ over (take k (drop a d)) s
    → take a d ++ (e ++ drop k (drop a d)) ≡ put d a s
put_rest a k d s e h p = rw p (rest_put a k d s h)

-- past the end nothing is put
pub put_out : (a : ℕ) (d s : List ℕ) → length d ≤ a → put d a s ≡ d
unfolding put over
put_out zero [] s h = refl
put_out zero (x ∷ d) s h = absurd (not-suc-le-zero h)
put_out (suc a) [] s h = refl
put_out (suc a) (x ∷ d) s h = ap (λ (t : List ℕ). x ∷ t) (put_out a d s (le_of_suc-le-suc h))

-- only what there is room for counts
pub over-take : (k : ℕ) (d s : List ℕ) → min (length d) (length s) ≤ k → over d (take k s) ≡ over d s
unfolding over
over-take k [] s h = refl
over-take zero (x ∷ d) [] h = refl
over-take zero (x ∷ d) (y ∷ s) h = absurd (omega arith)
over-take (suc k) (x ∷ d) [] h = refl
over-take (suc k) (x ∷ d) (y ∷ s) h = ap (λ (t : List ℕ). y ∷ t) (over-take k d s (omega arith))

pub put-take : (a k : ℕ) (d s : List ℕ) → min (length d - a) (length s) ≤ k → put d a (take k s) ≡ put d a s
unfolding put
put-take zero k d s h = over-take k d s (omega arith)
put-take (suc a) k [] s h = refl
put-take (suc a) k (x ∷ d) s h = ap (λ (t : List ℕ). x ∷ t) (put-take a k d s (omega arith))

take-replicate : (n k v : ℕ) → n ≤ k → replicate n v ≡ take n (replicate k v)
take-replicate zero k v h = refl
take-replicate (suc n) zero v h = absurd (not-suc-le-zero h)
take-replicate (suc n) (suc k) v h = ap (λ (t : List ℕ). v ∷ t) (take-replicate n k v (le_of_suc-le-suc h))

pub put_fill : (a n k v : ℕ) (d : List ℕ) → n ≡ min k (length d - a) → put d a (replicate n v) ≡ put d a (replicate k v)
put_fill a n k v d h =
    let r : min (length d - a) (length (replicate k v)) ≤ n = simp length-replicate (omega arith) in
    rw (take-replicate n k v (omega arith)) (put-take a n d (replicate k v) r)
