-- Laws of the map of places.
-- Assumes nothing.
use Prim.Native.Nat.{ℕ, ◌+◌, ◌*◌, ◌/◌, ◌%◌, ◌≤◌, ◌<◌}
use mathlib.Core.Path.{◌≡◌, refl, sym, ◌∙◌}
use mathlib.Core.Bool.{Bool, true, false, cond, ◌&&◌, ◌||◌, or-true}
use mathlib.Core.List.{List}
use native.Mathlib.Numerals.{add-one}
use native.Mathlib.Omega.{arith}
use lib.ListN.{length, get_or, replicate, get_or-replicate, length-replicate, length-set, get_or-eq_default}
use lib.Seq.{get_or-set_same, get_or-set_other}
use lib.Dec.{ltb, leb, eqb}
use borrow.Author.Tests.{ltb-true, ltb-false, lt-ltb, le-ltb, eqb-true, eqb-false}
use Rattle.rules.proofs.OutcomeLaws.{never, and_left, and_right}
use Rattle.marks.specs.Map.{shares, code_at, looks, hit, weight_of, marked, Within}

-- ---- places that share a byte

-- two orders that stand or fall together
ltb_same : (a b c d : ℕ) → (a < b → c < d) → (c < d → a < b) → ltb a b ≡ ltb c d
ltb_same a b c d f g = go (ltb a b) (ltb c d) refl refl
  where
    go : (t u : Bool) → ltb a b ≡ t → ltb c d ≡ u → ltb a b ≡ ltb c d
    go true u p q = p ∙ sym (lt-ltb c d (f (ltb-true a b p)))
    go false true p q = lt-ltb a b (g (ltb-true c d q)) ∙ sym q
    go false false p q = p ∙ sym q

pub shares_near : (p q : ℕ) → p < q + 8 → q < p + 8 → shares p q ≡ true
unfolding shares
shares_near p q a b = rw (lt-ltb p (q + 8) a, lt-ltb q (p + 8) b)

pub shares_below : (p q : ℕ) → p + 8 ≤ q → shares p q ≡ false
unfolding shares
shares_below p q a = rw (lt-ltb p (q + 8) (omega arith), le-ltb q (p + 8) a)

pub shares_above : (p q : ℕ) → q + 8 ≤ p → shares p q ≡ false
unfolding shares
shares_above p q a = rw (le-ltb p (q + 8) a)

-- near enough
pub near_shares : (p q : ℕ) → shares p q ≡ true → (p < q + 8) × (q < p + 8)
unfolding shares
near_shares p q e = (ltb-true p (q + 8) (and_left (ltb p (q + 8)) _ e), ltb-true q (p + 8) (and_right (ltb p (q + 8)) _ e))

-- the same from another start
pub shares_moved : (lo p q : ℕ) → shares (lo + p) (lo + q) ≡ shares p q
unfolding shares
shares_moved lo p q =
    let a = ltb_same (lo + p) (lo + q + 8) p (q + 8) (λ h. omega arith) (λ h. omega arith) in
    let b = ltb_same (lo + q) (lo + p + 8) q (p + 8) (λ h. omega arith) (λ h. omega arith) in
    rw (a, b)

-- multiples of 8 share a byte exactly where they are equal
pub shares-aligned : (p q : ℕ) → p % 8 ≡ 0 → q % 8 ≡ 0 → shares p q ≡ eqb p q
shares-aligned p q a b = go (eqb p q) refl
  where
    apart : (t : Bool) → ltb p q ≡ t → (p ≡ q → ⊥) → shares p q ≡ false
    apart true e d = shares_below p q (let l = ltb-true p q e in omega arith)
    apart false e d = shares_above p q (let l = ltb-false p q e in omega arith)

    go : (t : Bool) → eqb p q ≡ t → shares p q ≡ t
    go true e = let s = eqb-true p q e in shares_near p q (omega arith) (omega arith)
    go false e = apart (ltb p q) refl (eqb-false p q e)

-- ---- codes

-- adding a code to a half that is 0 gives that half the code, and leaves the other
half_same : (b : Bool) (v c : ℕ) → c < 16 → cond b (v % 16) (v / 16) ≡ 0 → cond b ((v + c * cond b 1 16) % 16) ((v + c * cond b 1 16) / 16) ≡ c
half_same true v c l e = omega arith
half_same false v c l e = omega arith

half_other : (a b : Bool) (v c : ℕ) → c < 16 → (a ≡ b → ⊥) → cond b (v % 16) (v / 16) ≡ 0
    → cond a ((v + c * cond b 1 16) % 16) ((v + c * cond b 1 16) / 16) ≡ cond a (v % 16) (v / 16)
half_other true true v c l d e = absurd (d refl)
half_other true false v c l d e = omega arith
half_other false true v c l d e = omega arith
half_other false false v c l d e = absurd (d refl)

-- two slots of a byte are the same where they are the same half
slot_half : (s k : ℕ) → s / 2 ≡ k / 2 → eqb (s % 2) 0 ≡ eqb (k % 2) 0 → s ≡ k
slot_half s k d e = go (eqb (s % 2) 0) (eqb (k % 2) 0) refl refl e
  where
    go : (a b : Bool) → eqb (s % 2) 0 ≡ a → eqb (k % 2) 0 ≡ b → a ≡ b → s ≡ k
    go true true p q r = let x = eqb-true (s % 2) 0 p in let y = eqb-true (k % 2) 0 q in omega arith
    go false false p q r = let x = eqb-false (s % 2) 0 p in let y = eqb-false (k % 2) 0 q in omega arith
    go true false p q r = search never
    go false true p q r = search never

module _ (map : List ℕ) (q : ℕ) (free : code_at map (q / 8 + 1) ≡ 0) (l : (q / 8 + 1) / 2 < length map) where
  code_same : code_at (marked map q) (q / 8 + 1) ≡ q % 8 + 1
  unfolding code_at marked weight_of
  code_same =
      rw (get_or-set_same map ((q / 8 + 1) / 2) _ 0 l)
      (half_same (eqb ((q / 8 + 1) % 2) 0) (get_or map ((q / 8 + 1) / 2) 0) (q % 8 + 1) (omega arith) free)

  code_other : (s : ℕ) → (s ≡ q / 8 + 1 → ⊥) → code_at (marked map q) s ≡ code_at map s
  unfolding code_at marked weight_of
  code_other s d = go (eqb (s / 2) ((q / 8 + 1) / 2)) refl
    where
      go : (b : Bool) → eqb (s / 2) ((q / 8 + 1) / 2) ≡ b → code_at (marked map q) s ≡ code_at map s
      go true e =
          let h : s / 2 ≡ (q / 8 + 1) / 2 = eqb-true _ _ e in
          rw (h, get_or-set_same map ((q / 8 + 1) / 2) _ 0 l)
          (half_other (eqb (s % 2) 0) (eqb ((q / 8 + 1) % 2) 0) (get_or map ((q / 8 + 1) / 2) 0) (q % 8 + 1) (omega arith)
          (λ z. d (slot_half s (q / 8 + 1) h z)) free)
      go false e = rw (get_or-set_other map ((q / 8 + 1) / 2) (s / 2) _ 0 (eqb-false _ _ e))

-- a place that is not hit has no start in its word
looks_free : (a b c o : ℕ) → looks a b c o ≡ false → b ≡ 0
unfolding looks
looks_free a b c o e = go (ltb (o + 1) a) (ltb 0 b) refl e
  where
    go : (x y : Bool) → ltb 0 b ≡ y → (x || (y || (ltb 0 c && leb c o))) ≡ false → b ≡ 0
    go true y d h = search never
    go false true d h = search never
    go false false d h = let k = ltb-false 0 b d in omega arith

hit_free : (map : List ℕ) (q : ℕ) → hit map q ≡ false → code_at map (q / 8 + 1) ≡ 0
unfolding hit
hit_free map q e = looks_free _ _ _ _ e

-- a new start in the word before, in the place's own and in the next
looks_before : (b c o x : ℕ) → looks (x + 1) b c o ≡ (ltb o x || looks 0 b c o)
unfolding looks
looks_before b c o x =
    let e : ltb (o + 1) 0 ≡ false = le-ltb (o + 1) 0 (omega arith) in
    rw (e, ltb_more)
  where
    ltb_more : ltb (o + 1) (x + 1) ≡ ltb o x
    ltb_more = ltb_same (o + 1) (x + 1) o x (λ h. omega arith) (λ h. omega arith)

looks_own : (a c o x : ℕ) → looks a (x + 1) c o ≡ true
unfolding looks
looks_own a c o x = rw (lt-ltb 0 (x + 1) (omega arith), or-true)

looks_next : (a b o x : ℕ) → looks a b (x + 1) o ≡ (ltb x o || looks a b 0 o)
unfolding looks
looks_next a b o x =
    rw (lt-ltb 0 (x + 1) (omega arith), le-ltb 0 0 (omega arith), add-one x) (swap (ltb (o + 1) a) (ltb 0 b) (ltb x o))
  where
    swap : (x y z : Bool) → (x || (y || z)) ≡ (z || (x || (y || false)))
    swap true y true = refl
    swap true y false = refl
    swap false true true = refl
    swap false true false = refl
    swap false false true = refl
    swap false false false = refl

module _ (q p : ℕ) where
  -- the place before, by their offsets
  shares_before : p / 8 ≡ q / 8 + 1 → shares q p ≡ ltb (p % 8) (q % 8)
  shares_before e = go (ltb (p % 8) (q % 8)) refl
    where
      go : (b : Bool) → ltb (p % 8) (q % 8) ≡ b → shares q p ≡ b
      go true h = let k = ltb-true (p % 8) (q % 8) h in shares_near q p (omega arith) (omega arith)
      go false h = let k = ltb-false (p % 8) (q % 8) h in shares_below q p (omega arith)

  shares_next : q / 8 ≡ p / 8 + 1 → shares q p ≡ ltb (q % 8) (p % 8)
  shares_next e = go (ltb (q % 8) (p % 8)) refl
    where
      go : (b : Bool) → ltb (q % 8) (p % 8) ≡ b → shares q p ≡ b
      go true h = let k = ltb-true (q % 8) (p % 8) h in shares_near q p (omega arith) (omega arith)
      go false h = let k = ltb-false (q % 8) (p % 8) h in shares_above q p (omega arith)

  shares_own : p / 8 ≡ q / 8 → shares q p ≡ true
  shares_own e = shares_near q p (omega arith) (omega arith)

  shares_far : (p / 8 ≡ q / 8 + 1 → ⊥) → (q / 8 ≡ p / 8 + 1 → ⊥) → (p / 8 ≡ q / 8 → ⊥) → shares q p ≡ false
  shares_far a b c = go (ltb p q) refl
    where
      go : (t : Bool) → ltb p q ≡ t → shares q p ≡ false
      go true h = let k = ltb-true p q h in shares_above q p (omega arith)
      go false h = let k = ltb-false p q h in shares_below q p (omega arith)

-- a place marked is hit by those that share a byte with it, and hides none of the others
module _ (map : List ℕ) (q : ℕ) (new : hit map q ≡ false) (w : Within map q) where
  pub hit_mark : (p : ℕ) → hit (marked map q) p ≡ (shares q p || hit map p)
  unfolding hit
  hit_mark p = go (eqb (p / 8) (q / 8 + 1)) (eqb (p / 8) (q / 8)) (eqb (q / 8) (p / 8 + 1)) refl refl refl
    where
      free : code_at map (q / 8 + 1) ≡ 0
      free = hit_free map q new

      l : (q / 8 + 1) / 2 < length map
      l = omega arith

      other : (s : ℕ) → (s ≡ q / 8 + 1 → ⊥) → code_at (marked map q) s ≡ code_at map s
      other s d = code_other map q free l s d

      same : (s : ℕ) → s ≡ q / 8 + 1 → (code_at (marked map q) s ≡ q % 8 + 1) × (code_at map s ≡ 0)
      same s e = rw e (code_same map q free l, free)

      go : (x y z : Bool) → eqb (p / 8) (q / 8 + 1) ≡ x → eqb (p / 8) (q / 8) ≡ y → eqb (q / 8) (p / 8 + 1) ≡ z
          → looks (code_at (marked map q) (p / 8)) (code_at (marked map q) (p / 8 + 1)) (code_at (marked map q) (p / 8 + 2)) (p % 8)
          ≡ (shares q p || looks (code_at map (p / 8)) (code_at map (p / 8 + 1)) (code_at map (p / 8 + 2)) (p % 8))
      go true y z e d f =
          let h = eqb-true (p / 8) (q / 8 + 1) e in
          let s = same (p / 8) h in
          rw (s.0, s.1, other (p / 8 + 1) (λ k. omega arith), other (p / 8 + 2) (λ k. omega arith), shares_before q p h)
          (looks_before (code_at map (p / 8 + 1)) (code_at map (p / 8 + 2)) (p % 8) (q % 8))
      go false true z e d f =
          let h = eqb-true (p / 8) (q / 8) d in
          let s = same (p / 8 + 1) (omega arith) in
          rw (s.0, shares_own q p h) (looks_own _ _ _ _)
      go false false true e d f =
          let h = eqb-true (q / 8) (p / 8 + 1) f in
          let s = same (p / 8 + 2) (omega arith) in
          rw (s.0, s.1, other (p / 8) (λ k. omega arith), other (p / 8 + 1) (λ k. omega arith), shares_next q p h)
          (looks_next (code_at map (p / 8)) (code_at map (p / 8 + 1)) (p % 8) (q % 8))
      go false false false e d f =
          let a = eqb-false (p / 8) (q / 8 + 1) e in
          let b = eqb-false (p / 8) (q / 8) d in
          let c = eqb-false (q / 8) (p / 8 + 1) f in
          rw (other (p / 8) a, other (p / 8 + 1) (λ k. b (omega arith)), other (p / 8 + 2) (λ k. c (omega arith)), shares_far q p a c b)

-- a map of zeros hits nothing
pub hit_zeros : (n p : ℕ) → hit (replicate n 0) p ≡ false
unfolding hit looks code_at
hit_zeros n p = rw (clear (p / 8), clear (p / 8 + 1), clear (p / 8 + 2), le-ltb (p % 8 + 1) 0 (omega arith))
  where
    zero_at : (k : ℕ) → ◌≡◌ {A = ℕ} (get_or (replicate n 0) k 0) 0
    zero_at k = go (ltb k n) refl
      where
        go : (b : Bool) → ltb k n ≡ b → ◌≡◌ {A = ℕ} (get_or (replicate n 0) k 0) 0
        go true h = get_or-replicate {A = ℕ} n k 0 0 (ltb-true k n h)
        go false h = get_or-eq_default (replicate n 0) 0 (rw (length-replicate {A = ℕ} n 0) (ltb-false k n h))

    clear : (s : ℕ) → code_at (replicate n 0) s ≡ 0
    clear s = rw (zero_at (s / 2)) (both (eqb (s % 2) 0))
      where
        both : (b : Bool) → ◌≡◌ {A = ℕ} (cond b (0 % 16) (0 / 16)) 0
        both true = refl
        both false = refl

pub marked-length : (map : List ℕ) (p : ℕ) → length (marked map p) ≡ length map
unfolding marked
marked-length map p = simp length-set

-- the code's sum fits a byte where its half is 0
pub code_fits : (map : List ℕ) (p w : ℕ) → w ≡ weight_of (p / 8 + 1) → hit map p ≡ false → get_or map ((p / 8 + 1) / 2) 0 < 256
    → ((p % 8 + 1) * w < 256) × (get_or map ((p / 8 + 1) / 2) 0 + (p % 8 + 1) * w < 256)
unfolding code_at weight_of
code_fits map p w e new l = rw e (go (eqb ((p / 8 + 1) % 2) 0) (get_or map ((p / 8 + 1) / 2) 0) l (hit_free map p new))
  where
    go : (b : Bool) (v : ℕ) → v < 256 → cond b (v % 16) (v / 16) ≡ 0
        → ((p % 8 + 1) * cond b 1 16 < 256) × (v + (p % 8 + 1) * cond b 1 16 < 256)
    go true v l h = (omega arith, omega arith)
    go false v l h = (omega arith, omega arith)
