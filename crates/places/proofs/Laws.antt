-- Reading packed places, a word and a bit at a time.
-- Assumes nothing.
use Rattle.std.proofs.Common.{◌≡◌, ℕ, zero, suc, ◌+◌, ◌-◌, ◌*◌, ◌/◌, ◌%◌, ◌^◌, ◌<◌, ◌≤◌, Bool, true, false, ltb, List, [], ◌∷◌, ◌++◌, map, length}
use Rattle.std.proofs.Common.{sym, refl, ◌∙◌, pow-suc, arith, ltb-false, ltb-true, eq-eqb, ne_eqb}
use lib.Count.{under, count_trailing_zeros}
use Rattle.std.proofs.lemmas.Nat.{shr-shr}
use Rattle.rules.specs.Packed.{Named, named, packed_word, bitmap_bits, bitmap_bytes, places_in, places_of, run_after, packed_from, packed_before}
use Rattle.rules.specs.declared.Packed.{Packed}
use Rattle.places.specs.Ahead.{ahead, place_limit, Standing, Next}
use Rattle.places.specs.declared.Run.{Run}

-- ---- the places that bits name

none_named : (n at : ℕ) → places_in n at 0 ≡ []
unfolding places_in
none_named zero at = refl
none_named (suc n) at = none_named n (at + 8)

one_named : (n at bits : ℕ) → 0 < n → (bits % 2 ≡ 0 → ⊥) → places_in n at bits ≡ at ∷ places_in (n - 1) (at + 8) (bits / 2)
unfolding places_in
one_named zero at bits l e = absurd (omega arith)
one_named (suc n) at bits l e = let m : suc n - 1 ≡ n = omega arith in rw (eq-eqb (bits % 2) 1 (omega arith), m)

skip_named : (n at bits : ℕ) → 0 < n → bits % 2 ≡ 0 → places_in n at bits ≡ places_in (n - 1) (at + 8) (bits / 2)
unfolding places_in
skip_named zero at bits l e = absurd (omega arith)
skip_named (suc n) at bits l e = let m : suc n - 1 ≡ n = omega arith in rw (ne_eqb (bits % 2) 1 (λ q. omega arith), m)

-- a bit that is set is among those left
bits_left : (n bits : ℕ) → 0 < bits → bits < 2 ^ n → 0 < n
bits_left zero bits some h = absurd (omega arith)
bits_left (suc n) bits some h = omega arith

-- half of the bits has a place less
half_bits : (n bits : ℕ) → 0 < n → bits < 2 ^ n → bits / 2 < 2 ^ (n - 1)
half_bits zero bits l h = absurd (omega arith)
half_bits (suc n) bits l h =
    let m : suc n - 1 ≡ n = omega arith in
    let p : 2 ^ suc n ≡ 2 ^ n * 2 = pow-suc 2 n in
    rw m (omega arith)

-- bits passed over because they name no place: what is left names the same places
pub record Passing (rest₀ left₀ place₀ rest left place : ℕ) : Type 0 where
  pub some : 0 < rest
  pub bits : rest < 2 ^ left
  pub few : left ≤ left₀
  pub end : place + 8 * left ≡ place₀ + 8 * left₀
  pub same : places_in left place rest ≡ places_in left₀ place₀ rest₀

pub passing_none : (rest left place : ℕ) → 0 < rest → rest < 2 ^ left → Passing rest left place rest left place
passing_none rest left place some bits = record { some = some; bits = bits; few = omega arith; end = refl; same = refl }

module _ {rest₀ left₀ place₀ rest left place : ℕ} (h : Passing rest₀ left₀ place₀ rest left place) where
  pub passing_left : 0 < left
  passing_left = bits_left left rest h.some h.bits

  pub passing_next : rest % 2 ≡ 0 → Passing rest₀ left₀ place₀ (rest / 2) (left - 1) (place + 8)
  passing_next e =
      let l = passing_left in
      let s = h.some in
      let w = h.few in
      let d = h.end in
      record {
        some = omega arith;
        bits = half_bits left rest l h.bits;
        few = omega arith;
        end = omega arith;
        same = sym (skip_named left place rest l e) ∙ h.same;
      }

-- all bits below the lowest that is set are passed over at once
pub passing_all : {rest₀ left₀ place₀ : ℕ} (n rest left place : ℕ) → rest < 2 ^ n → Passing rest₀ left₀ place₀ rest left place
    → (z : ℕ) → z ≡ count_trailing_zeros n rest
    → Passing rest₀ left₀ place₀ (rest / 2 ^ z) (left - z) (place + 8 * z) × (rest / 2 ^ z % 2 ≡ 0 → ⊥) × (z < n)
unfolding count_trailing_zeros
passing_all zero rest left place b p z e = let s = p.some in absurd (omega arith)
passing_all {rest₀} {left₀} {place₀} (suc n) rest left place b p z e =
    let y = count_trailing_zeros n (rest / 2) in
    let k : 2 ^ suc n ≡ 2 ^ n * 2 = pow-suc 2 n in
    go y (rest % 2) refl e (λ even. passing_all n (rest / 2) (left - 1) (place + 8) (omega arith) (passing_next p even) y refl)
  where
    go : (y d : ℕ) → rest % 2 ≡ d → z ≡ under d y
        → (rest % 2 ≡ 0 → Passing rest₀ left₀ place₀ (rest / 2 / 2 ^ y) (left - 1 - y) (place + 8 + 8 * y) × (rest / 2 / 2 ^ y % 2 ≡ 0 → ⊥) × (y < n))
        → Passing rest₀ left₀ place₀ (rest / 2 ^ z) (left - z) (place + 8 * z) × (rest / 2 ^ z % 2 ≡ 0 → ⊥) × (z < suc n)
    go y zero even q more =
        let h = more even in
        let s : 1 + y ≡ suc y = omega arith in
        let r : rest / 2 / 2 ^ y ≡ rest / 2 ^ suc y = rw s at (shr-shr rest 1 y) in
        let l : left - 1 - y ≡ left - suc y = omega arith in
        let a : place + 8 + 8 * y ≡ place + 8 * suc y = omega arith in
        rw q (rw (r, l, a) at h.0, rw r at h.1, omega (arith, h.2))
    go y (suc d) odd q more =
        let o : z ≡ 0 = q in
        let r : rest / 2 ^ z ≡ rest = rw o (omega arith) in
        let l : left - z ≡ left = omega arith in
        let a : place + 8 * z ≡ place = omega arith in
        rw (r, l, a) (p, (λ x. omega arith), omega arith)

-- ---- the places of words

module _ (f : List ℕ) (at run k w : ℕ) (is : w ≡ packed_word f at k) where
  packed_even : (n : ℕ) → 0 < n → w % 2 ≡ 0 → packed_from f at run k n ≡ named k w ∷ packed_from f at (w + 8) (k + 1) (n - 1)
  unfolding packed_from places_of run_after
  packed_even zero l e = absurd (omega arith)
  packed_even (suc n) l e = let m : suc n - 1 ≡ n = omega arith in rw (m, ← is, eq-eqb (w % 2) 0 e)

  packed_odd : (n : ℕ) → 0 < n → (w % 2 ≡ 0 → ⊥)
      → packed_from f at run k n ≡ map (named k) (places_in bitmap_bits run (w / 2)) ++ packed_from f at (run + bitmap_bytes) (k + 1) (n - 1)
  unfolding packed_from places_of run_after
  packed_odd zero l e = absurd (omega arith)
  packed_odd (suc n) l e = let m : suc n - 1 ≡ n = omega arith in rw (m, ← is, ne_eqb (w % 2) 0 e)

packed_none : (f : List ℕ) (at run k n : ℕ) → n ≤ 0 → packed_from f at run k n ≡ []
unfolding packed_from
packed_none f at run k zero l = refl
packed_none f at run k (suc n) l = absurd (omega arith)

-- ---- the places ahead

-- where reading stands, without the place found last
abbrev pub standing_at : ℕ → ℕ → ℕ → ℕ → Run
standing_at words rest left place = record { words = words; rest = rest; left = left; at = place; place = 0 }

module _ (f : List ℕ) (t : Packed) where
  -- with no bit left, those of the words
  ahead_words : (c : Run) → c.rest ≡ 0 → ahead f t c ≡ packed_from f t.at (c.at + 8 * c.left) c.words (t.words - c.words)
  unfolding ahead
  ahead_words c e = rw (e, none_named c.left c.at)

  -- the start
  pub start_standing : Standing f t (standing_at 0 0 0 0)
  start_standing = record { read = omega arith; some = λ l. absurd (omega arith); bits = omega arith; few = omega arith; low = omega arith }

  pub start_ahead : ahead f t (standing_at 0 0 0 0) ≡ packed_before f t.at t.words
  start_ahead = let z : t.words - 0 ≡ t.words = omega arith in ahead_words (standing_at 0 0 0 0) refl ∙ rw z

  -- a state of the reading that began at c: the places ahead are still those
  pub record Reading (c : Run) (words rest left place : ℕ) : Type 0 where
    pub standing : Standing f t (standing_at words rest left place)
    pub same : ahead f t (standing_at words rest left place) ≡ ahead f t c
    pub more : 0 < length (ahead f t c)

  -- the first of those ahead, and those behind it
  next_found : (c v : Run) (l : List Named) → 1 ≤ v.words → ahead f t c ≡ named (v.words - 1) v.place ∷ l
      → (v.place ≤ place_limit → Standing f t v × (ahead f t v ≡ l)) → Next f t c v
  next_found c v l r e h = record { read = r; found = rw e; onward = λ p. ((h p).0, rw e (h p).1) }

  pub reading_start : (c : Run) → Standing f t c → 0 < length (ahead f t c)
      → Reading (standing_at c.words c.rest c.left c.at) c.words c.rest c.left c.at
  unfolding ahead
  reading_start c s h = record {
    standing = record { read = s.read; some = s.some; bits = s.bits; few = s.few; low = s.low };
    same = refl;
    more = h;
  }

  pub next_start : (c : Run) {v : Run} → Next f t (standing_at c.words c.rest c.left c.at) v → Next f t c v
  unfolding ahead
  next_start c n = record { read = n.read; found = n.found; onward = n.onward }

  module _ {c : Run} {words rest left place : ℕ} (h : Reading c words rest left place) (none : rest ≡ 0) where
    -- with no bit left, those of the words; so there is one
    reading_words : ahead f t c ≡ packed_from f t.at (place + 8 * left) words (t.words - words)
    reading_words = sym h.same ∙ ahead_words (standing_at words rest left place) none

    pub reading_room : words < t.words
    reading_room = go (ltb words t.words) refl
      where
        go : (b : Bool) → ltb words t.words ≡ b → words < t.words
        go true e = ltb-true words t.words e
        go false e =
            let l = ltb-false words t.words e in
            let z = rw (reading_words, packed_none f t.at (place + 8 * left) words (t.words - words) (omega arith)) at h.more in
            absurd (omega arith)

    module _ {w : ℕ} (is : w ≡ packed_word f t.at words) where
      -- an even word is the next place
      pub reading_even : {run : ℕ} → w % 2 ≡ 0 → run ≡ (w + 8) % 2 ^ 64
          → Next f t c (record { words = words + 1; rest = 0; left = 0; at = run; place = w })
      reading_even {run} e r =
          let v : Run = record { words = words + 1; rest = 0; left = 0; at = run; place = w } in
          let room = reading_room in
          let back : words + 1 - 1 ≡ words = omega arith in
          let fewer : t.words - words - 1 ≡ t.words - (words + 1) = omega arith in
          let l = packed_from f t.at (w + 8) (words + 1) (t.words - (words + 1)) in
          let first = packed_even f t.at (place + 8 * left) words w is (t.words - words) (omega arith) e in
          next_found c v l (omega arith) (rw back (reading_words ∙ rw fewer at first)) (λ p.
          let same : run + 8 * 0 ≡ w + 8 = omega arith in (
            record { read = omega arith; some = λ l. absurd (omega arith); bits = omega arith; few = omega arith; low = omega arith },
            ahead_words v refl ∙ rw same,
          ))

      -- an odd word is read, and its bits are left
      pub reading_odd : w < 2 ^ 64 → (w % 2 ≡ 0 → ⊥) → Reading c (words + 1) (w / 2) bitmap_bits (place + 8 * left)
      unfolding ahead
      reading_odd b e =
          let room = reading_room in
          let low = h.standing.low in
          let back : words + 1 - 1 ≡ words = omega arith in
          let fewer : t.words - words - 1 ≡ t.words - (words + 1) = omega arith in
          let first = packed_odd f t.at (place + 8 * left) words w is (t.words - words) (omega arith) e in record {
            standing = record { read = omega arith; some = λ l. omega arith; bits = omega arith; few = omega arith; low = omega arith };
            same = rw back (sym (reading_words ∙ rw fewer at first));
            more = h.more;
          }

  -- the bits below the lowest that is set, of a word read
  pub skipped : {c : Run} {words rest left place : ℕ} → Reading c words rest left place → (rest ≡ 0 → ⊥) → rest < 2 ^ 64
      → (z : ℕ) → z ≡ count_trailing_zeros 64 rest
      → Passing rest left place (rest / 2 ^ z) (left - z) (place + 8 * z) × (rest / 2 ^ z % 2 ≡ 0 → ⊥) × (z < 64)
  skipped {c} {words} {rest} {left} {place} h some b z e =
      passing_all 64 rest left place b (passing_none rest left place (omega arith) h.standing.bits) z e

  -- passing over bits from there on ends at the next place
  pub passing_found : {c : Run} {words rest₀ left₀ place₀ rest left place : ℕ} → Reading c words rest₀ left₀ place₀ → (rest₀ ≡ 0 → ⊥)
      → Passing rest₀ left₀ place₀ rest left place → (rest % 2 ≡ 0 → ⊥)
      → Next f t c (record { words = words; rest = rest / 2; left = left - 1; at = place + 8; place = place })
  unfolding ahead
  passing_found {c} {words} {rest₀} {left₀} {place₀} {rest} {left} {place} h some p e =
      let v : Run = record { words = words; rest = rest / 2; left = left - 1; at = place + 8; place = place } in
      let s = h.standing in
      let low = s.low in
      let few = s.few in
      let read : 1 ≤ words = s.some (omega arith) in
      let l = passing_left p in
      let fewer = p.few in
      let end = p.end in
      let same : place₀ + 8 * left₀ ≡ place + 8 + 8 * (left - 1) = omega arith in
      let stands : Standing f t v = record {
        read = s.read;
        some = λ _. read;
        bits = half_bits left rest l p.bits;
        few = omega arith;
        low = omega arith;
      } in
      next_found c v (ahead f t v) read (sym h.same ∙ rw (← p.same, one_named left place rest l e, same)) (λ _. (stands, refl))
