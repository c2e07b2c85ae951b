-- The bytes of a descriptor: in shortest form they are as many as are written of what it says, and in any other form more.
-- Assumes nothing.
use Prim.Native.Nat.{ℕ, zero, suc, ◌+◌, ◌*◌, ◌-◌, ◌/◌, ◌%◌, ◌≤◌, ◌<◌}
use mathlib.Core.Path.{◌≡◌, refl, subst}
use mathlib.Core.Bool.{Bool, true, false, not, ◌&&◌}
use mathlib.Core.List.{List}
use mathlib.Core.Logic.{⊎_elim}
use native.Mathlib.Omega.{arith}
use lib.ListN.{length, get_or, length-append}
use lib.Dec.{ltb}
use borrow.Author.Tests.{ltb-true, ltb-false, lt-ltb, le-ltb}
use Rattle.rules.specs.Descriptors.{Uleb, number, malformed, extend, last_limit, uleb_in, uleb_at, size_limit, padded, short_second, short_at, Descriptor}
use Rattle.rules.specs.Writer.{uleb_bytes, uleb, descriptor_of}
use Rattle.rules.proofs.BoolLaws.{cond_case}
use Rattle.rules.proofs.OutcomeLaws.{and_left, and_right, false_true}
use Rattle.rules.proofs.DescriptorLaws.{short_one, short_two, short_small, short_large}
use Rattle.laws.proofs.Checks.{le_or_lt}
use Rattle.laws.proofs.Encoding.{uleb_low}
use Rattle.demands.specs.Steps.{Says, in_one, in_two}
use Rattle.demands.proofs.Spelling.{Tight, unpadded_tight, padded_loose}

-- ---- a number

-- a number of at most n bytes takes no fewer than it is written in; as many where its last byte is not 0, and more where it is padded
record Measured (n : ℕ) (s : List ℕ) (at v next : ℕ) : Type 0 where
  past : at < next
  spans : at + length (uleb_bytes n v) ≤ next
  tight : Tight s at next → next ≤ at + length (uleb_bytes n v)
  loose : at + 1 < next → get_or s (next - 1) 0 ≡ 0 → at + length (uleb_bytes n v) < next
  some : 0 < get_or s (next - 1) 0 → 0 < v
  one : next ≡ at + 1 → v ≡ get_or s at 0

abbrev Measures : ℕ → List ℕ → ℕ → Uleb → Type 0
Measures n s at (number v next) = Measured n s at v next
Measures n s at malformed = Unit

-- of one byte
last_measured : (n : ℕ) (s : List ℕ) (at : ℕ) → get_or s at 0 < 128 → Measured (suc n) s at (get_or s at 0 % 128) (at + 1)
unfolding uleb_bytes
last_measured n s at l =
    let e : get_or s at 0 % 128 ≡ get_or s at 0 = omega arith in
    let k : at + 1 - 1 ≡ at = omega arith in
    let n₁ : length (uleb_bytes (suc n) (get_or s at 0 % 128)) ≡ 1 = rw (e, lt-ltb (get_or s at 0) 128 l) in
    record {
      past = omega arith;
      spans = omega arith;
      tight = λ _. omega arith;
      loose = λ q _. absurd (omega arith);
      some = rw (k, e) (λ q. q);
      one = λ _. e;
    }

-- of one more
module _ (n : ℕ) (s : List ℕ) (at low v next : ℕ) (small : low < 128) (rest : Measured n s (at + 1) v next) where
  -- how many bytes it is written in, by whether what stands above is 0
  more_length : (P : ℕ → Type 0) → (v ≡ 0 → P 1) → (0 < v → P (1 + length (uleb_bytes n v))) → P (length (uleb_bytes (suc n) (low + 128 * v)))
  unfolding uleb_bytes
  more_length P none some =
      let e : (low + 128 * v) / 128 ≡ v = omega arith in
      cond_case (λ (t : List ℕ). P (length t)) (ltb (low + 128 * v) 128) _ _
      (λ q. let l = ltb-true (low + 128 * v) 128 q in none (omega arith))
      (λ q.
      let l = ltb-false (low + 128 * v) 128 q in
      let k : suc (length (uleb_bytes n v)) ≡ 1 + length (uleb_bytes n v) = omega arith in
      rw (e, k) (some (omega arith)))

  more_loose : get_or s (next - 1) 0 ≡ 0 → 0 < v → at + (1 + length (uleb_bytes n v)) < next
  more_loose z q = ⊎_elim (λ l. let r = rest.loose (omega arith) z in omega arith) (λ l. absurd (last (omega arith))) (le_or_lt (at + 3) next)
    where
      last : next ≤ at + 2 → ⊥
      last l =
          let p = rest.past in
          let e : next ≡ at + 1 + 1 = omega arith in
          let k : next - 1 ≡ at + 1 = omega arith in
          let d = rest.one e in
          let y : get_or s (at + 1) 0 ≡ 0 = rw k at z in
          omega arith

  more_measured : Measured (suc n) s at (low + 128 * v) next
  more_measured =
      let p = rest.past in
      let a = rest.spans in
      record {
        past = omega arith;
        spans = more_length (λ (k : ℕ). at + k ≤ next) (λ _. omega arith) (λ _. omega arith);
        tight = λ t.
            let last = t p in
            let b = rest.tight (λ _. last) in
            let c = rest.some last in
            more_length (λ (k : ℕ). next ≤ at + k) (λ z. absurd (omega arith)) (λ _. omega arith);
        loose = λ _ z. more_length (λ (k : ℕ). at + k < next) (λ _. omega arith) (λ q. more_loose z q);
        some = λ q. let c = rest.some q in omega arith;
        one = λ e. absurd (omega arith);
      }

extend_measures : (n : ℕ) (s : List ℕ) (at low : ℕ) (u : Uleb) → low < 128 → Measures n s (at + 1) u → Measures (suc n) s at (extend low u)
extend_measures n s at low (number v next) l rest = more_measured n s at low v next l rest
extend_measures n s at low malformed l rest = tt

uleb_measures : (n : ℕ) (s : List ℕ) (at : ℕ) → Measures n s at (uleb_in n s at)
unfolding uleb_in
uleb_measures zero s at = tt
uleb_measures (suc n) s at =
    let again = uleb_measures n s (at + 1) in
    cond_case (λ (u : Uleb). Measures (suc n) s at u) (ltb at (length s)) _ _
    (λ _. cond_case (λ (u : Uleb). Measures (suc n) s at u) (ltb (get_or s at 0) 128) _ _
    (λ b. cond_case (λ (u : Uleb). Measures (suc n) s at u) (ltb (get_or s at 0) (last_limit n)) _ _
    (λ _. last_measured n s at (ltb-true (get_or s at 0) 128 b)) (λ _. tt))
    (λ _. extend_measures n s at (get_or s at 0 % 128) (uleb_in n s (at + 1)) (omega arith) again))
    (λ _. tt)

number_measured : (s : List ℕ) (at v next : ℕ) → uleb_at s at ≡ number v next → Measured 10 s at v next
number_measured s at v next e = subst (λ (u : Uleb). Measures 10 s at u) e (uleb_measures 10 s at)

-- ---- a descriptor

-- as many bytes as are written of what it says, or more
abbrev pub written_end : ℕ → Descriptor → ℕ
written_end at d = at + length (descriptor_of d.distance d.granules)

module _ (s : List ℕ) (at : ℕ) (d : Descriptor) where
  -- of one number
  module _ (read : uleb_at s at ≡ number (size_limit * d.distance + d.granules) d.next) (some : 1 ≤ d.granules) (few : d.granules < size_limit) where
    one : Measured 10 s at (size_limit * d.distance + d.granules) d.next
    one = number_measured s at (size_limit * d.distance + d.granules) d.next read

    pub one_form : short_at s at ≡ not (padded s at d.next)
    one_form = rw read (short_one s at (size_limit * d.distance + d.granules) d.next (λ q. omega arith))

    one_fewest : written_end at d ≤ d.next
    one_fewest = rw (lt-ltb d.granules size_limit few) one.spans

    one_short : short_at s at ≡ true → d.next ≤ written_end at d
    one_short h = rw (lt-ltb d.granules size_limit few) (one.tight (unpadded_tight s at d.next (rw one_form at h)))

    one_long : short_at s at ≡ false → written_end at d < d.next
    one_long h =
        let p = padded_loose s at d.next (rw one_form at h) in
        rw (lt-ltb d.granules size_limit few) (one.loose p.0 p.1)

  -- of two
  module _ (after less : ℕ) (read : uleb_at s at ≡ number (size_limit * d.distance) after) (more : uleb_at s after ≡ number less d.next)
      (size : d.granules ≡ less + 1) where
    first : Measured 10 s at (size_limit * d.distance) after
    first = number_measured s at (size_limit * d.distance) after read

    then : Measured 10 s after less d.next
    then = number_measured s after less d.next more

    pub two_form : short_at s at ≡ (not (padded s at after) && short_second s after (number less d.next))
    two_form = rw (read, ← more) (short_two s at (size_limit * d.distance) after (omega arith))

    -- a size below 8 is written in as many bytes as the first number has
    small-length : less + 1 < size_limit → length (descriptor_of d.distance d.granules) ≡ length (uleb (size_limit * d.distance))
    small-length l = rw (size, lt-ltb (less + 1) size_limit l) (uleb_low (size_limit * d.distance) (less + 1) (omega arith) l)

    large-length : size_limit ≤ less + 1
        → length (descriptor_of d.distance d.granules) ≡ length (uleb (size_limit * d.distance)) + length (uleb less)
    large-length l =
        let k : less + 1 - 1 ≡ less = omega arith in
        rw (size, le-ltb (less + 1) size_limit l, k, length-append)

    two_fewest : written_end at d ≤ d.next
    two_fewest =
        let a = first.spans in
        let b = then.spans in
        let p = then.past in
        ⊎_elim (λ l. rw (large-length l) (omega arith)) (λ l. rw (small-length l) (omega arith)) (le_or_lt size_limit (less + 1))

    two_short : short_at s at ≡ true → d.next ≤ written_end at d
    two_short h =
        let both : (not (padded s at after) && short_second s after (number less d.next)) ≡ true = rw two_form at h in
        let tight = first.tight (unpadded_tight s at after (and_left _ _ both)) in
        let second = and_right (not (padded s at after)) _ both in
        ⊎_elim
        (λ l.
        let e = then.tight (unpadded_tight s after d.next (rw (short_large s after less d.next l) at second)) in
        rw (large-length l) (omega arith))
        (λ l. false_true (rw (short_small s after less d.next l) at second))
        (le_or_lt size_limit (less + 1))

    two_long : short_at s at ≡ false → written_end at d < d.next
    two_long h =
        let a = first.spans in
        let b = then.spans in
        let p = then.past in
        ⊎_elim
        (λ l. rw (large-length l) (loose (padded s at after) refl (rw (two_form, short_large s after less d.next l) at h)))
        (λ l. rw (small-length l) (omega arith))
        (le_or_lt size_limit (less + 1))
      where
        loose : (t : Bool) → padded s at after ≡ t → (not t && not (padded s after d.next)) ≡ false
            → at + (length (uleb (size_limit * d.distance)) + length (uleb less)) < d.next
        loose true q e =
            let w = padded_loose s at after (rw q) in
            let a = first.loose w.0 w.1 in
            let b = then.spans in
            omega arith
        loose false q e =
            let w = padded_loose s after d.next e in
            let a = first.spans in
            let b = then.loose w.0 w.1 in
            omega arith

  pub says_fewest : Says s at d → written_end at d ≤ d.next
  says_fewest (in_one read some few) = one_fewest read some few
  says_fewest (in_two after less read more size) = two_fewest after less read more size

  pub says_short : Says s at d → short_at s at ≡ true → d.next ≤ written_end at d
  says_short (in_one read some few) = one_short read some few
  says_short (in_two after less read more size) = two_short after less read more size

  pub says_long : Says s at d → short_at s at ≡ false → written_end at d < d.next
  says_long (in_one read some few) = one_long read some few
  says_long (in_two after less read more size) = two_long after less read more size
