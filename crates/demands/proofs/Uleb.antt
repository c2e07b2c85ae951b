-- The rules read a ULEB128 number exactly where its bytes are one.
-- Assumes nothing.
use Prim.Native.Nat.{ℕ, zero, suc, ◌+◌, ◌*◌, ◌/◌, ◌%◌, ◌^◌, ◌≤◌, ◌<◌}
use mathlib.Core.Path.{◌≡◌, refl, sym}
use mathlib.Core.Bool.{Bool, true, false, cond}
use mathlib.Core.List.{List}
use native.Mathlib.Nat.{pow-suc, mul_comm, div-div-eq-div-mul, add-zero}
use native.Mathlib.Omega.{arith}
use lib.ListN.{length, get_or}
use lib.Dec.{ltb}
use borrow.Author.Tests.{ltb-true, ltb-false, lt-ltb, le-ltb}
use Rattle.rules.specs.Descriptors.{Uleb, number, malformed, extend, last_limit, uleb_in}
use Rattle.demands.specs.Uleb.{UlebClaim}

-- the same with at most n bytes
record Spelled (n : ℕ) (s : List ℕ) (at v next : ℕ) : Type 0 where
  count : ℕ
  some : 1 ≤ count
  few : count ≤ n
  ends : next ≡ at + count
  inside : next ≤ length s
  followed : (i : ℕ) → i + 1 < count → 128 ≤ get_or s (at + i) 0
  last : (i : ℕ) → i + 1 ≡ count → get_or s (at + i) 0 < 128
  full : (i : ℕ) → i + 1 ≡ n → count ≡ n → get_or s (at + i) 0 < 2
  fits : v < 128 ^ count
  digits : (i : ℕ) → i < count → v / 128 ^ i % 128 ≡ get_or s (at + i) 0 % 128

not_number : {P : Type 0} {v next : ℕ} → malformed ≡ number v next → P
not_number e = absurd (let z : ◌≡◌ {A = ℕ} 0 1 = cc in omega arith)

-- a digit above the first is one of the number without it
digit_up : (v i : ℕ) → v / 128 ^ suc i ≡ v / 128 / 128 ^ i
digit_up v i = rw (pow-suc 128 i, mul_comm (128 ^ i) 128) (sym (div-div-eq-div-mul v 128 (128 ^ i)))

module _ (s : List ℕ) (at : ℕ) where
  -- the first byte
  abbrev B : ℕ
  B = get_or s at 0

  at_first : (i : ℕ) → i ≡ 0 → get_or s (at + i) 0 ≡ B
  at_first i e = rw (e, add-zero)

  at_next : (i : ℕ) → get_or s (at + suc i) 0 ≡ get_or s (at + 1 + i) 0
  at_next i = let e : at + suc i ≡ at + 1 + i = omega arith in rw e

  -- one byte
  single : (n : ℕ) → at < length s → B < 128 → B < last_limit n → Spelled (suc n) s at (B % 128) (at + 1)
  single n l u t = record {
    count = 1;
    some = omega arith;
    few = omega arith;
    ends = refl;
    inside = omega arith;
    followed = λ i h. absurd (omega arith);
    last = λ i h. rw (at_first i (omega arith)) u;
    full = λ i h k. rw (at_first i (omega arith)) (limit n (omega arith) t);
    fits = omega arith;
    digits = λ i h. let z : i ≡ 0 = omega arith in rw (at_first i z, z) (omega arith);
  }
    where
      limit : (n : ℕ) → n ≡ 0 → B < last_limit n → B < 2
      limit zero e t = t
      limit (suc n) e t = absurd (omega arith)

  -- one byte more at the low end
  module _ (n w next : ℕ) (u : 128 ≤ B) (r : Spelled n s (at + 1) w next) where
    followed_up : (i : ℕ) → i + 1 < suc r.count → 128 ≤ get_or s (at + i) 0
    followed_up zero h = rw (at_first zero refl) u
    followed_up (suc i) h = rw (at_next i) (r.followed i (omega arith))

    last_up : (i : ℕ) → i + 1 ≡ suc r.count → get_or s (at + i) 0 < 128
    last_up zero h = let l = r.some in absurd (omega arith)
    last_up (suc i) h = rw (at_next i) (r.last i (omega arith))

    full_up : (i : ℕ) → i + 1 ≡ suc n → suc r.count ≡ suc n → get_or s (at + i) 0 < 2
    full_up zero h k = let l = r.some in absurd (omega arith)
    full_up (suc i) h k = rw (at_next i) (r.full i (omega arith) (omega arith))

    digits_up : (i : ℕ) → i < suc r.count → (B % 128 + 128 * w) / 128 ^ i % 128 ≡ get_or s (at + i) 0 % 128
    digits_up zero h = rw (at_first zero refl) (omega arith)
    digits_up (suc i) h =
        let z : (B % 128 + 128 * w) / 128 ≡ w = omega arith in
        rw (digit_up (B % 128 + 128 * w) i, z, at_next i) (r.digits i (omega arith))

    longer : Spelled (suc n) s at (B % 128 + 128 * w) next
    longer = record {
      count = suc r.count;
      some = omega arith;
      few = let l = r.few in omega arith;
      ends = let e = r.ends in omega arith;
      inside = r.inside;
      followed = followed_up;
      last = last_up;
      full = full_up;
      fits = let l = r.fits in rw (pow-suc 128 r.count) (omega arith);
      digits = digits_up;
    }

  -- without its first byte
  module _ (n v next k : ℕ) (r : Spelled (suc n) s at v next) (c : r.count ≡ suc (suc k)) where
    shorter : Spelled n s (at + 1) (v / 128) next
    shorter = record {
      count = suc k;
      some = omega arith;
      few = let l = r.few in omega arith;
      ends = let e = r.ends in omega arith;
      inside = r.inside;
      followed = λ i h. rw (← at_next i) (r.followed (suc i) (omega arith));
      last = λ i h. rw (← at_next i) (r.last (suc i) (omega arith));
      full = λ i h e. rw (← at_next i) (r.full (suc i) (omega arith) (omega arith));
      fits =
          let l = r.fits in
          let p : 128 ^ r.count ≡ 128 ^ suc k * 128 = rw c (pow-suc 128 (suc k)) in
          omega arith;
      digits = λ i h. rw (← digit_up v i, ← at_next i) (r.digits (suc i) (omega arith));
    }

-- ---- both ways, by the number of bytes

read_spelled : (n : ℕ) (s : List ℕ) (at v next : ℕ) → uleb_in n s at ≡ number v next → Spelled n s at v next
unfolding uleb_in
read_spelled zero s at v next e = not_number e
read_spelled (suc n) s at v next e =
    go (ltb at (length s)) refl (ltb (get_or s at 0) 128) refl (ltb (get_or s at 0) (last_limit n)) refl (uleb_in n s (at + 1)) refl
    (λ w m q. read_spelled n s (at + 1) w m q) e
  where
    go : (a : Bool) → ltb at (length s) ≡ a → (c : Bool) → ltb (get_or s at 0) 128 ≡ c → (d : Bool) → ltb (get_or s at 0) (last_limit n) ≡ d
        → (r : Uleb) → uleb_in n s (at + 1) ≡ r → ((w m : ℕ) → uleb_in n s (at + 1) ≡ number w m → Spelled n s (at + 1) w m)
        → cond a (cond c (cond d (number (get_or s at 0 % 128) (at + 1)) malformed) (extend (get_or s at 0 % 128) r)) malformed ≡ number v next
        → Spelled (suc n) s at v next
    go false p c q d t r u rest e = not_number e
    go true p true q false t r u rest e = not_number e
    go true p true q true t r u rest e =
        let x : get_or s at 0 % 128 ≡ v = cc in
        let y : at + 1 ≡ next = cc in
        rw (← x, ← y) (single s at n (ltb-true _ _ p) (ltb-true _ _ q) (ltb-true _ _ t))
    go true p false q d t malformed u rest e = not_number e
    go true p false q d t (number w m) u rest e =
        let x : get_or s at 0 % 128 + 128 * w ≡ v = cc in
        let y : m ≡ next = cc in
        rw (← x, ← y) (longer s at n w m (ltb-false _ _ q) (rest w m u))

spelled_read : (n : ℕ) (s : List ℕ) (at v next : ℕ) → Spelled n s at v next → uleb_in n s at ≡ number v next
unfolding uleb_in
spelled_read zero s at v next r = let a = r.some in let b = r.few in absurd (omega arith)
spelled_read (suc n) s at v next r =
    let few = r.some in
    let e = r.ends in
    let i = r.inside in
    rw (lt-ltb at (length s) (omega arith)) (go r.count refl (λ x. spelled_read n s (at + 1) (v / 128) next x))
  where
    -- the first digit
    low : v % 128 ≡ get_or s at 0 % 128
    low =
        let d = r.digits 0 r.some in
        let z = at_first s at 0 refl in
        rw z at (lowest v _ d)
      where
        lowest : (v d : ℕ) → v / 128 ^ 0 % 128 ≡ d → v % 128 ≡ d
        lowest v d e = omega arith

    limited : (n : ℕ) → (n ≡ 0 → get_or s at 0 < 2) → get_or s at 0 < 128 → get_or s at 0 < last_limit n
    limited zero two last = two refl
    limited (suc n) two last = last

    go : (c : ℕ) → r.count ≡ c → (Spelled n s (at + 1) (v / 128) next → uleb_in n s (at + 1) ≡ number (v / 128) next)
        → cond (ltb (get_or s at 0) 128) (cond (ltb (get_or s at 0) (last_limit n)) (number (get_or s at 0 % 128) (at + 1)) malformed)
        (extend (get_or s at 0 % 128) (uleb_in n s (at + 1))) ≡ number v next
    go zero c rest = let l = r.some in absurd (omega arith)
    go (suc zero) c rest =
        let z = at_first s at 0 refl in
        let last : get_or s at 0 < 128 = rw z at (r.last 0 (omega arith)) in
        let two : n ≡ 0 → get_or s at 0 < 2 = λ q. rw z at (r.full 0 (omega arith) (omega arith)) in
        let p : 128 ^ r.count ≡ 128 = rw c in
        let f = r.fits in
        let e = r.ends in
        let x : get_or s at 0 % 128 ≡ v = let d = low in omega arith in
        let y : at + 1 ≡ next = omega arith in
        rw (lt-ltb (get_or s at 0) 128 last, lt-ltb (get_or s at 0) (last_limit n) (limited n two last), x, y)
    go (suc (suc k)) c rest =
        let z = at_first s at 0 refl in
        let more : 128 ≤ get_or s at 0 = rw z at (r.followed 0 (omega arith)) in
        let x : get_or s at 0 % 128 + 128 * (v / 128) ≡ v = let d = low in omega arith in
        rw (le-ltb (get_or s at 0) 128 more, rest (shorter s at n v next k r c), x)

pub uleb : UlebClaim
uleb s at v next = (
  λ e.
      let r = read_spelled 10 s at v next e in
      record {
        count = r.count;
        some = r.some;
        few = r.few;
        ends = r.ends;
        inside = r.inside;
        followed = r.followed;
        last = r.last;
        tenth = λ q. r.full 9 refl q;
        fits = r.fits;
        digits = r.digits;
      },
  λ r.
      spelled_read 10 s at v next
      (record {
        count = r.count;
        some = r.some;
        few = r.few;
        ends = r.ends;
        inside = r.inside;
        followed = r.followed;
        last = r.last;
        full = λ i h q. let z : i ≡ 9 = omega arith in rw z (r.tenth q);
        fits = r.fits;
        digits = r.digits;
      }),
)
