-- ULEB128 numbers in a table: the bytes that are written of a number read as that number, and a number that is not padded stands in those bytes.
-- Assumes nothing.
use Prim.Native.Nat.{ℕ, zero, suc, ◌+◌, ◌*◌, ◌-◌, ◌/◌, ◌%◌, ◌^◌, ◌≤◌, ◌<◌}
use mathlib.Core.Path.{◌≡◌, sym, ap, ◌∙◌, subst}
use mathlib.Core.Bool.{true, false, not}
use mathlib.Core.List.{List, ◌∷◌, ◌++◌}
use mathlib.Core.Logic.{⊎_elim}
use native.Mathlib.Nat.{pow-suc, pow-le-pow_right}
use native.Mathlib.Numerals.{add-one}
use native.Mathlib.Omega.{arith}
use lib.ListN.{length, get_or, drop, length-drop}
use lib.Seq.{drop-cons, drop-drop, drop-append_seam}
use lib.Dec.{ltb, eqb}
use borrow.Author.Tests.{ltb-true, ltb-false, lt-ltb, le-ltb, eqb-true, eqb-false, not-true, not-false}
use Rattle.rules.specs.Descriptors.{Uleb, number, malformed, extend, last_limit, uleb_in, uleb_at, padded}
use Rattle.rules.specs.Writer.{uleb_bytes, uleb}
use Rattle.rules.proofs.UlebLaws.{at_last, at_more, at_tenth, Stands, uleb_stands}
use Rattle.rules.proofs.BoolLaws.{cond_case}
use Rattle.rules.proofs.OutcomeLaws.{and_left, and_right}
use Rattle.laws.proofs.Checks.{le_or_lt, and_false}
use Rattle.laws.proofs.Encoding.{uleb_last, uleb_more}

-- ---- padded or not

-- a number of more than one byte does not end in 0
abbrev pub Tight : List ℕ → ℕ → ℕ → Type 0
Tight s at next = at + 1 < next → 0 < get_or s (next - 1) 0

pub unpadded_tight : (s : List ℕ) (at next : ℕ) → not (padded s at next) ≡ true → Tight s at next
unpadded_tight s at next h l =
    let e = and_false (ltb (at + 1) next) (eqb (get_or s (next - 1) 0) 0) (not-true (padded s at next) h) (lt-ltb (at + 1) next l) in
    let q = eqb-false (get_or s (next - 1) 0) 0 e in
    omega arith

pub padded_loose : (s : List ℕ) (at next : ℕ) → not (padded s at next) ≡ false → (at + 1 < next) × (get_or s (next - 1) 0 ≡ 0)
padded_loose s at next h =
    let p = not-false (padded s at next) h in
    (ltb-true (at + 1) next (and_left (ltb (at + 1) next) _ p), eqb-true (get_or s (next - 1) 0) 0 (and_right (ltb (at + 1) next) _ p))

-- ---- what is written reads so

byte_drop : (s : List ℕ) (at : ℕ) → at < length s → drop at s ≡ get_or s at 0 ∷ drop (at + 1) s
byte_drop s at l = rw add-one (drop-cons s at 0 l)

-- past the front of what is left
pub drop_past : (s : List ℕ) (at : ℕ) (t post : List ℕ) → drop at s ≡ t ++ post → drop (at + length t) s ≡ post
drop_past s at t post h = sym (drop-drop (length t) at s) ∙ (ap (λ (l : List ℕ). drop (length t) l) h ∙ drop-append_seam t post)

-- a byte stands at a position, and the rest after it
record Byte (s : List ℕ) (at b : ℕ) (rest : List ℕ) : Type 0 where
  within : at < length s
  here : get_or s at 0 ≡ b
  after : drop (at + 1) s ≡ rest

drop_byte : (s : List ℕ) (at b : ℕ) (rest : List ℕ) → drop at s ≡ b ∷ rest → Byte s at b rest
drop_byte s at b rest h =
    let n : length (drop at s) ≡ suc (length rest) = rw h in
    let l : at < length s = omega (arith, length-drop at s) in
    let e : get_or s at 0 ∷ drop (at + 1) s ≡ b ∷ rest = sym (byte_drop s at l) ∙ h in
    record { within = l; here = cc; after = cc }

module _ (n : ℕ) (s : List ℕ) (at v : ℕ) (rest : List ℕ) where
  -- a number of one byte, with n bytes allowed after it
  last_reads : v < 2 * 128 ^ n → v < 128 → Byte s at v rest → uleb_in (suc n) s at ≡ number v (at + 1)
  last_reads l h b =
      let e = b.here in
      let d : get_or s at 0 % 128 ≡ v = omega arith in
      go n l (λ (k : ℕ) m. at_last s at k m b.within (omega arith)) (λ m. at_tenth s at b.within (omega arith))
      ∙ ap (λ (x : ℕ). number x (at + 1)) d
    where
      go : (n : ℕ) → v < 2 * 128 ^ n → ((k : ℕ) → 1 < k → uleb_in k s at ≡ number (get_or s at 0 % 128) (at + 1))
          → (v < 2 → uleb_in 1 s at ≡ number (get_or s at 0 % 128) (at + 1)) → uleb_in (suc n) s at ≡ number (get_or s at 0 % 128) (at + 1)
      go zero l last tenth = tenth (omega arith)
      go (suc n) l last tenth = last (suc (suc n)) (omega arith)

  -- of more
  more_reads : (next : ℕ) → 1 ≤ n → 128 ≤ v → Byte s at (v % 128 + 128) rest → uleb_in n s (at + 1) ≡ number (v / 128) next
      → uleb_in (suc n) s at ≡ number v next
  more_reads next l h b again =
      let e = b.here in
      let d : get_or s at 0 % 128 + 128 * (v / 128) ≡ v = omega arith in
      let k : suc n - 1 ≡ n = omega arith in
      at_more s at (suc n) (omega arith) b.within (omega arith)
      ∙ rw k (ap (λ (u : Uleb). extend (get_or s at 0 % 128) u) again ∙ ap (λ (x : ℕ). number x next) d)

bytes_reads : (n : ℕ) (s : List ℕ) (at v : ℕ) (post : List ℕ) → v < 2 * 128 ^ n → v < 2 ^ 64 → drop at s ≡ uleb v ++ post
    → uleb_in (suc n) s at ≡ number v (at + length (uleb v))
bytes_reads zero s at v post l m h =
    let e = uleb_last v (omega arith) in
    rw e (last_reads 0 s at v post l (omega arith) (drop_byte s at v post (rw e at h)))
bytes_reads (suc n) s at v post l m h =
    ⊎_elim (λ q. more q (bytes_reads n s (at + 1) (v / 128) post)) (λ q. last q) (le_or_lt 128 v)
  where
    last : v < 128 → uleb_in (suc (suc n)) s at ≡ number v (at + length (uleb v))
    last q = rw (uleb_last v q) (last_reads (suc n) s at v post l q (drop_byte s at v post (rw (uleb_last v q) at h)))

    more : 128 ≤ v
        → (v / 128 < 2 * 128 ^ n → v / 128 < 2 ^ 64 → drop (at + 1) s ≡ uleb (v / 128) ++ post
        → uleb_in (suc n) s (at + 1) ≡ number (v / 128) (at + 1 + length (uleb (v / 128))))
        → uleb_in (suc (suc n)) s at ≡ number v (at + length (uleb v))
    more q again =
        let w = uleb_more v q m in
        let b = drop_byte s at (v % 128 + 128) (uleb (v / 128) ++ post) (rw w at h) in
        let k : v < 2 * (128 ^ n * 128) = rw (← pow-suc) l in
        let x = more_reads (suc n) s at v _ _ (omega arith) q b (again (omega arith) (omega arith) b.after) in
        let p : at + length (uleb v) ≡ at + 1 + length (uleb (v / 128)) = rw w (omega arith) in
        rw p x

-- a number reads from its written bytes
pub uleb_spelt : (s : List ℕ) (at v : ℕ) (post : List ℕ) → v < 2 ^ 64 → drop at s ≡ uleb v ++ post
    → uleb_at s at ≡ number v (at + length (uleb v))
uleb_spelt s at v post l h = bytes_reads 9 s at v post (omega arith) l h

-- a number that is read is below 2^64: seven bits a byte, and one in the tenth
abbrev Below : ℕ → Uleb → Type 0
Below n (number v next) = v < 2 * 128 ^ n
Below n malformed = Unit

extend_below : (n low : ℕ) (u : Uleb) → low < 128 → Below n u → Below (suc n) (extend low u)
extend_below n low (number v next) l h = let e : 128 ^ suc n ≡ 128 ^ n * 128 = pow-suc 128 n in omega arith
extend_below n low malformed l h = tt

last_below : (n b : ℕ) → b < 128 → b < last_limit n → b % 128 < 2 * 128 ^ n
last_below zero b h l = omega arith
last_below (suc n) b h l =
    let e : 128 ^ suc n ≡ 128 ^ n * 128 = pow-suc 128 n in
    let below : 0 ≤ n = omega arith in
    let p : 128 ^ 0 ≤ 128 ^ n = pow-le-pow_right {n = 128} (omega arith) below in
    omega arith

head_below : (n : ℕ) (s : List ℕ) (at : ℕ) → Below n (extend (get_or s at 0 % 128) (uleb_in n s (at + 1))) → Below n (uleb_in (suc n) s at)
unfolding uleb_in
head_below n s at rest =
    cond_case (λ (u : Uleb). Below n u) (ltb at (length s)) _ _
    (λ _. cond_case (λ (u : Uleb). Below n u) (ltb (get_or s at 0) 128) _ _
    (λ b. cond_case (λ (u : Uleb). Below n u) (ltb (get_or s at 0) (last_limit n)) _ _
    (λ l. last_below n (get_or s at 0) (ltb-true (get_or s at 0) 128 b) (ltb-true (get_or s at 0) (last_limit n) l)) (λ _. tt))
    (λ _. rest))
    (λ _. tt)

uleb_below : (n : ℕ) (s : List ℕ) (at : ℕ) → Below n (uleb_in (suc n) s at)
unfolding uleb_in
uleb_below zero s at = head_below 0 s at tt
uleb_below (suc n) s at =
    let rest = uleb_below n s (at + 1) in
    head_below (suc n) s at (extend_below n (get_or s at 0 % 128) (uleb_in (suc n) s (at + 1)) (omega arith) rest)

pub number_below : (s : List ℕ) (at v next : ℕ) → uleb_at s at ≡ number v next → v < 2 ^ 64
number_below s at v next e = let h = subst (λ (u : Uleb). Below 9 u) e (uleb_below 9 s at) in omega arith

-- ---- what is read is written so

-- of a number of at most n bytes: where it is 0 its last byte is 0; and where it is not padded it stands in its written bytes
abbrev Respelt : ℕ → List ℕ → ℕ → Uleb → Type 0
Respelt n s at (number v next) = (0 < get_or s (next - 1) 0 → 0 < v) × (Tight s at next → drop at s ≡ uleb_bytes n v ++ drop next s)
Respelt n s at malformed = Unit

module _ (s : List ℕ) (n at : ℕ) (within : at < length s) where
  last_respelt : get_or s at 0 < 128 → Respelt (suc n) s at (number (get_or s at 0 % 128) (at + 1))
  unfolding uleb_bytes
  last_respelt l =
      let e : get_or s at 0 % 128 ≡ get_or s at 0 = omega arith in
      let k : at + 1 - 1 ≡ at = omega arith in
      (rw (k, e) (λ h. h), λ _. rw (e, lt-ltb (get_or s at 0) 128 l) (byte_drop s at within))

  more_respelt : (u : Uleb) → 128 ≤ get_or s at 0 → get_or s at 0 < 256 → Stands (at + 1) (length s) n u → Respelt n s (at + 1) u
      → Respelt (suc n) s at (extend (get_or s at 0 % 128) u)
  unfolding uleb_bytes
  more_respelt malformed l m stands again = tt
  more_respelt (number v next) l m stands again = (
    λ h. let z = again.0 h in omega arith,
    λ tight.
        let last = tight stands.0 in
        let z = again.0 last in
        let w = get_or s at 0 % 128 + 128 * v in
        let e : w % 128 + 128 ≡ get_or s at 0 = omega arith in
        let f : w / 128 ≡ v = omega arith in
        rw (le-ltb w 128 (omega arith), e, f, byte_drop s at within, again.1 (λ _. last)),
  )

module _ (s : List ℕ) (bytes : (i : ℕ) → get_or s i 0 < 256) where
  reads_bytes : (n at : ℕ) → Respelt n s at (uleb_in n s at)
  unfolding uleb_in
  reads_bytes zero at = tt
  reads_bytes (suc n) at =
      let again = reads_bytes n (at + 1) in
      cond_case (λ (u : Uleb). Respelt (suc n) s at u) (ltb at (length s)) _ _
      (λ q.
      let within = ltb-true at (length s) q in
      cond_case (λ (u : Uleb). Respelt (suc n) s at u) (ltb (get_or s at 0) 128) _ _
      (λ b. cond_case (λ (u : Uleb). Respelt (suc n) s at u) (ltb (get_or s at 0) (last_limit n)) _ _
      (λ _. last_respelt s n at within (ltb-true (get_or s at 0) 128 b)) (λ _. tt))
      (λ b. more_respelt s n at within (uleb_in n s (at + 1)) (ltb-false (get_or s at 0) 128 b) (bytes at) (uleb_stands s n (at + 1)) again))
      (λ _. tt)

  pub uleb_respelt : (at v next : ℕ) → uleb_at s at ≡ number v next → Tight s at next → drop at s ≡ uleb v ++ drop next s
  uleb_respelt at v next e tight = (subst (λ (u : Uleb). Respelt 10 s at u) e (reads_bytes 10 at)).1 tight
