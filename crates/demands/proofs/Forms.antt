-- What bytes say is what the reader reads of them; and a descriptor is in shortest form exactly where no fewer bytes say the same.
-- Assumes nothing.
use Prim.Native.Nat.{ℕ, ◌+◌, ◌*◌, ◌-◌, ◌/◌, ◌%◌, ◌^◌, ◌≤◌, ◌<◌}
use mathlib.Core.Path.{◌≡◌, refl, sym}
use mathlib.Core.Bool.{Bool, true, false, cond}
use mathlib.Core.List.{List, [], ◌++◌, append_assoc, append-nil}
use mathlib.Core.Logic.{⊎_elim}
use native.Mathlib.Nat.{add_assoc}
use native.Mathlib.Omega.{arith}
use lib.ListN.{length, drop, length-append}
use lib.Dec.{eqb}
use borrow.Author.Tests.{lt-ltb, le-ltb, eqb-true, eqb-false, ne_eqb}
use Rattle.rules.specs.Outcome.{good, bad, refusal, Refusal}
use Rattle.rules.specs.Descriptors.{Uleb, number, malformed, uleb_at, size_limit, short_at, Descriptor, saying, second, descriptor}
use Rattle.rules.specs.Writer.{uleb, descriptor_of}
use Rattle.rules.proofs.OutcomeLaws.{good_bad, bad_good}
use Rattle.rules.proofs.UlebLaws.{Past, number_stands}
use Rattle.laws.proofs.Checks.{good_same, le_or_lt}
use Rattle.demands.specs.Steps.{Says, in_one, in_two, Shorter}
use Rattle.demands.proofs.Spelling.{drop_past, uleb_spelt, number_below}
use Rattle.demands.proofs.Fewest.{written_end, says_fewest, says_short, says_long}

-- ---- what is read

module _ (index : ℕ) (s : List ℕ) (at : ℕ) where
  second_says : (v after : ℕ) (u : Uleb) (d : Descriptor) → uleb_at s at ≡ number v after → v % size_limit ≡ 0 → uleb_at s after ≡ u
      → second index (v / size_limit) u ≡ good d → Says s at d
  unfolding second
  second_says v after (number w next) d q z more e =
      let k : size_limit * (v / size_limit) ≡ v = omega arith in
      good_same (λ (d : Descriptor). Says s at d) (saying (v / size_limit) (w + 1) next) d e (in_two after w (rw k q) more refl)
  second_says v after malformed d q z more e = bad_good e

  descriptor_says : (u : Uleb) (d : Descriptor) → uleb_at s at ≡ u → descriptor index s u ≡ good d → Says s at d
  unfolding descriptor
  descriptor_says malformed d q e = bad_good e
  descriptor_says (number v next) d q e = go (eqb (v % size_limit) 0) refl e
    where
      go : (b : Bool) → eqb (v % size_limit) 0 ≡ b
          → cond b (second index (v / size_limit) (uleb_at s next)) (good (saying (v / size_limit) (v % size_limit) next)) ≡ good d → Says s at d
      go true z e = second_says v next (uleb_at s next) d q (eqb-true (v % size_limit) 0 z) refl e
      go false z e =
          let some = eqb-false (v % size_limit) 0 z in
          let k : size_limit * (v / size_limit) + v % size_limit ≡ v = omega arith in
          good_same (λ (d : Descriptor). Says s at d) (saying (v / size_limit) (v % size_limit) next) d e (in_one (rw k q) (omega arith) (omega arith))

  pub read_says : (d : Descriptor) → descriptor index s (uleb_at s at) ≡ good d → Says s at d
  read_says d e = descriptor_says (uleb_at s at) d refl e

  pub says_read : (d : Descriptor) → Says s at d → descriptor index s (uleb_at s at) ≡ good d
  unfolding descriptor second
  says_read d (in_one read some few) =
      let v = size_limit * d.distance + d.granules in
      let q : v / size_limit ≡ d.distance = omega arith in
      let m : v % size_limit ≡ d.granules = omega arith in
      rw (read, q, m, ne_eqb d.granules 0 (λ z. omega arith))
  says_read d (in_two after less read more size) =
      let v = size_limit * d.distance in
      let q : v / size_limit ≡ d.distance = omega arith in
      let m : v % size_limit ≡ 0 = omega arith in
      rw (read, q, m, more, ← size)

  second_unread : {r : Refusal} (distance : ℕ) (u : Uleb) → second index distance u ≡ bad r → r ≡ refusal 8 index
  unfolding second
  second_unread distance (number w next) e = good_bad e
  second_unread distance malformed e = cc

  pub unread_eight : {r : Refusal} (u : Uleb) → descriptor index s u ≡ bad r → r ≡ refusal 8 index
  unfolding descriptor
  unread_eight malformed e = cc
  unread_eight {r} (number v next) e = go (eqb (v % size_limit) 0) e
    where
      go : (b : Bool) → cond b (second index (v / size_limit) (uleb_at s next)) (good (saying (v / size_limit) (v % size_limit) next)) ≡ bad r
          → r ≡ refusal 8 index
      go true e = second_unread (v / size_limit) (uleb_at s next) e
      go false e = good_bad e

-- two numbers of ten bytes at most
pub says_past : (s : List ℕ) (at : ℕ) (d : Descriptor) → Says s at d → Past at (length s) 20 d.next
says_past s at d (in_one read some few) =
    let p = number_stands s at (size_limit * d.distance + d.granules) d.next read in
    (p.0, (p.1.0, omega arith))
says_past s at d (in_two after less read more size) =
    let p = number_stands s at (size_limit * d.distance) after read in
    let q = number_stands s after less d.next more in
    (omega arith, (q.1.0, omega arith))

-- ---- what is written

-- the written bytes say what they are written of
pub descriptor_spelt : (s : List ℕ) (at distance granules : ℕ) (post : List ℕ) → 1 ≤ granules
    → size_limit * distance < 2 ^ 64 → granules ≤ 2 ^ 64 → drop at s ≡ descriptor_of distance granules ++ post
    → Says s at (saying distance granules (at + length (descriptor_of distance granules)))
descriptor_spelt s at distance granules post some near few h = ⊎_elim two one (le_or_lt size_limit granules)
  where
    one : granules < size_limit → Says s at (saying distance granules (at + length (descriptor_of distance granules)))
    one l =
        let t = lt-ltb granules size_limit l in
        in_one (rw t (uleb_spelt s at (size_limit * distance + granules) post (omega arith) (rw t at h))) some l

    two : size_limit ≤ granules → Says s at (saying distance granules (at + length (descriptor_of distance granules)))
    two l =
        let v = size_limit * distance in
        let t = le-ltb granules size_limit l in
        let e : drop at s ≡ uleb v ++ (uleb (granules - 1) ++ post) = rw (t, append_assoc) at h in
        let after = at + length (uleb v) in
        let more = uleb_spelt s after (granules - 1) post (omega arith) (drop_past s at (uleb v) _ e) in
        let sum = add_assoc at (length (uleb v)) (length (uleb (granules - 1))) in
        in_two after (granules - 1) (uleb_spelt s at v _ near e) (rw (t, length-append, ← sum) more) (omega arith)

-- ---- the fewest

module _ (s : List ℕ) (at : ℕ) (d : Descriptor) (says : Says s at d) where
  -- what is said can be written
  writable : (1 ≤ d.granules) × ((size_limit * d.distance < 2 ^ 64) × (d.granules ≤ 2 ^ 64))
  writable = go says
    where
      go : Says s at d → (1 ≤ d.granules) × ((size_limit * d.distance < 2 ^ 64) × (d.granules ≤ 2 ^ 64))
      go (in_one read some few) = let b = number_below s at _ _ read in (some, (omega arith, omega arith))
      go (in_two after less read more size) =
          let a = number_below s at _ _ read in
          let b = number_below s after _ _ more in
          (omega arith, (a, omega arith))

  -- in the bytes that are written of it
  longer_shorter : written_end at d < d.next → Shorter at d
  longer_shorter l =
      let t = descriptor_of d.distance d.granules in
      let w = writable in
      record {
        table = t;
        position = 0;
        other = saying d.distance d.granules (0 + length t);
        says = descriptor_spelt t 0 d.distance d.granules [] w.0 w.1.0 w.1.1 (sym (append-nil t));
        same_distance = refl;
        same_size = refl;
        fewer = omega arith;
      }

  shorter_longer : Shorter at d → written_end at d < d.next
  shorter_longer k =
      let f = says_fewest k.table k.position k.other k.says in
      let e : written_end k.position k.other ≡ k.position + length (descriptor_of d.distance d.granules) = rw (k.same_distance, k.same_size) in
      let l = k.fewer in
      omega arith

  pub long_shorter : short_at s at ≡ false → Shorter at d
  long_shorter h = longer_shorter (says_long s at d says h)

  pub short_shortest : short_at s at ≡ true → Shorter at d → ⊥
  short_shortest h k =
      let a = says_short s at d says h in
      let b = shorter_longer k in
      omega arith

  pub shorter_long : Shorter at d → short_at s at ≡ false
  shorter_long k = go (short_at s at) refl
    where
      go : (b : Bool) → short_at s at ≡ b → short_at s at ≡ false
      go true e = absurd (short_shortest e k)
      go false e = e

  pub shortest_short : (Shorter at d → ⊥) → short_at s at ≡ true
  shortest_short h = go (short_at s at) refl
    where
      go : (b : Bool) → short_at s at ≡ b → short_at s at ≡ true
      go true e = e
      go false e = absurd (h (long_shorter e))

  -- a descriptor of as many bytes as are written is in shortest form
  pub written_short : d.next ≡ written_end at d → short_at s at ≡ true
  written_short e = shortest_short (λ k. let l = shorter_longer k in omega arith)
