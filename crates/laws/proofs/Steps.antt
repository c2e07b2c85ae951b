-- What a step of the descriptor reader that came out good has read.
-- Assumes nothing.
use Prim.Native.Nat.{ℕ, ◌/◌, ◌%◌, ◌≤◌}
use mathlib.Core.Path.{◌≡◌, refl}
use mathlib.Core.Bool.{Bool, true, false, cond}
use mathlib.Core.List.{List}
use mathlib.Core.Logic.{◌⊎◌, inl, inr}
use native.Mathlib.Omega.{arith}
use lib.ListN.{length}
use lib.Dec.{leb, ltb, eqb}
use borrow.Author.Tests.{leb-true, ltb-false, eqb-true, eqb-false}
use Rattle.rules.specs.Outcome.{good, require}
use Rattle.rules.specs.Limits.{address_limit, granule}
use Rattle.rules.specs.Descriptors.{Uleb, number, malformed, uleb_at, size_limit, short_at, Descriptor, saying, second, descriptor}
use Rattle.rules.specs.Descriptors.{Read, finished, end_after, said_after, global_after, read_at, step_at}
use Rattle.rules.specs.declared.Cursor.{Cursor}
use Rattle.rules.proofs.OutcomeLaws.{bad_good, and_then_good, require_held, cond_held}
use Rattle.laws.proofs.Checks.{good_same}

-- a descriptor's size is not 0
second_filled : (index distance : ℕ) (u : Uleb) (d : Descriptor) → second index distance u ≡ good d → 1 ≤ d.granules
unfolding second
second_filled index distance (number v next) d e = good_same (λ (d : Descriptor). 1 ≤ d.granules) _ d e (omega arith)
second_filled index distance malformed d e = bad_good e

descriptor_filled : (index : ℕ) (s : List ℕ) (u : Uleb) (d : Descriptor) → descriptor index s u ≡ good d → 1 ≤ d.granules
unfolding descriptor
descriptor_filled index s (number v next) d e = go (eqb (v % size_limit) 0) refl e
  where
    go : (b : Bool) → eqb (v % size_limit) 0 ≡ b
        → cond b (second index (v / size_limit) (uleb_at s next)) (good (saying (v / size_limit) (v % size_limit) next)) ≡ good d → 1 ≤ d.granules
    go true z e = second_filled index (v / size_limit) (uleb_at s next) d e
    go false z e =
        let some = eqb-false (v % size_limit) 0 z in
        good_same (λ (d : Descriptor). 1 ≤ d.granules) _ d e (omega arith)
descriptor_filled index s malformed d e = bad_good e

-- a descriptor was read at a position, after an end: it reads, is in shortest form, and its global ends by 2^48
pub record Worded (index : ℕ) (s : List ℕ) (at end : ℕ) (r : Read) : Type 0 where
  pub said : Descriptor
  pub reads : descriptor index s (uleb_at s at) ≡ good said
  pub filled : 1 ≤ said.granules
  pub short : short_at s at ≡ true
  pub low : end_after end said ≤ address_limit
  pub found : said_after end said ≡ r

read_worded : (index : ℕ) (s : List ℕ) (at end : ℕ) (r : Read) → read_at index s at end ≡ good r → Worded index s at end r
unfolding read_at global_after
read_worded index s at end r e =
    let a = and_then_good (descriptor index s (uleb_at s at)) _ e in
    let d = a.value in
    let b = and_then_good (require (short_at s at) 16 index) (λ _. global_after index end d) a.rest in
    let q = cond_held _ (leb (end_after end d) address_limit) _ b.rest in
    record {
      said = d;
      reads = a.here;
      filled = descriptor_filled index s (uleb_at s at) d a.here;
      short = require_held (short_at s at) 16 index b.here;
      low = leb-true (end_after end d) address_limit q.0;
      found = good_same (λ (x : Read). said_after end d ≡ x) (said_after end d) r q.1 refl;
    }

-- a step that came out good: the cursor's end is whole granules by 2^48, and the table ends there, or a descriptor was read
pub record Kept (index : ℕ) (s : List ℕ) (c : Cursor) (r : Read) : Type 0 where
  pub within : c.position ≤ length s
  pub whole : c.end % granule ≡ 0
  pub low : c.end ≤ address_limit
  pub either : ((c.position ≡ length s) × (finished ≡ r)) ⊎ Worded index s c.position c.end r

pub step_kept : (index : ℕ) (s : List ℕ) (c : Cursor) (r : Read) → step_at index s c ≡ good r → Kept index s c r
unfolding step_at
step_kept index s c r h =
    let a = cond_held _ (leb c.position (length s)) _ h in
    let b = cond_held _ (eqb (c.end % granule) 0) _ a.1 in
    let d = cond_held _ (leb c.end address_limit) _ b.1 in
    let l = leb-true c.position (length s) a.0 in
    record {
      within = l;
      whole = eqb-true (c.end % granule) 0 b.0;
      low = leb-true c.end address_limit d.0;
      either = go (ltb c.position (length s)) refl l d.1;
    }
  where
    go : (t : Bool) → ltb c.position (length s) ≡ t → c.position ≤ length s
        → cond t (read_at index s c.position c.end) (good finished) ≡ good r
        → ((c.position ≡ length s) × (finished ≡ r)) ⊎ Worded index s c.position c.end r
    go true q l e = inr (read_worded index s c.position c.end r e)
    go false q l e =
        let k = ltb-false c.position (length s) q in
        inl (omega arith, good_same (λ (x : Read). finished ≡ x) finished r e refl)
