-- The loops of the writer: the checks and the length from an index on, and the bytes that are left to write.
-- Assumes nothing.
use Prim.Native.Nat.{ℕ, suc, ◌+◌, ◌*◌, ◌-◌, ◌/◌, ◌%◌, ◌^◌, ◌≤◌, ◌<◌}
use mathlib.Core.Path.{◌≡◌, sym, ap, ◌∙◌}
use mathlib.Core.Bool.{Bool, true, false, cond}
use mathlib.Core.List.{List, [], ◌++◌}
use native.Mathlib.Nat.{add_assoc}
use native.Mathlib.Numerals.{add-one}
use native.Mathlib.Omega.{arith}
use lib.ListN.{length, get_or, set, drop, length-append, drop_of_length-le}
use borrow.Author.Tests.{lt-ltb, le-ltb}
use Rattle.std.specs.Prelude.{Ok, Err}
use Rattle.rules.specs.Outcome.{good, refuse, and_then}
use Rattle.rules.specs.Answers.{list_number_of}
use Rattle.rules.specs.declared.ListReason.{ListReason}
use Rattle.rules.specs.Checks.{runs}
use Rattle.rules.specs.Limits.{address_limit}
use Rattle.rules.specs.Memory.{put}
use Rattle.rules.specs.Descriptors.{size_limit}
use Rattle.rules.specs.Writer.{uleb, descriptor_of, descriptor_after, table_from, table_of, listed_checks, list_check}
use Rattle.rules.proofs.MemoryLaws.{put-nil, put-cons, put-length, put-append}
use Rattle.laws.proofs.Encoding.{uleb_last, uleb_more, uleb_low}
use Rattle.laws.proofs.Listed.{Listed, listed_good, listed_short, check_at, table_at, passed_at}
use Rattle.writer.specs.Faults.{Judgement, Judged, measured}

-- ---- a number

-- one byte is behind
pub length_last : (v : ℕ) → v < 128 → length (uleb v) ≡ 1
length_last v h = rw (uleb_last v h)

pub length_more : (v : ℕ) → 128 ≤ v → v < 2 ^ 64 → length (uleb v) ≡ 1 + length (uleb (v / 128))
length_more v h l = rw (uleb_more v h l) (omega arith)

-- and is written
pub put_last : (b : List ℕ) (at v : ℕ) → v < 128 → put b at (uleb v) ≡ set b at v
put_last b at v h = rw (uleb_last v h) (put-cons b at v [] ∙ put-nil (set b at v) (suc at))

pub put_more : (b : List ℕ) (at v : ℕ) → 128 ≤ v → v < 2 ^ 64 → put b at (uleb v) ≡ put (set b at (v % 128 + 128)) (at + 1) (uleb (v / 128))
put_more b at v h l = rw (uleb_more v h l, add-one) (put-cons b at (v % 128 + 128) (uleb (v / 128)))

-- ---- a descriptor

pub first-length : (distance granules : ℕ) → granules < size_limit
    → length (uleb (size_limit * distance + 1)) ≡ length (uleb (size_limit * distance + granules))
first-length distance granules h =
    uleb_low (size_limit * distance) 1 (omega arith) (omega arith) ∙ sym (uleb_low (size_limit * distance) granules (omega arith) h)

pub descriptor_one : (distance granules : ℕ) → granules < size_limit → descriptor_of distance granules ≡ uleb (size_limit * distance + granules)
descriptor_one distance granules h = rw (lt-ltb granules size_limit h)

pub descriptor_two : (distance granules : ℕ) → size_limit ≤ granules
    → descriptor_of distance granules ≡ uleb (size_limit * distance) ++ uleb (granules - 1)
descriptor_two distance granules h = rw (le-ltb granules size_limit h)

pub two_length : (distance granules : ℕ) → size_limit ≤ granules
    → length (descriptor_of distance granules) ≡ length (uleb (size_limit * distance)) + length (uleb (granules - 1))
two_length distance granules h = rw (descriptor_two distance granules h, length-append)

-- one number after the other
pub two_written : (b : List ℕ) (at distance granules next : ℕ) (c : List ℕ) (after : ℕ) (d : List ℕ) → size_limit ≤ granules
    → (next ≡ at + length (uleb (size_limit * distance))) × (c ≡ put b at (uleb (size_limit * distance)))
    → (after ≡ next + length (uleb (granules - 1))) × (d ≡ put c next (uleb (granules - 1)))
    → (after ≡ at + length (descriptor_of distance granules)) × (d ≡ put b at (descriptor_of distance granules))
two_written b at distance granules next c after d h one two =
    let n = two_length distance granules h in
    let m = one.0 in
    let k = two.0 in
    let w = put-append b at (uleb (size_limit * distance)) (uleb (granules - 1)) in
    (omega arith, two.1 ∙ rw (one.1, m, descriptor_two distance granules h) (sym w))

-- ---- the checks

-- a fault that was judged, and none
pub judged_bad : (end a s : ℕ) (r : Judgement) (reason : ListReason) → Judged end a s r → r ≡ Err reason
    → (i : ℕ) → runs (listed_checks i end a s) ≡ refuse (list_number_of reason) i
judged_bad end a s r reason j n i = j i ∙ rw n

pub judged_good : (end a s : ℕ) (r : Judgement) → Judged end a s r → r ≡ Ok tt → (i : ℕ) → runs (listed_checks i end a s) ≡ good tt
judged_good end a s r j n i = j i ∙ rw n

-- a descriptor that is counted, or not, is no longer than its global
pub counted_short : (end a s : ℕ) → Listed end a s → (counted : Bool) (more : ℕ) → more ≡ cond counted (length (descriptor_after end a s)) 0
    → more ≤ s
counted_short end a s h true more m = let d = (listed_short end a s h).1 in omega arith
counted_short end a s h false more m = omega arith

module _ (addresses sizes : List ℕ) where
  pub measured_start : (counted : Bool) → measured addresses sizes counted 0 0 0
      ≡ and_then (list_check 0 0 addresses sizes) (λ _. good (cond counted (length (table_of addresses sizes)) 0))
  measured_start counted = let z : 0 + length (table_of addresses sizes) ≡ length (table_of addresses sizes) = omega arith in rw z

  -- every global is behind
  pub measured_end : (counted : Bool) (i end total : ℕ) → length addresses ≤ i → measured addresses sizes counted i end total ≡ good total
  unfolding list_check table_from
  measured_end true i end total l = rw (drop_of_length-le addresses l) (ap (λ (n : ℕ). good n) (omega arith))
  measured_end false i end total l = rw (drop_of_length-le addresses l)

  -- every byte is behind
  pub left_end : (i end at : ℕ) (b : List ℕ) → length addresses ≤ i → put b at (table_from end (drop i addresses) (drop i sizes)) ≡ b
  unfolding table_from
  left_end i end at b l = rw (drop_of_length-le addresses l) (put-nil b at)

  -- the global of the index i: its address and its size
  module _ (i end : ℕ) where
    abbrev address : ℕ
    address = get_or addresses i 0

    abbrev size : ℕ
    size = get_or sizes i 0

    -- one that was judged good
    pub judged_listed : (r : Judgement) → Judged end address size r → r ≡ Ok tt → Listed end address size
    judged_listed r j n = listed_good 0 end address size (judged_good end address size r j n 0)

    module _ (l : i < length addresses) (e : length addresses ≡ length sizes) where
      check_of : list_check i end (drop i addresses) (drop i sizes)
          ≡ and_then (runs (listed_checks i end address size)) (λ _. list_check (i + 1) (address + size) (drop (i + 1) addresses) (drop (i + 1) sizes))
      check_of = check_at addresses sizes i l (omega arith) end

      pub measured_bad : (counted : Bool) (total : ℕ) (r : Judgement) (reason : ListReason) → Judged end address size r → r ≡ Err reason
          → measured addresses sizes counted i end total ≡ refuse (list_number_of reason) i
      measured_bad counted total r reason j n = rw (check_of, judged_bad end address size r reason j n i)

      -- the descriptors from here on
      pub left_at : table_from end (drop i addresses) (drop i sizes)
          ≡ descriptor_after end address size ++ table_from (address + size) (drop (i + 1) addresses) (drop (i + 1) sizes)
      left_at = table_at addresses sizes i l (omega arith) end

      pub left_length : length (table_from end (drop i addresses) (drop i sizes))
          ≡ length (descriptor_after end address size) + length (table_from (address + size) (drop (i + 1) addresses) (drop (i + 1) sizes))
      left_length = rw (left_at, length-append)

      -- one global more is checked, and counted or not
      pub measured_next : (counted : Bool) (total more : ℕ) (r : Judgement) → Judged end address size r → r ≡ Ok tt
          → more ≡ cond counted (length (descriptor_after end address size)) 0
          → measured addresses sizes counted i end total ≡ measured addresses sizes counted (i + 1) (address + size) (total + more)
      measured_next true total more r j n m = rw (check_of, judged_good end address size r j n i, left_length, m, add_assoc)
      measured_next false total more r j n m =
          let z : total + more ≡ total = omega arith in
          rw (check_of, judged_good end address size r j n i, z)

      -- checks that pass, here and after it
      pub passed_here : list_check i end (drop i addresses) (drop i sizes) ≡ good tt
          → Listed end address size × (list_check (i + 1) (address + size) (drop (i + 1) addresses) (drop (i + 1) sizes) ≡ good tt)
      passed_here h = passed_at addresses sizes i end l (omega arith) h

  -- the measuring at the index i: it is the whole one from here on, and no more bytes were counted than the globals have
  pub record Measuring (counted : Bool) (i end total : ℕ) : Type 0 where
    pub below : i ≤ length addresses
    pub low : end ≤ address_limit
    pub most : total ≤ end
    pub rest : measured addresses sizes counted 0 0 0 ≡ measured addresses sizes counted i end total

  pub measuring_next : (counted : Bool) (i end total more : ℕ) (r : Judgement) → Measuring counted i end total
      → i < length addresses → length addresses ≡ length sizes → Judged end (address i end) (size i end) r → r ≡ Ok tt
      → more ≡ cond counted (length (descriptor_after end (address i end) (size i end))) 0
      → Measuring counted (i + 1) (address i end + size i end) (total + more)
  measuring_next counted i end total more r w l e j n m =
      let g = judged_listed i end r j n in
      let b = counted_short end _ _ g counted more m in
      let t = w.most in
      let h = g.after in
      record {
        below = omega arith;
        low = g.low;
        most = omega arith;
        rest = w.rest ∙ measured_next i end l e counted total more r j n m;
      }

  -- the writing at the index i: the checks of the globals left pass, their bytes fit, and put at the position they give the table
  pub record Left (lent : List ℕ) (i end at : ℕ) (b : List ℕ) : Type 0 where
    pub counted : i ≤ length addresses
    pub passed : list_check i end (drop i addresses) (drop i sizes) ≡ good tt
    pub same : length b ≡ length lent
    pub fits : length (table_of addresses sizes) ≤ length lent
    pub whole : at + length (table_from end (drop i addresses) (drop i sizes)) ≡ length (table_of addresses sizes)
    pub gives : put b at (table_from end (drop i addresses) (drop i sizes)) ≡ put lent 0 (table_of addresses sizes)

  module _ (lent : List ℕ) (i end at : ℕ) (b : List ℕ) (w : Left lent i end at b) where
    module _ (l : i < length addresses) (e : length addresses ≡ length sizes) where
      -- one descriptor more is written
      pub left_next : (next : ℕ) (c : List ℕ) → next ≡ at + length (descriptor_after end (address i end) (size i end))
          → c ≡ put b at (descriptor_after end (address i end) (size i end)) → Left lent (i + 1) (address i end + size i end) next c
      left_next next c n m =
          let f = w.whole in
          let k = left_length i end l e in
          let rest = table_from (address i end + size i end) (drop (i + 1) addresses) (drop (i + 1) sizes) in
          let step = put-append b at (descriptor_after end (address i end) (size i end)) rest in
          record {
            counted = omega arith;
            passed = (passed_here i end l e w.passed).1;
            same = rw (m, put-length) w.same;
            fits = w.fits;
            whole = omega arith;
            gives = rw (m, n) (sym step ∙ rw (← left_at i end l e) w.gives);
          }

      -- where the writing stands there is room, and the global was checked
      pub left_now : Listed end (address i end) (size i end) × (at + length (descriptor_after end (address i end) (size i end)) ≤ length b)
      left_now =
          let f = w.fits in
          let o = w.whole in
          let n = w.same in
          let k = left_length i end l e in
          ((passed_here i end l e w.passed).0, omega arith)

    -- all is written
    pub left_done : length addresses ≤ i → (at ≡ length (table_of addresses sizes)) × (b ≡ put lent 0 (table_of addresses sizes))
    unfolding table_from
    left_done l =
        let o = w.whole in
        let z : length (table_from end (drop i addresses) (drop i sizes)) ≡ 0 = rw (drop_of_length-le addresses l) in
        (omega arith, sym (left_end i end at b l) ∙ w.gives)
