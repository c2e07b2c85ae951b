-- Relocations that pass checks 10, 11 and 13 write eight bytes apart, inside memory, addresses below 2^48.
-- Assumes nothing.
use Prim.Native.Nat.{ℕ, ◌+◌, ◌%◌, ◌≤◌, ◌<◌}
use mathlib.Core.Path.{◌≡◌}
use mathlib.Core.Bool.{true, false, not, ◌||◌}
use mathlib.Core.List.{List}
use mathlib.Core.Logic.{◌⊎◌, inl, inr, ⊎_elim}
use native.Mathlib.Omega.{arith}
use lib.Dec.{eqb}
use lib.IntN.{ℤ, pos, negsuc}
use borrow.Author.Tests.{eqb-true, eqb-false, leb-false, not-true, not-false}
use Rattle.rules.specs.Outcome.{good}
use Rattle.rules.specs.Limits.{address_limit}
use Rattle.rules.specs.Segments.{loads_check, loads_end}
use Rattle.rules.specs.Relocations.{place_at, live, items, position_at, target_at, barred}
use Rattle.rules.specs.Relocations.{has_place, taken, place_fits, good_place, bad_relocation, first_bad, relocations_check}
use Rattle.rules.specs.Addresses.{out_of_range, natural, address_at, bad_address, addresses_check}
use Rattle.rules.specs.declared.Module.{Module}
use Rattle.rules.proofs.OutcomeLaws.{true_false, and_left, and_right, cond_held}
use Rattle.laws.proofs.Checks.{or_left, or_right, le_or_lt, and_false, end_all, faults_all, some_all}
use Rattle.laws.proofs.Loads.{in_memory_holds}
use Rattle.laws.proofs.Writes.{Apart}

pub in_range_lem : (z : ℤ) → out_of_range z ≡ false → natural z < address_limit
in_range_lem (pos x) h = leb-false address_limit x h
in_range_lem (negsuc x) h = true_false h

-- multiples of 8 that differ
eight_apart : (a b : ℕ) → a % 8 ≡ 0 → b % 8 ≡ 0 → (a ≡ b → ⊥) → (a + 8 ≤ b) ⊎ (b + 8 ≤ a)
eight_apart a b p q ne = ⊎_elim (λ l. inl l) (λ l. inr (omega arith)) (le_or_lt (a + 8) b)

module _ (f : List ℕ) (m : Module) where
  -- an item that passes check 13
  pub address_ranged : (bias : ℕ) → addresses_check f m bias ≡ good tt → (k : ℕ) → k < items m → live f m k ≡ true
      → out_of_range (address_at f m bias k) ≡ false
  unfolding addresses_check bad_address
  address_ranged bias e k l t = and_false (live f m k) _ (faults_all (bad_address f m bias) 13 (position_at f m) (items m) e k l) t

  pub address_small : (bias : ℕ) → addresses_check f m bias ≡ good tt → (k : ℕ) → k < items m → live f m k ≡ true
      → natural (address_at f m bias k) < address_limit
  address_small bias e k l t = in_range_lem (address_at f m bias k) (address_ranged bias e k l t)

  -- an item that passes checks 10 and 11
  item_good : relocations_check f m ≡ good tt → (k : ℕ) → k < items m → live f m k ≡ true
      → (barred (target_at f m k) || not (good_place f m k)) ≡ false
  unfolding relocations_check bad_relocation first_bad
  item_good e k l t =
      let n = cond_held _ (eqb (first_bad f m) (items m)) _ e in
      and_false (live f m k) _ (end_all (bad_relocation f m) (items m) n.0 k l) t

  pub target-allowed : relocations_check f m ≡ good tt → (k : ℕ) → k < items m → live f m k ≡ true → barred (target_at f m k) ≡ false
  target-allowed e k l t = or_left (barred (target_at f m k)) _ (item_good e k l t)

  place_good : relocations_check f m ≡ good tt → (k : ℕ) → k < items m → live f m k ≡ true → good_place f m k ≡ true
  place_good e k l t = not-false _ (or_right (barred (target_at f m k)) _ (item_good e k l t))

  pub places_apart : loads_check f m.headers ≡ good tt → relocations_check f m ≡ good tt → (size : ℕ) → loads_end f m.headers ≤ size
      → Apart (live f m) (place_at f m) size 0 (items m)
  unfolding good_place place_fits taken has_place
  places_apart passed e size u = record {
    inside = λ k _ l t.
        let g = and_left (place_fits f m.headers (place_at f m k)) _ (place_good e k (omega arith) t) in
        let i = in_memory_holds f m.headers passed true (place_at f m k) 8 (and_right (eqb (place_at f m k % 8) 0) _ g) in
        omega arith;
    apart = λ j k _ l o s t.
        let a = place_good e j (omega arith) s in
        let b = place_good e k (omega arith) t in
        let x = multiple j (and_left (place_fits f m.headers (place_at f m j)) _ a) in
        let y = multiple k (and_left (place_fits f m.headers (place_at f m k)) _ b) in
        let c = and_right (place_fits f m.headers (place_at f m k)) _ b in
        let n = some_all (has_place f m (place_at f m k)) k (not-true _ c) j l in
        eight_apart (place_at f m j) (place_at f m k) x y (eqb-false (place_at f m j) (place_at f m k) (and_false (live f m j) _ n s));
  }
    where
      multiple : (k : ℕ) → place_fits f m.headers (place_at f m k) ≡ true → place_at f m k % 8 ≡ 0
      multiple k g = eqb-true (place_at f m k % 8) 0 (and_left (eqb (place_at f m k % 8) 0) _ g)
