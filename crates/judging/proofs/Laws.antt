-- One item: what its tests come to.
-- Assumes nothing.
use Prim.Native.Nat.{ℕ, ◌%◌, ◌≤◌, ◌<◌}
use mathlib.Core.Path.{◌≡◌, sym, ◌∙◌}
use mathlib.Core.Bool.{true, false}
use mathlib.Core.List.{List}
use native.Mathlib.Omega.{arith}
use lib.Dec.{eqb}
use borrow.Author.Tests.{eq-eqb, ne_eqb}
use Rattle.rules.specs.Outcome.{good}
use Rattle.rules.specs.Limits.{memory_limit}
use Rattle.rules.specs.Segments.{loads_check}
use Rattle.rules.specs.Addresses.{address_of, out_of_range, address_at, bad_address}
use Rattle.rules.specs.Answers.{number_of}
use Rattle.rules.specs.Relocations.{place_at, kind_at, symbol_at, live, target, target_at, barred, place_fits}
use Rattle.rules.specs.Image.{loaded_at}
use Rattle.rules.specs.declared.Reason.{Reason}
use Rattle.rules.specs.declared.Reason.TheVariants as reason
use Rattle.rules.specs.declared.Headers.{Headers}
use Rattle.rules.specs.declared.Module.{Module}
use Rattle.rules.specs.declared.Target.{Target}
use Rattle.rules.specs.declared.Target.TheVariants.{Defined}
use Rattle.rules.proofs.OutcomeLaws.{and_right}
use Rattle.laws.proofs.Loads.{end_limit, in_memory_holds}
use Rattle.laws.proofs.Items.{entry-live, entry-target, packed_addend, packed-target}
use Rattle.segments.specs.Spans.{Sound}
use Rattle.judging.specs.Judges.{item_fault, Relocates}
use Rattle.judging.specs.declared.Word.{Word}

-- a place that fits is low
module _ (f : List ℕ) (h : Headers) (p : ℕ) where
  pub place_low : loads_check f h ≡ good tt → place_fits f h p ≡ true → p ≤ memory_limit
  unfolding place_fits
  place_low passed e =
      let a = in_memory_holds f h passed true p 8 (and_right (eqb (p % 8) 0) _ e) in
      let b = end_limit f h passed h.count (omega arith) in
      omega arith

-- ---- what is found of an item

-- no reason has number 0
pub number_some : (r : Reason) → number_of r ≡ 0 → ⊥
number_some reason.Length e = absurd (omega arith)
number_some reason.Identification e = absurd (omega arith)
number_some reason.Header e = absurd (omega arith)
number_some reason.Load e = absurd (omega arith)
number_some reason.Dynamic e = absurd (omega arith)
number_some reason.Entry e = absurd (omega arith)
number_some reason.Table e = absurd (omega arith)
number_some reason.Descriptor e = absurd (omega arith)
number_some reason.Global e = absurd (omega arith)
number_some reason.Target e = absurd (omega arith)
number_some reason.Place e = absurd (omega arith)
number_some reason.Lending e = absurd (omega arith)
number_some reason.Address e = absurd (omega arith)
number_some reason.Choice e = absurd (omega arith)
number_some reason.Packed e = absurd (omega arith)
number_some reason.LongForm e = absurd (omega arith)

module _ (f : List ℕ) (m : Module) (bias i : ℕ) (z : live f m i ≡ true) where
  pub fault-barred : barred (target_at f m i) ≡ true → 10 ≡ item_fault f m i
  unfolding item_fault
  fault-barred b = rw (z, b)

  pub fault_misfit : barred (target_at f m i) ≡ false → place_fits f m.headers (place_at f m i) ≡ false → 11 ≡ item_fault f m i
  unfolding item_fault
  fault_misfit b p = rw (z, b, p)

  pub relocates : (w : Word) → barred (target_at f m i) ≡ false → place_at f m i ≡ w.place → place_fits f m.headers w.place ≡ true
      → w.outside ≡ out_of_range (address_at f m bias i) → Sound f m.headers true w.span → Relocates f m bias i w
  unfolding item_fault bad_address
  relocates w b e p o s = record { fault = rw (z, b, e, p); kept = z; place = sym e; outside = rw z o; sound = s }

-- ---- an entry

module _ (f : List ℕ) (m : Module) (i : ℕ) (l : i < m.relocations.entries) where
  pub entry_skipped : kind_at f m i ≡ 0 → live f m i ≡ false
  entry_skipped e = entry-live f m i l ∙ rw (eq-eqb (kind_at f m i) 0 e)

  pub entry_kept : (kind_at f m i ≡ 0 → ⊥) → live f m i ≡ true
  entry_kept e = entry-live f m i l ∙ rw (ne_eqb (kind_at f m i) 0 e)

  -- the target that was looked up, by the fields that were read
  pub target_read : (kind symbol : ℕ) (t : Target) → kind ≡ kind_at f m i → symbol ≡ symbol_at f m i
      → t ≡ target f m.headers m.symbols kind symbol → t ≡ target_at f m i
  target_read kind symbol t a b e = e ∙ rw (a, b) (sym (entry-target f m i l))

-- ---- a packed place

module _ (f : List ℕ) (m : Module) (i : ℕ) (l : m.relocations.entries ≤ i) where
  pub packed-allowed : barred (target_at f m i) ≡ false
  packed-allowed = rw (packed-target f m i l)

  pub packed_outside : (bias place loaded : ℕ) → place_at f m i ≡ place → loaded ≡ loaded_at f m.headers place
      → out_of_range (address_of bias (Defined loaded) 0) ≡ out_of_range (address_at f m bias i)
  packed_outside bias place loaded e q = rw (packed-target f m i l, packed_addend f m i l, e, q)
