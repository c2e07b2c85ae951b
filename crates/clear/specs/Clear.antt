-- Items in which nothing is wrong, as few tests tell it.
-- Assumes nothing.
use Rattle.std.specs.Prelude.{◌≡◌, ℕ, ◌+◌, ◌*◌, ◌<◌, ◌≤◌, true, false, List, length, Some}
use Rattle.rules.specs.Relocations.{place_at, live, target_at, barred, place_fits, symbol_backing}
use Rattle.rules.specs.Addresses.{address_of, out_of_range, bad_address}
use Rattle.rules.specs.Image.{loaded_at}
use Rattle.rules.specs.declared.Headers.{Headers}
use Rattle.rules.specs.declared.Module.{Module}
use Rattle.rules.specs.declared.Target.{Target}
use Rattle.rules.specs.declared.Target.TheVariants.{Defined}
use Rattle.clear.specs.declared.Near.{Near}

-- the entries of the symbols below count stand one after the other in the file
pub record Nears (f : List ℕ) (m : Module) (w : Near) : Type 0 where
  pub inside : w.at + 24 * w.count ≤ length f
  pub backed : (n : ℕ) → n < w.count → symbol_backing f m.headers n m.symbols ≡ Some (w.at + 24 * n)

-- a target that check 10 lets through, with its address in range
pub record Aims (bias : ℕ) (t : Target) (addend : ℕ) : Type 0 where
  pub allowed : barred t ≡ false
  pub within : out_of_range (address_of bias t addend) ≡ false

-- an item that is not skipped and that checks 10, 11 and 13 pass, but for the places of the items before it
pub record Clear (f : List ℕ) (m : Module) (bias i : ℕ) : Type 0 where
  pub kept : live f m i ≡ true
  pub allowed : barred (target_at f m i) ≡ false
  pub fits : place_fits f m.headers (place_at f m i) ≡ true
  pub within : bad_address f m bias i ≡ false

-- a packed place that fits, with its address in range
pub record ClearPlace (f : List ℕ) (h : Headers) (bias place : ℕ) : Type 0 where
  pub fits : place_fits f h place ≡ true
  pub within : out_of_range (address_of bias (Defined (loaded_at f h place)) 0) ≡ false
