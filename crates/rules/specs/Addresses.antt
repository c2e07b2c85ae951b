-- Check 13: the address of each relocated word, the column Address of the table of kinds; of a packed place, bias and loaded bytes.
-- Assumes nothing.
use Rattle.std.specs.Prelude.{ℕ, ◌+◌, Bool, true, ◌&&◌, List, leb, ℤ, pos, negsuc, ◌+ℤ◌}
use Rattle.rules.specs.Checks.{Check}
use Rattle.rules.specs.Limits.{address_limit}
use Rattle.rules.specs.First.{faults_at}
use Rattle.rules.specs.Memory.{signed}
use Rattle.rules.specs.Relocations.{addend_at, live, items, position_at, target_at}
use Rattle.rules.specs.declared.Module.{Module}
use Rattle.rules.specs.declared.Target.{Target}
use Rattle.rules.specs.declared.Target.TheVariants.{Base, Defined, Undefined, Barred}

-- a target's address without its addend
abbrev pub base_of : ℕ → Target → ℕ
base_of bias Base = bias
base_of bias (Defined value) = bias + value
base_of bias Undefined = 0
base_of bias Barred = 0

-- and with its signed addend
abbrev pub address_of : ℕ → Target → ℕ → ℤ
address_of bias t addend = pos (base_of bias t) +ℤ signed addend

-- below 0 or at least 2^48
abbrev pub out_of_range : ℤ → Bool
out_of_range (pos x) = leb address_limit x
out_of_range (negsuc x) = true

abbrev pub natural : ℤ → ℕ
natural (pos x) = x
natural (negsuc x) = 0

-- the address of an item
abbrev pub address_at : List ℕ → Module → ℕ → ℕ → ℤ
address_at f m bias i = address_of bias (target_at f m i) (addend_at f m i)

-- check 13
unfoldable pub bad_address : List ℕ → Module → ℕ → ℕ → Bool
bad_address f m bias i = live f m i && out_of_range (address_at f m bias i)

unfoldable pub addresses_check : List ℕ → Module → ℕ → Check
addresses_check f m bias = faults_at 13 (position_at f m) (bad_address f m bias) (items m)
