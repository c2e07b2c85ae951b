-- What follows from checks 1 to 3.
-- Assumes nothing.
use Prim.Native.Nat.{ℕ, ◌+◌, ◌*◌, ◌≤◌}
use mathlib.Core.Path.{◌≡◌, refl}
use mathlib.Core.Bool.{true, ◌&&◌}
use mathlib.Core.List.{List, [], ◌∷◌}
use native.Mathlib.Omega.{arith}
use lib.ListN.{length}
use lib.Dec.{leb}
use borrow.Author.Tests.{leb-true}
use Rattle.rules.specs.Outcome.{good, bad}
use Rattle.rules.specs.Checks.{Check, runs}
use Rattle.rules.specs.Limits.{file_least, file_limit}
use Rattle.rules.specs.Bytes.{le}
use Rattle.rules.specs.Headers.{good_header, size_check, header_check, header_checks}
use Rattle.rules.proofs.OutcomeLaws.{and_left, and_right, require_held}
use Rattle.rules.proofs.ChecksLaws.{runs_all}

-- the header table ends inside the file
pub header_table : (n kind machine version size count table : ℕ) → good_header n kind machine version size count table ≡ true → table + 56 * count ≤ n
unfolding good_header
header_table n kind machine version size count table h = leb-true _ _ (search (and_left, and_right))

-- a header table that passed checks 1 to 3 begins inside the file
pub table_within : (f : List ℕ) → runs (header_checks f) ≡ good tt → le 8 f 32 ≤ file_limit
unfolding size_check header_check
table_within f e =
    let all = runs_all (header_checks f) e in
    let sized : (leb file_least (length f) && leb (length f) file_limit) ≡ true = require_held _ 1 0 all.0 in
    let size : length f ≤ file_limit = leb-true _ _ (search (and_left, and_right)) in
    let table = header_table (length f) (le 2 f 16) (le 2 f 18) (le 4 f 20) (le 2 f 54) (le 2 f 56) (le 8 f 32) (require_held _ 3 0 all.1.1.0) in
    omega arith

-- a list of one check
pub run_one : (c : Check) → runs (c ∷ []) ≡ c
run_one (good u) = refl
run_one (bad r) = refl
