-- What follows where check 7 finds a table backed.
-- Assumes nothing.
use Rattle.std.specs.Prelude.{Some, None}
use Prim.Native.Nat.{ℕ, ◌≤◌, ◌<◌}
use mathlib.Core.Path.{◌≡◌, refl}
use mathlib.Core.Bool.{Bool, true, false, cond}
use mathlib.Core.List.{List}
use native.Mathlib.Omega.{arith}
use lib.Dec.{eqb}
use borrow.Author.Tests.{ltb-true, eqb-true}
use Rattle.rules.specs.Limits.{file_limit}
use Rattle.rules.specs.First.{first}
use Rattle.rules.specs.Segments.{backs_at, backer, backing_of, header_at}
use Rattle.rules.specs.Tables.{table_backing}
use Rattle.rules.specs.declared.Headers.{Headers}
use Rattle.rules.proofs.FirstLaws.{first_true}
use Rattle.segments.proofs.Laws.{backs_inside}
use Rattle.rules.proofs.OutcomeLaws.{never}

-- a test with nowhere behind it: where there is a backing the test held
somewhere : (b : Bool) (x at : ℕ) → cond b (Some x) None ≡ Some at → b ≡ true
somewhere true x at h = refl
somewhere false x at h = search never

-- what is backed has at most as many bytes as a file
pub backed_size : (f : List ℕ) (h : Headers) (a n at : ℕ) → backing_of f h a n ≡ Some at → n ≤ file_limit
unfolding backing_of backer backs_at
backed_size f h a n at e =
    let l : first (backs_at f h a n) 0 h.count < h.count = ltb-true _ _ (somewhere _ _ at e) in
    let b = backs_inside a n (header_at f h (first (backs_at f h a n) 0 h.count)) (first_true (backs_at f h a n) h.count 0 (omega arith)) in
    omega arith

pub table_size : (f : List ℕ) (h : Headers) (a n at : ℕ) → table_backing f h a n ≡ Some at → n ≤ file_limit
unfolding table_backing
table_size f h a n at e = go (eqb n 0) refl e
  where
    go : (b : Bool) → eqb n 0 ≡ b → cond b (Some 0) (backing_of f h a n) ≡ Some at → n ≤ file_limit
    go true p q = omega (arith, eqb-true n 0 p)
    go false p q = backed_size f h a n at q
