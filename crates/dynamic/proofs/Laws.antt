-- What follows from check 5.
-- Assumes nothing.
use Prim.Native.Nat.{ℕ, ◌+◌, ◌-◌, ◌≤◌, ◌<◌}
use mathlib.Core.Path.{◌≡◌, sym}
use mathlib.Core.Bool.{true}
use mathlib.Core.List.{List}
use native.Mathlib.Nat.{sub-zero}
use borrow.Author.Tests.{leb-true, lt-ltb, le-ltb}
use Rattle.rules.specs.Outcome.{refuse}
use Rattle.rules.specs.Limits.{dynamic_limit}
use Rattle.rules.specs.Segments.{header_at}
use Rattle.rules.specs.Dynamic.{good_size, dynamic_from, dynamic_of, dynamic_in}
use Rattle.rules.specs.declared.Headers.{Headers}
use Rattle.rules.proofs.OutcomeLaws.{and_left, and_right}

-- a PT_DYNAMIC of a good size is not above the limit
pub good_size_lem : (size : ℕ) → good_size size ≡ true → size ≤ dynamic_limit
unfolding good_size
good_size_lem size h = leb-true _ _ (search (and_left, and_right))

-- check 5 by what the search for PT_DYNAMICs found: none, two or more, or one
module _ (f : List ℕ) (h : Headers) (one : ℕ) (e : one ≡ dynamic_from f h 0 (h.count - 0)) where
  pub dynamic_none : h.count ≤ one → dynamic_of f h ≡ refuse 5 h.count
  unfolding dynamic_of
  dynamic_none l = let g : dynamic_from f h 0 h.count ≡ one = sym (rw sub-zero at e) in rw (g, le-ltb one h.count l)

  pub dynamic_more : (two : ℕ) → one < h.count → two ≡ dynamic_from f h (one + 1) (h.count - (one + 1)) → two < h.count
      → dynamic_of f h ≡ refuse 5 two
  unfolding dynamic_of
  dynamic_more two l d m =
      let g : dynamic_from f h 0 h.count ≡ one = sym (rw sub-zero at e) in
      rw (g, lt-ltb one h.count l, ← d, lt-ltb two h.count m)

  pub dynamic_one : (two : ℕ) → one < h.count → two ≡ dynamic_from f h (one + 1) (h.count - (one + 1)) → h.count ≤ two
      → dynamic_of f h ≡ dynamic_in f h one (header_at f h one)
  unfolding dynamic_of
  dynamic_one two l d m =
      let g : dynamic_from f h 0 h.count ≡ one = sym (rw sub-zero at e) in
      rw (g, lt-ltb one h.count l, ← d, le-ltb two h.count m)
