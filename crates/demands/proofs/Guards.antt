-- After checks 1 to 4 the guards of the rules ask nothing.
-- Assumes nothing.
use Rattle.std.specs.Prelude.{None}
use Prim.Native.Nat.{ℕ, ◌+◌, ◌*◌, ◌≤◌, ◌<◌}
use mathlib.Core.Path.{◌≡◌, refl, sym}
use mathlib.Core.Bool.{Bool, true, false, cond, ◌&&◌}
use mathlib.Core.List.{List}
use native.Mathlib.Omega.{arith}
use lib.ListN.{length}
use lib.Dec.{leb}
use borrow.Author.Tests.{leb-true, leb-false, le-leb, le-ltb}
use Rattle.rules.specs.Outcome.{good}
use Rattle.rules.specs.Limits.{file_least, file_limit, memory_limit}
use Rattle.rules.specs.Headers.{size_check, header_checks, headers_of}
use Rattle.rules.specs.Checks.{runs}
use Rattle.rules.specs.Segments.{header_at, is_load, loads_check, covers, backs, backs_at, backer, backing_of}
use Rattle.rules.specs.Relocations.{symbol_backing}
use Rattle.rules.specs.declared.Headers.{Headers}
use Rattle.rules.proofs.OutcomeLaws.{and_left, and_right, and_then_good, require_held}
use Rattle.rules.proofs.ChecksLaws.{runs_all}
use Rattle.laws.proofs.Checks.{all_end}
use Rattle.laws.proofs.Loads.{load_good, covers_within}
use Rattle.demands.specs.Demands.{Idle}

-- check 1
file_size : (f : List ℕ) (h : Headers) → headers_of f ≡ good h → length f ≤ file_limit
unfolding headers_of size_check
file_size f h e =
    let a = runs_all (header_checks f) (and_then_good (runs (header_checks f)) _ e).here in
    leb-true (length f) file_limit (and_right (leb file_least (length f)) _ (require_held _ 1 0 a.0))

module _ (f : List ℕ) (h : Headers) (headers : headers_of f ≡ good h) (loads : loads_check f h ≡ good tt) where
  backed : (a n i : ℕ) → i < h.count
      → backs_at f h a n i ≡ (is_load (header_at f h i) && covers (header_at f h i).vaddr (header_at f h i).filesz a n)
  unfolding backs_at backs
  backed a n i l = go (is_load (header_at f h i)) refl (covers (header_at f h i).vaddr (header_at f h i).filesz a n)
    where
      go : (b : Bool) → is_load (header_at f h i) ≡ b → (t : Bool)
          → (b && (t && leb ((header_at f h i).offset + (header_at f h i).filesz) file_limit)) ≡ (b && t)
      go false q t = refl
      go true q false = refl
      go true q true =
          let s = file_size f h headers in
          let g = (load_good f h loads i l q).in_file in
          le-leb ((header_at f h i).offset + (header_at f h i).filesz) file_limit (omega arith)

  high : (a n i : ℕ) → memory_limit < a → i < h.count → backs_at f h a n i ≡ false
  high a n i over l = go (backs_at f h a n i) refl
    where
      go : (b : Bool) → backs_at f h a n i ≡ b → backs_at f h a n i ≡ false
      go false q = q
      go true q =
          let t = sym (backed a n i l) in
          let held : (is_load (header_at f h i) && covers (header_at f h i).vaddr (header_at f h i).filesz a n) ≡ true = rw q at t in
          let g = load_good f h loads i l (and_left (is_load (header_at f h i)) _ held) in
          let c = covers_within (header_at f h i).vaddr (header_at f h i).filesz a n (and_right (is_load (header_at f h i)) _ held) in
          let x = g.in_limit in
          let y = g.sized in
          absurd (omega arith)

  symbol-backed : (a n : ℕ) → cond (leb a memory_limit) (backing_of f h a n) None ≡ backing_of f h a n
  unfolding backing_of backer
  symbol-backed a n = go (leb a memory_limit) refl
    where
      go : (b : Bool) → leb a memory_limit ≡ b → cond b (backing_of f h a n) None ≡ backing_of f h a n
      go true q = refl
      go false q =
          let e = all_end (backs_at f h a n) h.count (λ i l. high a n i (leb-false a memory_limit q) l) in
          rw (e, le-ltb h.count h.count (omega arith))

  pub idle : Idle f h
  unfolding symbol_backing
  idle = record { backed = backed; symbol-backed = λ n table. symbol-backed (table + 24 * n) 24 }
