-- A table that is backed is inside the file.
-- Assumes nothing.
use Rattle.std.specs.Prelude.{Some, None}
use Prim.Native.Nat.{ℕ, ◌+◌, ◌*◌, ◌-◌, ◌/◌, ◌≤◌}
use mathlib.Core.Path.{◌≡◌, refl}
use mathlib.Core.Bool.{Bool, true, false, cond}
use mathlib.Core.List.{List}
use native.Mathlib.Omega.{arith}
use lib.ListN.{length}
use lib.Dec.{ltb, leb, eqb}
use borrow.Author.Tests.{ltb-true, eqb-true}
use Rattle.rules.specs.Outcome.{good}
use Rattle.rules.specs.Limits.{entry_limit}
use Rattle.rules.specs.First.{first}
use Rattle.rules.specs.Segments.{header_at, is_load, loads_check, covers, backs, backs_at, backer, backing_in, backing_of}
use Rattle.rules.specs.Outcome.{require}
use Rattle.rules.specs.Tables.{table_backing, backed, rela_address, rela_bytes, relocations_of}
use Rattle.rules.specs.declared.Headers.{Headers}
use Rattle.rules.specs.declared.Dynamic.{Dynamic}
use Rattle.rules.specs.declared.Relocations.{Relocations}
use Rattle.rules.proofs.FirstLaws.{first_true}
use Rattle.rules.proofs.OutcomeLaws.{and_left, and_right, and_then_good}
use Rattle.laws.proofs.Checks.{good_same}
use Rattle.laws.proofs.Loads.{load_good, covers_within}
use Rattle.laws.proofs.PackedTable.{backed_good}

module _ (f : List ℕ) (h : Headers) (passed : loads_check f h ≡ good tt) where
  -- bytes that are backed are inside the file
  backing_inside : (a n at : ℕ) → backing_of f h a n ≡ Some at → at + n ≤ length f
  unfolding backing_of backer backs_at backs
  backing_inside a n at e = go (ltb i h.count) refl e
    where
      i : ℕ
      i = first (backs_at f h a n) 0 h.count

      go : (b : Bool) → ltb i h.count ≡ b → cond b (backing_in (header_at f h i) a) None ≡ Some at → at + n ≤ length f
      go true q x =
          let s = header_at f h i in
          let l = ltb-true i h.count q in
          let t = first_true (backs_at f h a n) h.count 0 (omega arith) in
          let c = covers_within s.vaddr s.filesz a n (and_left (covers s.vaddr s.filesz a n) _ (and_right (is_load s) _ t)) in
          let g = (load_good f h passed i l (and_left (is_load s) _ t)).in_file in
          let z : s.offset + (a - s.vaddr) ≡ at = cc in
          omega arith
      go false q x = absurd (let z : ◌≡◌ {A = ℕ} 0 1 = cc in omega arith)

  table_inside : (a n at : ℕ) → table_backing f h a n ≡ Some at → at + n ≤ length f
  unfolding table_backing
  table_inside a n at e = go (eqb n 0) refl e
    where
      go : (b : Bool) → eqb n 0 ≡ b → cond b (Some 0) (backing_of f h a n) ≡ Some at → at + n ≤ length f
      go true q x = let z = eqb-true n 0 q in let y : 0 ≡ at = cc in omega arith
      go false q x = backing_inside a n at x

  -- so are the entries of the relocation table
  pub relocations_inside : (d : Dynamic) (r : Relocations) → relocations_of f h d ≡ good r → r.at + 24 * r.entries ≤ length f
  unfolding relocations_of
  relocations_inside d r e =
      let a = and_then_good (backed 7 0 (table_backing f h (rela_address f d) (rela_bytes f d))) _ e in
      let b = and_then_good (require (leb (rela_bytes f d / 24) entry_limit) 7 0) _ a.rest in
      let l = table_inside (rela_address f d) (rela_bytes f d) a.value (backed_good 7 0 a.value _ a.here) in
      good_same (λ (r : Relocations). r.at + 24 * r.entries ≤ length f) _ r b.rest (omega arith)
