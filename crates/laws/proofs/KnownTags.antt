-- Dynamic entries that pass with the tags of the Memtag ABI pass without them.
-- Assumes nothing.
use Prim.Native.Nat.{ℕ, ◌<◌}
use mathlib.Core.Path.{◌≡◌, refl, ap, ◌∙◌}
use mathlib.Core.Bool.{Bool, true, false}
use mathlib.Core.List.{List}
use native.Mathlib.Omega.{arith}
use lib.ListN.{drop, get_or-append}
use lib.Dec.{ltb, eqb}
use borrow.Author.Tests.{ltb-true, lt-ltb, not-true}
use Rattle.rules.specs.Outcome.{good}
use Rattle.rules.specs.First.{first, some_below, faultless}
use Rattle.rules.specs.Dynamic.{base_tags, known_tags, row_at, row_of, bad_entry, partnerless, entries_check, row, tag_at, is_row}
use Rattle.rules.specs.declared.Dynamic.{Dynamic}
use Rattle.rules.specs.declared.Known.{Known}
use Rattle.rules.specs.declared.Allowed.TheVariants.{Any}
use Rattle.rules.proofs.FirstLaws.{first_same}
use Rattle.rules.proofs.OutcomeLaws.{and_then_good, require_held}
use Rattle.laws.proofs.Checks.{first_prefix, faultless_all, all_faultless, some_all, all_some}

-- the rows of ELF64 come first
pub row_base : (r : ℕ) → r < 10 → row_at known_tags r ≡ row_at base_tags r
row_base r h = get_or-append base_tags (drop 10 known_tags) (row 0 0 Any) r h

row_of_base : (tag : ℕ) → row_of base_tags tag < 10 → row_of known_tags tag ≡ row_of base_tags tag
unfolding row_of is_row
row_of_base tag h =
    let same : first (is_row known_tags tag) 0 10 ≡ first (is_row base_tags tag) 0 10 =
    first_same _ _ 10 0 (λ j l u. ap (λ (k : Known). eqb k.tag tag) (row_base j (omega arith))) in
    first_prefix (is_row known_tags tag) 10 5 0 (rw same h) ∙ same

entry_base : (f : List ℕ) (d : Dynamic) (i : ℕ) → bad_entry known_tags f d i ≡ false → bad_entry base_tags f d i ≡ false
unfolding bad_entry
entry_base f d i h = go (ltb (row_of base_tags (tag_at f d i)) 10) refl
  where
    go : (b : Bool) → ltb (row_of base_tags (tag_at f d i)) 10 ≡ b → bad_entry base_tags f d i ≡ false
    go false e = rw e
    go true e =
        let l : row_of base_tags (tag_at f d i) < 10 = ltb-true (row_of base_tags (tag_at f d i)) 10 e in
        let q = row_of_base (tag_at f d i) l in
        let r = row_base (row_of base_tags (tag_at f d i)) l in
        let w = lt-ltb (row_of base_tags (tag_at f d i)) 15 (omega arith) in
        rw (e, ← r) (rw (q, w) at h)

partner_base : (f : List ℕ) (d : Dynamic) (r : ℕ) → r < 10 → partnerless known_tags f d r ≡ false → partnerless base_tags f d r ≡ false
unfolding partnerless
partner_base f d r l h = rw (row_base r l) at h

pub entries_base : (f : List ℕ) (d : Dynamic) → entries_check known_tags f d ≡ good tt → entries_check base_tags f d ≡ good tt
unfolding entries_check
entries_base f d h =
    let a = and_then_good (faultless 6 (bad_entry known_tags f d) d.entries) _ h in
    let e = all_faultless (bad_entry base_tags f d) 6 d.entries (λ j l.
    entry_base f d j (faultless_all (bad_entry known_tags f d) 6 d.entries a.here j l)) in
    let s = not-true (some_below (partnerless known_tags f d) 15) (require_held _ 6 d.entries a.rest) in
    let t = all_some (partnerless base_tags f d) 10 (λ r l. partner_base f d r l (some_all (partnerless known_tags f d) 15 s r (omega arith))) in
    rw (e, t)
