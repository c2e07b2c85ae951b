-- The loops of the picker: globals that abut, tags that are needed, and the choices that are left to pick.
-- Assumes nothing.
use Prim.Native.Nat.{ℕ, zero, suc, ◌+◌, ◌≤◌, ◌<◌}
use mathlib.Core.Path.{◌≡◌, refl, sym, ap, ◌∙◌}
use mathlib.Core.Bool.{Bool, true, false, cond, not, ◌&&◌}
use mathlib.Core.List.{List, ◌∷◌, append-nil}
use native.Mathlib.Numerals.{add-one}
use native.Mathlib.Omega.{arith}
use lib.ListN.{length, get_or, set, drop, length-set, drop_of_length-le}
use lib.Seq.{get_or-set_same}
use lib.Dec.{eqb, leb}
use borrow.Author.Tests.{ne_eqb, le-leb, lt-leb}
use Rattle.rules.specs.Outcome.{good}
use Rattle.rules.specs.First.{some_below}
use Rattle.rules.specs.Limits.{address_limit}
use Rattle.rules.specs.Memory.{put}
use Rattle.rules.specs.Writer.{list_check}
use Rattle.rules.specs.Picker.{barred_at, pick_of, picks_from, picks_of, abuts_at, tags_needed, tags_allowed}
use Rattle.rules.proofs.MemoryLaws.{put-nil, put-cons, put_front}
use Rattle.laws.proofs.Picks.{end_at, tag_at, needed_one, needed_most}
use Rattle.laws.proofs.Picks.{barred_why, enough_suits, picks_at, picks_end, picks_length}
use Rattle.laws.proofs.Listed.{passed_at}
use Rattle.tag_pairs.specs.Pairs.{Suited}

-- ---- globals that abut

pub abuts_test : (addresses sizes : List ℕ) (i end : ℕ) → end ≡ end_at 0 addresses sizes i
    → (not (eqb i 0) && eqb end (get_or addresses i 0)) ≡ abuts_at addresses sizes i
unfolding abuts_at
abuts_test addresses sizes zero end e = refl
abuts_test addresses sizes (suc i) end e = rw (e, ne_eqb (suc i) 0 (λ z. omega arith))

-- ---- a walk over the globals

-- the walk at the index i: the global before ends at end, and the checks of those left pass
pub record Walked (addresses sizes : List ℕ) (i end : ℕ) : Type 0 where
  pub below : i ≤ length addresses
  pub stands : end ≡ end_at 0 addresses sizes i
  pub passed : list_check i end (drop i addresses) (drop i sizes) ≡ good tt

pub walked_start : (addresses sizes : List ℕ) → list_check 0 0 addresses sizes ≡ good tt → Walked addresses sizes 0 0
walked_start addresses sizes h = record { below = omega arith; stands = refl; passed = h }

module _ (addresses sizes : List ℕ) (i end : ℕ) (w : Walked addresses sizes i end) (l : i < length addresses) (e : length addresses ≡ length sizes) where
  -- the global of the index i was checked
  pub walked_low : get_or addresses i 0 + get_or sizes i 0 ≤ address_limit
  walked_low = (passed_at addresses sizes i end l (omega arith) w.passed).0.low

  pub walked_next : Walked addresses sizes (i + 1) (get_or addresses i 0 + get_or sizes i 0)
  walked_next = record {
    below = omega arith;
    stands = rw add-one;
    passed = (passed_at addresses sizes i end l (omega arith) w.passed).1;
  }

  -- whether it abuts on the one before
  pub walked_abuts : (r : Bool) → r ≡ (not (eqb i 0) && eqb end (get_or addresses i 0)) → abuts_at addresses sizes i ≡ r
  walked_abuts r t = sym (t ∙ abuts_test addresses sizes i end w.stands)

-- ---- fewer tags than are needed

module _ (addresses sizes : List ℕ) where
  pub two_enough : (tags : ℕ) → 1 < tags → not (leb (tags_needed addresses sizes) tags) ≡ false
  two_enough tags h = rw (le-leb _ tags (needed_most addresses sizes tags (λ _. omega arith) (λ _ _ _. omega arith)))

  pub none_needed : (tags : ℕ) → length addresses ≡ 0 → not (leb (tags_needed addresses sizes) tags) ≡ false
  none_needed tags e = rw (le-leb _ tags (needed_most addresses sizes tags (λ l. absurd (omega arith)) (λ _ l _. absurd (omega arith))))

  pub none_left : (tags : ℕ) → tags ≡ 0 → (length addresses ≡ 0 → ⊥) → not (leb (tags_needed addresses sizes) tags) ≡ true
  none_left tags z d = let n = needed_one addresses sizes (omega arith) in rw (lt-leb (tags_needed addresses sizes) tags (omega arith))

  pub one_left : (tags : ℕ) → tags ≡ 1 → (length addresses ≡ 0 → ⊥)
      → some_below (abuts_at addresses sizes) (length addresses) ≡ not (leb (tags_needed addresses sizes) tags)
  unfolding tags_needed
  one_left tags z d = rw (z, ne_eqb (length addresses) 0 d) (go (some_below (abuts_at addresses sizes) (length addresses)))
    where
      go : (y : Bool) → y ≡ not (leb (cond y 2 1) 1)
      go true = refl
      go false = refl

-- ---- the choices

-- a list put over one that is as long
put_whole : (d s : List ℕ) → length s ≡ length d → put d 0 s ≡ s
put_whole d s e = put_front s d (omega arith) ∙ rw (drop_of_length-le d {i = length s} (omega arith)) (append-nil s)

put_next : (d : List ℕ) (i v : ℕ) (s : List ℕ) → put (set d i v) (i + 1) s ≡ put d i (v ∷ s)
put_next d i v s = rw add-one (sym (put-cons d i v s))

-- the picking at the index i: what is left to pick, put at the index, gives the picks
pub record Picking (addresses sizes random : List ℕ) (x : ℕ) (i end last : ℕ) (b : List ℕ) : Type 0 where
  pub walked : Walked addresses sizes i end
  pub tagged : last ≡ tag_at 0 b i
  pub same : length b ≡ length addresses
  pub gives : put b i (picks_from x end last (drop i addresses) (drop i sizes) (drop i random)) ≡ picks_of x addresses sizes random

module _ (addresses sizes random : List ℕ) (x : ℕ) (e : length addresses ≡ length sizes) (d : length addresses ≡ length random) where
  pub picking_start : (lent : List ℕ) → length addresses ≡ length lent → list_check 0 0 addresses sizes ≡ good tt
      → Picking addresses sizes random x 0 0 0 lent
  picking_start lent n h = record {
    walked = walked_start addresses sizes h;
    tagged = refl;
    same = sym n;
    gives = put_whole lent (picks_of x addresses sizes random) (picks_length x 0 0 addresses sizes random (sym e) (sym d) ∙ n);
  }

  pub picking_done : (i end last : ℕ) (b : List ℕ) → Picking addresses sizes random x i end last b → length addresses ≤ i
      → b ≡ picks_of x addresses sizes random
  picking_done i end last b k l = sym (put-nil b i) ∙ rw (← picks_end x end last i addresses sizes random l) k.gives

  module _ (i end last : ℕ) (b : List ℕ) (k : Picking addresses sizes random x i end last b) (l : i < length addresses) where
    -- a tag suits
    suited : tags_needed addresses sizes ≤ tags_allowed x → Suited x (barred_at end last (get_or addresses i 0))
    suited enough =
        let w = barred_why addresses sizes b i in
        let t = enough_suits addresses sizes x i (barred_at end last (get_or addresses i 0)) enough l (rw (k.walked.stands, k.tagged) w) in
        record { tag = t.0; low = t.1.0; fit = t.1.1 }

    -- and is picked
    pub picking_next : (tag : ℕ) → tags_needed addresses sizes ≤ tags_allowed x
        → (Suited x (barred_at end last (get_or addresses i 0)) → tag ≡ pick_of x (barred_at end last (get_or addresses i 0)) (get_or random i 0))
        → Picking addresses sizes random x (i + 1) (get_or addresses i 0 + get_or sizes i 0) tag (set b i tag)
    picking_next tag enough picked =
        let n = k.same in
        record {
          walked = walked_next addresses sizes i end k.walked l e;
          tagged = rw (add-one i) (sym (get_or-set_same b i tag 0 (omega arith)));
          same = rw length-set n;
          gives = put_next b i tag _ ∙ ap (put b i) here ∙ k.gives;
        }
      where
        here : tag ∷ picks_from x (get_or addresses i 0 + get_or sizes i 0) tag (drop (i + 1) addresses) (drop (i + 1) sizes) (drop (i + 1) random)
            ≡ picks_from x end last (drop i addresses) (drop i sizes) (drop i random)
        here = rw (picked (suited enough)) (sym (picks_at addresses sizes random i l (omega arith) (omega arith) x end last))
