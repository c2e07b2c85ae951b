-- What is found of the first items, item by item.
-- Assumes nothing.
use Rattle.std.specs.Prelude.{Option, Some, None}
use Prim.Native.Nat.{ℕ, ◌+◌, ◌≤◌, ◌<◌}
use mathlib.Core.Path.{◌≡◌, refl, sym, ap, ◌∙◌}
use mathlib.Core.Bool.{Bool, true, false, cond}
use mathlib.Core.List.{List}
use mathlib.Core.Logic.{⊎_elim}
use native.Mathlib.Omega.{arith}
use native.Mathlib.Nat.{eq-or-lt_of_le}
use native.Mathlib.Numerals.{add-one}
use lib.Dec.{eqb}
use borrow.Author.Tests.{eq-eqb, ne_eqb}
use Rattle.rules.specs.Limits.{memory_limit}
use Rattle.rules.specs.First.{first, count_below}
use Rattle.rules.specs.Relocations.{place_at, live, position_at}
use Rattle.rules.specs.Addresses.{bad_address}
use Rattle.rules.specs.declared.Module.{Module}
use Rattle.rules.proofs.OutcomeLaws.{true_false, false_true}
use Rattle.rules.proofs.FirstLaws.{first-le, first_next, count_le}
use Rattle.items.specs.Table.{Rising}
use Rattle.tallies.specs.declared.Tally.{Tally}
use Rattle.tallies.specs.Tallies.{mark_of, mark_after, Rises, Tallies, Tallied}

-- ---- a first hit is marked by its position

pub mark_none : (hit : ℕ → Bool) (position : ℕ → ℕ) → mark_of hit position 0 ≡ None
unfolding mark_of first
mark_none hit position = refl

pub mark_next : (hit : ℕ → Bool) (position : ℕ → ℕ) (i : ℕ)
    → mark_of hit position (i + 1) ≡ mark_after (mark_of hit position i) (hit i) (position i)
unfolding mark_of mark_after
mark_next hit position i =
    rw (first_next hit i) (⊎_elim
    (λ (q : first hit 0 i ≡ i). rw (q, eq-eqb i i refl) (here (hit i)))
    (λ (q : first hit 0 i < i). rw (ne_eqb (first hit 0 i) i (λ z. omega arith)) (before (hit i) q))
    (eq-or-lt_of_le (omega (arith, first-le hit i 0))))
  where
    here : (b : Bool) → cond (eqb (cond b i (i + 1)) (i + 1)) None (Some (position (cond b i (i + 1)))) ≡ cond b (Some (position i)) None
    here true = rw (ne_eqb i (i + 1) (λ z. omega arith))
    here false = rw (eq-eqb (i + 1) (i + 1) refl)

    before : (b : Bool) → first hit 0 i < i
        → cond (eqb (cond b (first hit 0 i) (first hit 0 i)) (i + 1)) None (Some (position (cond b (first hit 0 i) (first hit 0 i))))
        ≡ Some (position (first hit 0 i))
    before true q = rw (ne_eqb (first hit 0 i) (i + 1) (λ z. omega arith))
    before false q = rw (ne_eqb (first hit 0 i) (i + 1) (λ z. omega arith))

-- without a hit a mark stays
pub mark_same : (mark : Option ℕ) (position : ℕ) → mark_after mark false position ≡ mark
unfolding mark_after
mark_same (Some x) position = refl
mark_same None position = refl

-- ---- the tally

pub tallied_none : (f : List ℕ) (m : Module) (bias : ℕ) (t : Tally) → t.words ≡ 0 → t.outside ≡ None → t.top ≡ 0 → t.rising ≡ false
    → Tallied f m bias 0 t
unfolding count_below
tallied_none f m bias t w o e r = record {
  words = w;
  outside = o ∙ sym (mark_none (bad_address f m bias) (position_at f m));
  bounded = record { above = λ i l. absurd (omega arith); below = λ i l. absurd (omega arith) };
  limit = omega arith;
  rising = λ _ i j a b. absurd (omega arith);
  some = λ e. false_true (sym r ∙ e);
}

module _ (f : List ℕ) (m : Module) (bias i : ℕ) (t : Tally) (d : Tallied f m bias i t) where
  -- the count of words stays small
  pub words_room : t.words ≤ i
  words_room = let l = count_le (live f m) i in let c = d.words in omega arith

  -- an item that is kept
  pub tallied_kept : (place : ℕ) (hit : Bool) (position : ℕ) (v : Tally) → Tallies t place hit position v → live f m i ≡ true
      → place ≡ place_at f m i → hit ≡ bad_address f m bias i → position ≡ position_at f m i → place ≤ memory_limit → Tallied f m bias (i + 1) v
  unfolding count_below
  tallied_kept place hit position v a l e h p u = record {
    words = a.words ∙ rw (add-one i, l) (ap (λ (x : ℕ). x + 1) d.words);
    outside = a.outside ∙ rw (mark_next (bad_address f m bias) (position_at f m) i, d.outside, h, p);
    bounded = record { above = over; below = under };
    limit = a.least memory_limit d.limit u;
    rising = λ r. above (a.rises r);
    some = λ r. let x = a.low.1 in let y = a.top.1 in omega arith;
  }
    where
      over : (k : ℕ) → k < i + 1 → live f m k ≡ true → v.low ≤ place_at f m k
      over k q r =
          ⊎_elim (λ (s : k ≡ i). rw s (let x = a.low.1 in omega arith))
          (λ (s : k < i). let x = a.low.0 in let y = d.bounded.above k s r in omega arith)
          (eq-or-lt_of_le (omega arith))

      under : (k : ℕ) → k < i + 1 → live f m k ≡ true → place_at f m k ≤ v.top
      under k q r =
          ⊎_elim (λ (s : k ≡ i). rw s (let x = a.top.1 in omega arith))
          (λ (s : k < i). let x = a.top.0 in let y = d.bounded.below k s r in omega arith)
          (eq-or-lt_of_le (omega arith))

      above : Rises t place → Rising f m (i + 1)
      above r k j q w s z =
          ⊎_elim
          (λ (y : k ≡ i).
          let x = d.bounded.below j (omega arith) z in
          let o = d.bounded.above j (omega arith) z in
          rw y (⊎_elim (λ (b : t.top < t.low). absurd (omega arith)) (λ b. omega (arith, b.1)) r))
          (λ (y : k < i).
          let o = d.bounded.below j (omega arith) z in
          let g = d.bounded.above j (omega arith) z in
          ⊎_elim (λ (b : t.top < t.low). absurd (omega arith)) (λ b. d.rising b.0 k j q y s z) r)
          (eq-or-lt_of_le (omega arith))

  -- an item that is skipped
  pub tallied_skipped : live f m i ≡ false → Tallied f m bias (i + 1) t
  unfolding count_below bad_address
  tallied_skipped l = record {
    words = rw (add-one i, l) (omega (arith, d.words));
    outside = d.outside ∙ sym (mark_next (bad_address f m bias) (position_at f m) i ∙ rw l (mark_same _ _));
    bounded = record {
      above = λ k q r. d.bounded.above k (other k q r) r;
      below = λ k q r. d.bounded.below k (other k q r) r;
    };
    limit = d.limit;
    rising = λ r k j q w s z. d.rising r k j q (other k w s) s z;
    some = d.some;
  }
    where
      other : (k : ℕ) → k < i + 1 → live f m k ≡ true → k < i
      other k q r = ⊎_elim (λ (s : k ≡ i). true_false (sym r ∙ (rw s l))) (λ (s : k < i). s) (eq-or-lt_of_le (omega arith))
