-- The items one after the other, each by itself.
-- Assumes nothing.
use Rattle.std.specs.Prelude.{Option, Some, None, Ok, IfSome, IfNone}
use Prim.Native.Nat.{ℕ, ◌+◌, ◌≤◌, ◌<◌}
use mathlib.Core.Path.{◌≡◌, refl, sym, ◌∙◌}
use mathlib.Core.Bool.{Bool, true, false, cond, not}
use mathlib.Core.List.{List}
use native.Mathlib.Omega.{arith}
use lib.Dec.{eqb}
use borrow.Author.Tests.{eq-eqb, ne_eqb, eqb-true, not-false}
use Rattle.rules.specs.Relocations.{place_at, live, position_at, target_at, barred, place_fits}
use Rattle.rules.specs.Answers.{number_of}
use Rattle.rules.specs.declared.Module.{Module}
use Rattle.rules.specs.declared.Reason.{Reason}
use Rattle.rules.proofs.OutcomeLaws.{true_false}
use Rattle.rules.proofs.FirstLaws.{first_step, first-hit, first_none}
use Rattle.judging.specs.declared.Word.{Word}
use Rattle.judging.specs.Judges.{item_fault, has_fault, Judges, Relocates}
use Rattle.judging.proofs.Laws.{place_low, number_some}
use Rattle.clear.specs.Clear.{Clear}
use Rattle.segments.specs.Spans.{Sound}
use Rattle.segments.specs.declared.Span.{Span}
use Rattle.tallies.specs.declared.Tally.{Tally}
use Rattle.tallies.specs.Tallies.{Tallies, Tallied}
use Rattle.tallies.proofs.Laws.{tallied_kept, tallied_skipped}
use Rattle.entry_faults.specs.Seen.{Ready, Seeing, SeesIn}

-- ---- one item

pub fault_none : (k : ℕ) → k ≡ 0 → not (eqb k 0) ≡ false
fault_none k e = rw (eq-eqb k 0 e)

fault_some : (k : ℕ) → (k ≡ 0 → ⊥) → not (eqb k 0) ≡ true
fault_some k e = rw (ne_eqb k 0 e)

-- where it has none and is kept, its place fits
fault_fits : (l b p : Bool) → ◌≡◌ {A = ℕ} (cond l (cond b 10 (cond p 0 11)) 0) 0 → l ≡ true → (b ≡ false) × (p ≡ true)
fault_fits true true p e q = absurd (omega arith)
fault_fits true false true e q = (refl, refl)
fault_fits true false false e q = absurd (omega arith)
fault_fits false b p e q = true_false (sym q)

module _ (f : List ℕ) (m : Module) (i : ℕ) where
  pub no_fault : has_fault f m i ≡ false → item_fault f m i ≡ 0
  unfolding has_fault
  no_fault e = eqb-true (item_fault f m i) 0 (not-false (eqb (item_fault f m i) 0) e)

  pub clear_fault : live f m i ≡ true → barred (target_at f m i) ≡ false → place_fits f m.headers (place_at f m i) ≡ true → item_fault f m i ≡ 0
  unfolding item_fault
  clear_fault l b p = rw (l, b, p)

  skipped_fault : live f m i ≡ false → item_fault f m i ≡ 0
  unfolding item_fault
  skipped_fault e = rw e

  pub faultless_item : item_fault f m i ≡ 0 → live f m i ≡ true
      → (barred (target_at f m i) ≡ false) × (place_fits f m.headers (place_at f m i) ≡ true)
  unfolding item_fault
  faultless_item e l = fault_fits (live f m i) (barred (target_at f m i)) (place_fits f m.headers (place_at f m i)) e l

-- ---- the walk from item k to item n

module _ (f : List ℕ) (m : Module) (ready : Ready f m) (bias k n : ℕ) where
  pub seeing_start : (t : Tally) → k ≤ n → Tallied f m bias k t → Seeing f m bias k n t k
  seeing_start t l d = record { above = omega arith; below = l; lowest = refl; tallied = d }

  module _ (t : Tally) (i : ℕ) (w : Seeing f m bias k n t i) where
    -- an item without a fault
    seeing_more : i < n → item_fault f m i ≡ 0 → (v : Tally) → Tallied f m bias (i + 1) v → Seeing f m bias k n v (i + 1)
    unfolding has_fault
    seeing_more l e v d =
        let a = w.above in
        record {
          above = omega arith;
          below = omega arith;
          lowest = w.lowest ∙ first_step (has_fault f m) i n l (fault_none (item_fault f m i) e);
          tallied = d;
        }

    -- one in which nothing is wrong
    pub seeing_clear : i < n → Clear f m bias i → (place position : ℕ) (v : Tally) → place ≡ place_at f m i → position ≡ position_at f m i
        → Tallies t place false position v → Seeing f m bias k n v (i + 1)
    seeing_clear l c place position v e q a =
        let low = place_low f m.headers (place_at f m i) ready.loads c.fits in
        seeing_more l (clear_fault f m i c.kept c.allowed c.fits) v
        (tallied_kept f m bias i t w.tallied place false position v a c.kept e (sym c.within) q (omega arith))

    -- one that was judged: a word
    pub seeing_word : i < n → (word : Word) → Relocates f m bias i word → (position : ℕ) → position ≡ position_at f m i
        → (v : Tally) → Tallies t word.place word.outside position v → Seeing f m bias k n v (i + 1)
    seeing_word l word d position q v a =
        let low = place_low f m.headers (place_at f m i) ready.loads (faultless_item f m i d.fault d.kept).1 in
        seeing_more l d.fault v
        (tallied_kept f m bias i t w.tallied word.place word.outside position v a d.kept d.place d.outside q (omega arith))

    -- or skipped
    pub seeing_judged : i < n → (word : Option Word) → Judges f m bias i (Ok word) → (position : ℕ) → position ≡ position_at f m i
        → (v : Tally) (last s : Span) → Sound f m.headers true last
        → IfSome word (λ w. Tallies t w.place w.outside position v × (s ≡ w.span)) → IfNone word ((v ≡ t) × (s ≡ last))
        → Seeing f m bias k n v (i + 1) × Sound f m.headers true s
    seeing_judged l (Some word) d position q v last s sound a b = (seeing_word l word d position q v a.0, rw a.1 d.sound)
    seeing_judged l None d position q v last s sound a b =
        (seeing_more l (skipped_fault f m i d) v (rw b.0 (tallied_skipped f m bias i t w.tallied d)), rw b.1 sound)

    -- a fault
    pub seen_fault : i < n → (r : Reason) → number_of r ≡ item_fault f m i → (position : ℕ) → position ≡ position_at f m i
        → SeesIn f m bias k n (record { item = i; fault = Some (record { reason = r; position = position }); tally = t })
    unfolding has_fault
    seen_fault l r e position q = record {
      lowest = sym (w.lowest ∙ first-hit (has_fault f m) i n l (fault_some (item_fault f m i) (λ x. number_some r (e ∙ x))));
      fault = λ _. (e, q);
      none = λ x. absurd (omega arith);
      tallied = w.tallied;
    }

    pub seen_end : n ≤ i → SeesIn f m bias k n (record { item = i; fault = None; tally = t })
    seen_end l =
        let u = w.below in
        record {
          lowest = sym (w.lowest ∙ first_none (has_fault f m) i n u l ∙ omega arith);
          fault = λ x. absurd (omega arith);
          none = λ _. refl;
          tallied = w.tallied;
        }
