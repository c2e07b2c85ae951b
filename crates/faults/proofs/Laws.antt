-- The packed places as items, and the entries before them.
-- Assumes nothing.
use Rattle.std.specs.Prelude.{Option, Some, None}
use Rattle.std.specs.Option.{unwrap_or}
use Prim.Native.Nat.{ℕ, ◌+◌, ◌-◌, ◌≤◌, ◌<◌}
use mathlib.Core.Path.{◌≡◌, refl, sym, subst, ◌∙◌}
use mathlib.Core.Bool.{true, false}
use mathlib.Core.List.{List}
use mathlib.Core.Logic.{⊎_elim}
use native.Mathlib.Omega.{arith}
use native.Mathlib.Nat.{sub-zero, eq-or-lt_of_le}
use Rattle.rules.specs.First.{first}
use Rattle.rules.specs.Relocations.{place_at, place_fits, position_at}
use Rattle.rules.specs.Addresses.{bad_address}
use Rattle.rules.specs.Image.{loaded_at}
use Rattle.rules.specs.declared.Headers.{Headers}
use Rattle.rules.specs.declared.Module.{Module}
use Rattle.rules.specs.declared.Refusal.{Refusal}
use Rattle.rules.proofs.FirstLaws.{first-le, first_true, first_below, first_is}
use Rattle.laws.proofs.Checks.{le_or_lt}
use Rattle.laws.proofs.Items.{packed-live}
use Rattle.judging.specs.declared.Word.{Word}
use Rattle.judging.specs.Judges.{item_fault, has_fault, Relocates}
use Rattle.judging.proofs.Laws.{place_low, packed-allowed, packed_outside}
use Rattle.parts.specs.Parts.{PartFound, Parted}
use Rattle.parts.specs.declared.Part.{Part}
use Rattle.parts.proofs.Laws.{parted_none}
use Rattle.places.specs.Ahead.{Reached, Comes}
use Rattle.places.specs.declared.Run.{Run}
use Rattle.clear.specs.Clear.{Clear, ClearPlace}
use Rattle.tallies.specs.Tallies.{Tallied}
use Rattle.entry_faults.specs.declared.Seen.{Seen}
use Rattle.entry_faults.specs.Seen.{Ready, SeesIn, Says}
use Rattle.entry_faults.proofs.Laws.{faultless_item}

-- ---- packed places

module _ (f : List ℕ) (m : Module) (ready : Ready f m) (i : ℕ) (l : m.relocations.entries ≤ i) where
  -- a place in which nothing is wrong, as an item
  pub clear_packed : (bias place : ℕ) → place_at f m i ≡ place → ClearPlace f m.headers bias place → Clear f m bias i
  unfolding bad_address
  clear_packed bias place e q = record {
    kept = packed-live f m i l;
    allowed = packed-allowed f m i l;
    fits = rw e q.fits;
    within = rw (packed-live f m i l)
        (sym (packed_outside f m i l bias place (loaded_at f m.headers place) e refl) ∙ q.within);
  }

  -- behind a place that fits, the rest are ahead
  pub reached_on : (v : Run) → Comes f m i v → place_fits f m.headers (place_at f m i) ≡ true → Reached f m v (i + 1 - m.relocations.entries)
  reached_on v come p =
      come.onward (λ _.
      let low = place_low f m.headers (place_at f m i) ready.loads p in
      let q = come.here.place l in
      omega arith)

  -- one that was judged and has no fault fits
  pub judged_fits : (bias : ℕ) (word : Word) → Relocates f m bias i word → place_fits f m.headers (place_at f m i) ≡ true
  judged_fits bias word d = (faultless_item f m i d.fault d.kept).1

-- a file part that was found, or no bytes
pub parted_or : (f : List ℕ) (h : Headers) (a n : ℕ) (o : Option Part) → PartFound f h true a n o
    → Parted f h true (unwrap_or o (record { start = 0; size = 0; at = 0 }))
parted_or f h a n (Some s) d = d.0
parted_or f h a n None d = parted_none f h true

-- ---- the entries, then the packed places

module _ (f : List ℕ) (m : Module) (bias k n : ℕ) (l : k ≤ n) (s : Seen) (d : SeesIn f m bias 0 k s) where
  from_zero : (x : ℕ) → first (has_fault f m) 0 (x - 0) ≡ first (has_fault f m) 0 x
  from_zero x = rw sub-zero

  at : s.item ≡ first (has_fault f m) 0 k
  at = d.lowest ∙ from_zero k

  -- a fault among the first k items is the lowest of more
  pub sees_early : (s.fault ≡ None → ⊥) → SeesIn f m bias 0 n s
  sees_early z =
      let u = first-le (has_fault f m) k 0 in
      let e = at in
      let v : s.item < k = ⊎_elim (λ (q : s.item ≡ k). absurd (z (d.none q))) (λ q. q) (eq-or-lt_of_le (omega arith)) in
      record {
        lowest = first_is (has_fault f m) n s.item (omega arith)
            (λ _. rw e (first_true (has_fault f m) k 0 (omega arith)))
            (λ i q. first_below (has_fault f m) k 0 i (omega arith) (omega arith)) ∙ sym (from_zero n);
        fault = λ _. d.fault v;
        none = λ q. absurd (omega arith);
        tallied = d.tallied;
      }

  -- without one all of them are tallied, and the walk goes on behind them
  module _ (z : s.fault ≡ None) where
    pub sees_none : s.item ≡ k
    sees_none =
        let u = first-le (has_fault f m) k 0 in
        let e = at in
        ⊎_elim (λ (q : s.item ≡ k). q)
        (λ (q : s.item < k).
        absurd (subst (λ (x : Option Refusal). Says x (item_fault f m s.item) (position_at f m s.item)) z (d.fault q)))
        (eq-or-lt_of_le (omega arith))

    pub sees_tallied : Tallied f m bias k s.tally
    sees_tallied = rw (← sees_none) d.tallied

    pub sees_late : (v : Seen) → SeesIn f m bias k n v → SeesIn f m bias 0 n v
    sees_late v b =
        let a = b.lowest in
        let u = first-le (has_fault f m) (n - k) k in
        record {
          lowest = first_is (has_fault f m) n v.item (omega arith)
              (λ q. rw a (first_true (has_fault f m) (n - k) k (omega arith)))
              (λ i q. low i q) ∙ sym (from_zero n);
          fault = b.fault;
          none = b.none;
          tallied = b.tallied;
        }
      where
        low : (i : ℕ) → i < v.item → has_fault f m i ≡ false
        low i q =
            let a = b.lowest in
            let e = sym at ∙ sees_none in
            ⊎_elim
            (λ (u : k ≤ i). first_below (has_fault f m) (n - k) k i u (omega arith))
            (λ (u : i < k). first_below (has_fault f m) k 0 i (omega arith) (omega arith))
            (le_or_lt k i)
