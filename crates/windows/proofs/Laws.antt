-- A walk over the items of a window, with the map of their places.
-- Assumes nothing.
use Prim.Native.Nat.{ℕ, ◌+◌, ◌-◌, ◌≤◌, ◌<◌}
use mathlib.Core.Path.{◌≡◌, refl, sym, ap, ◌∙◌}
use mathlib.Core.Bool.{Bool, true, false, cond, ◌&&◌}
use mathlib.Core.List.{List}
use native.Mathlib.Omega.{arith}
use lib.Dec.{leb}
use borrow.Author.Tests.{leb-true, ltb-true, le-leb, lt-ltb}
use Rattle.rules.specs.Bytes.{le}
use Rattle.rules.specs.First.{first, some_below}
use Rattle.rules.specs.Relocations.{entry_at, place_at, live}
use Rattle.rules.specs.declared.Relocations.{Relocations}
use Rattle.rules.specs.declared.Module.{Module}
use Rattle.rules.proofs.OutcomeLaws.{and_left, and_right}
use Rattle.laws.proofs.Items.{entry-live, entry_place, packed-live}
use Rattle.marks.specs.Map.{shares, hit, marked}
use Rattle.marks.proofs.Laws.{hit_mark, shares_moved}
use Rattle.windows.specs.Window.{in_window, entry_in, Wide, Empty, Met, NoneBelow, Least, kept, meets_in, repeats_in, Holds}
use Rattle.rules.proofs.FirstLaws.{some_next}
use Rattle.windows.proofs.LeastLaws.{none_next}

-- ---- a place in the window

module _ (lo size p : ℕ) where
  pub window_in : lo ≤ p → p - lo < size → in_window lo size p ≡ true
  unfolding in_window
  window_in a b = rw (le-leb lo p a, lt-ltb (p - lo) size b)

  pub in_window_lem : in_window lo size p ≡ true → (lo ≤ p) × (p - lo < size)
  unfolding in_window
  in_window_lem e = (leb-true lo p (and_left (leb lo p) _ e), ltb-true (p - lo) size (and_right (leb lo p) _ e))

-- ---- the items

module _ (f : List ℕ) (m : Module) (lo size i : ℕ) where
  pub kept_window : kept f m lo size i ≡ true → (lo ≤ place_at f m i) × (place_at f m i - lo < size)
  unfolding kept
  kept_window e = in_window_lem lo size (place_at f m i) (and_right (live f m i) _ e)

  module _ (map : List ℕ) (r : Bool) (after : List ℕ) where
    -- an entry, by its fields; a packed place
    pub met_entry : (t : Relocations) → m.relocations ≡ t → i < t.entries
        → Met lo (entry_in f lo size (entry_at t i)) (le 8 f (entry_at t i)) map r after
        → Met lo (kept f m lo size i) (place_at f m i) map r after
    unfolding kept
    met_entry t e l h =
        let u : i < m.relocations.entries = rw e l in
        rw (entry-live f m i u, entry_place f m i u, e) h

    pub met_packed : (place : ℕ) → m.relocations.entries ≤ i → place_at f m i ≡ place
        → Met lo (in_window lo size place) place map r after → Met lo (kept f m lo size i) (place_at f m i) map r after
    unfolding kept
    met_packed place l e h = rw (packed-live f m i l, e) h

    module _ (holds : Holds f m lo size i map) (met : Met lo (kept f m lo size i) (place_at f m i) map r after) where
      -- the item is hit where it repeats
      pub met_repeats : r ≡ repeats_in f m lo size i
      unfolding repeats_in
      met_repeats = met.hits ∙ go (kept f m lo size i) refl
        where
          go : (b : Bool) → kept f m lo size i ≡ b
              → (b && hit map (place_at f m i - lo)) ≡ (b && some_below (meets_in f m lo size (place_at f m i)) i)
          go true e =
              let w = kept_window e in
              let q : lo + (place_at f m i - lo) ≡ place_at f m i = omega arith in
              holds (place_at f m i - lo) ∙ ap (λ (x : ℕ). some_below (meets_in f m lo size x) i) q
          go false e = refl

      -- else its place is in the map
      pub met_holds : Wide size map → r ≡ false → Holds f m lo size (i + 1) after
      unfolding meets_in
      met_holds wide none p = go (kept f m lo size i) refl (sym met.hits ∙ none) (met.marks none)
        where
          go : (b : Bool) → kept f m lo size i ≡ b → (b && hit map (place_at f m i - lo)) ≡ false
              → after ≡ cond b (marked map (place_at f m i - lo)) map
              → hit after p ≡ some_below (meets_in f m lo size (lo + p)) (i + 1)
          go true e new a =
              let w = kept_window e in
              let q : lo + (place_at f m i - lo) ≡ place_at f m i = omega arith in
              let s = sym (shares_moved lo (place_at f m i - lo) p) ∙ ap (λ (x : ℕ). shares x (lo + p)) q in
              rw (a, hit_mark map (place_at f m i - lo) new (omega arith) p, some_next (meets_in f m lo size (lo + p)) i, e, ← holds p, s)
          go false e new a = rw (a, some_next (meets_in f m lo size (lo + p)) i, e, ← holds p)

-- ---- the walk over the entries

module _ (f : List ℕ) (m : Module) (lo size : ℕ) where
  -- before item i: none below it repeats, and the map has their places
  pub record Walking (i : ℕ) (map : List ℕ) : Type 0 where
    pub none : NoneBelow (repeats_in f m lo size) i
    pub holds : Holds f m lo size i map

  pub walking_start : (map : List ℕ) → Empty map → Walking 0 map
  unfolding first
  walking_start map empty = record { none = λ j l. absurd (omega arith); holds = λ p. empty p }

  module _ (i : ℕ) (map : List ℕ) (w : Walking i map) where
    module _ (r : Bool) (after : List ℕ) (met : Met lo (kept f m lo size i) (place_at f m i) map r after) where
      pub walking_next : Wide size map → r ≡ false → Walking (i + 1) after
      walking_next wide e = record {
        none = none_next (repeats_in f m lo size) i w.none (sym (met_repeats f m lo size i map r after w.holds met) ∙ e);
        holds = met_holds f m lo size i map r after w.holds met wide e;
      }

      pub walking_hit : (n : ℕ) → i < n → r ≡ true → Least (repeats_in f m lo size) n i
      walking_hit n l e = record { below = l; holds = sym (met_repeats f m lo size i map r after w.holds met) ∙ e; none = w.none }

    pub walking_end : (n : ℕ) → i ≡ n → NoneBelow (repeats_in f m lo size) n × Holds f m lo size n map
    walking_end n e = (rw e at w.none, rw e at w.holds)
