-- A walk over the packed places, with the map of their words.
-- Assumes nothing.
use Prim.Native.Nat.{ℕ, ◌+◌, ◌*◌, ◌-◌, ◌≤◌, ◌<◌}
use mathlib.Core.Path.{◌≡◌}
use mathlib.Core.Bool.{Bool, true, false}
use mathlib.Core.List.{List}
use native.Mathlib.Omega.{arith}
use lib.ListN.{length}
use Rattle.rules.specs.Relocations.{place_at, live}
use Rattle.rules.specs.declared.Module.{Module}
use Rattle.laws.proofs.Items.{packed-live}
use Rattle.places.specs.Ahead.{Next, Reached, Comes}
use Rattle.places.specs.declared.Run.{Run}
use Rattle.places.proofs.Laws.{standing_at}
use Rattle.places.proofs.ItemLaws.{reached_start, come_next}
use Rattle.apart.specs.Apart.{Met, Spread, Within, Walkable}
use Rattle.apart.proofs.Laws.{spread_next, met_packed}

module _ (f : List ℕ) (m : Module) (lo n : ℕ) where
  -- before item i: the items below it are told apart, the map has their words, and the run stands before it
  pub record Packing (map : List ℕ) (run : Run) (i : ℕ) : Type 0 where
    pub behind : m.relocations.entries ≤ i
    pub spread : i ≤ n → Spread f m lo i map
    pub reached : i ≤ n → Reached f m run (i - m.relocations.entries)

  pub packing_start : (map : List ℕ) → (m.relocations.entries ≤ n → Spread f m lo m.relocations.entries map)
      → Packing map (standing_at 0 0 0 0) m.relocations.entries
  packing_start map s =
      let z : m.relocations.entries - m.relocations.entries ≡ 0 = omega arith in
      record { behind = omega arith; spread = s; reached = λ _. rw z (reached_start f m) }

  module _ (walkable : Walkable f m n) (map : List ℕ) (run : Run) (i : ℕ) (w : Packing map run i) where
    module _ (l : i < n) (within : Within f m lo (length map) n) (v : Run) (next : Next f m.packed run v) where
      comes : Comes f m i v
      comes = come_next f m run v i w.behind (w.reached (omega arith)) next

      here : live f m i ≡ true
      here = packed-live f m i w.behind

      place : place_at f m i ≡ v.place
      place = comes.here.place w.behind

      -- the next place is reached
      pub packing_within : (lo ≤ v.place) × (v.place - lo < 64 * length map)
      packing_within = rw (← place) (within.above i l here, within.reached i l here)

      pub packing_next : (r : Bool) (after : List ℕ) → Met true (v.place - lo) map r after → r ≡ false → Packing after v (i + 1)
      packing_next r after met e =
          let behind = w.behind in
          let low = walkable.low i l here in
          record {
            behind = omega arith;
            spread = λ _.
                spread_next f m lo i map (w.spread (omega arith)) (λ j u b. within.above j (omega arith) b) r after
                (within.reached i l) (met_packed f m lo i map r after v.place behind place met) e;
            reached = λ _. comes.onward (λ _. omega (arith, place));
          }
