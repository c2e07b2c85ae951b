-- A walk over all items in one window.
-- Assumes nothing.
use Prim.Native.Nat.{ℕ, ◌+◌, ◌-◌, ◌≤◌, ◌<◌, min}
use mathlib.Core.Path.{◌≡◌, sym, ◌∙◌}
use mathlib.Core.Bool.{Bool, true, false}
use mathlib.Core.List.{List}
use native.Mathlib.Omega.{arith}
use Rattle.rules.specs.Relocations.{place_at}
use Rattle.rules.specs.declared.Module.{Module}
use Rattle.laws.proofs.Items.{entry_position, packed-live}
use Rattle.places.specs.Ahead.{Next, Reached, Comes}
use Rattle.places.specs.declared.Run.{Run}
use Rattle.places.proofs.Laws.{standing_at}
use Rattle.places.proofs.ItemLaws.{reached_start, come_next}
use Rattle.apart.specs.Apart.{Walkable}
use Rattle.windows.specs.Window.{in_window, Wide, Met, NoneBelow, Least, kept, repeats_in, Holds}
use Rattle.windows.proofs.LeastLaws.{none_next}
use Rattle.windows.proofs.Laws.{met_packed, met_repeats, met_holds}
use Rattle.repeats.specs.Search.{Passed, Finds}
use Rattle.std.specs.Prelude.{Some}

-- ---- the walk over the packed places

module _ (f : List ℕ) (m : Module) (lo size n : ℕ) where
  -- before item i: none of the first n items before it repeats; and where the walk goes on, the map has their places
  pub record Packing (map : List ℕ) (run : Run) (i : ℕ) : Type 0 where
    pub behind : m.relocations.entries ≤ i
    pub none : (j : ℕ) → j < n → j < i → repeats_in f m lo size j ≡ false
    pub holds : i ≤ n → Holds f m lo size i map
    pub reached : i ≤ n → Reached f m run (i - m.relocations.entries)

  pub packing_start : (map : List ℕ) → Passed f m lo size n map → Packing map (standing_at 0 0 0 0) m.relocations.entries
  packing_start map p =
      let z : m.relocations.entries - m.relocations.entries ≡ 0 = omega arith in
      record { behind = omega arith; none = p.none; holds = p.holds; reached = λ _. rw z (reached_start f m) }

  module _ (walkable : Walkable f m n) (map : List ℕ) (run : Run) (i : ℕ) (w : Packing map run i) where
    module _ (l : i < n) (v : Run) (next : Next f m.packed run v) (r : Bool) (after : List ℕ)
        (met : Met lo (in_window lo size v.place) v.place map r after) where
      comes : Comes f m i v
      comes = come_next f m run v i w.behind (w.reached (omega arith)) next

      here : Met lo (kept f m lo size i) (place_at f m i) map r after
      here = met_packed f m lo size i map r after v.place w.behind (comes.here.place w.behind) met

      is : r ≡ repeats_in f m lo size i
      is = met_repeats f m lo size i map r after (w.holds (omega arith)) here

      pub packing_next : Wide size map → r ≡ false → Packing after v (i + 1)
      packing_next wide e =
          let behind = w.behind in
          let low = walkable.low i l (packed-live f m i behind) in
          let place = comes.here.place behind in
          record {
            behind = omega arith;
            none = λ j u. none_next (repeats_in f m lo size) i (λ k h. w.none k (omega arith) h) (sym is ∙ e) j;
            holds = λ _. met_holds f m lo size i map r after (w.holds (omega arith)) here wide e;
            reached = λ _. comes.onward (λ _. omega arith);
          }

      pub packing_hit : r ≡ true → Finds f m lo size n (Some (record { item = i; position = m.relocations.entries + (v.words - 1) }))
      packing_hit e =
          (record { below = l; holds = sym is ∙ e; none = λ j u. w.none j (omega arith) u }, sym (comes.here.position w.behind))

-- ---- the walk over all items: an entry repeats, or none does

module _ (f : List ℕ) (m : Module) (lo size n k : ℕ) (fewest : k ≡ min n m.relocations.entries) where
  pub entry_finds : (v : ℕ) → Least (repeats_in f m lo size) k v → Finds f m lo size n (Some (record { item = v; position = v }))
  entry_finds v w =
      let l = w.below in
      (record { below = omega arith; holds = w.holds; none = w.none }, sym (entry_position f m v (omega arith)))

  pub entries_passed : (map : List ℕ) → NoneBelow (repeats_in f m lo size) k × Holds f m lo size k map → Passed f m lo size n map
  entries_passed map w = record {
    none = λ j u e. w.0 j (omega arith);
    holds = λ h.
        let q : k ≡ m.relocations.entries = omega arith in
        rw q at w.1;
  }
