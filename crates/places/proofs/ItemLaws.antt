-- Reading packed places among the items of a module: place j is item j behind the entries.
-- Assumes nothing.
use Rattle.std.proofs.Common.{◌≡◌, ℕ, ◌+◌, ◌-◌, ◌<◌, ◌≤◌, List, length, get_or, drop, sym, ap, ◌∙◌, arith, length-drop, get_or-drop, drop-drop, le-leb}
use Rattle.rules.specs.Packed.{Named, named, packed_before}
use Rattle.rules.specs.Relocations.{packed_item, place_at, position_at}
use Rattle.rules.specs.declared.Module.{Module}
use Rattle.places.specs.Ahead.{ahead, place_limit, Next, Reached, Here, Comes}
use Rattle.places.specs.declared.Run.{Run}
use Rattle.places.proofs.Laws.{standing_at, start_standing, start_ahead}

module _ (f : List ℕ) (m : Module) where
  abbrev L : List Named
  L = packed_before f m.packed.at m.packed.words

  pub reached_start : Reached f m (standing_at 0 0 0 0) 0
  reached_start = record { standing = start_standing f m.packed; left = start_ahead f m.packed }

  module _ (c v : Run) (j : ℕ) (r : Reached f m c j) where
    pub reached_more : m.packed.places ≡ length L → j < m.packed.places → 0 < length (ahead f m.packed c)
    reached_more counted l = rw (r.left, length-drop) (omega arith)

    module _ (next : Next f m.packed c v) where
      item : (i : ℕ) → i ≡ m.relocations.entries + j → packed_item f m i ≡ named (v.words - 1) v.place
      item i q =
          let z : i - m.relocations.entries ≡ j + 0 = omega arith in
          ap (λ (x : ℕ). get_or L x (named 0 0)) z ∙ sym (get_or-drop j L 0 (named 0 0))
          ∙ ap (λ (s : List Named). get_or s 0 (named 0 0)) (sym r.left) ∙ next.found

      pub reached_here : (i : ℕ) → i ≡ m.relocations.entries + j → Here f m v i
      unfolding place_at position_at
      reached_here i q = record {
        read = λ _. next.read;
        place = λ l. rw (le-leb m.relocations.entries i l) (ap (λ (x : Named). x.place) (item i q));
        position = λ l. rw (le-leb m.relocations.entries i l) (ap (λ (x : Named). m.relocations.entries + x.word) (item i q));
      }

      pub reached_next : v.place ≤ place_limit → Reached f m v (j + 1)
      reached_next l =
          let o = next.onward l in
          record {
            standing = o.0;
            left = o.1 ∙ ap (λ (s : List Named). drop 1 s) r.left ∙ drop-drop 1 j L;
          }

  -- the next packed place is an item
  pub come_next : (c v : Run) (i : ℕ) → m.relocations.entries ≤ i → Reached f m c (i - m.relocations.entries) → Next f m.packed c v
      → Comes f m i v
  come_next c v i l r n = record {
    here = reached_here c v (i - m.relocations.entries) r n i (omega arith);
    onward = λ low.
        let q : i + 1 - m.relocations.entries ≡ i - m.relocations.entries + 1 = omega arith in
        rw q (reached_next c v (i - m.relocations.entries) r n (low l));
  }
