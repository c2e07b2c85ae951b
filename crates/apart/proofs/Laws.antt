-- Places in words of their own share no byte.
-- Assumes nothing.
use Prim.Native.Nat.{ℕ, ◌+◌, ◌*◌, ◌-◌, ◌/◌, ◌%◌, ◌≤◌, ◌<◌}
use mathlib.Core.Path.{◌≡◌, refl, sym, ap, ◌∙◌}
use mathlib.Core.Bool.{Bool, true, false, cond, not, ◌&&◌, ◌||◌}
use mathlib.Core.List.{List}
use mathlib.Core.Logic.{⊎_elim}
use native.Mathlib.Omega.{arith}
use native.Mathlib.Nat.{eq-or-lt_of_le}
use lib.ListN.{length}
use lib.Dec.{eqb}
use borrow.Author.Tests.{eqb-true, ne_eqb}
use Rattle.rules.specs.Bytes.{le}
use Rattle.rules.specs.Relocations.{entry_at, place_at, live}
use Rattle.rules.specs.declared.Module.{Module}
use Rattle.rules.proofs.OutcomeLaws.{true_false}
use Rattle.laws.proofs.Items.{entry-live, entry_place, packed-live}
use Rattle.marks.specs.Map.{shares}
use Rattle.marks.proofs.Laws.{near_shares}
use Rattle.bits.specs.Bits.{has, with_word}
use Rattle.bits.proofs.Laws.{has_same, has_kept}
use Rattle.apart.specs.Apart.{unsure, Met, Spread, Within}

-- ---- one place

-- an entry of another kind than 0 counts
read_entry : (kind : ℕ) → (kind ≡ 0 → ⊥) → not (eqb kind 0) ≡ true
read_entry kind e = rw (ne_eqb kind 0 e)

-- told apart: a word of its own
sure : (map : List ℕ) (d : ℕ) → unsure map d ≡ false → (d % 8 ≡ 0) × (has map (d / 8) ≡ false)
unfolding unsure
sure map d = go (eqb (d % 8) 0) refl
  where
    go : (b : Bool) → eqb (d % 8) 0 ≡ b → (not b || has map (d / 8)) ≡ false → (d % 8 ≡ 0) × (has map (d / 8) ≡ false)
    go true e h = (eqb-true (d % 8) 0 e, h)
    go false e h = absurd (true_false h)

-- two places in different words share no byte
words_apart : (lo p q : ℕ) (map : List ℕ) → lo ≤ p → lo ≤ q → (p - lo) % 8 ≡ 0 → (q - lo) % 8 ≡ 0 → has map ((p - lo) / 8) ≡ true
    → has map ((q - lo) / 8) ≡ false → shares p q ≡ true → ⊥
words_apart lo p q map a b x y h n s =
    let d = near_shares p q s in
    let w : (p - lo) / 8 ≡ (q - lo) / 8 = omega (arith, d.0, d.1) in
    true_false (sym h ∙ ap (λ (v : ℕ). has map v) w ∙ n)

-- ---- the items

module _ (f : List ℕ) (m : Module) (lo : ℕ) where
  -- an item more
  module _ (i : ℕ) (map : List ℕ) (s : Spread f m lo i map) (above : (j : ℕ) → j < i + 1 → live f m j ≡ true → lo ≤ place_at f m j) where
    -- which is skipped
    skipped : live f m i ≡ false → Spread f m lo (i + 1) map
    skipped e = record {
      whole = λ j l h. s.whole j (below j l h) h;
      filled = λ j l h. s.filled j (below j l h) h;
      apart = λ j k l u a b. s.apart j k l (below j u a) a b;
    }
      where
        below : (j : ℕ) → j < i + 1 → live f m j ≡ true → j < i
        below j l h = ⊎_elim (λ (q : j ≡ i). absurd (true_false (sym h ∙ rw q e))) (λ (q : j < i). q) (eq-or-lt_of_le (omega arith))

    -- or has a word of its own
    put : (place_at f m i - lo) / 8 / 8 < length map → live f m i ≡ true → (place_at f m i - lo) % 8 ≡ 0
        → has map ((place_at f m i - lo) / 8) ≡ false → Spread f m lo (i + 1) (with_word map ((place_at f m i - lo) / 8))
    put inside here e new = record {
      whole = λ j l h. ⊎_elim (λ (q : j ≡ i). rw q e) (λ (q : j < i). s.whole j q h) (eq-or-lt_of_le (omega arith));
      filled = λ j l h. ⊎_elim
          (λ (q : j ≡ i). rw q (has_same map ((place_at f m i - lo) / 8) inside new))
          (λ (q : j < i). has_kept map ((place_at f m i - lo) / 8) inside new ((place_at f m j - lo) / 8) (s.filled j q h))
          (eq-or-lt_of_le (omega arith));
      apart = λ j k l u a b. ⊎_elim (λ (q : j ≡ i). last j k l q b) (λ (q : j < i). s.apart j k l q a b) (eq-or-lt_of_le (omega arith));
    }
      where
        last : (j k : ℕ) → k < j → j ≡ i → live f m k ≡ true → shares (place_at f m k) (place_at f m j) ≡ true → ⊥
        last j k l q b =
            rw q
            (words_apart lo (place_at f m k) (place_at f m i) map (above k (omega arith) b) (above i (omega arith) here)
            (s.whole k (omega arith) b) e (s.filled k (omega arith) b) new)

    pub spread_next : (r : Bool) (after : List ℕ) → (live f m i ≡ true → place_at f m i - lo < 64 * length map)
        → Met (live f m i) (place_at f m i - lo) map r after → r ≡ false → Spread f m lo (i + 1) after
    spread_next r after reached met e = go (live f m i) refl (sym met.told ∙ e) (met.put e)
      where
        go : (b : Bool) → live f m i ≡ b → (b && unsure map (place_at f m i - lo)) ≡ false
            → after ≡ cond b (with_word map ((place_at f m i - lo) / 8)) map → Spread f m lo (i + 1) after
        go true here told q =
            let w = sure map (place_at f m i - lo) told in
            let l = reached here in
            rw q (put (omega arith) here w.0 w.1)
        go false here told q = rw q (skipped here)

-- ---- an entry, by its fields; a packed place

module _ (f : List ℕ) (m : Module) (lo i : ℕ) where
  -- an entry that is not skipped is reached
  pub entry_within : (bytes n : ℕ) → i < n → i < m.relocations.entries → Within f m lo bytes n
      → (le 4 f (entry_at m.relocations i + 8) ≡ 0 → ⊥)
      → (lo ≤ le 8 f (entry_at m.relocations i)) × (le 8 f (entry_at m.relocations i) - lo < 64 * bytes)
  entry_within bytes n u l w e =
      let here : live f m i ≡ true = rw (entry-live f m i l) (read_entry _ e) in
      rw (← entry_place f m i l) (w.above i u here, w.reached i u here)

module _ (f : List ℕ) (m : Module) (lo i : ℕ) (map : List ℕ) (r : Bool) (after : List ℕ) where
  pub met_entry : i < m.relocations.entries
      → Met (not (eqb (le 4 f (entry_at m.relocations i + 8)) 0)) (le 8 f (entry_at m.relocations i) - lo) map r after
      → Met (live f m i) (place_at f m i - lo) map r after
  met_entry l h = rw (entry-live f m i l, entry_place f m i l) h

  pub met_packed : (place : ℕ) → m.relocations.entries ≤ i → place_at f m i ≡ place → Met true (place - lo) map r after
      → Met (live f m i) (place_at f m i - lo) map r after
  met_packed place l e h = rw (packed-live f m i l, e) h
