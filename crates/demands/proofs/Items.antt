-- The packed places as items: item k behind the entries is place k of the packed table.
-- Assumes nothing.
use Prim.Native.Nat.{ℕ, zero, suc, ◌+◌, ◌-◌, ◌%◌, ◌≤◌, ◌<◌}
use mathlib.Core.Path.{◌≡◌, refl, ap, ◌∙◌}
use mathlib.Core.Bool.{Bool, true, not}
use mathlib.Core.List.{List}
use mathlib.Core.Logic.{inl, inr, ⊎_elim}
use native.Mathlib.Nat.{add-zero, add-suc}
use native.Mathlib.Omega.{arith}
use lib.ListN.{length, get_or}
use lib.Dec.{eqb}
use Rattle.rules.specs.Limits.{entry_limit}
use Rattle.rules.specs.First.{count_below}
use Rattle.rules.specs.Packed.{Named, named, packed_before}
use Rattle.rules.specs.Relocations.{kind_at, packed_item, live, words_of}
use Rattle.rules.specs.declared.Module.{Module}
use Rattle.laws.proofs.Items.{entry-live, packed-live, packed_place, packed_position}
use Rattle.laws.proofs.Packed.{each_at, ordered_at, before_none}
use Rattle.laws.proofs.PackedTable.{Good}
use Rattle.demands.proofs.Packed.{Earlier, NamedBelow, before_each, before_ordered, before_stands}
use Rattle.demands.specs.Packed.{word, Names, IsPacked, NamedBy, Listed, Before, Packs}

-- a count goes on by one for each index at which a test holds
count_same : (g h : ℕ → Bool) (n : ℕ) → ((i : ℕ) → i < n → g i ≡ h i) → count_below g n ≡ count_below h n
unfolding count_below
count_same g h zero e = refl
count_same g h (suc n) e = let ih = count_same g h n (λ i l. e i (omega arith)) in let z = e n (omega arith) in rw (ih, z)

count_all : (g : ℕ → Bool) (a n : ℕ) → ((i : ℕ) → a ≤ i → g i ≡ true) → count_below g (a + n) ≡ count_below g a + n
unfolding count_below
count_all g a zero e = rw (add-zero, add-zero)
count_all g a (suc n) e =
    let ih = count_all g a n e in
    let z = e (a + n) (omega arith) in
    rw (add-suc, z, ih) (omega arith)

module _ (f : List ℕ) (m : Module) where
  words_counted : words_of f m ≡ count_below (λ i. not (eqb (kind_at f m i) 0)) m.relocations.entries + m.packed.places
  unfolding words_of
  words_counted =
      count_all (live f m) m.relocations.entries m.packed.places (packed-live f m)
      ∙ ap (λ (x : ℕ). x + m.packed.places) (count_same (live f m) _ m.relocations.entries (entry-live f m))

  module _ (good : Good f m.relocations.entries m.packed) where
    abbrev places : List Named
    places = packed_before f m.packed.at m.packed.words

    -- where there is a packed place there is a word, and the first is even
    even_first : (k : ℕ) → IsPacked m k → word f m.packed.at 0 % 2 ≡ 0
    even_first k e = go m.packed.words refl
      where
        go : (n : ℕ) → m.packed.words ≡ n → word f m.packed.at 0 % 2 ≡ 0
        go zero q =
            let z = ap {A = List Named} length (before_none f m.packed.at) in
            let y = ap (λ (x : ℕ). length (packed_before f m.packed.at x)) q in
            let c = good.counted in
            let a = e.after in
            let b = e.listed in
            absurd (omega arith)
        go (suc n) q = good.even (omega arith)

    below : (k : ℕ) → IsPacked m k → k - m.relocations.entries < length places
    below k e = let c = good.counted in let a = e.after in let b = e.listed in omega arith

    named_by : (k : ℕ) → IsPacked m k → (w : ℕ) × NamedBy f m k w
    named_by k e =
        let s = each_at (NamedBelow f m.packed.at m.packed.words) (named 0 0) places
        (before_each f m.packed.at m.packed.words (even_first k e)) (k - m.relocations.entries) (below k e) in (
          (packed_item f m k).word,
          record { inside = s.0; position = packed_position f m k e.after; names = rw (packed_place f m k e.after) s.1 },
        )

    all_listed : (w p : ℕ) → w < m.packed.words → Names f m.packed.at w p → Listed f m w p
    all_listed w p l h =
        let s = before_stands f m.packed.at m.packed.words w p l h in
        let k = m.relocations.entries + s.at in
        let q : k - m.relocations.entries ≡ s.at = omega arith in
        let x : packed_item f m k ≡ named w p = ap (λ (i : ℕ). get_or places i (named 0 0)) q ∙ s.here in
        record {
          item = k;
          packed = record { after = omega arith; listed = let c = good.counted in let b = s.below in omega arith };
          position = packed_position f m k (omega arith) ∙ ap (λ (x : Named). m.relocations.entries + x.word) x;
          place = packed_place f m k (omega arith) ∙ ap (λ (x : Named). x.place) x;
        }

    in_order : (j k : ℕ) → j < k → IsPacked m j → IsPacked m k → Before f m j k
    in_order j k l a b =
        let u = a.after in
        let v = b.after in
        rw (packed_position f m j u, packed_position f m k v, packed_place f m j u, packed_place f m k v)
        (⊎_elim
        (λ (q : (packed_item f m j).word < (packed_item f m k).word). inl (omega arith))
        (λ (q : ((packed_item f m j).word ≡ (packed_item f m k).word) × ((packed_item f m j).place < (packed_item f m k).place)).
        inr (ap (λ (x : ℕ). m.relocations.entries + x) q.0, q.1))
        (ordered_at Earlier (named 0 0) places (before_ordered f m.packed.at m.packed.words (even_first k b))
        (j - m.relocations.entries) (k - m.relocations.entries) (omega arith) (below k b)))

    pub packs : m.relocations.entries ≤ entry_limit → Packs f m
    packs few = record {
      named_by = named_by;
      all_listed = all_listed;
      in_order = in_order;
      unskipped = λ k e. packed-live f m k e.after;
      counted = words_counted;
      few = good.few few;
    }
