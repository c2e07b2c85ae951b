-- Windows one after the other find the lowest repeat.
-- Assumes nothing.
use Prim.Native.Nat.{ℕ, ◌+◌, ◌-◌, ◌≤◌, ◌<◌}
use mathlib.Core.Path.{◌≡◌, refl, sym, ◌∙◌}
use mathlib.Core.Bool.{Bool, true, false}
use mathlib.Core.List.{List}
use Rattle.std.specs.Prelude.{Option, Some, None}
use Rattle.std.specs.Option.{option_or}
use mathlib.Core.Logic.{⊎_elim}
use native.Mathlib.Omega.{arith}
use Rattle.rules.specs.Relocations.{place_at, live}
use Rattle.rules.specs.declared.Module.{Module}
use Rattle.rules.proofs.FirstLaws.{at_some}
use Rattle.rules.proofs.OutcomeLaws.{true_false, and_left, and_right}
use Rattle.laws.proofs.Checks.{some_at, le_or_lt}
use Rattle.items.specs.Table.{Rising}
use Rattle.marks.specs.Map.{shares}
use Rattle.marks.proofs.Laws.{near_shares}
use Rattle.apart.specs.Apart.{Apart}
use Rattle.windows.specs.Window.{NoneBelow, kept, meets_in, repeats_in}
use Rattle.windows.proofs.LeastLaws.{least_first, none_first}
use Rattle.windows.proofs.Laws.{window_in}
use Rattle.repeats.specs.Repeats.{meets, repeats, Lowers}
use Rattle.repeats.specs.Search.{Finds, Behind, Searched}
use Rattle.repeats.specs.declared.Lowest.{Lowest}

-- the items before the repeat that was found, all of them where none was
abbrev pub before : ℕ → Option Lowest → ℕ
before n None = n
before n (Some v) = v.item

module _ (f : List ℕ) (m : Module) where
  -- an item repeats where it does in a window
  repeats_window : (lo size i : ℕ) → repeats_in f m lo size i ≡ true → repeats f m i ≡ true
  unfolding repeats_in repeats kept meets_in meets
  repeats_window lo size i e =
      let k = and_left (kept f m lo size i) _ e in
      let s = some_at (meets_in f m lo size (place_at f m i)) i (and_right (kept f m lo size i) _ e) in
      let j = s.0 in
      let h = s.1.1 in
      let live_j = and_left (live f m j) _ (and_left (kept f m lo size j) _ h) in
      let near = and_right (kept f m lo size j) _ h in
      rw (and_left (live f m i) _ k) (at_some (meets f m (place_at f m i)) i j s.1.0 (rw (live_j, near)))

  -- two items of a window that share a byte
  window_repeats : (lo size i j : ℕ) → j < i → kept f m lo size i ≡ true → kept f m lo size j ≡ true
      → shares (place_at f m j) (place_at f m i) ≡ true → repeats_in f m lo size i ≡ true
  unfolding repeats_in meets_in
  window_repeats lo size i j l ki kj near = rw ki (at_some (meets_in f m lo size (place_at f m i)) i j l (rw (kj, near)))

  keep : (lo size i : ℕ) → live f m i ≡ true → lo ≤ place_at f m i → place_at f m i - lo < size → kept f m lo size i ≡ true
  unfolding kept
  keep lo size i e a b = rw (e, window_in lo size (place_at f m i) a b)

  -- so where the later one does not repeat there, both are behind the start of the next window
  window_none : (lo size next i j : ℕ) → next + 8 ≤ lo + size → j < i → live f m i ≡ true → live f m j ≡ true
      → (lo ≤ place_at f m i) × (lo ≤ place_at f m j) → shares (place_at f m j) (place_at f m i) ≡ true → repeats_in f m lo size i ≡ false
      → (next ≤ place_at f m i) × (next ≤ place_at f m j)
  window_none lo size next i j room l a b above near clear =
      let d = near_shares (place_at f m j) (place_at f m i) near in (
        ⊎_elim (λ h. h) (λ h. absurd (both (omega arith) (omega arith))) (le_or_lt next (place_at f m i)),
        ⊎_elim (λ h. h) (λ h. absurd (both (omega arith) (omega arith))) (le_or_lt next (place_at f m j)),
      )
    where
      both : place_at f m i - lo < size → place_at f m j - lo < size → ⊥
      both x y =
          true_false (sym (window_repeats lo size i j l (keep lo size i a above.0 x) (keep lo size j b above.1 y) near) ∙ clear)

  -- an item that repeats, with the earlier one
  record Pair (i : ℕ) : Type 0 where
    here : live f m i ≡ true
    other : ℕ
    before : other < i
    there : live f m other ≡ true
    near : shares (place_at f m other) (place_at f m i) ≡ true

  repeats_pair : (i : ℕ) → repeats f m i ≡ true → Pair i
  unfolding repeats meets
  repeats_pair i e =
      let s = some_at (meets f m (place_at f m i)) i (and_right (live f m i) _ e) in
      let h = s.1.1 in
      record {
        here = and_left (live f m i) _ e;
        other = s.0;
        before = s.1.0;
        there = and_left (live f m s.0) _ h;
        near = and_right (live f m s.0) _ h;
      }

  rising_apart : (n : ℕ) → Rising f m n → Apart f m n
  rising_apart n rising i j l u a b near = omega (arith, (near_shares (place_at f m j) (place_at f m i) near).1, rising i j l u a b)

  -- a window more, which goes on by 8 bytes past the start of the next
  searched_window : (n lo size next : ℕ) (v : Option Lowest) → next + 8 ≤ lo + size → Behind f m n lo → Finds f m lo size n v
      → Searched f m n next v
  searched_window n lo size next None room s none =
      λ i j l u a b near. window_none lo size next i j room l a b (s i j l u a b near) near (none i u)
  searched_window n lo size next (Some v) room s w =
      let least = w.0 in
      let below = least.below in
      record {
        below = below;
        repeated = repeats_window lo size v.item least.holds;
        reported = w.1;
        behind = λ i j l u a b near. window_none lo size next i j room l a b (s i j l (omega arith) a b near) near (least.none i u);
      }

  -- windows from low on are searched up to an end, each below what was found before it
  pub record Searching (n low end : ℕ) (found : Option Lowest) : Type 0 where
    pub few : before n found ≤ n
    pub searched : Behind f m n low → Searched f m n end found

  less : (n lo size : ℕ) (found here : Option Lowest) → before n found ≤ n → Finds f m lo size (before n found) here
      → before n (option_or here found) ≤ n
  less n lo size found None l w = l
  less n lo size found (Some v) l w = let below = w.0.below in omega arith

  more : (n lo size next : ℕ) (found here : Option Lowest) → next + 8 ≤ lo + size → Searched f m n lo found
      → Finds f m lo size (before n found) here → Searched f m n next (option_or here found)
  more n lo size next None None room s w = searched_window n lo size next None room s w
  more n lo size next None (Some v) room s w = searched_window n lo size next (Some v) room s w
  more n lo size next (Some u) None room s w =
      record { below = s.below; repeated = s.repeated; reported = s.reported; behind = searched_window u.item lo size next None room s.behind w }
  more n lo size next (Some u) (Some v) room s w =
      let r = searched_window u.item lo size next (Some v) room s.behind w in
      let a = s.below in
      let b = r.below in
      record { below = omega arith; repeated = r.repeated; reported = r.reported; behind = r.behind }

  pub searching_next : (n low lo size next : ℕ) (found here : Option Lowest) → Searching n low lo found → next + 8 ≤ lo + size
      → Finds f m lo size (before n found) here → Searching n low next (option_or here found)
  searching_next n low lo size next found here s room w = record {
    few = less n lo size found here s.few w;
    searched = λ b. more n lo size next found here room (s.searched b) w;
  }

  -- no item repeats among those that are apart, and none where all places are searched
  none_repeats : (n : ℕ) → ((i : ℕ) → Pair i → i < n → ⊥) → NoneBelow (repeats f m) n
  none_repeats n never i u = go (repeats f m i) refl
    where
      go : (b : Bool) → repeats f m i ≡ b → repeats f m i ≡ false
      go true q = absurd (never i (repeats_pair i q) u)
      go false q = q

  apart_none : (n : ℕ) → Apart f m n → NoneBelow (repeats f m) n
  apart_none n apart = none_repeats n (λ i r u. apart i r.other r.before u r.here r.there r.near)

  behind_none : (n end : ℕ) → ((i : ℕ) → i < n → live f m i ≡ true → place_at f m i < end) → Behind f m n end → NoneBelow (repeats f m) n
  behind_none n end below s = none_repeats n (λ i r u.
      let q = s i r.other r.before u r.here r.there r.near in
      let l = below i u r.here in
      omega arith)

  pub lowers_apart : (n : ℕ) → Apart f m n → Lowers f m n None
  lowers_apart n apart = sym (none_first (repeats f m) n (apart_none n apart))

  pub lowers_rising : (n : ℕ) → Rising f m n → Lowers f m n None
  lowers_rising n rising = lowers_apart n (rising_apart n rising)

  -- all places
  pub lowers_searched : (n end : ℕ) → ((i : ℕ) → i < n → live f m i ≡ true → place_at f m i < end) → (v : Option Lowest) → Searched f m n end v
      → Lowers f m n v
  lowers_searched n end below None s = sym (none_first (repeats f m) n (behind_none n end below s))
  lowers_searched n end below (Some v) s =
      let low = s.below in
      record {
        below = low;
        lowest = least_first (repeats f m) n v.item (record {
          below = low;
          holds = s.repeated;
          none = behind_none v.item end (λ i u e. below i (omega arith) e) s.behind;
        });
        reported = s.reported;
      }

  -- the item after those that are told apart, where it repeats in a window
  pub lowers_next : (n k lo size : ℕ) (v : Lowest) → k < n → Apart f m k → Finds f m lo size (k + 1) (Some v) → Lowers f m n (Some v)
  lowers_next n k lo size v l apart w =
      let least = w.0 in
      let few = least.below in
      record {
        below = omega arith;
        lowest = least_first (repeats f m) n v.item (record {
          below = omega arith;
          holds = repeats_window lo size v.item least.holds;
          none = apart_none v.item (λ i j u b. apart i j u (omega arith));
        });
        reported = w.1;
      }
