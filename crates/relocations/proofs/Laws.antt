-- Checks 10 and 11 by two searches: the lowest item with a fault of its own, and the lowest before it that repeats an earlier place.
-- Assumes nothing.
use Rattle.std.specs.Prelude.{Option, Some, None}
use Prim.Native.Nat.{ℕ, ◌%◌, ◌≤◌, ◌<◌}
use mathlib.Core.Path.{◌≡◌, refl, sym, ap, subst, ◌∙◌}
use mathlib.Core.Bool.{Bool, true, false, cond, not, ◌&&◌, ◌||◌}
use mathlib.Core.List.{List}
use mathlib.Core.Logic.{⊎_elim}
use native.Mathlib.Nat.{sub-zero, eq-or-lt_of_le}
use native.Mathlib.Omega.{arith}
use lib.Dec.{ltb, eqb}
use borrow.Author.Tests.{eq-eqb, ne_eqb, eqb-true}
use Rattle.rules.specs.Outcome.{good, bad, refuse}
use Rattle.rules.specs.Outcome as outcome
use Rattle.rules.specs.Answers.{number_of}
use Rattle.rules.specs.declared.Refusal.{Refusal}
use Rattle.judging.proofs.Laws.{number_some}
use Rattle.rules.specs.First.{first, some_below}
use Rattle.rules.specs.Addresses.{bad_address}
use Rattle.rules.specs.Relocations.{place_at, live, items, position_at, target_at, barred}
use Rattle.rules.specs.Relocations.{place_fits, has_place, taken, good_place, bad_relocation, first_bad, relocations_check, words_of}
use Rattle.rules.specs.declared.Module.{Module}
use Rattle.rules.specs.declared.Walked.{Walked}
use Rattle.rules.proofs.FirstLaws.{first-le, first_true, first_below, first_same, first_or}
use Rattle.rules.proofs.OutcomeLaws.{never, and_left, and_then_good}
use Rattle.laws.proofs.Checks.{and_then_bad}
use Rattle.judging.specs.Judges.{item_fault, has_fault}
use Rattle.entry_faults.specs.declared.Seen.{Seen}
use Rattle.tallies.specs.Tallies.{mark_of}
use Rattle.entry_faults.specs.Seen.{Sees, Says}
use Rattle.entry_faults.proofs.Laws.{no_fault, faultless_item}
use Rattle.faults.proofs.Laws.{sees_none}
use Rattle.marks.specs.Map.{shares}
use Rattle.marks.proofs.Laws.{shares-aligned}
use Rattle.repeats.specs.declared.Lowest.{Lowest}
use Rattle.repeats.specs.Repeats.{meets, repeats, Lowers}
use Rattle.relocations.specs.Walk.{walked_of, walk_of}

-- ---- one item

-- an item is bad where it has a fault of its own, or is kept and its place is taken
bad_tests : (l b p t : Bool) → (l && (b || not (p && not t))) ≡ (not (eqb (cond l (cond b 10 (cond p 0 11)) 0) 0) || (l && t))
bad_tests false b p t = refl
bad_tests true true p t = refl
bad_tests true false true true = refl
bad_tests true false true false = refl
bad_tests true false false t = refl

-- its number then
number_tests : (l b p : Bool) (k : ℕ) → cond l (cond b 10 (cond p 0 11)) 0 ≡ k → (k ≡ 0 → ⊥) → k ≡ cond b 10 11
number_tests false b p k e z = absurd (z (sym e))
number_tests true true p k e z = sym e
number_tests true false true k e z = absurd (z (sym e))
number_tests true false false k e z = sym e

module _ (f : List ℕ) (m : Module) where
  -- kept, and its place is taken by an earlier item
  repeated : ℕ → Bool
  repeated i = live f m i && taken f m (place_at f m i) i

  bad_item : (i : ℕ) → bad_relocation f m i ≡ (has_fault f m i || repeated i)
  unfolding bad_relocation good_place has_fault item_fault repeated
  bad_item i = bad_tests (live f m i) (barred (target_at f m i)) (place_fits f m.headers (place_at f m i)) (taken f m (place_at f m i) i)

  fault_number : (i k : ℕ) → k ≡ item_fault f m i → (k ≡ 0 → ⊥) → k ≡ cond (barred (target_at f m i)) 10 11
  unfolding item_fault
  fault_number i k e z =
      number_tests (live f m i) (barred (target_at f m i)) (place_fits f m.headers (place_at f m i)) k (sym e) z

  -- ---- places that fit share a byte where they are equal

  module _ (n : ℕ) (clear : (i : ℕ) → i < n → item_fault f m i ≡ 0) where
    aligned : (i : ℕ) → i < n → live f m i ≡ true → place_at f m i % 8 ≡ 0
    unfolding place_fits
    aligned i l e = eqb-true _ _ (and_left (eqb (place_at f m i % 8) 0) _ (faultless_item f m i (clear i l) e).1)

    meets_same : (i j : ℕ) → i < n → j < i → live f m i ≡ true → has_place f m (place_at f m i) j ≡ meets f m (place_at f m i) j
    unfolding has_place meets
    meets_same i j l u e = go (live f m j) refl
      where
        go : (b : Bool) → live f m j ≡ b → (b && eqb (place_at f m j) (place_at f m i)) ≡ (b && shares (place_at f m j) (place_at f m i))
        go true q = sym (shares-aligned (place_at f m j) (place_at f m i) (aligned j (omega arith) q) (aligned i l e))
        go false q = refl

    repeats_same : (i : ℕ) → i < n → repeated i ≡ repeats f m i
    unfolding repeated taken repeats
    repeats_same i l = go (live f m i) refl
      where
        go : (b : Bool) → live f m i ≡ b
            → (b && some_below (has_place f m (place_at f m i)) i) ≡ (b && some_below (meets f m (place_at f m i)) i)
        go true q =
            ap (λ (x : ℕ). ltb x i)
            (first_same (has_place f m (place_at f m i)) (meets f m (place_at f m i)) i 0 (λ j a b. meets_same i j l (omega arith) q))
        go false q = refl

  -- ---- the lowest bad item

  lowest : (bias : ℕ) (s : Seen) → Sees f m bias (items m) s → s.item ≡ first (has_fault f m) 0 (items m)
  lowest bias s d = d.lowest ∙ ap (λ (x : ℕ). first (has_fault f m) 0 x) (sub-zero (items m))

  pub seen_few : (bias : ℕ) (s : Seen) → Sees f m bias (items m) s → s.item ≤ items m
  seen_few bias s d = let e = lowest bias s d in let l = first-le (has_fault f m) (items m) 0 in omega arith

  -- the item that repeats, or the item seen last where none before it does
  module _ (bias : ℕ) (s : Seen) (d : Sees f m bias (items m) s) (r : ℕ) (w : r ≡ first (repeats f m) 0 s.item) where
    clear : (i : ℕ) → i < s.item → item_fault f m i ≡ 0
    clear i l = let e = lowest bias s d in no_fault f m i (first_below (has_fault f m) (items m) 0 i (omega arith) (omega arith))

    first_bad_lem : first_bad f m ≡ r
    unfolding first_bad
    first_bad_lem =
        first_same (bad_relocation f m) (λ i. has_fault f m i || repeated i) (items m) 0 (λ i a b. bad_item i)
        ∙ first_or (has_fault f m) repeated (items m)
        ∙ ap (λ (x : ℕ). first repeated 0 x) (sym (lowest bias s d))
        ∙ first_same repeated (repeats f m) s.item 0 (λ i a b. repeats_same s.item clear i (omega arith))
        ∙ sym w

    within : s.item ≤ items m
    within = seen_few bias s d

    -- the answer, where an item is the lowest bad one
    answer : (number position : ℕ) → r < items m → number ≡ cond (barred (target_at f m r)) 10 11
        → position ≡ position_at f m r → walk_of f m bias ≡ refuse number position
    unfolding walk_of relocations_check
    answer number position l n p = rw (first_bad_lem, ne_eqb r (items m) (λ q. omega arith), n, p)

    repeat : r < s.item → (position : ℕ) → position ≡ position_at f m r → walk_of f m bias ≡ refuse 11 position
    unfolding repeats
    repeat l position q =
        let u = within in
        let hit : repeats f m r ≡ true = rw w (first_true (repeats f m) s.item 0 (omega arith)) in
        let kept = and_left (live f m r) _ hit in
        let b = (faultless_item f m r (clear r l) kept).0 in
        answer 11 position (omega arith) (rw b) q

    fault : r ≡ s.item → (x : Refusal) → s.fault ≡ Some x → walk_of f m bias ≡ refuse (number_of x.reason) x.position
    fault e x z =
        let u = within in
        let v : s.item < items m =
        ⊎_elim (λ (q : s.item ≡ items m). absurd (let n = d.none q in cc)) (λ q. q) (eq-or-lt_of_le u) in
        let says = subst (λ (y : Option Refusal). Says y (item_fault f m s.item) (position_at f m s.item)) z (d.fault v) in
        answer (number_of x.reason) x.position (omega arith)
        (rw e (fault_number s.item (number_of x.reason) says.0 (number_some x.reason))) (rw e says.1)

    none : r ≡ s.item → s.fault ≡ None → walk_of f m bias ≡ good (record { words = s.tally.words; outside = s.tally.outside })
    unfolding walk_of walked_of relocations_check words_of
    none l z =
        let e : s.item ≡ items m = sees_none f m bias (items m) (items m) (omega arith) s d z in
        let q : r ≡ items m = omega arith in
        let t = d.tallied in
        rw (first_bad_lem, q, eq-eqb (items m) (items m) refl, t.words, t.outside, e)

  module _ (bias : ℕ) (s : Seen) (d : Sees f m bias (items m) s) where
    -- a repeat before any fault
    pub walk_repeat : (v : Lowest) → Lowers f m s.item (Some v) → walk_of f m bias ≡ refuse 11 v.position
    walk_repeat v w = repeat bias s d v.item w.lowest w.below v.position w.reported

    module _ (w : Lowers f m s.item None) where
      -- a fault, and no repeat before it
      pub walk_fault : (x : Refusal) → s.fault ≡ Some x → walk_of f m bias ≡ refuse (number_of x.reason) x.position
      walk_fault x z = fault bias s d s.item (sym w) refl x z

      -- neither
      pub walk_good : s.fault ≡ None → walk_of f m bias ≡ good (record { words = s.tally.words; outside = s.tally.outside })
      walk_good z = none bias s d s.item (sym w) refl z

-- ---- for callers: what a walk that passes has found, and the refusal of one that does not

pub record Walks (f : List ℕ) (m : Module) (bias : ℕ) (w : Walked) : Type 0 where
  pub passes : relocations_check f m ≡ good tt
  pub words : w.words ≡ words_of f m
  pub outside : w.outside ≡ mark_of (bad_address f m bias) (position_at f m) (items m)

module _ (f : List ℕ) (m : Module) (bias : ℕ) where
  pub walk_found : (w : Walked) → walk_of f m bias ≡ good w → Walks f m bias w
  unfolding walk_of walked_of
  walk_found w e =
      let a = and_then_good (relocations_check f m) _ e in
      let g = a.rest in
      record { passes = a.here; words = cc; outside = cc }

  pub walk_refused : (q : outcome.Refusal) → walk_of f m bias ≡ bad q → relocations_check f m ≡ bad q
  unfolding walk_of
  walk_refused q e = and_then_bad (relocations_check f m) _ e (λ r. r) (λ _ _ r. search never)
