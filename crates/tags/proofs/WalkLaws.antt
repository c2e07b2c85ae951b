-- One turn of each walk, by the reading that the code has.
-- Assumes nothing.
use Prim.Native.Nat.{ℕ, suc, ◌+◌, ◌-◌, ◌≤◌, ◌<◌}
use mathlib.Core.Path.{◌≡◌, refl, sym, ap, ◌∙◌}
use mathlib.Core.Bool.{Bool, true, false}
use mathlib.Core.List.{List}
use native.Mathlib.Omega.{arith}
use lib.ListN.{get_or}
use Rattle.rules.specs.Outcome.{Outcome, good, bad, refuse}
use Rattle.rules.specs.Descriptors.{Read, finished, global, step_at, reading_of}
use Rattle.rules.specs.Plane.{put_tag}
use Rattle.rules.specs.declared.Cursor.{Cursor}
use Rattle.rules.specs.declared.Global.{Global}
use Rattle.std.specs.Prelude.{Some, None}
use Rattle.std.proofs.lemmas.Option.{none-some}
use Rattle.descriptors.proofs.Laws.{reading_global}
use Rattle.tags.specs.Walks.{on_step, bad_after, choices_from, tagged_from}

module _ (s : List ℕ) (i : ℕ) (c : Cursor) where
  -- no global was read
  pub step_none : {A : Type 0} (done : A) (more : Global → Cursor → A) → reading_of (step_at i s c) ≡ None → on_step (step_at i s c) done more ≡ done
  step_none {A} done more z = go (step_at i s c) z
    where
      go : (o : Outcome Read) → reading_of o ≡ None → on_step o done more ≡ done
      go (good finished) q = refl
      go (good (global g next)) q = absurd (none-some (g, next) (sym q))
      go (bad x) q = refl

  -- one was read
  pub step_some : {A : Type 0} (done : A) (more : Global → Cursor → A) (g : Global) (next : Cursor)
      → reading_of (step_at i s c) ≡ Some (g, next) → on_step (step_at i s c) done more ≡ more g next
  step_some {A} done more g next e = ap (λ (o : Outcome Read). on_step o done more) (reading_global (step_at i s c) g next e)

  module _ (choices : List ℕ) (n : ℕ) (l : i < n) where
    -- ---- check 14

    pub choices_none : (last : ℕ) → reading_of (step_at i s c) ≡ None → choices_from s choices (n - i) i last c ≡ good tt
    unfolding choices_from
    choices_none last z = let k : n - i ≡ suc (n - (i + 1)) = omega arith in rw k (step_none _ _ z)

    pub tagged_none : (plane : List ℕ) → reading_of (step_at i s c) ≡ None → tagged_from s choices plane (n - i) i c ≡ plane
    unfolding tagged_from
    tagged_none plane z = let k : n - i ≡ suc (n - (i + 1)) = omega arith in rw k (step_none _ _ z)

    module _ (g : Global) (next : Cursor) (e : reading_of (step_at i s c) ≡ Some (g, next)) where
      pub choices_bad : (last choice : ℕ) (b : Bool) → choice ≡ get_or choices i 0
          → b ≡ bad_after i c.end last g.start choice → b ≡ true → choices_from s choices (n - i) i last c ≡ refuse 14 i
      unfolding choices_from
      choices_bad last choice b d j h =
          let k : n - i ≡ suc (n - (i + 1)) = omega arith in
          rw k (step_some _ _ g next e ∙ rw (← d, ← j, h))

      pub choices_next : (last choice : ℕ) (b : Bool) → choice ≡ get_or choices i 0
          → b ≡ bad_after i c.end last g.start choice → b ≡ false
          → choices_from s choices (n - i) i last c ≡ choices_from s choices (n - (i + 1)) (i + 1) choice next
      unfolding choices_from
      choices_next last choice b d j h =
          let k : n - i ≡ suc (n - (i + 1)) = omega arith in
          rw k (step_some _ _ g next e ∙ rw (← d, ← j, h))

      -- ---- the plane

      pub tagged_next : (plane new : List ℕ) (choice : ℕ) → choice ≡ get_or choices i 0 → new ≡ put_tag plane g choice
          → tagged_from s choices plane (n - i) i c ≡ tagged_from s choices new (n - (i + 1)) (i + 1) next
      unfolding tagged_from
      tagged_next plane new choice d p =
          let k : n - i ≡ suc (n - (i + 1)) = omega arith in
          rw k (step_some _ _ g next e ∙ rw (p, d))

-- after the last global
module _ (s : List ℕ) (i : ℕ) (c : Cursor) (choices : List ℕ) (n : ℕ) (l : n ≤ i) where
  pub choices_end : (last : ℕ) → choices_from s choices (n - i) i last c ≡ good tt
  unfolding choices_from
  choices_end last = let k : n - i ≡ 0 = omega arith in rw k

  pub tagged_end : (plane : List ℕ) → tagged_from s choices plane (n - i) i c ≡ plane
  unfolding tagged_from
  tagged_end plane = let k : n - i ≡ 0 = omega arith in rw k
