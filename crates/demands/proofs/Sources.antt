-- The tag that a source gives: the choice of the global that holds it, or 0.
-- Assumes nothing.
use Prim.Native.Nat.{ℕ, ◌+◌, ◌*◌, ◌-◌, ◌/◌, ◌≤◌, ◌<◌}
use mathlib.Core.Path.{◌≡◌, refl}
use mathlib.Core.Bool.{◌&&◌}
use mathlib.Core.List.{List}
use native.Mathlib.Omega.{arith}
use lib.ListN.{length, get_or}
use lib.Dec.{leb, ltb}
use borrow.Author.Tests.{leb-true, le-leb, lt-ltb}
use Rattle.rules.specs.Limits.{granule}
use Rattle.rules.specs.Choices.{global_at}
use Rattle.rules.specs.Plane.{plane_of}
use Rattle.rules.specs.Words.{Source, none, at, tag_of}
use Rattle.rules.specs.declared.Global.{Global}
use Rattle.rules.proofs.OutcomeLaws.{and_left}
use Rattle.rules.proofs.BoolLaws.{cond_case}
use Rattle.laws.proofs.Globals.{Rising}
use Rattle.demands.proofs.Plane.{plane-holds, plane_empty}
use Rattle.demands.specs.Demands.{Holds}

module _ (plane : List ℕ) (below : (x : ℕ) → get_or plane x 0 < 16) where
  pub tag_of-small : (bias n : ℕ) (s : Source) → tag_of plane bias n s < 16
  tag_of-small bias n none = omega arith
  tag_of-small bias n (at s) =
      cond_case (λ (t : ℕ). t < 16) (leb bias s && ltb s (bias + n)) _ _ (λ q. below ((s - bias) / granule)) (λ q. omega arith)

module _ (gs : List Global) (choices : List ℕ) (p limit : ℕ) (rising : Rising gs limit) (fits : limit ≤ 16 * p)
    (bias n : ℕ) (planed : 16 * p ≡ n) where
  pub tag_held : (j : ℕ) → j < length gs → (s : Source) → Holds bias (global_at gs j) s → tag_of (plane_of gs choices p) bias n s ≡ get_or choices j 0
  tag_held j l none h = absurd h
  tag_held j l (at s) h =
      let b = rising.each j l in
      let x = le-leb bias s (omega arith) in
      let y = lt-ltb s (bias + n) (omega arith) in
      rw (x, y) ((plane-holds gs choices p limit rising fits).described j ((s - bias) / granule) l
      (record { first-granule = omega arith; last_granule = omega arith }))

  pub tag_unheld : (s : Source) → ((j : ℕ) → j < length gs → Holds bias (global_at gs j) s → ⊥) → tag_of (plane_of gs choices p) bias n s ≡ 0
  tag_unheld none out = refl
  tag_unheld (at s) out =
      cond_case (λ (t : ℕ). t ≡ 0) (leb bias s && ltb s (bias + n)) _ _
      (λ q.
      let x = leb-true bias s (and_left (leb bias s) _ q) in
      plane_empty gs choices p limit rising fits ((s - bias) / granule) (λ j l w.
      let b = rising.each j l in
      out j l (omega arith, omega arith)))
      (λ q. refl)
