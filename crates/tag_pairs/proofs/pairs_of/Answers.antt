-- The loop keeps that the table is filled from the last start on, where some tag is allowed.
-- Assumes nothing.
use mathlib.Core.Path.{refl, sym, ◌∙◌}
use native.Mathlib.Omega.{arith}
use lib.ListN.{length-set}
use Rattle.laws.proofs.Picks.{pick_low}
use Rattle.tag_pairs.proofs.Laws.{filled_allowed, filled_other, filled_pairs}
use Rattle.tag_pairs.proofs.pairs_of.Goals as goal
use Rattle.tag_pairs.proofs.pairs_of.Goals.{then-is_allowed, else-is_allowed}

pub overflow_add-tag : goal.overflow_add-tag
overflow_add-tag c =
    let low = pick_low c.args.excluded 0 0 in
    omega arith

pub loop-done-init : goal.loop-done-init
loop-done-init c = (
  omega arith,
  (
    refl,
    λ _. record {
      first = c.first_allowed-tag.ensures;
      second = c.first_allowed-next.ensures;
      apart = λ s a b. absurd (omega arith);
      abutting = λ s a b. absurd (omega arith);
    },
  ),
)

pub loop-done-preserved : goal.loop-done-preserved
loop-done-preserved c =
    let l = c.loop-done in
    let n = l.invariant.1.0 in
    let x = c.args.excluded in (
      omega arith,
      (
        rw (length-set, length-set) n,
        λ some. elim c.if-is_allowed.branch [
          | then-is_allowed w ↦
              let f =
              filled_allowed x l.done l.tag l.next l.pairs n (omega arith) (l.invariant.1.1 some)
              (sym c.is_allowed.ensures ∙ w.if-is_allowed.true) in
              rw (c.pair.ensures, c.pair-in-loop-done.ensures, w.tag-is, w.next-is) f
          | else-is_allowed w ↦
              let f =
              filled_other x l.done l.tag l.next l.pairs n (omega arith) (l.invariant.1.1 some) some
              (sym c.is_allowed.ensures ∙ w.if-is_allowed.false) in
              rw (c.pair.ensures, c.pair-in-loop-done.ensures, w.tag-is, w.next-is) f
        ],
      ),
    )

pub returns : goal.returns
returns c some = filled_pairs _ _ _ _ _ (omega arith) (c.loop-done.invariant.1.1 some)
