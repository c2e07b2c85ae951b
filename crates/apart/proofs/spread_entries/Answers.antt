-- The loop keeps that the entries so far are told apart, and that the map has their words.
-- Assumes nothing.
use mathlib.Core.Path.{◌∙◌}
use native.Mathlib.Omega.{arith}
use lib.ListN.{length}
use Rattle.apart.proofs.Laws.{spread_next, entry_within, met_entry}
use Rattle.apart.proofs.spread_entries.Goals as goal

pub meet_entry-requires : goal.meet_entry-requires
meet_entry-requires c =
    let a = c.args in
    let l = c.loop-i in
    let w = rw (← l.invariant.0) at c.requires.2 in
    (omega (arith, c.requires.0), entry_within a.f.now a.m a.lo l.i (length l.map) a.n (omega arith) (omega arith) w)

pub loop-i-preserved : goal.loop-i-preserved
loop-i-preserved c =
    let a = c.args in
    let l = c.loop-i in
    let w = rw (← l.invariant.0) at c.requires.2 in
    let met = met_entry a.f.now a.m a.lo l.i l.map _ _ (omega arith) c.meet_entry.ensures in (
      c.meet_entry.auto.map ∙ l.invariant.0,
      spread_next a.f.now a.m a.lo l.i l.map l.invariant.1 (λ j u e. w.above j (omega arith) e) _ _
          (λ e. w.reached l.i (omega arith) e) met c.if-meet_entry.false,
    )
