-- The loop keeps that no entry so far repeats, and that the map has their places.
-- Assumes nothing.
use mathlib.Core.Path.{◌∙◌}
use native.Mathlib.Omega.{arith}
use Rattle.windows.proofs.Laws.{walking_next, walking_hit, walking_end, met_entry}
use Rattle.windows.proofs.meet_entries.Goals as goal

pub entries-preserved : goal.entries-preserved
entries-preserved c =
    let a = c.args in
    let l = c.entries in (
      l.invariant.0,
      c.meet_entry.auto.map ∙ l.invariant.1,
      λ m e.
          walking_next a.f.now m a.lo a.size l.i l.map (l.invariant.2 m e) _ _
          (met_entry a.f.now m a.lo a.size l.i l.map _ _ a.r e (omega arith) c.meet_entry.ensures) (omega arith) c.if-meet_entry.false,
    )

pub returns-after-entries : goal.returns-after-entries
returns-after-entries c =
    let a = c.args in
    let l = c.entries in
    λ m e. rw l.invariant.0 (walking_end a.f.now m a.lo a.size l.i l.map (l.invariant.2 m e) a.n (omega arith))

pub returns-then-meet_entry : goal.returns-then-meet_entry
returns-then-meet_entry c =
    let a = c.args in
    let l = c.entries in
    λ m e.
    walking_hit a.f.now m a.lo a.size l.i l.map (l.invariant.2 m e) _ _
    (met_entry a.f.now m a.lo a.size l.i l.map _ _ a.r e (omega arith) c.meet_entry.ensures) a.n (omega arith) c.if-meet_entry.true
