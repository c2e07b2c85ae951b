-- The loop keeps what is seen of the entries so far.
-- Assumes nothing.
use Prim.Native.Nat.{ℕ}
use mathlib.Core.Path.{◌≡◌, sym, subst}
use native.Mathlib.Omega.{arith}
use borrow.Author.Tests.{not-false}
use Rattle.laws.proofs.Items.{entry_position}
use Rattle.tallies.proofs.Laws.{words_room}
use Rattle.entry_faults.specs.Seen.{Seeing}
use Rattle.entry_faults.proofs.Laws.{seeing_clear}
use Rattle.entry_faults.proofs.pass_entries.Goals as goal

pub loop-i-init : goal.loop-i-init
loop-i-init c = (c.requires.3, omega arith)

pub is_clear_entry-requires : goal.is_clear_entry-requires
is_clear_entry-requires c =
    (c.requires.0.inside, c.loop-i-test.true, c.requires.1, c.requires.2, omega (arith, c.if-bias-ge-FAR.false))

pub entry_place-requires : goal.entry_place-requires
entry_place-requires c =
    (c.requires.0.inside, c.loop-i-test.true)

pub tally_clear-t-requires : goal.tally_clear-t-requires
tally_clear-t-requires c =
    let a = c.args in
    let room = words_room a.f.now a.m a.bias c.loop-i.i c.loop-i.t c.loop-i.invariant.0.tallied in
    let few = c.requires.0.few in
    (omega arith, c.loop-i.invariant.0.tallied.some)

pub loop-i-preserved : goal.loop-i-preserved
loop-i-preserved c =
    let a = c.args in
    let l = c.loop-i in (
      seeing_clear a.f.now a.m c.requires.0 a.bias 0 a.m.relocations.entries l.t l.i l.invariant.0 c.loop-i-test.true
          (c.is_clear_entry.ensures (not-false _ c.if-not-is_clear_entry.false-raw)) _ l.i _ c.entry_place.ensures
          (sym (entry_position a.f.now a.m l.i c.loop-i-test.true)) (c.tally_clear-t.ensures l.i),
      omega (arith, l.invariant.1),
    )

pub returns-then-bias-ge-FAR : goal.returns-then-bias-ge-FAR
returns-then-bias-ge-FAR c = record {
  onward = omega arith;
  seen = c.requires.3;
}

pub returns : goal.returns
returns c =
    let l = c.loop-i in
    let a = c.args in
    let e : l.i ≡ a.m.relocations.entries = omega (arith, l.invariant.0.below, c.loop-i-test.false) in
    record {
      onward = omega (arith, l.invariant.1);
      seen = subst (λ (x : ℕ). Seeing a.f.now a.m a.bias 0 a.m.relocations.entries l.t x) e l.invariant.0;
    }

pub returns-then-not-is_clear_entry : goal.returns-then-not-is_clear_entry
returns-then-not-is_clear_entry c = let l = c.loop-i in record {
  onward = l.invariant.1;
  seen = l.invariant.0;
}
