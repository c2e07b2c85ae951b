-- The index of the word that was read last, behind the entries.
-- Assumes nothing.
use mathlib.Core.Path.{sym}
use native.Mathlib.Omega.{arith}
use Rattle.faults.proofs.packed_position.Goals as goal

pub overflow_sub-result : goal.overflow_sub-result
overflow_sub-result c = c.requires.0.read c.requires.1

pub returns : goal.returns
returns c = record {
  reported = sym (c.requires.0.position c.requires.1);
  small = omega arith;
}
