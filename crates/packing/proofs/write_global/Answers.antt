-- One word after the other.
-- Assumes nothing.
use Rattle.packing.proofs.write_global.Goals as goal

pub returns : goal.returns
returns c =
    rw (← c.put64.ensures, ← c.put64-2.ensures, ← c.put64-3.ensures) c.put64-4.ensures
