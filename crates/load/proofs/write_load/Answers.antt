-- Each write leaves its part of what is written.
-- Assumes nothing.
use Rattle.load.proofs.write_load.Goals as goal

pub returns : goal.returns
returns c = record {
  placed = rw (← c.place_segments.ensures, ← c.tag_globals.ensures) c.relocate.ensures;
  tagged = c.tag_globals.ensures;
}

pub relocate-requires : goal.relocate-requires
relocate-requires c =
    c.requires
