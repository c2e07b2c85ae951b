-- The marked rows of the bench sheet hold by computation.
-- Assumes nothing.
use mathlib.Core.Path.{refl}
use Rattle.rules.specs.Descriptors.{uleb_in, short_second, short_first, second, descriptor, global_after, read_at, step_at}
use Rattle.rules.specs.Plane.{tagged}
use Rattle.rules.specs.Memory.{put, over}
use Rattle.rules.specs.Writer.{uleb_bytes, table_from, list_check, written_of}
use Rattle.rules.specs.First.{first, count_below}
use Rattle.rules.specs.Picker.{allowed, pick_of, picks_from, abuts_at, tags_needed, tags_allowed, picked_of}
use Rattle.rules.specs.Bench.{BenchHolds}

pub bench : BenchHolds
unfolding uleb_in short_second short_first second descriptor global_after read_at step_at tagged put over uleb_bytes table_from
    list_check written_of first count_below
    allowed pick_of picks_from abuts_at tags_needed tags_allowed picked_of
bench = refl
