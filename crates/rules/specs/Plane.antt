-- The tag plane: each described granule its tag, each other granule 0.
-- Assumes nothing.
use Rattle.std.specs.Prelude.{ℕ, zero, suc, ◌+◌, ◌-◌, ◌/◌, cond, ◌&&◌, List, length, get_or, replicate, ltb, leb}
use Rattle.rules.specs.Limits.{granule}
use Rattle.rules.specs.Memory.{put}
use Rattle.rules.specs.Choices.{global_at}
use Rattle.rules.specs.declared.Global.{Global}

-- a plane with the granules of a global tagged
abbrev pub put_tag : List ℕ → Global → ℕ → List ℕ
put_tag p g tag = put p (g.start / granule) (replicate g.granules tag)

-- the plane with the granules of the first k globals tagged by their choices
unfoldable pub tagged : List Global → List ℕ → List ℕ → ℕ → List ℕ
tagged gs choices p zero = p
tagged gs choices p (suc k) = put_tag (tagged gs choices p k) (global_at gs k) (get_or choices k 0)

abbrev pub plane_of : List Global → List ℕ → ℕ → List ℕ
plane_of gs choices n = tagged gs choices (replicate n 0) (length gs)

-- the tag of the granule at a run-time address; 0 outside the lent memory's run of n addresses
abbrev pub tag_address : List ℕ → ℕ → ℕ → ℕ → ℕ
tag_address plane bias n source =
    cond (leb bias source && ltb source (bias + n)) (get_or plane ((source - bias) / granule) 0) 0
