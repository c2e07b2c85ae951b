-- Memory before relocation: each segment's bytes at its address, all other bytes 0.
-- Assumes nothing.
use Rattle.std.specs.Prelude.{ℕ, zero, suc, ◌+◌, ◌*◌, cond, List, get_or, replicate, Option, Some, None}
use Rattle.rules.specs.Bytes.{part}
use Rattle.rules.specs.Segments.{header_at, is_load, backing_of}
use Rattle.rules.specs.Memory.{put}
use Rattle.rules.specs.declared.Headers.{Headers}
use Rattle.rules.specs.declared.Segment.{Segment}

-- the filesz bytes of a PT_LOAD from its vaddr onward
abbrev pub put_load : List ℕ → Segment → List ℕ → List ℕ
put_load f s m = cond (is_load s) (put m s.vaddr (part f s.offset s.filesz)) m

unfoldable pub loads_over : List ℕ → Headers → List ℕ → ℕ → List ℕ
loads_over f h m zero = m
loads_over f h m (suc k) = put_load f (header_at f h k) (loads_over f h m k)

-- over zeros
abbrev pub image_of : List ℕ → Headers → ℕ → List ℕ
image_of f h n = loads_over f h (replicate n 0) h.count

-- the byte loaded at an address, by the file alone: the file's where it is backed; bytes past the file part are 0
abbrev pub byte_of : List ℕ → Option ℕ → ℕ
byte_of f None = 0
byte_of f (Some at) = get_or f at 0

-- the n bytes loaded at an address, as a number
unfoldable pub loaded_in : List ℕ → Headers → ℕ → ℕ → ℕ
loaded_in f h zero a = 0
loaded_in f h (suc n) a = byte_of f (backing_of f h a 1) + 256 * loaded_in f h n (a + 1)

-- *P: a place's eight bytes as loaded, before any relocation
abbrev pub loaded_at : List ℕ → Headers → ℕ → ℕ
loaded_at f h place = loaded_in f h 8 place
