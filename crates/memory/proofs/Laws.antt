-- The bytes of a word, and parts that were lent and came back.
-- Assumes nothing.
use Prim.Native.Nat.{ℕ, ◌+◌, ◌≤◌, ◌/◌, min}
use mathlib.Core.Path.{◌≡◌, sym, ◌∙◌}
use mathlib.Core.List.{List, ◌++◌}
use native.Mathlib.Omega.{arith}
use lib.ListN.{length, take, drop, length-take}
use Rattle.std.proofs.Common.{drop-drop}
use Rattle.std.specs.Int.{w64, to_le_bytes}
use Rattle.rules.specs.Memory.{over, put, bytes_of}
use Rattle.rules.proofs.MemoryLaws.{put_front, put_split, over-take}

-- a word's bytes as the language gives them
pub word_bytes : (w : ℕ) → to_le_bytes w64 w ≡ bytes_of 8 w
word_bytes w =
    let b2 : w / 65536 ≡ w / 256 / 256 = omega arith in
    let b3 : w / 16777216 ≡ w / 256 / 256 / 256 = omega arith in
    let b4 : w / 4294967296 ≡ w / 256 / 256 / 256 / 256 = omega arith in
    let b5 : w / 1099511627776 ≡ w / 256 / 256 / 256 / 256 / 256 = omega arith in
    let b6 : w / 281474976710656 ≡ w / 256 / 256 / 256 / 256 / 256 / 256 = omega arith in
    let b7 : w / 72057594037927936 ≡ w / 256 / 256 / 256 / 256 / 256 / 256 / 256 = omega arith in
    rw (b2, b3, b4, b5, b6, b7)

-- the front of one list under another's, as far as both reach
pub front : (n : ℕ) (d s : List ℕ) → n ≡ min (length d) (length s) → take n s ++ drop n d ≡ over d s
unfolding put
front n d s e =
    let l : length (take n s) ≡ n = simp length-take (omega arith) in
    sym (rw l at (put_front (take n s) d (omega arith))) ∙ over-take n d s (omega arith)

-- a part of k elements from a on that was lent, and came back as s
pub part_put : (a k j : ℕ) (d s : List ℕ) → j ≡ k → length s ≡ k → a + k ≤ length d → take a d ++ (s ++ drop j (drop a d)) ≡ put d a s
part_put a k j d s e l h =
    rw (e, drop-drop k a d, ← l) (sym (put_split a d s (omega arith)))
