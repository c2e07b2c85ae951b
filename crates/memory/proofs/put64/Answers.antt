-- Eight bytes put the word where it fits, and where it may not they are put as any.
-- Assumes nothing.
use Prim.Native.Nat.{◌+◌, ◌-◌}
use mathlib.Core.Path.{refl, ◌∙◌}
use native.Mathlib.Omega.{arith}
use Rattle.rules.specs.Memory.{put_word}
use Rattle.memory.proofs.Laws.{word_bytes, part_put}
use Rattle.memory.proofs.put64.Goals as goal

pub returns-then-m-at-ge-WORD_BYTES : goal.returns-then-m-at-ge-WORD_BYTES
unfolding put_word
returns-then-m-at-ge-WORD_BYTES c =
    let a = c.args in
    let s = c.copy_from_slice.ensures.after ∙ c.to_le_bytes.ensures ∙ word_bytes a.w in
    rw s (part_put a.at 8 (a.at + 8 - a.at) a.m.now _ (omega arith) refl (omega arith))

pub returns : goal.returns
unfolding put_word
returns c = rw (c.put_bytes.ensures, c.to_le_bytes-2.ensures, word_bytes c.args.w)
