-- The part's start and end are cut at the list's end, as `take` and `drop` do.
-- Assumes nothing.
use mathlib.Core.List.{[]}
use mathlib.Core.Path.{◌≡◌, sym, ◌∙◌}
use lib.Seq.{take_all, take-nil, drop-length}
use lib.ListN.{length, drop, length-drop, drop_of_length-le}
use Prim.Native.Nat.{◌+◌, ◌-◌}
use native.Mathlib.Omega.{arith}
use Rattle.reads.proofs.part_of.Goals as goal

pub returns-then-len-at : goal.returns-then-len-at
returns-then-len-at c =
    let a = c.args in
    let e : drop a.at a.s.now ≡ [] = drop_of_length-le a.s.now {i = a.at} (omega arith) in
    rw (e, drop-length a.s.now, take-nil) (sym (take-nil a.n))

pub returns-then-len-at-2 : goal.returns-then-len-at-2
returns-then-len-at-2 c =
    let a = c.args in
    let l : length (drop a.at a.s.now) ≡ length a.s.now - a.at = length-drop a.at a.s.now in
    take_all (length a.s.now - a.at) (drop a.at a.s.now) (omega arith) ∙ sym (take_all a.n (drop a.at a.s.now) (omega arith))

pub returns : goal.returns
returns c = let a = c.args in let e : a.at + a.n - a.at ≡ a.n = omega arith in rw e
