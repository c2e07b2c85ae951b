-- From turn to turn the number from the start on is what has been read, with the rest of the number above it.
-- Assumes nothing.
use Prim.Native.Nat.{◌+◌, ◌-◌}
use mathlib.Core.Path.{◌≡◌}
use native.Mathlib.Omega.{arith}
use borrow.Author.Rules.{rules}
use Rattle.rules.proofs.BytesLaws.{got, got_none}
use Rattle.rules.proofs.UlebLaws.{start, above_extend, room, scaled, tenth, at_end, at_last, at_more, at_tenth, at_tenth_bad}
use Rattle.rules.proofs.encoding.read_uleb.Goals as goal

pub loop-init : goal.loop-init
loop-init c = (search rules, search rules, search rules, start _)

pub returns-in_err-b : goal.returns-in_err-b
returns-in_err-b c =
    let l = c.loop in
    let s = c.args.s.now in
    rw (c.from_residual.ensures, l.invariant.3, at_end s l.at (11 - l.counter) (got_none s l.at c.in_err-b.ensures.lookup))

pub overflow_mul-value : goal.overflow_mul-value
overflow_mul-value c =
    let l = c.loop in
    omega (arith, room l.counter l.scale c.from.result (omega arith) (omega arith) l.invariant.1 (omega arith))

pub overflow_add-value : goal.overflow_add-value
overflow_add-value c =
    let l = c.loop in
    omega (arith, room l.counter l.scale c.from.result (omega arith) (omega arith) l.invariant.1 (omega arith))

pub returns-then-b-lt-MORE : goal.returns-then-b-lt-MORE
returns-then-b-lt-MORE c =
    let l = c.loop in
    let s = c.args.s.now in
    let b = got s l.at c.in_ok-b.field-0 c.in_ok-b.ensures.lookup in
    rw (c.from.ensures, b.1, l.invariant.3, at_last s l.at (11 - l.counter) (omega arith) b.0 (omega arith))

pub overflow_mul-scale : goal.overflow_mul-scale
overflow_mul-scale c =
    let l = c.loop in
    omega (arith, room l.counter l.scale 0 (omega arith) (omega arith) l.invariant.1 (omega arith))

pub loop-preserved : goal.loop-preserved
loop-preserved c =
    let l = c.loop in
    let s = c.args.s.now in
    let b = got s l.at c.in_ok-b.field-0 c.in_ok-b.ensures.lookup in (
      search rules,
      scaled l.counter l.scale (omega arith) l.invariant.1,
      omega (arith, room l.counter l.scale c.from.result (omega arith) (omega arith) l.invariant.1 (omega arith)),
      rw (c.from.ensures, b.1, l.invariant.3, at_more s l.at (11 - l.counter) (omega arith) b.0 (omega arith), above_extend)
          (let e : 11 - l.counter - 1 ≡ 11 - (l.counter + 1) = omega arith in rw e),
    )

pub returns-in_err-b-2 : goal.returns-in_err-b-2
returns-in_err-b-2 c =
    let l = c.loop in
    let s = c.args.s.now in
    rw (c.from_residual-in_err-b-2.ensures, l.invariant.3, at_end s l.at (11 - l.counter) (got_none s l.at c.in_err-b-2.ensures.lookup))

pub returns-then-b-ge-TENTH_LIMIT : goal.returns-then-b-ge-TENTH_LIMIT
returns-then-b-ge-TENTH_LIMIT c =
    let l = c.loop in
    let s = c.args.s.now in
    let b = got s l.at c.in_ok-b-2.field-0 c.in_ok-b-2.ensures.lookup in
    let one : 11 - l.counter ≡ 1 = omega arith in
    rw (l.invariant.3, one, at_tenth_bad s l.at b.0 (omega arith))

pub overflow_mul-result : goal.overflow_mul-result
overflow_mul-result c =
    let l = c.loop in
    omega (arith, tenth l.counter l.scale c.from-2.result (omega arith) l.invariant.1 (omega arith))

pub overflow_add-result : goal.overflow_add-result
overflow_add-result c =
    let l = c.loop in
    let digit = tenth l.counter l.scale c.from-2.result (omega arith) l.invariant.1 (omega arith) in
    let one = tenth l.counter l.scale 1 (omega arith) l.invariant.1 (omega arith) in
    omega (arith, digit, one)

pub returns : goal.returns
returns c =
    let l = c.loop in
    let s = c.args.s.now in
    let b = got s l.at c.in_ok-b-2.field-0 c.in_ok-b-2.ensures.lookup in
    let one : 11 - l.counter ≡ 1 = omega arith in
    rw (c.from-2.ensures, b.1, l.invariant.3, one, at_tenth s l.at b.0 (omega arith))
