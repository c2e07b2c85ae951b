-- Numbers of one and two bytes, descriptors that begin with one, and what was read by its numbers.
-- Assumes nothing.
use Prim.Native.Nat.{ℕ, ◌+◌, ◌*◌, ◌/◌, ◌%◌, ◌-◌, ◌≤◌, ◌<◌}
use mathlib.Core.Path.{◌≡◌, sym, ap, ◌∙◌}
use Rattle.std.specs.Prelude.{Some, None}
use Rattle.std.proofs.lemmas.Option.{none-some, same_Some}
use mathlib.Core.List.{List}
use native.Mathlib.Omega.{arith}
use lib.ListN.{length, get_or}
use borrow.Author.Tests.{lt-ltb, le-ltb, le-leb, ne_eqb}
use Rattle.rules.specs.Outcome.{Outcome, good, bad}
use Rattle.rules.specs.Limits.{address_limit, granule}
use Rattle.rules.specs.Descriptors.{saying, descriptor, Read, finished, global, end_after, said_after, global_after, read_at, step_at, reading_of}
use Rattle.rules.specs.declared.Global.{Global}
use Rattle.rules.specs.declared.Cursor.{Cursor}
use Rattle.rules.proofs.UlebLaws.{at_last, at_more}
use Rattle.rules.proofs.DescriptorLaws.{step_reads, short_one}
use Rattle.descriptors.specs.Short.{Short}

-- ---- numbers

-- a number of one byte
pub one_byte : (s : List ℕ) (at a : ℕ) → at < length s → a ≡ get_or s at 0 → a < 128 → Short s at a (at + 1)
one_byte s at a h e b =
    let low : get_or s at 0 % 128 ≡ a = omega arith in
    record {
      small = omega arith;
      inside = h;
      read = rw (at_last s at 10 (omega arith) h (omega arith), low);
      tight = rw (le-ltb (at + 1) (at + 1) (omega arith));
    }

-- a number of two bytes, the last of which is not 0
pub two_bytes : (s : List ℕ) (at a b : ℕ) → at + 1 < length s → a ≡ get_or s at 0 → b ≡ get_or s (at + 1) 0 → 128 ≤ a → a < 256
    → 0 < b → b < 128 → Short s at (a - 128 + 128 * b) (at + 2)
two_bytes s at a b h e d m k some n =
    let v : get_or s at 0 % 128 + 128 * (get_or s (at + 1) 0 % 128) ≡ a - 128 + 128 * b = omega arith in
    let next : at + 1 + 1 ≡ at + 2 = omega arith in
    let last : at + 2 - 1 ≡ at + 1 = omega arith in
    record {
      small = omega arith;
      inside = omega arith;
      read = rw (at_more s at 10 (omega arith) (omega arith) (omega arith), at_last s (at + 1) 9 (omega arith) h (omega arith), v, next);
      tight = rw (lt-ltb (at + 1) (at + 2) (omega arith), last, ne_eqb (get_or s (at + 1) 0) 0 (λ q. omega arith));
    }

-- ---- descriptors

-- a descriptor of one number, which has a size
pub read_short : (index : ℕ) (s : List ℕ) (c : Cursor) (v next : ℕ) → Short s c.position v next → 0 < v % 8 → c.end % granule ≡ 0
    → end_after c.end (saying (v / 8) (v % 8) next) ≤ address_limit
    → step_at index s c ≡ good (said_after c.end (saying (v / 8) (v % 8) next))
unfolding read_at descriptor global_after
read_short index s c v next short sized aligned fits =
    let one = short_one s c.position v next (λ q. omega arith) in
    step_reads index s c short.inside aligned (omega arith)
    ∙ rw (short.read, ne_eqb (v % 8) 0 (λ q. omega arith), one, short.tight, le-leb _ _ fits)

-- ---- what was read

-- a global that was read is the step's
pub reading_global : (o : Outcome Read) (g : Global) (c : Cursor) → reading_of o ≡ Some (g, c) → o ≡ good (global g c)
reading_global (good finished) g c e = absurd (none-some (g, c) e)
reading_global (good (global h d)) g c e = ap (λ (p : Global × Cursor). good (global p.0 p.1)) (same_Some (h, d) (g, c) e)
reading_global (bad q) g c e = absurd (none-some (g, c) e)

-- and where none was read it has none
pub reading_none : (o : Outcome Read) → reading_of o ≡ None → (g : Global) (c : Cursor) → o ≡ good (global g c) → ⊥
reading_none o e g c k = none-some (g, c) (sym e ∙ ap (λ (x : Outcome Read). reading_of x) k)
