-- A value that is there only where a test holds, and searches that answer so.
-- Assumes nothing.
use Prim.Native.Nat.{ℕ, ◌<◌, ◌≤◌}
use mathlib.Core.Path.{◌≡◌, refl}
use native.Mathlib.Omega.{arith}
use lib.Dec.{ltb}
use borrow.Author.Tests.{lt-ltb, le-ltb, ltb-true, ltb-false}
use Rattle.std.specs.Prelude.{Bool, true, false, Option, Some, None, is_some}
use Rattle.std.specs.Bool.{then_some}

pub is_some-then_some : {A : Type 0} (b : Bool) (x : A) → is_some (then_some b x) ≡ b
is_some-then_some true x = refl
is_some-then_some false x = refl

pub then_some-there : {A : Type 0} (b : Bool) (x y : A) → Some y ≡ then_some b x → (b ≡ true) × (y ≡ x)
then_some-there true x y e = (refl, cc)
then_some-there false x y e = absurd (cc)

pub then_some-none : {A : Type 0} (b : Bool) (x : A) → None ≡ then_some b x → b ≡ false
then_some-none true x e = absurd (cc)
then_some-none false x e = refl

-- a search below n that stopped at i, and one that came to the end
pub search-hit : (x i n : ℕ) → x ≡ i → i < n → Some i ≡ then_some (ltb x n) x
search-hit x i n e l = rw (e, lt-ltb i n l)

pub search-miss : (x n : ℕ) → x ≡ n → None ≡ then_some (ltb x n) x
search-miss x n e = rw (e, le-ltb n n (omega arith))

-- what it then says
pub search_there : (x y n : ℕ) → Some y ≡ then_some (ltb x n) x → (y ≡ x) × (y < n)
search_there x y n e = let t = then_some-there (ltb x n) x y e in let l = ltb-true x n t.0 in (t.1, omega arith)

pub search_none : (x n : ℕ) → None ≡ then_some (ltb x n) x → n ≤ x
search_none x n e = ltb-false x n (then_some-none (ltb x n) x e)

-- by its variant
pub none_of : {A : Type 0} (o : Option A) → false ≡ is_some o → o ≡ None
none_of None e = refl
none_of (Some x) e = absurd (cc)

pub some_of : {A : Type 0} (o : Option A) → true ≡ is_some o → o ≡ None → ⊥
some_of None e n = cc
some_of (Some x) e n = cc
