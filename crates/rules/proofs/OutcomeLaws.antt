-- What follows from a check that came out good.
-- Assumes nothing.
use Prim.Native.Nat.{ℕ}
use mathlib.Core.Path.{◌≡◌, refl}
use mathlib.Core.Bool.{Bool, true, false, cond, ◌&&◌}
use native.Mathlib.Omega.{arith}
use Rattle.rules.specs.Outcome.{Outcome, good, bad, and_then, refuse, require, Refusal}

-- nothing is both: a value and a refusal, or what holds and what does not
pub good_bad : {A P : Type 0} {a : A} {r : Refusal} → ◌≡◌ {A = Outcome A} (good a) (bad r) → P
good_bad e = absurd (let z : ◌≡◌ {A = ℕ} 0 1 = cc in omega arith)

pub bad_good : {A P : Type 0} {a : A} {r : Refusal} → ◌≡◌ {A = Outcome A} (bad r) (good a) → P
bad_good e = absurd (let z : ◌≡◌ {A = ℕ} 0 1 = cc in omega arith)

pub true_false : {P : Type 0} → true ≡ false → P
true_false e = absurd (let z : ◌≡◌ {A = ℕ} 0 1 = cc in omega arith)

pub false_true : {P : Type 0} → false ≡ true → P
false_true e = absurd (let z : ◌≡◌ {A = ℕ} 0 1 = cc in omega arith)

pub ruleset never = (good_bad, bad_good, true_false, false_true)

pub and_left : (a b : Bool) → (a && b) ≡ true → a ≡ true
and_left true b h = refl
and_left false b h = h

pub and_right : (a b : Bool) → (a && b) ≡ true → b ≡ true
and_right true b h = h
and_right false b h = search never

-- a test with a refusal behind it: where the outcome is good the test held
pub cond_held : {A : Type 0} {a : A} (r : Refusal) (b : Bool) (x : Outcome A) → cond b x (bad r) ≡ good a → (b ≡ true) × (x ≡ good a)
cond_held r true x h = (refl, h)
cond_held r false x h = search never

pub require_held : {u : Unit {0}} (b : Bool) (n p : ℕ) → require b n p ≡ good u → b ≡ true
require_held true n p h = refl
require_held false n p h = search never

pub require_true : (b : Bool) (n p : ℕ) → b ≡ true → require b n p ≡ good tt
require_true b n p h = rw h

pub require_false : (b : Bool) (n p : ℕ) → b ≡ false → require b n p ≡ refuse n p
require_false b n p h = rw h

-- both of two checks in a row came out good
pub record Passed {A B : Type 0} (x : Outcome A) (k : A → Outcome B) (b : B) : Type 0 where
  pub value : A
  pub here : x ≡ good value
  pub rest : k value ≡ good b

pub and_then_good : {A B : Type 0} {b : B} (x : Outcome A) (k : A → Outcome B) → and_then x k ≡ good b → Passed x k b
and_then_good (good a) k h = record { value = a; here = refl; rest = h }
and_then_good (bad r) k h = bad_good h
