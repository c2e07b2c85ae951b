-- A statement that is an equivalence pins its test: whatever other test meets it is equal to it, so one that differs anywhere does not.
-- Assumes nothing.
use Prim.Native.Nat.{ℕ, zero, suc}
use mathlib.Core.Path.{◌≡◌, refl, sym, ◌∙◌}
use mathlib.Core.Bool.{Bool, true, false, ◌&&◌}
use mathlib.Core.List.{List, [], ◌∷◌}
use native.Mathlib.Omega.{arith}
use lib.Dec.{ltb}
use borrow.Author.Tests.{ltb-true}
use Rattle.rules.specs.Outcome.{good, bad, Refusal}
use Rattle.rules.specs.Checks.{Check}
use Rattle.rules.proofs.OutcomeLaws.{true_false, good_bad, and_left, and_right}
use Rattle.demands.specs.Writer.{Bytes}
use Rattle.demands.specs.Sentences.{Means, Clears, Admits}

-- two tests of one sentence are equal
pub means_pinned : {P : Type 0} (a b : Bool) → Means a P → Means b P → a ≡ b
means_pinned true true p q = refl
means_pinned true false p q = sym (q.1 (p.0 refl))
means_pinned false true p q = p.1 (q.0 refl)
means_pinned false false p q = refl

pub clears_pinned : {P : Type 0} (a b : Bool) → Clears a P → Clears b P → a ≡ b
clears_pinned true true p q = refl
clears_pinned true false p q = p.1 (q.0 refl)
clears_pinned false true p q = sym (q.1 (p.0 refl))
clears_pinned false false p q = refl

-- and so a test that differs from one that meets a sentence does not meet it
pub means_differ : {P : Type 0} (a b : Bool) → a ≡ false → b ≡ true → Means a P → Means b P → ⊥
means_differ a b e d p q = true_false (sym d ∙ sym (means_pinned a b p q) ∙ e)

pub clears_differ : {P : Type 0} (a b : Bool) → a ≡ true → b ≡ false → Clears a P → Clears b P → ⊥
clears_differ a b e d p q = true_false (sym e ∙ clears_pinned a b p q ∙ d)

pub admits_differ : {P : Type 0} {r : Refusal} (a b : Check) → a ≡ bad r → b ≡ good tt → Admits a P → Admits b P → ⊥
admits_differ a b e d p q = good_bad (sym (p.1 (q.0 d)) ∙ e)

-- a file whose elements are all below 256 is bytes
abbrev pub all_bytes : List ℕ → Bool
all_bytes [] = true
all_bytes (x ∷ xs) = ltb x 256 && all_bytes xs

pub all_bytes_lem : (s : List ℕ) → all_bytes s ≡ true → Bytes s
all_bytes_lem [] e i = omega arith
all_bytes_lem (x ∷ xs) e zero = ltb-true x 256 (and_left (ltb x 256) _ e)
all_bytes_lem (x ∷ xs) e (suc i) = all_bytes_lem xs (and_right (ltb x 256) _ e) i
