-- Lists of checks: every one passes, or the first that does not is answered; and checks in a row as such a list.
-- Assumes nothing.
use mathlib.Core.Path.{◌≡◌, refl}
use mathlib.Core.List.{List, [], ◌∷◌, ◌++◌}
use mathlib.Core.Logic.{inl, inr}
use Rattle.rules.specs.Outcome.{Outcome, good, bad, and_then, found, passed, Refusal}
use Rattle.rules.specs.Checks.{Check, runs, checked, All, First}
use Rattle.rules.proofs.OutcomeLaws.{good_bad, bad_good}

-- ---- of any list of checks

pub all_runs : (cs : List Check) → All cs → runs cs ≡ good tt
all_runs [] a = refl
all_runs (c ∷ cs) a = let h = all_runs cs a.1 in rw (a.0, h)

pub runs_all : (cs : List Check) → runs cs ≡ good tt → All cs
runs_all [] e = tt
runs_all (good u ∷ cs) e = (refl, runs_all cs e)
runs_all (bad r ∷ cs) e = bad_good e

pub first_runs : {r : Refusal} (cs : List Check) → First cs r → runs cs ≡ bad r
first_runs [] a = absurd a
first_runs (c ∷ cs) (inl e) = rw e
first_runs (c ∷ cs) (inr a) = let h = first_runs cs a.1 in rw (a.0, h)

pub runs-first : {r : Refusal} (cs : List Check) → runs cs ≡ bad r → First cs r
runs-first [] e = good_bad e
runs-first (good u ∷ cs) e = inr (refl, runs-first cs e)
runs-first (bad q ∷ cs) e = inl (cc)

-- ---- one list after another

pub checked-append : {A : Type 0} (xs ys : List Check) (a : A) → checked (xs ++ ys) a ≡ and_then (runs xs) (λ _. checked ys a)
checked-append [] ys a = refl
checked-append (good u ∷ xs) ys a = checked-append xs ys a
checked-append (bad r ∷ xs) ys a = refl

pub all_append : (xs ys : List Check) → All (xs ++ ys) → All xs × All ys
all_append [] ys a = (tt, a)
all_append (x ∷ xs) ys a = let h = all_append xs ys a.1 in ((a.0, h.0), h.1)

-- what comes after a list of checks that found something, by what it found
pub checked_then : {A B : Type 0} (cs : List Check) (a : A) (k : A → Outcome B) → and_then (checked cs a) k ≡ and_then (runs cs) (λ _. k a)
checked_then cs a k = go (runs cs)
  where
    go : (o : Check) → and_then (and_then o (λ _. good a)) k ≡ and_then o (λ _. k a)
    go (good u) = refl
    go (bad r) = refl

-- ---- a check in front

-- an outcome that is a list of checks, and then a
pub record Runs {A : Type 0} (o : Outcome A) (cs : List Check) (a : A) : Type 0 where
  pub so : o ≡ checked cs a

pub done : {A : Type 0} {a : A} → Runs (good a) [] a
done = record { so = refl }

-- a check that finds something; the other value stands for a refusal
pub link : {A B : Type 0} {cs : List Check} {b : B} (other : A) (o : Outcome A) (k : A → Outcome B)
    → Runs (k (found other o)) cs b → Runs (and_then o k) (passed o ∷ cs) b
link other (good a) k h = record { so = h.so }
link other (bad r) k h = record { so = refl }

pub test : {B : Type 0} {cs : List Check} {b : B} (c : Check) (k : Unit {0} → Outcome B) → Runs (k tt) cs b → Runs (and_then c k) (c ∷ cs) b
test (good u) k h = record { so = h.so }
test (bad r) k h = record { so = refl }

-- a list of checks in front
pub lists : {A B : Type 0} {cs : List Check} {b : B} (xs : List Check) (a : A) (k : A → Outcome B)
    → Runs (k a) cs b → Runs (and_then (checked xs a) k) (xs ++ cs) b
lists [] a k h = record { so = h.so }
lists (good u ∷ xs) a k h = record { so = (lists xs a k h).so }
lists (bad r ∷ xs) a k h = record { so = refl }
