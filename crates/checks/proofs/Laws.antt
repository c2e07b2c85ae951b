-- Checks 10 to 14 by their stages: the walk of the items, then the rest.
-- Assumes nothing.
use Rattle.std.specs.Prelude.{Some, None}
use Prim.Native.Nat.{ℕ}
use mathlib.Core.Path.{◌≡◌, refl, sym, ◌∙◌}
use mathlib.Core.Bool.{Bool, true, false, cond}
use mathlib.Core.List.{List}
use lib.Dec.{eqb}
use Rattle.rules.specs.Outcome.{good, bad, refuse, and_then, Refusal}
use Rattle.rules.specs.Checks.{Check, runs, checked}
use Rattle.rules.specs.First.{first, faults_at}
use Rattle.rules.specs.Descriptors.{globals_of}
use Rattle.rules.specs.Relocations.{items, position_at}
use Rattle.rules.specs.Reader.{module_of}
use Rattle.rules.specs.Examine.{facts_of}
use Rattle.rules.specs.Lending.{lending_check}
use Rattle.rules.specs.Addresses.{bad_address, addresses_check}
use Rattle.rules.specs.Choices.{choices_check}
use Rattle.rules.specs.Load.{call_checks}
use Rattle.rules.specs.Answers.{count_of}
use Rattle.rules.specs.declared.Module.{Module}
use Rattle.rules.specs.declared.Walked.{Walked}
use Rattle.demands.proofs.Reading.{module_reads}
use Rattle.tallies.specs.Tallies.{mark_of}
use Rattle.relocations.specs.Walk.{walk_of}
use Rattle.relocations.proofs.Laws.{walk_found, walk_refused}
use Rattle.checks.specs.Lent.{outside_check, lent_in}

-- a module's globals are counted
pub module_count : (f : List ℕ) (m : Module) → module_of f ≡ good m → count_of (globals_of f m.headers m.descriptors) ≡ good m.globals
module_count f m e = let r = module_reads f m e in rw (r.globals, r.count)

-- the first fault's position tells the check
outside_check_lem : (hit : ℕ → Bool) (position : ℕ → ℕ) (n : ℕ) → outside_check (mark_of hit position n) ≡ faults_at 13 position hit n
unfolding outside_check mark_of
outside_check_lem hit position n = go (eqb (first hit 0 n) n)
  where
    passed : Check
    passed = good tt

    go : (b : Bool) → outside_check (cond b None (Some (position (first hit 0 n)))) ≡ cond b passed (refuse 13 (position (first hit 0 n)))
    go true = refl
    go false = refl

module _ (f : List ℕ) (m : Module) (bias n p : ℕ) (choices : List ℕ) where
  abbrev Checks : Check
  Checks = runs (call_checks f m bias n p choices)

  -- by what the walk of the items found
  checks_stopped : (r : Refusal) → walk_of f m bias ≡ bad r → Checks ≡ bad r
  checks_stopped r w = let q = walk_refused f m bias r w in rw q

  checks_walked : (w : Walked) → walk_of f m bias ≡ good w → lent_in f m w.outside bias n p choices ≡ Checks
  unfolding lent_in addresses_check
  checks_walked w e =
      let k = walk_found f m bias w e in
      rw (k.passes, k.outside, outside_check_lem (bad_address f m bias) (position_at f m) (items m))
      (go (lending_check f m bias n p) (addresses_check f m bias) (choices_check f m choices))
    where
      go : (a b c : Check) → and_then a (λ _. and_then b (λ _. c)) ≡ and_then a (λ _. and_then b (λ _. and_then c (λ _. good tt)))
      go (good _) (good _) (good _) = refl
      go (good _) (good _) (bad r) = refl
      go (good _) (bad r) c = refl
      go (bad r) b c = refl

  -- the answer: a refusal of the walk, one of checks 12 to 14, or the facts
  pub check_stopped : (r : Refusal) → walk_of f m bias ≡ bad r → checked (call_checks f m bias n p choices) (facts_of f m) ≡ bad r
  check_stopped r w = let q = checks_stopped r w in rw q

  module _ (w : Walked) (e : walk_of f m bias ≡ good w) where
    pub check_refused : (r : Refusal) → lent_in f m w.outside bias n p choices ≡ bad r
        → checked (call_checks f m bias n p choices) (facts_of f m) ≡ bad r
    check_refused r l = let q = sym (checks_walked w e) ∙ l in rw q

    pub check_passed : lent_in f m w.outside bias n p choices ≡ good tt → checked (call_checks f m bias n p choices) (facts_of f m) ≡ good (facts_of f m)
    check_passed l = let q = sym (checks_walked w e) ∙ l in rw q
