-- A call is taken exactly when every check of its list passes, and refused exactly by the first that does not.
-- Assumes nothing.
use Prim.Native.Nat.{ℕ}
use mathlib.Core.Path.{◌≡◌, sym, ap, ◌∙◌}
use mathlib.Core.List.{List}
use Rattle.rules.specs.Outcome.{good, bad, Refusal}
use Rattle.rules.specs.Checks.{Check, runs, checked}
use Rattle.rules.specs.Reader.{the_module, reader_checks, module_of}
use Rattle.rules.specs.Relocations.{relocations_check}
use Rattle.rules.specs.Examine.{facts_of, module_checks, examine_checks, examined_of}
use Rattle.rules.specs.Lending.{lending_check}
use Rattle.rules.specs.Addresses.{addresses_check}
use Rattle.rules.specs.Choices.{choices_check}
use Rattle.rules.specs.Load.{Loaded, load_of, loaded, call_checks, load_checks}
use Rattle.rules.specs.declared.Module.{Module}
use Rattle.rules.proofs.OutcomeLaws.{good_bad, never, and_then_good}
use Rattle.rules.proofs.ChecksLaws.{all_runs, runs_all, first_runs, runs-first}
use Rattle.laws.proofs.Checks.{and_then_bad}
use Rattle.laws.proofs.Stages.{examined_stages, load_stages}
use Rattle.demands.specs.Demands.{Exactly, SameFacts}

-- a list of checks and what comes of it
pub exactly : {A : Type 0} (checks : List Check) (a : A) → Exactly (checked checks a) checks a
exactly {A} checks a = record {
  taken_if = λ all. let e = all_runs checks all in rw e;
  taken_only_if = λ b e.
      let h = and_then_good (runs checks) _ e in
      let z = h.rest in
      let same : b ≡ a = cc in
      (runs_all checks h.here, same);
  refused_if = λ r first. let e = first_runs checks first in rw e;
  refused_only_if = λ r e.
      and_then_bad (runs checks) _ e (runs-first checks) (λ _ _ s. good_bad s);
}

pub exactly_read : (f : List ℕ) → Exactly (module_of f) (reader_checks f) (the_module f)
unfolding module_of
exactly_read f = exactly (reader_checks f) (the_module f)

pub exactly_examined : (f : List ℕ) → Exactly (examined_of f) (examine_checks f) (facts_of f (the_module f))
unfolding examined_of
exactly_examined f = exactly (examine_checks f) (facts_of f (the_module f))

pub exactly_loaded : (f : List ℕ) (bias n p : ℕ) (choices : List ℕ)
    → Exactly (load_of f bias n p choices) (load_checks f bias n p choices) (loaded f (the_module f) bias n p choices)
unfolding load_of
exactly_loaded f bias n p choices = exactly (load_checks f bias n p choices) (loaded f (the_module f) bias n p choices)

-- the checks of a module with what is lent pass, 10 to 14, each by its name
pub record Passes (f : List ℕ) (bias n p : ℕ) (choices : List ℕ) (m : Module) : Type 0 where
  pub reads : module_of f ≡ good m
  pub relocates : relocations_check f m ≡ good tt
  pub lends : lending_check f m bias n p ≡ good tt
  pub addresses : addresses_check f m bias ≡ good tt
  pub chosen : choices_check f m choices ≡ good tt

module _ (f : List ℕ) (bias n p : ℕ) (choices : List ℕ) (m : Module) where
  pub checks_passes : module_of f ≡ good m → runs (call_checks f m bias n p choices) ≡ good tt → Passes f bias n p choices m
  checks_passes e c =
      let a = runs_all (call_checks f m bias n p choices) c in
      record { reads = e; relocates = a.0; lends = a.1.0; addresses = a.1.1.0; chosen = a.1.1.1.0 }

  pub passes_checks : Passes f bias n p choices m → runs (call_checks f m bias n p choices) ≡ good tt
  passes_checks c = all_runs (call_checks f m bias n p choices) (c.relocates, (c.lends, (c.addresses, (c.chosen, tt))))

-- l is what a load of a module that passes leaves
pub record Taken (f : List ℕ) (bias n p : ℕ) (choices : List ℕ) (l : Loaded) : Type 0 where
  pub from : Module
  pub passes : Passes f bias n p choices from
  pub leaves : l ≡ loaded f from bias n p choices

module _ (f : List ℕ) (bias n p : ℕ) (choices : List ℕ) where
  -- a load of a module that was read is its checks
  pub load_checked : (m : Module) → module_of f ≡ good m
      → load_of f bias n p choices ≡ checked (call_checks f m bias n p choices) (loaded f m bias n p choices)
  load_checked m e = load_stages f bias n p choices ∙ rw e

  pub load_unread : (r : Refusal) → module_of f ≡ bad r → load_of f bias n p choices ≡ bad r
  load_unread r e = load_stages f bias n p choices ∙ rw e

  pub load_refused : (m : Module) (r : Refusal) → module_of f ≡ good m → runs (call_checks f m bias n p choices) ≡ bad r
      → load_of f bias n p choices ≡ bad r
  load_refused m r e c = load_checked m e ∙ rw c

  pub passes_taken : (m : Module) → Passes f bias n p choices m → load_of f bias n p choices ≡ good (loaded f m bias n p choices)
  passes_taken m c = let a = passes_checks f bias n p choices m c in load_checked m c.reads ∙ rw a

  pub taken_passes : (l : Loaded) → load_of f bias n p choices ≡ good l → Taken f bias n p choices l
  taken_passes l e =
      let a = and_then_good (module_of f) _ (sym (load_stages f bias n p choices) ∙ e) in
      let m = a.value in
      let b = and_then_good (runs (call_checks f m bias n p choices)) _ a.rest in
      record { from = m; passes = checks_passes f bias n p choices m a.here b.here; leaves = cc b.rest }

  examined_taken : (l : Loaded) → load_of f bias n p choices ≡ good l → examined_of f ≡ good l.facts
  examined_taken l e =
      let t = taken_passes l e in
      let q : examined_of f ≡ good (facts_of f t.from) = examined_stages f ∙ rw (t.passes.reads, t.passes.relocates) in
      q ∙ ap (λ (z : Loaded). good z.facts) (sym t.leaves)

  examined_refused : (r : Refusal) → examined_of f ≡ bad r → load_of f bias n p choices ≡ bad r
  examined_refused r e =
      and_then_bad (module_of f) _ (sym (examined_stages f) ∙ e) (load_unread r) (λ m a e.
      and_then_bad (relocations_check f m) _ (and_then_bad (runs (module_checks f m)) _ e (λ q. q)
      (λ _ _ e. search never)) (λ b. load_checked m a ∙ rw b)
      (λ _ _ e. search never))

  pub same_facts : SameFacts f bias n p choices
  same_facts = record { facts_examined = examined_taken; refusal_examined = examined_refused }
