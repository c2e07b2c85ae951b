-- The demands of `specs/Demands.antt`, of every file, bias, memory, plane and list of choices.
-- Assumes nothing.
use Prim.Native.Nat.{ℕ}
use mathlib.Core.Path.{◌≡◌, sym, subst}
use mathlib.Core.List.{List}
use Rattle.rules.specs.Outcome.{good}
use Rattle.rules.specs.Reader.{module_of}
use Rattle.rules.specs.Load.{Loaded, load_of, loaded}
use Rattle.rules.specs.declared.Module.{Module}
use Rattle.laws.proofs.Checks.{either}
use Rattle.demands.proofs.Exactly.{exactly_read, exactly_examined, exactly_loaded, same_facts, Passes, taken_passes}
use Rattle.demands.proofs.Lending.{lends}
use Rattle.demands.proofs.Standing.{passes_stands, leaves}
use Rattle.demands.proofs.Refusals.{module_packs, examines, load_refusal, load_facts}
use Rattle.demands.proofs.Guards.{idle}
use Rattle.demands.proofs.Tags.{tags}
use Rattle.demands.proofs.Order.{ordered}
use Rattle.demands.proofs.PlainRefuses.{exactly_plain, plain_refuses}
use Rattle.demands.specs.Demands.{Leaves, Tags, Claim}

-- what holds of every module that passes holds of the module and the answer of every load that is taken
of_taken : (f : List ℕ) (bias n p : ℕ) (choices : List ℕ) (P : Module → Loaded → Type 0)
    → ((m : Module) → Passes f bias n p choices m → P m (loaded f m bias n p choices))
    → (m : Module) (l : Loaded) → module_of f ≡ good m → load_of f bias n p choices ≡ good l → P m l
of_taken f bias n p choices P h m l a e =
    let t = taken_passes f bias n p choices l e in
    let b = t.passes.reads in
    let q : t.from ≡ m = cc in
    subst (λ (m : Module). P m l) q (subst (λ (l : Loaded). P t.from l) (sym t.leaves) (h t.from t.passes))

pub demands : Claim
demands f bias n p choices = record {
  examines = examines f;
  answers = record {
    either = either (load_of f bias n p choices);
    load_refusal = load_refusal f bias n p choices;
    load_facts = load_facts f bias n p choices;
    memory_kept = λ r lent e. rw e;
    plane-kept = λ r lent e. rw e;
  };
  reader = exactly_read f;
  examine = exactly_examined f;
  load = exactly_loaded f bias n p choices;
  order = ordered f bias n p choices;
  same_facts = same_facts f bias n p choices;
  packs = module_packs f;
  lends = λ m passed. lends f m bias n p passed;
  leaves = of_taken f bias n p choices (Leaves f bias n p choices) (λ m c. leaves f bias n p choices m (passes_stands f bias n p choices m c));
  tags = of_taken f bias n p choices (Tags f bias n p choices) (λ m c. tags f bias n p m choices c);
  guards_idle = idle f;
  plain_loader = exactly_plain f bias n;
  plain_refuses = plain_refuses f bias n p choices;
}
