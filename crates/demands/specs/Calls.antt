-- What a call does, and what the demands say of the bytes that it was lent and that it leaves.
-- Assumes nothing.
use Rattle.std.specs.Prelude.{ℕ, ◌≡◌, List, ◌⊎◌, length}
use Rattle.rules.specs.Outcome.{Outcome, good, bad, Refusal}
use Rattle.rules.specs.Checks.{All, First}
use Rattle.rules.specs.Reader.{the_module, module_of}
use Rattle.rules.specs.Examine.{facts_of}
use Rattle.rules.specs.Load.{Loaded, load_checks, load_of, facts_after, memory_after, plane_after}
use Rattle.rules.specs.declared.Module.{Module}
use Rattle.rules.specs.declared.Facts.{Facts}
use Rattle.demands.specs.Table.{load_numbers}
use Rattle.demands.specs.Demands.{Numbered, Counted, Leaves, Tags, Rechosen}

-- the bytes of a memory and a tag plane
pub record Buffers : Type 0 where
  pub memory : List ℕ
  pub plane : List ℕ

abbrev pub buffers : List ℕ → List ℕ → Buffers
buffers memory plane = record { memory = memory; plane = plane }

-- a load by the rules into lent buffers, of which it knows the lengths alone
abbrev pub load_into : List ℕ → ℕ → List ℕ → Buffers → Outcome Loaded
load_into f bias choices lent = load_of f bias (length lent.memory) (length lent.plane) choices

-- what the contract of `load_module` says: buffers as lent, buffers as left, and the answer
pub record Call (f : List ℕ) (bias : ℕ) (choices : List ℕ) (lent left : Buffers) (answer : Outcome Facts) : Type 0 where
  pub answered : answer ≡ facts_after (load_into f bias choices lent)
  pub placed : left.memory ≡ memory_after (load_into f bias choices lent) lent.memory
  pub tagged : left.plane ≡ plane_after (load_into f bias choices lent) lent.plane

-- facts answered and bytes left, as what a load leaves
abbrev pub left_by : Facts → Buffers → Loaded
left_by a left = record { facts = a; memory = left.memory; plane = left.plane }

abbrev pub result_of : Outcome Facts → Buffers → Outcome Loaded
result_of (good a) left = good (left_by a left)
result_of (bad r) left = bad r

-- two calls were lent as many bytes
pub record AsLong (lent other : Buffers) : Type 0 where
  pub memory-length : length other.memory ≡ length lent.memory
  pub plane-length : length other.plane ≡ length lent.plane

module _ (f : List ℕ) (bias : ℕ) (choices : List ℕ) (lent left : Buffers) where
  -- a refused call: the first check that does not pass, and every byte as lent
  pub record Declined (r : Refusal) : Type 0 where
    pub numbered : Numbered load_numbers r
    pub first : First (load_checks f bias (length lent.memory) (length lent.plane) choices) r
    pub memory_kept : left.memory ≡ lent.memory
    pub plane-kept : left.plane ≡ lent.plane

  -- a call that is taken: every check passes, and the demands hold of the bytes left; a second call with any other choices
  -- and any other bytes lent gives refusal 14, or the same facts and bytes but for the tags
  pub record Accepted (a : Facts) : Type 0 where
    pub counted : Counted a
    pub from : Module
    pub reads : module_of f ≡ good from
    pub passes : All (load_checks f bias (length lent.memory) (length lent.plane) choices)
    pub leaves : Leaves f bias (length lent.memory) (length lent.plane) choices from (left_by a left)
    pub tags : Tags f bias (length lent.memory) (length lent.plane) choices from (left_by a left)
    pub again : (choices' : List ℕ) (lent' left' : Buffers) (answer' : Outcome Facts) → AsLong lent lent'
        → Call f bias choices' lent' left' answer' → Rechosen f (length lent.plane) from (left_by a left) (result_of answer' left')

  -- the demands of a call
  pub record Kept (answer : Outcome Facts) : Type 0 where
    pub either : ((a : Facts) × (answer ≡ good a)) ⊎ ((r : Refusal) × (answer ≡ bad r))
    pub declined : (r : Refusal) → answer ≡ bad r → Declined r
    pub declined_if : (r : Refusal) → First (load_checks f bias (length lent.memory) (length lent.plane) choices) r → answer ≡ bad r
    pub accepted : (a : Facts) → answer ≡ good a → Accepted a
    pub accepted_if : All (load_checks f bias (length lent.memory) (length lent.plane) choices) → answer ≡ good (facts_of f (the_module f))

-- whatever is called: the contract alone gives the demands
abbrev pub CallClaim : Type 0
CallClaim = (f : List ℕ) (bias : ℕ) (choices : List ℕ) (lent left : Buffers) (answer : Outcome Facts)
    → Call f bias choices lent left answer → Kept f bias choices lent left answer
