-- Examine by its stages: the reader, then the walk.
-- Assumes nothing.
use Prim.Native.Nat.{ℕ}
use mathlib.Core.Path.{◌≡◌, ◌∙◌}
use mathlib.Core.List.{List}
use Rattle.rules.specs.Outcome.{good, bad, Refusal}
use Rattle.rules.specs.Reader.{module_of}
use Rattle.rules.specs.Examine.{facts_of, examined_of}
use Rattle.rules.specs.declared.Module.{Module}
use Rattle.rules.specs.declared.Walked.{Walked}
use Rattle.laws.proofs.Stages.{examined_stages}
use Rattle.demands.proofs.Reading.{module_reads}
use Rattle.demands.proofs.Refusals.{module_good, module_packs}
use Rattle.laws.proofs.Tables.{relocations_inside}
use Rattle.entry_faults.specs.Seen.{Ready}
use Rattle.relocations.specs.Walk.{walk_of}
use Rattle.relocations.proofs.Laws.{walk_found, walk_refused}

-- a module that was read is ready for the walk
pub module_ready : (f : List ℕ) (m : Module) → module_of f ≡ good m → Ready f m
module_ready f m e = record {
  loads = (module_reads f m e).loads;
  inside = relocations_inside f m.headers (module_reads f m e).loads m.dynamic m.relocations (module_reads f m e).relocations;
  counted = (module_good f m e).counted;
  few = (module_packs f m e).few;
}

module _ (f : List ℕ) where
  pub examined_unread : (r : Refusal) → module_of f ≡ bad r → examined_of f ≡ bad r
  examined_unread r e = examined_stages f ∙ rw e

  module _ (m : Module) (e : module_of f ≡ good m) (bias : ℕ) where
    pub examined_refused : (r : Refusal) → walk_of f m bias ≡ bad r → examined_of f ≡ bad r
    examined_refused r w = let q = walk_refused f m bias r w in examined_stages f ∙ rw (e, q)

    pub examined_taken : (w : Walked) → walk_of f m bias ≡ good w → examined_of f ≡ good (facts_of f m)
    examined_taken w k = let q = (walk_found f m bias w k).passes in examined_stages f ∙ rw (e, q)
