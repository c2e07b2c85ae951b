-- A call's answer and bytes are the load's by the rules, so the demands hold of them.
-- Assumes nothing.
use Prim.Native.Nat.{ℕ}
use mathlib.Core.Path.{◌≡◌, ◌∙◌, subst}
use mathlib.Core.List.{List}
use lib.ListN.{length}
use Rattle.rules.specs.Outcome.{Outcome, good, bad, Refusal}
use Rattle.rules.specs.Load.{Loaded, facts_after, memory_after, plane_after}
use Rattle.rules.specs.declared.Facts.{Facts}
use Rattle.laws.proofs.Checks.{either}
use Rattle.demands.proofs.Exactly.{taken_passes}
use Rattle.demands.proofs.Theorem.{demands}
use Rattle.demands.specs.Demands.{Rechosen}
use Rattle.demands.specs.Calls.{Buffers, load_into, Call, left_by, result_of, Declined, Accepted, CallClaim}

-- what a call answers and leaves is the load by the rules
pub call_result : (f : List ℕ) (bias : ℕ) (choices : List ℕ) (lent left : Buffers) (answer : Outcome Facts) → Call f bias choices lent left answer
    → load_into f bias choices lent ≡ result_of answer left
call_result f bias choices lent left answer c = go (load_into f bias choices lent) c.answered c.placed c.tagged
  where
    go : (o : Outcome Loaded) → answer ≡ facts_after o → left.memory ≡ memory_after o lent.memory → left.plane ≡ plane_after o lent.plane
        → o ≡ result_of answer left
    go (good l) a m p = rw (a, m, p)
    go (bad r) a m p = rw a

module _ (f : List ℕ) (bias : ℕ) (choices : List ℕ) (lent left : Buffers) (answer : Outcome Facts) (c : Call f bias choices lent left answer) where
  declined : (r : Refusal) → answer ≡ bad r → Declined f bias choices lent left r
  declined r e =
      let D = demands f bias (length lent.memory) (length lent.plane) choices in
      let q : load_into f bias choices lent ≡ bad r = call_result f bias choices lent left answer c ∙ rw e in
      record {
        numbered = D.answers.load_refusal r q;
        first = D.load.refused_only_if r q;
        memory_kept = c.placed ∙ rw q;
        plane-kept = c.tagged ∙ rw q;
      }

  accepted : (a : Facts) → answer ≡ good a → Accepted f bias choices lent left a
  accepted a e =
      let D = demands f bias (length lent.memory) (length lent.plane) choices in
      let q : load_into f bias choices lent ≡ good (left_by a left) = call_result f bias choices lent left answer c ∙ rw e in
      let t = taken_passes f bias (length lent.memory) (length lent.plane) choices (left_by a left) q in
      let T = D.tags t.from (left_by a left) t.passes.reads q in
      record {
        counted = D.answers.load_facts (left_by a left) q;
        from = t.from;
        reads = t.passes.reads;
        passes = (D.load.taken_only_if (left_by a left) q).0;
        leaves = D.leaves t.from (left_by a left) t.passes.reads q;
        tags = T;
        again = λ choices' lent' left' answer' long c'.
            let r = call_result f bias choices' lent' left' answer' c' in
            subst (λ (o : Outcome Loaded). Rechosen f (length lent.plane) t.from (left_by a left) o)
            (rw (long.memory-length, long.plane-length) at r) (T.rechosen choices');
      }

pub calls : CallClaim
calls f bias choices lent left answer c =
    let D = demands f bias (length lent.memory) (length lent.plane) choices in
    record {
      either = either answer;
      declined = declined f bias choices lent left answer c;
      declined_if = λ r s. let q = D.load.refused_if r s in c.answered ∙ rw q;
      accepted = accepted f bias choices lent left answer c;
      accepted_if = λ s. let q = D.load.taken_if s in c.answered ∙ rw q;
    }
