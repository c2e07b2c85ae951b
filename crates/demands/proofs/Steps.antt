-- One step of the descriptor reader refuses, finishes or reads exactly as is demanded of it.
-- Assumes nothing.
use Prim.Native.Nat.{ℕ, ◌%◌, ◌≤◌}
use mathlib.Core.Path.{◌≡◌, refl, sym, ap, ◌∙◌, subst}
use mathlib.Core.Bool.{Bool, true, false, cond}
use mathlib.Core.List.{List}
use mathlib.Core.Logic.{◌⊎◌, inl, inr, ⊎_elim}
use native.Mathlib.Omega.{arith}
use lib.ListN.{length}
use lib.Dec.{leb, ltb, eqb}
use borrow.Author.Tests.{leb-true, leb-false, ltb-true, eqb-true, eqb-false}
use Rattle.rules.specs.Outcome.{good, bad, refusal, require, Refusal}
use Rattle.rules.specs.Limits.{address_limit, granule}
use Rattle.rules.specs.Descriptors.{uleb_at, short_at, Descriptor, descriptor, Read, finished, global, end_after, said_after}
use Rattle.rules.specs.Descriptors.{global_after, judged, read_at, step_at}
use Rattle.rules.specs.declared.Global.{Global}
use Rattle.rules.specs.declared.Cursor.{Cursor}
use Rattle.rules.proofs.OutcomeLaws.{good_bad, require_held}
use Rattle.rules.proofs.DescriptorLaws.{step_past, step_uneven, step_high, step_reads, step_ends, judged_long, judged_high, judged_low}
use Rattle.laws.proofs.Checks.{and_then_bad, require_stopped, either, le_or_lt}
use Rattle.laws.proofs.Steps.{Worded, step_kept}
use Rattle.laws.proofs.Globals.{step_next}
use Rattle.demands.specs.Steps.{Says, Ready, Fault, past_table, bad_end, unread, too_long, ends_above, Found, Moved, Steps}
use Rattle.demands.proofs.Lowest.{cond_bad}
use Rattle.demands.proofs.Forms.{read_says, says_read, unread_eight, says_past, long_shorter, short_shortest, shorter_long, shortest_short}

module _ (index : ℕ) (s : List ℕ) (c : Cursor) where
  -- ---- the descriptor at a cursor that is ready

  ready_reads : Ready s c → step_at index s c ≡ read_at index s c.position c.end
  ready_reads r = step_reads index s c r.left r.whole r.low

  -- what it says decides the rest
  said_reads : (d : Descriptor) → Says s c.position d → read_at index s c.position c.end ≡ judged index (short_at s c.position) c.end d
  unfolding read_at
  said_reads d says = rw (says_read index s c.position d says)

  -- or it does not read
  unread_reads : ((d : Descriptor) → Says s c.position d → ⊥) → read_at index s c.position c.end ≡ bad (refusal 8 index)
  unfolding read_at
  unread_reads none =
      ⊎_elim
      (λ (w : (d : Descriptor) × (descriptor index s (uleb_at s c.position) ≡ good d)).
      absurd (none w.0 (read_says index s c.position w.0 w.1)))
      (λ (w : (r : Refusal) × (descriptor index s (uleb_at s c.position) ≡ bad r)).
      rw (w.1, unread_eight index s c.position (uleb_at s c.position) w.1))
      (either (descriptor index s (uleb_at s c.position)))

  -- ---- refusals

  refuses : (code : ℕ) → Fault s c code → step_at index s c ≡ bad (refusal code index)
  refuses code (past_table e l) = rw e (step_past index s c (omega arith))
  refuses code (bad_end e l none) = rw e (go (eqb (c.end % granule) 0) refl)
    where
      go : (b : Bool) → eqb (c.end % granule) 0 ≡ b → step_at index s c ≡ bad (refusal 9 index)
      go true q =
          let whole = eqb-true (c.end % granule) 0 q in
          step_high index s c l whole (⊎_elim (λ k. absurd (none whole k)) (λ k. k) (le_or_lt c.end address_limit))
      go false q = step_uneven index s c l (eqb-false (c.end % granule) 0 q)
  refuses code (unread e r none) = ready_reads r ∙ rw e (unread_reads none)
  refuses code (too_long e d r says k) =
      ready_reads r ∙ said_reads d says ∙ rw e (judged_long index (short_at s c.position) c.end d (shorter_long s c.position d says k))
  refuses code (ends_above e d r says k h) =
      ready_reads r ∙ said_reads d says ∙ rw e (judged_high index (short_at s c.position) c.end d (shortest_short s c.position d says k) h)

  -- a refusal with the index handed in, by a fault
  abbrev By : Refusal → Type 0
  By r = (code : ℕ) × ((r ≡ refusal code index) × Fault s c code)

  module _ (ready : Ready s c) where
    judged-refused : {r : Refusal} (d : Descriptor) → Says s c.position d → judged index (short_at s c.position) c.end d ≡ bad r → By r
    unfolding global_after
    judged-refused d says e =
        and_then_bad (require (short_at s c.position) 16 index) (λ _. global_after index c.end d) e
        (λ q.
        let w = require_stopped (short_at s c.position) 16 index q in
        (16, (w.1, too_long refl d ready says (long_shorter s c.position d says w.0))))
        (λ _ q e.
        let short = require_held (short_at s c.position) 16 index q in
        cond_bad (leb (end_after c.end d) address_limit) _ (refusal 9 index) e
        (λ _ q. good_bad q)
        (λ h q. (9, (q, ends_above refl d ready says (short_shortest s c.position d says short) (leb-false (end_after c.end d) address_limit h)))))

    read_refused : {r : Refusal} → read_at index s c.position c.end ≡ bad r → By r
    unfolding read_at
    read_refused e =
        and_then_bad (descriptor index s (uleb_at s c.position)) _ e
        (λ q. (
          8,
          (
            unread_eight index s c.position (uleb_at s c.position) q,
            unread refl ready (λ d says. good_bad (sym (says_read index s c.position d says) ∙ q)),
          ),
        ))
        (λ d q e. judged-refused d (read_says index s c.position d q) e)

  refused : (r : Refusal) → step_at index s c ≡ bad r → By r
  unfolding step_at
  refused r e =
      cond_bad (leb c.position (length s)) _ (refusal 8 index) e (λ a e.
      cond_bad (eqb (c.end % granule) 0) _ (refusal 9 index) e (λ b e.
      cond_bad (leb c.end address_limit) _ (refusal 9 index) e (λ d e.
      go (ltb c.position (length s)) refl (eqb-true (c.end % granule) 0 b) (leb-true c.end address_limit d) e)
      (λ d q. (9, (q, bad_end refl (leb-true c.position (length s) a) (λ _ k. let l = leb-false c.end address_limit d in omega arith)))))
      (λ b q. (9, (q, bad_end refl (leb-true c.position (length s) a) (λ k _. eqb-false (c.end % granule) 0 b k)))))
      (λ a q. (8, (q, past_table refl (leb-false c.position (length s) a))))
    where
      go : (t : Bool) → ltb c.position (length s) ≡ t → c.end % granule ≡ 0 → c.end ≤ address_limit
          → cond t (read_at index s c.position c.end) (good finished) ≡ bad r → By r
      go true q w l e = read_refused (record { left = ltb-true c.position (length s) q; whole = w; low = l }) e
      go false q w l e = good_bad e

  -- ---- a global

  -- of what a step found
  abbrev Reading : Read → Type 0
  Reading finished = c.position ≡ length s
  Reading (global g next) = Found s c g next

  reading : (r : Read) → step_at index s c ≡ good r → Reading r
  reading r e =
      let k = step_kept index s c r e in
      ⊎_elim
      (λ (w : (c.position ≡ length s) × (finished ≡ r)). subst (λ (r : Read). Reading r) w.1 w.0)
      (λ (w : Worded index s c.position c.end r).
      let d = w.said in
      let says = read_says index s c.position d w.reads in
      let past = says_past s c.position d says in
      subst (λ (r : Read). Reading r) w.found (record {
        said = d;
        ready = record { left = omega arith; whole = k.whole; low = k.low };
        says = says;
        shortest = short_shortest s c.position d says w.short;
        start = refl;
        size = refl;
        low = w.low;
        position = refl;
        end = refl;
      }))
      k.either

  module _ (g : Global) (next : Cursor) (found : Found s c g next) where
    found_said : said_after c.end found.said ≡ global g next
    found_said = rw (← found.start, ← found.size, ← found.position, ← found.end)

    found_step : step_at index s c ≡ good (global g next)
    found_step =
        let d = found.said in
        let says = found.says in
        let short = shortest_short s c.position d says found.shortest in
        let low : end_after c.end d ≤ address_limit = rw (← found.start, ← found.size) found.low in
        ready_reads found.ready ∙ said_reads d says ∙ judged_low index (short_at s c.position) c.end d short low ∙ ap good found_said

    found_moved : 1 ≤ g.granules → Moved s c g next
    found_moved some =
        let past = says_past s c.position found.said found.says in
        let p = found.position in
        let a = found.start in
        let e = found.end in
        let whole = found.ready.whole in
        let low = found.low in
        record {
          forward = omega arith;
          within = omega arith;
          short = omega arith;
          after = omega arith;
          filled = some;
          ends = found.end;
          whole = omega arith;
          low = omega arith;
        }

pub steps : (index : ℕ) (table : List ℕ) (c : Cursor) → Steps index table c
steps index table c = record {
  step_refusal = refused index table c;
  refusal_step = refuses index table c;
  step_finished = λ e. reading index table c finished e;
  finished_step = step_ends index table c;
  step_global = λ g next e. reading index table c (global g next) e;
  global_step = λ g next f. found_step index table c g next f;
  moved = λ g next e.
      found_moved index table c g next (reading index table c (global g next) e) (step_next index table c (global g next) e).1.filled;
}

-- a step's refusal has one of three numbers
pub step_numbers : (index : ℕ) (s : List ℕ) (c : Cursor) (r : Refusal) → step_at index s c ≡ bad r
    → (r ≡ refusal 8 index) ⊎ ((r ≡ refusal 16 index) ⊎ (r ≡ refusal 9 index))
step_numbers index s c r e = let w = refused index s c r e in go w.0 w.1.0 w.1.1
  where
    go : (code : ℕ) → r ≡ refusal code index → Fault s c code → (r ≡ refusal 8 index) ⊎ ((r ≡ refusal 16 index) ⊎ (r ≡ refusal 9 index))
    go code q (past_table z l) = inl (rw (q, z))
    go code q (bad_end z l none) = inr (inr (rw (q, z)))
    go code q (unread z ready none) = inl (rw (q, z))
    go code q (too_long z d ready says k) = inr (inl (rw (q, z)))
    go code q (ends_above z d ready says k h) = inr (inr (rw (q, z)))
