-- A call of the writer, by what it measured.
-- Assumes nothing.
use Prim.Native.Nat.{ℕ, ◌/◌, ◌≤◌, ◌<◌}
use mathlib.Core.Path.{◌≡◌, refl, sym, ◌∙◌}
use mathlib.Core.Bool.{Bool, true, false, cond, not}
use mathlib.Core.List.{List}
use native.Mathlib.Omega.{arith}
use lib.ListN.{length}
use lib.Dec.{leb}
use borrow.Author.Tests.{eq-eqb, ne_eqb, leb-true, le-leb, lt-leb}
use Rattle.rules.specs.Outcome.{Outcome, good, bad, refuse, Refusal}
use Rattle.rules.specs.Memory.{put}
use Rattle.rules.specs.Writer.{table_of, list_check, written_of}
use Rattle.rules.proofs.OutcomeLaws.{good_bad, and_then_good}
use Rattle.laws.proofs.Checks.{and_then_bad}
use Rattle.laws.proofs.Listed.{table_short}
use Rattle.demands.specs.Writer.{WriteCall}
use Rattle.writer.specs.Faults.{measured}
use Rattle.writer.proofs.Laws.{measured_start}

-- what was measured
pub measured_good : (addresses sizes : List ℕ) (counted : Bool) (n : ℕ) → measured addresses sizes counted 0 0 0 ≡ good n
    → (list_check 0 0 addresses sizes ≡ good tt) × (n ≡ cond counted (length (table_of addresses sizes)) 0)
measured_good addresses sizes counted n e =
    let p = and_then_good (list_check 0 0 addresses sizes) _ (sym (measured_start addresses sizes counted) ∙ e) in
    let q = p.rest in
    (p.here, cc)

pub measured_bad : (addresses sizes : List ℕ) (counted : Bool) (r : Refusal) → measured addresses sizes counted 0 0 0 ≡ bad r
    → list_check 0 0 addresses sizes ≡ bad r
measured_bad addresses sizes counted r e =
    and_then_bad (list_check 0 0 addresses sizes) _ (sym (measured_start addresses sizes counted) ∙ e) (λ q. q) (λ _ _ s. good_bad s)

module _ (addresses sizes lent : List ℕ) where
  -- 1
  pub call_unequal : (o : Outcome ℕ) → (length addresses ≡ length sizes → ⊥) → o ≡ refuse 1 0 → WriteCall addresses sizes lent lent o
  unfolding written_of
  call_unequal o n e =
      let t = ne_eqb (length addresses) (length sizes) n in
      record { answered = rw (e, t); written = rw t }

  module _ (l : length addresses ≡ length sizes) where
    -- 2 to 5
    pub call_measured : (counted : Bool) (o : Outcome ℕ) (r : Refusal) → o ≡ bad r → o ≡ measured addresses sizes counted 0 0 0
        → WriteCall addresses sizes lent lent o
    unfolding written_of
    call_measured counted o r e m =
        let t = eq-eqb (length addresses) (length sizes) l in
        let c = measured_bad addresses sizes counted r (sym m ∙ e) in
        record { answered = rw (e, t, c); written = rw (t, c) }

    -- 6
    pub call_small : (o : Outcome ℕ) → list_check 0 0 addresses sizes ≡ good tt → length lent < length (table_of addresses sizes) → o ≡ refuse 6 0
        → WriteCall addresses sizes lent lent o
    unfolding written_of
    call_small o c s e =
        let t = eq-eqb (length addresses) (length sizes) l in
        let f = lt-leb (length (table_of addresses sizes)) (length lent) s in
        record { answered = rw (e, t, c, f); written = rw (t, c, f) }

    pub call_taken : (o : Outcome ℕ) (left : List ℕ) → list_check 0 0 addresses sizes ≡ good tt → length (table_of addresses sizes) ≤ length lent
        → o ≡ good (length (table_of addresses sizes)) → left ≡ put lent 0 (table_of addresses sizes) → WriteCall addresses sizes lent left o
    unfolding written_of
    call_taken o left c s e w =
        let t = eq-eqb (length addresses) (length sizes) l in
        let f = le-leb (length (table_of addresses sizes)) (length lent) s in
        record { answered = rw (e, t, c, f); written = rw (w, t, c, f) }

-- a buffer has room whatever the table's length
abbrev pub ample : List ℕ → List ℕ → Bool
ample addresses lent = leb (length addresses) (length lent / 14)

module _ (addresses sizes lent : List ℕ) (n : ℕ) (e : n ≡ cond (not (ample addresses lent)) (length (table_of addresses sizes)) 0) where
  -- too much was measured: it was counted
  pub measured_much : length lent < n → length lent < length (table_of addresses sizes)
  measured_much h = go (ample addresses lent) e
    where
      go : (b : Bool) → n ≡ cond (not b) (length (table_of addresses sizes)) 0 → length lent < length (table_of addresses sizes)
      go true q = absurd (omega arith)
      go false q = omega arith

  -- the table fits: it was counted, or the buffer is ample
  pub measured_fits : length addresses ≡ length sizes → list_check 0 0 addresses sizes ≡ good tt → n ≤ length lent
      → length (table_of addresses sizes) ≤ length lent
  measured_fits l c h = go (ample addresses lent) refl e
    where
      go : (b : Bool) → ample addresses lent ≡ b → n ≡ cond (not b) (length (table_of addresses sizes)) 0
          → length (table_of addresses sizes) ≤ length lent
      go true a q =
          let m = leb-true (length addresses) (length lent / 14) a in
          let s = table_short addresses sizes (length addresses) 0 0 (omega arith) l c in
          omega arith
      go false a q = omega arith
