-- The checks of the picker by what they found, and a call by its checks.
-- Assumes nothing.
use Prim.Native.Nat.{ℕ, ◌≤◌}
use mathlib.Core.Path.{◌≡◌, sym, ◌∙◌}
use mathlib.Core.Bool.{Bool, true, false, not, ◌&&◌}
use mathlib.Core.List.{List}
use lib.ListN.{length}
use lib.Dec.{eqb, leb}
use borrow.Author.Tests.{eq-eqb, ne_eqb, eqb-true, leb-true, not-true, not-false}
use Rattle.rules.specs.Outcome.{Outcome, good, bad, refuse, Refusal}
use Rattle.rules.specs.Checks.{Check}
use Rattle.rules.specs.Writer.{list_check}
use Rattle.rules.specs.Picker.{picks_of, tags_needed, tags_allowed, picker_checks, picked_of}
use Rattle.rules.proofs.OutcomeLaws.{and_left, and_right, require_held}
use Rattle.rules.proofs.ChecksLaws.{runs_all}
use Rattle.rules.proofs.BoolLaws.{and_false}
use Rattle.laws.proofs.Picks.{picks_length}
use Rattle.demands.specs.Picker.{PickCall}
use Rattle.picker.specs.Checking.{checks_of}

module _ (addresses sizes random : List ℕ) (x n : ℕ) where
  -- the checks
  abbrev checks : Check
  checks = checks_of addresses sizes random x n

  -- the test of check 7
  abbrev equal : Bool
  equal = eqb (length addresses) (length sizes) && eqb (length addresses) (length random) && eqb (length addresses) n

  unequal : equal ≡ false → checks ≡ refuse 7 0
  unfolding checks_of
  unequal t = rw t

  -- 7, by the list that differs
  pub unequal_sizes : (length sizes ≡ length addresses → ⊥) → checks ≡ refuse 7 0
  unequal_sizes d = unequal (rw (ne_eqb (length addresses) (length sizes) (λ q. d (sym q))))

  pub unequal_random : (length random ≡ length addresses → ⊥) → checks ≡ refuse 7 0
  unequal_random d = unequal (rw (ne_eqb (length addresses) (length random) (λ q. d (sym q)), and_false (eqb (length addresses) (length sizes))))

  pub unequal_choices : (n ≡ length addresses → ⊥) → checks ≡ refuse 7 0
  unequal_choices d =
      unequal (rw (ne_eqb (length addresses) n (λ q. d (sym q)))
      (and_false (eqb (length addresses) (length sizes) && eqb (length addresses) (length random))))

  -- 2 to 5, 8, and none, after equal lengths
  module _ (s : length sizes ≡ length addresses) (r : length random ≡ length addresses) (m : n ≡ length addresses) where
    equal_holds : equal ≡ true
    equal_holds =
        rw (eq-eqb (length addresses) (length sizes) (sym s), eq-eqb (length addresses) (length random) (sym r), eq-eqb (length addresses) n (sym m))

    pub checks_global : (b : Refusal) → list_check 0 0 addresses sizes ≡ bad b → checks ≡ bad b
    unfolding checks_of
    checks_global b c = rw (equal_holds, c)

    pub checks_few : list_check 0 0 addresses sizes ≡ good tt → not (leb (tags_needed addresses sizes) (tags_allowed x)) ≡ true → checks ≡ refuse 8 0
    unfolding checks_of
    checks_few c f = rw (equal_holds, c, not-true (leb (tags_needed addresses sizes) (tags_allowed x)) f)

    pub checks_pass : list_check 0 0 addresses sizes ≡ good tt → not (leb (tags_needed addresses sizes) (tags_allowed x)) ≡ false → checks ≡ good tt
    unfolding checks_of
    checks_pass c f = rw (equal_holds, c, not-false (leb (tags_needed addresses sizes) (tags_allowed x)) f)

  -- what passed
  pub record Passed : Type 0 where
    pub sizes_long : length addresses ≡ length sizes
    pub random_long : length addresses ≡ length random
    pub choices_long : length addresses ≡ n
    pub listed : list_check 0 0 addresses sizes ≡ good tt
    pub enough : tags_needed addresses sizes ≤ tags_allowed x

  pub checks_passed : (k : Check) → k ≡ checks → k ≡ good tt → Passed
  unfolding checks_of
  checks_passed k e h =
      let a = runs_all (picker_checks addresses sizes random x n) (sym e ∙ h) in
      let p = eqb (length addresses) (length sizes) in
      let q = eqb (length addresses) (length random) in
      let t = require_held equal 7 0 a.0 in
      record {
        sizes_long = eqb-true _ _ (and_left p q (and_left (p && q) _ t));
        random_long = eqb-true _ _ (and_right p q (and_left (p && q) _ t));
        choices_long = eqb-true (length addresses) n (and_right (p && q) _ t);
        listed = a.1.0;
        enough = leb-true _ _ (require_held (leb (tags_needed addresses sizes) (tags_allowed x)) 8 0 a.1.1.0);
      }

-- ---- a call

module _ (addresses sizes random : List ℕ) (x : ℕ) (lent : List ℕ) where
  pub call_refused : (o : Outcome ℕ) (r : Refusal) (k : Check) → o ≡ bad r → k ≡ checks addresses sizes random x (length lent) → k ≡ bad r
      → PickCall addresses sizes random x lent lent o
  unfolding picked_of checks_of
  call_refused o r k e c h = let b = sym c ∙ h in record { answered = rw (e, b); chosen = rw b }

  pub call_taken : (o : Outcome ℕ) (left : List ℕ) (k : Check) → k ≡ checks addresses sizes random x (length lent) → k ≡ good tt
      → o ≡ good (length addresses) → left ≡ picks_of x addresses sizes random → PickCall addresses sizes random x lent left o
  unfolding picked_of checks_of
  call_taken o left k c h e w =
      let g = sym c ∙ h in
      let p = checks_passed addresses sizes random x (length lent) k c h in
      let n = picks_length x 0 0 addresses sizes random (sym p.sizes_long) (sym p.random_long) in
      record { answered = rw (g, n) e; chosen = rw g w }
