-- Check 12 says what `specs/Lending.antt` says: the largest align stands for every align.
-- Assumes nothing.
use Prim.Native.Nat.{ℕ, zero, suc, ◌+◌, ◌*◌, ◌%◌, ◌≤◌, ◌<◌, ◌∣◌}
use mathlib.Core.Path.{◌≡◌, sym, ◌∙◌}
use mathlib.Core.Bool.{true, ◌&&◌}
use mathlib.Core.List.{List}
use mathlib.Core.Logic.{⊎_elim}
use native.Mathlib.Nat.{mod-eq-zero_of_dvd, dvd_of_mod-eq-zero, mod-add-mod, zero-add}
use native.Mathlib.Omega.{arith}
use lib.Dec.{leb, eqb}
use borrow.Author.Tests.{eqb-true, leb-true, eq-eqb, le-leb}
use Rattle.rules.specs.Outcome.{good}
use Rattle.rules.specs.Limits.{granule, page, memory_limit, address_limit}
use Rattle.rules.specs.Segments.{header_at, is_load, end_before, loads_end, largest_align, loads_check}
use Rattle.rules.specs.Lending.{bias_fits, memory_fits, plane_fits, lending_fits, lending_check}
use Rattle.rules.specs.declared.Headers.{Headers}
use Rattle.rules.specs.declared.Module.{Module}
use Rattle.rules.proofs.OutcomeLaws.{and_left, and_right, require_held}
use Rattle.rules.proofs.BoolLaws.{cond_case}
use Rattle.laws.proofs.Loads.{load_good, load_end}
use Rattle.laws.proofs.Aligns.{aligned_agree, largest_each, each_largest}
use Rattle.demands.specs.Lending.{Fitting, Lends, InStep}

-- the lent memory and the bias fit, clause by clause
pub record Lent (f : List ℕ) (h : Headers) (n bias : ℕ) : Type 0 where
  pub whole : granule ∣ n
  pub holds : loads_end f h ≤ n
  pub short : n ≤ memory_limit
  pub paged : page ∣ bias
  pub multiple : largest_align f h ∣ bias
  pub low : bias + n ≤ address_limit

pub memory-lent : (f : List ℕ) (h : Headers) (n bias : ℕ) → memory_fits f h n bias ≡ true → Lent f h n bias
unfolding memory_fits bias_fits
memory-lent f h n bias e =
    let a = and_right (eqb (n % granule) 0) _ e in
    let b = and_right (leb (loads_end f h) n) _ a in
    let c = and_right (leb n memory_limit) _ b in
    let d = and_right (eqb (bias % page) 0) _ c in
    let align = largest_align f h in
    record {
      whole = dvd_of_mod-eq-zero granule (eqb-true (n % granule) 0 (and_left (eqb (n % granule) 0) _ e));
      holds = leb-true (loads_end f h) n (and_left (leb (loads_end f h) n) _ a);
      short = leb-true n memory_limit (and_left (leb n memory_limit) _ b);
      paged = dvd_of_mod-eq-zero page (eqb-true (bias % page) 0 (and_left (eqb (bias % page) 0) _ c));
      multiple = dvd_of_mod-eq-zero align (eqb-true (bias % align) 0 (and_left (eqb (bias % align) 0) _ d));
      low = leb-true (bias + n) address_limit (and_right (eqb (bias % align) 0) _ d);
    }

lent-memory : (f : List ℕ) (h : Headers) (n bias : ℕ) → Lent f h n bias → memory_fits f h n bias ≡ true
unfolding memory_fits bias_fits
lent-memory f h n bias t =
    rw (
      eq-eqb (n % granule) 0 (mod-eq-zero_of_dvd granule t.whole),
      le-leb (loads_end f h) n t.holds,
      le-leb n memory_limit t.short,
      eq-eqb (bias % page) 0 (mod-eq-zero_of_dvd page t.paged),
      eq-eqb (bias % largest_align f h) 0 (mod-eq-zero_of_dvd (largest_align f h) t.multiple),
      le-leb (bias + n) address_limit t.low,
    )

-- where each PT_LOAD ends by n the last one does
ends_within : (f : List ℕ) (h : Headers) (n k : ℕ)
    → ((i : ℕ) → i < k → is_load (header_at f h i) ≡ true → (header_at f h i).vaddr + (header_at f h i).memsz ≤ n) → end_before f h k ≤ n
unfolding end_before
ends_within f h n zero each = omega arith
ends_within f h n (suc k) each =
    cond_case (λ z. z ≤ n) (is_load (header_at f h k)) _ _
    (λ t. each k (omega arith) t)
    (λ _. ends_within f h n k (λ i l e. each i (omega arith) e))

module _ (f : List ℕ) (h : Headers) (passed : loads_check f h ≡ good tt) (bias n : ℕ) where
  lent_fits : Lent f h n bias → Fitting f h bias n
  lent_fits t = record {
    whole = t.whole;
    holds = λ i l e. let b = load_end f h passed h.count i (omega arith) l e in let c = t.holds in omega arith;
    short = t.short;
    paged = t.paged;
    aligned = largest_each f h bias passed t.multiple;
    low = t.low;
  }

  fits_lent : Fitting f h bias n → Lent f h n bias
  fits_lent t = record {
    whole = t.whole;
    holds = ends_within f h n h.count t.holds;
    short = t.short;
    paged = t.paged;
    multiple = each_largest f h bias t.aligned;
    low = t.low;
  }

  -- a bias that is a multiple of an align moves no address modulo it
  pub lent_in_step : Lent f h n bias → InStep f h bias
  lent_in_step t i l e pos =
      let s = header_at f h i in
      ⊎_elim
      (λ (z : s.align ≡ 0). absurd (omega arith))
      (λ (d : s.align ∣ bias).
      sym (mod-add-mod bias s.align s.vaddr)
      ∙ rw (mod-eq-zero_of_dvd s.align d, zero-add)
      (sym (aligned_agree s.align s.offset s.vaddr (load_good f h passed i l e).in_step pos)))
      (largest_each f h bias passed t.multiple i l e)

pub plane-lent : (n p : ℕ) → plane_fits n p ≡ true → granule * p ≡ n
unfolding plane_fits
plane-lent n p h = eqb-true (granule * p) n h

lent-plane : (n p : ℕ) → granule * p ≡ n → plane_fits n p ≡ true
unfolding plane_fits
lent-plane n p e = eq-eqb (granule * p) n e

-- memory and plane fit by themselves
pub lending_fits_lem : (f : List ℕ) (m : Module) (bias n p : ℕ) → lending_check f m bias n p ≡ good tt
    → (memory_fits f m.headers n bias ≡ true) × (plane_fits n p ≡ true)
unfolding lending_check lending_fits
lending_fits_lem f m bias n p e =
    let b = require_held (memory_fits f m.headers n bias && plane_fits n p) 12 0 e in
    (and_left (memory_fits f m.headers n bias) (plane_fits n p) b, and_right (memory_fits f m.headers n bias) (plane_fits n p) b)

pub lends : (f : List ℕ) (m : Module) (bias n p : ℕ) → loads_check f m.headers ≡ good tt → Lends f m bias n p
unfolding lending_check lending_fits
lends f m bias n p passed =
    let h = m.headers in
    let fits : memory_fits f h n bias ≡ true → Fitting f h bias n = λ e. lent_fits f h passed bias n (memory-lent f h n bias e) in
    let unfits : Fitting f h bias n → memory_fits f h n bias ≡ true = λ t. lent-memory f h n bias (fits_lent f h passed bias n t) in
    record {
      lends_if = λ t q. rw (unfits t, lent-plane n p q);
      lends_only_if = λ e. let b = lending_fits_lem f m bias n p e in (fits b.0, plane-lent n p b.1);
      plain_if = λ t. rw (unfits t);
      plain_only_if = λ e. fits (require_held (memory_fits f h n bias) 12 0 e);
    }
