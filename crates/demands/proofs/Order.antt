-- The checks of each call refuse in document 01's order.
-- Assumes nothing.
use Prim.Native.Nat.{ℕ}
use mathlib.Core.Path.{◌≡◌, refl, ap, ◌∙◌}
use mathlib.Core.Bool.{Bool, true}
use mathlib.Core.List.{List, [], ◌∷◌, ◌++◌}
use lib.Dec.{eqb}
use borrow.Author.Tests.{eq-eqb}
use Rattle.rules.specs.Outcome.{Outcome, good, bad, refusal, passed, Refusal}
use Rattle.rules.specs.Checks.{Check}
use Rattle.rules.specs.First.{first, faults_at}
use Rattle.rules.specs.Headers.{the_headers}
use Rattle.rules.specs.Reader.{the_dynamic, the_relocations, the_descriptors, the_module, reader_checks}
use Rattle.rules.specs.Relocations.{items, position_at}
use Rattle.rules.specs.Lending.{memory_fits}
use Rattle.rules.specs.Choices.{globals_in}
use Rattle.rules.specs.Examine.{module_checks, examine_checks}
use Rattle.rules.specs.Load.{call_checks, load_checks}
use Rattle.rules.proofs.OutcomeLaws.{good_bad}
use Rattle.laws.proofs.Checks.{require_stopped}
use Rattle.demands.proofs.Lowest.{cond_bad}
use Rattle.demands.proofs.Table.{table, entries_says}
use Rattle.demands.proofs.Refusals.{listed_one, entries_most}
use Rattle.demands.specs.Plain.{bad_bare, plain_image, plain_module, plain_checks}
use Rattle.demands.specs.Table.{Row}
use Rattle.demands.specs.Order.{by, by_at, InOrder, reader_order, examine_order, load_order, plain_order}
use Rattle.demands.specs.Demands.{Ordered}

pub passed_bad : {A : Type 0} {r : Refusal} (o : Outcome A) → passed o ≡ bad r → o ≡ bad r
passed_bad (good a) e = good_bad e
passed_bad (bad q) e = cc

-- a check's one number
pub numbered : {A : Type 0} {P : ℕ → Type 0} {c : Outcome A} (code : ℕ) → Row c (code ∷ []) code P → (r : Refusal) → c ≡ bad r → r.number ≡ code
numbered code t r e = listed_one code r.number (t.only r e)

-- and its one position
pub placed : {A P : Type 0} {c : Outcome A} (code position : ℕ) → Row c (code ∷ []) code (λ i. (i ≡ position) × P)
    → (r : Refusal) → c ≡ bad r → r ≡ refusal code position
placed code position t r e =
    let q = numbered code t r e in
    let z = (t.says r.position (e ∙ ap (λ (k : ℕ). bad (refusal k r.position)) q)).0 in
    ap (λ (k : ℕ). refusal k r.position) q ∙ ap (λ (i : ℕ). refusal code i) z

pub faults_number : (code n : ℕ) (position : ℕ → ℕ) (fault : ℕ → Bool) (r : Refusal) → faults_at code position fault n ≡ bad r
    → r.number ≡ code
faults_number code n position fault r e =
    cond_bad (eqb (first fault 0 n) n) (good tt) (refusal code (position (first fault 0 n))) e
    (λ _ q. good_bad q) (λ _ q. ap (λ (x : Refusal). x.number) q)

at_seven : (position : ℕ) (r : Refusal) → r ≡ refusal 7 position → by_at 7 position r ≡ true
at_seven position r e = rw (e, eq-eqb position position refl)

-- one list after another
join_order : (checks more : List Check) (order after : List (Refusal → Bool)) → InOrder checks order → InOrder more after
    → InOrder (checks ++ more) (order ++ after)
join_order [] more [] after a b = b
join_order [] more (own ∷ order) after a b = absurd a
join_order (c ∷ checks) more [] after a b = absurd a
join_order (c ∷ checks) more (own ∷ order) after a b = (a.0, λ e. join_order checks more order after (a.1 e) b)

reader_order_lem : (f : List ℕ) → InOrder (reader_checks f) reader_order
reader_order_lem f =
    let h = the_headers f in
    let d = the_dynamic f in
    let t = table f in (
      t.row_1.only,
      λ _. (
        t.row_2.only,
        λ _. (
          t.row_3.only,
          λ _. (
            (t.row_4 h).only,
            λ _. (
              λ r e. (t.row_5 h).only r (passed_bad _ e),
              λ _. (
                (t.row_6 d).only,
                λ _. (
                  λ r e. at_seven 0 r (placed 7 0 (t.row_7 h d) r (passed_bad _ e)),
                  λ a. (
                    λ r e. at_seven 1 r (placed 7 1 (t.row_7_descriptors h d) r (passed_bad _ e)),
                    λ _. (
                      λ r e. (t.row_15 h d (the_relocations f) (entries_most f a)).only r (passed_bad _ e),
                      λ _.
                          (λ r e. (t.row_8 h (the_descriptors f)).only r (passed_bad _ e), λ _. tt),
                    ),
                  ),
                ),
              ),
            ),
          ),
        ),
      ),
    )

examine_order_lem : (f : List ℕ) → InOrder (examine_checks f) examine_order
examine_order_lem f =
    join_order (reader_checks f) (module_checks f (the_module f)) reader_order (by (10 ∷ 11 ∷ []) ∷ []) (reader_order_lem f)
    (((table f).row_10 (the_module f)).only, λ _. tt)

load_order_lem : (f : List ℕ) (bias n p : ℕ) (choices : List ℕ) → InOrder (load_checks f bias n p choices) load_order
load_order_lem f bias n p choices =
    let m = the_module f in
    let t = table f in
    join_order (reader_checks f) (call_checks f m bias n p choices)
    reader_order (by (10 ∷ 11 ∷ []) ∷ by (12 ∷ []) ∷ by (13 ∷ []) ∷ by (14 ∷ []) ∷ []) (reader_order_lem f) (
      (t.row_10 m).only,
      λ _. (
        (t.row_12 m bias n p).only,
        λ _. (
          (t.row_13 m bias).only,
          λ _.
              ((t.row_14 (globals_in f m) choices).only, λ _. tt),
        ),
      ),
    )

plain_order_lem : (f : List ℕ) (bias n : ℕ) → InOrder (plain_checks f (plain_module f) bias n) plain_order
plain_order_lem f bias n =
    let h = the_headers f in
    let d = the_dynamic f in
    let m = plain_module f in
    let t = table f in (
      t.row_1.only,
      λ _. (
        t.row_2.only,
        λ _. (
          t.row_3.only,
          λ _. (
            (t.row_4 h).only,
            λ _. (
              λ r e. (t.row_5 h).only r (passed_bad _ e),
              λ _. (
                λ r e. let q = (entries_says f _ d r e).1.0 in rw q,
                λ _. (
                  λ r e. at_seven 0 r (placed 7 0 (t.row_7 h d) r (passed_bad _ e)),
                  λ a. (
                    λ r e. (t.row_15 h d (the_relocations f) (entries_most f a)).only r (passed_bad _ e),
                    λ _. (
                      (t.row_10 m).only,
                      λ _. (
                        λ r e. let q = (require_stopped (memory_fits f h n bias) 12 0 e).1 in rw q,
                        λ _.
                            (λ r e. rw (faults_number 13 (items m) (position_at f m) (bad_bare f m bias (plain_image f m n)) r e), λ _. tt),
                      ),
                    ),
                  ),
                ),
              ),
            ),
          ),
        ),
      ),
    )

pub ordered : (f : List ℕ) (bias n p : ℕ) (choices : List ℕ) → Ordered f bias n p choices
ordered f bias n p choices = record {
  reader = reader_order_lem f;
  examine = examine_order_lem f;
  load = load_order_lem f bias n p choices;
  plain = plain_order_lem f bias n;
}
