-- PT_DYNAMIC: there is one, and it is good, exactly when the rules find its table.
-- Assumes nothing.
use Rattle.std.specs.Prelude.{Option, Some, None}
use Prim.Native.Nat.{ℕ, ◌+◌, ◌-◌, ◌/◌, ◌%◌, ◌≤◌, ◌<◌, ◌∣◌}
use mathlib.Core.Path.{◌≡◌, refl, sym, ◌∙◌, subst}
use mathlib.Core.Bool.{true, false, not, ◌&&◌}
use mathlib.Core.List.{List}
use mathlib.Core.Logic.{◌⊎◌, inl, inr, ⊎_elim, ◌↔◌}
use native.Mathlib.Nat.{mod-eq-zero_of_dvd, dvd_of_mod-eq-zero, eq-or-lt_of_le}
use native.Mathlib.Omega.{arith}
use lib.Dec.{ltb, leb, eqb}
use borrow.Author.Tests.{leb-true, le-leb, ltb-true, ltb-false, lt-ltb, le-ltb, eqb-true, eq-eqb, ne_eqb, not-true}
use Rattle.rules.specs.Outcome.{good, require, refusal}
use Rattle.rules.specs.Limits.{dynamic_limit}
use Rattle.rules.specs.First.{first}
use Rattle.rules.specs.Headers.{the_headers, headers_of}
use Rattle.rules.specs.Segments.{header_at, loads_check, backing_of}
use Rattle.rules.specs.Dynamic.{is_dynamic_at, dynamic_from, first_dynamic, second_dynamic, is_null_at, null_entry, good_size, dynamic_at, dynamic_in}
use Rattle.rules.specs.Dynamic.{dynamic_of}
use Rattle.rules.specs.declared.Headers.{Headers}
use Rattle.rules.specs.declared.Dynamic.{Dynamic}
use Rattle.rules.proofs.FirstLaws.{first_true, first_below, first_is}
use Rattle.rules.proofs.OutcomeLaws.{true_false, bad_good, and_left, and_right, and_then_good, require_held, cond_held}
use Rattle.laws.proofs.Checks.{le_or_lt}
use Rattle.demands.proofs.Lowest.{lowest_first, first_clear, clear_first}
use Rattle.demands.proofs.Parts.{backing}
use Rattle.demands.specs.Fields.{header_count, type_at, vaddr_at, filesz_at}
use Rattle.demands.specs.Entries.{GoodDynamic, FoundDynamic}
use Rattle.demands.specs.Sentences.{Means}

size_good : (size : ℕ) → good_size size ≡ true → (16 ∣ size) × (16 ≤ size) × (size ≤ dynamic_limit)
unfolding good_size
size_good size e =
    let a = and_right (eqb (size % 16) 0) _ e in (
      dvd_of_mod-eq-zero 16 (eqb-true (size % 16) 0 (and_left (eqb (size % 16) 0) _ e)),
      leb-true 16 size (and_left (leb 16 size) _ a),
      leb-true size dynamic_limit (and_right (leb 16 size) _ a),
    )

good_size_lem : (size : ℕ) → 16 ∣ size → 16 ≤ size → size ≤ dynamic_limit → good_size size ≡ true
unfolding good_size
good_size_lem size w l u = rw (eq-eqb (size % 16) 0 (mod-eq-zero_of_dvd 16 w), le-leb 16 size l, le-leb size dynamic_limit u)

module _ (f : List ℕ) where
  abbrev H : Headers
  H = the_headers f

  dynamic_typed : (i : ℕ) → is_dynamic_at f H i ≡ true → type_at f i ≡ 2
  unfolding is_dynamic_at header_at
  dynamic_typed i e = eqb-true (type_at f i) 2 e

  typed_dynamic : (i : ℕ) → type_at f i ≡ 2 → is_dynamic_at f H i ≡ true
  unfolding is_dynamic_at header_at
  typed_dynamic i e = eq-eqb (type_at f i) 2 e

  pub dynamic_type : (i : ℕ) → Means (is_dynamic_at f H i) (type_at f i ≡ 2)
  dynamic_type i = (dynamic_typed i, typed_dynamic i)

  typed_not : (i : ℕ) → (type_at f i ≡ 2 → ⊥) → is_dynamic_at f H i ≡ false
  unfolding is_dynamic_at header_at
  typed_not i e = ne_eqb (type_at f i) 2 e

  module _ (headed : headers_of f ≡ good H) (loaded : loads_check f H ≡ good tt) where
    -- a table that is found at a position
    module _ (i at : ℕ) (p : backing_of f H (vaddr_at f i) (filesz_at f i) ≡ Some at) where
      abbrev null : ℕ
      null = null_entry f at (filesz_at f i / 16)

      at_good : (d : Dynamic) → dynamic_at f i (filesz_at f i) (Some at) ≡ good d → GoodDynamic f i d
      unfolding dynamic_at null_entry is_null_at
      at_good d e =
          let c = cond_held (refusal 5 i) (good_size (filesz_at f i) && ltb null (filesz_at f i / 16)) (good (record { at = at; entries = null })) e in
          let s = size_good (filesz_at f i) (and_left (good_size (filesz_at f i)) _ c.0) in
          let l = ltb-true null (filesz_at f i / 16) (and_right (good_size (filesz_at f i)) _ c.0) in
          let low = s.1 in
          let q : record { at = at; entries = null } ≡ d = cc in
          subst (GoodDynamic f i) q
          (record {
            contents = (backing f headed loaded (vaddr_at f i) (filesz_at f i) at (omega arith)).0 p;
            whole = s.0;
            least = s.1;
            most = s.2;
            null_inside = omega arith;
            null = eqb-true _ 0 (first_true (is_null_at f at) (filesz_at f i / 16) 0 (omega arith));
            first_null = λ j u z. true_false (sym (eq-eqb _ 0 z) ∙ first_below (is_null_at f at) (filesz_at f i / 16) 0 j (omega arith) u);
          })

    in_good : (i : ℕ) (d : Dynamic) → dynamic_in f H i (header_at f H i) ≡ good d → GoodDynamic f i d
    unfolding header_at dynamic_at
    in_good i d e = go (backing_of f H (vaddr_at f i) (filesz_at f i)) refl e
      where
        go : (p : Option ℕ) → backing_of f H (vaddr_at f i) (filesz_at f i) ≡ p → dynamic_at f i (filesz_at f i) p ≡ good d → GoodDynamic f i d
        go None q x = bad_good x
        go (Some at) q x = at_good i at q d x

    good_in : (i : ℕ) (d : Dynamic) → GoodDynamic f i d → dynamic_in f H i (header_at f H i) ≡ good d
    unfolding header_at dynamic_at null_entry is_null_at
    good_in i d g =
        let low = g.least in
        let inside = g.null_inside in
        let whole : filesz_at f i % 16 ≡ 0 = mod-eq-zero_of_dvd 16 g.whole in
        let l : d.entries < filesz_at f i / 16 = omega arith in
        let n : d.entries ≡ first (is_null_at f d.at) 0 (filesz_at f i / 16) =
        first_is (is_null_at f d.at) (filesz_at f i / 16) d.entries (omega arith)
        (λ _. eq-eqb _ 0 g.null) (λ j u. ne_eqb _ 0 (g.first_null j u)) in
        rw (
          (backing f headed loaded (vaddr_at f i) (filesz_at f i) d.at (omega arith)).1 g.contents,
          good_size_lem (filesz_at f i) g.whole g.least g.most,
          ← n,
          lt-ltb d.entries (filesz_at f i / 16) l,
        )

    -- the one PT_DYNAMIC
    dynamic-found : (d : Dynamic) → dynamic_of f H ≡ good d → FoundDynamic f d
    unfolding dynamic_of dynamic_from
    dynamic-found d e =
        let a = and_then_good (require (ltb (first_dynamic f H) (header_count f)) 5 (header_count f)) _ e in
        let b = and_then_good (require (not (ltb (second_dynamic f H) (header_count f))) 5 (second_dynamic f H)) _ a.rest in
        let i = first_dynamic f H in
        let l : i < header_count f = ltb-true i (header_count f) (require_held _ 5 (header_count f) a.here) in
        let last = ltb-false (second_dynamic f H) (header_count f) (not-true _ (require_held _ 5 (second_dynamic f H) b.here)) in
        let clear = first_clear (is_dynamic_at f H) (i + 1) (header_count f - (i + 1)) (header_count f) (omega arith) last in
        record {
          header = i;
          listed = l;
          dynamic = dynamic_typed i (first_true (is_dynamic_at f H) (header_count f) 0 (omega arith));
          only = λ j u t. one j u (typed_dynamic j t) clear (le_or_lt j i);
          good = in_good i d b.rest;
        }
      where
        one : (j : ℕ) → j < header_count f → is_dynamic_at f H j ≡ true
            → ((k : ℕ) → first_dynamic f H + 1 ≤ k → k < header_count f → is_dynamic_at f H k ≡ false)
            → (j ≤ first_dynamic f H) ⊎ (first_dynamic f H < j) → j ≡ first_dynamic f H
        one j u t clear (inl l) =
            ⊎_elim (λ (q : j ≡ first_dynamic f H). q)
            (λ (q : j < first_dynamic f H). true_false (sym t ∙ first_below (is_dynamic_at f H) (header_count f) 0 j (omega arith) q))
            (eq-or-lt_of_le l)
        one j u t clear (inr l) = true_false (sym t ∙ clear j (omega arith) u)

    found-dynamic : (d : Dynamic) → FoundDynamic f d → dynamic_of f H ≡ good d
    unfolding dynamic_of dynamic_from
    found-dynamic d g =
        let i = g.header in
        let l = g.listed in
        let t = typed_dynamic i g.dynamic in
        let a = lowest_first (is_dynamic_at f H) 0 (header_count f) (header_count f) (omega arith) i
        (record {
          from = omega arith;
          below = l;
          faulty = t;
          lowest = λ j u v. typed_not j (λ q. let z = g.only j (omega arith) q in omega arith);
        }) in
        let b = clear_first (is_dynamic_at f H) (i + 1) (header_count f - (i + 1)) (header_count f) (omega arith)
        (λ j u v. typed_not j (λ q. let z = g.only j v q in omega arith)) in
        rw (a, lt-ltb i (header_count f) l, b, le-ltb (header_count f) (header_count f) (omega arith)) (good_in i d g.good)

    pub dynamic : (d : Dynamic) → (dynamic_of f H ≡ good d) ↔ FoundDynamic f d
    dynamic d = (dynamic-found d, found-dynamic d)
