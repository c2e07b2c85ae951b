-- Choices that meet the rules pass check 14, and with nothing excluded no others do; so a load with picked choices is not refused by 14.
-- Assumes nothing.
use Prim.Native.Nat.{ℕ, zero, suc, ◌*◌, ◌-◌, ◌^◌, ◌<◌}
use mathlib.Core.Path.{◌≡◌, refl, sym, ◌∙◌}
use mathlib.Core.Bool.{Bool, true, false, ◌&&◌}
use mathlib.Core.List.{List}
use mathlib.Core.Logic.{inl, inr}
use native.Mathlib.Nat.{zero-div}
use native.Mathlib.Omega.{arith}
use lib.ListN.{length, get_or, length-map, get_or-map}
use lib.Dec.{eqb, leb}
use borrow.Author.Tests.{eq-eqb, ne_eqb, eqb-true, le-leb}
use Rattle.rules.specs.Outcome.{good, bad, refusal}
use Rattle.rules.specs.Checks.{runs, First}
use Rattle.rules.specs.Limits.{granule}
use Rattle.rules.specs.Choices.{globals_in, global_at, end_of, abuts, choice_least, choice_limit, bad_choice, choices_for, choices_check}
use Rattle.rules.specs.Reader.{module_of}
use Rattle.rules.specs.Load.{load_of, call_checks}
use Rattle.rules.specs.Picker.{picked_of}
use Rattle.rules.specs.declared.Global.{Global}
use Rattle.rules.specs.declared.Module.{Module}
use Rattle.rules.proofs.OutcomeLaws.{good_bad, false_true}
use Rattle.rules.proofs.ChecksLaws.{runs-first}
use Rattle.laws.proofs.Checks.{all_faultless, and_then_bad}
use Rattle.demands.specs.Writer.{FitBelow, addresses_of, sizes_of, table_in, Bytes}
use Rattle.demands.specs.Picker.{AbutNext, Meets}
use Rattle.demands.proofs.Exactly.{load_checked}
use Rattle.demands.proofs.Table.{table}
use Rattle.demands.proofs.Plane.{choices_chosen}
use Rattle.demands.proofs.Rewritten.{module_table}
use Rattle.demands.proofs.Picker.{picks}

module _ (gs : List Global) where
  -- ---- the lists of a list of globals

  start_at : (i : ℕ) → get_or (addresses_of gs) i 0 ≡ (global_at gs i).start
  start_at i = get_or-map (λ (g : Global). g.start) gs i (record { start = 0; granules = 0 })

  size_at : (i : ℕ) → get_or (sizes_of gs) i 0 ≡ granule * (global_at gs i).granules
  size_at i = get_or-map (λ (g : Global). granule * g.granules) gs i (record { start = 0; granules = 0 })

  as_many : length (addresses_of gs) ≡ length gs
  as_many = length-map gs (λ (g : Global). g.start)

  -- two globals abut, said either way
  abut_ends : (i : ℕ) → AbutNext (addresses_of gs) (sizes_of gs) i → end_of (global_at gs i) ≡ (global_at gs (suc i)).start
  abut_ends i a = rw (start_at i, size_at i, start_at (suc i)) at a

  ends_abut : (i : ℕ) → end_of (global_at gs i) ≡ (global_at gs (suc i)).start → AbutNext (addresses_of gs) (sizes_of gs) i
  ends_abut i e = rw (start_at i, size_at i, start_at (suc i)) e

  -- ---- check 14

  pub passes : (x : ℕ) (choices : List ℕ) → Meets (addresses_of gs) (sizes_of gs) x choices → choices_for gs choices ≡ good tt
  unfolding choices_for bad_choice
  passes x choices m =
      rw (eq-eqb (length choices) (length gs) (m.as_many ∙ as_many)) (all_faultless (bad_choice gs choices) 14 (length gs) fine)
    where
      in_range_lem : (i : ℕ) → i < length gs → (leb choice_least (get_or choices i 0) && leb (get_or choices i 0) choice_limit) ≡ true
      in_range_lem i l =
          let a = m.allowed i (rw as_many l) in
          rw (le-leb choice_least (get_or choices i 0) a.least, le-leb (get_or choices i 0) choice_limit a.most)

      apart : (i : ℕ) → i < length gs → (abuts gs i && eqb (get_or choices (i - 1) 0) (get_or choices i 0)) ≡ false
      apart zero l = refl
      apart (suc i) l = go (eqb (end_of (global_at gs i)) (global_at gs (suc i)).start) refl
        where
          go : (y : Bool) → eqb (end_of (global_at gs i)) (global_at gs (suc i)).start ≡ y
              → (y && eqb (get_or choices (suc i - 1) 0) (get_or choices (suc i) 0)) ≡ false
          go false e = refl
          go true e =
              let z : suc i - 1 ≡ i = omega arith in
              rw z (ne_eqb (get_or choices i 0) (get_or choices (suc i) 0) (m.differ i (rw as_many l) (ends_abut i (eqb-true _ _ e))))

      fine : (i : ℕ) → i < length gs → bad_choice gs choices i ≡ false
      fine i l = rw (in_range_lem i l) (apart i l)

  pub passed-meets : (choices : List ℕ) → choices_for gs choices ≡ good tt → Meets (addresses_of gs) (sizes_of gs) 0 choices
  passed-meets choices e =
      let c = choices_chosen gs choices e in
      record {
        as_many = c.counted ∙ sym as_many;
        allowed = λ i l.
            let t = c.tag i (rw as_many at l) in
            record { least = t.0; most = t.1; clear = rw (zero-div (2 ^ get_or choices i 0)) };
        differ = λ i l a q. c.differ i (rw as_many at l) (abut_ends i a) q;
      }

-- ---- a load

pub module_fits : (f : List ℕ) (m : Module) → Bytes f → module_of f ≡ good m
    → FitBelow (addresses_of (globals_in f m)) (sizes_of (globals_in f m)) (length (globals_in f m))
module_fits f m b e =
    let t = (module_table f m b e).1.takes (length (table_in f m)) (omega arith) in
    λ j l. t.fit j (rw (as_many (globals_in f m)) l)

-- the checks before 14 have other numbers
call_not_14 : (f : List ℕ) (m : Module) (bias n p : ℕ) (choices : List ℕ) (i : ℕ) → choices_check f m choices ≡ good tt
    → First (call_checks f m bias n p choices) (refusal 14 i) → ⊥
call_not_14 f m bias n p choices i c (inl e) = false_true (((table f).row_10 m).only (refusal 14 i) e)
call_not_14 f m bias n p choices i c (inr (_, inl e)) = false_true (((table f).row_12 m bias n p).only (refusal 14 i) e)
call_not_14 f m bias n p choices i c (inr (_, inr (_, inl e))) = false_true (((table f).row_13 m bias).only (refusal 14 i) e)
call_not_14 f m bias n p choices i c (inr (_, inr (_, inr (_, inl e)))) = good_bad (sym c ∙ e)
call_not_14 f m bias n p choices i c (inr (_, inr (_, inr (_, inr (_, z))))) = absurd z

pub module_passes : (f : List ℕ) (m : Module) (random : List ℕ) (x k : ℕ) (choices : List ℕ) → module_of f ≡ good m
    → picked_of (addresses_of (globals_in f m)) (sizes_of (globals_in f m)) random x k ≡ good choices
    → (choices_check f m choices ≡ good tt) × ((bias n p i : ℕ) → load_of f bias n p choices ≡ bad (refusal 14 i) → ⊥)
module_passes f m random x k choices e h = (c, not_14)
  where
    c : choices_check f m choices ≡ good tt
    c = passes (globals_in f m) x choices ((picks (addresses_of (globals_in f m)) (sizes_of (globals_in f m)) random x k).meets choices h)

    not_14 : (bias n p i : ℕ) → load_of f bias n p choices ≡ bad (refusal 14 i) → ⊥
    not_14 bias n p i r =
        let q = sym (load_checked f bias n p choices m e) ∙ r in
        and_then_bad (runs (call_checks f m bias n p choices)) _ q
        (λ s. call_not_14 f m bias n p choices i c (runs-first (call_checks f m bias n p choices) s)) (λ _ _ s. good_bad s)
