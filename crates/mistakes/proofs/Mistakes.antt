-- For each mistake a file at which its statement is false.
-- Assumes nothing.
use Prim.Native.Nat.{ℕ, ◌^◌, ◌+◌, ◌%◌}
use mathlib.Core.Path.{◌≡◌, refl, sym, ap, ◌∙◌, subst}
use mathlib.Core.Bool.{Bool, true, false}
use mathlib.Core.List.{List, [], ◌∷◌, ◌++◌}
use lib.ListN.{length}
use mathlib.Core.Logic.{◌⊎◌, inl, inr}
use native.Mathlib.Omega.{arith}
use Rattle.rules.specs.Outcome.{Outcome, good, bad, refusal, passed, mapped, Refusal}
use Rattle.rules.specs.Bytes.{le}
use Rattle.rules.specs.Checks.{Check, runs}
use Rattle.rules.specs.Headers.{header_check, the_headers}
use Rattle.rules.specs.Dynamic.{known_tags, bad_entry}
use Rattle.rules.specs.Relocations.{place_at, target_at, barred, good_place}
use Rattle.rules.specs.Reader.{the_dynamic, the_module, module_of}
use Rattle.rules.specs.Examine.{examine_checks}
use Rattle.rules.specs.Lending.{lending_check}
use Rattle.rules.specs.Addresses.{addresses_check}
use Rattle.rules.specs.Choices.{choices_check}
use Rattle.rules.specs.Image.{image_of}
use Rattle.rules.specs.Words.{at}
use Rattle.rules.specs.Load.{Loaded, loaded, load_of, facts_after}
use Rattle.rules.specs.declared.Mode.TheVariants as mode
use Rattle.rules.specs.declared.Facts.{Facts}
use Rattle.rules.proofs.OutcomeLaws.{good_bad, bad_good, false_true, and_then_good}
use Rattle.demands.specs.Fields.{rela_addend}
use Rattle.demands.specs.Targets.{kind_in}
use Rattle.demands.specs.Table.{walk_numbers, listed}
use Rattle.demands.specs.Order.{by, InOrder, examine_order, load_order}
use Rattle.demands.specs.Facts.{Moded}
use Rattle.demands.specs.Facts as flag
use Rattle.demands.specs.Demands.{Relocates, Sourced}
use Rattle.demands.specs.Demands as demand
use Rattle.demands.specs.PlainRefuses.{Shared, alike, base_entry, relocation_table, unfit, Beside}
use Rattle.demands.specs.PlainRefuses.{the_same, memtag_entry, descriptor_table_holds, plane_alone, choices_alone}
use Rattle.demands.specs.PlainRefuses as beside
use Rattle.demands.proofs.Sentences.{sentences}
use Rattle.mistakes.specs.Wrong.{wrapped_header, long_dynamic, unequal_repeat, examined_above, short_kind, reserved_target, place_above}
use Rattle.mistakes.specs.Wrong.{plain_by_item, plain_late, plain_taking}
use Rattle.mistakes.specs.Wrong.{addresses_first}
use Rattle.mistakes.specs.Mistakes.{Mistakes, RefusesAs}
use Rattle.mistakes.proofs.Pinned.{means_differ, clears_differ, admits_differ, all_bytes_lem}
use Rattle.mistakes.proofs.Computed.{table_high, null_alone, symtab_twice, mode_zero, kind_high, section_high, flags_five, sum_below, address_below, third_item}
use Rattle.mistakes.proofs.Computed.{bitmap_first, kind_bad, table_unbacked, bias, choices, IsRead, answers}

-- a file that is read gives a module
read_good : (f : List ℕ) → IsRead f → module_of f ≡ good (the_module f)
unfolding module_of
read_good f r = rw r.passes

-- ---- the reader

dynamic_false : ((long_dynamic null_alone (the_headers null_alone) ≡ good (the_dynamic null_alone)) → ⊥)
dynamic_false e = good_bad (sym e ∙ answers.null_wrong)

-- the facts of a mode that is told as absent
mode_told : (o : Outcome Facts) → mapped (λ (a : Facts). a.mode) o ≡ good mode.Absent → (a : Facts) × ((o ≡ good a) × (a.mode ≡ mode.Absent))
mode_told (good a) e = (a, (refl, cc))
mode_told (bad r) e = bad_good e

not_absent : Moded mode_zero (the_dynamic mode_zero) mode.Absent → ⊥
not_absent (flag.Moded.absent lacks) = let n = answers.mode_entries in lacks 7 (omega arith) answers.mode_tag

-- ---- a source below 0

other_kind : (kind_in sum_below (the_module sum_below) 0 ≡ 257) ⊎ (kind_in sum_below (the_module sum_below) 0 ≡ 1025) → ⊥
other_kind (inl e) = let k = answers.below_kind in omega arith
other_kind (inr e) = let k = answers.below_kind in omega arith

below_false : Sourced sum_below 0 (the_module sum_below) (image_of sum_below (the_headers sum_below) 720) 0 (at 0) → ⊥
below_false (demand.relative l k e) =
    let a = answers.below_addend in
    let b = answers.below_loaded in
    let z : 0 ≡ (0 + rela_addend sum_below (the_module sum_below).relocations.at 0
    + le 8 (image_of sum_below (the_headers sum_below) 720) (place_at sum_below (the_module sum_below) 0)) % 2 ^ 64 = cc in
    omega arith
below_false (demand.defined x l k s n e) = other_kind k
below_false (demand.undefined x l k s n e) = other_kind k
below_false (demand.packed p e) = let l = p.after in let n = answers.below_read.four in omega arith

below_loads : (l : Loaded) × (load_of sum_below 0 720 45 (5 ∷ []) ≡ good l)
unfolding load_of
below_loads = (loaded sum_below (the_module sum_below) 0 720 45 (5 ∷ []), rw answers.below_passes)

below_relocates : Relocates sum_below (the_module sum_below) 0
below_relocates = let n = answers.below_read.four in record { listed = omega arith; unskipped = answers.below_live }

-- ---- the order

-- where the checks of a list pass, those after it are in their order
order_after : (checks more : List Check) (order after : List (Refusal → Bool)) → length checks ≡ length order → runs checks ≡ good tt
    → InOrder (checks ++ more) (order ++ after) → InOrder more after
order_after [] more [] after n e o = o
order_after [] more (own ∷ order) after n e o = absurd (omega arith)
order_after (c ∷ checks) more [] after n e o = absurd (omega arith)
order_after (c ∷ checks) more (own ∷ order) after n e o =
    let a = and_then_good c _ e in
    order_after checks more order after (omega arith) a.rest (o.1 a.here)

order_false : InOrder (addresses_first address_below bias 720 45 choices) load_order → ⊥
order_false o =
    let m = the_module address_below in
    let s = order_after (examine_checks address_below)
    (addresses_check address_below m bias ∷ lending_check address_below m bias 720 45 ∷ choices_check address_below m choices ∷ [])
    examine_order (by (12 ∷ []) ∷ by (13 ∷ []) ∷ by (14 ∷ []) ∷ []) refl answers.address_passes o in
    false_true (s.0 (refusal 13 0) answers.address_right)

-- ---- the plain loader

-- from an answer's refusal to that of the load and of the plain loader
load_bad : (o : Outcome Loaded) (r : Refusal) → facts_after o ≡ bad r → o ≡ bad r
load_bad (good l) r e = good_bad e
load_bad (bad q) r e = let z : q ≡ r = cc in rw z

plain_bad : (o : Outcome (List ℕ)) (r : Refusal) → passed o ≡ bad r → o ≡ bad r
plain_bad (good l) r e = good_bad e
plain_bad (bad q) r e = let z : q ≡ r = cc in rw z

plain_good : (o : Outcome (List ℕ)) (r : Refusal) → passed o ≡ good tt → o ≡ bad r → ⊥
plain_good (good l) r e q = good_bad q
plain_good (bad x) r e q = bad_good e

one_refusal : (o : Outcome (List ℕ)) (r q : Refusal) → o ≡ bad r → o ≡ bad q → r ≡ q
one_refusal o r q a b = cc

-- beside a refusal with 10, 13 or 15 the plain loader answers the same
record Common (r : Refusal) : Type 0 where
  numbered : listed (10 ∷ 13 ∷ 15 ∷ []) r.number ≡ true
  no_walk : listed walk_numbers r.number ≡ false

common_same : {f : List ℕ} {at n : ℕ} {plain : Outcome (List ℕ)} (r : Refusal) → Common r → Beside f at n plain r → plain ≡ bad r
common_same r c (the_same s e) = e
common_same r c (memtag_entry q w g) = false_true (rw q at c.numbered)
common_same r c (descriptor_table_holds q g) = false_true (rw q at c.numbered)
common_same r c (beside.descriptor q g) = false_true (sym c.no_walk ∙ q)
common_same r c (plane_alone q w g) = false_true (rw q at c.numbered)
common_same r c (choices_alone q e) = false_true (rw q at c.numbered)

common : (number : ℕ) → listed (10 ∷ 13 ∷ 15 ∷ []) number ≡ true → listed walk_numbers number ≡ false → (position : ℕ) → Common (refusal number position)
common number a b position = record { numbered = a; no_walk = b }

mistaken : (plain : List ℕ → ℕ → ℕ → Outcome (List ℕ)) (f : List ℕ) (r : Refusal) → Common r
    → facts_after (load_of f bias 720 45 choices) ≡ bad r → (plain f bias 720 ≡ bad r → ⊥) → RefusesAs plain f → ⊥
mistaken plain f r c e other s = other (common_same r c ((s bias 720 45 choices).beside r (load_bad (load_of f bias 720 45 choices) r e)))

-- a refusal with 7 at 1 is shared in no way
not_shared : {f : List ℕ} {at n : ℕ} → Shared f at n (refusal 7 1) → ⊥
not_shared (alike q) = false_true q
not_shared (base_entry q w) = omega arith
not_shared (relocation_table q) = let z = ap (λ (r : Refusal). r.position) q in omega arith
not_shared (unfit q w) = let z = ap (λ (r : Refusal). r.number) q in omega arith

pub mistakes : Mistakes
mistakes = record {
  header_wraps = (
    table_high,
    λ s.
        admits_differ (header_check table_high) (wrapped_header table_high) answers.table_right answers.table_wrong
        (sentences table_high).of_file.header s,
  );
  dynamic_long = (
    null_alone,
    λ s.
        let right = (((sentences null_alone).of_parts answers.null_headed answers.null_loaded).dynamic (the_dynamic null_alone)).0 answers.null_right in
        dynamic_false ((s answers.null_headed answers.null_loaded (the_dynamic null_alone)).1 right),
  );
  repeat_equal = (
    symtab_twice,
    λ s.
        clears_differ (bad_entry known_tags symtab_twice (the_dynamic symtab_twice) 7) (unequal_repeat symtab_twice (the_dynamic symtab_twice) 7)
        answers.twice_right answers.twice_wrong ((sentences symtab_twice).of_file.entry (the_dynamic symtab_twice) 7) (s (the_dynamic symtab_twice) 7),
  );
  mode_zero_holds = (
    mode_zero,
    λ s.
        let t = mode_told (examined_above mode_zero) answers.mode_wrong in
        not_absent (subst (Moded mode_zero (the_dynamic mode_zero)) t.1.1 (s t.0 t.1.0).mode_said),
  );
  kind_short = (
    kind_high,
    λ s.
        let m = the_module kind_high in
        let e = read_good kind_high answers.kind_read in
        let b = all_bytes_lem kind_high answers.kind_read.in_bytes in
        clears_differ (barred (target_at kind_high m 1)) (barred (short_kind kind_high m 1)) answers.kind_right answers.kind_wrong
        (((sentences kind_high).of_items m e).kind 1 b) (s m e 1 b),
  );
  section_high_holds = (
    section_high,
    λ s.
        let m = the_module section_high in
        let e = read_good section_high answers.section_read in
        let b = all_bytes_lem section_high answers.section_read.in_bytes in
        clears_differ (barred (target_at section_high m 1)) (barred (reserved_target section_high m 1)) answers.section_right answers.section_wrong
        (((sentences section_high).of_items m e).kind 1 b) (s m e 1 b),
  );
  flags_above_holds = (
    flags_five,
    λ s.
        let m = the_module flags_five in
        let e = read_good flags_five answers.flags_read in
        let b = all_bytes_lem flags_five answers.flags_read.in_bytes in
        means_differ (good_place flags_five m 0) (place_above flags_five m 0) answers.flags_right answers.flags_wrong
        (((sentences flags_five).of_items m e).place 0 b) (s m e 0 b),
  );
  source_below_holds = (
    sum_below,
    λ s.
        let r = answers.below_read in
        let b = all_bytes_lem sum_below r.in_bytes in
        let source = s 0 720 45 (5 ∷ []) (the_module sum_below) below_loads.0 (read_good sum_below r) below_loads.1 0 b below_relocates in
        below_false (subst (Sourced sum_below 0 (the_module sum_below) (image_of sum_below (the_headers sum_below) 720) 0) answers.below_wrong source),
  );
  order_swapped = (address_below, λ s. order_false (s bias 720 45 choices));
  plain_item = (
    third_item,
    λ s.
        mistaken plain_by_item third_item (refusal 13 5) (common 13 refl refl 5) answers.third_load
        (λ e.
        let q = one_refusal _ (refusal 13 5) (refusal 13 6) e (plain_bad _ (refusal 13 6) answers.third_plain) in
        let z = ap (λ (r : Refusal). r.position) q in omega arith) s,
  );
  plain_late_holds = (
    bitmap_first,
    λ s.
        mistaken plain_late bitmap_first (refusal 15 0) (common 15 refl refl 0) answers.bitmap_load
        (λ e.
        let q = one_refusal _ (refusal 15 0) (refusal 10 0) e (plain_bad _ (refusal 10 0) answers.bitmap_plain) in
        let z = ap (λ (r : Refusal). r.number) q in omega arith) s,
  );
  plain_described_holds = (
    table_unbacked,
    λ s.
        not_shared ((s bias 720 45 choices).shared_only (refusal 7 1) (plain_bad _ (refusal 7 1) answers.unbacked_plain)),
  );
  plain_taking_holds = (
    kind_bad,
    λ s.
        mistaken plain_taking kind_bad (refusal 10 0) (common 10 refl refl 0) answers.bad_load_lem (λ e. plain_good _ (refusal 10 0) answers.bad_plain e) s,
  );
}
