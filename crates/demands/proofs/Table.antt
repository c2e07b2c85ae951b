-- Each check refuses as its row of the table says, and no other way.
-- Assumes nothing.
use Rattle.std.specs.Prelude.{Option, Some, None}
use Prim.Native.Nat.{ℕ, zero, suc, ◌+◌, ◌*◌, ◌-◌, ◌/◌, ◌≤◌, ◌<◌}
use mathlib.Core.Path.{◌≡◌, refl, sym, ap, ◌∙◌, subst}
use mathlib.Core.Bool.{Bool, true, false, cond, not, ◌&&◌}
use mathlib.Core.List.{List, [], ◌∷◌}
use mathlib.Core.Logic.{◌⊎◌, inl, inr, ⊎_elim}
use native.Mathlib.Nat.{sub-zero}
use native.Mathlib.Numerals.{add-one}
use native.Mathlib.Omega.{arith}
use lib.ListN.{length}
use lib.Dec.{leb, ltb, eqb}
use borrow.Author.Tests.{leb-false, lt-leb, ltb-true, ltb-false, lt-ltb, le-ltb, eqb-true, eqb-false, eq-eqb, ne_eqb, not-true, not-false}
use Rattle.rules.specs.Outcome.{Outcome, good, bad, refusal, and_then, require, Refusal}
use Rattle.rules.specs.Limits.{file_least, file_limit, entry_limit, global_limit, granule}
use Rattle.rules.specs.First.{first, some_below, faults_at, faultless}
use Rattle.rules.specs.Headers.{size_check, wrong_byte, identification_check, header_check}
use Rattle.rules.specs.Segments.{bad_load, loads_check, in_memory}
use Rattle.rules.specs.Dynamic.{is_dynamic_at, dynamic_from, first_dynamic, second_dynamic, good_size, null_entry, dynamic_at, dynamic_of}
use Rattle.rules.specs.Dynamic.{known_tags, bad_entry, partnerless, entries_check}
use Rattle.rules.specs.Tables.{table_backing, backed, rela_address, rela_bytes, descriptor_address, descriptor_bytes, relocations_of, descriptors_of}
use Rattle.rules.specs.Descriptors.{Read, finished, global, step_at, on_global, globals_from, globals_of, descriptor_table, table_start}
use Rattle.rules.specs.Relocations.{items, position_at, target_at, barred, bad_relocation, first_bad, relocations_check}
use Rattle.rules.specs.Lending.{lending_fits, lending_check}
use Rattle.rules.specs.Addresses.{bad_address, addresses_check}
use Rattle.rules.specs.Choices.{bad_choice, choices_for}
use Rattle.rules.specs.declared.Headers.{Headers}
use Rattle.rules.specs.declared.Dynamic.{Dynamic}
use Rattle.rules.specs.declared.Known.{Known}
use Rattle.rules.specs.declared.Relocations.{Relocations}
use Rattle.rules.specs.declared.Descriptors.{Descriptors}
use Rattle.rules.specs.declared.Global.{Global}
use Rattle.rules.specs.declared.Cursor.{Cursor}
use Rattle.rules.specs.declared.Module.{Module}
use Rattle.rules.proofs.FirstLaws.{first-le, at_some}
use Rattle.rules.proofs.OutcomeLaws.{good_bad, never, require_held}
use Rattle.laws.proofs.Checks.{and_then_bad, require_stopped, faultless_all, all_faultless, some_at}
use Rattle.laws.proofs.PackedTable.{backed_bad}
use Rattle.demands.proofs.Steps.{step_numbers}
use Rattle.demands.proofs.PackedFaults.{packed_says, packed_when}
use Rattle.demands.proofs.Lowest.{cond_bad, lowest_first, first_lowest, clear_first, first_clear, faultless_lowest, lowest_faultless}
use Rattle.demands.specs.Table.{listed, Lowest, Reaches, Row, Table}
use Rattle.demands.specs.Table.{DynamicFault, no_dynamic, second-dynamic, bad_dynamic, EntryFault, bad_entry_holds, no_partner, EntryFaultBy}
use Rattle.demands.specs.Table.{bad_entry_by, no_partner_by, Unread}
use Rattle.demands.specs.Table.{GlobalFault, ends_high, outside_loads, left_over, FirstAt, ItemAt, ChoiceFault, wrong_number, bad_choice_holds}

-- a refusal with a number, at a position
abbrev pub By : ℕ → (ℕ → Type 0) → Refusal → Type 0
By code P r = (i : ℕ) × ((r ≡ refusal code i) × P i)

-- or with one of two, or of three
abbrev ByTwo : ℕ → ℕ → (ℕ → Type 0) → (ℕ → Type 0) → Refusal → Type 0
ByTwo one two P Q r = By one P r ⊎ By two Q r

abbrev ByThree : ℕ → ℕ → ℕ → (ℕ → Type 0) → (ℕ → Type 0) → (ℕ → Type 0) → Refusal → Type 0
ByThree one two three P Q R r = By one P r ⊎ ByTwo two three Q R r

-- a check refuses so, and no other way
record Refuses {A : Type 0} (c : Outcome A) (Says : Refusal → Type 0) : Type 0 where
  says : (r : Refusal) → c ≡ bad r → Says r
  when : (r : Refusal) → Says r → c ≡ bad r

-- ---- check 1

size_row : {r : Refusal} (f : List ℕ) → size_check f ≡ bad r → ((length f < file_least) ⊎ (file_limit < length f)) × (r ≡ refusal 1 0)
unfolding size_check
size_row f e =
    let s = require_stopped (leb file_least (length f) && leb (length f) file_limit) 1 0 e in
    (go (leb file_least (length f)) refl s.0, s.1)
  where
    go : (b : Bool) → leb file_least (length f) ≡ b → (b && leb (length f) file_limit) ≡ false → (length f < file_least) ⊎ (file_limit < length f)
    go true q t = inr (leb-false (length f) file_limit t)
    go false q t = inl (leb-false file_least (length f) q)

row_size : (f : List ℕ) → (length f < file_least) ⊎ (file_limit < length f) → size_check f ≡ bad (refusal 1 0)
unfolding size_check
row_size f (inl l) = rw (lt-leb file_least (length f) l)
row_size f (inr l) = go (leb file_least (length f))
  where
    go : (b : Bool) → require (b && leb (length f) file_limit) 1 0 ≡ bad (refusal 1 0)
    go true = rw (lt-leb (length f) file_limit l)
    go false = refl

-- ---- check 5

dynamic_at-refusal : {r : Refusal} (f : List ℕ) (i size : ℕ) (p : Option ℕ) → dynamic_at f i size p ≡ bad r → r ≡ refusal 5 i
unfolding dynamic_at
dynamic_at-refusal f i size None e = cc
dynamic_at-refusal f i size (Some at) e =
    cond_bad (good_size size && ltb (null_entry f at (size / 16)) (size / 16)) _ (refusal 5 i) e
    (λ _ q. search never) (λ _ q. q)

-- ---- check 7

relocations_row : {r : Refusal} (f : List ℕ) (h : Headers) (d : Dynamic) → relocations_of f h d ≡ bad r
    → ((table_backing f h (rela_address f d) (rela_bytes f d) ≡ None) ⊎ (entry_limit < rela_bytes f d / 24)) × (r ≡ refusal 7 0)
unfolding relocations_of
relocations_row f h d e =
    and_then_bad (backed 7 0 (table_backing f h (rela_address f d) (rela_bytes f d))) _ e
    (λ q. let b = backed_bad 7 0 (table_backing f h (rela_address f d) (rela_bytes f d)) q in (inl b.0, b.1)) (λ _ _ q.
    and_then_bad (require (leb (rela_bytes f d / 24) entry_limit) 7 0) _ q
    (λ q. let s = require_stopped (leb (rela_bytes f d / 24) entry_limit) 7 0 q in (inr (leb-false (rela_bytes f d / 24) entry_limit s.0), s.1))
    (λ _ _ q. good_bad q))

row_relocations : (f : List ℕ) (h : Headers) (d : Dynamic)
    → (table_backing f h (rela_address f d) (rela_bytes f d) ≡ None) ⊎ (entry_limit < rela_bytes f d / 24) → relocations_of f h d ≡ bad (refusal 7 0)
unfolding relocations_of
row_relocations f h d (inl e) = rw e
row_relocations f h d (inr l) = go (table_backing f h (rela_address f d) (rela_bytes f d))
  where
    go : (p : Option ℕ) → and_then {B = Relocations} (backed 7 0 p) (λ at. and_then (require (leb (rela_bytes f d / 24) entry_limit) 7 0) (λ _.
        good (record { at = at; entries = rela_bytes f d / 24 }))) ≡ bad (refusal 7 0)
    go None = refl
    go (Some at) = rw (lt-leb (rela_bytes f d / 24) entry_limit l)

descriptors_row : {r : Refusal} (f : List ℕ) (h : Headers) (d : Dynamic) → descriptors_of f h d ≡ bad r
    → (table_backing f h (descriptor_address f d) (descriptor_bytes f d) ≡ None) × (r ≡ refusal 7 1)
unfolding descriptors_of
descriptors_row f h d e =
    and_then_bad (backed 7 1 (table_backing f h (descriptor_address f d) (descriptor_bytes f d))) _ e
    (backed_bad 7 1 (table_backing f h (descriptor_address f d) (descriptor_bytes f d)))
    (λ _ _ q. search never)

row_descriptors : (f : List ℕ) (h : Headers) (d : Dynamic) → table_backing f h (descriptor_address f d) (descriptor_bytes f d) ≡ None
    → descriptors_of f h d ≡ bad (refusal 7 1)
unfolding descriptors_of
row_descriptors f h d e = rw e

-- ---- the rows

-- checks with one test, or with a fault by index
require_refuses : {P : Type 0} (b : Bool) (code position : ℕ) → (b ≡ false → P) → (P → b ≡ false)
    → Refuses (require b code position) (By code (λ i. (i ≡ position) × P))
require_refuses b code position to from = record {
  says = λ r e. let s = require_stopped b code position e in (position, (s.1, (refl, to s.0)));
  when = λ r w. let q = w.1.0 in let z = w.1.1.0 in rw (from w.1.1.1, q, z);
}

faultless_refuses : (code n : ℕ) (fault : ℕ → Bool) → Refuses (faultless code fault n) (By code (Lowest fault 0 n))
faultless_refuses code n fault = record {
  says = λ r e. let l = faultless_lowest fault code n e in (l.0, (l.1.1, l.1.0));
  when = λ r w. lowest_faultless fault code n w.0 w.1.1 ∙ rw w.1.0;
}

module _ (f : List ℕ) where
  dynamic_says : (h : Headers) (r : Refusal) → dynamic_of f h ≡ bad r → By 5 (DynamicFault f h) r
  unfolding dynamic_of dynamic_from
  dynamic_says h r e =
      and_then_bad (require (ltb (first_dynamic f h) h.count) 5 h.count) _ e
      (λ q.
      let s = require_stopped (ltb (first_dynamic f h) h.count) 5 h.count q in
      let l = ltb-false (first_dynamic f h) h.count s.0 in
      (h.count, (s.1, no_dynamic (first_clear (is_dynamic_at f h) 0 h.count h.count (omega arith) l) refl)))
      (λ _ a q.
      let u = ltb-true (first_dynamic f h) h.count (require_held _ 5 h.count a) in
      let low = first_lowest (is_dynamic_at f h) 0 h.count h.count (omega arith) u in
      let k = h.count - (first_dynamic f h + 1) in
      and_then_bad (require (not (ltb (second_dynamic f h) h.count)) 5 (second_dynamic f h)) _ q
      (λ q.
      let s = require_stopped (not (ltb (second_dynamic f h) h.count)) 5 (second_dynamic f h) q in
      let v = ltb-true (second_dynamic f h) h.count (not-false _ s.0) in (
        second_dynamic f h,
        (
          s.1,
          second-dynamic (first_dynamic f h) low
              (first_lowest (is_dynamic_at f h) (first_dynamic f h + 1) k h.count (omega arith) v),
        ),
      ))
      (λ _ b q.
      let v = ltb-false (second_dynamic f h) h.count (not-true (ltb (second_dynamic f h) h.count) (require_held _ 5 (second_dynamic f h) b)) in
      let z = dynamic_at-refusal f (first_dynamic f h) _ _ q in (
        first_dynamic f h,
        (
          z,
          bad_dynamic low
              (first_clear (is_dynamic_at f h) (first_dynamic f h + 1) k h.count (omega arith) v) (q ∙ ap (λ (r : Refusal). bad r) z),
        ),
      )))

  dynamic_when : (h : Headers) (i : ℕ) → DynamicFault f h i → dynamic_of f h ≡ bad (refusal 5 i)
  unfolding dynamic_of dynamic_from
  dynamic_when h i (no_dynamic c q) =
      let s = clear_first (is_dynamic_at f h) 0 h.count h.count (omega arith) c in
      rw (s, le-ltb h.count h.count (omega arith), q)
  dynamic_when h i (second-dynamic j l k) =
      let u = l.below in
      let a = lowest_first (is_dynamic_at f h) 0 h.count h.count (omega arith) j l in
      let b = lowest_first (is_dynamic_at f h) (j + 1) (h.count - (j + 1)) h.count (omega arith) i k in
      rw (a, lt-ltb j h.count u, b, lt-ltb i h.count k.below)
  dynamic_when h i (bad_dynamic l k e) =
      let u = l.below in
      let a = lowest_first (is_dynamic_at f h) 0 h.count h.count (omega arith) i l in
      let b = clear_first (is_dynamic_at f h) (i + 1) (h.count - (i + 1)) h.count (omega arith) k in
      rw (a, lt-ltb i h.count u, b, le-ltb h.count h.count (omega arith), e)

  module _ (known : List Known) (d : Dynamic) where
    pub entries_says : (r : Refusal) → entries_check known f d ≡ bad r → By 6 (EntryFaultBy known f d) r
    unfolding entries_check
    entries_says r e =
        and_then_bad (faultless 6 (bad_entry known f d) d.entries) _ e
        (λ q. let l = faultless_lowest (bad_entry known f d) 6 d.entries q in (l.0, (l.1.1, bad_entry_by l.1.0)))
        (λ _ a q.
        let s = require_stopped (not (some_below (partnerless known f d) (length known))) 6 d.entries q in
        let k = some_at (partnerless known f d) (length known) (not-false _ s.0) in
        (d.entries, (s.1, no_partner_by k.0 (λ i u v. faultless_all (bad_entry known f d) 6 d.entries a i v) k.1.0 k.1.1 refl)))

    pub entries_when : (i : ℕ) → EntryFaultBy known f d i → entries_check known f d ≡ bad (refusal 6 i)
    unfolding entries_check
    entries_when i (bad_entry_by l) = let s = lowest_faultless (bad_entry known f d) 6 d.entries i l in rw s
    entries_when i (no_partner_by k c l e q) =
        let a = all_faultless (bad_entry known f d) 6 d.entries (λ i u. c i (omega arith) u) in
        let b = at_some (partnerless known f d) (length known) k l e in
        rw (a, b, q)

  -- of the tags of all the checks
  fault_of : (d : Dynamic) (i : ℕ) → EntryFaultBy known_tags f d i → EntryFault f d i
  fault_of d i (bad_entry_by l) = bad_entry_holds l
  fault_of d i (no_partner_by k c l e q) = no_partner k c l e q

  of_fault : (d : Dynamic) (i : ℕ) → EntryFault f d i → EntryFaultBy known_tags f d i
  of_fault d i (bad_entry_holds l) = bad_entry_by l
  of_fault d i (no_partner k c l e q) = no_partner_by k c l e q

  module _ (h : Headers) (t : Descriptors) where
    abbrev Faulty : Refusal → Type 0
    Faulty r =
        ByThree 8 16 9 (Unread f h (descriptor_table f t) 8) (Unread f h (descriptor_table f t) 16) (GlobalFault f h (descriptor_table f t)) r

    walk_says : {r : Refusal} (k i : ℕ) (c : Cursor) → i + k ≡ global_limit → Reaches f h (descriptor_table f t) i c
        → globals_from f h (descriptor_table f t) k i c ≡ bad r → Faulty r
    unfolding globals_from
    walk_says {r} zero i c l w e = go (ltb c.position (length (descriptor_table f t))) refl e
      where
        go : (b : Bool) → ltb c.position (length (descriptor_table f t)) ≡ b
            → cond {A = Outcome (List Global)} b (bad (refusal 9 i)) (good []) ≡ bad r → Faulty r
        go true q x = inr (inr (i, (cc, left_over c (omega arith) w (ltb-true _ _ q))))
        go false q x = good_bad x
    walk_says {r} (suc k) i c l w e =
        and_then_bad (step_at i (descriptor_table f t) c) _ e
        (λ q. ⊎_elim
        (λ (x : r ≡ refusal 8 i). inl (i, (x, unread 8 x q)))
        (λ (y : (r ≡ refusal 16 i) ⊎ (r ≡ refusal 9 i)). ⊎_elim
        (λ (x : r ≡ refusal 16 i). inr (inl (i, (x, unread 16 x q))))
        (λ (x : r ≡ refusal 9 i). inr (inr (i, (x, ends_high (unread 9 x q))))) y)
        (step_numbers i (descriptor_table f t) c r q))
        (λ x q s. go x q s (walk_says k (i + 1)))
      where
        unread : (code : ℕ) → r ≡ refusal code i → step_at i (descriptor_table f t) c ≡ bad r → Unread f h (descriptor_table f t) code i
        unread code x q = record { cursor = c; counted = omega arith; reached = w; refused = q ∙ ap (λ (r : Refusal). bad r) x }

        go : (x : Read) → step_at i (descriptor_table f t) c ≡ good x
            → on_global x (λ g₁ next. cond (in_memory f h false g₁.start (granule * g₁.granules))
            (and_then (globals_from f h (descriptor_table f t) k (i + 1) next) (λ gs. good (g₁ ∷ gs))) (bad (refusal 9 i))) ≡ bad r
            → ((c : Cursor) → i + 1 + k ≡ global_limit → Reaches f h (descriptor_table f t) (i + 1) c
            → globals_from f h (descriptor_table f t) k (i + 1) c ≡ bad r → Faulty r)
            → Faulty r
        go finished q s again = good_bad s
        go (global x next) q s again =
            cond_bad (in_memory f h false x.start (granule * x.granules)) _ (refusal 9 i) s
            (λ a s.
            and_then_bad (globals_from f h (descriptor_table f t) k (i + 1) next) _ s
            (again next (omega arith) (rw add-one (record { cursor = c; before = w; read = x; reads = q; inside = a })))
            (λ _ _ s. good_bad s))
            (λ a s. inr (inr (i, (s, outside_loads c next x (omega arith) w q a))))

    -- a walk that comes to an index and is refused there is refused
    reached : {r : Refusal} (total i : ℕ) (c : Cursor) → i ≤ total → Reaches f h (descriptor_table f t) i c
        → globals_from f h (descriptor_table f t) (total - i) i c ≡ bad r → globals_from f h (descriptor_table f t) total 0 table_start ≡ bad r
    unfolding globals_from
    reached total zero c l w e = rw (← w) (rw sub-zero at e)
    reached {r} total (suc i) c l w e =
        let k : total - i ≡ suc (total - suc i) = omega arith in
        reached total i w.cursor (omega arith) w.before (rw (k, w.reads, w.inside, add-one, e))

    unread_when : (code i : ℕ) → Unread f h (descriptor_table f t) code i → globals_of f h t ≡ bad (refusal code i)
    unfolding globals_of globals_from
    unread_when code i u =
        let l = u.counted in
        let k : global_limit - i ≡ suc (global_limit - suc i) = omega arith in
        reached global_limit i u.cursor (omega arith) u.reached (rw (k, u.refused))

    fault_when : (i : ℕ) → GlobalFault f h (descriptor_table f t) i → globals_of f h t ≡ bad (refusal 9 i)
    unfolding globals_of globals_from
    fault_when i (ends_high u) = unread_when 9 i u
    fault_when i (outside_loads c next x l w e o) =
        let k : global_limit - i ≡ suc (global_limit - suc i) = omega arith in
        reached global_limit i c (omega arith) w (rw (k, e, o))
    fault_when i (left_over c l w o) = let k : global_limit - i ≡ 0 = omega arith in reached global_limit i c (omega arith) w (rw (k, lt-ltb _ _ o))

    walk_refuses : Refuses (globals_of f h t) Faulty
    unfolding globals_of
    walk_refuses = record {
      says = λ r e. walk_says global_limit 0 table_start (omega arith) refl e;
      when = λ r w. ⊎_elim
          (λ (u : By 8 (Unread f h (descriptor_table f t) 8) r). unread_when 8 u.0 u.1.1 ∙ rw u.1.0)
          (λ (v : By 16 (Unread f h (descriptor_table f t) 16) r ⊎ By 9 (GlobalFault f h (descriptor_table f t)) r). ⊎_elim
          (λ (u : By 16 (Unread f h (descriptor_table f t) 16) r). unread_when 16 u.0 u.1.1 ∙ rw u.1.0)
          (λ (u : By 9 (GlobalFault f h (descriptor_table f t)) r). fault_when u.0 u.1.1 ∙ rw u.1.0) v) w;
    }

  module _ (m : Module) where
    abbrev Barred : Refusal → Type 0
    Barred r = By 10 (ItemAt f m true) r ⊎ By 11 (ItemAt f m false) r

    item_says : (r : Refusal) → relocations_check f m ≡ bad r → Barred r
    unfolding relocations_check first_bad
    item_says r e =
        cond_bad (eqb (first (bad_relocation f m) 0 (items m)) (items m)) _ _ e
        (λ _ q. good_bad q)
        (λ a q.
        let ne = eqb-false (first (bad_relocation f m) 0 (items m)) (items m) a in
        let l = first-le (bad_relocation f m) (items m) 0 in
        go (first (bad_relocation f m) 0 (items m))
        (first_lowest (bad_relocation f m) 0 (items m) (items m) (omega arith) (omega arith))
        (barred (target_at f m (first (bad_relocation f m) 0 (items m)))) refl q)
      where
        go : (i : ℕ) → Lowest (bad_relocation f m) 0 (items m) i → (b : Bool) → barred (target_at f m i) ≡ b
            → r ≡ refusal (cond b 10 11) (position_at f m i) → Barred r
        go i l true x q = inl (position_at f m i, (q, record { at = record { item = i; first = l; reported = refl }; by_kind = x }))
        go i l false x q = inr (position_at f m i, (q, record { at = record { item = i; first = l; reported = refl }; by_kind = x }))

    item_when : (kind : Bool) (p : ℕ) → ItemAt f m kind p → relocations_check f m ≡ bad (refusal (cond kind 10 11) p)
    unfolding relocations_check first_bad
    item_when kind p u =
        let i = u.at.item in
        let l = u.at.first.below in
        let a = lowest_first (bad_relocation f m) 0 (items m) (items m) (omega arith) i u.at.first in
        rw (a, ne_eqb i (items m) (λ z. omega arith), u.by_kind, u.at.reported)

    -- the items with a fault of another check
    first_refuses : (code : ℕ) (fault : ℕ → Bool) → Refuses (faults_at code (position_at f m) fault (items m)) (By code (FirstAt f m fault))
    first_refuses code fault = record {
      says = λ r e.
          cond_bad (eqb (first fault 0 (items m)) (items m)) _ _ e
          (λ _ q. good_bad q)
          (λ a q.
          let ne = eqb-false (first fault 0 (items m)) (items m) a in
          let l = first-le fault (items m) 0 in
          let low = first_lowest fault 0 (items m) (items m) (omega arith) (omega arith) in
          (position_at f m (first fault 0 (items m)), (q, record { item = first fault 0 (items m); first = low; reported = refl })));
      when = λ r w.
          let u = w.1.1 in
          let l = u.first.below in
          let a = lowest_first fault 0 (items m) (items m) (omega arith) u.item u.first in
          rw (a, ne_eqb u.item (items m) (λ z. omega arith), w.1.0, u.reported);
    }

    item_refuses : Refuses (relocations_check f m) Barred
    item_refuses = record {
      says = item_says;
      when = λ r w. ⊎_elim
          (λ (u : By 10 (ItemAt f m true) r). item_when true u.0 u.1.1 ∙ rw u.1.0)
          (λ (u : By 11 (ItemAt f m false) r). item_when false u.0 u.1.1 ∙ rw u.1.0) w;
    }

choices_says : (gs : List Global) (choices : List ℕ) (r : Refusal) → choices_for gs choices ≡ bad r → By 14 (ChoiceFault gs choices) r
unfolding choices_for
choices_says gs choices r e =
    and_then_bad (require (eqb (length choices) (length gs)) 14 (length gs)) _ e
    (λ q.
    let s = require_stopped (eqb (length choices) (length gs)) 14 (length gs) q in
    (length gs, (s.1, wrong_number (eqb-false (length choices) (length gs) s.0) refl)))
    (λ _ c q.
    let l = faultless_lowest (bad_choice gs choices) 14 (length gs) q in
    (l.0, (l.1.1, bad_choice_holds (eqb-true _ _ (require_held _ 14 (length gs) c)) l.1.0)))

choices_when : (gs : List Global) (choices : List ℕ) (i : ℕ) → ChoiceFault gs choices i → choices_for gs choices ≡ bad (refusal 14 i)
unfolding choices_for
choices_when gs choices i (wrong_number e q) = rw (ne_eqb (length choices) (length gs) e, q)
choices_when gs choices i (bad_choice_holds e l) =
    let s = lowest_faultless (bad_choice gs choices) 14 (length gs) i l in
    rw (eq-eqb (length choices) (length gs) e, s)

-- a check of one number, and one of two
same_position : {P : ℕ → Type 0} (code i : ℕ) → By code P (refusal code i) → P i
same_position {P} code i w = subst P (sym (ap (λ (r : Refusal). r.position) w.1.0)) w.1.1

one_row : {A : Type 0} {P : ℕ → Type 0} {c : Outcome A} (code : ℕ) → Refuses c (By code P) → Row c (code ∷ []) code P
one_row code t = record {
  only = λ r e. rw ((t.says r e).1.0, eq-eqb code code refl);
  says = λ i e. same_position code i (t.says (refusal code i) e);
  when = λ i w. t.when (refusal code i) (i, (refl, w));
}

module _ {A : Type 0} {P Q : ℕ → Type 0} {c : Outcome A} (one two : ℕ) (apart : one ≡ two → ⊥) (t : Refuses c (ByTwo one two P Q)) where
  only_two : (r : Refusal) → c ≡ bad r → listed (one ∷ two ∷ []) r.number ≡ true
  only_two r e =
      ⊎_elim
      (λ (w : By one P r). rw (w.1.0, eq-eqb one one refl))
      (λ (w : By two Q r). rw (w.1.0, ne_eqb one two apart, eq-eqb two two refl))
      (t.says r e)

  first-row : Row c (one ∷ two ∷ []) one P
  first-row = record {
    only = only_two;
    says = λ i e. ⊎_elim
        (λ (w : By one P (refusal one i)). same_position one i w)
        (λ (w : By two Q (refusal one i)). absurd (apart (ap (λ (r : Refusal). r.number) w.1.0)))
        (t.says (refusal one i) e);
    when = λ i w. t.when (refusal one i) (inl (i, (refl, w)));
  }

  second-row : Row c (one ∷ two ∷ []) two Q
  second-row = record {
    only = only_two;
    says = λ i e. ⊎_elim
        (λ (w : By one P (refusal two i)). absurd (apart (sym (ap (λ (r : Refusal). r.number) w.1.0))))
        (λ (w : By two Q (refusal two i)). same_position two i w)
        (t.says (refusal two i) e);
    when = λ i w. t.when (refusal two i) (inr (i, (refl, w)));
  }

-- and of three
record Apart (one two three : ℕ) : Type 0 where
  first-second : one ≡ two → ⊥
  first_third : one ≡ three → ⊥
  second_third : two ≡ three → ⊥

module _ {A : Type 0} {P Q R : ℕ → Type 0} {c : Outcome A} (one two three : ℕ) (apart : Apart one two three)
    (t : Refuses c (ByThree one two three P Q R)) where
  abbrev three_numbers : List ℕ
  three_numbers = one ∷ two ∷ three ∷ []

  -- by whichever it is
  which : {T : Type 0} (r : Refusal) → (By one P r → T) → (By two Q r → T) → (By three R r → T) → c ≡ bad r → T
  which r f g h e = ⊎_elim f (λ (v : ByTwo two three Q R r). ⊎_elim g h v) (t.says r e)

  only_three : (r : Refusal) → c ≡ bad r → listed three_numbers r.number ≡ true
  only_three r e =
      which r
      (λ w. rw (w.1.0, eq-eqb one one refl))
      (λ w. rw (w.1.0, ne_eqb one two apart.first-second, eq-eqb two two refl))
      (λ w. rw (w.1.0, ne_eqb one three apart.first_third, ne_eqb two three apart.second_third, eq-eqb three three refl))
      e

  -- no other number is this one
  other : {T : Type 0} {S : ℕ → Type 0} (code number i : ℕ) → (code ≡ number → ⊥) → By number S (refusal code i) → T
  other code number i differ w = absurd (differ (ap (λ (r : Refusal). r.number) w.1.0))

  three_first : Row c three_numbers one P
  three_first = record {
    only = only_three;
    says = λ i e. which (refusal one i) (same_position one i) (other one two i apart.first-second) (other one three i apart.first_third) e;
    when = λ i w. t.when (refusal one i) (inl (i, (refl, w)));
  }

  three_second : Row c three_numbers two Q
  three_second = record {
    only = only_three;
    says = λ i e. which (refusal two i) (other two one i (λ z. apart.first-second (sym z))) (same_position two i)
        (other two three i apart.second_third) e;
    when = λ i w. t.when (refusal two i) (inr (inl (i, (refl, w))));
  }

  three_third : Row c three_numbers three R
  three_third = record {
    only = only_three;
    says = λ i e. which (refusal three i) (other three one i (λ z. apart.first_third (sym z)))
        (other three two i (λ z. apart.second_third (sym z))) (same_position three i) e;
    when = λ i w. t.when (refusal three i) (inr (inr (i, (refl, w))));
  }

walk_apart : Apart 8 16 9
walk_apart = record { first-second = λ z. omega arith; first_third = λ z. omega arith; second_third = λ z. omega arith }

pub table : (f : List ℕ) → Table f
unfolding identification_check header_check loads_check lending_check addresses_check
table f = record {
  row_1 = one_row 1 (record {
    says = λ r e. let s = size_row f e in (0, (s.1, (refl, s.0)));
    when = λ r w. row_size f w.1.1.1 ∙ rw (w.1.0, w.1.1.0);
  });
  row_2 = one_row 2 (faultless_refuses 2 7 (wrong_byte f));
  row_3 = one_row 3 (require_refuses _ 3 0 (λ e. e) (λ e. e));
  row_4 = λ h. one_row 4 (faultless_refuses 4 h.count (bad_load f h));
  row_5 = λ h. one_row 5 (record { says = dynamic_says f h; when = λ r w. dynamic_when f h w.0 w.1.1 ∙ rw w.1.0 });
  row_6 = λ d. one_row 6 (record {
    says = λ r e. let s = entries_says f known_tags d r e in (s.0, (s.1.0, fault_of f d s.0 s.1.1));
    when = λ r w. entries_when f known_tags d w.0 (of_fault f d w.0 w.1.1) ∙ rw w.1.0;
  });
  row_7 = λ h d. one_row 7 (record {
    says = λ r e. let s = relocations_row f h d e in (0, (s.1, (refl, s.0)));
    when = λ r w. row_relocations f h d w.1.1.1 ∙ rw (w.1.0, w.1.1.0);
  });
  row_7_descriptors = λ h d. one_row 7 (record {
    says = λ r e. let s = descriptors_row f h d e in (1, (s.1, (refl, s.0)));
    when = λ r w. row_descriptors f h d w.1.1.1 ∙ rw (w.1.0, w.1.1.0);
  });
  row_15 = λ h d r few. one_row 15 (record {
    says = packed_says f h d r few;
    when = λ q w. packed_when f h d r few w.0 w.1.1 ∙ rw w.1.0;
  });
  row_8 = λ h t. three_first 8 16 9 walk_apart (walk_refuses f h t);
  row_16 = λ h t. three_second 8 16 9 walk_apart (walk_refuses f h t);
  row_9 = λ h t. three_third 8 16 9 walk_apart (walk_refuses f h t);
  row_10 = λ m. first-row 10 11 (λ z. omega arith) (item_refuses f m);
  row_11 = λ m. second-row 10 11 (λ z. omega arith) (item_refuses f m);
  row_12 = λ m bias n p. one_row 12 (require_refuses (lending_fits f m bias n p) 12 0 (λ e. e) (λ e. e));
  row_13 = λ m bias. one_row 13 (first_refuses f m 13 (bad_address f m bias));
  row_14 = λ gs choices. one_row 14 (record {
    says = choices_says gs choices;
    when = λ r w. choices_when gs choices w.0 w.1.1 ∙ rw w.1.0;
  });
}
