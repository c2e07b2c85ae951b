-- Every refusal has a number of its call and a position within bounds, and the facts' counts are within theirs.
-- Assumes nothing.
use Rattle.std.specs.Prelude.{Option, Some, None}
use Prim.Native.Nat.{ℕ, ◌/◌, ◌%◌, ◌≤◌, ◌<◌}
use mathlib.Core.Path.{◌≡◌, refl, sym, ap, ◌∙◌, subst}
use mathlib.Core.Bool.{Bool, true, false, not, ◌&&◌, ◌||◌}
use mathlib.Core.List.{List, [], ◌∷◌, ◌++◌}
use mathlib.Core.Logic.{◌⊎◌, inl, inr, ⊎_elim}
use native.Mathlib.Omega.{arith}
use lib.ListN.{length}
use lib.Dec.{leb, ltb, eqb}
use borrow.Author.Tests.{leb-true, ltb-true, eqb-true}
use Rattle.rules.specs.Outcome.{Outcome, good, bad, refusal, found, passed, require, Refusal}
use Rattle.rules.specs.Checks.{Check, All, First}
use Rattle.rules.specs.Limits.{entry_limit, global_limit, header_limit, dynamic_limit}
use Rattle.rules.specs.Bytes.{le}
use Rattle.rules.specs.Headers.{wrong_byte, good_header, header_check, the_headers}
use Rattle.rules.specs.Segments.{bad_load}
use Rattle.rules.specs.Dynamic.{null_entry, good_size, dynamic_at, first_dynamic, second_dynamic, dynamic_of}
use Rattle.rules.specs.Tables.{table_backing, backed, rela_address, rela_bytes, packed_address, packed_bytes, relocations_of}
use Rattle.rules.specs.Descriptors.{globals_of, descriptor_table}
use Rattle.rules.specs.Reader.{the_dynamic, the_relocations, the_descriptors, the_module, reader_checks, module_of}
use Rattle.rules.specs.Relocations.{live, items, position_at, bad_relocation, relocations_check, words_of}
use Rattle.rules.specs.Examine.{facts_of, module_checks, examine_checks, examined_of}
use Rattle.rules.specs.Addresses.{bad_address}
use Rattle.rules.specs.Choices.{globals_in}
use Rattle.rules.specs.Load.{Loaded, load_of, load_checks}
use Rattle.rules.specs.declared.Headers.{Headers}
use Rattle.rules.specs.declared.Dynamic.{Dynamic}
use Rattle.rules.specs.declared.Relocations.{Relocations}
use Rattle.rules.specs.declared.Descriptors.{Descriptors}
use Rattle.rules.specs.declared.Global.{Global}
use Rattle.rules.specs.declared.Module.{Module}
use Rattle.rules.specs.declared.Facts.{Facts}
use Rattle.rules.proofs.FirstLaws.{count_le}
use Rattle.rules.proofs.OutcomeLaws.{good_bad, bad_good, never, and_left, and_right, and_then_good, require_held, cond_held}
use Rattle.rules.proofs.ChecksLaws.{all_append}
use Rattle.laws.proofs.Checks.{good_same, le_or_lt}
use Rattle.laws.proofs.Items.{entry_position}
use Rattle.laws.proofs.PackedTable.{Good, table_short, packed_good}
use Rattle.laws.proofs.Globals.{globals_count}
use Rattle.demands.proofs.Reading.{module_reads}
use Rattle.demands.proofs.Flags.{flags}
use Rattle.demands.proofs.Items.{packs}
use Rattle.demands.specs.Packed.{Packs}
use Rattle.demands.proofs.Exactly.{exactly_read, exactly_examined, exactly_loaded, taken_passes}
use Rattle.demands.proofs.Table.{table}
use Rattle.demands.specs.Table.{reader_numbers, examine_numbers, load_numbers, listed, position_limit, Lowest, Unread, FirstAt, ItemAt, Row}
use Rattle.demands.specs.Table.{DynamicFault, no_dynamic, second-dynamic, bad_dynamic, EntryFault, bad_entry_holds, no_partner}
use Rattle.demands.specs.Table.{PackedFault, not_backed, bitmap_first, too_many}
use Rattle.demands.specs.Table.{GlobalFault, ends_high, outside_loads, left_over, ChoiceFault, wrong_number, bad_choice_holds}
use Rattle.demands.specs.Facts.{Flags, Counts}
use Rattle.demands.specs.Demands.{Numbered, Counted, Examines}

-- ---- numbers and positions of a list of checks

listed_more : (xs ys : List ℕ) (x : ℕ) → listed xs x ≡ true → listed (xs ++ ys) x ≡ true
listed_more [] ys x h = search never
listed_more (y ∷ xs) ys x h = go (eqb y x) h (listed_more xs ys x)
  where
    go : (b : Bool) → (b || listed xs x) ≡ true → (listed xs x ≡ true → listed (xs ++ ys) x ≡ true) → (b || listed (xs ++ ys) x) ≡ true
    go true q again = refl
    go false q again = again q

-- a refusal of a check has a number of a list, and a position within bounds
record Within {A : Type 0} (numbers : List ℕ) (c : Outcome A) : Type 0 where
  within : (r : Refusal) → c ≡ bad r → Numbered numbers r

within_more : {A : Type 0} {c : Outcome A} (numbers more : List ℕ) → Within numbers c → Within (numbers ++ more) c
within_more numbers more h = record {
  within = λ r q. record {
    number_listed = listed_more numbers more r.number (h.within r q).number_listed;
    position_most = (h.within r q).position_most;
  };
}

-- of each check of a list, where those before it pass
data Each (numbers : List ℕ) : List Check → Type 0 where
  none : Each numbers []
  next : {c : Check} {cs : List Check} → Within numbers c → (c ≡ good tt → Each numbers cs) → Each numbers (c ∷ cs)

first_within : (r : Refusal) (numbers : List ℕ) (cs : List Check) → Each numbers cs → First cs r → Numbered numbers r
first_within r numbers [] none w = absurd w
first_within r numbers (c ∷ cs) (next here later) (inl q) = here.within r q
first_within r numbers (c ∷ cs) (next here later) (inr w) = first_within r numbers cs (later w.0) w.1

each_more : (numbers more : List ℕ) (cs ds : List Check) → Each numbers cs → (All cs → Each (numbers ++ more) ds)
    → Each (numbers ++ more) (cs ++ ds)
each_more numbers more [] ds none w = w tt
each_more numbers more (c ∷ cs) ds (next here later) w =
    next (within_more numbers more here) (λ a. each_more numbers more cs ds (later a) (λ all. w (a, all)))

within_passed : {A : Type 0} {numbers : List ℕ} {o : Outcome A} → Within numbers o → Within numbers (passed o)
within_passed {A} {numbers} {o} h = record { within = λ r e. go o (h.within r) e }
  where
    go : {r : Refusal} (o : Outcome A) → (o ≡ bad r → Numbered numbers r) → passed o ≡ bad r → Numbered numbers r
    go (good a) k e = good_bad e
    go {r} (bad q) k e = let z : q ≡ r = cc in k (rw z)

-- what holds of what a check that passes finds
passed-found : {A : Type 0} (P : A → Type 0) (other : A) (o : Outcome A) → passed o ≡ good tt → ((a : A) → o ≡ good a → P a) → P (found other o)
passed-found P other (good a) e h = h a refl
passed-found P other (bad r) e h = bad_good e

-- a position of each kind is within bounds
abbrev Bounded : (ℕ → Type 0) → Type 0
Bounded P = (i : ℕ) → P i → i ≤ position_limit

-- a number of a list of one, two or three
pub listed_one : (code x : ℕ) → listed (code ∷ []) x ≡ true → x ≡ code
listed_one code x h = go (eqb code x) refl h
  where
    go : (b : Bool) → eqb code x ≡ b → (b || false) ≡ true → x ≡ code
    go true q h = sym (eqb-true code x q)
    go false q h = search never

pub listed_two : (one two x : ℕ) → listed (one ∷ two ∷ []) x ≡ true → (x ≡ one) ⊎ (x ≡ two)
listed_two one two x h = go (eqb one x) refl h
  where
    go : (b : Bool) → eqb one x ≡ b → (b || listed (two ∷ []) x) ≡ true → (x ≡ one) ⊎ (x ≡ two)
    go true q h = inl (sym (eqb-true one x q))
    go false q h = inr (listed_one two x h)

listed_three : (one two three x : ℕ) → listed (one ∷ two ∷ three ∷ []) x ≡ true → (x ≡ one) ⊎ ((x ≡ two) ⊎ (x ≡ three))
listed_three one two three x h = go (eqb one x) refl h
  where
    go : (b : Bool) → eqb one x ≡ b → (b || listed (two ∷ three ∷ []) x) ≡ true → (x ≡ one) ⊎ ((x ≡ two) ⊎ (x ≡ three))
    go true q h = inl (sym (eqb-true one x q))
    go false q h = inr (listed_two two three x h)

module _ (numbers : List ℕ) where
  at_row : {A : Type 0} {gives : List ℕ} {P : ℕ → Type 0} {c : Outcome A} (code : ℕ) → listed numbers code ≡ true → Bounded P
      → Row c gives code P → (r : Refusal) → c ≡ bad r → r.number ≡ code → Numbered numbers r
  at_row code l most t r e q = record {
    number_listed = rw q l;
    position_most = most r.position (t.says r.position (e ∙ ap (λ (n : ℕ). bad (refusal n r.position)) q));
  }

  row : {A : Type 0} {P : ℕ → Type 0} {c : Outcome A} (code : ℕ) → listed numbers code ≡ true → Bounded P
      → Row c (code ∷ []) code P → Within numbers c
  row code l most t = record { within = λ r e. at_row code l most t r e (listed_one code r.number (t.only r e)) }

  rows : {A : Type 0} {P Q : ℕ → Type 0} {c : Outcome A} (one two : ℕ) → listed numbers one ≡ true → listed numbers two ≡ true
      → Bounded P → Bounded Q → Row c (one ∷ two ∷ []) one P → Row c (one ∷ two ∷ []) two Q → Within numbers c
  rows one two l k most more t u = record {
    within = λ r e. ⊎_elim
        (λ (q : r.number ≡ one). at_row one l most t r e q)
        (λ (q : r.number ≡ two). at_row two k more u r e q)
        (listed_two one two r.number (t.only r e));
  }

-- ---- the counts that bound the positions

header_count_holds : (size kind machine version width count table : ℕ) → good_header size kind machine version width count table ≡ true → count ≤ header_limit
unfolding good_header
header_count_holds size kind machine version width count table h =
    let a = and_right (eqb kind 3) _ h in
    let b = and_right (eqb machine 183) _ a in
    let c = and_right (eqb version 1) _ b in
    let d = and_right (eqb width 56) _ c in
    let e = and_left (leb 1 count && leb count header_limit) _ d in
    leb-true count header_limit (and_right (leb 1 count) _ e)

dynamic_at_entries : (f : List ℕ) (i size : ℕ) (p : Option ℕ) (d : Dynamic) → dynamic_at f i size p ≡ good d → d.entries ≤ dynamic_limit / 16
unfolding dynamic_at good_size
dynamic_at_entries f i size None d e = bad_good e
dynamic_at_entries f i size (Some at) d e =
    let c = cond_held _ (good_size size && ltb (null_entry f at (size / 16)) (size / 16)) _ e in
    let s = and_right (leb 16 size) _ (and_right (eqb (size % 16) 0) _ (and_left (good_size size) _ c.0)) in
    let b = leb-true size dynamic_limit s in
    let l = ltb-true (null_entry f at (size / 16)) (size / 16) (and_right (good_size size) _ c.0) in
    good_same (λ (d : Dynamic). d.entries ≤ dynamic_limit / 16) _ d c.1 (omega arith)

dynamic_entries : (f : List ℕ) (h : Headers) (d : Dynamic) → dynamic_of f h ≡ good d → d.entries ≤ dynamic_limit / 16
unfolding dynamic_of
dynamic_entries f h d e =
    let a = and_then_good (require (ltb (first_dynamic f h) h.count) 5 h.count) _ e in
    let b = and_then_good (require (not (ltb (second_dynamic f h) h.count)) 5 (second_dynamic f h)) _ a.rest in
    dynamic_at_entries f (first_dynamic f h) _ _ d b.rest

pub relocations_count : (f : List ℕ) (h : Headers) (d : Dynamic) (r : Relocations) → relocations_of f h d ≡ good r → r.entries ≤ entry_limit
unfolding relocations_of
relocations_count f h d r e =
    let a = and_then_good (backed 7 0 (table_backing f h (rela_address f d) (rela_bytes f d))) _ e in
    let b = and_then_good (require (leb (rela_bytes f d / 24) entry_limit) 7 0) _ a.rest in
    let l = leb-true (rela_bytes f d / 24) entry_limit (require_held _ 7 0 b.here) in
    good_same (λ (r : Relocations). r.entries ≤ entry_limit) _ r b.rest l

zero_position : {P : Type 0} → Bounded (λ i. (i ≡ 0) × P)
zero_position i w = let z = w.0 in omega arith

one_position : {P : Type 0} → Bounded (λ i. (i ≡ 1) × P)
one_position i w = let z = w.0 in omega arith

lowest_position : (fault : ℕ → Bool) (a b : ℕ) → b ≤ position_limit → Bounded (Lowest fault a b)
lowest_position fault a b l i w = let u = w.below in omega arith

dynamic_position : (f : List ℕ) (h : Headers) → h.count ≤ header_limit → Bounded (DynamicFault f h)
dynamic_position f h l i (no_dynamic c q) = omega arith
dynamic_position f h l i (second-dynamic j a b) = let u = b.below in omega arith
dynamic_position f h l i (bad_dynamic a b e) = let u = a.below in omega arith

dynamic-entry_position : (f : List ℕ) (d : Dynamic) → d.entries ≤ dynamic_limit / 16 → Bounded (EntryFault f d)
dynamic-entry_position f d l i (bad_entry_holds a) = let u = a.below in omega arith
dynamic-entry_position f d l i (no_partner k a b c q) = omega arith

global_position : (f : List ℕ) (h : Headers) (s : List ℕ) → Bounded (GlobalFault f h s)
global_position f h s i (ends_high u) = let l = u.counted in omega arith
global_position f h s i (outside_loads c d g l w e o) = omega arith
global_position f h s i (left_over c q w o) = omega arith

unread_position : (f : List ℕ) (h : Headers) (s : List ℕ) (code : ℕ) → Bounded (Unread f h s code)
unread_position f h s code i u = let l = u.counted in omega arith

-- the item at a position: an entry's index, or the number of entries and the index of a word
abbrev Reported : List ℕ → Module → Type 0
Reported f m = (k : ℕ) → k < items m → position_at f m k ≤ position_limit

first_position : (f : List ℕ) (m : Module) (fault : ℕ → Bool) → Reported f m → Bounded (FirstAt f m fault)
first_position f m fault l i w = let u = l w.item w.first.below in let q = w.reported in omega arith

item_position : (f : List ℕ) (m : Module) (kind : Bool) → Reported f m → Bounded (ItemAt f m kind)
item_position f m kind l i w = first_position f m (bad_relocation f m) l i w.at

packed_fault : (f : List ℕ) (h : Headers) (d : Dynamic) (r : Relocations) → Bounded (PackedFault f h d r.entries)
packed_fault f h d r i (not_backed b z) = omega arith
packed_fault f h d r i (bitmap_first at b l e z) = omega arith
packed_fault f h d r i (too_many at b l e u v) =
    let s = table_short f h (packed_address f d) (packed_bytes f d) at b in omega arith

choice_position : (gs : List Global) (choices : List ℕ) → length gs ≤ global_limit → Bounded (ChoiceFault gs choices)
choice_position gs choices l i (wrong_number e q) = omega arith
choice_position gs choices l i (bad_choice_holds e a) = let u = a.below in omega arith

-- the packed places of a module
pub module_good : (f : List ℕ) (m : Module) → module_of f ≡ good m → Good f m.relocations.entries m.packed
module_good f m e = packed_good f m.headers m.dynamic m.relocations m.packed (module_reads f m e).packed

entries_count : (f : List ℕ) (m : Module) → module_of f ≡ good m → m.relocations.entries ≤ entry_limit
entries_count f m e = relocations_count f m.headers m.dynamic m.relocations (module_reads f m e).relocations

pub module_packs : (f : List ℕ) (m : Module) → module_of f ≡ good m → Packs f m
module_packs f m e = packs f m (module_good f m e) (entries_count f m e)

-- the counts of a module
pub module_counted : (f : List ℕ) (m : Module) → module_of f ≡ good m
    → (items m ≤ entry_limit) × (length (globals_in f m) ≤ global_limit)
module_counted f m e =
    let r = module_reads f m e in
    ((module_packs f m e).few, globals_count f m.headers m.descriptors (globals_in f m) r.loads r.globals)

module_reported : (f : List ℕ) (m : Module) → module_of f ≡ good m → Reported f m
module_reported f m e k l =
    let n = entries_count f m e in
    ⊎_elim
    (λ (after : m.relocations.entries ≤ k).
    let b = (module_packs f m e).named_by k (record { after = after; listed = l }) in
    let q = b.1.position in
    let i = b.1.inside in
    let s = (module_good f m e).short in
    omega arith)
    (λ (before : k < m.relocations.entries). let q = entry_position f m k before in omega arith)
    (le_or_lt m.relocations.entries k)

-- ---- the three calls

module _ (f : List ℕ) where
  abbrev H : Headers
  H = the_headers f

  abbrev D : Dynamic
  D = the_dynamic f

  count_most : header_check f ≡ good tt → H.count ≤ header_limit
  unfolding header_check
  count_most e = header_count_holds (length f) (le 2 f 16) (le 2 f 18) (le 4 f 20) (le 2 f 54) (le 2 f 56) (le 8 f 32) (require_held _ 3 0 e)

  dynamic_most : passed (dynamic_of f H) ≡ good tt → D.entries ≤ dynamic_limit / 16
  dynamic_most e = passed-found (λ (d : Dynamic). d.entries ≤ dynamic_limit / 16) _ (dynamic_of f H) e (dynamic_entries f H)

  abbrev R : Relocations
  R = the_relocations f

  pub entries_most : passed (relocations_of f H D) ≡ good tt → R.entries ≤ entry_limit
  entries_most e = passed-found (λ (r : Relocations). r.entries ≤ entry_limit) _ (relocations_of f H D) e (relocations_count f H D)

  reader_each : Each reader_numbers (reader_checks f)
  reader_each =
      next (row reader_numbers 1 refl zero_position (table f).row_1) (λ _.
      next (row reader_numbers 2 refl (lowest_position (wrong_byte f) 0 7 (omega arith)) (table f).row_2) (λ _.
      next (row reader_numbers 3 refl zero_position (table f).row_3) (λ headed.
      let c = count_most headed in
      next (row reader_numbers 4 refl (lowest_position (bad_load f H) 0 H.count (omega arith)) ((table f).row_4 H)) (λ _.
      next (within_passed (row reader_numbers 5 refl (dynamic_position f H c) ((table f).row_5 H))) (λ d.
      next (row reader_numbers 6 refl (dynamic-entry_position f D (dynamic_most d)) ((table f).row_6 D)) (λ _.
      next (within_passed (row reader_numbers 7 refl zero_position ((table f).row_7 H D))) (λ r.
      next (within_passed (row reader_numbers 7 refl one_position ((table f).row_7_descriptors H D))) (λ _.
      next (within_passed (row reader_numbers 15 refl (packed_fault f H D R) ((table f).row_15 H D R (entries_most r)))) (λ _.
      next (within_passed (walked_within (the_descriptors f))) (λ _. none))))))))))
    where
      walked_within : (t : Descriptors) → Within reader_numbers (globals_of f H t)
      walked_within t =
          let s = descriptor_table f t in
          let row_8 = at_row reader_numbers 8 refl (unread_position f H s 8) ((table f).row_8 H t) in
          let row_16 = at_row reader_numbers 16 refl (unread_position f H s 16) ((table f).row_16 H t) in
          let row_9 = at_row reader_numbers 9 refl (global_position f H s) ((table f).row_9 H t) in
          record {
            within = λ r e. ⊎_elim
                (λ (q : r.number ≡ 8). row_8 r e q)
                (λ (q : (r.number ≡ 16) ⊎ (r.number ≡ 9)). ⊎_elim
                (λ (x : r.number ≡ 16). row_16 r e x)
                (λ (x : r.number ≡ 9). row_9 r e x) q)
                (listed_three 8 16 9 r.number (((table f).row_8 H t).only r e));
          }

  abbrev M : Module
  M = the_module f

  -- what the reader has found
  found_module : All (reader_checks f) → module_of f ≡ good M
  found_module a = (exactly_read f).taken_if a

  walk_within : (numbers : List ℕ) → listed numbers 10 ≡ true → listed numbers 11 ≡ true → Reported f M
      → Within numbers (relocations_check f M)
  walk_within numbers ten eleven l =
      rows numbers 10 11 ten eleven (item_position f M true l) (item_position f M false l) ((table f).row_10 M) ((table f).row_11 M)

  examine_each : Each examine_numbers (examine_checks f)
  examine_each =
      each_more reader_numbers (10 ∷ 11 ∷ []) (reader_checks f) _ reader_each (λ a.
      next (walk_within examine_numbers refl refl (module_reported f M (found_module a))) (λ _. none))

  load_each : (bias n p : ℕ) (choices : List ℕ) → Each load_numbers (load_checks f bias n p choices)
  load_each bias n p choices =
      each_more reader_numbers (10 ∷ 11 ∷ 12 ∷ 13 ∷ 14 ∷ []) (reader_checks f) _ reader_each (λ a.
      let k = module_reported f M (found_module a) in
      let l = (module_counted f M (found_module a)).1 in
      let thirteen = first_position f M (bad_address f M bias) k in
      next (walk_within load_numbers refl refl k) (λ _.
      next (row load_numbers 12 refl zero_position ((table f).row_12 M bias n p)) (λ _.
      next (row load_numbers 13 refl thirteen ((table f).row_13 M bias)) (λ _.
      next (row load_numbers 14 refl (choice_position (globals_in f M) choices l) ((table f).row_14 (globals_in f M) choices)) (λ _. none)))))

  pub module_refusal : (r : Refusal) → module_of f ≡ bad r → Numbered reader_numbers r
  module_refusal r e = first_within r reader_numbers (reader_checks f) reader_each ((exactly_read f).refused_only_if r e)

  pub examined_refusal : (r : Refusal) → examined_of f ≡ bad r → Numbered examine_numbers r
  examined_refusal r e = first_within r examine_numbers (examine_checks f) examine_each ((exactly_examined f).refused_only_if r e)

  pub load_refusal : (bias n p : ℕ) (choices : List ℕ) (r : Refusal) → load_of f bias n p choices ≡ bad r → Numbered load_numbers r
  load_refusal bias n p choices r e =
      first_within r load_numbers (load_checks f bias n p choices) (load_each bias n p choices)
      ((exactly_loaded f bias n p choices).refused_only_if r e)

facts_counted : (f : List ℕ) (m : Module) → module_of f ≡ good m → Counted (facts_of f m)
unfolding facts_of words_of
facts_counted f m e =
    let c = module_counted f m e in
    let g = (module_reads f m e).count in
    let w = count_le (live f m) (items m) in
    record { globals_most = omega arith; words_most = omega arith }

-- what holds of the facts of a module that is read holds of the facts that examine answers
of_examined : (f : List ℕ) (P : Facts → Type 0) → (module_of f ≡ good (the_module f) → P (facts_of f (the_module f)))
    → (a : Facts) → examined_of f ≡ good a → P a
of_examined f P h a e =
    let x = (exactly_examined f).taken_only_if a e in
    let m = (exactly_read f).taken_if (all_append (reader_checks f) (module_checks f (the_module f)) x.0).0 in
    subst P (sym x.1) (h m)

counts : (f : List ℕ) (m : Module) → module_of f ≡ good m → Counts f m (facts_of f m)
unfolding facts_of
counts f m e = record { globals_listed_holds = (module_reads f m e).count; words_relocated = (module_packs f m e).counted }

pub examined_facts : (f : List ℕ) (a : Facts) → examined_of f ≡ good a → Counted a
examined_facts f = of_examined f Counted (facts_counted f (the_module f))

pub examines : (f : List ℕ) → Examines f
examines f = record {
  module_refusal = module_refusal f;
  examined_refusal = examined_refusal f;
  examined_facts = examined_facts f;
  examined_flags = of_examined f (Flags f (the_dynamic f)) (λ e.
      flags f (the_dynamic f) (module_reads f (the_module f) e).entries (the_module f) refl);
  examined_counts = of_examined f (Counts f (the_module f)) (λ e. counts f (the_module f) e);
}

pub load_facts : (f : List ℕ) (bias n p : ℕ) (choices : List ℕ) (l : Loaded) → load_of f bias n p choices ≡ good l → Counted l.facts
load_facts f bias n p choices l e =
    let t = taken_passes f bias n p choices l e in
    subst (λ (l : Loaded). Counted l.facts) (sym t.leaves) (facts_counted f t.from t.passes.reads)
