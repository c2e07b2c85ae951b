-- Each refusal of the load beside the plain loader's answer.
-- Assumes nothing.
use Prim.Native.Nat.{ℕ, ◌≤◌}
use mathlib.Core.Path.{◌≡◌, refl, sym, ap, ◌∙◌, subst}
use mathlib.Core.Bool.{Bool, true, false, ◌&&◌, ◌||◌}
use mathlib.Core.List.{List, [], ◌∷◌}
use mathlib.Core.Logic.{◌⊎◌, inl, inr, ⊎_elim}
use native.Mathlib.Omega.{arith}
use lib.Dec.{eqb}
use borrow.Author.Tests.{eqb-true, eqb-false}
use Rattle.rules.specs.Outcome.{Outcome, good, bad, refusal, passed, Refusal}
use Rattle.rules.specs.Checks.{Check, All, First}
use Rattle.rules.specs.Limits.{entry_limit}
use Rattle.rules.specs.First.{faults_at}
use Rattle.rules.specs.Headers.{the_headers, headers_of}
use Rattle.rules.specs.Segments.{loads_check}
use Rattle.rules.specs.Dynamic.{base_tags, known_tags, entries_check}
use Rattle.rules.specs.Tables.{relocations_of}
use Rattle.rules.specs.Packed.{packed_of}
use Rattle.rules.specs.Reader.{the_dynamic, the_relocations, the_descriptors, the_module}
use Rattle.rules.specs.Relocations.{items, position_at, relocations_check}
use Rattle.rules.specs.Lending.{memory_fits, plane_fits, lending_fits, lending_check}
use Rattle.rules.specs.Addresses.{addresses_check}
use Rattle.rules.specs.Choices.{globals_in}
use Rattle.rules.specs.Image.{image_of}
use Rattle.rules.specs.Load.{Loaded, load_checks, load_of}
use Rattle.rules.specs.declared.Headers.{Headers}
use Rattle.rules.specs.declared.Dynamic.{Dynamic}
use Rattle.rules.specs.declared.Relocations.{Relocations}
use Rattle.rules.specs.declared.Module.{Module}
use Rattle.rules.proofs.OutcomeLaws.{good_bad, require_true}
use Rattle.laws.proofs.Checks.{either, require_stopped}
use Rattle.laws.proofs.KnownTags.{entries_base}
use Rattle.demands.proofs.Exactly.{exactly, exactly_loaded, taken_passes}
use Rattle.demands.proofs.Table.{table, entries_says, entries_when}
use Rattle.demands.proofs.Lending.{lends, lending_fits_lem, memory-lent}
use Rattle.demands.proofs.Image.{image_holds}
use Rattle.demands.proofs.Plain.{bare_faults, bare_relocations, bare_addresses, segments_same}
use Rattle.demands.proofs.Refusals.{listed_one, listed_two, entries_most}
use Rattle.demands.proofs.Tags.{tags}
use Rattle.demands.proofs.Order.{passed_bad, numbered, placed, faults_number}
use Rattle.demands.specs.Plain.{bad_bare, plain_image, plain_lending, plain_checks, plain_module, plain_memory, plain_of}
use Rattle.demands.specs.Table.{listed, Row, EntryFaultBy}
use Rattle.demands.specs.Demands.{Exactly}
use Rattle.demands.specs.PlainRefuses.{shared_numbers, lending_on, places_on, packed_on, entries_on, Shared, alike, base_entry, relocation_table, unfit}
use Rattle.demands.specs.PlainRefuses.{GoesOn, Beside, the_same, memtag_entry, descriptor_table_holds, descriptor, plane_alone, choices_alone, PlainRefuses}

pub exactly_plain : (f : List ℕ) (bias n : ℕ)
    → Exactly (plain_of f bias n) (plain_checks f (plain_module f) bias n) (plain_memory f (plain_module f) bias n)
unfolding plain_of
exactly_plain f bias n = exactly (plain_checks f (plain_module f) bias n) (plain_memory f (plain_module f) bias n)

-- ---- what follows from each check of a list, where those before it pass

data Told (G : Refusal → Type 0) : List Check → Type 0 where
  none : Told G []
  next : {c : Check} {cs : List Check} → ((r : Refusal) → c ≡ bad r → G r) → (c ≡ good tt → Told G cs) → Told G (c ∷ cs)

told : (G : Refusal → Type 0) (r : Refusal) (cs : List Check) → Told G cs → First cs r → G r
told G r [] none w = absurd w
told G r (c ∷ cs) (next here later) (inl q) = here r q
told G r (c ∷ cs) (next here later) (inr w) = told G r cs (later w.0) w.1

told_map : {G K : Refusal → Type 0} {cs : List Check} → ((r : Refusal) → G r → K r) → Told G cs → Told K cs
told_map k none = none
told_map k (next here later) = next (λ r e. k r (here r e)) (λ a. told_map k (later a))

-- what is left of a list of checks after some that pass
record Left (all rest : List Check) : Type 0 where
  into : (r : Refusal) → First rest r → First all r
  out : (r : Refusal) → First all r → First rest r
  every : All rest → All all

whole : {all : List Check} → Left all all
whole = record { into = λ r w. w; out = λ r w. w; every = λ a. a }

past : {all rest : List Check} {c : Check} → c ≡ good tt → Left all (c ∷ rest) → Left all rest
past {all} {rest} {c} a l = record {
  into = λ r w. l.into r (inr (a, w));
  out = λ r w. ⊎_elim (λ (q : c ≡ bad r). good_bad (sym a ∙ q)) (λ (x : (c ≡ good tt) × First rest r). x.1) (l.out r w);
  every = λ x. l.every (a, x);
}

-- ---- the number of a check's refusal

abbrev In : List ℕ → Refusal → Type 0
In numbers r = listed numbers r.number ≡ true

in_more : (x : ℕ) (xs : List ℕ) (r : Refusal) → In xs r → In (x ∷ xs) r
in_more x xs r h = go (eqb x r.number)
  where
    go : (b : Bool) → (b || listed xs r.number) ≡ true
    go true = refl
    go false = h

module _ (numbers : List ℕ) where
  by_one : {A : Type 0} {P : ℕ → Type 0} {c : Outcome A} (code : ℕ) → listed numbers code ≡ true → Row c (code ∷ []) code P
      → (r : Refusal) → c ≡ bad r → In numbers r
  by_one code l t r e = rw (listed_one code r.number (t.only r e)) l

  by_two : {A : Type 0} {P : ℕ → Type 0} {c : Outcome A} (one two : ℕ) → listed numbers one ≡ true → listed numbers two ≡ true
      → Row c (one ∷ two ∷ []) one P → (r : Refusal) → c ≡ bad r → In numbers r
  by_two one two l k t r e =
      ⊎_elim (λ (q : r.number ≡ one). rw q l) (λ (q : r.number ≡ two). rw q k) (listed_two one two r.number (t.only r e))

module _ (f : List ℕ) (bias n : ℕ) where
  abbrev M : Module
  M = the_module f

  abbrev P : Module
  P = plain_module f

  abbrev bare_check : Check
  bare_check = faults_at 13 (position_at f P) (bad_bare f P bias (plain_image f P n)) (items P)

  plain_first : (r : Refusal) → First (plain_checks f P bias n) r → plain_of f bias n ≡ bad r
  plain_first r w = (exactly_plain f bias n).refused_if r w

  plain_refused : (r : Refusal) → plain_of f bias n ≡ bad r → First (plain_checks f P bias n) r
  plain_refused r e = (exactly_plain f bias n).refused_only_if r e

  -- ---- the plain loader's numbers, from a check on

  abbrev H : Headers
  H = the_headers f

  abbrev D : Dynamic
  D = the_dynamic f

  abbrev R : Relocations
  R = the_relocations f

  abbrev bare_list : List Check
  bare_list = bare_check ∷ []

  abbrev lending_list : List Check
  lending_list = plain_lending f P bias n ∷ bare_list

  abbrev places_list : List Check
  places_list = relocations_check f P ∷ lending_list

  abbrev packed_list : List Check
  packed_list = passed (packed_of f H D R) ∷ places_list

  abbrev entries_list : List Check
  entries_list = entries_check base_tags f D ∷ passed (relocations_of f H D) ∷ packed_list

  bare_numbers : Told (In (13 ∷ [])) bare_list
  bare_numbers = next (λ r e. rw (faults_number 13 (items P) (position_at f P) (bad_bare f P bias (plain_image f P n)) r e)) (λ _. none)

  lending_numbers : Told (In lending_on) lending_list
  lending_numbers =
      next (λ r e. let q = (require_stopped (memory_fits f H n bias) 12 0 e).1 in rw q) (λ _. told_map (in_more 12 (13 ∷ [])) bare_numbers)

  places_numbers : Told (In places_on) places_list
  places_numbers =
      next (by_two places_on 10 11 refl refl ((table f).row_10 P))
      (λ _. told_map (λ r h. in_more 10 (11 ∷ lending_on) r (in_more 11 lending_on r h)) lending_numbers)

  packed_numbers : R.entries ≤ entry_limit → Told (In packed_on) packed_list
  packed_numbers few =
      next (λ r e. by_one packed_on 15 refl ((table f).row_15 H D R few) r (passed_bad _ e))
      (λ _. told_map (in_more 15 places_on) places_numbers)

  entries_numbers : Told (In entries_on) entries_list
  entries_numbers =
      next (λ r e. let q = (entries_says f base_tags D r e).1.0 in rw q) (λ _.
      next (λ r e. by_one entries_on 7 refl ((table f).row_7 H D) r (passed_bad _ e)) (λ a.
      told_map (λ r h. in_more 6 (7 ∷ packed_on) r (in_more 7 packed_on r h)) (packed_numbers (entries_most f a))))

  -- ---- it refuses in shared ways only

  unfit_lending : loads_check f H ≡ good tt → {r : Refusal} → plain_lending f P bias n ≡ bad r → Shared f bias n r
  unfit_lending a {r} e =
      unfit (require_stopped (memory_fits f H n bias) 12 0 e).1 (λ t. good_bad (sym ((lends f P bias n 0 a).plain_if t) ∙ e))

  base_refused : (r : Refusal) → entries_check base_tags f D ≡ bad r → Shared f bias n r
  base_refused r e =
      let s = entries_says f base_tags D r e in
      let q = s.1.0 in
      base_entry (ap (λ (x : Refusal). x.number) q) (subst (EntryFaultBy base_tags f D) (sym (ap (λ (x : Refusal). x.position) q)) s.1.1)

  shared_each : Told (Shared f bias n) (plain_checks f P bias n)
  shared_each =
      next (λ r e. alike (by_one shared_numbers 1 refl (table f).row_1 r e)) (λ _.
      next (λ r e. alike (by_one shared_numbers 2 refl (table f).row_2 r e)) (λ _.
      next (λ r e. alike (by_one shared_numbers 3 refl (table f).row_3 r e)) (λ _.
      next (λ r e. alike (by_one shared_numbers 4 refl ((table f).row_4 H) r e)) (λ loads.
      next (λ r e. alike (by_one shared_numbers 5 refl ((table f).row_5 H) r (passed_bad _ e))) (λ _.
      next base_refused (λ _.
      next (λ r e. relocation_table (placed 7 0 ((table f).row_7 H D) r (passed_bad _ e))) (λ a.
      next (λ r e. alike (by_one shared_numbers 15 refl ((table f).row_15 H D R (entries_most f a)) r (passed_bad _ e))) (λ _.
      next (λ r e. alike (by_two shared_numbers 10 11 refl refl ((table f).row_10 P) r e)) (λ _.
      next (λ r e. unfit_lending loads e) (λ _.
      next (λ r e. alike (rw (faults_number 13 (items P) (position_at f P) (bad_bare f P bias (plain_image f P n)) r e))) (λ _. none)))))))))))

  pub shared_only : (r : Refusal) → plain_of f bias n ≡ bad r → Shared f bias n r
  shared_only r e = told (Shared f bias n) r (plain_checks f P bias n) shared_each (plain_refused r e)

  -- ---- each check of the load beside it

  abbrev Side : Refusal → Type 0
  Side r = Beside f bias n (plain_of f bias n) r

  same : {c : Check} {cs : List Check} (r : Refusal) → Shared f bias n r → Left (plain_checks f P bias n) (c ∷ cs) → c ≡ bad r → Side r
  same r s l e = the_same s (plain_first r (l.into r (inl e)))

  goes_on : {cs : List Check} (numbers : List ℕ) → Told (In numbers) cs → Left (plain_checks f P bias n) cs → GoesOn f bias n (plain_of f bias n) numbers
  goes_on {cs} numbers t l r e = told (In numbers) r cs t (l.out r (plain_refused r e))

  -- check 6 by the rows of ELF64, or not
  entries_beside : Left (plain_checks f P bias n) entries_list → (r : Refusal) → entries_check known_tags f D ≡ bad r → Side r
  entries_beside l r e = go (entries_check base_tags f D) refl
    where
      number : r.number ≡ 6
      number = numbered 6 ((table f).row_6 D) r e

      clear : (entries_check base_tags f D ≡ bad (refusal 6 r.position) → ⊥) → Side r
      clear out = memtag_entry number (λ w. out (entries_when f base_tags D r.position w)) (goes_on entries_on entries_numbers l)

      go : (o : Check) → entries_check base_tags f D ≡ o → Side r
      go (good u) q = clear (λ x. good_bad (sym q ∙ x))
      go (bad s) q =
          let b = entries_says f base_tags D s q in
          choose b.0 (q ∙ ap (λ (x : Refusal). bad x) b.1.0) b.1.1 (eqb b.0 r.position) refl
        where
          choose : (i : ℕ) → entries_check base_tags f D ≡ bad (refusal 6 i) → EntryFaultBy base_tags f D i → (b : Bool) → eqb i r.position ≡ b
              → Side r
          choose i x w true y =
              let z = eqb-true i r.position y in
              let k : refusal 6 i ≡ r = rw z (ap (λ (c : ℕ). refusal c r.position) (sym number)) in
              same r (base_entry number (subst (EntryFaultBy base_tags f D) z w)) l (x ∙ ap (λ (q : Refusal). bad q) k)
          choose i x w false y = clear (λ v. eqb-false i r.position y (same_place (sym x ∙ v)))
            where
              same_place : ◌≡◌ {A = Check} (bad (refusal 6 i)) (bad (refusal 6 r.position)) → i ≡ r.position
              same_place q = let z : refusal 6 i ≡ refusal 6 r.position = cc in ap (λ (x : Refusal). x.position) z

  -- check 12 by memory length or bias, or by the plane alone
  lending_beside : (p : ℕ) → loads_check f H ≡ good tt → Left (plain_checks f P bias n) lending_list → (r : Refusal)
      → lending_check f M bias n p ≡ bad r → Side r
  unfolding lending_check lending_fits
  lending_beside p loads l r e = go (memory_fits f H n bias) refl
    where
      at_zero : r ≡ refusal 12 0
      at_zero = (require_stopped (memory_fits f H n bias && plane_fits n p) 12 0 e).1

      go : (b : Bool) → memory_fits f H n bias ≡ b → Side r
      go true q =
          let a : plain_lending f P bias n ≡ good tt = require_true _ 12 0 q in
          plane_alone at_zero ((lends f P bias n p loads).plain_only_if a) (goes_on (13 ∷ []) bare_numbers (past a l))
      go false q =
          let a : plain_lending f P bias n ≡ bad r = rw (q, at_zero) in
          same r (unfit_lending loads a) l a

  -- check 13 is the same of the same items
  bare_addressed : headers_of f ≡ good H → loads_check f H ≡ good tt → relocations_check f M ≡ good tt → memory_fits f H n bias ≡ true
      → bare_check ≡ addresses_check f M bias
  bare_addressed headed loads relocated fits =
      let holds = (memory-lent f H n bias fits).holds in
      bare_addresses f M bias (plain_image f M n)
      ∙ rw (segments_same f H n loads holds H.count (omega arith))
      (bare_faults f M headed loads bias (image_of f H n) (image_holds f M n headed loads holds).loaded_words relocated)

  load_each : (p : ℕ) (choices : List ℕ) → Told Side (load_checks f bias n p choices)
  unfolding headers_of
  load_each p choices =
      next (λ r e. same r (alike (by_one shared_numbers 1 refl (table f).row_1 r e)) whole e) (λ a₁. let l₁ = past a₁ whole in
      next (λ r e. same r (alike (by_one shared_numbers 2 refl (table f).row_2 r e)) l₁ e) (λ a₂. let l₂ = past a₂ l₁ in
      next (λ r e. same r (alike (by_one shared_numbers 3 refl (table f).row_3 r e)) l₂ e) (λ a₃. let l₃ = past a₃ l₂ in
      next (λ r e. same r (alike (by_one shared_numbers 4 refl ((table f).row_4 H) r e)) l₃ e) (λ a₄. let l₄ = past a₄ l₃ in
      next (λ r e. same r (alike (by_one shared_numbers 5 refl ((table f).row_5 H) r (passed_bad _ e))) l₄ e) (λ a₅. let l₅ = past a₅ l₄ in
      next (entries_beside l₅) (λ a₆. let l₆ = past (entries_base f D a₆) l₅ in
      next (λ r e. same r (relocation_table (placed 7 0 ((table f).row_7 H D) r (passed_bad _ e))) l₆ e) (λ a₇.
      let l₇ = past a₇ l₆ in
      let few = entries_most f a₇ in
      next (λ r e. descriptor_table_holds (placed 7 1 ((table f).row_7_descriptors H D) r (passed_bad _ e)) (goes_on packed_on (packed_numbers few) l₇)) (λ _.
      next (λ r e. same r (alike (by_one shared_numbers 15 refl ((table f).row_15 H D R few) r (passed_bad _ e))) l₇ e) (λ a₈.
      let l₈ = past a₈ l₇ in
      next (λ r e. descriptor (((table f).row_8 H (the_descriptors f)).only r (passed_bad _ e)) (goes_on places_on places_numbers l₈)) (λ _.
      next (λ r e. same r (alike (by_two shared_numbers 10 11 refl refl ((table f).row_10 M) r e)) l₈ (bare_relocations f M ∙ e)) (λ a₉.
      let l₉ = past (bare_relocations f M ∙ a₉) l₈ in
      next (lending_beside p a₄ l₉) (λ a₁₀.
      let fits = (lending_fits_lem f M bias n p a₁₀).0 in
      let headed : headers_of f ≡ good H = rw (a₁, a₂, a₃) in
      let l₁₀ = past (require_true _ 12 0 fits) l₉ in
      let bare = bare_addressed headed a₄ a₉ fits in
      next (λ r e. same r (alike (by_one shared_numbers 13 refl ((table f).row_13 M bias) r e)) l₁₀ (bare ∙ e)) (λ a₁₁.
      next (λ r e.
      choices_alone (numbered 14 ((table f).row_14 (globals_in f M) choices) r e)
      ((exactly_plain f bias n).taken_if ((past (bare ∙ a₁₁) l₁₀).every tt))) (λ _. none))))))))))))))

  pub plain_refuses : (p : ℕ) (choices : List ℕ) → PlainRefuses f bias n (plain_of f bias n) (load_of f bias n p choices)
  plain_refuses p choices = record {
    beside = λ r e. told Side r (load_checks f bias n p choices) (load_each p choices)
        ((exactly_loaded f bias n p choices).refused_only_if r e);
    shared_only = shared_only;
    refused_too = λ r e. go r e (either (load_of f bias n p choices));
  }
    where
      go : (r : Refusal) → plain_of f bias n ≡ bad r
          → ((l : Loaded) × (load_of f bias n p choices ≡ good l)) ⊎ ((s : Refusal) × (load_of f bias n p choices ≡ bad s))
          → (s : Refusal) × (load_of f bias n p choices ≡ bad s)
      go r e (inl (l, q)) =
          let t = taken_passes f bias n p choices l q in
          good_bad (sym (tags f bias n p t.from choices t.passes).against_plain.takes ∙ e)
      go r e (inr s) = s
