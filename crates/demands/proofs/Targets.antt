-- Where a module's tables stand, and its kinds, symbols and places: each test of the rules is document 01's sentence.
-- Assumes nothing.
use Rattle.std.specs.Prelude.{Option, Some, None}
use Prim.Native.Nat.{ℕ, ◌+◌, ◌*◌, ◌/◌, ◌%◌, ◌≤◌, ◌<◌, ◌∣◌}
use mathlib.Core.Path.{◌≡◌, refl, sym, ap, ◌∙◌, subst}
use mathlib.Core.Bool.{Bool, true, false, cond, not, ◌&&◌, ◌||◌}
use mathlib.Core.List.{List, ◌++◌}
use mathlib.Core.Logic.{◌⊎◌, inl, inr, ⊎_elim}
use native.Mathlib.Nat.{mod-eq-zero_of_dvd, dvd_of_mod-eq-zero, dvd-zero, eq-or-lt_of_le}
use native.Mathlib.Omega.{arith}
use lib.Dec.{leb, eqb}
use borrow.Author.Tests.{leb-false, lt-leb, eqb-true, eqb-false, eq-eqb, ne_eqb, not-true, not-false}
use Rattle.rules.specs.Outcome.{good, require}
use Rattle.rules.specs.Limits.{entry_limit}
use Rattle.rules.specs.Bytes.{le}
use Rattle.rules.specs.Headers.{the_headers}
use Rattle.rules.specs.Dynamic.{symtab, relasz, relrsz, tag_at, value_at, entry_of}
use Rattle.rules.specs.Tables.{or_zero, table_backing, rela_address, rela_bytes, packed_address, packed_bytes, descriptor_address, descriptor_bytes}
use Rattle.rules.specs.Tables.{relocations_of, descriptors_of}
use Rattle.rules.specs.Tables as tables
use Rattle.rules.specs.Packed.{words_check, packed_at, packed_of}
use Rattle.rules.specs.Relocations.{abs64, glob_dat, relative, kind_at, symbol_at, place_at, live, symbol_backing, target_of, named_target, target, target_at}
use Rattle.rules.specs.Relocations.{barred, has_place, taken, place_fits, good_place, bad_relocation}
use Rattle.rules.specs.Relocations as relocations
use Rattle.rules.specs.Reader.{the_dynamic, the_relocations, the_packed, the_descriptors, the_module, module_of}
use Rattle.rules.specs.declared.Headers.{Headers}
use Rattle.rules.specs.declared.Dynamic.{Dynamic}
use Rattle.rules.specs.declared.Target.{Target}
use Rattle.rules.specs.declared.Target.TheVariants.{Base, Defined, Undefined, Barred}
use Rattle.rules.specs.declared.Relocations.{Relocations}
use Rattle.rules.specs.declared.Packed.{Packed}
use Rattle.rules.specs.declared.Descriptors.{Descriptors}
use Rattle.rules.specs.declared.Module.{Module}
use Rattle.rules.proofs.BoolLaws.{and_false}
use Rattle.rules.proofs.OutcomeLaws.{true_false, and_left, and_right, and_then_good}
use Rattle.laws.proofs.Checks.{good_same, or_left, or_right, le_or_lt, some_all, all_some}
use Rattle.laws.proofs.Items.{entry-live, entry_place, entry_addend, entry_position, entry-target, packed-live, packed-target}
use Rattle.laws.proofs.PackedTable.{backed_good}
use Rattle.demands.proofs.Fields.{info_kind, info_symbol}
use Rattle.demands.proofs.Guards.{idle}
use Rattle.demands.proofs.Parts.{memory_held, held_memory, backing, table}
use Rattle.demands.proofs.Entries.{entry_case, entries}
use Rattle.demands.proofs.Dynamic.{dynamic}
use Rattle.demands.proofs.Reading.{Reads, module_reads}
use Rattle.demands.specs.Writer.{Bytes}
use Rattle.demands.specs.Fields.{symbol_type, symbol_binding, symbol_section}
use Rattle.demands.specs.Table.{listed}
use Rattle.demands.specs.Entries.{elf_tags, memtag_tags, Has, Given}
use Rattle.demands.specs.Targets.{TableBy, SymbolTable, no_symbols, symbols_at, ReadFrom, kind_in, symbol_in}
use Rattle.demands.specs.Targets.{SymbolAt, GoodSymbol, GoodKind, by_base, by-symbol}
use Rattle.demands.specs.Targets.{AllowedItem, Skipped, GoodPlace, GoodItem}
use Rattle.demands.specs.Sentences.{Means, Clears, TableTags, ItemSentences}

-- ---- where the tables stand

-- its value, 0 where it is absent
given : (f : List ℕ) (d : Dynamic) (tag : ℕ) → Given f d tag (or_zero (entry_of f d tag))
given f d tag = entry_case f d tag (λ (e : Option ℕ). Given f d tag (or_zero e)) (λ l. inr (l, refl)) (λ v h. inl h)

-- ---- symbols

module _ (f : List ℕ) (x : ℕ) where
  symbol-allowed : barred (target_of (relocations.symbol_of f x)) ≡ false
      → (symbol_type f x ≡ 6 → ⊥) × (symbol_type f x ≡ 10 → ⊥) × (symbol_section f x < 0xff00) × (symbol_section f x ≡ 0 → symbol_binding f x ≡ 2)
  unfolding target_of relocations.symbol_of
  symbol-allowed =
      go (eqb (symbol_type f x) 6) refl (eqb (symbol_type f x) 10) refl (leb 0xff00 (symbol_section f x)) refl
      (eqb (symbol_section f x) 0) refl (eqb (symbol_binding f x) 2) refl
    where
      go : (a : Bool) → eqb (symbol_type f x) 6 ≡ a → (b : Bool) → eqb (symbol_type f x) 10 ≡ b
          → (c : Bool) → leb 0xff00 (symbol_section f x) ≡ c → (d : Bool) → eqb (symbol_section f x) 0 ≡ d → (e : Bool) → eqb (symbol_binding f x) 2 ≡ e
          → barred (cond (a || b) Barred (cond c Barred (cond d (cond e Undefined Barred) (Defined (le 8 f (x + 8)))))) ≡ false
          → (symbol_type f x ≡ 6 → ⊥) × (symbol_type f x ≡ 10 → ⊥) × (symbol_section f x < 0xff00)
          × (symbol_section f x ≡ 0 → symbol_binding f x ≡ 2)
      go true p b q c s d t e u h = true_false h
      go false p true q c s d t e u h = true_false h
      go false p false q true s d t e u h = true_false h
      go false p false q false s true t true u h =
          (eqb-false _ 6 p, eqb-false _ 10 q, leb-false 0xff00 _ s, λ _. eqb-true (symbol_binding f x) 2 u)
      go false p false q false s true t false u h = true_false h
      go false p false q false s false t e u h =
          (eqb-false _ 6 p, eqb-false _ 10 q, leb-false 0xff00 _ s, λ z. absurd (eqb-false (symbol_section f x) 0 t z))

  allowed-symbol : (symbol_type f x ≡ 6 → ⊥) → (symbol_type f x ≡ 10 → ⊥) → symbol_section f x < 0xff00
      → (symbol_section f x ≡ 0 → symbol_binding f x ≡ 2) → barred (target_of (relocations.symbol_of f x)) ≡ false
  unfolding target_of relocations.symbol_of
  allowed-symbol p q s t =
      rw (ne_eqb (symbol_type f x) 6 p, ne_eqb (symbol_type f x) 10 q, lt-leb 0xff00 (symbol_section f x) s)
      (go (eqb (symbol_section f x) 0) refl)
    where
      go : (d : Bool) → eqb (symbol_section f x) 0 ≡ d
          → barred (cond d (cond (eqb (symbol_binding f x) 2) Undefined Barred) (Defined (le 8 f (x + 8)))) ≡ false
      go true e = rw (eq-eqb (symbol_binding f x) 2 (t (eqb-true (symbol_section f x) 0 e)))
      go false e = refl

-- ---- tables of a module

pub table_tags : (f : List ℕ) (d : Dynamic) → TableTags f d
table_tags f d = record {
  rela_address_holds = given f d 7;
  rela_bytes_holds = given f d 8;
  packed_address_holds = given f d 36;
  packed_bytes_holds = given f d 35;
  descriptor_address_holds = given f d 0x7000000d;
  descriptor_bytes_holds = given f d 0x7000000f;
}

-- the entries of a tag have multiples
multiple_given : (f : List ℕ) (d : Dynamic) (tag n v : ℕ) → ((value : ℕ) → Has f d tag value → n ∣ value) → Given f d tag v → n ∣ v
multiple_given f d tag n v each (inl h) = each v h
multiple_given f d tag n v each (inr h) = rw h.1 (dvd-zero n)

module _ (f : List ℕ) where
  abbrev H : Headers
  H = the_headers f

  abbrev D : Dynamic
  D = the_dynamic f

  module _ (r : Reads f (the_module f)) where
    tagged_multiple : (tag n : ℕ) → ((i : ℕ) → i < D.entries → tag_at f D i ≡ tag → n ∣ value_at f D i) → (value : ℕ) → Has f D tag value → n ∣ value
    tagged_multiple tag n each value h = subst (λ (v : ℕ). n ∣ v) h.valued (each h.entry h.before_null h.tagged)

    rela_whole : 24 ∣ rela_bytes f D
    rela_whole =
        let each = ((entries f D).0 r.entries).0 in
        multiple_given f D 8 24 (rela_bytes f D) (tagged_multiple 8 24 (λ i l e. (each i l).elf_value.relasz e)) (given f D relasz)

    packed_whole : 8 ∣ packed_bytes f D
    packed_whole =
        let each = ((entries f D).0 r.entries).0 in
        multiple_given f D 35 8 (packed_bytes f D) (tagged_multiple 35 8 (λ i l e. (each i l).elf_value.relrsz e)) (given f D relrsz)

    -- a table by its two tags
    standing : (address_tag bytes_tag x : ℕ) → table_backing f H (or_zero (entry_of f D address_tag)) (or_zero (entry_of f D bytes_tag)) ≡ Some x
        → TableBy f D address_tag bytes_tag x (or_zero (entry_of f D bytes_tag))
    standing address_tag bytes_tag x e = record {
      address = or_zero (entry_of f D address_tag);
      address_said = given f D address_tag;
      bytes_said = given f D bytes_tag;
      stands = (table f r.headers r.loads (or_zero (entry_of f D address_tag)) (or_zero (entry_of f D bytes_tag)) x).0 e;
    }

    rela_stands : (t : Relocations) → relocations_of f H D ≡ good t → TableBy f D 7 8 t.at (24 * t.entries)
    unfolding relocations_of
    rela_stands t e =
        let a = and_then_good (tables.backed 7 0 (table_backing f H (rela_address f D) (rela_bytes f D))) _ e in
        let b = and_then_good (require (leb (rela_bytes f D / 24) entry_limit) 7 0) _ a.rest in
        let s = standing 7 8 a.value (backed_good 7 0 a.value _ a.here) in
        let whole : rela_bytes f D % 24 ≡ 0 = mod-eq-zero_of_dvd 24 rela_whole in
        let n : 24 * (rela_bytes f D / 24) ≡ rela_bytes f D = omega arith in
        good_same (λ (t : Relocations). TableBy f D 7 8 t.at (24 * t.entries)) (record { at = a.value; entries = rela_bytes f D / 24 }) t b.rest
        (subst (TableBy f D 7 8 a.value) (sym n) s)

    packed_stands : (t : Packed) → packed_of f H D (the_relocations f) ≡ good t → TableBy f D 36 35 t.at (8 * t.words)
    unfolding packed_of
    packed_stands t e =
        let a = and_then_good (tables.backed 15 0 (table_backing f H (packed_address f D) (packed_bytes f D))) _ e in
        let b = and_then_good (words_check f a.value (the_relocations f).entries (packed_bytes f D / 8)) _ a.rest in
        let s = standing 36 35 a.value (backed_good 15 0 a.value _ a.here) in
        let whole : packed_bytes f D % 8 ≡ 0 = mod-eq-zero_of_dvd 8 packed_whole in
        let n : 8 * (packed_bytes f D / 8) ≡ packed_bytes f D = omega arith in
        good_same (λ (t : Packed). TableBy f D 36 35 t.at (8 * t.words)) (packed_at f a.value (packed_bytes f D / 8)) t b.rest
        (subst (TableBy f D 36 35 a.value) (sym n) s)

    descriptors_stand : (t : Descriptors) → descriptors_of f H D ≡ good t → TableBy f D 0x7000000d 0x7000000f t.at t.bytes
    unfolding descriptors_of
    descriptors_stand t e =
        let a = and_then_good (tables.backed 7 1 (table_backing f H (descriptor_address f D) (descriptor_bytes f D))) _ e in
        good_same (λ (t : Descriptors). TableBy f D 0x7000000d 0x7000000f t.at t.bytes)
        (record { at = a.value; bytes = descriptor_bytes f D }) t a.rest
        (standing 0x7000000d 0x7000000f a.value (backed_good 7 1 a.value _ a.here))

    read_from : ReadFrom f (the_module f)
    read_from = record {
      header_table = refl;
      header_count_holds = refl;
      dynamic-found = (dynamic f r.headers r.loads D).0 r.dynamic;
      symbol_table = entry_case f D symtab (SymbolTable f D) (λ l. no_symbols l refl) (λ v h. symbols_at v h refl);
      rela_table = rela_stands (the_relocations f) r.relocations;
      packed_table = packed_stands (the_packed f) r.packed;
      descriptor_table_holds = descriptors_stand (the_descriptors f) r.descriptors;
    }

    -- ---- check 10

    abbrev M : Module
    M = the_module f

    -- a known tag has one value
    one_value : (tag v w : ℕ) → listed (elf_tags ++ memtag_tags) tag ≡ true → Has f D tag v → Has f D tag w → v ≡ w
    one_value tag v w k g h = go (le_or_lt g.entry h.entry)
      where
        apart : (i j : ℕ) → j < D.entries → tag_at f D i ≡ tag → tag_at f D j ≡ tag → i < j → ⊥
        apart i j l p q less = (((entries f D).0 r.entries).0 j l).once (rw q k) i less (p ∙ sym q)

        go : (g.entry ≤ h.entry) ⊎ (h.entry < g.entry) → v ≡ w
        go (inl l) =
            ⊎_elim
            (λ (e : g.entry ≡ h.entry). sym g.valued ∙ ap (λ (i : ℕ). value_at f D i) e ∙ h.valued)
            (λ (e : g.entry < h.entry). absurd (apart g.entry h.entry h.before_null g.tagged h.tagged e))
            (eq-or-lt_of_le l)
        go (inr l) = absurd (apart h.entry g.entry g.before_null h.tagged g.tagged l)

    has-entry : (tag v : ℕ) → listed (elf_tags ++ memtag_tags) tag ≡ true → Has f D tag v → entry_of f D tag ≡ Some v
    has-entry tag v k h =
        entry_case f D tag (λ (e : Option ℕ). e ≡ Some v)
        (λ none. absurd (none h.entry h.before_null h.tagged))
        (λ w g. ap (λ (x : ℕ). Some x) (one_value tag w v k g h))

    symbol_stands : (n x : ℕ) → symbol_backing f H n M.symbols ≡ Some x → SymbolAt f M n x
    unfolding symbol_backing
    symbol_stands n x =
        entry_case f D symtab (λ (e : Option ℕ). symbol_backing f H n e ≡ Some x → SymbolAt f M n x)
        (λ _ e. absurd (let z : ◌≡◌ {A = ℕ} 0 1 = cc in omega arith))
        (λ address h e.
        let q = sym ((idle f H r.headers r.loads).symbol-backed n address) ∙ e in
        record {
          table = address;
          table_said = h;
          backed = (backing f r.headers r.loads (address + 24 * n) 24 x (omega arith)).0 q;
        })

    stands_symbol : (n x : ℕ) → SymbolAt f M n x → symbol_backing f H n M.symbols ≡ Some x
    stands_symbol n x s =
        rw (has-entry 6 s.table refl s.table_said, (idle f H r.headers r.loads).symbol-backed n s.table)
        ((backing f r.headers r.loads (s.table + 24 * n) 24 x (omega arith)).1 s.backed)

    symbol_good : (n : ℕ) → barred (named_target f (symbol_backing f H n M.symbols)) ≡ false → GoodSymbol f M n
    unfolding named_target
    symbol_good n e = go (symbol_backing f H n M.symbols) refl e
      where
        go : (p : Option ℕ) → symbol_backing f H n M.symbols ≡ p → barred (named_target f p) ≡ false → GoodSymbol f M n
        go None q e = true_false e
        go (Some x) q e =
            let t = symbol-allowed f x e in
            record { at = x; stands = symbol_stands n x q; not_tls = t.0; not_ifunc = t.1; ordinary = t.2; defined_or_weak = t.3 }

    good_symbol : (n : ℕ) → GoodSymbol f M n → barred (named_target f (symbol_backing f H n M.symbols)) ≡ false
    unfolding named_target
    good_symbol n g =
        rw (stands_symbol n g.at g.stands)
        (allowed-symbol f g.at g.not_tls g.not_ifunc g.ordinary g.defined_or_weak)

    module _ (b : Bytes f) (k : ℕ) where
      kind_same : kind_in f M k ≡ kind_at f M k
      kind_same = info_kind f b M.relocations.at k

      symbol_same : symbol_in f M k ≡ symbol_at f M k
      symbol_same = info_symbol f b M.relocations.at k

      target_good : barred (target f H M.symbols (kind_at f M k) (symbol_at f M k)) ≡ false → GoodKind f M k
      unfolding target
      target_good e =
          go (eqb (kind_at f M k) relative) refl (eqb (symbol_at f M k) 0) refl (eqb (kind_at f M k) abs64) refl (eqb (kind_at f M k) glob_dat) refl e
        where
          N : Target
          N = named_target f (symbol_backing f H (symbol_at f M k) M.symbols)

          named : (kind_at f M k ≡ 257) ⊎ (kind_at f M k ≡ 1025) → (symbol_at f M k ≡ 0 → ⊥) → barred N ≡ false → GoodKind f M k
          named kinds some e =
              by-symbol (rw kind_same kinds) (λ z. some (sym symbol_same ∙ z)) (subst (GoodSymbol f M) (sym symbol_same) (symbol_good (symbol_at f M k) e))

          go : (a : Bool) → eqb (kind_at f M k) relative ≡ a → (z : Bool) → eqb (symbol_at f M k) 0 ≡ z
              → (c : Bool) → eqb (kind_at f M k) abs64 ≡ c → (d : Bool) → eqb (kind_at f M k) glob_dat ≡ d
              → barred (cond a (cond z Base Barred) (cond (c || d) (cond z Barred N) Barred)) ≡ false → GoodKind f M k
          go true p true q c s d t e = by_base (kind_same ∙ eqb-true (kind_at f M k) relative p) (symbol_same ∙ eqb-true (symbol_at f M k) 0 q)
          go true p false q c s d t e = true_false e
          go false p true q true s d t e = true_false e
          go false p true q false s true t e = true_false e
          go false p z q false s false t e = true_false e
          go false p false q true s d t e = named (inl (eqb-true (kind_at f M k) abs64 s)) (eqb-false (symbol_at f M k) 0 q) e
          go false p false q false s true t e = named (inr (eqb-true (kind_at f M k) glob_dat t)) (eqb-false (symbol_at f M k) 0 q) e

      good_target : GoodKind f M k → barred (target f H M.symbols (kind_at f M k) (symbol_at f M k)) ≡ false
      unfolding target
      good_target (by_base e z) = rw (← kind_same, e, ← symbol_same, z)
      good_target (by-symbol (inl e) some g) = rw (← kind_same, e, ← symbol_same, ne_eqb (symbol_in f M k) 0 some) (good_symbol (symbol_in f M k) g)
      good_target (by-symbol (inr e) some g) = rw (← kind_same, e, ← symbol_same, ne_eqb (symbol_in f M k) 0 some) (good_symbol (symbol_in f M k) g)

      kind : Clears (barred (target_at f M k)) (AllowedItem f M k)
      kind = (
        λ e l. target_good (rw (entry-target f M k l) at e),
        λ g.
            ⊎_elim
            (λ (l : M.relocations.entries ≤ k). rw (packed-target f M k l))
            (λ (l : k < M.relocations.entries). rw (entry-target f M k l) (good_target (g l)))
            (le_or_lt M.relocations.entries k),
      )

      skipped : Clears (live f M k) (Skipped f M k)
      skipped = (
        λ e.
            ⊎_elim
            (λ (l : M.relocations.entries ≤ k). true_false (sym (packed-live f M k l) ∙ e))
            (λ (l : k < M.relocations.entries).
            record { entry = l; kind_zero = kind_same ∙ eqb-true (kind_at f M k) 0 (not-false _ (sym (entry-live f M k l) ∙ e)) })
            (le_or_lt M.relocations.entries k),
        λ s. entry-live f M k s.entry ∙ rw (eq-eqb (kind_at f M k) 0 (sym kind_same ∙ s.kind_zero)),
      )

    -- ---- check 11

    module _ (b : Bytes f) (k : ℕ) where
      place_good : good_place f M k ≡ true → GoodPlace f M k
      unfolding good_place place_fits taken has_place
      place_good e =
          let p = place_at f M k in
          let fits = and_left (place_fits f H p) _ e in
          let free = not-true (taken f M p k) (and_right (place_fits f H p) _ e) in
          let held = memory_held f true p 8 (and_right (eqb (p % 8) 0) _ fits) in
          record {
            multiple = dvd_of_mod-eq-zero 8 (eqb-true (p % 8) 0 (and_left (eqb (p % 8) 0) _ fits));
            header = held.header;
            inside = held.inside;
            writable = held.writes refl;
            apart = λ j l unskipped same. other j l unskipped (some_all (has_place f M p) k free j l) same;
          }
        where
          other : (j : ℕ) → j < k → (Skipped f M j → ⊥) → (live f M j && eqb (place_at f M j) (place_at f M k)) ≡ false
              → place_at f M j ≡ place_at f M k → ⊥
          other j l unskipped e same = unskipped ((skipped b j).0 (and_second (live f M j) (eq-eqb (place_at f M j) (place_at f M k) same) e))
            where
              and_second : (a : Bool) {c : Bool} → c ≡ true → (a && c) ≡ false → a ≡ false
              and_second true q e = sym q ∙ e
              and_second false q e = refl

      good_place_lem : GoodPlace f M k → good_place f M k ≡ true
      unfolding good_place place_fits taken has_place
      good_place_lem g =
          let p = place_at f M k in
          rw (
            eq-eqb (p % 8) 0 (mod-eq-zero_of_dvd 8 g.multiple),
            held_memory f true p 8 (record { header = g.header; inside = g.inside; writes = λ _. g.writable }),
            all_some (has_place f M p) k (λ j l. free j (live f M j) refl (g.apart j l)),
          )
        where
          free : (j : ℕ) (a : Bool) → live f M j ≡ a → ((Skipped f M j → ⊥) → place_at f M j ≡ place_at f M k → ⊥)
              → (a && eqb (place_at f M j) (place_at f M k)) ≡ false
          free j true e apart = ne_eqb (place_at f M j) (place_at f M k) (apart (λ s. true_false (sym e ∙ (skipped b j).1 s)))
          free j false e apart = refl

      place : Means (good_place f M k) (GoodPlace f M k)
      place = (place_good, good_place_lem)

      -- ---- both

      item_good : bad_relocation f M k ≡ false → GoodItem f M k
      unfolding bad_relocation
      item_good e = go (live f M k) refl e
        where
          go : (a : Bool) → live f M k ≡ a → (a && (barred (target_at f M k) || not (good_place f M k))) ≡ false → GoodItem f M k
          go false q e = inl ((skipped b k).0 q)
          go true q e = inr ((kind b k).0 (or_left (barred (target_at f M k)) _ e), place_good (not-false _ (or_right (barred (target_at f M k)) _ e)))

      good_item : GoodItem f M k → bad_relocation f M k ≡ false
      unfolding bad_relocation
      good_item (inl s) = rw ((skipped b k).1 s)
      good_item (inr g) = rw ((kind b k).1 g.0, good_place_lem g.1, and_false)

      item : Clears (bad_relocation f M k) (GoodItem f M k)
      item = (item_good, good_item)

    item_sentences : ItemSentences f M
    item_sentences = record {
      read_from = read_from;
      place_read = λ k l. entry_place f M k l;
      addend_read = λ k l. entry_addend f M k l;
      position_read = λ k l. entry_position f M k l;
      skipped = λ k b. skipped b k;
      kind = λ k b. kind b k;
      place = λ k b. place b k;
      item = λ k b. item b k;
      globals = r.count;
    }

-- the entry of a symbol that the rules find
pub module_symbol : (f : List ℕ) (m : Module) → Reads f m → (n x : ℕ) → symbol_backing f m.headers n m.symbols ≡ Some x → SymbolAt f m n x
module_symbol f m r = let q = r.found in rw q (symbol_stands f (subst (Reads f) q r))

pub module_sentences : (f : List ℕ) (m : Module) → module_of f ≡ good m → ItemSentences f m
module_sentences f m e =
    let r = module_reads f m e in
    let q = r.found in
    rw q (item_sentences f (subst (Reads f) q r))
