-- PT_DYNAMIC and the dynamic entries: each test of the rules is document 01's sentence.
-- Assumes nothing.
use Rattle.std.specs.Prelude.{Option, Some, None}
use Prim.Native.Nat.{ℕ, zero, suc, ◌%◌, ◌<◌}
use mathlib.Core.Path.{◌≡◌, refl, sym, ◌∙◌, subst}
use mathlib.Core.Bool.{Bool, true, false, cond, not, ◌&&◌, ◌||◌}
use mathlib.Core.List.{List, [], ◌∷◌, ◌++◌, map}
use mathlib.Core.Logic.{◌⊎◌, inl, inr}
use native.Mathlib.Nat.{mod-eq-zero_of_dvd, dvd_of_mod-eq-zero, le_of_suc-le-suc}
use native.Mathlib.Omega.{arith}
use lib.ListN.{length, drop}
use lib.Dec.{ltb, eqb}
use borrow.Author.Tests.{ltb-true, eqb-true, eq-eqb, ne_eqb, not-true}
use Rattle.rules.specs.Outcome.{good}
use Rattle.rules.specs.First.{first, faultless}
use Rattle.rules.specs.Dynamic.{row, base_tags, known_tags, row_at, allows, is_row, row_of, tag_at, value_at, has_tag_at, tag_before, bad_entry}
use Rattle.rules.specs.Dynamic.{has_tag, differ, partnerless, entries_check, entry_of}
use Rattle.rules.specs.declared.Dynamic.{Dynamic}
use Rattle.rules.specs.declared.Known.{Known}
use Rattle.rules.specs.declared.Allowed.{Allowed}
use Rattle.rules.specs.declared.Allowed.TheVariants.{Exactly, Multiple, Flag, Never}
use Rattle.rules.proofs.FirstLaws.{first_true, at_some}
use Rattle.rules.proofs.OutcomeLaws.{true_false, false_true, and_then_good, require_held}
use Rattle.laws.proofs.Checks.{faultless_all, all_faultless, some_all, all_some, some_at}
use Rattle.laws.proofs.KnownTags.{row_base}
use Rattle.demands.specs.Table.{listed}
use Rattle.demands.specs.Entries.{ElfAllows, MemtagAllows, Once, GoodEntry, GoodElfEntry, Has, Lacks, Partners}
use Rattle.demands.specs.Entries.{ElfPartners, MemtagPartners}
use Rattle.demands.specs.Sentences.{Clears, Admits}

-- ---- the rows of a table

abbrev AllRows : (Known → Type 0) → List Known → Type 0
AllRows P [] = Unit
AllRows P (k ∷ ks) = P k × AllRows P ks

row_all : (P : Known → Type 0) (ks : List Known) → AllRows P ks → (r : ℕ) → r < length ks → P (row_at ks r)
row_all P [] all r l = absurd (omega arith)
row_all P (k ∷ ks) all zero l = all.0
row_all P (k ∷ ks) all (suc r) l = row_all P ks all.1 r (le_of_suc-le-suc l)

rows_join : (P : Known → Type 0) (ks more : List Known) → AllRows P ks → AllRows P more → AllRows P (ks ++ more)
rows_join P [] more a b = b
rows_join P (k ∷ ks) more a b = (a.0, rows_join P ks more a.1 b)

rows-map : (P Q : Known → Type 0) (ks : List Known) → ((k : Known) → P k → Q k) → AllRows P ks → AllRows Q ks
rows-map P Q [] g a = tt
rows-map P Q (k ∷ ks) g a = (g k a.0, rows-map P Q ks g a.1)

-- a tag is listed where it has a row
abbrev tags_of : List Known → List ℕ
tags_of ks = map (λ (k : Known). k.tag) ks

row_listed : (ks : List Known) (tag r : ℕ) → r < length ks → (row_at ks r).tag ≡ tag → listed (tags_of ks) tag ≡ true
row_listed [] tag r l e = absurd (omega arith)
row_listed (k ∷ ks) tag zero l e = rw (eq-eqb k.tag tag e)
row_listed (k ∷ ks) tag (suc r) l e = go (eqb k.tag tag) (row_listed ks tag r (le_of_suc-le-suc l) e)
  where
    go : (b : Bool) {c : Bool} → c ≡ true → (b || c) ≡ true
    go true h = refl
    go false h = h

listed-row : (ks : List Known) (tag : ℕ) → listed (tags_of ks) tag ≡ true
    → (r : ℕ) × ((r < length ks) × ((row_at ks r).tag ≡ tag))
listed-row [] tag e = false_true e
listed-row (k ∷ ks) tag e = go (eqb k.tag tag) refl e (λ h. listed-row ks tag h)
  where
    go : (b : Bool) → eqb k.tag tag ≡ b → (b || listed (tags_of ks) tag) ≡ true
        → (listed (tags_of ks) tag ≡ true → (r : ℕ) × ((r < length ks) × ((row_at ks r).tag ≡ tag)))
        → (r : ℕ) × ((r < suc (length ks)) × ((row_at (k ∷ ks) r).tag ≡ tag))
    go true q h rest = (0, (omega arith, eqb-true k.tag tag q))
    go false q h rest = let s = rest h in let l = s.1.0 in (suc s.0, (omega arith, s.1.1))

module _ (known : List Known) (tag : ℕ) where
  row_of_tag : row_of known tag < length known → (row_at known (row_of known tag)).tag ≡ tag
  unfolding row_of is_row
  row_of_tag l = eqb-true _ tag (first_true (is_row known tag) (length known) 0 (omega arith))

  known_listed : ltb (row_of known tag) (length known) ≡ true → listed (tags_of known) tag ≡ true
  known_listed e = let l = ltb-true (row_of known tag) (length known) e in row_listed known tag (row_of known tag) l (row_of_tag l)

  listed_known : listed (tags_of known) tag ≡ true → ltb (row_of known tag) (length known) ≡ true
  unfolding row_of is_row
  listed_known e =
      let s = listed-row known tag e in
      at_some (is_row known tag) (length known) s.0 s.1.0 (eq-eqb _ tag s.1.1)

-- ---- an entry

-- a tag's row, by computation
record IsRow (known : List Known) (tag : ℕ) (a : Allowed) : Type 0 where
  there : ltb (row_of known tag) (length known) ≡ true
  allowed : (row_at known (row_of known tag)).allowed ≡ a

-- a fault of a known tag: its value or an earlier one
clear_both : (a b c : Bool) → (a && (not b || c)) ≡ false → a ≡ true → (b ≡ true) × (c ≡ false)
clear_both true true c h e = (refl, h)
clear_both true false c h e = true_false h
clear_both false b c h e = false_true e

both_clear : (a b c : Bool) → (a ≡ true → (b ≡ true) × (c ≡ false)) → (a && (not b || c)) ≡ false
both_clear true b c h = let s = h refl in rw (s.0, s.1)
both_clear false b c h = refl

module _ (f : List ℕ) (d : Dynamic) where
  abbrev Earlier : ℕ → Type 0
  Earlier i = (j : ℕ) → j < i → tag_at f d j ≡ tag_at f d i → ⊥

  none_earlier : (i : ℕ) → ltb (tag_before f d (tag_at f d i) i) i ≡ false → Earlier i
  unfolding tag_before has_tag_at
  none_earlier i e j l q = true_false (sym (eq-eqb (tag_at f d j) (tag_at f d i) q) ∙ some_all (has_tag_at f d (tag_at f d i)) i e j l)

  earlier_none : (i : ℕ) → Earlier i → ltb (tag_before f d (tag_at f d i) i) i ≡ false
  unfolding tag_before has_tag_at
  earlier_none i e = all_some (has_tag_at f d (tag_at f d i)) i (λ j l. ne_eqb (tag_at f d j) (tag_at f d i) (e j l))

  module _ (known : List Known) (i : ℕ) where
    -- the value is one that the tag's row allows
    abbrev is_known : Bool
    is_known = ltb (row_of known (tag_at f d i)) (length known)

    abbrev is_allowed : Bool
    is_allowed = allows (row_at known (row_of known (tag_at f d i))).allowed (value_at f d i)

    abbrev is_repeated : Bool
    is_repeated = ltb (tag_before f d (tag_at f d i) i) i

    abbrev Valued : Type 0
    Valued = is_known ≡ true → is_allowed ≡ true

    entry_valued : bad_entry known f d i ≡ false → Valued
    unfolding bad_entry
    entry_valued e k = (clear_both is_known is_allowed is_repeated e k).0

    entry_once : bad_entry known f d i ≡ false → Once f d (tags_of known) i
    unfolding bad_entry
    entry_once e k = none_earlier i (clear_both is_known is_allowed is_repeated e (listed_known known (tag_at f d i) k)).1

    valued_entry : Valued → Once f d (tags_of known) i → bad_entry known f d i ≡ false
    unfolding bad_entry
    valued_entry v once = both_clear is_known is_allowed is_repeated (λ k. (v k, earlier_none i (once (known_listed known (tag_at f d i) k))))

    row_valued : {a : Allowed} (tag : ℕ) → IsRow known tag a → Valued → tag_at f d i ≡ tag → allows a (value_at f d i) ≡ true
    row_valued tag r v e = let t = v (rw e r.there) in rw (e, r.allowed) at t

    valued_rows : AllRows (λ (k : Known). k.tag ≡ tag_at f d i → allows k.allowed (value_at f d i) ≡ true) known → Valued
    valued_rows all k =
        let l = ltb-true (row_of known (tag_at f d i)) (length known) k in
        row_all _ known all (row_of known (tag_at f d i)) l (row_of_tag known (tag_at f d i) l)

  -- ---- by the rows of ELF64, which stand first

  abbrev ElfRows : List Known → Type 0
  ElfRows known =
      IsRow known 11 (Exactly 24) × IsRow known 8 (Multiple 24) × IsRow known 9 (Exactly 24) × IsRow known 35 (Multiple 8) × IsRow known 37 (Exactly 8)
      × IsRow known 17 Never × IsRow known 23 Never

  elf_allows : (known : List Known) (i : ℕ) → ElfRows known → Valued known i → ElfAllows (tag_at f d i) (value_at f d i)
  elf_allows known i r v = record {
    syment = λ e. eqb-true (value_at f d i) 24 (row_valued known i 11 r.0 v e);
    relasz = λ e. dvd_of_mod-eq-zero 24 (eqb-true (value_at f d i % 24) 0 (row_valued known i 8 r.1 v e));
    relaent = λ e. eqb-true (value_at f d i) 24 (row_valued known i 9 r.2 v e);
    relrsz = λ e. dvd_of_mod-eq-zero 8 (eqb-true (value_at f d i % 8) 0 (row_valued known i 35 r.3 v e));
    relrent = λ e. eqb-true (value_at f d i) 8 (row_valued known i 37 r.4 v e);
    no_rel = λ e. false_true (row_valued known i 17 r.5 v e);
    no_jmprel = λ e. false_true (row_valued known i 23 r.6 v e);
  }

  -- of a row: where its tag is that of entry i, it allows the value
  abbrev RowAllows : ℕ → Known → Type 0
  RowAllows i k = k.tag ≡ tag_at f d i → allows k.allowed (value_at f d i) ≡ true

  elf_rows : (i : ℕ) → ElfAllows (tag_at f d i) (value_at f d i) → AllRows (RowAllows i) base_tags
  elf_rows i a = (
    λ e. refl,
    (
      λ e. eq-eqb v 24 (a.syment (sym e)),
      (
        λ e. refl,
        (
          λ e. eq-eqb (v % 24) 0 (mod-eq-zero_of_dvd 24 (a.relasz (sym e))),
          (
            λ e. eq-eqb v 24 (a.relaent (sym e)),
            (
              λ e. absurd (a.no_rel (sym e)),
              (
                λ e. absurd (a.no_jmprel (sym e)),
                (
                  λ e. refl,
                  (λ e. eq-eqb (v % 8) 0 (mod-eq-zero_of_dvd 8 (a.relrsz (sym e))), (λ e. eq-eqb v 8 (a.relrent (sym e)), tt)),
                ),
              ),
            ),
          ),
        ),
      ),
    ),
  )
    where
      v : ℕ
      v = value_at f d i

  elf_known : ElfRows base_tags × ElfRows known_tags
  unfolding row_of is_row first
  elf_known = (rows, rows_too)
    where
      rows : ElfRows base_tags
      rows = (
        record { there = refl; allowed = refl },
        record { there = refl; allowed = refl },
        record { there = refl; allowed = refl },
        record { there = refl; allowed = refl },
        record { there = refl; allowed = refl },
        record { there = refl; allowed = refl },
        record { there = refl; allowed = refl },
      )

      rows_too : ElfRows known_tags
      rows_too = (
        record { there = refl; allowed = refl },
        record { there = refl; allowed = refl },
        record { there = refl; allowed = refl },
        record { there = refl; allowed = refl },
        record { there = refl; allowed = refl },
        record { there = refl; allowed = refl },
        record { there = refl; allowed = refl },
      )

  elf_good : (i : ℕ) → bad_entry base_tags f d i ≡ false → GoodElfEntry f d i
  elf_good i e = record {
    elf_value = elf_allows base_tags i elf_known.0 (entry_valued base_tags i e);
    once = entry_once base_tags i e;
  }

  good_elf : (i : ℕ) → GoodElfEntry f d i → bad_entry base_tags f d i ≡ false
  good_elf i g = valued_entry base_tags i (valued_rows base_tags i (elf_rows i g.elf_value)) g.once

  pub elf_entry : (i : ℕ) → Clears (bad_entry base_tags f d i) (GoodElfEntry f d i)
  elf_entry i = (elf_good i, good_elf i)

  -- ---- and of the Memtag ABI

  small_flag : (v : ℕ) → ltb v 2 ≡ true → (v ≡ 0) ⊎ (v ≡ 1)
  small_flag zero e = inl refl
  small_flag (suc zero) e = inr refl
  small_flag (suc (suc v)) e = let l = ltb-true (suc (suc v)) 2 e in absurd (omega arith)

  flag_small : (v : ℕ) → (v ≡ 0) ⊎ (v ≡ 1) → ltb v 2 ≡ true
  flag_small v (inl e) = rw e
  flag_small v (inr e) = rw e

  memtag_known : IsRow known_tags 0x70000009 Flag × IsRow known_tags 0x7000000b Flag × IsRow known_tags 0x7000000c Flag
  unfolding row_of is_row first
  memtag_known = (record { there = refl; allowed = refl }, record { there = refl; allowed = refl }, record { there = refl; allowed = refl })

  memtag_allows : (i : ℕ) → Valued known_tags i → MemtagAllows (tag_at f d i) (value_at f d i)
  memtag_allows i v = record {
    mode = λ e. small_flag (value_at f d i) (row_valued known_tags i 0x70000009 memtag_known.0 v e);
    heap = λ e. small_flag (value_at f d i) (row_valued known_tags i 0x7000000b memtag_known.1 v e);
    stack = λ e. small_flag (value_at f d i) (row_valued known_tags i 0x7000000c memtag_known.2 v e);
  }

  memtag_rows : (i : ℕ) → MemtagAllows (tag_at f d i) (value_at f d i) → AllRows (RowAllows i) (drop 10 known_tags)
  memtag_rows i a = (
    λ e. flag_small (value_at f d i) (a.mode (sym e)),
    (
      λ e. flag_small (value_at f d i) (a.heap (sym e)),
      (
        λ e. flag_small (value_at f d i) (a.stack (sym e)),
        (
          λ e. refl,
          (λ e. refl, tt),
        ),
      ),
    ),
  )

  entry_good : (i : ℕ) → bad_entry known_tags f d i ≡ false → GoodEntry f d i
  entry_good i e = record {
    elf_value = elf_allows known_tags i elf_known.1 (entry_valued known_tags i e);
    memtag_value = memtag_allows i (entry_valued known_tags i e);
    once = entry_once known_tags i e;
  }

  good_entry : (i : ℕ) → GoodEntry f d i → bad_entry known_tags f d i ≡ false
  good_entry i g =
      let all = rows_join (RowAllows i) base_tags (drop 10 known_tags) (elf_rows i g.elf_value) (memtag_rows i g.memtag_value) in
      valued_entry known_tags i (valued_rows known_tags i all) g.once

  pub known_entry : (i : ℕ) → Clears (bad_entry known_tags f d i) (GoodEntry f d i)
  known_entry i = (entry_good i, good_entry i)

  -- ---- partners

  abbrev Present : ℕ → Type 0
  Present tag = (value : ℕ) × Has f d tag value

  has_present : (tag : ℕ) → has_tag f d tag ≡ true → Present tag
  unfolding has_tag tag_before has_tag_at
  has_present tag e =
      let s = some_at (has_tag_at f d tag) d.entries e in (
        value_at f d s.0,
        record { entry = s.0; before_null = s.1.0; tagged = eqb-true (tag_at f d s.0) tag s.1.1; valued = refl },
      )

  present_has : (tag : ℕ) → Present tag → has_tag f d tag ≡ true
  unfolding has_tag tag_before has_tag_at
  present_has tag p =
      let h = p.1 in
      at_some (has_tag_at f d tag) d.entries h.entry h.before_null (eq-eqb (tag_at f d h.entry) tag h.tagged)

  -- the entry of a tag, by cases
  pub entry_case : (tag : ℕ) (P : Option ℕ → Type 0) → (Lacks f d tag → P None)
      → ((v : ℕ) → Has f d tag v → P (Some v)) → P (entry_of f d tag)
  unfolding entry_of has_tag tag_before has_tag_at
  entry_case tag P none some = go (ltb i d.entries) refl
    where
      i : ℕ
      i = first (has_tag_at f d tag) 0 d.entries

      go : (b : Bool) → ltb i d.entries ≡ b → P (cond b (Some (value_at f d i)) None)
      go false e = none (λ j l q. true_false (sym (eq-eqb (tag_at f d j) tag q) ∙ some_all (has_tag_at f d tag) d.entries e j l))
      go true e =
          let l : i < d.entries = ltb-true i d.entries e in
          let t = eqb-true (tag_at f d i) tag (first_true (has_tag_at f d tag) d.entries 0 (omega arith)) in
          some (value_at f d i) (record { entry = i; before_null = l; tagged = t; valued = refl })

  differ_same : (a b : Bool) → differ a b ≡ false → a ≡ b
  differ_same true true e = refl
  differ_same true false e = true_false e
  differ_same false true e = true_false e
  differ_same false false e = refl

  same_differ : (a b : Bool) → (a ≡ true → b ≡ true) → (b ≡ true → a ≡ true) → differ a b ≡ false
  same_differ true true p q = refl
  same_differ true false p q = sym (p refl)
  same_differ false true p q = sym (q refl)
  same_differ false false p q = refl

  -- a row is not without its partner
  abbrev Joined : Known → Type 0
  Joined k = differ (has_tag f d k.tag) (has_tag f d k.group) ≡ false

  joined_partners : (tag group : ℕ) → differ (has_tag f d tag) (has_tag f d group) ≡ false → Partners f d group tag
  joined_partners tag group e =
      let s = differ_same (has_tag f d tag) (has_tag f d group) e in (
        λ p. has_present tag (s ∙ present_has group p),
        λ p. has_present group (sym s ∙ present_has tag p),
      )

  partners_joined : (tag group : ℕ) → Partners f d group tag → differ (has_tag f d tag) (has_tag f d group) ≡ false
  partners_joined tag group p =
      same_differ (has_tag f d tag) (has_tag f d group)
      (λ e. present_has group (p.1 (has_present tag e))) (λ e. present_has tag (p.0 (has_present group e)))

  alone : (tag : ℕ) → differ (has_tag f d tag) (has_tag f d tag) ≡ false
  alone tag = same_differ (has_tag f d tag) (has_tag f d tag) (λ e. e) (λ e. e)

  elf_partners : (known : List Known) (row : (r : ℕ) → r < 10 → row_at known r ≡ row_at base_tags r)
      → ((r : ℕ) → r < 10 → Joined (row_at known r)) → ElfPartners f d
  elf_partners known row all =
      let base : (r : ℕ) → r < 10 → Joined (row_at base_tags r) = λ r l. subst Joined (row r l) (all r l) in
      record {
        symbols = joined_partners 11 6 (base 1 (omega arith));
        rela_bytes_holds = joined_partners 8 7 (base 3 (omega arith));
        rela-entry = joined_partners 9 7 (base 4 (omega arith));
        packed_bytes_holds = joined_partners 35 36 (base 8 (omega arith));
        packed-entry = joined_partners 37 36 (base 9 (omega arith));
      }

  elf_joined : ElfPartners f d → AllRows Joined base_tags
  elf_joined p = (
    alone 6,
    (
      partners_joined 11 6 p.symbols,
      (
        alone 7,
        (
          partners_joined 8 7 p.rela_bytes_holds,
          (
            partners_joined 9 7 p.rela-entry,
            (
              alone 17,
              (
                alone 23,
                (
                  alone 36,
                  (partners_joined 35 36 p.packed_bytes_holds, (partners_joined 37 36 p.packed-entry, tt)),
                ),
              ),
            ),
          ),
        ),
      ),
    ),
  )

  memtag_joined : MemtagPartners f d → AllRows Joined (drop 10 known_tags)
  memtag_joined p = (
    alone 0x70000009,
    (alone 0x7000000b, (alone 0x7000000c, (alone 0x7000000d, (partners_joined 0x7000000f 0x7000000d p, tt)))),
  )

  -- ---- the check

  module _ (known : List Known) where
    check_clear : entries_check known f d ≡ good tt → (i : ℕ) → i < d.entries → bad_entry known f d i ≡ false
    unfolding entries_check
    check_clear e =
        faultless_all (bad_entry known f d) 6 d.entries (and_then_good (faultless 6 (bad_entry known f d) d.entries) _ e).here

    check_joined : entries_check known f d ≡ good tt → (r : ℕ) → r < length known → Joined (row_at known r)
    unfolding entries_check partnerless
    check_joined e =
        let a = and_then_good (faultless 6 (bad_entry known f d) d.entries) _ e in
        some_all (partnerless known f d) (length known) (not-true _ (require_held _ 6 d.entries a.rest))

    joined_check : ((i : ℕ) → i < d.entries → bad_entry known f d i ≡ false) → AllRows Joined known → entries_check known f d ≡ good tt
    unfolding entries_check partnerless
    joined_check each all =
        rw (
          all_faultless (bad_entry known f d) 6 d.entries each,
          all_some (partnerless known f d) (length known) (λ r l. row_all Joined known all r l),
        )

  pub elf_entries : Admits (entries_check base_tags f d) (((i : ℕ) → i < d.entries → GoodElfEntry f d i) × ElfPartners f d)
  elf_entries = (
    λ e. (λ i l. elf_good i (check_clear base_tags e i l), elf_partners base_tags (λ r l. refl) (check_joined base_tags e)),
    λ g. joined_check base_tags (λ i l. good_elf i (g.0 i l)) (elf_joined g.1),
  )

  pub entries : Admits (entries_check known_tags f d)
      (((i : ℕ) → i < d.entries → GoodEntry f d i) × ElfPartners f d × MemtagPartners f d)
  entries = (
    λ e. (
      λ i l. entry_good i (check_clear known_tags e i l),
      elf_partners known_tags row_base (λ r l. check_joined known_tags e r (omega arith)),
      joined_partners 0x7000000f 0x7000000d (check_joined known_tags e 14 (omega arith)),
    ),
    λ g. joined_check known_tags (λ i l. good_entry i (g.0 i l))
        (rows_join Joined base_tags (drop 10 known_tags) (elf_joined g.1) (memtag_joined g.2)),
  )
