-- The files, and what the rules and the wrong definitions answer to them, by computation.
-- Assumes nothing.
use Prim.Native.Nat.{ℕ, ◌+◌}
use mathlib.Core.Path.{◌≡◌, refl}
use mathlib.Core.Bool.{true, false}
use mathlib.Core.List.{List, [], ◌∷◌}
use Rattle.rules.specs.Outcome.{good, bad, refusal, passed, mapped}
use Rattle.rules.specs.Checks.{runs}
use Rattle.rules.specs.Bytes.{le}
use Rattle.rules.specs.First.{first, count_below}
use Rattle.rules.specs.Memory.{over, put, put_word, bytes_of}
use Rattle.rules.specs.Headers.{size_check, wrong_byte, identification_check, good_header, header_check, the_headers, headers_of}
use Rattle.rules.specs.Segments.{header_at, power_below, aligned, good_load, end_before, align_before, bad_load, loads_check}
use Rattle.rules.specs.Segments.{covers, backs, backs_at, backer, backing_of, holds, holds_at, in_memory}
use Rattle.rules.specs.Dynamic.{is_dynamic_at, dynamic_from, is_null_at, null_entry, good_size, dynamic_at, dynamic_of, known_tags, tag_at}
use Rattle.rules.specs.Dynamic.{is_row, row_of, has_tag_at, tag_before, bad_entry, has_tag, partnerless, entries_check, entry_of}
use Rattle.rules.specs.Tables.{table_backing, relocations_of, descriptors_of}
use Rattle.rules.specs.Packed.{places_in, places_of, run_after, packed_from, is_place_at, bad_word, packed_of}
use Rattle.rules.specs.Descriptors.{uleb_in, short_second, short_first, second, descriptor, global_after, read_at, step_at}
use Rattle.rules.specs.Descriptors.{globals_from, globals_of}
use Rattle.rules.specs.Relocations.{place_at, addend_at, live, position_at, target_at, barred}
use Rattle.rules.specs.Relocations.{symbol_backing, symbol_of, target_of, named_target, target, has_place, taken, place_fits, good_place}
use Rattle.rules.specs.Relocations.{bad_relocation, first_bad, relocations_check, words_of}
use Rattle.rules.specs.Reader.{the_dynamic, the_module, reader_checks, module_of}
use Rattle.rules.specs.Examine.{examine_checks, facts_of, examined_of}
use Rattle.rules.specs.Lending.{bias_fits, memory_fits, plane_fits, lending_fits, lending_check}
use Rattle.rules.specs.Addresses.{bad_address, addresses_check}
use Rattle.rules.specs.Choices.{bad_choice, choices_for}
use Rattle.rules.specs.Image.{loads_over, loaded_in, image_of}
use Rattle.rules.specs.Plane.{tagged}
use Rattle.rules.specs.Words.{at, writes}
use Rattle.rules.specs.Load.{load_checks, load_of, facts_after}
use Rattle.rules.specs.declared.Mode.TheVariants as mode
use Rattle.rules.specs.declared.Facts.{Facts}
use Rattle.demands.specs.Fields.{rela_addend}
use Rattle.demands.specs.Targets.{kind_in}
use Rattle.demands.specs.Plain.{segments_of, bad_bare, bare_words}
use Rattle.file_cases.specs.Sample as sample
use Rattle.file_cases.specs.Sample.{joined, dynamic_entry, minus, sample, with, header, dynamic, symbol, entry}
use Rattle.mistakes.specs.Wrong.{wrapped_header, long_dynamic, unequal_repeat, examined_above, short_kind, reserved_target, place_above, source_below}
use Rattle.mistakes.specs.Wrong.{plain_by_item, plain_late, plain_described, plain_taking}
use Rattle.mistakes.proofs.Pinned.{all_bytes}

-- ---- the files: the module of the cases with something changed

-- its header table at 2^64 - 56
abbrev pub table_high : List ℕ
table_high = with sample 32 8 (minus 56)

-- a PT_DYNAMIC of 16 bytes, the DT_NULL alone
abbrev pub null_alone : List ℕ
null_alone = with (with sample (header 2 + 16) 8 (dynamic 7)) (header 2 + 32) 8 16

-- tag 6 twice, with one value
abbrev pub symtab_twice : List ℕ
symtab_twice = put sample (dynamic 7) (dynamic_entry 6 408)

-- a mode of 0
abbrev pub mode_zero : List ℕ
mode_zero = put sample (dynamic 7) (dynamic_entry 0x70000009 0)

-- entry 1 of kind 0x10101; its symbol in section 0xfff1
abbrev pub kind_high : List ℕ
kind_high = with sample (entry 1 + 8) 4 0x10101

abbrev pub section_high : List ℕ
section_high = with sample (symbol 1 + 6) 2 0xfff1

-- the PT_LOAD of the places with flags 5
abbrev pub flags_five : List ℕ
flags_five = with sample (header 1 + 4) 4 5

-- one global, 0 to 16, and -689 at the place of a RELATIVE word with the addend 688
abbrev pub sum_below : List ℕ
sum_below = with (with (with sample (dynamic 6 + 8) 8 1) (sample.descriptor 0) 1 0x01) 592 8 (minus 689)

-- an address below 0, of entry 0
abbrev pub address_below : List ℕ
address_below = with sample (entry 0 + 16) 8 (minus 0x40000001)

-- a packed table of two words at 680 in the second PT_LOAD, and this at 696
abbrev packed_with : ℕ → ℕ → ℕ → List ℕ
packed_with one two loaded =
    put (put sample (dynamic 7) (joined (dynamic_entry 36 680 ∷ dynamic_entry 35 16 ∷ dynamic_entry 37 8 ∷ [])))
    616 (joined (bytes_of 8 one ∷ bytes_of 8 two ∷ bytes_of 8 loaded ∷ []))

-- its third item, which the second word names, has an address below 0
abbrev pub third_item : List ℕ
third_item = packed_with 680 7 (minus 16)

-- a bitmap first, and entry 0 of a kind that is not allowed; without the first
abbrev pub bitmap_first : List ℕ
bitmap_first = with (packed_with 1 7 0) (entry 0 + 8) 4 1026

abbrev pub kind_bad : List ℕ
kind_bad = with sample (entry 0 + 8) 4 1026

-- a descriptor table that is not backed
abbrev pub table_unbacked : List ℕ
table_unbacked = with sample (dynamic 5 + 8) 8 640

abbrev pub bias : ℕ
bias = 0x40000000

abbrev pub choices : List ℕ
choices = 5 ∷ 9 ∷ 3 ∷ []

-- ---- the answers

-- a file is bytes and is read, and its RELA table has four entries
pub record IsRead (f : List ℕ) : Type 0 where
  pub in_bytes : all_bytes f ≡ true
  pub passes : runs (reader_checks f) ≡ good tt
  pub four : (the_module f).relocations.entries ≡ 4

pub record Answers : Type 0 where
  pub table_right : header_check table_high ≡ bad (refusal 3 0)
  pub table_wrong : wrapped_header table_high ≡ good tt
  pub null_headed : headers_of null_alone ≡ good (the_headers null_alone)
  pub null_loaded : loads_check null_alone (the_headers null_alone) ≡ good tt
  pub null_right : dynamic_of null_alone (the_headers null_alone) ≡ good (the_dynamic null_alone)
  pub null_wrong : long_dynamic null_alone (the_headers null_alone) ≡ bad (refusal 5 2)
  pub twice_right : bad_entry known_tags symtab_twice (the_dynamic symtab_twice) 7 ≡ true
  pub twice_wrong : unequal_repeat symtab_twice (the_dynamic symtab_twice) 7 ≡ false
  pub mode_wrong : mapped (λ (a : Facts). a.mode) (examined_above mode_zero) ≡ good mode.Absent
  pub mode_entries : (the_dynamic mode_zero).entries ≡ 8
  pub mode_tag : tag_at mode_zero (the_dynamic mode_zero) 7 ≡ 0x70000009
  pub kind_read : IsRead kind_high
  pub kind_right : barred (target_at kind_high (the_module kind_high) 1) ≡ true
  pub kind_wrong : barred (short_kind kind_high (the_module kind_high) 1) ≡ false
  pub section_read : IsRead section_high
  pub section_right : barred (target_at section_high (the_module section_high) 1) ≡ true
  pub section_wrong : barred (reserved_target section_high (the_module section_high) 1) ≡ false
  pub flags_read : IsRead flags_five
  pub flags_right : good_place flags_five (the_module flags_five) 0 ≡ false
  pub flags_wrong : place_above flags_five (the_module flags_five) 0 ≡ true
  pub below_read : IsRead sum_below
  pub below_passes : runs (load_checks sum_below 0 720 45 (5 ∷ [])) ≡ good tt
  pub below_live : live sum_below (the_module sum_below) 0 ≡ true
  pub below_kind : kind_in sum_below (the_module sum_below) 0 ≡ 1027
  pub below_addend : rela_addend sum_below (the_module sum_below).relocations.at 0 ≡ 688
  pub below_loaded : le 8 (image_of sum_below (the_headers sum_below) 720) (place_at sum_below (the_module sum_below) 0) ≡ minus 689
  pub below_wrong : source_below sum_below (the_module sum_below) 0 0 ≡ at 0
  pub address_passes : runs (examine_checks address_below) ≡ good tt
  pub address_right : addresses_check address_below (the_module address_below) bias ≡ bad (refusal 13 0)
  pub third_load : facts_after (load_of third_item bias 720 45 choices) ≡ bad (refusal 13 5)
  pub third_plain : passed (plain_by_item third_item bias 720) ≡ bad (refusal 13 6)
  pub bitmap_load : facts_after (load_of bitmap_first bias 720 45 choices) ≡ bad (refusal 15 0)
  pub bitmap_plain : passed (plain_late bitmap_first bias 720) ≡ bad (refusal 10 0)
  pub unbacked_plain : passed (plain_described table_unbacked bias 720) ≡ bad (refusal 7 1)
  pub bad_load_lem : facts_after (load_of kind_bad bias 720 45 choices) ≡ bad (refusal 10 0)
  pub bad_plain : passed (plain_taking kind_bad bias 720) ≡ good tt

pub answers : Answers
unfolding le first count_below over put put_word size_check wrong_byte identification_check good_header header_check headers_of
    header_at power_below aligned good_load end_before align_before bad_load loads_check covers backs backs_at backer backing_of holds holds_at in_memory
    is_dynamic_at dynamic_from is_null_at null_entry good_size dynamic_at dynamic_of is_row row_of has_tag_at tag_before bad_entry has_tag partnerless
    entries_check entry_of table_backing relocations_of descriptors_of places_in places_of run_after packed_from is_place_at
    bad_word packed_of uleb_in short_second short_first second descriptor global_after read_at step_at globals_from globals_of
    place_at addend_at live position_at target_at symbol_backing symbol_of target_of named_target target has_place taken
    place_fits good_place bad_relocation first_bad
    relocations_check words_of module_of facts_of examined_of bias_fits memory_fits plane_fits lending_fits lending_check loads_over loaded_in bad_address
    addresses_check bad_choice choices_for tagged writes load_of segments_of bad_bare bare_words
answers = record {
  table_right = refl;
  table_wrong = refl;
  null_headed = refl;
  null_loaded = refl;
  null_right = refl;
  null_wrong = refl;
  twice_right = refl;
  twice_wrong = refl;
  mode_wrong = refl;
  mode_entries = refl;
  mode_tag = refl;
  kind_read = record { in_bytes = refl; passes = refl; four = refl };
  kind_right = refl;
  kind_wrong = refl;
  section_read = record { in_bytes = refl; passes = refl; four = refl };
  section_right = refl;
  section_wrong = refl;
  flags_read = record { in_bytes = refl; passes = refl; four = refl };
  flags_right = refl;
  flags_wrong = refl;
  below_read = record { in_bytes = refl; passes = refl; four = refl };
  below_passes = refl;
  below_live = refl;
  below_kind = refl;
  below_addend = refl;
  below_loaded = refl;
  below_wrong = refl;
  address_passes = refl;
  address_right = refl;
  third_load = refl;
  third_plain = refl;
  bitmap_load = refl;
  bitmap_plain = refl;
  unbacked_plain = refl;
  bad_load_lem = refl;
  bad_plain = refl;
}
