-- The cases hold by computation.
-- Assumes nothing.
use mathlib.Core.Path.{refl}
use Rattle.rules.specs.Bytes.{le}
use Rattle.rules.specs.First.{first, count_below}
use Rattle.rules.specs.Memory.{over, put, put_word}
use Rattle.rules.specs.Headers.{size_check, wrong_byte, identification_check, good_header, header_check, headers_of}
use Rattle.rules.specs.Segments.{header_at, power_below, aligned, good_load, end_before, align_before, bad_load, loads_check}
use Rattle.rules.specs.Segments.{covers, backs, backs_at, backer, backing_of, holds, holds_at, in_memory}
use Rattle.rules.specs.Dynamic.{is_dynamic_at, dynamic_from, is_null_at, null_entry, good_size, dynamic_at, dynamic_of}
use Rattle.rules.specs.Dynamic.{is_row, row_of, has_tag_at, tag_before, bad_entry, has_tag, partnerless, entries_check, entry_of}
use Rattle.rules.specs.Tables.{table_backing, relocations_of, descriptors_of}
use Rattle.rules.specs.Packed.{places_in, places_of, run_after, packed_from, is_place_at, bad_word, packed_of}
use Rattle.rules.specs.Descriptors.{uleb_in, short_second, short_first, second, descriptor, global_after, read_at, step_at}
use Rattle.rules.specs.Descriptors.{globals_from, globals_of}
use Rattle.rules.specs.Relocations.{place_at, addend_at, live, position_at, target_at}
use Rattle.rules.specs.Relocations.{symbol_backing, symbol_of, target_of, named_target, target, has_place, taken, place_fits, good_place}
use Rattle.rules.specs.Relocations.{bad_relocation, first_bad, relocations_check, words_of}
use Rattle.rules.specs.Reader.{module_of}
use Rattle.rules.specs.Examine.{facts_of}
use Rattle.rules.specs.Lending.{bias_fits, memory_fits, plane_fits, lending_fits, lending_check}
use Rattle.rules.specs.Addresses.{bad_address, addresses_check}
use Rattle.rules.specs.Choices.{bad_choice, choices_for}
use Rattle.rules.specs.Image.{loads_over, loaded_in}
use Rattle.rules.specs.Plane.{tagged}
use Rattle.rules.specs.Words.{writes}
use Rattle.rules.specs.Load.{load_of}
use Rattle.demands.specs.Plain.{segments_of, bad_bare, bare_words, plain_of}
use Rattle.packed_cases.specs.Cases.{PackedCasesHold}

pub packed_cases_hold : PackedCasesHold
unfolding le first count_below over put put_word size_check wrong_byte identification_check good_header header_check headers_of
    header_at power_below aligned good_load end_before align_before bad_load loads_check covers backs backs_at backer backing_of holds holds_at in_memory
    is_dynamic_at dynamic_from is_null_at null_entry good_size dynamic_at dynamic_of is_row row_of has_tag_at tag_before bad_entry has_tag partnerless
    entries_check entry_of table_backing relocations_of descriptors_of places_in places_of run_after packed_from is_place_at
    bad_word packed_of uleb_in short_second short_first second descriptor global_after read_at step_at globals_from globals_of
    place_at addend_at live position_at target_at symbol_backing symbol_of target_of named_target target has_place taken
    place_fits good_place bad_relocation first_bad
    relocations_check words_of module_of facts_of bias_fits memory_fits plane_fits lending_fits lending_check loads_over loaded_in bad_address
    addresses_check bad_choice choices_for tagged writes load_of segments_of bad_bare bare_words plain_of
packed_cases_hold = record {
  read = refl;
  load = refl;
  plain = refl;
  entries = refl;
  tables = refl;
  places = refl;
  named = refl;
  addresses = refl;
  plain_answers = refl;
}
