-- The cases hold by computation.
-- Assumes nothing.
use mathlib.Core.Path.{refl}
use Rattle.rules.specs.Bytes.{le}
use Rattle.rules.specs.First.{first, count_below}
use Rattle.rules.specs.Memory.{over, put}
use Rattle.rules.specs.Headers.{size_check, wrong_byte, identification_check, good_header, header_check, headers_of}
use Rattle.rules.specs.Segments.{header_at, power_below, aligned, good_load, end_before, bad_load, loads_check}
use Rattle.rules.specs.Segments.{covers, backs, backs_at, backer, backing_of, holds, holds_at, in_memory}
use Rattle.rules.specs.Dynamic.{is_dynamic_at, dynamic_from, is_null_at, null_entry, good_size, dynamic_at, dynamic_of}
use Rattle.rules.specs.Dynamic.{is_row, row_of, has_tag_at, tag_before, bad_entry, has_tag, partnerless, entries_check, entry_of}
use Rattle.rules.specs.Tables.{table_backing, relocations_of, descriptors_of}
use Rattle.rules.specs.Packed.{places_in, places_of, run_after, packed_from, is_place_at, bad_word, packed_of}
use Rattle.rules.specs.Descriptors.{uleb_in, short_second, short_first, second, descriptor, global_after, read_at, step_at}
use Rattle.rules.specs.Descriptors.{globals_from, globals_of}
use Rattle.rules.specs.Relocations.{place_at, addend_at, live, position_at, target_at}
use Rattle.rules.specs.Relocations.{symbol_backing, symbol_of, target_of, named_target, target, has_place, taken, place_fits, good_place}
use Rattle.rules.specs.Relocations.{bad_relocation, first_bad, relocations_check, words_of}
use Rattle.rules.specs.Reader.{module_of}
use Rattle.rules.specs.Examine.{facts_of, examined_of}
use Rattle.file_cases.specs.Cases.{FileCasesHold}

pub file_cases_hold : FileCasesHold
unfolding le first count_below over put size_check wrong_byte identification_check good_header header_check headers_of
    header_at power_below aligned good_load end_before bad_load loads_check covers backs backs_at backer backing_of holds holds_at in_memory
    is_dynamic_at dynamic_from is_null_at null_entry good_size dynamic_at dynamic_of is_row row_of has_tag_at tag_before bad_entry has_tag partnerless
    entries_check entry_of table_backing relocations_of descriptors_of places_in places_of run_after packed_from is_place_at
    bad_word packed_of uleb_in short_second short_first second descriptor global_after read_at step_at globals_from globals_of module_of
    place_at addend_at live position_at target_at symbol_backing symbol_of target_of named_target target has_place taken
    place_fits good_place bad_relocation first_bad
    relocations_check words_of facts_of examined_of
file_cases_hold = record {
  read = refl;
  examined = refl;
  headers = refl;
  loads = refl;
  dynamics = refl;
  entries = refl;
  tables = refl;
  descriptors = refl;
  symbols = refl;
  places = refl;
  order = refl;
}
