-- All promises hold.
-- Assumes nothing.
use Rattle.demands.proofs.Theorem.{demands}
use Rattle.demands.proofs.Calls.{calls}
use Rattle.demands.proofs.Fields.{signed_numbers}
use Rattle.demands.proofs.Uleb.{uleb}
use Rattle.demands.proofs.Steps.{steps}
use Rattle.demands.proofs.Writer.{writes, kept}
use Rattle.demands.proofs.Written.{read_back}
use Rattle.demands.proofs.Picker as picker
use Rattle.demands.proofs.Choosing.{passes, passed-meets, module_fits, module_passes}
use Rattle.demands.proofs.Rewritten.{write_back, one_table, module_table, one_module_table}
use Rattle.demands.proofs.Table.{table}
use Rattle.demands.proofs.Sentences.{limited, choice, sentences}
use Rattle.demands.specs.Promises.{Promises}

pub promises : Promises
promises = record {
  demands = demands;
  calls = calls;
  steps = steps;
  writer = record {
    writes = writes;
    read_back = read_back;
    write_back = write_back;
    one_table = one_table;
    module_table = module_table;
    one_module_table = one_module_table;
    kept = kept;
  };
  picker = record {
    picks = picker.picks;
    one_list = picker.one_list;
    again = picker.again;
    none_enough = picker.none_enough;
    two_enough = picker.two_enough;
    kept = picker.kept;
    passes = passes;
    passed-meets = passed-meets;
    module_fits = module_fits;
    module_passes = module_passes;
  };
  refusals = table;
  numbers = uleb;
  signed_numbers = signed_numbers;
  limits = limited;
  sentences = sentences;
  choice = choice;
}
