-- What each call answers, as document 01's outcome: the value that it found, or the number and position of its refusal.
-- Assumes nothing.
use Rattle.std.specs.Prelude.{ℕ, cond, List, length, ℤ, Option, Some, None, Result, Ok, Err}
use Rattle.rules.specs.Outcome.{Outcome, good, bad, refusal, mapped}
use Rattle.rules.specs.Descriptors.{Read, finished, global}
use Rattle.rules.specs.Addresses.{out_of_range, natural}
use Rattle.rules.specs.declared.Global.{Global}
use Rattle.rules.specs.declared.Cursor.{Cursor}
use Rattle.rules.specs.declared.Reason.{Reason}
use Rattle.rules.specs.declared.Reason.TheVariants as reason
use Rattle.rules.specs.declared.ListReason.{ListReason}
use Rattle.rules.specs.declared.ListReason.TheVariants as list
use Rattle.rules.specs.declared.Refusal as declared
use Rattle.rules.specs.declared.ListRefusal.{ListRefusal}

-- document 01's number of each reason
abbrev pub number_of : Reason → ℕ
number_of reason.Length = 1
number_of reason.Identification = 2
number_of reason.Header = 3
number_of reason.Load = 4
number_of reason.Dynamic = 5
number_of reason.Entry = 6
number_of reason.Table = 7
number_of reason.Descriptor = 8
number_of reason.Global = 9
number_of reason.Target = 10
number_of reason.Place = 11
number_of reason.Lending = 12
number_of reason.Address = 13
number_of reason.Choice = 14
number_of reason.Packed = 15
number_of reason.LongForm = 16

-- the writer's numbers 1 to 6; the picker's are 2 to 5, 7 and 8
abbrev pub list_number_of : ListReason → ℕ
list_number_of list.UnequalLists = 1
list_number_of list.NoSize = 2
list_number_of list.NoMultiple = 3
list_number_of list.EarlyStart = 4
list_number_of list.HighEnd = 5
list_number_of list.SmallBuffer = 6
list_number_of list.UnequalPicks = 7
list_number_of list.FewTags = 8

abbrev pub of_result : {A : Type 0} → Result A declared.Refusal → Outcome A
of_result (Ok a) = good a
of_result (Err r) = bad (refusal (number_of r.reason) r.position)

abbrev pub of_list_result : {A : Type 0} → Result A ListRefusal → Outcome A
of_list_result (Ok a) = good a
of_list_result (Err r) = bad (refusal (list_number_of r.reason) r.position)

-- a global that was read with the cursor after it, or none at the table's end
abbrev pub read_of : Option (Global × Cursor) → Read
read_of None = finished
read_of (Some p) = global p.0 p.1

abbrev pub of_step : Result (Option (Global × Cursor)) declared.Refusal → Outcome Read
of_step r = mapped read_of (of_result r)

-- how many globals there are
abbrev pub count_of : Outcome (List Global) → Outcome ℕ
count_of o = mapped length o

-- an address that check 13 does not refuse
abbrev pub in_range : ℤ → Option ℕ
in_range z = cond (out_of_range z) None (Some (natural z))
