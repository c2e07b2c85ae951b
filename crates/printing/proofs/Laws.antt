-- The walk over the globals of a module that was read.
-- Assumes nothing.
use Prim.Native.Nat.{ℕ, ◌+◌, ◌≤◌, ◌<◌}
use native.Mathlib.Omega.{arith}
use mathlib.Core.Path.{◌≡◌, sym, ◌∙◌}
use Rattle.std.specs.Prelude.{Option, Some, None, Result, Ok, Err}
use mathlib.Core.List.{List}
use lib.ListN.{length}
use Rattle.rules.specs.Outcome.{good}
use Rattle.rules.specs.Limits.{global_limit}
use Rattle.rules.specs.Descriptors.{global, step_at, table_start, descriptor_table}
use Rattle.rules.specs.Reader.{module_of}
use Rattle.rules.specs.Choices.{globals_in, global_at}
use Rattle.rules.specs.Answers.{of_step}
use Rattle.rules.specs.declared.Headers.{Headers}
use Rattle.rules.specs.declared.Module.{Module}
use Rattle.rules.specs.declared.Global.{Global}
use Rattle.rules.specs.declared.Cursor.{Cursor}
use Rattle.rules.specs.declared.Refusal as declared
use Rattle.laws.proofs.Globals.{Walk, walk_start, walk_step, walk_global, globals_count}
use Rattle.demands.proofs.Reading.{module_reads}

-- it begins at the table's start, and there are as many globals as were counted
pub module_walk : (f : List ℕ) (m : Module) (s : List ℕ) → module_of f ≡ good m → s ≡ descriptor_table f m.descriptors
    → Walk f m.headers s (globals_in f m) 0 table_start × (length (globals_in f m) ≡ m.globals)
module_walk f m s e d =
    let r = module_reads f m e in
    (rw d (walk_start f m.headers m.descriptors (globals_in f m) r.globals), sym r.count)

pub module_few : (f : List ℕ) (m : Module) → module_of f ≡ good m → m.globals ≤ global_limit
module_few f m e =
    let r = module_reads f m e in
    let n = r.count in
    let l = globals_count f m.headers m.descriptors (globals_in f m) r.loads r.globals in
    omega arith

-- a step that reads a global answers one
is_global : (st : Result (Option (Global × Cursor)) declared.Refusal) (g : Global) (next : Cursor)
    → of_step st ≡ good (global g next) → st ≡ Ok (Some (g, next))
is_global (Ok None) g next e = absurd (let z : ◌≡◌ {A = ℕ} 0 1 = cc in omega arith)
is_global (Ok (Some p)) g next e = let a : p.0 ≡ g = cc in let b : p.1 ≡ next = cc in rw (a, b)
is_global (Err r) g next e = absurd (let z : ◌≡◌ {A = ℕ} 0 1 = cc in omega arith)

-- below the number of globals each step reads one
pub walk_reads : {f : List ℕ} {h : Headers} {s : List ℕ} {gs : List Global} {i : ℕ} {c : Cursor} {st : Result (Option (Global × Cursor)) declared.Refusal}
    → Walk f h s gs i c → i < length gs → of_step st ≡ step_at i s c → (next : Cursor) × (st ≡ Ok (Some (global_at gs i, next)))
walk_reads {f} {h} {s} {gs} {i} {c} {st} w l e =
    let t = walk_step f h s gs i c w l in
    (t.next, is_global st (global_at gs i) t.next (e ∙ t.here))

-- a step reads the global of the index, and the walk goes on after it
pub walk_read : {f : List ℕ} {h : Headers} {s : List ℕ} {gs : List Global} {i : ℕ} {c : Cursor} {st : Result (Option (Global × Cursor)) declared.Refusal}
    {g : Global} {next : Cursor}
    → Walk f h s gs i c → i < length gs → of_step st ≡ step_at i s c → st ≡ Ok (Some (g, next)) → (g ≡ global_at gs i) × Walk f h s gs (i + 1) next
walk_read w l e q = walk_global _ _ _ _ _ _ _ _ w l (sym e ∙ rw q)
