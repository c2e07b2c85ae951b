-- Globals that pass checks 8, 16 and 9 are whole granules in rising order, inside the PT_LOADs.
-- Assumes nothing.
use Prim.Native.Nat.{ℕ, zero, suc, ◌+◌, ◌*◌, ◌-◌, ◌%◌, ◌≤◌, ◌<◌}
use mathlib.Core.Path.{◌≡◌, refl, sym, ap, ◌∙◌, subst}
use mathlib.Core.Bool.{Bool, true, false, cond}
use mathlib.Core.List.{List, [], ◌∷◌}
use mathlib.Core.Logic.{⊎_elim}
use native.Mathlib.Numerals.{add-one, sub-one}
use native.Mathlib.Omega.{arith}
use lib.ListN.{length, drop}
use lib.Seq.{drop-cons}
use lib.Dec.{ltb}
use Rattle.rules.specs.Outcome.{Outcome, good, bad, and_then, refusal}
use Rattle.rules.specs.Limits.{granule, global_limit, address_limit}
use Rattle.rules.specs.Segments.{loads_check, loads_end, in_memory}
use Rattle.rules.specs.Descriptors.{Read, finished, global, step_at, on_global, globals_from, globals_of, descriptor_table, table_start}
use Rattle.rules.specs.Choices.{end_of, global_at}
use Rattle.rules.specs.declared.Headers.{Headers}
use Rattle.rules.specs.declared.Descriptors.{Descriptors}
use Rattle.rules.specs.declared.Global.{Global}
use Rattle.rules.specs.declared.Cursor.{Cursor}
use Rattle.rules.proofs.OutcomeLaws.{bad_good, and_then_good, cond_held}
use Rattle.laws.proofs.Checks.{good_same}
use Rattle.laws.proofs.Loads.{in_memory_holds}
use Rattle.laws.proofs.Steps.{Worded, step_kept}

-- a global that follows an end, with the cursor after it
pub record Follows (end : ℕ) (g : Global) (c : Cursor) : Type 0 where
  pub starts : end ≤ g.start
  pub aligned : g.start % 16 ≡ end % 16
  pub filled : 1 ≤ g.granules
  pub ends : c.end ≡ end_of g
  pub limited : end_of g ≤ address_limit

-- of what a step found
abbrev pub Next : ℕ → Read → Type 0
Next end finished = Unit
Next end (global g c) = Follows end g c

pub step_next : (index : ℕ) (s : List ℕ) (c : Cursor) (r : Read) → step_at index s c ≡ good r → (c.end % 16 ≡ 0) × Next c.end r
step_next index s c r h =
    let k = step_kept index s c r h in (
      k.whole,
      ⊎_elim
          (λ e. subst (λ (r : Read). Next c.end r) e.1 tt)
          (λ (w : Worded index s c.position c.end r). subst (λ (r : Read). Next c.end r) w.found (record {
            starts = omega arith;
            aligned = omega arith;
            filled = w.filled;
            ends = refl;
            limited = w.low;
          }))
          k.either,
    )

-- globals one after the other from an end on, all of them by a limit
pub record Linked (Rest : Type 0) (limit end : ℕ) (g : Global) : Type 0 where
  pub starts : end ≤ g.start
  pub aligned : g.start % 16 ≡ 0
  pub filled : 1 ≤ g.granules
  pub inside : end_of g ≤ limit
  pub rest : Rest

abbrev pub Chain : ℕ → ℕ → List Global → Type 0
Chain limit end [] = Unit
Chain limit end (g ∷ gs) = Linked (Chain limit (end_of g) gs) limit end g

module _ (f : List ℕ) (h : Headers) (s : List ℕ) (passed : loads_check f h ≡ good tt) where
  pub globals_from_lem : (n i : ℕ) (c : Cursor) (gs : List Global) → globals_from f h s n i c ≡ good gs
      → Chain (loads_end f h) c.end gs × (length gs ≤ n)
  unfolding globals_from
  globals_from_lem zero i c gs e = go (ltb c.position (length s)) e
    where
      go : (b : Bool) → cond b (bad (refusal 9 i)) (good []) ≡ good gs → Chain (loads_end f h) c.end gs × (length gs ≤ 0)
      go true q = bad_good q
      go false q = good_same (λ gs. Chain (loads_end f h) c.end gs × (length gs ≤ 0)) [] gs q (tt, omega arith)
  globals_from_lem (suc n) i c gs e =
      let a = and_then_good (step_at i s c) _ e in
      let st = step_next i s c a.value a.here in
      go a.value st.0 st.1 a.rest (globals_from_lem n (i + 1))
    where
      P : List Global → Type 0
      P gs = Chain (loads_end f h) c.end gs × (length gs ≤ suc n)

      go : (r : Read) → c.end % 16 ≡ 0 → Next c.end r
          → on_global r (λ g next. cond (in_memory f h false g.start (granule * g.granules))
          (and_then (globals_from f h s n (i + 1) next) (λ gs. good (g ∷ gs))) (bad (refusal 9 i))) ≡ good gs
          → ((next : Cursor) (gs : List Global) → globals_from f h s n (i + 1) next ≡ good gs → Chain (loads_end f h) next.end gs × (length gs ≤ n))
          → P gs
      go finished z x q again = good_same P [] gs q (tt, omega arith)
      go (global g next) z x q again =
          let t = cond_held _ (in_memory f h false g.start (granule * g.granules)) _ q in
          let u = and_then_good (globals_from f h s n (i + 1) next) _ t.1 in
          let v = again next u.value u.here in
          let w = in_memory_holds f h passed false g.start (granule * g.granules) t.0 in
          good_same P (g ∷ u.value) gs u.rest (
            record {
              starts = x.starts;
              aligned = omega arith;
              filled = x.filled;
              inside = w;
              rest = subst (λ (z : ℕ). Chain (loads_end f h) z u.value) x.ends v.0;
            },
            omega arith,
          )

-- ---- of any two globals in a chain

-- a global of a chain
pub record Placed (limit end : ℕ) (g : Global) : Type 0 where
  pub starts : end ≤ g.start
  pub aligned : g.start % 16 ≡ 0
  pub filled : 1 ≤ g.granules
  pub inside : end_of g ≤ limit

pub chain_at : (limit end : ℕ) (gs : List Global) → Chain limit end gs → (j : ℕ) → j < length gs → Placed limit end (global_at gs j)
chain_at limit end [] c j l = absurd (omega arith)
chain_at limit end (g ∷ gs) c zero l = record { starts = c.starts; aligned = c.aligned; filled = c.filled; inside = c.inside }
chain_at limit end (g ∷ gs) c (suc j) l =
    let p = chain_at limit (end_of g) gs c.rest j (omega arith) in
    let s = c.starts in
    record { starts = omega arith; aligned = p.aligned; filled = p.filled; inside = p.inside }

pub chain_rise : (limit end : ℕ) (gs : List Global) → Chain limit end gs → (i j : ℕ) → i < j → j < length gs
    → end_of (global_at gs i) ≤ (global_at gs j).start
chain_rise limit end [] c i j h l = absurd (omega arith)
chain_rise limit end (g ∷ gs) c i zero h l = absurd (omega arith)
chain_rise limit end (g ∷ gs) c zero (suc j) h l = (chain_at limit (end_of g) gs c.rest j (omega arith)).starts
chain_rise limit end (g ∷ gs) c (suc i) (suc j) h l = chain_rise limit (end_of g) gs c.rest i j (omega arith) (omega arith)

-- what the globals of a module are: in rising order, whole granules, by a limit
pub record Rising (gs : List Global) (limit : ℕ) : Type 0 where
  pub each : (j : ℕ) → j < length gs → Placed limit 0 (global_at gs j)
  pub rise : (i j : ℕ) → i < j → j < length gs → end_of (global_at gs i) ≤ (global_at gs j).start

pub globals_rising : (f : List ℕ) (h : Headers) (t : Descriptors) (gs : List Global) → loads_check f h ≡ good tt → globals_of f h t ≡ good gs
    → Rising gs (loads_end f h)
unfolding globals_of
globals_rising f h t gs passed e =
    let c = globals_from_lem f h (descriptor_table f t) passed global_limit 0 table_start gs e in
    record { each = chain_at (loads_end f h) 0 gs c.0; rise = chain_rise (loads_end f h) 0 gs c.0 }

pub globals_count : (f : List ℕ) (h : Headers) (t : Descriptors) (gs : List Global) → loads_check f h ≡ good tt → globals_of f h t ≡ good gs
    → length gs ≤ global_limit
unfolding globals_of
globals_count f h t gs passed e = (globals_from_lem f h (descriptor_table f t) passed global_limit 0 table_start gs e).1

-- ---- the walk again, once its globals are known

-- one turn: the global read at a cursor, and the walk from the cursor after it
pub record Turn (f : List ℕ) (h : Headers) (s : List ℕ) (n i : ℕ) (c : Cursor) (g : Global) (gs : List Global) : Type 0 where
  pub next : Cursor
  pub here : step_at i s c ≡ good (global g next)
  pub after : globals_from f h s (n - 1) (i + 1) next ≡ good gs

pub globals_turn : (f : List ℕ) (h : Headers) (s : List ℕ) (n i : ℕ) (c : Cursor) (g : Global) (gs : List Global)
    → globals_from f h s n i c ≡ good (g ∷ gs) → Turn f h s n i c g gs
unfolding globals_from
globals_turn f h s zero i c g gs e = go (ltb c.position (length s)) e
  where
    go : (b : Bool) → cond b (bad (refusal 9 i)) (good []) ≡ good (g ∷ gs) → Turn f h s zero i c g gs
    go true q = bad_good q
    go false q = absurd (let z : ◌≡◌ {A = ℕ} 0 1 = cc in omega arith)
globals_turn f h s (suc n) i c g gs e =
    let a = and_then_good (step_at i s c) _ e in
    go a.value a.here a.rest
  where
    go : (r : Read) → step_at i s c ≡ good r
        → on_global r (λ g next. cond (in_memory f h false g.start (granule * g.granules))
        (and_then (globals_from f h s n (i + 1) next) (λ gs. good (g ∷ gs))) (bad (refusal 9 i))) ≡ good (g ∷ gs)
        → Turn f h s (suc n) i c g gs
    go finished x q = absurd (let z : ◌≡◌ {A = ℕ} 0 1 = cc in omega arith)
    go (global g₁ next) x q =
        let t = cond_held _ (in_memory f h false g₁.start (granule * g₁.granules)) _ q in
        let u = and_then_good (globals_from f h s n (i + 1) next) _ t.1 in
        let r = u.rest in
        let e₁ : g₁ ≡ g = cc in
        let e₂ : u.value ≡ gs = cc in
        record {
          next = next;
          here = x ∙ ap (λ (z : Global). good (global z next)) e₁;
          after = rw sub-one (u.here ∙ ap (λ (z : List Global). good z) e₂);
        }

-- the walk at the index i: the globals from i on are left to read, and the cursor holds the end of the one before
pub record Walk (f : List ℕ) (h : Headers) (s : List ℕ) (gs : List Global) (i : ℕ) (c : Cursor) : Type 0 where
  pub rest : globals_from f h s (global_limit - i) i c ≡ good (drop i gs)
  pub last : 0 < i → c.end ≡ end_of (global_at gs (i - 1))

-- what one step finds there
pub record Stepped (f : List ℕ) (h : Headers) (s : List ℕ) (gs : List Global) (i : ℕ) (c : Cursor) : Type 0 where
  pub next : Cursor
  pub here : step_at i s c ≡ good (global (global_at gs i) next)
  pub walk : Walk f h s gs (i + 1) next

pub walk_start : (f : List ℕ) (h : Headers) (t : Descriptors) (gs : List Global) → globals_of f h t ≡ good gs
    → Walk f h (descriptor_table f t) gs 0 table_start
unfolding globals_of
walk_start f h t gs e = record { rest = e; last = λ z. absurd (omega arith) }

pub walk_step : (f : List ℕ) (h : Headers) (s : List ℕ) (gs : List Global) (i : ℕ) (c : Cursor) → Walk f h s gs i c → i < length gs
    → Stepped f h s gs i c
walk_step f h s gs i c w l =
    let d : drop i gs ≡ global_at gs i ∷ drop (i + 1) gs = rw add-one (drop-cons gs i (record { start = 0; granules = 0 }) l) in
    let t = globals_turn f h s (global_limit - i) i c (global_at gs i) (drop (i + 1) gs) (w.rest ∙ ap (λ (z : List Global). good z) d) in
    let n : global_limit - (i + 1) ≡ global_limit - i - 1 = omega arith in
    let k : i + 1 - 1 ≡ i = omega arith in
    let x = (step_next i s c (global (global_at gs i) t.next) t.here).1 in
    record {
      next = t.next;
      here = t.here;
      walk = record { rest = rw n t.after; last = λ z. rw k x.ends };
    }

-- a step that read a global read the one of the index
pub walk_global : (f : List ℕ) (h : Headers) (s : List ℕ) (gs : List Global) (i : ℕ) (c : Cursor) (g : Global) (next : Cursor)
    → Walk f h s gs i c → i < length gs → step_at i s c ≡ good (global g next) → (g ≡ global_at gs i) × Walk f h s gs (i + 1) next
walk_global f h s gs i c g next w l e =
    let t = walk_step f h s gs i c w l in
    let r : ◌≡◌ {A = Outcome Read} (good (global (global_at gs i) t.next)) (good (global g next)) = sym t.here ∙ e in
    let e₁ : g ≡ global_at gs i = cc in
    let e₂ : t.next ≡ next = cc in
    (e₁, subst (λ (z : Cursor). Walk f h s gs (i + 1) z) e₂ t.walk)
