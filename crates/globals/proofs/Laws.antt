-- The count of globals, one descriptor at a time.
-- Assumes nothing.
use Prim.Native.Nat.{ℕ, suc, ◌+◌, ◌*◌, ◌-◌, ◌≤◌, ◌<◌}
use mathlib.Core.Path.{◌≡◌, refl, sym, ap, ◌∙◌}
use mathlib.Core.Bool.{true, false}
use mathlib.Core.List.{List, ◌∷◌}
use native.Mathlib.Omega.{arith}
use lib.ListN.{length}
use borrow.Author.Tests.{lt-ltb, le-ltb}
use Rattle.rules.specs.Outcome.{Outcome, good, bad, refuse, and_then}
use Rattle.rules.specs.Limits.{granule, global_limit, address_limit}
use Rattle.rules.specs.Segments.{in_memory}
use Rattle.rules.specs.Descriptors.{Read, finished, global, step_at, reading_of, on_global, globals_from, table_start}
use Rattle.rules.specs.Answers.{count_of}
use Rattle.rules.specs.declared.Headers.{Headers}
use Rattle.rules.specs.declared.Global.{Global}
use Rattle.rules.specs.declared.Cursor.{Cursor}
use Rattle.std.specs.Prelude.{Some, None}
use Rattle.laws.proofs.Globals.{step_next}
use Rattle.segments.specs.Spans.{Sound}
use Rattle.segments.specs.declared.Span.{Span}
use Rattle.segments.proofs.SpanLaws.{sound_none}
use Rattle.descriptors.proofs.Laws.{reading_global, reading_none}

-- so many more
abbrev pub plus : ℕ → Outcome ℕ → Outcome ℕ
plus i (good n) = good (i + n)
plus i (bad r) = bad r

plus_zero : (o : Outcome ℕ) → plus 0 o ≡ o
plus_zero (good n) = ap good (omega arith)
plus_zero (bad r) = refl

plus_plus : (i : ℕ) (o : Outcome ℕ) → plus i (plus 1 o) ≡ plus (i + 1) o
plus_plus i (good n) = ap good (omega arith)
plus_plus i (bad r) = refl

plus_good : (i : ℕ) → plus i (good 0) ≡ good i
plus_good i = ap good (omega arith)

-- the walk at the index i: so many globals are counted, and the PT_LOAD found last is one
pub record Walking (f : List ℕ) (h : Headers) (s : List ℕ) (c : Cursor) (holder : Span) (i : ℕ) : Type 0 where
  pub most : i ≤ global_limit
  pub counted : count_of (globals_from f h s global_limit 0 table_start) ≡ plus i (count_of (globals_from f h s (global_limit - i) i c))
  pub sound : Sound f h false holder

module _ (f : List ℕ) (h : Headers) (s : List ℕ) where
  pub walking_start : (holder : Span) → holder.size ≡ 0 → Walking f h s table_start holder 0
  walking_start holder e = record { most = omega arith; counted = sym (plus_zero _); sound = sound_none f h false holder e }

  -- one turn, by what was read
  module _ (c : Cursor) (holder : Span) (i : ℕ) (walking : Walking f h s c holder i) where
    module _ (g : Global) (next : Cursor) (e : reading_of (step_at i s c) ≡ Some (g, next)) where
      -- a global has bytes, and they fit
      pub read_filled : 0 < g.granules
      read_filled = (step_next i s c (global g next) (reading_global (step_at i s c) g next e)).1.filled

      pub read_fits : granule * g.granules ≤ address_limit
      read_fits =
          let n = (step_next i s c (global g next) (reading_global (step_at i s c) g next e)).1 in
          omega (arith, n.limited)

      -- it lies outside the PT_LOADs
      pub walking_outside : i < global_limit → in_memory f h false g.start (granule * g.granules) ≡ false
          → count_of (globals_from f h s global_limit 0 table_start) ≡ refuse 9 i
      unfolding globals_from
      walking_outside below out =
          let m : global_limit - i ≡ suc (global_limit - (i + 1)) = omega arith in
          walking.counted ∙ rw (m, reading_global (step_at i s c) g next e, out)

      -- or inside one
      pub walking_next : (span : Span) → i < global_limit → Sound f h false span
          → in_memory f h false g.start (granule * g.granules) ≡ true → Walking f h s next span (i + 1)
      unfolding globals_from
      walking_next span below sound in_one =
          let m : global_limit - i ≡ suc (global_limit - (i + 1)) = omega arith in
          let rest = globals_from f h s (global_limit - (i + 1)) (i + 1) next in
          let after = ap (plus i) (one_more rest) ∙ plus_plus i (count_of rest) in
          record {
            most = omega arith;
            counted = walking.counted ∙ rw (m, reading_global (step_at i s c) g next e, in_one) after;
            sound = sound;
          }
        where
          one_more : (o : Outcome (List Global)) → count_of (and_then o (λ gs. good (g ∷ gs))) ≡ plus 1 (count_of o)
          one_more (good gs) = ap good (omega arith)
          one_more (bad q) = refl

    -- no global was read: the table's end, or a refusal
    pub walking_finish : i < global_limit → reading_of (step_at i s c) ≡ None
        → count_of (globals_from f h s global_limit 0 table_start) ≡ and_then (step_at i s c) (λ _. good i)
    unfolding globals_from
    walking_finish below z =
        let m : global_limit - i ≡ suc (global_limit - (i + 1)) = omega arith in
        walking.counted ∙ rw m (go _ (step_at i s c) (reading_none (step_at i s c) z))
      where
        go : (k : Global → Cursor → Outcome (List Global)) (o : Outcome Read) → ((g : Global) (next : Cursor) → o ≡ good (global g next) → ⊥)
            → plus i (count_of (and_then o (λ r. on_global r k))) ≡ and_then o (λ _. good i)
        go k (good finished) none = plus_good i
        go k (good (global g next)) none = absurd (none g next refl)
        go k (bad q) none = refl

  -- as many globals as are allowed were read, and bytes are left
  pub walking_left : (c : Cursor) (holder : Span) (i : ℕ) → Walking f h s c holder i → global_limit ≤ i → c.position < length s
      → count_of (globals_from f h s global_limit 0 table_start) ≡ refuse 9 global_limit
  unfolding globals_from
  walking_left c holder i walking l b =
      let e : i ≡ global_limit = omega (arith, walking.most) in
      let m : global_limit - i ≡ 0 = omega arith in
      walking.counted ∙ rw (m, lt-ltb c.position (length s) b, e)

  -- or none
  pub walking_whole : (c : Cursor) (holder : Span) (i : ℕ) → Walking f h s c holder i → global_limit ≤ i → length s ≤ c.position
      → count_of (globals_from f h s global_limit 0 table_start) ≡ good global_limit
  unfolding globals_from
  walking_whole c holder i walking l b =
      let e : i ≡ global_limit = omega (arith, walking.most) in
      let m : global_limit - i ≡ 0 = omega arith in
      walking.counted ∙ rw (m, le-ltb c.position (length s) b) (plus_good i ∙ ap good e)
