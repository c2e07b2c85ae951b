-- Items in which nothing is wrong: what the few tests tell.
-- Assumes nothing.
use Rattle.std.specs.Prelude.{Some}
use Rattle.std.proofs.Common.{◌≡◌, ℕ, ◌+◌, ◌-◌, ◌*◌, ◌/◌, ◌%◌, ◌<◌, ◌≤◌, true, false, ◌&&◌, ◌||◌, eqb, List, length, get_or, sym}
use Rattle.std.proofs.Common.{◌∙◌, arith, eq-eqb, ne_eqb, le-leb}
use borrow.Author.Tests.{lt-leb}
use Rattle.rules.specs.Outcome.{good}
use Rattle.rules.specs.Limits.{memory_limit}
use Rattle.rules.specs.Bytes.{le}
use Rattle.rules.specs.Segments.{loads_check, covers}
use Rattle.rules.specs.Relocations.{abs64, glob_dat, relative, entry_at, kind_at, symbol_at, live, place_fits}
use Rattle.rules.specs.Relocations.{symbol_backing, symbol_of, target_of, named_target, target, target_at, barred}
use Rattle.rules.specs.Addresses.{address_of, out_of_range, bad_address}
use Rattle.rules.specs.declared.Headers.{Headers}
use Rattle.rules.specs.declared.Module.{Module}
use Rattle.rules.specs.declared.Target.{Target}
use Rattle.rules.specs.declared.Target.TheVariants.{Base, Defined}
use Rattle.rules.proofs.OutcomeLaws.{true_false, false_true, and_left, and_right}
use Rattle.laws.proofs.Items.{entry-live, entry_place, entry_addend, entry-target}
use Rattle.laws.proofs.Loaded.{loaded-backed}
use Rattle.laws.proofs.Loads.{covers_within, within_covers}
use Rattle.segments.specs.Spans.{Sound}
use Rattle.segments.specs.declared.Span.{Span}
use Rattle.segments.proofs.SpanLaws.{covers_some}
use Rattle.parts.specs.Parts.{Parted}
use Rattle.parts.specs.declared.Part.{Part}
use Rattle.clear.specs.Clear.{Nears, Aims, Clear, ClearPlace}

-- ---- symbols

module _ (f : List ℕ) (m : Module) where
  -- none is near
  pub nears_none : Nears f m (record { at = 0; count = 0 })
  nears_none = record { inside = omega arith; backed = λ n l. absurd (omega arith) }

  -- those of the file part that has the first one
  module _ (table : ℕ) (s : Part) (p : Parted f m.headers false s) (c : covers s.start s.size table 24 ≡ true) where
    part-backed : (n : ℕ) → n < (s.size - (table - s.start)) / 24
        → symbol_backing f m.headers n (Some table) ≡ Some (s.at + (table - s.start) + 24 * n)
    unfolding symbol_backing
    part-backed n l =
        let w = covers_within s.start s.size table 24 c in
        let low = p.low in
        let here = within_covers s.start s.size (table + 24 * n) 24 (omega arith) (omega arith) in
        let q : s.at + (table + 24 * n - s.start) ≡ s.at + (table - s.start) + 24 * n = omega arith in
        rw (le-leb (table + 24 * n) memory_limit (omega arith), p.backed (table + 24 * n) 24 (omega arith) here, q)

    pub nears_part : m.symbols ≡ Some table
        → Nears f m (record { at = s.at + (table - s.start); count = (s.size - (table - s.start)) / 24 })
    nears_part e =
        let w = covers_within s.start s.size table 24 c in
        let inside = p.inside in
        record { inside = omega arith; backed = λ n l. rw e (part-backed n l) }

-- ---- targets

-- a defined symbol that is allowed
pub defined_target : (f : List ℕ) (at info section value : ℕ) → info ≡ get_or f (at + 4) 0 → section ≡ le 2 f (at + 6) → value ≡ le 8 f (at + 8)
    → (info % 16 ≡ 6 → ⊥) → (info % 16 ≡ 10 → ⊥) → (section ≡ 0 → ⊥) → section < 0xff00 → target_of (symbol_of f at) ≡ Defined value
unfolding target_of symbol_of
defined_target f at info section value a b e t u z l =
    rw (← a, ← b, ← e, ne_eqb (info % 16) 6 t, ne_eqb (info % 16) 10 u, lt-leb 0xff00 section l, ne_eqb section 0 z)

module _ (f : List ℕ) (m : Module) (kind symbol : ℕ) where
  pub relative-target : kind ≡ relative → symbol ≡ 0 → target f m.headers m.symbols kind symbol ≡ Base
  unfolding target
  relative-target e z = rw (eq-eqb kind relative e, eq-eqb symbol 0 z)

  pub symbolic_target : (at : ℕ) → (eqb kind abs64 || eqb kind glob_dat) ≡ true → (symbol ≡ 0 → ⊥)
      → symbol_backing f m.headers symbol m.symbols ≡ Some at → target f m.headers m.symbols kind symbol ≡ target_of (symbol_of f at)
  unfolding target named_target
  symbolic_target at e z b =
      let r : kind ≡ relative → ⊥ = λ k. false_true (rw k at e) in
      rw (ne_eqb kind relative r, e, ne_eqb symbol 0 z, b)

-- kind 0 has no target that is allowed
target_some : (f : List ℕ) (m : Module) (kind symbol : ℕ) → barred (target f m.headers m.symbols kind symbol) ≡ false → kind ≡ 0 → ⊥
unfolding target
target_some f m kind symbol e z = true_false (rw z at e)

-- ---- places

module _ (f : List ℕ) (h : Headers) (place : ℕ) where
  pub fits_span : (s : Span) → Sound f h true s → (eqb (place % 8) 0 && covers s.start s.size place 8) ≡ true
      → place_fits f h place ≡ true
  unfolding place_fits
  fits_span s sound e =
      let c = and_right (eqb (place % 8) 0) _ e in
      rw (and_left (eqb (place % 8) 0) _ e) (sound.within (covers_some s.start s.size place 8 (omega arith) c) place 8 c)

  module _ (s : Part) (p : Parted f h true s) (e : (eqb (place % 8) 0 && covers s.start s.size place 8) ≡ true) where
    fits_part : place_fits f h place ≡ true
    unfolding place_fits
    fits_part =
        rw (and_left (eqb (place % 8) 0) _ e) (p.held place 8 (omega arith) (and_right (eqb (place % 8) 0) _ e))

    -- the loaded bytes are inside the file
    pub part_inside : (s.start ≤ place) × (s.at + (place - s.start) + 8 ≤ length f)
    part_inside =
        let w = covers_within s.start s.size place 8 (and_right (eqb (place % 8) 0) _ e) in
        let inside = p.inside in
        (w.0, omega arith)

    pub place_clear : (bias loaded : ℕ) → loads_check f h ≡ good tt → loaded ≡ le 8 f (s.at + (place - s.start))
        → out_of_range (address_of bias (Defined loaded) 0) ≡ false → ClearPlace f h bias place
    place_clear bias loaded passed q o =
        let b = p.backed place 8 (omega arith) (and_right (eqb (place % 8) 0) _ e) in
        let same = loaded-backed f h passed place _ b ∙ sym q in
        record { fits = fits_part; within = rw same o }

-- ---- an entry, by the fields that were read

module _ (f : List ℕ) (m : Module) (bias i : ℕ) (l : i < m.relocations.entries) where
  pub entry_clear : (place kind symbol addend : ℕ)
      → place ≡ le 8 f (entry_at m.relocations i) → kind ≡ kind_at f m i → symbol ≡ symbol_at f m i
      → addend ≡ le 8 f (entry_at m.relocations i + 16) → place_fits f m.headers place ≡ true
      → (t : Target) → (barred t ≡ false → target f m.headers m.symbols kind symbol ≡ t) → Aims bias t addend → Clear f m bias i
  unfolding bad_address
  entry_clear place kind symbol addend p k y a fit t told aims =
      let is = told aims.allowed in
      let some = target_some f m kind symbol (rw is aims.allowed) in
      let kept : live f m i ≡ true = rw (entry-live f m i l, ← k, ne_eqb kind 0 some) in
      let aim : Aims bias (target_at f m i) addend = rw (entry-target f m i l, ← k, ← y, is) aims in
      record {
        kept = kept;
        allowed = aim.allowed;
        fits = rw (entry_place f m i l, ← p) fit;
        within = rw (kept, entry_addend f m i l, ← a) aim.within;
      }
