-- The header, PT_LOADs and what they hold: each test of the rules is document 01's sentence.
-- Assumes nothing.
use Rattle.std.specs.Prelude.{Some, None}
use Prim.Native.Nat.{ℕ, zero, suc, ◌+◌, ◌*◌, ◌-◌, ◌/◌, ◌%◌, ◌^◌, ◌≤◌, ◌<◌}
use mathlib.Core.Path.{◌≡◌, refl, sym, ap, ◌∙◌}
use mathlib.Core.Bool.{Bool, true, false, cond, not, ◌&&◌, ◌||◌, or-true}
use mathlib.Core.List.{List}
use mathlib.Core.Logic.{◌⊎◌, inl, inr, ⊎_elim, ◌↔◌}
use native.Mathlib.Nat.{eq-or-lt_of_le, le_of_suc-le-suc, pow-le-pow_right}
use native.Mathlib.Omega.{arith}
use lib.ListN.{length, get_or}
use lib.Dec.{ltb, leb, eqb}
use borrow.Author.Tests.{leb-true, le-leb, ltb-true, lt-ltb, eqb-true, eqb-false, eq-eqb, ne_eqb, not-true, not-false}
use Rattle.rules.specs.Outcome.{good}
use Rattle.rules.specs.Limits.{header_limit, memory_limit}
use Rattle.rules.specs.First.{first}
use Rattle.rules.specs.Bytes.{le}
use Rattle.rules.specs.Headers.{identification, wrong_byte, good_header, header_check, the_headers, headers_of}
use Rattle.rules.specs.Segments.{header_at, power_below, aligned, good_load, end_before, bad_load, loads_check}
use Rattle.rules.specs.Segments.{backs_at, backer, backing_of, holds, holds_at, in_memory}
use Rattle.rules.specs.Tables.{table_backing}
use Rattle.rules.specs.declared.Headers.{Headers}
use Rattle.rules.proofs.FirstLaws.{first-le, first_true, first_below, at_some}
use Rattle.rules.proofs.OutcomeLaws.{true_false, false_true, and_left, and_right, require_held}
use Rattle.laws.proofs.Checks.{and_false, le_or_lt, some_at}
use Rattle.laws.proofs.Loads.{covers_within, within_covers, load_good, loads_apart}
use Rattle.laws.proofs.Aligns.{Power, aligned_power, aligned_agree}
use Rattle.demands.proofs.Fields.{le_below}
use Rattle.demands.proofs.Guards.{idle}
use Rattle.demands.specs.Writer.{Bytes}
use Rattle.demands.specs.Fields.{type_at, flags_at, offset_at, vaddr_at, filesz_at, memsz_at, align_at, header_count}
use Rattle.demands.specs.Parts.{GoodHeader, IsLoad, LoadBefore, GoodAlign, zero_align, one_align, power_align, GoodLoad, Backed}
use Rattle.demands.specs.Parts.{TableAt, empty, backed, InMemory, Writable}
use Rattle.demands.specs.Sentences.{Means, Clears, Admits, first_seven}

-- ---- checks 2 and 3

pub identified : (f : List ℕ) (i : ℕ) → Clears (wrong_byte f i) (get_or f i 0 ≡ get_or first_seven i 0)
unfolding wrong_byte
identified f i = (
  λ e. eqb-true (get_or f i 0) (get_or identification i 0) (not-false _ e),
  λ q. rw (eq-eqb (get_or f i 0) (get_or identification i 0) q),
)

header_good : (f : List ℕ) → header_check f ≡ good tt → GoodHeader f
unfolding header_check good_header
header_good f e =
    let t = require_held _ 3 0 e in
    let a = and_right (eqb (le 2 f 16) 3) _ t in
    let b = and_right (eqb (le 2 f 18) 183) _ a in
    let c = and_right (eqb (le 4 f 20) 1) _ b in
    let d = and_right (eqb (le 2 f 54) 56) _ c in
    let n = and_left (leb 1 (le 2 f 56) && leb (le 2 f 56) header_limit) _ d in
    record {
      shared_object = eqb-true _ _ (and_left (eqb (le 2 f 16) 3) _ t);
      machine = eqb-true _ _ (and_left (eqb (le 2 f 18) 183) _ a);
      version = eqb-true _ _ (and_left (eqb (le 4 f 20) 1) _ b);
      header_size = eqb-true _ _ (and_left (eqb (le 2 f 54) 56) _ c);
      count_least = leb-true _ _ (and_left (leb 1 (le 2 f 56)) _ n);
      count_most = leb-true _ _ (and_right (leb 1 (le 2 f 56)) _ n);
      table_inside = leb-true _ _ (and_right (leb 1 (le 2 f 56) && leb (le 2 f 56) header_limit) _ d);
    }

good_header_lem : (f : List ℕ) → GoodHeader f → header_check f ≡ good tt
unfolding header_check good_header
good_header_lem f g =
    rw (
      eq-eqb (le 2 f 16) 3 g.shared_object,
      eq-eqb (le 2 f 18) 183 g.machine,
      eq-eqb (le 4 f 20) 1 g.version,
      eq-eqb (le 2 f 54) 56 g.header_size,
      le-leb 1 (le 2 f 56) g.count_least,
      le-leb (le 2 f 56) header_limit g.count_most,
      le-leb (le 8 f 32 + 56 * le 2 f 56) (length f) g.table_inside,
    )

pub header : (f : List ℕ) → Admits (header_check f) (GoodHeader f)
header f = (header_good f, good_header_lem f)

-- ---- check 4

-- a power of two of 64 bits is told
power_told : (n k : ℕ) → k < n → power_below n (2 ^ k) ≡ true
unfolding power_below
power_told zero k l = absurd (omega arith)
power_told (suc n) k l =
    ⊎_elim
    (λ (e : k ≡ n). rw (eq-eqb (2 ^ k) (2 ^ n) (ap (λ (x : ℕ). 2 ^ x) e)))
    (λ (e : k < n). rw (power_told n k e, or-true))
    (eq-or-lt_of_le (le_of_suc-le-suc l))

power_small : (k : ℕ) → 2 ^ k < 2 ^ 64 → k < 64
power_small k l =
    ⊎_elim
    (λ (e : 64 ≤ k). let p : 2 ^ 64 ≤ 2 ^ k = pow-le-pow_right {n = 2} (omega arith) e in absurd (omega arith))
    (λ (e : k < 64). e)
    (le_or_lt 64 k)

module _ (f : List ℕ) where
  abbrev H : Headers
  H = the_headers f

  align_good : (i : ℕ) → aligned (align_at f i) (offset_at f i) (vaddr_at f i) ≡ true → GoodAlign f i
  align_good i e =
      ⊎_elim
      (λ (z : align_at f i ≡ 0). zero_align z)
      (λ (p : Power (align_at f i)).
      let pos : 0 < align_at f i = some (align_at f i) p in
      power_align p.exponent p.power
      (rw (← p.power) (aligned_agree (align_at f i) (offset_at f i) (vaddr_at f i) e pos)))
      (aligned_power (align_at f i) (offset_at f i) (vaddr_at f i) e)
    where
      some : (a : ℕ) → Power a → 0 < a
      some a p =
          let q = p.power in
          let z : 0 ≤ p.exponent = omega arith in
          let l : 2 ^ 0 ≤ 2 ^ p.exponent = pow-le-pow_right {n = 2} (omega arith) z in
          omega arith

  good_align : (i : ℕ) → Bytes f → GoodAlign f i → aligned (align_at f i) (offset_at f i) (vaddr_at f i) ≡ true
  unfolding aligned
  good_align i b (zero_align e) = rw (lt-ltb (align_at f i) 2 (omega arith))
  good_align i b (one_align e) = rw (lt-ltb (align_at f i) 2 (omega arith))
  good_align i b (power_align k e s) =
      let l : align_at f i < 2 ^ 64 = le_below 8 f _ b in
      let u : k < 64 = power_small k (omega arith) in
      rw (e, power_told 64 k u, eq-eqb (offset_at f i % 2 ^ k) (vaddr_at f i % 2 ^ k) s, or-true)

  -- the end of the PT_LOAD before a header
  end_before_lem : (i j : ℕ) → LoadBefore f j i → end_before f H i ≡ vaddr_at f j + memsz_at f j
  unfolding end_before header_at
  end_before_lem zero j b = let l = b.before in absurd (omega arith)
  end_before_lem (suc i) j b =
      let l = b.before in
      ⊎_elim
      (λ (e : j ≡ i). let t : type_at f i ≡ 1 = rw (← e) b.loads in rw (eq-eqb (type_at f i) 1 t, e))
      (λ (e : j < i).
      let t = ne_eqb (type_at f i) 1 (λ q. b.nearest i e (omega arith) q) in
      rw t
      (end_before_lem i j (record { before = e; loads = b.loads; nearest = λ k u v q. b.nearest k u (omega arith) q })))
      (eq-or-lt_of_le (le_of_suc-le-suc l))

  -- where it ends by a limit, or there is none
  end_within : (i limit k : ℕ) → k ≤ i → ((j : ℕ) → k ≤ j → j < i → type_at f j ≡ 1 → ⊥)
      → ((j : ℕ) → LoadBefore f j i → vaddr_at f j + memsz_at f j ≤ limit) → end_before f H k ≤ limit
  unfolding end_before header_at
  end_within i limit zero l none each = omega arith
  end_within i limit (suc k) l none each = go (eqb (type_at f k) 1) refl (λ more. end_within i limit k (omega arith) more each)
    where
      go : (b : Bool) → eqb (type_at f k) 1 ≡ b → (((j : ℕ) → k ≤ j → j < i → type_at f j ≡ 1 → ⊥) → end_before f H k ≤ limit)
          → cond b (vaddr_at f k + memsz_at f k) (end_before f H k) ≤ limit
      go true e rest =
          each k (record { before = omega arith; loads = eqb-true (type_at f k) 1 e; nearest = λ j u v q. none j (omega arith) v q })
      go false e rest = rest (λ j u v q.
          ⊎_elim
          (λ (s : k ≡ j). eqb-false (type_at f k) 1 e (rw s q))
          (λ (s : k < j). none j (omega arith) v q)
          (eq-or-lt_of_le u))

  load_fine : (i : ℕ) → good_load (length f) (end_before f H i) (header_at f H i) ≡ true → GoodLoad f i
  unfolding good_load header_at
  load_fine i e =
      let a = and_right (not (eqb (memsz_at f i) 0)) _ e in
      let b = and_right (leb (filesz_at f i) (memsz_at f i)) _ a in
      let c = and_right (leb (offset_at f i + filesz_at f i) (length f)) _ b in
      let d = and_right (leb (vaddr_at f i + memsz_at f i) memory_limit) _ c in
      let last = leb-true (end_before f H i) (vaddr_at f i) (and_left (leb (end_before f H i) (vaddr_at f i)) _ d) in
      record {
        filled = eqb-false (memsz_at f i) 0 (not-true _ (and_left (not (eqb (memsz_at f i) 0)) _ e));
        sized = leb-true _ _ (and_left (leb (filesz_at f i) (memsz_at f i)) _ a);
        in_file = leb-true _ _ (and_left (leb (offset_at f i + filesz_at f i) (length f)) _ b);
        in_limit = leb-true _ _ (and_left (leb (vaddr_at f i + memsz_at f i) memory_limit) _ c);
        after = λ j before. rw (end_before_lem i j before) at last;
        aligned = align_good i (and_right (leb (end_before f H i) (vaddr_at f i)) _ d);
      }

  fine_load : (i : ℕ) → Bytes f → GoodLoad f i → good_load (length f) (end_before f H i) (header_at f H i) ≡ true
  unfolding good_load header_at
  fine_load i b g =
      let last = end_within i (vaddr_at f i) i (omega arith) (λ j u v q. absurd (omega arith)) g.after in
      rw (
        ne_eqb (memsz_at f i) 0 g.filled,
        le-leb (filesz_at f i) (memsz_at f i) g.sized,
        le-leb (offset_at f i + filesz_at f i) (length f) g.in_file,
        le-leb (vaddr_at f i + memsz_at f i) memory_limit g.in_limit,
        le-leb (end_before f H i) (vaddr_at f i) last,
        good_align i b g.aligned,
      )

  load_told : (i : ℕ) → bad_load f H i ≡ false → type_at f i ≡ 1 → GoodLoad f i
  unfolding bad_load header_at
  load_told i e t = load_fine i (not-false _ (and_false (eqb (type_at f i) 1) _ e (eq-eqb (type_at f i) 1 t)))

  told_load : (i : ℕ) → Bytes f → (type_at f i ≡ 1 → GoodLoad f i) → bad_load f H i ≡ false
  unfolding bad_load header_at
  told_load i b g = go (eqb (type_at f i) 1) refl
    where
      go : (t : Bool) → eqb (type_at f i) 1 ≡ t → (t && not (good_load (length f) (end_before f H i) (header_at f H i))) ≡ false
      go false e = refl
      go true e = rw (fine_load i b (g (eqb-true (type_at f i) 1 e)))

  pub loads : (i : ℕ) → Bytes f → Clears (bad_load f H i) (type_at f i ≡ 1 → GoodLoad f i)
  loads i b = (load_told i, told_load i b)

  -- ---- what PT_LOADs hold

  load_listed : (i : ℕ) → i < header_count f → eqb (type_at f i) 1 ≡ true → IsLoad f i
  load_listed i l e = record { listed = l; loads = eqb-true (type_at f i) 1 e }

  writable_told : (i : ℕ) → eqb (flags_at f i / 2 % 2) 1 ≡ true → Writable f i
  writable_told i e =
      let q = eqb-true (flags_at f i / 2 % 2) 1 e in
      record { above = flags_at f i / 4; below = flags_at f i % 2; small = omega arith; flags = omega arith }

  told_writable : (i : ℕ) → Writable f i → eqb (flags_at f i / 2 % 2) 1 ≡ true
  told_writable i w = let e = w.flags in let l = w.small in eq-eqb (flags_at f i / 2 % 2) 1 (omega arith)

  -- the n bytes from a are in the memory part of a PT_LOAD, a writable one where that is asked
  pub record Held (write : Bool) (a n : ℕ) : Type 0 where
    pub header : ℕ
    pub inside : InMemory f a n header
    pub writes : write ≡ true → Writable f header

  pub memory_held : (write : Bool) (a n : ℕ) → in_memory f H write a n ≡ true → Held write a n
  unfolding in_memory holds_at holds header_at
  memory_held write a n e =
      let s = some_at (holds_at f H write a n) (header_count f) e in
      let i = s.0 in
      let t = and_right (eqb (type_at f i) 1) _ s.1.1 in
      let c = covers_within (vaddr_at f i) (memsz_at f i) a n (and_right (not write || eqb (flags_at f i / 2 % 2) 1) _ t) in
      record {
        header = i;
        inside = record {
          load = load_listed i s.1.0 (and_left (eqb (type_at f i) 1) _ s.1.1);
          first_byte = c.0;
          last_byte = c.1;
        };
        writes = λ w. writable_told i (asked write w (and_left (not write || eqb (flags_at f i / 2 % 2) 1) _ t));
      }
    where
      asked : (write : Bool) {b : Bool} → write ≡ true → (not write || b) ≡ true → b ≡ true
      asked true w h = h
      asked false w h = false_true w

  pub held_memory : (write : Bool) (a n : ℕ) → Held write a n → in_memory f H write a n ≡ true
  unfolding in_memory holds_at holds header_at
  held_memory write a n h =
      let i = h.header in
      let m = h.inside in
      at_some (holds_at f H write a n) (header_count f) i m.load.listed
      (rw (
        eq-eqb (type_at f i) 1 m.load.loads,
        asked write (λ w. told_writable i (h.writes w)),
        within_covers (vaddr_at f i) (memsz_at f i) a n m.first_byte m.last_byte,
      ))
    where
      asked : (write : Bool) {b : Bool} → (write ≡ true → b ≡ true) → (not write || b) ≡ true
      asked true w = w refl
      asked false w = refl

  pub in_memory_holds : (a n : ℕ) → Means (in_memory f H false a n) ((i : ℕ) × InMemory f a n i)
  in_memory_holds a n = (
    λ e. let h = memory_held false a n e in (h.header, h.inside),
    λ h. held_memory false a n (record { header = h.0; inside = h.1; writes = λ w. false_true w }),
  )

  -- ---- what is backed

  module _ (headed : headers_of f ≡ good H) (loaded : loads_check f H ≡ good tt) (a n : ℕ) where
    backs-part : (i : ℕ) → i < header_count f → backs_at f H a n i ≡ true
        → IsLoad f i × (vaddr_at f i ≤ a) × (a + n ≤ vaddr_at f i + filesz_at f i)
    unfolding header_at
    backs-part i l e =
        let t = sym ((idle f H headed loaded).backed a n i l) ∙ e in
        let c = covers_within (vaddr_at f i) (filesz_at f i) a n (and_right (eqb (type_at f i) 1) _ t) in
        (load_listed i l (and_left (eqb (type_at f i) 1) _ t), c.0, c.1)

    part-backs : (i : ℕ) → IsLoad f i → vaddr_at f i ≤ a → a + n ≤ vaddr_at f i + filesz_at f i → backs_at f H a n i ≡ true
    unfolding header_at
    part-backs i l u v =
        (idle f H headed loaded).backed a n i l.listed
        ∙ rw (eq-eqb (type_at f i) 1 l.loads, within_covers (vaddr_at f i) (filesz_at f i) a n u v)

    backing_part : (x : ℕ) → backing_of f H a n ≡ Some x → Backed f a n x
    unfolding backing_of backer header_at
    backing_part x e = go (ltb i (header_count f)) refl e
      where
        i : ℕ
        i = first (backs_at f H a n) 0 (header_count f)

        go : (b : Bool) → ltb i (header_count f) ≡ b → cond b (Some (offset_at f i + (a - vaddr_at f i))) None ≡ Some x → Backed f a n x
        go false q x = absurd (let z : ◌≡◌ {A = ℕ} 0 1 = cc in omega arith)
        go true q e =
            let l = ltb-true i (header_count f) q in
            let t = backs-part i l (first_true (backs_at f H a n) (header_count f) 0 (omega arith)) in
            let z : offset_at f i + (a - vaddr_at f i) ≡ x = cc in
            let u = t.1 in
            record { header = i; load = t.0; first_byte = u; last_byte = t.2; stands = omega arith }

    -- one PT_LOAD backs a byte
    one_backs : (i j : ℕ) → 0 < n → i < header_count f → j < header_count f → backs_at f H a n i ≡ true → backs_at f H a n j ≡ true → i < j → ⊥
    unfolding header_at
    one_backs i j pos l u p q less =
        let s = backs-part i l p in
        let t = backs-part j u q in
        let apart = loads_apart f H loaded i j less u (eq-eqb (type_at f i) 1 s.0.loads) (eq-eqb (type_at f j) 1 t.0.loads) in
        let fits = (load_good f H loaded i l (eq-eqb (type_at f i) 1 s.0.loads)).sized in
        let x = s.2 in
        let y = t.1 in
        omega arith

    part_backing : (x : ℕ) → 0 < n → Backed f a n x → backing_of f H a n ≡ Some x
    unfolding backing_of backer header_at
    part_backing x pos b =
        let k = b.header in
        let p = part-backs k b.load b.first_byte b.last_byte in
        let below = first-le (backs_at f H a n) (header_count f) 0 in
        let same : first (backs_at f H a n) 0 (header_count f) ≡ k = there p (le_or_lt k (first (backs_at f H a n) 0 (header_count f))) in
        let u = b.first_byte in
        let s = b.stands in
        let z : offset_at f k + (a - vaddr_at f k) ≡ x = omega arith in
        rw (same, lt-ltb k (header_count f) b.load.listed, z)
      where
        i : ℕ
        i = first (backs_at f H a n) 0 (header_count f)

        there : backs_at f H a n b.header ≡ true → (b.header ≤ i) ⊎ (i < b.header) → i ≡ b.header
        there p (inl l) =
            ⊎_elim (λ (e : b.header ≡ i). sym e)
            (λ (e : b.header < i).
            true_false (sym p ∙ first_below (backs_at f H a n) (header_count f) 0 b.header (omega arith) e))
            (eq-or-lt_of_le l)
        there p (inr l) =
            let u = b.load.listed in
            absurd (one_backs i b.header pos (omega arith) u (first_true (backs_at f H a n) (header_count f) 0 (omega arith)) p l)

    pub backing : (x : ℕ) → 0 < n → (backing_of f H a n ≡ Some x) ↔ Backed f a n x
    backing x pos = (backing_part x, part_backing x pos)

    backing_table : (x : ℕ) → table_backing f H a n ≡ Some x → TableAt f a n x
    unfolding table_backing
    backing_table x e = go (eqb n 0) refl e
      where
        go : (b : Bool) → eqb n 0 ≡ b → cond b (Some 0) (backing_of f H a n) ≡ Some x → TableAt f a n x
        go true q y = let z : 0 ≡ x = cc in empty (eqb-true n 0 q) (sym z)
        go false q y = let ne = eqb-false n 0 q in backed (omega arith) (backing_part x y)

    table_backing_lem : (x : ℕ) → TableAt f a n x → table_backing f H a n ≡ Some x
    unfolding table_backing
    table_backing_lem x (empty z q) = rw (z, q)
    table_backing_lem x (backed pos b) = rw (ne_eqb n 0 (λ z. omega arith)) (part_backing x pos b)

    pub table : (x : ℕ) → (table_backing f H a n ≡ Some x) ↔ TableAt f a n x
    table x = (backing_table x, table_backing_lem x)
