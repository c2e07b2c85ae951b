-- After check 4 one PT_LOAD at most backs a byte, so bytes of one file part are loaded as they stand in the file.
-- Assumes nothing.
use Rattle.std.specs.Prelude.{Some, None}
use Prim.Native.Nat.{ℕ, zero, suc, ◌+◌, ◌-◌, ◌≤◌, ◌<◌}
use mathlib.Core.Path.{◌≡◌, refl, sym, ◌∙◌}
use mathlib.Core.Bool.{Bool, true, false, cond}
use mathlib.Core.List.{List}
use mathlib.Core.Logic.{⊎_elim}
use native.Mathlib.Nat.{eq-or-lt_of_le}
use native.Mathlib.Omega.{arith}
use lib.ListN.{get_or}
use lib.Dec.{ltb, leb}
use borrow.Author.Tests.{le-leb, ltb-true, lt-ltb}
use Rattle.rules.specs.Outcome.{good}
use Rattle.rules.specs.Limits.{file_limit}
use Rattle.rules.specs.Bytes.{le}
use Rattle.rules.specs.First.{first}
use Rattle.rules.specs.Segments.{header_at, is_load, loads_check, covers, backs, backs_at, backer, backing_in, backing_of}
use Rattle.rules.specs.Image.{byte_of, loaded_in, loaded_at}
use Rattle.rules.specs.declared.Headers.{Headers}
use Rattle.rules.specs.declared.Segment.{Segment}
use Rattle.rules.proofs.FirstLaws.{first_true, first_below}
use Rattle.rules.proofs.OutcomeLaws.{true_false, and_left, and_right}
use Rattle.laws.proofs.Checks.{le_or_lt}
use Rattle.laws.proofs.Loads.{load_good, loads_apart, covers_within}

-- a PT_LOAD whose file part holds the n bytes from a
record Backed (a n : ℕ) (s : Segment) : Type 0 where
  loads : is_load s ≡ true
  start : s.vaddr ≤ a
  end : a + n ≤ s.vaddr + s.filesz
  limit : leb (s.offset + s.filesz) file_limit ≡ true

backs_facts : (a n : ℕ) (s : Segment) → backs a n s ≡ true → Backed a n s
unfolding backs
backs_facts a n s e =
    let u = and_right (is_load s) _ e in
    let c = covers_within s.vaddr s.filesz a n (and_left (covers s.vaddr s.filesz a n) _ u) in
    record {
      loads = and_left (is_load s) _ e;
      start = c.0;
      end = c.1;
      limit = and_right (covers s.vaddr s.filesz a n) _ u;
    }

facts_back : (a n : ℕ) (s : Segment) → Backed a n s → backs a n s ≡ true
unfolding backs covers
facts_back a n s b =
    let x = le-leb s.vaddr a b.start in
    let y = le-leb (a + n) (s.vaddr + s.filesz) b.end in
    rw (b.loads, x, y, b.limit)

module _ (f : List ℕ) (h : Headers) (passed : loads_check f h ≡ good tt) where
  -- two PT_LOADs share no byte
  one_backer : (a n i j : ℕ) → 0 < n → i < j → j < h.count → Backed a n (header_at f h i) → Backed a n (header_at f h j) → ⊥
  one_backer a n i j z l u x y =
      let apart = loads_apart f h passed i j l u x.loads y.loads in
      let g = load_good f h passed i (omega arith) x.loads in
      let p = x.end in
      let q = y.start in
      let r = g.sized in
      omega arith

  -- so bytes of a PT_LOAD's file part are backed there
  pub backing_part : (a n i : ℕ) → 0 < n → i < h.count → backs_at f h a n i ≡ true → backing_of f h a n ≡ backing_in (header_at f h i) a
  unfolding backing_of backer backs_at
  backing_part a n i z l hit =
      let j = first (backs_at f h a n) 0 h.count in
      ⊎_elim
      (λ (u : j ≤ i).
      ⊎_elim
      (λ (e : j ≡ i). rw (e, lt-ltb i h.count l))
      (λ (w : j < i).
      let t = first_true (backs_at f h a n) h.count 0 (omega arith) in
      absurd (one_backer a n j i z w l (backs_facts a n (header_at f h j) t) (backs_facts a n (header_at f h i) hit)))
      (eq-or-lt_of_le u))
      (λ (u : i < j). true_false (sym hit ∙ first_below (backs_at f h a n) h.count 0 i (omega arith) u))
      (le_or_lt j i)

  byte_part : (x i : ℕ) → i < h.count → Backed x 1 (header_at f h i)
      → byte_of f (backing_of f h x 1) ≡ get_or f ((header_at f h i).offset + (x - (header_at f h i).vaddr)) 0
  unfolding backs_at
  byte_part x i l b = rw (backing_part x 1 i (omega arith) l (facts_back x 1 (header_at f h i) b))

  bytes_part : (n a i : ℕ) → i < h.count → Backed a n (header_at f h i)
      → loaded_in f h n a ≡ le n f ((header_at f h i).offset + (a - (header_at f h i).vaddr))
  unfolding loaded_in le
  bytes_part zero a i l b = refl
  bytes_part (suc n) a i l b =
      let s = header_at f h i in
      let p = b.start in
      let q = b.end in
      let here = byte_part a i l (record { loads = b.loads; start = p; end = omega arith; limit = b.limit }) in
      let rest = bytes_part n (a + 1) i l (record { loads = b.loads; start = omega arith; end = omega arith; limit = b.limit }) in
      let e : s.offset + (a + 1 - s.vaddr) ≡ s.offset + (a - s.vaddr) + 1 = omega arith in
      rw (here, rest, e)

  -- eight bytes that are backed are loaded from where they are backed
  pub loaded-backed : (a at : ℕ) → backing_of f h a 8 ≡ Some at → loaded_at f h a ≡ le 8 f at
  unfolding backing_of backer backs_at
  loaded-backed a at e = go (ltb i h.count) refl e
    where
      i : ℕ
      i = first (backs_at f h a 8) 0 h.count

      go : (b : Bool) → ltb i h.count ≡ b → cond b (backing_in (header_at f h i) a) None ≡ Some at → loaded_at f h a ≡ le 8 f at
      go true q x =
          let s = header_at f h i in
          let l = ltb-true i h.count q in
          let t = first_true (backs_at f h a 8) h.count 0 (omega arith) in
          let z : s.offset + (a - s.vaddr) ≡ at = cc in
          rw z at (bytes_part 8 a i l (backs_facts a 8 s t))
      go false q x = absurd (let z : ◌≡◌ {A = ℕ} 0 1 = cc in omega arith)
