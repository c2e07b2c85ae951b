-- Memory before relocation: each PT_LOAD's file part at its own address, all others 0.
-- Assumes nothing.
use Prim.Native.Nat.{ℕ, zero, suc, ◌+◌, ◌-◌, ◌≤◌, ◌<◌}
use mathlib.Core.Path.{◌≡◌, refl, sym, ◌∙◌}
use mathlib.Core.Bool.{true}
use mathlib.Core.List.{List}
use mathlib.Core.Logic.{⊎_elim}
use native.Mathlib.Nat.{eq-or-lt_of_le, le_of_suc-le-suc}
use native.Mathlib.Omega.{arith}
use lib.ListN.{length, get_or, replicate, length-replicate, length-take, length-drop}
use lib.Seq.{get_or-take, get_or-drop}
use borrow.Author.Tests.{le-leb, lt-ltb, le-ltb}
use Rattle.rules.specs.Outcome.{good}
use Rattle.rules.specs.Bytes.{le, part}
use Rattle.rules.specs.First.{first}
use Rattle.rules.specs.Headers.{headers_of}
use Rattle.rules.specs.Segments.{header_at, is_load, loads_check, loads_end, covers, backs_at, backer, backing_of}
use Rattle.rules.specs.Image.{loads_over, image_of, byte_of, loaded_in}
use Rattle.rules.specs.declared.Headers.{Headers}
use Rattle.rules.specs.declared.Module.{Module}
use Rattle.rules.proofs.MemoryLaws.{put-length, put_before, put_after, put_in}
use Rattle.rules.proofs.BoolLaws.{cond_case}
use Rattle.laws.proofs.Checks.{le_or_lt}
use Rattle.rules.proofs.FirstLaws.{first-le, first_true, first_all}
use Rattle.rules.proofs.OutcomeLaws.{and_left, and_right}
use Rattle.laws.proofs.Loads.{load_good, load_end, loads_apart, covers_within}
use Rattle.demands.proofs.Lowest.{not_both}
use Rattle.demands.proofs.Guards.{idle}
use Rattle.demands.proofs.Plane.{replicate_zero}
use Rattle.demands.specs.Demands.{FilePart, Image}

pub part_length : (s : List ℕ) (at n : ℕ) → at + n ≤ length s → length (part s at n) ≡ n
part_length s at n h = simp (length-take, length-drop) (omega arith)

pub part_at : (s : List ℕ) (at n i : ℕ) → i < n → get_or (part s at n) i 0 ≡ get_or s (at + i) 0
part_at s at n i h = rw (get_or-take, get_or-drop)

pub loads_length : (f : List ℕ) (h : Headers) (m : List ℕ) (k : ℕ) → length (loads_over f h m k) ≡ length m
unfolding loads_over
loads_length f h m zero = refl
loads_length f h m (suc k) =
    let e = loads_length f h m k in
    cond_case (λ (l : List ℕ). length l ≡ length m) (is_load (header_at f h k)) _ _
    (λ q. put-length (loads_over f h m k) (header_at f h k).vaddr _ ∙ e) (λ q. e)

pub image_size : (f : List ℕ) (h : Headers) (n : ℕ) → length (image_of f h n) ≡ n
image_size f h n = loads_length f h (replicate n 0) h.count ∙ length-replicate n 0

module _ (f : List ℕ) (h : Headers) (passed : loads_check f h ≡ good tt) (m : List ℕ) (fits : loads_end f h ≤ length m) where
  loads_in : (k i x : ℕ) → k ≤ h.count → i < k → FilePart (header_at f h i) x
      → get_or (loads_over f h m k) x 0 ≡ get_or f ((header_at f h i).offset + (x - (header_at f h i).vaddr)) 0
  unfolding loads_over
  loads_in zero i x u l w = absurd (omega arith)
  loads_in (suc k) i x u l w =
      let A = loads_over f h m k in
      let s = header_at f h k in
      let len = loads_length f h m k in
      let gi = load_good f h passed i (omega arith) w.loads in
      ⊎_elim
      (λ (e : i ≡ k).
      let t : is_load s ≡ true = rw (← e) w.loads in
      let v : FilePart s x = rw (← e) w in
      let g = load_good f h passed k (omega arith) t in
      let b = load_end f h passed h.count k (omega arith) (omega arith) t in
      let q : s.vaddr + (x - s.vaddr) ≡ x = omega arith in
      let size = part_length f s.offset s.filesz g.in_file in
      let r = put_in s.vaddr (x - s.vaddr) A (part f s.offset s.filesz) (omega arith) (omega arith) in
      rw (e, t) (rw q at r ∙ part_at f s.offset s.filesz (x - s.vaddr) (omega arith)))
      (λ (e : i < k).
      let ih = loads_in k i x (omega arith) e w in
      cond_case (λ (l : List ℕ). get_or l x 0 ≡ get_or f ((header_at f h i).offset + (x - (header_at f h i).vaddr)) 0) (is_load s) _ _
      (λ t.
      let a = loads_apart f h passed i k e (omega arith) w.loads t in
      put_before s.vaddr x A (part f s.offset s.filesz) (omega arith) ∙ ih)
      (λ t. ih))
      (eq-or-lt_of_le (le_of_suc-le-suc l))

  loads_out : (k x : ℕ) → k ≤ h.count → ((i : ℕ) → i < k → FilePart (header_at f h i) x → ⊥) → get_or (loads_over f h m k) x 0 ≡ get_or m x 0
  unfolding loads_over
  loads_out zero x u out = refl
  loads_out (suc k) x u out =
      let A = loads_over f h m k in
      let s = header_at f h k in
      let ih = loads_out k x (omega arith) (λ i l. out i (omega arith)) in
      cond_case (λ (l : List ℕ). get_or l x 0 ≡ get_or m x 0) (is_load s) _ _
      (λ t.
      let g = load_good f h passed k (omega arith) t in
      let size = part_length f s.offset s.filesz g.in_file in
      ⊎_elim
      (λ (above : s.vaddr ≤ x).
      ⊎_elim
      (λ (past : s.vaddr + s.filesz ≤ x). put_after s.vaddr x A (part f s.offset s.filesz) (omega arith) ∙ ih)
      (λ (within : x < s.vaddr + s.filesz). absurd (out k (omega arith) (record { loads = t; first_byte = above; last_byte = within })))
      (le_or_lt (s.vaddr + s.filesz) x))
      (λ (below : x < s.vaddr). put_before s.vaddr x A (part f s.offset s.filesz) below ∙ ih)
      (le_or_lt s.vaddr x))
      (λ t. ih)

-- the byte and the word loaded at an address, by the file alone
module _ (f : List ℕ) (h : Headers) (headed : headers_of f ≡ good h) (passed : loads_check f h ≡ good tt) (n : ℕ) (fits : loads_end f h ≤ n) where
  abbrev image : List ℕ
  image = image_of f h n

  image_in : (i x : ℕ) → i < h.count → FilePart (header_at f h i) x
      → get_or image x 0 ≡ get_or f ((header_at f h i).offset + (x - (header_at f h i).vaddr)) 0
  image_in i x l w =
      let z = length-replicate {A = ℕ} n 0 in
      loads_in f h passed (replicate n 0) (omega arith) h.count i x (omega arith) l w

  image_out : (x : ℕ) → ((i : ℕ) → i < h.count → FilePart (header_at f h i) x → ⊥) → get_or image x 0 ≡ 0
  image_out x out =
      let z = length-replicate {A = ℕ} n 0 in
      loads_out f h passed (replicate n 0) (omega arith) h.count x (omega arith) out ∙ replicate_zero n x

  -- a PT_LOAD backs a byte exactly where its file part holds it
  backs-part : (x i : ℕ) → i < h.count → backs_at f h x 1 i ≡ true → FilePart (header_at f h i) x
  backs-part x i l e =
      let t = sym ((idle f h headed passed).backed x 1 i l) ∙ e in
      let c = covers_within (header_at f h i).vaddr (header_at f h i).filesz x 1 (and_right (is_load (header_at f h i)) _ t) in
      record { loads = and_left (is_load (header_at f h i)) _ t; first_byte = c.0; last_byte = omega arith }

  part-backs : (x i : ℕ) → i < h.count → FilePart (header_at f h i) x → backs_at f h x 1 i ≡ true
  unfolding covers
  part-backs x i l w =
      let s = header_at f h i in
      let a = le-leb s.vaddr x w.first_byte in
      let b = w.last_byte in
      let c = le-leb (x + 1) (s.vaddr + s.filesz) (omega arith) in
      (idle f h headed passed).backed x 1 i l ∙ rw (w.loads, a, c)

  byte_loaded : (x : ℕ) → get_or image x 0 ≡ byte_of f (backing_of f h x 1)
  unfolding backing_of backer
  byte_loaded x =
      ⊎_elim
      (λ (e : first (backs_at f h x 1) 0 h.count ≡ h.count).
      let none = first_all (backs_at f h x 1) h.count 0 (e ∙ omega arith) in
      rw (e, le-ltb h.count h.count (omega arith))
      (image_out x (λ i l w. not_both (backs_at f h x 1 i) (part-backs x i l w) (none i (omega arith) (omega arith)))))
      (λ (l : first (backs_at f h x 1) 0 h.count < h.count).
      let i = first (backs_at f h x 1) 0 h.count in
      let hit = first_true (backs_at f h x 1) h.count 0 (omega arith) in
      rw (lt-ltb i h.count l) (image_in i x l (backs-part x i l hit)))
      (eq-or-lt_of_le (omega (arith, first-le (backs_at f h x 1) h.count 0)))

  words_loaded : (k x : ℕ) → le k image x ≡ loaded_in f h k x
  unfolding le loaded_in
  words_loaded zero x = refl
  words_loaded (suc k) x = let b = byte_loaded x in let r = words_loaded k (x + 1) in rw (b, r)

pub image_holds : (f : List ℕ) (m : Module) (n : ℕ) → headers_of f ≡ good m.headers → loads_check f m.headers ≡ good tt
    → loads_end f m.headers ≤ n → Image f m n (image_of f m.headers n)
image_holds f m n headed passed fits = record {
  image_length = image_size f m.headers n;
  from_file = image_in f m.headers headed passed n fits;
  all_others = image_out f m.headers headed passed n fits;
  loaded_words = words_loaded f m.headers headed passed n fits 8;
}
