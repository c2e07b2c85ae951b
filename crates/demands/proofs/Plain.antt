-- The plain loader's own addresses, checks and memory are those of the load without its tags.
-- Assumes nothing.
use Rattle.std.specs.Prelude.{Option, Some, None}
use Prim.Native.Nat.{ℕ, zero, suc, ◌+◌, ◌/◌, ◌%◌, ◌≤◌, ◌<◌}
use mathlib.Core.Path.{◌≡◌, refl, sym, ap, ◌∙◌}
use mathlib.Core.Bool.{Bool, true, false, cond, not, ◌&&◌, ◌||◌}
use mathlib.Core.List.{List}
use mathlib.Core.Logic.{⊎_elim}
use native.Mathlib.Nat.{zero-add, add-zero}
use native.Mathlib.Omega.{arith}
use lib.ListN.{length, replicate, length-replicate}
use lib.Dec.{leb, eqb}
use lib.IntN.{ℤ, pos, negsuc, ◌+ℤ◌, nat_abs}
use borrow.Author.Tests.{le-leb, lt-leb, le-ltb, lt-ltb}
use Rattle.rules.specs.Outcome.{Outcome, good, passed}
use Rattle.rules.specs.Checks.{runs}
use Rattle.rules.specs.Limits.{address_limit}
use Rattle.rules.specs.Bytes.{le, part}
use Rattle.rules.specs.First.{fault_at, faults_at}
use Rattle.rules.specs.Memory.{bytes_of, put_word, signed}
use Rattle.rules.specs.Headers.{header_checks, headers_of}
use Rattle.rules.specs.Segments.{header_at, is_load, loads_check, loads_end}
use Rattle.rules.specs.Relocations.{abs64, glob_dat, relative, entry_at, place_at, kind_at, symbol_at, addend_at, live, is_packed, items, position_at}
use Rattle.rules.specs.Relocations.{symbol_backing, symbol_of, target_of, named_target, target, target_at, barred}
use Rattle.rules.specs.Relocations.{has_place, taken, good_place, bad_relocation, first_bad, relocations_check}
use Rattle.rules.specs.Addresses.{base_of, address_of, out_of_range, natural, address_at, bad_address, addresses_check}
use Rattle.rules.specs.Dynamic.{dynamic_of, base_tags, entries_check}
use Rattle.rules.specs.Tables.{relocations_of}
use Rattle.rules.specs.Packed.{packed_of}
use Rattle.rules.specs.Reader.{the_module}
use Rattle.rules.specs.Lending.{memory_fits}
use Rattle.rules.specs.Image.{loads_over, loaded_at}
use Rattle.rules.specs.Words.{writes}
use Rattle.rules.specs.declared.Headers.{Headers}
use Rattle.rules.specs.declared.Module.{Module}
use Rattle.rules.specs.declared.Target.{Target}
use Rattle.rules.specs.declared.Target.TheVariants.{Base, Defined, Undefined, Barred}
use Rattle.rules.proofs.FirstLaws.{first_same}
use Rattle.rules.proofs.MemoryLaws.{put_split}
use Rattle.rules.proofs.OutcomeLaws.{never, and_then_good, require_true}
use Rattle.rules.proofs.ChecksLaws.{all_runs, runs_all}
use Rattle.laws.proofs.Checks.{cond_both, le_or_lt}
use Rattle.laws.proofs.Loads.{load_good, load_end}
use Rattle.laws.proofs.Places.{address_ranged, target-allowed}
use Rattle.laws.proofs.Writes.{Apart, writes-length}
use Rattle.demands.proofs.Image.{loads_length, part_length}
use Rattle.demands.proofs.Guards.{idle}
use Rattle.demands.specs.Plain.{store, segments_of, symbol_entry, symbol_address, operation, bare_address, is_skipped, off_range, bad_bare}
use Rattle.demands.specs.Plain.{bare_words, plain_module, plain_image, plain_checks, plain_memory, plain_of}

-- an address is out of range in both loaders or in none
range_same : (z : ℤ) → off_range z ≡ out_of_range z
range_same (pos x) =
    ⊎_elim
    (λ (l : address_limit ≤ x). rw (le-leb address_limit x l, le-ltb x address_limit l))
    (λ (l : x < address_limit). rw (lt-leb address_limit x l, lt-ltb x address_limit l))
    (le_or_lt address_limit x)
range_same (negsuc x) = refl

in_range_same : (z : ℤ) → out_of_range z ≡ false → natural z ≡ nat_abs z
in_range_same (pos x) h = refl
in_range_same (negsuc x) h = search never

-- a symbol that is allowed has the address that its target has
named_base : (f : List ℕ) (bias : ℕ) (p : Option ℕ) → barred (named_target f p) ≡ false → base_of bias (named_target f p) ≡ symbol_address f bias p
unfolding named_target target_of symbol_of
named_base f bias None h = search never
named_base f bias (Some at) h =
    go (eqb ((symbol_of f at).info % 16) 6 || eqb ((symbol_of f at).info % 16) 10) (leb 0xff00 (le 2 f (at + 6))) (eqb (le 2 f (at + 6)) 0)
    (eqb ((symbol_of f at).info / 16) 2) h
  where
    go : (a b c e : Bool)
        → barred (cond a Barred (cond b Barred (cond c (cond e Undefined Barred) (Defined (le 8 f (at + 8)))))) ≡ false
        → base_of bias (cond a Barred (cond b Barred (cond c (cond e Undefined Barred) (Defined (le 8 f (at + 8))))))
        ≡ cond c 0 (bias + le 8 f (at + 8))
    go true b c e h = search never
    go false true c e h = search never
    go false false true true h = refl
    go false false true false h = search never
    go false false false e h = refl

target_base : (f : List ℕ) (h : Headers) (symbols : Option ℕ) (bias kind symbol : ℕ) → barred (target f h symbols kind symbol) ≡ false
    → pos (base_of bias (target f h symbols kind symbol))
    ≡ cond (eqb kind relative) (pos bias) (pos (symbol_address f bias (symbol_backing f h symbol symbols)))
unfolding target
target_base f h symbols bias kind symbol t =
    go (eqb kind relative) (eqb symbol 0) (eqb kind abs64 || eqb kind glob_dat) t
  where
    N : Target
    N = named_target f (symbol_backing f h symbol symbols)

    go : (a b c : Bool)
        → barred (cond a (cond b Base Barred) (cond c (cond b Barred N) Barred)) ≡ false
        → pos (base_of bias (cond a (cond b Base Barred) (cond c (cond b Barred N) Barred)))
        ≡ cond a (pos bias) (pos (symbol_address f bias (symbol_backing f h symbol symbols)))
    go true true c t = refl
    go true false c t = search never
    go false true true t = search never
    go false false true t = ap pos (named_base f bias (symbol_backing f h symbol symbols) t)
    go false b false t = search never

module _ (f : List ℕ) (m : Module) (headed : headers_of f ≡ good m.headers) (loads : loads_check f m.headers ≡ good tt) where
  -- a symbol's entry, without the guard of the rules
  entry_same : (symbols : Option ℕ) (n : ℕ) → symbol_backing f m.headers n symbols ≡ symbol_entry f m.headers symbols n
  unfolding symbol_backing
  entry_same None n = refl
  entry_same (Some table) n = (idle f m.headers headed loads).symbol-backed n table

  -- an entry and a packed place, each by its own operation
  entry_address : (bias k : ℕ) → barred (target f m.headers m.symbols (kind_at f m k) (symbol_at f m k)) ≡ false
      → address_of bias (target f m.headers m.symbols (kind_at f m k) (symbol_at f m k)) (addend_at f m k)
      ≡ operation (kind_at f m k) bias (symbol_address f bias (symbol_entry f m.headers m.symbols (symbol_at f m k))) (signed (addend_at f m k))
  entry_address bias k t =
      ap (λ (b : ℤ). b +ℤ signed (addend_at f m k))
      (target_base f m.headers m.symbols bias (kind_at f m k) (symbol_at f m k) t
      ∙ ap (λ (p : Option ℕ). cond (eqb (kind_at f m k) relative) (pos bias) (pos (symbol_address f bias p)))
      (entry_same m.symbols (symbol_at f m k)))

  -- what is not skipped
  unskipped : (k : ℕ) → not (is_skipped f m k) ≡ live f m k
  unfolding live
  unskipped k = go (is_packed m k) (eqb (kind_at f m k) 0)
    where
      go : (a b : Bool) → not (not a && b) ≡ (a || not b)
      go true b = refl
      go false b = refl

  module _ (bias : ℕ) (image : List ℕ) (held : (x : ℕ) → le 8 image x ≡ loaded_at f m.headers x)
      (checked : relocations_check f m ≡ good tt) where
    address_same : (k : ℕ) → k < items m → live f m k ≡ true → address_at f m bias k ≡ bare_address f m bias image k
    unfolding target_at addend_at
    address_same k l t = go (is_packed m k) refl (target-allowed f m checked k l t)
      where
        T : Target
        T = target f m.headers m.symbols (kind_at f m k) (symbol_at f m k)

        L : Target
        L = Defined (loaded_at f m.headers (place_at f m k))

        A : ℕ
        A = le 8 f (entry_at m.relocations k + 16)

        S : ℕ
        S = symbol_address f bias (symbol_entry f m.headers m.symbols (symbol_at f m k))

        go : (b : Bool) → is_packed m k ≡ b → barred (cond b L T) ≡ false
            → address_of bias (cond b L T) (cond b 0 A)
            ≡ cond b (pos (bias + le 8 image (place_at f m k))) (operation (kind_at f m k) bias S (signed (addend_at f m k)))
        go true q a = rw (held (place_at f m k)) (ap pos (add-zero (bias + loaded_at f m.headers (place_at f m k))))
        go false q a =
            let z : addend_at f m k ≡ A = rw q in
            rw z (rw z at (entry_address bias k a))

    -- check 13
    pub bare_faults : faults_at 13 (position_at f m) (bad_bare f m bias image) (items m) ≡ addresses_check f m bias
    unfolding bad_bare bad_address addresses_check
    bare_faults =
        ap (fault_at 13 (position_at f m) (items m))
        (first_same (bad_bare f m bias image) (bad_address f m bias) (items m) 0 (λ k _ l. go k (omega arith) (live f m k) refl))
      where
        go : (k : ℕ) → k < items m → (b : Bool) → live f m k ≡ b
            → (not (is_skipped f m k) && off_range (bare_address f m bias image k)) ≡ (live f m k && out_of_range (address_at f m bias k))
        go k l false q = rw (unskipped k, q)
        go k l true q = rw (unskipped k, q, range_same (bare_address f m bias image k), ← address_same k l q)

    pub bare_checked : addresses_check f m bias ≡ good tt → faults_at 13 (position_at f m) (bad_bare f m bias image) (items m) ≡ good tt
    bare_checked e = bare_faults ∙ e

    -- the words
    module _ (in_range_lem : addresses_check f m bias ≡ good tt) (apart : Apart (live f m) (place_at f m) (length image) 0 (items m)) where
      -- the bare word of an item
      abbrev pub bare_word : ℕ → ℕ
      bare_word k = natural (address_at f m bias k)

      word_same : (k : ℕ) → k < items m → live f m k ≡ true → bare_word k ≡ nat_abs (bare_address f m bias image k)
      word_same k l t = in_range_same (address_at f m bias k) (address_ranged f m bias in_range_lem k l t) ∙ ap nat_abs (address_same k l t)

      pub bare_words_lem : (n : ℕ) → n ≤ items m → bare_words f m bias image n ≡ writes (live f m) (place_at f m) bare_word image 0 n
      unfolding bare_words writes put_word
      bare_words_lem zero u = refl
      bare_words_lem (suc k) u = rw (zero-add, ← unskipped k) (go (is_skipped f m k) refl (bare_words_lem k (omega arith)))
        where
          W : List ℕ
          W = writes (live f m) (place_at f m) bare_word image 0 k

          B : List ℕ
          B = bare_words f m bias image k

          go : (b : Bool) → is_skipped f m k ≡ b → B ≡ W
              → cond b B (store B (place_at f m k) (bytes_of 8 (nat_abs (bare_address f m bias image k))))
              ≡ cond (not b) (put_word W (place_at f m k) (bare_word k)) W
          go true q ih = ih
          go false q ih =
              let t : live f m k ≡ true = sym (unskipped k) ∙ rw q in
              let i = apart.inside k (omega arith) (omega arith) t in
              let z = writes-length (live f m) (place_at f m) image 0 bare_word k in
              rw (ih, ← word_same k (omega arith) t) (sym (put_split (place_at f m k) W (bytes_of 8 (bare_word k)) (omega arith)))

-- the segments
pub segments_same : (f : List ℕ) (h : Headers) (n : ℕ) → loads_check f h ≡ good tt → loads_end f h ≤ n → (k : ℕ) → k ≤ h.count
    → segments_of f h n k ≡ loads_over f h (replicate n 0) k
unfolding segments_of loads_over
segments_same f h n passed fits zero u = refl
segments_same f h n passed fits (suc k) u =
    let ih = segments_same f h n passed fits k (omega arith) in
    let s = header_at f h k in
    let z = loads_length f h (replicate n 0) k in
    let y = length-replicate {A = ℕ} n 0 in
    rw ih
    (cond_both ◌≡◌ (is_load s) _ _ _ _
    (λ t.
    let g = load_good f h passed k (omega arith) t in
    let e = load_end f h passed h.count k (omega arith) (omega arith) t in
    let size = part_length f s.offset s.filesz g.in_file in
    sym (put_split s.vaddr (loads_over f h (replicate n 0) k) (part f s.offset s.filesz) (omega arith)))
    (λ t. refl))

-- ---- the call as a whole: what the plain loader knows of a module is what it looks at

abbrev bare_of : Module → Module
bare_of m = record {
  headers = m.headers;
  dynamic = m.dynamic;
  symbols = m.symbols;
  relocations = m.relocations;
  packed = m.packed;
  descriptors = record { at = 0; bytes = 0 };
  globals = 0;
}

pub bare_relocations : (f : List ℕ) (m : Module) → relocations_check f (bare_of m) ≡ relocations_check f m
unfolding relocations_check first_bad bad_relocation good_place taken has_place place_at live target_at position_at
bare_relocations f m = refl

pub bare_addresses : (f : List ℕ) (m : Module) (bias : ℕ) (image : List ℕ)
    → faults_at 13 (position_at f (bare_of m)) (bad_bare f (bare_of m) bias image) (items m)
    ≡ faults_at 13 (position_at f m) (bad_bare f m bias image) (items m)
unfolding bad_bare position_at place_at addend_at
bare_addresses f m bias image = refl

bare_same : (f : List ℕ) (m : Module) (bias : ℕ) (image : List ℕ) (n : ℕ) → bare_words f (bare_of m) bias image n ≡ bare_words f m bias image n
unfolding bare_words place_at addend_at
bare_same f m bias image zero = refl
bare_same f m bias image (suc n) = let ih = bare_same f m bias image n in rw ih

pub passed_of : {A : Type 0} {a : A} {o : Outcome A} → o ≡ good a → passed o ≡ good tt
passed_of e = rw e

-- the checks that pass, and the memory
pub plain_module_lem : (f : List ℕ) (m : Module) (bias n : ℕ) → m ≡ the_module f → headers_of f ≡ good m.headers
    → loads_check f m.headers ≡ good tt
    → passed (dynamic_of f m.headers) ≡ good tt → entries_check base_tags f m.dynamic ≡ good tt
    → passed (relocations_of f m.headers m.dynamic) ≡ good tt
    → passed (packed_of f m.headers m.dynamic m.relocations) ≡ good tt → relocations_check f m ≡ good tt
    → memory_fits f m.headers n bias ≡ true → faults_at 13 (position_at f m) (bad_bare f m bias (plain_image f m n)) (items m) ≡ good tt
    → plain_of f bias n ≡ good (plain_memory f (plain_module f) bias n)
unfolding plain_of headers_of
plain_module_lem f m bias n found headed loads dynamic entries relocations packed relocates fits addresses =
    let M = the_module f in
    let h = runs_all (header_checks f) (and_then_good (runs (header_checks f)) _ headed).here in
    let a = rw found at loads in
    let b = rw found at dynamic in
    let c = rw found at entries in
    let d = rw found at relocations in
    let k = rw found at packed in
    let e : relocations_check f (plain_module f) ≡ good tt = bare_relocations f M ∙ rw found at relocates in
    let g = rw found at fits in
    let i : faults_at 13 (position_at f (plain_module f)) (bad_bare f (plain_module f) bias (plain_image f M n)) (items M) ≡ good tt =
    bare_addresses f M bias (plain_image f M n) ∙ rw found at addresses in
    let all = all_runs (plain_checks f (plain_module f) bias n)
    (h.0, (h.1.0, (h.1.1.0, (a, (b, (c, (d, (k, (e, (require_true _ 12 0 g, (i, tt))))))))))) in
    rw all

pub plain_memory_lem : (f : List ℕ) (m : Module) (bias n : ℕ) → m ≡ the_module f
    → plain_memory f (plain_module f) bias n ≡ bare_words f m bias (plain_image f m n) (items m)
plain_memory_lem f m bias n found = rw found (bare_same f (the_module f) bias _ (items (the_module f)))
