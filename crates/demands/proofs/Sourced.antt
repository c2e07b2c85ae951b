-- Each word's tag source in raw words.
-- Assumes nothing.
use Rattle.std.specs.Prelude.{Option, Some, None}
use Prim.Native.Nat.{ℕ, zero, suc, ◌+◌, ◌%◌, ◌^◌, ◌≤◌, ◌<◌}
use mathlib.Core.Path.{◌≡◌, refl, sym, ap, ◌∙◌}
use mathlib.Core.Bool.{Bool, true, false, cond, ◌||◌}
use mathlib.Core.List.{List}
use mathlib.Core.Logic.{◌⊎◌, inl, inr, ⊎_elim}
use native.Mathlib.Nat.{pow-suc}
use native.Mathlib.Omega.{arith}
use lib.Dec.{leb, eqb}
use lib.IntN.{pos, ◌+ℤ◌}
use borrow.Author.Tests.{eqb-true, eqb-false}
use Rattle.rules.specs.Outcome.{good}
use Rattle.rules.specs.Bytes.{le}
use Rattle.rules.specs.Memory.{signed, mod64}
use Rattle.rules.specs.Segments.{backing_of}
use Rattle.rules.specs.Relocations.{abs64, glob_dat, relative, entry_at, place_at, kind_at, symbol_at}
use Rattle.rules.specs.Relocations.{symbol_backing, target_of, named_target, target, barred, relocations_check}
use Rattle.rules.specs.Image.{byte_of, loaded_in, loaded_at}
use Rattle.rules.specs.Words.{at, source_of, source_at}
use Rattle.rules.specs.declared.Headers.{Headers}
use Rattle.rules.specs.declared.Module.{Module}
use Rattle.rules.specs.declared.Target.{Target}
use Rattle.rules.specs.declared.Target.TheVariants.{Base, Defined, Undefined, Barred}
use Rattle.rules.proofs.OutcomeLaws.{true_false}
use Rattle.rules.proofs.SignedLaws.{mod_add}
use Rattle.laws.proofs.Checks.{le_or_lt}
use Rattle.laws.proofs.Items.{entry_addend, entry-target}
use Rattle.laws.proofs.Places.{target-allowed}
use Rattle.demands.proofs.Fields.{le_below, info_kind, info_symbol}
use Rattle.demands.proofs.Reading.{Reads}
use Rattle.demands.proofs.Targets.{module_symbol}
use Rattle.demands.proofs.Standing.{packed_source}
use Rattle.rules.specs.Relocations as relocation
use Rattle.demands.specs.Writer.{Bytes}
use Rattle.demands.specs.Fields.{symbol_type, symbol_binding, symbol_section, symbol_value}
use Rattle.demands.specs.Targets.{kind_in, symbol_in, SymbolAt}
use Rattle.demands.specs.Demands.{Relocates, Sourced}
use Rattle.demands.specs.Demands as demand

-- numbers of eight bytes
byte_below : (f : List ℕ) (p : Option ℕ) → Bytes f → byte_of f p < 256
byte_below f None b = omega arith
byte_below f (Some x) b = b x

loaded_below : (f : List ℕ) (h : Headers) (n a : ℕ) → Bytes f → loaded_in f h n a < 256 ^ n
unfolding loaded_in
loaded_below f h zero a b = omega arith
loaded_below f h (suc n) a b =
    let l = loaded_below f h n (a + 1) b in let c = byte_below f (backing_of f h a 1) b in rw (pow-suc 256 n) (omega arith)

-- two signed numbers added are the unsigned ones added, modulo 2^64
mod_sum : (b a p : ℕ) → a < 2 ^ 64 → p < 2 ^ 64 → mod64 (pos b +ℤ signed a +ℤ signed p) ≡ (b + a + p) % 2 ^ 64
mod_sum b a p ha hp =
    mod_add (pos b +ℤ signed a) p hp
    ∙ (let e = mod_add (pos b) a ha in ap (λ (x : ℕ). (x + p) % 2 ^ 64) e ∙ omega arith)

module _ (f : List ℕ) (m : Module) (reads : Reads f m) (bytes : Bytes f) (bias : ℕ) (image : List ℕ)
    (held : (x : ℕ) → le 8 image x ≡ loaded_at f m.headers x) where
  module _ (k : ℕ) (l : k < m.relocations.entries) where
    abbrev A : ℕ
    A = le 8 f (entry_at m.relocations k + 16)

    abbrev L : ℕ
    L = loaded_at f m.headers (place_at f m k)

    kind_same : kind_in f m k ≡ kind_at f m k
    kind_same = info_kind f bytes m.relocations.at k

    -- a symbol by its entry
    named_sourced : (kinds : (kind_in f m k ≡ 257) ⊎ (kind_in f m k ≡ 1025)) (p : Option ℕ)
        → symbol_backing f m.headers (symbol_at f m k) m.symbols ≡ p → barred (named_target f p) ≡ false
        → Sourced f bias m image k (source_of bias (named_target f p) A L)
    unfolding named_target target_of relocation.symbol_of
    named_sourced kinds None e h = true_false h
    named_sourced kinds (Some x) e h =
        go (eqb (symbol_type f x) 6 || eqb (symbol_type f x) 10) (leb 0xff00 (symbol_section f x)) (eqb (symbol_section f x) 0) refl
        (eqb (symbol_binding f x) 2) h
      where
        stands : SymbolAt f m (symbol_in f m k) x
        stands = rw (info_symbol f bytes m.relocations.at k) (module_symbol f m reads (symbol_at f m k) x e)

        go : (a b c : Bool) → eqb (symbol_section f x) 0 ≡ c → (d : Bool)
            → barred (cond a Barred (cond b Barred (cond c (cond d Undefined Barred) (Defined (symbol_value f x))))) ≡ false
            → Sourced f bias m image k
            (source_of bias (cond a Barred (cond b Barred (cond c (cond d Undefined Barred) (Defined (symbol_value f x))))) A L)
        go true b c q d h = true_false h
        go false true c q d h = true_false h
        go false false true q true h = demand.undefined x l kinds stands (eqb-true (symbol_section f x) 0 q) refl
        go false false true q false h = true_false h
        go false false false q d h = let z = eqb-false (symbol_section f x) 0 q in demand.defined x l kinds stands (omega arith) refl

    entry_sourced : barred (target f m.headers m.symbols (kind_at f m k) (symbol_at f m k)) ≡ false
        → Sourced f bias m image k (source_of bias (target f m.headers m.symbols (kind_at f m k) (symbol_at f m k)) A L)
    unfolding target
    entry_sourced =
        go (eqb (kind_at f m k) relative) refl (eqb (symbol_at f m k) 0) (eqb (kind_at f m k) abs64) refl (eqb (kind_at f m k) glob_dat) refl
      where
        N : Target
        N = named_target f (symbol_backing f m.headers (symbol_at f m k) m.symbols)

        named : (kind_at f m k ≡ 257) ⊎ (kind_at f m k ≡ 1025) → barred N ≡ false → Sourced f bias m image k (source_of bias N A L)
        named kinds = named_sourced (rw kind_same kinds) (symbol_backing f m.headers (symbol_at f m k) m.symbols) refl

        go : (a : Bool) → eqb (kind_at f m k) relative ≡ a → (b c : Bool) → eqb (kind_at f m k) abs64 ≡ c
            → (d : Bool) → eqb (kind_at f m k) glob_dat ≡ d
            → barred (cond a (cond b Base Barred) (cond (c || d) (cond b Barred N) Barred)) ≡ false
            → Sourced f bias m image k (source_of bias (cond a (cond b Base Barred) (cond (c || d) (cond b Barred N) Barred)) A L)
        go true q true c r d s h =
            demand.relative l (kind_same ∙ eqb-true (kind_at f m k) relative q)
            (rw (held (place_at f m k)) (ap at (mod_sum bias A L (le_below 8 f _ bytes) (loaded_below f m.headers 8 (place_at f m k) bytes))))
        go true q false c r d s h = true_false h
        go false q true true r d s h = true_false h
        go false q true false r true s h = true_false h
        go false q b false r false s h = true_false h
        go false q false true r d s h = named (inl (eqb-true (kind_at f m k) abs64 r)) h
        go false q false false r true s h = named (inr (eqb-true (kind_at f m k) glob_dat s)) h

  pub sourced : relocations_check f m ≡ good tt → (k : ℕ) → Relocates f m k → Sourced f bias m image k (source_at f m bias k)
  sourced checked k e =
      ⊎_elim
      (λ (after : m.relocations.entries ≤ k).
      demand.packed (record { after = after; listed = e.listed })
      (packed_source f m bias k after ∙ ap (λ (x : ℕ). at (bias + x)) (sym (held (place_at f m k)))))
      (λ (before : k < m.relocations.entries).
      let t = target-allowed f m checked k e.listed e.unskipped in
      rw (entry-target f m k before, entry_addend f m k before) (entry_sourced k before (rw (entry-target f m k before) at t)))
      (le_or_lt m.relocations.entries k)
