-- What a place holds before its own write is what was loaded, so the write pass is the rules' run of writes.
-- Assumes nothing.
use Rattle.std.proofs.Common.{◌≡◌, ℕ, zero, suc, ◌+◌, ◌<◌, ◌≤◌, Bool, true, false, List, length, get_or, ℤ, pos, negsuc, refl, inl, inr, ⊎_elim}
use Rattle.std.proofs.Common.{arith, le-leb, leb-false}
use Rattle.rules.specs.Limits.{address_limit}
use Rattle.rules.specs.Bytes.{le}
use Rattle.rules.specs.Memory.{put_word, mod64}
use Rattle.rules.specs.Relocations.{place_at, addend_at, live}
use Rattle.rules.specs.Addresses.{address_of, out_of_range, natural}
use Rattle.rules.specs.Words.{writes}
use Rattle.rules.specs.declared.Module.{Module}
use Rattle.rules.specs.declared.Target.TheVariants.{Defined}
use Rattle.rules.proofs.OutcomeLaws.{never}
use Rattle.laws.proofs.Checks.{cond_both}
use Rattle.laws.proofs.Items.{packed-live, packed_addend}
use Rattle.laws.proofs.Writes.{Apart, apart_fewer, writes-length, writes_other}
use Rattle.rela_words.specs.Words.{target_word, target_over, word_in, written, relocated_from, relocated}

-- an address in range is its own rest modulo 2^64
mod_natural : (z : ℤ) → out_of_range z ≡ false → mod64 z ≡ natural z
mod_natural (pos x) h = let l = leb-false address_limit x h in omega arith
mod_natural (negsuc x) h = search never

-- ---- what a place holds

-- memories that agree in n bytes hold the same number there
pub le_same : (n : ℕ) (s t : List ℕ) (at : ℕ) → ((j : ℕ) → j < n → get_or s (at + j) 0 ≡ get_or t (at + j) 0) → le n s at ≡ le n t at
unfolding le
le_same zero s t at e = refl
le_same (suc n) s t at e =
    let z : at + 0 ≡ at = omega arith in
    let b : get_or s at 0 ≡ get_or t at 0 = rw z at (e 0 (omega arith)) in
    let q : le n s (at + 1) ≡ le n t (at + 1) = le_same n s t (at + 1) (λ j l.
    let g : at + 1 + j ≡ at + suc j = omega arith in rw g (e (suc j) (omega arith))) in
    rw (b, q)

-- the bytes at a place, before its own write
pub place_kept : (live : ℕ → Bool) (place w : ℕ → ℕ) (m : List ℕ) (n : ℕ) → Apart live place (length m) 0 n → (k : ℕ) → k < n
    → live k ≡ true
    → le 8 (writes live place w m 0 k) (place k) ≡ le 8 m (place k)
place_kept live place w m n a k l t =
    le_same 8 (writes live place w m 0 k) m (place k) (λ j b. writes_other live place m 0 w k (place k + j) (λ i g h s.
    ⊎_elim (λ below. inr (omega arith)) (λ above. inl (omega arith)) (a.apart i k g (omega arith) (omega arith) s t)))

-- ---- a packed place

module _ (f : List ℕ) (m : Module) (bias : ℕ) (plane mem : List ℕ) (i : ℕ) where
  pub packed-written : (place : ℕ) → m.relocations.entries ≤ i → place_at f m i ≡ place
      → written f m bias plane mem i ≡ put_word mem place (target_word plane bias mem (Defined (le 8 mem place)) 0 place)
  unfolding written target_over
  packed-written place l e = rw (packed-live f m i l, packed_addend f m i l, le-leb m.relocations.entries i l, e)

-- ---- the write pass

module _ (f : List ℕ) (m : Module) (bias : ℕ) (plane : List ℕ) where
  -- a place that holds the same has the same target
  target-kept : (mem other : List ℕ) (i : ℕ) → le 8 mem (place_at f m i) ≡ le 8 other (place_at f m i) → target_over f m mem i ≡ target_over f m other i
  unfolding target_over
  target-kept mem other i e = rw e

  -- is the rules' run of writes, where the places are apart and the addresses in range
  pub relocated-writes : (mem : List ℕ) (n : ℕ) → Apart (live f m) (place_at f m) (length mem) 0 n
      → ((k : ℕ) → k < n → live f m k ≡ true → out_of_range (address_of bias (target_over f m mem k) (addend_at f m k)) ≡ false)
      → relocated f m bias plane mem n ≡ writes (live f m) (place_at f m) (word_in f m bias plane mem) mem 0 n
  unfolding relocated_from written writes
  relocated-writes mem zero a r = refl
  relocated-writes mem (suc n) a r =
      let W = word_in f m bias plane mem in
      let A = writes (live f m) (place_at f m) W mem 0 n in
      let h = relocated-writes mem n (apart_fewer (live f m) (place_at f m) (length mem) 0 n a) (λ k l. r k (omega arith)) in
      let z : 0 + n ≡ n = omega arith in
      rw (z, h)
      (cond_both (λ (x y : List ℕ). x ≡ y) (live f m n) _ _ _ _
      (λ t.
      let len : length A ≡ length mem = writes-length (live f m) (place_at f m) mem 0 W n in
      let kept : le 8 A (place_at f m n) ≡ le 8 mem (place_at f m n) = place_kept (live f m) (place_at f m) W mem (suc n) a n (omega arith) t in
      rw (target-kept A mem n kept, len, kept, mod_natural (address_of bias (target_over f m mem n) (addend_at f m n)) (r n (omega arith) t)))
      (λ t. refl))
