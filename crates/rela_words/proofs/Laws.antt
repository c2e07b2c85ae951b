-- A word's low 64 bits are all that is written; and the write pass, item by item.
-- Assumes nothing.
use Rattle.std.proofs.Common.{◌≡◌, ℕ, zero, suc, ◌+◌, ◌-◌, ◌*◌, ◌/◌, ◌%◌, ◌^◌, ◌≤◌, List, [], ◌∷◌, ◌++◌, length, sym, refl, ap, ◌∙◌, add-zero}
use Rattle.std.proofs.Common.{add-suc, zero-add, arith, eq-eqb, ne_eqb}
use borrow.Author.Tests.{lt-leb}
use Rattle.rules.specs.Bytes.{le}
use Rattle.rules.specs.Memory.{bytes_of, put, put_word}
use Rattle.rules.specs.Relocations.{kind_at, place_at, live, target}
use Rattle.rules.specs.declared.Module.{Module}
use Rattle.rules.specs.Words.{source_tag}
use Rattle.rules.specs.declared.Target.{Target}
use Rattle.rules.specs.declared.Target.TheVariants.{Base, Defined, Undefined, Barred}
use Rattle.rules.proofs.MemoryLaws.{put-length}
use Rattle.rules.proofs.BoolLaws.{cond_case}
use Rattle.laws.proofs.Items.{entry-live, entry_place, entry_addend}
use Rattle.laws.proofs.Writes.{low_bytes}
use Rattle.rela_words.specs.Words.{loaded_for, put_entry, StandsAt, target_over, written, relocated_from, relocated}

-- ---- the low 64 bits

abbrev top_byte : ℕ → ℕ
top_byte w = w / 256 / 256 / 256 / 256 / 256 / 256 / 256 % 256

bytes_mod : (w : ℕ) → bytes_of 8 (w % 2 ^ 64) ≡ bytes_of 8 w
bytes_mod w =
    let v = w % 2 ^ 64 in
    let q : w ≡ v + 2 ^ 56 * (256 * (w / 2 ^ 64)) = omega arith in
    let low : bytes_of 7 v ≡ bytes_of 7 w = sym (ap (λ (x : ℕ). bytes_of 7 x) q ∙ low_bytes v (256 * (w / 2 ^ 64))) in
    let top : top_byte v ≡ top_byte w = omega arith in
    ap (λ (s : List ℕ). s ++ (top_byte v ∷ [])) low ∙ ap (λ (x : ℕ). bytes_of 7 w ++ (x ∷ [])) top

pub put_mod : (m : List ℕ) (at w : ℕ) → put_word m at (w % 2 ^ 64) ≡ put_word m at w
unfolding put_word
put_mod m at w = ap (λ (s : List ℕ). put m at s) (bytes_mod w)

-- the tag of a word is told by no more of its place than that
pub source_loaded : (plane : List ℕ) (bias n : ℕ) (t : Target) (addend loaded : ℕ)
    → source_tag plane bias n t addend (loaded_for t loaded) ≡ source_tag plane bias n t addend loaded
unfolding loaded_for
source_loaded plane bias n Base addend loaded = refl
source_loaded plane bias n (Defined value) addend loaded = refl
source_loaded plane bias n Undefined addend loaded = refl
source_loaded plane bias n Barred addend loaded = refl

-- ---- one item

module _ (f : List ℕ) (m : Module) (bias : ℕ) (plane mem : List ℕ) (i : ℕ) where
  module _ (at : ℕ) (s : StandsAt m i at) where
    pub entry_skipped : le 4 f (at + 8) ≡ 0 → written f m bias plane mem i ≡ mem
    unfolding written
    entry_skipped e =
        let k : kind_at f m i ≡ 0 = rw s.here e in
        rw (entry-live f m i s.entry, eq-eqb (kind_at f m i) 0 k)

    pub entry-written : (t : Target) → (le 4 f (at + 8) ≡ 0 → ⊥)
        → t ≡ target f m.headers m.symbols (le 4 f (at + 8)) (le 4 f (at + 12)) → written f m bias plane mem i ≡ put_entry f at t bias plane mem
    unfolding written target_over
    entry-written t e g =
        let k : kind_at f m i ≡ 0 → ⊥ = rw s.here e in
        let l = s.entry in
        rw (entry-live f m i l, ne_eqb (kind_at f m i) 0 k, entry_place f m i l, entry_addend f m i l, lt-leb m.relocations.entries i l, s.here, g)

-- ---- the write pass

module _ (f : List ℕ) (m : Module) (bias : ℕ) (plane : List ℕ) where
  pub relocated-length : (mem : List ℕ) (i n : ℕ) → length (relocated_from f m bias plane mem i n) ≡ length mem
  unfolding relocated_from written put_word
  relocated-length mem i zero = refl
  relocated-length mem i (suc n) =
      let h = relocated-length mem i n in
      cond_case (λ (l : List ℕ). length l ≡ length mem) (live f m (i + n)) _ _
      (λ t. put-length (relocated_from f m bias plane mem i n) (place_at f m (i + n)) _ ∙ h) (λ t. h)

  -- some items, and then more
  pub relocated_more : (mem : List ℕ) (a n : ℕ)
      → relocated_from f m bias plane (relocated f m bias plane mem a) a n ≡ relocated f m bias plane mem (a + n)
  unfolding relocated_from
  relocated_more mem a zero = rw add-zero
  relocated_more mem a (suc n) =
      let ih = relocated_more mem a n in
      rw (add-suc, zero-add) (ap (λ (s : List ℕ). written f m bias plane s (a + n)) ih)

  -- up to an index, and then on to another
  pub relocated_onward : (mem other : List ℕ) (a b : ℕ) → a ≤ b → other ≡ relocated f m bias plane mem a
      → relocated_from f m bias plane other a (b - a) ≡ relocated f m bias plane mem b
  relocated_onward mem other a b l e = let z : a + (b - a) ≡ b = omega arith in rw e (rw z at (relocated_more mem a (b - a)))

  -- none, and one more
  pub relocated_none : (mem : List ℕ) (a : ℕ) → relocated_from f m bias plane mem a (a - a) ≡ mem
  unfolding relocated_from
  relocated_none mem a = let z : a - a ≡ 0 = omega arith in rw z

  pub relocated_next : (mem other : List ℕ) (a i : ℕ) → a ≤ i → other ≡ relocated_from f m bias plane mem a (i - a)
      → written f m bias plane other i ≡ relocated_from f m bias plane mem a (i + 1 - a)
  unfolding relocated_from
  relocated_next mem other a i l e =
      let s : i + 1 - a ≡ suc (i - a) = omega arith in
      let z : a + (i - a) ≡ i = omega arith in
      rw (s, z, e)
