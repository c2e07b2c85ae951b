-- Tags that are counted and tried, and the table: the first tag that is allowed from each start on, and the one after it.
-- Assumes nothing.
use Prim.Native.Nat.{ℕ, zero, suc, max, ◌+◌, ◌*◌, ◌-◌, ◌/◌, ◌%◌, ◌^◌, ◌≤◌, ◌<◌}
use mathlib.Core.Path.{◌≡◌, refl, sym, ap, ◌∙◌}
use mathlib.Core.Bool.{Bool, true, false, cond, not, ◌&&◌}
use mathlib.Core.List.{List}
use mathlib.Core.Logic.{⊎_elim}
use native.Mathlib.Nat.{eq-or-lt_of_le, add_comm, mod-lt}
use native.Mathlib.Numerals.{add-one}
use native.Mathlib.Omega.{arith}
use lib.Count.{ones_in, ones, ones_cat}
use lib.ListN.{length, get_or, set, length-set}
use lib.Seq.{get_or-set_same, get_or-set_other}
use lib.Dec.{eqb}
use borrow.Author.Tests.{eq-eqb, ne_eqb, eqb-true, eqb-false}
use Rattle.std.specs.Int.{bit_at, bit_not, count_zeros, w16}
use Rattle.std.specs.Int.Bits.{bit_or}
use Rattle.std.proofs.lemmas.Nat.{pow_pos, mod-pow-add, or_of_16}
use Rattle.std.proofs.lemmas.Nat.Bits.{bit_at_or, bit_at_not, bit_at-pow_other}
use Rattle.rules.specs.First.{first, count_below}
use Rattle.rules.specs.Picker.{tag_count, allowed, tags_allowed, tag_up, suits, pick_of}
use Rattle.rules.proofs.OutcomeLaws.{true_false, and_left}
use Rattle.rules.proofs.BoolLaws.{and_false, cond_case}
use Rattle.rules.proofs.FirstLaws.{first_is, first_true, first_below}
use Rattle.laws.proofs.Checks.{le_or_lt}
use Rattle.laws.proofs.Picks.{up_to, up_reaches, pick_low, pick_is, pick_near, allowed_least}
use Rattle.tag_pairs.specs.Pairs.{Suited, next_of, Pairs}

-- ---- tags

-- as many of the lowest k bits are set as there are indices of one that is
ones_below : (m k : ℕ) → ones (m % 2 ^ k) ≡ count_below (λ i. eqb (bit_at m i) 1) k
unfolding count_below ones ones_in
ones_below m zero = let z : m % 1 ≡ 0 = omega arith in rw z refl
ones_below m (suc k) =
    let split : m % 2 ^ suc k ≡ bit_at m k * 2 ^ k + m % 2 ^ k = ap (λ (j : ℕ). m % 2 ^ j) (sym (add-one k) ∙ add_comm k 1) ∙ mod-pow-add m 1 k in
    ap ones split ∙ ones_cat k (bit_at m k) (m % 2 ^ k) (mod-lt m (pow_pos k)) ∙ rw (ones_below m k, one_bit (bit_at m k) (omega arith)) (add_comm _ _)
  where
    one_bit : (b : ℕ) → b < 2 → ones b ≡ cond (eqb b 1) 1 0
    one_bit zero l = refl
    one_bit (suc zero) l = refl
    one_bit (suc (suc b)) l = absurd (omega arith)

count_same : (f g : ℕ → Bool) (n : ℕ) → ((i : ℕ) → i < n → f i ≡ g i) → count_below f n ≡ count_below g n
unfolding count_below
count_same f g zero h = refl
count_same f g (suc n) h = rw (count_same f g n (λ i l. h i (omega arith)), h n (omega arith)) refl

-- a bit is clear beside bit 0, which is set
clear_bit : (x i : ℕ) → eqb (1 - max (bit_at x i) (bit_at 1 i)) 1 ≡ allowed x i
unfolding allowed
clear_bit x zero = let e : 1 - max (bit_at x 0) (bit_at 1 0) ≡ 0 = omega arith in rw e refl
clear_bit x (suc i) = rw (bit_at-pow_other 0 (suc i) (λ q. omega arith), ne_eqb (suc i) 0 (λ z. omega arith)) (go (bit_at x (suc i)) (omega arith))
  where
    go : (b : ℕ) → b < 2 → eqb (1 - max b 0) 1 ≡ (true && eqb b 0)
    go zero l = refl
    go (suc zero) l = refl
    go (suc (suc b)) l = absurd (omega arith)

-- the tags that are allowed are the clear bits, where bit 0 counts as set
pub clear_allowed : (x : ℕ) → x < 2 ^ 16 → count_zeros w16 (bit_or x 1) ≡ tags_allowed x
unfolding tags_allowed
clear_allowed x l =
    let n = bit_or x 1 in
    let low : bit_not w16 n % 2 ^ 16 ≡ bit_not w16 n = omega arith in
    ap ones (sym low) ∙ ones_below (bit_not w16 n) 16 ∙ count_same _ _ 16
    (λ i h. rw (bit_at_not w16 n i (or_of_16 x 1 l (omega arith)) h, bit_at_or x 1 i) (clear_bit x i))

-- beside 0 every tag that is allowed suits
pub suits_untagged : (x tag : ℕ) → suits x 0 tag ≡ allowed x tag
suits_untagged x tag = go (allowed x tag) refl
  where
    go : (y : Bool) → allowed x tag ≡ y → (y && not (eqb tag 0)) ≡ y
    go true e = let l = allowed_least x tag e in rw (ne_eqb tag 0 (λ q. omega arith))
    go false e = refl

-- ---- the first tag that is allowed, and the one after it

-- a tag that suits beside another is allowed, and one that is not allowed suits beside none
suits_alone : (x b tag : ℕ) → suits x b tag ≡ true → suits x 0 tag ≡ true
suits_alone x b tag h = rw (suits_untagged x tag) (and_left (allowed x tag) _ h)

suits_none : (x b tag : ℕ) → suits x 0 tag ≡ false → suits x b tag ≡ false
suits_none x b tag h = let e = rw (suits_untagged x tag) at h in rw e

pub suited_alone : (x b : ℕ) → Suited x b → Suited x 0
suited_alone x b some = record { tag = some.tag; low = some.low; fit = suits_alone x b some.tag some.fit }

-- up from the tag after one that is k up
up_after : (random k m : ℕ) → tag_up ((tag_up random k + 1) % tag_count) m ≡ tag_up random (k + 1 + m)
up_after random k m = omega arith

up_one : (s m : ℕ) → tag_up ((s + 1) % tag_count) m ≡ tag_up s (0 + 1 + m)
up_one s m = omega arith

-- tags on one way round differ
up_apart : (random k m : ℕ) → k < m → m < tag_count → tag_up random k ≡ tag_up random m → ⊥
up_apart random k m l h e = omega arith

-- no tag that is fewer than k up from a random byte is allowed
abbrev NoneBelow : ℕ → ℕ → ℕ → Type 0
NoneBelow x random k = (j : ℕ) → j < k → suits x 0 (tag_up random j) ≡ false

-- none is allowed before the tag that is one up, which does not suit; from there on none before the one that is two up, which suits;
-- and the one that is far up suits
module _ (x b random one two far : ℕ) (none : NoneBelow x random one) (bars : suits x b (tag_up random one) ≡ false)
    (between : NoneBelow x ((tag_up random one + 1) % tag_count) two)
    (fits : one + 1 + two < tag_count → suits x b (tag_up random (one + 1 + two)) ≡ true)
    (low : far < tag_count) (fit : suits x b (tag_up random far) ≡ true) where
  far_free : suits x 0 (tag_up random far) ≡ true
  far_free = suits_alone x b (tag_up random far) fit

  one_far : one < far
  one_far =
      ⊎_elim
      (λ (l : far ≤ one). ⊎_elim
      (λ (q : far ≡ one). true_false (sym fit ∙ rw q bars))
      (λ (q : far < one). true_false (sym far_free ∙ none far q))
      (eq-or-lt_of_le l))
      (λ (l : one < far). l)
      (le_or_lt far one)

  -- a tag between the two
  between_free : (k : ℕ) → one < k → k < one + 1 + two → suits x 0 (tag_up random k) ≡ false
  between_free k l h =
      let s : one + 1 + (k - one - 1) ≡ k = omega arith in
      ap (λ (j : ℕ). suits x 0 (tag_up random j)) (sym s) ∙ (rw (up_after random one (k - one - 1)) at (between (k - one - 1) (omega arith)))

  two_far : one + 1 + two ≤ far
  two_far = ⊎_elim (λ l. l) (λ (l : far < one + 1 + two). true_false (sym far_free ∙ between_free far one_far l)) (le_or_lt (one + 1 + two) far)

  before : (k : ℕ) → k < one + 1 + two → suits x b (tag_up random k) ≡ false
  before k l =
      ⊎_elim
      (λ (h : k ≤ one). ⊎_elim
      (λ (q : k ≡ one). rw q bars)
      (λ (q : k < one). suits_none x b (tag_up random k) (none k q))
      (eq-or-lt_of_le h))
      (λ (h : one < k). suits_none x b (tag_up random k) (between_free k h l))
      (le_or_lt k one)

  second_pick : tag_up ((tag_up random one + 1) % tag_count) two ≡ pick_of x b random
  second_pick =
      let r = two_far in
      up_after random one two ∙ pick_is x b random (one + 1 + two) (omega arith) (fits (omega arith)) before

-- where a tag suits, the pick is the first that is allowed, or where that is barred the one after it
module _ (x b random : ℕ) (some : Suited x b) where
  -- the search for a tag that is allowed finds one, from wherever it starts
  abbrev up : ℕ → ℕ
  up from = first (λ k. suits x 0 (tag_up from k)) 0 tag_count

  up_low : (from : ℕ) → up from < tag_count
  up_low from = pick_near x 0 from some.tag some.low (suits_alone x b some.tag some.fit)

  up_none : (from : ℕ) → NoneBelow x from (up from)
  up_none from j l = first_below (λ k. suits x 0 (tag_up from k)) tag_count 0 j (omega arith) l

  up_free : (from : ℕ) → suits x 0 (tag_up from (up from)) ≡ true
  up_free from = first_true (λ k. suits x 0 (tag_up from k)) tag_count 0 (up_low from)

  far_fits : suits x b (tag_up random (up_to random some.tag)) ≡ true
  far_fits = rw (up_reaches random some.tag some.low) some.fit

  pub pick_one : (pick_of x 0 random ≡ b → ⊥) → pick_of x 0 random ≡ pick_of x b random
  unfolding pick_of
  pick_one d =
      let a = rw (suits_untagged x (tag_up random (up random))) at (up_free random) in
      pick_is x b random (up random) (up_low random) (rw (a, ne_eqb (tag_up random (up random)) b d))
      (λ j l. suits_none x b (tag_up random j) (up_none random j l))

  pub pick_next : pick_of x 0 random ≡ b → next_of x (pick_of x 0 random) ≡ pick_of x b random
  unfolding pick_of
  pick_next e =
      let start = (pick_of x 0 random + 1) % tag_count in
      second_pick x b random (up random) (up start) (up_to random some.tag) (up_none random)
      (rw (e, eq-eqb b b refl) (and_false (allowed x b))) (up_none start)
      (λ l.
      let a = rw (up_after random (up random) (up start), suits_untagged x (tag_up random (up random + 1 + up start))) at (up_free start) in
      rw (
        a,
        ne_eqb (tag_up random (up random + 1 + up start)) b
            (λ q. up_apart random (up random) (up random + 1 + up start) (omega arith) l (e ∙ sym q)),
      ))
      (omega arith) far_fits

-- the first tag from a start on is the start, where that is allowed; else it is the first from the next start on
pub pick_here : (x s : ℕ) → s < tag_count → allowed x s ≡ true → s ≡ pick_of x 0 s
pick_here x s l h =
    let e : tag_up s 0 ≡ s = omega arith in
    sym e ∙ pick_is x 0 s 0 (omega arith) (rw (e, suits_untagged x s) h) (λ j k. absurd (omega arith))

pub pick_later : (x s : ℕ) → s < tag_count → allowed x s ≡ false → Suited x 0 → pick_of x 0 ((s + 1) % tag_count) ≡ pick_of x 0 s
unfolding pick_of
pick_later x s l h some =
    let e : tag_up s 0 ≡ s = omega arith in
    let two = up x 0 s some ((s + 1) % tag_count) in
    let free : suits x 0 (tag_up s (0 + 1 + two)) ≡ true = rw (← up_one s two) (up_free x 0 s some ((s + 1) % tag_count)) in
    let r = second_pick x 0 s 0 two (up_to s some.tag) (λ j k. absurd (omega arith)) (rw (e, suits_untagged x s) h)
    (rw e (up_none x 0 s some ((s + 1) % tag_count))) (λ _. free) (omega arith) (far_fits x 0 s some) in
    rw e at r

-- the first tag from a start on, by the numbers from the start on that were tried; where none is allowed, the start
pub pick_found : (x s n : ℕ) → s < tag_count → s ≤ n → n ≤ s + tag_count → (n < s + tag_count → true ≡ allowed x (n % tag_count))
    → ((k : ℕ) → s ≤ k → k < n → false ≡ allowed x (k % tag_count)) → n % tag_count ≡ pick_of x 0 s
unfolding pick_of
pick_found x s n l a b hit none =
    let k = n - s in
    let e : tag_up s k ≡ n % tag_count = omega arith in
    sym e ∙ ap (tag_up s) (first_is (λ j. suits x 0 (tag_up s j)) tag_count k (omega arith)
    (λ m. rw (e, suits_untagged x (n % tag_count)) (sym (hit (omega arith))))
    (λ j m. let q : tag_up s j ≡ (s + j) % tag_count = omega arith in
    rw (q, suits_untagged x ((s + j) % tag_count)) (sym (none (s + j) (omega arith) (omega arith)))))

-- only the start counts
start_same : (x b random : ℕ) → pick_of x b (random % tag_count) ≡ pick_of x b random
unfolding pick_of
start_same x b random = let e : random % tag_count % tag_count ≡ random % tag_count = omega arith in rw e

-- ---- the table

-- two tags below 256 as one number, taken apart
low_tag : (p v w : ℕ) → v < tag_count → p ≡ v + 256 * w → p % 256 ≡ v
low_tag p v w l e = omega arith

shifted : (p b v w : ℕ) → v < tag_count → w < tag_count → p ≡ v + 256 * w → p / 2 ^ cond (eqb (p % 256) b) 8 0 % 256 ≡ cond (eqb v b) w v
shifted p b v w l m e = rw (low_tag p v w l e) (go (eqb v b))
  where
    go : (y : Bool) → p / 2 ^ cond y 8 0 % 256 ≡ cond y w v
    go true = omega arith
    go false = omega arith

-- the first tag, or where that is barred the one after it
pick_either : (x b random : ℕ) → Suited x b → cond (eqb (pick_of x 0 random) b) (next_of x (pick_of x 0 random)) (pick_of x 0 random) ≡ pick_of x b random
pick_either x b random some =
    cond_case (λ (v : ℕ). v ≡ pick_of x b random) (eqb (pick_of x 0 random) b) _ _
    (λ e. pick_next x b random some (eqb-true _ b e)) (λ e. pick_one x b random some (eqb-false _ b e))

-- a global's tag by the table
module _ (x last random : ℕ) (t : List ℕ) (pairs : Pairs x t) where
  abbrev start : ℕ
  start = random % tag_count

  abbrev tag : ℕ
  tag = pick_of x 0 start

  abbrev taken : ℕ → ℕ
  taken p = p / 2 ^ cond (eqb (p % 256) last) 8 0 % 256

  pub table_pick : (abutting : Bool) → Suited x (cond abutting last 0)
      → taken (get_or t (cond abutting tag_count 0 + start) 0) ≡ pick_of x (cond abutting last 0) random
  table_pick true some =
      let z : tag_count + start ≡ start + tag_count = omega arith in
      rw z (shifted _ last tag (next_of x tag) (pick_low x 0 start) (pick_low x 0 _) (pairs.abutting start (omega arith)))
      ∙ pick_either x last start some ∙ start_same x last random
  table_pick false some =
      let z : 0 + start ≡ start = omega arith in
      let same : cond (eqb tag last) tag tag ≡ tag = cond_case (λ (v : ℕ). v ≡ tag) (eqb tag last) tag tag (λ _. refl) (λ _. refl) in
      rw z (shifted _ last tag tag (pick_low x 0 start) (pick_low x 0 start) (pairs.apart start (omega arith))) ∙ same ∙ start_same x 0 random

-- the filling, going down, with so many starts done: the first tag from the last of them on, the one after it, and the table from there on
pub record Filled (x done tag next : ℕ) (t : List ℕ) : Type 0 where
  pub first : tag ≡ pick_of x 0 ((tag_count - done) % tag_count)
  pub second : next ≡ next_of x tag
  pub apart : (s : ℕ) → tag_count - done ≤ s → s < tag_count → get_or t s 0 ≡ pick_of x 0 s + 256 * pick_of x 0 s
  pub abutting : (s : ℕ) → tag_count - done ≤ s → s < tag_count → get_or t (s + tag_count) 0 ≡ pick_of x 0 s + 256 * next_of x (pick_of x 0 s)

pub filled_pairs : (x done tag next : ℕ) (t : List ℕ) → tag_count ≤ done → Filled x done tag next t → Pairs x t
filled_pairs x done tag next t l h = record { apart = λ s k. h.apart s (omega arith) k; abutting = λ s k. h.abutting s (omega arith) k }

-- the table with the two entries of a start
abbrev pub with_pairs : List ℕ → ℕ → ℕ → ℕ → List ℕ
with_pairs t start v w = set (set t start (v + 256 * v)) (start + tag_count) (v + 256 * w)

module _ (x done tag next : ℕ) (t : List ℕ) (n : length t ≡ 2 * tag_count) (l : done < tag_count) where
  abbrev here : ℕ
  here = tag_count - 1 - done

  -- an entry of the first row, and one of the second, by whether it is this start's
  low_entry : (v w k : ℕ) → k < tag_count → get_or (with_pairs t here v w) k 0 ≡ get_or (set t here (v + 256 * v)) k 0
  low_entry v w k b = get_or-set_other (set t here (v + 256 * v)) (here + tag_count) k _ 0 (λ z. omega arith)

  high_entry : (v w k : ℕ) → (k ≡ here → ⊥) → get_or (with_pairs t here v w) (k + tag_count) 0 ≡ get_or t (k + tag_count) 0
  high_entry v w k d =
      get_or-set_other (set t here (v + 256 * v)) (here + tag_count) (k + tag_count) _ 0 (λ z. d (omega arith))
      ∙ get_or-set_other t here (k + tag_count) _ 0 (λ z. omega arith)

  -- one start more
  filled_next : (v w : ℕ) → Filled x done tag next t → v ≡ pick_of x 0 here → w ≡ next_of x v → Filled x (done + 1) v w (with_pairs t here v w)
  filled_next v w h e d =
      let s : (tag_count - (done + 1)) % tag_count ≡ here = omega arith in
      let m : length (set t here (v + 256 * v)) ≡ length t = length-set t here (v + 256 * v) in
      record {
        first = rw s e;
        second = d;
        apart = λ k a b. ⊎_elim
            (λ (q : here ≡ k). low_entry v w k b ∙ rw (← q, get_or-set_same t here (v + 256 * v) 0 (omega arith), e))
            (λ (q : here < k). low_entry v w k b ∙ get_or-set_other t here k _ 0 (λ z. omega arith) ∙ h.apart k (omega arith) b)
            (eq-or-lt_of_le (omega arith));
        abutting = λ k a b. ⊎_elim
            (λ (q : here ≡ k). rw (← q, get_or-set_same (set t here (v + 256 * v)) (here + tag_count) (v + 256 * w) 0 (omega arith), d, e))
            (λ (q : here < k). high_entry v w k (λ z. omega arith) ∙ h.abutting k (omega arith) b)
            (eq-or-lt_of_le (omega arith));
      }

  pub filled_allowed : Filled x done tag next t → allowed x here ≡ true → Filled x (done + 1) here tag (with_pairs t here here tag)
  filled_allowed h a =
      let s : (tag_count - done) % tag_count ≡ (here + 1) % tag_count = omega arith in
      filled_next here tag h (pick_here x here (omega arith) a) (rw (← s) h.first)

  pub filled_other : Filled x done tag next t → Suited x 0 → allowed x here ≡ false → Filled x (done + 1) tag next (with_pairs t here tag next)
  filled_other h some a =
      let s : (tag_count - done) % tag_count ≡ (here + 1) % tag_count = omega arith in
      filled_next tag next h (h.first ∙ rw s (pick_later x here (omega arith) a some)) h.second
