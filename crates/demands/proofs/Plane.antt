-- The plane that a load leaves: each global's granules hold its choice, all others 0.
-- Assumes nothing.
use Prim.Native.Nat.{ℕ, zero, suc, ◌+◌, ◌*◌, ◌-◌, ◌/◌, ◌≤◌, ◌<◌}
use mathlib.Core.Path.{◌≡◌, refl, ◌∙◌}
use mathlib.Core.Bool.{not, ◌&&◌}
use mathlib.Core.List.{List, [], ◌∷◌}
use mathlib.Core.Logic.{◌⊎◌, inl, inr, ⊎_elim}
use native.Mathlib.Nat.{eq-or-lt_of_le, le_of_suc-le-suc}
use native.Mathlib.Omega.{arith}
use lib.ListN.{length, get_or, replicate, length-replicate, get_or-replicate}
use lib.Dec.{leb, eqb}
use borrow.Author.Tests.{eqb-true, eqb-false, eq-eqb, leb-true, not-false}
use Rattle.rules.specs.Outcome.{good, require}
use Rattle.rules.specs.Limits.{granule}
use Rattle.rules.specs.Memory.{over, put}
use Rattle.rules.specs.Choices.{global_at, end_of, abuts, choice_least, choice_limit, bad_choice, choices_for}
use Rattle.rules.specs.Plane.{tagged, plane_of}
use Rattle.rules.specs.declared.Global.{Global}
use Rattle.rules.proofs.MemoryLaws.{put-length, put_before, put_after, put_in}
use Rattle.rules.proofs.OutcomeLaws.{and_left, and_right, and_then_good, require_held}
use Rattle.laws.proofs.Checks.{or_left, or_right, and_false, le_or_lt, faultless_all}
use Rattle.laws.proofs.Globals.{Rising}
use Rattle.demands.specs.Demands.{Within, Undescribed, Plane}

-- a list of one value, read anywhere
pub replicate_at : (n v x : ℕ) → (get_or (replicate n v) x 0 ≡ v) ⊎ (get_or (replicate n v) x 0 ≡ 0)
replicate_at zero v x = inr refl
replicate_at (suc n) v zero = inl refl
replicate_at (suc n) v (suc x) = replicate_at n v x

pub replicate_zero : (n x : ℕ) → get_or (replicate {A = ℕ} n 0) x 0 ≡ 0
replicate_zero n x = ⊎_elim (λ e. e) (λ e. e) (replicate_at n 0 x)

-- values below a bound stay below it
over_below : (b : ℕ) (d s : List ℕ) → ((x : ℕ) → get_or d x 0 < b) → ((x : ℕ) → get_or s x 0 < b) → (x : ℕ) → get_or (over d s) x 0 < b
unfolding over
over_below b [] s h g x = h x
over_below b (y ∷ d) [] h g x = h x
over_below b (y ∷ d) (z ∷ s) h g zero = g 0
over_below b (y ∷ d) (z ∷ s) h g (suc x) = over_below b d s (λ i. h (suc i)) (λ i. g (suc i)) x

put_below : (b : ℕ) (d : List ℕ) (a : ℕ) (s : List ℕ) → ((x : ℕ) → get_or d x 0 < b) → ((x : ℕ) → get_or s x 0 < b) → (x : ℕ)
    → get_or (put d a s) x 0 < b
unfolding put
put_below b d zero s h g x = over_below b d s h g x
put_below b [] (suc a) s h g x = h x
put_below b (y ∷ d) (suc a) s h g zero = h 0
put_below b (y ∷ d) (suc a) s h g (suc x) = put_below b d a s (λ i. h (suc i)) g x

-- ---- choices that pass check 14

pub record Chosen (gs : List Global) (choices : List ℕ) : Type 0 where
  pub counted : length choices ≡ length gs
  pub tag : (j : ℕ) → j < length gs → (choice_least ≤ get_or choices j 0) × (get_or choices j 0 ≤ choice_limit)
  pub differ : (j : ℕ) → suc j < length gs → end_of (global_at gs j) ≡ (global_at gs (suc j)).start → get_or choices j 0 ≡ get_or choices (suc j) 0 → ⊥

pub choices_chosen : (gs : List Global) (choices : List ℕ) → choices_for gs choices ≡ good tt → Chosen gs choices
unfolding choices_for bad_choice
choices_chosen gs choices e =
    let a = and_then_good (require (eqb (length choices) (length gs)) 14 (length gs)) _ e in
    let fine = faultless_all (bad_choice gs choices) 14 (length gs) a.rest in
    record {
      counted = eqb-true (length choices) (length gs) (require_held (eqb (length choices) (length gs)) 14 (length gs) a.here);
      tag = λ j l.
          let c = get_or choices j 0 in
          let t = not-false (leb choice_least c && leb c choice_limit) (or_left (not (leb choice_least c && leb c choice_limit)) _ (fine j l)) in
          (leb-true choice_least c (and_left (leb choice_least c) _ t), leb-true c choice_limit (and_right (leb choice_least c) _ t));
      differ = λ j l e q.
          let c = get_or choices (suc j) 0 in
          let z : suc j - 1 ≡ j = omega arith in
          let t = or_right (not (leb choice_least c && leb c choice_limit)) (abuts gs (suc j) && eqb (get_or choices (suc j - 1) 0) c) (fine (suc j) l) in
          let u = and_false (abuts gs (suc j)) (eqb (get_or choices (suc j - 1) 0) c) t (eq-eqb (end_of (global_at gs j)) (global_at gs (suc j)).start e) in
          eqb-false (get_or choices j 0) c (rw z at u) q;
    }

-- ---- the plane

module _ (gs : List Global) (choices : List ℕ) (p limit : ℕ) (rising : Rising gs limit) (fits : limit ≤ 16 * p) where
  tagged-length : (k : ℕ) → length (tagged gs choices (replicate p 0) k) ≡ p
  unfolding tagged
  tagged-length zero = length-replicate p 0
  tagged-length (suc k) = put-length (tagged gs choices (replicate p 0) k) ((global_at gs k).start / granule) _ ∙ tagged-length k

  tagged_in : (k j x : ℕ) → k ≤ length gs → j < k → Within (global_at gs j) x → get_or (tagged gs choices (replicate p 0) k) x 0 ≡ get_or choices j 0
  unfolding tagged
  tagged_in zero j x u l w = absurd (omega arith)
  tagged_in (suc k) j x u l w =
      let T = tagged gs choices (replicate p 0) k in
      let a = (global_at gs k).start / granule in
      let s = replicate (global_at gs k).granules (get_or choices k 0) in
      let len = tagged-length k in
      let size : length s ≡ (global_at gs k).granules = length-replicate (global_at gs k).granules (get_or choices k 0) in
      ⊎_elim
      (λ (e : j ≡ k).
      let v : Within (global_at gs k) x = rw (← e) w in
      let b = rising.each k (omega arith) in
      let q : a + (x - a) ≡ x = omega arith in
      let i : x - a < (global_at gs k).granules = omega arith in
      let r = put_in a (x - a) T s (omega arith) (omega arith) in
      rw e (rw q at r ∙ get_or-replicate (global_at gs k).granules (x - a) (get_or choices k 0) 0 i))
      (λ (m : j < k).
      let b = rising.each j (omega arith) in
      let c = rising.rise j k m (omega arith) in
      put_before a x T s (omega arith) ∙ tagged_in k j x (omega arith) m w)
      (eq-or-lt_of_le (le_of_suc-le-suc l))

  tagged_out : (k x : ℕ) → k ≤ length gs → ((j : ℕ) → j < k → Within (global_at gs j) x → ⊥)
      → get_or (tagged gs choices (replicate p 0) k) x 0 ≡ 0
  unfolding tagged
  tagged_out zero x u out = replicate_zero p x
  tagged_out (suc k) x u out =
      let T = tagged gs choices (replicate p 0) k in
      let a = (global_at gs k).start / granule in
      let s = replicate (global_at gs k).granules (get_or choices k 0) in
      let size : length s ≡ (global_at gs k).granules = length-replicate (global_at gs k).granules (get_or choices k 0) in
      let ih = tagged_out k x (omega arith) (λ j l. out j (omega arith)) in
      ⊎_elim
      (λ (above : a ≤ x).
      ⊎_elim
      (λ (past : a + (global_at gs k).granules ≤ x). put_after a x T s (omega arith) ∙ ih)
      (λ (within : x < a + (global_at gs k).granules). absurd (out k (omega arith) (record { first-granule = above; last_granule = within })))
      (le_or_lt (a + (global_at gs k).granules) x))
      (λ (below : x < a). put_before a x T s below ∙ ih)
      (le_or_lt a x)

  pub plane-holds : Plane gs choices p (plane_of gs choices p)
  plane-holds = record {
    plane-length = tagged-length (length gs);
    described = λ j x l w. tagged_in (length gs) j x (omega arith) l w;
    undescribed = λ x l out. tagged_out (length gs) x (omega arith) out;
  }

  -- every granule's tag, inside the plane or past it
  pub plane_empty : (x : ℕ) → Undescribed gs x → get_or (plane_of gs choices p) x 0 ≡ 0
  plane_empty x out = tagged_out (length gs) x (omega arith) out

  tagged-small : Chosen gs choices → (k x : ℕ) → k ≤ length gs → get_or (tagged gs choices (replicate p 0) k) x 0 < 16
  unfolding tagged
  tagged-small c zero x u = let z = replicate_zero p x in omega arith
  tagged-small c (suc k) x u =
      let t = c.tag k (omega arith) in
      put_below 16 (tagged gs choices (replicate p 0) k) ((global_at gs k).start / granule) (replicate (global_at gs k).granules (get_or choices k 0))
      (λ i. tagged-small c k i (omega arith))
      (λ i. ⊎_elim (λ e. omega arith) (λ e. omega arith) (replicate_at (global_at gs k).granules (get_or choices k 0) i)) x

  pub plane-small : Chosen gs choices → (x : ℕ) → get_or (plane_of gs choices p) x 0 < 16
  plane-small c x = tagged-small c (length gs) x (omega arith)
