-- Where the globals are known, the walks are check 14 and the rules' plane.
-- Assumes nothing.
use Prim.Native.Nat.{ℕ, zero, suc, ◌+◌, ◌-◌, ◌<◌}
use mathlib.Core.Path.{◌≡◌, refl}
use mathlib.Core.Bool.{Bool, true, false, cond}
use mathlib.Core.List.{List, []}
use native.Mathlib.Numerals.{add-one, sub-one}
use native.Mathlib.Omega.{arith}
use lib.ListN.{length, get_or, replicate}
use borrow.Author.Tests.{eq-eqb, ne_eqb}
use Rattle.rules.specs.Outcome.{Outcome, good, bad, found, refuse}
use Rattle.rules.specs.Checks.{Check}
use Rattle.rules.specs.First.{first, fault_at}
use Rattle.rules.specs.Descriptors.{table_start, descriptor_table, globals_of}
use Rattle.rules.specs.Choices.{global_at, end_of, bad_choice, choices_for}
use Rattle.rules.specs.Plane.{put_tag, tagged, plane_of}
use Rattle.rules.specs.Answers.{count_of}
use Rattle.rules.specs.declared.Headers.{Headers}
use Rattle.rules.specs.declared.Descriptors.{Descriptors}
use Rattle.rules.specs.declared.Global.{Global}
use Rattle.rules.specs.declared.Cursor.{Cursor}
use Rattle.laws.proofs.Globals.{Walk, walk_start, walk_step}
use Rattle.tags.specs.Walks.{bad_after, choices_from, tagged_from}
use Rattle.rules.proofs.OutcomeLaws.{never}

-- globals that were counted are there, as many as the count
pub counted : (x : Outcome (List Global)) (n : ℕ) → count_of x ≡ good n → (x ≡ good (found [] x)) × (length (found [] x) ≡ n)
counted (good gs) n e = (refl, cc)
counted (bad r) n e = search never

-- ---- check 14

-- the test on plain numbers is the rule's
bad_after_lem : (gs : List Global) (choices : List ℕ) (i end last : ℕ) → (0 < i → end ≡ end_of (global_at gs (i - 1)))
    → (0 < i → last ≡ get_or choices (i - 1) 0) → bad_after i end last (global_at gs i).start (get_or choices i 0) ≡ bad_choice gs choices i
unfolding bad_after bad_choice
bad_after_lem gs choices zero end last h k = refl
bad_after_lem gs choices (suc i) end last h k =
    let e = h (omega arith) in
    let l = k (omega arith) in
    rw (e, l, sub-one, ne_eqb (suc i) 0 (λ q. omega arith))

module _ (f : List ℕ) (h : Headers) (s : List ℕ) (gs : List Global) (choices : List ℕ) where
  -- the n choices from the index i on
  choices_walk : (n i last : ℕ) (c : Cursor) → Walk f h s gs i c → i + n ≡ length gs → (0 < i → last ≡ get_or choices (i - 1) 0)
      → choices_from s choices n i last c ≡ fault_at 14 (λ j. j) (i + n) (first (bad_choice gs choices) i n)
  unfolding choices_from first
  choices_walk zero i last c w l k = rw (eq-eqb i (i + 0) (omega arith))
  choices_walk (suc n) i last c w l k =
      let t = walk_step f h s gs i c w (omega arith) in
      let b = bad_after_lem gs choices i c.end last w.last k in
      let z : i + 1 - 1 ≡ i = omega arith in
      rw (t.here, b) (go (bad_choice gs choices i) _ (choices_walk n (i + 1) (get_or choices i 0) t.next t.walk (omega arith) (λ q. rw z)))
    where
      go : (b : Bool) (rest : Check) → rest ≡ fault_at 14 (λ j. j) (i + 1 + n) (first (bad_choice gs choices) (i + 1) n)
          → cond b (refuse 14 i) rest ≡ fault_at 14 (λ j. j) (i + suc n) (cond b i (first (bad_choice gs choices) (i + 1) n))
      go true rest e = rw (ne_eqb i (i + suc n) (λ q. omega arith))
      go false rest e = let z : i + 1 + n ≡ i + suc n = omega arith in rw z at e

  -- the plane after the n globals from the index i on
  tagged_walk : (clear plane : List ℕ) (n i : ℕ) (c : Cursor) → Walk f h s gs i c → i + n ≡ length gs → plane ≡ tagged gs choices clear i
      → tagged_from s choices plane n i c ≡ tagged gs choices clear (length gs)
  unfolding tagged_from tagged
  tagged_walk clear plane zero i c w l d = let e : length gs ≡ i = omega arith in rw e d
  tagged_walk clear plane (suc n) i c w l d =
      let t = walk_step f h s gs i c w (omega arith) in
      rw t.here
      (tagged_walk clear (put_tag plane (global_at gs i) (get_or choices i 0)) n (i + 1) t.next t.walk (omega arith) (rw (add-one, d)))

-- ---- of the globals that a table lists

module _ (f : List ℕ) (h : Headers) (t : Descriptors) (gs : List Global) (e : globals_of f h t ≡ good gs) (choices : List ℕ) where
  pub choices_wrong : (n : ℕ) → length gs ≡ n → (length choices ≡ n → ⊥) → choices_for gs choices ≡ refuse 14 n
  unfolding choices_for
  choices_wrong n l d = rw (l, ne_eqb (length choices) n d)

  pub choices_each : (n : ℕ) → length gs ≡ n → length choices ≡ n
      → choices_from (descriptor_table f t) choices n 0 0 table_start ≡ choices_for gs choices
  unfolding choices_for
  choices_each n l d =
      let z : 0 + n ≡ n = omega arith in
      rw (l, eq-eqb (length choices) n d)
      (rw z at (choices_walk f h (descriptor_table f t) gs choices n 0 0 table_start (walk_start f h t gs e) (omega arith) (λ q. absurd (omega arith))))

  pub plane-tagged : (n : ℕ) → length gs ≡ n → (size : ℕ)
      → tagged_from (descriptor_table f t) choices (replicate size 0) n 0 table_start ≡ plane_of gs choices size
  unfolding tagged
  plane-tagged n l size =
      tagged_walk f h (descriptor_table f t) gs choices (replicate size 0) (replicate size 0) n 0 table_start (walk_start f h t gs e) (omega arith) refl
