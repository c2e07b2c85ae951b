-- The picker takes what it should, each pick is the first good tag, and 8 is answered exactly where no list of choices meets the rules.
-- Assumes nothing.
use Prim.Native.Nat.{ℕ, zero, suc, ◌+◌, ◌*◌, ◌/◌, ◌%◌, ◌^◌, ◌≤◌, ◌<◌}
use mathlib.Core.Path.{◌≡◌, refl, sym, ◌∙◌}
use mathlib.Core.Bool.{Bool, true, false, not, ◌&&◌}
use mathlib.Core.List.{List, []}
use mathlib.Core.Logic.{inl, inr}
use native.Mathlib.Omega.{arith}
use lib.ListN.{length, get_or}
use lib.Seq.{ext_get_or}
use lib.Dec.{eqb, leb}
use borrow.Author.Tests.{eq-eqb, ne_eqb, eqb-true, eqb-false, leb-true, leb-false, le-leb, not-true}
use Rattle.rules.specs.Outcome.{Outcome, good, bad, require, Refusal}
use Rattle.rules.specs.Checks.{All, First}
use Rattle.rules.specs.Limits.{address_limit, granule}
use Rattle.rules.specs.First.{first}
use Rattle.rules.specs.Picker.{tag_count, allowed, tag_up, barred_at, suits, pick_of, picks_of, tags_needed, tags_allowed}
use Rattle.rules.specs.Picker.{picker_checks, picked_of, globals_after, choices_after}
use Rattle.rules.proofs.OutcomeLaws.{good_bad, bad_good, true_false, and_left, and_right, require_held, require_true, require_false}
use Rattle.rules.proofs.BoolLaws.{cond_case}
use Rattle.rules.proofs.FirstLaws.{first_below}
use Rattle.laws.proofs.Checks.{require_stopped}
use Rattle.laws.proofs.Picks.{end_at, tag_at, picks_index, picks_length, pick_low, pick_suits, pick_near, pick_is}
use Rattle.laws.proofs.Picks.{allowed_least, enough_suits, needed_most, barred_why}
use Rattle.laws.proofs.Picks.{count_some, count_two}
use Rattle.demands.specs.Table.{listed}
use Rattle.demands.specs.Demands.{Exactly}
use Rattle.demands.specs.Writer.{FitBelow, Wrong, empty, uneven, before_end, high}
use Rattle.demands.specs.Picker.{picker_numbers, Allowed, AbutNext, Meets, Good, FirstGood, Picked, EquallyLong, PickTakes, Picks, PickCall, PickKept}
use Rattle.demands.specs.Picker.{PickRefuses, unequal, at_global, no_list}
use Rattle.demands.proofs.Exactly.{exactly}
use Rattle.demands.proofs.Writer.{list_fits, fits_list, list_fault, fault_list, fit_few}

no_true : (b : Bool) → (b ≡ true → ⊥) → b ≡ false
no_true true h = absurd (h refl)
no_true false h = refl

-- the faults of a global have numbers of the picker too
wrong_picker : (addresses sizes : List ℕ) (i number : ℕ) → Wrong addresses sizes i number → listed picker_numbers number ≡ true
wrong_picker addresses sizes i number (empty e z) = rw e
wrong_picker addresses sizes i number (uneven e f n) = rw e
wrong_picker addresses sizes i number (before_end e w b) = rw e
wrong_picker addresses sizes i number (high e w a h) = rw e

-- ---- a tag

test_allowed : (x tag : ℕ) → tag < tag_count → allowed x tag ≡ true → Allowed x tag
unfolding allowed
test_allowed x tag l h = record {
  least = allowed_least x tag h;
  most = omega arith;
  clear = eqb-true _ 0 (and_right (not (eqb tag 0)) _ h);
}

allowed_test : (x tag : ℕ) → Allowed x tag → allowed x tag ≡ true
unfolding allowed
allowed_test x tag a = let l = a.least in rw (ne_eqb tag 0 (λ q. omega arith), eq-eqb (x / 2 ^ tag % 2) 0 a.clear)

module _ (addresses sizes random : List ℕ) (x : ℕ) where
  -- ---- the first good tag

  -- the tag that is barred at an index, beside the choices before it
  abbrev barred : List ℕ → ℕ → ℕ
  barred c i = barred_at (end_at 0 addresses sizes i) (tag_at 0 c i) (get_or addresses i 0)

  suits_good : (c : List ℕ) (i tag : ℕ) → tag < tag_count → suits x (barred c i) tag ≡ true → Good addresses sizes x c i tag
  suits_good c i tag l h =
      let e = eqb-false tag (barred c i) (not-true _ (and_right (allowed x tag) _ h)) in
      record {
        allowed = test_allowed x tag l (and_left (allowed x tag) _ h);
        differs = λ j s a q. e (other j s a q);
      }
    where
      other : (j : ℕ) → i ≡ suc j → AbutNext addresses sizes j → tag ≡ get_or c j 0 → tag ≡ barred c i
      other j s a q = rw (s, eq-eqb (get_or addresses j 0 + get_or sizes j 0) (get_or addresses (suc j) 0) a) q

  good_suits : (c : List ℕ) (i tag : ℕ) → Good addresses sizes x c i tag → suits x (barred c i) tag ≡ true
  good_suits c i tag g = rw (allowed_test x tag g.allowed, ne_eqb tag (barred c i) (differs i g))
    where
      differs : (i : ℕ) → Good addresses sizes x c i tag → tag ≡ barred c i → ⊥
      differs zero g q =
          let l = g.allowed.least in
          cond_case (λ (b : ℕ). tag ≡ b → ⊥) (eqb 0 (get_or addresses 0 0)) 0 0 (λ _ z. omega arith) (λ _ z. omega arith) q
      differs (suc j) g q =
          let l = g.allowed.least in
          cond_case (λ (b : ℕ). tag ≡ b → ⊥) (eqb (get_or addresses j 0 + get_or sizes j 0) (get_or addresses (suc j) 0)) (get_or c j 0) 0
          (λ e. g.differs j refl (eqb-true _ _ e)) (λ _ z. omega arith) q

  -- a pick is a first good tag where some tag suits
  pick_first : (c : List ℕ) (i t : ℕ) → t < tag_count → suits x (barred c i) t ≡ true
      → get_or c i 0 ≡ pick_of x (barred c i) (get_or random i 0) → FirstGood addresses sizes random x c i
  unfolding pick_of
  pick_first c i t l h e =
      let r = get_or random i 0 in
      let b = barred c i in
      let f : ℕ → Bool = λ k. suits x b (tag_up r k) in
      let up = first f 0 tag_count in
      record {
        up = up;
        near = pick_near x b r t l h;
        reached = e ∙ omega arith;
        good = rw e (suits_good c i (pick_of x b r) (pick_low x b r) (pick_suits x b r t l h));
        passed = λ k u g.
            let s : tag_up r k ≡ (r + k) % 16 = omega arith in
            true_false (sym (rw s (good_suits c i ((r + k) % 16) g)) ∙ first_below f tag_count 0 k (omega arith) u);
      }

  -- and a first good tag is the pick
  first_pick : (c : List ℕ) (i : ℕ) → FirstGood addresses sizes random x c i → get_or c i 0 ≡ pick_of x (barred c i) (get_or random i 0)
  first_pick c i g =
      let near = g.near in
      let s : tag_up (get_or random i 0) g.up ≡ get_or c i 0 = omega (arith, g.reached) in
      let hit = good_suits c i (get_or c i 0) g.good in
      sym s ∙ pick_is x (barred c i) (get_or random i 0) g.up near (rw s hit) (λ k u. none k u _ refl)
    where
      none : (k : ℕ) → k < g.up → (y : Bool) → suits x (barred c i) (tag_up (get_or random i 0) k) ≡ y → y ≡ false
      none k u true h =
          let s : tag_up (get_or random i 0) k ≡ (get_or random i 0 + k) % 16 = omega arith in
          absurd (g.passed k u (suits_good c i ((get_or random i 0 + k) % 16) (omega arith) (rw (← s) h)))
      none k u false h = refl

  -- ---- the list

  pub picked-meets : (c : List ℕ) → Picked addresses sizes random x c → Meets addresses sizes x c
  picked-meets c p = record {
    as_many = p.as_many;
    allowed = λ i l. (p.each i l).good.allowed;
    differ = λ i l a q. (p.each (suc i) l).good.differs i refl a (sym q);
  }

  same_at : (c d : List ℕ) → Picked addresses sizes random x c → Picked addresses sizes random x d → (i : ℕ) → i < length addresses
      → get_or c i 0 ≡ get_or d i 0
  same_at c d p q zero l = first_pick c zero (p.each zero l) ∙ sym (first_pick d zero (q.each zero l))
  same_at c d p q (suc i) l =
      let before = same_at c d p q i (omega arith) in
      first_pick c (suc i) (p.each (suc i) l) ∙ rw before (sym (first_pick d (suc i) (q.each (suc i) l)))

  pub one_list : (c d : List ℕ) → Picked addresses sizes random x c → Picked addresses sizes random x d → c ≡ d
  one_list c d p q =
      let n = p.as_many in
      ext_get_or 0 c d (n ∙ sym q.as_many) (λ i l. same_at c d p q i (omega arith))

  -- ---- as many tags as are needed

  -- what meets the rules needs no more
  meets_enough : (c : List ℕ) → Meets addresses sizes x c → tags_needed addresses sizes ≤ tags_allowed x
  unfolding tags_allowed
  meets_enough c m =
      needed_most addresses sizes _
      (λ l. count_some (allowed x) tag_count (get_or c 0 0) (low 0 l) (test 0 l))
      (λ i l a. count_two (allowed x) tag_count (get_or c i 0) (get_or c (suc i) 0) (m.differ i l a) (low i (omega arith)) (low (suc i) l)
      (test i (omega arith)) (test (suc i) l))
    where
      low : (i : ℕ) → i < length addresses → get_or c i 0 < tag_count
      low i l = let k = (m.allowed i l).most in omega arith

      test : (i : ℕ) → i < length addresses → allowed x (get_or c i 0) ≡ true
      test i l = allowed_test x (get_or c i 0) (m.allowed i l)

  -- ---- what is picked

  module _ (s : length sizes ≡ length addresses) (r : length random ≡ length addresses) (enough : tags_needed addresses sizes ≤ tags_allowed x) where
    picks_picked : Picked addresses sizes random x (picks_of x addresses sizes random)
    picks_picked = record {
      as_many = picks_length x 0 0 addresses sizes random s r;
      each = λ i l.
          let t = enough_suits addresses sizes x i (barred (picks_of x addresses sizes random) i) enough l
          (barred_why addresses sizes (picks_of x addresses sizes random) i) in
          pick_first (picks_of x addresses sizes random) i t.0 t.1.0 t.1.1 (picks_index x 0 0 addresses sizes random i l s r);
    }

  -- ---- the call's outcome

  module _ (n : ℕ) where
    outcome : Exactly (picked_of addresses sizes random x n) (picker_checks addresses sizes random x n) (picks_of x addresses sizes random)
    unfolding picked_of
    outcome = exactly (picker_checks addresses sizes random x n) (picks_of x addresses sizes random)

    -- the test of check 7
    abbrev equal : Bool
    equal = eqb (length addresses) (length sizes) && eqb (length addresses) (length random) && eqb (length addresses) n

    equal_long : equal ≡ true → EquallyLong addresses sizes random n
    equal_long h =
        let p = eqb (length addresses) (length sizes) in
        let q = eqb (length addresses) (length random) in
        let both = and_left (p && q) _ h in
        record {
          sizes_long = sym (eqb-true (length addresses) (length sizes) (and_left p q both));
          random_long = sym (eqb-true (length addresses) (length random) (and_right p q both));
          choices_long = sym (eqb-true (length addresses) n (and_right (p && q) _ h));
        }

    long_equal : EquallyLong addresses sizes random n → equal ≡ true
    long_equal l =
        rw (
          eq-eqb (length addresses) (length sizes) (sym l.sizes_long),
          eq-eqb (length addresses) (length random) (sym l.random_long),
          eq-eqb (length addresses) n (sym l.choices_long),
        )

    long_test : EquallyLong addresses sizes random n → require equal 7 0 ≡ good tt
    long_test l = require_true equal 7 0 (long_equal l)

    test_long : require equal 7 0 ≡ good tt → EquallyLong addresses sizes random n
    test_long e = equal_long (require_held equal 7 0 e)

    -- the test of check 8
    abbrev enough_test : Bool
    enough_test = leb (tags_needed addresses sizes) (tags_allowed x)

    takes_all : PickTakes addresses sizes random x n → All (picker_checks addresses sizes random x n)
    takes_all t =
        let l = t.as_long in
        let e = meets_enough t.choices t.meets in
        (long_test l, (fits_list addresses sizes (sym l.sizes_long) t.fit, (require_true enough_test 8 0 (le-leb _ _ e), tt)))

    enough_takes : EquallyLong addresses sizes random n → FitBelow addresses sizes (length addresses)
        → tags_needed addresses sizes ≤ tags_allowed x → PickTakes addresses sizes random x n
    enough_takes l f e = record {
      as_long = l;
      fit = f;
      choices = picks_of x addresses sizes random;
      meets = picked-meets _ (picks_picked l.sizes_long l.random_long e);
    }

    all_takes : All (picker_checks addresses sizes random x n) → PickTakes addresses sizes random x n
    all_takes h =
        let l = test_long h.0 in
        enough_takes l (list_fits addresses sizes (sym l.sizes_long) h.1.0) (leb-true _ _ (require_held enough_test 8 0 h.1.1.0))

    refuses_first : (r : Refusal) → PickRefuses addresses sizes random x n r → First (picker_checks addresses sizes random x n) r
    refuses_first r (unequal e u) = rw e (inl (require_false equal 7 0 (no_true equal (λ h. u (equal_long h)))))
    refuses_first r (at_global i number e l b h w) = rw e (inr (long_test l, inl (fault_list addresses sizes (sym l.sizes_long) i number b h w)))
    refuses_first r (no_list e l f none) =
        rw e (inr (
          long_test l,
          inr (
            fits_list addresses sizes (sym l.sizes_long) f,
            inl (require_false enough_test 8 0 (no_true enough_test (λ h.
                let t = enough_takes l f (leb-true _ _ h) in none t.choices t.meets))),
          ),
        ))

    first_refuses : (r : Refusal) → First (picker_checks addresses sizes random x n) r → PickRefuses addresses sizes random x n r
    first_refuses r (inl e) =
        let q = require_stopped equal 7 0 e in
        unequal q.1 (λ l. true_false (sym (long_equal l) ∙ q.0))
    first_refuses r (inr (l, inl e)) =
        let long = test_long l in
        let z = list_fault addresses sizes (sym long.sizes_long) r e in
        at_global z.index z.number z.numbered long z.below z.before z.wrong
    first_refuses r (inr (l, inr (c, inl e))) =
        let long = test_long l in
        let q = require_stopped enough_test 8 0 e in
        let few = leb-false (tags_needed addresses sizes) (tags_allowed x) q.0 in
        no_list q.1 long (list_fits addresses sizes (sym long.sizes_long) c)
        (λ choices m. let enough = meets_enough choices m in omega arith)
    first_refuses r (inr (l, inr (c, inr (e, z)))) = absurd z

    good_picked : (c : List ℕ) → picked_of addresses sizes random x n ≡ good c → Picked addresses sizes random x c
    good_picked c e =
        let h = outcome.taken_only_if c e in
        let l = test_long h.0.0 in
        rw h.1 (picks_picked l.sizes_long l.random_long (leb-true _ _ (require_held enough_test 8 0 h.0.1.1.0)))

    refuses_numbered : (r : Refusal) → PickRefuses addresses sizes random x n r → listed picker_numbers r.number ≡ true
    refuses_numbered r (unequal e u) = rw e
    refuses_numbered r (at_global i number e l b h w) = rw e (wrong_picker addresses sizes i number w)
    refuses_numbered r (no_list e l f none) = rw e

    refuses_few : (r : Refusal) → PickRefuses addresses sizes random x n r → granule * r.position ≤ address_limit
    refuses_few r (unequal e u) = rw e (omega arith)
    refuses_few r (at_global i number e l b h w) = rw e (fit_few addresses sizes i h)
    refuses_few r (no_list e l f none) = rw e (omega arith)

    pub picks : Picks addresses sizes random x n
    picks = record {
      taken_if = λ t. (picks_of x addresses sizes random, outcome.taken_if (takes_all t));
      taken_only_if = λ c e. all_takes (outcome.taken_only_if c e).0;
      meets = λ c e. picked-meets c (good_picked c e);
      picked = good_picked;
      refused_if = λ r h. outcome.refused_if r (refuses_first r h);
      refused_only_if = λ r e. first_refuses r (outcome.refused_only_if r e);
      few = λ t. fit_few addresses sizes (length addresses) t.fit;
      numbered = refuses_numbered;
      indexed = refuses_few;
    }

    pub two_enough : (t u : ℕ) → Allowed x t → Allowed x u → (t ≡ u → ⊥) → EquallyLong addresses sizes random n
        → FitBelow addresses sizes (length addresses) → PickTakes addresses sizes random x n
    unfolding tags_allowed
    two_enough t u a b d l f =
        let p = a.most in
        let q = b.most in
        let c = count_two (allowed x) tag_count t u d (omega arith) (omega arith) (allowed_test x t a) (allowed_test x u b) in
        enough_takes l f (needed_most addresses sizes _ (λ _. omega arith) (λ _ _ _. c))

-- ---- a call

pub kept : (addresses sizes random : List ℕ) (x : ℕ) (lent left : List ℕ) (answer : Outcome ℕ)
    → PickCall addresses sizes random x lent left answer → PickKept addresses sizes random x lent left answer
kept addresses sizes random x lent left answer c =
    go (picked_of addresses sizes random x (length lent)) refl c.answered c.chosen
  where
    w : Picks addresses sizes random x (length lent)
    w = picks addresses sizes random x (length lent)

    go : (o : Outcome (List ℕ)) → picked_of addresses sizes random x (length lent) ≡ o → answer ≡ globals_after o → left ≡ choices_after o lent
        → PickKept addresses sizes random x lent left answer
    go (good p) e a b =
        let m = w.meets p e in
        record {
          taken = λ k q. let z : k ≡ length p = cc in (w.taken_only_if p e, z ∙ m.as_many);
          meets = λ k q. rw b m;
          picked = λ k q. rw b (w.picked p e);
          refused = λ r q. good_bad (sym a ∙ q);
        }
    go (bad r) e a b = record {
      taken = λ k q. bad_good (sym a ∙ q);
      meets = λ k q. bad_good (sym a ∙ q);
      picked = λ k q. bad_good (sym a ∙ q);
      refused = λ s q. let z : r ≡ s = cc in (w.refused_only_if s (e ∙ rw z), b);
    }

pub again : (addresses sizes random : List ℕ) (x : ℕ) (lent left other after : List ℕ) (n k : ℕ)
    → PickCall addresses sizes random x lent left (good n) → PickCall addresses sizes random x other after (good k) → after ≡ left
again addresses sizes random x lent left other after n k c d =
    one_list addresses sizes random x after left ((kept addresses sizes random x other after (good k) d).picked k refl)
    ((kept addresses sizes random x lent left (good n) c).picked n refl)

pub none_enough : (x : ℕ) → PickTakes [] [] [] x 0
none_enough x = record {
  as_long = record { sizes_long = refl; random_long = refl; choices_long = refl };
  fit = λ j l. absurd (omega arith);
  choices = [];
  meets = record { as_many = refl; allowed = λ i l. absurd (omega arith); differ = λ i l _ _. absurd (omega arith) };
}
