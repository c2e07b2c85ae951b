-- The writer takes what it should, refuses by the first fault, and leaves the table or all as lent.
-- Assumes nothing.
use Prim.Native.Nat.{ℕ, zero, suc, ◌+◌, ◌*◌, ◌%◌, ◌≤◌, ◌<◌}
use mathlib.Core.Path.{◌≡◌, refl, sym, ap, ◌∙◌, subst}
use mathlib.Core.Bool.{◌&&◌, not, true, false, Bool}
use mathlib.Core.List.{List}
use mathlib.Core.Logic.{inl, inr, ⊎_elim}
use native.Mathlib.Numerals.{add-one}
use native.Mathlib.Omega.{arith}
use lib.ListN.{length, get_or, drop, drop_of_length-le}
use lib.Dec.{eqb, leb}
use borrow.Author.Tests.{eqb-true, eqb-false, eq-eqb, ne_eqb, leb-true, leb-false, le-leb, lt-leb, not-true, not-false}
use Rattle.rules.specs.Outcome.{Outcome, good, bad, and_then, refusal, require, Refusal}
use Rattle.rules.specs.Checks.{Check, runs, All, First}
use Rattle.rules.specs.Limits.{address_limit, granule}
use Rattle.rules.specs.Writer.{table_of, listed_checks, list_check, writer_checks, written_of, length_after, buffer_after}
use Rattle.rules.proofs.OutcomeLaws.{good_bad, bad_good, true_false, and_left, and_right, and_then_good, require_held, require_true, require_false}
use Rattle.rules.proofs.ChecksLaws.{first_runs, runs-first}
use Rattle.rules.proofs.MemoryLaws.{put_front}
use Rattle.laws.proofs.Checks.{and_then_bad, require_stopped, le_or_lt}
use Rattle.laws.proofs.Listed.{Listed, listed_good, good_listed, check_at, table_short}
use Rattle.laws.proofs.Encoding.{table_bytes}
use Rattle.demands.specs.Table.{listed}
use Rattle.demands.specs.Demands.{Exactly}
use Rattle.demands.specs.Writer.{end_before, Whole, Fits, Wrong, empty, uneven, before_end, high, FitBelow, Takes, Refuses, unequal, at_global, small}
use Rattle.demands.specs.Writer.{writer_numbers, Writes, WriteCall, WriteKept}
use Rattle.demands.proofs.Exactly.{exactly}

-- an index from i on is i, or one after it
here_or_later : (P : ℕ → Type 0) (i j : ℕ) → i ≤ j → P i → (suc i ≤ j → P j) → P j
here_or_later P i j l here later = ⊎_elim later (λ k. let q : i ≡ j = omega arith in subst P q here) (le_or_lt (suc i) j)

module _ (addresses sizes : List ℕ) where
  -- ---- one global

  -- its checks, where it stands
  abbrev checks_at : ℕ → List Check
  checks_at i = listed_checks i (end_before addresses sizes i) (get_or addresses i 0) (get_or sizes i 0)

  listed_fits : (i : ℕ) → Listed (end_before addresses sizes i) (get_or addresses i 0) (get_or sizes i 0) → Fits addresses sizes i
  listed_fits i h = record {
    whole = record { filled = h.filled; whole_size = h.whole_size; whole_address = h.whole_address };
    after = h.after;
    low = h.low;
  }

  fits_listed : (i : ℕ) → Fits addresses sizes i → Listed (end_before addresses sizes i) (get_or addresses i 0) (get_or sizes i 0)
  fits_listed i h = record {
    filled = h.whole.filled;
    whole_size = h.whole.whole_size;
    whole_address = h.whole.whole_address;
    after = h.after;
    low = h.low;
  }

  -- a fault, by its number
  record Faulty (i : ℕ) (r : Refusal) : Type 0 where
    number : ℕ
    numbered : r ≡ refusal number i
    wrong : Wrong addresses sizes i number

  not_whole : (i : ℕ) → (eqb (get_or sizes i 0 % granule) 0 && eqb (get_or addresses i 0 % granule) 0) ≡ false → Whole addresses sizes i → ⊥
  not_whole i e w = let z : true ≡ false = rw (eq-eqb _ _ w.whole_size, eq-eqb _ _ w.whole_address) at e in true_false z

  whole_of : (i : ℕ) → not (eqb (get_or sizes i 0) 0) ≡ true
      → (eqb (get_or sizes i 0 % granule) 0 && eqb (get_or addresses i 0 % granule) 0) ≡ true → Whole addresses sizes i
  whole_of i f e =
      let some = eqb-false (get_or sizes i 0) 0 (not-true (eqb (get_or sizes i 0) 0) f) in
      record {
        filled = omega arith;
        whole_size = eqb-true _ 0 (and_left _ _ e);
        whole_address = eqb-true _ 0 (and_right (eqb (get_or sizes i 0 % granule) 0) _ e);
      }

  -- and back
  some_held : (i : ℕ) → 0 < get_or sizes i 0 → require (not (eqb (get_or sizes i 0) 0)) 2 i ≡ good tt
  some_held i f = rw (ne_eqb (get_or sizes i 0) 0 (λ q. omega arith))

  whole_held : (i : ℕ) → Whole addresses sizes i
      → require (eqb (get_or sizes i 0 % granule) 0 && eqb (get_or addresses i 0 % granule) 0) 3 i ≡ good tt
  whole_held i w = rw (eq-eqb _ _ w.whole_size, eq-eqb _ _ w.whole_address)

  whole_not : (i : ℕ) → 0 < get_or sizes i 0 → (Whole addresses sizes i → ⊥)
      → (eqb (get_or sizes i 0 % granule) 0 && eqb (get_or addresses i 0 % granule) 0) ≡ false
  whole_not i f n = go _ refl
    where
      go : (b : Bool) → (eqb (get_or sizes i 0 % granule) 0 && eqb (get_or addresses i 0 % granule) 0) ≡ b → b ≡ false
      go true e = absurd (n (whole_of i (rw (ne_eqb (get_or sizes i 0) 0 (λ q. omega arith))) e))
      go false e = refl

  first_faulty : (i : ℕ) (r : Refusal) → First (checks_at i) r → Faulty i r
  first_faulty i r (inl e) =
      let q = require_stopped _ 2 i e in
      record { number = 2; numbered = q.1; wrong = empty refl (eqb-true _ 0 (not-false _ q.0)) }
  first_faulty i r (inr (f, inl e)) =
      let q = require_stopped _ 3 i e in
      let some = eqb-false (get_or sizes i 0) 0 (not-true _ (require_held _ 2 i f)) in
      record { number = 3; numbered = q.1; wrong = uneven refl (omega arith) (not_whole i q.0) }
  first_faulty i r (inr (f, inr (w, inl e))) =
      let q = require_stopped _ 4 i e in
      let whole = whole_of i (require_held _ 2 i f) (require_held _ 3 i w) in
      record { number = 4; numbered = q.1; wrong = before_end refl whole (leb-false _ _ q.0) }
  first_faulty i r (inr (f, inr (w, inr (b, inl e)))) =
      let q = require_stopped _ 5 i e in
      let whole = whole_of i (require_held _ 2 i f) (require_held _ 3 i w) in
      record { number = 5; numbered = q.1; wrong = high refl whole (leb-true _ _ (require_held _ 4 i b)) (leb-false _ _ q.0) }
  first_faulty i r (inr (f, inr (w, inr (b, inr (h, n))))) = absurd n

  wrong_first : (i number : ℕ) → Wrong addresses sizes i number → First (checks_at i) (refusal number i)
  wrong_first i number (empty e z) = rw e (inl (require_false (not (eqb (get_or sizes i 0) 0)) 2 i (rw (eq-eqb (get_or sizes i 0) 0 z))))
  wrong_first i number (uneven e f n) = rw e (inr (some_held i f, inl (require_false _ 3 i (whole_not i f n))))
  wrong_first i number (before_end e w b) =
      rw e (inr (some_held i w.filled, inr (whole_held i w, inl (require_false _ 4 i (lt-leb _ _ b)))))
  wrong_first i number (high e w a h) =
      rw e (inr (some_held i w.filled, inr (whole_held i w, inr (require_true _ 4 i (le-leb _ _ a), inl (require_false _ 5 i (lt-leb _ _ h))))))

  wrong_numbered : (i number : ℕ) → Wrong addresses sizes i number → listed writer_numbers number ≡ true
  wrong_numbered i number (empty e z) = rw e
  wrong_numbered i number (uneven e f n) = rw e
  wrong_numbered i number (before_end e w b) = rw e
  wrong_numbered i number (high e w a h) = rw e

  -- each global has a granule
  fit_end : (i : ℕ) → FitBelow addresses sizes i → granule * i ≤ end_before addresses sizes i
  fit_end zero h = omega arith
  fit_end (suc i) h =
      let f = h i (omega arith) in
      let before = fit_end i (λ j l. h j (omega arith)) in
      let after = f.after in
      let some = f.whole.filled in
      let whole = f.whole.whole_size in
      omega arith

  pub fit_few : (i : ℕ) → FitBelow addresses sizes i → granule * i ≤ address_limit
  fit_few zero h = omega arith
  fit_few (suc i) h = let e = fit_end (suc i) h in let low = (h i (omega arith)).low in omega arith

  -- ---- the globals from an index on

  module _ (l : length addresses ≡ length sizes) where
    -- the check from the index i on
    abbrev check_from : ℕ → Check
    check_from i = list_check i (end_before addresses sizes i) (drop i addresses) (drop i sizes)

    from_at : (i : ℕ) → i < length addresses → check_from i ≡ and_then (runs (checks_at i)) (λ _. check_from (suc i))
    from_at i k = rw (← add-one i) (check_at addresses sizes i k (omega arith) (end_before addresses sizes i))

    from_end : (i : ℕ) → length addresses ≤ i → check_from i ≡ good tt
    unfolding list_check
    from_end i k = rw (drop_of_length-le addresses k)

    fits_from : (n i : ℕ) → i + n ≡ length addresses → ((j : ℕ) → i ≤ j → j < length addresses → Fits addresses sizes j)
        → check_from i ≡ good tt
    fits_from zero i e h = from_end i (omega arith)
    fits_from (suc n) i e h =
        let here = good_listed i _ _ _ (fits_listed i (h i (omega arith) (omega arith))) in
        let rest = fits_from n (suc i) (omega arith) (λ j a b. h j (omega arith) b) in
        from_at i (omega arith) ∙ rw (here, rest)

    from_fits : (n i : ℕ) → i + n ≡ length addresses → check_from i ≡ good tt → (j : ℕ) → i ≤ j → j < length addresses
        → Fits addresses sizes j
    from_fits zero i e h j a b = absurd (omega arith)
    from_fits (suc n) i e h j a b =
        let p = and_then_good (runs (checks_at i)) _ (sym (from_at i (omega arith)) ∙ h) in
        here_or_later (λ (x : ℕ). Fits addresses sizes x) i j a (listed_fits i (listed_good i _ _ _ p.here))
        (λ k. from_fits n (suc i) (omega arith) p.rest j k b)

    -- the first fault from the index i on
    record FaultFrom (i : ℕ) (r : Refusal) : Type 0 where
      at : ℕ
      from : i ≤ at
      below : at < length addresses
      before : (j : ℕ) → i ≤ j → j < at → Fits addresses sizes j
      fault : Faulty at r

    from_fault : (n i : ℕ) (r : Refusal) → i + n ≡ length addresses → check_from i ≡ bad r → FaultFrom i r
    from_fault zero i r e h = good_bad (sym (from_end i (omega arith)) ∙ h)
    from_fault (suc n) i r e h =
        and_then_bad (runs (checks_at i)) _ (sym (from_at i (omega arith)) ∙ h)
        (λ q. record {
          at = i;
          from = omega arith;
          below = omega arith;
          before = λ j a b. absurd (omega arith);
          fault = first_faulty i r (runs-first (checks_at i) q);
        })
        (λ _ q s. later (listed_fits i (listed_good i _ _ _ q)) (from_fault n (suc i) r (omega arith) s))
      where
        later : Fits addresses sizes i → FaultFrom (suc i) r → FaultFrom i r
        later f z = record {
          at = z.at;
          from = omega (arith, z.from);
          below = z.below;
          before = λ j a b. here_or_later (λ (x : ℕ). Fits addresses sizes x) i j a f (λ k. z.before j k b);
          fault = z.fault;
        }

    fault_from : (n i at number : ℕ) → i + n ≡ at → at < length addresses → ((j : ℕ) → i ≤ j → j < at → Fits addresses sizes j)
        → Wrong addresses sizes at number → check_from i ≡ bad (refusal number at)
    fault_from zero i at number e b h w =
        let q : at ≡ i = omega arith in
        let z = first_runs (checks_at i) (wrong_first i number (subst (λ (x : ℕ). Wrong addresses sizes x number) q w)) in
        rw q (from_at i (omega arith) ∙ rw z)
    fault_from (suc n) i at number e b h w =
        let here = good_listed i _ _ _ (fits_listed i (h i (omega arith) (omega arith))) in
        from_at i (omega arith) ∙ rw here (fault_from n (suc i) at number (omega arith) b (λ j a c. h j (omega arith) c) w)

    -- the whole list
    pub list_fits : list_check 0 0 addresses sizes ≡ good tt → FitBelow addresses sizes (length addresses)
    list_fits h j b = from_fits (length addresses) 0 (omega arith) h j (omega arith) b

    pub fits_list : FitBelow addresses sizes (length addresses) → list_check 0 0 addresses sizes ≡ good tt
    fits_list h = fits_from (length addresses) 0 (omega arith) (λ j a b. h j b)

    -- its first fault
    pub record ListFault (r : Refusal) : Type 0 where
      pub index : ℕ
      pub number : ℕ
      pub numbered : r ≡ refusal number index
      pub below : index < length addresses
      pub before : FitBelow addresses sizes index
      pub wrong : Wrong addresses sizes index number

    pub list_fault : (r : Refusal) → list_check 0 0 addresses sizes ≡ bad r → ListFault r
    list_fault r h =
        let z = from_fault (length addresses) 0 r (omega arith) h in
        record {
          index = z.at;
          number = z.fault.number;
          numbered = z.fault.numbered;
          below = z.below;
          before = λ j b. z.before j (omega arith) b;
          wrong = z.fault.wrong;
        }

    pub fault_list : (i number : ℕ) → i < length addresses → FitBelow addresses sizes i → Wrong addresses sizes i number
        → list_check 0 0 addresses sizes ≡ bad (refusal number i)
    fault_list i number b h w = fault_from i 0 i number (omega arith) b (λ j a c. h j c) w

  -- ---- the call's outcome

  module _ (n : ℕ) where
    outcome : Exactly (written_of addresses sizes n) (writer_checks addresses sizes n) (table_of addresses sizes)
    unfolding written_of
    outcome = exactly (writer_checks addresses sizes n) (table_of addresses sizes)

    pub takes_all : Takes addresses sizes n → All (writer_checks addresses sizes n)
    takes_all t = (
      require_true _ 1 0 (eq-eqb _ _ t.as_many),
      (fits_list t.as_many t.fit, (require_true _ 6 0 (le-leb _ _ t.room), tt)),
    )

    all_takes : All (writer_checks addresses sizes n) → Takes addresses sizes n
    all_takes h =
        let l = eqb-true (length addresses) (length sizes) (require_held _ 1 0 h.0) in
        record {
          as_many = l;
          fit = list_fits l h.1.0;
          room = leb-true (length (table_of addresses sizes)) n (require_held _ 6 0 h.1.1.0);
        }

    refuses_first : (r : Refusal) → Refuses addresses sizes n r → First (writer_checks addresses sizes n) r
    refuses_first r (unequal e u) = rw e (inl (require_false _ 1 0 (ne_eqb (length addresses) (length sizes) u)))
    refuses_first r (at_global i number e l b h w) =
        rw e (inr (require_true _ 1 0 (eq-eqb _ _ l), inl (fault_list l i number b h w)))
    refuses_first r (small e l h s) =
        rw e (inr (
          require_true _ 1 0 (eq-eqb _ _ l),
          inr (fits_list l h, inl (require_false _ 6 0 (lt-leb (length (table_of addresses sizes)) n s))),
        ))

    first_refuses : (r : Refusal) → First (writer_checks addresses sizes n) r → Refuses addresses sizes n r
    first_refuses r (inl e) =
        let q = require_stopped (eqb (length addresses) (length sizes)) 1 0 e in
        unequal q.1 (eqb-false (length addresses) (length sizes) q.0)
    first_refuses r (inr (l, inl e)) =
        let m = eqb-true (length addresses) (length sizes) (require_held _ 1 0 l) in
        let z = list_fault m r e in
        at_global z.index z.number z.numbered m z.below z.before z.wrong
    first_refuses r (inr (l, inr (c, inl e))) =
        let m = eqb-true (length addresses) (length sizes) (require_held _ 1 0 l) in
        let q = require_stopped (leb (length (table_of addresses sizes)) n) 6 0 e in
        small q.1 m (list_fits m c) (leb-false (length (table_of addresses sizes)) n q.0)
    first_refuses r (inr (l, inr (c, inr (s, z)))) = absurd z

    refuses_numbered : (r : Refusal) → Refuses addresses sizes n r → listed writer_numbers r.number ≡ true
    refuses_numbered r (unequal e u) = rw e
    refuses_numbered r (at_global i number e l b h w) = rw e (wrong_numbered i number w)
    refuses_numbered r (small e l h s) = rw e

    refuses_few : (r : Refusal) → Refuses addresses sizes n r → granule * r.position ≤ address_limit
    refuses_few r (unequal e u) = rw e (omega arith)
    refuses_few r (at_global i number e l b h w) = rw e (fit_few i h)
    refuses_few r (small e l h s) = rw e (omega arith)

    pub writes : Writes addresses sizes n
    writes = record {
      taken_if = λ t. outcome.taken_if (takes_all t);
      taken_only_if = λ table e. let h = outcome.taken_only_if table e in (all_takes h.0, h.1);
      refused_if = λ r h. outcome.refused_if r (refuses_first r h);
      refused_only_if = λ r e. first_refuses r (outcome.refused_only_if r e);
      bytes = table_bytes addresses sizes;
      short = λ t. table_short addresses sizes (length addresses) 0 0 (omega arith) t.as_many (takes_all t).1.0;
      few = fit_few;
      numbered = refuses_numbered;
      indexed = refuses_few;
    }

-- ---- a call

pub kept : (addresses sizes lent left : List ℕ) (answer : Outcome ℕ) → WriteCall addresses sizes lent left answer
    → WriteKept addresses sizes lent left answer
kept addresses sizes lent left answer c =
    go (written_of addresses sizes (length lent)) refl c.answered c.written
  where
    w : Writes addresses sizes (length lent)
    w = writes addresses sizes (length lent)

    go : (o : Outcome (List ℕ)) → written_of addresses sizes (length lent) ≡ o → answer ≡ length_after o → left ≡ buffer_after o lent
        → WriteKept addresses sizes lent left answer
    go (good table) e a b =
        let t = w.taken_only_if table e in
        let room = t.0.room in
        let same = t.1 in
        let n : length table ≡ length (table_of addresses sizes) = rw same in
        record {
          taken = λ k q. let z : k ≡ length table = cc in (t.0, z ∙ n);
          table_left = λ k q.
              let z : k ≡ length table = cc in
              b ∙ put_front table lent (omega arith) ∙ rw (z, same);
          refused = λ r q. good_bad (sym a ∙ q);
        }
    go (bad s) e a b = record {
      taken = λ k q. bad_good (sym a ∙ q);
      table_left = λ k q. bad_good (sym a ∙ q);
      refused = λ r q. let z : s ≡ r = cc in (w.refused_only_if r (e ∙ ap bad z), b);
    }
