-- A refusal's number is from 1 to 255 and the counts fit seventeen bits, so the packed numbers can be taken apart.
-- Assumes nothing.
use Prim.Native.Nat.{ℕ, ◌+◌, ◌/◌, ◌%◌, ◌^◌, ◌≤◌, ◌<◌}
use mathlib.Core.Path.{◌≡◌, refl, sym, ap, ◌∙◌, subst}
use mathlib.Core.Bool.{Bool, true, false, ◌&&◌, ◌||◌}
use mathlib.Core.List.{List, [], ◌∷◌}
use mathlib.Core.Logic.{◌⊎◌, inl, inr}
use native.Mathlib.Omega.{arith}
use lib.ListN.{length, get_or}
use lib.Dec.{leb, ltb, eqb}
use borrow.Author.Tests.{leb-true, ltb-true, eqb-true}
use Rattle.rules.specs.Outcome.{Outcome, good, bad, refusal, Refusal}
use Rattle.rules.specs.Limits.{address_limit}
use Rattle.rules.specs.Memory.{bytes_of, put_word}
use Rattle.rules.specs.Descriptors.{Read, finished, global, step_at}
use Rattle.rules.specs.Examine.{examined_of}
use Rattle.rules.specs.declared.Global.{Global}
use Rattle.rules.specs.declared.Cursor.{Cursor}
use Rattle.rules.specs.declared.Facts.{Facts}
use Rattle.rules.specs.declared.Mode.{Mode}
use Rattle.rules.specs.declared.Mode.TheVariants as mode
use Rattle.rules.specs.declared.Switch.{Switch}
use Rattle.rules.specs.declared.Switch.TheVariants as switch
use Rattle.rules.proofs.OutcomeLaws.{and_left, and_right}
use Rattle.rules.proofs.MemoryLaws.{put-length, put_before, put_in}
use Rattle.laws.proofs.Writes.{le_bytes}
use Rattle.demands.specs.Table.{listed, examine_numbers, load_numbers}
use Rattle.demands.specs.Calls.{Buffers, Call, Declined}
use Rattle.demands.specs.Demands.{Counted}
use Rattle.demands.proofs.Refusals.{examines}
use Rattle.demands.proofs.Calls.{calls}
use Rattle.demands.proofs.Steps.{steps, step_numbers}
use Rattle.demands.specs.Writer.{writer_numbers, Refuses, WriteCall, WriteKept}
use Rattle.demands.proofs.Writer.{writes, kept}
use Rattle.demands.specs.Picker.{picker_numbers, PickRefuses, PickCall, PickKept}
use Rattle.demands.proofs.Picker as picker
use Rattle.packing.specs.Packed.{packed, packed_refusal, packed_count, mode_number, switch_number, facts_number, step_number, step_words}
use Rattle.packing.specs.Exported.{Told, ExportClaim, ExamineTold, ExamineClaim, GlobalWords, StepTold, StepClaim}
use Rattle.packing.specs.Exported.{TableTold, TableClaim, PicksTold, PicksClaim, FactsTold, FactsClaim}

-- every number of a list is from 1 to 255
abbrev low_bytes : List ℕ → Bool
low_bytes [] = true
low_bytes (x ∷ xs) = (leb 1 x && ltb x 256) && low_bytes xs

listed_low : (xs : List ℕ) (x : ℕ) → low_bytes xs ≡ true → listed xs x ≡ true → (1 ≤ x) × (x < 256)
listed_low [] x h l = absurd (let z : ◌≡◌ {A = ℕ} 0 1 = cc in omega arith)
listed_low (y ∷ ys) x h l = go (eqb y x) refl l (listed_low ys x (and_right (leb 1 y && ltb y 256) _ h))
  where
    here : (leb 1 y && ltb y 256) ≡ true
    here = and_left (leb 1 y && ltb y 256) _ h

    go : (b : Bool) → eqb y x ≡ b → (b || listed ys x) ≡ true → (listed ys x ≡ true → (1 ≤ x) × (x < 256)) → (1 ≤ x) × (x < 256)
    go false q k again = again k
    go true q k again =
        let e = eqb-true y x q in
        let a = leb-true 1 y (and_left (leb 1 y) _ here) in
        let b = ltb-true y 256 (and_right (leb 1 y) _ here) in
        (omega arith, omega arith)

-- a refusal is its number's parts
parts : (r : Refusal) (number : ℕ) → number ≡ packed_refusal r → (1 ≤ r.number) × (r.number < 256)
    → ((number % 256 ≡ 0) → ⊥) × (refusal (number % 256) (number / 256) ≡ r)
parts r number e n =
    let low : number % 256 ≡ r.number = omega arith in
    let high : number / 256 ≡ r.position = omega arith in
    ((λ z. omega arith), rw (low, high))

module _ (f : List ℕ) (bias : ℕ) (choices : List ℕ) (lent left : Buffers) where
  told : (answer : Outcome Facts) (number : ℕ) → Call f bias choices lent left answer → number ≡ packed answer
      → Told f bias choices lent left number
  told (good a) number c e = record {
    taken = λ z. record {
      facts = a;
      accepted = (calls f bias choices lent left (good a) c).accepted a refl;
      counted = omega arith;
    };
    refused = λ z. absurd (z (omega arith));
  }
  told (bad r) number c e =
      let d = (calls f bias choices lent left (bad r) c).declined r refl in
      let p = parts r number e (listed_low load_numbers r.number refl d.numbered.number_listed) in
      record {
        taken = λ z. absurd (p.0 z);
        refused = λ z. subst (λ (r : Refusal). Declined f bias choices lent left r) (sym p.1) d;
      }

pub exported : ExportClaim
exported f bias choices lent left number x = told f bias choices lent left x.answer number x.call x.packs

-- ---- examine

pub examine_exported : ExamineClaim
examine_exported f = go (examined_of f) refl
  where
    go : (o : Outcome Facts) → examined_of f ≡ o → ExamineTold f (packed o)
    go (good a) e = record { taken = λ z. (a, (e, omega arith)); refused = λ z. absurd (z (omega arith)) }
    go (bad r) e =
        let n = ((examines f).examined_refusal r e).number_listed in
        let p = parts r (packed_refusal r) refl (listed_low examine_numbers r.number refl n) in
        record { taken = λ z. absurd (p.0 z); refused = λ z. e ∙ ap (λ (x : Refusal). bad x) (sym p.1) }

-- ---- the descriptor reader

-- a word that was put, and one before another that was put
word_byte : (m : List ℕ) (at w j : ℕ) → at + 8 ≤ length m → j < 8 → get_or (put_word m at w) (at + j) 0 ≡ get_or (bytes_of 8 w) j 0
unfolding put_word
word_byte m at w j h l = put_in at j m (bytes_of 8 w) l (omega arith)

byte_before : (m : List ℕ) (at w i : ℕ) → i < at → get_or (put_word m at w) i 0 ≡ get_or m i 0
unfolding put_word
byte_before m at w i l = put_before at i m (bytes_of 8 w) l

word-length : (m : List ℕ) (at w : ℕ) → length (put_word m at w) ≡ length m
unfolding put_word
word-length m at w = put-length m at (bytes_of 8 w)

-- four words in a row
four_words : (lent : List ℕ) (g : Global) (next : Cursor) → 32 ≤ length lent → g.start < 2 ^ 64 → g.granules < 2 ^ 64
    → next.position < 2 ^ 64 → next.end < 2 ^ 64 → GlobalWords (step_words (good (global g next)) lent) g next
four_words lent g next room a b c d = record {
  start_word = le_bytes 8 g.start four 0 a (λ j l.
      byte_before three 24 next.end (0 + j) (omega arith)
      ∙ byte_before two 16 next.position (0 + j) (omega arith)
      ∙ byte_before one 8 g.granules (0 + j) (omega arith)
      ∙ word_byte lent 0 g.start j (omega arith) l);
  granules_word = le_bytes 8 g.granules four 8 b (λ j l.
      byte_before three 24 next.end (8 + j) (omega arith)
      ∙ byte_before two 16 next.position (8 + j) (omega arith)
      ∙ word_byte one 8 g.granules j (omega (arith, one_length)) l);
  position_word = le_bytes 8 next.position four 16 c (λ j l.
      byte_before three 24 next.end (16 + j) (omega arith) ∙ word_byte two 16 next.position j (omega (arith, two_length)) l);
  end_word = le_bytes 8 next.end four 24 d (λ j l. word_byte three 24 next.end j (omega (arith, three_length)) l);
}
  where
    one : List ℕ
    one = put_word lent 0 g.start

    two : List ℕ
    two = put_word one 8 g.granules

    three : List ℕ
    three = put_word two 16 next.position

    four : List ℕ
    four = put_word three 24 next.end

    one_length : length one ≡ length lent
    one_length = word-length lent 0 g.start

    two_length : length two ≡ length lent
    two_length = word-length one 8 g.granules ∙ one_length

    three_length : length three ≡ length lent
    three_length = word-length two 16 next.position ∙ two_length

pub step_exported : StepClaim
step_exported index table c lent = go (step_at index table c) refl
  where
    go : (o : Outcome Read) → step_at index table c ≡ o → StepTold index table c lent (step_words o lent) (step_number o)
    go (good finished) e = record { ended = λ _. (e, refl); read = λ z. absurd (omega arith); refused = λ z. absurd (omega arith) }
    go (good (global g next)) e =
        let found = (steps index table c).step_global g next e in
        let moved = (steps index table c).moved g next e in
        record {
          ended = λ z. absurd (omega arith);
          read = λ _. (
            g,
            (
              next,
              (
                e,
                λ room short.
                    let low = found.low in
                    let within = moved.within in
                    let end = moved.low in
                    four_words lent g next room (omega arith) (omega arith) (omega arith) (omega arith),
              ),
            ),
          );
          refused = λ z. absurd (omega arith);
        }
    go (bad r) e =
        let s = (steps index table c).step_refusal r e in
        let n = listed_step r (step_numbers index table c r e) in
        let q = s.1.0 in
        let at_index : r.position ≡ index = ap (λ (x : Refusal). x.position) q in
        record {
          ended = λ z. absurd (omega arith);
          read = λ z. absurd (omega arith);
          refused = λ _. (
            e ∙ ap (λ (i : ℕ). bad (refusal r.number i)) at_index,
            λ room small.
                le_bytes 8 r.position (put_word lent 0 r.position) 0 (omega arith) (λ j l. word_byte lent 0 r.position j (omega arith) l)
                ∙ at_index,
          );
        }
      where
        listed_step : (r : Refusal) → (r ≡ refusal 8 index) ⊎ ((r ≡ refusal 16 index) ⊎ (r ≡ refusal 9 index)) → 1 < r.number
        listed_step r (inl q) = let z = ap (λ (x : Refusal). x.number) q in omega arith
        listed_step r (inr (inl q)) = let z = ap (λ (x : Refusal). x.number) q in omega arith
        listed_step r (inr (inr q)) = let z = ap (λ (x : Refusal). x.number) q in omega arith

-- ---- the writer

-- the answers fit
module _ (addresses sizes lent left : List ℕ) (answer : Outcome ℕ) (c : WriteCall addresses sizes lent left answer) where
  pub length_low : (n : ℕ) → answer ≡ good n → n ≤ address_limit
  length_low n e =
      let t = (kept addresses sizes lent left answer c).taken n e in
      let w = writes addresses sizes (length lent) in
      let short = w.short t.0 in
      let few = w.few (length addresses) t.0.fit in
      let same = t.1 in
      omega arith

  pub index_low : (r : Refusal) → answer ≡ bad r → r.position ≤ address_limit
  index_low r e =
      let d = (kept addresses sizes lent left answer c).refused r e in
      let i = (writes addresses sizes (length lent)).indexed r d.0 in
      omega arith

pub table_exported : TableClaim
table_exported addresses sizes lent left number x =
    told_of x.answer x.packs (kept addresses sizes lent left x.answer x.call)
  where
    told_of : (answer : Outcome ℕ) → number ≡ packed_count answer → WriteKept addresses sizes lent left answer
        → TableTold addresses sizes lent left number
    told_of (good n) e k =
        let t = k.taken n refl in
        let z : number / 256 ≡ n = omega arith in
        record {
          taken = λ _. (t.0, z ∙ t.1);
          table_left = λ _. rw z (k.table_left n refl);
          refused = λ q. absurd (q (omega arith));
        }
    told_of (bad r) e k =
        let d = k.refused r refl in
        let n = listed_low writer_numbers r.number refl ((writes addresses sizes (length lent)).numbered r d.0) in
        let p = parts r number e n in
        record {
          taken = λ q. absurd (p.0 q);
          table_left = λ q. absurd (p.0 q);
          refused = λ _. subst (λ (r : Refusal). Refuses addresses sizes (length lent) r × (left ≡ lent)) (sym p.1) d;
        }

-- ---- the picker

-- the answers fit
module _ (addresses sizes random : List ℕ) (x : ℕ) (lent left : List ℕ) (answer : Outcome ℕ)
    (c : PickCall addresses sizes random x lent left answer) where
  pub globals_low : (n : ℕ) → answer ≡ good n → n ≤ address_limit
  globals_low n e =
      let t = (picker.kept addresses sizes random x lent left answer c).taken n e in
      let few = (picker.picks addresses sizes random x (length lent)).few t.0 in
      let same = t.1 in
      omega arith

  pub fault_low : (r : Refusal) → answer ≡ bad r → r.position ≤ address_limit
  fault_low r e =
      let d = (picker.kept addresses sizes random x lent left answer c).refused r e in
      let i = (picker.picks addresses sizes random x (length lent)).indexed r d.0 in
      omega arith

pub picks_exported : PicksClaim
picks_exported addresses sizes random x lent left number e =
    told_of e.answer e.packs (picker.kept addresses sizes random x lent left e.answer e.call)
  where
    told_of : (answer : Outcome ℕ) → number ≡ packed_count answer → PickKept addresses sizes random x lent left answer
        → PicksTold addresses sizes random x lent left number
    told_of (good n) e k =
        let t = k.taken n refl in
        let z : number / 256 ≡ n = omega arith in
        record {
          taken = λ _. (t.0, z ∙ t.1);
          meets = λ _. k.meets n refl;
          picked = λ _. k.picked n refl;
          refused = λ q. absurd (q (omega arith));
        }
    told_of (bad r) e k =
        let d = k.refused r refl in
        let n = listed_low picker_numbers r.number refl ((picker.picks addresses sizes random x (length lent)).numbered r d.0) in
        let p = parts r number e n in
        record {
          taken = λ q. absurd (p.0 q);
          meets = λ q. absurd (p.0 q);
          picked = λ q. absurd (p.0 q);
          refused = λ _. subst (λ (r : Refusal). PickRefuses addresses sizes random x (length lent) r × (left ≡ lent)) (sym p.1) d;
        }

-- ---- the facts

mode_small : (m : Mode) → mode_number m < 4
mode_small mode.Absent = omega arith
mode_small mode.Synchronous = omega arith
mode_small mode.Asynchronous = omega arith

switch_small : (s : Switch) → switch_number s < 4
switch_small switch.Absent = omega arith
switch_small switch.Off = omega arith
switch_small switch.On = omega arith

facts_told : (a : Facts) → Counted a → FactsTold a (facts_number a)
facts_told a c =
    let m = mode_small a.mode in
    let h = switch_small a.heap in
    let s = switch_small a.stack in
    let g = c.globals_most in
    let w = c.words_most in
    record {
      odd = omega arith;
      mode = omega arith;
      heap = omega arith;
      stack = omega arith;
      globals = omega arith;
      words = omega arith;
      above = omega arith;
    }

pub facts_exported : (f : List ℕ) → FactsClaim f
facts_exported f = record {
  taken = λ a e. rw e (facts_told a ((examines f).examined_facts a e));
  refused = λ r e. rw e;
}
