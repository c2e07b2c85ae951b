-- Document 01's sentences, of every file.
-- Assumes nothing.
use Prim.Native.Nat.{ℕ, zero, suc, ◌+◌, ◌-◌}
use mathlib.Core.Path.{◌≡◌, refl, sym, ◌∙◌}
use mathlib.Core.Bool.{Bool, true, false, not, ◌&&◌}
use mathlib.Core.List.{List}
use native.Mathlib.Omega.{arith}
use lib.ListN.{get_or}
use lib.Dec.{leb, eqb}
use borrow.Author.Tests.{leb-true, le-leb, eqb-true, eq-eqb, ne_eqb, not-false}
use Rattle.rules.specs.Headers.{the_headers}
use Rattle.rules.specs.Segments.{header_at}
use Rattle.rules.specs.Choices.{choice_least, choice_limit, global_at, end_of, abuts, bad_choice}
use Rattle.rules.specs.declared.Global.{Global}
use Rattle.rules.proofs.OutcomeLaws.{true_false, and_left, and_right}
use Rattle.laws.proofs.Checks.{or_left, or_right}
use Rattle.demands.proofs.Fields.{little_endian}
use Rattle.demands.proofs.Parts as parts
use Rattle.demands.proofs.Entries as entries
use Rattle.demands.proofs.Dynamic.{dynamic, dynamic_type}
use Rattle.demands.proofs.Targets.{table_tags, module_sentences}
use Rattle.demands.specs.Fields.{Limited, segment_at}
use Rattle.demands.specs.Sentences.{Clears, GoodChoice, Sentences}

pub limited : Limited
limited = record {
  file_least_holds = refl;
  file_most = refl;
  memory_most = refl;
  headers_most = refl;
  dynamic_most = refl;
  entries_most = refl;
  globals_most = refl;
  addresses_below = refl;
  granule_bytes = refl;
  page_bytes = refl;
}

program_header_holds : (f : List ℕ) (i : ℕ) → header_at f (the_headers f) i ≡ segment_at f i
unfolding header_at
program_header_holds f i = refl

-- ---- check 14 of one choice

-- it is that of the global before, which abuts
abbrev clashes : List Global → List ℕ → ℕ → Bool
clashes gs choices i = abuts gs i && eqb (get_or choices (i - 1) 0) (get_or choices i 0)

clash_free : (gs : List Global) (choices : List ℕ) (i : ℕ) → clashes gs choices i ≡ false → (j : ℕ) → i ≡ j + 1
    → end_of (global_at gs j) ≡ (global_at gs i).start → get_or choices j 0 ≡ get_or choices i 0 → ⊥
clash_free gs choices zero e j q a s = absurd (omega arith)
clash_free gs choices (suc i) e j q a s =
    let z : j ≡ i = omega arith in
    let p : suc i - 1 ≡ i = omega arith in
    let same : get_or choices (suc i - 1) 0 ≡ get_or choices (suc i) 0 = rw p (rw z at s) in
    let meet : end_of (global_at gs i) ≡ (global_at gs (suc i)).start = rw z at a in
    let met : eqb (end_of (global_at gs i)) (global_at gs (suc i)).start ≡ true = eq-eqb _ _ meet in
    let equal : eqb (get_or choices (suc i - 1) 0) (get_or choices (suc i) 0) ≡ true = eq-eqb _ _ same in
    true_false (sym (rw (met, equal)) ∙ e)

free_clash : (gs : List Global) (choices : List ℕ) (i : ℕ) → GoodChoice gs choices i → clashes gs choices i ≡ false
free_clash gs choices zero g = refl
free_clash gs choices (suc i) g = go (eqb (end_of (global_at gs i)) (global_at gs (suc i)).start) refl
  where
    go : (b : Bool) → eqb (end_of (global_at gs i)) (global_at gs (suc i)).start ≡ b
        → (b && eqb (get_or choices (suc i - 1) 0) (get_or choices (suc i) 0)) ≡ false
    go false e = refl
    go true e =
        let p : suc i - 1 ≡ i = omega arith in
        rw p
        (ne_eqb (get_or choices i 0) (get_or choices (suc i) 0)
        (g.differs i (omega arith) (eqb-true (end_of (global_at gs i)) (global_at gs (suc i)).start e)))

choice_good : (gs : List Global) (choices : List ℕ) (i : ℕ) → bad_choice gs choices i ≡ false → GoodChoice gs choices i
unfolding bad_choice
choice_good gs choices i e =
    let c = get_or choices i 0 in
    let r = not-false (leb choice_least c && leb c choice_limit) (or_left (not (leb choice_least c && leb c choice_limit)) _ e) in
    record {
      least = leb-true choice_least c (and_left (leb choice_least c) _ r);
      most = leb-true c choice_limit (and_right (leb choice_least c) _ r);
      differs = clash_free gs choices i (or_right (not (leb choice_least c && leb c choice_limit)) _ e);
    }

good_choice : (gs : List Global) (choices : List ℕ) (i : ℕ) → GoodChoice gs choices i → bad_choice gs choices i ≡ false
unfolding bad_choice
good_choice gs choices i g =
    rw (le-leb choice_least (get_or choices i 0) g.least, le-leb (get_or choices i 0) choice_limit g.most) (free_clash gs choices i g)

pub choice : (gs : List Global) (choices : List ℕ) (i : ℕ) → Clears (bad_choice gs choices i) (GoodChoice gs choices i)
choice gs choices i = (choice_good gs choices i, good_choice gs choices i)

pub sentences : (f : List ℕ) → Sentences f
sentences f = record {
  of_file = record {
    numbers = λ n at b. little_endian f n at b;
    identified = λ i l. parts.identified f i;
    header = parts.header f;
    program_header_holds = program_header_holds f;
    loads = parts.loads f;
    in_memory_holds = parts.in_memory_holds f;
    dynamic_type = dynamic_type f;
    entry = entries.known_entry f;
    elf_entry = entries.elf_entry f;
    entries = entries.entries f;
    elf_entries = entries.elf_entries f;
    tables = table_tags f;
  };
  of_parts = λ headed loaded. record {
    backing = λ a n x some. parts.backing f headed loaded a n x some;
    table = parts.table f headed loaded;
    dynamic = dynamic f headed loaded;
  };
  of_items = module_sentences f;
}
