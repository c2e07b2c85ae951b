-- The globals that a descriptor table lists are taken by the writer, which gives its bytes back; so tables that list the same are the same.
-- Assumes nothing.
use Prim.Native.Nat.{ℕ, zero, suc, ◌+◌, ◌*◌, ◌-◌, ◌/◌, ◌%◌, ◌≤◌, ◌<◌}
use mathlib.Core.Path.{◌≡◌, refl, sym, ◌∙◌, subst}
use mathlib.Core.Bool.{Bool, true, false, cond, not}
use mathlib.Core.List.{List, [], ◌∷◌, ◌++◌, append_assoc}
use mathlib.Core.Logic.{⊎_elim}
use native.Mathlib.Omega.{arith}
use lib.ListN.{length, get_or, drop, drop_of_length-le, length-map, length-take, get_or-map, get_or-eq_default}
use lib.Dec.{ltb}
use borrow.Author.Tests.{lt-ltb, le-ltb, ltb-false}
use Rattle.rules.specs.Outcome.{good, bad, refusal, and_then}
use Rattle.rules.specs.Limits.{address_limit, global_limit, granule}
use Rattle.rules.specs.Bytes.{part}
use Rattle.rules.specs.Segments.{in_memory}
use Rattle.rules.specs.Descriptors.{number, uleb_at, size_limit, padded, short_at, Descriptor}
use Rattle.rules.specs.Descriptors.{Read, finished, global, step_at, on_global, globals_from, globals_of, table_start}
use Rattle.rules.specs.Writer.{descriptor_of, table_from, table_of}
use Rattle.rules.specs.Reader.{module_of}
use Rattle.rules.specs.Choices.{global_at, globals_in}
use Rattle.rules.specs.declared.Headers.{Headers}
use Rattle.rules.specs.declared.Global.{Global}
use Rattle.rules.specs.declared.Cursor.{Cursor}
use Rattle.rules.specs.declared.Module.{Module}
use Rattle.rules.proofs.OutcomeLaws.{bad_good, false_true, and_then_good, cond_held, and_left, and_right}
use Rattle.rules.proofs.DescriptorLaws.{short_small, short_large}
use Rattle.laws.proofs.Checks.{good_same, le_or_lt}
use Rattle.laws.proofs.Globals.{Chain, step_next, chain_at, chain_rise}
use Rattle.demands.specs.Steps.{Says, in_one, in_two, Found}
use Rattle.demands.specs.Writer.{Whole, Fits, Takes, addresses_of, sizes_of, Lists, WritesBack, table_in, Bytes}
use Rattle.demands.proofs.Spelling.{unpadded_tight, uleb_respelt}
use Rattle.demands.proofs.Fewest.{one_form, two_form}
use Rattle.demands.proofs.Forms.{shortest_short}
use Rattle.demands.proofs.Steps.{steps}
use Rattle.demands.proofs.Reading.{module_reads}
use Rattle.demands.proofs.Image.{part_at}
use Rattle.demands.proofs.Written.{written}

-- ---- they are taken

-- they follow one another
lists_chain : (s : List ℕ) (i : ℕ) (c : Cursor) (gs : List Global) → Lists s i c gs → Chain address_limit c.end gs
lists_chain s i c [] l = tt
lists_chain s i c (g ∷ gs) l =
    let n = step_next i s c (global g l.next) l.reads in
    let f = n.1 in
    let whole = n.0 in
    let aligned = f.aligned in
    record {
      starts = f.starts;
      aligned = omega arith;
      filled = f.filled;
      inside = f.limited;
      rest = subst (λ (end : ℕ). Chain address_limit end gs) f.ends (lists_chain s (i + 1) l.next gs l.rest);
    }

module _ (gs : List Global) where
  address_at_lem : (i : ℕ) → get_or (addresses_of gs) i 0 ≡ (global_at gs i).start
  address_at_lem i = get_or-map (λ (g : Global). g.start) gs i (record { start = 0; granules = 0 })

  size_at : (i : ℕ) → get_or (sizes_of gs) i 0 ≡ granule * (global_at gs i).granules
  size_at i = get_or-map (λ (g : Global). granule * g.granules) gs i (record { start = 0; granules = 0 })

  module _ (chain : Chain address_limit 0 gs) where
    chain_whole : (i : ℕ) → i < length gs → Whole (addresses_of gs) (sizes_of gs) i
    chain_whole i l =
        let p = chain_at address_limit 0 gs chain i l in
        let some = p.filled in
        record {
          filled = rw (size_at i) (omega arith);
          whole_size = rw (size_at i) (omega arith);
          whole_address = rw (address_at_lem i) p.aligned;
        }

    chain_fits : (i : ℕ) → i < length gs → Fits (addresses_of gs) (sizes_of gs) i
    chain_fits zero l = record {
      whole = chain_whole 0 l;
      after = omega arith;
      low = rw (address_at_lem 0, size_at 0) (chain_at address_limit 0 gs chain 0 l).inside;
    }
    chain_fits (suc i) l = record {
      whole = chain_whole (suc i) l;
      after = rw (address_at_lem i, size_at i, address_at_lem (suc i)) (chain_rise address_limit 0 gs chain i (suc i) (omega arith) l);
      low = rw (address_at_lem (suc i), size_at (suc i)) (chain_at address_limit 0 gs chain (suc i) l).inside;
    }

    chain_takes : (n : ℕ) → length (table_of (addresses_of gs) (sizes_of gs)) ≤ n → Takes (addresses_of gs) (sizes_of gs) n
    chain_takes n room =
        let a = length-map gs (λ (g : Global). g.start) in
        let b = length-map gs (λ (g : Global). granule * g.granules) in
        record { as_many = a ∙ sym b; fit = λ j l. chain_fits j (omega arith); room = room }

-- ---- a descriptor in shortest form stands as it is written

module _ (s : List ℕ) (bytes : Bytes s) (at : ℕ) (d : Descriptor) (short : short_at s at ≡ true) where
  one_bytes : uleb_at s at ≡ number (size_limit * d.distance + d.granules) d.next → 1 ≤ d.granules → d.granules < size_limit
      → drop at s ≡ descriptor_of d.distance d.granules ++ drop d.next s
  one_bytes read some few =
      let form = sym (one_form s at d read some few) ∙ short in
      rw (lt-ltb d.granules size_limit few) (uleb_respelt s bytes at _ d.next read (unpadded_tight s at d.next form))

  module _ (after less : ℕ) (read : uleb_at s at ≡ number (size_limit * d.distance) after) (more : uleb_at s after ≡ number less d.next)
      (size : d.granules ≡ less + 1) where
    two_bytes : drop at s ≡ descriptor_of d.distance d.granules ++ drop d.next s
    two_bytes =
        let form = sym (two_form s at d after less read more size) ∙ short in
        let then = and_right (not (padded s at after)) _ form in
        let first = uleb_respelt s bytes at _ after read (unpadded_tight s at after (and_left _ _ form)) in
        let k : less + 1 - 1 ≡ less = omega arith in
        ⊎_elim
        (λ l.
        let second = uleb_respelt s bytes after less d.next more
        (unpadded_tight s after d.next (rw (short_large s after less d.next l) at then)) in
        rw (size, le-ltb (less + 1) size_limit l, k, append_assoc, ← second) first)
        (λ l. false_true (rw (short_small s after less d.next l) at then))
        (le_or_lt size_limit (less + 1))

  says_bytes : Says s at d → drop at s ≡ descriptor_of d.distance d.granules ++ drop d.next s
  says_bytes (in_one read some few) = one_bytes read some few
  says_bytes (in_two after less read more size) = two_bytes after less read more size

-- ---- and so does a table

found_bytes : (s : List ℕ) (c : Cursor) (g : Global) (next : Cursor) → Bytes s → Found s c g next
    → drop c.position s ≡ written c.end g ++ drop next.position s
found_bytes s c g next bytes f =
    let d = f.said in
    let short = shortest_short s c.position d f.says f.shortest in
    let a = f.start in
    let k : (g.start - c.end) / granule ≡ d.distance = omega arith in
    rw (k, f.size, f.position) (says_bytes s bytes c.position d short f.says)

lists_bytes : (s : List ℕ) (i : ℕ) (c : Cursor) (gs : List Global) → Bytes s → Lists s i c gs
    → drop c.position s ≡ table_from c.end (addresses_of gs) (sizes_of gs)
unfolding table_from
lists_bytes s i c [] bytes l = let e = (steps i s c).step_finished l in drop_of_length-le s {i = c.position} (omega arith)
lists_bytes s i c (g ∷ gs) bytes l =
    let h = found_bytes s c g l.next bytes ((steps i s c).step_global g l.next l.reads) in
    let e : granule * g.granules / granule ≡ g.granules = omega arith in
    let k = ((steps i s c).moved g l.next l.reads).ends in
    let rest = lists_bytes s (i + 1) l.next gs bytes l.rest in
    rw (e, h, rest, k)

pub write_back : (s : List ℕ) (gs : List Global) → Bytes s → Lists s 0 table_start gs → WritesBack s gs
write_back s gs bytes l =
    let back = lists_bytes s 0 table_start gs bytes l in
    record { takes = λ n room. chain_takes gs (lists_chain s 0 table_start gs l) n (rw (← back) room); back = sym back }

pub one_table : (s t : List ℕ) (gs : List Global) → Bytes s → Bytes t → Lists s 0 table_start gs → Lists t 0 table_start gs → s ≡ t
one_table s t gs a b k l = sym (write_back s gs a k).back ∙ (write_back t gs b l).back

-- ---- a module's table

-- what the walk finds is what the reader's steps list
walk_lists : (f : List ℕ) (h : Headers) (s : List ℕ) (n i : ℕ) (c : Cursor) (gs : List Global) → c.position ≤ length s → c.end % granule ≡ 0
    → c.end ≤ address_limit → globals_from f h s n i c ≡ good gs → Lists s i c gs
unfolding globals_from
walk_lists f h s zero i c gs within whole low e = go (ltb c.position (length s)) refl e
  where
    go : (b : Bool) → ltb c.position (length s) ≡ b → cond b (bad (refusal 9 i)) (good []) ≡ good gs → Lists s i c gs
    go true q e = bad_good e
    go false q e =
        let l = ltb-false c.position (length s) q in
        good_same (λ (gs : List Global). Lists s i c gs) [] gs e ((steps i s c).finished_step (omega arith) whole low)
walk_lists f h s (suc n) i c gs within whole low e =
    let a = and_then_good (step_at i s c) _ e in
    go a.value a.here a.rest (walk_lists f h s n (i + 1))
  where
    go : (r : Read) → step_at i s c ≡ good r
        → on_global r (λ g next. cond (in_memory f h false g.start (granule * g.granules))
        (and_then (globals_from f h s n (i + 1) next) (λ gs. good (g ∷ gs))) (bad (refusal 9 i))) ≡ good gs
        → ((next : Cursor) (gs : List Global) → next.position ≤ length s → next.end % granule ≡ 0 → next.end ≤ address_limit
        → globals_from f h s n (i + 1) next ≡ good gs → Lists s (i + 1) next gs)
        → Lists s i c gs
    go finished x q again = good_same (λ (gs : List Global). Lists s i c gs) [] gs q x
    go (global g next) x q again =
        let t = cond_held _ (in_memory f h false g.start (granule * g.granules)) _ q in
        let u = and_then_good (globals_from f h s n (i + 1) next) _ t.1 in
        let m = (steps i s c).moved g next x in
        good_same (λ (gs : List Global). Lists s i c gs) (g ∷ u.value) gs u.rest
        (record { next = next; reads = x; rest = again next u.value m.within m.whole m.low u.here })

-- a part of bytes is bytes
part_bytes : (f : List ℕ) (at n : ℕ) → Bytes f → Bytes (part f at n)
part_bytes f at n bytes i =
    ⊎_elim
    (λ l.
    let k = length-take n (drop at f) in
    let e : get_or (part f at n) i 0 ≡ 0 = get_or-eq_default (part f at n) 0 (omega arith) in
    omega arith)
    (λ l. rw (part_at f at n i l) (bytes (at + i)))
    (le_or_lt n i)

module _ (f : List ℕ) (m : Module) (bytes : Bytes f) (e : module_of f ≡ good m) where
  table_bytes : Bytes (table_in f m)
  table_bytes = part_bytes f m.descriptors.at m.descriptors.bytes bytes

  module_lists : Lists (table_in f m) 0 table_start (globals_in f m)
  unfolding globals_of
  module_lists =
      walk_lists f m.headers (table_in f m) global_limit 0 table_start (globals_in f m) (omega arith) refl (omega arith) (module_reads f m e).globals

  pub module_table : Lists (table_in f m) 0 table_start (globals_in f m) × WritesBack (table_in f m) (globals_in f m)
  module_table = (module_lists, write_back (table_in f m) (globals_in f m) table_bytes module_lists)

pub one_module_table : (f g : List ℕ) (m n : Module) → Bytes f → Bytes g → module_of f ≡ good m → module_of g ≡ good n
    → globals_in f m ≡ globals_in g n → table_in f m ≡ table_in g n
one_module_table f g m n a b d e same =
    let t = (module_table f m a d).1.back in
    let u = (module_table g n b e).1.back in
    sym t ∙ rw same u
