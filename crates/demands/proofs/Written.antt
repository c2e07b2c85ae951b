-- The descriptor table that is written reads back as the globals that it was written of.
-- Assumes nothing.
use Prim.Native.Nat.{ℕ, ◌+◌, ◌*◌, ◌-◌, ◌/◌, ◌%◌, ◌≤◌}
use mathlib.Core.Path.{◌≡◌, refl, sym, ap, ◌∙◌}
use mathlib.Core.List.{List, [], ◌∷◌, ◌++◌}
use native.Mathlib.Omega.{arith}
use lib.ListN.{length, drop, length-drop}
use Rattle.rules.specs.Outcome.{good}
use Rattle.rules.specs.Limits.{address_limit, granule}
use Rattle.rules.specs.Descriptors.{saying, table_start}
use Rattle.rules.specs.Checks.{runs}
use Rattle.rules.specs.Writer.{descriptor_of, table_from, table_of, listed_checks, list_check}
use Rattle.rules.specs.Choices.{end_of}
use Rattle.rules.specs.declared.Global.{Global}
use Rattle.rules.specs.declared.Cursor.{Cursor}
use Rattle.rules.proofs.OutcomeLaws.{and_then_good}
use Rattle.laws.proofs.Globals.{Chain}
use Rattle.laws.proofs.Listed.{listed_good}
use Rattle.demands.specs.Steps.{Found}
use Rattle.demands.specs.Writer.{Takes, addresses_of, sizes_of, Lists, ReadsBack}
use Rattle.demands.proofs.Spelling.{drop_past}
use Rattle.demands.proofs.Forms.{says_past, descriptor_spelt, short_shortest, written_short}
use Rattle.demands.proofs.Steps.{steps}
use Rattle.demands.proofs.Writer.{takes_all}

-- ---- a step, and a table

-- the descriptor of a global after an end
abbrev pub written : ℕ → Global → List ℕ
written end g = descriptor_of ((g.start - end) / granule) g.granules

-- the cursor after it
abbrev past : Cursor → Global → Cursor
past c g = record { position = c.position + length (written c.end g); end = end_of g }

-- a global after the cursor's end, and the bytes that are written of it at the cursor
pub record Standing (s : List ℕ) (c : Cursor) (g : Global) (post : List ℕ) : Type 0 where
  pub whole : c.end % granule ≡ 0
  pub low : c.end ≤ address_limit
  pub starts : c.end ≤ g.start
  pub aligned : g.start % 16 ≡ 0
  pub filled : 1 ≤ g.granules
  pub inside : end_of g ≤ address_limit
  pub bytes : drop c.position s ≡ written c.end g ++ post

standing_found : (s : List ℕ) (c : Cursor) (g : Global) (post : List ℕ) → Standing s c g post → Found s c g (past c g)
standing_found s c g post h =
    let whole = h.whole in
    let starts = h.starts in
    let aligned = h.aligned in
    let inside = h.inside in
    let distance = (g.start - c.end) / granule in
    let d = saying distance g.granules (past c g).position in
    let says = descriptor_spelt s c.position distance g.granules post h.filled (omega arith) (omega arith) h.bytes in
    let stands = says_past s c.position d says in
    record {
      said = d;
      ready = record { left = omega arith; whole = whole; low = h.low };
      says = says;
      shortest = short_shortest s c.position d says (written_short s c.position d says refl);
      start = omega arith;
      size = refl;
      low = inside;
      position = refl;
      end = refl;
    }

-- from a cursor on, the bytes are those written of globals that follow one another
pub written_reads : (s : List ℕ) (i : ℕ) (c : Cursor) (gs : List Global) → c.end % granule ≡ 0 → c.end ≤ address_limit
    → c.position ≤ length s → Chain address_limit c.end gs → drop c.position s ≡ table_from c.end (addresses_of gs) (sizes_of gs)
    → Lists s i c gs
unfolding table_from
written_reads s i c [] whole low within chain h =
    let e : length s - c.position ≡ 0 = sym (length-drop c.position s) ∙ ap (λ (l : List ℕ). length l) h in
    (steps i s c).finished_step (omega arith) whole low
written_reads s i c (g ∷ gs) whole low within chain h =
    let e : granule * g.granules / granule ≡ g.granules = omega arith in
    let w = table_from (end_of g) (addresses_of gs) (sizes_of gs) in
    let bytes : drop c.position s ≡ written c.end g ++ w = rw e at h in
    let found = standing_found s c g w (record {
      whole = whole;
      low = low;
      starts = chain.starts;
      aligned = chain.aligned;
      filled = chain.filled;
      inside = chain.inside;
      bytes = bytes;
    }) in
    let step = (steps i s c).global_step g (past c g) found in
    let moved = (steps i s c).moved g (past c g) step in
    let rest = drop_past s c.position (written c.end g) w bytes in
    record {
      next = past c g;
      reads = step;
      rest = written_reads s (i + 1) (past c g) gs moved.whole moved.low moved.within chain.rest rest;
    }

-- ---- the lists

-- the globals of two lists
abbrev paired : List ℕ → List ℕ → List Global
paired [] sizes = []
paired (a ∷ addresses) [] = []
paired (a ∷ addresses) (s ∷ sizes) = record { start = a; granules = s / granule } ∷ paired addresses sizes

-- their globals have those addresses and sizes, and follow one another
record Pairs (end : ℕ) (addresses sizes : List ℕ) : Type 0 where
  same_addresses : addresses_of (paired addresses sizes) ≡ addresses
  same_sizes : sizes_of (paired addresses sizes) ≡ sizes
  chain : Chain address_limit end (paired addresses sizes)

checked_pairs : (i end : ℕ) (addresses sizes : List ℕ) → length addresses ≡ length sizes → list_check i end addresses sizes ≡ good tt
    → Pairs end addresses sizes
unfolding list_check
checked_pairs i end [] [] n h = record { same_addresses = refl; same_sizes = refl; chain = tt }
checked_pairs i end [] (s ∷ sizes) n h = absurd (omega arith)
checked_pairs i end (a ∷ addresses) [] n h = absurd (omega arith)
checked_pairs i end (a ∷ addresses) (s ∷ sizes) n h =
    let p = and_then_good (runs (listed_checks i end a s)) _ h in
    let g = listed_good i end a s p.here in
    let some = g.filled in
    let whole = g.whole_size in
    let e : granule * (s / granule) ≡ s = omega arith in
    let rest = checked_pairs (i + 1) (a + s) addresses sizes (omega arith) p.rest in
    record {
      same_addresses = rw rest.same_addresses;
      same_sizes = rw (e, rest.same_sizes);
      chain = record {
        starts = g.after;
        aligned = g.whole_address;
        filled = omega arith;
        inside = rw e g.low;
        rest = rw e rest.chain;
      };
    }

pub read_back : (addresses sizes : List ℕ) (n : ℕ) → Takes addresses sizes n → ReadsBack addresses sizes
read_back addresses sizes n t =
    let p = checked_pairs 0 0 addresses sizes t.as_many (takes_all addresses sizes n t).1.0 in
    let gs = paired addresses sizes in
    let table = table_of addresses sizes in
    let h : table ≡ table_of (addresses_of gs) (sizes_of gs) = rw (p.same_addresses, p.same_sizes) in
    record {
      globals = gs;
      reads = written_reads table 0 table_start gs refl (omega arith) (omega arith) p.chain h;
      same_addresses = p.same_addresses;
      same_sizes = p.same_sizes;
    }
