-- What holds of a load that passes every check, and what it leaves.
-- Assumes nothing.
use Prim.Native.Nat.{ℕ, ◌+◌, ◌*◌, ◌^◌, ◌≤◌, ◌<◌}
use mathlib.Core.Path.{◌≡◌, refl, ◌∙◌}
use mathlib.Core.List.{List}
use mathlib.Core.Logic.{inl, inr, ⊎_elim}
use native.Mathlib.Nat.{add-zero}
use native.Mathlib.Omega.{arith}
use lib.ListN.{length}
use Rattle.rules.specs.Limits.{address_limit}
use Rattle.rules.specs.Bytes.{le}
use Rattle.rules.specs.Segments.{loads_end}
use Rattle.rules.specs.Relocations.{place_at, live, items}
use Rattle.rules.specs.Addresses.{natural, address_at}
use Rattle.rules.specs.Choices.{globals_in}
use Rattle.rules.specs.Image.{image_of, loaded_at}
use Rattle.rules.specs.Plane.{plane_of}
use Rattle.rules.specs.Words.{at, source_at, tag_of, word_at}
use Rattle.rules.specs.Load.{loaded}
use Rattle.rules.specs.declared.Module.{Module}
use Rattle.laws.proofs.Checks.{le_or_lt}
use Rattle.laws.proofs.Globals.{Rising, globals_rising}
use Rattle.laws.proofs.Items.{packed-live, packed_addend, packed-target}
use Rattle.laws.proofs.Places.{address_small, places_apart}
use Rattle.laws.proofs.Writes.{Apart, writes-length, writes_at, writes_other, le_bytes}
use Rattle.demands.proofs.Exactly.{Passes}
use Rattle.demands.proofs.Reading.{Reads, module_reads}
use Rattle.demands.proofs.Lending.{Lent, memory-lent, plane-lent, lending_fits_lem, lent_in_step}
use Rattle.demands.proofs.Plane.{Chosen, choices_chosen, plane-holds, plane-small}
use Rattle.demands.proofs.Image.{image_size, image_holds}
use Rattle.demands.proofs.Sources.{tag_of-small}
use Rattle.demands.specs.Demands.{Relocates, Leaves}

-- a run of items from the first
pub in_run : (k n : ℕ) → k < n → k < 0 + n
in_run k n l = omega arith

-- a packed place's source and address are the bias and what its place holds
pub packed_source : (f : List ℕ) (m : Module) (bias k : ℕ) → m.relocations.entries ≤ k
    → source_at f m bias k ≡ at (bias + loaded_at f m.headers (place_at f m k))
packed_source f m bias k l = rw (packed-target f m k l)

packed_address_holds : (f : List ℕ) (m : Module) (bias k : ℕ) → m.relocations.entries ≤ k
    → natural (address_at f m bias k) ≡ bias + loaded_at f m.headers (place_at f m k)
packed_address_holds f m bias k l = rw (packed-target f m k l, packed_addend f m k l) (add-zero _)

-- and its word that address, with the tag at it
packed-word : (f : List ℕ) (m : Module) (bias n : ℕ) (plane : List ℕ) (k : ℕ) → m.relocations.entries ≤ k
    → word_at f m bias n plane k
    ≡ bias + loaded_at f m.headers (place_at f m k) + 2 ^ 56 * tag_of plane bias n (at (bias + loaded_at f m.headers (place_at f m k)))
packed-word f m bias n plane k l = rw (packed_address_holds f m bias k l, packed_source f m bias k l)

pub record Stands (f : List ℕ) (bias n p : ℕ) (choices : List ℕ) (m : Module) : Type 0 where
  pub reading : Reads f m
  pub lent : Lent f m.headers n bias
  pub planed : 16 * p ≡ n
  pub rising : Rising (globals_in f m) (loads_end f m.headers)
  pub chosen : Chosen (globals_in f m) choices
  pub apart : Apart (live f m) (place_at f m) (length (image_of f m.headers n)) 0 (items m)
  pub small : (k : ℕ) → Relocates f m k → natural (address_at f m bias k) < address_limit

module _ (f : List ℕ) (bias n p : ℕ) (choices : List ℕ) (m : Module) where
  pub passes_stands : Passes f bias n p choices m → Stands f bias n p choices m
  passes_stands c =
      let r = module_reads f m c.reads in
      let fits = lending_fits_lem f m bias n p c.lends in
      let t = memory-lent f m.headers n bias fits.0 in
      let z = image_size f m.headers n in
      record {
        reading = r;
        lent = t;
        planed = plane-lent n p fits.1;
        rising = globals_rising f m.headers m.descriptors (globals_in f m) r.loads r.globals;
        chosen = choices_chosen (globals_in f m) choices c.chosen;
        apart = places_apart f m r.loads c.relocates (length (image_of f m.headers n)) (omega arith);
        small = λ k e. address_small f m bias c.addresses k e.listed e.unskipped;
      }

  -- the plane that is left, and the word and the tag of an item
  abbrev pub plane : List ℕ
  plane = plane_of (globals_in f m) choices p

  abbrev pub word : ℕ → ℕ
  word = word_at f m bias n plane

  abbrev pub tag : ℕ → ℕ
  tag k = tag_of plane bias n (source_at f m bias k)

  module _ (s : Stands f bias n p choices m) where
    -- *P, which the rules read from the file, is what the image holds
    pub held_image : (x : ℕ) → le 8 (image_of f m.headers n) x ≡ loaded_at f m.headers x
    held_image = (image_holds f m n s.reading.headers s.reading.loads s.lent.holds).loaded_words

    pub tag_small : (k : ℕ) → tag k < 16
    tag_small k =
        tag_of-small plane (plane-small (globals_in f m) choices p (loads_end f m.headers) s.rising (let h = s.lent.holds in omega arith) s.chosen)
        bias n (source_at f m bias k)

    -- the word at its place
    word_left : (k : ℕ) → Relocates f m k → le 8 (loaded f m bias n p choices).memory (place_at f m k) ≡ word k
    word_left k e =
        let a = s.small k e in
        let t = tag_small k in
        le_bytes 8 (word k) _ (place_at f m k) (omega arith)
        (λ j l.
        writes_at (live f m) (place_at f m) (image_of f m.headers n) 0 word (items m) s.apart k j
        (omega arith) (in_run k (items m) e.listed) e.unskipped l)

    pub leaves : Leaves f bias n p choices m (loaded f m bias n p choices)
    leaves = record {
      the_facts = refl;
      in_step = lent_in_step f m.headers s.reading.loads bias n s.lent;
      the_globals = record {
        whole = λ j l. (s.rising.each j l).aligned;
        filled = λ j l. (s.rising.each j l).filled;
        inside = λ j l. let g = (s.rising.each j l).inside in let h = s.lent.holds in omega arith;
        in_order = s.rising.rise;
      };
      the_plane = plane-holds (globals_in f m) choices p (loads_end f m.headers) s.rising (let h = s.lent.holds in omega arith);
      the_image = image_holds f m n s.reading.headers s.reading.loads s.lent.holds;
      the_memory = record {
        memory-length = writes-length (live f m) (place_at f m) (image_of f m.headers n) 0 word (items m) ∙ image_size f m.headers n;
        word_inside = λ k e.
            let i = s.apart.inside k (omega arith) (in_run k (items m) e.listed) e.unskipped in
            let z = image_size f m.headers n in
            omega arith;
        words_apart = λ j k l e g. s.apart.apart j k (omega arith) l (in_run k (items m) g.listed) e.unskipped g.unskipped;
        words = word_left;
        packed_words = λ k e.
            word_left k (record { listed = e.listed; unskipped = packed-live f m k e.after })
            ∙ packed-word f m bias n plane k e.after ∙ rw (held_image (place_at f m k));
        other_bytes = λ x out.
            writes_other (live f m) (place_at f m) (image_of f m.headers n) 0 word (items m) x (λ k _ l t.
            ⊎_elim
            (λ (past : place_at f m k + 8 ≤ x). inr past)
            (λ (before : x < place_at f m k + 8).
            ⊎_elim
            (λ (above : place_at f m k ≤ x). absurd (out k (record { listed = omega arith; unskipped = t }) above before))
            (λ (below : x < place_at f m k). inl below)
            (le_or_lt (place_at f m k) x))
            (le_or_lt (place_at f m k + 8) x));
      };
    }
