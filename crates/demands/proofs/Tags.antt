-- A load against the plain loader, against its own plane, and against a load with other choices.
-- Assumes nothing.
use Prim.Native.Nat.{ℕ, suc, ◌+◌, ◌*◌, ◌≤◌, ◌<◌}
use mathlib.Core.Path.{◌≡◌, refl, sym, ap, ◌∙◌}
use mathlib.Core.List.{List, []}
use mathlib.Core.Logic.{inl, inr, ⊎_elim}
use native.Mathlib.Nat.{eq-or-lt_of_le}
use native.Mathlib.Omega.{arith}
use lib.ListN.{length, get_or}
use Rattle.rules.specs.Outcome.{good, bad, Refusal}
use Rattle.rules.specs.Checks.{Check}
use Rattle.rules.specs.Bytes.{le}
use Rattle.rules.specs.Segments.{loads_end}
use Rattle.rules.specs.Relocations.{place_at, live, items}
use Rattle.rules.specs.Addresses.{natural, address_at}
use Rattle.rules.specs.Choices.{globals_in, global_at, end_of, choices_for}
use Rattle.rules.specs.Image.{image_of, loaded_at}
use Rattle.rules.specs.Words.{at, source_at, writes}
use Rattle.rules.specs.Load.{load_of, loaded}
use Rattle.rules.specs.Memory.{bytes_of}
use Rattle.rules.specs.declared.Global.{Global}
use Rattle.rules.specs.declared.Module.{Module}
use Rattle.laws.proofs.Checks.{le_or_lt}
use Rattle.laws.proofs.KnownTags.{entries_base}
use Rattle.laws.proofs.Globals.{Rising}
use Rattle.laws.proofs.Writes.{writes-length, writes_agree, writes_at, low_bytes, top_byte, bare_byte}
use Rattle.demands.proofs.Exactly.{Passes, passes_taken, load_refused}
use Rattle.demands.proofs.Lending.{lending_fits_lem}
use Rattle.demands.proofs.Plane.{Chosen, plane-holds, plane_empty}
use Rattle.demands.proofs.Table.{table}
use Rattle.demands.proofs.Refusals.{listed_one}
use Rattle.demands.proofs.Plain.{segments_same, bare_faults, bare_words_lem, passed_of, plain_module_lem, plain_memory_lem}
use Rattle.demands.proofs.Sources.{tag_held, tag_unheld}
use Rattle.demands.proofs.Sourced.{sourced}
use Rattle.demands.proofs.Standing.{Stands, passes_stands, in_run, word, tag, tag_small, held_image, packed_source}
use Rattle.demands.specs.Plain.{plain_image, plain_of}
use Rattle.demands.specs.Demands.{Relocates, top_place, Holds, Abut, NoTop, Agrees, Matches, Alike, Rechosen}
use Rattle.demands.specs.Demands.{refused_again, taken_again, Tags}

-- of two globals in rising order, one that ends where the other starts is the one before it
abut_next : (gs : List Global) (limit : ℕ) → Rising gs limit → (i j : ℕ) → i < length gs → j < length gs
    → end_of (global_at gs i) ≡ (global_at gs j).start → suc i ≡ j
abut_next gs limit rising i j l u e =
    let a = rising.each i l in
    let b = rising.each j u in
    ⊎_elim
    (λ (after : j ≤ i).
    ⊎_elim
    (λ (q : j ≡ i). absurd (let z : end_of (global_at gs i) ≡ (global_at gs i).start = rw q at e in omega arith))
    (λ (q : j < i). absurd (let z = rising.rise j i q l in omega arith))
    (eq-or-lt_of_le after))
    (λ (before : i < j).
    ⊎_elim
    (λ (q : suc i ≡ j). q)
    (λ (q : suc i < j).
    absurd
    (let c = rising.each (suc i) (omega arith) in
    let y = rising.rise i (suc i) (omega arith) (omega arith) in
    let z = rising.rise (suc i) j q u in
    omega arith))
    (eq-or-lt_of_le before))
    (le_or_lt j i)

-- choices of globals that abut differ
choices_differ : (gs : List Global) (limit : ℕ) (choices : List ℕ) → Rising gs limit → Chosen gs choices → (i j : ℕ) → i < length gs
    → j < length gs
    → Abut (global_at gs i) (global_at gs j) → get_or choices j 0 ≡ get_or choices i 0 → ⊥
choices_differ gs limit choices rising chosen i j l u (inl e) q =
    let n = abut_next gs limit rising i j l u e in
    chosen.differ i (omega arith) (rw n e) (rw n (sym q))
choices_differ gs limit choices rising chosen i j l u (inr e) q =
    let n = abut_next gs limit rising j i u l e in
    chosen.differ j (omega arith) (rw n e) (rw n q)

-- check 14 refuses with its own number
choices_number : (gs : List Global) (choices : List ℕ) (r : Refusal) → choices_for gs choices ≡ bad r → r.number ≡ 14
choices_number gs choices r e = listed_one 14 r.number (((table []).row_14 gs choices).only r e)

module _ (f : List ℕ) (bias n p : ℕ) (m : Module) where
  abbrev image : List ℕ
  image = image_of f m.headers n

  -- the bare word of an item; memories with bare and with tagged words
  abbrev bare_word : ℕ → ℕ
  bare_word k = natural (address_at f m bias k)

  abbrev bare_memory : List ℕ
  bare_memory = writes (live f m) (place_at f m) bare_word image 0 (items m)

  abbrev tagged_memory : List ℕ → List ℕ
  tagged_memory choices = writes (live f m) (place_at f m) (word f bias n p choices m) image 0 (items m)

  -- the plain loader takes what the load takes
  plain_takes : (choices : List ℕ) → Passes f bias n p choices m → Stands f bias n p choices m → plain_of f bias n ≡ good bare_memory
  plain_takes choices c s =
      let r = s.reading in
      plain_module_lem f m bias n r.found r.headers r.loads (passed_of r.dynamic) (entries_base f m.dynamic r.entries)
      (passed_of r.relocations) (passed_of r.packed) c.relocates (lending_fits_lem f m bias n p c.lends).0
      (rw segments (bare_faults f m r.headers r.loads bias image held c.relocates ∙ c.addresses))
      ∙ ap good (plain_memory_lem f m bias n r.found
      ∙ rw segments (bare_words_lem f m r.headers r.loads bias image held c.relocates c.addresses s.apart (items m) (omega arith)))
    where
      segments : plain_image f m n ≡ image
      segments = segments_same f m.headers n s.reading.loads s.lent.holds m.headers.count (omega arith)

      held : (x : ℕ) → le 8 image x ≡ loaded_at f m.headers x
      held = held_image f bias n p choices m s

  bare-tagged : (choices : List ℕ) (x : ℕ) → NoTop f m x → get_or bare_memory x 0 ≡ get_or (tagged_memory choices) x 0
  bare-tagged choices x out =
      writes_agree (live f m) (place_at f m) image 0 bare_word (word f bias n p choices m)
      (λ k. sym (low_bytes (bare_word k) (tag f bias n p choices m k))) (items m) x
      (λ k _ l t. out k (record { listed = omega arith; unskipped = t }))

  words_length : (choices : List ℕ) → length (tagged_memory choices) ≡ length image
  words_length choices = writes-length (live f m) (place_at f m) image 0 (word f bias n p choices m) (items m)

  module _ (choices : List ℕ) (s : Stands f bias n p choices m) where
    fits : loads_end f m.headers ≤ 16 * p
    fits = let h = s.lent.holds in let e = s.planed in omega arith

    -- a byte of a word of either memory
    byte_at : (w : ℕ → ℕ) (k j : ℕ) → Relocates f m k → j < 8
        → get_or (writes (live f m) (place_at f m) w image 0 (items m)) (place_at f m k + j) 0 ≡ get_or (bytes_of 8 (w k)) j 0
    byte_at w k j e l =
        writes_at (live f m) (place_at f m) image 0 w (items m) s.apart k j (omega arith) (in_run k (items m) e.listed) e.unskipped l

    top_tag : (k : ℕ) → Relocates f m k → get_or (tagged_memory choices) (top_place f m k) 0 ≡ tag f bias n p choices m k
    top_tag k e =
        byte_at (word f bias n p choices m) k 7 e (omega arith)
        ∙ top_byte (bare_word k) (tag f bias n p choices m k) (s.small k e) (tag_small f bias n p choices m s k)

    held_top : (k j : ℕ) → Relocates f m k → j < length (globals_in f m) → Holds bias (global_at (globals_in f m) j) (source_at f m bias k)
        → get_or (tagged_memory choices) (top_place f m k) 0 ≡ get_or choices j 0
    held_top k j e l h =
        top_tag k e
        ∙ tag_held (globals_in f m) choices p (loads_end f m.headers) s.rising fits bias n s.planed j l (source_at f m bias k) h

    agrees : Agrees f bias n choices m bare_memory (tagged_memory choices)
    agrees = record {
      same_length = writes-length (live f m) (place_at f m) image 0 bare_word (items m) ∙ sym (words_length choices);
      others = bare-tagged choices;
      bare = λ k e. byte_at bare_word k 7 e (omega arith) ∙ bare_byte (bare_word k) (s.small k e);
      held = held_top;
      unheld = λ k e out.
          top_tag k e
          ∙ tag_unheld (globals_in f m) choices p (loads_end f m.headers) s.rising fits bias n s.planed (source_at f m bias k) out;
      weak = λ k e q. top_tag k e ∙ rw q;
    }

    matching : (k j : ℕ) → Relocates f m k → j < length (globals_in f m) → Holds bias (global_at (globals_in f m) j) (source_at f m bias k)
        → Matches f bias n p m (loaded f m bias n p choices) k j
    matching k j e l h =
        let t = held_top k j e l h in
        let P = plane-holds (globals_in f m) choices p (loads_end f m.headers) s.rising fits in
        record {
          own = λ x w. t ∙ sym (P.described j x l w);
          abutting = λ i x u a w q.
              choices_differ (globals_in f m) (loads_end f m.headers) choices s.rising s.chosen i j u l a
              (sym t ∙ q ∙ P.described i x u w);
          outside = λ x u out q. let z = P.undescribed x u out in let b = s.chosen.tag j l in omega arith;
        }

    alike : (choices' : List ℕ) → Alike f p m (loaded f m bias n p choices) (loaded f m bias n p choices')
    alike choices' = record {
      same_facts = refl;
      plane-length =
          (plane-holds (globals_in f m) choices' p (loads_end f m.headers) s.rising fits).plane-length
          ∙ sym (plane-holds (globals_in f m) choices p (loads_end f m.headers) s.rising fits).plane-length;
      memory-length = words_length choices' ∙ sym (words_length choices);
      same_plane = λ x u out.
          plane_empty (globals_in f m) choices' p (loads_end f m.headers) s.rising fits x out
          ∙ sym (plane_empty (globals_in f m) choices p (loads_end f m.headers) s.rising fits x out);
      same_memory = λ x out. sym (bare-tagged choices' x out) ∙ bare-tagged choices x out;
    }

    rechoosing : Passes f bias n p choices m → (choices' : List ℕ) → Rechosen f p m (loaded f m bias n p choices) (load_of f bias n p choices')
    rechoosing c choices' = go (choices_for (globals_in f m) choices') refl
      where
        go : (o : Check) → choices_for (globals_in f m) choices' ≡ o
            → Rechosen f p m (loaded f m bias n p choices) (load_of f bias n p choices')
        go (good u) e =
            taken_again (loaded f m bias n p choices')
            (passes_taken f bias n p choices' m
            (record { reads = c.reads; relocates = c.relocates; lends = c.lends; addresses = c.addresses; chosen = e }))
            (alike choices')
        go (bad r) e =
            refused_again r
            (load_refused f bias n p choices' m r c.reads (rw (c.relocates, c.lends, c.addresses, e)))
            (choices_number (globals_in f m) choices' r e)

  pub tags : (choices : List ℕ) → Passes f bias n p choices m → Tags f bias n p choices m (loaded f m bias n p choices)
  tags choices c =
      let s = passes_stands f bias n p choices m c in
      record {
        packed_sources = λ k e.
            packed_source f m bias k e.after
            ∙ ap (λ (x : ℕ). at (bias + x)) (sym (held_image f bias n p choices m s (place_at f m k)));
        sources = λ k bytes e. sourced f m s.reading bytes bias image (held_image f bias n p choices m s) c.relocates k e;
        against_plain = record { plain = bare_memory; takes = plain_takes choices c s; agrees = agrees choices s };
        matches = matching choices s;
        rechosen = rechoosing choices s c;
      }
