-- The load by its stages: the writes, and the call.
-- Assumes nothing.
use Prim.Native.Nat.{ℕ}
use mathlib.Core.Path.{◌≡◌, sym, ap, ◌∙◌}
use mathlib.Core.List.{List}
use native.Mathlib.Omega.{arith}
use lib.ListN.{length}
use Rattle.rules.specs.Outcome.{good, bad, Refusal}
use Rattle.rules.specs.Checks.{runs, checked}
use Rattle.rules.specs.Reader.{module_of}
use Rattle.rules.specs.Bytes.{le}
use Rattle.rules.specs.Relocations.{place_at, live, items, target_at}
use Rattle.rules.specs.Examine.{facts_of}
use Rattle.rules.specs.Choices.{globals_in}
use Rattle.rules.specs.Image.{image_of, loaded_at}
use Rattle.rules.specs.Words.{word_at}
use Rattle.rules.specs.Load.{call_checks, loaded_memory, loaded_plane}
use Rattle.rules.specs.declared.Module.{Module}
use Rattle.rules.specs.declared.Facts.{Facts}
use Rattle.rules.proofs.OutcomeLaws.{and_then_good}
use Rattle.laws.proofs.Checks.{and_then_bad}
use Rattle.laws.proofs.Items.{packed-live}
use Rattle.laws.proofs.Places.{address_ranged}
use Rattle.laws.proofs.Tables.{relocations_inside}
use Rattle.laws.proofs.Writes.{writes_same}
use Rattle.demands.specs.Calls.{Buffers, load_into, Call}
use Rattle.demands.proofs.Exactly.{Passes, checks_passes, passes_taken, load_unread, load_refused}
use Rattle.demands.proofs.Reading.{module_reads}
use Rattle.demands.proofs.Image.{image_size}
use Rattle.demands.proofs.Refusals.{module_good, module_packs}
use Rattle.demands.proofs.Standing.{passes_stands, held_image}
use Rattle.rela_words.specs.Words.{target_over, word_in, Placed}
use Rattle.relocating.proofs.WriteLaws.{relocated-writes}
use Rattle.tags.proofs.Laws.{plane-tagged}
use Rattle.load.specs.Written.{written_plane, written_memory}

-- ---- the writes

module _ (f : List ℕ) (bias n p : ℕ) (choices : List ℕ) (m : Module) (c : Passes f bias n p choices m) where
  pub plane-written : written_plane f m choices p ≡ loaded_plane f m choices p
  plane-written =
      let r = module_reads f m c.reads in
      plane-tagged f m.headers m.descriptors (globals_in f m) r.globals choices m.globals (sym r.count) p

  abbrev image : List ℕ
  image = image_of f m.headers n

  held : (k : ℕ) → le 8 image (place_at f m k) ≡ loaded_at f m.headers (place_at f m k)
  held k = held_image f bias n p choices m (passes_stands f bias n p choices m c) (place_at f m k)

  -- the target and the word of an item over the image are the rules'
  target-written : (k : ℕ) → target_over f m image k ≡ target_at f m k
  unfolding target_over target_at
  target-written k = rw (held k)

  word-written : (plane : List ℕ) (k : ℕ) → word_in f m bias plane image k ≡ word_at f m bias n plane k
  word-written plane k = rw (target-written k, image_size f m.headers n, held k)

  -- the PT_LOADs are good and the entries inside the file; the packed places are counted, and lie in memory
  pub packed_placed : Placed f m
  packed_placed =
      let s = passes_stands f bias n p choices m c in
      let r = module_reads f m c.reads in
      record {
        loads = r.loads;
        inside = relocations_inside f m.headers r.loads m.dynamic m.relocations r.relocations;
        counted = (module_good f m c.reads).counted;
        few = (module_packs f m c.reads).few;
        low = λ k l u.
            let i = s.apart.inside k (omega arith) (omega arith) (packed-live f m k l) in
            let z = image_size f m.headers n in
            let b = s.lent.short in
            omega arith;
      }

  pub memory-written : (plane : List ℕ) → written_memory f m bias plane n ≡ loaded_memory f m bias n plane
  memory-written plane =
      let s = passes_stands f bias n p choices m c in
      relocated-writes f m bias plane image (items m) s.apart (λ k l t. rw (target-written k) (address_ranged f m bias c.addresses k l t))
      ∙ writes_same (live f m) (place_at f m) image 0 (word_in f m bias plane image) (word_at f m bias n plane) (items m) (λ k _ _ _. word-written plane k)

-- ---- the call

-- a call that is refused leaves the buffers as lent; one that is taken leaves the load's
module _ (f : List ℕ) (bias : ℕ) (choices : List ℕ) (lent : Buffers) where
  call_refused : (r : Refusal) → load_into f bias choices lent ≡ bad r → Call f bias choices lent lent (bad r)
  call_refused r e = record { answered = rw e; placed = rw e; tagged = rw e }

  pub call_unread : (r : Refusal) → module_of f ≡ bad r → Call f bias choices lent lent (bad r)
  call_unread r e = call_refused r (load_unread f bias (length lent.memory) (length lent.plane) choices r e)

  module _ (m : Module) (e : module_of f ≡ good m) where
    abbrev N : ℕ
    N = length lent.memory

    abbrev P : ℕ
    P = length lent.plane

    abbrev Answered : Facts → Type 0
    Answered a = checked (call_checks f m bias N P choices) (facts_of f m) ≡ good a

    pub call_unfit : (r : Refusal) → checked (call_checks f m bias N P choices) (facts_of f m) ≡ bad r → Call f bias choices lent lent (bad r)
    call_unfit r k =
        call_refused r (load_refused f bias N P choices m r e
        (and_then_bad (runs (call_checks f m bias N P choices)) _ k (λ q. q) (λ _ _ q. absurd (let z : ◌≡◌ {A = ℕ} 0 1 = cc in omega arith))))

    pub call_placed : (a : Facts) → Answered a → Placed f m
    call_placed a k =
        let g = and_then_good (runs (call_checks f m bias N P choices)) _ k in
        packed_placed f bias N P choices m (checks_passes f bias N P choices m e g.here)

    pub call_taken : (a : Facts) (left : Buffers) → Answered a
        → left.memory ≡ written_memory f m bias (written_plane f m choices P) N → left.plane ≡ written_plane f m choices P
        → Call f bias choices lent left (good a)
    call_taken a left k placed tagged =
        let g = and_then_good (runs (call_checks f m bias N P choices)) _ k in
        let c = checks_passes f bias N P choices m e g.here in
        let x = passes_taken f bias N P choices m c in
        let same : a ≡ facts_of f m = cc g.rest in
        let plane = plane-written f bias N P choices m c in
        record {
          answered = rw (x, same);
          placed = rw x (placed ∙ memory-written f bias N P choices m c (written_plane f m choices P)
              ∙ ap (λ (s : List ℕ). loaded_memory f m bias N s) plane);
          tagged = rw x (tagged ∙ plane);
        }
