-- Each wrong definition of `Wrong.antt` with the statement of the demands that is false of it.
-- Assumes nothing.
use Rattle.std.specs.Prelude.{ℕ, ◌≡◌, List, ◌↔◌}
use Rattle.rules.specs.Outcome.{Outcome, good}
use Rattle.rules.specs.Headers.{the_headers, headers_of}
use Rattle.rules.specs.Segments.{loads_check}
use Rattle.rules.specs.Relocations.{barred}
use Rattle.rules.specs.Reader.{the_dynamic, module_of}
use Rattle.rules.specs.Image.{image_of}
use Rattle.rules.specs.Load.{Loaded, load_of}
use Rattle.rules.specs.declared.Dynamic.{Dynamic}
use Rattle.rules.specs.declared.Facts.{Facts}
use Rattle.rules.specs.declared.Module.{Module}
use Rattle.demands.specs.Writer.{Bytes}
use Rattle.demands.specs.Parts.{GoodHeader}
use Rattle.demands.specs.Entries.{FoundDynamic, GoodEntry}
use Rattle.demands.specs.Targets.{AllowedItem, GoodPlace}
use Rattle.demands.specs.Sentences.{Means, Clears, Admits}
use Rattle.demands.specs.Facts.{Flags}
use Rattle.demands.specs.Demands.{Relocates, Sourced}
use Rattle.demands.specs.Order.{InOrder, load_order}
use Rattle.demands.specs.PlainRefuses.{PlainRefuses}
use Rattle.mistakes.specs.Wrong.{wrapped_header, long_dynamic, unequal_repeat, examined_above, short_kind, reserved_target, place_above, source_below}
use Rattle.mistakes.specs.Wrong.{addresses_first}
use Rattle.mistakes.specs.Wrong.{plain_by_item, plain_late, plain_described, plain_taking}

-- a statement that the demands make of every file is false of one
abbrev pub False : (List ℕ → Type 0) → Type 0
False statement = (f : List ℕ) × (statement f → ⊥)

-- the statement of the plain loader's refusals, with its answer from another definition
abbrev pub RefusesAs : (List ℕ → ℕ → ℕ → Outcome (List ℕ)) → List ℕ → Type 0
RefusesAs plain f = (bias n p : ℕ) (choices : List ℕ) → PlainRefuses f bias n (plain f bias n) (load_of f bias n p choices)

pub record Mistakes : Type 0 where
  -- `FileSentences.header`
  pub header_wraps : False (λ f. Admits (wrapped_header f) (GoodHeader f))
  -- `PartSentences.dynamic`
  pub dynamic_long : False (λ f. headers_of f ≡ good (the_headers f) → loads_check f (the_headers f) ≡ good tt
      → (d : Dynamic) → (long_dynamic f (the_headers f) ≡ good d) ↔ FoundDynamic f d)
  -- `FileSentences.entry`
  pub repeat_equal : False (λ f. (d : Dynamic) (i : ℕ) → Clears (unequal_repeat f d i) (GoodEntry f d i))
  -- `Examines.examined-flags`
  pub mode_zero_holds : False (λ f. (a : Facts) → examined_above f ≡ good a → Flags f (the_dynamic f) a)
  -- `ItemSentences.kind`, twice
  pub kind_short : False (λ f. (m : Module) → module_of f ≡ good m → (k : ℕ) → Bytes f
      → Clears (barred (short_kind f m k)) (AllowedItem f m k))
  pub section_high_holds : False (λ f. (m : Module) → module_of f ≡ good m → (k : ℕ) → Bytes f
      → Clears (barred (reserved_target f m k)) (AllowedItem f m k))
  -- `ItemSentences.place`
  pub flags_above_holds : False (λ f. (m : Module) → module_of f ≡ good m → (k : ℕ) → Bytes f → Means (place_above f m k) (GoodPlace f m k))
  -- `Tags.sources`
  pub source_below_holds : False (λ f. (bias n p : ℕ) (choices : List ℕ) (m : Module) (l : Loaded) → module_of f ≡ good m
      → load_of f bias n p choices ≡ good l → (k : ℕ) → Bytes f → Relocates f m k
      → Sourced f bias m (image_of f m.headers n) k (source_below f m bias k))
  -- `Ordered.load`
  pub order_swapped : False (λ f. (bias n p : ℕ) (choices : List ℕ) → InOrder (addresses_first f bias n p choices) load_order)
  -- `Demands.plain-refuses`, four times
  pub plain_item : False (RefusesAs plain_by_item)
  pub plain_late_holds : False (RefusesAs plain_late)
  pub plain_described_holds : False (RefusesAs plain_described)
  pub plain_taking_holds : False (RefusesAs plain_taking)
