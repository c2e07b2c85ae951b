-- Check 12 on its own words: which memory, plane and bias fit PT_LOADs that passed check 4.
-- Assumes nothing.
use Rattle.std.specs.Prelude.{ℕ, ◌+◌, ◌*◌, ◌%◌, ◌≤◌, ◌<◌, ◌≡◌, true, List, ◌⊎◌}
use Rattle.std.specs.Int.{◌∣◌}
use Rattle.rules.specs.Outcome.{good}
use Rattle.rules.specs.Limits.{memory_limit, address_limit, granule, page}
use Rattle.rules.specs.Segments.{header_at, is_load}
use Rattle.rules.specs.Lending.{lending_check}
use Rattle.rules.specs.declared.Headers.{Headers}
use Rattle.rules.specs.declared.Segment.{Segment}
use Rattle.rules.specs.declared.Module.{Module}
use Rattle.demands.specs.Plain.{plain_lending}

-- what holds of each PT_LOAD
abbrev pub Each : List ℕ → Headers → (Segment → Type 0) → Type 0
Each f h P = (i : ℕ) → i < h.count → is_load (header_at f h i) ≡ true → P (header_at f h i)

-- a memory of n bytes and a bias: whole granules that hold each PT_LOAD; a multiple of a page and of each PT_LOAD's align,
-- where 0 counts as 1
pub record Fitting (f : List ℕ) (h : Headers) (bias n : ℕ) : Type 0 where
  pub whole : granule ∣ n
  pub holds : Each f h (λ s. s.vaddr + s.memsz ≤ n)
  pub short : n ≤ memory_limit
  pub paged : page ∣ bias
  pub aligned : Each f h (λ s. (s.align ≡ 0) ⊎ (s.align ∣ bias))
  pub low : bias + n ≤ address_limit

-- check 12 passes exactly when they fit, and the plane is one sixteenth; the plain loader's knows no plane
pub record Lends (f : List ℕ) (m : Module) (bias n p : ℕ) : Type 0 where
  pub lends_if : Fitting f m.headers bias n → granule * p ≡ n → lending_check f m bias n p ≡ good tt
  pub lends_only_if : lending_check f m bias n p ≡ good tt → Fitting f m.headers bias n × (granule * p ≡ n)
  pub plain_if : Fitting f m.headers bias n → plain_lending f m bias n ≡ good tt
  pub plain_only_if : plain_lending f m bias n ≡ good tt → Fitting f m.headers bias n

-- at its run-time address each PT_LOAD is in step with its offset, modulo its align
abbrev pub InStep : List ℕ → Headers → ℕ → Type 0
InStep f h bias = Each f h (λ s. 0 < s.align → (bias + s.vaddr) % s.align ≡ s.offset % s.align)
