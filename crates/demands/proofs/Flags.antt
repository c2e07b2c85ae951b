-- The facts' mode, heap and stack are what the dynamic entries say.
-- Assumes nothing.
use Rattle.std.specs.Prelude.{Option, Some, None}
use Prim.Native.Nat.{ℕ, ◌<◌}
use mathlib.Core.Path.{◌≡◌, sym, ◌∙◌, subst}
use mathlib.Core.List.{List}
use mathlib.Core.Logic.{◌⊎◌, ⊎_elim}
use Rattle.rules.specs.Outcome.{good}
use Rattle.rules.specs.Dynamic.{memtag_mode, memtag_heap, memtag_stack, known_tags, tag_at, value_at, entries_check, entry_of}
use Rattle.rules.specs.Examine.{mode_of, switch_of, facts_of}
use Rattle.rules.specs.declared.Dynamic.{Dynamic}
use Rattle.rules.specs.declared.Module.{Module}
use Rattle.demands.proofs.Entries.{entry_case, entries}
use Rattle.demands.specs.Entries.{Has, Lacks, GoodEntry}
use Rattle.demands.specs.Facts.{Moded, Switched, Flags}
use Rattle.demands.specs.Facts as flag

module _ (f : List ℕ) (d : Dynamic) (passed : entries_check known_tags f d ≡ good tt) where
  good_at : (i : ℕ) → i < d.entries → GoodEntry f d i
  good_at = ((entries f d).0 passed).0

  -- an entry's value, where the entries with its tag have 0 or 1, by cases: none; 0; 1
  by-entry : (P : Option ℕ → Type 0) (tag : ℕ)
      → ((i : ℕ) → i < d.entries → tag_at f d i ≡ tag → (value_at f d i ≡ 0) ⊎ (value_at f d i ≡ 1))
      → (Lacks f d tag → P None) → (Has f d tag 0 → P (Some 0)) → (Has f d tag 1 → P (Some 1)) → P (entry_of f d tag)
  by-entry P tag small none zero one =
      entry_case f d tag P none (λ v h.
      ⊎_elim
      (λ (z : value_at f d h.entry ≡ 0). valued v 0 h zero (sym z ∙ h.valued))
      (λ (z : value_at f d h.entry ≡ 1). valued v 1 h one (sym z ∙ h.valued))
      (small h.entry h.before_null h.tagged))
    where
      valued : (v w : ℕ) → Has f d tag v → (Has f d tag w → P (Some w)) → w ≡ v → P (Some v)
      valued v w h k e = subst (λ (x : ℕ). P (Some x)) e (k (subst (Has f d tag) (sym e) h))

  switched : (tag : ℕ) → ((i : ℕ) → i < d.entries → tag_at f d i ≡ tag → (value_at f d i ≡ 0) ⊎ (value_at f d i ≡ 1))
      → Switched f d tag (switch_of (entry_of f d tag))
  switched tag small = by-entry (λ (e : Option ℕ). Switched f d tag (switch_of e)) tag small flag.Switched.absent flag.off flag.on

  pub flags : (m : Module) → m.dynamic ≡ d → Flags f d (facts_of f m)
  unfolding facts_of
  flags m e =
      rw e
      (record {
        mode_said = by-entry (λ (e : Option ℕ). Moded f d (mode_of e)) memtag_mode (λ i l t. (good_at i l).memtag_value.mode t)
            flag.Moded.absent flag.synchronous flag.asynchronous;
        heap_said = switched memtag_heap (λ i l t. (good_at i l).memtag_value.heap t);
        stack_said = switched memtag_stack (λ i l t. (good_at i l).memtag_value.stack t);
      })
