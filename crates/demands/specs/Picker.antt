-- The picker of tags: the rules of a list of choices, which lists are taken, what is picked, and that check 14 then passes.
-- Assumes nothing.
use Rattle.std.specs.Prelude.{ℕ, suc, ◌+◌, ◌*◌, ◌/◌, ◌%◌, ◌^◌, ◌≤◌, ◌<◌, ◌≡◌, true, List, [], ◌∷◌, length, get_or}
use Rattle.rules.specs.Outcome.{Outcome, good, bad, refusal, Refusal}
use Rattle.rules.specs.Limits.{address_limit, granule}
use Rattle.rules.specs.Choices.{globals_in, choices_for, choices_check}
use Rattle.rules.specs.Reader.{module_of}
use Rattle.rules.specs.Load.{load_of}
use Rattle.rules.specs.Picker.{picked_of, globals_after, choices_after}
use Rattle.rules.specs.declared.Global.{Global}
use Rattle.rules.specs.declared.Module.{Module}
use Rattle.demands.specs.Table.{listed}
use Rattle.demands.specs.Writer.{Wrong, FitBelow, addresses_of, sizes_of, Bytes}

abbrev pub picker_numbers : List ℕ
picker_numbers = 7 ∷ 2 ∷ 3 ∷ 4 ∷ 5 ∷ 8 ∷ []

-- ---- the rules of a list of choices

-- a tag that a mask of excluded tags allows: its bit is clear, and it is not 0
pub record Allowed (excluded tag : ℕ) : Type 0 where
  pub least : 1 ≤ tag
  pub most : tag ≤ 15
  pub clear : excluded / 2 ^ tag % 2 ≡ 0

module _ (addresses sizes : List ℕ) where
  -- a global ends where the next one starts
  abbrev pub AbutNext : ℕ → Type 0
  AbutNext i = get_or addresses i 0 + get_or sizes i 0 ≡ get_or addresses (suc i) 0

  -- a choice for each global, each of them allowed, and different where two globals abut
  pub record Meets (excluded : ℕ) (choices : List ℕ) : Type 0 where
    pub as_many : length choices ≡ length addresses
    pub allowed : (i : ℕ) → i < length addresses → Allowed excluded (get_or choices i 0)
    pub differ : (i : ℕ) → suc i < length addresses → AbutNext i → get_or choices i 0 ≡ get_or choices (suc i) 0 → ⊥

  -- a tag that the global of index i may have beside the choices before it
  pub record Good (excluded : ℕ) (choices : List ℕ) (i tag : ℕ) : Type 0 where
    pub allowed : Allowed excluded tag
    pub differs : (j : ℕ) → i ≡ suc j → AbutNext j → tag ≡ get_or choices j 0 → ⊥

  -- four lists of one length, where n choices are lent
  pub record EquallyLong (random : List ℕ) (n : ℕ) : Type 0 where
    pub sizes_long : length sizes ≡ length addresses
    pub random_long : length random ≡ length addresses
    pub choices_long : n ≡ length addresses

  module _ (random : List ℕ) (excluded : ℕ) where
    -- ---- what is picked

    -- a choice is so many tags up from its random byte, wrapping at 16, and the first good one on the way
    pub record FirstGood (choices : List ℕ) (i : ℕ) : Type 0 where
      pub up : ℕ
      pub near : up < 16
      pub reached : get_or choices i 0 ≡ (get_or random i 0 + up) % 16
      pub good : Good excluded choices i (get_or choices i 0)
      pub passed : (k : ℕ) → k < up → Good excluded choices i ((get_or random i 0 + k) % 16) → ⊥

    -- of every global
    pub record Picked (choices : List ℕ) : Type 0 where
      pub as_many : length choices ≡ length addresses
      pub each : (i : ℕ) → i < length addresses → FirstGood choices i

    -- ---- what is taken

    module _ (n : ℕ) where
      -- the lists are equally long, the writer takes every global, and there is a list of choices that meets the rules
      pub record PickTakes : Type 0 where
        pub as_long : EquallyLong random n
        pub fit : FitBelow addresses sizes (length addresses)
        pub choices : List ℕ
        pub meets : Meets excluded choices

      -- a refusal: a length differs; else the first global with a fault, the writer's; else no list of choices meets the rules
      pub data PickRefuses (r : Refusal) : Type 0 where
        unequal : r ≡ refusal 7 0 → (EquallyLong random n → ⊥) → PickRefuses r
        at_global : (i number : ℕ) → r ≡ refusal number i → EquallyLong random n → i < length addresses → FitBelow addresses sizes i
            → Wrong addresses sizes i number → PickRefuses r
        no_list : r ≡ refusal 8 0 → EquallyLong random n → FitBelow addresses sizes (length addresses)
            → ((choices : List ℕ) → Meets excluded choices → ⊥) → PickRefuses r

      -- the choices that are picked, by the rules
      abbrev outcome : Outcome (List ℕ)
      outcome = picked_of addresses sizes random excluded n

      -- both exactly; what is picked meets the rules, and each choice is the first good one; a refusal has one of six numbers, and
      -- an index that the globals bound
      pub record Picks : Type 0 where
        pub taken_if : PickTakes → (choices : List ℕ) × (outcome ≡ good choices)
        pub taken_only_if : (choices : List ℕ) → outcome ≡ good choices → PickTakes
        pub meets : (choices : List ℕ) → outcome ≡ good choices → Meets excluded choices
        pub picked : (choices : List ℕ) → outcome ≡ good choices → Picked choices
        pub refused_if : (r : Refusal) → PickRefuses r → outcome ≡ bad r
        pub refused_only_if : (r : Refusal) → outcome ≡ bad r → PickRefuses r
        pub few : PickTakes → granule * length addresses ≤ address_limit
        pub numbered : (r : Refusal) → PickRefuses r → listed picker_numbers r.number ≡ true
        pub indexed : (r : Refusal) → PickRefuses r → granule * r.position ≤ address_limit

-- ---- a call

module _ (addresses sizes random : List ℕ) (excluded : ℕ) where
  -- what the contract of `pick_tags` says: the choices as lent, the choices as left, and the answer
  pub record PickCall (lent left : List ℕ) (answer : Outcome ℕ) : Type 0 where
    pub answered : answer ≡ globals_after (picked_of addresses sizes random excluded (length lent))
    pub chosen : left ≡ choices_after (picked_of addresses sizes random excluded (length lent)) lent

  -- a call that is taken answers the number of globals and leaves the picks; a refused one leaves the choices as lent
  pub record PickKept (lent left : List ℕ) (answer : Outcome ℕ) : Type 0 where
    pub taken : (n : ℕ) → answer ≡ good n → PickTakes addresses sizes random excluded (length lent) × (n ≡ length addresses)
    pub meets : (n : ℕ) → answer ≡ good n → Meets addresses sizes excluded left
    pub picked : (n : ℕ) → answer ≡ good n → Picked addresses sizes random excluded left
    pub refused : (r : Refusal) → answer ≡ bad r → PickRefuses addresses sizes random excluded (length lent) r × (left ≡ lent)

-- ---- the demands on the picker

pub record PickerClaim : Type 0 where
  pub picks : (addresses sizes random : List ℕ) (excluded n : ℕ) → Picks addresses sizes random excluded n
  -- the same random bytes give the same choices: there is one list of first good ones
  pub one_list : (addresses sizes random : List ℕ) (excluded : ℕ) (c d : List ℕ)
      → Picked addresses sizes random excluded c → Picked addresses sizes random excluded d → c ≡ d
  pub again : (addresses sizes random : List ℕ) (excluded : ℕ) (lent left other after : List ℕ) (n k : ℕ)
      → PickCall addresses sizes random excluded lent left (good n) → PickCall addresses sizes random excluded other after (good k) → after ≡ left
  -- no global needs no tag, and two tags that are allowed are enough for any
  pub none_enough : (excluded : ℕ) → PickTakes [] [] [] excluded 0
  pub two_enough : (addresses sizes random : List ℕ) (excluded n t u : ℕ) → Allowed excluded t → Allowed excluded u → (t ≡ u → ⊥)
      → EquallyLong addresses sizes random n → FitBelow addresses sizes (length addresses) → PickTakes addresses sizes random excluded n
  pub kept : (addresses sizes random : List ℕ) (excluded : ℕ) (lent left : List ℕ) (answer : Outcome ℕ)
      → PickCall addresses sizes random excluded lent left answer → PickKept addresses sizes random excluded lent left answer
  -- check 14 of globals: it passes exactly what meets the rules where nothing is excluded
  pub passes : (gs : List Global) (excluded : ℕ) (choices : List ℕ) → Meets (addresses_of gs) (sizes_of gs) excluded choices
      → choices_for gs choices ≡ good tt
  pub passed-meets : (gs : List Global) (choices : List ℕ) → choices_for gs choices ≡ good tt → Meets (addresses_of gs) (sizes_of gs) 0 choices
  -- the globals of a module that is read are never refused by themselves
  pub module_fits : (f : List ℕ) (m : Module) → Bytes f → module_of f ≡ good m
      → FitBelow (addresses_of (globals_in f m)) (sizes_of (globals_in f m)) (length (globals_in f m))
  -- a load of a module with choices that were picked for its globals: check 14 passes, and the load is not refused by it
  pub module_passes : (f : List ℕ) (m : Module) (random : List ℕ) (excluded k : ℕ) (choices : List ℕ) → module_of f ≡ good m
      → picked_of (addresses_of (globals_in f m)) (sizes_of (globals_in f m)) random excluded k ≡ good choices
      → (choices_check f m choices ≡ good tt) × ((bias n p i : ℕ) → load_of f bias n p choices ≡ bad (refusal 14 i) → ⊥)
