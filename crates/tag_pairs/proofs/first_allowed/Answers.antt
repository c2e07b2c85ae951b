-- The first of the numbers from the start on whose tag is allowed, or none of the sixteen.
-- Assumes nothing.
use Prim.Native.Nat.{◌+◌, ◌%◌}
use mathlib.Core.Path.{◌≡◌, ◌∙◌}
use mathlib.Core.Bool.{true, false}
use native.Mathlib.Omega.{arith}
use Rattle.std.proofs.Common.{rules, tests}
use Rattle.std.proofs.lemmas.Iterator.{first_from_Range}
use Rattle.std.proofs.option.Match.{if_some, if_none}
use Rattle.rules.specs.Picker.{tag_count, allowed}
use Rattle.tag_pairs.proofs.Laws.{pick_found}
use Rattle.tag_pairs.proofs.first_allowed.Goals as goal

pub returns-in-Some : goal.returns-in-Some
returns-in-Some c =
    let x = c.args.excluded in
    let f = if_some _ _ _ c.in-Some.is (first_from_Range _ _ _ c.find.result (λ k. true ≡ allowed x (k % tag_count))
    (λ k. false ≡ allowed x (k % tag_count)) c.find.ensures.ran
    (λ k q h. search (rules, tests)) (λ k q h. (search rules, search (rules, tests)))) in
    pick_found x c.args.start c.in-Some.tag c.requires f.0 (omega (arith, f.1)) (λ _. f.2) f.3

pub returns-in-None : goal.returns-in-None
returns-in-None c =
    let x = c.args.excluded in
    let f = if_none _ _ c.in-None.is (first_from_Range _ _ _ c.find.result (λ k. true ≡ allowed x (k % tag_count))
    (λ k. false ≡ allowed x (k % tag_count)) c.find.ensures.ran
    (λ k q h. search (rules, tests)) (λ k q h. (search rules, search (rules, tests)))) in
    let e : c.args.start ≡ (c.args.start + tag_count) % tag_count = omega (arith, c.requires) in
    e ∙ pick_found x c.args.start (c.args.start + tag_count) c.requires (omega arith) (omega arith) (λ n. absurd (omega arith)) f
