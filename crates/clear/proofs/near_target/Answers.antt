-- The tests are those of the rule and of a defined symbol that is allowed; a near symbol stands where it is backed.
-- Assumes nothing.
use Rattle.std.proofs.Common.{◌+◌, ◌*◌, sym, ◌∙◌, arith, inl, inr}
use Rattle.clear.proofs.Laws.{defined_target, relative-target, symbolic_target}
use Rattle.clear.proofs.near_target.Goals as goal

pub returns-then-symbol-eq0 : goal.returns-then-symbol-eq0
returns-then-symbol-eq0 c m w e =
    let a = c.args in
    relative-target a.f.now m a.kind a.symbol c.if-kind-eq-R_AARCH64_RELATIVE.true c.if-symbol-eq0.true

pub returns-in_default-1-to-65279 : goal.returns-in_default-1-to-65279
returns-in_default-1-to-65279 c m w e =
    let a = c.args in
    let p = a.near.at + 24 * a.symbol in
    let known = c.in_default-1-to-65279.is-0 in
    symbolic_target a.f.now m a.kind a.symbol p (sym c.if-not-is_symbolic.ensures)
    c.if-symbol-eq0-2.false (w.backed a.symbol c.if-near-symbol.false)
    ∙ defined_target a.f.now p _ _ _ c.byte-info.ensures c.le16-section.ensures c.le64.ensures
    (λ t. known.1 (inl t)) (λ t. known.1 (inr t)) (λ z. omega arith) (omega arith)
