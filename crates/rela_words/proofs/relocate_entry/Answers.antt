-- The fields are read once, and the word is written unless the kind is 0.
-- Assumes nothing.
use Rattle.std.proofs.Common.{sym, ◌∙◌}
use Rattle.rela_words.proofs.Laws.{entry_skipped, entry-written}
use Rattle.rela_words.proofs.relocate_entry.Goals as goal

pub returns-then-kind-eq0 : goal.returns-then-kind-eq0
returns-then-kind-eq0 c m i s h y =
    let a = c.args in
    sym (entry_skipped a.f.now m a.bias a.plane.now a.mem.now i a.at s (sym c.le32-kind.ensures ∙ c.if-kind-eq0.true))

pub returns : goal.returns
returns c m i s h y =
    let a = c.args in
    let t = rw (c.le32-kind.ensures, c.le32-symbol.ensures) at c.find_target-t.ensures in
    c.write_word.ensures
    ∙ sym (entry-written a.f.now m a.bias a.plane.now a.mem.now i a.at s c.find_target-t.result
    (λ z. c.if-kind-eq0.false (c.le32-kind.ensures ∙ z)) (rw (h, y) t))
