-- The loop keeps that the words so far are good, and their total with the entries.
-- Assumes nothing.
use mathlib.Core.Path.{sym}
use native.Mathlib.Omega.{arith}
use Rattle.relr.proofs.Laws.{counting_none, counting_next, counting_over, counting_all, no_words, odd_first}
use Rattle.relr.proofs.count_places.Goals as goal

pub returns-then-words-eq0 : goal.returns-then-words-eq0
returns-then-words-eq0 c = let a = c.args in rw c.if-words-eq0.true (sym (no_words a.f.now a.at a.entries))

pub returns-then-word_at-ne0 : goal.returns-then-word_at-ne0
returns-then-word_at-ne0 c =
    let a = c.args in
    rw c.at.ensures
    (sym (odd_first a.f.now a.at a.words a.entries c.word_at.result (omega arith) c.word_at.ensures c.if-word_at-ne0.true))

pub loop-k-init : goal.loop-k-init
loop-k-init c =
    let a = c.args in
    counting_none a.f.now a.at a.words a.entries c.word_at.result (omega arith) c.word_at.ensures c.if-word_at-ne0.false

pub returns-then-total : goal.returns-then-total
returns-then-total c =
    let l = c.loop-k in
    let a = c.args in
    rw c.at-then-total.ensures
    (sym (counting_over a.f.now a.at a.words a.entries l.k l.total l.invariant c.word_at-w.result c.count_of.result
    (omega arith) c.word_at-w.ensures c.count_of.ensures (omega arith) (omega arith)))

pub loop-k-preserved : goal.loop-k-preserved
loop-k-preserved c =
    let l = c.loop-k in
    let a = c.args in
    counting_next a.f.now a.at a.words a.entries l.k l.total l.invariant c.word_at-w.result c.count_of.result
    (omega arith) c.word_at-w.ensures c.count_of.ensures (omega arith) (omega arith)

pub returns : goal.returns
returns c =
    let l = c.loop-k in
    let a = c.args in
    sym (counting_all a.f.now a.at a.words a.entries l.k l.total l.invariant (omega arith))
