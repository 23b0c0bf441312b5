use Rattle.std.proofs.Common.{◌+◌, ◌++◌, drop, sym, ap, ◌∙◌, arith, true-eqb, false-eqb}
use Rattle.std.proofs.lemmas.List.{take_all, take_more, take-append-drop}
use Rattle.std.proofs.lemmas.Result.{IfOk-at_ok}
use Rattle.image.specs.declared.errors.ReadError.TheVariants.{Memory}
use Rattle.image.specs.declared.records.Section.TheVariants.{Admissions}
use Rattle.image.specs.Format.{order}
use Rattle.image.specs.Reading.{Fails}
use Rattle.image.proofs.Turns.{walked_none, walked_more, walked_fails, walked_lost, walked_reads, walked_rest, fails_on}
use Rattle.image.proofs.reading.read.Goals as goal

pub loop-section-init : goal.loop-section-init
loop-section-init c = walked_none _ _ c.new-reader.ensures

pub returns-in_err-take_section : goal.returns-in_err-take_section
returns-in_err-take_section c =
    let i = c.loop-section.section-index in
    let later = drop (i + 1) order in
    fails_on _ (Fails c.args.bytes.now) _ _ c.from_residual.ensures.1
    (walked_fails c.loop-section.invariant _ later c.take_section.new.self _
    (sym (take-append-drop (i + 1) order) ∙ ap (λ ss. ss ++ later) (take_more order i Admissions c.loop-section-test.true))
    (omega (arith, c.if-bytes-gt-LIMIT.false)) c.in_err-take_section.ensures)

pub loop-section-preserved : goal.loop-section-preserved
loop-section-preserved c = walked_more c.loop-section.invariant _ _ _ (take_more order _ Admissions c.loop-section-test.true) c.in_ok-take_section.ensures

pub returns-then-not-is_empty : goal.returns-then-not-is_empty
returns-then-not-is_empty c =
    walked_rest c.loop-section.invariant (take_all _ order c.loop-section-test.false) _ c.unreadable.ensures (omega (arith, false-eqb _ 0 c.if-not-is_empty.ensures))
    (omega (arith, c.if-bytes-gt-LIMIT.false))

pub returns-in_err-reader : goal.returns-in_err-reader
returns-in_err-reader c =
    fails_on _ (Fails c.args.bytes.now) _ Memory c.from_residual-in_err-reader.ensures.1
    (walked_lost c.loop-section.invariant (take_all _ order c.loop-section-test.false) (true-eqb _ 0 c.if-not-is_empty.ensures) (omega (arith, c.if-bytes-gt-LIMIT.false)))

pub returns : goal.returns
returns c = (
  omega (arith, c.if-bytes-gt-LIMIT.false),
  IfOk-at_ok _ c.in_ok-reader.was (walked_reads c.loop-section.invariant (take_all _ order c.loop-section-test.false) (true-eqb _ 0 c.if-not-is_empty.ensures)),
)
