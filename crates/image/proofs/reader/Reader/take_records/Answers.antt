use Rattle.std.proofs.Common.{◌≡◌, ◌++◌, None, Some, length, map, sym, subst, ap, ◌∙◌, arith}
use Rattle.std.specs.Option.{ok_or}
use Rattle.std.specs.Result.{result_ok}
use Rattle.image.specs.Format.{written}
use Rattle.image.specs.Reading.{Belong, Taken, Took}
use Rattle.image.proofs.Turns.{err_is, handed_on, sofar_none, sofar_more, sofar_stuck, sofar_all}
use Rattle.image.proofs.reader.Reader.take_records.Goals as goal

pub loop-init : goal.loop-init
loop-init c = sofar_none _ _

pub returns-in_err-record : goal.returns-in_err-record
returns-in_err-record c =
    let none : c.record.result ≡ None = c.ok_or.ensures.ok_part ∙ ap result_ok c.in_err-record.was in
    let never = subst (λ o. Taken c.args.section c.loop.self.rest.now o) none c.record.ensures in
    let e : c.in_err-record.field-0.0 ≡ c.unreadable.result =
    err_is c.ok_or.result _ _ c.in_err-record.was (c.ok_or.ensures.value ∙ ap (λ o. ok_or o c.unreadable.result) none) in
    handed_on (Took (λ rs. Belong c.args.section rs × (length rs ≡ c.args.count)) (map written) 0 c.args.self.now c.loop.self) _ _ c.from_residual.ensures.1
    (sofar_stuck c.loop.invariant _ _ c.loop-test.true never (e ∙ c.unreadable.ensures))

pub loop-preserved : goal.loop-preserved
loop-preserved c =
    let r = c.in_ok-record.record in
    let some : c.record.result ≡ Some (r, c.in_ok-record.after) = c.ok_or.ensures.ok_part ∙ ap result_ok c.in_ok-record.was in
    let found = subst (λ o. Taken c.args.section c.loop.self.rest.now o) some c.record.ensures in
    sofar_more c.loop.invariant r _ found.0 (found.1 ∙ ap (λ l. written r ++ l) (sym c.keep.ensures.rest)) c.keep.ensures.size c.keep.ensures.kept

pub returns : goal.returns
returns c = sofar_all c.loop.invariant _ (omega arith)
