use Rattle.std.proofs.Common.{◌≡◌, ◌+◌, ◌++◌, ◌<◌, None, Some, MatchOption, length, refl, subst, ap, ◌∙◌, arith}
use Rattle.std.specs.Option.{ok_or}
use Rattle.std.specs.Result.{result_ok}
use Rattle.image.specs.declared.errors.ReadError.TheVariants.{Unreadable}
use Rattle.image.specs.declared.reader.Reader.{Reader}
use Rattle.image.specs.Format.{half, block}
use Rattle.image.specs.Reading.{Belong, Took, offset_of}
use Rattle.image.proofs.Blocks.{block-short}
use Rattle.image.proofs.Turns.{err_is, handed_on, section_took}
use Rattle.image.proofs.reader.Reader.take_section.Goals as goal

pub returns-in_err-count : goal.returns-in_err-count
returns-in_err-count c =
    let old = c.args.self.now in
    let none : c.count.result ≡ None = c.ok_or.ensures.ok_part ∙ ap result_ok c.in_err-count.was in
    let short : length old.rest.now < 2 = subst (λ o. MatchOption o (length old.rest.now < 2) (λ x. old.rest.now ≡ half x.0 ++ x.1.now)) none c.count.ensures in
    let e : c.in_err-count.field-0.0 ≡ c.unreadable.result =
    err_is c.ok_or.result _ _ c.in_err-count.was (c.ok_or.ensures.value ∙ ap (λ o. ok_or o c.unreadable.result) none) in
    let here : offset_of old ≡ offset_of old + 0 = omega arith in
    handed_on (Took (Belong c.args.section) block 2 old old) _ _ c.from_residual.ensures.1
    (0, e ∙ c.unreadable.ensures ∙ ap (λ o. Unreadable o) here, block-short c.args.section short)

pub returns : goal.returns
returns c =
    let old = c.args.self.now in
    let some : c.count.result ≡ Some (c.in_ok-count.count, c.in_ok-count.after) = c.ok_or.ensures.ok_part ∙ ap result_ok c.in_ok-count.was in
    let front : old.rest.now ≡ half c.in_ok-count.count ++ c.in_ok-count.after.now =
    subst (λ o. MatchOption o (length old.rest.now < 2) (λ x. old.rest.now ≡ half x.0 ++ x.1.now)) some c.count.ensures in
    let mid : Reader = record { size = old.size; rest = c.in_ok-count.after; records = old.records; within = omega (arith, old.within, ap length front) } in
    section_took c.args.section c.in_ok-count.count old mid c.take_records.new.self c.take_records.result front refl refl c.take_records.ensures
