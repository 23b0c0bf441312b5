use Rattle.std.proofs.Common.{◌≡◌, refl}
use Rattle.std.proofs.lemmas.Result.{err_from_is_err_and}
use Rattle.words.specs.Wholes.{signed}
use Rattle.shrinkage.specs.declared.pattern.Fault.TheVariants.{ZeroDivisor}
use Rattle.shrinkage.proofs.Steps.{blamed, divided, divisor-is, handed, of_quotient, product_is, quotient_is, zero_word}
use Rattle.shrinkage.proofs.pattern.work.Goals as goal

pub returns-in_err-divisor : goal.returns-in_err-divisor
returns-in_err-divisor c =
    let p = err_from_is_err_and c.from_residual.result c.from_residual.ensures.1 in
    let x = c.in_err-divisor.ensures in
    rw (p.1, p.2, x.1) (blamed c.subtract.result _ c.subtract.ensures.value (divisor-is (signed 32 c.args.shrinkage)) x.0)

pub returns-in_err-product : goal.returns-in_err-product
returns-in_err-product c =
    let p = err_from_is_err_and c.from_residual-in_err-product.result c.from_residual-in_err-product.ensures.1 in
    let x = c.in_err-product.ensures in
    rw (p.1, p.2, x.1) (blamed c.multiply.result _ c.multiply.ensures.value (product_is (signed 32 c.args.fired)) x.0)

pub returns-in_err-quotient : goal.returns-in_err-quotient
returns-in_err-quotient c =
    let p = err_from_is_err_and c.from_residual-in_err-quotient.result c.from_residual-in_err-quotient.ensures.1 in
    let d = handed c.subtract.result _ _ c.subtract.ensures.told (divisor-is (signed 32 c.args.shrinkage)) c.in_ok-divisor.ensures in
    let x = c.in_err-quotient.ensures in
    let v = rw x.ok_part at x.value in
    let z : c.in_err-quotient.field-0.0 ≡ ZeroDivisor = cc in
    rw (p.1, p.2, z) (zero_word c.in_ok-divisor.divisor d (rw x.ok_part at c.divide.ensures.laws))

pub returns-in_err-pattern : goal.returns-in_err-pattern
returns-in_err-pattern c =
    let d = handed c.subtract.result _ _ c.subtract.ensures.told (divisor-is (signed 32 c.args.shrinkage)) c.in_ok-divisor.ensures in
    let n = handed c.multiply.result _ _ c.multiply.ensures.told (product_is (signed 32 c.args.fired)) c.in_ok-product.ensures in
    let p = err_from_is_err_and c.from_residual-in_err-pattern.result c.from_residual-in_err-pattern.ensures.1 in
    let x = c.in_err-pattern.ensures in
    let q = c.in_ok-quotient.quotient in
    let k = of_quotient _ _ q (rw c.in_ok-quotient.ensures.ok_part at c.divide.ensures.value) in
    rw (p.1, p.2, x.1) (blamed q _ k (quotient_is _ _ _ _ n d) x.0)

pub returns : goal.returns
returns c =
    let d = handed c.subtract.result _ _ c.subtract.ensures.told (divisor-is (signed 32 c.args.shrinkage)) c.in_ok-divisor.ensures in
    let n = handed c.multiply.result _ _ c.multiply.ensures.told (product_is (signed 32 c.args.fired)) c.in_ok-product.ensures in
    let q = rw c.in_ok-quotient.ensures.ok_part at c.divide.ensures.laws in
    let r = rw c.in_ok-over.ensures.ok_part at c.remainder.ensures.laws in
    let p = handed c.in_ok-quotient.quotient _ _ q.told refl c.in_ok-pattern.ensures in
    record { divisor = d; product = n; pattern = divided _ _ _ _ _ _ n d q.truncates p r.exact }
