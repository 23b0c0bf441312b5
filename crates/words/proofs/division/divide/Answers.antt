use borrow.Author.Differences.{ints}
use Rattle.std.proofs.Common.{◌≡◌, ◌∙◌, ap, subst, arith, w64, to_z, of_z, to_z-of_z, rules}
use lib.Signed.{quot_z}
use Rattle.words.proofs.Exact.{as_told}
use Rattle.words.proofs.Quotients.{answered, divided, divisor_counts, quotient_fits}
use Rattle.words.specs.Kept.{kept}
use Rattle.words.specs.Wholes.{signed, Within}
use Rattle.words.proofs.division.divide.Goals as goal

pub returns : goal.returns
returns c =
    let given = c.in_ok-quotient.ensures in
    let a : to_z w64 (of_z w64 c.whole.result) ≡ signed 32 c.args.a = omega (arith, ints) in
    let b : to_z w64 (of_z w64 c.whole-2.result) ≡ signed 32 c.args.b = omega (arith, ints) in
    let n = divisor_counts c.args.b _ b given.0.0 in
    let w : Within 32 (signed 32 c.args.a) = subst (λ z. Within 32 z) c.whole.ensures.value c.whole.ensures.within in
    let q : c.in_ok-quotient.quotient ≡ quot_z (signed 32 c.args.a) (signed 32 c.args.b) = cc given.1 in
    let e = ap (λ z. to_z w64 (of_z w64 z)) q ∙ to_z-of_z (quotient_fits _ _ w) in
    record {
      value = answered c.args.b _ _ n (c.keep.ensures.value ∙ ap kept e);
      laws = divided c.args.a c.args.b w (search rules) n _ (as_told c.keep.result c.keep.ensures.told e);
    }
