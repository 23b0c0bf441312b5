use borrow.Author.Differences.{ints}
use Rattle.std.proofs.Common.{◌≡◌, ◌∙◌, ap, subst, arith, w64, to_z, of_z, to_z-of_z, rules}
use lib.Signed.{rem_z}
use Rattle.words.proofs.Quotients.{answered, divisor_counts, left, remainder_fits}
use Rattle.words.specs.Wholes.{low, signed, Within}
use Rattle.words.proofs.division.remainder.Goals as goal

pub returns : goal.returns
returns c =
    let given = c.in_ok-rest.ensures in
    let a : to_z w64 (of_z w64 c.whole.result) ≡ signed 32 c.args.a = omega (arith, ints) in
    let b : to_z w64 (of_z w64 c.whole-2.result) ≡ signed 32 c.args.b = omega (arith, ints) in
    let n = divisor_counts c.args.b _ b given.0.0 in
    let w : Within 32 (signed 32 c.args.a) = subst (λ z. Within 32 z) c.whole.ensures.value c.whole.ensures.within in
    let q : c.in_ok-rest.rest ≡ rem_z (signed 32 c.args.a) (signed 32 c.args.b) = cc given.1 in
    let e = ap (λ z. to_z w64 (of_z w64 z)) q ∙ to_z-of_z (remainder_fits _ _ w) in
    record {
      value = answered c.args.b _ _ n (c.word.ensures.value ∙ ap (low 32) e);
      laws = left c.args.a c.args.b w (search rules) n _ (c.word.ensures.value ∙ ap (low 32) e);
    }
