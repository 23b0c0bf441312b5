use borrow.Author.Differences.{ints}
use Rattle.std.proofs.Common.{◌≡◌, arith, w64, to_z, of_z}
use Rattle.words.proofs.Signs.{signed_64}
use Rattle.words.specs.Wholes.{signed}
use Rattle.words.proofs.pairs.Pair.compare.Goals as goal

pub returns-clause-value : goal.returns-clause-value
returns-clause-value c =
    let p = signed_64 c.from-a.result c.from-a.type_inv in
    let q = signed_64 c.from-b.result c.from-b.type_inv in
    let a : to_z w64 (of_z w64 c.cast_signed.result) ≡ signed 64 c.from-a.result = omega (arith, ints) in
    let b : to_z w64 (of_z w64 c.cast_signed-2.result) ≡ signed 64 c.from-b.result = omega (arith, ints) in
    cc
