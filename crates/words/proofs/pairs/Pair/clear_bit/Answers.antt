use Rattle.std.proofs.Common.{◌%◌, arith}
use Rattle.words.proofs.Bitwise.{clear_is, replaced}
use Rattle.words.proofs.pairs.Pair.clear_bit.Goals as goal

pub returns-clause-replaced : goal.returns-clause-replaced
returns-clause-replaced c =
    let e = clear_is c.from-number.result (c.args.count % 64) (omega arith) in
    replaced 64 (c.args.count % 64) 0 _ _ (omega arith) (omega arith) (cc)
