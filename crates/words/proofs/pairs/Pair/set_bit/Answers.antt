use Rattle.std.proofs.Common.{◌%◌, arith}
use Rattle.words.proofs.Bitwise.{replaced, set_is}
use Rattle.words.proofs.pairs.Pair.set_bit.Goals as goal

pub returns-clause-replaced : goal.returns-clause-replaced
returns-clause-replaced c =
    let e = set_is c.from.result (c.args.count % 64) (omega arith) in
    replaced 64 (c.args.count % 64) 1 _ _ (omega arith) (omega arith) (cc)
