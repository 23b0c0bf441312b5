use Rattle.std.proofs.Common.{ap, ◌∙◌, to_z-of_z, w64, SFits, rules}
use Rattle.words.proofs.Exact.{compared}
use Rattle.words.specs.Wholes.{low}
use Rattle.words.proofs.arithmetic.keep.Goals as goal

pub returns : goal.returns
returns c =
    let cut = c.word-word.ensures.value ∙ ap (low 32) (to_z-of_z c.ranges.exact) in
    let fits : SFits w64 c.whole.result = record { sfits = c.whole.type_inv } in
    record {
      value = compared c.args.exact c.whole.result c.word-word.result c.ranges.exact fits cut c.whole.ensures.value;
      told = search rules;
    }
