use Rattle.std.proofs.Common.{ap, ◌∙◌, to_z-of_z, w64, SFits}
use Rattle.words.proofs.Extended.{extends}
use Rattle.words.specs.Extension.{extended}
use Rattle.words.specs.Wholes.{low}
use Rattle.words.proofs.extension.extend.Goals as goal

pub returns : goal.returns
unfolding extended
returns g c =
    let f : SFits w64 c.low_value.result = record { sfits = c.low_value.type_inv } in
    extends g.T.Narrow.bits c.args.a c.word.result g.met.T.Narrow.positive g.met.T.Narrow.narrower
    (c.word.ensures.value ∙ ap (low 32) (to_z-of_z f ∙ c.low_value.ensures))
