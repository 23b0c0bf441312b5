use Rattle.std.proofs.Common.{◌≡◌, ◌%◌, ◌^◌, sym, ap, ◌∙◌, subst, to_z-of_z, w64, of_z}
use Rattle.words.proofs.Signs.{cut_twice, low_modulo, low_of_z}
use Rattle.words.specs.Wholes.{low, Modulo}
use Rattle.words.proofs.wholes.word.Goals as goal

pub returns : goal.returns
returns c =
    let e : c.cast_unsigned.result % 2 ^ 32 ≡ low 32 c.args.exact =
    ap (λ n. n % 2 ^ 32) (c.cast_unsigned.ensures ∙ ap (of_z w64) (to_z-of_z c.ranges.exact) ∙ sym (low_of_z w64 c.args.exact c.ranges.exact))
    ∙ cut_twice 32 32 c.args.exact in
    record { value = e; modulo = subst (λ n. Modulo (2 ^ 32) c.args.exact n) (sym e) (low_modulo 32 c.args.exact) }
