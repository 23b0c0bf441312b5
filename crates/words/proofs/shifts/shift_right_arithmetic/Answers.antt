use borrow.Author.Differences.{ints}
use Rattle.std.proofs.Common.{◌≡◌, ◌%◌, ◌^◌, sym, ap, ◌∙◌, subst, arith, w64, SFits, rules}
use lib.Signed.{shr_z}
use Rattle.std.proofs.lemmas.Int.{to_z-of_z}
use Rattle.words.proofs.Signs.{signed_low}
use Rattle.words.proofs.Turned.{floored, shifted_within}
use Rattle.words.specs.Shifts.{Floored}
use Rattle.words.specs.Wholes.{low, signed}
use Rattle.words.proofs.shifts.shift_right_arithmetic.Goals as goal

pub returns-clause-floored : goal.returns-clause-floored
returns-clause-floored c =
    let f : SFits w64 c.whole.result = search rules in
    let w = shifted_within c.whole.result (2 ^ (c.args.count % 32)) c.whole.ensures.within in
    let g : SFits w64 (shr_z c.whole.result (2 ^ (c.args.count % 32))) = omega (arith, ints) in
    let e : c.word.result ≡ low 32 (shr_z c.whole.result (2 ^ (c.args.count % 32))) = c.word.ensures.value ∙ simp to_z-of_z in
    let s : signed 32 c.word.result ≡ shr_z c.whole.result (2 ^ (c.args.count % 32)) = ap (signed 32) e ∙ signed_low 32 _ (omega arith) w in
    let v = c.whole.ensures.value in
    let q : signed 32 c.word.result ≡ shr_z (signed 32 c.args.a) (2 ^ (c.args.count % 32)) = s ∙ ap (λ z. shr_z z (2 ^ (c.args.count % 32))) v in
    subst (λ z. Floored (signed 32 c.args.a) (2 ^ (c.args.count % 32)) z) (sym q) (floored (signed 32 c.args.a) (c.args.count % 32))
