use Rattle.std.proofs.Common.{◌≡◌, ◌%◌, ◌^◌, ◌<◌, length, refl, subst, arith, rules}
use Rattle.std.proofs.lemmas.Fn.{fold_over, slice_gives, fronts}
use Rattle.image.specs.Format.{among}
use Rattle.image.proofs.Written.{among-push, among_few}
use Rattle.image.proofs.rules.count.Goals as goal

pub returns : goal.returns
returns c =
    let s = c.args.section in
    let rs = c.args.records.now in
    let all : c.fold.result ≡ length (among s rs) % 2 ^ 64 =
    subst (λ l. c.fold.result ≡ length (among s l) % 2 ^ 64) c.iter.ensures.rest
    (fold_over fronts (λ y. y.now) _ (λ l n. n ≡ length (among s l) % 2 ^ 64) _ (λ l n x b f' j k. let more = among-push s l x.now in search (rules, arith))
    _ _ _ _ (slice_gives c.iter.result) refl c.fold.ensures.ran) in
    let bound : length rs < 2 ^ 64 = search rules in
    omega (arith, all, bound, among_few s rs)
