use Rattle.std.proofs.Common.{◌≡◌, ◌+◌, ◌-◌, ◌^◌, min, refl, subst, arith, rules}
use Rattle.std.proofs.lemmas.Fn.{fold_over, slice_gives, fronts}
use Rattle.image.specs.Writing.{total}
use Rattle.image.proofs.Written.{total-push}
use Rattle.image.proofs.rules.size.Goals as goal

pub returns : goal.returns
returns c =
    subst (λ rs. c.fold.result ≡ min (10 + total rs) (2 ^ 64 - 1)) c.iter.ensures.rest
    (fold_over fronts (λ y. y.now) _ (λ rs n. n ≡ min (10 + total rs) (2 ^ 64 - 1)) _ (λ rs n x b f' j k. let more = total-push rs x.now in search (rules, arith))
    _ _ _ _ (slice_gives c.iter.result) refl c.fold.ensures.ran)
