use Rattle.std.proofs.Common.{ℕ, ◌<◌, ◌≤◌, All, Bool, true, false, IsTrue, List, length, get_or, MatchBool, arith, rules, tests}
use Rattle.std.specs.List.{HoldsAt, AllWithin}
use Rattle.std.proofs.lemmas.Bool.{false≢true}
use Rattle.std.proofs.lemmas.Iterator.{cases_from_all, YieldsList-from_slice}
use Rattle.std.proofs.lemmas.Iterator.Search.{true_from_All}
use Rattle.std.proofs.lemmas.List.Elements.{All-from_all_within}
use Rattle.image.specs.declared.records.Section.{Section}
use Rattle.image.specs.declared.records.Record.{Record}
use Rattle.image.specs.Format.{order, among}
use Rattle.image.specs.Writing.{Counted}
use Rattle.image.proofs.Written.{among_few}
use Rattle.image.proofs.rules.counts_fit.Goals as goal

all_from_cases : {X : Type 0} (P Q : X → Type 0) (r : Bool) (xs : List X) → MatchBool r (AllWithin P xs 0 (length xs)) ((k : ℕ) × (k < length xs) × HoldsAt Q xs k) → IsTrue r → All P xs
all_from_cases P Q true xs h e = All-from_all_within P xs h
all_from_cases P Q false xs h e = absurd (false≢true e)

few : (rs : List Record) → length rs ≤ 65535 → Counted rs
few rs h i d less = omega (arith, h, among_few (get_or order i d) rs)

pub returns-then-records-le-LARGEST : goal.returns-then-records-le-LARGEST
returns-then-records-le-LARGEST c = (λ _. few c.args.records.now (search rules), λ _. search rules)

pub returns-else-records-le-LARGEST : goal.returns-else-records-le-LARGEST
returns-else-records-le-LARGEST c =
    let rs = c.args.records.now in
    let Fits : Section → Type 0 = λ s. length (among s rs) ≤ 65535 in
    let Over : Section → Type 0 = λ s. 65535 < length (among s rs) in
    let by = cases_from_all _ _ _ Fits Over c.all.ensures.ran (YieldsList-from_slice order cc) (λ x q k. search (rules, tests)) (λ x q k. search (rules, tests)) in
    (all_from_cases Fits Over _ order by, true_from_All Fits Over _ order (λ s p q. omega (arith, p, q)) by)
