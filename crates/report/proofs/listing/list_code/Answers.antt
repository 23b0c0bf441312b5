use Rattle.std.proofs.Common.{[], refl}
use Rattle.report.proofs.Adding.{code_more, leaves_more, leaves_none}
use Rattle.report.proofs.listing.list_code.Goals as goal

pub loop-part-init : goal.loop-part-init
loop-part-init c =
    rw (c.into_iter-part-iterator.ensures.into_iter_gives, c.new-part-items.ensures.address, c.new-part-items.ensures.bytes)
    (λ rest code. (rest, code, refl))

pub loop-part-preserved : goal.loop-part-preserved
loop-part-preserved c =
    let gave = c.in-Some.ensures.steps in
    leaves_more _ _ _ _ _ _ _ c.loop-part.invariant c.in_ok-writeln.ensures.bytes (code_more _ _ _ _ _ gave.0 gave.1)

pub returns : goal.returns
returns c = leaves_none _ _ _ _ c.loop-part.invariant ([], c.in-None.ensures.steps, refl)
