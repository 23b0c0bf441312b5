use Rattle.std.proofs.Common.{arith}
use Rattle.image.proofs.Written.{image-size}
use Rattle.image.proofs.rules.check.Goals as goal

pub returns-then-size-gt-LIMIT : goal.returns-then-size-gt-LIMIT
returns-then-size-gt-LIMIT c =
    let ordered = c.in_order.ensures.0 c.if-not-in_order.false in (
      ordered,
      c.counts_fit.ensures.0 c.if-not-counts_fit.false,
      c.fills_fit.ensures.0 c.if-not-fills_fit.false,
      λ fits. omega (arith, fits, image-size _ ordered, c.size.ensures, c.if-size-gt-LIMIT.true),
    )

pub returns : goal.returns
returns c =
    let ordered = c.in_order.ensures.0 c.if-not-in_order.false in
    record {
      ordered = ordered;
      counted = c.counts_fit.ensures.0 c.if-not-counts_fit.false;
      short = c.fills_fit.ensures.0 c.if-not-fills_fit.false;
      fits = omega (arith, image-size _ ordered, c.size.ensures, c.if-size-gt-LIMIT.false);
    }
