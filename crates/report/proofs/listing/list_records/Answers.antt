use Rattle.std.proofs.Common.{[], ◌++◌, refl, sym, ap, ◌∙◌, subst}
use Rattle.std.proofs.lemmas.List.{drop_more, drop_all}
use Rattle.report.specs.Lines.{total_text}
use Rattle.report.specs.Listing.{Body, line}
use Rattle.report.proofs.Adding.{leaves_more, leaves_none}
use Rattle.report.proofs.listing.list_records.Goals as goal

pub loop-placed-preserved : goal.loop-placed-preserved
loop-placed-preserved c =
    let one = c.in_ok-list_record.ensures in
    let xs = c.args.records.now in
    leaves_more _ _ _ [] _ _ _ c.loop-placed.invariant one.2
    (λ rest body. subst (λ ys. Body xs ys (one.0 ++ rest)) (sym (drop_more xs _ _ c.loop-placed-test.true)) (one.0, rest, one.1, body, refl))

pub returns : goal.returns
returns c =
    let xs = c.args.records.now in
    let body = leaves_none _ _ [] _ c.loop-placed.invariant (subst (λ ys. Body xs ys []) (sym (drop_all _ xs c.loop-placed-test.false)) refl) in (
      body.0,
      body.1,
      c.in_ok-writeln.ensures.bytes ∙ ap (λ l. l ++ line (total_text c.total.result)) body.2
          ∙ ap (λ t. body.0 ++ line (total_text t)) c.total.ensures,
    )
