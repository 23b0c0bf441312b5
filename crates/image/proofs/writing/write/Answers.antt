use Rattle.std.proofs.Common.{map, ap, ◌∙◌}
use Rattle.std.specs.List.{flat_map}
use Rattle.std.proofs.lemmas.List.{take_all, take_more}
use Rattle.image.specs.declared.records.Section.TheVariants.{Admissions}
use Rattle.image.specs.Format.{order, among, flat, block}
use Rattle.image.proofs.Written.{written_section, writes}
use Rattle.image.proofs.writing.write.Goals as goal

pub loop-section-preserved : goal.loop-section-preserved
loop-section-preserved c =
    written_section c.args.records.now _ _ _ _ _ (take_more order _ Admissions c.loop-section-test.true) c.loop-section.invariant c.in_ok-write_section.ensures

pub returns : goal.returns
returns c =
    writes _ _ c.in_ok-check.ensures
    (c.loop-section.invariant ∙ ap (λ ss. flat (flat_map block (map (λ s. among s c.args.records.now) ss))) (take_all _ order c.loop-section-test.false))
