use Rattle.std.proofs.Common.{◌≡◌, map, take, vec_items}
use Rattle.std.specs.List.{flat_map}
use Rattle.image.specs.Format.{order, among, flat, block}
use Rattle.image.proofs.writing.write.Given as goal

abbrev pub invariant-loop-section : goal.invariant-loop-section
invariant-loop-section l = vec_items l.out ≡ flat (flat_map block (map (λ s. among s l.records) (take l.section-index order)))
