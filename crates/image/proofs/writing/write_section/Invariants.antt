use Rattle.std.proofs.Common.{◌≡◌, ◌++◌, map, take, vec_items}
use Rattle.image.specs.Format.{written, among, flat}
use Rattle.image.proofs.writing.write_section.Given as goal

abbrev pub invariant-loop-record : goal.invariant-loop-record
invariant-loop-record l = vec_items l.out ≡ vec_items l.initial.out ++ flat (map written (among l.section (take l.record-index l.records)))
