-- The lines so far, and those of the parts that are left, are all.
use Rattle.std.proofs.Common.{string_bytes}
use Rattle.report.specs.Listing.{CodeAt}
use Rattle.report.proofs.Adding.{Leaves}
use Rattle.report.proofs.listing.list_code.Given as goal

abbrev pub invariant-loop-part : goal.invariant-loop-part
invariant-loop-part l =
    Leaves (CodeAt l.part-iterator.address l.part-iterator.bytes.now) (CodeAt l.offset l.bytes) (string_bytes l.initial.out) (string_bytes l.out)
