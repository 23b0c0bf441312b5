-- The lines so far, and those of the records that are left, are all.
use Rattle.std.proofs.Common.{[], drop, string_bytes}
use Rattle.report.specs.Listing.{Body}
use Rattle.report.proofs.Adding.{Leaves}
use Rattle.report.proofs.listing.list_records.Given as goal

abbrev pub invariant-loop-placed : goal.invariant-loop-placed
invariant-loop-placed l =
    Leaves (Body l.records (drop l.placed-index l.records)) (Body l.records l.records) [] (string_bytes l.out)
