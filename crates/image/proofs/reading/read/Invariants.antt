use Rattle.std.proofs.Common.{take}
use Rattle.image.specs.Format.{order}
use Rattle.image.proofs.Turns.{Walked}
use Rattle.image.proofs.reading.read.Given as goal

abbrev pub invariant-loop-section : goal.invariant-loop-section
invariant-loop-section l = Walked (take l.section-index order) l.bytes l.reader
