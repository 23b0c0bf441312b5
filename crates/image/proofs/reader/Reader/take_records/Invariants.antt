use Rattle.image.proofs.Turns.{Sofar}
use Rattle.image.proofs.reader.Reader.take_records.Given as goal

abbrev pub invariant-loop : goal.invariant-loop
invariant-loop l = Sofar l.section l.counter l.initial.self l.self
