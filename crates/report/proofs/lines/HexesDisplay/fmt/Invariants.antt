-- The digits of the bytes so far were written: of the pairs, and then of the last byte.
use Rattle.std.proofs.Common.{◌+◌, ◌*◌, ◌/◌, length, take}
use Rattle.std.specs.Fmt.{IsPlainFormatter, HasWritten}
use Rattle.report.specs.Lines.{hexes}
use Rattle.report.proofs.lines.HexesDisplay.fmt.Given as goal

abbrev pub invariant-loop-a : goal.invariant-loop-a
invariant-loop-a g l = IsPlainFormatter l.fn.f → HasWritten g.W.Write.write_str_gives l.fn.f (hexes (take (l.a-index * 2) l.self.0.now)) l.f

abbrev pub invariant-loop-b : goal.invariant-loop-b
invariant-loop-b g l = IsPlainFormatter l.fn.f → HasWritten g.W.Write.write_str_gives l.fn.f (hexes (take (length l.self.0.now / 2 * 2 + l.b-index) l.self.0.now)) l.f
