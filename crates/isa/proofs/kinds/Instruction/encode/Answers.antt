-- Three ways to an encoding, by the size.
use Rattle.std.proofs.Common.{◌+◌, ◌*◌, [], ◌∷◌, get_or, sym, ap, subst, rules}
use Rattle.isa.specs.Encoded.{Spells}
use Rattle.isa.proofs.Spelled.{two, four, six}
use Rattle.isa.proofs.kinds.Instruction.encode.Goals as goal

pub returns-in-2 : goal.returns-in-2
returns-in-2 c =
    two c.args.self c.in_ok-op.op (search rules) c.if-op-lt128.true (search rules) (search rules) (search rules) c.if-i-eq0.true

pub returns-in-4 : goal.returns-in-4
returns-in-4 c =
    four c.args.self c.in_ok-op.op _ _ (search rules) c.if-op-ge128.true (search rules) (search rules) (search rules)
    (ap (λ l. get_or l 2 0) c.to_be_bytes.ensures) (ap (λ l. get_or l 3 0) c.to_be_bytes.ensures) (search rules)

pub returns-in-6 : goal.returns-in-6
returns-in-6 c =
    let i = c.args.self in
    let op = c.in_ok-op.op in
    subst (λ l. Spells i ((op + 16) ∷ (i.x * 16 + i.y) ∷ get_or l 0 0 ∷ get_or l 1 0 ∷ get_or l 2 0 ∷ get_or l 3 0 ∷ []))
    (sym c.to_be_bytes.ensures)
    (six i op (search rules) c.if-op-ge128-2.true (search rules) (search rules) (search rules) (search rules))
