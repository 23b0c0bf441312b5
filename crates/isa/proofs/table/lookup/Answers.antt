-- The table is what the map and the length rule give at each opcode: one computation over all rows.
use Rattle.std.proofs.Common.{◌<◌, sym, refl, ap, subst, rules}
use Rattle.isa.specs.Map.{opcode_at, Ruled}
use Rattle.isa.proofs.Rows.{row_of, ruled}
use Rattle.isa.proofs.table.lookup.Goals as goal

pub returns : goal.returns
unfolding opcode_at
returns c =
    let h : c.args.op < 256 = search rules in
    let row = row_of _ refl c.args.op h in
    record {
      cell = ap (λ r. r.0) row;
      length = ap (λ r. r.1) row;
      format = subst (λ r. Ruled c.args.op r.0 r.1) (sym row) (ruled c.args.op h);
    }
