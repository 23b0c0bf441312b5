-- One pair more, one byte more, and all.
use Rattle.std.proofs.Common.{◌≡◌, ◌≤◌, ◌∙◌, ◌+◌, ◌*◌, ◌/◌, [], ◌++◌, length, get_or, take, sym, refl, ap, take_all, arith, rules}
use Rattle.std.proofs.lemmas.List.{get_or-drop}
use Rattle.std.proofs.Output.{has_written_of_eq, has_written_append, writes_in_calls_nil}
use Rattle.report.specs.Lines.{hex, hexes}
use Rattle.report.proofs.Hexes.{chunk_at, hex_written, hexes_more, hexes_more_pairs, pair_written}
use Rattle.report.proofs.lines.HexesDisplay.fmt.Goals as goal

pub loop-a-init : goal.loop-a-init
loop-a-init g c plain = record { wrote = writes_in_calls_nil _ _; plain = plain }

pub loop-a-preserved : goal.loop-a-preserved
loop-a-preserved g c plain =
    let bs = c.args.self.now.0.now in
    let i = c.loop-a.a-index in
    let pair = get_or c.as_chunks.result.0.now i [] in
    let before = c.loop-a.invariant plain in
    let within : i * 2 + 2 ≤ length bs = omega (arith, c.as_chunks.ensures.front_len, c.loop-a-test.true) in
    let high : get_or pair 0 0 ≡ get_or bs (i * 2) 0 =
    ap (λ l. get_or (get_or l i []) 0 0) c.as_chunks.ensures.front ∙ chunk_at (length bs / 2) bs i 0 (omega (arith, within)) (omega arith) ∙ ap (λ k. get_or bs k 0) {x = i * 2 + 0} {y = i * 2} (omega arith) in
    let low : get_or pair 1 0 ≡ get_or bs (i * 2 + 1) 0 =
    ap (λ l. get_or (get_or l i []) 1 0) c.as_chunks.ensures.front ∙ chunk_at (length bs / 2) bs i 1 (omega (arith, within)) (omega arith) in
    let e = pair_written c.in_radix.result c.laid_out.result (get_or pair 0 0) (get_or pair 1 0) c.from_be_bytes-pair.result (search rules) (search rules) (search rules) (search rules) (search rules) in
    has_written_of_eq _ _ _ _ _ (sym (hexes_more_pairs bs i within ∙ (λ k. hexes (take (i * 2) bs) ++ (hex (sym high k) ++ hex (sym low k)))))
    (has_written_append _ _ _ _ _ _ before ((rw e at c.in_ok-write.ensures.writes) before.plain refl))

pub loop-b-init : goal.loop-b-init
loop-b-init g c plain =
    let all : c.loop-a.a-index * 2 ≡ length c.args.self.now.0.now / 2 * 2 + 0 = omega (arith, c.as_chunks.ensures.front_len, c.loop-a-test.false, c.loop-a.auto.a-index-end) in
    has_written_of_eq _ _ _ _ _ (ap (λ k. hexes (take k c.args.self.now.0.now)) all) (c.loop-a.invariant plain)

pub loop-b-preserved : goal.loop-b-preserved
loop-b-preserved g c plain =
    let bs = c.args.self.now.0.now in
    let front = length bs / 2 * 2 in
    let j = c.loop-b.b-index in
    let b = get_or c.as_chunks.result.1.now j 0 in
    let before = c.loop-b.invariant plain in
    let same : get_or bs (front + j) 0 ≡ b = sym (ap (λ l. get_or l j 0) c.as_chunks.ensures.back ∙ get_or-drop front bs j 0) in
    let more = hexes_more bs (front + j) (omega (arith, c.as_chunks.ensures.back_len, c.loop-b-test.true)) ∙ ap (λ x. hexes (take (front + j) bs) ++ hex x) same in
    let next : front + (j + 1) ≡ front + j + 1 = omega arith in
    let e = hex_written c.in_radix-in-loop-b.result c.laid_out-in-loop-b.result b (search rules) (search rules) (search rules) in
    has_written_of_eq _ _ _ _ _ (sym (ap (λ k. hexes (take k bs)) next ∙ more))
    (has_written_append _ _ _ _ _ _ before ((rw e at c.in_ok-write-2.ensures.writes) before.plain refl))

pub returns-clause-writes : goal.returns-clause-writes
returns-clause-writes g c plain ok =
    let bs = c.args.self.now.0.now in
    let all : length bs ≤ length bs / 2 * 2 + c.loop-b.b-index = omega (arith, c.as_chunks.ensures.back_len, c.loop-b-test.false) in
    has_written_of_eq _ _ _ _ _ (ap hexes (take_all (length bs / 2 * 2 + c.loop-b.b-index) bs all)) (c.loop-b.invariant plain)
