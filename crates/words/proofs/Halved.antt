-- Pairs and the numbers that they hold.
use Rattle.std.proofs.Common.{◌≡◌, ℕ, ◌*◌, ◌/◌, ◌%◌, ◌^◌, ◌<◌, ap, ◌∙◌, arith}
use Rattle.words.specs.Pairs.{Holds, number_of, pair_of}
use Rattle.words.specs.Shifts.{left, right}
use Rattle.words.specs.declared.pairs.Pair.{Pair}

pair : ℕ → ℕ → Pair
pair a b = record { high = a; low = b }

-- a shift by 32 moves a word
pub moved_left : (p r : Pair) (c : ℕ) → p.high < 2 ^ 32 → p.low < 2 ^ 32 → Holds (left 64 (number_of p) c) r → c ≡ 32 → r ≡ record { high = p.low; low = 0 }
unfolding number_of pair_of pair
moved_left p r c hh hl h e =
    let n : left 64 (number_of p) c ≡ p.low * 2 ^ 32 = ap (left 64 (number_of p)) e ∙ omega arith in
    let f : p.low * 2 ^ 32 / 2 ^ 32 ≡ p.low = omega arith in
    let g : p.low * 2 ^ 32 % 2 ^ 32 ≡ 0 = omega arith in
    h.value ∙ ap pair_of n ∙ ap (λ a. pair a (p.low * 2 ^ 32 % 2 ^ 32)) f ∙ ap (pair p.low) g

pub moved_right : (p r : Pair) (c : ℕ) → p.high < 2 ^ 32 → p.low < 2 ^ 32 → Holds (right (number_of p) c) r → c ≡ 32 → r ≡ record { high = 0; low = p.high }
unfolding number_of pair_of pair
moved_right p r c hh hl h e =
    let n : right (number_of p) c ≡ p.high = ap (right (number_of p)) e ∙ omega arith in
    let f : p.high / 2 ^ 32 ≡ 0 = omega arith in
    let g : p.high % 2 ^ 32 ≡ p.high = omega arith in
    h.value ∙ ap pair_of n ∙ ap (λ a. pair a (p.high % 2 ^ 32)) f ∙ ap (pair 0) g
