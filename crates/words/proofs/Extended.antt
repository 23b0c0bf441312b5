-- Sign extension: the value of the last k bits, written with 32.
use Rattle.std.proofs.Common.{◌≡◌, ℕ, suc, ◌+◌, ◌-◌, ◌/◌, ◌%◌, ◌^◌, ◌<◌, ◌≤◌, Bool, true, false, ltb, ℤ, negsuc, sym, refl, ap, ◌∙◌, mod-lt, mod-eq_of_lt, arith, pow_pos, pow_mono, ltb-false, ltb-true}
use native.Mathlib.Nat.{div-eq_of_lt, div-eq_of_lt-le}
use borrow.Author.Differences.{ints}
use Rattle.words.proofs.Bitwise.{flip_bits}
use Rattle.words.proofs.Signs.{cut_twice, doubled, low_signed, read_above, read_below, signed_low, signed-within}
use Rattle.words.specs.Bits.{bit}
use Rattle.words.specs.Extension.{Extends, extended}
use Rattle.words.specs.Wholes.{low, signed, Within}

-- a narrower range
wider : (k : ℕ) (z : ℤ) → 0 < k → k ≤ 32 → Within k z → Within 32 z
wider k z p l w =
    let n : k - 1 ≤ 31 = omega arith in
    let h : 2 ^ (k - 1) ≤ 2 ^ 31 = pow_mono n in
    record { least = omega (arith, ints, w.least); most = omega (arith, ints, w.most) }

-- bits before the last j are 0 in a number below 2^j
no_bit : (i j n : ℕ) → i + j < 32 → n < 2 ^ j → bit 32 i n ≡ 0
unfolding bit
no_bit i j n h l =
    let s : j ≤ 31 - i = omega arith in
    let m : 2 ^ j ≤ 2 ^ (31 - i) = pow_mono s in
    ap (λ q. q % 2) (div-eq_of_lt (omega arith))

-- the bits before the last k are copies of the first of those
copies : (k u i : ℕ) → 0 < k → k < 32 → u < 2 ^ k → i < 32 - k → bit 32 i (low 32 (signed k u)) ≡ bit k 0 u
unfolding bit low
copies k u i p l h li = by (ltb u (2 ^ (k - 1))) refl
  where
    first : k - 1 - 0 ≡ k - 1
    first = omega arith

    most : 2 ^ k ≤ 2 ^ 32
    most = let n : k ≤ 32 = omega arith in pow_mono n

    by : (t : Bool) → ltb u (2 ^ (k - 1)) ≡ t → bit 32 i (low 32 (signed k u)) ≡ bit k 0 u
    by true e =
        let f = ltb-true u (2 ^ (k - 1)) e in
        let w : low 32 (signed k u) ≡ u = ap (low 32) (read_below k u f) ∙ mod-eq_of_lt (omega (arith, most)) in
        let g : u / 2 ^ (k - 1 - 0) ≡ 0 = ap (λ n. u / 2 ^ n) first ∙ div-eq_of_lt f in
        ap (bit 32 i) w ∙ no_bit i k u (omega arith) h ∙ sym (ap (λ q. q % 2) g)
    by false e =
        let f = ltb-false u (2 ^ (k - 1)) e in
        let d = doubled k p in
        let c : signed k u ≡ negsuc (2 ^ k - suc u) = read_above k u f ∙ omega (arith, ints) in
        let m : (2 ^ k - suc u) % 2 ^ 32 ≡ 2 ^ k - suc u = mod-eq_of_lt (omega (arith, most)) in
        let w : low 32 (signed k u) ≡ 2 ^ 32 - 1 - (2 ^ k - suc u) = ap (low 32) c ∙ ap (λ n. 2 ^ 32 - 1 - n) m in
        let g : u / 2 ^ (k - 1 - 0) ≡ 1 = ap (λ n. u / 2 ^ n) first ∙ div-eq_of_lt-le {k = 1} (2 ^ (k - 1)) (omega arith) (omega arith) in
        ap (bit 32 i) w ∙ flip_bits (2 ^ k - suc u) (omega (arith, most)) i (omega arith)
        ∙ ap (λ b. 1 - b) (no_bit i k (2 ^ k - suc u) (omega arith) (omega arith)) ∙ sym (ap (λ q. q % 2) g)

pub extends : (k v r : ℕ) → 0 < k → k < 32 → r ≡ extended k v → Extends k v r
unfolding extended
extends k v r p l e =
    let u = mod-lt v (pow_pos k) in
    let w = signed-within k (v % 2 ^ k) p u in
    let n : 32 - k + k ≡ 32 = omega arith in
    let c = rw n at (cut_twice (32 - k) k (signed k (v % 2 ^ k))) in
    record {
      value = e;
      exact = ap (signed 32) e ∙ signed_low 32 _ (omega arith) (wider k _ p (omega arith) w);
      last = ap (λ m. m % 2 ^ k) e ∙ c ∙ low_signed k (v % 2 ^ k) p u;
      copies = λ i h. ap (bit 32 i) e ∙ copies k (v % 2 ^ k) i p l u h;
    }
