-- Bits: logic bit by bit, one bit replaced, and the halves of a number.
use Rattle.std.proofs.Common.{◌≡◌, ℕ, zero, suc, ◌+◌, ◌-◌, ◌*◌, ◌/◌, ◌%◌, ◌^◌, ◌<◌, min, max, Bool, true, false, ltb, sym, refl, ap, ◌∙◌, mod-lt, arith, pow_pos, pow-add, shr-shr, shr_lt, ltb-false, ltb-true}
use lib.Arith.{digits_div}
use lib.Bits.{bit_and, bit_or, bit_xor, and_high, and_le_l, and_mod, and_shr, or_add_and, or_mod, or_shr, xor_mod, xor_shr}
use Rattle.std.proofs.lemmas.Nat.{one_shl}
use lib.Pow.{split}
use Rattle.words.specs.Bits.{Combined, Flipped, Replaced, bit, with_bit}

-- an operation that goes bit by bit, by what it does to single bits
combine : (op g : ℕ → ℕ → ℕ) → ((a b k : ℕ) → op a b / 2 ^ k ≡ op (a / 2 ^ k) (b / 2 ^ k)) →
    ((a b k : ℕ) → op a b % 2 ^ k ≡ op (a % 2 ^ k) (b % 2 ^ k)) → ((x y : ℕ) → x < 2 → y < 2 → op x y ≡ g x y) →
    (a b : ℕ) → Combined g a b (op a b)
unfolding bit
combine op g halves ends on a b i h =
    ap (λ n. n % 2) (halves a b (31 - i)) ∙ ends (a / 2 ^ (31 - i)) (b / 2 ^ (31 - i)) 1 ∙ on (a / 2 ^ (31 - i) % 2) (b / 2 ^ (31 - i) % 2) (omega arith) (omega arith)

on_bits : (op g : ℕ → ℕ → ℕ) → op 0 0 ≡ g 0 0 → op 0 1 ≡ g 0 1 → op 1 0 ≡ g 1 0 → op 1 1 ≡ g 1 1 → (x y : ℕ) → x < 2 → y < 2 → op x y ≡ g x y
on_bits op g p q r s zero zero hx hy = p
on_bits op g p q r s zero (suc zero) hx hy = q
on_bits op g p q r s (suc zero) zero hx hy = r
on_bits op g p q r s (suc zero) (suc zero) hx hy = s
on_bits op g p q r s (suc (suc x)) y hx hy = absurd (omega arith)
on_bits op g p q r s zero (suc (suc y)) hx hy = absurd (omega arith)
on_bits op g p q r s (suc zero) (suc (suc y)) hx hy = absurd (omega arith)

pub and_bits : (a b : ℕ) → Combined min a b (bit_and a b)
and_bits = combine bit_and min and_shr and_mod (on_bits bit_and min refl refl refl refl)

pub or_bits : (a b : ℕ) → Combined max a b (bit_or a b)
or_bits = combine bit_or max or_shr or_mod (on_bits bit_or max refl refl refl refl)

pub xor_bits : (a b : ℕ) → Combined (λ x y. (x + y) % 2) a b (bit_xor a b)
xor_bits = combine bit_xor (λ x y. (x + y) % 2) xor_shr xor_mod (on_bits bit_xor (λ x y. (x + y) % 2) refl refl refl refl)

-- the complement of a number of j + k bits: the complements of its two parts
pub flip_split : (j k n : ℕ) → n < 2 ^ (j + k) → 2 ^ (j + k) - 1 - n ≡ (2 ^ j - 1 - n / 2 ^ k) * 2 ^ k + (2 ^ k - 1 - n % 2 ^ k)
flip_split j k n h =
    let q : n / 2 ^ k < 2 ^ j = shr_lt j k h in
    let e : 2 ^ j ≡ n / 2 ^ k + 1 + (2 ^ j - 1 - n / 2 ^ k) = omega arith in
    ap (λ m. 2 ^ (j + k) - 1 - m) (sym (split n k))
    ∙ ap (λ p. p - 1 - (n / 2 ^ k * 2 ^ k + n % 2 ^ k)) (pow-add 2 j k ∙ ap (λ p. p * 2 ^ k) e)
    ∙ others (n / 2 ^ k) (2 ^ j - 1 - n / 2 ^ k) (2 ^ k) (n % 2 ^ k) (mod-lt n (pow_pos k))
  where
    others : (q s m r : ℕ) → r < m → (q + 1 + s) * m - 1 - (q * m + r) ≡ s * m + (m - 1 - r)
    others q s m r h = omega arith

pub flip_bits : (a : ℕ) → a < 2 ^ 32 → Flipped a (2 ^ 32 - 1 - a)
unfolding bit
flip_bits a h i l = by (31 - i) (omega arith)
  where
    by : (k : ℕ) → k < 32 → (2 ^ 32 - 1 - a) / 2 ^ k % 2 ≡ 1 - a / 2 ^ k % 2
    by k l =
        let e : 31 - k + 1 + k ≡ 32 = omega arith in
        let h' : a < 2 ^ (31 - k + 1 + k) = rw e h in
        let q : a / 2 ^ k < 2 ^ (31 - k + 1) = shr_lt (31 - k + 1) k h' in
        let s = rw e at (flip_split (31 - k + 1) k a h') in
        let d : (2 ^ 32 - 1 - a) / 2 ^ k ≡ 2 ^ (31 - k + 1) - 1 - a / 2 ^ k =
        ap (λ n. n / 2 ^ k) s ∙ digits_div (2 ^ (31 - k + 1) - 1 - a / 2 ^ k) (omega (arith, pow_pos k)) in
        let p : 2 ^ (31 - k + 1) ≡ 2 ^ (31 - k) * 2 = pow-add 2 (31 - k) 1 in
        rw d (omega arith)

-- places are counted from the last bit: equal beyond place p, equal at every place beyond
same-beyond : (v w p q : ℕ) → p < q → v / 2 ^ p / 2 ≡ w / 2 ^ p / 2 → v / 2 ^ q ≡ w / 2 ^ q
same-beyond v w p q l e = by (q - p - 1) (omega arith)
  where
    at : (n d : ℕ) → q ≡ p + (1 + d) → n / 2 ^ q ≡ n / 2 ^ p / 2 / 2 ^ d
    at n d f = ap (λ k. n / 2 ^ k) f ∙ sym (shr-shr n p (1 + d)) ∙ sym (shr-shr (n / 2 ^ p) 1 d)

    by : (d : ℕ) → q ≡ p + (1 + d) → v / 2 ^ q ≡ w / 2 ^ q
    by d f = at v d f ∙ ap (λ n. n / 2 ^ d) e ∙ sym (at w d f)

-- what stands at place p and beyond does not matter before it
only-before : (t s p q : ℕ) → q < p → (t * 2 ^ p + s) / 2 ^ q % 2 ≡ s / 2 ^ q % 2
only-before t s p q l = by (p - q - 1) (omega arith)
  where
    parts : (t e m h r : ℕ) → t * (e * (2 * m)) + (h * m + r) ≡ (t * e * 2 + h) * m + r
    parts t e m h r = omega arith

    by : (d : ℕ) → p ≡ d + (1 + q) → (t * 2 ^ p + s) / 2 ^ q % 2 ≡ s / 2 ^ q % 2
    by d f =
        let pow : 2 ^ p ≡ 2 ^ d * (2 * 2 ^ q) = ap (λ k. 2 ^ k) f ∙ pow-add 2 d (1 + q) ∙ ap (λ n. 2 ^ d * n) (pow-add 2 1 q) in
        let whole : t * 2 ^ p + s ≡ (t * 2 ^ d * 2 + s / 2 ^ q) * 2 ^ q + s % 2 ^ q =
        ap (λ n. t * n + s) pow ∙ ap (λ n. t * (2 ^ d * (2 * 2 ^ q)) + n) (sym (split s q))
        ∙ parts t (2 ^ d) (2 ^ q) (s / 2 ^ q) (s % 2 ^ q) in
        let e : (t * 2 ^ p + s) / 2 ^ q ≡ t * 2 ^ d * 2 + s / 2 ^ q =
        ap (λ n. n / 2 ^ q) whole ∙ digits_div (t * 2 ^ d * 2 + s / 2 ^ q) (mod-lt s (pow_pos q)) in
        rw e (omega arith)

-- a number by its bit at place p, what stands beyond and what before
joined : ℕ → ℕ → ℕ → ℕ
joined v p b = (2 * (v / 2 ^ p / 2) + b) * 2 ^ p + v % 2 ^ p

own : (v p : ℕ) → v ≡ joined v p (v / 2 ^ p % 2)
unfolding joined
own v p =
    let e : 2 * (v / 2 ^ p / 2) + v / 2 ^ p % 2 ≡ v / 2 ^ p = omega arith in
    sym (split v p) ∙ ap (λ n. n * 2 ^ p + v % 2 ^ p) (sym e)

exchanged : (v p b : ℕ) → v - v / 2 ^ p % 2 * 2 ^ p + b * 2 ^ p ≡ joined v p b
unfolding joined
exchanged v p b =
    ap (λ n. n - v / 2 ^ p % 2 * 2 ^ p + b * 2 ^ p) (own v p)
    ∙ parts (v / 2 ^ p / 2) b (v / 2 ^ p % 2) (2 ^ p) (v % 2 ^ p)
  where
    parts : (t b c m s : ℕ) → (2 * t + c) * m + s - c * m + b * m ≡ (2 * t + b) * m + s
    parts t b c m s = omega arith

joined-beyond : (v p b : ℕ) → joined v p b / 2 ^ p ≡ 2 * (v / 2 ^ p / 2) + b
unfolding joined
joined-beyond v p b = digits_div (2 * (v / 2 ^ p / 2) + b) (mod-lt v (pow_pos p))

joined_other : (v p b q : ℕ) → b < 2 → (q ≡ p → ⊥) → joined v p b / 2 ^ q % 2 ≡ v / 2 ^ q % 2
unfolding joined
joined_other v p b q h ne = by (ltb q p) refl
  where
    by : (t : Bool) → ltb q p ≡ t → joined v p b / 2 ^ q % 2 ≡ v / 2 ^ q % 2
    by true e =
        let l = ltb-true q p e in
        only-before (2 * (v / 2 ^ p / 2) + b) (v % 2 ^ p) p q l
        ∙ sym (ap (λ n. n / 2 ^ q % 2) (own v p) ∙ only-before (2 * (v / 2 ^ p / 2) + v / 2 ^ p % 2) (v % 2 ^ p) p q l)
    by false e =
        let l = ltb-false q p e in
        ap (λ n. n % 2) (same-beyond (joined v p b) v p q (omega arith) (ap (λ n. n / 2) (joined-beyond v p b) ∙ omega arith))

pub replaced : (k i b v r : ℕ) → i < k → b < 2 → r ≡ with_bit k i b v → Replaced k i b v r
unfolding bit with_bit
replaced k i b v r l h e = rw e record {
  here = ap (λ n. n / 2 ^ (k - 1 - i) % 2) (exchanged v (k - 1 - i) b) ∙ ap (λ n. n % 2) (joined-beyond v (k - 1 - i) b) ∙ omega arith;
  others = λ j lj ne. ap (λ n. n / 2 ^ (k - 1 - j) % 2) (exchanged v (k - 1 - i) b) ∙ joined_other v (k - 1 - i) b (k - 1 - j) h (omega arith);
}

-- one bit of a number, as a mask takes it
masked : (n p : ℕ) → bit_and n (2 ^ p) ≡ n / 2 ^ p % 2 * 2 ^ p
masked n p =
    let e : 2 ^ (1 + p) - 2 ^ p ≡ 2 ^ p = ap (λ m. m - 2 ^ p) (pow-add 2 1 p) ∙ omega arith in
    ap (bit_and n) (sym e) ∙ and_high n 1 p

mask : (i : ℕ) → i < 64 → (1 * 2 ^ (63 - i)) % 2 ^ 64 ≡ 2 ^ (63 - i)
mask i l = one_shl (63 - i) 64 (omega arith)

pub set_is : (n i : ℕ) → i < 64 → bit_or n ((1 * 2 ^ (63 - i)) % 2 ^ 64) ≡ with_bit 64 i 1 n
unfolding bit with_bit
set_is n i l = ap (bit_or n) (mask i l) ∙ omega (arith, or_add_and n (2 ^ (63 - i)), masked n (63 - i), and_le_l n (2 ^ (63 - i)))

pub clear_is : (n i : ℕ) → i < 64 → n - bit_and n ((1 * 2 ^ (63 - i)) % 2 ^ 64) ≡ with_bit 64 i 0 n
unfolding bit with_bit
clear_is n i l = ap (λ m. n - bit_and n m) (mask i l) ∙ omega (arith, masked n (63 - i), and_le_l n (2 ^ (63 - i)))
