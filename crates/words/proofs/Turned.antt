-- Shifts: a circular shift and its way back, and a shift that copies the sign.
use Rattle.std.proofs.Common.{◌≡◌, ℕ, zero, suc, ◌+◌, ◌-◌, ◌*◌, ◌/◌, ◌%◌, ◌^◌, ◌<◌, ℤ, pos, negsuc, sym, ap, ◌∙◌, add-zero, mod-lt, arith, pow_pos, shr_lt}
use native.Mathlib.Nat.{div-add-mod}
use borrow.Author.Differences.{ints}
use lib.Arith.{digits_div, digits_mod}
use lib.Bits.{bit_or, or_self, or_shifted}
use lib.Pow.{mod-pow-add, shl-shr, split}
use lib.Signed.{mag_shr, shr_z}
use Rattle.words.specs.Shifts.{Floored, circled, left, right}
use Rattle.words.proofs.Signs.{mag_within, within_mag}
use Rattle.words.specs.Wholes.{Within}

-- what a left shift of c + d bits by c keeps
kept_low : (a c d : ℕ) → (a * 2 ^ c) % 2 ^ (d + c) ≡ a % 2 ^ d * 2 ^ c
kept_low a c d =
    let e : (a * 2 ^ c) % 2 ^ c ≡ 0 = ap (λ n. n % 2 ^ c) (sym (add-zero (a * 2 ^ c))) ∙ digits_mod a (pow_pos c) in
    mod-pow-add (a * 2 ^ c) d c ∙ ap (λ n. n % 2 ^ d * 2 ^ c + (a * 2 ^ c) % 2 ^ c) (shl-shr a c) ∙ ap (λ n. a % 2 ^ d * 2 ^ c + n) e ∙ add-zero (a % 2 ^ d * 2 ^ c)

-- a circular shift exchanges the two parts of a word
exchanged : (a c d : ℕ) → d + c ≡ 32 → left 32 a c + right a d ≡ a % 2 ^ d * 2 ^ c + a / 2 ^ d
exchanged a c d e = let f : (a * 2 ^ c) % 2 ^ 32 ≡ a % 2 ^ d * 2 ^ c = ap (λ k. (a * 2 ^ c) % 2 ^ k) (sym e) ∙ kept_low a c d in ap (λ n. n + a / 2 ^ d) f

upper : (a c d : ℕ) → a < 2 ^ 32 → d + c ≡ 32 → a / 2 ^ d < 2 ^ c
upper a c d h e = let g : a < 2 ^ (c + d) = ap_lt in shr_lt c d g
  where
    ap_lt : a < 2 ^ (c + d)
    ap_lt = let f : c + d ≡ 32 = omega arith in rw f h

-- exchanging twice gives the word back
exchanged_twice : (a c d : ℕ) → a < 2 ^ 32 → d + c ≡ 32 → (x : ℕ) → x ≡ a % 2 ^ d * 2 ^ c + a / 2 ^ d → left 32 x d + right x c ≡ a
exchanged_twice a c d h e x f =
    let u = upper a c d h e in
    let q : x / 2 ^ c ≡ a % 2 ^ d = ap (λ n. n / 2 ^ c) f ∙ digits_div (a % 2 ^ d) u in
    let r : x % 2 ^ c ≡ a / 2 ^ d = ap (λ n. n % 2 ^ c) f ∙ digits_mod (a % 2 ^ d) u in
    let g : c + d ≡ 32 = omega arith in
    exchanged x d c g ∙ ap (λ n. n * 2 ^ d + x / 2 ^ c) r ∙ ap (λ n. a / 2 ^ d * 2 ^ d + n) q ∙ split a d

-- the machine's circular shift joins the parts by `or`
pub turned : (a k : ℕ) → a < 2 ^ 32 → bit_or ((a * 2 ^ (k % 32)) % 2 ^ 32) (a / 2 ^ ((32 - k % 32) % 32)) ≡ circled a k
unfolding circled
turned a k h = by (k % 32) (omega arith)
  where
    by : (c : ℕ) → c < 32 → bit_or ((a * 2 ^ c) % 2 ^ 32) (a / 2 ^ ((32 - c) % 32)) ≡ left 32 a c + right a (32 - c)
    by zero l =
        let e : (a * 1) % 2 ^ 32 ≡ a = omega arith in
        let f : a / 1 ≡ a = omega arith in
        let g : a / 4294967296 ≡ 0 = omega arith in
        rw (e, f, g) (or_self a ∙ sym (add-zero a))
    by (suc c) l =
        let e : 32 - suc c + suc c ≡ 32 = omega arith in
        let m : (32 - suc c) % 32 ≡ 32 - suc c = omega arith in
        let f : (a * 2 ^ suc c) % 2 ^ 32 ≡ a % 2 ^ (32 - suc c) * 2 ^ suc c = ap (λ k. (a * 2 ^ suc c) % 2 ^ k) (sym e) ∙ kept_low a (suc c) (32 - suc c) in
        ap (λ k. bit_or ((a * 2 ^ suc c) % 2 ^ 32) (a / 2 ^ k)) m
        ∙ ap (λ n. bit_or n (a / 2 ^ (32 - suc c))) f
        ∙ or_shifted (a % 2 ^ (32 - suc c)) (suc c) (a / 2 ^ (32 - suc c)) (upper a (suc c) (32 - suc c) h e)
        ∙ sym (exchanged a (suc c) (32 - suc c) e)

pub turned_back : (a k : ℕ) → a < 2 ^ 32 → circled (circled a k) (32 - k % 32) ≡ a
unfolding circled
turned_back a k h = by (k % 32) (omega arith)
  where
    by : (c : ℕ) → c < 32 → circled (left 32 a c + right a (32 - c)) (32 - c) ≡ a
    by zero l = omega arith
    by (suc c) l =
        let x : ℕ = left 32 a (suc c) + right a (32 - suc c) in
        let e : 32 - suc c + suc c ≡ 32 = omega arith in
        let m : (32 - suc c) % 32 ≡ 32 - suc c = omega arith in
        let n : 32 - (32 - suc c) ≡ suc c = omega arith in
        ap (λ k. left 32 x k + right x (32 - k)) m ∙ ap (λ k. left 32 x (32 - suc c) + right x k) n
        ∙ exchanged_twice a (suc c) (32 - suc c) h e x (exchanged a (suc c) (32 - suc c) e)

-- a shift that copies the sign
pub floored : (z : ℤ) (c : ℕ) → Floored z (2 ^ c) (shr_z z (2 ^ c))
floored (pos a) c =
    record { rest = a % 2 ^ c; smaller = mod-lt a (pow_pos c); whole = omega (arith, ints, div-add-mod a (2 ^ c)) }
floored (negsuc a) c =
    let l = mod-lt a (pow_pos c) in
    record { rest = 2 ^ c - 1 - a % 2 ^ c; smaller = omega (arith, pow_pos c); whole = omega (arith, ints, div-add-mod a (2 ^ c)) }

-- it gives a signed word of a signed word
pub shifted_within : (z : ℤ) (m : ℕ) → Within 32 z → Within 32 (shr_z z m)
shifted_within z m h = within_mag (shr_z z m) (omega (arith, mag_shr z m, mag_within z h))
