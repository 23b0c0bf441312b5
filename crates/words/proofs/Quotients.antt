-- Products and quotients of signed words: they fit 64 bits, and the quotient toward zero is the only one.
use Rattle.std.proofs.Common.{◌≡◌, if◌then◌else◌, ◌==◌, ℕ, zero, suc, ◌+◌, ◌*◌, ◌/◌, ◌^◌, ◌<◌, ◌≤◌, ℤ, pos, negsuc, ◌*ℤ◌, neg_ℤ, nat_abs, ◌≤ℤ◌, ◌<ℤ◌, Some, None, sym, refl, ap, ◌∙◌, mod-lt, mul-le-mul_left, mul-zero, div-le_self, arith, w64, SFits, of_z, ne_eqb}
use native.Mathlib.Nat.{div-add-mod}
use borrow.Author.Differences.{down, ints, neg_is, up}
use lib.Signed.{mag_rem, quot_z, rem_z}
use Rattle.std.proofs.lemmas.Nat.{mul-le}
use Rattle.std.proofs.lemmas.Int.{by_lt_z, to_z-of_z}
use Rattle.std.specs.Int.{CanDivide}
use Rattle.words.specs.Division.{Divided, Divides, Left, Truncates, remainder_of}
use Rattle.words.specs.Kept.{Told}
use Rattle.words.specs.declared.arithmetic.Kept.{Kept}
use Rattle.words.proofs.Signs.{low_signed, mag_within, signed_low, signed-within, within_mag}
use Rattle.words.specs.Wholes.{low, signed, Within}

size : (z : ℤ) → Within 32 z → nat_abs z ≤ 2 ^ 31
size (pos n) h = omega (arith, ints)
size (negsuc n) h = omega (arith, ints)

small : (z : ℤ) (m : ℕ) → nat_abs z ≤ m → m < 2 ^ 63 → SFits w64 z
small z m h l = omega (arith, ints)

abs_neg : (z : ℤ) → nat_abs (neg_ℤ z) ≡ nat_abs z
abs_neg z = omega (arith, ints)

pub product_fits : (a b : ℤ) → Within 32 a → Within 32 b → SFits w64 (a *ℤ b)
product_fits a b ha hb = small (a *ℤ b) (2 ^ 31 * 2 ^ 31) (of a b (size a ha) (size b hb)) (omega arith)
  where
    of : (a b : ℤ) → nat_abs a ≤ 2 ^ 31 → nat_abs b ≤ 2 ^ 31 → nat_abs (a *ℤ b) ≤ 2 ^ 31 * 2 ^ 31
    of (pos a) (pos b) ha hb = mul-le a b (2 ^ 31) (2 ^ 31) ha hb
    of (pos a) (negsuc b) ha hb = rw abs_neg (mul-le a (suc b) (2 ^ 31) (2 ^ 31) ha hb)
    of (negsuc a) (pos b) ha hb = rw abs_neg (mul-le (suc a) b (2 ^ 31) (2 ^ 31) ha hb)
    of (negsuc a) (negsuc b) ha hb = mul-le (suc a) (suc b) (2 ^ 31) (2 ^ 31) ha hb

pub ruleset products = (product_fits, to_z-of_z)

-- a quotient is no larger than its dividend
quotient_size : (n d : ℤ) → nat_abs (quot_z n d) ≤ nat_abs n
quotient_size (pos a) (pos b) = div-le_self a b
quotient_size (pos a) (negsuc b) = omega (arith, ints, div-le_self a (suc b))
quotient_size (negsuc a) (pos b) = omega (arith, ints, div-le_self (suc a) b)
quotient_size (negsuc a) (negsuc b) = div-le_self (suc a) (suc b)

pub quotient_fits : (n d : ℤ) → Within 32 n → SFits w64 (quot_z n d)
quotient_fits n d h = small (quot_z n d) (2 ^ 31) (omega (arith, quotient_size n d, size n h)) (omega arith)

-- d times the negative of x, in the parts of whole numbers
times_neg : (d x : ℕ) → (d * up (neg_ℤ (pos x)) ≡ 0) × (d * down (neg_ℤ (pos x)) ≡ d * x)
times_neg d x = (ap (λ z. d * z) (neg_is (pos x)).0 ∙ mul-zero d, ap (λ z. d * z) (neg_is (pos x)).1)

pub divides : (n d : ℤ) → 0 < nat_abs d → Divides n d (quot_z n d) (rem_z n d)
divides (pos a) (pos b) h =
    record { whole = omega (arith, ints, div-add-mod a b); smaller = mod-lt a h; sign = omega (arith, ints) }
divides (pos a) (negsuc b) h =
    let t = times_neg (suc b) (a / suc b) in
    record { whole = omega (arith, ints, div-add-mod a (suc b)); smaller = mod-lt a h; sign = omega (arith, ints) }
divides (negsuc a) (pos b) h =
    let t = times_neg b (suc a / b) in
    record { whole = omega (arith, ints, div-add-mod (suc a) b); smaller = rw abs_neg (mod-lt (suc a) h); sign = omega (arith, ints) }
divides (negsuc a) (negsuc b) h =
    record { whole = omega (arith, ints, div-add-mod (suc a) (suc b)); smaller = rw abs_neg (mod-lt (suc a) h); sign = omega (arith, ints) }

-- of two quotients none is the lower one: a step of the quotient moves the remainder by the whole divisor
not_lower : (n d q r q' r' : ℤ) → Divides n d q r → Divides n d q' r' → q <ℤ q' → ⊥
not_lower n d q r q' r' h h' l = by n d h h'
  where
    gap : up q + down q' + 1 ≤ up q' + down q
    gap = omega (arith, ints)

    by : (n d : ℤ) → Divides n d q r → Divides n d q' r' → ⊥
    by (pos a) (pos b) h h' = omega (arith, ints, mul-le-mul_left b gap)
    by (pos a) (negsuc b) h h' = omega (arith, ints, mul-le-mul_left (suc b) gap)
    by (negsuc a) (pos b) h h' = omega (arith, ints, mul-le-mul_left b gap)
    by (negsuc a) (negsuc b) h h' = omega (arith, ints, mul-le-mul_left (suc b) gap)

only : (n d q r : ℤ) → Divides n d q r → (q ≡ quot_z n d) × (r ≡ rem_z n d)
only n d q r h =
    let g = divides n d (omega (arith, h.smaller)) in
    let below : q ≤ℤ quot_z n d = by_lt_z (quot_z n d) q (λ l. absurd (not_lower n d (quot_z n d) (rem_z n d) q r g h l)) (λ k. k) in
    let above : quot_z n d ≤ℤ q = by_lt_z q (quot_z n d) (λ l. absurd (not_lower n d q r (quot_z n d) (rem_z n d) h g l)) (λ k. k) in
    let same : q ≡ quot_z n d = omega (arith, ints) in
    let times : d *ℤ q ≡ d *ℤ quot_z n d = ap (λ z. d *ℤ z) same in
    (same, omega (arith, ints, h.whole, g.whole))

pub truncates : (n d : ℤ) → 0 < nat_abs d → Truncates n d
truncates n d h = record { divides = divides n d h; only = only n d }

-- only the word 0 stands for 0
pub not_zero : (b : ℕ) → b < 2 ^ 32 → (b ≡ 0 → ⊥) → 0 < nat_abs (signed 32 b)
unfolding low
not_zero b h n = by (signed 32 b) refl
  where
    by : (z : ℤ) → signed 32 b ≡ z → 0 < nat_abs z
    by (pos zero) e = absurd (n (sym (low_signed 32 b (omega arith) h) ∙ ap (low 32) e))
    by (pos (suc m)) e = omega arith
    by (negsuc m) e = omega arith

-- a remainder of signed words is a signed word
remainder_within : (n d : ℤ) → Within 32 n → Within 32 (rem_z n d)
remainder_within n d h = within_mag (rem_z n d) (omega (arith, mag_rem n d, mag_within n h))

pub remainder_fits : (n d : ℤ) → Within 32 n → SFits w64 (rem_z n d)
remainder_fits n d h = let w = remainder_within n d h in omega (arith, ints)

remainder_exact : (n d : ℤ) → Within 32 n → signed 32 (low 32 (rem_z n d)) ≡ rem_z n d
remainder_exact n d h = signed_low 32 (rem_z n d) (omega arith) (remainder_within n d h)

-- the machine finds no quotient of words only where the divisor is 0
bits_left : (d : ℤ) → Within 32 d → 0 < nat_abs d → 0 < of_z w64 d
bits_left (pos n) w h = omega (arith, ints)
bits_left (negsuc n) w h = omega (arith, ints)

pub undivided : (a b : ℕ) (n d : ℤ) → a < 2 ^ 32 → b < 2 ^ 32 → n ≡ signed 32 a → d ≡ signed 32 b → (CanDivide w64 n d → ⊥) → b ≡ 0
undivided a zero n d la lb en ed h = refl
undivided a (suc b) n d la lb en ed h =
    let z : 0 < nat_abs d = rw ed (not_zero (suc b) lb (λ e. absurd (omega arith))) in
    let w : Within 32 n = rw en (signed-within 32 a (omega arith) la) in
    let v : Within 32 d = rw ed (signed-within 32 (suc b) (omega arith) lb) in
    absurd (h (bits_left d v z, quotient_fits n d w))

-- and a quotient only where it is not
pub divisor_counts : (b : ℕ) (d : ℤ) → d ≡ signed 32 b → 0 < of_z w64 d → b ≡ 0 → ⊥
unfolding signed
divisor_counts b d e l z = let y : d ≡ pos 0 = e ∙ ap (signed 32) z in absurd (omega (arith, ints, ap (of_z w64) y))

-- what stands for a divisor other than 0
pub answered : {X : Type 0} (b : ℕ) (x y : X) → (b ≡ 0 → ⊥) → x ≡ y → Some x ≡ (if b == 0 then None else Some y)
answered b x y nb h = let e = ne_eqb b 0 nb in rw e (ap Some h)

module _ (a b : ℕ) (wa : Within 32 (signed 32 a)) (lb : b < 2 ^ 32) (nb : b ≡ 0 → ⊥) where
  pub divided : (k : Kept) → Told (quot_z (signed 32 a) (signed 32 b)) k → Divided a b k
  divided k h = record {
    truncates = truncates (signed 32 a) (signed 32 b) (not_zero b lb nb);
    told = h;
    restores = λ r e o.
        let q = h.0 o in
        let s : Some (low 32 (rem_z (signed 32 a) (signed 32 b))) ≡ remainder_of a b = answered b _ _ nb refl in
        let t : r ≡ low 32 (rem_z (signed 32 a) (signed 32 b)) = cc in
        let u : signed 32 r ≡ rem_z (signed 32 a) (signed 32 b) = ap (signed 32) t ∙ remainder_exact _ _ wa in
        let d = (divides (signed 32 a) (signed 32 b) (not_zero b lb nb)).whole in
        cc;
  }

  pub left : (r : ℕ) → r ≡ low 32 (rem_z (signed 32 a) (signed 32 b)) → Left a b r
  left r h =
      let u : signed 32 r ≡ rem_z (signed 32 a) (signed 32 b) = ap (signed 32) h ∙ remainder_exact _ _ wa in
      let d = divides (signed 32 a) (signed 32 b) (not_zero b lb nb) in
      record { exact = u; smaller = rw u d.smaller; sign = rw u d.sign }
