-- Words and whole numbers: reading a number of k bits as signed and cutting a whole number to k bits undo each other.
use Rattle.std.proofs.Common.{◌≡◌, ℕ, zero, suc, ◌+◌, ◌-◌, ◌/◌, ◌%◌, ◌^◌, ◌<◌, ◌≤◌, Bool, true, false, cond, ltb, ℤ, pos, negsuc, ◌-ℤ◌, sym, refl, ap, ◌∙◌, mod-lt, mod-eq_of_lt, arith, pow_pos, w8, w16, w32, w64, SFits, to_z, of_z, ltb-false, ltb-true, le-ltb, lt-ltb}
use borrow.Author.Differences.{ints}
use lib.Arith.{digits_mod}
use lib.Pow.{mod-mod-pow}
use lib.Signed.{mag}
use mir.Syntax.{Width, w128}
use mir.Val.{bits, hbits, sel}
use Rattle.words.proofs.Bitwise.{flip_split}
use Rattle.words.specs.Wholes.{low, signed, Modulo, Within}

-- half the numbers of k bits are negative
pub doubled : (k : ℕ) → 0 < k → 2 ^ k ≡ 2 ^ (k - 1) + 2 ^ (k - 1)
doubled zero h = absurd (omega arith)
doubled (suc k) h = let e : suc k - 1 ≡ k = omega arith in rw e (omega arith)

-- reading by a sign that is known
pub read_below : (k v : ℕ) → v < 2 ^ (k - 1) → signed k v ≡ pos v
unfolding signed
read_below k v h = ap (λ t. cond t (pos v) (pos v -ℤ pos (2 ^ k))) (lt-ltb v (2 ^ (k - 1)) h)

pub read_above : (k v : ℕ) → 2 ^ (k - 1) ≤ v → signed k v ≡ pos v -ℤ pos (2 ^ k)
unfolding signed
read_above k v h = ap (λ t. cond t (pos v) (pos v -ℤ pos (2 ^ k))) (le-ltb v (2 ^ (k - 1)) h)

pub signed-within : (k v : ℕ) → 0 < k → v < 2 ^ k → Within k (signed k v)
signed-within k v p h = by (ltb v (2 ^ (k - 1))) refl
  where
    by : (t : Bool) → ltb v (2 ^ (k - 1)) ≡ t → Within k (signed k v)
    by true e =
        let l = ltb-true v (2 ^ (k - 1)) e in
        let r = read_below k v l in
        record { least = omega (arith, ints); most = omega (arith, ints) }
    by false e =
        let l = ltb-false v (2 ^ (k - 1)) e in
        let d = doubled k p in
        let r = read_above k v l in
        record { least = omega (arith, ints); most = omega (arith, ints) }

-- the same range, as the machine's widths measure it
pub mag_within : (z : ℤ) → Within 32 z → mag z < 2 ^ 31
mag_within (pos n) h = omega (arith, ints)
mag_within (negsuc n) h = omega (arith, ints)

pub within_mag : (z : ℤ) → mag z < 2 ^ 31 → Within 32 z
within_mag (pos n) h = record { least = omega (arith, ints); most = omega (arith, ints) }
within_mag (negsuc n) h = record { least = omega (arith, ints); most = omega (arith, ints) }

pub low_below : (k : ℕ) (z : ℤ) → low k z < 2 ^ k
unfolding low
low_below k (pos n) = mod-lt n (pow_pos k)
low_below k (negsuc n) = omega (arith, pow_pos k)

-- a number of k bits is the low part of its signed value
pub low_signed : (k v : ℕ) → 0 < k → v < 2 ^ k → low k (signed k v) ≡ v
unfolding low
low_signed k v p h = by (ltb v (2 ^ (k - 1))) refl
  where
    by : (t : Bool) → ltb v (2 ^ (k - 1)) ≡ t → low k (signed k v) ≡ v
    by true e = let r = read_below k v (ltb-true v (2 ^ (k - 1)) e) in rw r (mod-eq_of_lt h)
    by false e =
        let l = ltb-false v (2 ^ (k - 1)) e in
        let z : signed k v ≡ negsuc (2 ^ k - suc v) = read_above k v l ∙ omega (arith, ints) in
        let q : (2 ^ k - suc v) % 2 ^ k ≡ 2 ^ k - suc v = mod-eq_of_lt (omega arith) in
        rw (z, q) (omega arith)

-- a whole number within the signed numbers of k bits is the value of its low part
pub signed_low : (k : ℕ) (z : ℤ) → 0 < k → Within k z → signed k (low k z) ≡ z
unfolding low
signed_low k (pos n) p h =
    let l : n < 2 ^ (k - 1) = omega (arith, ints) in
    let d = doubled k p in
    let q : n % 2 ^ k ≡ n = mod-eq_of_lt (omega arith) in
    rw q (read_below k n l)
signed_low k (negsuc n) p h =
    let l : n < 2 ^ (k - 1) = omega (arith, ints) in
    let d = doubled k p in
    let q : n % 2 ^ k ≡ n = mod-eq_of_lt (omega arith) in
    rw q (read_above k (2 ^ k - 1 - n) (omega arith) ∙ omega (arith, ints))

pub low_modulo : (k : ℕ) (z : ℤ) → Modulo (2 ^ k) z (low k z)
unfolding low
low_modulo k (pos n) =
    record { below = low_below k (pos n); times = pos (n / 2 ^ k); same = omega (arith, ints) }
low_modulo k (negsuc n) =
    let b = mod-lt n (pow_pos k) in
    record { below = low_below k (negsuc n); times = negsuc (n / 2 ^ k); same = omega (arith, ints) }

-- the meaning of a signed number of a width of the machine
half_bits : (w : Width) → (hbits w ≡ bits w - 1) × (0 < bits w)
half_bits w8 = (refl, omega arith)
half_bits w16 = (refl, omega arith)
half_bits w32 = (refl, omega arith)
half_bits w64 = (refl, omega arith)
half_bits w128 = (refl, omega arith)

fits_bits : (w : Width) (n : ℕ) → n < 2 ^ hbits w → n < 2 ^ bits w
fits_bits w n h = let d = doubled (bits w) (half_bits w).1 in let e = ap (λ b. 2 ^ b) (half_bits w).0 in omega arith

pub signed_to_z : (w : Width) (v : ℕ) → v < 2 ^ bits w → signed (bits w) v ≡ to_z w v
signed_to_z w v h = by (ltb v (2 ^ (bits w - 1))) refl
  where
    at : (t : Bool) → ltb v (2 ^ (bits w - 1)) ≡ t → to_z w v ≡ sel t (pos v) (negsuc (2 ^ bits w - suc v))
    at t e = ap (λ b. sel (ltb v (2 ^ b)) (pos v) (negsuc (2 ^ bits w - suc v))) (half_bits w).0 ∙ ap (λ u. sel u (pos v) (negsuc (2 ^ bits w - suc v))) e

    by : (t : Bool) → ltb v (2 ^ (bits w - 1)) ≡ t → signed (bits w) v ≡ to_z w v
    by true e = read_below (bits w) v (ltb-true v (2 ^ (bits w - 1)) e) ∙ sym (at true e)
    by false e =
        read_above (bits w) v (ltb-false v (2 ^ (bits w - 1)) e)
        ∙ (let z : pos v -ℤ pos (2 ^ bits w) ≡ negsuc (2 ^ bits w - suc v) = omega (arith, ints) in z)
        ∙ sym (at false e)

pub signed_8 : (v : ℕ) → v < 2 ^ 8 → to_z w8 v ≡ signed 8 v
signed_8 v h = sym (signed_to_z w8 v h)

pub signed_16 : (v : ℕ) → v < 2 ^ 16 → to_z w16 v ≡ signed 16 v
signed_16 v h = sym (signed_to_z w16 v h)

pub signed_32 : (v : ℕ) → v < 2 ^ 32 → to_z w32 v ≡ signed 32 v
signed_32 v h = sym (signed_to_z w32 v h)

pub signed_64 : (v : ℕ) → v < 2 ^ 64 → to_z w64 v ≡ signed 64 v
signed_64 v h = sym (signed_to_z w64 v h)

-- the bits of a whole number that fits a width of the machine
pub low_of_z : (w : Width) (z : ℤ) → SFits w z → low (bits w) z ≡ of_z w z
unfolding low
low_of_z w (pos n) f = mod-eq_of_lt (fits_bits w n f.sfits)
low_of_z w (negsuc n) f = let q : n % 2 ^ bits w ≡ n = mod-eq_of_lt (fits_bits w n f.sfits) in rw q (omega arith)

-- the low part of a longer low part
pub cut_twice : (i j : ℕ) (z : ℤ) → low (i + j) z % 2 ^ j ≡ low j z
unfolding low
cut_twice i j (pos n) = mod-mod-pow n i j
cut_twice i j (negsuc n) =
    let m = n % 2 ^ (i + j) in
    ap (λ k. k % 2 ^ j) (flip_split i j m (mod-lt n (pow_pos (i + j)))) ∙ digits_mod (2 ^ i - 1 - m / 2 ^ j) (omega (arith, pow_pos j))
    ∙ ap (λ k. 2 ^ j - 1 - k) (mod-mod-pow n i j)
