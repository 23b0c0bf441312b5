-- What bytes write in hexadecimal digits: a pair of bytes as one number of four, a byte as one of two.
use Rattle.std.proofs.Common.{◌≡◌, ℕ, zero, suc, ◌+◌, ◌-◌, ◌*◌, ◌/◌, ◌%◌, ◌^◌, ◌<◌, ◌≤◌, Bool, true, false, cond, eq-eqb, ne_eqb, ltb, ltb-true, ltb-false, List, [], ◌∷◌, ◌++◌, length, get_or, take, drop, Some, ap, ◌∙◌, refl, append_assoc, arith}
use Rattle.std.proofs.lemmas.Fmt.{hex_byte, hex_one_digit, hex_two_digits}
use Rattle.std.proofs.lemmas.List.{get_or-drop, get_or-take, take_more}
use Rattle.std.proofs.lemmas.List.Concat.{flat_map-append}
use Rattle.std.specs.Fmt.{char_count, digit_glyph, digits, digits_onto, digits_output, format_spec, padded_integral, radix_digits, styled_digits_output}
use Rattle.std.specs.Simd.{first_chunks}
use Rattle.report.specs.Lines.{hex, hexes}

one_more : (k n : ℕ) (acc : List ℕ) → 16 ≤ n → digits_onto (suc k) 16 false n acc ≡ digits_onto k 16 false (n / 16) (digit_glyph false (n % 16) ∷ acc)
one_more k n acc large =
    ap (λ (b : Bool). cond b (digit_glyph false (n % 16) ∷ acc) (digits_onto k 16 false (n / 16) (digit_glyph false (n % 16) ∷ acc)))
    (ne_eqb (n / 16) 0 (λ e. absurd (omega (arith, e))))

the_first : (k n : ℕ) (acc : List ℕ) → n < 16 → digits_onto (suc k) 16 false n acc ≡ digit_glyph false (n % 16) ∷ acc
the_first k n acc small =
    ap (λ (b : Bool). cond b (digit_glyph false (n % 16) ∷ acc) (digits_onto k 16 false (n / 16) (digit_glyph false (n % 16) ∷ acc)))
    (eq-eqb (n / 16) 0 (omega arith))

hex_three_digits : (n : ℕ) → 256 ≤ n → n < 4096 → digits 16 false n ≡ digit_glyph false (n / 256) ∷ digit_glyph false (n / 16 % 16) ∷ digit_glyph false (n % 16) ∷ []
unfolding digits
hex_three_digits n large small =
    let first : n / 16 / 16 % 16 ≡ n / 256 = omega arith in
    one_more 63 n [] (omega arith) ∙ one_more 62 (n / 16) (digit_glyph false (n % 16) ∷ []) (omega arith)
    ∙ the_first 61 (n / 16 / 16) (digit_glyph false (n / 16 % 16) ∷ digit_glyph false (n % 16) ∷ []) (omega arith)
    ∙ ap (λ d. digit_glyph false d ∷ digit_glyph false (n / 16 % 16) ∷ digit_glyph false (n % 16) ∷ []) first

hex_four_digits : (n : ℕ) → 4096 ≤ n → n < 65536 →
    digits 16 false n ≡ digit_glyph false (n / 4096) ∷ digit_glyph false (n / 256 % 16) ∷ digit_glyph false (n / 16 % 16) ∷ digit_glyph false (n % 16) ∷ []
unfolding digits
hex_four_digits n large small =
    let first : n / 16 / 16 / 16 % 16 ≡ n / 4096 = omega arith in
    let second : n / 16 / 16 % 16 ≡ n / 256 % 16 = omega arith in
    let rest : List ℕ = digit_glyph false (n / 16 % 16) ∷ digit_glyph false (n % 16) ∷ [] in
    one_more 63 n [] (omega arith) ∙ one_more 62 (n / 16) (digit_glyph false (n % 16) ∷ []) (omega arith)
    ∙ one_more 61 (n / 16 / 16) rest (omega arith)
    ∙ the_first 60 (n / 16 / 16 / 16) (digit_glyph false (n / 16 / 16 % 16) ∷ rest) (omega arith)
    ∙ (λ i. digit_glyph false (first i) ∷ digit_glyph false (second i) ∷ rest)

-- a number of 16 bits in four digits
hex_pair : (n : ℕ) → n < 65536 → padded_integral (format_spec 32 0 4 4 (2 ^ 64 - 1)) false [] (digits 16 false n)
    ≡ digit_glyph false (n / 4096) ∷ digit_glyph false (n / 256 % 16) ∷ digit_glyph false (n / 16 % 16) ∷ digit_glyph false (n % 16) ∷ []
unfolding padded_integral char_count
hex_pair n small = by (ltb n 16) (ltb n 256) (ltb n 4096) refl refl refl
  where
    by : (one two three : Bool) → ltb n 16 ≡ one → ltb n 256 ≡ two → ltb n 4096 ≡ three → padded_integral (format_spec 32 0 4 4 (2 ^ 64 - 1)) false [] (digits 16 false n)
        ≡ digit_glyph false (n / 4096) ∷ digit_glyph false (n / 256 % 16) ∷ digit_glyph false (n / 16 % 16) ∷ digit_glyph false (n % 16) ∷ []
    by true _ _ e _ _ =
        let l = ltb-true n 16 e in
        let a : n / 4096 ≡ 0 = omega arith in
        let b : n / 256 % 16 ≡ 0 = omega arith in
        let c : n / 16 % 16 ≡ 0 = omega arith in
        let d : n % 16 ≡ n = omega arith in rw (hex_one_digit false n l, a, b, c, d)
    by false true _ e f _ =
        let l = ltb-true n 256 f in
        let a : n / 4096 ≡ 0 = omega arith in
        let b : n / 256 % 16 ≡ 0 = omega arith in
        let c : n / 16 % 16 ≡ n / 16 = omega arith in rw (hex_two_digits false n (ltb-false n 16 e) l, a, b, c)
    by false false true _ f g =
        let l = ltb-true n 4096 g in
        let a : n / 4096 ≡ 0 = omega arith in
        let b : n / 256 % 16 ≡ n / 256 = omega arith in rw (hex_three_digits n (ltb-false n 256 f) l, a, b)
    by false false false _ _ g = rw (hex_four_digits n (ltb-false n 4096 g) small)

pub pair_written : (d : _) (s : _) (a b n : ℕ) → a < 256 → b < 256 → n ≡ a * 256 + b → digits_output d ≡ Some (radix_digits 16 false n) →
    s ≡ format_spec 32 0 4 4 (2 ^ 64 - 1) → styled_digits_output d s ≡ Some (hex a ++ hex b)
pair_written d s a b n ha hb is e f =
    let first : n / 4096 ≡ a / 16 % 16 = omega arith in
    let second : n / 256 % 16 ≡ a % 16 = omega arith in
    let third : n / 16 % 16 ≡ b / 16 % 16 = omega arith in
    let fourth : n % 16 ≡ b % 16 = omega arith in
    rw (f, e)
    (ap Some (hex_pair n (omega arith)
    ∙ (λ i. digit_glyph false (first i) ∷ digit_glyph false (second i) ∷ digit_glyph false (third i) ∷ digit_glyph false (fourth i) ∷ [])))

pub hex_written : (d : _) (s : _) (b : ℕ) → b < 256 → digits_output d ≡ Some (radix_digits 16 false b) →
    s ≡ format_spec 32 0 4 2 (2 ^ 64 - 1) → styled_digits_output d s ≡ Some (hex b)
hex_written d s b h e f =
    let high : b / 16 ≡ b / 16 % 16 = omega arith in
    rw (f, e) (ap Some (hex_byte false b h ∙ ap (λ q. digit_glyph false q ∷ digit_glyph false (b % 16) ∷ []) high))

pub hexes_more : (bs : List ℕ) (i : ℕ) → i < length bs → hexes (take (i + 1) bs) ≡ hexes (take i bs) ++ hex (get_or bs i 0)
hexes_more bs i h = rw (take_more bs i 0 h, flat_map-append hex) refl

-- a pair more
pub hexes_more_pairs : (bs : List ℕ) (i : ℕ) → i * 2 + 2 ≤ length bs →
    hexes (take ((i + 1) * 2) bs) ≡ hexes (take (i * 2) bs) ++ (hex (get_or bs (i * 2) 0) ++ hex (get_or bs (i * 2 + 1) 0))
hexes_more_pairs bs i h =
    let twice : (i + 1) * 2 ≡ i * 2 + 1 + 1 = omega arith in
    rw twice (hexes_more bs (i * 2 + 1) (omega arith) ∙ ap (λ l. l ++ hex (get_or bs (i * 2 + 1) 0)) (hexes_more bs (i * 2) (omega arith))
    ∙ append_assoc (hexes (take (i * 2) bs)) (hex (get_or bs (i * 2) 0)) (hex (get_or bs (i * 2 + 1) 0)))

-- the elements of a pair
pub chunk_at : (k : ℕ) (xs : List ℕ) (i j : ℕ) → i < k → j < 2 → get_or (get_or (first_chunks 2 k xs) i []) j 0 ≡ get_or xs (i * 2 + j) 0
chunk_at zero xs i j h l = absurd (omega (arith, h))
chunk_at (suc k) xs zero j h l = get_or-take 2 xs j 0 l ∙ ap (λ m. get_or xs m 0) {x = j} {y = zero * 2 + j} (omega arith)
chunk_at (suc k) xs (suc i) j h l =
    chunk_at k (drop 2 xs) i j (omega (arith, h)) l ∙ get_or-drop 2 xs (i * 2 + j) 0
    ∙ ap (λ m. get_or xs m 0) {x = 2 + (i * 2 + j)} {y = suc i * 2 + j} (omega arith)
