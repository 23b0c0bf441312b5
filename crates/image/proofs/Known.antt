-- A record is known from its section and its bytes, but for where the bytes of a fill lie.
use Rattle.std.proofs.Common.{◌≡◌, ℕ, zero, suc, ◌+◌, ◌*◌, ◌/◌, ◌%◌, List, ◌++◌, length, get_or, take, drop, sym, refl, ap, ◌∙◌, arith}
use Rattle.std.proofs.lemmas.List.{take_at, drop_at}
use Rattle.isa.specs.declared.kinds.Side.{Side}
use Rattle.isa.specs.declared.kinds.Side.TheVariants.{Code, Data}
use Rattle.image.specs.declared.records.Record.{Record}
use Rattle.image.specs.declared.records.Record.TheVariants.{Admit, Grant, Fill, Put, Run}
use Rattle.image.specs.declared.records.Section.{Section}
use Rattle.image.specs.declared.records.Section.TheVariants.{Admissions, Grants, Fills, Puts, Runs}
use Rattle.image.specs.Format.{written, section_of, bare}
use Rattle.isa.specs.Sides.{side_number}

abbrev half_of : ℕ → ℕ → ℕ
half_of a b = a * 256 + b

abbrev word_of : ℕ → ℕ → ℕ → ℕ → ℕ
word_of a b c d = half_of a b * 65536 + half_of c d

abbrev side_of : ℕ → Side
side_of zero = Code
side_of (suc n) = Data

-- the record of a section at the front of some bytes, and the bytes after it
abbrev decoded : Section → List ℕ → Record × List ℕ
decoded Admissions bs = (Admit (record { p = half_of (get_or bs 0 0) (get_or bs 1 0); first = half_of (get_or bs 2 0) (get_or bs 3 0); count = half_of (get_or bs 4 0) (get_or bs 5 0) }), drop 6 bs)
decoded Grants bs = (Grant (record { p = half_of (get_or bs 0 0) (get_or bs 1 0); side = side_of (get_or bs 3 0); page = word_of (get_or bs 4 0) (get_or bs 5 0) (get_or bs 6 0) (get_or bs 7 0); k = half_of (get_or bs 8 0) (get_or bs 9 0) }), drop 10 bs)
decoded Fills bs =
    let n = half_of (get_or bs 6 0) (get_or bs 7 0) in
    (Fill (record { p = half_of (get_or bs 0 0) (get_or bs 1 0); k = half_of (get_or bs 2 0) (get_or bs 3 0); offset = half_of (get_or bs 4 0) (get_or bs 5 0); bytes = record { ref_ptr = (0, 0); now = take n (drop 8 bs) } }), drop n (drop 8 bs))
decoded Puts bs = (Put (record { p = half_of (get_or bs 0 0) (get_or bs 1 0); r = half_of (get_or bs 2 0) (get_or bs 3 0); value = word_of (get_or bs 4 0) (get_or bs 5 0) (get_or bs 6 0) (get_or bs 7 0) }), drop 8 bs)
decoded Runs bs = (Run (record { p = half_of (get_or bs 0 0) (get_or bs 1 0); n = word_of (get_or bs 2 0) (get_or bs 3 0) (get_or bs 4 0) (get_or bs 5 0) }), drop 6 bs)

half_back : (n : ℕ) → half_of (n / 256) (n % 256) ≡ n
half_back n = omega arith

word_back : (n : ℕ) → word_of (n / 65536 / 256) (n / 65536 % 256) (n % 65536 / 256) (n % 65536 % 256) ≡ n
word_back n = omega arith

side_back : (s : Side) → side_of (side_number s % 256) ≡ s
side_back Code = refl
side_back Data = refl

decoded-written : (r : Record) (rest : List ℕ) → decoded (section_of r) (written r ++ rest) ≡ (bare r, rest)
decoded-written (Admit a) rest = (λ i. (Admit (record { p = half_back a.p i; first = half_back a.first i; count = half_back a.count i }), rest))
decoded-written (Grant g) rest = (λ i. (Grant (record { p = half_back g.p i; side = side_back g.side i; page = word_back g.page i; k = half_back g.k i }), rest))
decoded-written (Fill f) rest =
    let bs = f.bytes.now in
    let n = half_back (length bs) in
    let same = ap (λ m. take m (bs ++ rest)) n ∙ take_at bs rest (length bs) refl in
    let left = ap (λ m. drop m (bs ++ rest)) n ∙ drop_at bs rest (length bs) refl in
    (λ i. (Fill (record { p = half_back f.p i; k = half_back f.k i; offset = half_back f.offset i; bytes = record { ref_ptr = (0, 0); now = same i } }), left i))
decoded-written (Put u) rest = (λ i. (Put (record { p = half_back u.p i; r = half_back u.r i; value = word_back u.value i }), rest))
decoded-written (Run e) rest = (λ i. (Run (record { p = half_back e.p i; n = word_back e.n i }), rest))

written_bare : (r : Record) → written (bare r) ≡ written r
written_bare (Admit a) = refl
written_bare (Grant g) = refl
written_bare (Fill f) = refl
written_bare (Put u) = refl
written_bare (Run e) = refl

-- of one section, at most one record begins some bytes
pub record_is : (s : Section) (r q : Record) (a b : List ℕ) → section_of r ≡ s → section_of q ≡ s → written r ++ a ≡ written q ++ b → (bare r ≡ bare q) × (written r ≡ written q) × (a ≡ b)
record_is s r q a b e f same =
    let both = sym (decoded-written r a) ∙ (λ i. decoded ((e ∙ sym f) i) (same i)) ∙ decoded-written q b in
    let bares = ap (λ x. x.0) both in
    (bares, sym (written_bare r) ∙ ap written bares ∙ written_bare q, ap (λ x. x.1) both)
