-- Comparisons by words are total orders, by the whole numbers that are compared.
use Rattle.std.proofs.Common.{◌≡◌, ℕ, ◌^◌, ◌<◌, true, false, ◌⊎◌, ℤ, pos, ◌<ℤ◌, sym, refl, ap, ◌∙◌, inl, inr, arith}
use borrow.Author.Differences.{ints}
use lib.Signed.{lt_z}
use Rattle.std.proofs.lemmas.Int.{by_lt_z}
use Rattle.words.proofs.Signs.{low_signed}
use Rattle.words.specs.Orders.{Halves, TotalOrder, Word, compared, dcomp, lcomp, minus}
use Rattle.words.specs.Pairs.{number_of}
use Rattle.words.specs.Wholes.{low, signed}
use Rattle.words.specs.declared.pairs.Pair.{Pair}

-- the answer by the order of the numbers
pub is_below : (x y : ℤ) → x <ℤ y → low 32 (compared x y) ≡ minus
unfolding low compared
is_below x y h = let e : lt_z x y ≡ true = sym (omega (arith, ints)) in rw e

pub is_above : (x y : ℤ) → y <ℤ x → low 32 (compared x y) ≡ 1
unfolding low compared
is_above x y h =
    let e : lt_z x y ≡ false = sym (omega (arith, ints)) in
    let f : lt_z y x ≡ true = sym (omega (arith, ints)) in
    rw (e, f)

pub is_same : (x y : ℤ) → x ≡ y → low 32 (compared x y) ≡ 0
unfolding low compared
is_same x y h =
    let e : lt_z x y ≡ false = sym (omega (arith, ints)) in
    let f : lt_z y x ≡ false = sym (omega (arith, ints)) in
    rw (e, f)

data Rank (x y : ℤ) (r : ℕ) : Type 0 where
  below : x <ℤ y → r ≡ minus → Rank x y r
  above : y <ℤ x → r ≡ 1 → Rank x y r
  same : x ≡ y → r ≡ 0 → Rank x y r

rank : (x y : ℤ) → Rank x y (low 32 (compared x y))
rank x y =
    by_lt_z x y (λ l. below l (is_below x y l))
    (λ k. by_lt_z y x (λ l. above l (is_above x y l)) (λ m. let e : x ≡ y = omega (arith, ints) in same e (is_same x y e)))

-- the numbers by the answer
to_below : (x y : ℤ) (r : ℕ) → Rank x y r → r ≡ minus → x <ℤ y
to_below x y r (below l e) f = l
to_below x y r (above l e) f = absurd (omega arith)
to_below x y r (same s e) f = absurd (omega arith)

to_above : (x y : ℤ) (r : ℕ) → Rank x y r → r ≡ 1 → y <ℤ x
to_above x y r (below l e) f = absurd (omega arith)
to_above x y r (above l e) f = l
to_above x y r (same s e) f = absurd (omega arith)

to_same : (x y : ℤ) (r : ℕ) → Rank x y r → r ≡ 0 → x ≡ y
to_same x y r (below l e) f = absurd (omega arith)
to_same x y r (above l e) f = absurd (omega arith)
to_same x y r (same s e) f = s

answer : (x y : ℤ) (r : ℕ) → Rank x y r → (r ≡ minus) ⊎ ((r ≡ 0) ⊎ (r ≡ 1))
answer x y r (below l e) = inl e
answer x y r (above l e) = inr (inr e)
answer x y r (same s e) = inr (inl e)

-- a comparison by whole numbers that tell things apart is a total order of the things
total : {A : Type 0} (In : A → Type 0) (key : A → ℤ) → ((x y : A) → In x → In y → key x ≡ key y → x ≡ y) →
    TotalOrder In (λ x y. low 32 (compared (key x) (key y)))
total In key apart = record {
  answers = λ x y. answer (key x) (key y) _ (rank (key x) (key y));
  itself = λ x. is_same (key x) (key x) refl;
  same = λ x y hx hy e. apart x y hx hy (to_same (key x) (key y) _ (rank (key x) (key y)) e);
  below = λ x y e. is_above (key y) (key x) (to_below (key x) (key y) _ (rank (key x) (key y)) e);
  above = λ x y e. is_below (key y) (key x) (to_above (key x) (key y) _ (rank (key x) (key y)) e);
  through = λ x y z e f.
      let g = to_below (key x) (key y) _ (rank (key x) (key y)) e in
      let h = to_below (key y) (key z) _ (rank (key y) (key z)) f in
      is_below (key x) (key z) (omega (arith, ints));
}

pub words_ordered : TotalOrder Word lcomp
words_ordered = total Word pos (λ x y _ _ e. cc)

pair-below : (p : Pair) → Halves p → number_of p < 2 ^ 64
unfolding number_of
pair-below p h = omega arith

same-pair : (p q : Pair) → Halves p → Halves q → number_of p ≡ number_of q → p ≡ q
unfolding number_of
same-pair p q hp hq e =
    let h : p.high ≡ q.high = omega arith in
    let l : p.low ≡ q.low = omega arith in
    let pair : ℕ → ℕ → Pair = λ a b. record { high = a; low = b } in
    ap (λ a. pair a p.low) h ∙ ap (pair q.high) l

pub pairs_ordered : TotalOrder Halves dcomp
pairs_ordered = total Halves (λ p. signed 64 (number_of p)) apart
  where
    back : (p : Pair) → Halves p → low 64 (signed 64 (number_of p)) ≡ number_of p
    back p h = low_signed 64 (number_of p) (omega arith) (pair-below p h)

    apart : (p q : Pair) → Halves p → Halves q → signed 64 (number_of p) ≡ signed 64 (number_of q) → p ≡ q
    apart p q hp hq e = same-pair p q hp hq (sym (back p hp) ∙ ap (low 64) e ∙ back q hq)
