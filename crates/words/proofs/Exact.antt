-- What is kept of an exact result: overflow is told exactly where the kept word is not the result.
use Rattle.std.proofs.Common.{◌≡◌, ℕ, ◌^◌, ◌<◌, Bool, true, false, not, ◌||◌, eqb, ℤ, pos, neg_ℤ, sym, refl, ap, ◌∙◌, subst, arith, to_z-of_z, w64, SFits, to_z, of_z, eqb-true}
use borrow.Author.Differences.{ints}
use borrow.Author.Tests.{eqb-false}
use lib.Signed.{lt_z}
use Rattle.words.proofs.Signs.{low_below, signed_low, signed-within}
use Rattle.words.specs.Kept.{Told, kept, outside}
use Rattle.words.specs.Wholes.{low, signed, Within}
use Rattle.words.specs.declared.arithmetic.Kept.{Kept}

pub inside : (e : ℤ) → outside e ≡ false → Within 32 e
unfolding outside
inside e h = by (lt_z e (neg_ℤ (pos (2 ^ 31)))) refl (lt_z (pos 2147483647) e) refl h
  where
    by : (s : Bool) → lt_z e (neg_ℤ (pos (2 ^ 31))) ≡ s → (t : Bool) → lt_z (pos 2147483647) e ≡ t → s || t ≡ false → Within 32 e
    by true f t g h = absurd (let z : ◌≡◌ {A = ℕ} 0 1 = cc in omega arith)
    by false f true g h = absurd (let z : ◌≡◌ {A = ℕ} 0 1 = cc in omega arith)
    by false f false g h = record { least = omega (arith, ints); most = omega (arith, ints) }

pub not-outside : (e : ℤ) → Within 32 e → outside e ≡ false
unfolding outside
not-outside e h =
    let f : lt_z e (neg_ℤ (pos (2 ^ 31))) ≡ false = sym (omega (arith, ints)) in
    let g : lt_z (pos 2147483647) e ≡ false = sym (omega (arith, ints)) in
    rw (f, g)

-- the word of an exact result, compared with it
module _ (e whole : ℤ) (word : ℕ) (fe : SFits w64 e) (fw : SFits w64 whole) (ew : word ≡ low 32 e) (es : whole ≡ signed 32 word) where
  is_within : Within 32 whole
  is_within =
      subst (λ z. Within 32 z) (sym es)
      (signed-within 32 word (omega arith) (subst (λ n. n < 2 ^ 32) (sym ew) (low_below 32 e)))

  abbrev pub answer : Kept
  answer = record { word = word; overflow = not (eqb (of_z w64 whole) (of_z w64 e)) }

  same : of_z w64 whole ≡ of_z w64 e → whole ≡ e
  same h = sym (to_z-of_z fw) ∙ ap (to_z w64) h ∙ to_z-of_z fe

  told : (t : Bool) → eqb (of_z w64 whole) (of_z w64 e) ≡ t → outside e ≡ not t
  told true h = not-outside e (subst (λ z. Within 32 z) (same (eqb-true _ _ h)) is_within)
  told false h = by (outside e) refl
    where
      by : (s : Bool) → outside e ≡ s → outside e ≡ true
      by true g = g
      by false g = absurd (eqb-false _ _ h (ap (of_z w64) (es ∙ ap (signed 32) ew ∙ signed_low 32 e (omega arith) (inside e g))))

  pub compared : answer ≡ kept e
  unfolding kept
  compared =
      let f = told (eqb (of_z w64 whole) (of_z w64 e)) refl in
      cc

-- the same exact result, written another way
pub as_told : {e f : ℤ} (r : Kept) → Told e r → e ≡ f → Told f r
as_told {e} {f} r h s = subst (λ z. Told z r) s h
