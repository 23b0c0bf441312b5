-- The steps to a pattern dimension: what a kept word says of the exact result.
use Rattle.std.proofs.Common.{◌≡◌, ℕ, Bool, true, false, cond, eqb, ℤ, pos, ◌-ℤ◌, ◌*ℤ◌, Some, None, sym, refl, ap, ◌∙◌, arith}
use lib.Signed.{quot_z, rem_z}
use Rattle.words.specs.Division.{Divides, Truncates, quotient_of}
use Rattle.words.specs.Kept.{Told, kept, outside}
use Rattle.words.specs.Wholes.{signed}
use Rattle.words.specs.declared.arithmetic.Kept.{Kept}
use Rattle.shrinkage.specs.Pattern.{divisor_of, product_of}

parts : signed 32 10000 ≡ pos 10000
unfolding signed
parts = refl

pub divisor-is : (s : ℤ) → signed 32 10000 -ℤ s ≡ divisor_of s
divisor-is s = ap (λ z. z -ℤ s) parts

pub product_is : (f : ℤ) → f *ℤ signed 32 10000 ≡ product_of f
product_is f = ap (λ z. f *ℤ z) parts

-- an overflow that is told is the exact result's
pub blamed : (k : Kept) (e : ℤ) {f : ℤ} → k ≡ kept e → e ≡ f → k.overflow ≡ true → outside f ≡ true
unfolding kept
blamed k e h s o = ap outside (sym s) ∙ sym (ap (λ r. r.overflow) h) ∙ o

-- a word that is handed on is the exact result
pub handed : (k : Kept) (e : ℤ) {f : ℤ} (w : ℕ) → Told e k → e ≡ f → (k.overflow ≡ false) × (w ≡ k.word) → signed 32 w ≡ f
handed k e w t s g = ap (signed 32) g.1 ∙ t.0 g.0 ∙ s

pub zero_word : (w : ℕ) {f : ℤ} → signed 32 w ≡ f → w ≡ 0 → f ≡ pos 0
unfolding signed
zero_word w e z = sym e ∙ ap (signed 32) z

-- the quotient of words that have one
pub of_quotient : (n d : ℕ) (k : Kept) → Some k ≡ quotient_of n d → k ≡ kept (quot_z (signed 32 n) (signed 32 d))
of_quotient n d k h = by (eqb d 0) h
  where
    by : (t : Bool) → Some k ≡ cond t None (Some (kept (quot_z (signed 32 n) (signed 32 d)))) → k ≡ kept (quot_z (signed 32 n) (signed 32 d))
    by true e = absurd (let z : ◌≡◌ {A = ℕ} 0 1 = cc in omega arith)
    by false e = cc

pub quotient_is : (n d : ℕ) (f s : ℤ) → signed 32 n ≡ f → signed 32 d ≡ s → quot_z (signed 32 n) (signed 32 d) ≡ quot_z f s
quotient_is n d f s en ed = ap (λ z. quot_z z (signed 32 d)) en ∙ ap (quot_z f) ed

pub divided : (n d p r : ℕ) (f s : ℤ) → signed 32 n ≡ f → signed 32 d ≡ s → Truncates (signed 32 n) (signed 32 d) →
    signed 32 p ≡ quot_z (signed 32 n) (signed 32 d) → signed 32 r ≡ rem_z (signed 32 n) (signed 32 d) → Divides f s (signed 32 p) (signed 32 r)
divided n d p r f s en ed t ep er = rw (ep, er, ← en, ← ed) t.divides
