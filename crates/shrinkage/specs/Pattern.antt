-- Pattern dimensions: fired dimension × 10,000 ÷ (10,000 − shrinkage), in whole numbers.
--
-- | word         | what it is                                                                    |
-- |--------------|-------------------------------------------------------------------------------|
-- | `Exact`      | a kept word is handed on where it is the exact result                         |
-- | `divisor_of` | the exact divisor for a shrinkage                                             |
-- | `product_of` | the exact product for a fired dimension                                       |
-- | `Worked`     | a working has the exact results, and its quotient and rest divide the product |
-- | `Faulted`    | the step that is blamed has no result                                         |
-- | `Pattern`    | what the answer for a fired dimension and a shrinkage says                    |
use Rattle.std.specs.Prelude.{◌≡◌, ℕ, true, false, ℤ, pos, ◌-ℤ◌, ◌*ℤ◌, Ok, Err, Result, int_div}
use Rattle.words.specs.Division.{Divides}
use Rattle.words.specs.Kept.{outside}
use Rattle.words.specs.Wholes.{signed}
use Rattle.words.specs.declared.arithmetic.Kept.{Kept}
use Rattle.shrinkage.specs.declared.pattern.Fault.{Fault}
use Rattle.shrinkage.specs.declared.pattern.Fault.TheVariants.{Overflow, ZeroDivisor}
use Rattle.shrinkage.specs.declared.pattern.Step.{Step}
use Rattle.shrinkage.specs.declared.pattern.Step.TheVariants.{Divisor, Product, Quotient}
use Rattle.shrinkage.specs.declared.pattern.Working.{Working}

abbrev pub Exact : Kept → Step → Result ℕ Fault → Type 0
Exact k s (Ok w) = (k.overflow ≡ false) × (w ≡ k.word)
Exact k s (Err e) = (k.overflow ≡ true) × (e ≡ Overflow s)

-- the exact results of the steps, of a fired dimension f and a shrinkage s
abbrev pub divisor_of : ℤ → ℤ
divisor_of s = pos 10000 -ℤ s

abbrev pub product_of : ℤ → ℤ
product_of f = f *ℤ pos 10000

pub record Worked (f s : ℤ) (w : Working) : Type 0 where
  pub divisor : signed 32 w.divisor ≡ divisor_of s
  pub product : signed 32 w.product ≡ product_of f
  pub pattern : Divides (product_of f) (divisor_of s) (signed 32 w.pattern) (signed 32 w.over)

abbrev pub Faulted : ℤ → ℤ → Fault → Type 0
Faulted f s (Overflow Divisor) = outside (divisor_of s) ≡ true
Faulted f s (Overflow Product) = outside (product_of f) ≡ true
Faulted f s (Overflow Quotient) = outside (int_div (product_of f) (divisor_of s)) ≡ true
Faulted f s ZeroDivisor = divisor_of s ≡ pos 0

abbrev pub Pattern : ℤ → ℤ → Result Working Fault → Type 0
Pattern f s (Ok w) = Worked f s w
Pattern f s (Err e) = Faulted f s e
