-- A text that a loop adds to: what it holds so far, and what is left to add.
use Rattle.std.proofs.Common.{◌≡◌, ℕ, ◌+◌, List, [], ◌∷◌, ◌++◌, length, sym, ap, ◌∙◌, subst, append_assoc, append-nil}
use Rattle.report.specs.Lines.{code_text}
use Rattle.report.specs.Listing.{CodeAt, line}
use Rattle.report.specs.Parts.{Covers, Leads}
use Rattle.report.specs.declared.parts.Part.{Part}

-- with any text of the rest, what was added is a text of the whole
abbrev pub Leaves : (List ℕ → Type 0) → (List ℕ → Type 0) → List ℕ → List ℕ → Type 0
Leaves Rest Whole start now = (rest : List ℕ) → Rest rest → (t : List ℕ) × Whole t × (now ++ rest ≡ start ++ t)

-- one text more was added
pub leaves_more : (Rest Next Whole : List ℕ → Type 0) (start now then t : List ℕ) → Leaves Rest Whole start now → then ≡ now ++ t →
    ((rest : List ℕ) → Next rest → Rest (t ++ rest)) → Leaves Next Whole start then
leaves_more Rest Next Whole start now then t left e join rest r =
    let all = left (t ++ rest) (join rest r) in
    (all.0, all.1, ap (λ l. l ++ rest) e ∙ append_assoc now t rest ∙ all.2)

-- nothing is left to add
pub leaves_none : (Rest Whole : List ℕ → Type 0) (start now : List ℕ) → Leaves Rest Whole start now → Rest [] →
    (t : List ℕ) × Whole t × (now ≡ start ++ t)
leaves_none Rest Whole start now left none =
    let all = left [] none in (all.0, all.1, sym (append-nil now) ∙ all.2)

-- the line of the first part, in front of those of the parts after it
pub code_more : (a b : ℕ) (bs after : List ℕ) (p : Part) → Leads a bs p after → b ≡ a + length p.bytes.now →
    (rest : List ℕ) → CodeAt b after rest → CodeAt a bs (line (code_text p) ++ rest)
code_more a b bs after p leads e rest code = (
  p ∷ code.0,
  (after, leads, subst (λ m. Covers m after code.0) e code.1),
  ap (λ l. line (code_text p) ++ l) code.2,
)
