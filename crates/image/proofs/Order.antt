-- Records are in the order of the sections where the numbers of their sections do not fall.
use Rattle.std.proofs.Common.{◌≡◌, ◌↔◌, ℕ, zero, suc, ◌+◌, ◌<◌, ◌≤◌, Bool, true, false, IsTrue, leb, List, [], ◌∷◌, ◌++◌, length, get_or, sym, refl, ap, ◌∙◌, subst, true≢false, arith}
use Rattle.std.specs.List.{AllAdjacentBelow, IsAllAdjacentAnswer}
use Rattle.std.specs.Ordering.{partial_le}
use Rattle.std.proofs.lemmas.List.Elements.{All-head, All-tail}
use Rattle.std.proofs.lemmas.Bool.{cond-false, ne_eqb, leb-true, le-leb}
use Rattle.image.specs.contracts.records.SectionPartialOrd.TheImpl.{partial_cmp-value}
use Rattle.image.specs.declared.records.Record.{Record}
use Rattle.image.specs.declared.records.Record.TheVariants.{Admit, Grant, Fill, Put, Run}
use Rattle.image.specs.declared.records.Section.{Section}
use Rattle.image.specs.declared.records.Section.TheVariants.{Admissions, Grants, Fills, Puts, Runs}
use Rattle.image.specs.Format.{section_of, number, among, Ordered}
use Rattle.image.specs.Reading.{Belong}
use Rattle.image.proofs.Images.{among_belong}
use Rattle.image.proofs.Several.{blank}

abbrev pub Up : ℕ → List Record → Type 0
Up m [] = Unit {0}
Up m (r ∷ rs) = (m ≤ number (section_of r)) × Up (number (section_of r)) rs

up_weaker : (m n : ℕ) (rs : List Record) → m ≤ n → Up n rs → Up m rs
up_weaker m n [] h up = tt
up_weaker m n (r ∷ rs) h up = (omega (arith, up.0), up.1)

-- no record belongs to a section before all of theirs
none_before : (s : Section) (m : ℕ) (rs : List Record) → number s < m → Up m rs → among s rs ≡ []
none_before s m [] h up = refl
none_before s m (r ∷ rs) h up = cond-false _ _ _ (ne_eqb (number (section_of r)) (number s) (λ e. omega (arith, up.0))) ∙ none_before s (number (section_of r)) rs (omega (arith, up.0)) up.1

pub ordered_up : (m : ℕ) (rs : List Record) → Up m rs → Ordered rs
ordered_up m [] up = refl
ordered_up m (Admit x ∷ rs) up = ap (λ l. Admit x ∷ l) (ordered_up 0 rs up.1)
ordered_up m (Grant x ∷ rs) up =
    let a = none_before Admissions 1 rs (omega arith) up.1 in
    let left = among Grants rs ++ (among Fills rs ++ (among Puts rs ++ (among Runs rs ++ []))) in
    (λ i. a i ++ Grant x ∷ left) ∙ ap (λ l. Grant x ∷ l) (sym (λ i. a i ++ left) ∙ ordered_up 1 rs up.1)
ordered_up m (Fill x ∷ rs) up =
    let a = none_before Admissions 2 rs (omega arith) up.1 in
    let b = none_before Grants 2 rs (omega arith) up.1 in
    let left = among Fills rs ++ (among Puts rs ++ (among Runs rs ++ [])) in
    (λ i. a i ++ (b i ++ Fill x ∷ left)) ∙ ap (λ l. Fill x ∷ l) (sym (λ i. a i ++ (b i ++ left)) ∙ ordered_up 2 rs up.1)
ordered_up m (Put x ∷ rs) up =
    let a = none_before Admissions 3 rs (omega arith) up.1 in
    let b = none_before Grants 3 rs (omega arith) up.1 in
    let c = none_before Fills 3 rs (omega arith) up.1 in
    let left = among Puts rs ++ (among Runs rs ++ []) in
    (λ i. a i ++ (b i ++ (c i ++ Put x ∷ left))) ∙ ap (λ l. Put x ∷ l) (sym (λ i. a i ++ (b i ++ (c i ++ left))) ∙ ordered_up 3 rs up.1)
ordered_up m (Run x ∷ rs) up =
    let a = none_before Admissions 4 rs (omega arith) up.1 in
    let b = none_before Grants 4 rs (omega arith) up.1 in
    let c = none_before Fills 4 rs (omega arith) up.1 in
    let d = none_before Puts 4 rs (omega arith) up.1 in
    let left = among Runs rs ++ [] in
    (λ i. a i ++ (b i ++ (c i ++ (d i ++ Run x ∷ left)))) ∙ ap (λ l. Run x ∷ l) (sym (λ i. a i ++ (b i ++ (c i ++ (d i ++ left)))) ∙ ordered_up 4 rs up.1)

up_block : (s : Section) (m : ℕ) (xs ys : List Record) → m ≤ number s → Belong s xs → Up (number s) ys → Up m (xs ++ ys)
up_block s m [] ys h own up = up_weaker m (number s) ys h up
up_block s m (x ∷ xs) ys h own up =
    let same = ap number (sym (All-head (λ r. section_of r ≡ s) x xs own)) in
    (subst (λ n. m ≤ n) same h, subst (λ n. Up n (xs ++ ys)) same (up_block s (number s) xs ys (omega arith) (All-tail (λ r. section_of r ≡ s) x xs own) up))

pub up_ordered : (rs : List Record) → Ordered rs → Up 0 rs
up_ordered rs h =
    subst (Up 0) h
    (up_block Admissions 0 _ _ (omega arith) (among_belong Admissions rs)
    (up_block Grants 0 _ _ (omega arith) (among_belong Grants rs)
    (up_block Fills 1 _ _ (omega arith) (among_belong Fills rs)
    (up_block Puts 2 _ _ (omega arith) (among_belong Puts rs)
    (up_block Runs 3 _ [] (omega arith) (among_belong Runs rs) tt)))))

-- the derived order of the sections is that of their numbers
abbrev pub rises : Section → Section → Bool
rises s t = partial_le partial_cmp-value.it s t

rises_is : (s t : Section) → rises s t ≡ leb (number s) (number t)
rises_is Admissions Admissions = refl
rises_is Admissions Grants = refl
rises_is Admissions Fills = refl
rises_is Admissions Puts = refl
rises_is Admissions Runs = refl
rises_is Grants Admissions = refl
rises_is Grants Grants = refl
rises_is Grants Fills = refl
rises_is Grants Puts = refl
rises_is Grants Runs = refl
rises_is Fills Admissions = refl
rises_is Fills Grants = refl
rises_is Fills Fills = refl
rises_is Fills Puts = refl
rises_is Fills Runs = refl
rises_is Puts Admissions = refl
rises_is Puts Grants = refl
rises_is Puts Fills = refl
rises_is Puts Puts = refl
rises_is Puts Runs = refl
rises_is Runs Admissions = refl
rises_is Runs Grants = refl
rises_is Runs Fills = refl
rises_is Runs Puts = refl
rises_is Runs Runs = refl

-- the answer of a test of neighbours
abbrev pub Rising : Record → Record → Bool → Type 0
Rising x y b = b ≡ rises (section_of x) (section_of y)

up_pairs : (r : Record) (rs : List Record) → AllAdjacentBelow (λ x y. Rising x y true) (r ∷ rs) (length (r ∷ rs)) → Up (number (section_of r)) rs
up_pairs r [] h = tt
up_pairs r (q ∷ rs) h =
    let far : (k : ℕ) → suc k + 1 ≡ suc (k + 1) = λ k. omega arith in
    let next = λ (k : ℕ) (d : Record) (l : k + 1 < length (q ∷ rs)). subst (λ j. Rising (get_or (q ∷ rs) k d) (get_or (r ∷ q ∷ rs) j d) true) (far k) (h (suc k) d (omega arith)) in
    (leb-true _ _ (sym (rises_is (section_of r) (section_of q)) ∙ sym (h 0 r (omega arith))), up_pairs q rs next)

pairs_up : (k j m : ℕ) (rs : List Record) (d : Record) → j ≡ k + 1 → j < length rs → Up m rs → number (section_of (get_or rs k d)) ≤ number (section_of (get_or rs j d))
pairs_up k j m [] d e h up = absurd (omega arith)
pairs_up k zero m (x ∷ rs) d e h up = absurd (omega arith)
pairs_up zero (suc j) m (x ∷ []) d e h up = absurd (omega arith)
pairs_up zero (suc zero) m (x ∷ y ∷ rs) d e h up = up.1.0
pairs_up zero (suc (suc j)) m (x ∷ y ∷ rs) d e h up = absurd (omega arith)
pairs_up (suc k) (suc j) m (x ∷ rs) d e h up = pairs_up k j (number (section_of x)) rs d (omega arith) (omega arith) up.1

pub in_order_is : (rs : List Record) (b : Bool) → IsAllAdjacentAnswer Rising rs b → IsTrue b ↔ Ordered rs
in_order_is rs true h = (λ _. ordered_up 0 rs (up rs h), λ _. refl)
  where
    up : (rs : List Record) → AllAdjacentBelow (λ x y. Rising x y true) rs (length rs) → Up 0 rs
    up [] h = tt
    up (r ∷ rs) h = (omega arith, up_pairs r rs h)
in_order_is rs false h = (
  λ e. absurd (true≢false (sym e)),
  λ ordered.
      let pair = pairs_up h.0 (h.0 + 1) 0 rs (blank Admissions) refl h.1 (up_ordered rs ordered) in
      absurd (true≢false (sym (le-leb _ _ pair) ∙ sym (rises_is _ _) ∙ sym (h.2 (blank Admissions)))),
)
