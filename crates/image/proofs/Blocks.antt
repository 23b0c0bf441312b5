-- A section, and several sections.
use Rattle.std.proofs.Common.{◌≡◌, ℕ, ◌+◌, ◌/◌, ◌%◌, ◌<◌, List, [], ◌∷◌, ◌++◌, map, length, replicate, sym, refl, ap, ◌∙◌, subst, append-nil, arith}
use lib.ListN.{length-replicate}
use Rattle.std.specs.List.{flat_map}
use Rattle.std.proofs.lemmas.List.{map-append}
use Rattle.std.proofs.lemmas.List.Elements.{All-nil}
use Rattle.image.specs.declared.records.Record.{Record}
use Rattle.image.specs.declared.records.Section.{Section}
use Rattle.image.specs.Format.{half, written, section_of, flat, block, bare}
use Rattle.image.specs.Reading.{Belong, Lists, Several, Block, Accepts, Stuck}
use Rattle.image.proofs.Grammar.{Single, beyond, joined-append, accepts_on, stuck_on, stuck_in}
use Rattle.image.proofs.Several.{One, accepts_one, stuck_one, blanks_own, blank, records_are}

-- a count

half_is : (m n : ℕ) (a b : List ℕ) → half m ++ a ≡ half n ++ b → (m ≡ n) × (a ≡ b)
half_is m n a b e =
    let high : m / 256 ≡ n / 256 = cc in
    let low : m % 256 ≡ n % 256 = cc in
    let rest : a ≡ b = cc in
    (omega arith, rest)

abbrev Any : ℕ → Type 0
Any n = Unit {0}

abbrev Count : List (List ℕ) → Type 0
Count = One Any half

count_single : Single Count
count_single ps qs a b p q e =
    p.2 ∙ ap (λ n. half n ∷ []) (half_is p.0 q.0 a b (sym (ap (λ x. flat x ++ a) p.2) ∙ e ∙ ap (λ x. flat x ++ b) q.2)).0 ∙ sym q.2

-- a section

module _ (s : Section) where
  pub blocks_are : (xs ys : List Record) (a b : List ℕ) → Belong s xs → Belong s ys → flat (block xs) ++ a ≡ flat (block ys) ++ b → (block xs ≡ block ys) × (map bare xs ≡ map bare ys) × (a ≡ b)
  blocks_are xs ys a b p q e =
      let count = half_is (length xs) (length ys) _ _ e in
      let more = records_are s xs ys a b p q count.0 count.1 in
      ((λ i. half (count.0 i) ∷ more.0 i), more.1, more.2)

  joins_block : (n : ℕ) (q : List (List ℕ)) → Several s n q → Block s (half n ∷ q)
  joins_block n q l = (l.0, l.1.0, (λ i. half (sym l.1.1 i) ∷ l.2 i))

  splits_block : (n : ℕ) (ps : List (List ℕ)) → Block s ps → (q : List (List ℕ)) × (q' : List (List ℕ)) × Count q × (ps ≡ q ++ q') × (q ≡ half n ∷ [] → Several s n q')
  splits_block n ps l =
      let rs = l.0 in
      (half (length rs) ∷ [], map written rs, (length rs, tt, refl), l.2, λ same. (rs, (l.1, (half_is (length rs) n [] [] (ap flat same)).0), refl))

  counted : (n : ℕ) {bs rest : List ℕ} → bs ≡ half n ++ rest → Accepts Count bs (half n ∷ []) rest
  counted n e = accepts_one Any half n tt e (λ m left _ f. refl)

  pub block_on : (n : ℕ) {bs rest after : List ℕ} {ps : List (List ℕ)} → bs ≡ half n ++ rest → Accepts (Several s n) rest ps after → Accepts (Block s) bs (half n ∷ ps) after
  block_on n e next = accepts_on Count (Several s n) (Block s) count_single (half n ∷ []) (joins_block n) (splits_block n) (counted n e) next

  pub block_stuck : (n : ℕ) {bs rest : List ℕ} {d : ℕ} → bs ≡ half n ++ rest → Stuck (Several s n) rest d → Stuck (Block s) bs (2 + d)
  block_stuck n e next = stuck_on Count (Several s n) (Block s) count_single (half n ∷ []) (joins_block n) (splits_block n) (counted n e) next

  pub block-short : {bs : List ℕ} → length bs < 2 → Stuck (Block s) bs 0
  block-short h =
      stuck_in Count (Block s)
      (λ q l.
      let rs = replicate l.0 (blank s) in
      (map written rs, (rs, blanks_own s l.0, (λ i. l.2 i ++ map written rs) ∙ ap (λ n. half n ∷ map written rs) (sym (length-replicate l.0 (blank s))))))
      (λ ps l. (half (length l.0) ∷ [], map written l.0, (length l.0, tt, refl), l.2))
      (stuck_one Any half 0 tt (λ n rest _ e. omega (arith, ap length e)))

-- several sections

abbrev pub Sectioned : List Section → List (List Record) → Type 0
Sectioned [] [] = Unit {0}
Sectioned [] (rs ∷ rss) = ⊥
Sectioned (s ∷ ss) [] = ⊥
Sectioned (s ∷ ss) (rs ∷ rss) = Belong s rs × Sectioned ss rss

abbrev pub Blocks : List Section → List (List ℕ) → Type 0
Blocks ss = Lists (Sectioned ss) (flat_map block)

paste : (ss ss' : List Section) (a b : List (List Record)) → Sectioned ss a → Sectioned ss' b → Sectioned (ss ++ ss') (a ++ b)
paste [] ss' [] b h k = k
paste [] ss' (rs ∷ a) b h k = absurd h
paste (s ∷ ss) ss' [] b h k = absurd h
paste (s ∷ ss) ss' (rs ∷ a) b h k = (h.0, paste ss ss' a b h.1 k)

cut : (ss ss' : List Section) (rss : List (List Record)) → Sectioned (ss ++ ss') rss → (a : List (List Record)) × (b : List (List Record)) × Sectioned ss a × Sectioned ss' b × (rss ≡ a ++ b)
cut [] ss' rss h = ([], rss, tt, h, refl)
cut (s ∷ ss) ss' [] h = absurd h
cut (s ∷ ss) ss' (rs ∷ rss) h = let w = cut ss ss' rss h.1 in (rs ∷ w.0, w.1, (h.0, w.2), w.3, ap (λ l. rs ∷ l) w.4)

empty : (ss : List Section) → (rss : List (List Record)) × Sectioned ss rss
empty [] = ([], tt)
empty (s ∷ ss) = let w = empty ss in ([] ∷ w.0, (All-nil (λ r. section_of r ≡ s), w.1))

-- equal bytes are of the same sections
pub sections_are : (ss : List Section) (xss yss : List (List Record)) (a b : List ℕ) → Sectioned ss xss → Sectioned ss yss → flat (flat_map block xss) ++ a ≡ flat (flat_map block yss) ++ b
    → (flat_map block xss ≡ flat_map block yss) × (map bare (flat xss) ≡ map bare (flat yss)) × (a ≡ b)
sections_are [] [] [] a b h k e = (refl, refl, e)
sections_are [] [] (ys ∷ yss) a b h k e = absurd k
sections_are [] (xs ∷ xss) yss a b h k e = absurd h
sections_are (s ∷ ss) [] yss a b h k e = absurd h
sections_are (s ∷ ss) (xs ∷ xss) [] a b h k e = absurd k
sections_are (s ∷ ss) (xs ∷ xss) (ys ∷ yss) a b h k e =
    let one = blocks_are s xs ys _ _ h.0 k.0 (sym (beyond (block xs) (flat_map block xss) a) ∙ e ∙ beyond (block ys) (flat_map block yss) b) in
    let more = sections_are ss xss yss a b h.1 k.1 one.2 in (
      (λ i. one.0 i ++ more.0 i),
      map-append bare xs (flat xss) ∙ (λ i. one.1 i ++ more.1 i) ∙ sym (map-append bare ys (flat yss)),
      more.2,
    )

blocks_single : (ss : List Section) → Single (Blocks ss)
blocks_single ss ps qs a b p q e = p.2 ∙ (sections_are ss p.0 q.0 a b p.1 q.1 (sym (ap (λ x. flat x ++ a) p.2) ∙ e ∙ ap (λ x. flat x ++ b) q.2)).0 ∙ sym q.2

pub blocks_none : (bs : List ℕ) → Accepts (Blocks []) bs [] bs
blocks_none bs =
    record {
      listed = ([], tt, refl);
      front = refl;
      far = record {
        reached = record { before = []; after = []; listed = ([], tt, refl); rest = bs; front = refl; long = refl };
        most = λ e r. omega (arith, nothing r.before r.after r.listed, r.long);
      };
    }
  where
    nothing : (before after : List (List ℕ)) → Blocks [] (before ++ after) → length (flat before) ≡ 0
    nothing [] after l = refl
    nothing (x ∷ before) after ([], own, e) = absurd (omega (arith, ap length e))
    nothing (x ∷ before) after (rs ∷ rss, own, e) = absurd own

module _ (ss : List Section) (s : Section) (rss : List (List Record)) (owns : Sectioned ss rss) where
  pub owns_more : (rs : List Record) → Belong s rs → Sectioned (ss ++ s ∷ []) (rss ++ rs ∷ [])
  owns_more rs own = paste ss (s ∷ []) rss (rs ∷ []) owns (own, tt)

  pub joined-block : (rs : List Record) → flat_map block rss ++ block rs ≡ flat_map block (rss ++ rs ∷ [])
  joined-block rs = ap (λ l. flat_map block rss ++ l) (sym (append-nil (block rs))) ∙ sym (joined-append block rss (rs ∷ []))

  joins_blocks : (q : List (List ℕ)) → Block s q → Blocks (ss ++ s ∷ []) (flat_map block rss ++ q)
  joins_blocks q l = (rss ++ l.0 ∷ [], owns_more l.0 l.1, ap (λ x. flat_map block rss ++ x) l.2 ∙ joined-block l.0)

  splits_blocks : (ps : List (List ℕ)) → Blocks (ss ++ s ∷ []) ps → (q : List (List ℕ)) × (q' : List (List ℕ)) × Blocks ss q × (ps ≡ q ++ q') × (q ≡ flat_map block rss → Block s q')
  splits_blocks ps l =
      let w = cut ss (s ∷ []) l.0 l.1 in
      go w.0 w.1 w.2 w.3 (l.2 ∙ ap (flat_map block) w.4 ∙ joined-append block w.0 w.1)
    where
      go : (a b : List (List Record)) → Sectioned ss a → Sectioned (s ∷ []) b → ps ≡ flat_map block a ++ flat_map block b
          → (q : List (List ℕ)) × (q' : List (List ℕ)) × Blocks ss q × (ps ≡ q ++ q') × (q ≡ flat_map block rss → Block s q')
      go a [] h k e = absurd k
      go a (rs ∷ []) h k e = (flat_map block a, block rs ++ [], (a, h, refl), e, λ _. (rs, k.0, append-nil (block rs)))
      go a (rs ∷ rs' ∷ b) h k e = absurd k.1

  module _ {bs rest : List ℕ} (first : Accepts (Blocks ss) bs (flat_map block rss) rest) where
    pub blocks_on : {after : List ℕ} (rs : List Record) → Accepts (Block s) rest (block rs) after → Accepts (Blocks (ss ++ s ∷ [])) bs (flat_map block (rss ++ rs ∷ [])) after
    blocks_on {after} rs next =
        subst (λ ps. Accepts (Blocks (ss ++ s ∷ [])) bs ps after) (joined-block rs)
        (accepts_on (Blocks ss) (Block s) (Blocks (ss ++ s ∷ [])) (blocks_single ss) (flat_map block rss) joins_blocks splits_blocks first next)

    pub blocks_stuck : {d : ℕ} (later : List Section) → Stuck (Block s) rest d → Stuck (Blocks ((ss ++ s ∷ []) ++ later)) bs (length (flat (flat_map block rss)) + d)
    blocks_stuck later next =
        stuck_in (Blocks (ss ++ s ∷ [])) (Blocks ((ss ++ s ∷ []) ++ later))
        (λ q l.
        let more = empty later in
        (flat_map block more.0, (l.0 ++ more.0, paste (ss ++ s ∷ []) later l.0 more.0 l.1 more.1, (λ i. l.2 i ++ flat_map block more.0) ∙ sym (joined-append block l.0 more.0))))
        (λ ps l.
        let w = cut (ss ++ s ∷ []) later l.0 l.1 in
        (flat_map block w.0, flat_map block w.1, (w.0, w.2, refl), l.2 ∙ ap (flat_map block) w.4 ∙ joined-append block w.0 w.1))
        (stuck_on (Blocks ss) (Block s) (Blocks (ss ++ s ∷ [])) (blocks_single ss) (flat_map block rss) joins_blocks splits_blocks first next)
