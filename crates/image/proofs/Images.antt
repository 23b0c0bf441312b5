-- The five sections of an image.
use Rattle.std.proofs.Common.{◌≡◌, ℕ, ◌-◌, ◌<◌, Bool, true, false, eqb, List, [], ◌∷◌, ◌++◌, map, length, get_or, sym, refl, ap, ◌∙◌, subst, append-nil, arith, length-append}
use Rattle.std.specs.List.{flat_map}
use Rattle.std.proofs.lemmas.List.Elements.{All-head, All-tail, All-weaker, filter-append, filter_passes}
use Rattle.std.proofs.lemmas.Bool.{cond-true, cond-false, eqb-true}
use Rattle.image.specs.declared.records.Record.{Record}
use Rattle.image.specs.declared.records.Section.{Section}
use Rattle.image.specs.declared.records.Section.TheVariants.{Admissions, Grants, Fills, Puts, Runs}
use Rattle.image.specs.Format.{section_of, number, order, among, sections, flat, Ordered, block, parts, image, stand, bare}
use Rattle.image.specs.Reading.{Belong, Image, Farthest, Accepts, Stuck, Reads, Refuses}
use Rattle.image.proofs.Grammar.{farthest_as}
use Rattle.image.proofs.Blocks.{Sectioned, Blocks, sections_are}

-- a section is known from its number
pub number_is : (s t : Section) → number s ≡ number t → s ≡ t
number_is s t e = sym (back s) ∙ ap (λ n. get_or order n Admissions) e ∙ back t
  where
    back : (s : Section) → get_or order (number s) Admissions ≡ s
    back Admissions = refl
    back Grants = refl
    back Fills = refl
    back Puts = refl
    back Runs = refl

among-own : (s : Section) (rs : List Record) → Belong s rs → among s rs ≡ rs
among-own s [] own = refl
among-own s (r ∷ rs) own = cond-true _ _ _ (ap (λ t. eqb (number t) (number s)) (All-head (λ r. section_of r ≡ s) r rs own) ∙ same s) ∙ ap (λ l. r ∷ l) (among-own s rs (All-tail (λ r. section_of r ≡ s) r rs own))
  where
    same : (s : Section) → eqb (number s) (number s) ≡ true
    same Admissions = refl
    same Grants = refl
    same Fills = refl
    same Puts = refl
    same Runs = refl

among_other : (s t : Section) (rs : List Record) → eqb (number t) (number s) ≡ false → Belong t rs → among s rs ≡ []
among_other s t [] apart own = refl
among_other s t (r ∷ rs) apart own = cond-false _ _ _ (ap (λ t. eqb (number t) (number s)) (All-head (λ r. section_of r ≡ t) r rs own) ∙ apart) ∙ among_other s t rs apart (All-tail (λ r. section_of r ≡ t) r rs own)

among-flat : (s : Section) (rss : List (List Record)) → among s (flat rss) ≡ flat_map (among s) rss
among-flat s [] = refl
among-flat s (rs ∷ rss) = filter-append _ rs (flat rss) ∙ ap (λ l. among s rs ++ l) (among-flat s rss)

pub among_belong : (s : Section) (rs : List Record) → Belong s (among s rs)
among_belong s rs =
    let test : Record → Bool = λ r. eqb (number (section_of r)) (number s) in
    All-weaker (λ r. test r ≡ true) (λ r. section_of r ≡ s) (λ r e. number_is (section_of r) s (eqb-true _ _ e)) (among s rs) (filter_passes test rs)

-- sections put together have themselves as their sections
sections-flat : (rss : List (List Record)) → Sectioned order rss → sections (flat rss) ≡ rss
sections-flat (a ∷ g ∷ f ∷ u ∷ e ∷ []) h =
    let ha = h.0 in
    let hg = h.1.0 in
    let hf = h.1.1.0 in
    let hu = h.1.1.1.0 in
    let he = h.1.1.1.1.0 in
    let all = λ (s : Section). among-flat s (a ∷ g ∷ f ∷ u ∷ e ∷ []) in
    let A = all Admissions ∙ (λ i. among-own Admissions a ha i ++ (among_other Admissions Grants g refl hg i ++ (among_other Admissions Fills f refl hf i ++ (among_other Admissions Puts u refl hu i ++ (among_other Admissions Runs e refl he i ++ []))))) ∙ append-nil a in
    let G = all Grants ∙ (λ i. among_other Grants Admissions a refl ha i ++ (among-own Grants g hg i ++ (among_other Grants Fills f refl hf i ++ (among_other Grants Puts u refl hu i ++ (among_other Grants Runs e refl he i ++ []))))) ∙ append-nil g in
    let F = all Fills ∙ (λ i. among_other Fills Admissions a refl ha i ++ (among_other Fills Grants g refl hg i ++ (among-own Fills f hf i ++ (among_other Fills Puts u refl hu i ++ (among_other Fills Runs e refl he i ++ []))))) ∙ append-nil f in
    let U = all Puts ∙ (λ i. among_other Puts Admissions a refl ha i ++ (among_other Puts Grants g refl hg i ++ (among_other Puts Fills f refl hf i ++ (among-own Puts u hu i ++ (among_other Puts Runs e refl he i ++ []))))) ∙ append-nil u in
    let E = all Runs ∙ (λ i. among_other Runs Admissions a refl ha i ++ (among_other Runs Grants g refl hg i ++ (among_other Runs Fills f refl hf i ++ (among_other Runs Puts u refl hu i ++ (among-own Runs e he i ++ []))))) ∙ append-nil e in
    (λ i. A i ∷ G i ∷ F i ∷ U i ∷ E i ∷ [])
sections-flat [] h = absurd h
sections-flat (a ∷ []) h = absurd h.1
sections-flat (a ∷ g ∷ []) h = absurd h.1.1
sections-flat (a ∷ g ∷ f ∷ []) h = absurd h.1.1.1
sections-flat (a ∷ g ∷ f ∷ u ∷ []) h = absurd h.1.1.1.1
sections-flat (a ∷ g ∷ f ∷ u ∷ e ∷ x ∷ rss) h = absurd h.1.1.1.1.1

sections-own : (rs : List Record) → Sectioned order (sections rs)
sections-own rs = (among_belong Admissions rs, (among_belong Grants rs, (among_belong Fills rs, (among_belong Puts rs, (among_belong Runs rs, tt)))))

to_image : (ps : List (List ℕ)) → Blocks order ps → Image ps
to_image ps l = let same = sections-flat l.0 l.1 in (flat l.0, ap flat same, l.2 ∙ ap (flat_map block) (sym same))

to_blocks : (ps : List (List ℕ)) → Image ps → Blocks order ps
to_blocks ps l = (sections l.0, sections-own l.0, l.2)

-- two lists of records with the same image are the same
pub image-is : (xs ys : List Record) → Ordered xs → Ordered ys → image xs ≡ image ys → map bare xs ≡ map bare ys
image-is xs ys h k e =
    ap (map bare) (sym h) ∙ (sections_are order (sections xs) (sections ys) [] [] (sections-own xs) (sections-own ys) (ap (λ l. l ++ []) e)).1 ∙ ap (map bare) k

pub reads : (bs : List ℕ) (rss : List (List Record)) (rest : List ℕ) → Sectioned order rss → Accepts (Blocks order) bs (flat_map block rss) rest → rest ≡ [] → Reads bs (stand 0 rss)
reads bs rss rest own all over =
    let same = sections-flat rss own in
    let ordered : Ordered (flat rss) = ap flat same in
    let whole : image (flat rss) ≡ bs = ap (λ l. flat (flat_map block l)) same ∙ sym (append-nil _) ∙ ap (λ l. flat (flat_map block rss) ++ l) (sym over) ∙ sym all.front in
    record {
      records = flat rss;
      ordered = ordered;
      imaged = whole;
      listed = ap (stand 0) (sym same);
      only = λ others h e. image-is others (flat rss) h ordered (e ∙ sym whole);
    }

pub refuses_stuck : (bs : List ℕ) (d : ℕ) → Stuck (Blocks order) bs d → Refuses bs d
refuses_stuck bs d stuck =
    record {
      far = farthest_as to_image to_blocks stuck.far;
      none = λ rs h e. stuck.none (parts rs) [] (sections rs, sections-own rs, refl) (sym e ∙ sym (append-nil _));
    }

-- all sections are there, and bytes are left over
pub refuses_rest : (bs : List ℕ) (rss : List (List Record)) (rest : List ℕ) → Sectioned order rss → Accepts (Blocks order) bs (flat_map block rss) rest → 0 < length rest → Refuses bs (length bs - length rest)
refuses_rest bs rss rest own all more =
    let size : length (flat (flat_map block rss)) ≡ length bs - length rest = omega (arith, ap length all.front, length-append (flat (flat_map block rss)) rest) in
    record {
      far = subst (Farthest Image bs) size (farthest_as to_image to_blocks all.far);
      none = λ rs h e.
          let same = (sections_are order (sections rs) rss [] rest (sections-own rs) own (append-nil _ ∙ e ∙ all.front)).2 in
          omega (arith, ap length same);
    }
