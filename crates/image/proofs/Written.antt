-- How long an image is, and what reading one that was written gives.
use Rattle.std.proofs.Common.{Bool, true, false, not, nat_eq, cond, ◌≡◌, ℕ, ◌+◌, ◌*◌, ◌≤◌, List, [], ◌∷◌, ◌++◌, map, length, sym, refl, ap, ◌∙◌, subst, append-nil, arith, length-append}
use Rattle.std.specs.List.{flat_map}
use Rattle.std.proofs.lemmas.List.{map-append, map_push}
use Rattle.std.proofs.lemmas.List.Elements.{filter-append}
use Rattle.std.proofs.lemmas.List.Filters.{length-filter_both}
use Rattle.image.specs.declared.errors.ReadError.{ReadError}
use Rattle.image.specs.declared.errors.ReadError.TheVariants.{Unreadable, Memory}
use Rattle.image.specs.declared.records.Record.{Record}
use Rattle.image.specs.declared.records.Section.{Section}
use Rattle.image.specs.Format.{number, section_of, written, among, sections, flat, Ordered, block, image, places, stand, bare}
use Rattle.image.specs.Reading.{Fails}
use Rattle.image.specs.Writing.{total, Writable, Writes}
use Rattle.image.proofs.Grammar.{joined-append, length-flat}
use Rattle.image.proofs.Images.{image-is}

-- one record more among those of a section
pub among-push : (s : Section) (rs : List Record) (r : Record) →
    length (among s (rs ++ r ∷ [])) ≡ length (among s rs) + cond (nat_eq (number (section_of r)) (number s)) 1 0
among-push s rs r =
    let own : Record → Bool = λ x. nat_eq (number (section_of x)) (number s) in
    ap length (filter-append own rs (r ∷ [])) ∙ length-append (among s rs) (among s (r ∷ [])) ∙ ap (λ n. length (among s rs) + n) (one (own r))
  where
    one : (b : Bool) → length (cond b (r ∷ []) []) ≡ cond b 1 0
    one true = refl
    one false = refl

-- no section has more records than all together
pub among_few : (s : Section) (rs : List Record) → length (among s rs) ≤ length rs
among_few s rs =
    let own : Record → Bool = λ r. nat_eq (number (section_of r)) (number s) in
    omega (arith, length-filter_both own (λ r. not (own r)) (λ r. refl) rs)

pub total-append : (xs ys : List Record) → total (xs ++ ys) ≡ total xs + total ys
total-append [] ys = omega arith
total-append (x ∷ xs) ys = omega (arith, total-append xs ys)

pub total-push : (rs : List Record) (r : Record) → total (rs ++ r ∷ []) ≡ total rs + length (written r)
total-push rs r = total-append rs (r ∷ []) ∙ omega arith

total-flat : (rs : List Record) → length (flat (map written rs)) ≡ total rs
total-flat [] = refl
total-flat (r ∷ rs) = length-append (written r) (flat (map written rs)) ∙ ap (λ n. length (written r) + n) (total-flat rs)

blocks_size : (rss : List (List Record)) → length (flat (flat_map block rss)) ≡ 2 * length rss + total (flat rss)
blocks_size [] = refl
blocks_size (rs ∷ rss) = omega (arith, length-flat (block rs) (flat_map block rss), total-flat rs, total-append rs (flat rss), blocks_size rss)

pub image-size : (rs : List Record) → Ordered rs → length (image rs) ≡ 10 + total rs
image-size rs h = blocks_size (sections rs) ∙ ap (λ n. 10 + n) (ap total h)

-- one section more of an image
pub written_section : (rs : List Record) (ss ss' : List Section) (s : Section) (old new : List ℕ) → ss' ≡ ss ++ s ∷ [] → old ≡ flat (flat_map block (map (λ t. among t rs) ss)) → new ≡ old ++ flat (block (among s rs))
    → new ≡ flat (flat_map block (map (λ t. among t rs) ss'))
written_section rs ss ss' s old new more sofar e =
    let front = map (λ t. among t rs) ss in
    e ∙ ap (λ l. l ++ flat (block (among s rs))) sofar ∙ sym (joined-append (λ l. l) (flat_map block front) (block (among s rs)))
    ∙ ap flat (ap (λ l. flat_map block front ++ l) (sym (append-nil (block (among s rs)))) ∙ sym (joined-append block front (among s rs ∷ []))
    ∙ ap (flat_map block) (sym (map_push (λ t. among t rs) ss s) ∙ ap (map (λ t. among t rs)) (sym more)))

-- the records that are placed

records-places : (o : ℕ) (rs : List Record) → map (λ x. bare x.«record») (places o rs) ≡ map bare rs
records-places o [] = refl
records-places o (r ∷ rs) = ap (λ l. bare r ∷ l) (records-places (o + length (written r)) rs)

records-stand : (o : ℕ) (rss : List (List Record)) → map (λ x. bare x.«record») (stand o rss) ≡ map bare (flat rss)
records-stand o [] = refl
records-stand o (rs ∷ rss) =
    map-append _ (places (o + 2) rs) (stand (o + length (flat (block rs))) rss)
    ∙ (λ i. records-places (o + 2) rs i ++ records-stand (o + length (flat (block rs))) rss i)
    ∙ sym (map-append bare rs (flat rss))

pub writes : (rs : List Record) (bs : List ℕ) → Writable rs → bs ≡ image rs → Writes rs bs
writes rs bs sound e =
    record {
      writable = sound;
      imaged = e;
      back = λ items got.
          ap (map (λ x. bare x.«record»)) got.listed ∙ records-stand 0 (sections got.records) ∙ ap (map bare) got.ordered
          ∙ image-is got.records rs got.ordered sound.ordered (got.imaged ∙ e);
      taken = not_refused;
    }
  where
    not_refused : (e : ReadError) → Fails bs e → e ≡ Memory
    not_refused (Unreadable o) f = absurd ((f.1 (subst (λ l. length l ≤ 16384) (sym e) sound.fits)).none rs sound.ordered (sym e))
    not_refused Memory f = refl
