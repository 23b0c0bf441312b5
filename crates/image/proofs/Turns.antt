-- What the turns of the two loops keep.
use Rattle.std.proofs.Common.{◌≡◌, ℕ, ◌+◌, ◌-◌, ◌<◌, ◌≤◌, List, [], ◌∷◌, ◌++◌, map, length, Ok, Err, Result, IfOk, MatchResult, vec_items, sym, refl, ap, ◌∙◌, subst, append_assoc, append-nil, arith, length-append}
use Rattle.std.specs.List.{flat_map}
use Rattle.image.specs.declared.errors.ReadError.TheVariants.{Unreadable, Memory}
use Rattle.std.specs.Result.{IsErrAnd}
use Rattle.std.proofs.lemmas.List.{length_push, nil_from_length}
use Rattle.std.proofs.lemmas.List.Elements.{All-nil, All-push}
use Rattle.std.proofs.lemmas.Result.{IfOk-weaker}
use Rattle.image.specs.declared.errors.ReadError.{ReadError}
use Rattle.image.specs.declared.reader.Reader.{Reader}
use Rattle.image.specs.declared.records.Placed.{Placed}
use Rattle.image.specs.declared.records.Record.{Record}
use Rattle.image.specs.declared.records.Section.{Section}
use Rattle.image.specs.Format.{half, written, section_of, order, flat, block, places, stand}
use Rattle.image.specs.Reading.{Belong, Several, Block, Accepts, Stuck, Began, Stored, Took, Reads, Refuses, Fails, offset_of}
use Rattle.image.proofs.Grammar.{length-flat}
use Rattle.image.proofs.Images.{reads, refuses_stuck, refuses_rest}
use Rattle.image.proofs.Several.{several_none, several_more, several_stuck}
use Rattle.image.proofs.Blocks.{Sectioned, Blocks, block_on, block_stuck, blocks_none, owns_more, blocks_on, blocks_stuck}

places_push : (o : ℕ) (rs : List Record) (r : Record) → places o (rs ++ r ∷ []) ≡ places o rs ++ record { offset = o + length (flat (map written rs)); «record» = r } ∷ []
places_push o [] r = let e : o ≡ o + 0 = omega arith in (λ i. record { offset = e i; «record» = r } ∷ [])
places_push o (x ∷ rs) r =
    let e : o + length (written x) + length (flat (map written rs)) ≡ o + length (written x ++ flat (map written rs)) = omega (arith, length-append (written x) (flat (map written rs))) in
    ap (λ l. record { offset = o; «record» = x } ∷ l) (places_push (o + length (written x)) rs r ∙ (λ i. places (o + length (written x)) rs ++ record { offset = e i; «record» = r } ∷ []))

stand_push : (o : ℕ) (rss : List (List Record)) (rs : List Record) → stand o (rss ++ rs ∷ []) ≡ stand o rss ++ places (o + length (flat (flat_map block rss)) + 2) rs
stand_push o [] rs = let e : o + 2 ≡ o + 0 + 2 = omega arith in append-nil _ ∙ ap (λ n. places n rs) e
stand_push o (x ∷ rss) rs =
    let e : o + length (flat (block x)) + length (flat (flat_map block rss)) + 2 ≡ o + length (flat (block x ++ flat_map block rss)) + 2 = omega (arith, length-flat (block x) (flat_map block rss)) in
    ap (λ l. places (o + 2) x ++ l) (stand_push (o + length (flat (block x))) rss rs) ∙ sym (append_assoc (places (o + 2) x) _ _)
    ∙ ap (λ n. (places (o + 2) x ++ stand (o + length (flat (block x))) rss) ++ places n rs) e

-- what is kept of a list in case of success, and additions one after another
module _ {V E : Type 0} (items : V → List Placed) where
  abbrev Kept : Result V E → Result V E → List Placed → Type 0
  Kept old new xs = IfOk new (λ w. MatchResult old (λ v. items w ≡ items v ++ xs) (λ e. ⊥))

  kept_none : (r : Result V E) → Kept r r []
  kept_none (Ok v) = sym (append-nil (items v))
  kept_none (Err e) = tt

  kept_on : (old mid new : Result V E) (xs ys zs : List Placed) → Kept old mid xs → Kept mid new ys → xs ++ ys ≡ zs → Kept old new zs
  kept_on old mid (Err e) xs ys zs p q f = tt
  kept_on old (Err e) (Ok w) xs ys zs p q f = absurd q
  kept_on (Err e) (Ok v) (Ok w) xs ys zs p q f = absurd p
  kept_on (Ok u) (Ok v) (Ok w) xs ys zs p q f = q ∙ ap (λ l. l ++ ys) p ∙ append_assoc (items u) xs ys ∙ ap (λ l. items u ++ l) f

  kept_begun : (r : Result V E) → MatchResult r (λ v. items v ≡ []) (λ e. ⊥) → IfOk r (λ v. items v ≡ [])
  kept_begun (Ok v) h = h
  kept_begun (Err e) h = absurd h

  listed_on : (old new : Result V E) (a xs b : List Placed) → IfOk old (λ v. items v ≡ a) → Kept old new xs → a ++ xs ≡ b → IfOk new (λ w. items w ≡ b)
  listed_on old (Err e) a xs b p q f = tt
  listed_on (Err e) (Ok w) a xs b p q f = absurd q
  listed_on (Ok v) (Ok w) a xs b p q f = q ∙ ap (λ l. l ++ xs) p ∙ f

-- n records of a section are taken off the bytes of a reader
pub record Sofar (s : Section) (n : ℕ) (old new : Reader) : Type 0 where
  pub taken : List Record
  pub own : Belong s taken
  pub count : length taken ≡ n
  pub size : new.size ≡ old.size
  pub listed : Stored old new (places (offset_of old) taken)
  pub all : Accepts (Several s n) old.rest.now (map written taken) new.rest.now

pub sofar_none : (s : Section) (old : Reader) → Sofar s 0 old old
sofar_none s old =
    record { taken = []; own = All-nil (λ r. section_of r ≡ s); count = refl; size = refl; listed = kept_none vec_items old.records; all = several_none s old.rest.now }

module _ {s : Section} {n : ℕ} {old new : Reader} (h : Sofar s n old new) where
  span : offset_of new ≡ offset_of old + length (flat (map written h.taken))
  span = omega (arith, old.within, h.size, ap length h.all.front, length-append (flat (map written h.taken)) new.rest.now)

  pub sofar_more : (r : Record) (next : Reader) → section_of r ≡ s → new.rest.now ≡ written r ++ next.rest.now → next.size ≡ new.size → Stored new next (record { offset = offset_of new; «record» = r } ∷ [])
      → Sofar s (n + 1) old next
  sofar_more r next own e size pushed =
      record {
        taken = h.taken ++ r ∷ [];
        own = All-push (λ r. section_of r ≡ s) h.taken r h.own own;
        count = length_push h.taken r ∙ ap (λ m. m + 1) h.count;
        size = size ∙ h.size;
        listed = kept_on vec_items old.records new.records next.records (places (offset_of old) h.taken) (record { offset = offset_of new; «record» = r } ∷ []) _ h.listed pushed
            ((λ i. places (offset_of old) h.taken ++ record { offset = span i; «record» = r } ∷ []) ∙ sym (places_push (offset_of old) h.taken r));
        all = several_more s h.taken r h.count h.own own e h.all;
      }

  pub sofar_stuck : (c : ℕ) (e : ReadError) → n < c → ((r : Record) (left : List ℕ) → section_of r ≡ s → new.rest.now ≡ written r ++ left → ⊥) → e ≡ Unreadable (offset_of new)
      → (d : ℕ) × (e ≡ Unreadable (offset_of old + d)) × Stuck (Several s c) old.rest.now d
  sofar_stuck c e less never is =
      let far : offset_of new ≡ offset_of old + (length (flat (map written h.taken)) + 0) = omega (arith, span) in
      (length (flat (map written h.taken)) + 0, is ∙ ap (λ o. Unreadable o) far, several_stuck s h.taken h.count h.own less never h.all)

  pub sofar_all : (c : ℕ) → n ≡ c → (rs : List Record) × (Belong s rs × (length rs ≡ c)) × (new.size ≡ old.size) × Stored old new (places (offset_of old + 0) rs) × Accepts (Several s c) old.rest.now (map written rs) new.rest.now
  sofar_all c e =
      let start : offset_of old ≡ offset_of old + 0 = omega arith in
      (h.taken, (h.own, h.count ∙ e), h.size, subst (λ o. Stored old new (places o h.taken)) start h.listed, subst (λ m. Accepts (Several s m) old.rest.now (map written h.taken) new.rest.now) e h.all)

-- a count of n, and then n records
pub section_took : (s : Section) (n : ℕ) (old mid new : Reader) (r : Result (Unit {0}) ReadError) → old.rest.now ≡ half n ++ mid.rest.now → mid.size ≡ old.size → mid.records ≡ old.records
    → Took (λ rs. Belong s rs × (length rs ≡ n)) (map written) 0 mid new r → Took (Belong s) block 2 old new r
section_took s n old mid new (Ok u) e size same w =
    let here : offset_of mid + 0 ≡ offset_of old + 2 = omega (arith, old.within, size, ap length e) in (
      w.0,
      w.1.0,
      w.2 ∙ size,
      subst (λ x. Kept vec_items x new.records (places (offset_of old + 2) w.0)) same (subst (λ o. Stored mid new (places o w.0)) here w.3),
      subst (λ m. Accepts (Block s) old.rest.now (half m ∷ map written w.0) new.rest.now) (sym w.1.1) (block_on s n e w.4),
    )
section_took s n old mid new (Err x) e size same w =
    let here : offset_of mid + w.0 ≡ offset_of old + (2 + w.0) = omega (arith, old.within, size, ap length e) in
    (2 + w.0, w.1 ∙ ap (λ o. Unreadable o) here, block_stuck s n e w.2)

-- some sections are taken off the bytes of an image
pub record Walked (ss : List Section) (bs : List ℕ) (now : Reader) : Type 0 where
  pub taken : List (List Record)
  pub own : Sectioned ss taken
  pub size : now.size ≡ length bs
  pub listed : IfOk now.records (λ v. vec_items v ≡ stand 0 taken)
  pub all : Accepts (Blocks ss) bs (flat_map block taken) now.rest.now

pub walked_none : (bs : List ℕ) (now : Reader) → Began bs now → Walked [] bs now
walked_none bs now h = record { taken = []; own = tt; size = h.size; listed = kept_begun vec_items now.records h.none; all = subst (Accepts (Blocks []) bs []) (sym h.rest) (blocks_none bs) }

module _ {ss : List Section} {bs : List ℕ} {now : Reader} (h : Walked ss bs now) where
  reach : offset_of now ≡ length (flat (flat_map block h.taken))
  reach = omega (arith, h.size, ap length h.all.front, length-append (flat (flat_map block h.taken)) now.rest.now)

  pub walked_more : (s : Section) (ss' : List Section) (next : Reader) → ss' ≡ ss ++ s ∷ [] → Took (Belong s) block 2 now next (Ok tt) → Walked ss' bs next
  walked_more s ss' next one (rs, own, size, kept, more) =
      let here : offset_of now + 2 ≡ 0 + length (flat (flat_map block h.taken)) + 2 = omega (arith, reach) in
      subst (λ x. Walked x bs next) (sym one) (record {
        taken = h.taken ++ rs ∷ [];
        own = owns_more ss s h.taken h.own rs own;
        size = size ∙ h.size;
        listed = listed_on vec_items now.records next.records (stand 0 h.taken) (places (offset_of now + 2) rs) _ h.listed kept ((λ i. stand 0 h.taken ++ places (here i) rs) ∙ sym (stand_push 0 h.taken rs));
        all = blocks_on ss s h.taken h.own h.all rs more;
      })

  pub walked_fails : (s : Section) (later : List Section) (next : Reader) (e : ReadError) → order ≡ (ss ++ s ∷ []) ++ later → length bs ≤ 16384
      → Took (Belong s) block 2 now next (Err e) → Fails bs e
  walked_fails s later next e all within (d, is, more) =
      let here : length (flat (flat_map block h.taken)) + d ≡ offset_of now + d = omega (arith, reach) in
      subst (Fails bs) (sym is) (
        λ over. absurd (omega arith),
        λ _. refuses_stuck bs (offset_of now + d) (subst (λ x. Stuck (Blocks x) bs (offset_of now + d)) (sym all) (subst (Stuck (Blocks ((ss ++ s ∷ []) ++ later)) bs) here (blocks_stuck ss s h.taken h.own h.all later more))),
      )

-- all sections are taken off the bytes of an image
module _ {ss : List Section} {bs : List ℕ} {now : Reader} (part : Walked ss bs now) (over : ss ≡ order) where
  whole : Walked order bs now
  whole = subst (λ x. Walked x bs now) over part

  pub walked_reads : length now.rest.now ≡ 0 → IfOk now.records (λ v. Reads bs (vec_items v))
  walked_reads e = IfOk-weaker _ _ _ (λ v same. subst (Reads bs) (sym same) (reads bs whole.taken now.rest.now whole.own whole.all (nil_from_length now.rest.now e))) whole.listed

  pub walked_lost : length now.rest.now ≡ 0 → length bs ≤ 16384 → Fails bs Memory
  walked_lost e within =
      let r = reads bs whole.taken now.rest.now whole.own whole.all (nil_from_length now.rest.now e) in
      (within, r.records, r.ordered, r.imaged)

  pub walked_rest : (e : ReadError) → e ≡ Unreadable (offset_of now) → 0 < length now.rest.now → length bs ≤ 16384 → Fails bs e
  walked_rest e is more within =
      let here : length bs - length now.rest.now ≡ offset_of now = omega (arith, whole.size) in
      subst (Fails bs) (sym is) (λ over. absurd (omega arith), λ _. subst (Refuses bs) here (refuses_rest bs whole.taken now.rest.now whole.own whole.all more))

-- an error that is handed on
pub handed_on : {V E : Type 0} (W : Result V E → Type 0) (r : Result V E) (e : E) → IsErrAnd r (λ x. x ≡ e) → W (Err e) → W r
handed_on W (Ok v) e h w = absurd h
handed_on W (Err x) e h w = subst (λ y. W (Err y)) (sym h) w

pub fails_on : {V E : Type 0} (P : V → Type 0) (Q : E → Type 0) (r : Result V E) (e : E) → IsErrAnd r (λ x. x ≡ e) → Q e → MatchResult r P Q
fails_on P Q r e h q = handed_on (λ y. MatchResult y P Q) r e h q

pub err_is : {V E : Type 0} (r : Result V E) (x y : E) → r ≡ Err x → r ≡ Err y → x ≡ y
err_is r x y e f = let same : Err x ≡ Err y = sym e ∙ f in cc
