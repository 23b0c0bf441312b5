-- One part, and several records of a section.
use Rattle.std.proofs.Common.{◌≡◌, ℕ, ◌+◌, ◌-◌, ◌<◌, ◌≤◌, ◌⊎◌, List, [], ◌∷◌, ◌++◌, map, length, take, drop, replicate, sym, refl, ap, ◌∙◌, subst, inl, inr, ⊎_elim, append_assoc, append-nil, arith, length-append}
use lib.ListN.{length-map, length-replicate}
use Rattle.std.proofs.lemmas.List.Elements.{All-nil, All-head, All-tail, All-push, All-append, All-take, All-drop, All-replicate}
use Rattle.std.proofs.lemmas.List.{map-append, map_push, length_push, take-append-drop, length-take-le, length-drop}
use Rattle.image.specs.declared.records.Record.{Record}
use Rattle.image.specs.declared.records.Record.TheVariants.{Admit, Grant, Fill, Put, Run}
use Rattle.image.specs.declared.records.Section.{Section}
use Rattle.image.specs.declared.records.Section.TheVariants.{Admissions, Grants, Fills, Puts, Runs}
use Rattle.isa.specs.declared.kinds.Side.TheVariants.{Code}
use Rattle.image.specs.Format.{written, section_of, flat, bare}
use Rattle.image.specs.Reading.{Belong, Lists, Several, Reaches, Accepts, Stuck}
use Rattle.image.proofs.Grammar.{Single, accepts_on, stuck_on, stuck_in}
use Rattle.image.proofs.Known.{record_is}

flat_one : (x rest : List ℕ) → flat (x ∷ []) ++ rest ≡ x ++ rest
flat_one x rest = ap (λ l. l ++ rest) (append-nil x)

-- the first parts of a list of one part
halves : (before after : List (List ℕ)) (x : List ℕ) → before ++ after ≡ x ∷ [] → (before ≡ []) ⊎ (before ≡ x ∷ [])
halves [] after x e = inl refl
halves (y ∷ []) after x e = let head : y ≡ x = cc in inr (ap (λ z. z ∷ []) head)
halves (y ∷ z ∷ before) after x e = let no : ◌≡◌ {A = ℕ} 0 1 = cc in absurd (omega arith)

-- lists of one part, the bytes of some thing
module _ {X : Type 0} (P : X → Type 0) (bytes : X → List ℕ) where
  abbrev pub One : List (List ℕ) → Type 0
  One = Lists P (λ x. bytes x ∷ [])

  reached_one : {bs : List ℕ} {e : ℕ} → Reaches One bs e → (e ≡ 0) ⊎ ((x : X) × (rest : List ℕ) × P x × (bs ≡ bytes x ++ rest) × (e ≡ length (bytes x)))
  reached_one r =
      let thing = r.listed.0 in
      ⊎_elim
      (λ h. inl (sym r.long ∙ ap (λ b. length (flat b)) h))
      (λ h. inr (thing, r.rest, r.listed.1, r.front ∙ ap (λ b. flat b ++ r.rest) h ∙ flat_one (bytes thing) r.rest, sym r.long ∙ ap (λ b. length (flat b)) h ∙ ap length (append-nil (bytes thing))))
      (halves r.before r.after (bytes thing) r.listed.2)

  pub accepts_one : {bs rest : List ℕ} (x : X) → P x → bs ≡ bytes x ++ rest → ((y : X) (left : List ℕ) → P y → bytes x ++ rest ≡ bytes y ++ left → length (bytes y) ≡ length (bytes x))
      → Accepts One bs (bytes x ∷ []) rest
  accepts_one {bs} {rest} x p e same =
      record {
        listed = (x, p, refl);
        front = e ∙ sym (flat_one (bytes x) rest);
        far = record {
          reached = record { before = bytes x ∷ []; after = []; listed = (x, p, refl); rest = rest; front = e ∙ sym (flat_one (bytes x) rest); long = refl };
          most = λ n r.
              let size = length-append (bytes x) [] in
              ⊎_elim (λ h. omega arith) (λ w. omega (arith, same w.0 w.1 w.2 (sym e ∙ w.3), w.4)) (reached_one r);
        };
      }

  pub stuck_one : {bs : List ℕ} (x : X) → P x → ((y : X) (rest : List ℕ) → P y → bs ≡ bytes y ++ rest → ⊥) → Stuck One bs 0
  stuck_one {bs} x p never =
      record {
        far = record {
          reached = record { before = []; after = bytes x ∷ []; listed = (x, p, refl); rest = bs; front = refl; long = refl };
          most = λ n r. ⊎_elim (λ h. omega arith) (λ w. absurd (never w.0 w.1 w.2 w.3)) (reached_one r);
        };
        none = λ ps rest l e. never l.0 rest l.1 (e ∙ ap (λ q. flat q ++ rest) l.2 ∙ flat_one (bytes l.0) rest);
      }

-- a record of each section
abbrev pub blank : Section → Record
blank Admissions = Admit (record { p = 0; first = 0; count = 0 })
blank Grants = Grant (record { p = 0; side = Code; page = 0; k = 0 })
blank Fills = Fill (record { p = 0; k = 0; offset = 0; bytes = record { ref_ptr = (0, 0); now = [] } })
blank Puts = Put (record { p = 0; r = 0; value = 0 })
blank Runs = Run (record { p = 0; n = 0 })

blank-own : (s : Section) → section_of (blank s) ≡ s
blank-own Admissions = refl
blank-own Grants = refl
blank-own Fills = refl
blank-own Puts = refl
blank-own Runs = refl

pub blanks_own : (s : Section) (n : ℕ) → Belong s (replicate n (blank s))
blanks_own s n = All-replicate (λ r. section_of r ≡ s) n (blank s) (blank-own s)

module _ (s : Section) where
  abbrev OfSection : Record → Type 0
  OfSection r = section_of r ≡ s

  pub accepts_record : {bs rest : List ℕ} (r : Record) → section_of r ≡ s → bs ≡ written r ++ rest → Accepts (One OfSection written) bs (written r ∷ []) rest
  accepts_record {bs} {rest} r own e = accepts_one OfSection written r own e (λ q left own' f. ap length (sym (record_is s r q rest left own own' f).1))

  pub stuck_record : {bs : List ℕ} → ((r : Record) (rest : List ℕ) → section_of r ≡ s → bs ≡ written r ++ rest → ⊥) → Stuck (One OfSection written) bs 0
  stuck_record never = stuck_one OfSection written (blank s) (blank-own s) never

  -- equal bytes are of the same records
  pub records_are : (xs ys : List Record) (a b : List ℕ) → Belong s xs → Belong s ys → length xs ≡ length ys → flat (map written xs) ++ a ≡ flat (map written ys) ++ b
      → (map written xs ≡ map written ys) × (map bare xs ≡ map bare ys) × (a ≡ b)
  records_are [] [] a b p q l e = (refl, refl, e)
  records_are [] (y ∷ ys) a b p q l e = absurd (omega arith)
  records_are (x ∷ xs) [] a b p q l e = absurd (omega arith)
  records_are (x ∷ xs) (y ∷ ys) a b p q l e =
      let one = record_is s x y _ _ (All-head OfSection x xs p) (All-head OfSection y ys q) (sym (append_assoc (written x) (flat (map written xs)) a) ∙ e ∙ append_assoc (written y) (flat (map written ys)) b) in
      let more = records_are xs ys a b (All-tail OfSection x xs p) (All-tail OfSection y ys q) (omega arith) one.2 in
      ((λ i. one.1 i ∷ more.0 i), (λ i. one.0 i ∷ more.1 i), more.2)

  pub several_single : (n : ℕ) → Single (Several s n)
  several_single n ps qs a b p q e =
      p.2 ∙ (records_are p.0 q.0 a b p.1.0 q.1.0 (p.1.1 ∙ sym q.1.1) (sym (ap (λ x. flat x ++ a) p.2) ∙ e ∙ ap (λ x. flat x ++ b) q.2)).0 ∙ sym q.2

  -- the first m of more records
  first_of : (m n : ℕ) → m ≤ n → (ps : List (List ℕ)) → Several s n ps → (rs : List Record) × (left : List Record) × (Belong s rs × (length rs ≡ m)) × (Belong s left × (length left ≡ n - m)) × (ps ≡ map written rs ++ map written left)
  first_of m n h ps l =
      let all = l.0 in
      let long = l.1.1 in (
        take m all,
        drop m all,
        (All-take OfSection m all l.1.0, length-take-le m all (omega arith)),
        (All-drop OfSection m all l.1.0, length-drop m all ∙ ap (λ x. x - m) long),
        l.2 ∙ ap (map written) (sym (take-append-drop m all)) ∙ map-append written (take m all) (drop m all),
      )

  -- one record is left after all but the last
  last_of : (n : ℕ) (ps : List (List ℕ)) → Several s (n + 1) ps → (q : List (List ℕ)) × (q' : List (List ℕ)) × Several s n q × (ps ≡ q ++ q') × One OfSection written q'
  last_of n ps l = go (first_of n (n + 1) (omega arith) ps l)
    where
      go : (rs : List Record) × (left : List Record) × (Belong s rs × (length rs ≡ n)) × (Belong s left × (length left ≡ n + 1 - n)) × (ps ≡ map written rs ++ map written left)
          → (q : List (List ℕ)) × (q' : List (List ℕ)) × Several s n q × (ps ≡ q ++ q') × One OfSection written q'
      go (rs, [], own, last, e) = absurd (omega (arith, last.1))
      go (rs, r ∷ [], own, last, e) = (map written rs, written r ∷ [], (rs, own, refl), e, (r, All-head OfSection r [] last.0, refl))
      go (rs, r ∷ r' ∷ left, own, last, e) = absurd (omega (arith, last.1))

  pub several_none : (bs : List ℕ) → Accepts (Several s 0) bs [] bs
  several_none bs =
      record {
        listed = ([], (All-nil OfSection, refl), refl);
        front = refl;
        far = record {
          reached = record { before = []; after = []; listed = ([], (All-nil OfSection, refl), refl); rest = bs; front = refl; long = refl };
          most = λ e r. omega (arith, nothing r.before r.after r.listed, r.long);
        };
      }
    where
      nothing : (before after : List (List ℕ)) → Several s 0 (before ++ after) → length (flat before) ≡ 0
      nothing [] after l = refl
      nothing (x ∷ before) after l = absurd (omega (arith, ap length l.2, length-map l.0 written, l.1.1))

  pub several_more : {n : ℕ} {bs rest after : List ℕ} (rs : List Record) (r : Record) → length rs ≡ n → Belong s rs → section_of r ≡ s → rest ≡ written r ++ after
      → Accepts (Several s n) bs (map written rs) rest → Accepts (Several s (n + 1)) bs (map written (rs ++ r ∷ [])) after
  several_more {n} {bs} {rest} {after} rs r long owns own e first =
      subst (λ ps. Accepts (Several s (n + 1)) bs ps after) (sym (map_push written rs r))
      (accepts_on (Several s n) (One OfSection written) (Several s (n + 1)) (several_single n) (map written rs)
      (λ q l. (rs ++ l.0 ∷ [], (All-push OfSection rs l.0 owns l.1, length_push rs l.0 ∙ ap (λ m. m + 1) long), ap (λ x. map written rs ++ x) l.2 ∙ sym (map_push written rs l.0)))
      (λ ps l. let w = last_of n ps l in (w.0, w.1, w.2, w.3, λ _. w.4))
      first (accepts_record r own e))

  pub several_stuck : {n c : ℕ} {bs rest : List ℕ} (rs : List Record) → length rs ≡ n → Belong s rs → n < c → ((r : Record) (left : List ℕ) → section_of r ≡ s → rest ≡ written r ++ left → ⊥)
      → Accepts (Several s n) bs (map written rs) rest → Stuck (Several s c) bs (length (flat (map written rs)) + 0)
  several_stuck {n} {c} {bs} {rest} rs long owns less never first =
      stuck_in (Several s (n + 1)) (Several s c)
      (λ q l.
      let more = replicate (c - (n + 1)) (blank s) in
      (map written more, (l.0 ++ more, (All-append OfSection l.0 more l.1.0 (blanks_own s (c - (n + 1))), omega (arith, length-append l.0 more, length-replicate (c - (n + 1)) (blank s), l.1.1)), ap (λ x. x ++ map written more) l.2 ∙ sym (map-append written l.0 more))))
      (λ ps l. let w = first_of (n + 1) c (omega arith) ps l in (map written w.0, map written w.1, (w.0, w.2, refl), w.4))
      (stuck_on (Several s n) (One OfSection written) (Several s (n + 1)) (several_single n) (map written rs)
      (λ q l. (rs ++ l.0 ∷ [], (All-push OfSection rs l.0 owns l.1, length_push rs l.0 ∙ ap (λ m. m + 1) long), ap (λ x. map written rs ++ x) l.2 ∙ sym (map_push written rs l.0)))
      (λ ps l. let w = last_of n ps l in (w.0, w.1, w.2, w.3, λ _. w.4))
      first (stuck_record never))
