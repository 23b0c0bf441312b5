-- How far some bytes reach, where what they are held to comes in two pieces.
use Rattle.std.proofs.Common.{◌≡◌, ℕ, ◌+◌, ◌⊎◌, List, [], ◌∷◌, ◌++◌, length, sym, refl, ap, ◌∙◌, subst, inl, inr, ⊎_elim, append_assoc, arith, length-append}
use Rattle.std.specs.List.{flat_map}
use Rattle.std.proofs.lemmas.List.{append_cancel_left}
use Rattle.image.specs.Format.{flat}
use Rattle.image.specs.Reading.{Reaches, Farthest, Accepts, Stuck}

-- one list cut in two ways: one first part begins with the other
pub cuts : {X : Type 0} (a b c d : List X) → a ++ b ≡ c ++ d → ((m : List X) × (c ≡ a ++ m) × (b ≡ m ++ d)) ⊎ ((m : List X) × (a ≡ c ++ m) × (d ≡ m ++ b))
cuts [] b c d e = inl (c, refl, e)
cuts (x ∷ a) b [] d e = inr (x ∷ a, refl, sym e)
cuts (x ∷ a) b (y ∷ c) d e =
    let head : x ≡ y = cc in
    let tail : a ++ b ≡ c ++ d = cc in
    ⊎_elim (λ w. inl (w.0, (λ i. sym head i ∷ w.1 i), w.2)) (λ w. inr (w.0, (λ i. head i ∷ w.1 i), w.2)) (cuts a b c d tail)

pub joined-append : {X A : Type 0} (f : X → List A) (a b : List X) → flat_map f (a ++ b) ≡ flat_map f a ++ flat_map f b
joined-append f [] b = refl
joined-append f (x ∷ a) b = ap (λ l. f x ++ l) (joined-append f a b) ∙ sym (append_assoc (f x) (flat_map f a) (flat_map f b))

-- what comes after the first of two lists of parts
pub beyond : (a b : List (List ℕ)) (rest : List ℕ) → flat (a ++ b) ++ rest ≡ flat a ++ (flat b ++ rest)
beyond a b rest = ap (λ l. l ++ rest) (joined-append (λ p. p) a b) ∙ append_assoc (flat a) (flat b) rest

pub length-flat : (a b : List (List ℕ)) → length (flat (a ++ b)) ≡ length (flat a) + length (flat b)
length-flat a b = ap length (joined-append (λ p. p) a b) ∙ length-append (flat a) (flat b)

-- bytes begin with at most one list
abbrev pub Single : (List (List ℕ) → Type 0) → Type 0
Single L = (ps qs : List (List ℕ)) (a b : List ℕ) → L ps → L qs → flat ps ++ a ≡ flat qs ++ b → ps ≡ qs

pub reaches_as : {L L' : List (List ℕ) → Type 0} {bs : List ℕ} {d : ℕ} → ((ps : List (List ℕ)) → L ps → L' ps) → Reaches L bs d → Reaches L' bs d
reaches_as f r = record { before = r.before; after = r.after; listed = f _ r.listed; rest = r.rest; front = r.front; long = r.long }

pub farthest_as : {L L' : List (List ℕ) → Type 0} {bs : List ℕ} {d : ℕ} → ((ps : List (List ℕ)) → L ps → L' ps) → ((ps : List (List ℕ)) → L' ps → L ps) → Farthest L bs d → Farthest L' bs d
farthest_as f g far = record { reached = reaches_as f far.reached; most = λ e r. far.most e (reaches_as g r) }

-- a list of L is p, a list of L1, and then one of L2; the bytes begin with p
module _
    (L1 L2 L : List (List ℕ) → Type 0) (single : Single L1) (p : List (List ℕ))
    (joins : (q : List (List ℕ)) → L2 q → L (p ++ q))
    (splits : (ps : List (List ℕ)) → L ps → (q : List (List ℕ)) × (q' : List (List ℕ)) × L1 q × (ps ≡ q ++ q') × (q ≡ p → L2 q'))
    {bs rest : List ℕ} (first : Accepts L1 bs p rest) where
  -- a list of L1 that the bytes begin with is p, and what is left is the rest
  after_p : (q : List (List ℕ)) (left : List ℕ) → L1 q → bs ≡ flat q ++ left → (q ≡ p) × (rest ≡ left)
  after_p q left l e =
      let same = single q p left rest l first.listed (sym e ∙ first.front) in
      (same, append_cancel_left (flat p) rest left (sym first.front ∙ e ∙ ap (λ x. flat x ++ left) same))

  far_on : {d : ℕ} → Farthest L2 rest d → Farthest L bs (length (flat p) + d)
  far_on {d} far =
      let r = far.reached in
      record {
        reached = record {
          before = p ++ r.before;
          after = r.after;
          listed = subst L (sym (append_assoc p r.before r.after)) (joins _ r.listed);
          rest = r.rest;
          front = first.front ∙ ap (λ l. flat p ++ l) r.front ∙ sym (beyond p r.before r.rest);
          long = length-flat p r.before ∙ ap (λ n. length (flat p) + n) r.long;
        };
        most = λ e s.
            let two = splits _ s.listed in
            ⊎_elim
            (λ w.
            let inside : Reaches L1 bs e = record { before = s.before; after = w.0; listed = subst L1 w.1 two.2; rest = s.rest; front = s.front; long = s.long } in
            let least = first.far.most e inside in
            omega arith)
            (λ w.
            let same = after_p two.0 (flat w.0 ++ s.rest) two.2 (s.front ∙ ap (λ x. flat x ++ s.rest) w.1 ∙ beyond two.0 w.0 s.rest) in
            let past : Reaches L2 rest (length (flat w.0)) =
            record { before = w.0; after = s.after; listed = subst L2 w.2 (two.4 same.0); rest = s.rest; front = same.1; long = refl } in
            let least = far.most _ past in
            let size = sym s.long ∙ ap (λ x. length (flat x)) w.1 ∙ length-flat two.0 w.0 ∙ ap (λ x. length (flat x) + length (flat w.0)) same.0 in
            omega arith)
            (cuts s.before s.after two.0 two.1 two.3);
      }

  pub accepts_on : {p' : List (List ℕ)} {rest' : List ℕ} → Accepts L2 rest p' rest' → Accepts L bs (p ++ p') rest'
  accepts_on {p'} {rest'} next =
      record {
        listed = joins _ next.listed;
        front = first.front ∙ ap (λ l. flat p ++ l) next.front ∙ sym (beyond p p' rest');
        far = subst (Farthest L bs) (sym (length-flat p p')) (far_on next.far);
      }

  pub stuck_on : {d : ℕ} → Stuck L2 rest d → Stuck L bs (length (flat p) + d)
  stuck_on next =
      record {
        far = far_on next.far;
        none = λ ps left l e.
            let two = splits ps l in
            let same = after_p two.0 (flat two.1 ++ left) two.2 (e ∙ ap (λ x. flat x ++ left) two.3 ∙ beyond two.0 two.1 left) in
            next.none two.1 left (two.4 same.0) same.1;
      }

-- each list of L begins with one of L1, and each of L1 begins one of L: where no list of L1 is whole, none of L is
pub stuck_in : (L1 L : List (List ℕ) → Type 0)
    → ((q : List (List ℕ)) → L1 q → (q' : List (List ℕ)) × L (q ++ q'))
    → ((ps : List (List ℕ)) → L ps → (q : List (List ℕ)) × (q' : List (List ℕ)) × L1 q × (ps ≡ q ++ q'))
    → {bs : List ℕ} {d : ℕ} → Stuck L1 bs d → Stuck L bs d
stuck_in L1 L extends splits {bs} {d} stuck =
    let r = stuck.far.reached in
    let more = extends _ r.listed in
    record {
      far = record {
        reached = record { before = r.before; after = r.after ++ more.0; listed = subst L (append_assoc r.before r.after more.0) more.1; rest = r.rest; front = r.front; long = r.long };
        most = λ e s.
            let two = splits _ s.listed in
            ⊎_elim
            (λ w. stuck.far.most e (record { before = s.before; after = w.0; listed = subst L1 w.1 two.2; rest = s.rest; front = s.front; long = s.long }))
            (λ w. absurd (stuck.none two.0 (flat w.0 ++ s.rest) two.2 (s.front ∙ ap (λ x. flat x ++ s.rest) w.1 ∙ beyond two.0 w.0 s.rest)))
            (cuts s.before s.after two.0 two.1 two.3);
      };
      none = λ ps left l e.
          let two = splits ps l in
          stuck.none two.0 (flat two.1 ++ left) two.2 (e ∙ ap (λ x. flat x ++ left) two.3 ∙ beyond two.0 two.1 left);
    }
