-- What reading answers.
--
-- Taken      what taking one record of a section off the front of some bytes gives
-- Belong     the records all belong to one section
-- Lists      what the parts of some kind of thing may be, each part as its bytes
-- Several    the parts of n records of a section
-- Block      the parts of a section
-- Image      the parts of an image
-- Reaches    the first d bytes are the first parts of such a list
-- Farthest   the bytes reach d, and no farther
-- Accepts    the bytes begin with all parts of such a list, and reach no farther
-- Stuck      the bytes reach d and no farther, and do not begin with all parts of any such list
-- offset_of  where the bytes that a reader has left begin in its image
-- Stored     unless a record was lost for want of memory, before or now, records are added at the end
-- Began      a reader has an image before it and no records yet
-- Took       what taking several records, or a section, off the front of a reader's bytes gives
-- Reads      the bytes are the image of one list of records, and of no other
-- Refuses    the bytes are no image, and the offset is the farthest that they reach
-- Fails      what an error says of the bytes
-- refusal    number and value of each case of an error; want of memory is no refusal, and has 0
use Rattle.std.specs.Prelude.{All, ◌≡◌, ℕ, ◌+◌, ◌-◌, ◌<◌, ◌≤◌, List, [], ◌++◌, map, vec_items, IfOk, MatchResult, length, Some, None, Ok, Err, Option, Result, ◌≢◌}
use Rattle.std.specs.Borrow.{Bor}
use Rattle.image.specs.declared.errors.ReadError.{ReadError}
use Rattle.image.specs.declared.errors.ReadError.TheVariants.{Unreadable, Memory}
use Rattle.image.specs.declared.reader.Reader.{Reader}
use Rattle.image.specs.declared.records.Placed.{Placed}
use Rattle.image.specs.declared.records.Record.{Record}
use Rattle.image.specs.declared.records.Section.{Section}
use Rattle.image.specs.Format.{written, section_of, flat, block, Ordered, parts, image, places, placed, bare}

abbrev pub Taken : Section → List ℕ → Option (Record × Bor (List ℕ)) → Type 0
Taken s bs None = (r : Record) (rest : List ℕ) → section_of r ≡ s → bs ≢ written r ++ rest
Taken s bs (Some x) = (section_of x.0 ≡ s) × (bs ≡ written x.0 ++ x.1.now)

abbrev pub Belong : Section → List Record → Type 0
Belong s rs = All (λ r. section_of r ≡ s) rs

abbrev pub Lists : {X : Type 0} → (X → Type 0) → (X → List (List ℕ)) → List (List ℕ) → Type 0
Lists {X} P body ps = (x : X) × P x × (ps ≡ body x)

abbrev pub Several : Section → ℕ → List (List ℕ) → Type 0
Several s n = Lists (λ rs. Belong s rs × (length rs ≡ n)) (map written)

abbrev pub Block : Section → List (List ℕ) → Type 0
Block s = Lists (Belong s) block

abbrev pub Image : List (List ℕ) → Type 0
Image = Lists Ordered parts

pub record Reaches (L : List (List ℕ) → Type 0) (bs : List ℕ) (d : ℕ) : Type 0 where
  pub before : List (List ℕ)
  pub after : List (List ℕ)
  pub listed : L (before ++ after)
  pub rest : List ℕ
  pub front : bs ≡ flat before ++ rest
  pub long : length (flat before) ≡ d

pub record Farthest (L : List (List ℕ) → Type 0) (bs : List ℕ) (d : ℕ) : Type 0 where
  pub reached : Reaches L bs d
  pub most : (e : ℕ) → Reaches L bs e → e ≤ d

pub record Accepts (L : List (List ℕ) → Type 0) (bs : List ℕ) (ps : List (List ℕ)) (rest : List ℕ) : Type 0 where
  pub listed : L ps
  pub front : bs ≡ flat ps ++ rest
  pub far : Farthest L bs (length (flat ps))

pub record Stuck (L : List (List ℕ) → Type 0) (bs : List ℕ) (d : ℕ) : Type 0 where
  pub far : Farthest L bs d
  pub none : (ps : List (List ℕ)) (rest : List ℕ) → L ps → bs ≢ flat ps ++ rest

abbrev pub offset_of : Reader → ℕ
offset_of r = r.size - length r.rest.now

abbrev pub Stored : Reader → Reader → List Placed → Type 0
Stored old new xs = IfOk new.records (λ w. MatchResult old.records (λ v. vec_items w ≡ vec_items v ++ xs) (λ e. ⊥))

pub record Began (bs : List ℕ) (r : Reader) : Type 0 where
  pub size : r.size ≡ length bs
  pub rest : r.rest.now ≡ bs
  pub none : MatchResult r.records (λ v. vec_items v ≡ []) (λ e. ⊥)

abbrev pub Took : (List Record → Type 0) → (List Record → List (List ℕ)) → ℕ → Reader → Reader → Result (Unit {0}) ReadError → Type 0
Took P body lead old new (Ok _) =
    (rs : List Record) × P rs × (new.size ≡ old.size) × Stored old new (places (offset_of old + lead) rs)
    × Accepts (Lists P body) old.rest.now (body rs) new.rest.now
Took P body lead old new (Err e) = (d : ℕ) × (e ≡ Unreadable (offset_of old + d)) × Stuck (Lists P body) old.rest.now d

pub record Reads (bs : List ℕ) (items : List Placed) : Type 0 where
  pub records : List Record
  pub ordered : Ordered records
  pub imaged : image records ≡ bs
  pub listed : items ≡ placed records
  pub only : (others : List Record) → Ordered others → image others ≡ bs → map bare others ≡ map bare records

pub record Refuses (bs : List ℕ) (o : ℕ) : Type 0 where
  pub far : Farthest Image bs o
  pub none : (rs : List Record) → Ordered rs → image rs ≢ bs

abbrev pub refusal : ReadError → ℕ × ℕ
refusal (Unreadable o) = (16, o)
refusal Memory = (0, 0)

abbrev pub Fails : List ℕ → ReadError → Type 0
Fails bs (Unreadable o) = (16384 < length bs → o ≡ 16384) × (length bs ≤ 16384 → Refuses bs o)
Fails bs Memory = (length bs ≤ 16384) × (rs : List Record) × Ordered rs × (image rs ≡ bs)
