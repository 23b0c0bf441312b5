-- Listings: the whole text that an image gives.
--
-- | word           | what it is                                                                        |
-- |----------------|-----------------------------------------------------------------------------------|
-- | `line`         | a text with the end of a line                                                     |
-- | `Adds`         | that a call, where it succeeds, adds a text with a property at the end of another |
-- | `code_lines`   | the lines of some parts                                                           |
-- | `on_code`      | whether a side is the code side                                                   |
-- | `grants_code`  | whether a record grants a frame of a process to its code side                     |
-- | `any_grants`   | whether one of some records does                                                  |
-- | `CodeAt`       | the lines of the parts of bytes at an address                                     |
-- | `CodeOf`       | the lines of the instructions of a record: of a fill into a code frame            |
-- | `RecordText`   | the line of a record, and the lines of its instructions                           |
-- | `Body`         | the lines of some records                                                         |
-- | `count_of`     | how many records belong to a section                                              |
-- | `total_of`     | how many records each section has                                                 |
-- | `bad_text`     | the line of an image that is refused: number and offset                           |
-- | `ListsRecords` | the listing of records: their lines, and the last line                            |
-- | `Lists`        | what a listing is: of records, or of an image that is refused                     |
use Rattle.std.specs.Prelude.{◌≡◌, ℕ, ◌≤◌, Bool, true, false, ◌&&◌, ◌⊎◌, List, [], ◌∷◌, ◌++◌, length, count_by, codes, decimal, MatchBool, OnOk, Result, ◌==◌}
use Rattle.std.specs.List.{flat_map, list_any}
use Rattle.image.specs.Format.{number, section_of}
use Rattle.image.specs.Reading.{Fails, Reads, refusal}
use Rattle.image.specs.declared.errors.ReadError.TheVariants.{Unreadable}
use Rattle.image.specs.declared.records.Placed.{Placed}
use Rattle.image.specs.declared.records.Record.{Record}
use Rattle.image.specs.declared.records.Record.TheVariants.{Grant, Fill}
use Rattle.image.specs.declared.records.Section.{Section}
use Rattle.image.specs.declared.records.Section.TheVariants.{Admissions, Grants, Fills, Puts, Runs}
use Rattle.isa.specs.declared.kinds.Side.{Side}
use Rattle.isa.specs.declared.kinds.Side.TheVariants.{Code, Data}
use Rattle.report.specs.Lines.{code_text, record_text, total_text}
use Rattle.report.specs.Parts.{Covers}
use Rattle.report.specs.declared.lines.Total.{Total}
use Rattle.report.specs.declared.parts.Part.{Part}

abbrev pub line : List ℕ → List ℕ
line t = t ++ 10 ∷ []

abbrev pub Adds : {E : Type 0} → List ℕ → List ℕ → (List ℕ → Type 0) → Result (Unit {0}) E → Type 0
Adds old new P r = OnOk r ((t : List ℕ) × P t × (new ≡ old ++ t))

abbrev pub code_lines : List Part → List ℕ
code_lines ps = flat_map (λ p. line (code_text p)) ps

abbrev pub on_code : Side → Bool
on_code Code = true
on_code Data = false

abbrev pub grants_code : ℕ → ℕ → Record → Bool
grants_code p k (Grant g) = (g.p == p) && (g.k == k) && on_code g.side
grants_code p k _ = false

abbrev pub any_grants : ℕ → ℕ → List Placed → Bool
any_grants p k xs = list_any (λ x. grants_code p k x.«record») xs

abbrev pub CodeAt : ℕ → List ℕ → List ℕ → Type 0
CodeAt a bs t = (ps : List Part) × Covers a bs ps × (t ≡ code_lines ps)

abbrev pub CodeOf : List Placed → Record → List ℕ → Type 0
CodeOf all (Fill f) t = MatchBool (any_grants f.p f.k all) (CodeAt f.offset f.bytes.now t) (t ≡ [])
CodeOf all _ t = t ≡ []

abbrev pub RecordText : List Placed → Placed → List ℕ → Type 0
RecordText all x t = (code : List ℕ) × CodeOf all x.«record» code × (t ≡ line (record_text x) ++ code)

abbrev pub Body : List Placed → List Placed → List ℕ → Type 0
Body all [] t = t ≡ []
Body all (x ∷ xs) t = (own : List ℕ) × (rest : List ℕ) × RecordText all x own × Body all xs rest × (t ≡ own ++ rest)

abbrev pub count_of : Section → List Placed → ℕ
count_of s xs = count_by (λ x. number (section_of x.«record») == number s) xs

abbrev pub total_of : List Placed → Total
total_of xs =
    record {
      admissions = count_of Admissions xs;
      grants = count_of Grants xs;
      fills = count_of Fills xs;
      puts = count_of Puts xs;
      runs = count_of Runs xs;
    }

abbrev pub bad_text : ℕ × ℕ → List ℕ
bad_text r = codes "bad " ++ (decimal r.0 ++ (codes " " ++ decimal r.1))

abbrev pub ListsRecords : List Placed → List ℕ → Type 0
ListsRecords xs t = (body : List ℕ) × Body xs xs body × (t ≡ body ++ line (total_text (total_of xs)))

-- the listing of an image that is read, and the one line of an image that is refused
abbrev pub Lists : List ℕ → List ℕ → Type 0
Lists bs t =
    ((xs : List Placed) × (length bs ≤ 16384) × Reads bs xs × ListsRecords xs t)
    ⊎ ((o : ℕ) × Fails bs (Unreadable o) × (t ≡ line (bad_text (refusal (Unreadable o)))))
