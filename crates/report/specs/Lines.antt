-- Lines: the text of a listing.
--
-- | word           | what it is                                           |
-- |----------------|------------------------------------------------------|
-- | `hex`          | a byte in two hexadecimal digits                     |
-- | `hexes`        | bytes in hexadecimal digits                          |
-- | `fields`       | the name of a record and its fields                  |
-- | `record_text`  | the line of a record: its offset, name and fields    |
-- | `content_text` | what the bytes of a part are                         |
-- | `code_text`    | the line of a part: address, bytes and what they are |
-- | `total_text`   | the last line: how many records each section has     |
use Rattle.std.specs.Prelude.{ℕ, ◌/◌, ◌%◌, false, List, [], ◌∷◌, ◌++◌, length, codes, decimal}
use Rattle.std.specs.Fmt.{digit_glyph}
use Rattle.std.specs.List.{flat_map}
use Rattle.disasm.specs.Text.{text}
use Rattle.image.specs.declared.records.Placed.{Placed}
use Rattle.image.specs.declared.records.Record.{Record}
use Rattle.image.specs.declared.records.Record.TheVariants.{Admit, Grant, Fill, Put, Run}
use Rattle.isa.specs.Sides.{side_text}
use Rattle.report.specs.declared.lines.Total.{Total}
use Rattle.report.specs.declared.parts.Content.{Content}
use Rattle.report.specs.declared.parts.Content.TheVariants.{Carried, Empty, NotCarried, Kernel, Cut, Odd}
use Rattle.report.specs.declared.parts.Part.{Part}

abbrev pub hex : ℕ → List ℕ
hex b = digit_glyph false (b / 16 % 16) ∷ digit_glyph false (b % 16) ∷ []

abbrev pub hexes : List ℕ → List ℕ
hexes bs = flat_map hex bs

abbrev pub fields : Record → List ℕ
fields (Admit a) =
    codes " admit p " ++ (decimal a.p ++ (codes " first " ++ (decimal a.first ++ (codes " count " ++ decimal a.count))))
fields (Grant g) =
    codes " grant p " ++ (decimal g.p ++ (codes " " ++ (side_text g.side
    ++ (codes " page " ++ (decimal g.page ++ (codes " k " ++ decimal g.k))))))
fields (Fill f) =
    codes " fill p " ++ (decimal f.p ++ (codes " k " ++ (decimal f.k ++ (codes " offset " ++ (decimal f.offset
    ++ (codes " length " ++ decimal (length f.bytes.now)))))))
fields (Put u) =
    codes " put p " ++ (decimal u.p ++ (codes " r " ++ (decimal u.r ++ (codes " value " ++ decimal u.value))))
fields (Run e) = codes " run p " ++ (decimal e.p ++ (codes " n " ++ decimal e.n))

abbrev pub record_text : Placed → List ℕ
record_text x = decimal x.offset ++ fields x.«record»

abbrev pub content_text : Content → List ℕ
content_text (Carried i) = text i
content_text Empty = codes "empty"
content_text NotCarried = codes "not carried"
content_text Kernel = codes "kernel"
content_text Cut = codes "cut"
content_text Odd = codes "odd"

abbrev pub code_text : Part → List ℕ
code_text p =
    codes "  " ++ (decimal p.address ++ (codes " " ++ (hexes p.bytes.now ++ (codes " " ++ content_text p.content))))

abbrev pub total_text : Total → List ℕ
total_text t =
    codes "total admissions " ++ (decimal t.admissions ++ (codes " grants " ++ (decimal t.grants ++ (codes " fills " ++ (decimal t.fills
    ++ (codes " puts " ++ (decimal t.puts ++ (codes " runs " ++ decimal t.runs))))))))
