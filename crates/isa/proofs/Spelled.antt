-- Encoding undoes decoding: what bytes that decode to an instruction look like, and that there are no others.
use Rattle.std.proofs.Common.{◌≡◌, ℕ, ◌+◌, ◌*◌, ◌/◌, ◌%◌, ◌<◌, ◌≤◌, Bool, true, false, cond, ltb, List, [], ◌∷◌, map, length, get_or, drop, Some, None, Ok, Err, sym, refl, ap, ◌∙◌, subst, add-zero, arith, lit≤, ltb-false, ltb-true, le-ltb, lt-ltb, eq-eqb, eqb-true}
use Rattle.std.proofs.lemmas.List.FromFn.{fill_by_all}
use Rattle.words.proofs.Extended.{extends}
use Rattle.words.specs.Extension.{extended}
use Rattle.std.specs.List.{range_with_len}
use Rattle.isa.specs.Decoding.{decoded, displacement_in, instruction}
use Rattle.isa.specs.Encoded.{Bytes, Spells, Unspelled}
use Rattle.isa.specs.Formats.{size_at}
use Rattle.isa.specs.Map.{opcode_at}
use Rattle.isa.specs.Opcodes.{opcode_of}
use Rattle.isa.specs.declared.kinds.Instruction.{Instruction}
use Rattle.isa.specs.declared.kinds.Kind.{Kind}
use Rattle.isa.specs.declared.kinds.Opcode.{Opcode}
use Rattle.isa.specs.declared.kinds.Opcode.TheVariants.{Carried}
use Rattle.isa.specs.declared.kinds.Undecoded.TheVariants as undecoded
use Rattle.isa.proofs.Decoded.{carried, whole}
use Rattle.isa.proofs.Inverse.{Stands, leads, long_by, stands}

-- what decoding to i says of the bytes, with s the opcode of i's kind
pub record Read (bs : List ℕ) (i : Instruction) (s : ℕ) : Type 0 where
  pub from : opcode_of i.kind ≡ Some s
  pub here : get_or bs 0 0 ≡ s + long_by i.size
  pub half : ltb s 0x80 ≡ ltb (get_or bs 0 0) 0x80
  pub size : i.size ≡ size_at (get_or bs 0 0)
  pub long : length bs ≡ i.size
  pub x : i.x ≡ get_or bs 1 0 / 16
  pub y : i.y ≡ get_or bs 1 0 % 16
  pub told : i.displacement ≡ displacement_in (drop 2 bs)

-- bytes that decode to an instruction begin with a carried opcode
is_carried : (bs : List ℕ) (i : Instruction) (t : Bool) → ltb (length bs) 2 ≡ t → (o : Opcode) → opcode_at (get_or bs 0 0) ≡ o →
    decoded bs ≡ Ok i → (2 ≤ length bs) × (k : Kind) × (opcode_at (get_or bs 0 0) ≡ Carried k)
is_carried bs i false e (Carried k) f d = (ltb-false (length bs) 2 e, k, f)
is_carried bs i _ e _ f d = cc

is_whole : (bs : List ℕ) (i : Instruction) (k : Kind) (t : Bool) → whole bs ≡ t →
    cond t (Ok (instruction k bs)) (Err undecoded.WrongLength) ≡ Ok i → (length bs ≡ size_at (get_or bs 0 0)) × (instruction k bs ≡ i)
is_whole bs i k true e d = (eqb-true (length bs) (size_at (get_or bs 0 0)) e, cc)
is_whole bs i k false e d = cc

pub read : (bs : List ℕ) (i : Instruction) → Bytes bs → decoded bs ≡ Ok i → (s : ℕ) × Read bs i s
read bs i b d =
    let c = is_carried bs i (ltb (length bs) 2) refl (opcode_at (get_or bs 0 0)) refl d in
    let k = c.1 in
    let w = is_whole bs i k (whole bs) refl (sym (carried bs k c.0 c.2) ∙ d) in
    let l = leads (get_or bs 0 0) k (b 0) c.2 in
    let i-is : instruction k bs ≡ i = w.1 in
    let size : i.size ≡ size_at (get_or bs 0 0) = cc in (
      l.0,
      record {
        from = cc;
        here = cc;
        half = l.1.half;
        size = size;
        long = cc;
        x = cc;
        y = cc;
        told = cc;
      },
    )

-- a list by its elements
filled : (bs : List ℕ) (n : ℕ) → length bs ≡ n → bs ≡ map (λ k. get_or bs k 0) (range_with_len 0 n)
filled bs n e = fill_by_all (λ k. get_or bs k 0) bs n 0 e (λ k _. refl)

-- an instruction by its fields
put : Kind → ℕ → ℕ → ℕ → ℕ → Instruction
put k n x y d = record { kind = k; size = n; x = x; y = y; displacement = d }

is-put : (i : Instruction) (n x y d : ℕ) → n ≡ i.size → x ≡ i.x → y ≡ i.y → d ≡ i.displacement → put i.kind n x y d ≡ i
unfolding put
is-put i n x y d en ex ey ed = let fields-are : put i.kind n x y d ≡ put i.kind i.size i.x i.y i.displacement = cc in fields-are

-- bytes of a carried opcode that are as many as it takes, and whose fields are those of i, decode to i
decodes : (bs : List ℕ) (i : Instruction) → 2 ≤ length bs → opcode_at (get_or bs 0 0) ≡ Carried i.kind →
    length bs ≡ size_at (get_or bs 0 0) → length bs ≡ i.size → get_or bs 1 0 / 16 ≡ i.x → get_or bs 1 0 % 16 ≡ i.y →
    displacement_in (drop 2 bs) ≡ i.displacement → decoded bs ≡ Ok i
unfolding put
decodes bs i h o w n x y d =
    let whole-is = eq-eqb (length bs) (size_at (get_or bs 0 0)) w in
    let is = is-put i (length bs) (get_or bs 1 0 / 16) (get_or bs 1 0 % 16) (displacement_in (drop 2 bs)) n x y d in
    cc (carried bs i.kind h o)

-- the byte of the fields, and the fields of that byte
fields : (i : Instruction) → i.x ≤ 15 → i.y ≤ 15 →
    ((i.x * 16 + i.y) / 16 ≡ i.x) × ((i.x * 16 + i.y) % 16 ≡ i.y)
fields i hx hy = (omega arith, omega arith)

-- the opcode of i's kind, where the map has it
at : (i : Instruction) (op : ℕ) → opcode_of i.kind ≡ Some op → Stands (Some op) i.kind
at i op e = subst (λ o. Stands o i.kind) e (stands i.kind)

low : (op : ℕ) → op < 0x80 → size_at op ≡ 2
low op h = ap (λ t. cond t 2 (cond (ltb (op % 32) 16) 4 6)) (lt-ltb op 0x80 h)

high : (i : Instruction) (op : ℕ) → opcode_of i.kind ≡ Some op → 0x80 ≤ op →
    (size_at op ≡ 4) × (opcode_at (op + 16) ≡ Carried i.kind) × (size_at (op + 16) ≡ 6)
high i op e h =
    let s = at i op e in
    subst (λ t. (size_at op ≡ cond t 2 4) × (opcode_at (op + cond t 0 16) ≡ Carried i.kind) × (size_at (op + cond t 0 16) ≡ cond t 2 6))
    (le-ltb op 0x80 h) (s.2, s.1, s.3)

-- the bytes of an instruction with one opcode: the first is that opcode, the second has the fields
first : {bs : List ℕ} {i : Instruction} {s op : ℕ} → Read bs i s → opcode_of i.kind ≡ Some op → get_or bs 0 0 ≡ op + long_by i.size
first {bs} {i} {s} {op} r e = let same : s ≡ op = cc (r.from, e) in r.here ∙ ap (λ m. m + long_by i.size) same

second : {bs : List ℕ} {i : Instruction} {s : ℕ} → Read bs i s → get_or bs 1 0 ≡ i.x * 16 + i.y
second {bs} {i} r = let x = r.x in let y = r.y in omega arith

pub two : (i : Instruction) (op : ℕ) → opcode_of i.kind ≡ Some op → op < 0x80 → i.x ≤ 15 → i.y ≤ 15 →
    i.size ≡ 2 → i.displacement ≡ 0 → Spells i (op ∷ (i.x * 16 + i.y) ∷ [])
two i op e h hx hy n d =
    let f = fields i hx hy in
    record {
      decodes = decodes (op ∷ (i.x * 16 + i.y) ∷ []) i (lit≤ tt) (at i op e).0 (sym (low op h)) (sym n) f.0 f.1 (sym d);
      only = λ other b o.
          let r = read other i b o in
          let long : length other ≡ 2 = r.1.long ∙ n in
          let l : other ≡ get_or other 0 0 ∷ get_or other 1 0 ∷ [] = filled other 2 long in
          let e0 : get_or other 0 0 ≡ op = first r.1 e ∙ ap (λ m. op + long_by m) n ∙ add-zero op in
          let e1 = second r.1 in
          cc;
    }

sign_digits : (a b w : ℕ) → a < 256 → b < 256 → w ≡ extended 16 (a * 256 + b) → (a ≡ w / 256 % 256) × (b ≡ w % 256)
sign_digits a b w ha hb e =
    let last : w % 65536 ≡ (a * 256 + b) % 65536 = (extends 16 (a * 256 + b) w (lit≤ tt) (lit≤ tt) e).last in
    (omega arith, omega arith)

pub four : (i : Instruction) (op c d : ℕ) → opcode_of i.kind ≡ Some op → 0x80 ≤ op → i.x ≤ 15 → i.y ≤ 15 → i.size ≡ 4 →
    c ≡ i.displacement / 256 % 256 → d ≡ i.displacement % 256 → extended 16 (c * 256 + d) ≡ i.displacement →
    Spells i (op ∷ (i.x * 16 + i.y) ∷ c ∷ d ∷ [])
four i op c d e h hx hy n ec ed w =
    let f = fields i hx hy in
    record {
      decodes = decodes (op ∷ (i.x * 16 + i.y) ∷ c ∷ d ∷ []) i (lit≤ tt) (at i op e).0 (sym (high i op e h).0) (sym n) f.0 f.1 w;
      only = λ other b o.
          let r = read other i b o in
          let long : length other ≡ 4 = r.1.long ∙ n in
          let l : other ≡ get_or other 0 0 ∷ get_or other 1 0 ∷ get_or other 2 0 ∷ get_or other 3 0 ∷ [] =
          filled other 4 long in
          let e0 : get_or other 0 0 ≡ op = first r.1 e ∙ ap (λ m. op + long_by m) n ∙ add-zero op in
          let e1 = second r.1 in
          let digits = sign_digits (get_or other 2 0) (get_or other 3 0) i.displacement (b 2) (b 3)
          (r.1.told ∙ ap (λ m. displacement_in (drop 2 m)) l) in
          let e2 : get_or other 2 0 ≡ c = digits.0 ∙ sym ec in
          let e3 : get_or other 3 0 ≡ d = digits.1 ∙ sym ed in
          cc;
    }

word_digits : (a b c d w : ℕ) → a < 256 → b < 256 → c < 256 → d < 256 → w ≡ a * 16777216 + b * 65536 + c * 256 + d →
    (a ≡ w / 16777216 % 256) × (b ≡ w / 65536 % 256) × (c ≡ w / 256 % 256) × (d ≡ w % 256)
word_digits a b c d w ha hb hc hd e = (omega arith, omega arith, omega arith, omega arith)

word_of : (w : ℕ) → w < 4294967296 →
    w / 16777216 % 256 * 16777216 + w / 65536 % 256 * 65536 + w / 256 % 256 * 256 + w % 256 ≡ w
word_of w h =
    let p : w / 65536 ≡ w / 256 / 256 = omega arith in
    let q : w / 16777216 ≡ w / 65536 / 256 = omega arith in
    let s : w / 16777216 % 256 ≡ w / 16777216 = omega arith in
    let a : w / 256 * 256 + w % 256 ≡ w = omega arith in
    let b : w / 65536 * 256 + w / 256 % 256 ≡ w / 256 = omega arith in
    let c : w / 16777216 * 256 + w / 65536 % 256 ≡ w / 65536 = omega arith in
    omega arith

pub six : (i : Instruction) (op : ℕ) → opcode_of i.kind ≡ Some op → 0x80 ≤ op → i.x ≤ 15 → i.y ≤ 15 → i.size ≡ 6 →
    i.displacement < 4294967296 →
    Spells i ((op + 16) ∷ (i.x * 16 + i.y) ∷ (i.displacement / 16777216 % 256) ∷ (i.displacement / 65536 % 256)
    ∷ (i.displacement / 256 % 256) ∷ (i.displacement % 256) ∷ [])
six i op e h hx hy n hw =
    let f = fields i hx hy in
    let p = high i op e h in
    record {
      decodes = decodes ((op + 16) ∷ (i.x * 16 + i.y) ∷ (i.displacement / 16777216 % 256) ∷ (i.displacement / 65536 % 256)
          ∷ (i.displacement / 256 % 256) ∷ (i.displacement % 256) ∷ []) i (lit≤ tt) p.1 (sym p.2) (sym n) f.0 f.1 (word_of i.displacement hw);
      only = λ other b o.
          let r = read other i b o in
          let long : length other ≡ 6 = r.1.long ∙ n in
          let l : other ≡ get_or other 0 0 ∷ get_or other 1 0 ∷ get_or other 2 0 ∷ get_or other 3 0 ∷ get_or other 4 0 ∷ get_or other 5 0 ∷ [] =
          filled other 6 long in
          let e0 : get_or other 0 0 ≡ op + 16 = first r.1 e ∙ ap (λ m. op + long_by m) n in
          let e1 = second r.1 in
          let digits = word_digits (get_or other 2 0) (get_or other 3 0) (get_or other 4 0) (get_or other 5 0) i.displacement
          (b 2) (b 3) (b 4) (b 5) (r.1.told ∙ ap (λ m. displacement_in (drop 2 m)) l) in
          let e2 = digits.0 in
          let e3 = digits.1 in
          let e4 = digits.2 in
          let e5 = digits.3 in
          cc;
    }

-- a kind that the map lacks
pub unmapped : (i : Instruction) → opcode_of i.kind ≡ None → Unspelled i
unmapped i e bs b d = let r = read bs i b d in let z : ◌≡◌ {A = ℕ} 0 1 = cc (r.1.from, e) in omega arith

-- what the format asks of an instruction, by its size
pub data Fits (i : Instruction) (op : ℕ) : Type 0 where
  fits-two : i.size ≡ 2 → op < 0x80 → i.displacement ≡ 0 → Fits i op
  fits-four : i.size ≡ 4 → 0x80 ≤ op → extended 16 (i.displacement / 256 % 256 * 256 + i.displacement % 256) ≡ i.displacement → Fits i op
  fits-six : i.size ≡ 6 → 0x80 ≤ op → Fits i op

by_size : (bs : List ℕ) (i : Instruction) (op : ℕ) → Bytes bs → Read bs i op → (t u : Bool) → ltb (get_or bs 0 0) 0x80 ≡ t →
    ltb (get_or bs 0 0 % 32) 16 ≡ u → i.size ≡ cond t 2 (cond u 4 6) → Fits i op
by_size bs i op b r true u et eu n =
    let l : bs ≡ get_or bs 0 0 ∷ get_or bs 1 0 ∷ [] = filled bs 2 (r.long ∙ n) in
    fits-two n (ltb-true op 0x80 (r.half ∙ et)) (r.told ∙ ap (λ m. displacement_in (drop 2 m)) l)
by_size bs i op b r false true et eu n =
    let l : bs ≡ get_or bs 0 0 ∷ get_or bs 1 0 ∷ get_or bs 2 0 ∷ get_or bs 3 0 ∷ [] =
    filled bs 4 (r.long ∙ n) in
    let told : i.displacement ≡ extended 16 (get_or bs 2 0 * 256 + get_or bs 3 0) = r.told ∙ ap (λ m. displacement_in (drop 2 m)) l in
    let digits = sign_digits (get_or bs 2 0) (get_or bs 3 0) i.displacement (b 2) (b 3) told in
    fits-four n (ltb-false op 0x80 (r.half ∙ et))
    (ap (λ m. extended 16 (m * 256 + i.displacement % 256)) (sym digits.0) ∙ ap (λ m. extended 16 (get_or bs 2 0 * 256 + m)) (sym digits.1) ∙ sym told)
by_size bs i op b r false false et eu n = fits-six n (ltb-false op 0x80 (r.half ∙ et))

pub fits : (i : Instruction) (op : ℕ) → opcode_of i.kind ≡ Some op → (bs : List ℕ) → Bytes bs → decoded bs ≡ Ok i → Fits i op
fits i op e bs b d =
    let r = read bs i b d in
    let same : r.0 ≡ op = cc (r.1.from, e) in
    subst (Fits i) same (by_size bs i r.0 b r.1 (ltb (get_or bs 0 0) 0x80) (ltb (get_or bs 0 0 % 32) 16) refl refl r.1.size)
