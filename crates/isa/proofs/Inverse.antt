-- The map read the other way: the opcode of a kind is where the map has that kind.
use Rattle.std.proofs.Common.{◌≡◌, ℕ, ◌+◌, ◌<◌, Bool, true, false, cond, eqb, ltb, Some, None, Option, sym, refl, ap, ◌∙◌, arith, eqb-true}
use Rattle.std.proofs.lemmas.Bool.{agree_below_at}
use Rattle.std.proofs.lemmas.Bool.Decides.{nat_tests}
use Rattle.isa.specs.Formats.{size_at}
use Rattle.isa.specs.Map.{opcode_at}
use Rattle.isa.specs.Opcodes.{opcode_of}
use Rattle.isa.specs.declared.kinds.Indexing.TheVariants.{Direct}
use Rattle.isa.specs.declared.kinds.Kind.{Kind}
use Rattle.isa.specs.declared.kinds.Kind.TheVariants.{Move, Add, Sub, Mpy, Not, And, Chk, Test, Lsl, Lsr, Asl, Asr, Dlsl, Dlsr, Csl, Branch, Store, Load, Laddr}
use Rattle.isa.specs.declared.kinds.Opcode.{Opcode}
use Rattle.isa.specs.declared.kinds.Opcode.TheVariants.{Carried}
use Rattle.words.specs.declared.relations.Relation.TheVariants.{Greater, Less, Equal, LessOrEqual, GreaterOrEqual, NotEqual}
use Rattle.isa.specs.declared.kinds.Second.TheVariants.{Register}
use Rattle.isa.specs.declared.kinds.Side.TheVariants.{Code, Data}
use Rattle.isa.specs.declared.kinds.Width.TheVariants.{Byte, Halfword, Word, Double}

-- how far the last form of a kind stands behind its first: sixteen from 80h up
abbrev pub last_by : ℕ → ℕ
last_by op = cond (ltb op 0x80) 0 16

-- below 80h a kind has one opcode, of two bytes; from 80h up its short form takes four bytes and its long form six
abbrev pub Stands : Option ℕ → Kind → Type 0
Stands None k = Unit {0}
Stands (Some op) k =
    (opcode_at op ≡ Carried k) × (opcode_at (op + last_by op) ≡ Carried k)
    × (size_at op ≡ cond (ltb op 0x80) 2 4) × (size_at (op + last_by op) ≡ cond (ltb op 0x80) 2 6)

pub stands : (k : Kind) → Stands (opcode_of k) k
unfolding opcode_at
stands (Move Register) = (refl, refl, refl, refl)
stands (Add Register) = (refl, refl, refl, refl)
stands (Sub Register) = (refl, refl, refl, refl)
stands (Mpy Register) = (refl, refl, refl, refl)
stands (Not Register) = (refl, refl, refl, refl)
stands (And Register) = (refl, refl, refl, refl)
stands (Chk Register) = (refl, refl, refl, refl)
stands (Lsl Register) = (refl, refl, refl, refl)
stands (Lsr Register) = (refl, refl, refl, refl)
stands (Asl Register) = (refl, refl, refl, refl)
stands (Asr Register) = (refl, refl, refl, refl)
stands (Dlsl Register) = (refl, refl, refl, refl)
stands (Dlsr Register) = (refl, refl, refl, refl)
stands (Csl Register) = (refl, refl, refl, refl)
stands (Test Greater Register) = (refl, refl, refl, refl)
stands (Test Less Register) = (refl, refl, refl, refl)
stands (Test Equal Register) = (refl, refl, refl, refl)
stands (Test LessOrEqual Register) = (refl, refl, refl, refl)
stands (Test GreaterOrEqual Register) = (refl, refl, refl, refl)
stands (Test NotEqual Register) = (refl, refl, refl, refl)
stands (Branch Greater Register) = (refl, refl, refl, refl)
stands (Branch Less Register) = tt
stands (Branch Equal Register) = (refl, refl, refl, refl)
stands (Branch LessOrEqual Register) = (refl, refl, refl, refl)
stands (Branch GreaterOrEqual Register) = tt
stands (Branch NotEqual Register) = (refl, refl, refl, refl)
stands (Store Byte Direct) = (refl, refl, refl, refl)
stands (Store Halfword Direct) = (refl, refl, refl, refl)
stands (Store Word Direct) = (refl, refl, refl, refl)
stands (Store Double Direct) = (refl, refl, refl, refl)
stands (Load Data Byte Direct) = (refl, refl, refl, refl)
stands (Load Data Halfword Direct) = (refl, refl, refl, refl)
stands (Load Data Word Direct) = (refl, refl, refl, refl)
stands (Load Data Double Direct) = (refl, refl, refl, refl)
stands (Load Code Byte Direct) = (refl, refl, refl, refl)
stands (Load Code Halfword Direct) = (refl, refl, refl, refl)
stands (Load Code Word Direct) = (refl, refl, refl, refl)
stands (Load Code Double Direct) = (refl, refl, refl, refl)
stands (Laddr Data Direct) = (refl, refl, refl, refl)
stands (Laddr Code Direct) = (refl, refl, refl, refl)
stands _ = (refl, refl, refl, refl)

-- how far a long form stands behind the short one, by the size
abbrev pub long_by : ℕ → ℕ
long_by size = cond (eqb size 6) 16 0

-- where a kind stands, its opcode leads there: as a test
is_back : Option ℕ → ℕ → Bool
is_back None op = false
is_back (Some s) op = eqb op (s + long_by (size_at op))

back : Opcode → ℕ → Bool
back (Carried k) op = is_back (opcode_of k) op
back _ _ = true

-- the opcode s of a kind that stands at op
pub record Leads (k : Kind) (op s : ℕ) : Type 0 where
  pub from : opcode_of k ≡ Some s
  pub here : op ≡ s + long_by (size_at op)
  pub half : ltb s 0x80 ≡ ltb op 0x80

-- sixteen before an opcode of six bytes is one from 80h up
half_of : (op s : ℕ) → op ≡ s + long_by (size_at op) → ltb s 0x80 ≡ ltb op 0x80
half_of op s e = grind (arith, nat_tests)

told : (k : Kind) (op : ℕ) (o : Option ℕ) → opcode_of k ≡ o → is_back o op ≡ true → (s : ℕ) × Leads k op s
unfolding is_back
told k op None e b = cc
told k op (Some s) e b =
    let here : op ≡ s + long_by (size_at op) = eqb-true _ _ b in
    (s, record { from = e; here = here; half = half_of op s here })

pub leads : (op : ℕ) (k : Kind) → op < 256 → opcode_at op ≡ Carried k → (s : ℕ) × Leads k op s
unfolding back is_back opcode_at
leads op k h e =
    told k op (opcode_of k) refl
    (ap (λ o. back o op) (sym e) ∙ agree_below_at (λ n. back (opcode_at n) n) (λ _. true) 256 op refl h)
