-- The table and its rule, each settled at once over all 256 opcodes.
use Rattle.std.proofs.Common.{◌≡◌, ℕ, ◌%◌, ◌<◌, Bool, true, false, cond, not, eqb, ltb, List, map, get_or, refl, ap, ◌∙◌, zero-add, ltb-true, eqb-true, rules}
use Rattle.std.proofs.lemmas.Bool.{agree_below_at}
use Rattle.std.proofs.lemmas.List.FromFn.{get_or-map-range_with_len}
use Rattle.std.specs.List.{range_with_len}
use Rattle.isa.specs.Formats.{LastBit, displaced, shape_of, size_at}
use Rattle.isa.specs.Map.{opcode_at, length_of, Ruled}
use Rattle.isa.specs.declared.kinds.Indexing.TheVariants.{Direct, Indexed}
use Rattle.isa.specs.declared.kinds.Opcode.{Opcode}
use Rattle.isa.specs.declared.kinds.Opcode.TheVariants.{Empty, Carried}
use Rattle.isa.specs.declared.kinds.Shape.{Shape}
use Rattle.isa.specs.declared.kinds.Shape.TheVariants.{Memory}

-- the row of an opcode by the map and the length rule
abbrev pub row_at : ℕ → Opcode × ℕ
row_at op = (opcode_at op, length_of (opcode_at op) op)

pub row_of : (xs : List (Opcode × ℕ)) → xs ≡ map row_at (range_with_len 0 256) → (op : ℕ) → op < 256 → get_or xs op (Empty, 0) ≡ row_at op
row_of xs e op h =
    ap (λ (l : List (Opcode × ℕ)). get_or l op (Empty, 0)) e
    ∙ get_or-map-range_with_len row_at 0 256 op op (Empty, 0) h (zero-add op)

-- whether the cell of an opcode belongs into the upper half of the map
upper : Opcode → ℕ → Bool
upper Empty op = not (ltb op 0x80)
upper (Carried k) op = displaced (shape_of k)
upper _ _ = false

-- whether the last bit of an opcode is what its shape says
bit-holds : Shape → ℕ → Bool
bit-holds (Memory Direct) op = eqb (op % 2) 0
bit-holds (Memory Indexed) op = eqb (op % 2) 1
bit-holds _ _ = true

bit-sound : (s : Shape) (op : ℕ) → bit-holds s op ≡ true → LastBit s op
unfolding bit-holds
bit-sound (Memory Direct) op e = eqb-true (op % 2) 0 e
bit-sound (Memory Indexed) op e = eqb-true (op % 2) 1 e
bit-sound _ _ _ = tt

bit_at : Opcode → ℕ → Bool
bit_at (Carried k) op = bit-holds (shape_of k) op
bit_at _ _ = true

short : (op : ℕ) → false ≡ not (ltb op 0x80) → (op < 0x80) × (size_at op ≡ 2)
short op e =
    let t : ltb op 0x80 ≡ true = search rules in
    (ltb-true op 0x80 t, ap (λ b. cond b 2 (cond (ltb (op % 32) 16) 4 6)) t)

sound : (op : ℕ) (o : Opcode) → upper o op ≡ not (ltb op 0x80) → bit_at o op ≡ true → Ruled op o (length_of o op)
unfolding upper bit_at
sound op Empty u b = refl
sound op (Carried k) u b = record { half = u; last_bit = bit-sound (shape_of k) op b; long = refl }
sound op _ u b = short op u

pub ruled : (op : ℕ) → op < 256 → Ruled op (opcode_at op) (length_of (opcode_at op) op)
unfolding upper bit-holds bit_at opcode_at
ruled op h =
    sound op (opcode_at op) (agree_below_at (λ n. upper (opcode_at n) n) (λ n. not (ltb n 0x80)) 256 op refl h)
    (agree_below_at (λ n. bit_at (opcode_at n) n) (λ _. true) 256 op refl h)
