-- The lookup in a table of rules, for instructions that were decoded.
use mathlib.Core.Path.{◌≡◌, refl, sym, ◌∙◌}
use mathlib.Core.List.{List}
use mathlib.Core.Option.{Option, none}
use Prim.Native.Nat.{ℕ, ◌<◌}
use lib.ListN.{get_or}
use Rattle.definition.specs.Rules.{Action}
use Rattle.definition.specs.Opcode.{Sheet, role_of}
use Rattle.definition.specs.Rewrite.{Bytes, operand_of, instruction}
use Rattle.opcode.specs.Table.{number_or}
use Rattle.rules.specs.declared.Instruction.{Instruction}
use Rattle.std.specs.Prelude as std
use Rattle.std.specs.Prelude.{Some}
use Rattle.rules.specs.View.{Inside, instruction_view, IsRules, found_in, pair_at, no_rule, head_in, Indexed}
use Rattle.rules.proofs.Lookup.{found-finds}
use Rattle.rules.proofs.Chain.{finds-none}
use Rattle.rewrite.specs.View.{matcher, Looked}
use Rattle.rewrite.proofs.Sizes.{saw}

pub looked : {table : List ℕ} {count : ℕ} (pass : ℕ) (x y : Instruction) {f : std.Option ℕ} (s : Sheet) (b : Bytes) → IsRules table count → f ≡ found_in table count pass x y
    → instruction_view y ≡ instruction s b → Looked table count (matcher table count pass (instruction_view x) (instruction s b)) f
looked pass x y s b t e eb = let d = found-finds t pass x y in record { is = rw (← eb, e) d.is; inside = rw e d.inside }

pub looked-first : {table : List ℕ} {count : ℕ} (pass : ℕ) (x : Instruction) {f : std.Option ℕ} (s : Sheet) (a b : Bytes) → instruction_view x ≡ instruction s a
    → Looked table count (matcher table count pass (instruction_view x) (instruction s b)) f → Looked table count (matcher table count pass (instruction s a) (instruction s b)) f
looked-first pass x s a b e l = rw e at l

-- where no rule of the pass starts with an instruction's role, none fits it and another
pub unmatched : {table index : List ℕ} {count pass : ℕ} (x : Instruction) (s : Sheet) (a : Bytes) → IsRules table count → Indexed table count pass index → instruction_view x ≡ instruction s a
    → head_in index x.role ≡ no_rule → (b : Bytes) → matcher table count pass (instruction s a) (instruction s b) ≡ none
unfolding pair_at
unmatched {pass = pass} x s a t i ea e b =
    let y : Instruction = record { role = number_or (role_of s (get_or b 0 0)); operand = operand_of b } in
    rw (← ea, ← saw s b refl refl refl) (sym (found-finds t pass x y).is ∙ rw (finds-none t i x y e))

pub looked-inside : {table : List ℕ} {count i : ℕ} {q : Option (Action × Action)} {f : std.Option ℕ} → Looked table count q f → f ≡ Some i → i < count
unfolding Inside
looked-inside l e = rw e at l.inside
