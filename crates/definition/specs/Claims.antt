-- What is claimed of finished code: demand 3 in document 01's words (how a run may stand, and where the branches are and lead), and document 02's L13 (it does
-- what the statements say); and when code is refused for a far branch (document 02, L1).
use Rattle.std.specs.Prelude.{ℕ, ◌+◌, ◌≤◌, ◌<◌, ◌≡◌, List, [], ◌∷◌, map, Bool, true, false, length, get_or, take}
use Rattle.std.proofs.Math.Option.{Option, some, none}
use Rattle.definition.specs.Limits.{max_code, max_back, max_forward, width}
use Rattle.definition.specs.Res.{ok}
use Rattle.definition.specs.Field.{has}
use Rattle.definition.specs.Opcode.{Role, Sheet, role_of, size, Flow, onward, away, either, stop, flow}
use Rattle.definition.specs.Sheet.{read_sheet}
use Rattle.definition.specs.Rules.{Rule, matches, read_rules}
use Rattle.definition.specs.Iec.{Values}
use Rattle.definition.specs.Tree.{Block, Program}
use Rattle.definition.specs.Program.{read_program}
use Rattle.definition.specs.Rewrite.{Bytes, opcode_of, decode, starts_from, OffsetMap, moved_to, apply_peephole}
use Rattle.definition.specs.Optimize.{Pipeline, run, identity}
use Rattle.definition.specs.Emit.{Emitter, PendingPatch}
use Rattle.definition.specs.Stmt.{emit_stmts}
use Rattle.definition.specs.Compile.{jump_targets, emit_program, Answer}
use Rattle.definition.specs.Runs.{State, Break, finishes, breaks, Stand, start, target}
use Rattle.definition.specs.Runs as runs
use Rattle.definition.specs.Machine.{Image}
use Rattle.definition.specs.Machine as machine
use Rattle.definition.specs.Meaning.{ends, exits, continues, returns, stops, spent, run_block}
use Rattle.definition.specs.Fused.{FusedBranch, Decides}
use Rattle.definition.specs.For.{place_after}

pub data Either (A B : Type 0) : Type 0 where
  left : A → Either A B
  right : B → Either A B

-- ---- runs

-- a run stands at one of the starts or at the end, has not broken off (so it never popped an empty stack), is at most `depth` high,
-- and is at height 0 if it has finished
pub record FineOver (starts code : List ℕ) (depth : ℕ) (y : Stand) : Type 0 where
  pub place : Either (has starts y.state.place ≡ true) (y.state.place ≡ length code)
  pub whole : (b : Break) → y.how ≡ breaks b → ⊥
  pub low : y.state.height ≤ depth
  pub empty : y.how ≡ finishes → y.state.height ≡ 0

-- over the starts that decoding gives
abbrev pub Fine : Sheet → List ℕ → ℕ → Stand → Type 0
Fine s code depth y = FineOver (starts_from 0 (decode s code)) code depth y

-- ---- branches

-- may an instruction go to a target?
unfoldable pub branches : Flow → Bool
branches onward = false
branches away = true
branches either = true
branches stop = false

unfoldable pub is_branch : Option Role → Bool
is_branch none = false
is_branch (some r) = branches (flow r)

-- the starts of branches among instructions of which the first starts at `at`
unfoldable pub branches_from : Sheet → ℕ → List Bytes → List ℕ
branches_from s at [] = []
branches_from s at (i ∷ is) = elim (is_branch (role_of s (opcode_of i))) [
  | true ↦ at ∷ branches_from s (at + length i) is
  | false ↦ branches_from s (at + length i) is
]

-- the branches of some code, by place
unfoldable pub branch_places : Sheet → List ℕ → List ℕ
branch_places s code = branches_from s 0 (decode s code)

-- ---- the maps of the three passes

-- the code before the first pass
unfoldable pub unmoved : Sheet → List ℕ → List ℕ → Pipeline
unmoved s code protected = record { bytecode = code; protected = protected; map = identity s code }

-- a pass's own map
unfoldable pub pass_map : Sheet → List Rule → ℕ → Pipeline → OffsetMap
pass_map s rules pass p = (apply_peephole s (λ a b. matches pass rules a b) p.protected p.bytecode).1

-- where the maps of the three passes, in turn, move a place of emitted code
unfoldable pub in_turn : Sheet → List Rule → List ℕ → List ℕ → ℕ → ℕ
in_turn s rules code protected x =
    let p₀ = unmoved s code protected in
    let p₁ = run s rules 1 p₀ in
    let p₂ = run s rules 2 p₁ in
    moved_to (pass_map s rules 3 p₂) (moved_to (pass_map s rules 2 p₁) (moved_to (pass_map s rules 1 p₀) x))

-- the instruction that starts at a place is a branch, and leads to another place
pub record LeadsTo (s : Sheet) (code : List ℕ) (place goal : ℕ) : Type 0 where
  pub start : has (starts_from 0 (decode s code)) place ≡ true
  pub role : Role
  pub here : role_of s (get_or code place 0) ≡ some role
  pub branch : branches (flow role) ≡ true
  pub there : target code (place + size role) ≡ some goal

infixr 20 ◌also◌
-- P holds of each
pub data Each {A : Type 0} (P : A → Type 0) : List A → Type 0 where
  empty : Each P []
  ◌also◌ : {x : A} {xs : List A} → P x → Each P xs → Each P (x ∷ xs)

-- a branch of emitted code, known by its patch: its label is bound at a place, and in finished code it leads, from where the three maps
-- move it, to where they move that place; and of its bytes all but the two of its offset are as they were emitted
pub record BranchLeads (s : Sheet) (rules : List Rule) (e : Emitter) (code : List ℕ) (p : PendingPatch) : Type 0 where
  pub bound : ℕ
  pub binds : get_or e.labels p.label none ≡ some bound
  pub leads : LeadsTo s code (in_turn s rules e.bytecode (jump_targets e) p.instruction_offset) (in_turn s rules e.bytecode (jump_targets e) bound)
  pub kept : (k : ℕ) → k < p.operand_delta → get_or code (in_turn s rules e.bytecode (jump_targets e) p.instruction_offset + k) 0 ≡ get_or e.bytecode (p.instruction_offset + k) 0

-- the branches of emitted code by place are those that have patches, in their order; those of finished code are the same ones, in the
-- same order, where the three maps move them
pub record Branches (s : Sheet) (rules : List Rule) (e : Emitter) (code : List ℕ) : Type 0 where
  pub emitted : branch_places s e.bytecode ≡ map (λ (p : PendingPatch). p.instruction_offset) e.patches
  pub finished : branch_places s code ≡ map (λ x. in_turn s rules e.bytecode (jump_targets e) x) (branch_places s e.bytecode)
  pub leads : Each (λ p. BranchLeads s rules e code p) e.patches

-- ---- fused comparisons

-- a fused branch stands in finished code where the three maps move the place at which it is emitted, and a run with values goes from
-- there to where they move the place where its label is bound, exactly where IEC's comparison of its condition asks for it
pub record FusedLeads (s : Sheet) (rules : List Rule) (p : Program) (e : Emitter) (m : Image) (b : FusedBranch (emit_stmts p.body 0).1) : Type 0 where
  pub bound : ℕ
  pub binds : get_or e.labels b.label none ≡ some bound
  pub decides : Decides m (in_turn s rules e.bytecode (jump_targets e) (place_after s p b.before)) (in_turn s rules e.bytecode (jump_targets e) bound) b.on b.condition

-- ---- all of it

-- finished code, with its constants and its depth, of a program p that is emitted as e
pub record SafeCode (s : Sheet) (rules : List Rule) (p : Program) (e : Emitter) (code constants : List ℕ) (depth : ℕ) : Type 0 where
  pub runs : (outcomes : List Bool) (n : ℕ) → Fine s code depth (runs.run s code n (start outcomes))
  pub branches : Branches s rules e code
  pub fused : (b : FusedBranch (emit_stmts p.body 0).1) → FusedLeads s rules p e (record { width = width; sheet = s; bytecode = code; constants = constants }) b

-- what a call that answers number 0 read and emitted, and what is claimed of the code that its outputs hold
pub record Safe (sheet rules program : List ℕ) (a : Answer) : Type 0 where
  pub s : Sheet
  pub rs : List Rule
  pub tree : Program
  pub e : Emitter
  pub sheet_read : read_sheet sheet ≡ some s
  pub rules_read : read_rules rules ≡ ok rs
  pub program_read : read_program program ≡ ok tree
  pub emission : emit_program s tree ≡ ok e
  pub whole : length (take a.code_length a.code) ≡ a.code_length
  pub fits : a.code_length ≤ max_code
  pub safe : SafeCode s rs tree e (take a.code_length a.code) (take a.constant_count a.constants) a.depth

-- ---- branches that are too far (document 02, L1)

-- target less next place, as a whole number, is below -32,768 or above 32,767
abbrev pub Far : ℕ → ℕ → Type 0
Far target next = Either (target + max_back < next) (next + max_forward < target)

-- a branch of emitted code, known by its patch, is too far in finished code: from where the three maps move it to where they move its target
pub record FarBranch (s : Sheet) (rules : List Rule) (e : Emitter) (place : ℕ) (p : PendingPatch) : Type 0 where
  pub bound : ℕ
  pub binds : get_or e.labels p.label none ≡ some bound
  pub here : in_turn s rules e.bytecode (jump_targets e) p.instruction_offset ≡ place
  pub far : Far (in_turn s rules e.bytecode (jump_targets e) bound) (place + p.operand_delta + 2)

-- P holds of one
pub data Some {A : Type 0} (P : A → Type 0) : List A → Type 0 where
  this : {x : A} {xs : List A} → P x → Some P (x ∷ xs)
  later : {x : A} {xs : List A} → Some P xs → Some P (x ∷ xs)

-- some branch, reached or not, is at that place of finished code, and is too far
abbrev pub FarAt : Sheet → List Rule → Emitter → ℕ → Type 0
FarAt s rules e place = Some (λ p. FarBranch s rules e place p) e.patches

-- what a call that answers number 15 read and emitted; and its place, the lowest of a branch that is too far
pub record TooFar (sheet rules program : List ℕ) (place : ℕ) : Type 0 where
  pub s : Sheet
  pub rs : List Rule
  pub tree : Program
  pub e : Emitter
  pub sheet_read : read_sheet sheet ≡ some s
  pub rules_read : read_rules rules ≡ ok rs
  pub program_read : read_program program ≡ ok tree
  pub emission : emit_program s tree ≡ ok e
  pub far : FarAt s rs e place
  pub lowest : (x : ℕ) → FarAt s rs e x → place ≤ x

-- ---- what the statements say (document 02, L13)

-- where a run with values begins
unfoldable pub begin : Values → machine.State
begin σ = record { place = 0; stack = []; variables = σ }

-- the run from σ goes on to a state whose step is z, with the variables τ
pub record Until (m : Image) (z : machine.Step) (σ τ : Values) : Type 0 where
  pub steps : ℕ
  pub last : machine.State
  pub there : machine.after_steps m steps (begin σ) ≡ some last
  pub is : machine.step m last ≡ z
  pub values : last.variables ≡ τ

pub record Finishes (m : Image) (σ τ : Values) : Type 0 where
  pub run : Until m machine.finishes σ τ
  pub empty : run.last.stack ≡ []

-- "from any starting values, running the code gives each variable the value the statements give it". The statements' answers: f is their fuel
pub record DoesAsSaid (m : Image) (b : Block) (σ : Values) : Type 0 where
  -- they end at τ, or return there: so does the code, with nothing on its stack
  pub ends : (f : ℕ) (τ : Values) → run_block m.width b f σ ≡ ends τ → Finishes m σ τ
  pub returns : (f : ℕ) (τ : Values) → run_block m.width b f σ ≡ returns τ → Finishes m σ τ
  -- "a zero divisor .. stops both sides at the same variables"
  pub stops : (f : ℕ) (τ : Values) → run_block m.width b f σ ≡ stops τ → Until m machine.stops σ τ
  -- "if the statements never end, neither does the code"
  pub endless : ((f : ℕ) → run_block m.width b f σ ≡ spent) → (n : ℕ) → (y : machine.State) × (machine.after_steps m n (begin σ) ≡ some y)
  -- and they come to nothing else: no EXIT and no CONTINUE leads out of them
  pub exits_never : (f i : ℕ) (τ : Values) → run_block m.width b f σ ≡ exits i τ → ⊥
  pub continues_never : (f i : ℕ) (τ : Values) → run_block m.width b f σ ≡ continues i τ → ⊥

-- the code and the constants that a call's outputs hold
unfoldable pub image_in : Sheet → Answer → Image
image_in s a = record { width = width; sheet = s; bytecode = take a.code_length a.code; constants = take a.constant_count a.constants }

-- "for programs with an empty rule file": what a call that answers number 0 read, and what its code does, from any starting values
pub record Faithful (sheet program : List ℕ) (a : Answer) : Type 0 where
  pub s : Sheet
  pub tree : Program
  pub sheet_read : read_sheet sheet ≡ some s
  pub program_read : read_program program ≡ ok tree
  pub does : (σ : Values) → DoesAsSaid (image_in s a) tree.body σ

-- ---- heights by place: no claim of document 01

-- Each place of some code has one height, `heightAt`: a run that stands there, over whatever outcomes and after however many steps, has it
-- (`held`). So has one that begins at any start or the end, reached or not, at that place's height, if that is not over the depth, and it is
-- fine (`from`).
pub record OneHeight (s : Sheet) (code : List ℕ) (depth : ℕ) : Type 0 where
  pub height_at : ℕ → ℕ
  pub first : height_at 0 ≡ 0
  pub held : (outcomes : List Bool) (n : ℕ) → (runs.run s code n (start outcomes)).state.height ≡ height_at (runs.run s code n (start outcomes)).state.place
  pub from : (x : State) → Either (has (starts_from 0 (decode s code)) x.place ≡ true) (x.place ≡ length code) → x.height ≡ height_at x.place → x.height ≤ depth → (n : ℕ)
      → Fine s code depth (runs.run s code n x) × ((runs.run s code n x).state.height ≡ height_at (runs.run s code n x).state.place)

-- `unfolding open-Claims` names all of this module's definitions at once
unfoldable pub open-Claims : Unit {0}
unfolding branches is_branch branches_from branch_places unmoved pass_map in_turn begin image_in
open-Claims = tt
