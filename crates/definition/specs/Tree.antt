-- The tree that a program's lines spell (the source's lowered statements and expressions). It is read from any bytes: where the text
-- is at fault there is a leaf `bad` with the refusal, and emission refuses at it.
use Rattle.std.specs.Prelude.{ℕ, ◌-◌, ◌^◌, List, [], ◌∷◌, Bool, true, false, ◌&&◌, eqb, leb, get_or}
use Rattle.std.proofs.Math.Option.{Option, some, none}
use Rattle.definition.specs.Opcode.{BinaryOp, UnaryOp, CompareOp, Le, Ge, ShortCircuitOp}

-- a source position
pub record Pos : Type 0 where
  pub line : ℕ
  pub column : ℕ

-- its numbers, in the order of its fields, and the position that some numbers begin with
unfoldable pub pos_numbers : Pos → List ℕ
pos_numbers p = p.line ∷ p.column ∷ []

unfoldable pub pos_of : List ℕ → Pos
pos_of ns = record { line = get_or ns 0 0; column = get_or ns 1 0 }

-- a statement's position, and the file line on which the statement stands
pub record Source : Type 0 where
  pub pos : Pos
  pub row : ℕ

-- a refusal and its place
pub record Fault : Type 0 where
  pub number : ℕ
  pub place : ℕ

-- a constant as its two's complement bits: of an expression, a CASE label, a FOR's step, a fused comparison, the pool
abbrev pub Constant : Type 0
Constant = ℕ

-- its one equality
abbrev pub same_constant : Constant → Constant → Bool
same_constant = eqb

pub data Expr : Type 0 where
  const : Constant → Expr
  bool : Bool → Expr
  read : ℕ → Expr
  binary : BinaryOp → Expr → Expr → Expr
  unary : UnaryOp → Expr → Expr
  compare : CompareOp → Expr → Expr → Expr
  short_circuit : ShortCircuitOp → Expr → Expr → Expr
  bad : Fault → Expr

pub data CaseLabel : Type 0 where
  value : Constant → CaseLabel
  range : Constant → Constant → CaseLabel
  bad_label : Fault → CaseLabel

mutual
  pub data Stmt : Type 0 where
    assign : Source → ℕ → Expr → Stmt
    if : Source → Expr → Block → Block → Stmt
    case : Source → Expr → Arms → Block → Stmt
    -- loop number, control variable, step, from, to, body
    for : Source → ℕ → ℕ → Constant → Expr → Expr → Block → Stmt
    -- loop number, body, `continuing`
    loop : Source → ℕ → Block → Block → Stmt
    exit : Source → ℕ → Stmt
    continue : Source → ℕ → Stmt
    return : Source → Stmt
    bad_stmt : Fault → Stmt

  pub data Block : Type 0 where
    done : Block
    ◌then◌ : Stmt → Block → Block

  pub data Arms : Type 0 where
    no_arms : Arms
    arm : List CaseLabel → Block → Arms → Arms
    bad_arm : Fault → Arms

infixr 20 ◌then◌
-- a program's header position and its top statements
pub record Program : Type 0 where
  pub pos : Pos
  pub body : Block

-- ---- the shapes of WHILE and REPEAT (body/stmt.rs)

unfoldable pub is_done : Block → Bool
is_done done = true
is_done (s then b) = false

unfoldable pub is_exit_stmt : ℕ → Stmt → Bool
is_exit_stmt i (assign s v e) = false
is_exit_stmt i (if s c t e) = false
is_exit_stmt i (case s e xs b) = false
is_exit_stmt i (for s j v k a b c) = false
is_exit_stmt i (loop s j b c) = false
is_exit_stmt i (exit s j) = eqb i j
is_exit_stmt i (continue s j) = false
is_exit_stmt i (return s) = false
is_exit_stmt i (bad_stmt f) = false

-- `is_exit`: a block that is a sole EXIT of loop i
unfoldable pub is_exit : ℕ → Block → Bool
is_exit i done = false
is_exit i (s then b) = is_exit_stmt i s && is_done b

unfoldable pub only_if : Bool → Expr → Option Expr
only_if true c = some c
only_if false c = none

-- `exit_when`: the condition of IF c THEN EXIT i
unfoldable pub exit_when : ℕ → Stmt → Option Expr
exit_when i (assign s v e) = none
exit_when i (if s c t e) = only_if (is_done e && is_exit i t) c
exit_when i (case s e xs b) = none
exit_when i (for s j v k a b c) = none
exit_when i (loop s j b c) = none
exit_when i (exit s j) = none
exit_when i (continue s j) = none
exit_when i (return s) = none
exit_when i (bad_stmt f) = none

-- `exit_unless`: the condition of IF c ELSE EXIT i
unfoldable pub exit_unless : ℕ → Stmt → Option Expr
exit_unless i (assign s v e) = none
exit_unless i (if s c t e) = only_if (is_done t && is_exit i e) c
exit_unless i (case s e xs b) = none
exit_unless i (for s j v k a b c) = none
exit_unless i (loop s j b c) = none
exit_unless i (exit s j) = none
exit_unless i (continue s j) = none
exit_unless i (return s) = none
exit_unless i (bad_stmt f) = none

pub data Shape : Type 0 where
  while : Expr → Shape
  repeat : Expr → Shape
  plain : Shape

unfoldable pub repeat_or : Option Expr → Shape
repeat_or (some c) = repeat c
repeat_or none = plain

unfoldable pub while_or : Option Expr → Shape
while_or (some c) = while c
while_or none = plain

-- of loop i: body, `continuing`
unfoldable pub shape : ℕ → Block → Block → Shape
shape i b (s then done) = repeat_or (exit_when i s)
shape i b (s then (t then c)) = plain
shape i (s then b) done = while_or (exit_unless i s)
shape i done done = plain

-- ---- a FOR's direction, and the comparison that keeps its control within the end

-- is a value of w bits negative? Such a step counts down (a stand-in)
unfoldable pub counts_down : ℕ → Constant → Bool
counts_down w step = leb (2 ^ (w - 1)) step

unfoldable pub bound : Bool → CompareOp
bound true = Ge
bound false = Le

-- `unfolding open-Tree` names all of this module's definitions at once
unfoldable pub open-Tree : Unit {0}
unfolding pos_numbers pos_of is_done is_exit_stmt is_exit only_if exit_when exit_unless repeat_or while_or shape counts_down bound
open-Tree = tt
