-- Reading a program from any bytes (document 01, 'Program'; refusals 1, 6, 5, 2, 3). One reading gives the tree; the first fault in it,
-- in the order of the lines, is the refusal.
use Rattle.std.specs.Prelude.{ℕ, ◌+◌, suc, zero, List, [], ◌∷◌, ◌++◌, Bool, true, false, ◌&&◌, eqb, leb, ltb, length, get_or, drop}
use Prim.Native.Char.{code}
use Rattle.std.proofs.Math.Option.{Option, some, none}
use Rattle.definition.specs.Limits.{max_program, max_nesting, max_variables, max_field, width, bad_text, bad_form, bad_range, too_deep, wrong_lines}
use Rattle.definition.specs.Res.{Res, ok, refuse, ◌>>=◌, ◌>>◌, demand}
use Rattle.definition.specs.Field.{lf, comma, split, first_line, Field, up_to, below, Numbers, wrong, far, are, numbers}
use Rattle.definition.specs.Field as fields
use Rattle.definition.specs.Opcode.{Add, BinaryOp, Arithmetic, binary_ops, UnaryOp, Neg, BoolNot, CompareOp, Eq, Ne, Lt, Le, Gt, Ge, ShortCircuitOp, AndThen, OrElse}
use Rattle.definition.specs.Tree.{Constant, Pos, pos_numbers, pos_of, Source, Fault, Expr, const, bool, read, binary, unary, compare, short_circuit, bad, CaseLabel, value, range, bad_label, Stmt, assign, if, case, for, loop, exit, continue, return, bad_stmt, Block, done, ◌then◌, Arms, no_arms, arm, bad_arm, Program}

-- ---- one line

-- a place in the text: the byte where a line starts, and its number
pub record Cursor : Type 0 where
  pub at : ℕ
  pub row : ℕ

-- how a letter's line is read: its fields, and what their numbers make
pub record Form (L : Type 0) : Type 0 where
  pub letter : ℕ
  pub fields : List Field
  pub make : List ℕ → L

unfoldable pub form : {L : Type 0} → ℕ → List Field → (List ℕ → L) → Form L
form b fs f = record { letter = b; fields = fs; make = f }

-- a line, or the number of its refusal
pub data Line (L : Type 0) : Type 0 where
  is : L → Line L
  not : ℕ → Line L

unfoldable pub made : {L : Type 0} → (List ℕ → L) → Numbers → Line L
made f wrong = not bad_form
made f far = not bad_range
made f (are ns) = is (f ns)

unfoldable pub by_letter : {L : Type 0} → List (Form L) → ℕ → List (List ℕ) → Line L
by_letter [] b fs = not bad_form
by_letter (x ∷ xs) b fs = elim (eqb x.letter b) [ true ↦ made x.make (numbers x.fields fs) | false ↦ by_letter xs b fs ]

-- field 0 is one letter
unfoldable pub line_of : {L : Type 0} → List (Form L) → List (List ℕ) → Line L
line_of forms [] = not bad_form
line_of forms ([] ∷ fs) = not bad_form
line_of forms ((b ∷ []) ∷ fs) = by_letter forms b fs
line_of forms ((b ∷ c ∷ bs) ∷ fs) = not bad_form

-- the line at a place, with so many nesting levels left: 6, 5, 2, 3
unfoldable pub line_at : {L : Type 0} → List (Form L) → ℕ → List ℕ → ℕ → Line L
line_at forms left text at = elim (ltb at (length text)) [
  | false ↦ not wrong_lines
  | true ↦ elim (eqb left 0) [ true ↦ not too_deep | false ↦ line_of forms (split comma (first_line (drop at text))) ]
]

-- a line's refusal: where no level is left there is always one
unfoldable pub refusal : {L : Type 0} → Line L → ℕ
refusal (is l) = 0
refusal (not n) = n

-- the place of the next line
unfoldable pub next_line : List ℕ → Cursor → Cursor
next_line text c = record { at = c.at + length (first_line (drop c.at text)) + 1; row = c.row + 1 }

unfoldable pub fault_at : Cursor → ℕ → Fault
fault_at c n = record { number = n; place = c.row }

-- ---- the letters

unfoldable pub num : List ℕ → ℕ → ℕ
num ns i = get_or ns i 0

abbrev pub any : Field
any = up_to max_field

abbrev pub signed : Field
signed = fields.value width

-- the fields of a position, wherever one stands
unfoldable pub pos_fields : List Field
pos_fields = any ∷ any ∷ []

-- the numbers behind the position that they begin with
unfoldable pub behind_pos : List ℕ → List ℕ
behind_pos ns = drop (length pos_fields) ns

-- a letter whose fields begin with a position
unfoldable pub placed : {L : Type 0} → ℕ → List Field → (Pos → List ℕ → L) → Form L
placed b fs f = form b (pos_fields ++ fs) (λ ns. f (pos_of ns) (behind_pos ns))

pub record Header : Type 0 where
  pub variables : ℕ
  pub statements : ℕ
  pub pos : Pos

unfoldable pub header_forms : List (Form Header)
header_forms = form (code "P") (up_to max_variables ∷ any ∷ pos_fields) (λ ns. record { variables = num ns 0; statements = num ns 1; pos = pos_of (drop 2 ns) }) ∷ []

-- counts are those of statements, but for S's arms
pub data StmtLine : Type 0 where
  -- variable
  A : Pos → ℕ → StmtLine
  -- then, else
  I : Pos → ℕ → ℕ → StmtLine
  -- arms, else
  S : Pos → ℕ → ℕ → StmtLine
  -- loop, variable, step, body
  F : Pos → ℕ → ℕ → Constant → ℕ → StmtLine
  -- loop, body, continuing
  L : Pos → ℕ → ℕ → ℕ → StmtLine
  -- loop
  X : Pos → ℕ → StmtLine
  N : Pos → ℕ → StmtLine
  R : Pos → StmtLine

-- the lines of a program of v variables
unfoldable pub stmt_forms : ℕ → List (Form StmtLine)
stmt_forms v = placed (code "A") (below v ∷ []) (λ p ns. A p (num ns 0))
    ∷ placed (code "I") (any ∷ any ∷ []) (λ p ns. I p (num ns 0) (num ns 1))
    ∷ placed (code "S") (any ∷ any ∷ []) (λ p ns. S p (num ns 0) (num ns 1))
    ∷ placed (code "F") (any ∷ below v ∷ signed ∷ any ∷ []) (λ p ns. F p (num ns 0) (num ns 1) (num ns 2) (num ns 3))
    ∷ placed (code "L") (any ∷ any ∷ any ∷ []) (λ p ns. L p (num ns 0) (num ns 1) (num ns 2))
    ∷ placed (code "X") (any ∷ []) (λ p ns. X p (num ns 0))
    ∷ placed (code "N") (any ∷ []) (λ p ns. N p (num ns 0))
    ∷ placed (code "R") [] (λ p ns. R p)
    ∷ []

pub data ExprLine : Type 0 where
  K : Constant → ExprLine
  B : Bool → ExprLine
  D : ℕ → ExprLine
  O : BinaryOp → ExprLine
  U : UnaryOp → ExprLine
  C : CompareOp → ExprLine
  H : ShortCircuitOp → ExprLine

unfoldable pub expr_forms : ℕ → List (Form ExprLine)
expr_forms v = form (code "K") (signed ∷ []) (λ ns. K (num ns 0))
    ∷ form (code "B") (up_to 1 ∷ []) (λ ns. B (eqb (num ns 0) 1))
    ∷ form (code "D") (below v ∷ []) (λ ns. D (num ns 0))
    ∷ form (code "O") (up_to 7 ∷ []) (λ ns. O (get_or binary_ops (num ns 0) (Arithmetic Add)))
    ∷ form (code "U") (up_to 1 ∷ []) (λ ns. U (get_or (Neg ∷ BoolNot ∷ []) (num ns 0) Neg))
    ∷ form (code "C") (up_to 5 ∷ []) (λ ns. C (get_or (Eq ∷ Ne ∷ Lt ∷ Le ∷ Gt ∷ Ge ∷ []) (num ns 0) Eq))
    ∷ form (code "H") (up_to 1 ∷ []) (λ ns. H (get_or (AndThen ∷ OrElse ∷ []) (num ns 0) AndThen))
    ∷ []

-- `M`: labels, statements
pub data ArmLine : Type 0 where
  M : ℕ → ℕ → ArmLine

unfoldable pub arm_forms : List (Form ArmLine)
arm_forms = form (code "M") (any ∷ any ∷ []) (λ ns. M (num ns 0) (num ns 1)) ∷ []

-- `Q`, `G`
unfoldable pub label_forms : List (Form CaseLabel)
label_forms = form (code "Q") (signed ∷ []) (λ ns. value (num ns 0))
    ∷ form (code "G") (signed ∷ signed ∷ []) (λ ns. range (num ns 0) (num ns 1))
    ∷ []

-- ---- the tree: what is read, and the place after it. What stands behind a bad line is of no account

-- how a part of the program is read at a place
abbrev pub Reader : Type 0 → Type 0
Reader Part = Cursor → Part × Cursor

unfoldable pub expr_of : Reader Expr → Cursor → ExprLine → Expr × Cursor
expr_of expr c (K k) = (const k, c)
expr_of expr c (B b) = (bool b, c)
expr_of expr c (D v) = (read v, c)
expr_of expr c (O o) = let a = expr c in let b = expr a.1 in (binary o a.0 b.0, b.1)
expr_of expr c (U o) = let a = expr c in (unary o a.0, a.1)
expr_of expr c (C o) = let a = expr c in let b = expr a.1 in (compare o a.0 b.0, b.1)
expr_of expr c (H o) = let a = expr c in let b = expr a.1 in (short_circuit o a.0 b.0, b.1)

unfoldable pub expr_by : Reader Expr → List ℕ → Cursor → Line ExprLine → Expr × Cursor
expr_by expr text c (is l) = expr_of expr (next_line text c) l
expr_by expr text c (not n) = (bad (fault_at c n), c)

-- an expression at a place, with so many nesting levels left, in a program of v variables
unfoldable pub expr_at : ℕ → ℕ → List ℕ → Reader Expr
expr_at zero v text = λ c. (bad (fault_at c (refusal (line_at (expr_forms v) zero text c.at))), c)
expr_at (suc left) v text = λ c. expr_by (λ d. expr_at left v text d) text c (line_at (expr_forms v) (suc left) text c.at)

-- so many of them
unfoldable pub label_by : List ℕ → Cursor → Line CaseLabel → CaseLabel × Cursor
label_by text c (is l) = (l, next_line text c)
label_by text c (not n) = (bad_label (fault_at c n), c)

unfoldable pub labels_at : ℕ → List ℕ → ℕ → Reader (List CaseLabel)
labels_at left text zero c = ([], c)
labels_at left text (suc n) c =
    let a = label_by text c (line_at label_forms left text c.at) in
    let b = labels_at left text n a.1 in
    (a.0 ∷ b.0, b.1)

unfoldable pub block_of : Reader Stmt → ℕ → Reader Block
block_of stmt zero c = (done, c)
block_of stmt (suc n) c = let a = stmt c in let b = block_of stmt n a.1 in (a.0 then b.0, b.1)

-- an arm's line, its labels and its body, and then the arms after it
unfoldable pub arm_by : ℕ → List ℕ → Reader Stmt → Reader Arms → Cursor → Line ArmLine → Arms × Cursor
arm_by left text stmt more c (not n) = (bad_arm (fault_at c n), c)
arm_by left text stmt more c (is (M labels statements)) =
    let a = labels_at left text labels (next_line text c) in
    let b = block_of stmt statements a.1 in
    let d = more b.1 in
    (arm a.0 b.0 d.0, d.1)

unfoldable pub arms_at : ℕ → List ℕ → Reader Stmt → ℕ → Reader Arms
arms_at left text stmt zero c = (no_arms, c)
arms_at left text stmt (suc n) c = arm_by left text stmt (λ d. arms_at left text stmt n d) c (line_at arm_forms left text c.at)

-- a statement from its line, whose children are read by these; s is where it stands, c the place after its line
unfoldable pub stmt_of : Reader Expr → Reader Stmt → (ℕ → Reader Arms) → (Pos → Source) → Cursor → StmtLine → Stmt × Cursor
stmt_of expr stmt arms s c (A p v) = let a = expr c in (assign (s p) v a.0, a.1)
stmt_of expr stmt arms s c (I p n m) =
    let a = expr c in
    let b = block_of stmt n a.1 in
    let d = block_of stmt m b.1 in
    (if (s p) a.0 b.0 d.0, d.1)
stmt_of expr stmt arms s c (S p n m) =
    let a = expr c in
    let b = arms n a.1 in
    let d = block_of stmt m b.1 in
    (case (s p) a.0 b.0 d.0, d.1)
stmt_of expr stmt arms s c (F p i v step n) =
    let a = expr c in
    let b = expr a.1 in
    let d = block_of stmt n b.1 in
    (for (s p) i v step a.0 b.0 d.0, d.1)
stmt_of expr stmt arms s c (L p i n m) =
    let a = block_of stmt n c in
    let b = block_of stmt m a.1 in
    (loop (s p) i a.0 b.0, b.1)
stmt_of expr stmt arms s c (X p i) = (exit (s p) i, c)
stmt_of expr stmt arms s c (N p i) = (continue (s p) i, c)
stmt_of expr stmt arms s c (R p) = (return (s p), c)

unfoldable pub stmt_by : Reader Expr → Reader Stmt → (ℕ → Reader Arms) → List ℕ → Cursor → Line StmtLine → Stmt × Cursor
stmt_by expr stmt arms text c (is l) = stmt_of expr stmt arms (λ p. record { pos = p; row = c.row }) (next_line text c) l
stmt_by expr stmt arms text c (not n) = (bad_stmt (fault_at c n), c)

unfoldable pub stmt_at : ℕ → ℕ → List ℕ → Reader Stmt
stmt_at zero v text = λ c. (bad_stmt (fault_at c (refusal (line_at (stmt_forms v) zero text c.at))), c)
stmt_at (suc left) v text = λ c. stmt_by (λ d. expr_at left v text d) (λ d. stmt_at left v text d) (λ n d. arms_at left text (λ x. stmt_at left v text x) n d)
    text c (line_at (stmt_forms v) (suc left) text c.at)

-- ---- the first fault of a tree, in the order of the lines

unfoldable pub or_else : Option Fault → Option Fault → Option Fault
or_else (some f) g = some f
or_else none g = g

unfoldable pub fault_of_expr : Expr → Option Fault
fault_of_expr (const k) = none
fault_of_expr (bool b) = none
fault_of_expr (read v) = none
fault_of_expr (binary o a b) = or_else (fault_of_expr a) (fault_of_expr b)
fault_of_expr (unary o a) = fault_of_expr a
fault_of_expr (compare c a b) = or_else (fault_of_expr a) (fault_of_expr b)
fault_of_expr (short_circuit o a b) = or_else (fault_of_expr a) (fault_of_expr b)
fault_of_expr (bad f) = some f

unfoldable pub fault_of_labels : List CaseLabel → Option Fault
fault_of_labels [] = none
fault_of_labels (value k ∷ ls) = fault_of_labels ls
fault_of_labels (range a b ∷ ls) = fault_of_labels ls
fault_of_labels (bad_label f ∷ ls) = some f

unfoldable mutual
  pub fault_of_stmt : Stmt → Option Fault
  fault_of_stmt (assign s v e) = fault_of_expr e
  fault_of_stmt (if s c t e) = or_else (fault_of_expr c) (or_else (fault_of_block t) (fault_of_block e))
  fault_of_stmt (case s e as' b) = or_else (fault_of_expr e) (or_else (fault_of_arms as') (fault_of_block b))
  fault_of_stmt (for s i v k a b c) = or_else (fault_of_expr a) (or_else (fault_of_expr b) (fault_of_block c))
  fault_of_stmt (loop s i b c) = or_else (fault_of_block b) (fault_of_block c)
  fault_of_stmt (exit s i) = none
  fault_of_stmt (continue s i) = none
  fault_of_stmt (return s) = none
  fault_of_stmt (bad_stmt f) = some f

  pub fault_of_block : Block → Option Fault
  fault_of_block done = none
  fault_of_block (s then b) = or_else (fault_of_stmt s) (fault_of_block b)

  pub fault_of_arms : Arms → Option Fault
  fault_of_arms no_arms = none
  fault_of_arms (arm ls b as') = or_else (fault_of_labels ls) (or_else (fault_of_block b) (fault_of_arms as'))
  fault_of_arms (bad_arm f) = some f

-- ---- the file

unfoldable pub ends_in_lf : List ℕ → Bool
ends_in_lf [] = false
ends_in_lf (b ∷ []) = eqb b lf
ends_in_lf (b ∷ c ∷ bs) = ends_in_lf (c ∷ bs)

unfoldable pub header_of : Line Header → Res Header
header_of (is h) = ok h
header_of (not n) = refuse n 1

unfoldable pub no_fault : Option Fault → Res (Unit {0})
no_fault none = ok tt
no_fault (some f) = refuse f.number f.place

-- the top statements, which stand at nesting level 1
unfoldable pub top_stmts : Header → List ℕ → Block × Cursor
top_stmts h text = block_of (λ c. stmt_at max_nesting h.variables text c) h.statements (next_line text (record { at = 0; row = 1 }))

unfoldable pub read_program : List ℕ → Res Program
read_program text = do
  demand (leb (length text) max_program && ends_in_lf text) bad_text 0
  h ← header_of (line_at header_forms max_nesting text 0)
  let top = top_stmts h text in do
    no_fault (fault_of_block top.0)
    demand (leb (length text) top.1.at) wrong_lines top.1.row
    ok (record { pos = h.pos; body = top.0 })

-- `unfolding open-Program` names all of this module's definitions at once
unfoldable pub open-Program : Unit {0}
unfolding form made by_letter line_of line_at refusal next_line fault_at num pos_fields pos_numbers pos_of behind_pos placed header_forms stmt_forms expr_forms arm_forms label_forms expr_of expr_by expr_at label_by labels_at block_of arm_by arms_at stmt_of stmt_by stmt_at or_else fault_of_expr fault_of_labels fault_of_stmt ends_in_lf header_of no_fault top_stmts read_program
open-Program = tt
