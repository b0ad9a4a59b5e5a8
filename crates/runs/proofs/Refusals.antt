-- A refusal of rules or of a program has a number from 1 to 14.
use Prim.Native.Nat.{ℕ, ◌+◌, suc, zero}
use mathlib.Core.Path.{◌≡◌, refl}
use mathlib.Core.List.{List, [], ◌∷◌}
use mathlib.Core.Bool.{Bool, true, false}
use mathlib.Core.Option.{Option, some, none}
use lib.Dec.{eqb, ltb}
use lib.ListN.{length, drop}
use native.Mathlib.Omega.{arith}
use Rattle.definition.specs.Limits.{bad_text, bad_rule, too_deep, wrong_lines, max_nesting}
use Rattle.definition.specs.Res.{Res, ok, refuse, ◌>>=◌, ◌>>◌, demand, given}
use Rattle.definition.specs.Field.{comma, split, first_line}
use Rattle.definition.specs.Rules.{rules_from, read_rule}
use Rattle.definition.specs.Tree.{Source, Fault, Pos, Expr, const, bool, read, binary, unary, compare, short_circuit, bad, CaseLabel, value, range, bad_label, Stmt, assign, if, case, for, loop, exit, continue, return, bad_stmt, Block, done, ◌then◌, Arms, no_arms, arm, bad_arm}
use Rattle.definition.specs.Program.{Cursor, Form, Line, is, not, Header, StmtLine, A, I, S, F, L, X, N, R, ExprLine, K, B, D, O, U, C, H, ArmLine, M, Reader, line_of, line_at, refusal, next_line, fault_at, form, header_forms, stmt_forms, expr_forms, arm_forms, label_forms, expr_of, expr_by, expr_at, label_by, labels_at, block_of, arm_by, arms_at, stmt_of, stmt_by, stmt_at, or_else, fault_of_expr, fault_of_labels, fault_of_stmt, fault_of_block, fault_of_arms, header_of, no_fault, top_stmts, read_program}
use Rattle.field.proofs.Refusals.{Number, LineTold, Makes, anything, at_told}

-- ---- answers

unfoldable pub Numbered : {A : Type 0} → Res A → Type 0
Numbered (ok a) = Unit {0}
Numbered (refuse n p) = Number n

pub numbered-bind : {A B : Type 0} (m : Res A) (f : A → Res B) → Numbered m → ((a : A) → m ≡ ok a → Numbered (f a)) → Numbered (m >>= f)
unfolding ◌>>=◌ Numbered
numbered-bind (ok a) f t g = g a refl
numbered-bind (refuse n p) f t g = t

pub numbered-then : {A B : Type 0} (m : Res A) (k : Res B) → Numbered m → Numbered k → Numbered (m >> k)
unfolding ◌>>◌ Numbered
numbered-then (ok a) k t u = u
numbered-then (refuse n p) k t u = t

pub numbered-demand : {A : Type 0} (b : Bool) (n p : ℕ) (m : Res A) → Number n → (b ≡ true → Numbered m) → Numbered (demand b n p >> m)
unfolding ◌>>◌ demand Numbered
numbered-demand true n p m t k = k refl
numbered-demand false n p m t k = t

pub numbered-given : {A : Type 0} (x : Option A) (n p : ℕ) → Number n → Numbered (given x n p)
unfolding given Numbered
numbered-given (some a) n p t = tt
numbered-given none n p t = t

-- ---- rule files

pub rules-numbered : (n : ℕ) (ls : List (List ℕ)) → Numbered (rules_from n ls)
unfolding rules_from Numbered
rules-numbered n [] = tt
rules-numbered n (l ∷ []) = numbered-demand _ bad_rule n _ (omega arith, omega arith) (λ q. tt)
rules-numbered n (l ∷ m ∷ ls) = numbered-demand _ bad_rule n _ (omega arith, omega arith)
    (λ q. numbered-bind _ _ (numbered-given (read_rule l) bad_rule n (omega arith, omega arith)) (λ r a. numbered-bind _ _ (rules-numbered (n + 1) (m ∷ ls)) (λ rs b. tt)))

-- ---- a program's lines

-- where no level is left there is a refusal
no-level : {T : Type 0} (forms : List (Form T)) (text : List ℕ) (at : ℕ) → Number (refusal (line_at forms 0 text at))
unfolding line_at refusal
no-level {T = T} forms text at =
    elim (ltb at (length text)) as (λ t. Number (refusal {L = T} (elim t [ false ↦ not wrong_lines | true ↦ elim (eqb 0 0) [ true ↦ not too_deep | false ↦ line_of forms (split comma (first_line (drop at text))) ] ]))) [
      | false ↦ (omega arith, omega arith)
      | true ↦ (omega arith, omega arith)
    ]

-- ---- a program's tree

-- the first fault, if there is one
unfoldable pub Told : Option Fault → Type 0
Told none = Unit {0}
Told (some f) = Number f.number

told-or : (a b : Option Fault) → Told a → Told b → Told (or_else a b)
unfolding or_else Told
told-or none b p q = q
told-or (some f) b p q = p

-- ---- a tree whose faults have such numbers

unfoldable pub ExprTold : Expr → Type 0
ExprTold (const k) = Unit {0}
ExprTold (bool b) = Unit {0}
ExprTold (read v) = Unit {0}
ExprTold (binary o a b) = ExprTold a × ExprTold b
ExprTold (unary o a) = ExprTold a
ExprTold (compare c a b) = ExprTold a × ExprTold b
ExprTold (short_circuit o a b) = ExprTold a × ExprTold b
ExprTold (bad f) = Number f.number

unfoldable pub LabelTold : CaseLabel → Type 0
LabelTold (value k) = Unit {0}
LabelTold (range a b) = Unit {0}
LabelTold (bad_label f) = Number f.number

unfoldable pub LabelsTold : List CaseLabel → Type 0
LabelsTold [] = Unit {0}
LabelsTold (l ∷ ls) = LabelTold l × LabelsTold ls

unfoldable mutual
  pub StmtTold : Stmt → Type 0
  StmtTold (assign s v e) = ExprTold e
  StmtTold (if s c t e) = ExprTold c × BlockTold t × BlockTold e
  StmtTold (case s e xs b) = ExprTold e × ArmsTold xs × BlockTold b
  StmtTold (for s i v k a b c) = ExprTold a × ExprTold b × BlockTold c
  StmtTold (loop s i b c) = BlockTold b × BlockTold c
  StmtTold (exit s i) = Unit {0}
  StmtTold (continue s i) = Unit {0}
  StmtTold (return s) = Unit {0}
  StmtTold (bad_stmt f) = Number f.number

  pub BlockTold : Block → Type 0
  BlockTold done = Unit {0}
  BlockTold (s then b) = StmtTold s × BlockTold b

  pub ArmsTold : Arms → Type 0
  ArmsTold no_arms = Unit {0}
  ArmsTold (arm ls b xs) = LabelsTold ls × BlockTold b × ArmsTold xs
  ArmsTold (bad_arm f) = Number f.number

-- so has the first of them
pub expr-first : (e : Expr) → ExprTold e → Told (fault_of_expr e)
unfolding fault_of_expr ExprTold Told
expr-first (const k) t = tt
expr-first (bool b) t = tt
expr-first (read v) t = tt
expr-first (binary o a b) t = told-or _ _ (expr-first a t.0) (expr-first b t.1)
expr-first (unary o a) t = expr-first a t
expr-first (compare c a b) t = told-or _ _ (expr-first a t.0) (expr-first b t.1)
expr-first (short_circuit o a b) t = told-or _ _ (expr-first a t.0) (expr-first b t.1)
expr-first (bad f) t = t

labels-first : (ls : List CaseLabel) → LabelsTold ls → Told (fault_of_labels ls)
unfolding fault_of_labels LabelTold LabelsTold Told
labels-first [] t = tt
labels-first (value k ∷ ls) t = labels-first ls t.1
labels-first (range a b ∷ ls) t = labels-first ls t.1
labels-first (bad_label f ∷ ls) t = t.0

mutual
  unfolding fault_of_stmt StmtTold Told

  pub stmt-first : (s : Stmt) → StmtTold s → Told (fault_of_stmt s)
  stmt-first (assign s v e) t = expr-first e t
  stmt-first (if s c b d) t = told-or _ _ (expr-first c t.0) (told-or _ _ (block-first b t.1) (block-first d t.2))
  stmt-first (case s e xs b) t = told-or _ _ (expr-first e t.0) (told-or _ _ (arms-first xs t.1) (block-first b t.2))
  stmt-first (for s i v k a b c) t = told-or _ _ (expr-first a t.0) (told-or _ _ (expr-first b t.1) (block-first c t.2))
  stmt-first (loop s i b c) t = told-or _ _ (block-first b t.0) (block-first c t.1)
  stmt-first (exit s i) t = tt
  stmt-first (continue s i) t = tt
  stmt-first (return s) t = tt
  stmt-first (bad_stmt f) t = t

  block-first : (b : Block) → BlockTold b → Told (fault_of_block b)
  block-first done t = tt
  block-first (s then b) t = told-or _ _ (stmt-first s t.0) (block-first b t.1)

  arms-first : (xs : Arms) → ArmsTold xs → Told (fault_of_arms xs)
  arms-first no_arms t = tt
  arms-first (arm ls b xs) t = told-or _ _ (labels-first ls t.0) (told-or _ _ (block-first b t.1) (arms-first xs t.2))
  arms-first (bad_arm f) t = t

-- ---- what is read

-- a reader of such trees
abbrev pub Reads : {T : Type 0} → (T → Type 0) → Reader T → Type 0
Reads Good part = (c : Cursor) → Good (part c).0

expr-of : (expr : Reader Expr) (c : Cursor) (l : ExprLine) → Reads ExprTold expr → ExprTold (expr_of expr c l).0
unfolding expr_of ExprTold
expr-of expr c (K k) t = tt
expr-of expr c (B b) t = tt
expr-of expr c (D v) t = tt
expr-of expr c (O o) t = (t c, t _)
expr-of expr c (U o) t = t c
expr-of expr c (C o) t = (t c, t _)
expr-of expr c (H o) t = (t c, t _)

expr-by : (expr : Reader Expr) (text : List ℕ) (c : Cursor) (l : Line ExprLine) → LineTold (λ x. Unit {0}) l → Reads ExprTold expr → ExprTold (expr_by expr text c l).0
unfolding expr_by LineTold ExprTold fault_at
expr-by expr text c (is l) g t = expr-of expr (next_line text c) l t
expr-by expr text c (not n) g t = g

pub expr-told : (left v : ℕ) (text : List ℕ) → Reads ExprTold (expr_at left v text)
unfolding expr_at ExprTold fault_at
expr-told zero v text c = no-level (expr_forms v) text c.at
expr-told (suc left) v text c = expr-by _ text c _ (at_told (λ x. Unit {0}) (expr_forms v) (suc left) text c.at (anything (expr_forms v))) (λ d. expr-told left v text d)

label-forms : Makes LabelTold label_forms
unfolding label_forms form LabelTold Makes
label-forms = (λ ns. tt, (λ ns. tt, tt))

label-by : (text : List ℕ) (c : Cursor) (l : Line CaseLabel) → LineTold LabelTold l → LabelTold (label_by text c l).0
unfolding label_by LineTold LabelTold fault_at
label-by text c (is l) g = g
label-by text c (not n) g = g

pub label-told : (left : ℕ) (text : List ℕ) (c : Cursor) → LabelTold (label_by text c (line_at label_forms left text c.at)).0
label-told left text c = label-by text c _ (at_told _ label_forms left text c.at label-forms)

pub labels-told : (left : ℕ) (text : List ℕ) (n : ℕ) → Reads LabelsTold (labels_at left text n)
unfolding labels_at LabelsTold
labels-told left text zero c = tt
labels-told left text (suc n) c = (label-told left text c, labels-told left text n _)

pub block-of : (stmt : Reader Stmt) (n : ℕ) → Reads StmtTold stmt → Reads BlockTold (block_of stmt n)
unfolding block_of StmtTold
block-of stmt zero t c = tt
block-of stmt (suc n) t c = (t c, block-of stmt n t _)

arm-by : (left : ℕ) (text : List ℕ) (stmt : Reader Stmt) (more : Reader Arms) (c : Cursor) (l : Line ArmLine) → LineTold (λ x. Unit {0}) l → Reads StmtTold stmt → Reads ArmsTold more
    → ArmsTold (arm_by left text stmt more c l).0
unfolding arm_by LineTold StmtTold fault_at
arm-by left text stmt more c (not n) g t m = g
arm-by left text stmt more c (is (M labels statements)) g t m = (labels-told left text labels _, block-of stmt statements t _, m _)

arms-told : (left : ℕ) (text : List ℕ) (stmt : Reader Stmt) (n : ℕ) → Reads StmtTold stmt → Reads ArmsTold (arms_at left text stmt n)
unfolding arms_at StmtTold
arms-told left text stmt zero t c = tt
arms-told left text stmt (suc n) t c = arm-by left text stmt _ c _ (at_told (λ x. Unit {0}) arm_forms left text c.at (anything arm_forms)) t (λ d. arms-told left text stmt n t d)

module _ (expr : Reader Expr) (stmt : Reader Stmt) (arms : ℕ → Reader Arms) (te : Reads ExprTold expr) (ts : Reads StmtTold stmt) (ta : (n : ℕ) → Reads ArmsTold (arms n)) where
  stmt-of : (s : Pos → Source) (c : Cursor) (l : StmtLine) → StmtTold (stmt_of expr stmt arms s c l).0
  unfolding stmt_of StmtTold
  stmt-of s c (A p v) = te c
  stmt-of s c (I p n m) = (te c, block-of stmt n ts _, block-of stmt m ts _)
  stmt-of s c (S p n m) = (te c, ta n _, block-of stmt m ts _)
  stmt-of s c (F p i v step n) = (te c, te _, block-of stmt n ts _)
  stmt-of s c (L p i n m) = (block-of stmt n ts _, block-of stmt m ts _)
  stmt-of s c (X p i) = tt
  stmt-of s c (N p i) = tt
  stmt-of s c (R p) = tt

  stmt-by : (text : List ℕ) (c : Cursor) (l : Line StmtLine) → LineTold (λ x. Unit {0}) l → StmtTold (stmt_by expr stmt arms text c l).0
  unfolding stmt_by LineTold StmtTold fault_at
  stmt-by text c (is l) g = stmt-of _ (next_line text c) l
  stmt-by text c (not n) g = g

pub stmt-told : (left v : ℕ) (text : List ℕ) → Reads StmtTold (stmt_at left v text)
unfolding stmt_at StmtTold fault_at
stmt-told zero v text c = no-level (stmt_forms v) text c.at
stmt-told (suc left) v text c = stmt-by _ _ _ (λ d. expr-told left v text d) (λ d. stmt-told left v text d) (λ n d. arms-told left text _ n (λ x. stmt-told left v text x) d)
    text c _ (at_told (λ x. Unit {0}) (stmt_forms v) (suc left) text c.at (anything (stmt_forms v)))

header-by : (l : Line Header) → LineTold (λ x. Unit {0}) l → Numbered (header_of l)
unfolding header_of LineTold Numbered
header-by (is h) g = tt
header-by (not n) g = g

pub header-numbered : (text : List ℕ) → Numbered (header_of (line_at header_forms max_nesting text 0))
header-numbered text = header-by _ (at_told (λ x. Unit {0}) header_forms max_nesting text 0 (anything header_forms))

fault-numbered : (x : Option Fault) → Told x → Numbered (no_fault x)
unfolding no_fault Told Numbered
fault-numbered none t = tt
fault-numbered (some f) t = t

pub read-numbered : (text : List ℕ) → Numbered (read_program text)
unfolding read_program top_stmts Numbered
read-numbered text = numbered-demand _ bad_text 0 _ (omega arith, omega arith) (λ q. numbered-bind _ _ (header-numbered text)
    (λ h a. numbered-then _ _ (fault-numbered _ (block-first _ (block-of _ h.statements (λ d. stmt-told max_nesting h.variables text d) _))) (numbered-demand _ wrong_lines _ _ (omega arith, omega arith) (λ b. tt))))
