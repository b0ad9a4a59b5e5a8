-- The walk over a program's lines: where it stands, and what it has gone over.
use Rattle.std.specs.Prelude.{ℕ, zero, suc, ◌+◌, ◌-◌, ◌≤◌, ◌≡◌, List, [], ◌∷◌, Bool, true, false, length, Result, Ok, Err, OnErr}
use Rattle.std.proofs.Math.Option.{Option, some, none}
use Rattle.definition.specs.Limits.{max_program}
use Rattle.definition.specs.Res.{Res, ok, refuse, ◌>>=◌}
use Rattle.definition.specs.Tree.{Fault, CaseLabel}
use Rattle.definition.specs.Program as def
use Rattle.definition.specs.Program.{Line, is, not, A, I, S, F, L, X, N, R, K, B, D, O, U, C, H, M, ArmLine, next_line, fault_at, line_at, arm_forms, label_forms, label_by, expr_at, stmt_at, fault_of_expr, fault_of_labels, fault_of_stmt}
use Rattle.definition.specs.View.{refusal_number}
use Rattle.definition.specs.declared.Refusal.{Refusal}
use Rattle.program.specs.declared.Stop.{Stop}
use Rattle.program.specs.declared.Cursor.{Cursor}
use Rattle.program.specs.declared.Parts.{Parts}

abbrev pub cursor_of : Cursor → def.Cursor
cursor_of c = record { at = c.at; row = c.row }

abbrev pub place_of : def.Cursor → Cursor
place_of c = record { at = c.at; row = c.row }

-- a place that a walk may stand at: so near the text that nothing wraps. The line number is at most one past the byte
pub record Near (text : List ℕ) (at row : ℕ) : Type 0 where
  pub short : length text ≤ max_program
  pub within : at ≤ length text + 1
  pub rows : row ≤ at + 1

-- a place that was gone to
pub record Skipped (text : List ℕ) (d : def.Cursor) (r : Cursor) : Type 0 where
  pub is : cursor_of r ≡ d
  pub near : Near text r.at r.row

-- the place behind a line that ends at `end`
abbrev pub behind_line : Cursor → ℕ → Cursor
behind_line c end = record { at = end + 1; row = c.row + 1 }

-- the place behind the line at c, unless that is at fault
abbrev pub Behind : {L : Type 0} → Line L → List ℕ → Cursor → Cursor → Type 0
Behind (is l) text c on = Skipped text (next_line text (cursor_of c)) on
Behind (not n) text c on = Unit {0}

unfoldable pub lines_on : List ℕ → ℕ → def.Cursor → def.Cursor
lines_on text zero c = c
lines_on text (suc n) c = lines_on text n (next_line text c)

-- the place d is as many lines on from c as its line number says, so its byte follows from that number
pub record Counted (text : List ℕ) (c d : def.Cursor) : Type 0 where
  pub is : d ≡ lines_on text (d.row - c.row) c

-- what a walk answers, as the definition's answer
abbrev pub walk_view : Result Cursor Stop → Res def.Cursor
walk_view (Ok d) = ok (cursor_of d)
walk_view (Err s) = refuse (refusal_number s.refusal) s.at.row

-- the place that a walk's answer gives: where it went to, or the line that it is refused for
abbrev pub cursor_in : Result Cursor Stop → def.Cursor
cursor_in (Ok d) = cursor_of d
cursor_in (Err s) = cursor_of s.at

-- where a walk stands: at the place it went to, or at the line that it is refused for, whose byte is that of its number too
abbrev pub Stands : List ℕ → def.Cursor → Result Cursor Stop → Type 0
Stands text c (Ok d) = Near text d.at d.row × Counted text c (cursor_of d)
Stands text c (Err s) = Near text s.at.at s.at.row × Counted text c (cursor_of s.at)

-- what a walk from c has done: `did` gives its refusal and its line, or where it goes on
pub record Walked (f : def.Cursor → Res def.Cursor) (text : List ℕ) (c : Cursor) (r : Result Cursor Stop) : Type 0 where
  pub did : walk_view r ≡ f (cursor_of c)
  pub stands : Stands text (cursor_of c) r

-- what a walk on from another's answer has done: a walk that is refused already is answered as it was
pub record WalkedOn (f : def.Cursor → Res def.Cursor) (text : List ℕ) (w r : Result Cursor Stop) : Type 0 where
  pub did : walk_view r ≡ walk_view w >>= f
  pub stands : Stands text (cursor_in w) r
  pub stays : OnErr w (r ≡ w)

-- ---- what is gone over

-- the place after a part of the program; where faults are heeded, its first fault is the answer
unfoldable pub outcome : Bool → Option Fault → def.Cursor → Res def.Cursor
outcome true none c = ok c
outcome true (some f) c = refuse f.number f.place
outcome false f c = ok c

abbrev pub went : {Part : Type 0} → Bool → (Part → Option Fault) → Part × def.Cursor → Res def.Cursor
went heed fault p = outcome heed (fault p.0) p.1

-- so many times
unfoldable pub many : ℕ → (def.Cursor → Res def.Cursor) → def.Cursor → Res def.Cursor
many zero f c = ok c
many (suc n) f c = f c >>= (λ d. many n f d)

abbrev pub over_expr : Bool → ℕ → ℕ → List ℕ → def.Cursor → Res def.Cursor
over_expr heed left v text c = went heed fault_of_expr (expr_at left v text c)

abbrev pub over_stmt : Bool → ℕ → ℕ → List ℕ → def.Cursor → Res def.Cursor
over_stmt heed left v text c = went heed fault_of_stmt (stmt_at left v text c)

abbrev pub fault_of_label : CaseLabel → Option Fault
fault_of_label l = fault_of_labels (l ∷ [])

abbrev pub over_label : Bool → ℕ → List ℕ → def.Cursor → Res def.Cursor
over_label heed left text c = went heed fault_of_label (label_by text c (line_at label_forms left text c.at))

-- an arm: its line, labels and body
unfoldable pub arm_with : Bool → ℕ → ℕ → List ℕ → def.Cursor → Line ArmLine → Res def.Cursor
arm_with heed left v text c (not n) = outcome heed (some (fault_at c n)) c
arm_with heed left v text c (is (M n m)) = many n (over_label heed left text) (next_line text c) >>= (λ d. many m (over_stmt heed left v text) d)

abbrev pub over_arm : Bool → ℕ → ℕ → List ℕ → def.Cursor → Res def.Cursor
over_arm heed left v text c = arm_with heed left v text c (line_at arm_forms left text c.at)

-- ---- what follows a line: how many parts of each kind

unfoldable pub parts_of : def.StmtLine → Parts
parts_of (A p v) = record { exprs = 1; arms = 0; first = 0; second = 0 }
parts_of (I p n m) = record { exprs = 1; arms = 0; first = n; second = m }
parts_of (S p n m) = record { exprs = 1; arms = n; first = 0; second = m }
parts_of (F p i v k n) = record { exprs = 2; arms = 0; first = n; second = 0 }
parts_of (L p i n m) = record { exprs = 0; arms = 0; first = n; second = m }
parts_of (X p i) = record { exprs = 0; arms = 0; first = 0; second = 0 }
parts_of (N p i) = record { exprs = 0; arms = 0; first = 0; second = 0 }
parts_of (R p) = record { exprs = 0; arms = 0; first = 0; second = 0 }

unfoldable pub operands_of : def.ExprLine → ℕ
operands_of (K k) = 0
operands_of (B b) = 0
operands_of (D v) = 0
operands_of (O o) = 2
operands_of (U o) = 1
operands_of (C c) = 2
operands_of (H o) = 2

abbrev pub blocks : ℕ → ℕ → ℕ → Parts
blocks exprs first second = record { exprs = exprs; arms = 0; first = first; second = second }

-- ---- one step

-- at a line that is at fault
unfoldable pub failed : Bool → Cursor → Refusal → Result Cursor Stop
failed true c e = Err (record { refusal = e; at = c })
failed false c e = Ok c

-- `unfolding open_parts` names the definitions that code mirrors
unfoldable pub open_parts : Unit {0}
unfolding parts_of operands_of failed
open_parts = tt
