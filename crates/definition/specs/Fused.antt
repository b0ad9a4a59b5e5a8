-- Fused comparisons: what a condition says, IEC 61131-3's comparison of it as it is written; and what a branch that is made of it must do.
use Rattle.std.specs.Prelude.{ℕ, ◌+◌, ◌≡◌, List, ◌++◌, Bool, true, false, not}
use Rattle.std.proofs.Math.Option.{some}
use Rattle.definition.specs.Limits.{width}
use Rattle.definition.specs.Opcode.{size, cmp_br}
use Rattle.definition.specs.Iec.{Values, compared}
use Rattle.definition.specs.Tree.{Source, Expr, const, bool, read, binary, unary, compare, short_circuit, bad, Stmt, if, for, loop, Block, Program, while, repeat, shape, counts_down, bound}
use Rattle.definition.specs.Emit.{Call}
use Rattle.definition.specs.Walk.{after}
use Rattle.definition.specs.CompileExpr.{ClassifiedCmp, classify, emit_classified_cmp_br}
use Rattle.definition.specs.Stmt.{emit_stmts}
use Rattle.definition.specs.Machine.{Image, at, step}
use Rattle.definition.specs.For.{Emits}

-- the bits of a side that is a variable or a constant, where the variables hold these
unfoldable pub side : Values → Expr → ℕ
side values (const k) = k
side values (bool b) = 0
side values (read v) = values v
side values (binary o a b) = 0
side values (unary o a) = 0
side values (compare c a b) = 0
side values (short_circuit o a b) = 0
side values (bad f) = 0

-- IEC's comparison of the two sides, in the order in which they are written, on values of w bits
unfoldable pub holds : ℕ → Values → Expr → Bool
holds w values (const k) = false
holds w values (bool b) = false
holds w values (read v) = false
holds w values (binary o a b) = false
holds w values (unary o a) = false
holds w values (compare c a b) = compared w c (side values a) (side values b)
holds w values (short_circuit o a b) = false
holds w values (bad f) = false

-- does a branch on `on` go, where the condition is as said?
unfoldable pub goes : Bool → Bool → Bool
goes true says = says
goes false says = not says

-- the tests of a statement that may be fused, each the condition as it is written and whether its branch is on true: of an IF; of a WHILE,
-- which leaves on false and goes back on true; of a REPEAT; of a FOR, whose end test is the comparison of its control with its end
pub data Tests : Stmt → Expr → Bool → Type 0 where
  of_if : {s : Source} {c : Expr} {t e : Block} → Tests (if s c t e) c false
  of_while : {s : Source} {i : ℕ} {b k : Block} {c : Expr} (on : Bool) → shape i b k ≡ while c → Tests (loop s i b k) c on
  of_repeat : {s : Source} {i : ℕ} {b k : Block} {c : Expr} → shape i b k ≡ repeat c → Tests (loop s i b k) c false
  of_for : {s : Source} {i v step : ℕ} {from to : Expr} {b : Block} → Tests (for s i v step from to b) (compare (bound (counts_down width step)) (read v) to) false

-- a branch that some calls emit for a condition that is fused, on true or on false, to a label
pub record FusedBranch (calls : List Call) : Type 0 where
  pub condition : Expr
  pub classified : ClassifiedCmp
  pub fused : classify condition ≡ some classified
  pub on : Bool
  pub label : ℕ
  pub before : List Call
  pub behind : List Call
  pub emitted : calls ≡ before ++ ((emit_classified_cmp_br classified on label (after 0 before)).1 ++ behind)

-- it is one of a statement of the program, among the calls that emit that statement
pub record BranchOf (p : Program) {t : Stmt} (o : Emits p t) (c : Expr) (on : Bool) (b : FusedBranch (emit_stmts p.body 0).1) : Type 0 where
  pub its : b.condition ≡ c
  pub way : b.on ≡ on
  pub first : List Call
  pub last : List Call
  pub before : b.before ≡ o.before ++ first
  pub behind : b.behind ≡ last ++ o.behind

unfoldable pub led : Bool → ℕ → ℕ → ℕ
led true goal next = goal
led false goal next = next

-- a run with values that stands at the branch goes to its goal exactly where the condition, as it is written, asks for it, and else on
-- behind the branch, whatever stack and variables hold; they stay as they are
unfoldable pub Decides : Image → ℕ → ℕ → Bool → Expr → Type 0
Decides m place goal on c = (stack : List ℕ) (variables : ℕ → ℕ)
    → step m (record { place = place; stack = stack; variables = variables }) ≡ at (led (goes on (holds m.width variables c)) goal (place + size cmp_br)) stack variables

-- `unfolding open-Fused` names all of this module's definitions at once
unfoldable pub open-Fused : Unit {0}
unfolding side holds goes led Decides
open-Fused = tt
