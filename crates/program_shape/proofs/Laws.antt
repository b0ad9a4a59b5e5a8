-- The laws behind skipping and shapes.
use mathlib.Core.Path.{◌≡◌, refl, ap, sym, ◌∙◌}
use mathlib.Core.Bool.{Bool, true, false, ◌&&◌}
use mathlib.Core.Option.{Option, some, none}
use mathlib.Core.List.{List}
use Prim.Native.Nat.{ℕ, zero, suc, ◌-◌}
use native.Mathlib.Omega.{arith}
use lib.Dec.{eqb, eqb-suc-zero, eqb-suc-suc}
use borrow.Author.Tests.{eqb-true}
use Rattle.definition.specs.Opcode.{CompareOp}
use Rattle.definition.specs.Tree.{Pos, Source, Expr, Stmt, if, Arms, is_done, is_exit_stmt, is_exit, only_if, exit_when, exit_unless, repeat_or, while_or, shape}
use Rattle.definition.specs.Program as def
use Rattle.definition.specs.Program.{Line, is, not, Reader, A, I, S, F, L, X, N, R, K, B, D, O, U, C, H, StmtLine, ExprLine, next_line, line_at, stmt_forms, expr_forms, expr_of, expr_at, stmt_of, stmt_at, block_of}
use Rattle.definition.specs.CompileExpr.{read_of, constant_of, zip, or_classified, classify}
use Rattle.field.proofs.Tests.{and_left, and_right}
use Rattle.std.specs.Prelude as code
use Rattle.std.specs.Prelude.{Some, None, Ok, Err}
use Rattle.std.specs.Result.{result_ok, IsOk}
use Rattle.definition.specs.View.{refusal_number}
use Rattle.definition.specs.declared.Refusal.{Refusal}
use Rattle.program.specs.declared.Stop.{Stop}
use Rattle.program_line.specs.declared.Next.{Next}
use Rattle.program_line.specs.Scan.{Found}
use Rattle.opcode.specs.declared.CompareOp as op
use Rattle.program_line.specs.declared.ExprLine as lines
use Rattle.program_line.specs.declared.ExprLine.TheVariants as line
use Rattle.program_line.specs.View.{expr_line}
use Rattle.program.specs.declared.Cursor.{Cursor}
use Rattle.program.specs.declared.Ends.{Ends}
use Rattle.program.specs.Walk.{cursor_of, Skipped, Walked, outcome, many, over_expr, over_stmt}
use Rattle.program.specs.Ends.{Sound, NoneNew}
use Rattle.program.proofs.Laws.{unrefused, skipped, block-ok, expr-bad, expr-is, stmt-bad, stmt-is}
use Rattle.program_shape.specs.declared.Operand.{Operand}
use Rattle.program_shape.specs.declared.Operand.TheVariants as operand
use Rattle.program_shape.specs.declared.ClassifiedCmp as cmp
use Rattle.program_shape.specs.declared.ExitIf.{ExitIf}
use Rattle.program_shape.specs.declared.Shape.TheVariants as loop-shape
use Rattle.program_shape.specs.Shape.{Knows, operand_of, variable_in, constant_in, Sided, classified, fused, exit_if, sizes_fit, if_fits, exit_line, exit_by, exit_condition, exit_places, Exiting, while_by, repeat_by, shape_by, block_at, Shaped}

-- ---- skipping: a walk that heeds no fault

module _ (left v : ℕ) {text : List ℕ} (c : Cursor) where
  pub skipped-expr : (r : Cursor) → Walked (over_expr false left v text) text c (Ok r) → Skipped text (expr_at left v text (cursor_of c)).1 r
  unfolding outcome
  skipped-expr r w = skipped _ r w refl

  pub expr-ok : (r : code.Result Cursor Stop) → Walked (over_expr false left v text) text c r → IsOk r
  unfolding outcome
  expr-ok (Ok d) w = refl
  expr-ok (Err e) w = absurd (unrefused _ e w refl)

  pub block-is-ok : (n : ℕ) (r : code.Result Cursor Stop) → Walked (many n (over_stmt false left v text)) text c r → IsOk r
  block-is-ok n (Ok d) w = refl
  block-is-ok n (Err e) w = absurd (unrefused _ e w (block-ok left v n text (cursor_of c)))

-- ---- a line that is asked for by `.ok()`

module _ {T P : Type 0} {of : T → P} {x : Line P} {stop : ℕ} where
  pub found-some : (r : code.Result (Next T) Refusal) (n : Next T) → Some n ≡ result_ok r → Found of r x stop → Found of (Ok n) x stop
  found-some (Ok m) n e f = let same : n ≡ m = cc in rw same f
  found-some (Err k) n e f = absurd (cc)

  pub found-none : (r : code.Result (Next T) Refusal) → None ≡ result_ok r → Found of r x stop → (k : ℕ) × (not k ≡ x)
  found-none (Ok m) e f = absurd (cc)
  found-none (Err k) e f = (refusal_number k, f.is)

-- ---- ends of bodies that were noted

pub known-end : {text : List ℕ} {v left n : ℕ} {c : def.Cursor} {ends : Ends} (e : Cursor) → Sound text v ends → Knows ends left n c (Some e) → Skipped text (block_of (λ d. stmt_at left v text d) n c).1 e
known-end {text} {v} {left} e s (x, low, m, start, count, end) = rw (← start, ← count, end) (s.told left low x m)

pub stays-sound : {text : List ℕ} {v : ℕ} {ends ends' : Ends} → Sound text v ends → NoneNew ends ends' → Sound text v ends'
stays-sound s d = record { told = λ k h x m. s.told k h x (d.told k h x m) }

-- ---- conditions

operand-by : (expr : Reader Expr) (c : def.Cursor) (l : ExprLine) → Sided (expr_of expr c l).0 (operand_of l)
unfolding expr_of operand_of read_of constant_of
operand-by expr c (K k) = record { variable = refl; constant = refl }
operand-by expr c (B b) = record { variable = refl; constant = refl }
operand-by expr c (D v) = record { variable = refl; constant = refl }
operand-by expr c (O o) = record { variable = refl; constant = refl }
operand-by expr c (U o) = record { variable = refl; constant = refl }
operand-by expr c (C o) = record { variable = refl; constant = refl }
operand-by expr c (H o) = record { variable = refl; constant = refl }

module _ (left v : ℕ) (text : List ℕ) (c : def.Cursor) where
  pub sided : (l : ExprLine) → is l ≡ line_at (expr_forms v) left text c.at → Sided (expr_at left v text c).0 (operand_of l)
  sided l k = rw (expr-is left v text c l (sym k)) (operand-by _ _ l)

  pub unsided : (n : ℕ) → not n ≡ line_at (expr_forms v) left text c.at → Sided (expr_at left v text c).0 operand.Other
  unfolding read_of constant_of
  unsided n k = rw (expr-bad left v text c n (sym k)) (record { variable = refl; constant = refl })

  pub unread : (n : ℕ) → not n ≡ line_at (expr_forms v) left text c.at → none ≡ classify (expr_at left v text c).0
  unfolding classify
  unread n k = rw (expr-bad left v text c n (sym k))

  pub not-compared : (l : lines.ExprLine) → ((o : op.CompareOp) → l ≡ line.Compare o → ⊥) → is (expr_line l) ≡ line_at (expr_forms v) left text c.at → none ≡ classify (expr_at left v text c).0
  unfolding classify expr_of
  not-compared (line.Const x) h k = rw (expr-is left v text c _ (sym k))
  not-compared (line.Bool x) h k = rw (expr-is left v text c _ (sym k))
  not-compared (line.Read x) h k = rw (expr-is left v text c _ (sym k))
  not-compared (line.Binary x) h k = rw (expr-is left v text c _ (sym k))
  not-compared (line.Unary x) h k = rw (expr-is left v text c _ (sym k))
  not-compared (line.Compare x) h k = absurd (h x refl)
  not-compared (line.ShortCircuit x) h k = rw (expr-is left v text c _ (sym k))

  pub classified-sides : (o : CompareOp) → is (C o) ≡ line_at (expr_forms v) left text c.at → {a b : Operand} {first second : Cursor} (r : code.Option cmp.ClassifiedCmp) → Skipped text (next_line text c) first
      → Sided (expr_at (left - 1) v text (cursor_of first)).0 a → Skipped text (expr_at (left - 1) v text (cursor_of first)).1 second → Sided (expr_at (left - 1) v text (cursor_of second)).0 b
      → classified r ≡ fused o (variable_in a) (constant_in a) (variable_in b) (constant_in b) → classified r ≡ classify (expr_at left v text c).0
  unfolding classify expr_of
  classified-sides o k r f a s b h = h ∙ rw (a.variable, a.constant, b.variable, b.constant, s.is, f.is, expr-is left v text c (C o) (sym k))

-- ---- shapes of loops

and-false : (b : Bool) → b && false ≡ false
and-false true = refl
and-false false = refl

and-true : (b : Bool) → b && true ≡ b
and-true true = refl
and-true false = refl

and_assoc : (a b c : Bool) → a && (b && c) ≡ (a && b) && c
and_assoc true b c = refl
and_assoc false b c = refl

-- a block that is read, as a sole EXIT and as an empty one
sole : (i : ℕ) (stmt : Reader Stmt) (n : ℕ) (c : def.Cursor) → is_exit i (block_of stmt n c).0 ≡ eqb n 1 && is_exit_stmt i (stmt c).0
unfolding block_of is_exit is_done
sole i stmt zero c = refl
sole i stmt (suc zero) c = and-true (is_exit_stmt i (stmt c).0)
sole i stmt (suc (suc n)) c = and-false (is_exit_stmt i (stmt c).0) ∙ rw (eqb-suc-suc, eqb-suc-zero)

empty : (stmt : Reader Stmt) (n : ℕ) (c : def.Cursor) → is_done (block_of stmt n c).0 ≡ eqb n 0
unfolding block_of is_done
empty stmt zero c = refl
empty stmt (suc n) c = rw (eqb-suc-zero)

-- an IF with branches of n and m statements, of which the EXIT would be the first
if-exits : (when : Bool) (i : ℕ) (stmt : Reader Stmt) (n m : ℕ) (p : def.Cursor) (s : Source) (cond : Expr)
    → exit_if when i (if s cond (block_of stmt n p).0 (block_of stmt m (block_of stmt n p).1).0) ≡ only_if (sizes_fit when n m && is_exit_stmt i (stmt p).0) cond
unfolding exit_if exit_when exit_unless sizes_fit
if-exits true i stmt n m p s cond = rw (empty stmt m (block_of stmt n p).1, sole i stmt n p, and_assoc)
if-exits false i stmt n m p s cond = rw (empty stmt n p, sole i stmt m (block_of stmt n p).1, and_assoc) (go n)
  where
    go : (k : ℕ) → only_if ((eqb k 0 && eqb m 1) && is_exit_stmt i (stmt (block_of stmt k p).1).0) cond ≡ only_if ((eqb k 0 && eqb m 1) && is_exit_stmt i (stmt p).0) cond
    go zero = unfold block_of in refl
    go (suc k) = rw (eqb-suc-zero)

if-ends : (when : Bool) (stmt : Reader Stmt) (n m : ℕ) (p : def.Cursor) → sizes_fit when n m ≡ true → (block_of stmt m (block_of stmt n p).1).1 ≡ (stmt p).1
unfolding sizes_fit block_of
if-ends true stmt n m p e = rw (eqb-true m 0 (and_left (eqb m 0) (eqb n 1) e), eqb-true n 1 (and_right (eqb m 0) (eqb n 1) e))
if-ends false stmt n m p e = rw (eqb-true n 0 (and_left (eqb n 0) (eqb m 1) e), eqb-true m 1 (and_right (eqb n 0) (eqb m 1) e))

-- ---- the lines of an IF that exits

line-exits : (i : ℕ) (expr : Reader Expr) (stmt : Reader Stmt) (arms : ℕ → Reader Arms) (s : Pos → Source) (c : def.Cursor) (l : StmtLine) → is_exit_stmt i (stmt_of expr stmt arms s c l).0 ≡ exit_line i l
unfolding stmt_of is_exit_stmt exit_line
line-exits i expr stmt arms s c (A p v) = refl
line-exits i expr stmt arms s c (I p n m) = refl
line-exits i expr stmt arms s c (S p n m) = refl
line-exits i expr stmt arms s c (F p j v k n) = refl
line-exits i expr stmt arms s c (L p j n m) = refl
line-exits i expr stmt arms s c (X p j) = refl
line-exits i expr stmt arms s c (N p j) = refl
line-exits i expr stmt arms s c (R p) = refl

exit-ends : (i : ℕ) (expr : Reader Expr) (stmt : Reader Stmt) (arms : ℕ → Reader Arms) (s : Pos → Source) (c : def.Cursor) (l : StmtLine) → exit_line i l ≡ true → (stmt_of expr stmt arms s c l).1 ≡ c
unfolding stmt_of exit_line
exit-ends i expr stmt arms s c (A p v) e = absurd (cc)
exit-ends i expr stmt arms s c (I p n m) e = absurd (cc)
exit-ends i expr stmt arms s c (S p n m) e = absurd (cc)
exit-ends i expr stmt arms s c (F p j v k n) e = absurd (cc)
exit-ends i expr stmt arms s c (L p j n m) e = absurd (cc)
exit-ends i expr stmt arms s c (X p j) e = refl
exit-ends i expr stmt arms s c (N p j) e = absurd (cc)
exit-ends i expr stmt arms s c (R p) e = absurd (cc)

module _ (i left v : ℕ) (text : List ℕ) (c : def.Cursor) (l : StmtLine) (k : is l ≡ line_at (stmt_forms v) left text c.at) where
  exit-at : is_exit_stmt i (stmt_at left v text c).0 ≡ exit_line i l
  exit-at = rw (stmt-is left v text c l (sym k)) (line-exits i _ _ _ _ _ l)

  exit-behind : exit_line i l ≡ true → (stmt_at left v text c).1 ≡ next_line text c
  exit-behind e = rw (stmt-is left v text c l (sym k)) (exit-ends i _ _ _ _ _ l e)

exit-not : (i left v : ℕ) (text : List ℕ) (c : def.Cursor) (n : ℕ) → not n ≡ line_at (stmt_forms v) left text c.at → is_exit_stmt i (stmt_at left v text c).0 ≡ false
unfolding is_exit_stmt
exit-not i left v text c n k = rw (stmt-bad left v text c n (sym k))

pub unfused : (c : CompareOp) (w l : Option ℕ) → none ≡ fused c none none w l
unfolding zip or_classified
unfused c none l = refl
unfused c (some v) l = refl

-- any statement but an IF
other : (when : Bool) (i : ℕ) (s : Stmt) → exit_when i s ≡ none → exit_unless i s ≡ none → none ≡ exit_if when i s
unfolding exit_if
other true i s a b = sym a
other false i s a b = sym b

no-exit : (when : Bool) (i : ℕ) (expr : Reader Expr) (stmt : Reader Stmt) (arms : ℕ → Reader Arms) (s : Pos → Source) (c : def.Cursor) (l : StmtLine)
    → if_fits when l ≡ false → none ≡ exit_if when i (stmt_of expr stmt arms s c l).0
unfolding stmt_of if_fits exit_when exit_unless
no-exit when i expr stmt arms s c (A p v) e = other when i _ refl refl
no-exit when i expr stmt arms s c (I p n m) e = sym (if-exits when i stmt n m _ (s p) _ ∙ unfold only_if in rw e)
no-exit when i expr stmt arms s c (S p n m) e = other when i _ refl refl
no-exit when i expr stmt arms s c (F p j v k n) e = other when i _ refl refl
no-exit when i expr stmt arms s c (L p j n m) e = other when i _ refl refl
no-exit when i expr stmt arms s c (X p j) e = other when i _ refl refl
no-exit when i expr stmt arms s c (N p j) e = other when i _ refl refl
no-exit when i expr stmt arms s c (R p) e = other when i _ refl refl

-- an IF whose branches fit
record Fitting (when : Bool) (l : StmtLine) : Type 0 where
  pos : Pos
  first : ℕ
  second : ℕ
  line : l ≡ I pos first second
  fit : sizes_fit when first second ≡ true

fitting : (when : Bool) (l : StmtLine) → if_fits when l ≡ true → Fitting when l
unfolding if_fits
fitting when (A p v) e = absurd (cc)
fitting when (I p n m) e = record { pos = p; first = n; second = m; line = refl; fit = e }
fitting when (S p n m) e = absurd (cc)
fitting when (F p j v k n) e = absurd (cc)
fitting when (L p j n m) e = absurd (cc)
fitting when (X p j) e = absurd (cc)
fitting when (N p j) e = absurd (cc)
fitting when (R p) e = absurd (cc)

-- the condition and the places make the answer
exit_by_lem : (left v : ℕ) (text : List ℕ) (c d : def.Cursor) (o : Option Expr) (r : code.Option ExitIf) → exit_condition left v text r ≡ o → exit_places text c d r → r ≡ exit_by text c d o
unfolding exit_by
exit_by_lem left v text c d o (Some q) e p = rw (← e, ← p.0.is, ← p.1.is)
exit_by_lem left v text c d o None e p = rw (← e)

exiting : {when : Bool} {i left v : ℕ} {text : List ℕ} {c : def.Cursor} (r : code.Option ExitIf) → exit_condition left v text r ≡ exit_if when i (stmt_at left v text c).0
    → exit_places text c (stmt_at left v text c).1 r → Exiting when i left v text c r
exiting {left = left} {v = v} {text = text} {c = c} r e p = record { is = exit_by_lem left v text c _ _ r e p; condition = e; places = p }

module _ (when : Bool) (i left v : ℕ) (text : List ℕ) (c : def.Cursor) where
  -- a line that is at fault, and one that is no such IF
  pub exits-fault : (n : ℕ) → not n ≡ line_at (stmt_forms v) left text c.at → Exiting when i left v text c None
  exits-fault n k = exiting None (rw (stmt-bad left v text c n (sym k)) (other when i _ (unfold exit_when in refl) (unfold exit_unless in refl))) tt

  module _ (l : StmtLine) (k : is l ≡ line_at (stmt_forms v) left text c.at) where
    pub exits-not : if_fits when l ≡ false → Exiting when i left v text c None
    exits-not e = exiting None (rw (stmt-is left v text c l (sym k)) (no-exit when i _ _ _ _ _ l e)) tt

    module _ (e : if_fits when l ≡ true) where
      fits : Fitting when l
      fits = fitting when l e

      line-if : line_at (stmt_forms v) left text c.at ≡ is (I fits.pos fits.first fits.second)
      line-if = sym k ∙ ap is fits.line

      -- the condition's place, and the statement behind it
      module _ {condition p : Cursor} (f : Skipped text (next_line text c) condition) (g : Skipped text (expr_at (left - 1) v text (cursor_of condition)).1 p) where
        exit-is : (b : Bool) → is_exit_stmt i (stmt_at (left - 1) v text (cursor_of p)).0 ≡ b → exit_if when i (stmt_at left v text c).0 ≡ only_if b (expr_at (left - 1) v text (cursor_of condition)).0
        unfolding stmt_of
        exit-is b h =
            rw (stmt-is left v text c _ line-if)
            (if-exits when i (λ d. stmt_at (left - 1) v text d) fits.first fits.second _ _ _ ∙ rw (fits.fit, ← f.is, ← g.is, h))

        end_is : (stmt_at left v text c).1 ≡ (stmt_at (left - 1) v text (cursor_of p)).1
        unfolding stmt_of
        end_is =
            rw (stmt-is left v text c _ line-if)
            (if-ends when (λ d. stmt_at (left - 1) v text d) fits.first fits.second _ fits.fit ∙ rw (← f.is, ← g.is))

        pub exits-unread : (n : ℕ) → not n ≡ line_at (stmt_forms v) (left - 1) text p.at → Exiting when i left v text c None
        unfolding only_if
        exits-unread n h = exiting None (sym (exit-is false (exit-not i (left - 1) v text (cursor_of p) n h))) tt

        module _ (y : StmtLine) (h : is y ≡ line_at (stmt_forms v) (left - 1) text p.at) where
          pub exits-other : exit_line i y ≡ false → Exiting when i left v text c None
          unfolding only_if
          exits-other z = exiting None (sym (exit-is false (exit-at i (left - 1) v text (cursor_of p) y h ∙ z))) tt

          pub exits-here : exit_line i y ≡ true → {end : Cursor} → Skipped text (next_line text (cursor_of p)) end → Exiting when i left v text c (Some (record { condition = condition; end = end }))
          unfolding only_if
          exits-here z n = exiting _ (sym (exit-is true (exit-at i (left - 1) v text (cursor_of p) y h ∙ z))) (f, record { is = n.is ∙ sym (end_is ∙ exit-behind i (left - 1) v text (cursor_of p) y h z); near = n.near })

-- ---- a loop's shape

repeat-by : (text : List ℕ) (c first d last : def.Cursor) (o : Option Expr) → repeat_by (exit_by text d last o) ≡ shape_by text c first d last (repeat_or o)
unfolding exit_by shape_by repeat_or
repeat-by text c first d last (some x) = refl
repeat-by text c first d last none = refl

while-by : (text : List ℕ) (c first d last : def.Cursor) (o : Option Expr) → while_by (exit_by text c first o) ≡ shape_by text c first d last (while_or o)
unfolding exit_by shape_by while_or
while-by text c first d last (some x) = refl
while-by text c first d last none = refl

module _ (i n m left v : ℕ) (text : List ℕ) (c : def.Cursor) where
  pub shape-repeat : m ≡ 1 → {p : Cursor} → Skipped text (block_at left v text n c).1 p → (r : code.Option ExitIf) → Exiting true i left v text (cursor_of p) r → Shaped i n m left v text c (repeat_by r)
  unfolding shape block_of exit_if repeat_or
  shape-repeat e s (Some q) x = let y = rw s.is at x in rw e (record { is = ap repeat_by y.is ∙ repeat-by text c _ _ _ _; condition = ap repeat_or y.condition; places = y.places })
  shape-repeat e s None x = let y = rw s.is at x in rw e (record { is = ap repeat_by y.is ∙ repeat-by text c _ _ _ _; condition = ap repeat_or y.condition; places = tt })

module _ (i m left v : ℕ) (text : List ℕ) (c : def.Cursor) (e : m ≡ 0) where
  pub shape-while : (n : ℕ) → (n ≡ 0 → ⊥) → (r : code.Option ExitIf) → Exiting false i left v text c r → Shaped i n m left v text c (while_by r)
  unfolding shape block_of exit_if while_or
  shape-while zero h r x = absurd (h refl)
  shape-while (suc n) h (Some q) x = rw e (record { is = ap while_by x.is ∙ while-by text c _ _ _ _; condition = ap while_or x.condition; places = x.places })
  shape-while (suc n) h None x = rw e (record { is = ap while_by x.is ∙ while-by text c _ _ _ _; condition = ap while_or x.condition; places = tt })

-- any other loop
pub shape_plain : (i n m left v : ℕ) (text : List ℕ) (c : def.Cursor) → (m ≡ 1 → ⊥) → (m ≡ 0 → n ≡ 0) → Shaped i n m left v text c loop-shape.Plain
unfolding shape block_of shape_by
shape_plain i zero zero left v text c h k = record { is = refl; condition = refl; places = tt }
shape_plain i (suc n) zero left v text c h k = let z : suc n ≡ 0 = k refl in absurd (omega arith)
shape_plain i n (suc zero) left v text c h k = absurd (h refl)
shape_plain i n (suc (suc m)) left v text c h k = record { is = refl; condition = refl; places = tt }
