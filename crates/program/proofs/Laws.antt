-- The laws behind the walk: what the reading says of a line's parts, and what the walk has done there.
use mathlib.Core.Path.{◌≡◌, refl, ap, sym, ◌∙◌}
use mathlib.Core.Bool.{Bool, true, false}
use mathlib.Core.Option.{Option, some, none}
use mathlib.Core.List.{List, ◌∷◌}
use Prim.Native.Nat.{ℕ, zero, suc, ◌+◌, ◌-◌, ◌≤◌, ◌<◌}
use native.Mathlib.Numerals.{sub-one}
use native.Mathlib.Omega.{arith}
use borrow.Author.Tests.{ltb-true, eqb-false}
use lib.Dec.{eqb, ltb}
use lib.ListN.{length, drop}
use Rattle.std.specs.Prelude.{Result, Ok, Err}
use Rattle.definition.specs.Limits.{wrong_lines, too_deep}
use Rattle.definition.specs.Res.{Res, ok, refuse, ◌>>=◌}
use Rattle.definition.specs.Field.{split, comma, first_line}
use Rattle.definition.specs.Tree.{Fault, Expr, bad, Stmt, bad_stmt, Arms, CaseLabel, value, range, bad_label, Pos, Source}
use Rattle.definition.specs.Program as def
use Rattle.definition.specs.Program.{Form, Line, is, not, line_of, line_at, refusal, Reader, A, I, S, F, L, X, N, R, K, B, D, O, U, C, H, M, StmtLine, ExprLine, ArmLine, next_line, fault_at, expr_forms, stmt_forms, arm_forms, label_forms, expr_of, expr_by, expr_at, label_by, labels_at, block_of, arm_by, arms_at, stmt_of, stmt_by, stmt_at, or_else, fault_of_expr, fault_of_labels, fault_of_stmt, fault_of_block, fault_of_arms}
use Rattle.definition.specs.View.{refusal_number}
use Rattle.definition.specs.declared.Refusal.{Refusal}
use Rattle.program.specs.declared.Stop.{Stop}
use Rattle.field.specs.View.{Ends, line_end}
use Rattle.field.proofs.Parts.{line-ends}
use Rattle.field.proofs.Refusals.{LineTold, anything, at_told}
use Rattle.program_line.specs.declared.Next.{Next}
use Rattle.program_line.specs.declared.LabelLine.{LabelLine}
use Rattle.program_line.specs.declared.LabelLine.TheVariants.{Value, Range}
use Rattle.program_line.specs.View.{label_line}
use Rattle.program_line.specs.Scan.{Found}
use Rattle.program.specs.declared.Cursor.{Cursor}
use Rattle.program.specs.declared.Parts.{Parts}
use Rattle.program.specs.Walk.{cursor_of, cursor_in, Near, Skipped, behind_line, lines_on, Counted, Stands, Walked, WalkedOn, outcome, went, many, over_expr, over_stmt, fault_of_label, over_label, arm_with, over_arm, parts_of, operands_of, failed}

-- ---- answers in a row

bind_assoc : (m : Res def.Cursor) (f g : def.Cursor → Res def.Cursor) → (m >>= f) >>= g ≡ m >>= (λ c. f c >>= g)
unfolding ◌>>=◌
bind_assoc (ok c) f g = refl
bind_assoc (refuse n p) f g = refl

bind_ok : (m : Res def.Cursor) → m >>= (λ c. ok c) ≡ m
unfolding ◌>>=◌
bind_ok (ok c) = refl
bind_ok (refuse n p) = refl

two_then : (f g : def.Cursor → Res def.Cursor) (c : def.Cursor) → many 2 f c >>= g ≡ f c >>= (λ d. f d >>= g)
unfolding many ◌>>=◌
two_then f g c = go (f c)
  where
    after : (m : Res def.Cursor) → (m >>= (λ d. ok d)) >>= g ≡ m >>= g
    after m = rw (bind_ok m)

    go : (m : Res def.Cursor) → (m >>= (λ d. f d >>= (λ e. ok e))) >>= g ≡ m >>= (λ d. f d >>= g)
    go (ok d) = after (f d)
    go (refuse n p) = refl

fine : (heed : Bool) (c : def.Cursor) → outcome heed none c ≡ ok c
unfolding outcome
fine true c = refl
fine false c = refl

-- one part, and what follows it from its end on
follows : (heed : Bool) (f g : Option Fault) (c d : def.Cursor) {m : Res def.Cursor} (k : def.Cursor → Res def.Cursor)
    → outcome heed f c ≡ m → outcome heed g d ≡ k c → outcome heed (or_else f g) d ≡ m >>= k
unfolding outcome or_else ◌>>=◌
follows heed f g c d k a b = rw (← a) (go heed f b)
  where
    go : (h : Bool) (f : Option Fault) → outcome h g d ≡ k c → outcome h (or_else f g) d ≡ outcome h f c >>= k
    go true none b = b
    go true (some f) b = refl
    go false f b = b

-- ---- the parts behind a line

module _ (heed : Bool) where
  expr-parts : (expr : Reader Expr) (c : def.Cursor) (l : ExprLine) → went heed fault_of_expr (expr_of expr c l) ≡ many (operands_of l) (λ d. went heed fault_of_expr (expr d)) c
  unfolding expr_of fault_of_expr operands_of many
  expr-parts expr c (K k) = fine heed c
  expr-parts expr c (B b) = fine heed c
  expr-parts expr c (D v) = fine heed c
  expr-parts expr c (O o) = follows heed _ _ _ _ _ refl (sym (bind_ok _))
  expr-parts expr c (U o) = sym (bind_ok _)
  expr-parts expr c (C o) = follows heed _ _ _ _ _ refl (sym (bind_ok _))
  expr-parts expr c (H o) = follows heed _ _ _ _ _ refl (sym (bind_ok _))

  faults-of-labels : (l : CaseLabel) (ls : List CaseLabel) → fault_of_labels (l ∷ ls) ≡ or_else (fault_of_label l) (fault_of_labels ls)
  unfolding fault_of_labels or_else
  faults-of-labels (value k) ls = refl
  faults-of-labels (range a b) ls = refl
  faults-of-labels (bad_label f) ls = refl

  labels-many : (left : ℕ) (text : List ℕ) (n : ℕ) (c : def.Cursor) → went heed fault_of_labels (labels_at left text n c) ≡ many n (over_label heed left text) c
  unfolding labels_at many
  labels-many left text zero c = unfold fault_of_labels in fine heed c
  labels-many left text (suc n) c = rw faults-of-labels (follows heed _ _ _ _ _ refl (labels-many left text n _))

  pub block-many : (stmt : Reader Stmt) (n : ℕ) (c : def.Cursor) → went heed fault_of_block (block_of stmt n c) ≡ many n (λ d. went heed fault_of_stmt (stmt d)) c
  unfolding block_of many fault_of_block
  block-many stmt zero c = fine heed c
  block-many stmt (suc n) c = follows heed _ _ _ _ _ refl (block-many stmt n _)

  module _ (left v : ℕ) (text : List ℕ) where
    -- a fault that is not heeded is met again: the place stays
    stays : (f : def.Cursor → Res def.Cursor) (n : ℕ) (c : def.Cursor) → f c ≡ ok c → many n f c ≡ ok c
    unfolding many ◌>>=◌
    stays f zero c e = refl
    stays f (suc n) c e = rw e (stays f n c e)

    bad-arms : (h : Bool) (n : ℕ) (c : def.Cursor) (k : ℕ) → line_at arm_forms left text c.at ≡ not k
        → outcome h (some (fault_at c k)) c ≡ outcome h (some (fault_at c k)) c >>= (λ d. many n (over_arm h left v text) d)
    unfolding outcome ◌>>=◌ arm_with
    bad-arms true n c k e = refl
    bad-arms false n c k e = sym (stays (over_arm false left v text) n c (rw e))

    arm-then : (n : ℕ) (more : Reader Arms) → ((d : def.Cursor) → went heed fault_of_arms (more d) ≡ many n (over_arm heed left v text) d)
        → (c : def.Cursor) (x : Line ArmLine) → line_at arm_forms left text c.at ≡ x
        → went heed fault_of_arms (arm_by left text (λ d. stmt_at left v text d) more c x) ≡ arm_with heed left v text c x >>= (λ d. many n (over_arm heed left v text) d)
    unfolding arm_by arm_with fault_of_arms
    arm-then n more ih c (is (M i j)) e =
        follows heed _ _ _ _ _ (labels-many left text i _) (follows heed _ _ _ _ _ (block-many (λ d. stmt_at left v text d) j _) (ih _))
        ∙ sym (bind_assoc _ _ _)
    arm-then n more ih c (not k) e = bad-arms heed n c k e

    arms-many : (n : ℕ) (c : def.Cursor) → went heed fault_of_arms (arms_at left text (λ d. stmt_at left v text d) n c) ≡ many n (over_arm heed left v text) c
    unfolding arms_at many
    arms-many zero c = unfold fault_of_arms in fine heed c
    arms-many (suc n) c = arm-then n (λ d. arms_at left text (λ e. stmt_at left v text e) n d) (λ d. arms-many n d) c (line_at arm_forms left text c.at) refl

    -- a statement's parts, in their order
    abbrev pub over_parts : Parts → def.Cursor → Res def.Cursor
    over_parts p c =
        many p.exprs (over_expr heed left v text) c
        >>= (λ d. many p.arms (over_arm heed left v text) d
        >>= (λ e. many p.first (over_stmt heed left v text) e
        >>= (λ f. many p.second (over_stmt heed left v text) f)))

    stmt-parts : (s : Pos → Source) (c : def.Cursor) (l : StmtLine)
        → went heed fault_of_stmt (stmt_of (λ d. expr_at left v text d) (λ d. stmt_at left v text d) (λ n d. arms_at left text (λ x. stmt_at left v text x) n d) s c l) ≡ over_parts (parts_of l) c
    unfolding stmt_of fault_of_stmt parts_of many ◌>>=◌
    stmt-parts s c (A p i) = sym (bind_ok _ ∙ bind_ok _)
    stmt-parts s c (I p n m) = follows heed _ _ _ _ _ (sym (bind_ok _)) (follows heed _ _ _ _ _ (block-many _ n _) (block-many _ m _))
    stmt-parts s c (S p n m) = follows heed _ _ _ _ _ (sym (bind_ok _)) (follows heed _ _ _ _ _ (arms-many n _) (block-many _ m _))
    stmt-parts s c (F p i j k n) =
        follows heed _ _ _ _ (λ d. over_expr heed left v text d >>= (λ e. many n (over_stmt heed left v text) e >>= (λ f. ok f)))
        refl (follows heed _ _ _ _ (λ e. many n (over_stmt heed left v text) e >>= (λ f. ok f)) refl (block-many _ n _ ∙ sym (bind_ok _)))
        ∙ sym (two_then (over_expr heed left v text) (λ e. many n (over_stmt heed left v text) e >>= (λ f. ok f)) c)
    stmt-parts s c (L p i n m) = follows heed _ _ _ _ _ (block-many _ n _) (block-many _ m _)
    stmt-parts s c (X p i) = fine heed c
    stmt-parts s c (N p i) = fine heed c
    stmt-parts s c (R p) = fine heed c

-- ---- lines: what is known of one that is there

module _ {P : Type 0} (forms : List (Form P)) (left : ℕ) (text : List ℕ) (at : ℕ) where
  pub line-some : (n : ℕ) → line_at forms left text at ≡ not n → n ≡ 0 → ⊥
  unfolding LineTold
  line-some n e = let told : LineTold (λ l. Unit {0}) (line_at forms left text at) = at_told (λ l. Unit {0}) forms left text at (anything forms) in let some = rw e at told in λ z. let a = some.0 in omega arith

  -- a line that is read is there, at a nesting level
  pub line-there : (l : P) → line_at forms left text at ≡ is l → (at < length text) × (0 < left)
  unfolding line_at
  line-there l e = go (ltb at (length text)) (eqb left 0) refl refl e
    where
      go : (t u : Bool) → ltb at (length text) ≡ t → eqb left 0 ≡ u
          → ◌≡◌ {A = Line P} (elim t [ false ↦ not wrong_lines | true ↦ elim u [ true ↦ not too_deep | false ↦ line_of forms (split comma (first_line (drop at text))) ] ]) (is l)
          → (at < length text) × (0 < left)
      go false u a b e = absurd (cc)
      go true true a b e = absurd (cc)
      go true false a b e = let h = eqb-false left 0 b in (ltb-true at (length text) a, omega arith)

-- ---- the reading at a place

module _ (left v : ℕ) (text : List ℕ) (c : def.Cursor) where
  pub expr-bad : (n : ℕ) → line_at (expr_forms v) left text c.at ≡ not n → expr_at left v text c ≡ (bad (fault_at c n), c)
  unfolding expr_at expr_by refusal
  expr-bad n e = go left e
    where
      go : (k : ℕ) → line_at (expr_forms v) k text c.at ≡ not n → expr_at k v text c ≡ (bad (fault_at c n), c)
      go zero e = rw (expr_at, e)
      go (suc k) e = rw (expr_at, e)

  pub expr-is : (l : ExprLine) → line_at (expr_forms v) left text c.at ≡ is l → expr_at left v text c ≡ expr_of (λ d. expr_at (left - 1) v text d) (next_line text c) l
  unfolding expr_at expr_by
  expr-is l e = go left e
    where
      go : (k : ℕ) → line_at (expr_forms v) k text c.at ≡ is l → expr_at k v text c ≡ expr_of (λ d. expr_at (k - 1) v text d) (next_line text c) l
      go zero e = absurd (let h = line-there (expr_forms v) 0 text c.at l e in omega arith)
      go (suc k) e = rw (sub-one, expr_at, e)

  pub stmt-bad : (n : ℕ) → line_at (stmt_forms v) left text c.at ≡ not n → stmt_at left v text c ≡ (bad_stmt (fault_at c n), c)
  unfolding stmt_at stmt_by refusal
  stmt-bad n e = go left e
    where
      go : (k : ℕ) → line_at (stmt_forms v) k text c.at ≡ not n → stmt_at k v text c ≡ (bad_stmt (fault_at c n), c)
      go zero e = rw (stmt_at, e)
      go (suc k) e = rw (stmt_at, e)

  pub stmt-is : (l : StmtLine) → line_at (stmt_forms v) left text c.at ≡ is l
      → stmt_at left v text c ≡ stmt_of (λ d. expr_at (left - 1) v text d) (λ d. stmt_at (left - 1) v text d) (λ n d. arms_at (left - 1) text (λ x. stmt_at (left - 1) v text x) n d) (λ p. record { pos = p; row = c.row }) (next_line text c) l
  unfolding stmt_at stmt_by
  stmt-is l e = go left e
    where
      go : (k : ℕ) → line_at (stmt_forms v) k text c.at ≡ is l
          → stmt_at k v text c ≡ stmt_of (λ d. expr_at (k - 1) v text d) (λ d. stmt_at (k - 1) v text d) (λ n d. arms_at (k - 1) text (λ x. stmt_at (k - 1) v text x) n d) (λ p. record { pos = p; row = c.row }) (next_line text c) l
      go zero e = absurd (let h = line-there (stmt_forms v) 0 text c.at l e in omega arith)
      go (suc k) e = rw (sub-one, stmt_at, e)

-- ---- lines counted

module _ (text : List ℕ) where
  lines-row : (n : ℕ) (c : def.Cursor) → (lines_on text n c).row ≡ c.row + n
  unfolding lines_on next_line
  lines-row zero c = omega arith
  lines-row (suc n) c = omega (arith, lines-row n (next_line text c))

  lines-add : (n m k : ℕ) → n + m ≡ k → (c : def.Cursor) → lines_on text m (lines_on text n c) ≡ lines_on text k c
  unfolding lines_on
  lines-add zero m k e c = let z : k ≡ m = omega arith in rw z
  lines-add (suc n) m zero e c = absurd (omega arith)
  lines-add (suc n) m (suc k) e c = lines-add n m k (omega arith) (next_line text c)

  here : (c : def.Cursor) → Counted text c c
  unfolding lines_on
  here c = let z : c.row - c.row ≡ 0 = omega arith in record { is = rw z }

  line_on : (c : def.Cursor) → Counted text c (next_line text c)
  unfolding lines_on next_line
  line_on c = let z : c.row + 1 - c.row ≡ 1 = omega arith in record { is = rw z }

counted-then : {text : List ℕ} {c d e : def.Cursor} → Counted text c d → Counted text d e → Counted text c e
counted-then {text} {c} {d} {e} a b =
    let p : d.row ≡ c.row + (d.row - c.row) = ap (λ (x : def.Cursor). x.row) a.is ∙ lines-row text _ c in
    let q : e.row ≡ d.row + (e.row - d.row) = ap (λ (x : def.Cursor). x.row) b.is ∙ lines-row text _ d in
    record { is = b.is ∙ ap (lines_on text (e.row - d.row)) a.is ∙ lines-add text (d.row - c.row) (e.row - d.row) (e.row - c.row) (omega (arith, p, q)) c }

-- ---- what the walk has done

-- the place behind a line
pub next-is : {text : List ℕ} {c : Cursor} {end : ℕ} → Ends first_line text c.at end → Near text c.at c.row → c.at < length text
    → Skipped text (next_line text (cursor_of c)) (record { at = end + 1; row = c.row + 1 })
unfolding next_line
next-is e near h = record {
  is = rw (← e.is);
  near = record { short = near.short; within = omega (arith, e.high); rows = omega (arith, near.rows, e.low) };
}

stands-on : {text : List ℕ} {c d : def.Cursor} → Counted text c d → (r : Result Cursor Stop) → Stands text d r → Stands text c r
stands-on k (Ok e) (near, l) = (near, counted-then k l)
stands-on k (Err e) (near, l) = (near, counted-then k l)

pub walked_then : {f g : def.Cursor → Res def.Cursor} {text : List ℕ} {c d : Cursor} → Walked f text c (Ok d) → (r : Result Cursor Stop) → Walked g text d r → Walked (λ x. f x >>= g) text c r
unfolding ◌>>=◌
walked_then {g = g} a r b = record { did = b.did ∙ ap (λ (m : Res def.Cursor). m >>= g) a.did; stands = stands-on a.stands.1 r b.stands }

pub walked-off : {f : def.Cursor → Res def.Cursor} (g : def.Cursor → Res def.Cursor) {text : List ℕ} {c : Cursor} (e : Stop) → Walked f text c (Err e) → Walked (λ x. f x >>= g) text c (Err e)
unfolding ◌>>=◌
walked-off g e a = record { did = ap (λ (m : Res def.Cursor). m >>= g) a.did; stands = a.stands }

-- it went over a line, and on
pub goes_over : {f g : def.Cursor → Res def.Cursor} {text : List ℕ} {c on : Cursor} → Skipped text (next_line text (cursor_of c)) on → f (cursor_of c) ≡ g (next_line text (cursor_of c))
    → (r : Result Cursor Stop) → Walked g text on r → Walked f text c r
goes_over {g = g} {text} {c} s e r w = record { did = w.did ∙ ap g s.is ∙ sym e; stands = stands-on (rw s.is (line_on text (cursor_of c))) r w.stands }

-- it stood at a line that is at fault
pub fails : {f : def.Cursor → Res def.Cursor} {text : List ℕ} {c : Cursor} (heed : Bool) (e : Refusal) → Near text c.at c.row → f (cursor_of c) ≡ outcome heed (some (fault_at (cursor_of c) (refusal_number e))) (cursor_of c)
    → Walked f text c (failed heed c e)
unfolding failed outcome fault_at
fails {text = text} {c} true e near h = record { did = sym h; stands = (near, here text (cursor_of c)) }
fails {text = text} {c} false e near h = record { did = sym h; stands = (near, here text (cursor_of c)) }

pub walked_none : {text : List ℕ} {c : Cursor} → Near text c.at c.row → Walked (λ d. ok d) text c (Ok c)
walked_none {text} {c} near = record { did = refl; stands = (near, here text (cursor_of c)) }

-- ---- on from an answer

module _ (f : def.Cursor → Res def.Cursor) {text : List ℕ} {w : Result Cursor Stop} where
  -- it was refused before
  pub stays-refused : (s : Stop) → w ≡ Err s → Near text (cursor_in w).at (cursor_in w).row → WalkedOn f text w (Err s)
  unfolding ◌>>=◌
  stays-refused s e near = rw e (record { did = refl; stands = (rw e at near, here text (cursor_of s.at)); stays = refl })

  pub walks-on : {c : Cursor} (r : Result Cursor Stop) → w ≡ Ok c → Walked f text c r → WalkedOn f text w r
  unfolding ◌>>=◌
  walks-on r e d = rw e (record { did = d.did; stands = d.stands; stays = tt })

pub walked-from : {f : def.Cursor → Res def.Cursor} {text : List ℕ} {c : Cursor} (r : Result Cursor Stop) → WalkedOn f text (Ok c) r → Walked f text c r
unfolding ◌>>=◌
walked-from r d = record { did = d.did; stands = d.stands }

-- ---- one line, and what follows it

module _ (heed : Bool) (left v : ℕ) (text : List ℕ) (c : def.Cursor) where
  pub expr-fault : (n : ℕ) → line_at (expr_forms v) left text c.at ≡ not n → over_expr heed left v text c ≡ outcome heed (some (fault_at c n)) c
  unfolding fault_of_expr
  expr-fault n e = rw (expr-bad left v text c n e)

  pub expr-over : (l : ExprLine) → line_at (expr_forms v) left text c.at ≡ is l → over_expr heed left v text c ≡ many (operands_of l) (over_expr heed (left - 1) v text) (next_line text c)
  expr-over l e = rw (expr-is left v text c l e) (expr-parts heed _ _ l)

  pub stmt-fault : (n : ℕ) → line_at (stmt_forms v) left text c.at ≡ not n → over_stmt heed left v text c ≡ outcome heed (some (fault_at c n)) c
  unfolding fault_of_stmt
  stmt-fault n e = rw (stmt-bad left v text c n e)

  pub stmt-over : (l : StmtLine) → line_at (stmt_forms v) left text c.at ≡ is l → (p : Parts) → p ≡ parts_of l → over_stmt heed left v text c ≡ over_parts heed (left - 1) v text p (next_line text c)
  stmt-over l e p q = rw (q, stmt-is left v text c l e) (stmt-parts heed _ _ _ _ _ l)

  pub arm-fault : (n : ℕ) → line_at arm_forms left text c.at ≡ not n → over_arm heed left v text c ≡ outcome heed (some (fault_at c n)) c
  unfolding arm_with
  arm-fault n e = rw e

  pub arm_over : (i j n m : ℕ) → line_at arm_forms left text c.at ≡ is (M i j) → n ≡ i → m ≡ j
      → over_arm heed left v text c ≡ many n (over_label heed left text) (next_line text c) >>= (λ e. many m (over_stmt heed left v text) e)
  unfolding arm_with
  arm_over i j n m e a b = rw (a, b, e)

module _ (heed : Bool) (left : ℕ) (text : List ℕ) (c : def.Cursor) where
  pub label-fault : (n : ℕ) → line_at label_forms left text c.at ≡ not n → over_label heed left text c ≡ outcome heed (some (fault_at c n)) c
  unfolding label_by fault_of_labels
  label-fault n e = rw e

  pub label-over : (l : LabelLine) → line_at label_forms left text c.at ≡ is (label_line l) → over_label heed left text c ≡ ok (next_line text c)
  unfolding label_by fault_of_labels
  label-over (Value k) e = rw e (fine heed _)
  label-over (Range a b) e = rw e (fine heed _)

-- ---- so many parts: what is left to go over, after i of n of them

pub record Going (n : ℕ) (f : def.Cursor → Res def.Cursor) (text : List ℕ) (first c : Cursor) (i : ℕ) : Type 0 where
  pub near : Near text c.at c.row
  pub left : many (n - i) f (cursor_of c) ≡ many n f (cursor_of first)
  pub lines : Counted text (cursor_of first) (cursor_of c)

pub begins : (n : ℕ) (f : def.Cursor → Res def.Cursor) {text : List ℕ} {c : Cursor} → Near text c.at c.row → Going n f text c c 0
begins n f {text} {c} near = let whole : n - 0 ≡ n = omega arith in record { near = near; left = rw whole; lines = here text (cursor_of c) }

many_more : (f : def.Cursor → Res def.Cursor) (k : ℕ) → 0 < k → (c : def.Cursor) → many k f c ≡ f c >>= (λ d. many (k - 1) f d)
unfolding many
many_more f zero h c = absurd (omega arith)
many_more f (suc k) h c = rw sub-one

module _ {n : ℕ} {f : def.Cursor → Res def.Cursor} {text : List ℕ} {first c : Cursor} {i : ℕ} (g : Going n f text first c i) where
  pub goes_on : i < n → (d : Cursor) → Walked f text c (Ok d) → Going n f text first d (i + 1)
  unfolding ◌>>=◌
  goes_on h d w =
      let less : n - (i + 1) ≡ n - i - 1 = omega arith in
      record {
        near = w.stands.0;
        left = rw less (ap (λ (m : Res def.Cursor). m >>= (λ x. many (n - i - 1) f x)) w.did ∙ sym (many_more f (n - i) (omega arith) (cursor_of c)) ∙ g.left);
        lines = counted-then g.lines w.stands.1;
      }

  pub ends : n ≤ i → Walked (many n f) text first (Ok c)
  unfolding many
  ends h = let none : n - i ≡ 0 = omega arith in record { did = rw none at g.left; stands = (g.near, g.lines) }

  pub breaks : i < n → (e : Stop) → Walked f text c (Err e) → Walked (many n f) text first (Err e)
  unfolding ◌>>=◌
  breaks h e w = record {
    did = ap (λ (m : Res def.Cursor). m >>= (λ x. many (n - i - 1) f x)) w.did ∙ sym (many_more f (n - i) (omega arith) (cursor_of c)) ∙ g.left;
    stands = stands-on g.lines (Err e) w.stands;
  }

-- ---- over a line

-- what `next_line` asks, of a line that was read
module _ {T P : Type 0} (of : T → P) (forms : List (Form P)) (left : ℕ) (text : List ℕ) (at : ℕ) (n : Next T) {stop : ℕ} where
  pub line-inside : Found of (Ok n) (line_at forms left text at) stop → (at < length text) × (0 < left)
  line-inside f = line-there forms left text at (of n.line) (sym f.is)

module _ {T P : Type 0} (of : T → P) (forms : List (Form P)) (left : ℕ) (text : List ℕ) (c : Cursor) (n : Next T) (f : Found of (Ok n) (line_at forms left text c.at) (line_end text c.at)) where
  pub end-inside : n.end ≤ length text
  end-inside = omega (arith, f.ends, (line-ends text c.at).high, line-inside of forms left text c.at n f)

  pub goes-behind : {on : Cursor} → Near text c.at c.row → on ≡ behind_line c n.end → Skipped text (next_line text (cursor_of c)) on
  goes-behind near e = rw e (next-is (rw f.ends (line-ends text c.at)) near (line-inside of forms left text c.at n f).0)

-- ---- a walk that heeds no fault goes to the place that is read

pub unrefused : {f : def.Cursor → Res def.Cursor} {text : List ℕ} {c : Cursor} (d : def.Cursor) (e : Stop) → Walked f text c (Err e) → f (cursor_of c) ≡ ok d → ⊥
unrefused d e w k = let p = w.did ∙ k in absurd (cc)

pub skipped : {f : def.Cursor → Res def.Cursor} {text : List ℕ} {c : Cursor} (d : def.Cursor) (r : Cursor) → Walked f text c (Ok r) → f (cursor_of c) ≡ ok d → Skipped text d r
skipped d r w e = let p = w.did ∙ e in record { is = cc; near = w.stands.0 }

pub block-ok : (left v n : ℕ) (text : List ℕ) (b : def.Cursor) → many n (over_stmt false left v text) b ≡ ok (block_of (λ d. stmt_at left v text d) n b).1
unfolding outcome
block-ok left v n text b = sym (block-many false (λ d. stmt_at left v text d) n b)

pub skipped-block : (left v n : ℕ) {text : List ℕ} {b : Cursor} (c : Cursor) → Walked (many n (over_stmt false left v text)) text b (Ok c) → Skipped text (block_of (λ d. stmt_at left v text d) n (cursor_of b)).1 c
skipped-block left v n c w = skipped _ c w (block-ok left v n _ _)
