-- A line that is there makes the lines that remain fewer, and reading an expression never makes them more.
use mathlib.Core.Path.{◌≡◌, ap, sym}
use mathlib.Core.Bool.{Bool, true, false}
use mathlib.Core.List.{List, [], ◌∷◌}
use Prim.Native.Nat.{ℕ, zero, suc, ◌+◌, ◌≤◌, ◌<◌}
use native.Mathlib.Omega.{arith}
use lib.Dec.{eqb}
use lib.ListN.{length, drop, length-drop}
use lib.Seq.{drop-drop}
use Rattle.definition.specs.Field.{lf, first_line}
use Rattle.definition.specs.Tree.{Expr}
use Rattle.definition.specs.Program as def
use Rattle.definition.specs.Program.{Line, is, not, Reader, K, B, D, O, U, C, H, ExprLine, line_at, next_line, expr_forms, expr_of, expr_by, expr_at}
use Rattle.program.specs.declared.Cursor.{Cursor}
use Rattle.program.specs.Walk.{cursor_of, Skipped}
use Rattle.expr.specs.Lines.{line_count, lines_left}

-- ---- one line

fewer : (b : ℕ) (bs : List ℕ) → line_count (drop (suc (length (first_line (b ∷ bs)))) (b ∷ bs)) < line_count (b ∷ bs)
unfolding line_count first_line
fewer b [] = go (eqb b lf)
  where
    go : (t : Bool) → line_count (drop (suc (length {A = ℕ} (elim t as (λ x. List ℕ) [ true ↦ [] | false ↦ b ∷ [] ]))) (b ∷ [])) < 1
    go true = omega arith
    go false = omega arith
fewer b (c ∷ bs) = go (eqb b lf) (fewer c bs)
  where
    go : (t : Bool) → line_count (drop (suc (length (first_line (c ∷ bs)))) (c ∷ bs)) < line_count (c ∷ bs)
        → line_count (drop (suc (length {A = ℕ} (elim t as (λ x. List ℕ) [ true ↦ [] | false ↦ b ∷ first_line (c ∷ bs) ]))) (b ∷ c ∷ bs))
        < elim t as (λ x. ℕ) [ true ↦ suc (line_count (c ∷ bs)) | false ↦ line_count (c ∷ bs) ]
    go true h = omega arith
    go false h = h

module _ (text : List ℕ) where
  next-lines : (c : def.Cursor) → lines_left text (next_line text c).at ≡ line_count (drop (suc (length (first_line (drop c.at text)))) (drop c.at text))
  unfolding lines_left next_line
  next-lines c =
      let n = length (first_line (drop c.at text)) in
      let e : c.at + n + 1 ≡ c.at + suc n = omega arith in
      rw e (ap line_count (sym (drop-drop (suc n) c.at text)))

  next-fewer : (c : def.Cursor) → c.at < length text → lines_left text (next_line text c).at < lines_left text c.at
  unfolding lines_left
  next-fewer c h = rw (next-lines c) (go (drop c.at text) (rw (length-drop c.at text) (omega arith)))
    where
      go : (bs : List ℕ) → 0 < length bs → line_count (drop (suc (length (first_line bs))) bs) < line_count bs
      go [] k = absurd (omega arith)
      go (b ∷ bs) k = fewer b bs

  next-most : (c : def.Cursor) → lines_left text (next_line text c).at ≤ lines_left text c.at
  unfolding lines_left line_count first_line
  next-most c = rw (next-lines c) (go (drop c.at text))
    where
      go : (bs : List ℕ) → line_count (drop (suc (length (first_line bs))) bs) ≤ line_count bs
      go [] = omega arith
      go (b ∷ bs) = omega (arith, fewer b bs)

  pub passed-fewer : (c : Cursor) {next : Cursor} → Skipped text (next_line text (cursor_of c)) next → c.at < length text → lines_left text next.at < lines_left text c.at
  passed-fewer c on h = let e = ap (λ (d : def.Cursor). d.at) on.is in rw e (next-fewer (cursor_of c) h)

  -- ---- an expression

  -- a reader leaves no more than there were
  abbrev Most : Reader Expr → Type 0
  Most r = (c : def.Cursor) → lines_left text (r c).1.at ≤ lines_left text c.at

  most-of : (r : Reader Expr) → Most r → (c : def.Cursor) (l : ExprLine) → lines_left text (expr_of r c l).1.at ≤ lines_left text c.at
  unfolding expr_of
  most-of r m c (K k) = omega arith
  most-of r m c (B b) = omega arith
  most-of r m c (D v) = omega arith
  most-of r m c (O o) = omega (arith, m c, m (r c).1)
  most-of r m c (U o) = m c
  most-of r m c (C o) = omega (arith, m c, m (r c).1)
  most-of r m c (H o) = omega (arith, m c, m (r c).1)

  most-by : (r : Reader Expr) → Most r → (c : def.Cursor) (l : Line ExprLine) → lines_left text (expr_by r text c l).1.at ≤ lines_left text c.at
  unfolding expr_by
  most-by r m c (is l) = omega (arith, most-of r m (next_line text c) l, next-most c)
  most-by r m c (not n) = omega arith

  expr-most : (left v : ℕ) → Most (expr_at left v text)
  unfolding expr_at
  expr-most zero v c = omega arith
  expr-most (suc left) v c = most-by (λ d. expr_at left v text d) (λ d. expr-most left v d) c (line_at (expr_forms v) (suc left) text c.at)

  pub read-most : (left v : ℕ) (c : Cursor) {d : Cursor} → cursor_of d ≡ (expr_at left v text (cursor_of c)).1 → lines_left text d.at ≤ lines_left text c.at
  read-most left v c e = let k = ap (λ (x : def.Cursor). x.at) e in rw k (expr-most left v (cursor_of c))
