-- A FOR that stands in a program's tree is among its calls.
use Prim.Native.Nat.{ℕ, suc}
use mathlib.Core.Path.{◌≡◌, refl, sym, ◌∙◌, ap, subst}
use mathlib.Core.List.{List, [], ◌∷◌, ◌++◌, append_assoc, append-nil}
use mathlib.Core.Bool.{Bool, true, false, ◌&&◌}
use mathlib.Core.Option.{Option, some, none}
use native.Mathlib.Omega.{arith}
use Rattle.definition.specs.Tree.{CaseLabel, Expr, Stmt, Block, done, ◌then◌, Arms, Program, is_done, is_exit_stmt, is_exit, only_if, exit_when, exit_unless, Shape, while, repeat, plain, repeat_or, while_or, shape}
use Rattle.definition.specs.Emit.{Call, create_label}
use Rattle.definition.specs.Walk.{next, after, Walk, Calls, ◌>>=◌, ◌>>◌, new_label}
use Rattle.definition.specs.CompileExpr.{ClassifiedCmp, classify}
use Rattle.definition.specs.Stmt.{Loops, branch_unless, else_part, arm_body, emit_arm, loop_body, continues, emit_for, while_by, emit_while, repeat_by, emit_repeat, emit_plain, emit_loop, emit_stmt, emit_block, emit_rest, emit_arms, emit_stmts}
use Rattle.counting.proofs.Once.{after-append}
use Rattle.definition.specs.For.{In, here, inside, behind, InStmt, in_then, in_else, in_arms, in_other, in_for, in_body, in_continuing, InArms, in_arm, in_later, Emits, For, for_stmt}

-- a walk among whose calls are those of t
record Split (t : Stmt) (n : ℕ) (calls : List Call) : Type 0 where
  before : List Call
  loops : Loops
  rest : List Call
  is : calls ≡ before ++ ((emit_stmt t loops (after n before)).1 ++ rest)

record Has {A : Type 0} (t : Stmt) (w : Walk A) : Type 0 where
  at : (n : ℕ) → Split t n (w n).1

whole : (t : Stmt) (loops : Loops) → Has t (emit_stmt t loops)
unfolding after
whole t loops = record { at = λ n. record { before = []; loops = loops; rest = []; is = sym (append-nil _) } }

in-first : {B : Type 0} (t : Stmt) (m : Calls) (k : Walk B) → Has t m → Has t (m >> k)
unfolding ◌>>◌
in-first t m k h = record {
  at = λ n.
      let x = h.at n in
      let r = (k (after n (m n).1)).1 in
      record {
        before = x.before;
        loops = x.loops;
        rest = x.rest ++ r;
        is = ap (λ c. c ++ r) x.is ∙ (append_assoc x.before ((emit_stmt t x.loops (after n x.before)).1 ++ x.rest) r
            ∙ ap (λ c. x.before ++ c) (append_assoc (emit_stmt t x.loops (after n x.before)).1 x.rest r));
      };
}

in-second : {B : Type 0} (t : Stmt) (m : Calls) (k : Walk B) → Has t k → Has t (m >> k)
unfolding ◌>>◌
in-second t m k h = record {
  at = λ n.
      let a = (m n).1 in
      let x = h.at (after n a) in
      record {
        before = a ++ x.before;
        loops = x.loops;
        rest = x.rest;
        is = ap (λ c. a ++ c) x.is ∙ (sym (append_assoc a x.before ((emit_stmt t x.loops (after (after n a) x.before)).1 ++ x.rest))
            ∙ ap (λ j. (a ++ x.before) ++ ((emit_stmt t x.loops j).1 ++ x.rest)) (sym (after-append n a x.before)));
      };
}

in-open : {B : Type 0} (t : Stmt) (h : ℕ) (f : ℕ → Walk B) → ((l : ℕ) → Has t (f l)) → Has t (new_label h >>= f)
unfolding ◌>>=◌ new_label after next
in-open t h f x = record {
  at = λ n.
      let y = (x n).at (suc n) in
      record { before = create_label h ∷ y.before; loops = y.loops; rest = y.rest; is = ap (λ c. create_label h ∷ c) y.is };
}

-- ---- what is not emitted holds no FOR

clash : {A : Type 0} → true ≡ false → A
clash e = absurd (let z : ◌≡◌ {A = ℕ} 0 1 = cc in omega arith)

and-false : (a b : Bool) → b ≡ false → (a && b) ≡ false
and-false true b e = e
and-false false b e = refl

false-and : (a b : Bool) → a ≡ false → (a && b) ≡ false
false-and a b e = ap (λ x. x && b) e

module _ (f : For) where
  abbrev t : Stmt
  t = for_stmt f

  not_done : {b : Block} → In t b → is_done b ≡ false
  unfolding is_done
  not_done (here q) = refl
  not_done (inside i) = refl
  not_done (behind i) = refl

  no-exit-stmt : (i : ℕ) {s : Stmt} → InStmt t s → is_exit_stmt i s ≡ false
  unfolding is_exit_stmt
  no-exit-stmt i (in_then j) = refl
  no-exit-stmt i (in_else j) = refl
  no-exit-stmt i (in_arms j) = refl
  no-exit-stmt i (in_other j) = refl
  no-exit-stmt i (in_for j) = refl
  no-exit-stmt i (in_body j) = refl
  no-exit-stmt i (in_continuing j) = refl

  no-exit : (i : ℕ) {b : Block} → In t b → is_exit i b ≡ false
  unfolding is_exit is_exit_stmt for_stmt
  no-exit i (here {s = s} {b = b} q) = false-and (is_exit_stmt i s) (is_done b) (ap (λ u. is_exit_stmt i u) q)
  no-exit i (inside {b = b} j) = false-and _ (is_done b) (no-exit-stmt i j)
  no-exit i (behind {s = s} j) = and-false (is_exit_stmt i s) _ (not_done j)

  unless-none : (i : ℕ) {s : Stmt} → InStmt t s → exit_unless i s ≡ none
  unfolding exit_unless only_if
  unless-none i (in_then {c = c} {a = a} {b = b} j) = ap (λ x. only_if x c) (false-and (is_done a) (is_exit i b) (not_done j))
  unless-none i (in_else {c = c} {a = a} {b = b} j) = ap (λ x. only_if x c) (and-false (is_done a) (is_exit i b) (no-exit i j))
  unless-none i (in_arms j) = refl
  unless-none i (in_other j) = refl
  unless-none i (in_for j) = refl
  unless-none i (in_body j) = refl
  unless-none i (in_continuing j) = refl

  when-none : (i : ℕ) {s : Stmt} → InStmt t s → exit_when i s ≡ none
  unfolding exit_when only_if
  when-none i (in_then {c = c} {a = a} {b = b} j) = ap (λ x. only_if x c) (and-false (is_done b) (is_exit i a) (no-exit i j))
  when-none i (in_else {c = c} {a = a} {b = b} j) = ap (λ x. only_if x c) (false-and (is_done b) (is_exit i a) (not_done j))
  when-none i (in_arms j) = refl
  when-none i (in_other j) = refl
  when-none i (in_for j) = refl
  when-none i (in_body j) = refl
  when-none i (in_continuing j) = refl

  -- the shapes
  repeat-not-while : {A : Type 0} (o : Option Expr) (x : Expr) → repeat_or o ≡ while x → A
  unfolding repeat_or
  repeat-not-while (some c) x e = absurd (let z : ◌≡◌ {A = ℕ} 0 1 = cc in omega arith)
  repeat-not-while none x e = absurd (let z : ◌≡◌ {A = ℕ} 0 1 = cc in omega arith)

  plain-not-while : {A : Type 0} (x : Expr) → plain ≡ while x → A
  plain-not-while x e = absurd (let z : ◌≡◌ {A = ℕ} 0 1 = cc in omega arith)

  plain-not-repeat : {A : Type 0} (x : Expr) → plain ≡ repeat x → A
  plain-not-repeat x e = absurd (let z : ◌≡◌ {A = ℕ} 0 1 = cc in omega arith)

  not-while : {A : Type 0} (i : ℕ) (s : Stmt) (b c : Block) (x : Expr) → exit_unless i s ≡ none → shape i (s then b) c ≡ while x → A
  unfolding shape while_or
  not-while i s b done x n e = plain-not-while x (sym (ap (λ o. while_or o) n) ∙ e)
  not-while i s b (u then done) x n e = repeat-not-while (exit_when i u) x e
  not-while i s b (u then (w then c)) x n e = plain-not-while x e

  never-while : {A : Type 0} (i : ℕ) (b : Block) (s : Stmt) (c : Block) (x : Expr) → shape i b (s then c) ≡ while x → A
  unfolding shape
  never-while i b s done x e = repeat-not-while (exit_when i s) x e
  never-while i b s (w then c) x e = plain-not-while x e

  not-repeat : {A : Type 0} (i : ℕ) (b : Block) (s : Stmt) (c : Block) (x : Expr) → exit_when i s ≡ none → shape i b (s then c) ≡ repeat x → A
  unfolding shape repeat_or
  not-repeat i b s done x n e = plain-not-repeat x (sym (ap (λ o. repeat_or o) n) ∙ e)
  not-repeat i b s (w then c) x n e = plain-not-repeat x e

  behind-not-repeat : {A : Type 0} (i : ℕ) (b : Block) (s : Stmt) (c : Block) (x : Expr) → In t c → shape i b (s then c) ≡ repeat x → A
  unfolding shape is_done
  behind-not-repeat i b s done x j e = clash (not_done j)
  behind-not-repeat i b s (w then c) x j e = plain-not-repeat x e

  for-unless : (i : ℕ) → exit_unless i t ≡ none
  unfolding exit_unless for_stmt
  for-unless i = refl

  for-when : (i : ℕ) → exit_when i t ≡ none
  unfolding exit_when for_stmt
  for-when i = refl

  continuing-while : {A : Type 0} (i : ℕ) (b : Block) {c : Block} (x : Expr) → In t c → shape i b c ≡ while x → A
  continuing-while i b x (here {s = s} {b = c} q) e = never-while i b s c x e
  continuing-while i b x (inside {s = s} {b = c} j) e = never-while i b s c x e
  continuing-while i b x (behind {s = s} {b = c} j) e = never-while i b s c x e

  continuing-repeat : {A : Type 0} (i : ℕ) (b : Block) {c : Block} (x : Expr) → In t c → shape i b c ≡ repeat x → A
  continuing-repeat i b x (here {s = s} {b = c} q) e = not-repeat i b s c x (ap (λ u. exit_when i u) q ∙ for-when i) e
  continuing-repeat i b x (inside {s = s} {b = c} j) e = not-repeat i b s c x (when-none i j) e
  continuing-repeat i b x (behind {s = s} {b = c} j) e = behind-not-repeat i b s c x j e

  -- ---- what is emitted has it

  else-has : (d : Bool) (l : ℕ) (w : Calls) → d ≡ false → Has t w → Has t (else_part d l w)
  unfolding else_part
  else-has true l w e x = clash e
  else-has false l w e x = in-open t _ _ λ end. in-second t _ _ (in-second t _ _ (in-first t _ _ x))

  arm-body-has : (l end : ℕ) (w : Calls) → Has t w → Has t (arm_body l end w)
  unfolding arm_body
  arm-body-has l end w x = in-second t _ _ (in-first t _ _ x)

  arm-has : (l : CaseLabel) (ls : List CaseLabel) (end : ℕ) (w : Calls) → Has t w → Has t (emit_arm (l ∷ ls) end w)
  unfolding emit_arm
  arm-has l [] end w x = in-open t _ _ λ next_arm. in-second t _ _ (arm-body-has next_arm end w x)
  arm-has l (m ∷ ms) end w x = in-open t _ _ λ next_arm. in-open t _ _ λ start. in-second t _ _ (in-second t _ _ (arm-body-has next_arm end w x))

  module _ (body : Loops → Calls) (x : (o : Loops) → Has t (body o)) where
    body_has : (i end : ℕ) (used : Bool) (loops : Loops) → Has t (loop_body i end used body loops)
    unfolding loop_body
    body_has i end used loops = in-open t _ _ λ l. in-first t _ _ (x _)

    for-has : (i v step : ℕ) (from to : Expr) (used : Bool) (loops : Loops) → Has t (emit_for i v step from to used body loops)
    unfolding emit_for
    for-has i v step from to used loops =
        in-second t _ _ (in-second t _ _ (in-open t _ _ λ head. in-open t _ _ λ end. in-second t _ _ (in-second t _ _ (in-first t _ _ (body_has i end used loops)))))

    while-by-has : (c : Option ClassifiedCmp) (i : ℕ) (e : Expr) (end : ℕ) (used : Bool) (loops : Loops) → Has t (while_by c i e end used body loops)
    unfolding while_by
    while-by-has (some c) i e end used loops = in-second t _ _ (in-open t _ _ λ start. in-second t _ _ (in-second t _ _ (in-first t _ _ (body_has i end used loops))))
    while-by-has none i e end used loops = in-open t _ _ λ head. in-second t _ _ (in-second t _ _ (in-second t _ _ (in-first t _ _ (body_has i end used loops))))

    while-has : (i : ℕ) (e : Expr) (used : Bool) (loops : Loops) → Has t (emit_while i e used body loops)
    unfolding emit_while
    while-has i e used loops = in-open t _ _ λ end. in-first t _ _ (while-by-has (classify e) i e end used loops)

    repeat-by-has : (c : Option ClassifiedCmp) (i : ℕ) (e : Expr) (head end : ℕ) (used : Bool) (loops : Loops) → Has t (repeat_by c i e head end used body loops)
    unfolding repeat_by
    repeat-by-has (some c) i e head end used loops = in-second t _ _ (in-second t _ _ (in-first t _ _ (body_has i end used loops)))
    repeat-by-has none i e head end used loops = in-second t _ _ (in-first t _ _ (body_has i end used loops))

    repeat-has : (i : ℕ) (e : Expr) (used : Bool) (loops : Loops) → Has t (emit_repeat i e used body loops)
    unfolding emit_repeat
    repeat-has i e used loops = in-open t _ _ λ head. in-open t _ _ λ end. in-first t _ _ (repeat-by-has (classify e) i e head end used loops)

    plain-has : (i : ℕ) (used : Bool) (continuing : Loops → Calls) (loops : Loops) → Has t (emit_plain i used body continuing loops)
    unfolding emit_plain
    plain-has i used continuing loops = in-open t _ _ λ head. in-open t _ _ λ end. in-second t _ _ (in-first t _ _ (body_has i end used loops))

    continuing-has : (i : ℕ) (used : Bool) (other : Loops → Calls) (loops : Loops) → Has t (emit_plain i used other body loops)
    unfolding emit_plain
    continuing-has i used other loops = in-open t _ _ λ head. in-open t _ _ λ end. in-second t _ _ (in-second t _ _ (in-first t _ _ (x loops)))

  loop-body-has : (h : Shape) (i : ℕ) (b c : Block) (used : Bool) (body rest continuing : Loops → Calls) (loops : Loops) → shape i b c ≡ h
      → ((o : Loops) → Has t (body o)) → ((e : Expr) → shape i b c ≡ while e → (o : Loops) → Has t (rest o)) → Has t (emit_loop h i used body rest continuing loops)
  unfolding emit_loop
  loop-body-has (while e) i b c used body rest continuing loops q x y = while-has rest (y e q) i e used loops
  loop-body-has (repeat e) i b c used body rest continuing loops q x y = repeat-has body x i e used loops
  loop-body-has plain i b c used body rest continuing loops q x y = plain-has body x i used continuing loops

  loop-continuing-has : (h : Shape) (i : ℕ) (b : Block) {c : Block} (used : Bool) (body rest continuing : Loops → Calls) (loops : Loops) → shape i b c ≡ h → In t c
      → ((o : Loops) → Has t (continuing o)) → Has t (emit_loop h i used body rest continuing loops)
  unfolding emit_loop
  loop-continuing-has (while e) i b used body rest continuing loops q j x = continuing-while i b e j q
  loop-continuing-has (repeat e) i b used body rest continuing loops q j x = continuing-repeat i b e j q
  loop-continuing-has plain i b used body rest continuing loops q j x = continuing-has continuing x i used body loops

  same : (s : Stmt) (loops : Loops) → s ≡ t → Has t (emit_stmt s loops)
  same s loops q = subst (λ u. Has t (emit_stmt u loops)) (sym q) (whole t loops)

  mutual
    unfolding emit_stmt branch_unless

    stmt-has : {s : Stmt} → InStmt t s → (loops : Loops) → Has t (emit_stmt s loops)
    stmt-has (in_then j) loops = in-open t _ _ λ l. in-second t _ _ (in-first t _ _ (block-has j loops))
    stmt-has (in_else {b = b} j) loops = in-open t _ _ λ l. in-second t _ _ (in-second t _ _ (else-has (is_done b) l (emit_block b loops) (not_done j) (block-has j loops)))
    stmt-has (in_arms j) loops = in-second t _ _ (in-open t _ _ λ end. in-first t _ _ (arms-has j end loops))
    stmt-has (in_other j) loops = in-second t _ _ (in-open t _ _ λ end. in-second t _ _ (in-second t _ _ (in-first t _ _ (block-has j loops))))
    stmt-has (in_for {i = i} {v = v} {step = step} {from = from} {to = to} {b = b} j) loops = for-has (λ o. emit_block b o) (λ o. block-has j o) i v step from to (continues i b) loops
    stmt-has (in_body {i = i} {b = b} {c = c} j) loops =
        loop-body-has (shape i b c) i b c (continues i b) (λ o. emit_block b o) (λ o. emit_rest b o) (λ o. emit_block c o) loops refl (λ o. block-has j o) (λ e q o. rest_has j i c e q o)
    stmt-has (in_continuing {i = i} {b = b} {c = c} j) loops =
        loop-continuing-has (shape i b c) i b (continues i b) (λ o. emit_block b o) (λ o. emit_rest b o) (λ o. emit_block c o) loops refl j (λ o. block-has j o)

    block-has : {b : Block} → In t b → (loops : Loops) → Has t (emit_block b loops)
    block-has (here {s = s} q) loops = in-second t _ _ (in-first t _ _ (same s loops q))
    block-has (inside j) loops = in-second t _ _ (in-first t _ _ (stmt-has j loops))
    block-has (behind j) loops = in-second t _ _ (in-second t _ _ (block-has j loops))

    -- a WHILE's body leaves out its first statement
    rest_has : {b : Block} → In t b → (i : ℕ) (c : Block) (e : Expr) → shape i b c ≡ while e → (loops : Loops) → Has t (emit_rest b loops)
    rest_has (here {s = s} {b = b} k) i c e q loops = not-while i s b c e (ap (λ u. exit_unless i u) k ∙ for-unless i) q
    rest_has (inside {s = s} {b = b} j) i c e q loops = not-while i s b c e (unless-none i j) q
    rest_has (behind j) i c e q loops = block-has j loops

    arms-has : {xs : Arms} → InArms t xs → (end : ℕ) (loops : Loops) → Has t (emit_arms xs end loops)
    arms-has (in_arm {l = l} {ls = ls} {b = b} j) end loops = in-first t _ _ (arm-has l ls end (emit_block b loops) (block-has j loops))
    arms-has (in_later j) end loops = in-second t _ _ (arms-has j end loops)

  stmts-has : {b : Block} → In t b → Has t (emit_stmts b)
  unfolding emit_stmts
  stmts-has (here {s = s} q) = in-first t _ _ (same s [] q)
  stmts-has (inside j) = in-first t _ _ (stmt-has j [])
  stmts-has (behind j) = in-second t _ _ (stmts-has j)

  -- A FOR of a program's tree, outside arms without labels, is emitted.
  pub found : (p : Program) → In t p.body → Emits p t
  found p j =
      let x = (stmts-has j).at 0 in
      record { before = x.before; loops = x.loops; behind = x.rest; is = x.is }
