-- What emission's calls have in common, whatever the tree: a label is bound at most once, and only after it was created; an opcode that is
-- emitted alone is of one byte (a part of what runs shows of them); a statement does not end with a load.
use Prim.Native.Nat.{ℕ, ◌+◌, suc, ◌≤◌, zero-le}
use mathlib.Core.Path.{◌≡◌, refl, ◌∙◌, ap}
use mathlib.Core.List.{List, [], ◌∷◌, ◌++◌}
use mathlib.Core.Bool.{Bool, true, false}
use mathlib.Core.Option.{Option, some, none}
use native.Mathlib.Omega.{arith}
use lib.Dec.{eqb, ltb}
use borrow.Author.Tests.{ltb-true, ltb-false, eqb-true, eqb-false}
use Rattle.definition.specs.Limits.{width}
use Rattle.definition.specs.Opcode.{CompareOp, AndThen, OrElse, dup, pop, ret, load_true, load_false, size}
use Rattle.definition.specs.Opcode as role
use Rattle.definition.specs.Tree.{Source, Expr, const, bool, read, binary, unary, compare, short_circuit, bad, CaseLabel, value, range, bad_label, Stmt, assign, if, case, for, loop, exit, continue, return, bad_stmt, Block, done, ◌then◌, Arms, no_arms, arm, bad_arm, is_done, Shape, while, repeat, plain, shape, counts_down, bound}
use Rattle.definition.specs.Emit.{Call, create_label, bind_label, load_variable, store_variable, load_constant, add_constant, emit_opcode, emit_jmp, emit_jmp_if_not, emit_cmp_br, reset_stack_depth, set_position, refused}
use Rattle.definition.specs.Walk.{next, after, Walk, Calls, ◌>>=◌, ◌>>◌, say, nothing, new_label, when}
use Rattle.definition.specs.CompileExpr.{ClassifiedCmp, constant_of, classify, emit_classified_cmp_br}
use Rattle.definition.specs.Expr.{emit_expr}
use Rattle.definition.specs.Stmt.{Loops, labels, jump_to, exit_of, next_of, continues, branch_unless_by, branch_unless, else_part, test_against, test_label, test_labels, arm_body, emit_arm, loop_body, end_test_by, emit_for, while_by, emit_while, repeat_by, emit_repeat, emit_plain, emit_loop, source_of, record_position, emit_stmt, emit_block, emit_rest, emit_arms, emit_stmts}
use Rattle.definition.specs.Count.{one_if}
use Rattle.runs.proofs.Heights.{Step, Safe, ends, goes, next-mono}
use Rattle.runs.proofs.Emitted.{program-safe}

-- ---- what is counted

-- is this a binding of label l?
unfoldable pub is_bind : ℕ → Call → ℕ
is_bind l (create_label h) = 0
is_bind l (bind_label k) = one_if (eqb k l)
is_bind l (load_variable v) = 0
is_bind l (store_variable v) = 0
is_bind l (load_constant k) = 0
is_bind l (add_constant k) = 0
is_bind l (emit_opcode r) = 0
is_bind l (emit_jmp k) = 0
is_bind l (emit_jmp_if_not k) = 0
is_bind l (emit_cmp_br c v k m) = 0
is_bind l (reset_stack_depth h) = 0
is_bind l (set_position p) = 0
is_bind l (refused f) = 0

unfoldable pub binds : ℕ → List Call → ℕ
binds l [] = 0
binds l (c ∷ cs) = is_bind l c + binds l cs

pub binds-append : (l : ℕ) (a b : List Call) → binds l (a ++ b) ≡ binds l a + binds l b
unfolding binds
binds-append l [] b = omega arith
binds-append l (c ∷ a) b = let q = binds-append l a b in omega arith

pub after-append : (n : ℕ) (a b : List Call) → after n (a ++ b) ≡ after (after n a) b
unfolding after
after-append n [] b = refl
after-append n (c ∷ a) b = after-append (next c n) a b

-- is label l one of the first n?
unfoldable pub below : ℕ → ℕ → ℕ
below n l = one_if (ltb l n)

below_suc : (n l : ℕ) → below (suc n) l ≡ below n l + one_if (eqb n l)
unfolding below one_if
below_suc n l = go (ltb l (suc n)) (ltb l n) (eqb n l) refl refl refl
  where
    go : (a b c : Bool) → ltb l (suc n) ≡ a → ltb l n ≡ b → eqb n l ≡ c → one_if a ≡ one_if b + one_if c
    go true true true x y z = let u = ltb-true l n y in let w = eqb-true n l z in absurd (omega arith)
    go true true false x y z = omega arith
    go true false true x y z = omega arith
    go true false false x y z = let u = ltb-false l n y in let w = ltb-true l (suc n) x in absurd (eqb-false n l z (omega arith))
    go false true c x y z = let u = ltb-false l (suc n) x in let w = ltb-true l n y in absurd (omega arith)
    go false false true x y z = let u = ltb-false l (suc n) x in let w = eqb-true n l z in absurd (omega arith)
    go false false false x y z = omega arith

below_next : (c : Call) (n l : ℕ) → below n l ≤ below (next c n) l
unfolding below one_if
below_next c n l = go (ltb l n) (ltb l (next c n)) refl refl
  where
    go : (a b : Bool) → ltb l n ≡ a → ltb l (next c n) ≡ b → one_if a ≤ one_if b
    go true true x y = omega arith
    go true false x y = let u = ltb-true l n x in let w = ltb-false l (next c n) y in let z = next-mono c n in absurd (omega arith)
    go false b x y = zero-le

-- A walk that binds labels which it creates, each once at most, and of those created before it label l at most `credit l` times.
pub record Once {A : Type 0} (credit : ℕ → ℕ) (w : Walk A) : Type 0 where
  pub once : (n l : ℕ) → binds l (w n).1 + below n l ≤ below (after n (w n).1) l + credit l

abbrev nil : ℕ → ℕ
nil = λ l. 0

abbrev of : ℕ → ℕ → ℕ
of k = λ l. one_if (eqb k l)

-- ---- how walks join

seq : {B : Type 0} {c d : ℕ → ℕ} {m : Calls} {k : Walk B} → Once c m → Once d k → Once (λ l. c l + d l) (m >> k)
unfolding ◌>>◌
seq {m = m} {k = k} x y = record {
  once = λ n l.
      let a = (m n).1 in
      let b = (k (after n a)).1 in
      let p = x.once n l in
      let q = y.once (after n a) l in
      let u = binds-append l a b in
      let e = ap (λ j. below j l) (after-append n a b) in
      omega arith;
}

opens : {B : Type 0} {c : ℕ → ℕ} (h : ℕ) {f : ℕ → Walk B} → ((k : ℕ) → Once (λ l. one_if (eqb k l) + c l) (f k)) → Once c (new_label h >>= f)
unfolding ◌>>=◌ new_label after next binds is_bind
opens h {f = f} x = record {
  once = λ n l.
      let p = (x n).once (suc n) l in
      let q = below_suc n l in
      omega arith;
}

fits : {A : Type 0} {c d : ℕ → ℕ} {w : Walk A} → Once c w → ((l : ℕ) → c l ≤ d l) → Once d w
fits {w = w} x f = record { once = λ n l. let p = x.once n l in let q = f l in omega arith }

quiet : Once nil nothing
unfolding nothing binds after
quiet = record { once = λ n l. omega arith }

says : (c : Call) → ((l : ℕ) → is_bind l c ≡ 0) → Once nil (say c)
unfolding say binds after
says c f = record { once = λ n l. let p = f l in let q = below_next c n l in omega arith }

binding : (k : ℕ) → Once (of k) (say (bind_label k))
unfolding say binds after is_bind next
binding k = record { once = λ n l. omega arith }

-- ---- expressions

expr-once : (e : Expr) (h : ℕ) → Once nil (emit_expr e h)
unfolding emit_expr is_bind
expr-once (const k) h = says (load_constant k) (λ l. refl)
expr-once (bool true) h = says (emit_opcode load_true) (λ l. refl)
expr-once (bool false) h = says (emit_opcode load_false) (λ l. refl)
expr-once (read v) h = says (load_variable v) (λ l. refl)
expr-once (binary o a b) h = fits (seq (expr-once a h) (seq (expr-once b (suc h)) (says (emit_opcode (role.binary_role o)) (λ l. refl)))) (λ l. omega arith)
expr-once (unary o a) h = fits (seq (expr-once a h) (says (emit_opcode (role.unary_role o)) (λ l. refl))) (λ l. omega arith)
expr-once (compare c a b) h = fits (seq (expr-once a h) (seq (expr-once b (suc h)) (says (emit_opcode (role.compare c)) (λ l. refl)))) (λ l. omega arith)
expr-once (short_circuit AndThen a b) h = opens h λ alternative. opens (suc h) λ end.
    fits
    (seq (expr-once a h)
    (seq (says (emit_jmp_if_not alternative) (λ l. refl))
    (seq (expr-once b h)
    (seq (says (emit_jmp end) (λ l. refl))
    (seq (binding alternative)
    (seq (says (reset_stack_depth h) (λ l. refl))
    (seq (says (emit_opcode load_false) (λ l. refl)) (binding end))))))))
    (λ l. omega arith)
expr-once (short_circuit OrElse a b) h = opens h λ alternative. opens (suc h) λ end.
    fits
    (seq (expr-once a h)
    (seq (says (emit_jmp_if_not alternative) (λ l. refl))
    (seq (says (emit_opcode load_true) (λ l. refl))
    (seq (says (emit_jmp end) (λ l. refl))
    (seq (binding alternative)
    (seq (says (reset_stack_depth h) (λ l. refl))
    (seq (expr-once b h) (binding end))))))))
    (λ l. omega arith)
expr-once (bad f) h = says (refused f) (λ l. refl)

-- ---- conditions

fused-once : (f : ClassifiedCmp) (b : Bool) (target : ℕ) → Once nil (emit_classified_cmp_br f b target)
unfolding emit_classified_cmp_br is_bind
fused-once f true target = says _ (λ l. refl)
fused-once f false target = says _ (λ l. refl)

unless-once : (f : Option ClassifiedCmp) (c : Expr) (target : ℕ) → Once nil (branch_unless_by f c target)
unfolding branch_unless_by is_bind
unless-once (some f) c target = fused-once f false target
unless-once none c target = fits (seq (expr-once c 0) (says (emit_jmp_if_not target) (λ l. refl))) (λ l. omega arith)

else-once : (b : Bool) (next : ℕ) (w : Calls) → Once nil w → Once (of next) (else_part b next w)
unfolding else_part is_bind
else-once true next w x = binding next
else-once false next w x = opens 0 λ end.
    fits (seq (says (emit_jmp end) (λ l. refl)) (seq (binding next) (seq x (binding end)))) (λ l. omega arith)

-- ---- CASE

test-once : (c : CompareOp) (k fail : ℕ) → Once nil (test_against c k fail)
unfolding test_against is_bind
test-once c k fail =
    fits
    (seq (says (emit_opcode dup) (λ l. refl))
    (seq (says (load_constant k) (λ l. refl)) (seq (says (emit_opcode (role.compare c)) (λ l. refl)) (says (emit_jmp_if_not fail) (λ l. refl)))))
    (λ l. omega arith)

label-once : (x : CaseLabel) (fail : ℕ) → Once nil (test_label x fail)
unfolding test_label is_bind
label-once (value k) fail = test-once _ k fail
label-once (range low high) fail = fits (seq (test-once _ low fail) (test-once _ high fail)) (λ l. omega arith)
label-once (bad_label f) fail = says (refused f) (λ l. refl)

labels-once : (x : CaseLabel) (xs : List CaseLabel) (body fail : ℕ) → Once nil (test_labels x xs body fail)
unfolding test_labels is_bind
labels-once x [] body fail = label-once x fail
labels-once x (y ∷ ys) body fail = opens 1 λ next_label.
    fits (seq (label-once x next_label) (seq (says (emit_jmp body) (λ l. refl)) (seq (binding next_label) (labels-once y ys body fail)))) (λ l. omega arith)

arm-body-once : (next_arm end : ℕ) (w : Calls) → Once nil w → Once (of next_arm) (arm_body next_arm end w)
unfolding arm_body is_bind
arm-body-once next_arm end w x =
    fits
    (seq (says (emit_opcode pop) (λ l. refl)) (seq x (seq (says (emit_jmp end) (λ l. refl)) (seq (binding next_arm) (says (reset_stack_depth 1) (λ l. refl))))))
    (λ l. omega arith)

arm-once : (xs : List CaseLabel) (end : ℕ) (w : Calls) → Once nil w → Once nil (emit_arm xs end w)
unfolding emit_arm
arm-once [] end w x = quiet
arm-once (l ∷ []) end w x = opens 1 λ next_arm. fits (seq (label-once l next_arm) (arm-body-once next_arm end w x)) (λ l. omega arith)
arm-once (l ∷ m ∷ ms) end w x = opens 1 λ next_arm. opens 1 λ start.
    fits (seq (labels-once l (m ∷ ms) start next_arm) (seq (binding start) (arm-body-once next_arm end w x))) (λ l. omega arith)

-- ---- loops

when-once : (b : Bool) (k : ℕ) → Once (of k) (when b (say (bind_label k)))
unfolding when
when-once true k = binding k
when-once false k = fits quiet (λ l. zero-le)

module _ (body : Loops → Calls) (x : (o : Loops) → Once nil (body o)) where
  body-once : (i end : ℕ) (used : Bool) (loops : Loops) → Once nil (loop_body i end used body loops)
  unfolding loop_body
  body-once i end used loops = opens 0 λ next. fits (seq (x _) (when-once used next)) (λ l. omega arith)

  end-test-once : (k : Option ℕ) (c : CompareOp) (v : ℕ) (to : Expr) (end : ℕ) → Once nil (end_test_by k c v to end)
  unfolding end_test_by is_bind
  end-test-once (some k) c v to end = fused-once _ false end
  end-test-once none c v to end =
      fits
      (seq (says (load_variable v) (λ l. refl)) (seq (expr-once to 1) (seq (says (emit_opcode (role.compare c)) (λ l. refl)) (says (emit_jmp_if_not end) (λ l. refl)))))
      (λ l. omega arith)

  for-once : (i v step : ℕ) (from to : Expr) (used : Bool) (loops : Loops) → Once nil (emit_for i v step from to used body loops)
  unfolding emit_for is_bind
  for-once i v step from to used loops =
      fits
      (seq (expr-once from 0)
      (seq (says (store_variable v) (λ l. refl))
      (opens {c = nil} 0 λ head. opens 0 λ end.
      fits
      (seq (binding head)
      (seq (end-test-once (constant_of to) (bound (counts_down width step)) v to end)
      (seq (body-once i end used loops)
      (seq (says (load_variable v) (λ l. refl))
      (seq (says (load_constant step) (λ l. refl))
      (seq (says (emit_opcode (role.arithmetic role.Add)) (λ l. refl))
      (seq (says (store_variable v) (λ l. refl)) (seq (says (emit_jmp head) (λ l. refl)) (binding end)))))))))
      (λ l. omega arith))))
      (λ l. omega arith)

  while-by-once : (f : Option ClassifiedCmp) (i : ℕ) (c : Expr) (end : ℕ) (used : Bool) (loops : Loops) → Once nil (while_by f i c end used body loops)
  unfolding while_by is_bind
  while-by-once (some f) i c end used loops =
      fits
      (seq (says (add_constant f.constant) (λ l. refl))
      (opens {c = nil} 0 λ start. fits (seq (fused-once f false end) (seq (binding start) (seq (body-once i end used loops) (fused-once f true start)))) (λ l. omega arith)))
      (λ l. omega arith)
  while-by-once none i c end used loops = opens 0 λ head.
      fits
      (seq (binding head) (seq (expr-once c 0) (seq (says (emit_jmp_if_not end) (λ l. refl)) (seq (body-once i end used loops) (says (emit_jmp head) (λ l. refl))))))
      (λ l. omega arith)

  while-once : (i : ℕ) (c : Expr) (used : Bool) (loops : Loops) → Once nil (emit_while i c used body loops)
  unfolding emit_while
  while-once i c used loops = opens 0 λ end. fits (seq (while-by-once (classify c) i c end used loops) (binding end)) (λ l. omega arith)

  repeat-by-once : (f : Option ClassifiedCmp) (i : ℕ) (c : Expr) (head end : ℕ) (used : Bool) (loops : Loops) → Once (of head) (repeat_by f i c head end used body loops)
  unfolding repeat_by is_bind
  repeat-by-once (some f) i c head end used loops =
      fits (seq (says (add_constant f.constant) (λ l. refl)) (seq (binding head) (seq (body-once i end used loops) (fused-once f false head)))) (λ l. omega arith)
  repeat-by-once none i c head end used loops =
      fits (seq (binding head) (seq (body-once i end used loops) (seq (expr-once c 0) (says (emit_jmp_if_not head) (λ l. refl))))) (λ l. omega arith)

  repeat-once : (i : ℕ) (c : Expr) (used : Bool) (loops : Loops) → Once nil (emit_repeat i c used body loops)
  unfolding emit_repeat
  repeat-once i c used loops = opens 0 λ head. opens 0 λ end. fits (seq (repeat-by-once (classify c) i c head end used loops) (binding end)) (λ l. omega arith)

  plain-once : (i : ℕ) (used : Bool) (continuing : Loops → Calls) → ((o : Loops) → Once nil (continuing o)) → (loops : Loops) → Once nil (emit_plain i used body continuing loops)
  unfolding emit_plain is_bind
  plain-once i used continuing y loops = opens 0 λ head. opens 0 λ end.
      fits
      (seq (binding head) (seq (body-once i end used loops) (seq (y loops) (seq (says (emit_jmp head) (λ l. refl)) (binding end)))))
      (λ l. omega arith)

loop-once : (t : Shape) (i : ℕ) (used : Bool) (body rest continuing : Loops → Calls) → ((o : Loops) → Once nil (body o)) → ((o : Loops) → Once nil (rest o)) → ((o : Loops) → Once nil (continuing o))
    → (loops : Loops) → Once nil (emit_loop t i used body rest continuing loops)
unfolding emit_loop
loop-once (while c) i used body rest continuing x y z loops = while-once rest y i c used loops
loop-once (repeat c) i used body rest continuing x y z loops = repeat-once body x i c used loops
loop-once plain i used body rest continuing x y z loops = plain-once body x i used continuing z loops

-- ---- statements

jump-once : (s : Source) (l : Option ℕ) → Once nil (jump_to s l)
unfolding jump_to is_bind
jump-once s (some l) = says (emit_jmp l) (λ l. refl)
jump-once s none = says _ (λ l. refl)

position-once : (s : Option Source) → Once nil (record_position s)
unfolding record_position is_bind
position-once none = quiet
position-once (some s) = says _ (λ l. refl)

mutual
  unfolding emit_stmt is_bind branch_unless

  pub stmt-once : (t : Stmt) (loops : Loops) → Once nil (emit_stmt t loops)
  stmt-once (assign s v e) loops = fits (seq (expr-once e 0) (says (store_variable v) (λ l. refl))) (λ l. omega arith)
  stmt-once (if s c t e) loops = opens 0 λ next.
      fits (seq (unless-once (classify c) c next) (seq (block-once t loops) (else-once (is_done e) next (emit_block e loops) (block-once e loops)))) (λ l. omega arith)
  stmt-once (case s e xs b) loops =
      fits
      (seq (expr-once e 0)
      (opens {c = nil} 0 λ end.
      fits (seq (arms-once xs end loops) (seq (says (emit_opcode pop) (λ l. refl)) (seq (block-once b loops) (binding end)))) (λ l. omega arith)))
      (λ l. omega arith)
  stmt-once (for s i v step from to b) loops = for-once (λ o. emit_block b o) (λ o. block-once b o) i v step from to (continues i b) loops
  stmt-once (loop s i b c) loops =
      loop-once (shape i b c) i (continues i b) (λ o. emit_block b o) (λ o. emit_rest b o) (λ o. emit_block c o) (λ o. block-once b o) (λ o. rest-once b o) (λ o. block-once c o) loops
  stmt-once (exit s i) loops = jump-once s (exit_of (labels i loops))
  stmt-once (continue s i) loops = jump-once s (next_of (labels i loops))
  stmt-once (return s) loops = says (emit_opcode ret) (λ l. refl)
  stmt-once (bad_stmt f) loops = says (refused f) (λ l. refl)

  pub block-once : (b : Block) (loops : Loops) → Once nil (emit_block b loops)
  block-once done loops = quiet
  block-once (s then b) loops = fits (seq (position-once (source_of s)) (seq (stmt-once s loops) (block-once b loops))) (λ l. omega arith)

  pub rest-once : (b : Block) (loops : Loops) → Once nil (emit_rest b loops)
  rest-once done loops = quiet
  rest-once (s then b) loops = block-once b loops

  pub arms-once : (xs : Arms) (end : ℕ) (loops : Loops) → Once nil (emit_arms xs end loops)
  arms-once no_arms end loops = quiet
  arms-once (arm ls b xs) end loops = fits (seq (arm-once ls end (emit_block b loops) (block-once b loops)) (arms-once xs end loops)) (λ l. omega arith)
  arms-once (bad_arm f) end loops = says (refused f) (λ l. refl)

pub program-once : (b : Block) → Once nil (emit_stmts b)
unfolding emit_stmts
program-once done = quiet
program-once (s then b) = fits (seq (stmt-once s []) (program-once b)) (λ l. omega arith)

-- ---- an opcode that is emitted alone has no operand

unfoldable pub OneByte : Call → Type 0
OneByte (create_label h) = Unit {0}
OneByte (bind_label k) = Unit {0}
OneByte (load_variable v) = Unit {0}
OneByte (store_variable v) = Unit {0}
OneByte (load_constant k) = Unit {0}
OneByte (add_constant k) = Unit {0}
OneByte (emit_opcode r) = size r ≡ 1
OneByte (emit_jmp k) = Unit {0}
OneByte (emit_jmp_if_not k) = Unit {0}
OneByte (emit_cmp_br c v k m) = Unit {0}
OneByte (reset_stack_depth h) = Unit {0}
OneByte (set_position p) = Unit {0}
OneByte (refused f) = Unit {0}

unfoldable pub OneBytes : List Call → Type 0
OneBytes [] = Unit {0}
OneBytes (c ∷ cs) = OneByte c × OneBytes cs

pub bytes_left : (a b : List Call) → OneBytes (a ++ b) → OneBytes a
unfolding OneBytes
bytes_left [] b x = tt
bytes_left (c ∷ a) b x = (x.0, bytes_left a b x.1)

pub bytes-right : (a b : List Call) → OneBytes (a ++ b) → OneBytes b
unfolding OneBytes
bytes-right [] b x = x
bytes-right (c ∷ a) b x = bytes-right a b x.1

one_byte : (Λ : ℕ → ℕ) (h d h' d' : ℕ) (c : Call) → Step Λ c h d h' d' → OneByte c
unfolding Step OneByte
one_byte Λ h₀ d h' d' (create_label h) t = tt
one_byte Λ h₀ d h' d' (bind_label k) t = tt
one_byte Λ h₀ d h' d' (load_variable v) t = tt
one_byte Λ h₀ d h' d' (store_variable v) t = tt
one_byte Λ h₀ d h' d' (load_constant k) t = tt
one_byte Λ h₀ d h' d' (add_constant k) t = tt
one_byte Λ h₀ d h' d' (emit_opcode r) t = t.3.size
one_byte Λ h₀ d h' d' (emit_jmp k) t = tt
one_byte Λ h₀ d h' d' (emit_jmp_if_not k) t = tt
one_byte Λ h₀ d h' d' (emit_cmp_br c v k m) t = tt
one_byte Λ h₀ d h' d' (reset_stack_depth h) t = tt
one_byte Λ h₀ d h' d' (set_position p) t = tt
one_byte Λ h₀ d h' d' (refused f) t = tt

one-bytes : {Λ : ℕ → ℕ} {cs : List Call} {h d h' d' : ℕ} → Safe Λ cs h d h' d' → OneBytes cs
unfolding OneBytes
one-bytes ends = tt
one-bytes {Λ = Λ} (goes {c = c} {h = h} {d = d} {h₁ = h₁} {d₁ = d₁} t r) = (one_byte Λ h d h₁ d₁ c t, one-bytes r)

pub program-bytes : (b : Block) → OneBytes (emit_stmts b 0).1
program-bytes b = one-bytes (program-safe b)

-- ---- a statement does not end with a load

-- after this call, is the last instruction known not to be a load?
unfoldable pub closes : Call → Bool → Bool
closes (create_label h) b = b
closes (bind_label k) b = true
closes (load_variable v) b = false
closes (store_variable v) b = true
closes (load_constant k) b = true
closes (add_constant k) b = b
closes (emit_opcode r) b = true
closes (emit_jmp k) b = true
closes (emit_jmp_if_not k) b = true
closes (emit_cmp_br c v k m) b = true
closes (reset_stack_depth h) b = b
closes (set_position p) b = b
closes (refused f) b = true

unfoldable pub closed : Bool → List Call → Bool
closed b [] = b
closed b (c ∷ cs) = closed (closes c b) cs

pub closed-append : (b : Bool) (xs ys : List Call) → closed b (xs ++ ys) ≡ closed (closed b xs) ys
unfolding closed
closed-append b [] ys = refl
closed-append b (c ∷ xs) ys = closed-append (closes c b) xs ys

pub record Closes {A : Type 0} (w : Walk A) : Type 0 where
  pub is : (n : ℕ) (b : Bool) → closed b (w n).1 ≡ true

later-closes : {B : Type 0} (m : Calls) {k : Walk B} → Closes k → Closes (m >> k)
unfolding ◌>>◌
later-closes m {k = k} x = record { is = λ n b. closed-append b (m n).1 _ ∙ x.is (after n (m n).1) _ }

opened-closes : {B : Type 0} (h : ℕ) {f : ℕ → Walk B} → ((k : ℕ) → Closes (f k)) → Closes (new_label h >>= f)
unfolding ◌>>=◌ new_label closed closes after next
opened-closes h {f = f} x = record { is = λ n b. (x n).is (suc n) b }

said-closes : (c : Call) → ((b : Bool) → closes c b ≡ true) → Closes (say c)
unfolding say closed
said-closes c f = record { is = λ n b. f b }

else-closes : (b : Bool) (next : ℕ) (w : Calls) → Closes (else_part b next w)
unfolding else_part closes
else-closes true next w = said-closes _ (λ b. refl)
else-closes false next w = opened-closes _ λ end. later-closes _ (later-closes _ (later-closes _ (said-closes _ (λ b. refl))))

loop-closes : (t : Shape) (i : ℕ) (used : Bool) (body rest continuing : Loops → Calls) (loops : Loops) → Closes (emit_loop t i used body rest continuing loops)
unfolding emit_loop emit_while emit_repeat emit_plain closes
loop-closes (while c) i used body rest continuing loops = opened-closes _ λ end. later-closes _ (said-closes _ (λ b. refl))
loop-closes (repeat c) i used body rest continuing loops = opened-closes _ λ head. opened-closes _ λ end. later-closes _ (said-closes _ (λ b. refl))
loop-closes plain i used body rest continuing loops = opened-closes _ λ head. opened-closes _ λ end. later-closes _ (later-closes _ (later-closes _ (later-closes _ (said-closes _ (λ b. refl)))))

jump_closes : (s : Source) (l : Option ℕ) → Closes (jump_to s l)
unfolding jump_to closes
jump_closes s (some l) = said-closes _ (λ b. refl)
jump_closes s none = said-closes _ (λ b. refl)

stmt-closes : (t : Stmt) (loops : Loops) → Closes (emit_stmt t loops)
unfolding emit_stmt emit_for closes
stmt-closes (assign s v e) loops = later-closes _ (said-closes _ (λ b. refl))
stmt-closes (if s c t e) loops = opened-closes _ λ next. later-closes _ (later-closes _ (else-closes (is_done e) next (emit_block e loops)))
stmt-closes (case s e xs b) loops = later-closes _ (opened-closes _ λ end. later-closes _ (later-closes _ (later-closes _ (said-closes _ (λ b. refl)))))
stmt-closes (for s i v step from to b) loops =
    later-closes _ (later-closes _ (opened-closes _ λ head. opened-closes _ λ end.
    later-closes _ (later-closes _ (later-closes _ (later-closes _ (later-closes _ (later-closes _ (later-closes _ (later-closes _ (said-closes _ (λ b. refl)))))))))))
stmt-closes (loop s i b c) loops = loop-closes (shape i b c) i (continues i b) _ _ _ loops
stmt-closes (exit s i) loops = jump_closes s (exit_of (labels i loops))
stmt-closes (continue s i) loops = jump_closes s (next_of (labels i loops))
stmt-closes (return s) loops = said-closes _ (λ b. refl)
stmt-closes (bad_stmt f) loops = said-closes _ (λ b. refl)

position-closed : (s : Option Source) (n : ℕ) → closed true (record_position s n).1 ≡ true
unfolding record_position closed closes nothing say
position-closed none n = refl
position-closed (some s) n = refl

-- nor does a block, where none stands before it
pub block_closed : (b : Block) (loops : Loops) (n : ℕ) → closed true (emit_block b loops n).1 ≡ true
unfolding emit_stmt ◌>>◌ nothing closed
block_closed done loops n = refl
block_closed (s then b) loops n =
    let p = (record_position (source_of s) n).1 in
    let q = (emit_stmt s loops (after n p)).1 in
    closed-append true p _
    ∙ (ap (λ c. closed c (q ++ (emit_block b loops (after (after n p) q)).1)) (position-closed (source_of s) n)
    ∙ (closed-append true q _
    ∙ (ap (λ c. closed c (emit_block b loops (after (after n p) q)).1) ((stmt-closes s loops).is (after n p) true) ∙ block_closed b loops (after (after n p) q))))
