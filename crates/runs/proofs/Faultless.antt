-- A tree whose faults have numbers from 1 to 14, as one that is read or that has no fault, is emitted with refusals by such numbers alone.
use Prim.Native.Nat.{ℕ}
use mathlib.Core.Path.{◌≡◌, refl}
use mathlib.Core.List.{List, [], ◌∷◌, ◌++◌}
use mathlib.Core.Bool.{Bool, true, false}
use mathlib.Core.Option.{Option, some, none}
use native.Mathlib.Omega.{arith}
use Rattle.definition.specs.Opcode.{AndThen, OrElse, CompareOp}
use Rattle.definition.specs.Tree.{Source, Fault, Expr, const, bool, read, binary, unary, compare, short_circuit, bad, CaseLabel, value, range, bad_label, Stmt, assign, if, case, for, loop, exit, continue, return, bad_stmt, Block, done, ◌then◌, Arms, no_arms, arm, bad_arm, is_done, only_if, exit_when, exit_unless, repeat_or, while_or, Shape, while, repeat, plain, shape}
use Rattle.definition.specs.Program.{or_else, fault_of_expr, fault_of_labels, fault_of_stmt, fault_of_block, fault_of_arms}
use Rattle.definition.specs.Emit.{Call, create_label, bind_label, load_variable, store_variable, load_constant, add_constant, emit_opcode, emit_jmp, emit_jmp_if_not, emit_cmp_br, reset_stack_depth, set_position, refused}
use Rattle.definition.specs.Walk.{Calls, after, ◌>>=◌, ◌>>◌, say, nothing, new_label, when}
use Rattle.definition.specs.CompileExpr.{ClassifiedCmp, constant_of, classify, emit_classified_cmp_br}
use Rattle.definition.specs.Expr.{emit_expr}
use Rattle.definition.specs.Stmt.{Loops, jump_to, continues, branch_unless_by, branch_unless, else_part, test_against, test_label, test_labels, arm_body, emit_arm, loop_body, end_test_by, emit_for, while_by, emit_while, repeat_by, emit_repeat, emit_plain, emit_loop, source_of, record_position, emit_stmt, emit_block, emit_rest, emit_arms, emit_stmts}
use Rattle.definition.specs.Claims.{Each, empty, ◌also◌}
use Rattle.field.proofs.Results.{never}
use Rattle.field.proofs.Refusals.{Number}
use Rattle.runs.proofs.Refusals.{ExprTold, LabelTold, LabelsTold, StmtTold, BlockTold, ArmsTold}

-- ---- calls

-- a refusal among the calls has a number
unfoldable pub Told : Call → Type 0
Told (create_label h) = Unit {0}
Told (bind_label l) = Unit {0}
Told (load_variable v) = Unit {0}
Told (store_variable v) = Unit {0}
Told (load_constant k) = Unit {0}
Told (add_constant k) = Unit {0}
Told (emit_opcode r) = Unit {0}
Told (emit_jmp l) = Unit {0}
Told (emit_jmp_if_not l) = Unit {0}
Told (emit_cmp_br c v k l) = Unit {0}
Told (reset_stack_depth h) = Unit {0}
Told (set_position p) = Unit {0}
Told (refused f) = Number f.number

pub record Tells (m : Calls) : Type 0 where
  pub told : (n : ℕ) → Each Told (m n).1

each_append : {A : Type 0} {P : A → Type 0} {xs ys : List A} → Each P xs → Each P ys → Each P (xs ++ ys)
each_append empty q = q
each_append (p also ps) q = p also each_append ps q

infixr 10 ◌⨾◌
pub ◌⨾◌ : {m k : Calls} → Tells m → Tells k → Tells (m >> k)
unfolding ◌>>◌
◌⨾◌ {m = m} s t = record { told = λ n. each_append (s.told n) (t.told (after n (m n).1)) }

pub opens : (g : ℕ) {f : ℕ → Calls} → ((l : ℕ) → Tells (f l)) → Tells (new_label g >>= f)
unfolding ◌>>=◌ new_label Told
opens g s = record { told = λ n. tt also (s n).told _ }

pub says : (c : Call) → Told c → Tells (say c)
unfolding say
says c t = record { told = λ n. t also empty }

pub silent : Tells nothing
unfolding nothing
silent = record { told = λ n. empty }

-- ---- trees whose faults have such numbers

pub expr-tells : (e : Expr) (h : ℕ) → ExprTold e → Tells (emit_expr e h)
unfolding emit_expr ExprTold Told
expr-tells (const k) h q = says _ tt
expr-tells (bool true) h q = says _ tt
expr-tells (bool false) h q = says _ tt
expr-tells (read v) h q = says _ tt
expr-tells (binary o a b) h q = expr-tells a h q.0 ⨾ expr-tells b _ q.1 ⨾ says _ tt
expr-tells (unary o a) h q = expr-tells a h q ⨾ says _ tt
expr-tells (compare c a b) h q = expr-tells a h q.0 ⨾ expr-tells b _ q.1 ⨾ says _ tt
expr-tells (short_circuit AndThen a b) h q =
    opens _ λ x. opens _ λ y. expr-tells a h q.0 ⨾ says _ tt ⨾ expr-tells b h q.1 ⨾ says _ tt ⨾ says _ tt ⨾ says _ tt ⨾ says _ tt ⨾ says _ tt
expr-tells (short_circuit OrElse a b) h q =
    opens _ λ x. opens _ λ y. expr-tells a h q.0 ⨾ says _ tt ⨾ says _ tt ⨾ says _ tt ⨾ says _ tt ⨾ says _ tt ⨾ expr-tells b h q.1 ⨾ says _ tt
expr-tells (bad f) h q = says _ q

out-tells : (s : Source) (x : Option ℕ) → Tells (jump_to s x)
unfolding jump_to Told
out-tells s (some l) = says _ tt
out-tells s none = says _ (omega arith, omega arith)

pub fused-tells : (f : ClassifiedCmp) (on : Bool) (l : ℕ) → Tells (emit_classified_cmp_br f on l)
unfolding emit_classified_cmp_br Told
fused-tells f true l = says _ tt
fused-tells f false l = says _ tt

pub unless-tells : (x : Option ClassifiedCmp) (c : Expr) (l : ℕ) → ExprTold c → Tells (branch_unless_by x c l)
unfolding branch_unless_by Told
unless-tells (some f) c l q = fused-tells f false l
unless-tells none c l q = expr-tells c 0 q ⨾ says _ tt

else-tells : (t : Bool) (next : ℕ) (otherwise : Calls) → Tells otherwise → Tells (else_part t next otherwise)
unfolding else_part Told
else-tells true next otherwise s = says _ tt
else-tells false next otherwise s = opens _ λ end. says _ tt ⨾ says _ tt ⨾ s ⨾ says _ tt

against-tells : (c : CompareOp) (k fail : ℕ) → Tells (test_against c k fail)
unfolding test_against Told
against-tells c k fail = says _ tt ⨾ says _ tt ⨾ says _ tt ⨾ says _ tt

pub label-tells : (l : CaseLabel) (fail : ℕ) → LabelTold l → Tells (test_label l fail)
unfolding test_label LabelTold Told
label-tells (value k) fail q = against-tells _ k fail
label-tells (range a b) fail q = against-tells _ a fail ⨾ against-tells _ b fail
label-tells (bad_label f) fail q = says _ q

pub tests-tell : (l : CaseLabel) (ls : List CaseLabel) (body fail : ℕ) → LabelsTold (l ∷ ls) → Tells (test_labels l ls body fail)
unfolding test_labels LabelsTold Told
tests-tell l [] body fail q = label-tells l fail q.0
tests-tell l (m ∷ ms) body fail q = opens _ λ x. label-tells l x q.0 ⨾ says _ tt ⨾ says _ tt ⨾ tests-tell m ms body fail q.1

arm_body-tells : (next end : ℕ) (body : Calls) → Tells body → Tells (arm_body next end body)
unfolding arm_body Told
arm_body-tells next end body s = says _ tt ⨾ s ⨾ says _ tt ⨾ says _ tt ⨾ says _ tt

arm-tells : (ls : List CaseLabel) (end : ℕ) (body : Calls) → LabelsTold ls → Tells body → Tells (emit_arm ls end body)
unfolding emit_arm LabelsTold Told
arm-tells [] end body q s = silent
arm-tells (l ∷ []) end body q s = opens _ λ x. label-tells l x q.0 ⨾ arm_body-tells x end body s
arm-tells (l ∷ m ∷ ms) end body q s = opens _ λ x. opens _ λ y. tests-tell l (m ∷ ms) y x q ⨾ says _ tt ⨾ arm_body-tells x end body s

pub when-tells : (b : Bool) (m : Calls) → Tells m → Tells (when b m)
unfolding when
when-tells true m s = s
when-tells false m s = silent

-- ---- loops

-- a FOR's test
pub end-tells : (x : Option ℕ) (within : CompareOp) (v : ℕ) (to : Expr) (end : ℕ) → ExprTold to → Tells (end_test_by x within v to end)
unfolding end_test_by Told
end-tells (some k) within v to end q = fused-tells _ false end
end-tells none within v to end q = says _ tt ⨾ expr-tells to 1 q ⨾ says _ tt ⨾ says _ tt

module _ (i : ℕ) (used : Bool) (body : Loops → Calls) (loops : Loops) (s : (o : Loops) → Tells (body o)) where
  body-tells : (end : ℕ) → Tells (loop_body i end used body loops)
  unfolding loop_body Told
  body-tells end = opens _ λ next. s _ ⨾ when-tells used _ (says _ tt)

  for-tells : (v step : ℕ) (from to : Expr) → ExprTold from → ExprTold to → Tells (emit_for i v step from to used body loops)
  unfolding emit_for Told
  for-tells v step from to p q = expr-tells from 0 p ⨾ says _ tt ⨾ opens _ λ head. opens _ λ end. says _ tt ⨾ end-tells (constant_of to) _ v to end q ⨾ body-tells end
      ⨾ says _ tt ⨾ says _ tt ⨾ says _ tt ⨾ says _ tt ⨾ says _ tt ⨾ says _ tt

  while_by-tells : (x : Option ClassifiedCmp) (c : Expr) (end : ℕ) → ExprTold c → Tells (while_by x i c end used body loops)
  unfolding while_by Told
  while_by-tells (some f) c end q = says _ tt ⨾ opens _ λ start. fused-tells f false end ⨾ says _ tt ⨾ body-tells end ⨾ fused-tells f true start
  while_by-tells none c end q = opens _ λ head. says _ tt ⨾ expr-tells c 0 q ⨾ says _ tt ⨾ body-tells end ⨾ says _ tt

  repeat_by-tells : (x : Option ClassifiedCmp) (c : Expr) (head end : ℕ) → ExprTold c → Tells (repeat_by x i c head end used body loops)
  unfolding repeat_by Told
  repeat_by-tells (some f) c head end q = says _ tt ⨾ says _ tt ⨾ body-tells end ⨾ fused-tells f false head
  repeat_by-tells none c head end q = says _ tt ⨾ body-tells end ⨾ expr-tells c 0 q ⨾ says _ tt

-- the condition of a WHILE or a REPEAT
unfoldable Sound : Shape → Type 0
Sound (while c) = ExprTold c
Sound (repeat c) = ExprTold c
Sound plain = Unit {0}

only-sound : (b : Bool) (c : Expr) → ExprTold c → Sound (while_or (only_if b c)) × Sound (repeat_or (only_if b c))
unfolding only_if while_or repeat_or Sound
only-sound true c q = (q, q)
only-sound false c q = (tt, tt)

unless-sound : (i : ℕ) (s : Stmt) → StmtTold s → Sound (while_or (exit_unless i s))
unfolding exit_unless while_or Sound StmtTold
unless-sound i (assign s v e) q = tt
unless-sound i (if s c t e) q = (only-sound _ c q.0).0
unless-sound i (case s e xs b) q = tt
unless-sound i (for s j v k a b c) q = tt
unless-sound i (loop s j b c) q = tt
unless-sound i (exit s j) q = tt
unless-sound i (continue s j) q = tt
unless-sound i (return s) q = tt
unless-sound i (bad_stmt f) q = tt

when-sound : (i : ℕ) (s : Stmt) → StmtTold s → Sound (repeat_or (exit_when i s))
unfolding exit_when repeat_or Sound StmtTold
when-sound i (assign s v e) q = tt
when-sound i (if s c t e) q = (only-sound _ c q.0).1
when-sound i (case s e xs b) q = tt
when-sound i (for s j v k a b c) q = tt
when-sound i (loop s j b c) q = tt
when-sound i (exit s j) q = tt
when-sound i (continue s j) q = tt
when-sound i (return s) q = tt
when-sound i (bad_stmt f) q = tt

shape-sound : (i : ℕ) (b c : Block) → BlockTold b → BlockTold c → Sound (shape i b c)
unfolding shape StmtTold Sound
shape-sound i b (s then done) p q = when-sound i s q.0
shape-sound i b (s then (t then c)) p q = tt
shape-sound i (s then b) done p q = unless-sound i s p.0
shape-sound i done done p q = tt

loop-tells : (x : Shape) (i : ℕ) (used : Bool) (body rest continuing : Loops → Calls) (loops : Loops) → Sound x → ((o : Loops) → Tells (body o)) → ((o : Loops) → Tells (rest o)) → ((o : Loops) → Tells (continuing o))
    → Tells (emit_loop x i used body rest continuing loops)
unfolding emit_loop emit_while emit_repeat emit_plain Sound Told
loop-tells (while c) i used body rest continuing loops q sb sr sc = opens _ λ end. while_by-tells i used rest loops sr (classify c) c end q ⨾ says _ tt
loop-tells (repeat c) i used body rest continuing loops q sb sr sc = opens _ λ head. opens _ λ end. repeat_by-tells i used body loops sb (classify c) c head end q ⨾ says _ tt
loop-tells plain i used body rest continuing loops q sb sr sc = opens _ λ head. opens _ λ end. says _ tt ⨾ body-tells i used body loops sb end ⨾ sc loops ⨾ says _ tt ⨾ says _ tt

position-tells : (x : Option Source) → Tells (record_position x)
unfolding record_position Told
position-tells none = silent
position-tells (some s) = says _ tt

-- ---- statements and blocks

mutual
  unfolding emit_stmt branch_unless StmtTold Told

  stmt-tells : (s : Stmt) (loops : Loops) → StmtTold s → Tells (emit_stmt s loops)
  stmt-tells (assign s v e) loops q = expr-tells e 0 q ⨾ says _ tt
  stmt-tells (if s c t e) loops q =
      opens _ λ next. unless-tells (classify c) c next q.0 ⨾ block-tells t loops q.1 ⨾ else-tells (is_done e) next _ (block-tells e loops q.2)
  stmt-tells (case s e xs b) loops q = expr-tells e 0 q.0 ⨾ opens _ λ end. arms-tell xs end loops q.1 ⨾ says _ tt
      ⨾ block-tells b loops q.2 ⨾ says _ tt
  stmt-tells (for s i v step from to b) loops q =
      for-tells i (continues i b) (λ o. emit_block b o) loops (λ o. block-tells b o q.2) v step from to q.0 q.1
  stmt-tells (loop s i b c) loops q =
      loop-tells (shape i b c) i (continues i b) (λ o. emit_block b o) (λ o. emit_rest b o) (λ o. emit_block c o) loops (shape-sound i b c q.0 q.1) (λ o. block-tells b o q.0) (λ o. rest-tells b o q.0) (λ o. block-tells c o q.1)
  stmt-tells (exit s i) loops q = out-tells s _
  stmt-tells (continue s i) loops q = out-tells s _
  stmt-tells (return s) loops q = says _ tt
  stmt-tells (bad_stmt f) loops q = says _ q

  block-tells : (b : Block) (loops : Loops) → BlockTold b → Tells (emit_block b loops)
  block-tells done loops q = silent
  block-tells (s then b) loops q = position-tells (source_of s) ⨾ stmt-tells s loops q.0 ⨾ block-tells b loops q.1

  rest-tells : (b : Block) (loops : Loops) → BlockTold b → Tells (emit_rest b loops)
  rest-tells done loops q = silent
  rest-tells (s then b) loops q = block-tells b loops q.1

  arms-tell : (xs : Arms) (end : ℕ) (loops : Loops) → ArmsTold xs → Tells (emit_arms xs end loops)
  arms-tell no_arms end loops q = silent
  arms-tell (arm ls b xs) end loops q = arm-tells ls end _ q.0 (block-tells b loops q.1) ⨾ arms-tell xs end loops q.2
  arms-tell (bad_arm f) end loops q = says _ q

pub told-tells : (b : Block) → BlockTold b → Tells (emit_stmts b)
unfolding emit_stmts StmtTold
told-tells done q = silent
told-tells (s then b) q = stmt-tells s [] q.0 ⨾ told-tells b q.1

-- ---- a tree without a fault is such a tree

sound-left : (a b : Option Fault) → or_else a b ≡ none → a ≡ none
unfolding or_else
sound-left none b e = refl
sound-left (some f) b e = never (cc)

sound-right : (a b : Option Fault) → or_else a b ≡ none → b ≡ none
unfolding or_else
sound-right none b e = e
sound-right (some f) b e = never (cc)

expr-sound : (e : Expr) → fault_of_expr e ≡ none → ExprTold e
unfolding fault_of_expr ExprTold
expr-sound (const k) q = tt
expr-sound (bool b) q = tt
expr-sound (read v) q = tt
expr-sound (binary o a b) q = (expr-sound a (sound-left _ _ q), expr-sound b (sound-right _ _ q))
expr-sound (unary o a) q = expr-sound a q
expr-sound (compare c a b) q = (expr-sound a (sound-left _ _ q), expr-sound b (sound-right _ _ q))
expr-sound (short_circuit o a b) q = (expr-sound a (sound-left _ _ q), expr-sound b (sound-right _ _ q))
expr-sound (bad f) q = never (cc)

labels-sound : (ls : List CaseLabel) → fault_of_labels ls ≡ none → LabelsTold ls
unfolding fault_of_labels LabelTold LabelsTold
labels-sound [] q = tt
labels-sound (value k ∷ ls) q = (tt, labels-sound ls q)
labels-sound (range a b ∷ ls) q = (tt, labels-sound ls q)
labels-sound (bad_label f ∷ ls) q = never (cc)

mutual
  unfolding fault_of_stmt StmtTold

  stmt-sound : (s : Stmt) → fault_of_stmt s ≡ none → StmtTold s
  stmt-sound (assign s v e) q = expr-sound e q
  stmt-sound (if s c t e) q = (expr-sound c (sound-left _ _ q), block-sound t (sound-left _ _ (sound-right _ _ q)), block-sound e (sound-right _ _ (sound-right _ _ q)))
  stmt-sound (case s e xs b) q = (expr-sound e (sound-left _ _ q), arms-sound xs (sound-left _ _ (sound-right _ _ q)), block-sound b (sound-right _ _ (sound-right _ _ q)))
  stmt-sound (for s i v k a b c) q = (expr-sound a (sound-left _ _ q), expr-sound b (sound-left _ _ (sound-right _ _ q)), block-sound c (sound-right _ _ (sound-right _ _ q)))
  stmt-sound (loop s i b c) q = (block-sound b (sound-left _ _ q), block-sound c (sound-right _ _ q))
  stmt-sound (exit s i) q = tt
  stmt-sound (continue s i) q = tt
  stmt-sound (return s) q = tt
  stmt-sound (bad_stmt f) q = never (cc)

  block-sound : (b : Block) → fault_of_block b ≡ none → BlockTold b
  block-sound done q = tt
  block-sound (s then b) q = (stmt-sound s (sound-left _ _ q), block-sound b (sound-right _ _ q))

  arms-sound : (xs : Arms) → fault_of_arms xs ≡ none → ArmsTold xs
  arms-sound no_arms q = tt
  arms-sound (arm ls b xs) q = (labels-sound ls (sound-left _ _ q), block-sound b (sound-left _ _ (sound-right _ _ q)), arms-sound xs (sound-right _ _ (sound-right _ _ q)))
  arms-sound (bad_arm f) q = never (cc)

pub program-tells : (b : Block) → fault_of_block b ≡ none → Tells (emit_stmts b)
program-tells b q = told-tells b (block-sound b q)
