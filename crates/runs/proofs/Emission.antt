-- Every walk of a program's tree keeps the heights that its labels were created with, and binds every label that it jumps to.
use Prim.Native.Nat.{ℕ, suc, zero-le}
use mathlib.Core.Path.{◌≡◌, refl, sym, ◌∙◌, ap}
use mathlib.Core.List.{List, [], ◌∷◌}
use mathlib.Core.Bool.{Bool, true, false, not, ◌&&◌}
use mathlib.Core.Option.{Option, some, none}
use lib.Dec.{eqb}
use borrow.Author.Tests.{eqb-true, eqb-false, ne_eqb, eq-eqb}
use native.Mathlib.Omega.{arith}
use Rattle.definition.specs.Limits.{width}
use Rattle.definition.specs.Opcode.{CompareOp, AndThen, OrElse, dup, pop, load_true, load_false, ret, Eq, Le, Ge, Add, binary_role, unary_role, negate, size, needs, effect, flow, traits, traits_of, shift}
use Rattle.definition.specs.Opcode as role
use Rattle.definition.specs.Tree.{Source, Expr, const, bool, read, binary, unary, compare, short_circuit, bad, CaseLabel, value, range, bad_label, Stmt, assign, if, case, for, loop, exit, continue, return, bad_stmt, Block, done, ◌then◌, Arms, no_arms, arm, bad_arm, is_done, Shape, while, repeat, plain, shape, counts_down, bound}
use Rattle.definition.specs.Walk.{Calls, when}
use Rattle.definition.specs.CompileExpr.{ClassifiedCmp, constant_of, classify, emit_classified_cmp_br}
use Rattle.definition.specs.Expr.{emit_expr}
use Rattle.definition.specs.Stmt.{LoopLabels, Loops, labels, jump_to, exit_of, next_of, continues, continues_stmt, continues_arms, branch_unless_by, branch_unless, else_part, test_against, test_label, test_labels, arm_body, emit_arm, loop_body, end_test_by, emit_for, while_by, emit_while, repeat_by, emit_repeat, emit_plain, emit_loop, source_of, record_position, emit_stmt, emit_block, emit_rest, emit_arms, emit_stmts}
use Rattle.definition.specs.Claims.{left, right}
use Rattle.field.proofs.Tests.{or_left, or_right}
use Rattle.field.proofs.Results.{never}
use Rattle.runs.proofs.Heights.{Binds, sooner, further, binds, inside, Sound, With, wider, ◌⨾◌, opens, leaves, silent, loads, stores, pushes, pools, emits, returns, binding, resets, places, refuses, jumps, unless, compares}

-- ---- expressions

expr-sound : {Λ : ℕ → ℕ} {E : ℕ → Type 0} (e : Expr) (h : ℕ) → Sound Λ E (emit_expr e h) h h (suc h) (suc h)
unfolding emit_expr binary_role unary_role size needs effect flow traits traits_of shift
expr-sound (const k) h = pushes k
expr-sound (bool true) h = emits load_true refl refl zero-le
expr-sound (bool false) h = emits load_false refl refl zero-le
expr-sound (read v) h = loads v
expr-sound (binary (role.Arithmetic o) a b) h = expr-sound a h ⨾ expr-sound b (suc h) ⨾ emits (role.arithmetic o) refl refl (omega arith)
expr-sound (binary (role.Logic o) a b) h = expr-sound a h ⨾ expr-sound b (suc h) ⨾ emits (role.logic o) refl refl (omega arith)
expr-sound (unary role.Neg a) h = expr-sound a h ⨾ emits role.neg refl refl (omega arith)
expr-sound (unary role.BoolNot a) h = expr-sound a h ⨾ emits role.bool_not refl refl (omega arith)
expr-sound (compare c a b) h = expr-sound a h ⨾ expr-sound b (suc h) ⨾ emits (role.compare c) refl refl (omega arith)
expr-sound (short_circuit AndThen a b) h = opens (λ alternative. inside _ λ end. further _ (further _ (further _ (further _ (sooner _ (binds alternative)))))) λ alternative pa.
    opens (λ end. further _ (further _ (further _ (further _ (further _ (further _ (further _ (binds end)))))))) λ end pe.
    expr-sound a h ⨾ unless alternative pa (right (left refl)) ⨾ expr-sound b h ⨾ jumps end pe (left refl) ⨾ binding alternative pa ⨾ resets h ⨾ emits load_false refl refl zero-le ⨾ binding end pe
expr-sound (short_circuit OrElse a b) h = opens (λ alternative. inside _ λ end. further _ (further _ (further _ (further _ (sooner _ (binds alternative)))))) λ alternative pa.
    opens (λ end. further _ (further _ (further _ (further _ (further _ (further _ (further _ (binds end)))))))) λ end pe.
    expr-sound a h ⨾ unless alternative pa (right (left refl)) ⨾ emits load_true refl refl zero-le ⨾ jumps end pe (left refl) ⨾ binding alternative pa ⨾ resets h ⨾ expr-sound b h ⨾ binding end pe
expr-sound (bad f) h = refuses f

-- ---- open loops: what an EXIT finds may be jumped to, and what a CONTINUE finds, where c says that one of that loop is emitted

pub data Target (Λ : ℕ → ℕ) (E : ℕ → Type 0) : Option ℕ → Type 0 where
  nowhere : Target Λ E none
  at : {l : ℕ} → Λ l ≡ 0 → E l → Target Λ E (some l)

pub record Open (Λ : ℕ → ℕ) (E : ℕ → Type 0) (c : ℕ → Bool) (loops : Loops) : Type 0 where
  pub exits : (i : ℕ) → Target Λ E (exit_of (labels i loops))
  pub nexts : (i : ℕ) → c i ≡ true → Target Λ E (next_of (labels i loops))

target-wider : {Λ : ℕ → ℕ} {E F : ℕ → Type 0} {x : Option ℕ} → ((l : ℕ) → E l → F l) → Target Λ E x → Target Λ F x
target-wider f nowhere = nowhere
target-wider f (at {l = l} p e) = at p (f l e)

open-wider : {Λ : ℕ → ℕ} {E F : ℕ → Type 0} {c d : ℕ → Bool} {loops : Loops} → ((l : ℕ) → E l → F l) → ((i : ℕ) → d i ≡ true → c i ≡ true) → Open Λ E c loops → Open Λ F d loops
open-wider f g o = record { exits = λ i. target-wider f (o.exits i); nexts = λ i e. target-wider f (o.nexts i (g i e)) }

-- inside loop i, whose CONTINUEs lead to `next` if b says that there are some
module _ {Λ : ℕ → ℕ} {E F : ℕ → Type 0} (i end next : ℕ) (b : ℕ → Bool) (loops : Loops) (f : (l : ℕ) → E l → F l) (pe : Λ end ≡ 0) (e : E end)
    (here : b i ≡ true → Target Λ F (some next)) (o : Open Λ E (λ j. not (eqb j i) && b j) loops) where
  abbrev inner : LoopLabels
  inner = record { loop = i; exit = end; next = next }

  exit-inner : (j : ℕ) → Target Λ F (exit_of (labels j (inner ∷ loops)))
  unfolding exit_of labels
  exit-inner j = elim (eqb i j) as (λ t. Target Λ F (exit_of (elim t [ true ↦ some inner | false ↦ labels j loops ]))) [
    | true ↦ at pe (f end e)
    | false ↦ target-wider f (o.exits j)
  ]

  next-inner : (j : ℕ) → b j ≡ true → Target Λ F (next_of (labels j (inner ∷ loops)))
  unfolding next_of labels
  next-inner j q = by (eqb i j) refl
    where
      by : (t : Bool) → eqb i j ≡ t → Target Λ F (next_of (elim t [ true ↦ some inner | false ↦ labels j loops ]))
      by true p = here (ap b (eqb-true i j p) ∙ q)
      by false p = target-wider f (o.nexts j (ap (λ t. not t && b j) (ne_eqb j i (λ r. eqb-false i j p (sym r))) ∙ q))

  open-inner : Open Λ F b (inner ∷ loops)
  open-inner = record { exits = exit-inner; nexts = next-inner }

-- what is emitted within loops, b saying which of them it continues
abbrev Bodies : (ℕ → ℕ) → (ℕ → Bool) → (Loops → Calls) → Type 1
Bodies Λ b body = (E : ℕ → Type 0) (loops : Loops) → Open Λ E b loops → Sound Λ E (body loops) 0 0 0 0

out-sound : {Λ : ℕ → ℕ} {E : ℕ → Type 0} (s : Source) (x : Option ℕ) → Target Λ E x → Sound Λ E (jump_to s x) 0 0 0 0
unfolding jump_to
out-sound s none nowhere = refuses _
out-sound s (some l) (at p e) = jumps l p e

-- the loops around loop i, of whose body b says what it continues
abbrev Around : (ℕ → ℕ) → (ℕ → Type 0) → ℕ → (ℕ → Bool) → Loops → Type 0
Around Λ E i b loops = Open Λ E (λ j. not (eqb j i) && b j) loops

-- ---- the parts of statements

else-binds : (t : Bool) (next : ℕ) (otherwise : Calls) → Binds next (else_part t next otherwise)
unfolding else_part
else-binds true next otherwise = binds next
else-binds false next otherwise = inside _ λ end. further _ (sooner _ (binds next))

arm_body-binds : (next_arm end : ℕ) (body : Calls) → Binds next_arm (arm_body next_arm end body)
unfolding arm_body
arm_body-binds next_arm end body = further _ (further _ (further _ (sooner _ (binds next_arm))))

repeat_by-binds : (x : Option ClassifiedCmp) (i : ℕ) (c : Expr) (head end : ℕ) (next_used : Bool) (body : Loops → Calls) (loops : Loops) → Binds head (repeat_by x i c head end next_used body loops)
unfolding repeat_by
repeat_by-binds (some f) i c head end next_used body loops = further _ (sooner _ (binds head))
repeat_by-binds none i c head end next_used body loops = sooner _ (binds head)

module _ {Λ : ℕ → ℕ} where
  loop_body-sound : {E : ℕ → Type 0} (i end : ℕ) (b : ℕ → Bool) (body : Loops → Calls) (loops : Loops) → Λ end ≡ 0 → E end → Bodies Λ b body → Around Λ E i b loops
      → Sound Λ E (loop_body i end (b i) body loops) 0 0 0 0
  unfolding loop_body when
  loop_body-sound {E = E} i end b body loops pe e bs o = by (b i) refl
    where
      by : (t : Bool) → b i ≡ t → Sound Λ E (loop_body i end t body loops) 0 0 0 0
      by true p = opens (λ next. further _ (binds next)) λ next pn.
          bs (With next E) _ (open-inner i end next b loops (λ l x. right x) pe e (λ q. at pn (left refl)) o) ⨾ binding next pn
      by false p = leaves λ next pn. bs E _ (open-inner i end next b loops (λ l x. x) pe e (λ q. never (cc)) o) ⨾ silent

  fused-sound : {E : ℕ → Type 0} {h : ℕ} (f : ClassifiedCmp) (t : Bool) (l : ℕ) → Λ l ≡ h → E l → Sound Λ E (emit_classified_cmp_br f t l) h h h h
  unfolding emit_classified_cmp_br
  fused-sound f true l p e = compares f.op f.variable f.constant l p e
  fused-sound f false l p e = compares (negate f.op) f.variable f.constant l p e

  branch_unless_by-sound : {E : ℕ → Type 0} (x : Option ClassifiedCmp) (c : Expr) (l : ℕ) → Λ l ≡ 0 → E l → Sound Λ E (branch_unless_by x c l) 0 0 0 0
  unfolding branch_unless_by
  branch_unless_by-sound (some f) c l p e = fused-sound f false l p e
  branch_unless_by-sound none c l p e = expr-sound c 0 ⨾ unless l p e

  else-sound : {E : ℕ → Type 0} (t : Bool) (next : ℕ) (otherwise : Calls) → Λ next ≡ 0 → Sound Λ E otherwise 0 0 0 0 → Sound Λ E (else_part t next otherwise) 0 0 0 0
  unfolding else_part
  else-sound true next otherwise p s = binding next p
  else-sound false next otherwise p s = opens (λ end. further _ (further _ (further _ (binds end)))) λ end pe.
      jumps end pe (left refl) ⨾ binding next p ⨾ wider (λ l x. right x) s ⨾ binding end pe

  against-sound : {E : ℕ → Type 0} (c : CompareOp) (k fail : ℕ) → Λ fail ≡ 1 → E fail → Sound Λ E (test_against c k fail) 1 1 1 1
  unfolding test_against size needs effect flow traits traits_of shift
  against-sound c k fail p e = emits dup refl refl (omega arith) ⨾ pushes k ⨾ emits (role.compare c) refl refl (omega arith) ⨾ unless fail p e

  test-sound : {E : ℕ → Type 0} (l : CaseLabel) (fail : ℕ) → Λ fail ≡ 1 → E fail → Sound Λ E (test_label l fail) 1 1 1 1
  unfolding test_label
  test-sound (value k) fail p e = against-sound Eq k fail p e
  test-sound (range low high) fail p e = against-sound Ge low fail p e ⨾ against-sound Le high fail p e
  test-sound (bad_label f) fail p e = refuses f

  tests-sound : {E : ℕ → Type 0} (l : CaseLabel) (ls : List CaseLabel) (body fail : ℕ) → Λ body ≡ 1 → E body → Λ fail ≡ 1 → E fail → Sound Λ E (test_labels l ls body fail) 1 1 1 1
  unfolding test_labels
  tests-sound l [] body fail pb eb pf ef = test-sound l fail pf ef
  tests-sound l (m ∷ ms) body fail pb eb pf ef = opens (λ x. further _ (further _ (sooner _ (binds x)))) λ x px.
      test-sound l x px (left refl) ⨾ jumps body pb (right eb) ⨾ binding x px ⨾ tests-sound m ms body fail pb (right eb) pf (right ef)

  arm_body-sound : {E : ℕ → Type 0} (next_arm end : ℕ) (body : Calls) → Λ next_arm ≡ 1 → Λ end ≡ 0 → E end → Sound Λ E body 0 0 0 0 → Sound Λ E (arm_body next_arm end body) 1 1 1 1
  unfolding arm_body size needs effect flow traits traits_of shift
  arm_body-sound next_arm end body pn pe e s = emits pop refl refl (omega arith) ⨾ s ⨾ jumps end pe e ⨾ binding next_arm pn ⨾ resets 1

  empty-arm : {E : ℕ → Type 0} (end : ℕ) (body : Calls) → Sound Λ E (emit_arm [] end body) 1 1 1 1
  unfolding emit_arm
  empty-arm end body = silent

  arm-sound : {E : ℕ → Type 0} (ls : List CaseLabel) (end : ℕ) (body : Calls) → Λ end ≡ 0 → E end → Sound Λ E body 0 0 0 0 → Sound Λ E (emit_arm ls end body) 1 1 1 1
  unfolding emit_arm
  arm-sound [] end body pe e s = empty-arm end body
  arm-sound (l ∷ []) end body pe e s = opens (λ x. further _ (arm_body-binds x end body)) λ x px.
      test-sound l x px (left refl) ⨾ arm_body-sound x end body px pe (right e) (wider (λ y z. right z) s)
  arm-sound (l ∷ m ∷ ms) end body pe e s = opens (λ x. inside _ λ start. further _ (further _ (arm_body-binds x end body))) λ x px.
      opens (λ start. further _ (sooner _ (binds start))) λ start ps.
      tests-sound l (m ∷ ms) start x ps (left refl) px (right (left refl)) ⨾ binding start ps ⨾ arm_body-sound x end body px pe (right (right e)) (wider (λ y z. right (right z)) s)

  end_test-sound : {E : ℕ → Type 0} (x : Option ℕ) (within : CompareOp) (v : ℕ) (to : Expr) (end : ℕ) → Λ end ≡ 0 → E end → Sound Λ E (end_test_by x within v to end) 0 0 0 0
  unfolding end_test_by size needs effect flow traits traits_of shift
  end_test-sound (some k) within v to end pe e = fused-sound _ false end pe e
  end_test-sound none within v to end pe e = loads v ⨾ expr-sound to 1 ⨾ emits (role.compare within) refl refl (omega arith) ⨾ unless end pe e

  -- ---- loops

  module _ (i : ℕ) (b : ℕ → Bool) (body : Loops → Calls) (loops : Loops) (bs : Bodies Λ b body) where
    for-sound : {E : ℕ → Type 0} (v step : ℕ) (from to : Expr) → Around Λ E i b loops → Sound Λ E (emit_for i v step from to (b i) body loops) 0 0 0 0
    unfolding emit_for size needs effect flow traits traits_of shift
    for-sound v step from to o = expr-sound from 0 ⨾ stores v ⨾ opens (λ head. inside _ λ end. sooner _ (binds head)) λ head ph.
        opens (λ end. further _ (further _ (further _ (further _ (further _ (further _ (further _ (further _ (binds end))))))))) λ end pe.
        binding head ph ⨾ end_test-sound (constant_of to) (bound (counts_down width step)) v to end pe (left refl)
        ⨾ loop_body-sound i end b body loops pe (left refl) bs (open-wider (λ l x. right (right x)) (λ j q. q) o)
        ⨾ loads v ⨾ pushes step ⨾ emits (role.arithmetic Add) refl refl (omega arith) ⨾ stores v ⨾ jumps head ph (right (left refl)) ⨾ binding end pe

    plain-sound : {E : ℕ → Type 0} (continuing : Loops → Calls) → Sound Λ E (continuing loops) 0 0 0 0 → Around Λ E i b loops → Sound Λ E (emit_plain i (b i) body continuing loops) 0 0 0 0
    unfolding emit_plain
    plain-sound continuing c o = opens (λ head. inside _ λ end. sooner _ (binds head)) λ head ph.
        opens (λ end. further _ (further _ (further _ (further _ (binds end))))) λ end pe.
        binding head ph ⨾ loop_body-sound i end b body loops pe (left refl) bs (open-wider (λ l x. right (right x)) (λ j q. q) o)
        ⨾ wider (λ l x. right (right x)) c ⨾ jumps head ph (right (left refl)) ⨾ binding end pe

    whileBy-sound : {F : ℕ → Type 0} (x : Option ClassifiedCmp) (c : Expr) (end : ℕ) → Λ end ≡ 0 → F end → Around Λ F i b loops → Sound Λ F (while_by x i c end (b i) body loops) 0 0 0 0
    unfolding while_by
    whileBy-sound (some f) c end pe e o = pools f.constant ⨾ opens (λ start. further _ (sooner _ (binds start))) λ start ps.
        fused-sound f false end pe (right e) ⨾ binding start ps ⨾ loop_body-sound i end b body loops pe (right e) bs (open-wider (λ l x. right x) (λ j q. q) o) ⨾ fused-sound f true start ps (left refl)
    whileBy-sound none c end pe e o = opens (λ head. sooner _ (binds head)) λ head ph.
        binding head ph ⨾ expr-sound c 0 ⨾ unless end pe (right e) ⨾ loop_body-sound i end b body loops pe (right e) bs (open-wider (λ l x. right x) (λ j q. q) o) ⨾ jumps head ph (left refl)

    while-sound : {E : ℕ → Type 0} (c : Expr) → Around Λ E i b loops → Sound Λ E (emit_while i c (b i) body loops) 0 0 0 0
    unfolding emit_while
    while-sound c o = opens (λ end. further _ (binds end)) λ end pe. whileBy-sound (classify c) c end pe (left refl) (open-wider (λ l x. right x) (λ j q. q) o) ⨾ binding end pe

    repeatBy-sound : {F : ℕ → Type 0} (x : Option ClassifiedCmp) (c : Expr) (head end : ℕ) → Λ head ≡ 0 → F head → Λ end ≡ 0 → F end → Around Λ F i b loops → Sound Λ F (repeat_by x i c head end (b i) body loops) 0 0 0 0
    unfolding repeat_by
    repeatBy-sound (some f) c head end ph eh pe e o = pools f.constant ⨾ binding head ph ⨾ loop_body-sound i end b body loops pe e bs o ⨾ fused-sound f false head ph eh
    repeatBy-sound none c head end ph eh pe e o = binding head ph ⨾ loop_body-sound i end b body loops pe e bs o ⨾ expr-sound c 0 ⨾ unless head ph eh

    repeat-sound : {E : ℕ → Type 0} (c : Expr) → Around Λ E i b loops → Sound Λ E (emit_repeat i c (b i) body loops) 0 0 0 0
    unfolding emit_repeat
    repeat-sound c o = opens (λ head. inside _ λ end. sooner _ (repeat_by-binds (classify c) i c head end (b i) body loops)) λ head ph. opens (λ end. further _ (binds end)) λ end pe.
        repeatBy-sound (classify c) c head end ph (right (left refl)) pe (left refl) (open-wider (λ l x. right (right x)) (λ j q. q) o) ⨾ binding end pe

  loop-sound : {E : ℕ → Type 0} (x : Shape) (i : ℕ) (b : ℕ → Bool) (body rest continuing : Loops → Calls) (loops : Loops) → Bodies Λ b body → Bodies Λ b rest
      → Sound Λ E (continuing loops) 0 0 0 0 → Around Λ E i b loops → Sound Λ E (emit_loop x i (b i) body rest continuing loops) 0 0 0 0
  unfolding emit_loop
  loop-sound (while c) i b body rest continuing loops bs rs cs o = while-sound i b rest loops rs c o
  loop-sound (repeat c) i b body rest continuing loops bs rs cs o = repeat-sound i b body loops bs c o
  loop-sound plain i b body rest continuing loops bs rs cs o = plain-sound i b body loops bs continuing cs o

  position-sound : {E : ℕ → Type 0} (x : Option Source) → Sound Λ E (record_position x) 0 0 0 0
  unfolding record_position
  position-sound none = silent
  position-sound (some s) = places s.pos

  -- ---- statements and blocks

  mutual
    unfolding emit_stmt continues_stmt branch_unless size needs effect flow traits traits_of shift

    stmt-sound : {E : ℕ → Type 0} (s : Stmt) (loops : Loops) → Open Λ E (λ i. continues_stmt i s) loops → Sound Λ E (emit_stmt s loops) 0 0 0 0
    stmt-sound (assign s v e) loops o = expr-sound e 0 ⨾ stores v
    stmt-sound (if s c t e) loops o = opens (λ x. further _ (further _ (else-binds (is_done e) x _))) λ x px.
        branch_unless_by-sound (classify c) c x px (left refl)
        ⨾ block-sound t loops (open-wider (λ l y. right y) (λ i q. or_left _ (continues i e) q) o)
        ⨾ else-sound (is_done e) x _ px (block-sound e loops (open-wider (λ l y. right y) (λ i q. or_right (continues i t) _ q) o))
    stmt-sound (case s e xs b) loops o = expr-sound e 0 ⨾ opens (λ end. further _ (further _ (further _ (binds end)))) λ end pe.
        arms-sound xs end loops pe (left refl) (open-wider (λ l y. right y) (λ i q. or_left _ (continues i b) q) o) ⨾ emits pop refl refl (omega arith)
        ⨾ block-sound b loops (open-wider (λ l y. right y) (λ i q. or_right (continues_arms i xs) _ q) o) ⨾ binding end pe
    stmt-sound (for s i v step from to b) loops o = for-sound i (λ j. continues j b) (λ p. emit_block b p) loops (λ F p q. block-sound b p q) v step from to o
    stmt-sound (loop s i b c) loops o = loop-sound (shape i b c) i (λ j. continues j b) (λ p. emit_block b p) (λ p. emit_rest b p) (λ p. emit_block c p) loops (λ F p q. block-sound b p q) (λ F p q. rest-sound b p q)
        (block-sound c loops (open-wider (λ l y. y) (λ j q. or_right (not (eqb j i) && continues j b) _ q) o)) (open-wider (λ l y. y) (λ j q. or_left _ (continues j c) q) o)
    stmt-sound (exit s i) loops o = out-sound s (exit_of (labels i loops)) (o.exits i)
    stmt-sound (continue s i) loops o = out-sound s (next_of (labels i loops)) (o.nexts i (eq-eqb i i refl))
    stmt-sound (return s) loops o = returns ret refl refl refl refl
    stmt-sound (bad_stmt f) loops o = refuses f

    block-sound : {E : ℕ → Type 0} (b : Block) (loops : Loops) → Open Λ E (λ i. continues i b) loops → Sound Λ E (emit_block b loops) 0 0 0 0
    block-sound done loops o = silent
    block-sound (s then b) loops o = position-sound (source_of s) ⨾ stmt-sound s loops (open-wider (λ l y. y) (λ i q. or_left _ (continues i b) q) o)
        ⨾ block-sound b loops (open-wider (λ l y. y) (λ i q. or_right (continues_stmt i s) _ q) o)

    rest-sound : {E : ℕ → Type 0} (b : Block) (loops : Loops) → Open Λ E (λ i. continues i b) loops → Sound Λ E (emit_rest b loops) 0 0 0 0
    rest-sound done loops o = silent
    rest-sound (s then b) loops o = block-sound b loops (open-wider (λ l y. y) (λ i q. or_right (continues_stmt i s) _ q) o)

    arms-sound : {E : ℕ → Type 0} (xs : Arms) (end : ℕ) (loops : Loops) → Λ end ≡ 0 → E end → Open Λ E (λ i. continues_arms i xs) loops → Sound Λ E (emit_arms xs end loops) 1 1 1 1
    arms-sound no_arms end loops pe e o = silent
    arms-sound (arm [] b xs) end loops pe e o = empty-arm end (emit_block b loops) ⨾ arms-sound xs end loops pe e o
    arms-sound (arm (l ∷ ls) b xs) end loops pe e o = arm-sound (l ∷ ls) end (emit_block b loops) pe e (block-sound b loops (open-wider (λ k y. y) (λ i q. or_left _ (continues_arms i xs) q) o))
        ⨾ arms-sound xs end loops pe e (open-wider (λ k y. y) (λ i q. or_right (continues i b) _ q) o)
    arms-sound (bad_arm f) end loops pe e o = refuses f

unfoldable pub Nobody : ℕ → Type 0
Nobody l = ⊥

-- a program's calls keep every label's height, and bind every label that they jump to
pub program-sound : {Λ : ℕ → ℕ} (b : Block) → Sound Λ Nobody (emit_stmts b) 0 0 0 0
unfolding emit_stmts exit_of next_of labels
program-sound done = silent
program-sound (s then b) = stmt-sound s [] (record { exits = λ i. nowhere; nexts = λ i q. nowhere }) ⨾ program-sound b
