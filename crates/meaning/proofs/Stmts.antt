-- Running a statement's calls comes to where its meaning's answer says.
use Prim.Native.Nat.{ℕ}
use mathlib.Core.Path.{◌≡◌, refl, sym, ap, subst}
use mathlib.Core.List.{List, [], ◌∷◌}
use mathlib.Core.Bool.{Bool, true, false, ◌&&◌}
use mathlib.Core.Option.{Option, some, none}
use lib.Dec.{eqb}
use Rattle.definition.specs.Limits.{width}
use Rattle.definition.specs.Opcode.{ret}
use Rattle.definition.specs.Tree.{Source, Expr, Stmt, assign, if, case, for, loop, exit, continue, return, bad_stmt, Block, done, ◌then◌, Arms, no_arms, arm, bad_arm, is_done, is_exit_stmt, is_exit, only_if, exit_when, exit_unless, Shape, while, repeat, plain, repeat_or, while_or, shape}
use Rattle.definition.specs.Emit.{Call, store_variable, emit_opcode, set_position}
use Rattle.definition.specs.Walk.{Calls, ◌>>◌, say}
use Rattle.definition.specs.Expr.{emit_expr}
use Rattle.definition.specs.Stmt.{Loops, labels, jump_to, exit_of, next_of, emit_loop, source_of, record_position, emit_stmt, emit_block, emit_rest, emit_arms, emit_stmts, continues_stmt}
use Rattle.definition.specs.Stmt as emission
use Rattle.definition.specs.Iec.{truth, stored, Values}
use Rattle.definition.specs.Meaning.{value_of, Answer, ends, exits, returns, stops, and_then, on_value, fits_one, Turn, again, leaves, then_turn, turns, caught, turn_of, loop_turn, run_stmt, run_block, run_arms}
use Rattle.field.proofs.Tests.{or-false}
use Rattle.field.proofs.Results.{never, some_is}
use Rattle.meaning.proofs.Calls.{pop_one, operated, called}
use Rattle.meaning.proofs.Walks.{through, Away, Good, Does, ◌⨾◌, cut, silent, says, finishing, refuses}
use Rattle.meaning.proofs.Exprs.{valued, on_value_lem, expr-does, jumps}
use Rattle.meaning.proofs.Landing.{label_end, landing, onward, landing-away, then-does, if-does, armed, arms_end, arm-does, case-does}
use Rattle.meaning.proofs.Loops.{Never, while_turn, plain-does, for-does, repeat-does, while-does}
use Rattle.meaning.proofs.Never.{never-block}

-- ---- WHILE: the plain meaning of a loop of that shape

-- a block without its first statement
unfoldable pub run_rest : ℕ → Block → ℕ → Values → Answer
run_rest w done f σ = ends σ
run_rest w (s then b) f σ = run_block w b f σ

rest-never : (w i : ℕ) (b : Block) → emission.continues i b ≡ false → (f : ℕ) (σ : Values) → Never i (run_rest w b f σ)
unfolding run_rest emission.continues Never
rest-never w i done n f σ = tt
rest-never w i (s then b) n f σ = never-block w i b (or-false (continues_stmt i s) _ n).1 f σ

-- IF c ELSE EXIT i
record ExitUnless (i : ℕ) (c : Expr) (s : Stmt) : Type 0 where
  source : Source
  exit_source : Source
  number : ℕ
  own : eqb i number ≡ true
  is : s ≡ if source c done (exit exit_source number then done)

unless-is : (i : ℕ) (s : Stmt) (c : Expr) → exit_unless i s ≡ some c → ExitUnless i c s
unfolding exit_unless only_if is_done is_exit is_exit_stmt
unless-is i (assign s v e) c p = never (cc)
unless-is i (if s c' done done) c p = never (cc)
unless-is i (if s c' done (assign r v e then b)) c p = never (cc)
unless-is i (if s c' done (if r d x y then b)) c p = never (cc)
unless-is i (if s c' done (case r e xs y then b)) c p = never (cc)
unless-is i (if s c' done (for r j v k x y z then b)) c p = never (cc)
unless-is i (if s c' done (loop r j x y then b)) c p = never (cc)
unless-is i (if s c' done (exit r j then done)) c p = go (eqb i j) refl p
  where
    go : (t : Bool) → eqb i j ≡ t → only_if (t && true) c' ≡ some c → ExitUnless i c (if s c' done (exit r j then done))
    go true e q = record { source = s; exit_source = r; number = j; own = e; is = ap (λ x. if s x done (exit r j then done)) (some_is q) }
    go false e q = never (cc)
unless-is i (if s c' done (exit r j then (x then b))) c p = go (eqb i j) p
  where
    go : (t : Bool) → only_if (t && false) c' ≡ some c → ExitUnless i c (if s c' done (exit r j then (x then b)))
    go true q = never (cc)
    go false q = never (cc)
unless-is i (if s c' done (continue r j then b)) c p = never (cc)
unless-is i (if s c' done (return r then b)) c p = never (cc)
unless-is i (if s c' done (bad_stmt r then b)) c p = never (cc)
unless-is i (if s c' (x then t) e) c p = never (cc)
unless-is i (case s e xs b) c p = never (cc)
unless-is i (for s j v k a b d) c p = never (cc)
unless-is i (loop s j b d) c p = never (cc)
unless-is i (exit s j) c p = never (cc)
unless-is i (continue s j) c p = never (cc)
unless-is i (return s) c p = never (cc)
unless-is i (bad_stmt f) c p = never (cc)

turn-again : (x : Turn) → then_turn x (λ τ. turn_of (ends τ)) ≡ x
unfolding then_turn turn_of
turn-again (again σ) = refl
turn-again (leaves a) = refl

whole-turn : (w i : ℕ) (c : Expr) (s : Stmt) (b : Block) → ExitUnless i c s → (f : ℕ) (σ : Values)
    → then_turn (caught i (run_block w (s then b) f σ)) (λ τ. turn_of (ends τ)) ≡ while_turn (value_of w σ c) i (run_block w b f σ) σ
unfolding run_stmt on_value and_then caught then_turn turn_of while_turn
whole-turn w i c s b u f σ = subst (λ x. then_turn (caught i (and_then (run_stmt w x f σ) λ τ. run_block w b f τ)) (λ τ. turn_of (ends τ)) ≡ while_turn (value_of w σ c) i (run_block w b f σ) σ) (sym u.is) (go (value_of w σ c))
  where
    out : (t : Bool) → t ≡ true → then_turn (elim t [ true ↦ leaves (ends σ) | false ↦ leaves (exits u.number σ) ]) (λ τ. turn_of (ends τ)) ≡ leaves (ends σ)
    out true e = refl
    out false e = never (cc)

    by : (t : Bool) → then_turn (caught i (and_then (elim t [ true ↦ ends σ | false ↦ exits u.number σ ]) λ τ. run_block w b f τ)) (λ τ. turn_of (ends τ)) ≡ elim t [ true ↦ caught i (run_block w b f σ) | false ↦ leaves (ends σ) ]
    by true = turn-again (caught i (run_block w b f σ))
    by false = out (eqb i u.number) u.own

    go : (v : Option ℕ) → then_turn (caught i (and_then (on_value v σ λ x. elim (truth x) [ true ↦ ends σ | false ↦ exits u.number σ ]) λ τ. run_block w b f τ)) (λ τ. turn_of (ends τ)) ≡ while_turn v i (run_block w b f σ) σ
    go none = refl
    go (some x) = by (truth x)

not-repeat : {A : Type 0} (x : Option Expr) (c : Expr) → repeat_or x ≡ while c → A
unfolding repeat_or
not-repeat (some y) c e = never (cc)
not-repeat none c e = never (cc)

while-is : (x : Option Expr) (c : Expr) → while_or x ≡ while c → x ≡ some c
unfolding while_or
while-is (some y) c e = cc
while-is none c e = never (cc)

while-law : (w i : ℕ) (b k : Block) (c : Expr) → shape i b k ≡ while c → (f : ℕ) (σ : Values)
    → then_turn (caught i (run_block w b f σ)) (λ τ. turn_of (run_block w k f τ)) ≡ while_turn (value_of w σ c) i (run_rest w b f σ) σ
unfolding shape run_stmt run_rest
while-law w i b (s then done) c e f σ = not-repeat (exit_when i s) c e
while-law w i b (s then (t then k)) c e f σ = never (cc)
while-law w i done done c e f σ = never (cc)
while-law w i (s then b) done c e f σ = whole-turn w i c s b (unless-is i s c (while-is (exit_unless i s) c e)) f σ

-- ---- statements

done-law : (w : ℕ) (e : Block) (f : ℕ) (σ : Values) → is_done e ≡ true → run_block w e f σ ≡ ends σ
unfolding is_done run_stmt
done-law w done f σ p = refl
done-law w (s then b) f σ p = never (cc)

-- emission takes a FOR's direction at the one width that there is
module _ {code : List Call} {w : ℕ} (good : Good code) (same : width ≡ w) where
  assign-does : (v : ℕ) (e : Expr) (loops : Loops) (f : ℕ) (σ : Values) → Does code w (emit_expr e 0 >> say (store_variable v)) [] σ (landing onward loops f (on_value (value_of w σ e) σ λ x. ends (stored σ v x)))
  unfolding on_value landing valued called pop_one Away
  assign-does v e loops f σ = on_value_lem good (λ x. landing onward loops f (on_value x σ λ y. ends (stored σ v y))) (value_of w σ e) refl (expr-does good e 0 [] σ) (λ y. says (store_variable v) (λ r. refl))

  jump-does : (s : Source) (l : Option ℕ) (σ : Values) → Does code w (jump_to s l) [] σ (label_end l σ)
  unfolding jump_to label_end
  jump-does s none σ = refuses good _
  jump-does s (some l) σ = jumps good l [] σ

  return-does : (σ : Values) (loops : Loops) (f : ℕ) → Does code w (say (emit_opcode ret)) [] σ (landing onward loops f (returns σ))
  unfolding called operated landing
  return-does σ loops f = finishing (emit_opcode ret) (λ r. refl)

  position-does : (x : Option Source) (σ : Values) → Does code w (record_position x) [] σ (through [] σ)
  unfolding record_position called
  position-does none σ = silent
  position-does (some s) σ = says (set_position s.pos) (λ r. refl)

  arm-then : (m k : Calls) (end : ℕ) (loops : Loops) (f x : ℕ) (σ : Values) (t : Option Bool) (a : Answer) (r : Option Answer) → Does code w m (x ∷ []) σ (armed end loops f x σ t a) → Does code w k (x ∷ []) σ (arms_end end loops f x σ r)
      → Does code w (m >> k) (x ∷ []) σ (arms_end end loops f x σ (elim t [ none ↦ some (stops σ) | some u ↦ elim u [ true ↦ some a | false ↦ r ] ]))
  unfolding armed arms_end landing Away
  arm-then m k end loops f x σ none a r p q = cut _ tt p
  arm-then m k end loops f x σ (some true) a r p q = cut _ (landing-away end loops f a) p
  arm-then m k end loops f x σ (some false) a r p q = p ⨾ q

  module _ (i : ℕ) (b k : Block) (loops : Loops) (body : (o : Loops) (f : ℕ) (σ : Values) → Does code w (emit_block b o) [] σ (landing onward o f (run_block w b f σ)))
      (rest : (o : Loops) (f : ℕ) (σ : Values) → Does code w (emit_rest b o) [] σ (landing onward o f (run_rest w b f σ)))
      (continuing : (f : ℕ) (σ : Values) → Does code w (emit_block k loops) [] σ (landing onward loops f (run_block w k f σ))) where
    loop-does : (x : Shape) → shape i b k ≡ x → (f : ℕ) (σ : Values) → Does code w (emit_loop x i (emission.continues i b) (λ o. emit_block b o) (λ o. emit_rest b o) (λ o. emit_block k o) loops) [] σ
        (landing onward loops f (turns (loop_turn w x i (λ g τ. run_block w b g τ) (λ g τ. run_block w k g τ)) f σ))
    unfolding emit_loop loop_turn
    loop-does (while c) e f σ = while-does good loops i (emission.continues i b) (λ o. emit_rest b o) (λ g τ. run_rest w b g τ) rest (λ g τ n. rest-never w i b n g τ) c _ (λ g τ. while-law w i b k c e g τ) f σ
    loop-does (repeat c) e f σ = repeat-does good loops i (emission.continues i b) (λ o. emit_block b o) (λ g τ. run_block w b g τ) body (λ g τ n. never-block w i b n g τ) c f σ
    loop-does plain e f σ = plain-does good loops i (emission.continues i b) (λ o. emit_block b o) (λ g τ. run_block w b g τ) body (λ g τ n. never-block w i b n g τ) (λ o. emit_block k o) (λ g τ. run_block w k g τ) continuing f σ

  mutual
    unfolding emit_stmt run_stmt run_rest landing arms_end

    pub stmt-does : (s : Stmt) (loops : Loops) (f : ℕ) (σ : Values) → Does code w (emit_stmt s loops) [] σ (landing onward loops f (run_stmt w s f σ))
    stmt-does (assign s v e) loops f σ = assign-does v e loops f σ
    stmt-does (if s c t e) loops f σ = if-does good loops f c (is_done e) (emit_block t loops) (emit_block e loops) σ (run_block w t f σ) (run_block w e f σ) (block-does t loops f σ) (block-does e loops f σ) (done-law w e f σ)
    stmt-does (case s e xs b) loops f σ = case-does good loops f e (λ end. emit_arms xs end loops) (emit_block b loops) σ (λ x. run_arms w xs x f σ) (run_block w b f σ) (λ x end. arms-does xs end loops x f σ) (block-does b loops f σ)
    stmt-does (for s i v step from last b) loops f σ = for-does good loops i (emission.continues i b) (λ o. emit_block b o) (λ g τ. run_block w b g τ) (λ o g τ. block-does b o g τ) (λ g τ n. never-block w i b n g τ) same v step from last f σ
    stmt-does (loop s i b c) loops f σ = loop-does i b c loops (λ o g τ. block-does b o g τ) (λ o g τ. rest-does b o g τ) (λ g τ. block-does c loops g τ) (shape i b c) refl f σ
    stmt-does (exit s i) loops f σ = jump-does s (exit_of (labels i loops)) σ
    stmt-does (continue s i) loops f σ = jump-does s (next_of (labels i loops)) σ
    stmt-does (return s) loops f σ = return-does σ loops f
    stmt-does (bad_stmt x) loops f σ = refuses good x

    pub block-does : (b : Block) (loops : Loops) (f : ℕ) (σ : Values) → Does code w (emit_block b loops) [] σ (landing onward loops f (run_block w b f σ))
    block-does done loops f σ = silent
    block-does (s then b) loops f σ = position-does (source_of s) σ ⨾ then-does good loops f onward (run_stmt w s f σ) (λ τ. run_block w b f τ) (stmt-does s loops f σ) (λ τ. block-does b loops f τ)

    pub rest-does : (b : Block) (loops : Loops) (f : ℕ) (σ : Values) → Does code w (emit_rest b loops) [] σ (landing onward loops f (run_rest w b f σ))
    rest-does done loops f σ = silent
    rest-does (s then b) loops f σ = block-does b loops f σ

    pub arms-does : (xs : Arms) (end : ℕ) (loops : Loops) (x f : ℕ) (σ : Values) → Does code w (emit_arms xs end loops) (x ∷ []) σ (arms_end end loops f x σ (run_arms w xs x f σ))
    arms-does no_arms end loops x f σ = silent
    arms-does (arm ls b xs) end loops x f σ = arm-then _ _ end loops f x σ (fits_one w x ls) (run_block w b f σ) (run_arms w xs x f σ) (arm-does good loops f ls x end (emit_block b loops) σ (run_block w b f σ) (block-does b loops f σ)) (arms-does xs end loops x f σ)
    arms-does (bad_arm y) end loops x f σ = refuses good y

  -- ---- a program's statements

  pub program-does : (b : Block) (f : ℕ) (σ : Values) → Does code w (emit_stmts b) [] σ (landing onward [] f (run_block w b f σ))
  unfolding emit_stmts run_stmt landing
  program-does done f σ = silent
  program-does (s then b) f σ = then-does good [] f onward (run_stmt w s f σ) (λ τ. run_block w b f τ) (stmt-does s [] f σ) (λ τ. program-does b f τ)
