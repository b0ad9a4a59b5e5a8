-- A FOR of a program, and where its parts stand in the code.
use Rattle.std.specs.Prelude.{ℕ, suc, ◌≡◌, List, [], ◌∷◌, ◌++◌, length}
use Rattle.definition.specs.Res.{Res, ok, refuse}
use Rattle.definition.specs.Opcode.{Sheet, Gt, Add, arithmetic}
use Rattle.definition.specs.Tree.{CaseLabel, Source, Expr, const, Stmt, if, case, for, loop, Block, ◌then◌, Arms, arm, Program}
use Rattle.definition.specs.Emit.{Call, create_label, bind_label, load_variable, store_variable, load_constant, emit_opcode, emit_jmp, emit_cmp_br, Emitter, emitter_at, acts}
use Rattle.definition.specs.Walk.{after}
use Rattle.definition.specs.Stmt.{Loops, loop_body, continues, emit_stmt, emit_block, emit_stmts}

-- ---- a statement of a program that is emitted: an arm without labels is not

mutual
  pub data In (t : Stmt) : Block → Type 0 where
    here : {s : Stmt} {b : Block} → s ≡ t → In t (s then b)
    inside : {s : Stmt} {b : Block} → InStmt t s → In t (s then b)
    behind : {s : Stmt} {b : Block} → In t b → In t (s then b)

  pub data InStmt (t : Stmt) : Stmt → Type 0 where
    in_then : {s : Source} {c : Expr} {a b : Block} → In t a → InStmt t (if s c a b)
    in_else : {s : Source} {c : Expr} {a b : Block} → In t b → InStmt t (if s c a b)
    in_arms : {s : Source} {e : Expr} {xs : Arms} {b : Block} → InArms t xs → InStmt t (case s e xs b)
    in_other : {s : Source} {e : Expr} {xs : Arms} {b : Block} → In t b → InStmt t (case s e xs b)
    in_for : {s : Source} {i v step : ℕ} {from to : Expr} {b : Block} → In t b → InStmt t (for s i v step from to b)
    in_body : {s : Source} {i : ℕ} {b c : Block} → In t b → InStmt t (loop s i b c)
    in_continuing : {s : Source} {i : ℕ} {b c : Block} → In t c → InStmt t (loop s i b c)

  pub data InArms (t : Stmt) : Arms → Type 0 where
    in_arm : {l : CaseLabel} {ls : List CaseLabel} {b : Block} {xs : Arms} → In t b → InArms t (arm (l ∷ ls) b xs)
    in_later : {ls : List CaseLabel} {b : Block} {xs : Arms} → InArms t xs → InArms t (arm ls b xs)

-- ---- the calls before it and behind it

pub record Emits (p : Program) (t : Stmt) : Type 0 where
  pub before : List Call
  pub loops : Loops
  pub behind : List Call
  pub is : (emit_stmts p.body 0).1 ≡ before ++ ((emit_stmt t loops (after 0 before)).1 ++ behind)

-- ---- a FOR over constants

pub record For : Type 0 where
  pub source : Source
  pub loop : ℕ
  pub control : ℕ
  pub from : ℕ
  pub to : ℕ
  pub step : ℕ
  pub body : Block

unfoldable pub for_stmt : For → Stmt
for_stmt f = for f.source f.loop f.control f.step (const f.from) (const f.to) f.body

-- its calls, in four parts, where the next label is n: counting up
unfoldable pub setting_of : For → List Call
setting_of f = load_constant f.from ∷ store_variable f.control ∷ []

unfoldable pub testing_of : For → ℕ → List Call
testing_of f n = create_label 0 ∷ create_label 0 ∷ bind_label n ∷ emit_cmp_br Gt f.control f.to (suc n) ∷ []

unfoldable pub body_of : For → Loops → ℕ → List Call
body_of f loops n = (loop_body f.loop (suc n) (continues f.loop f.body) (λ o. emit_block f.body o) loops (suc (suc n))).1

unfoldable pub counting_of : For → ℕ → List Call
counting_of f n = load_variable f.control ∷ load_constant f.step ∷ emit_opcode (arithmetic Add) ∷ store_variable f.control ∷ emit_jmp n ∷ bind_label (suc n) ∷ []

-- ---- places

-- where the parts of a FOR stand in finished code
pub record Places : Type 0 where
  -- its first instruction
  pub first : ℕ
  -- its end test, a CMP_BR
  pub end_test : ℕ
  -- the first place of its body
  pub body : ℕ
  -- the place after its body, where the control is counted up
  pub increment : ℕ
  -- the place after it
  pub end : ℕ

unfoldable pub length_of : Res Emitter → ℕ
length_of (ok e) = length e.bytecode
length_of (refuse n p) = 0

-- how many bytes some calls emit
unfoldable pub place_after : Sheet → Program → List Call → ℕ
place_after s p calls = length_of (acts s calls (emitter_at p.pos))

unfoldable pub places_of : Sheet → (p : Program) (f : For) → Emits p (for_stmt f) → Places
places_of s p f o =
    let n = after 0 o.before in
    record {
      first = place_after s p o.before;
      end_test = place_after s p (o.before ++ setting_of f);
      body = place_after s p (o.before ++ (setting_of f ++ testing_of f n));
      increment = place_after s p (o.before ++ (setting_of f ++ (testing_of f n ++ body_of f o.loops n)));
      end = place_after s p (o.before ++ (setting_of f ++ (testing_of f n ++ (body_of f o.loops n ++ counting_of f n))));
    }

-- `unfolding open-For` names all of this module's definitions at once
unfoldable pub open-For : Unit {0}
unfolding for_stmt setting_of testing_of body_of counting_of length_of place_after places_of
open-For = tt
