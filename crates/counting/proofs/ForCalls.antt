-- The calls of a FOR that counts up over constants, and those of a statement inside others.
use Prim.Native.Nat.{ℕ, suc}
use mathlib.Core.Path.{◌≡◌, refl, ◌∙◌, ap}
use mathlib.Core.List.{◌∷◌, ◌++◌}
use mathlib.Core.Bool.{Bool, true, false}
use mathlib.Core.Option.{some}
use Rattle.definition.specs.Limits.{width}
use Rattle.definition.specs.Opcode.{negate, arithmetic, Add}
use Rattle.definition.specs.Tree.{const, counts_down, bound}
use Rattle.definition.specs.Emit.{bind_label, load_variable, store_variable, load_constant, emit_opcode, emit_jmp}
use Rattle.definition.specs.Walk.{next, after, Calls, ◌>>=◌, ◌>>◌, say, nothing, new_label, when}
use Rattle.definition.specs.CompileExpr.{constant_of, emit_classified_cmp_br}
use Rattle.definition.specs.Expr.{emit_expr}
use Rattle.definition.specs.Stmt.{Loops, loop_body, continues, end_test_by, emit_for, emit_stmt, emit_block}
use Rattle.definition.specs.For.{For, for_stmt, setting_of, testing_of, body_of, counting_of}
use Rattle.counting.proofs.Once.{closed, closes, block_closed, closed-append}

-- a FOR's walk, by whether it counts down
for_by : For → Loops → Bool → Calls
for_by f loops down = do
  emit_expr (const f.from) 0
  say (store_variable f.control)
  head ← new_label 0
  end ← new_label 0
  say (bind_label head)
  end_test_by (some f.to) (bound down) f.control (const f.to) end
  loop_body f.loop end (continues f.loop f.body) (λ o. emit_block f.body o) loops
  say (load_variable f.control)
  say (load_constant f.step)
  say (emit_opcode (arithmetic Add))
  say (store_variable f.control)
  say (emit_jmp head)
  say (bind_label end)

pub for-calls : (f : For) (loops : Loops) (n : ℕ) → counts_down width f.step ≡ false → (emit_stmt (for_stmt f) loops n).1 ≡ setting_of f ++ (testing_of f n ++ (body_of f loops n ++ counting_of f n))
unfolding for_by for_stmt setting_of testing_of body_of counting_of emit_stmt emit_for emit_expr constant_of end_test_by bound emit_classified_cmp_br negate ◌>>=◌ ◌>>◌ say new_label after next
for-calls f loops n up = ap (λ b. (for_by f loops b n).1) up

used-closed : (u : Bool) (l m : ℕ) → closed true (when u (say (bind_label l)) m).1 ≡ true
unfolding when say nothing closed closes
used-closed true l m = refl
used-closed false l m = refl

-- the body of a FOR does not end with a load
pub body_closed : (f : For) (loops : Loops) (n : ℕ) → closed true (body_of f loops n) ≡ true
unfolding body_of loop_body ◌>>=◌ ◌>>◌ new_label closed closes after next
body_closed f loops n =
    let o : Loops = record { loop = f.loop; exit = suc n; next = suc (suc n) } ∷ loops in
    let k : ℕ = suc (suc (suc n)) in
    let b = (emit_block f.body o k).1 in
    let u = (when (continues f.loop f.body) (say (bind_label (suc (suc n)))) (after k b)).1 in
    closed-append true b u ∙ (ap (λ c. closed c u) (block_closed f.body o k) ∙ used-closed (continues f.loop f.body) (suc (suc n)) (after k b))
