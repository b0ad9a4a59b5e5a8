-- Running an expression's calls pushes its value, or stops where its meaning does; and the tests that are branches.
use Prim.Native.Nat.{ℕ, suc}
use mathlib.Core.Path.{◌≡◌, refl, sym, ap, subst}
use mathlib.Core.List.{List, ◌∷◌}
use mathlib.Core.Bool.{Bool, true, false}
use mathlib.Core.Option.{Option, some, none}
use Rattle.definition.specs.Opcode.{BinaryOp, UnaryOp, AndThen, OrElse, load_true, load_false, binary_role, unary_role}
use Rattle.definition.specs.Opcode as role
use Rattle.definition.specs.Tree.{Expr, const, bool, read, binary, unary, compare, short_circuit, bad}
use Rattle.definition.specs.Emit.{Call, bind_label, load_variable, load_constant, emit_opcode, emit_jmp, emit_jmp_if_not, reset_stack_depth}
use Rattle.definition.specs.Walk.{Calls, ◌>>◌, say}
use Rattle.definition.specs.Expr.{emit_expr}
use Rattle.definition.specs.Meaning.{operate, operate_one, with_value, short_cut, value_of}
use Rattle.definition.specs.Iec.{truth, bit, calculate, Values, compared}
use Rattle.runs.proofs.Heights.{aim}
use Rattle.meaning.proofs.Calls.{at, behind, pop_one, pop_two, calculated, operated, chosen, called, is_branch}
use Rattle.meaning.proofs.Walks.{End, through, to, stopped, Away, Good, Does, ◌⨾◌, cut, opens, from-later, chain, says, jumping, stopping, from-here, from_last, refuses}

-- where an expression's run ends
unfoldable pub valued : List ℕ → Values → Option ℕ → End
valued st σ none = stopped σ
valued st σ (some x) = through (x ∷ st) σ

-- behind a short circuit's left side: the way on true is x, that on false y
abbrev ways : Calls → Calls → ℕ → ℕ → ℕ → Calls
ways x y h alternative end = say (emit_jmp_if_not alternative) >> (x >> (say (emit_jmp end) >> (say (bind_label alternative) >> (say (reset_stack_depth h) >> (y >> say (bind_label end))))))

module _ {code : List Call} {w : ℕ} (good : Good code) where
  binary-does : (o : BinaryOp) (a b : ℕ) (st : List ℕ) (σ : Values) → Does code w (say (emit_opcode (binary_role o))) (b ∷ a ∷ st) σ (valued st σ (operate w o a b))
  unfolding binary_role operate valued called operated pop_two calculated
  binary-does (role.Arithmetic o) a b st σ = go (calculate w o a b) refl
    where
      go : (x : Option ℕ) → calculate w o a b ≡ x → Does code w (say (emit_opcode (role.arithmetic o))) (b ∷ a ∷ st) σ (valued st σ x)
      go none e = stopping (emit_opcode (role.arithmetic o)) (λ r. ap (λ x. calculated x r st σ) e)
      go (some x) e = says (emit_opcode (role.arithmetic o)) (λ r. ap (λ x. calculated x r st σ) e)
  binary-does (role.Logic o) a b st σ = says (emit_opcode (role.logic o)) (λ r. refl)

  unary-does : (o : UnaryOp) (a : ℕ) (st : List ℕ) (σ : Values) → Does code w (say (emit_opcode (unary_role o))) (a ∷ st) σ (through (operate_one w o a ∷ st) σ)
  unfolding unary_role operate_one called operated pop_one
  unary-does role.Neg a st σ = says (emit_opcode role.neg) (λ r. refl)
  unary-does role.BoolNot a st σ = says (emit_opcode role.bool_not) (λ r. refl)

  -- a value, and then a part that goes on with it; z is where both come to
  pub on_value_lem : {m k : Calls} {st : List ℕ} {σ : Values} (z : Option ℕ → End) (x : Option ℕ) → z none ≡ stopped σ → Does code w m st σ (valued st σ x) → ((y : ℕ) → Does code w k (y ∷ st) σ (z (some y))) → Does code w (m >> k) st σ (z x)
  unfolding valued Away
  on_value_lem {m} {k} {st} {σ} z none e p q = subst (λ r. Does code w (m >> k) st σ r) (sym e) (cut k tt p)
  on_value_lem z (some y) e p q = p ⨾ q y

  with_value_lem : {m k : Calls} {st : List ℕ} {σ : Values} (st₂ : List ℕ) (z : ℕ → Option ℕ) (x : Option ℕ) → Does code w m st σ (valued st σ x) → ((y : ℕ) → Does code w k (y ∷ st) σ (valued st₂ σ (z y)))
      → Does code w (m >> k) st σ (valued st₂ σ (with_value x z))
  unfolding valued with_value
  with_value_lem {σ = σ} st₂ z x p q = on_value_lem (λ y. valued st₂ σ (with_value y z)) x refl p q

  -- branches on the top value
  pub branch-on : (x : ℕ) (l : ℕ) (st : List ℕ) (σ : Values) → truth x ≡ true → Does code w (say (emit_jmp_if_not l)) (x ∷ st) σ (through st σ)
  unfolding called pop_one chosen
  branch-on x l st σ e = says (emit_jmp_if_not l) (λ r. ap (λ b. at (chosen b r (behind l code)) st σ) e)

  pub branch-off : (x : ℕ) (l : ℕ) (st : List ℕ) (σ : Values) → truth x ≡ false → Does code w (say (emit_jmp_if_not l)) (x ∷ st) σ (to l st σ)
  unfolding called pop_one chosen is_branch aim
  branch-off x l st σ e = jumping (emit_jmp_if_not l) refl (λ r. ap (λ b. at (chosen b r (behind l code)) st σ) e)

  pub jumps : (l : ℕ) (st : List ℕ) (σ : Values) → Does code w (say (emit_jmp l)) st σ (to l st σ)
  unfolding called is_branch aim
  jumps l st σ = jumping (emit_jmp l) refl (λ r. refl)

  pub binding : (l : ℕ) (st : List ℕ) (σ : Values) → Does code w (say (bind_label l)) st σ (through st σ)
  unfolding called
  binding l st σ = says (bind_label l) (λ r. refl)

  pub resets : (h : ℕ) (st : List ℕ) (σ : Values) → Does code w (say (reset_stack_depth h)) st σ (through st σ)
  unfolding called
  resets h st σ = says (reset_stack_depth h) (λ r. refl)

  trues : (st : List ℕ) (σ : Values) → Does code w (say (emit_opcode load_true)) st σ (through (bit true ∷ st) σ)
  unfolding called operated
  trues st σ = says (emit_opcode load_true) (λ r. refl)

  falses : (st : List ℕ) (σ : Values) → Does code w (say (emit_opcode load_false)) st σ (through (bit false ∷ st) σ)
  unfolding called operated
  falses st σ = says (emit_opcode load_false) (λ r. refl)

  -- ---- short circuit

  module _ (x y : Calls) (h alternative end v : ℕ) (st : List ℕ) (σ : Values) where
    first_way : (u : Option ℕ) → truth v ≡ true → Does code w x st σ (valued st σ u) → Does code w (ways x y h alternative end) (v ∷ st) σ (valued st σ u)
    unfolding valued Away
    first_way none e p = branch-on v alternative st σ e ⨾ cut _ tt p
    first_way (some u) e p = chain (branch-on v alternative st σ e ⨾ p ⨾ cut _ tt (jumps end (u ∷ st) σ)) (from-later _ (from-later _ (from-later _ (from-later _ (from-later _ (from-later _ (from_last good)))))))

    second_way : (u : Option ℕ) → truth v ≡ false → Does code w y st σ (valued st σ u) → Does code w (ways x y h alternative end) (v ∷ st) σ (valued st σ u)
    unfolding valued Away
    second_way u e p = chain (cut _ tt (branch-off v alternative st σ e)) (from-later _ (from-later _ (from-later _ (from-here good (resets h st σ ⨾ closed u p)))))
      where
        closed : (u : Option ℕ) → Does code w y st σ (valued st σ u) → Does code w (y >> say (bind_label end)) st σ (valued st σ u)
        closed none p = cut _ tt p
        closed (some u) p = p ⨾ binding end (u ∷ st) σ

    ways-do : (u : Bool → Option ℕ) → Does code w x st σ (valued st σ (u true)) → Does code w y st σ (valued st σ (u false)) → Does code w (ways x y h alternative end) (v ∷ st) σ (valued st σ (u (truth v)))
    ways-do u p q = go (truth v) refl
      where
        go : (t : Bool) → truth v ≡ t → Does code w (ways x y h alternative end) (v ∷ st) σ (valued st σ (u t))
        go true e = first_way (u true) e p
        go false e = second_way (u false) e q

  -- ---- expressions

  pub expr-does : (e : Expr) (h : ℕ) (st : List ℕ) (σ : Values) → Does code w (emit_expr e h) st σ (valued st σ (value_of w σ e))
  unfolding emit_expr value_of valued called operated pop_two bit short_cut
  expr-does (const k) h st σ = says (load_constant k) (λ r. refl)
  expr-does (bool true) h st σ = trues st σ
  expr-does (bool false) h st σ = falses st σ
  expr-does (read v) h st σ = says (load_variable v) (λ r. refl)
  expr-does (binary o a b) h st σ = with_value_lem st (λ x. with_value (value_of w σ b) λ y. operate w o x y) (value_of w σ a) (expr-does a h st σ)
      λ x. with_value_lem st (λ y. operate w o x y) (value_of w σ b) (expr-does b (suc h) (x ∷ st) σ) λ y. binary-does o x y st σ
  expr-does (unary o a) h st σ = with_value_lem st (λ x. some (operate_one w o x)) (value_of w σ a) (expr-does a h st σ) λ x. unary-does o x st σ
  expr-does (compare c a b) h st σ = with_value_lem st (λ x. with_value (value_of w σ b) λ y. some (bit (compared w c x y))) (value_of w σ a) (expr-does a h st σ)
      λ x. with_value_lem st (λ y. some (bit (compared w c x y))) (value_of w σ b) (expr-does b (suc h) (x ∷ st) σ) λ y. says (emit_opcode (role.compare c)) (λ r. refl)
  expr-does (short_circuit AndThen a b) h st σ = opens h λ alternative. opens (suc h) λ end. with_value_lem st (λ x. short_cut AndThen (truth x) (value_of w σ b)) (value_of w σ a) (expr-does a h st σ)
      λ x. ways-do (emit_expr b h) (say (emit_opcode load_false)) h alternative end x st σ (λ t. short_cut AndThen t (value_of w σ b)) (expr-does b h st σ) (falses st σ)
  expr-does (short_circuit OrElse a b) h st σ = opens h λ alternative. opens (suc h) λ end. with_value_lem st (λ x. short_cut OrElse (truth x) (value_of w σ b)) (value_of w σ a) (expr-does a h st σ)
      λ x. ways-do (say (emit_opcode load_true)) (emit_expr b h) h alternative end x st σ (λ t. short_cut OrElse t (value_of w σ b)) (trues st σ) (expr-does b h st σ)
  expr-does (bad f) h st σ = refuses good f
