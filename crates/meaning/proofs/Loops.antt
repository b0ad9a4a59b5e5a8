-- Loops: a turn of each, and turn by turn.
use Prim.Native.Nat.{ℕ, suc, zero}
use mathlib.Core.Path.{◌≡◌, refl, sym, ◌∙◌, ap, subst}
use mathlib.Core.List.{List, [], ◌∷◌}
use mathlib.Core.Bool.{Bool, true, false, not}
use mathlib.Core.Option.{Option, some, none}
use lib.Dec.{eqb}
use Rattle.definition.specs.Limits.{width}
use Rattle.definition.specs.Opcode.{CompareOp, Add, arithmetic}
use Rattle.definition.specs.Tree.{Expr, counts_down, bound}
use Rattle.definition.specs.Emit.{Call, bind_label, load_variable, store_variable, load_constant, add_constant, emit_opcode, emit_jmp, emit_jmp_if_not}
use Rattle.definition.specs.Walk.{Calls, ◌>>=◌, ◌>>◌, say, new_label, when}
use Rattle.definition.specs.CompileExpr.{ClassifiedCmp, classify, constant_of, emit_classified_cmp_br}
use Rattle.definition.specs.Expr.{emit_expr}
use Rattle.definition.specs.Stmt.{LoopLabels, Loops, labels, exit_of, next_of, branch_unless_by, loop_body, end_test_by, emit_for, while_by, emit_while, repeat_by, emit_repeat, emit_plain}
use Rattle.definition.specs.Iec.{truth, bit, calculate, stored, Values, compared}
use Rattle.definition.specs.Meaning.{value_of, Answer, ends, exits, continues, returns, stops, spent, on_value, Turn, again, leaves, on_turn, then_turn, turns, caught, turn_of, until, within, counted, for_turn}
use Rattle.definition.specs.Claims.{left, right}
use Rattle.field.proofs.Results.{never}
use Rattle.runs.proofs.Conditions.{asks}
use Rattle.meaning.proofs.Calls.{pop_one, pop_two, calculated, operated, called, enough, reach-then, jump-reach}
use Rattle.meaning.proofs.Walks.{End, through, to, Away, Ends, Good, Does, From, ◌⨾◌, cut, opens, silent, from-later, chain, from-chain, from_back, says, weaker, weaker', from-here, from_last, entering, closing}
use Rattle.meaning.proofs.Exprs.{valued, on_value_lem, expr-does, jumps, binding}
use Rattle.meaning.proofs.Tests.{constant-value, fused-value, truth-bit, tested_by, tested, unless-fused, when-fused, branch-does, unless-does, comparing}
use Rattle.meaning.proofs.Landing.{label_end, landing, onward, at, near, label-away, landing-by, landing-away}

-- an answer that is no CONTINUE of loop i
unfoldable pub Never : ℕ → Answer → Type 0
Never i (ends σ) = Unit {0}
Never i (exits j σ) = Unit {0}
Never i (continues j σ) = eqb i j ≡ false
Never i (returns σ) = Unit {0}
Never i (stops σ) = Unit {0}
Never i spent = Unit {0}

-- where a loop's body ends, and where a turn ends: at the loop's head, or on the way out
unfoldable pub body_end : ℕ → Loops → ℕ → Turn → End
body_end end loops f (again σ) = through [] σ
body_end end loops f (leaves a) = landing (at end) loops f a

unfoldable pub turn_end : ℕ → ℕ → Loops → ℕ → Turn → End
turn_end end head loops f (again σ) = to head [] σ
turn_end end head loops f (leaves a) = landing (near end) loops f a

abbrev own : ℕ → ℕ → ℕ → LoopLabels
own i end next = record { loop = i; exit = end; next = next }

abbrev whole : ℕ → ℕ → Bool → (Loops → Calls) → Loops → ℕ → Calls
whole i end used body loops next = body (own i end next ∷ loops) >> when used (say (bind_label next))

-- a WHILE's turn, its condition's value being v and a what is behind the first statement
unfoldable pub while_turn : Option ℕ → ℕ → Answer → Values → Turn
while_turn none i a σ = leaves (stops σ)
while_turn (some x) i a σ = elim (truth x) [ true ↦ caught i a | false ↦ leaves (ends σ) ]

pub turns-leave : (t : ℕ → Values → Turn) (f : ℕ) (σ : Values) (a : Answer) → t f σ ≡ leaves a → turns t f σ ≡ a
unfolding turns on_turn
turns-leave t zero σ a e = ap (λ x. on_turn x λ τ. spent) e
turns-leave t (suc f) σ a e = ap (λ x. on_turn x λ τ. turns t f τ) e

module _ {code : List Call} {w : ℕ} (good : Good code) (loops : Loops) where
  used-does : (used : Bool) (next : ℕ) (σ : Values) → Does code w (when used (say (bind_label next))) [] σ (through [] σ)
  unfolding when
  used-does true next σ = binding good next [] σ
  used-does false next σ = silent

  pub body-does : (i end : ℕ) (used : Bool) (body : Loops → Calls) (f : ℕ) (σ : Values) (a : Answer) → ((o : Loops) → Does code w (body o) [] σ (landing onward o f a)) → (used ≡ false → Never i a)
      → Does code w (loop_body i end used body loops) [] σ (body_end end loops f (caught i a))
  unfolding loop_body landing caught body_end labels exit_of next_of label_end Never when Away
  body-does i end used body f σ a p q = opens 0 λ next. go next a (p (record { loop = i; exit = end; next = next } ∷ loops)) q
    where
      exiting : (next : ℕ) (τ : Values) (j : ℕ) (b : Bool) → Does code w (body (own i end next ∷ loops)) [] σ (label_end (exit_of (elim b [ true ↦ some (own i end next) | false ↦ labels j loops ])) τ)
          → Does code w (whole i end used body loops next) [] σ (body_end end loops f (elim b [ true ↦ leaves (ends τ) | false ↦ leaves (exits j τ) ]))
      exiting next τ j true r = cut _ tt r
      exiting next τ j false r = cut _ (label-away (exit_of (labels j loops)) τ) r

      passed : (next : ℕ) (τ : Values) (u : Bool) → (u ≡ false → ◌≡◌ {A = Bool} true false) → From code w next (when u (say (bind_label next))) [] τ (through [] τ)
      passed next τ true n = from_last good
      passed next τ false n = never (let z = n refl in cc)

      continuing : (next : ℕ) (τ : Values) (j : ℕ) (b : Bool) → (used ≡ false → b ≡ false) → Does code w (body (own i end next ∷ loops)) [] σ (label_end (next_of (elim b [ true ↦ some (own i end next) | false ↦ labels j loops ])) τ)
          → Does code w (whole i end used body loops next) [] σ (body_end end loops f (elim b [ true ↦ again τ | false ↦ leaves (continues j τ) ]))
      continuing next τ j true n r = chain (cut _ tt r) (from-later _ (passed next τ used n))
      continuing next τ j false n r = cut _ (label-away (next_of (labels j loops)) τ) r

      go : (next : ℕ) (a : Answer) → Does code w (body (own i end next ∷ loops)) [] σ (landing onward (own i end next ∷ loops) f a) → (used ≡ false → Never i a) → Does code w (whole i end used body loops next) [] σ (body_end end loops f (caught i a))
      go next (ends τ) r n = r ⨾ used-does used next τ
      go next (exits j τ) r n = exiting next τ j (eqb i j) r
      go next (continues j τ) r n = continuing next τ j (eqb i j) n r
      go next (returns τ) r n = cut _ tt r
      go next (stops τ) r n = cut _ tt r
      go next spent r n = cut _ tt r

  -- ---- ends

  pub nearer : {m : Calls} {σ : Values} (f : ℕ) (end : ℕ) (a : Answer) → Does code w m [] σ (landing (at end) loops f a) → Does code w m [] σ (landing (near end) loops f a)
  nearer {m} {σ} f end a p = landing-by loops f (Does code w m [] σ) (Does code w m [] σ) (at end) (near end) a (λ τ r. weaker' r) (λ x k r. r) p

  -- a body that leaves the loop, whatever is behind it in the turn
  left_so : {m : Calls} {σ : Values} (k : Calls) (f end : ℕ) (a : Answer) → Does code w m [] σ (landing (at end) loops f a) → Does code w (m >> k) [] σ (landing (near end) loops f a)
  left_so k f end a p = nearer f end a (cut k (landing-away end loops f a) p)

  -- the loop's end is bound behind it
  pub ended : {m : Calls} {σ : Values} (f : ℕ) (end : ℕ) (a : Answer) → Does code w m [] σ (landing (near end) loops f a) → Does code w (m >> say (bind_label end)) [] σ (landing onward loops f a)
  ended {m} {σ} f end a p = landing-by loops f (Does code w m [] σ) (Does code w (m >> say (bind_label end)) [] σ) (near end) onward a (λ τ r. closing good r) (λ x k r. cut _ k r) p

  -- ---- turn by turn

  grown : {m : Calls} {σ τ : Values} (head : ℕ) (z : Values → End) (f : ℕ) (a : Answer) → From code w head m [] σ (to head [] τ) → From code w head m [] τ (landing z loops f a) → From code w head m [] σ (landing z loops (suc f) a)
  unfolding landing
  grown head z f (ends υ) p q = from-chain p q
  grown head z f (exits i υ) p q = from-chain p q
  grown head z f (continues i υ) p q = from-chain p q
  grown head z f (returns υ) p q = from-chain p q
  grown head z f (stops υ) p q = from-chain p q
  grown head z f spent p q = from_back p q

  pub turns-do : (m : Calls) (head end : ℕ) (t : ℕ → Values → Turn) → ((f : ℕ) (σ : Values) → From code w head m [] σ (turn_end end head loops f (t f σ)))
      → (f : ℕ) (σ : Values) → From code w head m [] σ (landing (near end) loops f (turns t f σ))
  unfolding turns on_turn turn_end landing Ends
  turns-do m head end t p zero σ = go (t zero σ) (p zero σ)
    where
      go : (x : Turn) → From code w head m [] σ (turn_end end head loops 0 x) → From code w head m [] σ (landing (near end) loops 0 (on_turn x λ τ. spent))
      go (again τ) q = record { run = λ n post pre e. enough }
      go (leaves a) q = q
  turns-do m head end t p (suc f) σ = go (t (suc f) σ) (p (suc f) σ) (λ τ. turns-do m head end t p f τ)
    where
      go : (x : Turn) → From code w head m [] σ (turn_end end head loops (suc f) x) → ((τ : Values) → From code w head m [] τ (landing (near end) loops f (turns t f τ)))
          → From code w head m [] σ (landing (near end) loops (suc f) (on_turn x λ τ. turns t f τ))
      go (again τ) q r = grown head (near end) f (turns t f τ) q (r τ)
      go (leaves a) q r = q

  -- a body, and what is behind it in the turn
  on-turn : {m k : Calls} {σ : Values} (f head end : ℕ) (x : Turn) (h : Values → Turn) → Does code w m [] σ (body_end end loops f x) → ((τ : Values) → Does code w k [] τ (turn_end end head loops f (h τ)))
      → Does code w (m >> k) [] σ (turn_end end head loops f (then_turn x h))
  unfolding body_end turn_end then_turn
  on-turn f head end (again τ) h p q = p ⨾ q τ
  on-turn f head end (leaves a) h p q = left_so _ f end a p

  -- the loop's end is bound in it
  settled : {m : Calls} {σ : Values} (f : ℕ) (end : ℕ) (a : Answer) → Does code w m [] σ (landing (near end) loops f a) → ((τ : Values) → From code w end m [] τ (through [] τ)) → Does code w m [] σ (landing onward loops f a)
  unfolding Ends
  settled {m} {σ} f end a p q = landing-by loops f (Does code w m [] σ) (Does code w m [] σ) (near end) onward a
      (λ τ d. record { run = λ n post pre e. elim (d.run n post pre e) [ left r ↦ r | right j ↦ reach-then code w (jump-reach code w j) ((q τ).run n post pre e) ] }) (λ x k r. r) p

  -- ---- a plain loop

  from-outside : {m : Calls} {σ : Values} (k : Calls) (f head end : ℕ) (a : Answer) → Does code w m [] σ (landing onward loops f a) → Does code w (m >> (say (emit_jmp head) >> k)) [] σ (turn_end end head loops f (turn_of a))
  unfolding turn_of turn_end landing Away
  from-outside k f head end (ends τ) p = p ⨾ cut _ tt (jumps good head [] τ)
  from-outside k f head end (exits i τ) p = cut _ (label-away _ τ) p
  from-outside k f head end (continues i τ) p = cut _ (label-away _ τ) p
  from-outside k f head end (returns τ) p = cut _ tt p
  from-outside k f head end (stops τ) p = cut _ tt p
  from-outside k f head end spent p = cut _ tt p

  module _ (i : ℕ) (used : Bool) (body : Loops → Calls) (b : ℕ → Values → Answer) (does : (o : Loops) (f : ℕ) (σ : Values) → Does code w (body o) [] σ (landing onward o f (b f σ)))
      (idle : (f : ℕ) (σ : Values) → used ≡ false → Never i (b f σ)) where
    its-body : (end f : ℕ) (σ : Values) → Does code w (loop_body i end used body loops) [] σ (body_end end loops f (caught i (b f σ)))
    its-body end f σ = body-does i end used body f σ (b f σ) (λ o. does o f σ) (idle f σ)

    pub plain-does : (continuing : Loops → Calls) (c : ℕ → Values → Answer) → ((f : ℕ) (σ : Values) → Does code w (continuing loops) [] σ (landing onward loops f (c f σ)))
        → (f : ℕ) (σ : Values) → Does code w (emit_plain i used body continuing loops) [] σ (landing onward loops f (turns (λ g τ. then_turn (caught i (b g τ)) λ υ. turn_of (c g υ)) f σ))
    unfolding emit_plain
    plain-does continuing c out f σ = opens 0 λ head. opens 0 λ end.
        settled f end _
        (entering good _ (turns-do _ head end _
        (λ g τ. from-here good (on-turn g head end (caught i (b g τ)) _ (its-body end g τ) (λ υ. from-outside _ g head end (c g υ) (out g υ)))) f σ))
        (λ τ. from-later _ (from-later _ (from-later _ (from-later _ (from_last good)))))

    -- ---- FOR

    end_test : (x : Option ℕ) (c : CompareOp) (v : ℕ) (last : Expr) (end f : ℕ) (σ : Values) → constant_of last ≡ x → Does code w (end_test_by x c v last end) [] σ (body_end end loops f (within w c (σ v) (value_of w σ last) σ))
    unfolding end_test_by within body_end landing tested_by asks valued called Away truth bit
    end_test (some k) c v last end f σ e = subst (λ y. Does code w (emit_classified_cmp_br (record { op = c; variable = v; constant = k }) false end) [] σ (body_end end loops f (within w c (σ v) y σ))) (sym (constant-value w σ last k e))
        (go (compared w c (σ v) k) (unless-fused good (record { op = c; variable = v; constant = k }) end σ))
      where
        go : (t : Bool) → Does code w (emit_classified_cmp_br (record { op = c; variable = v; constant = k }) false end) [] σ (tested_by end [] σ t)
            → Does code w (emit_classified_cmp_br (record { op = c; variable = v; constant = k }) false end) [] σ (body_end end loops f (elim t [ true ↦ again σ | false ↦ leaves (ends σ) ]))
        go true p = p
        go false p = p
    end_test none c v last end f σ e = says (load_variable v) (λ r. refl) ⨾ on_value_lem good (λ y. body_end end loops f (within w c (σ v) y σ)) (value_of w σ last) refl (expr-does good last 1 (σ v ∷ []) σ) (λ y. comparing good c (σ v) y [] σ ⨾ by (compared w c (σ v) y))
      where
        by : (t : Bool) → Does code w (say (emit_jmp_if_not end)) (bit t ∷ []) σ (body_end end loops f (elim t [ true ↦ again σ | false ↦ leaves (ends σ) ]))
        by true = branch-does good (bit true) end [] σ
        by false = branch-does good (bit false) end [] σ

    counts : (k : Calls) (v step head : ℕ) (σ : Values) → Does code w (say (load_variable v) >> (say (load_constant step) >> (say (emit_opcode (arithmetic Add)) >> (say (store_variable v) >> (say (emit_jmp head) >> k))))) [] σ (to head [] (counted w v step σ))
    unfolding called operated pop_one pop_two calculated calculate counted Away
    counts k v step head σ = says (load_variable v) (λ r. refl) ⨾ says (load_constant step) (λ r. refl) ⨾ says (emit_opcode (arithmetic Add)) (λ r. refl) ⨾ says (store_variable v) (λ r. refl) ⨾ cut _ tt (jumps good head [] _)

    pub for-does : width ≡ w → (v step : ℕ) (from last : Expr) (f : ℕ) (σ : Values)
        → Does code w (emit_for i v step from last used body loops) [] σ (landing onward loops f (on_value (value_of w σ from) σ λ x. turns (for_turn w i v step last b) f (stored σ v x)))
    unfolding emit_for on_value valued landing called pop_one for_turn turn_end Away
    for-does same v step from last f σ = on_value_lem good (λ x. landing onward loops f (on_value x σ λ y. turns (for_turn w i v step last b) f (stored σ v y))) (value_of w σ from) refl (expr-does good from 0 [] σ)
        (λ y. says (store_variable v) (λ r. refl) ⨾ looped (stored σ v y))
      where
        looped : (τ : Values) → Does code w (new_label 0 >>= λ head. new_label 0 >>= λ end. say (bind_label head) >> (end_test_by (constant_of last) (bound (counts_down width step)) v last end >> (loop_body i end used body loops >> (say (load_variable v) >> (say (load_constant step) >> (say (emit_opcode (arithmetic Add)) >> (say (store_variable v) >> (say (emit_jmp head) >> say (bind_label end)))))))))
            [] τ (landing onward loops f (turns (for_turn w i v step last b) f τ))
        looped τ = opens 0 λ head. opens 0 λ end.
            settled f end (turns (for_turn w i v step last b) f τ)
            (entering good _ (turns-do _ head end (for_turn w i v step last b)
            (λ g υ. from-here good (on-turn g head end (within w (bound (counts_down w step)) (υ v) (value_of w υ last) υ) (λ ρ. then_turn (caught i (b g ρ)) λ π. again (counted w v step π))
            (subst (λ n. Does code w (end_test_by (constant_of last) (bound (counts_down width step)) v last end) [] υ (body_end end loops g (within w (bound (counts_down n step)) (υ v) (value_of w υ last) υ))) same
            (end_test (constant_of last) (bound (counts_down width step)) v last end g υ refl))
            (λ ρ. on-turn g head end (caught i (b g ρ)) (λ π. again (counted w v step π)) (its-body end g ρ) (λ π. counts _ v step head π)))) f τ))
            (λ υ. from-later _ (from-later _ (from-later _ (from-later _ (from-later _ (from-later _ (from-later _ (from-later _ (from_last good)))))))))

    -- ---- REPEAT

    test-turn : (x : Option ClassifiedCmp) (c : Expr) (head end f : ℕ) (σ : Values) → classify c ≡ x → Does code w (branch_unless_by x c head) [] σ (turn_end end head loops f (until (value_of w σ c) σ))
    unfolding until turn_end landing tested tested_by
    test-turn x c head end f σ e = go (value_of w σ c) (unless-does good x c head σ e)
      where
        by : (t : Bool) → Does code w (branch_unless_by x c head) [] σ (tested_by head [] σ t) → Does code w (branch_unless_by x c head) [] σ (turn_end end head loops f (elim t [ true ↦ leaves (ends σ) | false ↦ again σ ]))
        by true p = weaker p
        by false p = p

        go : (v : Option ℕ) → Does code w (branch_unless_by x c head) [] σ (tested head σ v) → Does code w (branch_unless_by x c head) [] σ (turn_end end head loops f (until v σ))
        go none p = p
        go (some y) p = by (truth y) p

    repeat-turns : (x : Option ClassifiedCmp) (c : Expr) (head end f : ℕ) (σ : Values) → classify c ≡ x
        → Does code w (say (bind_label head) >> (loop_body i end used body loops >> branch_unless_by x c head)) [] σ (landing (near end) loops f (turns (λ g τ. then_turn (caught i (b g τ)) λ υ. until (value_of w υ c) υ) f σ))
    repeat-turns x c head end f σ e = entering good _ (turns-do _ head end _ (λ g τ. from-here good (on-turn g head end (caught i (b g τ)) _ (its-body end g τ) (λ υ. test-turn x c head end g υ e))) f σ)

    repeatBy-does : (x : Option ClassifiedCmp) (c : Expr) (head end f : ℕ) (σ : Values) → classify c ≡ x
        → Does code w (repeat_by x i c head end used body loops) [] σ (landing (near end) loops f (turns (λ g τ. then_turn (caught i (b g τ)) λ υ. until (value_of w υ c) υ) f σ))
    unfolding repeat_by branch_unless_by called
    repeatBy-does (some k) c head end f σ e = says (add_constant k.constant) (λ r. refl) ⨾ repeat-turns (some k) c head end f σ e
    repeatBy-does none c head end f σ e = repeat-turns none c head end f σ e

    pub repeat-does : (c : Expr) (f : ℕ) (σ : Values) → Does code w (emit_repeat i c used body loops) [] σ (landing onward loops f (turns (λ g τ. then_turn (caught i (b g τ)) λ υ. until (value_of w υ c) υ) f σ))
    unfolding emit_repeat
    repeat-does c f σ = opens 0 λ head. opens 0 λ end. ended f end _ (repeatBy-does (classify c) c head end f σ refl)

    -- ---- WHILE: b is what its body means without its first statement

    back-turn : (m : Calls) (head end f : ℕ) (σ : Values) (x : Turn) → Does code w m [] σ (body_end end loops f x) → Does code w (m >> say (emit_jmp head)) [] σ (turn_end end head loops f x)
    unfolding body_end turn_end
    back-turn m head end f σ (again τ) p = p ⨾ jumps good head [] τ
    back-turn m head end f σ (leaves a) p = left_so _ f end a p

    module _ (c : Expr) (t : ℕ → Values → Turn) (is : (f : ℕ) (σ : Values) → t f σ ≡ while_turn (value_of w σ c) i (b f σ) σ) where
      unfused-turn : (head end f : ℕ) (σ : Values) → Does code w (emit_expr c 0 >> (say (emit_jmp_if_not end) >> (loop_body i end used body loops >> say (emit_jmp head)))) [] σ (turn_end end head loops f (t f σ))
      unfolding while_turn turn_end landing valued tested_by Away
      unfused-turn head end f σ = subst (λ x. Does code w (emit_expr c 0 >> (say (emit_jmp_if_not end) >> (loop_body i end used body loops >> say (emit_jmp head)))) [] σ (turn_end end head loops f x)) (sym (is f σ))
          (on_value_lem good (λ v. turn_end end head loops f (while_turn v i (b f σ) σ)) (value_of w σ c) refl (expr-does good c 0 [] σ) (λ y. by (y ∷ []) (truth y) (branch-does good y end [] σ)))
        where
          by : (st : List ℕ) (u : Bool) → Does code w (say (emit_jmp_if_not end)) st σ (tested_by end [] σ u)
              → Does code w (say (emit_jmp_if_not end) >> (loop_body i end used body loops >> say (emit_jmp head))) st σ (turn_end end head loops f (elim u [ true ↦ caught i (b f σ) | false ↦ leaves (ends σ) ]))
          by st true p = p ⨾ back-turn _ head end f σ (caught i (b f σ)) (its-body end f σ)
          by st false p = weaker' (cut _ tt p)

      -- the fused test, at the end of each turn, and once before the first
      module _ (k : ClassifiedCmp) (fused : classify c ≡ some k) where
        turn_is : (f : ℕ) (σ : Values) (u : Bool) → asks w σ k ≡ u → t f σ ≡ elim u [ true ↦ caught i (b f σ) | false ↦ leaves (ends σ) ]
        unfolding while_turn
        turn_is f σ u e = is f σ ∙ (ap (λ v. while_turn v i (b f σ) σ) (fused-value w σ c k fused) ∙ ap (λ (v : Bool). elim v [ true ↦ caught i (b f σ) | false ↦ leaves (ends σ) ]) (truth-bit (asks w σ k) ∙ e))

        abbrev again-calls : ℕ → ℕ → Calls
        again-calls start end = say (bind_label start) >> (loop_body i end used body loops >> emit_classified_cmp_br k true start)

        fused-turns : (start end f : ℕ) (σ : Values) → asks w σ k ≡ true → From code w start (again-calls start end) [] σ (landing (near end) loops f (turns t f σ))
        unfolding turns on_turn body_end landing tested_by Ends
        fused-turns start end zero σ e =
            subst (λ x. From code w start (again-calls start end) [] σ (landing (near end) loops 0 (on_turn x λ τ. spent))) (sym (turn_is zero σ true e)) (go (caught i (b zero σ)) (its-body end zero σ))
          where
            go : (x : Turn) → Does code w (loop_body i end used body loops) [] σ (body_end end loops 0 x) → From code w start (again-calls start end) [] σ (landing (near end) loops 0 (on_turn x λ τ. spent))
            go (again τ) p = record { run = λ n post pre e. enough }
            go (leaves a) p = from-here good (left_so _ 0 end a p)
        fused-turns start end (suc f) σ e =
            subst (λ x. From code w start (again-calls start end) [] σ (landing (near end) loops (suc f) (on_turn x λ τ. turns t f τ))) (sym (turn_is (suc f) σ true e))
            (go (caught i (b (suc f) σ)) (its-body end (suc f) σ) (λ τ q. fused-turns start end f τ q))
          where
            by : (τ : Values) (u : Bool) → asks w τ k ≡ u → Does code w (loop_body i end used body loops) [] σ (through [] τ) → (asks w τ k ≡ true → From code w start (again-calls start end) [] τ (landing (near end) loops f (turns t f τ)))
                → Does code w (emit_classified_cmp_br k true start) [] τ (tested_by start [] τ (not u)) → From code w start (again-calls start end) [] σ (landing (near end) loops (suc f) (turns t f τ))
            by τ true q p r d = grown start (near end) f (turns t f τ) (from-here good (p ⨾ d)) (r q)
            by τ false q p r d = subst (λ a. From code w start (again-calls start end) [] σ (landing (near end) loops (suc f) a)) (sym (turns-leave t f τ (ends τ) (turn_is f τ false q))) (from-here good (weaker (p ⨾ d)))

            go : (x : Turn) → Does code w (loop_body i end used body loops) [] σ (body_end end loops (suc f) x) → ((τ : Values) → asks w τ k ≡ true → From code w start (again-calls start end) [] τ (landing (near end) loops f (turns t f τ)))
                → From code w start (again-calls start end) [] σ (landing (near end) loops (suc f) (on_turn x λ τ. turns t f τ))
            go (again τ) p r = by τ (asks w τ k) refl p (r τ) (when-fused good k start τ)
            go (leaves a) p r = from-here good (left_so _ (suc f) end a p)

        fused-while : (end f : ℕ) (σ : Values) → Does code w (while_by (some k) i c end used body loops) [] σ (landing (near end) loops f (turns t f σ))
        unfolding while_by called landing tested_by Away
        fused-while end f σ = says (add_constant k.constant) (λ r. refl) ⨾ opens 0 (λ start. go start (asks w σ k) refl (unless-fused good k end σ))
          where
            go : (start : ℕ) (u : Bool) → asks w σ k ≡ u → Does code w (emit_classified_cmp_br k false end) [] σ (tested_by end [] σ u)
                → Does code w (emit_classified_cmp_br k false end >> again-calls start end) [] σ (landing (near end) loops f (turns t f σ))
            go start true q d = d ⨾ entering good _ (fused-turns start end f σ q)
            go start false q d = subst (λ a. Does code w (emit_classified_cmp_br k false end >> again-calls start end) [] σ (landing (near end) loops f a)) (sym (turns-leave t f σ (ends σ) (turn_is f σ false q))) (weaker' (cut _ tt d))

      whileBy-does : (x : Option ClassifiedCmp) (end f : ℕ) (σ : Values) → classify c ≡ x → Does code w (while_by x i c end used body loops) [] σ (landing (near end) loops f (turns t f σ))
      unfolding while_by
      whileBy-does (some k) end f σ e = fused-while k e end f σ
      whileBy-does none end f σ e = opens 0 λ head. entering good _ (turns-do _ head end t (λ g τ. from-here good (unfused-turn head end g τ)) f σ)

      pub while-does : (f : ℕ) (σ : Values) → Does code w (emit_while i c used body loops) [] σ (landing onward loops f (turns t f σ))
      unfolding emit_while
      while-does f σ = opens 0 λ end. ended f end _ (whileBy-does (classify c) end f σ refl)
