-- Where fused conditions are emitted: a statement's test that is fused is a branch among its calls.
use Prim.Native.Nat.{ℕ}
use mathlib.Core.Path.{◌≡◌, refl, sym, ◌∙◌, ap, subst}
use mathlib.Core.List.{List, [], ◌∷◌, ◌++◌, append_assoc}
use mathlib.Core.Bool.{Bool, true, false}
use mathlib.Core.Option.{Option, some, none}
use Rattle.definition.specs.Limits.{width}
use Rattle.definition.specs.Opcode.{CompareOp, commute}
use Rattle.definition.specs.Tree.{Expr, read, compare, Stmt, Program, counts_down, bound}
use Rattle.definition.specs.Emit.{Call, emit_cmp_br}
use Rattle.definition.specs.Walk.{Calls, after, ◌>>=◌, ◌>>◌, say, new_label}
use Rattle.definition.specs.CompileExpr.{ClassifiedCmp, read_of, constant_of, zip, or_classified, classify, emit_classified_cmp_br}
use Rattle.definition.specs.Stmt.{Loops, branch_unless_by, branch_unless, end_test_by, emit_for, while_by, emit_while, repeat_by, emit_repeat, emit_loop, continues, emit_stmt, emit_block, emit_rest, emit_stmts}
use Rattle.definition.specs.For.{Emits}
use Rattle.definition.specs.Fused.{Tests, of_if, of_while, of_repeat, of_for, FusedBranch, BranchOf}
use Rattle.field.proofs.Results.{never, some_is}
use Rattle.runs.proofs.Conditions.{emitted_op, emits}

module _ (f : ClassifiedCmp) (on : Bool) where
  -- the call of a branch
  unfoldable fused_call : ℕ → Call
  fused_call l = emit_cmp_br (emitted_op f on) f.variable f.constant l

  record Within (calls : List Call) : Type 0 where
    label : ℕ
    first : List Call
    last : List Call
    is : calls ≡ first ++ (fused_call label ∷ last)

  -- a walk among whose calls is such a branch
  record Has (m : Calls) : Type 0 where
    at : (n : ℕ) → Within (m n).1

  itself : (l : ℕ) → Has (emit_classified_cmp_br f on l)
  unfolding say fused_call
  itself l = record { at = λ n. record { label = l; first = []; last = []; is = ap (λ w. (w n).1) (emits f on l) } }

  sooner : {m : Calls} (k : Calls) → Has m → Has (m >> k)
  unfolding ◌>>◌
  sooner {m = m} k h = record {
    at = λ n.
        let w = h.at n in
        let r : List Call = (k (after n (m n).1)).1 in
        record { label = w.label; first = w.first; last = w.last ++ r; is = ap (λ c. c ++ r) w.is ∙ append_assoc w.first (fused_call w.label ∷ w.last) r };
  }

  later : (m : Calls) {k : Calls} → Has k → Has (m >> k)
  unfolding ◌>>◌
  later m h = record {
    at = λ n.
        let w = h.at (after n (m n).1) in
        record { label = w.label; first = (m n).1 ++ w.first; last = w.last; is = ap (λ c. (m n).1 ++ c) w.is ∙ sym (append_assoc (m n).1 w.first (fused_call w.label ∷ w.last)) };
  }

  inside : (g : ℕ) {k : ℕ → Calls} → ((l : ℕ) → Has (k l)) → Has (new_label g >>= k)
  unfolding ◌>>=◌ new_label
  inside g h = record {
    at = λ n.
        let c = (new_label g n).1 in
        let w = (h n).at (after n c) in
        record { label = w.label; first = c ++ w.first; last = w.last; is = ap (λ x. c ++ x) w.is ∙ sym (append_assoc c w.first (fused_call w.label ∷ w.last)) };
  }

-- ---- the places

unless-has : (f : ClassifiedCmp) (x : Option ClassifiedCmp) (c : Expr) (l : ℕ) → x ≡ some f → Has f false (branch_unless_by x c l)
unfolding branch_unless_by
unless-has f (some g) c l e = subst (λ y. Has f false (emit_classified_cmp_br y false l)) (sym (some_is e)) (itself f false l)
unless-has f none c l e = never (cc)

module _ (f : ClassifiedCmp) (i : ℕ) (c : Expr) (used : Bool) (body : Loops → Calls) (loops : Loops) where
  while-has : (on : Bool) (x : Option ClassifiedCmp) (end : ℕ) → x ≡ some f → Has f on (while_by x i c end used body loops)
  unfolding while_by
  while-has false (some g) end e = later f false _ (inside f false _ λ start. sooner f false _ (subst (λ y. Has f false (emit_classified_cmp_br y false end)) (sym (some_is e)) (itself f false end)))
  while-has true (some g) end e = later f true _ (inside f true _ λ start. later f true _ (later f true _ (later f true _ (subst (λ y. Has f true (emit_classified_cmp_br y true start)) (sym (some_is e)) (itself f true start)))))
  while-has on none end e = never (cc)

  repeat-has : (x : Option ClassifiedCmp) (head end : ℕ) → x ≡ some f → Has f false (repeat_by x i c head end used body loops)
  unfolding repeat_by
  repeat-has (some g) head end e = later f false _ (later f false _ (later f false _ (subst (λ y. Has f false (emit_classified_cmp_br y false head)) (sym (some_is e)) (itself f false head))))
  repeat-has none head end e = never (cc)

-- a comparison of a variable with an end is fused where the end is a constant
end-constant : (f : ClassifiedCmp) (w : CompareOp) (v : ℕ) (to : Expr) (x : Option ℕ) → constant_of to ≡ x → classify (compare w (read v) to) ≡ some f
    → (end : ℕ) → Has f false (end_test_by x w v to end)
unfolding classify read_of constant_of or_classified zip end_test_by
end-constant f w v to (some k) p e end =
    let g : record { op = w; variable = v; constant = k } ≡ f = some_is (sym (ap (λ y. or_classified (zip w (some v) y) (zip (commute w) (read_of to) none)) p) ∙ e) in
    subst (λ y. Has f false (emit_classified_cmp_br y false end)) (sym g) (itself f false end)
end-constant f w v to none p e end = never (let q = sym (ap (λ y. or_classified (zip w (some v) y) (zip (commute w) (read_of to) none)) p ∙ none_right (read_of to)) ∙ e in cc)
  where
    none_right : (y : Option ℕ) → or_classified none (zip (commute w) y none) ≡ none
    none_right none = refl
    none_right (some z) = refl

stmt-has : (f : ClassifiedCmp) {t : Stmt} {c : Expr} {on : Bool} → Tests t c on → classify c ≡ some f → (loops : Loops) → Has f on (emit_stmt t loops)
unfolding emit_stmt branch_unless emit_loop emit_while emit_repeat emit_for
stmt-has f (of_if {c = c}) e loops = inside f false _ λ next. sooner f false _ (unless-has f (classify c) c next e)
stmt-has f (of_while {i = i} {b = b} {k = k} {c = c} on p) e loops =
    subst (λ x. Has f on (emit_loop x i (continues i b) (λ o. emit_block b o) (λ o. emit_rest b o) (λ o. emit_block k o) loops)) (sym p)
    (inside f on _ λ end. sooner f on _ (while-has f i c (continues i b) (λ o. emit_rest b o) loops on (classify c) end e))
stmt-has f (of_repeat {i = i} {b = b} {k = k} {c = c} p) e loops =
    subst (λ x. Has f false (emit_loop x i (continues i b) (λ o. emit_block b o) (λ o. emit_rest b o) (λ o. emit_block k o) loops)) (sym p)
    (inside f false _ λ head. inside f false _ λ end. sooner f false _ (repeat-has f i c (continues i b) (λ o. emit_block b o) loops (classify c) head end e))
stmt-has f (of_for {v = v} {step = step} {to = to}) e loops = later f false _ (later f false _ (inside f false _ λ head. inside f false _ λ end.
    later f false _ (sooner f false _ (end-constant f (bound (counts_down width step)) v to (constant_of to) refl e end))))

-- A test that is fused, of a statement that the program emits, is a fused branch among that statement's calls.
pub tested : (p : Program) {t : Stmt} (o : Emits p t) {c : Expr} {on : Bool} → Tests t c on → (f : ClassifiedCmp) → classify c ≡ some f → (b : FusedBranch (emit_stmts p.body 0).1) × BranchOf p o c on b
unfolding say fused_call
tested p {t = t} o {c = c} {on = on} h f e =
    let w = (stmt-has f h e o.loops).at (after 0 o.before) in
    let C : List Call = fused_call f on w.label ∷ [] in
    let all : (emit_stmts p.body 0).1 ≡ (o.before ++ w.first) ++ (C ++ (w.last ++ o.behind)) =
    o.is ∙ (ap (λ x. o.before ++ (x ++ o.behind)) w.is ∙ (ap (λ x. o.before ++ x) (append_assoc w.first (fused_call f on w.label ∷ w.last) o.behind) ∙ sym (append_assoc o.before w.first (C ++ (w.last ++ o.behind))))) in (
      record {
        condition = c;
        classified = f;
        fused = e;
        on = on;
        label = w.label;
        before = o.before ++ w.first;
        behind = w.last ++ o.behind;
        emitted = all ∙ ap (λ m. (o.before ++ w.first) ++ ((m (after 0 (o.before ++ w.first))).1 ++ (w.last ++ o.behind))) (sym (emits f on w.label));
      },
      record { its = refl; way = refl; first = w.first; last = w.last; before = refl; behind = refl },
    )
