-- Fused comparisons: a condition that is fused branches exactly as IEC 61131-3's comparison of it, as it is written, says (`fused`); and the
-- bytes that are emitted for it.
use Prim.Native.Nat.{ℕ, suc, ◌<◌, zero-le, suc-le-suc}
use mathlib.Core.Path.{◌≡◌, refl, sym, ◌∙◌, ap, subst}
use mathlib.Core.List.{List, [], ◌∷◌, ◌++◌}
use mathlib.Core.Bool.{Bool, true, false, not}
use mathlib.Core.Option.{Option, some, none}
use lib.Dec.{eqb, ltb}
use lib.ListN.{length, get_or}
use borrow.Author.Tests.{eqb-true, eq-eqb, ltb-true}
use native.Mathlib.Nat.{le_of_suc-le-suc, not-suc-le-zero}
use Rattle.definition.specs.Res.{ok}
use Rattle.definition.specs.Opcode.{CompareOp, negate, commute, cmp_br, Sheet, opcode, comparison_byte}
use Rattle.definition.specs.Iec.{signed_of, iec, taken}
use Rattle.definition.specs.Tree.{Expr, const, bool, read, binary, unary, compare, short_circuit, bad}
use Rattle.definition.specs.Emit.{Emitter, PendingPatch, cmp_br_operand_delta, other, le16, index_of, with_constant, pooled_if, pooled, added, patched, branch, act, emit_cmp_br}
use Rattle.definition.specs.Walk.{say}
use Rattle.definition.specs.CompileExpr.{ClassifiedCmp, read_of, constant_of, zip, or_classified, classify, emit_classified_cmp_br}
use Rattle.opcode.specs.Table.{Good}
use Rattle.opcode.proofs.Branches.{iec-negate, iec-commute, taken-iec}
use Rattle.definition.specs.Fused.{side, holds, goes}
use Rattle.field.proofs.Results.{never, ok-demand, ok-bind, ok-is}
use Rattle.runs.proofs.Emitted.{add_ok}

-- ---- what is fused: a variable and a constant, on the one side or on the other

pub read_is : (a : Expr) (v : ℕ) → read_of a ≡ some v → a ≡ read v
unfolding read_of
read_is (const k) v e = never (cc)
read_is (bool b) v e = never (cc)
read_is (read w) v e = cc
read_is (binary o a b) v e = never (cc)
read_is (unary o a) v e = never (cc)
read_is (compare c a b) v e = never (cc)
read_is (short_circuit o a b) v e = never (cc)
read_is (bad f) v e = never (cc)

pub constant-is : (a : Expr) (k : ℕ) → constant_of a ≡ some k → a ≡ const k
unfolding constant_of
constant-is (const j) k e = cc
constant-is (bool b) k e = never (cc)
constant-is (read w) k e = never (cc)
constant-is (binary o a b) k e = never (cc)
constant-is (unary o a) k e = never (cc)
constant-is (compare c a b) k e = never (cc)
constant-is (short_circuit o a b) k e = never (cc)
constant-is (bad f) k e = never (cc)

pub data Sides : ClassifiedCmp → Expr → Type 0 where
  straight : (c : CompareOp) (v k : ℕ) → Sides (record { op = c; variable = v; constant = k }) (compare c (read v) (const k))
  mirrored : (c : CompareOp) (v k : ℕ) → Sides (record { op = commute c; variable = v; constant = k }) (compare c (const k) (read v))

swapped : (c : CompareOp) (a b : Expr) (f : ClassifiedCmp) (z u : Option ℕ) → read_of b ≡ z → constant_of a ≡ u → zip (commute c) z u ≡ some f → Sides f (compare c a b)
unfolding zip
swapped c a b f (some v) (some k) r t e =
    let g : f ≡ record { op = commute c; variable = v; constant = k } = cc in
    rw (g, constant-is a k t, read_is b v r) (mirrored c v k)
swapped c a b f (some v) none r t e = never (cc)
swapped c a b f none u r t e = never (cc)

by-sides : (c : CompareOp) (a b : Expr) (f : ClassifiedCmp) (x y z u : Option ℕ) → read_of a ≡ x → constant_of b ≡ y → read_of b ≡ z → constant_of a ≡ u → or_classified (zip c x y) (zip (commute c) z u) ≡ some f → Sides f (compare c a b)
unfolding or_classified zip
by-sides c a b f (some v) (some k) z u p q r t e =
    let g : f ≡ record { op = c; variable = v; constant = k } = cc in
    rw (g, read_is a v p, constant-is b k q) (straight c v k)
by-sides c a b f (some v) none z u p q r t e = swapped c a b f z u r t e
by-sides c a b f none y z u p q r t e = swapped c a b f z u r t e

pub sides : (c : Expr) (f : ClassifiedCmp) → classify c ≡ some f → Sides f c
unfolding classify
sides (const k) f e = never (cc)
sides (bool b) f e = never (cc)
sides (read v) f e = never (cc)
sides (binary o a b) f e = never (cc)
sides (unary o a) f e = never (cc)
sides (compare c a b) f e = by-sides c a b f (read_of a) (constant_of b) (read_of b) (constant_of a) refl refl refl refl e
sides (short_circuit o a b) f e = never (cc)
sides (bad g) f e = never (cc)

-- ---- classification keeps what the condition says

unfoldable pub asks : ℕ → (ℕ → ℕ) → ClassifiedCmp → Bool
asks w values f = iec f.op (signed_of w (values f.variable)) (signed_of w f.constant)

says : (w : ℕ) (values : ℕ → ℕ) (c : Expr) (f : ClassifiedCmp) → Sides f c → asks w values f ≡ holds w values c
unfolding asks holds side
says w values c f (straight o v k) = refl
says w values c f (mirrored o v k) = iec-commute o (signed_of w (values v)) (signed_of w k)

classified : (w : ℕ) (values : ℕ → ℕ) (c : Expr) (f : ClassifiedCmp) → classify c ≡ some f → asks w values f ≡ holds w values c
classified w values c f e = says w values c f (sides c f e)

-- ---- the law

-- the comparison of the branch that is emitted, on true or on false
unfoldable pub emitted_op : ClassifiedCmp → Bool → CompareOp
emitted_op f true = f.op
emitted_op f false = negate f.op

pub emits : (f : ClassifiedCmp) (on : Bool) (target : ℕ) → emit_classified_cmp_br f on target ≡ say (emit_cmp_br (emitted_op f on) f.variable f.constant target)
unfolding emit_classified_cmp_br emitted_op
emits f true target = refl
emits f false target = refl

-- For a condition that is fused, the branch, with the comparison byte that is emitted for it, is taken exactly when IEC's comparison of
-- the condition as it is written holds, branching on true, or does not hold, branching on false.
pub fused : {s : Sheet} → Good s → (c : Expr) (f : ClassifiedCmp) → classify c ≡ some f → (w : ℕ) (values : ℕ → ℕ) (on : Bool)
    → taken s w (comparison_byte s (emitted_op f on)) (values f.variable) f.constant ≡ goes on (holds w values c)
unfolding emitted_op goes asks
fused g c f e w values true = taken-iec g f.op w (values f.variable) f.constant ∙ classified w values c f e
fused g c f e w values false = taken-iec g (negate f.op) w (values f.variable) f.constant
    ∙ (iec-negate f.op (signed_of w (values f.variable)) (signed_of w f.constant) ∙ ap not (classified w values c f e))

-- ---- the branch in the code: comparison byte, variable, and an index at which the pool holds the constant

-- a constant stands at its index
pub indexed : (k : ℕ) (xs : List ℕ) → index_of k xs < length xs → get_or xs (index_of k xs) 0 ≡ k
unfolding index_of
indexed k [] lt = absurd (not-suc-le-zero lt)
indexed k (x ∷ xs) lt = by (eqb x k) refl lt (indexed k xs)
  where
    by : (b : Bool) → eqb x k ≡ b → elim b [ true ↦ 0 | false ↦ suc (index_of k xs) ] < length (x ∷ xs) → (index_of k xs < length xs → get_or xs (index_of k xs) 0 ≡ k)
        → get_or (x ∷ xs) (elim b [ true ↦ 0 | false ↦ suc (index_of k xs) ]) 0 ≡ k
    by true p l f = eqb-true x k p
    by false p l f = f (le_of_suc-le-suc l)

pub index-last : (k : ℕ) (xs : List ℕ) → index_of k (xs ++ (k ∷ [])) < length (xs ++ (k ∷ []))
unfolding index_of
index-last k [] = subst (λ b. elim b as (λ c. ℕ) [ true ↦ 0 | false ↦ 1 ] < 1) (sym (eq-eqb k k refl)) (suc-le-suc zero-le)
index-last k (x ∷ xs) = by (eqb x k) (index-last k xs)
  where
    by : (b : Bool) → index_of k (xs ++ (k ∷ [])) < length (xs ++ (k ∷ [])) → elim b [ true ↦ 0 | false ↦ suc (index_of k (xs ++ (k ∷ []))) ] < suc (length (xs ++ (k ∷ [])))
    by true l = suc-le-suc zero-le
    by false l = suc-le-suc l

-- a constant that is pooled: it has an index in the pool, and the rest is as it was
record Pools (k : ℕ) (e e' : Emitter) : Type 0 where
  code : e'.bytecode ≡ e.bytecode
  patches : e'.patches ≡ e.patches
  inside : index_of k e'.constants < length e'.constants

pools : (b : Bool) (k : ℕ) (e e' : Emitter) → ltb (index_of k e.constants) (length e.constants) ≡ b → pooled_if b k e ≡ ok e' → Pools k e e'
unfolding pooled_if with_constant
pools true k e e' t p = subst (λ x. Pools k e x) (sym (ok-is p)) (record { code = refl; patches = refl; inside = ltb-true _ _ t })
pools false k e e' t p = subst (λ x. Pools k e x) (sym (ok-is (ok-demand _ _ _ _ e' p).1)) (record { code = refl; patches = refl; inside = index-last k e.constants })

-- the branch's bytes
unfoldable pub fused_bytes : Sheet → CompareOp → ℕ → ℕ → List ℕ
fused_bytes s op variable index = opcode s cmp_br ∷ comparison_byte s op ∷ ((le16 variable ++ le16 index) ++ le16 0)

unfoldable pub fused_patch : Emitter → ℕ → PendingPatch
fused_patch e l = record { instruction_offset = length e.bytecode; operand_delta = cmp_br_operand_delta; label = l }

pub record Coded (s : Sheet) (op : CompareOp) (variable constant label : ℕ) (e e' : Emitter) : Type 0 where
  pub index : ℕ
  pub inside : index < length e'.constants
  pub pool : get_or e'.constants index 0 ≡ constant
  pub bytes : e'.bytecode ≡ e.bytecode ++ fused_bytes s op variable index
  pub patches : e'.patches ≡ e.patches ++ (fused_patch e label ∷ [])
  pub last : e'.last ≡ other

pub coded : (s : Sheet) (op : CompareOp) (v k l : ℕ) (e e' : Emitter) → act s (emit_cmp_br op v k l) e ≡ ok e' → Coded s op v k l e e'
unfolding act branch pooled patched added fused_bytes fused_patch
coded s op v k l e e' p =
    let a = ok-bind _ _ e' p in
    let i = pools _ k e a.0 refl a.1 in
    let b = ok-bind _ _ e' a.2 in
    let q = add_ok s cmp_br _ other a.0 b.0 b.1 in
    let P : PendingPatch = record { instruction_offset = length a.0.bytecode; operand_delta = cmp_br_operand_delta; label = l } in
    let w : e' ≡ patched P (added s cmp_br _ other q.0 a.0) = ok-is b.2 ∙ ap (λ x. patched P x) q.1 in
    record {
      index = index_of k a.0.constants;
      inside = subst (λ (x : Emitter). index_of k a.0.constants < length x.constants) (sym w) i.inside;
      pool = ap (λ (x : Emitter). get_or x.constants (index_of k a.0.constants) 0) w ∙ indexed k a.0.constants i.inside;
      bytes = ap (λ (x : Emitter). x.bytecode) w ∙ ap (λ x. x ++ (opcode s cmp_br ∷ comparison_byte s op ∷ ((le16 v ++ le16 (index_of k a.0.constants)) ++ le16 0))) i.code;
      patches = ap (λ (x : Emitter). x.patches) w ∙ (ap (λ x. x ++ (P ∷ [])) i.patches
          ∙ ap (λ x. e.patches ++ (record { instruction_offset = length x; operand_delta = cmp_br_operand_delta; label = l } ∷ [])) i.code);
      last = ap (λ (x : Emitter). x.last) w;
    }
