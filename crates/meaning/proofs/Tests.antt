-- Tests that branch: a condition, fused or not; and a CASE's labels.
use Prim.Native.Nat.{ℕ}
use mathlib.Core.Path.{◌≡◌, refl, sym, ap, subst}
use mathlib.Core.List.{List, [], ◌∷◌}
use mathlib.Core.Bool.{Bool, true, false, not, ◌&&◌}
use mathlib.Core.Option.{Option, some, none}
use Rattle.definition.specs.Opcode.{CompareOp, Eq, Le, Ge, negate, dup}
use Rattle.definition.specs.Opcode as role
use Rattle.definition.specs.Iec.{signed_of, truth, bit, Values, compared}
use Rattle.definition.specs.Tree.{Expr, CaseLabel, value, range, bad_label}
use Rattle.definition.specs.Emit.{Call, bind_label, load_constant, emit_opcode, emit_jmp, emit_jmp_if_not, emit_cmp_br}
use Rattle.definition.specs.Walk.{Calls, ◌>>◌, say}
use Rattle.definition.specs.CompileExpr.{ClassifiedCmp, constant_of, classify, emit_classified_cmp_br}
use Rattle.definition.specs.Stmt.{branch_unless_by, test_against, test_label, test_labels}
use Rattle.definition.specs.Meaning.{with_value, value_of, fits, or_later, fits_one}
use Rattle.opcode.proofs.Branches.{iec-negate, iec-commute}
use Rattle.runs.proofs.Heights.{aim}
use Rattle.runs.proofs.Conditions.{constant-is, Sides, straight, mirrored, sides, asks}
use Rattle.meaning.proofs.Calls.{at, behind, pop_one, pop_two, operated, chosen, called, is_branch}
use Rattle.meaning.proofs.Walks.{End, through, to, leads, stopped, Away, Good, Does, ◌⨾◌, cut, opens, from-later, chain, says, jumping, weaker, weaker', from-here, refuses}
use Rattle.meaning.proofs.Exprs.{valued, on_value_lem, expr-does, branch-on, branch-off, jumps}

not-not : (b : Bool) → b ≡ not (not b)
not-not true = refl
not-not false = refl

pub truth-bit : (b : Bool) → truth (bit b) ≡ b
unfolding truth bit
truth-bit true = refl
truth-bit false = refl

-- ---- what a fused condition asks is what the condition's value says

pub constant-value : (w : ℕ) (σ : Values) (a : Expr) (k : ℕ) → constant_of a ≡ some k → value_of w σ a ≡ some k
unfolding value_of
constant-value w σ a k e = ap (value_of w σ) (constant-is a k e)

side-value : (w : ℕ) (σ : Values) (c : Expr) (g : ClassifiedCmp) → Sides g c → value_of w σ c ≡ some (bit (asks w σ g))
unfolding value_of with_value asks
side-value w σ c g (straight o v k) = refl
side-value w σ c g (mirrored o v k) = ap (λ t. some (bit t)) (sym (iec-commute o (signed_of w (σ v)) (signed_of w k)))

pub fused-value : (w : ℕ) (σ : Values) (c : Expr) (g : ClassifiedCmp) → classify c ≡ some g → value_of w σ c ≡ some (bit (asks w σ g))
fused-value w σ c g e = side-value w σ c g (sides c g e)

-- ---- where a test's run ends: behind it, or at a label if it fails

unfoldable pub tested_by : ℕ → List ℕ → Values → Bool → End
tested_by l st σ true = through st σ
tested_by l st σ false = to l st σ

unfoldable pub tested : ℕ → Values → Option ℕ → End
tested l σ none = stopped σ
tested l σ (some x) = tested_by l [] σ (truth x)

-- a CASE's label, x being the selector
unfoldable pub labelled : ℕ → ℕ → Values → Option Bool → End
labelled x fail σ none = stopped σ
labelled x fail σ (some t) = tested_by fail (x ∷ []) σ t

-- its labels: one that fits leads to the body, by falling or by a jump
unfoldable pub listed : ℕ → Values → ℕ → ℕ → Option Bool → End
listed x σ body fail none = stopped σ
listed x σ body fail (some true) = leads body (x ∷ []) σ
listed x σ body fail (some false) = to fail (x ∷ []) σ

module _ {code : List Call} {w : ℕ} (good : Good code) where
  cmp-does : (c : CompareOp) (v k l : ℕ) (σ : Values) (t : Bool) → compared w c (σ v) k ≡ not t → Does code w (say (emit_cmp_br c v k l)) [] σ (tested_by l [] σ t)
  unfolding called chosen is_branch aim tested_by
  cmp-does c v k l σ true e = says (emit_cmp_br c v k l) (λ r. ap (λ b. at (chosen b (behind l code) r) [] σ) e)
  cmp-does c v k l σ false e = jumping (emit_cmp_br c v k l) refl (λ r. ap (λ b. at (chosen b (behind l code) r) [] σ) e)

  -- on false, and on true
  pub unless-fused : (g : ClassifiedCmp) (l : ℕ) (σ : Values) → Does code w (emit_classified_cmp_br g false l) [] σ (tested_by l [] σ (asks w σ g))
  unfolding emit_classified_cmp_br asks
  unless-fused g l σ = cmp-does (negate g.op) g.variable g.constant l σ _ (iec-negate g.op _ _)

  pub when-fused : (g : ClassifiedCmp) (l : ℕ) (σ : Values) → Does code w (emit_classified_cmp_br g true l) [] σ (tested_by l [] σ (not (asks w σ g)))
  unfolding emit_classified_cmp_br asks
  when-fused g l σ = cmp-does g.op g.variable g.constant l σ _ (not-not _)

  pub branch-does : (x l : ℕ) (st : List ℕ) (σ : Values) → Does code w (say (emit_jmp_if_not l)) (x ∷ st) σ (tested_by l st σ (truth x))
  unfolding tested_by
  branch-does x l st σ = go (truth x) refl
    where
      go : (t : Bool) → truth x ≡ t → Does code w (say (emit_jmp_if_not l)) (x ∷ st) σ (tested_by l st σ t)
      go true e = branch-on good x l st σ e
      go false e = branch-off good x l st σ e

  -- a condition
  pub unless-does : (x : Option ClassifiedCmp) (c : Expr) (l : ℕ) (σ : Values) → classify c ≡ x → Does code w (branch_unless_by x c l) [] σ (tested l σ (value_of w σ c))
  unfolding branch_unless_by tested valued Away
  unless-does (some g) c l σ e = subst (λ v. Does code w (emit_classified_cmp_br g false l) [] σ (tested l σ v)) (sym (fused-value w σ c g e))
      (subst (λ b. Does code w (emit_classified_cmp_br g false l) [] σ (tested_by l [] σ b)) (sym (truth-bit (asks w σ g))) (unless-fused g l σ))
  unless-does none c l σ e = on_value_lem good (tested l σ) (value_of w σ c) refl (expr-does good c 0 [] σ) (λ y. branch-does y l [] σ)

  -- ---- a CASE's labels, the selector x on the stack

  dups : (x : ℕ) (st : List ℕ) (σ : Values) → Does code w (say (emit_opcode dup)) (x ∷ st) σ (through (x ∷ x ∷ st) σ)
  unfolding called operated pop_one
  dups x st σ = says (emit_opcode dup) (λ r. refl)

  pub constants : (k : ℕ) (st : List ℕ) (σ : Values) → Does code w (say (load_constant k)) st σ (through (k ∷ st) σ)
  unfolding called
  constants k st σ = says (load_constant k) (λ r. refl)

  pub comparing : (c : CompareOp) (a b : ℕ) (st : List ℕ) (σ : Values) → Does code w (say (emit_opcode (role.compare c))) (b ∷ a ∷ st) σ (through (bit (compared w c a b) ∷ st) σ)
  unfolding called operated pop_two
  comparing c a b st σ = says (emit_opcode (role.compare c)) (λ r. refl)

  module _ (x : ℕ) (σ : Values) where
    against-does : (c : CompareOp) (k fail : ℕ) → Does code w (test_against c k fail) (x ∷ []) σ (tested_by fail (x ∷ []) σ (compared w c x k))
    unfolding test_against
    against-does c k fail = dups x [] σ ⨾ constants k (x ∷ x ∷ []) σ ⨾ comparing c x k (x ∷ []) σ
        ⨾ subst (λ t. Does code w (say (emit_jmp_if_not fail)) (bit (compared w c x k) ∷ x ∷ []) σ (tested_by fail (x ∷ []) σ t)) (truth-bit (compared w c x k)) (branch-does (bit (compared w c x k)) fail (x ∷ []) σ)

    both : {m k : Calls} (fail : ℕ) (a b : Bool) → Does code w m (x ∷ []) σ (tested_by fail (x ∷ []) σ a) → Does code w k (x ∷ []) σ (tested_by fail (x ∷ []) σ b) → Does code w (m >> k) (x ∷ []) σ (tested_by fail (x ∷ []) σ (a && b))
    unfolding tested_by Away
    both fail true b p q = p ⨾ q
    both fail false b p q = cut _ tt p

    pub label-does : (l : CaseLabel) (fail : ℕ) → Does code w (test_label l fail) (x ∷ []) σ (labelled x fail σ (fits w x l))
    unfolding test_label fits labelled
    label-does (value k) fail = against-does Eq k fail
    label-does (range low high) fail = both fail (compared w Ge x low) (compared w Le x high) (against-does Ge low fail) (against-does Le high fail)
    label-does (bad_label f) fail = refuses good f

    -- two labels or more
    pub labels-does : (l : CaseLabel) (ls : List CaseLabel) (body fail : ℕ) → Does code w (test_labels l ls body fail) (x ∷ []) σ (listed x σ body fail (or_later (fits w x l) (fits_one w x ls)))
    unfolding test_labels fits_one or_later labelled listed tested_by Away
    labels-does l [] body fail = go (fits w x l) (label-does l fail)
      where
        go : (t : Option Bool) → Does code w (test_label l fail) (x ∷ []) σ (labelled x fail σ t) → Does code w (test_label l fail) (x ∷ []) σ (listed x σ body fail (or_later t (some false)))
        go none p = p
        go (some true) p = weaker p
        go (some false) p = p
    labels-does l (m ∷ ms) body fail = opens 1 λ next_label. go next_label (fits w x l) (label-does l next_label) (labels-does m ms body fail)
      where
        go : (next_label : ℕ) (t : Option Bool) → Does code w (test_label l next_label) (x ∷ []) σ (labelled x next_label σ t)
            → Does code w (test_labels m ms body fail) (x ∷ []) σ (listed x σ body fail (or_later (fits w x m) (fits_one w x ms)))
            → Does code w (test_label l next_label >> (say (emit_jmp body) >> (say (bind_label next_label) >> test_labels m ms body fail))) (x ∷ []) σ (listed x σ body fail (or_later t (or_later (fits w x m) (fits_one w x ms))))
        go next_label none p q = cut _ tt p
        go next_label (some true) p q = weaker' (p ⨾ cut _ tt (jumps good body (x ∷ []) σ))
        go next_label (some false) p q = chain (cut _ tt p) (from-later _ (from-later _ (from-here good q)))
