-- What pair rewriting leaves of linked rows: they are linked again, and a row that is no second of a matched pair keeps its height.
use Prim.Native.Nat.{ℕ, suc, zero, ◌≤◌, zero-le, suc-le-suc}
use mathlib.Core.Path.{◌≡◌, refl, sym, ◌∙◌, ap}
use mathlib.Core.List.{List, [], ◌∷◌, ◌++◌}
use mathlib.Core.Bool.{true}
use mathlib.Core.Option.{some, none}
use lib.ListN.{length}
use native.Mathlib.Omega.{arith}
use Rattle.definition.specs.Opcode.{Sheet, cmp_br, shift, onward, effect, flow}
use Rattle.definition.specs.Rules.{Action, keep, remove, rewrite_operand, allowed, is_variable}
use Rattle.definition.specs.Emit.{le16}
use Rattle.definition.specs.Claims.{branches, Each, ◌also◌}
use Rattle.rules.proofs.Pairs.{Pair, Keeps, neither, former, latter, both, keeps, rewritten, variable-size}
use Rattle.field.proofs.Results.{never, some_is}
use Rattle.runs.proofs.Heights.{falls}
use Rattle.runs.proofs.Rows.{Row, next-height, row_of, height-at, first-height, height-first, patch_here, patches_by, leads-nowhere, RowOk, Compared, Linked, follows}

-- what an action leaves of a row
unfoldable pub kept : Action → Row → List Row
kept keep r = r ∷ []
kept remove r = []
kept (rewrite_operand n) r = record { role = r.role; operand = le16 n; height = r.height; aim = r.aim } ∷ []

unfoldable pub apply : List Action → List Row → List Row
apply [] rs = rs
apply (a ∷ xs) [] = []
apply (a ∷ xs) (r ∷ rs) = kept a r ++ apply xs rs

-- where row i goes
unfoldable pub past : Action → ℕ → ℕ
past keep i = suc i
past remove i = i
past (rewrite_operand n) i = suc i

unfoldable pub move : List Action → ℕ → ℕ
move [] i = i
move (a ∷ xs) zero = zero
move (a ∷ xs) (suc i) = past a (move xs i)

-- actions for rows: one row is kept alone, or two are a pair that a rule may match
pub data Fits : List Action → List Row → Type 0 where
  over : Fits [] []
  alone : {xs : List Action} {r : Row} {rs : List Row} → Fits xs rs → Fits (keep ∷ xs) (r ∷ rs)
  pair : {a b : Action} {xs : List Action} {r q : Row} {rs : List Row} → Pair a b r.role q.role → Fits xs rs → Fits (a ∷ b ∷ xs) (r ∷ q ∷ rs)

-- every row but the second of a matched pair
unfoldable pub Outer : {xs : List Action} {rs : List Row} → Fits xs rs → ℕ → Type 0
Outer over i = Unit {0}
Outer (alone t) zero = Unit {0}
Outer (alone t) (suc i) = Outer t i
Outer (pair ok t) zero = Unit {0}
Outer (pair ok t) (suc zero) = ⊥
Outer (pair ok t) (suc (suc i)) = Outer t i

onward-falls : (r : Row) (rs : List Row) (e : ℕ) → flow r.role ≡ onward → (falls (flow r.role) ≡ true → first-height rs e ≡ next-height r) → first-height rs e ≡ next-height r
unfolding falls
onward-falls r rs e p f = f (ap falls p)

module _ {Λ : ℕ → ℕ} {D : ℕ} where
  -- a row that stays, as it is or with another operand
  link-kept : (a : Action) (r : Row) (rs : List Row) (e : ℕ) → (a ≡ remove → ⊥) → allowed a r.role ≡ true → RowOk Λ D r → first-height rs e ≡ next-height r → Linked Λ D rs e
      → Linked Λ D (kept a r ++ rs) e × (first-height (kept a r ++ rs) e ≡ r.height)
  unfolding kept first-height next-height le16
  link-kept keep r rs e n w k f l = (follows k (λ t. f) l, refl)
  link-kept remove r rs e n w k f l = absurd (n refl)
  link-kept (rewrite_operand m) r rs e n w k f l =
      (follows (record { sized = sym (variable-size r.role (rewritten m r.role w).0); enough = k.enough; low = k.low; leads = k.leads; stops = k.stops }) (λ t. f) l, refl)

  -- q follows r, and zs stands for the rows that follow q
  link-keeps : (a b : Action) (r q : Row) (zs : List Row) (e : ℕ) → Keeps a b r.role q.role → allowed a r.role ≡ true → allowed b q.role ≡ true → RowOk Λ D r → RowOk Λ D q
      → q.height ≡ next-height r → first-height zs e ≡ next-height q → Linked Λ D zs e → Linked Λ D (kept a r ++ (kept b q ++ zs)) e × (first-height (kept a r ++ (kept b q ++ zs)) e ≡ r.height)
  unfolding kept next-height shift
  link-keeps a b r q zs e (neither na nb) wa wb k j f g z = let i = link-kept b q zs e nb wb j g z in link-kept a r (kept b q ++ zs) e na wa k (i.1 ∙ f) i.0
  link-keeps remove b r q zs e (former er nb) wa wb k j f g z = let i = link-kept b q zs e nb wb j g z in (i.0, i.1 ∙ (f ∙ ap (λ x. shift x r.height) er))
  link-keeps a remove r q zs e (latter eq na) wa wb k j f g z = link-kept a r zs e na wa k (g ∙ (ap (λ x. shift x q.height) eq ∙ f)) z
  link-keeps remove remove r q zs e (both n) wa wb k j f g z = (z, g ∙ (ap (λ x. shift (effect q.role) x) f ∙ n r.height k.enough))

  pub rewrite-linked : {xs : List Action} {rs : List Row} (e : ℕ) → Fits xs rs → Linked Λ D rs e → Linked Λ D (apply xs rs) e × (first-height (apply xs rs) e ≡ first-height rs e)
  unfolding apply kept first-height
  rewrite-linked e over l = (l, refl)
  rewrite-linked e (alone t) (follows k f l) = let i = rewrite-linked e t l in (follows k (λ x. i.1 ∙ f x) i.0, refl)
  rewrite-linked e (pair {a = a} {b = b} {xs = xs} {r = r} {q = q} {rs = rs} ok t) (follows k f (follows j g l)) =
      let i = rewrite-linked e t l in
      link-keeps a b r q (apply xs rs) e (keeps a b r.role q.role ok) ok.one ok.two k j (onward-falls r (q ∷ rs) e ok.first f) (i.1 ∙ onward-falls q rs e ok.second g) i.0

-- no pass touches a comparison byte
kept-compared : (s : Sheet) (a : Action) (r : Row) (rs : List Row) → allowed a r.role ≡ true → Compared s r → Each (λ r. Compared s r) rs → Each (λ r. Compared s r) (kept a r ++ rs)
unfolding kept is_variable
kept-compared s keep r rs w c e = c also e
kept-compared s remove r rs w c e = e
kept-compared s (rewrite_operand m) r rs w c e = (λ (q : r.role ≡ cmp_br). let z : is_variable cmp_br ≡ true = ap is_variable (sym q) ∙ (rewritten m r.role w).0 in never (cc)) also e

pub apply-compared : (s : Sheet) {xs : List Action} {rs : List Row} → Fits xs rs → Each (λ r. Compared s r) rs → Each (λ r. Compared s r) (apply xs rs)
unfolding apply kept
apply-compared s over e = e
apply-compared s (alone t) (c also e) = c also apply-compared s t e
apply-compared s (pair {a = a} {b = b} {xs = xs} {r = r} {q = q} {rs = rs} ok t) (c also (d also e)) =
    kept-compared s a r (kept b q ++ apply xs rs) ok.one c (kept-compared s b q (apply xs rs) ok.two d (apply-compared s t e))

past-kept : (a : Action) (r : Row) (ys : List Row) (e i : ℕ) → height-at (kept a r ++ ys) e (past a i) ≡ height-at ys e i
unfolding kept past height-at
past-kept keep r ys e i = refl
past-kept remove r ys e i = refl
past-kept (rewrite_operand n) r ys e i = refl

pub height-moved : {Λ : ℕ → ℕ} {D : ℕ} {xs : List Action} {rs : List Row} (e : ℕ) (t : Fits xs rs) (i : ℕ) → Outer t i → Linked Λ D rs e → height-at (apply xs rs) e (move xs i) ≡ height-at rs e i
unfolding apply move height-at Outer first-height kept
height-moved e over i o l = refl
height-moved e (alone t) zero o l = refl
height-moved e (alone {xs = xs} {r = r} {rs = rs} t) (suc i) o (follows k f l) = past-kept keep r (apply xs rs) e (move xs i) ∙ height-moved e t i o l
height-moved e (pair {a = a} {b = b} {xs = xs} {r = r} {q = q} {rs = rs} ok t) zero o l =
    height-first (kept a r ++ (kept b q ++ apply xs rs)) e ∙ (rewrite-linked e (pair {a = a} {b = b} {xs = xs} {r = r} {q = q} {rs = rs} ok t) l).1
height-moved e (pair ok t) (suc zero) o l = absurd o
height-moved e (pair {a = a} {b = b} {xs = xs} {r = r} {q = q} {rs = rs} ok t) (suc (suc i)) o (follows k f (follows j g l)) =
    past-kept a r (kept b q ++ apply xs rs) e (past b (move xs i)) ∙ (past-kept b q (apply xs rs) e (move xs i) ∙ height-moved e t i o l)

-- ---- rows go within rows, and branches stay the branches that they were

past-within : (a : Action) (r : Row) (ys : List Row) (i : ℕ) → i ≤ length ys → past a i ≤ length (kept a r ++ ys)
unfolding kept past
past-within keep r ys i le = suc-le-suc le
past-within remove r ys i le = le
past-within (rewrite_operand n) r ys i le = suc-le-suc le

pub move-within : {xs : List Action} {rs : List Row} → Fits xs rs → (i : ℕ) → i ≤ length rs → move xs i ≤ length (apply xs rs)
unfolding apply move
move-within over i le = le
move-within (alone t) zero le = zero-le
move-within (alone {xs = xs} {r = r} {rs = rs} t) (suc i) le = past-within keep r (apply xs rs) (move xs i) (move-within t i (omega arith))
move-within (pair ok t) zero le = zero-le
move-within (pair {a = a} {b = b} {xs = xs} {r = r} {q = q} {rs = rs} ok t) (suc zero) le = past-within a r (kept b q ++ apply xs rs) 0 zero-le
move-within (pair {a = a} {b = b} {xs = xs} {r = r} {q = q} {rs = rs} ok t) (suc (suc i)) le =
    past-within a r (kept b q ++ apply xs rs) (past b (move xs i)) (past-within b q (apply xs rs) (move xs i) (move-within t i (omega arith)))

-- a row that is no branch has no patch, whatever is left of it
no-patch : (a : Action) (r : Row) (ys : List Row) (f : ℕ → ℕ) → r.aim ≡ none → patches_by f (kept a r ++ ys) ≡ patches_by (λ i. f (past a i)) ys
unfolding kept past patches_by patch_here
no-patch keep r ys f e = ap (λ x. patch_here x (f 0) r.operand ++ patches_by (λ i. f (suc i)) ys) e
no-patch remove r ys f e = refl
no-patch (rewrite_operand n) r ys f e = ap (λ x. patch_here x (f 0) (le16 n) ++ patches_by (λ i. f (suc i)) ys) e

onward-aim : {Λ : ℕ → ℕ} {D : ℕ} {r : Row} → RowOk Λ D r → flow r.role ≡ onward → r.aim ≡ none
unfolding branches
onward-aim k p = leads-nowhere k.leads (ap branches p)

pub patches-moved : {Λ : ℕ → ℕ} {D e : ℕ} {xs : List Action} {rs : List Row} (f : ℕ → ℕ) → Fits xs rs → Linked Λ D rs e → patches_by f (apply xs rs) ≡ patches_by (λ i. f (move xs i)) rs
unfolding apply move patches_by patch_here kept past
patches-moved f over l = refl
patches-moved f (alone {r = r} t) (follows k g l) = ap (λ y. patch_here r.aim (f 0) r.operand ++ y) (patches-moved (λ i. f (suc i)) t l)
patches-moved f (pair {a = a} {b = b} {xs = xs} {r = r} {q = q} {rs = rs} ok t) (follows k g (follows j h l)) =
    let m = onward-aim k ok.first in
    let n = onward-aim j ok.second in
    no-patch a r (kept b q ++ apply xs rs) f m ∙ (no-patch b q (apply xs rs) (λ i. f (past a i)) n ∙ (patches-moved (λ i. f (past a (past b i))) t l
    ∙ sym (ap (λ x. patch_here x (f 0) r.operand ++ (patch_here q.aim (f (past a 0)) q.operand ++ patches_by (λ i. f (past a (past b (move xs i)))) rs)) m
    ∙ ap (λ x. patch_here x (f (past a 0)) q.operand ++ patches_by (λ i. f (past a (past b (move xs i)))) rs) n)))

-- a branch's row stays as it is
past_row : (a : Action) (r : Row) (ys : List Row) (i : ℕ) → row_of (kept a r ++ ys) (past a i) ≡ row_of ys i
unfolding kept past row_of
past_row keep r ys i = refl
past_row remove r ys i = refl
past_row (rewrite_operand n) r ys i = refl

unaimed : {A : Type 0} {q r : Row} {l : ℕ} → q.aim ≡ none → some q ≡ some r → r.aim ≡ some l → A
unaimed {r = r} n e a = never (let w : r.aim ≡ none = ap (λ (x : Row). x.aim) (sym (some_is e)) ∙ n in cc)

pub branch_kept : {Λ : ℕ → ℕ} {D e : ℕ} {xs : List Action} {rs : List Row} → Fits xs rs → Linked Λ D rs e → (i l : ℕ) (r : Row) → row_of rs i ≡ some r → r.aim ≡ some l → row_of (apply xs rs) (move xs i) ≡ some r
unfolding apply move row_of kept
branch_kept over k i l r p a = p
branch_kept (alone t) k zero l r p a = p
branch_kept (alone {xs = xs} {r = q} {rs = rs} t) (follows k g k') (suc i) l r p a = past_row keep q (apply xs rs) (move xs i) ∙ branch_kept t k' i l r p a
branch_kept (pair ok t) (follows k g k') zero l r p a = unaimed (onward-aim k ok.first) p a
branch_kept (pair ok t) (follows k g (follows j h k')) (suc zero) l r p a = unaimed (onward-aim j ok.second) p a
branch_kept (pair {a = b} {b = c} {xs = xs} {r = q} {q = q'} {rs = rs} ok t) (follows k g (follows j h k')) (suc (suc i)) l r p a =
    past_row b q (kept c q' ++ apply xs rs) (past c (move xs i)) ∙ (past_row c q' (apply xs rs) (move xs i) ∙ branch_kept t k' i l r p a)
