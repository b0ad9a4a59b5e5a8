-- What was put into a store, in turn.
use mathlib.Core.Path.{◌≡◌, refl, ap, sym, ◌∙◌}
use mathlib.Core.List.{List, [], ◌∷◌, ◌++◌}
use Prim.Native.Nat.{ℕ, ◌≤◌}
use native.Mathlib.Omega.{arith}
use Rattle.store.specs.Store.{Store, push, push_all}
use Rattle.store.proofs.Stores.{push_all-append}

-- one byte, and more behind it
pub put_first : (s : Store) {t u : Store} (x : ℕ) (ys : List ℕ) → t ≡ push s x → u ≡ push_all t ys → u ≡ push_all s (x ∷ ys)
unfolding push_all
put_first s x ys e f = f ∙ ap (λ (t : Store). push_all t ys) e

pub put_then : (s : Store) {t u : Store} (xs ys : List ℕ) → t ≡ push_all s xs → u ≡ push_all t ys → u ≡ push_all s (xs ++ ys)
put_then s xs ys e f = f ∙ ap (λ (t : Store). push_all t ys) e ∙ sym (push_all-append s xs ys)

pub put_one : (s : Store) {t : Store} (x : ℕ) → t ≡ push s x → t ≡ push_all s (x ∷ [])
unfolding push_all
put_one s x e = e

-- four parts one behind the other
pub put_four : (A B C D : List ℕ) (s : Store) {s1 s2 s3 s4 : Store} → s1 ≡ push_all s A → s2 ≡ push_all s1 B → s3 ≡ push_all s2 C → s4 ≡ push_all s3 D → s4 ≡ push_all s (A ++ B ++ C ++ D)
put_four A B C D s a b c d = put_then s (A ++ B ++ C) D (put_then s (A ++ B) C (put_then s A B a b) c) d

-- ---- put piece by piece: g i is what is left to put at i

pub record Putting (g : ℕ → List ℕ) (n : ℕ) (s t : Store) (i : ℕ) : Type 0 where
  pub left : push_all s (g 0) ≡ push_all t (g i)
  pub within : i ≤ n

module _ (g : ℕ → List ℕ) (n : ℕ) (s : Store) where
  pub put-begins : Putting g n s s 0
  put-begins = record { left = refl; within = omega arith }

  pub put-goes-on : {t u : Store} {i j : ℕ} (xs : List ℕ) → Putting g n s t i → u ≡ push_all t xs → g i ≡ xs ++ g j → j ≤ n → Putting g n s u j
  put-goes-on {t} {j = j} xs p e step h = record {
    left = p.left ∙ ap (push_all t) step ∙ push_all-append t xs (g j) ∙ ap (λ (v : Store). push_all v (g j)) (sym e);
    within = h;
  }

  pub put-ends : {t u : Store} {i : ℕ} → Putting g n s t i → u ≡ push_all t (g i) → u ≡ push_all s (g 0)
  put-ends p e = e ∙ sym p.left

  pub put-ends-none : {t : Store} {i : ℕ} → Putting g n s t i → g i ≡ [] → t ≡ push_all s (g 0)
  unfolding push_all
  put-ends-none {t} p e = sym (ap (push_all t) e) ∙ sym p.left
