-- The bodies that a walk notes are so.
use mathlib.Core.Path.{◌≡◌, refl, ap, ◌∙◌}
use mathlib.Core.Bool.{Bool, false}
use mathlib.Core.List.{List, [], ◌∷◌}
use Prim.Native.Nat.{ℕ, zero, suc, ◌≤◌}
use native.Mathlib.Omega.{arith}
use lib.ListN.{length, get_or, set, get_or-replicate}
use Rattle.std.specs.Prelude.{Ok}
use Rattle.std.proofs.Common.{◌⊎◌, inl, inr, ⊎_elim}
use Rattle.definition.specs.Limits.{max_nesting, max_program}
use Rattle.definition.specs.Program.{block_of, stmt_at}
use Rattle.program.specs.declared.Cursor.{Cursor}
use Rattle.program.specs.declared.Body.{Body}
use Rattle.program.specs.declared.Ends.{Ends}
use Rattle.program.specs.Walk.{Skipped, Walked, many, over_stmt}
use Rattle.program.specs.Ends.{start_of, end_of, no_body, no_ends, Sound, NoneNew, body_of, Noting}
use Rattle.program.proofs.Laws.{skipped-block}

-- what stands in a list after a write
set-told : {A : Type 0} (xs : List A) (i j : ℕ) (x d : A) → (get_or (set xs i x) j d ≡ get_or xs j d) ⊎ ((j ≡ i) × (get_or (set xs i x) j d ≡ x))
set-told [] i j x d = inl refl
set-told (y ∷ xs) zero zero x d = inr (refl, refl)
set-told (y ∷ xs) zero (suc j) x d = inl refl
set-told (y ∷ xs) (suc i) zero x d = inl refl
set-told (y ∷ xs) (suc i) (suc j) x d = ⊎_elim (λ e. inl e) (λ e. inr (ap suc e.0, e.1)) (set-told xs i j x d)

pub noted-first : {heed : Bool} {level n : ℕ} {b c : Cursor} {old new : Ends} {x : Body} → NoneNew old new → heed ≡ false → x ≡ body_of n b c
    → Noting heed level n b c old (record { first = set new.first level x; second = new.second; from = new.from })
noted-first {level = level} {old = old} {new} {x} none off is = record {
  told = λ k h y m. ⊎_elim
      (λ e. ⊎_elim (λ same. inl (none.told k h y (inl (e ∙ same)))) (λ put. inr (off, put.0, e ∙ put.1 ∙ is)) (set-told new.first level k x no_body))
      (λ e. inl (none.told k h y (inr e))) m;
}

pub sound_none : (text : List ℕ) (v : ℕ) → length text ≤ max_program → Sound text v no_ends
unfolding block_of
sound_none text v short = record { told = λ level h x m. ⊎_elim (λ e. go level x (e ∙ get_or-replicate max_nesting level no_body no_body h)) (λ e. go level x (e ∙ get_or-replicate max_nesting level no_body no_body h)) m }
  where
    go : (level : ℕ) (x : Body) → x ≡ no_body → Skipped text (block_of (λ d. stmt_at level v text d) x.count (start_of x)).1 (end_of x)
    go level x e = rw e (record { is = refl; near = record { short = short; within = omega arith; rows = omega arith } })

pub sound-noted : {text : List ℕ} {v : ℕ} {heed : Bool} {level n : ℕ} {b : Cursor} (c : Cursor) {old new : Ends} → Sound text v old → Walked (many n (over_stmt heed level v text)) text b (Ok c) → Noting heed level n b c old new → Sound text v new
sound-noted {text} {v} {heed} {level} {n} {b} c {old} {new} s w noting = record { told = λ k h x m. ⊎_elim (λ o. s.told k h x o) (λ o. rw (o.2, o.1) (skipped-block level v n c (rw o.0 at w))) (noting.told k h x m) }
