-- A program's calls: what they are run to, by its statements' meaning.
use Prim.Native.Nat.{ℕ, ◌+◌}
use mathlib.Core.Path.{◌≡◌, refl, sym, ◌∙◌, ap, subst}
use mathlib.Core.List.{List, [], ◌∷◌, ◌++◌, append-nil}
use native.Mathlib.Omega.{arith}
use borrow.Author.Tests.{eq-eqb}
use Rattle.definition.specs.Limits.{width}
use Rattle.definition.specs.Res.{ok, ◌>>=◌}
use Rattle.definition.specs.Opcode.{Sheet}
use Rattle.definition.specs.Tree.{Block}
use Rattle.definition.specs.Emit.{Call, bind_label, refused, Emitter, act, acts}
use Rattle.definition.specs.Stmt.{labels, exit_of, next_of, emit_stmts}
use Rattle.definition.specs.Iec.{Values}
use Rattle.definition.specs.Meaning.{Answer, ends, exits, continues, returns, stops, spent, run_block}
use Rattle.field.proofs.Results.{never}
use Rattle.counting.proofs.Once.{is_bind, binds, binds-append}
use Rattle.counting.proofs.Passes.{at-most-once}
use Rattle.counting.proofs.Emitted.{acts-append}
use Rattle.meaning.proofs.Calls.{here, behind, behind-past, behind-found, binds-own, step, step_at, Halt, Finish, Lasts}
use Rattle.meaning.proofs.Calls as calls
use Rattle.meaning.proofs.Walks.{Ends, Good}
use Rattle.meaning.proofs.Landing.{landing, onward, label_end}
use Rattle.meaning.proofs.Stmts.{program-does}

-- ---- a label that is bound once is found

behind-is : (l : ℕ) (pre post : List Call) → binds l pre ≡ 0 → behind l (pre ++ (bind_label l ∷ post)) ≡ post
unfolding binds
behind-is l [] post e = behind-found l l post (eq-eqb l l refl)
behind-is l (c ∷ pre) post e = behind-past l c (pre ++ (bind_label l ∷ post)) (omega arith) ∙ behind-is l pre post (omega arith)

-- what was emitted without a refusal is good
pub program-good : (s : Sheet) (b : Block) (e e' : Emitter) → acts s (emit_stmts b 0).1 e ≡ ok e' → Good (emit_stmts b 0).1
unfolding binds acts act ◌>>=◌
program-good s b e e' p = record {
  once = λ l pre post q.
      let u = at-most-once b l in
      let v : binds l (emit_stmts b 0).1 ≡ binds l pre + (is_bind l (bind_label l) + binds l post) = ap (binds l) q ∙ binds-append l pre (bind_label l ∷ post) in
      let o = binds-own l in
      ap (behind l) q ∙ behind-is l pre post (omega arith);
  accepted = λ f pre post q.
      let r = acts-append s pre (refused f ∷ post) e e' (subst (λ c. acts s c e ≡ ok e') q p) in
      never (let z = r.2 in cc);
}

-- ---- the calls' run

module _ (w : ℕ) (same : width ≡ w) (b : Block) (good : Good (emit_stmts b 0).1) where
  abbrev pub code : List Call
  code = (emit_stmts b 0).1

  pub ran : (f : ℕ) (σ : Values) → Ends code w (here code [] σ) [] (landing onward [] f (run_block w b f σ))
  ran f σ = subst (λ c. Ends code w (here c [] σ) [] (landing onward [] f (run_block w b f σ))) (append-nil code) ((program-does good same b f σ).run 0 [] [] (sym (append-nil code)))

  -- what a program comes to
  unfoldable pub Comes : ℕ → Values → Answer → Type 0
  Comes f σ (ends τ) = Finish code w (here code [] σ) τ
  Comes f σ (exits i τ) = ⊥
  Comes f σ (continues i τ) = ⊥
  Comes f σ (returns τ) = Finish code w (here code [] σ) τ
  Comes f σ (stops τ) = Halt code w calls.stops (here code [] σ) τ
  Comes f σ spent = Lasts code w f (here code [] σ)

  pub program-comes : (f : ℕ) (σ : Values) → Comes f σ (run_block w b f σ)
  unfolding Comes Ends landing label_end exit_of next_of labels step step_at here
  program-comes f σ = go (run_block w b f σ) (ran f σ)
    where
      go : (a : Answer) → Ends code w (here code [] σ) [] (landing onward [] f a) → Comes f σ a
      go (ends τ) p = record { last = here [] [] τ; there = p; values = refl; empty = refl; is = refl }
      go (exits i τ) p = p
      go (continues i τ) p = p
      go (returns τ) p = p
      go (stops τ) p = p
      go spent p = p
