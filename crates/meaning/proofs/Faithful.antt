-- Code does what the statements say: of whatever a call with an empty rule file gave back.
use Prim.Native.Nat.{ℕ}
use mathlib.Core.Path.{◌≡◌, sym, ◌∙◌, ap, subst}
use mathlib.Core.List.{List, [], ◌∷◌}
use native.Mathlib.Omega.{arith}
use lib.ListN.{length, take}
use Rattle.definition.specs.Limits.{width}
use Rattle.definition.specs.Res.{ok}
use Rattle.definition.specs.Opcode.{Sheet}
use Rattle.definition.specs.Rules.{Rule, read_rules}
use Rattle.definition.specs.Lent.{filled}
use Rattle.definition.specs.Compile.{FinalizedFunction, finalize_function, emit_program, Room, Answer, answer, Compiles}
use Rattle.definition.specs.Machine.{image_of}
use Rattle.definition.specs.Claims.{DoesAsSaid, image_in, Faithful}
use Rattle.opcode.proofs.Faults.{good}
use Rattle.rules.proofs.File.{no-rules}
use Rattle.field.proofs.Results.{ok-is}
use Rattle.runs.proofs.Finished.{Reaches}
use Rattle.runs.proofs.Safe.{Compiled, lent, given, made, is-answer}
use Rattle.meaning.proofs.Whole as whole

none_read : (rules : List ℕ) (rs : List Rule) → length rules ≡ 0 → read_rules rules ≡ ok rs → rs ≡ []
none_read [] rs e q = ok-is (sym no-rules ∙ q)
none_read (x ∷ rules) rs e q = absurd (omega arith)

-- the outputs hold what was finished
image-in : (s : Sheet) (room : Room) (f : FinalizedFunction) → image_in s (answer room (ok f)) ≡ image_of s f
unfolding image_in image_of answer
image-in s room f =
    ap (λ c. record { width = width; sheet = s; bytecode = c; constants = take (length f.constants) (filled room.constants f.constants) }) (lent room.code f.bytecode)
    ∙ ap (λ k. record { width = width; sheet = s; bytecode = f.bytecode; constants = k }) (lent room.constants f.constants)

module _ (room : Room) (sheet rules program : List ℕ) (a : Answer) (k : Compiles room sheet rules program a) (z : a.number ≡ 0) (empty : length rules ≡ 0) where
  abbrev m : Compiled sheet rules program (given room sheet rules program a k z)
  m = made room sheet rules program a k z

  no-rule : m.rs ≡ []
  no-rule = none_read rules m.rs empty m.rules_read

  finish : finalize_function m.s [] m.e ≡ given room sheet rules program a k z
  finish = sym (m.finish ∙ ap (λ rs. finalize_function m.s rs m.e) no-rule)

  image-is : image_of m.s (finalize_function m.s [] m.e) ≡ image_in m.s a
  image-is = ap (λ f. image_of m.s f) finish ∙ (sym (image-in m.s room _) ∙ ap (λ x. image_in m.s x) (sym (is-answer room sheet rules program a k z)))

  -- Document 02's L13, of whatever a call that refuses nothing gave back.
  pub compiled-faithful : Faithful sheet program a
  unfolding emit_program
  compiled-faithful = record {
    s = m.s;
    tree = m.p;
    sheet_read = m.sheet_read;
    program_read = m.program_read;
    does = λ σ. subst (λ i. DoesAsSaid i m.p.body σ) image-is (whole.does m.s (good sheet m.s m.sheet_read) m.p m.e m.emission (subst (λ rs. Reaches m.s rs m.e) no-rule m.reach) σ);
  }
