use mathlib.Core.Path.{◌≡◌, ap}
use Prim.Native.Nat.{◌/◌, ◌%◌}
use native.Mathlib.Omega.{arith}
use lib.ListN.{length-set}
use Rattle.rules.specs.View.{action_view}
use Rattle.rewrite.proofs.Copy.{three, puts-kept, puts-removed, puts-rewritten}
use Rattle.rewrite.proofs.apply.Goals as goal

-- an index of the three bytes, after stores
pub bounds-code-from : goal.bounds-code-from
bounds-code-from c = omega (arith, c.requires.to_le_from, three (ap action_view c.in-RewriteOperand.is) c.requires.fitting)

pub bounds-code-to : goal.bounds-code-to
bounds-code-to c = omega (arith, c.requires.to_le_from, three (ap action_view c.in-RewriteOperand.is) c.requires.fitting)

pub bounds-code-to-in-RewriteOperand : goal.bounds-code-to-in-RewriteOperand
bounds-code-to-in-RewriteOperand c = simp length-set (omega (arith, c.requires.to_le_from, three (ap action_view c.in-RewriteOperand.is) c.requires.fitting))

pub bounds-code-to-in-RewriteOperand-2 : goal.bounds-code-to-in-RewriteOperand-2
bounds-code-to-in-RewriteOperand-2 c = simp length-set (omega (arith, c.requires.to_le_from, three (ap action_view c.in-RewriteOperand.is) c.requires.fitting))

pub returns-in-Keep : goal.returns-in-Keep
returns-in-Keep c = puts-kept _ _ _ _ (ap action_view c.in-Keep.is) c.requires.to_le_from.1 c.copy_within.ensures.after

pub returns-in-Remove : goal.returns-in-Remove
returns-in-Remove c = puts-removed _ c.args.from _ c.args.size (ap action_view c.in-Remove.is) (omega (arith, c.requires.to_le_from))

pub returns-in-RewriteOperand : goal.returns-in-RewriteOperand
returns-in-RewriteOperand c =
    let high : c.in-RewriteOperand.n / 256 % 256 ≡ c.in-RewriteOperand.n / 256 = omega arith in
    rw (c.to_le_bytes.ensures, high) (puts-rewritten _ c.args.from _ c.args.size (ap action_view c.in-RewriteOperand.is) c.requires.fitting c.requires.to_le_from.0 c.requires.to_le_from.1)
