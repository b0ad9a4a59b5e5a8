-- Code rewritten in outputs that were filled with it.
use mathlib.Core.Path.{◌≡◌, refl, ap, sym}
use mathlib.Core.List.{List, ◌++◌}
use Prim.Native.Nat.{ℕ, ◌≤◌}
use native.Mathlib.Omega.{arith}
use lib.ListN.{length, take, drop, length-map}
use Rattle.definition.specs.Opcode.{Sheet}
use Rattle.definition.specs.Rules.{Rule}
use Rattle.definition.specs.Lent.{filled}
use Rattle.definition.specs.Optimize.{Pipeline, run}
use Rattle.store.specs.Fill.{fitted}
use Rattle.store.proofs.Fills.{behind, front_of, refilled, fitted-is}
use Rattle.optimize.specs.View.{Runnable, pipeline, passes, Ran, Rewrote}

-- protected offsets stay as many
pub as_many : (s : Sheet) (rules : List Rule) (p : Pipeline) → length (passes s rules p).protected ≡ length p.protected
unfolding passes run
as_many s rules p = simp length-map

exactly : (room : ℕ) (xs ys : List ℕ) → length ys ≡ length xs → ys ++ drop (length xs) (filled room xs) ≡ filled room ys
unfolding filled
exactly room xs ys e = rw (behind room xs (length xs) refl, e)

-- what was filled in stands at the front
pub front_long : {b : List ℕ} (room : ℕ) (xs : List ℕ) → length xs ≤ room → b ≡ fitted room xs → length xs ≡ length (take (length xs) b)
front_long room xs h e = sym (ap length (front_of room xs (fitted-is room xs h e)))

pub lent : {sheet code protected b o : List ℕ} (m n : ℕ) → Runnable sheet code protected → length code ≤ m → length protected ≤ n → b ≡ fitted m code → o ≡ fitted n protected
    → Runnable sheet (take (length code) b) (take (length protected) o)
lent {code = code} {protected = protected} m n r fc fp eb eo = rw (front_of m code (fitted-is m code fc eb), front_of n protected (fitted-is n protected fp eo)) r

pub rewrote : (s : Sheet) (rules : List Rule) (code protected total bytes offsets : List ℕ) {b o d p t : List ℕ} {n : ℕ}
    → length code ≤ length bytes → length protected ≤ length offsets → b ≡ fitted (length bytes) code → o ≡ fitted (length offsets) protected
    → Ran (passes s rules (pipeline (take (length code) b) (take (length protected) o) total)) (take (length code) b) d p t n
    → Rewrote (passes s rules (pipeline code protected total)) bytes offsets (d ++ drop (length code) b) (p ++ drop (length protected) o) t n
rewrote s rules code protected total bytes offsets {b} {o} {d} {p} {t} {n} fc fp eb eo r₀ =
    let q = passes s rules (pipeline code protected total) in
    let eb = fitted-is (length bytes) code fc eb in
    let eo = fitted-is (length offsets) protected fp eo in
    let r : Ran q code d p t n = rw (front_of (length bytes) code eb, front_of (length offsets) protected eo) at r₀ in
    let many : length q.protected ≡ length protected = as_many s rules (pipeline code protected total) in
    let short : length q.bytecode ≤ length code = omega (arith, r.end, r.within) in
    record {
      code = rw (r.bytes, eb) (refilled (length bytes) code q.bytecode (length code) refl fc short);
      protected = rw (r.protected, eo) (exactly (length offsets) protected q.protected many);
      map = r.map;
      end = r.end;
    }
