-- What a method did in a world, and where a part stands.
use mathlib.Core.Path.{◌≡◌, ap}
use mathlib.Core.List.{List}
use Prim.Native.Nat.{ℕ, ◌-◌}
use Rattle.definition.specs.Opcode.{Sheet}
use Rattle.definition.specs.Emit.{Call, create_label}
use Rattle.emit.specs.declared.Emitter.{Emitter}
use Rattle.emit.specs.View.{World, world}
use Rattle.emit.specs.Steps.{call, Step, Ready, Bare, Booked, Created, Pooled, Coded, Filled}
use Rattle.emit.proofs.Steps.{bare-filled, booked-filled, created-filled, pooled-filled, coded-filled}
use Rattle.stmt_parts.specs.declared.Context.{Context}
use Rattle.stmt_parts.specs.Context.{inner_of}

-- ---- what a method did in a world

module _ {u : World} (y : Ready u) where
  pub bare-on : (s : Sheet) {c : Call} {r : Emitter} → Bare c u.e r → Filled (call s c) u (world r u.code u.book u.pool)
  bare-on s b = bare-filled {e = u.e} {code = u.code} {book = u.book} {pool = u.pool} y s b

  pub booked-on : (s : Sheet) {c : Call} {r : Emitter} {book' : List ℕ} → Booked c u.e u.book r book' → Filled (call s c) u (world r u.code book' u.pool)
  booked-on s b = booked-filled {e = u.e} {code = u.code} {book = u.book} {pool = u.pool} y s b

  pub created-on : (s : Sheet) (h : ℕ) {r : Emitter} {book' : List ℕ} {l : ℕ} → Created u.e u.book r book' l → Filled (call s (create_label h)) u (world r u.code book' u.pool)
  created-on s h b = created-filled {e = u.e} {code = u.code} {book = u.book} {pool = u.pool} y s h b

  pub pooled-on : (s : Sheet) {c : Call} {r : Emitter} {pool' : List ℕ} → Pooled c u.e u.pool r pool' → Filled (call s c) u (world r u.code u.book pool')
  pooled-on s b = pooled-filled {e = u.e} {code = u.code} {book = u.book} {pool = u.pool} y s b

  pub coded-on : {f : Step} {r : Emitter} {code' book' : List ℕ} → Coded f u.e u.code u.book r code' book' → Filled f u (world r code' book' u.pool)
  coded-on b = coded-filled {e = u.e} {code = u.code} {book = u.book} {pool = u.pool} y b

-- ---- where a part stands

module _ (ctx : Context) {k : Context} (deep : k ≡ inner_of ctx) where
  pub inner-left : k.left ≡ ctx.left - 1
  inner-left = ap (λ (x : Context). x.left) deep

  pub inner-inside : k.inside ≡ ctx.inside
  inner-inside = ap (λ (x : Context). x.inside) deep
