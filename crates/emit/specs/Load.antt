-- What a load did. The two foldings and the plain load are told apart here and nowhere else.
use Rattle.std.specs.Prelude.{ℕ, ◌-◌, ◌≡◌, true, false, List, [], eqb, length, Option, Some, None}
use Rattle.definition.specs.Res.{Res, ok, refuse, ◌>>=◌, ◌>>◌}
use Rattle.definition.specs.Opcode.{Sheet, dup, load_var}
use Rattle.definition.specs.Emit as def
use Rattle.definition.specs.Emit.{load_variable, act, add, fold_store, le16}
use Rattle.emit.specs.declared.Emitter.{Emitter}
use Rattle.emit.specs.declared.load.Loaded.{Loaded}
use Rattle.emit.specs.declared.load.Read.{Read}
use Rattle.emit.specs.declared.load.LoadForm.{LoadForm}
use Rattle.emit.specs.declared.load.LoadForm.TheVariants.{Load, Dup, Fold}
use Rattle.emit.specs.View.{world, view}
use Rattle.emit.specs.Steps.{call, Coded}

-- how a load of v is emitted, by the last instruction
unfoldable pub load_form : def.Last → ℕ → LoadForm
load_form def.other v = Load
load_form (def.loaded w) v = elim (eqb w v) [ true ↦ Dup | false ↦ Load ]
load_form (def.stored w) v = elim (eqb w v) [ true ↦ Fold | false ↦ Load ]

-- what each form does
unfoldable pub load_by : LoadForm → Sheet → ℕ → def.Emitter → Res def.Emitter
load_by Load s v e = add s load_var (le16 v) (def.loaded v) e
load_by Dup s v e = add s dup [] def.other e
load_by Fold s v e = fold_store s e

-- what each form reads, where the code had `size` bytes before
unfoldable pub read_by : LoadForm → ℕ → Read
read_by Load size = record { offset = size; dup = false; moved = false }
read_by Dup size = record { offset = size; dup = true; moved = false }
read_by Fold size = record { offset = size - 3; dup = true; moved = true }

-- nothing after a refusal
unfoldable pub read_of : Res Read → Option Read
read_of (ok r) = Some r
read_of (refuse n p) = None

-- what loading v does in a state, unless it is refused
unfoldable pub reading : Sheet → ℕ → def.Emitter → Res Read
reading s v e = act s (load_variable v) e >> ok (read_by (load_form e.last v) (length e.bytecode))

-- what `load_variable` answers: the step, and what it did
pub record Loads (s : Sheet) (v : ℕ) (e : Emitter) (code book : List ℕ) (r : Loaded) (code' book' : List ℕ) : Type 0 where
  pub coded : Coded (call s (load_variable v)) e code book r.emitter code' book'
  pub read : (pool : List ℕ) → r.read ≡ read_of (view (world e code book pool) >>= reading s v)
