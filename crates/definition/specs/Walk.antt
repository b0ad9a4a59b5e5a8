-- How emission is written down in Expr and Stmt: a walk of the tree gives the emitter's calls in order, and numbers labels as it creates
-- them, so that `do` reads as the source does.
use Rattle.std.specs.Prelude.{ℕ, suc, List, [], ◌∷◌, ◌++◌, Bool, true, false}
use Rattle.definition.specs.Emit.{Call, create_label, bind_label, load_variable, store_variable, load_constant, add_constant, emit_opcode, emit_jmp, emit_jmp_if_not, emit_cmp_br, reset_stack_depth, set_position, refused}

-- the number of the next label, after a call and after some
unfoldable pub next : Call → ℕ → ℕ
next (create_label h) n = suc n
next (bind_label l) n = n
next (load_variable v) n = n
next (store_variable v) n = n
next (load_constant k) n = n
next (add_constant k) n = n
next (emit_opcode r) n = n
next (emit_jmp l) n = n
next (emit_jmp_if_not l) n = n
next (emit_cmp_br c v k l) n = n
next (reset_stack_depth h) n = n
next (set_position p) n = n
next (refused f) n = n

unfoldable pub after : ℕ → List Call → ℕ
after n [] = n
after n (c ∷ cs) = after (next c n) cs

-- from the number of the next label: a result, and the calls
abbrev pub Walk : Type 0 → Type 0
Walk A = ℕ → A × List Call

abbrev pub Calls : Type 0
Calls = Walk (Unit {0})

infixl 10 ◌>>=◌
infixl 10 ◌>>◌
unfoldable pub ◌>>=◌ : {A B : Type 0} → Walk A → (A → Walk B) → Walk B
◌>>=◌ m f = λ n. let r = m n in let q = f r.0 (after n r.1) in (q.0, r.1 ++ q.1)

unfoldable pub ◌>>◌ : {B : Type 0} → Calls → Walk B → Walk B
◌>>◌ m k = λ n. let r = m n in let q = k (after n r.1) in (q.0, r.1 ++ q.1)

unfoldable pub say : Call → Calls
say c = λ n. (tt, c ∷ [])

unfoldable pub nothing : Calls
nothing = λ n. (tt, [])

-- a new label, to be bound where the stack holds h values
unfoldable pub new_label : ℕ → Walk ℕ
new_label h = λ n. (n, create_label h ∷ [])

unfoldable pub when : Bool → Calls → Calls
when true w = w
when false w = nothing

-- `unfolding open-Walk` names all of this module's definitions at once
unfoldable pub open-Walk : Unit {0}
unfolding next after ◌>>=◌ ◌>>◌ say nothing new_label when
open-Walk = tt
