-- What a list of emitter calls does to the stack's height, and which labels it binds; and how the parts of a walk join.
use Prim.Native.Nat.{ℕ, suc, ◌≤◌, ◌<◌, zero-le}
use mathlib.Core.Path.{◌≡◌, refl, sym, ap, subst}
use mathlib.Core.List.{List, [], ◌∷◌, ◌++◌}
use mathlib.Core.Bool.{Bool, true, false}
use mathlib.Core.Option.{Option, some, none}
use native.Mathlib.Omega.{arith}
use native.Mathlib.Nat.{le_trans}
use Rattle.definition.specs.Opcode.{Role, CompareOp, size, needs, effect, same, flow, shift, Flow, onward, away, either, stop}
use Rattle.definition.specs.Tree.{Pos, Fault}
use Rattle.definition.specs.Emit.{Call, create_label, bind_label, load_variable, store_variable, load_constant, add_constant, emit_opcode, emit_jmp, emit_jmp_if_not, emit_cmp_br, reset_stack_depth, set_position, refused}
use Rattle.definition.specs.Walk.{next, after, Calls, ◌>>=◌, ◌>>◌, say, nothing, new_label}
use Rattle.definition.specs.Claims.{Either, left, right, branches}
use Rattle.field.proofs.Results.{never}

-- does a run go on behind an instruction?
unfoldable pub falls : Flow → Bool
falls onward = true
falls away = false
falls either = true
falls stop = false

unfoldable pub Stops : Flow → Type 0
Stops onward = ⊥
Stops away = ⊥
Stops either = ⊥
Stops stop = Unit {0}

-- ---- labels

-- Λ gives each label the height it was created with, from number n on
unfoldable pub Held : (ℕ → ℕ) → ℕ → Call → Type 0
Held Λ n (create_label h) = Λ n ≡ h
Held Λ n (bind_label l) = Unit {0}
Held Λ n (load_variable v) = Unit {0}
Held Λ n (store_variable v) = Unit {0}
Held Λ n (load_constant k) = Unit {0}
Held Λ n (add_constant k) = Unit {0}
Held Λ n (emit_opcode r) = Unit {0}
Held Λ n (emit_jmp l) = Unit {0}
Held Λ n (emit_jmp_if_not l) = Unit {0}
Held Λ n (emit_cmp_br c v k l) = Unit {0}
Held Λ n (reset_stack_depth h) = Unit {0}
Held Λ n (set_position p) = Unit {0}
Held Λ n (refused f) = Unit {0}

unfoldable pub Holds : (ℕ → ℕ) → ℕ → List Call → Type 0
Holds Λ n [] = Unit {0}
Holds Λ n (c ∷ cs) = Held Λ n c × Holds Λ (next c n) cs

-- the label that a call jumps to
unfoldable pub aim : Call → Option ℕ
aim (create_label h) = none
aim (bind_label l) = none
aim (load_variable v) = none
aim (store_variable v) = none
aim (load_constant k) = none
aim (add_constant k) = none
aim (emit_opcode r) = none
aim (emit_jmp l) = some l
aim (emit_jmp_if_not l) = some l
aim (emit_cmp_br c v k l) = some l
aim (reset_stack_depth h) = none
aim (set_position p) = none
aim (refused f) = none

pub data Jumps (l : ℕ) : List Call → Type 0 where
  this : {c : Call} {cs : List Call} → aim c ≡ some l → Jumps l (c ∷ cs)
  later : {c : Call} {cs : List Call} → Jumps l cs → Jumps l (c ∷ cs)

-- one of the calls binds a label that has been created; n is the number of the next label
pub data Bound (l : ℕ) : ℕ → List Call → Type 0 where
  here : {n : ℕ} {cs : List Call} → l < n → Bound l n (bind_label l ∷ cs)
  there : {n : ℕ} {c : Call} {cs : List Call} → Bound l (next c n) cs → Bound l n (c ∷ cs)

-- ---- heights

-- an instruction of one byte, which is no branch, at height h
pub record OneByte (r : Role) (h : ℕ) : Type 0 where
  pub size : size r ≡ 1
  pub enough : needs r ≤ h
  pub plain : branches (flow r) ≡ false
  pub stops : Stops (flow r) → h ≡ 0

-- a call at height h, tracked as d, is safe and leads to h', tracked as d'; behind a jump any height may stand
unfoldable pub Step : (ℕ → ℕ) → Call → ℕ → ℕ → ℕ → ℕ → Type 0
Step Λ (create_label g) h d h' d' = (h ≡ h') × (d ≡ d')
Step Λ (bind_label l) h d h' d' = (h ≡ h') × (d ≡ d') × (Λ l ≡ h)
Step Λ (load_variable v) h d h' d' = (h ≡ d) × (h' ≡ suc h) × (d' ≡ suc h)
Step Λ (store_variable v) h d h' d' = (h ≡ d) × (h ≡ suc h') × (d' ≡ h')
Step Λ (load_constant k) h d h' d' = (h ≡ d) × (h' ≡ suc h) × (d' ≡ suc h)
Step Λ (add_constant k) h d h' d' = (h ≡ h') × (d ≡ d')
Step Λ (emit_opcode r) h d h' d' = (h ≡ d) × (h' ≡ shift (effect r) h) × (d' ≡ h') × OneByte r h
Step Λ (emit_jmp l) h d h' d' = (h ≡ d) × (d ≡ d') × (Λ l ≡ h)
Step Λ (emit_jmp_if_not l) h d h' d' = (h ≡ d) × (h ≡ suc h') × (d' ≡ h') × (Λ l ≡ h')
Step Λ (emit_cmp_br c v k l) h d h' d' = (h ≡ d) × (h' ≡ h) × (d' ≡ h) × (Λ l ≡ h)
Step Λ (reset_stack_depth x) h d h' d' = (h ≡ h') × (d' ≡ x)
Step Λ (set_position p) h d h' d' = (h ≡ h') × (d ≡ d')
Step Λ (refused f) h d h' d' = Unit {0}

pub data Safe (Λ : ℕ → ℕ) : List Call → ℕ → ℕ → ℕ → ℕ → Type 0 where
  ends : {h d : ℕ} → Safe Λ [] h d h d
  goes : {c : Call} {cs : List Call} {h d h₁ d₁ h₂ d₂ : ℕ} → Step Λ c h d h₁ d₁ → Safe Λ cs h₁ d₁ h₂ d₂ → Safe Λ (c ∷ cs) h d h₂ d₂

-- ---- lists of calls

safe-append : {Λ : ℕ → ℕ} {xs ys : List Call} {h d h₁ d₁ h₂ d₂ : ℕ} → Safe Λ xs h d h₁ d₁ → Safe Λ ys h₁ d₁ h₂ d₂ → Safe Λ (xs ++ ys) h d h₂ d₂
safe-append ends t = t
safe-append (goes s r) t = goes s (safe-append r t)

holds-split : (Λ : ℕ → ℕ) (n : ℕ) (xs ys : List Call) → Holds Λ n (xs ++ ys) → Holds Λ n xs × Holds Λ (after n xs) ys
unfolding Holds after
holds-split Λ n [] ys t = (tt, t)
holds-split Λ n (c ∷ cs) ys t = let r = holds-split Λ (next c n) cs ys t.1 in ((t.0, r.0), r.1)

jumps-split : {l : ℕ} (xs ys : List Call) → Jumps l (xs ++ ys) → Either (Jumps l xs) (Jumps l ys)
jumps-split [] ys q = right q
jumps-split (x ∷ xs) ys (this p) = left (this p)
jumps-split (x ∷ xs) ys (later q) = elim (jumps-split xs ys q) [ left r ↦ left (later r) | right r ↦ right r ]

before : {l n : ℕ} {xs : List Call} (ys : List Call) → Bound l n xs → Bound l n (xs ++ ys)
before ys (here p) = here p
before ys (there q) = there (before ys q)

behind : {l : ℕ} (n : ℕ) (xs : List Call) {ys : List Call} → Bound l (after n xs) ys → Bound l n (xs ++ ys)
unfolding after
behind n [] q = q
behind n (x ∷ xs) q = there (behind (next x n) xs q)

pub next-mono : (c : Call) (n : ℕ) → n ≤ next c n
unfolding next
next-mono (create_label h) n = omega arith
next-mono (bind_label l) n = omega arith
next-mono (load_variable v) n = omega arith
next-mono (store_variable v) n = omega arith
next-mono (load_constant k) n = omega arith
next-mono (add_constant k) n = omega arith
next-mono (emit_opcode r) n = omega arith
next-mono (emit_jmp l) n = omega arith
next-mono (emit_jmp_if_not l) n = omega arith
next-mono (emit_cmp_br c v k l) n = omega arith
next-mono (reset_stack_depth h) n = omega arith
next-mono (set_position p) n = omega arith
next-mono (refused f) n = omega arith

pub after-mono : (n : ℕ) (cs : List Call) → n ≤ after n cs
unfolding after
after-mono n [] = omega arith
after-mono n (c ∷ cs) = le_trans (next-mono c n) (after-mono (next c n) cs)

-- ---- walks

-- a walk that binds a label, wherever it starts
pub record Binds (l : ℕ) (m : Calls) : Type 0 where
  pub bound : (n : ℕ) → l < n → Bound l n (m n).1

pub sooner : {l : ℕ} {m : Calls} (k : Calls) → Binds l m → Binds l (m >> k)
unfolding ◌>>◌
sooner {m = m} k b = record { bound = λ n lt. before (k (after n (m n).1)).1 (b.bound n lt) }

pub further : {l : ℕ} (m : Calls) {k : Calls} → Binds l k → Binds l (m >> k)
unfolding ◌>>◌
further m b = record { bound = λ n lt. behind n (m n).1 (b.bound (after n (m n).1) (le_trans lt (after-mono n (m n).1))) }

pub binds : (l : ℕ) → Binds l (say (bind_label l))
unfolding say
binds l = record { bound = λ n lt. here lt }

pub inside : {l : ℕ} (g : ℕ) {f : ℕ → Calls} → ((x : ℕ) → Binds l (f x)) → Binds l (new_label g >>= f)
unfolding ◌>>=◌ new_label after next
inside g b = record { bound = λ n lt. there ((b n).bound (suc n) (omega arith)) }

-- a walk from height h, tracked as d, to h', tracked as d', where Λ are its labels' heights; what it jumps to it binds, or it is of E
pub record Sound (Λ : ℕ → ℕ) (E : ℕ → Type 0) (m : Calls) (h d h' d' : ℕ) : Type 0 where
  pub safe : (n : ℕ) → Holds Λ n (m n).1 → Safe Λ (m n).1 h d h' d'
  pub closed : (n l : ℕ) → Holds Λ n (m n).1 → Jumps l (m n).1 → Either (E l) (Bound l n (m n).1)

-- E and one label more
abbrev pub With : ℕ → (ℕ → Type 0) → ℕ → Type 0
With l E = λ x. Either (x ≡ l) (E x)

pub wider : {Λ : ℕ → ℕ} {E F : ℕ → Type 0} {m : Calls} {h d h' d' : ℕ} → ((l : ℕ) → E l → F l) → Sound Λ E m h d h' d' → Sound Λ F m h d h' d'
wider f s = record { safe = s.safe; closed = λ n l H j. elim (s.closed n l H j) [ left e ↦ left (f l e) | right b ↦ right b ] }

infixr 10 ◌⨾◌
pub ◌⨾◌ : {Λ : ℕ → ℕ} {E : ℕ → Type 0} {m k : Calls} {h d h₁ d₁ h₂ d₂ : ℕ} → Sound Λ E m h d h₁ d₁ → Sound Λ E k h₁ d₁ h₂ d₂ → Sound Λ E (m >> k) h d h₂ d₂
unfolding ◌>>◌
◌⨾◌ {Λ = Λ} {m = m} {k = k} s t = record {
  safe = λ n H. let r = holds-split Λ n (m n).1 (k (after n (m n).1)).1 H in safe-append (s.safe n r.0) (t.safe (after n (m n).1) r.1);
  closed = λ n l H j. let r = holds-split Λ n (m n).1 (k (after n (m n).1)).1 H in elim (jumps-split (m n).1 (k (after n (m n).1)).1 j) [
    | left p ↦ elim (s.closed n l r.0 p) [ left e ↦ left e | right b ↦ right (before (k (after n (m n).1)).1 b) ]
    | right q ↦ elim (t.closed (after n (m n).1) l r.1 q) [ left e ↦ left e | right b ↦ right (behind n (m n).1 b) ]
  ];
}

-- a new label of height g; the rest is of F, and what of it is not of E it binds
creates : {Λ : ℕ → ℕ} {E : ℕ → Type 0} (F : ℕ → ℕ → Type 0) {g h d h' d' : ℕ} {f : ℕ → Calls} → ((l x : ℕ) → F l x → Either (E x) ((x ≡ l) × Binds l (f l)))
    → ((l : ℕ) → Λ l ≡ g → Sound Λ (F l) (f l) h d h' d') → Sound Λ E (new_label g >>= f) h d h' d'
unfolding ◌>>=◌ new_label after next Step Holds Held aim
creates {Λ = Λ} {E = E} F {g = g} {h = h} {d = d} {f = f} b s = record {
  safe = λ n H. goes {c = create_label g} {h₁ = h} {d₁ = d} (refl, refl) ((s n H.0).safe (suc n) H.1);
  closed = λ n l H j. shut n l H.0 H.1 j;
}
  where
    shut : (n l : ℕ) → Λ n ≡ g → Holds Λ (suc n) (f n (suc n)).1 → Jumps l (create_label g ∷ (f n (suc n)).1) → Either (E l) (Bound l n (create_label g ∷ (f n (suc n)).1))
    shut n l e H (this p) = never (cc)
    shut n l e H (later j) = elim ((s n e).closed (suc n) l H j) [
      | left x ↦ elim (b n l x) [
        | left y ↦ left y
        | right y ↦ right (there (subst (λ z. Bound z (suc n) (f n (suc n)).1) (sym y.0) (y.1.bound (suc n) (omega arith))))
      ]
      | right y ↦ right (there y)
    ]

-- a new label that the rest binds, and one that nothing jumps to
pub opens : {Λ : ℕ → ℕ} {E : ℕ → Type 0} {g h d h' d' : ℕ} {f : ℕ → Calls} → ((l : ℕ) → Binds l (f l))
    → ((l : ℕ) → Λ l ≡ g → Sound Λ (With l E) (f l) h d h' d') → Sound Λ E (new_label g >>= f) h d h' d'
opens {E = E} b s = creates (λ l. With l E) (λ l x e. elim e [ left p ↦ right (p, b l) | right y ↦ left y ]) s

pub leaves : {Λ : ℕ → ℕ} {E : ℕ → Type 0} {g h d h' d' : ℕ} {f : ℕ → Calls} → ((l : ℕ) → Λ l ≡ g → Sound Λ E (f l) h d h' d') → Sound Λ E (new_label g >>= f) h d h' d'
leaves {E = E} s = creates (λ l. E) (λ l x e. left e) s

pub silent : {Λ : ℕ → ℕ} {E : ℕ → Type 0} {h d : ℕ} → Sound Λ E nothing h d h d
unfolding nothing
silent = record { safe = λ n H. ends; closed = λ n l H j. elim j [ ] }

-- ---- one call

module _ {Λ : ℕ → ℕ} {E : ℕ → Type 0} where
  says : {h d h' d' : ℕ} (c : Call) → ((l : ℕ) → aim c ≡ some l → E l) → Step Λ c h d h' d' → Sound Λ E (say c) h d h' d'
  unfolding say
  says c e s = record { safe = λ n H. goes s ends; closed = λ n l H j. shut n l j }
    where
      shut : (n l : ℕ) → Jumps l (c ∷ []) → Either (E l) (Bound l n (c ∷ []))
      shut n l (this p) = left (e l p)
      shut n l (later j) = elim j [ ]

  -- a call that jumps nowhere, and one that jumps to a label of E
  still : {h d h' d' : ℕ} (c : Call) → aim c ≡ none → Step Λ c h d h' d' → Sound Λ E (say c) h d h' d'
  still c a s = says c (λ l p. never (cc)) s

  aiming : {h d h' d' x : ℕ} (c : Call) → aim c ≡ some x → E x → Step Λ c h d h' d' → Sound Λ E (say c) h d h' d'
  aiming c a e s = says c (λ l p. let q : _ ≡ l = cc in subst E q e) s

  pub loads : {h : ℕ} (v : ℕ) → Sound Λ E (say (load_variable v)) h h (suc h) (suc h)
  unfolding Step aim
  loads v = still (load_variable v) refl (refl, refl, refl)

  pub stores : {h : ℕ} (v : ℕ) → Sound Λ E (say (store_variable v)) (suc h) (suc h) h h
  unfolding Step aim
  stores v = still (store_variable v) refl (refl, refl, refl)

  pub pushes : {h : ℕ} (k : ℕ) → Sound Λ E (say (load_constant k)) h h (suc h) (suc h)
  unfolding Step aim
  pushes k = still (load_constant k) refl (refl, refl, refl)

  pub pools : {h d : ℕ} (k : ℕ) → Sound Λ E (say (add_constant k)) h d h d
  unfolding Step aim
  pools k = still (add_constant k) refl (refl, refl)

  -- an instruction of one byte that goes on behind itself
  pub emits : {h : ℕ} (r : Role) → size r ≡ 1 → flow r ≡ onward → needs r ≤ h → Sound Λ E (say (emit_opcode r)) h h (shift (effect r) h) (shift (effect r) h)
  unfolding Step aim branches Stops
  emits {h = h} r z f n = still (emit_opcode r) refl
      (refl, refl, refl, record { size = z; enough = n; plain = ap branches f; stops = λ x. absurd (subst (λ y. Stops y) f x) })

  pub returns : (r : Role) → size r ≡ 1 → flow r ≡ stop → needs r ≡ 0 → effect r ≡ same → Sound Λ E (say (emit_opcode r)) 0 0 0 0
  unfolding Step aim branches Stops shift
  returns r z f n e = still (emit_opcode r) refl
      (refl, ap (λ x. shift x 0) (sym e), refl, record { size = z; enough = subst (λ x. x ≤ 0) (sym n) zero-le; plain = ap branches f; stops = λ x. refl })

  pub binding : {h d : ℕ} (l : ℕ) → Λ l ≡ h → Sound Λ E (say (bind_label l)) h d h d
  unfolding Step aim
  binding l p = still (bind_label l) refl (refl, refl, p)

  pub resets : {d : ℕ} (x : ℕ) → Sound Λ E (say (reset_stack_depth x)) x d x x
  unfolding Step aim
  resets x = still (reset_stack_depth x) refl (refl, refl)

  pub places : {h d : ℕ} (p : Pos) → Sound Λ E (say (set_position p)) h d h d
  unfolding Step aim
  places p = still (set_position p) refl (refl, refl)

  pub refuses : {h d h' d' : ℕ} (f : Fault) → Sound Λ E (say (refused f)) h d h' d'
  unfolding Step aim
  refuses f = still (refused f) refl tt

  pub jumps : {h h' : ℕ} (l : ℕ) → Λ l ≡ h → E l → Sound Λ E (say (emit_jmp l)) h h h' h
  unfolding Step aim
  jumps l p e = aiming (emit_jmp l) refl e (refl, refl, p)

  pub unless : {h : ℕ} (l : ℕ) → Λ l ≡ h → E l → Sound Λ E (say (emit_jmp_if_not l)) (suc h) (suc h) h h
  unfolding Step aim
  unless l p e = aiming (emit_jmp_if_not l) refl e (refl, refl, refl, p)

  pub compares : {h : ℕ} (c : CompareOp) (v k l : ℕ) → Λ l ≡ h → E l → Sound Λ E (say (emit_cmp_br c v k l)) h h h h
  unfolding Step aim
  compares c v k l p e = aiming (emit_cmp_br c v k l) refl e (refl, refl, refl, p)
