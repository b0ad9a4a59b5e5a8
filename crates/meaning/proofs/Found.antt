-- Where a label stands in folded calls and in their rows.
use Prim.Native.Nat.{ℕ, ◌+◌, ◌≤◌, ◌<◌}
use mathlib.Core.Path.{◌≡◌, refl, sym, ◌∙◌, ap, subst}
use mathlib.Core.List.{List, [], ◌∷◌, ◌++◌}
use mathlib.Core.Bool.{Bool, true, false}
use mathlib.Core.Option.{Option, some, none}
use native.Mathlib.Omega.{arith}
use lib.Dec.{eqb}
use lib.ListN.{length, get_or, length-append}
use borrow.Author.Tests.{eqb-true}
use Rattle.definition.specs.Opcode.{Sheet}
use Rattle.definition.specs.Emit.{Call, create_label, bind_label, load_variable, store_variable, load_constant, add_constant, emit_opcode, emit_jmp, emit_jmp_if_not, emit_cmp_br, reset_stack_depth, set_position, refused, Last, other, stored}
use Rattle.definition.specs.Walk.{next}
use Rattle.definition.specs.Count.{one_if}
use Rattle.field.proofs.Results.{never}
use Rattle.runs.proofs.Heights.{aim, Jumps, this, later, Bound, here, there}
use Rattle.counting.proofs.Once.{is_bind, binds}
use Rattle.counting.proofs.Rows.{Row, bytes_of, code_of}
use Rattle.meaning.proofs.Calls.{behind, behind-past, behind-found, binds-own}
use Rattle.meaning.proofs.Folded.{fold, Folds, kept, label, again, gone, twice, fold-call}
use Rattle.meaning.proofs.Lays.{Quiet, creating, pooling, resetting, setting, Is, Lays, ended, quiet, binding, row}

-- ---- folding keeps what is bound and what is jumped to

bound-call : (l n : ℕ) (c : Call) (cs ds : List Call) → Folds cs c ds → ((t : Last) (m : ℕ) → Bound l m cs → Bound l m (fold t cs)) → Bound l n (c ∷ cs) → Bound l n ds
unfolding next
bound-call l n c cs ds (kept t z) rec (here p) = here p
bound-call l n c cs ds (kept t z) rec (there b) = there (rec t _ b)
bound-call l n c cs ds label rec (here p) = here p
bound-call l n c cs ds label rec (there b) = there (rec other n b)
bound-call l n c cs ds again rec (there b) = there (rec other n b)
bound-call l n c cs ds gone rec (there b) = rec other n b
bound-call l n c cs ds (twice {v = v}) rec (there b) = there (there (rec (stored v) n b))

pub bound-fold : (l n : ℕ) (t : Last) (cs : List Call) → Bound l n cs → Bound l n (fold t cs)
bound-fold l n t [] b = elim b [ ]
bound-fold l n t (c ∷ cs) b = bound-call l n c cs _ (fold-call c t cs) (λ u m x. bound-fold l m u cs x) b

jumps-call : (l : ℕ) (c : Call) (cs ds : List Call) → Folds cs c ds → ((t : Last) → Jumps l (fold t cs) → Jumps l cs) → Jumps l ds → Jumps l (c ∷ cs)
unfolding aim
jumps-call l c cs ds (kept t z) rec (this p) = this p
jumps-call l c cs ds (kept t z) rec (later j) = later (rec t j)
jumps-call l c cs ds label rec (this p) = never (cc)
jumps-call l c cs ds label rec (later j) = later (rec other j)
jumps-call l c cs ds again rec (this p) = never (cc)
jumps-call l c cs ds again rec (later j) = later (rec other j)
jumps-call l c cs ds gone rec j = later (rec other j)
jumps-call l c cs ds twice rec (this p) = never (cc)
jumps-call l c cs ds twice rec (later (this p)) = never (cc)
jumps-call l c cs ds (twice {v = v}) rec (later (later j)) = later (rec (stored v) j)

pub jumps-fold : (l : ℕ) (t : Last) (cs : List Call) → Jumps l (fold t cs) → Jumps l cs
unfolding fold
jumps-fold l t [] j = j
jumps-fold l t (c ∷ cs) j = jumps-call l c cs _ (fold-call c t cs) (λ u x. jumps-fold l u cs x) j

binds-call : (l : ℕ) (c : Call) (cs ds : List Call) → Folds cs c ds → ((t : Last) → binds l (fold t cs) ≡ binds l cs) → binds l ds ≡ binds l (c ∷ cs)
unfolding binds is_bind
binds-call l c cs ds (kept t z) same = ap (λ x. is_bind l c + x) (same t)
binds-call l c cs ds (label {l = k}) same = ap (λ x. one_if (eqb k l) + x) (same other)
binds-call l c cs ds again same = ap (λ x. 0 + x) (same other)
binds-call l c cs ds gone same = let q = same other in omega arith
binds-call l c cs ds (twice {v = v}) same = let q = same (stored v) in omega arith

pub binds-fold : (l : ℕ) (t : Last) (cs : List Call) → binds l (fold t cs) ≡ binds l cs
unfolding fold binds
binds-fold l t [] = refl
binds-fold l t (c ∷ cs) = binds-call l c cs _ (fold-call c t cs) (λ u. binds-fold l u cs)

-- ---- a label that is bound once is where it was bound

bound-binds : (l n : ℕ) (cs : List Call) → Bound l n cs → 1 ≤ binds l cs
unfolding binds
bound-binds l n cs (here {cs = ds} p) = let q = binds-own l in omega arith
bound-binds l n cs (there {n = k} {c = c} {cs = ds} b) = let q = bound-binds l (next c k) ds b in omega arith

module _ (s : Sheet) (ks : List ℕ) (labels : List (Option ℕ)) (l : ℕ) where
  pub record Found (cs : List Call) (p : ℕ) (B : List Row) : Type 0 where
    pub pre : List Call
    pub split : cs ≡ pre ++ behind l cs
    pub front : List Row
    pub back : List Row
    pub cut : B ≡ front ++ back
    pub place : ℕ
    pub is : place ≡ p + length (code_of s front)
    pub n : ℕ
    pub lays : Lays s ks labels n place (behind l cs) back
    pub label : get_or labels l none ≡ some place

  passed : (c : Call) (cs : List Call) (p : ℕ) (B : List Row) → is_bind l c ≡ 0 → Found cs p B → Found (c ∷ cs) p B
  passed c cs p B z x =
      let e = behind-past l c cs z in
      record {
        pre = c ∷ x.pre;
        split = ap (λ y. c ∷ y) x.split ∙ ap (λ y. c ∷ (x.pre ++ y)) (sym e);
        front = x.front;
        back = x.back;
        cut = x.cut;
        place = x.place;
        is = x.is;
        n = x.n;
        lays = subst (λ y. Lays s ks labels x.n x.place y x.back) (sym e) x.lays;
        label = x.label;
      }

  -- a row more in front
  rowed : (cs : List Call) (p : ℕ) (r : Row) (B : List Row) → Found cs (p + length (bytes_of s r)) B → Found cs p (r ∷ B)
  unfolding code_of
  rowed cs p r B x = record {
    pre = x.pre;
    split = x.split;
    front = r ∷ x.front;
    back = x.back;
    cut = ap (λ y. r ∷ y) x.cut;
    place = x.place;
    is = let q = x.is in omega (arith, length-append (bytes_of s r) (code_of s x.front));
    n = x.n;
    lays = x.lays;
    label = x.label;
  }

  quiet-plain : (c : Call) → Quiet c → is_bind l c ≡ 0
  unfolding is_bind
  quiet-plain c creating = refl
  quiet-plain c pooling = refl
  quiet-plain c resetting = refl
  quiet-plain c setting = refl

  row_plain : (c : Call) (r : Row) → Is s ks c r → (is_bind l c ≡ 0) × ((n : ℕ) → next c n ≡ n)
  unfolding Is next is_bind
  row_plain (create_label h) r i = absurd i
  row_plain (bind_label k) r i = absurd i
  row_plain (load_variable v) r i = (refl, λ n. refl)
  row_plain (store_variable v) r i = (refl, λ n. refl)
  row_plain (load_constant k) r i = (refl, λ n. refl)
  row_plain (add_constant k) r i = absurd i
  row_plain (emit_opcode o) r i = (refl, λ n. refl)
  row_plain (emit_jmp k) r i = (refl, λ n. refl)
  row_plain (emit_jmp_if_not k) r i = (refl, λ n. refl)
  row_plain (emit_cmp_br c v k m) r i = (refl, λ n. refl)
  row_plain (reset_stack_depth h) r i = absurd i
  row_plain (set_position q) r i = absurd i
  row_plain (refused f) r i = absurd i

  no_bound : {X : Type 0} (n : ℕ) → Bound l n [] → X
  no_bound n b = elim b [ ]

  -- what a bound in some calls says behind the first of them
  tail-bound : (n : ℕ) (c : Call) (cs : List Call) → is_bind l c ≡ 0 → Bound l n (c ∷ cs) → Bound l (next c n) cs
  tail-bound n c cs z (here p) = absurd (let q = binds-own l in omega arith)
  tail-bound n c cs z (there b) = b

  bound-below : (n : ℕ) (k : ℕ) (cs : List Call) → eqb k l ≡ true → binds l (bind_label k ∷ cs) ≤ 1 → Bound l n (bind_label k ∷ cs) → l < n
  unfolding binds is_bind one_if
  bound-below n k cs e o (here p) = p
  bound-below n k cs e o (there b) = absurd (let q : one_if (eqb k l) ≡ 1 = ap one_if e in let u = bound-binds l _ cs b in omega arith)

  bound-case : (k : ℕ) (ds : List Call) (n p : ℕ) (B : List Row) (t : Bool) → eqb k l ≡ t → (k < n → get_or labels k none ≡ some p) → Lays s ks labels n p ds B → Bound l n (bind_label k ∷ ds) → binds l (bind_label k ∷ ds) ≤ 1
      → (is_bind l (bind_label k) ≡ 0 → Found ds p B) → Found (bind_label k ∷ ds) p B
  unfolding behind is_bind one_if code_of
  bound-case k ds n p B true e f x b o rec =
      let g = behind-found l k ds e in
      let same : k ≡ l = eqb-true k l e in
      record {
        pre = bind_label k ∷ [];
        split = ap (λ y. bind_label k ∷ y) (sym g);
        front = [];
        back = B;
        cut = refl;
        place = p;
        is = omega arith;
        n = n;
        lays = subst (λ y. Lays s ks labels n p y B) (sym g) x;
        label = subst (λ y. get_or labels y none ≡ some p) same (f (subst (λ y. y < n) (sym same) (bound-below n k ds e o b)));
      }
  bound-case k ds n p B false e f x b o rec = passed (bind_label k) ds p B (ap one_if e) (rec (ap one_if e))

  pub find : (cs : List Call) (n p : ℕ) (B : List Row) → Lays s ks labels n p cs B → Bound l n cs → binds l cs ≤ 1 → Found cs p B
  unfolding next binds
  find cs n p B ended b o = no_bound n b
  find cs n p B (quiet {c = c} {cs = ds} i x) b o = passed c ds p B (quiet-plain c i) (find ds (next c n) p B x (tail-bound n c ds (quiet-plain c i) b) (omega arith))
  find cs n p B (binding {l = k} {cs = ds} f x) b o = bound-case k ds n p B (eqb k l) refl f x b o (λ z. find ds n p B x (tail-bound n (bind_label k) ds z b) (omega arith))
  find cs n p B (row {c = c} {r = r} {cs = ds} {rows = rs} i x) b o =
      let y = row_plain c r i in
      rowed _ p r rs (passed c ds _ rs y.0 (find ds n _ rs x (subst (λ k. Bound l k ds) (y.1 n) (tail-bound n c ds y.0 b)) (omega arith)))
