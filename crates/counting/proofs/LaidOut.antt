-- Every FOR of a program that counts up over constants stands in finished code as Laid says, where its body does not end with a store to
-- its control; where it does, the place after the body is no instruction's start.
use Prim.Native.Nat.{ℕ, ◌+◌, ◌-◌, ◌*◌, ◌/◌, ◌%◌, suc, ◌≤◌, ◌<◌}
use mathlib.Core.Path.{◌≡◌, refl, sym, ◌∙◌, ap, subst}
use mathlib.Core.List.{List, [], ◌∷◌, ◌++◌, append_assoc, append-nil}
use mathlib.Core.Bool.{Bool, true, false}
use mathlib.Core.Option.{Option, some, none}
use native.Mathlib.Omega.{arith}
use lib.Dec.{eqb}
use lib.ListN.{length, get_or, length-append, length-set, get_or-append}
use lib.Seq.{get_or-set_same}
use borrow.Author.Tests.{ltb-true, eq-eqb}
use Rattle.definition.specs.Field.{has}
use Rattle.definition.specs.Res.{ok, ◌>>=◌}
use Rattle.definition.specs.Opcode.{Role, Sheet, comparison_byte, comparison_of, Gt, load_var, store_var, load_const, dup, arithmetic, Add, jmp, cmp_br, size, traits, traits_of}
use Rattle.definition.specs.Tree.{Program}
use Rattle.definition.specs.Emit.{le16, Call, create_label, bind_label, load_variable, store_variable, load_constant, emit_opcode, emit_jmp, emit_cmp_br, Last, other, loaded, stored, Emitter, emitter_at, index_of, load_after, fold_store, folded, add, act, acts}
use Rattle.definition.specs.Walk.{after}
use Rattle.definition.specs.Stmt.{Loops}
use Rattle.definition.specs.Rewrite.{boundaries_from, moved_to}
use Rattle.definition.specs.Optimize.{optimize}
use Rattle.definition.specs.Compile.{bound_or0, bound_label, in_reach, patch_jumps, jump_targets, finalize_function}
use Rattle.definition.specs.Runs.{target}
use Rattle.definition.specs.Claims.{Either, left, right, Each, ◌also◌}
use Rattle.definition.specs.Machine.{Image, operand_at, constant_at, is_start, image_of}
use Rattle.definition.specs.For.{Places, Emits, For, for_stmt, setting_of, testing_of, body_of, counting_of, length_of, place_after, places_of}
use Rattle.definition.specs.Count.{one_if}
use Rattle.counting.proofs.Laid.{Opening, Laid}
use Rattle.counting.proofs.Once.{OneByte, OneBytes, bytes_left, bytes-right, binds, is_bind, binds-append}
use Rattle.field.proofs.Results.{never, some_is, ok-demand, ok-bind, ok-is}
use Rattle.runs.proofs.Heights.{after-mono}
use Rattle.runs.proofs.Passes.{Reads}
use Rattle.runs.proofs.Decoding.{joined}
use Rattle.runs.proofs.Later.{grown-here, acts-grown}
use Rattle.runs.proofs.Emitted.{relabelled}
use Rattle.runs.proofs.Patched.{aimed_operand, IsNear, NearBy}
use Rattle.runs.proofs.Finished.{Reaches, reach-each}
use Rattle.runs.proofs.Rows.{patch_here}
use Rattle.runs.proofs.Conditions.{indexed}
use Rattle.counting.proofs.Rows.{Row, row_of, unpatched, operand_of, bytes_of, code_of, patches_of, Sized, code-append, patches-append, FormedBy}
use Rattle.counting.proofs.Emitted.{rows_of, last_of, Names, folds_into, folds, acted, folded-formed, Tail, NotLoaded, Within, Goes, goes-all, acts-append}
use Rattle.counting.proofs.Finished.{optimize-same, diagonal, moved-diagonal, among_self, final_bytes, final_rows, instructions_of, code-joined, goal_in, patched-all, wholes}
use Rattle.counting.proofs.ForCalls.{body_closed}
use Rattle.counting.proofs.Placed.{Placed, placed, no_start, operand-at, target-read, boundary-between}

-- ---- calls, one by one

acts-none : (s : Sheet) (e : Emitter) → acts s [] e ≡ ok e
unfolding acts
acts-none s e = refl

acts-cons : (s : Sheet) (c : Call) (cs : List Call) (e u e' : Emitter) → act s c e ≡ ok u → acts s cs u ≡ ok e' → acts s (c ∷ cs) e ≡ ok e'
unfolding acts ◌>>=◌
acts-cons s c cs e u e' p q = ap (λ m. m >>= λ x. acts s cs x) p ∙ q

acts-join : (s : Sheet) (a b : List Call) (e u e' : Emitter) → acts s a e ≡ ok u → acts s b u ≡ ok e' → acts s (a ++ b) e ≡ ok e'
unfolding acts
acts-join s [] b e u e' p q = subst (λ x. acts s b x ≡ ok e') (ok-is p) q
acts-join s (c ∷ a) b e u e' p q =
    let r = ok-bind (act s c e) _ u p in
    acts-cons s c (a ++ b) e r.0 e' r.1 (acts-join s a b r.0 u e' r.2 q)

acts-split : (s : Sheet) (c : Call) (cs : List Call) (e e' : Emitter) → acts s (c ∷ cs) e ≡ ok e' → (u : Emitter) × (act s c e ≡ ok u) × (acts s cs u ≡ ok e')
unfolding acts
acts-split s c cs e e' p = ok-bind (act s c e) _ e' p

-- an emitter whose rows and tracker are known
record At (s : Sheet) (rows : List Row) (l : Last) (e : Emitter) : Type 0 where
  formed : FormedBy s rows e
  last : e.last ≡ l

-- a call that folds nothing: its row behind the others
record Next (s : Sheet) (rows : List Row) (c : Call) (l : Last) (e e' : Emitter) : Type 0 where
  at : At s (rows ++ rows_of s c e'.constants) (last_of c l) e'
  names : Names c e'.constants
  labels : e'.labels ≡ relabelled c (length e.bytecode) e.labels

next-at : {s : Sheet} {rows : List Row} {l : Last} {e : Emitter} (c : Call) (e' : Emitter) → At s rows l e → OneByte c → folds c l ≡ false → act s c e ≡ ok e' → Next s rows c l e e'
next-at {s = s} {rows = rows} {l = l} {e = e} c e' h o n p =
    let a = acted s rows c e e' h.formed o (ap (λ x. folds c x) h.last ∙ n) p in
    record { at = record { formed = a.formed; last = a.last ∙ ap (λ x. last_of c x) h.last }; names = a.names; labels = a.labels }

-- a call that adds no row
still-at : {s : Sheet} {rows : List Row} {c : Call} {l : Last} {e e' : Emitter} → rows_of s c e'.constants ≡ [] → Next s rows c l e e' → At s rows (last_of c l) e'
still-at {s = s} {rows = rows} {e' = e'} r h = record {
  formed = subst (λ x. FormedBy s x e') (ap (λ t. rows ++ t) r ∙ append-nil rows) h.at.formed;
  last = h.at.last;
}

-- all rows, or none, may change behind an instruction that is no store
any-within : {s : Sheet} {rows : List Row} {e : Emitter} → At s rows other e → Within s [] e
unfolding Tail
any-within {rows = rows} h = record { more = rows; formed = h.formed; tail = subst (λ l. Tail l rows) (sym h.last) tt }

no_within : {s : Sheet} {rows : List Row} {e : Emitter} → At s rows other e → Within s rows e
unfolding Tail
no_within {s = s} {rows = rows} {e = e} h = record { more = []; formed = subst (λ x. FormedBy s x e) (sym (append-nil rows)) h.formed; tail = subst (λ l. Tail l []) (sym h.last) tt }

bytes-length : {s : Sheet} {rows : List Row} {l : Last} {e : Emitter} → At s rows l e → length e.bytecode ≡ length (code_of s rows)
bytes-length h = ap length h.formed.is

pub code-length : (s : Sheet) (A : List Row) (r : Row) → length (code_of s (A ++ (r ∷ []))) ≡ length (code_of s A) + length (bytes_of s r)
unfolding code_of
code-length s A r = ap length (code-append s A (r ∷ [])) ∙ (length-append (code_of s A) (bytes_of s r ++ []) ∙ ap (λ x. length (code_of s A) + length x) (append-nil (bytes_of s r)))

-- the rows of a FOR
unfoldable const_row : ℕ → List ℕ → Row
const_row k ks = row_of load_const (le16 (index_of k ks)) none

unfoldable load_row : ℕ → Row
load_row v = row_of load_var (le16 v) none

unfoldable store_row : ℕ → Row
store_row v = row_of store_var (le16 v) none

unfoldable test_row : Sheet → ℕ → ℕ → ℕ → List ℕ → Row
test_row s v k l ks = row_of cmp_br (comparison_byte s Gt ∷ le16 v ++ le16 (index_of k ks)) (some l)

unfoldable add_row : Row
add_row = row_of (arithmetic Add) [] none

unfoldable jump_row : ℕ → Row
jump_row l = row_of jmp [] (some l)

-- ---- up to the body

module _ (s : Sheet) (f : For) (n : ℕ) (R : List Row) (l : Last) (u₀ u₁ u₂ u₃ u₄ u₅ u₆ : Emitter) (start : At s R l u₀) (table : length u₀.labels ≡ n)
    (p₁ : act s (load_constant f.from) u₀ ≡ ok u₁) (p₂ : act s (store_variable f.control) u₁ ≡ ok u₂) (p₃ : act s (create_label 0) u₂ ≡ ok u₃)
    (p₄ : act s (create_label 0) u₃ ≡ ok u₄) (p₅ : act s (bind_label n) u₄ ≡ ok u₅) (p₆ : act s (emit_cmp_br Gt f.control f.to (suc n)) u₅ ≡ ok u₆) where
  abbrev from_row : Row
  from_row = const_row f.from u₁.constants

  abbrev set_row : Row
  set_row = store_row f.control

  abbrev end_row : Row
  end_row = test_row s f.control f.to (suc n) u₆.constants

  record Opened : Type 0 where
    one : At s (R ++ (from_row ∷ [])) other u₁
    from : index_of f.from u₁.constants < length u₁.constants
    two : At s ((R ++ (from_row ∷ [])) ++ (set_row ∷ [])) other u₅
    place : length u₂.bytecode ≡ length u₀.bytecode + 3 + 3
    head : get_or u₅.labels n none ≡ some (length u₂.bytecode)
    three : At s (((R ++ (from_row ∷ [])) ++ (set_row ∷ [])) ++ (end_row ∷ [])) other u₆
    to : index_of f.to u₆.constants < length u₆.constants
    body : length u₆.bytecode ≡ length u₂.bytecode + 8
    long : n < length u₅.labels
    labels : length u₆.labels ≡ suc (suc n)

  opened : Opened
  unfolding const_row store_row test_row rows_of last_of relabelled Names folds OneByte bytes_of operand_of unpatched row_of le16
  opened =
      let a₁ = next-at (load_constant f.from) u₁ start tt refl p₁ in
      let a₂ = next-at (store_variable f.control) u₂ a₁.at tt refl p₂ in
      let a₃ = next-at (create_label 0) u₃ a₂.at tt refl p₃ in
      let b₃ = still-at refl a₃ in
      let a₄ = next-at (create_label 0) u₄ b₃ tt refl p₄ in
      let b₄ = still-at refl a₄ in
      let a₅ = next-at (bind_label n) u₅ b₄ tt refl p₅ in
      let b₅ = still-at refl a₅ in
      let a₆ = next-at (emit_cmp_br Gt f.control f.to (suc n)) u₆ b₅ tt refl p₆ in
      let l₄ : length u₄.labels ≡ suc (suc n) =
      ap length a₄.labels ∙ (length-append u₃.labels (none ∷ []) ∙ (ap (λ x. length x + 1) a₃.labels ∙ (ap (λ x. x + 1) (length-append u₂.labels (none ∷ [])) ∙ (ap (λ x. length x + 1 + 1) (a₂.labels ∙ a₁.labels) ∙ omega arith)))) in
      let c₁ = code-length s R from_row in
      let c₂ = code-length s (R ++ (from_row ∷ [])) set_row in
      let c₃ = code-length s ((R ++ (from_row ∷ [])) ++ (set_row ∷ [])) end_row in
      let e₀ = bytes-length start in
      let e₂ = bytes-length a₂.at in
      let e₄ = bytes-length b₄ in
      let e₆ = bytes-length a₆.at in
      record {
        one = a₁.at;
        from = a₁.names;
        two = b₅;
        place = omega arith;
        head = ap (λ x. get_or x n none) a₅.labels ∙ (get_or-set_same u₄.labels n (some (length u₄.bytecode)) none (omega arith) ∙ ap some (omega arith));
        three = a₆.at;
        to = a₆.names;
        body = omega arith;
        long = subst (λ x. n < length x) (sym a₅.labels) (subst (λ x. n < x) (sym (length-set u₄.labels n (some (length u₄.bytecode)))) (omega arith));
        labels = ap length (a₆.labels ∙ a₅.labels) ∙ (length-set u₄.labels n (some (length u₄.bytecode)) ∙ l₄);
      }

-- ---- behind the body, where the control is loaded

module _ (s : Sheet) (f : For) (n : ℕ) (G : List Row) (l : Last) (u₇ v₁ v₂ v₃ v₄ v₅ v₆ : Emitter) (here : At s G l u₇) (unfolded : folds_into l f.control ≡ false) (long : suc n < length u₇.labels)
    (q₁ : act s (load_variable f.control) u₇ ≡ ok v₁) (q₂ : act s (load_constant f.step) v₁ ≡ ok v₂) (q₃ : act s (emit_opcode (arithmetic Add)) v₂ ≡ ok v₃)
    (q₄ : act s (store_variable f.control) v₃ ≡ ok v₄) (q₅ : act s (emit_jmp n) v₄ ≡ ok v₅) (q₆ : act s (bind_label (suc n)) v₅ ≡ ok v₆) where
  abbrev control_row : Row
  control_row = load_row f.control

  abbrev by_row : Row
  by_row = const_row f.step v₂.constants

  abbrev set_again_row : Row
  set_again_row = store_row f.control

  record CountedUp : Type 0 where
    two : At s ((G ++ (control_row ∷ [])) ++ (by_row ∷ [])) other v₂
    by : index_of f.step v₂.constants < length v₂.constants
    all : At s (((((G ++ (control_row ∷ [])) ++ (by_row ∷ [])) ++ (add_row ∷ [])) ++ (set_again_row ∷ [])) ++ (jump_row n ∷ [])) other v₆
    end : get_or v₆.labels (suc n) none ≡ some (length v₆.bytecode)
    place : length v₆.bytecode ≡ length u₇.bytecode + 13
    long₆ : suc n < length v₆.labels

  counted-up : CountedUp
  unfolding load_row const_row add_row store_row jump_row rows_of last_of relabelled Names folds OneByte size traits traits_of bytes_of operand_of unpatched row_of le16
  counted-up =
      let a₁ = next-at (load_variable f.control) v₁ here tt unfolded q₁ in
      let a₂ = next-at (load_constant f.step) v₂ a₁.at tt refl q₂ in
      let a₃ = next-at (emit_opcode (arithmetic Add)) v₃ a₂.at refl refl q₃ in
      let a₄ = next-at (store_variable f.control) v₄ a₃.at tt refl q₄ in
      let a₅ = next-at (emit_jmp n) v₅ a₄.at tt refl q₅ in
      let a₆ = next-at (bind_label (suc n)) v₆ a₅.at tt refl q₆ in
      let b₆ = still-at refl a₆ in
      let same : v₅.labels ≡ u₇.labels = a₅.labels ∙ (a₄.labels ∙ (a₃.labels ∙ (a₂.labels ∙ a₁.labels))) in
      let long₅ : suc n < length v₅.labels = subst (λ x. suc n < length x) (sym same) long in
      let c₁ = code-length s G control_row in
      let c₂ = code-length s (G ++ (control_row ∷ [])) by_row in
      let c₃ = code-length s ((G ++ (control_row ∷ [])) ++ (by_row ∷ [])) add_row in
      let c₄ = code-length s (((G ++ (control_row ∷ [])) ++ (by_row ∷ [])) ++ (add_row ∷ [])) set_again_row in
      let c₅ = code-length s ((((G ++ (control_row ∷ [])) ++ (by_row ∷ [])) ++ (add_row ∷ [])) ++ (set_again_row ∷ [])) (jump_row n) in
      let e₇ = bytes-length here in
      let e₅ = bytes-length a₅.at in
      let e₆ = bytes-length b₆ in
      record {
        two = a₂.at;
        by = a₂.names;
        all = b₆;
        end = ap (λ x. get_or x (suc n) none) a₆.labels ∙ (get_or-set_same v₅.labels (suc n) (some (length v₅.bytecode)) none long₅ ∙ ap some (omega arith));
        place = omega arith;
        long₆ = subst (λ x. suc n < length x) (sym a₆.labels) (subst (λ x. suc n < x) (sym (length-set v₅.labels (suc n) (some (length v₅.bytecode)))) long₅);
      }

-- where the body ended with a store to the control, the load folds into it
folded-at : (s : Sheet) (v w : ℕ) (A : List Row) (e e' : Emitter) → At s (A ++ (row_of store_var (le16 w) none ∷ [])) (stored w) e → eqb w v ≡ true → act s (load_variable v) e ≡ ok e'
    → At s (A ++ (row_of dup [] none ∷ row_of store_var (le16 w) none ∷ [])) other e'
unfolding act load_after fold_store folded
folded-at s v w A e e' h t p =
    let q : load_after (stored w) s v e ≡ ok e' = sym (ap (λ l. load_after l s v e) h.last) ∙ p in
    let d = ok-demand _ _ _ _ e' (sym (ap (λ b. elim b [ true ↦ fold_store s e | false ↦ add s load_var (le16 v) (loaded v) e ]) t) ∙ q) in
    subst (λ x. At s (A ++ (row_of dup [] none ∷ row_of store_var (le16 w) none ∷ [])) other x) (sym (ok-is d.1))
    (record { formed = folded-formed s w A e.bytecode e.patches h.formed (ltb-true _ _ d.0); last = refl })

-- ---- finished code

each-behind : {A : Type 0} {P : A → Type 0} (xs ys : List A) → Each P (xs ++ ys) → Each P ys
each-behind [] ys es = es
each-behind (x ∷ xs) ys (p also ps) = each-behind xs ys ps

rows_append : (s : Sheet) (A B : List Row) → instructions_of s (A ++ B) ≡ instructions_of s A ++ instructions_of s B
unfolding instructions_of
rows_append s [] B = refl
rows_append s (r ∷ A) B = ap (λ x. bytes_of s r ∷ x) (rows_append s A B)

-- where a label's branches lead
abbrev pub goal_of : Sheet → List Row → Emitter → ℕ → ℕ
goal_of s rows e = goal_in s e.labels (boundaries_from 0 (instructions_of s rows))

-- each branch among rows is near where its label leads
abbrev pub AllNear : Sheet → (ℕ → ℕ) → List Row → Type 0
AllNear s goal rows = (l : ℕ) (r : Row) (A B : List Row) → rows ≡ A ++ (r ∷ B) → r.aim ≡ some l → IsNear (goal l) (length (code_of s A) + length (bytes_of s r))

module _ (s : Sheet) (known : Reads s) (rows : List Row) (e : Emitter) (formed : FormedBy s rows e) where
  pub finished : (finalize_function s [] e).bytecode ≡ joined (final_rows s (goal_of s rows e) 0 rows)
  unfolding finalize_function
  finished =
      let is = instructions_of s rows in
      let places = boundaries_from 0 is in
      let c : e.bytecode ≡ joined is = formed.is ∙ sym (code-joined s rows) in
      let o = optimize-same s is (jump_targets e) (wholes s known rows formed.sized) in
      let q = ap (λ x. optimize s [] x (jump_targets e)) c in
      ap (λ x. patch_jumps e.labels x.map e.patches x.bytecode) q
      ∙ (ap (λ x. patch_jumps e.labels x e.patches (optimize s [] (joined is) (jump_targets e)).bytecode) o.map
      ∙ (ap (λ x. patch_jumps e.labels (diagonal places) e.patches x) (o.bytecode ∙ code-joined s rows)
      ∙ (ap (λ x. patch_jumps e.labels (diagonal places) x (code_of s rows)) formed.patches ∙ patched-all s e.labels places rows (among_self places))))

  abbrev bounds : List ℕ
  bounds = boundaries_from 0 (instructions_of s rows)

  -- a row's place is a boundary, and stays
  row_stays : (p : ℕ) (A B : List Row) → rows ≡ A ++ B → p ≡ length (code_of s A) → moved_to (diagonal bounds) p ≡ p
  row_stays p A B q r =
      let at : has bounds p ≡ true =
      ap (λ x. has (boundaries_from 0 x) p) (ap (λ x. instructions_of s x) q ∙ rows_append s A B)
      ∙ (ap (λ x. has (boundaries_from 0 (instructions_of s A ++ instructions_of s B)) x) (r ∙ (sym (ap length (code-joined s A)) ∙ omega arith)) ∙ boundary-between (instructions_of s A) (instructions_of s B) 0) in
      moved-diagonal bounds p at

  -- a label bound at a row's place leads there
  pub goal-is : (l p : ℕ) (A B : List Row) → rows ≡ A ++ B → get_or e.labels l none ≡ some p → p ≡ length (code_of s A) → goal_of s rows e l ≡ p
  unfolding goal_in bound_label bound_or0
  goal-is l p A B q b r = ap (λ x. moved_to (diagonal bounds) (bound_or0 x)) b ∙ row_stays p A B q r

  map_is : (optimize s [] e.bytecode (jump_targets e)).map ≡ diagonal bounds
  map_is = ap (λ c. (optimize s [] c (jump_targets e)).map) (formed.is ∙ sym (code-joined s rows)) ∙ (optimize-same s (instructions_of s rows) (jump_targets e) (wholes s known rows formed.sized)).map

  -- where 15 is not answered each branch is near where its label leads
  pub all_near : Reaches s [] e → AllNear s (goal_of s rows e) rows
  unfolding goal_in patches_of patch_here bytes_of operand_of unpatched
  all_near reach l r A B q a =
      let near : Each (λ p. NearBy e.labels (diagonal bounds) p) e.patches =
      reach-each e.labels (diagonal bounds) e.patches (subst (λ m. in_reach e.labels m e.patches ≡ ok tt) map_is reach) in
      go r.aim a (each-behind (patches_of s 0 A) _ (subst (λ ps. Each (λ p. NearBy e.labels (diagonal bounds) p) ps)
      (formed.patches ∙ (ap (λ x. patches_of s 0 x) q ∙ patches-append s 0 A (r ∷ B))) near))
    where
      o : List ℕ
      o = r.operand

      go : (x : Option ℕ) → x ≡ some l → Each (λ p. NearBy e.labels (diagonal bounds) p) (patch_here x (0 + length (code_of s A)) (unpatched x o) ++ patches_of s (0 + length (code_of s A) + suc (length (unpatched x o))) B)
          → IsNear (goal_of s rows e l) (length (code_of s A) + suc (length (unpatched x o)))
      go none e es = never (cc)
      go (some k) w (n also es) =
          let long = length-append o (0 ∷ 0 ∷ []) in
          let own : moved_to (diagonal bounds) (0 + length (code_of s A)) ≡ 0 + length (code_of s A) = row_stays (0 + length (code_of s A)) A (r ∷ B) q (omega arith) in
          subst (λ y. IsNear (goal_of s rows e y) (length (code_of s A) + suc (length (o ++ (0 ∷ 0 ∷ []))))) (some_is w)
          (subst (λ y. IsNear (goal_of s rows e k) y) (ap (λ y. y + (length (o ++ (0 ∷ 0 ∷ [])) - 1) + 2) own ∙ omega arith) n)

-- ---- what the rows say once they are placed

pub sixteen : (n : ℕ) → n % 256 + 256 * (n / 256) ≡ n
sixteen n = omega arith

module _ (m : Image) (s : Sheet) (goal : ℕ → ℕ) (p : ℕ) where
  pub variable-read : (r : Role) (v : ℕ) → Placed m p r (final_bytes s goal p (row_of r (le16 v) none)) → operand_at m.bytecode (p + 1) ≡ v
  unfolding final_bytes aimed_operand operand_of unpatched row_of le16
  variable-read r v h = operand-at m p r _ h 1 (omega arith) ∙ sixteen v

  constant-read : (k : ℕ) (ks : List ℕ) → Placed m p load_const (final_bytes s goal p (const_row k ks)) → get_or m.constants (index_of k ks) 0 ≡ k → constant_at m (p + 1) ≡ k
  unfolding constant_at const_row
  constant-read k ks h e = ap (λ i. get_or m.constants i 0) (variable-read load_const (index_of k ks) h) ∙ e

  module _ (v k l : ℕ) (ks : List ℕ) (h : Placed m p cmp_br (final_bytes s goal p (test_row s v k l ks))) where
    test-comparison : get_or m.bytecode (p + 1) 0 ≡ comparison_byte s Gt
    unfolding final_bytes aimed_operand operand_of unpatched test_row row_of le16
    test-comparison = h.bytes 1 (omega arith)

    test-variable : operand_at m.bytecode (p + 2) ≡ v
    unfolding final_bytes aimed_operand operand_of unpatched test_row row_of le16
    test-variable = operand-at m p cmp_br _ h 2 (omega arith) ∙ sixteen v

    test-constant : get_or m.constants (index_of k ks) 0 ≡ k → constant_at m (p + 4) ≡ k
    unfolding final_bytes aimed_operand operand_of unpatched test_row row_of le16 constant_at
    test-constant e = ap (λ i. get_or m.constants i 0) (operand-at m p cmp_br _ h 4 (omega arith) ∙ sixteen (index_of k ks)) ∙ e

-- ---- the whole emission

-- the calls behind some of a FOR's
unfoldable pub rest₂ : For → ℕ → List Call → List Call
rest₂ f n behind = emit_opcode (arithmetic Add) ∷ store_variable f.control ∷ emit_jmp n ∷ bind_label (suc n) ∷ behind

unfoldable pub rest₀ : For → ℕ → List Call → List Call
rest₀ f n behind = load_variable f.control ∷ load_constant f.step ∷ rest₂ f n behind

unfoldable pub rest₅ : For → ℕ → List Call → List Call → List Call
rest₅ f n body behind = emit_cmp_br Gt f.control f.to (suc n) ∷ (body ++ rest₀ f n behind)

unfoldable pub rest₁ : For → ℕ → List Call → List Call → List Call
rest₁ f n body behind = store_variable f.control ∷ create_label 0 ∷ create_label 0 ∷ bind_label n ∷ rest₅ f n body behind

-- every emitter on the way
pub record Emission (s : Sheet) (p : Program) (f : For) (n : ℕ) (before body behind : List Call) (e : Emitter) : Type 0 where
  pub u₀ : Emitter
  pub u₁ : Emitter
  pub u₂ : Emitter
  pub u₃ : Emitter
  pub u₄ : Emitter
  pub u₅ : Emitter
  pub u₆ : Emitter
  pub u₇ : Emitter
  pub v₁ : Emitter
  pub v₂ : Emitter
  pub v₃ : Emitter
  pub v₄ : Emitter
  pub v₅ : Emitter
  pub v₆ : Emitter
  pub p₀ : acts s before (emitter_at p.pos) ≡ ok u₀
  pub p₁ : act s (load_constant f.from) u₀ ≡ ok u₁
  pub p₂ : act s (store_variable f.control) u₁ ≡ ok u₂
  pub p₃ : act s (create_label 0) u₂ ≡ ok u₃
  pub p₄ : act s (create_label 0) u₃ ≡ ok u₄
  pub p₅ : act s (bind_label n) u₄ ≡ ok u₅
  pub p₆ : act s (emit_cmp_br Gt f.control f.to (suc n)) u₅ ≡ ok u₆
  pub p₇ : acts s body u₆ ≡ ok u₇
  pub q₁ : act s (load_variable f.control) u₇ ≡ ok v₁
  pub q₂ : act s (load_constant f.step) v₁ ≡ ok v₂
  pub q₃ : act s (emit_opcode (arithmetic Add)) v₂ ≡ ok v₃
  pub q₄ : act s (store_variable f.control) v₃ ≡ ok v₄
  pub q₅ : act s (emit_jmp n) v₄ ≡ ok v₅
  pub q₆ : act s (bind_label (suc n)) v₅ ≡ ok v₆
  pub q₇ : acts s behind v₆ ≡ ok e
  pub t₁ : acts s (rest₁ f n body behind) u₁ ≡ ok e
  pub t₅ : acts s (rest₅ f n body behind) u₅ ≡ ok e
  pub t₆ : acts s (body ++ rest₀ f n behind) u₆ ≡ ok e
  pub w₁ : acts s (load_constant f.step ∷ rest₂ f n behind) v₁ ≡ ok e
  pub w₂ : acts s (rest₂ f n behind) v₂ ≡ ok e

pub emission : (s : Sheet) (p : Program) (f : For) (n : ℕ) (before body behind : List Call) (e : Emitter)
    → acts s (before ++ (load_constant f.from ∷ rest₁ f n body behind)) (emitter_at p.pos) ≡ ok e → Emission s p f n before body behind e
unfolding rest₁ rest₅ rest₀ rest₂
emission s p f n before body behind e a =
    let x₀ = acts-append s before _ _ e a in
    let x₁ = acts-split s _ _ _ e x₀.2 in
    let x₂ = acts-split s _ _ _ e x₁.2 in
    let x₃ = acts-split s _ _ _ e x₂.2 in
    let x₄ = acts-split s _ _ _ e x₃.2 in
    let x₅ = acts-split s _ _ _ e x₄.2 in
    let x₆ = acts-split s _ _ _ e x₅.2 in
    let x₇ = acts-append s body _ _ e x₆.2 in
    let y₁ = acts-split s _ _ _ e x₇.2 in
    let y₂ = acts-split s _ _ _ e y₁.2 in
    let y₃ = acts-split s _ _ _ e y₂.2 in
    let y₄ = acts-split s _ _ _ e y₃.2 in
    let y₅ = acts-split s _ _ _ e y₄.2 in
    let y₆ = acts-split s _ _ _ e y₅.2 in
    record {
      u₀ = x₀.0;
      u₁ = x₁.0;
      u₂ = x₂.0;
      u₃ = x₃.0;
      u₄ = x₄.0;
      u₅ = x₅.0;
      u₆ = x₆.0;
      u₇ = x₇.0;
      v₁ = y₁.0;
      v₂ = y₂.0;
      v₃ = y₃.0;
      v₄ = y₄.0;
      v₅ = y₅.0;
      v₆ = y₆.0;
      p₀ = x₀.1;
      p₁ = x₁.1;
      p₂ = x₂.1;
      p₃ = x₃.1;
      p₄ = x₄.1;
      p₅ = x₅.1;
      p₆ = x₆.1;
      p₇ = x₇.1;
      q₁ = y₁.1;
      q₂ = y₂.1;
      q₃ = y₃.1;
      q₄ = y₄.1;
      q₅ = y₅.1;
      q₆ = y₆.1;
      q₇ = y₆.2;
      t₁ = x₁.2;
      t₅ = x₅.2;
      t₆ = x₆.2;
      w₁ = y₁.2;
      w₂ = y₂.2;
    }

-- a constant that was entered is where it was
constant-stays : (k : ℕ) (ks all more : List ℕ) → all ≡ ks ++ more → index_of k ks < length ks → get_or all (index_of k ks) 0 ≡ k
constant-stays k ks all more e h = ap (λ x. get_or x (index_of k ks) 0) e ∙ (get_or-append ks more 0 (index_of k ks) h ∙ indexed k ks h)

begin-within : (s : Sheet) (p : Program) → Within s [] (emitter_at p.pos)
unfolding emitter_at code_of patches_of Sized Tail
begin-within s p = record { more = []; formed = record { is = refl; patches = refl; sized = tt; short = omega arith }; tail = tt }

module _ (s : Sheet) (known : Reads s) (greater : comparison_of s (comparison_byte s Gt) ≡ some Gt) (p : Program) (f : For) (before behind : List Call) (loops : Loops) (e : Emitter)
    (once : (l : ℕ) → binds l (before ++ (load_constant f.from ∷ rest₁ f (after 0 before) (body_of f loops (after 0 before)) behind)) ≤ 1)
    (bytes : OneBytes (before ++ (load_constant f.from ∷ rest₁ f (after 0 before) (body_of f loops (after 0 before)) behind)))
    (x : Emission s p f (after 0 before) before (body_of f loops (after 0 before)) behind e)
    (reach : Reaches s [] e) where
  abbrev n : ℕ
  n = after 0 before

  abbrev body : List Call
  body = body_of f loops (after 0 before)

  abbrev image : Image
  image = image_of s (finalize_function s [] e)

  abbrev places : Places
  places = record {
    first = length x.u₀.bytecode;
    end_test = length x.u₂.bytecode;
    body = length x.u₆.bytecode;
    increment = length x.u₇.bytecode;
    end = length x.v₆.bytecode;
  }

  bytes₁ : OneBytes (rest₁ f n body behind)
  unfolding OneBytes
  bytes₁ = (bytes-right before _ bytes).1

  bytes₅ : OneBytes (rest₅ f n body behind)
  unfolding OneBytes rest₁
  bytes₅ = bytes₁.1.1.1.1

  bytes₆ : OneBytes (body ++ rest₀ f n behind)
  unfolding OneBytes rest₅
  bytes₆ = bytes₅.1

  bytes₂ : OneBytes (load_constant f.step ∷ rest₂ f n behind)
  unfolding OneBytes rest₀
  bytes₂ = (bytes-right body _ bytes₆).1

  bytes₇ : OneBytes behind
  unfolding OneBytes rest₂
  bytes₇ = bytes₂.1.1.1.1.1

  -- the head's label is bound nowhere else, and neither is the end's
  head-once : binds n (rest₅ f n body behind) ≡ 0
  unfolding binds is_bind one_if rest₁
  head-once =
      let a = once n in
      let b = binds-append n before (load_constant f.from ∷ rest₁ f n body behind) in
      let c = ap one_if (eq-eqb n n refl) in
      omega arith

  end-once : binds (suc n) behind ≡ 0
  unfolding binds is_bind one_if rest₁ rest₅ rest₀ rest₂
  end-once =
      let a = once (suc n) in
      let b = binds-append (suc n) before (load_constant f.from ∷ rest₁ f n body behind) in
      let d = binds-append (suc n) body (rest₀ f n behind) in
      let c = ap one_if (eq-eqb (suc n) (suc n) refl) in
      omega arith

  started : Goes s [] before (emitter_at p.pos) x.u₀
  started = goes-all s [] before (emitter_at p.pos) x.u₀ (begin-within s p) (bytes_left before _ bytes) x.p₀

  abbrev R : List Row
  R = started.within.more

  start : At s R x.u₀.last x.u₀
  start = record { formed = started.within.formed; last = refl }

  table : length x.u₀.labels ≡ n
  unfolding emitter_at
  table = started.changed.table

  abbrev op : Opened s f n R x.u₀.last x.u₀ x.u₁ x.u₂ x.u₃ x.u₄ x.u₅ x.u₆ start table x.p₁ x.p₂ x.p₃ x.p₄ x.p₅ x.p₆
  op = opened s f n R x.u₀.last x.u₀ x.u₁ x.u₂ x.u₃ x.u₄ x.u₅ x.u₆ start table x.p₁ x.p₂ x.p₃ x.p₄ x.p₅ x.p₆

  abbrev fr : Row
  fr = const_row f.from x.u₁.constants

  abbrev test : Row
  test = test_row s f.control f.to (suc n) x.u₆.constants

  abbrev store : Row
  store = store_row f.control

  abbrev R₂ : List Row
  R₂ = ((R ++ (fr ∷ [])) ++ (store ∷ [])) ++ (test ∷ [])

  middle : Goes s R₂ body x.u₆ x.u₇
  middle = goes-all s R₂ body x.u₆ x.u₇ (no_within op.three) (bytes_left body _ bytes₆) x.p₇

  not-loaded : NotLoaded x.u₇.last
  unfolding NotLoaded
  not-loaded = middle.changed.tracks true (λ t. subst (λ l. NotLoaded l) (sym op.three.last) tt) (body_closed f loops n)

  long : suc n < length x.u₇.labels
  long =
      let a = middle.changed.table in
      let b = after-mono (length x.u₆.labels) body in
      let c = op.labels in
      omega arith

  -- what was entered and bound stays
  from-stays : get_or e.constants (index_of f.from x.u₁.constants) 0 ≡ f.from
  from-stays =
      let g = acts-grown s (rest₁ f n body behind) x.u₁ e (grown-here x.u₁ op.one.last) x.t₁ in
      constant-stays f.from x.u₁.constants e.constants g.more_constants g.constants op.from

  head-stays : get_or e.labels n none ≡ some (length x.u₂.bytecode)
  head-stays = (goes-all s [] (rest₅ f n body behind) x.u₅ e (any-within op.two) bytes₅ x.t₅).changed.kept n op.long head-once ∙ op.head

  to-stays : get_or e.constants (index_of f.to x.u₆.constants) 0 ≡ f.to
  to-stays =
      let g = acts-grown s (body ++ rest₀ f n behind) x.u₆ e (grown-here x.u₆ op.three.last) x.t₆ in
      constant-stays f.to x.u₆.constants e.constants g.more_constants g.constants op.to

  -- up to the body the FOR is laid out, whatever the rows behind it
  opening : (rows Z : List Row) → rows ≡ R₂ ++ Z → FormedBy s rows e → Opening image places f.control f.from f.to
  unfolding image_of finalize_function row_of bytes_of operand_of unpatched le16 const_row store_row test_row
  opening rows Z q formed =
      let v = f.control in
      let goal = goal_of s rows e in
      let Y₁ = R ++ (fr ∷ []) in
      let Y₂ = Y₁ ++ (store ∷ []) in
      let e₃ : rows ≡ Y₂ ++ (test ∷ Z) = q ∙ append_assoc Y₂ (test ∷ []) Z in
      let e₂ : rows ≡ Y₁ ++ (store ∷ test ∷ Z) = e₃ ∙ append_assoc Y₁ (store ∷ []) (test ∷ Z) in
      let e₁ : rows ≡ R ++ (fr ∷ store ∷ test ∷ Z) = e₂ ∙ append_assoc R (fr ∷ []) (store ∷ test ∷ Z) in
      let b₀ = bytes-length start in
      let c₁ = code-length s R fr in
      let c₂ = code-length s Y₁ store in
      let o₂ = op.place in
      let first = places.first in
      let at = placed s known goal rows formed.sized image refl (finished s known rows e formed) in
      let k₁ = at R fr (store ∷ test ∷ Z) first e₁ b₀ in
      let k₂ = at Y₁ store (test ∷ Z) (first + 3) e₂ (omega arith) in
      let k₃ = at Y₂ test Z places.end_test e₃ (omega arith) in
      record {
        begins = record {
          load = k₁.stands;
          loads = constant-read image s goal first f.from x.u₁.constants k₁ from-stays;
          store = k₂.stands;
          stores = variable-read image s goal (first + 3) store_var v k₂;
        };
        test_next = o₂;
        tests = record {
          test = k₃.stands;
          comparison = ap (λ b. comparison_of s b) (test-comparison image s goal places.end_test v f.to (suc n) x.u₆.constants k₃) ∙ greater;
          tests = test-variable image s goal places.end_test v f.to (suc n) x.u₆.constants k₃;
          against = test-constant image s goal places.end_test v f.to (suc n) x.u₆.constants k₃ to-stays;
        };
        body_next = op.body;
      }

  -- where the load is folded into a store that ends the body, nothing starts behind the body
  hidden : (w : ℕ) → x.u₇.last ≡ stored w → eqb w f.control ≡ true → Opening image places f.control f.from f.to × (is_start image places.increment ≡ false)
  unfolding Tail image_of row_of bytes_of operand_of unpatched le16 size traits traits_of
  hidden w q t =
      let st : Row = row_of store_var (le16 w) none in
      let du : Row = row_of dup [] none in
      let tail : Tail (stored w) middle.within.more = subst (λ l. Tail l middle.within.more) q middle.within.tail in
      let A = R₂ ++ tail.0 in
      let same : R₂ ++ middle.within.more ≡ A ++ (st ∷ []) = ap (λ m. R₂ ++ m) tail.1 ∙ sym (append_assoc R₂ tail.0 (st ∷ [])) in
      let here : At s (A ++ (st ∷ [])) (stored w) x.u₇ = record { formed = subst (λ r. FormedBy s r x.u₇) same middle.within.formed; last = q } in
      let fold = folded-at s f.control w A x.u₇ x.v₁ here t x.q₁ in
      let g = (goes-all s (A ++ (du ∷ st ∷ [])) (load_constant f.step ∷ rest₂ f n behind) x.v₁ e (no_within fold) bytes₂ x.w₁).within in
      let P = g.more in
      let rows = (A ++ (du ∷ st ∷ [])) ++ P in
      let cut : rows ≡ (A ++ (du ∷ [])) ++ (st ∷ P) = append_assoc A (du ∷ st ∷ []) P ∙ sym (append_assoc A (du ∷ []) (st ∷ P)) in
      let opens : rows ≡ R₂ ++ (tail.0 ++ (du ∷ st ∷ P)) = append_assoc A (du ∷ st ∷ []) P ∙ append_assoc R₂ tail.0 (du ∷ st ∷ P) in
      let a = code-length s A st in
      let b = code-length s A du in
      let c = bytes-length here in
      (opening rows (tail.0 ++ (du ∷ st ∷ P)) opens g.formed, no_start s known (goal_of s rows e) rows g.formed.sized image refl (finished s known rows e g.formed) (A ++ (du ∷ [])) st P places.increment cut (omega arith) (omega arith))

  -- where it is not, the FOR is laid out
  shown : folds_into x.u₇.last f.control ≡ false → Laid image places f.control f.from f.to f.step
  unfolding image_of finalize_function row_of bytes_of operand_of unpatched le16 const_row load_row store_row test_row add_row jump_row OneBytes
  shown h =
      let v = f.control in
      let B = middle.within.more in
      let G = R₂ ++ B in
      let here : At s G x.u₇.last x.u₇ = record { formed = middle.within.formed; last = refl } in
      let cu = counted-up s f n G x.u₇.last x.u₇ x.v₁ x.v₂ x.v₃ x.v₄ x.v₅ x.v₆ here h long x.q₁ x.q₂ x.q₃ x.q₄ x.q₅ x.q₆ in
      let ld : Row = load_row v in
      let by : Row = const_row f.step x.v₂.constants in
      let X₁ = G ++ (ld ∷ []) in
      let X₂ = X₁ ++ (by ∷ []) in
      let X₃ = X₂ ++ (add_row ∷ []) in
      let X₄ = X₃ ++ (store ∷ []) in
      let X₅ = X₄ ++ (jump_row n ∷ []) in
      let g = goes-all s X₅ behind x.v₆ e (no_within cu.all) bytes₇ x.q₇ in
      let P = g.within.more in
      let rows = X₅ ++ P in
      let formed = g.within.formed in
      let goal = goal_of s rows e in
      let code = finished s known rows e formed in
      let Y₁ = R ++ (fr ∷ []) in
      let Y₂ = Y₁ ++ (store ∷ []) in
      let e₈ : rows ≡ X₄ ++ (jump_row n ∷ P) = append_assoc X₄ (jump_row n ∷ []) P in
      let e₇ : rows ≡ X₃ ++ (store ∷ jump_row n ∷ P) = e₈ ∙ append_assoc X₃ (store ∷ []) (jump_row n ∷ P) in
      let e₆ : rows ≡ X₂ ++ (add_row ∷ store ∷ jump_row n ∷ P) = e₇ ∙ append_assoc X₂ (add_row ∷ []) (store ∷ jump_row n ∷ P) in
      let e₅ : rows ≡ X₁ ++ (by ∷ add_row ∷ store ∷ jump_row n ∷ P) = e₆ ∙ append_assoc X₁ (by ∷ []) (add_row ∷ store ∷ jump_row n ∷ P) in
      let Z₄ = by ∷ add_row ∷ store ∷ jump_row n ∷ P in
      let e₄ : rows ≡ G ++ (ld ∷ Z₄) = e₅ ∙ append_assoc G (ld ∷ []) Z₄ in
      let Z = B ++ (ld ∷ Z₄) in
      let e₀ : rows ≡ R₂ ++ Z = e₄ ∙ append_assoc R₂ B (ld ∷ Z₄) in
      let e₃ : rows ≡ Y₂ ++ (test ∷ Z) = e₀ ∙ append_assoc Y₂ (test ∷ []) Z in
      let b₀ = bytes-length start in
      let c₁ = code-length s R fr in
      let c₂ = code-length s Y₁ store in
      let c₃ = code-length s Y₂ test in
      let b₆ = bytes-length op.three in
      let b₇ = bytes-length here in
      let c₇ : length (code_of s G) ≡ length (code_of s R₂) + length (code_of s B) = ap length (code-append s R₂ B) ∙ length-append (code_of s R₂) (code_of s B) in
      let d₁ = code-length s G ld in
      let d₂ = code-length s X₁ by in
      let d₃ = code-length s X₂ add_row in
      let d₄ = code-length s X₃ store in
      let d₅ = code-length s X₄ (jump_row n) in
      let o₂ = op.place in
      let o₆ = op.body in
      let o₇ = cu.place in
      let inc = places.increment in
      let at = placed s known goal rows formed.sized image refl code in
      let k₃ = at Y₂ test Z places.end_test e₃ (omega arith) in
      let k₄ = at G ld Z₄ inc e₄ b₇ in
      let k₅ = at X₁ by (add_row ∷ store ∷ jump_row n ∷ P) (inc + 3) e₅ (omega arith) in
      let k₆ = at X₂ add_row (store ∷ jump_row n ∷ P) (inc + 3 + 3) e₆ (omega arith) in
      let k₇ = at X₃ store (jump_row n ∷ P) (inc + 3 + 3 + 1) e₇ (omega arith) in
      let k₈ = at X₄ (jump_row n) P (inc + 3 + 3 + 1 + 3) e₈ (omega arith) in
      let head : goal n ≡ places.end_test = goal-is s known rows e formed n places.end_test Y₂ (test ∷ Z) e₃ head-stays (omega arith) in
      let end_stays : get_or e.labels (suc n) none ≡ some places.end = g.changed.kept (suc n) cu.long₆ end-once ∙ cu.end in
      let end : goal (suc n) ≡ places.end = goal-is s known rows e formed (suc n) places.end X₅ P refl end_stays (bytes-length cu.all) in
      let leads : (A : List Row) (r : Row) (C : List Row) (l q : ℕ) → rows ≡ A ++ (r ∷ C) → q ≡ length (code_of s A) → r.aim ≡ some l → Placed image q r.role (final_bytes s goal q r) → target image.bytecode (q + length (bytes_of s r)) ≡ some (goal l) =
      λ A r C l q c i a k. target-read image s goal q r l a k (subst (λ y. IsNear (goal l) (y + length (bytes_of s r))) (sym i) (all_near s known rows e formed reach l r A C c a)) in
      let w = acts-grown s (rest₂ f n behind) x.v₂ e (grown-here x.v₂ cu.two.last) x.w₂ in
      let by-stays : get_or e.constants (index_of f.step x.v₂.constants) 0 ≡ f.step = constant-stays f.step x.v₂.constants e.constants w.more_constants w.constants cu.by in
      record {
        opening = opening rows Z e₀ formed;
        leaves = leads Y₂ test Z (suc n) places.end_test e₃ (omega arith) refl k₃ ∙ ap some end;
        body_ends = omega arith;
        counts = record {
          load = k₄.stands;
          loads = variable-read image s goal inc load_var v k₄;
          step = k₅.stands;
          steps = constant-read image s goal (inc + 3) f.step x.v₂.constants k₅ by-stays;
          add = k₆.stands;
          store = k₇.stands;
          stores = variable-read image s goal (inc + 3 + 3 + 1) store_var v k₇;
          jump = k₈.stands;
          jumps = leads X₄ (jump_row n) P n (inc + 3 + 3 + 1 + 3) e₈ (omega arith) refl k₈ ∙ ap some head;
        };
        end_next = o₇;
      }

  -- either way the FOR stands as it should, or its body cannot end
  pub laid_out : Either (Laid image places f.control f.from f.to f.step) (Opening image places f.control f.from f.to × (is_start image places.increment ≡ false))
  unfolding folds_into NotLoaded
  laid_out = go (folds_into x.u₇.last f.control) refl
    where
      stored-only : (l : Last) → x.u₇.last ≡ l → NotLoaded l → folds_into l f.control ≡ true → Opening image places f.control f.from f.to × (is_start image places.increment ≡ false)
      stored-only other q k t = absurd (let z : ◌≡◌ {A = ℕ} 0 1 = cc in omega arith)
      stored-only (loaded w) q k t = absurd k
      stored-only (stored w) q k t = hidden w q t

      go : (b : Bool) → folds_into x.u₇.last f.control ≡ b → Either (Laid image places f.control f.from f.to f.step) (Opening image places f.control f.from f.to × (is_start image places.increment ≡ false))
      go true t = right (stored-only x.u₇.last refl not-loaded t)
      go false t = left (shown t)

-- ---- the places, as they are computed

place_is : (s : Sheet) (p : Program) (cs : List Call) (u : Emitter) → acts s cs (emitter_at p.pos) ≡ ok u → place_after s p cs ≡ length u.bytecode
unfolding place_after length_of
place_is s p cs u e = ap length_of e

module _ (s : Sheet) (p : Program) (f : For) (o : Emits p (for_stmt f)) (e : Emitter) (x : Emission s p f (after 0 o.before) o.before (body_of f o.loops (after 0 o.before)) o.behind e) where
  abbrev body-acts : List Call → List Call
  body-acts more = setting_of f ++ (testing_of f (after 0 o.before) ++ more)

  up_to : (more : List Call) (u : Emitter) → acts s more x.u₆ ≡ ok u → acts s (o.before ++ body-acts more) (emitter_at p.pos) ≡ ok u
  unfolding setting_of testing_of
  up_to more u q =
      acts-join s o.before _ _ x.u₀ u x.p₀
      (acts-cons s _ _ _ x.u₁ u x.p₁ (acts-cons s _ _ _ x.u₂ u x.p₂ (acts-cons s _ _ _ x.u₃ u x.p₃
      (acts-cons s _ _ _ x.u₄ u x.p₄ (acts-cons s _ _ _ x.u₅ u x.p₅ (acts-cons s _ _ _ x.u₆ u x.p₆ q))))))

  to_end : acts s (counting_of f (after 0 o.before)) x.u₇ ≡ ok x.v₆
  unfolding counting_of
  to_end =
      acts-cons s _ _ _ x.v₁ x.v₆ x.q₁ (acts-cons s _ _ _ x.v₂ x.v₆ x.q₂ (acts-cons s _ _ _ x.v₃ x.v₆ x.q₃
      (acts-cons s _ _ _ x.v₄ x.v₆ x.q₄ (acts-cons s _ _ _ x.v₅ x.v₆ x.q₅ (acts-cons s _ [] _ x.v₆ x.v₆ x.q₆ (acts-none s x.v₆))))))

  at_test : acts s (o.before ++ setting_of f) (emitter_at p.pos) ≡ ok x.u₂
  unfolding setting_of
  at_test = acts-join s o.before _ _ x.u₀ x.u₂ x.p₀ (acts-cons s _ _ _ x.u₁ x.u₂ x.p₁ (acts-cons s _ [] _ x.u₂ x.u₂ x.p₂ (acts-none s x.u₂)))

  at_body : acts s (o.before ++ (setting_of f ++ testing_of f (after 0 o.before))) (emitter_at p.pos) ≡ ok x.u₆
  unfolding setting_of testing_of
  at_body = up_to [] x.u₆ (acts-none s x.u₆)

  pub places-are : places_of s p f o ≡ record {
    first = length x.u₀.bytecode;
    end_test = length x.u₂.bytecode;
    body = length x.u₆.bytecode;
    increment = length x.u₇.bytecode;
    end = length x.v₆.bytecode;
  }
  unfolding places_of
  places-are =
      let n = after 0 o.before in
      let b = body_of f o.loops n in
      let a₀ = place_is s p o.before x.u₀ x.p₀ in
      let a₁ = place_is s p _ x.u₂ at_test in
      let a₂ = place_is s p _ x.u₆ at_body in
      let a₃ = place_is s p _ x.u₇ (up_to b x.u₇ x.p₇) in
      let a₄ = place_is s p _ x.v₆ (up_to (b ++ counting_of f n) x.v₆ (acts-join s b (counting_of f n) x.u₆ x.u₇ x.v₆ x.p₇ to_end)) in
      cc
