-- What emission makes of a program's calls: the rows of the folded calls, each where its call says, with the labels where they are bound.
use Prim.Native.Nat.{ℕ, ◌+◌, ◌≤◌, ◌<◌}
use mathlib.Core.Path.{◌≡◌, refl, sym, ◌∙◌, ap, subst}
use mathlib.Core.List.{List, [], ◌∷◌, ◌++◌, append_assoc, append-nil}
use mathlib.Core.Bool.{Bool, true, false}
use mathlib.Core.Option.{Option, some, none}
use native.Mathlib.Omega.{arith}
use lib.Dec.{eqb}
use lib.ListN.{length, get_or, length-set, get_or-append}
use lib.Seq.{get_or-set_same}
use borrow.Author.Tests.{ltb-true}
use Rattle.definition.specs.Res.{ok, ◌>>=◌}
use Rattle.definition.specs.Opcode.{Sheet, comparison_byte, dup, load_var, store_var, load_const, jmp, jmp_if_not, cmp_br, size, traits, traits_of}
use Rattle.definition.specs.Tree.{Fault, Pos}
use Rattle.definition.specs.Emit.{le16, Emitter, Last, other, loaded, stored, add, folded, fold_store, load_after, index_of, act, acts, Call, create_label, bind_label, load_variable, store_variable, load_constant, add_constant, emit_opcode, emit_jmp, emit_jmp_if_not, emit_cmp_br, reset_stack_depth, set_position, refused}
use Rattle.definition.specs.Walk.{next}
use Rattle.field.proofs.Results.{never, ok-demand, ok-bind, ok-is}
use Rattle.runs.proofs.Emitted.{relabelled, count}
use Rattle.runs.proofs.Conditions.{indexed}
use Rattle.runs.proofs.Later.{grown-here, acts-grown}
use Rattle.counting.proofs.Once.{OneByte, OneBytes, binds}
use Rattle.counting.proofs.Rows.{Row, row_of, bytes_of, code_of, FormedBy, Adds, add-adds}
use Rattle.counting.proofs.Emitted.{rows_of, last_of, Names, folds_into, folds, Acts, acted, folded-formed, Tail, Within, goes-all}
use Rattle.counting.proofs.LaidOut.{code-length}
use Rattle.meaning.proofs.Calls.{binds-own}
use Rattle.meaning.proofs.Folded.{pends, fold}

-- row r is that of call c, where the constants are ks
unfoldable pub Is : Sheet → List ℕ → Call → Row → Type 0
Is s ks (create_label h) r = ⊥
Is s ks (bind_label l) r = ⊥
Is s ks (load_variable v) r = r ≡ row_of load_var (le16 v) none
Is s ks (store_variable v) r = r ≡ row_of store_var (le16 v) none
Is s ks (load_constant k) r = (i : ℕ) × (r ≡ row_of load_const (le16 i) none) × (get_or ks i 0 ≡ k)
Is s ks (add_constant k) r = ⊥
Is s ks (emit_opcode o) r = r ≡ row_of o [] none
Is s ks (emit_jmp l) r = r ≡ row_of jmp [] (some l)
Is s ks (emit_jmp_if_not l) r = r ≡ row_of jmp_if_not [] (some l)
Is s ks (emit_cmp_br c v k l) r = (i : ℕ) × (r ≡ row_of cmp_br (comparison_byte s c ∷ le16 v ++ le16 i) (some l)) × (get_or ks i 0 ≡ k)
Is s ks (reset_stack_depth h) r = ⊥
Is s ks (set_position p) r = ⊥
Is s ks (refused f) r = ⊥

-- a call without a row, which binds no label
pub data Quiet : Call → Type 0 where
  creating : {h : ℕ} → Quiet (create_label h)
  pooling : {k : ℕ} → Quiet (add_constant k)
  resetting : {h : ℕ} → Quiet (reset_stack_depth h)
  setting : {q : Pos} → Quiet (set_position q)

-- the calls and their rows, from place p on, n being the number of the next label
pub data Lays (s : Sheet) (ks : List ℕ) (labels : List (Option ℕ)) : ℕ → ℕ → List Call → List Row → Type 0 where
  ended : {n p : ℕ} → Lays s ks labels n p [] []
  quiet : {n p : ℕ} {c : Call} {cs : List Call} {rows : List Row} → Quiet c → Lays s ks labels (next c n) p cs rows → Lays s ks labels n p (c ∷ cs) rows
  binding : {n p l : ℕ} {cs : List Call} {rows : List Row} → (l < n → get_or labels l none ≡ some p) → Lays s ks labels n p cs rows → Lays s ks labels n p (bind_label l ∷ cs) rows
  row : {n p : ℕ} {c : Call} {r : Row} {cs : List Call} {rows : List Row} → Is s ks c r → Lays s ks labels n (p + length (bytes_of s r)) cs rows → Lays s ks labels n p (c ∷ cs) (r ∷ rows)

module _ (s : Sheet) (e : Emitter) where
  -- what the calls cs leave behind the rows R
  pub record Left (n : ℕ) (R : List Row) (cs : List Call) : Type 0 where
    pub rows : List Row
    pub lays : Lays s e.constants e.labels n (length (code_of s R)) cs rows
    pub formed : FormedBy s (R ++ rows) e

  -- a row more
  with_row : (n : ℕ) (R : List Row) (c : Call) (r : Row) (cs : List Call) → Is s e.constants c r → Left n (R ++ (r ∷ [])) cs → Left n R (c ∷ cs)
  with_row n R c r cs i x = record {
    rows = r ∷ x.rows;
    lays = row i (subst (λ p. Lays s e.constants e.labels n p cs x.rows) (code-length s R r) x.lays);
    formed = subst (λ t. FormedBy s t e) (append_assoc R (r ∷ []) x.rows) x.formed;
  }

  -- a constant that was entered is where it was
  stays : (k : ℕ) (u : Emitter) (cs : List Call) → u.last ≡ other → acts s cs u ≡ ok e → index_of k u.constants < length u.constants → get_or e.constants (index_of k u.constants) 0 ≡ k
  stays k u cs l p h =
      let g = acts-grown s cs u e (grown-here u l) p in
      ap (λ x. get_or x (index_of k u.constants) 0) g.constants ∙ (get_or-append u.constants g.more_constants 0 (index_of k u.constants) h ∙ indexed k u.constants h)

  -- a label that was bound is where it was
  bound : (l : ℕ) (R : List Row) (u u' : Emitter) (cs : List Call) → FormedBy s R u → FormedBy s R u' → u'.last ≡ other → u'.labels ≡ relabelled (bind_label l) (length u.bytecode) u.labels → OneBytes cs → acts s cs u' ≡ ok e → binds l cs ≡ 0
      → l < length u.labels → get_or e.labels l none ≡ some (length (code_of s R))
  unfolding relabelled Tail
  bound l R u u' cs f f' last q o p b h =
      let w : Within s [] u' = record { more = R; formed = f'; tail = subst (λ t. Tail t R) (sym last) tt } in
      let long : l < length u'.labels = subst (λ x. l < length x) (sym q) (subst (λ x. l < x) (sym (length-set u.labels l (some (length u.bytecode)))) h) in
      (goes-all s [] cs u' e w o p).changed.kept l long b
      ∙ (ap (λ x. get_or x l none) q ∙ (get_or-set_same u.labels l (some (length u.bytecode)) none h ∙ ap (λ x. some (length x)) f.is))

  -- no load is to fold into the store that was last
  unfoldable pub Clear : Last → List Call → Type 0
  Clear other cs = Unit {0}
  Clear (loaded v) cs = Unit {0}
  Clear (stored v) cs = pends v cs ≡ false

  clear-on : (t : Last) (c : Call) (cs : List Call) → ((v : ℕ) → pends v (c ∷ cs) ≡ pends v cs) → Clear t (c ∷ cs) → Clear t cs
  unfolding Clear
  clear-on other c cs n k = tt
  clear-on (loaded v) c cs n k = tt
  clear-on (stored v) c cs n k = sym (n v) ∙ k

  numbered : (c : Call) (R : List Row) (l : Last) (u u' : Emitter) → Acts s R c l u u' → length u'.labels ≡ next c (length u.labels)
  numbered c R l u u' a = ap length a.labels ∙ count c (length u.bytecode) u.labels

  less : (c : Call) (cs : List Call) → ((l : ℕ) → binds l (c ∷ cs) ≤ 1) → (l : ℕ) → binds l cs ≤ 1
  unfolding binds
  less c cs o l = let p = o l in omega arith

  renumbered : (n n' : ℕ) (R : List Row) (cs : List Call) → n' ≡ n → Left n' R cs → Left n R cs
  renumbered n n' R cs q x = subst (λ m. Left m R cs) q x

  once_more : (l : ℕ) (cs : List Call) → ((k : ℕ) → binds k (bind_label l ∷ cs) ≤ 1) → binds l cs ≡ 0
  unfolding binds
  once_more l cs o = let p = o l in let q = binds-own l in omega arith

  -- ---- a call that stays, what is left behind it being known: one without a row, and one with a row r behind which t is last

  still : (c : Call) (cs ds : List Call) (u : Emitter) (R S : List Row) → Quiet c → FormedBy s R u → OneByte c → folds c u.last ≡ false
      → ((v : Emitter) → Acts s (R ++ rows_of s c v.constants) c (last_of c u.last) u v → Acts s (R ++ []) c u.last u v)
      → ((v : Emitter) → FormedBy s R v → v.last ≡ u.last → acts s cs v ≡ ok e → Left (length v.labels) S ds) → acts s (c ∷ cs) u ≡ ok e → Left (length u.labels) S (c ∷ ds)
  unfolding acts
  still c cs ds u R S i f o n is rec p =
      let q = ok-bind (act s c u) _ e p in
      let a = is q.0 (acted s R c u q.0 f o n q.1) in
      let x = rec q.0 (subst (λ y. FormedBy s y q.0) (append-nil R) a.formed) a.last q.2 in
      record { rows = x.rows; lays = quiet i (subst (λ m. Lays s e.constants e.labels m (length (code_of s S)) ds x.rows) (numbered c _ _ u q.0 a) x.lays); formed = x.formed }

  rowed : (c : Call) (cs : List Call) (t : Last) (r : List ℕ → Row) (u : Emitter) (R : List Row) → FormedBy s R u → OneByte c → folds c u.last ≡ false
      → ((v : Emitter) → Acts s (R ++ rows_of s c v.constants) c (last_of c u.last) u v → Acts s (R ++ (r v.constants ∷ [])) c t u v) → ((n : ℕ) → next c n ≡ n)
      → ((v : Emitter) → v.last ≡ t → Names c v.constants → acts s cs v ≡ ok e → Is s e.constants c (r v.constants))
      → ((v : Emitter) (S : List Row) → FormedBy s S v → v.last ≡ t → acts s cs v ≡ ok e → Left (length v.labels) S (fold t cs)) → acts s (c ∷ cs) u ≡ ok e → Left (length u.labels) R (c ∷ fold t cs)
  unfolding acts
  rowed c cs t r u R f o n is m i rec p =
      let q = ok-bind (act s c u) _ e p in
      let a = is q.0 (acted s R c u q.0 f o n q.1) in
      with_row _ R c _ (fold t cs) (i q.0 a.last a.names q.2) (renumbered _ _ _ (fold t cs) (numbered c _ _ u q.0 a ∙ m _) (rec q.0 _ a.formed a.last q.2))

  -- a load that is not folded, and one that is a DUP
  load-rowed : (v : ℕ) (cs : List Call) (t : Last) (u : Emitter) (R : List Row) → FormedBy s R u → u.last ≡ t → folds_into t v ≡ false
      → ((w : Emitter) (S : List Row) → FormedBy s S w → w.last ≡ loaded v → acts s cs w ≡ ok e → Left (length w.labels) S (fold (loaded v) cs)) → acts s (load_variable v ∷ cs) u ≡ ok e → Left (length u.labels) R (load_variable v ∷ fold (loaded v) cs)
  unfolding folds rows_of last_of OneByte next Is
  load-rowed v cs t u R f l n rec p = rowed (load_variable v) cs (loaded v) (λ ks. row_of load_var (le16 v) none) u R f tt (ap (λ x. folds_into x v) l ∙ n) (λ w a. a) (λ m. refl) (λ w a b x. refl) rec p

  dup-rows : (R : List Row) (w v : ℕ) (u u' : Emitter) → FormedBy s R u → u.last ≡ loaded w → eqb w v ≡ true → act s (load_variable v) u ≡ ok u' → Adds s (R ++ (row_of dup [] none ∷ [])) other u u'
  unfolding act load_after size traits traits_of
  dup-rows R w v u u' f l n p =
      add-adds s R dup [] other u u' f refl (sym (ap (λ b. elim b [ true ↦ add s dup [] other u | false ↦ add s load_var (le16 v) (loaded v) u ]) n) ∙ (sym (ap (λ x. load_after x s v u) l) ∙ p))

  record FoldedStore (A : List Row) (v : ℕ) (u u' : Emitter) : Type 0 where
    formed : FormedBy s (A ++ (row_of dup [] none ∷ row_of store_var (le16 v) none ∷ [])) u'
    last : u'.last ≡ other
    labels : u'.labels ≡ u.labels

  fold-rows : (A : List Row) (w v : ℕ) (u u' : Emitter) → FormedBy s (A ++ (row_of store_var (le16 w) none ∷ [])) u → u.last ≡ stored w → eqb w v ≡ true → act s (load_variable v) u ≡ ok u' → FoldedStore A w u u'
  unfolding act load_after fold_store folded
  fold-rows A w v u u' f l n p =
      let q : load_after (stored w) s v u ≡ ok u' = sym (ap (λ x. load_after x s v u) l) ∙ p in
      let d = ok-demand _ _ _ _ u' (sym (ap (λ b. elim b [ true ↦ fold_store s u | false ↦ add s load_var (le16 v) (loaded v) u ]) n) ∙ q) in
      subst (λ x. FoldedStore A w u x) (sym (ok-is d.1)) (record { formed = folded-formed s w A u.bytecode u.patches f (ltb-true _ _ d.0); last = refl; labels = refl })

  choose : (b : Bool) (n : ℕ) (R : List Row) (x y : List Call) → (b ≡ true → Left n R x) → (b ≡ false → Left n R y) → Left n R (elim b [ true ↦ x | false ↦ y ])
  choose true n R x y f g = f refl
  choose false n R x y f g = g refl

  abbrev store_row : ℕ → Row
  store_row v = row_of store_var (le16 v) none

  abbrev dup_row : Row
  dup_row = row_of dup [] none

  refused-never : {X : Type 0} (x : Fault) (cs : List Call) (u : Emitter) → acts s (refused x ∷ cs) u ≡ ok e → X
  unfolding acts act ◌>>=◌
  refused-never x cs u p = never (cc)

  mutual
    unfolding fold pends rows_of last_of folds folds_into OneByte OneBytes acts Clear Is next relabelled Names

    pub laid : (cs : List Call) (t : Last) (u : Emitter) (R : List Row) → FormedBy s R u → u.last ≡ t → Clear t cs → OneBytes cs → ((l : ℕ) → binds l cs ≤ 1) → acts s cs u ≡ ok e → Left (length u.labels) R (fold t cs)
    laid [] t u R f l k o b p = record { rows = []; lays = ended; formed = subst (λ x. FormedBy s (R ++ []) x) (sym (ok-is p)) (subst (λ x. FormedBy s x u) (sym (append-nil R)) f) }
    laid (create_label h ∷ cs) t u R f l k o b p =
        still (create_label h) cs (fold t cs) u R R creating f o.0 refl (λ v a. a) (λ v g i x. laid cs t v R g (i ∙ l) (clear-on t (create_label h) cs (λ v. refl) k) o.1 (less (create_label h) cs b) x) p
    laid (bind_label m ∷ cs) t u R f l k o b p =
        let q = ok-bind (act s (bind_label m) u) _ e p in
        let a = acted s R (bind_label m) u q.0 f o.0 refl q.1 in
        let g = subst (λ x. FormedBy s x q.0) (append-nil R) a.formed in
        let x = renumbered _ _ R (fold other cs) (numbered (bind_label m) _ _ u q.0 a) (laid cs other q.0 R g a.last tt o.1 (less (bind_label m) cs b) q.2) in
        record { rows = x.rows; lays = binding (λ h. bound m R u q.0 cs f g a.last a.labels o.1 q.2 (once_more m cs b) h) x.lays; formed = x.formed }
    laid (load_variable v ∷ cs) other u R f l k o b p = load-rowed v cs other u R f l refl (λ w S g h x. laid cs (loaded v) w S g h tt o.1 (less (load_variable v) cs b) x) p
    laid (load_variable v ∷ cs) (loaded w) u R f l k o b p =
        choose (eqb w v) _ R (emit_opcode dup ∷ fold other cs) (load_variable v ∷ fold (loaded v) cs)
        (λ c. let q = ok-bind (act s (load_variable v) u) _ e p in
        let a = dup-rows R w v u q.0 f l c q.1 in
        with_row _ R (emit_opcode dup) dup_row (fold other cs) refl (renumbered _ _ _ (fold other cs) (ap length a.labels) (laid cs other q.0 _ a.formed a.last tt o.1 (less (load_variable v) cs b) q.2)))
        (λ c. load-rowed v cs (loaded w) u R f l c (λ w S g h x. laid cs (loaded v) w S g h tt o.1 (less (load_variable v) cs b) x) p)
    laid (load_variable v ∷ cs) (stored w) u R f l k o b p =
        choose (eqb w v) _ R (fold other cs) (load_variable v ∷ fold (loaded v) cs)
        (λ c. never (let z = sym c ∙ k in cc))
        (λ c. load-rowed v cs (stored w) u R f l c (λ w S g h x. laid cs (loaded v) w S g h tt o.1 (less (load_variable v) cs b) x) p)
    laid (store_variable v ∷ cs) t u R f l k o b p =
        let q = ok-bind (act s (store_variable v) u) _ e p in
        let a = acted s R (store_variable v) u q.0 f o.0 refl q.1 in
        choose (pends v cs) _ R (emit_opcode dup ∷ store_variable v ∷ fold (stored v) cs) (store_variable v ∷ fold (stored v) cs)
        (λ c. with_row _ R (emit_opcode dup) dup_row (store_variable v ∷ fold (stored v) cs) refl
        (with_row _ (R ++ (dup_row ∷ [])) (store_variable v) (store_row v) (fold (stored v) cs) refl
        (subst (λ x. Left (length u.labels) x (fold (stored v) cs)) (sym (append_assoc R (dup_row ∷ []) (store_row v ∷ []))) (renumbered _ _ _ (fold (stored v) cs) (numbered (store_variable v) _ _ u q.0 a) (pending cs v q.0 R a.formed a.last c o.1 (less (store_variable v) cs b) q.2)))))
        (λ c. rowed (store_variable v) cs (stored v) (λ ks. store_row v) u R f o.0 refl (λ v a. a) (λ n. refl) (λ v h a x. refl) (λ w S g h x. laid cs (stored v) w S g h c o.1 (less (store_variable v) cs b) x) p)
    laid (load_constant j ∷ cs) t u R f l k o b p =
        rowed (load_constant j) cs other (λ ks. row_of load_const (le16 (index_of j ks)) none) u R f o.0 refl (λ v a. a) (λ n. refl) (λ v h a x. (index_of j v.constants, refl, stays j v cs h x a)) (λ w S g h x. laid cs other w S g h tt o.1 (less (load_constant j) cs b) x) p
    laid (add_constant j ∷ cs) t u R f l k o b p =
        still (add_constant j) cs (fold t cs) u R R pooling f o.0 refl (λ v a. a) (λ v g i x. laid cs t v R g (i ∙ l) (clear-on t (add_constant j) cs (λ v. refl) k) o.1 (less (add_constant j) cs b) x) p
    laid (emit_opcode r ∷ cs) t u R f l k o b p =
        rowed (emit_opcode r) cs other (λ ks. row_of r [] none) u R f o.0 refl (λ v a. a) (λ n. refl) (λ v h a x. refl) (λ w S g h x. laid cs other w S g h tt o.1 (less (emit_opcode r) cs b) x) p
    laid (emit_jmp m ∷ cs) t u R f l k o b p =
        rowed (emit_jmp m) cs other (λ ks. row_of jmp [] (some m)) u R f o.0 refl (λ v a. a) (λ n. refl) (λ v h a x. refl) (λ w S g h x. laid cs other w S g h tt o.1 (less (emit_jmp m) cs b) x) p
    laid (emit_jmp_if_not m ∷ cs) t u R f l k o b p =
        rowed (emit_jmp_if_not m) cs other (λ ks. row_of jmp_if_not [] (some m)) u R f o.0 refl (λ v a. a) (λ n. refl) (λ v h a x. refl) (λ w S g h x. laid cs other w S g h tt o.1 (less (emit_jmp_if_not m) cs b) x) p
    laid (emit_cmp_br c v j m ∷ cs) t u R f l k o b p =
        rowed (emit_cmp_br c v j m) cs other (λ ks. row_of cmp_br (comparison_byte s c ∷ le16 v ++ le16 (index_of j ks)) (some m)) u R f o.0 refl (λ v a. a) (λ n. refl) (λ v h a x. (index_of j v.constants, refl, stays j v cs h x a)) (λ w S g h x. laid cs other w S g h tt o.1 (less (emit_cmp_br c v j m) cs b) x) p
    laid (reset_stack_depth h ∷ cs) t u R f l k o b p =
        still (reset_stack_depth h) cs (fold t cs) u R R resetting f o.0 refl (λ v a. a) (λ v g i x. laid cs t v R g (i ∙ l) (clear-on t (reset_stack_depth h) cs (λ v. refl) k) o.1 (less (reset_stack_depth h) cs b) x) p
    laid (set_position h ∷ cs) t u R f l k o b p =
        still (set_position h) cs (fold t cs) u R R setting f o.0 refl (λ v a. a) (λ v g i x. laid cs t v R g (i ∙ l) (clear-on t (set_position h) cs (λ v. refl) k) o.1 (less (set_position h) cs b) x) p
    laid (refused x ∷ cs) t u R f l k o b p = refused-never x cs u p

    -- behind a store into which a load will fold
    pub pending : (cs : List Call) (v : ℕ) (u : Emitter) (A : List Row) → FormedBy s (A ++ (store_row v ∷ [])) u → u.last ≡ stored v → pends v cs ≡ true → OneBytes cs → ((l : ℕ) → binds l cs ≤ 1) → acts s cs u ≡ ok e
        → Left (length u.labels) (A ++ (dup_row ∷ store_row v ∷ [])) (fold (stored v) cs)
    pending [] v u A f l k o b p = never (cc)
    pending (create_label h ∷ cs) v u A f l k o b p =
        still (create_label h) cs (fold (stored v) cs) u _ _ creating f o.0 refl (λ v a. a) (λ w g i x. pending cs v w A g (i ∙ l) k o.1 (less (create_label h) cs b) x) p
    pending (bind_label m ∷ cs) v u A f l k o b p = never (cc)
    pending (load_variable w ∷ cs) v u A f l k o b p =
        let q = ok-bind (act s (load_variable w) u) _ e p in
        choose (eqb v w) _ _ (fold other cs) (load_variable w ∷ fold (loaded w) cs)
        (λ c. let a = fold-rows A v w u q.0 f l c q.1 in renumbered _ _ _ (fold other cs) (ap length a.labels) (laid cs other q.0 _ a.formed a.last tt o.1 (less (load_variable w) cs b) q.2))
        (λ c. never (let z = sym k ∙ c in cc))
    pending (store_variable w ∷ cs) v u A f l k o b p = never (cc)
    pending (load_constant j ∷ cs) v u A f l k o b p = never (cc)
    pending (add_constant j ∷ cs) v u A f l k o b p =
        still (add_constant j) cs (fold (stored v) cs) u _ _ pooling f o.0 refl (λ v a. a) (λ w g i x. pending cs v w A g (i ∙ l) k o.1 (less (add_constant j) cs b) x) p
    pending (emit_opcode r ∷ cs) v u A f l k o b p = never (cc)
    pending (emit_jmp m ∷ cs) v u A f l k o b p = never (cc)
    pending (emit_jmp_if_not m ∷ cs) v u A f l k o b p = never (cc)
    pending (emit_cmp_br c w j m ∷ cs) v u A f l k o b p = never (cc)
    pending (reset_stack_depth h ∷ cs) v u A f l k o b p =
        still (reset_stack_depth h) cs (fold (stored v) cs) u _ _ resetting f o.0 refl (λ v a. a) (λ w g i x. pending cs v w A g (i ∙ l) k o.1 (less (reset_stack_depth h) cs b) x) p
    pending (set_position h ∷ cs) v u A f l k o b p =
        still (set_position h) cs (fold (stored v) cs) u _ _ setting f o.0 refl (λ v a. a) (λ w g i x. pending cs v w A g (i ∙ l) k o.1 (less (set_position h) cs b) x) p
    pending (refused x ∷ cs) v u A f l k o b p = never (cc)
