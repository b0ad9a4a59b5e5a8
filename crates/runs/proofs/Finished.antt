-- Finished code of one program: every run of it over any outcomes is fine, every branch of it, reached or not, leads where the three maps
-- move its label's place, and each place of it has one height.
use Prim.Native.Nat.{ℕ, ◌+◌, ◌-◌, suc, zero, ◌≤◌, ◌<◌, zero-le}
use mathlib.Core.Path.{◌≡◌, refl, sym, ◌∙◌, ap, subst}
use mathlib.Core.List.{List, [], ◌∷◌, ◌++◌, map, map-map, map-append}
use mathlib.Core.Bool.{Bool, true, false}
use mathlib.Core.Option.{Option, some, none}
use lib.ListN.{length, get_or}
use native.Mathlib.Omega.{arith}
use Rattle.definition.specs.Limits.{max_code}
use Rattle.definition.specs.Res.{ok}
use Rattle.definition.specs.Field.{has}
use Rattle.definition.specs.Opcode.{cmp_br, number, compare_index, Sheet, opcode, comparison_byte}
use Rattle.definition.specs.Rules.{Rule, matches, has_role, role_numbered}
use Rattle.definition.specs.Check.{listed}
use Rattle.opcode.specs.Table.{Good}
use Rattle.opcode.proofs.Sheets.{role-number}
use Rattle.opcode.proofs.Roles.{compare-index}
use lib.Dec.{eqb}
use borrow.Author.Tests.{eqb-true}
use Rattle.definition.specs.Tree.{Program}
use Rattle.definition.specs.Emit.{Emitter, PendingPatch, Call}
use Rattle.definition.specs.Stmt.{emit_stmts}
use Rattle.definition.specs.Rewrite.{opcode_of, decode, starts_from, OffsetMap, moved_to}
use Rattle.definition.specs.Optimize.{optimize}
use Rattle.definition.specs.Compile.{bound_or0, bound_label, jump_targets, finalize_function, emit_program, in_reach}
use Rattle.definition.specs.Runs.{State, target, run, start}
use Rattle.field.proofs.Results.{ok-demand}
use Rattle.runs.proofs.Heights.{Bound}
use Rattle.definition.specs.Claims.{Either, left, right, Fine, branch_places, in_turn, LeadsTo, Each, empty, ◌also◌, BranchLeads, Branches, OneHeight}
use Rattle.field.proofs.Lists.{has_first, has-later}
use Rattle.runs.proofs.Rows.{Row, bytes_of, place_at, aim_at, row_of, row_inside, row-aim, row-bytes, height-first, place-first, place_end, place-within, patch_here, patches_by, patches-same, each-patch, each_row, aim-row, Rising, patches-rise, place-rises, Compared, Linked}
use Rattle.runs.proofs.Emitted.{Stands, Placed, Acted, created, emitted}
use Rattle.runs.proofs.Passes.{Reads, Fine as FineMatcher, ins_of, decode-rows, looked-moved, Piped, optimize-piped, moved-in-turn}
use Rattle.runs.proofs.Patched.{aimed_rows, aimed-first, aimed-heights, aimed-count, aimed-linked, aimed-places, aimed-patches, aimed_row, aimed-aims, aimed-row, aimed-byte, aimed-compared, aimed-long, patch_with, moved_patch, patch_jumps-with, patched-rows, row_target, inside-rows, IsNear, NearBy, near-is, row_next}
use Rattle.runs.proofs.Running.{row-at, run-fine, row_fine, row-leads, branch-places, height-of, height-place, start-row}

-- ---- patches and what holds of each

map-patches : (m : OffsetMap) (f : ℕ → ℕ) (rs : List Row) → map (moved_patch m) (patches_by f rs) ≡ patches_by (λ i. moved_to m (f i)) rs
unfolding patches_by patch_here moved_patch
map-patches m f [] = refl
map-patches m f (r ∷ rs) = map-append (moved_patch m) (patch_here r.aim (f 0) r.operand) (patches_by (λ i. f (suc i)) rs)
    ∙ (ap (λ x. x ++ map (moved_patch m) (patches_by (λ i. f (suc i)) rs)) (here r.aim) ∙ ap (λ x. patch_here r.aim (moved_to m (f 0)) r.operand ++ x) (map-patches m (λ i. f (suc i)) rs))
  where
    here : (a : Option ℕ) → map (moved_patch m) (patch_here a (f 0) r.operand) ≡ patch_here a (moved_to m (f 0)) r.operand
    here none = refl
    here (some l) = refl

map_same : {A : Type 0} (f g : A → ℕ) {xs : List A} → Each (λ x. f x ≡ g x) xs → map f xs ≡ map g xs
map_same f g empty = refl
map_same f g (◌also◌ {x = x} {xs = xs} p ps) = ap (λ y. y ∷ map f xs) p ∙ ap (λ ys. g x ∷ ys) (map_same f g ps)

pub each-so : {A : Type 0} {P Q : A → Type 0} {xs : List A} → ((x : A) → P x → Q x) → Each P xs → Each Q xs
each-so f empty = empty
each-so f (◌also◌ {x = x} p ps) = f x p also each-so f ps

each_back : {A B : Type 0} {P : B → Type 0} (f : A → B) (xs : List A) → Each P (map f xs) → Each (λ x. P (f x)) xs
each_back f [] empty = empty
each_back f (x ∷ xs) (p also ps) = p also each_back f xs ps

each-forth : {A B : Type 0} {P : B → Type 0} (f : A → B) (xs : List A) → Each (λ x. P (f x)) xs → Each P (map f xs)
each-forth f [] empty = empty
each-forth f (x ∷ xs) (p also ps) = p also each-forth f xs ps

pub each_both : {A : Type 0} {P Q : A → Type 0} {xs : List A} → Each P xs → Each Q xs → Each (λ x. P x × Q x) xs
each_both empty empty = empty
each_both (p also ps) (q also qs) = (p, q) also each_both ps qs

-- 15 is not answered
abbrev pub Reaches : Sheet → List Rule → Emitter → Type 0
Reaches s rules e = in_reach e.labels (optimize s rules e.bytecode (jump_targets e)).map e.patches ≡ ok tt

-- then every branch is near its target
pub reach-each : (labels : List (Option ℕ)) (m : OffsetMap) (ps : List PendingPatch) → in_reach labels m ps ≡ ok tt
    → Each (λ p. NearBy labels m p) ps
unfolding in_reach
reach-each labels m [] e = empty
reach-each labels m (p ∷ ps) e = let d = ok-demand _ _ _ _ tt e in near-is _ _ d.0 also reach-each labels m ps d.1

-- what holds of each patch's label holds of each row's
each-aim : (Q : ℕ → Type 0) (f : ℕ → ℕ) (rs : List Row) → Each (λ (p : PendingPatch). Q p.label) (patches_by f rs) → (i l : ℕ) → aim_at rs i ≡ some l → Q l
each-aim Q f rs e i l a = let x = aim-row rs i l a in each_row (λ (p : PendingPatch). Q p.label) f rs e i l x.0 x.1 x.2

-- a patch's label is protected
each-has : (B : ℕ → ℕ) (ps : List PendingPatch) → Each (λ (p : PendingPatch). has (map (λ (p : PendingPatch). B p.label) ps) (B p.label) ≡ true) ps
each-has B ps = go ps (λ x e. e)
  where
    targets : List ℕ
    targets = map (λ (p : PendingPatch). B p.label) ps

    go : (qs : List PendingPatch) → ((x : ℕ) → has (map (λ (p : PendingPatch). B p.label) qs) x ≡ true → has targets x ≡ true) → Each (λ (p : PendingPatch). has targets (B p.label) ≡ true) qs
    go [] f = empty
    go (q ∷ qs) f = f _ (has_first _ _ _ refl) also go qs (λ x e. f x (has-later _ _ _ e))

-- ---- comparison bytes are listed

has-at : (xs : List ℕ) (i : ℕ) → i < length xs → has xs (get_or xs i 0) ≡ true
has-at [] i lt = absurd (omega arith)
has-at (x ∷ xs) zero lt = has_first x xs x refl
has-at (x ∷ xs) (suc i) lt = has-later x xs (get_or xs i 0) (has-at xs i (omega arith))

row_listed : (s : Sheet) → Reads s → Good s → (r : Row) → Compared s r → listed s (ins_of s r) ≡ true
unfolding listed ins_of opcode_of has_role comparison_byte
row_listed s back g r c = ap {B = Bool} (λ x. elim (has_role cmp_br x) as (λ b. Bool) [ true ↦ has s.comparisons (get_or r.operand 0 0) | false ↦ true ]) (back r.role) ∙ by (eqb (number cmp_br) (number r.role)) refl
  where
    by : (b : Bool) → eqb (number cmp_br) (number r.role) ≡ b → elim b [ true ↦ has s.comparisons (get_or r.operand 0 0) | false ↦ true ] ≡ true
    by true q =
        let z : r.role ≡ cmp_br = sym (sym (role-number cmp_br) ∙ (ap role_numbered (eqb-true (number cmp_br) (number r.role) q) ∙ role-number r.role)) in
        let x = c z in
        ap (λ y. has s.comparisons y) x.1 ∙ has-at s.comparisons (compare_index x.0) (let l = compare-index x.0 in let k = g.comparisons.long in omega arith)
    by false q = refl

rows-listed : (s : Sheet) → Reads s → Good s → {rs : List Row} → Each (λ r. Compared s r) rs → Each (λ i. listed s i ≡ true) (map (ins_of s) rs)
rows-listed s back g empty = empty
rows-listed s back g (◌also◌ {x = r} c cs) = row_listed s back g r c also rows-listed s back g cs

-- ---- the rows of finished code

module _ (s : Sheet) (back : Reads s) (rules : List Rule) (fine : (pass : ℕ) → FineMatcher s (λ a b. matches pass rules a b)) (p : Program) (e : Emitter) (q : emit_program s p ≡ ok e) where
  abbrev calls : List Call
  calls = (emit_stmts p.body 0).1

  abbrev Λ : ℕ → ℕ
  Λ = created calls

  acted : Acted Λ (λ l. Bound l 0 calls) s calls 0 [] e
  unfolding emit_program
  acted = emitted s p.body p.pos e q

  rows₀ : List Row
  rows₀ = acted.inv.rows

  abbrev code₀ : List ℕ
  code₀ = e.bytecode

  abbrev protected : List ℕ
  protected = jump_targets e

  piped : Piped Λ e.max_depth s rows₀ protected (optimize s rules code₀ protected)
  unfolding rows₀
  piped = optimize-piped s back protected rules fine code₀ acted.inv.bytes acted.inv.linked

  abbrev moves : OffsetMap
  moves = (optimize s rules code₀ protected).map

  -- where a label's branches must lead
  abbrev T : ℕ → ℕ
  T l = moved_to moves (bound_label e.labels l)

  rows : List Row
  rows = aimed_rows T 0 piped.rows

  linked : Linked Λ e.max_depth rows 0
  unfolding rows
  linked = aimed-linked T 0 piped.linked

  patches-moved : map (moved_patch moves) e.patches ≡ patches_by (λ i. place_at piped.rows i) piped.rows
  unfolding rows₀
  patches-moved = ap (λ x. map (moved_patch moves) x) acted.inv.patches ∙ (map-patches moves (λ i. place_at rows₀ i) rows₀
      ∙ (patches-same (λ i. moved_to moves (place_at rows₀ i)) (λ i. place_at piped.rows (piped.go i)) rows₀ (λ i le. looked-moved moves _ _ (piped.maps i (omega arith)))
      ∙ sym (piped.branches (λ i. place_at piped.rows i))))

  code-rows : (finalize_function s rules e).bytecode ≡ bytes_of s rows
  unfolding finalize_function rows
  code-rows = patch_jumps-with e.labels moves e.patches (optimize s rules code₀ protected).bytecode
      ∙ (ap (λ x. patch_with T x (optimize s rules code₀ protected).bytecode) (patches-moved
      ∙ patches-same (λ i. place_at piped.rows i) (λ i. 0 + place_at piped.rows i) piped.rows (λ i le. let n : place_at piped.rows i ≡ 0 + place_at piped.rows i = omega arith in n))
      ∙ (ap (λ x. patch_with T (patches_by (λ i. 0 + place_at piped.rows i) piped.rows) x) piped.bytes ∙ patched-rows s T [] piped.linked))

  -- ---- the labels of branches

  -- a label that some branch has is bound, at a protected place
  pub record Used (l : ℕ) : Type 0 where
    pub placed : Placed e.labels l
    pub kept : has protected (bound_label e.labels l) ≡ true

  each-used : Each (λ (x : PendingPatch). Used x.label) e.patches
  unfolding jump_targets
  each-used = both e.patches acted.jumps (each-has (λ l. bound_label e.labels l) e.patches)
    where
      both : (xs : List PendingPatch) → Each (λ (x : PendingPatch). Bound x.label 0 calls) xs → Each (λ (x : PendingPatch). has protected (bound_label e.labels x.label) ≡ true) xs → Each (λ (x : PendingPatch). Used x.label) xs
      both [] empty empty = empty
      both (x ∷ xs) (b also bs) (h also hs) = record { placed = acted.binds x.label b; kept = h } also both xs bs hs

  bound-is : {l : ℕ} (u : Used l) → bound_label e.labels l ≡ u.placed.place
  unfolding bound_label bound_or0
  bound-is u = ap bound_or0 u.placed.is

  -- the places of labels in emitted code
  label-row : (l : ℕ) → Used l → Stands rows₀ 0 (bound_label e.labels l) (Λ l)
  unfolding rows₀
  label-row l u = subst (λ x. Stands rows₀ 0 x (Λ l)) (sym (bound-is u)) (acted.inv.labels.stands l u.placed.place u.placed.is)

  aim-used : (i l : ℕ) → aim_at rows i ≡ some l → Used l
  unfolding rows rows₀ moved_patch
  aim-used i l a = each-aim Used (λ j. place_at piped.rows j) piped.rows
      (subst (λ x. Each (λ (y : PendingPatch). Used y.label) x) patches-moved (each-moved e.patches each-used)) i l (sym (aimed-aims T 0 piped.rows i) ∙ a)
    where
      each-moved : (xs : List PendingPatch) → Each (λ (y : PendingPatch). Used y.label) xs → Each (λ (y : PendingPatch). Used y.label) (map (moved_patch moves) xs)
      each-moved [] empty = empty
      each-moved (x ∷ xs) (u also us) = u also each-moved xs us

  target_row : (l : ℕ) → Used l → Stands rows 0 (T l) (Λ l)
  unfolding rows
  target_row l u =
      let r = label-row l u in
      let m : T l ≡ place_at piped.rows (piped.go r.index) = ap (λ x. moved_to moves x) r.place ∙ looked-moved moves _ _ (piped.maps r.index r.within) in
      record {
        index = piped.go r.index;
        within = subst (λ x. piped.go r.index ≤ x) (sym (aimed-count T 0 piped.rows)) (piped.within r.index r.within);
        place = m ∙ sym (aimed-places T 0 piped.linked (piped.go r.index));
        height = aimed-heights T 0 piped.rows 0 (piped.go r.index) ∙ (piped.heights r.index r.within (subst (λ x. has protected x ≡ true) r.place u.kept) ∙ r.height);
      }

  -- a branch's label is bound within the code, and its two bytes lie in rewritten code
  pub program-bound : Each (λ (x : PendingPatch). bound_label e.labels x.label ≤ length e.bytecode) e.patches
  unfolding rows₀
  program-bound = each-so (λ x u.
      let r = label-row x.label u in
      let at = r.place in
      let a = place-within s rows₀ r.index in
      let b = ap length acted.inv.bytes in
      omega arith) each-used

  pub program-inside : Each (λ (x : PendingPatch). moved_to moves x.instruction_offset + x.operand_delta + 2 ≤ length (optimize s rules code₀ protected).bytecode) e.patches
  unfolding moved_patch
  program-inside = each_back {P = λ (x : PendingPatch). x.instruction_offset + x.operand_delta + 2 ≤ length (optimize s rules code₀ protected).bytecode} (moved_patch moves) e.patches
      (subst (λ xs. Each (λ (x : PendingPatch). x.instruction_offset + x.operand_delta + 2 ≤ length (optimize s rules code₀ protected).bytecode) xs) (sym patches-moved)
      (inside-rows s 0 (λ i. place_at piped.rows i) piped.linked (λ i. let n : place_at piped.rows i ≡ 0 + place_at piped.rows i = omega arith in n) _ (let b = ap length piped.bytes in omega arith)))

  same_length : length (bytes_of s rows) ≡ length (bytes_of s piped.rows)
  unfolding rows
  same_length = place_end s rows ∙ (aimed-places T 0 piped.linked (length rows) ∙ (ap (λ n. place_at piped.rows n) (aimed-count T 0 piped.rows) ∙ sym (place_end s piped.rows)))

  short : length (bytes_of s rows) ≤ max_code
  unfolding rows₀
  short = let a = same_length in let b = piped.short in let c = acted.inv.short in let d = ap length acted.inv.bytes in let f = ap length piped.bytes in omega arith

  finished-patches : patches_by (λ i. place_at rows i) rows ≡ map (moved_patch moves) e.patches
  unfolding rows
  finished-patches = patches-same (λ i. place_at rows i) (λ i. place_at piped.rows i) rows (λ i le. aimed-places T 0 piped.linked i)
      ∙ (aimed-patches T 0 (λ i. place_at piped.rows i) piped.linked ∙ sym patches-moved)

  aim_near : Reaches s rules e → (i l : ℕ) → aim_at rows i ≡ some l → IsNear (T l) (place_at rows (suc i))
  unfolding moved_patch
  aim_near reach i l a =
      let x = aim-row rows i l a in
      let near : Each (λ (y : PendingPatch). IsNear (T y.label) (y.instruction_offset + y.operand_delta + 2)) (map (moved_patch moves) e.patches) =
      each-forth (moved_patch moves) e.patches (reach-each e.labels moves e.patches reach) in
      subst (λ y. IsNear (T l) y) (row_next linked i l x.0 x.1 x.2)
      (each_row (λ (y : PendingPatch). IsNear (T y.label) (y.instruction_offset + y.operand_delta + 2)) (λ i. place_at rows i) rows (subst (λ xs. Each (λ (y : PendingPatch). IsNear (T y.label) (y.instruction_offset + y.operand_delta + 2)) xs) (sym finished-patches) near) i l x.0 x.1 x.2)

  leads : Reaches s rules e → (i l : ℕ) → aim_at rows i ≡ some l → (target (bytes_of s rows) (place_at rows (suc i)) ≡ some (T l)) × Stands rows 0 (T l) (Λ l)
  unfolding rows
  leads reach i l a =
      let w : place_at rows (suc i) ≡ 0 + place_at piped.rows (suc i) = let z = aimed-places T 0 piped.linked (suc i) in omega arith in (
        ap (λ x. target (bytes_of s rows) x) w ∙ row_target s T [] piped.linked i l (sym (aimed-aims T 0 piped.rows i) ∙ a) (subst (λ x. IsNear (T l) x) w (aim_near reach i l a)),
        target_row l (aim-used i l a),
      )

  begins : (os : List Bool) → Stands rows 0 (start os).place (start os).height
  unfolding rows rows₀ start
  begins os = record { index = 0; within = zero-le; place = sym (place-first rows); height = height-first rows 0 ∙ (aimed-first T 0 piped.rows 0 ∙ (piped.first ∙ acted.inv.first)) }

  -- ---- the two claims, of one program

  pub program_runs : Reaches s rules e → (os : List Bool) (n : ℕ) → Fine s (finalize_function s rules e).bytecode (finalize_function s rules e).depth (run s (finalize_function s rules e).bytecode n (start os))
  unfolding finalize_function start
  program_runs reach os n = subst (λ c. Fine s c e.max_depth (run s c n (start os))) (sym code-rows) (row_fine s rows linked T (leads reach) back (run-fine s rows linked T (leads reach) back n (start os) (begins os) zero-le))

  pub program-length : length (finalize_function s rules e).bytecode ≡ length (optimize s rules code₀ protected).bytecode
  program-length = ap length code-rows ∙ (same_length ∙ sym (ap length piped.bytes))

  -- a branch's target lies in finished code, or at its end
  pub program-targets : Each (λ (x : PendingPatch). moved_to moves (bound_label e.labels x.label) ≤ length (finalize_function s rules e).bytecode) e.patches
  program-targets = each-so (λ x u.
      let t = target_row x.label u in
      subst (λ c. moved_to moves (bound_label e.labels x.label) ≤ length c) (sym code-rows) (subst (λ y. y ≤ length (bytes_of s rows)) (sym t.place) (place-within s rows t.index))) each-used

  pub program-short : length (finalize_function s rules e).bytecode ≤ max_code
  program-short = subst (λ c. length c ≤ max_code) (sym code-rows) short

  place-in-turn : (i : ℕ) → i ≤ length rows₀ → moved_to moves (place_at rows₀ i) ≡ in_turn s rules code₀ protected (place_at rows₀ i)
  unfolding rows₀
  place-in-turn i le = moved-in-turn s back protected rules fine code₀ acted.inv.bytes acted.inv.linked i le

  -- a branch's own place, and its label's
  offsets-in-turn : Each (λ (x : PendingPatch). moved_to moves x.instruction_offset ≡ in_turn s rules code₀ protected x.instruction_offset) e.patches
  unfolding rows₀
  offsets-in-turn = subst (λ xs. Each (λ (x : PendingPatch). moved_to moves x.instruction_offset ≡ in_turn s rules code₀ protected x.instruction_offset) xs) (sym acted.inv.patches)
      (each-patch (λ (x : PendingPatch). moved_to moves x.instruction_offset ≡ in_turn s rules code₀ protected x.instruction_offset) (λ i. place_at rows₀ i) rows₀
      (λ i l r p a. place-in-turn i (let n = row_inside rows₀ i r p in omega arith)))

  target-in-turn : (l : ℕ) → Used l → T l ≡ in_turn s rules code₀ protected (bound_label e.labels l)
  target-in-turn l u =
      let r = label-row l u in
      ap (λ y. moved_to moves y) r.place ∙ (place-in-turn r.index r.within ∙ ap (λ y. in_turn s rules code₀ protected y) (sym r.place))

  -- each branch's label is bound, and the composed map moves the branch and its label's place as the three maps do in turn
  pub program-turned : Each (λ (x : PendingPatch). (b : ℕ) × (get_or e.labels x.label none ≡ some b) × (moved_to moves x.instruction_offset ≡ in_turn s rules code₀ protected x.instruction_offset)
      × (moved_to moves (bound_label e.labels x.label) ≡ in_turn s rules code₀ protected b)) e.patches
  program-turned = each-so (λ x (u, o). (u.placed.place, u.placed.is, o, target-in-turn x.label u ∙ ap (λ y. in_turn s rules code₀ protected y) (bound-is u))) (each_both each-used offsets-in-turn)

  -- branches stay in the order of their places
  pub program-rises : Rising 0 (map (λ (x : PendingPatch). moved_to moves x.instruction_offset) e.patches)
  unfolding moved_patch
  program-rises = subst (λ xs. Rising 0 xs) (ap (λ xs. map (λ (x : PendingPatch). x.instruction_offset) xs) finished-patches ∙ map-map (λ (x : PendingPatch). x.instruction_offset) (moved_patch moves) e.patches)
      (patches-rise (λ i. place_at rows i) (place-rises rows) 0 zero-le rows)

  emitted-places : branch_places s code₀ ≡ map (λ (x : PendingPatch). x.instruction_offset) e.patches
  unfolding rows₀
  emitted-places = ap (λ c. branch_places s c) acted.inv.bytes ∙ (branch-places s back acted.inv.linked ∙ ap (λ xs. map (λ (x : PendingPatch). x.instruction_offset) xs) (sym acted.inv.patches))

  finished-places : branch_places s (finalize_function s rules e).bytecode ≡ map (λ y. in_turn s rules code₀ protected y) (branch_places s code₀)
  unfolding moved_patch
  finished-places = ap (λ c. branch_places s c) code-rows ∙ (branch-places s back linked ∙ (ap (λ xs. map (λ (x : PendingPatch). x.instruction_offset) xs) finished-patches
      ∙ (map-map (λ (x : PendingPatch). x.instruction_offset) (moved_patch moves) e.patches
      ∙ (map_same (λ (x : PendingPatch). moved_to moves x.instruction_offset) (λ (x : PendingPatch). in_turn s rules code₀ protected x.instruction_offset) offsets-in-turn
      ∙ (sym (map-map (λ y. in_turn s rules code₀ protected y) (λ (x : PendingPatch). x.instruction_offset) e.patches) ∙ ap (λ xs. map (λ y. in_turn s rules code₀ protected y) xs) (sym emitted-places))))))

  -- a branch of emitted code is row i, and in finished code it is that row with its offset
  module _ (i l : ℕ) (r : Row) (x : row_of rows₀ i ≡ some r) (a : r.aim ≡ some l) where
    g : ℕ
    g = piped.go i

    abbrev own : ℕ
    own = in_turn s rules code₀ protected (place_at rows₀ i)

    own-place : own ≡ place_at rows g
    unfolding rows g
    own-place =
        let le : i ≤ length rows₀ = let n = row_inside rows₀ i r x in omega arith in
        sym (place-in-turn i le) ∙ (looked-moved moves _ _ (piped.maps i le) ∙ sym (aimed-places T 0 piped.linked (piped.go i)))

    moved_row : (next : ℕ) × (row_of rows g ≡ some (aimed_row T next r))
    unfolding rows g
    moved_row = aimed-row T 0 piped.rows (piped.go i) r (piped.keeps i l r x a)

    moved-aim : aim_at rows g ≡ some l
    unfolding aimed_row
    moved-aim = row-aim rows g (aimed_row T moved_row.0 r) moved_row.1 ∙ a

    moved-leads : Reaches s rules e → (u : Used l) → LeadsTo s (finalize_function s rules e).bytecode own (in_turn s rules code₀ protected u.placed.place)
    moved-leads reach u = subst (λ c. LeadsTo s c own (in_turn s rules code₀ protected u.placed.place)) (sym code-rows)
        (subst (λ y. LeadsTo s (bytes_of s rows) y (in_turn s rules code₀ protected u.placed.place)) (sym own-place)
        (subst (λ y. LeadsTo s (bytes_of s rows) (place_at rows g) y) (target-in-turn l u ∙ ap (λ y. in_turn s rules code₀ protected y) (bound-is u))
        (row-leads s rows linked T (leads reach) back g l (row_inside rows g _ moved_row.1) moved-aim)))

    moved-bytes : (k : ℕ) → k < length r.operand - 1 → get_or (finalize_function s rules e).bytecode (own + k) 0 ≡ get_or code₀ (place_at rows₀ i + k) 0
    unfolding rows₀ aimed_row
    moved-bytes k lt = ap (λ c. get_or c (own + k) 0) code-rows ∙ (ap (λ y. get_or (bytes_of s rows) (y + k) 0) own-place
        ∙ (row-bytes s rows g (aimed_row T moved_row.0 r) moved_row.1 k (aimed-long T moved_row.0 r.aim r.operand k lt)
        ∙ (aimed-byte T moved_row.0 (opcode s r.role) r.aim r.operand k lt
        ∙ sym (ap (λ c. get_or c (place_at rows₀ i + k) 0) acted.inv.bytes ∙ row-bytes s rows₀ i r x k (omega arith)))))

    branch_leads : Reaches s rules e → BranchLeads s rules e (finalize_function s rules e).bytecode (record { instruction_offset = place_at rows₀ i; operand_delta = length r.operand - 1; label = l })
    branch_leads reach = let u = aim-used g l moved-aim in record { bound = u.placed.place; binds = u.placed.is; leads = moved-leads reach u; kept = moved-bytes }

  each-leads : Reaches s rules e → Each (λ (x : PendingPatch). BranchLeads s rules e (finalize_function s rules e).bytecode x) e.patches
  unfolding rows₀
  each-leads reach = subst (λ xs. Each (λ (x : PendingPatch). BranchLeads s rules e (finalize_function s rules e).bytecode x) xs) (sym acted.inv.patches)
      (each-patch (λ x. BranchLeads s rules e (finalize_function s rules e).bytecode x) (λ i. place_at rows₀ i) rows₀ (λ i l r x a. branch_leads i l r x a reach))

  pub program-branches : Reaches s rules e → Branches s rules e (finalize_function s rules e).bytecode
  program-branches reach = record { emitted = emitted-places; finished = finished-places; leads = each-leads reach }

  -- ---- comparison bytes

  known-rows : Each (λ r. Compared s r) rows
  unfolding rows rows₀
  known-rows = aimed-compared T s 0 piped.linked (piped.known acted.inv.known)

  -- a CMP_BR's comparison byte is listed
  pub program-listed : Good s → Each (λ i. listed s i ≡ true) (decode s (finalize_function s rules e).bytecode)
  program-listed g = subst (λ is. Each (λ i. listed s i ≡ true) is) (sym (ap (λ c. decode s c) code-rows ∙ decode-rows s back linked)) (rows-listed s back g known-rows)

  -- ---- heights by place

  -- a start or the end is some row's place
  place-row : (p : ℕ) → Either (has (starts_from 0 (decode s (bytes_of s rows))) p ≡ true) (p ≡ length (bytes_of s rows)) → (i : ℕ) × (i ≤ length rows) × (p ≡ place_at rows i)
  place-row p (left h) =
      let x = start-row s rows 0 p (sym (ap (λ is. has (starts_from 0 is) p) (decode-rows s back linked)) ∙ h) in
      (x.0, (let n = x.1 in omega arith), x.2 ∙ (let n : 0 + place_at rows x.0 ≡ place_at rows x.0 = omega arith in n))
  place-row p (right q) = (length rows, (let n : length rows ≤ length rows = omega arith in n), q ∙ place_end s rows)

  -- an instruction starts before the end
  start-before : (p : ℕ) → has (starts_from 0 (decode s (bytes_of s rows))) p ≡ true → p < length (bytes_of s rows)
  start-before p h =
      let x = start-row s rows 0 p (sym (ap (λ is. has (starts_from 0 is) p) (decode-rows s back linked)) ∙ h) in
      let a = (row-at s 0 linked x.0 x.1).1.inside in
      let q = x.2 in
      omega arith

  pub program-before : (p : ℕ) → has (starts_from 0 (decode s (finalize_function s rules e).bytecode)) p ≡ true → p < length (finalize_function s rules e).bytecode
  program-before p h = subst (λ c. p < length c) (sym code-rows) (start-before p (subst (λ c. has (starts_from 0 (decode s c)) p ≡ true) code-rows h))

  stands_at_lem : (x : State) → Either (has (starts_from 0 (decode s (bytes_of s rows))) x.place ≡ true) (x.place ≡ length (bytes_of s rows)) → x.height ≡ height-of rows 0 x.place → Stands rows 0 x.place x.height
  stands_at_lem x w h =
      let i = place-row x.place w in
      record { index = i.0; within = i.1; place = i.2; height = sym (height-place rows 0 i.0) ∙ (ap (λ p. height-of rows 0 p) (sym i.2) ∙ sym h) }

  height-is : (p h : ℕ) → Stands rows 0 p h → h ≡ height-of rows 0 p
  height-is p h st = sym st.height ∙ (sym (height-place rows 0 st.index) ∙ ap (λ x. height-of rows 0 x) (sym st.place))

  rows-heights : Reaches s rules e → OneHeight s (bytes_of s rows) e.max_depth
  unfolding start
  rows-heights reach = record {
    height_at = λ p. height-of rows 0 p;
    first = sym (height-is 0 0 (begins []));
    held = λ os n. height-is _ _ (run-fine s rows linked T (leads reach) back n (start os) (begins os) zero-le).stands;
    from = λ x w h le n. let f = run-fine s rows linked T (leads reach) back n x (stands_at_lem x w h) le in (row_fine s rows linked T (leads reach) back f, height-is _ _ f.stands);
  }

  pub program-heights : Reaches s rules e → OneHeight s (finalize_function s rules e).bytecode (finalize_function s rules e).depth
  unfolding finalize_function
  program-heights reach = subst (λ c. OneHeight s c e.max_depth) (sym code-rows) (rows-heights reach)
