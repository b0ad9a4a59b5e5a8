-- Patches and branches.
use Rattle.std.proofs.Common.{None}
use mathlib.Core.Path.{◌≡◌, refl, ◌∙◌}
use mathlib.Core.List.{List, ◌∷◌, ◌++◌}
use Prim.Native.Nat.{ℕ, suc, ◌+◌, ◌*◌, ◌<◌}
use native.Mathlib.Omega.{arith}
use lib.Dec.{leb}
use lib.ListN.{length}
use lib.Seq.{sets, length-sets}
use Rattle.definition.specs.Limits.{max_code, max_branches, code_full, entry_size}
use Rattle.definition.specs.Res.{Res, ok, refuse, ◌>>=◌, ◌>>◌, demand}
use Rattle.definition.specs.Opcode.{Role, Sheet, CompareOp, comparison_byte, cmp_br}
use Rattle.definition.specs.Emit as def
use Rattle.definition.specs.Emit.{jmp_operand_delta, cmp_br_operand_delta, LineEntry, emit_jmp, emit_jmp_if_not, act, add, added, recorded, patched, branch, le16}
use Rattle.definition.specs.Lent.{entry_in}
use Rattle.emit.specs.declared.Emitter.{Emitter}
use Rattle.emit.specs.declared.Last.TheVariants.{Other}
use Rattle.emit.specs.Book.{label_size, patch_size, label_base, patch_base, line_base, book_size, label_in, patch_in, patch_numbers}
use Rattle.emit.specs.View.{world}
use Rattle.emit.specs.Steps.{◌>->◌, Did, met_at, once, Fine, Coded}
use Rattle.emit.specs.Parts.{counted, lined, prepared, putting, Noted, Branched, Added, cmp_operand, patching}
use Rattle.emit.proofs.Tables.{rows_more, rows_behind, rows_before, patch-back, patch-long}
use Rattle.emit.proofs.Kept.{pool-self, kept_self, kept_then, patch-tails}
use Rattle.emit.proofs.Steps.{stays, goes, by-step, then, once-then, size_of}

-- ---- a patch more

-- where there is room for it
pub patch-fits : {e : Emitter} → Fine e → Branched e → e.refused ≡ None → e.patches < max_branches
patch-fits h more on = let q = more on in omega (arith, h.size)

module _ (p : def.PendingPatch) {e : Emitter} {book : List ℕ} (h : Fine e) (slots : length book ≡ book_size) where
  pub patch-stays : (e.refused ≡ None → ⊥) → Noted (once (patching p)) e book e book
  patch-stays off = record { fine = h; slots = slots; kept = λ code pool. kept_self (world e code book pool); did = λ code pool room. stays (once (patching p)) off }

  pub patch-goes : {book' : List ℕ} → e.refused ≡ None → Branched e → book' ≡ sets book (patch_base + patch_size * e.patches) (patch_numbers p) → Noted (once (patching p)) e book (counted e e.labels (e.patches + 1) e.lines e.constants) book'
  unfolding patched
  patch-goes on more put =
      let few = patch-fits h more on in
      let room' = more on in
      let j = patch_base + patch_size * e.patches in
      let ns = patch_numbers p in
      rw put (record {
        fine = record { size = h.size; labels = h.labels; patches = omega arith; lines = h.lines; constants = h.constants; last = h.last; depth = h.depth; deepest = h.deepest };
        slots = length-sets book j ns ∙ slots;
        kept = λ code pool. record {
          grown = record { size = omega arith; labels = omega arith; patches = omega arith; lines = omega arith; constants = omega arith };
          code = refl;
          book = patch-tails (counted e e.labels (e.patches + 1) e.lines e.constants) ns book e.patches (patch-long p) few (omega arith);
          pool = λ few long. pool-self e.constants pool;
          sticky = λ z. absurd (z on);
        };
        did = λ code pool room. goes (patching p) (world e code book pool) (world (counted e e.labels (e.patches + 1) e.lines e.constants) code (sets book j ns) pool) on on
            (rw (
              rows_more patch_in patch_base patch_size ns book e.patches (patch-long p) (omega arith),
              patch-back p,
              rows_behind label_in label_base label_size ns book e.labels j (omega (arith, h.labels)),
              rows_before entry_in line_base entry_size ns book e.lines j (rw (patch-long p) (omega arith)),
            ));
      })

-- ---- a branch: the instruction, and its patch

branch-did : (s : Sheet) (r : Role) (operand : List ℕ) (p : def.PendingPatch) {e m u : Emitter} {code book pool code' book' book'' : List ℕ} → Fine e → length code ≡ max_code → p.instruction_offset ≡ e.size
    → Did (once (add s r (operand ++ le16 0) def.other)) (world e code book pool) (world m code' book' pool) → Did (once (patching p)) (world m code' book' pool) (world u code' book'' pool)
    → Did (once (branch s r operand p.operand_delta p.label)) (world e code book pool) (world u code' book'' pool)
unfolding branch once
branch-did s r operand p {e} {code = code} h room is a b = by-step (λ on. rw (size_of code h room, ← is) (once-then (add s r (operand ++ le16 0) def.other) (patched p) _)) (then a b)

pub branch-done : (s : Sheet) (r : Role) (operand : List ℕ) (p : def.PendingPatch) {e m u : Emitter} {code book code' book' book'' : List ℕ} → Fine e → length code ≡ max_code → p.instruction_offset ≡ e.size
    → Added s r (operand ++ le16 0) Other e code book m code' book' → Noted (once (patching p)) m book' u book'' → Coded (once (branch s r operand p.operand_delta p.label)) e code book u code' book''
branch-done s r operand p {code' = code'} h room is a n =
    record { fine = n.fine; room = a.coded.room; slots = n.slots; kept = λ pool. kept_then (a.coded.kept pool) (n.kept code' pool); did = λ pool. branch-did s r operand p h room is (a.coded.did pool) (n.did code' pool a.coded.room) }

-- the patch of a branch, as its kind makes it
module _ (s : Sheet) (r : Role) (operand : List ℕ) (l x delta : ℕ) {p : def.PendingPatch} {e u : Emitter} {code book code' book' : List ℕ} (is : p ≡ record { instruction_offset = x; operand_delta = delta; label = l }) where
  pub branch-of : Coded (once (branch s r operand p.operand_delta p.label)) e code book u code' book' → Coded (once (branch s r operand delta l)) e code book u code' book'
  branch-of c = rw is at c

-- ---- a CMP_BR

-- the bytes of a branch that is prepared, and its patch
abbrev pub branching : Sheet → Role → List ℕ → ℕ → ℕ → def.Emitter → def.Emitter
branching s r operand delta l e = patched (record { instruction_offset = length e.bytecode; operand_delta = delta; label = l }) (added s r (operand ++ le16 0) def.other e.line_map e)

pub branch-parts : (s : Sheet) (r : Role) (operand : List ℕ) (delta l : ℕ) (x : def.Emitter) → branch s r operand delta l x ≡ prepared (suc (length (operand ++ le16 0))) x >>= λ y. ok (branching s r operand delta l y)
unfolding branch add prepared ◌>>◌ ◌>>=◌
branch-parts s r operand delta l x = go (demand (leb (length x.bytecode + suc (length (operand ++ le16 0))) max_code) code_full 0) (recorded x)
  where
    patch : def.PendingPatch
    patch = record { instruction_offset = length x.bytecode; operand_delta = delta; label = l }

    go : (m : Res (Unit {0})) (q : Res (List LineEntry))
        → (m >> (q >>= λ entries. ok (added s r (operand ++ le16 0) def.other entries x))) >>= (λ y. ok (patched patch y)) ≡ (m >> (q >>= λ entries. ok (lined entries x))) >>= λ y. ok (branching s r operand delta l y)
    go (ok a) (ok b) = unfold lined in unfold added in refl
    go (ok a) (refuse n p) = refl
    go (refuse n p) q = refl

pub fused-done : (s : Sheet) (c : CompareOp) (v i l : ℕ) {x : ℕ} {p : def.PendingPatch} {e m u : Emitter} {code book code' book' : List ℕ} → Fine e → length code ≡ max_code
    → p ≡ record { instruction_offset = x; operand_delta = cmp_br_operand_delta; label = l } → x ≡ e.size → Coded (once (putting s cmp_br (cmp_operand s c v i) def.other)) e code book m code' book → Noted (once (patching p)) m book u book'
    → Coded (once (λ z. ok (branching s cmp_br (comparison_byte s c ∷ le16 v ++ le16 i) cmp_br_operand_delta l z))) e code book u code' book'
unfolding cmp_operand once met_at ◌>->◌
fused-done s c v i l {code = code} {code' = code'} h room is at a n = record {
  fine = n.fine;
  room = a.room;
  slots = n.slots;
  kept = λ pool. kept_then (a.kept pool) (n.kept code' pool);
  did = λ pool. by-step (λ on. rw (size_of code h room, is, at)) (then (a.did pool) (n.did code' pool a.room));
}
