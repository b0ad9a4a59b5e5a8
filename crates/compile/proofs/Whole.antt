-- From the emitter to finished code.
use Rattle.std.proofs.Common.{◌≡◌, ℕ, ◌≤◌, List, [], ◌++◌, length, take, drop, sym, refl, ap, ◌∙◌, arith, length-append, length-drop, length-take-le, take_at}
use mathlib.Core.Option.{Option, none}
use lib.Seq.{take-append-le}
use Rattle.definition.specs.Limits.{max_code}
use Rattle.definition.specs.Res.{◌>>◌}
use Rattle.definition.specs.Opcode.{Sheet}
use Rattle.definition.specs.Rules.{Rule}
use Rattle.definition.specs.Emit as def
use Rattle.definition.specs.Rewrite.{OffsetMap, moved_to}
use Rattle.definition.specs.Optimize.{run, optimize, remap_line_map}
use Rattle.definition.specs.Lent.{filled, zeros, entries_of}
use Rattle.definition.specs.Compile.{jump_targets, patch_jumps, in_reach, finalize_function}
use Rattle.definition.specs.Claims.{Each}
use Rattle.store.specs.Fill.{zeroed_from}
use Rattle.store.proofs.Fills.{front, length-filled, zeroed-is}
use Rattle.opcode.specs.Table.{IsTable}
use Rattle.optimize.specs.View.{map_in, pipeline, passes, Bounds, Ran, Remaps, Runnable}
use Rattle.optimize.proofs.Whole.{same-optimize, same-remap}
use Rattle.emit.specs.declared.Emitter.{Emitter}
use Rattle.emit.specs.Book.{labels_in, patches_in, lines_in}
use Rattle.emit.specs.Steps.{Fine}
use Rattle.emit.specs.View.{world, state}
use Rattle.runs.proofs.Finished.{each-so}
use Rattle.std.specs.Prelude as std
use Rattle.std.specs.Prelude.{Some, None, Ok, Err}
use Rattle.compile.specs.View.{targets_of, targets_in, BoundIn, Inside, Patchable, Moved, Finalizes, reach_view}
use Rattle.compile.proofs.Patches.{small-targets, same-patches, same-reach}

-- ---- the passes

pub runnable : {sheet code : List ℕ} (e : Emitter) (book : List ℕ) {targets : List ℕ} → IsTable sheet → Fine e → length code ≡ e.size
    → Each (BoundIn e.size (labels_in book e.labels)) (patches_in book e.patches) → targets ≡ targets_in e book → Runnable sheet code targets
runnable e book t fine long near is =
    rw is (record { table = t; few = rw long fine.size; small = rw long (small-targets (labels_in book e.labels) (patches_in book e.patches) near) })

pub moved : (s : Sheet) (rs : List Rule) (e : Emitter) (book code table : List ℕ) {targets code' protected' total' : List ℕ} {end n : ℕ} → targets ≡ targets_in e book → Bounds s code table end
    → Ran (passes s rs (pipeline code targets table)) code code' protected' total' n → Moved (optimize s rs code (targets_in e book)) code code' total' n
unfolding passes optimize run
moved s rs e book code table {targets} {code'} {protected'} {total'} {end} {n} is b ran =
    let T = targets_in e book in
    let r : Ran (passes s rs (pipeline code T table)) code code' protected' total' n = rw is at ran in
    record {
      bytes = r.bytes;
      end = r.end;
      within = r.within;
      moved = λ x. ap (λ (m : OffsetMap). moved_to m x) r.map ∙ same-optimize s rs code T table b.moved x;
    }

-- ---- patching, and the whole

pub emitted-long : (e : Emitter) (code : List ℕ) → Fine e → max_code ≤ length code → length (take e.size code) ≡ e.size
emitted-long e code fine enough = length-take-le e.size code (omega (arith, fine.size))

-- labels are bound within what was emitted
pub bounds : (s : Sheet) (rs : List Rule) (e : Emitter) (code book : List ℕ) → Fine e → max_code ≤ length code → Patchable s rs (state (world e code book []))
    → Each (BoundIn e.size (labels_in book e.labels)) (patches_in book e.patches)
bounds s rs e code book fine enough q = rw (emitted-long e code fine enough) at q.bound

module _ (s : Sheet) (rs : List Rule) (e : Emitter) (code book lines : List ℕ) (enough : e.size ≤ length code) {c₁ total : List ℕ} {n : ℕ}
    (mv : Moved (optimize s rs (take e.size code) (targets_in e book)) (take e.size code) c₁ total n) where
  abbrev L : List (Option ℕ)
  L = labels_in book e.labels

  abbrev P : List def.PendingPatch
  P = patches_in book e.patches

  abbrev done : List ℕ
  done = (optimize s rs (take e.size code) (targets_in e book)).bytecode

  -- the buffer after the passes
  abbrev b₁ : List ℕ
  b₁ = c₁ ++ drop e.size code

  long : length (take e.size code) ≡ e.size
  long = length-take-le e.size code enough

  part-long : length c₁ ≡ e.size
  part-long = ap length mv.bytes ∙ length-filled (length (take e.size code)) done (omega (arith, mv.end, mv.within)) ∙ long

  pub whole_long : length b₁ ≡ length code
  whole_long = rw (length-append, part-long, length-drop) (omega arith)

  pub end-within : n ≤ length b₁
  end-within = omega (arith, whole_long, mv.within, long)

  pub rewritten : take n b₁ ≡ done
  rewritten = take-append-le n c₁ (drop e.size code) (omega (arith, mv.within, long, part-long)) ∙ rw mv.bytes (front (length (take e.size code)) done n (sym mv.end))

  pub patched-few : Fine e → length (take n b₁) ≤ max_code
  patched-few fine = rw rewritten (omega (arith, mv.end, mv.within, long, fine.size))

  -- what patching is lent
  pub insides : Patchable s rs (state (world e code book [])) → Each (Inside (map_in total) (length (take n b₁))) P
  unfolding jump_targets targets_of
  insides q = each-so (λ (p : def.PendingPatch) i. record { is = rw (rewritten, mv.moved p.instruction_offset) i.is }) q.inside

  -- 15
  reached : (f : std.Option ℕ) → reach_view f ≡ in_reach L (map_in total) P → in_reach L (optimize s rs (take e.size code) (targets_in e book)).map P ≡ reach_view f
  reached f r = sym (r ∙ same-reach L (map_in total) _ P mv.moved)

  pub far : {x : ℕ} {b l : List ℕ} → reach_view (Some x) ≡ in_reach L (map_in total) P → b ≡ zeros (length b₁) → l ≡ zeros (length lines) → Finalizes s rs e code book lines b l (Err x)
  unfolding ◌>>◌ jump_targets targets_of
  far {x = x} r zb zl = record { is = λ pool. (rw (reached (Some x) r), zb ∙ ap (λ n. zeros n) whole_long, zl) }

  module _ {c₂ b₃ : List ℕ} (is : c₂ ≡ patch_jumps L (map_in total) P (take n b₁)) (as_long : length c₂ ≡ length (take n b₁)) (zeroed : b₃ ≡ zeroed_from n (c₂ ++ drop n b₁)) where
    patched : c₂ ≡ patch_jumps L (optimize s rs (take e.size code) (targets_in e book)).map P done
    patched = is ∙ rw rewritten (same-patches L (map_in total) _ P done mv.moved)

    end_is : length c₂ ≡ n
    end_is = as_long ∙ length-take-le n b₁ end-within

    held : b₃ ≡ filled (length code) c₂
    unfolding filled
    held =
        let all : length (c₂ ++ drop n b₁) ≡ length code = rw (length-append, end_is, length-drop, whole_long) (omega (arith, end-within, whole_long)) in
        zeroed ∙ zeroed-is n (c₂ ++ drop n b₁) ∙ rw (take_at c₂ (drop n b₁) n end_is, all, end_is)

    -- and the lines
    module _ (part : List ℕ) {lines' : List ℕ} {k : ℕ} (there : entries_of part ≡ lines_in book e.lines) (remaps : Remaps (remap_line_map (map_in total) n none (entries_of part)) lines lines' k) where
      pub finalized : reach_view None ≡ in_reach L (map_in total) P → Finalizes s rs e code book lines b₃ lines' (Ok (record { size = n; max_stack_depth = e.deepest; entries = k }))
      unfolding ◌>>◌ finalize_function jump_targets targets_of
      finalized reaches =
          let same : remap_line_map (map_in total) n none (entries_of part) ≡ remap_line_map (optimize s rs (take e.size code) (targets_in e book)).map (length done) none (lines_in book e.lines)
          = rw (there, mv.end) (same-remap (map_in total) _ (length done) none (lines_in book e.lines) mv.moved) in
          let r = rw same at remaps in
          record {
            is = λ pool. (
              rw (reached None reaches),
              record {
                code = held ∙ ap (filled (length code)) patched;
                lines = r.is;
                size = sym end_is ∙ ap length patched;
                depth = refl;
                entries = r.count;
              },
            );
          }
