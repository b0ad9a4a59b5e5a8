use Rattle.std.proofs.Common.{arith}
use Rattle.store.proofs.Fills.{zero-all}
use Rattle.opcode.specs.Table.{sheet_in}
use Rattle.rules.specs.View.{rules_in}
use Rattle.compile.proofs.Whole.{insides, far, finalized}
use Rattle.compile.proofs.finalize_in.Goals as goal

pub returns-in-Some : goal.returns-in-Some
returns-in-Some c = far (sheet_in c.args.sheet.now) (rules_in c.args.rules.table.now c.args.rules.count) c.args.emitted.emitter c.args.code.now c.args.emitted.book.now c.args.lines.now (omega (arith, c.args.emitted.fine.size, c.requires.max_code_in_bounds)) c.optimize_emitted-n.ensures c.in-Some.ensures (zero-all _ c.set_from.ensures) (zero-all _ c.set_from-in-Some.ensures)

pub patch_jumps-requires-clause-inside : goal.patch_jumps-requires-clause-inside
patch_jumps-requires-clause-inside c = insides (sheet_in c.args.sheet.now) (rules_in c.args.rules.table.now c.args.rules.count) c.args.emitted.emitter c.args.code.now c.args.emitted.book.now c.args.lines.now (omega (arith, c.args.emitted.fine.size, c.requires.max_code_in_bounds)) c.optimize_emitted-n.ensures c.requires.patchable

pub returns : goal.returns
returns c = finalized (sheet_in c.args.sheet.now) (rules_in c.args.rules.table.now c.args.rules.count) c.args.emitted.emitter c.args.code.now c.args.emitted.book.now c.args.lines.now (omega (arith, c.args.emitted.fine.size, c.requires.max_code_in_bounds)) c.optimize_emitted-n.ensures c.patch_jumps.ensures.code_after c.patch_jumps.ensures.code_len_unchanged c.set_from-2.ensures _ c.emitted_lines-entries.ensures.result_value c.remap_line_map-kept.ensures c.in_default.ensures
