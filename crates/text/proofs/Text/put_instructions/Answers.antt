use Prim.Native.Nat.{ℕ}
use lib.ListN.{length-replicate}
use Rattle.text.proofs.Lines.{put-by-sheet, put-no-sheet}
use Rattle.opcode.specs.Table.{table_size}
use Rattle.opcode.proofs.Readings.{read_whole}
use Rattle.text.proofs.Text.put_instructions.Goals as goal

pub put_decoded-requires : goal.put_decoded-requires
put_decoded-requires c = (read_whole (length-replicate {A = ℕ} table_size 0) c.in-Ok.ensures).ready

pub returns-in-Ok-clause-is : goal.returns-in-Ok-clause-is
returns-in-Ok-clause-is c = put-by-sheet _ _ (read_whole (length-replicate {A = ℕ} table_size 0) c.in-Ok.ensures) c.put_decoded.ensures.is

pub returns-in_default-clause-is : goal.returns-in_default-clause-is
returns-in_default-clause-is c = put-no-sheet _ _ c.read_sheet.result _ _ (read_whole (length-replicate {A = ℕ} table_size 0) c.read_sheet.ensures) c.in_default.not-Ok
