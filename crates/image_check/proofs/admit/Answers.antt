use Rattle.std.proofs.lemmas.Result.{err_from_is_err_and}
use Rattle.opcode.proofs.Readings.{read_whole}
use Rattle.image_check.proofs.Checking.{admits-sheet, admits-length, admits-code}
use Rattle.image_check.proofs.admit.Goals as goal

pub returns-in_err-read_sheet : goal.returns-in_err-read_sheet
returns-in_err-read_sheet c =
    let p = err_from_is_err_and c.from_residual.result c.from_residual.ensures.1 in
    rw (p.1, p.2) (admits-sheet _ _ _ (read_whole c.requires c.in_err-read_sheet.ensures))

pub returns-then-code-gt-MAX_CODE : goal.returns-then-code-gt-MAX_CODE
returns-then-code-gt-MAX_CODE c = admits-length _ _ _ (read_whole c.requires c.in_ok-read_sheet.ensures) c.if-code-gt-MAX_CODE.true

pub returns : goal.returns
returns c = admits-code _ _ _ (read_whole c.requires c.in_ok-read_sheet.ensures) c.if-code-gt-MAX_CODE.false
