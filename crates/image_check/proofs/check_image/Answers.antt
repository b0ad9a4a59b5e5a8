use Rattle.image_check.proofs.Checking.{checks-code}
use Rattle.image_check.proofs.check_image.Goals as goal

pub returns-in-Ok : goal.returns-in-Ok
returns-in-Ok c = checks-code c.in_ok-admit.ensures c.in-Ok.ensures

pub returns-in-Err : goal.returns-in-Err
returns-in-Err c = checks-code c.in_ok-admit.ensures c.in-Err.ensures
