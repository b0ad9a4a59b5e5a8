use Rattle.image_check.proofs.Looking.{looks-end, at-start, looks-role}
use Rattle.image_check.proofs.look.Goals as goal

pub returns-then-p-code : goal.returns-then-p-code
returns-then-p-code c = looks-end _ _ _ c.if-p-code.true

pub traits_at-requires : goal.traits_at-requires
traits_at-requires c = record { table = c.requires.table; p_value = at-start c.args.sheet.now c.args.code.now _ c.requires.either c.if-p-code.false }

pub returns : goal.returns
returns c = looks-role _ _ _ c.traits_at.result (at-start c.args.sheet.now c.args.code.now _ c.requires.either c.if-p-code.false) c.traits_at.ensures
