use Rattle.emit.specs.declared.Last.TheVariants.{Other}
use Rattle.emit.proofs.Instructions.{puts, cmp-bytes, eight}
use Rattle.emit.proofs.Emitter.put_cmp_br.Goals as goal

pub returns : goal.returns
returns c = puts _ _ _ Other 8 (eight _ _ _ _) c.requires.code_len c.requires.fine c.requires.refused_value.0 c.requires.refused_value.1 (cmp-bytes _ _ _ _ _ c.opcode_of-opcode.ensures c.comparison_byte-comparison.ensures c.push_cmp_br.ensures) c.grow.ensures.fine_2 c.grow.ensures.value
