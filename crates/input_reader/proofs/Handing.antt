-- What the ending leaves to be read.
use Rattle.std.proofs.Common.{◌≡◌, refl}
use Rattle.input_machine.specs.Machine.{Stores, Ending, whole, cut, countless}
use Rattle.input_reader.specs.Handed.{handed}
use Rattle.input_reader.specs.View.{is_counted, handed_rules}

pub rules-handed : (e : Ending) (s : Stores) → handed (is_counted e) s.rules ≡ handed_rules e s
unfolding handed is_counted handed_rules
rules-handed whole s = refl
rules-handed (cut n) s = refl
rules-handed countless s = refl
