-- What makes a rule good, by the numbers of its line.
use mathlib.Core.Path.{◌≡◌}
use mathlib.Core.Bool.{Bool, true, false, ◌&&◌, and_assoc}
use mathlib.Core.List.{List}
use Prim.Native.Nat.{ℕ}
use lib.Dec.{leb}
use lib.ListN.{get_or}
use Rattle.definition.specs.Opcode.{Role}
use Rattle.definition.specs.Rules.{test_numbered, action_numbered, testable, allowed, removed, cancel, good_rule, rule_of, role_numbered}
use Rattle.rules.specs.View.{pass_at, first_at, second_at, test_at, number_at, one_at, one_operand_at, two_at, two_operand_at}

module _ (ns : List ℕ) {r q : Role} (first : r ≡ role_numbered (get_or ns first_at 0)) (second : q ≡ role_numbered (get_or ns second_at 0)) where
  -- the parts of the test, in the order in which they are asked
  abbrev pub Test : Bool
  Test = leb 1 (get_or ns pass_at 0) && testable (test_numbered (get_or ns test_at 0) (get_or ns number_at 0)) r q

  abbrev pub One : Bool
  One = allowed (action_numbered (get_or ns one_at 0) (get_or ns one_operand_at 0)) r

  abbrev pub Two : Bool
  Two = allowed (action_numbered (get_or ns two_at 0) (get_or ns two_operand_at 0)) q

  abbrev pub Heights : Bool
  Heights = cancel (removed (action_numbered (get_or ns one_at 0) (get_or ns one_operand_at 0)) r) (removed (action_numbered (get_or ns two_at 0) (get_or ns two_operand_at 0)) q)

  module _ {v w x : Bool} (a : v ≡ Test) (b : w ≡ (v && One)) (c : x ≡ (w && Two)) where
    good-is : good_rule (rule_of ns) ≡ (x && Heights)
    unfolding good_rule rule_of
    good-is = rw (good_rule, ← first, ← second, c, b, a) (simp and_assoc)

    pub good-heights : x ≡ true → {h : Bool} → h ≡ Heights → h ≡ good_rule (rule_of ns)
    good-heights e k = rw (good-is, e) k

    pub good-not : x ≡ false → x ≡ good_rule (rule_of ns)
    good-not e = rw (good-is, e)
