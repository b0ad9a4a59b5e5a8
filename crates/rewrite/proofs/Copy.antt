-- Bytes copied down and rewritten in place.
use mathlib.Core.Path.{◌≡◌, refl, ap, sym, ◌∙◌}
use mathlib.Core.List.{List, [], ◌∷◌, append-nil}
use Prim.Native.Nat.{ℕ, suc, ◌+◌, ◌-◌, ◌≤◌, ◌<◌, ◌/◌, ◌%◌}
use native.Mathlib.Numerals.{add-one, add-two}
use native.Mathlib.Nat.{add-zero}
use native.Mathlib.Omega.{arith}
use lib.ListN.{length, take, drop, set, get_or, length-set, length-drop, take-append-drop}
use Rattle.std.specs.List.{copy_within}
use lib.Seq.{length-take-le, get_or-drop, get_or-take, paste, paste-zero, paste-suc, drop-paste, sets-eq}
use Rattle.definition.specs.Rules.{Action, keep, remove, rewrite_operand}
use Rattle.definition.specs.Emit.{le16}
use Rattle.definition.specs.Rewrite.{applied, opcode_of}
use Rattle.rewrite.specs.View.{put, Puts, Fitting}

-- ---- copying down

pub copied : (code : List ℕ) (from to size : ℕ) → from + size ≤ length code → Puts (take size (drop from code)) code (copy_within code from (from + size) to) to (to + size)
unfolding put
copied code from to size h =
    let e : from + size - from ≡ size = omega arith in
    let l : length (take size (drop from code)) ≡ size = length-take-le size (drop from code) (simp length-drop (omega arith)) in
    record { is = rw (e, l); end = rw l }

-- ---- a new operand

pub rewrites : (code : List ℕ) (from to n : ℕ) → to ≤ from → from + 3 ≤ length code
    → Puts (applied (rewrite_operand n) (take 3 (drop from code))) code (set (set (set code to (get_or code from 0)) (to + 1) (n % 256)) (to + 2) (n / 256)) to (to + 3)
unfolding put applied le16 opcode_of
rewrites code from to n behind fits =
    let op : get_or (take 3 (drop from code)) 0 0 ≡ get_or code from 0 = get_or-take 3 (drop from code) 0 0 (omega arith) ∙ get_or-drop from code 0 0 ∙ ap (λ (k : ℕ). get_or code k 0) (add-zero from) in
    record { is = rw (op, add-one to, add-two to) (sets-eq (get_or code from 0 ∷ n % 256 ∷ n / 256 ∷ []) code to (omega arith)); end = refl }

pub three : {x : Action} {n z : ℕ} → x ≡ rewrite_operand n → Fitting x z → z ≡ 3
unfolding Fitting
three e f = rw e at f

pub puts-rewritten : {x : Action} {n : ℕ} (code : List ℕ) (from to size : ℕ) → x ≡ rewrite_operand n → Fitting x size → to ≤ from → from + size ≤ length code
    → Puts (applied x (take size (drop from code))) code (set (set (set code to (get_or code from 0)) (to + 1) (n % 256)) (to + 2) (n / 256)) to (to + 3)
puts-rewritten {n = n} code from to size e f behind fits =
    let z = three e f in
    rw (e, z) (rewrites code from to n behind (omega arith))

pub puts-kept : {x : Action} {code' : List ℕ} (code : List ℕ) (from to size : ℕ) → x ≡ keep → from + size ≤ length code → code' ≡ copy_within code from (from + size) to
    → Puts (applied x (take size (drop from code))) code code' to (to + size)
unfolding applied
puts-kept code from to size e h q = rw (e, q) (copied code from to size h)

-- ---- nothing put

pub puts-nothing : (code : List ℕ) (to : ℕ) → to ≤ length code → Puts [] code code to to
unfolding put
puts-nothing code to h = record { is = sym (rw (add-zero to, append-nil) (take-append-drop to code)); end = sym (add-zero to) }

pub puts-removed : {x : Action} (code : List ℕ) (from to size : ℕ) → x ≡ remove → to ≤ length code → Puts (applied x (take size (drop from code))) code code to to
unfolding applied
puts-removed code from to size e h = rw e (puts-nothing code to h)
