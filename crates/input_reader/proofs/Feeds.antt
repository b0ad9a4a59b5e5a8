-- The machine's steps, byte by byte and in parts.
use Rattle.std.proofs.Common.{◌≡◌, refl, ap, sym, ◌∙◌, ℕ, ◌+◌, ◌<◌, List, [], ◌∷◌, ◌++◌, length, take, get_or, add-one}
use Rattle.std.proofs.Math.Seq.{take-suc}
use Rattle.input_machine.specs.Machine.{Phase, Head, Stores, State, next, put_in, stored, step, steps}
use Rattle.input_machine.proofs.Text.{steps-append}
use Rattle.input_reader.specs.View.{Reading}

step-one : (q : Phase) (s : State) (b : ℕ) → record { head = next q s.head b; stores = stored s.stores (put_in s.head.phase s.head b) } ≡ steps q s (b ∷ [])
unfolding step steps
step-one q s b = refl

-- a byte more
pub fed-more : (q : Phase) (s t : State) (h : Head) (u : Stores) (bytes : List ℕ) (i : ℕ) → i < length bytes → t ≡ steps q s (take i bytes)
    → h ≡ next q t.head (get_or bytes i 0) → u ≡ stored t.stores (put_in t.head.phase t.head (get_or bytes i 0)) → record { head = h; stores = u } ≡ steps q s (take (i + 1) bytes)
fed-more q s t h u bytes i l f n k = rw (n, k, step-one q t (get_or bytes i 0), f, add-one i, take-suc bytes i 0 l, steps-append q s (take i bytes) (get_or bytes i 0 ∷ [])) refl

-- ---- reading in parts

unfoldable pub reading-none : (q : Phase) (s : State) → Reading q s s
unfolding steps
reading-none q s = record { bytes = []; is = refl }

unfoldable pub reading-then : {q : Phase} {s t u : State} → Reading q s t → Reading q t u → Reading q s u
reading-then {q = q} {s = s} a b = record { bytes = a.bytes ++ b.bytes; is = b.is ∙ ap (λ (x : State). steps q x b.bytes) a.is ∙ sym (steps-append q s a.bytes b.bytes) }
