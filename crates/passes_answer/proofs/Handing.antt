-- What is handed over, and what is put for an answer.
use mathlib.Core.Path.{◌≡◌, refl}
use mathlib.Core.Bool.{Bool, true}
use mathlib.Core.List.{List, [], ◌∷◌}
use mathlib.Core.Option.{Option}
use Prim.Native.Nat.{ℕ, ◌*◌, min}
use lib.ListN.{length, take}
use Rattle.definition.specs.Limits.{entry_size}
use Rattle.definition.specs.Opcode.{Sheet}
use Rattle.definition.specs.Lent.{entries_of}
use Rattle.definition.specs.Alone.{Room, Answer, Rewrites}
use Rattle.definition.specs.Listing.{number_line, entry_lines}
use Rattle.definition.specs.Passes.{offset_lines}
use Rattle.store.specs.Store.{Store, contents, push_all}
use Rattle.store.proofs.Fills.{take-least}
use Rattle.input_machine.specs.Machine.{Stores, Ending, whole, cut, countless, given_in}
use Rattle.text.specs.Text.{instructions_by}
use Rattle.optimize.specs.View.{given}
use Rattle.passes_answer.specs.View.{handed, is_whole, whole_text}
use Rattle.input_reader.specs.Handed.{handed as part}
use Rattle.input_reader.specs.View.{is_counted, handed_rules}
use Rattle.input_reader.proofs.Handing.{rules-handed}
use Rattle.text.proofs.Puts.{put_four}

-- ---- by the ending

given-handed : (e : Ending) (s : Stores) → given (part (is_whole e) s.code) (part (is_whole e) s.offsets) (part (is_whole e) s.entries) ≡ handed e s
unfolding part is_whole handed given_in
given-handed whole s = refl
given-handed (cut n) s = refl
given-handed countless s = refl

-- ---- what is put

pub whole-put : (sheet : Option Sheet) (a : Answer) (s : Store) {k m n : ℕ} {s1 s2 s3 s4 : Store}
    → n ≡ min a.code_length (length a.code)
    → k ≡ min a.protected_count (length a.protected)
    → m ≡ min (a.entry_count * entry_size) (length a.lines)
    → s1 ≡ push_all s (number_line 0 (a.code_length ∷ a.protected_count ∷ a.entry_count ∷ []))
    → s2 ≡ push_all s1 (offset_lines (take k a.protected))
    → s3 ≡ push_all s2 (entry_lines (entries_of (take m a.lines)))
    → s4 ≡ push_all s3 (instructions_by sheet (take n a.code))
    → s4 ≡ push_all s (whole_text sheet a)
unfolding whole_text
whole-put sheet a s {s1 = s1} {s2 = s2} {s3 = s3} {s4 = s4} en ek em p q r t =
    let q : s2 ≡ push_all s1 (offset_lines (take a.protected_count a.protected)) = rw (← take-least a.protected_count a.protected, ← ek) q in
    let r : s3 ≡ push_all s2 (entry_lines (entries_of (take (a.entry_count * entry_size) a.lines))) = rw (← take-least (a.entry_count * entry_size) a.lines, ← em) r in
    let t : s4 ≡ push_all s3 (instructions_by sheet (take a.code_length a.code)) = rw (← take-least a.code_length a.code, ← en) t in
    put_four _ _ _ _ s p q r t

-- ---- what is handed over

-- the call on the parts that were computed is the call on what is handed over
pub read_by : {room : Room} {a : Answer} (e v : Ending) (s : Stores) {counted all : Bool} {sheet rules code offsets entries : List ℕ} → v ≡ e → counted ≡ is_counted v → all ≡ is_whole v
    → sheet ≡ part true s.sheet → rules ≡ part counted s.rules → code ≡ part all s.code → offsets ≡ part all s.offsets → entries ≡ part all s.entries
    → Rewrites room sheet rules (given code offsets entries) a → Rewrites room (contents s.sheet) (handed_rules e s) (handed e s) a
unfolding part
read_by e v s h c w es er ec eo ee r = rw (← rules-handed e s, ← given-handed e s, ← h, ← c, ← w, ← er, ← ec, ← eo, ← ee) (rw es at r)
