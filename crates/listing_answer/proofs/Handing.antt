-- What is handed over, and what is put for an answer.
use mathlib.Core.Path.{◌≡◌, refl}
use mathlib.Core.Bool.{Bool, true}
use mathlib.Core.List.{List, [], ◌∷◌}
use mathlib.Core.Option.{Option}
use Prim.Native.Nat.{ℕ, ◌*◌, min}
use lib.ListN.{length, take}
use Rattle.definition.specs.Limits.{entry_size}
use Rattle.definition.specs.Opcode.{Sheet}
use Rattle.definition.specs.Lent.{entries_of}
use Rattle.definition.specs.Compile.{Room, Answer, Compiles}
use Rattle.definition.specs.Listing.{number_line, constant_lines, entry_lines}
use Rattle.store.specs.Store.{Store, contents, push_all}
use Rattle.store.proofs.Fills.{take-least}
use Rattle.input_machine.specs.Machine.{Stores, Ending, whole, cut, countless}
use Rattle.input_reader.specs.Handed.{handed as part}
use Rattle.input_reader.specs.View.{is_counted, handed_rules}
use Rattle.input_reader.proofs.Handing.{rules-handed}
use Rattle.text.specs.Text.{instructions_by}
use Rattle.text.proofs.Puts.{put_four}
use Rattle.listing_answer.specs.View.{handed_program, whole_text}

-- ---- by the ending

program-handed : (e : Ending) (s : Stores) → part (is_counted e) s.code ≡ handed_program e s
unfolding part is_counted handed_program
program-handed whole s = refl
program-handed (cut n) s = refl
program-handed countless s = refl

-- the call on the parts that were computed is the call on what is handed over
pub read_by : {room : Room} {a : Answer} (e v : Ending) (s : Stores) {counted : Bool} {sheet rules program : List ℕ} → v ≡ e → counted ≡ is_counted v
    → sheet ≡ part true s.sheet → rules ≡ part counted s.rules → program ≡ part counted s.code
    → Compiles room sheet rules program a → Compiles room (contents s.sheet) (handed_rules e s) (handed_program e s) a
unfolding part
read_by e v s h c es er ep r = rw (← rules-handed e s, ← program-handed e s, ← h, ← c, ← er, ← ep) (rw es at r)

-- ---- what is put

pub whole-put : (sheet : Option Sheet) (a : Answer) (s : Store) {k m n : ℕ} {s1 s2 s3 s4 : Store}
    → n ≡ min a.code_length (length a.code)
    → k ≡ min a.constant_count (length a.constants)
    → m ≡ min (a.entry_count * entry_size) (length a.lines)
    → s1 ≡ push_all s (number_line 0 (a.code_length ∷ a.depth ∷ a.constant_count ∷ a.entry_count ∷ []))
    → s2 ≡ push_all s1 (constant_lines (take k a.constants))
    → s3 ≡ push_all s2 (entry_lines (entries_of (take m a.lines)))
    → s4 ≡ push_all s3 (instructions_by sheet (take n a.code))
    → s4 ≡ push_all s (whole_text sheet a)
unfolding whole_text
whole-put sheet a s {s1 = s1} {s2 = s2} {s3 = s3} {s4 = s4} en ek em p q r t =
    let q : s2 ≡ push_all s1 (constant_lines (take a.constant_count a.constants)) = rw (← take-least a.constant_count a.constants, ← ek) q in
    let r : s3 ≡ push_all s2 (entry_lines (entries_of (take (a.entry_count * entry_size) a.lines))) = rw (← take-least (a.entry_count * entry_size) a.lines, ← em) r in
    let t : s4 ≡ push_all s3 (instructions_by sheet (take a.code_length a.code)) = rw (← take-least a.code_length a.code, ← en) t in
    put_four _ _ _ _ s p q r t
