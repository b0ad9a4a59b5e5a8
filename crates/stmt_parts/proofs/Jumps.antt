-- EXIT and CONTINUE.
use mathlib.Core.Path.{◌≡◌}
use mathlib.Core.Bool.{Bool, true, false}
use mathlib.Core.List.{List}
use Prim.Native.Nat.{ℕ, ◌<◌}
use lib.ListN.{length, get_or, set}
use Rattle.definition.specs.Limits.{max_code, no_loop}
use Rattle.definition.specs.Opcode.{Sheet}
use Rattle.definition.specs.Program as def
use Rattle.definition.specs.Program.{next_line}
use Rattle.definition.specs.Emit.{Call, bind_label, emit_jmp, refused}
use Rattle.definition.specs.Walk.{say, when}
use Rattle.definition.specs.Stmt.{labels, exit_of, next_of}
use Rattle.program.specs.declared.Cursor.{Cursor}
use Rattle.program.specs.Walk.{Skipped}
use Rattle.emit.specs.declared.Emitter.{Emitter}
use Rattle.emit.specs.Book.{book_size}
use Rattle.emit.specs.Steps.{run, call, Fine, Bare, Booked, Coded}
use Rattle.emit.proofs.Calls.{said, said-filled, none_filled}
use Rattle.std.specs.Prelude.{None}
use Rattle.stmt_parts.specs.declared.loops.OpenLoop.{OpenLoop}
use Rattle.stmt_parts.specs.Loops.{no_open, open_at, opens_in, loops_of, FoundAt, Finds}
use Rattle.stmt_parts.specs.Parts.{jump_row, Stepped, Continued, BindsNext}
use Rattle.stmt_parts.proofs.Opens.{open-other, open-here, led-nowhere, led-there}
use Rattle.stmt_parts.proofs.Marks.{labels-none, labels-found, marks-none, marks-found}
use Rattle.stmt_parts.proofs.Walks.{booked-on}

-- ---- EXIT and CONTINUE

pub coded-run : (s : Sheet) (c : Call) {e r : Emitter} {code book code' book' : List ℕ} → Coded (call s c) e code book r code' book' → Coded (run s (say c)) e code book r code' book'
coded-run s c d = record { fine = d.fine; room = d.room; slots = d.slots; kept = d.kept; did = λ pool. said s c (d.did pool) }

bare-run : (s : Sheet) (c : Call) {e r : Emitter} {code book : List ℕ} → length code ≡ max_code → length book ≡ book_size → Bare c e r → Coded (run s (say c)) e code book r code book
bare-run s c {code = code} {book = book} room slots d = record { fine = d.fine; room = room; slots = slots; kept = λ pool. d.kept code book pool; did = λ pool. said s c (d.did s code book pool) }

module _ (s : Sheet) (inside i : ℕ) (text : List ℕ) (c : def.Cursor) {n : Cursor} (on : Skipped text (next_line text c) n) {e u : Emitter} {code book : List ℕ} (ls : List OpenLoop) where
  -- no such loop
  module _ (f : Finds ls inside i None) (room : length code ≡ max_code) (slots : length book ≡ book_size) (d : Bare (refused (record { number = no_loop; place = c.row })) e u) where
    pub exit-none : Stepped s (jump_row c.row (exit_of (labels i (loops_of (opens_in ls inside))))) text (next_line text c) e code book (record { cursor = n; emitter = u }) code book
    unfolding exit_of jump_row
    exit-none = record { place = on; coded = rw (labels-none ls inside i f) (bare-run s _ room slots d) }

    pub continue-none : Continued s inside i text c e code book ls (record { cursor = n; emitter = u }) code book ls
    unfolding next_of jump_row
    continue-none = record {
      stepped = record { place = on; coded = rw (labels-none ls inside i f) (bare-run s _ room slots d) };
      is = led-nowhere ls inside i f;
      marks = marks-none ls inside i f;
    }

  module _ {k : ℕ} (f : FoundAt ls inside i k) {code' book' : List ℕ} where
    pub exit-found : Coded (call s (emit_jmp (get_or ls k no_open).exit.0)) e code book u code' book'
        → Stepped s (jump_row c.row (exit_of (labels i (loops_of (opens_in ls inside))))) text (next_line text c) e code book (record { cursor = n; emitter = u }) code' book'
    unfolding exit_of jump_row open_at
    exit-found d = record { place = on; coded = rw (labels-found ls inside i k f) (coded-run s _ d) }

    pub continue-found : k < length ls → Coded (call s (emit_jmp (get_or ls k no_open).next.0)) e code book u code' book'
        → Continued s inside i text c e code book ls (record { cursor = n; emitter = u }) code' book' (set ls k (record (get_or ls k no_open) { used = true }))
    unfolding next_of jump_row open_at
    continue-found few d = record {
      stepped = record { place = on; coded = rw (labels-found ls inside i k f) (coded-run s _ d) };
      is = led-there ls inside i f;
      marks = marks-found ls (set ls k _) i k (λ j h. open-other ls k _ j h) (open-here ls k _ few) inside f;
    }

-- the label of CONTINUEs, bound or not
pub binds-none : (next : ℕ) {used : Bool} {e : Emitter} {book : List ℕ} → used ≡ false → Fine e → length book ≡ book_size → BindsNext used next e book e book
unfolding when
binds-none next z fine slots = rw z (record { fine = fine; slots = slots; did = λ s code pool y. none_filled s _ y })

pub binds-some : (next : ℕ) {used : Bool} {e r : Emitter} {book book' : List ℕ} → used ≡ true → Booked (bind_label next) e book r book' → BindsNext used next e book r book'
unfolding when
binds-some next z d = rw z (record { fine = d.fine; slots = d.slots; did = λ s code pool y. said-filled s _ (booked-on y s d) })
