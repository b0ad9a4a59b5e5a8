-- An instruction more: room, its line entry, its bytes.
use Rattle.std.proofs.Common.{None, Ok}
use mathlib.Core.Path.{◌≡◌, refl, ap, ◌∙◌}
use mathlib.Core.Bool.{Bool, true, false}
use mathlib.Core.List.{List, [], ◌∷◌, ◌++◌}
use Prim.Native.Nat.{ℕ, suc, ◌+◌, ◌-◌, ◌*◌, ◌/◌, ◌%◌, ◌≤◌, ◌<◌, max}
use native.Mathlib.Omega.{arith}
use borrow.Author.Tests.{le-ltb, lt-ltb, le-leb, lt-leb}
use lib.Dec.{leb}
use lib.ListN.{length, take, drop}
use lib.Seq.{sets, length-sets}
use Rattle.definition.specs.Limits.{max_code, max_lines, code_full, lines_full, entry_size}
use Rattle.definition.specs.Res.{Res, ok, refuse, ◌>>=◌, ◌>>◌, demand}
use Rattle.definition.specs.Opcode.{Role, Sheet, CompareOp, Effect, cmp_br, comparison_byte, shift, effect, opcode}
use Rattle.definition.specs.Emit as def
use Rattle.definition.specs.Emit.{refused, add, added, recorded, last_entry, same_pos, stands_at, le16, LineEntry}
use Rattle.definition.specs.Lent.{one_entry, entry_in}
use Rattle.store.specs.Store.{Store, at, contents, push, push_all}
use Rattle.store.proofs.Stores.{length-push_all, contents-room, used-room, push_all-append}
use Rattle.line_map.specs.View.{pos_view, entry_view}
use Rattle.line_map.specs.declared.Pos.{Pos}
use Rattle.line_map.specs.declared.LineEntry as code
use Rattle.line_map.proofs.Entries.{length-one}
use Rattle.emit.specs.declared.Emitter.{Emitter}
use Rattle.emit.specs.declared.Last.{Last}
use Rattle.emit.specs.Book.{label_size, patch_size, label_base, patch_base, line_base, book_size, label_in, patch_in, row, lines_in}
use Rattle.emit.specs.View.{world, last_view, state}
use Rattle.emit.specs.Steps.{◌>->◌, met_at, once, LastAt, Fine, Bare, Coded}
use Rattle.emit.specs.Parts.{altered, counted, readied, lined, prepared, putting, Prepared, Put, Added, cmp_operand}
use Rattle.emit.proofs.Tables.{pushed-sets, length-rows, rows_more, rows_behind, last_none, last_row, entry-back}
use Rattle.emit.proofs.Kept.{pool-self, tails-self, kept_self, kept_then, sets-tail, line-tails}
use Rattle.emit.proofs.Steps.{stays, goes, by-step, stops, then, once-then, is-refused, size_of}
use Rattle.emit.proofs.State.{fine-altered, shift-most}

-- ---- the last entry's position

module _ (book : List ℕ) (n : ℕ) (p : Pos) where
  pub stands-nowhere : n ≡ 0 → false ≡ stands_at (pos_view p) (last_entry (lines_in book n))
  unfolding stands_at
  stands-nowhere e = rw (last_none entry_in line_base entry_size book n e)

  pub stands_by : {x : code.LineEntry} {b : Bool} → (n ≡ 0 → ⊥) → entry_view x ≡ entry_in (row line_base entry_size book (n - 1)) → b ≡ same_pos (pos_view x.pos) (pos_view p) → b ≡ stands_at (pos_view p) (last_entry (lines_in book n))
  unfolding stands_at
  stands_by {x} more is here = rw (last_row entry_in line_base entry_size book n (omega arith), ← is) here

-- ---- room and line entry

module _ (n : ℕ) {e : Emitter} {book : List ℕ} (h : Fine e) (slots : length book ≡ book_size) where
  pub prepare-stays : (e.refused ≡ None → ⊥) → Prepared n e book e book
  prepare-stays off = record { noted = record { fine = h; slots = slots; kept = λ code pool. kept_self (world e code book pool); did = λ code pool room. stays (once (prepared n)) off }; fits = λ z. absurd (off z) }

  pub prepare-full : {r : Emitter} → max_code < e.size + n → Bare (refused (record { number = code_full; place = 0 })) e r → Prepared n e book r book
  unfolding prepared demand ◌>>◌
  prepare-full full b = record {
    noted = record { fine = b.fine; slots = slots; kept = λ code pool. b.kept code book pool; did = λ code pool room. stops (prepared n) code_full 0 code book pool b (rw (size_of code h room, lt-leb _ _ full)) };
    fits = λ z. absurd (is-refused b z);
  }

  module _ (fits : e.size + n ≤ max_code) where
    pub prepare-here : e.refused ≡ None → true ≡ stands_at (pos_view e.position) (last_entry (lines_in book e.lines)) → Prepared n e book e book
    unfolding prepared demand ◌>>◌ ◌>>=◌ recorded lined
    prepare-here on here = record {
      noted = record { fine = h; slots = slots; kept = λ code pool. kept_self (world e code book pool); did = λ code pool room. goes (prepared n) (world e code book pool) (world e code book pool) on on (rw (size_of code h room, le-leb _ _ fits, recorded, ← here)) };
      fits = λ z. fits;
    }

    module _ (off : false ≡ stands_at (pos_view e.position) (last_entry (lines_in book e.lines))) where
      pub prepare-lines : {r : Emitter} → max_lines ≤ e.lines → Bare (refused (record { number = lines_full; place = 0 })) e r → Prepared n e book r book
      unfolding prepared demand ◌>>◌ ◌>>=◌ recorded lined
      prepare-lines full b = record {
        noted = record {
          fine = b.fine;
          slots = slots;
          kept = λ code pool. b.kept code book pool;
          did = λ code pool room. stops (prepared n) lines_full 0 code book pool b
              (rw (size_of code h room, le-leb _ _ fits, recorded, ← off, length-rows entry_in line_base entry_size book e.lines, le-ltb _ _ full));
        };
        fits = λ z. absurd (is-refused b z);
      }

      pub prepare-noted : {book' : List ℕ} {offset : ℕ} → offset ≡ e.size → e.refused ≡ None → e.lines < max_lines
          → book' ≡ sets book (line_base + entry_size * e.lines) (one_entry (record { offset = offset; pos = pos_view e.position })) → Prepared n e book (readied e (Ok (e.lines + 1))) book'
      unfolding prepared demand ◌>>◌ ◌>>=◌ recorded lined
      prepare-noted here on few put =
          let x : LineEntry = record { offset = e.size; pos = pos_view e.position } in
          let ns = one_entry x in
          let j = line_base + entry_size * e.lines in
          let put' = rw here at put in
          rw put' (record {
            noted = record {
              fine = record { size = h.size; labels = h.labels; patches = h.patches; lines = omega arith; constants = h.constants; last = h.last; depth = h.depth; deepest = h.deepest };
              slots = length-sets book j ns ∙ slots;
              kept = λ code pool. record {
                grown = record { size = omega arith; labels = omega arith; patches = omega arith; lines = omega arith; constants = omega arith };
                code = refl;
                book = line-tails (counted e e.labels e.patches (e.lines + 1) e.constants) ns book e.lines (length-one x) few (omega arith);
                pool = λ few long. pool-self e.constants pool;
                sticky = λ z. absurd (z on);
              };
              did = λ code pool room. goes (prepared n) (world e code book pool) (world (counted e e.labels e.patches (e.lines + 1) e.constants) code (sets book j ns) pool) on on
                  (rw (
                    size_of code h room,
                    le-leb _ _ fits,
                    recorded,
                    ← off,
                    size_of code h room,
                    length-rows entry_in line_base entry_size book e.lines,
                    lt-ltb _ _ few,
                    rows_more entry_in line_base entry_size ns book e.lines (length-one x) (omega arith),
                    entry-back x,
                    rows_behind label_in label_base label_size ns book e.labels j (omega (arith, h.labels)),
                    rows_behind patch_in patch_base patch_size ns book e.patches j (omega (arith, h.patches, h.size)),
                  ));
            };
            fits = λ z. fits;
          })

-- ---- the bytes

pub grows : {e u : Emitter} (n : ℕ) (last : Last) (x : Effect) {y : Effect} {d m : ℕ} → Fine e → 0 < n → e.size + n ≤ max_code → LastAt last (e.size + n) → y ≡ x → d ≡ shift y e.depth → m ≡ max e.deepest d
    → u ≡ altered e (e.size + n) last d m → Fine u × (u ≡ altered e (e.size + n) last (shift x e.depth) (max e.deepest (shift x e.depth)))
grows {e} n last x h more fits at is_y is-d' is_m is =
    let q = shift-most x e.depth in
    let is-d = rw is_y at is-d' in
    rw (is, is_m, is-d) (fine-altered (e.size + n) last (shift x e.depth) (max e.deepest (shift x e.depth)) h (omega arith) fits at (omega (arith, h.depth)) (omega (arith, h.depth, h.deepest)), refl)

-- an instruction is its preparation and its bytes
pub add_parts : (s : Sheet) (r : Role) (operand : List ℕ) (l : def.Last) (x : def.Emitter) → add s r operand l x ≡ prepared (suc (length operand)) x >>= putting s r operand l
unfolding add prepared ◌>>◌ ◌>>=◌
add_parts s r operand l x = go (demand (leb (length x.bytecode + suc (length operand)) max_code) code_full 0) (recorded x)
  where
    go : (m : Res (Unit {0})) (q : Res (List LineEntry)) → m >> (q >>= λ entries. ok (added s r operand l entries x)) ≡ (m >> (q >>= λ entries. ok (lined entries x))) >>= putting s r operand l
    go (ok a) (ok b) = unfold lined in unfold added in refl
    go (ok a) (refuse n p) = refl
    go (refuse n p) q = refl

add_is : (s : Sheet) (r : Role) (operand : List ℕ) (l : def.Last) (x : def.Emitter) → once (add s r operand l) x ≡ once (prepared (suc (length operand))) x >-> once (putting s r operand l)
unfolding once
add_is s r operand l x = ap (met_at x) (add_parts s r operand l x) ∙ once-then (prepared (suc (length operand))) (λ y. added s r operand l y.line_map y) x

pushed-bytes : (xs code code' : List ℕ) (n m : ℕ) → at code' m ≡ push_all (at code n) xs → n + length xs ≤ length code → take (n + length xs) code' ≡ take n code ++ xs
unfolding contents
pushed-bytes xs code code' n m e h =
    let end : m ≡ n + length xs = ap (λ (t : Store). t.used) e ∙ used-room (at code n) xs h in
    rw (← end) (ap contents e ∙ contents-room (at code n) xs h)

pushed-tail : (xs code code' : List ℕ) (n m : ℕ) → at code' m ≡ push_all (at code n) xs → n + length xs ≤ length code → drop (n + length xs) code' ≡ drop (n + length xs) code
pushed-tail xs code code' n m e h = ap (λ (t : Store). drop (n + length xs) t.cells) e ∙ ap (drop (n + length xs)) (pushed-sets xs code n h) ∙ sets-tail xs code n h

module _ (s : Sheet) (r : Role) (operand : List ℕ) (l : Last) (n : ℕ) (is-n : n ≡ suc (length operand)) {p : Emitter} {code : List ℕ} (room : length code ≡ max_code) where
  pub puts : {u : Emitter} {code' : List ℕ} {m : ℕ} → Fine p → p.refused ≡ None → p.size + n ≤ max_code → at code' m ≡ push_all (at code p.size) (opcode s r ∷ operand) → Fine u
      → u ≡ altered p (p.size + n) l (shift (effect r) p.depth) (max p.deepest (shift (effect r) p.depth)) → Put s r operand l p code u code'
  unfolding added
  puts {u} {code'} h on few put fine is =
      let k = suc (length operand) in
      let is' = rw is-n at is in
      let few' : p.size + k ≤ max_code = rw is-n at few in
      let fits : p.size + k ≤ length code = rw room few' in
      let bytes : take (p.size + k) code' ≡ take p.size code ++ (opcode s r ∷ operand) = pushed-bytes (opcode s r ∷ operand) code code' p.size _ put fits in
      let v = altered p (p.size + k) l (shift (effect r) p.depth) (max p.deepest (shift (effect r) p.depth)) in
      let tail : drop (p.size + k) code' ≡ drop (p.size + k) code = pushed-tail (opcode s r ∷ operand) code code' p.size _ put fits in
      record {
        fine = fine;
        coded = λ book slots. record {
          fine = fine;
          room = ap (λ (t : Store). length t.cells) put ∙ length-push_all (at code p.size) (opcode s r ∷ operand) ∙ room;
          slots = slots;
          kept = λ pool. rw is' (record {
            grown = record { size = omega arith; labels = omega arith; patches = omega arith; lines = omega arith; constants = omega arith };
            code = tail;
            book = tails-self v book;
            pool = λ few long. pool-self p.constants pool;
            sticky = λ z. absurd (z on);
          });
          did = λ pool. rw is' (goes (putting s r operand (last_view l)) (world p code book pool) (world v code' book pool) on on (rw bytes));
        };
        branched = λ two. rw is' (λ z. omega (arith, h.patches));
      }

  module _ {e : Emitter} {book book' : List ℕ} (prep : Prepared n e book p book') where
    pub add-stops : (p.refused ≡ None → ⊥) → Added s r operand l e code book p code book'
    add-stops off =
        let prep' = rw is-n at prep in
        record {
          coded = record {
            fine = prep.noted.fine;
            room = room;
            slots = prep.noted.slots;
            kept = λ pool. prep.noted.kept code pool;
            did = λ pool. by-step (λ on. add_is s r operand (last_view l) _) (then (prep'.noted.did code pool room) (stays _ off));
          };
          branched = λ two z. absurd (off z);
        }

    pub add_goes : {u : Emitter} {code' : List ℕ} → Put s r operand l p code u code' → Added s r operand l e code book u code' book'
    add_goes w =
        let prep' = rw is-n at prep in
        let a = w.coded book' prep.noted.slots in
        record {
          coded = record {
            fine = a.fine;
            room = a.room;
            slots = a.slots;
            kept = λ pool. kept_then (prep.noted.kept code pool) (a.kept pool);
            did = λ pool. by-step (λ on. add_is s r operand (last_view l) _) (then (prep'.noted.did code pool room) (a.did pool));
          };
          branched = w.branched;
        }

-- how many bytes
pub three : (x : ℕ) → 3 ≡ suc (length (le16 x))
unfolding le16
three x = refl

pub eight : (s : Sheet) (c : CompareOp) (v x : ℕ) → 8 ≡ suc (length (cmp_operand s c v x))
unfolding le16 cmp_operand
eight s c v x = refl

pub two_bytes : (x : ℕ) → 2 ≤ length (le16 x)
unfolding le16
two_bytes x = omega arith

pub seven-bytes : (s : Sheet) (c : CompareOp) (v x : ℕ) → 2 ≤ length (cmp_operand s c v x)
unfolding le16 cmp_operand
seven-bytes s c v x = omega arith

-- pushes one behind the other
pub pushed-one : (s : Store) {t : Store} {b c : ℕ} → t ≡ push s b → b ≡ c → t ≡ push_all s (c ∷ [])
unfolding push_all
pushed-one s e is = rw (← is) e

pub pushed_then : (s : Store) (xs : List ℕ) {t u : Store} {b c : ℕ} → t ≡ push s b → b ≡ c → u ≡ push_all t xs → u ≡ push_all s (c ∷ xs)
unfolding push_all
pushed_then s xs e is k = rw (← is, ← e) k

pub pushed-u16 : (s : Store) (x : ℕ) {t u : Store} {a b : ℕ} → t ≡ push s a → u ≡ push t b → a ≡ x % 256 → b ≡ x / 256 → u ≡ push_all s (le16 x)
unfolding push_all le16
pushed-u16 s x p q is-a is_b = rw (← is-a, ← is_b, ← p) q

pub pushed-cmp-br : (s0 : Store) (b c v i : ℕ) {s1 s2 s3 s4 s5 : Store} → s1 ≡ push s0 b → s2 ≡ push s1 c → s3 ≡ push_all s2 (le16 v) → s4 ≡ push_all s3 (le16 i) → s5 ≡ push_all s4 (le16 0)
    → s5 ≡ push_all s0 (b ∷ (c ∷ le16 v ++ le16 i) ++ le16 0)
unfolding push_all
pushed-cmp-br s0 b c v i {s1} {s2} {s3} {s4} {s5} e1 e2 e3 e4 e5 =
    let q : s4 ≡ push_all s2 (le16 v ++ le16 i) = rw (push_all-append s2 (le16 v) (le16 i), ← e3) e4 in
    let z : s5 ≡ push_all s2 ((le16 v ++ le16 i) ++ le16 0) = rw (push_all-append s2 (le16 v ++ le16 i) (le16 0), ← q) e5 in
    z ∙ ap (λ (t : Store). push_all t ((le16 v ++ le16 i) ++ le16 0)) (e2 ∙ ap (λ (t : Store). push t c) e1)

pub cmp-bytes : (s : Sheet) (c : CompareOp) (v i : ℕ) (t : Store) {u : Store} {b d : ℕ} → b ≡ opcode s cmp_br → d ≡ comparison_byte s c → u ≡ push_all t (b ∷ (d ∷ le16 v ++ le16 i) ++ le16 0) → u ≡ push_all t (opcode s cmp_br ∷ cmp_operand s c v i)
unfolding cmp_operand
cmp-bytes s c v i t is_b is-d e = rw (is_b, is-d) at e

-- ---- a step under another name

pub coded_by : (f g : def.Emitter → Res def.Emitter) {e r : Emitter} {code book code' book' : List ℕ} → ((pool : List ℕ) → f (state (world e code book pool)) ≡ g (state (world e code book pool))) → Coded (once g) e code book r code' book'
    → Coded (once f) e code book r code' book'
unfolding once
coded_by f g is d = record { fine = d.fine; room = d.room; slots = d.slots; kept = d.kept; did = λ pool. by-step (λ on. rw (is pool)) (d.did pool) }
