-- Labels created and bound.
use Rattle.std.specs.Prelude as code
use Rattle.std.proofs.Common.{Some, None, is_some, unwrap_or, Bool, set}
use Rattle.std.specs.Int.{from_bool}
use Rattle.std.proofs.Common.{None}
use mathlib.Core.Path.{◌≡◌, refl, ◌∙◌}
use mathlib.Core.Option.{some, none}
use mathlib.Core.List.{List}
use Prim.Native.Nat.{ℕ, ◌+◌, ◌*◌, ◌≤◌, ◌<◌}
use native.Mathlib.Omega.{arith}
use borrow.Author.Tests.{le-ltb, lt-ltb}
use lib.ListN.{length, take}
use lib.Seq.{sets, length-sets, set_out}
use Rattle.definition.specs.Limits.{max_labels, labels_full, entry_size}
use Rattle.definition.specs.Res.{◌>>◌, demand}
use Rattle.definition.specs.Emit.{create_label, bind_label, refused, act, labelled}
use Rattle.definition.specs.Lent.{entry_in}
use Rattle.emit.specs.declared.Emitter.{Emitter}
use Rattle.emit.specs.declared.Last.TheVariants.{Other}
use Rattle.emit.specs.Book.{label_size, patch_size, label_base, patch_base, line_base, book_size, label_numbers, label_in, patch_in, labels_in, patches_in, lines_in}
use Rattle.emit.specs.View.{world}
use Rattle.emit.specs.Steps.{call, Fine, Bare, Booked, Created}
use Rattle.emit.specs.Parts.{altered, counted}
use Rattle.emit.proofs.Tables.{length-rows, rows_more, rows-set, rows_before, two-stores}
use Rattle.emit.proofs.Kept.{pool-self, grown-self, kept_self, kept-bare, label-tails}
use Rattle.emit.proofs.Steps.{stays, goes, stops, size_of}
use Rattle.emit.proofs.State.{fine-altered}

-- a label's row leaves the other tables as they are
module _ (ns book : List ℕ) (l : ℕ) (long : length ns ≡ label_size) (few : l < max_labels) where
  patches-kept : (n : ℕ) → patches_in (sets book (label_base + label_size * l) ns) n ≡ patches_in book n
  patches-kept n = rows_before patch_in patch_base patch_size ns book n (label_base + label_size * l) (rw long (omega arith))

  lines-kept : (n : ℕ) → lines_in (sets book (label_base + label_size * l) ns) n ≡ lines_in book n
  lines-kept n = rows_before entry_in line_base entry_size ns book n (label_base + label_size * l) (rw long (omega arith))

fine-bound : {e : Emitter} → Fine e → Fine (altered e e.size Other e.depth e.deepest)
fine-bound {e} h = fine-altered e.size Other e.depth e.deepest h (omega arith) h.size tt h.depth h.deepest

module _ {e : Emitter} {book : List ℕ} {l : ℕ} (h : Fine e) (slots : length book ≡ book_size) where
  pub create-stays : l ≡ e.labels → (e.refused ≡ None → ⊥) → Created e book e book l
  create-stays is off = record { fine = h; slots = slots; label = is; kept = λ code pool. kept_self (world e code book pool); did = λ s x code pool. stays (call s (create_label x)) off }

  pub create-full : {r : Emitter} → l ≡ e.labels → max_labels ≤ e.labels → Bare (refused (record { number = labels_full; place = 0 })) e r → Created e book r book l
  unfolding act demand ◌>>◌
  create-full is full b = record {
    fine = b.fine;
    slots = slots;
    label = is;
    kept = λ code pool. b.kept code book pool;
    did = λ s x code pool. stops (act s (create_label x)) labels_full 0 code book pool b (rw (length-rows label_in label_base label_size book e.labels, le-ltb _ _ full));
  }

  pub create-goes : {book' : List ℕ} (ns : List ℕ) → length ns ≡ label_size → label_in ns ≡ none → l ≡ e.labels → e.refused ≡ None → e.labels < max_labels
      → book' ≡ sets book (label_base + label_size * e.labels) ns → Created e book (counted e (e.labels + 1) e.patches e.lines e.constants) book' l
  unfolding act demand ◌>>◌ labelled
  create-goes ns long free is on few put = rw put (record {
    fine = record { size = h.size; labels = omega arith; patches = h.patches; lines = h.lines; constants = h.constants; last = h.last; depth = h.depth; deepest = h.deepest };
    slots = length-sets book (label_base + label_size * e.labels) ns ∙ slots;
    label = is;
    kept = λ code pool. record {
      grown = record { size = omega arith; labels = omega arith; patches = omega arith; lines = omega arith; constants = omega arith };
      code = refl;
      book = label-tails (counted e (e.labels + 1) e.patches e.lines e.constants) ns book e.labels long few (omega arith);
      pool = λ few long. pool-self e.constants pool;
      sticky = λ off. absurd (off on);
    };
    did = λ s x code pool.
        goes (act s (create_label x)) (world e code book pool) (world (counted e (e.labels + 1) e.patches e.lines e.constants) code (sets book (label_base + label_size * e.labels) ns) pool) on on
        (rw (
          length-rows label_in label_base label_size book e.labels,
          lt-ltb _ _ few,
          rows_more label_in label_base label_size ns book e.labels long (omega arith),
          free,
          patches-kept ns book e.labels long few e.patches,
          lines-kept ns book e.labels long few e.lines,
        ));
  })

  pub bind-stays : (e.refused ≡ None → ⊥) → Booked (bind_label l) e book e book
  bind-stays off = record { fine = h; slots = slots; kept = λ code pool. kept_self (world e code book pool); did = λ s code pool room. stays (call s (bind_label l)) off }

  pub bind-nowhere : {r : Emitter} {m : ℕ} → m ≡ l → r ≡ altered e e.size Other e.depth e.deepest → e.refused ≡ None → e.labels ≤ m → Booked (bind_label l) e book r book
  unfolding act labelled
  bind-nowhere same is on few = let many : e.labels ≤ l = omega arith in rw is (record {
    fine = fine-bound h;
    slots = slots;
    kept = λ code pool. kept-bare (grown-self e) refl on code book pool;
    did = λ s code pool room. goes (act s (bind_label l)) (world e code book pool) (world (altered e e.size Other e.depth e.deepest) code book pool) on on
        (rw (set_out (labels_in book e.labels) l (some (length (take e.size code))) (rw (length-rows label_in label_base label_size book e.labels) many)));
  })

  pub bind_goes : {r : Emitter} {book' : List ℕ} {m : ℕ} (ns : List ℕ) → length ns ≡ label_size → label_in ns ≡ some e.size → r ≡ altered e e.size Other e.depth e.deepest → e.refused ≡ None → m ≡ l → m < e.labels
      → book' ≡ sets book (label_base + label_size * m) ns → Booked (bind_label l) e book r book'
  unfolding act labelled
  bind_goes ns long is-here is on same below put' =
      let few : l < e.labels = omega arith in
      let put = rw same at put' in
      let small : l < max_labels = omega (arith, h.labels) in
      rw (is, put) (record {
        fine = fine-bound h;
        slots = length-sets book (label_base + label_size * l) ns ∙ slots;
        kept = λ code pool. record {
          grown = grown-self e;
          code = refl;
          book = label-tails (altered e e.size Other e.depth e.deepest) ns book l long small few;
          pool = λ few long. pool-self e.constants pool;
          sticky = λ off. absurd (off on);
        };
        did = λ s code pool room. goes (act s (bind_label l)) (world e code book pool) (world (altered e e.size Other e.depth e.deepest) code (sets book (label_base + label_size * l) ns) pool) on on
            (rw (
              size_of code h room,
              rows-set label_in label_base label_size ns book e.labels l few long (omega (arith, h.labels)),
              is-here,
              patches-kept ns book l long small e.patches,
              lines-kept ns book l long small e.lines,
            ));
      })

-- a label's numbers
pub label-long : (o : code.Option ℕ) → length (label_numbers o) ≡ label_size
unfolding label_numbers
label-long None = refl
label-long (Some p) = refl

pub free-label : label_in (label_numbers None) ≡ none
unfolding label_in label_numbers
free-label = refl

pub bound-label : (p : ℕ) → label_in (label_numbers (Some p)) ≡ some p
unfolding label_in label_numbers
bound-label p = refl

pub label-stores : (l : List ℕ) (i : ℕ) (o : code.Option ℕ) {s : Bool} {b p : ℕ} → s ≡ is_some o → b ≡ from_bool s → p ≡ unwrap_or o 0 → set (set l i b) (i + 1) p ≡ sets l i (label_numbers o)
unfolding label_numbers
label-stores l i None is bit at = rw (bit, is, at) (two-stores l i 0 0)
label-stores l i (Some x) is bit at = rw (bit, is, at) (two-stores l i 1 x)
