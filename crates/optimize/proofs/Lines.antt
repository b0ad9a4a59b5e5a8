-- Line entries remapped one by one.
use mathlib.Core.Path.{◌≡◌, refl, ap, sym, ◌∙◌}
use mathlib.Core.Bool.{Bool, true, false, ◌||◌}
use mathlib.Core.Option.{Option, some, none}
use Rattle.std.specs.Prelude as std
use Rattle.std.specs.Prelude.{Some, None}
use mathlib.Core.List.{List, [], ◌∷◌, ◌++◌, append_assoc, append-nil}
use Prim.Native.Nat.{ℕ, ◌+◌, ◌*◌, ◌/◌, ◌%◌, ◌≤◌, ◌<◌}
use native.Mathlib.Omega.{arith}
use lib.ListN.{length, take, length-append}
use lib.Dec.{leb, eqb}
use borrow.Author.Tests.{le-leb, lt-leb}
use Rattle.std.specs.Option.{option_eq}
use lib.Seq.{length-take-le}
use Rattle.definition.specs.Limits.{entry_size}
use Rattle.definition.specs.Emit as def
use Rattle.definition.specs.Rewrite.{OffsetMap, moved_to}
use Rattle.definition.specs.Lent.{filled, one_entry, entry_in, entries_of, entry_numbers}
use Rattle.definition.specs.Optimize.{is_last, remap_line_map}
use Rattle.store.specs.Store as store
use Rattle.store.specs.Store.{Store, contents, push_all}
use Rattle.store.specs.Fill.{zeroed_from}
use Rattle.store.proofs.Fills.{zeroed-is}
use Rattle.store.proofs.Stores.{contents-room, used-room, length-push_all}
use Rattle.line_map.specs.declared.LineEntry.{LineEntry}
use Rattle.line_map.specs.View.{entry_view}
use Rattle.line_map.proofs.Entries.{entries-chunk, entries-few, length-numbers, numbers-append}
use Rattle.field.specs.View.{option_of}
use Rattle.optimize.specs.View.{remapped_view, last_after, Remaps}

-- ---- one entry

last-test : (last : std.Option ℕ) (to : ℕ) → option_eq eqb last (Some to) ≡ is_last (option_of last) to
unfolding is_last
last-test None to = refl
last-test (Some k) to = refl

module _ (m : OffsetMap) (end : ℕ) where
  pub remap-test : (last : Option ℕ) (x : def.LineEntry) (xs : List def.LineEntry) (t : Bool) → (leb end (moved_to m x.offset) || is_last last (moved_to m x.offset)) ≡ t
      → remap_line_map m end last (x ∷ xs) ≡ elim t [
        | true ↦ remap_line_map m end last xs
        | false ↦ record { offset = moved_to m x.offset; pos = x.pos } ∷ remap_line_map m end (some (moved_to m x.offset)) xs
      ]
  unfolding remap_line_map
  remap-test last x xs t e = ap (λ (u : Bool). elim u [
    | true ↦ remap_line_map m end last xs
    | false ↦ record { offset = moved_to m x.offset; pos = x.pos } ∷ remap_line_map m end (some (moved_to m x.offset)) xs
  ]) e

  -- the two tests in code, of an offset and of where it goes
  module _ (x : ℕ) (last : std.Option ℕ) {to to' : ℕ} (is : to ≡ moved_to m x) (same : to' ≡ to) where
    pub gone-past : end ≤ to' → (leb end (moved_to m x) || is_last (option_of last) (moved_to m x)) ≡ true
    gone-past h = rw (← is, ← same, le-leb _ _ h)

    pub gone-same : to' < end → {b : Bool} → b ≡ option_eq eqb last (Some to) → b ≡ true → (leb end (moved_to m x) || is_last (option_of last) (moved_to m x)) ≡ true
    gone-same h e q =
        let far : leb end to ≡ false = rw (← same) (lt-leb _ _ h) in
        rw (← is, far) (sym (last-test last to) ∙ sym e ∙ q)

    pub stays : to' < end → {b : Bool} → b ≡ option_eq eqb last (Some to) → b ≡ false → (leb end (moved_to m x) || is_last (option_of last) (moved_to m x)) ≡ false
    stays h e q =
        let far : leb end to ≡ false = rw (← same) (lt-leb _ _ h) in
        rw (← is, far) (sym (last-test last to) ∙ sym e ∙ q)

  module _ (entry : LineEntry) (last : std.Option ℕ) where
    pub entry-gone : (leb end (moved_to m entry.offset) || is_last (option_of last) (moved_to m entry.offset)) ≡ true → [] ≡ remap_line_map m end (option_of last) (entry_view entry ∷ [])
    unfolding remap_line_map
    entry-gone h = sym (remap-test (option_of last) (entry_view entry) [] true h)

    pub entry_moved : (leb end (moved_to m entry.offset) || is_last (option_of last) (moved_to m entry.offset)) ≡ false
        → entry_view (record { offset = moved_to m entry.offset; pos = entry.pos }) ∷ [] ≡ remap_line_map m end (option_of last) (entry_view entry ∷ [])
    unfolding remap_line_map
    entry_moved h = sym (remap-test (option_of last) (entry_view entry) [] false h)

  -- one entry, and then those after it
  pub remap-more : (r : std.Option LineEntry) (last : std.Option ℕ) (x : def.LineEntry) (xs : List def.LineEntry) → remapped_view r ≡ remap_line_map m end (option_of last) (x ∷ [])
      → remap_line_map m end (option_of last) (x ∷ xs) ≡ remapped_view r ++ remap_line_map m end (option_of (last_after r last)) xs
  unfolding remap_line_map
  remap-more r last x xs e = by_test r e (leb end (moved_to m x.offset) || is_last (option_of last) (moved_to m x.offset)) refl
    where
      by_test : (r : std.Option LineEntry) → remapped_view r ≡ remap_line_map m end (option_of last) (x ∷ []) → (t : Bool)
          → (leb end (moved_to m x.offset) || is_last (option_of last) (moved_to m x.offset)) ≡ t
          → remap_line_map m end (option_of last) (x ∷ xs) ≡ remapped_view r ++ remap_line_map m end (option_of (last_after r last)) xs
      by_test None e true q = remap-test (option_of last) x xs true q
      by_test None e false q =
          let d = remap-test (option_of last) x [] false q in
          absurd (let z : ◌≡◌ {A = ℕ} 0 1 = cc in omega arith)
      by_test (Some v) e true q =
          let d = remap-test (option_of last) x [] true q in
          absurd (let z : ◌≡◌ {A = ℕ} 0 1 = cc in omega arith)
      by_test (Some v) e false q =
          let d = e ∙ remap-test (option_of last) x [] false q in
          let same : entry_view v ≡ record { offset = moved_to m x.offset; pos = x.pos } = cc in
          remap-test (option_of last) x xs false q ∙ ap (λ (l : def.LineEntry). l ∷ remap_line_map m end (some l.offset) xs) (sym same)

-- ---- all of them

one_entry_lem : (r : std.Option LineEntry) → length (entry_numbers (remapped_view r)) ≤ entry_size
one_entry_lem None = omega (arith, length-numbers (remapped_view None))
one_entry_lem (Some e) = omega (arith, length-numbers (remapped_view (Some e)))

-- one entry's numbers or none
one_entry_whole : (r : std.Option LineEntry) → length (entry_numbers (remapped_view r)) % entry_size ≡ 0
one_entry_whole None = omega (arith, length-numbers (remapped_view None))
one_entry_whole (Some e) = omega (arith, length-numbers (remapped_view (Some e)))

-- a kept entry put down
pub puts-gone : (s : Store) → s ≡ push_all s (entry_numbers (remapped_view None))
unfolding entry_numbers push_all
puts-gone s = refl

pub puts_moved : (e : LineEntry) {t : Store} (s : Store) → t ≡ push_all s (one_entry (entry_view e)) → t ≡ push_all s (entry_numbers (remapped_view (Some e)))
unfolding entry_numbers
puts_moved e s p = rw (append-nil (one_entry (entry_view e))) p

pub record Remapping (m : OffsetMap) (end : ℕ) (lines out₀ out left : List ℕ) (to : ℕ) (last : std.Option ℕ) : Type 0 where
  pub is : entry_numbers (remap_line_map m end none (entries_of lines)) ≡ contents (store.at out to) ++ entry_numbers (remap_line_map m end (option_of last) (entries_of left))
  pub fits : to + length left / entry_size * entry_size ≤ length out₀
  pub whole : to % entry_size ≡ 0
  pub room : length out ≡ length out₀

module _ (m : OffsetMap) (end : ℕ) (lines out₀ : List ℕ) where
  pub remap-begins : length lines / entry_size * entry_size ≤ length out₀ → Remapping m end lines out₀ out₀ lines 0 None
  unfolding contents
  remap-begins enough = record { is = refl; fits = omega arith; whole = refl; room = refl }

  pub remap-goes-on : {out out' left : List ℕ} {to to' : ℕ} {last : std.Option ℕ} (x rest : List ℕ) (r : std.Option LineEntry) (entry : LineEntry) → Remapping m end lines out₀ out left to last
      → left ≡ x ++ rest → length x ≡ entry_size → entry_view entry ≡ entry_in x → remapped_view r ≡ remap_line_map m end (option_of last) (entry_view entry ∷ [])
      → store.at out' to' ≡ push_all (store.at out to) (entry_numbers (remapped_view r))
      → Remapping m end lines out₀ out' rest to' (last_after r last)
  remap-goes-on {out} {out'} {left} {to} {to'} {last} x rest r entry g cut h is one p =
      let s = store.at out to in
      let numbers = entry_numbers (remapped_view r) in
      let short = one_entry_lem r in
      let many : length left ≡ entry_size + length rest = rw (cut, length-append) (omega arith) in
      let fits : to + length numbers ≤ length out = omega (arith, g.fits, g.room, one_entry_whole r) in
      let here : entries_of left ≡ entry_view entry ∷ entries_of rest = rw (cut, entries-chunk x rest h, is) in
      let used : to' ≡ to + length numbers = ap (λ (t : Store). t.used) p ∙ used-room s numbers fits in
      record {
        is = g.is ∙ rw (here, remap-more m end r last (entry_view entry) (entries_of rest) one, numbers-append, ap contents p, contents-room s numbers fits, append_assoc);
        fits = omega (arith, g.fits);
        whole = omega (arith, g.whole, one_entry_whole r);
        room = ap (λ (t : Store). length t.cells) p ∙ length-push_all s numbers ∙ g.room;
      }

  none_left : (last : Option ℕ) → entry_numbers (remap_line_map m end last []) ≡ []
  unfolding remap_line_map entry_numbers
  none_left last = refl

  pub remap-ends : {out out' left : List ℕ} {to : ℕ} {last : std.Option ℕ} → Remapping m end lines out₀ out left to last → length left < entry_size
      → out' ≡ zeroed_from to out → Remaps (remap_line_map m end none (entries_of lines)) out₀ out' (to / entry_size)
  unfolding filled contents
  remap-ends {out} {out'} {left} {to} {last} g h z =
      let R = remap_line_map m end none (entries_of lines) in
      let whole : entry_numbers R ≡ take to out = g.is ∙ rw (entries-few left h, none_left (option_of last)) (append-nil (take to out)) in
      let long : length (entry_numbers R) ≡ to = rw whole (length-take-le to out (omega (arith, g.fits, g.room))) in
      let many = length-numbers R in
      record {
        is = z ∙ zeroed-is to out ∙ rw (whole, ← whole, long, g.room);
        count = omega arith;
      }
