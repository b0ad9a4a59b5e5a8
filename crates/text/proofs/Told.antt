-- An output that holds a text, all of it, and what it was made from.
use mathlib.Core.Path.{◌≡◌, refl, ap, sym, ◌∙◌}
use mathlib.Core.List.{List}
use Prim.Native.Nat.{ℕ, ◌-◌, ◌*◌, ◌≤◌, ◌<◌, min}
use native.Mathlib.Nat.{min-le_right}
use native.Mathlib.Omega.{arith}
use lib.ListN.{length, take, get_or, length-append}
use lib.Seq.{length-take-le}
use Rattle.definition.specs.Limits.{entry_size}
use Rattle.definition.specs.Emit.{LineEntry}
use Rattle.definition.specs.Lent.{zeros, filled, entry_numbers, entries_of}
use Rattle.definition.specs.Compile.{Free}
use Rattle.line_map.proofs.Entries.{length-numbers, entries-back}
use Rattle.store.specs.Store.{Store, at, contents, push_all, empty}
use Rattle.store.specs.Fill.{zeroed_from}
use Rattle.store.proofs.Stores.{contents-empty, used-room, length-push_all}
use Rattle.store.proofs.Fills.{zeroed-is, length-filled, front_of, small-front}
use Rattle.text.specs.Text.{Told}

-- ---- what outputs give back

pub entries-of : (room : ℕ) (ls : List LineEntry) → entries_of (take (length ls * entry_size) (filled room (entry_numbers ls))) ≡ ls
entries-of room ls =
    ap (λ (n : ℕ). entries_of (take n (filled room (entry_numbers ls)))) (sym (length-numbers ls)) ∙ ap entries_of (front_of room (entry_numbers ls) refl) ∙ entries-back ls

-- what an output holds at its start is as small as the output
pub filled-room : (room : ℕ) (xs : List ℕ) → length (filled room xs) ≡ room → length xs ≤ room
unfolding filled
filled-room room xs e =
    let l = length-append xs (zeros (room - length xs)) in
    omega (arith, e, l)

pub small-start : (room m : ℕ) (xs : List ℕ) → 0 < m → ((i : ℕ) → get_or (filled room xs) i 0 < m) → (i : ℕ) → get_or xs i 0 < m
unfolding filled
small-start room m xs = small-front m xs (zeros (room - length xs))

pub part-long : (n : ℕ) (l : List ℕ) (r : ℕ) → r ≡ min n (length l) → r ≡ length (take r l)
part-long n l r e = sym (length-take-le r l (rw e (min-le_right n (length l))))

-- ---- a text that was put from the start of an output which has room for it, and then 0

module _ (before mid xs : List ℕ) (n room : ℕ) (long : length before ≡ room) (fits : length xs ≤ room) (p : at mid n ≡ push_all (at before 0) xs) where
  pub put-end : n ≡ length xs
  put-end = ap (λ (s : Store). s.used) p ∙ used-room (at before 0) xs (omega arith) ∙ omega arith

  pub put-filled : {after : List ℕ} → after ≡ zeroed_from n mid → after ≡ filled room xs
  unfolding filled contents empty
  put-filled e =
      let whole : take n mid ≡ xs = ap contents p ∙ contents-empty before xs (omega arith) in
      let same : length mid ≡ room = ap (λ (s : Store). length s.cells) p ∙ length-push_all (at before 0) xs ∙ long in
      e ∙ zeroed-is n mid ∙ rw (whole, same, put-end)

pub told-put : {A : Type 0} {text : A → List ℕ} {sheet : List ℕ} {result : ℕ → A} (room place : ℕ) (before mid : List ℕ) {after : List ℕ} {n : ℕ} → length before ≡ room → length (text (result place)) ≤ room
    → Free sheet place → at mid n ≡ push_all (at before 0) (text (result place)) → after ≡ zeroed_from n mid → Told room text sheet result after n
told-put {text = text} {result = result} room place before mid {n = n} long short free put rest =
    let end = put-end before mid (text (result place)) n room long short put in
    record { place = place; free = free; is = put-filled before mid (text (result place)) n room long short put rest; end = end; fits = rw end short }

-- ---- what was told

module _ {A : Type 0} {room : ℕ} {text : A → List ℕ} {sheet : List ℕ} {result : ℕ → A} {out : List ℕ} {r : ℕ} (t : Told room text sheet result out r) where
  -- no more of the output is used than there is
  pub told-within : r ≤ length out
  told-within = rw (t.is, length-filled room (text (result t.place)) (omega (arith, t.end, t.fits))) t.fits

  pub told_part : r ≡ length (take r out)
  told_part = sym (length-take-le r out told-within)

  -- the same of another sheet that is at fault where this one is, and of the same results
  pub told-as : {other : List ℕ} {results : ℕ → A} → ((place : ℕ) → Free sheet place → Free other place) → ((place : ℕ) → result place ≡ results place) → Told room text other results out r
  told-as free same = record {
    place = t.place;
    free = free t.place t.free;
    is = t.is ∙ ap (λ (x : A). filled room (text x)) (same t.place);
    end = t.end ∙ ap (λ (x : A). length (text x)) (same t.place);
    fits = t.fits;
  }

  -- the text itself
  pub told_text : take r out ≡ text (result t.place)
  told_text = rw t.end (front_of room (text (result t.place)) t.is)
