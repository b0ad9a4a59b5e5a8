-- The fields of a text, walked with one look at each byte: a field ends at its comma or with its line.
use mathlib.Core.Path.{◌≡◌, refl, ap, sym, ◌∙◌}
use mathlib.Core.Bool.{Bool, true, false}
use mathlib.Core.Option.{Option, none}
use mathlib.Core.List.{List, [], ◌∷◌}
use Prim.Native.Nat.{ℕ, suc, ◌+◌, ◌-◌, ◌*◌, ◌^◌, ◌≤◌, ◌<◌, min}
use native.Mathlib.Decide.{dec_lt, ℕ_discrete}
use native.Mathlib.Omega.{arith}
use borrow.Author.Tests.{eqb-true, eqb-false, lt-ltb, le-ltb, ne_eqb}
use lib.Dec.{eqb, ltb}
use lib.ListN.{length, get_or, drop, length-drop, drop_of_length-le}
use lib.Seq.{drop-cons, drop-drop, get_or-drop}
use mir.Val.{bool_byte}
use Rattle.definition.specs.Field as def
use Rattle.definition.specs.Field.{lf, comma, minus, onto, split, first_line, natural, natural_within, negative, field, up_to, below, value}
use Rattle.field.specs.View.{cap, is_digit, count, capped, spelt, signs, past, decided, Passes, Capped, until, separates, first_field, Sums, Stops, Counts, Reads, line_end, line_fields, separator}
use Rattle.field.proofs.Lists.{first-left, there}
use Rattle.std.proofs.lemmas.List.{nil_from_length}
use Rattle.field.proofs.Numbers.{digit_low, count-digit, count-other, natural-some, natural-none, up-to-is, below-is, value-plain, value-minus}
use Rattle.field.proofs.Parts.{finds-start, finds-next, finds-rest, until-never, until-next, until-here, until_end, until-first, split-sep, split-other, Some, some-part, split-some}

-- ---- the digits of a field, byte by byte

pub digits-pass : Passes separates
digits-pass b e = rw (ne_eqb b comma (λ c. omega (arith, digit_low b e)), ne_eqb b lf (λ c. omega (arith, digit_low b e)))

-- no digit is no number, whatever its first byte
by_first : (b n : ℕ) (bs : List ℕ) → (0 < length bs → b ≡ get_or bs 0 0) → spelt b (length bs) n ≡ spelt (get_or bs 0 0) (length bs) n
unfolding spelt
by_first b n [] h = refl
by_first b n (c ∷ bs) h = ap (λ (k : ℕ). spelt k (length (c ∷ bs)) n) (h (omega arith))

pub sums_next : {stops : ℕ → Bool} {text : List ℕ} {at n i : ℕ} → Sums stops text at n i → Passes stops → i < length text → true ≡ is_digit (get_or text i 0) → {m : ℕ} → m ≡ min (n * 10 + (get_or text i 0 - 48)) cap → Sums stops text at m (i + 1)
sums_next {stops} {text} {at} {n} {i} s p h e q =
    let goes : stops (get_or text i 0) ≡ false = sym (p _ e) in
    record {
      finding = finds-next s.finding h goes;
      makes = rw q (s.makes ∙ ap (count n) (until-next stops text i h goes) ∙ count-digit n _ _ e);
    }

module _ {text : List ℕ} {at n i : ℕ} (s : Sums separates text at n i) where
  -- where they end the field does, or it is malformed
  module _ {end stop : ℕ} (e : Stops text i end stop) where
    ends_there : Stops text at end stop
    ends_there = record { ends = finds-rest s.finding e.ends; byte = e.byte }

    pub sums-whole : end ≡ i → {o : Option ℕ} → o ≡ spelt (get_or text at 0) (i - at) n → Counts text at o end stop
    unfolding count
    sums-whole h {o} q =
        let bs = first_field (drop at text) in
        let none_left : first_field (drop i text) ≡ [] = nil_from_length _ (omega (arith, e.ends.is)) in
        let long : i - at ≡ length bs = omega (arith, s.finding.more, ap length none_left) in
        record { makes = q ∙ ap (λ (k : ℕ). spelt (get_or text at 0) k n) long ∙ by_first (get_or text at 0) n bs (λ l. sym (first-left at text 0) ∙ sym (until-first separates (drop at text) l)) ∙ natural-some bs (s.makes ∙ ap (count n) none_left); stops = ends_there }

    pub sums-broken : (end ≡ i → ⊥) → false ≡ is_digit (get_or text i 0) → Counts text at none end stop
    sums-broken h d = record { makes = natural-none _ (s.makes ∙ go (dec_lt i (length text)) (separates (get_or text i 0)) refl); stops = ends_there }
      where
        go : Dec (i < length text) → (b : Bool) → separates (get_or text i 0) ≡ b → count n (first_field (drop i text)) ≡ none
        go (no l) b q = absurd (h (omega (arith, e.ends.is, ap length (until_end separates text i (omega arith)))))
        go (yes l) true q = absurd (h (omega (arith, e.ends.is, ap length (until-here separates text i l q))))
        go (yes l) false q = ap (count n) (until-next separates text i l q) ∙ count-other n _ _ d

-- and where they are all of the bytes
module _ {text : List ℕ} {n i : ℕ} (s : Sums (λ _. false) text 0 n i) where
  all-counted : count 0 text ≡ count n (drop i text)
  all-counted = rw (until-never text, until-never (drop i text)) at s.makes

  pub sums-all : length text ≤ i → {o : Option ℕ} → o ≡ spelt (get_or text 0 0) (i - 0) n → o ≡ capped (natural text)
  unfolding count
  sums-all h q =
      let none_left : drop i text ≡ [] = drop_of_length-le text h in
      let long : i - 0 ≡ length text = omega (arith, s.finding.high) in
      q ∙ ap (λ (k : ℕ). spelt (get_or text 0 0) k n) long ∙ natural-some text (all-counted ∙ ap (count n) none_left)

  pub sums-other : i < length text → false ≡ is_digit (get_or text i 0) → none ≡ capped (natural text)
  sums-other h d = natural-none text (all-counted ∙ ap (count n) (drop-cons text i 0 h) ∙ count-other n _ _ d)

-- ---- what a field holds, from its number
module _ {text : List ℕ} {at end stop : ℕ} {o : Option ℕ} {x : def.Read} where
  holding : {f : def.Field} → Counts text at o end stop → x ≡ field f (first_field (drop at text)) → Reads f text at x end stop
  holding c h = record { holds = h; ends = c.stops.ends; stops = c.stops.byte }

  module _ (w : ℕ) (low : 2 ^ (w - 1) < cap) where
    plain : Counts text at o end stop → (get_or text at 0 ≡ 45 → ⊥) → x ≡ natural_within (λ k. ltb k (2 ^ (w - 1))) o → Reads (value w) text at x end stop
    plain c h e =
        let bs = first_field (drop at text) in
        let other : get_or bs 0 0 ≡ 45 → ⊥ = λ z. h (sym (first-left at text 0) ∙ sym (until-first separates (drop at text) (there bs 0 (λ y. omega (arith, y, z)))) ∙ z) in
        holding c (value-plain w bs low c.makes other e)

    behind-minus : Counts text (at + 1) o end stop → get_or text at 0 ≡ 45 → x ≡ negative w o → Reads (value w) text at x end stop
    behind-minus c h e =
        let inside : at < length text = there text at (λ z. omega arith) in
        let goes : separates (get_or text at 0) ≡ false = rw h refl in
        let all : first_field (drop at text) ≡ get_or text at 0 ∷ first_field (drop (at + 1) text) = until-next separates text at inside goes in
        record {
          holds = rw all (value-minus w (get_or text at 0 ∷ first_field (drop (at + 1) text)) low c.makes h e);
          ends = finds-rest (finds-next (finds-start separates text at) inside goes) c.stops.ends;
          stops = c.stops.byte;
        }

  reads-by : (f : def.Field) → Counts text (past (signs f (get_or text at 0)) at) o end stop → Capped f → x ≡ decided f (signs f (get_or text at 0)) o → Reads f text at x end stop
  unfolding signs past decided
  reads-by (up_to m) c low e = holding c (up-to-is _ c.makes m low e)
  reads-by (below m) c low e = holding c (below-is _ c.makes m low e)
  reads-by (value w) c low e = go (eqb (get_or text at 0) minus) refl c e
    where
      go : (t : Bool) → eqb (get_or text at 0) minus ≡ t → Counts text (past t at) o end stop → x ≡ decided (value w) t o → Reads (value w) text at x end stop
      go true q c e = behind-minus w low c (eqb-true _ _ q) e
      go false q c e = plain w low c (eqb-false _ _ q) e

  pub reads-next : (f : def.Field) {s : Bool} {from : ℕ} → s ≡ signs f (get_or text at 0) → from ≡ past s at → Counts text from o end stop → Capped f → x ≡ decided f s o → Reads f text at x end stop
  reads-next f h q c low e = reads-by f (rw (← h, ← q) c) low (rw (← h) e)

pub past-is : (s : Bool) (at : ℕ) → at + bool_byte s ≡ past s at
unfolding past
past-is true at = refl
past-is false at = omega arith

-- a sign is there
pub sign-there : (f : def.Field) (text : List ℕ) (at : ℕ) {s : Bool} → s ≡ signs f (get_or text at 0) → at + bool_byte s ≤ at + (length text - at)
unfolding signs
sign-there f text at {s = false} e = omega arith
sign-there (up_to m) text at {s = true} e = absurd (cc)
sign-there (below m) text at {s = true} e = absurd (cc)
sign-there (value w) text at {s = true} e = omega (arith, there text at (λ z. omega (arith, z, eqb-true (get_or text at 0) minus (sym e))))

-- ---- a field and its line

-- one byte of a line, and of a field
module _ (b : ℕ) (bs : List ℕ) where
  line_on : eqb b lf ≡ false → first_line (b ∷ bs) ≡ b ∷ first_line bs
  unfolding first_line
  line_on q = rw (first_line, q)

  field-on : eqb b comma ≡ false → eqb b lf ≡ false → first_field (b ∷ bs) ≡ b ∷ first_field bs
  unfolding until
  field-on p q = rw (until, p, q)

-- behind a comma the line goes on
unfoldable Goes : List ℕ → Type 0
Goes bs =
    (split comma (first_line bs) ≡ first_field bs ∷ split comma (first_line (drop (suc (length (first_field bs))) bs)))
    × (length (first_line bs) ≡ suc (length (first_field bs)) + length (first_line (drop (suc (length (first_field bs))) bs)))

goes : (bs : List ℕ) → get_or bs (length (first_field bs)) 0 ≡ comma → Goes bs
unfolding until first_line split onto Goes
goes [] = λ e. absurd (omega arith)
goes (b ∷ bs) = go (eqb b comma) (eqb b lf) refl refl (goes bs)
  where
    go : (t u : Bool) → eqb b comma ≡ t → eqb b lf ≡ u → (get_or bs (length (first_field bs)) 0 ≡ comma → Goes bs) → get_or (b ∷ bs) (length (first_field (b ∷ bs))) 0 ≡ comma → Goes (b ∷ bs)
    go true true p q more e = absurd (let a = eqb-true b comma p in let c = eqb-true b lf q in omega arith)
    go true false p q more e = rw (until, p, line_on b bs q) (split-sep comma b (first_line bs) p, omega arith)
    go false true p q more e = absurd (let a = eqb-true b lf q in omega (arith, rw (until, p, q) at e))
    go false false p q more e =
        let m = more (rw (field-on b bs p q) at e) in
        rw (field-on b bs p q, line_on b bs q) (split-other comma b (first_line bs) p ∙ ap (onto b) m.0, omega (arith, m.1))

-- and otherwise it ends there: with an LF, or with the text
unfoldable Stays : List ℕ → Type 0
Stays bs = (split comma (first_line bs) ≡ first_field bs ∷ []) × (length (first_line bs) ≡ length (first_field bs)) × ((get_or bs (length (first_field bs)) 0 ≡ lf → ⊥) → length bs ≤ length (first_field bs))

stays : (bs : List ℕ) → (get_or bs (length (first_field bs)) 0 ≡ comma → ⊥) → Stays bs
unfolding until first_line split onto Stays
stays [] = λ e. (refl, refl, λ h. omega arith)
stays (b ∷ bs) = go (eqb b comma) (eqb b lf) refl refl (stays bs)
  where
    go : (t u : Bool) → eqb b comma ≡ t → eqb b lf ≡ u → ((get_or bs (length (first_field bs)) 0 ≡ comma → ⊥) → Stays bs) → (get_or (b ∷ bs) (length (first_field (b ∷ bs))) 0 ≡ comma → ⊥) → Stays (b ∷ bs)
    go true u p q more e = absurd (rw (until, p) at e (eqb-true b comma p))
    go false true p q more e = rw (until, p, q, first_line, split) (refl, refl, λ h. absurd (h (eqb-true b lf q)))
    go false false p q more e =
        let m = more (rw (field-on b bs p q) at e) in
        rw (field-on b bs p q, line_on b bs q) (split-other comma b (first_line bs) p ∙ ap (onto b) m.0, ap suc m.1, λ h. omega (arith, m.2 h))

-- the end of a field that was read
pub read-stops : {f : def.Field} {text : List ℕ} {at end stop : ℕ} {x : def.Read} → Reads f text at x end stop → Stops text at end stop
read-stops r = record { ends = r.ends; byte = r.stops }

module _ {text : List ℕ} {at end stop : ℕ} (r : Stops text at end stop) where
  here : get_or (drop at text) (length (first_field (drop at text))) 0 ≡ stop
  here = get_or-drop at text (length (first_field (drop at text))) 0 ∙ ap (λ (i : ℕ). get_or text i 0) (sym r.ends.is) ∙ sym r.byte

  -- a byte that is there, and not the 0 for the text's end
  pub stop-inside : (stop ≡ 0 → ⊥) → end < length text
  stop-inside n = there text end (λ e. n (r.byte ∙ e))

  module _ (c : stop ≡ comma) where
    behind : drop (suc (length (first_field (drop at text)))) (drop at text) ≡ drop (end + 1) text
    behind =
        let far : at + suc (length (first_field (drop at text))) ≡ end + 1 = omega (arith, r.ends.is) in
        drop-drop (suc (length (first_field (drop at text)))) at text ∙ ap (λ (k : ℕ). drop k text) far

    pub comma-fields : line_fields text at ≡ first_field (drop at text) ∷ line_fields text (end + 1)
    unfolding Goes
    comma-fields = rw (← behind) (goes (drop at text) (here ∙ c)).0

    pub comma-line : line_end text at ≡ line_end text (end + 1)
    unfolding Goes
    comma-line = omega (arith, r.ends.is, rw behind at (goes (drop at text) (here ∙ c)).1)

  module _ (c : stop ≡ comma → ⊥) where
    pub last-field : line_fields text at ≡ first_field (drop at text) ∷ []
    unfolding Stays
    last-field = (stays (drop at text) (λ e. c (sym here ∙ e))).0

    pub last_line : line_end text at ≡ end
    unfolding Stays
    last_line = omega (arith, r.ends.is, (stays (drop at text) (λ e. c (sym here ∙ e))).1)

    -- no LF either: the text ends here
    pub last_end : (stop ≡ lf → ⊥) → length text ≤ end
    unfolding Stays
    last_end n = omega (arith, r.ends.is, length-drop at text, (stays (drop at text) (λ e. c (sym here ∙ e))).2 (λ e. n (sym here ∙ e)))

-- ---- the fields of the line that starts at `from`: k of them are read, and the next starts at `at`
pub record Walk (text : List ℕ) (from k at : ℕ) : Type 0 where
  pub rest : drop k (line_fields text from) ≡ line_fields text at
  pub same : line_end text from ≡ line_end text at

pub walk-starts : (text : List ℕ) (from : ℕ) → Walk text from 0 from
walk-starts text from = record { rest = refl; same = refl }

some-long : {xs : List (List ℕ)} → Some xs → 0 < length xs
some-long some-part = omega arith

module _ {text : List ℕ} {from k at : ℕ} (w : Walk text from k at) where
  pub walk_inside : k < length (line_fields text from)
  walk_inside = omega (arith, length-drop k (line_fields text from), ap length w.rest, some-long (split-some comma (first_line (drop at text))))

  module _ {f : def.Field} {end stop : ℕ} {x : def.Read} (r : Reads f text at x end stop) where
    -- it is that field which was read
    pub walk_here : x ≡ field f (get_or (line_fields text from) k [])
    walk_here = go (ℕ_discrete stop comma)
      where
        by : {more : List (List ℕ)} → line_fields text at ≡ first_field (drop at text) ∷ more → x ≡ field f (get_or (line_fields text from) k [])
        by e =
            let q : get_or (line_fields text from) k [] ≡ first_field (drop at text) = sym (first-left k (line_fields text from) []) ∙ ap (λ (l : List (List ℕ)). get_or l 0 []) (w.rest ∙ e) in
            r.holds ∙ ap (field f) (sym q)

        go : Dec (stop ≡ comma) → x ≡ field f (get_or (line_fields text from) k [])
        go (yes c) = by (comma-fields (read-stops r) c)
        go (no c) = by (last-field (read-stops r) c)

    module _ (c : stop ≡ comma) where
      pub walk-next : Walk text from (k + 1) (end + 1)
      walk-next = record {
        rest = sym (drop-drop 1 k (line_fields text from)) ∙ ap (drop 1) (w.rest ∙ comma-fields (read-stops r) c);
        same = w.same ∙ comma-line (read-stops r) c;
      }

    module _ (c : stop ≡ comma → ⊥) where
      pub walk-last : length (line_fields text from) ≡ k + 1
      walk-last = omega (arith, walk_inside, length-drop k (line_fields text from), ap length (w.rest ∙ last-field (read-stops r) c))

      pub walk_end : line_end text from ≡ end
      walk_end = w.same ∙ last_line (read-stops r) c

-- ---- a whole line, whose last field is `last`

pub separator-comma : (k last : ℕ) → k < last → separator k last ≡ comma
unfolding separator
separator-comma k last h = rw (separator, lt-ltb k last h)

pub separator-line : (k last : ℕ) → last ≤ k → separator k last ≡ lf
unfolding separator
separator-line k last h = rw (separator, le-ltb k last h)

separator-there : (k last : ℕ) → separator k last ≡ 0 → ⊥
separator-there k last e = go (dec_lt k last)
  where
    go : Dec (k < last) → ⊥
    go (yes h) = omega (arith, e, separator-comma k last h)
    go (no h) = omega (arith, e, separator-line k last (omega arith))

-- a line of so many fields that has its LF
pub record Whole (text : List ℕ) (from n : ℕ) : Type 0 where
  pub many : length (line_fields text from) ≡ n
  pub ended : line_end text from < length text

pub record Walked (text : List ℕ) (from last k at : ℕ) : Type 0 where
  pub low : k ≤ last + 1
  pub going : k ≤ last → Walk text from k at
  pub done : last < k → Whole text from (last + 1) × (at ≡ line_end text from + 1)

pub walked-starts : (text : List ℕ) (from last : ℕ) → Walked text from last 0 from
walked-starts text from last = record { low = omega arith; going = λ h. walk-starts text from; done = λ h. absurd (omega arith) }

module _ {text : List ℕ} {from last k at : ℕ} (w : Walked text from last k at) (h : k ≤ last) {f : def.Field} {end stop : ℕ} {x : def.Read} (r : Reads f text at x end stop) where
  pub walked_next : stop ≡ separator k last → Walked text from last (k + 1) (end + 1)
  walked_next e = go (dec_lt k last)
    where
      go : Dec (k < last) → Walked text from last (k + 1) (end + 1)
      go (yes l) = record { low = omega arith; going = λ _. walk-next (w.going h) r (e ∙ separator-comma k last l); done = λ m. absurd (omega arith) }
      go (no l) =
          let line : stop ≡ lf = e ∙ separator-line k last (omega arith) in
          let other : stop ≡ comma → ⊥ = λ c. omega (arith, line) in
          let end_is = walk_end (w.going h) r other in
          let whole : Whole text from (last + 1) = record { many = omega (arith, walk-last (w.going h) r other); ended = omega (arith, end_is, stop-inside (read-stops r) (λ z. omega (arith, line))) } in
          record { low = omega arith; going = λ m. absurd (omega arith); done = λ m. (whole, omega (arith, end_is)) }

  pub walked-inside : stop ≡ separator k last → end < length text
  walked-inside e = stop-inside (read-stops r) (λ z. separator-there k last (sym e ∙ z))

  pub walked-off : (stop ≡ separator k last → ⊥) → Whole text from (last + 1) → ⊥
  walked-off n whole = go (ℕ_discrete stop comma) (dec_lt k last)
    where
      go : Dec (stop ≡ comma) → Dec (k < last) → ⊥
      go (yes c) (yes l) = n (c ∙ sym (separator-comma k last l))
      go (yes c) (no l) = omega (arith, walk_inside (walk-next (w.going h) r c), whole.many)
      go (no c) (yes l) = omega (arith, walk-last (w.going h) r c, whole.many)
      go (no c) (no l) = omega (arith, last_end (read-stops r) c (λ z. n (z ∙ sym (separator-line k last (omega arith)))), walk_end (w.going h) r c, whole.ended)
