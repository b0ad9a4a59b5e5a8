-- What is kept of a line of the sheet or the rules, and of a text of such lines: its fields are the line's first ones, each cut.
use mathlib.Core.Path.{◌≡◌, refl, ap, ◌∙◌}
use mathlib.Core.Logic.{◌⊎◌, inl, inr}
use mathlib.Core.Bool.{Bool, true, false, ◌&&◌}
use mathlib.Core.List.{List, [], ◌∷◌, ◌++◌, map, append-nil, append_assoc}
use Prim.Native.Nat.{ℕ, zero, suc, ◌+◌, ◌-◌, ◌*◌, ◌≤◌, ◌<◌}
use native.Mathlib.Omega.{arith}
use borrow.Author.Tests.{lt-ltb, le-ltb, ltb-true, ltb-false}
use lib.Dec.{eqb, ltb}
use lib.ListN.{length, take, length-append}
use lib.Seq.{take-nil}
use Rattle.field.proofs.Parts.{split-is, split-sep, split-other}
use Rattle.definition.specs.Field.{lf, comma, onto, split}
use Rattle.definition.specs.Listing.{cut_line, cut_lines}
use Rattle.input_machine.specs.Machine.{field_room, field_width, field_after, sheet_room}
use Rattle.input_machine.proofs.Text.{has_lf, no-lf, cut, cut-ended, cut-open}

-- ---- a byte, in the machine's order: fields before this one, bytes kept of this one

unfoldable pub keeps_byte : ℕ → ℕ → ℕ → Bool
keeps_byte i k b = elim (eqb b comma) [ true ↦ ltb (suc i) field_room | false ↦ ltb i field_room && ltb k field_width ]

unfoldable pub index_after : ℕ → ℕ → ℕ
index_after i b = elim (eqb b comma) [ true ↦ field_after i | false ↦ i ]

unfoldable pub kept_after : ℕ → ℕ → ℕ → ℕ
kept_after i k b = elim (eqb b comma) [ true ↦ 0 | false ↦ elim (ltb i field_room && ltb k field_width) [ true ↦ suc k | false ↦ k ] ]

unfoldable pub put_on : Bool → ℕ → List ℕ → List ℕ
put_on true b l = b ∷ l
put_on false b l = l

-- a line
unfoldable pub line_from : ℕ → ℕ → List ℕ → List ℕ
line_from i k [] = []
line_from i k (b ∷ bs) = put_on (keeps_byte i k b) b (line_from (index_after i b) (kept_after i k b) bs)

-- lines: an LF is kept, and starts a new one
unfoldable pub text_from : ℕ → ℕ → List ℕ → List ℕ
text_from i k [] = []
text_from i k (b ∷ bs) = elim (eqb b lf) [ true ↦ b ∷ text_from 0 0 bs | false ↦ put_on (keeps_byte i k b) b (text_from (index_after i b) (kept_after i k b) bs) ]

abbrev pub clipped_line : List ℕ → List ℕ
clipped_line l = line_from 0 0 l

abbrev pub clipped : List ℕ → List ℕ
clipped t = text_from 0 0 t

-- ---- one byte of a line

module _ (i k b : ℕ) (l : List ℕ) where
  line-comma : eqb b comma ≡ true → suc i < field_room → line_from i k (b ∷ l) ≡ b ∷ line_from (suc i) 0 l
  unfolding line_from put_on keeps_byte index_after kept_after field_after
  line-comma e h = rw (e, keeps_byte, index_after, kept_after) (rw (lt-ltb (suc i) field_room h, lt-ltb i field_room (omega arith), field_after))

  line-last : eqb b comma ≡ true → suc i ≡ field_room → line_from i k (b ∷ l) ≡ line_from field_room 0 l
  unfolding line_from put_on keeps_byte index_after kept_after field_after
  line-last e h = rw (e, keeps_byte, index_after, kept_after) (rw (le-ltb (suc i) field_room (omega arith), lt-ltb i field_room (omega arith), field_after) (rw h))

  line-byte : eqb b comma ≡ false → i < field_room → k < field_width → line_from i k (b ∷ l) ≡ b ∷ line_from i (suc k) l
  unfolding line_from put_on keeps_byte index_after kept_after
  line-byte e h w = rw (e, keeps_byte, index_after, kept_after) (rw (lt-ltb i field_room h, lt-ltb k field_width w))

  line-wide : eqb b comma ≡ false → i < field_room → field_width ≤ k → line_from i k (b ∷ l) ≡ line_from i k l
  unfolding line_from put_on keeps_byte index_after kept_after
  line-wide e h w = rw (e, keeps_byte, index_after, kept_after) (rw (lt-ltb i field_room h, le-ltb k field_width w))

-- past the last field that is kept
line-past : (i k : ℕ) (l : List ℕ) → field_room ≤ i → line_from i k l ≡ []
unfolding line_from put_on keeps_byte index_after kept_after field_after
line-past i k [] h = refl
line-past i k (b ∷ l) h = go (eqb b comma) refl (λ j. line-past i j l h)
  where
    go : (c : Bool) → eqb b comma ≡ c → ((j : ℕ) → line_from i j l ≡ []) → line_from i k (b ∷ l) ≡ []
    go true e more = rw (e, keeps_byte, index_after, kept_after) (rw (le-ltb (suc i) field_room (omega arith), le-ltb i field_room h, field_after) (more 0))
    go false e more = rw (e, keeps_byte, index_after, kept_after) (rw (le-ltb i field_room h) (more k))

-- ---- the fields of a clipped line

unfoldable pub first : {A B : Type 0} → (A → B) → (A → B) → List A → List B
first f g [] = []
first f g (x ∷ xs) = f x ∷ map g xs

first-same : {A B : Type 0} (f : A → B) (l : List A) → first f f l ≡ map f l
unfolding first
first-same f [] = refl
first-same f (x ∷ l) = refl

-- so many fields more are kept, and so many bytes of the first of them
pub split-line : (l : List ℕ) (i k m w : ℕ) → i + suc m ≡ field_room → k + w ≡ field_width
    → split comma (line_from i k l) ≡ take (suc m) (first (take w) (take field_width) (split comma l))
unfolding line_from first split onto
split-line [] i k m w a c = rw (take-nil {A = ℕ} w, take-nil {A = List ℕ} m)
split-line (b ∷ l) i k m w a c = go (eqb b comma) refl m w a c (split-line l)
  where
    go : (t : Bool) → eqb b comma ≡ t → (m w : ℕ) → i + suc m ≡ field_room → k + w ≡ field_width
        → ((i k m w : ℕ) → i + suc m ≡ field_room → k + w ≡ field_width → split comma (line_from i k l) ≡ take (suc m) (first (take w) (take field_width) (split comma l)))
        → split comma (line_from i k (b ∷ l)) ≡ take (suc m) (first (take w) (take field_width) (split comma (b ∷ l)))
    go true e zero w a c more =
        rw (line-last i k b l e (omega arith), line-past field_room 0 l (omega arith), split-sep comma b l e, take-nil {A = ℕ} w)
    go true e (suc m) w a c more =
        rw (
          line-comma i k b l e (omega arith),
          split-sep comma b (line_from (suc i) 0 l) e,
          split-sep comma b l e,
          take-nil {A = ℕ} w,
          more (suc i) 0 m field_width (omega arith) (omega arith),
          first-same (take field_width) (split comma l),
        )
    go false e m zero a c more =
        let p = split-is comma l in
        rw (line-wide i k b l e (omega arith) (omega arith), split-other comma b l e, more i k m 0 a c, p.2)
    go false e m (suc w) a c more =
        let p = split-is comma l in
        rw (line-byte i k b l e (omega arith) (omega arith), split-other comma b (line_from i (suc k) l) e, split-other comma b l e, more i (suc k) m w a (omega arith), p.2)

pub fields-clipped : (l : List ℕ) → split comma (clipped_line l) ≡ take field_room (map (take field_width) (split comma l))
fields-clipped l = split-line l 0 0 (field_room - 1) field_width refl refl ∙ ap (take field_room) (first-same (take field_width) (split comma l))

-- a line is not emptied
pub clipped-some : (b : ℕ) (l : List ℕ) → (m : List ℕ) × (clipped_line (b ∷ l) ≡ b ∷ m)
clipped-some b l = go (eqb b comma) refl
  where
    go : (c : Bool) → eqb b comma ≡ c → (m : List ℕ) × (clipped_line (b ∷ l) ≡ b ∷ m)
    go true e = (line_from 1 0 l, line-comma 0 0 b l e (omega arith))
    go false e = (line_from 0 1 l, line-byte 0 0 b l e (omega arith) (omega arith))

-- ---- a text's lines, each clipped

module _ (i k b : ℕ) (l : List ℕ) where
  text-lf : eqb b lf ≡ true → text_from i k (b ∷ l) ≡ b ∷ text_from 0 0 l
  unfolding text_from
  text-lf e = rw (e, text_from)

  text-byte : eqb b lf ≡ false → text_from i k (b ∷ l) ≡ put_on (keeps_byte i k b) b (text_from (index_after i b) (kept_after i k b) l)
  unfolding text_from
  text-byte e = rw (e, text_from)

pub split_text : (i k : ℕ) (t : List ℕ) → split lf (text_from i k t) ≡ first (line_from i k) (line_from 0 0) (split lf t)
unfolding text_from line_from split first put_on onto
split_text i k [] = refl
split_text i k (b ∷ t) = go (eqb b lf) refl (λ j q. split_text j q t)
  where
    puts : (c : Bool) (u : List ℕ) (x : List ℕ) (xs : List (List ℕ)) → eqb b lf ≡ false → split lf u ≡ x ∷ xs → split lf (put_on c b u) ≡ put_on c b x ∷ xs
    puts true u x xs e q = split-other lf b u e ∙ ap (onto b) q
    puts false u x xs e q = q

    go : (c : Bool) → eqb b lf ≡ c → ((j q : ℕ) → split lf (text_from j q t) ≡ first (line_from j q) (line_from 0 0) (split lf t))
        → split lf (text_from i k (b ∷ t)) ≡ first (line_from i k) (line_from 0 0) (split lf (b ∷ t))
    go true e more = rw (text-lf i k b t e, split-sep lf b (text_from 0 0 t) e, split-sep lf b t e, more 0 0, first-same (line_from 0 0) (split lf t))
    go false e more =
        let p = split-is lf t in
        let q : split lf (text_from (index_after i b) (kept_after i k b) t) ≡ line_from (index_after i b) (kept_after i k b) p.0 ∷ map (line_from 0 0) p.1 =
        more (index_after i b) (kept_after i k b) ∙ ap (first (line_from (index_after i b) (kept_after i k b)) (line_from 0 0)) p.2 in
        rw (text-byte i k b t e, split-other lf b t e, p.2) (puts (keeps_byte i k b) _ _ _ e q)

pub lines-clipped : (t : List ℕ) → split lf (clipped t) ≡ map clipped_line (split lf t)
lines-clipped t = split_text 0 0 t ∙ first-same (line_from 0 0) (split lf t)

pub text-open : (i k : ℕ) (l : List ℕ) → has_lf l ≡ false → text_from i k l ≡ line_from i k l
unfolding text_from line_from
text-open i k [] n = refl
text-open i k (b ∷ l) n = let p = no-lf b l n in text-byte i k b l p.0 ∙ ap (put_on (keeps_byte i k b) b) (text-open (index_after i b) (kept_after i k b) l p.1)

pub text-ended : (i k : ℕ) (l m : List ℕ) → has_lf l ≡ false → text_from i k (l ++ (lf ∷ m)) ≡ line_from i k l ++ (lf ∷ clipped m)
unfolding text_from line_from put_on
text-ended i k [] m n = refl
text-ended i k (b ∷ l) m n =
    let p = no-lf b l n in
    text-byte i k b (l ++ (lf ∷ m)) p.0 ∙ ap (put_on (keeps_byte i k b) b) (text-ended (index_after i b) (kept_after i k b) l m p.1) ∙ on (keeps_byte i k b) (line_from (index_after i b) (kept_after i k b) l)
  where
    on : (c : Bool) (x : List ℕ) → put_on c b (x ++ (lf ∷ clipped m)) ≡ put_on c b x ++ (lf ∷ clipped m)
    on true x = refl
    on false x = refl

-- ---- the room that it takes

line-room : (l : List ℕ) (i k : ℕ) → i < field_room → k ≤ field_width → suc (length (line_from i k l)) ≤ (field_room - i) * suc field_width - k
unfolding line_from
line-room [] i k h w = omega arith
line-room (b ∷ l) i k h w = go (eqb b comma) refl (ltb (suc i) field_room) refl (ltb k field_width) refl (line-room l)
  where
    go : (c : Bool) → eqb b comma ≡ c → (d : Bool) → ltb (suc i) field_room ≡ d → (e : Bool) → ltb k field_width ≡ e
        → ((i k : ℕ) → i < field_room → k ≤ field_width → suc (length (line_from i k l)) ≤ (field_room - i) * suc field_width - k)
        → suc (length (line_from i k (b ∷ l))) ≤ (field_room - i) * suc field_width - k
    go true p true q e r more = rw (line-comma i k b l p (ltb-true _ _ q)) (omega (arith, more (suc i) 0 (ltb-true _ _ q) (omega arith)))
    go true p false q e r more = rw (line-last i k b l p (omega (arith, ltb-false (suc i) field_room q)), line-past field_room 0 l (omega arith)) (omega arith)
    go false p d q true r more = rw (line-byte i k b l p h (ltb-true _ _ r)) (omega (arith, more i (suc k) h (ltb-true _ _ r)))
    go false p d q false r more = rw (line-wide i k b l p h (ltb-false _ _ r)) (more i k h w)

pub clipped-room : (l : List ℕ) → length (clipped_line l) < sheet_room
clipped-room l = line-room l 0 0 (omega arith) (omega arith)

pub sheet-room : (bs : List ℕ) → length (clipped (cut_line bs).0) ≤ sheet_room
unfolding text_from
sheet-room bs = go (cut bs)
  where
    go : ((l m : List ℕ) × (has_lf l ≡ false) × (bs ≡ l ++ (lf ∷ m))) ⊎ (has_lf bs ≡ false) → length (clipped (cut_line bs).0) ≤ sheet_room
    go (inl p) =
        rw (p.3, cut-ended p.0 p.1 p.2, text-ended 0 0 p.0 [] p.2, length-append (clipped_line p.0) (lf ∷ clipped []))
        (omega (arith, clipped-room p.0))
    go (inr n) = rw (cut-open bs n, text-open 0 0 bs n) (omega (arith, clipped-room bs))

-- ---- lines cut off a text

pub cuts_nothing : (k : ℕ) → cut_lines k [] ≡ ([], [])
unfolding cut_lines cut_line
cuts_nothing zero = refl
cuts_nothing (suc k) = rw (cuts_nothing k)

pub cuts-none : (bs : List ℕ) → cut_lines 0 bs ≡ ([], bs)
unfolding cut_lines
cuts-none bs = refl

module _ (k : ℕ) where
  pub cuts-ended : (l m : List ℕ) → has_lf l ≡ false → cut_lines (suc k) (l ++ (lf ∷ m)) ≡ (l ++ (lf ∷ (cut_lines k m).0), (cut_lines k m).1)
  unfolding cut_lines
  cuts-ended l m n = rw (cut-ended l m n, append_assoc l (lf ∷ []) (cut_lines k m).0)

  pub cuts-open : (l : List ℕ) → has_lf l ≡ false → cut_lines (suc k) l ≡ (l, [])
  unfolding cut_lines
  cuts-open l n = rw (cut-open l n, cuts_nothing k, append-nil l)

pub room : (k : ℕ) (bs : List ℕ) → length (clipped (cut_lines k bs).0) ≤ k * sheet_room
unfolding text_from
room zero bs = rw (cuts-none bs) (omega arith)
room (suc k) bs = go (cut bs) (room k)
  where
    go : ((l m : List ℕ) × (has_lf l ≡ false) × (bs ≡ l ++ (lf ∷ m))) ⊎ (has_lf bs ≡ false) → ((m : List ℕ) → length (clipped (cut_lines k m).0) ≤ k * sheet_room)
        → length (clipped (cut_lines (suc k) bs).0) ≤ suc k * sheet_room
    go (inl p) more =
        rw (p.3, cuts-ended k p.0 p.1 p.2, text-ended 0 0 p.0 (cut_lines k p.1).0 p.2, length-append (clipped_line p.0) (lf ∷ clipped (cut_lines k p.1).0))
        (omega (arith, clipped-room p.0, more p.1))
    go (inr n) more = rw (cuts-open k bs n, text-open 0 0 bs n) (omega (arith, clipped-room bs))
