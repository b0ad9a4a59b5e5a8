-- The sweep: from the last place to the first, each count is that of the longest run.
use Prim.Native.Nat.{ℕ, ◌+◌, ◌-◌, suc, ◌≤◌, ◌<◌}
use mathlib.Core.Path.{◌≡◌, refl, sym, ◌∙◌, ap, subst}
use mathlib.Core.List.{List}
use mathlib.Core.Bool.{Bool, true, false, ◌&&◌}
use mathlib.Core.Option.{some}
use lib.ListN.{length, get_or, set, length-set}
use lib.Seq.{get_or-set_same, get_or-set_other}
use native.Mathlib.Omega.{arith}
use native.Mathlib.Decide.{dec_le, ℕ_discrete}
use Rattle.definition.specs.Field.{has}
use Rattle.definition.specs.Opcode.{Role, Sheet, role_of, size, flow}
use Rattle.definition.specs.Runs.{target}
use Rattle.definition.specs.Claims.{branches}
use Rattle.definition.specs.Check.{starts}
use Rattle.definition.specs.Slowest.{leads_back, back_by, is_back, Loops}
use Rattle.opcode.specs.Table.{sheet_in}
use Rattle.rewrite.proofs.Decoding.{size-positive}
use Rattle.field.proofs.Results.{never}
use Rattle.image_check.proofs.Starts.{start-holds}
use Rattle.slowest.specs.Longest.{Best, nothing, longest}
use Rattle.slowest.specs.View.{count_in, way_by, way_at, is_back_way, way_count, Sweeping, Sweeps}
use Rattle.slowest.specs.declared.Way.{Way}
use Rattle.slowest.specs.declared.Way.TheVariants.{Back, Ends, Onwards, Falls, Jumps}
use Rattle.slowest.proofs.Longest.{longest-off, longest-past, longest-role}
use Rattle.slowest.proofs.Ways.{best_way, counts-way, Leads, leads, is-back, same_way, best-way}
use Rattle.slowest.proofs.Reading.{count_past, count-within, way-off, way-role}

-- only the counts ahead matter
count_same : (f g : ℕ → ℕ) (p : ℕ) (w : Way) → Leads p w → ((x : ℕ) → p < x → f x ≡ g x) → way_count f w ≡ way_count g w
unfolding Leads
count_same f g p Back l e = refl
count_same f g p (Ends n) l e = refl
count_same f g p (Onwards q) l e = ap suc (e q l)
count_same f g p (Falls q) l e = ap suc (e q l)
count_same f g p (Jumps q) l e = ap suc (e q l)

-- a run ahead has no more instructions than there are bytes
count_most : (f : ℕ → ℕ) (p end : ℕ) (w : Way) → Leads p w → p < end → ((x : ℕ) → p < x → f x + p < end) → way_count f w + p ≤ end
unfolding Leads
count_most f p end Back l lt e = omega arith
count_most f p end (Ends n) l lt e = omega arith
count_most f p end (Onwards q) l lt e = let k = e q l in omega arith
count_most f p end (Falls q) l lt e = let k = e q l in omega arith
count_most f p end (Jumps q) l lt e = let k = e q l in omega arith

module _ (s : Sheet) (code counts : List ℕ) (p : ℕ) where
  -- by what stands there: nothing, or an instruction
  at_place : (P : Way → Type 0) → (has (starts s code) p ≡ false → P (Ends 0))
      → ((r : Role) → has (starts s code) p ≡ true → role_of s (get_or code p 0) ≡ some r → P (way_by (flow r) code p (p + size r) (count_in counts (length code)))) → P (way_at s code counts p)
  at_place P off on = by (has (starts s code) p) refl
    where
      by : (b : Bool) → has (starts s code) p ≡ b → P (way_at s code counts p)
      by true h = let a = start-holds s code p h in subst P (sym (way-role s code counts p a.1 h a.2)) (on a.1 h a.2)
      by false h = subst P (way-off s code counts p h) (off h)

  pub leads-at : Leads p (way_at s code counts p)
  unfolding Leads
  leads-at = at_place (λ w. Leads p w) (λ h. omega arith) (λ r h e. leads code p (p + size r) (let z = size-positive r in omega arith) (flow r) (count_in counts (length code)))

  -- a branch back is one of the definition's
  back_at : is_back_way (way_at s code counts p) ≡ (has (starts s code) p && is_back s code p)
  unfolding is_back back_by
  back_at = at_place (λ w. is_back_way w ≡ (has (starts s code) p && is_back s code p)) (λ h. sym (ap (λ b. b && is_back s code p) h))
      (λ r h e. is-back code p (p + size r) (let z = size-positive r in omega arith) (flow r) (count_in counts (length code)) ∙ sym (ap (λ b. b && is_back s code p) h ∙ ap (λ x. back_by x code p) e))

  -- where the table is right ahead, the longest run goes on as it says
  module _ (straight : Loops s code → ⊥) (right : (x : ℕ) → p < x → count_in counts (length code) x ≡ (longest s code x).count) where
    pub longest-at : longest s code p ≡ best_way (longest s code) (way_at s code counts p)
    unfolding best_way nothing is_back back_by
    longest-at = at_place (λ w. longest s code p ≡ best_way (longest s code) w) (λ h. longest-off s code straight p h)
        (λ r h e.
        let far : p < p + size r = let z = size-positive r in omega arith in
        longest-role s code straight p r h e
        ∙ (best-way code p (p + size r) far (longest s code) (flow r) (by (branches (flow r) && leads_back p (target code (p + size r))) refl h (ap (λ x. back_by x code p) e))
        ∙ sym (ap (λ w. best_way (longest s code) w) (same_way code p (p + size r) far (flow r) (count_in counts (length code)) (λ x. (longest s code x).count) right))))
      where
        by : {t : Bool} (b : Bool) → t ≡ b → has (starts s code) p ≡ true → is_back s code p ≡ t → t ≡ false
        by true k h e = absurd (straight (record { place = p; start = h; back = e ∙ k }))
        by false k h e = k

    pub count_at : way_count (count_in counts (length code)) (way_at s code counts p) ≡ (longest s code p).count
    count_at = count_same (count_in counts (length code)) (λ x. (longest s code x).count) p (way_at s code counts p) leads-at right
        ∙ sym (ap (λ (b : Best). b.count) longest-at ∙ counts-way (longest s code) (way_at s code counts p))

pub not-back : (w : Way) → (w ≡ Back → ⊥) → is_back_way w ≡ false
not-back Back n = absurd (n refl)
not-back (Ends n) e = refl
not-back (Onwards q) e = refl
not-back (Falls q) e = refl
not-back (Jumps q) e = refl

module _ (sheet code : List ℕ) where
  abbrev s : Sheet
  s = sheet_in sheet

  abbrev L : ℕ
  L = length code

  -- the table is right up to the end and past it
  pub right-from : (straight : Loops s code → ⊥) (counts : List ℕ) (p : ℕ) → ((q : ℕ) → p ≤ q → q ≤ L → get_or counts q 0 ≡ (longest s code q).count) → (x : ℕ) → p ≤ x → count_in counts L x ≡ (longest s code x).count
  unfolding nothing
  right-from straight counts p e x l = by (dec_le x L)
    where
      by : Dec (x ≤ L) → count_in counts L x ≡ (longest s code x).count
      by (yes k) = sym (count-within counts L x k) ∙ e x l k
      by (no k) = sym (count_past counts L x (omega (arith, k))) ∙ sym (ap (λ (b : Best). b.count) (longest-past s code straight x (omega (arith, k))))

  pub sweep-begins : (counts : List ℕ) → L < length counts → Sweeping sheet code (set counts L 0) L
  unfolding nothing
  sweep-begins counts r = record {
    room = subst (λ n. L < n) (sym (length-set counts L 0)) r;
    within = omega arith;
    forward = λ q l h b. let k = (start-holds s code q h).0 in absurd (omega arith);
    low = λ q l m. let z = here q l m in omega arith;
    counted = λ straight q l m. here q l m ∙ sym (ap (λ (b : Best). b.count) (longest-past s code straight q l));
  }
    where
      here : (q : ℕ) → L ≤ q → q ≤ L → get_or (set counts L 0) q 0 ≡ 0
      here q l m = let e : q ≡ L = omega arith in ap (λ x. get_or (set counts L 0) x 0) e ∙ get_or-set_same counts L 0 0 r

  module _ (counts : List ℕ) (p : ℕ) (d : Sweeping sheet code counts p) (some_left : 0 < p) (w : Way) (is : w ≡ way_at s code counts (p - 1)) where
    abbrev b : ℕ
    b = p - 1

    pub sweep-back : is_back_way w ≡ true → Sweeps sheet code counts true
    unfolding Sweeps
    sweep-back e = by (has (starts s code) b) refl (sym (back_at s code counts b) ∙ (ap is_back_way (sym is) ∙ e))
      where
        by : (c : Bool) → has (starts s code) b ≡ c → (has (starts s code) b && is_back s code b) ≡ true → Loops s code
        by true h k = record { place = b; start = h; back = ap (λ x. x && is_back s code b) (sym h) ∙ k }
        by false h k = let z : false ≡ true = ap (λ x. x && is_back s code b) (sym h) ∙ k in never (cc)

    -- what is written: the count, which fits its type
    abbrev n : ℕ
    n = way_count (count_in counts L) w

    pub count_low : n + b ≤ L
    count_low = subst (λ x. way_count (count_in counts L) x + b ≤ L) (sym is) (count_most (count_in counts L) b L (way_at s code counts b) (leads-at s code counts b) (let l = d.within in omega arith) low)
      where
        low : (x : ℕ) → b < x → count_in counts L x + b < L
        low x l = by (dec_le x L)
          where
            by : Dec (x ≤ L) → count_in counts L x + b < L
            by (yes k) = let z = count-within counts L x k in let y = d.low x (omega arith) k in omega arith
            by (no k) = let z = count_past counts L x (omega (arith, k)) in let y = d.within in omega arith

    pub sweep-goes : is_back_way w ≡ false → Sweeping sheet code (set counts b n) b
    sweep-goes e = record {
      room = subst (λ n. L < n) (sym (length-set counts b n)) d.room;
      within = let l = d.within in omega arith;
      forward = λ q l h k. at q l (λ z. let y : true ≡ false = sym (ap (λ x. has (starts s code) x && is_back s code x) (sym z) ∙ (ap (λ x. x && is_back s code q) h ∙ k)) ∙ (sym (back_at s code counts b) ∙ (ap is_back_way (sym is) ∙ e)) in never (cc)) (λ z. d.forward q z h k);
      low = λ q l m. at q l (λ z. let y = here q z in let x = count_low in omega arith) (λ z. let y = there q z in let x = d.low q z m in omega arith);
      counted = λ straight q l m. at q l (λ z. here q z ∙ (ap (λ x. way_count (count_in counts L) x) is ∙ (count_at s code counts b straight (λ x k. right-from straight counts p (d.counted straight) x (omega arith)) ∙ ap (λ x. (longest s code x).count) (sym z)))) (λ z. there q z ∙ d.counted straight q z m);
    }
      where
        at : {P : Type 0} (q : ℕ) → b ≤ q → (q ≡ b → P) → (p ≤ q → P) → P
        at q l f g = elim (ℕ_discrete q b) [ yes z ↦ f z | no z ↦ g (omega (arith, z)) ]

        here : (q : ℕ) → q ≡ b → get_or (set counts b n) q 0 ≡ n
        here q z = ap (λ x. get_or (set counts b n) x 0) z ∙ get_or-set_same counts b n 0 (let l = d.within in let m = d.room in omega arith)

        there : (q : ℕ) → p ≤ q → get_or (set counts b n) q 0 ≡ get_or counts q 0
        there q z = get_or-set_other counts b q n 0 (λ k. omega arith)

  pub sweep-ends : (counts : List ℕ) (p : ℕ) → Sweeping sheet code counts p → p ≤ 0 → Sweeps sheet code counts false
  unfolding Sweeps
  sweep-ends counts p d z =
      let straight : Loops s code → ⊥ = λ l. d.forward l.place (omega arith) l.start l.back in
      record { room = d.room; straight = straight; exact = λ q l. d.counted straight q (omega arith) l }
