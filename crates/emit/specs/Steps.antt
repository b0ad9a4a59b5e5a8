-- What the contracts of emission say. A step takes one state of the definition's emitter to the next, or halts at one: a call, or the calls of a walk.
use Rattle.std.specs.Prelude.{ℕ, ◌+◌, ◌*◌, ◌≤◌, ◌<◌, ◌≡◌, List, [], ◌∷◌, length, take, drop, None}
use Rattle.definition.specs.Limits.{max_code, max_labels, max_branches, max_lines, max_constants, entry_size}
use Rattle.definition.specs.Res.{Res, ok, refuse}
use Rattle.definition.specs.Opcode.{Sheet}
use Rattle.definition.specs.Tree.{Pos}
use Rattle.definition.specs.Emit as def
use Rattle.definition.specs.Emit.{Call, create_label, act, emitter_at}
use Rattle.definition.specs.Walk.{Calls}
use Rattle.emit.specs.declared.Emitter.{Emitter}
use Rattle.emit.specs.declared.Last.{Last}
use Rattle.emit.specs.declared.Last.TheVariants.{Other, Loaded, Stored}
use Rattle.emit.specs.Book.{label_size, patch_size, label_base, patch_base, line_base, book_size, row}
use Rattle.emit.specs.Pool.{pool_size, Held, entered_all}
use Rattle.emit.specs.View.{World, world, view, Stage, going, halted, stage}

abbrev pub Step : Type 0
Step = def.Emitter → Stage

infixl 10 ◌>->◌
-- from where emission stands; where it halted, it stays
unfoldable pub ◌>->◌ : Stage → Step → Stage
◌>->◌ (going x) f = f x
◌>->◌ (halted n p x) f = halted n p x

-- the step f leads from w to v; where w is refused, v is refused alike
pub record Did (f : Step) (w v : World) : Type 0 where
  pub is : stage v ≡ stage w >-> f

-- what refuses changes nothing: it halts at the state that it met
unfoldable pub met_at : def.Emitter → Res def.Emitter → Stage
met_at x (ok y) = going y
met_at x (refuse n p) = halted n p x

unfoldable pub once : (def.Emitter → Res def.Emitter) → Step
once f x = met_at x (f x)

-- one call of the definition
abbrev pub call : Sheet → Call → Step
call s c = once (act s c)

-- calls in order: where one is refused, what was done is what those before it did
unfoldable pub calls : Sheet → List Call → Step
calls s [] x = going x
calls s (c ∷ cs) x = call s c x >-> λ y. calls s cs y

-- the calls of a walk as one step, its labels numbered from those that there are
unfoldable pub run : Sheet → Calls → Step
run s m x = calls s (m (length x.labels)).1 x

-- ---- what holds between any two calls, refused or not

-- a store that a load may fold into has three bytes
abbrev pub LastAt : Last → ℕ → Type 0
LastAt Other n = Unit
LastAt (Loaded v) n = Unit
LastAt (Stored v) n = 3 ≤ n

-- the greatest height that a depth is reset to: the heights of code are u16
abbrev pub max_height : ℕ
max_height = 65535

pub record Fine (e : Emitter) : Type 0 where
  pub size : e.size ≤ max_code
  pub labels : e.labels ≤ max_labels
  -- a branch has three bytes or more, so no more than max_branches patches are pending
  pub patches : 3 * e.patches ≤ e.size
  pub lines : e.lines ≤ max_lines
  pub constants : e.constants ≤ max_constants
  pub last : LastAt e.last e.size
  -- an instruction adds a byte and at most one value; folding a store adds a byte and passes the depth that it leaves by one
  pub depth : e.depth ≤ max_height + e.size
  pub deepest : e.deepest ≤ max_height + e.size + 1

-- what is lent is exactly as long as its limit, and what the pool's table says is so
pub record Ready (w : World) : Type 0 where
  pub fine : Fine w.e
  pub room : length w.code ≡ max_code
  pub slots : length w.book ≡ book_size
  pub held : Held w.pool

-- ---- what no state shows

-- counts never fall: bytes, labels, patches, line entries, constants
pub record Risen (a a' b b' c c' d d' k k' : ℕ) : Type 0 where
  pub size : a ≤ a'
  pub labels : b ≤ b'
  pub patches : c ≤ c'
  pub lines : d ≤ d'
  pub constants : k ≤ k'

abbrev pub Grown : Emitter → Emitter → Type 0
Grown e r = Risen e.size r.size e.labels r.labels e.patches r.patches e.lines r.lines e.constants r.constants

-- the rows of the book's tables past their counts
pub record Tails (r : Emitter) (book book' : List ℕ) : Type 0 where
  pub labels : (i : ℕ) → r.labels ≤ i → i < max_labels → row label_base label_size book' i ≡ row label_base label_size book i
  pub patches : (i : ℕ) → r.patches ≤ i → i < max_branches → row patch_base patch_size book' i ≡ row patch_base patch_size book i
  pub lines : (i : ℕ) → r.lines ≤ i → i < max_lines → row line_base entry_size book' i ≡ row line_base entry_size book i

-- what lies past the counts stays as it is; the pool is the one before, the new constants written into it and its table; and all of it stays, once there is a refusal
pub record Kept (w v : World) : Type 0 where
  pub grown : Grown w.e v.e
  pub code : drop v.e.size v.code ≡ drop v.e.size w.code
  pub book : Tails v.e w.book v.book
  pub pool : v.e.constants ≤ max_constants → length v.pool ≡ pool_size → v.pool ≡ entered_all (drop w.e.constants (take v.e.constants v.pool)) w.e.constants w.pool
  pub sticky : (w.e.refused ≡ None → ⊥) → v ≡ w

-- ---- what a method does, by what is lent to it: whatever is not lent stays as it is, whatever that is

-- nothing
pub record Bare (c : Call) (e r : Emitter) : Type 0 where
  pub fine : Fine r
  pub kept : (code book pool : List ℕ) → Kept (world e code book pool) (world r code book pool)
  pub did : (s : Sheet) (code book pool : List ℕ) → Did (call s c) (world e code book pool) (world r code book pool)

-- the book
pub record Booked (c : Call) (e : Emitter) (book : List ℕ) (r : Emitter) (book' : List ℕ) : Type 0 where
  pub fine : Fine r
  pub slots : length book' ≡ book_size
  pub kept : (code pool : List ℕ) → Kept (world e code book pool) (world r code book' pool)
  pub did : (s : Sheet) (code pool : List ℕ) → length code ≡ max_code → Did (call s c) (world e code book pool) (world r code book' pool)

-- the book, for a new label: its number, whatever height it is to be bound at
pub record Created (e : Emitter) (book : List ℕ) (r : Emitter) (book' : List ℕ) (l : ℕ) : Type 0 where
  pub fine : Fine r
  pub slots : length book' ≡ book_size
  pub label : l ≡ e.labels
  pub kept : (code pool : List ℕ) → Kept (world e code book pool) (world r code book' pool)
  pub did : (s : Sheet) (h : ℕ) (code pool : List ℕ) → Did (call s (create_label h)) (world e code book pool) (world r code book' pool)

-- the pool
pub record Pooled (c : Call) (e : Emitter) (pool : List ℕ) (r : Emitter) (pool' : List ℕ) : Type 0 where
  pub fine : Fine r
  pub held : Held pool'
  pub kept : (code book : List ℕ) → Kept (world e code book pool) (world r code book pool')
  pub did : (s : Sheet) (code book : List ℕ) → Did (call s c) (world e code book pool) (world r code book pool')

-- code and book, and the sheet that the step goes by
pub record Coded (f : Step) (e : Emitter) (code book : List ℕ) (r : Emitter) (code' book' : List ℕ) : Type 0 where
  pub fine : Fine r
  pub room : length code' ≡ max_code
  pub slots : length book' ≡ book_size
  pub kept : (pool : List ℕ) → Kept (world e code book pool) (world r code' book' pool)
  pub did : (pool : List ℕ) → Did f (world e code book pool) (world r code' book' pool)

-- code, book and pool
pub record Filled (f : Step) (w v : World) : Type 0 where
  pub ready : Ready v
  pub kept : Kept w v
  pub did : Did f w v

-- an emitter to begin with: empty, whatever the lists hold
pub record Begun (p : Pos) (r : Emitter) : Type 0 where
  pub fine : Fine r
  pub is : (code book pool : List ℕ) → view (world r code book pool) ≡ ok (emitter_at p)
