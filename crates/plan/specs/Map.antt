-- Map: the decision, a function of the memory and what is asked, and the writes of its plan.
use Rattle.std.specs.Prelude.{◌≡◌, ℕ, ◌+◌, ◌-◌, ◌*◌, ◌%◌, ◌<◌, ◌≤◌, Bool, true, false, cond, ◌&&◌, List, [], ◌∷◌, ◌++◌, ◌==◌, nat_le, nat_lt, Option, Result, Some, None, Ok, Err}
use Rattle.pool.specs.declared.Reason.{Reason as PoolReason}
use Rattle.word.specs.Memory.{page_count}
use Rattle.word.specs.Writes.{Write, write, zeros}
use Rattle.entry.specs.Entry.{frame_end}
use Rattle.entry.specs.Words.{table_word, made_page}
use Rattle.entry.specs.declared.Rights.{Rights}
use Rattle.walk.specs.Walk.{canonical, index_of}
use Rattle.pool.specs.Book.{names_of, opened_of, listed_of, in_pool}
use Rattle.pool.specs.Changes.{took_writes}
use Rattle.pool.specs.declared.Space.{Space}
use Rattle.pool.specs.declared.Book.{Book}
use Rattle.plan.specs.declared.Reason.{Reason}
use Rattle.plan.specs.declared.Reason.TheVariants.{Size, BaseUnaligned, FrameUnaligned, BaseRange, FrameRange, WriteExecute, Pool, FrameInPool, Overlap, NoRoom, Stray, BadList}
use Rattle.plan.specs.declared.descent.Way.{Way}
use Rattle.plan.specs.declared.descent.Why.{Why}
use Rattle.plan.specs.declared.descent.Why.TheVariants as why
use Rattle.plan.specs.declared.maps.Asked.{Asked}
use Rattle.plan.specs.declared.maps.NewTables.{NewTables}
use Rattle.plan.specs.declared.maps.Mapping.{Mapping}
use Rattle.plan.specs.declared.maps.Leaf.{Leaf}
use Rattle.plan.specs.declared.maps.Placing.{Placing}
use Rattle.plan.specs.declared.maps.Placing.TheVariants as placing
use Rattle.plan.specs.declared.building.TableReached.{TableReached}
use Rattle.plan.specs.Descend.{way_of}
use Rattle.plan.specs.Rights.{write_execute}

-- Sizes, alignment, range, rights --------------------------------------------------------------------------------------------------------

unfoldable pub fits_of : ℕ → ℕ → ℕ → ℕ → Result ℕ Reason
fits_of n size base frame =
    cond (base % size == 0)
    (cond (frame % size == 0)
    (cond (canonical base) (cond (nat_le frame (frame_end - size)) (Ok n) (Err FrameRange)) (Err BaseRange))
    (Err FrameUnaligned))
    (Err BaseUnaligned)

unfoldable pub shape_of : ℕ → ℕ → ℕ → Result ℕ Reason
shape_of size base frame =
    cond (size == 4096)
    (fits_of 0 4096 base frame)
    (cond (size == 2097152) (fits_of 1 2097152 base frame) (cond (size == 1073741824) (fits_of 2 1073741824 base frame) (Err Size)))

unfoldable pub strict_of : Rights → Result ℕ Reason → Result ℕ Reason
strict_of r (Ok n) = cond (write_execute r) (Err WriteExecute) (Ok n)
strict_of r (Err y) = Err y

-- size, alignment and range, and then the rights: all that is looked at before the pool
unfoldable pub allowed_of : Asked → Result ℕ Reason
allowed_of q = strict_of q.rights (shape_of q.size q.base q.frame)

-- what is asked ends where frames do, or below
abbrev pub Sized : Asked → Type 0
Sized q = q.frame + q.size ≤ frame_end

-- the frame and the pool share a byte
unfoldable pub meets_of : Space → ℕ → ℕ → Bool
meets_of sp frame size = nat_lt (sp.first * 4096) (frame + size) && nat_lt frame ((sp.first + sp.pages) * 4096)

-- Pages for the missing tables -----------------------------------------------------------------------------------------------------

abbrev pub no_book : Book
no_book = record { head = 0; free = 0; aside = 0; tickets = 0 }

unfoldable pub nth_of : (ℕ → Bool) → (ℕ → ℕ) → Space → Book → ℕ → ℕ → Option ℕ
nth_of h m sp b need j = cond (nat_le need j) (Some 0) (listed_of h m sp b j)

unfoldable pub fresh_three : Book → ℕ → Option ℕ → Option ℕ → Option ℕ → Result NewTables Reason
fresh_three b need (Some x) (Some y) (Some z) = Ok (record { need = need; a = x; b = y; c = z; book = b })
fresh_three b need None y z = Err BadList
fresh_three b need (Some x) None z = Err BadList
fresh_three b need (Some x) (Some y) None = Err BadList

unfoldable pub fresh_of : (ℕ → Bool) → (ℕ → ℕ) → Space → Book → ℕ → Result NewTables Reason
fresh_of h m sp b need = fresh_three b need (nth_of h m sp b need 0) (nth_of h m sp b need 1) (nth_of h m sp b need 2)

unfoldable pub stock_of : (ℕ → Bool) → (ℕ → ℕ) → Space → ℕ → Result Book PoolReason → Result NewTables Reason
stock_of h m sp need (Ok b) = cond (nat_lt b.free need) (Err NoRoom) (fresh_of h m sp b need)
stock_of h m sp need (Err r) = Err (Pool r)

-- page p is one of the tables that the way came through
unfoldable pub way_has : Way → ℕ → Bool
way_has w p =
    cond (p == w.a) true
    (cond (nat_le 3 w.level) false
    (cond (p == w.b) true (cond (nat_le 2 w.level) false (cond (p == w.c) true (cond (nat_le 1 w.level) false (p == w.d))))))

-- the pages that are needed differ, from each other and from the tables of the way: of a damaged book they need not
unfoldable pub apart_of : Way → NewTables → Bool
apart_of w f =
    cond (nat_le f.need 0) true
    (cond (way_has w f.a) false
    (cond (nat_le f.need 1) true
    (cond (f.a == f.b) false
    (cond (way_has w f.b) false
    (cond (nat_le f.need 2) true
    (cond (f.a == f.c) false (cond (f.b == f.c) false (cond (way_has w f.c) false true))))))))

unfoldable pub spared_of : Way → Result NewTables Reason → Result NewTables Reason
spared_of w (Ok f) = cond (apart_of w f) (Ok f) (Err BadList)
spared_of w (Err y) = Err y

abbrev pub none_of : Result NewTables Reason
none_of = Ok (record { need = 0; a = 0; b = 0; c = 0; book = no_book })

unfoldable pub supply_of : (ℕ → Bool) → (ℕ → ℕ) → Space → ℕ → Result NewTables Reason
supply_of h m sp need =
    cond (need == 0) none_of (stock_of h m sp need (opened_of h m sp))

-- The decision -----------------------------------------------------------------------------------------------------------------------

-- what is to be written, or why nothing is
pub data Placed : Type 0 where
  Go : Mapping → Placed
  Refused : Reason → Placed

unfoldable pub made_of : Asked → ℕ → ℕ → ℕ → NewTables → Option ℕ → Placed
made_of q target level table f None = Refused FrameRange
made_of q target level table f (Some w) = Go (record { base = q.base; target = target; level = level; table = table; word = w; fresh = f })

unfoldable pub place_of : Asked → ℕ → ℕ → ℕ → Result NewTables Reason → Placed
place_of q target level table (Err y) = Refused y
place_of q target level table (Ok f) = made_of q target level table f (made_page target q.frame q.rights)

unfoldable pub because_of : (ℕ → Bool) → (ℕ → ℕ) → Space → Asked → ℕ → Way → Why → Placed
because_of h m sp q target w why.Nothing = place_of q target w.level w.a (spared_of w (supply_of h m sp (w.level - target)))
because_of h m sp q target w why.Page = Refused Overlap
because_of h m sp q target w why.Table = Refused Overlap
because_of h m sp q target w why.Stray = Refused Stray

unfoldable pub stopped_of : (ℕ → Bool) → (ℕ → ℕ) → Space → Asked → ℕ → Way → Placed
stopped_of h m sp q target w = because_of h m sp q target w w.why

unfoldable pub fitting_of : (ℕ → Bool) → (ℕ → ℕ) → Space → Asked → ℕ → Result (Unit {0}) PoolReason → Placed
fitting_of h m sp q target (Ok tt) =
    cond (meets_of sp q.frame q.size) (Refused FrameInPool) (stopped_of h m sp q target (way_of h m sp q.base target))
fitting_of h m sp q target (Err r) = Refused (Pool r)

unfoldable pub standing_of : (ℕ → Bool) → (ℕ → ℕ) → Space → Asked → ℕ → Placed
standing_of h m sp q target = fitting_of h m sp q target (names_of h m sp)

unfoldable pub shaped_of : (ℕ → Bool) → (ℕ → ℕ) → Space → Asked → Result ℕ Reason → Placed
shaped_of h m sp q (Ok n) = standing_of h m sp q n
shaped_of h m sp q (Err r) = Refused r

-- WHAT MAP DECIDES: size, alignment, range, rights, the pool, overlap, room, in this order
unfoldable pub decide_of : (ℕ → Bool) → (ℕ → ℕ) → Space → Asked → Placed
decide_of h m sp q = shaped_of h m sp q (allowed_of q)

-- What is built ------------------------------------------------------------------------------------------------------------------------

-- pages whose numbers have 40 bits
pub record LowTables (f : NewTables) : Type 0 where
  pub a : f.a < page_count
  pub b : f.b < page_count
  pub c : f.c < page_count

-- what is built: at a level, of such pages, that are the pool's, as many as there are levels down to the target
pub record Buildable (sp : Space) (p : Mapping) : Type 0 where
  pub level : p.level < 4
  pub fresh : LowTables p.fresh
  pub table : in_pool sp p.table ≡ true
  pub a : p.target < p.level → in_pool sp p.fresh.a ≡ true
  pub b : p.target + 1 < p.level → in_pool sp p.fresh.b ≡ true
  pub c : p.target + 2 < p.level → in_pool sp p.fresh.c ≡ true

-- The plan ---------------------------------------------------------------------------------------------------------------------------

unfoldable pub link_of : ℕ → ℕ
link_of p = cond (nat_lt p page_count) (table_word p) 0

unfoldable pub next_of : ℕ → ℕ → TableReached → TableReached
next_of target p s = cond (nat_le s.level target) s (record { level = s.level - 1; table = p })

-- above the target page p is cleared, and then linked
unfoldable pub grow_of : ℕ → ℕ → ℕ → TableReached → List Write
grow_of va target p s = cond (nat_le s.level target) [] (zeros p 512 ++ (write s.table (index_of s.level va) (link_of p) ∷ []))

abbrev pub reached0 : Mapping → TableReached
reached0 p = record { level = p.level; table = p.table }

abbrev pub reached1 : Mapping → TableReached
reached1 p = next_of p.target p.fresh.a (reached0 p)

abbrev pub reached2 : Mapping → TableReached
reached2 p = next_of p.target p.fresh.b (reached1 p)

abbrev pub reached3 : Mapping → TableReached
reached3 p = next_of p.target p.fresh.c (reached2 p)

-- the new tables from the top down; then the page's own entry
unfoldable pub build_of : Mapping → List Write
build_of p =
    grow_of p.base p.target p.fresh.a (reached0 p)
    ++ (grow_of p.base p.target p.fresh.b (reached1 p)
    ++ (grow_of p.base p.target p.fresh.c (reached2 p)
    ++ (write (reached3 p).table (index_of (reached3 p).level p.base) p.word ∷ [])))

-- WHAT MAP WRITES: the tables, the page, and in the book that pages were taken
unfoldable pub writes_of : Space → Mapping → List Write
writes_of sp p = build_of p ++ cond (nat_lt 0 p.fresh.need) (took_writes sp p.fresh.book p.fresh.need) []

-- a refusal writes nothing
unfoldable pub did_of : Space → Placed → List Write
did_of sp (Go p) = writes_of sp p
did_of sp (Refused r) = []

-- what is answered: how many tables were made
unfoldable pub making_of : Placed → Result ℕ Reason
making_of (Go p) = Ok p.fresh.need
making_of (Refused r) = Err r

-- The same as the code hands it on: where no table is missing, the one entry and its word ------------------------------------------

abbrev pub leaf_of : Mapping → Leaf
leaf_of p = record { table = p.table; index = index_of p.level p.base; word = p.word }

unfoldable pub placing_of : Placed → Result Placing Reason
placing_of (Go p) = cond (nat_le p.level p.target && p.fresh.need == 0) (Ok (placing.Here (leaf_of p))) (Ok (placing.Built p))
placing_of (Refused r) = Err r

abbrev pub leaf_writes : Leaf → List Write
leaf_writes c = write c.table c.index c.word ∷ []
