-- Reading a book: by what was read, and what an opened book shows.
use Rattle.std.proofs.Common.{◌≡◌, ℕ, ◌+◌, ◌-◌, ◌/◌, ◌%◌, ◌^◌, ◌<◌, ◌≤◌, Bool, true, false, cond, ◌&&◌, eqb, leb, List, [], ◌∷◌, sym, refl, ap, ◌∙◌, subst, arith, eq-eqb, eqb-true, le-leb, leb-true, Option, Result, Some, None, Ok, Err, unwrap_or}
use Rattle.word.specs.Memory.{memory, holds, read_of}
use Rattle.word.proofs.Memory.{read_word, read_outside, held}
use Rattle.word.specs.Runs.{is_among, among_of, among_zeros}
use Rattle.word.specs.Writes.{write, zeros}
use Rattle.word.proofs.Runs.{Run, InRun, spans_run, spans_ends, run_holds, among_is, one_among, word_among, outside_among}
use Rattle.word.proofs.Tests.{and_both}
use Rattle.pool.specs.declared.Space.{Space}
use Rattle.pool.specs.declared.Reason.{Reason}
use Rattle.pool.specs.Layout.{signature_at, pages_at, root_at, head_at, free_at, aside_at, tickets_at, book_pages}
use Rattle.pool.specs.Book.{word_of, signature, book_of, room_of, in_pool, adds_up_of, AddsUp, headed_of, rooted_in, names_of, names_in, opened_of, opened_in, counts_of, named_of, usable_of}
use Rattle.pool.specs.State.{word_in, word_now, book_now}
use Rattle.pool.specs.Stands.{stands_of, entry_writes, clear_writes}
use Rattle.pool.specs.Create.{may_create, new_space, Roomy}
use Rattle.pool.proofs.Far.{word_at_lem}
use Rattle.pool.specs.declared.Book.{Book}
use Rattle.pool.proofs.Counting.{InPool, pool_in, in_pool_lem, adds_up_is, is_sound}

module _ (s : List ℕ) (sp : Space) (k : ℕ) where
  pub named_word : (w : ℕ) → read_of s sp.origin (sp.first + k / 512) (k % 512) ≡ Some w → usable_of sp w ≡ named_of (holds s sp.origin) (memory s sp.origin) sp k
  unfolding named_of
  named_word w e =
      let r = read_word s sp.origin (sp.first + k / 512) (k % 512) (omega arith) w e in
      rw r.0 (ap (usable_of sp) (sym r.1 ∙ ap (memory s sp.origin) (word_at_lem sp.first k)))

  pub named_outside : read_of s sp.origin (sp.first + k / 512) (k % 512) ≡ None → None ≡ named_of (holds s sp.origin) (memory s sp.origin) sp k
  unfolding named_of
  named_outside e = rw (read_outside s sp.origin (sp.first + k / 512) (k % 512) (omega arith) e)

-- A POOL THAT FITS
pub record Fitting (h : ℕ → Bool) (first pages : ℕ) : Type 0 where
  pub small : pages ≤ 2 ^ 32
  pub enough : book_pages pages + 2 ≤ pages
  pub from : h first ≡ true
  pub upto : h (first + pages - 1) ≡ true

fit_yes : (b : Bool) (x : Result (Unit {0}) Reason) (r : Reason) → cond b x (Err r) ≡ Ok tt → (b ≡ true) × (x ≡ Ok tt)
fit_yes true x r e = (refl, e)
fit_yes false x r e = let z : ◌≡◌ {A = ℕ} 0 1 = cc in absurd (omega arith)

pub fitting : (h : ℕ → Bool) (first pages : ℕ) → room_of h first pages ≡ Ok tt → Fitting h first pages
unfolding room_of
fitting h first pages e =
    let a = fit_yes (leb pages (2 ^ 32)) _ _ e in
    let b = fit_yes (leb (book_pages pages + 2) pages) _ _ a.1 in
    let d = fit_yes (h first && h (first + pages - 1)) _ _ b.1 in
    let t = and_both _ _ d.0 in
    record { small = leb-true _ _ a.0; enough = leb-true _ _ b.0; from = t.0; upto = t.1 }

pub fit_small : (s : List ℕ) (origin first pages : ℕ) → Fitting (holds s origin) first pages → first + pages ≤ 2 ^ 40
fit_small s origin first pages f = omega (arith, (held s origin (first + pages - 1) f.upto).small, f.enough)

-- a new pool has room
pub may_fit : (len : ℕ) (h : ℕ → Bool) (origin first pages : ℕ) → may_create len h origin first pages ≡ Ok tt → Fitting h first pages
unfolding may_create
may_fit len h origin first pages e =
    let a = fit_yes (eqb (origin % 4096) 0) _ _ e in
    let b = fit_yes (eqb (len % 4096) 0) _ _ a.1 in
    fitting h first pages b.1

pub roomy : (s : List ℕ) (origin first pages : ℕ) → Fitting (holds s origin) first pages → Roomy (new_space origin first pages)
roomy s origin first pages f = record { small = f.small; enough = f.enough; low = omega (arith, fit_small s origin first pages f, f.enough) }

-- a pool that fits is a run of pages in the window, and every page of it lies there
pub fit_runs : (s : List ℕ) (origin first pages : ℕ) → Fitting (holds s origin) first pages → Run s origin first pages
fit_runs s origin first pages f = spans_run s origin first pages (spans_ends s origin first pages (omega (arith, f.enough)) ∙ rw (f.from, f.upto))

pub fit_inside : (s : List ℕ) (origin first pages : ℕ) → Fitting (holds s origin) first pages → (p : ℕ) → first ≤ p → p < first + pages → holds s origin p ≡ true
fit_inside s origin first pages f = run_holds s origin first pages (fit_runs s origin first pages f)

-- a word of the header, as the code reads it
head_among : (s : List ℕ) (sp : Space) (i : ℕ) → i < 512 → room_of (holds s sp.origin) sp.first sp.pages ≡ Ok tt
    → InRun s sp.origin sp.first sp.pages 0 sp.first i
head_among s sp i u e =
    let f = fitting (holds s sp.origin) sp.first sp.pages e in
    record { run = fit_runs s sp.origin sp.first sp.pages f; small = u; behind = omega arith; before_end = omega (arith, f.enough) }

-- word i of the header is w, in memory and for any bytes
pub record Got (s : List ℕ) (sp : Space) (i w : ℕ) : Type 0 where
  pub in_memory : room_of (holds s sp.origin) sp.first sp.pages ≡ Ok tt → w ≡ memory s sp.origin (word_of sp i)
  pub for_any_bytes : w ≡ word_now s sp i

module _ (s : List ℕ) (sp : Space) (i : ℕ) where
  pub head_is : (w : ℕ) → among_of s sp.origin sp.first 0 sp.pages sp.first i ≡ Some w → w ≡ memory s sp.origin (word_of sp i)
  head_is w e = sym (word_among s sp.origin sp.first sp.pages 0 sp.first i w e).1

  pub head_out : i < 512 → among_of s sp.origin sp.first 0 sp.pages sp.first i ≡ None
      → room_of (holds s sp.origin) sp.first sp.pages ≡ Ok tt → ⊥
  head_out u e f = outside_among s sp.origin sp.first sp.pages 0 sp.first i e (head_among s sp i u f)

  -- what is read, or 0
  pub get_is : i < 512 → (c : Option ℕ) (w : ℕ) → c ≡ among_of s sp.origin sp.first 0 sp.pages sp.first i → w ≡ unwrap_or c 0 → Got s sp i w
  unfolding word_now word_in
  get_is u (Some w) x e f = rw f (record { in_memory = λ g. head_is w (sym e); for_any_bytes = rw (sym e) })
  get_is u None x e f = record { in_memory = λ g. absurd (head_out u (sym e) g); for_any_bytes = rw (f, sym e) }

-- THE COUNTS AS THEY STAND are the book's, where the pool lies in the window.
pub now_is : (s : List ℕ) (sp : Space) → room_of (holds s sp.origin) sp.first sp.pages ≡ Ok tt → book_now s sp ≡ book_of (memory s sp.origin) sp
unfolding book_now word_now word_in head_at free_at aside_at tickets_at
now_is s sp f = rw (word 6 (omega arith), word 4 (omega arith), word 5 (omega arith), word 3 (omega arith))
  where
    word : (i : ℕ) → i < 512 → word_in (among_of s sp.origin sp.first 0 sp.pages sp.first i) ≡ memory s sp.origin (word_of sp i)
    word i u = go (among_of s sp.origin sp.first 0 sp.pages sp.first i) refl
      where
        go : (x : Option ℕ) → among_of s sp.origin sp.first 0 sp.pages sp.first i ≡ x → word_in x ≡ memory s sp.origin (word_of sp i)
        go (Some w) e = head_is s sp i w e
        go None e = absurd (head_out s sp i u e f)

-- A BOOK THAT NAMES A SPACE, for any bytes
pub record Names (h : ℕ → Bool) (m : ℕ → ℕ) (sp : Space) : Type 0 where
  pub fits : Fitting h sp.first sp.pages
  pub inside : InPool sp sp.root
  pub marked : m (word_of sp signature_at) ≡ signature
  pub sized : m (word_of sp pages_at) ≡ sp.pages
  pub rooted : m (word_of sp root_at) ≡ sp.root

room_yes : (h : ℕ → Bool) (m : ℕ → ℕ) (sp : Space) (r : Result (Unit {0}) Reason) → names_in m sp r ≡ Ok tt → r ≡ Ok tt
unfolding names_in
room_yes h m sp (Ok tt) e = refl
room_yes h m sp (Err r) e = let z : ◌≡◌ {A = ℕ} 0 1 = cc in absurd (omega arith)

root_yes : (sp : Space) (r : Result (Unit {0}) Reason) → rooted_in sp r ≡ Ok tt → (r ≡ Ok tt) × (in_pool sp sp.root ≡ true)
unfolding rooted_in
root_yes sp (Ok tt) e = (refl, (fit_yes (in_pool sp sp.root) _ _ e).0)
root_yes sp (Err r) e = let z : ◌≡◌ {A = ℕ} 0 1 = cc in absurd (omega arith)

module _ (h : ℕ → Bool) (m : ℕ → ℕ) (sp : Space) where
  -- there is room for it
  pub names_room : names_of h m sp ≡ Ok tt → room_of h sp.first sp.pages ≡ Ok tt
  unfolding names_of
  names_room e = room_yes h m sp (room_of h sp.first sp.pages) e

  pub names_shows : names_of h m sp ≡ Ok tt → Names h m sp
  unfolding names_of names_in headed_of
  names_shows e =
      let f = names_room e in
      let r = root_yes sp (headed_of m sp) (rw f at e) in
      let a = fit_yes (eqb (m (word_of sp signature_at)) signature) _ _ r.0 in
      let b = fit_yes (eqb (m (word_of sp pages_at)) sp.pages) _ _ a.1 in
      let d = fit_yes (eqb (m (word_of sp root_at)) sp.root) _ _ b.1 in
      record {
        fits = fitting h sp.first sp.pages f;
        inside = pool_in sp sp.root r.1;
        marked = eqb-true _ _ a.0;
        sized = eqb-true _ _ b.0;
        rooted = eqb-true _ _ d.0;
      }

  -- and so it names it
  pub names : Names h m sp → names_of h m sp ≡ Ok tt
  unfolding names_of names_in headed_of rooted_in room_of
  names k =
      simp (le-leb _ _ k.fits.small, le-leb _ _ k.fits.enough, k.fits.from, k.fits.upto, eq-eqb _ _ k.marked, eq-eqb _ _ k.sized, eq-eqb _ _ k.rooted, in_pool_lem sp sp.root k.inside)

  -- the space makes sense
  pub names_stands : names_of h m sp ≡ Ok tt → stands_of h sp ≡ Ok tt
  unfolding stands_of rooted_in
  names_stands e = rw (names_room e, in_pool_lem sp sp.root (names_shows e).inside)

-- A SPACE THAT MAKES SENSE lies in the window
module _ (s : List ℕ) (sp : Space) (e : stands_of (holds s sp.origin) sp ≡ Ok tt) where
  pub stands_fit : Fitting (holds s sp.origin) sp.first sp.pages
  unfolding stands_of
  stands_fit = fitting (holds s sp.origin) sp.first sp.pages (root_yes sp (room_of (holds s sp.origin) sp.first sp.pages) e).0

  -- an entry of a page of its pool is one of a run
  pub stands_among : (p i : ℕ) → in_pool sp p ≡ true → i < 512 → is_among s sp.origin sp.first (book_pages sp.pages) sp.pages p i ≡ true
  stands_among p i here u =
      let k = pool_in sp p here in
      among_is _ _ _ _ _ _ _ (record { run = fit_runs _ _ _ _ stands_fit; small = u; behind = k.behind; before_end = k.before_end })

  -- setting it is one write
  pub entry_one : (p i : ℕ) → in_pool sp p ≡ true → i < 512 → (w : ℕ) → entry_writes s sp p i w ≡ write p i w ∷ []
  unfolding entry_writes
  entry_one p i here u w = simp (le-leb _ _ stands_fit.small) (one_among _ _ _ _ _ _ _ w (stands_among p i here u))

  -- and clearing the page clears all of it
  pub clear_all : (p : ℕ) → in_pool sp p ≡ true → clear_writes s sp p ≡ zeros p 512
  unfolding clear_writes among_zeros
  clear_all p here = simp (le-leb _ _ stands_fit.small, stands_among p 0 here (omega arith))

-- WHAT AN OPENED BOOK SHOWS, for any bytes
pub record Open (h : ℕ → Bool) (m : ℕ → ℕ) (sp : Space) (b : Book) : Type 0 where
  pub names : Names h m sp
  pub sound : AddsUp sp.pages b
  pub read : book_of m sp ≡ b

open_yes : (t : Bool) (x : Result Book Reason) (r : Reason) (b : Book) → cond t x (Err r) ≡ Ok b → (t ≡ true) × (x ≡ Ok b)
open_yes true x r b e = (refl, e)
open_yes false x r b e = let z : ◌≡◌ {A = ℕ} 0 1 = cc in absurd (omega arith)

same_book : (b n : Book) → ◌≡◌ {A = Result Book Reason} (Ok b) (Ok n) → b ≡ n
same_book b n e = cc

pub open_shows : (h : ℕ → Bool) (m : ℕ → ℕ) (sp : Space) (b : Book) → opened_of h m sp ≡ Ok b → Open h m sp b
unfolding opened_of opened_in counts_of
open_shows h m sp b e = go (names_of h m sp) refl e
  where
    go : (r : Result (Unit {0}) Reason) → names_of h m sp ≡ r → opened_in m sp r ≡ Ok b → Open h m sp b
    go (Err r) f e = let z : ◌≡◌ {A = ℕ} 0 1 = cc in absurd (omega arith)
    go (Ok tt) f e =
        let k = open_yes (adds_up_of sp.pages (book_of m sp)) _ _ b e in
        let same = same_book (book_of m sp) b k.1 in
        record {
          names = names_shows h m sp f;
          sound = subst (λ (x : Book). AddsUp sp.pages x) same (adds_up_is sp.pages (book_of m sp) k.0);
          read = same;
        }

-- and so it is opened
pub opens : (h : ℕ → Bool) (m : ℕ → ℕ) (sp : Space) → Names h m sp → AddsUp sp.pages (book_of m sp) → opened_of h m sp ≡ Ok (book_of m sp)
unfolding opened_of opened_in counts_of
opens h m sp k s = simp (names h m sp k, is_sound sp.pages (book_of m sp) s)
