-- ONE BOOK IN A POOL: no other page of it begins with a signature, and no write of a word that is none makes one.
use Rattle.std.proofs.Common.{◌≡◌, ℕ, zero, suc, ◌+◌, ◌<◌, Bool, true, false, cond, ◌&&◌, leb, ◌≢◌, List, [], ◌∷◌, ◌++◌, sym, refl, ◌∙◌, arith, leb-true}
use native.Mathlib.Decide.{ℕ_discrete}
use Rattle.word.specs.Memory.{at, set}
use Rattle.word.specs.Writes.{Write, write, after, zeros}
use Rattle.word.proofs.Set.{set_at, set_other}
use Rattle.word.proofs.Tests.{and_both}
use Rattle.pool.specs.declared.Space.{Space}
use Rattle.pool.specs.declared.Book.{Book}
use Rattle.pool.specs.Layout.{signature_at}
use Rattle.pool.specs.Book.{signature, adds_up_of}
use Rattle.pool.specs.Booked.{Alone}
use Rattle.pool.specs.Changes.{took_writes, aside_writes, release_writes}
use Rattle.pool.proofs.Counting.{adds_up_is, slot_in}

-- no write of the list is of the signature
pub data Unmarking : List Write → Type 0 where
  none : Unmarking []
  more : {x : Write} {xs : List Write} → x.word ≢ signature → Unmarking xs → Unmarking (x ∷ xs)

pub unmarking_one : (p i w : ℕ) → w ≢ signature → Unmarking (write p i w ∷ [])
unmarking_one p i w d = more d none

pub unmarking_append : (a b : List Write) → Unmarking a → Unmarking b → Unmarking (a ++ b)
unmarking_append [] b none k = k
unmarking_append (x ∷ a) b (more d h) k = more d (unmarking_append a b h k)

pub unmarking_zeros : (p n : ℕ) → Unmarking (zeros p n)
unfolding zeros
unmarking_zeros p zero = none
unmarking_zeros p (suc n) = unmarking_append (zeros p n) _ (unmarking_zeros p n) (unmarking_one p n 0 (λ e. omega arith))

pub unmarking_if : (t : Bool) (xs : List Write) → (t ≡ true → Unmarking xs) → Unmarking (cond t xs [])
unmarking_if true xs h = h refl
unmarking_if false xs h = none

-- SUCH WRITES LEAVE ONE BOOK
pub alone_after : (sp : Space) (m : ℕ → ℕ) (xs : List Write) → Unmarking xs → Alone sp m → Alone sp (after m xs)
unfolding after
alone_after sp m [] none k = k
alone_after sp m (x ∷ xs) (more d h) k = alone_after sp (set m (at x.page x.index) x.word) xs h (λ p u v. go p u v (ℕ_discrete (at x.page x.index) (at p signature_at)))
  where
    go : (p : ℕ) → sp.first < p → p < sp.first + sp.pages → Dec (at x.page x.index ≡ at p signature_at) → set m (at x.page x.index) x.word (at p signature_at) ≢ signature
    go p u v (yes e) f = d (sym (set_at m (at x.page x.index) x.word (at p signature_at) e) ∙ f)
    go p u v (no n) f = k p u v (sym (set_other m (at x.page x.index) x.word (at p signature_at) n) ∙ f)

-- Changes of the book, whatever it counts ------------------------------------------------------------------------------------------

pub took_unmarking : (sp : Space) (b : Book) (k : ℕ) → Unmarking (took_writes sp b k)
unfolding took_writes
took_unmarking sp b k = unmarking_if (leb k b.free && adds_up_of sp.pages b) _ (λ e.
    let t = and_both (leb k b.free) (adds_up_of sp.pages b) e in
    let u = leb-true k b.free t.0 in
    let s = adds_up_is sp.pages b t.1 in
    more (λ x. omega (arith, x, s.small, slot_in sp.pages b.head k s.head_in (omega (arith, u, s.room))))
    (more (λ x. omega (arith, x, s.small, s.room)) none))

pub aside_unmarking : (sp : Space) (b : Book) (p : ℕ) → p ≢ signature → Unmarking (aside_writes sp b p)
unfolding aside_writes
aside_unmarking sp b p d = unmarking_if (adds_up_of sp.pages b) _ (λ e. let s = adds_up_is sp.pages b e in more d (more (λ x. omega (arith, x, s.small, s.room)) none))

pub release_unmarking : (sp : Space) (b : Book) (k : ℕ) → Unmarking (release_writes sp b k)
unfolding release_writes
release_unmarking sp b k = unmarking_if (leb k b.aside && adds_up_of sp.pages b) _ (λ e.
    let t = and_both (leb k b.aside) (adds_up_of sp.pages b) e in
    let u = leb-true k b.aside t.0 in
    let s = adds_up_is sp.pages b t.1 in
    more (λ x. omega (arith, x, u, s.small, s.room))
    (more (λ x. omega (arith, x, s.small, s.room)) (more (λ x. omega (arith, x, u, s.small, s.room, s.early)) none)))
