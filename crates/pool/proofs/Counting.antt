-- What sound counts are, as numbers; and the ring.
use Rattle.std.proofs.Common.{◌≡◌, ℕ, ◌+◌, ◌-◌, ◌^◌, ◌<◌, ◌≤◌, Bool, true, false, leb, sym, refl, ◌∙◌, arith, ltb-true, le-ltb, lt-ltb, le-leb, leb-true}
use native.Mathlib.Decide.{dec_lt}
use Rattle.word.proofs.Tests.{and_both}
use Rattle.pool.specs.declared.Book.{Book}
use Rattle.pool.specs.declared.Space.{Space}
use Rattle.pool.specs.Layout.{book_pages}
use Rattle.pool.specs.Book.{in_pool, adds_up_of, AddsUp, slot_of}

pub adds_up_is : (pages : ℕ) (b : Book) → adds_up_of pages b ≡ true → AddsUp pages b
unfolding adds_up_of
adds_up_is pages b h =
    let k = and_both _ _ h in
    let a = and_both _ _ k.0 in
    let e = and_both _ _ k.1 in
    record { small = leb-true _ _ a.0; head_in = ltb-true _ _ a.1; room = leb-true _ _ e.0; early = leb-true _ _ e.1 }

pub is_sound : (pages : ℕ) (b : Book) → AddsUp pages b → adds_up_of pages b ≡ true
unfolding adds_up_of
is_sound pages b h = simp (le-leb _ _ h.small, lt-ltb _ _ h.head_in, le-leb _ _ h.room, le-leb _ _ h.early)

pub unsound : (pages : ℕ) (b : Book) → (AddsUp pages b → ⊥) → adds_up_of pages b ≡ false
unsound pages b n = go (adds_up_of pages b) refl
  where
    go : (t : Bool) → adds_up_of pages b ≡ t → t ≡ false
    go true e = absurd (n (adds_up_is pages b e))
    go false e = refl

-- the last of the tests
pub sound_last : (pages : ℕ) (b : Book) → pages ≤ 2 ^ 32 → b.head < pages → b.free + b.aside + book_pages pages + 1 ≤ pages → leb b.tickets (2 ^ 62) ≡ adds_up_of pages b
unfolding adds_up_of
sound_last pages b u v w = simp (le-leb _ _ u, lt-ltb _ _ v, le-leb _ _ w)

-- A page of the pool, behind its book
pub record InPool (sp : Space) (p : ℕ) : Type 0 where
  pub behind : sp.first + book_pages sp.pages ≤ p
  pub before_end : p < sp.first + sp.pages

pub pool_in : (sp : Space) (p : ℕ) → in_pool sp p ≡ true → InPool sp p
unfolding in_pool
pool_in sp p h = let a = and_both _ _ h in record { behind = leb-true _ _ a.0; before_end = ltb-true _ _ a.1 }

pub in_pool_lem : (sp : Space) (p : ℕ) → InPool sp p → in_pool sp p ≡ true
unfolding in_pool
in_pool_lem sp p h = simp (le-leb _ _ h.behind, lt-ltb _ _ h.before_end)

pub not_in_pool : (sp : Space) (p : ℕ) → (InPool sp p → ⊥) → in_pool sp p ≡ false
not_in_pool sp p n = go (in_pool sp p) refl
  where
    go : (t : Bool) → in_pool sp p ≡ t → t ≡ false
    go true e = absurd (n (pool_in sp p e))
    go false e = refl

-- The ring ---------------------------------------------------------------------------------------------------------------------

pub slot_ahead : (pages head k : ℕ) → k < pages - head → slot_of pages head k ≡ head + k
unfolding slot_of
slot_ahead pages head k h = simp (lt-ltb k (pages - head) h)

pub slot_around : (pages head k : ℕ) → pages - head ≤ k → slot_of pages head k ≡ k - (pages - head)
unfolding slot_of
slot_around pages head k h = simp (le-ltb k (pages - head) h)

-- a slot of the ring
pub slot_in : (pages head k : ℕ) → head < pages → k < pages → slot_of pages head k < pages
slot_in pages head k h u = go (dec_lt k (pages - head))
  where
    go : Dec (k < pages - head) → slot_of pages head k < pages
    go (yes d) = rw (slot_ahead pages head k d) (omega arith)
    go (no d) = rw (slot_around pages head k (omega arith)) (omega arith)

-- positions are counted from any slot
pub slot_more : (pages head k j : ℕ) → head < pages → k + j < pages → slot_of pages (slot_of pages head k) j ≡ slot_of pages head (k + j)
slot_more pages head k j h u = go (dec_lt k (pages - head))
  where
    go : Dec (k < pages - head) → slot_of pages (slot_of pages head k) j ≡ slot_of pages head (k + j)
    go (yes d) = rw (slot_ahead pages head k d) (ahead (dec_lt j (pages - (head + k))))
      where
        ahead : Dec (j < pages - (head + k)) → slot_of pages (head + k) j ≡ slot_of pages head (k + j)
        ahead (yes e) = slot_ahead pages (head + k) j e ∙ omega arith ∙ sym (slot_ahead pages head (k + j) (omega arith))
        ahead (no e) = slot_around pages (head + k) j (omega arith) ∙ omega arith ∙ sym (slot_around pages head (k + j) (omega arith))
    go (no d) =
        rw (slot_around pages head k (omega arith))
        (slot_ahead pages (k - (pages - head)) j (omega arith) ∙ omega arith ∙ sym (slot_around pages head (k + j) (omega arith)))

-- two positions of the ring are two slots
pub slot_apart : (pages head j k : ℕ) → head < pages → j < pages → k < pages → slot_of pages head j ≡ slot_of pages head k → j ≡ k
slot_apart pages head j k h u v e = go (dec_lt j (pages - head)) (dec_lt k (pages - head))
  where
    go : Dec (j < pages - head) → Dec (k < pages - head) → j ≡ k
    go (yes a) (yes b) = omega (arith, e, slot_ahead pages head j a, slot_ahead pages head k b)
    go (yes a) (no b) = omega (arith, e, slot_ahead pages head j a, slot_around pages head k (omega arith))
    go (no a) (yes b) = omega (arith, e, slot_around pages head j (omega arith), slot_ahead pages head k b)
    go (no a) (no b) = omega (arith, e, slot_around pages head j (omega arith), slot_around pages head k (omega arith))
