-- The way in tables that we built: it stops where the walk of the address comes to, through the tables that name each other.
use Prim.Native.Nat.{ℕ, zero, suc, ◌+◌, ◌^◌, ◌<◌, ◌≤◌}
use mathlib.Core.Bool.{Bool, true, cond}
use mathlib.Core.Logic.{◌⊎◌, inl, inr, ◌≢◌}
use mathlib.Core.Path.{◌≡◌, refl, ap, ◌∙◌, subst}
use native.Mathlib.Decide.{dec_lt, ℕ_discrete}
use native.Mathlib.Omega.{arith}
use borrow.Author.Tests.{eq-eqb, ne_eqb}
use lib.Dec.{eqb}
use Rattle.entry.specs.Entry.{says, everything}
use Rattle.entry.specs.declared.Rights.{Rights}
use Rattle.entry.specs.declared.Entry.{Entry}
use Rattle.entry.specs.declared.Entry.TheVariants as entry
use Rattle.entry.proofs.Fields.{last_no_table}
use Rattle.walk.specs.Walk.{canonical, index_of, entry_of}
use Rattle.tables.specs.Roles.{Setting, Role, book, left, entry_at, Built}
use Rattle.tables.specs.Way.{Comes, onto}
use Rattle.tables.proofs.Way.{comes_left, onto_role}
use Rattle.tables.proofs.Meaning.{comes_root}
use Rattle.pool.specs.Layout.{book_pages}
use Rattle.pool.specs.Book.{in_pool}
use Rattle.pool.specs.Booked.{setting_of, Booked}
use Rattle.pool.specs.declared.Space.{Space}
use Rattle.pool.proofs.Counting.{in_pool_lem}
use Rattle.pool.proofs.Pages.{root_page}
use Rattle.plan.specs.declared.descent.Way.{Way}
use Rattle.plan.specs.declared.descent.Why.{Why}
use Rattle.plan.specs.declared.descent.Why.TheVariants as why
use Rattle.plan.proofs.Ways.{down_stopped}
use Rattle.plan.specs.Descend.{Going, push_of, stop_of, at_entry_of, arrive_of, step_down_of, down_of, end_of, no_way, way_of}

-- entry i of level l of page q names the table t, and the walk of va comes to q
pub record NamesTable (σ : Setting) (m : ℕ → ℕ) (va l q t : ℕ) : Type 0 where
  pub comes : Comes σ m va (suc l) q
  pub names : entry_at m l q (index_of l va) ≡ entry.Table t everything

-- why the way stopped: at the target or above, or, where there is no target, at the end
pub data Because (m : ℕ → ℕ) (target : ℕ) (w : Way) : Type 0 where
  at_nothing : w.why ≡ why.Nothing → (target ≤ w.level) ⊎ (4 ≤ target) → says w.level w.word ≡ entry.Nothing → Because m target w
  at_page : (f : ℕ) (g : Rights) → w.why ≡ why.Page → (target ≤ w.level) ⊎ (4 ≤ target) → says w.level w.word ≡ entry.Page f g → Because m target w
  at_table : (t : ℕ) (g : Rights) → w.why ≡ why.Table → w.level ≡ target → says w.level w.word ≡ entry.Table t g → Because m target w

-- WHAT A WAY IS, in tables that we built
pub record Traced (σ : Setting) (m : ℕ → ℕ) (va target : ℕ) (w : Way) : Type 0 where
  pub low : w.level < 4
  pub comes : Comes σ m va (suc w.level) w.a
  pub word : w.word ≡ m (entry_of w.level va w.a)
  pub because : Because m target w
  pub second : w.level < 3 → NamesTable σ m va (suc w.level) w.b w.a
  pub third : w.level < 2 → NamesTable σ m va (suc (suc w.level)) w.c w.b
  pub fourth : w.level < 1 → NamesTable σ m va (suc (suc (suc w.level))) w.d w.c

-- the tables above the table t, at which n levels are left
record Above (σ : Setting) (m : ℕ → ℕ) (va n t : ℕ) (w : Way) : Type 0 where
  one : n < 4 → NamesTable σ m va n w.a t
  two : n < 3 → NamesTable σ m va (suc n) w.b w.a
  three : n < 2 → NamesTable σ m va (suc (suc n)) w.c w.b

module _ {h : ℕ → Bool} {sp : Space} {m : ℕ → ℕ} {role : ℕ → Role} (b : Built (setting_of h sp) m role) (k : Booked sp m role) where
  behind_book : (q : ℕ) → sp.first ≤ q → role q ≢ book → sp.first + book_pages sp.pages ≤ q
  behind_book q u n = elim (dec_lt q (sp.first + book_pages sp.pages)) [ yes v ↦ absurd (n (k.in_book q u v)) | no v ↦ omega arith ]

  -- a table is a page of the pool behind the book, and lies in the window
  pub live_in_pool : {q l : ℕ} → left (role q) ≡ suc l → (in_pool sp q ≡ true) × (h q ≡ true)
  live_in_pool {q} {l} e =
      let home = b.home q (λ z. omega (arith, e, ap left z)) in (
        in_pool_lem sp q (record { behind = behind_book q home.from (λ z. omega (arith, e, ap left z)); before_end = home.upto }),
        home.held,
      )

  module _ (va target : ℕ) where
    abbrev Target : ℕ → Type 0
    Target n = (target ≤ n) ⊎ (4 ≤ target)

    -- the way stops at the table t, of level n
    stopped : (n t : ℕ) (w : Way) (y : Why) → n < 4 → Comes (setting_of h sp) m va (suc n) t → Above (setting_of h sp) m va (suc n) t w
        → ((x : Way) → x ≡ record { why = y; level = n; word = m (entry_of n va t); a = t; b = w.a; c = w.b; d = w.c } → Because m target x)
        → Traced (setting_of h sp) m va target (end_of (stop_of y n (m (entry_of n va t)) (push_of w t)))
    unfolding end_of stop_of push_of
    stopped n t w y u c o r = record {
      low = u;
      comes = c;
      word = refl;
      because = r _ refl;
      second = λ v. o.one (omega arith);
      third = λ v. o.two (omega arith);
      fourth = λ v. o.three (omega arith);
    }

    -- by what the entry says; where it is a table on the way, by what follows
    told_traced : (n t : ℕ) (w : Way) → n < 4 → Comes (setting_of h sp) m va (suc n) t → Above (setting_of h sp) m va (suc n) t w → Target n
        → (x : Entry) → says n (m (entry_of n va t)) ≡ x
        → ((s : ℕ) (r : Rights) → says n (m (entry_of n va t)) ≡ entry.Table s r → n ≢ target
        → Traced (setting_of h sp) m va target (end_of (down_of h m sp target va n (Going s (push_of w t)))))
        → Traced (setting_of h sp) m va target (end_of (down_of h m sp target va n (at_entry_of target n (m (entry_of n va t)) (push_of w t) x)))
    unfolding at_entry_of stop_of
    told_traced n t w u c o g entry.Nothing e next =
        rw (down_stopped h m sp target va n _) (stopped n t w why.Nothing u c o (λ x s. rw s (at_nothing refl g e)))
    told_traced n t w u c o g (entry.Page f r) e next =
        rw (down_stopped h m sp target va n _) (stopped n t w why.Page u c o (λ x s. rw s (at_page f r refl g e)))
    told_traced n t w u c o g (entry.Table s r) e next = go (ℕ_discrete n target)
      where
        go : Dec (n ≡ target)
            → Traced (setting_of h sp) m va target (end_of (down_of h m sp target va n (cond (eqb n target) (stop_of why.Table n (m (entry_of n va t)) (push_of w t)) (Going s (push_of w t)))))
        go (yes d) =
            rw (eq-eqb n target d, down_stopped h m sp target va n _) (stopped n t w why.Table u c o (λ x q. rw q (at_table s r refl d e)))
        go (no d) = rw (ne_eqb n target d) (next s r e d)

    -- one table more above
    pushed : (n t s : ℕ) (w : Way) (r : Rights) → Comes (setting_of h sp) m va (suc n) t → Above (setting_of h sp) m va (suc n) t w
        → says n (m (entry_of n va t)) ≡ entry.Table s r → Above (setting_of h sp) m va n s (push_of w t)
    unfolding push_of
    pushed n t s w r c o e = record {
      one = λ u. record { comes = c; names = e ∙ ap (entry.Table s) (onto_role b c e).1 };
      two = λ u. o.one (omega arith);
      three = λ u. o.two (omega arith);
    }

    further : (n : ℕ) → n ≢ target → Target n → (l : ℕ) → n ≡ suc l → Target l
    further n d (inl u) l e = inl (omega arith)
    further n d (inr u) l e = inr u

    trace_from : (n t : ℕ) (w : Way) → n < 4 → Comes (setting_of h sp) m va (suc n) t → Above (setting_of h sp) m va (suc n) t w → Target n
        → Traced (setting_of h sp) m va target (end_of (down_of h m sp target va (suc n) (Going t w)))
    unfolding down_of step_down_of arrive_of
    trace_from zero t w u c o g =
        rw ((live_in_pool (comes_left b c)).0, (live_in_pool (comes_left b c)).1)
        (told_traced 0 t w u c o g (says 0 (m (entry_of 0 va t))) refl (λ s r e d. absurd (last_no_table _ s r e)))
    trace_from (suc l) t w u c o g =
        rw ((live_in_pool (comes_left b c)).0, (live_in_pool (comes_left b c)).1)
        (told_traced (suc l) t w u c o g (says (suc l) (m (entry_of (suc l) va t))) refl
        (λ s r e d. trace_from l s (push_of w t) (omega arith) (onto t r c e) (pushed (suc l) t s w r c o e) (further (suc l) d g l refl)))

    -- THE WAY IN TABLES THAT WE BUILT
    pub traced : canonical va ≡ true → sp.root < 2 ^ 40 → (target ≤ 3) ⊎ (4 ≤ target) → Traced (setting_of h sp) m va target (way_of h m sp va target)
    unfolding way_of
    traced u v g =
        trace_from 3 sp.root no_way (omega arith) (subst (Comes (setting_of h sp) m va 4) (root_page sp.root v) (comes_root u))
        (record { one = λ x. absurd (omega arith); two = λ x. absurd (omega arith); three = λ x. absurd (omega arith) }) g
