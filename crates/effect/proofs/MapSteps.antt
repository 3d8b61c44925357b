-- Map's tables, one step at a time: where one is missing, the next free page is cleared and linked; the page's own entry comes last.
use Prim.Native.Nat.{ℕ, zero, suc, ◌+◌, ◌-◌, ◌^◌, ◌<◌, ◌≤◌}
use mathlib.Core.Bool.{Bool, cond}
use mathlib.Core.List.{List, [], ◌∷◌, ◌++◌, append-nil}
use mathlib.Core.Logic.{◌≢◌}
use mathlib.Core.Path.{◌≡◌, refl, ap, subst}
use native.Mathlib.Decide.{dec_le}
use native.Mathlib.Omega.{arith}
use borrow.Author.Tests.{lt-ltb, le-leb, lt-leb}
use lib.Dec.{leb}
use Rattle.word.specs.Memory.{at, set}
use Rattle.word.specs.Writes.{Write, write, after, zeros, Every, none}
use Rattle.word.proofs.Writes.{every_one, every_append, every_zeros}
use Rattle.entry.specs.Words.{table_word}
use Rattle.entry.specs.declared.Entry.TheVariants.{Nothing}
use Rattle.entry.proofs.Written.{table_word_says}
use Rattle.walk.specs.Walk.{index_of}
use Rattle.walk.proofs.Digits.{index_lt}
use Rattle.tables.specs.Roles.{Role, free, table, left, entry_at, Home}
use Rattle.tables.proofs.Way.{comes_left}
use Rattle.tables.proofs.Kept.{zero_bare}
use Rattle.tables.specs.Down.{Down}
use Rattle.tables.proofs.Down.{down_make, made_zero}
use Rattle.pool.specs.Layout.{book_pages}
use Rattle.pool.specs.Book.{book_of, page_at}
use Rattle.pool.specs.Booked.{setting_of, Taken}
use Rattle.pool.specs.declared.Space.{Space}
use Rattle.pool.proofs.Counting.{pool_in}
use Rattle.pool.proofs.Lists.{taken_none, taken_more}
use Rattle.pool.proofs.Listing.{free_usable}
use Rattle.pool.proofs.Taking.{next_free}
use Rattle.plan.specs.declared.building.TableReached.{TableReached}
use Rattle.plan.specs.Map.{link_of, next_of, grow_of}
use Rattle.effect.specs.Whole.{Whole}
use Rattle.effect.proofs.Wholes.{owned}
use Rattle.effect.proofs.Trace.{live_in_pool}

-- the link of a page of the pool names it
link_is : (p : ℕ) → p < 2 ^ 40 → link_of p ≡ table_word p
unfolding link_of
link_is p u = rw (lt-ltb p (2 ^ 40) u)

table_word_small : (p : ℕ) → p < 2 ^ 40 → table_word p < 2 ^ 64
unfolding table_word
table_word_small p u = omega arith

-- a page that may be a table: of the pool, in the window, behind the book
pub record MayBeTable (h : ℕ → Bool) (sp : Space) (p : ℕ) : Type 0 where
  pub home : Home (setting_of h sp) p
  pub behind : sp.first + book_pages sp.pages ≤ p

-- THE TABLES SO FAR. xs was written; the way has come to s, where nothing is, at most so many levels above the target; as many of the
-- oldest free pages are tables as levels were passed.
pub record Grown (h : ℕ → Bool) (sp : Space) (m : ℕ → ℕ) (role : ℕ → Role) (va target level more : ℕ) (xs : List Write) (s : TableReached) : Type 0 where
  pub now : ℕ → ℕ
  pub roles : ℕ → Role
  pub down : Down (setting_of h sp) m role va xs now roles (suc s.level) s.table
  pub nothing : entry_at now s.level s.table (index_of s.level va) ≡ Nothing
  pub taken : Taken (page_at m sp) (level - s.level) role roles
  pub place : MayBeTable h sp s.table
  pub places : Every (MayBeTable h sp) xs
  pub below : s.level ≤ level
  pub above : target ≤ s.level
  pub near : s.level ≤ target + more

module _ {h : ℕ → Bool} {sp : Space} {m : ℕ → ℕ} {role : ℕ → Role} (w : Whole h sp m role) (va target level : ℕ) where
  abbrev Grows : ℕ → List Write → TableReached → Type 0
  Grows = Grown h sp m role va target level

  -- a page that is free in the book's roles
  free_place : (p : ℕ) → role p ≡ free → MayBeTable h sp p
  free_place p e = record {
    home = w.sound.built.home p (λ x. let z : ◌≡◌ {A = ℕ} 0 1 = cc in omega arith);
    behind = (free_usable w.booked (owned w) p e).in_the_pool.behind;
  }

  pub grown_start : (t : ℕ) → target ≤ level → level ≤ target + 3 → Down (setting_of h sp) m role va [] m role (suc level) t
      → entry_at m level t (index_of level va) ≡ Nothing → Grows 3 [] (record { level = level; table = t })
  grown_start t u v d n =
      let live : left (role t) ≡ suc level = comes_left d.built d.comes in
      let i = live_in_pool d.built w.booked live in
      record {
        now = m;
        roles = role;
        down = d;
        nothing = n;
        taken = subst (λ k. Taken (page_at m sp) k role role) (let z : 0 ≡ level - level = omega arith in z) (taken_none (page_at m sp) role);
        place = record { home = d.built.home t (λ x. omega (arith, live, ap left x)); behind = (pool_in sp t i.0).behind };
        places = none;
        below = omega arith;
        above = u;
        near = v;
      }

  -- the next free page becomes the table at the next level
  made : (more l t p : ℕ) (xs : List Write) → (g : Grows (suc more) xs (record { level = suc l; table = t })) → target < suc l
      → p ≡ page_at m sp (level - suc l) → level - suc l < (book_of m sp).free
      → Grows more (xs ++ (zeros p 512 ++ (write t (index_of (suc l) va) (link_of p) ∷ []))) (record { level = l; table = p })
  made more l t p xs g u e v = record {
    now = set (after g.now (zeros p 512)) (at t (index_of (suc l) va)) (link_of p);
    roles = set g.roles p (table (suc l) t (index_of (suc l) va));
    down = down_make (link_of p) p g.down g.nothing (rw (link_is p small) (table_word_says (suc l) p (λ z. omega arith) small)) new;
    nothing = zero_bare (set (after g.now (zeros p 512)) (at t (index_of (suc l) va)) (link_of p)) (suc l) p
        (made_zero g.now t (index_of (suc l) va) (link_of p) p (index_lt (suc l) va) apart) l (index_of l va) refl (index_lt l va);
    taken = subst (λ k. Taken (page_at m sp) k role (set g.roles p (table (suc l) t (index_of (suc l) va)))) (let z : level - suc l + 1 ≡ level - l = omega (arith, g.below) in z)
        (rw e (taken_more (level - suc l) (suc l) t (index_of (suc l) va) g.taken));
    place = here;
    places = every_append xs _ g.places
        (every_append (zeros p 512) _ (every_zeros p 512 here (omega arith))
        (every_one t (index_of (suc l) va) (link_of p) g.place (index_lt (suc l) va) (rw (link_is p small) (table_word_small p small))));
    below = omega (arith, g.below);
    above = omega arith;
    near = omega (arith, g.near);
  }
    where
      new : g.roles p ≡ free
      new = rw e (next_free w.booked (level - suc l) (omega arith) g.taken v)

      here : MayBeTable h sp p
      here = free_place p (g.down.unused p new)

      small : p < 2 ^ 40
      small = omega (arith, here.home.upto, w.small)

      apart : t ≢ p
      apart x = omega (arith, ap left new, ap (λ y. left (g.roles y)) x, comes_left g.down.built g.down.comes)

  -- ONE STEP of the plan
  pub grown_step : (more p : ℕ) (xs : List Write) (s : TableReached) → Grows (suc more) xs s
      → (target < s.level → (p ≡ page_at m sp (level - s.level)) × (level - s.level < (book_of m sp).free))
      → Grows more (xs ++ grow_of va target p s) (next_of target p s)
  unfolding grow_of next_of
  grown_step more p xs s g f = go (dec_le s.level target) s.level refl
    where
      stay : s.level ≤ target → Grows more (xs ++ []) s
      stay u = rw append-nil (record {
        now = g.now;
        roles = g.roles;
        down = g.down;
        nothing = g.nothing;
        taken = g.taken;
        place = g.place;
        places = g.places;
        below = g.below;
        above = g.above;
        near = omega arith;
      })

      go : Dec (s.level ≤ target) → (n : ℕ) → s.level ≡ n
          → Grows more (xs ++ cond (leb s.level target) [] (zeros p 512 ++ (write s.table (index_of s.level va) (link_of p) ∷ [])))
          (cond (leb s.level target) s (record { level = s.level - 1; table = p }))
      go (yes u) n e = rw (le-leb s.level target u) (stay u)
      go (no u) zero e = absurd (omega arith)
      go (no u) (suc l) e =
          let one : suc l - 1 ≡ l = omega arith in
          let next : (p ≡ page_at m sp (level - suc l)) × (level - suc l < (book_of m sp).free) = rw e at (f (omega arith)) in
          let there : Grows (suc more) xs (record { level = suc l; table = s.table }) = subst (λ n. Grows (suc more) xs (record { level = n; table = s.table })) e g in
          rw (lt-leb s.level target (omega arith), e, one) (made more l s.table p xs there (omega arith) next.0 next.1)
