-- What an address means in tables that we built, from any place on its way. Every walk ends at an entry of the pool that says nothing or
-- says a page: none leaves the window, and none ends in the pool.
use Prim.Native.Nat.{ℕ, zero, suc}
use mathlib.Core.Bool.{Bool, true, false}
use mathlib.Core.Logic.{◌≢◌}
use mathlib.Core.Path.{◌≡◌, refl, ap, ◌∙◌, subst}
use native.Mathlib.Omega.{arith}
use Rattle.entry.specs.Entry.{size_of, table_of, both, everything}
use Rattle.entry.specs.declared.Rights.{Rights}
use Rattle.entry.specs.declared.Entry.{Entry}
use Rattle.entry.specs.declared.Entry.TheVariants.{Nothing, Page, Table}
use Rattle.entry.proofs.Fields.{last_no_table}
use Rattle.walk.specs.Walk.{canonical, index_of, base_of, entered, step_of, run, start, found_of, walk}
use Rattle.walk.specs.declared.Found.{Found}
use Rattle.walk.specs.declared.Found.TheVariants as found
use Rattle.walk.proofs.Digits.{index_lt}
use Rattle.walk.proofs.Steps.{run_ended}
use Rattle.tables.specs.Roles.{Setting, Role, left, Live, entry_at, Home, Apart, Built, Bare}
use Rattle.tables.specs.Way.{Comes, begin, onto}
use Rattle.tables.proofs.Way.{comes_left, onto_role}
use Rattle.tables.specs.Meaning.{meaning, onward}

-- the rights of a way whose tables grant everything
pub everything_both : (g : Rights) → both everything g ≡ g
unfolding both
everything_both g = refl

-- One step, by what the entry says ---------------------------------------------------------------------------------------------

module _ (σ : Setting) (m : ℕ → ℕ) (va l t : ℕ) (r : Rights) (in_window : σ.window t ≡ true) where
  pub onward_nothing : entry_at m l t (index_of l va) ≡ Nothing → onward σ m va (suc l) t r ≡ found.Nothing
  unfolding run step_of entered found_of
  onward_nothing e = rw (in_window, e) (ap found_of (run_ended σ.window m l va found.Nothing))

  pub onward_page : (f : ℕ) (g : Rights) → entry_at m l t (index_of l va) ≡ Page f g
      → onward σ m va (suc l) t r ≡ found.Page (base_of l va) (size_of l) f (both r g)
  unfolding run step_of entered found_of
  onward_page f g e = rw (in_window, e) (ap found_of (run_ended σ.window m l va (found.Page (base_of l va) (size_of l) f (both r g))))

  pub onward_table : (s : ℕ) (g : Rights) → entry_at m l t (index_of l va) ≡ Table s g → onward σ m va (suc l) t r ≡ onward σ m va l s (both r g)
  unfolding run step_of entered
  onward_table s g e = rw (in_window, e)

-- a page with no entry that says anything
pub onward_bare : (σ : Setting) (m : ℕ → ℕ) (va n t : ℕ) (r : Rights) → σ.window t ≡ true → Bare m n t → onward σ m va n t r ≡ found.Nothing
unfolding run found_of
onward_bare σ m va zero t r h e = refl
onward_bare σ m va (suc l) t r h e = onward_nothing σ m va l t r h (e l (index_of l va) refl (index_lt l va))

-- A number that is no address
pub no_address : (σ : Setting) (m : ℕ → ℕ) (va : ℕ) → canonical va ≡ false → meaning σ m va ≡ found.NoAddress
unfolding walk start found_of
no_address σ m va u = rw u (ap found_of (run_ended σ.window m 4 va found.NoAddress))

pub address_onward : (σ : Setting) (m : ℕ → ℕ) (va : ℕ) → canonical va ≡ true → meaning σ m va ≡ onward σ m va 4 (table_of σ.cr3) everything
unfolding walk start
address_onward σ m va u = rw u

pub comes_root : {σ : Setting} {m : ℕ → ℕ} {va : ℕ} → canonical va ≡ true → Comes σ m va 4 (table_of σ.cr3)
comes_root u = begin refl refl u

-- How the walk of va ends: there is none, where va is no address; or it comes to an entry that says nothing, or to one that says a page.
pub data Ends (σ : Setting) (m : ℕ → ℕ) (va : ℕ) : Found → Type 0 where
  no_walk : canonical va ≡ false → Ends σ m va found.NoAddress
  at_nothing : (l q : ℕ) → Comes σ m va (suc l) q → entry_at m l q (index_of l va) ≡ Nothing → Ends σ m va found.Nothing
  at_page : (l q f : ℕ) (g : Rights) → Comes σ m va (suc l) q → entry_at m l q (index_of l va) ≡ Page f g
      → Ends σ m va (found.Page (base_of l va) (size_of l) f g)

-- no walk comes to a table below the last level
comes_positive : {σ : Setting} {m : ℕ → ℕ} {va n p : ℕ} → Comes σ m va n p → n ≢ 0
comes_positive (begin e f u) z = omega arith
comes_positive {m = m} {va} {n} {p} (onto t g c e) z = last_no_table _ p g (subst (λ k. entry_at m k t (index_of k va) ≡ Table p g) z e)

module _ {σ : Setting} {m : ℕ → ℕ} {role : ℕ → Role} (b : Built σ m role) where
  -- a table lies in the window
  pub live_home : {q l : ℕ} → Live role q l → Home σ q
  live_home {q} h = b.home q (λ e. omega (arith, h, ap left e))

  -- THE MEANING FROM ANY PLACE on the way: the tables above grant everything.
  pub comes_mean : {va n p : ℕ} → Comes σ m va n p → meaning σ m va ≡ onward σ m va n p everything
  comes_mean {va} (begin e f u) = address_onward σ m va u ∙ rw (e, f)
  comes_mean {va} {n} {p} (onto t g c e) =
      comes_mean c ∙ onward_table σ m va n t everything (live_home (comes_left b c)).held p g e
      ∙ ap (onward σ m va n p) (ap (both everything) (onto_role b c e).1 ∙ everything_both everything)

  -- what an address means, by the entry that its walk comes to
  pub mean_nothing : {va l q : ℕ} → Comes σ m va (suc l) q → entry_at m l q (index_of l va) ≡ Nothing → meaning σ m va ≡ found.Nothing
  mean_nothing {va} {l} {q} c e = comes_mean c ∙ onward_nothing σ m va l q everything (live_home (comes_left b c)).held e

  pub mean_page : {va l q f : ℕ} {g : Rights} → Comes σ m va (suc l) q → entry_at m l q (index_of l va) ≡ Page f g
      → meaning σ m va ≡ found.Page (base_of l va) (size_of l) f g
  mean_page {va} {l} {q} {f} {g} c e =
      comes_mean c ∙ onward_page σ m va l q everything (live_home (comes_left b c)).held f g e ∙ ap (found.Page (base_of l va) (size_of l) f) (everything_both g)

  ends_from : {va : ℕ} (n p : ℕ) → Comes σ m va n p → Ends σ m va (meaning σ m va)
  ends_from zero p c = absurd (comes_positive c refl)
  ends_from {va} (suc n) p c = go (entry_at m n p (index_of n va)) refl (λ s d. ends_from n s d)
    where
      go : (e : Entry) → entry_at m n p (index_of n va) ≡ e → ((s : ℕ) → Comes σ m va n s → Ends σ m va (meaning σ m va)) → Ends σ m va (meaning σ m va)
      go Nothing e ih = rw (mean_nothing c e) (at_nothing n p c e)
      go (Page f g) e ih = rw (mean_page c e) (at_page n p f g c e)
      go (Table s g) e ih = ih s (onto p g c e)

  -- EVERY WALK ENDS, at an entry that says nothing or a page; and what is no address has none.
  pub ends : (va : ℕ) → Ends σ m va (meaning σ m va)
  ends va = go (canonical va) refl
    where
      go : (b : Bool) → canonical va ≡ b → Ends σ m va (meaning σ m va)
      go true u = ends_from 4 (table_of σ.cr3) (comes_root u)
      go false u = rw (no_address σ m va u) (no_walk u)

  -- NO WALK LEAVES THE WINDOW.
  pub never_outside : (va : ℕ) → meaning σ m va ≢ found.Outside
  never_outside va = go (meaning σ m va) (ends va)
    where
      go : (o : Found) → Ends σ m va o → o ≢ found.Outside
      go o (no_walk u) e = let z : ◌≡◌ {A = ℕ} 0 1 = cc in omega arith
      go o (at_nothing l q c w) e = let z : ◌≡◌ {A = ℕ} 0 1 = cc in omega arith
      go o (at_page l q f g c w) e = let z : ◌≡◌ {A = ℕ} 0 1 = cc in omega arith

  -- NO WALK ENDS IN THE POOL: the frame of every page that an address means lies apart from it.
  pub never_in_pool : (va base size f : ℕ) (g : Rights) → meaning σ m va ≡ found.Page base size f g → Apart σ f size
  never_in_pool va base size f g = go (meaning σ m va) (ends va)
    where
      go : (o : Found) → Ends σ m va o → o ≡ found.Page base size f g → Apart σ f size
      go o (no_walk u) e = let z : ◌≡◌ {A = ℕ} 0 1 = cc in absurd (omega arith)
      go o (at_nothing l q c w) e = let z : ◌≡◌ {A = ℕ} 0 1 = cc in absurd (omega arith)
      go o (at_page l q a r c w) e =
          let same_size : size_of l ≡ size = cc in
          let same_frame : a ≡ f = cc in
          subst (λ s. Apart σ f s) same_size (subst (λ x. Apart σ x (size_of l)) same_frame (b.apart q l (index_of l va) a r (comes_left b c) (index_lt l va) w))
