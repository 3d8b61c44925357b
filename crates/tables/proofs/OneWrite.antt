-- One write of a word at an entry that walks read: which entries show it, which walks still come to their tables, and which addresses keep
-- their meaning. The edits of Edits.antt are instances.
use Prim.Native.Nat.{ℕ, zero, suc, ◌<◌}
use mathlib.Core.Bool.{Bool, true, false}
use mathlib.Core.Logic.{◌≢◌}
use mathlib.Core.Path.{◌≡◌, refl, sym, ap, ap₂, ◌∙◌, subst, subst₂}
use native.Mathlib.Decide.{ℕ_discrete}
use native.Mathlib.Omega.{arith}
use Rattle.word.specs.Memory.{set, at}
use Rattle.word.proofs.Set.{set_at, set_same, set_other}
use Rattle.entry.specs.Entry.{size_of, table_of, says, both, everything}
use Rattle.entry.specs.Pat.{PatClear}
use Rattle.entry.specs.declared.Rights.{Rights}
use Rattle.entry.specs.declared.Entry.{Entry}
use Rattle.entry.specs.declared.Entry.TheVariants.{Nothing, Page, Table}
use Rattle.walk.specs.Walk.{canonical, index_of, run}
use Rattle.walk.specs.declared.Found.TheVariants as found
use Rattle.walk.proofs.Digits.{index_lt, same_index}
use Rattle.tables.specs.Roles.{Setting, Role, left, Live, entry_at, Apart, Built, Occupied, Filled, FilledBut, Plain}
use Rattle.tables.specs.Near.{Near}
use Rattle.tables.specs.Way.{Comes, begin, onto}
use Rattle.tables.proofs.Way.{comes_entry, comes_left, one_entry}
use Rattle.tables.specs.Meaning.{meaning, onward}
use Rattle.tables.proofs.Meaning.{onward_nothing, onward_page, onward_table, no_address, address_onward, comes_root, live_home}
use Rattle.tables.specs.OneWrite.{LiveEntry}

-- the entry that a walk comes to
pub comes_spot : {σ : Setting} {m : ℕ → ℕ} {role : ℕ → Role} {va l q : ℕ} → Built σ m role → Comes σ m va (suc l) q → LiveEntry role q l (index_of l va)
comes_spot {va = va} {l} b c = record { live = comes_left b c; fits = index_lt l va }

-- Numbers of entries -----------------------------------------------------------------------------------------------------------

pub at_page : (q i r j : ℕ) → i < 512 → j < 512 → at q i ≡ at r j → q ≡ r
at_page q i r j u v e = omega arith

at_index : (q i r j : ℕ) → i < 512 → j < 512 → at q i ≡ at r j → i ≡ j
at_index q i r j u v e = omega arith

-- What an entry says, told apart -----------------------------------------------------------------------------------------------

pub nothing_plain : {e : Entry} → e ≡ Nothing → Plain e
nothing_plain e t g f = let z : ◌≡◌ {A = ℕ} 0 1 = cc in omega arith

pub page_plain : {e : Entry} (x : ℕ) (r : Rights) → e ≡ Page x r → Plain e
page_plain x r e t g f = let z : ◌≡◌ {A = ℕ} 0 1 = cc in omega arith

pub table_something : {e : Entry} (t : ℕ) (g : Rights) → e ≡ Table t g → e ≢ Nothing
table_something t g e f = nothing_plain f t g e

pub page_something : {e : Entry} (x : ℕ) (r : Rights) → e ≡ Page x r → e ≢ Nothing
page_something x r e f = let z : ◌≡◌ {A = ℕ} 0 1 = cc in omega arith

-- v was written at entry i of q, which is read at level l: entry j of r, read at level k, is that entry, or is as it was
pub data Seen (m : ℕ → ℕ) (q l i v r k j : ℕ) : Type 0 where
  this : r ≡ q → k ≡ l → j ≡ i → entry_at m k r j ≡ entry_at m l q i → set m (at q i) v (at r j) ≡ v
      → entry_at (set m (at q i) v) k r j ≡ says l v → Seen m q l i v r k j
  other : at q i ≢ at r j → set m (at q i) v (at r j) ≡ m (at r j) → Seen m q l i v r k j

module _ {σ : Setting} {m : ℕ → ℕ} {role : ℕ → Role} (b : Built σ m role) {q l i : ℕ} (s : LiveEntry role q l i) (v : ℕ) where
  pub seen : (r k j : ℕ) → Live role r k → j < 512 → Seen m q l i v r k j
  seen r k j h u = go (ℕ_discrete (at q i) (at r j))
    where
      go : Dec (at q i ≡ at r j) → Seen m q l i v r k j
      go (yes e) =
          let page : r ≡ q = sym (at_page q i r j s.fits u e) in
          let level : k ≡ l = omega (arith, h, s.live, ap (λ x. left (role x)) page) in
          let word : set m (at q i) v (at r j) ≡ v = set_at m (at q i) v (at r j) e in
          this page level (sym (at_index q i r j s.fits u e)) (ap₂ (λ x y. says x (m y)) level (sym e)) word (ap₂ says level word)
      go (no d) = other d (set_other m (at q i) v (at r j) d)

  -- an entry of another page is as it was
  pub other_page : (p j : ℕ) → q ≢ p → j < 512 → set m (at q i) v (at p j) ≡ m (at p j)
  other_page p j d u = set_other m (at q i) v (at p j) (λ e. d (at_page q i p j s.fits u e))

  -- a table that had an entry has one, unless it is the written one, which has one if what is written says something
  pub holds_kept : (k p : ℕ) → q ≢ p → Occupied m k p → Occupied (set m (at q i) v) k p
  holds_kept k p d h = (h.0, h.1, λ e. h.2 (ap (says k) (sym (other_page p h.0 d h.1)) ∙ e))

  pub holds_here : says l v ≢ Nothing → Occupied (set m (at q i) v) l q
  holds_here n = (i, s.fits, λ e. n (ap (says l) (sym (set_same m (at q i) v)) ∙ e))

  -- something is written into the one table that may have been empty
  pub fill : says l v ≢ Nothing → FilledBut m role q → Filled (set m (at q i) v) role
  fill is f p k r j h = go (ℕ_discrete q p)
    where
      go : Dec (q ≡ p) → Occupied (set m (at q i) v) k p
      go (yes d) =
          let level : l ≡ k = omega (arith, s.live, ap left h, ap (λ x. left (role x)) d) in
          subst₂ (λ x y. Occupied (set m (at q i) v) x y) level d (holds_here is)
      go (no d) = holds_kept k p d (f p k r j h (λ e. d (sym e)))

  -- a word that says nothing is 0, and frames lie apart, of all entries, if it is so of the written one
  pub zeros_kept : (says l v ≡ Nothing → v ≡ 0) → (r k j : ℕ) → Live role r k → j < 512 → entry_at (set m (at q i) v) k r j ≡ Nothing → set m (at q i) v (at r j) ≡ 0
  zeros_kept z r k j h u e = go (seen r k j h u)
    where
      go : Seen m q l i v r k j → set m (at q i) v (at r j) ≡ 0
      go (this _ _ _ _ word is) = word ∙ z (sym is ∙ e)
      go (other d same) = same ∙ b.zeros r k j h u (ap (says k) (sym same) ∙ e)

  pub apart_kept : ((f : ℕ) (g : Rights) → says l v ≡ Page f g → Apart σ f (size_of l))
      → (r k j f : ℕ) (g : Rights) → Live role r k → j < 512 → entry_at (set m (at q i) v) k r j ≡ Page f g → Apart σ f (size_of k)
  apart_kept a r k j f g h u e = go (seen r k j h u)
    where
      go : Seen m q l i v r k j → Apart σ f (size_of k)
      go (this _ level _ _ _ is) = subst (λ x. Apart σ f (size_of x)) (sym level) (a f g (sym is ∙ e))
      go (other d same) = b.apart r k j f g h u (ap (says k) (sym same) ∙ e)

  pub pat_kept : PatClear l v → (r k j : ℕ) → Live role r k → j < 512 → PatClear k (set m (at q i) v (at r j))
  pat_kept c r k j h u = go (seen r k j h u)
    where
      go : Seen m q l i v r k j → PatClear k (set m (at q i) v (at r j))
      go (this _ level _ _ word _) = subst (PatClear k) (sym word) (subst (λ x. PatClear x v) (sym level) c)
      go (other d same) = subst (PatClear k) (sym same) (b.pat r k j h u)

  -- a walk comes to the tables above the entry as before
  pub comes_kept : {va n t : ℕ} → l < n → Comes σ m va n t → Comes σ (set m (at q i) v) va n t
  comes_kept u (begin e f w) = begin e f w
  comes_kept {va} {n} {t} u (onto r g c e) = go (seen r n (index_of n va) (comes_left b c) (index_lt n va)) (comes_kept (omega arith) c)
    where
      go : Seen m q l i v r n (index_of n va) → Comes σ (set m (at q i) v) va (suc n) r → Comes σ (set m (at q i) v) va n t
      go (this _ level _ _ _ _) d = absurd (omega arith)
      go (other _ same) d = onto r g d (ap (says n) same ∙ e)

  -- what a walk finds stays, if it stays from the entry on
  stays : {va : ℕ} (n t : ℕ) (r : Rights) → Comes σ m va n t
      → ((g : Rights) → Comes σ m va (suc l) q → index_of l va ≡ i → onward σ (set m (at q i) v) va (suc l) q g ≡ onward σ m va (suc l) q g)
      → onward σ (set m (at q i) v) va n t r ≡ onward σ m va n t r
  unfolding run
  stays zero t r c h = refl
  stays {va} (suc n) t r c h = go (seen t n (index_of n va) (comes_left b c) (index_lt n va)) (λ p g d. stays n p g d h)
    where
      in_window : σ.window t ≡ true
      in_window = (live_home b (comes_left b c)).held

      go : Seen m q l i v t n (index_of n va)
          → ((p : ℕ) (g : Rights) → Comes σ m va n p → onward σ (set m (at q i) v) va n p g ≡ onward σ m va n p g)
          → onward σ (set m (at q i) v) va (suc n) t r ≡ onward σ m va (suc n) t r
      go (this page level index _ _ _) ih =
          let c' : Comes σ m va (suc l) q = subst₂ (λ x y. Comes σ m va (suc x) y) level page c in
          let e : index_of l va ≡ i = ap (λ x. index_of x va) (sym level) ∙ index in
          subst₂ (λ x y. onward σ (set m (at q i) v) va (suc x) y r ≡ onward σ m va (suc x) y r) (sym level) (sym page) (h r c' e)
      go (other d same) ih = says_go (entry_at m n t (index_of n va)) refl
        where
          says_go : (e : Entry) → entry_at m n t (index_of n va) ≡ e → onward σ (set m (at q i) v) va (suc n) t r ≡ onward σ m va (suc n) t r
          says_go Nothing e = onward_nothing σ (set m (at q i) v) va n t r in_window (ap (says n) same ∙ e) ∙ sym (onward_nothing σ m va n t r in_window e)
          says_go (Page f g) e = onward_page σ (set m (at q i) v) va n t r in_window f g (ap (says n) same ∙ e) ∙ sym (onward_page σ m va n t r in_window f g e)
          says_go (Table p g) e =
              onward_table σ (set m (at q i) v) va n t r in_window p g (ap (says n) same ∙ e) ∙ ih p (both r g) (onto t g c e)
              ∙ sym (onward_table σ m va n t r in_window p g e)

  -- AN ADDRESS KEEPS ITS MEANING, unless its walk comes to the entry, and then if it finds from there on what it found.
  pub meaning_stays : (va : ℕ) → ((g : Rights) → Comes σ m va (suc l) q → index_of l va ≡ i → onward σ (set m (at q i) v) va (suc l) q g ≡ onward σ m va (suc l) q g)
      → meaning σ (set m (at q i) v) va ≡ meaning σ m va
  meaning_stays va h = go (canonical va) refl
    where
      go : (b : Bool) → canonical va ≡ b → meaning σ (set m (at q i) v) va ≡ meaning σ m va
      go true u = address_onward σ (set m (at q i) v) va u ∙ stays 4 (table_of σ.cr3) everything (comes_root u) h ∙ sym (address_onward σ m va u)
      go false u = no_address σ (set m (at q i) v) va u ∙ sym (no_address σ m va u)

  -- an address out of the entry's range
  pub out_of_range : {va : ℕ} (vb : ℕ) → Comes σ m va (suc l) q → index_of l va ≡ i → ¬ Near l va vb → meaning σ (set m (at q i) v) vb ≡ meaning σ m vb
  out_of_range {va} vb c e far = meaning_stays vb (λ g d f. absurd (far (one_entry b c d (e ∙ sym f))))

  -- an address in the entry's range comes to what was written
  pub in_the_range : {va : ℕ} (vb : ℕ) → Comes σ m va (suc l) q → index_of l va ≡ i → Near l va vb
      → Comes σ (set m (at q i) v) vb (suc l) q × (entry_at (set m (at q i) v) l q (index_of l vb) ≡ says l v)
  in_the_range {va} vb c e near = (
    comes_kept (omega arith) (comes_entry vb near c),
    ap (says l) (set_at m (at q i) v (at q (index_of l vb)) (ap (at q) (sym e ∙ same_index l va vb near))),
  )

  -- nothing was found through the entry, and nothing is: no address changes
  pub quiet_write : ((va : ℕ) (r : Rights) → index_of l va ≡ i → onward σ m va (suc l) q r ≡ found.Nothing)
      → ((va : ℕ) (r : Rights) → index_of l va ≡ i → onward σ (set m (at q i) v) va (suc l) q r ≡ found.Nothing)
      → (va : ℕ) → meaning σ (set m (at q i) v) va ≡ meaning σ m va
  quiet_write was is va = meaning_stays va (λ g c e. is va g e ∙ sym (was va g e))
