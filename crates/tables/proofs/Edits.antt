-- THE SIX EDITS, all that ever happens to a table: link an empty table, write a page over nothing, clear a page, change a page's rights,
-- unlink an empty table, write where no walk comes. For each: what every address then means, and that the invariant is kept.
use Prim.Native.Nat.{ℕ, suc, ◌+◌, ◌/◌, ◌≤◌, ◌<◌}
use mathlib.Core.Bool.{true}
use mathlib.Core.Logic.{◌≢◌}
use mathlib.Core.Path.{◌≡◌, refl, sym, ap, ◌∙◌, subst}
use native.Mathlib.Decide.{ℕ_discrete}
use native.Mathlib.Omega.{arith}
use Rattle.word.specs.Memory.{set, at}
use Rattle.word.proofs.Set.{set_at, set_same, set_other}
use Rattle.entry.specs.Entry.{size_of, says, everything}
use Rattle.entry.specs.Pat.{PatClear}
use Rattle.entry.specs.declared.Rights.{Rights}
use Rattle.entry.specs.declared.Entry.TheVariants.{Nothing, Page, Table}
use Rattle.entry.proofs.Pat.{zero_pat, table_pat}
use Rattle.entry.proofs.Fields.{says_absent}
use Rattle.walk.specs.Walk.{index_of, base_of}
use Rattle.walk.specs.declared.Found.{Found}
use Rattle.walk.specs.declared.Found.TheVariants as found
use Rattle.walk.proofs.Digits.{index_lt, same_base}
use Rattle.tables.specs.Roles.{Setting, Role, foreign, free, table, unlinked, left, entry_at, Apart, Built, Occupied, Filled, FilledBut, Zero, Bare, Plain}
use Rattle.tables.proofs.Near.{near_range}
use Rattle.tables.specs.Way.{Comes}
use Rattle.tables.proofs.Way.{comes_left}
use Rattle.tables.specs.Meaning.{meaning}
use Rattle.tables.proofs.Meaning.{onward_nothing, onward_table, onward_bare, mean_nothing, mean_page, live_home}
use Rattle.tables.specs.OneWrite.{LiveEntry}
use Rattle.tables.proofs.OneWrite.{comes_spot, nothing_plain, page_plain, page_something, other_page, holds_kept, fill, out_of_range, in_the_range, quiet_write}
use Rattle.tables.proofs.Kept.{Decent, plain_built, link_built, unlink_built, zero_bare}
use Rattle.tables.proofs.Unseen.{unseen_alike, alike_built, alike_means}
use Rattle.tables.specs.Edits.{KeepsMeaning, Turns}

-- The same in numbers.
pub turns_inside : {σ : Setting} {m m' : ℕ → ℕ} {role' : ℕ → Role} {l va : ℕ} {o : Found} → Turns σ m m' role' l va o
    → (vb : ℕ) → base_of l va ≤ vb → vb < base_of l va + size_of l → meaning σ m' vb ≡ o
turns_inside {l = l} {va} t vb u w = t.in_range vb ((near_range l va vb).1 (u, w))

pub turns_outside : {σ : Setting} {m m' : ℕ → ℕ} {role' : ℕ → Role} {l va : ℕ} {o : Found} → Turns σ m m' role' l va o
    → (vb : ℕ) → (base_of l va ≤ vb → vb < base_of l va + size_of l → ⊥) → meaning σ m' vb ≡ meaning σ m vb
turns_outside {l = l} {va} t vb n = t.elsewhere vb (λ e. let r = (near_range l va vb).0 e in n r.0 r.1)

zero_says : (l : ℕ) → says l 0 ≡ Nothing
zero_says l = says_absent l 0 (omega arith)

-- 0, a page apart from the pool, a table: each is decent to write
zero_decent : (σ : Setting) (l : ℕ) → Decent σ l 0
zero_decent σ l = record { zeros = λ e. refl; apart = λ f g e. let z : ◌≡◌ {A = ℕ} 0 1 = cc (zero_says l) in absurd (omega arith); pat = zero_pat l }

page_decent : (σ : Setting) (l v f : ℕ) (g : Rights) → says l v ≡ Page f g → Apart σ f (size_of l) → PatClear l v → Decent σ l v
page_decent σ l v f g is a c = record {
  zeros = λ e. absurd (page_something f g is e);
  apart = λ x r e. let same : f ≡ x = cc in subst (λ y. Apart σ y (size_of l)) same a;
  pat = c;
}

table_decent : (σ : Setting) (l v p : ℕ) → says l v ≡ Table p everything → Decent σ l v
table_decent σ l v p is = record {
  zeros = λ e. let z : ◌≡◌ {A = ℕ} 0 1 = cc in absurd (omega arith);
  apart = λ f g e. let z : ◌≡◌ {A = ℕ} 0 1 = cc in absurd (omega arith);
  pat = table_pat l v p everything is;
}

module _ {σ : Setting} {m : ℕ → ℕ} {role : ℕ → Role} (b : Built σ m role) where
  -- 1. LINK: a free page whose words are all 0 becomes a table, over nothing.
  pub link : {q l i : ℕ} → LiveEntry role q l i → (v p : ℕ) → entry_at m l q i ≡ Nothing → says l v ≡ Table p everything → role p ≡ free → Zero m p
      → KeepsMeaning σ m (set m (at q i) v) (set role p (table l q i))
  link {q} {l} {i} s v p was is new empty = record {
    built = link_built b s v (table_decent σ l v p is) p was is new empty;
    same = quiet_write b s v
        (λ va r e. onward_nothing σ m va l q r (live_home b s.live).held (rw e was))
        (λ va r e. onward_table σ (set m (at q i) v) va l q r (live_home b s.live).held p everything (rw (e, set_same) is)
        ∙ onward_bare σ (set m (at q i) v) va l p _ (b.home p (λ f. let z : ◌≡◌ {A = ℕ} 0 1 = cc in omega arith)).held (zero_bare (set m (at q i) v) l p still));
  }
    where
      still : Zero (set m (at q i) v) p
      still j u = other_page b s v p j (λ e. omega (arith, s.live, ap (λ x. left (role x)) e, ap left new)) u ∙ empty j u

  pub link_filled : {q l i : ℕ} → LiveEntry role q l i → (v p : ℕ) → says l v ≡ Table p everything → FilledBut m role q
      → FilledBut (set m (at q i) v) (set role p (table l q i)) p
  link_filled {q} {l} {i} s v p is f x k r j h d =
      fill b s v (λ e. let z : ◌≡◌ {A = ℕ} 0 1 = cc in omega arith) f x k r j (sym (set_other role p (table l q i) x (λ e. d (sym e))) ∙ h)

  -- a page over nothing or a page
  page_turns : {va l q : ℕ} → Comes σ m va (suc l) q → (v f : ℕ) (g : Rights) → Plain (entry_at m l q (index_of l va)) → says l v ≡ Page f g → Apart σ f (size_of l) → PatClear l v
      → Turns σ m (set m (at q (index_of l va)) v) role l va (found.Page (base_of l va) (size_of l) f g)
  page_turns {va} {l} {q} c v f g was is a k = record {
    built = now;
    in_range = λ vb near.
        let o = in_the_range b s v vb c refl near in
        mean_page now o.0 (o.1 ∙ is) ∙ ap (λ x. found.Page x (size_of l) f g) (sym (same_base l va vb near));
    elsewhere = λ vb far. out_of_range b s v vb c refl far;
  }
    where
      s : LiveEntry role q l (index_of l va)
      s = comes_spot b c

      now : Built σ (set m (at q (index_of l va)) v) role
      now = plain_built b s v (page_decent σ l v f g is a k) was (page_plain f g is)

  -- 2. WRITE A PAGE over nothing; its frame lies apart from the pool.
  pub write_page : {va l q : ℕ} → Comes σ m va (suc l) q → (v f : ℕ) (g : Rights) → entry_at m l q (index_of l va) ≡ Nothing → says l v ≡ Page f g
      → Apart σ f (size_of l) → PatClear l v → Turns σ m (set m (at q (index_of l va)) v) role l va (found.Page (base_of l va) (size_of l) f g)
  write_page c v f g was is a k = page_turns c v f g (nothing_plain was) is a k

  -- the table is not empty then
  pub page_filled : {q l i : ℕ} → LiveEntry role q l i → (v f : ℕ) (g : Rights) → says l v ≡ Page f g → FilledBut m role q → Filled (set m (at q i) v) role
  page_filled s v f g is k = fill b s v (page_something f g is) k

  -- 3. CLEAR A PAGE. Its table may be empty then.
  pub clear_page : {va l q : ℕ} → Comes σ m va (suc l) q → (f : ℕ) (g : Rights) → entry_at m l q (index_of l va) ≡ Page f g
      → Turns σ m (set m (at q (index_of l va)) 0) role l va found.Nothing
  clear_page {va} {l} {q} c f g was = record {
    built = now;
    in_range = λ vb near. let o = in_the_range b s 0 vb c refl near in mean_nothing now o.0 (o.1 ∙ zero_says l);
    elsewhere = λ vb far. out_of_range b s 0 vb c refl far;
  }
    where
      s : LiveEntry role q l (index_of l va)
      s = comes_spot b c

      now : Built σ (set m (at q (index_of l va)) 0) role
      now = plain_built b s 0 (zero_decent σ l) (page_plain f g was) (nothing_plain (zero_says l))

  pub clear_filled : {q l i : ℕ} → LiveEntry role q l i → Filled m role → FilledBut (set m (at q i) 0) role q
  clear_filled s f p k r j h d = holds_kept b s 0 k p (λ e. d (sym e)) (f p k r j h)

  -- 4. CHANGE A PAGE'S RIGHTS: the same page, in the same entry. (Its table stays as full as it was: page_filled.)
  pub change_rights : {va l q : ℕ} → Comes σ m va (suc l) q → (v f : ℕ) (g g' : Rights) → entry_at m l q (index_of l va) ≡ Page f g → says l v ≡ Page f g' → PatClear l v
      → Turns σ m (set m (at q (index_of l va)) v) role l va (found.Page (base_of l va) (size_of l) f g')
  change_rights {va} {l} {q} c v f g g' was is k =
      page_turns c v f g' (page_plain f g was) is (b.apart q l (index_of l va) f g (comes_left b c) (index_lt l va) was) k

  -- 5. UNLINK a table that is empty: it is set aside. The table above may be empty then.
  pub unlink : {q l i : ℕ} → LiveEntry role q l i → (p : ℕ) → entry_at m l q i ≡ Table p everything → Bare m l p → KeepsMeaning σ m (set m (at q i) 0) (set role p unlinked)
  unlink {q} {l} {i} s p was bare = record {
    built = unlink_built b s 0 (zero_decent σ l) p was (zero_says l) bare;
    same = quiet_write b s 0
        (λ va r e. onward_table σ m va l q r here p everything (rw e was) ∙ onward_bare σ m va l p _ (b.home p below).held bare)
        (λ va r e. onward_nothing σ (set m (at q i) 0) va l q r here (rw (e, set_same) (zero_says l)));
  }
    where
      here : σ.window q ≡ true
      here = (live_home b s.live).held

      below : role p ≢ foreign
      below e = let z : ◌≡◌ {A = ℕ} 0 1 = cc (b.down q l i p everything s.live s.fits was).0 in omega arith

  pub unlink_filled : {q l i : ℕ} → LiveEntry role q l i → (p : ℕ) → FilledBut m role p → FilledBut (set m (at q i) 0) (set role p unlinked) q
  unlink_filled {q} {l} {i} s p f x k r j h d = go (ℕ_discrete p x)
    where
      go : Dec (p ≡ x) → Occupied (set m (at q i) 0) k x
      go (yes y) = let e : unlinked ≡ table (suc k) r j = sym (set_at role p unlinked x y) ∙ h in let z : ◌≡◌ {A = ℕ} 0 1 = cc in absurd (omega arith)
      go (no y) = holds_kept b s 0 k x (λ e. d (sym e)) (f x k r j (sym (set_other role p unlinked x y) ∙ h) (λ e. y (sym e)))

  -- 6. WRITE WHERE NO WALK COMES.
  pub unseen : (a v : ℕ) → left (role (a / 512)) ≡ 0 → KeepsMeaning σ m (set m a v) role
  unseen a v n = record { built = alike_built b (set m a v) (unseen_alike m role a v n); same = alike_means b (set m a v) (unseen_alike m role a v n) }
