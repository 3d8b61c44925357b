-- What the rules of Rules.antt ask of a write, in `walk`'s own terms.
use mathlib.Core.Path.{◌≡◌, refl, subst}
use mathlib.Core.Bool.{Bool, true, false, cond}
use mathlib.Core.Logic.{inl, inr}
use Prim.Native.Nat.{ℕ, zero, suc}
use Rattle.entry.specs.Entry.{says, both}
use Rattle.entry.specs.declared.Rights.{Rights}
use Rattle.entry.specs.declared.Entry.{Entry}
use Rattle.entry.specs.declared.Entry.TheVariants as entry
use Rattle.walk.specs.Walk.{entry_of, entered, step_of, start}
use Rattle.walk.specs.Reads.{ReadsNow, ComesBy, by_start, by_step}
use Rattle.walk.specs.Reads as its
use Rattle.walk.specs.declared.Found.{Found}
use Rattle.walk.specs.declared.Found.TheVariants.{Outside}
use Rattle.walk.specs.declared.Place.{Place}
use Rattle.walk.specs.declared.Place.TheVariants.{Going, Ended}
use Rattle.world.specs.Walker.{nowhere, cell, Reads, ReadsIn, On, here, down}
use Rattle.world.proofs.Ways.{nowhere_cell}
use Rattle.tables.specs.Walks.{Position, step_at, reads_at, walker}

reads_now : (P : ℕ → Type 0) (h : ℕ → Bool) (va n : ℕ) (p : Place) (x : ℕ) → ReadsNow P h n va p → reads_at h va (suc n) p ≡ cell x → P x
unfolding reads_at
reads_now P h va n (Ended f) x k e = absurd (nowhere_cell x e)
reads_now P h va n (Going t r) x k e = go (h t) refl e
  where
    go : (b : Bool) → h t ≡ b → cond b (cell (entry_of n va t)) nowhere ≡ cell x → P x
    go true i j = subst P (cc) (k i)
    go false i j = absurd (nowhere_cell x j)

module _ (h : ℕ → Bool) {Address : Type 0} (root_of va_of : Address → ℕ) where
  -- What holds of every word that `walk` reads holds of every word that the walker reads: so no walk reads a, if each reads others only.
  pub reads_walk : (P : ℕ → Type 0) (m : ℕ → ℕ) (a : Address) (n : ℕ) (p : Place) (x : ℕ) → its.Reads P h m n (va_of a) p
      → Reads (walker h root_of va_of) m a (record { levels = n; place = p }) x → P x
  unfolding its.Reads ReadsIn reads_at step_at
  reads_walk P m a zero p x k r = absurd r
  reads_walk P m a (suc n) p x k (inl e) = reads_now P h (va_of a) n p x k.0 e
  reads_walk P m a (suc n) p x k (inr r) = reads_walk P m a n (step_of h m n (va_of a) p) x k.1 r

  -- A place on the way of the walker is one that `walk` comes to.
  pub on_way : (m : ℕ → ℕ) (a : Address) (p : Position) → On (walker h root_of va_of) m a p (record { levels = 4; place = start (root_of a) (va_of a) })
      → ComesBy (λ x. Unit {0}) h m (root_of a) (va_of a) p.levels p.place
  unfolding step_at
  on_way m a p o = go _ o by_start
    where
      Come : Position → Type 0
      Come q = ComesBy (λ x. Unit {0}) h m (root_of a) (va_of a) q.levels q.place

      all : (n : ℕ) (q : Place) → ReadsNow (λ x. Unit {0}) h n (va_of a) q
      all n (Going t r) = λ e. tt
      all n (Ended f) = tt

      next : (n : ℕ) (q : Place) → Come (record { levels = n; place = q }) → Come (step_at h m (va_of a) n q)
      next zero q w = w
      next (suc n) q w = by_step w (all n q)

      go : (q : Position) → On (walker h root_of va_of) m a p q → Come q → Come p
      go q here w = w
      go q (down {q = r} i) w = go _ i (next r.levels r.place w)

  -- a walk that has ended reads no more
  pub ended_reads : (m : ℕ → ℕ) (a : Address) (n : ℕ) (f : Found) (x : ℕ) → ¬ Reads (walker h root_of va_of) m a (record { levels = n; place = Ended f }) x
  unfolding ReadsIn reads_at step_at step_of
  ended_reads m a zero f x r = r
  ended_reads m a (suc n) f x (inl e) = nowhere_cell x e
  ended_reads m a (suc n) f x (inr r) = ended_reads m a n f x r

  -- What a write of entry c may cut off, as the rules of Rules.antt ask for it: a walk that stands where it reads c, and reads x after it, is at
  -- a table of some level; c is its entry there, and says "table".
  pub record Through (m : ℕ → ℕ) (a : Address) (p : Position) (c x : ℕ) : Type 0 where
    pub level : ℕ
    pub table : ℕ
    pub rights : Rights
    pub at_table : p ≡ record { levels = suc level; place = Going table rights }
    pub inside : h table ≡ true
    pub is_entry : entry_of level (va_of a) table ≡ c
    pub child : ℕ
    pub grants : Rights
    pub says_table : says level (m c) ≡ entry.Table child grants
    pub reads_on : Reads (walker h root_of va_of) m a (record { levels = level; place = Going child (both rights grants) }) x

  pub through : (m : ℕ → ℕ) (a : Address) (p : Position) (c x : ℕ) → reads_at h (va_of a) p.levels p.place ≡ cell c
      → Reads (walker h root_of va_of) m a (step_at h m (va_of a) p.levels p.place) x → Through m a p c x
  unfolding reads_at step_at step_of entered
  through m a p c x = go p.levels p.place refl
    where
      by : (n t : ℕ) (g : Rights) → p ≡ record { levels = suc n; place = Going t g } → (b : Bool) → h t ≡ b → (s : Entry) → says n (m (entry_of n (va_of a) t)) ≡ s
          → cond b (cell (entry_of n (va_of a) t)) nowhere ≡ cell c
          → Reads (walker h root_of va_of) m a (record { levels = n; place = cond b (entered n (va_of a) g s) (Ended Outside) }) x → Through m a p c x
      by n t g i false k s l e r = absurd (nowhere_cell c e)
      by n t g i true k entry.Nothing l e r = absurd (ended_reads m a n _ x r)
      by n t g i true k (entry.Page f q) l e r = absurd (ended_reads m a n _ x r)
      by n t g i true k (entry.Table u q) l e r =
          let same : entry_of n (va_of a) t ≡ c = cc in
          record {
            level = n;
            table = t;
            rights = g;
            at_table = i;
            inside = k;
            is_entry = same;
            child = u;
            grants = q;
            says_table = subst (λ y. says n (m y) ≡ entry.Table u q) same l;
            reads_on = r;
          }

      go : (n : ℕ) (q : Place) → p ≡ record { levels = n; place = q } → reads_at h (va_of a) n q ≡ cell c
          → Reads (walker h root_of va_of) m a (step_at h m (va_of a) n q) x → Through m a p c x
      go zero q i e r = absurd (nowhere_cell c e)
      go (suc n) (Ended f) i e r = absurd (nowhere_cell c e)
      go (suc n) (Going t g) i e r = by n t g i (h t) refl (says n (m (entry_of n (va_of a) t))) refl e r
