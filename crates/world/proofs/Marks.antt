-- What an operation shows of its writes alone holds with the machine's marks and other programs' stores anywhere in between, too.
use mathlib.Core.Path.{◌≡◌, sym, ◌∙◌, subst}
use mathlib.Core.List.{List, [], ◌∷◌}
use mathlib.Core.Logic.{inl, inr}
use native.Mathlib.Decide.{ℕ_discrete}
use Prim.Native.Nat.{ℕ}
use Rattle.word.specs.Memory.{set}
use Rattle.word.proofs.Set.{set_at, set_other}
use Rattle.world.specs.Events.{Event, write, mark, store, happen, after, All}
use Rattle.world.proofs.Events.{all_first, mark_same}
use Rattle.world.specs.Walker.{Walker, WalkerLaws}
use Rattle.world.proofs.Ways.{below_read, follows_agree}
use Rattle.world.specs.Discipline.{Grow, Safe}
use Rattle.world.proofs.Rules.{grow_less}
use Rattle.world.specs.Rules.{frozen, Obeys}
use Rattle.world.specs.Marks.{writes, Fair, Agree, Inside}

-- Ours: the cells that other programs leave alone
module _ {Word View Address Place Answer : Type 0} (W : Walker Word View Address Place Answer) (L : WalkerLaws W) (Ours : ℕ → Type 0) where
  open W use {see, start, left}

  -- In what follows m is the memory as the code's writes alone make it, and m' as it is.
  agree_write : (m m' : ℕ → Word) (a : ℕ) (v : Word) → Agree W Ours m m' → Agree W Ours (set m a v) (set m' a v)
  agree_write m m' a v h x o = go (ℕ_discrete a x)
    where
      go : Dec (a ≡ x) → see (set m' a v x) ≡ see (set m a v x)
      go (yes e) = rw (set_at m' a v x e, set_at m a v x e)
      go (no n) = rw (set_other m' a v x n, set_other m a v x n) (h x o)

  agree_mark : (m m' : ℕ → Word) (a : ℕ) (v : Word) → Agree W Ours m m' → see v ≡ see (m' a) → Agree W Ours m (set m' a v)
  agree_mark m m' a v h e x o = mark_same see m' a v e x ∙ h x o

  agree_store : (m m' : ℕ → Word) (a : ℕ) (v : Word) → Agree W Ours m m' → ¬ Ours a → Agree W Ours m (set m' a v)
  agree_store m m' a v h n x o = rw (set_other m' a v x (λ e. n (subst Ours (sym e) o))) (h x o)

  grow_ours : (G : ℕ → Type 0) (m : ℕ → Word) (a : ℕ) → ((x : ℕ) → G x → Ours x) → Inside W Ours m → (x : ℕ) → Grow W G m a x → Ours x
  grow_ours G m a g i x (inl k) = g x k
  grow_ours G m a g i x (inr c) = i c.0 x (below_read W L m c.0 (left (start c.0)) (start c.0) a x c.1)

  -- THE DISCIPLINE, with the others in between.
  pub safe_beside : (es : List (Event Word)) (F G : ℕ → Type 0) (m m' : ℕ → Word) → ((x : ℕ) → F x → G x) → ((x : ℕ) → G x → Ours x) → Agree W Ours m m' → Fair W Ours m' es
      → All m (writes es) (Inside W Ours) → Safe W G m (writes es) → Safe W F m' es
  unfolding Safe writes Fair All happen
  safe_beside [] F G m m' h o e f i s = tt
  safe_beside (write a v ∷ es) F G m m' h o e f i s =
      let g = grow_less W L F G m m' a h (λ va x r. e x (i.0 va x r)) in (
        λ p. s.0 (g a p),
        safe_beside es (Grow W F m' a) (Grow W G m a) (set m a v) (set m' a v) g (grow_ours G m a o i.0) (agree_write m m' a v e) f i.1 s.1,
      )
  safe_beside (mark a v ∷ es) F G m m' h o e f i s =
      (f.0, safe_beside es F G m (set m' a v) h o (agree_mark m m' a v e f.0) f.1 i s)
  safe_beside (store a v ∷ es) F G m m' h o e f i s =
      let first = all_first (writes es) m (Inside W Ours) i in (
        λ k. f.0 (o a (h a k)),
        λ va r. f.0 (first va a ((follows_agree W L va m m' (start va) (λ x q. e x (first va x q))).within a r)),
        safe_beside es F G m (set m' a v) h o (agree_store m m' a v e f.0) f.1 i s,
      )

  frozen_beside : (es : List (Event Word)) (F G : ℕ → Type 0) (m m' : ℕ → Word) → ((x : ℕ) → F x → G x) → Agree W Ours m m' → Fair W Ours m' es → All m (writes es) (Inside W Ours)
      → (x : ℕ) → frozen W F m' es x → frozen W G m (writes es) x
  unfolding frozen writes Fair All happen
  frozen_beside [] F G m m' h e f i = h
  frozen_beside (write a v ∷ es) F G m m' h e f i =
      frozen_beside es (Grow W F m' a) (Grow W G m a) (set m a v) (set m' a v) (grow_less W L F G m m' a h (λ va x r. e x (i.0 va x r))) (agree_write m m' a v e) f i.1
  frozen_beside (mark a v ∷ es) F G m m' h e f i = frozen_beside es F G m (set m' a v) h (agree_mark m m' a v e f.0) f.1 i
  frozen_beside (store a v ∷ es) F G m m' h e f i = frozen_beside es F G m (set m' a v) h (agree_store m m' a v e f.0) f.1 i

  -- A planned list of writes obeys whatever the others do in between; the plan may be made of another memory that shows the same.
  pub obeys_beside : (es : List (Event Word)) (F G : ℕ → Type 0) (m m' : ℕ → Word) → ((x : ℕ) → F x → Ours x) → Agree W Ours m m' → Fair W Ours m' es → All m (writes es) (Inside W Ours)
      → Obeys W F m (writes es) G → Obeys W F m' es G
  obeys_beside es F G m m' o e f i k = record {
    safe = safe_beside es F F m m' (λ x p. p) o e f i k.safe;
    within = λ x p. k.within x (frozen_beside es F F m m' (λ y q. q) e f i x p);
  }

  -- The memories at the end show the same.
  pub agree_beside : (es : List (Event Word)) (m m' : ℕ → Word) → Agree W Ours m m' → Fair W Ours m' es → Agree W Ours (after m (writes es)) (after m' es)
  unfolding writes Fair after happen
  agree_beside [] m m' e f = e
  agree_beside (write a v ∷ es) m m' e f = agree_beside es (set m a v) (set m' a v) (agree_write m m' a v e) f
  agree_beside (mark a v ∷ es) m m' e f = agree_beside es m (set m' a v) (agree_mark m m' a v e f.0) f.1
  agree_beside (store a v ∷ es) m m' e f = agree_beside es m (set m' a v) (agree_store m m' a v e f.0) f.1

  -- What our cells show, and holds at every moment of the writes alone, holds at every moment.
  pub all_beside : (es : List (Event Word)) (m m' : ℕ → Word) (P Q : (ℕ → Word) → Type 0) → ((n n' : ℕ → Word) → Agree W Ours n n' → P n → Q n')
      → Agree W Ours m m' → Fair W Ours m' es → All m (writes es) P → All m' es Q
  unfolding writes Fair All happen
  all_beside [] m m' P Q b e f g = b m m' e g
  all_beside (write a v ∷ es) m m' P Q b e f g =
      (b m m' e g.0, all_beside es (set m a v) (set m' a v) P Q b (agree_write m m' a v e) f g.1)
  all_beside (mark a v ∷ es) m m' P Q b e f g =
      (b m m' e (all_first (writes es) m P g), all_beside es m (set m' a v) P Q b (agree_mark m m' a v e f.0) f.1 g)
  all_beside (store a v ∷ es) m m' P Q b e f g =
      (b m m' e (all_first (writes es) m P g), all_beside es m (set m' a v) P Q b (agree_store m m' a v e f.0) f.1 g)
