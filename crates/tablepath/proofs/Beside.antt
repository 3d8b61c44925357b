-- THE FINAL THEOREM, for runs of calls: beside any walks, caches, marks and other programs, whose stores and ours reach memory one by one, every
-- walk ends with what the tables meant at some moment while it ran; and whatever a cache gives that was empty at first is what its address
-- meant at some moment since.
use Prim.Native.Nat.{ℕ, ◌*◌, ◌<◌, ◌≤◌}
use mathlib.Core.Bool.{Bool}
use mathlib.Core.List.{List, [], ◌∷◌, ◌++◌}
use mathlib.Core.Logic.{inl, inr}
use mathlib.Core.Path.{◌≡◌, refl, sym, ◌∙◌, subst}
use native.Mathlib.Decide.{ℕ_discrete}
use Rattle.word.specs.Memory.{set, at}
use Rattle.word.proofs.Set.{set_at, set_other}
use Rattle.word.proofs.Writes.{page_of}
use Rattle.walk.specs.declared.Found.{Found}
use Rattle.world.specs.Events.{Event, write, mark, store, happen, after, Among, All}
use Rattle.world.proofs.Events.{among_map}
use Rattle.world.specs.Walker.{Gives}
use Rattle.world.specs.Held.{Can, None}
use Rattle.world.specs.Discipline.{Grow, Safe}
use Rattle.world.proofs.Discipline.{interleaving}
use Rattle.world.specs.Rules.{frozen}
use Rattle.world.proofs.Rules.{safe_first, safe_rest}
use Rattle.world.specs.Frozen.{SomeReads}
use Rattle.world.specs.Turns.{Turn, events, Idle, places, at_start}
use Rattle.world.proofs.Turns.{each_walk}
use Rattle.tables.specs.Walks.{Position}
use Rattle.tables.proofs.Walks.{one_space_meaning, laws_of}
use Rattle.world.proofs.StillRead.{read_or_frozen}
use Rattle.tables.specs.Roles.{Role}
use Rattle.tables.specs.Discipline.{walker_of}
use Rattle.pool.specs.Book.{book_of, ticket_of}
use Rattle.pool.specs.Booked.{setting_of, Numbered}
use Rattle.pool.specs.declared.Space.{Space}
use Rattle.effect.specs.Whole.{Whole}
use Rattle.tablepath.specs.Calls.{means, Remarked, Act, Others, Reached, From}
use Rattle.tablepath.proofs.Marking.{remarked_then, others_rest}
use Rattle.tablepath.proofs.Running.{reached_ran, reached_safe, reached_whole}

-- A frozen word stays as it is, but for marks.
frozen_stays : (h : ℕ → Bool) (sp : Space) (gs : List (Event ℕ)) (F : ℕ → Type 0) (m n : ℕ → ℕ) (x : ℕ) → Safe (walker_of (setting_of h sp)) F n gs → Others sp n gs → F x
    → Remarked sp x (m x) (n x) → All n gs (λ y. Remarked sp x (m x) (y x))
unfolding Safe Others All happen
frozen_stays h sp [] F m n x s o f r = r
frozen_stays h sp (write a v ∷ gs) F m n x s o f r =
    (r, frozen_stays h sp gs (Grow (walker_of (setting_of h sp)) F n a) m (set n a v) x s.1 o (inl f) (rw (set_other n a v x (λ e. s.0 (inl (subst F (sym e) f)))) r))
frozen_stays h sp (mark a v ∷ gs) F m n x s o f r = (r, frozen_stays h sp gs F m (set n a v) x s.1 o.1 f (go (ℕ_discrete a x)))
  where
    go : Dec (a ≡ x) → Remarked sp x (m x) (set n a v x)
    go (yes e) = rw (set_at n a v x e) (remarked_then sp x (m x) (n x) v r (subst (λ y. Remarked sp y (n y) v) e o.0))
    go (no d) = rw (set_other n a v x d) r
frozen_stays h sp (store a v ∷ gs) F m n x s o f r =
    (r, frozen_stays h sp gs F m (set n a v) x s.2 o.1 f (rw (set_other n a v x (λ e. s.0 (subst F (sym e) f))) r))

module _ (h : ℕ → Bool) (sp : Space) (n : ℕ) (m : ℕ → ℕ) (role : ℕ → Role) (w : Whole h sp m role) (u : n ≤ ticket_of (book_of m sp)) (cs : List Act) where
  -- EACH WALK, without a cache: cut what happens at its first read and at its last; it ends with what its address meant at some moment between.
  pub each_walk_ends : (who : ℕ → ℕ) (earlier during later : List (Turn ℕ)) → Reached h sp n m cs (events (earlier ++ (during ++ later))) → (i : ℕ) → Idle i earlier → Idle i later
      → (o : Found) → Gives (walker_of (setting_of h sp)) (who i) (places (walker_of (setting_of h sp)) who m (at_start (walker_of (setting_of h sp)) who) (earlier ++ (during ++ later)) i) o
      → Among (after m (events earlier)) (events during) (λ x. means h sp x (who i) ≡ o)
  each_walk_ends who earlier during later r i d d' o g =
      among_map (events during) (after m (events earlier)) _ _ (λ x e. sym (one_space_meaning h (4096 * sp.root) x (who i)) ∙ e)
      (each_walk (walker_of (setting_of h sp)) (laws_of (setting_of h sp)) who earlier during later (From sp n m) m (reached_safe h sp n m role w u cs (events (earlier ++ (during ++ later))) r) i d d' o g)

  module _ (gs : List (Event ℕ)) (r : Reached h sp n m cs gs) where
    -- EVERY CACHE that was empty at first, and every walk that goes on from what one holds: since then.
    pub every_answer : (va : ℕ) (p : Position) (o : Found) → Can (walker_of (setting_of h sp)) m gs (None (walker_of (setting_of h sp))) va p
        → Gives (walker_of (setting_of h sp)) va p o → Among m gs (λ x. means h sp x va ≡ o)
    every_answer va p o c g =
        among_map gs m _ _ (λ x e. sym (one_space_meaning h (4096 * sp.root) x va) ∙ e)
        (interleaving (walker_of (setting_of h sp)) (laws_of (setting_of h sp)) gs (From sp n m) m (reached_safe h sp n m role w u cs gs r) va p o c g)

    -- What holds between operations holds whenever nothing waits.
    pub run_whole : r.waiting ≡ [] → (role' : ℕ → Role) × Whole h sp (after m gs) role'
    run_whole e = ((reached_ran h sp n m role w u cs gs r).role, reached_whole h sp n m role w u cs gs r e)

    -- A PAGE THAT IS SET ASIDE is written by nothing, at any moment, until a report with a later ticket: no report goes beyond n, and the page has
    -- a number from n on. Only the machine marks it.
    pub unwritten : (p k i : ℕ) → n ≤ k → Numbered m sp p k → i < 512 → All m gs (λ x. Remarked sp (at p i) (m (at p i)) (x (at p i)))
    unwritten p k i v g j =
        frozen_stays h sp gs (From sp n m) m m (at p i) (reached_safe h sp n m role w u cs gs r) r.others
        (k, v, subst (λ x. Numbered m sp x k) (sym (page_of p i j)) g) (inl refl)

  -- A WORD THAT WALKS READ is written by nothing from the moment on that none reads it: a table, from the write on that unlinks it.
  pub unwritten_since : (es fs : List (Event ℕ)) → Reached h sp n m cs (es ++ fs) → (x : ℕ) → SomeReads (walker_of (setting_of h sp)) x m
      → ¬ SomeReads (walker_of (setting_of h sp)) x (after m es) → All (after m es) fs (λ y. Remarked sp x (after m es x) (y x))
  unwritten_since es fs r x reads none = elim (read_or_frozen (walker_of (setting_of h sp)) (laws_of (setting_of h sp)) es (From sp n m) m x (safe_first (walker_of (setting_of h sp)) (laws_of (setting_of h sp)) es fs (From sp n m) m safe) reads) [
    | inl s ↦ absurd (none s)
    | inr f ↦ frozen_stays h sp fs (frozen (walker_of (setting_of h sp)) (From sp n m) m es) (after m es) (after m es) x
        (safe_rest (walker_of (setting_of h sp)) (laws_of (setting_of h sp)) es fs (From sp n m) m safe) (others_rest sp es fs m r.others) f (inl refl)
  ]
    where
      safe : Safe (walker_of (setting_of h sp)) (From sp n m) m (es ++ fs)
      safe = reached_safe h sp n m role w u cs (es ++ fs) r
