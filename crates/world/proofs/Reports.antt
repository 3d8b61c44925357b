-- Whatever is given, after any number of shootdowns of any addresses, is fresh; and where enough was told, it is as if all had been dropped.
use mathlib.Core.Path.{◌≡◌, refl, sym, ◌∙◌, ap, subst}
use mathlib.Core.List.{List, [], ◌∷◌, ◌++◌}
use mathlib.Core.Logic.{◌⊎◌, inl, inr}
use Prim.Native.Nat.{ℕ, zero, suc}
use Rattle.world.specs.Events.{Event, happen, after, Among, All}
use Rattle.world.proofs.Events.{after_more, among_map, among_append, among_split, among_last, among_all}
use Rattle.world.specs.Walker.{Walker, WalkerLaws, finish, meaning, Gives, Reads, ReadsIn}
use Rattle.world.proofs.Ways.{follows_step}
use Rattle.world.specs.Held.{MayHold, still, starts, steps, shares, None, Can}
use Rattle.world.proofs.Held.{Always, always_held}
use Rattle.world.specs.Discipline.{Safe}
use Rattle.world.proofs.Discipline.{interleaving, interleaving_had}
use Rattle.world.specs.Reports.{History, first, happens, begins, done, Period, from_now, longer, each_longer, oldest, younger, now, underway, next, last, Thawed, Caches, NoMore, Finishes, Since, Untold, Held, SafeIn, Disciplined, WasOn, Tells, Meant, MeantLike, Fresh, Enough}
use Rattle.world.proofs.Holding.{holds_more, can_holds, can_longer, can_on}
use Rattle.world.proofs.OnWays.{was_on}

-- Every period ends now ---------------------------------------------------------------------------------------------------------------

module _ {Word : Type 0} where
  abbrev pub ended : Period Word → ℕ → Word
  ended q = after q.began q.since

  abbrev pub EndsAt : (ℕ → Word) → Period Word → Type 0
  EndsAt m q = ended q ≡ m

  unfoldable pub EachEnds : (ℕ → Word) → List (Period Word) → Type 0
  EachEnds m [] = Unit {0}
  EachEnds m (q ∷ qs) = EndsAt m q × EachEnds m qs

  ends_longer : (m : ℕ → Word) (e : Event Word) (q : Period Word) → EndsAt m q → EndsAt (happen m e) (longer e q)
  ends_longer m e q k = after_more q.since e q.began ∙ ap (λ x. happen x e) k

  each_longer_lem : (m : ℕ → Word) (e : Event Word) (qs : List (Period Word)) → EachEnds m qs → EachEnds (happen m e) (each_longer e qs)
  unfolding EachEnds each_longer
  each_longer_lem m e [] k = tt
  each_longer_lem m e (q ∷ qs) k = (ends_longer m e q k.0, each_longer_lem m e qs k.1)

  each_more : (m : ℕ → Word) (qs : List (Period Word)) → EachEnds m qs → EachEnds m (qs ++ (from_now m ∷ []))
  unfolding EachEnds after
  each_more m [] k = (refl, tt)
  each_more m (q ∷ qs) k = (k.0, each_more m qs k.1)

  oldest_ends : (m : ℕ → Word) (qs : List (Period Word)) → EachEnds m qs → EndsAt m (oldest m qs)
  unfolding EachEnds oldest after
  oldest_ends m [] k = refl
  oldest_ends m (q ∷ qs) k = k.0

  younger_end : (m : ℕ → Word) (qs : List (Period Word)) → EachEnds m qs → EachEnds m (younger qs)
  unfolding EachEnds younger
  younger_end m [] k = tt
  younger_end m (q ∷ qs) k = k.1

module _ {Word Address : Type 0} where
  pub underway_ends : (h : History Word Address) → EachEnds (now h) (underway h)
  unfolding now underway EachEnds
  underway_ends (first m) = tt
  underway_ends (happens h e) = each_longer_lem (now h) e (underway h) (underway_ends h)
  underway_ends (begins h) = each_more (now h) (underway h) (underway_ends h)
  underway_ends (done h T) = younger_end (now h) (underway h) (underway_ends h)

  pub next_ends : (h : History Word Address) → EndsAt (now h) (next h)
  next_ends h = oldest_ends (now h) (underway h) (underway_ends h)

  pub last_ends : (h : History Word Address) → EndsAt (now h) (last h)
  unfolding now last after
  last_ends (first m) = refl
  last_ends (happens h e) = ends_longer (now h) e (last h) (last_ends h)
  last_ends (begins h) = last_ends h
  last_ends (done h T) = next_ends h

-- What is held -------------------------------------------------------------------------------------------------------------------------

module _ {Word View Address Place Answer : Type 0} (W : Walker Word View Address Place Answer) where
  since_holds : (m : ℕ → Word) (q : Period Word) → EndsAt m q → (va : Address) (p : Place) → MayHold W m (Since W q) va p → Since W q va p
  since_holds m q e va p h = can_holds W q.since q.began (None W) va p (subst (λ x. MayHold W x (Since W q) va p) (sym e) h)

  since_longer : (m : ℕ → Word) (e : Event Word) (q : Period Word) → EndsAt m q → (va : Address) (p : Place) → MayHold W (happen m e) (Since W q) va p
      → Since W (longer e q) va p
  since_longer m e q k va p h =
      can_longer W q.since e q.began (None W) va p (subst (λ x. MayHold W (happen x e) (Since W q) va p) (sym k) h)

module _ {Word View Address Place Answer : Type 0} (W : Walker Word View Address Place Answer) (L : WalkerLaws W) (C : Caches Place Answer) (laws : Finishes W C) where
  open W use {start, left, step}
  open L use {alike_refl, alike_trans}
  open C use {half, finished}
  open laws use {rests, stays, gives}

  last_safe : (h : History Word Address) → Disciplined W h → SafeIn W (last h)
  unfolding Disciplined last Safe
  last_safe (first m) k = tt
  last_safe (happens h e) k = k.1
  last_safe (begins h) k = last_safe h k
  last_safe (done h T) k = k.1

  meant_longer : {Kind : Type 0} (kind : Answer → Kind) (m : ℕ → Word) (e : Event Word) (q : Period Word) → EndsAt m q → (va : Address) (o : Answer)
      → MeantLike W kind q va o ⊎ (kind (meaning W (happen m e) va) ≡ kind o) → MeantLike W kind (longer e q) va o
  unfolding Among
  meant_longer kind m e q k va o (inl a) = among_append q.since (e ∷ []) q.began _ (inl a)
  meant_longer kind m e q k va o (inr b) =
      among_append q.since (e ∷ []) q.began _ (inr (inr (subst (λ x. kind (meaning W (happen x e) va) ≡ kind o) (sym k) b)))

  -- what was meant in the last period is fresh
  meant_fresh : (h : History Word Address) (va : Address) (o : Answer) → Meant W (last h) va o → Fresh W C h va o
  unfolding Fresh last Among
  meant_fresh (first m) va o a = a
  meant_fresh (happens h e) va o a =
      elim (among_split (last h).since (e ∷ []) (last h).began (λ m. meaning W m va ≡ o) a) [
        | inl b ↦ inl (meant_fresh h va o b)
        | inr (inl b) ↦ inl (meant_fresh h va o (among_last (last h).since (last h).began (λ m. meaning W m va ≡ o) b))
        | inr (inr b) ↦ inr (subst (λ x. meaning W (happen x e) va ≡ o) (last_ends h) b)
      ]
  meant_fresh (begins h) va o a = meant_fresh h va o a
  meant_fresh (done h T) va o a = inl a

  -- A finished translation takes no step that matters.
  rests_step : (va : Address) (p : Place) → finished p → (m m' : ℕ → Word) → step m va p ≡ step m' va p
  unfolding ReadsIn
  rests_step va p f m m' = go (left p) refl
    where
      go : (n : ℕ) → left p ≡ n → step m va p ≡ step m' va p
      go zero e = L.rests m va p e ∙ sym (L.rests m' va p e)
      go (suc n) e = L.local m m' va p (λ c g. absurd (rests p f m va c (subst (λ k. ReadsIn W m va k p c) (sym e) (inl g))))

  gives_back : (va : Address) (p : Place) → finished p → (m : ℕ → Word) (o : Answer) → Gives W va (step m va p) o → Gives W va p o
  gives_back va p f m o g m' = sym (follows_step W L va m' p).comes ∙ ap (finish W m' va) (rests_step va p f m' m) ∙ g m'

  -- THE INVARIANT: what is held is a finished translation that is fresh, or one who began in the last period may hold it.
  abbrev Fine : History Word Address → Address → Place → Type 0
  Fine h va p = (finished p × ((o : Answer) → Gives W va p o → Fresh W C h va o)) ⊎ Since W (last h) va p

  fine_holds : (h : History Word Address) (H : Address → Place → Type 0) → Always W (Fine h) H → Always W (Fine h) (MayHold W (now h) H)
  fine_holds h H = always_held W L (Fine h) (now h) H (λ va. inr (since_holds W (now h) (last h) (last_ends h) va (start va) starts)) next_step
    where
      next_step : (va : Address) (p : Place) → Fine h va p → Fine h va (step (now h) va p)
      next_step va p (inl (f, g)) = inl (stays p f (now h) va, λ o k. g o (gives_back va p f (now h) o k))
      next_step va p (inr c) = inr (since_holds W (now h) (last h) (last_ends h) va (step (now h) va p) (steps (still c)))

  fine_done : (h : History Word Address) (T : Address → Type 0) → Disciplined W h → Tells W C (done h T) → Always W (Fine h) (Held W C h)
      → Always W (Fine (done h T)) (λ va p. Since W (next h) va p ⊎ ((half p ⊎ finished p) × Untold W T va p × Held W C h va p))
  unfolding Tells Fresh last
  fine_done h T k tells ih va p (inl c) vb a = inr (since_holds W (now h) (next h) (next_ends h) vb p (shares a (still c)))
  fine_done h T k tells ih va p (inr (kind, untold, held)) vb a = go kind (ih va p held vb a)
    where
      serves : Untold W T vb p
      serves t x b = untold t x (alike_trans (left p) va vb t a b)

      go : half p ⊎ finished p → Fine h vb p → Fine (done h T) vb p
      go kind (inl (f, g)) = inl (f, λ o q. inr (gives p f vb o q, λ x. untold vb x a, g o q))
      go (inr f) (inr c) =
          inl (
            f,
            λ o q. inr (
              gives p f vb o q,
              λ x. untold vb x a,
              meant_fresh h vb o
                  (interleaving W L (last h).since Thawed (last h).began (last_safe h k) vb p o c q),
            ),
          )
      go (inl f) (inr c) =
          inr (can_on W (next h).since (next h).began (None W) vb p
          (tells.1 vb p f serves (was_on W L (last h).since Thawed (last h).began (last_safe h k) vb p c)))

  fine : (h : History Word Address) → Disciplined W h → Tells W C h → Always W (Fine h) (Held W C h)
  unfolding Held Disciplined Tells Fresh last now Can
  fine (first m) k t = fine_holds (first m) (None W) (λ va p n. absurd n)
  fine (happens h e) k t = fine_holds (happens h e) (Held W C h) (λ va p c vb a. more vb p (fine h k.0 t va p c vb a))
    where
      more : (va : Address) (p : Place) → Fine h va p → Fine (happens h e) va p
      more va p (inl (f, g)) = inl (f, λ o q. inl (g o q))
      more va p (inr c) = inr (since_longer W (now h) e (last h) (last_ends h) va p (still c))
  fine (begins h) k t = fine h k t
  fine (done h T) k t = fine_holds (done h T) _ (fine_done h T k.0 t (fine h k.0 t.0))

  module _ (h : History Word Address) (keeps : Disciplined W h) (tells : Tells W C h) where
    is_fine : (va : Address) (p : Place) → Held W C h va p → Fine h va p
    is_fine va p c = fine h keeps tells va p c va (alike_refl (left p) va)

    -- WHATEVER A WALK ENDS WITH, OR A CACHE GIVES, IS FRESH.
    pub fresh : (va : Address) (p : Place) (o : Answer) → Held W C h va p → Gives W va p o → Fresh W C h va o
    fresh va p o c g = elim (is_fine va p c) [
      | inl f ↦ f.1 o g
      | inr d ↦ meant_fresh h va o (interleaving W L (last h).since Thawed (last h).began (last_safe h keeps) va p o d g)
    ]

    -- A half-done walk that is held was on its way at some moment of the last period.
    pub half_on : (va : Address) (p : Place) → Held W C h va p → ¬ finished p → WasOn W (last h) va p
    half_on va p c n = elim (is_fine va p c) [
      | inl f ↦ absurd (n f.0)
      | inr d ↦ was_on W L (last h).since Thawed (last h).began (last_safe h keeps) va p d
    ]

    -- A cell that the walk of the address reads at no moment of the last period is read from nothing that is held.
    pub reaches_none : (va : Address) (x : ℕ) → All (last h).began (last h).since (λ m. ¬ Reads W m va (start va) x) → (p : Place) → Held W C h va p → ¬ Reads W (now h) va p x
    reaches_none va x all p c r = elim (is_fine va p c) [
      | inl f ↦ rests p f.0 (now h) va x r
      | inr d ↦
          let t = interleaving_had W L (last h).since Thawed (last h).began (last_safe h keeps) _ all va p d in
          t.good (t.follows.within x (subst (λ m. Reads W m va p x) (sym (last_ends h)) r))
    ]

  -- WHERE ENOUGH IS TOLD it is as if all were dropped: whatever is given is of the kind that the address meant in the last period, whatever that told.
  module _ {Kind : Type 0} (kind : Answer → Kind) where
    enough_last : (h : History Word Address) (va : Address) → Enough W C kind h va → (o : Answer) → Fresh W C h va o → MeantLike W kind (last h) va o
    unfolding Fresh Enough last Among
    enough_last (first m) va e o f = ap kind f
    enough_last (happens h x) va e o (inl f) = meant_longer kind (now h) x (last h) (last_ends h) va o (inl (enough_last h va e o f))
    enough_last (happens h x) va e o (inr f) = meant_longer kind (now h) x (last h) (last_ends h) va o (inr (ap kind f))
    enough_last (begins h) va e o f = enough_last h va e o f
    enough_last (done h T) va e o (inl f) = among_map (next h).since (next h).began _ _ (λ m. ap kind) f
    enough_last (done h T) va e o (inr (k, n, f)) = elim (e.1 o k (enough_last h va e.0 o f)) [ inl a ↦ a | inr t ↦ absurd (n t) ]

    module _ (h : History Word Address) (keeps : Disciplined W h) (tells : Tells W C h) (va : Address) (enough : Enough W C kind h va) where
      pub as_if_all : (p : Place) (o : Answer) → Held W C h va p → Gives W va p o → MeantLike W kind (last h) va o
      as_if_all p o c g = enough_last h va enough o (fresh h keeps tells va p o c g)

      -- So what is so of the meaning's kind at every moment of the last period is so of every answer's.
      pub answers_all : (Q : Kind → Type 0) → All (last h).began (last h).since (λ m. Q (kind (meaning W m va))) → (p : Place) (o : Answer) → Held W C h va p
          → Gives W va p o → Q (kind o)
      answers_all Q a p o c g =
          let r = among_all (last h).since (last h).began _ _ a (as_if_all p o c g) in
          subst Q r.2 r.1

module _ {Word View Address Place Answer : Type 0} (W : Walker Word View Address Place Answer) (L : WalkerLaws W) (C : Caches Place Answer) where
  open W use {left}
  open L use {alike_refl}

  -- A FULL FLUSH tells every address: then nothing is held but what began since it began.
  pub flushed : (h : History Word Address) (T : Address → Type 0) → ((va : Address) → T va) → (va : Address) (p : Place) → Held W C (done h T) va p → Since W (next h) va p
  unfolding Held
  flushed h T all va p c = since_holds W (now h) (next h) (next_ends h) va p (holds_more W (now h) _ (Since W (next h)) new va p c)
    where
      new : (va : Address) (p : Place) → Since W (next h) va p ⊎ ((C.half p ⊎ C.finished p) × Untold W T va p × Held W C h va p) → Since W (next h) va p
      new va p (inl d) = d
      new va p (inr (k, u, d)) = absurd (u va (all va) (alike_refl (left p) va))

-- WHERE LESS IS KEPT, less is held.
module _ {Word View Address Place Answer : Type 0} (W : Walker Word View Address Place Answer) (C D : Caches Place Answer) (less : NoMore C D) where
  kept : (p : Place) → C.half p ⊎ C.finished p → D.half p ⊎ D.finished p
  kept p (inl x) = inl (less.half p x)
  kept p (inr x) = inr (less.finished p x)

  pub no_more_held : (h : History Word Address) (va : Address) (p : Place) → Held W C h va p → Held W D h va p
  unfolding Held
  no_more_held (first m) va p = λ c. c
  no_more_held (happens h e) va p = holds_more W (happen (now h) e) (Held W C h) (Held W D h) (no_more_held h) va p
  no_more_held (begins h) va p = no_more_held h va p
  no_more_held (done h T) va p = holds_more W (now h) _ _ (λ vb q x. elim x [ inl d ↦ inl d | inr (k, u, d) ↦ inr (kept q k, u, no_more_held h vb q d) ]) va p
