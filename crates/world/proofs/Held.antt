-- The theorem in its barest form: it asks only what each change does to the outcome of what is held. Discipline.antt has the way by which
-- code comes to keep that.
use mathlib.Core.Path.{◌≡◌, refl, sym, ◌∙◌, ap, subst}
use mathlib.Core.List.{List, [], ◌∷◌}
use mathlib.Core.Logic.{inl, inr}
use Prim.Native.Nat.{ℕ, zero, suc}
use Rattle.world.specs.Events.{Event, happen, after, Among, All}
use Rattle.world.proofs.Events.{among_map, all_first, all_moments}
use Rattle.world.specs.Walker.{Walker, WalkerLaws, meaning, Gives}
use Rattle.world.specs.Ways.{Follows}
use Rattle.world.proofs.Ways.{follows_refl, follows_trans, follows_step}
use Rattle.world.specs.Held.{MayHold, None, Can, Harmless, Lawful, still, starts, steps, shares}

module _ {Word View Address Place Answer : Type 0} (W : Walker Word View Address Place Answer) where
  open W use {start, left, Alike}

  -- K is so of all that is held, for every address that it serves
  abbrev pub Always : (Address → Place → Type 0) → (Address → Place → Type 0) → Type 0
  Always K H = (va : Address) (p : Place) → H va p → (vb : Address) → Alike (left p) va vb → K vb p

  -- THE INVARIANT: what is held is the meaning of its address at a moment of which P holds, and what it has still to read is read there.
  pub record Had (P : (ℕ → Word) → Type 0) (m : ℕ → Word) (va : Address) (p : Place) : Type 0 where
    pub moment : ℕ → Word
    pub good : P moment
    pub follows : Follows W va m p moment (start va)

module _ {Word View Address Place Answer : Type 0} (W : Walker Word View Address Place Answer) (L : WalkerLaws W) where
  open W use {start, left, step, Alike}
  open L use {falls, rests, alike_refl, alike_trans, alike_up, alike_start, alike_step}

  -- addresses that are alike where a step leads have taken that step alike
  alike_back : (m : ℕ → Word) (va vb : Address) (p : Place) → Alike (left (step m va p)) va vb → Alike (left p) va vb × (step m va p ≡ step m vb p)
  alike_back m va vb p = go (left p) refl
    where
      go : (n : ℕ) → left p ≡ n → Alike (left (step m va p)) va vb → Alike (left p) va vb × (step m va p ≡ step m vb p)
      go zero e a = (subst (λ q. Alike (left q) va vb) (rests m va p e) a, rests m va p e ∙ sym (rests m vb p e))
      go (suc n) e a =
          let b : Alike n va vb = subst (λ k. Alike k va vb) (falls m va p n e) a in
          (subst (λ k. Alike k va vb) (sym e) (alike_up n va vb b), alike_step m va vb p n e b)

  -- What is so of every start and stays so by every step is so of all that may be held, if it was so of all that was held.
  pub always_held : (K : Address → Place → Type 0) (m : ℕ → Word) (H : Address → Place → Type 0)
      → ((va : Address) → K va (start va)) → ((va : Address) (p : Place) → K va p → K va (step m va p)) → Always W K H → Always W K (MayHold W m H)
  always_held K m H s n h va p (still q) vb a = h va p q vb a
  always_held K m H s n h va p starts vb a = rw (alike_start va vb a) (s vb)
  always_held K m H s n h va p (steps {p = o} q) vb a =
      let b = alike_back m va vb o a in
      rw b.1 (n vb o (always_held K m H s n h va o q vb b.0))
  always_held K m H s n h va p (shares {va = vc} c q) vb a = always_held K m H s n h vc p q vb (alike_trans (left p) vc va vb c a)

  had_now : (P : (ℕ → Word) → Type 0) (m : ℕ → Word) → P m → (va : Address) (p : Place) → Follows W va m p m (start va) → Had W P m va p
  had_now P m g va p f = record { moment = m; good = g; follows = f }

  had_on : (P : (ℕ → Word) → Type 0) (m m' : ℕ → Word) (va : Address) (p q : Place) → Follows W va m' q m p → Had W P m va p → Had W P m' va q
  had_on P m m' va p q f h = record { moment = h.moment; good = h.good; follows = follows_trans W L f h.follows }

  had_holds : (P : (ℕ → Word) → Type 0) (m : ℕ → Word) (H : Address → Place → Type 0) → P m → Always W (Had W P m) H → Always W (Had W P m) (MayHold W m H)
  had_holds P m H g = always_held (Had W P m) m H (λ va. had_now P m g va (start va) (follows_refl W L va m (start va))) (λ va p. had_on P m m va p (step m va p) (follows_step W L va m p))

  had_change : (P : (ℕ → Word) → Type 0) (m m' : ℕ → Word) → P m' → (va : Address) (p : Place) → Harmless W m m' va p → Had W P m va p → Had W P m' va p
  had_change P m m' g va p (inl f) h = had_on P m m' va p p f h
  had_change P m m' g va p (inr f) h = had_now P m' g va p f

  -- Where every moment has P, all that is held at the end is what the tables meant at a moment that has P.
  pub always_had : (es : List (Event Word)) (P : (ℕ → Word) → Type 0) (m : ℕ → Word) (H : Address → Place → Type 0)
      → All m es P → Always W (Had W P m) H → Lawful W m es H → Always W (Had W P (after m es)) (Can W m es H)
  unfolding All Lawful Can after
  always_had [] P m H g h l = had_holds P m H g h
  always_had (e ∷ es) P m H g h l =
      always_had es P (happen m e) (MayHold W m H) g.1
      (λ va p q vb a. had_change P m (happen m e) (all_first es (happen m e) P g.1) vb p (l.0 vb p (shares a q)) (had_holds P m H g.0 h va p q vb a))
      l.1

  -- THE THEOREM for a period that begins with nothing held: what is held at its end comes to what its address meant at a moment of it,
  -- and what it has still to read is what the address's walk reads at that moment. P: any fact of all the moments.
  pub lawful_had : (es : List (Event Word)) (P : (ℕ → Word) → Type 0) (m : ℕ → Word) → All m es P → Lawful W m es (None W)
      → (va : Address) (p : Place) → Can W m es (None W) va p → Had W P (after m es) va p
  lawful_had es P m g l va p c = always_had es P m (None W) g (λ vb q n. absurd n) l va p c va (alike_refl (left p) va)

  pub lawful_moment : (es : List (Event Word)) (m : ℕ → Word) → Lawful W m es (None W) → (va : Address) (p : Place) (o : Answer)
      → Can W m es (None W) va p → Gives W va p o → Among m es (λ m'. meaning W m' va ≡ o)
  lawful_moment es m l va p o c g =
      let h = lawful_had es (λ m'. Among m es (λ n. n ≡ m')) m (all_moments es m _ (λ m' q. q)) l va p c in
      among_map es m _ _ (λ n e. ap (λ m'. meaning W m' va) e ∙ sym h.follows.comes ∙ g (after m es)) h.good
