-- WHAT IS HELD WAS ON ITS WAY at some moment since nothing was held, if the discipline was kept: on its way still, or frozen with all it reads.
use mathlib.Core.Path.{◌≡◌, refl, sym, ◌∙◌, ap, subst}
use mathlib.Core.List.{List, [], ◌∷◌}
use mathlib.Core.Logic.{◌⊎◌, inl, inr}
use Prim.Native.Nat.{ℕ, zero, suc}
use Rattle.word.specs.Memory.{set}
use Rattle.word.proofs.Set.{set_other}
use Rattle.world.specs.Events.{Event, write, mark, store, happen, Among, All}
use Rattle.world.proofs.Events.{among_map, all_first, all_moments, mark_same}
use Rattle.world.specs.Walker.{Walker, WalkerLaws, Reads, ReadsIn, Below, On, here}
use Rattle.world.proofs.Ways.{follows_step, follows_agree, on_step, on_same, on_write, below_reads}
use Rattle.world.specs.Held.{MayHold, None, Can}
use Rattle.world.proofs.Held.{Always, always_held}
use Rattle.world.specs.Discipline.{Grow, Safe}

module _ {Word View Address Place Answer : Type 0} (W : Walker Word View Address Place Answer) (L : WalkerLaws W) where
  open W use {see, start, left, step}
  open L use {local, rests, alike_refl}

  -- all that is left to read from p in m is frozen, and shows what it showed in n
  record Froze (F : ℕ → Type 0) (m n : ℕ → Word) (va : Address) (p : Place) : Type 0 where
    within : (x : ℕ) → Reads W m va p x → F x
    shows : (x : ℕ) → Reads W m va p x → see (m x) ≡ see (n x)

  -- p was on the way of va at a moment of which P holds; it is so now, or what it has still to read is frozen, and as it was then
  record Was (P : (ℕ → Word) → Type 0) (F : ℕ → Type 0) (m : ℕ → Word) (va : Address) (p : Place) : Type 0 where
    moment : ℕ → Word
    good : P moment
    on : On W moment va p (start va)
    state : On W m va p (start va) ⊎ Froze F m moment va p

  was_now : (P : (ℕ → Word) → Type 0) (F : ℕ → Type 0) (m : ℕ → Word) (va : Address) (p : Place) → P m → On W m va p (start va) → Was P F m va p
  was_now P F m va p g o = record { moment = m; good = g; on = o; state = inl o }

  same_step : (m m' : ℕ → Word) (va : Address) (p : Place) → ((x : ℕ) → Reads W m va p x → see (m x) ≡ see (m' x)) → step m va p ≡ step m' va p
  unfolding ReadsIn
  same_step m m' va p a = go (left p) refl
    where
      go : (n : ℕ) → left p ≡ n → step m va p ≡ step m' va p
      go zero e = rests m va p e ∙ sym (rests m' va p e)
      go (suc n) e = local m m' va p (λ c f. a c (subst (λ k. ReadsIn W m va k p c) (sym e) (inl f)))

  was_step : (P : (ℕ → Word) → Type 0) (F : ℕ → Type 0) (m : ℕ → Word) → P m → (va : Address) (p : Place) → Was P F m va p → Was P F m va (step m va p)
  was_step P F m g va p w = go w.state
    where
      go : On W m va p (start va) ⊎ Froze F m w.moment va p → Was P F m va (step m va p)
      go (inl o) = was_now P F m va (step m va p) g (on_step W L m va p (start va) o)
      go (inr z) = record {
        moment = w.moment;
        good = w.good;
        on = subst (λ q. On W w.moment va q (start va)) (sym (same_step m w.moment va p z.shows)) (on_step W L w.moment va p (start va) w.on);
        state = inr (record { within = λ x r. z.within x ((follows_step W L va m p).within x r); shows = λ x r. z.shows x ((follows_step W L va m p).within x r) });
      }

  was_holds : (P : (ℕ → Word) → Type 0) (F : ℕ → Type 0) (m : ℕ → Word) (H : Address → Place → Type 0) → P m → Always W (Was P F m) H → Always W (Was P F m) (MayHold W m H)
  was_holds P F m H g = always_held W L (Was P F m) m H (λ va. was_now P F m va (start va) g here) (was_step P F m g)

  -- a change that leaves what it has to read, all of which is frozen now
  was_frozen : (P : (ℕ → Word) → Type 0) (G : ℕ → Type 0) (m m' n : ℕ → Word) (va : Address) (p : Place) → P n → On W n va p (start va)
      → ((x : ℕ) → Reads W m va p x → see (m' x) ≡ see (m x)) → Froze G m n va p → Was P G m' va p
  was_frozen P G m m' n va p g o h z =
      let k = follows_agree W L va m m' p h in
      record {
        moment = n;
        good = g;
        on = o;
        state = inr (record { within = λ x r. z.within x (k.within x r); shows = λ x r. h x (k.within x r) ∙ z.shows x (k.within x r) });
      }

  -- The three events. Each leaves p on its way, or p was frozen, or the event freezes it (G: what is frozen then).
  was_set : (P : (ℕ → Word) → Type 0) (F G : ℕ → Type 0) (m : ℕ → Word) (a : ℕ) (v : Word) → P m → P (set m a v) → ((x : ℕ) → F x → G x) → ¬ G a
      → ((va : Address) (x : ℕ) → Below W m va (start va) a x → G x) → (va : Address) (p : Place) → Was P F m va p → Was P G (set m a v) va p
  was_set P F G m a v g g' f n c va p w = go w.state
    where
      apart : ((x : ℕ) → Reads W m va p x → G x) → (x : ℕ) → Reads W m va p x → see (set m a v x) ≡ see (m x)
      apart k x r = ap see (set_other m a v x (λ e. n (subst G (sym e) (k x r))))

      cut : On W m va p (start va) → On W (set m a v) va p (start va) ⊎ ((x : ℕ) → Reads W m va p x → Below W m va (start va) a x) → Was P G (set m a v) va p
      cut o (inl o') = was_now P G (set m a v) va p g' o'
      cut o (inr b) =
          let k : (x : ℕ) → Reads W m va p x → G x = λ x r. c va x (b x r) in
          was_frozen P G m (set m a v) m va p g o (apart k) (record { within = k; shows = λ x r. refl })

      go : On W m va p (start va) ⊎ Froze F m w.moment va p → Was P G (set m a v) va p
      go (inl o) = cut o (on_write W L m a v va p (start va) o)
      go (inr z) =
          let k : (x : ℕ) → Reads W m va p x → G x = λ x r. f x (z.within x r) in
          was_frozen P G m (set m a v) w.moment va p w.good w.on (apart k) (record { within = k; shows = z.shows })

  was_mark : (P : (ℕ → Word) → Type 0) (F : ℕ → Type 0) (m : ℕ → Word) (a : ℕ) (v : Word) → P (set m a v) → see v ≡ see (m a)
      → (va : Address) (p : Place) → Was P F m va p → Was P F (set m a v) va p
  was_mark P F m a v g' e va p w = go w.state
    where
      go : On W m va p (start va) ⊎ Froze F m w.moment va p → Was P F (set m a v) va p
      go (inl o) = was_now P F (set m a v) va p g' (on_same W L m (set m a v) va p (start va) (mark_same see m a v e) o)
      go (inr z) = was_frozen P F m (set m a v) w.moment va p w.good w.on (λ x r. mark_same see m a v e x) z

  always_was : (es : List (Event Word)) (P : (ℕ → Word) → Type 0) (F : ℕ → Type 0) (m : ℕ → Word) (H : Address → Place → Type 0) → All m es P → Always W (Was P F m) H
      → Safe W F m es → (va : Address) (p : Place) → Can W m es H va p → (x : ℕ → Word) × P x × On W x va p (start va)
  unfolding All Can Safe happen
  always_was [] P F m H g k s va p c = let w = was_holds P F m H g k va p c va (alike_refl (left p) va) in (w.moment, w.good, w.on)
  always_was (write a v ∷ es) P F m H g k s va p c =
      always_was es P (Grow W F m a) (set m a v) (MayHold W m H) g.1
      (λ va p q vb d. was_set P F (Grow W F m a) m a v g.0 (all_first es (set m a v) P g.1) (λ x f. inl f) s.0 (λ vc x b. inr (vc, b)) vb p
      (was_holds P F m H g.0 k va p q vb d)) s.1 va p c
  always_was (mark a v ∷ es) P F m H g k s va p c =
      always_was es P F (set m a v) (MayHold W m H) g.1
      (λ va p q vb d. was_mark P F m a v (all_first es (set m a v) P g.1) s.0 vb p (was_holds P F m H g.0 k va p q vb d)) s.1 va p c
  always_was (store a v ∷ es) P F m H g k s va p c =
      always_was es P F (set m a v) (MayHold W m H) g.1
      (λ va p q vb d. was_set P F F m a v g.0 (all_first es (set m a v) P g.1) (λ x f. f) s.0
      (λ vc x b. absurd (s.1 vc (below_reads W L m vc (left (start vc)) (start vc) a x b))) vb p
      (was_holds P F m H g.0 k va p q vb d)) s.2 va p c

  -- WHAT IS HELD WAS ON ITS WAY
  pub was_on : (es : List (Event Word)) (F : ℕ → Type 0) (m : ℕ → Word) → Safe W F m es → (va : Address) (p : Place) → Can W m es (None W) va p
      → Among m es (λ x. On W x va p (start va))
  was_on es F m s va p c =
      let t = always_was es (λ m'. Among m es (λ n. n ≡ m')) F m (None W) (all_moments es m _ (λ m' q. q)) (λ vb q x. absurd x) s va p c in
      among_map es m _ _ (λ n e. subst (λ y. On W y va p (start va)) (sym e) t.2) t.1
