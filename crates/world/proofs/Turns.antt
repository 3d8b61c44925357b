-- EACH WALK, at its own pace beside whatever happens, ends with what its address meant at a moment between its first step and its last.
use mathlib.Core.Path.{◌≡◌, refl, sym, ◌∙◌, ap, subst}
use mathlib.Core.List.{List, [], ◌∷◌, ◌++◌}
use Prim.Native.Nat.{ℕ}
use native.Mathlib.Decide.{ℕ_discrete}
use Rattle.word.specs.Memory.{set}
use Rattle.word.proofs.Set.{set_same, set_other}
use Rattle.world.specs.Events.{happen, after, Among}
use Rattle.world.specs.Walker.{Walker, WalkerLaws, meaning, Gives}
use Rattle.world.specs.Held.{MayHold, still, starts, steps, None, Can}
use Rattle.world.specs.Discipline.{Safe}
use Rattle.world.proofs.Discipline.{interleaving}
use Rattle.world.specs.Rules.{frozen}
use Rattle.world.proofs.Rules.{safe_first, safe_rest}
use Rattle.world.specs.Turns.{Turn, events, Idle, at_start, places, tick, event}

pub events_append : {Word : Type 0} (ts us : List (Turn Word)) → events (ts ++ us) ≡ events ts ++ events us
unfolding events
events_append [] us = refl
events_append (tick i ∷ ts) us = events_append ts us
events_append (event e ∷ ts) us = ap (◌∷◌ e) (events_append ts us)

module _ {Word View Address Place Answer : Type 0} (W : Walker Word View Address Place Answer) (L : WalkerLaws W) (who : ℕ → Address) where
  open W use {step}

  places_append : (ts us : List (Turn Word)) (m : ℕ → Word) (ps : ℕ → Place)
      → places W who m ps (ts ++ us) ≡ places W who (after m (events ts)) (places W who m ps ts) us
  unfolding places events after
  places_append [] us m ps = refl
  places_append (tick i ∷ ts) us m ps = places_append ts us m (set ps i (step m (who i) (ps i)))
  places_append (event e ∷ ts) us m ps = places_append ts us (happen m e) ps

  places_idle : (ts : List (Turn Word)) (m : ℕ → Word) (ps : ℕ → Place) (i : ℕ) → Idle i ts → places W who m ps ts i ≡ ps i
  unfolding places Idle
  places_idle [] m ps i d = refl
  places_idle (tick j ∷ ts) m ps i d = places_idle ts m (set ps j (step m (who j) (ps j))) i d.1 ∙ set_other ps j (step m (who j) (ps j)) i d.0
  places_idle (event e ∷ ts) m ps i d = places_idle ts (happen m e) ps i d

  -- where a walk stands is something that may be held
  pub places_held : (ts : List (Turn Word)) (m : ℕ → Word) (H : Address → Place → Type 0) (ps : ℕ → Place) (i : ℕ) → MayHold W m H (who i) (ps i)
      → Can W m (events ts) H (who i) (places W who m ps ts i)
  unfolding places events Can
  places_held [] m H ps i h = h
  places_held (event e ∷ ts) m H ps i h = places_held ts (happen m e) (MayHold W m H) ps i (still h)
  places_held (tick j ∷ ts) m H ps i h = places_held ts m H (set ps j (step m (who j) (ps j))) i (go (ℕ_discrete j i))
    where
      go : Dec (j ≡ i) → MayHold W m H (who i) (set ps j (step m (who j) (ps j)) i)
      go (yes e) = subst (λ k. MayHold W m H (who k) (set ps j (step m (who j) (ps j)) k)) e (rw set_same (steps (subst (λ k. MayHold W m H (who k) (ps k)) (sym e) h)))
      go (no n) = rw set_other h

  -- EACH WALK. All that happens keeps the discipline. Cut it at the first step of walk i and at its last: the walk ends with what its
  -- address meant at some moment in between.
  pub each_walk : (earlier during later : List (Turn Word)) (F : ℕ → Type 0) (m : ℕ → Word) → Safe W F m (events (earlier ++ (during ++ later)))
      → (i : ℕ) → Idle i earlier → Idle i later → (o : Answer) → Gives W (who i) (places W who m (at_start W who) (earlier ++ (during ++ later)) i) o
      → Among (after m (events earlier)) (events during) (λ m'. meaning W m' (who i) ≡ o)
  each_walk earlier during later F m s i d d' o g = interleaving W L (events during) (frozen W F m (events earlier)) now safe (who i) (places W who now ps during i) o held (rw place at g)
    where
      now : ℕ → Word
      now = after m (events earlier)

      ps : ℕ → Place
      ps = places W who m (at_start W who) earlier

      safe : Safe W (frozen W F m (events earlier)) now (events during)
      safe = safe_first W L (events during) (events later) _ now
          (subst (Safe W (frozen W F m (events earlier)) now) (events_append during later)
          (safe_rest W L (events earlier) (events (during ++ later)) F m (subst (Safe W F m) (events_append earlier (during ++ later)) s)))

      place : places W who m (at_start W who) (earlier ++ (during ++ later)) i ≡ places W who now ps during i
      place = ap (λ f. f i) (places_append earlier (during ++ later) m (at_start W who) ∙ places_append during later now ps) ∙ places_idle later _ (places W who now ps during) i d'

      held : Can W now (events during) (None W) (who i) (places W who now ps during i)
      held = places_held during now (None W) ps i (rw (places_idle earlier m (at_start W who) i d) starts)
