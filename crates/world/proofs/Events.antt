-- Laws of events: what holds at some moment of a list of them, and what holds at all.
use mathlib.Core.Path.{◌≡◌, refl, subst}
use mathlib.Core.List.{List, [], ◌∷◌, ◌++◌}
use mathlib.Core.Logic.{◌⊎◌, inl, inr}
use Prim.Native.Nat.{ℕ}
use native.Mathlib.Decide.{ℕ_discrete}
use Rattle.word.specs.Memory.{set}
use Rattle.word.proofs.Set.{set_same, set_other}
use Rattle.world.specs.Events.{Event, happen, after, Among, All}

module _ {Word : Type 0} where
  pub after_append : (es fs : List (Event Word)) (m : ℕ → Word) → after m (es ++ fs) ≡ after (after m es) fs
  unfolding after
  after_append [] fs m = refl
  after_append (e ∷ es) fs m = after_append es fs (happen m e)

  pub among_map : (es : List (Event Word)) (m : ℕ → Word) (P Q : (ℕ → Word) → Type 0) → ((m' : ℕ → Word) → P m' → Q m') → Among m es P → Among m es Q
  unfolding Among
  among_map [] m P Q f p = f m p
  among_map (e ∷ es) m P Q f (inl p) = inl (f m p)
  among_map (e ∷ es) m P Q f (inr p) = inr (among_map es (happen m e) P Q f p)

  -- what holds of each moment that there is, holds at every moment
  pub all_moments : (es : List (Event Word)) (m : ℕ → Word) (P : (ℕ → Word) → Type 0) → ((m' : ℕ → Word) → Among m es (λ n. n ≡ m') → P m') → All m es P
  unfolding Among All
  all_moments [] m P f = f m refl
  all_moments (e ∷ es) m P f = (f m (inl refl), all_moments es (happen m e) P (λ m' q. f m' (inr q)))

  pub all_map : (es : List (Event Word)) (m : ℕ → Word) (P Q : (ℕ → Word) → Type 0) → ((m' : ℕ → Word) → P m' → Q m') → All m es P → All m es Q
  unfolding All
  all_map [] m P Q f p = f m p
  all_map (e ∷ es) m P Q f p = (f m p.0, all_map es (happen m e) P Q f p.1)

  pub all_both : (es : List (Event Word)) (m : ℕ → Word) (P Q : (ℕ → Word) → Type 0) → All m es P → All m es Q → All m es (λ n. P n × Q n)
  unfolding All
  all_both [] m P Q p q = (p, q)
  all_both (e ∷ es) m P Q p q = ((p.0, q.0), all_both es (happen m e) P Q p.1 q.1)

  pub all_first : (es : List (Event Word)) (m : ℕ → Word) (P : (ℕ → Word) → Type 0) → All m es P → P m
  unfolding All
  all_first [] m P p = p
  all_first (e ∷ es) m P p = p.0

  pub all_last : (es : List (Event Word)) (m : ℕ → Word) (P : (ℕ → Word) → Type 0) → All m es P → P (after m es)
  unfolding All after
  all_last [] m P p = p
  all_last (e ∷ es) m P p = all_last es (happen m e) P p.1

  -- the first part of the events
  pub all_front : (es fs : List (Event Word)) (m : ℕ → Word) (P : (ℕ → Word) → Type 0) → All m (es ++ fs) P → All m es P
  unfolding All
  all_front [] fs m P p = all_first fs m P p
  all_front (e ∷ es) fs m P p = (p.0, all_front es fs (happen m e) P p.1)

  pub all_append : (es fs : List (Event Word)) (m : ℕ → Word) (P : (ℕ → Word) → Type 0) → All m es P → All (after m es) fs P → All m (es ++ fs) P
  unfolding All after
  all_append [] fs m P p q = q
  all_append (e ∷ es) fs m P p q = (p.0, all_append es fs (happen m e) P p.1 q)

  -- A mark that shows what was there is seen nowhere.
  pub mark_same : {View : Type 0} (see : Word → View) (m : ℕ → Word) (a : ℕ) (v : Word) → see v ≡ see (m a) → (x : ℕ) → see (set m a v x) ≡ see (m x)
  mark_same see m a v e x = go (ℕ_discrete a x)
    where
      go : Dec (a ≡ x) → see (set m a v x) ≡ see (m x)
      go (yes p) = subst (λ y. see (set m a v y) ≡ see (m y)) p (rw set_same e)
      go (no n) = rw set_other

  -- One event more, at the end.
  pub after_more : (es : List (Event Word)) (e : Event Word) (m : ℕ → Word) → after m (es ++ (e ∷ [])) ≡ happen (after m es) e
  unfolding after
  after_more es e m = after_append es (e ∷ []) m

  pub among_now : (es : List (Event Word)) (m : ℕ → Word) (P : (ℕ → Word) → Type 0) → P m → Among m es P
  unfolding Among
  among_now [] m P p = p
  among_now (e ∷ es) m P p = inl p

  pub among_last : (es : List (Event Word)) (m : ℕ → Word) (P : (ℕ → Word) → Type 0) → P (after m es) → Among m es P
  unfolding Among after
  among_last [] m P p = p
  among_last (e ∷ es) m P p = inr (among_last es (happen m e) P p)

  pub among_append : (es fs : List (Event Word)) (m : ℕ → Word) (P : (ℕ → Word) → Type 0) → Among m es P ⊎ Among (after m es) fs P → Among m (es ++ fs) P
  unfolding Among after
  among_append [] fs m P (inl p) = among_now fs m P p
  among_append [] fs m P (inr p) = p
  among_append (e ∷ es) fs m P (inl (inl p)) = inl p
  among_append (e ∷ es) fs m P (inl (inr p)) = inr (among_append es fs (happen m e) P (inl p))
  among_append (e ∷ es) fs m P (inr p) = inr (among_append es fs (happen m e) P (inr p))

  pub among_split : (es fs : List (Event Word)) (m : ℕ → Word) (P : (ℕ → Word) → Type 0) → Among m (es ++ fs) P → Among m es P ⊎ Among (after m es) fs P
  unfolding Among after
  among_split [] fs m P p = inr p
  among_split (e ∷ es) fs m P (inl p) = inl (inl p)
  among_split (e ∷ es) fs m P (inr p) = elim (among_split es fs (happen m e) P p) [ inl q ↦ inl (inr q) | inr q ↦ inr q ]

  -- what is so at every moment is so at this one
  pub among_all : (es : List (Event Word)) (m : ℕ → Word) (P R : (ℕ → Word) → Type 0) → All m es P → Among m es R → (m' : ℕ → Word) × P m' × R m'
  unfolding Among All
  among_all [] m P R a r = (m, a, r)
  among_all (e ∷ es) m P R a (inl r) = (m, a.0, r)
  among_all (e ∷ es) m P R a (inr r) = among_all es (happen m e) P R a.1 r

  pub among_with : (es : List (Event Word)) (m : ℕ → Word) (P R : (ℕ → Word) → Type 0) → All m es P → Among m es R → Among m es (λ n. P n × R n)
  unfolding Among All
  among_with [] m P R a r = (a, r)
  among_with (e ∷ es) m P R a (inl r) = inl (a.0, r)
  among_with (e ∷ es) m P R a (inr r) = inr (among_with es (happen m e) P R a.1 r)
