-- A walk beside writes that change the meaning once ends with the old meaning or with the new one, and never with something in between.
use mathlib.Core.Path.{◌≡◌, refl, sym, ◌∙◌, ap, subst}
use mathlib.Core.List.{List, [], ◌∷◌, ◌++◌, append_assoc}
use mathlib.Core.Logic.{◌⊎◌, inl, inr}
use Prim.Native.Nat.{ℕ}
use Rattle.word.specs.Memory.{set}
use Rattle.word.proofs.Set.{set_other}
use Rattle.world.specs.Events.{Event, write, happen, after, All}
use Rattle.world.proofs.Events.{after_append, all_map, all_both, all_last, all_append}
use Rattle.world.specs.Walker.{Walker, WalkerLaws, meaning, Gives, Reads}
use Rattle.world.proofs.Ways.{follows_agree}
use Rattle.world.specs.Held.{None, Can, starts}
use Rattle.world.proofs.Held.{Had}
use Rattle.world.proofs.Discipline.{interleaving_had}
use Rattle.world.specs.Rules.{Obeys}
use Rattle.world.proofs.Rules.{Shows}
use Rattle.world.specs.Marks.{writes, Fair, Inside, Agree}
use Rattle.world.proofs.Marks.{obeys_beside, agree_beside, all_beside}
use Rattle.world.specs.Turns.{Turn, events, at_start, places}
use Rattle.world.proofs.Turns.{places_held}
use Rattle.world.specs.OneChange.{SameMeaning, Quiet, OneChange}

module _ {Word View Address Place Answer : Type 0} (W : Walker Word View Address Place Answer) where
  -- at a moment all is old, or all is new
  abbrev pub OldOrNew : (m m' : ℕ → Word) → (ℕ → Word) → Type 0
  OldOrNew m m' n = SameMeaning W m n ⊎ SameMeaning W m' n

module _ {Word View Address Place Answer : Type 0} (W : Walker Word View Address Place Answer) (L : WalkerLaws W) where
  open W use {see, start}

  -- memories that show walks the same mean the same
  pub same_meaning : (m m' : ℕ → Word) → Shows W m m' → SameMeaning W m m'
  same_meaning m m' e va = (follows_agree W L va m m' (start va) (e va)).comes

  pub old_or_new : (es : List (Event Word)) (m : ℕ → Word) → OneChange W m es → All m es (OldOrNew W m (after m es))
  unfolding All after happen
  old_or_new es m c =
      subst (λ l. All m l (OldOrNew W m (after m es))) (sym c.split)
      (all_append c.front (write c.place c.word ∷ c.back) m _ (all_map c.front m _ _ (λ n q. inl q) c.old)
      (inl (all_last c.front m (SameMeaning W m) c.old), all_map c.back next _ _ (λ n q. inr (λ va. q va ∙ sym (end va))) c.new))
    where
      next : ℕ → Word
      next = set (after m c.front) c.place c.word

      end : SameMeaning W next (after m es)
      end va = ap (λ n. meaning W n va) (ap (after m) c.split ∙ after_append c.front (write c.place c.word ∷ c.back) m)
          ∙ all_last c.back next (SameMeaning W next) c.new va

  -- At every moment, with marks and others' stores in between, all is old or all is new.
  pub old_or_new_beside : (Ours : ℕ → Type 0) (es : List (Event Word)) (m m' : ℕ → Word) → Agree W Ours m m' → Fair W Ours m' es → All m (writes es) (Inside W Ours)
      → OneChange W m (writes es) → All m' es (OldOrNew W m (after m (writes es)))
  old_or_new_beside Ours es m m' e f i c =
      all_beside W L Ours es m m' (λ n. Inside W Ours n × OldOrNew W m end n) (OldOrNew W m end) blind e f (all_both (writes es) m _ _ i (old_or_new (writes es) m c))
    where
      end : ℕ → Word
      end = after m (writes es)

      blind : (n n' : ℕ → Word) → Agree W Ours n n' → Inside W Ours n × OldOrNew W m end n → OldOrNew W m end n'
      blind n n' a (j, inl q) = inl (λ vb. same_meaning n n' (λ vc x r. a x (j vc x r)) vb ∙ q vb)
      blind n n' a (j, inr q) = inr (λ vb. same_meaning n n' (λ vc x r. a x (j vc x r)) vb ∙ q vb)

  -- BESIDE ONE CHANGE, with marks and others' stores in between: whatever a walk ends with or a cache gives is what its address meant before,
  -- or what it means after. (A cache that is empty at first: what it holds from before, see Reports.antt.)
  pub one_change : (Ours : ℕ → Type 0) (es : List (Event Word)) (F G : ℕ → Type 0) (m : ℕ → Word) → ((x : ℕ) → F x → Ours x) → Fair W Ours m es
      → All m (writes es) (Inside W Ours) → Obeys W F m (writes es) G → OneChange W m (writes es)
      → (va : Address) (p : Place) (o : Answer) → Can W m es (None W) va p → Gives W va p o → (o ≡ meaning W m va) ⊎ (o ≡ meaning W (after m es) va)
  one_change Ours es F G m u f i b c va p o h g = go t.good
    where
      end : ℕ → Word
      end = after m (writes es)

      t : Had W (OldOrNew W m end) (after m es) va p
      t = interleaving_had W L es F m (obeys_beside W L Ours es F G m m u (λ x k. refl) f i b).safe (OldOrNew W m end) (old_or_new_beside Ours es m m (λ x k. refl) f i c) va p h

      is : o ≡ meaning W t.moment va
      is = sym (g (after m es)) ∙ t.follows.comes

      go : OldOrNew W m end t.moment → (o ≡ meaning W m va) ⊎ (o ≡ meaning W (after m es) va)
      go (inl q) = inl (is ∙ q va)
      go (inr q) =
          let last = all_last (writes es) m (Inside W Ours) i in
          inr (is ∙ q va ∙ sym (same_meaning end (after m es) (λ vb x r. agree_beside W L Ours es m m (λ y k. refl) f x (last vb x r)) va))

  -- The same for any number of walks in turn.
  pub one_change_each_walk : (Ours : ℕ → Type 0) (who : ℕ → Address) (ts : List (Turn Word)) (F G : ℕ → Type 0) (m : ℕ → Word) → ((x : ℕ) → F x → Ours x)
      → Fair W Ours m (events ts) → All m (writes (events ts)) (Inside W Ours) → Obeys W F m (writes (events ts)) G → OneChange W m (writes (events ts)) → (i : ℕ) (o : Answer) → Gives W (who i) (places W who m (at_start W who) ts i) o
      → (o ≡ meaning W m (who i)) ⊎ (o ≡ meaning W (after m (events ts)) (who i))
  one_change_each_walk Ours who ts F G m u f j b c i o =
      one_change Ours (events ts) F G m u f j b c (who i) (places W who m (at_start W who) ts i) o (places_held W L who ts m (None W) (at_start W who) i starts)

  -- RULES. Quiet lists: none, one event more, one list after the other.
  pub quiet_nil : (m : ℕ → Word) → Quiet W m []
  unfolding All
  quiet_nil m va = refl

  pub quiet_more : (e : Event Word) (es : List (Event Word)) (m : ℕ → Word) → SameMeaning W m (happen m e) → Quiet W (happen m e) es → Quiet W m (e ∷ es)
  unfolding All
  quiet_more e es m h q = (λ va. refl, all_map es (happen m e) _ _ (λ n r va. r va ∙ h va) q)

  pub quiet_append : (es fs : List (Event Word)) (m : ℕ → Word) → Quiet W m es → Quiet W (after m es) fs → Quiet W m (es ++ fs)
  quiet_append es fs m p q = all_append es fs m _ p (all_map fs (after m es) _ _ (λ n r va. r va ∙ all_last es m (SameMeaning W m) p va) q)

  -- a write of a cell that no walk reads changes no meaning
  pub unseen_same_meaning : (m : ℕ → Word) (a : ℕ) (v : Word) → ((va : Address) → ¬ Reads W m va (start va) a) → SameMeaning W m (set m a v)
  unseen_same_meaning m a v u va =
      (follows_agree W L va m (set m a v) (start va) (λ x r. ap see (set_other m a v x (λ e. u va (subst (Reads W m va (start va)) (sym e) r))))).comes

  -- One write; a quiet list before; a quiet list behind.
  pub change_one : (m : ℕ → Word) (a : ℕ) (v : Word) → OneChange W m (write a v ∷ [])
  change_one m a v = record { front = []; place = a; word = v; back = []; split = refl; old = quiet_nil m; new = quiet_nil _ }

  pub quiet_then_change : (es fs : List (Event Word)) (m : ℕ → Word) → Quiet W m es → OneChange W (after m es) fs → OneChange W m (es ++ fs)
  quiet_then_change es fs m q c = record {
    front = es ++ c.front;
    place = c.place;
    word = c.word;
    back = c.back;
    split = ap (λ l. es ++ l) c.split ∙ sym (append_assoc es c.front (write c.place c.word ∷ c.back));
    old = quiet_append es c.front m q c.old;
    new = subst (λ n. Quiet W (set n c.place c.word) c.back) (sym (after_append es c.front m)) c.new;
  }

  pub change_then_quiet : (es fs : List (Event Word)) (m : ℕ → Word) → OneChange W m es → Quiet W (after m es) fs → OneChange W m (es ++ fs)
  unfolding after happen
  change_then_quiet es fs m c q = record {
    front = c.front;
    place = c.place;
    word = c.word;
    back = c.back ++ fs;
    split = ap (λ l. l ++ fs) c.split ∙ append_assoc c.front (write c.place c.word ∷ c.back) fs;
    old = c.old;
    new = quiet_append c.back fs _ c.new
        (subst (λ n. Quiet W n fs) (ap (after m) c.split ∙ after_append c.front (write c.place c.word ∷ c.back) m) q);
  }
