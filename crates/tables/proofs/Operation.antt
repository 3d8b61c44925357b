-- What is carried along the writes of an operation, edit by edit.
use Prim.Native.Nat.{ℕ, ◌/◌}
use mathlib.Core.Logic.{◌⊎◌, inl, inr}
use mathlib.Core.List.{List, [], ◌∷◌, ◌++◌}
use mathlib.Core.Path.{◌≡◌, refl, sym, ap, ◌∙◌, subst}
use Rattle.word.specs.Memory.{set, at}
use Rattle.word.specs.Writes.{Write, write, after, Every}
use Rattle.word.proofs.Writes.{after_append}
use Rattle.walk.specs.declared.Found.{Found}
use Rattle.world.specs.Events as world
use Rattle.world.proofs.Events as world_laws
use Rattle.world.specs.Rules.{Obeys}
use Rattle.world.proofs.Rules.{obeys_append}
use Rattle.world.specs.OneChange.{Quiet, OneChange}
use Rattle.world.proofs.OneChange.{quiet_nil, quiet_more, quiet_append, change_one, quiet_then_change, change_then_quiet}
use Rattle.tables.specs.Roles.{Setting, Role, left, Built, Sound}
use Rattle.tables.specs.Meaning.{meaning}
use Rattle.tables.specs.Discipline.{Aside, walker_of, ObeysOf}
use Rattle.tables.proofs.Discipline.{Unread, unread}
use Rattle.tables.specs.Clearing.{events_of}
use Rattle.tables.proofs.Clearing.{events_append, events_after, same_meaning, Spare, LeavesTables, spare_untouched, untouched_holds}
use Rattle.tables.specs.Operation.{Moment, Changed}
use Rattle.tables.proofs.Walks.{laws_of}

-- one write, as a list
pub quiet_one : (σ : Setting) (m : ℕ → ℕ) (p i v : ℕ) → ((va : ℕ) → meaning σ (set m (at p i) v) va ≡ meaning σ m va)
    → Quiet (walker_of σ) m (events_of (write p i v ∷ []))
unfolding events_of world.happen
quiet_one σ m p i v h =
    quiet_more (walker_of σ) (laws_of σ) (world.write (at p i) v) [] m (same_meaning σ m (set m (at p i) v) h) (quiet_nil (walker_of σ) (laws_of σ) (set m (at p i) v))

pub obeys_one : (σ : Setting) (m : ℕ → ℕ) (p i v : ℕ) (role role' : ℕ → Role) → ObeysOf σ role m (world.write (at p i) v ∷ []) role'
    → ObeysOf σ role m (events_of (write p i v ∷ [])) role'
unfolding events_of
obeys_one σ m p i v role role' o = o

pub change_write : (σ : Setting) (m : ℕ → ℕ) (p i v : ℕ) → OneChange (walker_of σ) m (events_of (write p i v ∷ []))
unfolding events_of
change_write σ m p i v = change_one (walker_of σ) (laws_of σ) m (at p i) v

pub moments_start : {σ : Setting} {m : ℕ → ℕ} {role : ℕ → Role} → Built σ m role → world.All m (events_of []) (Moment σ role role)
unfolding events_of world.All
moments_start {role = role} b = record { roles = role; built = b; between = λ p. inl refl }

pub moments_one : {σ : Setting} {m : ℕ → ℕ} {role role' : ℕ → Role} (p i v : ℕ) → Built σ m role → Built σ (set m (at p i) v) role'
    → world.All m (events_of (write p i v ∷ [])) (Moment σ role role')
unfolding events_of world.All world.happen
moments_one {role = role} {role'} p i v b b' = (
  record { roles = role; built = b; between = λ p. inl refl },
  record { roles = role'; built = b'; between = λ p. inr refl },
)

pub moments_spare : {σ : Setting} {m : ℕ → ℕ} {role : ℕ → Role} {xs : List Write} → LeavesTables σ m role xs → world.All m (events_of xs) (Moment σ role role)
moments_spare {σ} {m} {role} {xs} k =
    world_laws.all_map (events_of xs) m (λ n. Built σ n role) (Moment σ role role) (λ n b. record { roles = role; built = b; between = λ p. inl refl }) k.moments

-- m is the memory after xs; ys comes then
module _ (σ : Setting) (m₀ m : ℕ → ℕ) (xs : List Write) (now : m ≡ after m₀ xs) where
  now_events : m ≡ world.after m₀ (events_of xs)
  now_events = now ∙ sym (events_after m₀ xs)

  pub after_then : (ys : List Write) → after m ys ≡ after m₀ (xs ++ ys)
  after_then ys = ap (λ x. after x ys) now ∙ sym (after_append m₀ xs ys)

  pub after_write : (p i v : ℕ) → set m (at p i) v ≡ after m₀ (xs ++ (write p i v ∷ []))
  unfolding after
  after_write p i v = after_then (write p i v ∷ [])

  pub quiet_then : (ys : List Write) → Quiet (walker_of σ) m₀ (events_of xs) → Quiet (walker_of σ) m (events_of ys) → Quiet (walker_of σ) m₀ (events_of (xs ++ ys))
  quiet_then ys p q =
      subst (Quiet (walker_of σ) m₀) (sym (events_append xs ys))
      (quiet_append (walker_of σ) (laws_of σ) (events_of xs) (events_of ys) m₀ p (subst (λ x. Quiet (walker_of σ) x (events_of ys)) now_events q))

  pub change_then : (ys : List Write) → OneChange (walker_of σ) m₀ (events_of xs) → Quiet (walker_of σ) m (events_of ys) → OneChange (walker_of σ) m₀ (events_of (xs ++ ys))
  change_then ys p q =
      subst (OneChange (walker_of σ) m₀) (sym (events_append xs ys))
      (change_then_quiet (walker_of σ) (laws_of σ) (events_of xs) (events_of ys) m₀ p (subst (λ x. Quiet (walker_of σ) x (events_of ys)) now_events q))

  -- the write that changes the meaning, after writes that did not
  pub change_now : (p i v : ℕ) → Quiet (walker_of σ) m₀ (events_of xs) → OneChange (walker_of σ) m₀ (events_of (xs ++ (write p i v ∷ [])))
  change_now p i v q =
      subst (OneChange (walker_of σ) m₀) (sym (events_append xs (write p i v ∷ [])))
      (quiet_then_change (walker_of σ) (laws_of σ) (events_of xs) (events_of (write p i v ∷ [])) m₀ q (change_write σ (world.after m₀ (events_of xs)) p i v))

  pub obeys_then : (ys : List Write) (role₀ role role' : ℕ → Role) → ObeysOf σ role₀ m₀ (events_of xs) role → ObeysOf σ role m (events_of ys) role'
      → ObeysOf σ role₀ m₀ (events_of (xs ++ ys)) role'
  obeys_then ys role₀ role role' p q =
      subst (λ es. ObeysOf σ role₀ m₀ es role') (sym (events_append xs ys))
      (obeys_append (walker_of σ) (laws_of σ) (events_of xs) (events_of ys) (Aside role₀) (Aside role) (Aside role') m₀ p
      (subst (λ x. Obeys (walker_of σ) (Aside role) x (events_of ys) (Aside role')) now_events q))

  -- Each page takes another role at most once.
  pub moments_then : (ys : List Write) (role₀ role role' : ℕ → Role) → ((p : ℕ) → (role' p ≡ role p) ⊎ (role p ≡ role₀ p))
      → world.All m₀ (events_of xs) (Moment σ role₀ role) → world.All m (events_of ys) (Moment σ role role') → world.All m₀ (events_of (xs ++ ys)) (Moment σ role₀ role')
  moments_then ys role₀ role role' once p q =
      subst (λ es. world.All m₀ es (Moment σ role₀ role')) (sym (events_append xs ys))
      (world_laws.all_append (events_of xs) (events_of ys) m₀ (Moment σ role₀ role') (world_laws.all_map (events_of xs) m₀ (Moment σ role₀ role) (Moment σ role₀ role') early p)
      (subst (λ x. world.All x (events_of ys) (Moment σ role₀ role')) now_events (world_laws.all_map (events_of ys) m (Moment σ role role') (Moment σ role₀ role') late q)))
    where
      early : (n : ℕ → ℕ) → Moment σ role₀ role n → Moment σ role₀ role' n
      early n t = record { roles = t.roles; built = t.built; between = λ x. go x (t.between x) (once x) }
        where
          go : (x : ℕ) → (t.roles x ≡ role₀ x) ⊎ (t.roles x ≡ role x) → (role' x ≡ role x) ⊎ (role x ≡ role₀ x) → (t.roles x ≡ role₀ x) ⊎ (t.roles x ≡ role' x)
          go x (inl e) k = inl e
          go x (inr e) (inl f) = inr (e ∙ sym f)
          go x (inr e) (inr f) = inl (e ∙ f)

      late : (n : ℕ → ℕ) → Moment σ role role' n → Moment σ role₀ role' n
      late n t = record { roles = t.roles; built = t.built; between = λ x. go x (t.between x) (once x) }
        where
          go : (x : ℕ) → (t.roles x ≡ role x) ⊎ (t.roles x ≡ role' x) → (role' x ≡ role x) ⊎ (role x ≡ role₀ x) → (t.roles x ≡ role₀ x) ⊎ (t.roles x ≡ role' x)
          go x (inr e) k = inr e
          go x (inl e) (inl f) = inr (e ∙ sym f)
          go x (inl e) (inr f) = inl (e ∙ f)

-- what holds between operations holds after it
pub changed_sound : {σ : Setting} {m₀ m : ℕ → ℕ} {role₀ role : ℕ → Role} {va l : ℕ} {o : Found} {xs : List Write} → Changed σ m₀ role₀ va l o xs m role → Sound σ m role
changed_sound c = record { built = c.turns.built; filled = c.filled }

-- Writes into spare pages, such as the book's, may follow.
pub changed_spare : {σ : Setting} {m₀ m : ℕ → ℕ} {role₀ role : ℕ → Role} {va l : ℕ} {o : Found} {xs : List Write} (ys : List Write)
    → Changed σ m₀ role₀ va l o xs m role → Every (Spare role) ys → Changed σ m₀ role₀ va l o (xs ++ ys) (after m ys) role
changed_spare {σ} {m₀} {m} {role₀} {role} {va} {l} {o} {xs} ys c u =
    let k = spare_untouched ys c.turns.built u in
    record {
      now = after_then σ m₀ m xs c.now ys;
      turns = record {
        built = k.built;
        in_range = λ vb near. k.same vb ∙ c.turns.in_range vb near;
        elsewhere = λ vb far. k.same vb ∙ c.turns.elsewhere vb far;
      };
      filled = λ p j q i h. untouched_holds k p j (ap left h) (c.filled p j q i h);
      change = change_then σ m₀ m xs c.now ys c.change k.quiet;
      moments = moments_then σ m₀ m xs c.now ys role₀ role role (λ p. inl refl) c.moments (moments_spare k);
      obeys = obeys_then σ m₀ m xs c.now ys role₀ role role c.obeys k.obeys;
    }

-- A word of a page that no walk comes to, before and after, is read at no moment of the operation.
pub changed_unread : {σ : Setting} {m₀ m : ℕ → ℕ} {role₀ role : ℕ → Role} {va l : ℕ} {o : Found} {xs : List Write} → Changed σ m₀ role₀ va l o xs m role
    → (x : ℕ) → left (role₀ (x / 512)) ≡ 0 → left (role (x / 512)) ≡ 0 → world.All m₀ (events_of xs) (Unread σ x)
changed_unread {σ} {m₀} {m} {role₀} {role} {xs = xs} c x u v =
    world_laws.all_map (events_of xs) m₀ (Moment σ role₀ role) (Unread σ x) (λ n t. unread t.built x (go n t (t.between (x / 512)))) c.moments
  where
    go : (n : ℕ → ℕ) (t : Moment σ role₀ role n) → (t.roles (x / 512) ≡ role₀ (x / 512)) ⊎ (t.roles (x / 512) ≡ role (x / 512)) → left (t.roles (x / 512)) ≡ 0
    go n t (inl e) = ap left e ∙ u
    go n t (inr e) = ap left e ∙ v
