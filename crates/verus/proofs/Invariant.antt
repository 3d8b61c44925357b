-- OUR INVARIANT GIVES THEIRS: every clause of inv_at and of no_empty_directories.
use Prim.Native.Nat.{ℕ, zero, suc, ◌+◌, ◌<◌, ◌≤◌}
use mathlib.Core.Bool.{Bool, true, false, false≢true}
use mathlib.Core.List.{List}
use mathlib.Core.Path.{◌≡◌, refl, sym, ap, ◌∙◌, subst}
use native.Mathlib.Omega.{arith}
use Rattle.word.specs.Memory.{at}
use Rattle.word.specs.Writes.{Write}
use Rattle.entry.specs.Entry.{bit, everything}
use Rattle.entry.specs.declared.Rights.{Rights}
use Rattle.entry.specs.declared.Entry.{Entry}
use Rattle.entry.specs.declared.Entry.TheVariants.{Nothing, Page, Table}
use Rattle.entry.proofs.Fields.{last_no_table}
use Rattle.walk.specs.declared.Found.{Found}
use Rattle.world.specs.Events.{All}
use Rattle.world.proofs.Events.{all_map}
use Rattle.tables.specs.Roles.{Setting, Role, foreign, free, aside, book, root, table, left, Live, entry_at, Home, Built, Filled}
use Rattle.tables.specs.Clearing.{events_of}
use Rattle.tables.specs.Operation.{Moment, Changed}
use Rattle.tables.proofs.Meaning.{live_home}
use Rattle.pool.specs.Booked.{setting_of}
use Rattle.pool.specs.declared.Space.{Space}
use Rattle.effect.specs.Whole.{Whole}
use Rattle.verus.specs.Entries.{MustBeZero}
use Rattle.verus.specs.Trees.{UsedBy, itself, below, InvAt, Inv, NoEmptyDirectories, InvAndNonempty, SomeInv}
use Rattle.entry.proofs.Levels.{bit_off}
use Rattle.entry.proofs.Parts.{bit_one, page_large, root_no_page, table_seven}

-- the page that names a table
parent_of : Role → ℕ
parent_of foreign = 0
parent_of free = 0
parent_of aside = 0
parent_of book = 0
parent_of root = 0
parent_of (table n q i) = q

-- j tables up from page p
climbed : (ℕ → Role) → ℕ → ℕ → ℕ
climbed role zero p = p
climbed role (suc j) p = parent_of (role (climbed role j p))

module _ {σ : Setting} {m : ℕ → ℕ} {role : ℕ → Role} (b : Built σ m role) where
  low_role : (q l : ℕ) → Live role q l → l < 4
  low_role q l v = go (role q) refl
    where
      go : (r : Role) → role q ≡ r → l < 4
      go foreign e = absurd (omega (arith, v, ap left e))
      go free e = absurd (omega (arith, v, ap left e))
      go aside e = absurd (omega (arith, v, ap left e))
      go book e = absurd (omega (arith, v, ap left e))
      go root e = omega (arith, v, ap left e)
      go (table n p i) e = omega (arith, v, ap left e, b.low q n p i e)

  -- an entry that names a table: its level, and the table's role
  named : (l q i t : ℕ) (g : Rights) → Live role q l → i < 512 → entry_at m l q i ≡ Table t g → (k : ℕ) × (l ≡ suc k) × (role t ≡ table l q i)
  named zero q i t g v u e = absurd (last_no_table _ t g e)
  named (suc k) q i t g v u e = (k, refl, (b.down q (suc k) i t g v u e).0)

  -- a table that the table t uses: t lies above it, as many tables up as there are levels between
  used_climbs : {l t p : ℕ} → Live role t l → UsedBy m l t p → (j : ℕ) × (climbed role j p ≡ t) × (left (role p) + j ≡ suc l)
  unfolding climbed parent_of
  used_climbs v itself = (0, refl, omega (arith, v))
  used_climbs {l = suc l} {t} {p} v (below i s g u e sub) =
      let named_so = (b.down t (suc l) i s g v u e).0 in
      let k = used_climbs (ap left named_so) sub in
      (suc k.0, ap (λ x. parent_of (role x)) k.1 ∙ ap parent_of named_so, omega (arith, k.2))

  -- it has no more levels left than t, and is a table
  pub used_low : {l t p : ℕ} → Live role t l → UsedBy m l t p → left (role p) ≤ suc l
  used_low v x = let k = used_climbs v x in omega (arith, k.2)

  pub used_live : {l t p : ℕ} → Live role t l → UsedBy m l t p → (k : ℕ) × Live role p k
  used_live {l} v itself = (l, v)
  used_live {l = suc l} {t} v (below i s g u e sub) = used_live (ap left (b.down t (suc l) i s g v u e).0) sub

  used_home : {l t p : ℕ} → Live role t l → UsedBy m l t p → Home σ p
  used_home v itself = live_home b v
  used_home {l = suc l} {t} v (below i s g u e sub) = used_home (ap left (b.down t (suc l) i s g v u e).0) sub

  -- two tables at one level use no table together
  used_apart : {l s t p : ℕ} → Live role s l → Live role t l → UsedBy m l s p → UsedBy m l t p → s ≡ t
  used_apart {l} {s} {t} {p} v w x y =
      let a = used_climbs v x in
      let c = used_climbs w y in
      let same : a.0 ≡ c.0 = omega (arith, a.2, c.2) in
      sym a.1 ∙ ap (λ j. climbed role j p) same ∙ c.1

  -- reserved bits, of any word: by what it says
  mb0_of : (l q i : ℕ) → Live role q l → i < 512 → MustBeZero l (m (at q i))
  mb0_of l q i v u = go (entry_at m l q i) refl
    where
      go : (x : Entry) → entry_at m l q i ≡ x → MustBeZero l (m (at q i))
      go Nothing e = record { at_root = λ o z. absurd (none o); padding = λ o z k. absurd (none o) }
        where
          none : bit 0 (m (at q i)) ≡ true → ⊥
          none o = omega (arith, bit_one 0 (m (at q i)) o, b.zeros q l i v u e)
      go (Page f g) e = record { at_root = λ o z. absurd (root_no_page _ f g (subst (λ y. entry_at m y q i ≡ Page f g) z e)); padding = λ o z k. (page_large l _ f g z e).padding }
      go (Table t g) e =
          let seven : bit 7 (m (at q i)) ≡ false = bit_off 7 _ (table_seven l _ t g e) in
          record { at_root = λ o z. seven; padding = λ o z k. absurd (false≢true (sym seven ∙ k)) }

  pub inv_at : (l q : ℕ) → Live role q l → InvAt σ m role l q
  inv_at l q v = record {
    aligned = omega arith;
    allocated = (live_home b v, (l, v));
    layer_in_range = low_role q l v;
    zeroed = λ i u e. b.zeros q l i v u e;
    obeys = λ i t g u e. let n = named l q i t g v u e in (n.0, n.1, ap left n.2 ∙ n.1);
    flags = λ i t g u e. (b.down q l i t g v u e).1;
    matches = λ i t u. (λ k. (b.down q l i t k.0 v u k.1).0, λ k. (everything, (b.up t l q i k).2));
    disjoint = λ k i j s t g g' z u w n e f p x y.
        let ns = (named l q i s g v u e).2 in
        let nt = (named l q j t g' v w f).2 in
        let same : s ≡ t = used_apart (ap left ns ∙ z) (ap left nt ∙ z) x y in
        let roles : table l q i ≡ table l q j = sym ns ∙ ap role same ∙ nt in
        n cc;
    not_itself = λ k i s g z u e x. let n = (named l q i s g v u e).2 in omega (arith, v, z, (used_climbs (ap left n ∙ z) x).2);
    regions = λ p x. (used_home v x, used_live v x);
    hp_pat = λ i f g u e z. b.pat q l i v u f g e z;
    mb0 = λ i u. mb0_of l q i v u;
    large = λ i f g u e z. (page_large l _ f g z e).seven;
  }

  -- TABLES THAT WE BUILT have their invariant,
  pub inv_built : Inv σ m role
  inv_built = record { root = ap left b.starts; tables = inv_at }

  -- and where none but the root is empty, no directory of theirs is.
  pub none_empty : Filled m role → NoEmptyDirectories m role
  none_empty f l q i t g v u e = f t l q i (b.down q (suc l) i t g v u e).0

-- a space that is whole has it
pub inv_holds : {h : ℕ → Bool} {sp : Space} {m : ℕ → ℕ} {role : ℕ → Role} → Whole h sp m role → InvAndNonempty (setting_of h sp) m role
inv_holds w = record { inv = inv_built w.sound.built; nonempty = none_empty w.sound.built w.sound.filled }

-- AT EVERY MOMENT of an operation some ghost tree shows their invariant: before each write, and after it.
pub moments_inv : {σ : Setting} {m₀ m : ℕ → ℕ} {role₀ role : ℕ → Role} {va l : ℕ} {o : Found} {xs : List Write} → Changed σ m₀ role₀ va l o xs m role
    → All m₀ (events_of xs) (SomeInv σ)
moments_inv {σ} {m₀} {role₀ = role₀} {role} {xs = xs} c =
    all_map (events_of xs) m₀ (Moment σ role₀ role) (SomeInv σ) (λ n t. record { role = t.roles; inv = inv_built t.built }) c.moments
