-- FOUND EXACTLY: in a space that is whole a page is found at va if and only if one starts there, and nothing else is ever the matter.
use Prim.Native.Nat.{ℕ, ◌%◌, ◌<◌}
use mathlib.Core.Bool.{Bool, true, false, false≢true}
use mathlib.Core.Path.{◌≡◌, refl, sym, ap, ◌∙◌}
use native.Mathlib.Decide.{ℕ_discrete}
use native.Mathlib.Nat.{div-add-mod'}
use native.Mathlib.Omega.{arith}
use borrow.Author.Tests.{le-leb, eq-eqb, ne_eqb}
use Rattle.std.proofs.Common.{Ok, Err}
use Rattle.entry.specs.Entry.{size_of, says}
use Rattle.entry.specs.declared.Rights.{Rights}
use Rattle.walk.specs.Walk.{canonical, base_of, index_of}
use Rattle.walk.specs.declared.Found.TheVariants as found
use Rattle.tables.specs.Roles.{Role, Setting}
use Rattle.tables.specs.Meaning.{meaning}
use Rattle.tables.proofs.Meaning.{mean_nothing, mean_page}
use Rattle.tables.proofs.Overlap.{starts_once}
use Rattle.tables.proofs.Way.{comes_address}
use Rattle.tables.proofs.Meaning as none
use Rattle.pool.specs.Booked.{setting_of}
use Rattle.pool.specs.declared.Space.{Space}
use Rattle.plan.specs.declared.Reason.{Reason}
use Rattle.plan.specs.declared.Reason.TheVariants.{BaseRange, NothingStarts}
use Rattle.plan.specs.declared.descent.Way.{Way}
use Rattle.plan.specs.declared.finding.PageEntry.{PageEntry}
use Rattle.plan.specs.Descend.{way_of}
use Rattle.plan.specs.Find.{starts_of, page_entry_of, found_because_of, found_stopped_of, sought_of, find_of}
use Rattle.effect.specs.StartsAt.{StartsAt, NotThere, no_address, none_starts}
use Rattle.effect.specs.Whole.{Whole}
use Rattle.plan.proofs.Found.{found_at}
use Rattle.effect.proofs.Located.{located}
use Rattle.effect.proofs.Trace.{Traced, Because, at_nothing, at_page, at_table}
use Rattle.effect.proofs.Wholes.{way_traced, book_names}

-- where none is found none starts, and there is one reason
pub nowhere : (σ : Setting) (m : ℕ → ℕ) (va : ℕ) (y : Reason) → NotThere σ m va y → ¬ StartsAt σ m va
nowhere σ m va y (none_starts u n) = n
nowhere σ m va y (no_address u) = λ a.
    let k = starts_once σ m va a.address a.size a.frame a.rights a.means in
    let z : ◌≡◌ {A = ℕ} 0 1 = cc (none.no_address σ m va u) in
    omega arith

pub not_there_once : (σ : Setting) (m : ℕ → ℕ) (va : ℕ) (x y : Reason) → NotThere σ m va x → NotThere σ m va y → x ≡ y
not_there_once σ m va x y (no_address u) (no_address v) = refl
not_there_once σ m va x y (none_starts u n) (none_starts v k) = refl
not_there_once σ m va x y (no_address u) (none_starts v n) = absurd (false≢true (sym u ∙ v))
not_there_once σ m va x y (none_starts u n) (no_address v) = absurd (false≢true (sym v ∙ u))

module _ {h : ℕ → Bool} {sp : Space} {m : ℕ → ℕ} {role : ℕ → Role} (w : Whole h sp m role) (va : ℕ) where
  -- what is found, or why not, and what that means
  pub data FindVerdict : Type 0 where
    there : (s : PageEntry) → find_of h m sp va ≡ Ok s → StartsAt (setting_of h sp) m va → FindVerdict
    missing : (y : Reason) → find_of h m sp va ≡ Err y → NotThere (setting_of h sp) m va y → FindVerdict

  -- an address that means nothing, or a page with another base: no page starts there
  nothing_starts : meaning (setting_of h sp) m va ≡ found.Nothing → ¬ StartsAt (setting_of h sp) m va
  nothing_starts e a =
      let k = starts_once (setting_of h sp) m va a.address a.size a.frame a.rights a.means in
      let z : ◌≡◌ {A = ℕ} 0 1 = cc in
      omega arith

  other_starts : (base size f : ℕ) (g : Rights) → meaning (setting_of h sp) m va ≡ found.Page base size f g → ¬ (base ≡ va) → ¬ StartsAt (setting_of h sp) m va
  other_starts base size f g e n a =
      let k = starts_once (setting_of h sp) m va a.address a.size a.frame a.rights a.means in
      let same : base ≡ va = cc in
      n same

  -- an address that is its own base is aligned
  base_aligned : (l : ℕ) → base_of l va ≡ va → va % size_of l ≡ 0
  unfolding base_of
  base_aligned l e = omega (arith, div-add-mod' va (size_of l))

  -- for an address the way decides
  found_by : canonical va ≡ true → find_of h m sp va ≡ found_stopped_of va (way_of h m sp va 4)
  unfolding find_of sought_of
  found_by u = rw (book_names w, u)

  stopped_by : (y : Way) → y.level < 4 → found_stopped_of va y ≡ found_because_of va y y.why
  unfolding found_stopped_of
  stopped_by y u = rw (le-leb y.level 3 (omega arith))

  found_there : (s : PageEntry) → find_of h m sp va ≡ Ok s → FindVerdict
  found_there s f =
      let k = located w (found_at h m sp va s f) in
      there s f (record { address = va; size = s.size; frame = s.frame; rights = k.rights; means = k.means })

  decide : (y : Way) → find_of h m sp va ≡ found_because_of va y y.why → Traced (setting_of h sp) m va 4 y → Because m 4 y → FindVerdict
  unfolding found_because_of page_entry_of starts_of
  decide y f t (at_nothing r g e) =
      missing NothingStarts (f ∙ rw r) (none_starts (comes_address t.comes) (nothing_starts (mean_nothing w.sound.built t.comes (ap (says y.level) (sym t.word) ∙ e))))
  decide y f t (at_table x g r l e) = absurd (omega (arith, t.low))
  decide y f t (at_page x g r l e) = go (ℕ_discrete (va % size_of y.level) 0)
    where
      go : Dec (va % size_of y.level ≡ 0) → FindVerdict
      go (yes a) = found_there (record { way = y; index = index_of y.level va; frame = x; size = size_of y.level }) (f ∙ rw (r, eq-eqb (va % size_of y.level) 0 a, e))
      go (no a) =
          missing NothingStarts (f ∙ rw (r, ne_eqb (va % size_of y.level) 0 a)) (none_starts (comes_address t.comes)
          (other_starts (base_of y.level va) (size_of y.level) x g (mean_page w.sound.built t.comes (ap (says y.level) (sym t.word) ∙ e))
          (λ s. a (base_aligned y.level s))))

  -- FOUND EXACTLY WHERE A PAGE STARTS
  pub verdict : FindVerdict
  unfolding find_of sought_of
  verdict = go (canonical va) refl
    where
      go : (b : Bool) → canonical va ≡ b → FindVerdict
      go true u = let t = way_traced w va u in decide (way_of h m sp va 4) (found_by u ∙ stopped_by (way_of h m sp va 4) t.low) t t.because
      go false u = missing BaseRange (rw (book_names w, u)) (no_address u)
