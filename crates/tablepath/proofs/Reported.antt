-- A table that is set aside is named by nothing, and read by no walk that begins now.
use Prim.Native.Nat.{ℕ, ◌<◌}
use mathlib.Core.Bool.{Bool}
use mathlib.Core.Path.{◌≡◌, ap, ◌∙◌}
use native.Mathlib.Omega.{arith}
use Rattle.word.specs.Memory.{at}
use Rattle.word.proofs.Writes.{page_of}
use Rattle.entry.specs.declared.Rights.{Rights}
use Rattle.entry.specs.declared.Entry.TheVariants.{Table}
use Rattle.world.specs.Walker.{Reads}
use Rattle.tables.specs.Roles.{Role, left, Live, entry_at}
use Rattle.tables.specs.Discipline.{walker_of}
use Rattle.tables.proofs.Discipline.{unread}
use Rattle.pool.specs.Booked.{setting_of, Numbered}
use Rattle.pool.specs.declared.Space.{Space}
use Rattle.effect.specs.Whole.{Whole}
use Rattle.tablepath.proofs.Serving.{numbered_aside}

module _ (h : ℕ → Bool) (sp : Space) (m : ℕ → ℕ) (role : ℕ → Role) (w : Whole h sp m role) (p n : ℕ) (numbered : Numbered m sp p n) where
  -- no entry of a table names it
  pub unnamed : (q l i : ℕ) (g : Rights) → Live role q l → i < 512 → ¬ (entry_at m l q i ≡ Table p g)
  unnamed q l i g live u e =
      let named = (w.sound.built.down q l i p g live u e).0 in
      let z : ◌≡◌ {A = ℕ} 0 1 = cc (numbered_aside w.booked p n numbered, named) in
      omega arith

  -- no walk that begins now reads a word of it
  pub unwalked : (i va : ℕ) → i < 512 → ¬ Reads (walker_of (setting_of h sp)) m va ((walker_of (setting_of h sp)).start va) (at p i)
  unwalked i va u = unread w.sound.built (at p i) (ap left (ap role (page_of p i u) ∙ numbered_aside w.booked p n numbered)) va
