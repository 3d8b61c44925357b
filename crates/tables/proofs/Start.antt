-- At first, with an empty root and no table, the invariant holds.
use Prim.Native.Nat.{ℕ, suc, ◌<◌}
use mathlib.Core.Path.{◌≡◌, refl, ap, ◌∙◌}
use native.Mathlib.Omega.{arith}
use Rattle.word.specs.Memory.{at}
use Rattle.entry.specs.Entry.{table_of}
use Rattle.entry.specs.declared.Entry.TheVariants.{Nothing}
use Rattle.entry.proofs.Pat.{nothing_pat}
use Rattle.tables.specs.Roles.{Setting, Role, foreign, free, aside, book, root, table, left, Live, entry_at, Sound, Zero}
use Rattle.tables.proofs.Kept.{zero_bare}
use Rattle.tables.specs.Start.{NewRoles}

pub fresh_sound : {σ : Setting} {role : ℕ → Role} (m : ℕ → ℕ) → NewRoles σ role → Zero m (table_of σ.cr3) → Sound σ m role
fresh_sound {σ} {role} m f z = record {
  built = record {
    home = f.home;
    whole = f.whole;
    starts = f.starts;
    alone = f.alone;
    down = λ q l i t g h u e. let k : ◌≡◌ {A = ℕ} 0 1 = cc (nothing q l i h u) in absurd (omega arith);
    up = λ p l q i e. absurd (f.bare p l q i e);
    low = λ p l q i e. absurd (f.bare p l q i e);
    zeros = λ q l i h u e. ap (λ x. m (at x i)) (only q l h) ∙ z i u;
    apart = λ q l i x g h u e. let k : ◌≡◌ {A = ℕ} 0 1 = cc (nothing q l i h u) in absurd (omega arith);
    pat = λ q l i h u. nothing_pat l _ (nothing q l i h u);
  };
  filled = λ p l q i e. absurd (f.bare p (suc l) q i e);
}
  where
    -- the only page that walks come to is the root's
    only : (q l : ℕ) → Live role q l → q ≡ table_of σ.cr3
    only q l h = go (role q) refl
      where
        go : (r : Role) → role q ≡ r → q ≡ table_of σ.cr3
        go foreign e = absurd (omega (arith, h, ap left e))
        go free e = absurd (omega (arith, h, ap left e))
        go aside e = absurd (omega (arith, h, ap left e))
        go book e = absurd (omega (arith, h, ap left e))
        go root e = f.alone q e
        go (table n t i) e = absurd (f.bare q n t i e)

    nothing : (q l i : ℕ) → Live role q l → i < 512 → entry_at m l q i ≡ Nothing
    nothing q l i h u = ap (λ x. entry_at m l x i) (only q l h) ∙ zero_bare m (suc l) (table_of σ.cr3) z l i refl u
