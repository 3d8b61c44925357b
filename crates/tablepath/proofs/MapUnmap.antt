-- MAP, THEN UNMAP, in the bytes: unmap answers the frame and the size that were mapped.
use Prim.Native.Nat.{ℕ, ◌<◌}
use mathlib.Core.List.{List}
use mathlib.Core.Path.{◌≡◌, sym, ◌∙◌}
use native.Mathlib.Omega.{arith}
use Rattle.std.proofs.Common.{Ok}
use Rattle.word.specs.Memory.{memory, holds}
use Rattle.walk.proofs.Digits.{size_pos}
use Rattle.walk.specs.declared.Found.TheVariants.{Page}
use Rattle.tables.specs.Roles.{Role}
use Rattle.pool.specs.Booked.{setting_of}
use Rattle.pool.specs.declared.Space.{Space}
use Rattle.plan.specs.declared.maps.Asked.{Asked}
use Rattle.effect.specs.StartsAt.{StartsAt}
use Rattle.tablepath.specs.Answers.{map_answer, unmap_answer}
use Rattle.tablepath.specs.declared.Gone.{Gone}
use Rattle.tablepath.specs.Looks.{in_window, look_up, WholeBytes, with_page}
use Rattle.tablepath.proofs.Means.{map_means, unmap_means}
use Rattle.tablepath.proofs.RoundTrips.{look_up_after_map}

module _ (s : List ℕ) (sp : Space) (role : ℕ → Role) (w : WholeBytes s sp role) (q : Asked) (k : ℕ)
    (done : in_window s sp.origin map_answer sp q ≡ Ok k) where
  -- what holds after the map
  still : (role' : ℕ → Role) × WholeBytes (with_page s sp q) sp role'
  still = (map_means s sp q).kept role w

  -- what map takes is no empty range
  wide : 0 < q.size
  wide = let d = ((map_means s sp q).says role w).made k done in omega (arith, d.fitted.size_is, size_pos d.level)

  at_base : look_up (with_page s sp q) sp q.base ≡ Page q.base q.size q.frame q.rights
  at_base = look_up_after_map s sp role w q k done q.base (omega arith, omega (arith, wide))

  -- UNMAP AFTER MAP answers what was mapped
  pub unmap_after_map : (g : Gone) × (in_window (with_page s sp q) sp.origin unmap_answer sp q.base ≡ Ok g) × (g.frame ≡ q.frame) × (g.size ≡ q.size)
  unmap_after_map =
      let starts : StartsAt (setting_of (holds (with_page s sp q) sp.origin) sp) (memory (with_page s sp q) sp.origin) q.base =
      record { address = q.base; size = q.size; frame = q.frame; rights = q.rights; means = at_base } in
      let u = (unmap_means (with_page s sp q) sp q.base).says still.0 still.1 in
      let g = u.done.1 starts in
      let there = u.gone g.0 g.1 in
      let same : Page q.base q.size q.frame q.rights ≡ Page q.base g.0.size g.0.frame there.had = sym at_base ∙ there.before in
      (g.0, g.1, cc, cc)
