-- TWO WITNESSES, of any five pages made a pool, with a page mapped there: as it is, no address means a page that is writable and executable; and with
-- a word as older versions of this library wrote it, one does, and the space is whole all the same.
use Prim.Native.Nat.{ℕ}
use mathlib.Core.Bool.{Bool, true≢false}
use mathlib.Core.List.{List}
use mathlib.Core.Path.{◌≡◌, refl, subst}
use Rattle.std.proofs.Common.{Ok}
use lib.ListN.{length}
use Rattle.word.specs.Memory.{memory, holds}
use Rattle.word.specs.Writes.{after}
use Rattle.entry.specs.Entry.{everything}
use Rattle.tables.specs.Roles.{Role}
use Rattle.pool.specs.Booked.{setting_of, new_role}
use Rattle.plan.specs.Map as map
use Rattle.plan.specs.Rights.{write_execute}
use Rattle.plan.specs.Find.{find_of}
use Rattle.plan.specs.declared.finding.PageEntry.{PageEntry}
use Rattle.effect.specs.Whole.{Whole}
use Rattle.effect.specs.StartsAt.{StartsAt}
use Rattle.effect.proofs.ProtectDone.{regranted_done}
use Rattle.effect.proofs.Searching.{nowhere, FindVerdict, there, missing, verdict}
use Rattle.tablepath.specs.Answers.{map_writes}
use Rattle.tablepath.specs.Calls.{call_writes}
use Rattle.tablepath.specs.Calls as calls
use Rattle.tablepath.specs.Strict.{NotBoth, Strict}
use Rattle.tablepath.specs.Witness.{five, page, bytes}
use Rattle.tablepath.proofs.Strict.{create_strict, call_strict}
use Rattle.tablepath.proofs.Witness.{made, start, goes, five_pages}

module _ (s : List ℕ) (e : length s ≡ 20480) where
  abbrev window : ℕ → Bool
  window = holds (bytes s) 0

  -- with the page
  abbrev mapped : ℕ → ℕ
  mapped = after (memory (bytes s) 0) (map.writes_of five (goes s e).0)

  -- STRICT, with three tables and a page
  pub strict_pages : Strict window five mapped
  unfolding call_writes map_writes map.did_of
  strict_pages =
      subst (λ x. Strict window five (after (memory (bytes s) 0) (map.did_of five x))) (goes s e).1
      (call_strict window five (memory (bytes s) 0) (new_role five) (start s e) (calls.map page) (create_strict s 0 0 5 1 (made s e)))

  -- the page's entry
  entry : (p : PageEntry) × (find_of window mapped five 0 ≡ Ok p)
  entry = go (verdict (five_pages s e).1 0)
    where
      starts : StartsAt (setting_of window five) mapped 0
      starts = record { address = 0; size = 4096; frame = 1048576; rights = _; means = (five_pages s e).3 }

      go : FindVerdict (five_pages s e).1 0 → (p : PageEntry) × (find_of window mapped five 0 ≡ Ok p)
      go (there p f a) = (p, f)
      go (missing y f n) = absurd (nowhere (setting_of window five) mapped 0 y n starts)

  -- WHOLE, AND NOT STRICT: the same page, writable and executable
  pub older_tables : (m : ℕ → ℕ) × (role : ℕ → Role) × Whole window five m role × (¬ Strict window five m)
  older_tables =
      let d = regranted_done (five_pages s e).1 0 everything entry.0 entry.1 in
      (_, _, d.whole, λ k. true≢false (unfold NotBoth write_execute in subst NotBoth (d.changed.turns.in_range 0 refl) (k 0)))
