-- PROTECT, DONE, from its decision.
use Prim.Native.Nat.{ℕ, ◌+◌, ◌*◌, ◌/◌, ◌%◌, ◌^◌, ◌<◌}
use mathlib.Core.Bool.{Bool}
use mathlib.Core.List.{List, [], ◌∷◌}
use mathlib.Core.Path.{◌≡◌, refl, sym, ap, ◌∙◌, subst, subst₂}
use native.Mathlib.Omega.{arith}
use Rattle.std.proofs.Common.{Result, Ok, Err}
use Rattle.plan.specs.declared.Reason.{Reason}
use Rattle.word.specs.Writes.{Write, write, after, Every}
use Rattle.word.proofs.Writes.{every_one}
use Rattle.entry.specs.Entry.{says}
use Rattle.entry.specs.Words.{with_rights}
use Rattle.entry.specs.Pat.{PatClear}
use Rattle.entry.specs.Kept.{regranted}
use Rattle.entry.specs.declared.Rights.{Rights}
use Rattle.entry.specs.declared.Entry.TheVariants as entry
use Rattle.entry.proofs.Pat.{rights_pat}
use Rattle.entry.proofs.Written.{flag_lt}
use Rattle.entry.proofs.OtherRights.{with_rights_says, with_rights_kept, with_rights_marks}
use Rattle.walk.specs.Walk.{index_of}
use Rattle.walk.specs.declared.Found.TheVariants as found
use Rattle.walk.proofs.Digits.{index_lt}
use Rattle.tables.specs.Roles.{Role}
use Rattle.tables.specs.Operation.{Changed}
use Rattle.tables.proofs.Operation.{changed_sound}
use Rattle.tables.proofs.Down.{protect_done}
use Rattle.pool.specs.Book.{book_of, ticket_in}
use Rattle.pool.proofs.Alone.{unmarking_one, alone_after}
use Rattle.pool.specs.Booked.{setting_of}
use Rattle.pool.specs.declared.Space.{Space}
use Rattle.pool.proofs.Booked.{Beside, book_beside, numbered_beside, booked_beside}
use Rattle.pool.proofs.Counting.{InPool}
use Rattle.pool.proofs.Tickets.{ticket_sound}
use Rattle.plan.specs.declared.finding.PageEntry.{PageEntry}
use Rattle.plan.specs.declared.protects.Change.{Change}
use Rattle.plan.specs.Find.{find_of}
use Rattle.plan.specs.Protect.{change_of, changing_of, decide_of, writes_of}
use Rattle.effect.proofs.Unmarking.{page_unmarked}
use Rattle.effect.specs.ProtectDone.{ProtectDone}
use Rattle.effect.specs.Whole.{Whole}
use Rattle.plan.proofs.Found.{found_at}
use Rattle.plan.proofs.Strictly.{protect_strict}
use Rattle.effect.proofs.Located.{Located, located}
use Rattle.effect.proofs.Wholes.{live_in, in_beside, in_of_pool}

-- a word with other rights is a word
pub with_rights_lt : (w : ℕ) (r : Rights) → with_rights w r < 2 ^ 64
unfolding with_rights
with_rights_lt w r = numbers w _ _ _ (flag_lt r.writable) (flag_lt r.user) (flag_lt r.noexec)
  where
    numbers : (w a b x : ℕ) → a < 2 → b < 2 → x < 2 → w % 2 + 2 * a + 4 * b + 8 * (w / 8 % 2 ^ 60) + 2 ^ 63 * x < 2 ^ 64
    numbers w a b x u v y = omega arith

-- the change that a decision is
decided : (h : ℕ → Bool) (m : ℕ → ℕ) (sp : Space) (va : ℕ) (r : Rights) (c : Change) → decide_of h m sp va r ≡ Ok c
    → (s : PageEntry) × (find_of h m sp va ≡ Ok s) × (change_of va s r (ticket_in (book_of m sp)) ≡ c)
unfolding changing_of
decided h m sp va r c e = go (find_of h m sp va) refl (protect_strict h m sp va r c e).1
  where
    go : (x : Result PageEntry Reason) → find_of h m sp va ≡ x → changing_of m sp va r x ≡ Ok c
        → (s : PageEntry) × (find_of h m sp va ≡ Ok s) × (change_of va s r (ticket_in (book_of m sp)) ≡ c)
    go (Ok s) f k = (s, f, cc)
    go (Err y) f k = let z : ◌≡◌ {A = ℕ} 0 1 = cc in absurd (omega arith)

module _ {h : ℕ → Bool} {sp : Space} {m : ℕ → ℕ} {role : ℕ → Role} (w : Whole h sp m role) (va : ℕ) (r : Rights) where
  changes : (s : PageEntry) → Located (setting_of h sp) m role va s → ProtectDone h sp m role va r (change_of va s r (ticket_in (book_of m sp)))
  unfolding change_of writes_of after
  changes s k = record {
    level = l;
    size_is = k.size_is;
    aligned = rw k.size_is k.aligned;
    had = k.rights;
    before = k.means;
    changed = done;
    whole = record { stands = w.stands; small = w.small; sound = changed_sound done; booked = booked_beside sp m xs beside w.booked; alone = alone_after sp m xs (unmarking_one q i v (page_unmarked l v _ _ says_it)) w.alone };
    kept = rw (← k.traced.word) (with_rights_kept s.way.word r);
    marks = rw (← k.traced.word) (with_rights_marks s.way.word r);
    proper = every_one q i v (in_of_pool here) (index_lt l va) (with_rights_lt s.way.word r);
    book = book_beside sp m xs beside;
    ticket = ticket_sound sp.pages (book_of m sp) w.booked.sound;
    numbers = numbered_beside sp m xs beside w.booked;
  }
    where
      l : ℕ
      l = s.way.level

      q : ℕ
      q = s.way.a

      i : ℕ
      i = index_of l va

      v : ℕ
      v = with_rights s.way.word r

      xs : List Write
      xs = write q i v ∷ []

      here : InPool sp q
      here = live_in w k.live

      beside : Every (Beside sp) xs
      beside = every_one q i v (in_beside here) (index_lt l va) (with_rights_lt s.way.word r)

      says_it : says l v ≡ entry.Page s.frame r
      says_it = with_rights_says l s.way.word r ∙ ap (regranted r) (ap (says l) k.traced.word ∙ k.entry) ∙ unfold regranted in refl

      pat_it : PatClear l v
      pat_it = rights_pat l s.way.word r (subst (PatClear l) (sym k.traced.word) (w.sound.built.pat q l i k.live (index_lt l va)))

      done : Changed (setting_of h sp) m role va l (found.Page va s.size s.frame r) xs (after m xs) role
      done = subst₂ (λ x y. Changed (setting_of h sp) m role va l (found.Page x y s.frame r) xs (after m xs) role) k.base (sym k.size_is)
          (protect_done v s.frame k.rights r w.sound k.comes k.entry says_it pat_it)

  -- a page that is found could be given any rights, as an older version of this library did: the space would be whole all the same
  pub regranted_done : (s : PageEntry) → find_of h m sp va ≡ Ok s → ProtectDone h sp m role va r (change_of va s r (ticket_in (book_of m sp)))
  regranted_done s f = changes s (located w (found_at h m sp va s f))

  -- PROTECT, DONE
  pub protected : (c : Change) → decide_of h m sp va r ≡ Ok c → ProtectDone h sp m role va r c
  protected c e =
      let d = decided h m sp va r c e in
      subst (ProtectDone h sp m role va r) d.2 (regranted_done d.0 d.1)
