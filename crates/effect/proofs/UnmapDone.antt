-- UNMAP, DONE, from its decision; and that it is decided wherever a page was found.
use Prim.Native.Nat.{ℕ, ◌+◌, ◌^◌, ◌<◌, ◌≤◌}
use mathlib.Core.Bool.{Bool, true, cond}
use mathlib.Core.Logic.{◌⊎◌, inl, inr}
use mathlib.Core.Path.{◌≡◌, refl, sym, ap, ◌∙◌, subst}
use native.Mathlib.Decide.{ℕ_discrete}
use native.Mathlib.Omega.{arith}
use borrow.Author.Tests.{eq-eqb, ne_eqb, le-leb}
use Rattle.std.proofs.Common.{Result, Ok, Err}
use lib.Dec.{eqb}
use Rattle.word.specs.Writes.{after, Every}
use Rattle.tables.specs.Roles.{Role}
use Rattle.walk.specs.declared.Found.TheVariants as found
use Rattle.tables.specs.Operation.{Changed}
use Rattle.tables.proofs.Operation.{changed_sound}
use Rattle.pool.proofs.Alone.{alone_after}
use Rattle.pool.specs.Layout.{book_pages}
use Rattle.pool.specs.Book.{book_of, ticket_of}
use Rattle.pool.specs.Booked.{setting_of, Numbered, tables_of}
use Rattle.pool.specs.Stands.{takes_of}
use Rattle.pool.specs.declared.Space.{Space}
use Rattle.pool.specs.declared.Book.{Book}
use Rattle.pool.proofs.Counting.{is_sound}
use Rattle.pool.proofs.Pages.{adds_up}
use Rattle.pool.proofs.Tickets.{ticket_more}
use Rattle.plan.specs.declared.Reason.{Reason}
use Rattle.plan.specs.declared.finding.PageEntry.{PageEntry}
use Rattle.plan.specs.declared.unmaps.Removal.{Removal}
use Rattle.effect.proofs.WayInPool.{entry_in_pool}
use Rattle.effect.specs.OfPool.{OfPool}
use Rattle.plan.specs.Find.{find_of}
use Rattle.plan.specs.Map.{no_book}
use Rattle.plan.specs.Unmap.{emptied_of, booked_of, open_of, remove_of, removing_of, decide_of, writes_of}
use Rattle.effect.specs.UnmapDone.{aside_more, SetAside, UnmapDone}
use Rattle.effect.specs.Whole.{Whole}
use Rattle.effect.proofs.Cuts.{cuts, cut_roles, risen, last_level, cut_changed, removal, writes_are, cuts_unmarking}
use Rattle.effect.proofs.Emptying.{table_at, level_at, level_at_lem, Emptied, emptied}
use Rattle.plan.proofs.Found.{found_at}
use Rattle.effect.proofs.Located.{Located, located}
use Rattle.effect.proofs.Rising.{Rising}
use Rattle.effect.proofs.Wholes.{book_opens, owned}

-- the book that is read where n tables become empty
pub book_read : (ℕ → ℕ) → Space → ℕ → Book
book_read m sp n = cond (eqb n 0) no_book (book_of m sp)

book_read_lem : (m : ℕ → ℕ) (sp : Space) (n : ℕ) → 0 < n → book_read m sp n ≡ book_of m sp
unfolding book_read
book_read_lem m sp n u = rw (ne_eqb n 0 (omega arith))

-- what was not found is not removed
pub refused_so : (h : ℕ → Bool) (m : ℕ → ℕ) (sp : Space) (va : ℕ) (y : Reason) → find_of h m sp va ≡ Err y → decide_of h m sp va ≡ Err y
unfolding decide_of removing_of
refused_so h m sp va y f = rw f

refusal_clash : (r : Removal) (y : Reason) → Ok r ≡ Err y → ◌≡◌ {A = ℕ} 0 1
refusal_clash r y e = cc

module _ {h : ℕ → Bool} {sp : Space} {m : ℕ → ℕ} {role : ℕ → Role} (w : Whole h sp m role) (va : ℕ) where
  module _ (s : PageEntry) (k : Located (setting_of h sp) m role va s) where
    -- the removal of n tables, all of them
    removed : (n : ℕ) (b : Book) → Emptied h m va s.way n → (0 < n → b ≡ book_of m sp) → ((j : ℕ) → j < n → table_at s.way j < 2 ^ 40)
        → UnmapDone h sp m role va (removal s n b)
    removed n b e f low = record {
      role' = role';
      size_is = k.size_is;
      aligned = rw k.size_is k.aligned;
      had = k.rights;
      before = k.means;
      changed = subst (λ xs. Changed (setting_of h sp) m role va s.way.level found.Nothing xs (after m xs) role') same (cut_changed w va s k n e);
      whole = subst (λ xs. Whole h sp (after m xs) role') same whole;
      proper = subst (Every (OfPool sp)) same d.proper;
      is_low = omega (arith, level_at_lem s.way n, last_level w va s k n e.empty);
      counts = counts;
      ticket = ticket_more sp.pages (book_of m sp) n w.booked.sound (omega (arith, few)) ∙ sym (ap ticket_of counts ∙ omega arith);
      fate = λ p. ticketed p (d.fate p);
      on_way = d.on_way;
      fewer = fewer;
      numbers = subst (λ xs. (p j : ℕ) → Numbered m sp p j → Numbered (after m xs) sp p j) same d.numbers;
    }
      where
        d : Rising h sp m role va s.way.level n (cuts sp m va s.way n) (cut_roles role s.way n) (level_at s.way n) (table_at s.way n)
        d = risen w va s k n e.empty

        role' : ℕ → Role
        role' = cut_roles role s.way n

        same : cuts sp m va s.way n ≡ writes_of sp va (removal s n b)
        same = sym (writes_are w va s k n b e.empty f e.three)

        whole : Whole h sp (after m (cuts sp m va s.way n)) role'
        whole = record { stands = w.stands; small = w.small; sound = changed_sound (cut_changed w va s k n e); booked = d.booked; alone = alone_after sp m (cuts sp m va s.way n) (cuts_unmarking sp m va s.way n low) w.alone }

        -- so many pages more are set aside, and the pool has them
        counts : book_of (after m (writes_of sp va (removal s n b))) sp ≡ aside_more n (book_of m sp)
        counts = subst (λ xs. book_of (after m xs) sp ≡ aside_more n (book_of m sp)) same d.book

        few : (book_of m sp).free + (book_of m sp).aside + n + book_pages sp.pages + 1 ≤ sp.pages
        few = omega (arith, d.booked.sound.room, ap (λ (x : Book). x.free) d.book, ap (λ (x : Book). x.aside) d.book)

        -- the same of the list that is written
        ticketed : (p : ℕ) → (role' p ≡ role p) ⊎ SetAside sp role role' (after m (cuts sp m va s.way n)) (ticket_of (book_of m sp)) (ticket_of (book_of m sp) + n) p
            → (role' p ≡ role p) ⊎ SetAside sp role role' (after m (writes_of sp va (removal s n b))) (ticket_of (book_of m sp)) (ticket_of (book_of m sp) + n) p
        ticketed p (inl o) = inl o
        ticketed p (inr o) =
            inr (record {
              levels = o.levels;
              parent = o.parent;
              index = o.index;
              was = o.was;
              is = o.is;
              number = o.number;
              numbered = subst (λ xs. Numbered (after m xs) sp p o.number) same o.numbered;
              since = o.since;
              below = o.below;
            })

        fewer : tables_of sp role ≡ tables_of sp role' + n
        fewer =
            let a = adds_up (owned w) w.booked in
            let z = adds_up (owned whole) d.booked in
            omega (arith, a, z, ap (λ (x : Book). x.free) d.book, ap (λ (x : Book). x.aside) d.book)

    -- the book has room for them
    takes : (n : ℕ) → Emptied h m va s.way n → takes_of sp (book_of m sp) n ≡ true
    unfolding takes_of
    takes n e =
        let d = risen w va s k n e.empty in
        let room : (book_of m sp).free + (book_of m sp).aside + n + book_pages sp.pages + 1 ≤ sp.pages =
        omega (arith, d.booked.sound.room, ap (λ (x : Book). x.free) d.book, ap (λ (x : Book). x.aside) d.book) in
        simp (is_sound sp.pages (book_of m sp) w.booked.sound, le-leb _ _ room)

    -- and so they are removed
    removes : (n : ℕ) → Emptied h m va s.way n → remove_of h m sp s n ≡ Ok (removal s n (book_read m sp n))
    unfolding remove_of open_of booked_of book_read
    removes n e = go (ℕ_discrete n 0)
      where
        go : Dec (n ≡ 0) → remove_of h m sp s n ≡ Ok (removal s n (book_read m sp n))
        go (yes z) = rw (eq-eqb n 0 z, z)
        go (no z) = rw (ne_eqb n 0 z, book_opens w, takes n e)

    pub unmap_decided : find_of h m sp va ≡ Ok s → decide_of h m sp va ≡ Ok (removal s (emptied_of h m va s.way) (book_read m sp (emptied_of h m va s.way)))
    unfolding decide_of removing_of
    unmap_decided f = rw f (removes (emptied_of h m va s.way) (emptied h m va s.way))

    same_removal : (r x : Removal) → ◌≡◌ {A = Result Removal Reason} (Ok r) (Ok x) → r ≡ x
    same_removal r x e = cc

    unmapped_at : find_of h m sp va ≡ Ok s → (r : Removal) → decide_of h m sp va ≡ Ok r → UnmapDone h sp m role va r
    unmapped_at f r e =
        let n = emptied_of h m va s.way in
        subst (UnmapDone h sp m role va) (same_removal _ r (sym (unmap_decided f) ∙ e))
        (removed n (book_read m sp n) (emptied h m va s.way) (book_read_lem m sp n)
        (λ j u. (entry_in_pool (found_at h m sp va s f)).small j (omega (arith, ((emptied h m va s.way).empty j u).0, level_at_lem s.way j))))

  -- UNMAP, DONE
  pub unmapped : (r : Removal) → decide_of h m sp va ≡ Ok r → UnmapDone h sp m role va r
  unmapped r e = go (find_of h m sp va) refl
    where
      go : (x : Result PageEntry Reason) → find_of h m sp va ≡ x → UnmapDone h sp m role va r
      go (Ok s) f = unmapped_at s (located w (found_at h m sp va s f)) f r e
      go (Err y) f = let z : ◌≡◌ {A = ℕ} 0 1 = refusal_clash r y (sym e ∙ refused_so h m sp va y f) in absurd (omega arith)
